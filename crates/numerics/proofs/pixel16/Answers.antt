use mathlib.Core.Path.{◌∙◌}
use Rattle.numerics.specs.Kernel.{below_at, above_at}
use Rattle.numerics.proofs.pixel16.Goals as goal

pub returns : goal.returns
unfolding below_at above_at
returns c =
    c.joined.ensures ∙ rw (c.outer16-a.ensures, c.inner16-b.ensures, c.outer16-c.ensures, c.requires.offset)
