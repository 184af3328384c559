use mathlib.Core.Path.{◌∙◌}
use Rattle.inverse_transform.proofs.Narrow.{narrow}
use Rattle.kernel.specs.Kernels.{kernel_of}
use Rattle.kernel.proofs.settings_kernel.Goals as goal

pub kernel_of-requires : goal.kernel_of-requires
kernel_of-requires c = record { known_depth = c.requires.0; narrow = rw c.search_inverse_transform-t.ensures (narrow c.args.s c.requires.0 c.requires.1) }

pub returns : goal.returns
unfolding kernel_of
returns c = c.kernel_of.ensures ∙ rw c.search_inverse_transform-t.ensures
