use mir.Syntax.{w32}
use mir.ValLaws.{to_z-of_z}
use Rattle.yuv_support.specs.Component.{step}
use Rattle.numerics.proofs.Signed.{step_fits, step_read}
use Rattle.numerics.proofs.signed_product.Goals as goal

pub returns : goal.returns
returns c =
    let a = c.args in
    rw (step_read a.k a.x a.bias c.requires.0 c.requires.1 c.requires.2)
    (to_z-of_z w32 (step a.k a.x a.bias) (step_fits a.k a.x a.bias c.requires.0 c.requires.1 c.requires.2))
