use native.Mathlib.Nat.{mul-pos}
use native.Mathlib.Omega.{arith}
use Rattle.built_coefficients.proofs.Fits.{inner_fits, inner_below}
use Rattle.built_coefficients.proofs.inner.Goals as goal

pub to_nearest-requires : goal.to_nearest-requires
to_nearest-requires c =
    let a = c.args in
    let r = c.requires in
    (mul-pos (omega arith) a.uv.at_most_two.0, inner_below a.kg a.uv.range r.2 (omega arith), inner_fits a.k a.kg a.uv.max a.uv.range r.0 a.uv.at_most_two.1)
