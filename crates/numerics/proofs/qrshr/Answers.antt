use Rattle.std.proofs.Common.{rules, ◌≡◌, ℕ, w32, pos, to_z, of_z, ℤ}
use mathlib.Core.Path.{refl}
use mir.Syntax.{w16}
use Rattle.std.specs.Int.{int_max}
use Rattle.std.specs.Int.Signed.{lt_z, shr_z}
use Rattle.numerics.specs.Signed.{min_z, cut}
use Rattle.numerics.proofs.Signed.{min_is, cut_is, nat_is, leaf_value, leaf_below, leaf_above, flag_is}
use Rattle.numerics.proofs.qrshr.Goals as goal

pub returns : goal.returns
returns c =
    let max : ℕ = c.args.max in
    let a : ℤ = shr_z c.args.sum 8192 in
    let z : to_z w32 (of_z w32 (shr_z (to_z w32 (of_z w32 c.args.sum)) 8192)) ≡ a = search rules in
    let q : to_z w16 (of_z w16 (to_z w32 (of_z w32 c.clamp-q.result))) ≡ c.clamp-q.result = search rules in
    let b : to_z w16 (of_z w16 c.min-least.result) ≡ c.min-least.result = search rules in
    let d : to_z w16 (of_z w16 c.max.result) ≡ c.max.result = search rules in
    let m : to_z w16 c.args.max ≡ pos max = search rules in
    let e : c.clamp-q.result ≡ cut a = rw (c.clamp-q.ensures.value, z) (cut_is a) in
    let l : c.min-least.result ≡ min_z (cut a) (pos max) = rw (c.min-least.ensures.value, q, e, m) (min_is (cut a) (pos max)) in
    let x : c.max.result ≡ int_max (min_z (cut a) (pos max)) (pos 0) = rw (c.max.ensures.value, b, l) refl in
    let least : ℤ = min_z (cut a) (pos max) in
    rw (
      d,
      b,
      q,
      m,
      x,
      l,
      e,
      nat_is least,
      flag_is (lt_z least (pos 0)),
      flag_is (lt_z (pos max) (cut a)),
      leaf_value max c.requires a,
      leaf_below max c.requires a,
      leaf_above max c.requires a,
    ) refl
