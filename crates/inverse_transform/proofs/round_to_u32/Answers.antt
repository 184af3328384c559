use mathlib.Core.Path.{◌≡◌, refl, sym, ap, ◌∙◌, subst}
use mathlib.Core.Bool.{true, false}
use lib.Dec.{T}
use lib.Ieee.{Float, nan, inf, fin, binary32, is_nan}
use lib.Ieee.Bits.{of_bits-to_bits, nan_bits_is}
use Rattle.yuv_support.specs.Coefficients.{round_away}
use Rattle.inverse_transform.proofs.round_to_u32.Goals as goal

of_nan : (x : Float) → is_nan x ≡ true → 0 ≡ round_away x
unfolding round_away is_nan
of_nan nan e = refl
of_nan (inf s) e = absurd (cc)
of_nan (fin s m d) e = absurd (cc)

pub returns-then-is_nan : goal.returns-then-is_nan
returns-then-is_nan c = of_nan c.args.x (sym c.is_nan.ensures.value ∙ c.if-is_nan.true)

pub round_bits-requires : goal.round_bits-requires
round_bits-requires c =
    let x = c.args.x in
    let e : is_nan x ≡ false = sym c.is_nan.ensures.value ∙ c.if-is_nan.false in
    rw (nan_bits_is binary32, of_bits-to_bits binary32 x (subst T (sym c.well_formed.0.1) tt), e) tt

pub returns : goal.returns
returns c =
    let x = c.args.x in
    c.round_bits.ensures ∙ ap round_away (of_bits-to_bits binary32 x (subst T (sym c.well_formed.0.1) tt))
