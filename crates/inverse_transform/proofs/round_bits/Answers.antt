use mathlib.Core.Path.{◌≡◌, sym, ap, ◌∙◌}
use mathlib.Core.Bool.{false}
use Prim.Native.Nat.{ℕ, ◌+◌, ◌-◌, ◌/◌, ◌%◌}
use native.Mathlib.Omega.{arith}
use lib.Ieee.{binary32, of_fields}
use Rattle.yuv_support.specs.Coefficients.{round_away}
use Rattle.inverse_transform.proofs.Rounding.{small, middle, large, whole, sign_set, sign_clear, fields_of_number}
use Rattle.inverse_transform.proofs.round_bits.Goals as goal

pub returns-then-bits-ge2147483648 : goal.returns-then-bits-ge2147483648
returns-then-bits-ge2147483648 c = sym (sign_set c.args.bits c.if-bits-ge2147483648.true)

pub returns-then-exponent-lt126 : goal.returns-then-exponent-lt126
returns-then-exponent-lt126 c =
    let b = c.args.bits in
    sym (ap round_away (sign_clear b c.if-bits-ge2147483648.false) ∙ small (b / 8388608) (b % 8388608) c.if-exponent-lt126.true (omega arith))

pub returns-then-exponent-ge158 : goal.returns-then-exponent-ge158
returns-then-exponent-ge158 c =
    let b = c.args.bits in
    let l = c.if-bits-ge2147483648.false in
    sym (ap round_away (sign_clear b l) ∙ large (b / 8388608) (b % 8388608) c.if-exponent-ge158.true (omega arith) (fields_of_number b l c.requires))

pub returns : goal.returns
returns c =
    let b = c.args.bits in
    let e : b / 8388608 - 126 + 126 ≡ b / 8388608 = omega arith in
    sym
    (ap round_away (sign_clear b c.if-bits-ge2147483648.false)
    ∙ ap (λ (x : ℕ). round_away (of_fields binary32 false x (b % 8388608))) (sym e)
    ∙ middle (b / 8388608 - 126) (b % 8388608) (omega arith) (omega arith)
    ∙ whole (b / 8388608 - 126) (b % 8388608) (omega arith) (omega arith))
