-- Laws of an answer that is there where a condition holds, and missing where it does not.
-- Assumes nothing.
use mathlib.Core.Path.{◌≡◌, refl}
use mathlib.Core.Bool.{Bool, true, false, cond}
use Rattle.std.specs.Prelude.{Some, None}

pub some_met : {X : Type 0} (t : Bool) (a x : X) → cond t (Some a) None ≡ Some x → (t ≡ true) × (x ≡ a)
some_met true a x e = (refl, cc)
some_met false a x e = absurd (cc)

pub none_unmet : {X : Type 0} (t : Bool) (a : X) → cond t (Some a) None ≡ None → t ≡ false
none_unmet true a e = absurd (cc)
none_unmet false a e = refl
