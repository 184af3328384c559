-- The questions of a conversion: each one's error has its number and sizes, so the error of the first "no", told by its numbers, is the verdict.
-- Assumes nothing.
use Rattle.std.proofs.Common.{◌≡◌, refl, Bool, List, ◌++◌}
use Rattle.yuv_support.specs.Questions.{Question, Request, verdict, questions_of}
use Rattle.yuv_error.specs.Told.{answered, answered_or}
use Rattle.yuv_error.specs.Asked.{asked, giving}
use Rattle.yuv_error.proofs.Asked.{AllTold, precedes, asked_answered}

all_told : (known : Bool) (q : Request) → AllTold (questions_of known q)
unfolding questions_of
all_told known q = (refl, (refl, (refl, (refl, (refl, (refl, (refl, (refl, (refl, (refl, (refl, (refl, (refl, tt)))))))))))))

-- of a conversion
pub conversion_answered : {T : Type 0} (x : T) (known : Bool) (q : Request) → answered (giving (asked (questions_of known q)) x) ≡ verdict (questions_of known q)
conversion_answered x known q = asked_answered x (questions_of known q) (all_told known q)

pub conversion_precedes : {T : Type 0} (x : T) (known : Bool) (q : Request) (more : List Question)
    → verdict (questions_of known q ++ more) ≡ answered_or (giving (asked (questions_of known q)) x) (verdict more)
conversion_precedes x known q = precedes x (questions_of known q) (all_told known q)
