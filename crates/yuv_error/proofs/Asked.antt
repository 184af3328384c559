-- The error of the first question that gets a "no", told by its numbers, is the verdict.
-- Assumes nothing.
use Rattle.std.proofs.Common.{◌≡◌, refl, sym, Bool, true, false, List, [], ◌∷◌, ◌++◌, cond, Result, Ok, Err, IfOk}
use lib.Lanes.{Each1}
use Rattle.yuv_support.specs.Questions.{Question, verdict}
use Rattle.yuv_error.specs.declared.error.YuvError.{YuvError}
use Rattle.yuv_error.specs.Told.{told, answered, answered_or}
use Rattle.yuv_error.specs.Asked.{error_of, asked, giving, Precedes}

-- the error of each question has the question's number and sizes
abbrev pub AllTold : List Question → Type 0
AllTold = Each1 (λ q. told (error_of q) ≡ record { number = q.number; expected = q.expected; received = q.received })

pub precedes : {T : Type 0} (x : T) (qs : List Question) → AllTold qs → Precedes (giving (asked qs) x) qs
unfolding verdict asked
precedes x [] h more = refl
precedes x (q ∷ qs) h more = go q.holds (precedes x qs h.1 more)
  where
    go : (b : Bool) → verdict (qs ++ more) ≡ answered_or (giving (asked qs) x) (verdict more)
        → cond b (verdict (qs ++ more)) (record { number = q.number; expected = q.expected; received = q.received })
        ≡ answered_or (giving (cond b (asked qs) (Err (error_of q))) x) (verdict more)
    go true e = e
    go false e = sym h.0

pub asked_answered : {T : Type 0} (x : T) (qs : List Question) → AllTold qs → answered (giving (asked qs) x) ≡ verdict qs
unfolding verdict asked
asked_answered x [] h = refl
asked_answered x (q ∷ qs) h = go q.holds (asked_answered x qs h.1)
  where
    go : (b : Bool) → answered (giving (asked qs) x) ≡ verdict qs
        → answered (giving (cond b (asked qs) (Err (error_of q))) x)
        ≡ cond b (verdict qs) (record { number = q.number; expected = q.expected; received = q.received })
    go true e = e
    go false e = h.0

-- what an accepted call gives
pub gives : {T : Type 0} (a : Result (Unit {0}) YuvError) (x : T) {r : Result T YuvError} → r ≡ giving a x → IfOk r (λ y. y ≡ x)
gives (Ok u) x e = rw e refl
gives (Err why) x e = rw e tt
