-- Questions asked one after the other: the error of the first that gets a "no".
-- Definitions only.
use Rattle.std.specs.Prelude.{◌≡◌, ℕ, cond, eqb, Result, Ok, Err, List, [], ◌∷◌, ◌++◌}
use Rattle.yuv_support.specs.Questions.{Question, verdict}
use Rattle.yuv_error.specs.Told.{answered_or}
use Rattle.yuv_error.specs.declared.buffers.Channel.{Channel}
use Rattle.yuv_error.specs.declared.buffers.Channel.TheVariants.{Y, U, V}
use Rattle.yuv_error.specs.declared.error.MismatchedSize.{MismatchedSize}
use Rattle.yuv_error.specs.declared.error.YuvError.{YuvError}
use Rattle.yuv_error.specs.declared.error.YuvError.TheVariants.{
  UnknownSampling,
  UnknownCode,
  ZeroBaseSize,
  PointerOverflow,
  DestinationSizeMismatch,
  MinimumStrideSizeMismatch,
  LumaPlaneMinimumSizeMismatch,
  LumaPlaneSizeMismatch,
  UPlaneMinimumSizeMismatch,
  UPlaneSizeMismatch,
  VPlaneMinimumSizeMismatch,
  VPlaneSizeMismatch,
  UnusableWeights,
  RowOutside,
  MalformedStream,
  UnknownStream,
  ShortFrame,
  UnusableFirstRow,
  UnusablePlane,
}

-- the error of a question's number
abbrev pub named : ℕ → MismatchedSize → YuvError
named n size =
    cond (eqb n 1) UnknownSampling
    (cond (eqb n 2) UnknownCode
    (cond (eqb n 3) ZeroBaseSize
    (cond (eqb n 4) PointerOverflow
    (cond (eqb n 5) (DestinationSizeMismatch size)
    (cond (eqb n 6) (MinimumStrideSizeMismatch size)
    (cond (eqb n 7) (LumaPlaneMinimumSizeMismatch size)
    (cond (eqb n 8) (LumaPlaneSizeMismatch size)
    (cond (eqb n 9) (UPlaneMinimumSizeMismatch size)
    (cond (eqb n 10) (UPlaneSizeMismatch size)
    (cond (eqb n 11) (VPlaneMinimumSizeMismatch size)
    (cond (eqb n 12) (VPlaneSizeMismatch size)
    (cond (eqb n 13) UnusableWeights
    (cond (eqb n 14) RowOutside
    (cond (eqb n 16) MalformedStream
    (cond (eqb n 17) UnknownStream
    (cond (eqb n 18) ShortFrame
    (cond (eqb n 19) UnusableFirstRow UnusablePlane)))))))))))))))))

abbrev pub error_of : Question → YuvError
error_of q = named q.number (record { expected = q.expected; received = q.received })

-- the number of a plane's first question; the second's is one more
abbrev pub first_question : Channel → ℕ
first_question Y = 7
first_question U = 9
first_question V = 11

-- the error of the first question that gets a "no"
unfoldable pub asked : List Question → Result (Unit {0}) YuvError
asked [] = Ok tt
asked (q ∷ qs) = cond q.holds (asked qs) (Err (error_of q))

-- what an accepted call gives
abbrev pub giving : {T : Type 0} → Result (Unit {0}) YuvError → T → Result T YuvError
giving (Ok u) x = Ok x
giving (Err e) x = Err e

-- where questions follow these: theirs is the answer, unless this one is an error
abbrev pub Precedes : {T : Type 0} → Result T YuvError → List Question → Type 0
Precedes r qs = (more : List Question) → verdict (qs ++ more) ≡ answered_or r (verdict more)
