-- Number, expected and received of each error, as documents 01 and 02 number the questions; of an accepted call all three are 0. And the
-- records of numbers that an answer is handed out by.
-- Definitions only.
use Rattle.std.specs.Prelude.{ℕ, ◌+◌, Result, Ok, Err}
use Rattle.yuv_support.specs.declared.Clipped.{Clipped}
use Rattle.yuv_support.specs.Counts.{unclipped}
use Rattle.yuv_support.specs.Questions.{Verdict, accepted, refused}
use Rattle.yuv_error.specs.declared.error.MismatchedSize.{MismatchedSize}
use Rattle.yuv_error.specs.declared.error.YuvError.{YuvError}
use Rattle.yuv_error.specs.declared.error.YuvError.TheVariants.{
  UnknownSampling,
  UnknownCode,
  ZeroBaseSize,
  PointerOverflow,
  DestinationSizeMismatch,
  MinimumStrideSizeMismatch,
  LumaPlaneMinimumSizeMismatch,
  LumaPlaneSizeMismatch,
  UPlaneMinimumSizeMismatch,
  UPlaneSizeMismatch,
  VPlaneMinimumSizeMismatch,
  VPlaneSizeMismatch,
  UnusableWeights,
  RowOutside,
  MalformedStream,
  UnknownStream,
  ShortFrame,
  UnusableFirstRow,
  UnusablePlane,
}
use Rattle.yuv_error.specs.declared.report.Told.{Told}
use Rattle.yuv_error.specs.declared.report.Report.{Report}
use Rattle.yuv_error.specs.declared.report.Band.{Band}
use Rattle.yuv_error.specs.declared.report.BandReport.{BandReport}

-- an error that names the sizes
abbrev pub mismatched : ℕ → MismatchedSize → Verdict
mismatched number size = record { number = number; expected = size.expected; received = size.received }

abbrev pub told : YuvError → Verdict
told UnknownSampling = refused 1
told UnknownCode = refused 2
told ZeroBaseSize = refused 3
told PointerOverflow = refused 4
told (DestinationSizeMismatch size) = mismatched 5 size
told (MinimumStrideSizeMismatch size) = mismatched 6 size
told (LumaPlaneMinimumSizeMismatch size) = mismatched 7 size
told (LumaPlaneSizeMismatch size) = mismatched 8 size
told (UPlaneMinimumSizeMismatch size) = mismatched 9 size
told (UPlaneSizeMismatch size) = mismatched 10 size
told (VPlaneMinimumSizeMismatch size) = mismatched 11 size
told (VPlaneSizeMismatch size) = mismatched 12 size
told UnusableWeights = refused 13
told RowOutside = refused 14
told MalformedStream = refused 16
told UnknownStream = refused 17
told ShortFrame = refused 18
told UnusableFirstRow = refused 19
told UnusablePlane = refused 22

-- the answer of a call, told as a number, expected and received
abbrev pub answered : {T : Type 0} → Result T YuvError → Verdict
answered (Ok x) = accepted
answered (Err e) = told e

-- the same where more questions follow: theirs is the answer unless this one is refused
abbrev pub answered_or : {T : Type 0} → Result T YuvError → Verdict → Verdict
answered_or (Ok x) rest = rest
answered_or (Err e) rest = told e

-- what a conversion clipped; a refused one clips nothing
abbrev pub clipped_of : Result Clipped YuvError → Clipped
clipped_of (Ok clipped) = clipped
clipped_of (Err e) = unclipped

-- what a band clipped and how many rows it wrote; a refused one writes none
abbrev pub band_clipped_of : Result Band YuvError → Clipped
band_clipped_of (Ok b) = b.clipped
band_clipped_of (Err e) = unclipped

abbrev pub rows_of : Result Band YuvError → ℕ
rows_of (Ok b) = b.rows
rows_of (Err e) = 0

-- the next first row of a band from row `first` on; that of a refused one is its own
abbrev pub next_of : ℕ → Result Band YuvError → ℕ
next_of first (Ok b) = b.next
next_of first (Err e) = first

-- ---- the numbers as the structs that are handed out

abbrev pub as_told : Verdict → Told
as_told v = record { number = v.number; expected = v.expected; received = v.received }

-- number, expected, received, below and above of a conversion's answer
abbrev pub as_report : Verdict → Clipped → Report
as_report v c = record { number = v.number; expected = v.expected; received = v.received; below = c.below; above = c.above }

-- of a band's answer also the rows written and the next first row
abbrev pub band_numbers : Verdict → Clipped → ℕ → ℕ → BandReport
band_numbers v c rows next = record {
  number = v.number;
  expected = v.expected;
  received = v.received;
  below = c.below;
  above = c.above;
  rows = rows;
  next = next;
}

-- the next first row is the one after the rows written
abbrev pub as_band_report : Verdict → Clipped → ℕ → ℕ → BandReport
as_band_report v c first rows = band_numbers v c rows (first + rows)
