-- No error has the number 0.
-- Assumes nothing.
use Rattle.std.proofs.Common.{◌≡◌, refl, false, eqb}
use Rattle.yuv_error.specs.declared.error.YuvError.{YuvError}
use Rattle.yuv_error.specs.declared.error.YuvError.TheVariants.{
  UnknownSampling,
  UnknownCode,
  ZeroBaseSize,
  PointerOverflow,
  DestinationSizeMismatch,
  MinimumStrideSizeMismatch,
  LumaPlaneMinimumSizeMismatch,
  LumaPlaneSizeMismatch,
  UPlaneMinimumSizeMismatch,
  UPlaneSizeMismatch,
  VPlaneMinimumSizeMismatch,
  VPlaneSizeMismatch,
  UnusableWeights,
  RowOutside,
  MalformedStream,
  UnknownStream,
  ShortFrame,
  UnusableFirstRow,
  UnusablePlane,
}
use Rattle.yuv_error.specs.Told.{told}

pub refused_number : (e : YuvError) → eqb (told e).number 0 ≡ false
refused_number UnknownSampling = refl
refused_number UnknownCode = refl
refused_number ZeroBaseSize = refl
refused_number PointerOverflow = refl
refused_number (DestinationSizeMismatch size) = refl
refused_number (MinimumStrideSizeMismatch size) = refl
refused_number (LumaPlaneMinimumSizeMismatch size) = refl
refused_number (LumaPlaneSizeMismatch size) = refl
refused_number (UPlaneMinimumSizeMismatch size) = refl
refused_number (UPlaneSizeMismatch size) = refl
refused_number (VPlaneMinimumSizeMismatch size) = refl
refused_number (VPlaneSizeMismatch size) = refl
refused_number UnusableWeights = refl
refused_number RowOutside = refl
refused_number MalformedStream = refl
refused_number UnknownStream = refl
refused_number ShortFrame = refl
refused_number UnusableFirstRow = refl
refused_number UnusablePlane = refl
