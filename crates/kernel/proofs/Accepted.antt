-- What an accepted call gives the row functions, at either element width.
-- Assumes nothing.
use mathlib.Core.Path.{◌≡◌, refl, sym}
use mathlib.Core.List.{List}
use Prim.Native.Nat.{ℕ}
use lib.Dec.{T}
use Rattle.yuv_support.specs.declared.Codes.{Codes}
use Rattle.yuv_support.specs.declared.Settings.{Settings}
use Rattle.yuv_support.specs.declared.Geometry.{Geometry}
use Rattle.yuv_support.specs.declared.YuvBytesPacking.TheVariants.{LeastSignificantBytes}
use Rattle.yuv_support.specs.Settings.{among, depths, depths8}
use Rattle.yuv_support.specs.Blend.{Frame, frame_of}
use Rattle.yuv_support.specs.Picture.{band, band_rows}
use Rattle.yuv_support.specs.Counts.{clipped_in}
use Rattle.yuv_support.specs.Questions.{accepted, decoded}
use Rattle.yuv_support.specs.Distance.{WithinDepth}
use Rattle.yuv_support.specs.Conversion.{answer_to, Demand3After, answer_to_band, rows_after, clipped_after_band, destination_after_band, Demand3AfterBand}
use Rattle.yuv_support.proofs.Conversion.{FirstRow, accepted_call, accepted_band, demand3_met}
use Rattle.yuv_support.proofs.Bands.{rowed, all_rows, whole_as_band}
use Rattle.yuv_support.proofs.Packing.{low_at_8}
use Rattle.kernel.specs.Kernels.{kernel_of}
use Rattle.kernel.specs.Lent.{RowsFit}
use Rattle.kernel.specs.Ordered.{Ready}

pub accepted_ready : (known : List ℕ) (within : (d : ℕ) → T (among d known) → T (among d depths)) (codes : Codes) (image : Geometry)
    (y u v : List ℕ) (stride : ℕ) (rgb : List ℕ) → (answer_to known codes image y u v stride rgb).number ≡ 0
    → Ready (decoded codes) (frame_of image y u v) (kernel_of (decoded codes))
accepted_ready known within codes image y u v stride rgb e =
    let a = accepted_call known within codes image y u v stride rgb e in
    record {
      known = within codes.depth a.depth;
      weights = a.weights;
      kernel = refl;
      width_least = a.width_least;
      width_most = a.width_most;
      height_most = a.height_most;
      y_length = a.y_length;
      u_length = a.u_length;
      v_length = a.v_length;
    }

-- ---- an accepted band

module _ (known : List ℕ) (within : (d : ℕ) → T (among d known) → T (among d depths)) (codes : Codes) (image : Geometry)
    (y u v : List ℕ) (stride : ℕ) (rgb : List ℕ) (first : ℕ) where
  -- what it gives the row functions
  pub record AcceptedBand : Type 0 where
    pub first_row : FirstRow first image.height
    pub depth : T (among codes.depth known)
    pub packing : T (among codes.depth depths8) → (decoded codes).packing ≡ LeastSignificantBytes
    pub ready : Ready (decoded codes) (frame_of image y u v) (kernel_of (decoded codes))
    pub fit : (limit : ℕ) → RowsFit (decoded codes) (frame_of image y u v) stride first (band_rows image.height first limit) rgb

  -- its rows are those of the promise; `Asked` is what demand 3 asks of the samples
  pub record FinishedBand (Asked : Settings → Frame → Type 0) (limit : ℕ) : Type 0 where
    pub rows : band_rows image.height first limit ≡ rows_after known codes image y u v stride rgb first limit
    pub counts : clipped_in (decoded codes) (frame_of image y u v) first (band_rows image.height first limit)
        ≡ clipped_after_band known codes image y u v stride rgb first limit
    pub destination : band (decoded codes) (frame_of image y u v) stride first (band_rows image.height first limit) rgb
        ≡ destination_after_band known codes image y u v stride rgb first limit
    pub faithful : Demand3AfterBand Asked known codes image y u v stride rgb first limit (destination_after_band known codes image y u v stride rgb first limit)

  module _ (e : accepted ≡ answer_to_band known codes image y u v stride rgb first) where
    held : ((answer_to known codes image y u v stride rgb).number ≡ 0) × FirstRow first image.height
    held = accepted_band known within codes image y u v stride rgb first (rw (sym e) refl)

    pub accepted_gives : AcceptedBand
    accepted_gives =
        let h = accepted_call known within codes image y u v stride rgb held.0 in
        record {
          first_row = held.1;
          depth = h.depth;
          packing = λ eight. low_at_8 codes.depth codes.packing eight h.packing;
          ready = accepted_ready known within codes image y u v stride rgb held.0;
          fit = λ limit. record { exist = (rowed image.height first limit held.1).after.most; wide = h.rgb_stride; room = h.rgb_length };
        }

    -- `enough`: the samples asked for lie within the depth
    pub accepted_finishes : (Asked : Settings → Frame → Type 0)
        → (T (among codes.depth known) → Asked (decoded codes) (frame_of image y u v) → WithinDepth (decoded codes) (frame_of image y u v))
        → (limit : ℕ) → FinishedBand Asked limit
    unfolding rows_after clipped_after_band destination_after_band
    accepted_finishes Asked enough limit =
        let below = (rowed image.height first limit held.1).after.most in
        record {
          rows = rw (sym e) refl;
          counts = rw (sym e) refl;
          destination = rw (sym e) refl;
          faithful = λ _. rw (sym e) (demand3_met known within codes image y u v stride rgb Asked enough held.0 first _ below);
        }

-- demand 3 of the whole picture, from that of the band from row 0 with the height as limit
pub whole_demand3 : (known : List ℕ) (codes : Codes) (image : Geometry) (y u v : List ℕ) (stride : ℕ) (rgb : List ℕ)
    (Asked : Settings → Frame → Type 0) (out : List ℕ)
    → Demand3AfterBand Asked known codes image y u v stride rgb 0 image.height out → Demand3After Asked known codes image y u v stride rgb out
whole_demand3 known codes image y u v stride rgb Asked out d e =
    rw (all_rows image.height) at (d (rw (whole_as_band known codes image y u v stride rgb).answer e))
