-- A row whose letters are in the order's sequence is the row in that order.
-- Assumes nothing.
use mathlib.Core.Logic.{◌⊎◌, inl, inr}
use mathlib.Core.Path.{◌≡◌, refl}
use mathlib.Core.Bool.{Bool, true, false}
use mathlib.Core.List.{List}
use Prim.Native.Nat.{ℕ, ◌-◌}
use native.Mathlib.Omega.{arith}
use Rattle.std.specs.Int.{div_ceil}
use Rattle.yuv_support.specs.declared.Clipped.{Clipped}
use Rattle.yuv_support.specs.declared.Settings.{Settings}
use Rattle.yuv_support.specs.declared.YuvMode.{YuvMode}
use Rattle.yuv_support.specs.declared.YuvSourceChannels.{YuvSourceChannels}
use Rattle.yuv_support.specs.declared.YuvSourceChannels.TheVariants.{Rgb, Rgba, Bgra, Bgr}
use Rattle.yuv_support.specs.Blend.{chroma_blue, chroma_red, chroma_width, tail_of, rounded}
use Rattle.yuv_support.specs.Picture.{channels_of, row_of}
use Rattle.yuv_support.proofs.Picture.{channels_rgb, channels_rgba, channels_bgra, channels_bgr}
use Rattle.blocks.specs.declared.chroma.ChromaRows.{ChromaRows}
use Rattle.blocks.specs.declared.chroma.Source.{Source}
use Rattle.blocks.specs.Source.{row_fits, row_letters, row_clipped}
use Rattle.numerics.specs.declared.Kernel.{Kernel}
use Rattle.numerics.specs.Row.{at, whole_value, whole_clipped, RowFits}
use Rattle.kernel.specs.Kernels.{red_first, first_chroma, third_chroma}
use Rattle.kernel.specs.Ordered.{last_of, ordered_by, clipped_by, ordered_value, ordered_clipped, OrderedFits}
use Rattle.kernel.proofs.Ordered.{u_first, v_first}
use Rattle.convert.specs.declared.NearAndFar.{NearAndFar}
use Rattle.convert.specs.declared.RowSamples.{RowSamples}
use Rattle.convert.specs.Samples.{Arranged, samples_value, samples_clipped, SamplesFit}

-- half the width, rounded up
half_up : (width : ℕ) → div_ceil width 2 ≡ chroma_width width
half_up width = omega arith

-- orders of three letters, and of four
pub three : {o : YuvSourceChannels} → (o ≡ Rgb) ⊎ (o ≡ Bgr) → channels_of o ≡ 3
three (inl e) = rw e channels_rgb
three (inr e) = rw e channels_bgr

pub four : {o : YuvSourceChannels} → (o ≡ Rgba) ⊎ (o ≡ Bgra) → channels_of o ≡ 4
four (inl e) = rw e channels_rgba
four (inr e) = rw e channels_bgra

module _ {X : Type 0} (numbers : List X → List ℕ) (number : X → ℕ) (o : YuvSourceChannels) (mode : YuvMode) (width : ℕ) (y : List ℕ)
    (blue red first third : ChromaRows X) (a : Arranged (red_first o) blue red first third)
    (n : ℕ) (count : channels_of o ≡ n) where
  arranged_fits : {row : List ℕ}
      → OrderedFits o row y (numbers blue.near.now) (numbers blue.far.now) (numbers red.near.now) (numbers red.far.now) width
      → RowFits n row y (numbers first.near.now) (numbers first.far.now) (numbers third.near.now) (numbers third.far.now) width
  arranged_fits {row} f = by (red_first o) a
    where
      by : (b : Bool) → Arranged b blue red first third
          → RowFits n row y (numbers first.near.now) (numbers first.far.now) (numbers third.near.now) (numbers third.far.now) width
      by true e = rw (e.0, e.1) (v_first n count f)
      by false e = rw (e.0, e.1) (u_first n count f)

  -- the tails lie in the last column of chroma
  module _ (k : Kernel) {half : ℕ} (columns : half ≡ div_ceil width 2)
      (b_told : number blue.tail ≡ rounded (tail_of mode chroma_blue (at (numbers blue.near.now) (half - 1)) (at (numbers blue.far.now) (half - 1))))
      (r_told : number red.tail ≡ rounded (tail_of mode chroma_red (at (numbers red.near.now) (half - 1)) (at (numbers red.far.now) (half - 1)))) where
    b_tail : number blue.tail ≡ last_of mode width chroma_blue (numbers blue.near.now) (numbers blue.far.now)
    b_tail = rw (columns, half_up width) at b_told

    r_tail : number red.tail ≡ last_of mode width chroma_red (numbers red.near.now) (numbers red.far.now)
    r_tail = rw (columns, half_up width) at r_told

    arranged_value : whole_value k n width y (numbers first.near.now) (numbers first.far.now) (numbers third.near.now) (numbers third.far.now) (number first.tail) (number third.tail)
        ≡ ordered_value k o mode width y (numbers blue.near.now) (numbers blue.far.now) (numbers red.near.now) (numbers red.far.now)
    unfolding ordered_value
    arranged_value = by (red_first o) a
      where
        by : (b : Bool) → Arranged b blue red first third
            → whole_value k n width y (numbers first.near.now) (numbers first.far.now) (numbers third.near.now) (numbers third.far.now) (number first.tail) (number third.tail)
            ≡ ordered_by k (channels_of o) mode width (first_chroma b) (third_chroma b) y (numbers blue.near.now) (numbers blue.far.now) (numbers red.near.now) (numbers red.far.now)
        by true e = rw (count, e.0, e.1, b_tail, r_tail) refl
        by false e = rw (count, e.0, e.1, b_tail, r_tail) refl

    arranged_clipped : whole_clipped k width y (numbers first.near.now) (numbers first.far.now) (numbers third.near.now) (numbers third.far.now) (number first.tail) (number third.tail)
        ≡ ordered_clipped k o mode width y (numbers blue.near.now) (numbers blue.far.now) (numbers red.near.now) (numbers red.far.now)
    unfolding ordered_clipped
    arranged_clipped = by (red_first o) a
      where
        by : (b : Bool) → Arranged b blue red first third
            → whole_clipped k width y (numbers first.near.now) (numbers first.far.now) (numbers third.near.now) (numbers third.far.now) (number first.tail) (number third.tail)
            ≡ clipped_by k mode width (first_chroma b) (third_chroma b) y (numbers blue.near.now) (numbers blue.far.now) (numbers red.near.now) (numbers red.far.now)
        by true e = rw (e.0, e.1, b_tail, r_tail) refl
        by false e = rw (e.0, e.1, b_tail, r_tail) refl

-- ---- the same of a row's samples, as the code has them: of n letters, with the tails bt and rt

abbrev rows_with : {X : Type 0} → NearAndFar X → X → ChromaRows X
rows_with p t = record { near = p.near; far = p.far; tail = t }

module _ {X : Type 0} (numbers : List X → List ℕ) (number : X → ℕ) (s : Settings) (width : ℕ) (r : RowSamples X) (source : Source X) (bt rt : X)
    (luma : source.y.now ≡ r.y.now) (chroma : Arranged (red_first s.order) (rows_with r.u bt) (rows_with r.v rt) source.first source.third)
    {n : ℕ} (count : channels_of s.order ≡ n) where
  pub source_fits : {row : List X} → SamplesFit numbers s width row r → row_fits numbers n row source width
  source_fits f = rw luma (arranged_fits numbers number s.order s.mode width (numbers r.y.now) _ _ _ _ chroma n count f)

  module _ {half : ℕ} (columns : half ≡ div_ceil width 2)
      (b_told : number bt ≡ rounded (tail_of s.mode chroma_blue (at (numbers r.u.near.now) (half - 1)) (at (numbers r.u.far.now) (half - 1))))
      (r_told : number rt ≡ rounded (tail_of s.mode chroma_red (at (numbers r.v.near.now) (half - 1)) (at (numbers r.v.far.now) (half - 1))))
      (k : Kernel) where
    pub source_done : (row : List X) {done : List ℕ} {told : Clipped} → done ≡ row_letters numbers number (record { k = k; letters = n }) width source row
        → told ≡ row_clipped numbers number k width source
        → (done ≡ row_of (λ x. samples_value numbers k s width r) 0 (numbers row)) × (told ≡ samples_clipped numbers k s width r)
    source_done row is told = (
      rw (luma, arranged_value numbers number s.order s.mode width (numbers r.y.now) _ _ _ _ chroma n count k columns b_told r_told) at is,
      rw (luma, arranged_clipped numbers number s.order s.mode width (numbers r.y.now) _ _ _ _ chroma n count k columns b_told r_told) at told,
    )
