-- The loop over a picture's rows, at either element width: what holds at each turn, and that it begins, goes on and ends; and the same of
-- what was clipped in them.
-- Assumes nothing.
use mathlib.Core.Path.{◌≡◌, refl, sym, ap, ◌∙◌}
use mathlib.Core.List.{List}
use Prim.Native.Nat.{ℕ, ◌+◌, ◌-◌, ◌*◌, ◌≤◌, ◌<◌}
use native.Mathlib.Nat.{le_trans}
use native.Mathlib.Omega.{arith}
use lib.ListN.{length, take, drop}
use borrow.Rule.Slice.PartMut.{put_mid}
use Rattle.yuv_support.specs.declared.Clipped.{Clipped}
use Rattle.yuv_support.specs.declared.Settings.{Settings}
use Rattle.yuv_support.specs.Blend.{Frame}
use Rattle.yuv_support.specs.Counts.{clipped_row, clipped_in, unclipped, together}
use Rattle.yuv_support.specs.Picture.{row_of, painted}
use Rattle.yuv_support.specs.Questions.{needed}
use Rattle.yuv_support.proofs.Counts.{band_none, band_more, band_most, sides_most}
use Rattle.yuv_support.proofs.Rows.{painted_none, painted_length, row_fits, row_back}

-- the rows from `first` to r are written, and every row up to `end` lies in the destination
pub record RowsDone (f : ℕ → ℕ → ℕ) (stride n first end : ℕ) (rgb₀ rgb : List ℕ) (r : ℕ) : Type 0 where
  pub started : first ≤ r
  pub below : r ≤ end
  pub wide : n ≤ stride
  pub room : (q : ℕ) → q < end → stride * q + n ≤ length rgb₀
  pub same : length rgb ≡ length rgb₀
  pub done : rgb ≡ painted f stride n first (r - first) rgb₀

module _ {f : ℕ → ℕ → ℕ} {stride n first end : ℕ} {rgb₀ : List ℕ} where
  pub rows_begin : {m : ℕ} (height : ℕ) → n ≡ m → first ≤ end → m ≤ stride → needed stride m height ≤ length rgb₀ → end ≤ height
      → RowsDone f stride n first end rgb₀ rgb₀ first
  rows_begin height e h w long inside =
      let z : first - first ≡ 0 = omega arith in
      record {
        started = omega arith;
        below = h;
        wide = omega arith;
        room = λ q t. rw e (row_fits stride _ height q (length rgb₀) long (omega arith));
        same = refl;
        done = rw z (painted_none f stride n first rgb₀);
      }

  module _ {rgb : List ℕ} {r : ℕ} (d : RowsDone f stride n first end rgb₀ rgb r) (t : r < end) where
    pub rows_next : {row : List ℕ} → row ≡ row_of f r (take (stride * r + n - stride * r) (drop (stride * r) rgb))
        → RowsDone f stride n first end rgb₀ (put_mid (stride * r) (stride * r + n - stride * r) rgb row) (r + 1)
    rows_next {row} e =
        let s = d.started in
        let q : r + 1 - first ≡ r - first + 1 = omega arith in
        let b = row_back f stride n first (r - first) r rgb₀ rgb row d.wide (d.room r t) (omega arith) d.done e in
        record {
          started = omega arith;
          below = omega arith;
          wide = d.wide;
          room = d.room;
          same = ap length b ∙ painted_length f stride n first (r - first + 1) rgb₀;
          done = rw q b;
        }

  pub rows_end : {rgb : List ℕ} {r m : ℕ} (count : ℕ) → n ≡ m → end ≡ first + count → RowsDone f stride n first end rgb₀ rgb r → end ≤ r
      → rgb ≡ painted f stride m first count rgb₀
  rows_end {rgb} {r} count n_is h d l = let b = d.below in let e : r - first ≡ count = omega arith in d.done ∙ rw (e, n_is)

-- ---- what was clipped

-- the rows from `first` to r are counted
pub record RowsCounted (s : Settings) (f : Frame) (first : ℕ) (clipped : Clipped) (r : ℕ) : Type 0 where
  pub told : clipped ≡ clipped_in s f first (r - first)

module _ {s : Settings} {f : Frame} {first : ℕ} where
  pub counted_begin : RowsCounted s f first unclipped first
  counted_begin = let z : first - first ≡ 0 = omega arith in record { told = rw z (sym (band_none s f first)) }

  module _ {clipped : Clipped} {r : ℕ} (c : RowsCounted s f first clipped r) (started : first ≤ r) {x : Clipped} (e : x ≡ clipped_row s f r) where
    with_next : together clipped x ≡ clipped_in s f first (r + 1 - first)
    with_next =
        let q : r + 1 - first ≡ r - first + 1 = omega arith in
        let h : first + (r - first) ≡ r = omega arith in
        rw (c.told, e, q) (let b = band_more s f first (r - first) in rw h at b)

    -- the sums of the next row fit a u32
    pub counted_room : f.width ≤ 16384 → r < 16384 → (clipped.below + x.below ≤ 4294967295) × (clipped.above + x.above ≤ 4294967295)
    counted_room w h =
        let m = band_most s f first (r + 1 - first) in
        let t = sides_most 16384 f.width (r + 1 - first) w (omega arith) in (
          le_trans (rw (sym (ap (λ (z : Clipped). z.below) with_next)) at m.0) (le_trans t (omega arith)),
          le_trans (rw (sym (ap (λ (z : Clipped). z.above) with_next)) at m.1) (le_trans t (omega arith)),
        )

    pub counted_next : {z : Clipped} → z ≡ together clipped x → RowsCounted s f first z (r + 1)
    counted_next i = record { told = i ∙ with_next }
