-- The columns that are left after the pairs of the groups, at most two, and so the whole row.
-- Assumes nothing.
use mathlib.Core.Path.{◌≡◌, refl, ap, ◌∙◌}
use mathlib.Core.Logic.{◌⊎◌}
use mathlib.Core.List.{List, [], ◌∷◌}
use Prim.Native.Nat.{ℕ, ◌+◌, ◌-◌, ◌*◌, ◌/◌, ◌≤◌, ◌<◌}
use native.Mathlib.Nat.{mul-le-mul_left}
use native.Mathlib.Omega.{arith}
use borrow.Author.Tests.{le-ltb}
use borrow.Rule.Slice.PartMut.{put_mid}
use lib.ListN.{length}
use Rattle.yuv_support.specs.Blend.{chroma_width}
use Rattle.yuv_support.specs.Picture.{row_of}
use Rattle.yuv_support.specs.Counts.{together}
use Rattle.yuv_support.proofs.Overlay.{value_at}
use Rattle.yuv_support.proofs.Rows.{part_length, part_at}
use Rattle.numerics.specs.declared.Kernel.{Kernel}
use Rattle.numerics.specs.Row.{row_value, at, tailed, row_chroma, whole_value, clipped_over, whole_clipped, Begun, BlockFits, GroupsFit, RowFits}
use Rattle.numerics.proofs.Row.{value_as, row_as, value_shifted, begun_part, begun_whole}
use Rattle.numerics.proofs.Clips.{clipped_as, clipped_on}
use Rattle.numerics.proofs.Choice.{some_letters}
use Rattle.numerics.proofs.Parts.{cut}

-- the pairs of a row that have a chroma sample after their own
abbrev pub pairs_of : ℕ → ℕ
pairs_of width = chroma_width width - 1

module _ (width : ℕ) (near far : List ℕ) (tail c : ℕ) where
  pub chroma_tail : 2 * pairs_of width ≤ c → row_chroma width near far tail c ≡ tail
  unfolding tailed
  chroma_tail h = rw (le-ltb (c / 2 + 1) (chroma_width width) (omega arith))

-- the pairs of a row are there
pub groups_fit : {n width all : ℕ} {row y pn pf qn qf : List ℕ} → RowFits n row y pn pf qn qf width → 2 * all ≤ width
    → GroupsFit n row y pn pf qn qf all (chroma_width width)
groups_fit {n} {width} {all} f h =
    let p : n * (2 * all) ≤ n * width = mul-le-mul_left n h in
    record {
      letters = f.letters;
      places = omega (arith, f.places);
      luma = omega (arith, f.luma);
      known = omega arith;
      first_near = f.first_near;
      first_far = f.first_far;
      third_near = f.third_near;
      third_far = f.third_far;
    }

pub narrow_most : (width pairs : ℕ) → pairs ≡ pairs_of width → pairs < 8 → width ≤ 16
narrow_most width pairs e h = omega arith

pub two_at : (v c : ℕ) → c < 2 → at (v ∷ v ∷ []) c ≡ v
two_at v c h = value_at (λ j. v) (v ∷ v ∷ []) (refl, (refl, tt)) c h

module _ (k : Kernel) (n : ℕ) (l : (n ≡ 3) ⊎ (n ≡ 4)) (width : ℕ) (y pn pf qn qf : List ℕ) (tp tq : ℕ) where
  abbrev whole_row_value : ℕ → ℕ
  whole_row_value = whole_value k n width y pn pf qn qf tp tq

  abbrev first_chroma : ℕ → ℕ
  first_chroma = row_chroma width pn pf tp

  abbrev third_chroma : ℕ → ℕ
  third_chroma = row_chroma width qn qf tq

  -- of luma and chroma that are the same
  module _ (y' : List ℕ) (P' Q' : ℕ → ℕ) (ey : (c : ℕ) → c < width → at y' c ≡ at y c) (ep : (c : ℕ) → c < width → P' c ≡ first_chroma c) (eq : (c : ℕ) → c < width → Q' c ≡ third_chroma c) where
    pub same_row : (row : List ℕ) {row' : List ℕ} → length row ≡ n * width → row' ≡ row_of (λ r. row_value k n (at y') P' Q') 0 row → row' ≡ row_of (λ r. whole_row_value) 0 row
    same_row row long e = e ∙ row_as (row_value k n (at y') P' Q') whole_row_value row long (value_as k n width (some_letters l) (at y) first_chroma third_chroma (at y') P' Q' ey ep eq)

    pub same_counts : clipped_over k (at y') P' Q' width ≡ whole_clipped k width y pn pf qn qf tp tq
    same_counts = clipped_as k (at y) first_chroma third_chroma (at y') P' Q' width ey ep eq

  -- the pairs and then the columns that are left, where the pairs hold all that have a sample after their own
  module _ (all : ℕ) (lo : pairs_of width ≤ all) (hi : 2 * all ≤ width) where
    last_most : width - 2 * all ≤ 2
    last_most = omega arith

    abbrev last_luma : List ℕ
    last_luma = cut (2 * all) width y

    pub last_length : width ≤ length y → length last_luma ≡ width - 2 * all
    last_length h = part_length (2 * all) (width - 2 * all) y (omega arith)

    -- what they ask of the parts
    pub last_fits : (row : List ℕ) → length row ≡ n * width → width ≤ length y
        → BlockFits n (length last_luma) 0 (cut (n * (2 * all)) (n * width) row) last_luma (tp ∷ tp ∷ []) (tq ∷ tq ∷ []) []
    last_fits row long h =
        let t = last_length h in
        record {
          letters = l;
          places = part_length (n * (2 * all)) (n * width - n * (2 * all)) row (omega arith) ∙ apart (2 * all) (width - 2 * all) (omega arith) ∙ rw t;
          luma = omega arith;
          first = omega (arith, last_most);
          third = omega (arith, last_most);
          room = omega arith;
        }
      where
        apart : (a d : ℕ) → a + d ≡ width → n * width - n * a ≡ n * d
        apart a d e = rw (← e) (omega arith)

    luma_last : (c : ℕ) → c < width - 2 * all → at last_luma c ≡ at y (2 * all + c)
    luma_last c h = part_at (2 * all) (width - 2 * all) y c h

    sample_last : (near far : List ℕ) (tail c : ℕ) → c < width - 2 * all → at (tail ∷ tail ∷ []) c ≡ row_chroma width near far tail (2 * all + c)
    sample_last near far tail c h = two_at tail c (omega (arith, last_most)) ∙ rw (chroma_tail width near far tail (2 * all + c) (omega arith))

    pub whole_row : {row₀ row ys : List ℕ} → Begun whole_row_value row₀ row (n * (2 * all)) → length row₀ ≡ n * width
        → ys ≡ row_of (λ r. row_value k n (at last_luma) (at (tp ∷ tp ∷ [])) (at (tq ∷ tq ∷ []))) 0 (cut (n * (2 * all)) (n * width) row)
        → put_mid (n * (2 * all)) (n * width - n * (2 * all)) row ys ≡ row_of (λ r. whole_row_value) 0 row₀
    whole_row b long e =
        begun_whole
        (begun_part (row_value k n (at last_luma) (at (tp ∷ tp ∷ [])) (at (tq ∷ tq ∷ []))) (n * (2 * all)) (n * width) b
        (omega arith) (mul-le-mul_left n (omega arith)) (omega arith) e
        (λ x h. value_shifted k n (some_letters l) (at y) first_chroma third_chroma _ _ _ (2 * all) (width - 2 * all) luma_last (sample_last pn pf tp) (sample_last qn qf tq) x (inside (2 * all) (width - 2 * all) x (omega arith) h)))
        (omega arith)
      where
        inside : (a d x : ℕ) → a + d ≡ width → x < n * width - n * a → x < n * d
        inside a d x e h = let h' : x < n * (a + d) - n * a = rw e h in omega arith

    pub whole_counts : together (clipped_over k (at y) first_chroma third_chroma (2 * all)) (clipped_over k (at last_luma) (at (tp ∷ tp ∷ [])) (at (tq ∷ tq ∷ [])) (width - 2 * all))
        ≡ whole_clipped k width y pn pf qn qf tp tq
    whole_counts =
        let e : 2 * all + (width - 2 * all) ≡ width = omega arith in
        clipped_on k (at y) first_chroma third_chroma (at last_luma) (at (tp ∷ tp ∷ [])) (at (tq ∷ tq ∷ [])) (2 * all) (width - 2 * all) luma_last (sample_last pn pf tp) (sample_last qn qf tq)
        ∙ ap (clipped_over k (at y) first_chroma third_chroma) e
