-- What was clipped in the columns of a row: part after part, and from words of counts.
-- Assumes nothing.
use mathlib.Core.Path.{◌≡◌, refl, sym, ap, ◌∙◌}
use mathlib.Core.List.{List}
use Prim.Native.Nat.{ℕ, ◌+◌, ◌-◌, ◌*◌, ◌/◌, ◌%◌, ◌≤◌, ◌<◌}
use native.Mathlib.Omega.{arith}
use lib.ListN.{length, take, drop}
use Rattle.yuv_support.specs.declared.Clipped.{Clipped}
use Rattle.yuv_support.specs.Counts.{total, unclipped, together}
use Rattle.yuv_support.proofs.Rows.{part_length, part_at}
use Rattle.yuv_support.proofs.Counts.{total_more, total_as, total_split, total_pairs, total_most, three_most}
use Rattle.numerics.specs.declared.Kernel.{Kernel}
use Rattle.numerics.specs.Kernel.{first_sum, green_sum, third_sum, below_at, above_at}
use Rattle.numerics.specs.Row.{at, clipped_over, word_at, pair_word, Filled}
use Rattle.numerics.proofs.Sums.{one_below, one_above}

module _ (k : Kernel) (y p q : ℕ) where
  pub below_three : below_at k y p q ≤ 3
  unfolding below_at
  below_three = three_most (one_below k.offset (first_sum k y p)) (one_below k.offset (green_sum k y p q)) (one_below k.offset (third_sum k y q))

  pub above_three : above_at k y p q ≤ 3
  unfolding above_at
  above_three =
      three_most (one_above k.offset k.max (first_sum k y p)) (one_above k.offset k.max (green_sum k y p q)) (one_above k.offset k.max (third_sum k y q))

-- ---- columns

module _ (k : Kernel) (Y P Q : ℕ → ℕ) where
  pub clipped_none : clipped_over k Y P Q 0 ≡ unclipped
  unfolding clipped_over total
  clipped_none = refl

  -- one column more
  pub clipped_more : (n : ℕ) → together (clipped_over k Y P Q n) (record { below = below_at k (Y n) (P n) (Q n); above = above_at k (Y n) (P n) (Q n) }) ≡ clipped_over k Y P Q (n + 1)
  unfolding clipped_over
  clipped_more n = rw (total_more (λ c. below_at k (Y c) (P c) (Q c)) n, total_more (λ c. above_at k (Y c) (P c) (Q c)) n)

  -- more columns, of luma and chroma that are elsewhere
  pub clipped_on : (Y' P' Q' : ℕ → ℕ) (a m : ℕ) → ((c : ℕ) → c < m → Y' c ≡ Y (a + c)) → ((c : ℕ) → c < m → P' c ≡ P (a + c)) → ((c : ℕ) → c < m → Q' c ≡ Q (a + c))
      → together (clipped_over k Y P Q a) (clipped_over k Y' P' Q' m) ≡ clipped_over k Y P Q (a + m)
  unfolding clipped_over
  clipped_on Y' P' Q' a m ey ep eq =
      let b : total (λ c. below_at k (Y' c) (P' c) (Q' c)) m ≡ total (λ c. below_at k (Y (a + c)) (P (a + c)) (Q (a + c))) m =
      total_as _ _ m (λ c h. rw (ey c h, ep c h, eq c h)) in
      let t : total (λ c. above_at k (Y' c) (P' c) (Q' c)) m ≡ total (λ c. above_at k (Y (a + c)) (P (a + c)) (Q (a + c))) m =
      total_as _ _ m (λ c h. rw (ey c h, ep c h, eq c h)) in
      rw (b, t, total_split (λ c. below_at k (Y c) (P c) (Q c)) a m, total_split (λ c. above_at k (Y c) (P c) (Q c)) a m)

  pub clipped_as : (Y' P' Q' : ℕ → ℕ) (m : ℕ) → ((c : ℕ) → c < m → Y' c ≡ Y c) → ((c : ℕ) → c < m → P' c ≡ P c) → ((c : ℕ) → c < m → Q' c ≡ Q c)
      → clipped_over k Y' P' Q' m ≡ clipped_over k Y P Q m
  unfolding clipped_over
  clipped_as Y' P' Q' m ey ep eq =
      let b : total (λ c. below_at k (Y' c) (P' c) (Q' c)) m ≡ total (λ c. below_at k (Y c) (P c) (Q c)) m = total_as _ _ m (λ c h. rw (ey c h, ep c h, eq c h)) in
      let t : total (λ c. above_at k (Y' c) (P' c) (Q' c)) m ≡ total (λ c. above_at k (Y c) (P c) (Q c)) m = total_as _ _ m (λ c h. rw (ey c h, ep c h, eq c h)) in
      rw (b, t)

  -- at most three to the column
  pub clipped_most : (n : ℕ) → ((clipped_over k Y P Q n).below ≤ 3 * n) × ((clipped_over k Y P Q n).above ≤ 3 * n)
  unfolding clipped_over
  clipped_most n = (
    total_most (λ c. below_at k (Y c) (P c) (Q c)) 3 n (λ c. below_three k (Y c) (P c) (Q c)),
    total_most (λ c. above_at k (Y c) (P c) (Q c)) 3 n (λ c. above_three k (Y c) (P c) (Q c)),
  )

-- the counts of one pixel, and of n columns
pub one_of : (k : Kernel) (y p q : ℕ) {a : Clipped} → a ≡ record { below = below_at k y p q; above = above_at k y p q } → (a.below ≤ 3) × (a.above ≤ 3)
one_of k y p q e = rw e (below_three k y p q, above_three k y p q)

pub most_of : (k : Kernel) (Y P Q : ℕ → ℕ) (n : ℕ) {a : Clipped} → a ≡ clipped_over k Y P Q n → (a.below ≤ 3 * n) × (a.above ≤ 3 * n)
most_of k Y P Q n e = rw e (clipped_most k Y P Q n)

-- ---- words of counts

-- the counts of the words a to m of a list, as `counted` tells them
abbrev pub counts_of : List ℕ → Clipped
counts_of ws = record { below = total (λ j. at ws j % 256) (length ws); above = total (λ j. at ws j / 256) (length ws) }

module _ (b a : ℕ) (hb : b ≤ 6) (ha : a ≤ 6) where
  word_below : (b + 256 * a) % 256 ≡ b
  word_below = omega arith

  word_above : (b + 256 * a) / 256 ≡ a
  word_above = omega arith

module _ (k : Kernel) (Y P Q : ℕ → ℕ) where
  -- of the pixel at a column, and of a pair
  abbrev column_word : ℕ → ℕ
  column_word c = word_at k (Y c) (P c) (Q c)

  column_word_lem : (c : ℕ) → (column_word c % 256 ≡ below_at k (Y c) (P c) (Q c)) × (column_word c / 256 ≡ above_at k (Y c) (P c) (Q c))
  column_word_lem c =
      let b = below_three k (Y c) (P c) (Q c) in
      let t = above_three k (Y c) (P c) (Q c) in
      (word_below _ _ (omega arith) (omega arith), word_above _ _ (omega arith) (omega arith))

  pair_word_lem : (j : ℕ) → (pair_word k Y P Q j % 256 ≡ below_at k (Y (2 * j)) (P (2 * j)) (Q (2 * j)) + below_at k (Y (2 * j + 1)) (P (2 * j + 1)) (Q (2 * j + 1)))
      × (pair_word k Y P Q j / 256 ≡ above_at k (Y (2 * j)) (P (2 * j)) (Q (2 * j)) + above_at k (Y (2 * j + 1)) (P (2 * j + 1)) (Q (2 * j + 1)))
  pair_word_lem j =
      two_words (below_at k (Y (2 * j)) (P (2 * j)) (Q (2 * j))) (below_at k (Y (2 * j + 1)) (P (2 * j + 1)) (Q (2 * j + 1))) (above_at k (Y (2 * j)) (P (2 * j)) (Q (2 * j)))
      (above_at k (Y (2 * j + 1)) (P (2 * j + 1)) (Q (2 * j + 1)))
      (below_three k _ _ _) (below_three k _ _ _) (above_three k _ _ _) (above_three k _ _ _)
    where
      two_words : (b b' a a' : ℕ) → b ≤ 3 → b' ≤ 3 → a ≤ 3 → a' ≤ 3
          → (((b + 256 * a) + (b' + 256 * a')) % 256 ≡ b + b') × (((b + 256 * a) + (b' + 256 * a')) / 256 ≡ a + a')
      two_words b b' a a' hb hb' ha ha' = (omega arith, omega arith)

  module _ (ws : List ℕ) (a m : ℕ) (h : m ≤ length ws) where
    abbrev part : List ℕ
    part = take (m - a) (drop a ws)

    long : length part ≡ m - a
    long = part_length a (m - a) ws (omega arith)

    -- words of pixels
    pub columns_few : Filled m column_word ws → (j : ℕ) → j < length part → (at part j % 256 ≤ 6) × (at part j / 256 ≤ 6)
    columns_few f j l =
        let e : at part j ≡ column_word (a + j) = part_at a (m - a) ws j (omega (arith, long)) ∙ f.value (a + j) (omega (arith, long)) in
        rw e (omega (arith, (column_word_lem (a + j)).0, below_three k (Y (a + j)) (P (a + j)) (Q (a + j))), omega (arith, (column_word_lem (a + j)).1, above_three k (Y (a + j)) (P (a + j)) (Q (a + j))))

    pub columns_counted : Filled m column_word ws → counts_of part ≡ clipped_over k (λ c. Y (a + c)) (λ c. P (a + c)) (λ c. Q (a + c)) (m - a)
    unfolding clipped_over
    columns_counted f =
        let e : (j : ℕ) → j < m - a → at part j ≡ column_word (a + j) = λ j l. part_at a (m - a) ws j l ∙ f.value (a + j) (omega arith) in
        let b : total (λ j. at part j % 256) (m - a) ≡ total (λ c. below_at k (Y (a + c)) (P (a + c)) (Q (a + c))) (m - a) =
        total_as _ _ (m - a) (λ j l. ap (λ (w : ℕ). w % 256) (e j l) ∙ (column_word_lem (a + j)).0) in
        let t : total (λ j. at part j / 256) (m - a) ≡ total (λ c. above_at k (Y (a + c)) (P (a + c)) (Q (a + c))) (m - a) =
        total_as _ _ (m - a) (λ j l. ap (λ (w : ℕ). w / 256) (e j l) ∙ (column_word_lem (a + j)).1) in
        rw (long, b, t)

    -- words of pairs
    pub pairs_few : Filled m (pair_word k Y P Q) ws → (j : ℕ) → j < length part → (at part j % 256 ≤ 6) × (at part j / 256 ≤ 6)
    pairs_few f j l =
        let i = a + j in
        let e : at part j ≡ pair_word k Y P Q i = part_at a (m - a) ws j (omega (arith, long)) ∙ f.value i (omega (arith, long)) in
        rw e (
          omega (arith, (pair_word_lem i).0, below_three k (Y (2 * i)) (P (2 * i)) (Q (2 * i)), below_three k (Y (2 * i + 1)) (P (2 * i + 1)) (Q (2 * i + 1))),
          omega (arith, (pair_word_lem i).1, above_three k (Y (2 * i)) (P (2 * i)) (Q (2 * i)), above_three k (Y (2 * i + 1)) (P (2 * i + 1)) (Q (2 * i + 1))),
        )

    pub pairs_counted : Filled m (pair_word k Y P Q) ws → counts_of part ≡ clipped_over k (λ c. Y (2 * a + c)) (λ c. P (2 * a + c)) (λ c. Q (2 * a + c)) (2 * (m - a))
    unfolding clipped_over
    pairs_counted f =
        let e : (j : ℕ) → j < m - a → at part j ≡ pair_word k Y P Q (a + j) = λ j l. part_at a (m - a) ws j l ∙ f.value (a + j) (omega arith) in
        let s : (j : ℕ) → 2 * (a + j) ≡ 2 * a + 2 * j = λ j. omega arith in
        let s' : (j : ℕ) → 2 * a + 2 * j + 1 ≡ 2 * a + (2 * j + 1) = λ j. omega arith in
        let b : total (λ j. at part j % 256) (m - a) ≡ total (λ c. below_at k (Y (2 * a + c)) (P (2 * a + c)) (Q (2 * a + c))) (2 * (m - a)) =
        total_as _ _ (m - a) (λ j l. ap (λ (w : ℕ). w % 256) (e j l) ∙ (pair_word_lem (a + j)).0 ∙ rw (s j, s' j)) ∙ sym (total_pairs (λ c. below_at k (Y (2 * a + c)) (P (2 * a + c)) (Q (2 * a + c))) (m - a)) in
        let t : total (λ j. at part j / 256) (m - a) ≡ total (λ c. above_at k (Y (2 * a + c)) (P (2 * a + c)) (Q (2 * a + c))) (2 * (m - a)) =
        total_as _ _ (m - a) (λ j l. ap (λ (w : ℕ). w / 256) (e j l) ∙ (pair_word_lem (a + j)).1 ∙ rw (s j, s' j)) ∙ sym (total_pairs (λ c. above_at k (Y (2 * a + c)) (P (2 * a + c)) (Q (2 * a + c))) (m - a)) in
        rw (long, b, t)
