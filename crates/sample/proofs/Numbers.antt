-- The numbers of a list of samples: how many they are, which stands where, and what a store, a part and a part that came back leave of them.
-- `number` and `numbers` are those of any `Sample`, and `are` is its law.
-- Assumes nothing.
use Rattle.std.proofs.Common.{◌≡◌, ℕ, ◌<◌, List, ◌++◌, map, length, take, drop, set, get_or, refl, sym, ap, ◌∙◌}
use Rattle.std.proofs.lemmas.List.{length-map, take-map, drop-map, map-set, get_or-map, map-append}
use borrow.Rule.Slice.PartMut.{put_mid}

module _ {X : Type 0} {number : X → ℕ} {numbers : List X → List ℕ} (are : (xs : List X) → numbers xs ≡ map number xs) where
  pub numbers_length : (xs : List X) → length (numbers xs) ≡ length xs
  numbers_length xs = ap length (are xs) ∙ length-map xs number

  -- an element that was read
  pub numbers_at : (xs : List X) (i : ℕ) (x : X) → i < length xs → x ≡ get_or xs i x → number x ≡ get_or (numbers xs) i 0
  numbers_at xs i x h is = ap number is ∙ sym (ap (λ (ys : List ℕ). get_or ys i 0) (are xs) ∙ get_or-map number xs i x 0 h)

  -- a store
  pub numbers_set : (xs : List X) (i : ℕ) {x : X} {n : ℕ} → number x ≡ n → numbers (set xs i x) ≡ set (numbers xs) i n
  numbers_set xs i {x} e = are (set xs i x) ∙ map-set number xs i x ∙ rw (e, are xs)

  -- parts
  pub numbers_take : (n : ℕ) (xs : List X) → numbers (take n xs) ≡ take n (numbers xs)
  numbers_take n xs = rw (are xs, are (take n xs)) (sym (take-map number n xs))

  pub numbers_drop : (n : ℕ) (xs : List X) → numbers (drop n xs) ≡ drop n (numbers xs)
  numbers_drop n xs = rw (are xs, are (drop n xs)) (sym (drop-map number n xs))

  pub numbers_part : (n m : ℕ) (xs : List X) → numbers (take n (drop m xs)) ≡ take n (drop m (numbers xs))
  numbers_part n m xs = numbers_take n (drop m xs) ∙ rw (numbers_drop m xs)

  -- a part that was lent and came back
  pub numbers_put : (a k : ℕ) (xs ys : List X) → numbers (put_mid a k xs ys) ≡ put_mid a k (numbers xs) (numbers ys)
  numbers_put a k xs ys = rw (are (put_mid a k xs ys), are xs, are ys) parts
    where
      parts : map number (take a xs ++ (ys ++ drop k (drop a xs))) ≡ take a (map number xs) ++ (map number ys ++ drop k (drop a (map number xs)))
      parts = rw (map-append number (take a xs) (ys ++ drop k (drop a xs)), map-append number ys (drop k (drop a xs)), take-map number a xs, drop-map number a xs, drop-map number k (drop a xs)) refl
