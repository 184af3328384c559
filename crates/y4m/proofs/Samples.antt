-- The lengths of planes of samples are those of their numbers.
-- Assumes nothing.
use Rattle.std.proofs.Common.{◌≡◌, ℕ, List, map}
use Rattle.sample.proofs.Numbers.{numbers_length}
use Rattle.y4m_frames.specs.Questions.{lengths_of}

module _ {X : Type 0} {number : X → ℕ} {numbers : List X → List ℕ} (are : (xs : List X) → numbers xs ≡ map number xs) where
  pub same_lengths : (y u v : List X) → lengths_of (numbers y) (numbers u) (numbers v) ≡ lengths_of y u v
  same_lengths y u v = rw (numbers_length are y, numbers_length are u, numbers_length are v)
