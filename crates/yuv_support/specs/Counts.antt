-- Document 02, slip 3: how many components were clipped.
-- Definitions only.
use Rattle.std.specs.Prelude.{◌≡◌, cond, ℕ, zero, suc, ◌+◌, ltb, ℤ, pos, negsuc}
use Rattle.yuv_support.specs.declared.Clipped.{Clipped}
use Rattle.yuv_support.specs.declared.Settings.{Settings}
use Rattle.yuv_support.specs.Settings.{max_of}
use Rattle.yuv_support.specs.Blend.{Frame}
use Rattle.yuv_support.specs.Component.{red, green, blue, quotient_at}

-- 1 for a quotient below 0, and for one above m; else 0
abbrev pub is_below : ℤ → ℕ
is_below (pos n) = 0
is_below (negsuc n) = 1

abbrev pub is_above : ℕ → ℤ → ℕ
is_above m (pos n) = cond (ltb m n) 1 0
is_above m (negsuc n) = 0

-- f 0 + f 1 + .. + f (n - 1)
unfoldable pub total : (ℕ → ℕ) → ℕ → ℕ
total f zero = 0
total f (suc n) = total f n + f n

-- how many components of a pixel have a quotient, rounded down and not yet clamped, for which `test` gives 1; alpha is no component
unfoldable pub count_at : (ℤ → ℕ) → Settings → Frame → ℕ → ℕ → ℕ
count_at test s f row column = test (quotient_at s f red row column) + test (quotient_at s f green row column) + test (quotient_at s f blue row column)

-- of the pixels of a row
abbrev pub count_row : (ℤ → ℕ) → Settings → Frame → ℕ → ℕ
count_row test s f row = total (count_at test s f row) f.width

-- what was clipped in a row, and in a band: the `count` rows from row `first` on
unfoldable pub clipped_row : Settings → Frame → ℕ → Clipped
clipped_row s f row = record { below = count_row is_below s f row; above = count_row (is_above (max_of s.depth)) s f row }

unfoldable pub clipped_in : Settings → Frame → ℕ → ℕ → Clipped
clipped_in s f first count = record {
  below = total (λ r. (clipped_row s f (first + r)).below) count;
  above = total (λ r. (clipped_row s f (first + r)).above) count;
}

-- nothing, and two counts together
abbrev pub unclipped : Clipped
unclipped = record { below = 0; above = 0 }

abbrev pub together : Clipped → Clipped → Clipped
together a b = record { below = a.below + b.below; above = a.above + b.above }

-- the counts of two neighbouring bands add up to those of both
abbrev pub BandsAdd : Type 0
BandsAdd =
    (s : Settings) (f : Frame) (first a b : ℕ)
    → clipped_in s f first (a + b) ≡ together (clipped_in s f first a) (clipped_in s f (first + a) b)
