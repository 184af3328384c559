-- A plane that a loop writes row by row, at either element width: what it keeps (`Painting`), and one row more.
-- Assumes nothing.
use mathlib.Core.Path.{◌≡◌, refl, ap, ◌∙◌}
use mathlib.Core.List.{List}
use Prim.Native.Nat.{ℕ, ◌+◌, ◌-◌, ◌*◌, ◌≤◌, ◌<◌}
use native.Mathlib.Omega.{arith}
use borrow.Rule.Slice.PartMut.{put_mid}
use lib.ListN.{length, take, drop}
use Rattle.yuv_support.specs.Picture.{row_of, painted}
use Rattle.yuv_support.specs.Questions.{needed}
use Rattle.yuv_support.proofs.Rows.{painted_none, painted_length, row_fits, row_length, row_back}

-- the first r of so many rows have f's elements at their first n places, and all else is as it stood in plane₀
pub record Painting (f : ℕ → ℕ → ℕ) (stride n rows : ℕ) (plane₀ plane : List ℕ) (r : ℕ) : Type 0 where
  pub most : r ≤ rows
  pub wide : n ≤ stride
  pub room : (q : ℕ) → q < rows → stride * q + n ≤ length plane₀
  pub same : length plane ≡ length plane₀
  pub done : plane ≡ painted f stride n 0 r plane₀

-- row r as it is lent
abbrev pub lent_row : ℕ → ℕ → List ℕ → ℕ → List ℕ
lent_row stride n plane r = take (stride * r + n - stride * r) (drop (stride * r) plane)

module _ {f : ℕ → ℕ → ℕ} {stride n rows : ℕ} {plane₀ : List ℕ} where
  pub painting_none : n ≤ stride → needed stride n rows ≤ length plane₀ → Painting f stride n rows plane₀ plane₀ 0
  painting_none w long =
      record {
        most = omega arith;
        wide = w;
        room = λ q t. row_fits stride n rows q (length plane₀) long t;
        same = refl;
        done = painted_none f stride n 0 plane₀;
      }

  module _ {plane : List ℕ} {r : ℕ} (d : Painting f stride n rows plane₀ plane r) where
    pub lent_length : r < rows → length (lent_row stride n plane r) ≡ n
    lent_length t = row_length stride n r plane (rw d.same (d.room r t))

    -- the row comes back as f's
    pub painting_more : {row : List ℕ} → r < rows → row ≡ row_of f r (lent_row stride n plane r)
        → Painting f stride n rows plane₀ (put_mid (stride * r) (stride * r + n - stride * r) plane row) (r + 1)
    painting_more {row} t is =
        let b = row_back f stride n 0 r r plane₀ plane row d.wide (d.room r t) (omega arith) d.done is in
        record {
          most = omega arith;
          wide = d.wide;
          room = d.room;
          same = ap length b ∙ painted_length f stride n 0 (r + 1) plane₀;
          done = b;
        }

    pub painting_all : rows ≤ r → plane ≡ painted f stride n 0 rows plane₀
    painting_all l = let e : rows ≡ r = omega (arith, d.most) in rw e d.done
