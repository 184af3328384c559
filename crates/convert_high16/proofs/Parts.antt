-- A luma row's samples in the buffers are the parts of its planes, unpacked.
-- Assumes nothing.
use mathlib.Core.Path.{◌≡◌, sym, ◌∙◌}
use mathlib.Core.List.{List}
use Prim.Native.Nat.{ℕ, ◌-◌, ◌*◌, ◌%◌, ◌≤◌, ◌<◌}
use Rattle.std.specs.Prelude.{Some, None}
use lib.ListN.{length, take, get_or}
use Rattle.yuv_support.specs.declared.YuvBytesPacking.TheVariants.{MostSignificantBytes}
use Rattle.yuv_support.specs.declared.Settings.{Settings}
use Rattle.yuv_support.specs.declared.Clipped.{Clipped}
use Rattle.yuv_support.specs.Settings.{samples_of}
use Rattle.yuv_support.specs.Picture.{channels_of, row_of, element_of}
use Rattle.yuv_support.specs.Counts.{clipped_row}
use Rattle.yuv_support.specs.Blend.{Frame, chroma_width}
use Rattle.yuv_support.specs.Questions.{part_of}
use Rattle.images.specs.declared.ChromaRows.{ChromaRows}
use Rattle.images.specs.Rows.{chroma_rows}
use Rattle.images.proofs.Rows.{near_other}
use Rattle.numerics.specs.declared.Kernel.{Kernel}
use Rattle.numerics.specs.Kernel.{Words}
use Rattle.kernel.specs.Kernels.{most_of}
use Rattle.kernel.specs.Ordered.{ordered_value, ordered_clipped, Ready}
use Rattle.kernel.proofs.Frames.{Parts, columns_are, row_of_parts, clipped_of_parts, words_most}
use Rattle.convert_high16.specs.declared.HeldRows.{HeldRows}
use Rattle.convert_high16.specs.Held.{divided_by, held_row, Held, BothHeld, ChromaHeld}
use Rattle.convert_high16.proofs.Held.{divided_samples, in_place}

-- rows held as they were
kept : {n shift stride : ℕ} {p : ChromaRows} {plane : List ℕ} {before after : HeldRows n} → after ≡ before
    → BothHeld shift p stride plane before → BothHeld shift p stride plane after
kept e h = rw e h

-- of the chroma rows p that the code finds
module _ {s : Settings} {f : Frame} {k : Kernel} (ready : Ready s f k) (row : ℕ) {p : ChromaRows} (inside : row < f.height)
    (is : p ≡ chroma_rows s.sampling f.width f.height row) where
  -- room by the width is room by the number of columns
  pub by_room : {n : ℕ} → 2 * chroma_width f.width ≤ n → 2 * p.columns ≤ n
  by_room h = rw (columns_are ready row inside is) h

  pub neighbours : p.near % 2 ≡ p.other % 2 → p.near ≡ p.other
  neighbours = rw is (near_other s.sampling f.height row inside)

  -- rows held, by the number of columns
  by_columns : {n : ℕ} (stride : ℕ) (plane : List ℕ) (held : HeldRows n) → Held (16 - s.depth) (chroma_width f.width) stride plane held
      → Held (16 - s.depth) p.columns stride plane held
  by_columns stride plane held h = rw (columns_are ready row inside is) h

  held_parts : {n : ℕ} (luma : List ℕ) (u v : HeldRows n) → s.packing ≡ MostSignificantBytes
      → take f.width luma ≡ divided_by (16 - s.depth) (part_of f.y_stride row f.width f.y)
      → BothHeld (16 - s.depth) p f.u_stride f.u u → BothHeld (16 - s.depth) p f.v_stride f.v v
      → Parts s f row p (take f.width luma) (held_row p.columns u p.near) (held_row p.columns u p.other) (held_row p.columns v p.near) (held_row p.columns v p.other)
  held_parts luma u v high y hu hv = record {
    y_is = samples (part_of f.y_stride row f.width f.y) y;
    u_near = samples (part_of f.u_stride p.near p.columns f.u) (in_place hu.rows_held p.near hu.near);
    u_other = samples (part_of f.u_stride p.other p.columns f.u) (in_place hu.rows_held p.other hu.other);
    v_near = samples (part_of f.v_stride p.near p.columns f.v) (in_place hv.rows_held p.near hv.near);
    v_other = samples (part_of f.v_stride p.other p.columns f.v) (in_place hv.rows_held p.other hv.other);
  }
    where
      samples : {row : List ℕ} (part : List ℕ) → row ≡ divided_by (16 - s.depth) part → row ≡ samples_of s.packing s.depth part
      samples part e = rw high (e ∙ divided_samples s.depth part)

  -- what the rows of a picture find
  found : {n : ℕ} {u v : HeldRows n} → ChromaHeld s f u v → Held (16 - s.depth) p.columns f.u_stride f.u u × Held (16 - s.depth) p.columns f.v_stride f.v v
  found h = (by_columns f.u_stride f.u _ h.of_u, by_columns f.v_stride f.v _ h.of_v)

  -- a luma row and its chroma rows p, where they are held: u₀ and v₀ are the rows held before it, u₁ and v₁ those after its own are held
  module _ (words : Words k) (high : s.packing ≡ MostSignificantBytes) {n : ℕ} (luma : List ℕ) {y un uf vn vf : List ℕ} {u₀ v₀ u₁ v₁ u v : HeldRows n} (held : ChromaHeld s f u₀ v₀)
      (hold_u : Held (16 - s.depth) p.columns f.u_stride f.u u₀ → BothHeld (16 - s.depth) p f.u_stride f.u u₁)
      (hold_v : Held (16 - s.depth) p.columns f.v_stride f.v v₀ → BothHeld (16 - s.depth) p f.v_stride f.v v₁)
      (same : (u ≡ u₁) × (v ≡ v₁)) (unpacked : take f.width luma ≡ divided_by (16 - s.depth) (part_of f.y_stride row f.width f.y)) (ey : y ≡ take f.width luma)
      (eu : (un ≡ held_row p.columns u p.near) × (uf ≡ held_row p.columns u p.other)) (ev : (vn ≡ held_row p.columns v p.near) × (vf ≡ held_row p.columns v p.other))
      (hu : (j : ℕ) → get_or f.u j 0 ≤ 65535) (hv : (j : ℕ) → get_or f.v j 0 ≤ 65535) where
    parts : Parts s f row p y un uf vn vf
    parts =
        let before = found held in
        rw (ey, eu.0, eu.1, ev.0, ev.1) (held_parts luma u v high unpacked (kept same.0 (hold_u before.0)) (kept same.1 (hold_v before.1)))

    small : (plane : List ℕ) → ((j : ℕ) → get_or plane j 0 ≤ 65535) → (j : ℕ) → get_or plane j 0 ≤ most_of s.depth
    small plane h j = rw (words_most ready words) (h j)

    pub high_row : (xs : List ℕ) {done : List ℕ} → length xs ≡ f.width * channels_of s.order
        → done ≡ row_of (λ x. ordered_value k s.order s.mode f.width y un uf vn vf) 0 xs → done ≡ row_of (element_of s f) row xs
    high_row xs l e = e ∙ row_of_parts ready row inside is parts (small f.u hu) (small f.v hv) xs l

    pub high_counts : {told : Clipped} → told ≡ ordered_clipped k s.order s.mode f.width y un uf vn vf → told ≡ clipped_row s f row
    high_counts e = e ∙ clipped_of_parts ready row inside is parts (small f.u hu) (small f.v hv)

-- no row is held at first
none_named : {c : ℕ} → None ≡ Some c → ⊥
none_named e = absurd (cc)

pub none_held : {n : ℕ} (s : Settings) (f : Frame) (u v : HeldRows n) → u.even.number ≡ None → u.odd.number ≡ None → v.even.number ≡ None → v.odd.number ≡ None
    → ChromaHeld s f u v
none_held s f u v a b c d = record {
  of_u = record { even = λ r e. absurd (none_named (sym a ∙ e)); odd = λ r e. absurd (none_named (sym b ∙ e)) };
  of_v = record { even = λ r e. absurd (none_named (sym c ∙ e)); odd = λ r e. absurd (none_named (sym d ∙ e)) };
}
