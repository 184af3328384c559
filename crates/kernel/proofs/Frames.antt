-- Rows of a frame's planes, lent as parts: a part's elements, unpacked, are the plane's samples, and the two chroma rows of a luma row,
-- blended as two rows, give what the definition blends, also where it blends one.
-- Assumes nothing.
use mathlib.Core.Path.{◌≡◌, refl, sym, ap, ◌∙◌}
use mathlib.Core.Bool.{Bool, true, false}
use mathlib.Core.List.{List}
use Prim.Native.Nat.{ℕ, ◌+◌, ◌-◌, ◌*◌, ◌/◌, ◌≤◌, ◌<◌}
use native.Mathlib.Nat.{le_trans}
use native.Mathlib.Omega.{arith}
use lib.Dec.{T}
use lib.ListN.{length, get_or}
use Rattle.yuv_support.specs.declared.YuvBytesPacking.TheVariants.{LeastSignificantBytes}
use Rattle.yuv_support.specs.declared.YuvMode.{YuvMode}
use Rattle.yuv_support.specs.declared.YuvMode.TheVariants.{AsSource, Matched}
use Rattle.yuv_support.specs.declared.Settings.{Settings}
use Rattle.yuv_support.specs.Settings.{among, depths16, unpacked, samples_of}
use Rattle.yuv_support.specs.Coefficients.{coefficients_of}
use Rattle.yuv_support.specs.Blend.{Frame, Chroma, chroma_blue, chroma_red, Rows, one, two, Place, left, right, tail, sixteenths, rows_of, place_of, near_row, far_row, chroma_width, chroma_height, sample, luma_at, chroma_sample, chroma16, tail_of, rounded}
use Rattle.yuv_support.specs.Picture.{channels_of, row_of, element_of}
use Rattle.yuv_support.specs.Counts.{clipped_row}
use Rattle.yuv_support.specs.Questions.{needed, part_of}
use Rattle.yuv_support.proofs.Blend.{near_row_lt}
use Rattle.yuv_support.proofs.Depths.{by_depth}
use Rattle.yuv_support.proofs.Packing.{unpacked_le, samples_length, samples_at, low_samples}
use Rattle.yuv_support.proofs.Rows.{row_fits, part_length, part_at}
use Rattle.images.specs.declared.ChromaRows.{ChromaRows}
use Rattle.images.specs.Rows.{second_of, other_row, chroma_rows}
use Rattle.images.proofs.Rows.{other_row_below}
use Rattle.numerics.specs.declared.Kernel.{Kernel}
use Rattle.numerics.specs.Kernel.{Bytes, Words}
use Rattle.numerics.specs.Row.{at}
use Rattle.kernel.specs.Kernels.{red_first, offset_of, most_of, arranged, kernel_of}
use Rattle.kernel.specs.Ordered.{pick, last_of, ordered_value, ordered_clipped, OrderedFits, Ready}
use Rattle.kernel.proofs.Rows.{row_is, clipped_is}

-- one chroma row has the weights of two equal ones
one_as_two : (mode : YuvMode) (ch : Chroma) (place : Place) (a b c e : ℕ) → sixteenths mode ch one place a b c e ≡ sixteenths mode ch two place a b a b
unfolding sixteenths
one_as_two mode ch left a b c e = omega arith
one_as_two mode ch right a b c e = omega arith
one_as_two mode chroma_blue tail a b c e = omega arith
one_as_two AsSource chroma_red tail a b c e = omega arith
one_as_two Matched chroma_red tail a b c e = omega arith

pub blended_as_two : (s : Settings) (f : Frame) (ch : Chroma) (row column : ℕ) → chroma16 s f ch row column
    ≡ sixteenths s.mode ch two (place_of f.width column)
    (chroma_sample s f ch (near_row s.sampling f.height row) (column / 2))
    (chroma_sample s f ch (near_row s.sampling f.height row) (column / 2 + 1))
    (chroma_sample s f ch (other_row s.sampling f.height row) (column / 2))
    (chroma_sample s f ch (other_row s.sampling f.height row) (column / 2 + 1))
unfolding chroma16 other_row
blended_as_two s f ch row column = go (rows_of s.sampling f.height row)
  where
    near : ℕ
    near = near_row s.sampling f.height row

    far : ℕ
    far = far_row s.sampling f.height row

    go : (rows : Rows) → sixteenths s.mode ch rows (place_of f.width column)
        (chroma_sample s f ch near (column / 2)) (chroma_sample s f ch near (column / 2 + 1))
        (chroma_sample s f ch far (column / 2)) (chroma_sample s f ch far (column / 2 + 1))
        ≡ sixteenths s.mode ch two (place_of f.width column)
        (chroma_sample s f ch near (column / 2)) (chroma_sample s f ch near (column / 2 + 1))
        (chroma_sample s f ch (second_of rows near far) (column / 2)) (chroma_sample s f ch (second_of rows near far) (column / 2 + 1))
    go one = one_as_two s.mode ch (place_of f.width column) _ _ _ _
    go two = refl

-- ---- the parts of a luma row

-- the rows of the planes that a luma row needs lie inside the planes
pub record PartsIn (f : Frame) (row : ℕ) (p : ChromaRows) : Type 0 where
  pub y : f.y_stride * row + f.width ≤ length f.y
  pub u_near : f.u_stride * p.near + p.columns ≤ length f.u
  pub u_other : f.u_stride * p.other + p.columns ≤ length f.u
  pub v_near : f.v_stride * p.near + p.columns ≤ length f.v
  pub v_other : f.v_stride * p.other + p.columns ≤ length f.v

-- the parts themselves, each taken by `of`
pub record PartsBy (of : List ℕ → List ℕ) (f : Frame) (row : ℕ) (p : ChromaRows) (y un uf vn vf : List ℕ) : Type 0 where
  pub y_is : y ≡ of (part_of f.y_stride row f.width f.y)
  pub u_near : un ≡ of (part_of f.u_stride p.near p.columns f.u)
  pub u_other : uf ≡ of (part_of f.u_stride p.other p.columns f.u)
  pub v_near : vn ≡ of (part_of f.v_stride p.near p.columns f.v)
  pub v_other : vf ≡ of (part_of f.v_stride p.other p.columns f.v)

-- unpacked, so that they hold samples
abbrev pub Parts : Settings → Frame → ℕ → ChromaRows → List ℕ → List ℕ → List ℕ → List ℕ → List ℕ → Type 0
Parts s f row p y un uf vn vf = PartsBy (samples_of s.packing s.depth) f row p y un uf vn vf

-- as they were lent, which is the same in the low bits
pub low_parts : (s : Settings) {f : Frame} {row : ℕ} {p : ChromaRows} {y un uf vn vf : List ℕ} → s.packing ≡ LeastSignificantBytes
    → PartsBy (λ part. part) f row p y un uf vn vf → Parts s f row p y un uf vn vf
low_parts s low lent = record {
  y_is = lent.y_is ∙ same _;
  u_near = lent.u_near ∙ same _;
  u_other = lent.u_other ∙ same _;
  v_near = lent.v_near ∙ same _;
  v_other = lent.v_other ∙ same _;
}
  where
    same : (part : List ℕ) → part ≡ samples_of s.packing s.depth part
    same part = rw low (low_samples s.depth part)

-- of the chroma rows p that the code finds
module _ {s : Settings} {f : Frame} {k : Kernel} (ready : Ready s f k) (row : ℕ) {p : ChromaRows} (inside : row < f.height)
    (is : p ≡ chroma_rows s.sampling f.width f.height row) where
  pub columns_are : p.columns ≡ chroma_width f.width
  columns_are = rw is

  pub parts_in : PartsIn f row p
  parts_in =
      let near : p.near < chroma_height s.sampling f.height = rw is (near_row_lt s.sampling f.height row inside) in
      let other : p.other < chroma_height s.sampling f.height = rw is (other_row_below s.sampling f.height row inside) in
      record {
        y = row_fits f.y_stride f.width f.height row (length f.y) ready.y_length inside;
        u_near = chroma_in f.u_stride p.near (length f.u) ready.u_length near;
        u_other = chroma_in f.u_stride p.other (length f.u) ready.u_length other;
        v_near = chroma_in f.v_stride p.near (length f.v) ready.v_length near;
        v_other = chroma_in f.v_stride p.other (length f.v) ready.v_length other;
      }
    where
      chroma_in : (stride r size : ℕ) → needed stride (chroma_width f.width) (chroma_height s.sampling f.height) ≤ size
          → r < chroma_height s.sampling f.height → stride * r + p.columns ≤ size
      chroma_in stride r size long below =
          rw columns_are (row_fits stride (chroma_width f.width) (chroma_height s.sampling f.height) r size long below)

  module _ {y un uf vn vf : List ℕ} (parts : Parts s f row p y un uf vn vf) (xs : List ℕ) (l : length xs ≡ f.width * channels_of s.order) where
    pub parts_fit : OrderedFits s.order xs y un uf vn vf f.width
    parts_fit = record {
      some = ready.width_least;
      wide = ready.width_most;
      places = l;
      luma = rw parts.y_is (as_long f.y_stride row f.width f.y parts_in.y refl);
      u_near = rw parts.u_near (as_long f.u_stride p.near p.columns f.u parts_in.u_near columns_are);
      u_far = rw parts.u_other (as_long f.u_stride p.other p.columns f.u parts_in.u_other columns_are);
      v_near = rw parts.v_near (as_long f.v_stride p.near p.columns f.v parts_in.v_near columns_are);
      v_far = rw parts.v_other (as_long f.v_stride p.other p.columns f.v parts_in.v_other columns_are);
    }
      where
        as_long : (stride r n : ℕ) (plane : List ℕ) {m : ℕ} → stride * r + n ≤ length plane → n ≡ m → m ≤ length (samples_of s.packing s.depth (part_of stride r n plane))
        as_long stride r n plane h e = omega (arith, part_length (stride * r) n plane (omega arith), samples_length s.packing s.depth (part_of stride r n plane))

  -- what the row functions make of the parts is the row of the definition, and what they tell is what is clipped in it
  module _ {y un uf vn vf : List ℕ} (parts : Parts s f row p y un uf vn vf) (hu : (i : ℕ) → get_or f.u i 0 ≤ most_of s.depth) (hv : (i : ℕ) → get_or f.v i 0 ≤ most_of s.depth) where
    small : (ch : Chroma) (r i : ℕ) → chroma_sample s f ch r i ≤ most_of s.depth
    small chroma_blue r i = le_trans (unpacked_le s.packing s.depth _) (hu (f.u_stride * r + i))
    small chroma_red r i = le_trans (unpacked_le s.packing s.depth _) (hv (f.v_stride * r + i))

    blended : (ch : Chroma) (column : ℕ) → chroma16 s f ch row column
        ≡ sixteenths s.mode ch two (place_of f.width column) (chroma_sample s f ch p.near (column / 2)) (chroma_sample s f ch p.near (column / 2 + 1))
        (chroma_sample s f ch p.other (column / 2)) (chroma_sample s f ch p.other (column / 2 + 1))
    blended ch column = rw is (blended_as_two s f ch row column)

    abbrev nears : Chroma → List ℕ
    nears ch = pick ch un vn

    abbrev fars : Chroma → List ℕ
    fars ch = pick ch uf vf

    abbrev lasts : Chroma → ℕ
    lasts ch = last_of s.mode f.width ch (nears ch) (fars ch)

    -- sample i of a part of a plane
    sample_at : {part : List ℕ} (stride r n : ℕ) (plane : List ℕ) → part ≡ samples_of s.packing s.depth (part_of stride r n plane)
        → (i : ℕ) → i < n → at part i ≡ sample s plane stride r i
    sample_at stride r n plane e i h =
        rw e (samples_at s.packing s.depth (part_of stride r n plane) i ∙ ap (unpacked s.packing s.depth) (part_at (stride * r) n plane i h))

    luma_at_lem : (i : ℕ) → i < f.width → at y i ≡ luma_at s f row i
    luma_at_lem = sample_at f.y_stride row f.width f.y parts.y_is

    near_at : (ch : Chroma) (i : ℕ) → i < chroma_width f.width → at (nears ch) i ≡ chroma_sample s f ch p.near i
    near_at chroma_blue i h = sample_at f.u_stride p.near p.columns f.u parts.u_near i (rw columns_are h)
    near_at chroma_red i h = sample_at f.v_stride p.near p.columns f.v parts.v_near i (rw columns_are h)

    far_at : (ch : Chroma) (i : ℕ) → i < chroma_width f.width → at (fars ch) i ≡ chroma_sample s f ch p.other i
    far_at chroma_blue i h = sample_at f.u_stride p.other p.columns f.u parts.u_other i (rw columns_are h)
    far_at chroma_red i h = sample_at f.v_stride p.other p.columns f.v parts.v_other i (rw columns_are h)

    last_at : (ch : Chroma) → lasts ch ≡ rounded (tail_of s.mode ch (chroma_sample s f ch p.near (chroma_width f.width - 1)) (chroma_sample s f ch p.other (chroma_width f.width - 1)))
    last_at ch =
        let w = ready.width_least in
        rw (near_at ch (chroma_width f.width - 1) (omega arith), far_at ch (chroma_width f.width - 1) (omega arith))

    pub row_of_parts : (xs : List ℕ) → length xs ≡ f.width * channels_of s.order
        → row_of (λ r. ordered_value k s.order s.mode f.width y un uf vn vf) 0 xs ≡ row_of (element_of s f) row xs
    unfolding ordered_value
    row_of_parts xs l =
        rw ready.kernel
        (row_is s f ready.known ready.weights small row p.near p.other blended y nears fars lasts luma_at_lem near_at far_at last_at xs l)

    pub clipped_of_parts : ordered_clipped k s.order s.mode f.width y un uf vn vf ≡ clipped_row s f row
    unfolding ordered_clipped
    clipped_of_parts =
        rw ready.kernel
        (clipped_is s f ready.known ready.weights small row p.near p.other blended y nears fars lasts luma_at_lem near_at far_at last_at)

-- ---- the largest sample of a kernel's width

module _ {s : Settings} {f : Frame} {k : Kernel} (ready : Ready s f k) where
  offset_is : k.offset ≡ offset_of s.depth
  unfolding kernel_of
  offset_is = rw ready.kernel (of_arranged (red_first s.order))
    where
      of_arranged : (b : Bool) → (arranged s.depth s.range b (coefficients_of s)).offset ≡ offset_of s.depth
      of_arranged true = refl
      of_arranged false = refl

  pub bytes_most : Bytes k → most_of s.depth ≡ 4095
  unfolding offset_of most_of
  bytes_most b =
      by_depth (λ d. offset_of d ≡ 32511 → most_of d ≡ 4095) (λ e. refl) (λ e. absurd (omega arith)) (λ e. absurd (omega arith))
      s.depth ready.known (sym offset_is ∙ b.offset)

  pub words_most : Words k → most_of s.depth ≡ 65535
  unfolding offset_of most_of
  words_most b =
      by_depth (λ d. offset_of d ≡ 262144 → most_of d ≡ 65535) (λ e. absurd (omega arith)) (λ e. refl) (λ e. refl)
      s.depth ready.known (sym offset_is ∙ b.offset)

  -- a kernel of words is one of a u16 depth
  pub words_depth : Words k → T (among s.depth depths16)
  unfolding offset_of
  words_depth b =
      by_depth (λ d. offset_of d ≡ 262144 → T (among d depths16)) (λ e. absurd (omega arith)) (λ e. tt) (λ e. tt)
      s.depth ready.known (sym offset_is ∙ b.offset)
