-- Laws of the letters of a pixel and of the picture. Element column·channels + k of a row holds letter k of that column's pixel (`element_at`),
-- so in the written band each pixel stands whole (`pixel_in_lem`), its components where the definition looks for them (`component_in_lem`); what
-- belongs to no pixel of the band is kept (`band_kept`); and where every component is close to the exact equation the band is faithful
-- (`faithful_band`). Neighbouring bands make one (`band_join`).
-- Assumes nothing.
use mathlib.Core.Path.{◌≡◌, refl, sym, ap, ◌∙◌}
use mathlib.Core.Logic.{◌⊎◌, inl, inr}
use mathlib.Core.List.{List, [], ◌∷◌, map}
use Prim.Native.Nat.{ℕ, zero, suc, ◌+◌, ◌*◌, ◌/◌, ◌%◌, ◌≤◌, ◌<◌}
use native.Mathlib.Nat.{mul_comm, mul-le-mul_right, div-add-mod, mod-lt, div-lt_iff_lt-mul, not-suc-le-zero, le_of_suc-le-suc}
use native.Mathlib.Omega.{arith}
use lib.Arith.{digits_lt, digits_div, digits_mod}
use lib.Dec.{lit<, lit≤}
use lib.ListN.{length, get_or, take, drop, length-map}
use lib.Seq.{ext_get_or}
use Rattle.std.proofs.lemmas.Bool.{cases_lt}
use Rattle.yuv_support.specs.declared.YuvSourceChannels.{YuvSourceChannels}
use Rattle.yuv_support.specs.declared.YuvSourceChannels.TheVariants.{Rgb, Rgba, Bgra, Bgr}
use Rattle.yuv_support.specs.declared.Settings.{Settings}
use Rattle.yuv_support.specs.Blend.{Frame, chroma_blue, chroma_red, luma_at, chroma16}
use Rattle.yuv_support.specs.Component.{Component, red, green, blue, component_at}
use Rattle.yuv_support.specs.Picture.{colour, alpha, letters_of, channels_of, place_in, value_of, pixel_of, pixel_begin, pixel_in, OfNoPixel, element_of, band}
use Rattle.yuv_support.specs.Questions.{needed}
use Rattle.yuv_support.specs.Distance.{exact_value, Close, component_in, FaithfulBand}
use Rattle.yuv_support.proofs.Rows.{Outside, cell_at, cell_kept, row_fits, part_length, part_at, painted_length, painted_none, painted_join}

-- ---- letters and channels

pub channels_rgb : channels_of Rgb ≡ 3
unfolding channels_of letters_of
channels_rgb = refl

pub channels_rgba : channels_of Rgba ≡ 4
unfolding channels_of letters_of
channels_rgba = refl

pub channels_bgra : channels_of Bgra ≡ 4
unfolding channels_of letters_of
channels_bgra = refl

pub channels_bgr : channels_of Bgr ≡ 3
unfolding channels_of letters_of
channels_bgr = refl

pub three_or_four_channels : (o : YuvSourceChannels) → (3 ≤ channels_of o) × (channels_of o ≤ 4)
unfolding channels_of letters_of
three_or_four_channels Rgb = (lit≤ tt, lit≤ tt)
three_or_four_channels Rgba = (lit≤ tt, lit≤ tt)
three_or_four_channels Bgra = (lit≤ tt, lit≤ tt)
three_or_four_channels Bgr = (lit≤ tt, lit≤ tt)

-- a component stands among the letters, at its place
placed : (o : YuvSourceChannels) (c : Component) → (place_in o c < channels_of o) × (get_or (letters_of o) (place_in o c) alpha ≡ colour c)
unfolding channels_of letters_of place_in
placed Rgb red = (lit< tt, refl)
placed Rgb green = (lit< tt, refl)
placed Rgb blue = (lit< tt, refl)
placed Rgba red = (lit< tt, refl)
placed Rgba green = (lit< tt, refl)
placed Rgba blue = (lit< tt, refl)
placed Bgra red = (lit< tt, refl)
placed Bgra green = (lit< tt, refl)
placed Bgra blue = (lit< tt, refl)
placed Bgr red = (lit< tt, refl)
placed Bgr green = (lit< tt, refl)
placed Bgr blue = (lit< tt, refl)

pub place_below : (o : YuvSourceChannels) (c : Component) → place_in o c < channels_of o
place_below o c = (placed o c).0

pub letter_at_place : (o : YuvSourceChannels) (c : Component) → get_or (letters_of o) (place_in o c) alpha ≡ colour c
letter_at_place o c = (placed o c).1

-- the pixel has as many values as the order has letters, and each is its letter's
pixel_length : (s : Settings) (f : Frame) (row column : ℕ) → length (pixel_of s f row column) ≡ channels_of s.order
unfolding channels_of
pixel_length s f row column = length-map (letters_of s.order) (value_of s f row column)

map_at : {A : Type 0} (g : A → ℕ) (d : A) (l : List A) (k : ℕ) → k < length l → get_or (map g l) k 0 ≡ g (get_or l k d)
map_at g d [] k h = absurd (not-suc-le-zero h)
map_at g d (x ∷ xs) zero h = refl
map_at g d (x ∷ xs) (suc k) h = map_at g d xs k (le_of_suc-le-suc h)

pixel_at : (s : Settings) (f : Frame) (row column k : ℕ) → k < channels_of s.order
    → get_or (pixel_of s f row column) k 0 ≡ value_of s f row column (get_or (letters_of s.order) k alpha)
unfolding channels_of
pixel_at s f row column k h = map_at (value_of s f row column) alpha (letters_of s.order) k h

-- ---- the elements of a row

pub element_at : (s : Settings) (f : Frame) (row column k : ℕ) → k < channels_of s.order
    → element_of s f row (column * channels_of s.order + k) ≡ value_of s f row column (get_or (letters_of s.order) k alpha)
unfolding element_of
element_at s f row column k h =
    let d : (column * channels_of s.order + k) / channels_of s.order ≡ column = digits_div column h in
    let m : (column * channels_of s.order + k) % channels_of s.order ≡ k = digits_mod column h in
    rw (d, m)

-- ---- the written band

pub band_length : (s : Settings) (f : Frame) (stride first count : ℕ) (old : List ℕ) → length (band s f stride first count old) ≡ length old
unfolding band
band_length s f stride first count old = painted_length (element_of s f) stride (f.width * channels_of s.order) first count old

pub no_band : (s : Settings) (f : Frame) (stride first : ℕ) (old : List ℕ) → old ≡ band s f stride first 0 old
unfolding band
no_band s f stride first old = painted_none (element_of s f) stride (f.width * channels_of s.order) first old

-- a band and the one after it
pub band_join : (s : Settings) (f : Frame) (stride first a b : ℕ) (old : List ℕ)
    → band s f stride first (a + b) old ≡ band s f stride (first + a) b (band s f stride first a old)
unfolding band
band_join s f stride first a b old = painted_join (element_of s f) stride (f.width * channels_of s.order) first a b old

module _ (s : Settings) (f : Frame) (stride first count : ℕ) (old : List ℕ) (fits : f.width * channels_of s.order ≤ stride) where
  letter_in : (row column k : ℕ) → first ≤ row → row < first + count → column < f.width → k < channels_of s.order
      → stride * row + f.width * channels_of s.order ≤ length old
      → get_or (band s f stride first count old) (pixel_begin s stride row column + k) 0
      ≡ value_of s f row column (get_or (letters_of s.order) k alpha)
  unfolding band
  letter_in row column k lo hi hc hk long =
      let n : ℕ = channels_of s.order in
      let x : ℕ = column * n + k in
      let hx : x < f.width * n = digits_lt hc hk in
      let e : stride * row + n * column + k ≡ stride * row + x = rw (mul_comm n column) (omega arith) in
      rw e
      (cell_at (element_of s f) stride (f.width * n) first count row x old fits lo hi hx (omega arith) ∙ element_at s f row column k hk)

  pub component_in_lem : (c : Component) (row column : ℕ) → first ≤ row → row < first + count → column < f.width
      → stride * row + f.width * channels_of s.order ≤ length old
      → component_in s (band s f stride first count old) stride c row column ≡ component_at s f c row column
  unfolding value_of
  component_in_lem c row column lo hi hc long =
      letter_in row column (place_in s.order c) lo hi hc (place_below s.order c) long
      ∙ ap (value_of s f row column) (letter_at_place s.order c)

  pub pixel_in_lem : (row column : ℕ) → first ≤ row → row < first + count → column < f.width
      → stride * row + f.width * channels_of s.order ≤ length old
      → pixel_in s (band s f stride first count old) stride row column ≡ pixel_of s f row column
  pixel_in_lem row column lo hi hc long =
      ext_get_or 0 _ _ (same ∙ sym (pixel_length s f row column))
      (λ k b. let hk : k < n = omega (arith, same) in
      part_at begin n out k hk ∙ letter_in row column k lo hi hc hk long
      ∙ sym (pixel_at s f row column k hk))
    where
      n : ℕ
      n = channels_of s.order

      begin : ℕ
      begin = pixel_begin s stride row column

      out : List ℕ
      out = band s f stride first count old

      same : length (take n (drop begin out)) ≡ n
      same =
          let l : length out ≡ length old = band_length s f stride first count old in
          let h : column + 1 ≤ f.width = omega arith in
          let m : n * (column + 1) ≤ f.width * n = rw (mul_comm n (column + 1)) (mul-le-mul_right n h) in
          part_length begin n out (omega arith)

-- every component of the frame is close to the exact equation
abbrev pub ComponentsClose : Settings → Frame → Type 0
ComponentsClose s f =
    (c : Component) (row column : ℕ) → row < f.height → column < f.width
    → Close s.depth s.range s.matrix (component_at s f c row column)
    (exact_value s.depth s.range s.matrix c (luma_at s f row column) (chroma16 s f chroma_blue row column) (chroma16 s f chroma_red row column))

module _ (s : Settings) (f : Frame) (stride : ℕ) (old : List ℕ) (close : ComponentsClose s f)
    (fits : f.width * channels_of s.order ≤ stride)
    (long : needed stride (f.width * channels_of s.order) f.height ≤ length old) where
  pub faithful_band : (first count : ℕ) → first + count ≤ f.height → FaithfulBand s f stride first count (band s f stride first count old)
  faithful_band first count below c row column lo hi hc =
      let hr : row < f.height = omega arith in
      let l = row_fits stride (f.width * channels_of s.order) f.height row (length old) long hr in
      rw (component_in_lem s f stride first count old fits c row column lo hi hc l) (close c row column hr hc)

-- what belongs to no pixel is kept: an element of the band's rows that is among the first of its row is a letter of a pixel
pub band_kept : (s : Settings) (f : Frame) (stride first count : ℕ) (old : List ℕ) (j : ℕ) → OfNoPixel s f stride first count j
    → get_or (band s f stride first count old) j 0 ≡ get_or old j 0
unfolding band
band_kept s f stride first count old j none =
    cell_kept (element_of s f) stride (f.width * n) first count j old
    (outside (cases_lt (j / stride) first) (cases_lt (j / stride) (first + count)) (cases_lt x (f.width * n)))
  where
    n : ℕ
    n = channels_of s.order

    x : ℕ
    x = j % stride

    least : 0 < n
    least = let h = (three_or_four_channels s.order).0 in omega arith

    place : j ≡ stride * (j / stride) + n * (x / n) + x % n
    place = let a = div-add-mod j stride in let b = div-add-mod x n in omega arith

    outside : (j / stride < first) ⊎ (first ≤ j / stride) → (j / stride < first + count) ⊎ (first + count ≤ j / stride)
        → (x < f.width * n) ⊎ (f.width * n ≤ x) → Outside stride (f.width * n) first count j
    outside _ _ (inr past) = inr (inr past)
    outside (inl above) _ (inl _) = inl above
    outside (inr _) (inr below) (inl _) = inr (inl below)
    outside (inr lo) (inl hi) (inl hx) = absurd (none (j / stride) (x / n) (x % n) lo hi ((div-lt_iff_lt-mul least).1 hx) (mod-lt x least) place)
