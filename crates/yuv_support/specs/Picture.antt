-- Document 01, "The words of demand 3", and document 02, slip 5: where the pixels stand, the rows of a band, and the whole destination after
-- a conversion.
-- Definitions only.
use Rattle.std.specs.Prelude.{ℕ, suc, ◌+◌, ◌-◌, ◌*◌, ◌/◌, ◌%◌, ◌≤◌, ◌<◌, min, ◌≡◌, cond, ◌&&◌, List, [], ◌∷◌, map, eqb, leb, ltb, length, get_or, take, drop}
use Rattle.yuv_support.specs.declared.YuvSourceChannels.{YuvSourceChannels}
use Rattle.yuv_support.specs.declared.YuvSourceChannels.TheVariants.{Rgb, Rgba, Bgra, Bgr}
use Rattle.yuv_support.specs.declared.Settings.{Settings}
use Rattle.yuv_support.specs.Settings.{max_of}
use Rattle.yuv_support.specs.Blend.{Frame}
use Rattle.yuv_support.specs.Component.{Component, red, green, blue, component_at}

-- a letter of a channel order: a component, or the opaque alpha
pub data Letter : Type 0 where
  colour : Component → Letter
  alpha : Letter

unfoldable pub letters_of : YuvSourceChannels → List Letter
letters_of Rgb = colour red ∷ colour green ∷ colour blue ∷ []
letters_of Rgba = colour red ∷ colour green ∷ colour blue ∷ alpha ∷ []
letters_of Bgra = colour blue ∷ colour green ∷ colour red ∷ alpha ∷ []
letters_of Bgr = colour blue ∷ colour green ∷ colour red ∷ []

-- channels: the number of letters in the order's name
unfoldable pub channels_of : YuvSourceChannels → ℕ
channels_of o = length (letters_of o)

-- where a component stands among the letters
unfoldable pub place_in : YuvSourceChannels → Component → ℕ
place_in Rgb red = 0
place_in Rgb green = 1
place_in Rgb blue = 2
place_in Rgba red = 0
place_in Rgba green = 1
place_in Rgba blue = 2
place_in Bgra red = 2
place_in Bgra green = 1
place_in Bgra blue = 0
place_in Bgr red = 2
place_in Bgr green = 1
place_in Bgr blue = 0

-- the value of a letter of the pixel at a row and a column: its component, or the opaque alpha M
unfoldable pub value_of : Settings → Frame → ℕ → ℕ → Letter → ℕ
value_of s f row column (colour c) = component_at s f c row column
value_of s f row column alpha = max_of s.depth

-- the pixel: its three components and, where the order has one, the opaque alpha, as the order's letters stand
abbrev pub pixel_of : Settings → Frame → ℕ → ℕ → List ℕ
pixel_of s f row column = map (value_of s f row column) (letters_of s.order)

-- where it begins in the destination, and what the destination holds there
abbrev pub pixel_begin : Settings → ℕ → ℕ → ℕ → ℕ
pixel_begin s stride row column = stride * row + channels_of s.order * column

abbrev pub pixel_in : Settings → List ℕ → ℕ → ℕ → ℕ → List ℕ
pixel_in s rgb stride row column = take (channels_of s.order) (drop (pixel_begin s stride row column) rgb)

-- element j of the destination belongs to no pixel of a band of rows
abbrev pub OfNoPixel : Settings → Frame → ℕ → ℕ → ℕ → ℕ → Type 0
OfNoPixel s f stride first count j =
    (row column k : ℕ) → first ≤ row → row < first + count → column < f.width → k < channels_of s.order
    → j ≡ pixel_begin s stride row column + k → ⊥

-- element x of a row, counted from the row's begin: the values stand as the letters do
unfoldable pub element_of : Settings → Frame → ℕ → ℕ → ℕ
element_of s f row x =
    value_of s f row (x / channels_of s.order) (get_or (letters_of s.order) (x % channels_of s.order) alpha)

-- ---- a strided buffer some of whose rows were written

-- each element replaced by g of its place, counted from i, and of itself
unfoldable pub overlay : (ℕ → ℕ → ℕ) → ℕ → List ℕ → List ℕ
overlay g i [] = []
overlay g i (x ∷ xs) = g i x ∷ overlay g (suc i) xs

-- a whole row: f of the row and of each place
abbrev pub row_of : (ℕ → ℕ → ℕ) → ℕ → List ℕ → List ℕ
row_of f row xs = overlay (λ x old. f row x) 0 xs

-- the first c elements replaced by g of their places
abbrev pub up_to : ℕ → (ℕ → ℕ) → ℕ → ℕ → ℕ
up_to c g x old = cond (ltb x c) (g x) old

-- what stands at place j: f of its row and its place in the row, where the row is one of `count` rows from `first` on and the place is
-- among the row's first n; elsewhere old, what was there
abbrev pub cell : (ℕ → ℕ → ℕ) → ℕ → ℕ → ℕ → ℕ → ℕ → ℕ → ℕ
cell f stride n first count j old =
    cond (leb first (j / stride) && (ltb (j / stride) (first + count) && ltb (j % stride) n)) (f (j / stride) (j % stride)) old

abbrev pub painted : (ℕ → ℕ → ℕ) → ℕ → ℕ → ℕ → ℕ → List ℕ → List ℕ
painted f stride n first count xs = overlay (cell f stride n first count) 0 xs

-- the destination with the pixels of a band of rows written and all else kept
unfoldable pub band : Settings → Frame → ℕ → ℕ → ℕ → List ℕ → List ℕ
band s f stride first count old = painted (element_of s f) stride (f.width * channels_of s.order) first count old

-- how many rows a band has, from row `first` on with a limit: min(limit, rows left), made even by dropping one row unless it reaches the
-- last row
unfoldable pub band_rows : ℕ → ℕ → ℕ → ℕ
band_rows height first limit =
    let n = min limit (height - first) in
    cond (eqb (first + n) height) n (n - n % 2)

-- the finished picture: all rows
unfoldable pub picture : Settings → Frame → ℕ → List ℕ → List ℕ
picture s f stride old = band s f stride 0 f.height old
