-- A row in a channel order asks of the row functions what it asks itself; U and V may be exchanged.
-- Assumes nothing.
use mathlib.Core.Logic.{◌⊎◌, inl, inr}
use mathlib.Core.Path.{◌≡◌, sym, ap, ◌∙◌}
use mathlib.Core.List.{List}
use Prim.Native.Nat.{ℕ, ◌*◌}
use native.Mathlib.Nat.{mul_comm}
use lib.ListN.{length}
use Rattle.yuv_support.specs.declared.YuvSourceChannels.{YuvSourceChannels}
use Rattle.yuv_support.specs.declared.YuvSourceChannels.TheVariants.{Rgb, Rgba, Bgra, Bgr}
use Rattle.yuv_support.specs.Picture.{letters_of, channels_of}
use Rattle.numerics.specs.Row.{RowFits}
use Rattle.kernel.specs.Ordered.{OrderedFits}

module _ {o : YuvSourceChannels} {row y un uf vn vf : List ℕ} {width : ℕ} (n : ℕ) (e : channels_of o ≡ n) (f : OrderedFits o row y un uf vn vf width) where
  places : length row ≡ n * width
  places = f.places ∙ mul_comm width (channels_of o) ∙ ap (λ (m : ℕ). m * width) e

  three_or_four : (n ≡ 3) ⊎ (n ≡ 4)
  unfolding channels_of letters_of
  three_or_four = by_order o e
    where
      by_order : (a : YuvSourceChannels) → channels_of a ≡ n → (n ≡ 3) ⊎ (n ≡ 4)
      by_order Rgb h = inl (sym h)
      by_order Rgba h = inr (sym h)
      by_order Bgra h = inr (sym h)
      by_order Bgr h = inl (sym h)

  pub u_first : RowFits n row y un uf vn vf width
  u_first = record {
    letters = three_or_four;
    some = f.some;
    wide = f.wide;
    places = places;
    luma = f.luma;
    first_near = f.u_near;
    first_far = f.u_far;
    third_near = f.v_near;
    third_far = f.v_far;
  }

  pub v_first : RowFits n row y vn vf un uf width
  v_first = record {
    letters = three_or_four;
    some = f.some;
    wide = f.wide;
    places = places;
    luma = f.luma;
    first_near = f.v_near;
    first_far = f.v_far;
    third_near = f.u_near;
    third_far = f.u_far;
  }
