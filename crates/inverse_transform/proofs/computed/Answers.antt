use Rattle.yuv_support.specs.Coefficients.{computed_of}
use Rattle.inverse_transform.proofs.computed.Goals as goal

pub returns : goal.returns
unfolding computed_of
returns c =
    simp (c.to_integers.ensures, c.get_inverse_transform.ensures, c.get_kr_kb-k.ensures, c.get_yuv_range-chroma.ensures, c.max_of-max.ensures)
