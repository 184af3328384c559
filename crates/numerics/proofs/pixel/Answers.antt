use mathlib.Core.Path.{◌∙◌}
use Rattle.numerics.specs.Kernel.{below_at, above_at}
use Rattle.numerics.proofs.Sums.{one_at_most}
use Rattle.numerics.proofs.SignedSums.{first_read, green_read, third_read, first_fits, green_fits, third_fits, first_letter, green_letter, third_letter}
use Rattle.numerics.proofs.pixel.Goals as goal

pub overflow_add-l : goal.overflow_add-l
overflow_add-l c =
    let a = c.args in
    let h = c.requires in
    rw (first_read a.k a.y a.p a.q h c.luma-l.ensures c.chroma.ensures) (first_fits a.k a.y a.p a.q h)

pub overflow_sub-l : goal.overflow_sub-l
overflow_sub-l c =
    let a = c.args in
    let h = c.requires in
    rw (green_read a.k a.y a.p a.q h c.luma-l.ensures c.chroma-2.ensures) (green_fits a.k a.y a.p a.q h)

pub overflow_add-l-2 : goal.overflow_add-l-2
overflow_add-l-2 c =
    let a = c.args in
    let h = c.requires in
    rw (third_read a.k a.y a.p a.q h c.luma-l.ensures c.chroma-3.ensures) (third_fits a.k a.y a.p a.q h)

pub joined-requires : goal.joined-requires
joined-requires c =
    let a = c.args in
    let h = c.requires in
    let l = c.luma-l.ensures in (
      one_at_most _ _ _ _ (first_letter a.k a.y a.p a.q h l c.chroma.ensures c.qrshr-a.ensures),
      one_at_most _ _ _ _ (green_letter a.k a.y a.p a.q h l c.chroma-2.ensures c.qrshr-b.ensures),
      one_at_most _ _ _ _ (third_letter a.k a.y a.p a.q h l c.chroma-3.ensures c.qrshr-c.ensures),
    )

pub returns : goal.returns
unfolding below_at above_at
returns c =
    let a = c.args in
    let h = c.requires in
    let l = c.luma-l.ensures in
    let first = first_letter a.k a.y a.p a.q h l c.chroma.ensures c.qrshr-a.ensures in
    let green = green_letter a.k a.y a.p a.q h l c.chroma-2.ensures c.qrshr-b.ensures in
    let third = third_letter a.k a.y a.p a.q h l c.chroma-3.ensures c.qrshr-c.ensures in
    c.joined.ensures ∙ rw (first, green, third)
