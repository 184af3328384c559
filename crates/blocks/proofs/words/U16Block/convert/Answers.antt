use mathlib.Core.Path.{◌≡◌, ap, ◌∙◌}
use Prim.Native.Nat.{ℕ, ◌-◌, ◌*◌, ◌≤◌}
use native.Mathlib.Omega.{arith}
use lib.ListN.{length}
use Rattle.yuv_support.proofs.Rows.{part_length}
use Rattle.numerics.specs.Row.{at, clipped_over}
use Rattle.numerics.proofs.Clips.{columns_few, columns_counted}
use Rattle.blocks.specs.Parts.{after}
use Rattle.blocks.specs.Source.{word_chroma}
use Rattle.blocks.proofs.words.U16Block.convert.Goals as goal

pub counted-requires : goal.counted-requires
counted-requires c =
    let a = c.args in
    let m = 2 * (8 * a.eights) in
    let words = c.letters_of_parts.new.scratch.words in
    let fits : m ≤ length words = omega (arith, c.requires.eights) in
    let short : m - 2 * a.done ≤ 512 = omega (arith, c.requires.eights) in
    (rw (part_length (2 * a.done) (m - 2 * a.done) words (omega arith)) short, columns_few a.pixels.k (at a.source.now.y.now) (word_chroma a.source.now.first) (word_chroma a.source.now.third) words (2 * a.done) m fits c.letters_of_parts.ensures.counts)

pub returns-clause-counts : goal.returns-clause-counts
returns-clause-counts c =
    let a = c.args in
    let m = 2 * (8 * a.eights) in
    let words = c.letters_of_parts.new.scratch.words in
    let P : ℕ → ℕ = word_chroma a.source.now.first in
    let Q : ℕ → ℕ = word_chroma a.source.now.third in
    let fits : m ≤ length words = omega (arith, c.requires.eights) in
    let left : m - 2 * a.done ≡ 2 * (8 * a.eights - a.done) = omega arith in
    c.counted.ensures
    ∙ columns_counted a.pixels.k (at a.source.now.y.now) P Q words (2 * a.done) m fits c.letters_of_parts.ensures.counts
    ∙ ap (clipped_over a.pixels.k (after a.done (at a.source.now.y.now)) (after a.done P) (after a.done Q)) left
