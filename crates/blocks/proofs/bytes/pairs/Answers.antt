use mathlib.Core.Path.{◌≡◌, refl}
use mathlib.Core.Logic.{◌⊎◌, inl, inr}
use Prim.Native.Nat.{ℕ, ◌+◌, ◌*◌, ◌≤◌, ◌<◌}
use native.Mathlib.Nat.{mul-zero}
use native.Mathlib.Omega.{arith}
use lib.ListN.{length-set}
use lib.Seq.{length-take-le}
use Rattle.numerics.specs.Row.{at}
use Rattle.numerics.proofs.Row.{begun_none, begun_whole, begun_length, pair_more, filled_more}
use Rattle.blocks.proofs.Columns.{filled_in}
use Rattle.blocks.proofs.bytes.pairs.Goals as goal

-- the places of pair i, and all places
pair_places : (n i eights : ℕ) → (n ≡ 3) ⊎ (n ≡ 4) → i < 8 * eights → n * (2 * i) + (n + n) ≤ n * (16 * eights)
pair_places n i eights (inl e) h = rw e (omega arith)
pair_places n i eights (inr e) h = rw e (omega arith)

all_places : (n i eights : ℕ) → (n ≡ 3) ⊎ (n ≡ 4) → 8 * eights ≡ i → n * (16 * eights) ≤ n * (2 * i)
all_places n i eights (inl e') e = rw e' (omega arith)
all_places n i eights (inr e') e = rw e' (omega arith)

pub loop-i-init : goal.loop-i-init
loop-i-init g c = (rw (mul-zero g.row.LETTERS) begun_none, refl, record { value = λ j h. omega arith })

pub pair-requires-clause-places : goal.pair-requires-clause-places
pair-requires-clause-places g c =
    let f = c.requires.fits in
    let part = length-take-le (8 * c.args.eights) c.args.words.now f.room in
    omega (arith, f.places, begun_length c.loop-i.invariant.0, pair_places g.row.LETTERS c.loop-i.i c.args.eights f.letters (omega (arith, part)))

pub loop-i-preserved : goal.loop-i-preserved
loop-i-preserved g c =
    let a = c.args in
    let l = c.loop-i in
    let f = c.requires.fits in
    let t : l.i < 8 * a.eights = omega (arith, length-take-le (8 * a.eights) a.words.now f.room) in
    let e = c.pair.ensures in (
      pair_more a.k g.row.LETTERS (at a.y.now) (at a.p.now) (at a.q.now) l.i f.letters l.invariant.0 (rw f.places (pair_places g.row.LETTERS l.i a.eights f.letters t)) e.row,
      simp length-set l.invariant.1,
      filled_more l.invariant.2 (omega (arith, l.invariant.1)) e.counts,
    )

pub returns : goal.returns
returns g c =
    let l = c.loop-i in
    let f = c.requires.fits in
    let part = length-take-le (8 * c.args.eights) c.args.words.now f.room in
    let e : 8 * c.args.eights ≡ l.i = omega (arith, part, l.invariant.1) in
    record { row = begun_whole l.invariant.0 (rw f.places (all_places g.row.LETTERS l.i c.args.eights f.letters e)); counts = filled_in {part = l.word-items} _ (rw e l.invariant.2) (omega (arith, part, l.invariant.1)) }
