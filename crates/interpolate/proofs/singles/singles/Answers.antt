use mathlib.Core.Path.{◌≡◌, refl, sym, ap, ◌∙◌}
use Prim.Native.Nat.{ℕ, ◌*◌, ◌<◌}
use native.Mathlib.Nat.{mul-zero, mul-le-mul_left}
use native.Mathlib.Omega.{arith}
use lib.ListN.{length}
use Rattle.sample.proofs.Numbers.{numbers_length, numbers_at}
use Rattle.numerics.proofs.Row.{begun_none, begun_whole, pixel_more}
use Rattle.numerics.proofs.Clips.{clipped_none, clipped_more, most_of, one_of}
use Rattle.interpolate.proofs.singles.singles.Goals as goal

pub loop-c-init : goal.loop-c-init
loop-c-init g c = (rw (mul-zero c.args.pixels.letters) begun_none, sym (clipped_none _ _ _ _), refl)

pub both-clipped-requires : goal.both-clipped-requires
both-clipped-requires g c =
    let long = numbers_length g.met.S.Sample.numbers_are c.args.y.now in
    let b = most_of _ _ _ _ _ c.loop-c.invariant.1 in
    let x = one_of _ _ _ _ c.single-one.ensures.counts in
    (omega (arith, c.requires.most, b.0, x.0, long), omega (arith, c.requires.most, b.1, x.1, long))

pub loop-c-preserved : goal.loop-c-preserved
loop-c-preserved g c =
    let are = g.met.S.Sample.numbers_are in
    let a = c.args in
    let l = c.loop-c in
    let t : l.c < length (g.S.Sample.numbers a.y.now) = omega (arith, numbers_length are a.y.now) in
    let vy = c.to_u16.ensures.value ∙ numbers_at are a.y.now l.c _ c.loop-c-test.true c.index-y-c.is in
    let vp = c.read.ensures.value in
    let vq = c.read-in-loop-c.ensures.value in
    let row = rw (vy, vp, vq) at c.single-one.ensures.row in
    let counts = rw (vy, vp, vq) at c.single-one.ensures.counts in (
      pixel_more _ _ _ _ _ l.c c.requires.fits.letters l.invariant.0
          (omega (arith, c.requires.fits.places, mul-le-mul_left a.pixels.letters t)) row,
      c.both-clipped.ensures ∙ rw (l.invariant.1, counts) (clipped_more _ _ _ _ l.c),
      omega (arith, numbers_length are c.single-one.new.row, numbers_length are l.row, c.single-one.auto.row, l.invariant.2),
    )

pub returns : goal.returns
returns g c =
    let l = c.loop-c in
    let e : length (g.S.Sample.numbers c.args.y.now) ≡ l.c = omega (arith, numbers_length g.met.S.Sample.numbers_are c.args.y.now) in
    record { row = begun_whole l.invariant.0 (omega (arith, c.requires.fits.places, ap (λ (z : ℕ). c.args.pixels.letters * z) e)); counts = rw e l.invariant.1 }
