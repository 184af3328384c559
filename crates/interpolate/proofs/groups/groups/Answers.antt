use mathlib.Core.Path.{◌≡◌, refl, sym, ap, ◌∙◌}
use Prim.Native.Nat.{ℕ, ◌+◌, ◌-◌, ◌*◌, ◌≤◌, ◌<◌}
use native.Mathlib.Nat.{mul-zero}
use native.Mathlib.Omega.{arith}
use Rattle.numerics.specs.Row.{clipped_over}
use Rattle.numerics.proofs.Row.{begun_none}
use Rattle.numerics.proofs.Clips.{clipped_none, clipped_on, most_of}
use Rattle.interpolate.proofs.groups.groups.Goals as goal

-- a group ends after at least 8 pairs
next_most : (from eights done : ℕ) → from ≤ done → done < from + 8 * eights → from + 8 * eights < 8 → ⊥
next_most from eights done h h' l = omega arith

pub loop-done-init : goal.loop-done-init
loop-done-init g c = (omega arith, λ h. refl, rw (mul-zero c.args.pixels.letters) begun_none, sym (clipped_none _ _ _ _))

pub both-clipped-requires : goal.both-clipped-requires
both-clipped-requires g c =
    let l = c.loop-done in
    let e = c.next_span-span.ensures in
    let b = most_of _ _ _ _ _ l.invariant.3 in
    let x = most_of _ _ _ _ _ c.group-x.ensures.counts in
    (omega (arith, c.requires.most, l.invariant.0, e.inside, b.0, x.0), omega (arith, c.requires.most, l.invariant.0, e.inside, b.1, x.1))

pub loop-done-preserved : goal.loop-done-preserved
loop-done-preserved g c =
    let l = c.loop-done in
    let n = c.next_span-span.result in
    let e = c.next_span-span.ensures in
    let x = c.group-x.ensures in
    let q : 2 * l.done + 2 * (n.from + 8 * n.eights - l.done) ≡ 2 * (n.from + 8 * n.eights) = omega (arith, e.on) in (
      e.inside,
      λ h. absurd (next_most n.from n.eights l.done e.back e.on h),
      x.row _ l.invariant.2,
      c.both-clipped.ensures ∙ rw (l.invariant.3, x.counts) (clipped_on _ _ _ _ _ _ _ _ _ (λ c h. refl) (λ c h. refl) (λ c h. refl) ∙ ap (clipped_over _ _ _ _) q),
    )
