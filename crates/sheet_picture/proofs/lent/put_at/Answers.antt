use mathlib.Core.Path.{◌∙◌, ap}
use native.Mathlib.Omega.{arith}
use Rattle.std.proofs.Common.{rules}
use Rattle.yuv_support.specs.declared.Settings.{Settings}
use Rattle.sheet_table.specs.Placed.{Small}
use Rattle.sheet_table.proofs.Placed.{places_small, wrote_shown, room_after, clipped_text_length}
use Rattle.sheet_picture.proofs.lent.put_at.Goals as goal

pub put_table-at-requires : goal.put_table-at-requires
put_table-at-requires g c =
    let small : Small c.places_of-places.result = rw c.places_of-places.ensures (places_small _ c.requires.fit.width c.requires.fit.height) in
    (search rules, small)

pub put_clipped-requires : goal.put_clipped-requires
put_clipped-requires g c =
    let small : Small c.places_of-places.result = rw c.places_of-places.ensures (places_small _ c.requires.fit.width c.requires.fit.height) in
    room_after (g.S.Sample.numbers c.picture_at-clipped.new.rgb) small c.put_table-at.ensures

pub returns : goal.returns
returns g c =
    let made = c.picture_at-clipped in
    let order = ap (λ (s : Settings). s.order) c.args.known.answered in
    let small : Small c.places_of-places.result = rw c.places_of-places.ensures (places_small _ c.requires.fit.width c.requires.fit.height) in
    let room = room_after (g.S.Sample.numbers made.new.rgb) small c.put_table-at.ensures in
    record {
      written = wrote_shown _ _ (g.S.Sample.numbers made.new.rgb) (c.places_of-places.ensures ∙ rw order) made.ensures.shows made.ensures.counts c.put_table-at.ensures c.put_clipped.ensures;
      fits = omega (arith, room, c.put_clipped.ensures.place, clipped_text_length made.result);
    }
