use Rattle.convert_high16.proofs.Buffers.hold_chroma.Goals as goal

pub returns-clause-u : goal.returns-clause-u
returns-clause-u g c =
    let held = rw (c.u.ensures.elements, c.u.ensures.stride) at c.hold_both.ensures.held in
    λ h. record { rows_held = held h; near = c.hold_both.ensures.near; other = c.hold_both.ensures.other }

pub returns-clause-v : goal.returns-clause-v
returns-clause-v g c =
    let held = rw (c.v.ensures.elements, c.v.ensures.stride) at c.hold_both-2.ensures.held in
    λ h. record { rows_held = held h; near = c.hold_both-2.ensures.near; other = c.hold_both-2.ensures.other }
