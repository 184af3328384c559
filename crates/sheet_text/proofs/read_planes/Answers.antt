use native.Mathlib.Omega.{arith}
use Rattle.sheet_values.proofs.Sizes.{chroma_count_most}
use Rattle.sheet_text.proofs.PlaneLines.{planes_samples}
use Rattle.sheet_text.proofs.read_planes.Goals as goal

pub read_plane-requires-2-clause-room : goal.read_plane-requires-2-clause-room
read_plane-requires-2-clause-room c =
    omega (arith, c.chroma_count.ensures, chroma_count_most c.args.known.values c.requires.width c.requires.height)

pub read_plane-requires-3-clause-room : goal.read_plane-requires-3-clause-room
read_plane-requires-3-clause-room c =
    omega (arith, c.chroma_count.ensures, chroma_count_most c.args.known.values c.requires.width c.requires.height)

pub returns-then-next-le65536-clause-samples : goal.returns-then-next-le65536-clause-samples
returns-then-next-le65536-clause-samples c =
    planes_samples c.args.known.values c.widest-limit.ensures c.luma_count.ensures c.chroma_count.ensures
    c.in_ok-y.ensures.lined c.in_ok-u.ensures.lined c.in_ok-v.ensures.lined
