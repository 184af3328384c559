use Rattle.images.specs.Lent.{geometry}
use Rattle.planes.specs.Stream.{plane_bytes}
use Rattle.sheet_writing.specs.Text.{Wrote}
use Rattle.y4m.proofs.PutFrame.{Begun, begun, u_room, v_room, frame_put}
use Rattle.y4m.proofs.put_planes.Given.{Over}
use Rattle.y4m.proofs.put_planes.Goals.{After-write_plane-y_end}
use Rattle.y4m.proofs.put_planes.Goals as goal

-- the line and Y are put, with the picture's own size and stride
y_put : (g : Over) (c : After-write_plane-y_end g) → let i = c.args.image.now in
    let n = g.S.Sample.numbers in
    Begun g.S.Sample.SIZE c.args.sampling (geometry i) (n i.y_plane.now) (n i.u_plane.now) (n i.v_plane.now) c.args.out.now
    c.chroma_size-chroma.result.width c.chroma_size-chroma.result.height c.put.new.out
    × Wrote c.put.new.out 6 (plane_bytes g.S.Sample.SIZE i.y_stride i.width i.height (n i.y_plane.now)) c.write_plane-y_end.new.out
    c.write_plane-y_end.result
y_put g c = (
  begun g.met.S.Sample.numbers_are c.requires (rw c.size-luma.ensures at c.chroma_size-chroma.ensures) c.put.ensures,
  rw (c.y.ensures.elements, c.y.ensures.stride, c.size-luma.ensures) at c.write_plane-y_end.ensures,
)

pub write_plane-u_end-requires-clause-room : goal.write_plane-u_end-requires-clause-room
write_plane-u_end-requires-clause-room g c =
    let y = y_put g (goal.at.write_plane-u_end-requires-clause-room g c).After-write_plane-y_end in
    u_room y.0 y.1

pub write_plane-requires-clause-room : goal.write_plane-requires-clause-room
write_plane-requires-clause-room g c =
    let y = y_put g (goal.at.write_plane-requires-clause-room g c).After-write_plane-y_end in
    let u = rw (c.u.ensures.elements, c.u.ensures.stride) at c.write_plane-u_end.ensures in
    v_room y.0 y.1 u

pub returns : goal.returns
returns g c =
    let y = y_put g (goal.at.returns g c).After-write_plane-y_end in
    let u = rw (c.u.ensures.elements, c.u.ensures.stride) at c.write_plane-u_end.ensures in
    let v = rw (c.v.ensures.elements, c.v.ensures.stride) at c.write_plane.ensures in
    let put = frame_put y.0 y.1 u v in
    record { count = put.0; output = put.1 }
