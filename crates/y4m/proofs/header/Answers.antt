use Rattle.std.proofs.Common.{rules, ◌≡◌, sym, ◌∙◌}
use Rattle.yuv_error.specs.declared.error.YuvError.TheVariants.{MalformedStream}
use Rattle.yuv_error.specs.Told.{told, as_told}
use Rattle.y4m_frames.proofs.Headers.{HeaderIs, header_is, header_not}
use Rattle.y4m.proofs.Reading.{told_malformed, told_header}
use Rattle.y4m.proofs.header.Goals as goal

pub returns-in_default : goal.returns-in_default
returns-in_default c =
    let s = c.args.stream.now in
    let numbers : c.from.result ≡ as_told (told MalformedStream) = c.from.ensures in
    c.framed.ensures ∙ rw numbers (told_malformed s (header_not s (sym c.read_header.ensures ∙ c.in_default.is)))

pub returns : goal.returns
returns c =
    let s = c.args.stream.now in
    let is : HeaderIs s c.in-Some.h = header_is s (sym c.read_header.ensures ∙ c.in-Some.is) in
    c.framed-2.ensures ∙ rw (c.told_of.ensures, c.ok.ensures.value) (told_header s is c.check_known-known.result c.check_known-known.ensures.known _ _ c.map_or-next.ensures (λ k q. search rules))
