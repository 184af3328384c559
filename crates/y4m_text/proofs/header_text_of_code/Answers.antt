use Rattle.std.proofs.Common.{◌∙◌, ap}
use Rattle.std.proofs.Math.Seq.{take-append_seam}
use lib.ListN.{length}
use Rattle.y4m_text.proofs.Texts.{header_of_code}
use Rattle.y4m_text.proofs.header_text_of_code.Goals as goal

pub returns-clause-text : goal.returns-clause-text
returns-clause-text c =
    let args = c.args in
    let line = c.header_text-line.ensures.text ∙ rw c.sampling_of.ensures (header_of_code args.sampling args.depth args.width args.height) in
    let copied = c.copy_from_slice.ensures.after ∙ c.as_slice.ensures.value in
    rw (copied, c.len-2.ensures.value) (take-append_seam _ _ ∙ line)

pub returns-clause-count : goal.returns-clause-count
returns-clause-count c =
    let args = c.args in
    let line = c.header_text-line.ensures.text ∙ rw c.sampling_of.ensures (header_of_code args.sampling args.depth args.width args.height) in
    c.len-2.ensures.value ∙ ap length line
