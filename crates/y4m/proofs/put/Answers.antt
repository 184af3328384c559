use Rattle.sheet_writing.proofs.Write.{copied_to}
use Rattle.y4m.proofs.put.Goals as goal

pub returns : goal.returns
returns c = rw c.copy_from_slice.ensures.after (copied_to c.args.text.now c.args.out.now c.requires)
