use Prim.Native.Nat.{ℕ}
use lib.ListN.{length-replicate}
use Rattle.sheet_writing.proofs.Write.{text_kept}
use Rattle.sheet.proofs.write_answer.Goals as goal

pub returns : goal.returns
returns g c =
    let made = c.sheet_text-count.ensures in
    let begin = text_kept _ _ made.length made.text (length-replicate {A = ℕ} 131072 0) made.fits in
    rw begin at c.write_all.ensures.bytes
