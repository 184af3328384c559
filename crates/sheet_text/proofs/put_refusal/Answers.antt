use native.Mathlib.Omega.{arith}
use Rattle.sheet_writing.proofs.Write.{wrote_then, number_text_length}
use Rattle.sheet_text.specs.Sheet.{refusal}
use Rattle.sheet_text.proofs.put_refusal.Goals as goal

pub returns : goal.returns
unfolding refusal
returns c =
    record {
      written = rw (← c.from.ensures) (wrote_then c.put_bytes-at.ensures c.put_number.ensures);
      fits = omega (arith, c.put_bytes-at.ensures.place, c.put_number.ensures.place, number_text_length c.from.result 10);
    }
