use mathlib.Core.Path.{sym}
use Rattle.sheet_text.proofs.Answers.{wrote_whole}
use Rattle.sheet_text.proofs.sheet_text.Goals as goal

pub returns : goal.returns
returns c =
    let whole = wrote_whole c.put_text.ensures.written (sym c.read_sheet.ensures) in
    record { length = whole.0; text = whole.1; fits = c.put_text.ensures.fits }
