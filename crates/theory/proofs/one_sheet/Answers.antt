use Rattle.theory.proofs.Sheets.{one-sheet}
use Rattle.theory.proofs.one_sheet.Goals as goal

pub returns : goal.returns
returns g c = one-sheet _
