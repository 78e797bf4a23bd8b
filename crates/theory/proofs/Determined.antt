-- Every table with a potential has its sheets and its least solution determined.
use Rattle.theory.proofs.Sheets.{one-sheet}
use Rattle.theory.proofs.Least.{least-solution}
use Rattle.theory.specs.Determined.{Determines}
use Rattle.theory.proofs.Potential.{potential-ranks}

pub determines : (V : Type 0) → Determines V
determines V table p k source =
    record {
      some = λ H. (one-sheet V table k source H (potential-ranks table p H)).0;
      only = λ H. (one-sheet V table k source H (potential-ranks table p H)).1;
      exact = (least-solution V table k source (potential-ranks table p)).0;
      lasting = (least-solution V table k source (potential-ranks table p)).1;
    }
