-- What a value kind means.
use Rattle.std.specs.Prelude.{◌≡◌, ℕ, Bool, true, false, T, List, Some, Option, Result}
use Rattle.reading.specs.declared.faults.KindFault.{KindFault}
use Rattle.reading.specs.declared.rows.Arithmetic.{Arithmetic}
use Rattle.reading.specs.declared.rows.Relation.{Relation}

-- The values V of a kind, by what can be asked of them.
-- The two truth values are told as themselves, and no other value is told as one.
-- An operator answers with a value, or with what keeps it from one. A word is eight bytes, and may stand for no value.
pub record Meaning (V : Type 0) : Type 0 where
  pub literal : ℕ → V
  pub truth : Bool → V
  pub told : V → Option Bool
  pub told_truth : (b : Bool) → told (truth b) ≡ Some b
  pub told_only : (v : V) (b : Bool) → told v ≡ Some b → v ≡ truth b
  pub negated : V → Result V KindFault
  pub computed : Arithmetic → V → V → Result V KindFault
  pub related : Relation → V → V → Result V KindFault
  pub word : List ℕ → Option V

-- What f makes of the test's success, or else x.
abbrev pub provided : {X : Type 0} (b : Bool) → (T b → X) → X → X
provided true f x = f tt
provided false f x = x
