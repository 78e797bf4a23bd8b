-- Names that are used and never defined.
use Rattle.std.specs.Prelude.{ℕ, List, Some, None, Ok, Err, map, min, fold, Option, Result}
use Rattle.syntax.specs.declared.draft.Equation.{Equation}
use Rattle.syntax.specs.declared.draft.Node.{Node}
use Rattle.syntax.specs.declared.draft.Node.TheVariants as node
use Rattle.syntax.specs.declared.draft.Operand.{Operand}
use Rattle.syntax.specs.declared.draft.Operand.TheVariants as operand
use Rattle.load.specs.declared.refusal.Refusal.{Refusal}
use Rattle.load.specs.declared.refusal.Refusal.TheVariants.{Undefined}
use Rattle.load.specs.Heads.{found}

-- The place p of a use, where no equation was found.
abbrev pub unless_found : ℕ → Option ℕ → Option ℕ
unless_found p None = Some p
unless_found p (Some k) = None

-- The place where an operand is a name that no equation defines.
abbrev pub unknown : List Equation → Operand → Option ℕ
unknown es (operand.Name n p) = unless_found p (found n es)
unknown es (operand.Row k) = None

-- The earlier of two places, of those that are there.
abbrev pub earlier : Option ℕ → Option ℕ → Option ℕ
earlier None q = q
earlier (Some p) None = Some p
earlier (Some p) (Some q) = Some (min p q)

-- The earliest place where a node uses a name that no equation defines.
abbrev pub unknown_in : List Equation → Node → Option ℕ
unknown_in es (node.Name n p) = unless_found p (found n es)
unknown_in es (node.Channel k) = None
unknown_in es (node.Literal v) = None
unknown_in es (node.Truth b) = None
unknown_in es (node.Prefix u a) = unknown es a
unknown_in es (node.Infix op a b) = earlier (unknown es a) (unknown es b)
unknown_in es (node.Choice a b c) = earlier (earlier (unknown es a) (unknown es b)) (unknown es c)

-- The use at the place is refused.
abbrev pub refused_use : Option ℕ → Result (Unit {0}) Refusal
refused_use None = Ok tt
refused_use (Some p) = Err (Undefined p)

-- The earliest use of a name that no equation defines is refused, in the nodes of the rows.
abbrev pub used : List Equation → List Node → Result (Unit {0}) Refusal
used es xs = refused_use (fold earlier None (map (unknown_in es) xs))
