-- What the numbers of a kind mean, and the relations by equality and order.
use Rattle.std.specs.Prelude.{ℕ, Bool, not, List, Option, Result}
use Rattle.std.specs.declared.cmp.Ordering.{Ordering}
use Rattle.std.specs.Ordering.{partial_lt, partial_le, partial_gt, partial_ge}
use Rattle.reading.specs.declared.faults.KindFault.{KindFault}
use Rattle.reading.specs.declared.rows.Arithmetic.{Arithmetic}
use Rattle.reading.specs.declared.rows.Relation.{Relation}
use Rattle.reading.specs.declared.rows.Relation.TheVariants.{Equal, Unequal, Less, AtMost, Greater, AtLeast}

-- The numbers N of a kind, by what can be asked of them; arithmetic and order work on operands O.
pub record Numbers (N O : Type 0) : Type 0 where
  pub literal : ℕ → N
  pub operand : N → O
  pub negated : O → Result N KindFault
  pub computed : Arithmetic → O → O → Result N KindFault
  pub holds : Relation → O → O → Bool
  pub word : List ℕ → Option N

-- Whether a relation holds, by an equality and an order.
abbrev pub compared : {N : Type 0} → (N → N → Bool) → (N → N → Option Ordering) → Relation → N → N → Bool
compared eq cmp Equal a b = eq a b
compared eq cmp Unequal a b = not (eq a b)
compared eq cmp Less a b = partial_lt cmp a b
compared eq cmp AtMost a b = partial_le cmp a b
compared eq cmp Greater a b = partial_gt cmp a b
compared eq cmp AtLeast a b = partial_ge cmp a b
