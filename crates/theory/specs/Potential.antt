-- Heights and stages of rows, which rank the places of a table.
use Rattle.std.specs.Prelude.{◌≡◌, ℕ, ◌+◌, ◌*◌, ◌<◌, ◌≤◌, List, [], ◌∷◌, length}
use Rattle.std.specs.List.{ContainsAt as Has, AllByRecursion}
use Rattle.reading.specs.declared.rows.Row.{Row}
use Rattle.reading.specs.declared.rows.Row.TheVariants.{Literal, Truth, Channel, Same, First, Next, Fby, Asa, If, And, Or, Not, Negate, Compute, Relate}
use Rattle.theory.specs.Rule.{row_at}
use Rattle.theory.specs.Rank.{Ranked, EachRead}

-- The label of an edge, from a row to one that it reads: 0, 1 for `next`, -1 for the right side of `fby`, infinite for the sides of `asa`.
pub data Label : Type 0 where
  level ahead back beyond : Label

-- The edges of a row: the label, and the row that is read.
abbrev pub edges : Row → List (Label × ℕ)
edges (Literal n) = []
edges (Truth b) = []
edges (Channel c) = []
edges (Same x) = (level, x) ∷ []
edges (First x) = (level, x) ∷ []
edges (Next x) = (ahead, x) ∷ []
edges (Fby x y) = (level, x) ∷ (back, y) ∷ []
edges (Asa x y) = (beyond, x) ∷ (beyond, y) ∷ []
edges (If c x y) = (level, c) ∷ (level, x) ∷ (level, y) ∷ []
edges (And x y) = (level, x) ∷ (level, y) ∷ []
edges (Or x y) = (level, x) ∷ (level, y) ∷ []
edges (Not x) = (level, x) ∷ []
edges (Negate x) = (level, x) ∷ []
edges (Compute o x y) = (level, x) ∷ (level, y) ∷ []
edges (Relate o x y) = (level, x) ∷ (level, y) ∷ []

-- With m height for a tick, an edge from row a to row x leads down: at once, or by a stage.
abbrev pub Down : ℕ → (ℕ → ℕ) → (ℕ → ℕ) → ℕ → Label → ℕ → Type 0
Down m height stage a level x = (stage x ≤ stage a) × (height x < height a)
Down m height stage a ahead x = (stage x ≤ stage a) × (height x + m < height a)
Down m height stage a back x = (stage x ≤ stage a) × (height x < height a + m)
Down m height stage a beyond x = stage x < stage a

-- Heights and stages under which each edge leads down, to a row of the table.
pub record Potential (table : List Row) : Type 0 where
  pub tick : ℕ
  pub height : ℕ → ℕ
  pub stage : ℕ → ℕ
  pub top : ℕ
  pub under : (r : ℕ) → r < length table → height r < top
  pub down : (r : ℕ) → r < length table → AllByRecursion (λ e. (e.1 < length table) × Down tick height stage r e.0 e.1) (edges (row_at table r))

abbrev pub PotentialRanks : Type 0
PotentialRanks = (table : List Row) → Potential table → (H : ℕ) → Ranked table H

-- A lead is carried along each finite edge: from a row a to a row x it grows by the label at least.
abbrev pub Carried : (ℕ → ℕ) → ℕ → Label → ℕ → Type 0
Carried lead a level x = lead a ≤ lead x
Carried lead a ahead x = lead a + 1 ≤ lead x
Carried lead a back x = lead a ≤ lead x + 1
Carried lead a beyond x = Unit

-- A place before its row's end, the horizon and the lead, is read from such places alone.
abbrev pub LeadsBound : Type 0
LeadsBound =
    (lead : ℕ → ℕ) (row : Row) (r H t : ℕ) → AllByRecursion (λ e. Carried lead r e.0 e.1) (edges row) →
    0 < H → t < H + lead r → EachRead H (λ x s. s < H + lead x) row t

-- An edge from row a to row x that leaves no slack: x leads a by just the label.
abbrev pub Tight : (ℕ → ℕ) → ℕ → Label → ℕ → Type 0
Tight lead a level x = lead x ≡ lead a
Tight lead a ahead x = lead x ≡ lead a + 1
Tight lead a back x = lead a ≡ lead x + 1
Tight lead a beyond x = ⊥

-- A loop that makes each row its lead ahead of the tick can make the rows in the order of this key: what a row reads of the same turn has a lesser key.
abbrev pub KeyOrders : Type 0
KeyOrders =
    (m : ℕ) (height stage lead : ℕ → ℕ) (a : ℕ) (l : Label) (x : ℕ) → Down m height stage a l x → Tight lead a l x →
    height x + m * lead x < height a + m * lead a

-- The ticks at which an edge lets a row of tick t read: no later one, the next, the one before, or any below the horizon.
abbrev pub Spans : ℕ → ℕ → Label → ℕ → Type 0
Spans H t level s = s ≤ t
Spans H t ahead s = s ≡ t + 1
Spans H t back s = t ≡ s + 1
Spans H t beyond s = s < H

-- A row reads only along its edges, at the ticks that their labels allow.
abbrev pub EdgesCover : Type 0
EdgesCover = (row : Row) (H t : ℕ) → EachRead H (λ x s. (l : Label) × Has (edges row) (l, x) × Spans H t l s) row t
