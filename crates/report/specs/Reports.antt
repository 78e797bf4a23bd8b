-- The list of a run.
use Rattle.std.specs.Prelude.{◌≡◌, ℕ, zero, suc, ◌<◌, ◌≤◌, List, [], ◌++◌, Ok, Err, Result}
use Rattle.reading.specs.Faults.{Reading}
use Rattle.kind.specs.Kinds.{Meaning}
use Rattle.theory.specs.Says.{Says}
use Rattle.theory.specs.Rule.{Sheet, Fits}
use Rattle.table.specs.declared.schedule.Schedule.{Schedule}
use Rattle.table.specs.Tables.{rows_of}
use Rattle.engine.specs.declared.calls.Refusal.{Refusal}
use Rattle.engine.specs.declared.calls.Refusal.TheVariants.{Horizon, Cells}
use Rattle.format.specs.declared.lines.Heading.{Heading}
use Rattle.format.specs.Shown.{heading_text, line_text}
use Rattle.text.specs.declared.text.Text.{Text}
use Rattle.text.specs.Pushed.{Pushed}

-- The heading of a table: its rows, its greatest stage, its greatest lead and the cells that a run of it needs.
abbrev pub heading : Schedule → Heading
heading t = record { rows = t.count; stages = t.stages; lead = t.lag; cells = t.size }

-- The lines of the ticks below n, by what is printed of a value and the reading of each tick.
abbrev pub lines_text : {V : Type 0} → (V → List ℕ) → (ℕ → Reading V) → ℕ → List ℕ
lines_text text at zero = []
lines_text text at (suc n) = lines_text text at n ++ line_text text (record { tick = n; reading = at n })

-- What a run to the horizon H over so many cells appends to a text: with the horizon within its limits and cells enough,
-- the heading and the line of each tick, with the reading of `result` in the sheet that fits; and else nothing.
pub record Reported {V : Type 0} (t : Schedule) (k : Meaning V) (says : Says V) (H room : ℕ) (text : V → List ℕ) (was now : Text) (r : Result Unit Refusal) : Type 0 where
  pub none : H < 1 → (r ≡ Err Horizon) × (now ≡ was)
  pub far : 100000 < H → (r ≡ Err Horizon) × (now ≡ was)
  pub few : 1 ≤ H → H ≤ 100000 → room < t.size → (r ≡ Err Cells) × (now ≡ was)
  pub listed : 1 ≤ H → H ≤ 100000 → t.size ≤ room → r ≡ Ok tt
  pub lines : 1 ≤ H → H ≤ 100000 → t.size ≤ room → (σ : Sheet V) → Fits (rows_of t) k says H σ → Pushed was now (heading_text (heading t) ++ lines_text text (σ t.result) H)
