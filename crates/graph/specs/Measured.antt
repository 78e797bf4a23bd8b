-- What each measure says of the rows of a table of at most 64 rows, in the words of paths.
use Rattle.std.specs.Prelude.{ℕ, ◌<◌, List, slice_index}
use Rattle.graph.specs.declared.edges.Edge.{Edge}
use Rattle.graph.specs.declared.edges.Measure.{Measure}
use Rattle.graph.specs.declared.edges.Measure.TheVariants.{Rank, Stage, Reach, Lead}
use Rattle.graph.specs.Labels as labels
use Rattle.graph.specs.Labels.{Checked, LeadsRise, ReachesFall, StagesFall}

-- Each row has its lead.
pub record Leads (table : List Edge) (lead : List ℕ) : Type 0 where
  pub greatest : (row : ℕ) → row < 64 → labels.Lead table row (slice_index lead row)
  pub rise : LeadsRise table lead
  pub small : (row : ℕ) → row < 64 → slice_index lead row < 64

-- Each row has its reach.
pub record Reaches (table : List Edge) (reach : List ℕ) : Type 0 where
  pub greatest : (row : ℕ) → row < 64 → labels.Reach table row (slice_index reach row)
  pub fall : ReachesFall table reach

-- Each row has its stage.
pub record Stages (table : List Edge) (stage : List ℕ) : Type 0 where
  pub greatest : (row : ℕ) → row < 64 → labels.Stage table row (slice_index stage row)
  pub fall : StagesFall table stage
  pub small : (row : ℕ) → row < 64 → slice_index stage row < 64

-- What the numbers of a measure are. Ranks there are only where every ring is negative.
abbrev pub Measured : Measure → List Edge → List ℕ → Type 0
Measured Rank table rank = Checked table rank
Measured Lead table lead = Leads table lead
Measured Reach table reach = Reaches table reach
Measured Stage table stage = Stages table stage
