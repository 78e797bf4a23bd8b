-- A loop, its table, and what it keeps.
use Rattle.std.specs.Prelude.{◌≡◌}
use Rattle.table.specs.Layout.{Layout}
use Rattle.table.specs.Views.{seen}
use Rattle.turns.specs.declared.looping.Loop.{Loop}

-- The table as the loop sees it.
abbrev pub laid : {V : Type 0} → Loop V → Layout
laid lap = seen lap.view

-- The loop stays over its table, in its cells.
pub record Stays {V : Type 0} (before after : Loop V) : Type 0 where
  pub view : after.view ≡ before.view
  pub cells : after.cells.ghost_name ≡ before.cells.ghost_name
