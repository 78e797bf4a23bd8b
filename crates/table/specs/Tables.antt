-- What a checked table says of its rows.
use Rattle.std.specs.Prelude.{◌≡◌, ℕ, ◌+◌, ◌-◌, ◌<◌, ◌≤◌, cond, List, length, take, sum, count_by, slice_index, slice_index_or}
use Rattle.reading.specs.declared.rows.Row.{Row}
use Rattle.graph.specs.declared.plans.Plan.{Plan}
use Rattle.graph.specs.Plans as graph
use Rattle.table.specs.Orders.{Listed, InStep}
use Rattle.table.specs.declared.place.Place.{Place}
use Rattle.table.specs.declared.schedule.Schedule.{Schedule}
use Rattle.table.specs.Edges.{table_edges, Closed}
use Rattle.table.specs.Layout.{Layout, no_place, is_asa}

abbrev pub rows_of : Schedule → List Row
rows_of t = take t.count t.rows

-- The table as a loop over it sees it.
abbrev pub layout : Schedule → Layout
layout t =
    record {
      rows = rows_of t;
      places = take t.count t.places;
      order = take t.count t.order;
      lag = t.lag;
      stages = t.stages;
      result = t.result;
      windows = t.windows;
      size = t.size;
    }

-- The greatest of the first n numbers.
pub record Greatest (xs : List ℕ) (n most : ℕ) : Type 0 where
  pub some : (k : ℕ) × (k < n) × (slice_index xs k ≡ most)
  pub every : (k : ℕ) → k < n → slice_index xs k ≤ most

-- How many cells a row takes besides its window: one for the reading of an `asa` row.
abbrev pub held : Row → ℕ
held row = cond (is_asa row) 1 0

-- How many of the rows are `asa` rows.
abbrev pub asas : List Row → ℕ
asas rows = count_by is_asa rows

-- Row r: its window starts behind those of the rows before it, and its cell behind all windows and the cells of the `asa` rows before it.
abbrev pub place_of : List Row → Plan → List ℕ → ℕ → ℕ → ℕ → Place
place_of rows plan positions lag windows r =
    record {
      delay = lag - slice_index plan.lead r;
      depth = slice_index plan.depth r;
      start = sum (take r plan.depth);
      stage = slice_index plan.stage r;
      position = slice_index positions r;
      settled = windows + asas (take r rows);
    }

-- The first n places are those of the rows.
abbrev pub Placed : List Row → Plan → List ℕ → ℕ → ℕ → List Place → ℕ → Type 0
Placed rows plan positions lag windows places n = (r : ℕ) → r < n → slice_index_or places r no_place ≡ place_of rows plan positions lag windows r

-- Each row of the order has its place there as its position.
abbrev pub Inverse : List ℕ → List ℕ → ℕ → Type 0
Inverse order positions n = (k : ℕ) → k < n → slice_index positions (slice_index order k) ≡ k

-- The schedule of the rows: only negative rings, and leads, depths, stages, order and cells as they are defined.
pub record Checked (rows : List Row) (result : ℕ) (t : Schedule) : Type 0 where
  pub rows_are : rows_of t ≡ rows
  pub count_is : t.count ≡ length rows
  pub result_is : t.result ≡ result
  pub closed : Closed rows
  pub result_within : result < length rows
  pub few : length rows ≤ 64
  pub plan_is : graph.Planned (table_edges rows) result t.plan
  pub greatest_lead : Greatest t.plan.lead (length rows) t.lag
  pub greatest_stage : Greatest t.plan.stage (length rows) t.stages
  pub windows_are : t.windows ≡ sum (take (length rows) t.plan.depth)
  pub cells : t.size ≡ t.windows + asas rows
  pub cells_few : t.size ≤ 4224
  pub depths_long : length rows ≤ length t.plan.depth
  pub places_long : length (take (length rows) t.places) ≡ length rows
  pub order_long : length (take (length rows) t.order) ≡ length rows
  pub positions : List ℕ
  pub inverse : Inverse (take (length rows) t.order) positions (length rows)
  pub places_are : Placed rows t.plan positions t.lag t.windows t.places (length rows)
  pub listed : Listed (take (length rows) t.order)
  pub in_step : InStep (table_edges rows) t.plan.lead (take (length rows) t.order)

-- The schedule is that of its own rows.
abbrev pub Sound : Schedule → Type 0
Sound t = Checked (rows_of t) t.result t
