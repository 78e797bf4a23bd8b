-- What a window of cells holds: the last entries of a history, each at its tick modulo the number of cells.
use Rattle.std.specs.Prelude.{◌≡◌, ℕ, ◌+◌, ◌%◌, ◌<◌, ◌≤◌, List, length, Option, slice_get, slice_index_or}

-- Every tick of the history that is no older than the depth stands in its cell.
abbrev pub Holds : {A : Type 0} → List A → List A → Type 0
Holds {A} cells history =
    (k : ℕ) (d : A) → k < length history → length history ≤ k + length cells → slice_index_or cells (k % length cells) d ≡ slice_index_or history k d

-- The entry of a tick in the cells of a window, if there are cells.
abbrev pub recalled : {A : Type 0} → List A → ℕ → Option A
recalled cells t = slice_get cells (t % length cells)
