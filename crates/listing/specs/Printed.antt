-- What is printed of a text and a recording.
use Rattle.std.specs.Prelude.{◌≡◌, ℕ, ◌<◌, ◌==◌, cond, List, ◌++◌, take, Ok, Err, Result, ◌≢◌, slice_index, slice_index_or}
use Rattle.kind.specs.Kinds.{Meaning}
use Rattle.kind.specs.Wholes.{wholes}
use Rattle.kind.specs.Rates.{rates}
use Rattle.source.specs.declared.format.Counts.{Counts}
use Rattle.source.specs.declared.format.RecordingError.{RecordingError}
use Rattle.source.specs.declared.format.RecordedKind.{RecordedKind}
use Rattle.source.specs.declared.format.RecordedKind.TheVariants.{Whole, Rate}
use Rattle.source.specs.Sources as Sources
use Rattle.source.specs.Holds.{held}
use Rattle.source.specs.Openings.{Opens}
use Rattle.source.specs.Recordings.{recorded}
use Rattle.theory.specs.Rule.{Sheet, Fits}
use Rattle.table.specs.declared.schedule.Schedule.{Schedule}
use Rattle.table.specs.declared.table.Table.{Table}
use Rattle.table.specs.Tables.{rows_of}
use Rattle.engine.specs.declared.calls.Refusal.TheVariants.{Horizon}
use Rattle.load.specs.declared.refusal.Refusal as Load
use Rattle.load.specs.Loading.{Loaded}
use Rattle.format.specs.Shown.{whole_text, rate_text, heading_text, refused_text}
use Rattle.text.specs.declared.text.Text as Texts
use Rattle.text.specs.Pushed.{Pushed}
use Rattle.report.specs.Reports.{heading, lines_text}
use Rattle.listing.specs.declared.refusal.Refusal.{Refusal}
use Rattle.listing.specs.declared.refusal.Refusal.TheVariants.{Text, Recording, Run}
use Rattle.listing.specs.Limits.{recording_limit}
use Rattle.listing.specs.Refusals.{refused}

-- The bytes of a list, or the line of what it is refused by.
abbrev pub printed : Result (List ℕ) Refusal → List ℕ
printed (Ok bytes) = bytes
printed (Err e) = refused_text (refused e)

-- The list of a table over a source: its heading, and for each of the source's ticks the reading of `result` in the sheet that fits.
pub record Listed {V : Type 0} (k : Meaning V) (text : V → List ℕ) (t : Schedule) (source : Sources.Meaning V) (o : Result (List ℕ) Refusal) : Type 0 where
  pub sheet : Sheet V
  pub fits : Fits (rows_of t) k source.says source.ticks sheet
  pub bytes : o ≡ Ok (heading_text (heading t) ++ lines_text text (sheet t.result) source.ticks)

-- A bad recording is refused, one without ticks is refused as a horizon, and over any other, its gaps filled, the table is listed.
abbrev pub Ran : {V : Type 0} → Meaning V → (V → List ℕ) → Schedule → List ℕ → Result Counts RecordingError → Result (List ℕ) Refusal → Type 0
Ran k text t bytes (Err e) o = o ≡ Err (Recording e)
Ran k text t bytes (Ok n) o = (n.ticks ≡ 0 → o ≡ Err (Run Horizon)) × (0 < n.ticks → Listed k text t (held (recorded k bytes n)) o)

-- The same of bytes that should be a recording of the kind with that code.
pub record Runs {V : Type 0} (k : Meaning V) (text : V → List ℕ) (code : ℕ) (t : Schedule) (bytes : List ℕ) (o : Result (List ℕ) Refusal) : Type 0 where
  pub counts : Result Counts RecordingError
  pub opens : Opens code bytes counts
  pub ran : Ran k text t bytes counts o

-- The kind that byte 0 tells, and whole numbers where it tells none.
abbrev pub told_kind : List ℕ → RecordedKind
told_kind bytes = cond (slice_index bytes 0 == 1) Rate Whole

-- Byte 0 tells rates by 1; all else is tried as a recording of whole numbers.
pub record Benched (t : Schedule) (bytes : List ℕ) (o : Result (List ℕ) Refusal) : Type 0 where
  pub rate : slice_index_or bytes 0 0 ≡ 1 → Runs rates rate_text 1 t bytes o
  pub whole : (slice_index bytes 0 ≢ 1) → Runs wholes whole_text 0 t bytes o

-- A text that is refused decides alone.
abbrev pub Outcome : Result Table Load.Refusal → List ℕ → Result (List ℕ) Refusal → Type 0
Outcome (Err e) bytes o = o ≡ Err (Text e)
Outcome (Ok t) bytes o = Benched t.schedule bytes o

-- What is printed of a text and a recording, of which no more than the limit is looked at.
pub record Printed (text recording bytes : List ℕ) : Type 0 where
  pub table : Result Table Load.Refusal
  pub loaded : Loaded text table
  pub outcome : Result (List ℕ) Refusal
  pub right : Outcome table (take recording_limit recording) outcome
  pub is : bytes ≡ printed outcome

-- A text was appended that is the print of an outcome as P says.
pub record Appended (P : Result (List ℕ) Refusal → Type 0) (was now : Texts.Text) : Type 0 where
  pub outcome : Result (List ℕ) Refusal
  pub right : P outcome
  pub pushed : Pushed was now (printed outcome)

-- What an outcome leaves where a refusal is answered and not yet printed.
abbrev pub Done : Result (List ℕ) Refusal → Texts.Text → Texts.Text → Result Unit Refusal → Type 0
Done (Ok bytes) was now r = (r ≡ Ok tt) × Pushed was now bytes
Done (Err e) was now r = (r ≡ Err e) × (now ≡ was)

-- An outcome as P says was tried, and the line of a refusal is still to be appended.
pub record Tried (P : Result (List ℕ) Refusal → Type 0) (was now : Texts.Text) (r : Result Unit Refusal) : Type 0 where
  pub outcome : Result (List ℕ) Refusal
  pub right : P outcome
  pub done : Done outcome was now r

-- What a refusal adds to what was tried.
abbrev pub Closed : Result Unit Refusal → Texts.Text → Texts.Text → Type 0
Closed (Ok u) was now = now ≡ was
Closed (Err e) was now = Pushed was now (refused_text (refused e))

-- What is appended for a text over the bytes of a recording.
pub record Told (text bytes : List ℕ) (was now : Texts.Text) : Type 0 where
  pub table : Result Table Load.Refusal
  pub loaded : Loaded text table
  pub appended : Appended (Outcome table bytes) was now
