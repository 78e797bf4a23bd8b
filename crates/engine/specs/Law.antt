-- Which reply to a call is right, after the calls before it.
use Rattle.std.specs.Prelude.{◌≡◌, ℕ, zero, suc, ◌+◌, ◌-◌, ◌<◌, ◌≤◌, cond, List, [], ◌∷◌, length, Some, None, Ok, Err, Option, Result, is_ok, slice_index_or}
use Rattle.kind.specs.Kinds.{Meaning}
use Rattle.theory.specs.Says.{Says}
use Rattle.theory.specs.Rule.{Sheet, Fits}
use Rattle.engine.specs.declared.calls.Refusal.{Refusal}
use Rattle.engine.specs.declared.calls.Refusal.TheVariants.{NoHorizon, Horizon, Cells, StageLeft, Over, Place}
use Rattle.engine.specs.declared.calls.Call.{Call}
use Rattle.engine.specs.declared.calls.Call.TheVariants.{Open, Settle, Step, Look, Restart}
use Rattle.engine.specs.declared.calls.Answer.{Answer}
use Rattle.engine.specs.declared.calls.Answer.TheVariants.{Stages, Left, Made, Seen, Restarted}
use Rattle.engine.specs.declared.calls.Entry.{Entry}
use Rattle.table.specs.Layout.{Layout, place_at}

-- A record of calls and replies, the newest first.
abbrev pub Past : Type 0 → Type 0
Past V = List (Entry V)

-- The answer of an accepted call, or the refusal.
abbrev pub Reply : Type 0 → Type 0
Reply V = Result (Answer V) Refusal

-- The horizon in force is the last open's.
abbrev pub horizon_by : Call → Option ℕ → Option ℕ
horizon_by (Open h) before = Some h
horizon_by Settle before = before
horizon_by Step before = before
horizon_by (Look r t) before = before
horizon_by Restart before = before

abbrev pub horizon_of : {V : Type 0} → Past V → Option ℕ
horizon_of [] = None
horizon_of (e ∷ past) = cond (is_ok e.reply) (horizon_by e.call (horizon_of past)) (horizon_of past)

-- The settles since the last open.
abbrev pub settles_by : Call → ℕ → ℕ
settles_by (Open h) n = 0
settles_by Settle n = n + 1
settles_by Step n = n
settles_by (Look r t) n = n
settles_by Restart n = n

abbrev pub settles_of : {V : Type 0} → Past V → ℕ
settles_of [] = 0
settles_of (e ∷ past) = cond (is_ok e.reply) (settles_by e.call (settles_of past)) (settles_of past)

-- The steps since the last open or restart.
abbrev pub steps_by : Call → ℕ → ℕ
steps_by (Open h) n = 0
steps_by Settle n = n
steps_by Step n = n + 1
steps_by (Look r t) n = n
steps_by Restart n = 0

abbrev pub steps_of : {V : Type 0} → Past V → ℕ
steps_of [] = 0
steps_of (e ∷ past) = cond (is_ok e.reply) (steps_by e.call (steps_of past)) (steps_of past)

-- The stages left: the greatest stage less the settles, at least 0.
abbrev pub left_of : {V : Type 0} → Layout → Past V → ℕ
left_of l past = l.stages - settles_of past

abbrev pub lead : Layout → ℕ → ℕ
lead l r = l.lag - (place_at l r).delay

-- Refused without a horizon in force, and else as P says of the horizon.
abbrev pub Under : {V : Type 0} → Past V → Reply V → (ℕ → Type 0) → Type 0
Under past a P = (horizon_of past ≡ None → a ≡ Err NoHorizon) × ((H : ℕ) → horizon_of past ≡ Some H → P H)

-- After a step at the tick n - 1, a row's window has the ticks from n + lead - depth to n + lead - 1.
abbrev pub WindowHas : {V : Type 0} → Layout → Sheet V → ℕ → ℕ → ℕ → Reply V → Type 0
WindowHas l σ n r t a =
    (n ≡ 0 → a ≡ Ok (Seen None)) × (n + lead l r ≤ t → a ≡ Ok (Seen None)) × (t + (place_at l r).depth < n + lead l r → a ≡ Ok (Seen None)) ×
    (0 < n → t < n + lead l r → n + lead l r ≤ t + (place_at l r).depth → a ≡ Ok (Seen (Some (σ r t))))

-- The reply a to a call is right, over a table, a kind, a source and a number of cells, after the past calls.
-- Readings are those of the sheet that fits the horizon.
abbrev pub Right : {V : Type 0} → Layout → Meaning V → Says V → ℕ → Past V → Call → Reply V → Type 0
Right l k says room past (Open h) a =
    (h < 1 → a ≡ Err Horizon) × (100000 < h → a ≡ Err Horizon) × (1 ≤ h → h ≤ 100000 → room < l.size → a ≡ Err Cells) ×
    (1 ≤ h → h ≤ 100000 → l.size ≤ room → a ≡ Ok (Stages l.stages))
Right l k says room past Settle a = Under past a (λ H. a ≡ Ok (Left (left_of l past - 1)))
Right l k says room past Step a =
    Under past a
    (λ H.
    (0 < left_of l past → a ≡ Err StageLeft) × (left_of l past ≡ 0 → H ≤ steps_of past → a ≡ Err Over) ×
    (left_of l past ≡ 0 → steps_of past < H → (σ : Sheet _) → Fits l.rows k says H σ → a ≡ Ok (Made (steps_of past) (σ l.result (steps_of past)))))
Right l k says room past (Look r t) a =
    Under past a
    (λ H.
    (length l.rows ≤ r → a ≡ Err Place) × (H ≤ t → a ≡ Err Place) ×
    (r < length l.rows → t < H → (σ : Sheet _) → Fits l.rows k says H σ → WindowHas l σ (steps_of past) r t a))
Right l k says room past Restart a = Under past a (λ H. a ≡ Ok Restarted)

-- The reply that a method's result is.
abbrev pub answered : {A V : Type 0} → (A → Answer V) → Result A Refusal → Reply V
answered answer (Ok a) = Ok (answer a)
answered answer (Err f) = Err f

-- The record of the first n calls of a list, with their replies.
abbrev pub record_of : {V : Type 0} → List Call → List (Reply V) → ℕ → Past V
record_of calls replies zero = []
record_of calls replies (suc n) = record { call = slice_index_or calls n (Open 0); reply = slice_index_or replies n (Ok Restarted) } ∷ record_of calls replies n

-- Every reply is right after the calls before it.
abbrev pub AllRight : {V : Type 0} → Layout → Meaning V → Says V → ℕ → List Call → List (Reply V) → ℕ → Type 0
AllRight l k says room calls replies n = (i : ℕ) → i < n → Right l k says room (record_of calls replies i) (slice_index_or calls i (Open 0)) (slice_index_or replies i (Ok Restarted))
