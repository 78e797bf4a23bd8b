-- A run over a recording that opened.
use Rattle.std.proofs.Common.{◌≡◌, ℕ, ◌≤◌, List, ◌++◌, Ok, Err, Result, refl, subst, arith}
use native.Mathlib.Decide.{dec_lt}
use Rattle.kind.specs.Kinds.{Meaning}
use Rattle.source.specs.declared.format.Counts.{Counts}
use Rattle.source.specs.declared.format.RecordingError.{RecordingError}
use Rattle.source.specs.Holds.{held}
use Rattle.source.specs.Openings.{Opens, opened, cut_header, other_kind, bad_channels, bad_ticks, bad_length, bad_mark}
use Rattle.source.specs.Recordings.{recorded}
use Rattle.theory.specs.Determined.{Determined}
use Rattle.table.specs.declared.schedule.Schedule.{Schedule}
use Rattle.table.specs.Tables.{rows_of}
use Rattle.engine.specs.declared.calls.Refusal as Calls
use Rattle.engine.specs.declared.calls.Refusal.TheVariants.{Horizon}
use Rattle.format.specs.Shown.{heading_text}
use Rattle.text.specs.declared.text.Text.{Text}
use Rattle.report.specs.Reports.{Reported, heading, lines_text}
use Rattle.listing.specs.declared.refusal.Refusal.{Refusal}
use Rattle.listing.specs.declared.refusal.Refusal.TheVariants.{Run}
use Rattle.listing.specs.Printed.{Runs, Tried}

few-of : (code : ℕ) (bytes : List ℕ) (x : Result Counts RecordingError) → Opens code bytes x → (n : Counts) → x ≡ Ok n → n.ticks ≤ 100000
few-of code bytes _ (opened m heads len marks) n e = let h = heads.few_ticks in let z : m ≡ n = cc in subst (λ (c : Counts). c.ticks ≤ 100000) z h
few-of code bytes _ (cut_header a) n e = cc
few-of code bytes _ (other_kind a b) n e = cc
few-of code bytes _ (bad_channels a b c) n e = cc
few-of code bytes _ (bad_ticks a b c d f) n e = cc
few-of code bytes _ (bad_length a b c) n e = cc
few-of code bytes _ (bad_mark a b c d f g h) n e = cc

module _ {V : Type 0} (k : Meaning V) (text : V → List ℕ) (code : ℕ) (t : Schedule) (bytes bytes' : List ℕ) (n n' : Counts) (same_bytes : bytes' ≡ bytes) (same-counts : n' ≡ n)
    (opens : Opens code bytes (Ok n)) (room : ℕ) (enough : t.size ≤ room) (was end : Text) (r : Result Unit Calls.Refusal)
    (run : Reported t k (held (recorded k bytes' n')).says n'.ticks room text was end r) where
  rep : Reported t k (held (recorded k bytes n)).says n.ticks room text was end r
  rep = subst (λ (b : List ℕ). Reported t k (held (recorded k b n)).says n.ticks room text was end r) same_bytes
      (subst (λ (c : Counts). Reported t k (held (recorded k bytes' c)).says c.ticks room text was end r) same-counts run)

  few : n.ticks ≤ 100000
  few = few-of code bytes (Ok n) opens n refl

  -- A run is refused only where there is no tick.
  pub refused-run : (e : Calls.Refusal) (last : Result Unit Refusal) → r ≡ Err e → last ≡ Err (Run e) → Tried (Runs k text code t bytes) was end last
  refused-run e last is ends =
      elim (dec_lt n.ticks 1) [
        | yes z ↦
            let h = (rep.none z).0 in
            record { outcome = Err (Run Horizon); right = record { counts = Ok n; opens = opens; ran = (λ a. refl, λ a. absurd (omega arith)) }; done = (cc, (rep.none z).1) }
        | no z ↦
            let some : 1 ≤ n.ticks = omega arith in
            let h = rep.listed some few enough in
            cc
      ]

  -- Else it is listed.
  pub accepted-run : Determined (rows_of t) k (held (recorded k bytes n)).says → (u : Unit) → r ≡ Ok u → Tried (Runs k text code t bytes) was end (Ok tt)
  accepted-run determined u is =
      elim (dec_lt n.ticks 1) [
        | yes z ↦
            let h = (rep.none z).0 in
            cc
        | no z ↦
            let some : 1 ≤ n.ticks = omega arith in
            let one = determined.some n.ticks in
            record {
              outcome = Ok (heading_text (heading t) ++ lines_text text (one.0 t.result) n.ticks);
              right = record { counts = Ok n; opens = opens; ran = (λ a. absurd (omega arith), λ a. record { sheet = one.0; fits = one.1; bytes = refl }) };
              done = (refl, rep.lines some few enough one.0 one.1);
            }
      ]
