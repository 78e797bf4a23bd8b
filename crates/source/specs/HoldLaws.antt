-- A lawful source stays lawful when its gaps are filled.
use Rattle.std.specs.Prelude.{◌≡◌, ℕ, zero, suc, ◌+◌, ◌-◌, ◌<◌, ◌≤◌, ◌⊎◌, Ok, Err, Result, ◌≢◌, refl}
use Rattle.std.proofs.Common.{ap, ◌∙◌, inl, inr, ⊎_elim, arith}
use Rattle.reading.specs.declared.faults.SourceFault.{SourceFault}
use Rattle.reading.specs.declared.faults.SourceFault.TheVariants.{Ended, Gap, OutOfRange}
use Rattle.source.specs.Sources.{Meaning, Lawful}
use Rattle.source.specs.Holds.{unless_gap, latest, held}

-- One tick further back.
pub latest-step : {V : Type 0} (said : ℕ → Result V SourceFault) (n : ℕ) → 0 < n → latest said n ≡ unless_gap (said (n - 1)) (latest said (n - 1))
latest-step said zero h = absurd (omega arith)
latest-step said (suc n) h = ap (λ (k : ℕ). unless_gap (said k) (latest said k)) (omega arith)

ended : {V : Type 0} (r s : Result V SourceFault) → unless_gap r s ≡ Err Ended → (r ≡ Err Ended) ⊎ (s ≡ Err Ended)
ended (Ok v) s e = inl e
ended (Err Ended) s e = inl refl
ended (Err Gap) s e = inr e
ended (Err OutOfRange) s e = inl e

latest-runs : {V : Type 0} (said : ℕ → Result V SourceFault) (n : ℕ) → ((k : ℕ) → k < n → said k ≢ Err Ended) → latest said n ≢ Err Ended
latest-runs said zero runs e = cc
latest-runs said (suc n) runs e =
    ⊎_elim (runs n (omega arith)) (latest-runs said n (λ k h. runs k (omega arith))) (ended (said n) (latest said n) e)

pub held_lawful : {V : Type 0} (m : Meaning V) → Lawful m → Lawful (held m)
held_lawful m law =
    record {
      past = λ c t h. ap (λ r. unless_gap r (latest (m.says c) t)) (law.past c t h);
      within = λ c t i j e. ⊎_elim (law.within c t i j) (latest-runs (m.says c) t (λ k h. law.within c k i (omega arith))) (ended (m.says c t) (latest (m.says c) t) e);
    }

-- Where there is a latest tick up to t that is no gap, hold says what is said there, and else it says a gap.
abbrev pub Filled : {V : Type 0} → Meaning V → (ℕ → ℕ → Result V SourceFault) → Type 0
Filled m said =
    ((c s t : ℕ) → s ≤ t → (m.says c s ≢ Err Gap) → ((k : ℕ) → s < k → k ≤ t → m.says c k ≡ Err Gap) → said c t ≡ m.says c s)
    × ((c t : ℕ) → ((k : ℕ) → k ≤ t → m.says c k ≡ Err Gap) → said c t ≡ Err Gap)

stays : {V : Type 0} (r s : Result V SourceFault) → (r ≢ Err Gap) → unless_gap r s ≡ r
stays (Ok v) s no_gap = refl
stays (Err Ended) s no_gap = refl
stays (Err Gap) s no_gap = absurd (no_gap refl)
stays (Err OutOfRange) s no_gap = refl

latest_at : {V : Type 0} (said : ℕ → Result V SourceFault) (s d : ℕ) → (said s ≢ Err Gap) → ((k : ℕ) → s < k → k < s + suc d → said k ≡ Err Gap) → latest said (s + suc d) ≡ said s
latest_at said s zero no_gap gaps =
    let e : s + 1 ≡ suc s = omega arith in
    ap (latest said) e ∙ stays (said s) (latest said s) no_gap
latest_at said s (suc d) no_gap gaps =
    let e : s + suc (suc d) ≡ suc (s + suc d) = omega arith in
    ap (latest said) e
    ∙ (ap (λ r. unless_gap r (latest said (s + suc d))) (gaps (s + suc d) (omega arith) (omega arith))
    ∙ latest_at said s d no_gap (λ k h j. gaps k h (omega arith)))

latest-none : {V : Type 0} (said : ℕ → Result V SourceFault) (n : ℕ) → ((k : ℕ) → k < n → said k ≡ Err Gap) → latest said n ≡ Err Gap
latest-none said zero gaps = refl
latest-none said (suc n) gaps = ap (λ r. unless_gap r (latest said n)) (gaps n (omega arith)) ∙ latest-none said n (λ k h. gaps k (omega arith))

pub held_filled : {V : Type 0} (m : Meaning V) → Filled m (held m).says
held_filled m = (
  (λ c s t h no_gap gaps.
      let e : suc t ≡ s + suc (t - s) = omega arith in
      ap (latest (m.says c)) e ∙ latest_at (m.says c) s (t - s) no_gap (λ k i j. gaps k i (omega arith))),
  (λ c t gaps. latest-none (m.says c) (suc t) (λ k h. gaps k (omega arith))),
)
