-- A run that goes on by one call.
use Rattle.std.proofs.Common.{◌≡◌, ℕ, ◌+◌, ◌-◌, ◌<◌, ◌∷◌, Ok, Err, Result, sym, ap, ◌∙◌, subst, arith}
use Rattle.reading.specs.Faults.{Reading}
use Rattle.kind.specs.Kinds.{Meaning}
use Rattle.theory.specs.Says.{Says}
use Rattle.theory.specs.Rule.{Sheet, Fits}
use Rattle.table.specs.Layout.{Layout}
use Rattle.table.specs.Tables.{layout}
use Rattle.engine.specs.declared.run.Run.{Run}
use Rattle.engine.specs.declared.calls.Call.TheVariants.{Settle, Step}
use Rattle.engine.specs.declared.calls.Answer.TheVariants.{Left, Made}
use Rattle.engine.specs.declared.calls.Refusal.{Refusal}
use Rattle.engine.specs.Law.{Reply, settles_of, steps_of, answered}
use Rattle.engine.specs.Tells.{laid, Tells, Lawful, Stays}
use Rattle.report.specs.Runs.{Going}

module _ {V : Type 0} (k : Meaning V) (says : Says V) (before after : Run V) (stays : Stays before after) where
  pub same-laid : laid after ≡ laid before
  same-laid = ap (λ p. layout p.now.schedule) stays.table

  -- A stage is settled.
  pub settled-more : (a : Reply V) → Lawful k says before after Settle a → (H stages ticks : ℕ) → Going k says before H stages ticks →
      (a ≡ Ok (Left (stages - 1))) × Going k says after H (stages - 1) ticks
  settled-more a law H stages ticks g =
      let both = law g.past g.tells in
      let is : a ≡ Ok (Left (stages - 1)) = rw g.left at (both.0.1 H g.horizon) in
      let fewer : (laid before).stages - (settles_of g.past + 1) ≡ stages - 1 = let e = g.left in omega arith in (
        is,
        record {
          past = record { call = Settle; reply = Ok (Left (stages - 1)) } ∷ g.past;
          tells = subst (λ (x : Reply V). Tells k says after (record { call = Settle; reply = x } ∷ g.past)) is both.1;
          horizon = g.horizon;
          left = ap (λ (l : Layout). l.stages - (settles_of g.past + 1)) same-laid ∙ fewer;
          made = g.made;
        },
      )

  -- A tick is made.
  pub stepped-more : (a : Reply V) → Lawful k says before after Step a → (H ticks : ℕ) (σ : Sheet V) → Fits (laid before).rows k says H σ → ticks < H →
      Going k says before H 0 ticks → (a ≡ Ok (Made ticks (σ (laid before).result ticks))) × Going k says after H 0 (ticks + 1)
  stepped-more a law H ticks σ fits below g =
      let both = law g.past g.tells in
      let low : steps_of g.past < H = let e = g.made in omega arith in
      let is : a ≡ Ok (Made ticks (σ (laid before).result ticks)) = rw g.made at ((both.0.1 H g.horizon).2 g.left low σ fits) in (
        is,
        record {
          past = record { call = Step; reply = Ok (Made ticks (σ (laid before).result ticks)) } ∷ g.past;
          tells = subst (λ (x : Reply V). Tells k says after (record { call = Step; reply = x } ∷ g.past)) is both.1;
          horizon = g.horizon;
          left = ap (λ (l : Layout). l.stages - settles_of g.past) same-laid ∙ g.left;
          made = ap (λ (n : ℕ). n + 1) g.made;
        },
      )

  -- So settling is never refused.
  pub never-unsettled : (r : Result ℕ Refusal) (e : Refusal) → r ≡ Err e → Lawful k says before after Settle (answered Left r) → (H stages ticks : ℕ) →
      Going k says before H stages ticks → ⊥
  never-unsettled r e is law H stages ticks g =
      let h = (settled-more (answered Left r) law H stages ticks g).0 in
      cc

-- A step of a run that began as `first` is never refused, and answers the next tick with the sheet's reading.
module _ {V : Type 0} (k : Meaning V) (says : Says V) (first before after : Run V) (kept : Stays first before) (stays : Stays before after) (r : Result (ℕ × Reading V) Refusal)
    (law : Lawful k says before after Step (answered (λ m. Made m.0 m.1) r)) (H ticks : ℕ) (σ : Sheet V) (fits : Fits (laid first).rows k says H σ) (below : ticks < H) (g : Going k says before H 0 ticks) where
  same : laid before ≡ laid first
  same = same-laid k says first before kept

  more : (answered {V = V} (λ m. Made m.0 m.1) r ≡ Ok (Made ticks (σ (laid before).result ticks))) × Going k says after H 0 (ticks + 1)
  more = stepped-more k says before after stays (answered (λ m. Made m.0 m.1) r) law H ticks σ (subst (λ (l : Layout). Fits l.rows k says H σ) (sym same) fits) below g

  pub never-over : (e : Refusal) → r ≡ Err e → ⊥
  never-over e is =
      let h = more.0 in
      cc

  pub made-is : (m : ℕ × Reading V) → r ≡ Ok m → (m.0 ≡ ticks) × (m.1 ≡ σ (laid first).result ticks)
  made-is m is =
      let h = more.0 in
      let tick : m.0 ≡ ticks = cc in
      let reading : m.1 ≡ σ (laid before).result ticks = cc in
      (tick, reading ∙ ap (λ (l : Layout). σ l.result ticks) same)

  pub going_on : Going k says after H 0 (ticks + 1)
  going_on = more.1
