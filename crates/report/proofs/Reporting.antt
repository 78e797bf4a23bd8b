-- A run from its open to its last tick.
use Rattle.std.proofs.Common.{◌≡◌, ℕ, ◌-◌, ◌≤◌, List, [], ◌∷◌, length, Ok, Err, Result, sym, refl, ap, ◌∙◌, subst, arith}
use native.Mathlib.Decide.{dec_lt}
use Rattle.kind.specs.Kinds.{Meaning}
use Rattle.theory.specs.Says.{Says}
use Rattle.theory.specs.Rule.{Sheet, Fits}
use Rattle.theory.specs.Determined.{Determined}
use Rattle.table.specs.declared.schedule.Schedule.{Schedule}
use Rattle.table.specs.Layout.{Layout}
use Rattle.table.specs.Tables.{layout, rows_of}
use Rattle.engine.specs.declared.run.Run.{Run}
use Rattle.engine.specs.declared.calls.Call.TheVariants.{Open}
use Rattle.engine.specs.declared.calls.Answer.TheVariants.{Stages}
use Rattle.engine.specs.declared.calls.Refusal.{Refusal}
use Rattle.engine.specs.Law.{Reply, Right, answered}
use Rattle.engine.specs.Tells.{laid, Tells, Lawful, Stays}
use Rattle.format.specs.Shown.{heading_text}
use Rattle.text.specs.declared.text.Text.{Text}
use Rattle.text.specs.Pushed.{Pushed}
use Rattle.text.proofs.Chain.{pushed_then}
use Rattle.report.specs.Reports.{Reported, heading, lines_text}
use Rattle.report.specs.Runs.{Going}
use Rattle.report.proofs.Going.{same-laid}

pub for-horizon : {V : Type 0} {t : Schedule} {k : Meaning V} {says : Says V} {H room : ℕ} {text : V → List ℕ} {was end : Text} {r : Result Unit Refusal} (H' : ℕ) → H ≡ H' →
    Reported t k says H room text was end r → Reported t k says H' room text was end r
for-horizon {V} {t} {k} {says} {H} {room} {text} {was} {end} {r} H' e h = subst (λ (n : ℕ). Reported t k says n room text was end r) e h

module _ {V : Type 0} (t : Schedule) (k : Meaning V) (says : Says V) (text : V → List ℕ) (H room : ℕ) (fresh began : Run V) (r : Result ℕ Refusal)
    (laid-is : laid fresh ≡ layout t) (room-is : length fresh.cells.now ≡ room) (tells : Tells k says fresh []) (law : Lawful k says fresh began (Open H) (answered Stages r)) where
  right : Right (layout t) k says room [] (Open H) (answered {V = V} Stages r)
  right = subst (λ (n : ℕ). Right (layout t) k says n [] (Open H) (answered {V = V} Stages r)) room-is (subst (λ (l : Layout). Right l k says (length fresh.cells.now) [] (Open H) (answered {V = V} Stages r)) laid-is (law [] tells).0)

  -- A refused open appends nothing.
  pub refused-open : (e : Refusal) (was : Text) (end : Result Unit Refusal) → r ≡ Err e → end ≡ Err e → Reported t k says H room text was was end
  refused-open e was end is ends =
      record {
        none = λ h. let a = right.0 h in (cc, refl);
        far = λ h. let a = right.1 h in (cc, refl);
        few = λ h i j. let a = right.2 h i j in (cc, refl);
        listed = λ h i j. let a = right.3 h i j in cc;
        lines = λ h i j σ fits. let a = right.3 h i j in cc;
      }

  module _ (n : ℕ) (is : r ≡ Ok n) where
    some : 1 ≤ H
    some = elim (dec_lt H 1) [ yes h ↦ let a = right.0 h in cc | no h ↦ omega arith ]

    near : H ≤ 100000
    near = elim (dec_lt 100000 H) [ yes h ↦ let a = right.1 h in cc | no h ↦ omega arith ]

    enough : t.size ≤ room
    enough = elim (dec_lt room t.size) [ yes h ↦ let a = right.2 some near h in cc | no h ↦ omega arith ]

    module _ (stays : Stays fresh began) where
      open-laid : laid began ≡ layout t
      open-laid = same-laid k says fresh began stays ∙ laid-is

      -- An accepted open leaves all stages to settle.
      pub going-opened : Going k says began H n 0
      going-opened =
          let a = right.3 some near enough in
          let stages : n ≡ t.stages = cc in
          let all : (layout t).stages - 0 ≡ n = omega arith in
          let e : answered {V = V} Stages r ≡ Ok (Stages n) = ap (answered Stages) is in
          record {
            past = record { call = Open H; reply = Ok (Stages n) } ∷ [];
            tells = subst (λ (x : Reply V). Tells k says began (record { call = Open H; reply = x } ∷ [])) e (law [] tells).1;
            horizon = refl;
            left = ap (λ (l : Layout). l.stages - 0) open-laid ∙ all;
            made = refl;
          }

      module _ (settled : Run V) (Stays-on : Stays began settled) (settle : Result Unit Refusal)
          (goes : (H made : ℕ) → Going k says began H n made → (settle ≡ Ok tt) × Going k says settled H 0 made) where
        -- Settling is not refused.
        pub never-left : (e : Refusal) → settle ≡ Err e → ⊥
        never-left e err = let a = (goes H 0 going-opened).0 in cc

        settled-laid : laid settled ≡ layout t
        settled-laid = same-laid k says began settled Stays-on ∙ open-laid

        -- The heading, and then the lines.
        pub reported : (determined : Determined (rows_of t) k says) (was mid end : Text) (last : Result Unit Refusal) → Pushed was mid (heading_text (heading t)) →
            ((σ : Sheet V) → Fits (laid settled).rows k says H σ → Going k says settled H 0 0 → (last ≡ Ok tt) × Pushed mid end (lines_text text (σ (laid settled).result) H)) →
            Reported t k says H room text was end last
        reported determined was mid end last top rest =
            let on = (goes H 0 going-opened).1 in
            let all = λ (σ : Sheet V) (fits : Fits (rows_of t) k says H σ). rest σ (subst (λ (l : Layout). Fits l.rows k says H σ) (sym settled-laid) fits) on in
            record {
              none = λ h. absurd (let s = some in omega arith);
              far = λ h. absurd (let s = near in omega arith);
              few = λ h i j. absurd (let s = enough in omega arith);
              listed = λ h i j. let one = determined.some H in (all one.0 one.1).0;
              lines = λ h i j σ fits. pushed_then was mid end _ _ top (subst (λ (l : Layout). Pushed mid end (lines_text text (σ l.result) H)) settled-laid (all σ fits).1);
            }
