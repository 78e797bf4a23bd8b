-- One more line.
use Rattle.std.proofs.Common.{◌≡◌, ℕ, ◌+◌, List, subst, add-one}
use Rattle.reading.specs.Faults.{Reading}
use Rattle.format.specs.Shown.{line_text}
use Rattle.text.specs.declared.text.Text.{Text}
use Rattle.text.specs.Pushed.{Pushed}
use Rattle.text.proofs.Chain.{pushed_then}
use Rattle.report.specs.Reports.{lines_text}

pub lines_more : {V : Type 0} (text : V → List ℕ) (at : ℕ → Reading V) (a b c : Text) (n tick : ℕ) (v : Reading V) → tick ≡ n → v ≡ at n →
    Pushed a b (lines_text text at n) → Pushed b c (line_text text (record { tick = tick; reading = v })) → Pushed a c (lines_text text at (n + 1))
lines_more {V} text at a b c n tick v e f p q =
    let line : Pushed b c (line_text text (record { tick = n; reading = at n })) =
    subst (λ (x : Reading V). Pushed b c (line_text text (record { tick = n; reading = x }))) f (subst (λ (m : ℕ). Pushed b c (line_text text (record { tick = m; reading = v }))) e q) in
    rw add-one (pushed_then a b c (lines_text text at n) (line_text text (record { tick = n; reading = at n })) p line)
