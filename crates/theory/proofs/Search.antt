-- The search for the least number that passes a test.
use Rattle.std.proofs.Common.{◌≡◌, ℕ, zero, suc, ◌<◌, Bool, true, false, cond, Some, None, Option, sym, refl, ap, subst, arith}
use native.Mathlib.Decide.{ℕ_discrete, dec_lt}
use Rattle.theory.specs.Rule.{least, or_at}

-- The answer s of a search below n: s passes, and nothing less does.
abbrev pub Found : (ℕ → Bool) → ℕ → Option ℕ → Type 0
Found test n None = (u : ℕ) → u < n → test u ≡ false
Found test n (Some s) = (s < n) × (test s ≡ true) × ((u : ℕ) → u < s → test u ≡ false)

pub below_suc : (P : ℕ → Type 0) (n : ℕ) → ((u : ℕ) → u < n → P u) → P n → (u : ℕ) → u < suc n → P u
below_suc P n below here u h =
    elim (ℕ_discrete u n) [ yes e ↦ subst P (sym e) here | no ne ↦ below u (omega arith) ]

at_suc : (test : ℕ → Bool) (n : ℕ) (o : Option ℕ) → Found test n o → Found test (suc n) (or_at test n o)
at_suc test n (Some s) f = (omega arith, f.1, f.2)
at_suc test n None f = go (test n) refl
  where
    go : (b : Bool) → test n ≡ b → Found test (suc n) (cond b (Some n) None)
    go true e = (omega arith, e, f)
    go false e = below_suc (λ u. test u ≡ false) n f e

pub least-found : (test : ℕ → Bool) (n : ℕ) → Found test n (least test n)
least-found test zero = λ u h. absurd (omega arith)
least-found test (suc n) = at_suc test n (least test n) (least-found test n)

found_at : (test : ℕ → Bool) (n s : ℕ) → s < n → test s ≡ true → ((u : ℕ) → u < s → test u ≡ false) → (o : Option ℕ) → Found test n o → o ≡ Some s
found_at test n s h e below None f = let c : test s ≡ false = f s h in cc
found_at test n s h e below (Some u) f =
    elim (dec_lt u s) [
      | yes l ↦ (let c : test u ≡ false = below u l in let d : test u ≡ true = f.1 in cc)
      | no nl ↦ elim (dec_lt s u) [ yes l ↦ (let c : test s ≡ false = f.2 s l in cc) | no ng ↦ ap Some (omega arith) ]
    ]

-- A search finds the number below which nothing passes.
pub least-is : (test : ℕ → Bool) (n s : ℕ) → s < n → test s ≡ true → ((u : ℕ) → u < s → test u ≡ false) → least test n ≡ Some s
least-is test n s h e below = found_at test n s h e below (least test n) (least-found test n)
