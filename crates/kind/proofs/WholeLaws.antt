-- A bounded integer is fixed by its value, and so is what `fitted` makes of an integer.
use Rattle.std.proofs.Common.{◌≡◌, ◌≤◌, T, ℤ, nat_abs, Ok, Err, sym, ap, ◌∙◌, subst, le→leb}
use native.Mathlib.Bridge.{le_prop}
use Rattle.reading.specs.declared.faults.KindFault.TheVariants.{OutOfRange}
use Rattle.kind.specs.declared.integer.Integer.{Integer}
use Rattle.kind.specs.Wholes.{within, bounded, fitted}
use Rattle.kind.proofs.Provided.{provided-yes}

same-value : (z y : ℤ) (p : nat_abs z ≤ 2147483647) (q : nat_abs y ≤ 2147483647) → z ≡ y → ◌≡◌ {A = Integer} (record { value = z; within = p }) (record { value = y; within = q })
same-value z y p q e =
    subst (λ (x : ℤ). (h : nat_abs x ≤ 2147483647) → ◌≡◌ {A = Integer} (record { value = z; within = p }) (record { value = x; within = h })) e
    (λ h. ap (λ (k : nat_abs z ≤ 2147483647). record { value = z; within = k }) (le_prop p h))
    q

pub same-integer : (m n : Integer) → m.value ≡ n.value → m ≡ n
same-integer m n e = same-value m.value n.value m.within n.within e

pub fitted-in : (n : Integer) (z : ℤ) → n.value ≡ z → Ok n ≡ fitted z
fitted-in n z e =
    let t : T (within z) = subst (λ (x : ℤ). T (within x)) e (le→leb (nat_abs n.value) 2147483647 n.within) in
    ap Ok (same-integer n (bounded z t) e) ∙ sym (provided-yes (within z) (λ h. Ok (bounded z h)) (Err OutOfRange) t)
