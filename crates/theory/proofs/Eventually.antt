-- What holds from some number on.
use Rattle.std.proofs.Common.{ℕ, zero, suc, ◌+◌, ◌<◌, ◌≤◌, arith}
use Rattle.theory.proofs.Search.{below_suc}

abbrev pub Eventually : (ℕ → Type 0) → Type 0
Eventually F = (n : ℕ) × ((m : ℕ) → n ≤ m → F m)

pub always : {F : ℕ → Type 0} → ((m : ℕ) → F m) → Eventually F
always f = (0, λ m h. f m)

pub then : {F G : ℕ → Type 0} → ((m : ℕ) → F m → G m) → Eventually F → Eventually G
then f e = (e.0, λ m h. f m (e.1 m h))

pub both : {F G : ℕ → Type 0} → Eventually F → Eventually G → Eventually (λ m. F m × G m)
both a b = (a.0 + b.0, λ m h. (a.1 m (omega arith), b.1 m (omega arith)))

pub each_below : (F : ℕ → ℕ → Type 0) (s : ℕ) → ((u : ℕ) → u < s → Eventually (λ m. F m u)) → Eventually (λ m. (u : ℕ) → u < s → F m u)
each_below F zero e = (0, λ m h u l. absurd (omega arith))
each_below F (suc s) e =
    then (λ m q. below_suc (F m) s q.0 q.1) (both (each_below F s (λ u l. e u (omega arith))) (e s (omega arith)))
