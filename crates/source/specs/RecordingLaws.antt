-- What a recording means is a lawful source.
use Rattle.std.specs.Prelude.{◌≡◌, ℕ, ◌+◌, ◌*◌, ◌<◌, ◌≤◌, Bool, true, false, cond, ◌&&◌, ◌⊎◌, List, Some, None, Err, Option, ◌==◌, ◌≢◌, nat_lt, slice_index, refl}
use Rattle.std.proofs.Common.{ap, ◌∙◌, subst, inl, inr, lt→ltb}
use Rattle.std.proofs.Math.Arith.{le→nltb}
use Rattle.std.specs.Float.Ieee.Bits.{is_true, is_false}
use Rattle.reading.specs.declared.faults.SourceFault.TheVariants.{Ended, Gap}
use Rattle.kind.specs.Kinds as Kinds
use Rattle.source.specs.declared.format.Counts.{Counts}
use Rattle.source.specs.Recordings.{recorded, heard, start, word_at}
use Rattle.source.specs.Sources.{Lawful}

no-and : (p : Bool) → (p && false) ≡ false
no-and true = refl
no-and false = refl

outside : (c t a b : ℕ) → (a ≤ c) ⊎ (b ≤ t) → (nat_lt c a && nat_lt t b) ≡ false
outside c t a b (inl h) = ap (λ (p : Bool). p && nat_lt t b) (is_false (nat_lt c a) (le→nltb c a h))
outside c t a b (inr h) = ap (λ (p : Bool). nat_lt c a && p) (is_false (nat_lt t b) (le→nltb t b h)) ∙ no-and (nat_lt c a)

inside : (c t a b : ℕ) → c < a → t < b → (nat_lt c a && nat_lt t b) ≡ true
inside c t a b h k = ap (λ (p : Bool). p && nat_lt t b) (is_true (nat_lt c a) (lt→ltb c a h)) ∙ is_true (nat_lt t b) (lt→ltb t b k)

runs : {V : Type 0} (b : Bool) (o : Option V) → cond b (Err Gap) (heard o) ≢ Err Ended
runs true o e = cc
runs false (Some v) e = cc
runs false None e = cc

pub recorded_lawful : {V : Type 0} (k : Kinds.Meaning V) (bytes : List ℕ) (n : Counts) → Lawful (recorded k bytes n)
recorded_lawful k bytes n =
    record {
      past = λ c t h. ap (λ (b : Bool). cond b (cond (slice_index bytes (start n t) == 0) (Err Gap) (heard (k.word (word_at bytes (start n t + 1 + 8 * c))))) (Err Ended)) (outside c t n.channels n.ticks h);
      within = λ c t i j e. runs (slice_index bytes (start n t) == 0) (k.word (word_at bytes (start n t + 1 + 8 * c)))
          (subst (λ (b : Bool). cond b (cond (slice_index bytes (start n t) == 0) (Err Gap) (heard (k.word (word_at bytes (start n t + 1 + 8 * c))))) (Err Ended) ≡ Err Ended) (inside c t n.channels n.ticks i j) e);
    }
