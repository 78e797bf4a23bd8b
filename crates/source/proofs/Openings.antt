-- What `checked` answers is what is to be answered.
use Rattle.std.proofs.Common.{◌≡◌, ℕ, zero, suc, ◌+◌, ◌<◌, ◌≤◌, Bool, true, false, cond, not, ◌||◌, eqb, ltb, List, length, get_or, Some, Ok, Err, refl, inl, inr, arith}
use Rattle.std.proofs.lemmas.Bool.{ltb-true, ltb-false, eqb-true, eqb-false, not-true, not-false, or_cases, or_parts, cases_eq}
use Rattle.source.specs.declared.format.Counts.{Counts}
use Rattle.source.specs.declared.format.RecordingError.TheVariants.{Header, Length}
use Rattle.source.specs.Recordings.{size_of, ticks_of, first_bad, marked, sized, checked}
use Rattle.source.specs.Openings.{Heads, Opens, mark_at, opened, cut_header, other_kind, bad_channels, bad_ticks, bad_length, bad_mark}

module _ (code : ℕ) (bytes : List ℕ) where
  module _ (n : Counts) (heads : Heads code bytes n) (long : length bytes ≡ size_of n) where
    -- The d ticks from t on are still to be seen.
    marks : (d t : ℕ) → ((k : ℕ) → k < t → mark_at bytes n k ≤ 1) → t + d ≡ n.ticks → Opens code bytes (marked bytes n (first_bad bytes n t d))
    marks zero t good e = opened n heads long (λ k lt. good k (omega arith))
    marks (suc d) t good e = go (ltb 1 (mark_at bytes n t)) refl (λ more. marks d (suc t) more (omega arith))
      where
        go : (b : Bool) → ltb 1 (mark_at bytes n t) ≡ b →
            (((k : ℕ) → k < suc t → mark_at bytes n k ≤ 1) → Opens code bytes (marked bytes n (first_bad bytes n (suc t) d))) →
            Opens code bytes (marked bytes n (cond b (Some t) (first_bad bytes n (suc t) d)))
        go true q rest = bad_mark n t heads long (omega arith) (ltb-true _ _ q) good
        go false q rest = rest (λ k lt. elim (cases_eq k t) [ inl same ↦ rw same (ltb-false _ _ q) | inr other ↦ good k (omega arith) ])

  lengths : (n : Counts) → Heads code bytes n → Opens code bytes (sized bytes (Ok n))
  lengths n heads = go (eqb (length bytes) (size_of n)) refl
    where
      go : (b : Bool) → eqb (length bytes) (size_of n) ≡ b →
          Opens code bytes (cond b (marked bytes n (first_bad bytes n 0 n.ticks)) (Err (Length (length bytes))))
      go true q = marks n heads (eqb-true _ _ q) n.ticks 0 (λ k lt. absurd (omega arith)) (omega arith)
      go false q = bad_length n heads (eqb-false _ _ q)

  pub checked-opens : Opens code bytes (checked code bytes)
  checked-opens = header (ltb (length bytes) 6) refl
    where
      counts : Counts
      counts = record { channels = get_or bytes 1 0; ticks = ticks_of bytes }

      fields : 6 ≤ length bytes → get_or bytes 0 0 ≡ code → 1 ≤ get_or bytes 1 0 → get_or bytes 1 0 ≤ 8 → (b : Bool) → ltb 100000 (ticks_of bytes) ≡ b →
          Opens code bytes (sized bytes (cond b (Err (Header 2)) (Ok counts)))
      fields long same some few true q = bad_ticks long same some few (ltb-true _ _ q)
      fields long same some few false q =
          lengths counts (record {
            whole = long;
            kind = same;
            channels = refl;
            some_channel = some;
            few_channels = few;
            ticks = refl;
            few_ticks = ltb-false _ _ q;
          })

      channels : 6 ≤ length bytes → get_or bytes 0 0 ≡ code → (b : Bool) → (ltb (get_or bytes 1 0) 1 || ltb 8 (get_or bytes 1 0)) ≡ b →
          Opens code bytes (sized bytes (cond b (Err (Header 1)) (cond (ltb 100000 (ticks_of bytes)) (Err (Header 2)) (Ok counts))))
      channels long same true q =
          bad_channels long same (elim (or_cases _ _ q) [ inl low ↦ inl (ltb-true _ _ low) | inr high ↦ inr (ltb-true _ _ high) ])
      channels long same false q =
          let parts = or_parts _ _ q in
          fields long same (ltb-false _ _ parts.0) (ltb-false _ _ parts.1) (ltb 100000 (ticks_of bytes)) refl

      kinds : 6 ≤ length bytes → (b : Bool) → not (eqb (get_or bytes 0 0) code) ≡ b →
          Opens code bytes (sized bytes (cond b (Err (Header 0)) (cond (ltb (get_or bytes 1 0) 1 || ltb 8 (get_or bytes 1 0)) (Err (Header 1))
          (cond (ltb 100000 (ticks_of bytes)) (Err (Header 2)) (Ok counts)))))
      kinds long true q = other_kind long (eqb-false _ _ (not-true _ q))
      kinds long false q = channels long (eqb-true _ _ (not-false _ q)) (ltb (get_or bytes 1 0) 1 || ltb 8 (get_or bytes 1 0)) refl

      header : (b : Bool) → ltb (length bytes) 6 ≡ b →
          Opens code bytes (sized bytes (cond b (Err (Header (length bytes))) (cond (not (eqb (get_or bytes 0 0) code)) (Err (Header 0))
          (cond (ltb (get_or bytes 1 0) 1 || ltb 8 (get_or bytes 1 0)) (Err (Header 1)) (cond (ltb 100000 (ticks_of bytes)) (Err (Header 2)) (Ok counts))))))
      header true q = cut_header (ltb-true _ _ q)
      header false q = kinds (ltb-false _ _ q) (not (eqb (get_or bytes 0 0) code)) refl
