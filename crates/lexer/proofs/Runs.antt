-- What the runs, a filled name and the digits of a literal say. Assumes nothing.
use Rattle.std.proofs.Common.{◌≡◌, ℕ, ◌+◌, ◌-◌, ◌*◌, ◌<◌, ◌≤◌, Bool, true, List, [], ◌∷◌, ◌++◌, map, length, get_or, take, drop, replicate, None, fold, sym, refl, ap, ◌∙◌, zero, suc, arith, cond, false, Option, Some}
use Rattle.std.proofs.lemmas.Bool.{lt-leb, cond-false}
use Rattle.std.proofs.lemmas.List.{length-take, length-map, get_or-take, map-append, drop-replicate}
use Rattle.std.proofs.lemmas.List.Sums.{prefix_len-drop_yes, prefix_len_passes, fold_more}
use Rattle.std.specs.Borrow.{Bor}
use Rattle.std.specs.Prelude.{find, bytes_eq, option_map}
use Rattle.std.specs.Char.{to_ascii_lowercase}
use Rattle.std.specs.List.{prefix_len}
use Rattle.lexer.specs.declared.lexer.Run.{Run}
use Rattle.lexer.specs.declared.lexer.Run.TheVariants.{Number}
use Rattle.lexer.specs.declared.token.Token.{Token}
use Rattle.lexer.specs.Lexer.{Entry, meaning, find as find_entry, class_of, in_run, run_end, longest, filled, part, Digits, greatest, value, literal}

-- A run that begins at p goes past it.
pub run_past : (run : Run) (bs : List ℕ) (p : ℕ) → p < length bs → in_run run (class_of (get_or bs p 0)) ≡ true → p < run_end run bs p
unfolding run_end
run_past run bs p h k = let e = prefix_len-drop_yes (λ b. in_run run (class_of b)) bs p 0 h k in omega (arith, e)

-- The bytes of a run of digits.
pub run_digits : (bs : List ℕ) (p e : ℕ) → e ≡ run_end Number bs p → Digits (part bs p e)
unfolding run_end
run_digits bs p e is k h =
    let digit : ℕ → Bool = λ b. in_run Number (class_of b) in
    let l : k < prefix_len digit (drop p bs) = omega (arith, length-take (e - p) (drop p bs)) in
    ap digit (get_or-take (e - p) (drop p bs) k 0 (omega arith)) ∙ prefix_len_passes digit (drop p bs) k 0 l

zeros_stay : (n : ℕ) → map to_ascii_lowercase (replicate n 0) ≡ replicate n 0
zeros_stay zero = refl
zeros_stay (suc n) = ap (λ xs. 0 ∷ xs) (zeros_stay n)

-- The small letters of a word and the zeros after it, in small letters too.
pub filled_is : (xs : List ℕ) → map to_ascii_lowercase (xs ++ drop (length xs) (replicate longest 0)) ≡ filled (map to_ascii_lowercase xs)
filled_is xs = simp (map-append, drop-replicate, zeros_stay, length-map)

abbrev pub worth : ℕ → ℕ → ℕ
worth v b = v * 10 + (b - 48)

grows : (a : ℕ) (xs : List ℕ) → a ≤ fold worth a xs
grows a [] = omega arith
grows a (x ∷ xs) = let r = grows (worth a x) xs in omega (arith, r)

-- More digits are worth no less.
fronts : (a n : ℕ) (xs : List ℕ) → fold worth a (take n xs) ≤ fold worth a xs
fronts a zero xs = grows a xs
fronts a (suc n) [] = omega arith
fronts a (suc n) (x ∷ xs) = fronts (worth a x) n xs

pub too_great : (xs : List ℕ) (i v : ℕ) → i < length xs → v ≡ value (take i xs) → greatest < worth v (get_or xs i 0) → None ≡ literal xs
too_great xs i v h e g =
    let m = fold_more worth 0 xs i 0 h in
    let r = fronts 0 (i + 1) xs in
    let l : greatest < value xs = omega (arith, m, r) in
    sym (cond-false _ _ _ (lt-leb _ _ l))

abbrev pub entry : Bor (List ℕ) × Token → Entry
entry w = record { spelling = w.0.now; means = w.1 }

either : (b : Bool) (w : Bor (List ℕ) × Token) (o : Option (Bor (List ℕ) × Token)) → option_map (λ w. w.1) (cond b (Some w) o) ≡ cond b (Some w.1) (option_map (λ w. w.1) o)
either true w o = refl
either false w o = refl

-- What a word means among spellings is what it means among their entries.
pub meaning_is : (ws : List (Bor (List ℕ) × Token)) (bs : List ℕ) → meaning ws bs ≡ find_entry (map entry ws) bs
unfolding meaning
meaning_is [] bs = refl
meaning_is (w ∷ ws) bs = either (bytes_eq w.0.now bs) w (find (λ w. bytes_eq w.0.now bs) ws) ∙ ap (cond (bytes_eq w.0.now bs) (Some w.1)) (meaning_is ws bs)
