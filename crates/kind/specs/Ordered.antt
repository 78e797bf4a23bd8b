-- The relations are those of `==` and `<`, for whole numbers and for rates.
use Rattle.std.specs.Prelude.{◌≡◌, Bool, true, false, cond, ◌||◌, T, ℤ, pos, negsuc, Some, None, Option, Float, refl, not}
use Rattle.std.proofs.Common.{ap, ◌∙◌, arith}
use Rattle.std.proofs.lemmas.Bool.Decides.{nat_tests}
use Rattle.std.proofs.lemmas.Float.{floats_per, eq_flip, eq-not_lt, lt_irrefl, lt_trans}
use Rattle.std.specs.Float.Ieee.{eq, ne, lt, le}
use Rattle.std.specs.declared.cmp.Ordering.{Ordering}
use Rattle.std.specs.declared.cmp.Ordering.TheVariants as Order
use Rattle.std.specs.Ordering.{is_lt, is_le, is_gt, is_ge, is_some_and, int_cmp, int_eq, float_partial_cmp}
use Rattle.reading.specs.declared.rows.Relation.{Relation}
use Rattle.reading.specs.declared.rows.Relation.TheVariants.{Equal, Unequal, Less, AtMost, Greater, AtLeast}
use Rattle.kind.specs.declared.integer.Integer.{Integer}
use Rattle.kind.specs.Numbers.{compared}
use Rattle.kind.specs.Rates as Rates
use Rattle.kind.specs.Wholes as Wholes

same : (a b : ℤ) → int_eq a b ≡ Wholes.equal a b
same (pos m) (pos n) = grind (arith, nat_tests)
same (pos m) (negsuc n) = refl
same (negsuc m) (pos n) = refl
same (negsuc m) (negsuc n) = grind (arith, nat_tests)

signed : (r : Relation) (a b : ℤ) → compared int_eq (λ x y. Some (int_cmp x y)) r a b ≡ Wholes.holds r a b
signed Equal a b = same a b
signed Unequal a b = ap not (same a b)
signed Less (pos m) (pos n) = grind (arith, nat_tests)
signed Less (pos m) (negsuc n) = refl
signed Less (negsuc m) (pos n) = refl
signed Less (negsuc m) (negsuc n) = grind (arith, nat_tests)
signed AtMost (pos m) (pos n) = grind (arith, nat_tests)
signed AtMost (pos m) (negsuc n) = refl
signed AtMost (negsuc m) (pos n) = refl
signed AtMost (negsuc m) (negsuc n) = grind (arith, nat_tests)
signed Greater (pos m) (pos n) = grind (arith, nat_tests)
signed Greater (pos m) (negsuc n) = refl
signed Greater (negsuc m) (pos n) = refl
signed Greater (negsuc m) (negsuc n) = grind (arith, nat_tests)
signed AtLeast (pos m) (pos n) = grind (arith, nat_tests)
signed AtLeast (pos m) (negsuc n) = refl
signed AtLeast (negsuc m) (pos n) = refl
signed AtLeast (negsuc m) (negsuc n) = grind (arith, nat_tests)

pub integers_ordered : (r : Relation) (a b : Integer) → compared (λ x y. int_eq x.value y.value) (λ x y. Some (int_cmp x.value y.value)) r a b ≡ Wholes.integers.holds r a b
integers_ordered Equal a b = signed Equal a.value b.value
integers_ordered Unequal a b = signed Unequal a.value b.value
integers_ordered Less a b = signed Less a.value b.value
integers_ordered AtMost a b = signed AtMost a.value b.value
integers_ordered Greater a b = signed Greater a.value b.value
integers_ordered AtLeast a b = signed AtLeast a.value b.value

-- What is answered by whether a number is less than another, equal to it, or greater.
abbrev answer : Bool → Bool → Bool → Option Ordering
answer l e g = cond l (Some Order.Less) (cond e (Some Order.Equal) (cond g (Some Order.Greater) None))

less : (l e g : Bool) → is_some_and is_lt (answer l e g) ≡ l
less true e g = refl
less false true g = refl
less false false true = refl
less false false false = refl

at_most : (l e g : Bool) → is_some_and is_le (answer l e g) ≡ (l || e)
at_most true e g = refl
at_most false true g = refl
at_most false false true = refl
at_most false false false = refl

greater : (l e g : Bool) → (T l → T g → ⊥) → (T e → T g → ⊥) → is_some_and is_gt (answer l e g) ≡ g
greater true e true f h = absurd (f tt tt)
greater true e false f h = refl
greater false true true f h = absurd (h tt tt)
greater false true false f h = refl
greater false false true f h = refl
greater false false false f h = refl

at_least : (l e g : Bool) → (T l → T g → ⊥) → (T e → T l → ⊥) → is_some_and is_ge (answer l e g) ≡ (g || e)
at_least true true g f h = absurd (h tt tt)
at_least true false true f h = absurd (f tt tt)
at_least true false false f h = refl
at_least false true true f h = refl
at_least false true false f h = refl
at_least false false true f h = refl
at_least false false false f h = refl

apart : (x y : Float) → T (lt x y) → T (lt y x) → ⊥
apart x y h k = lt_irrefl x (lt_trans x y x h k)

pub floats_ordered : (r : Relation) (x y : Float) → compared eq float_partial_cmp r x y ≡ Rates.holds r x y
unfolding ne le
floats_ordered Equal x y = refl
floats_ordered Unequal x y = refl
floats_ordered Less x y = less (lt x y) (eq x y) (lt y x)
floats_ordered AtMost x y = at_most (lt x y) (eq x y) (lt y x)
floats_ordered Greater x y = greater (lt x y) (eq x y) (lt y x) (apart x y) (λ e. eq-not_lt y x (eq_flip x y e))
floats_ordered AtLeast x y = at_least (lt x y) (eq x y) (lt y x) (apart x y) (eq-not_lt x y) ∙ ap (λ (e : Bool). lt y x || e) (floats_per.symm x y)
