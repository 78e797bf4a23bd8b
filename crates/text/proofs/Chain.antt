-- One text after another.
use Rattle.std.proofs.Common.{◌≡◌, ℕ, ◌+◌, ◌≤◌, List, [], ◌++◌, length, sym, ap, ◌∙◌, subst, append_assoc, append-nil, arith, length-append}
use Rattle.text.specs.declared.text.Text.{Text}
use Rattle.text.specs.Pushed.{Pushed, bytes_of, room_of}

pub pushed_then : (a b c : Text) (xs ys : List ℕ) → Pushed a b xs → Pushed b c ys → Pushed a c (xs ++ ys)
pushed_then a b c xs ys p q = record {
  bytes = λ h.
      let y = q.bytes h in
      let x = p.bytes y.0 in
      (x.0, y.1 ∙ ap (λ l. l ++ ys) x.1 ∙ append_assoc (bytes_of a) xs ys);
  room = λ h fits.
      let sum = length-append xs ys in
      let half : length (bytes_of a) + length xs ≤ room_of a = omega (arith, sum) in
      let kept = p.room h half in
      let grown = ap length (p.bytes kept).1 ∙ length-append (bytes_of a) xs in
      let rest : length (bytes_of b) + length ys ≤ room_of b = omega (arith, sum, grown, p.capacity) in
      q.room kept rest;
  capacity = omega (arith, p.capacity, q.capacity);
}

pub pushed-is : (a b : Text) (xs ys : List ℕ) → xs ≡ ys → Pushed a b xs → Pushed a b ys
pushed-is a b xs ys e = subst (λ l. Pushed a b l) e

pub pushed_none : (a : Text) → Pushed a a []
pushed_none a = record {
  bytes = λ h. (h, sym (append-nil (bytes_of a)));
  room = λ h fits. h;
  capacity = omega arith;
}
