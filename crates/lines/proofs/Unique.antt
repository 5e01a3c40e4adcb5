-- What the line writer promises leaves one answer and one content of the lent bytes. Assumes nothing.
use Prim.Native.Nat.{ℕ}
use mathlib.Core.Path.{◌≡◌, sym, ap, ◌∙◌}
use mathlib.Core.List.{List}
use Rattle.std.specs.Prelude.{Result, Ok, Err}
use Rattle.fields.specs.declared.Refusal.{Refusal}
use Rattle.fields.proofs.Unique.{same_refusal}
use Rattle.lines.specs.Line.{of_written, LineContract}

-- two answers that mean the same are the same
pub same_written : (r s : Result ℕ Refusal) → of_written r ≡ of_written s → r ≡ s
same_written (Err x) (Err y) e =
    let p : x.number ≡ y.number = cc in
    let q : x.place ≡ y.place = cc in
    ap Err (same_refusal x y p q)
same_written (Ok n) (Ok m) e = let p : n ≡ m = cc in ap Ok p
same_written (Err x) (Ok m) e = cc
same_written (Ok n) (Err y) e = cc

pub line_one : (words : List ℕ) (arity : ℕ) (lent : List ℕ) {r r' : Result ℕ Refusal} {left left' : List ℕ} → LineContract words arity lent r left
    → LineContract words arity lent r' left' → (r ≡ r') × (left ≡ left')
line_one words arity lent {r} {r'} p q = (same_written r r' (p.answers ∙ sym q.answers), p.leaves ∙ sym q.leaves)
