-- Laws of a line's text: its pieces, and that it has at most 99 bytes. Assumes nothing.
use Prim.Native.Nat.{ℕ, zero, suc, ◌+◌, ◌*◌, ◌-◌, ◌≤◌, ◌<◌}
use native.Mathlib.Omega.{arith}
use mathlib.Core.Path.{◌≡◌, refl, sym, ap, ◌∙◌}
use mathlib.Core.Bool.{Bool, true, false}
use mathlib.Core.List.{List, [], ◌∷◌, ◌++◌, append-nil, append_assoc}
use lib.ListN.{length, length-append, take, get_or}
use lib.Dec.{ltb}
use borrow.Author.Tests.{lt-ltb, le-ltb, ltb-true, ltb-false}
use Rattle.model.specs.Values.{blanks}
use Rattle.model.specs.Facts.{fact}
use Rattle.model.specs.Lines.{decimal, value_text, values_text, line}
use Rattle.text.proofs.Decimal.{decimal_many, decimal_few}

pub value_constant : (v : ℕ) → v < blanks → value_text v ≡ decimal v
unfolding value_text
value_constant v h = rw (lt-ltb v blanks h)

pub value_blank : (v : ℕ) → blanks ≤ v → value_text v ≡ 0x23 ∷ decimal (v - blanks)
unfolding value_text
value_blank v h = rw (le-ltb v blanks h)

-- a value is at most eleven bytes long
pub value_short : (v : ℕ) → length (value_text v) ≤ 11
value_short v = go (ltb v blanks) refl
  where
    go : (b : Bool) → ltb v blanks ≡ b → length (value_text v) ≤ 11
    go true e = rw (value_constant v (ltb-true v blanks e)) (omega (arith, decimal_many v))
    go false e = rw (value_blank v (ltb-false v blanks e)) (omega (arith, decimal_many (v - blanks)))

pub values_short : (vs : List ℕ) → length (values_text vs) ≤ 12 * length vs
unfolding values_text
values_short [] = omega arith
values_short (v ∷ vs) = omega (arith, length-append (value_text v) (values_text vs), value_short v, values_short vs)

-- the line of a fact with a relation of two digits and eight values fits 99 bytes
pub line_short : (r : ℕ) (vs : List ℕ) → r < 100 → length vs ≤ 8 → length (line (fact r vs)) ≤ 99
unfolding line
line_short r vs h k = simp length-append (omega (arith, decimal_few r 1 h, values_short vs))

pub line_pieces : (r : ℕ) (vs : List ℕ) → line (fact r vs) ≡ decimal r ++ (values_text vs ++ (0x0a ∷ []))
unfolding line
line_pieces r vs = refl

-- one value more
pub values_more : (vs : List ℕ) (i : ℕ) → i < length vs → values_text (take (i + 1) vs) ≡ values_text (take i vs) ++ (0x20 ∷ value_text (get_or vs i 0))
unfolding values_text
values_more [] i h = absurd (omega arith)
values_more (v ∷ vs) zero h = append-nil (0x20 ∷ value_text v)
values_more (v ∷ vs) (suc i) h =
    let e : suc i + 1 ≡ suc (i + 1) = omega arith in
    rw e (ap (λ t. 0x20 ∷ value_text v ++ t) (values_more vs i (omega arith)) ∙ sym (append_assoc (0x20 ∷ value_text v) (values_text (take i vs)) (0x20 ∷ value_text (get_or vs i 0))))

-- some of the values are no longer than all
pub values_part : (vs : List ℕ) (i : ℕ) → length (values_text (take i vs)) ≤ length (values_text vs)
unfolding values_text
values_part vs zero = omega arith
values_part [] (suc i) = omega arith
values_part (v ∷ vs) (suc i) =
    omega (arith, length-append (value_text v) (values_text (take i vs)), length-append (value_text v) (values_text vs), values_part vs i)

-- the next value, behind a space, fits
pub value_left : (vs : List ℕ) (i : ℕ) → i < length vs → length (values_text (take i vs)) + (1 + length (value_text (get_or vs i 0))) ≤ length (values_text vs)
value_left vs i h =
    omega (arith, ap length (values_more vs i h), length-append (values_text (take i vs)) (0x20 ∷ value_text (get_or vs i 0)), values_part vs (i + 1))
