-- Numbers, facts and answers as text: the listing and its lines, as bytes. Assumes nothing.
use Rattle.std.specs.Prelude.{ℕ, zero, suc, ◌+◌, ◌-◌, ◌/◌, ◌%◌, true, false, cond, List, [], ◌∷◌, ◌++◌, ltb}
use Rattle.model.specs.Values.{blanks, is_constant}
use Rattle.model.specs.Facts.{Fact, fact}

-- the decimal digits of a number below ten to the power n, without leading zeros
unfoldable pub digits : ℕ → ℕ → List ℕ
digits zero x = []
digits (suc n) x = elim (ltb x 10) [ true ↦ (48 + x) ∷ [] | false ↦ digits n (x / 10) ++ ((48 + x % 10) ∷ []) ]

-- a number of at most ten digits
unfoldable pub decimal : ℕ → List ℕ
unfolding digits
decimal x = digits 10 x

-- a constant is its number, a blank its number behind #
unfoldable pub value_text : ℕ → List ℕ
unfolding decimal
value_text v = cond (is_constant v) (decimal v) (0x23 ∷ decimal (v - blanks))

-- each value behind a space
unfoldable pub values_text : List ℕ → List ℕ
unfolding value_text
values_text [] = []
values_text (v ∷ vs) = 0x20 ∷ value_text v ++ values_text vs

-- a fact's line: relation, values, line feed
unfoldable pub line : Fact → List ℕ
unfolding decimal values_text
line (fact r vs) = decimal r ++ (values_text vs ++ (0x0a ∷ []))

unfoldable pub lines : List Fact → List ℕ
unfolding line
lines [] = []
lines (f ∷ fs) = line f ++ lines fs
