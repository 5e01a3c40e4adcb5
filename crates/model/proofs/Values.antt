-- The number of a value keeps the order of values, tells values apart, every number is one, and an equation says of numbers what the paper
-- says of values. Assumes nothing.
use Prim.Native.Nat.{ℕ, ◌-◌, ◌<◌, min, max}
use mathlib.Core.Path.{◌≡◌, refl, sym, ap}
use mathlib.Core.Bool.{Bool, true, false}
use native.Mathlib.Omega.{arith}
use native.Mathlib.Decide.{dec_lt}
use lib.Dec.{ltb}
use borrow.Author.Tests.{lt-ltb, le-ltb, ltb-true, ltb-false}
use Rattle.model.specs.Values.{Value, constant, null, precedes, blanks, blank, number_of, is_constant, IsValue}
use Rattle.model.specs.Step.{State, merge, equate}

blank_order : (a b : ℕ) → ltb a b ≡ ltb (blank a) (blank b)
blank_order a b = go (ltb a b) refl
  where
    go : (t : Bool) → ltb a b ≡ t → t ≡ ltb (blank a) (blank b)
    go true p = let l = ltb-true a b p in sym (lt-ltb (blank a) (blank b) (omega arith))
    go false p = let l = ltb-false a b p in sym (le-ltb (blank a) (blank b) (omega arith))

-- one value precedes another exactly where its number is smaller
pub number_order : (v w : Value) → IsValue v → IsValue w → precedes v w ≡ ltb (number_of v) (number_of w)
unfolding precedes number_of
number_order (constant a) (constant b) p q = refl
number_order (constant a) (null b) p q = sym (lt-ltb a (blank b) (omega arith))
number_order (null a) (constant b) p q = sym (le-ltb (blank a) b (omega arith))
number_order (null a) (null b) p q = blank_order a b

-- two values with one number are the same
pub number_one : (v w : Value) → IsValue v → IsValue w → number_of v ≡ number_of w → v ≡ w
unfolding number_of
number_one (constant a) (constant b) p q e = ap constant e
number_one (constant a) (null b) p q e = absurd (omega (arith, e))
number_one (null a) (constant b) p q e = absurd (omega (arith, e))
number_one (null a) (null b) p q e = ap null (let h : a ≡ b = omega (arith, e) in h)

-- every number is a value's
pub number_all : (n : ℕ) → (v : Value) × IsValue v × (number_of v ≡ n)
unfolding number_of
number_all n = go (dec_lt n blanks)
  where
    go : Dec (n < blanks) → (v : Value) × IsValue v × (number_of v ≡ n)
    go (yes p) = (constant n, p, refl)
    go (no p) = (null (n - blanks), tt, omega arith)

-- what an equation makes of two numbers is what the paper says of the values that they stand for
pub equation_says : (s : State) (v w : Value) → IsValue v → IsValue w
    → merge (is_constant (max (number_of v) (number_of w))) s (max (number_of v) (number_of w)) (min (number_of v) (number_of w)) ≡ equate s v w
unfolding merge equate number_of
equation_says s (constant a) (constant b) p q = let t = lt-ltb (max a b) blanks (omega arith) in cc
equation_says s (constant a) (null k) p q =
    let m : max a (blank k) ≡ blank k = omega arith in
    let n : min a (blank k) ≡ a = omega arith in
    let t = le-ltb (blank k) blanks (omega arith) in cc
equation_says s (null k) (constant a) p q =
    let m : max (blank k) a ≡ blank k = omega arith in
    let n : min (blank k) a ≡ a = omega arith in
    let t = le-ltb (blank k) blanks (omega arith) in cc
equation_says s (null j) (null k) p q =
    let m : max (blank j) (blank k) ≡ blank (max j k) = omega arith in
    let n : min (blank j) (blank k) ≡ blank (min j k) = omega arith in
    let t = le-ltb (blank (max j k)) blanks (omega arith) in cc
