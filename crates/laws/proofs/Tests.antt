-- Laws of numbers and of their tests. Assumes nothing.
use Prim.Native.Nat.{ℕ, ◌≤◌, ◌<◌}
use mathlib.Core.Path.{◌≡◌, refl, ap, ◌∙◌}
use mathlib.Core.Bool.{Bool, true, false, ◌||◌, true≢false, or-true}
use mathlib.Core.Logic.{◌⊎◌, inl, inr, ⊎_elim}
use lib.Dec.{eqb, ltb}
use native.Mathlib.Omega.{arith}
use borrow.Author.Tests.{ltb-true, ltb-false, eqb-true, eqb-false}

pub lt_or_ge : (m n : ℕ) → (m < n) ⊎ (n ≤ m)
lt_or_ge m n = go (ltb m n) refl
  where
    go : (t : Bool) → ltb m n ≡ t → (m < n) ⊎ (n ≤ m)
    go true e = inl (ltb-true m n e)
    go false e = inr (ltb-false m n e)

pub eq_or_ne : (m n : ℕ) → (m ≡ n) ⊎ (m ≡ n → ⊥)
eq_or_ne m n = go (eqb m n) refl
  where
    go : (t : Bool) → eqb m n ≡ t → (m ≡ n) ⊎ (m ≡ n → ⊥)
    go true e = inl (eqb-true m n e)
    go false e = inr (eqb-false m n e)

-- numbers compare in one of three ways
pub data Compared (m n : ℕ) : Type 0 where
  less : m < n → Compared m n
  same : m ≡ n → Compared m n
  more : n < m → Compared m n

pub compared : (m n : ℕ) → Compared m n
compared m n = ⊎_elim less (λ le. ⊎_elim more (λ ge. same (omega arith)) (lt_or_ge n m)) (lt_or_ge m n)

-- one of two tests
module _ (a b : Bool) where
  pub or_first : a ≡ true → (a || b) ≡ true
  or_first e = ap (λ t. t || b) e

  pub or_last : b ≡ true → (a || b) ≡ true
  or_last e = ap (λ t. a || t) e ∙ or-true a

  pub or_skip : a ≡ false → (a || b) ≡ b
  or_skip e = ap (λ t. t || b) e

pub or_neither : (a b : Bool) → (a || b) ≡ false → (a ≡ false) × (b ≡ false)
or_neither true b e = absurd (true≢false e)
or_neither false b e = (refl, e)
