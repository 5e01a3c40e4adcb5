-- Laws for the listing of a job. Assumes nothing.
use Prim.Native.Nat.{ℕ, zero, suc, ◌≤◌}
use native.Mathlib.Omega.{arith}
use mathlib.Core.Path.{◌≡◌, refl, sym, ap}
use mathlib.Core.List.{List, [], ◌∷◌, ◌++◌}
use lib.ListN.{length, drop, replicate}
use Rattle.model.specs.Words.{padded}

padded_none : (m : ℕ) → padded m [] ≡ replicate m 0
unfolding padded
padded_none zero = refl
padded_none (suc m) = ap (λ l. 0 ∷ l) (padded_none m)

-- what is copied to the front of zeros
pub padded_copy : (m : ℕ) (xs : List ℕ) → length xs ≤ m → xs ++ drop (length xs) (replicate m 0) ≡ padded m xs
unfolding padded
padded_copy m [] h = sym (padded_none m)
padded_copy zero (x ∷ xs) h = absurd (omega arith)
padded_copy (suc m) (x ∷ xs) h = ap (λ l. x ∷ l) (padded_copy m xs (omega arith))
