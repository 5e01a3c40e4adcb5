-- The generations, from the words that are filtered out. Assumes nothing.
use mathlib.Core.Path.{◌≡◌, refl}
use mathlib.Core.Bool.{Bool, true, false, cond}
use mathlib.Core.List.{List, [], ◌∷◌}
use Prim.Native.Nat.{ℕ, max}
use native.Mathlib.Omega.{arith}
use lib.Dec.{ltb}
use Rattle.std.specs.Option.{unwrap_or}
use Rattle.std.specs.List.{fold, reduce, filter}
use Rattle.model.specs.Ranks.{pick, largest}

fold_max : (a : ℕ) (l : List ℕ) → fold max a l ≡ max a (unwrap_or (reduce max l) 0)
fold_max a [] = omega arith
fold_max a (x ∷ l) = let e = fold_max (max a x) l in let f = fold_max x l in omega arith

-- the largest of those below n
pub largest_filtered : (n : ℕ) (l : List ℕ) → unwrap_or (reduce max (filter (λ x. ltb x n) l)) 0 ≡ largest n l
largest_filtered n [] = refl
largest_filtered n (x ∷ l) = go (ltb x n) (largest_filtered n l)
  where
    go : (b : Bool) → unwrap_or (reduce max (filter (λ y. ltb y n) l)) 0 ≡ largest n l
        → unwrap_or (reduce max (cond b (x ∷ filter (λ y. ltb y n) l) (filter (λ y. ltb y n) l))) 0 ≡ max (pick b x 0) (largest n l)
    go true e = let f = fold_max x (filter (λ y. ltb y n) l) in omega arith
    go false e = omega arith
