-- Lists of numbers: raising one of them, order element by element, sums. Assumes nothing.
use mathlib.Core.Path.{◌≡◌, refl, sym, ap, ap₂}
use mathlib.Core.Logic.{◌⊎◌, inl, inr, ⊎_elim}
use mathlib.Core.List.{List, [], ◌∷◌}
use Prim.Native.Nat.{ℕ, zero, suc, ◌*◌, ◌≤◌, ◌<◌, max, zero-le}
use native.Mathlib.Nat.{le_refl, le_trans, le_antisymm, le_of_suc-le-suc, not-suc-le-zero, suc-mul}
use native.Mathlib.Decide.{dec_lt}
use native.Mathlib.Omega.{arith}
use lib.Dec.{ltb}
use borrow.Author.Tests.{ltb-true, ltb-false, lt-ltb, le-ltb}
use mathlib.Core.Bool.{Bool, true, false, ◌||◌, and-eq-true_iff}
use lib.ListN.{length, set}
use Rattle.model.specs.Ranks.{value, raise, sum, all_below}

pub max_is : (x y : ℕ) → (max x y ≡ x) ⊎ (max x y ≡ y)
max_is x y = go (dec_lt x y)
  where
    go : Dec (x < y) → (max x y ≡ x) ⊎ (max x y ≡ y)
    go (yes h) = inr (omega arith)
    go (no h) = inl (omega arith)

-- what stands at v after a raise: what stood there, or the new number at its own place
pub raise_cases : (r : List ℕ) (b x v : ℕ) → (value (raise r b x) v ≡ value r v) ⊎ ((v ≡ b) × (value (raise r b x) v ≡ x))
raise_cases [] b x v = inl refl
raise_cases (y ∷ ys) zero x zero = ⊎_elim (λ e. inl e) (λ e. inr (refl, e)) (max_is y x)
raise_cases (y ∷ ys) zero x (suc v) = inl refl
raise_cases (y ∷ ys) (suc b) x zero = inl refl
raise_cases (y ∷ ys) (suc b) x (suc v) = ⊎_elim (λ e. inl e) (λ e. inr (ap suc e.0, e.1)) (raise_cases ys b x v)

pub raise_at : (r : List ℕ) (b x : ℕ) → b < length r → x ≤ value (raise r b x) b
raise_at [] b x h = absurd (not-suc-le-zero h)
raise_at (y ∷ ys) zero x h = omega arith
raise_at (y ∷ ys) (suc b) x h = raise_at ys b x (le_of_suc-le-suc h)

pub length_raise : (r : List ℕ) (b x : ℕ) → length (raise r b x) ≡ length r
length_raise [] b x = refl
length_raise (y ∷ ys) zero x = refl
length_raise (y ∷ ys) (suc b) x = ap suc (length_raise ys b x)

-- element by element
pub data Below : List ℕ → List ℕ → Type 0 where
  none : Below [] []
  both : {x y : ℕ} {xs ys : List ℕ} → x ≤ y → Below xs ys → Below (x ∷ xs) (y ∷ ys)

pub below_refl : (r : List ℕ) → Below r r
below_refl [] = none
below_refl (x ∷ xs) = both (le_refl x) (below_refl xs)

pub below_trans : {r s t : List ℕ} → Below r s → Below s t → Below r t
below_trans none none = none
below_trans (both h p) (both k q) = both (le_trans h k) (below_trans p q)

pub below_antisym : {r s : List ℕ} → Below r s → Below s r → r ≡ s
below_antisym none none = refl
below_antisym (both h p) (both k q) = ap₂ ◌∷◌ (le_antisymm h k) (below_antisym p q)

pub below_value : {r s : List ℕ} → Below r s → (v : ℕ) → value r v ≤ value s v
below_value none v = le_refl 0
below_value (both h p) zero = h
below_value (both h p) (suc v) = below_value p v

pub below_sum : {r s : List ℕ} → Below r s → sum r ≤ sum s
below_sum none = le_refl 0
below_sum (both h p) = let k = below_sum p in omega arith

-- no larger sum: nothing rose
pub below_same : {r s : List ℕ} → Below r s → sum s ≤ sum r → Below s r
below_same none k = none
below_same (both {x = x} {y = y} h p) k =
    let l = below_sum p in
    let a : y ≤ x = omega arith in
    both a (below_same p (omega arith))

pub raise_below : (r : List ℕ) (b x : ℕ) → Below r (raise r b x)
raise_below [] b x = none
raise_below (y ∷ ys) zero x = let h : y ≤ max y x = omega arith in both h (below_refl ys)
raise_below (y ∷ ys) (suc b) x = both (le_refl y) (raise_below ys b x)

pub sum_bound : (r : List ℕ) (c : ℕ) → ((v : ℕ) → value r v ≤ c) → sum r ≤ length r * c
sum_bound [] c h = zero-le
sum_bound (x ∷ xs) c h =
    let k = sum_bound xs c (λ v. h (suc v)) in
    let e = suc-mul (length xs) c in
    let l : x ≤ c = h zero in
    omega arith

-- the test of a whole list
pub below_all : (n : ℕ) (l : List ℕ) → all_below n l ≡ true → (v : ℕ) → v < length l → value l v < n
below_all n [] t v h = absurd (not-suc-le-zero h)
below_all n (x ∷ xs) t zero h = ltb-true x n ((and-eq-true_iff (ltb x n) (all_below n xs)).0 t).0
below_all n (x ∷ xs) t (suc v) h = below_all n xs ((and-eq-true_iff (ltb x n) (all_below n xs)).0 t).1 v (le_of_suc-le-suc h)

pub all_below_lem : (n : ℕ) (l : List ℕ) → ((v : ℕ) → v < length l → value l v < n) → all_below n l ≡ true
all_below_lem n [] f = refl
all_below_lem n (x ∷ xs) f =
    (and-eq-true_iff (ltb x n) (all_below n xs)).1 (lt-ltb x n (f zero (omega arith)), all_below_lem n xs (λ v h. f (suc v) (omega arith)))

-- a raise by a store, and one that is none
pub raise_set : (r : List ℕ) (b x : ℕ) → value r b < x → set r b x ≡ raise r b x
raise_set [] b x h = refl
raise_set (y ∷ ys) zero x h = let e : x ≡ max y x = omega arith in ap (λ (z : ℕ). z ∷ ys) e
raise_set (y ∷ ys) (suc b) x h = ap (λ (l : List ℕ). y ∷ l) (raise_set ys b x h)

pub raise_none : (r : List ℕ) (b x : ℕ) → x ≤ value r b → r ≡ raise r b x
raise_none [] b x h = refl
raise_none (y ∷ ys) zero x h = let e : y ≡ max y x = omega arith in ap (λ (z : ℕ). z ∷ ys) e
raise_none (y ∷ ys) (suc b) x h = ap (λ (l : List ℕ). y ∷ l) (raise_none ys b x h)

-- a raise that is one makes the sum larger
pub raise_sum : (r : List ℕ) (b x : ℕ) → b < length r → value r b < x → sum r < sum (raise r b x)
raise_sum [] b x l h = absurd (not-suc-le-zero l)
raise_sum (y ∷ ys) zero x l h = omega arith
raise_sum (y ∷ ys) (suc b) x l h = let k = raise_sum ys b x (le_of_suc-le-suc l) h in omega arith

-- whether the sum grew, after a store and after none
pub grew : (r : List ℕ) (b x : ℕ) → b < length r → value r b < x → true ≡ ltb (sum r) (sum (set r b x))
grew r b x l h = sym (lt-ltb (sum r) (sum (set r b x)) (let k = raise_sum r b x l h in let e = ap sum (raise_set r b x h) in omega arith))

pub kept : (n : ℕ) → false ≡ ltb n n
kept n = sym (le-ltb n n (le_refl n))

-- two flags make one
pub flag_join : (a b c : ℕ) → a ≤ b → b ≤ c → (ltb a b || ltb b c) ≡ ltb a c
flag_join a b c h k = go (ltb a b) refl
  where
    go : (t : Bool) → ltb a b ≡ t → (t || ltb b c) ≡ ltb a c
    go true e = let l = ltb-true a b e in sym (lt-ltb a c (omega arith))
    go false e = let l = ltb-false a b e in let q : b ≡ a = omega arith in ap (λ (n : ℕ). ltb n c) q
