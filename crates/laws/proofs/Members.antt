-- Laws of the members of a list, by their places and in its parts. Assumes nothing.
use Prim.Native.Nat.{ℕ, zero, suc, ◌≤◌, ◌<◌}
use native.Mathlib.Omega.{arith}
use mathlib.Core.Path.{◌≡◌, refl, sym}
use mathlib.Core.Logic.{⊎_elim}
use mathlib.Core.List.Memᴰ.{cases_cons}
use mathlib.Core.List.Memᴰ.{head as here}
use mathlib.Core.List.Memᴰ.{not-nil as not-in-nil}
use mathlib.Core.List.Memᴰ.{tail as there}
use mathlib.Core.List.{List, [], ◌∷◌, Memᴰ}
use lib.ListN.{length, get_or, take, drop}

module _ {A : Type 0} where
  -- a member of a part is one of the list
  pub in_take : (n : ℕ) (l : List A) {x : A} → Memᴰ x (take n l) → Memᴰ x l
  in_take zero l m = absurd (not-in-nil m)
  in_take (suc n) [] m = m
  in_take (suc n) (y ∷ ys) m = ⊎_elim (λ e. here e) (λ i. there (in_take n ys i)) (cases_cons m)

  pub in_drop : (n : ℕ) (l : List A) {x : A} → Memᴰ x (drop n l) → Memᴰ x l
  in_drop zero l m = m
  in_drop (suc n) [] m = m
  in_drop (suc n) (y ∷ ys) m = there (in_drop n ys m)

  -- what stands at a place is a member
  pub in_at : (l : List A) (i : ℕ) (d : A) → i < length l → Memᴰ (get_or l i d) l
  in_at [] i d h = absurd (omega arith)
  in_at (x ∷ xs) zero d h = here refl
  in_at (x ∷ xs) (suc i) d h = there (in_at xs i d (omega arith))

  -- a member stands at a place
  pub place_of : (d : A) (l : List A) {x : A} → Memᴰ x l → (i : ℕ) × (i < length l) × (get_or l i d ≡ x)
  place_of d [] m = absurd (not-in-nil m)
  place_of d (y ∷ ys) m =
      ⊎_elim (λ e. (zero, omega arith, sym e)) (λ i. let h = place_of d ys i in let k = h.1 in (suc h.0, omega arith, h.2)) (cases_cons m)

-- a bound on every member is one at every place
pub all_most : (b : ℕ) (l : List ℕ) → ((k : ℕ) → Memᴰ k l → k ≤ b) → (i : ℕ) → get_or l i 0 ≤ b
all_most b [] h i = omega arith
all_most b (x ∷ xs) h zero = h x (here refl)
all_most b (x ∷ xs) h (suc i) = all_most b xs (λ k m. h k (there m)) i
