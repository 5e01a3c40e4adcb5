-- A pigeonhole: a list of n numbers lacks one of 0 to n. Assumes nothing.
use mathlib.Core.Path.{◌≡◌, refl, sym, ap, ◌∙◌}
use mathlib.Core.Logic.{◌⊎◌, inl, inr, ⊎_elim, by_cases}
use mathlib.Core.List.Memᴰ.{cases_cons}
use mathlib.Core.List.Memᴰ.{cast as cast-in}
use mathlib.Core.List.Memᴰ.{head as here}
use mathlib.Core.List.Memᴰ.{not-nil as not-in-nil}
use mathlib.Core.List.Memᴰ.{tail as there}
use mathlib.Core.List.{List, [], ◌∷◌, Memᴰ}
use Prim.Native.Nat.{ℕ, zero, suc, ◌≤◌, ◌<◌, zero-le}
use native.Mathlib.Nat.{le_refl, le_of_suc-le-suc, not-suc-le-zero}
use native.Mathlib.Decide.{ℕ_discrete}
use native.Mathlib.Omega.{arith}
use lib.ListN.{length}

-- the list without the element that a derivation points at
abbrev pub cut : {k : ℕ} {l : List ℕ} → Memᴰ k l → List ℕ
cut (here {xs = xs} e) = xs
cut (there {x = x} m) = x ∷ cut m

pub cut_length : {k : ℕ} {l : List ℕ} (m : Memᴰ k l) → suc (length (cut m)) ≡ length l
cut_length (here e) = refl
cut_length (there m) = ap suc (cut_length m)

pub cut_mem : {j k : ℕ} {l : List ℕ} (m : Memᴰ k l) → (j ≡ k → ⊥) → Memᴰ j l → Memᴰ j (cut m)
cut_mem (here e) ne i = ⊎_elim (λ e'. absurd (ne (e' ∙ sym e))) (λ i'. i') (cases_cons i)
cut_mem {j} (there {x = x} {xs = xs} m) ne i = go (λ i'. cut_mem m ne i') (cases_cons i)
  where
    go : (Memᴰ j xs → Memᴰ j (cut m)) → (j ≡ x) ⊎ (Memᴰ j xs) → Memᴰ j (x ∷ cut m)
    go f (inl e) = here e
    go f (inr i') = there (f i')

-- m different numbers, 0 to m - 1, need a list of m
pub all_taken : (m : ℕ) (l : List ℕ) → ((k : ℕ) → k < m → Memᴰ k l) → m ≤ length l
all_taken zero l h = zero-le
all_taken (suc m) l h =
    let i = h m (le_refl (suc m)) in
    let e = cut_length i in
    let k = all_taken m (cut i) (λ j lt. cut_mem i (λ e'. omega arith) (h j (omega arith))) in
    omega arith

mem_dec : (k : ℕ) (l : List ℕ) → Dec (Memᴰ k l)
mem_dec k [] = no (λ m. not-in-nil m)
mem_dec k (x ∷ xs) = go (ℕ_discrete k x) (mem_dec k xs)
  where
    go : Dec (k ≡ x) → Dec (Memᴰ k xs) → Dec (Memᴰ k (x ∷ xs))
    go (yes e) d = yes (here e)
    go (no h) (yes m) = yes (there m)
    go (no h) (no h') = no (λ i. ⊎_elim h h' (cases_cons i))

-- some number below m is missing, or all are there
missing : (m : ℕ) (l : List ℕ) → ((k : ℕ) × (k < m) × (Memᴰ k l → ⊥)) ⊎ ((k : ℕ) → k < m → Memᴰ k l)
missing zero l = inr (λ k h. absurd (not-suc-le-zero h))
missing (suc m) l = go (missing m l) (mem_dec m l)
  where
    go : ((k : ℕ) × (k < m) × (Memᴰ k l → ⊥)) ⊎ ((k : ℕ) → k < m → Memᴰ k l) → Dec (Memᴰ m l)
        → ((k : ℕ) × (k < suc m) × (Memᴰ k l → ⊥)) ⊎ ((k : ℕ) → k < suc m → Memᴰ k l)
    go (inl p) d = inl (p.0, omega arith, p.2)
    go (inr h) (no h') = inl (m, le_refl (suc m), h')
    go (inr h) (yes i) = inr (λ k lt. by_cases (ℕ_discrete k m) (λ e. cast-in e i) (λ ne. h k (omega arith)))

-- of the numbers 0 to n, a list of n lacks one
pub gap : (l : List ℕ) → (k : ℕ) × (k ≤ length l) × (Memᴰ k l → ⊥)
gap l = go (missing (suc (length l)) l)
  where
    go : ((k : ℕ) × (k < suc (length l)) × (Memᴰ k l → ⊥)) ⊎ ((k : ℕ) → k < suc (length l) → Memᴰ k l)
        → (k : ℕ) × (k ≤ length l) × (Memᴰ k l → ⊥)
    go (inl p) = (p.0, le_of_suc-le-suc p.1, p.2)
    go (inr h) = let k = all_taken (suc (length l)) l h in absurd (omega arith)

-- n - 1 down to 0
abbrev pub upto : ℕ → List ℕ
upto zero = []
upto (suc n) = n ∷ upto n

pub upto_mem : (n a : ℕ) → a < n → Memᴰ a (upto n)
upto_mem zero a h = absurd (not-suc-le-zero h)
upto_mem (suc n) a h = by_cases (ℕ_discrete a n) (λ e. here e) (λ ne. there (upto_mem n a (omega arith)))
