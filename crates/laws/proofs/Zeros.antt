-- Laws of zeros: what stands among them, what is left of them, and words that become zero. Assumes nothing.
use Prim.Native.Nat.{ℕ, zero, suc, ◌+◌, ◌-◌, ◌≤◌, ◌<◌}
use native.Mathlib.Omega.{arith}
use native.Mathlib.Nat.{not-suc-le-zero, le_of_suc-le-suc}
use mathlib.Core.Path.{◌≡◌, refl, sym, ap, ◌∙◌}
use mathlib.Core.Logic.{⊎_elim}
use mathlib.Core.List.Memᴰ.{cases_cons}
use mathlib.Core.List.Memᴰ.{not-nil as not-in-nil}
use mathlib.Core.List.{List, [], ◌∷◌, ◌++◌, map, append_assoc, Memᴰ}
use lib.ListN.{length, get_or, set, take, drop, replicate, length-append, length-replicate, take-append-drop}
use lib.Seq.{sets, length-take-le}
use Rattle.laws.proofs.Stores.{set_front, sets_cons}

pub zeros_at : (n m : ℕ) → get_or (replicate {A = ℕ} n 0) m 0 ≡ 0
zeros_at zero m = refl
zeros_at (suc n) zero = refl
zeros_at (suc n) (suc m) = zeros_at n m

pub in_zeros : (n : ℕ) {k : ℕ} → Memᴰ k (replicate n 0) → k ≡ 0
in_zeros zero m = absurd (not-in-nil m)
in_zeros (suc n) m = ⊎_elim (λ e. e) (λ i. in_zeros n i) (cases_cons m)

pub map_zeros : (l : List ℕ) → map (λ (x : ℕ). zero) l ≡ replicate (length l) 0
map_zeros [] = refl
map_zeros (x ∷ xs) = ap (λ (m : List ℕ). 0 ∷ m) (map_zeros xs)

-- zeros without the first of them
pub zeros_drop : (k m : ℕ) → drop {A = ℕ} k (replicate m 0) ≡ replicate (m - k) 0
zeros_drop zero m = let e : m - 0 ≡ m = omega arith in rw e
zeros_drop (suc k) zero = let e : 0 - suc k ≡ 0 = omega arith in rw e
zeros_drop (suc k) (suc m) = let e : suc m - suc k ≡ m - k = omega arith in rw e (zeros_drop k m)

-- values stored over zeros from the first place on
pub sets_zeros : (n : ℕ) (vs : List ℕ) → length vs ≤ n → sets (replicate n 0) 0 vs ≡ vs ++ replicate (n - length vs) 0
sets_zeros n [] h = let e : n ≡ n - 0 = omega arith in ap (λ k. replicate k 0) e
sets_zeros zero (v ∷ vs) h = absurd (not-suc-le-zero h)
sets_zeros (suc n) (v ∷ vs) h =
    let e : n - length vs ≡ suc n - suc (length vs) = omega arith in
    sets_cons v (replicate n 0) 0 vs ∙ (ap (λ l. v ∷ l) (sets_zeros n vs (le_of_suc-le-suc h)) ∙ ap (λ k. v ∷ (vs ++ replicate k 0)) e)

zeros_snoc : (i : ℕ) (r : List ℕ) → replicate i 0 ++ (0 ∷ r) ≡ replicate (suc i) 0 ++ r
zeros_snoc zero r = refl
zeros_snoc (suc i) r = ap (λ l. 0 ∷ l) (zeros_snoc i r)

-- one word more from the front on became zero
pub zeros_more : (w : List ℕ) (i : ℕ) → i < length w → set (replicate i 0 ++ drop i w) i 0 ≡ replicate (i + 1) 0 ++ drop (i + 1) w
zeros_more w i h =
    let n : i + 1 ≡ suc i = omega arith in
    rw n (set_front (replicate i 0) w i 0 (length-replicate i 0) h ∙ zeros_snoc i (drop (suc i) w))

-- the words from f to k became zero
abbrev pub cleared : List ℕ → ℕ → ℕ → List ℕ
cleared w f k = take f w ++ (replicate (k - f) 0 ++ drop k w)

pub cleared_none : (w : List ℕ) (f : ℕ) → w ≡ cleared w f f
cleared_none w f = let e : f - f ≡ 0 = omega arith in rw e (sym (take-append-drop f w))

pub cleared_more : (w W : List ℕ) (f k : ℕ) → f ≤ k → k < length w → W ≡ cleared w f k → set W k 0 ≡ cleared w f (k + 1)
cleared_more w W f k h l e =
    let m : k + 1 - f ≡ suc (k - f) = omega arith in
    let n : k + 1 ≡ suc k = omega arith in
    let P : List ℕ = take f w ++ replicate (k - f) 0 in
    let a : length P ≡ k = simp (length-append, length-replicate, length-take-le f w (omega arith)) (omega arith) in
    let p : cleared w f k ≡ P ++ drop k w = sym (append_assoc (take f w) (replicate (k - f) 0) (drop k w)) in
    rw (e, p, m, n)
    (set_front P w k 0 a l
    ∙ (append_assoc (take f w) (replicate (k - f) 0) (0 ∷ drop (suc k) w) ∙ ap (λ (r : List ℕ). take f w ++ r) (zeros_snoc (k - f) (drop (suc k) w))))
