-- Laws of lists that a function is mapped over. Assumes nothing.
use Prim.Native.Nat.{ℕ, zero, suc, ◌+◌, ◌≤◌, ◌<◌}
use native.Mathlib.Nat.{le_refl, not-suc-le-zero, le_of_suc-le-suc}
use native.Mathlib.Numerals.{add-one}
use mathlib.Core.Path.{◌≡◌, refl, sym, ap, ap₂, ◌∙◌}
use mathlib.Core.List.Memᴰ.{head as here}
use mathlib.Core.List.Memᴰ.{tail as there}
use mathlib.Core.List.{List, [], ◌∷◌, ◌++◌, map, append_assoc, append-nil, Memᴰ}
use lib.ListN.{length, length-map, get_or, set, take, drop, drop_of_length-le}
use lib.Seq.{take_all, take-suc-set, drop-set-lt, drop-cons}

-- the length of a list, from that of what it is mapped to
pub of_map : (X Y : Type 0) (f : X → Y) (l : List X) (n : ℕ) → length (map f l) ≡ n → length l ≡ n
of_map X Y f l n e = sym (length-map l f) ∙ e

-- two functions that agree on the members map the list to the same
pub map_same : {A B : Type 0} (f g : A → B) (l : List A) → ((x : A) → Memᴰ x l → f x ≡ g x) → map f l ≡ map g l
map_same f g [] h = refl
map_same f g (x ∷ l) h = ap₂ ◌∷◌ (h x (here refl)) (map_same f g l (λ y m. h y (there m)))

-- what stands at a place inside the list
pub get_d_mapped : {A B : Type 0} (f : A → B) (l : List A) (j : ℕ) (d : A) (e : B) → j < length l → get_or (map f l) j e ≡ f (get_or l j d)
get_d_mapped f [] j d e h = absurd (not-suc-le-zero h)
get_d_mapped f (x ∷ l) zero d e h = refl
get_d_mapped f (x ∷ l) (suc j) d e h = get_d_mapped f l j d e (le_of_suc-le-suc h)

-- a store into what is mapped from the front on
pub map_turn : (f : ℕ → ℕ) (o all n : List ℕ) (i v : ℕ) → i < length o → v ≡ f (get_or o i 0) → n ≡ set o i v → take i o ++ map f (drop i o) ≡ all
    → take (i + 1) n ++ map f (drop (i + 1) n) ≡ all
map_turn f o all n i v h e q inv =
    ap (λ (l : List ℕ). take (i + 1) l ++ map f (drop (i + 1) l)) q
    ∙ ap (λ (k : ℕ). take k (set o i v) ++ map f (drop k (set o i v))) (add-one i)
    ∙ ap₂ (λ (x y : List ℕ). x ++ map f y) (take-suc-set o i v h) (drop-set-lt (suc i) o i v (le_refl (suc i)))
    ∙ append_assoc (take i o) (v ∷ []) (map f (drop (suc i) o))
    ∙ ap (λ (x : ℕ). take i o ++ (x ∷ map f (drop (suc i) o))) e
    ∙ ap (λ (l : List ℕ). take i o ++ map f l) (sym (drop-cons o i 0 h))
    ∙ inv

pub map_end : (f : ℕ → ℕ) (o all : List ℕ) (i : ℕ) → length o ≤ i → take i o ++ map f (drop i o) ≡ all → o ≡ all
map_end f o all i h inv = sym (append-nil o) ∙ ap₂ (λ (x y : List ℕ). x ++ map f y) (sym (take_all i o h)) (sym (drop_of_length-le o h)) ∙ inv
