-- The generations of a graph are the largest finite rank, and one number only; verdict and generations can be read off the rank words. Assumes nothing.
use mathlib.Core.Path.{◌≡◌, refl, sym, ap, ◌∙◌, subst}
use mathlib.Core.Logic.{◌⊎◌, inl, inr, ⊎_elim}
use mathlib.Core.Bool.{Bool, true, false, ◌&&◌}
use mathlib.Core.List.{List, [], ◌∷◌, map}
use Prim.Native.Nat.{ℕ, zero, suc, ◌≤◌, ◌<◌, max}
use native.Mathlib.Nat.{le_antisymm, le_of_suc-le-suc, not-suc-le-zero}
use native.Mathlib.Omega.{arith}
use lib.Dec.{ltb}
use lib.ListN.{length}
use borrow.Author.Tests.{ltb-true, ltb-false, lt-ltb}
use Rattle.model.specs.Graph.{Edge, IsRank, Infinite, Within, IsGenerations}
use Rattle.model.specs.Rules.{Rule}
use Rattle.model.specs.Edges.{edges}
use Rattle.model.specs.Ranks.{value, pick, ranks, all_below, acyclic, largest, generations, positions, rank_word, rank_words}
use Rattle.model.proofs.Raise.{max_is}
use Rattle.model.proofs.RankLaws.{ranks_good, ranks_right, rank_unique, rank_not_infinite}
use Rattle.model.proofs.Published.{RulesFit, edges_within}

-- the largest number below n: none is larger, and it stands somewhere unless there is none

pub largest_bounds : (n : ℕ) (l : List ℕ) (v : ℕ) → v < length l → value l v < n → value l v ≤ largest n l
largest_bounds n [] v h k = absurd (not-suc-le-zero h)
largest_bounds n (x ∷ xs) zero h k = let e = ap (λ (b : Bool). pick b x 0) (lt-ltb x n k) in omega arith
largest_bounds n (x ∷ xs) (suc v) h k = let e = largest_bounds n xs v (le_of_suc-le-suc h) k in omega arith

abbrev Stands : ℕ → List ℕ → ℕ → Type 0
Stands n l k = ((v : ℕ) × (v < length l) × (value l v < n) × (value l v ≡ k)) ⊎ ((k ≡ 0) × ((v : ℕ) → v < length l → n ≤ value l v))

pub largest_stands : (n : ℕ) (l : List ℕ) → Stands n l (largest n l)
largest_stands n [] = inr (refl, λ v h. absurd (not-suc-le-zero h))
largest_stands n (x ∷ xs) = go (ltb x n) refl (largest_stands n xs)
  where
    go : (b : Bool) → ltb x n ≡ b → Stands n xs (largest n xs) → Stands n (x ∷ xs) (max (pick b x 0) (largest n xs))
    go true e (inl p) =
        ⊎_elim (λ q. inl (zero, omega arith, ltb-true x n e, sym q)) (λ q. inl (suc p.0, omega (arith, p.1), p.2, p.3 ∙ sym q)) (max_is x (largest n xs))
    go true e (inr p) = let k = p.0 in inl (zero, omega arith, ltb-true x n e, omega arith)
    go false e (inl p) = let k = p.3 in inl (suc p.0, omega (arith, p.1), p.2, omega arith)
    go false e (inr p) = let k = p.0 in inr (omega arith, past)
      where
        past : (v : ℕ) → v < length (x ∷ xs) → n ≤ value (x ∷ xs) v
        past zero h = ltb-false x n e
        past (suc v) h = p.1 v (le_of_suc-le-suc h)

-- what the ranks of positions below n are, in published terms
abbrev Right : ℕ → List Edge → List ℕ → Type 0
Right n g r = (v : ℕ) → v < n → ((value r v < n) × IsRank g v (value r v)) ⊎ ((value r v ≡ n) × Infinite g v)

largest_right : (n : ℕ) (g : List Edge) (r : List ℕ) → length r ≡ n → Right n g r → IsGenerations n g (largest n r)
largest_right n g r long right = (bounds, ⊎_elim stands none (largest_stands n r))
  where
    bounds : (v j : ℕ) → v < n → IsRank g v j → j ≤ largest n r
    bounds v j h p =
        ⊎_elim
        (λ q. let l = largest_bounds n r v (omega (arith, long)) q.0 in let e = rank_unique g v j (value r v) p q.1 in omega arith)
        (λ q. absurd (rank_not_infinite g v j p q.1))
        (right v h)

    stands : (v : ℕ) × (v < length r) × (value r v < n) × (value r v ≡ largest n r) → ((v : ℕ) × (v < n) × IsRank g v (largest n r)) ⊎ ((largest n r ≡ 0) × ((v : ℕ) → v < n → Infinite g v))
    stands p =
        let h : p.0 < n = omega (arith, p.1, long) in
        ⊎_elim (λ q. inl (p.0, h, subst (λ (k : ℕ). IsRank g p.0 k) p.3 q.1)) (λ q. absurd (omega (arith, p.2, q.0))) (right p.0 h)

    none : (largest n r ≡ 0) × ((v : ℕ) → v < length r → n ≤ value r v) → ((v : ℕ) × (v < n) × IsRank g v (largest n r)) ⊎ ((largest n r ≡ 0) × ((v : ℕ) → v < n → Infinite g v))
    none p = inr (p.0, λ v h. ⊎_elim (λ q. absurd (let l = p.1 v (omega (arith, long)) in omega (arith, q.0))) (λ q. q.1) (right v h))

-- the largest finite rank, 0 if no position has one
pub generations_right : (n : ℕ) (g : List Edge) → Within n g → IsGenerations n g (generations n g)
unfolding generations
generations_right n g within = largest_right n g (ranks n g) (ranks_good n g within).long (ranks_right n g within)

-- and that is one number
pub generations_one : (n : ℕ) (g : List Edge) (j k : ℕ) → IsGenerations n g j → IsGenerations n g k → j ≡ k
generations_one n g j k p q = go p.1 q.1
  where
    go : ((v : ℕ) × (v < n) × IsRank g v j) ⊎ ((j ≡ 0) × ((v : ℕ) → v < n → Infinite g v)) → ((v : ℕ) × (v < n) × IsRank g v k) ⊎ ((k ≡ 0) × ((v : ℕ) → v < n → Infinite g v)) → j ≡ k
    go (inl a) (inl b) = le_antisymm (q.0 a.0 j a.1 a.2) (p.0 b.0 k b.1 b.2)
    go (inl a) (inr b) = absurd (rank_not_infinite g a.0 j a.2 (b.1 a.0 a.1))
    go (inr a) (inl b) = absurd (rank_not_infinite g b.0 k b.2 (a.1 b.0 b.1))
    go (inr a) (inr b) = a.0 ∙ sym b.0

pub generations_published : (ρs : List Rule) → RulesFit ρs → IsGenerations positions (edges ρs) (generations positions (edges ρs))
generations_published ρs fit = generations_right positions (edges ρs) (edges_within ρs fit)

-- verdict and generations, read off the words

word_below : (x : ℕ) → ltb (rank_word x) 65535 ≡ ltb x positions
word_below x = go (ltb x positions) refl
  where
    go : (b : Bool) → ltb x positions ≡ b → ltb (pick b x 65535) 65535 ≡ b
    go true e = let l = ltb-true x 512 e in lt-ltb x 65535 (omega arith)
    go false e = refl

words_below : (l : List ℕ) → all_below 65535 (map rank_word l) ≡ all_below positions l
words_below [] = refl
words_below (x ∷ xs) = ap (λ (b : Bool). b && all_below 65535 (map rank_word xs)) (word_below x) ∙ ap (λ (b : Bool). ltb x positions && b) (words_below xs)

words_largest : (l : List ℕ) → largest 65535 (map rank_word l) ≡ largest positions l
words_largest [] = refl
words_largest (x ∷ xs) =
    ap (λ (n : ℕ). max (pick (ltb (rank_word x) 65535) (rank_word x) 0) n) (words_largest xs)
    ∙ ap (λ (n : ℕ). max n (largest positions xs)) (ap (λ (b : Bool). pick b (rank_word x) 0) (word_below x) ∙ go (ltb x positions))
  where
    go : (b : Bool) → pick b (pick b x 65535) 0 ≡ pick b x 0
    go true = refl
    go false = refl

pub acyclic_words : (g : List Edge) → all_below 65535 (rank_words g) ≡ acyclic positions g
unfolding acyclic rank_words
acyclic_words g = words_below (ranks positions g)

pub generations_words : (g : List Edge) → largest 65535 (rank_words g) ≡ generations positions g
unfolding generations rank_words
generations_words g = words_largest (ranks positions g)
