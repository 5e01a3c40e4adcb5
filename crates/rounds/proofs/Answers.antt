-- The words that the settled numbers give are the rank words. Assumes nothing.
use mathlib.Core.Path.{◌≡◌, refl, sym, ap, ◌∙◌, subst}
use mathlib.Core.Logic.{◌⊎◌, inl, inr, ⊎_elim}
use mathlib.Core.Bool.{Bool}
use mathlib.Core.List.Memᴰ.{append_cases}
use mathlib.Core.List.Memᴰ.{cast as cast-in}
use mathlib.Core.List.Memᴰ.{head as here}
use mathlib.Core.List.Memᴰ.{not-nil as not-in-nil}
use mathlib.Core.List.Memᴰ.{tail as there}
use mathlib.Core.List.{List, [], ◌∷◌, map}
use Prim.Native.Nat.{ℕ, ◌-◌, ◌≤◌, ◌<◌}
use native.Mathlib.Decide.{dec_lt}
use native.Mathlib.Omega.{arith}
use lib.ListN.{length, length-map}
use borrow.Author.Tests.{lt-ltb, le-ltb}
use Rattle.laws.proofs.Members.{in_at}
use Rattle.laws.proofs.Pigeon.{gap}
use Rattle.model.specs.Order.{◌∈◌}
use Rattle.model.specs.Graph.{Edge, plain, special, source, target, Infinite, Within}
use Rattle.model.specs.Edges.{Spot, fans}
use Rattle.model.specs.Ranks.{value, pick, rank_words}
use Rattle.model.proofs.RankLaws.{finite, endless}
use Rattle.model.proofs.EdgeLaws.{fans_edge}
use Rattle.model.proofs.Published.{IsWord, words_one, words_right, value_map}
use Rattle.rounds.specs.Table.{Pair, graph}
use Rattle.rounds.specs.Sweep.{Settled, Free, Enough, word_from}
use Rattle.rounds.proofs.Sweeps.{Near, Placed}

-- the edges run between positions

fans_within : (body head : List Spot) → Near body → Near head → Within 512 (fans body body head)
fans_within body head nb nh e m =
    let h = fans_edge body body head e m in
    go h.0 h.3.0 h.1 h.3.1 (⊎_elim (λ q. inl q.1) (λ q. inr q.1) h.3.2)
  where
    go : (s t : Spot) → s ∈ body → t ∈ head → (e ≡ plain s.at t.at) ⊎ (e ≡ special s.at t.at) → (source e < 512) × (target e < 512)
    go s t i j (inl q) = subst (λ (x : Edge). (source x < 512) × (target x < 512)) (sym q) ((nb s i).1, (nh t j).1)
    go s t i j (inr q) = subst (λ (x : Edge). (source x < 512) × (target x < 512)) (sym q) ((nb s i).1, (nh t j).1)

pub graph_within : (ps : List Pair) → Placed ps → Within 512 (graph ps)
graph_within [] h e m = absurd (not-in-nil m)
graph_within (p ∷ ps) h e m =
    let n = h p (here refl) in
    ⊎_elim (λ i. fans_within p.body p.head n.0 n.1 e i) (λ i. graph_within ps (λ q j. h q (there j)) e i)
    (append_cases (fans p.body p.body p.head) m)

-- the words

module _ (g : List Edge) (within : Within 512 g) (c : ℕ) (r : List ℕ) (s : Settled g c r) (enough : Enough r c) where
  -- a number that no position has, below one that stands at c
  free : (v : ℕ) → v < 512 → c ≤ value r v → (k : ℕ) × (k < value r v) × (k ≤ c) × Free r k
  free v h l = ⊎_elim (λ f. (c - 1, let p = enough.0 in omega arith, omega arith, f)) pigeon enough.1
    where
      pigeon : c ≡ 512 → (k : ℕ) × (k < value r v) × (k ≤ c) × Free r k
      pigeon e = (p.0, lt, omega (arith, p.1, s.long), none)
        where
          p : (k : ℕ) × (k ≤ length r) × (k ∈ r → ⊥)
          p = gap r

          none : Free r p.0
          none w x q = p.2 (cast-in (sym q) (in_at r w 0 (omega (arith, s.long))))

          lt : p.0 < value r v
          lt = let n = none v h in omega (arith, p.1, s.long)

  endless_at : (v : ℕ) → v < 512 → c ≤ value r v → Infinite g v
  endless_at v h l n =
      let f = free v h l in
      endless c g r s.closed f.0 f.2 (λ e i. f.3 (source e) (within e i).0) s.sound n v f.1

  is_word : (v : ℕ) → v < 512 → IsWord g v (word_from c (value r v))
  is_word v h = go (dec_lt (value r v) c)
    where
      go : Dec (value r v < c) → IsWord g v (word_from c (value r v))
      go (yes l) =
          let e : value r v ≡ word_from c (value r v) = ap (λ (b : Bool). pick b (value r v) 65535) (sym (lt-ltb (value r v) c l)) in
          let k = s.cap in
          subst (IsWord g v) e (inl (omega arith, finite c g r s.closed s.sound v l))
      go (no l) =
          let k : c ≤ value r v = omega arith in
          inr (ap (λ (b : Bool). pick b (value r v) 65535) (le-ltb (value r v) c k), endless_at v h k)

  -- the words are the rank words
  pub answer : map (word_from c) r ≡ rank_words g
  answer =
      words_one g (map (word_from c) r) (rank_words g)
      (record { long = length-map r (word_from c) ∙ s.long; each = λ v h. subst (IsWord g v) (sym (value_map (word_from c) r v (omega (arith, s.long)))) (is_word v h) })
      (words_right g within)
