-- Rank words, verdict and generations depend on which edges there are, and so on which rules there are, and not on their order or on repeats. Assumes relations below 64 with at most 8 terms.
use mathlib.Core.Path.{◌≡◌, sym, ap, ◌∙◌}
use mathlib.Core.Logic.{inl, inr, ⊎_elim}
use mathlib.Core.List.{List}
use Prim.Native.Nat.{ℕ}
use Rattle.model.specs.Order.{◌∈◌, Same}
use Rattle.model.specs.Rules.{Rule}
use Rattle.model.specs.Graph.{Edge, plain, special, Path, stay, along, across, IsRank, Infinite, Within}
use Rattle.model.specs.Edges.{edges}
use Rattle.model.specs.Ranks.{value, all_below, acyclic, largest, generations, positions, rank_words}
use Rattle.model.proofs.EdgeLaws.{edges_of}
use Rattle.model.proofs.Published.{RulesFit, AreWords, words_one, words_right, edges_within}
use Rattle.model.proofs.Generations.{acyclic_words, generations_words}

pub path_over : {g h : List Edge} → ((e : Edge) → e ∈ g → e ∈ h) → {u v n : ℕ} → Path g u v n → Path h u v n
path_over f stay = stay
path_over f (along {v = a} {w = b} p i) = along (path_over f p) (f (plain a b) i)
path_over f (across {v = a} {w = b} p i) = across (path_over f p) (f (special a b) i)

module _ (g h : List Edge) (same : Same g h) where
  pub rank_over : (v k : ℕ) → IsRank g v k → IsRank h v k
  rank_over v k p = ((p.0.0, path_over same.0 p.0.1), λ u m q. p.1 u m (path_over same.1 q))

  pub infinite_over : (v : ℕ) → Infinite g v → Infinite h v
  infinite_over v f n = let r = f n in (r.0, r.1, path_over same.0 r.2, r.3)

  words_over : (ws : List ℕ) → AreWords g ws → AreWords h ws
  words_over ws p = record {
    long = p.long;
    each = λ v l. ⊎_elim (λ q. inl (q.0, rank_over v (value ws v) q.1)) (λ q. inr (q.0, infinite_over v q.1)) (p.each v l);
  }

  module _ (within : Within positions g) where
    pub same_words : rank_words g ≡ rank_words h
    same_words = words_one h (rank_words g) (rank_words h) (words_over (rank_words g) (words_right g within)) (words_right h (λ e i. within e (same.1 e i)))

    pub same_acyclic : acyclic positions g ≡ acyclic positions h
    same_acyclic = sym (acyclic_words g) ∙ ap (all_below 65535) same_words ∙ acyclic_words h

    pub same_generations : generations positions g ≡ generations positions h
    same_generations = sym (generations_words g) ∙ ap (largest 65535) same_words ∙ generations_words h

-- the same rules in any order have the same edges
pub same_edges : (ρs σs : List Rule) → Same ρs σs → Same (edges ρs) (edges σs)
same_edges ρs σs same = (
  λ e i. let r = (edges_of ρs e).0 i in (edges_of σs e).1 (r.0, same.0 r.0 r.1, r.2),
  λ e i. let r = (edges_of σs e).0 i in (edges_of ρs e).1 (r.0, same.1 r.0 r.1, r.2),
)

-- and so the same ranks, verdict and generations
pub record SameVerdict (ρs σs : List Rule) : Type 0 where
  pub words : rank_words (edges ρs) ≡ rank_words (edges σs)
  pub verdict : acyclic positions (edges ρs) ≡ acyclic positions (edges σs)
  pub depth : generations positions (edges ρs) ≡ generations positions (edges σs)

pub any_order : (ρs σs : List Rule) → RulesFit ρs → Same ρs σs → SameVerdict ρs σs
any_order ρs σs fit same = record {
  words = same_words (edges ρs) (edges σs) (same_edges ρs σs same) (edges_within ρs fit);
  verdict = same_acyclic (edges ρs) (edges σs) (same_edges ρs σs same) (edges_within ρs fit);
  depth = same_generations (edges ρs) (edges σs) (same_edges ρs σs same) (edges_within ρs fit);
}
