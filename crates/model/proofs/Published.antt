-- What the rank words and the verdict of rules are in the published terms, and that these leave one answer. Assumes relations below 64 with at most 8 terms.
use mathlib.Core.Path.{◌≡◌, refl, sym, ap, ◌∙◌, subst}
use mathlib.Core.Logic.{◌⊎◌, inl, inr, ◌↔◌}
use mathlib.Core.Bool.{Bool, true, false}
use mathlib.Core.Option.{some}
use mathlib.Core.List.{List, [], ◌∷◌, map}
use Prim.Native.Nat.{ℕ, zero, suc, ◌+◌, ◌*◌, ◌≤◌, ◌<◌}
use native.Mathlib.Nat.{not-suc-le-zero, le_of_suc-le-suc, le_refl}
use native.Mathlib.Omega.{arith}
use lib.ListN.{length, get_elem?, length-map}
use lib.Seq.{ext_get_or}
use borrow.Author.Tests.{lt-ltb, le-ltb}
use Rattle.model.specs.Order.{◌∈◌}
use Rattle.model.specs.Rules.{Term, var, Atom, atom, Rule, tuple, equation}
use Rattle.model.specs.Limits.{ShapedAtom, ShapedAtoms, ShapedRule}
use Rattle.model.specs.Graph.{Edge, plain, special, target, Path, stay, along, across, WeaklyAcyclic, IsRank, Infinite, Within}
use Rattle.model.specs.Edges.{relation_in, terms_in, At, PlainEdge, SpecialEdge, edges}
use Rattle.model.specs.Ranks.{value, pick, ranks, acyclic, positions, rank_word, rank_words}
use Rattle.model.proofs.RankLaws.{ranks_good, ranks_right, verdict_right, rank_unique, rank_not_infinite}
use Rattle.model.proofs.EdgeLaws.{plain_edges, special_edges}

-- a relation below 64 with at most 8 terms
abbrev pub AtomFits : Atom → Type 0
AtomFits a = (relation_in a < 64) × (length (terms_in a) ≤ 8)

abbrev pub AtomsFit : List Atom → Type 0
AtomsFit ats = (a : Atom) → a ∈ ats → AtomFits a

abbrev pub RuleFits : Rule → Type 0
RuleFits (tuple body head) = AtomsFit body × AtomsFit head
RuleFits (equation body x y) = AtomsFit body

abbrev pub RulesFit : List Rule → Type 0
RulesFit ρs = (ρ : Rule) → ρ ∈ ρs → RuleFits ρ

-- w is the rank of position v, or 65,535 if there is no largest
abbrev pub IsWord : List Edge → ℕ → ℕ → Type 0
IsWord g v w = ((w < 65535) × IsRank g v w) ⊎ ((w ≡ 65535) × Infinite g v)

-- the rank words of all positions, as published
pub record AreWords (g : List Edge) (ws : List ℕ) : Type 0 where
  pub long : length ws ≡ positions
  pub each : (v : ℕ) → v < positions → IsWord g v (value ws v)

-- the published terms leave one word, and one list of words
pub word_one : (g : List Edge) (v w u : ℕ) → IsWord g v w → IsWord g v u → w ≡ u
word_one g v w u (inl p) (inl q) = rank_unique g v w u p.1 q.1
word_one g v w u (inl p) (inr q) = absurd (rank_not_infinite g v w p.1 q.1)
word_one g v w u (inr p) (inl q) = absurd (rank_not_infinite g v u q.1 p.1)
word_one g v w u (inr p) (inr q) = p.0 ∙ sym q.0

pub words_one : (g : List Edge) (ws us : List ℕ) → AreWords g ws → AreWords g us → ws ≡ us
words_one g ws us p q =
    ext_get_or 0 ws us (p.long ∙ sym q.long) (λ v h. let l = p.long in let k : v < 512 = omega arith in word_one g v (value ws v) (value us v) (p.each v k) (q.each v k))

-- and one verdict
pub verdict_one : {P : Type 0} (a b : Bool) → (a ≡ true) ↔ P → (b ≡ true) ↔ P → a ≡ b
verdict_one true b p q = sym (q.1 (p.0 refl))
verdict_one false true p q = p.1 (q.0 refl)
verdict_one false false p q = refl

-- an edge's ends are positions

found : (ts : List Term) (i : ℕ) (t : Term) → get_elem? ts i ≡ some t → i < length ts
found [] i t e = absurd (let z : ◌≡◌ {A = ℕ} 0 1 = cc in omega arith)
found (x ∷ ts) zero t e = omega arith
found (x ∷ ts) (suc i) t e = let k = found ts i t e in omega arith

at_within : (x p : ℕ) (ats : List Atom) → AtomsFit ats → At x p ats → p < positions
at_within x p ats fit h =
    let f = fit h.0 h.2 in
    let r = f.0 in
    let s = f.1 in
    let k = found (terms_in h.0) h.1 (var x) h.3 in
    let e = h.4 in
    omega arith

plain_within : (ρ : Rule) (p q : ℕ) → RuleFits ρ → PlainEdge ρ p q → (p < positions) × (q < positions)
plain_within (tuple body head) p q fit h = (at_within h.0 p body fit.0 h.1, at_within h.0 q head fit.1 h.2)
plain_within (equation body x y) p q fit h = absurd h

special_within : (ρ : Rule) (p q : ℕ) → RuleFits ρ → SpecialEdge ρ p q → (p < positions) × (q < positions)
special_within (tuple body head) p q fit h = (at_within h.0 p body fit.0 h.2, at_within h.1 q head fit.1 h.4)
special_within (equation body x y) p q fit h = absurd h

pub edges_within : (ρs : List Rule) → RulesFit ρs → Within positions (edges ρs)
edges_within ρs fit (plain p q) i = let r = (plain_edges ρs p q).0 i in plain_within r.0 p q (fit r.0 r.1) r.2
edges_within ρs fit (special p q) i = let r = (special_edges ρs p q).0 i in special_within r.0 p q (fit r.0 r.1) r.2

-- the words that are computed

pub value_map : (f : ℕ → ℕ) (l : List ℕ) (v : ℕ) → v < length l → value (map f l) v ≡ f (value l v)
value_map f [] v h = absurd (not-suc-le-zero h)
value_map f (x ∷ xs) zero h = refl
value_map f (x ∷ xs) (suc v) h = value_map f xs v (le_of_suc-le-suc h)

right_word : (g : List Edge) (v x : ℕ) → ((x < positions) × IsRank g v x) ⊎ ((x ≡ positions) × Infinite g v) → IsWord g v (rank_word x)
right_word g v x (inl p) =
    let l = p.0 in
    let e : rank_word x ≡ x = ap (λ (b : Bool). pick b x 65535) (lt-ltb x 512 l) in
    inl (omega arith, subst (λ (k : ℕ). IsRank g v k) (sym e) p.1)
right_word g v x (inr p) = let l = p.0 in inr (ap (λ (b : Bool). pick b x 65535) (le-ltb x 512 (omega arith)), p.1)

words_of : (g : List Edge) (r : List ℕ) → length r ≡ positions → ((v : ℕ) → v < positions → ((value r v < positions) × IsRank g v (value r v)) ⊎ ((value r v ≡ positions) × Infinite g v)) → AreWords g (map rank_word r)
words_of g r l right = record {
  long = length-map r rank_word ∙ l;
  each = λ v h. subst (IsWord g v) (sym (value_map rank_word r v (omega arith))) (right_word g v (value r v) (right v h));
}

pub words_right : (g : List Edge) → Within positions g → AreWords g (rank_words g)
unfolding rank_words
words_right g within = words_of g (ranks positions g) (ranks_good positions g within).long (ranks_right positions g within)

module _ (ρs : List Rule) (fit : RulesFit ρs) where
  -- the words are the ranks as published
  pub words_published : AreWords (edges ρs) (rank_words (edges ρs))
  words_published = words_right (edges ρs) (edges_within ρs fit)

  -- the verdict is weak acyclicity
  pub verdict_published : (acyclic positions (edges ρs) ≡ true) ↔ WeaklyAcyclic (edges ρs)
  verdict_published = verdict_right positions (edges ρs) (edges_within ρs fit)

-- a slot without position

-- no edge ends at v: the rank is 0
unentered : (g : List Edge) (v : ℕ) → ((e : Edge) → e ∈ g → target e ≡ v → ⊥) → IsRank g v 0
unentered g v f = ((v, stay), λ u m p. none u m p f)
  where
    none : (u : ℕ) {w : ℕ} (m : ℕ) → Path g u w m → ((e : Edge) → e ∈ g → target e ≡ w → ⊥) → m ≤ 0
    none u m stay h = le_refl 0
    none u m (along {v = a} {w = b} p i) h = absurd (h (plain a b) i refl)
    none u m (across {v = a} {w = b} p i) h = absurd (h (special a b) i refl)

-- no head atom of the rule has a variable at position p
abbrev pub Unreached : ℕ → Rule → Type 0
Unreached p (tuple body head) = (x : ℕ) → At x p head → ⊥
Unreached p (equation body x y) = Unit {0}

unreached_plain : (ρ : Rule) (p q : ℕ) → Unreached q ρ → PlainEdge ρ p q → ⊥
unreached_plain (tuple body head) p q f h = f h.0 h.2
unreached_plain (equation body x y) p q f h = absurd h

unreached_special : (ρ : Rule) (p q : ℕ) → Unreached q ρ → SpecialEdge ρ p q → ⊥
unreached_special (tuple body head) p q f h = f h.1 h.4
unreached_special (equation body x y) p q f h = absurd h

pub unreached_zero : (ρs : List Rule) → RulesFit ρs → (p : ℕ) → p < positions → ((ρ : Rule) → ρ ∈ ρs → Unreached p ρ) → value (rank_words (edges ρs)) p ≡ 0
unreached_zero ρs fit p h f =
    word_one (edges ρs) p (value (rank_words (edges ρs)) p) 0 ((words_published ρs fit).each p h) (inl (omega arith, unentered (edges ρs) p none))
  where
    none : (e : Edge) → e ∈ edges ρs → target e ≡ p → ⊥
    none (plain a b) i e = let r = (plain_edges ρs a b).0 i in unreached_plain r.0 a b (subst (λ (q : ℕ). Unreached q r.0) (sym e) (f r.0 r.1)) r.2
    none (special a b) i e = let r = (special_edges ρs a b).0 i in unreached_special r.0 a b (subst (λ (q : ℕ). Unreached q r.0) (sym e) (f r.0 r.1)) r.2

module _ (arity : ℕ → ℕ) (small : (r : ℕ) → arity r ≤ 8) where
  -- rules as an accepted job has them
  atom_fits : (a : Atom) → ShapedAtom arity a → AtomFits a
  atom_fits (atom r ts) s = let k = small r in let e = s.1 in (s.0, omega arith)

  pub rule_fits : (ρ : Rule) → ShapedRule arity ρ → RuleFits ρ
  rule_fits (tuple body head) s = (λ a i. atom_fits a (s.0.each a i), λ a i. atom_fits a (s.1.each a i))
  rule_fits (equation body x y) s = λ a i. atom_fits a (s.each a i)

  atom_place : (a : Atom) (r i j : ℕ) → ShapedAtom arity a → arity r ≤ i → i < 8 → j < length (terms_in a) → 8 * r + i ≡ 8 * relation_in a + j → ⊥
  atom_place (atom s ts) r i j shaped past eight l e =
      let k = small s in
      let q = shaped.1 in
      let same : r ≡ s = omega arith in
      let w = ap arity same in
      omega arith

  past_arity : (x r i : ℕ) (ats : List Atom) → ShapedAtoms arity ats → arity r ≤ i → i < 8 → At x (8 * r + i) ats → ⊥
  past_arity x r i ats shaped past eight h =
      atom_place h.0 r i h.1 (shaped.each h.0 h.2) past eight (found (terms_in h.0) h.1 (var x) h.3) h.4

  rule_past : (r i : ℕ) (ρ : Rule) → ShapedRule arity ρ → arity r ≤ i → i < 8 → Unreached (8 * r + i) ρ
  rule_past r i (tuple body head) shaped past eight = λ x h. past_arity x r i head shaped.1 past eight h
  rule_past r i (equation body x y) shaped past eight = tt

  -- past a relation's arity the words are 0
  pub no_position : (ρs : List Rule) → ((ρ : Rule) → ρ ∈ ρs → ShapedRule arity ρ) → (r i : ℕ) → r < 64 → arity r ≤ i → i < 8 → value (rank_words (edges ρs)) (8 * r + i) ≡ 0
  no_position ρs shaped r i h past eight =
      unreached_zero ρs (λ ρ m. rule_fits ρ (shaped ρ m)) (8 * r + i) (omega arith) (λ ρ m. rule_past r i ρ (shaped ρ m) past eight)
