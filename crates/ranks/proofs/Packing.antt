-- Rules packed as spots and sizes, turn by turn; and what these then make: the rules' edges. Assumes good rules.
use mathlib.Core.Path.{◌≡◌, refl, sym, ap, ap₂, ◌∙◌, subst}
use mathlib.Core.List.{List, [], ◌∷◌, ◌++◌, map, map-append, append_assoc, append-nil}
use Prim.Native.Nat.{ℕ, zero, suc, ◌+◌, ◌-◌, ◌*◌, ◌≤◌, ◌<◌}
use native.Mathlib.Nat.{le_refl}
use native.Mathlib.Numerals.{add-one}
use native.Mathlib.Omega.{arith}
use lib.ListN.{length, get_or, take, drop, length-map, length-append, drop_of_length-le}
use lib.Seq.{drop-cons, get_or-take, get_or-drop, take_at, drop_at}
use Rattle.std.specs.List.{sum_by}
use Rattle.std.proofs.lemmas.List.Sums.{sum_by-cons}
use Rattle.model.specs.Rules as paper
use Rattle.model.specs.Edges.{Spot, spots_from, spots, fans, rule_edges, edges}
use Rattle.rules.specs.declared.Kind.{Kind}
use Rattle.rules.specs.declared.Kind.TheVariants.{Var, Const}
use Rattle.rules.specs.declared.Term.{Term}
use Rattle.rules.specs.declared.Rule.{Rule}
use Rattle.rules.specs.declared.Conclusion.{Conclusion}
use Rattle.rules.specs.declared.Conclusion.TheVariants.{Head, Sides}
use Rattle.rules.specs.Rules.{kind_of, term_of, shape_at, terms_at, atoms, concluded, rule_of, rules_of, no_term, lost_rule, GoodKind, GoodConclusion, Good, GoodRules}
use Rattle.rules.proofs.Atoms.{terms_length}
use Rattle.rounds.specs.declared.packed.Spot as packed
use Rattle.rounds.specs.declared.packed.Size.{Size}
use Rattle.rounds.specs.Table.{spot_of, spots_in, Pair, table, graph}
use Rattle.ranks.specs.Packs.{atom_spots, heads_of, pair_of, spots_of, size_of, sizes_of}

-- xs came behind what there was
pub grown : (now now' : List packed.Spot) (xs : List Spot) → spots_in now' ≡ spots_in now ++ xs → length now' ≡ length now + length xs
grown now now' xs e =
    let a = ap length e ∙ length-append (spots_in now) xs in
    let b = length-map now spot_of in
    let c = length-map now' spot_of in
    omega arith

-- what is left to put in, after what there is, makes the whole
module _ {A : Type 0} where
  pub append_turn : (now now' xs rest left all : List A) → now' ≡ now ++ xs → left ≡ xs ++ rest → now ++ left ≡ all → now' ++ rest ≡ all
  append_turn now now' xs rest left all e l w = ap (λ (m : List A). m ++ rest) e ∙ append_assoc now xs rest ∙ ap (λ (m : List A). now ++ m) (sym l) ∙ w

  pub append_end : (now left all : List A) → left ≡ [] → now ++ left ≡ all → now ≡ all
  append_end now left all e w = sym (append-nil now) ∙ ap (λ (m : List A). now ++ m) (sym e) ∙ w

-- the spot of a term
pub var_small : (k : Kind) (x : ℕ) → k ≡ Var x → GoodKind k → x < 16
var_small k x e g = subst GoodKind e g

pub var_stored : (now now' : List packed.Spot) (q : ℕ) (k : Kind) (x : ℕ) (s : packed.Spot) → k ≡ Var x → spot_of s ≡ record { name = x; at = q } → now' ≡ now ++ (s ∷ [])
    → spots_in now' ≡ spots_in now ++ spots_from q (kind_of k ∷ [])
var_stored now now' q k x s e p n =
    ap spots_in n ∙ map-append spot_of now (s ∷ []) ∙ ap (λ (u : Spot). spots_in now ++ (u ∷ [])) p ∙ ap (λ (j : Kind). spots_in now ++ spots_from q (kind_of j ∷ [])) (sym e)

pub con_stored : (now : List packed.Spot) (q : ℕ) (k : Kind) (x : ℕ) → k ≡ Const x → spots_in now ≡ spots_in now ++ spots_from q (kind_of k ∷ [])
con_stored now q k x e = sym (append-nil (spots_in now)) ∙ ap (λ (j : Kind). spots_in now ++ spots_from q (kind_of j ∷ [])) (sym e)

-- the spots of an atom

-- one term more
term_more : (q : ℕ) (t : paper.Term) (ts : List paper.Term) → spots_from q (t ∷ ts) ≡ spots_from q (t ∷ []) ++ spots_from (suc q) ts
term_more q (paper.var x) ts = refl
term_more q (paper.con c) ts = refl

pub term_few : (q : ℕ) (t : paper.Term) → length (spots_from q (t ∷ [])) ≤ 1
term_few q (paper.var x) = le_refl 1
term_few q (paper.con c) = omega arith

-- the term that a turn puts in
pub atom_turn : (ts : List Term) (p q : ℕ) → p < length ts
    → spots_from (q + p) (map term_of (drop p ts)) ≡ spots_from (q + p) (term_of (get_or ts p no_term) ∷ []) ++ spots_from (q + (p + 1)) (map term_of (drop (p + 1) ts))
atom_turn ts p q lt =
    let on : suc (q + p) ≡ q + (p + 1) = omega arith in
    ap (λ (l : List Term). spots_from (q + p) (map term_of l)) (drop-cons ts p no_term lt)
    ∙ term_more (q + p) (term_of (get_or ts p no_term)) (map term_of (drop (suc p) ts))
    ∙ ap₂ (λ (x y : ℕ). spots_from (q + p) (term_of (get_or ts p no_term) ∷ []) ++ spots_from x (map term_of (drop y ts))) on (sym (add-one p))

pub atom_over : (ts : List Term) (p q : ℕ) → length ts ≤ p → spots_from q (map term_of (drop p ts)) ≡ []
atom_over ts p q ge = ap (λ (l : List Term). spots_from q (map term_of l)) (drop_of_length-le ts ge)

-- the terms of an atom of a good rule are at most eight good ones
module _ (ρ : Rule) (good : Good ρ) (a : ℕ) (h : a < 16) (ts : List Term) (e : ts ≡ terms_at ρ a) where
  pub terms_few : length ts ≤ 8
  terms_few = let n = ap length e ∙ terms_length ρ good a h in let k = good.lens a h in omega arith

  pub term_good : (p : ℕ) → p < length ts → GoodKind (get_or ts p no_term).kind
  term_good p lt =
      let n = ap length e ∙ terms_length ρ good a h in
      let k = good.lens a h in
      let at : get_or ts p no_term ≡ get_or ρ.terms (a * 8 + p) no_term =
      ap (λ l. get_or l p no_term) e ∙ get_or-take ((shape_at ρ a).len) (drop (a * 8) ρ.terms) p no_term (omega arith) ∙ get_or-drop (a * 8) ρ.terms p no_term in
      rw at (good.vars (a * 8 + p) (omega arith))

-- the spots of atoms

pub atoms_turn : (ρ : Rule) (end place : ℕ) → place < end → spots (atoms ρ place (end - place)) ≡ atom_spots ρ place ++ spots (atoms ρ (place + 1) (end - (place + 1)))
unfolding atoms
atoms_turn ρ end place lt =
    let one : end - place ≡ suc (end - (place + 1)) = omega arith in
    let on : suc place ≡ place + 1 = omega arith in
    ap (λ (m : ℕ). spots (atoms ρ place m)) one ∙ ap (λ (m : ℕ). atom_spots ρ place ++ spots (atoms ρ m (end - (place + 1)))) on

pub atoms_over : (ρ : Rule) (end place : ℕ) → end ≤ place → spots (atoms ρ place (end - place)) ≡ []
unfolding atoms
atoms_over ρ end place ge = let e : end - place ≡ 0 = omega arith in ap (λ (m : ℕ). spots (atoms ρ place m)) e

pub atoms_start : (ρ : Rule) (a k : ℕ) → spots (atoms ρ a (a + k - a)) ≡ spots (atoms ρ a k)
atoms_start ρ a k = let e : a + k - a ≡ k = omega arith in ap (λ (m : ℕ). spots (atoms ρ a m)) e

-- how many there are

from_few : (q : ℕ) (ts : List paper.Term) → length (spots_from q ts) ≤ length ts
from_few q [] = le_refl 0
from_few q (paper.var x ∷ ts) = let k = from_few (suc q) ts in omega arith
from_few q (paper.con c ∷ ts) = let k = from_few (suc q) ts in omega arith

module _ (ρ : Rule) (good : Good ρ) where
  pub atom_few : (a : ℕ) → a < 16 → length (atom_spots ρ a) ≤ 8
  atom_few a h =
      let len = terms_length ρ good a h in
      let k = good.lens a h in
      let f = from_few (8 * (shape_at ρ a).rel) (map term_of (terms_at ρ a)) in
      let g = length-map (terms_at ρ a) term_of in
      omega arith

  pub atoms_few : (k a : ℕ) → a + k ≤ 16 → length (spots (atoms ρ a k)) ≤ 8 * k
  unfolding atoms
  atoms_few zero a h = le_refl 0
  atoms_few (suc k) a h =
      let l : a < 16 = omega arith in
      let n = atom_few a l in
      let f = length-append (atom_spots ρ a) (spots (atoms ρ (suc a) k)) in
      let g = atoms_few k (suc a) (omega arith) in
      omega arith

-- the spots of rules

rule_body : (ρ : Rule) → (pair_of (rule_of ρ)).body ≡ spots (atoms ρ 0 ρ.body)
unfolding rule_of
rule_body ρ = go ρ.conclusion
  where
    go : (c : Conclusion) → (pair_of (concluded ρ c)).body ≡ spots (atoms ρ 0 ρ.body)
    go (Head n) = refl
    go (Sides x y) = refl

rule_head : (ρ : Rule) → (pair_of (rule_of ρ)).head ≡ spots (atoms ρ ρ.body (heads_of ρ.conclusion))
unfolding rule_of atoms
rule_head ρ = go ρ.conclusion
  where
    go : (c : Conclusion) → (pair_of (concluded ρ c)).head ≡ spots (atoms ρ ρ.body (heads_of c))
    go (Head n) = refl
    go (Sides x y) = refl

heads_few : (c : Conclusion) → GoodConclusion c → heads_of c ≤ 8
heads_few (Head n) h = h
heads_few (Sides x y) h = omega arith

-- at most 64 in each body and each head
abbrev Few : paper.Rule → Type 0
Few ρ = (length (pair_of ρ).body ≤ 64) × (length (pair_of ρ).head ≤ 64)

module _ (ρ : Rule) (good : Good ρ) where
  heads_most : heads_of ρ.conclusion ≤ 8
  heads_most = heads_few ρ.conclusion good.conclusion

  rule_few : Few (rule_of ρ)
  rule_few =
      let b = good.body in
      let h = heads_most in
      let x = ap length (rule_body ρ) in
      let y = ap length (rule_head ρ) in
      let m = atoms_few ρ good ρ.body 0 (omega arith) in
      let n = atoms_few ρ good (heads_of ρ.conclusion) ρ.body (omega arith) in
      (omega arith, omega arith)

-- what is packed, and back

fans_none : (body ss : List Spot) → fans body ss [] ≡ []
fans_none body [] = refl
fans_none body (s ∷ ss) = fans_none body ss

pair_edges : (ρ : paper.Rule) → fans (pair_of ρ).body (pair_of ρ).body (pair_of ρ).head ≡ rule_edges ρ
pair_edges (paper.tuple body head) = refl
pair_edges (paper.equation body x y) = fans_none (spots body) (spots body)

graph_edges : (ρs : List paper.Rule) → graph (map pair_of ρs) ≡ edges ρs
graph_edges [] = refl
graph_edges (ρ ∷ ρs) = ap₂ ◌++◌ (pair_edges ρ) (graph_edges ρs)

table_one : (zs : List Size) (xs ys rest : List Spot)
    → table (record { body = length xs; head = length ys } ∷ zs) (xs ++ (ys ++ rest)) ≡ record { body = xs; head = ys } ∷ table zs rest
unfolding table
table_one zs xs ys rest =
    ap₂ (λ (x y : List Spot). record { body = x; head = take (length ys) y } ∷ table zs (drop (length ys) y)) (take_at xs (ys ++ rest) (length xs) refl) (drop_at xs (ys ++ rest) (length xs) refl)
    ∙ ap₂ (λ (x y : List Spot). record { body = xs; head = x } ∷ table zs y) (take_at ys rest (length ys) refl) (drop_at ys rest (length ys) refl)

table_spots : (ρs : List paper.Rule) → table (sizes_of ρs) (spots_of ρs) ≡ map pair_of ρs
unfolding table spots_of
table_spots [] = refl
table_spots (ρ ∷ ρs) = table_one (sizes_of ρs) (pair_of ρ).body (pair_of ρ).head (spots_of ρs) ∙ ap (λ (l : List Pair). pair_of ρ ∷ l) (table_spots ρs)

-- as many as the sizes say
spots_sized : (ρs : List paper.Rule) → sum_by (λ (z : Size). z.body + z.head) (sizes_of ρs) ≡ length (spots_of ρs)
unfolding spots_of
spots_sized [] = refl
spots_sized (ρ ∷ ρs) =
    let k = spots_sized ρs in
    let s = sum_by-cons (λ (z : Size). z.body + z.head) (size_of ρ) (sizes_of ρs) in
    let a = length-append (pair_of ρ).body ((pair_of ρ).head ++ spots_of ρs) in
    let b = length-append (pair_of ρ).head (spots_of ρs) in
    omega arith

-- the rules that are left
abbrev pub left : List Rule → ℕ → List paper.Rule
left rs i = map rule_of (drop i rs)

pub rules_long : (rs : List Rule) → length (rules_of rs) ≡ length rs
unfolding rules_of
rules_long rs = length-map rs rule_of

-- the rules of a table
module _ (rs : List Rule) (good : GoodRules rs) where
  left_step : (i : ℕ) → i < length rs → left rs i ≡ rule_of (get_or rs i lost_rule) ∷ left rs (i + 1)
  left_step i lt =
      ap (map rule_of) (drop-cons rs i lost_rule lt) ∙ ap (λ (k : ℕ). rule_of (get_or rs i lost_rule) ∷ map rule_of (drop k rs)) (sym (add-one i))

  left_none : (i : ℕ) → length rs ≤ i → left rs i ≡ []
  left_none i ge = ap (map rule_of) (drop_of_length-le rs ge)

  pub packing_start : (now : List packed.Spot) (zs : List Size) → now ≡ [] → zs ≡ [] → (spots_in now ++ spots_of (left rs 0) ≡ spots_of (rules_of rs)) × (zs ++ sizes_of (left rs 0) ≡ sizes_of (rules_of rs))
  unfolding rules_of
  packing_start now zs e z =
      (ap (λ (l : List packed.Spot). spots_in l ++ spots_of (left rs 0)) e, ap (λ (l : List Size). l ++ sizes_of (left rs 0)) z)

  -- what putting in the atoms of a rule asks
  pub packing_body : (i used : ℕ) → i < length rs → used ≤ 128 * i → (0 + (get_or rs i lost_rule).body ≤ 16) × Good (get_or rs i lost_rule) × (used + 8 * (get_or rs i lost_rule).body ≤ 8192)
  packing_body i used lt p =
      let g = good.each i lt in
      let b = g.body in
      let k = good.count in
      (omega arith, g, omega arith)

  module _ (i : ℕ) (lt : i < length rs) (h : ℕ) (eh : h ≡ heads_of (get_or rs i lost_rule).conclusion) (now now₁ : List packed.Spot)
      (e : spots_in now₁ ≡ spots_in now ++ spots (atoms (get_or rs i lost_rule) 0 (get_or rs i lost_rule).body)) where
    ρ : Rule
    ρ = get_or rs i lost_rule

    pub packing_head : length now ≤ 128 * i → ((get_or rs i lost_rule).body + h ≤ 16) × Good (get_or rs i lost_rule) × (length now₁ + 8 * h ≤ 8192)
    packing_head p =
        let g = good.each i lt in
        let b = g.body in
        let m = heads_most (get_or rs i lost_rule) g in
        let k = good.count in
        let f = atoms_few (get_or rs i lost_rule) g (get_or rs i lost_rule).body 0 (omega arith) in
        let l = grown now now₁ (spots (atoms (get_or rs i lost_rule) 0 (get_or rs i lost_rule).body)) e in
        (omega arith, g, omega arith)

    module _ (now₂ : List packed.Spot) (e₂ : spots_in now₂ ≡ spots_in now₁ ++ spots (atoms (get_or rs i lost_rule) (get_or rs i lost_rule).body h)) where
      pub packing_place : length now ≤ 128 * i → length now₂ ≤ 128 * (i + 1)
      packing_place p =
          let g = good.each i lt in
          let b = g.body in
          let m = heads_most (get_or rs i lost_rule) g in
          let f = atoms_few (get_or rs i lost_rule) g (get_or rs i lost_rule).body 0 (omega arith) in
          let n = atoms_few (get_or rs i lost_rule) g h (get_or rs i lost_rule).body (omega arith) in
          let l = grown now now₁ (spots (atoms (get_or rs i lost_rule) 0 (get_or rs i lost_rule).body)) e in
          let k = grown now₁ now₂ (spots (atoms (get_or rs i lost_rule) (get_or rs i lost_rule).body h)) e₂ in
          omega arith

      pub packing_spots : spots_in now ++ spots_of (left rs i) ≡ spots_of (rules_of rs) → spots_in now₂ ++ spots_of (left rs (i + 1)) ≡ spots_of (rules_of rs)
      unfolding spots_of ρ
      packing_spots w =
          let rest = spots_of (left rs (i + 1)) in
          let B = spots (atoms ρ 0 ρ.body) in
          let H = spots (atoms ρ ρ.body h) in
          let of_rule : spots_of (left rs i) ≡ B ++ (H ++ rest) = ap spots_of (left_step i lt) ∙ ap₂ (λ (x y : List Spot). x ++ (y ++ rest)) (rule_body ρ) (rule_head ρ ∙ ap (λ (k : ℕ). spots (atoms ρ ρ.body k)) (sym eh)) in
          append_turn (spots_in now₁) (spots_in now₂) H rest (H ++ rest) (spots_of (rules_of rs)) e₂ refl
          (append_turn (spots_in now) (spots_in now₁) B (H ++ rest) (spots_of (left rs i)) (spots_of (rules_of rs)) e of_rule w)

      pub packing_sizes : (start mid end : ℕ) → start ≡ length now → mid ≡ length now₁ → end ≡ length now₂ → (zs zs' : List Size) → zs' ≡ zs ++ (record { body = mid - start; head = end - mid } ∷ [])
          → zs ++ sizes_of (left rs i) ≡ sizes_of (rules_of rs) → zs' ++ sizes_of (left rs (i + 1)) ≡ sizes_of (rules_of rs)
      unfolding ρ
      packing_sizes start mid end es em ee zs zs' ez w =
          let l = grown now now₁ (spots (atoms (get_or rs i lost_rule) 0 (get_or rs i lost_rule).body)) e in
          let k = grown now₁ now₂ (spots (atoms (get_or rs i lost_rule) (get_or rs i lost_rule).body h)) e₂ in
          let x : length (pair_of (rule_of ρ)).body ≡ mid - start = let q = ap length (rule_body ρ) in omega arith in
          let y : length (pair_of (rule_of ρ)).head ≡ end - mid = let q = ap length (rule_head ρ) in let p = ap (λ (n : ℕ). length (spots (atoms ρ ρ.body n))) eh in omega arith in
          append_turn zs zs' (record { body = mid - start; head = end - mid } ∷ []) (sizes_of (left rs (i + 1))) (sizes_of (left rs i)) (sizes_of (rules_of rs)) ez
          (ap sizes_of (left_step i lt) ∙ ap₂ (λ (u v : ℕ). record { body = u; head = v } ∷ sizes_of (left rs (i + 1))) x y) w

  pub packing_end : (now : List Spot) (zs : List Size) (i : ℕ) → length rs ≤ i → now ++ spots_of (left rs i) ≡ spots_of (rules_of rs) → zs ++ sizes_of (left rs i) ≡ sizes_of (rules_of rs)
      → (now ≡ spots_of (rules_of rs)) × (zs ≡ sizes_of (rules_of rs))
  unfolding spots_of
  packing_end now zs i ge e₁ e₂ = (
    append_end now (spots_of (left rs i)) (spots_of (rules_of rs)) (ap spots_of (left_none i ge)) e₁,
    append_end zs (sizes_of (left rs i)) (sizes_of (rules_of rs)) (ap sizes_of (left_none i ge)) e₂,
  )

-- what is packed makes the rules' edges
module _ (ρs : List paper.Rule) (now : List packed.Spot) (zs : List Size) (in_spots : spots_in now ≡ spots_of ρs) (in_sizes : zs ≡ sizes_of ρs) where
  pub packed_enough : sum_by (λ (z : Size). z.body + z.head) zs ≤ length now
  packed_enough =
      let e = ap (sum_by (λ (z : Size). z.body + z.head)) in_sizes ∙ spots_sized ρs in
      let l = sym (length-map now spot_of) ∙ ap length in_spots in
      omega arith

  pub packed_edges : graph (table zs (spots_in now)) ≡ edges ρs
  packed_edges = ap₂ (λ (z : List Size) (l : List Spot). graph (table z l)) in_sizes in_spots ∙ ap graph (table_spots ρs) ∙ graph_edges ρs

  pub packed_rules_lem : (sum_by (λ (z : Size). z.body + z.head) zs ≤ length now) × (graph (table zs (spots_in now)) ≡ edges ρs)
  packed_rules_lem = (packed_enough, packed_edges)
