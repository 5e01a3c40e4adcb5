-- The edges that are computed are the edges as published. Assumes nothing.
use mathlib.Core.Path.{◌≡◌, refl, sym, ap, ap₂, ◌∙◌, subst}
use mathlib.Core.Logic.{◌⊎◌, inl, inr, ◌↔◌}
use mathlib.Core.Bool.{Bool, true, false, ◌||◌, not, or-true}
use mathlib.Core.Option.{none, some}
use mathlib.Core.List.Memᴰ.{append_cases}
use mathlib.Core.List.Memᴰ.{append_left as in_left}
use mathlib.Core.List.Memᴰ.{append_right as in_right}
use mathlib.Core.List.Memᴰ.{cases_cons}
use mathlib.Core.List.Memᴰ.{cast as cast-in}
use mathlib.Core.List.Memᴰ.{eq_of_singleton as the-only}
use mathlib.Core.List.Memᴰ.{head as here}
use mathlib.Core.List.Memᴰ.{not-nil as not-in-nil}
use mathlib.Core.List.Memᴰ.{tail as there}
use mathlib.Core.List.{List, [], ◌∷◌, ◌++◌}
use Prim.Native.Nat.{ℕ, zero, suc, ◌+◌, ◌*◌}
use native.Mathlib.Omega.{arith}
use lib.Dec.{eqb}
use lib.ListN.{get_elem?}
use borrow.Author.Tests.{eqb-true, eq-eqb, not-true}
use Rattle.model.specs.Graph.{Edge, plain, special, source, target}
use Rattle.model.specs.Rules.{Term, var, con, Atom, atom, Rule, tuple, equation}
use Rattle.model.specs.Edges.{relation_in, terms_in, At, PlainEdge, SpecialEdge, Spot, spots_from, spots, occurs, when, fan, fans, rule_edges, edges}
use Rattle.model.specs.Order.{◌∈◌}

abbrev pub spot : ℕ → ℕ → Spot
spot x p = record { name = x; at = p }

no_none : {A : Type 0} {a : A} → none ≡ some a → ⊥
no_none e = let z : ◌≡◌ {A = ℕ} 0 1 = cc in omega arith

no_con : {x k : ℕ} → some (con k) ≡ some (var x) → ⊥
no_con e = let z : ◌≡◌ {A = ℕ} 0 1 = cc in omega arith

-- spots

from_at : (x q p : ℕ) (ts : List Term) → spot x q ∈ spots_from p ts → (i : ℕ) × (get_elem? ts i ≡ some (var x)) × (q ≡ p + i)
from_at x q p [] m = absurd (not-in-nil m)
from_at x q p (var y ∷ ts) m = go (λ m'. from_at x q (suc p) ts m') (cases_cons m)
  where
    go : (spot x q ∈ spots_from (suc p) ts → (i : ℕ) × (get_elem? ts i ≡ some (var x)) × (q ≡ suc p + i))
        → (spot x q ≡ spot y p) ⊎ (spot x q ∈ spots_from (suc p) ts) → (i : ℕ) × (get_elem? (var y ∷ ts) i ≡ some (var x)) × (q ≡ p + i)
    go f (inl e) = let h = ap (λ (s : Spot). s.name) e in let k = ap (λ (s : Spot). s.at) e in (zero, ap (λ (n : ℕ). some (var n)) (sym h), omega arith)
    go f (inr m') = let r = f m' in let k = r.2 in (suc r.0, r.1, omega arith)
from_at x q p (con y ∷ ts) m = let r = from_at x q (suc p) ts m in let k = r.2 in (suc r.0, r.1, omega arith)

at_from : (x q p : ℕ) (ts : List Term) (i : ℕ) → get_elem? ts i ≡ some (var x) → q ≡ p + i → spot x q ∈ spots_from p ts
at_from x q p [] i e k = absurd (no_none e)
at_from x q p (var y ∷ ts) zero e k = let h : x ≡ y = cc in let l : q ≡ p = omega arith in here (ap₂ spot h l)
at_from x q p (var y ∷ ts) (suc i) e k = there (at_from x q (suc p) ts i e (omega arith))
at_from x q p (con y ∷ ts) zero e k = absurd (no_con e)
at_from x q p (con y ∷ ts) (suc i) e k = at_from x q (suc p) ts i e (omega arith)

pub spots_at : (x p : ℕ) (ats : List Atom) → spot x p ∈ spots ats → At x p ats
spots_at x p [] m = absurd (not-in-nil m)
spots_at x p (atom r ts ∷ ats) m = go (λ m'. spots_at x p ats m') (append_cases (spots_from (8 * r) ts) m)
  where
    go : (spot x p ∈ spots ats → At x p ats) → (spot x p ∈ spots_from (8 * r) ts) ⊎ (spot x p ∈ spots ats) → At x p (atom r ts ∷ ats)
    go f (inl m') = let h = from_at x p (8 * r) ts m' in (atom r ts, h.0, here refl, h.1, h.2)
    go f (inr m') = let h = f m' in (h.0, h.1, there h.2, h.3, h.4)

spots_head : (a : Atom) (ats : List Atom) → spots (a ∷ ats) ≡ spots_from (8 * relation_in a) (terms_in a) ++ spots ats
spots_head (atom r ts) ats = refl

pub at_spots : (x p : ℕ) (ats : List Atom) → At x p ats → spot x p ∈ spots ats
at_spots x p [] h = absurd (not-in-nil h.2)
at_spots x p (a ∷ ats) h = subst (λ (l : List Spot). spot x p ∈ l) (sym (spots_head a ats)) (go (λ h'. at_spots x p ats h') (cases_cons h.2))
  where
    go : (At x p ats → spot x p ∈ spots ats) → (h.0 ≡ a) ⊎ (h.0 ∈ ats) → spot x p ∈ (spots_from (8 * relation_in a) (terms_in a) ++ spots ats)
    go f (inl e) = in_left (spots ats) (subst (λ (b : Atom). spot x p ∈ spots_from (8 * relation_in b) (terms_in b)) e (at_from x p (8 * relation_in h.0) (terms_in h.0) h.1 h.3 h.4))
    go f (inr m) = in_right (spots_from (8 * relation_in a) (terms_in a)) (f (h.0, h.1, m, h.3, h.4))

-- whether a variable occurs

pub occurs_somewhere : (x : ℕ) (ss : List Spot) → occurs x ss ≡ true → (p : ℕ) × (spot x p ∈ ss)
occurs_somewhere x [] e = absurd (let z : ◌≡◌ {A = ℕ} 0 1 = cc in omega arith)
occurs_somewhere x (s ∷ ss) e = go (λ e'. occurs_somewhere x ss e') (eqb x s.name) refl e
  where
    go : (occurs x ss ≡ true → (p : ℕ) × (spot x p ∈ ss)) → (b : Bool) → eqb x s.name ≡ b → (b || occurs x ss) ≡ true → (p : ℕ) × (spot x p ∈ (s ∷ ss))
    go f true h k = (s.at, here (ap (λ (n : ℕ). spot n s.at) (eqb-true x s.name h)))
    go f false h k = let r = f k in (r.0, there r.1)

pub somewhere_occurs : (x p : ℕ) (ss : List Spot) → spot x p ∈ ss → occurs x ss ≡ true
somewhere_occurs x p [] m = absurd (not-in-nil m)
somewhere_occurs x p (s ∷ ss) m = go (λ m'. somewhere_occurs x p ss m') (cases_cons m)
  where
    go : (spot x p ∈ ss → occurs x ss ≡ true) → (spot x p ≡ s) ⊎ (spot x p ∈ ss) → (eqb x s.name || occurs x ss) ≡ true
    go f (inl e) = ap (λ (b : Bool). b || occurs x ss) (eq-eqb x s.name (ap (λ (t : Spot). t.name) e))
    go f (inr m') = ap (λ (b : Bool). eqb x s.name || b) (f m') ∙ or-true (eqb x s.name)

-- edges

when_true : {e : Edge} (b : Bool) (es : List Edge) → e ∈ when b es → (b ≡ true) × (e ∈ es)
when_true true es m = (refl, m)
when_true false es m = absurd (not-in-nil m)

when_in : {e : Edge} (b : Bool) (es : List Edge) → b ≡ true → e ∈ es → e ∈ when b es
when_in true es h m = m
when_in false es h m = absurd (let z : ◌≡◌ {A = ℕ} 0 1 = cc in omega arith)

-- one edge of the fan: what it is, and to which spot of the head
abbrev pub FanEdge : List Spot → Spot → List Spot → Edge → Type 0
FanEdge body s ts e =
    (t : Spot) × (t ∈ ts)
    × (((s.name ≡ t.name) × (e ≡ plain s.at t.at)) ⊎ ((occurs t.name body ≡ false) × (e ≡ special s.at t.at)))

fan_edge : (body : List Spot) (s : Spot) (ts : List Spot) (e : Edge) → e ∈ fan body s ts → FanEdge body s ts e
fan_edge body s [] e m = absurd (not-in-nil m)
fan_edge body s (t ∷ ts) e m =
    go (λ m'. fan_edge body s ts e m') (append_cases (when (eqb s.name t.name) (plain s.at t.at ∷ [])) m)
  where
    go₂ : (e ∈ fan body s ts → FanEdge body s ts e)
        → (e ∈ (when (not (occurs t.name body)) (special s.at t.at ∷ []))) ⊎ (e ∈ fan body s ts) → FanEdge body s (t ∷ ts) e
    go₂ f (inl m') =
        let r = when_true (not (occurs t.name body)) (special s.at t.at ∷ []) m' in
        (t, here refl, inr (not-true (occurs t.name body) r.0, the-only r.1))
    go₂ f (inr m') = let r = f m' in (r.0, there r.1, r.2)

    go : (e ∈ fan body s ts → FanEdge body s ts e)
        → e ∈ (when (eqb s.name t.name) (plain s.at t.at ∷ []))
        ⊎ (e ∈ (when (not (occurs t.name body)) (special s.at t.at ∷ []) ++ fan body s ts))
        → FanEdge body s (t ∷ ts) e
    go f (inl m') =
        let r = when_true (eqb s.name t.name) (plain s.at t.at ∷ []) m' in
        (t, here refl, inl (eqb-true s.name t.name r.0, the-only r.1))
    go f (inr m') = go₂ f (append_cases (when (not (occurs t.name body)) (special s.at t.at ∷ [])) m')

edge_fan : (body : List Spot) (s : Spot) (ts : List Spot) (e : Edge) → FanEdge body s ts e → e ∈ fan body s ts
edge_fan body s [] e h = absurd (not-in-nil h.1)
edge_fan body s (t ∷ ts) e h = go (λ m. edge_fan body s ts e (h.0, m, h.2)) (cases_cons h.1)
  where
    at_t : (t₀ : Spot) → t₀ ≡ t → ((s.name ≡ t₀.name) × (e ≡ plain s.at t₀.at)) ⊎ ((occurs t₀.name body ≡ false) × (e ≡ special s.at t₀.at))
        → e ∈ (fan body s (t ∷ ts))
    at_t t₀ q (inl p) =
        in_left (when (not (occurs t.name body)) (special s.at t.at ∷ []) ++ fan body s ts)
        (when_in (eqb s.name t.name) (plain s.at t.at ∷ []) (eq-eqb s.name t.name (p.0 ∙ ap (λ (u : Spot). u.name) q))
        (here (p.1 ∙ ap (λ (u : Spot). plain s.at u.at) q)))
    at_t t₀ q (inr p) =
        in_right (when (eqb s.name t.name) (plain s.at t.at ∷ []))
        (in_left (fan body s ts)
        (when_in (not (occurs t.name body)) (special s.at t.at ∷ []) (ap not (ap (λ (u : Spot). occurs u.name body) (sym q) ∙ p.0))
        (here (p.1 ∙ ap (λ (u : Spot). special s.at u.at) q))))

    go : (h.0 ∈ ts → e ∈ fan body s ts) → (h.0 ≡ t) ⊎ (h.0 ∈ ts) → e ∈ (fan body s (t ∷ ts))
    go f (inl q) = at_t h.0 q h.2
    go f (inr m) =
        in_right (when (eqb s.name t.name) (plain s.at t.at ∷ []))
        (in_right (when (not (occurs t.name body)) (special s.at t.at ∷ [])) (f m))

abbrev pub FansEdge : List Spot → List Spot → List Spot → Edge → Type 0
FansEdge body ss head e = (s : Spot) × (s ∈ ss) × (occurs s.name head ≡ true) × FanEdge body s head e

pub fans_edge : (body ss head : List Spot) (e : Edge) → e ∈ fans body ss head → FansEdge body ss head e
fans_edge body [] head e m = absurd (not-in-nil m)
fans_edge body (s ∷ ss) head e m = go (λ m'. fans_edge body ss head e m') (append_cases (when (occurs s.name head) (fan body s head)) m)
  where
    go : (e ∈ fans body ss head → FansEdge body ss head e)
        → (e ∈ when (occurs s.name head) (fan body s head)) ⊎ (e ∈ fans body ss head) → FansEdge body (s ∷ ss) head e
    go f (inl m') = let r = when_true (occurs s.name head) (fan body s head) m' in (s, here refl, r.0, fan_edge body s head e r.1)
    go f (inr m') = let r = f m' in (r.0, there r.1, r.2, r.3)

pub edge_fans : (body ss head : List Spot) (e : Edge) → FansEdge body ss head e → e ∈ fans body ss head
edge_fans body [] head e h = absurd (not-in-nil h.1)
edge_fans body (s ∷ ss) head e h = go (λ m. edge_fans body ss head e (h.0, m, h.2, h.3)) (cases_cons h.1)
  where
    go : (h.0 ∈ ss → e ∈ fans body ss head) → (h.0 ≡ s) ⊎ (h.0 ∈ ss) → e ∈ (fans body (s ∷ ss) head)
    go f (inl q) =
        in_left (fans body ss head)
        (subst (λ (u : Spot). e ∈ when (occurs u.name head) (fan body u head)) q
        (when_in (occurs h.0.name head) (fan body h.0 head) h.2 (edge_fan body h.0 head e h.3)))
    go f (inr m) = in_right (when (occurs s.name head) (fan body s head)) (f m)

no_mix : {a b c d : ℕ} → plain a b ≡ special c d → ⊥
no_mix e = let z : ◌≡◌ {A = ℕ} 0 1 = cc in omega arith

not_occurs : (y : ℕ) (l : List Atom) → occurs y (spots l) ≡ false → (o : ℕ) → At y o l → ⊥
not_occurs y l h o at = let k = somewhere_occurs y o (spots l) (at_spots y o l at) in let z : ◌≡◌ {A = ℕ} 0 1 = cc in omega arith

occurs_not : (y : ℕ) (l : List Atom) → ((o : ℕ) → At y o l → ⊥) → occurs y (spots l) ≡ false
occurs_not y l f = go (occurs y (spots l)) refl
  where
    go : (b : Bool) → occurs y (spots l) ≡ b → b ≡ false
    go true e = let r = occurs_somewhere y (spots l) e in absurd (f r.0 (spots_at y r.0 l r.1))
    go false e = refl

-- of one rule
pub rule_plain : (ρ : Rule) (p q : ℕ) → (plain p q ∈ rule_edges ρ) ↔ PlainEdge ρ p q
rule_plain (equation body x y) p q = (λ m. not-in-nil m, λ h. absurd h)
rule_plain (tuple body head) p q = (to, from)
  where
    named : (s t : Spot) → s ∈ spots body → t ∈ spots head
        → ((s.name ≡ t.name) × (plain p q ≡ plain s.at t.at)) ⊎ ((occurs t.name (spots body) ≡ false) × (plain p q ≡ special s.at t.at))
        → PlainEdge (tuple body head) p q
    named s t i j (inl h) =
        let a : p ≡ s.at = ap source h.1 in
        let b : q ≡ t.at = ap target h.1 in
        (s.name, spots_at s.name p body (cast-in (ap (spot s.name) a) i), spots_at s.name q head (cast-in (ap₂ spot h.0 b) j))
    named s t i j (inr h) = absurd (no_mix h.1)

    to : plain p q ∈ rule_edges (tuple body head) → PlainEdge (tuple body head) p q
    to m = let r = fans_edge (spots body) (spots body) (spots head) (plain p q) m in named r.0 r.3.0 r.1 r.3.1 r.3.2

    from : PlainEdge (tuple body head) p q → plain p q ∈ rule_edges (tuple body head)
    from h =
        let i = at_spots h.0 p body h.1 in
        let j = at_spots h.0 q head h.2 in
        edge_fans (spots body) (spots body) (spots head) (plain p q)
        (spot h.0 p, i, somewhere_occurs h.0 q (spots head) j, (spot h.0 q, j, inl (refl, refl)))

pub rule_special : (ρ : Rule) (p q : ℕ) → (special p q ∈ rule_edges ρ) ↔ SpecialEdge ρ p q
rule_special (equation body x y) p q = (λ m. not-in-nil m, λ h. absurd h)
rule_special (tuple body head) p q = (to, from)
  where
    named : (s t : Spot) → s ∈ spots body → occurs s.name (spots head) ≡ true → t ∈ spots head
        → ((s.name ≡ t.name) × (special p q ≡ plain s.at t.at)) ⊎ ((occurs t.name (spots body) ≡ false) × (special p q ≡ special s.at t.at))
        → SpecialEdge (tuple body head) p q
    named s t i o j (inl h) = absurd (no_mix (sym h.1))
    named s t i o j (inr h) =
        let a : p ≡ s.at = ap source h.1 in
        let b : q ≡ t.at = ap target h.1 in
        let w = occurs_somewhere s.name (spots head) o in
        (s.name, t.name, spots_at s.name p body (cast-in (ap (spot s.name) a) i), (w.0, spots_at s.name w.0 head w.1), spots_at t.name q head (cast-in (ap (spot t.name) b) j), not_occurs t.name body h.0)

    to : special p q ∈ rule_edges (tuple body head) → SpecialEdge (tuple body head) p q
    to m = let r = fans_edge (spots body) (spots body) (spots head) (special p q) m in named r.0 r.3.0 r.1 r.2 r.3.1 r.3.2

    from : SpecialEdge (tuple body head) p q → special p q ∈ rule_edges (tuple body head)
    from h =
        let i = at_spots h.0 p body h.2 in
        let o = at_spots h.0 h.3.0 head h.3.1 in
        let j = at_spots h.1 q head h.4 in
        edge_fans (spots body) (spots body) (spots head) (special p q)
        (spot h.0 p, i, somewhere_occurs h.0 h.3.0 (spots head) o, (spot h.1 q, j, inr (occurs_not h.1 body h.5, refl)))

-- of all rules
pub edges_of : (ρs : List Rule) (e : Edge) → (e ∈ edges ρs) ↔ ((ρ : Rule) × (ρ ∈ ρs) × (e ∈ rule_edges ρ))
edges_of [] e = (λ m. absurd (not-in-nil m), λ h. absurd (not-in-nil h.1))
edges_of (ρ ∷ ρs) e = (λ m. to (edges_of ρs e).0 (append_cases (rule_edges ρ) m), λ h. from (edges_of ρs e).1 h (cases_cons h.1))
  where
    Rest : List Rule → Type 0
    Rest l = (σ : Rule) × (σ ∈ l) × (e ∈ rule_edges σ)

    to : (e ∈ edges ρs → Rest ρs) → (e ∈ rule_edges ρ) ⊎ (e ∈ edges ρs) → Rest (ρ ∷ ρs)
    to f (inl m) = (ρ, here refl, m)
    to f (inr m) = let r = f m in (r.0, there r.1, r.2)

    from : (Rest ρs → e ∈ edges ρs) → (h : Rest (ρ ∷ ρs)) → (h.0 ≡ ρ) ⊎ (h.0 ∈ ρs) → e ∈ (edges (ρ ∷ ρs))
    from f h (inl q) = in_left (edges ρs) (subst (λ (σ : Rule). e ∈ rule_edges σ) q h.2)
    from f h (inr m) = in_right (rule_edges ρ) (f (h.0, m, h.2))

edges_as : (ρs : List Rule) (e : Edge) (P : Rule → Type 0) → ((ρ : Rule) → (e ∈ rule_edges ρ) ↔ P ρ) → (e ∈ edges ρs) ↔ ((ρ : Rule) × (ρ ∈ ρs) × P ρ)
edges_as ρs e P is = (
  λ m. let r = (edges_of ρs e).0 m in (r.0, r.1, (is r.0).0 r.2),
  λ h. (edges_of ρs e).1 (h.0, h.1, (is h.0).1 h.2),
)

pub plain_edges : (ρs : List Rule) (p q : ℕ) → (plain p q ∈ edges ρs) ↔ ((ρ : Rule) × (ρ ∈ ρs) × PlainEdge ρ p q)
plain_edges ρs p q = edges_as ρs (plain p q) (λ ρ. PlainEdge ρ p q) (λ ρ. rule_plain ρ p q)

pub special_edges : (ρs : List Rule) (p q : ℕ) → (special p q ∈ edges ρs) ↔ ((ρ : Rule) × (ρ ∈ ρs) × SpecialEdge ρ p q)
special_edges ρs p q = edges_as ρs (special p q) (λ ρ. SpecialEdge ρ p q) (λ ρ. rule_special ρ p q)
