-- A round of a rule as the code does it keeps what is known of the ranks, and one that raises nothing leaves each edge of the rule satisfied. Assumes nothing.
use mathlib.Core.Path.{◌≡◌, refl, sym, ap, ◌∙◌, subst}
use mathlib.Core.Logic.{◌⊎◌, inl, inr, ⊎_elim}
use mathlib.Core.Bool.{Bool, true, false}
use mathlib.Core.List.Memᴰ.{cases_cons}
use mathlib.Core.List.Memᴰ.{head as here}
use mathlib.Core.List.Memᴰ.{not-nil as not-in-nil}
use mathlib.Core.List.Memᴰ.{tail as there}
use mathlib.Core.List.{List, [], ◌∷◌}
use Prim.Native.Nat.{ℕ, zero, suc, ◌≤◌, ◌<◌, min, max}
use native.Mathlib.Nat.{le_trans}
use native.Mathlib.Omega.{arith}
use Rattle.std.specs.Prelude.{Option, Some, None, IfSome, unwrap_or}
use lib.ListN.{length, replicate, get_or, set, length-set}
use Rattle.std.proofs.Common.{get_or-set_same}
use Rattle.model.specs.Order.{◌∈◌}
use Rattle.model.specs.Graph.{Edge, plain, special, target, stay, along, across, Reaches}
use Rattle.model.specs.Edges.{Spot, occurs, fans}
use Rattle.model.specs.Ranks.{value, raise, offer}
use Rattle.model.proofs.Raise.{max_is, raise_cases, raise_at, length_raise, Below, below_refl, below_trans, below_value, raise_below}
use Rattle.model.proofs.RankLaws.{Sound, Capped, Closed}
use Rattle.model.proofs.EdgeLaws.{spot, occurs_somewhere, somewhere_occurs, FansEdge, fans_edge, edge_fans}
use Rattle.rounds.specs.Offers.{at_least, lift, after, top, pour, offers, rule_round}

-- pour
module _ (offer_of : Spot → ℕ) where
  pour_cases : (r : List ℕ) (ss : List Spot) (v : ℕ)
      → (value (pour offer_of r ss) v ≡ value r v) ⊎ ((s : Spot) × (s ∈ ss) × (s.at ≡ v) × (value (pour offer_of r ss) v ≡ offer_of s))
  pour_cases r [] v = inl refl
  pour_cases r (s ∷ ss) v = go (pour_cases r' ss v) (raise_cases r s.at (offer_of s) v)
    where
      r' : List ℕ
      r' = raise r s.at (offer_of s)

      go : (value (pour offer_of r' ss) v ≡ value r' v) ⊎ ((t : Spot) × (t ∈ ss) × (t.at ≡ v) × (value (pour offer_of r' ss) v ≡ offer_of t))
          → (value r' v ≡ value r v) ⊎ ((v ≡ s.at) × (value r' v ≡ offer_of s))
          → (value (pour offer_of r' ss) v ≡ value r v) ⊎ ((t : Spot) × (t ∈ (s ∷ ss)) × (t.at ≡ v) × (value (pour offer_of r' ss) v ≡ offer_of t))
      go (inl e) (inl k) = inl (e ∙ k)
      go (inl e) (inr k) = inr (s, here refl, sym k.0, e ∙ k.1)
      go (inr h) k = inr (h.0, there h.1, h.2, h.3)

  pour_below : (r : List ℕ) (ss : List Spot) → Below r (pour offer_of r ss)
  pour_below r [] = below_refl r
  pour_below r (s ∷ ss) = below_trans (raise_below r s.at (offer_of s)) (pour_below (raise r s.at (offer_of s)) ss)

  pour_length : (r : List ℕ) (ss : List Spot) → length (pour offer_of r ss) ≡ length r
  pour_length r [] = refl
  pour_length r (s ∷ ss) = pour_length (raise r s.at (offer_of s)) ss ∙ length_raise r s.at (offer_of s)

  pour_at : (r : List ℕ) (ss : List Spot) (t : Spot) → t ∈ ss → t.at < length r → offer_of t ≤ value (pour offer_of r ss) t.at
  pour_at r [] t m h = absurd (not-in-nil m)
  pour_at r (s ∷ ss) t m h = go (λ m'. pour_at r' ss t m' (let e = length_raise r s.at (offer_of s) in omega arith)) (cases_cons m)
    where
      r' : List ℕ
      r' = raise r s.at (offer_of s)

      first : s.at < length r → offer_of s ≤ value (pour offer_of r' ss) s.at
      first h' = le_trans (raise_at r s.at (offer_of s) h') (below_value (pour_below r' ss) s.at)

      go : (t ∈ ss → offer_of t ≤ value (pour offer_of r' ss) t.at) → (t ≡ s) ⊎ (t ∈ ss) → offer_of t ≤ value (pour offer_of r' ss) t.at
      go f (inl e) =
          subst (λ (u : Spot). offer_of u ≤ value (pour offer_of r' ss) u.at) (sym e)
          (first (subst (λ (u : Spot). u.at < length r) e h))
      go f (inr m') = f m'

-- lift

abbrev known : List (Option ℕ) → ℕ → Option ℕ
known b x = get_or b x None

-- at least w is known
abbrev AtLeast : Option ℕ → ℕ → Type 0
AtLeast o w = (k : ℕ) × (o ≡ Some k) × (w ≤ k)

set_cases : (b : List (Option ℕ)) (n : ℕ) (o : Option ℕ) (x : ℕ) → (known (set b n o) x ≡ known b x) ⊎ ((x ≡ n) × (known (set b n o) x ≡ o))
set_cases [] n o x = inl refl
set_cases (y ∷ b) zero o zero = inr (refl, refl)
set_cases (y ∷ b) zero o (suc x) = inl refl
set_cases (y ∷ b) (suc n) o zero = inl refl
set_cases (y ∷ b) (suc n) o (suc x) = ⊎_elim (λ e. inl e) (λ e. inr (ap suc e.0, e.1)) (set_cases b n o x)

at_least_is : (o : Option ℕ) (w : ℕ) → (at_least o w ≡ o) ⊎ (at_least o w ≡ Some w)
at_least_is None w = inr refl
at_least_is (Some y) w = ⊎_elim (λ e. inl (ap (λ (n : ℕ). Some n) e)) (λ e. inr (ap (λ (n : ℕ). Some n) e)) (max_is y w)

at_least_new : (o : Option ℕ) (w : ℕ) → AtLeast (at_least o w) w
at_least_new None w = (w, refl, omega arith)
at_least_new (Some y) w = (max y w, refl, omega arith)

at_least_old : (o : Option ℕ) (w v : ℕ) → AtLeast o v → AtLeast (at_least o w) v
at_least_old None w v h = absurd (let e = h.1 in cc)
at_least_old (Some y) w v h = let e : y ≡ h.0 = let q = h.1 in cc in let l = h.2 in (max y w, refl, omega arith)

module _ (r : List ℕ) where
  lift_cases : (b : List (Option ℕ)) (ss : List Spot) (x : ℕ)
      → (known (lift b r ss) x ≡ known b x) ⊎ ((s : Spot) × (s ∈ ss) × (s.name ≡ x) × (known (lift b r ss) x ≡ Some (value r s.at)))
  lift_cases b [] x = inl refl
  lift_cases b (s ∷ ss) x = go (lift_cases b' ss x) (set_cases b s.name (at_least (known b s.name) (value r s.at)) x)
    where
      b' : List (Option ℕ)
      b' = set b s.name (at_least (known b s.name) (value r s.at))

      go : (known (lift b' r ss) x ≡ known b' x) ⊎ ((t : Spot) × (t ∈ ss) × (t.name ≡ x) × (known (lift b' r ss) x ≡ Some (value r t.at)))
          → (known b' x ≡ known b x) ⊎ ((x ≡ s.name) × (known b' x ≡ at_least (known b s.name) (value r s.at)))
          → (known (lift b' r ss) x ≡ known b x) ⊎ ((t : Spot) × (t ∈ (s ∷ ss)) × (t.name ≡ x) × (known (lift b' r ss) x ≡ Some (value r t.at)))
      go (inl e) (inl k) = inl (e ∙ k)
      go (inl e) (inr k) =
          ⊎_elim (λ o. inl (e ∙ k.1 ∙ o ∙ ap (known b) (sym k.0))) (λ o. inr (s, here refl, sym k.0, e ∙ k.1 ∙ o)) (at_least_is (known b s.name) (value r s.at))
      go (inr h) k = inr (h.0, there h.1, h.2, h.3)

  pub lift_length : (b : List (Option ℕ)) (ss : List Spot) → length (lift b r ss) ≡ length b
  lift_length b [] = refl
  lift_length b (s ∷ ss) = lift_length (set b s.name (at_least (known b s.name) (value r s.at))) ss ∙ length-set b s.name (at_least (known b s.name) (value r s.at))

  lift_keeps : (b : List (Option ℕ)) (ss : List Spot) (x w : ℕ) → AtLeast (known b x) w → AtLeast (known (lift b r ss) x) w
  lift_keeps b [] x w h = h
  lift_keeps b (s ∷ ss) x w h =
      let b' : List (Option ℕ) = set b s.name (at_least (known b s.name) (value r s.at)) in
      lift_keeps b' ss x w
      (⊎_elim (λ e. subst (λ (o : Option ℕ). AtLeast o w) (sym e) h)
      (λ e. subst (λ (o : Option ℕ). AtLeast o w) (sym e.1) (at_least_old (known b s.name) (value r s.at) w (subst (λ (n : ℕ). AtLeast (known b n) w) e.0 h)))
      (set_cases b s.name (at_least (known b s.name) (value r s.at)) x))

  lift_at : (b : List (Option ℕ)) (ss : List Spot) (t : Spot) → t ∈ ss → t.name < length b → AtLeast (known (lift b r ss) t.name) (value r t.at)
  lift_at b [] t m h = absurd (not-in-nil m)
  lift_at b (s ∷ ss) t m h = go (λ m'. lift_at b' ss t m' (let e = length-set b s.name o in omega arith)) (cases_cons m)
    where
      o : Option ℕ
      o = at_least (known b s.name) (value r s.at)

      b' : List (Option ℕ)
      b' = set b s.name o

      first : s.name < length b → AtLeast (known (lift b' r ss) s.name) (value r s.at)
      first l =
          lift_keeps b' ss s.name (value r s.at)
          (subst (λ (p : Option ℕ). AtLeast p (value r s.at)) (sym (get_or-set_same b s.name o None l)) (at_least_new (known b s.name) (value r s.at)))

      go : (t ∈ ss → AtLeast (known (lift b' r ss) t.name) (value r t.at)) → (t ≡ s) ⊎ (t ∈ ss) → AtLeast (known (lift b' r ss) t.name) (value r t.at)
      go f (inl e) =
          subst (λ (u : Spot). AtLeast (known (lift b' r ss) u.name) (value r u.at)) (sym e)
          (first (subst (λ (u : Spot). u.name < length b) e h))
      go f (inr m') = f m'

none_at : (n x : ℕ) → known (replicate n None) x ≡ None
none_at zero x = refl
none_at (suc n) zero = refl
none_at (suc n) (suc x) = none_at n x

-- top

after_is : (o : Option ℕ) → (after o ≡ 0) ⊎ ((k : ℕ) × (o ≡ Some k) × (after o ≡ suc k))
after_is None = inl refl
after_is (Some k) = inr (k, refl, refl)

top_is : (b : List (Option ℕ)) (ss : List Spot) → (top b ss ≡ 0) ⊎ ((s : Spot) × (s ∈ ss) × (k : ℕ) × (known b s.name ≡ Some k) × (top b ss ≡ suc k))
top_is b [] = inl refl
top_is b (s ∷ ss) =
    ⊎_elim (λ e. ⊎_elim (λ z. inl (e ∙ z)) (λ p. inr (s, here refl, p.0, p.1, e ∙ p.2)) (after_is (known b s.name)))
    (λ e. ⊎_elim (λ z. inl (e ∙ z)) (λ p. inr (p.0, there p.1, p.2, p.3, e ∙ p.4)) (top_is b ss))
    (max_is (after (known b s.name)) (top b ss))

top_at : (b : List (Option ℕ)) (ss : List Spot) (s : Spot) (k : ℕ) → s ∈ ss → known b s.name ≡ Some k → suc k ≤ top b ss
top_at b [] s k m e = absurd (not-in-nil m)
top_at b (t ∷ ss) s k m e =
    ⊎_elim (λ q. let a : after (known b t.name) ≡ suc k = ap (λ (u : Spot). after (known b u.name)) (sym q) ∙ ap after e in omega arith)
    (λ i. let l = top_at b ss s k i e in omega arith) (cases_cons m)

-- a round only raises, and keeps the length
pub round_below : (c : ℕ) (r : List ℕ) (body head : List Spot) → Below r (rule_round c r body head)
unfolding rule_round
round_below c r body head = pour_below _ r head

pub round_length : (c : ℕ) (r : List ℕ) (body head : List Spot) → length (rule_round c r body head) ≡ length r
unfolding rule_round
round_length c r body head = pour_length _ r head

-- what the body gives is a rank
pub lift_small : (r : List ℕ) (body : List Spot) → ((v : ℕ) → value r v ≤ 512) → (x : ℕ) → IfSome (known (lift (replicate 16 None) r body) x) (λ v. v < 65535)
lift_small r body h x =
    ⊎_elim (λ z. subst (λ (o : Option ℕ). IfSome o (λ v. v < 65535)) (sym (z ∙ none_at 16 x)) tt)
    (λ p. subst (λ (o : Option ℕ). IfSome o (λ v. v < 65535)) (sym p.3) (let l = h p.0.at in omega arith))
    (lift_cases r (replicate 16 None) body x)

-- one rule

module _ (c : ℕ) (r : List ℕ) (body head : List Spot) (small : (s : Spot) → s ∈ body → s.name < 16) where
  best : List (Option ℕ)
  best = lift (replicate 16 None) r body

  -- what stands in `best`: nothing, or the rank at a place of the variable
  best_is : (x : ℕ) → (known best x ≡ None) ⊎ ((s : Spot) × (s ∈ body) × (s.name ≡ x) × (known best x ≡ Some (value r s.at)))
  unfolding best
  best_is x = ⊎_elim (λ e. inl (e ∙ none_at 16 x)) (λ h. inr h) (lift_cases r (replicate 16 None) body x)

  best_at : (s : Spot) → s ∈ body → AtLeast (known best s.name) (value r s.at)
  unfolding best
  best_at s m = lift_at r (replicate 16 None) body s m (small s m)

  offer_of : Spot → ℕ
  offer_of = offers c r body head

  offer_none : (s : Spot) → known best s.name ≡ None → offer_of s ≡ min (top best head) c
  unfolding offer_of best
  offer_none s e = ap (λ (o : Option ℕ). unwrap_or o (min (top best head) c)) e

  offer_some : (s : Spot) (v : ℕ) → known best s.name ≡ Some v → offer_of s ≡ v
  unfolding offer_of best
  offer_some s v e = ap (λ (o : Option ℕ). unwrap_or o (min (top best head) c)) e

  -- what stands after the round: what stood there, or an offer of the head
  round_is : (v : ℕ) → (value (pour offer_of r head) v ≡ value r v) ⊎ ((s : Spot) × (s ∈ head) × (s.at ≡ v) × (value (pour offer_of r head) v ≡ offer_of s))
  round_is v = pour_cases offer_of r head v

  not_there : (x : ℕ) → known best x ≡ None → occurs x body ≡ false
  not_there x e = go (occurs x body) refl
    where
      go : (b : Bool) → occurs x body ≡ b → b ≡ false
      go false h = refl
      go true h = let p = occurs_somewhere x body h in let l = best_at (spot x p.0) p.1 in absurd (let q = l.1 in cc)

  none_there : (x : ℕ) → occurs x body ≡ false → known best x ≡ None
  none_there x h =
      ⊎_elim (λ e. e)
      (λ p.
      let k = somewhere_occurs p.0.name p.0.at body p.1 in
      let k' : occurs x body ≡ true = subst (λ (n : ℕ). occurs n body ≡ true) p.2 k in
      let z : ◌≡◌ {A = ℕ} 0 1 = cc in
      absurd (omega arith))
      (best_is x)

  occurs_head : (x : ℕ) (s : Spot) → s ∈ head → s.name ≡ x → occurs x head ≡ true
  occurs_head x s m e = subst (λ (n : ℕ). occurs n head ≡ true) e (somewhere_occurs s.name s.at head m)

  module _ (g : List Edge) (sub : (e : Edge) → e ∈ fans body body head → e ∈ g) where
    -- each offer is reached
    offer_reaches : Sound g r → (t : Spot) → t ∈ head → Reaches g t.at (offer_of t)
    offer_reaches sound t m = ⊎_elim free bound (best_is t.name)
      where
        bound : (s : Spot) × (s ∈ body) × (s.name ≡ t.name) × (known best t.name ≡ Some (value r s.at)) → Reaches g t.at (offer_of t)
        bound p =
            let s = p.0 in
            let e = offer_some t (value r s.at) p.3 in
            let i = sub (plain s.at t.at) (edge_fans body body head (plain s.at t.at) (s, p.1, occurs_head s.name t m (sym p.2), (t, m, inl (p.2, refl)))) in
            let q = sound s.at in
            let l = q.3 in
            (q.0, q.1, along q.2 i, omega arith)

        free : known best t.name ≡ None → Reaches g t.at (offer_of t)
        free z = ⊎_elim none some (top_is best head)
          where
            e : offer_of t ≡ min (top best head) c
            e = offer_none t z

            none : top best head ≡ 0 → Reaches g t.at (offer_of t)
            none k = (t.at, 0, stay, omega (arith, e))

            some : (u : Spot) × (u ∈ head) × (k : ℕ) × (known best u.name ≡ Some k) × (top best head ≡ suc k) → Reaches g t.at (offer_of t)
            some p = ⊎_elim (λ n. absurd (let q = p.3 in cc)) far (best_is p.0.name)
              where
                far : (s : Spot) × (s ∈ body) × (s.name ≡ p.0.name) × (known best p.0.name ≡ Some (value r s.at)) → Reaches g t.at (offer_of t)
                far w =
                    let s = w.0 in
                    let i =
                    sub (special s.at t.at)
                    (edge_fans body body head (special s.at t.at)
                    (s, w.1, occurs_head s.name p.0 p.1 (sym w.2), (t, m, inr (not_there t.name z, refl)))) in
                    let q = sound s.at in
                    let l = q.3 in
                    let same : p.2 ≡ value r s.at = let a = p.3 in let b = w.3 in cc in
                    let k = p.4 in
                    (q.0, suc q.1, across q.2 i, omega (arith, e))

    pub round_sound : Sound g r → Sound g (rule_round c r body head)
    unfolding rule_round offer_of
    round_sound sound v =
        ⊎_elim (λ e. subst (Reaches g v) (sym e) (sound v))
        (λ p. subst (λ (w : ℕ). Reaches g w (value (pour offer_of r head) v)) p.2 (subst (Reaches g p.0.at) (sym p.3) (offer_reaches sound p.0 p.1)))
        (round_is v)

  pub round_capped : Capped c r → Capped c (rule_round c r body head)
  unfolding rule_round offer_of
  round_capped h v =
      ⊎_elim (λ e. let l = h v in omega arith)
      (λ p.
      let k = p.3 in
      ⊎_elim (λ z. let e = offer_none p.0 z in omega arith)
      (λ q. let e = offer_some p.0 (value r q.0.at) q.3 in let l = h q.0.at in omega arith)
      (best_is p.0.name))
      (round_is v)

  -- nothing rose: each edge has what it asks
  pub round_closed : ((t : Spot) → t ∈ head → t.at < length r) → Below (rule_round c r body head) r → Closed c (fans body body head) r
  unfolding rule_round offer_of
  round_closed inside still e m = go e (fans_edge body body head e m)
    where
      at : (t : Spot) → t ∈ head → offer_of t ≤ value r t.at
      at t i = le_trans (pour_at offer_of r head t i (inside t i)) (below_value still t.at)

      kind : (e : Edge) (s t : Spot) → s ∈ body → occurs s.name head ≡ true → t ∈ head
          → ((s.name ≡ t.name) × (e ≡ plain s.at t.at)) ⊎ ((occurs t.name body ≡ false) × (e ≡ special s.at t.at))
          → offer c r e ≤ value r (target e)
      kind e s t i o j (inl h) =
          subst (λ (x : Edge). offer c r x ≤ value r (target x)) (sym h.1)
          (let p = best_at s i in
          let q = offer_some t p.0 (ap (known best) (sym h.0) ∙ p.1) in
          let l = p.2 in
          let w = at t j in
          omega arith)
      kind e s t i o j (inr h) =
          subst (λ (x : Edge). offer c r x ≤ value r (target x)) (sym h.1)
          (let u = occurs_somewhere s.name head o in
          let p = best_at s i in
          let a = top_at best head (spot s.name u.0) p.0 u.1 p.1 in
          let l = p.2 in
          let q = offer_none t (none_there t.name h.0) in
          let w = at t j in
          omega arith)

      go : (e : Edge) → FansEdge body body head e → offer c r e ≤ value r (target e)
      go e h = kind e h.0 h.3.0 h.1 h.2 h.3.1 h.3.2
