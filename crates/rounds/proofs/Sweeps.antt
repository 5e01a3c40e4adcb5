-- What a sweep over packed rules keeps, and its loop, turn by turn. Assumes nothing.
use mathlib.Core.Path.{◌≡◌, refl, sym, ap, ap₂, ◌∙◌, subst}
use mathlib.Core.Logic.{⊎_elim}
use mathlib.Core.Bool.{Bool, false, ◌||◌}
use mathlib.Core.List.Memᴰ.{append_cases}
use mathlib.Core.List.Memᴰ.{append_left as in_left}
use mathlib.Core.List.Memᴰ.{append_right as in_right}
use mathlib.Core.List.Memᴰ.{cases_cons}
use mathlib.Core.List.Memᴰ.{head as here}
use mathlib.Core.List.Memᴰ.{not-nil as not-in-nil}
use mathlib.Core.List.Memᴰ.{of_map as from-map}
use mathlib.Core.List.Memᴰ.{tail as there}
use mathlib.Core.List.{List, [], ◌∷◌}
use Prim.Native.Nat.{ℕ, ◌+◌, ◌≤◌, ◌<◌}
use native.Mathlib.Nat.{le_refl}
use native.Mathlib.Omega.{arith}
use lib.Dec.{ltb}
use lib.ListN.{length, get_or, drop, take, length-drop, drop_of_length-le}
use lib.Seq.{drop-cons}
use native.Mathlib.Numerals.{add-one}
use Rattle.std.specs.List.{sum_by}
use Rattle.std.proofs.lemmas.List.{take-map, drop-map}
use Rattle.std.proofs.lemmas.List.Sums.{sum_by-cons}
use Rattle.laws.proofs.Members.{in_take, in_drop}
use Rattle.model.specs.Order.{◌∈◌}
use Rattle.model.specs.Graph.{Edge}
use Rattle.model.specs.Edges.{Spot, fans}
use Rattle.model.specs.Ranks.{value, sum}
use Rattle.model.proofs.Raise.{Below, below_refl, below_trans, below_antisym, below_sum, kept, flag_join}
use Rattle.model.proofs.RankLaws.{Sound, Capped, Closed}
use Rattle.rounds.specs.declared.packed.Spot as packed
use Rattle.rounds.specs.declared.packed.Size.{Size}
use Rattle.rounds.specs.declared.packed.Packed.{Packed}
use Rattle.rounds.specs.Table.{spot_of, spots_in, Pair, table, pairs, graph}
use Rattle.rounds.specs.Offers.{rule_round}
use Rattle.rounds.specs.Sweep.{sweep, Board}
use Rattle.rounds.proofs.Rounds.{round_below, round_length, round_sound, round_capped, round_closed}

-- variables below 16 at positions below 512
abbrev pub Near : List Spot → Type 0
Near ss = (s : Spot) → s ∈ ss → (s.name < 16) × (s.at < 512)

abbrev pub Placed : List Pair → Type 0
Placed ps = (p : Pair) → p ∈ ps → Near p.body × Near p.head

pub spots_near : (ss : List packed.Spot) → Near (spots_in ss)
spots_near ss s m =
    let h = from-map spot_of ss m in
    subst (λ (t : Spot). (t.name < 16) × (t.at < 512)) h.2 (h.0.named, h.0.placed)

table_placed : (zs : List Size) (ss : List Spot) → Near ss → Placed (table zs ss)
unfolding table
table_placed [] ss near p m = absurd (not-in-nil m)
table_placed (z ∷ zs) ss near p m =
    ⊎_elim
    (λ e. subst (λ (q : Pair). Near q.body × Near q.head) (sym e) (λ s i. near s (in_take z.body ss i), λ s i. near s (in_drop z.body ss (in_take z.head (drop z.body ss) i))))
    (λ i. table_placed zs (drop z.head (drop z.body ss)) (λ s j. near s (in_drop z.body ss (in_drop z.head (drop z.body ss) j))) p i)
    (cases_cons m)

pub pairs_placed : (rules : Packed) → Placed (pairs rules)
pairs_placed rules = table_placed rules.sizes.now (spots_in rules.spots.now) (spots_near rules.spots.now)

-- what a sweep keeps

pub sweep_below : (c : ℕ) (ps : List Pair) (r : List ℕ) → Below r (sweep c r ps)
sweep_below c [] r = below_refl r
sweep_below c (p ∷ ps) r = below_trans (round_below c r p.body p.head) (sweep_below c ps (rule_round c r p.body p.head))

pub sweep_length : (c : ℕ) (ps : List Pair) (r : List ℕ) → length (sweep c r ps) ≡ length r
sweep_length c [] r = refl
sweep_length c (p ∷ ps) r = sweep_length c ps (rule_round c r p.body p.head) ∙ round_length c r p.body p.head

-- variables below 16, of a rule among those
module _ (p : Pair) (ps : List Pair) (placed : Placed (p ∷ ps)) where
  first_body : (s : Spot) → s ∈ p.body → s.name < 16
  first_body s i = ((placed p (here refl)).0 s i).0

  others : Placed ps
  others q i = placed q (there i)

pub sweep_capped : (c : ℕ) (ps : List Pair) (r : List ℕ) → Placed ps → Capped c r → Capped c (sweep c r ps)
sweep_capped c [] r w h = h
sweep_capped c (p ∷ ps) r w h =
    sweep_capped c ps (rule_round c r p.body p.head) (others p ps w) (round_capped c r p.body p.head (first_body p ps w) h)

pub sweep_sound : (g : List Edge) (c : ℕ) (ps : List Pair) (r : List ℕ) → Placed ps → ((e : Edge) → e ∈ graph ps → e ∈ g) → Sound g r → Sound g (sweep c r ps)
sweep_sound g c [] r w sub s = s
sweep_sound g c (p ∷ ps) r w sub s =
    sweep_sound g c ps (rule_round c r p.body p.head) (others p ps w) (λ e i. sub e (in_right (fans p.body p.body p.head) i))
    (round_sound c r p.body p.head (first_body p ps w) g (λ e i. sub e (in_left (graph ps) i)) s)

-- a sweep that raises nothing leaves each edge with what it asks
pub sweep_closed : (c : ℕ) (ps : List Pair) (r : List ℕ) → length r ≡ 512 → Placed ps → Below (sweep c r ps) r → Closed c (graph ps) r
sweep_closed c [] r l w b e m = absurd (not-in-nil m)
sweep_closed c (p ∷ ps) r l w b e m =
    let up = round_below c r p.body p.head in
    let down = below_trans (sweep_below c ps (rule_round c r p.body p.head)) b in
    let same : rule_round c r p.body p.head ≡ r = below_antisym down up in
    let b' : Below (sweep c r ps) r = subst (λ (q : List ℕ). Below (sweep c q ps) r) same b in
    ⊎_elim (λ i. round_closed c r p.body p.head (first_body p ps w) (λ t j. let k = ((w p (here refl)).1 t j).1 in omega arith) down e i)
    (λ i. sweep_closed c ps r l (others p ps w) b' e i)
    (append_cases (fans p.body p.body p.head) m)

-- the loop over the rules

-- how many spots the rules of these sizes have
abbrev pub spots_of : List Size → ℕ
spots_of zs = sum_by (λ (z : Size). z.body + z.head) zs

-- what is left to sweep, onto what there is, makes the whole
pub record Sweeping (c : ℕ) (r₀ : List ℕ) (all : List Pair) (left : List Size) (rest : List packed.Spot) (r : List ℕ) (changed : Bool) : Type 0 where
  pub enough : spots_of left ≤ length rest
  pub long : length r ≡ 512
  pub capped : (v : ℕ) → value r v ≤ c
  pub same : sweep c r (table left (spots_in rest)) ≡ sweep c r₀ all
  pub flag : changed ≡ ltb (sum r₀) (sum r)
  pub up : sum r₀ ≤ sum r

pub sweeping_start : (c : ℕ) (r : List ℕ) (rules : Packed) → length r ≡ 512 → Board c r → Sweeping c r (pairs rules) rules.sizes.now rules.spots.now r false
sweeping_start c r rules l b = record { enough = rules.enough; long = l; capped = b.capped; same = refl; flag = kept (sum r); up = le_refl (sum r) }

-- the first rule that is left
table_first : (z : Size) (zs : List Size) (ss : List packed.Spot)
    → table (z ∷ zs) (spots_in ss) ≡ record { body = spots_in (take z.body ss); head = spots_in (take z.head (drop z.body ss)) } ∷ table zs (spots_in (drop z.head (drop z.body ss)))
unfolding table
table_first z zs ss =
    ap₂ (λ (x y : List Spot). record { body = x; head = take z.head y } ∷ table zs (drop z.head y)) (take-map spot_of z.body ss) (drop-map spot_of z.body ss)
    ∙ ap₂ (λ (x y : List Spot). record { body = spots_in (take z.body ss); head = x } ∷ table zs y) (take-map spot_of z.head (drop z.body ss)) (drop-map spot_of z.head (drop z.body ss))

module _ (c : ℕ) (r₀ : List ℕ) (all : List Pair) (rest : List packed.Spot) (r : List ℕ) (changed : Bool) where
  -- the sizes that are left begin with those of the next rule
  sweeping_next : (zs : List Size) (i : ℕ) → i < length zs → Sweeping c r₀ all (drop i zs) rest r changed → (z : Size) → Sweeping c r₀ all (get_or zs i z ∷ drop (i + 1) zs) rest r changed
  sweeping_next zs i lt w z =
      subst (λ (l : List Size). Sweeping c r₀ all l rest r changed) (drop-cons zs i z lt ∙ ap (λ (k : ℕ). get_or zs i z ∷ drop k zs) (sym (add-one i))) w

  -- what the next rule asks
  pub sweeping_room : (zs : List Size) (i : ℕ) → i < length zs → Sweeping c r₀ all (drop i zs) rest r changed → (z : Size)
      → ((get_or zs i z).body ≤ length rest) × ((get_or zs i z).head + (get_or zs i z).body ≤ length rest)
  sweeping_room zs i lt w z =
      let n = (sweeping_next zs i lt w z).enough in
      let k = sum_by-cons (λ (y : Size). y.body + y.head) (get_or zs i z) (drop (i + 1) zs) in
      (omega arith, omega arith)

  pub sweeping_ready : (left : List Size) → Sweeping c r₀ all left rest r changed → c ≤ 512 → (p : ℕ) → value r p ≤ 512
  sweeping_ready left w h p = let k = w.capped p in omega arith

  -- the next rule's round
  pub sweeping_step : (zs : List Size) (i : ℕ) → i < length zs → Sweeping c r₀ all (drop i zs) rest r changed → (z : Size) (body head on : List packed.Spot)
      → body ≡ take (get_or zs i z).body rest → head ≡ take (get_or zs i z).head (drop (get_or zs i z).body rest) → on ≡ drop (get_or zs i z).head (drop (get_or zs i z).body rest)
      → (m : List ℕ) (up : Bool) → m ≡ rule_round c r (spots_in body) (spots_in head) → up ≡ ltb (sum r) (sum m) → Sweeping c r₀ all (drop (i + 1) zs) on m (changed || up)
  sweeping_step zs i lt w z body head on eb eh eo m up e f =
      let first = get_or zs i z in
      let others = drop (i + 1) zs in
      let next = sweeping_next zs i lt w z in
      let b = below_sum (round_below c r (spots_in body) (spots_in head)) in
      let s = ap sum e in
      let u = w.up in
      let n = next.enough in
      let k = sum_by-cons (λ (y : Size). y.body + y.head) first others in
      let long = ap length eo in
      record {
        enough = omega (arith, length-drop first.head (drop first.body rest), length-drop first.body rest);
        long = ap length e ∙ round_length c r (spots_in body) (spots_in head) ∙ w.long;
        capped = λ v. subst (λ (l : List ℕ). value l v ≤ c) (sym e) (round_capped c r (spots_in body) (spots_in head) (λ t j. (spots_near body t j).0) w.capped v);
        same =
            ap₂ (λ (l : List ℕ) (ss : List packed.Spot). sweep c l (table others (spots_in ss))) (e ∙ ap₂ (λ (x y : List packed.Spot). rule_round c r (spots_in x) (spots_in y)) eb eh) eo
            ∙ ap (sweep c r) (sym (table_first first others rest))
            ∙ next.same;
        flag = ap₂ ◌||◌ w.flag f ∙ flag_join (sum r₀) (sum r) (sum m) u (omega arith);
        up = omega arith;
      }

  pub sweeping_end : (zs : List Size) (i : ℕ) → length zs ≤ i → Sweeping c r₀ all (drop i zs) rest r changed → r ≡ sweep c r₀ all
  unfolding table
  sweeping_end zs i h w = ap (λ (l : List Size). sweep c r (table l (spots_in rest))) (sym (drop_of_length-le zs h)) ∙ w.same
