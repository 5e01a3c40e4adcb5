-- The loops of a round, turn by turn: what is left, applied to what there is, makes the whole. Assumes nothing.
use mathlib.Core.Path.{◌≡◌, refl, sym, ap, ap₂, ◌∙◌}
use mathlib.Core.Bool.{Bool, false, ◌||◌}
use mathlib.Core.List.{List, [], ◌∷◌}
use Prim.Native.Nat.{ℕ, ◌+◌, ◌≤◌, ◌<◌, min, max}
use native.Mathlib.Nat.{le_refl}
use native.Mathlib.Numerals.{add-one}
use native.Mathlib.Omega.{arith}
use lib.Dec.{ltb}
use lib.ListN.{length, get_or, drop, replicate, drop_of_length-le}
use Rattle.std.specs.Prelude.{Option, None}
use lib.Seq.{drop-cons}
use Rattle.model.specs.Edges as paper
use Rattle.model.specs.Ranks.{raise, sum}
use Rattle.model.proofs.Raise.{kept, flag_join, length_raise, raise_below, below_sum}
use Rattle.rounds.specs.declared.packed.Spot.{Spot}
use Rattle.rounds.specs.Table.{spot_of, spots_in}
use Rattle.rounds.specs.Offers.{lift, after, top, given, pour, rule_round}

-- the spot of a turn, and what is left
pub spots_left : (ss : List Spot) (i : ℕ) (s : Spot) → i < length ss → spots_in (drop i ss) ≡ spot_of (get_or ss i s) ∷ spots_in (drop (i + 1) ss)
spots_left ss i s h = ap spots_in (drop-cons ss i s h) ∙ ap (λ (k : ℕ). spot_of (get_or ss i s) ∷ spots_in (drop k ss)) (sym (add-one i))

-- a walk over the spots that is through has what it stands for
pub spot_end : {A : Type 0} (f : A → List paper.Spot → A) → ((l : A) → f l [] ≡ l) → (ss : List Spot) (i : ℕ) (l all : A) → f l (spots_in (drop i ss)) ≡ all → length ss ≤ i → l ≡ all
spot_end f none ss i l all inv h = sym (ap (λ (x : List Spot). f l (spots_in x)) (drop_of_length-le ss h) ∙ none l) ∙ inv

pub record Pouring (offer_of : paper.Spot → ℕ) (r₀ : List ℕ) (all : List paper.Spot) (r : List ℕ) (changed : Bool) (left : List paper.Spot) : Type 0 where
  pub long : length r ≡ 512
  pub rest : pour offer_of r left ≡ pour offer_of r₀ all
  pub flag : changed ≡ ltb (sum r₀) (sum r)
  pub up : sum r₀ ≤ sum r

pub pouring_start : (offer_of : paper.Spot → ℕ) (r : List ℕ) (all : List paper.Spot) → length r ≡ 512 → Pouring offer_of r all r false all
pouring_start offer_of r all h = record { long = h; rest = refl; flag = kept (sum r); up = le_refl (sum r) }

pub pouring_step : (offer_of : paper.Spot → ℕ) (r₀ : List ℕ) (all : List paper.Spot) (r : List ℕ) (changed : Bool) (left rest : List paper.Spot) (s : paper.Spot) → Pouring offer_of r₀ all r changed left
    → left ≡ s ∷ rest → (m : List ℕ) (up : Bool) → m ≡ raise r s.at (offer_of s) → up ≡ ltb (sum r) (sum m) → Pouring offer_of r₀ all m (changed || up) rest
pouring_step offer_of r₀ all r changed left rest s inv q m up e f =
    let k = below_sum (raise_below r s.at (offer_of s)) in
    let sums = ap sum e in
    let u = inv.up in
    record {
      long = ap length e ∙ length_raise r s.at (offer_of s) ∙ inv.long;
      rest = ap (λ (l : List ℕ). pour offer_of l rest) e ∙ ap (pour offer_of r) (sym q) ∙ inv.rest;
      flag = ap₂ ◌||◌ inv.flag f ∙ flag_join (sum r₀) (sum r) (sum m) u (omega arith);
      up = omega arith;
    }

pub pouring_end : (offer_of : paper.Spot → ℕ) (r₀ : List ℕ) (all : List paper.Spot) (r : List ℕ) (changed : Bool) (ss : List Spot) (i : ℕ)
    → Pouring offer_of r₀ all r changed (spots_in (drop i ss)) → length ss ≤ i → r ≡ pour offer_of r₀ all
pouring_end offer_of r₀ all r changed ss i inv h = spot_end (pour offer_of) (λ l. refl) ss i r (pour offer_of r₀ all) inv.rest h

-- the largest so far, and of what is left
pub top_turn : (b : List (Option ℕ)) (ss : List Spot) (i t n all : ℕ) (d : Spot) → i < length ss → n ≡ max t (after (get_or b (get_or ss i d).var None))
    → max t (top b (spots_in (drop i ss))) ≡ all → max n (top b (spots_in (drop (i + 1) ss))) ≡ all
top_turn b ss i t n all d h k inv =
    let q : top b (spots_in (drop i ss)) ≡ max (after (get_or b (get_or ss i d).var None)) (top b (spots_in (drop (i + 1) ss))) = ap (top b) (spots_left ss i d h) in
    omega arith

pub top_end : (b : List (Option ℕ)) (ss : List Spot) (i t : ℕ) → length ss ≤ i → max t (top b (spots_in (drop i ss))) ≡ t
top_end b ss i t h = let e : top b (spots_in (drop i ss)) ≡ 0 = ap (λ (x : List Spot). top b (spots_in x)) (drop_of_length-le ss h) in omega arith

-- the parts of a round, put together
pub assembled : (c : ℕ) (r : List ℕ) (body head : List paper.Spot) (b : List (Option ℕ)) (t m : ℕ) (out : List ℕ) → b ≡ lift (replicate 16 None) r body → t ≡ top b head
    → m ≡ min t c → out ≡ pour (given b m) r head → out ≡ rule_round c r body head
unfolding rule_round
assembled c r body head b t m out eb et em e =
    e ∙ ap₂ (λ (x : List (Option ℕ)) (y : ℕ). pour (given x y) r head) eb (em ∙ ap (λ (x : ℕ). min x c) (et ∙ ap (λ (x : List (Option ℕ)). top x head) eb))
