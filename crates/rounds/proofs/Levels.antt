-- Sweeps until nothing changes, and larger and larger numbers for 'no largest', turn by turn. Assumes nothing.
use mathlib.Core.Path.{◌≡◌, sym, ap, ◌∙◌, subst}
use mathlib.Core.Bool.{Bool, true, false}
use mathlib.Core.List.{List}
use Prim.Native.Nat.{ℕ, ◌-◌, ◌*◌, ◌≤◌, ◌<◌}
use native.Mathlib.Omega.{arith}
use lib.Dec.{ltb}
use lib.ListN.{length, replicate}
use borrow.Author.Tests.{ltb-true, ltb-false}
use Rattle.laws.proofs.Zeros.{zeros_at}
use Rattle.model.specs.Graph.{Edge, stay}
use Rattle.model.specs.Ranks.{value, sum}
use Rattle.model.proofs.Raise.{Below, below_refl, below_same, below_antisym, sum_bound}
use Rattle.rounds.specs.Table.{Pair, graph}
use Rattle.rounds.specs.Sweep.{sweep, Board, Sound, Settled}
use Rattle.rounds.proofs.Sweeps.{Placed, sweep_below, sweep_length, sweep_capped, sweep_sound, sweep_closed}

pub zeros_board : (r : List ℕ) → r ≡ replicate 512 0 → Board 0 r
zeros_board r e =
    subst (Board 0) (sym e) (record { cap = omega arith; capped = λ v. let z = zeros_at 512 v in omega arith })

-- sweeps until nothing changes

pub record Settling (ps : List Pair) (c : ℕ) (r : List ℕ) : Type 0 where
  pub long : length r ≡ 512
  pub board : Board c r
  pub sound : Sound (graph ps) r

pub settling_start : (ps : List Pair) (c : ℕ) (r : List ℕ) → length r ≡ 512 → Board c r → Sound (graph ps) r → Settling ps c r
settling_start ps c r l b s = record { long = l; board = b; sound = s }

-- how much the ranks can still grow
abbrev pub left : List ℕ → ℕ
left r = 262144 - sum r

module _ (ps : List Pair) (placed : Placed ps) (c : ℕ) (r : List ℕ) (w : Settling ps c r) (m : List ℕ) (b : Bool) (e : m ≡ sweep c r ps) (f : b ≡ ltb (sum r) (sum m)) where
  up : Below r m
  up = subst (Below r) (sym e) (sweep_below c ps r)

  pub settling_step : Settling ps c m
  settling_step = record {
    long = ap length e ∙ sweep_length c ps r ∙ w.long;
    board = record {
      cap = w.board.cap;
      capped = λ v. subst (λ (l : List ℕ). value l v ≤ c) (sym e) (sweep_capped c ps r placed w.board.capped v);
    };
    sound = subst (Sound (graph ps)) (sym e) (sweep_sound (graph ps) c ps r placed (λ x i. i) w.sound);
  }

  pub settling_less : b ≡ true → left m < left r
  settling_less t =
      let q = settling_step.board in
      let a = q.cap in
      let k = sum_bound m 512 (λ v. let x = q.capped v in omega arith) in
      let l = ap (λ (n : ℕ). n * 512) settling_step.long in
      let grows = ltb-true (sum r) (sum m) (sym f ∙ t) in
      omega arith

  pub settling_end : b ≡ false → Settled (graph ps) c m
  settling_end z =
      let same : r ≡ m = below_antisym up (below_same up (ltb-false (sum r) (sum m) (sym f ∙ z))) in
      let done : Below (sweep c r ps) r = subst (λ (l : List ℕ). Below l r) e (subst (λ (l : List ℕ). Below l r) same (below_refl r)) in
      subst (Settled (graph ps) c) same (record { cap = w.board.cap; sound = w.sound; closed = sweep_closed c ps r w.long placed done; capped = w.board.capped; long = w.long })

-- larger and larger numbers

pub record Leveling (g : List Edge) (c : ℕ) (r : List ℕ) : Type 0 where
  pub board : Board c r
  pub sound : Sound g r
  pub goes : c < 512

pub leveling_start : (g : List Edge) (r : List ℕ) → Board 0 r → Leveling g 0 r
leveling_start g r b = record { board = b; sound = λ v. (v, 0, stay, b.capped v); goes = omega arith }

pub leveling_board : (g : List Edge) (c d : ℕ) (r : List ℕ) → Leveling g c r → c < d → d ≤ 512 → Board d r
leveling_board g c d r w up h = record { cap = h; capped = λ v. let k = w.board.capped v in omega arith }

pub leveling_step : (g : List Edge) (c : ℕ) (r : List ℕ) → Settled g c r → c < 512 → Leveling g c r
leveling_step g c r s h = record { board = record { cap = s.cap; capped = s.capped }; sound = s.sound; goes = h }
