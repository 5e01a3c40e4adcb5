-- `ranks::table::pack` meets its contract. Assumes nothing.
use mathlib.Core.Path.{ap, ◌∙◌}
use native.Mathlib.Omega.{arith}
use Prim.Native.Nat.{ℕ, ◌+◌}
use lib.ListN.{length}
use Rattle.ranks.proofs.Packing.{grown, packing_start, packing_head, packing_place, packing_spots, packing_sizes, packing_end}
use Rattle.ranks.proofs.table.pack.Goals as goal

pub loop-rule-init : goal.loop-rule-init
loop-rule-init c =
    let start = packing_start c.args.rules.now c.requires.0 c.args.all.now.items c.args.sizes.now.items c.requires.1 c.requires.2 in
    record { place = omega (arith, ap length c.requires.1); counted = ap length c.requires.2; in_spots = start.0; in_sizes = start.1 }

pub atoms_in-requires-in-loop-rule : goal.atoms_in-requires-in-loop-rule
atoms_in-requires-in-loop-rule c =
    let loop = c.loop-rule in
    packing_head c.args.rules.now c.requires.0 loop.rule-index c.loop-rule-test.true c.heads-h.result c.heads-h.ensures loop.all.items c.atoms_in.new.all.items c.atoms_in.ensures loop.invariant.place

pub overflow_sub-len : goal.overflow_sub-len
overflow_sub-len c =
    omega (arith, grown c.atoms_in.new.all.items c.atoms_in-in-loop-rule.new.all.items _ c.atoms_in-in-loop-rule.ensures, c.len.ensures.value, c.len-mid.ensures.value)

pub loop-rule-preserved : goal.loop-rule-preserved
loop-rule-preserved c =
    let loop = c.loop-rule in
    let rules = c.args.rules.now in
    let good = c.requires.0 in
    let i = loop.rule-index in
    let lt = c.loop-rule-test.true in
    let h = c.heads-h in
    let body = c.atoms_in in
    let head = c.atoms_in-in-loop-rule in
    record {
      place = packing_place rules good i lt h.result h.ensures loop.all.items body.new.all.items body.ensures head.new.all.items head.ensures loop.invariant.place;
      counted = c.push.ensures.len ∙ ap (λ (n : ℕ). n + 1) loop.invariant.counted;
      in_spots = packing_spots rules good i lt h.result h.ensures loop.all.items body.new.all.items body.ensures head.new.all.items head.ensures loop.invariant.in_spots;
      in_sizes =
          packing_sizes rules good i lt h.result h.ensures loop.all.items body.new.all.items body.ensures head.new.all.items head.ensures _ _ _ c.len-start.ensures.value c.len-mid.ensures.value c.len.ensures.value _ _
          c.push.ensures.items loop.invariant.in_sizes;
    }

pub returns : goal.returns
returns c =
    let loop = c.loop-rule in
    let all = packing_end c.args.rules.now c.requires.0 _ _ loop.rule-index c.loop-rule-test.false loop.invariant.in_spots loop.invariant.in_sizes in
    record { spots = all.0; sizes = all.1 }
