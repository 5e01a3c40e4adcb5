-- `rounds::round::relaxed` meets its contract. Assumes nothing.
use mathlib.Core.Path.{subst, sym}
use mathlib.Core.List.{List}
use Prim.Native.Nat.{ℕ, ◌<◌}
use lib.ListN.{get_or}
use Rattle.std.specs.Prelude.{IfSome, Option, None}
use Rattle.rounds.specs.Table.{spots_in}
use Rattle.rounds.proofs.Rounds.{lift_small}
use Rattle.rounds.proofs.Turns.{assembled}
use Rattle.rounds.proofs.round.relaxed.Goals as goal

pub tops-requires : goal.tops-requires
tops-requires c =
    λ x. subst (λ (b : List (Option ℕ)). IfSome (get_or b x None) (λ v. v < 65535)) (sym c.bests-best.ensures) (lift_small c.args.r.now (spots_in c.args.body.now) c.requires x)

pub returns : goal.returns
returns c =
    let best = c.bests-best in
    let tops = c.tops in
    let least = c.min-t in
    let poured = c.poured in
    (assembled c.args.cap c.args.r.now _ _ best.result tops.result least.result poured.new.r best.ensures tops.ensures least.ensures poured.ensures.0, poured.ensures.1)
