-- `ranks::table::atom_in` meets its contract. Assumes nothing.
use mathlib.Core.Path.{◌≡◌}
use native.Mathlib.Omega.{arith}
use Prim.Native.Nat.{◌*◌, ◌+◌}
use lib.ListN.{get_or}
use Rattle.rules.specs.Rules.{term_of, no_term}
use Rattle.ranks.proofs.Packing.{grown, append_turn, append_end, term_few, atom_turn, atom_over, terms_few, term_good}
use Rattle.ranks.proofs.table.atom_in.Goals as goal

pub loop-p-init : goal.loop-p-init
loop-p-init c =
    let q : 8 * c.from-first.result + 0 ≡ 8 * c.from-first.result = omega arith in (
      omega arith,
      rw (q, c.from-first.ensures, c.terms_of-term-items.ensures),
    )

pub term_in-requires : goal.term_in-requires
term_in-requires c =
    let good = c.requires.1 in
    let few = terms_few c.args.rule.now good c.args.a c.requires.0 _ c.terms_of-term-items.ensures in
    let lt = c.loop-p-test.true in (
      omega (arith, c.loop-p.invariant.0, c.requires.2),
      term_good c.args.rule.now good c.args.a c.requires.0 _ c.terms_of-term-items.ensures c.loop-p.p lt,
      omega (arith, c.from-first.ensures, good.rels c.args.a c.requires.0),
    )

pub loop-p-preserved : goal.loop-p-preserved
loop-p-preserved c =
    let loop = c.loop-p in
    let ts = c.terms_of-term-items.result.now in
    let first = 8 * c.from-first.result in (
      omega (arith, grown loop.all.items c.term_in.new.all.items _ c.term_in.ensures, term_few (first + loop.p) (term_of (get_or ts loop.p no_term))),
      append_turn _ _ _ _ _ _ c.term_in.ensures (atom_turn ts loop.p first c.loop-p-test.true) loop.invariant.1,
    )

pub returns : goal.returns
returns c = append_end _ _ _ (atom_over _ c.loop-p.p _ c.loop-p-test.false) c.loop-p.invariant.1
