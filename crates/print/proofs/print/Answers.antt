-- `print::print` meets its contract. Assumes nothing.
use Rattle.text.proofs.Short.{refused_short}
use Rattle.model.specs.Answer.{listing_of}
use borrow.Author.Rules.{rules}
use mathlib.Core.Path.{ap}
use lib.ListN.{length, length-replicate}
use native.Mathlib.Omega.{arith}
use Prim.Native.Nat.{ℕ}
use Rattle.print.proofs.Answers.{printed, refused_printed, counted}
use Rattle.print.proofs.print.Goals as goal

pub bounds-job-7 : goal.bounds-job-7
bounds-job-7 c =
    let q = printed c.args.job.now _ _ (length-replicate {A = ℕ} 9216 0) (length-replicate {A = ℕ} 512 0) c.run-answer.ensures c.in-Ok.ran c.in-Ok.is in
    omega (arith, q.held)

pub arities-table-requires : goal.arities-table-requires
arities-table-requires c =
    let q = printed c.args.job.now _ _ (length-replicate {A = ℕ} 9216 0) (length-replicate {A = ℕ} 512 0) c.run-answer.ensures c.in-Ok.ran c.in-Ok.is in
    rw c.from.ensures (q.few, q.held)

pub listed-requires : goal.listed-requires
listed-requires c =
    let q = printed c.args.job.now _ _ (length-replicate {A = ℕ} 9216 0) (length-replicate {A = ℕ} 512 0) c.run-answer.ensures c.in-Ok.ran c.in-Ok.is in
    record { rows = rw (c.arities-table.ensures, c.from.ensures) q.rows; facts_bound = (q.room, omega (arith, c.requires, c.new-w.ensures.start, ap length c.new-w.ensures.unchanged)) }

pub returns-in-Err : goal.returns-in-Err
returns-in-Err c =
    let j = c.args.job.now in
    let e = refused_printed j _ _ (length-replicate {A = ℕ} 9216 0) (length-replicate {A = ℕ} 512 0) c.run-answer.ensures c.in-Err.refusal c.in-Err.is in
    let f = c.refused_line.ensures in
    record {
      puts = rw e (search rules);
      prefix_len = counted {text = listing_of j} {lent = c.args.out.now} (rw e (search rules)) (rw e (omega (arith, refused_short c.in-Err.refusal.number c.in-Err.refusal.place))) c.requires;
    }

pub returns-in-Ok : goal.returns-in-Ok
returns-in-Ok c =
    let j = c.args.job.now in
    let q = printed j _ _ (length-replicate {A = ℕ} 9216 0) (length-replicate {A = ℕ} 512 0) c.run-answer.ensures c.in-Ok.ran c.in-Ok.is in
    let f = rw (c.arities-table.ensures, c.from.ensures) at c.listed.ensures in
    record {
      puts = rw q.text (search rules);
      prefix_len = counted {text = listing_of j} {lent = c.args.out.now} (rw q.text (search rules)) q.short c.requires;
    }
