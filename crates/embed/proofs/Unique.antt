-- The exported functions' contracts leave one content of the lent numbers and slices, refusals included. Assumes nothing.
use Prim.Native.Nat.{ℕ}
use mathlib.Core.Path.{◌≡◌, sym, ap, ◌∙◌}
use mathlib.Core.List.{List}
use Rattle.embed.specs.Numbers.{run_numbers, verdict_numbers, line_numbers}
use Rattle.embed.specs.Told.{RunTold, VerdictTold, LineTold}

-- run
pub run_told_one : (job words ranks n n' w w' r r' : List ℕ) → RunTold job words ranks n w r → RunTold job words ranks n' w' r'
    → (n ≡ n') × (w ≡ w') × (r ≡ r')
run_told_one job words ranks n n' w w' r r' p q = (
  p.told ∙ (ap run_numbers (p.ran.answers ∙ sym q.ran.answers) ∙ sym q.told),
  p.ran.leaves_words ∙ sym q.ran.leaves_words,
  p.ran.leaves_ranks ∙ sym q.ran.leaves_ranks,
)

-- verdict
pub verdict_told_one : (job ranks n n' r r' : List ℕ) → VerdictTold job ranks n r → VerdictTold job ranks n' r' → (n ≡ n') × (r ≡ r')
verdict_told_one job ranks n n' r r' p q = (
  p.told ∙ (ap verdict_numbers (p.judged.answers ∙ sym q.judged.answers) ∙ sym q.told),
  p.judged.leaves_ranks ∙ sym q.judged.leaves_ranks,
)

-- line
pub line_told_one : (words : List ℕ) (arity : ℕ) (lent n n' l l' : List ℕ) → LineTold words arity lent n l → LineTold words arity lent n' l'
    → (n ≡ n') × (l ≡ l')
line_told_one words arity lent n n' l l' p q = (
  p.told ∙ (ap line_numbers (p.written.answers ∙ sym q.written.answers) ∙ sym q.told),
  p.written.leaves ∙ sym q.written.leaves,
)
