-- What `judge` promises leaves one verdict and one content of the lent words. Assumes nothing.
use Prim.Native.Nat.{ℕ}
use mathlib.Core.Path.{◌≡◌, sym, ap₂, ◌∙◌}
use mathlib.Core.Bool.{Bool}
use mathlib.Core.List.{List}
use Rattle.rules.specs.declared.Rule.{Rule}
use Rattle.ranks.specs.declared.Verdict.{Verdict}
use Rattle.ranks.specs.Judges.{Judges}

pub judge_one : {rules : List Rule} {ranks left left' : List ℕ} {v v' : Verdict} → Judges rules ranks v left → Judges rules ranks v' left'
    → (v ≡ v') × (left ≡ left')
judge_one p q = (
  ap₂ (λ (a : Bool) (g : ℕ). record { acyclic = a; generations = g }) (p.acyclic_is ∙ sym q.acyclic_is) (p.generations_is ∙ sym q.generations_is),
  p.leaves ∙ sym q.leaves,
)
