-- Two answers that are said to be the same value, or to mean the same, are the same. Assumes nothing.
use mathlib.Core.Path.{◌≡◌, sym, ap, ◌∙◌}

-- every answer, and every content of what is lent, that is said to be a value
pub value_one : {A : Type 0} (x r s : A) → r ≡ x → s ≡ x → r ≡ s
value_one x r s e f = e ∙ sym f

-- every answer that can be told back from what it means
pub meaning_one : {A B : Type 0} (means : A → B) (back : B → A) → ((a : A) → back (means a) ≡ a) → (a b : A) → means a ≡ means b → a ≡ b
meaning_one means back same a b e = sym (same a) ∙ (ap back e ∙ same b)
