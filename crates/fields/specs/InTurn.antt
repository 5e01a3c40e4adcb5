-- What a reader of n of the same answers, in terms of what the reader of one answers at each place. Assumes nothing.
use Rattle.std.specs.Prelude.{ℕ, ◌<◌, ◌≡◌, List, length, Result, Ok, Err}
use Rattle.std.specs.List.{FoldsTo}
use Rattle.arrayvec.specs.ArrayVec.{ArrayVec}
use Rattle.fields.specs.declared.Cursor.{Cursor}
use Rattle.fields.specs.declared.Refusal.{Refusal}

-- xs were read one after the other, from one cursor to the other
abbrev pub ReadInTurn : {A : Type 0} → (Cursor → Result (A × Cursor) Refusal → Type 0) → Cursor → List A → Cursor → Type 0
ReadInTurn R c xs d = FoldsTo (λ p x q. R p (Ok (x, q))) c xs d

-- n were read; or fewer, and the next was refused
unfoldable pub TimesRead : {A : Type 0} → (Cursor → Result (A × Cursor) Refusal → Type 0) → Cursor → ℕ → Result (ArrayVec A × Cursor) Refusal → Type 0
TimesRead R c n (Ok (v, d)) = (length v.items ≡ n) × ReadInTurn R c v.items d
TimesRead {A} R c n (Err e) = (xs : List A) × (d : Cursor) × (length xs < n) × ReadInTurn R c xs d × R d (Err e)
