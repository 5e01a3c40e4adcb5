-- What each writer promises leaves one next place and one content of the buffer. Assumes nothing.
use Prim.Native.Nat.{ℕ}
use mathlib.Core.Path.{◌≡◌, sym, ◌∙◌}
use mathlib.Core.List.{List}
use Rattle.text.specs.declared.Writer.{Writer}
use Rattle.text.specs.Puts.{Puts}
use Rattle.text.specs.Writes.{Writes}

pub puts_one : {text lent left left' : List ℕ} {at next next' : ℕ} → Puts text at lent next left → Puts text at lent next' left'
    → (next ≡ next') × (left ≡ left')
puts_one p q = (p.place ∙ sym q.place, p.bytes ∙ sym q.bytes)

pub writes_one : {text : List ℕ} {w u v : Writer} → Writes text w u → Writes text w v → (u.at ≡ v.at) × (u.lent.now ≡ v.lent.now)
writes_one p q = puts_one p.puts q.puts
