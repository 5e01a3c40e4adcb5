-- The line writer's cases: each test with the answer that it leaves. Assumes nothing.
use Prim.Native.Nat.{ℕ, ◌≤◌, ◌<◌}
use native.Mathlib.Omega.{arith}
use mathlib.Core.Path.{◌≡◌, sym, ap, ◌∙◌}
use mathlib.Core.List.{List}
use lib.ListN.{length, length-take, get_or, take, drop}
use borrow.Author.Tests.{lt-ltb, le-ltb}
use Rattle.model.specs.Job.{pick}
use Rattle.model.specs.Facts.{fact}
use Rattle.model.specs.Lines.{line}
use Rattle.model.specs.Answer as paper
use Rattle.text.specs.Puts.{Puts}
use Rattle.laws.proofs.Stores.{sets_front}
use Rattle.std.specs.Prelude.{Ok, Err}
use Rattle.fields.specs.declared.Fault.{Fault}
use Rattle.fields.specs.Means.{number_of, refused_at}
use Rattle.lines.specs.Line.{LineContract}
use Rattle.lines.proofs.Text.{line_short}

module _ (words lent : List ℕ) (arity : ℕ) where
  abbrev Answers : paper.Written → Type 0
  Answers w = paper.line_answer words arity lent ≡ w

  abbrev text : List ℕ
  text = line (paper.fact_in words arity)

  -- a lent slice is too short
  pub few_words : length words < 9 → Answers (paper.Written.refusal 1 0)
  unfolding paper.line_answer pick
  few_words h = rw (lt-ltb (length words) 9 h)

  pub short_line : 9 ≤ length words → length lent < 128 → Answers (paper.Written.refusal 1 0)
  unfolding paper.line_answer pick
  short_line h e = rw (le-ltb (length words) 9 h, lt-ltb (length lent) 128 e)

  module _ (h : 9 ≤ length words) (e : 128 ≤ length lent) where
    -- a number beyond its limits
    pub high_relation : 63 < get_or words 0 0 → Answers (paper.Written.refusal 6 0)
    unfolding paper.line_answer pick
    high_relation r = rw (le-ltb (length words) 9 h, le-ltb (length lent) 128 e, lt-ltb 63 (get_or words 0 0) r)

    pub no_arity : get_or words 0 0 ≤ 63 → arity < 1 → Answers (paper.Written.refusal 6 0)
    unfolding paper.line_answer pick
    no_arity r a = rw (le-ltb (length words) 9 h, le-ltb (length lent) 128 e, le-ltb 63 (get_or words 0 0) r, lt-ltb arity 1 a)

    pub high_arity : get_or words 0 0 ≤ 63 → 1 ≤ arity → 8 < arity → Answers (paper.Written.refusal 6 0)
    unfolding paper.line_answer pick
    high_arity r a b = rw (le-ltb (length words) 9 h, le-ltb (length lent) 128 e, le-ltb 63 (get_or words 0 0) r, le-ltb arity 1 a, lt-ltb 8 arity b)

    pub accepted : get_or words 0 0 ≤ 63 → 1 ≤ arity → arity ≤ 8 → Answers (paper.wrote (length text))
    unfolding paper.line_answer pick
    accepted r a b = rw (le-ltb (length words) 9 h, le-ltb (length lent) 128 e, le-ltb 63 (get_or words 0 0) r, le-ltb arity 1 a, le-ltb 8 arity b)

  -- a refusal leaves the line as it was
  pub refuses : (f : Fault) (p : ℕ) → Answers (paper.Written.refusal (number_of f) p) → LineContract words arity lent (Err (refused_at f p)) lent
  unfolding paper.line_after
  refuses f p a = record { answers = sym a; leaves = rw a }

  -- what is written stands in front of what was there
  pub writes : (n : ℕ) (left : List ℕ) → Answers (paper.wrote (length text)) → length text ≤ length lent → Puts text 0 lent n left
      → LineContract words arity lent (Ok n) left
  unfolding paper.line_after
  writes n left a h p =
      let e : n ≡ length text = omega (arith, p.place) in
      record { answers = ap paper.wrote e ∙ sym a; leaves = rw a (p.bytes ∙ sets_front text lent h) }

-- a relation below 64 and eight values at most: the line fits the lent bytes
pub fits : (words lent : List ℕ) (n : ℕ) → get_or words 0 0 ≤ 63 → n ≤ 8 → 128 ≤ length lent
    → length (line (fact (get_or words 0 0) (take n (drop 1 words)))) ≤ length lent
fits words lent n r h e =
    let k : length (take n (drop 1 words)) ≤ 8 = rw (length-take) (omega arith) in
    omega (arith, line_short (get_or words 0 0) (take n (drop 1 words)) (omega arith) k)
