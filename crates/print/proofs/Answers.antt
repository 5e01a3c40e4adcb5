-- What the run's answer says of the listing. Assumes nothing.
use Prim.Native.Nat.{ℕ, zero, suc, ◌+◌, ◌≤◌}
use native.Mathlib.Omega.{arith}
use mathlib.Core.Path.{◌≡◌, refl, sym, ap, ◌∙◌}
use mathlib.Core.Bool.{Bool, false}
use mathlib.Core.List.{List, [], ◌∷◌, ◌++◌, append-nil, Memᴰ}
use lib.ListN.{length, length-take, length-append, get_or, take, drop, drop_of_length-le}
use Rattle.model.specs.Facts.{Fact, fact}
use Rattle.model.specs.Limits.{Within, Shaped}
use Rattle.model.specs.Chase.{Outcome}
use Rattle.model.specs.Job.{Got, got, refused, Job, judged}
use Rattle.model.specs.Words.{padded, facts_of, image}
use Rattle.model.specs.Lines.{lines}
use Rattle.model.specs.Answer as paper
use Rattle.model.proofs.Fits.{chase_bounded, result_shaped, facts_of_image, padded_length}
use Rattle.io.specs.Counts.{IsPrefixLen}
use lib.Seq.{length-take-le}
use Rattle.text.specs.Puts.{Puts}
use Rattle.text.proofs.Puts.{puts_length}
use Rattle.text.specs.Listing.{first_line, second_line}
use Rattle.chase.specs.Turned.{outcome_of}
use Rattle.std.specs.Prelude.{Result, Ok, Err}
use Rattle.fields.specs.declared.Refusal.{Refusal}
use Rattle.engine.specs.declared.Ran.{Ran}
use Rattle.engine.specs.Answers.{run_answer_of}
use Rattle.engine.specs.Demands as demands
use Rattle.job.proofs.Accepted.{judged_within}
use Rattle.text.proofs.Short.{first_line_short, second_line_short, listing_ran}
use Rattle.lines.specs.Rows.{Rows, arity_in}
use Rattle.lines.proofs.Rows.{lines_short}
use Rattle.print.proofs.Heads.{Declared, judged_declared}
use Rattle.lines.proofs.Images.{rows_of_image}

-- what is known of an accepted job: its limits, and where its arities stand
pub record Declares (bs : List ℕ) (j : Job) : Type 0 where
  pub within : Within (arity_in j.arities) j.rules j.budget j.facts
  pub declared : Declared bs j.arities

accepted : (bs : List ℕ) (j : Job) (p : ℕ) → judged false bs ≡ got j p → Declares bs j
accepted bs j p e = record { within = judged_within false bs j p e; declared = judged_declared false bs j p e }

abbrev pub facts_in : Job → List Fact
facts_in j = (paper.run_of j).last.facts

-- a refusal's listing
pub refused_listing : (g : Got Job) (n p : ℕ) → paper.Answer.refusal n p ≡ paper.run_answer g → paper.listing_got g ≡ paper.refused_text n p
unfolding paper.run_answer paper.listing_got paper.listing
refused_listing (refused m q) n p e = let k : m ≡ n = cc in let l : q ≡ p = cc in rw (k, l)
refused_listing (got j q) n p e = let z : ◌≡◌ {A = ℕ} 0 1 = cc in absurd (omega arith)

-- a run's listing
pub record Listed (g : Got Job) (o : Outcome) (n m k : ℕ) (a : Bool) (x : ℕ) : Type 0 where
  pub job : Job
  pub place : ℕ
  pub from : g ≡ got job place
  pub count : m ≡ length (facts_in job)
  pub text : paper.listing_got g ≡ first_line o n m k ++ (second_line a x ++ lines (facts_in job))

pub ran_listing : (g : Got Job) (o : Outcome) (n m k : ℕ) (a : Bool) (x : ℕ) → paper.ran o n m k a x ≡ paper.run_answer g → Listed g o n m k a x
unfolding paper.run_answer paper.listing_got
ran_listing (refused i q) o n m k a x e = let z : ◌≡◌ {A = ℕ} 0 1 = cc in absurd (omega arith)
ran_listing (got j q) o n m k a x e =
    record {
      job = j;
      place = q;
      from = refl;
      count = cc;
      text = ap (λ w. paper.listing w (facts_in j)) (sym e) ∙ listing_ran o n m k a x (facts_in j);
    }

get_d_padded : (m : ℕ) (xs : List ℕ) (r : ℕ) → length xs ≤ m → get_or (padded m xs) r 0 ≡ get_or xs r 0
unfolding padded
get_d_padded zero [] r h = refl
get_d_padded zero (x ∷ xs) r h = absurd (omega arith)
get_d_padded (suc m) [] zero h = refl
get_d_padded (suc m) [] (suc r) h = get_d_padded m [] r (omega arith)
get_d_padded (suc m) (x ∷ xs) zero h = refl
get_d_padded (suc m) (x ∷ xs) (suc r) h = get_d_padded m xs r (omega arith)

-- the arities as the program keeps them
abbrev pub table_of : List ℕ → List ℕ
table_of bs = padded 64 (take (get_or bs 7 0) (drop 8 bs))

module _ (bs : List ℕ) (j : Job) (d : Declares bs j) where
  same_arity : (r : ℕ) → arity_in (table_of bs) r ≡ arity_in j.arities r
  same_arity r =
      let h : length (take (get_or bs 7 0) (drop 8 bs)) ≤ 64 = rw length-take (omega (arith, d.declared.few)) in
      get_d_padded 64 (take (get_or bs 7 0) (drop 8 bs)) r h ∙ ap (λ l. get_or l r 0) (sym d.declared.arities)

  small : (r : ℕ) → arity_in (table_of bs) r ≤ 8
  small r = omega (arith, same_arity r, d.within.arities r)

  to_table : (f : Fact) → Shaped (arity_in j.arities) f → Shaped (arity_in (table_of bs)) f
  to_table (fact r vs) s = (s.0, s.1 ∙ sym (same_arity r))

  shaped : (f : Fact) → Memᴰ f (facts_in j) → Shaped (arity_in (table_of bs)) f
  shaped f m = to_table f (result_shaped (arity_in j.arities) j.rules j.budget j.facts d.within f m)

  in_room : length (facts_in j) ≤ 1024
  in_room = (chase_bounded (arity_in j.arities) j.rules j.budget j.facts d.within).in_room

  rows : Rows (image (facts_in j)) (table_of bs) (length (facts_in j))
  rows = rows_of_image (table_of bs) (padded_length 64 (take (get_or bs 7 0) (drop 8 bs))) small (facts_in j) shaped

  facts_back : facts_of (arity_in (table_of bs)) (length (facts_in j)) (image (facts_in j)) ≡ facts_in j
  facts_back = facts_of_image (arity_in (table_of bs)) small (facts_in j) shaped

-- words enough are lent, and none are left over
words_left : (j : Job) (p : ℕ) (words : List ℕ) → length words ≡ paper.instance_words → paper.words_after words (got j p) ≡ image (facts_in j)
unfolding paper.words_after
words_left j p words h =
    let k : length words ≤ paper.instance_words = omega arith in
    ap (λ r. image (facts_in j) ++ r) (drop_of_length-le words k) ∙ append-nil (image (facts_in j))

-- what a run that is no refusal leaves for its listing
pub record Printed (bs words : List ℕ) (o : Outcome) (n m k : ℕ) (a : Bool) (x : ℕ) : Type 0 where
  pub few : get_or bs 7 0 ≤ 64
  pub held : 8 + get_or bs 7 0 ≤ length bs
  pub room : m ≤ 1024
  pub rows : Rows words (table_of bs) m
  pub short : length (paper.listing_of bs) ≤ 102400
  pub text : paper.listing_of bs ≡ first_line o n m k ++ (second_line a x ++ lines (facts_of (arity_in (table_of bs)) m words))

printed_job : (bs words : List ℕ) (o : Outcome) (n m k : ℕ) (a : Bool) (x : ℕ) (l : Listed (judged false bs) o n m k a x) → words ≡ image (facts_in l.job)
    → Printed bs words o n m k a x
unfolding paper.listing_of
printed_job bs words o n m k a x l w =
    let d = accepted bs l.job l.place l.from in
    let q : m ≤ 1024 = rw l.count (in_room bs l.job d) in
    let f : Rows words (table_of bs) m = rw (w, l.count) (rows bs l.job d) in
    let t : paper.listing_of bs ≡ first_line o n m k ++ (second_line a x ++ lines (facts_of (arity_in (table_of bs)) m words)) =
    l.text ∙ ap (λ fs. first_line o n m k ++ (second_line a x ++ lines fs)) (rw (w, l.count) (sym (facts_back bs l.job d))) in
    record {
      few = d.declared.few;
      held = d.declared.held;
      room = q;
      rows = f;
      short = rw (t, length-append, length-append) (omega (arith, first_line_short o n m k, second_line_short a x, lines_short words (table_of bs) m f));
      text = t;
    }

module _ (bs words ranks : List ℕ) (few : length words ≡ paper.instance_words) (also : length ranks ≡ 512) where
  -- lent slices that are long enough leave the job to its bytes
  same_job : paper.run_job bs words ranks ≡ judged false bs
  same_job = rw (few, also)

  pub printed : {words' ranks' : List ℕ} {r : Result Ran Refusal} → demands.Ran bs words ranks (run_answer_of r) words' ranks' → (a : Ran)
      → r ≡ Ok a → Printed bs words' (outcome_of a.outcome.ending) a.outcome.steps a.outcome.facts a.outcome.next a.verdict.acyclic a.verdict.generations
  printed c a e =
      let o = a.outcome in
      let v = a.verdict in
      let l = ran_listing (judged false bs) (outcome_of o.ending) o.steps o.facts o.next v.acyclic v.generations (ap run_answer_of (sym e) ∙ (c.answers ∙ ap paper.run_answer same_job)) in
      printed_job bs _ (outcome_of o.ending) o.steps o.facts o.next v.acyclic v.generations l
      (c.leaves_words ∙ (ap (paper.words_after words) (same_job ∙ l.from) ∙ words_left l.job l.place words few))

  pub refused_printed : {words' ranks' : List ℕ} {r : Result Ran Refusal} → demands.Ran bs words ranks (run_answer_of r) words' ranks' → (x : Refusal) → r ≡ Err x
      → paper.listing_of bs ≡ paper.refused_text x.number x.place
  unfolding paper.listing_of
  refused_printed c x e = refused_listing (judged false bs) x.number x.place (ap run_answer_of (sym e) ∙ (c.answers ∙ ap paper.run_answer same_job))

-- a text that was put and fits is a count of the buffer's bytes
pub counted : {text lent left : List ℕ} {r : ℕ} → Puts text 0 lent r left → length text ≤ 102400 → 102400 ≤ length lent → IsPrefixLen r left
counted {text} {lent} {left} {r} p h k = let n : r ≤ length left = omega (arith, p.place, puts_length p) in (n, sym (length-take-le r left n))
