-- One answer is defined for a text.
use Rattle.std.specs.Prelude.{◌⊎◌, slice_get}
use Rattle.std.proofs.Common.{◌≡◌, ◌≢◌, inl, inr, ℕ, List, length, Some, refl, sym, ◌∙◌, subst}
use Rattle.goals.specs.declared.line.Line.{Line}
use Rattle.script_judge.specs.First.{FirstsAreUnique}
use Rattle.script_claims.specs.declared.claim.Claim.{Claim}
use Rattle.script_grammar.specs.Spells.{View, Spells, SpellsOnce, NeverBoth}
use Rattle.script_grammar.specs.Cases.{cases_of}
use Rattle.rewrite_hints.specs.Marks.{AreMarks}
use Rattle.rewrite_hints.proofs.MarksLaws.{marks_are_one}
use Rattle.bisect.specs.declared.outcome.Leaf.{Leaf}
use Rattle.bisect.specs.Gathered.{lines_of}
use Rattle.bisect.specs.declared.outcome.OpenLeaf.{OpenLeaf}
use Rattle.bisect.specs.declared.outcome.Outcome.TheVariants as outcome
use Rattle.settler.specs.Answers.{Options, Answer, expr_limit, box_limit, unproved, proved, ComesTo}
use Rattle.settler.specs.Answers.{IsScriptAnswer, AnswersAreOne, OutcomesAreOne}
use Rattle.settler.specs.Answers.{HasTooManyExpressions, HasTooManyBoxes, plan_of}
use Rattle.made_script.specs.Script.{script_text}
use Rattle.command_runs.specs.Runs.{Bytes}
use Rattle.command_runs.specs.declared.status.Status.{Status}
use Rattle.command_runs.specs.declared.status.Status.TheVariants.{Answered, Limit, Unproved}
use Rattle.command_runs.specs.declared.status.Status.TheVariants as status
use Rattle.report.specs.Lines.{expressions_text, boxes_text}
use Rattle.report.specs.Proved.{answer_text, made_text}
use Rattle.report.specs.Unproved.{unproved_text}
use Rattle.script_texts.proofs.Texts.{refused_once}
use Rattle.script_answers.specs.Answers.{ProvePrints, IsAnswered, IsProvedText, IsMadeAnswered}
use Rattle.script_answers.specs.Answers.{MadePrints, made_options, first_line}
use Rattle.script_answers.specs.Laws.{TextAnswersAreOne, MadeAnswersAreOne}

abbrev Twice : Status → Status → Bytes → Bytes → Type 0
Twice s t line other = (s ≡ t) × (line ≡ other)

-- ---- one answer of a script

proved-same : (ls ms : List Line) → proved ls ≡ proved ms → ls ≡ ms
proved-same ls ms e = cc

leaf-same : (x y : OpenLeaf) → unproved x ≡ unproved y → x ≡ y
leaf-same x y e = cc

claims-same : (xs ys : List Claim) → Some xs ≡ Some ys → xs ≡ ys
claims-same xs ys e = cc

count-same : (m n : ℕ) (ls ms : List Leaf) → outcome.Leaves m ls ≡ outcome.Leaves n ms → m ≡ n
count-same m n ls ms e = cc

leaves-same : (m n : ℕ) (ls ms : List Leaf) → outcome.Leaves m ls ≡ outcome.Leaves n ms → ls ≡ ms
leaves-same m n ls ms e = cc

module _ (spells_once : SpellsOnce) (both : NeverBoth) (unique : FirstsAreUnique)
    (answers_once : AnswersAreOne) (o : Options) where
  -- two answers to the script of one text are one
  same : (text : Bytes) (s t : View) (a b : Answer) → Spells text s → Spells text t
      → IsScriptAnswer s o a → IsScriptAnswer t o b → a ≡ b
  same text s t a b p q i j =
      answers_once s o a b i
      (subst (λ (v : View). IsScriptAnswer v o b) (spells_once text t s q p) j)

  answered_once : (text line other : Bytes) → IsAnswered o text line → IsAnswered o text other
      → line ≡ other
  answered_once text line other p q =
      let script : p.script ≡ q.script =
      spells_once text p.script q.script p.proved.spelled q.proved.spelled in
      let shown : p.shown ≡ q.shown =
      proved-same p.shown q.shown
      (same text p.script q.script (proved p.shown) (proved q.shown) p.proved.spelled
      q.proved.spelled (p.boxes, p.proved.proved) (q.boxes, q.proved.proved)) in
      let marked : AreMarks p.script.nodes p.script.hints.rewrites q.marks =
      subst (λ (v : View). AreMarks v.nodes v.hints.rewrites q.marks) (sym script) q.marked in
      let marks : p.marks ≡ q.marks =
      marks_are_one p.script.nodes p.script.hints.rewrites p.marks q.marks p.marked marked in
      p.printed
      ∙ (λ i. answer_text (script i).text (script i).tokens (script i).spans (shown i) (marks i))
      ∙ sym q.printed

  -- what a limit that is passed prints
  Limited : View → Bytes → Type 0
  Limited s line = (HasTooManyExpressions s × (line ≡ expressions_text))
      ⊎ (HasTooManyBoxes s o × (line ≡ boxes_text o.boxes))

  limited_once : (text line other : Bytes) (s t : View) → Spells text s → Spells text t
      → Limited s line → Limited t other → line ≡ other
  unfolding Limited
  limited_once text line other s t p q (inl (i, e)) (inl (j, f)) = e ∙ sym f
  limited_once text line other s t p q (inr (i, e)) (inr (j, f)) = e ∙ sym f
  limited_once text line other s t p q (inl (i, e)) (inr (j, f)) =
      let h : expr_limit ≡ box_limit = same text s t expr_limit box_limit p q i j in cc h
  limited_once text line other s t p q (inr (i, e)) (inl (j, f)) =
      let h : box_limit ≡ expr_limit = same text s t box_limit expr_limit p q i j in cc h

  -- what passes a limit is neither proved nor unproved
  not_limited : (text line : Bytes) (s t : View) (a : Answer)
      → ¬ (expr_limit ≡ a) → ¬ (box_limit ≡ a)
      → Spells text s → Spells text t → IsScriptAnswer t o a → ¬ Limited s line
  unfolding Limited
  not_limited text line s t a n m p q j (inl (i, e)) = n (same text s t expr_limit a p q i j)
  not_limited text line s t a n m p q j (inr (i, e)) = m (same text s t box_limit a p q i j)

  pub prove_once : (text : Bytes) (s t : Status) (line other : Bytes) → ProvePrints o text s line
      → ProvePrints o text t other → Twice s t line other
  unfolding Limited
  prove_once text Answered Answered line other p q = (refl, answered_once text line other p q)
  prove_once text Answered Unproved line other p (t, leaf, claims, q, j, at, f) =
      let h : proved p.shown ≡ unproved leaf =
      same text p.script t (proved p.shown) (unproved leaf) p.proved.spelled q
      (p.boxes, p.proved.proved) j in cc h
  prove_once text Answered Limit line other p (t, q, j) =
      absurd (not_limited text other t p.script (proved p.shown) (λ e. cc e) (λ e. cc e) q
      p.proved.spelled (p.boxes, p.proved.proved) j)
  prove_once text Answered status.Script line other p (r, q, f) =
      absurd (both text p.script r p.proved.spelled q)
  prove_once text Unproved Answered line other (s, leaf, claims, p, i, at, e) q =
      let h : unproved leaf ≡ proved q.shown =
      same text s q.script (unproved leaf) (proved q.shown) p q.proved.spelled i
      (q.boxes, q.proved.proved) in cc h
  prove_once text Unproved Unproved line other (s, leaf, claims, p, i, at, e)
      (t, first, others, q, j, there, f) =
      let h : unproved leaf ≡ unproved first =
      same text s t (unproved leaf) (unproved first) p q i j in
      let script : s ≡ t = spells_once text s t p q in
      let leaves : leaf ≡ first = leaf-same leaf first h in
      let here : slice_get (cases_of s) leaf.case ≡ slice_get (cases_of t) first.case =
      (λ i. slice_get (cases_of (script i)) (leaves i).case) in
      let cases : claims ≡ others = claims-same claims others (sym at ∙ here ∙ there) in (
        refl,
        e
            ∙ (λ i. unproved_text (script i) (plan_of (script i) (cases i) o.depth)
            (length (cases_of (script i))) (leaves i).case (leaves i).path (leaves i).goal)
            ∙ sym f,
      )
  prove_once text Unproved Limit line other (s, leaf, claims, p, i, at, e) (t, q, j) =
      absurd (not_limited text other t s (unproved leaf) (λ e. cc e) (λ e. cc e) q p i j)
  prove_once text Unproved status.Script line other (s, leaf, claims, p, i, at, e) (r, q, f) =
      absurd (both text s r p q)
  prove_once text Limit Answered line other (s, p, i) q =
      absurd (not_limited text line s q.script (proved q.shown) (λ e. cc e) (λ e. cc e) p
      q.proved.spelled (q.boxes, q.proved.proved) i)
  prove_once text Limit Unproved line other (s, p, i) (t, leaf, claims, q, j, at, f) =
      absurd (not_limited text line s t (unproved leaf) (λ e. cc e) (λ e. cc e) p q j i)
  prove_once text Limit Limit line other (s, p, i) (t, q, j) =
      (refl, limited_once text line other s t p q i j)
  prove_once text Limit status.Script line other (s, p, i) (r, q, f) = absurd (both text s r p q)
  prove_once text status.Script Answered line other (r, p, e) q =
      absurd (both text q.script r q.proved.spelled p)
  prove_once text status.Script Unproved line other (r, p, e) (t, leaf, claims, q, j, at, f) =
      absurd (both text t r q p)
  prove_once text status.Script Limit line other (r, p, e) (t, q, j) = absurd (both text t r q p)
  prove_once text status.Script status.Script line other p q =
      (refl, refused_once unique text line other p q)
  prove_once text Answered _ line other p q = absurd q
  prove_once text Unproved _ line other p q = absurd q
  prove_once text Limit _ line other p q = absurd q
  prove_once text status.Script _ line other p q = absurd q
  prove_once text _ t line other p q = absurd p

  -- two that prove one text have the same number of boxes and the same lines
  proved_once : OutcomesAreOne → (text : Bytes) (s t : View) (boxes count : ℕ)
      (shown others : List Line) → IsProvedText o text s boxes shown
      → IsProvedText o text t count others → (boxes ≡ count) × (shown ≡ others)
  proved_once outcomes_once text s t boxes count shown others p q =
      let script : s ≡ t = spells_once text s t p.spelled q.spelled in
      let there : ComesTo s o (outcome.Leaves count q.proved.0) =
      subst (λ (v : View). ComesTo v o (outcome.Leaves count q.proved.0)) (sym script)
      q.proved.1 in
      let e : outcome.Leaves boxes p.proved.0 ≡ outcome.Leaves count q.proved.0 =
      outcomes_once s o (outcome.Leaves boxes p.proved.0) (outcome.Leaves count q.proved.0)
      p.proved.1 there in
      let leaves : p.proved.0 ≡ q.proved.0 =
      leaves-same boxes count p.proved.0 q.proved.0 e in (
        count-same boxes count p.proved.0 q.proved.0 e,
        p.proved.2 ∙ (λ i. lines_of (leaves i) (length (script i).goals)) ∙ sym q.proved.2,
      )

  -- what proves a text leaves no other answer
  proved_alone : (text : Bytes) (s : View) (boxes : ℕ) (shown : List Line)
      → IsProvedText o text s boxes shown → (t : Status) (other : Bytes) → t ≢ Answered
      → ¬ ProvePrints o text t other
  unfolding Limited
  proved_alone text s boxes shown p Answered other differs q = differs refl
  proved_alone text s boxes shown p Unproved other differs (t, leaf, claims, q, j, at, f) =
      let h : proved shown ≡ unproved leaf =
      same text s t (proved shown) (unproved leaf) p.spelled q (boxes, p.proved) j in cc h
  proved_alone text s boxes shown p Limit other differs (t, q, j) =
      not_limited text other t s (proved shown) (λ e. cc e) (λ e. cc e) q p.spelled
      (boxes, p.proved) j
  proved_alone text s boxes shown p status.Script other differs (r, q, f) =
      both text s r p.spelled q
  proved_alone text s boxes shown p _ other differs q = q

-- ---- of the made script
-- it is proved, or answered as `prove` does
abbrev Made : ℕ → Status → Bytes → Type 0
Made n s line = ((s ≡ Answered) × IsMadeAnswered n line)
    ⊎ ((s ≢ Answered) × ProvePrints made_options (script_text n) s line)

made_of : (n : ℕ) (s : Status) (line : Bytes) → MadePrints n s line → Made n s line
made_of n Answered line p = inl (refl, p)
made_of n _ line p = inr ((λ e. cc e), p)

module _ (spells_once : SpellsOnce) (both : NeverBoth) (unique : FirstsAreUnique)
    (answers_once : AnswersAreOne) where
  -- a text has one answer
  pub texts_once : TextAnswersAreOne
  texts_once o text s t line other p q =
      prove_once spells_once both unique answers_once o text s t line other p q

  -- a degree has one answer
  pub made_once : OutcomesAreOne → MadeAnswersAreOne
  made_once outcomes_once n s t line other p q = by (made_of n s line p) (made_of n t other q)
    where
      by : Made n s line → Made n t other → Twice s t line other
      by (inl (e, a)) (inl (f, b)) =
          let one =
          proved_once spells_once both unique answers_once made_options
          outcomes_once (script_text n) a.script b.script a.boxes b.boxes a.shown b.shown
          a.proved b.proved in (
            e ∙ sym f,
            a.printed ∙ (λ i. made_text n (one.0 i) (first_line (one.1 i))) ∙ sym b.printed,
          )
      by (inl (e, a)) (inr (differs, j)) =
          absurd (proved_alone spells_once both unique answers_once made_options
          (script_text n) a.script a.boxes a.shown a.proved t other differs j)
      by (inr (differs, i)) (inl (f, b)) =
          absurd (proved_alone spells_once both unique answers_once made_options
          (script_text n) b.script b.boxes b.shown b.proved s line differs i)
      by (inr (d, i)) (inr (m, j)) =
          prove_once spells_once both unique answers_once made_options
          (script_text n) s t line other i j
