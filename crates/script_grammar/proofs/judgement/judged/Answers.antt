use Rattle.std.proofs.Common.{◌<◌, Ok, Some, None, Option, IfSome, length, take, drop, refl, sym}
use Rattle.std.proofs.Common.{ap, ◌∙◌, subst, arith, true≢false}
use Rattle.std.specs.List.{AllByRecursion}
use Rattle.script_words.specs.Kept.{words_in, tokens_in}
use Rattle.script_shape.specs.Roles.{leaves_of}
use Rattle.script_judge.specs.declared.fault.Fault.{Fault}
use Rattle.script_judge.specs.Front.{said_in}
use Rattle.script_judge.specs.Judge.{nothing_seen}
use Rattle.script_judge.specs.Judging.{Passed, IsFirstFault}
use Rattle.script_judge.specs.SplitViews.{AreRangesOf}
use Rattle.script_grammar.specs.Judgement.{IsFormulaOf}
use Rattle.script_grammar.proofs.JudgedText.{none_splits, front_passed, formula_at, formula_said}
use Rattle.script_grammar.proofs.JudgedText.{all_judged, all_open}
use Rattle.script_grammar.proofs.judgement.judged.Goals as goal

pub judge-requires-clause-words : goal.judge-requires-clause-words
judge-requires-clause-words c = c.requires.taken

pub judge-requires-clause-end : goal.judge-requires-clause-end
judge-requires-clause-end c = c.formula_end-end.ensures.within

pub judge-requires-clause-judged : goal.judge-requires-clause-judged
judge-requires-clause-judged c = c.new-judging.ensures.judged

pub judge-requires-clause-kept : goal.judge-requires-clause-kept
judge-requires-clause-kept c = c.new-judging.ensures.kept

pub judge-requires-clause-said : goal.judge-requires-clause-said
judge-requires-clause-said c = none_splits (tokens_in c.args.words) (words_in c.args.words)
    c.args.roles.now _ c.formula_end-end.result c.requires c.formula_end-end.ensures.end

-- ---- a word of the first portion is refused

pub at_word-requires : goal.at_word-requires
at_word-requires c =
    let w : c.in-Some.fault.word < length c.args.roles.now =
    subst (λ (o : Option Fault). IfSome o (λ f. f.word < length c.args.roles.now))
    c.in-Some.is c.in_ok-found.ensures.within in
    omega arith

pub returns-in-Some-clause-refusal : goal.returns-in-Some-clause-refusal
returns-in-Some-clause-refusal c =
    let leaves = leaves_of c.args.roles.now (words_in c.args.words) in (
      Some c.in-Some.fault,
      subst (λ (o : Option Fault). IfSome o (λ f. IsFirstFault leaves (Some f)))
          c.in-Some.is c.in_ok-found.ensures.refused,
      ap Some c.at_word.ensures,
    )

pub returns-in-Some-clause-whole : goal.returns-in-Some-clause-whole
returns-in-Some-clause-whole c = λ e. absurd (cc e)

-- ---- there is no formula

pub returns-then-not-has_formula-clause-refusal : goal.returns-then-not-has_formula-clause-refusal
returns-then-not-has_formula-clause-refusal c =
    let now = c.in_ok-found.ensures.passed (ap Ok c.in_default.is) in
    let shut = all_open c.args.roles.now (sym c.has_formula.ensures ∙ c.if-not-has_formula.true) in
    let end = c.in_ok-found.ensures.end (ap Ok c.in_default.is) in (
      None,
      all_judged c.args.roles.now (words_in c.args.words) c.judge.new.self.number now.seen
          c.requires.taken (omega (arith, shut, end, c.formula_end-end.ensures.end)) now.passed,
      refl,
    )

pub returns-then-not-has_formula-clause-whole : goal.returns-then-not-has_formula-clause-whole
returns-then-not-has_formula-clause-whole c = λ e f.
    absurd (true≢false (sym f ∙ sym c.has_formula.ensures ∙ c.if-not-has_formula.true))

-- ---- the formula, and the second portion

pub formula_of-requires : goal.formula_of-requires
formula_of-requires c =
    let rs = c.args.roles.now in
    let ws = words_in c.args.words in
    let now = c.in_ok-found.ensures.passed (ap Ok c.in_default.is) in
    let end = c.in_ok-found.ensures.end (ap Ok c.in_default.is) in
    front_passed (tokens_in c.args.words) ws rs c.formula_end-end.result now.seen c.requires
    c.formula_end-end.ensures.end (sym c.has_formula.ensures ∙ c.if-not-has_formula.false)
    (subst (λ n. Passed (nothing_seen (said_in (leaves_of rs ws))) (take n (leaves_of rs ws))
    (drop n (leaves_of rs ws)) now.seen) end now.passed)
    c.roles_before.result.now (words_in c.front.result) c.roles_before.ensures c.front.ensures.words

pub judge-requires-2-clause-words : goal.judge-requires-2-clause-words
judge-requires-2-clause-words c = c.requires.taken

pub judge-requires-2-clause-judged : goal.judge-requires-2-clause-judged
judge-requires-2-clause-judged c = c.in_ok-found.ensures.passed (ap Ok c.in_default.is)

pub judge-requires-2-clause-begun : goal.judge-requires-2-clause-begun
judge-requires-2-clause-begun c =
    omega (arith, c.in_ok-found.ensures.end (ap Ok c.in_default.is))

pub judge-requires-2-clause-said : goal.judge-requires-2-clause-said
judge-requires-2-clause-said c =
    let rs = c.args.roles.now in
    let ws = words_in c.args.words in
    let n = c.formula_end-end.result in
    let f = c.in_ok-formula.formula in
    formula_said (leaves_of rs ws) n f
    (formula_at rs ws n f c.formula_end-end.ensures.within c.roles_before.result.now
    (words_in c.front.result) c.roles_before.ensures c.front.ensures.words
    c.in_ok-formula.ensures.says)

pub judge-requires-2-clause-few : goal.judge-requires-2-clause-few
judge-requires-2-clause-few c = c.in_ok-formula.ensures.few

pub judge-requires-2-clause-kept : goal.judge-requires-2-clause-kept
judge-requires-2-clause-kept c =
    subst (AllByRecursion (AreRangesOf c.in_ok-formula.formula.sides.parts.before))
    (sym c.in_ok-found.ensures.kept) tt

pub at_word-requires-in-Some-later : goal.at_word-requires-in-Some-later
at_word-requires-in-Some-later c =
    let w : c.in-Some-later.fault.word < length c.args.roles.now =
    subst (λ (o : Option Fault). IfSome o (λ f. f.word < length c.args.roles.now))
    c.in-Some-later.is c.in_ok-later.ensures.within in
    omega arith

pub returns-in-Some-later-clause-refusal : goal.returns-in-Some-later-clause-refusal
returns-in-Some-later-clause-refusal c =
    let leaves = leaves_of c.args.roles.now (words_in c.args.words) in (
      Some c.in-Some-later.fault,
      subst (λ (o : Option Fault). IfSome o (λ f. IsFirstFault leaves (Some f)))
          c.in-Some-later.is c.in_ok-later.ensures.refused,
      ap Some c.at_word-in-Some-later.ensures,
    )

pub returns-in-Some-later-clause-whole : goal.returns-in-Some-later-clause-whole
returns-in-Some-later-clause-whole c = λ e. absurd (cc e)

pub returns-clause-refusal : goal.returns-clause-refusal
returns-clause-refusal c =
    let now = c.in_ok-later.ensures.passed (ap Ok c.in-None.is) in
    let end = c.in_ok-later.ensures.end (ap Ok c.in-None.is) in (
      None,
      all_judged c.args.roles.now (words_in c.args.words) c.judge-2.new.self.number now.seen
          c.requires.taken (omega (arith, end)) now.passed,
      refl,
    )

pub returns-clause-formula : goal.returns-clause-formula
returns-clause-formula c =
    let rs = c.args.roles.now in
    let ws = words_in c.args.words in
    let n = c.formula_end-end.result in
    let f = c.in_ok-formula.formula in
    subst (λ m. IsFormulaOf (leaves_of rs ws) m f) c.formula_end-end.ensures.end
    (formula_at rs ws n f c.formula_end-end.ensures.within c.roles_before.result.now
    (words_in c.front.result) c.roles_before.ensures c.front.ensures.words
    c.in_ok-formula.ensures.says)
