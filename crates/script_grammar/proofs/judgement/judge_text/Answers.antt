use Rattle.std.proofs.Common.{IfSome, refl, sym, ap, ◌∙◌, subst, true≢false}
use Rattle.std.specs.Option.{is_some}
use Rattle.script_words.specs.Kept.{words_in, tokens_in, all_words}
use Rattle.script_shape.specs.Roles.{leaves_of}
use Rattle.script_judge.specs.Reading.{Reading}
use Rattle.script_judge.specs.First.{IsFirstRefusal, unread}
use Rattle.script_judge.specs.Views.{reading_of}
use Rattle.script_judge.proofs.Faulted.{readable_of}
use Rattle.script_grammar.specs.Judgement.{IsFormulaOf, formula_end}
use Rattle.script_grammar.proofs.JudgedText.{roles_kept, read_words, text_judged}
use Rattle.script_grammar.proofs.Firsts.{first_read, formula_there}
use Rattle.script_grammar.proofs.judgement.judge_text.Goals as goal

pub returns-in-Some : goal.returns-in-Some
returns-in-Some c = unread c.in-Some.ensures

pub judged-requires : goal.judged-requires
judged-requires c =
    let read = c.in_ok-read.read in
    read_words c.args.text.now (reading_of read) read.shape.roles.items
    (tokens_in c.list.result) (words_in c.list.result) c.as_slice.result.now
    c.in_ok-read.ensures.reading refl refl c.in_ok-read.ensures.taken
    c.list.ensures.tokens c.list.ensures.words c.as_slice.ensures.value

pub returns-in-Some-first_of : goal.returns-in-Some-first_of
returns-in-Some-first_of c =
    let r : Reading = reading_of c.in_ok-read.read in
    let judged = text_judged r c.in_ok-read.read.shape.roles.items (tokens_in c.list.result)
    (words_in c.list.result) c.as_slice.result.now c.in_ok-found.found.refusal refl
    c.list.ensures.tokens c.list.ensures.words c.as_slice.ensures.value
    c.in_ok-found.ensures.refusal in
    let first : IsFirstRefusal c.args.text.now c.first_of.result =
    first_read c.args.text.now r _ c.in_ok-read.ensures.reading refl
    c.in_ok-end.end c.in_ok-found.found.refusal c.first_of.result c.in_ok-end.ensures
    c.first_of.ensures c.fronts_are_read.ensures (readable_of c.args.text.now c.text_refusal.result
    c.text_refusal.ensures c.in_default.is) judged in
    subst (IsFirstRefusal c.args.text.now) c.in-Some-first_of.is first

pub returns : goal.returns
returns c =
    let read = c.in_ok-read.read in
    let r : Reading = reading_of read in
    let judged = text_judged r read.shape.roles.items (tokens_in c.list.result)
    (words_in c.list.result) c.as_slice.result.now c.in_ok-found.found.refusal refl
    c.list.ensures.tokens c.list.ensures.words c.as_slice.ensures.value
    c.in_ok-found.ensures.refusal in
    let first : IsFirstRefusal c.args.text.now c.first_of.result =
    first_read c.args.text.now r _ c.in_ok-read.ensures.reading refl
    c.in_ok-end.end c.in_ok-found.found.refusal c.first_of.result c.in_ok-end.ensures
    c.first_of.ensures c.fronts_are_read.ensures (readable_of c.args.text.now c.text_refusal.result
    c.text_refusal.ensures c.in_default.is) judged in
    let f = c.in-Some-formula.formula in
    let rs = c.as_slice.result.now in
    let ws = words_in c.list.result in
    let says : IsFormulaOf (leaves_of rs ws) (formula_end rs) f =
    subst (λ o. IfSome o (IsFormulaOf (leaves_of rs ws) (formula_end rs))) c.in-Some-formula.is
    c.in_ok-found.ensures.formula in (
      subst (IsFirstRefusal c.args.text.now) c.in_default-first_of.is first,
      c.in_ok-read.ensures.reading,
      subst (λ x. IsFormulaOf (leaves_of x (all_words read.words)) (formula_end x) f)
          c.as_slice.ensures.value (subst (λ w. IsFormulaOf (leaves_of rs w) (formula_end rs) f)
          c.list.ensures.words says),
    )

pub unreachable-requires : goal.unreachable-requires
unreachable-requires c =
    let read = c.in_ok-read.read in
    let there = formula_there c.args.text.now (reading_of read) _ c.in_ok-read.ensures.reading refl
    c.in_ok-end.end c.in_ok-found.found.refusal c.first_of.result c.in_ok-end.ensures
    c.first_of.ensures c.leaves_are_of_trees.ensures.are c.as_slice.result.now
    (roles_kept read.shape.roles.items (all_words read.words) c.in_ok-read.ensures.taken
    ∙ sym c.as_slice.ensures.value) c.in_default-first_of.is c.in_ok-found.found.formula
    c.in_ok-found.ensures.whole in
    true≢false (sym there ∙ ap is_some c.in_default-formula.is)
