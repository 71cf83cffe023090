use Rattle.std.proofs.Common.{◌≡◌, List, Err, length, drop, sym, ◌∙◌, ap, subst, arith}
use Rattle.script_words.specs.Kept.{words_in, all_words}
use Rattle.script_shape.specs.Roles.{Leaf, leaves_of}
use Rattle.goal_spans.specs.Reading.{spans_read}
use Rattle.script_nodes.specs.Waits as waits
use Rattle.script_hints.specs.Reading.{HintReading, read_hints}
use Rattle.script_hints.specs.declared.hint.HintList.{HintList}
use Rattle.script_judge.specs.Reading.{Reading}
use Rattle.script_judge.specs.Views.{reading_of}
use Rattle.script_judge.proofs.Turns.{leaves_drop}
use Rattle.script_grammar.specs.Judgement.{formula_end}
use Rattle.script_grammar.specs.Meaning.{Meaning}
use Rattle.script_grammar.specs.Steps.{hints_begun, said_behind, read_leaves}
use Rattle.script_grammar.specs.Spells.{IsSpelled}
use Rattle.script_grammar.proofs.Accepted.{accepted_reading, spelled_behind, hints_at}
use Rattle.script_grammar.proofs.Short.{never_full}
use Rattle.script_grammar.proofs.reading.accepted.Goals as goal

pub from-requires : goal.from-requires
from-requires c =
    omega (
      arith,
      c.formula_end-end.ensures.within,
      c.requires.reading.shape.within,
      ap length c.as_slice-roles.ensures.value,
      ap length c.list-words.ensures.words,
    )

pub new-requires : goal.new-requires
new-requires c =
    let r : Reading = reading_of c.args.read in
    let rs = c.args.read.shape.roles.items in
    let ws = all_words c.args.read.words in
    let a = accepted_reading c.lexed_once.ensures c.leaves_are_of_trees.ensures.are
    c.scripts_are_read.ensures c.spans_are_read.ensures c.script_or_refusal.ensures.all
    c.args.text.now r c.requires.accepted c.requires.reading in
    let leaves : leaves_of c.as_slice-roles.result.now (words_in c.list-words.result) ≡ r.leaves =
    ap (λ x. leaves_of x (words_in c.list-words.result)) c.as_slice-roles.ensures.value
    ∙ ap (leaves_of rs) c.list-words.ensures.words in
    let end = c.formula_end-end.result in
    let later : List Leaf = leaves_of c.roles_from.result.now (words_in c.from.result) in
    let left : later ≡ drop end r.leaves =
    ap (λ x. leaves_of x (words_in c.from.result)) c.roles_from.ensures
    ∙ ap (leaves_of (drop end c.as_slice-roles.result.now)) c.from.ensures.words
    ∙ sym (leaves_drop end c.as_slice-roles.result.now (words_in c.list-words.result))
    ∙ ap (drop end) leaves in
    let h : HintReading = read_hints later (hints_begun c.args.formula.nodes) in
    let e : said_behind c.args.formula.sides h ≡ read_leaves r.leaves =
    hints_at rs ws c.requires.reading.shape.within c.args.formula c.requires.formula end
    (c.formula_end-end.ensures.end ∙ ap formula_end c.as_slice-roles.ensures.value) later left in
    let spans : c.in-Ok-goal_spans.spans.items ≡ spans_read r.leaves =
    c.in-Ok-goal_spans.ensures ∙ ap spans_read leaves in
    let tokens : c.in-Ok.tokens.items ≡ r.tokens = c.in-Ok.ensures ∙ c.list-words.ensures.tokens in
    record {
      spelled = subst (λ (q : waits.Reading × HintList). IsSpelled c.args.text.now
          c.in-Ok.tokens.items q.0.known c.args.formula.sides c.in-Ok-goal_spans.spans.items q.1)
          (sym c.in-Ok-read_hints.ensures.read)
          (subst (λ ts. IsSpelled c.args.text.now ts h.reading.known c.args.formula.sides
          c.in-Ok-goal_spans.spans.items h.draft.list) (sym tokens)
          (spelled_behind c.args.text.now r a.0 c.args.formula.sides h a.1 e
          c.in-Ok-goal_spans.spans.items spans));
      normal = c.in-Ok-read_hints.ensures.normal;
    }

pub unreachable-requires : goal.unreachable-requires
unreachable-requires c =
    let r : Reading = reading_of c.args.read in
    let rs = c.args.read.shape.roles.items in
    let ws = all_words c.args.read.words in
    let a = accepted_reading c.lexed_once.ensures c.leaves_are_of_trees.ensures.are
    c.scripts_are_read.ensures c.spans_are_read.ensures c.script_or_refusal.ensures.all
    c.args.text.now r c.requires.accepted c.requires.reading in
    let leaves : leaves_of c.as_slice-roles.result.now (words_in c.list-words.result) ≡ r.leaves =
    ap (λ x. leaves_of x (words_in c.list-words.result)) c.as_slice-roles.ensures.value
    ∙ ap (leaves_of rs) c.list-words.ensures.words in
    let end = c.formula_end-end.result in
    let later : List Leaf = leaves_of c.roles_from.result.now (words_in c.from.result) in
    let left : later ≡ drop end r.leaves =
    ap (λ x. leaves_of x (words_in c.from.result)) c.roles_from.ensures
    ∙ ap (leaves_of (drop end c.as_slice-roles.result.now)) c.from.ensures.words
    ∙ sym (leaves_drop end c.as_slice-roles.result.now (words_in c.list-words.result))
    ∙ ap (drop end) leaves in
    let e = hints_at rs ws c.requires.reading.shape.within c.args.formula c.requires.formula end
    (c.formula_end-end.ensures.end ∙ ap formula_end c.as_slice-roles.ensures.value) later left in
    never_full c.spelled_are_short.ensures c.args.text.now r a.0 a.1
    (omega (
      arith,
      c.in-Err-Full.ensures.full (ap Err c.in-Err-Full.field-0-is),
      ap (λ (m : Meaning). length m.known.nodes) e,
    ))
