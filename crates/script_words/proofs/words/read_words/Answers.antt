use Rattle.std.proofs.Common.{◌+◌, false, length, sym, ap, ◌∙◌, arith, length-drop}
use Rattle.std.specs.BTreeSet.{contains}
use Rattle.script_words.specs.Lex.{blank_len, front}
use Rattle.script_words.specs.Named.{text_cmp}
use Rattle.script_words.proofs.Lexing.{lexed_all, lexed_bad, lexed_end}
use Rattle.script_words.proofs.Marked.{marked_all}
use Rattle.script_words.proofs.ReadTo.{read_none, read_more, all_within}
use Rattle.script_words.proofs.words.read_words.Goals as goal

pub loop-at-init : goal.loop-at-init
loop-at-init c = read_none _ _ _ c.in_ok-placed.ensures.items
    (λ q. ap (λ ks. contains text_cmp (record { keys = ks }) q) c.new-operators.ensures.empty)

pub returns-then-start-text : goal.returns-then-start-text
returns-then-start-text c = record {
  tokens = lexed_all c.args.text.now c.loop-at.at _ c.loop-at.invariant.lexed
      (ap (λ n. c.loop-at.at + n) (sym (c.blank_len.ensures.len
      ∙ ap (blank_len false) c.rest_at.ensures)) ∙ c.if-start-text.true);
  words = marked_all c.loop-at.invariant.marked;
  within = all_within c.loop-at.invariant;
}

pub returns-in_default : goal.returns-in_default
returns-in_default c = record {
  tokens = lexed_bad c.args.text.now c.loop-at.at _ _ c.loop-at.invariant.lexed (ap
      (λ n. c.loop-at.at + n) (c.blank_len.ensures.len ∙ ap (blank_len false) c.rest_at.ensures))
      (omega (
        arith,
        c.blank_len.ensures.within,
        ap length c.rest_at.ensures,
        length-drop c.loop-at.at c.args.text.now,
      ))
      (sym (ap front c.rest_at-in-loop-at.ensures) ∙ sym c.front.ensures.token ∙ c.in_default.is);
  words = marked_all c.loop-at.invariant.marked;
  within = all_within c.loop-at.invariant;
}

pub loop-at-preserved : goal.loop-at-preserved
loop-at-preserved c =
    read_more c.loop-at.invariant c.blank_len.result c.in-Some.len c.in-Some.kind
    (c.blank_len.ensures.len ∙ ap (blank_len false) c.rest_at.ensures)
    (omega (
      arith,
      c.in-Some.ensures.within.1,
      ap length c.rest_at-in-loop-at.ensures,
      length-drop (c.loop-at.at + c.blank_len.result) c.args.text.now,
      c.blank_len.ensures.within,
      ap length c.rest_at.ensures,
      length-drop c.loop-at.at c.args.text.now,
    ))
    (sym (ap front c.rest_at-in-loop-at.ensures) ∙ sym c.front.ensures.token ∙ c.in-Some.is)
    c.class.result c.kind_word-word.result c.kind_word-word.ensures
    c.class.ensures c.naming_after-naming.result c.naming_after-naming.ensures
    c.defined_by.result c.defined_by.ensures
    c.add_operator.new.operators c.in_ok-add_operator.ensures c.push.new.self.items
    c.in_ok-push.ensures.items

pub returns : goal.returns
returns c = record {
  tokens = lexed_end c.args.text.now c.loop-at.at _ c.loop-at.invariant.lexed (omega arith);
  words = marked_all c.loop-at.invariant.marked;
  within = all_within c.loop-at.invariant;
}
