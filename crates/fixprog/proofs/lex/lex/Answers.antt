use Rattle.std.proofs.Common.{◌+◌, false, length, sym, ap, ◌∙◌, subst, arith, length-drop}
use Rattle.script_words.specs.Lex.{blank_len}
use Rattle.fixprog.specs.Lex.{front}
use Rattle.fixprog.proofs.Lexing.{LexedTo, lexed_none, lexed_all, lexed_bad, lexed_more, lexed_end}
use Rattle.fixprog.proofs.lex.lex.Goals as goal

pub loop-at-init : goal.loop-at-init
loop-at-init c = subst (LexedTo c.args.text.now 0) (sym c.new-tokens.ensures.items)
    (lexed_none c.args.text.now)

pub returns-then-start-text : goal.returns-then-start-text
returns-then-start-text c = record {
  tokens = lexed_all c.args.text.now c.loop-at.at c.loop-at.tokens.items c.loop-at.invariant
      (ap (λ n. c.loop-at.at + n) (sym (c.blank_len.ensures.len
      ∙ ap (blank_len false) c.rest_at.ensures)) ∙ c.if-start-text.true);
  within = c.loop-at.invariant.inside;
  few = let n = c.loop-at.invariant.few in let m = c.loop-at.invariant.within in omega arith;
}

pub returns-in_default : goal.returns-in_default
returns-in_default c = record {
  tokens = lexed_bad c.args.text.now c.loop-at.at _ c.loop-at.tokens.items c.loop-at.invariant
      (ap (λ n. c.loop-at.at + n) (c.blank_len.ensures.len
      ∙ ap (blank_len false) c.rest_at.ensures))
      (omega (
        arith,
        c.blank_len.ensures.within,
        ap length c.rest_at.ensures,
        length-drop c.loop-at.at c.args.text.now,
      ))
      (sym (ap front c.rest_at-in-loop-at.ensures) ∙ sym c.front.ensures.token ∙ c.in_default.is);
  within = c.loop-at.invariant.inside;
  few = let n = c.loop-at.invariant.few in let m = c.loop-at.invariant.within in omega arith;
}

pub loop-at-preserved : goal.loop-at-preserved
loop-at-preserved c =
    subst (LexedTo c.args.text.now _) (sym c.in_ok-push.ensures.items)
    (lexed_more c.args.text.now c.loop-at.at c.loop-at.tokens.items c.loop-at.invariant
    c.blank_len.result c.in-Some.len c.in-Some.kind c.in-Some.ensures.within.0
    (c.blank_len.ensures.len ∙ ap (blank_len false) c.rest_at.ensures)
    (omega (
      arith,
      c.in-Some.ensures.within.1,
      ap length c.rest_at-in-loop-at.ensures,
      length-drop (c.loop-at.at + c.blank_len.result) c.args.text.now,
      c.blank_len.ensures.within,
      ap length c.rest_at.ensures,
      length-drop c.loop-at.at c.args.text.now,
    ))
    (sym (ap front c.rest_at-in-loop-at.ensures) ∙ sym c.front.ensures.token ∙ c.in-Some.is))

pub returns : goal.returns
returns c = record {
  tokens = lexed_end c.args.text.now c.loop-at.at c.loop-at.tokens.items c.loop-at.invariant
      (omega arith);
  within = c.loop-at.invariant.inside;
  few = let n = c.loop-at.invariant.few in let m = c.loop-at.invariant.within in omega arith;
}
