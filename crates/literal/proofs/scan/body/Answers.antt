use Rattle.std.proofs.Common.{List, ℕ, ◌++◌, refl, sym, ap, subst, ◌∙◌}
use Rattle.literal.specs.Parts.{FindsBody}
use Rattle.literal.proofs.Bodies.{no_whole, empty_length, some_length}
use Rattle.literal.proofs.scan.body.Goals as goal

pub returns-then-is_empty : goal.returns-then-is_empty
returns-then-is_empty c = no_whole c.args.hexadecimal c.args.text.now c.split_digits.result.0.now
    c.split_digits.result.1.now c.split_digits.ensures (empty_length c.split_digits.result.0.now
    c.is_empty.result c.is_empty.ensures c.if-is_empty.true)

pub pointed-requires : goal.pointed-requires
pointed-requires c = record {
  digits = c.split_digits.ensures.all;
  some = some_length c.split_digits.result.0.now c.is_empty.result
      c.is_empty.ensures c.if-is_empty.false;
}

pub unpointed-requires : goal.unpointed-requires
unpointed-requires c = record {
  front =
      record { joins = refl; all = c.split_digits.ensures.all; ends = c.split_digits.ensures.ends };
  some = some_length c.split_digits.result.0.now c.is_empty.result
      c.is_empty.ensures c.if-is_empty.false;
  apart = c.in-None.ensures;
}

pub returns-in-Some : goal.returns-in-Some
returns-in-Some c = subst (λ (t : List ℕ). FindsBody c.args.hexadecimal t c.pointed.result)
    (sym (c.split_digits.ensures.joins
    ∙ ap (λ (r : List ℕ). c.split_digits.result.0.now ++ r) c.in-Some.ensures)) c.pointed.ensures

pub returns-in-None : goal.returns-in-None
returns-in-None c = subst (λ (t : List ℕ). FindsBody c.args.hexadecimal t c.unpointed.result)
    (sym c.split_digits.ensures.joins) c.unpointed.ensures
