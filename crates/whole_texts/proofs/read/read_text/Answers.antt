use Rattle.std.proofs.Common.{◌∙◌, arith, rules}
use Rattle.std.proofs.lemmas.Grind.{common_steps}
use Rattle.whole_texts.proofs.Reading.{begun_piece, text_ends, text_full}
use Rattle.whole_texts.proofs.read.read_text.Goals as goal

pub loop-buffer-preserved : goal.loop-buffer-preserved
loop-buffer-preserved g c = record {
  front = rw (c.in_ok-extend_from_slice.ensures.items)
      (begun_piece _ _ _ _ _ _ _ _ (c.loop-buffer.invariant.only_reads.told c.args.name.now)
      (search rules) (search (rules, c.in_ok-count.ensures.bound)) c.loop-buffer.invariant.front
      c.in_ok-count.ensures.bytes);
  short = grind (arith, common_steps);
  only_reads =
      let before = c.loop-buffer.invariant.only_reads in
      let read = c.in_ok-count.ensures in
      record {
        told = λ other. read.same other ∙ before.told other;
        later = omega (arith, read.cause.later, before.later);
        quiet = read.quiet ∙ before.quiet;
        cause = λ z. absurd z;
      };
}

pub returns-then-count-eq0-clause-text : goal.returns-then-count-eq0-clause-text
returns-then-count-eq0-clause-text g c =
    text_ends _ _ _ _ _ _ _ _ (c.loop-buffer.invariant.only_reads.told c.args.name.now)
    (search rules) (search rules)
    (search rules) c.loop-buffer.invariant.short c.loop-buffer.invariant.front
    c.in_ok-count.ensures.bytes

pub returns-clause-text : goal.returns-clause-text
returns-clause-text g c =
    text_full _ _ _ c.loop-buffer.invariant.short (search rules) c.loop-buffer.invariant.front
