use Rattle.std.proofs.Common.{◌<◌, length, sym, ◌∙◌, arith}
use Rattle.name_list.proofs.First.{empty_line, one_too_many, next_line, next_short}
use Rattle.name_list.proofs.lines.line_fault.Goals as goal

pub returns-then-len-eq0 : goal.returns-then-len-eq0
returns-then-len-eq0 c = sym (c.loop-rest.invariant.0
    ∙ empty_line c.loop-rest.rest.now c.loop-rest.count
    c.loop-rest.at c.line_len-len.result c.line_len-len.ensures.is c.if-len-eq0.true (omega arith))

pub returns-then-count-eq64 : goal.returns-then-count-eq64
returns-then-count-eq64 c = sym (c.loop-rest.invariant.0
    ∙ one_too_many c.loop-rest.rest.now c.loop-rest.count c.loop-rest.at c.line_len-len.result
    c.line_len-len.ensures.is c.if-len-eq0.false (omega arith) c.if-count-eq64.true)

pub loop-rest-preserved : goal.loop-rest-preserved
loop-rest-preserved c =
    let some : 0 < length c.loop-rest.rest.now = omega arith in
    let few : c.loop-rest.count < 64 = omega arith in
    let short = next_short c.loop-rest.rest.now c.later_lines-rest.result.now
    c.line_len-len.result c.line_len-len.ensures.is c.later_lines-rest.ensures in
    let l = c.line_len-len.ensures.short in
    let i = c.loop-rest.invariant.1 some in (
      c.loop-rest.invariant.0 ∙ next_line c.loop-rest.rest.now
          c.later_lines-rest.result.now c.loop-rest.count c.loop-rest.at c.line_len-len.result
          c.line_len-len.ensures.is c.if-len-eq0.false some few c.later_lines-rest.ensures,
      (λ more. omega (arith, short, i, l, more)),
      omega (arith, short, i, l),
      omega (arith, few),
    )
