use Rattle.std.proofs.Common.{sym, ap, ◌∙◌, subst, arith}
use Rattle.std.specs.Str.{IsUtf8}
use Rattle.fixprog.proofs.Faultless.{inputs_fine, steps_fine, steps_len, outputs_len}
use Rattle.fixprog.proofs.AsciiScript.{script_utf8}
use Rattle.fixprog.proofs.Printing.{script_is}
use Rattle.fixprog.proofs.turn.printed.Goals as goal

pub script_of-requires-clause-inputs : goal.script_of-requires-clause-inputs
script_of-requires-clause-inputs c = inputs_fine c.args.program.now c.requires.tree c.requires.same
    c.requires.faultless

pub script_of-requires-clause-steps : goal.script_of-requires-clause-steps
script_of-requires-clause-steps c = steps_fine c.args.program.now c.requires.tree c.requires.same
    c.requires.faultless

pub overflow_cast-result : goal.overflow_cast-result
overflow_cast-result c = let n = (steps_len c.args.program.now c.requires.tree c.requires.same
    c.requires.faultless).1 in omega arith

pub overflow_cast-result-2 : goal.overflow_cast-result-2
overflow_cast-result-2 c = let n = (outputs_len c.args.program.now c.requires.tree c.requires.same
    c.requires.faultless).1 in omega arith

pub returns-clause-turned : goal.returns-clause-turned
returns-clause-turned c =
    let steps = (steps_len c.args.program.now c.requires.tree c.requires.same
    c.requires.faultless).0 in
    let outs = (outputs_len c.args.program.now c.requires.tree c.requires.same
    c.requires.faultless).0 in
    record {
      program = c.requires.tree;
      spelled = c.requires.spelled;
      script = ap (λ v. v.items) c.in-Ok-from_utf8.ensures.ok ∙ c.in-Ok.ensures
          ∙ script_is c.args.program.now c.requires.tree c.requires.same;
      steps = omega (arith, steps);
      outs = omega (arith, outs);
    }

pub unreachable-requires : goal.unreachable-requires
unreachable-requires c =
    let script = c.in-Ok.ensures ∙ script_is c.args.program.now c.requires.tree c.requires.same in
    let never = c.in_default-from_utf8.ensures.succeeds
    (subst IsUtf8 (sym script) (script_utf8 c.args.text.now c.requires.tree c.requires.spelled
    c.requires.faultless)) in
    cc
