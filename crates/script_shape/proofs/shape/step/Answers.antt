use Rattle.std.proofs.Common.{Some, reverse, rules, arith, sym, ap, ◌∙◌}
use Rattle.std.proofs.lemmas.List.{nil_from_length}
use Rattle.script_shape.proofs.Stack.{step_takes, step_refuses, step_skips, step_at_nothing}
use Rattle.script_shape.proofs.Stack.{role_takes, role_skips}
use Rattle.script_shape.proofs.shape.step.Goals as goal

pub returns-in-Some-takes : goal.returns-in-Some-takes
returns-in-Some-takes c = (
  c.loop-top.invariant.after ∙ step_takes c.args.class c.loop-top.stack.items c.pop.new.self.items
      c.in-Some-takes.new.now c.in-Some.top c.in-Some.ensures.items c.in-Some-takes.ensures
      ∙ ap (λ l. Some (reverse l)) (sym c.in_ok-extend_from_slice.ensures.items),
  c.loop-top.invariant.role ∙ role_takes c.args.class c.loop-top.stack.items c.pop.new.self.items
      c.in-Some-takes.new.now c.in-Some.top c.in-Some.ensures.items c.in-Some-takes.ensures
      ∙ ap Some (sym c.role_of.ensures),
)

pub returns-then-not-may_skip : goal.returns-then-not-may_skip
returns-then-not-may_skip c = c.loop-top.invariant.after
    ∙ step_refuses c.args.class c.loop-top.stack.items c.pop.new.self.items c.in-Some.top
    c.in-Some.ensures.items c.in_default-takes.ensures (search rules)

pub loop-top-preserved : goal.loop-top-preserved
loop-top-preserved c = record {
  after = c.loop-top.invariant.after
      ∙ step_skips c.args.class c.loop-top.stack.items c.pop.new.self.items c.in-Some.top
      c.in-Some.ensures.items c.in_default-takes.ensures (search rules);
  role = c.loop-top.invariant.role ∙ role_skips c.args.class c.loop-top.stack.items
      c.pop.new.self.items c.in-Some.top c.in-Some.ensures.items c.in_default-takes.ensures;
}

pub returns : goal.returns
returns c = c.loop-top.invariant.after ∙ step_at_nothing c.args.class
    c.loop-top.stack.items c.pop.new.self.items c.in_default.ensures.items
    (nil_from_length _ (omega (arith, c.pop.new.self.ok.0, c.in_default.ensures.cases.1)))
