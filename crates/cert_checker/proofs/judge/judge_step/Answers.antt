use Rattle.std.proofs.Common.{rules, refl, ◌≡◌, Some}
use Rattle.cert_checker.proofs.Judged.{not_concluded, cites}
use Rattle.cert_checker.specs.Steps.{step_facts}
use Rattle.cert_checker.specs.Sources.{givens_of}
use Rattle.cert_checker.proofs.judge.judge_step.Goals as goal

pub returns-then-not-is_concluded : goal.returns-then-not-is_concluded
returns-then-not-is_concluded c =
    let found : step_facts c.args.steps.now.rows c.args.row.now.premises
    ≡ Some c.premise_facts.new.premises.items = search (rules, c.in_ok-premise_facts.ensures) in
    let met = c.in-Some.ensures in
    rw (c.refuse-then-not-is_concluded.ensures, c.next-then-not-is_concluded.ensures) (
      refl,
      cites c.args.steps.now.rows c.args.row.now c.premise_facts.new.premises.items c.in-Some.with
          found met (search rules),
      not_concluded (givens_of c.args.sources.now) c.args.steps.now.rows c.args.row.now
          c.premise_facts.new.premises.items c.in-Some.with found met (search rules),
    )
