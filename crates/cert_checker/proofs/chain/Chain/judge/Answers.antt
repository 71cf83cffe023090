use Rattle.cert_checker.proofs.Chains.{judged_step}
use Rattle.cert_checker.proofs.chain.Chain.judge.Goals as goal

pub returns-clause-judged : goal.returns-clause-judged
returns-clause-judged c = judged_step _ _ c.args.self.now c.args.row.now c.judge_step.result
    c.self.view_is c.judge_step.ensures
