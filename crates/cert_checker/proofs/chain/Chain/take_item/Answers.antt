use Rattle.std.proofs.Common.{rules}
use Rattle.cert_checker.specs.Faults.{HasCases}
use Rattle.cert_checker.proofs.Chains.{changes}
use Rattle.cert_checker.proofs.chain.Chain.take_item.Goals as goal

pub returns : goal.returns
returns c =
    let told : HasCases c.args.self.now.subject c.args.self.now.context c.args.item.now =
    search rules in
    changes _ c.args.self.now _ c.args.item.now _ told c.take_content.ensures
