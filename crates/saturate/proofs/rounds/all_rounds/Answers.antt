use Rattle.std.proofs.Common.{◌≡◌, arith, length}
use Rattle.std.proofs.lemmas.Grind.{common_steps}
use Rattle.std.proofs.lemmas.List.Sums.{count_by-le-length}
use Rattle.saturate.proofs.rounds.all_rounds.Goals as goal

pub returns-clause-cost : goal.returns-clause-cost
returns-clause-cost g c = λ rising best b.
    let all = count_by-le-length (λ b. b) c.begin.new.self.due.items in
    let h = c.rounds_in.ensures.cost rising best b in
    let long : length c.begin.new.self.due.items ≡ length c.args.uni.now.instances =
    grind (arith, common_steps) in
    omega (arith, all, h, long)
