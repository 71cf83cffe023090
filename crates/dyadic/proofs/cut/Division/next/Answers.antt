use Rattle.std.proofs.Common.{arith}
use Rattle.dyadic.proofs.CutLemmas.{rest_whole, quotient_whole, sum_fits, turned}
use Rattle.dyadic.proofs.cut.Division.next.Goals as goal

pub overflow_add-result : goal.overflow_add-result
overflow_add-result c = let q = c.args.self.quotient in let r = c.args.self.rest in
    let d = c.args.divisor in let s = c.args.turn in
    rw (
      rest_whole q r d s c.requires.quotient c.requires.few c.requires.rest c.requires.room,
      quotient_whole q r d s c.requires.quotient c.requires.few c.requires.rest c.requires.room,
    )
    (let f = sum_fits q r d s c.requires.quotient c.requires.few c.requires.rest c.requires.room in
    omega arith)

pub returns-clause-value : goal.returns-clause-value
returns-clause-value c = let q = c.args.self.quotient in let r = c.args.self.rest in
    let d = c.args.divisor in let s = c.args.turn in
    rw (
      rest_whole q r d s c.requires.quotient c.requires.few c.requires.rest c.requires.room,
      quotient_whole q r d s c.requires.quotient c.requires.few c.requires.rest c.requires.room,
    )
    (turned q r d s c.requires.quotient c.requires.few c.requires.rest c.requires.room)
