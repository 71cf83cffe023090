use Rattle.std.proofs.Common.{◌<◌, length, arith}
use Rattle.command_line.proofs.Long.{long_is_none}
use Rattle.command_line.proofs.numbers.number.Goals as goal

pub returns-then-digits-gt4-clause-is : goal.returns-then-digits-gt4-clause-is
returns-then-digits-gt4-clause-is c =
    let long : 4 < length c.args.text.now =
    omega (arith, c.as_bytes-digits.ensures.len, c.if-digits-gt4.true) in
    long_is_none c.args.low c.args.high c.args.text.now c.requires long
