use Rattle.std.proofs.Common.{◌++◌}
use Rattle.literal.specs.Parts.{scale_of}
use Rattle.literal.proofs.Bodies.{none_unpointed, one_unpointed}
use Rattle.literal.proofs.scan.unpointed.Goals as goal

pub returns-in_default : goal.returns-in_default
returns-in_default c = none_unpointed c.args.hexadecimal (c.args.whole.now ++ c.args.rest.now)
    c.args.whole.now c.args.rest.now c.requires.front c.requires.apart c.in_default.ensures

pub returns : goal.returns
returns c = one_unpointed c.args.hexadecimal (c.args.whole.now ++ c.args.rest.now) c.args.whole.now
    c.args.rest.now c.requires.front (scale_of c.in-Some.end) c.requires.some c.requires.apart
    c.in-Some.ensures.0 c.in-Some.ensures.1
