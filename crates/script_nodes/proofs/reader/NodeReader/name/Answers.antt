use Rattle.std.proofs.Common.{Some}
use Rattle.script_nodes.proofs.Named.{named_as, named_put, named_past}
use Rattle.script_nodes.proofs.reader.NodeReader.name.Goals as goal

pub returns-in-Some-clause-put : goal.returns-in-Some-clause-put
returns-in-Some-clause-put c =
    named_as c.args.self.now.known c.args.name.now (Some c.in-Some.x) c.in-Some.ensures.entry

pub returns-in-None-clause-put : goal.returns-in-None-clause-put
returns-in-None-clause-put c = named_put c.args.self.now.known c.variable.new.self.known
    c.args.name.now c.variable.result c.in-None.ensures.entry c.variable.ensures.put

pub returns-in-None-clause-full : goal.returns-in-None-clause-full
returns-in-None-clause-full c = λ e. named_past c.args.self.now.known c.args.name.now
    c.in-None.ensures.entry (c.variable.ensures.full e)
