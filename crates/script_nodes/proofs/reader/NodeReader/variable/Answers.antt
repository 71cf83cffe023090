use Rattle.std.proofs.Common.{◌≡◌, ◌≤◌, arith, reverse, length, ◌∙◌}
use Rattle.std.specs.List.{position_or_len}
use Rattle.std.specs.Str.{bytes_eq}
use Rattle.script_nodes.specs.Waits.{Reading}
use Rattle.script_nodes.proofs.VariableJoins.{place_within, sound_at, put_at, full_at}
use Rattle.script_nodes.proofs.reader.NodeReader.variable.Goals as goal

pub overflow_cast-place : goal.overflow_cast-place
overflow_cast-place c =
    let within = place_within c.args.name.now c.self.inside.variables in
    let place : c.in-Ok.place ≡ position_or_len (bytes_eq c.args.name.now) c.self.inside.variables =
    c.in-Ok.ensures.place in
    let count : length c.self.inside.variables ≤ length c.self.inside.dag =
    c.self.invariant.variables in
    let short = c.laws.ensures.short in
    omega arith

pub invariant_of-self-in-Ok-add : goal.invariant_of-self-in-Ok-add
invariant_of-self-in-Ok-add c =
    let r : Reading = record {
      known = record {
        nodes = c.self.inside.dag;
        variables = c.self.inside.variables;
        values = c.self.inside.values;
        operators = c.self.inside.operators;
      };
      waits = reverse c.self.inside.waits.items;
    } in
    sound_at r c.args.name.now c.add.new.self c.put.new.self c.in-Ok.place c.in-Ok-add.x
    c.self.invariant c.in-Ok.ensures.names c.in-Ok.ensures.place c.in-Ok-add.ensures.placed

pub returns-in-Ok-add-clause-put : goal.returns-in-Ok-add-clause-put
returns-in-Ok-add-clause-put c =
    let r : Reading = record {
      known = record {
        nodes = c.self.inside.dag;
        variables = c.self.inside.variables;
        values = c.self.inside.values;
        operators = c.self.inside.operators;
      };
      waits = reverse c.self.inside.waits.items;
    } in
    put_at r c.args.self.now c.args.name.now c.add.new.self c.put.new.self
    c.in-Ok.place c.in-Ok-add.x c.self.view_is c.in-Ok.ensures.names c.in-Ok.ensures.place
    c.in-Ok-add.ensures.computes

pub returns-in-Err-clause-full : goal.returns-in-Err-clause-full
returns-in-Err-clause-full c = λ e.
    let r : Reading = record {
      known = record {
        nodes = c.self.inside.dag;
        variables = c.self.inside.variables;
        values = c.self.inside.values;
        operators = c.self.inside.operators;
      };
      waits = reverse c.self.inside.waits.items;
    } in
    full_at r c.args.self.now c.args.name.now c.in-Ok.place c.self.view_is c.in-Ok.ensures.place
    (λ x n p. (c.laws.ensures.number x n).0 p) (c.add.ensures.full.0 (c.in-Err.is ∙ e))
