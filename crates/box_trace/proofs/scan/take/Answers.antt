use Rattle.std.proofs.Common.{ap, ◌∙◌, arith, length-set, length, Some, refl}
use Rattle.rule_universe.proofs.OnePlace.{place_within}
use Rattle.box_trace.proofs.Taken.{taken_beaten, taken_noted}
use Rattle.box_trace.proofs.scan.take.Goals as goal

pub returns-then-has_as_strong : goal.returns-then-has_as_strong
returns-then-has_as_strong c =
    let u = c.args.uni.now in
    record {
      visited = taken_beaten u c.laws.ensures.universe.once (c.rules_are_lawful.ensures u.nodes
          u.hints).on_target c.args.now.now c.args.k c.args.place c.args.c c.requires.concluded
          c.in_default.not-Void c.args.ends.now.items c.if-has_as_strong.ensures;
      count = refl;
    }

pub note-requires : goal.note-requires
note-requires c =
    let u = c.args.uni.now in
    let l = place_within (length u.nodes) u.pairs
    (c.requires.concluded.0).target c.args.place c.requires.concluded.3 in
    omega (arith, l, c.requires.count)

pub returns-else-has_as_strong : goal.returns-else-has_as_strong
returns-else-has_as_strong c =
    let u = c.args.uni.now in
    let l = place_within (length u.nodes) u.pairs
    (c.requires.concluded.0).target c.args.place c.requires.concluded.3 in
    record {
      visited = taken_noted u c.laws.ensures.universe.once (c.rules_are_lawful.ensures u.nodes
          u.hints).on_target c.args.now.now c.args.k c.args.place c.args.c c.requires.concluded
          c.in_default.not-Void c.args.ends.now.items c.note.new.ends.items
          (omega (arith, l, c.requires.count)) c.note.ensures;
      count = ap length c.note.ensures.1
          ∙ length-set c.args.ends.now.items c.args.place (Some c.note.ensures.0);
    }
