use Rattle.std.specs.Prelude.{◌≡◌, map, take}
use Rattle.script_hints.specs.Needs.{need_of}
use Rattle.rewrite_hints.proofs.rows.needs_of.Given as goal

abbrev pub invariant-loop-constraint : goal.invariant-loop-constraint
invariant-loop-constraint l = l.needs.items ≡ map need_of (take l.constraint-index l.constraints)
