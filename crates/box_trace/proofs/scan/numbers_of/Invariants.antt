use Rattle.std.proofs.Common.{◌≡◌, map, take}
use Rattle.rule_universe.specs.declared.placed.Placed.{Placed}
use Rattle.box_trace.specs.Tables.{place_in}
use Rattle.box_trace.proofs.scan.numbers_of.Given as goal

abbrev pub invariant-loop-p : goal.invariant-loop-p
invariant-loop-p l =
    l.numbers.items ≡ map (λ (p : Placed). place_in l.uni l.now p.slot) (take l.p-index l.placed)
