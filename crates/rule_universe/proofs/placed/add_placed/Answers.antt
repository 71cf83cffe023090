use Rattle.std.proofs.Common.{arith, length, slice_index_or, refl}
use Rattle.std.proofs.lemmas.List.Elements.{Contains-get_or}
use Rattle.facts.specs.declared.fact.Slot.{Slot}
use Rattle.facts.specs.declared.fact.Slot.TheVariants as slot
use Rattle.rule_universe.specs.declared.placed.Placed.{Placed}
use Rattle.rule_universe.proofs.PlacedMore.{placed_start, placed_more, placed_end}
use Rattle.rule_universe.proofs.placed.add_placed.Goals as goal

-- what stands behind the last slot
abbrev none_left : Slot
none_left = slot.Bnd (record { 0 = 0 })

pub loop-s-init : goal.loop-s-init
loop-s-init c =
    placed_start (length c.args.nodes.now) c.args.pairs.now c.args.slots.now c.args.items.now.items

pub known_place-place-requires-clause-slot : goal.known_place-place-requires-clause-slot
known_place-place-requires-clause-slot c =
    c.requires.slots (slice_index_or c.args.slots.now c.loop-s.s-index none_left)
    (Contains-get_or c.args.slots.now c.loop-s.s-index none_left c.loop-s-test.true)

pub loop-s-preserved : goal.loop-s-preserved
loop-s-preserved c =
    let p : Placed = record {
      slot = slice_index_or c.args.slots.now c.loop-s.s-index none_left;
      place = c.known_place-place.result;
    } in
    placed_more (length c.args.nodes.now) c.args.pairs.now c.args.slots.now c.args.items.now.items
    c.loop-s.items.items c.push.new.self.items c.loop-s.s-index none_left p
    c.loop-s-test.true refl c.known_place-place.ensures
    c.in_ok-push.ensures.items c.loop-s.invariant

pub returns : goal.returns
returns c =
    placed_end (length c.args.nodes.now) c.args.pairs.now c.args.slots.now c.args.items.now.items
    c.loop-s.items.items c.loop-s.s-index
    (omega (arith, c.loop-s-test.false, c.loop-s.auto.s-index-end)) c.loop-s.invariant
