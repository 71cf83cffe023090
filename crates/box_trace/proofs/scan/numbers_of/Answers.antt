use Rattle.std.proofs.Common.{◌++◌, [], ◌∷◌, map, take, slice_index_or, sym, ap, ◌∙◌, arith}
use Rattle.std.proofs.lemmas.List.{map_more, take_all}
use Rattle.std.proofs.lemmas.List.Elements.{Contains-get_or}
use Rattle.rule_universe.specs.declared.placed.Placed.{Placed}
use Rattle.rule_universe.proofs.InTurn.{none_left}
use Rattle.box_trace.specs.Tables.{place_in}
use Rattle.box_trace.proofs.Taken.{map_slots}
use Rattle.box_trace.proofs.scan.numbers_of.Goals as goal

pub number_at-number-requires : goal.number_at-number-requires
number_at-number-requires c =
    c.requires (slice_index_or c.args.placed.now c.loop-p.p-index none_left)
    (Contains-get_or c.args.placed.now c.loop-p.p-index none_left c.loop-p-test.true)

pub loop-p-preserved : goal.loop-p-preserved
loop-p-preserved c =
    let f = λ (p : Placed). place_in c.args.uni.now c.args.now.now p.slot in
    let placed = c.args.placed.now in
    let i = c.loop-p.p-index in
    c.in_ok-push.ensures.items ∙ ap (λ l. l ++ c.number_at-number.result ∷ []) c.loop-p.invariant
    ∙ ap (λ n. map f (take i placed) ++ n ∷ []) c.number_at-number.ensures
    ∙ sym (map_more f placed i none_left c.loop-p-test.true)

pub returns : goal.returns
returns c =
    let f = λ (p : Placed). place_in c.args.uni.now c.args.now.now p.slot in
    c.loop-p.invariant
    ∙ ap (map f) (take_all c.loop-p.p-index c.args.placed.now (omega (arith, c.loop-p-test.false)))
    ∙ map_slots (place_in c.args.uni.now c.args.now.now) c.args.placed.now
