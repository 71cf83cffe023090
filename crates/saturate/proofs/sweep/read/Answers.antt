use Rattle.std.proofs.Common.{◌≡◌, ◌+◌, Some, arith, sym, subst, ap, ◌∙◌, inl, inr, drop, slice_get}
use Rattle.std.specs.List.{Contains}
use Rattle.std.proofs.lemmas.List.{take_all}
use Rattle.std.proofs.lemmas.List.Elements.{Contains-get_or}
use Rattle.std.proofs.lemmas.Option.{get_or_from_slice_get}
use Rattle.derivation.specs.Rounds.{all_at, with_first}
use Rattle.rule_universe.specs.declared.placed.Placed.{Placed}
use Rattle.rule_universe.proofs.InTurn.{none_left, here, rest_is}
use Rattle.rule_universe.specs.Placed.{slots_of}
use Rattle.saturate.proofs.Gather.{after, after_first}
use Rattle.saturate.proofs.Lists.{taken_cases}
use Rattle.saturate.proofs.sweep.read.Goals as goal

pub bounds-heights-p : goal.bounds-heights-p
bounds-heights-p g c = c.requires.within (here c.args.placed.now c.loop-p.p-index)
    (Contains-get_or c.args.placed.now c.loop-p.p-index none_left c.loop-p-test.true)

pub loop-p-preserved : goal.loop-p-preserved
loop-p-preserved g c =
    let row = c.args.placed.now in
    let n = c.loop-p.p-index in
    let at = g.K.Sweeps.facts c.args.uni.now c.args.kept.now in
    let p : Placed = here row n in
    let ps = c.loop-p.premises.items in
    let rest = slots_of (drop (n + 1) row) in
    let found : at p.slot ≡ Some c.in-Some.f = sym c.fact_on.ensures ∙ c.in-Some.is in
    record {
      read = c.loop-p.invariant.read
          ∙ ap (λ l. after ps (all_at at (slots_of l))) (rest_is row n c.loop-p-test.true)
          ∙ ap (λ o. after ps (with_first o (all_at at rest))) found
          ∙ after_first ps c.in-Some.f (all_at at rest)
          ∙ ap (λ l. after l (all_at at rest)) (sym c.in_ok-push-in-Some.ensures.items);
      most = λ q h w e.
          elim (taken_cases row n none_left q c.loop-p-test.true w) [
            | inl y ↦
                (let l = c.loop-p.invariant.most q h y e in
                omega (arith, l, c.greater-top.ensures.first))
            | inr d ↦
                (let same = get_or_from_slice_get c.args.heights.now p.place h 0
                (subst (λ (x : Placed). slice_get c.args.heights.now x.place ≡ Some h) d e) in
                omega (arith, same, c.greater-top.ensures.second))
          ];
    }

pub returns-clause-heights : goal.returns-clause-heights
returns-clause-heights g c = λ p h w e.
    c.loop-p.invariant.most p h
    (subst (λ l. Contains l p) (sym (take_all c.loop-p.p-index c.args.placed.now (omega arith)))
    w) e
