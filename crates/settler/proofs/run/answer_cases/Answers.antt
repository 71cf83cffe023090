use Rattle.std.specs.Prelude.{◌≡◌, ◌≤◌, ◌+◌, [], ◌∷◌, Some, drop, slice_get}
use Rattle.std.specs.List.{AllByRecursion}
use Rattle.std.proofs.Common.{arith, sym, ◌∙◌, ap, subst, refl}
use Rattle.std.proofs.lemmas.Option.{slice_get-get_or}
use Rattle.script_claims.specs.Facts.{HasNormalBounds, facts_of}
use Rattle.rule_universe.specs.Assumed.{assuming}
use Rattle.universe.specs.Cases.{AreHypotheses}
use Rattle.universe.specs.Universes.{IsUniverse}
use Rattle.box_tree.specs.Plans.{cut_at}
use Rattle.bisect.specs.Trees.{tree_of}
use Rattle.bisect.specs.declared.outcome.Outcome.TheVariants as outcome
use Rattle.case_trees.specs.Gathered.{Seen, EndsAs, IsWithin}
use Rattle.settler.specs.Cases.{trees_in}
use Rattle.settler.specs.Decided.{state_at}
use Rattle.settler.specs.Frames.{Fits}
use Rattle.settler.proofs.Onward.{ArePlanned, planned_at, planned_drop, drop_at, drop_none}
use Rattle.settler.proofs.Onward.{drop_all, none_left, too_many, joins, same_limit, one_more_case}
use Rattle.settler.proofs.Onward.{stays_within}
use Rattle.settler.proofs.run.answer_cases.Goals as goal

pub loop-case-init : goal.loop-case-init
loop-case-init g c = record {
  ends = λ found e.
      let u = c.args.universe.now in
      subst (λ w. EndsAs w (trees_in u c.args.options.rounds c.args.cases.now) found)
      c.new-gathered.ensures
      (subst (λ xs. EndsAs c.new-gathered.result (trees_in u c.args.options.rounds xs) found)
      (drop_none c.args.cases.now) e);
  limit = ap (λ w. w.limit) c.new-gathered.ensures;
  few = let e = ap (λ w. w.cases) c.new-gathered.ensures in omega (arith, e);
  room = let e = ap (λ w. w.boxes) c.new-gathered.ensures in omega (arith, e);
  universe = c.requires.universe;
  same = λ facts. refl;
}

pub returns-then-left-eq0 : goal.returns-then-left-eq0
returns-then-left-eq0 g c =
    let s = c.args.script.now in
    let u = c.args.universe.now in
    let r = c.args.options.rounds in
    let cs = c.args.cases.now in
    let i = c.loop-case.case-index in
    let case = c.case-item.result in
    let w = c.loop-case.gathered in
    let item : slice_get cs i ≡ Some case = slice_get-get_or cs i case
    (omega (arith, c.loop-case-test.true)) ∙ ap Some (sym c.case-item.is) in
    let split : drop i cs ≡ case ∷ drop (i + 1) cs = drop_at cs i case item in
    let planned : ArePlanned s (case ∷ drop (i + 1) cs) =
    subst (ArePlanned s) split (planned_drop s cs c.requires.cases i) in
    let left = c.left-left.ensures.left in
    let none = c.if-left-eq0.true in
    record {
      comes = c.trees_are_gathered.ensures.starts (trees_in u r cs) c.args.options.boxes
          outcome.BoxLimit
          (c.loop-case.invariant.ends outcome.BoxLimit
          (subst (λ xs. EndsAs w (trees_in u r xs) outcome.BoxLimit) (sym split)
          (none_left c.trees_are_gathered.ensures.boxes s u r c.trees_are_gathered.ensures.none
          w case (drop (i + 1) cs) planned (omega (arith, left, none)))));
      universe = c.loop-case.invariant.universe;
    }

pub assume-requires-clause-universe : goal.assume-requires-clause-universe
assume-requires-clause-universe g c = c.loop-case.invariant.universe

pub assume-requires-clause-claims : goal.assume-requires-clause-claims
assume-requires-clause-claims g c =
    let s = c.args.script.now in
    let cs = c.args.cases.now in
    let case = c.case-item.result in
    let item : slice_get cs c.loop-case.case-index ≡ Some case =
    slice_get-get_or cs c.loop-case.case-index case (omega (arith, c.loop-case-test.true))
    ∙ ap Some (sym c.case-item.is) in
    subst (AreHypotheses s) (sym c.as_slice.ensures)
    (planned_at s cs c.requires.cases c.loop-case.case-index case item).1.claims

pub assume-requires-clause-normal : goal.assume-requires-clause-normal
assume-requires-clause-normal g c =
    let s = c.args.script.now in
    let cs = c.args.cases.now in
    let case = c.case-item.result in
    let item : slice_get cs c.loop-case.case-index ≡ Some case =
    slice_get-get_or cs c.loop-case.case-index case (omega (arith, c.loop-case-test.true))
    ∙ ap Some (sym c.case-item.is) in
    subst (AllByRecursion HasNormalBounds) (sym c.as_slice.ensures)
    (planned_at s cs c.requires.cases c.loop-case.case-index case item).1.normal

pub answered-requires-clause-fits : goal.answered-requires-clause-fits
answered-requires-clause-fits g c =
    let s = c.args.script.now in
    let cs = c.args.cases.now in
    let case = c.case-item.result in
    let item : slice_get cs c.loop-case.case-index ≡ Some case =
    slice_get-get_or cs c.loop-case.case-index case (omega (arith, c.loop-case-test.true))
    ∙ ap Some (sym c.case-item.is) in
    let is = planned_at s cs c.requires.cases c.loop-case.case-index case item in
    let universe : IsUniverse s case.claims c.assume.new.universe = subst (λ claims.
    IsUniverse s claims c.assume.new.universe) c.as_slice.ensures c.in_ok-assume.ensures.universe in
    subst (Fits c.assume.new.universe) (sym is.1.plan)
    (c.plans_fit.ensures s case.claims is.0 universe)

pub answered-requires-clause-allowed : goal.answered-requires-clause-allowed
answered-requires-clause-allowed g c =
    let left = c.left-left.ensures.left in
    let limit = c.loop-case.invariant.limit in
    let allowed = c.requires.allowed in
    let most = allowed.boxes.1 in
    record {
      rounds = allowed.rounds;
      depth = allowed.depth;
      boxes = (omega (arith, c.if-left-eq0.false), omega (arith, left, limit, most));
      workers = allowed.workers;
    }

pub add-requires-clause-few : goal.add-requires-clause-few
add-requires-clause-few g c =
    let few = c.loop-case.invariant.few in
    let all = c.requires.few in
    omega (arith, few, all, c.loop-case-test.true)

pub add-requires-clause-within : goal.add-requires-clause-within
add-requires-clause-within g c =
    let case = c.case-item.result in
    subst (λ n. IsWithin n c.in_ok-outcome.outcome) c.left-left.ensures.left
    (c.trees_are_gathered.ensures.within (tree_of (cut_at case.plan) (state_at c.assume.new.universe
    case.plan c.args.options.rounds)) c.left-left.result c.in_ok-outcome.outcome
    c.in_ok-outcome.ensures)

pub returns-then-not-branch : goal.returns-then-not-branch
returns-then-not-branch g c =
    let s = c.args.script.now in
    let u = c.args.universe.now in
    let r = c.args.options.rounds in
    let cs = c.args.cases.now in
    let i = c.loop-case.case-index in
    let case = c.case-item.result in
    let w = c.loop-case.gathered in
    let inv = c.loop-case.invariant in
    let item : slice_get cs i ≡ Some case = slice_get-get_or cs i case
    (omega (arith, c.loop-case-test.true)) ∙ ap Some (sym c.case-item.is) in
    let split : drop i cs ≡ case ∷ drop (i + 1) cs = drop_at cs i case item in
    let planned : ArePlanned s (case ∷ drop (i + 1) cs) =
    subst (ArePlanned s) split (planned_drop s cs c.requires.cases i) in
    let universe : c.assume.new.universe ≡ assuming u (facts_of case.claims) =
    c.in_ok-assume.ensures.assumed ∙ ap (λ claims. assuming c.loop-case.universe
    (facts_of claims)) c.as_slice.ensures ∙ inv.same (facts_of case.claims) in
    record {
      comes = c.trees_are_gathered.ensures.starts (trees_in u r cs) c.args.options.boxes
          outcome.BoxLimit
          (inv.ends outcome.BoxLimit
          (subst (λ xs. EndsAs w (trees_in u r xs) outcome.BoxLimit) (sym split)
          (too_many c.trees_are_gathered.ensures.boxes s u r c.trees_are_gathered.ensures.over
          w c.assume.new.universe case (drop (i + 1) cs) c.left-left.result c.in_ok-outcome.outcome
          planned c.left-left.ensures.within universe c.left-left.ensures.left
          c.in_ok-outcome.ensures (c.in_ok-add.ensures.over c.if-not-branch.true))));
      universe = (c.as_slice.result.now, c.in_ok-assume.ensures.universe);
    }

pub loop-case-preserved : goal.loop-case-preserved
loop-case-preserved g c =
    let s = c.args.script.now in
    let u = c.args.universe.now in
    let r = c.args.options.rounds in
    let cs = c.args.cases.now in
    let i = c.loop-case.case-index in
    let case = c.case-item.result in
    let w = c.loop-case.gathered in
    let o = c.in_ok-outcome.outcome in
    let inv = c.loop-case.invariant in
    let item : slice_get cs i ≡ Some case = slice_get-get_or cs i case
    (omega (arith, c.loop-case-test.true)) ∙ ap Some (sym c.case-item.is) in
    let split : drop i cs ≡ case ∷ drop (i + 1) cs = drop_at cs i case item in
    let universe : c.assume.new.universe ≡ assuming u (facts_of case.claims) =
    c.in_ok-assume.ensures.assumed ∙ ap (λ claims. assuming c.loop-case.universe
    (facts_of claims)) c.as_slice.ensures ∙ inv.same (facts_of case.claims) in
    let more = c.in_ok-add.ensures.added c.if-not-branch.false in
    record {
      ends = λ found e.
          inv.ends found (subst (λ xs. EndsAs w (trees_in u r xs) found) (sym split)
          (joins c.trees_are_gathered.ensures.boxes s u r c.trees_are_gathered.ensures.goes_on w
          c.add.new.self c.assume.new.universe case (drop (i + 1) cs) c.left-left.result o
          c.left-left.ensures.within universe c.left-left.ensures.left c.in_ok-outcome.ensures
          (c.in_ok-add.ensures.all c.if-not-branch.false) more found e));
      limit = ap (λ x. x.limit) more ∙ same_limit w o ∙ inv.limit;
      few =
          let e = ap (λ x. x.cases) more in
          let one = one_more_case w o in
          let few = inv.few in
          omega (arith, e, one, few);
      room = subst (λ (x : Seen). x.boxes ≤ x.limit) (sym more)
          (stays_within w o c.left-left.ensures.within
          (subst (λ n. IsWithin n o) c.left-left.ensures.left
          (c.trees_are_gathered.ensures.within (tree_of (cut_at case.plan) (state_at
          c.assume.new.universe case.plan r)) c.left-left.result o c.in_ok-outcome.ensures)));
      universe = (c.as_slice.result.now, c.in_ok-assume.ensures.universe);
      same = λ facts. ap (λ v. assuming v facts) c.in_ok-assume.ensures.assumed ∙ inv.same facts;
    }

pub returns : goal.returns
returns g c =
    let u = c.args.universe.now in
    let r = c.args.options.rounds in
    let cs = c.args.cases.now in
    let i = c.loop-case.case-index in
    let w = c.loop-case.gathered in
    let inv = c.loop-case.invariant in
    record {
      comes = c.trees_are_gathered.ensures.starts (trees_in u r cs) c.args.options.boxes
          c.finish.result
          (inv.ends c.finish.result (subst (λ xs. EndsAs w (trees_in u r xs) c.finish.result)
          (sym (drop_all cs i (omega (arith, c.loop-case-test.false))))
          (subst (EndsAs w []) (sym c.finish.ensures)
          (c.trees_are_gathered.ensures.end w inv.room))));
      universe = inv.universe;
    }
