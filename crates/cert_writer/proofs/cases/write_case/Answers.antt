use Rattle.std.specs.Prelude.{◌+◌, List, drop}
use Rattle.std.specs.List.{AllByRecursion}
use Rattle.std.proofs.Common.{sym, ◌∙◌, ap, subst, arith}
use Rattle.script_claims.specs.declared.claim.Claim.{Claim}
use Rattle.script_claims.specs.Facts.{HasNormalBounds, facts_of}
use Rattle.script_grammar.specs.Cases.{cases_of}
use Rattle.rule_universe.specs.Assumed.{assuming}
use Rattle.rule_universe.specs.Worlds.{World}
use Rattle.universe.specs.Cases.{AreHypotheses}
use Rattle.universe.specs.Universes.{IsUniverse}
use Rattle.settler.proofs.CasesLaws.{case_of}
use Rattle.cert_writer.proofs.Files.{on_err}
use Rattle.cert_writer.specs.Cases.{bare, task, target_of, StandsAt, OfStanding, GrewFront}
use Rattle.cert_writer.proofs.NextCase.{drop_there, still, is_course, is_before, past_case}
use Rattle.cert_writer.proofs.NextCase.{front_case}
use Rattle.cert_writer.proofs.cases.write_case.Goals as goal

pub assume-requires-clause-claims : goal.assume-requires-clause-claims
assume-requires-clause-claims g c =
    let s = c.args.job.now.script.now in
    let is = case_of s c.args.job.now.options.depth c.args.job.now.cases.items c.requires.job.cases
    c.args.number c.index-case.result.now c.requires.number c.index-case.ensures in
    subst (AreHypotheses s) (sym c.as_slice.ensures) is.1.claims

pub assume-requires-clause-normal : goal.assume-requires-clause-normal
assume-requires-clause-normal g c =
    let s = c.args.job.now.script.now in
    let is = case_of s c.args.job.now.options.depth c.args.job.now.cases.items c.requires.job.cases
    c.args.number c.index-case.result.now c.requires.number c.index-case.ensures in
    subst (AllByRecursion HasNormalBounds) (sym c.as_slice.ensures) is.1.normal

pub index-case-requires : goal.index-case-requires
index-case-requires g c =
    let number = c.requires.number in
    let long = c.args.job.now.cases.ok.0 in
    omega (arith, number, long)

pub returns-in_err-assume-clause-job : goal.returns-in_err-assume-clause-job
returns-in_err-assume-clause-job g c =
    let s = c.args.job.now.script.now in
    record {
      universe = subst (λ (u : World). (before : List Claim) × IsUniverse s before u)
          (sym c.in_err-assume.ensures.kept) c.requires.job.universe;
      few = c.requires.job.few;
      cases = c.requires.job.cases;
      allowed = c.requires.job.allowed;
    }

pub returns-in_err-assume-clause-bare : goal.returns-in_err-assume-clause-bare
returns-in_err-assume-clause-bare g c = ap bare c.in_err-assume.ensures.kept

pub returns-in_err-assume-clause-err : goal.returns-in_err-assume-clause-err
returns-in_err-assume-clause-err g c =
    let told = g.F.Folder.told c.args.folder.now c.args.name.now in
    let u = bare c.args.job.now.universe in
    on_err c.from_residual.result
    (OfStanding c.args.job.now.script.now u c.args.job.now.options.rounds
    c.args.job.now.options.depth c.args.number c.args.seen
    (λ w items. GrewFront w items told told))
    (still c.writing_goes_on.ensures c.args.job.now.script.now u c.args.job.now.options.rounds
    c.args.job.now.options.depth c.args.number
    c.args.seen told)

pub write_box-requires : goal.write_box-requires
write_box-requires g c =
    let s = c.args.job.now.script.now in
    let case = c.index-case.result.now in
    let is = case_of s c.args.job.now.options.depth c.args.job.now.cases.items c.requires.job.cases
    c.args.number case c.requires.number c.index-case.ensures in
    let cs = cases_of s in
    let later = drop (c.args.number + 1) cs in
    let st = c.requires.stands in
    let w = task s (bare c.args.job.now.universe) c.args.job.now.options.rounds
    c.args.job.now.options.depth st.0 st.1 in
    let b = subst (λ xs. StandsAt w c.args.number xs c.args.seen st.2)
    (drop_there cs c.args.number case.claims is.0) st.3 in
    let same = c.in_ok-assume.ensures.assumed ∙ ap
    (λ xs. assuming c.args.job.now.universe (facts_of xs)) c.as_slice.ensures in
    record {
      somewhere = (
        target_of w c.args.number b.roots,
        w.lines,
        b.states,
        b.place,
        is_course w c.args.number case.claims later c.args.seen st.2 b c.assume.new.universe
            case.plan same is.1.plan c.laws-2.ensures.universe c.script_has_room.ensures.slots
            c.laws.ensures,
        is_before w c.args.number case.claims later c.args.seen st.2 b c.assume.new.universe
            case.plan same is.1.plan c.root.result c.root.ensures,
      );
    }

pub returns-in_err-next-clause-job : goal.returns-in_err-next-clause-job
returns-in_err-next-clause-job g c = record {
  universe = (c.as_slice.result.now, c.in_ok-assume.ensures.universe);
  few = c.requires.job.few;
  cases = c.requires.job.cases;
  allowed = c.requires.job.allowed;
}

pub returns-in_err-next-clause-bare : goal.returns-in_err-next-clause-bare
returns-in_err-next-clause-bare g c = ap bare c.in_ok-assume.ensures.assumed

pub returns-in_err-next-clause-err : goal.returns-in_err-next-clause-err
returns-in_err-next-clause-err g c =
    let s = c.args.job.now.script.now in
    let case = c.index-case.result.now in
    let is = case_of s c.args.job.now.options.depth c.args.job.now.cases.items c.requires.job.cases
    c.args.number case c.requires.number c.index-case.ensures in
    let old = g.F.Folder.told c.args.folder.now c.args.name.now in
    let new = g.F.Folder.told c.write_box.new.folder c.args.name.now in
    let cs = cases_of s in
    let later = drop (c.args.number + 1) cs in
    let same = c.in_ok-assume.ensures.assumed ∙ ap
    (λ xs. assuming c.args.job.now.universe (facts_of xs)) c.as_slice.ensures in
    on_err c.from_residual-in_err-next.result (OfStanding s
    (bare c.args.job.now.universe) c.args.job.now.options.rounds c.args.job.now.options.depth
    c.args.number c.args.seen
    (λ w items. GrewFront w items old new))
    (λ t lines items stands.
    let w = task s (bare c.args.job.now.universe) c.args.job.now.options.rounds
    c.args.job.now.options.depth t lines in
    let b = subst (λ xs. StandsAt w c.args.number xs c.args.seen items)
    (drop_there cs c.args.number case.claims is.0) stands in
    front_case w c.args.number case.claims later c.args.seen items b c.assume.new.universe
    case.plan same is.1.plan old new
    (c.in_err-next.ensures.err (target_of w c.args.number b.roots) w.lines b.states b.place
    (is_course w c.args.number case.claims later c.args.seen items b c.assume.new.universe
    case.plan same is.1.plan c.laws-2.ensures.universe c.script_has_room.ensures.slots
    c.laws.ensures)
    (is_before w c.args.number case.claims later c.args.seen items b c.assume.new.universe
    case.plan same is.1.plan c.root.result c.root.ensures)))

pub returns-clause-ok : goal.returns-clause-ok
returns-clause-ok g c = λ t lines items stands.
    let s = c.args.job.now.script.now in
    let case = c.index-case.result.now in
    let is = case_of s c.args.job.now.options.depth c.args.job.now.cases.items c.requires.job.cases
    c.args.number case c.requires.number c.index-case.ensures in
    let old = g.F.Folder.told c.args.folder.now c.args.name.now in
    let new = g.F.Folder.told c.write_box.new.folder c.args.name.now in
    let cs = cases_of s in
    let later = drop (c.args.number + 1) cs in
    let same = c.in_ok-assume.ensures.assumed ∙ ap
    (λ xs. assuming c.args.job.now.universe (facts_of xs)) c.as_slice.ensures in
    let w = task s (bare c.args.job.now.universe) c.args.job.now.options.rounds
    c.args.job.now.options.depth t lines in
    let b = subst (λ xs. StandsAt w c.args.number xs c.args.seen items)
    (drop_there cs c.args.number case.claims is.0) stands in
    past_case w c.args.number case.claims later c.args.seen items b c.assume.new.universe
    case.plan same is.1.plan c.writing_goes_on.ensures old new c.in_ok-next.next
    (c.in_ok-next.ensures.ok (target_of w c.args.number b.roots) w.lines b.states b.place
    (is_course w c.args.number case.claims later c.args.seen items b c.assume.new.universe
    case.plan same is.1.plan c.laws-2.ensures.universe c.script_has_room.ensures.slots
    c.laws.ensures)
    (is_before w c.args.number case.claims later c.args.seen items b c.assume.new.universe
    case.plan same is.1.plan c.root.result c.root.ensures))

pub returns-clause-job : goal.returns-clause-job
returns-clause-job g c = record {
  universe = (c.as_slice.result.now, c.in_ok-assume.ensures.universe);
  few = c.requires.job.few;
  cases = c.requires.job.cases;
  allowed = c.requires.job.allowed;
}

pub returns-clause-bare : goal.returns-clause-bare
returns-clause-bare g c = ap bare c.in_ok-assume.ensures.assumed

pub script_has_room-requires : goal.script_has_room-requires
script_has_room-requires g c = (c.as_slice.result.now, c.in_ok-assume.ensures.universe)
