use Rattle.std.specs.Prelude.{◌+◌, length, refl}
use Rattle.std.proofs.Common.{sym, ◌∙◌, ap, subst, arith}
use Rattle.std.proofs.lemmas.List.{drop_all}
use Rattle.script_grammar.specs.Cases.{cases_of}
use Rattle.settler.proofs.CasesLaws.{as_many}
use Rattle.cert_bytes.specs.Styles.{none_seen}
use Rattle.whole_texts.proofs.OnlyWrites.{only_writes_none, only_writes_on}
use Rattle.cert_writer.proofs.Files.{on_err}
use Rattle.cert_writer.proofs.Jobs.{on_earlier, on_later, same_twice}
use Rattle.cert_writer.specs.Cases.{bare, task, whole_aim, StandsAt, StandsBefore, OfStanding}
use Rattle.cert_writer.specs.Cases.{GrewFront}
use Rattle.cert_writer.proofs.NextCase.{grew_none}
use Rattle.cert_writer.proofs.Turn.{begun_later, grew_both}
use Rattle.cert_writer.proofs.cases.write_cases.Goals as goal

pub loop-number-init : goal.loop-number-init
loop-number-init g c = record {
  job = c.requires.job;
  kept = record { script = refl; cases = refl; options = refl };
  same = refl;
  done = λ t lines items stands. (
    items,
    grew_none items (g.F.Folder.told c.args.folder.now c.args.name.now),
    subst (λ q. StandsBefore (task c.args.job.now.script.now (bare c.args.job.now.universe)
        c.args.job.now.options.rounds c.args.job.now.options.depth t lines) 0 q items)
        (sym c.none-next.ensures) stands,
  );
  only_writes = only_writes_none;
}

pub write_case-requires-clause-stands : goal.write_case-requires-clause-stands
write_case-requires-clause-stands g c =
    let st = c.requires.stands in
    let inv = c.loop-number.invariant in
    let h = inv.done st.0 st.1 st.2 st.3 in (
      st.0,
      st.1,
      h.0,
      on_later c.args.job.now c.loop-number.job inv.kept inv.same
          (λ s u o. StandsBefore (task s u o.rounds o.depth st.0 st.1) c.loop-number.number
          c.loop-number.next h.0) h.2,
    )

pub write_case-requires-clause-number : goal.write_case-requires-clause-number
write_case-requires-clause-number g c =
    let l = c.loop-number-test.true in
    let same = ap length c.loop-number.invariant.kept.cases in
    let count = c.len-number-end.ensures in
    let long = c.args.job.now.cases.ok.0 in
    omega (arith, l, same, count, long)

pub returns-in_err-next-clause-err : goal.returns-in_err-next-clause-err
returns-in_err-next-clause-err g c =
    let s = c.args.job.now.script.now in
    let o = c.args.job.now.options in
    let old = g.F.Folder.told c.args.folder.now c.args.name.now in
    let mid = g.F.Folder.told c.loop-number.folder c.args.name.now in
    let new = g.F.Folder.told c.write_case.new.folder c.args.name.now in
    let inv = c.loop-number.invariant in
    on_err c.from_residual.result (OfStanding s
    (bare c.args.job.now.universe) o.rounds o.depth 0 none_seen
    (λ w items. GrewFront w items old new))
    (λ t lines items stands.
    let h = inv.done t lines items stands in
    let here = on_later c.args.job.now c.loop-number.job inv.kept inv.same
    (λ s u o. StandsBefore (task s u o.rounds o.depth t lines) c.loop-number.number
    c.loop-number.next h.0) h.2 in
    begun_later (whole_aim (task s (bare c.args.job.now.universe) o.rounds o.depth t lines))
    items h.0 old mid new h.1
    (on_earlier c.args.job.now c.loop-number.job inv.kept inv.same
    (λ s u o. GrewFront (task s u o.rounds o.depth t lines) h.0 mid new)
    (c.in_err-next.ensures.err t lines h.0 here)))

pub loop-number-preserved : goal.loop-number-preserved
loop-number-preserved g c = record {
  job = c.in_ok-next.ensures.job;
  kept = same_twice c.args.job.now c.loop-number.job c.write_case.new.job
      c.loop-number.invariant.kept c.in_ok-next.ensures.same;
  same = c.in_ok-next.ensures.bare ∙ c.loop-number.invariant.same;
  done = λ t lines items stands.
      let old = g.F.Folder.told c.args.folder.now c.args.name.now in
      let mid = g.F.Folder.told c.loop-number.folder c.args.name.now in
      let new = g.F.Folder.told c.write_case.new.folder c.args.name.now in
      let inv = c.loop-number.invariant in
      let n = c.loop-number.number in
      let h = inv.done t lines items stands in
      let here = on_later c.args.job.now c.loop-number.job inv.kept inv.same
      (λ s u o. StandsBefore (task s u o.rounds o.depth t lines) n c.loop-number.next h.0) h.2 in
      let k = c.in_ok-next.ensures.ok t lines h.0 here in (
        k.0,
        grew_both items h.0 k.0 old mid new h.1 k.1,
        on_earlier c.args.job.now c.loop-number.job inv.kept inv.same
            (λ s u o. StandsBefore (task s u o.rounds o.depth t lines) (n + 1) c.in_ok-next.next
            k.0) k.2,
      );
  only_writes = only_writes_on c.loop-number.invariant.only_writes
      c.in_ok-next.ensures.only_writes;
}

pub returns-clause-ok : goal.returns-clause-ok
returns-clause-ok g c = λ t lines items stands.
    let s = c.args.job.now.script.now in
    let o = c.args.job.now.options in
    let cs = cases_of s in
    let w = task s (bare c.args.job.now.universe) o.rounds o.depth t lines in
    let h = c.loop-number.invariant.done t lines items stands in
    let many = as_many s o.depth cs c.args.job.now.cases.items c.requires.job.cases in
    let done = c.loop-number-test.false in
    let count = c.len-number-end.ensures in
    let long = c.args.job.now.cases.ok.0 in (
      h.0,
      h.1,
      subst (λ xs. StandsAt w c.loop-number.number xs c.loop-number.next h.0)
          (drop_all c.loop-number.number cs (omega (arith, many, done, count, long))) h.2,
    )
