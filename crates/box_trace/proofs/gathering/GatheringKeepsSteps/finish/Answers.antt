use Rattle.std.proofs.Common.{◌∙◌, sym, ap, subst}
use Rattle.derivation.specs.Derivations.{At}
use Rattle.box_trace.specs.declared.log.Log.{Log}
use Rattle.box_trace.specs.Tables.{known_at}
use Rattle.box_trace.specs.Scans.{IsGathered}
use Rattle.box_trace.specs.Logs.{IsRound}
use Rattle.box_trace.proofs.Rows.{same_known}
use Rattle.box_trace.proofs.Gathered.{void_said}
use Rattle.box_trace.proofs.gathering.GatheringKeepsSteps.finish.Goals as goal

pub write_gathered-requires-clause-gathered : goal.write_gathered-requires-clause-gathered
write_gathered-requires-clause-gathered g c =
    let u = c.args.uni.now in
    let t = c.args.self.now in
    let w = c.requires.3 in
    subst (λ l. IsGathered u (known_at u t.now) l t.void) (sym c.deref.ensures.value)
    (subst (λ (at : At). IsGathered u at t.ends.items t.void)
    (sym (same_known u t.log.known t.now w.0.now)) w.1)

pub returns-clause-said : goal.returns-clause-said
returns-clause-said g c =
    void_said (known_at c.args.uni.now c.write_gathered.new.log.known) c.is_void.result
    c.in_ok-write_gathered.ensures.rows.proper c.is_void.ensures

pub returns-clause-came : goal.returns-clause-came
returns-clause-came g c = λ first gathered.
    let u = c.args.uni.now in
    let t = c.args.self.now in
    let new = c.write_gathered.new in (
      t.now,
      gathered.0.now ∙ ap (λ (l : Log). l.known.rows.items) gathered.0.log,
      subst (λ (l : Log). IsRound u t.now l new.log new.changed.items) gathered.0.log
          c.in_ok-write_gathered.ensures,
    )
