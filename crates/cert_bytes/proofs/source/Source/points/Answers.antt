use Rattle.std.proofs.Common.{◌≡◌, ◌+◌, ◌-◌, [], ℕ, suc, arith, ap, subst, ◌∙◌}
use Rattle.std.proofs.lemmas.Result.{err_from_is_err_and}
use Rattle.fx_edge.proofs.OnlyReads.{only_reads_on}
use Rattle.cert_bytes.specs.Reading.{points_at}
use Rattle.cert_bytes.proofs.Rows.{one_point, points_stop, points_end}
use Rattle.cert_bytes.specs.Pieces.{cursor_of}
use Rattle.cert_bytes.proofs.Calls.{reads_on_then, told_behind}
use Rattle.cert_bytes.proofs.source.Source.points.Goals as goal

pub loop-have-preserved : goal.loop-have-preserved
loop-have-preserved g c =
    let t = c.loop-have-test.true in
    let left : c.args.count - c.loop-have.have
    ≡ suc (c.args.count - (c.loop-have.have + 1)) = omega (arith, t) in
    record {
      within = omega (arith, t);
      many = c.in_ok-points.ensures.many ∙ ap (λ k. k + 1) c.loop-have.invariant.many;
      gives = λ all h.
          let known = told_behind c.loop-have.invariant.only_reads c.loop-have.invariant.reads_on
          h in
          let read = c.in_ok-points.ensures.gives all known in
          one_point (cursor_of all c.loop-have.self) (cursor_of all c.rising.new.self)
          (c.args.count - (c.loop-have.have + 1)) c.loop-have.points c.in_ok-points.points _
          (subst (λ (k : ℕ). points_at k c.loop-have.points (cursor_of all c.loop-have.self)
          ≡ points_at c.args.count [] (cursor_of all c.args.self.now)) left
          (c.loop-have.invariant.gives all h)) read;
      reads_on = reads_on_then c.loop-have.invariant.reads_on c.in_ok-points.ensures.reads_on;
      only_reads = only_reads_on c.loop-have.invariant.only_reads c.in_ok-points.ensures.only_reads;
    }

pub returns-clause-gives : goal.returns-clause-gives
returns-clause-gives g c = λ all h.
    points_end (cursor_of all c.loop-have.self) (c.args.count - c.loop-have.have) c.loop-have.points
    _ (let t = c.loop-have-test.false in omega (arith, t)) (c.loop-have.invariant.gives all h)

pub returns-in_err-points-clause-gives : goal.returns-in_err-points-clause-gives
returns-in_err-points-clause-gives g c = λ all h.
    let p = err_from_is_err_and c.from_residual.result c.from_residual.ensures.1 in
    let t = c.loop-have-test.true in
    let known = told_behind c.loop-have.invariant.only_reads c.loop-have.invariant.reads_on h in
    let left : c.args.count - c.loop-have.have
    ≡ suc (c.args.count - (c.loop-have.have + 1)) = omega (arith, t) in
    rw (p.1, p.2) (λ f q. points_stop (cursor_of all c.loop-have.self)
    (c.args.count - (c.loop-have.have + 1)) c.loop-have.points f
    (points_at c.args.count [] (cursor_of all c.args.self.now))
    (subst (λ (k : ℕ). points_at k c.loop-have.points (cursor_of all c.loop-have.self) ≡ points_at
    c.args.count [] (cursor_of all c.args.self.now)) left (c.loop-have.invariant.gives all h))
    (c.in_err-points.ensures.gives all known f q))
