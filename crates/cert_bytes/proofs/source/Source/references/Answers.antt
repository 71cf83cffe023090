use Rattle.std.proofs.Common.{◌≡◌, ◌+◌, ◌-◌, [], ℕ, suc, rules, arith, subst}
use Rattle.std.proofs.lemmas.Result.{err_from_is_err_and}
use Rattle.fx_edge.proofs.OnlyReads.{only_reads_on}
use Rattle.cert_bytes.specs.Reading.{references_at}
use Rattle.cert_bytes.proofs.Rows.{one_reference, references_stop, references_end}
use Rattle.cert_bytes.specs.Pieces.{cursor_of}
use Rattle.cert_bytes.proofs.Calls.{reads_on_then, told_behind}
use Rattle.cert_bytes.proofs.source.Source.references.Goals as goal

pub loop-have-preserved : goal.loop-have-preserved
loop-have-preserved g c =
    let t = c.loop-have-test.true in
    let left : c.args.count - c.loop-have.have
    ≡ suc (c.args.count - (c.loop-have.have + 1)) = omega (arith, t) in
    record {
      within = omega (arith, t);
      many = search (rules, arith);
      gives = λ all h.
          let known = told_behind c.loop-have.invariant.only_reads c.loop-have.invariant.reads_on
          h in
          let read = c.in_ok-read.ensures.gives all known in
          let step = one_reference (cursor_of all c.loop-have.self)
          (cursor_of all c.read.new.source)
          (c.args.count - (c.loop-have.have + 1)) c.in_ok-read.field-0 c.loop-have.numbers.items _
          (subst (λ (k : ℕ). references_at k c.loop-have.numbers.items
          (cursor_of all c.loop-have.self) ≡ references_at c.args.count []
          (cursor_of all c.args.self.now)) left (c.loop-have.invariant.gives all h)) read in
          rw c.in_ok-push.ensures.items step;
      reads_on = reads_on_then c.loop-have.invariant.reads_on c.in_ok-read.ensures.reads_on;
      only_reads = only_reads_on c.loop-have.invariant.only_reads c.in_ok-read.ensures.only_reads;
    }

pub returns-clause-gives : goal.returns-clause-gives
returns-clause-gives g c = λ all h.
    let e = references_end (cursor_of all c.loop-have.self)
    (c.args.count - c.loop-have.have) c.loop-have.numbers.items _ (let t = c.loop-have-test.false in
    omega (arith, t)) (c.loop-have.invariant.gives all h) in
    rw c.from_vec.ensures e

pub returns-in_err-read-clause-gives : goal.returns-in_err-read-clause-gives
returns-in_err-read-clause-gives g c = λ all h.
    let p = err_from_is_err_and c.from_residual.result c.from_residual.ensures.1 in
    let t = c.loop-have-test.true in
    let known = told_behind c.loop-have.invariant.only_reads c.loop-have.invariant.reads_on h in
    let left : c.args.count - c.loop-have.have
    ≡ suc (c.args.count - (c.loop-have.have + 1)) = omega (arith, t) in
    rw (p.1, p.2) (λ f q. references_stop (cursor_of all c.loop-have.self)
    (c.args.count - (c.loop-have.have + 1)) c.loop-have.numbers.items f
    (references_at c.args.count [] (cursor_of all c.args.self.now))
    (subst (λ (k : ℕ). references_at k c.loop-have.numbers.items (cursor_of all c.loop-have.self)
    ≡ references_at c.args.count [] (cursor_of all c.args.self.now)) left
    (c.loop-have.invariant.gives all h))
    (c.in_err-read.ensures.gives all known f q))
