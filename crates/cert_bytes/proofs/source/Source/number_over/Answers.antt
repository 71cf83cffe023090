use Rattle.std.proofs.Common.{◌≡◌, ◌+◌, ◌-◌, ℕ, suc, rules, arith, ap, subst}
use Rattle.std.proofs.lemmas.Result.{err_from_is_err_and}
use Rattle.fx_edge.proofs.OnlyReads.{only_reads_none, only_reads_on}
use Rattle.cert_bytes.specs.Reading.{bytes_at, number_at}
use Rattle.cert_bytes.proofs.Bytes.{one_more, stops, finishes, fits, sixteen}
use Rattle.cert_bytes.specs.Pieces.{cursor_of}
use Rattle.cert_bytes.proofs.Calls.{reads_on_none, reads_on_then, told_behind}
use Rattle.cert_bytes.proofs.source.Source.number_over.Goals as goal

pub loop-have-init : goal.loop-have-init
loop-have-init g c = record {
  within = omega arith;
  small = omega arith;
  gives = λ all h. ap (λ (k : ℕ). bytes_at k 0 (cursor_of all c.args.self.now))
      (let e : c.args.width - 0 ≡ c.args.width = omega arith in e);
  reads_on = reads_on_none c.requires.agrees;
  moves = omega arith;
  only_reads = only_reads_none;
}

pub loop-have-preserved : goal.loop-have-preserved
loop-have-preserved g c =
    let t = c.loop-have-test.true in
    let i = c.loop-have.invariant in
    let b = c.in_ok-byte.ensures in
    let left : c.args.width - c.loop-have.have
    ≡ suc (c.args.width - (c.loop-have.have + 1)) = omega (arith, t) in
    record {
      within = omega (arith, t);
      small = fits c.loop-have.value c.loop-have.have c.from.result c.loop-have.invariant.small
          (search (arith, rules));
      gives = λ all h.
          let read = b.gives all (told_behind i.only_reads i.reads_on h) in
          one_more (cursor_of all c.loop-have.self) (cursor_of all c.byte.new.self)
          (c.args.width - (c.loop-have.have + 1)) c.loop-have.value c.from.result _
          (subst (λ (k : ℕ). bytes_at k c.loop-have.value (cursor_of all c.loop-have.self)
          ≡ number_at c.args.width (cursor_of all c.args.self.now)) left
          (c.loop-have.invariant.gives all h))
          (rw c.from.ensures read);
      reads_on = reads_on_then i.reads_on b.reads_on;
      moves = omega (arith, b.moves, i.moves);
      only_reads = only_reads_on i.only_reads b.only_reads;
    }

pub overflow_mul-value : goal.overflow_mul-value
overflow_mul-value g c =
    let t = c.loop-have-test.true in
    omega (
      arith,
      fits c.loop-have.value c.loop-have.have 0 c.loop-have.invariant.small (omega arith),
      sixteen (c.loop-have.have + 1) (let w = c.requires.width in omega (arith, t, w)),
    )

pub overflow_add-value : goal.overflow_add-value
overflow_add-value g c =
    let t = c.loop-have-test.true in
    omega (
      arith,
      fits c.loop-have.value c.loop-have.have c.from.result c.loop-have.invariant.small
          (search (arith, rules)),
      sixteen (c.loop-have.have + 1) (let w = c.requires.width in omega (arith, t, w)),
    )

pub returns-clause-gives : goal.returns-clause-gives
returns-clause-gives g c = λ all h.
    finishes (cursor_of all c.loop-have.self) (c.args.width - c.loop-have.have) c.loop-have.value _
    (let t = c.loop-have-test.false in omega (arith, t)) (c.loop-have.invariant.gives all h)

pub returns-in_err-byte-clause-gives : goal.returns-in_err-byte-clause-gives
returns-in_err-byte-clause-gives g c = λ all h.
    let p = err_from_is_err_and c.from_residual.result c.from_residual.ensures.1 in
    let t = c.loop-have-test.true in
    let i = c.loop-have.invariant in
    let known = told_behind i.only_reads i.reads_on h in
    let left : c.args.width - c.loop-have.have
    ≡ suc (c.args.width - (c.loop-have.have + 1)) = omega (arith, t) in
    rw (p.1, p.2) (λ f q. stops (cursor_of all c.loop-have.self)
    (c.args.width - (c.loop-have.have + 1)) c.loop-have.value f
    (number_at c.args.width (cursor_of all c.args.self.now))
    (subst (λ (k : ℕ). bytes_at k c.loop-have.value (cursor_of all c.loop-have.self) ≡ number_at
    c.args.width (cursor_of all c.args.self.now)) left (c.loop-have.invariant.gives all h))
    (c.in_err-byte.ensures.gives all known f q))

pub returns-in_err-byte-clause-reads_on : goal.returns-in_err-byte-clause-reads_on
returns-in_err-byte-clause-reads_on g c =
    reads_on_then c.loop-have.invariant.reads_on c.in_err-byte.ensures.reads_on
