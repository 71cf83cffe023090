use Rattle.std.proofs.Common.{◌≡◌, ◌<◌, ◌+◌, ◌-◌, ◌*◌, ℕ, refl, sym, ap, subst, ◌∙◌, arith, rules}
use Rattle.std.proofs.lemmas.Result.{err_from_is_err_and}
use Rattle.fx_edge.proofs.OnlyReads.{only_reads_none, only_reads_on}
use Rattle.cert_bytes.specs.Reading.{limited_at}
use Rattle.cert_bytes.specs.Pieces.{cursor_of}
use Rattle.cert_bytes.proofs.Calls.{reads_on_none, reads_on_then, told_behind}
use Rattle.cert_bytes.proofs.Limits.{one_digit, digit_ends, digit_stops, digit_fits, near_fits}
use Rattle.cert_bytes.proofs.Limits.{near_moves, near_sum, one_more, far_begun}
use Rattle.cert_bytes.proofs.source.Source.limited.Goals as goal

pub loop-have-init : goal.loop-have-init
loop-have-init g c = record {
  within = omega arith;
  weight = refl;
  value = omega arith;
  gives = λ all h. ap (λ (k : ℕ). limited_at k c.args.most 1 0 (cursor_of all c.args.self.now))
      (let e : c.args.bytes - 0 ≡ c.args.bytes = omega arith in e);
  reads_on = reads_on_none c.requires.agrees;
  only_reads = only_reads_none;
}

pub loop-have-preserved : goal.loop-have-preserved
loop-have-preserved g c =
    let t = c.loop-have-test.true in
    let i = c.loop-have.invariant in
    let many = c.requires.limit.many in
    let small : c.in_ok-byte.byte < 256 = search (arith, rules) in
    let high = c.if-byte-lt128.false in
    record {
      within = omega (arith, t);
      weight = ap (λ (w : ℕ). w * 128) i.weight ∙ near_moves c.loop-have.have;
      value = subst (λ (n : ℕ). c.loop-have.value + c.loop-have.weight * n
          < c.loop-have.weight * 128) (sym c.from.ensures)
          (digit_fits c.loop-have.value c.loop-have.weight c.in_ok-byte.byte i.value small);
      gives = λ all h.
          let known = told_behind i.only_reads i.reads_on h in
          subst (λ (n : ℕ). limited_at (c.args.bytes - (c.loop-have.have + 1)) c.args.most
          (c.loop-have.weight * 128) (c.loop-have.value + c.loop-have.weight * n)
          (cursor_of all c.byte.new.self) ≡ limited_at c.args.bytes c.args.most 1 0
          (cursor_of all c.args.self.now)) (sym c.from.ensures)
          (one_digit (cursor_of all c.loop-have.self) (cursor_of all c.byte.new.self)
          (c.args.bytes - (c.loop-have.have + 1)) c.args.most c.loop-have.weight
          c.loop-have.value c.in_ok-byte.byte _
          (one_more c.args.bytes c.loop-have.have _ _ _ _ _ t many (i.gives all h))
          (c.in_ok-byte.ensures.gives all known)
          (λ l. omega (arith, l, high)));
      reads_on = reads_on_then i.reads_on c.in_ok-byte.ensures.reads_on;
      only_reads = only_reads_on i.only_reads c.in_ok-byte.ensures.only_reads;
    }

pub overflow_mul-weight : goal.overflow_mul-weight
overflow_mul-weight g c = let w = c.loop-have.invariant.weight in
    omega (arith, near_fits c.loop-have.have c.loop-have-test.true, w)

pub overflow_add-value : goal.overflow_add-value
overflow_add-value g c =
    let i = c.loop-have.invariant in
    omega (
      arith,
      near_sum c.loop-have.have c.loop-have.weight c.loop-have.value
          c.in_ok-byte.byte c.from.result c.loop-have-test.true i.weight i.value
          (search (arith, rules)) c.from.ensures,
    )

pub overflow_mul-value : goal.overflow_mul-value
overflow_mul-value g c =
    let i = c.loop-have.invariant in
    omega (
      arith,
      near_sum c.loop-have.have c.loop-have.weight c.loop-have.value
          c.in_ok-byte.byte c.from.result c.loop-have-test.true i.weight i.value
          (search (arith, rules)) c.from.ensures,
    )

pub ended_near-requires : goal.ended_near-requires
ended_near-requires g c = let i = c.loop-have.invariant in let w = i.weight in record {
  weight = omega (arith, near_fits c.loop-have.have c.loop-have-test.true, w);
  value = i.value;
  digit = c.if-byte-lt128.true;
}

pub limited_far-requires : goal.limited_far-requires
limited_far-requires g c = let i = c.loop-have.invariant in record {
  begun = let t = c.loop-have-test.false in let within = i.within in
      far_begun c.args.bytes c.loop-have.have _ _ _ _ c.requires.limit.many c.requires.limit.few
      (omega (arith, t, within)) i.weight i.value c.from-2.ensures c.from-3.ensures;
  agrees = i.reads_on.agrees;
}

pub returns-in_err-byte-clause-gives : goal.returns-in_err-byte-clause-gives
returns-in_err-byte-clause-gives g c = λ all h.
    let p = err_from_is_err_and c.from_residual.result c.from_residual.ensures.1 in
    let t = c.loop-have-test.true in
    let i = c.loop-have.invariant in
    let many = c.requires.limit.many in
    let known = told_behind i.only_reads i.reads_on h in
    rw (p.1, p.2) (λ f q. digit_stops (cursor_of all c.loop-have.self)
    (c.args.bytes - (c.loop-have.have + 1)) c.args.most c.loop-have.weight c.loop-have.value f _
    (one_more c.args.bytes c.loop-have.have _ _ _ _ _ t many (i.gives all h))
    (c.in_err-byte.ensures.gives all known f q))

pub returns-then-byte-lt128-clause-gives : goal.returns-then-byte-lt128-clause-gives
returns-then-byte-lt128-clause-gives g c = λ all h.
    let t = c.loop-have-test.true in
    let i = c.loop-have.invariant in
    let many = c.requires.limit.many in
    let known = told_behind i.only_reads i.reads_on h in
    rw c.ended_near.ensures (digit_ends (cursor_of all c.loop-have.self)
    (cursor_of all c.byte.new.self) (c.args.bytes - (c.loop-have.have + 1)) c.args.most
    c.loop-have.weight c.loop-have.value c.in_ok-byte.byte _
    (one_more c.args.bytes c.loop-have.have _ _ _ _ _ t many (i.gives all h))
    (c.in_ok-byte.ensures.gives all known) c.if-byte-lt128.true)
