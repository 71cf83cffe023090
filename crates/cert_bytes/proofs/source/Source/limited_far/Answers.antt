use Rattle.std.proofs.Common.{◌≡◌, ◌<◌, ◌+◌, ◌-◌, ◌*◌, ℕ, suc, refl, sym, subst, arith, rules}
use Rattle.std.proofs.lemmas.Result.{err_from_is_err_and}
use Rattle.fx_edge.proofs.OnlyReads.{only_reads_none, only_reads_on}
use Rattle.cert_bytes.specs.Reading.{limited_at}
use Rattle.cert_bytes.specs.Pieces.{cursor_of}
use Rattle.cert_bytes.proofs.Calls.{reads_on_none, reads_on_then, told_behind}
use Rattle.cert_bytes.proofs.Limits.{one_digit, digit_ends, digit_stops, no_digit, digit_fits}
use Rattle.cert_bytes.proofs.Limits.{weight_fits, weight_moves}
use Rattle.cert_bytes.proofs.source.Source.limited_far.Goals as goal

pub loop-left-init : goal.loop-left-init
loop-left-init g c = record {
  some = c.requires.begun.some;
  worth = c.requires.begun.room;
  sum = c.requires.begun.before;
  gives = λ all h. refl;
  reads_on = reads_on_none c.requires.agrees;
  only_reads = only_reads_none;
}

pub loop-left-preserved : goal.loop-left-preserved
loop-left-preserved g c =
    let t = c.loop-left-test.true in
    let i = c.loop-left.invariant in
    let left : c.loop-left.left ≡ suc (c.loop-left.left - 1) = omega (arith, t) in
    let small : c.in_ok-byte.byte < 256 = search (arith, rules) in
    let high = c.if-byte-lt128.false in
    record {
      some = omega (arith, t);
      worth = weight_moves c.loop-left.worth c.loop-left.left t i.worth;
      sum = subst (λ (n : ℕ). c.loop-left.sum + c.loop-left.worth * n
          < c.loop-left.worth * 128) (sym c.from.ensures)
          (digit_fits c.loop-left.sum c.loop-left.worth c.in_ok-byte.byte i.sum small);
      gives = λ all h.
          let known = told_behind i.only_reads i.reads_on h in
          subst (λ (n : ℕ). limited_at (c.loop-left.left - 1) c.args.most (c.loop-left.worth * 128)
          (c.loop-left.sum + c.loop-left.worth * n) (cursor_of all c.byte.new.self)
          ≡ limited_at c.args.bytes c.args.most c.args.weight c.args.value
          (cursor_of all c.args.self.now)) (sym c.from.ensures)
          (one_digit (cursor_of all c.loop-left.self) (cursor_of all c.byte.new.self)
          (c.loop-left.left - 1) c.args.most c.loop-left.worth c.loop-left.sum c.in_ok-byte.byte _
          (subst (λ (k : ℕ). limited_at k c.args.most c.loop-left.worth c.loop-left.sum
          (cursor_of all c.loop-left.self) ≡ limited_at c.args.bytes c.args.most c.args.weight
          c.args.value (cursor_of all c.args.self.now)) left (i.gives all h))
          (c.in_ok-byte.ensures.gives all known)
          (λ l. omega (arith, l, high)));
      reads_on = reads_on_then i.reads_on c.in_ok-byte.ensures.reads_on;
      only_reads = only_reads_on i.only_reads c.in_ok-byte.ensures.only_reads;
    }

pub overflow_mul-worth : goal.overflow_mul-worth
overflow_mul-worth g c = let m = weight_fits c.loop-left.worth c.loop-left.left
    c.loop-left-test.true c.loop-left.invariant.worth in omega (arith, m)

pub overflow_add-sum : goal.overflow_add-sum
overflow_add-sum g c =
    let m = weight_fits c.loop-left.worth c.loop-left.left c.loop-left-test.true
    c.loop-left.invariant.worth in
    let s = subst (λ (n : ℕ). c.loop-left.sum + c.loop-left.worth * n < c.loop-left.worth * 128)
    (sym c.from.ensures) (digit_fits c.loop-left.sum c.loop-left.worth c.in_ok-byte.byte
    c.loop-left.invariant.sum (search (arith, rules))) in
    omega (arith, m, s)

pub overflow_mul-sum : goal.overflow_mul-sum
overflow_mul-sum g c =
    let m = weight_fits c.loop-left.worth c.loop-left.left c.loop-left-test.true
    c.loop-left.invariant.worth in
    let s = subst (λ (n : ℕ). c.loop-left.sum + c.loop-left.worth * n < c.loop-left.worth * 128)
    (sym c.from.ensures) (digit_fits c.loop-left.sum c.loop-left.worth c.in_ok-byte.byte
    c.loop-left.invariant.sum (search (arith, rules))) in
    omega (arith, m, s)

pub returns-in_err-byte-clause-gives : goal.returns-in_err-byte-clause-gives
returns-in_err-byte-clause-gives g c = λ all h.
    let p = err_from_is_err_and c.from_residual.result c.from_residual.ensures.1 in
    let t = c.loop-left-test.true in
    let i = c.loop-left.invariant in
    let left : c.loop-left.left ≡ suc (c.loop-left.left - 1) = omega (arith, t) in
    let known = told_behind i.only_reads i.reads_on h in
    rw (p.1, p.2) (λ f q. digit_stops (cursor_of all c.loop-left.self)
    (c.loop-left.left - 1) c.args.most c.loop-left.worth c.loop-left.sum f _
    (subst (λ (k : ℕ). limited_at k c.args.most c.loop-left.worth c.loop-left.sum
    (cursor_of all c.loop-left.self) ≡ limited_at c.args.bytes c.args.most c.args.weight
    c.args.value (cursor_of all c.args.self.now)) left (i.gives all h))
    (c.in_err-byte.ensures.gives all known f q))

pub returns-then-byte-lt128-clause-gives : goal.returns-then-byte-lt128-clause-gives
returns-then-byte-lt128-clause-gives g c = λ all h.
    let t = c.loop-left-test.true in
    let i = c.loop-left.invariant in
    let left : c.loop-left.left ≡ suc (c.loop-left.left - 1) = omega (arith, t) in
    let known = told_behind i.only_reads i.reads_on h in
    rw c.ended_with.ensures (digit_ends (cursor_of all c.loop-left.self)
    (cursor_of all c.byte.new.self)
    (c.loop-left.left - 1) c.args.most c.loop-left.worth c.loop-left.sum c.in_ok-byte.byte _
    (subst (λ (k : ℕ). limited_at k c.args.most c.loop-left.worth c.loop-left.sum
    (cursor_of all c.loop-left.self) ≡ limited_at c.args.bytes c.args.most c.args.weight
    c.args.value (cursor_of all c.args.self.now)) left (i.gives all h))
    (c.in_ok-byte.ensures.gives all known) c.if-byte-lt128.true)

pub returns-in_err-byte-2-clause-gives : goal.returns-in_err-byte-2-clause-gives
returns-in_err-byte-2-clause-gives g c = λ all h.
    let p = err_from_is_err_and c.from_residual-in_err-byte-2.result
    c.from_residual-in_err-byte-2.ensures.1 in
    let t = c.loop-left-test.false in
    let i = c.loop-left.invariant in
    let some = i.some in
    let last : c.loop-left.left ≡ 1 = omega (arith, t, some) in
    let known = told_behind i.only_reads i.reads_on h in
    rw (p.1, p.2) (λ f q. digit_stops
    (cursor_of all c.loop-left.self) 0 c.args.most c.loop-left.worth c.loop-left.sum f _
    (subst (λ (k : ℕ). limited_at k c.args.most c.loop-left.worth c.loop-left.sum
    (cursor_of all c.loop-left.self) ≡ limited_at c.args.bytes c.args.most c.args.weight
    c.args.value (cursor_of all c.args.self.now)) last (i.gives all h))
    (c.in_err-byte-2.ensures.gives all known f q))

pub returns-then-byte-lt128-2-clause-gives : goal.returns-then-byte-lt128-2-clause-gives
returns-then-byte-lt128-2-clause-gives g c = λ all h.
    let t = c.loop-left-test.false in
    let i = c.loop-left.invariant in
    let some = i.some in
    let last : c.loop-left.left ≡ 1 = omega (arith, t, some) in
    let known = told_behind i.only_reads i.reads_on h in
    rw c.ended_with-then-byte-lt128-2.ensures
    (digit_ends (cursor_of all c.loop-left.self) (cursor_of all c.byte-2.new.self) 0 c.args.most
    c.loop-left.worth c.loop-left.sum c.in_ok-byte-2.byte _
    (subst (λ (k : ℕ). limited_at k c.args.most c.loop-left.worth c.loop-left.sum
    (cursor_of all c.loop-left.self) ≡ limited_at c.args.bytes c.args.most c.args.weight
    c.args.value (cursor_of all c.args.self.now)) last (i.gives all h))
    (c.in_ok-byte-2.ensures.gives all known) c.if-byte-lt128-2.true)

pub returns-clause-gives : goal.returns-clause-gives
returns-clause-gives g c = λ all h.
    let t = c.loop-left-test.false in
    let i = c.loop-left.invariant in
    let some = i.some in
    let high = c.if-byte-lt128-2.false in
    let last : c.loop-left.left ≡ 1 = omega (arith, t, some) in
    let known = told_behind i.only_reads i.reads_on h in
    no_digit (cursor_of all c.byte-2.new.self) c.args.most (c.loop-left.worth * 128)
    (c.loop-left.sum + c.loop-left.worth * (c.in_ok-byte-2.byte - 128)) _
    (one_digit (cursor_of all c.loop-left.self) (cursor_of all c.byte-2.new.self) 0 c.args.most
    c.loop-left.worth c.loop-left.sum c.in_ok-byte-2.byte _
    (subst (λ (k : ℕ). limited_at k c.args.most c.loop-left.worth c.loop-left.sum
    (cursor_of all c.loop-left.self) ≡ limited_at c.args.bytes c.args.most c.args.weight
    c.args.value (cursor_of all c.args.self.now)) last (i.gives all h))
    (c.in_ok-byte-2.ensures.gives all known) (λ l. omega (arith, l, high)))
