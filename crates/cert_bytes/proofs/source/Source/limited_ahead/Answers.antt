use Rattle.std.proofs.Common.{◌≡◌, ◌<◌, ◌+◌, ◌-◌, ◌*◌, ℕ, suc, List, length, refl, sym, ap, subst}
use Rattle.std.proofs.Common.{◌∙◌, arith, rules}
use Rattle.cert_bytes.specs.Reading.{limited_at}
use Rattle.cert_bytes.specs.Pieces.{Agrees, cursor_of}
use Rattle.cert_bytes.proofs.Calls.{reads_on_none, reads_on_then}
use Rattle.cert_bytes.proofs.Filled.{next_is}
use Rattle.cert_bytes.proofs.Told.{name_in, style_in, agrees_for, agrees_told}
use Rattle.cert_bytes.proofs.Limits.{one_digit, digit_ends, digit_fits, near_fits, near_moves}
use Rattle.cert_bytes.proofs.Limits.{near_sum, one_more, far_begun}
use Rattle.cert_bytes.proofs.source.Source.limited_ahead.Goals as goal

pub loop-have-init : goal.loop-have-init
loop-have-init g c = record {
  within = omega arith;
  weight = refl;
  value = omega arith;
  gives = λ all h. ap (λ (k : ℕ). limited_at k c.args.most 1 0 (cursor_of all c.args.self.now))
      (let e : c.args.bytes - 0 ≡ c.args.bytes = omega arith in e);
  reads_on = reads_on_none c.requires.agrees;
  at = omega arith;
  left = omega arith;
}

pub loop-have-preserved : goal.loop-have-preserved
loop-have-preserved g c =
    let t = c.loop-have-test.true in
    let i = c.loop-have.invariant in
    let many = c.requires.limit.many in
    let small : c.advance-byte.result < 256 = search (arith, rules) in
    let high = c.if-byte-lt128.false in
    let size : length c.loop-have.self.ahead ≡ suc (length c.advance-byte.new.self.ahead) =
    ap length c.advance-byte.ensures.byte in
    let next = λ (all : List ℕ) (h : Agrees all c.loop-have.self).
    next_is all c.loop-have.self.style c.loop-have.self.at c.loop-have.self c.advance-byte.new.self
    c.advance-byte.result h refl
    (λ l. let a = i.at in let r = c.requires.ahead.room in omega (arith, t, l, a, r))
    c.advance-byte.ensures.byte c.advance-byte.ensures.at
    (ap style_in c.advance-byte.ensures.kept) in
    record {
      within = omega (arith, t);
      weight = ap (λ (w : ℕ). w * 128) i.weight ∙ near_moves c.loop-have.have;
      value = subst (λ (n : ℕ). c.loop-have.value + c.loop-have.weight * n
          < c.loop-have.weight * 128) (sym c.from.ensures)
          (digit_fits c.loop-have.value c.loop-have.weight c.advance-byte.result i.value small);
      gives = λ all h.
          let known = ap (g.F.Folder.told c.args.folder.now) (ap name_in i.reads_on.kept) ∙ h in
          subst (λ (n : ℕ). limited_at (c.args.bytes - (c.loop-have.have + 1)) c.args.most
          (c.loop-have.weight * 128) (c.loop-have.value + c.loop-have.weight * n)
          (cursor_of all c.advance-byte.new.self) ≡ limited_at c.args.bytes c.args.most 1 0
          (cursor_of all c.args.self.now)) (sym c.from.ensures)
          (one_digit (cursor_of all c.loop-have.self) (cursor_of all c.advance-byte.new.self)
          (c.args.bytes - (c.loop-have.have + 1)) c.args.most c.loop-have.weight
          c.loop-have.value c.advance-byte.result _
          (one_more c.args.bytes c.loop-have.have _ _ _ _ _ t many (i.gives all h))
          (next all (agrees_for _ c.loop-have.self i.reads_on.agrees all known)).0
          (λ l. omega (arith, l, high)));
      reads_on = reads_on_then i.reads_on (record {
        kept = c.advance-byte.ensures.kept;
        grows = let x = c.advance-byte.ensures.at in omega (arith, x);
        agrees = agrees_told _ c.advance-byte.new.self (λ all h.
            let known = ap (g.F.Folder.told c.args.folder.now)
            (sym (ap name_in c.advance-byte.ensures.kept)) ∙ h in
            (next all (agrees_for _ c.loop-have.self i.reads_on.agrees all known)).1);
      });
      at = let a = i.at in let b = c.advance-byte.ensures.at in omega (arith, a, b);
      left = let a = i.left in omega (arith, a, size);
    }

pub advance-byte-requires : goal.advance-byte-requires
advance-byte-requires g c =
    let t = c.loop-have-test.true in
    let i = c.loop-have.invariant in
    let w = c.requires.ahead.there in
    let r = c.requires.ahead.room in
    let a = i.at in
    let l = i.left in
    record {
      some = λ e. let z : length c.loop-have.self.ahead ≡ 0 = ap length e in
          omega (arith, t, w, l, z);
      room = omega (arith, t, a, r);
    }

pub overflow_mul-weight : goal.overflow_mul-weight
overflow_mul-weight g c = let w = c.loop-have.invariant.weight in
    omega (arith, near_fits c.loop-have.have c.loop-have-test.true, w)

pub overflow_add-value : goal.overflow_add-value
overflow_add-value g c =
    let i = c.loop-have.invariant in
    omega (
      arith,
      near_sum c.loop-have.have c.loop-have.weight c.loop-have.value
          c.advance-byte.result c.from.result c.loop-have-test.true i.weight i.value
          (search (arith, rules)) c.from.ensures,
    )

pub overflow_mul-value : goal.overflow_mul-value
overflow_mul-value g c =
    let i = c.loop-have.invariant in
    omega (
      arith,
      near_sum c.loop-have.have c.loop-have.weight c.loop-have.value
          c.advance-byte.result c.from.result c.loop-have-test.true i.weight i.value
          (search (arith, rules)) c.from.ensures,
    )

pub ended_near-requires : goal.ended_near-requires
ended_near-requires g c = let i = c.loop-have.invariant in let w = i.weight in record {
  weight = omega (arith, near_fits c.loop-have.have c.loop-have-test.true, w);
  value = i.value;
  digit = c.if-byte-lt128.true;
}

pub limited_far-requires : goal.limited_far-requires
limited_far-requires g c = let i = c.loop-have.invariant in record {
  begun = let t = c.loop-have-test.false in let within = i.within in
      far_begun c.args.bytes c.loop-have.have _ _ _ _ c.requires.limit.many c.requires.limit.few
      (omega (arith, t, within)) i.weight i.value c.from-2.ensures c.from-3.ensures;
  agrees = i.reads_on.agrees;
}

pub returns-then-byte-lt128-clause-gives : goal.returns-then-byte-lt128-clause-gives
returns-then-byte-lt128-clause-gives g c = λ all h.
    let t = c.loop-have-test.true in
    let i = c.loop-have.invariant in
    let many = c.requires.limit.many in
    let known = ap (g.F.Folder.told c.args.folder.now) (ap name_in i.reads_on.kept) ∙ h in
    let next = next_is all c.loop-have.self.style c.loop-have.self.at c.loop-have.self
    c.advance-byte.new.self c.advance-byte.result
    (agrees_for _ c.loop-have.self i.reads_on.agrees all known) refl
    (λ l. let a = i.at in let r = c.requires.ahead.room in omega (arith, t, l, a, r))
    c.advance-byte.ensures.byte c.advance-byte.ensures.at
    (ap style_in c.advance-byte.ensures.kept) in
    rw c.ended_near.ensures (digit_ends (cursor_of all c.loop-have.self)
    (cursor_of all c.advance-byte.new.self) (c.args.bytes - (c.loop-have.have + 1)) c.args.most
    c.loop-have.weight c.loop-have.value c.advance-byte.result _
    (one_more c.args.bytes c.loop-have.have _ _ _ _ _ t many (i.gives all h))
    next.0 c.if-byte-lt128.true)

pub returns-then-byte-lt128-clause-reads_on : goal.returns-then-byte-lt128-clause-reads_on
returns-then-byte-lt128-clause-reads_on g c =
    let t = c.loop-have-test.true in
    let i = c.loop-have.invariant in
    let a = c.advance-byte.ensures in
    let old = c.loop-have.self in
    reads_on_then i.reads_on (record {
      kept = a.kept;
      grows = let x = a.at in omega (arith, x);
      agrees = agrees_told _ c.advance-byte.new.self (λ all h.
          let known = ap (g.F.Folder.told c.args.folder.now) (sym (ap name_in a.kept)) ∙ h in
          (next_is all old.style old.at old c.advance-byte.new.self c.advance-byte.result
          (agrees_for _ old i.reads_on.agrees all known) refl
          (λ l. let x = i.at in let r = c.requires.ahead.room in omega (arith, t, l, x, r)) a.byte
          a.at (ap style_in a.kept)).1);
    })
