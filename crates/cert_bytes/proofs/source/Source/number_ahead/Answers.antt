use Rattle.std.proofs.Common.{◌≡◌, ◌+◌, ◌-◌, ℕ, suc, List, length, rules, arith, ap, subst, ◌∙◌}
use Rattle.std.proofs.Common.{refl}
use Rattle.cert_bytes.specs.Reading.{bytes_at, number_at}
use Rattle.cert_bytes.specs.Pieces.{Agrees, cursor_of}
use Rattle.cert_bytes.proofs.Bytes.{one_more, finishes, fits, sixteen}
use Rattle.cert_bytes.proofs.Filled.{next_is}
use Rattle.cert_bytes.proofs.Told.{style_in}
use Rattle.cert_bytes.proofs.source.Source.number_ahead.Goals as goal

pub loop-have-init : goal.loop-have-init
loop-have-init c = record {
  within = omega arith;
  small = omega arith;
  at = omega arith;
  left = omega arith;
  gives = λ all h. ap (λ (k : ℕ). bytes_at k 0 (cursor_of all c.args.self.now))
      (let e : c.args.width - 0 ≡ c.args.width = omega arith in e);
  agrees = λ all h. h;
  kept = refl;
}

pub loop-have-preserved : goal.loop-have-preserved
loop-have-preserved c =
    let t = c.loop-have-test.true in
    let i = c.loop-have.invariant in
    let left : c.args.width - c.loop-have.have
    ≡ suc (c.args.width - (c.loop-have.have + 1)) = omega (arith, t) in
    let size : length c.loop-have.self.ahead ≡ suc (length c.advance.new.self.ahead) =
    ap length c.advance.ensures.byte in
    let next = λ (all : List ℕ) (h : Agrees all c.args.self.now). next_is all c.loop-have.self.style
    c.loop-have.self.at c.loop-have.self c.advance.new.self c.advance.result (i.agrees all h) refl
    (λ l. let a = i.at in let r = c.requires.ahead.room in omega (arith, t, l, a, r))
    c.advance.ensures.byte c.advance.ensures.at (ap style_in c.advance.ensures.kept) in
    record {
      within = omega (arith, t);
      small = fits c.loop-have.value c.loop-have.have c.from.result i.small (search (arith, rules));
      at = let a = i.at in let b = c.advance.ensures.at in omega (arith, a, b);
      left = let a = i.left in omega (arith, a, size);
      gives = λ all h.
          one_more (cursor_of all c.loop-have.self) (cursor_of all c.advance.new.self)
          (c.args.width - (c.loop-have.have + 1)) c.loop-have.value c.from.result _
          (subst (λ (k : ℕ). bytes_at k c.loop-have.value (cursor_of all c.loop-have.self)
          ≡ number_at c.args.width (cursor_of all c.args.self.now)) left (i.gives all h))
          (rw c.from.ensures (next all h).0);
      agrees = λ all h. (next all h).1;
      kept = c.advance.ensures.kept ∙ i.kept;
    }

pub advance-requires : goal.advance-requires
advance-requires c =
    let t = c.loop-have-test.true in
    let i = c.loop-have.invariant in
    let w = c.requires.ahead.there in
    let r = c.requires.ahead.room in
    let a = i.at in
    let l = i.left in
    record {
      some = λ e. let z : length c.loop-have.self.ahead ≡ 0 = ap length e in
          omega (arith, t, w, l, z);
      room = omega (arith, t, a, r);
    }

pub overflow_mul-value : goal.overflow_mul-value
overflow_mul-value c =
    let t = c.loop-have-test.true in
    omega (
      arith,
      fits c.loop-have.value c.loop-have.have 0 c.loop-have.invariant.small (omega arith),
      sixteen (c.loop-have.have + 1) (let w = c.requires.width in omega (arith, t, w)),
    )

pub overflow_add-value : goal.overflow_add-value
overflow_add-value c =
    let t = c.loop-have-test.true in
    omega (
      arith,
      fits c.loop-have.value c.loop-have.have c.from.result c.loop-have.invariant.small
          (search (arith, rules)),
      sixteen (c.loop-have.have + 1) (let w = c.requires.width in omega (arith, t, w)),
    )

pub returns-clause-gives : goal.returns-clause-gives
returns-clause-gives c = λ all h.
    finishes (cursor_of all c.loop-have.self) (c.args.width - c.loop-have.have) c.loop-have.value _
    (let t = c.loop-have-test.false in omega (arith, t)) (c.loop-have.invariant.gives all h)
