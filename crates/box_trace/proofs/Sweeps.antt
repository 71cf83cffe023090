-- A log in a sweep, from its start to its end.
use Rattle.std.specs.Prelude.{◌≡◌, ◌<◌, ◌≤◌, ◌+◌, ◌*◌, ◌-◌, ℕ, suc, true, List, [], ◌∷◌}
use Rattle.std.specs.Prelude.{◌++◌, length, Some, slice_get, refl}
use Rattle.std.proofs.Common.{arith, sym, ap, subst, ◌∙◌, inl, inr, append_assoc}
use Rattle.std.proofs.lemmas.List.{length-append, append-nil}
use Rattle.facts.specs.declared.fact.Fact.{Fact}
use Rattle.facts.specs.declared.instance.Instance.{Instance}
use Rattle.facts.specs.Order.{slot_of}
use Rattle.derivation.specs.Rounds.{Improves, IsProper}
use Rattle.pair_closure.specs.Reached.{IsEachOnce}
use Rattle.rule_universe.specs.Worlds.{World}
use Rattle.rule_universe.specs.Places.{IsPlace}
use Rattle.cert_bytes.specs.declared.item.StepRow.{StepRow}
use Rattle.box_trace.specs.declared.log.Log.{Log}
use Rattle.box_trace.specs.declared.ends.Found.{Found}
use Rattle.box_trace.specs.declared.sweeping.Sweeping.{Sweeping}
use Rattle.box_trace.specs.Tables.{row_in, fact_of, known_at, HasRows}
use Rattle.box_trace.specs.Scans.{IsBeaten}
use Rattle.box_trace.specs.Rounds.{IsStepIn, IsEarlier, AreFromEarlier, HasRounds, beyond_in}
use Rattle.box_trace.specs.Logs.{IsComeBy, IsLonger, more_by}
use Rattle.box_trace.specs.Sweeps.{HasSwept}
use Rattle.box_trace.proofs.Rows.{read_at}
use Rattle.box_trace.proofs.Logged.{comes_improves}
use Rattle.box_trace.proofs.Added.{premises_joined, by_map, each_later, rounds_slack}

-- ---- lists of steps
from_joined : (u : World) (Given : ℕ → Type 0) (first next : ℕ) (xs ys : List StepRow)
    → AreFromEarlier u Given first next xs → AreFromEarlier u Given first (next + length xs) ys
    → AreFromEarlier u Given first next (xs ++ ys)
from_joined u Given first next [] ys v w =
    subst (λ n. AreFromEarlier u Given first n ys) (let e : next + 0 ≡ next = omega arith in e) w
from_joined u Given first next (x ∷ xs) ys v w =
    let e : next + length (x ∷ xs) ≡ suc next + length xs = omega arith in (
      v.0,
      from_joined u Given first (suc next) xs ys v.1
          (subst (λ n. AreFromEarlier u Given first n ys) e w),
    )

-- ---- one instance
-- What is known is as strong.
pub beaten_improves : (u : World) → IsEachOnce u.pairs → (log : Log)
    → IsProper (known_at u log.known) → (place : ℕ) (c : Fact)
    → IsPlace (length u.nodes) u.pairs (slot_of c) place
    → IsBeaten (row_in log.known.rows.items (Some place)) c true
    → (k : Fact) × Improves (known_at u log.known) (known_at u log.known) c k
beaten_improves u once log proper place c p b =
    comes_improves u log log 0 0 [] c proper
    (inl (
      (b.0).fact,
      ap fact_of (sym (read_at u once log.known (slot_of c) place p) ∙ b.1),
      b.2,
      refl,
    ))

-- A sweep that nothing came of.
pub swept_none : (u : World) (t : Sweeping) → HasSwept u t t
swept_none u t = record {
  goes_on = λ w cut s i. i;
  first_is = refl;
  own = [];
  own_is = sym (append-nil t.log.steps.items);
  few = omega arith;
  cited = omega arith;
  by = tt;
  known = λ n w. inl w;
}

-- A conclusion from what is known came.
pub swept_step : (u : World) (first old new : Sweeping) (found : Found) (i : Instance)
    → slice_get u.instances found.instance ≡ Some i → HasSwept u first old
    → IsComeBy u old.log.known found old.log new.log
    → 4 + (length i.premises - 4) + new.room ≤ old.room → HasSwept u first new
swept_step u first old new found i there v c room =
    let start = first.log.first + length first.log.steps.items in
    let Given : ℕ → Type 0 = IsStepIn u first.log.known in
    let a = c.adds in
    let one = ap length v.own_is in
    let two = ap length a.steps in
    let l = length-append first.log.steps.items v.own in
    let k = length-append old.log.steps.items a.rows in
    let m = length-append v.own a.rows in
    let s = premises_joined v.own a.rows in
    let more : more_by u found ≡ length i.premises - 4 = ap beyond_in there in
    let own : first.log.first + length old.log.steps.items ≡ start + length v.own =
    omega (arith, one, l) in
    let end : old.log.first + length old.log.steps.items ≡ start + length v.own =
    (let f = v.first_is in omega (arith, f, one, l)) in
    record {
      goes_on = λ w cut z j.
          (let h = v.goes_on w cut z j in (c.goes_on w cut z h h.traced.placed).0);
      first_is = c.first ∙ v.first_is;
      own = v.own ++ a.rows;
      own_is = a.steps ∙ (ap (λ r. r ++ a.rows) v.own_is
          ∙ append_assoc first.log.steps.items v.own a.rows);
      few = (let b = c.few in let d = v.few in omega (arith, b, d, two, k, m, room));
      cited = (let b = c.few in
          let d = v.cited in
          let p = a.premises in
          omega (arith, b, d, p, two, k, s, room, more));
      by = from_joined u Given start start v.own a.rows v.by
          (each_later u Given start (start + length v.own) (start + length v.own) a.rows
          (omega arith)
          (by_map u (IsStepIn u old.log.known) (IsEarlier Given start (start + length v.own))
          (λ n h. subst (λ x. IsEarlier Given start x n) own (v.known n h)) a.rows a.by));
      known = λ n h.
          elim (a.known n h) [
            | inl g ↦ elim (v.known n g) [
              | inl q ↦ inl q
              | inr q ↦ (let x = q.1 in inr (q.0, omega (arith, x, two, k)))
            ]
            | inr g ↦ (let x = g.0 in let y = g.1 in let f = v.first_is in
                inr (omega (arith, x, end), omega (arith, y, f)))
          ];
    }

-- ---- the end
-- The steps of a sweep are those of one round.
pub swept_rounds : (u : World) (height : ℕ) (first now : Sweeping) → 0 < height
    → first.room ≤ 4 * 8192 → HasSwept u first now → HasRounds u height first.log now.log
swept_rounds u height first now l room v =
    let start = first.log.first + length first.log.steps.items in
    let Given : ℕ → Type 0 = IsStepIn u first.log.known in
    rounds_slack u 1 height first.log now.log (omega (arith, l)) (record {
      rows = v.own;
      steps = v.own_is;
      rounds = (
        [],
        v.own,
        refl,
        refl,
        record {
          few = (let f = v.few in omega (arith, f, room));
          premises = (let f = v.cited in omega (arith, f, room));
          by = subst (λ n. AreFromEarlier u Given start n v.own)
              (let e : start ≡ start + 0 = omega arith in e) v.by;
        },
      );
      known = v.known;
    })

-- So many steps came at most, in every section where they may stand.
pub swept_longer : (u : World) (height : ℕ) (first now : Sweeping) → 0 < height
    → first.room ≤ 4 * 8192 → HasRows u now.log.known → HasSwept u first now
    → IsLonger u (height * 8192) first.log now.log
swept_longer u height first now l room rows v = record {
  goes_on = v.goes_on;
  rows = rows;
  first = v.first_is;
  few = (let f = v.few in
      let e = ap length v.own_is in
      let k = length-append first.log.steps.items v.own in
      omega (arith, f, e, k, room, l));
}
