-- Steps that come by instances, and those of rounds after one another.
use Rattle.std.specs.Prelude.{◌≡◌, ◌≢◌, ◌⊎◌, ◌≤◌, ◌+◌, ◌-◌, ℕ, zero, suc, List, [], ◌∷◌, ◌++◌}
use Rattle.std.specs.Prelude.{length, map, Option, Some, None, slice_get, refl}
use Rattle.std.specs.List.{AllByRecursion}
use Rattle.std.proofs.Common.{arith, sym, ap, subst, ◌∙◌, inl, inr, ⊎_elim, append_assoc}
use Rattle.std.proofs.lemmas.Bool.{cases_lt}
use Rattle.std.proofs.lemmas.List.{length-append, append-nil}
use Rattle.facts.specs.declared.fact.Fact.{Fact}
use Rattle.facts.specs.declared.fact.Slot.{Slot}
use Rattle.facts.specs.declared.instance.Instance.{Instance}
use Rattle.facts.specs.Order.{slot_of}
use Rattle.facts.proofs.CommonParts.{all_as, all_last}
use Rattle.theorem_list.specs.Concludes.{concludes}
use Rattle.derivation.proofs.Rounds.{Reads}
use Rattle.derivation.specs.Rounds.{conclusion}
use Rattle.derivation.specs.Parts.{slot_cases}
use Rattle.derivation.proofs.Parts.{none_some, conclusion_reads}
use Rattle.rule_universe.specs.Worlds.{World}
use Rattle.rule_universe.specs.declared.placed.Placed.{Placed}
use Rattle.cert_bytes.specs.declared.item.StepRow.{StepRow}
use Rattle.cert_checker.specs.declared.given.Given.{Given}
use Rattle.cert_checker.specs.Given.{given_number, given_of}
use Rattle.cert_checker.proofs.GivenLaws.{given_back}
use Rattle.tree_certificates.proofs.Cited.{mapped}
use Rattle.tree_certificates.specs.Coming.{coming}
use Rattle.box_trace.specs.declared.known.Cited.{Cited}
use Rattle.box_trace.specs.declared.known.Known.{Known}
use Rattle.box_trace.specs.declared.log.Log.{Log}
use Rattle.box_trace.specs.declared.ends.Found.{Found}
use Rattle.box_trace.specs.Tables.{fact_of, number_of, number_or, row_of, row_in, cited_at}
use Rattle.box_trace.specs.Tables.{known_at, step_at, place_in}
use Rattle.box_trace.specs.Logs.{kept_in, IsStep, Comes, IsRound, more_by}
use Rattle.box_trace.specs.Rounds.{premises_in, beyond_in, IsStepIn, IsEarlier, IsByInstance}
use Rattle.box_trace.specs.Rounds.{IsRoundOf, AreRounds, IsGivenStep, AreFromEarlier, AreByRounds}
use Rattle.box_trace.specs.Rounds.{AddsSteps, BeginsBy, HasRounds}
use Rattle.box_trace.proofs.Logged.{ComesGiven}

-- ---- lists of steps
all_joined : {A : Type 0} (P : A → Type 0) (xs ys : List A) → AllByRecursion P xs
    → AllByRecursion P ys → AllByRecursion P (xs ++ ys)
all_joined P [] ys p q = q
all_joined P (x ∷ xs) ys p q = (p.0, all_joined P xs ys p.1 q)

pub premises_joined : (xs ys : List StepRow)
    → premises_in (xs ++ ys) ≡ premises_in xs + premises_in ys
premises_joined [] ys = omega arith
premises_joined (x ∷ xs) ys = let h = premises_joined xs ys in omega (arith, h)

-- ---- what is known, and its steps
-- where a fact is found its step is
there_too : (o : Option Cited) (f : Fact) → fact_of o ≡ Some f → number_of o ≡ Some (number_or o)
there_too None f e = cc
there_too (Some row) f e = refl

-- and where none is, there is no step
pub no_step : (u : World) (k : Known) (s : Slot) → known_at u k s ≡ None → step_at u k s ≡ None
no_step u k s e = by_row (cited_at u k s) e
  where
    by_row : (o : Option Cited) → fact_of o ≡ None → number_of o ≡ None
    by_row None q = refl
    by_row (Some row) q = cc

-- the premises of a conclusion have their steps
steps_of : (u : World) (now : Known) (slots : List Slot) (facts : List Fact)
    → Reads (known_at u now) slots facts
    → AllByRecursion (IsStepIn u now) (map (place_in u now) slots)
steps_of u now [] [] r = tt
steps_of u now (s ∷ slots) (f ∷ facts) r =
    ((s, there_too (cited_at u now s) f r.0), steps_of u now slots facts r.1)
steps_of u now [] (f ∷ facts) r = absurd r
steps_of u now (s ∷ slots) [] r = absurd r

-- rows that are the same have the same steps
pub same_steps : (u : World) (k new : Known) → new.rows.items ≡ k.rows.items → (n : ℕ)
    → IsStepIn u new n → IsStepIn u k n
same_steps u k new e n w =
    let P : List (Option Cited) → Type 0 =
    λ rows. number_of (row_in rows (row_of (length u.nodes) u.pairs w.0)) ≡ Some n in
    (w.0, subst P e w.1)

-- ---- one fact comes
module _ (u : World) (old new : Log) (rule arg : ℕ) (premises : List ℕ) (c : Fact) where
  abbrev Row : Option Fact → StepRow
  Row met = coming rule arg premises met (place_in u old.known (slot_of c)) c

  longer : IsStep u old rule arg premises c new
      → length new.steps.items ≡ length old.steps.items + 1
  longer w = let e = ap length w.steps in
      let l = length-append old.steps.items (Row w.met ∷ []) in omega (arith, e, l)

  -- what is known has its old step, or the new one
  step_known : IsStep u old rule arg premises c new → (n : ℕ) → IsStepIn u new.known n
      → IsEarlier (IsStepIn u old.known) (old.first + length old.steps.items)
      (old.first + length new.steps.items) n
  step_known w n k =
      let there = slot_of (kept_in u old c) in
      elim (slot_cases k.0 there) [
        | inl d ↦
            (let e : Some (old.first + length old.steps.items) ≡ Some n =
            sym (ap number_of w.here) ∙ (ap (step_at u new.known) (sym d) ∙ k.1) in
            let number : old.first + length old.steps.items ≡ n = cc in
            let l = longer w in
            inr (omega (arith, number), omega (arith, number, l)))
        | inr d ↦ inl (k.0, ap number_of (sym (w.others k.0 d)) ∙ k.1)
      ]

-- ---- steps by instances
module _ (u : World) (now : Known) where
  pub adds_none : (log : Log) → AddsSteps u now 0 log log
  adds_none log = record {
    rows = [];
    steps = sym (append-nil log.steps.items);
    premises = omega arith;
    by = tt;
    known = λ n w. inl w;
  }

  pub adds_slack : (a b : ℕ) (old new : Log) → a ≤ b → AddsSteps u now a old new
      → AddsSteps u now b old new
  adds_slack a b old new l w = record {
    rows = w.rows;
    steps = w.steps;
    premises = (let p = w.premises in omega (arith, p, l));
    by = w.by;
    known = w.known;
  }

  pub adds_both : (a b : ℕ) (old mid new : Log) → mid.first ≡ old.first
      → AddsSteps u now a old mid → AddsSteps u now b mid new → AddsSteps u now (a + b) old new
  adds_both a b old mid new e v w = record {
    rows = v.rows ++ w.rows;
    steps = w.steps ∙ (ap (λ l. l ++ w.rows) v.steps
        ∙ append_assoc old.steps.items v.rows w.rows);
    premises = (let p = v.premises in
        let q = w.premises in
        let l = length-append v.rows w.rows in
        let s = premises_joined v.rows w.rows in
        omega (arith, p, q, l, s));
    by = all_joined (IsByInstance u (IsStepIn u now)) v.rows w.rows v.by w.by;
    known = λ n k.
        (let one = ap length v.steps in
        let two = ap length w.steps in
        let l = length-append old.steps.items v.rows in
        let m = length-append mid.steps.items w.rows in
        elim (w.known n k) [
          | inl h ↦ elim (v.known n h) [
            | inl g ↦ inl g
            | inr g ↦ inr (g.0, (let r = g.1 in omega (arith, r, two, m)))
          ]
          | inr h ↦ (let r = h.0 in let s = h.1 in
              inr (omega (arith, r, e, one, l), omega (arith, s, e)))
        ]);
  }

  -- A conclusion of an instance came.
  pub adds_one : (old new : Log) (found : Found) (i : Instance)
      → slice_get u.instances found.instance ≡ Some i
      → conclusion (concludes u.nodes u.hints) (known_at u now) i ≡ Some found.fact
      → Comes u old i.rule i.arg (map (place_in u now) i.premises) found.fact new
      → AddsSteps u now (more_by u found) old new
  adds_one old new found i there e come =
      let premises : List ℕ = map (place_in u now) i.premises in
      elim come [
        | inl y ↦
            (let P : Log → Type 0 = λ l. AddsSteps u now (more_by u found) old l in
            subst P (sym y.3)
            (adds_slack 0 (more_by u found) old old (omega arith) (adds_none old)))
        | inr y ↦
            (let row = Row u old new i.rule i.arg premises found.fact y.met in
            let q = conclusion_reads (concludes u.nodes u.hints) (known_at u now) i found.fact e in
            let m : length premises ≡ length i.premises = mapped (place_in u now) i.premises in
            let more : more_by u found ≡ length i.premises - 4 = ap beyond_in there in
            record {
              rows = row ∷ [];
              steps = y.steps;
              premises = omega (arith, m, more);
              by = (
                record {
                  number = found.instance;
                  instance = i;
                  there = there;
                  rule = refl;
                  arg = refl;
                  as_many = m;
                  from = steps_of u now i.premises q.0 q.1;
                },
                tt,
              );
              known = step_known u old new i.rule i.arg premises found.fact y;
            })
      ]

-- ---- what is given
module _ (u : World) (Old : ℕ → Type 0) where
  pub gives_none : (first : ℕ) (log : Log) → log.steps.items ≡ []
      → ((n : ℕ) → IsStepIn u log.known n → Old n) → BeginsBy u Old 0 first log
  gives_none first log e k = record {
    given =
        ((let l = ap length e in omega (arith, l)), subst (AllByRecursion IsGivenStep) (sym e) tt);
    known = λ n w. inl (k n w);
  }

  pub gives_slack : (most m first : ℕ) (log : Log) → most ≤ m → BeginsBy u Old most first log
      → BeginsBy u Old m first log
  gives_slack most m first log l b = record {
    given = ((let a = b.given.0 in omega (arith, a, l)), b.given.1);
    known = b.known;
  }

  -- a fact that is given comes
  pub gives_more : (most first : ℕ) (g : Given) (arg : ℕ) (old new : Log) (c : Fact)
      → old.first ≡ first → BeginsBy u Old most first old → ComesGiven u old g arg c new
      → BeginsBy u Old (most + 1) first new
  gives_more most first g arg old new c f b come =
      elim come [
        | inl y ↦
            (let P : Log → Type 0 = λ l. BeginsBy u Old (most + 1) first l in
            subst P (sym y.3) (gives_slack most (most + 1) first old (omega arith) b))
        | inr y ↦
            (let row = Row u old new (given_number g) arg [] c y.met in
            let l = longer u old new (given_number g) arg [] c y in
            let is : given_of row.rule ≢ None =
            λ e. none_some g (given_of (given_number g)) e (given_back g) in
            record {
              given = (
                (let a = b.given.0 in omega (arith, a, l)),
                subst (AllByRecursion IsGivenStep) (sym y.steps)
                    (all_last IsGivenStep old.steps.items row b.given.1 (is, refl)),
              );
              known = λ n k.
                  elim (step_known u old new (given_number g) arg [] c y n k) [
                    | inl h ↦ elim (b.known n h) [
                      | inl g ↦ inl g
                      | inr g ↦ inr (g.0, (let s = g.1 in omega (arith, s, l)))
                    ]
                    | inr h ↦ (let s = h.0 in let t = h.1 in
                        inr (omega (arith, s, f), omega (arith, t, f)))
                  ];
            })
      ]

-- ---- rounds after one another
row_map : (u : World) (P Q : ℕ → Type 0) → ((n : ℕ) → P n → Q n) → (row : StepRow)
    → IsByInstance u P row → IsByInstance u Q row
row_map u P Q f row r = record {
  number = r.number;
  instance = r.instance;
  there = r.there;
  rule = r.rule;
  arg = r.arg;
  as_many = r.as_many;
  from = all_as P Q f row.premises r.from;
}

pub by_map : (u : World) (P Q : ℕ → Type 0) → ((n : ℕ) → P n → Q n)
    → (rows : List StepRow) → AllByRecursion (IsByInstance u P) rows
    → AllByRecursion (IsByInstance u Q) rows
by_map u P Q f rows w = all_as (IsByInstance u P) (IsByInstance u Q) (row_map u P Q f) rows w

-- What stands before all of them stands before each.
pub each_later : (u : World) (Given : ℕ → Type 0) (first n next : ℕ) (rows : List StepRow)
    → n ≤ next → AllByRecursion (IsByInstance u (IsEarlier Given first n)) rows
    → AreFromEarlier u Given first next rows
each_later u Given first n next [] l w = tt
each_later u Given first n next (row ∷ rows) l w = (
  row_map u (IsEarlier Given first n) (IsEarlier Given first next)
      (λ m h. elim h [
        | inl g ↦ inl g
        | inr g ↦ (let r = g.1 in inr (g.0, omega (arith, r, l)))
      ])
      row w.0,
  each_later u Given first n (suc next) rows (omega (arith, l)) w.1,
)

-- The same steps where more may be cited.
from_map : (u : World) (P Q : ℕ → Type 0) (first start next : ℕ) (rows : List StepRow)
    → first ≤ start → start ≤ next → ((m : ℕ) → P m → IsEarlier Q first start m)
    → AreFromEarlier u P start next rows → AreFromEarlier u Q first next rows
from_map u P Q first start next [] l k f w = tt
from_map u P Q first start next (row ∷ rows) l k f w = (
  row_map u (IsEarlier P start next) (IsEarlier Q first next)
      (λ m h. elim h [
        | inl g ↦ elim (f m g) [
          | inl q ↦ inl q
          | inr q ↦ (let r = q.1 in inr (q.0, omega (arith, r, k)))
        ]
        | inr g ↦ (let r = g.0 in inr (omega (arith, r, l), g.1))
      ])
      row w.0,
  from_map u P Q first start (suc next) rows l (omega (arith, k)) f w.1,
)

-- a round of no steps
round_none : (u : World) (Given : ℕ → Type 0) (first next : ℕ) → IsRoundOf u Given first next []
round_none u Given first next = record { few = omega arith; premises = omega arith; by = tt }

rounds_more : (u : World) (Given : ℕ → Type 0) (first start n : ℕ) (rows : List StepRow)
    → AreRounds u Given first start n rows → AreRounds u Given first start (suc n) rows
rounds_more u Given first start n rows w =
    (rows, [], sym (append-nil rows), w, round_none u Given first (start + length rows))

rounds_most : (u : World) (Given : ℕ → Type 0) (first start m h : ℕ) (rows : List StepRow) → m ≤ h
    → AreRounds u Given first start m rows → AreRounds u Given first start h rows
rounds_most u Given first start m zero rows l w =
    let e : m ≡ zero = omega (arith, l) in
    subst (λ n. AreRounds u Given first start n rows) e w
rounds_most u Given first start m (suc h) rows l w =
    ⊎_elim
    (λ s. rounds_more u Given first start h rows
    (rounds_most u Given first start m h rows (omega (arith, s)) w))
    (λ s. let e : m ≡ suc h = omega (arith, s, l) in
    subst (λ n. AreRounds u Given first start n rows) e w)
    (cases_lt m (suc h))

-- The same rounds where more may be cited.
rounds_from : (u : World) (P Q : ℕ → Type 0) (first start n : ℕ) (rows : List StepRow)
    → first ≤ start → ((m : ℕ) → P m → IsEarlier Q first start m)
    → AreRounds u P start start n rows → AreRounds u Q first start n rows
rounds_from u P Q first start zero rows l f w = w
rounds_from u P Q first start (suc n) rows l f w =
    let before : List StepRow = w.0 in
    let last : List StepRow = w.1 in (
      before,
      last,
      w.2,
      rounds_from u P Q first start n before l f w.3,
      record {
        few = (w.4).few;
        premises = (w.4).premises;
        by = from_map u P Q first start (start + length before) last l (omega arith) f (w.4).by;
      },
    )

module _ (u : World) where
  pub rounds_none : (log : Log) → HasRounds u 0 log log
  rounds_none log = record {
    rows = [];
    steps = sym (append-nil log.steps.items);
    rounds = refl;
    known = λ n w. inl w;
  }

  pub rounds_slack : (m h : ℕ) (old new : Log) → m ≤ h → HasRounds u m old new
      → HasRounds u h old new
  rounds_slack m h old new l w =
      let start = old.first + length old.steps.items in
      record {
        rows = w.rows;
        steps = w.steps;
        rounds = rounds_most u (IsStepIn u old.known) start start m h w.rows l w.rounds;
        known = w.known;
      }

  -- A round more, where what it read is what the log came to.
  one_round : (now : Known) (m : ℕ) (first old new : Log) (changed : List Placed)
      → HasRounds u m first old → old.first ≡ first.first
      → now.rows.items ≡ old.known.rows.items → IsRound u now old new changed
      → HasRounds u (suc m) first new
  one_round now m first old new changed w f e r =
      let start = first.first + length first.steps.items in
      let Given : ℕ → Type 0 = IsStepIn u first.known in
      let a = r.adds in
      let one = ap length w.steps in
      let two = ap length a.steps in
      let l = length-append first.steps.items w.rows in
      let k = length-append old.steps.items a.rows in
      let own : first.first + length old.steps.items ≡ start + length w.rows =
      omega (arith, one, l) in
      let end : old.first + length old.steps.items ≡ start + length w.rows =
      omega (arith, f, one, l) in
      record {
        rows = w.rows ++ a.rows;
        steps = a.steps ∙ (ap (λ s. s ++ a.rows) w.steps
            ∙ append_assoc first.steps.items w.rows a.rows);
        rounds = (
          w.rows,
          a.rows,
          refl,
          w.rounds,
          record {
            few = (let b = r.few in omega (arith, b, two, k));
            premises = (let b = r.few in let p = a.premises in omega (arith, b, p, two, k));
            by = each_later u Given start (start + length w.rows) (start + length w.rows) a.rows
                (omega arith)
                (by_map u (IsStepIn u now) (IsEarlier Given start (start + length w.rows))
                (λ n h. subst (λ x. IsEarlier Given start x n)
                (omega (arith, f, one, l))
                (w.known n (same_steps u old.known now e n h)))
                a.rows a.by);
          },
        );
        known = λ n h.
            elim (a.known n h) [
              | inl g ↦ elim (w.known n g) [
                | inl q ↦ inl q
                | inr q ↦ (let x = q.1 in inr (q.0, omega (arith, x, two, k)))
              ]
              | inr g ↦ (let x = g.0 in let y = g.1 in
                  inr (omega (arith, x, end), omega (arith, y, f)))
            ];
      }

  pub has_round : (now : Known) (m h : ℕ) (first old new : Log) (changed : List Placed)
      → HasRounds u m first old → old.first ≡ first.first
      → now.rows.items ≡ old.known.rows.items → IsRound u now old new changed → m + 1 ≤ h
      → HasRounds u h first new
  has_round now m h first old new changed w f e r l =
      rounds_slack (suc m) h first new (omega (arith, l))
      (one_round now m first old new changed w f e r)

  -- What is given, and the rounds behind it.
  pub by_rounds : (Given : ℕ → Type 0) (most height first : ℕ) (old new : Log)
      → old.first ≡ first → BeginsBy u Given most first old → HasRounds u height old new
      → AreByRounds u Given most height first new.steps.items
  by_rounds Given most height first old new f b w =
      let start = old.first + length old.steps.items in
      let e : start ≡ first + length old.steps.items = omega (arith, f) in
      record {
        given = old.steps.items;
        later = w.rows;
        steps_are = w.steps;
        given_are = b.given;
        rounds = subst (λ s. AreRounds u Given first s height w.rows) e
            (rounds_from u (IsStepIn u old.known) Given first start height w.rows
            (omega (arith, f))
            (λ n k. subst (λ s. IsEarlier Given first s n) (sym e) (b.known n k)) w.rounds);
      }
