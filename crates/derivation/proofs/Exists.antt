-- Laws of what specs/Exists defines.
use Rattle.std.specs.Prelude.{◌≡◌, ◌≢◌, ◌⊎◌, ◌<◌, ◌≤◌, ◌+◌, ℕ, zero, suc, List, [], ◌∷◌, Option}
use Rattle.std.specs.Prelude.{Some, None, slice_get, length, refl}
use Rattle.std.proofs.Common.{sym, ◌∙◌, ap, inl, inr, arith}
use Rattle.fx_model.specs.declared.Node.{Node}
use Rattle.fx_model.specs.declared.Node.TheVariants as node
use Rattle.interval.specs.Results.{whole_interval}
use Rattle.facts.specs.declared.fact.Fact.{Fact}
use Rattle.facts.specs.declared.fact.Slot.{Slot}
use Rattle.facts.specs.declared.fact.Fact.TheVariants as fact
use Rattle.facts.specs.declared.fact.Slot.TheVariants as slot
use Rattle.facts.specs.Order.{slot_of}
use Rattle.facts.proofs.Laws.{meet_exists}
use Rattle.facts.specs.declared.instance.Instance.{Instance}
use Rattle.facts.proofs.CommonParts.{at_option}
use Rattle.derivation.specs.Lists.{IsLawful}
use Rattle.derivation.specs.Derivations.{Setting, At, IsBest, IsClosed}
use Rattle.derivation.specs.Known.{Piece, IsGiven, GivenAt, IsTableAt}
use Rattle.derivation.specs.Rounds.{IsProper, conclusion, IsWritten, IsKept, Improves, IsAhead}
use Rattle.derivation.specs.Rounds.{AllSeen, InTable, IsBestFrom}
use Rattle.derivation.specs.Parts.{slot_cases}
use Rattle.derivation.proofs.Best.{best_proper, next_best}
use Rattle.derivation.proofs.Ahead.{ahead_begin, ahead_fewer, ahead_skip, ahead_step, ahead_next}
use Rattle.derivation.proofs.Heights.{best_start, best_void}
use Rattle.derivation.proofs.Rebased.{rebase}
use Rattle.derivation.proofs.Begun.{given_lines, known_given, gather_blank, gather_less}
use Rattle.derivation.proofs.Begun.{gather_hypothesis, gather_line, lines_none, lines_skip}
use Rattle.derivation.proofs.Begun.{child_start, child_table, root_table}
use Rattle.derivation.specs.Begun.{IsGathered, FirstHypotheses, FirstLines}
use Rattle.derivation.specs.Exists.{choose, written, or_else, joined, with_fact, with_conclusion}
use Rattle.derivation.specs.Exists.{conclusion_of, after_instances, after_round, after_rounds}
use Rattle.derivation.specs.Exists.{blank, with_hypotheses, line_of, with_lines, table_at}
use Rattle.derivation.specs.Exists.{table_of_height}

-- ---- a fact that comes to a table
choose_same : {s t : Slot} (x : (s ≡ t) ⊎ (s ≢ t)) (a b : Option Fact) → s ≡ t → choose x a b ≡ a
choose_same (inl e) a b h = refl
choose_same (inr d) a b h = absurd (d h)

choose_other : {s t : Slot} (x : (s ≡ t) ⊎ (s ≢ t)) (a b : Option Fact) → (s ≢ t) → choose x a b ≡ b
choose_other (inl e) a b h = absurd (h e)
choose_other (inr d) a b h = refl

written_is : (at : At) (k : Fact) → IsWritten at (written at k) k
written_is at k = record {
  here = choose_same (slot_cases (slot_of k) (slot_of k)) (Some k) (at (slot_of k)) refl;
  others = λ s d. choose_other (slot_cases s (slot_of k)) (Some k) (at s) d;
}

joined_kept : (o : Option Fact) (c : Fact) → ((g : Fact) → o ≡ Some g → slot_of g ≡ slot_of c)
    → IsKept o c (joined o c)
joined_kept None c p = refl
joined_kept (Some g) c p = let m = meet_exists g c (p g refl) in
    inr (m.1.is ∙ ap Some (ap (λ o. or_else o g) (sym m.1.is)))

pub with_fact-improves : (at : At) → IsProper at → (c : Fact)
    → Improves at (with_fact at c) c (joined (at (slot_of c)) c)
with_fact-improves at p c = record {
  kept = joined_kept (at (slot_of c)) c (p (slot_of c));
  written = written_is at (joined (at (slot_of c)) c);
}

-- ---- a round
within : {X : Type 0} (xs : List X) (n : ℕ) → n < length xs → slice_get xs n ≡ None → ⊥
within [] n h e = absurd (omega arith)
within (x ∷ xs) zero h e = cc
within (x ∷ xs) (suc n) h e = within xs n (omega arith) e

module _ (u : Setting) (at : At) (p : IsProper at) where
  below_suc : (n : ℕ) (new : At) → IsAhead u at new (λ j. j < n + 1)
      → IsAhead u at new (λ j. j < suc n)
  below_suc n new a =
      ahead_fewer u at new (λ j. j < n + 1) (λ j. j < suc n) a (λ k i e l. omega arith)

  after_instances-ahead : (n : ℕ) → n ≤ length u.instances
      → IsAhead u at (after_instances u at n) (λ j. j < n)
  after_instances-ahead zero h = ahead_begin u at at (λ j. j < 0) p (λ s. refl) (λ k l. omega arith)
  after_instances-ahead (suc n) h =
      let a = after_instances-ahead n (omega arith) in
      let new : At = after_instances u at n in
      at_option (slice_get u.instances n) (λ o. slice_get u.instances n ≡ o
      → IsAhead u at (with_conclusion new (conclusion_of u at o)) (λ j. j < suc n))
      (λ z e. absurd (within u.instances n (omega arith) e))
      (λ i z e. below_suc n _ (ahead_next u at _ n (one_more n i a e)))
      refl
    where
      one_more : (n : ℕ) (i : Instance) → IsAhead u at (after_instances u at n) (λ j. j < n)
          → slice_get u.instances n ≡ Some i
          → IsAhead u at (with_conclusion (after_instances u at n) (conclusion u.rules at i))
          (λ k. (k < n) ⊎ (n ≡ k))
      one_more n i a e =
          let new : At = after_instances u at n in
          at_option (conclusion u.rules at i) (λ o. conclusion u.rules at i ≡ o
          → IsAhead u at (with_conclusion new o) (λ k. (k < n) ⊎ (n ≡ k)))
          (λ y q. ahead_skip u at new (λ j. j < n) n i a e q)
          (λ c y q. ahead_step u at new (λ j. j < n) n i a e c q (with_fact new c)
          (joined (new (slot_of c)) c) (with_fact-improves new (λ s f r. (a.made s f r).0) c))
          refl

-- ---- rounds
after_rounds-best : (u : Setting) → IsLawful u.rules → IsClosed u.instances → (start : At)
    → IsProper start → (h : ℕ) → IsBestFrom u start h (after_rounds u start h)
after_rounds-best u lawful closed start p zero = best_start u start p
after_rounds-best u lawful closed start p (suc h) =
    let b = after_rounds-best u lawful closed start p h in
    let at : At = after_rounds u start h in
    at_option (at slot.Void) (λ o. at slot.Void ≡ o
    → IsBestFrom u start (suc h) (after_round u at o))
    (λ n e.
    let a = after_instances-ahead u at (best_proper u (InTable start) h at b)
    (length u.instances) (omega arith) in
    next_best u lawful closed (InTable start) h at (after_instances u at (length u.instances)) b e
    (ahead_fewer u at (after_instances u at (length u.instances))
    (λ j. j < length u.instances) AllSeen a (λ k i q l. there u.instances k i q)))
    (λ f q e. best_void u (InTable start) h (suc h) at f b e (omega arith))
    refl
  where
    there : (is : List Instance) (k : ℕ) (i : Instance) → slice_get is k ≡ Some i → k < length is
    there [] k i e = cc
    there (j ∷ is) zero i e = omega arith
    there (j ∷ is) (suc k) i e = let h : k < length is = there is k i e in omega arith

-- ---- boxes
module _ (u : Setting) where
  hypotheses_gathered : (n : ℕ) → n ≤ length u.hypotheses
      → IsGathered u (IsGiven u) (FirstHypotheses u.hypotheses n) (with_hypotheses u.hypotheses n)
  hypotheses_gathered zero h = gather_blank u (IsGiven u) (FirstHypotheses u.hypotheses 0) blank
      (λ s. refl) (λ x w. let l : w.0 < 0 = w.1 in omega arith)
  hypotheses_gathered (suc n) h =
      let g = hypotheses_gathered n (omega arith) in
      let at : At = with_hypotheses u.hypotheses n in
      at_option (slice_get u.hypotheses n) (λ o. slice_get u.hypotheses n ≡ o
      → IsGathered u (IsGiven u) (FirstHypotheses u.hypotheses (suc n)) (with_conclusion at o))
      (λ z e. absurd (within u.hypotheses n (omega arith) e))
      (λ c z e. up_one n (with_fact at c) (gather_hypothesis u n at (with_fact at c) c
      (joined (at (slot_of c)) c) e g (with_fact-improves at g.proper c)))
      refl
    where
      up_one : (n : ℕ) (new : At)
          → IsGathered u (IsGiven u) (FirstHypotheses u.hypotheses (n + 1)) new
          → IsGathered u (IsGiven u) (FirstHypotheses u.hypotheses (suc n)) new
      up_one n new g = gather_less u (IsGiven u)
          (FirstHypotheses u.hypotheses (n + 1)) (FirstHypotheses u.hypotheses (suc n)) new g
          (λ x w. (w.0, let l : w.0 < suc n = w.1 in omega arith, w.2))

  abbrev Lines : ℕ → Fact → Type 0
  Lines n = FirstLines u.nodes u.hypotheses n

  lines_up : (n : ℕ) (new : At) → IsGathered u (IsGiven u) (Lines (n + 1)) new
      → IsGathered u (IsGiven u) (Lines (suc n)) new
  lines_up n new g = gather_less u (IsGiven u) (Lines (n + 1)) (Lines (suc n)) new g
      (λ x w. elim w [
        | inl y ↦ inl y
        | inr y ↦ inr (y.0, y.1, let l : (y.0).0 < suc n = y.2 in omega arith, y.3, y.4)
      ])

  line_more : (n : ℕ) (at : At) (o : Option Node)
      → slice_get u.nodes n ≡ o → IsGathered u (IsGiven u) (Lines n) at
      → IsGathered u (IsGiven u) (Lines (n + 1)) (with_conclusion at (line_of n o))
  line_more n at (Some (node.Var v)) e g =
      let c : Fact = fact.Bnd (record { 0 = n }) whole_interval in
      gather_line u n v at (with_fact at c)
      (joined (at (slot_of c)) c) e g (with_fact-improves at g.proper c)
  line_more n at None e g =
      gather_less u (IsGiven u) (Lines n) (Lines (n + 1)) at g (lines_skip u.nodes u.hypotheses n
      (λ v q. let h : None ≡ Some (node.Var v) = sym e ∙ q in cc))
  line_more n at (Some (node.Lit l)) e g =
      gather_less u (IsGiven u) (Lines n) (Lines (n + 1)) at g (lines_skip u.nodes u.hypotheses n
      (λ v q. let h : Some (node.Lit l) ≡ Some (node.Var v) = sym e ∙ q in cc))
  line_more n at (Some (node.Neg x)) e g =
      gather_less u (IsGiven u) (Lines n) (Lines (n + 1)) at g (lines_skip u.nodes u.hypotheses n
      (λ v q. let h : Some (node.Neg x) ≡ Some (node.Var v) = sym e ∙ q in cc))
  line_more n at (Some (node.Add x y)) e g =
      gather_less u (IsGiven u) (Lines n) (Lines (n + 1)) at g (lines_skip u.nodes u.hypotheses n
      (λ v q. let h : Some (node.Add x y) ≡ Some (node.Var v) = sym e ∙ q in cc))
  line_more n at (Some (node.Sub x y)) e g =
      gather_less u (IsGiven u) (Lines n) (Lines (n + 1)) at g (lines_skip u.nodes u.hypotheses n
      (λ v q. let h : Some (node.Sub x y) ≡ Some (node.Var v) = sym e ∙ q in cc))
  line_more n at (Some (node.Mul x y)) e g =
      gather_less u (IsGiven u) (Lines n) (Lines (n + 1)) at g (lines_skip u.nodes u.hypotheses n
      (λ v q. let h : Some (node.Mul x y) ≡ Some (node.Var v) = sym e ∙ q in cc))
  line_more n at (Some (node.Div x y)) e g =
      gather_less u (IsGiven u) (Lines n) (Lines (n + 1)) at g (lines_skip u.nodes u.hypotheses n
      (λ v q. let h : Some (node.Div x y) ≡ Some (node.Var v) = sym e ∙ q in cc))
  line_more n at (Some (node.Abs x)) e g =
      gather_less u (IsGiven u) (Lines n) (Lines (n + 1)) at g (lines_skip u.nodes u.hypotheses n
      (λ v q. let h : Some (node.Abs x) ≡ Some (node.Var v) = sym e ∙ q in cc))
  line_more n at (Some (node.Round r x)) e g =
      gather_less u (IsGiven u) (Lines n) (Lines (n + 1)) at g (lines_skip u.nodes u.hypotheses n
      (λ v q. let h : Some (node.Round r x) ≡ Some (node.Var v) = sym e ∙ q in cc))

  lines_gathered : (n : ℕ) → IsGathered u (IsGiven u) (Lines n) (with_lines u n)
  lines_gathered zero = gather_less u (IsGiven u)
      (FirstHypotheses u.hypotheses (length u.hypotheses)) (Lines 0) (with_lines u 0)
      (hypotheses_gathered (length u.hypotheses) (omega arith))
      (lines_none u.nodes u.hypotheses (length u.hypotheses) (omega arith))
  lines_gathered (suc n) = lines_up n (with_lines u (suc n))
      (line_more n (with_lines u n) (slice_get u.nodes n) refl (lines_gathered n))

-- It is the best table, for every list of pieces and every height.
pub table_at-best : (u : Setting) → IsLawful u.rules → IsClosed u.instances
    → (height : ℕ) (pieces : List Piece) → IsTableAt u height pieces (table_at u height pieces)
table_at-best u lawful closed height [] =
    let g = lines_gathered u (length u.nodes) in
    root_table u lawful closed height (with_lines u (length u.nodes)) (table_at u height []) g
    (after_rounds-best u lawful closed (with_lines u (length u.nodes)) g.proper height)
table_at-best u lawful closed height (piece ∷ above) =
    let b = table_at-best u lawful closed height above in
    let at : At = table_at u height above in
    let c : Fact = fact.Bnd piece.0 piece.1 in
    let i = with_fact-improves at (λ s f e. (b.reached s f e).0) c in
    let g = child_start u height above piece at at (with_fact at c)
    (joined (at (slot_of c)) c) b (λ s. refl) i in
    child_table u height above piece at at (with_fact at c) (joined (at (slot_of c)) c) b
    (λ s. refl) i lawful closed (after_rounds u (with_fact at c) height)
    (after_rounds-best u lawful closed (with_fact at c) g.proper height)

-- ---- heights
-- It is the best, for every height.
pub table_of_height-best : (u : Setting)
    → IsLawful u.rules → IsClosed u.instances → (height : ℕ) (pieces : List Piece) (r : ℕ)
    → IsBest u (GivenAt u height pieces) r (table_of_height u height pieces r)
table_of_height-best u lawful closed height [] r =
    let g = lines_gathered u (length u.nodes) in
    let start : At = with_lines u (length u.nodes) in
    rebase u lawful closed (GivenAt u height []) start g.proper (λ v x w.
    g.up v x (given_lines u (length u.nodes) (omega arith) x w)) g.down r (after_rounds u start r)
    (after_rounds-best u lawful closed start g.proper r)
table_of_height-best u lawful closed height (piece ∷ above) r =
    let b = table_at-best u lawful closed height above in
    let at : At = table_at u height above in
    let c : Fact = fact.Bnd piece.0 piece.1 in
    let i = with_fact-improves at (λ s f e. (b.reached s f e).0) c in
    let g = child_start u height above piece at at (with_fact at c)
    (joined (at (slot_of c)) c) b (λ s. refl) i in
    rebase u lawful closed (GivenAt u height (piece ∷ above)) (with_fact at c) g.proper
    (λ v x w. elim w [
      | inl y ↦ g.up v x (inl (known_given u height above x y))
      | inr y ↦ elim y [ inl e ↦ g.up v x (inr e) | inr d ↦ g.up v x (inl d) ]
    ]) g.down r
    (after_rounds u (with_fact at c) r)
    (after_rounds-best u lawful closed (with_fact at c) g.proper r)
