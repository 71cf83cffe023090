-- For every box there are accepted steps that conclude its best facts.
use Rattle.std.specs.Prelude.{◌≡◌, ◌<◌, ◌≤◌, ◌+◌, ◌*◌, ◌^◌, ℕ, zero, suc, List, [], ◌∷◌, ◌++◌}
use Rattle.std.specs.Prelude.{length, Option, Some, None, slice_get, map, refl}
use Rattle.std.proofs.Common.{sym, ◌∙◌, ap, subst, inl, inr, arith}
use Rattle.std.proofs.lemmas.List.{length-append}
use Rattle.std.proofs.lemmas.Option.{slice_get_within}
use Rattle.fx_model.specs.declared.ExprId.{ExprId}
use Rattle.fx_model.specs.declared.Node.{Node}
use Rattle.fx_model.specs.declared.Node.TheVariants as node
use Rattle.interval.specs.Results.{whole_interval}
use Rattle.facts.specs.declared.fact.Fact.{Fact}
use Rattle.facts.specs.declared.fact.Slot.{Slot}
use Rattle.facts.specs.declared.fact.Fact.TheVariants as fact
use Rattle.facts.specs.declared.fact.Slot.TheVariants as slot
use Rattle.facts.specs.declared.hint.HintRow.{HintRow}
use Rattle.facts.specs.Order.{slot_of}
use Rattle.facts.specs.declared.instance.Instance.{Instance}
use Rattle.facts.proofs.CommonParts.{at_option}
use Rattle.theorem_list.specs.Concludes.{concludes}
use Rattle.derivation.specs.Derivations.{Setting, At}
use Rattle.derivation.specs.Known.{Piece}
use Rattle.derivation.specs.Rounds.{IsProper, conclusion}
use Rattle.derivation.proofs.Parts.{conclusion_reads}
use Rattle.derivation.specs.Exists.{joined, with_fact, with_conclusion, conclusion_of}
use Rattle.derivation.specs.Exists.{after_instances, after_round, after_rounds, blank}
use Rattle.derivation.specs.Exists.{with_hypotheses, line_of, with_lines, table_at}
use Rattle.derivation.proofs.Exists.{with_fact-improves}
use Rattle.derivation.proofs.Steps.{improved_proper}
use Rattle.cert_bytes.specs.declared.item.StepRow.{StepRow}
use Rattle.cert_bytes.specs.Certificates.{IsCounted, IsShort}
use Rattle.cert_checker.specs.Open.{Numbered, with_step}
use Rattle.cert_checker.specs.declared.given.Given.TheVariants as given
use Rattle.cert_checker.specs.Given.{given_number}
use Rattle.cert_checker.proofs.GivenLaws.{given_short, given_low}
use Rattle.cert_checker.specs.Steps.{step_facts, gives, gives_by, met_with, IsEnough, target_of}
use Rattle.cert_checker.specs.Steps.{whole_line, variable_fact}
use Rattle.tree_certificates.specs.Sections.{behind, ArePlaces, AreBelow}
use Rattle.tree_certificates.specs.Writing.{IsSlotKnown, IsWritable, givens_of}
use Rattle.tree_certificates.specs.Traces.{Trace, IsCutTo, most_steps}
use Rattle.tree_certificates.proofs.Cited.{step_kept, behind_both, premises_found, fields_more}
use Rattle.tree_certificates.proofs.Cited.{mapped, reads_length}
use Rattle.tree_certificates.proofs.Coming.{met_by, aims, enough, coming_accepted, placed_at}
use Rattle.tree_certificates.proofs.Coming.{traced_more, met_by_interval, line_joined}
use Rattle.tree_certificates.specs.Coming.{coming}

one_longer : (rows : List StepRow) (row : StepRow) (n : ℕ) → length rows ≤ n
    → length (rows ++ row ∷ []) ≤ n + 1
one_longer rows row n h = omega (arith, length-append rows (row ∷ []), h)

module _ (u : Setting) (hints : List HintRow) (w : IsWritable u hints) (piece : Option Fact)
    (s : Numbered) (below : AreBelow s) where
  abbrev Here : At → ℕ → Type 0
  Here at n = Trace (givens_of u hints piece) s at n

  -- more are allowed
  slack : (at : At) (n m : ℕ) → n ≤ m → Here at n → Here at m
  slack at n m h t = record {
    rows = t.rows;
    place = t.place;
    proper = t.proper;
    traced = t.traced;
    fields = t.fields;
    few = let f = t.few in omega (arith, f, h);
  }

  -- the step by which c comes to the table
  abbrev row_for : (at : At) (n : ℕ) → Here at n → ℕ → ℕ → List ℕ → Fact → StepRow
  row_for at n t rule arg premises c =
      coming rule arg premises (at (slot_of c)) (t.place (slot_of c)) c

  -- what the rule gives is enough for c to come
  abbrev IsEnoughFor : (at : At) (n : ℕ) → Here at n → ℕ → ℕ → List ℕ → List Fact → Fact → Type 0
  IsEnoughFor at n t rule arg premises ps c =
      IsEnough (met_with (gives (givens_of u hints piece) (row_for at n t rule arg premises c) ps
      (met_by (at (slot_of c)) c)) (met_by (at (slot_of c)) c)) (joined (at (slot_of c)) c)

  come : (at : At) (n : ℕ) (t : Here at n) (rule arg : ℕ) (premises : List ℕ) (ps : List Fact)
      (c : Fact) → IsCounted premises → rule < 256 → IsShort arg → IsSlotKnown u.nodes (slot_of c)
      → step_facts (behind s t.rows).rows premises ≡ Some ps
      → IsEnoughFor at n t rule arg premises ps c → Here (with_fact at c) (n + 1)
  come at n t rule arg premises ps c m small short k f e =
      let row = row_for at n t rule arg premises c in
      let i = with_fact-improves at t.proper c in
      record {
        rows = t.rows ++ row ∷ [];
        place = placed_at t.place row.fact (behind s t.rows).next;
        proper = improved_proper at (with_fact at c) c (joined (at (slot_of c)) c) i t.proper;
        traced = traced_more (givens_of u hints piece) s t.rows at
            (with_fact at c) t.place row below t.traced
            (coming_accepted (givens_of u hints piece)
            (behind s t.rows) rule arg premises ps (at (slot_of c)) (t.place (slot_of c)) c
            (λ h q. t.proper (slot_of c) h q) (λ h q. t.traced.placed (slot_of c) h q) k f e)
            i.written;
        fields =
            fields_more t.rows row t.fields (record { counted = m; rule = small; arg = short });
        few = one_longer t.rows row n t.few;
      }

  -- ---- instances
  -- the rule of an instance gives its conclusion where the step aims
  instance_gives : (i : Instance) (at : At) (c : Fact) (ps : List Fact) (premises : List ℕ) (n : ℕ)
      → u.rules i.rule i.arg ps i.target ≡ Some c
      → ((h : Fact) → at (slot_of c) ≡ Some h → slot_of h ≡ slot_of c) →
      gives (givens_of u hints piece)
      (coming i.rule i.arg premises (at (slot_of c)) n c) ps (met_by (at (slot_of c)) c) ≡ Some c
  instance_gives i at c ps premises n e p =
      let g = givens_of u hints piece in
      let row = coming i.rule i.arg premises (at (slot_of c)) n c in
      let none = given_low i.rule (w.low i.rule i.arg ps i.target c e) in
      let o : u.rules i.rule i.arg ps (slot_of c) ≡ Some c =
      elim (w.on_target i.rule i.arg ps i.target c e) [
        | inl q ↦ ap (u.rules i.rule i.arg ps) q ∙ e
        | inr q ↦ ap (u.rules i.rule i.arg ps) (ap slot_of q)
            ∙ (w.void_fits i.rule i.arg ps i.target (e ∙ ap Some q) ∙ ap Some (sym q))
      ] in
      let z : concludes u.nodes hints i.rule i.arg ps (target_of (joined (at (slot_of c)) c)
      (met_by (at (slot_of c)) c)) ≡ Some c =
      ap (concludes u.nodes hints i.rule i.arg ps) (aims (at (slot_of c)) c p)
      ∙ (sym (w.listed i.rule i.arg ps (slot_of c)) ∙ o) in
      ap (gives_by g row ps (met_by (at (slot_of c)) c)) none ∙ z

  target_known : (k : ℕ) (i : Instance) (ps : List Fact) (c : Fact)
      → slice_get u.instances k ≡ Some i → u.rules i.rule i.arg ps i.target ≡ Some c
      → IsSlotKnown u.nodes (slot_of c)
  target_known k i ps c g e =
      elim (w.on_target i.rule i.arg ps i.target c e) [
        | inl q ↦ subst (IsSlotKnown u.nodes) (sym q) (w.targets k i g)
        | inr q ↦ subst (IsSlotKnown u.nodes) (ap slot_of (sym q)) tt
      ]

  -- The steps of a round, by which conclusions from the one table come to the other.
  module _ (at : At) (place : Slot → ℕ) where
    abbrev InRound : At → ℕ → Type 0
    InRound new m = (t : Here new m) × ArePlaces (behind s t.rows) at place

    slack_round : (new : At) (n m : ℕ) → n ≤ m → InRound new n → InRound new m
    unfolding slack
    slack_round new n m h r = (slack new n m h r.0, r.1)

    instance_comes : (n : ℕ) (i : Instance) (new : At) (m : ℕ) (c : Fact)
        → slice_get u.instances n ≡ Some i → conclusion u.rules at i ≡ Some c → InRound new m
        → InRound (with_fact new c) (m + 1)
    unfolding come
    instance_comes n i new m c g e r =
        let t = r.0 in
        let q = conclusion_reads u.rules at i c e in
        let premises : List ℕ = map place i.premises in
        let p : (h : Fact) → new (slot_of c) ≡ Some h
        → slot_of h ≡ slot_of c = λ h y. t.proper (slot_of c) h y in
        let P : Option Fact → Type 0 =
        λ x. IsEnough (met_with x (met_by (new (slot_of c)) c)) (joined (new (slot_of c)) c) in
        let row = row_for new m t i.rule i.arg premises c in
        let low = w.low i.rule i.arg q.0 i.target c q.2 in
        let here : Here (with_fact new c) (m + 1) = come new m t i.rule i.arg premises q.0 c
        (let k = mapped place i.premises in let r = reads_length at i.premises q.0 q.1 in let l =
        w.counted i.rule i.arg q.0 i.target c q.2 in omega (arith, k, r, l)) (omega (arith, low))
        (w.args n i g) (target_known n i q.0 c g q.2)
        (premises_found (behind s t.rows) at place r.1 i.premises q.0 q.1)
        (subst P (sym (instance_gives i new c q.0 premises (t.place (slot_of c)) q.2 p))
        (enough (new (slot_of c)) c p)) in
        let last : behind s (t.rows ++ row ∷ []) ≡ with_step (behind s t.rows) row.fact =
        behind_both s t.rows (row ∷ []) in (
          here,
          subst (λ x. ArePlaces x at place) (sym last)
              (λ l f y. step_kept (behind s t.rows) row.fact (place l) f (r.1 l f y)),
        )

    instances_come : (m : ℕ) → InRound at m → (n : ℕ) → InRound (after_instances u at n) (m + n)
    instances_come m r zero = slack_round at m (m + 0) (omega arith) r
    instances_come m r (suc n) =
        let before = instances_come m r n in
        let same : InRound (after_instances u at n) (m + suc n) =
        slack_round (after_instances u at n) (m + n) (m + suc n) (omega arith) before in
        at_option (slice_get u.instances n)
        (λ o. InRound (with_conclusion (after_instances u at n) (conclusion_of u at o)) (m + suc n))
        (λ e. same)
        (λ i g. at_option (conclusion u.rules at i)
        (λ o. InRound (with_conclusion (after_instances u at n) o) (m + suc n))
        (λ e. same)
        (λ c e. slack_round (with_fact (after_instances u at n) c) (m + n + 1) (m + suc n)
        (omega arith) (instance_comes n i (after_instances u at n) (m + n) c g e before)))

  one_round_more : (n h l : ℕ) → n + h * l + l ≤ n + suc h * l
  one_round_more n h l = omega arith

  rounds_come : (start : At) (n : ℕ) → Here start n → (h : ℕ)
      → Here (after_rounds u start h) (n + h * length u.instances)
  rounds_come start n t zero = slack start n (n + 0 * length u.instances) (omega arith) t
  rounds_come start n t (suc h) =
      let b = rounds_come start n t h in
      let at : At = after_rounds u start h in
      let m : ℕ = n + h * length u.instances in
      let more : m + length u.instances ≤ n + suc h * length u.instances =
      one_round_more n h (length u.instances) in
      at_option (at slot.Void) (λ o. Here (after_round u at o) (n + suc h * length u.instances))
      (λ e. slack (after_instances u at (length u.instances))
      (m + length u.instances) (n + suc h * length u.instances) more
      (instances_come at b.place m (b, b.traced.placed) (length u.instances)).0)
      (λ f e. slack at m (n + suc h * length u.instances) (omega (arith, more)) b)

-- ---- the root
module _ (u : Setting) (hints : List HintRow) (w : IsWritable u hints) (s : Numbered)
    (below : AreBelow s) where
  abbrev AtRoot : At → ℕ → Type 0
  AtRoot at n = Trace (givens_of u hints None) s at n

  none_come : AtRoot blank 0
  none_come = record {
    rows = [];
    place = λ t. 0;
    proper = λ t f e. cc;
    traced = record { accepted = tt; placed = λ t f e. cc };
    fields = tt;
    few = omega arith;
  }

  hypotheses_come : (n : ℕ) → n ≤ length u.hypotheses → AtRoot (with_hypotheses u.hypotheses n) n
  hypotheses_come zero h = none_come
  hypotheses_come (suc n) h =
      let t = hypotheses_come n (omega (arith, h)) in
      let at : At = with_hypotheses u.hypotheses n in
      at_option (slice_get u.hypotheses n) (λ o. AtRoot (with_conclusion at o) (suc n))
      (λ e. slack u hints w None s below at n (suc n) (omega arith) t)
      (λ c e.
      let P : Option Fact → Type 0 =
      λ x. IsEnough (met_with x (met_by (at (slot_of c)) c)) (joined (at (slot_of c)) c) in
      let few = w.few_hypotheses in
      let short : n < 2 ^ 16 = omega (arith, h, few) in
      slack u hints w None s below (with_fact at c) (n + 1) (suc n) (omega arith)
      (come u hints w None s below at n t (given_number given.Hypothesis) n [] [] c (omega arith)
      (given_short given.Hypothesis) short (w.hypotheses n c e) refl
      (subst P (sym e) (enough (at (slot_of c)) c (λ h q. t.proper (slot_of c) h q)))))

  variable_comes : (n v : ℕ) (at : At) (m : ℕ) → slice_get u.nodes n ≡ Some (node.Var v)
      → AtRoot at m → AtRoot (with_fact at (fact.Bnd (record { 0 = n }) whole_interval)) (m + 1)
  variable_comes n v at m e t =
      let x : ExprId = record { 0 = n } in
      let c : Fact = fact.Bnd x whole_interval in
      let j = line_joined x (at (slot.Bnd x)) (λ g q. t.proper (slot.Bnd x) g q) in
      let line : whole_line u.nodes (joined (at (slot_of c)) c) ≡ Some c =
      ap (whole_line u.nodes) j.1 ∙ ap (variable_fact x) e in
      let P : Option Fact → Type 0 =
      λ o. IsEnough (met_with o (met_by (at (slot_of c)) c)) (joined (at (slot_of c)) c) in
      come u hints w None s below at m t (given_number given.Variable) 0 [] [] c (omega arith)
      (given_short given.Variable) (omega arith) (slice_get_within u.nodes n (node.Var v) e) refl
      (subst P (sym line) (enough (at (slot_of c)) c (λ h q. t.proper (slot_of c) h q)))

  line_comes : (n : ℕ) (at : At) (m : ℕ) (o : Option Node) → slice_get u.nodes n ≡ o → AtRoot at m
      → AtRoot (with_conclusion at (line_of n o)) (m + 1)
  line_comes n at m (Some (node.Var v)) e t = variable_comes n v at m e t
  line_comes n at m None e t = slack u hints w None s below at m (m + 1) (omega arith) t
  line_comes n at m (Some (node.Lit l)) e t =
      slack u hints w None s below at m (m + 1) (omega arith) t
  line_comes n at m (Some (node.Neg x)) e t =
      slack u hints w None s below at m (m + 1) (omega arith) t
  line_comes n at m (Some (node.Add x y)) e t =
      slack u hints w None s below at m (m + 1) (omega arith) t
  line_comes n at m (Some (node.Sub x y)) e t =
      slack u hints w None s below at m (m + 1) (omega arith) t
  line_comes n at m (Some (node.Mul x y)) e t =
      slack u hints w None s below at m (m + 1) (omega arith) t
  line_comes n at m (Some (node.Div x y)) e t =
      slack u hints w None s below at m (m + 1) (omega arith) t
  line_comes n at m (Some (node.Abs x)) e t =
      slack u hints w None s below at m (m + 1) (omega arith) t
  line_comes n at m (Some (node.Round r x)) e t =
      slack u hints w None s below at m (m + 1) (omega arith) t

  lines_come : (n : ℕ) → AtRoot (with_lines u n) (length u.hypotheses + n)
  lines_come zero = slack u hints w None s below (with_lines u 0) (length u.hypotheses)
      (length u.hypotheses + 0) (omega arith) (hypotheses_come (length u.hypotheses) (omega arith))
  lines_come (suc n) = slack u hints w None s below (with_lines u (suc n))
      (length u.hypotheses + n + 1) (length u.hypotheses + suc n) (omega arith)
      (line_comes n (with_lines u n) (length u.hypotheses + n)
      (slice_get u.nodes n) refl (lines_come n))

  -- The root has a trace.
  pub root_trace : (height : ℕ)
      → Trace (givens_of u hints None) s (table_at u height []) (most_steps u height)
  root_trace height = slack u hints w None s below (table_at u height []) (length u.hypotheses
      + length u.nodes + height * length u.instances) (most_steps u height) (omega arith)
      (rounds_come u hints w None s below (with_lines u (length u.nodes))
      (length u.hypotheses + length u.nodes) (lines_come (length u.nodes)) height)

-- ---- a child
-- A child has a trace, wherever its parent's facts may be cited.
pub child_trace : (u : Setting) (hints : List HintRow) → IsWritable u hints → (s : Numbered)
    → AreBelow s → (height : ℕ) (piece : Piece) (above : List Piece) (p : Fact) (place : Slot → ℕ)
    → IsSlotKnown u.nodes (slot.Bnd piece.0) → IsProper (table_at u height above)
    → ArePlaces s (table_at u height above) place → IsCutTo (table_at u height above) p piece
    → Trace (givens_of u hints (Some p)) s (table_at u height (piece ∷ above)) (most_steps u height)
child_trace u hints w s below height piece above p place k proper placed cut =
    let at : At = table_at u height above in
    let c : Fact = fact.Bnd piece.0 piece.1 in
    let t : Trace (givens_of u hints (Some p)) s at 0 = record {
      rows = [];
      place = place;
      proper = proper;
      traced = record { accepted = tt; placed = placed };
      fields = tt;
      few = omega arith;
    } in
    let P : Option Fact → Type 0 =
    λ o. IsEnough (met_with (Some p) o) (joined (at (slot.Bnd piece.0)) c) in
    let started : Trace (givens_of u hints (Some p)) s (with_fact at c) 1 =
    slack u hints w (Some p) s below (with_fact at c) (0 + 1) 1 (omega arith)
    (come u hints w (Some p) s below at 0 t (given_number given.Piece) 0 [] [] c (omega arith)
    (given_short given.Piece) (omega arith) k refl
    (subst P (sym (met_by_interval (at (slot.Bnd piece.0)) piece.0 piece.1)) cut)) in
    slack u hints w (Some p) s below (table_at u height (piece ∷ above))
    (1 + height * length u.instances) (most_steps u height) (omega arith)
    (rounds_come u hints w (Some p) s below (with_fact at c) 1 started height)
