-- What a box begins with, in each section where its steps may stand.
use Rattle.std.specs.Prelude.{◌≡◌, ◌<◌, ◌≤◌, ◌+◌, ℕ, [], length, Option, Some, None, false}
use Rattle.std.specs.Prelude.{slice_get, refl}
use Rattle.std.proofs.Common.{sym, ◌∙◌, ap, subst, arith}
use Rattle.std.proofs.lemmas.Option.{slice_get_within}
use Rattle.fx_model.specs.declared.ExprId.{ExprId}
use Rattle.fx_model.specs.declared.Node.TheVariants as node
use Rattle.interval.specs.Results.{whole_interval}
use Rattle.facts.specs.declared.fact.Fact.{Fact}
use Rattle.facts.specs.declared.fact.Slot.{Slot}
use Rattle.facts.specs.declared.fact.Fact.TheVariants as fact
use Rattle.facts.specs.declared.fact.Slot.TheVariants as slot
use Rattle.facts.specs.Order.{slot_of}
use Rattle.derivation.specs.Derivations.{At}
use Rattle.derivation.specs.Known.{Piece}
use Rattle.derivation.specs.Rounds.{IsBlank}
use Rattle.derivation.proofs.Parts.{none_some}
use Rattle.derivation.specs.Exists.{joined}
use Rattle.rule_universe.specs.Worlds.{World}
use Rattle.rule_universe.specs.Places.{place_count}
use Rattle.saturate.specs.Universes.{setting_of}
use Rattle.cert_bytes.specs.Certificates.{IsShort}
use Rattle.cert_checker.specs.declared.given.Given.{Given}
use Rattle.cert_checker.specs.declared.given.Given.TheVariants as given
use Rattle.cert_checker.specs.Given.{given_number}
use Rattle.cert_checker.proofs.GivenLaws.{given_short}
use Rattle.cert_checker.specs.Open.{Numbered}
use Rattle.cert_checker.specs.Steps.{met_with, IsEnough, whole_line, variable_fact}
use Rattle.tree_certificates.specs.Sections.{behind, AreAccepted, ArePlaces}
use Rattle.tree_certificates.specs.Writing.{IsSlotKnown, IsWritable, givens_of}
use Rattle.tree_certificates.specs.Traces.{IsCutTo, HaveFields}
use Rattle.tree_certificates.proofs.Coming.{enough, met_by_interval, met_by, line_joined}
use Rattle.box_trace.specs.declared.known.Known.{Known}
use Rattle.box_trace.specs.declared.log.Log.{Log}
use Rattle.box_trace.specs.Tables.{known_at, place_in, HasRows}
use Rattle.box_trace.specs.Logs.{InSection}
use Rattle.box_trace.specs.Boxes.{IsSectionBelow, BeginsWithin, BeginsBelow}
use Rattle.box_trace.proofs.Rows.{same_known, same_places, same_rows, open_marked}
use Rattle.box_trace.proofs.Logged.{ComesGiven, SufficesWith, given_suffices, comes_rows}
use Rattle.box_trace.proofs.Logged.{comes_first, comes_few, comes_section}

-- rows of nothing
pub blank_rows : (u : World) (k : Known)
    → length k.rows.items ≡ place_count (length u.nodes) u.pairs
    → k.closed ≡ false → IsBlank (known_at u k) → HasRows u k
blank_rows u k n unsaid b = record {
  count = n;
  proper = λ s f e. absurd (none_some f (known_at u k s) (b s) e);
  marked = open_marked u k unsaid;
}

-- ---- the root
module _ (u : World) (first : ℕ) where
  -- before the first step
  pub begins_blank : (log : Log) → log.first ≡ first → log.steps.items ≡ [] → HasRows u log.known
      → IsBlank (known_at u log.known) → BeginsWithin u first 0 log
  begins_blank log f e r b = record {
    rows = r;
    first_is = f;
    few = (let n : length log.steps.items ≡ 0 = ap length e in omega (arith, n));
    steps = λ w s n. (
      record {
        accepted = subst (AreAccepted (givens_of (setting_of u) u.hints None) s) (sym e) tt;
        placed = λ t g q. absurd (none_some g (known_at u log.known t) (b t) q);
      },
      subst HaveFields (sym e) tt,
    );
  }

  -- A fact comes that is given.
  module _ (most : ℕ) (old new : Log) (g : Given) (arg : ℕ) (c : Fact)
      (b : BeginsWithin u first most old) (come : ComesGiven u old g arg c new)
      (suffices : IsWritable (setting_of u) u.hints
      → IsShort arg × IsSlotKnown u.nodes (slot_of c)
      × ((s : Numbered) → SufficesWith u None s old new (given_number g) arg [] c []
      (known_at u old.known (slot_of c)))) where
    abbrev Rule : ℕ
    Rule = given_number g

    pub begins_more : BeginsWithin u first (most + 1) new
    begins_more = record {
      rows = comes_rows u old new Rule arg [] c b.rows come;
      first_is = comes_first u old new Rule arg [] c come ∙ b.first_is;
      few =
          (let a = b.few in let d = comes_few u old new Rule arg [] c come in omega (arith, a, d));
      steps = λ w s n.
          let i : InSection u None s old = record {
            below = n.1;
            next = n.0 ∙ sym b.first_is;
            traced = (b.steps w s n).0;
            fields = (b.steps w s n).1;
          } in
          let j = comes_section u None s old new Rule arg [] c b.rows.proper
          (omega arith, given_short g, (suffices w).0)
          (suffices w).1 [] refl (given_suffices u None s old new g arg c ((suffices w).2 s)) come
          i in
          (j.traced, j.fields);
    }

  pub begins_slack : (most m : ℕ) (log : Log) → most ≤ m → BeginsWithin u first most log
      → BeginsWithin u first m log
  begins_slack most m log l b = record {
    rows = b.rows;
    first_is = b.first_is;
    few = (let a = b.few in omega (arith, a, l));
    steps = b.steps;
  }

  -- A hypothesis comes.
  pub begins_hypothesis : (k : ℕ) (old new : Log) (c : Fact) → slice_get u.hypotheses k ≡ Some c
      → BeginsWithin u first k old → ComesGiven u old given.Hypothesis k c new
      → BeginsWithin u first (k + 1) new
  begins_hypothesis k old new c e b come =
      let o : Option Fact = known_at u old.known (slot_of c) in
      let P : Option Fact → Type 0 = λ x. IsEnough (met_with x (met_by o c)) (joined o c) in
      begins_more k old new given.Hypothesis k c b come (λ w. (
        (let l = slice_get_within u.hypotheses k c e in
            let m = w.few_hypotheses in omega (arith, l, m)),
        w.hypotheses k c e,
        λ s. subst P (sym e) (enough o c (λ h q. b.rows.proper (slot_of c) h q)),
      ))

  -- The line of a variable comes.
  pub begins_line : (n v most : ℕ) (old new : Log) → slice_get u.nodes n ≡ Some (node.Var v)
      → BeginsWithin u first most old
      → ComesGiven u old given.Variable 0 (fact.Bnd (record { 0 = n }) whole_interval) new
      → BeginsWithin u first (most + 1) new
  begins_line n v most old new e b come =
      let x : ExprId = record { 0 = n } in
      let c : Fact = fact.Bnd x whole_interval in
      let o : Option Fact = known_at u old.known (slot_of c) in
      let j = line_joined x o (λ g q. b.rows.proper (slot.Bnd x) g q) in
      let line : whole_line u.nodes (joined o c) ≡ Some c =
      ap (whole_line u.nodes) j.1 ∙ ap (variable_fact x) e in
      let P : Option Fact → Type 0 = λ y. IsEnough (met_with y (met_by o c)) (joined o c) in
      begins_more most old new given.Variable 0 c b come (λ w. (
        omega arith,
        slice_get_within u.nodes n (node.Var v) e,
        λ s. subst P (sym line) (enough o c (λ h q. b.rows.proper (slot_of c) h q)),
      ))

-- ---- a box below another
module _ (u : World) (piece : Piece) (parent : Known) (first : ℕ)
    (old new : Log) (e : old.known.rows.items ≡ parent.rows.items) (none : old.steps.items ≡ [])
    (f : old.first ≡ first) (unsaid : old.known.closed ≡ false) (r : HasRows u parent) where
  abbrev Piece_fact : Fact
  Piece_fact = fact.Bnd piece.0 piece.1

  old_section : (s : Numbered) (p : Fact) → IsSectionBelow u piece parent first s p
      → InSection u (Some p) s old
  old_section s p sec =
      let P : At → Type 0 = λ at. ArePlaces s at (place_in u old.known) in
      let Q : (Slot → ℕ) → Type 0 = λ place. ArePlaces s (known_at u parent) place in
      let places : ArePlaces s (known_at u old.known) (place_in u old.known) =
      subst P (sym (same_known u parent old.known e))
      (subst Q (sym (same_places u parent old.known e)) sec.1) in
      record {
        below = sec.0.1;
        next = sec.0.0 ∙ sym f;
        traced = record {
          accepted =
              subst (AreAccepted (givens_of (setting_of u) u.hints (Some p)) s) (sym none) tt;
          placed = subst (λ rows. ArePlaces (behind s rows) (known_at u old.known)
              (place_in u old.known)) (sym none) places;
        };
        fields = subst HaveFields (sym none) tt;
      }

  -- The piece comes.
  pub begins_below : (piece.0).0 < length u.nodes
      → ComesGiven u old given.Piece 0 Piece_fact new → BeginsBelow u piece parent first new
  begins_below known come =
      let rule = given_number given.Piece in
      let rows : HasRows u old.known = same_rows u parent old.known e unsaid r in
      let o : Option Fact = known_at u old.known (slot.Bnd piece.0) in
      record {
        rows = comes_rows u old new rule 0 [] Piece_fact rows come;
        first_is = comes_first u old new rule 0 [] Piece_fact come ∙ f;
        few = (let a : length old.steps.items ≡ 0 = ap length none in
            let d = comes_few u old new rule 0 [] Piece_fact come in omega (arith, a, d));
        steps = λ w s p sec.
            let P : Option Fact → Type 0 =
            λ m. IsEnough (met_with (Some p) m) (joined o Piece_fact) in
            let cut : IsCutTo (known_at u old.known) p piece =
            subst (λ (at : At). IsCutTo at p piece) (sym (same_known u parent old.known e)) sec.2 in
            let j = comes_section u (Some p) s old new rule 0 [] Piece_fact rows.proper
            (omega arith, given_short given.Piece, omega arith) known [] refl
            (given_suffices u (Some p) s old new given.Piece 0 Piece_fact
            (subst P (sym (met_by_interval o piece.0 piece.1)) cut)) come (old_section s p sec) in
            (j.traced, j.fields);
      }
