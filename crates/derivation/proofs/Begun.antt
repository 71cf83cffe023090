-- Laws of what specs/Begun defines.
use Rattle.std.specs.Prelude.{◌≡◌, ◌⊎◌, ◌≤◌, ◌+◌, ℕ, List, [], ◌∷◌, Some, slice_get, length}
use Rattle.std.specs.Prelude.{Contains, refl}
use Rattle.std.proofs.Common.{sym, ◌∙◌, ap, subst, inl, inr, arith}
use Rattle.std.proofs.lemmas.Bool.{cases_lt}
use Rattle.std.proofs.lemmas.Option.{slice_get-get_or, slice_get_within, get_or_from_slice_get}
use Rattle.fx_model.specs.declared.Node.{Node}
use Rattle.fx_model.specs.declared.Node.TheVariants as node
use Rattle.interval.specs.Results.{whole_interval}
use Rattle.facts.specs.declared.fact.Fact.{Fact}
use Rattle.facts.specs.declared.fact.Fact.TheVariants as fact
use Rattle.facts.specs.declared.fact.Slot.TheVariants as slot
use Rattle.facts.specs.Order.{slot_of}
use Rattle.facts.proofs.Laws.{IsStronger-trans}
use Rattle.facts.proofs.CommonParts.{id_of}
use Rattle.derivation.specs.Lists.{IsLawful}
use Rattle.derivation.specs.Derivations.{Setting, Derives, given, met, At, Beats, IsClosed}
use Rattle.derivation.specs.Known.{Piece, IsGiven, GivenAt, Known, IsTableAt}
use Rattle.derivation.specs.Rounds.{IsSame, IsBlank, Improves, InTable, IsBestFrom}
use Rattle.derivation.proofs.Parts.{none_some, some_same}
use Rattle.derivation.specs.Parts.{slot_cases}
use Rattle.derivation.proofs.Steps.{kept_cases, improved_proper, improved_beats, improved_grows}
use Rattle.derivation.proofs.Steps.{old_no_void}
use Rattle.derivation.proofs.Rebased.{rebase}
use Rattle.derivation.specs.Begun.{IsGathered, FirstHypotheses, FirstLines}

-- what was done, and one fact more
abbrev pub Also : (Fact → Type 0) → Fact → Fact → Type 0
Also Done c x = Done x ⊎ (x ≡ c)

module _ (u : Setting) (G Done : Fact → Type 0) (at new : At) (c k : Fact)
    (g : IsGathered u G Done at) (gc : G c) (i : Improves at new c k) where
  kept_derived : (m : ℕ) → Derives u G m k
  kept_derived m =
      elim (kept_cases at c k i.kept) [
        | inl y ↦ subst (Derives u G m) (sym y.1) (given gc)
        | inr y ↦
            elim y.2 [
              | inl z ↦ subst (Derives u G m) (sym z.1) (g.down y.0 (slot_of c, y.1) m)
              | inr z ↦ met y.0 c (g.down y.0 (slot_of c, y.1) m) (given gc) z
            ]
      ]

  new_derived : (x : Fact) → InTable new x → (m : ℕ) → Derives u G m x
  new_derived x w m =
      elim (slot_cases w.0 (slot_of k)) [
        | inr d ↦ g.down x (w.0, sym (i.written.others w.0 d) ∙ w.1) m
        | inl d ↦ subst (Derives u G m)
            (some_same k x (new w.0) (ap new d ∙ i.written.here) w.1) (kept_derived m)
      ]

  -- A given fact came to the table.
  pub gather_fact : IsGathered u G (Also Done c) new
  gather_fact = record {
    proper = improved_proper at new c k i g.proper;
    down = new_derived;
    up = λ v x w.
        elim w [
          | inl z ↦
              let y = g.up (old_no_void at new c k i v) x z in
              let o = improved_grows at new c k i v (slot_of x) y.0 y.1 in
              (o.0, o.1, IsStronger-trans o.0 y.0 x o.2 y.2)
          | inr e ↦ subst (Beats new) (sym e) (improved_beats at new c k i v)
        ];
  }

pub gather_less : (u : Setting) (G Done Less : Fact → Type 0) (at : At) → IsGathered u G Done at
    → ((x : Fact) → Less x → Done x) → IsGathered u G Less at
gather_less u G Done Less at g f =
    record { proper = g.proper; down = g.down; up = λ v x w. g.up v x (f x w) }

-- nothing was done
pub gather_blank : (u : Setting) (G Done : Fact → Type 0) (at : At) → IsBlank at
    → ((x : Fact) → ¬ Done x) → IsGathered u G Done at
gather_blank u G Done at b never = record {
  proper = λ s f e. absurd (none_some f (at s) (b s) e);
  down = λ x w m. absurd (none_some x (at w.0) (b w.0) w.1);
  up = λ v x w. absurd (never x w);
}

-- ---- a child box
-- what is given at the root is known at each box
pub known_given : (u : Setting) (h : ℕ) (pieces : List Piece) (x : Fact)
    → IsGiven u x → Known u h pieces x
known_given u h [] x w = given w
known_given u h (p ∷ above) x w = given (inl w)

module _ (u : Setting) (h : ℕ) (above : List Piece) (piece : Piece)
    (parent copy start : At) (k : Fact)
    (b : IsTableAt u h above parent) (same : IsSame parent copy)
    (i : Improves copy start (fact.Bnd piece.0 piece.1) k) where
  -- It begins with its parent's table and the piece.
  pub child_start : IsGathered u (GivenAt u h (piece ∷ above))
      (Also (Known u h above) (fact.Bnd piece.0 piece.1)) start
  child_start =
      gather_fact u (GivenAt u h (piece ∷ above))
      (Known u h above) copy start (fact.Bnd piece.0 piece.1) k
      (record {
        proper = λ s f e. (b.reached s f (sym (same s) ∙ e)).0;
        down = λ x w m. given (inr (inr (b.reached w.0 x (sym (same w.0) ∙ w.1)).1));
        up = λ v x w. let y = b.least (sym (same slot.Void) ∙ v) x w in
            (y.0, same (slot_of x) ∙ y.1, y.2);
      })
      (inr (inl refl)) i

  -- The best facts over that are the box's.
  pub child_table : IsLawful u.rules → IsClosed u.instances → (at : At) → IsBestFrom u start h at
      → IsTableAt u h (piece ∷ above) at
  child_table lawful closed at best =
      let g = child_start in
      rebase u lawful closed (GivenAt u h (piece ∷ above)) start g.proper
      (λ v x w. elim w [
        | inl y ↦ g.up v x (inl (known_given u h above x y))
        | inr y ↦ elim y [ inl e ↦ g.up v x (inr e) | inr d ↦ g.up v x (inl d) ]
      ])
      g.down h at best

-- ---- the root
pub hypotheses_more : (hyps : List Fact) (n : ℕ) (c : Fact) → slice_get hyps n ≡ Some c → (x : Fact)
    → FirstHypotheses hyps (n + 1) x → Also (FirstHypotheses hyps n) c x
hypotheses_more hyps n c e x w =
    elim (cases_lt w.0 n) [
      | inl h ↦ inl (w.0, h, w.2)
      | inr h ↦ let d : w.0 ≡ n = omega arith in
          inr (some_same x c (slice_get hyps n) (subst (λ k. slice_get hyps k ≡ Some x) d w.2) e)
    ]

pub lines_none : (nodes : List Node) (hyps : List Fact) (n : ℕ) → length hyps ≤ n → (x : Fact)
    → FirstLines nodes hyps 0 x → FirstHypotheses hyps n x
lines_none nodes hyps n h x w =
    elim w [ inl y ↦ (y.0, omega arith, y.2) | inr y ↦ absurd (omega arith) ]

pub lines_more : (nodes : List Node) (hyps : List Fact) (n : ℕ) (x : Fact)
    → FirstLines nodes hyps (n + 1) x
    → Also (FirstLines nodes hyps n) (fact.Bnd (record { 0 = n }) whole_interval) x
lines_more nodes hyps n x w =
    elim w [
      | inl y ↦ inl (inl y)
      | inr y ↦ elim (cases_lt (y.0).0 n) [
        | inl h ↦ inl (inr (y.0, y.1, h, y.3, y.4))
        | inr h ↦ let d : (y.0).0 ≡ n = omega arith in
            inr (y.4 ∙ ap (λ k. fact.Bnd k whole_interval) (id_of y.0 n d))
      ]
    ]

pub lines_skip : (nodes : List Node) (hyps : List Fact) (n : ℕ)
    → ((v : ℕ) → slice_get nodes n ≡ Some (node.Var v) → ⊥) → (x : Fact)
    → FirstLines nodes hyps (n + 1) x → FirstLines nodes hyps n x
lines_skip nodes hyps n never x w =
    elim w [
      | inl y ↦ inl y
      | inr y ↦ elim (cases_lt (y.0).0 n) [
        | inl h ↦ inr (y.0, y.1, h, y.3, y.4)
        | inr h ↦ let d : (y.0).0 ≡ n = omega arith in
            absurd (never y.1 (subst (λ k. slice_get nodes k ≡ Some (node.Var y.1)) d y.3))
      ]
    ]

pub lines_fewer : (nodes : List Node) (hyps : List Fact) (n m : ℕ) → m ≤ n → (x : Fact)
    → FirstLines nodes hyps m x → FirstLines nodes hyps n x
lines_fewer nodes hyps n m h x w =
    elim w [ inl y ↦ inl y | inr y ↦ inr (y.0, y.1, omega arith, y.3, y.4) ]

contains_at : (all : List Fact) (k : ℕ) (c : Fact) → slice_get all k ≡ Some c → Contains all c
contains_at all k c e = (k, slice_get_within all k c e, get_or_from_slice_get all k c c e)

pub given_lines : (u : Setting) (n : ℕ) → length u.nodes ≤ n → (x : Fact) → IsGiven u x
    → FirstLines u.nodes u.hypotheses n x
given_lines u n h x w =
    elim w [
      | inl y ↦ inl (y.0, y.1, slice_get-get_or u.hypotheses y.0 x y.1 ∙ ap Some y.2)
      | inr y ↦ let l = slice_get_within u.nodes (y.0).0 (node.Var y.1) y.2 in
          inr (y.0, y.1, omega arith, y.2, y.3)
    ]

-- one more hypothesis
pub gather_hypothesis : (u : Setting) (n : ℕ) (at new : At) (c k : Fact)
    → slice_get u.hypotheses n ≡ Some c
    → IsGathered u (IsGiven u) (FirstHypotheses u.hypotheses n) at
    → Improves at new c k → IsGathered u (IsGiven u) (FirstHypotheses u.hypotheses (n + 1)) new
gather_hypothesis u n at new c k e g i =
    gather_less u (IsGiven u) (Also (FirstHypotheses u.hypotheses n) c)
    (FirstHypotheses u.hypotheses (n + 1)) new
    (gather_fact u (IsGiven u)
    (FirstHypotheses u.hypotheses n) at new c k g (inl (contains_at u.hypotheses n c e)) i)
    (hypotheses_more u.hypotheses n c e)

-- one more variable
pub gather_line : (u : Setting) (n v : ℕ) (at new : At) (k : Fact)
    → slice_get u.nodes n ≡ Some (node.Var v)
    → IsGathered u (IsGiven u) (FirstLines u.nodes u.hypotheses n) at
    → Improves at new (fact.Bnd (record { 0 = n }) whole_interval) k
    → IsGathered u (IsGiven u) (FirstLines u.nodes u.hypotheses (n + 1)) new
gather_line u n v at new k e g i =
    gather_less u (IsGiven u) (Also (FirstLines u.nodes u.hypotheses n)
    (fact.Bnd (record { 0 = n }) whole_interval)) (FirstLines u.nodes u.hypotheses (n + 1)) new
    (gather_fact u (IsGiven u) (FirstLines u.nodes u.hypotheses n) at new
    (fact.Bnd (record { 0 = n }) whole_interval) k g (inr (record { 0 = n }, v, e, refl)) i)
    (lines_more u.nodes u.hypotheses n)

-- The best facts over what the root begins with are the root's.
pub root_table : (u : Setting) → IsLawful u.rules → IsClosed u.instances → (h : ℕ) (start at : At)
    → IsGathered u (IsGiven u) (FirstLines u.nodes u.hypotheses (length u.nodes)) start
    → IsBestFrom u start h at → IsTableAt u h [] at
root_table u lawful closed h start at g best = rebase u lawful closed (GivenAt u h []) start
    g.proper (λ v x w. g.up v x (given_lines u (length u.nodes) (omega arith) x w)) g.down h at best
