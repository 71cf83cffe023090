-- Laws of what specs/Coming defines.
use Rattle.std.specs.Prelude.{◌≡◌, ◌≢◌, ◌⊎◌, ℕ, List, [], ◌∷◌, ◌++◌, Option, Some, None, refl}
use Rattle.std.proofs.Common.{sym, ◌∙◌, ap, subst, inl, inr}
use Rattle.fx_model.specs.declared.Node.{Node}
use Rattle.fx_model.specs.Grid.{Bound, Below, Above, At as Number}
use Rattle.fx_model.specs.Enclosure.{BoundLe}
use Rattle.fx_model.specs.declared.ExprId.{ExprId}
use Rattle.interval.specs.declared.interval.Interval.{Interval}
use Rattle.interval.specs.Intervals.{range_of}
use Rattle.interval.specs.Results.{whole_interval}
use Rattle.facts.specs.declared.fact.Fact.{Fact}
use Rattle.facts.specs.declared.fact.Slot.{Slot}
use Rattle.facts.specs.declared.fact.Fact.TheVariants as fact
use Rattle.facts.specs.declared.fact.Slot.TheVariants as slot
use Rattle.facts.specs.Order.{slot_of, IsStronger, meet_of}
use Rattle.facts.proofs.Laws.{IsStronger-refl, meet_exists}
use Rattle.facts.proofs.Meets.{meet-exchanged, meet-stronger}
use Rattle.facts.proofs.CommonParts.{void_cases}
use Rattle.derivation.specs.Derivations.{At}
use Rattle.derivation.specs.Rounds.{IsWritten}
use Rattle.derivation.proofs.Parts.{some_same, stronger_slot}
use Rattle.derivation.specs.Parts.{slot_cases}
use Rattle.derivation.specs.Exists.{joined}
use Rattle.cert_bytes.specs.declared.item.StepRow.{StepRow}
use Rattle.cert_checker.specs.Open.{Numbered, with_step}
use Rattle.cert_checker.specs.Steps.{step_fact, step_facts, IsMetWith, IsLike, AreKnown, Givens}
use Rattle.cert_checker.specs.Steps.{gives, met_with, IsEnough, IsConcluded, target_of}
use Rattle.tree_certificates.specs.Sections.{behind, ArePlaces, IsTraced, AreBelow}
use Rattle.tree_certificates.specs.Writing.{IsSlotKnown}
use Rattle.tree_certificates.proofs.Cited.{step_kept, step_new, below_behind, behind_both}
use Rattle.tree_certificates.proofs.Cited.{accepted_both}
use Rattle.tree_certificates.specs.Coming.{with_by, coming}

-- With what a fact that comes is met: the fact on the slot; nothing where VOID comes.
abbrev pub met_by : Option Fact → Fact → Option Fact
met_by None c = None
met_by (Some g) fact.Void = None
met_by (Some g) c = Some g

void_joined : (o : Option Fact) → joined o fact.Void ≡ fact.Void
void_joined None = refl
void_joined (Some fact.Void) = refl
void_joined (Some (fact.Bnd x i)) = refl
void_joined (Some (fact.Abs x i)) = refl
void_joined (Some (fact.Rel x y e)) = refl
void_joined (Some (fact.Fix x k)) = refl
void_joined (Some (fact.Nzr x)) = refl

abbrev at_void : (P : Fact → Type 0) → P fact.Void
    → ((c : Fact) → ¬ (c ≡ fact.Void) → P c) → (c : Fact) → P c
at_void P v n c = elim (void_cases c) [ inl e ↦ subst P (sym e) v | inr d ↦ n c d ]

met_by-some : (g c : Fact) → ¬ (c ≡ fact.Void) → met_by (Some g) c ≡ Some g
met_by-some g fact.Void d = absurd (d refl)
met_by-some g (fact.Bnd x i) d = refl
met_by-some g (fact.Abs x i) d = refl
met_by-some g (fact.Rel x y e) d = refl
met_by-some g (fact.Fix x k) d = refl
met_by-some g (fact.Nzr x) d = refl

pub with_by-some : (g : Fact) (n : ℕ) (c : Fact) → ¬ (c ≡ fact.Void) → with_by (Some g) n c ≡ Some n
with_by-some g n fact.Void d = absurd (d refl)
with_by-some g n (fact.Bnd x i) d = refl
with_by-some g n (fact.Abs x i) d = refl
with_by-some g n (fact.Rel x y e) d = refl
with_by-some g n (fact.Fix x k) d = refl
with_by-some g n (fact.Nzr x) d = refl

-- ---- what is joined
-- the facts on one slot have a meet, and it is what is joined
joined_meet : (g c : Fact) → slot_of g ≡ slot_of c → (meet_of g c ≡ Some (joined (Some g) c))
    × IsStronger (joined (Some g) c) g × IsStronger (joined (Some g) c) c
joined_meet g c e =
    let m = meet_exists g c e in
    let same : joined (Some g) c ≡ m.0 = rw m.1.is refl in (
      m.1.is ∙ ap Some (sym same),
      subst (λ k. IsStronger k g) (sym same) m.1.left,
      subst (λ k. IsStronger k c) (sym same) m.1.right,
    )

-- the slot that the step aims at is that of c
aims_alone : (f : Fact) → target_of f None ≡ slot_of f
aims_alone fact.Void = refl
aims_alone (fact.Bnd x i) = refl
aims_alone (fact.Abs x i) = refl
aims_alone (fact.Rel x y e) = refl
aims_alone (fact.Fix x k) = refl
aims_alone (fact.Nzr x) = refl

aims_with : (f g : Fact) (s : Slot) → slot_of g ≡ s → (¬ (f ≡ fact.Void) → slot_of f ≡ s)
    → target_of f (Some g) ≡ s
aims_with fact.Void g s e h = e
aims_with (fact.Bnd x i) g s e h = h (λ q. cc)
aims_with (fact.Abs x i) g s e h = h (λ q. cc)
aims_with (fact.Rel x y d) g s e h = h (λ q. cc)
aims_with (fact.Fix x k) g s e h = h (λ q. cc)
aims_with (fact.Nzr x) g s e h = h (λ q. cc)

-- what is joined is VOID, or stands on the slot of c
joined_slot : (o : Option Fact) (c : Fact) → ((g : Fact) → o ≡ Some g → slot_of g ≡ slot_of c)
    → ¬ (joined o c ≡ fact.Void) → slot_of (joined o c) ≡ slot_of c
joined_slot None c p d = refl
joined_slot (Some g) c p d = stronger_slot (joined (Some g) c) c (joined_meet g c (p g refl)).2 d

pub aims : (o : Option Fact) (c : Fact) → ((g : Fact) → o ≡ Some g → slot_of g ≡ slot_of c)
    → target_of (joined o c) (met_by o c) ≡ slot_of c
aims None c p = aims_alone c
aims (Some g) c p =
    at_void (λ x. ((k : Fact) → Some g ≡ Some k → slot_of k ≡ slot_of x)
    → target_of (joined (Some g) x) (met_by (Some g) x) ≡ slot_of x)
    (λ q. let P : Fact → Type 0 = λ k. target_of k None ≡ slot.Void in
    subst P (sym (void_joined (Some g))) refl)
    (λ x d q. let P : Option Fact → Type 0 = λ w. target_of (joined (Some g) x) w ≡ slot_of x in
    subst P (sym (met_by-some g x d))
    (aims_with (joined (Some g) x) g (slot_of x) (q g refl) (joined_slot (Some g) x q)))
    c p

-- where the rule gives c, it is enough for what is joined
pub enough : (o : Option Fact) (c : Fact) → ((g : Fact) → o ≡ Some g → slot_of g ≡ slot_of c)
    → IsEnough (met_with (Some c) (met_by o c)) (joined o c)
enough None c p = IsStronger-refl c
enough (Some g) c p =
    at_void (λ x. ((k : Fact) → Some g ≡ Some k → slot_of k ≡ slot_of x)
    → IsEnough (met_with (Some x) (met_by (Some g) x)) (joined (Some g) x))
    (λ q. tt)
    (λ x d q.
    let P : Option Fact → Type 0 = λ w. IsEnough (met_with (Some x) w) (joined (Some g) x) in
    let Q : Option Fact → Type 0 = λ w. IsEnough w (joined (Some g) x) in
    subst P (sym (met_by-some g x d))
    (subst Q (sym (meet-exchanged x g ∙ (joined_meet g x (q g refl)).0))
    (IsStronger-refl (joined (Some g) x))))
    c p

-- ---- what the step cites
fact_known : (nodes : List Node) (f : Fact) → IsSlotKnown nodes (slot_of f) → AreKnown nodes f
fact_known nodes fact.Void k = tt
fact_known nodes (fact.Bnd x i) k = k
fact_known nodes (fact.Abs x i) k = k
fact_known nodes (fact.Rel x y e) k = k
fact_known nodes (fact.Fix x n) k = k
fact_known nodes (fact.Nzr x) k = k

joined_known : (nodes : List Node) (o : Option Fact) (c : Fact)
    → ((g : Fact) → o ≡ Some g → slot_of g ≡ slot_of c) → IsSlotKnown nodes (slot_of c)
    → AreKnown nodes (joined o c)
joined_known nodes o c p k =
    elim (void_cases (joined o c)) [
      | inl e ↦ subst (AreKnown nodes) (sym e) tt
      | inr d ↦ fact_known nodes (joined o c)
          (subst (IsSlotKnown nodes) (sym (joined_slot o c p d)) k)
    ]

like_joined : (o : Option Fact) (c : Fact) → ((g : Fact) → o ≡ Some g → slot_of g ≡ slot_of c)
    → IsLike (joined o c) (met_by o c)
like_joined None c p = tt
like_joined (Some g) c p =
    at_void (λ x. ((k : Fact) → Some g ≡ Some k → slot_of k ≡ slot_of x)
    → IsLike (joined (Some g) x) (met_by (Some g) x))
    (λ q. tt)
    (λ x d q.
    let P : Option Fact → Type 0 = λ w. IsLike (joined (Some g) x) w in
    subst P (sym (met_by-some g x d))
    (λ unlike. unlike.2 (joined_slot (Some g) x q unlike.0 ∙ sym (q g refl))))
    c p

met_places : (s : Numbered) (o : Option Fact) (n : ℕ) (c : Fact) → ((g : Fact) → o ≡ Some g
    → step_fact s.rows n ≡ Some g) → IsMetWith s.rows (with_by o n c) (met_by o c)
met_places s None n c h = refl
met_places s (Some g) n fact.Void h = refl
met_places s (Some g) n (fact.Bnd x i) h = (h g refl, λ q. cc)
met_places s (Some g) n (fact.Abs x i) h = (h g refl, λ q. cc)
met_places s (Some g) n (fact.Rel x y e) h = (h g refl, λ q. cc)
met_places s (Some g) n (fact.Fix x k) h = (h g refl, λ q. cc)
met_places s (Some g) n (fact.Nzr x) h = (h g refl, λ q. cc)

-- The step by which c comes is accepted, where its rule gives a fact that is enough.
pub coming_accepted : (g : Givens) (s : Numbered) (rule arg : ℕ) (premises : List ℕ)
    (ps : List Fact) (o : Option Fact) (n : ℕ) (c : Fact)
    → ((h : Fact) → o ≡ Some h → slot_of h ≡ slot_of c)
    → ((h : Fact) → o ≡ Some h → step_fact s.rows n ≡ Some h) → IsSlotKnown g.nodes (slot_of c)
    → step_facts s.rows premises ≡ Some ps → IsEnough (met_with
    (gives g (coming rule arg premises o n c) ps (met_by o c)) (met_by o c)) (joined o c)
    → IsConcluded g s.rows (coming rule arg premises o n c)
coming_accepted g s rule arg premises ps o n c p h k f e = (
  ps,
  met_by o c,
  record { found = f; met = met_places s o n c h; like = like_joined o c p },
  record { known = joined_known g.nodes o c p k; enough = e },
)

-- ---- places behind a step
abbrev pick : {s t : Slot} → (s ≡ t) ⊎ (s ≢ t) → ℕ → ℕ → ℕ
pick (inl e) a b = a
pick (inr d) a b = b

-- the places, with the slot of the fact in step n
abbrev pub placed_at : (Slot → ℕ) → Fact → ℕ → Slot → ℕ
placed_at place k n t = pick (slot_cases t (slot_of k)) n (place t)

pub placed_same : (place : Slot → ℕ) (k : Fact) (n : ℕ) (t : Slot) → t ≡ slot_of k
    → placed_at place k n t ≡ n
placed_same place k n t e = by_slot (slot_cases t (slot_of k))
  where
    by_slot : (x : (t ≡ slot_of k) ⊎ (t ≢ slot_of k)) → pick x n (place t) ≡ n
    by_slot (inl d) = refl
    by_slot (inr d) = absurd (d e)

pub placed_other : (place : Slot → ℕ) (k : Fact) (n : ℕ) (t : Slot) → t ≢ slot_of k
    → placed_at place k n t ≡ place t
placed_other place k n t e = by_slot (slot_cases t (slot_of k))
  where
    by_slot : (x : (t ≡ slot_of k) ⊎ (t ≢ slot_of k)) → pick x n (place t) ≡ place t
    by_slot (inl d) = absurd (e d)
    by_slot (inr d) = refl

pub placed_behind : (s : Numbered) (at new : At) (place : Slot → ℕ) (k : Fact) → AreBelow s
    → ArePlaces s at place → IsWritten at new k
    → ArePlaces (with_step s k) new (placed_at place k s.next)
placed_behind s at new place k b p w t f e = by_slot (slot_cases t (slot_of k))
  where
    by_slot : (x : (t ≡ slot_of k) ⊎ (t ≢ slot_of k))
        → step_fact (with_step s k).rows (pick x s.next (place t)) ≡ Some f
    by_slot (inl d) = step_new s k b ∙ ap Some (some_same k f (new t) (ap new d ∙ w.here) e)
    by_slot (inr d) = step_kept s k (place t) f (p t f (sym (w.others t d) ∙ e))

-- One step more.
pub traced_more : (g : Givens) (s : Numbered) (rows : List StepRow) (at new : At) (place : Slot → ℕ)
    (row : StepRow) → AreBelow s → IsTraced g s rows at place
    → IsConcluded g (behind s rows).rows row → IsWritten at new row.fact
    → IsTraced g s (rows ++ row ∷ []) new (placed_at place row.fact (behind s rows).next)
traced_more g s rows at new place row b t c w =
    let last : behind s (rows ++ row ∷ []) ≡ with_step (behind s rows) row.fact =
    behind_both s rows (row ∷ []) in
    let placed : ArePlaces (with_step (behind s rows) row.fact) new
    (placed_at place row.fact (behind s rows).next) =
    placed_behind (behind s rows) at new place row.fact (below_behind s rows b) t.placed w in
    record {
      accepted = accepted_both g s rows (row ∷ []) t.accepted (c, tt);
      placed = subst (λ x. ArePlaces x new (placed_at place row.fact (behind s rows).next))
          (sym last) placed;
    }

pub met_by_interval : (o : Option Fact) (x : ExprId) (i : Interval) → met_by o (fact.Bnd x i) ≡ o
met_by_interval None x i = refl
met_by_interval (Some g) x i = refl

-- each bound is at most plus infinity
below_infinity : (b : Bound) → BoundLe b Above
below_infinity Below = tt
below_infinity (Number g) = tt
below_infinity Above = tt

-- what is met with the line of a variable is a BND of the variable
pub line_joined : (x : ExprId) (o : Option Fact)
    → ((g : Fact) → o ≡ Some g → slot_of g ≡ slot.Bnd x)
    → (j : Interval) × (joined o (fact.Bnd x whole_interval) ≡ fact.Bnd x j)
line_joined x None p = (whole_interval, refl)
line_joined x (Some (fact.Bnd y i)) p =
    let d : y ≡ x = let q : slot.Bnd y ≡ slot.Bnd x = p (fact.Bnd y i) refl in cc in
    let m = meet-stronger (fact.Bnd y i) (fact.Bnd x whole_interval)
    (d, (tt, below_infinity (range_of i).high)) in
    (i, rw m (ap (λ z. fact.Bnd z i) d))
line_joined x (Some fact.Void) p = let q : slot.Void ≡ slot.Bnd x = p fact.Void refl in cc
line_joined x (Some (fact.Abs y i)) p =
    let q : slot.Abs y ≡ slot.Bnd x = p (fact.Abs y i) refl in cc
line_joined x (Some (fact.Rel y z e)) p =
    let q : slot.Rel y z ≡ slot.Bnd x = p (fact.Rel y z e) refl in cc
line_joined x (Some (fact.Fix y k)) p =
    let q : slot.Fix y ≡ slot.Bnd x = p (fact.Fix y k) refl in cc
line_joined x (Some (fact.Nzr y)) p = let q : slot.Nzr y ≡ slot.Bnd x = p (fact.Nzr y) refl in cc
