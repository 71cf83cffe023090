-- Laws of what specs/Parts defines.
use Rattle.std.specs.Prelude.{◌≡◌, List, [], ◌∷◌, Option, Some, None, refl}
use Rattle.std.proofs.Common.{sym, ◌∙◌, ap, subst, inl, inr, rules}
use Rattle.facts.specs.declared.fact.Fact.{Fact}
use Rattle.facts.specs.declared.fact.Slot.{Slot}
use Rattle.facts.specs.declared.fact.Fact.TheVariants as fact
use Rattle.facts.specs.declared.fact.Slot.TheVariants as slot
use Rattle.facts.specs.Order.{slot_of, IsStronger, meet_of}
use Rattle.facts.proofs.Laws.{IsStronger-slot, IsStronger-trans, IsStronger-meet}
use Rattle.facts.proofs.Meets.{meet-none}
use Rattle.facts.specs.declared.instance.Instance.{Instance}
use Rattle.facts.proofs.CommonParts.{at_option}
use Rattle.derivation.specs.Lists.{RuleList}
use Rattle.derivation.specs.Derivations.{At, Beats}
use Rattle.derivation.specs.Rounds.{IsProper, all_at, with_first, concluded, conclusion}
use Rattle.derivation.proofs.Rounds.{Reads}
use Rattle.derivation.specs.Parts.{slot_cases}

pub some_same : {X : Type 0} (a b : X) (o : Option X) → o ≡ Some a → o ≡ Some b → a ≡ b
some_same a b o e f = let h : Some a ≡ Some b = sym e ∙ f in cc

pub none_some : {X : Type 0} (a : X) (o : Option X) → o ≡ None → o ≡ Some a → ⊥
none_some a o e f = let h : None ≡ Some a = sym e ∙ f in cc

-- ---- slots
-- VOID alone is as strong as VOID
pub void_alone : (g : Fact) → IsStronger g fact.Void → g ≡ fact.Void
void_alone fact.Void s = refl
void_alone (fact.Bnd x i) s = absurd s
void_alone (fact.Abs x i) s = absurd s
void_alone (fact.Rel x y t) s = absurd s
void_alone (fact.Fix x k) s = absurd s
void_alone (fact.Nzr x) s = absurd s

-- ---- facts of a table without VOID
pub stronger_slot : (g f : Fact) → IsStronger g f → ¬ (g ≡ fact.Void) → slot_of g ≡ slot_of f
stronger_slot g f s n = elim (IsStronger-slot g f s) [ inl e ↦ absurd (n e) | inr e ↦ e ]

module _ (at : At) (proper : IsProper at) (no_void : at slot.Void ≡ None) where
  pub not_void : (s : Slot) (g : Fact) → at s ≡ Some g → ¬ (g ≡ fact.Void)
  not_void s g e v =
      none_some g (at slot.Void) no_void (ap at (sym (ap slot_of v) ∙ proper s g e) ∙ e)

  -- what is as strong as a fact, or stronger, stands on its slot
  pub beats_by : (s : Slot) (g f : Fact) → at s ≡ Some g → IsStronger g f → Beats at f
  beats_by s g f e w = (g, ap at (sym (stronger_slot g f w (not_void s g e)) ∙ proper s g e) ∙ e, w)

  pub beats_weaker : (f c : Fact) → Beats at f → IsStronger f c → Beats at c
  beats_weaker f c b s = beats_by (slot_of f) b.0 c b.1 (IsStronger-trans b.0 f c b.2 s)

  -- what is beaten isn't VOID
  pub beaten_not_void : (f : Fact) → Beats at f → ¬ (f ≡ fact.Void)
  beaten_not_void f b v = none_some b.0 (at slot.Void) no_void (ap at (sym (ap slot_of v)) ∙ b.1)

  -- a table that beats two facts beats their meet
  pub beats_meet : (a b f : Fact) → Beats at a → Beats at b → meet_of a b ≡ Some f → Beats at f
  beats_meet a b f x y m =
      elim (slot_cases (slot_of a) (slot_of b)) [
        | inr d ↦ absurd (none_some f (meet_of a b)
            ((meet-none a b).1 (beaten_not_void a x, beaten_not_void b y, d)) m)
        | inl e ↦
            let same : x.0 ≡ y.0 = some_same x.0 y.0 (at (slot_of a)) x.1 (ap at e ∙ y.1) in
            beats_by (slot_of a) x.0 f x.1
            (IsStronger-meet x.0 a b f x.2 (subst (λ g. IsStronger g b) (sym same) y.2) m)
      ]

-- ---- what an instance reads
all_reads : (at : At) (ss : List Slot) (ps : List Fact) → all_at at ss ≡ Some ps → Reads at ss ps
all_reads at [] [] e = tt
all_reads at [] (p ∷ ps) e = cc
all_reads at (s ∷ ss) ps e =
    at_option (at s) (λ o. at s ≡ o → with_first o (all_at at ss) ≡ Some ps → Reads at (s ∷ ss) ps)
    (λ n q w. cc)
    (λ p n q w. at_option (all_at at ss) (λ o. all_at at ss ≡ o
    → with_first (Some p) o ≡ Some ps → Reads at (s ∷ ss) ps)
    (λ m r v. cc)
    (λ qs m r v. let d : p ∷ qs ≡ ps = cc in
    let P : List Fact → Type 0 = λ l. Reads at (s ∷ ss) l in subst P d (q, all_reads at ss qs r))
    refl w)
    refl e

pub reads_all : (at : At) (ss : List Slot) (ps : List Fact) → Reads at ss ps
    → all_at at ss ≡ Some ps
reads_all at [] [] r = refl
reads_all at (s ∷ ss) (p ∷ ps) r = rw (r.0, reads_all at ss ps r.1)
reads_all at [] (p ∷ ps) r = absurd r
reads_all at (s ∷ ss) [] r = absurd r

-- a conclusion has its premises
pub conclusion_reads : (rules : RuleList) (at : At) (i : Instance) (c : Fact)
    → conclusion rules at i ≡ Some c
    → (ps : List Fact) × Reads at i.premises ps × (rules i.rule i.arg ps i.target ≡ Some c)
conclusion_reads rules at i c e =
    at_option (all_at at i.premises)
    (λ o. all_at at i.premises ≡ o → concluded rules i o ≡ Some c
    → (ps : List Fact) × Reads at i.premises ps × (rules i.rule i.arg ps i.target ≡ Some c))
    (λ n q w. cc)
    (λ ps n q w. (ps, all_reads at i.premises ps q, w))
    refl e

pub reads_conclusion : (rules : RuleList) (at : At) (i : Instance) (ps : List Fact) (c : Fact)
    → Reads at i.premises ps
    → rules i.rule i.arg ps i.target ≡ Some c → conclusion rules at i ≡ Some c
reads_conclusion rules at i ps c r e = ap (concluded rules i) (reads_all at i.premises ps r) ∙ e
