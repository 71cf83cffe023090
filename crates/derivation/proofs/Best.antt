-- A whole round takes the best facts of one height to those of the next.
use Rattle.std.specs.Prelude.{◌≡◌, ℕ, suc, List, [], ◌∷◌, Some, None, slice_get}
use Rattle.std.proofs.Common.{sym, ◌∙◌, ap, subst, inl, inr}
use Rattle.facts.specs.declared.fact.Fact.{Fact}
use Rattle.facts.specs.declared.fact.Slot.{Slot}
use Rattle.facts.specs.declared.fact.Fact.TheVariants as fact
use Rattle.facts.specs.declared.fact.Slot.TheVariants as slot
use Rattle.facts.specs.Order.{slot_of}
use Rattle.facts.proofs.Laws.{IsStronger-trans}
use Rattle.facts.specs.Promises.{EachStronger}
use Rattle.facts.specs.declared.instance.Instance.{Instance}
use Rattle.derivation.specs.Lists.{IsLawful}
use Rattle.derivation.specs.Derivations.{Setting, Derives, DeriveEach, given, drawn, met, none}
use Rattle.derivation.specs.Derivations.{next, At, Beats, IsBest, IsClosed}
use Rattle.derivation.specs.Rounds.{IsProper, Made, old, concluded_by, meets, IsAhead, AllSeen}
use Rattle.derivation.proofs.Rounds.{Reads}
use Rattle.derivation.proofs.Parts.{not_void, beats_weaker, beats_meet, conclusion_reads}
use Rattle.derivation.proofs.Parts.{reads_conclusion}

-- more height does no harm
mutual
  pub Derives-suc : {u : Setting} {G : Fact → Type 0} {h : ℕ} {f : Fact}
      → Derives u G h f → Derives u G (suc h) f
  Derives-suc (given x) = given x
  Derives-suc (drawn k i a d c) = drawn k i a (DeriveEach-suc d) c
  Derives-suc (met a b d e m) = met a b (Derives-suc d) (Derives-suc e) m

  pub DeriveEach-suc : {u : Setting} {G : Fact → Type 0} {h : ℕ} {ss : List Slot} {ps : List Fact}
      → DeriveEach u G h ss ps → DeriveEach u G (suc h) ss ps
  DeriveEach-suc none = none
  DeriveEach-suc (next s p e d r) = next s p e (Derives-suc d) (DeriveEach-suc r)

-- the facts of a best table stand on their slots
pub best_proper : (u : Setting) (G : Fact → Type 0) (h : ℕ) (at : At)
    → IsBest u G h at → IsProper at
best_proper u G h at b s f e = (b.reached s f e).0

-- ---- what is reached
-- premises that a table has are derived
read_each : (u : Setting) (G : Fact → Type 0) (h : ℕ) (at : At) → IsBest u G h at
    → (ss : List Slot) (ps : List Fact) → Reads at ss ps → DeriveEach u G h ss ps
read_each u G h at b [] [] r = none
read_each u G h at b (s ∷ ss) (p ∷ ps) r = let d = b.reached s p r.0 in
    next s p d.0 d.1 (read_each u G h at b ss ps r.1)
read_each u G h at b [] (p ∷ ps) r = absurd r
read_each u G h at b (s ∷ ss) [] r = absurd r

-- what a round makes is derived, one higher
made_derived : (u : Setting) (G : Fact → Type 0) (h : ℕ) (at : At) → IsBest u G h at → (f : Fact)
    → Made u at f → Derives u G (suc h) f
made_derived u G h at b f (old s e) = Derives-suc (b.reached s f e).1
made_derived u G h at b f (concluded_by k i e z) =
    let r = conclusion_reads u.rules at i f z in
    drawn k i e (read_each u G h at b i.premises r.0 r.1) r.2
made_derived u G h at b f (meets x y d e m) =
    met x y (made_derived u G h at b x d) (made_derived u G h at b y e) m

-- ---- what is least
module _ (u : Setting) (lawful : IsLawful u.rules) (closed : IsClosed u.instances)
    (G : Fact → Type 0) (h : ℕ) (at new : At) (best : IsBest u G h at)
    (av : at slot.Void ≡ None) (nv : new slot.Void ≡ None) (a : IsAhead u at new AllSeen) where
  -- the table has a premise as strong for each that is derived
  each_beaten : {ss : List Slot} {ps : List Fact} → DeriveEach u G h ss ps
      → (gs : List Fact) × Reads at ss gs × EachStronger gs ps
  each_beaten none = ([], tt, tt)
  each_beaten (next s p e d r) =
      let b = best.least av p d in
      let rest = each_beaten r in (
        b.0 ∷ rest.0,
        (ap at (sym e) ∙ b.1, rest.1),
        (not_void at (best_proper u G h at best) av (slot_of p) b.0 b.1, b.2, rest.2),
      )

  new_proper : IsProper new
  new_proper s f e = (a.made s f e).0

  drawn_beaten : (f : Fact) (ps : List Fact) (k : ℕ) (i : Instance)
      → slice_get u.instances k ≡ Some i
      → DeriveEach u G h i.premises ps → u.rules i.rule i.arg ps i.target ≡ Some f → Beats new f
  drawn_beaten f ps k i e d c =
      let r = each_beaten d in
      elim (lawful.isotone i.rule i.arg ps i.target r.0 f r.2 c) [
        | inl x ↦ beats_weaker new new_proper nv x.0 f
            (a.beats nv k i x.0 e tt (reads_conclusion u.rules at i r.0 x.0 r.1 x.1)) x.2
        | inr x ↦
            let z = closed k i e x.0 in
            let q : u.rules z.1.rule z.1.arg r.0 z.1.target ≡ Some fact.Void =
            rw (z.3, z.4, z.5) x.1 in
            let b = a.beats nv z.0 z.1 fact.Void z.2 tt (reads_conclusion u.rules at z.1 r.0
            fact.Void (subst (λ ss. Reads at ss r.0) (sym z.6) r.1) q) in
            let w : new slot.Void ≡ Some b.0 = b.1 in
            cc
      ]

  least_after : (f : Fact) → Derives u G (suc h) f → Beats new f
  least_after f (given x) =
      let b = best.least av f (given x) in
      let g = a.grows nv (slot_of f) b.0 b.1 in
      (g.0, g.1, IsStronger-trans g.0 b.0 f g.2 b.2)
  least_after f (drawn k i e d c) = drawn_beaten f _ k i e d c
  least_after f (met x y d e m) =
      beats_meet new new_proper nv x y f (least_after x d) (least_after y e) m

-- A whole round takes the best facts of one height to those of the next.
pub next_best : (u : Setting) → IsLawful u.rules → IsClosed u.instances
    → (G : Fact → Type 0) (h : ℕ) (at new : At) → IsBest u G h at → at slot.Void ≡ None
    → IsAhead u at new AllSeen → IsBest u G (suc h) new
next_best u lawful closed G h at new b v a = record {
  reached = λ s f e. let m = a.made s f e in (m.0, made_derived u G h at b f m.1);
  least = λ w f d. least_after u lawful closed G h at new b v w a f d;
}
