-- Laws of what specs/Sound defines.
use Rattle.std.specs.Prelude.{ℕ, List, [], ◌∷◌, Contains}
use Rattle.std.specs.Option.{IsSomeAnd}
use Rattle.std.specs.List.{AllByRecursion}
use Rattle.std.proofs.Common.{sym, subst, inl, inr}
use Rattle.fx_model.specs.declared.Node.TheVariants as node
use Rattle.fx_model.specs.Enclosure.{Lies}
use Rattle.fx_model.specs.Expression.{Assignment, IsOrdered}
use Rattle.interval.specs.Intervals.{range_of}
use Rattle.interval.specs.Results.{whole_interval}
use Rattle.expr_dag.proofs.Shapes.{node_at-value}
use Rattle.facts.specs.declared.fact.Fact.{Fact}
use Rattle.facts.specs.declared.fact.Slot.{Slot}
use Rattle.facts.specs.Holds.{Holds}
use Rattle.facts.proofs.Held.{meet-Holds}
use Rattle.derivation.specs.Lists.{IsSoundFor}
use Rattle.derivation.specs.Derivations.{Setting, Derives, DeriveEach, given, drawn, met, none}
use Rattle.derivation.specs.Derivations.{next}
use Rattle.derivation.specs.Known.{Piece, IsLine, IsGiven, GivenAt, Known}
use Rattle.derivation.specs.Sound.{LiesInBox}

module _ (u : Setting) (a : Assignment) (sound : IsSoundFor u.nodes a u.rules) where
  -- Where what is given holds, what is derived does.
  mutual
    pub derived_holds : {G : Fact → Type 0} {h : ℕ} {f : Fact}
        → ((x : Fact) → G x → Holds u.nodes a x) → Derives u G h f → Holds u.nodes a f
    derived_holds held (given x) = held _ x
    derived_holds held (drawn k i e d c) = sound i.rule i.arg _ i.target _ c (each_holds held d)
    derived_holds {f = f} held (met x y d e m) =
        meet-Holds u.nodes a x y f m (derived_holds held d) (derived_holds held e)

    each_holds : {G : Fact → Type 0} {h : ℕ} {ss : List Slot} {ps : List Fact}
        → ((x : Fact) → G x → Holds u.nodes a x) → DeriveEach u G h ss ps
        → AllByRecursion (Holds u.nodes a) ps
    each_holds held none = tt
    each_holds held (next s p e d r) = (derived_holds held d, each_holds held r)

  module _ (ordered : IsOrdered u.nodes) (hypotheses : (x : Fact) → Contains u.hypotheses x
      → Holds u.nodes a x) where
    line_holds : (x : Fact) → IsLine u.nodes x → Holds u.nodes a x
    line_holds x w =
        let e = node_at-value u.nodes a w.0 (node.Var w.1) ordered w.2 in
        subst (Holds u.nodes a) (sym w.3)
        (subst (λ v. IsSomeAnd v (Lies (range_of whole_interval))) (sym e) (tt, tt))

    given_holds : (x : Fact) → IsGiven u x → Holds u.nodes a x
    given_holds x w = elim w [ inl y ↦ hypotheses x y | inr y ↦ line_holds x y ]

    leaf_holds : (h : ℕ) (pieces : List Piece) → LiesInBox u.nodes a pieces → (x : Fact)
        → GivenAt u h pieces x → Holds u.nodes a x
    leaf_holds h [] b x w = given_holds x w
    leaf_holds h (p ∷ above) b x w =
        elim w [
          | inl y ↦ given_holds x y
          | inr y ↦ elim y [
            | inl e ↦ subst (Holds u.nodes a) (sym e) b.0
            | inr d ↦ derived_holds (leaf_holds h above b.1) d
          ]
        ]

    -- Where the hypotheses hold and the values lie in the box, each fact that is known there holds.
    pub known_holds : (h : ℕ) (pieces : List Piece) → LiesInBox u.nodes a pieces → (f : Fact)
        → Known u h pieces f → Holds u.nodes a f
    known_holds h pieces b f d = derived_holds (leaf_holds h pieces b) d
