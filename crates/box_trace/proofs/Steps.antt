-- Steps of a box, from its log to each section where they may stand.
use Rattle.std.specs.Prelude.{◌≡◌, ◌<◌, ◌⊎◌, ℕ, List, length, Option, Some, None}
use Rattle.std.specs.Borrow.{Bor}
use Rattle.std.proofs.Common.{sym, ◌∙◌, subst, inl, inr}
use Rattle.derivation.specs.Known.{Piece}
use Rattle.rule_universe.specs.Worlds.{World}
use Rattle.cert_bytes.specs.declared.item.StepRow.{StepRow}
use Rattle.box_trace.specs.declared.known.Known.{Known}
use Rattle.box_trace.specs.declared.log.Log.{Log}
use Rattle.box_trace.specs.Tables.{HasRows}
use Rattle.box_trace.specs.Logs.{IsLonger}
use Rattle.box_trace.specs.Rounds.{AreItsRounds, AreRoundsBelow}
use Rattle.box_trace.specs.Boxes.{IsSomeBox, IsOfUniverse, IsTracedIn, AreRootSteps, AreStepsBelow}
use Rattle.box_trace.specs.Boxes.{AreItsSteps, BeginsWithin, BeginsBelow}

module _ (u : World) (first most more : ℕ) (old new : Log) (l : IsLonger u more old new) where
  pub root_steps : BeginsWithin u first most old → AreRootSteps u first new
  root_steps b w s n = (let t = b.steps w s n in let j = l.goes_on w None s (record {
    below = n.1;
    next = n.0 ∙ sym b.first_is;
    traced = t.0;
    fields = t.1;
  }) in (j.traced, j.fields))

  pub steps_below : (piece : Piece) (parent : Known) → BeginsBelow u piece parent first old
      → AreStepsBelow u piece parent first new
  steps_below piece parent b w s p n =
      (let t = b.steps w s p n in let j = l.goes_on w (Some p) s (record {
        below = n.0.1;
        next = n.0.0 ∙ sym b.first_is;
        traced = t.0;
        fields = t.1;
      }) in (j.traced, j.fields))

module _ (u : World) (first : ℕ) (log : Log) where
  pub own_root_steps : (piece : Option Piece) (parent : Option (Bor Known)) → (piece ≡ None)
      ⊎ (parent ≡ None) → AreRootSteps u first log → AreItsSteps u piece parent first log
  own_root_steps None None n r w s cut b = subst (λ c. IsTracedIn u c s log) (sym b.1) (r w s b.0)
  own_root_steps (Some p) None n r w s cut b = absurd b
  own_root_steps None (Some t) n r w s cut b = absurd b
  own_root_steps (Some p) (Some t) n r w s cut b = elim n [ inl e ↦ cc | inr e ↦ cc ]

  pub own_steps_below : (piece : Option Piece) (parent : Option (Bor Known)) (p : Piece)
      (t : Bor Known) → piece ≡ Some p → parent ≡ Some t → AreStepsBelow u p t.now first log
      → AreItsSteps u piece parent first log
  own_steps_below piece parent p t e f r =
      let P : Option Piece → Type 0 = λ o. AreItsSteps u o parent first log in
      let Q : Option (Bor Known) → Type 0 = λ o. AreItsSteps u (Some p) o first log in
      subst P (sym e) (subst Q (sym f)
      (λ w s cut b. subst (λ c. IsTracedIn u c s log) (sym b.1) (r w s b.0 b.2)))

pub own_universe : (u : World) (piece : Option Piece) (parent : Option (Bor Known))
    (p : Piece) (t : Bor Known) → piece ≡ Some p → parent ≡ Some t → IsOfUniverse u piece parent
    → ((p.0).0 < length u.nodes) × HasRows u t.now
own_universe u piece parent p t e f w =
    subst (λ o. IsOfUniverse u (Some p) o) f (subst (λ o. IsOfUniverse u o parent) e w)

-- ---- round by round
module _ (u : World) (height first : ℕ) (steps : List StepRow) where
  pub own_rounds : (piece : Option Piece) (parent : Option (Bor Known))
      → (piece ≡ None) ⊎ (parent ≡ None) → IsSomeBox u height piece parent
      → AreItsRounds u None height first steps → AreItsRounds u parent height first steps
  own_rounds None None n b r = r
  own_rounds (Some p) None n b r = absurd b.1
  own_rounds None (Some t) n b r = absurd b.1
  own_rounds (Some p) (Some t) n b r = elim n [ inl e ↦ cc | inr e ↦ cc ]

  pub own_rounds_below : (parent : Option (Bor Known)) (t : Bor Known) → parent ≡ Some t
      → AreRoundsBelow u t.now height first steps → AreItsRounds u parent height first steps
  own_rounds_below parent t f r = subst (λ o. AreItsRounds u o height first steps) (sym f) r
