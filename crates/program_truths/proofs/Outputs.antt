-- Values lie in the lines of their goals.
use Rattle.std.proofs.Common.{◌≡◌, ℕ, List, [], ◌∷◌, ◌++◌, map, Option, Some, None, refl, sym, ap}
use Rattle.std.proofs.Common.{◌∙◌}
use Rattle.std.specs.Prelude.{slice_get}
use Rattle.std.specs.List.{AllByRecursion}
use Rattle.std.specs.Option.{IsSomeAnd, option_map}
use Rattle.std.proofs.lemmas.Option.{slice_get-map, none-some, same_Some}
use Rattle.fx_model.specs.Fraction.{Fraction}
use Rattle.fx_model.specs.declared.ExprId.{ExprId}
use Rattle.fx_model.specs.Expression.{Assignment, value}
use Rattle.facts.proofs.CommonParts.{all_at}
use Rattle.facts.specs.declared.fact.Slot.TheVariants as slot
use Rattle.goals.specs.declared.line.Line.{Line}
use Rattle.goals.specs.declared.line.Line.TheVariants as line
use Rattle.goals.specs.Holds.{LineHolds}
use Rattle.script_nodes.specs.Known.{Known, named, entry_of}
use Rattle.script_claims.specs.declared.claim.Claim.{Claim}
use Rattle.script_claims.specs.declared.claim.Claim.TheVariants.{Bounded, Asked, Relative}
use Rattle.script_claims.specs.declared.claim.Claim.TheVariants.{RelativeAsked, Multiple, Above}
use Rattle.script_claims.specs.declared.claim.Claim.TheVariants.{Below}
use Rattle.script_claims.specs.Facts.{slot_of}
use Rattle.script_grammar.specs.Spells.{View}
use Rattle.fixprog.specs.Words.{Name}
use Rattle.fixprog.specs.Grammar.{Step}
use Rattle.fixprog.specs.Execution.{Values}
use Rattle.program_truths.specs.Promise.{subject, subject_values, IsPlain}
use Rattle.program_truths.specs.Outputs.{HoldAt, LiesInLine}
use Rattle.program_truths.proofs.Saying.{said_claims, format_saying, output_saying}

-- ---- the goals of a program

pub goals_plain : (xs : List Step) (ts : List Name) (k : Known)
    → AllByRecursion IsPlain (said_claims (map format_saying xs ++ map output_saying ts) k)
goals_plain [] [] k = tt
goals_plain [] (t ∷ ts) k = (tt, goals_plain [] ts (named k t).0)
goals_plain (x ∷ xs) ts k = (tt, goals_plain xs ts (named k x.name).0)

-- ---- lines

taken : (o : Option Fraction) (P : Fraction → Type 0) → IsSomeAnd o P
    → (v : Fraction) × (o ≡ Some v) × P v
taken None P h = absurd h
taken (Some v) P h = (v, refl, h)

module _ (s : View) (a : Assignment) (vs : Values) (lines : List Line) (k : ℕ) (t : Name) where
  by_line : (x : ExprId) (l : Line) → value s.nodes a x ≡ entry_of vs t
      → slice_get lines k ≡ Some l → LineHolds s.nodes a (slot.Bnd x) l → LiesInLine vs lines k t
  by_line x (line.In i) e g h =
      let o = taken (value s.nodes a x) _ h in
      record { number = o.0; entry = sym e ∙ o.1; interval = i; printed = g; lies = o.2 }
  by_line x line.None e g h = absurd h
  by_line x line.Empty e g h = absurd h

  by_claim : (c : Claim) (l : Line) → IsPlain c → value s.nodes a (subject c) ≡ entry_of vs t
      → slice_get lines k ≡ Some l → LineHolds s.nodes a (slot_of c) l → LiesInLine vs lines k t
  by_claim (Bounded x lower upper) l p = by_line x l
  by_claim (Asked x) l p = by_line x l
  by_claim (Relative x y lower upper) l p = absurd p
  by_claim (RelativeAsked x y) l p = absurd p
  by_claim (Multiple x n) l p = absurd p
  by_claim (Above x n) l p = absurd p
  by_claim (Below x n) l p = absurd p

  by_goal : (g : Option Claim) → slice_get s.goals k ≡ g
      → option_map (λ c. value s.nodes a (subject c)) g ≡ Some (entry_of vs t)
      → (c : Claim) × (slice_get s.goals k ≡ Some c)
      × (value s.nodes a (subject c) ≡ entry_of vs t)
  by_goal None e h = absurd (none-some _ h)
  by_goal (Some c) e h = (c, e, same_Some _ _ h)

  pub lies_in_line : (names : List Name) → AllByRecursion IsPlain s.goals → HoldAt s a lines
      → subject_values s a s.goals ≡ map (entry_of vs) names → slice_get names k ≡ Some t
      → LiesInLine vs lines k t
  lies_in_line names plain hold is at =
      let g = by_goal (slice_get s.goals k) refl
      (sym (slice_get-map (λ c. value s.nodes a (subject c)) s.goals k)
      ∙ ap (λ l. slice_get l k) is ∙ slice_get-map (entry_of vs) names k
      ∙ ap (option_map (entry_of vs)) at) in
      let h = hold k g.0 g.1 in
      by_claim g.0 h.0 (all_at IsPlain s.goals k g.0 plain g.1) g.2 h.1 h.2
