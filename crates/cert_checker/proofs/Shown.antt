-- Lines that hold, and what a further leaf makes of them.
use Rattle.std.proofs.Common.{◌≡◌, ℕ, List, [], ◌∷◌, Option, Some, None, sym, subst}
use Rattle.std.specs.Prelude.{⊤}
use Rattle.std.specs.List.{AllByRecursion}
use Rattle.fx_model.specs.Expression.{Assignment}
use Rattle.fx_model.specs.declared.Node.{Node}
use Rattle.facts.specs.declared.fact.Fact.{Fact}
use Rattle.facts.specs.declared.fact.Slot.{Slot}
use Rattle.facts.specs.Holds.{Holds}
use Rattle.goals.specs.declared.goal.Goal.{Goal}
use Rattle.goals.specs.declared.line.Line.{Line}
use Rattle.goals.specs.Settles.{Settles}
use Rattle.goals.specs.Holds.{LineHolds, LineHoldsFirst, LineHoldsOn}
use Rattle.goals.specs.Joined.{joined}
use Rattle.goals.specs.Stronger.{AreOfGoals}
use Rattle.cert_checker.specs.declared.open.Citable.{Citable}
use Rattle.cert_checker.specs.Steps.{step_fact}
use Rattle.cert_checker.specs.Faults.{AreSettled}
use Rattle.cert_checker.specs.After.{with_cited, lines_with}
use Rattle.cert_checker.specs.Met.{LinesHold}

-- what the crate of goals promises of lines
pub record LineLaws : Type 0 where
  pub first : LineHoldsFirst
  pub more : LineHoldsOn
  pub kind : AreOfGoals

-- a line for each goal
abbrev pub HaveLines : List Goal → List Line → Type 0
HaveLines [] [] = ⊤
HaveLines (g ∷ goals) (l ∷ lines) = HaveLines goals lines
HaveLines _ _ = ⊥

-- the facts of all these steps hold
abbrev pub AllHold : List Node → Assignment → List Citable → Type 0
AllHold nodes a steps = AllByRecursion (λ s. Holds nodes a s.fact) steps

module _ (laws : LineLaws) (nodes : List Node) (a : Assignment) where
  kept_cited : (s : Slot) (l : Line) (o : Option Fact) → LineHolds nodes a s l
      → LineHolds nodes a s (with_cited l o)
  kept_cited s l None h = h
  kept_cited s l (Some f) h = laws.more nodes a s l f h

  -- what holds goes on to hold with a further leaf
  pub kept_lines : (steps : List Citable) (goals : List Goal) (lines : List Line) (refs : List ℕ)
      → LinesHold nodes a goals lines → LinesHold nodes a goals (lines_with steps lines refs)
  kept_lines steps [] [] refs h = h
  kept_lines steps (g ∷ goals) (l ∷ lines) [] h = h
  kept_lines steps (g ∷ goals) (l ∷ lines) (r ∷ refs) h = (
    record {
      line = kept_cited g.of l (step_fact steps r) h.0.line;
      fact = h.0.fact;
      settles = h.0.settles;
      holds = h.0.holds;
    },
    kept_lines steps goals lines refs h.1,
  )
  kept_lines steps [] (l ∷ lines) refs h = absurd h
  kept_lines steps (g ∷ goals) [] refs h = absurd h

  -- a fact that settles a goal and holds makes its line hold, whatever the line was
  new_line : (g : Goal) (l : Line) (f : Fact) → Settles g f → Holds nodes a f
      → LineHolds nodes a g.of (joined l f)
  new_line g l f s h = laws.first nodes a g.of l f (laws.kind g.want f s.1) s.0 h

  -- Where what may be cited holds, all lines hold with a leaf that settles the goals.
  pub new_lines : (steps : List Citable) (holds : (n : ℕ) (f : Fact) → step_fact steps n ≡ Some f
      → Holds nodes a f) (goals : List Goal) (lines : List Line) (refs : List ℕ)
      → HaveLines goals lines → AreSettled steps goals refs
      → LinesHold nodes a goals (lines_with steps lines refs)
  new_lines steps holds [] [] [] n s = tt
  new_lines steps holds (g ∷ goals) (l ∷ lines) (r ∷ refs) n s =
      let P : Option Fact → Type 0 = λ o. LineHolds nodes a g.of (with_cited l o) in
      let held = holds r s.0.0 s.0.1 in (
        record {
          line = subst P (sym s.0.1) (new_line g l s.0.0 s.0.2 held);
          fact = s.0.0;
          settles = s.0.2;
          holds = held;
        },
        new_lines steps holds goals lines refs n s.1,
      )
  new_lines steps holds [] [] (r ∷ refs) n s = absurd s
  new_lines steps holds (g ∷ goals) (l ∷ lines) [] n s = absurd s
  new_lines steps holds [] (l ∷ lines) refs n s = absurd n
  new_lines steps holds (g ∷ goals) [] refs n s = absurd n

pub have_lines : (steps : List Citable) (goals : List Goal) (lines : List Line) (refs : List ℕ)
    → HaveLines goals lines → HaveLines goals (lines_with steps lines refs)
have_lines steps [] [] refs h = h
have_lines steps (g ∷ goals) (l ∷ lines) [] h = h
have_lines steps (g ∷ goals) (l ∷ lines) (r ∷ refs) h = have_lines steps goals lines refs h
have_lines steps [] (l ∷ lines) refs h = absurd h
have_lines steps (g ∷ goals) [] refs h = absurd h
