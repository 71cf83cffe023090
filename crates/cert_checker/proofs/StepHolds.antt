-- What an accepted step states holds where the steps that may be cited hold.
use Rattle.std.proofs.Common.{◌≡◌, ◌==◌, ℕ, zero, suc, Bool, true, false, List, [], ◌∷◌, Option}
use Rattle.std.proofs.Common.{Some, None, refl, sym, subst}
use Rattle.std.specs.Prelude.{⊤, slice_get, if◌then◌else◌}
use Rattle.std.specs.Option.{IsSomeAnd}
use Rattle.std.specs.List.{AllByRecursion}
use Rattle.fx_model.specs.Fraction.{Fraction}
use Rattle.fx_model.specs.Enclosure.{Lies}
use Rattle.fx_model.specs.Expression.{Assignment, IsOrdered}
use Rattle.fx_model.specs.declared.Node.{Node}
use Rattle.fx_model.specs.declared.Node.TheVariants.{Var, Lit, Neg, Add, Sub, Mul, Div, Abs, Round}
use Rattle.fx_model.specs.declared.ExprId.{ExprId}
use Rattle.interval.specs.Intervals.{range_of}
use Rattle.interval.specs.Results.{whole_interval}
use Rattle.expr_dag.proofs.Shapes.{node_at-value}
use Rattle.facts.specs.declared.fact.Fact.{Fact}
use Rattle.facts.specs.declared.fact.Slot.{Slot}
use Rattle.facts.specs.declared.fact.Fact.TheVariants as fact
use Rattle.facts.specs.declared.hint.HintRow.{HintRow}
use Rattle.facts.specs.Holds.{Holds}
use Rattle.facts.proofs.Held.{IsStronger-Holds, meet-Holds}
use Rattle.facts.specs.Order.{meet_of}
use Rattle.theorem_list.specs.Concludes.{concludes}
use Rattle.cert_bytes.specs.declared.item.StepRow.{StepRow}
use Rattle.cert_checker.specs.declared.given.Given.{Given}
use Rattle.cert_checker.specs.declared.given.Given.TheVariants.{Hypothesis, Variable, Piece}
use Rattle.cert_checker.specs.declared.open.Citable.{Citable}
use Rattle.cert_checker.specs.Contexts.{Context, open_piece}
use Rattle.cert_checker.specs.declared.subject.Subject.{Subject}
use Rattle.cert_checker.specs.Steps.{step_fact, before, step_facts, IsMetWith, variable_fact}
use Rattle.cert_checker.specs.Steps.{or_else, whole_line, without, only_for, target_of, case_facts}
use Rattle.cert_checker.specs.Steps.{Givens, givens, gives, given_fact, gives_by, met_with}
use Rattle.cert_checker.specs.Steps.{IsEnough, IsConcluded}
use Rattle.cert_checker.specs.Given.{given_of}
use Rattle.cert_checker.proofs.Shown.{AllHold}

-- nothing is given, or what holds
abbrev pub HoldsIf : List Node → Assignment → Option Fact → Type 0
HoldsIf nodes a None = ⊤
HoldsIf nodes a (Some f) = Holds nodes a f

-- the rules conclude only what holds of the assignment, where their premises do
abbrev pub RulesHold : List Node → Assignment → List HintRow → Type 0
RulesHold nodes a hints = (number arg : ℕ) (premises : List Fact) (target : Slot) (f : Fact)
    → concludes nodes hints number arg premises target ≡ Some f
    → AllByRecursion (Holds nodes a) premises → Holds nodes a f

at_test : {A : Type 0} (b : Bool) (x y : A) (P : A → Type 0) → P x → P y → P (if b then x else y)
at_test true x y P p q = p
at_test false x y P p q = q

module _ (nodes : List Node) (a : Assignment) (ordered : IsOrdered nodes) where
  by_number : (b : Bool) (f : Fact) (o : Option Fact) → Holds nodes a f → HoldsIf nodes a o
      → HoldsIf nodes a (if b then Some f else o)
  by_number true f o h r = h
  by_number false f o h r = r

  -- the fact of a step that may be cited
  pub cited : (steps : List Citable) (n : ℕ) → AllHold nodes a steps
      → HoldsIf nodes a (step_fact steps n)
  cited [] n h = tt
  cited (s ∷ steps) n h =
      by_number (s.number == n) s.fact (step_fact steps n) h.0 (cited steps n h.1)

  pub cited_is : (steps : List Citable) → AllHold nodes a steps → (n : ℕ) (f : Fact)
      → step_fact steps n ≡ Some f → Holds nodes a f
  cited_is steps h n f e = subst (HoldsIf nodes a) e (cited steps n h)

  abbrev AllIf : Option (List Fact) → Type 0
  AllIf None = ⊤
  AllIf (Some fs) = AllByRecursion (Holds nodes a) fs

  more : (o : Option Fact) (r : Option (List Fact)) → HoldsIf nodes a o
      → AllIf r → AllIf (before o r)
  more None r h t = tt
  more (Some f) None h t = tt
  more (Some f) (Some fs) h t = (h, t)

  all_cited : (steps : List Citable) (ns : List ℕ) → AllHold nodes a steps
      → AllIf (step_facts steps ns)
  all_cited steps [] h = tt
  all_cited steps (n ∷ ns) h =
      more (step_fact steps n) (step_facts steps ns) (cited steps n h) (all_cited steps ns h)

  met_cited : (steps : List Citable) (o : Option ℕ) (w : Option Fact) → AllHold nodes a steps
      → IsMetWith steps o w → HoldsIf nodes a w
  met_cited steps None w h m = subst (HoldsIf nodes a) (sym m) tt
  met_cited steps (Some n) w h m = subst (HoldsIf nodes a) m.0 (cited steps n h)

  -- ---- what is given
  variable_node : (x : ExprId) (n : Node) → slice_get nodes x.0 ≡ Some n
      → HoldsIf nodes a (variable_fact x (Some n))
  variable_node x (Var n) e =
      let P : Option Fraction → Type 0 = λ o. IsSomeAnd o (Lies (range_of whole_interval)) in
      subst P (sym (node_at-value nodes a x (Var n) ordered e)) (tt, tt)
  variable_node x (Lit l) e = tt
  variable_node x (Neg y) e = tt
  variable_node x (Add y z) e = tt
  variable_node x (Sub y z) e = tt
  variable_node x (Mul y z) e = tt
  variable_node x (Div y z) e = tt
  variable_node x (Abs y) e = tt
  variable_node x (Round r y) e = tt

  variable_by : (x : ExprId) (o : Option Node) → slice_get nodes x.0 ≡ o
      → HoldsIf nodes a (variable_fact x o)
  variable_by x None e = tt
  variable_by x (Some n) e = variable_node x n e

  variable : (x : ExprId) → HoldsIf nodes a (variable_fact x (slice_get nodes x.0))
  variable x = variable_by x (slice_get nodes x.0) refl

  either : (o p : Option Fact) → HoldsIf nodes a o → HoldsIf nodes a p
      → HoldsIf nodes a (or_else o p)
  either None p h k = k
  either (Some f) p h k = h

  whole : (f : Fact) → HoldsIf nodes a (whole_line nodes f)
  whole (fact.Bnd x i) = variable x
  whole (fact.Abs x s) = variable x
  whole (fact.Rel x y e) = either (variable_fact x (slice_get nodes x.0))
      (variable_fact y (slice_get nodes y.0)) (variable x) (variable y)
  whole (fact.Fix x k) = variable x
  whole (fact.Nzr x) = variable x
  whole fact.Void = tt

  no_premises : (ps : List Fact) (o : Option Fact) → HoldsIf nodes a o
      → HoldsIf nodes a (without ps o)
  no_premises [] o h = h
  no_premises (p ∷ ps) o h = tt

  no_arg : (arg : ℕ) (o : Option Fact) → HoldsIf nodes a o → HoldsIf nodes a (only_for arg o)
  no_arg arg o h = at_test (arg == 0) o None (HoldsIf nodes a) h tt

  hypothesis : (facts : List Fact) (k : ℕ) → AllByRecursion (Holds nodes a) facts
      → HoldsIf nodes a (slice_get facts k)
  hypothesis [] k h = tt
  hypothesis (f ∷ facts) zero h = h.0
  hypothesis (f ∷ facts) (suc k) h = hypothesis facts k h.1

  by_rule : (hints : List HintRow) → RulesHold nodes a hints → (number arg : ℕ)
      (ps : List Fact) (t : Slot) (o : Option Fact) → concludes nodes hints number arg ps t ≡ o
      → AllByRecursion (Holds nodes a) ps → HoldsIf nodes a o
  by_rule hints rules number arg ps t None e h = tt
  by_rule hints rules number arg ps t (Some f) e h = rules number arg ps t f e h

  module _ (g : Givens) (e : g.nodes ≡ nodes) (facts : AllByRecursion (Holds nodes a) g.facts)
      (piece : HoldsIf nodes a g.piece) (row : StepRow) where
    given : (k : Given) → HoldsIf nodes a (given_fact g row k)
    given Hypothesis = hypothesis g.facts row.arg facts
    given Variable = subst (λ ns. HoldsIf nodes a (only_for row.arg (whole_line ns row.fact)))
        (sym e) (no_arg row.arg _ (whole row.fact))
    given Piece = no_arg row.arg g.piece piece

    gives_by-holds : RulesHold nodes a g.hints → (ps : List Fact) (w : Option Fact)
        → AllByRecursion (Holds nodes a) ps
        → (o : Option Given) → HoldsIf nodes a (gives_by g row ps w o)
    gives_by-holds rules ps w h (Some k) = no_premises ps (given_fact g row k) (given k)
    gives_by-holds rules ps w h None =
        subst (λ ns. HoldsIf nodes a (concludes ns g.hints row.rule row.arg ps
        (target_of row.fact w))) (sym e)
        (by_rule g.hints rules row.rule row.arg ps (target_of row.fact w) _ refl h)

  met_by : (g w m : Fact) (o : Option Fact) → meet_of g w ≡ o → Holds nodes a g
      → Holds nodes a w → HoldsIf nodes a o
  met_by g w m None e h k = tt
  met_by g w m (Some f) e h k = meet-Holds nodes a g w f e h k

  met : (g w : Option Fact) → HoldsIf nodes a g → HoldsIf nodes a w → HoldsIf nodes a (met_with g w)
  met None w h k = tt
  met (Some f) None h k = h
  met (Some f) (Some w) h k = met_by f w f (meet_of f w) refl h k

  enough : (o : Option Fact) (f : Fact) → HoldsIf nodes a o → IsEnough o f → Holds nodes a f
  enough None f h e = absurd e
  enough (Some c) f h e = IsStronger-Holds nodes a c f e h

  -- The fact of an accepted step holds.
  pub step_holds : (s : Subject) (c : Context) → c.nodes ≡ nodes
      → RulesHold nodes a s.hints → AllByRecursion (Holds nodes a) (case_facts s.cases c.case)
      → HoldsIf nodes a (open_piece c.cuts) → AllHold nodes a c.steps
      → (row : StepRow) → IsConcluded (givens s c) c.steps row → Holds nodes a row.fact
  step_holds s c e rules facts piece steps row q =
      let ps = q.0 in
      let w = q.1 in
      let h : AllByRecursion (Holds nodes a) ps =
      subst AllIf q.2.found (all_cited c.steps row.premises steps) in
      let k = met_cited c.steps row.with w steps q.2.met in
      enough (met_with (gives (givens s c) row ps w) w) row.fact (met (gives (givens s c) row ps w)
      w (gives_by-holds (givens s c) e facts piece row rules ps w h (given_of row.rule)) k)
      q.3.enough
