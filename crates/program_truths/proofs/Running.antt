-- What is known behind the definitions of a run's steps.
use Rattle.std.proofs.Common.{◌<◌, List, [], ◌∷◌, map, None}
use Rattle.fx_model.specs.Fraction.{Fraction}
use Rattle.fx_model.specs.Expression.{Assignment, IsOrdered}
use Rattle.expr_dag.specs.Extended.{ValuesStay}
use Rattle.script_nodes.specs.Known.{Name, Known}
use Rattle.script_nodes.specs.Definitions.{with_value}
use Rattle.script_nodes.specs.Values.{expr_value}
use Rattle.fixprog.specs.Grammar.{Step}
use Rattle.fixprog.specs.Formats.{format_of}
use Rattle.fixprog.specs.Execution.{Values, step_value}
use Rattle.fixprog.specs.Printed.{IsShort}
use Rattle.program_truths.proofs.Trees.{step_expr}
use Rattle.program_truths.proofs.Knowing.{IsFront, Knows}
use Rattle.program_truths.proofs.Doing.{Operands}
use Rattle.program_truths.proofs.Steps.{step_gives, knows_with}
use Rattle.program_truths.proofs.Growing.{front_of, steps_known, steps_grow}

-- The names of the run are known with their values.
pub record Ready (a : Assignment) (f : Name → Fraction) (vs : Values) (k : Known) : Type 0 where
  pub ordered : IsOrdered k.nodes
  pub knows : Knows a f vs k

-- the values of all steps, whether or not one of them wraps
abbrev pub all_values : Values → List Step → Values
all_values vs [] = vs
all_values vs (x ∷ xs) = all_values ((x.name, step_value vs x) ∷ vs) xs

module _ (stay : ValuesStay) (f : Name → Fraction) (vars : List Name) where
  -- a step behind these values has its value
  pub record IsFine (vs : Values) (x : Step) : Type 0 where
    pub places : (format_of x.format).places < 64
    pub short : IsShort x.operation
    pub operands : Operands stay f vars vs x.operation

  abbrev pub AreFine : Values → List Step → Type 0
  AreFine vs [] = Unit {0}
  AreFine vs (x ∷ xs) = IsFine vs x × AreFine ((x.name, step_value vs x) ∷ vs) xs

  pub steps_ready : (xs : List Step) (vs : Values) (k : Known) → AreFine vs xs
      → Ready (map f vars) f vs k → IsFront (steps_known xs k).variables vars
      → Ready (map f vars) f (all_values vs xs) (steps_known xs k)
  steps_ready [] vs k h r front = r
  steps_ready (x ∷ xs) vs k h r front =
      let q = expr_value None (step_expr x) k in
      let here : IsFront q.0.variables vars =
      front_of (steps_grow xs (with_value x.name q)) front in
      let fine = h.0 in
      let g = step_gives stay f vars vs k x fine.places fine.short r.ordered r.knows fine.operands
      here in
      steps_ready xs ((x.name, step_value vs x) ∷ vs) (with_value x.name q) h.1
      (record {
        ordered = g.ordered;
        knows = knows_with f vars vs k q x.name (step_value vs x) g r.knows;
      }) front
