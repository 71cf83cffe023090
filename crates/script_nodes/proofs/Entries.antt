-- What every reading keeps, when a name joins.
use Rattle.std.proofs.Common.{◌≡◌, ◌<◌, List, [], ◌∷◌, length, Option, Some, IfSome, Bool, true}
use Rattle.std.proofs.Common.{false, if◌then◌else◌, sym, ap, subst, ◌∙◌, Result, Ok, Err, OnOk}
use Rattle.std.proofs.Common.{OnErr}
use Rattle.std.specs.Str.{bytes_eq}
use Rattle.fx_model.specs.declared.Rounding.{Rounding}
use Rattle.fx_model.specs.declared.ExprId.{ExprId}
use Rattle.script_nodes.specs.Known.{Name, entry_of, with_entry, or_none, operator_named}
use Rattle.script_nodes.specs.Waits.{Reading}
use Rattle.script_nodes.specs.Sound.{ValuesFit, OperatorsFit, IsInRange, IsSound}
use Rattle.script_nodes.proofs.Kept.{value_among, value_joins}

-- ---- values

pub value_below : (r k : Reading) (text : Name) (o : Option ExprId) → r ≡ k
    → o ≡ entry_of r.known.values text → IsSound r → IfSome o (λ x. x.0 < length k.known.nodes)
value_below r k text o e h s = subst (λ (j : Reading). IfSome o (λ x. x.0 < length j.known.nodes)) e
    (subst (λ o. IfSome o (λ x. x.0 < length r.known.nodes)) (sym h)
    (value_among (length r.known.nodes) r.known.values text s.values))

-- whether or not there was memory for it
pub value_sound : {A E : Type 0}
    (r k : Reading) (text : Name) (x : ExprId) (new : List (Name × ExprId)) (answer : Result A E)
    → r ≡ k → x.0 < length k.known.nodes → OnOk answer (new ≡ with_entry r.known.values text x)
    → OnErr answer (new ≡ r.known.values) → IsSound r
    → IsSound (record {
      known = record {
        nodes = r.known.nodes;
        variables = r.known.variables;
        values = new;
        operators = r.known.operators;
      };
      waits = r.waits;
    })
value_sound r k text x new (Ok a) e h o f s =
    let low : x.0 < length r.known.nodes =
    subst (λ (j : Reading). x.0 < length j.known.nodes) (sym e) h in
    record {
      waits = s.waits;
      values = subst (ValuesFit (length r.known.nodes)) (sym o)
          (value_joins (length r.known.nodes) r.known.values text x low s.values);
      operators = s.operators;
      variables = s.variables;
      numbered = s.numbered;
    }
value_sound r k text x new (Err a) e h o f s = record {
  waits = s.waits;
  values = subst (ValuesFit (length r.known.nodes)) (sym f) s.values;
  operators = s.operators;
  variables = s.variables;
  numbered = s.numbered;
}

-- ---- operators

operator_among : (es : List (Name × Rounding)) (text : Name) → OperatorsFit es
    → IfSome (entry_of es text) IsInRange
operator_among [] text f = tt
operator_among (e ∷ es) text f = by_test (bytes_eq text e.0) f.0 (operator_among es text f.1)
  where
    by_test : (b : Bool) → IsInRange e.1 → IfSome (entry_of es text) IsInRange
        → IfSome (if b then Some e.1 else entry_of es text) IsInRange
    by_test true h more = h
    by_test false h more = more

pub operator_range : (r : Reading) (text : Name) (o : Option Rounding) (x : Rounding)
    → o ≡ entry_of r.known.operators text → o ≡ Some x → IsSound r → IsInRange x
operator_range r text o x h e s =
    subst (λ o. IfSome o IsInRange) (sym h ∙ e) (operator_among r.known.operators text s.operators)

pub operator_is : (r k : Reading) (text : Name) (o : Option Rounding) (x : Rounding) → r ≡ k
    → o ≡ entry_of r.known.operators text → or_none o ≡ x → x ≡ operator_named k.known text
unfolding operator_named
operator_is r k text o x e h i =
    sym i ∙ ap or_none (h ∙ ap (λ (j : Reading). entry_of j.known.operators text) e)

operator_joins : (es : List (Name × Rounding)) (text : Name) (x : Rounding) → IsInRange x
    → OperatorsFit es → OperatorsFit (with_entry es text x)
operator_joins [] text x h f = (h, tt)
operator_joins (e ∷ es) text x h f = by_test (bytes_eq text e.0) (operator_joins es text x h f.1)
  where
    by_test : (b : Bool) → OperatorsFit (with_entry es text x)
        → OperatorsFit (if b then (e.0, x) ∷ es else e ∷ with_entry es text x)
    by_test true more = (h, f.1)
    by_test false more = (f.0, more)

pub operator_sound : {A E : Type 0}
    (r : Reading) (text : Name) (x : Rounding) (new : List (Name × Rounding)) (answer : Result A E)
    → IsInRange x → OnOk answer (new ≡ with_entry r.known.operators text x)
    → OnErr answer (new ≡ r.known.operators) → IsSound r
    → IsSound (record {
      known = record {
        nodes = r.known.nodes;
        variables = r.known.variables;
        values = r.known.values;
        operators = new;
      };
      waits = r.waits;
    })
operator_sound r text x new (Ok a) h o f s = record {
  waits = s.waits;
  values = s.values;
  operators = subst OperatorsFit (sym o) (operator_joins r.known.operators text x h s.operators);
  variables = s.variables;
  numbered = s.numbered;
}
operator_sound r text x new (Err a) h o f s = record {
  waits = s.waits;
  values = s.values;
  operators = subst OperatorsFit (sym f) s.operators;
  variables = s.variables;
  numbered = s.numbered;
}
