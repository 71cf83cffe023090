-- What a script names are its nodes.
use Rattle.std.specs.List.{AllByRecursion}
use Rattle.std.proofs.Common.{sym, subst}
use Rattle.script_shape.specs.Tree.{Script, formula, define}
use Rattle.goal_spans.specs.Spans.{goal_spans}
use Rattle.script_nodes.specs.Known.{Known, nothing_known}
use Rattle.script_nodes.specs.Definitions.{definition_value}
use Rattle.script_nodes.specs.Growth.{node_count}
use Rattle.script_claims.specs.Claims.{formula_claims}
use Rattle.script_hints.specs.Hints.{no_hints, with_hints}
use Rattle.script_grammar.specs.Meaning.{Meaning, meaning_from, meaning_of}
use Rattle.script_grammar.specs.Spells.{view_of}
use Rattle.script_grammar.specs.Names.{ClaimIsOf, HintsAreOf, NamesNodes, SpelledNamesNodes}
use Rattle.script_grammar.proofs.ExpressionNames.{Fits, definition_grows}
use Rattle.script_grammar.proofs.ClaimNames.{claims_more, formula_claimed}
use Rattle.script_grammar.proofs.HintNames.{none_read, hints_read}

record MeansNodes (m : Meaning) : Type 0 where
  hypotheses : AllByRecursion (ClaimIsOf (node_count m.known)) m.hypotheses
  goals : AllByRecursion (ClaimIsOf (node_count m.known)) m.goals
  hints : HintsAreOf (node_count m.known) m.hints

tree_names : (tree : Script) (k : Known) → Fits k → MeansNodes (meaning_from tree k)
tree_names (formula f h) k fits =
    let cs = formula_claims f k in
    let c = formula_claimed f k fits in
    let r = hints_read h cs.known (cs.known, no_hints) (none_read cs.known c.grows.fits) in
    let j = (with_hints h (cs.known, no_hints)).0 in
    record {
      hypotheses = claims_more (node_count cs.known)
          (node_count j) r.grows.more cs.sides.hypotheses c.hypotheses;
      goals = claims_more (node_count cs.known) (node_count j) r.grows.more cs.sides.goals c.goals;
      hints = r.hints;
    }
tree_names (define x rest) k fits = let d = definition_grows x k fits in
    tree_names rest (definition_value x k) d.fits

pub spelled_names_nodes : SpelledNamesNodes
spelled_names_nodes text s p =
    let m = tree_names p.tree nothing_known tt in
    let names : NamesNodes (view_of text s.tokens (meaning_of p.tree) (goal_spans p.tree)) =
    record { hypotheses = m.hypotheses; goals = m.goals; hints = m.hints } in
    subst NamesNodes (sym p.says) names
