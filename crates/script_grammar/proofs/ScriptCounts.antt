-- A script that the judge lets pass has few nodes.
use Rattle.std.proofs.Common.{◌≡◌, ◌≤◌, List, [], ◌∷◌, ◌++◌, length, Some, refl, sym, ◌∙◌, subst}
use Rattle.std.proofs.Common.{arith, append_assoc, append-nil}
use Rattle.script_words.specs.declared.class.Symbol.TheVariants as s
use Rattle.script_words.specs.Words.{sign}
use Rattle.script_words.specs.Named.{nothing}
use Rattle.script_shape.specs.declared.due.Due.TheVariants as d
use Rattle.script_shape.specs.Propositions.{Formula}
use Rattle.script_shape.specs.Hints.{Hints}
use Rattle.script_shape.specs.Tree.{Script, formula, define}
use Rattle.script_shape.specs.ShapeLaw.{RolesAreUnique}
use Rattle.script_shape.specs.Roles.{LeavesSpell, Leaf, at, formula_leaves, hints_leaves}
use Rattle.script_shape.specs.Roles.{definition_leaves, script_leaves}
use Rattle.script_judge.specs.Names.{Name}
use Rattle.script_judge.specs.Said.{said_from}
use Rattle.script_judge.specs.Judge.{Seen, nothing_seen, seen_after}
use Rattle.script_nodes.specs.Known.{Known, nothing_known}
use Rattle.script_nodes.specs.Definitions.{definition_value}
use Rattle.script_nodes.specs.ReadingLaw.{ReadsTrees}
use Rattle.script_claims.specs.Reads.{then_brace, ReadsFormulas}
use Rattle.script_hints.specs.ReadingLaw.{ReadsHints}
use Rattle.script_grammar.specs.Counted.{known_behind, NodesAreCounted}
use Rattle.script_grammar.proofs.Marks.{Marked, calm_words, script_marked}
use Rattle.script_grammar.proofs.Kept.{IsKept, kept_after}
use Rattle.script_grammar.proofs.Passing.{Passes, passes_of, passes_both, passes_said, passes_kept}
use Rattle.script_grammar.proofs.DefinitionCounts.{IsBetween, definition_counts}
use Rattle.script_grammar.proofs.FormulaCounts.{braced_body, formula_counts}
use Rattle.script_grammar.proofs.HintCounts.{hints_body, hints_counts}

module _ (trees : ReadsTrees) (formulas : ReadsFormulas) (hints : ReadsHints) where
  abbrev opening : Leaf
  opening = at d.Script (sign s.OpenBrace)

  -- behind the opening brace
  body_fits : (ops : List Name) (f : Formula) (h : Hints) (k : Known) (seen last : Seen)
      → Marked ops nothing (then_brace f [] ++ hints_leaves h)
      → Passes seen (then_brace f [] ++ hints_leaves h) last
      → seen.said ≡ Some (said_from (formula f h) k) → IsKept ops seen
      → IsBetween ops seen k → length (known_behind (formula f h) k).nodes ≤ 512
  body_fits ops f h k seen last m p e kept b =
      let first = calm_words ops (then_brace f []) (hints_leaves h) nothing tt (braced_body f) m in
      let claims = first.2 in
      let second = calm_words ops (hints_leaves h) [] first.0 first.1 (hints_body h)
      (subst (Marked ops first.0) (sym (append-nil (hints_leaves h))) claims.rest) in
      let hinted = second.2 in
      let both = passes_both (then_brace f []) (hints_leaves h) seen last p in
      let mid = both.0 in
      let fine = passes_kept ops (then_brace f []) seen mid both.1 kept in
      let behind = hints_counts hints ops (said_from (formula f h) k) h mid last hinted.free both.2
      (passes_said (then_brace f []) seen mid both.1 ∙ e)
      (formula_counts formulas ops f k seen mid claims.free both.1 b) in
      let end = passes_kept ops (hints_leaves h) mid last both.2 fine in
      let a = behind.within in
      let n = end.nodes in
      omega arith

  script_fits : (tree : Script) (ops : List Name) (k : Known) (seen last : Seen)
      → Marked ops nothing (script_leaves tree) → Passes seen (script_leaves tree) last
      → seen.said ≡ Some (said_from tree k)
      → IsKept ops seen → IsBetween ops seen k → length (known_behind tree k).nodes ≤ 512
  script_fits (formula f h) ops k seen last m p e kept b =
      let next = seen_after p.0 seen d.Script (sign s.OpenBrace) in
      let t = b.within in
      let start : IsBetween ops next k = record { pending = b.pending; within = omega arith } in
      let ls : then_brace f (hints_leaves h) ≡ then_brace f [] ++ hints_leaves h = sym (append_assoc
      (formula_leaves f) (at d.CloseBrace (sign s.CloseBrace) ∷ []) (hints_leaves h)) in
      body_fits ops f h k next last (subst (Marked ops nothing) ls m.2)
      (subst (λ ls. Passes next ls last) ls p.3) e
      (kept_after ops p.0 seen d.Script (sign s.OpenBrace) p.1 p.2 kept) start
  script_fits (define x rest) ops k seen last m p e kept b =
      let both = passes_both (definition_leaves x) (script_leaves rest) seen last p in
      let defined = definition_counts trees x
      (script_leaves rest) ops k seen both.0 m both.1 kept b in
      let d = defined.1 in
      script_fits rest defined.0 (definition_value x k) both.0 last d.marked both.2
      (passes_said (definition_leaves x) seen both.0 both.1 ∙ e) d.kept d.between

  pub nodes_are_counted : LeavesSpell → RolesAreUnique → NodesAreCounted
  nodes_are_counted spell once text tokens tree behind last e p =
      script_fits tree [] nothing_known (nothing_seen (Some (said_from tree nothing_known))) last
      (script_marked spell once text tokens tree e) (passes_of (script_leaves tree) behind p) refl
      (record { operators = λ n h. cc h; cases = omega arith; nodes = omega arith })
      (record { pending = refl; within = omega arith })
