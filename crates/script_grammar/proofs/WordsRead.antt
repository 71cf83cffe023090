-- The words of a script are read as its tree.
use Rattle.std.proofs.Common.{◌≡◌, [], drop, take, refl, sym, ap, ◌∙◌, append-nil}
use Rattle.script_shape.specs.Tree.{Script, formula, define}
use Rattle.script_shape.specs.Roles.{script_leaves}
use Rattle.script_nodes.specs.Known.{Known, nothing_known}
use Rattle.script_nodes.specs.Definitions.{definition_value}
use Rattle.script_claims.specs.Reads.{from_claims}
use Rattle.script_hints.specs.Hints.{no_hints}
use Rattle.script_hints.specs.ReadingLaw.{ReadsHints}
use Rattle.script_judge.specs.Said.{claims_behind}
use Rattle.script_judge.specs.Front.{front_closed, read_front, no_front, front_leaves, ReadsFronts}
use Rattle.script_grammar.specs.Meaning.{meaning_from, body_meaning}
use Rattle.script_grammar.specs.Steps.{said_behind, read_behind, ReadsScripts}
use Rattle.script_grammar.specs.Judgement.{formula_end}
use Rattle.script_grammar.proofs.FewHints.{hints_of}
use Rattle.script_grammar.proofs.FrontLeaves.{roles, front_taken, front_left}

meaning_in : (tree : Script) (k : Known)
    → body_meaning (claims_behind tree k) (hints_of tree) ≡ meaning_from tree k
meaning_in (formula f h) k = refl
meaning_in (define x rest) k = meaning_in rest (definition_value x k)

pub scripts_are_read : ReadsFronts → ReadsHints → ReadsScripts
scripts_are_read fronts hints tree =
    let all = script_leaves tree in
    let end = formula_end (roles all) in
    let cs = claims_behind tree nothing_known in
    let front : read_front (take end all) no_front ≡ front_closed (from_claims cs) =
    ap (λ l. read_front l no_front) (front_taken tree ∙ sym (append-nil (front_leaves tree)))
    ∙ fronts tree [] in
    ap (λ f. read_behind f (drop end all)) front
    ∙ ap (read_behind (front_closed (from_claims cs))) (front_left tree)
    ∙ ap (said_behind cs.sides) (hints (hints_of tree) cs.known no_hints)
    ∙ meaning_in tree nothing_known
