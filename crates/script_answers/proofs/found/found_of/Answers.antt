use Rattle.std.proofs.Common.{◌≡◌, subst, rules, length}
use Rattle.std.proofs.lemmas.Option.{slice_get_within}
use Rattle.script_grammar.specs.Cases.{cases_of}
use Rattle.bisect.specs.Gathered.{lines_of}
use Rattle.settler.specs.Answers.{Options, ComesTo, IsUnproved, options_from}
use Rattle.script_answers.proofs.Answered.{proved_text}
use Rattle.script_answers.proofs.found.found_of.Goals as goal

pub open_line-requires-clause-case : goal.open_line-requires-clause-case
open_line-requires-clause-case c =
    let s = c.args.job.now.script.now in
    let o : Options = options_from c.args.job.now.options in
    let leaf = c.in-Unproved.leaf in
    let unproved : IsUnproved s o leaf =
    (c.in-Unproved.boxes, subst (ComesTo s o) c.in-Unproved.is c.requires.comes) in
    let first = c.open_leaves_are_first.ensures s o leaf unproved in
    slice_get_within (cases_of s) leaf.case first.claims first.there

pub returns-in_ok-lines-in-Leaves : goal.returns-in_ok-lines-in-Leaves
returns-in_ok-lines-in-Leaves c =
    let s = c.args.job.now.script.now in
    let o : Options = options_from c.args.job.now.options in
    let shown : c.in_ok-lines-in-Leaves.lines ≡ lines_of c.in-Leaves.leaves (length s.goals) =
    search rules in
    proved_text c.script_or_refusal.ensures.spans c.proved_lines_are_tight.ensures s o
    c.in-Leaves.boxes c.in-Leaves.leaves c.in_ok-lines-in-Leaves.lines c.requires.holds
    c.laws.ensures.spelled (subst (ComesTo s o) c.in-Leaves.is c.requires.comes) shown
