use Rattle.std.proofs.Common.{◌≡◌, sym, ap, ◌∙◌, subst}
use Rattle.script_hints.specs.declared.hint.HintList.{HintList}
use Rattle.rewrite_hints.specs.Marks.{AreKnownSides}
use Rattle.script_checker.proofs.Named.{sides_named}
use Rattle.script_checker.proofs.subject.subject_of.Goals as goal

pub marks_of-requires : goal.marks_of-requires
marks_of-requires c =
    let rewrites : c.as_slice.result.now ≡ c.args.script.now.hints.rewrites =
    c.as_slice.ensures ∙ ap (λ (h : HintList). h.rewrites) c.hints.ensures.value in
    subst (λ ns. AreKnownSides ns c.as_slice.result.now) (sym c.nodes-3.ensures)
    (subst (AreKnownSides c.args.script.now.nodes) (sym rewrites) (sides_named
    c.args.script.now.nodes c.args.script.now.hints.rewrites c.laws.ensures.names.hints.rewrites))

pub rows_of-requires-clause-known : goal.rows_of-requires-clause-known
rows_of-requires-clause-known c =
    let rewrites : c.as_slice-2.result.now ≡ c.args.script.now.hints.rewrites =
    c.as_slice-2.ensures ∙ ap (λ (h : HintList). h.rewrites) c.hints-2.ensures.value in
    subst (λ ns. AreKnownSides ns c.as_slice-2.result.now) (sym c.nodes-4.ensures)
    (subst (AreKnownSides c.args.script.now.nodes) (sym rewrites) (sides_named
    c.args.script.now.nodes c.args.script.now.hints.rewrites c.laws.ensures.names.hints.rewrites))
