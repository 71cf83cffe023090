use Rattle.std.proofs.Common.{◌≡◌, sym, ap, ◌∙◌, subst}
use Rattle.std.specs.Prelude.{IfOk}
use Rattle.script_hints.specs.declared.hint.HintList.{HintList}
use Rattle.rewrite_hints.specs.Marks.{AreMarks, AreKnownSides}
use Rattle.universe.proofs.Named.{sides_named}
use Rattle.universe.proofs.marks.classify.Goals as goal

pub marks_of-requires : goal.marks_of-requires
marks_of-requires c =
    let rewrites : c.as_slice.result.now ≡ c.args.script.now.hints.rewrites =
    c.as_slice.ensures ∙ ap (λ (h : HintList). h.rewrites) c.hints.ensures.value in
    subst (λ ns. AreKnownSides ns c.as_slice.result.now)
    (sym c.nodes.ensures) (subst (AreKnownSides c.args.script.now.nodes) (sym rewrites)
    (sides_named c.args.script.now c.laws.ensures.names))

pub returns : goal.returns
returns c =
    let rewrites : c.as_slice.result.now ≡ c.args.script.now.hints.rewrites =
    c.as_slice.ensures ∙ ap (λ (h : HintList). h.rewrites) c.hints.ensures.value in
    subst (λ hs. IfOk c.marks_of.result (λ marks. AreMarks c.args.script.now.nodes hs marks.items))
    rewrites (subst (λ ns. IfOk c.marks_of.result
    (λ marks. AreMarks ns c.as_slice.result.now marks.items)) c.nodes.ensures c.marks_of.ensures)
