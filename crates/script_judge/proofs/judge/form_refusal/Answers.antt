use Rattle.std.proofs.Common.{◌∙◌, ap}
use Rattle.script_words.specs.Kept.{words_in}
use Rattle.script_judge.specs.Bounds.{is_bad_bound}
use Rattle.script_judge.specs.BoundViews.{notes_of}
use Rattle.script_judge.proofs.Turns.{form_told}
use Rattle.script_judge.proofs.judge.form_refusal.Goals as goal

pub returns : goal.returns
returns c = λ seen h lacks point.
    let words = words_in c.args.later.words in
    let v = notes_of c.args.notes in
    form_told v c.args.later.has_arrow seen _ _ c.args.later.roles.now
    words c.is_on_wrong_side-wrong_side.result c.is_used-used.result c.is_bad-bad_bound.result
    c.args.split.lacks_range c.is_rangeless-rangeless.result c.splits_defined-defined_split.result
    c.has_no_pieces-no_pieces.result c.args.split.bad_point c.form_kind.result
    c.is_on_wrong_side-wrong_side.ensures (c.is_used-used.ensures seen.names h.names)
    (c.is_bad-bad_bound.ensures ∙ ap (λ b. is_bad_bound b v.number) h.bounds) lacks
    (c.splits_defined-defined_split.ensures seen.names h.names) c.is_rangeless-rangeless.ensures
    c.has_no_pieces-no_pieces.ensures point c.form_kind.ensures
