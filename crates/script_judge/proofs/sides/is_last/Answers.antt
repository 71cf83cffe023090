use Rattle.std.proofs.Common.{sym, ◌∙◌}
use Rattle.script_words.specs.Kept.{words_in}
use Rattle.script_judge.proofs.LastLeaf.{empty_leaves}
use Rattle.script_judge.proofs.sides.is_last.Goals as goal

pub returns : goal.returns
returns c =
    c.is_empty.ensures ∙ sym (empty_leaves c.args.roles.now (words_in c.args.words) c.requires)
