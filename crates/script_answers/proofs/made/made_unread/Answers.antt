use Rattle.std.proofs.Common.{List, ℕ, subst}
use Rattle.script_texts.specs.Texts.{IsRefusedWith}
use Rattle.script_answers.proofs.made.made_unread.Goals as goal

pub returns : goal.returns
returns c =
    subst (λ (text : List ℕ). IsRefusedWith text c.in_ok-line.line.items) c.requires.text
    c.in_ok-line.ensures
