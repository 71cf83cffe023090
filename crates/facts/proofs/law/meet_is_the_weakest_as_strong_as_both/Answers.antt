use Rattle.facts.proofs.Laws.{IsStronger-meet}
use Rattle.facts.proofs.Meets.{meet-IsMeet, meet-exchanged, meet-stronger}
use Rattle.facts.proofs.law.meet_is_the_weakest_as_strong_as_both.Goals as goal

pub returns : goal.returns
returns c = record {
  left = λ f g h e. (meet-IsMeet f g h e).left;
  right = λ f g h e. (meet-IsMeet f g h e).right;
  weakest = λ f g h d e p q. IsStronger-meet d f g h p q e;
  exchanged = meet-exchanged;
  stronger_alone = meet-stronger;
}
