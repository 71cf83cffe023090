use Rattle.facts.proofs.Held.{IsStronger-Holds, meet-Holds}
use Rattle.facts.proofs.law.held_facts.Goals as goal

pub returns : goal.returns
returns c = record { weaker = IsStronger-Holds; meet = meet-Holds }
