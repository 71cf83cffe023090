use Rattle.script_words.specs.Kept.{words_in}
use Rattle.script_shape.specs.Roles.{leaves_of}
use Rattle.script_judge.specs.Front.{said_in}
use Rattle.script_judge.specs.Judge.{nothing_seen}
use Rattle.script_judge.specs.Judging.{none}
use Rattle.script_judge.proofs.judge.Judging.new.Goals as goal

pub returns-clause-judged : goal.returns-clause-judged
returns-clause-judged c = record {
  seen = nothing_seen (said_in (leaves_of c.args.roles.now (words_in c.args.words)));
  passed = none;
  stands = record {
    names = c.new-seen.ensures.seen.names;
    opened = c.new-seen.ensures.seen.opened;
    counts = c.new-seen.ensures.seen.counts;
    bounds = c.new-seen.ensures.seen.bounds;
    within = c.new-seen.ensures.seen.within;
  };
  splits_stand = c.new-splits.ensures.seen;
  within = c.new-seen.ensures.within;
  cases = c.new-seen.ensures.cases;
  arrows_left = c.arrow_count-arrows.ensures;
}
