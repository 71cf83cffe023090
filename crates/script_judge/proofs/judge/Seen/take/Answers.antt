use Rattle.std.proofs.Common.{◌∙◌, ap, subst}
use Rattle.script_words.specs.Named.{word_of}
use Rattle.script_judge.specs.Bounds.{bounds_after}
use Rattle.script_judge.specs.Counts.{counts_after}
use Rattle.script_judge.specs.Names.{names_after}
use Rattle.script_judge.specs.Nesting.{opened_after}
use Rattle.script_judge.specs.BoundViews.{notes_of}
use Rattle.script_judge.specs.Views.{AreNames}
use Rattle.script_judge.proofs.judge.Seen.take.Goals as goal

pub returns-clause-seen : goal.returns-clause-seen
returns-clause-seen c = λ stands h.
    let r = c.args.role in
    let w = word_of c.args.word in
    let v = notes_of c.args.notes in
    let new = c.is_new-is_new.ensures stands.names h.names in
    record {
      names = subst (λ k. AreNames c.take.new.self (names_after stands.names k r w))
          (λ i. (h.counts i).halves) (c.in_ok-take.ensures stands.names h.names);
      opened = c.in_ok-open_or_close.ensures ∙ ap (λ os. opened_after os r w) h.opened;
      counts = c.counts_after-self.ensures.counts
          ∙ (λ i. counts_after (h.counts i) (new i) r w);
      bounds = c.take-2.ensures.value ∙ ap (λ b. bounds_after b v.number r w) h.bounds;
      within = c.take-2.ensures.normal c.requires.lower c.requires.number;
    }
