-- The code's values as those that definitions speak of.
use Rattle.std.specs.Prelude.{◌≡◌, length, map, reverse}
use Rattle.std.specs.Option.{option_copied}
use Rattle.literal_order.specs.Values.{IsWritten}
use Rattle.script_words.specs.Named.{HasNames}
use Rattle.script_words.specs.Kept.{all_words, all_tokens}
use Rattle.script_shape.specs.Roles.{leaves_of}
use Rattle.script_judge.specs.declared.names.Names.{Names}
use Rattle.script_judge.specs.declared.judge.Seen.{Seen as CodeSeen}
use Rattle.script_judge.specs.declared.reading.ReadText.{ReadText}
use Rattle.script_judge.specs.Reading.{Reading}
use Rattle.script_judge.specs.Names.{NamesSeen}
use Rattle.script_judge.specs.Judge.{Seen}
use Rattle.script_judge.specs.BoundViews.{bounds_of}

-- what the code has read
abbrev pub reading_of : ReadText → Reading
reading_of r = record {
  tokens = all_tokens r.words;
  bad = r.words.bad;
  words = all_words r.words;
  taken = length r.shape.roles.items;
  whole = r.shape.whole;
  leaves = leaves_of r.shape.roles.items (all_words r.words);
}

-- the code's names are these
pub record AreNames (names : Names) (seen : NamesSeen) : Type 0 where
  pub known : HasNames names.known seen.known
  pub defined : HasNames names.defined seen.defined
  pub pending : option_copied names.pending ≡ seen.pending
  pub halved : map (λ n. n.now) names.halved.items ≡ seen.halved

-- the code has seen this, but for what the formula says and for split variables
pub record IsSeen (code : CodeSeen) (seen : Seen) : Type 0 where
  pub names : AreNames code.names seen.names
  pub opened : reverse code.opened.items ≡ seen.opened
  pub counts : code.counts ≡ seen.counts
  pub bounds : bounds_of code.bounds ≡ seen.bounds
  pub within : IsWritten code.bounds.lower
