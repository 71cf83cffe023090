use Rattle.std.proofs.Common.{sym}
use Rattle.std.proofs.lemmas.List.{take-map}
use Rattle.script_words.specs.Placed.{word_at, token_of}
use Rattle.script_words.proofs.list.WordList.front.Goals as goal

pub returns-clause-words : goal.returns-clause-words
returns-clause-words c =
    sym (take-map (word_at c.args.self.text.now) c.args.count c.args.self.placed.now)

pub returns-clause-tokens : goal.returns-clause-tokens
returns-clause-tokens c = sym (take-map token_of c.args.count c.args.self.placed.now)
