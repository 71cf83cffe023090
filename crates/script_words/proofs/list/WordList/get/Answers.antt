use Rattle.std.proofs.Common.{◌≤◌, length, map, Some, sym, ap, ◌∙◌, arith}
use Rattle.std.specs.Option.{option_map}
use Rattle.std.proofs.lemmas.List.{length-map}
use Rattle.std.proofs.lemmas.Option.{slice_get-map, slice_get-get_or, slice_get_past}
use Rattle.script_words.specs.Placed.{word_at}
use Rattle.script_words.proofs.list.WordList.get.Goals as goal

pub returns-then-number-self : goal.returns-then-number-self
returns-then-number-self c =
    let all = c.args.self.placed.now in
    let f = word_at c.args.self.text.now in
    sym (slice_get-map f all c.args.number ∙ ap (option_map f)
    (slice_get-get_or all c.args.number _ (omega arith)) ∙ ap Some (sym c.word_at.ensures))

pub returns-else-number-self : goal.returns-else-number-self
returns-else-number-self c =
    let all = c.args.self.placed.now in
    let f = word_at c.args.self.text.now in
    let past : length (map f all) ≤ c.args.number = omega (arith, length-map all f) in
    sym (slice_get_past (map f all) c.args.number past)
