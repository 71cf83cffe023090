use Rattle.std.proofs.Common.{◌+◌, ◌<◌, ◌∷◌, length, drop, map, sym, ap, ◌∙◌, arith}
use Rattle.std.proofs.lemmas.List.{drop-map, drop_more, length-map}
use Rattle.script_words.specs.Named.{word_of}
use Rattle.script_words.specs.Placed.{word_at}
use Rattle.script_words.proofs.list.WordList.at.Goals as goal

pub returns : goal.returns
returns c =
    let all = c.args.self.placed.now in
    let f = word_at c.args.self.text.now in
    let n = c.args.number in
    let within : n < length all = omega (arith, length-map all f) in
    drop-map f n all ∙ ap (map f) (drop_more all n _ within)
    ∙ ap (λ w. w ∷ map f (drop (n + 1) all)) (sym c.word_at.ensures)
    ∙ ap (λ ws. word_of c.word_at.result ∷ ws) (sym (drop-map f (n + 1) all))
