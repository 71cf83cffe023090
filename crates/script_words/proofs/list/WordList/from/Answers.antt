use Rattle.std.specs.Prelude.{ℕ, List, ◌≡◌, map, length, slice_range}
use Rattle.std.proofs.Common.{drop, sym, ap, ◌∙◌, arith, length-drop}
use Rattle.std.proofs.lemmas.List.{drop-map, take_all}
use Rattle.script_words.specs.declared.list.PlacedWord.{PlacedWord}
use Rattle.script_words.specs.Placed.{word_at, token_of}
use Rattle.script_words.proofs.list.WordList.from.Goals as goal

-- what is made of the things from a number on
mapped_from : (B : Type 0) → (f : PlacedWord → B) → (n : ℕ) → (all : List PlacedWord)
    → map f (slice_range all n (length all)) ≡ drop n (map f all)
mapped_from B f n all = ap (map f) (take_all _ (drop n all) (omega (arith, length-drop n all)))
    ∙ sym (drop-map f n all)

pub returns-clause-words : goal.returns-clause-words
returns-clause-words c =
    mapped_from _ (word_at c.args.self.text.now) c.args.number c.args.self.placed.now

pub returns-clause-tokens : goal.returns-clause-tokens
returns-clause-tokens c = mapped_from _ token_of c.args.number c.args.self.placed.now
