use Rattle.std.proofs.Common.{◌≡◌, ◌<◌, length, Some, None, ◌∙◌, sym, ap, arith}
use Rattle.std.specs.List.{slice_get}
use Rattle.std.specs.Option.{option_map}
use Rattle.std.proofs.lemmas.List.{length-take}
use Rattle.std.proofs.lemmas.Option.{slice_get_within}
use Rattle.script_words.specs.Named.{word_of}
use Rattle.script_words.specs.Kept.{words_in, tokens_in, all_words, all_tokens}
use Rattle.script_judge.specs.Reading.{fault}
use Rattle.script_judge.proofs.Faulted.{reading, ends_at, ends_whole}
use Rattle.script_judge.proofs.reading.fault.Goals as goal

pub returns-in_default : goal.returns-in_default
returns-in_default c =
    let read = c.args.read.now in
    let len = c.args.len in
    let roles = c.as_slice-roles.result.now in
    let ws = words_in c.list-words.result in
    let none : slice_get ws (length roles) ≡ None =
    sym c.get.ensures ∙ ap (option_map word_of) c.in_default.is in
    ends_whole len (tokens_in c.list-words.result) read.words.bad ws roles read.shape.whole
    c.end_fault.result none c.end_fault.ensures
    ∙ ap (λ ts. fault len (reading ts read.words.bad ws roles read.shape.whole))
    c.list-words.ensures.tokens
    ∙ ap (λ x. fault len (reading (all_tokens read.words) read.words.bad x roles read.shape.whole))
    c.list-words.ensures.words
    ∙ ap (λ rs. fault len (reading (all_tokens read.words) read.words.bad
    (all_words read.words) rs read.shape.whole)) c.as_slice-roles.ensures.value

pub front-requires : goal.front-requires
front-requires c =
    omega (arith, ap length c.list-words.ensures.words, ap length c.as_slice-roles.ensures.value)

pub fault_of-requires : goal.fault_of-requires
fault_of-requires c =
    omega (
      arith,
      ap length c.front.ensures.words,
      length-take (length c.as_slice-roles.result.now) (words_in c.list-words.result),
      ap length c.list-words.ensures.words,
      ap length c.as_slice-roles.ensures.value,
    )

pub at_word-requires : goal.at_word-requires
at_word-requires c =
    let roles = c.as_slice-roles.result.now in
    let ws = words_in c.list-words.result in
    let found : slice_get ws (length roles) ≡ Some (word_of c.in-Some.word) =
    sym c.get.ensures ∙ ap (option_map word_of) c.in-Some.is in
    let taken : length roles < length ws =
    slice_get_within ws (length roles) (word_of c.in-Some.word) found in
    omega (
      arith,
      c.in_ok-fault.ensures.within,
      ap length c.front.ensures.words,
      length-take (length roles) ws,
    )

pub returns : goal.returns
returns c =
    let read = c.args.read.now in
    let len = c.args.len in
    let roles = c.as_slice-roles.result.now in
    let ws = words_in c.list-words.result in
    let found : slice_get ws (length roles) ≡ Some (word_of c.in-Some.word) =
    sym c.get.ensures ∙ ap (option_map word_of) c.in-Some.is in
    ends_at len (tokens_in c.list-words.result) read.words.bad ws roles read.shape.whole
    (words_in c.front.result) (word_of c.in-Some.word)
    (option_map word_of c.get-next.result) c.in_ok-fault.fault c.at_word.result
    c.front.ensures.words found c.get-next.ensures c.in_ok-fault.ensures.fault c.at_word.ensures
    ∙ ap (λ ts. fault len (reading ts read.words.bad ws roles read.shape.whole))
    c.list-words.ensures.tokens
    ∙ ap (λ x. fault len (reading (all_tokens read.words) read.words.bad x roles read.shape.whole))
    c.list-words.ensures.words
    ∙ ap (λ rs. fault len (reading (all_tokens read.words) read.words.bad
    (all_words read.words) rs read.shape.whole)) c.as_slice-roles.ensures.value
