use Rattle.std.proofs.Common.{◌≡◌, length, ap, arith}
use Rattle.std.proofs.lemmas.List.{length-reverse}
use Rattle.script_words.specs.Named.{word_of}
use Rattle.script_judge.proofs.Turns.{limit_told}
use Rattle.script_judge.proofs.judge.limit_refusal.Goals as goal

pub returns : goal.returns
returns c = λ stands h.
    let opened : c.len.result ≡ length stands.opened =
    omega (arith, ap length h.opened, length-reverse c.args.seen.now.opened.items) in
    limit_told stands c.args.role (word_of c.args.word) c.len.result c.halved.result
    c.args.seen.now.counts c.is_past_lsb.result c.is_past_pieces.result
    c.limit_kind.result opened (c.halved.ensures stands.names h.names)
    h.counts c.is_past_lsb.ensures c.is_past_pieces.ensures c.limit_kind.ensures
