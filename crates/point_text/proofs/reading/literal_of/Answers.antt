use Rattle.std.specs.Prelude.{◌≡◌, Err, slice_index_or}
use Rattle.std.proofs.Common.{refl, rules}
use Rattle.script_words.specs.declared.lex.Token.{Token}
use Rattle.script_words.specs.declared.lex.TokenKind.TheVariants as kind
use Rattle.point_text.proofs.Literals.{unread_by, limited}
use Rattle.point_text.proofs.reading.literal_of.Goals as goal

pub returns-in-Err-clause-refused : goal.returns-in-Err-clause-refused
returns-in-Err-clause-refused c =
    let d : Token = record { kind = kind.Name; start = 0; end = 0 } in
    let k : (slice_index_or c.args.rest.now 0 d).kind ≡ kind.Literal = search (c, rules) in
    limited c.args.text.now c.args.rest.now d c.text_of.result.now c.args.end
    c.in-len1-up.len_at_least k c.text_of.ensures
    (unread_by c.text_of.result.now (Err c.in-Err.field-0) c.in-Err.field-0 refl
    c.in-Err.ensures.bad c.in-Err.ensures.past c.in-Err.ensures.one)
