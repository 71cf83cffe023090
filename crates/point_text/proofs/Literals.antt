-- Literals that are refused.
use Rattle.std.specs.Prelude.{◌≡◌, ◌↔◌, ℕ, ◌≤◌, List, [], ◌∷◌, length, slice_index_or, refl}
use Rattle.std.specs.declared.result.Result.{Result}
use Rattle.std.specs.declared.result.Result.TheVariants.{Err}
use Rattle.std.proofs.Common.{ap, subst, inr, arith}
use Rattle.fx_model.specs.declared.Literal.{Literal}
use Rattle.literal.specs.Spelling.{Spelling, Spells, IsLiteral, IsWithin}
use Rattle.literal.specs.Normal.{IsPastLimits}
use Rattle.literal.specs.declared.reading.LiteralFault.{LiteralFault}
use Rattle.literal.specs.declared.reading.LiteralFault.TheVariants as fault
use Rattle.script_words.specs.declared.lex.Token.{Token}
use Rattle.script_words.specs.declared.lex.TokenKind.TheVariants as token_kind
use Rattle.script_words.specs.Named.{token_text}
use Rattle.point_text.specs.declared.fault.PointKind.TheVariants as kind
use Rattle.point_text.specs.declared.fault.PointFault.{PointFault}
use Rattle.point_text.specs.Points.{IsUnread}
use Rattle.point_text.specs.Taken.{IsLiteralTaken, StartsAt, IsLiteralRefused, IsZero}

pub unread_by : (digits : List ℕ) (r : Result Literal LiteralFault) (e : LiteralFault) → r ≡ Err e
    → ((r ≡ Err fault.BadLiteral) ↔ (¬ IsLiteral digits))
    → ((r ≡ Err fault.LiteralLimit) ↔ IsPastLimits digits)
    → ((x y : Spelling) → Spells digits x → Spells digits y → x ≡ y) → IsUnread digits
unread_by digits r fault.BadLiteral h b p once = λ l i. b.0 h (i.spelling, i.spells)
unread_by digits r fault.LiteralLimit h b p once = λ l i.
    let w = p.0 h in
    w.beyond (subst IsWithin (once i.spelling w.spelling i.spells w.spells) i.within)

pub limited : (text : List ℕ) (rest : List Token) (d : Token) (digits : List ℕ) (end : PointFault)
    → 1 ≤ length rest → (slice_index_or rest 0 d).kind ≡ token_kind.Literal
    → digits ≡ token_text text (slice_index_or rest 0 d) → IsUnread digits
    → IsLiteralRefused text rest end
    (record { kind = kind.LiteralLimit; at = (slice_index_or rest 0 d).start })
limited text [] d digits end l k e u = absurd (omega arith)
limited text (t ∷ ts) d digits end l k e u = inr (k, subst IsUnread e u, refl)

pub zero_refused : (text : List ℕ) (ts : List Token) (l : Literal) (later : List Token) (at : ℕ)
    → IsLiteralTaken text ts l later → StartsAt ts at → l.num ≡ 0
    → IsZero text ts (record { kind = kind.ZeroDivisor; at = at })
zero_refused text [] l later at h s z = absurd h
zero_refused text (t ∷ ts) l later at h s z = (
  l,
  h.0,
  h.1,
  z,
  ap (λ (a : ℕ). let f : PointFault = record { kind = kind.ZeroDivisor; at = a } in f) s,
)
