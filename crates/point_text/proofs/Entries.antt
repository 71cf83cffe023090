-- What is taken of the tokens is an entry.
use Rattle.std.specs.Prelude.{◌≡◌, ℕ, List, [], ◌∷◌, ◌++◌, Option, Some, None, Bool, true, false}
use Rattle.std.specs.Prelude.{refl}
use Rattle.std.proofs.Common.{sym, ap, ◌∙◌, inl, inr, append_assoc, append-nil}
use Rattle.fx_model.specs.declared.Literal.{Literal}
use Rattle.literal.specs.Normal.{IsReading}
use Rattle.script_words.specs.declared.class.Symbol.TheVariants as s
use Rattle.script_words.specs.declared.lex.Token.{Token}
use Rattle.script_words.specs.declared.lex.TokenKind.{TokenKind}
use Rattle.script_words.specs.declared.lex.TokenKind.TheVariants as kind
use Rattle.script_words.specs.Named.{token_text}
use Rattle.point_values.specs.Rows.{Row}
use Rattle.point_text.specs.Points.{Part, name, literal, equal, plus, minus, slash, semicolon}
use Rattle.point_text.specs.Points.{part_of, parts_of, Mark, unmarked, with_plus, with_minus, Entry}
use Rattle.point_text.specs.Points.{mark_parts, divisor_parts, entry_parts, entries_parts, is_minus}
use Rattle.point_text.specs.Points.{IsDivisorOf, IsRowOf}
use Rattle.point_text.specs.Taken.{IsTaken, IsLiteralTaken, IsSignTaken, IsDivisorTaken, IsRowTaken}

sign_part : (text : List ℕ) (p : Part) (k : TokenKind) → ((bs : List ℕ) → part_of k bs ≡ p)
    → (rest later : List Token) → IsTaken k rest later → parts_of text rest
    ≡ p ∷ parts_of text later
sign_part text p k f [] later h = absurd h
sign_part text p k f (t ∷ ts) later h =
    ap (λ q. q ∷ parts_of text ts) (ap (λ j. part_of j (token_text text t)) h.0
    ∙ f (token_text text t)) ∙ ap (λ us. p ∷ parts_of text us) h.1

literal_part : (text : List ℕ) (rest : List Token) (l : Literal) (later : List Token)
    → IsLiteralTaken text rest l later → (digits : List ℕ)
    × (parts_of text rest ≡ literal digits ∷ parts_of text later) × IsReading digits l
literal_part text [] l later h = absurd h
literal_part text (t ∷ ts) l later h = (
  token_text text t,
  ap (λ q. q ∷ parts_of text ts) (ap (λ j. part_of j (token_text text t)) h.0)
      ∙ ap (λ us. literal (token_text text t) ∷ parts_of text us) h.2,
  h.1,
)

mark_part : (text : List ℕ) (rest : List Token) (b : Bool) (later : List Token)
    → IsSignTaken rest b later
    → (m : Mark) × (parts_of text rest ≡ mark_parts m ++ parts_of text later) × (b ≡ is_minus m)
mark_part text rest true later h =
    (with_minus, sign_part text minus (kind.Sign s.Minus) (λ bs. refl) rest later h, refl)
mark_part text rest false later h = elim h [
  | inl e ↦ (unmarked, ap (parts_of text) e.0, refl)
  | inr p ↦ (with_plus, sign_part text plus (kind.Sign s.Plus) (λ bs. refl) rest later p, refl)
]

divisor_part : (text : List ℕ) (rest : List Token) (o : Option Literal) (later : List Token)
    → IsDivisorTaken text rest o later → (d : Option (List ℕ))
    × (parts_of text rest ≡ divisor_parts d ++ parts_of text later) × IsDivisorOf d o
divisor_part text rest None later h = (None, ap (parts_of text) h.0, tt)
divisor_part text rest (Some l) later h =
    let q = literal_part text h.0 l later h.2 in (
      Some q.0,
      sign_part text slash (kind.Sign s.Slash) (λ bs. refl) rest h.0 h.1
          ∙ ap (λ ps. slash ∷ ps) q.1,
      (q.2, h.3),
    )

pub joined : (m : Mark) (n : List ℕ) (d : Option (List ℕ)) (ps : List Part)
    → mark_parts m ++ (literal n ∷ (divisor_parts d ++ (semicolon ∷ ps)))
    ≡ (mark_parts m ++ (literal n ∷ (divisor_parts d ++ (semicolon ∷ [])))) ++ ps
joined unmarked n None ps = refl
joined unmarked n (Some d) ps = refl
joined with_plus n None ps = refl
joined with_plus n (Some d) ps = refl
joined with_minus n None ps = refl
joined with_minus n (Some d) ps = refl

pub entry_taken : (text : List ℕ) (t : Token) (rest : List Token) (row : Row) (later : List Token)
    → t.kind ≡ kind.Name → IsRowTaken text rest row later
    → (e : Entry) × (e.variable ≡ token_text text t)
    × (parts_of text (t ∷ rest) ≡ entry_parts e ++ parts_of text later) × IsRowOf e row
entry_taken text t rest row later k r =
    let m = mark_part text r.behind_equal row.0.negative r.behind_sign r.sign in
    let n = literal_part text r.behind_sign row.0.literal r.behind_number r.number in
    let d = divisor_part text r.behind_number row.1 r.behind_divisor r.divisor in
    let v = token_text text t in (
      record { variable = v; mark = m.0; number = n.0; divisor = d.0 },
      refl,
      ap (λ q. q ∷ parts_of text rest) (ap (λ j. part_of j v) k)
          ∙ ap (λ ps. name v ∷ ps) (sign_part text equal (kind.Sign s.Equal) (λ bs. refl) rest
          r.behind_equal r.equal)
          ∙ ap (λ ps. name v ∷ (equal ∷ ps)) (m.1
          ∙ ap (λ ps. mark_parts m.0 ++ ps) (n.1
          ∙ ap (λ ps. literal n.0 ∷ ps) (d.1
          ∙ ap (λ ps. divisor_parts d.0 ++ ps) (sign_part text semicolon (kind.Sign s.Semicolon)
          (λ bs. refl) r.behind_divisor later r.semicolon)))
          ∙ joined m.0 n.0 d.0 (parts_of text later)),
      record { sign = m.2; number = n.2; divisor = d.2 },
    )

pub entries_push : (es : List Entry) (e : Entry) → entries_parts (es ++ (e ∷ [])) ≡ entries_parts es
    ++ entry_parts e
entries_push [] e = append-nil (entry_parts e)
entries_push (d ∷ es) e = ap (λ ps. entry_parts d ++ ps) (entries_push es e)
    ∙ sym (append_assoc (entry_parts d) (entries_parts es) (entry_parts e))
