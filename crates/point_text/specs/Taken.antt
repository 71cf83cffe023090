-- What the reading takes of the tokens that are left.
use Rattle.std.specs.Prelude.{◌≡◌, ◌≢◌, ◌⊎◌, ℕ, List, [], ◌∷◌, Option, Some, None, Bool, true}
use Rattle.std.specs.Prelude.{false, slice_get, ◌<◌}
use Rattle.fx_model.specs.declared.Literal.{Literal}
use Rattle.literal.specs.Normal.{IsReading}
use Rattle.script_words.specs.declared.class.Symbol.TheVariants as s
use Rattle.script_words.specs.declared.lex.Token.{Token}
use Rattle.script_words.specs.declared.lex.TokenKind.{TokenKind}
use Rattle.script_words.specs.declared.lex.TokenKind.TheVariants as kind
use Rattle.script_words.specs.Named.{token_text}
use Rattle.script_nodes.specs.Known.{Name}
use Rattle.point_values.specs.Rows.{Row}
use Rattle.point_text.specs.declared.fault.PointKind.TheVariants as fault
use Rattle.point_text.specs.declared.fault.PointFault.{PointFault}
use Rattle.point_text.specs.Points.{IsUnread}

-- a token of this kind, and those behind it
abbrev pub IsTaken : TokenKind → List Token → List Token → Type 0
IsTaken k [] later = ⊥
IsTaken k (t ∷ ts) later = (t.kind ≡ k) × (ts ≡ later)

-- a name, and those behind it
abbrev pub IsNameTaken : List ℕ → List Token → Name → List Token → Type 0
IsNameTaken text [] v later = ⊥
IsNameTaken text (t ∷ ts) v later = (t.kind ≡ kind.Name) × (token_text text t ≡ v) × (ts ≡ later)

-- a literal within its limits, and those behind it
abbrev pub IsLiteralTaken : List ℕ → List Token → Literal → List Token → Type 0
IsLiteralTaken text [] l later = ⊥
IsLiteralTaken text (t ∷ ts) l later = (t.kind ≡ kind.Literal) × IsReading (token_text text t) l
    × (ts ≡ later)

-- the first token is of this kind
abbrev pub HasKind : TokenKind → List Token → Type 0
HasKind k [] = ⊥
HasKind k (t ∷ ts) = t.kind ≡ k

-- a plus or a minus, if one stands here
abbrev pub IsSignTaken : List Token → Bool → List Token → Type 0
IsSignTaken rest true later = IsTaken (kind.Sign s.Minus) rest later
IsSignTaken rest false later = ((rest ≡ later) × (¬ HasKind (kind.Sign s.Plus) rest)
    × (¬ HasKind (kind.Sign s.Minus) rest)) ⊎ IsTaken (kind.Sign s.Plus) rest later

-- a slash with a literal that isn't 0, if a slash stands here
abbrev pub IsDivisorTaken : List ℕ → List Token → Option Literal → List Token → Type 0
IsDivisorTaken text rest None later = (rest ≡ later) × (¬ HasKind (kind.Sign s.Slash) rest)
IsDivisorTaken text rest (Some l) later = (mid : List Token) × IsTaken (kind.Sign s.Slash) rest mid
    × IsLiteralTaken text mid l later × (l.num ≢ 0)

-- what stands behind an entry's name, with what it says
pub record IsRowTaken (text : List ℕ) (rest : List Token) (row : Row) (later : List Token) :
    Type 0 where
  pub behind_equal : List Token
  pub behind_sign : List Token
  pub behind_number : List Token
  pub behind_divisor : List Token
  pub equal : IsTaken (kind.Sign s.Equal) rest behind_equal
  pub sign : IsSignTaken behind_equal row.0.negative behind_sign
  pub number : IsLiteralTaken text behind_sign row.0.literal behind_number
  pub divisor : IsDivisorTaken text behind_number row.1 behind_divisor
  pub semicolon : IsTaken (kind.Sign s.Semicolon) behind_divisor later

-- Name number i is the first that is v.
pub record IsFirst (variables : List Name) (v : Name) (i : ℕ) : Type 0 where
  pub there : slice_get variables i ≡ Some v
  pub before : (j : ℕ) → j < i → ¬ (slice_get variables j ≡ Some v)

-- the byte at which the first token stands
abbrev pub StartsAt : List Token → ℕ → Type 0
StartsAt [] at = ⊥
StartsAt (t ∷ ts) at = at ≡ t.start

-- ---- where nothing more is taken
-- the first token that is left is the fault, or the end
abbrev pub IsUnexpected : List Token → PointFault → PointFault → Type 0
IsUnexpected [] end f = f ≡ end
IsUnexpected (t ∷ ts) end f = f ≡ record { kind = fault.Unexpected; at = t.start }

-- a literal past its limits
abbrev pub IsLimited : List ℕ → List Token → PointFault → Type 0
IsLimited text [] f = ⊥
IsLimited text (t ∷ ts) f = (t.kind ≡ kind.Literal) × IsUnread (token_text text t)
    × (f ≡ record { kind = fault.LiteralLimit; at = t.start })

-- no literal stands here, or one past its limits
abbrev pub IsLiteralRefused : List ℕ → List Token → PointFault → PointFault → Type 0
IsLiteralRefused text rest end f = (IsUnexpected rest end f × ¬ HasKind kind.Literal rest)
    ⊎ IsLimited text rest f

-- a literal that is 0
abbrev pub IsZero : List ℕ → List Token → PointFault → Type 0
IsZero text [] f = ⊥
IsZero text (t ∷ ts) f = (l : Literal) × (t.kind ≡ kind.Literal) × IsReading (token_text text t) l
    × (l.num ≡ 0) × (f ≡ record { kind = fault.ZeroDivisor; at = t.start })

-- behind a slash stands no literal, or one past its limits, or 0
abbrev pub IsDivisorRefused : List ℕ → List Token → PointFault → PointFault → Type 0
IsDivisorRefused text [] end f = ⊥
IsDivisorRefused text (t ∷ ts) end f = (t.kind ≡ kind.Sign s.Slash)
    × (IsLiteralRefused text ts end f ⊎ IsZero text ts f)

-- What stands behind an entry's name is no row: where it stops, and why.
pub data IsRowRefused (text : List ℕ) (rest : List Token) (end f : PointFault) : Type 0 where
  no_equal : IsUnexpected rest end f → ¬ HasKind (kind.Sign s.Equal) rest
      → IsRowRefused text rest end f
  no_number : (negative : Bool) (behind_equal behind_sign : List Token)
      → IsTaken (kind.Sign s.Equal) rest behind_equal
      → IsSignTaken behind_equal negative behind_sign → IsLiteralRefused text behind_sign end f
      → IsRowRefused text rest end f
  no_divisor : (negative : Bool) (l : Literal) (behind_equal behind_sign behind_number : List Token)
      → IsTaken (kind.Sign s.Equal) rest behind_equal
      → IsSignTaken behind_equal negative behind_sign
      → IsLiteralTaken text behind_sign l behind_number
      → IsDivisorRefused text behind_number end f → IsRowRefused text rest end f
  no_semicolon :
      (negative : Bool) (l : Literal) (o : Option Literal)
      (behind_equal behind_sign behind_number behind_divisor : List Token)
      → IsTaken (kind.Sign s.Equal) rest behind_equal
      → IsSignTaken behind_equal negative behind_sign
      → IsLiteralTaken text behind_sign l behind_number
      → IsDivisorTaken text behind_number o behind_divisor → IsUnexpected behind_divisor end f
      → ¬ HasKind (kind.Sign s.Semicolon) behind_divisor → IsRowRefused text rest end f

-- no variable has this name
abbrev pub IsNoName : List Name → Name → Type 0
IsNoName variables v = (k : ℕ) → ¬ (slice_get variables k ≡ Some v)

-- A name isn't a variable's, or its row isn't one that is unset.
abbrev pub IsPlaceRefused : List Name → List (Option Row) → Name → ℕ → PointFault → Type 0
IsPlaceRefused variables rows v at f =
    (IsNoName variables v × (f ≡ record { kind = fault.Unknown; at = at }))
    ⊎ ((i : ℕ) × IsFirst variables v i × (¬ (slice_get rows i ≡ Some None))
    × (f ≡ record { kind = fault.Twice; at = at }))
