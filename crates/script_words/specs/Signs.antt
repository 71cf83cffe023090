-- The signs and the reserved words, as their bytes.
use Rattle.std.specs.Prelude.{ℕ, ◌==◌, ◌&&◌, codes, List, [], ◌∷◌, Option, Some, None}
use Rattle.std.specs.Prelude.{if◌then◌else◌}
use Rattle.std.specs.Str.{bytes_eq}
use Rattle.script_words.specs.declared.class.Symbol.{Symbol}
use Rattle.script_words.specs.declared.class.Symbol.TheVariants as s

-- the signs of one byte: `{ } ( ) [ ] , ; = + - * / | < > ? $ ~ @`
abbrev pub single_sign : ℕ → Option Symbol
single_sign b =
    if b == 123 then Some s.OpenBrace
    else if b == 125 then Some s.CloseBrace
    else if b == 40 then Some s.OpenParen
    else if b == 41 then Some s.CloseParen
    else if b == 91 then Some s.OpenBracket
    else if b == 93 then Some s.CloseBracket
    else if b == 44 then Some s.Comma
    else if b == 59 then Some s.Semicolon
    else if b == 61 then Some s.Equal
    else if b == 43 then Some s.Plus
    else if b == 45 then Some s.Minus
    else if b == 42 then Some s.Star
    else if b == 47 then Some s.Slash
    else if b == 124 then Some s.Bar
    else if b == 60 then Some s.Less
    else if b == 62 then Some s.Greater
    else if b == 63 then Some s.Ask
    else if b == 36 then Some s.Dollar
    else if b == 126 then Some s.Tilde
    else if b == 64 then Some s.At
    else None

-- the signs of two bytes: `<=` `>=` `<>` `->` `-/` `/\` `\/`
abbrev pub double_sign : ℕ → ℕ → Option Symbol
double_sign a b =
    if a == 60 && b == 61 then Some s.LessEqual
    else if a == 62 && b == 61 then Some s.GreaterEqual
    else if a == 60 && b == 62 then Some s.Unequal
    else if a == 45 && b == 62 then Some s.Arrow
    else if a == 45 && b == 47 then Some s.Against
    else if a == 47 && b == 92 then Some s.And
    else if a == 92 && b == 47 then Some s.Or
    else None

-- the first of two signs, with its length, that there is
abbrev pub longer_sign : Option Symbol → Option Symbol → Option (Symbol × ℕ)
longer_sign (Some g) other = Some (g, 2)
longer_sign None (Some g) = Some (g, 1)
longer_sign None None = None

-- the longest sign at the front, with its length
abbrev pub sign_at : List ℕ → Option (Symbol × ℕ)
sign_at [] = None
sign_at (a ∷ []) = longer_sign None (single_sign a)
sign_at (a ∷ (b ∷ bs)) = longer_sign (double_sign a b) (single_sign a)

-- the reserved words
abbrev pub reserved_word : List ℕ → Option Symbol
reserved_word w =
    if bytes_eq w (codes "in") then Some s.In
    else if bytes_eq w (codes "not") then Some s.Not
    else if bytes_eq w (codes "fixed") then Some s.Fixed
    else if bytes_eq w (codes "int") then Some s.Int
    else if bytes_eq w (codes "fma") then Some s.Fma
    else if bytes_eq w (codes "float") then Some s.Float
    else if bytes_eq w (codes "sqrt") then Some s.Sqrt
    else None
