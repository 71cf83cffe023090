-- What the reading has gathered of a text's tokens.
use Rattle.std.specs.Prelude.{◌≡◌, ◌≢◌, ℕ, List, [], ◌++◌, length, slice_get, Option, Some, None}
use Rattle.script_words.specs.declared.lex.Token.{Token}
use Rattle.script_words.specs.declared.lex.TokenKind.TheVariants as kind
use Rattle.script_nodes.specs.Known.{Name}
use Rattle.point_values.specs.Rows.{Row}
use Rattle.point_text.specs.Points.{parts_of, Entry, entries_parts, IsRowOf}
use Rattle.point_text.specs.Taken.{IsFirst, IsNameTaken, StartsAt, HasKind, IsUnexpected}
use Rattle.point_text.specs.Taken.{IsPlaceRefused, IsRowRefused}
use Rattle.point_text.specs.declared.fault.PointFault.{PointFault}
use Rattle.point_text.specs.declared.fault.PointKind.TheVariants as fault

-- The tokens before those that are left are entries, no two of one variable, and the rows that are
-- set are theirs.
pub record Gathering (variables : List Name) (text : List ℕ) (tokens rest : List Token) (rows :
    List (Option Row)) : Type 0 where
  pub before : List Token
  pub split : tokens ≡ before ++ rest
  pub entries : List Entry
  pub parts : parts_of text before ≡ entries_parts entries
  pub count : length rows ≡ length variables
  pub set : (k : ℕ) (e : Entry) → slice_get entries k ≡ Some e
      → (i : ℕ) × (row : Row) × (slice_get rows i ≡ Some (Some row))
      × IsFirst variables e.variable i
  pub said : (i : ℕ) (row : Row) → slice_get rows i ≡ Some (Some row)
      → (k : ℕ) × (e : Entry) × (slice_get entries k ≡ Some e) × IsFirst variables e.variable i
      × IsRowOf e row
  pub once : (j k : ℕ) (d e : Entry) → slice_get entries j ≡ Some d → slice_get entries k ≡ Some e
      → d.variable ≡ e.variable → j ≡ k

-- The reading has gathered these rows from the tokens before those that are left.
pub data Gathered (variables : List Name) (text : List ℕ) (tokens rest : List Token) (rows :
    List (Option Row)) : Type 0 where
  gathered : Gathering variables text tokens rest rows → Gathered variables text tokens rest rows

-- a row that isn't set
abbrev pub IsUnset : Option Row → Type 0
IsUnset None = Unit {0}
IsUnset (Some row) = ⊥

-- Behind what has been gathered stands no entry: where it stops, and why.
pub data RowsRefused (variables : List Name) (text : List ℕ) (tokens : List Token) (end f :
    PointFault) : Type 0 where
  no_name : (rest : List Token) (rows : List (Option Row))
      → Gathered variables text tokens rest rows
      → rest ≢ [] → IsUnexpected rest end f → ¬ HasKind kind.Name rest
      → RowsRefused variables text tokens end f
  no_place : (rest mid : List Token) (rows : List (Option Row)) (v : Name) (at : ℕ)
      → Gathered variables text tokens rest rows → IsNameTaken text rest v mid → StartsAt rest at
      → IsPlaceRefused variables rows v at f → RowsRefused variables text tokens end f
  no_row : (rest mid : List Token) (rows : List (Option Row)) (v : Name) (place : ℕ)
      → Gathered variables text tokens rest rows → IsNameTaken text rest v mid
      → IsFirst variables v place → slice_get rows place ≡ Some None → IsRowRefused text mid end f
      → RowsRefused variables text tokens end f

-- a row that isn't set, and the fault at the text's end
pub record IsMissing (rows : List (Option Row)) (len : ℕ) (f : PointFault) : Type 0 where
  pub place : ℕ
  pub unset : slice_get rows place ≡ Some None
  pub fault : f ≡ record { kind = fault.Missing; at = len }
