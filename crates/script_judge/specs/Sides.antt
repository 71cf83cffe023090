-- The sides of the formula, and what `not` may stand before.
use Rattle.std.specs.Prelude.{List, [], ◌∷◌, Bool, true, false}
use Rattle.std.specs.List.{list_any}
use Rattle.script_words.specs.declared.class.Symbol.TheVariants as s
use Rattle.script_words.specs.Words.{Word, sign}
use Rattle.script_shape.specs.declared.due.Due.{Due}
use Rattle.script_shape.specs.declared.due.Due.TheVariants as d
use Rattle.script_shape.specs.Roles.{Leaf}

-- a `->` of the formula
abbrev pub is_arrow : Due → Word → Bool
is_arrow d.Connective (sign s.Arrow) = true
is_arrow r w = false

-- the `\/` of the formula
abbrev pub is_or : Word → Bool
is_or (sign s.Or) = true
is_or w = false

-- one of these tokens is such a `->`
abbrev pub has_arrow : List Leaf → Bool
has_arrow leaves = list_any (λ l. is_arrow l.role l.word) leaves

-- ---- what `not` may stand before

-- `<=` or `>=`
abbrev pub is_bound_sign : Word → Bool
is_bound_sign (sign s.LessEqual) = true
is_bound_sign (sign s.GreaterEqual) = true
is_bound_sign w = false

-- what a token tells of the proposition that it stands in: `@` that it is a multiple, the sign
-- behind its first expression whether it is a bound, and others nothing
abbrev pub told_bound : Due → Word → Bool → Bool
told_bound d.Prop w later = false
told_bound d.Relation w later = is_bound_sign w
told_bound r w later = later

-- The proposition that begins with these tokens is `e <= n` or `e >= n`.
abbrev pub begins_bound : List Leaf → Bool
begins_bound [] = false
begins_bound (l ∷ ls) = told_bound l.role l.word (begins_bound ls)
