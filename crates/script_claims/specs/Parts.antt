-- What signs, bounds and whole numbers make of a proposition that is being read.
use Rattle.std.specs.Prelude.{⊤, pos, neg_ℤ, true, false, Some, None}
use Rattle.fx_model.specs.declared.ExprId.{ExprId}
use Rattle.literal_order.specs.declared.written.Written.{Written}
use Rattle.literal_order.specs.Values.{IsWritten}
use Rattle.script_words.specs.declared.class.Symbol.{Symbol}
use Rattle.script_words.specs.declared.class.Symbol.TheVariants as s
use Rattle.script_words.specs.Words.{Word, literal, sign}
use Rattle.script_shape.specs.declared.due.Due.{Due}
use Rattle.script_shape.specs.declared.due.Due.TheVariants as d
use Rattle.script_nodes.specs.Literals.{literal_of}
use Rattle.script_claims.specs.declared.claim.Claim.TheVariants as claim
use Rattle.script_claims.specs.Claims.{exponent_size}
use Rattle.script_claims.specs.Facts.{HasNormalBounds}
use Rattle.script_claims.specs.declared.proposition.Proposition.{Proposition}
use Rattle.script_claims.specs.declared.part.Part.{Part}
use Rattle.script_claims.specs.declared.part.Part.TheVariants.{Nothing, Against, In, RelativeIn}
use Rattle.script_claims.specs.declared.part.Part.TheVariants.{AtMost, AtLeast, From, RelativeFrom}
use Rattle.script_claims.specs.declared.part.Part.TheVariants.{Made}

-- the sign behind the first expression
abbrev pub sign_behind : Symbol → ExprId → Part → Part
sign_behind s.In x p = In x
sign_behind s.Against x p = Against x
sign_behind s.LessEqual x p = AtMost x
sign_behind s.GreaterEqual x p = AtLeast x
sign_behind g x p = p

-- What the word between an expression and its bounds makes of the part; a word that is no sign
-- changes nothing.
abbrev pub relation_behind : Word → ExprId → Part → Part
relation_behind (sign g) x p = sign_behind g x p
relation_behind w x p = p

-- `in` behind the second expression
abbrev pub in_behind : ExprId → Part → Part
in_behind y (Against x) = RelativeIn x y
in_behind y p = p

-- `?`
abbrev pub questioned : Part → Part
questioned (In x) = Made (claim.Asked x)
questioned (RelativeIn x y) = Made (claim.RelativeAsked x y)
questioned p = p

-- What the word that opens a range makes of the part: `?` ends it as a question, and others leave
-- it.
abbrev pub range_opened : Word → Part → Part
range_opened (sign s.Ask) p = questioned p
range_opened w p = p

-- a bound, which is the first or the second of its range
abbrev pub bounded : Written → Part → Part
bounded b (AtMost x) = Made (claim.Bounded x None (Some b))
bounded b (AtLeast x) = Made (claim.Bounded x (Some b) None)
bounded b (In x) = From x b
bounded b (From x a) = Made (claim.Bounded x (Some a) (Some b))
bounded b (RelativeIn x y) = RelativeFrom x y b
bounded b (RelativeFrom x y a) = Made (claim.Relative x y a b)
bounded b p = p

-- ---- propositions

-- before the first word
abbrev pub nothing_read : Proposition
nothing_read = record { part = Nothing; exponent = pos 0; negative = false; denied = false }

-- a bound, or the sign before it
abbrev pub bound_read : Word → Proposition → Proposition
bound_read (literal k text) p =
    record p { part = bounded (record { literal = literal_of text; negative = false }) p.part }
bound_read (sign s.Plus) p = record p { negative = false }
bound_read (sign s.Minus) p = record p { negative = true }
bound_read w p = p

-- the literal behind a sign
abbrev pub magnitude_read : Word → Proposition → Proposition
magnitude_read (literal k text) p =
    record p { part = bounded (record { literal = literal_of text; negative = p.negative }) p.part }
magnitude_read w p = p

-- The proposition with the whole number that the literal writes as its exponent, 1025 at most;
-- another word changes nothing.
abbrev pub whole_read : Word → Proposition → Proposition
whole_read (literal k text) p = record p { exponent = pos (exponent_size text) }
whole_read w p = p

-- digits behind a minus
abbrev pub opposite_read : Word → Proposition → Proposition
opposite_read (literal k text) p = record p { exponent = neg_ℤ (pos (exponent_size text)) }
opposite_read w p = p

-- a word that ends no expression, by its role
abbrev pub proposition_read : Due → Word → Proposition → Proposition
proposition_read d.Range w p = record p { part = range_opened w p.part }
proposition_read d.Bound w p = bound_read w p
proposition_read d.Magnitude w p = magnitude_read w p
proposition_read d.Whole w p = whole_read w p
proposition_read d.WholeDigits w p = opposite_read w p
proposition_read d.Claim w p = record p { denied = true }
proposition_read _ w p = p

-- ---- what the code keeps

-- the bounds that are there have literals in normal form
abbrev pub IsNormalPart : Part → Type 0
IsNormalPart (From x a) = IsWritten (Some a)
IsNormalPart (RelativeFrom x y a) = IsWritten (Some a)
IsNormalPart (Made c) = HasNormalBounds c
IsNormalPart _ = ⊤
