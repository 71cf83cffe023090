-- What definitions add to what is known, word by word.
use Rattle.std.specs.Prelude.{◌≡◌, List, [], ◌∷◌, ◌++◌, Option, Some, None, Bool, false}
use Rattle.std.specs.Prelude.{if◌then◌else◌}
use Rattle.fx_model.specs.declared.Rounding.{Rounding}
use Rattle.script_words.specs.declared.class.Symbol.TheVariants as s
use Rattle.script_words.specs.Words.{Word, name, rounding, sign, is_open_brace}
use Rattle.script_shape.specs.declared.due.Due.{Due}
use Rattle.script_shape.specs.declared.due.Due.TheVariants as d
use Rattle.script_shape.specs.Tree.{Definition, Script}
use Rattle.script_shape.specs.Roles.{Leaf, definition_leaves, script_leaves}
use Rattle.script_nodes.specs.Known.{Name, Known, nothing_known, no_rounding, operator_named}
use Rattle.script_nodes.specs.declared.waits.Waits.{Waits}
use Rattle.script_nodes.specs.declared.waits.Waits.TheVariants as wait
use Rattle.script_nodes.specs.Waits.{Reading, Complete, expr_done, then_waits, read}
use Rattle.script_nodes.specs.Definitions.{with_value, with_operator, definition_value}
use Rattle.script_nodes.specs.Definitions.{definitions_value}

-- the name whose definition is being read, what rounds its operations, and how far its expression
-- is read
pub record Defining : Type 0 where
  pub name : Option Name
  pub rounds : Option Rounding
  pub reading : Reading

-- between definitions
abbrev pub between : Known → Defining
between k = record { name = None; rounds = None; reading = record { known = k; waits = [] } }

-- ---- the name, and what rounds the operations

-- the name that a word gives
abbrev pub named_by : Word → Option Name
named_by (name k text) = Some text
named_by (rounding k text) = Some text
named_by w = None

-- the same with the word's name
abbrev pub with_name : Defining → Word → Defining
with_name p w = record { name = named_by w; rounds = p.rounds; reading = p.reading }

-- the same with this rounding, and this reading
abbrev pub with_rounds : Defining → Rounding → Reading → Defining
with_rounds p r reading = record { name = p.name; rounds = Some r; reading = reading }

-- the same with this reading
abbrev pub with_reading : Defining → Reading → Defining
with_reading p r = record { name = p.name; rounds = p.rounds; reading = r }

-- an operator begins
abbrev pub operator_begun : Word → Reading → Reading
operator_begun (sign s.Fixed) r = then_waits (wait.Operator no_rounding) r
operator_begun (sign s.Int) r = then_waits (wait.Operator no_rounding) r
operator_begun w r = r

-- a named operator rounds the operations; the word of a written one begins it
abbrev pub defined_by : Defining → Word → Defining
defined_by p (rounding k text) = with_rounds p (operator_named p.reading.known text) p.reading
defined_by p w = with_reading p (operator_begun w p.reading)

-- an operator ends before its `=`
abbrev pub operator_closed : Defining → List Waits → Defining
operator_closed p (wait.Operator r ∷ ws) =
    with_rounds p r (record { known = p.reading.known; waits = ws })
operator_closed p ws = p

-- ---- the end

-- the name gets the finished expression's value, where there is one
abbrev pub value_joined : Name → Reading → Option Complete → Reading
value_joined text r (Some c) = record { known = with_value text c.0; waits = c.1 }
value_joined text r None = r

-- an operator that was read waits as a call does
abbrev pub joined : Option Rounding → Name → Reading → List Waits → Reading
joined q text r (wait.Call o ∷ ws) = record { known = with_operator text o r.known; waits = ws }
joined q text r ws = value_joined text r (expr_done q r ws)

-- the name, where there is one, gets the operator or the value that was read
abbrev pub name_joined : Option Rounding → Option Name → Reading → Reading
name_joined q (Some text) r = joined q text r r.waits
name_joined q None r = r

-- the definition is made, and none is begun
abbrev pub ended : Defining → Defining
ended p = record { name = None; rounds = None; reading = name_joined p.rounds p.name p.reading }

-- ---- words, by their roles

-- what stands behind a word
unfoldable pub define_word : Due → Word → Defining → Defining
define_word d.Script w p = with_name p w
define_word d.NewName w p = with_name p w
define_word d.DefinedBy w p = defined_by p w
define_word d.Operator w p = with_reading p (operator_begun w p.reading)
define_word d.CloseOperator w p = operator_closed p p.reading.waits
define_word d.Semicolon w p = ended p
define_word r w p = with_reading p (read p.rounds r w p.reading)

-- whether the brace comes with which the formula begins
abbrev pub opens_formula : Due → Word → Bool
opens_formula d.Script w = is_open_brace w
opens_formula r w = false

-- up to the formula
unfoldable pub define_all : List Leaf → Defining → Defining
define_all [] p = p
define_all (l ∷ ls) p =
    if opens_formula l.role l.word then p else define_all ls (define_word l.role l.word p)

-- what the words from a script's begin make known
abbrev pub read_from_start : List Leaf → Defining
read_from_start leaves = define_all leaves (between nothing_known)

-- Whatever is known and whatever follows, the words of a definition are read as its tree.
abbrev pub ReadsDefinition : Type 0
ReadsDefinition = (x : Definition) (rest : List Leaf) (k : Known)
    → define_all (definition_leaves x ++ rest) (between k)
    ≡ define_all rest (between (definition_value x k))

-- Reading the words of a script up to its formula gives what its definitions add to nothing.
abbrev pub ReadsDefinitions : Type 0
ReadsDefinitions = (tree : Script)
    → read_from_start (script_leaves tree) ≡ between (definitions_value tree nothing_known)
