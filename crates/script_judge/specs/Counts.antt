-- What is counted token by token, and what is open.
use Rattle.std.specs.Prelude.{ℕ, ◌+◌, ◌*◌, nat_lt, not, Bool, true, false}
use Rattle.script_words.specs.declared.class.Symbol.{Symbol}
use Rattle.script_words.specs.declared.class.Symbol.TheVariants as s
use Rattle.script_words.specs.Words.{Word, name, rounding, literal, sign, is_open_brace}
use Rattle.script_shape.specs.declared.due.Due.{Due}
use Rattle.script_shape.specs.declared.due.Due.TheVariants as d
use Rattle.script_judge.specs.declared.counts.ScriptPart.{ScriptPart}
use Rattle.script_judge.specs.declared.counts.ScriptPart.TheVariants as place
use Rattle.script_judge.specs.declared.counts.Counts.{Counts}

-- 1 where the test is true
abbrev pub one_if : Bool → ℕ
one_if true = 1
one_if false = 0

-- ---- where a token stands

-- behind the first token of a proposition or a hint
abbrev pub within : ScriptPart → ScriptPart
within place.PropositionNext = place.Formula
within place.HintNext = place.Hints
within p = p

-- behind a `}`: that of the formula, or that of a hint's needs
abbrev pub place_closed : ScriptPart → ScriptPart
place_closed place.Formula = place.HintNext
place_closed p = within p

-- behind a `;`: that of a hint, or that of a definition
abbrev pub place_ended : ScriptPart → ScriptPart
place_ended place.Hints = place.HintNext
place_ended p = within p

-- behind what may be the `{` of the formula
abbrev pub place_opened : Bool → ScriptPart → ScriptPart
place_opened true p = place.PropositionNext
place_opened false p = p

-- the place behind a token; a proposition begins behind `not`
abbrev pub place_after : ScriptPart → Due → Word → ScriptPart
place_after p d.Script w = place_opened (is_open_brace w) p
place_after p d.Claim w = p
place_after p d.Connective w = place.PropositionNext
place_after p d.CloseBrace w = place_closed p
place_after p d.Semicolon w = place_ended p
place_after p r w = within p

-- ---- what a token adds

-- a definition's first token: `@`, or the name of a value
abbrev pub begins_definition : Due → Word → Bool
begins_definition d.Script w = not (is_open_brace w)
begins_definition r w = false

-- a proposition's first token, which isn't the `not` before it
abbrev pub is_first : Due → Bool
is_first d.Claim = false
is_first r = true

-- whether it is a proposition's first token
abbrev pub begins_proposition : ScriptPart → Due → Bool
begins_proposition place.PropositionNext r = is_first r
begins_proposition p r = false

-- a hint's first token
abbrev pub begins_hint : ScriptPart → Bool
begins_hint place.HintNext = true
begins_hint p = false

-- Nodes of a sign that an operand begins with. An `fma` has its product and its sum, which is
-- rounded with it.
abbrev pub sign_nodes : Bool → Symbol → ℕ
sign_nodes rounds s.Minus = 1
sign_nodes rounds s.Bar = 1
sign_nodes rounds s.Fixed = 1
sign_nodes rounds s.Int = 1
sign_nodes rounds s.Fma = 2 + one_if rounds
sign_nodes rounds g = 0

-- nodes of a token that an operand begins with
abbrev pub operand_nodes : Bool → Bool → Word → ℕ
operand_nodes rounds is_new (literal k text) = 1
operand_nodes rounds is_new (name k text) = one_if is_new
operand_nodes rounds is_new (rounding k text) = 1
operand_nodes rounds is_new (sign g) = sign_nodes rounds g

-- nodes are counted at the token that writes them, a variable where it is new
abbrev pub nodes_at : Bool → Bool → Due → Word → ℕ
nodes_at rounds is_new d.Operand w = operand_nodes rounds is_new w
nodes_at rounds is_new d.Tail w = 1 + one_if rounds
nodes_at rounds is_new r w = 0

-- the `$` of a split that stands alone
abbrev pub splits_at : Due → ℕ
splits_at d.Hints = 1
splits_at r = 0

-- the pieces that a list of points makes so far, and 0 outside one
abbrev pub pieces_begun : Word → ℕ
pieces_begun (sign s.OpenParen) = 1
pieces_begun w = 0

-- a point counts at its first token
abbrev pub pieces_after : ℕ → Due → Word → ℕ
pieces_after n d.Cut w = pieces_begun w
pieces_after n d.Bound w = n + one_if (nat_lt 0 n)
pieces_after n d.Semicolon w = 0
pieces_after n r w = n

-- ---- cases: those of the parts that have ended, and the conjunctions begun in the part in hand

-- a `\/` between propositions
abbrev pub is_disjunction : Due → Word → Bool
is_disjunction d.Connective (sign s.Or) = true
is_disjunction r w = false

-- `->` ends a part, whose conjunctions multiply the cases
abbrev pub cases_after : ℕ → ℕ → Due → Word → ℕ
cases_after n m d.Connective (sign s.Arrow) = n * m
cases_after n m r w = n

-- a part begins with one conjunction, and `\/` begins one more
abbrev pub conjunctions_after : ℕ → Due → Word → ℕ
conjunctions_after m d.Connective (sign s.Arrow) = 1
conjunctions_after m r w = m + one_if (is_disjunction r w)

-- ---- whether operations are rounded by the definition, and whether split variables are halved for
-- goals

-- the `=` of a definition
abbrev pub is_equal_sign : Word → Bool
is_equal_sign (sign s.Equal) = true
is_equal_sign w = false

-- an operator before the `=` rounds the operations up to the `;`
abbrev pub rounds_after : Bool → Due → Word → Bool
rounds_after old d.DefinedBy w = not (is_equal_sign w)
rounds_after old d.Semicolon w = false
rounds_after old r w = old

-- a hint that begins with an expression halves variables, one that begins with `$` splits
abbrev pub halves_after : Bool → Due → Bool
halves_after old d.Hints = false
halves_after old d.HintRest = true
halves_after old d.GoalSplit = true
halves_after old r = old

-- the counts behind a token, each with its own rule
abbrev pub counts_after : Counts → Bool → Due → Word → Counts
counts_after c is_new r w = record {
  place = place_after c.place r w;
  rounds = rounds_after c.rounds r w;
  halves = halves_after c.halves r;
  definitions = c.definitions + one_if (begins_definition r w);
  propositions = c.propositions + one_if (begins_proposition c.place r);
  hints = c.hints + one_if (begins_hint c.place);
  nodes = c.nodes + nodes_at c.rounds is_new r w;
  splits = c.splits + splits_at r;
  pieces = pieces_after c.pieces r w;
  cases = cases_after c.cases c.conjunctions r w;
  conjunctions = conjunctions_after c.conjunctions r w;
}
