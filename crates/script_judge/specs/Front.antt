-- What the definitions and the formula of a script say, word by word.
use Rattle.std.specs.Prelude.{◌≡◌, List, [], ◌∷◌, ◌++◌, Option, Some, None, Bool, true, false}
use Rattle.std.specs.Prelude.{if◌then◌else◌}
use Rattle.fx_model.specs.declared.Node.{Node}
use Rattle.script_words.specs.declared.class.Symbol.TheVariants as s
use Rattle.script_words.specs.Words.{Word, sign}
use Rattle.script_shape.specs.declared.due.Due.{Due}
use Rattle.script_shape.specs.declared.due.Due.TheVariants as d
use Rattle.script_shape.specs.Tree.{Script, formula, define}
use Rattle.script_shape.specs.Roles.{Leaf, at, definition_leaves, formula_leaves}
use Rattle.script_nodes.specs.Known.{nothing_known}
use Rattle.script_nodes.specs.Waits.{Reading}
use Rattle.script_nodes.specs.Defining.{Defining, between, define_word, opens_formula}
use Rattle.script_claims.specs.Claims.{Sides, no_sides}
use Rattle.script_claims.specs.Reads.{State, state_of, from_claims, read_claim}
use Rattle.script_judge.specs.Said.{Said, claims_behind}

-- how far they are read: in the definitions, in the formula, or behind its `}`
pub data Front : Type 0 where
  defining : Defining → Front
  claiming : State → Front
  ended : Reading → Sides → Front

-- before the first word
abbrev pub no_front : Front
no_front = defining (between nothing_known)

-- the brace that closes the formula
abbrev pub closes_formula : Due → Bool
closes_formula d.CloseBrace = true
closes_formula r = false

-- behind the `}` of the formula
abbrev pub front_closed : State → Front
front_closed st = ended st.reading st.sides

-- how far they are read behind a word
unfoldable pub front_after : Due → Word → Front → Front
front_after r w (defining p) = if opens_formula r w then claiming (state_of p.reading no_sides)
    else defining (define_word r w p)
front_after r w (claiming st) =
    if closes_formula r then front_closed (read_claim r w st) else claiming (read_claim r w st)
front_after r w (ended x sides) = ended x sides

-- how far they are read behind these words, one after the other
unfoldable pub read_front : List Leaf → Front → Front
read_front [] f = f
read_front (l ∷ ls) f = read_front ls (front_after l.role l.word f)

-- what a formula with these sides says
abbrev pub said_of : Reading → Sides → Said
said_of r sides = record { known = r.known; parts = sides.parts.before }

-- what they say, once the formula has ended
abbrev pub front_said : Front → Option Said
front_said (defining p) = None
front_said (claiming st) = None
front_said (ended x sides) = Some (said_of x sides)

-- what leaves say, read one after the other
abbrev pub said_in : List Leaf → Option Said
said_in leaves = front_said (read_front leaves no_front)

-- the nodes so far
abbrev pub front_nodes : Front → List Node
front_nodes (defining p) = p.reading.known.nodes
front_nodes (claiming st) = st.reading.known.nodes
front_nodes (ended x sides) = x.known.nodes

-- ---- the same by recursion on the tree

-- the leaves of a script up to the `}` of its formula
abbrev pub front_leaves : Script → List Leaf
front_leaves (formula f h) = at d.Script (sign s.OpenBrace)
    ∷ (formula_leaves f ++ (at d.CloseBrace (sign s.CloseBrace) ∷ []))
front_leaves (define x rest) = definition_leaves x ++ front_leaves rest

-- Whatever follows, the words of definitions and a formula say what their tree does.
abbrev pub ReadsFronts : Type 0
ReadsFronts = (tree : Script) (rest : List Leaf) → read_front (front_leaves tree ++ rest) no_front
    ≡ front_closed (from_claims (claims_behind tree nothing_known))
