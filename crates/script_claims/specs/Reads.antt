-- The claims of a formula, word by word from the left.
use Rattle.std.specs.Prelude.{◌≡◌, ◌≤◌, List, [], ◌∷◌, ◌++◌, Option, Some, None}
use Rattle.fx_model.specs.declared.ExprId.{ExprId}
use Rattle.script_words.specs.declared.class.Symbol.TheVariants as s
use Rattle.script_words.specs.Words.{Word, sign}
use Rattle.script_shape.specs.declared.due.Due.{Due}
use Rattle.script_shape.specs.declared.due.Due.TheVariants as d
use Rattle.script_shape.specs.Propositions.{Formula}
use Rattle.script_shape.specs.Roles.{Leaf, at, formula_leaves}
use Rattle.script_nodes.specs.Known.{Known}
use Rattle.script_nodes.specs.Waits.{Reading, Complete, expr_done, read}
use Rattle.script_nodes.specs.Growth.{node_count}
use Rattle.script_claims.specs.declared.claim.Claim.TheVariants.{Multiple}
use Rattle.script_claims.specs.declared.proposition.Proposition.{Proposition}
use Rattle.script_claims.specs.declared.part.Part.{Part}
use Rattle.script_claims.specs.declared.part.Part.TheVariants.{Nothing, Made}
use Rattle.script_claims.specs.Claims.{stated, Sides, with_goal, behind_or_sign, behind_arrow}
use Rattle.script_claims.specs.Claims.{Claims, no_claims, formula_claims}
use Rattle.script_claims.specs.Parts.{nothing_read, relation_behind, in_behind, proposition_read}

-- the expression in hand, the proposition in hand, and the claims so far
pub record State : Type 0 where
  pub reading : Reading
  pub proposition : Proposition
  pub sides : Sides

-- between propositions
abbrev pub state_of : Reading → Sides → State
state_of r sides = record { reading = r; proposition = nothing_read; sides = sides }

-- The state between propositions with these claims so far, where no expression is begun.
abbrev pub from_claims : Claims → State
from_claims cs = state_of (record { known = cs.known; waits = [] }) cs.sides

-- ---- an expression ends, and its number goes to the proposition

-- The proposition with its part changed, and its exponent and its signs kept.
abbrev pub with_part : (Part → Part) → Proposition → Proposition
with_part f p = record p { part = f p.part }

-- The state in which the proposition has the number of the expression that ended, if one did; else
-- nothing changes.
abbrev pub taken : (ExprId → Part → Part) → State → Option Complete → State
taken f st (Some c) = record st {
  reading = record { known = c.0.0; waits = c.1 };
  proposition = with_part (f c.0.1) st.proposition;
}
taken f st None = st

-- The state behind the end of the expression in hand, whose number the proposition takes.
abbrev pub expr_taken : (ExprId → Part → Part) → State → State
expr_taken f st = taken f st (expr_done None st.reading st.reading.waits)

-- ---- a proposition ends

-- what was made of it, or a multiple, whose expression still waits; nothing where it isn't whole
abbrev pub ended_with : State → Part → Option Complete → State
ended_with st (Made c) o = state_of st.reading (with_goal st.sides (stated st.proposition.denied c))
ended_with st Nothing (Some c) = state_of (record { known = c.0.0; waits = c.1 })
    (with_goal st.sides (stated st.proposition.denied (Multiple c.0.1 st.proposition.exponent)))
ended_with st p o = state_of st.reading st.sides

-- The state behind the end of the proposition in hand: its claim, where it is whole, is the last
-- goal, and none is begun.
abbrev pub ended : State → State
ended st = ended_with st st.proposition.part (expr_done None st.reading st.reading.waits)

-- `/\`, `\/` or `->`
abbrev pub connected : Word → State → State
connected (sign s.Or) st = record st { sides = behind_or_sign st.sides }
connected (sign s.Arrow) st = record st { sides = behind_arrow st.sides }
connected w st = st

-- ---- words, by their roles

-- what a word is to its proposition
abbrev pub at_role : Due → Word → State → State
at_role d.Relation w st = expr_taken (relation_behind w) st
at_role d.In w st = expr_taken in_behind st
at_role d.Connective w st = connected w (ended st)
at_role d.CloseBrace w st = ended st
at_role r w st = record st { proposition = proposition_read r w st.proposition }

-- Each word goes to the expression first.
unfoldable pub read_claim : Due → Word → State → State
read_claim r w st = at_role r w (record st { reading = read None r w st.reading })

-- The state behind all these words, read one by one from the left.
unfoldable pub read_claims : List Leaf → State → State
read_claims [] st = st
read_claims (l ∷ ls) st = read_claims ls (read_claim l.role l.word st)

-- ---- all words

-- the words of a formula, the brace behind it, and others
abbrev pub then_brace : Formula → List Leaf → List Leaf
then_brace f rest = formula_leaves f ++ (at d.CloseBrace (sign s.CloseBrace) ∷ rest)

-- Whatever is known and whatever follows, the words of a formula and the brace behind it are read
-- as its claims.
abbrev pub ReadsFormulas : Type 0
ReadsFormulas = (f : Formula) (rest : List Leaf) (k : Known) → read_claims (then_brace f rest)
    (from_claims (no_claims k)) ≡ read_claims rest (from_claims (formula_claims f k))

-- Nodes never go: behind a word there are as many as before it, or more.
abbrev pub ClaimsGrow : Type 0
ClaimsGrow = (r : Due) (w : Word) (st : State)
    → node_count st.reading.known ≤ node_count (read_claim r w st).reading.known
