-- Nodes never go while the words of a formula are read.
use Rattle.std.specs.Prelude.{ℕ, ◌≤◌, Option, Some, None, IfSome}
use Rattle.std.proofs.Common.{le_refl, le_trans}
use Rattle.fx_model.specs.declared.ExprId.{ExprId}
use Rattle.script_words.specs.declared.class.Symbol.{Symbol}
use Rattle.script_words.specs.declared.class.Symbol.TheVariants as s
use Rattle.script_words.specs.Words.{Word, name, rounding, literal, sign}
use Rattle.script_shape.specs.declared.due.Due.{Due}
use Rattle.script_shape.specs.declared.due.Due.TheVariants as d
use Rattle.script_nodes.specs.Waits.{Complete, expr_done, read}
use Rattle.script_nodes.specs.Growth.{node_count, EndsGrow, WordsGrow}
use Rattle.script_claims.specs.declared.part.Part.{Part}
use Rattle.script_claims.specs.declared.part.Part.TheVariants.{Nothing, Made}
use Rattle.script_claims.specs.Parts.{relation_behind, in_behind}
use Rattle.script_claims.specs.Reads.{State, taken, expr_taken, ended_with, ended, connected}
use Rattle.script_claims.specs.Reads.{at_role, read_claim, ClaimsGrow}

abbrev count : State → ℕ
count st = node_count st.reading.known

abbrev IsMore : State → Option Complete → Type 0
IsMore st o = IfSome o (λ c. count st ≤ node_count c.0.0)

taken_grows : (f : ExprId → Part → Part) (st : State) (o : Option Complete) → IsMore st o
    → count st ≤ count (taken f st o)
taken_grows f st None h = le_refl (count st)
taken_grows f st (Some c) h = h

ended_with_grows : (st : State) (p : Part) (o : Option Complete) → IsMore st o
    → count st ≤ count (ended_with st p o)
ended_with_grows st (Made c) o h = le_refl (count st)
ended_with_grows st Nothing (Some c) h = h
ended_with_grows st _ o h = le_refl (count st)

sign_grows : (g : Symbol) (st : State) → count st ≤ count (connected (sign g) st)
sign_grows s.Or st = le_refl (count st)
sign_grows s.Arrow st = le_refl (count st)
sign_grows _ st = le_refl (count st)

connected_grows : (w : Word) (st : State) → count st ≤ count (connected w st)
connected_grows (sign g) st = sign_grows g st
connected_grows (name k text) st = le_refl (count st)
connected_grows (rounding k text) st = le_refl (count st)
connected_grows (literal k text) st = le_refl (count st)

module _ (ends : EndsGrow) where
  expr_taken_grows : (f : ExprId → Part → Part) (st : State) → count st ≤ count (expr_taken f st)
  expr_taken_grows f st = taken_grows f st (expr_done None st.reading st.reading.waits)
      (ends None st.reading st.reading.waits)

  ended_grows : (st : State) → count st ≤ count (ended st)
  ended_grows st = ended_with_grows st st.proposition.part
      (expr_done None st.reading st.reading.waits) (ends None st.reading st.reading.waits)

  at_role_grows : (r : Due) (w : Word) (st : State) → count st ≤ count (at_role r w st)
  at_role_grows d.Relation w st = expr_taken_grows (relation_behind w) st
  at_role_grows d.In w st = expr_taken_grows in_behind st
  at_role_grows d.Connective w st = le_trans (ended_grows st) (connected_grows w (ended st))
  at_role_grows d.CloseBrace w st = ended_grows st
  at_role_grows _ w st = le_refl (count st)

pub claims_grow : EndsGrow → WordsGrow → ClaimsGrow
unfolding read_claim
claims_grow ends words r w st = le_trans (words None st.reading r w)
    (at_role_grows ends r w (record st { reading = read None r w st.reading }))
