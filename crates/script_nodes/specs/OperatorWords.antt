-- What the words of a written operator make of what waits: its least significant bit, its
-- direction, and its end.
use Rattle.std.specs.Prelude.{pos, neg_ℤ, List, ◌∷◌}
use Rattle.fx_model.specs.declared.Rounding.{Rounding}
use Rattle.script_words.specs.Words.{Word, name, rounding, literal}
use Rattle.script_nodes.specs.declared.waits.Waits.{Waits}
use Rattle.script_nodes.specs.declared.waits.Waits.TheVariants as wait
use Rattle.script_nodes.specs.Operators.{direction_of, number_of}

-- the operator that waits first is changed by f
abbrev pub with_lsb : (Rounding → Rounding) → List Waits → List Waits
with_lsb f (wait.Operator r ∷ ws) = wait.Operator (f r) ∷ ws
with_lsb f ws = ws

-- the operator that waits first now waits for its operand
abbrev pub operator_ended : List Waits → List Waits
operator_ended (wait.Operator r ∷ ws) = wait.Call r ∷ ws
operator_ended ws = ws

-- the number is the power of the operator's least significant bit
abbrev pub whole_read : Word → List Waits → List Waits
whole_read (literal k text) ws =
    with_lsb (λ r. record { lsb = pos (number_of text); dir = r.dir }) ws
whole_read w ws = ws

-- digits behind a minus
abbrev pub opposite_read : Word → List Waits → List Waits
opposite_read (literal k text) ws =
    with_lsb (λ r. record { lsb = neg_ℤ (pos (number_of text)); dir = r.dir }) ws
opposite_read w ws = ws

-- the word names the operator's direction
abbrev pub direction_read : Word → List Waits → List Waits
direction_read (name k text) ws = with_lsb (λ r. record { lsb = r.lsb; dir = direction_of text }) ws
direction_read (rounding k text) ws =
    with_lsb (λ r. record { lsb = r.lsb; dir = direction_of text }) ws
direction_read w ws = ws
