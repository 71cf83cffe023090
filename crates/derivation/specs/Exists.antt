-- The best table of a box as a function, with no code: it is there whether or not memory is found
-- for it.
use Rattle.std.specs.Prelude.{◌≡◌, ◌≢◌, ◌⊎◌, ℕ, zero, suc, List, [], ◌∷◌, Option, Some, None}
use Rattle.std.specs.Prelude.{slice_get, length}
use Rattle.std.proofs.Common.{inl, inr}
use Rattle.fx_model.specs.declared.Node.{Node}
use Rattle.fx_model.specs.declared.Node.TheVariants as node
use Rattle.interval.specs.Results.{whole_interval}
use Rattle.facts.specs.declared.fact.Fact.{Fact}
use Rattle.facts.specs.declared.fact.Slot.{Slot}
use Rattle.facts.specs.declared.fact.Fact.TheVariants as fact
use Rattle.facts.specs.declared.fact.Slot.TheVariants as slot
use Rattle.facts.specs.Order.{slot_of, meet_of}
use Rattle.facts.specs.declared.instance.Instance.{Instance}
use Rattle.derivation.specs.Derivations.{Setting, At}
use Rattle.derivation.specs.Known.{Piece}
use Rattle.derivation.specs.Rounds.{conclusion}
use Rattle.derivation.specs.Parts.{slot_cases}

-- ---- a fact that comes to a table
abbrev pub choose : {s t : Slot} → (s ≡ t) ⊎ (s ≢ t) → Option Fact → Option Fact → Option Fact
choose (inl e) a b = a
choose (inr d) a b = b

-- the table with this fact on its slot
abbrev pub written : At → Fact → At
written at k s = choose (slot_cases s (slot_of k)) (Some k) (at s)

-- The fact that is there, or else the other.
abbrev pub or_else : Option Fact → Fact → Fact
or_else (Some k) g = k
or_else None g = g

-- what is kept where a fact c comes to what is there: their meet
abbrev pub joined : Option Fact → Fact → Fact
joined None c = c
joined (Some g) c = or_else (meet_of g c) g

-- the table to which the fact came
abbrev pub with_fact : At → Fact → At
with_fact at c = written at (joined (at (slot_of c)) c)

-- ---- a round
abbrev pub with_conclusion : At → Option Fact → At
with_conclusion new None = new
with_conclusion new (Some c) = with_fact new c

-- What the instance, if there is one, concludes from the table.
abbrev pub conclusion_of : Setting → At → Option Instance → Option Fact
conclusion_of u at None = None
conclusion_of u at (Some i) = conclusion u.rules at i

-- the table after the first n instances
abbrev pub after_instances : Setting → At → ℕ → At
after_instances u at zero = at
after_instances u at (suc n) =
    with_conclusion (after_instances u at n) (conclusion_of u at (slice_get u.instances n))

-- ---- rounds
-- the table after a round, which leaves VOID as it is
abbrev pub after_round : Setting → At → Option Fact → At
after_round u at (Some f) = at
after_round u at None = after_instances u at (length u.instances)

-- the table after so many rounds
abbrev pub after_rounds : Setting → At → ℕ → At
after_rounds u start zero = start
after_rounds u start (suc h) =
    after_round u (after_rounds u start h) (after_rounds u start h slot.Void)

-- ---- boxes
abbrev pub blank : At
blank s = None

-- The table to which the first n hypotheses have come, one by one.
abbrev pub with_hypotheses : List Fact → ℕ → At
with_hypotheses hyps zero = blank
with_hypotheses hyps (suc n) = with_conclusion (with_hypotheses hyps n) (slice_get hyps n)

-- The fact of node n where it is a variable: it has some value; none of other nodes.
abbrev pub line_of : ℕ → Option Node → Option Fact
line_of n (Some (node.Var v)) = Some (fact.Bnd (record { 0 = n }) whole_interval)
line_of n _ = None

-- the table with which the root begins: the hypotheses, and the facts of the variables among the
-- first n nodes
abbrev pub with_lines : Setting → ℕ → At
with_lines u zero = with_hypotheses u.hypotheses (length u.hypotheses)
with_lines u (suc n) = with_conclusion (with_lines u n) (line_of n (slice_get u.nodes n))

-- The best table of the box with these pieces.
abbrev pub table_at : Setting → ℕ → List Piece → At
table_at u height [] = after_rounds u (with_lines u (length u.nodes)) height
table_at u height (piece ∷ above) =
    after_rounds u (with_fact (table_at u height above) (fact.Bnd piece.0 piece.1)) height

-- ---- heights
-- the best table of height r over what is given at the box
abbrev pub table_of_height : Setting → ℕ → List Piece → ℕ → At
table_of_height u height [] r = after_rounds u (with_lines u (length u.nodes)) r
table_of_height u height (piece ∷ above) r =
    after_rounds u (with_fact (table_at u height above) (fact.Bnd piece.0 piece.1)) r
