-- The words of a formula add no more nodes than are counted.
use Rattle.std.proofs.Common.{◌≡◌, ◌+◌, ◌≤◌, List, [], ◌∷◌, Option, Some, None, refl, ap, subst}
use Rattle.std.proofs.Common.{arith}
use Rattle.fx_model.specs.declared.ExprId.{ExprId}
use Rattle.script_words.specs.declared.class.Symbol.TheVariants as s
use Rattle.script_words.specs.Words.{Word, sign}
use Rattle.script_shape.specs.declared.due.Due.{Due}
use Rattle.script_shape.specs.declared.due.Due.TheVariants as d
use Rattle.script_shape.specs.Propositions.{Prop, Stated, affirmed, denied, Formula, single, and}
use Rattle.script_shape.specs.Propositions.{or, implies}
use Rattle.script_shape.specs.Roles.{Leaf, at, prop_leaves, stated_leaves, formula_leaves}
use Rattle.script_shape.proofs.Inner.{EachRole, each_of_both, each_as}
use Rattle.script_judge.specs.Counts.{nodes_at}
use Rattle.script_judge.specs.Names.{with_some, operand_name, is_some_apart}
use Rattle.script_judge.specs.Numbers.{Notes}
use Rattle.script_judge.specs.Judge.{Seen, seen_after}
use Rattle.script_nodes.specs.Known.{Name, Known}
use Rattle.script_nodes.specs.Waits.{Reading, Complete, expr_done, read}
use Rattle.script_claims.specs.declared.part.Part.{Part}
use Rattle.script_claims.specs.declared.part.Part.TheVariants.{Nothing, Made}
use Rattle.script_claims.specs.Claims.{no_claims, formula_claims}
use Rattle.script_claims.specs.Parts.{relation_behind, in_behind}
use Rattle.script_claims.specs.Reads.{State, from_claims, then_brace, taken, ended_with, ended}
use Rattle.script_claims.specs.Reads.{connected, at_role, read_claim, read_claims, ReadsFormulas}
use Rattle.script_grammar.proofs.Marks.{Free, AllFree, IsBody}
use Rattle.script_grammar.proofs.WordRoles.{IsOfProp, prop_roles}
use Rattle.script_grammar.proofs.Weights.{total, IsLeft, expr_total, read_total}
use Rattle.script_grammar.proofs.Passing.{Passes}
use Rattle.script_grammar.proofs.DefinitionCounts.{IsBetween}

-- ---- words behind the definitions

pub record IsLater (seen next : Seen) (r : Due) (w : Word) : Type 0 where
  pub known : next.names.known ≡ with_some (operand_name r w) seen.names.known
  pub pending : next.names.pending ≡ None

pub body_later : (v : Notes) (seen : Seen) (r : Due) (w : Word) → IsBody r
    → seen.names.pending ≡ None → IsLater seen (seen_after v seen r w) r w
body_later v seen d.Script w h e = absurd h
body_later v seen d.NewName w h e = absurd h
body_later v seen d.DefinedBy w h e = absurd h
body_later v seen d.Equal w h e = absurd h
body_later v seen d.Semicolon w h e =
    record { known = ap (λ o. with_some o seen.names.known) e; pending = refl }
body_later v seen r w h e = record { known = refl; pending = e }

-- what is read so far
pub record IsWithin (ops : List Name) (seen : Seen) (r : Reading) : Type 0 where
  pub pending : seen.names.pending ≡ None
  pub within : total None ops seen.names.known r ≤ seen.counts.nodes

-- one more word
pub word_within : (ops : List Name) (v : Notes) (seen : Seen) (r : Due) (w : Word)
    (old new : Reading) → IsBody r → IsWithin ops seen old
    → total None ops (with_some (operand_name r w) seen.names.known) new
    ≤ total None ops seen.names.known old
    + nodes_at seen.counts.rounds (is_some_apart seen.names.known (operand_name r w)) r w
    → IsWithin ops (seen_after v seen r w) new
word_within ops v seen r w old new h t a =
    let n = body_later v seen r w h t.pending in
    let b = t.within in
    record {
      pending = n.pending;
      within = omega (arith, ap (λ names. total None ops names new) n.known);
    }

-- ---- expressions that end

module _ (ops names : List Name) where
  taken_total : (f : ExprId → Part → Part) (st : State) (o : Option Complete)
      → IsLeft None ops names o (total None ops names st.reading)
      → total None ops names (taken f st o).reading ≤ total None ops names st.reading
  taken_total f st None h = omega arith
  taken_total f st (Some c) h = h

  ended_with_total : (st : State) (p : Part) (o : Option Complete)
      → IsLeft None ops names o (total None ops names st.reading)
      → total None ops names (ended_with st p o).reading ≤ total None ops names st.reading
  ended_with_total st (Made c) o h = omega arith
  ended_with_total st Nothing (Some c) h = h
  ended_with_total st Nothing None h = omega arith
  ended_with_total st p o h = omega arith

  done : (st : State) → IsLeft None ops names (expr_done None st.reading st.reading.waits)
      (total None ops names st.reading)
  done st = expr_total None ops names st.reading st.reading.waits

  ended_total : (st : State)
      → total None ops names (ended st).reading ≤ total None ops names st.reading
  ended_total st =
      ended_with_total st st.proposition.part (expr_done None st.reading st.reading.waits) (done st)

  connected_reading : (w : Word) (st : State) → (connected w st).reading ≡ st.reading
  connected_reading (sign s.Or) st = refl
  connected_reading (sign s.Arrow) st = refl
  connected_reading _ st = refl

  role_total : (r : Due) (w : Word) (st : State)
      → total None ops names (at_role r w st).reading ≤ total None ops names st.reading
  role_total d.Relation w st =
      taken_total (relation_behind w) st (expr_done None st.reading st.reading.waits) (done st)
  role_total d.In w st =
      taken_total in_behind st (expr_done None st.reading st.reading.waits) (done st)
  role_total d.Connective w st = let a = ended_total st in
      omega (arith, ap (total None ops names) (connected_reading w (ended st)))
  role_total d.CloseBrace w st = ended_total st
  role_total _ w st = omega arith

claim_within : (ops : List Name) (v : Notes) (seen : Seen) (r : Due) (w : Word) (st : State)
    → IsBody r → Free ops w → IsWithin ops seen st.reading
    → IsWithin ops (seen_after v seen r w) (read_claim r w st).reading
unfolding read_claim
claim_within ops v seen r w st h f t =
    let next : State = record st { reading = read None r w st.reading } in
    let names = with_some (operand_name r w) seen.names.known in
    let a = read_total None ops seen.counts.rounds
    (omega arith) seen.names.known st.reading r w f in
    let b = role_total ops names r w next in
    word_within ops v seen r w st.reading (at_role r w next).reading h t (omega arith)

claims_within : (ops : List Name) (ls : List Leaf) (seen last : Seen) (st : State)
    → EachRole IsBody ls → AllFree ops ls → Passes seen ls last → IsWithin ops seen st.reading
    → IsWithin ops last (read_claims ls st).reading
unfolding read_claims
claims_within ops [] seen last st h f p t = subst (λ x. IsWithin ops x st.reading) p t
claims_within ops (l ∷ ls) seen last st h f p t =
    claims_within ops ls (seen_after p.0 seen l.role l.word) last
    (read_claim l.role l.word st) h.1 f.1 p.3 (claim_within ops p.0 seen l.role l.word st h.0 f.0 t)

-- ---- the roles of a formula

prop_is_body : (r : Due) → IsOfProp r → IsBody r
prop_is_body d.Script h = absurd h
prop_is_body d.NewName h = absurd h
prop_is_body d.DefinedBy h = absurd h
prop_is_body d.Equal h = absurd h
prop_is_body r h = tt

prop_body : (p : Prop) → EachRole IsBody (prop_leaves p)
prop_body p = each_as IsOfProp IsBody prop_is_body (prop_leaves p) (prop_roles p)

stated_body : (p : Stated) → EachRole IsBody (stated_leaves p)
stated_body (affirmed p) = prop_body p
stated_body (denied p) = (tt, prop_body p)

formula_body : (f : Formula) → EachRole IsBody (formula_leaves f)
formula_body (single p) = stated_body p
formula_body (and f p) =
    each_of_both IsBody (formula_leaves f) _ (formula_body f) (tt, stated_body p)
formula_body (or f p) =
    each_of_both IsBody (formula_leaves f) _ (formula_body f) (tt, stated_body p)
formula_body (implies f p) =
    each_of_both IsBody (formula_leaves f) _ (formula_body f) (tt, stated_body p)

-- with its brace
pub braced_body : (f : Formula) → EachRole IsBody (then_brace f [])
braced_body f = each_of_both IsBody (formula_leaves f) (at d.CloseBrace (sign s.CloseBrace) ∷ [])
    (formula_body f) (tt, tt)

-- ---- formulas

pub formula_counts : ReadsFormulas → (ops : List Name) (f : Formula) (k : Known) (seen last : Seen)
    → AllFree ops (then_brace f []) → Passes seen (then_brace f []) last → IsBetween ops seen k
    → IsBetween ops last (formula_claims f k).known
unfolding read_claims
formula_counts reads ops f k seen last free p b =
    let t = b.within in
    let c = claims_within ops (then_brace f []) seen last (from_claims (no_claims k))
    (braced_body f) free p (record { pending = b.pending; within = omega arith }) in
    let u = c.within in
    record {
      pending = c.pending;
      within = omega
          (arith, ap (λ (st : State). total None ops last.names.known st.reading) (reads f [] k));
    }
