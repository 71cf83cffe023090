-- The words of definitions and of a formula are read as their tree.
use Rattle.std.specs.Prelude.{◌≡◌, List, [], ◌∷◌, ◌++◌, Option, Some, None, false, refl}
use Rattle.std.proofs.Common.{ap, sym, ◌∙◌, append-nil, append_assoc}
use Rattle.script_words.specs.declared.class.Symbol.TheVariants as s
use Rattle.script_words.specs.declared.class.Spelled.TheVariants as spelled
use Rattle.script_words.specs.Words.{Word, sign}
use Rattle.script_shape.specs.declared.due.Due.{Due}
use Rattle.script_shape.specs.declared.due.Due.TheVariants as d
use Rattle.script_shape.specs.Expressions.{AnyName, plain, operator, Whole, Bound, Operator, Expr}
use Rattle.script_shape.specs.Propositions.{Range, asked, between as range_between, Prop, lies_in}
use Rattle.script_shape.specs.Propositions.{relative_in, at_most, at_least, multiple, Stated}
use Rattle.script_shape.specs.Propositions.{affirmed, denied, Formula, single, and, or, implies}
use Rattle.script_shape.specs.Tree.{How, exactly, rounded_by, rounded_apart, rounded_joined}
use Rattle.script_shape.specs.Tree.{Definition, names_operator, names_value, Script, formula}
use Rattle.script_shape.specs.Tree.{define}
use Rattle.script_shape.specs.Roles.{Leaf, at, name_leaves, special_leaves, whole_leaves}
use Rattle.script_shape.specs.Roles.{bound_leaves, operator_leaves, expr_leaves, range_leaves}
use Rattle.script_shape.specs.Roles.{prop_leaves, stated_leaves, formula_leaves, how_leaves}
use Rattle.script_shape.specs.Roles.{definition_leaves, hints_leaves, script_leaves}
use Rattle.script_shape.proofs.Inner.{EachRole, each_of_both, each_as, IsInner, name_roles}
use Rattle.script_shape.proofs.Inner.{special_roles, bound_roles, whole_inner, operator_roles}
use Rattle.script_shape.proofs.Inner.{expr_inner}
use Rattle.script_nodes.specs.Known.{Known, nothing_known}
use Rattle.script_nodes.specs.Definitions.{definition_value}
use Rattle.script_nodes.specs.Defining.{Defining, between, define_word, define_all, opens_formula}
use Rattle.script_nodes.specs.Defining.{ReadsDefinition}
use Rattle.script_claims.specs.Claims.{no_claims, formula_claims}
use Rattle.script_claims.specs.Reads.{State, from_claims, read_claim, read_claims, ReadsFormulas}
use Rattle.script_judge.specs.Front.{Front, defining, claiming, ended, front_closed, front_after}
use Rattle.script_judge.specs.Front.{read_front, front_said, said_in, front_leaves, ReadsFronts}
use Rattle.script_judge.specs.Said.{Said, claims_behind, said_from, Says}

-- ---- words that neither begin a definition or the formula, nor close it

abbrev pub StaysAt : Due → Type 0
StaysAt d.Script = ⊥
StaysAt d.CloseBrace = ⊥
StaysAt r = Unit {0}

abbrev pub AllStay : List Leaf → Type 0
AllStay ls = EachRole StaysAt ls

both : (a b : List Leaf) → AllStay a → AllStay b → AllStay (a ++ b)
both a b p q = each_of_both StaysAt a b p q

inner_stays : (r : Due) → IsInner r → StaysAt r
inner_stays d.Script i = absurd i
inner_stays d.CloseBrace i = absurd i
inner_stays _ i = tt

whole_stays : (w : Whole) → AllStay (whole_leaves w)
whole_stays w = each_as IsInner StaysAt inner_stays (whole_leaves w) (whole_inner w)

bound_stays : (b : Bound) → AllStay (bound_leaves b)
bound_stays b = bound_roles StaysAt b tt tt

operator_stays : (r : Due) (o : Operator) → StaysAt r → AllStay (operator_leaves r o)
operator_stays r o h = operator_roles StaysAt r o h inner_stays

expr_stays : (e : Expr) → AllStay (expr_leaves e)
expr_stays e = each_as IsInner StaysAt inner_stays (expr_leaves e) (expr_inner e)

range_stays : (r : Range) → AllStay (range_leaves r)
range_stays asked = (tt, tt)
range_stays (range_between a b) = (
  tt,
  both (bound_leaves a) _ (bound_stays a) (tt, both (bound_leaves b) _ (bound_stays b) (tt, tt)),
)

prop_stays : (p : Prop) → AllStay (prop_leaves p)
prop_stays (lies_in e r) = both (expr_leaves e) _ (expr_stays e) (tt, range_stays r)
prop_stays (relative_in a b r) = both (expr_leaves a) _ (expr_stays a)
    (tt, both (expr_leaves b) _ (expr_stays b) (tt, range_stays r))
prop_stays (at_most e b) = both (expr_leaves e) _ (expr_stays e) (tt, bound_stays b)
prop_stays (at_least e b) = both (expr_leaves e) _ (expr_stays e) (tt, bound_stays b)
prop_stays (multiple f e k) = (
  tt,
  both (special_leaves d.Fix spelled.Fix f) _ (special_roles StaysAt d.Fix spelled.Fix f tt) (
    tt,
    both (expr_leaves e) _ (expr_stays e) (tt, both (whole_leaves k) _ (whole_stays k) (tt, tt)),
  ),
)

stated_stays : (p : Stated) → AllStay (stated_leaves p)
stated_stays (affirmed p) = prop_stays p
stated_stays (denied p) = (tt, prop_stays p)

pub formula_stays : (f : Formula) → AllStay (formula_leaves f)
formula_stays (single p) = stated_stays p
formula_stays (and f p) = both (formula_leaves f) _ (formula_stays f) (tt, stated_stays p)
formula_stays (or f p) = both (formula_leaves f) _ (formula_stays f) (tt, stated_stays p)
formula_stays (implies f p) = both (formula_leaves f) _ (formula_stays f) (tt, stated_stays p)

how_stays : (h : How) → AllStay (how_leaves h)
how_stays exactly = (tt, tt)
how_stays (rounded_by k t) = (tt, (tt, tt))
how_stays (rounded_apart o) =
    both (operator_leaves d.DefinedBy o) _ (operator_stays d.DefinedBy o tt) (tt, (tt, tt))
how_stays (rounded_joined o) =
    both (operator_leaves d.DefinedBy o) _ (operator_stays d.DefinedBy o tt) (tt, tt)

-- ---- definitions

-- no word of a definition opens the formula
abbrev Shut : List Leaf → Type 0
Shut [] = Unit {0}
Shut (l ∷ ls) = (opens_formula l.role l.word ≡ false) × Shut ls

stay_shut : (r : Due) (w : Word) → StaysAt r → opens_formula r w ≡ false
stay_shut d.Script w h = absurd h
stay_shut d.CloseBrace w h = absurd h
stay_shut _ w h = refl

all_shut : (ls : List Leaf) → AllStay ls → Shut ls
all_shut [] h = tt
all_shut (l ∷ ls) h = (stay_shut l.role l.word h.0, all_shut ls h.1)

value_name_shut : (n : AnyName) (ls : List Leaf) → Shut ls → Shut (name_leaves d.Script n ++ ls)
value_name_shut (plain k t) ls h = (refl, h)
value_name_shut (operator k t) ls h = (refl, h)

definition_shut : (x : Definition) → Shut (definition_leaves x)
definition_shut (names_operator n o) = (
  refl,
  all_shut _ (both (name_leaves d.NewName n) _ (name_roles StaysAt d.NewName n tt)
      (tt, both (operator_leaves d.Operator o) _ (operator_stays d.Operator o tt) (tt, (tt, tt)))),
)
definition_shut (names_value n h e) = value_name_shut n _ (all_shut _
    (both (how_leaves h) _ (how_stays h) (both (expr_leaves e) _ (expr_stays e) (tt, tt))))

defining_word : (r : Due) (w : Word) (p : Defining) → opens_formula r w ≡ false
    → front_after r w (defining p) ≡ defining (define_word r w p)
unfolding front_after
defining_word r w p e = rw e refl

define_first : (l : Leaf) (ls : List Leaf) (p : Defining) → opens_formula l.role l.word ≡ false
    → define_all (l ∷ ls) p ≡ define_all ls (define_word l.role l.word p)
unfolding define_all
define_first l ls p e = rw e refl

define_words : (ls rest : List Leaf) (p : Defining) → Shut ls
    → read_front (ls ++ rest) (defining p) ≡ read_front rest (defining (define_all ls p))
unfolding read_front define_all
define_words [] rest p h = refl
define_words (l ∷ ls) rest p h = ap (read_front (ls ++ rest)) (defining_word l.role l.word p h.0)
    ∙ define_words ls rest (define_word l.role l.word p) h.1
    ∙ ap (λ q. read_front rest (defining q)) (sym (define_first l ls p h.0))

-- ---- the formula

claiming_word : (r : Due) (w : Word) (st : State) → StaysAt r
    → front_after r w (claiming st) ≡ claiming (read_claim r w st)
unfolding front_after
claiming_word d.Script w st h = absurd h
claiming_word d.CloseBrace w st h = absurd h
claiming_word _ w st h = refl

claim_words : (ls rest : List Leaf) (st : State) → AllStay ls
    → read_front (ls ++ rest) (claiming st) ≡ read_front rest (claiming (read_claims ls st))
unfolding read_front read_claims
claim_words [] rest st h = refl
claim_words (l ∷ ls) rest st h = ap (read_front (ls ++ rest)) (claiming_word l.role l.word st h.0)
    ∙ claim_words ls rest (read_claim l.role l.word st) h.1

claims_append : (a b : List Leaf) (st : State)
    → read_claims (a ++ b) st ≡ read_claims b (read_claims a st)
unfolding read_claims
claims_append [] b st = refl
claims_append (l ∷ a) b st = claims_append a b (read_claim l.role l.word st)

-- ---- behind the formula

ended_words : (ls : List Leaf) (st : State) → read_front ls (front_closed st) ≡ front_closed st
unfolding read_front front_after
ended_words [] st = refl
ended_words (l ∷ ls) st = ended_words ls st

-- ---- all of them

module _ (one : ReadsDefinition) (formulas : ReadsFormulas) where
  definition_ends : (x : Definition) (k : Known)
      → define_all (definition_leaves x) (between k) ≡ between (definition_value x k)
  unfolding define_all
  definition_ends x k =
      ap (λ ls. define_all ls (between k)) (sym (append-nil (definition_leaves x))) ∙ one x [] k

  claims_end : (f : Formula) (k : Known) → read_claim d.CloseBrace (sign s.CloseBrace) (read_claims
      (formula_leaves f) (from_claims (no_claims k))) ≡ from_claims (formula_claims f k)
  unfolding read_claims
  claims_end f k = sym (claims_append (formula_leaves f) (at d.CloseBrace (sign s.CloseBrace) ∷ [])
      (from_claims (no_claims k))) ∙ formulas f [] k

  closing_word : (st : State) → front_after d.CloseBrace (sign s.CloseBrace) (claiming st)
      ≡ front_closed (read_claim d.CloseBrace (sign s.CloseBrace) st)
  unfolding front_after
  closing_word st = refl

  opening : (k : Known) → front_after d.Script (sign s.OpenBrace) (defining (between k))
      ≡ claiming (from_claims (no_claims k))
  unfolding front_after
  opening k = refl

  body_read : (f : Formula) (rest : List Leaf) (k : Known)
      → read_front (formula_leaves f ++ (at d.CloseBrace (sign s.CloseBrace) ∷ rest))
      (claiming (from_claims (no_claims k))) ≡ front_closed (from_claims (formula_claims f k))
  unfolding read_front
  body_read f rest k =
      claim_words (formula_leaves f) (at d.CloseBrace (sign s.CloseBrace) ∷ rest)
      (from_claims (no_claims k)) (formula_stays f)
      ∙ ap (read_front rest) (closing_word (read_claims (formula_leaves f)
      (from_claims (no_claims k))) ∙ ap front_closed (claims_end f k))
      ∙ ended_words rest (from_claims (formula_claims f k))

  front_read : (tree : Script) (rest : List Leaf) (k : Known)
      → read_front (front_leaves tree ++ rest) (defining (between k))
      ≡ front_closed (from_claims (claims_behind tree k))
  unfolding read_front
  front_read (formula f h) rest k =
      ap (λ ls. read_front ls (front_after d.Script (sign s.OpenBrace) (defining (between k))))
      (append_assoc (formula_leaves f) (at d.CloseBrace (sign s.CloseBrace) ∷ []) rest)
      ∙ ap (read_front (formula_leaves f ++ (at d.CloseBrace (sign s.CloseBrace) ∷ rest)))
      (opening k) ∙ body_read f rest k
  front_read (define x more) rest k =
      ap (λ ls. read_front ls (defining (between k)))
      (append_assoc (definition_leaves x) (front_leaves more) rest)
      ∙ define_words (definition_leaves x) (front_leaves more ++ rest) (between k)
      (definition_shut x)
      ∙ ap (λ p. read_front (front_leaves more ++ rest) (defining p)) (definition_ends x k)
      ∙ front_read more rest (definition_value x k)

  pub fronts_are_read : ReadsFronts
  fronts_are_read tree rest = front_read tree rest nothing_known

-- ---- what leaves that begin with a script say

-- a script begins with its front
front_first : (tree : Script)
    → (hints : List Leaf) × (script_leaves tree ≡ front_leaves tree ++ hints)
front_first (formula f h) = (
  hints_leaves h,
  ap (λ ls. at d.Script (sign s.OpenBrace) ∷ ls) (sym (append_assoc (formula_leaves f)
      (at d.CloseBrace (sign s.CloseBrace) ∷ []) (hints_leaves h))),
)
front_first (define x rest) =
    let more = front_first rest in (
      more.0,
      ap (λ ls. definition_leaves x ++ ls) more.1
          ∙ sym (append_assoc (definition_leaves x) (front_leaves rest) more.0),
    )

module _ (fronts : ReadsFronts) where
  pub script_said : (tree : Script) (rest : List Leaf)
      → said_in (script_leaves tree ++ rest) ≡ Some (said_from tree nothing_known)
  script_said tree rest =
      let more = front_first tree in
      ap said_in (ap (λ ls. ls ++ rest) more.1 ∙ append_assoc (front_leaves tree) more.0 rest)
      ∙ ap front_said (fronts tree (more.0 ++ rest))

  pub says_once : (leaves : List Leaf) (a b : Option Said) → Says leaves a → Says leaves b → a ≡ b
  says_once leaves None None h k = refl
  says_once leaves None (Some g) h k = absurd (h k.0 k.1 k.2)
  says_once leaves (Some f) None h k = absurd (k h.0 h.1 h.2)
  says_once leaves (Some f) (Some g) h k =
      ap (λ x. Some x) h.3 ∙ sym (ap said_in h.2 ∙ script_said h.0 h.1)
      ∙ (ap said_in k.2 ∙ script_said k.0 k.1) ∙ ap (λ x. Some x) (sym k.3)
