-- A script that the judge lets pass halves few variables: no more numbers than names.
use Rattle.std.proofs.Common.{◌≡◌, ◌+◌, ◌≤◌, List, [], ◌∷◌, ◌++◌, length, None, Some, Bool, true}
use Rattle.std.proofs.Common.{false, not, ◌||◌, if◌then◌else◌, refl, sym, ap, ◌∙◌, subst, arith}
use Rattle.std.proofs.Common.{length-append, eq-eqb, Option, ◌⊎◌, inl, inr}
use Rattle.std.specs.List.{AllByRecursion, list_any}
use Rattle.std.specs.Str.{bytes_eq}
use Rattle.std.proofs.lemmas.Slice.Eq.{bytes_eq-Decides}
use Rattle.fx_model.specs.declared.ExprId.{ExprId}
use Rattle.facts.proofs.CommonParts.{all_last}
use Rattle.script_words.specs.declared.class.Symbol.TheVariants as s
use Rattle.script_words.specs.Words.{Word, sign}
use Rattle.script_shape.specs.declared.due.Due.{Due}
use Rattle.script_shape.specs.declared.due.Due.TheVariants as d
use Rattle.script_shape.specs.Expressions.{AnyName, plain, operator, Expr}
use Rattle.script_shape.specs.Hints.{Need, nonzero, below, not_above, above, not_below, NeedList}
use Rattle.script_shape.specs.Hints.{last_need, more_needs, Needs, always, provided, CutForm, Names}
use Rattle.script_shape.specs.Hints.{last_name, more_names, Halving, halved_by, with_goal, Hint}
use Rattle.script_shape.specs.Hints.{rewrite, like, split, halving, Hints, no_hint, hint}
use Rattle.script_shape.specs.Propositions.{Prop, Stated, affirmed, denied, Formula, single, and}
use Rattle.script_shape.specs.Propositions.{or, implies}
use Rattle.script_shape.specs.Tree.{How, exactly, rounded_by, rounded_apart, rounded_joined}
use Rattle.script_shape.specs.Tree.{Definition, names_operator, names_value, Script, formula}
use Rattle.script_shape.specs.Tree.{define}
use Rattle.script_shape.specs.Roles.{Leaf, expr_leaves, name_leaves, needs_leaves, cut_leaves}
use Rattle.script_shape.specs.Roles.{names_leaves, halving_leaves, hint_leaves, hints_leaves}
use Rattle.script_shape.specs.Roles.{operator_leaves, prop_leaves, stated_leaves, formula_leaves}
use Rattle.script_shape.specs.Roles.{how_leaves, definition_leaves, script_leaves}
use Rattle.script_shape.proofs.Inner.{EachRole, IsInner, each_of_both, each_as, name_roles}
use Rattle.script_shape.proofs.Inner.{operator_roles, expr_inner}
use Rattle.script_judge.specs.Names.{Name, is_among, split_name, halved_after}
use Rattle.script_judge.specs.Said.{Said}
use Rattle.script_judge.specs.Numbers.{Notes}
use Rattle.script_judge.specs.Judge.{Seen, seen_after, form_refusal, limit_refusal, Judged}
use Rattle.script_judge.specs.Judge.{nothing_seen}
use Rattle.script_judge.proofs.JudgeLaws.{both_none}
use Rattle.script_judge.specs.Sides.{has_arrow}
use Rattle.script_nodes.specs.Definitions.{definition_value, name_text}
use Rattle.script_nodes.specs.Known.{Known, named}
use Rattle.script_nodes.specs.Values.{expr_value}
use Rattle.script_claims.specs.Claims.{formula_claims}
use Rattle.script_hints.specs.Hints.{needs_value, NeedsSoFar, with_need, with_need_list}
use Rattle.script_hints.specs.Hints.{same_number, with_variable, HintsSoFar, with_halved}
use Rattle.script_hints.specs.Hints.{with_names, with_halving, with_hint, with_hints, no_hints}
use Rattle.script_grammar.specs.CountedHints.{hints_behind}
use Rattle.script_grammar.proofs.FewHints.{limits_hold, hints_of}
use Rattle.script_grammar.proofs.WordRoles.{IsOfProp, prop_roles, IsOfPart, needs_roles, cut_roles}
use Rattle.script_grammar.proofs.There.{any_before, any_last}
use Rattle.script_grammar.proofs.Passing.{Passes, passes_all, passes_both}
use Rattle.script_grammar.proofs.Numbers.{HasNumber, Keeps, keeps_both, keeps_itself, named_keeps}
use Rattle.script_grammar.proofs.Numbers.{expr_keeps, named_has, number_once}

-- ---- the judge lets no more than 4 pass

all_few : (ls : List Leaf) (seen last : Seen) → Passes seen ls last → length seen.names.halved ≤ 4
    → length last.names.halved ≤ 4
all_few [] seen last p h = subst (λ (z : Seen). length z.names.halved ≤ 4) p h
all_few (l ∷ ls) seen last p h =
    let after = seen_after p.0 seen l.role l.word in
    let limits = both_none (form_refusal p.0 seen l.role l.word (has_arrow p.1) p.1)
    (limit_refusal after l.role l.word) p.2 in
    all_few ls after last p.3
    (limits_hold _ (length after.names.halved) after.counts _ _ limits.1).halved

-- ---- the names that are halved have numbers among those that are

abbrev IsHalved : HintsSoFar → Name → Type 0
IsHalved x text = (n : ExprId) × HasNumber x.0 text n × (list_any (same_number n) x.1.halves ≡ true)

record AreHalved (names : List Name) (x : HintsSoFar) : Type 0 where
  short : length x.1.halves ≤ length names
  each : AllByRecursion (IsHalved x) names

-- numbers stay, and none is lost
all_halved : (x y : HintsSoFar) → Keeps x.0 y.0 → ((n : ExprId)
    → list_any (same_number n) x.1.halves ≡ true → list_any (same_number n) y.1.halves ≡ true)
    → (names : List Name) → AllByRecursion (IsHalved x) names → AllByRecursion (IsHalved y) names
all_halved x y k more [] h = tt
all_halved x y k more (text ∷ names) h = let one = h.0 in
    ((one.0, k text one.0 one.1, more one.0 one.2), all_halved x y k more names h.1)

-- with the same list
later_halved : (names : List Name) (x : HintsSoFar) (j : Known) → Keeps x.0 j → AreHalved names x
    → AreHalved names (j, x.1)
later_halved names x j k h =
    record { short = h.short; each = all_halved x (j, x.1) k (λ n e. e) names h.each }

found_halved : (x : HintsSoFar) (text : Name) (names : List Name)
    → AllByRecursion (IsHalved x) names → is_among names text ≡ true → IsHalved x text
found_halved x text [] h e = cc
found_halved x text (m ∷ names) h e =
    by_test (bytes_eq m text) refl e (found_halved x text names h.1)
  where
    by_test : (b : Bool) → bytes_eq m text ≡ b → (b || is_among names text) ≡ true
        → (is_among names text ≡ true → IsHalved x text) → IsHalved x text
    by_test true same e more = subst (IsHalved x) ((bytes_eq-Decides m text).0 same) h.0
    by_test false same e more = more e

number_itself : (x : ExprId) → same_number x x ≡ true
number_itself x = eq-eqb x.0 x.0 refl

pub variable_there : (xs : List ExprId) (x : ExprId) (b : Bool) → list_any (same_number x) xs ≡ b
    → list_any (same_number x) (if b then xs else xs ++ (x ∷ [])) ≡ true
variable_there xs x true h = h
variable_there xs x false h = any_last (same_number x) xs x (number_itself x)

pub variable_more : (xs : List ExprId) (x n : ExprId) (b : Bool)
    → list_any (same_number n) xs ≡ true
    → list_any (same_number n) (if b then xs else xs ++ (x ∷ [])) ≡ true
variable_more xs x n true h = h
variable_more xs x n false h = any_before (same_number n) xs (x ∷ []) h

pub variable_length : (xs : List ExprId) (x : ExprId) (b : Bool)
    → length (if b then xs else xs ++ (x ∷ [])) ≤ 1 + length xs
variable_length xs x true = omega arith
variable_length xs x false = omega (arith, length-append xs (x ∷ []))

-- one name, by whether it was among those before
module _ (n : AnyName) (x : HintsSoFar) (names : List Name) where
  abbrev text : Name
  text = name_text n

  abbrev number : ExprId
  number = (named x.0 text).1

  one_halved : (b : Bool) → is_among names text ≡ b → AreHalved names x
      → AreHalved (if not b then names ++ (text ∷ []) else names) (with_halved n x)
  one_halved true e h =
      let old = found_halved x text names h.each e in
      let same : old.0 ≡ number = number_once (named x.0 text).0 text old.0 number
      (named_keeps x.0 text text old.0 old.1) (named_has x.0 text) in
      let among : list_any (same_number number) x.1.halves ≡ true =
      subst (λ i. list_any (same_number i) x.1.halves ≡ true) same old.2 in
      let kept : with_variable x.1.halves number ≡ x.1.halves =
      ap (λ b. if b then x.1.halves else x.1.halves ++ (number ∷ [])) among in
      let s = h.short in
      record {
        short = omega (arith, s, ap length kept);
        each = all_halved x (with_halved n x) (named_keeps x.0 text) (λ i. variable_more x.1.halves
            number i (list_any (same_number number) x.1.halves)) names h.each;
      }
  one_halved false e h =
      let s = h.short in
      record {
        short = omega (
          arith,
          s,
          length-append names (text ∷ []),
          variable_length x.1.halves number (list_any (same_number number) x.1.halves),
        );
        each = all_last (IsHalved (with_halved n x)) names text
            (all_halved x (with_halved n x) (named_keeps x.0 text) (λ i. variable_more x.1.halves
            number i (list_any (same_number number) x.1.halves)) names h.each) (
              number,
              named_has x.0 text,
              variable_there x.1.halves number (list_any (same_number number) x.1.halves) refl,
            );
      }

-- ---- words

-- what may be due where no variable of a split stands, and whether such variables are halved stays
abbrev IsNoSplit : Due → Type 0
IsNoSplit d.SplitName = ⊥
IsNoSplit r = Unit {0}

inner_no_split : (r : Due) → IsInner r → IsNoSplit r
inner_no_split d.SplitName h = absurd h
inner_no_split r h = tt

role_halved : (seen : Seen) (r : Due) (w : Word) → IsNoSplit r
    → halved_after seen.names.halved seen.counts.halves (split_name r w) ≡ seen.names.halved
role_halved seen d.SplitName w h = absurd h
role_halved seen r w h = refl

quiet_halved : (ls : List Leaf) (seen last : Seen) → EachRole IsNoSplit ls → Passes seen ls last
    → last.names.halved ≡ seen.names.halved
quiet_halved [] seen last h p = subst (λ (z : Seen). z.names.halved ≡ seen.names.halved) p refl
quiet_halved (l ∷ ls) seen last h p =
    quiet_halved ls (seen_after p.0 seen l.role l.word) last h.1 p.3
    ∙ role_halved seen l.role l.word h.0

expr_quiet : (e : Expr) → EachRole IsNoSplit (expr_leaves e)
expr_quiet e = each_as IsInner IsNoSplit inner_no_split (expr_leaves e) (expr_inner e)

then_quiet : (e : Expr) (ls : List Leaf) → EachRole IsNoSplit ls
    → EachRole IsNoSplit (expr_leaves e ++ ls)
then_quiet e ls h = each_of_both IsNoSplit (expr_leaves e) ls (expr_quiet e) h

part_is_no_split : (r : Due) → IsOfPart r → IsNoSplit r
part_is_no_split d.SplitName h = absurd h
part_is_no_split r h = tt

needs_quiet : (n : Needs) → EachRole IsNoSplit (needs_leaves n)
needs_quiet n = each_as IsOfPart IsNoSplit part_is_no_split (needs_leaves n) (needs_roles n)

cut_quiet : (c : CutForm) → EachRole IsNoSplit (cut_leaves c)
cut_quiet c = each_as IsOfPart IsNoSplit part_is_no_split (cut_leaves c) (cut_roles c)

-- ---- what is known stays while hints are read

need_keeps : (n : Need) (x : NeedsSoFar) → Keeps x.0 (with_need n x).0
need_keeps (nonzero e t) x = expr_keeps None e x.0
need_keeps (below e b) x = expr_keeps None e x.0
need_keeps (not_above e b) x = expr_keeps None e x.0
need_keeps (above e b) x = expr_keeps None e x.0
need_keeps (not_below e b) x = expr_keeps None e x.0

need_list_keeps : (l : NeedList) (x : NeedsSoFar) → Keeps x.0 (with_need_list l x).0
need_list_keeps (last_need n) x = need_keeps n x
need_list_keeps (more_needs n l) x = keeps_both (need_keeps n x) (need_list_keeps l (with_need n x))

pub needs_keep : (n : Needs) (k : Known) → Keeps k (needs_value n k).0
needs_keep always k = keeps_itself k
needs_keep (provided l) k = need_list_keeps l (k, [])

-- ---- hints

abbrev Halves : Seen → HintsSoFar → Type 0
Halves seen x = AreHalved seen.names.halved x

-- a name where variables are halved
name_halves : (n : AnyName) (x : HintsSoFar) (seen last : Seen)
    → Passes seen (name_leaves d.SplitName n) last → seen.counts.halves ≡ true → Halves seen x
    → Halves last (with_halved n x)
name_halves n x seen last p on h = subst (λ l. AreHalved l (with_halved n x)) (sym (names n p))
    (one_halved n x seen.names.halved (is_among seen.names.halved (name_text n)) refl h)
  where
    names : (n : AnyName) → Passes seen (name_leaves d.SplitName n) last
        → last.names.halved ≡ (if not (is_among seen.names.halved (name_text n))
        then seen.names.halved ++ (name_text n ∷ []) else seen.names.halved)
    names (plain k t) p = subst (λ (z : Seen). z.names.halved
        ≡ (if not (is_among seen.names.halved t) then seen.names.halved ++ (t ∷ [])
        else seen.names.halved)) p.3 (ap (λ b. halved_after seen.names.halved b (Some t)) on)
    names (operator k t) p = subst (λ (z : Seen). z.names.halved
        ≡ (if not (is_among seen.names.halved t) then seen.names.halved ++ (t ∷ [])
        else seen.names.halved)) p.3 (ap (λ b. halved_after seen.names.halved b (Some t)) on)

name_on : (n : AnyName) (seen last : Seen) → Passes seen (name_leaves d.SplitName n) last
    → last.counts.halves ≡ seen.counts.halves
name_on (plain k t) seen last p =
    subst (λ (z : Seen). z.counts.halves ≡ seen.counts.halves) p.3 refl
name_on (operator k t) seen last p =
    subst (λ (z : Seen). z.counts.halves ≡ seen.counts.halves) p.3 refl

names_halve : (l : Names) (x : HintsSoFar) (seen last : Seen) → Passes seen (names_leaves l) last
    → seen.counts.halves ≡ true → Halves seen x → Halves last (with_names l x)
names_halve (last_name n) x seen last p on h = name_halves n x seen last p on h
names_halve (more_names n l) x seen last p on h =
    let both = passes_both (name_leaves d.SplitName n) _ seen last p in
    let rest = both.2 in
    names_halve l (with_halved n x) (seen_after rest.0 both.0 d.SplitNames (sign s.Comma)) last
    rest.3 (name_on n seen both.0 both.1 ∙ on) (name_halves n x seen both.0 both.1 on h)

-- words without split variables, beside nodes that join
quiet_halves : (ls : List Leaf) (x : HintsSoFar) (j : Known) (seen last : Seen)
    → EachRole IsNoSplit ls → Passes seen ls last → Keeps x.0 j
    → Halves seen x → Halves last (j, x.1)
quiet_halves ls x j seen last q p k h = subst (λ l. AreHalved l (j, x.1))
    (sym (quiet_halved ls seen last q p)) (later_halved seen.names.halved x j k h)

-- the roles of the signs behind the goals that variables are halved for
abbrev IsTurn : Due → Type 0
IsTurn r = (r ≡ d.HintRest) ⊎ (r ≡ d.GoalSplit)

turn_quiet : (r : Due) → IsTurn r → IsNoSplit r
turn_quiet r (inl e) = subst IsNoSplit (sym e) tt
turn_quiet r (inr e) = subst IsNoSplit (sym e) tt

turned : (r : Due) → IsTurn r → (v : Notes) (m : Seen) (w : Word)
    → (seen_after v m r w).counts.halves ≡ true
turned r (inl e) v m w = ap (λ r. (seen_after v m r w).counts.halves) e
turned r (inr e) v m w = ap (λ r. (seen_after v m r w).counts.halves) e

-- one word that is no variable of a split
one_quiet : (x : HintsSoFar) (v : Notes) (m : Seen) (r : Due) (w : Word) → IsNoSplit r → Halves m x
    → Halves (seen_after v m r w) x
one_quiet x v m r w q h = subst (λ l. AreHalved l x) (sym (role_halved m r w q)) h

halving_halves : (l : Halving) (x : HintsSoFar) (r : Due) (seen last : Seen) → IsTurn r
    → Passes seen (halving_leaves r l) last → Halves seen x → Halves last (with_halving l x)
halving_halves (halved_by e n) x r seen last on p h =
    let both = passes_both (expr_leaves e) _ seen last p in
    let rest = both.2 in
    let y : HintsSoFar = ((expr_value None e x.0).0, x.1) in
    let a : Halves both.0 y = quiet_halves (expr_leaves e) x (expr_value None e x.0).0 seen both.0
    (expr_quiet e) both.1 (expr_keeps None e x.0) h in
    names_halve n y (seen_after rest.0 both.0 r (sign s.Dollar)) last rest.3
    (turned r on rest.0 both.0 (sign s.Dollar))
    (one_quiet y rest.0 both.0 r (sign s.Dollar) (turn_quiet r on) a)
halving_halves (with_goal e l) x r seen last on p h =
    let both = passes_both (expr_leaves e) _ seen last p in
    let rest = both.2 in
    let y : HintsSoFar = ((expr_value None e x.0).0, x.1) in
    let a : Halves both.0 y = quiet_halves (expr_leaves e) x (expr_value None e x.0).0 seen both.0
    (expr_quiet e) both.1 (expr_keeps None e x.0) h in
    halving_halves l y d.GoalSplit (seen_after rest.0 both.0 r (sign s.Comma)) last
    (inr refl) rest.3 (one_quiet y rest.0 both.0 r (sign s.Comma) (turn_quiet r on) a)

-- a name of a cut isn't halved
name_off : (n : AnyName) (seen last : Seen) → Passes seen (name_leaves d.SplitName n) last
    → seen.counts.halves ≡ false → last.names.halved ≡ seen.names.halved
name_off (plain k t) seen last p off = subst (λ (z : Seen). z.names.halved ≡ seen.names.halved) p.3
    (ap (λ b. halved_after seen.names.halved b (Some t)) off)
name_off (operator k t) seen last p off = subst (λ (z : Seen). z.names.halved
    ≡ seen.names.halved) p.3 (ap (λ b. halved_after seen.names.halved b (Some t)) off)

hint_halves : (l : Hint) (x : HintsSoFar) (seen last : Seen) → Passes seen (hint_leaves l) last
    → Halves seen x → Halves last (with_hint l x)
hint_halves (rewrite a b n) x seen last p h =
    let y = (expr_value None a x.0).0 in
    let z = (expr_value None b y).0 in
    let w = quiet_halves (hint_leaves (rewrite a b n)) x
    (needs_value n z).0 seen last (then_quiet a _ (tt, then_quiet b _ (needs_quiet n))) p
    (keeps_both (expr_keeps None a x.0) (keeps_both (expr_keeps None b y) (needs_keep n z))) h in
    record { short = w.short; each = w.each }
hint_halves (like a b) x seen last p h =
    let y = (expr_value None a x.0).0 in
    let w = quiet_halves (hint_leaves (like a b)) x (expr_value None b y).0 seen last (then_quiet a
    _ (tt, expr_quiet b)) p (keeps_both (expr_keeps None a x.0) (expr_keeps None b y)) h in
    record { short = w.short; each = w.each }
hint_halves (split n c) x seen last p h =
    let next = seen_after p.0 seen d.Hints (sign s.Dollar) in
    let both = passes_both (name_leaves d.SplitName n) _ next last p.3 in
    let same = quiet_halved (cut_leaves c) both.0 last (cut_quiet c) both.2
    ∙ name_off n next both.0 both.1 refl in
    let k = (named x.0 (name_text n)).0 in
    let w : AreHalved last.names.halved (k, x.1) = subst (λ l. AreHalved l (k, x.1)) (sym same)
    (later_halved seen.names.halved x k (named_keeps x.0 (name_text n)) h) in
    record { short = w.short; each = w.each }
hint_halves (halving l) x seen last p h = halving_halves l x d.HintRest seen last (inl refl) p h

hints_halve : (l : Hints) (x : HintsSoFar) (seen last : Seen) → Passes seen (hints_leaves l) last
    → Halves seen x → Halves last (with_hints l x)
hints_halve no_hint x seen last p h = subst (λ (z : Seen). Halves z x) p h
hints_halve (hint n l) x seen last p h =
    let both = passes_both (hint_leaves n) _ seen last p in
    let rest = both.2 in
    let a = hint_halves n x seen both.0 both.1 h in
    hints_halve l (with_hint n x)
    (seen_after rest.0 both.0 d.Semicolon (sign s.Semicolon)) last rest.3 a

-- ---- nothing is halved before the hints

prop_is_no_split : (r : Due) → IsOfProp r → IsNoSplit r
prop_is_no_split d.SplitName h = absurd h
prop_is_no_split r h = tt

prop_quiet : (p : Prop) → EachRole IsNoSplit (prop_leaves p)
prop_quiet p = each_as IsOfProp IsNoSplit prop_is_no_split (prop_leaves p) (prop_roles p)

stated_quiet : (p : Stated) → EachRole IsNoSplit (stated_leaves p)
stated_quiet (affirmed p) = prop_quiet p
stated_quiet (denied p) = (tt, prop_quiet p)

formula_quiet : (f : Formula) → EachRole IsNoSplit (formula_leaves f)
formula_quiet (single p) = stated_quiet p
formula_quiet (and f p) =
    each_of_both IsNoSplit (formula_leaves f) _ (formula_quiet f) (tt, stated_quiet p)
formula_quiet (or f p) =
    each_of_both IsNoSplit (formula_leaves f) _ (formula_quiet f) (tt, stated_quiet p)
formula_quiet (implies f p) =
    each_of_both IsNoSplit (formula_leaves f) _ (formula_quiet f) (tt, stated_quiet p)

how_quiet : (h : How) → EachRole IsNoSplit (how_leaves h)
how_quiet exactly = (tt, tt)
how_quiet (rounded_by c t) = (tt, (tt, tt))
how_quiet (rounded_apart o) = each_of_both IsNoSplit (operator_leaves d.DefinedBy o) _
    (operator_roles IsNoSplit d.DefinedBy o tt inner_no_split) (tt, (tt, tt))
how_quiet (rounded_joined o) = each_of_both IsNoSplit (operator_leaves d.DefinedBy o) _
    (operator_roles IsNoSplit d.DefinedBy o tt inner_no_split) (tt, tt)

definition_quiet : (x : Definition) → EachRole IsNoSplit (definition_leaves x)
definition_quiet (names_operator n o) = (
  tt,
  each_of_both IsNoSplit (name_leaves d.NewName n) _ (name_roles IsNoSplit d.NewName n tt) (
    tt,
    each_of_both IsNoSplit (operator_leaves d.Operator o) _
        (operator_roles IsNoSplit d.Operator o tt inner_no_split) (tt, (tt, tt)),
  ),
)
definition_quiet (names_value n h e) =
    each_of_both IsNoSplit (name_leaves d.Script n) _ (name_roles IsNoSplit d.Script n tt)
    (each_of_both IsNoSplit (how_leaves h) _ (how_quiet h) (then_quiet e _ (tt, tt)))

-- the judge's place before the hints, where nothing is halved yet
abbrev IsClean : Seen → Type 0
IsClean seen = seen.names.halved ≡ []

record HalvesPass (h : Hints) : Type 0 where
  before : Seen
  behind : Seen
  passes : Passes before (hints_leaves h) behind
  clean : IsClean before
  few : length behind.names.halved ≤ 4

script_halves : (tree : Script) (seen last : Seen) → Passes seen (script_leaves tree) last
    → IsClean seen → length last.names.halved ≤ 4 → HalvesPass (hints_of tree)
script_halves (formula f h) seen last p clean few =
    let opened = seen_after p.0 seen d.Script (sign s.OpenBrace) in
    let both = passes_both (formula_leaves f) _ opened last p.3 in
    let rest = both.2 in
    let closed = seen_after rest.0 both.0 d.CloseBrace (sign s.CloseBrace) in
    record {
      before = closed;
      behind = last;
      passes = rest.3;
      clean = quiet_halved (formula_leaves f) opened both.0 (formula_quiet f) both.1 ∙ clean;
      few = few;
    }
script_halves (define x rest) seen last p clean few =
    let both = passes_both (definition_leaves x) (script_leaves rest) seen last p in
    script_halves rest both.0 last both.2
    (quiet_halved (definition_leaves x) seen both.0 (definition_quiet x) both.1 ∙ clean) few

halves_pass : (tree : Script) (said : Option Said)
    → Judged 0 (nothing_seen said) (script_leaves tree) None → HalvesPass (hints_of tree)
halves_pass tree said j =
    let start = nothing_seen said in
    let all = passes_all (script_leaves tree) 0 start j in
    script_halves tree start all.0 all.1 refl
    (all_few (script_leaves tree) start all.0 all.1 (omega arith))

behind_few : (tree : Script) (k : Known) → HalvesPass (hints_of tree)
    → length (hints_behind tree k).halves ≤ 4
behind_few (formula f h) k p =
    let x : HintsSoFar = ((formula_claims f k).known, no_hints) in
    let start : Halves p.before x =
    subst (λ l. AreHalved l x) (sym p.clean) (record { short = omega arith; each = tt }) in
    let a = hints_halve h x p.before p.behind p.passes start in
    let b = a.short in
    let c = p.few in
    omega arith
behind_few (define x rest) k p = behind_few rest (definition_value x k) p

pub halves_are_few : (tree : Script) (k : Known) (said : Option Said)
    → Judged 0 (nothing_seen said) (script_leaves tree) None
    → length (hints_behind tree k).halves ≤ 4
halves_are_few tree k said j = behind_few tree k (halves_pass tree said j)
