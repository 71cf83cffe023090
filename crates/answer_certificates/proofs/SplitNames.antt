-- What hints split are variables: the judge refuses a name that has a definition.
use Rattle.std.specs.Prelude.{◌≡◌, ℕ, ◌+◌, List, [], ◌∷◌, ◌++◌, Option, Some, None, Bool, true}
use Rattle.std.specs.Prelude.{false, ◌||◌, if◌then◌else◌, refl}
use Rattle.std.specs.List.{AllByRecursion, list_any}
use Rattle.std.specs.Str.{bytes_eq}
use Rattle.std.proofs.Common.{sym, ap, ◌∙◌, subst, append_assoc}
use Rattle.std.proofs.lemmas.Slice.Eq.{bytes_eq-Decides}
use Rattle.std.proofs.lemmas.Bool.{or_right}
use Rattle.fx_model.specs.declared.ExprId.{ExprId}
use Rattle.fx_model.specs.declared.Node.{Node}
use Rattle.fx_model.specs.declared.Node.TheVariants.{Var}
use Rattle.facts.proofs.CommonParts.{all_as, all_last}
use Rattle.script_words.specs.declared.class.Symbol.TheVariants as s
use Rattle.script_words.specs.Words.{Word, name, rounding, sign}
use Rattle.script_shape.specs.declared.due.Due.{Due}
use Rattle.script_shape.specs.declared.due.Due.TheVariants as d
use Rattle.script_shape.specs.Expressions.{AnyName, plain, operator, Expr}
use Rattle.script_shape.specs.Tree.{How, exactly, rounded_by, rounded_apart, rounded_joined}
use Rattle.script_shape.specs.Tree.{names_operator, names_value, Script, formula, define}
use Rattle.script_shape.specs.Hints.{Names, last_name, more_names, Halving, halved_by, with_goal}
use Rattle.script_shape.specs.Hints.{Hint, rewrite, like, split, halving, Hints, no_hint, hint}
use Rattle.script_shape.specs.Roles.{Leaf, at, name_leaves, operator_leaves, expr_leaves}
use Rattle.script_shape.specs.Roles.{cut_leaves, names_leaves, halving_leaves, hint_leaves}
use Rattle.script_shape.specs.Roles.{hints_leaves, how_leaves, formula_leaves, definition_leaves}
use Rattle.script_shape.specs.Roles.{script_leaves}
use Rattle.script_shape.proofs.Inner.{EachRole, IsInner, each_of_both, each_as, operator_roles}
use Rattle.script_shape.proofs.Inner.{expr_inner}
use Rattle.script_cases.proofs.Lists.{all_front, all_behind}
use Rattle.script_judge.specs.Names.{is_among, is_some_among, with_some, ended, pending_after}
use Rattle.script_judge.specs.Names.{defines, split_name}
use Rattle.script_judge.specs.Said.{Said}
use Rattle.script_judge.specs.Judge.{Seen, seen_after, Judged, nothing_seen}
use Rattle.script_nodes.specs.Known.{Name, Known, entry_of, with_entry, named, nothing_known}
use Rattle.script_nodes.specs.Values.{expr_value}
use Rattle.script_nodes.specs.Definitions.{name_text, rounding_by, definition_value}
use Rattle.script_claims.specs.Claims.{formula_claims}
use Rattle.script_hints.specs.Hints.{with_variable, needs_value, HintsSoFar, with_halved}
use Rattle.script_hints.specs.Hints.{with_names, with_halving, with_hint, with_hints, no_hints}
use Rattle.script_hints.specs.Hints as hints
use Rattle.script_grammar.specs.Meaning.{meaning_from}
use Rattle.cert_checker.specs.Faults.{IsVariable}
use Rattle.answer_certificates.proofs.Keeping.{expr_so, formula_so, needs_so, sides_so}
use Rattle.answer_certificates.proofs.Numbered.{Stays, stays_itself, put_stays, named_stays}
use Rattle.answer_certificates.proofs.Numbered.{named_at}
use Rattle.answer_certificates.proofs.Passed.{one_passed, split_plain}

-- ---- lists

-- ---- names that the judge has seen defined
abbrev Among : List Name → Name → Type 0
Among names text = is_among names text ≡ true

abbrev IsMore : List Name → List Name → Type 0
IsMore old new = (text : Name) → Among old text → Among new text

more_some : (o : Option Name) (names : List Name) → IsMore names (with_some o names)
more_some None names text h = h
more_some (Some n) names text h = or_right (bytes_eq n text) (is_among names text) h

not_before : (a b : Bool) → (a ≡ true → b ≡ true) → b ≡ false → a ≡ false
not_before true b f h = sym (f refl) ∙ h
not_before false b f h = refl

-- a word that splits has a name that isn't among these
abbrev IsApart : List Name → Leaf → Type 0
IsApart names l = (text : Name) → split_name l.role l.word ≡ Some text → is_among names text ≡ false

splits_apart : (names : List Name) (ls : List Leaf) (i : ℕ) (seen : Seen) → Judged i seen ls None
    → IsMore names seen.names.defined → AllByRecursion (IsApart names) ls
splits_apart names [] i seen j more = tt
splits_apart names (l ∷ ls) i seen j more =
    let o = one_passed i seen l ls j in
    let apart = split_plain o.notes seen l ls o.passes in
    let later = ended l.role seen.names.pending in (
      λ text e. not_before (is_among names text) (is_among seen.names.defined text) (more text)
          (ap (is_some_among seen.names.defined) (sym e) ∙ apart),
      splits_apart names ls (i + 1) (seen_after o.notes seen l.role l.word) o.rest
          (λ text h. more_some later seen.names.defined text (more text h)),
    )

-- ---- words one behind the other

-- what stands before the later words, with all names that were defined before
record Behind (names : List Name) (b : List Leaf) : Type 0 where
  last : Seen
  index : ℕ
  judged : Judged index last b None
  more : IsMore names last.names.defined

behind : (names : List Name) (a b : List Leaf) (i : ℕ) (seen : Seen) → Judged i seen (a ++ b) None
    → IsMore names seen.names.defined → Behind names b
behind names [] b i seen j more = record { last = seen; index = i; judged = j; more = more }
behind names (l ∷ a) b i seen j more =
    let o = one_passed i seen l (a ++ b) j in
    behind names a b (i + 1) (seen_after o.notes seen l.role l.word) o.rest
    (λ text h. more_some (ended l.role seen.names.pending) seen.names.defined text (more text h))

-- what is due where no definition begins or ends
abbrev IsWithin : Due → Type 0
IsWithin d.Script = ⊥
IsWithin d.NewName = ⊥
IsWithin d.Semicolon = ⊥
IsWithin r = Unit {0}

still_pending : (old : Option Name) (r : Due) (w : Word) → IsWithin r
    → pending_after old r (defines r w) ≡ old
still_pending old d.Script w h = absurd h
still_pending old d.NewName w h = absurd h
still_pending old d.Semicolon w h = absurd h
still_pending old r w h = refl

-- the same where moreover the definition of a name goes on
record BehindPending (names : List Name) (text : Name) (b : List Leaf) : Type 0 where
  to : Behind names b
  pending : to.last.names.pending ≡ Some text

goes_on : (names : List Name) (text : Name) (a b : List Leaf) (i : ℕ) (seen : Seen)
    → EachRole IsWithin a → Judged i seen (a ++ b) None → IsMore names seen.names.defined
    → seen.names.pending ≡ Some text → BehindPending names text b
goes_on names text [] b i seen w j more e =
    record { to = record { last = seen; index = i; judged = j; more = more }; pending = e }
goes_on names text (l ∷ a) b i seen w j more e =
    let o = one_passed i seen l (a ++ b) j in
    goes_on names text a b (i + 1) (seen_after o.notes seen l.role l.word) w.1 o.rest
    (λ t h. more_some (ended l.role seen.names.pending) seen.names.defined t (more t h))
    (still_pending seen.names.pending l.role l.word w.0 ∙ e)

inner_within : (r : Due) → IsInner r → IsWithin r
inner_within d.Script h = absurd h
inner_within d.NewName h = absurd h
inner_within d.Semicolon h = absurd h
inner_within r h = tt

how_within : (h : How) → EachRole IsWithin (how_leaves h)
how_within exactly = (tt, tt)
how_within (rounded_by k text) = (tt, (tt, tt))
how_within (rounded_apart o) = each_of_both IsWithin (operator_leaves d.DefinedBy o) _
    (operator_roles IsWithin d.DefinedBy o tt inner_within) (tt, (tt, tt))
how_within (rounded_joined o) = each_of_both IsWithin (operator_leaves d.DefinedBy o) _
    (operator_roles IsWithin d.DefinedBy o tt inner_within) (tt, tt)

expr_within : (e : Expr) → EachRole IsWithin (expr_leaves e)
expr_within e = each_as IsInner IsWithin inner_within (expr_leaves e) (expr_inner e)

abbrev end : Leaf
end = at d.Semicolon (sign s.Semicolon)

-- behind its name a definition makes it one of those that are defined
record BehindDefined (names : List Name) (text : Name) (b : List Leaf) : Type 0 where
  to : Behind names b
  defined : Among to.last.names.defined text

text_first : (text : Name) (names : List Name) → Among (text ∷ names) text
text_first text names = ap (λ b. b || is_among names text) ((bytes_eq-Decides text text).1 refl)

name_ends : (names : List Name) (text : Name) (b : List Leaf) (i : ℕ) (seen : Seen)
    → Judged i seen (end ∷ b) None → IsMore names seen.names.defined
    → seen.names.pending ≡ Some text → BehindDefined names text b
name_ends names text b i seen j more e =
    let o = one_passed i seen end b j in
    record {
      to = record {
        last = seen_after o.notes seen d.Semicolon (sign s.Semicolon);
        index = i + 1;
        judged = o.rest;
        more = λ t h. more_some seen.names.pending seen.names.defined t (more t h);
      };
      defined = subst (λ p. Among (with_some p seen.names.defined) text) (sym e)
          (text_first text seen.names.defined);
    }

value_ends : (names : List Name) (text : Name) (h : How) (e : Expr) (b : List Leaf) (i : ℕ)
    (seen : Seen) → Judged i seen ((how_leaves h ++ (expr_leaves e ++ (end ∷ []))) ++ b) None
    → IsMore names seen.names.defined
    → seen.names.pending ≡ Some text → BehindDefined names text b
value_ends names text h e b i seen j more p =
    let q : (how_leaves h ++ (expr_leaves e ++ (end ∷ []))) ++ b
    ≡ how_leaves h ++ (expr_leaves e ++ (end ∷ b)) =
    append_assoc (how_leaves h) (expr_leaves e ++ (end ∷ [])) b
    ∙ ap (λ ls. how_leaves h ++ ls) (append_assoc (expr_leaves e) (end ∷ []) b) in
    let x = goes_on names text (how_leaves h) (expr_leaves e ++ (end ∷ b)) i seen (how_within h)
    (subst (λ ls. Judged i seen ls None) q j) more p in
    let y = goes_on names text (expr_leaves e)
    (end ∷ b) x.to.index x.to.last (expr_within e) x.to.judged x.to.more x.pending in
    name_ends names text b y.to.index y.to.last y.to.judged y.to.more y.pending

value_defined : (names : List Name) (n : AnyName) (h : How) (e : Expr) (b : List Leaf)
    (i : ℕ) (seen : Seen) → Judged i seen (definition_leaves (names_value n h e) ++ b) None
    → IsMore names seen.names.defined
    → BehindDefined names (name_text n) b
value_defined names (plain k text) h e b i seen j more =
    let o = one_passed i seen (at d.Script (name k text)) _ j in
    value_ends names text h e b (i + 1)
    (seen_after o.notes seen d.Script (name k text)) o.rest more refl
value_defined names (operator k text) h e b i seen j more =
    let o = one_passed i seen (at d.Script (rounding k text)) _ j in
    value_ends names text h e b (i + 1)
    (seen_after o.notes seen d.Script (rounding k text)) o.rest more refl

-- ---- names with values are among them

abbrev AreAmong : List Name → List (Name × ExprId) → Type 0
AreAmong names es = AllByRecursion (λ (e : Name × ExprId). Among names e.0) es

entry_joins : (names : List Name) (es : List (Name × ExprId)) (text : Name) (x : ExprId)
    → AreAmong names es → Among names text → AreAmong names (with_entry es text x)
entry_joins names [] text x h a = (a, tt)
entry_joins names (e ∷ es) text x h a =
    by_test (bytes_eq text e.0) (entry_joins names es text x h.1 a)
  where
    by_test : (b : Bool) → AreAmong names (with_entry es text x)
        → AreAmong names (if b then (e.0, x) ∷ es else e ∷ with_entry es text x)
    by_test true more = (h.0, h.1)
    by_test false more = (h.0, more)

no_entry : (names : List Name) (es : List (Name × ExprId)) (text : Name) → AreAmong names es
    → is_among names text ≡ false → entry_of es text ≡ None
no_entry names [] text h a = refl
no_entry names (e ∷ es) text h a = by_test (bytes_eq text e.0) refl (no_entry names es text h.1 a)
  where
    by_test : (b : Bool) → bytes_eq text e.0 ≡ b → entry_of es text ≡ None
        → (if b then Some e.1 else entry_of es text) ≡ None
    by_test true q more =
        let same : text ≡ e.0 = (bytes_eq-Decides text e.0).0 q in
        let there : is_among names text ≡ true = ap (is_among names) same ∙ h.0 in
        let no : true ≡ false = sym there ∙ a in
        absurd (cc no)
    by_test false q more = more

-- ---- hints

expr_stays : (k : Known) (e : Expr) → Stays k (expr_value None e k).0
expr_stays k e = expr_so (Stays k) (put_stays k) (named_stays k) None e k (stays_itself k)

module _ (names : List Name) (values : List (Name × ExprId)) (among : AreAmong names values) where
  -- names have these values, and what is split so far are variables
  record AreSplit (s : HintsSoFar) : Type 0 where
    same : s.0.values ≡ values
    order : AllByRecursion (IsVariable s.0.nodes) s.1.order

  -- the same with more nodes
  split_later : (j : Known) (s : HintsSoFar) → Stays s.0 j → AreSplit s → AreSplit (j, s.1)
  split_later j s k a = record {
    same = k.values ∙ a.same;
    order = all_as (IsVariable s.0.nodes) (IsVariable j.nodes)
        (λ x v. (v.0, k.nodes x (Var v.0) v.1)) s.1.order a.order;
  }

  variable_joins : (nodes : List Node) (xs : List ExprId) (x : ExprId)
      → AllByRecursion (IsVariable nodes) xs → IsVariable nodes x
      → AllByRecursion (IsVariable nodes) (with_variable xs x)
  variable_joins nodes xs x h v = by_test (list_any (hints.same_number x) xs)
    where
      by_test : (b : Bool) → AllByRecursion (IsVariable nodes) (if b then xs else xs ++ (x ∷ []))
      by_test true = h
      by_test false = all_last (IsVariable nodes) xs x h v

  name_joins : (text : Name) (s : HintsSoFar) → is_among names text ≡ false
      → AreSplit s → AllByRecursion (IsVariable (named s.0 text).0.nodes)
      (with_variable s.1.order (named s.0 text).1)
  name_joins text s n a =
      let later = split_later (named s.0 text).0 s
      (named_stays s.0 s.0 text (stays_itself s.0)) a in
      let none : entry_of s.0.values text ≡ None =
      ap (λ es. entry_of es text) a.same ∙ no_entry names values text among n in
      variable_joins (named s.0 text).0.nodes s.1.order (named s.0 text).1 later.order
      (named_at s.0 text none)

  name_values : (text : Name) (s : HintsSoFar) → AreSplit s → (named s.0 text).0.values ≡ values
  name_values text s a = let k = named_stays s.0 s.0 text (stays_itself s.0) in k.values ∙ a.same

  name_apart : (n : AnyName) (rest : List Leaf)
      → AllByRecursion (IsApart names) (name_leaves d.SplitName n ++ rest)
      → is_among names (name_text n) ≡ false
  name_apart (plain k text) rest h = h.0 text refl
  name_apart (operator k text) rest h = h.0 text refl

  name_split : (n : AnyName) (s : HintsSoFar) → is_among names (name_text n) ≡ false → AreSplit s
      → AreSplit (with_halved n s)
  name_split n s h a =
      record { same = name_values (name_text n) s a; order = name_joins (name_text n) s h a }

  names_split : (l : Names) (s : HintsSoFar) → AllByRecursion (IsApart names) (names_leaves l)
      → AreSplit s → AreSplit (with_names l s)
  names_split (last_name (plain k text)) s h a = name_split (plain k text) s (h.0 text refl) a
  names_split (last_name (operator k text)) s h a = name_split (operator k text) s (h.0 text refl) a
  names_split (more_names n l) s h a =
      let one = name_split n s (name_apart n _ h) a in
      names_split l (with_halved n s)
      (all_behind (IsApart names) (name_leaves d.SplitName n) _ h).1 one

  expr_split : (e : Expr) (s : HintsSoFar) → AreSplit s → AreSplit ((expr_value None e s.0).0, s.1)
  expr_split e s a = split_later (expr_value None e s.0).0 s (expr_stays s.0 e) a

  halving_split : (r : Due) (x : Halving) (s : HintsSoFar)
      → AllByRecursion (IsApart names) (halving_leaves r x) → AreSplit s
      → AreSplit (with_halving x s)
  halving_split r (halved_by e n) s h a = names_split n ((expr_value None e s.0).0, s.1)
      (all_behind (IsApart names) (expr_leaves e) _ h).1 (expr_split e s a)
  halving_split r (with_goal e x) s h a =
      halving_split d.GoalSplit x ((expr_value None e s.0).0, s.1)
      (all_behind (IsApart names) (expr_leaves e) _ h).1 (expr_split e s a)

  hint_split : (x : Hint) (s : HintsSoFar) → AllByRecursion (IsApart names) (hint_leaves x)
      → AreSplit s → AreSplit (with_hint x s)
  hint_split (rewrite a b n) s h i =
      let k = sides_so (Stays s.0) (put_stays s.0) (named_stays s.0) a b s.0 (stays_itself s.0) in
      let j = needs_so (Stays s.0) (put_stays s.0)
      (named_stays s.0) n (expr_value None b (expr_value None a s.0).0).0 k in
      let l = split_later (needs_value n (expr_value None b (expr_value None a s.0).0).0).0 s j i in
      record { same = l.same; order = l.order }
  hint_split (like a b) s h i =
      let l = split_later (expr_value None b (expr_value None a s.0).0).0 s
      (sides_so (Stays s.0) (put_stays s.0) (named_stays s.0) a b s.0 (stays_itself s.0)) i in
      record { same = l.same; order = l.order }
  hint_split (split n c) s h i =
      let apart = name_apart n (cut_leaves c) h.1 in
      record { same = name_values (name_text n) s i; order = name_joins (name_text n) s apart i }
  hint_split (halving x) s h i = halving_split d.HintRest x s h i

  hints_split : (l : Hints) (s : HintsSoFar) → AllByRecursion (IsApart names) (hints_leaves l)
      → AreSplit s → AreSplit (with_hints l s)
  hints_split no_hint s h a = a
  hints_split (hint x l) s h a =
      hints_split l (with_hint x s) (all_behind (IsApart names) (hint_leaves x) _ h).1
      (hint_split x s (all_front (IsApart names) (hint_leaves x) _ h) a)

-- ---- scripts

among_more : (old new : List Name) (es : List (Name × ExprId)) → IsMore old new
    → AreAmong old es → AreAmong new es
among_more old new es more h = all_as (λ (e : Name × ExprId). Among old e.0)
    (λ (e : Name × ExprId). Among new e.0) (λ e a. more e.0 a) es h

tree_split : (tree : Script) (k : Known) (i : ℕ) (seen : Seen)
    → Judged i seen (script_leaves tree) None → AreAmong seen.names.defined k.values
    → AllByRecursion (IsVariable (meaning_from tree k).known.nodes)
    (meaning_from tree k).hints.order
tree_split (formula f h) k i seen j among =
    let names = seen.names.defined in
    let stays = formula_so (Stays k) (put_stays k) (named_stays k) f k (stays_itself k) in
    let apart = splits_apart names (script_leaves (formula f h)) i seen j (λ t a. a) in
    let behind_formula = all_behind (IsApart names) (formula_leaves f) _ apart.1 in
    (hints_split names k.values among h ((formula_claims f k).known, no_hints) behind_formula.1
    (record { same = stays.values; order = tt })).order
tree_split (define (names_operator n o) rest) k i seen j among =
    let b = behind seen.names.defined (definition_leaves (names_operator n o))
    (script_leaves rest) i seen j (λ t a. a) in
    tree_split rest (definition_value (names_operator n o) k) b.index b.last b.judged
    (among_more seen.names.defined b.last.names.defined k.values b.more among)
tree_split (define (names_value n h e) rest) k i seen j among =
    let v = value_defined seen.names.defined n h e (script_leaves rest) i seen j (λ t a. a) in
    let b = v.to in
    let p = expr_value (rounding_by k h) e k in
    let stays = expr_so (Stays k) (put_stays k) (named_stays k)
    (rounding_by k h) e k (stays_itself k) in
    let old : AreAmong b.last.names.defined k.values =
    among_more seen.names.defined b.last.names.defined k.values b.more among in
    let same : AreAmong b.last.names.defined p.0.values =
    subst (AreAmong b.last.names.defined) (sym stays.values) old in
    tree_split rest (definition_value (names_value n h e) k) b.index b.last b.judged
    (entry_joins b.last.names.defined p.0.values (name_text n) p.1 same v.defined)

-- In a script whose words pass the judge, all that hints split are variables.
pub splits_are_variables : (tree : Script) (said : Option Said)
    → Judged 0 (nothing_seen said) (script_leaves tree) None
    → AllByRecursion (IsVariable (meaning_from tree nothing_known).known.nodes)
    (meaning_from tree nothing_known).hints.order
splits_are_variables tree said j = tree_split tree nothing_known 0 (nothing_seen said) j tt
