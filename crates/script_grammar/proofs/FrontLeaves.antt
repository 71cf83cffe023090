-- Where the front of a script ends among its words: at the first `}`.
use Rattle.std.proofs.Common.{◌≡◌, ℕ, zero, suc, ◌+◌, ◌≤◌, ◌<◌, List, [], ◌∷◌, ◌++◌, length, map}
use Rattle.std.proofs.Common.{take, drop, Some, None, Bool, true, false, if◌then◌else◌, refl, sym}
use Rattle.std.proofs.Common.{ap, ◌∙◌, subst, option_to_list, arith}
use Rattle.std.proofs.lemmas.List.{take-take, take-append-drop}
use Rattle.script_words.specs.declared.class.Symbol.TheVariants as s
use Rattle.script_words.specs.declared.lex.Token.{Token}
use Rattle.script_words.specs.Words.{Word, sign}
use Rattle.script_words.specs.Named.{Naming, naming_after, defined_by, token_word, words_from}
use Rattle.script_shape.specs.declared.due.Due.{Due}
use Rattle.script_shape.specs.declared.due.Due.TheVariants as d
use Rattle.script_shape.specs.Propositions.{Stated, affirmed, denied, Formula, single, and, or}
use Rattle.script_shape.specs.Propositions.{implies}
use Rattle.script_shape.specs.Hints.{no_hint}
use Rattle.script_shape.specs.Tree.{Definition, Script, formula, define}
use Rattle.script_shape.specs.Roles.{Leaf, at, prop_leaves, stated_leaves, formula_leaves}
use Rattle.script_shape.specs.Roles.{hints_leaves, definition_leaves, script_leaves, HasRoles}
use Rattle.script_shape.proofs.Inner.{EachRole, each_as, each_of_both}
use Rattle.script_nodes.specs.Defining.{define_word, opens_formula}
use Rattle.script_claims.specs.Claims.{no_sides}
use Rattle.script_claims.specs.Reads.{state_of, read_claim}
use Rattle.script_judge.specs.Names.{split_name}
use Rattle.script_judge.specs.Said.{Said, Says}
use Rattle.script_judge.specs.Front.{Front, defining, claiming, ended, closes_formula}
use Rattle.script_judge.specs.Front.{front_closed, front_after, read_front, front_said, no_front}
use Rattle.script_judge.specs.Front.{said_in, front_leaves, ReadsFronts}
use Rattle.script_judge.specs.Judging.{SplitsNone}
use Rattle.script_judge.proofs.FrontsRead.{StaysAt, formula_stays, script_said}
use Rattle.script_grammar.specs.Judgement.{formula_end, has_formula}
use Rattle.script_grammar.proofs.FewHints.{hints_of}
use Rattle.script_grammar.proofs.WordRoles.{IsOfDefinition, IsOfProp, definition_roles, prop_roles}

abbrev pub roles : List Leaf → List Due
roles ls = map (λ l. l.role) ls

-- ---- where there is no `}` nothing is said

-- the formula hasn't ended
abbrev IsOpen : Front → Type 0
IsOpen (ended x sides) = ⊥
IsOpen f = Unit {0}

still_open : (b : Bool) (x y : Front) → IsOpen x → IsOpen y → IsOpen (if b then x else y)
still_open true x y p q = p
still_open false x y p q = q

only_later : (b : Bool) (x y : Front) → b ≡ false → IsOpen y → IsOpen (if b then x else y)
only_later true x y e q = absurd (cc e)
only_later false x y e q = q

open_after : (r : Due) (w : Word) (f : Front) → closes_formula r ≡ false → IsOpen f
    → IsOpen (front_after r w f)
unfolding front_after
open_after r w (defining p) e o = still_open (opens_formula r w)
    (claiming (state_of p.reading no_sides)) (defining (define_word r w p)) tt tt
open_after r w (claiming st) e o = only_later (closes_formula r)
    (front_closed (read_claim r w st)) (claiming (read_claim r w st)) e tt
open_after r w (ended x sides) e o = absurd o

said_open : (f : Front) → IsOpen f → front_said f ≡ None
said_open (defining p) o = refl
said_open (claiming st) o = refl
said_open (ended x sides) o = absurd o

neither : (b more : Bool) → (if b then true else more) ≡ false → (b ≡ false) × (more ≡ false)
neither true more e = absurd (cc e)
neither false more e = (refl, e)

all_open : (ls : List Leaf) (f : Front) → has_formula (roles ls) ≡ false → IsOpen f
    → IsOpen (read_front ls f)
unfolding read_front
all_open [] f e o = o
all_open (l ∷ ls) f e o =
    let n = neither (closes_formula l.role) (has_formula (roles ls)) e in
    all_open ls (front_after l.role l.word f) n.1 (open_after l.role l.word f n.0 o)

pub nothing_said : (ls : List Leaf) → has_formula (roles ls) ≡ false → said_in ls ≡ None
nothing_said ls e = said_open (read_front ls no_front) (all_open ls no_front e tt)

-- ---- behind it what is said stays

front_joined : (a b : List Leaf) (f : Front) → read_front (a ++ b) f ≡ read_front b (read_front a f)
unfolding read_front
front_joined [] b f = refl
front_joined (l ∷ a) b f = front_joined a b (front_after l.role l.word f)

said_stays : (ls : List Leaf) (f : Front) (x : Said) → front_said f ≡ Some x
    → front_said (read_front ls f) ≡ Some x
unfolding read_front front_after
said_stays [] f x e = e
said_stays (l ∷ ls) (defining p) x e = absurd (cc e)
said_stays (l ∷ ls) (claiming st) x e = absurd (cc e)
said_stays (l ∷ ls) (ended y sides) x e = said_stays ls (ended y sides) x e

pub said_by_front : (ls : List Leaf) (n : ℕ) (x : Said)
    → front_said (read_front (take n ls) no_front) ≡ Some x → said_in ls ≡ Some x
said_by_front ls n x e =
    ap said_in (sym (take-append-drop n ls))
    ∙ ap front_said (front_joined (take n ls) (drop n ls) no_front)
    ∙ said_stays (drop n ls) (read_front (take n ls) no_front) x e

-- ---- the front of a tree

abbrev IsNoEnd : Due → Type 0
IsNoEnd d.CloseBrace = ⊥
IsNoEnd r = Unit {0}

stays_no_end : (r : Due) → StaysAt r → IsNoEnd r
stays_no_end d.CloseBrace h = absurd h
stays_no_end r h = tt

part_no_end : (r : Due) → IsOfDefinition r → IsNoEnd r
part_no_end d.CloseBrace h = absurd h
part_no_end r h = tt

no_end : (r : Due) → IsNoEnd r → closes_formula r ≡ false
no_end d.CloseBrace h = absurd h
no_end r h = refl

-- leaves with no `}` before others
taken_behind : (a b : List Leaf) → EachRole IsNoEnd a
    → take (formula_end (roles (a ++ b))) (a ++ b) ≡ a ++ take (formula_end (roles b)) b
taken_behind [] b h = refl
taken_behind (l ∷ a) b h =
    ap (λ x. take (if x then 1 else suc (formula_end (roles (a ++ b)))) (l ∷ (a ++ b)))
    (no_end l.role h.0) ∙ ap (λ ls. l ∷ ls) (taken_behind a b h.1)

left_behind : (a b : List Leaf) → EachRole IsNoEnd a
    → drop (formula_end (roles (a ++ b))) (a ++ b) ≡ drop (formula_end (roles b)) b
left_behind [] b h = refl
left_behind (l ∷ a) b h =
    ap (λ x. drop (if x then 1 else suc (formula_end (roles (a ++ b)))) (l ∷ (a ++ b)))
    (no_end l.role h.0) ∙ left_behind a b h.1

definition_no_end : (x : Definition) → EachRole IsNoEnd (definition_leaves x)
definition_no_end x =
    each_as IsOfDefinition IsNoEnd part_no_end (definition_leaves x) (definition_roles x)

formula_no_end : (f : Formula) → EachRole IsNoEnd (formula_leaves f)
formula_no_end f = each_as StaysAt IsNoEnd stays_no_end (formula_leaves f) (formula_stays f)

-- the leaves up to the first `}` are the front
pub front_taken : (tree : Script)
    → take (formula_end (roles (script_leaves tree))) (script_leaves tree) ≡ front_leaves tree
front_taken (formula f h) = ap (λ ls. at d.Script (sign s.OpenBrace) ∷ ls)
    (taken_behind (formula_leaves f) (at d.CloseBrace (sign s.CloseBrace) ∷ hints_leaves h)
    (formula_no_end f))
front_taken (define x rest) =
    taken_behind (definition_leaves x) (script_leaves rest) (definition_no_end x)
    ∙ ap (λ ls. definition_leaves x ++ ls) (front_taken rest)

-- and those behind it are the hints
pub front_left : (tree : Script)
    → drop (formula_end (roles (script_leaves tree))) (script_leaves tree)
    ≡ hints_leaves (hints_of tree)
front_left (formula f h) =
    left_behind (formula_leaves f) (at d.CloseBrace (sign s.CloseBrace) ∷ hints_leaves h)
    (formula_no_end f)
front_left (define x rest) =
    left_behind (definition_leaves x) (script_leaves rest) (definition_no_end x)
    ∙ front_left rest

-- ---- no word of it splits a variable

abbrev IsNoSplit : Due → Type 0
IsNoSplit d.SplitName = ⊥
IsNoSplit r = Unit {0}

no_split : (r : Due) (w : Word) → IsNoSplit r → split_name r w ≡ None
no_split d.SplitName w h = absurd h
no_split r w h = refl

part_no_split : (r : Due) → IsOfDefinition r → IsNoSplit r
part_no_split d.SplitName h = absurd h
part_no_split r h = tt

prop_no_split : (r : Due) → IsOfProp r → IsNoSplit r
prop_no_split d.SplitName h = absurd h
prop_no_split r h = tt

stated_no_split : (p : Stated) → EachRole IsNoSplit (stated_leaves p)
stated_no_split (affirmed p) =
    each_as IsOfProp IsNoSplit prop_no_split (prop_leaves p) (prop_roles p)
stated_no_split (denied p) =
    (tt, each_as IsOfProp IsNoSplit prop_no_split (prop_leaves p) (prop_roles p))

formula_no_split : (f : Formula) → EachRole IsNoSplit (formula_leaves f)
formula_no_split (single p) = stated_no_split p
formula_no_split (and f p) =
    each_of_both IsNoSplit (formula_leaves f) _ (formula_no_split f) (tt, stated_no_split p)
formula_no_split (or f p) =
    each_of_both IsNoSplit (formula_leaves f) _ (formula_no_split f) (tt, stated_no_split p)
formula_no_split (implies f p) =
    each_of_both IsNoSplit (formula_leaves f) _ (formula_no_split f) (tt, stated_no_split p)

front_no_split : (tree : Script) → EachRole IsNoSplit (front_leaves tree)
front_no_split (formula f h) =
    (tt, each_of_both IsNoSplit (formula_leaves f) _ (formula_no_split f) (tt, tt))
front_no_split (define x rest) = each_of_both IsNoSplit (definition_leaves x) _
    (each_as IsOfDefinition IsNoSplit part_no_split (definition_leaves x) (definition_roles x))
    (front_no_split rest)

-- of leaves up to the first `}`, where there is one
abbrev IsUnsplit : List Leaf → Type 0
IsUnsplit ls = EachRole IsNoSplit (take (formula_end (roles ls)) ls)

some_unsplit : (n : ℕ) (ls : List Leaf) → IsUnsplit ls → IsUnsplit (take n ls)
some_unsplit zero ls h = tt
some_unsplit (suc n) [] h = tt
some_unsplit (suc n) (l ∷ ls) h = by_test (closes_formula l.role) h (some_unsplit n ls)
  where
    by_test : (b : Bool)
        → EachRole IsNoSplit (take (if b then 1 else suc (formula_end (roles ls))) (l ∷ ls))
        → (IsUnsplit ls → IsUnsplit (take n ls))
        → EachRole IsNoSplit
        (take (if b then 1 else suc (formula_end (roles (take n ls)))) (l ∷ take n ls))
    by_test true k later = (k.0, tt)
    by_test false k later = (k.0, later k.1)

at_place : (n k : ℕ) (ls : List Leaf) → EachRole IsNoSplit (take n ls) → k < n
    → SplitsNone (drop k ls)
at_place zero k ls h e = absurd (omega (arith, e))
at_place (suc n) zero [] h e = tt
at_place (suc n) (suc k) [] h e = tt
at_place (suc n) zero (l ∷ ls) h e = no_split l.role l.word h.0
at_place (suc n) (suc k) (l ∷ ls) h e = at_place n k ls h.1 (omega (arith, e))

-- none of the leaves that begin a script does before the first `}`
pub unsplit : (tree : Script) (n k : ℕ)
    → k < formula_end (roles (take n (script_leaves tree)))
    → SplitsNone (drop k (take n (script_leaves tree)))
unsplit tree n k h =
    let all : IsUnsplit (script_leaves tree) =
    subst (EachRole IsNoSplit) (sym (front_taken tree)) (front_no_split tree) in
    at_place (formula_end (roles (take n (script_leaves tree)))) k (take n (script_leaves tree))
    (some_unsplit n (script_leaves tree) all) h

-- ---- leaves that begin a script

-- the first `}` of what begins with such leaves, where there is one
pub same_end : (n : ℕ) (ls : List Leaf) → has_formula (roles (take n ls)) ≡ true
    → (formula_end (roles (take n ls)) ≡ formula_end (roles ls)) × (formula_end (roles ls) ≤ n)
same_end zero ls h = absurd (cc h)
same_end (suc n) [] h = absurd (cc h)
same_end (suc n) (l ∷ ls) h = by_test (closes_formula l.role) h (same_end n ls)
  where
    by_test : (b : Bool) → (if b then true else has_formula (roles (take n ls))) ≡ true
        → (has_formula (roles (take n ls)) ≡ true
        → (formula_end (roles (take n ls)) ≡ formula_end (roles ls)) × (formula_end (roles ls) ≤ n))
        → ((if b then 1 else suc (formula_end (roles (take n ls))))
        ≡ (if b then 1 else suc (formula_end (roles ls))))
        × ((if b then 1 else suc (formula_end (roles ls))) ≤ suc n)
    by_test true e more = (refl, omega arith)
    by_test false e more =
        let m = more e in (ap (λ k. suc k) m.0, let k = m.1 in omega (arith, k))

-- a whole script has one
has_later : (a b : List Leaf) → has_formula (roles b) ≡ true → has_formula (roles (a ++ b)) ≡ true
has_later [] b h = h
has_later (l ∷ a) b h = by_test (closes_formula l.role) (has_later a b h)
  where
    by_test : (t : Bool) → has_formula (roles (a ++ b)) ≡ true
        → (if t then true else has_formula (roles (a ++ b))) ≡ true
    by_test true m = refl
    by_test false m = m

pub formula_ends : (tree : Script) → has_formula (roles (script_leaves tree)) ≡ true
formula_ends (formula f h) = has_later (at d.Script (sign s.OpenBrace) ∷ formula_leaves f)
    (at d.CloseBrace (sign s.CloseBrace) ∷ hints_leaves h) refl
formula_ends (define x rest) =
    has_later (definition_leaves x) (script_leaves rest) (formula_ends rest)

-- a script without its hints
abbrev pub alone : Script → Script
alone (formula f h) = formula f no_hint
alone (define x rest) = define x (alone rest)

pub alone_leaves : (tree : Script) → script_leaves (alone tree) ≡ front_leaves tree
alone_leaves (formula f h) = refl
alone_leaves (define x rest) = ap (λ ls. definition_leaves x ++ ls) (alone_leaves rest)

-- what leaves that begin a script say, read one after the other, is what they say
module _ (fronts : ReadsFronts) (tree : Script) (n : ℕ) where
  abbrev begun : List Leaf
  begun = take n (script_leaves tree)

  closed : has_formula (roles begun) ≡ true → Says begun (said_in begun)
  closed h =
      let same = same_end n (script_leaves tree) h in
      let end = formula_end (roles begun) in
      let front : take end begun ≡ script_leaves (alone tree) =
      take-take end n (script_leaves tree) (subst (λ k. k ≤ n) (sym same.0) same.1)
      ∙ ap (λ k. take k (script_leaves tree)) same.0 ∙ front_taken tree
      ∙ sym (alone_leaves tree) in
      let all : begun ≡ script_leaves (alone tree) ++ drop end begun =
      sym (take-append-drop end begun) ∙ ap (λ ls. ls ++ drop end begun) front in
      subst (Says begun)
      (sym (ap said_in all ∙ script_said fronts (alone tree) (drop end begun)))
      (alone tree, drop end begun, all, refl)

  unclosed : has_formula (roles begun) ≡ false → Says begun (said_in begun)
  unclosed h =
      let none = nothing_said begun h in
      subst (Says begun) (sym none) (λ other rest e. absurd (cc (sym none
      ∙ ap said_in e ∙ script_said fronts other rest)))

  pub says_read : Says begun (said_in begun)
  says_read = by_test (has_formula (roles begun)) refl
    where
      by_test : (b : Bool) → has_formula (roles begun) ≡ b → Says begun (said_in begun)
      by_test true e = closed e
      by_test false e = unclosed e

pub leaves_say : ReadsFronts → (leaves : List Leaf) {ws : List Word} → HasRoles ws leaves
    → Says leaves (said_in leaves)
leaves_say fronts leaves {ws} h =
    subst (λ ls. Says ls (said_in ls)) h.roles (says_read fronts h.tree (length ws))

-- ---- words

pub words_taken : (text : List ℕ) (n : Naming) (ops : List (List ℕ)) (k : ℕ) (ts : List Token)
    → words_from text n ops (take k ts) ≡ take k (words_from text n ops ts)
words_taken text n ops zero ts = refl
words_taken text n ops (suc k) [] = refl
words_taken text n ops (suc k) (t ∷ ts) =
    let w = token_word text ops t in
    ap (λ l. w ∷ l)
    (words_taken text (naming_after n w) (option_to_list (defined_by n w) ++ ops) k ts)
