-- Names of operators are marked: no operand of a text is one of them.
use Rattle.std.proofs.Common.{◌≡◌, ℕ, List, [], ◌∷◌, ◌++◌, length, take, map, Option, Some, None}
use Rattle.std.proofs.Common.{option_to_list, Bool, true, false, if◌then◌else◌, refl, sym, ap, ◌∙◌}
use Rattle.std.proofs.Common.{subst, append-nil}
use Rattle.std.proofs.lemmas.List.{length-map}
use Rattle.std.proofs.Math.Seq.{take-length}
use Rattle.script_words.specs.declared.class.Class.{Class}
use Rattle.script_words.specs.declared.class.Class.TheVariants.{Sign}
use Rattle.script_words.specs.declared.class.Symbol.TheVariants as s
use Rattle.script_words.specs.declared.lex.Token.{Token}
use Rattle.script_words.specs.declared.lex.TokenKind.{TokenKind}
use Rattle.script_words.specs.declared.lex.TokenKind.TheVariants as kind
use Rattle.script_words.specs.Words.{Word, name, rounding, literal, sign, class_of}
use Rattle.script_words.specs.Named.{spelled_of, name_word, kind_word, token_text, token_word}
use Rattle.script_words.specs.Named.{Naming, nothing, after_at, after_name, pending, naming_after}
use Rattle.script_words.specs.Named.{defined_by, words_from}
use Rattle.script_shape.specs.declared.due.Due.{Due}
use Rattle.script_shape.specs.declared.due.Due.TheVariants as d
use Rattle.script_shape.specs.Tree.{Script, script_words}
use Rattle.script_shape.specs.Table.{takes, role_of}
use Rattle.script_shape.specs.Shape.{step, role_at_top, role_next, start}
use Rattle.script_shape.specs.ShapeLaw.{grown, roles_from, RolesAreUnique}
use Rattle.script_shape.specs.Roles.{Leaf, HasRoles, script_leaves, LeavesSpell}
use Rattle.script_shape.proofs.Inner.{EachRole}
use Rattle.script_judge.specs.Names.{Name, is_among}

-- ---- the signs `=`, `;` and `@` have roles of their own

abbrev TakesEqual : Due → Type 0
TakesEqual d.DefinedBy = Unit {0}
TakesEqual d.Equal = Unit {0}
TakesEqual r = ⊥

abbrev TakesSemicolon : Due → Type 0
TakesSemicolon d.Semicolon = Unit {0}
TakesSemicolon r = ⊥

abbrev TakesAt : Due → Type 0
TakesAt d.Script = Unit {0}
TakesAt d.Prop = Unit {0}
TakesAt r = ⊥

abbrev Fits : Due → Class → Type 0
Fits r (Sign s.Equal) = TakesEqual r
Fits r (Sign s.Semicolon) = TakesSemicolon r
Fits r (Sign s.At) = TakesAt r
Fits r c = Unit {0}

top_fits : (c : Class) (r : Due) (new : List Due) → takes r c ≡ Some new → Fits (role_of r c) c
top_fits (Sign s.Equal) d.DefinedBy new e = tt
top_fits (Sign s.Equal) d.Equal new e = tt
top_fits (Sign s.Equal) r new e = absurd (cc e)
top_fits (Sign s.Semicolon) d.Semicolon new e = tt
top_fits (Sign s.Semicolon) r new e = absurd (cc e)
top_fits (Sign s.At) d.Script new e = tt
top_fits (Sign s.At) d.Claim new e = tt
top_fits (Sign s.At) d.Prop new e = tt
top_fits (Sign s.At) r new e = absurd (cc e)
top_fits c r new e = tt

role_fits : (c : Class) (left : List Due) (r : Due) → role_next c left ≡ Some r → Fits r c
unfolding role_next
role_fits c [] r e = absurd (cc e)
role_fits c (x ∷ left) r e = by_top (takes x c) refl e (role_fits c left r)
  where
    by_top : (o : Option (List Due))
        → takes x c ≡ o → role_at_top o (role_of x c) (role_next c left) ≡ Some r
        → (role_next c left ≡ Some r → Fits r c) → Fits r c
    by_top (Some new) t e more = let same : role_of x c ≡ r = cc in
        subst (λ r. Fits r c) same (top_fits c x new t)
    by_top None t e more = more e

abbrev AllFit : List Leaf → Type 0
AllFit [] = Unit {0}
AllFit (l ∷ ls) = Fits l.role (class_of l.word) × AllFit ls

stack_fits : (ws : List Word) (left : List Due) → AllFit (roles_from ws left)
unfolding roles_from
stack_fits [] left = tt
stack_fits (w ∷ ws) left =
    by_role (role_next (class_of w) left) refl (step (class_of w) left) (stack_fits ws)
  where
    by_role : (o : Option Due) → role_next (class_of w) left ≡ o → (p : Option (List Due))
        → ((more : List Due) → AllFit (roles_from ws more)) → AllFit (grown o w p (roles_from ws))
    by_role (Some r) e (Some more) f = (role_fits (class_of w) left r e, f more)
    by_role (Some r) e None f = tt
    by_role None e p f = tt

leaf_count : LeavesSpell → (tree : Script)
    → length (script_words tree) ≡ length (script_leaves tree)
leaf_count spell tree =
    ap length (sym (spell tree)) ∙ length-map (script_leaves tree) (λ (l : Leaf). l.word)

script_fits : LeavesSpell → RolesAreUnique → (tree : Script) → AllFit (script_leaves tree)
script_fits spell once tree =
    let ws = script_words tree in
    let h : HasRoles ws (take (length ws) (script_leaves tree)) =
    record { tree = tree; words = ([], sym (append-nil ws)); roles = refl } in
    let all : take (length ws) (script_leaves tree) ≡ script_leaves tree = ap
    (λ n. take n (script_leaves tree)) (leaf_count spell tree) ∙ take-length (script_leaves tree) in
    subst AllFit (sym (once ws (take (length ws) (script_leaves tree)) h)
    ∙ all) (stack_fits ws start)

-- ---- words of a text

-- a name that is no operator's is none of these
abbrev pub Free : List Name → Word → Type 0
Free ops (name k text) = is_among ops text ≡ false
Free ops w = Unit {0}

abbrev pub AllFree : List Name → List Leaf → Type 0
AllFree ops [] = Unit {0}
AllFree ops (l ∷ ls) = Free ops l.word × AllFree ops ls

-- each is, where these operators are defined before and the definition has come so far
abbrev pub Marked : List Name → Naming → List Leaf → Type 0
Marked ops n [] = Unit {0}
Marked ops n (l ∷ ls) = Free ops l.word × Fits l.role (class_of l.word)
    × Marked (option_to_list (defined_by n l.word) ++ ops) (naming_after n l.word) ls

name_free : (ops : List Name) (text : Name) → Free ops (name_word ops text)
name_free ops text = by_test (is_among ops text) refl
  where
    by_test : (b : Bool) → is_among ops text ≡ b
        → Free ops (if b then rounding (spelled_of text) text else name (spelled_of text) text)
    by_test true e = tt
    by_test false e = e

kind_free : (ops : List Name) (k : TokenKind) (text : Name) → Free ops (kind_word ops k text)
kind_free ops kind.Name text = name_free ops text
kind_free ops kind.Literal text = tt
kind_free ops (kind.Sign g) text = tt

words_marked : (text : List ℕ) (n : Naming) (ops : List Name) (ts : List Token) (ls : List Leaf)
    → words_from text n ops ts ≡ map (λ l. l.word) ls → AllFit ls → Marked ops n ls
words_marked text n ops [] [] e f = tt
words_marked text n ops [] (l ∷ ls) e f = absurd (cc e)
words_marked text n ops (t ∷ ts) [] e f = absurd (cc e)
words_marked text n ops (t ∷ ts) (l ∷ ls) e f =
    let w = token_word text ops t in
    let same : w ≡ l.word = cc in
    let more : words_from text (naming_after n w) (option_to_list (defined_by n w) ++ ops) ts
    ≡ map (λ (l : Leaf). l.word) ls = cc in (
      subst (Free ops) same (kind_free ops t.kind (token_text text t)),
      f.0,
      words_marked text (naming_after n l.word) (option_to_list (defined_by n l.word) ++ ops) ts ls
          (subst (λ w. words_from text (naming_after n w) (option_to_list (defined_by n w) ++ ops)
          ts ≡ map (λ (l : Leaf). l.word) ls) same more) f.1,
    )

pub script_marked : LeavesSpell
    → RolesAreUnique → (text : List ℕ) (tokens : List Token) (tree : Script)
    → words_from text nothing [] tokens ≡ script_words tree → Marked [] nothing (script_leaves tree)
script_marked spell once text tokens tree e = words_marked text nothing [] tokens
    (script_leaves tree) (e ∙ sym (spell tree)) (script_fits spell once tree)

-- ---- words that begin no definition of an operator

abbrev pub IsCalm : Naming → Type 0
IsCalm (pending text) = ⊥
IsCalm n = Unit {0}

-- neither `=` nor what begins a definition is due
abbrev pub IsBody : Due → Type 0
IsBody d.Script = ⊥
IsBody d.NewName = ⊥
IsBody d.DefinedBy = ⊥
IsBody d.Equal = ⊥
IsBody r = Unit {0}

no_equal : (r : Due) → IsBody r → Fits r (Sign s.Equal) → ⊥
no_equal d.DefinedBy h f = h
no_equal d.Equal h f = h
no_equal r h f = f

record IsCalmBehind (n : Naming) (w : Word) : Type 0 where
  calm : IsCalm (naming_after n w)
  none : defined_by n w ≡ None

calm_behind : (n : Naming) (w : Word) (r : Due) → IsCalm n → IsBody r
    → Fits r (class_of w) → IsCalmBehind n w
calm_behind (pending text) w r c h f = absurd c
calm_behind nothing (name k text) r c h f = record { calm = tt; none = refl }
calm_behind nothing (rounding k text) r c h f = record { calm = tt; none = refl }
calm_behind nothing (literal k text) r c h f = record { calm = tt; none = refl }
calm_behind nothing (sign s.At) r c h f = record { calm = tt; none = refl }
calm_behind nothing (sign g) r c h f = record { calm = tt; none = refl }
calm_behind after_at (name k text) r c h f = record { calm = tt; none = refl }
calm_behind after_at (rounding k text) r c h f = record { calm = tt; none = refl }
calm_behind after_at (literal k text) r c h f = record { calm = tt; none = refl }
calm_behind after_at (sign s.At) r c h f = record { calm = tt; none = refl }
calm_behind after_at (sign g) r c h f = record { calm = tt; none = refl }
calm_behind (after_name t) (name k text) r c h f = record { calm = tt; none = refl }
calm_behind (after_name t) (rounding k text) r c h f = record { calm = tt; none = refl }
calm_behind (after_name t) (literal k text) r c h f = record { calm = tt; none = refl }
calm_behind (after_name t) (sign s.Equal) r c h f = absurd (no_equal r h f)
calm_behind (after_name t) (sign s.At) r c h f = record { calm = tt; none = refl }
calm_behind (after_name t) (sign g) r c h f = record { calm = tt; none = refl }

-- what a part of the words leaves
pub record IsFreeTo (ops : List Name) (a b : List Leaf) (last : Naming) : Type 0 where
  pub free : AllFree ops a
  pub rest : Marked ops last b

pub calm_words : (ops : List Name) (a b : List Leaf) (n : Naming) → IsCalm n → EachRole IsBody a
    → Marked ops n (a ++ b) → (last : Naming) × IsCalm last × IsFreeTo ops a b last
calm_words ops [] b n c h m = (n, c, record { free = tt; rest = m })
calm_words ops (l ∷ a) b n c h m =
    let next = calm_behind n l.word l.role c h.0 m.1 in
    let more = calm_words ops a b (naming_after n l.word) next.calm h.1 (subst
    (λ o. Marked (option_to_list o ++ ops) (naming_after n l.word) (a ++ b)) next.none m.2) in
    let part = more.2 in
    (more.0, more.1, record { free = (m.0, part.free); rest = part.rest })

-- ---- definitions

-- no `@` is due
abbrev pub IsLow : Due → Type 0
IsLow d.Script = ⊥
IsLow d.Prop = ⊥
IsLow r = Unit {0}

no_at : (r : Due) → IsLow r → Fits r (Sign s.At) → ⊥
no_at d.Script h f = h
no_at d.Prop h f = h
no_at r h f = f

nothing_behind : (w : Word) (r : Due) → IsLow r → Fits r (class_of w)
    → naming_after nothing w ≡ nothing
nothing_behind (name k text) r h f = refl
nothing_behind (rounding k text) r h f = refl
nothing_behind (literal k text) r h f = refl
nothing_behind (sign s.At) r h f = absurd (no_at r h f)
nothing_behind (sign g) r h f = refl

pub nothing_words : (ops : List Name) (a b : List Leaf) → EachRole IsLow a
    → Marked ops nothing (a ++ b) → IsFreeTo ops a b nothing
nothing_words ops [] b h m = record { free = tt; rest = m }
nothing_words ops (l ∷ a) b h m =
    let more = nothing_words ops a b h.1
    (subst (λ n. Marked ops n (a ++ b)) (nothing_behind l.word l.role h.0 m.1) m.2) in
    record { free = (m.0, more.free); rest = more.rest }

-- no `;` is due
abbrev pub IsOpen : Due → Type 0
IsOpen d.Semicolon = ⊥
IsOpen r = Unit {0}

no_end : (r : Due) → IsOpen r → Fits r (Sign s.Semicolon) → ⊥
no_end d.Semicolon h f = h
no_end r h f = f

record IsPendingBehind (text : Name) (w : Word) : Type 0 where
  same : naming_after (pending text) w ≡ pending text
  none : defined_by (pending text) w ≡ None

pending_behind : (t : Name) (w : Word) (r : Due) → IsOpen r
    → Fits r (class_of w) → IsPendingBehind t w
pending_behind t (name k text) r h f = record { same = refl; none = refl }
pending_behind t (rounding k text) r h f = record { same = refl; none = refl }
pending_behind t (literal k text) r h f = record { same = refl; none = refl }
pending_behind t (sign s.Semicolon) r h f = absurd (no_end r h f)
pending_behind t (sign g) r h f = record { same = refl; none = refl }

pub pending_words : (ops : List Name) (t : Name) (a b : List Leaf) → EachRole IsOpen a
    → Marked ops (pending t) (a ++ b) → Marked ops (pending t) b
pending_words ops t [] b h m = m
pending_words ops t (l ∷ a) b h m =
    let next = pending_behind t l.word l.role h.0 m.1 in
    pending_words ops t a b h.1 (subst (λ n. Marked ops n (a ++ b)) next.same (subst (λ o.
    Marked (option_to_list o ++ ops) (naming_after (pending t) l.word) (a ++ b)) next.none m.2))

pub free_both : (ops : List Name) (a b : List Leaf) → AllFree ops (a ++ b)
    → AllFree ops a × AllFree ops b
free_both ops [] b f = (tt, f)
free_both ops (l ∷ a) b f = let more = free_both ops a b f.1 in ((f.0, more.0), more.1)
