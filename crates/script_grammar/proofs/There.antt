-- Names whose node is in the list already.
use Rattle.std.proofs.Common.{◌≡◌, suc, ◌+◌, ◌<◌, ◌≤◌, List, [], ◌∷◌, ◌++◌, length, Option, Some}
use Rattle.std.proofs.Common.{None, Bool, true, false, not, cond, ◌&&◌, ◌||◌, if◌then◌else◌, refl}
use Rattle.std.proofs.Common.{sym, ap, ◌∙◌, nat_lt, arith, le_refl, lt-ltb, le-ltb, length-append}
use Rattle.std.specs.List.{list_any, position, position_or_len}
use Rattle.std.specs.Option.{is_some}
use Rattle.std.specs.Str.{bytes_eq}
use Rattle.std.proofs.lemmas.List.Folds.{list_any-append}
use Rattle.std.proofs.lemmas.Slice.Eq.{bytes_eq-Decides}
use Rattle.std.proofs.lemmas.Bool.{and_parts, and_from, or_right}
use Rattle.fx_model.specs.declared.ExprId.{ExprId}
use Rattle.fx_model.specs.declared.Node.{Node}
use Rattle.fx_model.specs.declared.Node.TheVariants.{Var}
use Rattle.expr_dag.specs.Nodes.{same_node, numbered, place_of, placed, with_node}
use Rattle.expr_dag.proofs.Same.{itself}
use Rattle.script_nodes.specs.Known.{Name, Known, PlacedNode, entry_of, with_entry, put}
use Rattle.script_nodes.specs.Known.{variables_with, variable_put, name_put, named}
use Rattle.script_nodes.specs.Definitions.{with_value}

-- ---- places

module _ {A : Type 0} (p : A → Bool) where
  pub past : (xs : List A) → list_any p xs ≡ false → position_or_len p xs ≡ length xs
  past [] h = refl
  past (x ∷ xs) h = by_test (p x) h (past xs)
    where
      by_test : (b : Bool) → (b || list_any p xs) ≡ false
          → (list_any p xs ≡ false → position_or_len p xs ≡ length xs)
          → cond (not b) (1 + position_or_len p xs) 0 ≡ suc (length xs)
      by_test true h more = cc
      by_test false h more = let k = more h in omega arith

  within : (xs : List A) → list_any p xs ≡ true → position_or_len p xs < length xs
  within [] h = cc
  within (x ∷ xs) h = by_test (p x) h (within xs)
    where
      by_test : (b : Bool) → (b || list_any p xs) ≡ true
          → (list_any p xs ≡ true → position_or_len p xs < length xs)
          → cond (not b) (1 + position_or_len p xs) 0 < suc (length xs)
      by_test true h more = omega arith
      by_test false h more = let k = more h in omega arith

  pub stays : (xs ys : List A) → list_any p xs ≡ true
      → position_or_len p (xs ++ ys) ≡ position_or_len p xs
  stays [] ys h = cc
  stays (x ∷ xs) ys h = by_test (p x) h (stays xs ys)
    where
      by_test : (b : Bool) → (b || list_any p xs) ≡ true
          → (list_any p xs ≡ true → position_or_len p (xs ++ ys) ≡ position_or_len p xs)
          → cond (not b) (1 + position_or_len p (xs ++ ys)) 0
          ≡ cond (not b) (1 + position_or_len p xs) 0
      by_test true h more = refl
      by_test false h more = ap (λ n. 1 + n) (more h)

  -- one more that passes
  pub joins : (xs : List A) (y : A) → p y ≡ true
      → position_or_len p (xs ++ y ∷ []) ≡ position_or_len p xs
  joins [] y h = ap (λ b. cond (not b) 1 0) h
  joins (x ∷ xs) y h = ap (λ n. cond (not (p x)) (1 + n) 0) (joins xs y h)

  pub any_before : (xs ys : List A) → list_any p xs ≡ true → list_any p (xs ++ ys) ≡ true
  any_before xs ys h = list_any-append p xs ys ∙ ap (λ b. b || list_any p ys) h

  pub any_last : (xs : List A) (y : A) → p y ≡ true → list_any p (xs ++ y ∷ []) ≡ true
  any_last [] y h = ap (λ b. b || false) h
  any_last (x ∷ xs) y h = by_test (p x) (any_last xs y h)
    where
      by_test : (b : Bool) → list_any p (xs ++ y ∷ []) ≡ true
          → (b || list_any p (xs ++ y ∷ [])) ≡ true
      by_test true h = refl
      by_test false h = h

  -- the place of the first that passes
  pub found_place : (xs : List A) → list_any p xs ≡ true
      → position p xs ≡ Some (position_or_len p xs)
  found_place xs h = ap (λ b. cond b (Some (position_or_len p xs)) None) (lt-ltb _ _ (within xs h))

  pub no_place : (xs : List A) → list_any p xs ≡ false → position p xs ≡ None
  no_place xs h = ap (λ i. cond (nat_lt i (length xs)) (Some i) None) (past xs h)
      ∙ ap (λ b. cond b (Some (length xs)) None)
      (le-ltb (length xs) (length xs) (le_refl (length xs)))

-- ---- nodes

abbrev pub has_node : List Node → Node → Bool
has_node nodes n = list_any (same_node n) nodes

pub node_stays : (nodes : List Node) (n m : Node) (o : Option ExprId) → has_node nodes n ≡ true
    → has_node (placed nodes m o).0 n ≡ true
node_stays nodes n m (Some x) h = h
node_stays nodes n m None h = any_before (same_node n) nodes (m ∷ []) h

pub absent : (nodes : List Node) (n : Node) → has_node nodes n ≡ false → place_of nodes n ≡ None
absent nodes n h = ap (λ i. numbered (cond (nat_lt i (length nodes)) (Some i) None))
    (past (same_node n) nodes h) ∙ ap (λ b. numbered (cond b (Some (length nodes)) None))
    (le-ltb (length nodes) (length nodes) (le_refl (length nodes)))

pub found : (nodes : List Node) (n : Node) → has_node nodes n ≡ true
    → place_of nodes n ≡ Some (record { 0 = position_or_len (same_node n) nodes })
found nodes n h = ap (λ b. numbered (cond b (Some (position_or_len (same_node n) nodes)) None))
    (lt-ltb _ _ (within (same_node n) nodes h))

pub node_joins : (nodes : List Node) (n : Node) (b : Bool) (o : Option ExprId)
    → has_node nodes n ≡ b → place_of nodes n ≡ o → has_node (placed nodes n o).0 n ≡ true
node_joins nodes n true o h e = node_stays nodes n n o h
node_joins nodes n false None h e = any_last (same_node n) nodes n (itself n)
node_joins nodes n false (Some x) h e = absurd (let k = absent nodes n h in cc)

pub placed_most : (nodes : List Node) (n : Node) (o : Option ExprId)
    → length (placed nodes n o).0 ≤ 1 + length nodes
placed_most nodes n (Some x) = omega arith
placed_most nodes n None = omega (arith, length-append nodes (n ∷ []))

placed_same : (nodes : List Node) (n : Node) → has_node nodes n ≡ true
    → length (with_node nodes n).0 ≤ length nodes
placed_same nodes n h = omega (arith, ap (λ o. length (placed nodes n o).0) (found nodes n h))

-- ---- names

abbrev pub variable_there : List Node → List Name → Name → Bool
variable_there nodes names text =
    list_any (bytes_eq text) names && has_node nodes (Var (position_or_len (bytes_eq text) names))

-- the name stands for a value, or for a variable whose node is in the list
abbrev pub is_there : Known → Name → Bool
is_there k text = is_some (entry_of k.values text) || variable_there k.nodes k.variables text

-- what is there stays
abbrev pub Later : Known → Known → Type 0
Later k j = (text : Name) → is_there k text ≡ true → is_there j text ≡ true

pub or_more : (a b c : Bool) → (b ≡ true → c ≡ true) → (a || b) ≡ true → (a || c) ≡ true
or_more true b c f h = refl
or_more false b c f h = f h

pub itself_eq : (text : Name) → bytes_eq text text ≡ true
itself_eq text = (bytes_eq-Decides text text).1 refl

variable_stays : (nodes : List Node) (names : List Name) (m : Node) (text : Name)
    → variable_there nodes names text ≡ true
    → variable_there (with_node nodes m).0 names text ≡ true
variable_stays nodes names m text h =
    let n = Var (position_or_len (bytes_eq text) names) in
    let t = and_parts (list_any (bytes_eq text) names) (has_node nodes n) h in
    and_from (list_any (bytes_eq text) names)
    (has_node (with_node nodes m).0 n) t.0 (node_stays nodes n m (place_of nodes m) t.1)

pub put_later : (k : Known) (n : Node) → Later k (put k n).0
unfolding put
put_later k n text h =
    or_more (is_some (entry_of k.values text)) _ _ (variable_stays k.nodes k.variables n text) h

-- ---- a variable joins

names_stay : (nodes : List Node) (names : List Name) (new text : Name) (b : Bool)
    → variable_there nodes names text ≡ true
    → variable_there nodes (if b then names else names ++ (new ∷ [])) text ≡ true
names_stay nodes names new text true h = h
names_stay nodes names new text false h =
    let more = names ++ (new ∷ []) in
    let t = and_parts (list_any (bytes_eq text) names)
    (has_node nodes (Var (position_or_len (bytes_eq text) names))) h in
    and_from (list_any (bytes_eq text) more) (has_node nodes
    (Var (position_or_len (bytes_eq text) more))) (any_before (bytes_eq text) names (new ∷ []) t.0)
    (ap (λ i. has_node nodes (Var i)) (stays (bytes_eq text) names (new ∷ []) t.0) ∙ t.1)

pub name_joins : (names : List Name) (text : Name) (b : Bool) → list_any (bytes_eq text) names ≡ b
    → list_any (bytes_eq text) (if b then names else names ++ (text ∷ [])) ≡ true
name_joins names text true h = h
name_joins names text false h = any_last (bytes_eq text) names text (itself_eq text)

pub same_place : (names : List Name) (text : Name) (b : Bool) → position_or_len (bytes_eq text)
    (if b then names else names ++ (text ∷ [])) ≡ position_or_len (bytes_eq text) names
same_place names text true = refl
same_place names text false = joins (bytes_eq text) names text (itself_eq text)

variable_joins : (nodes : List Node) (names : List Name) (text : Name)
    → variable_there (with_node nodes (Var (position_or_len (bytes_eq text) names))).0
    (variables_with names text) text ≡ true
variable_joins nodes names text =
    let n = Var (position_or_len (bytes_eq text) names) in
    let more = variables_with names text in
    and_from (list_any (bytes_eq text) more)
    (has_node (with_node nodes n).0 (Var (position_or_len (bytes_eq text) more)))
    (name_joins names text (list_any (bytes_eq text) names) refl)
    (ap (λ i. has_node (with_node nodes n).0 (Var i))
    (same_place names text (list_any (bytes_eq text) names))
    ∙ node_joins nodes n (has_node nodes n) (place_of nodes n) refl refl)

variable_later : (k : Known) (text : Name) → Later k (variable_put k text).0
unfolding put variable_put
variable_later k text other h =
    or_more (is_some (entry_of k.values other)) _ _
    (λ v. variable_stays k.nodes _ (Var (position_or_len (bytes_eq text) k.variables)) other
    (names_stay k.nodes k.variables text other (list_any (bytes_eq text) k.variables) v)) h

-- ---- a name is read

name_later : (k : Known) (text : Name) (o : Option ExprId) → Later k (name_put k text o).0
name_later k text (Some x) other h = h
name_later k text None other h = variable_later k text other h

pub named_later : (k : Known) (text : Name) → Later k (named k text).0
unfolding named
named_later k text = name_later k text (entry_of k.values text)

name_there : (k : Known) (text : Name) (o : Option ExprId) → entry_of k.values text ≡ o
    → is_there (name_put k text o).0 text ≡ true
unfolding put variable_put
name_there k text (Some x) e = ap (λ o. is_some o || variable_there k.nodes k.variables text) e
name_there k text None e =
    or_right (is_some (entry_of k.values text)) _ (variable_joins k.nodes k.variables text)

pub named_there : (k : Known) (text : Name) → is_there (named k text).0 text ≡ true
unfolding named
named_there k text = name_there k text (entry_of k.values text) refl

name_most : (k : Known) (text : Name) (o : Option ExprId)
    → length (name_put k text o).0.nodes ≤ 1 + length k.nodes
unfolding put variable_put
name_most k text (Some x) = omega arith
name_most k text None = placed_most k.nodes _ _

pub named_most : (k : Known) (text : Name) → length (named k text).0.nodes ≤ 1 + length k.nodes
unfolding named
named_most k text = name_most k text (entry_of k.values text)

name_same : (k : Known) (text : Name) (o : Option ExprId) → entry_of k.values text ≡ o
    → is_there k text ≡ true → length (name_put k text o).0.nodes ≤ length k.nodes
unfolding put variable_put
name_same k text (Some x) e h = le_refl (length k.nodes)
name_same k text None e h =
    let v : variable_there k.nodes k.variables text ≡ true =
    sym (ap (λ o. is_some o || variable_there k.nodes k.variables text) e) ∙ h in
    let t = and_parts (list_any (bytes_eq text) k.variables)
    (has_node k.nodes (Var (position_or_len (bytes_eq text) k.variables))) v in
    placed_same k.nodes (Var (position_or_len (bytes_eq text) k.variables)) t.1

-- a name that is there adds no node
pub named_same : (k : Known) (text : Name) → is_there k text ≡ true
    → length (named k text).0.nodes ≤ length k.nodes
unfolding named
named_same k text = name_same k text (entry_of k.values text) refl

-- ---- a value joins

either_some : {A : Type 0} (c : Bool) (x y : A) (o p : Option A)
    → (is_some o ≡ true → is_some p ≡ true) → is_some (if c then Some x else o) ≡ true
    → is_some (if c then Some y else p) ≡ true
either_some true x y o p f h = refl
either_some false x y o p f h = f h

entry_stays : {A : Type 0} (es : List (Name × A)) (new text : Name) (a : A)
    → is_some (entry_of es text) ≡ true → is_some (entry_of (with_entry es new a) text) ≡ true
entry_stays [] new text a h = cc
entry_stays (e ∷ es) new text a h = by_test (bytes_eq new e.0) (entry_stays es new text a)
  where
    by_test : (b : Bool) → (is_some (entry_of es text) ≡ true
        → is_some (entry_of (with_entry es new a) text) ≡ true)
        → is_some (entry_of (if b then (e.0, a) ∷ es else e ∷ with_entry es new a) text) ≡ true
    by_test true more =
        either_some (bytes_eq text e.0) e.1 a (entry_of es text) (entry_of es text) (λ g. g) h
    by_test false more = either_some (bytes_eq text e.0) e.1 e.1 (entry_of es text)
        (entry_of (with_entry es new a) text) more h

entry_joins : {A : Type 0} (es : List (Name × A)) (text : Name) (a : A)
    → is_some (entry_of (with_entry es text a) text) ≡ true
entry_joins [] text a = ap (λ b. is_some (if b then Some a else None)) (itself_eq text)
entry_joins (e ∷ es) text a = by_test (bytes_eq text e.0) refl (entry_joins es text a)
  where
    by_test : (b : Bool) → bytes_eq text e.0 ≡ b
        → is_some (entry_of (with_entry es text a) text) ≡ true
        → is_some (entry_of (if b then (e.0, a) ∷ es else e ∷ with_entry es text a) text) ≡ true
    by_test true h more = ap (λ b. is_some (if b then Some a else entry_of es text)) h
    by_test false h more =
        ap (λ b. is_some (if b then Some e.1 else entry_of (with_entry es text a) text)) h ∙ more

pub or_first : (a b c : Bool) → (a ≡ true → b ≡ true) → (a || c) ≡ true → (b || c) ≡ true
or_first true b c f h = ap (λ x. x || c) (f refl)
or_first false true c f h = refl
or_first false false c f h = h

pub value_later : (new : Name) (p : PlacedNode) → Later p.0 (with_value new p)
value_later new p text h =
    or_first (is_some (entry_of p.0.values text)) _ _ (entry_stays p.0.values new text p.1) h

pub value_there : (text : Name) (p : PlacedNode) → is_there (with_value text p) text ≡ true
value_there text p =
    ap (λ b. b || variable_there p.0.nodes p.0.variables text) (entry_joins p.0.values text p.1)
