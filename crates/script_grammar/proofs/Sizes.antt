-- How many nodes there are, with one more for each name that has none yet and is no operator's.
use Rattle.std.proofs.Common.{◌≡◌, ℕ, ◌+◌, ◌≤◌, List, [], ◌∷◌, length, Bool, true, false, not, ◌||◌}
use Rattle.std.proofs.Common.{refl, sym, ap, ◌∙◌, arith}
use Rattle.std.specs.Str.{bytes_eq}
use Rattle.std.proofs.lemmas.Slice.Eq.{bytes_eq-Decides}
use Rattle.std.proofs.lemmas.Bool.{or_right, or_left}
use Rattle.fx_model.specs.declared.Rounding.{Rounding}
use Rattle.fx_model.specs.declared.Node.{Node}
use Rattle.expr_dag.specs.Nodes.{place_of}
use Rattle.script_judge.specs.Counts.{one_if}
use Rattle.script_judge.specs.Names.{is_among}
use Rattle.script_nodes.specs.Known.{Name, Known, PlacedNode, put, named}
use Rattle.script_nodes.specs.Definitions.{with_value, with_operator}
use Rattle.script_grammar.proofs.There.{is_there, Later, placed_most, put_later, named_later}
use Rattle.script_grammar.proofs.There.{named_there, named_most, named_same, value_later}
use Rattle.script_grammar.proofs.There.{value_there, or_more, or_first}

-- how many of the names don't pass a test
abbrev pub loose : (Name → Bool) → List Name → ℕ
loose test [] = 0
loose test (n ∷ ns) = one_if (not (test n)) + loose test ns

-- where these are operators, a name is settled that is one of them or has its node
abbrev pub is_settled : List Name → Known → Name → Bool
is_settled ops k text = is_there k text || is_among ops text

-- how many nodes there are, with one more for each name that isn't settled
abbrev pub size : List Name → List Name → Known → ℕ
size ops names k = length k.nodes + loose (is_settled ops k) names

-- ---- tests that more names pass

one_less : (a b : Bool) → (a ≡ true → b ≡ true) → one_if (not b) ≤ one_if (not a)
one_less true b h = omega (arith, ap (λ x. one_if (not x)) (h refl))
one_less false true h = omega arith
one_less false false h = omega arith

module _ (old new : Name → Bool) (more : (text : Name) → old text ≡ true → new text ≡ true) where
  less : (names : List Name) → loose new names ≤ loose old names
  less [] = omega arith
  less (n ∷ ns) = let a = one_less (old n) (new n) (more n) in let b = less ns in omega arith

  -- one of the names passes now
  fewer : (text : Name) → old text ≡ false → new text ≡ true → (names : List Name)
      → is_among names text ≡ true → loose new names + 1 ≤ loose old names
  fewer text a b [] m = cc
  fewer text a b (n ∷ ns) m = by_test (bytes_eq n text) refl m (fewer text a b ns)
    where
      by_test : (t : Bool) → bytes_eq n text ≡ t → (t || is_among ns text) ≡ true
          → (is_among ns text ≡ true → loose new ns + 1 ≤ loose old ns)
          → one_if (not (new n)) + loose new ns + 1 ≤ one_if (not (old n)) + loose old ns
      by_test true e m more_of =
          let same : n ≡ text = (bytes_eq-Decides n text).0 e in
          let rest = less ns in
          omega (
            arith,
            ap (λ x. one_if (not (old x))) same,
            ap (λ t. one_if (not t)) a,
            ap (λ x. one_if (not (new x))) same,
            ap (λ t. one_if (not t)) b,
          )
      by_test false e m more_of =
          let rest = more_of m in
          let one = one_less (old n) (new n) (more n) in
          omega arith

only_first : (a b : Bool) → b ≡ false → (a || b) ≡ true → a ≡ true
only_first true b h e = refl
only_first false b h e = sym h ∙ e

module _ (ops : List Name) where
  settled_later : (k j : Known) → Later k j → (text : Name) → is_settled ops k text ≡ true
      → is_settled ops j text ≡ true
  settled_later k j h text =
      or_first (is_there k text) (is_there j text) (is_among ops text) (h text)

  later_less : (k j : Known) → Later k j → (names : List Name)
      → loose (is_settled ops j) names ≤ loose (is_settled ops k) names
  later_less k j h = less (is_settled ops k) (is_settled ops j) (settled_later k j h)

-- ---- one more node

put_most : (k : Known) (n : Node) → length (put k n).0.nodes ≤ 1 + length k.nodes
unfolding put
put_most k n = placed_most k.nodes n (place_of k.nodes n)

pub put_size : (ops names : List Name) (k : Known) (n : Node)
    → size ops names (put k n).0 ≤ 1 + size ops names k
put_size ops names k n = let a = put_most k n in
    let b = later_less ops k (put k n).0 (put_later k n) names in omega arith

-- ---- a name that is no operator's is read

module _ (ops names : List Name) (k : Known) (text : Name) (free : is_among ops text ≡ false) where
  abbrev behind : Known
  behind = (named k text).0

  now_settled : is_settled ops behind text ≡ true
  now_settled = or_left (is_there behind text) (is_among ops text) (named_there k text)

  rest_less : loose (is_settled ops behind) names ≤ loose (is_settled ops k) names
  rest_less = later_less ops k behind (named_later k text) names

  among_less : is_settled ops k text ≡ false → is_among names text ≡ true
      → loose (is_settled ops behind) names + 1 ≤ loose (is_settled ops k) names
  among_less e = fewer (is_settled ops k) (is_settled ops behind)
      (settled_later ops k behind (named_later k text)) text e now_settled names

  -- it joins the names
  pub named_size : size ops (text ∷ names) behind
      ≤ size ops names k + one_if (not (is_among names text))
  named_size = by_settled (is_settled ops k text) refl
    where
      by_among : (t : Bool) → is_among names text ≡ t → is_settled ops k text ≡ false
          → size ops (text ∷ names) behind ≤ size ops names k + one_if (not t)
      by_among true m e = let a = named_most k text in let b = among_less e m in
          omega (arith, ap (λ t. one_if (not t)) now_settled)
      by_among false m e = let a = named_most k text in let b = rest_less in
          omega (arith, ap (λ t. one_if (not t)) now_settled)

      by_settled : (t : Bool) → is_settled ops k text ≡ t
          → size ops (text ∷ names) behind ≤ size ops names k + one_if (not (is_among names text))
      by_settled true e =
          let a = named_same k text (only_first (is_there k text) (is_among ops text) free e) in
          let b = rest_less in omega (arith, ap (λ t. one_if (not t)) now_settled)
      by_settled false e = by_among (is_among names text) refl e

-- a name that is there is read
pub there_size : (ops names : List Name) (k : Known) (text : Name) → is_there k text ≡ true
    → size ops names (named k text).0 ≤ size ops names k
there_size ops names k text h =
    let a = named_same k text h in
    let b = later_less ops k (named k text).0 (named_later k text) names in omega arith

-- ---- a definition ends

pub value_size : (ops names : List Name) (text : Name) (p : PlacedNode)
    → size ops (text ∷ names) (with_value text p) ≤ size ops names p.0
value_size ops names text p =
    let b = later_less ops p.0 (with_value text p) (value_later text p) names in
    omega (
      arith,
      ap (λ t. one_if (not t))
          (or_left (is_there (with_value text p) text) (is_among ops text) (value_there text p)),
    )

-- a name of an operator is settled
pub operator_size : (ops names : List Name) (text : Name) (r : Rounding) (k : Known)
    → size (text ∷ ops) (text ∷ names) (with_operator text r k) ≤ size ops names k
operator_size ops names text r k =
    let new = is_settled (text ∷ ops) (with_operator text r k) in
    let b = less (is_settled ops k) new (λ n. or_more (is_there k n) (is_among ops n)
    (is_among (text ∷ ops) n) (or_right (bytes_eq text n) (is_among ops n))) names in
    let now : new text ≡ true = or_right (is_there k text) (is_among (text ∷ ops) text)
    (or_left (bytes_eq text text) (is_among ops text) ((bytes_eq-Decides text text).1 refl)) in
    omega (arith, ap (λ t. one_if (not t)) now)
