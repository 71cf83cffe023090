-- The definition of a step passes the judge of scripts.
use Rattle.std.proofs.Common.{◌≡◌, ◌<◌, ◌≤◌, ◌+◌, ◌&&◌, ◌||◌, not, nat_lt, ℕ, zero, suc, Bool, true}
use Rattle.std.proofs.Common.{false, codes, List, [], ◌∷◌, ◌++◌, length, Some, None, refl, ap, ◌∙◌}
use Rattle.std.proofs.Common.{arith, append_assoc}
use Rattle.std.specs.Str.{bytes_eq}
use Rattle.std.specs.Str.Parse.{digits_value}
use Rattle.std.specs.Fmt.{decimal, digits}
use Rattle.script_words.specs.declared.class.Symbol.{Symbol}
use Rattle.script_words.specs.declared.class.Symbol.TheVariants as s
use Rattle.script_words.specs.declared.class.Spelled.TheVariants as spelled
use Rattle.script_words.specs.Words.{name, literal, sign}
use Rattle.script_words.specs.Named.{spelled_of, number_of}
use Rattle.script_shape.specs.declared.due.Due.TheVariants as d
use Rattle.script_shape.specs.Roles.{Leaf, at, whole_leaves, atom_leaves, expr_leaves}
use Rattle.script_shape.specs.Roles.{definition_leaves}
use Rattle.script_judge.specs.declared.counts.ScriptPart.TheVariants as place
use Rattle.script_judge.specs.declared.nesting.Open.{Open}
use Rattle.script_judge.specs.declared.nesting.Open.TheVariants as open_is
use Rattle.script_judge.specs.Names.{NamesSeen, is_new, is_among, is_used_before_end}
use Rattle.script_judge.specs.Nesting.{without_minus}
use Rattle.script_judge.specs.Counts.{one_if}
use Rattle.script_nodes.specs.Literals.{parts_of}
use Rattle.fixprog.specs.Words.{Name}
use Rattle.fixprog.specs.Grammar.{Operand, named, given, Operation, copy, negation, sum, difference}
use Rattle.fixprog.specs.Grammar.{product, shift_right, shift_left, Step}
use Rattle.fixprog.specs.Formats.{format_of}
use Rattle.fixprog.specs.Faults.{is_literal}
use Rattle.fixprog.specs.Execution.{way_text}
use Rattle.program_truths.proofs.Trees.{place_whole, operand_atom, operation_expr, step_definition}
use Rattle.program_truths.proofs.Texts.{all_below, below}
use Rattle.program_truths.proofs.Passing.{form_ok, names_ok, opened_ok}
use Rattle.program_truths.proofs.Rows.{Passes, whole_form, whole_names, whole_opened, whole_bounds}
use Rattle.program_truths.proofs.Rows.{whole_defining, whole_nodes, whole_definitions}
use Rattle.program_truths.proofs.Rows.{whole_defined}

-- ---- operands

abbrev pub operand_row : Operand → List Leaf → List Leaf
operand_row (named t) ys = at d.Operand (name (spelled_of t) t) ∷ ys
operand_row (given t) ys = at d.Operand (literal (number_of t) t) ∷ ys

operand_is : (a : Operand) (ys : List Leaf) → atom_leaves (operand_atom a) ++ ys ≡ operand_row a ys
operand_is (named t) ys = refl
operand_is (given t) ys = refl

abbrev pub operand_known : Operand → List Name → List Name
operand_known (named t) ns = t ∷ ns
operand_known (given t) ns = ns

abbrev pub OperandFine : Operand → Type 0
OperandFine (named t) = Unit {0}
OperandFine (given t) = is_literal t ≡ true

abbrev known_as : NamesSeen → List Name → NamesSeen
known_as n ns = record n { known = ns }

pub one_if-le : (b : Bool) → one_if b ≤ 1
one_if-le true = omega arith
one_if-le false = omega arith

operand_passes : (n : NamesSeen) (a : Operand) (os us : List Open) (ns ds ps : ℕ) (ys : List Leaf)
    → OperandFine a → without_minus os ≡ us → nat_lt 64 (length us) ≡ false
    → Passes (known_as n (operand_known a n.known)) place.Definitions us ns ds ps ys
    → Passes n place.Definitions os (1 + ns) ds ps (operand_row a ys)
operand_passes n (named t) os us ns ds ps ys f e few h =
    let nodes = h.nodes in
    let definitions = h.definitions in
    let propositions = h.propositions in
    record {
      form = h.form;
      names = h.names;
      opened = ap (λ u. not (nat_lt 64 (length u)) && opened_ok u ys) e
          ∙ ap (λ b. not b && opened_ok us ys) few ∙ h.opened;
      bounds = h.bounds;
      places = h.places;
      nodes = omega (arith, nodes, one_if-le (is_new n d.Operand (name (spelled_of t) t)));
      definitions = omega (arith, definitions);
      propositions = omega (arith, propositions);
    }
operand_passes n (given t) os us ns ds ps ys f e few h =
    let nodes = h.nodes in
    let definitions = h.definitions in
    let propositions = h.propositions in
    record {
      form = ap (λ b. b && form_ok ys) f ∙ h.form;
      names = h.names;
      opened = ap (λ u. not (nat_lt 64 (length u)) && opened_ok u ys) e
          ∙ ap (λ b. not b && opened_ok us ys) few ∙ h.opened;
      bounds = h.bounds;
      places = h.places;
      nodes = omega (arith, nodes);
      definitions = omega (arith, definitions);
      propositions = omega (arith, propositions);
    }

abbrev pair : List Open
pair = open_is.Pair ∷ []

tail_passes : (n : NamesSeen) (g : Symbol) (ns ds ps : ℕ) (ys : List Leaf)
    → Passes n place.Definitions pair ns ds ps ys
    → Passes n place.Definitions pair (1 + ns) ds ps (at d.Tail (sign g) ∷ ys)
tail_passes n g ns ds ps ys h =
    let nodes = h.nodes in
    let definitions = h.definitions in
    let propositions = h.propositions in
    record {
      form = h.form;
      names = h.names;
      opened = h.opened;
      bounds = h.bounds;
      places = h.places;
      nodes = omega (arith, nodes);
      definitions = omega (arith, definitions);
      propositions = omega (arith, propositions);
    }

minus_passes : (n : NamesSeen) (ns ds ps : ℕ) (ys : List Leaf)
    → Passes n place.Definitions (open_is.Minus ∷ pair) ns ds ps ys
    → Passes n place.Definitions pair (1 + ns) ds ps (at d.Operand (sign s.Minus) ∷ ys)
minus_passes n ns ds ps ys h =
    let nodes = h.nodes in
    let definitions = h.definitions in
    let propositions = h.propositions in
    record {
      form = h.form;
      names = h.names;
      opened = h.opened;
      bounds = h.bounds;
      places = h.places;
      nodes = omega (arith, nodes);
      definitions = omega (arith, definitions);
      propositions = omega (arith, propositions);
    }

wider : (n : NamesSeen) (ns ms ds ps : ℕ) (ys : List Leaf) → ns ≤ ms
    → Passes n place.Definitions pair ns ds ps ys → Passes n place.Definitions pair ms ds ps ys
wider n ns ms ds ps ys l h = record {
  form = h.form;
  names = h.names;
  opened = h.opened;
  bounds = h.bounds;
  places = h.places;
  nodes = let nodes = h.nodes in omega (arith, nodes);
  definitions = h.definitions;
  propositions = h.propositions;
}

-- ---- operations

abbrev right_text : List ℕ → List ℕ
right_text k = codes "1b-" ++ decimal (digits_value 10 k)

abbrev left_text : List ℕ → List ℕ
left_text k = codes "1b" ++ decimal (digits_value 10 k)

abbrev two_row : Operand → Symbol → Operand → List Leaf → List Leaf
two_row a g b ys = operand_row a (at d.Tail (sign g) ∷ operand_row b ys)

abbrev pub operation_row : Operation → List Leaf → List Leaf
operation_row (copy a) ys = operand_row a ys
operation_row (negation a) ys = at d.Operand (sign s.Minus) ∷ operand_row a ys
operation_row (sum a b) ys = two_row a s.Plus b ys
operation_row (difference a b) ys = two_row a s.Minus b ys
operation_row (product a b) ys = two_row a s.Star b ys
operation_row (shift_right a k) ys = two_row a s.Star (given (right_text k.text)) ys
operation_row (shift_left a k) ys = two_row a s.Star (given (left_text k.text)) ys

two_is : (a b : Operand) (g : Symbol) (ys : List Leaf)
    → (atom_leaves (operand_atom a) ++ (at d.Tail (sign g) ∷ atom_leaves (operand_atom b))) ++ ys
    ≡ two_row a g b ys
two_is a b g ys =
    append_assoc (atom_leaves (operand_atom a))
    (at d.Tail (sign g) ∷ atom_leaves (operand_atom b)) ys
    ∙ ap (λ l. atom_leaves (operand_atom a) ++ (at d.Tail (sign g) ∷ l)) (operand_is b ys)
    ∙ operand_is a (at d.Tail (sign g) ∷ operand_row b ys)

operation_is : (o : Operation) (ys : List Leaf)
    → expr_leaves (operation_expr o) ++ ys ≡ operation_row o ys
operation_is (copy a) ys = operand_is a ys
operation_is (negation a) ys = ap (λ l. at d.Operand (sign s.Minus) ∷ l) (operand_is a ys)
operation_is (sum a b) ys = two_is a b s.Plus ys
operation_is (difference a b) ys = two_is a b s.Minus ys
operation_is (product a b) ys = two_is a b s.Star ys
operation_is (shift_right a k) ys = two_is a (given (right_text k.text)) s.Star ys
operation_is (shift_left a k) ys = two_is a (given (left_text k.text)) s.Star ys

abbrev pub operation_known : Operation → List Name → List Name
operation_known (copy a) ns = operand_known a ns
operation_known (negation a) ns = operand_known a ns
operation_known (sum a b) ns = operand_known b (operand_known a ns)
operation_known (difference a b) ns = operand_known b (operand_known a ns)
operation_known (product a b) ns = operand_known b (operand_known a ns)
operation_known (shift_right a k) ns = operand_known a ns
operation_known (shift_left a k) ns = operand_known a ns

abbrev pub OperationFine : Operation → Type 0
OperationFine (copy a) = OperandFine a
OperationFine (negation a) = OperandFine a
OperationFine (sum a b) = OperandFine a × OperandFine b
OperationFine (difference a b) = OperandFine a × OperandFine b
OperationFine (product a b) = OperandFine a × OperandFine b
OperationFine (shift_right a k) = OperandFine a × (digits_value 10 k.text < 64)
OperationFine (shift_left a k) = OperandFine a × (digits_value 10 k.text < 64)

rights_are_read : all_below 64 (λ n. is_literal (codes "1b-" ++ decimal n)) ≡ true
unfolding parts_of digits
rights_are_read = refl

lefts_are_read : all_below 64 (λ n. is_literal (codes "1b" ++ decimal n)) ≡ true
unfolding parts_of digits
lefts_are_read = refl

right_fine : (n : ℕ) → n < 64 → is_literal (codes "1b-" ++ decimal n) ≡ true
right_fine n l = below 64 n (λ n. is_literal (codes "1b-" ++ decimal n)) rights_are_read l

left_fine : (n : ℕ) → n < 64 → is_literal (codes "1b" ++ decimal n) ≡ true
left_fine n l = below 64 n (λ n. is_literal (codes "1b" ++ decimal n)) lefts_are_read l

two_pass : (n : NamesSeen) (a b : Operand) (g : Symbol) (ns ds ps : ℕ) (ys : List Leaf)
    → OperandFine a → OperandFine b
    → Passes (known_as n (operand_known b (operand_known a n.known))) place.Definitions pair ns ds
    ps ys → Passes n place.Definitions pair (3 + ns) ds ps (two_row a g b ys)
two_pass n a b g ns ds ps ys fa fb h =
    let m = known_as n (operand_known a n.known) in
    wider n (1 + (1 + (1 + ns))) (3 + ns) ds ps (two_row a g b ys) (omega arith)
    (operand_passes n a pair pair (1 + (1 + ns)) ds ps (at d.Tail (sign g) ∷ operand_row b ys) fa
    refl refl
    (tail_passes m g (1 + ns) ds ps (operand_row b ys)
    (operand_passes m b pair pair ns ds ps ys fb refl refl h)))

operation_passes : (n : NamesSeen) (o : Operation) (ns ds ps : ℕ) (ys : List Leaf)
    → OperationFine o
    → Passes (known_as n (operation_known o n.known)) place.Definitions pair ns ds ps ys
    → Passes n place.Definitions pair (3 + ns) ds ps (operation_row o ys)
operation_passes n (copy a) ns ds ps ys f h =
    wider n (1 + ns) (3 + ns) ds ps (operand_row a ys) (omega arith)
    (operand_passes n a pair pair ns ds ps ys f refl refl h)
operation_passes n (negation a) ns ds ps ys f h =
    wider n (1 + (1 + ns)) (3 + ns) ds ps (operation_row (negation a) ys) (omega arith)
    (minus_passes n (1 + ns) ds ps (operand_row a ys)
    (operand_passes n a (open_is.Minus ∷ pair) pair ns ds ps ys f refl refl h))
operation_passes n (sum a b) ns ds ps ys f h = two_pass n a b s.Plus ns ds ps ys f.0 f.1 h
operation_passes n (difference a b) ns ds ps ys f h = two_pass n a b s.Minus ns ds ps ys f.0 f.1 h
operation_passes n (product a b) ns ds ps ys f h = two_pass n a b s.Star ns ds ps ys f.0 f.1 h
operation_passes n (shift_right a k) ns ds ps ys f h =
    two_pass n a (given (right_text k.text)) s.Star ns ds ps ys f.0
    (right_fine (digits_value 10 k.text) f.1) h
operation_passes n (shift_left a k) ns ds ps ys f h =
    two_pass n a (given (left_text k.text)) s.Star ns ds ps ys f.0
    (left_fine (digits_value 10 k.text) f.1) h

-- ---- names that an operation doesn't use

abbrev pub OperandApart : Name → Operand → Type 0
OperandApart t (named u) = bytes_eq u t ≡ false
OperandApart t (given u) = Unit {0}

abbrev pub OperationApart : Name → Operation → Type 0
OperationApart t (copy a) = OperandApart t a
OperationApart t (negation a) = OperandApart t a
OperationApart t (sum a b) = OperandApart t a × OperandApart t b
OperationApart t (difference a b) = OperandApart t a × OperandApart t b
OperationApart t (product a b) = OperandApart t a × OperandApart t b
OperationApart t (shift_right a k) = OperandApart t a
OperationApart t (shift_left a k) = OperandApart t a

operand_unused : (t : Name) (a : Operand) (ys : List Leaf) → OperandApart t a
    → is_used_before_end t (operand_row a ys) ≡ is_used_before_end t ys
operand_unused t (named u) ys h = ap (λ b. b || is_used_before_end t ys) h
operand_unused t (given u) ys h = refl

two_unused : (t : Name) (a b : Operand) (g : Symbol) (ys : List Leaf) → OperandApart t a
    → OperandApart t b → is_used_before_end t (two_row a g b ys) ≡ is_used_before_end t ys
two_unused t a b g ys h k = operand_unused t a (at d.Tail (sign g) ∷ operand_row b ys) h
    ∙ operand_unused t b ys k

operation_unused : (t : Name) (o : Operation) (ys : List Leaf) → OperationApart t o
    → is_used_before_end t (operation_row o ys) ≡ is_used_before_end t ys
operation_unused t (copy a) ys h = operand_unused t a ys h
operation_unused t (negation a) ys h = operand_unused t a ys h
operation_unused t (sum a b) ys h = two_unused t a b s.Plus ys h.0 h.1
operation_unused t (difference a b) ys h = two_unused t a b s.Minus ys h.0 h.1
operation_unused t (product a b) ys h = two_unused t a b s.Star ys h.0 h.1
operation_unused t (shift_right a k) ys h = two_unused t a (given (right_text k.text)) s.Star ys h
    tt
operation_unused t (shift_left a k) ys h = two_unused t a (given (left_text k.text)) s.Star ys h tt

whole_unused : (t : Name) (m : ℕ) (ys : List Leaf)
    → is_used_before_end t (whole_leaves (place_whole m) ++ ys) ≡ is_used_before_end t ys
whole_unused t zero ys = refl
whole_unused t (suc k) ys = refl

-- ---- steps

abbrev end_row : List Leaf → List Leaf
end_row ys = at d.CloseParen (sign s.CloseParen) ∷ (at d.Semicolon (sign s.Semicolon) ∷ ys)

abbrev direction_row : Name → List Leaf → List Leaf
direction_row t ys =
    at d.Comma (sign s.Comma) ∷ (at d.Direction (name spelled.Direction t)
    ∷ (at d.Greater (sign s.Greater) ∷ (at d.OpenParen (sign s.OpenParen) ∷ ys)))

abbrev head_row : Name → ℕ → List Leaf → List Leaf
head_row t m ys =
    at d.Script (name (spelled_of t) t) ∷ (at d.DefinedBy (sign s.Equal)
    ∷ (at d.Operand (sign s.Fixed) ∷ (at d.Less (sign s.Less) ∷ (whole_leaves (place_whole m)
    ++ ys))))

abbrev pub step_row : Step → List Leaf → List Leaf
step_row x ys = head_row x.name (format_of x.format).places (direction_row (way_text x.way)
    (operation_row x.operation (end_row ys)))

pub step_is : (x : Step) (ys : List Leaf)
    → definition_leaves (step_definition x) ++ ys ≡ step_row x ys
step_is x ys = regrouped ∙ ap (λ l. head_row x.name (format_of x.format).places
    (direction_row (way_text x.way) l)) (operation_is x.operation (end_row ys))
  where
    regrouped : definition_leaves (step_definition x) ++ ys
        ≡ head_row x.name (format_of x.format).places (direction_row (way_text x.way)
        (expr_leaves (operation_expr x.operation) ++ end_row ys))
    regrouped = simp append_assoc

-- the names behind the step's definition
abbrev pub names_behind : NamesSeen → Step → NamesSeen
names_behind n x = record {
  known = x.name ∷ operation_known x.operation n.known;
  defined = x.name ∷ n.defined;
  pending = None;
  halved = n.halved;
}

either : (a b : Bool) → a ≡ false → b ≡ false → (a || b) ≡ false
either a b h k = rw (h, k) refl

pub step_passes : (n : NamesSeen) (x : Step) (ns ds ps : ℕ) (ys : List Leaf)
    → (format_of x.format).places < 64 → OperationFine x.operation
    → is_among n.known x.name ≡ false → OperationApart x.name x.operation
    → Passes (names_behind n x) place.Definitions [] ns ds ps ys
    → Passes n place.Definitions [] (4 + ns) (1 + ds) ps (step_row x ys)
step_passes n x ns ds ps ys l f new apart h =
    let m = (format_of x.format).places in
    let n1 : NamesSeen = record n { pending = Some x.name } in
    let inner = operation_row x.operation (end_row ys) in
    let rest = direction_row (way_text x.way) inner in
    let last : Passes (known_as n1 (operation_known x.operation n1.known)) place.Definitions pair
    ns ds ps (end_row ys) =
    record {
      form = h.form;
      names = h.names;
      opened = h.opened;
      bounds = h.bounds;
      places = h.places;
      nodes = let nodes = h.nodes in omega (arith, nodes);
      definitions = let definitions = h.definitions in omega (arith, definitions);
      propositions = let propositions = h.propositions in omega (arith, propositions);
    } in
    let k = operation_passes n1 x.operation ns ds ps (end_row ys) f last in
    let unused : is_used_before_end x.name (whole_leaves (place_whole m) ++ rest) ≡ false =
    whole_unused x.name m rest ∙ operation_unused x.name x.operation (end_row ys) apart in
    let nodes = k.nodes in
    let definitions = k.definitions in
    let propositions = k.propositions in
    record {
      form = whole_form m rest l ∙ k.form;
      names = ap (λ b. not b && names_ok n1 (whole_leaves (place_whole m) ++ rest))
          (either (is_among n.known x.name)
          (is_used_before_end x.name (whole_leaves (place_whole m) ++ rest)) new unused)
          ∙ whole_names n1 m rest ∙ k.names;
      opened = whole_opened [] m rest refl ∙ k.opened;
      bounds = whole_bounds m rest ∙ k.bounds;
      places = whole_defining m rest ∙ k.places;
      nodes = omega (arith, nodes, whole_nodes n1 m rest);
      definitions = omega (arith, definitions, whole_definitions m rest);
      propositions = omega (arith, propositions, whole_defined m rest);
    }
