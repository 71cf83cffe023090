-- Words of a program's script that pass, from the last to the first.
use Rattle.std.proofs.Common.{◌≡◌, ◌<◌, ◌≤◌, ◌+◌, ◌&&◌, ◌||◌, not, nat_lt, ℕ, zero, suc, Bool, true}
use Rattle.std.proofs.Common.{false, codes, List, [], ◌∷◌, ◌++◌, length, Some, None, refl, ap, ◌∙◌}
use Rattle.std.proofs.Common.{arith, append_assoc}
use Rattle.std.specs.Str.Parse.{digits_value}
use Rattle.std.specs.Fmt.{decimal, digits}
use Rattle.fx_model.specs.Fraction.{Fraction}
use Rattle.script_words.specs.declared.class.Symbol.TheVariants as s
use Rattle.script_words.specs.declared.class.Spelled.TheVariants as spelled
use Rattle.script_words.specs.Words.{name, sign}
use Rattle.script_words.specs.Named.{spelled_of}
use Rattle.script_shape.specs.declared.due.Due.TheVariants as d
use Rattle.script_shape.specs.Expressions.{Bound, unsigned, positive, negative}
use Rattle.script_shape.specs.Propositions.{between, lies_in}
use Rattle.script_shape.specs.Roles.{Leaf, at, whole_leaves, bound_leaves, prop_leaves}
use Rattle.script_bounds.specs.Tests.{is_less}
use Rattle.script_judge.specs.declared.counts.ScriptPart.{ScriptPart}
use Rattle.script_judge.specs.declared.counts.ScriptPart.TheVariants as place
use Rattle.script_judge.specs.declared.nesting.Open.{Open}
use Rattle.script_judge.specs.declared.nesting.Open.TheVariants as open_is
use Rattle.script_judge.specs.Names.{NamesSeen, is_new}
use Rattle.script_judge.specs.Counts.{one_if}
use Rattle.script_judge.specs.Bounds.{BoundsSeen, no_bounds}
use Rattle.script_judge.specs.Sides.{has_arrow}
use Rattle.fixprog.specs.Words.{Name}
use Rattle.fixprog.specs.Faults.{is_literal}
use Rattle.program_truths.proofs.Trees.{place_whole, name_expr}
use Rattle.program_truths.proofs.Texts.{all_below, below}
use Rattle.program_truths.proofs.Passing.{form_ok, names_ok, opened_ok, places_ok, node_weight}
use Rattle.program_truths.proofs.Passing.{definition_weight, proposition_weight, literal_number}
use Rattle.program_truths.proofs.Passing.{bounds_ok}

-- These words pass all tests, with so many nodes, definitions and propositions at most.
pub record Passes (n : NamesSeen) (p : ScriptPart) (os : List Open) (ns ds ps : ℕ) (ls : List Leaf)
    : Type 0 where
  pub form : form_ok ls ≡ true
  pub names : names_ok n ls ≡ true
  pub opened : opened_ok os ls ≡ true
  pub bounds : bounds_ok no_bounds ls ≡ true
  pub places : places_ok p ls ≡ true
  pub nodes : node_weight n ls ≤ ns
  pub definitions : definition_weight ls ≤ ds
  pub propositions : proposition_weight p ls ≤ ps

abbrev pub with_known : NamesSeen → Name → NamesSeen
with_known n t = record n { known = t ∷ n.known }

-- ---- whole numbers

short_places : all_below 64 (λ n. not (nat_lt 512 (digits_value 10 (decimal n)))) ≡ true
unfolding digits
short_places = refl

place_is_short : (k : ℕ) → suc k < 64 → not (nat_lt 512 (digits_value 10 (decimal (suc k)))) ≡ true
place_is_short k l = below 64 (suc k) (λ n. not (nat_lt 512 (digits_value 10 (decimal n))))
    short_places l

pub whole_form : (m : ℕ) (ys : List Leaf) → m < 64
    → form_ok (whole_leaves (place_whole m) ++ ys) ≡ form_ok ys
whole_form zero ys l = refl
whole_form (suc k) ys l = ap (λ b. b && form_ok ys) (place_is_short k l)

pub whole_names : (n : NamesSeen) (m : ℕ) (ys : List Leaf)
    → names_ok n (whole_leaves (place_whole m) ++ ys) ≡ names_ok n ys
whole_names n zero ys = refl
whole_names n (suc k) ys = refl

pub whole_opened : (os : List Open) (m : ℕ) (ys : List Leaf) → nat_lt 64 (length os) ≡ false
    → opened_ok os (whole_leaves (place_whole m) ++ ys) ≡ opened_ok os ys
whole_opened os zero ys h = ap (λ b. not b && opened_ok os ys) h
whole_opened os (suc k) ys h = ap (λ b. not b && (not b && opened_ok os ys)) h

pub whole_bounds : (m : ℕ) (ys : List Leaf)
    → bounds_ok no_bounds (whole_leaves (place_whole m) ++ ys) ≡ bounds_ok no_bounds ys
whole_bounds zero ys = refl
whole_bounds (suc k) ys = refl

pub whole_defining : (m : ℕ) (ys : List Leaf)
    → places_ok place.Definitions (whole_leaves (place_whole m) ++ ys)
    ≡ places_ok place.Definitions ys
whole_defining zero ys = refl
whole_defining (suc k) ys = refl

pub whole_claiming : (m : ℕ) (ys : List Leaf)
    → places_ok place.Formula (whole_leaves (place_whole m) ++ ys) ≡ places_ok place.Formula ys
whole_claiming zero ys = refl
whole_claiming (suc k) ys = refl

pub whole_nodes : (n : NamesSeen) (m : ℕ) (ys : List Leaf)
    → node_weight n (whole_leaves (place_whole m) ++ ys) ≡ node_weight n ys
whole_nodes n zero ys = omega arith
whole_nodes n (suc k) ys = omega arith

pub whole_definitions : (m : ℕ) (ys : List Leaf)
    → definition_weight (whole_leaves (place_whole m) ++ ys) ≡ definition_weight ys
whole_definitions zero ys = omega arith
whole_definitions (suc k) ys = omega arith

pub whole_defined : (m : ℕ) (ys : List Leaf)
    → proposition_weight place.Definitions (whole_leaves (place_whole m) ++ ys)
    ≡ proposition_weight place.Definitions ys
whole_defined zero ys = omega arith
whole_defined (suc k) ys = omega arith

pub whole_claimed : (m : ℕ) (ys : List Leaf)
    → proposition_weight place.Formula (whole_leaves (place_whole m) ++ ys)
    ≡ proposition_weight place.Formula ys
whole_claimed zero ys = omega arith
whole_claimed (suc k) ys = omega arith

pub whole_arrow : (m : ℕ) (ys : List Leaf)
    → has_arrow (whole_leaves (place_whole m) ++ ys) ≡ has_arrow ys
whole_arrow zero ys = refl
whole_arrow (suc k) ys = refl

-- ---- bounds

abbrev pub bound_fine : Bound → Bool
bound_fine (unsigned k t) = is_literal t
bound_fine (positive k t) = is_literal t
bound_fine (negative k t) = is_literal t

abbrev pub bound_number : Bound → Fraction
bound_number (unsigned k t) = literal_number false t
bound_number (positive k t) = literal_number false t
bound_number (negative k t) = literal_number true t

bound_form : (b : Bound) (ys : List Leaf) → bound_fine b ≡ true
    → form_ok (bound_leaves b ++ ys) ≡ form_ok ys
bound_form (unsigned k t) ys h = ap (λ c. c && form_ok ys) h
bound_form (positive k t) ys h = ap (λ c. c && (c && form_ok ys)) h
bound_form (negative k t) ys h = ap (λ c. c && (c && form_ok ys)) h

bound_names : (n : NamesSeen) (b : Bound) (ys : List Leaf)
    → names_ok n (bound_leaves b ++ ys) ≡ names_ok n ys
bound_names n (unsigned k t) ys = refl
bound_names n (positive k t) ys = refl
bound_names n (negative k t) ys = refl

bound_opened : (b : Bound) (ys : List Leaf)
    → opened_ok [] (bound_leaves b ++ ys) ≡ opened_ok [] ys
bound_opened (unsigned k t) ys = refl
bound_opened (positive k t) ys = refl
bound_opened (negative k t) ys = refl

bound_places : (b : Bound) (ys : List Leaf)
    → places_ok place.Formula (bound_leaves b ++ ys) ≡ places_ok place.Formula ys
bound_places (unsigned k t) ys = refl
bound_places (positive k t) ys = refl
bound_places (negative k t) ys = refl

bound_nodes : (n : NamesSeen) (b : Bound) (ys : List Leaf)
    → node_weight n (bound_leaves b ++ ys) ≡ node_weight n ys
bound_nodes n (unsigned k t) ys = omega arith
bound_nodes n (positive k t) ys = omega arith
bound_nodes n (negative k t) ys = omega arith

bound_definitions : (b : Bound) (ys : List Leaf)
    → definition_weight (bound_leaves b ++ ys) ≡ definition_weight ys
bound_definitions (unsigned k t) ys = omega arith
bound_definitions (positive k t) ys = omega arith
bound_definitions (negative k t) ys = omega arith

bound_propositions : (b : Bound) (ys : List Leaf)
    → proposition_weight place.Formula (bound_leaves b ++ ys)
    ≡ proposition_weight place.Formula ys
bound_propositions (unsigned k t) ys = omega arith
bound_propositions (positive k t) ys = omega arith
bound_propositions (negative k t) ys = omega arith

abbrev lower_due : BoundsSeen
lower_due = record { relative = false; lower_due = true; lower = None }

abbrev lower_known : Fraction → BoundsSeen
lower_known x = record { relative = false; lower_due = false; lower = Some x }

lower_bounds : (b : Bound) (ys : List Leaf)
    → bounds_ok lower_due (bound_leaves b ++ ys) ≡ bounds_ok (lower_known (bound_number b)) ys
lower_bounds (unsigned k t) ys = refl
lower_bounds (positive k t) ys = refl
lower_bounds (negative k t) ys = refl

upper_bounds : (x : Fraction) (b : Bound) (ys : List Leaf) → is_less (bound_number b) x ≡ false
    → bounds_ok (lower_known x) (bound_leaves b ++ ys) ≡ bounds_ok no_bounds ys
upper_bounds x (unsigned k t) ys h = ap (λ c. not (c || false) && bounds_ok no_bounds ys) h
upper_bounds x (positive k t) ys h = ap (λ c. not (c || false) && bounds_ok no_bounds ys) h
upper_bounds x (negative k t) ys h = ap (λ c. not (c || false) && bounds_ok no_bounds ys) h

bound_arrow : (b : Bound) (ys : List Leaf) → has_arrow (bound_leaves b ++ ys) ≡ has_arrow ys
bound_arrow (unsigned k t) ys = refl
bound_arrow (positive k t) ys = refl
bound_arrow (negative k t) ys = refl

-- ---- propositions

abbrev name_leaf : Name → Leaf
name_leaf t = at d.Operand (name (spelled_of t) t)

abbrev pub range_row : Name → Bound → Bound → List Leaf → List Leaf
range_row t a b ys =
    name_leaf t ∷ (at d.Relation (sign s.In) ∷ (at d.Range (sign s.OpenBracket) ∷ (bound_leaves a
    ++ (at d.Comma (sign s.Comma) ∷ (bound_leaves b
    ++ (at d.CloseBracket (sign s.CloseBracket) ∷ ys))))))

pub range_is : (t : Name) (a b : Bound) (ys : List Leaf)
    → prop_leaves (lies_in (name_expr t) (between a b)) ++ ys ≡ range_row t a b ys
range_is t a b ys = simp append_assoc

pub range_passes : (n : NamesSeen) (t : Name) (a b : Bound) (ns ds ps : ℕ) (ys : List Leaf)
    → bound_fine a ≡ true → bound_fine b ≡ true
    → is_less (bound_number b) (bound_number a) ≡ false
    → Passes (with_known n t) place.Formula [] ns ds ps ys
    → Passes n place.PropositionNext []
    (one_if (is_new n d.Operand (name (spelled_of t) t)) + ns) ds (1 + ps) (range_row t a b ys)
range_passes n t a b ns ds ps ys fa fb c h =
    let k = with_known n t in
    let close = at d.CloseBracket (sign s.CloseBracket) ∷ ys in
    let rest = at d.Comma (sign s.Comma) ∷ (bound_leaves b ++ close) in
    let nodes = h.nodes in
    let definitions = h.definitions in
    let propositions = h.propositions in
    record {
      form = bound_form a rest fa ∙ bound_form b close fb ∙ h.form;
      names = bound_names k a rest ∙ bound_names k b close ∙ h.names;
      opened = bound_opened a rest ∙ bound_opened b close ∙ h.opened;
      bounds = lower_bounds a rest ∙ upper_bounds (bound_number a) b close c ∙ h.bounds;
      places = bound_places a rest ∙ bound_places b close ∙ h.places;
      nodes = omega (arith, nodes, bound_nodes k a rest, bound_nodes k b close);
      definitions = omega (arith, definitions, bound_definitions a rest, bound_definitions b close);
      propositions = omega (
        arith,
        propositions,
        bound_propositions a rest,
        bound_propositions b close,
      );
    }

pub range_arrow : (t : Name) (a b : Bound) (ys : List Leaf)
    → has_arrow (range_row t a b ys) ≡ has_arrow ys
range_arrow t a b ys =
    let close = at d.CloseBracket (sign s.CloseBracket) ∷ ys in
    bound_arrow a (at d.Comma (sign s.Comma) ∷ (bound_leaves b ++ close)) ∙ bound_arrow b close

abbrev pub asked_row : Name → List Leaf → List Leaf
asked_row t ys = name_leaf t ∷ (at d.Relation (sign s.In) ∷ (at d.Range (sign s.Ask) ∷ ys))

pub asked_passes : (n : NamesSeen) (t : Name) (ns ds ps : ℕ) (ys : List Leaf)
    → has_arrow ys ≡ false → Passes (with_known n t) place.Formula [] ns ds ps ys
    → Passes n place.PropositionNext []
    (one_if (is_new n d.Operand (name (spelled_of t) t)) + ns) ds (1 + ps) (asked_row t ys)
asked_passes n t ns ds ps ys a h =
    let nodes = h.nodes in
    let definitions = h.definitions in
    let propositions = h.propositions in
    record {
      form = ap (λ b. not b && form_ok ys) a ∙ h.form;
      names = h.names;
      opened = h.opened;
      bounds = h.bounds;
      places = h.places;
      nodes = omega (arith, nodes);
      definitions = omega (arith, definitions);
      propositions = omega (arith, propositions);
    }

abbrev pub place_row : Name → ℕ → List Leaf → List Leaf
place_row t m ys =
    at d.Prop (sign s.At) ∷ (at d.Fix (name spelled.Fix (codes "FIX"))
    ∷ (at d.OpenParen (sign s.OpenParen) ∷ (name_leaf t ∷ (at d.Comma (sign s.Comma)
    ∷ (whole_leaves (place_whole m) ++ (at d.CloseParen (sign s.CloseParen) ∷ ys))))))

pub place_passes : (n : NamesSeen) (t : Name) (m ns ds ps : ℕ) (ys : List Leaf) → m < 64
    → has_arrow ys ≡ true → Passes (with_known n t) place.Formula [] ns ds ps ys
    → Passes n place.PropositionNext []
    (one_if (is_new n d.Operand (name (spelled_of t) t)) + ns) ds (1 + ps) (place_row t m ys)
place_passes n t m ns ds ps ys l a h =
    let k = with_known n t in
    let close = at d.CloseParen (sign s.CloseParen) ∷ ys in
    let rest = name_leaf t ∷ (at d.Comma (sign s.Comma) ∷ (whole_leaves (place_whole m) ++ close))
    in
    let arrow : has_arrow (whole_leaves (place_whole m) ++ close) ≡ true = whole_arrow m close
    ∙ a in
    let nodes = h.nodes in
    let definitions = h.definitions in
    let propositions = h.propositions in
    record {
      form = ap (λ b. b && form_ok rest) arrow ∙ whole_form m close l ∙ h.form;
      names = whole_names k m close ∙ h.names;
      opened = whole_opened (open_is.Pair ∷ []) m close refl ∙ h.opened;
      bounds = whole_bounds m close ∙ h.bounds;
      places = whole_claiming m close ∙ h.places;
      nodes = omega (arith, nodes, whole_nodes k m close);
      definitions = omega (arith, definitions, whole_definitions m close);
      propositions = omega (arith, propositions, whole_claimed m close);
    }

pub place_arrow : (t : Name) (m : ℕ) (ys : List Leaf)
    → has_arrow (place_row t m ys) ≡ has_arrow ys
place_arrow t m ys = whole_arrow m (at d.CloseParen (sign s.CloseParen) ∷ ys)

-- ---- between propositions

pub and_passes : (n : NamesSeen) (ns ds ps : ℕ) (ys : List Leaf)
    → Passes n place.PropositionNext [] ns ds ps ys
    → Passes n place.Formula [] ns ds ps (at d.Connective (sign s.And) ∷ ys)
and_passes n ns ds ps ys h =
    let nodes = h.nodes in
    let definitions = h.definitions in
    let propositions = h.propositions in
    record {
      form = h.form;
      names = h.names;
      opened = h.opened;
      bounds = h.bounds;
      places = h.places;
      nodes = omega (arith, nodes);
      definitions = omega (arith, definitions);
      propositions = omega (arith, propositions);
    }

pub arrow_passes : (n : NamesSeen) (ns ds ps : ℕ) (ys : List Leaf)
    → Passes n place.PropositionNext [] ns ds ps ys
    → Passes n place.Formula [] ns ds ps (at d.Connective (sign s.Arrow) ∷ ys)
arrow_passes n ns ds ps ys h =
    let nodes = h.nodes in
    let definitions = h.definitions in
    let propositions = h.propositions in
    record {
      form = h.form;
      names = h.names;
      opened = h.opened;
      bounds = h.bounds;
      places = h.places;
      nodes = omega (arith, nodes);
      definitions = omega (arith, definitions);
      propositions = omega (arith, propositions);
    }

pub end_passes : (n : NamesSeen)
    → Passes n place.Formula [] 0 0 0 (at d.CloseBrace (sign s.CloseBrace) ∷ [])
end_passes n = record {
  form = refl;
  names = refl;
  opened = refl;
  bounds = refl;
  places = refl;
  nodes = omega arith;
  definitions = omega arith;
  propositions = omega arith;
}

-- with more that is allowed
pub allowed : (n : NamesSeen) (p : ScriptPart) (os : List Open) (ns ms ds es ps qs : ℕ)
    (ys : List Leaf) → ns ≤ ms → ds ≤ es → ps ≤ qs → Passes n p os ns ds ps ys
    → Passes n p os ms es qs ys
allowed n p os ns ms ds es ps qs ys a b c h = record {
  form = h.form;
  names = h.names;
  opened = h.opened;
  bounds = h.bounds;
  places = h.places;
  nodes = let nodes = h.nodes in omega (arith, nodes);
  definitions = let definitions = h.definitions in omega (arith, definitions);
  propositions = let propositions = h.propositions in omega (arith, propositions);
}

-- the brace before the formula
pub brace_passes : (n : NamesSeen) (ns ds ps : ℕ) (ys : List Leaf)
    → Passes n place.PropositionNext [] ns ds ps ys
    → Passes n place.Definitions [] ns ds ps (at d.Script (sign s.OpenBrace) ∷ ys)
brace_passes n ns ds ps ys h =
    let nodes = h.nodes in
    let definitions = h.definitions in
    let propositions = h.propositions in
    record {
      form = h.form;
      names = h.names;
      opened = h.opened;
      bounds = h.bounds;
      places = h.places;
      nodes = omega (arith, nodes);
      definitions = omega (arith, definitions);
      propositions = omega (arith, propositions);
    }
