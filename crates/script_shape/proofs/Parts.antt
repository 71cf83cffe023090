-- What each thing that is due stands for, and that the stack speaks of all that can come.
use Rattle.std.proofs.Common.{◌≡◌, ℕ, List, [], ◌∷◌, ◌++◌, Option, Some, None, option_and_then}
use Rattle.std.proofs.Common.{Bool, true, false, refl, sym, ap, ◌∙◌, append_assoc, append-nil}
use Rattle.std.proofs.lemmas.Bool.{and_parts}
use Rattle.script_words.specs.declared.class.Spelled.TheVariants as spelled
use Rattle.script_words.specs.declared.class.Number.{Number}
use Rattle.script_words.specs.declared.class.Number.TheVariants as digits_kind
use Rattle.script_words.specs.declared.class.Symbol.{Symbol}
use Rattle.script_words.specs.declared.class.Symbol.TheVariants as s
use Rattle.script_words.specs.Words.{Word, name, rounding, literal, sign, class_of}
use Rattle.script_shape.specs.declared.due.Due.{Due}
use Rattle.script_shape.specs.declared.due.Due.TheVariants as due
use Rattle.script_shape.specs.Expressions.{AnyName, plain, operator, name_words, Special, free}
use Rattle.script_shape.specs.Expressions.{defined, special_words, Digits, zero_alone, digits}
use Rattle.script_shape.specs.Expressions.{digits_words, Whole, natural, opposite, whole_words}
use Rattle.script_shape.specs.Expressions.{Bound, unsigned, positive, negative, bound_words}
use Rattle.script_shape.specs.Expressions.{Operator, fixed, int, operator_words, Expr, term, factor}
use Rattle.script_shape.specs.Expressions.{atom, Atom, number, variable, parenthesized, absolute}
use Rattle.script_shape.specs.Expressions.{called, rounded, fused, expr_words, atom_words}
use Rattle.script_shape.specs.Propositions.{Range, asked, between, range_words, Prop, lies_in}
use Rattle.script_shape.specs.Propositions.{relative_in, at_most, at_least, multiple, prop_words}
use Rattle.script_shape.specs.Propositions.{Stated, affirmed, denied, stated_words, Formula, single}
use Rattle.script_shape.specs.Propositions.{and, or, implies, formula_words}
use Rattle.script_shape.specs.Hints.{Need, nonzero, below, not_above, above, not_below, need_words}
use Rattle.script_shape.specs.Hints.{NeedList, last_need, more_needs, need_list_words, Needs}
use Rattle.script_shape.specs.Hints.{always, provided, needs_words, Points, last_point, more_points}
use Rattle.script_shape.specs.Hints.{points_words, CutForm, in_four, pieces, at_points, cut_words}
use Rattle.script_shape.specs.Hints.{Names, last_name, more_names, names_words, Halving, halved_by}
use Rattle.script_shape.specs.Hints.{with_goal, halving_words, Hint, rewrite, like, split, halving}
use Rattle.script_shape.specs.Hints.{hint_words, Hints, no_hint, hint, hints_words}
use Rattle.script_shape.specs.Tree.{How, exactly, rounded_by, rounded_apart, rounded_joined}
use Rattle.script_shape.specs.Tree.{how_words, names_operator, names_value, Script, formula, define}
use Rattle.script_shape.specs.Tree.{script_words}
use Rattle.script_shape.specs.Table.{operand, then_due, takes, may_skip}
use Rattle.script_shape.specs.Shape.{after_top, step, run, may_end}
use Rattle.script_shape.proofs.Regroup.{lead_sum, lead_sum_words, lead_difference}
use Rattle.script_shape.proofs.Regroup.{lead_difference_words, lead_product_in}
use Rattle.script_shape.proofs.Regroup.{lead_product_in_words, lead_quotient_in}
use Rattle.script_shape.proofs.Regroup.{lead_quotient_in_words, negated_in, negated_in_words}
use Rattle.script_shape.proofs.Regroup.{at_first, at_first_words}

-- words that make a thing of one sort, which stands before them, into one of another
pub record Adds (X Y : Type 0) (before : X → List Word) (after : Y → List Word) : Type 0 where
  pub words : List Word
  pub make : X → Y
  pub spells : (x : X) → after (make x) ≡ before x ++ words

abbrev pub one : Symbol → Unit {0} → List Word
one g u = sign g ∷ []

-- a cut without its `in`
pub data CutAfterIn : Type 0 where
  to_pieces : Digits → CutAfterIn
  to_points : Points → CutAfterIn

abbrev pub cut_after_in_words : CutAfterIn → List Word
cut_after_in_words (to_pieces k) = digits_words k
cut_after_in_words (to_points l) = sign s.OpenParen ∷ (points_words l ++ (sign s.CloseParen ∷ []))

-- the sign or signs that close a written operator before the expression of a definition
pub data Closing : Type 0 where
  apart : Closing
  joined : Closing

abbrev pub closing_words : Closing → List Word
closing_words apart = sign s.Greater ∷ (sign s.Equal ∷ [])
closing_words joined = sign s.GreaterEqual ∷ []

-- ---- what a thing that is due stands for

abbrev pub Part : Due → Type 0
Part due.Script = Script
Part due.NewName = AnyName
Part due.DefinedBy = How
Part due.Operator = Operator
Part due.Whole = Whole
Part due.WholeDigits = Digits
Part due.Direction = Special
Part due.CloseOperator = Closing
Part due.Claim = Stated
Part due.Prop = Prop
Part due.Operand = Expr
Part due.Tail = Adds Atom Expr atom_words expr_words
Part due.Fix = Special
Part due.Relation = Adds Expr Prop expr_words prop_words
Part due.Range = Range
Part due.Bound = Bound
Part due.Magnitude = Number × List ℕ
Part due.Connective = Adds Formula Formula formula_words formula_words
Part due.Hints = Hints
Part due.HintRest = Adds Expr Hint expr_words hint_words
Part due.GoalSplit = Adds Expr Halving expr_words halving_words
Part due.SplitName = AnyName
Part due.SplitNames = Adds AnyName Names name_words names_words
Part due.SplitCut = CutForm
Part due.Cut = CutAfterIn
Part due.Points = Adds Bound Points bound_words points_words
Part due.Needs = Needs
Part due.NeedRelation = Adds Expr Need expr_words need_words
Part due.Zero = List ℕ
Part due.MoreNeeds = Adds Need NeedList need_words need_list_words
Part due.Equal = Unit {0}
Part due.Less = Unit {0}
Part due.Greater = Unit {0}
Part due.Semicolon = Unit {0}
Part due.OpenParen = Unit {0}
Part due.CloseParen = Unit {0}
Part due.CloseBar = Unit {0}
Part due.Comma = Unit {0}
Part due.In = Unit {0}
Part due.CloseBracket = Unit {0}
Part due.CloseBrace = Unit {0}

abbrev pub part_words : (d : Due) → Part d → List Word
part_words due.Script p = script_words p
part_words due.NewName p = name_words p
part_words due.DefinedBy p = how_words p
part_words due.Operator p = operator_words p
part_words due.Whole p = whole_words p
part_words due.WholeDigits p = digits_words p
part_words due.Direction p = special_words spelled.Direction p
part_words due.CloseOperator p = closing_words p
part_words due.Claim p = stated_words p
part_words due.Prop p = prop_words p
part_words due.Operand p = expr_words p
part_words due.Tail p = p.words
part_words due.Fix p = special_words spelled.Fix p
part_words due.Relation p = p.words
part_words due.Range p = range_words p
part_words due.Bound p = bound_words p
part_words due.Magnitude p = literal p.0 p.1 ∷ []
part_words due.Connective p = p.words
part_words due.Hints p = hints_words p
part_words due.HintRest p = p.words
part_words due.GoalSplit p = p.words
part_words due.SplitName p = name_words p
part_words due.SplitNames p = p.words
part_words due.SplitCut p = cut_words p
part_words due.Cut p = cut_after_in_words p
part_words due.Points p = p.words
part_words due.Needs p = needs_words p
part_words due.NeedRelation p = p.words
part_words due.Zero p = literal digits_kind.Zero p ∷ []
part_words due.MoreNeeds p = p.words
part_words due.Equal p = one s.Equal p
part_words due.Less p = one s.Less p
part_words due.Greater p = one s.Greater p
part_words due.Semicolon p = one s.Semicolon p
part_words due.OpenParen p = one s.OpenParen p
part_words due.CloseParen p = one s.CloseParen p
part_words due.CloseBar p = one s.Bar p
part_words due.Comma p = one s.Comma p
part_words due.In p = one s.In p
part_words due.CloseBracket p = one s.CloseBracket p
part_words due.CloseBrace p = one s.CloseBrace p

abbrev pub Parts : List Due → Type 0
Parts [] = Unit {0}
Parts (d ∷ ds) = Part d × Parts ds

abbrev pub parts_words : (ds : List Due) → Parts ds → List Word
parts_words [] p = []
parts_words (d ∷ ds) p = part_words d p.0 ++ parts_words ds p.1

abbrev pub MayBe : Option (List Due) → Type 0
MayBe None = ⊥
MayBe (Some ds) = Parts ds

abbrev pub may_be_words : (o : Option (List Due)) → MayBe o → List Word
may_be_words None p = []
may_be_words (Some ds) p = parts_words ds p

-- a part that spells these words
abbrev pub Spelled : Due → List Word → Type 0
Spelled d ws = (p : Part d) × (part_words d p ≡ ws)

-- ---- a token, and what is due after it

abbrev adds : {X Y : Type 0} {before : X → List Word} {after : Y → List Word}
    (words : List Word) (make : X → Y) → ((x : X) → after (make x) ≡ before x ++ words)
    → (p : Adds X Y before after) × (p.words ≡ words)
adds words make spells = (record { words = words; make = make; spells = spells }, refl)

minus_operand : (e : Expr) → expr_words (at_first negated_in e) ≡ sign s.Minus ∷ expr_words e
minus_operand e = at_first_words negated_in [] (sign s.Minus) negated_in_words e

operand_taken : (w : Word) (p : MayBe (operand (class_of w)))
    → Spelled due.Operand (w ∷ may_be_words (operand (class_of w)) p)
operand_taken (sign s.Minus) p = (at_first negated_in p.0, minus_operand p.0 ∙ simp append-nil)
operand_taken (literal k t) p = (p.0.make (number k t), p.0.spells (number k t) ∙ simp append-nil)
operand_taken (name k t) p = (p.0.make (variable k t), p.0.spells (variable k t) ∙ simp append-nil)
operand_taken (sign s.OpenParen) p = (
  p.1.1.0.make (parenthesized p.0),
  p.1.1.0.spells (parenthesized p.0) ∙ simp (append_assoc, append-nil),
)
operand_taken (sign s.Bar) p =
    (p.1.1.0.make (absolute p.0), p.1.1.0.spells (absolute p.0) ∙ simp (append_assoc, append-nil))
operand_taken (rounding k t) p = let a = called k t p.1.0 in
    (p.1.1.1.0.make a, p.1.1.1.0.spells a ∙ simp (append_assoc, append-nil))
operand_taken (sign s.Fixed) p = let a = rounded (fixed p.1.0 p.1.1.1.0) p.1.1.1.1.1.1.0 in
    let l = p.1.1.1.1.1.1.1.1.0 in (l.make a, l.spells a ∙ simp (append_assoc, append-nil))
operand_taken (sign s.Int) p = let a = rounded (int p.1.0) p.1.1.1.1.0 in let l = p.1.1.1.1.1.1.0 in
    (l.make a, l.spells a ∙ simp (append_assoc, append-nil))
operand_taken (sign s.Fma) p = let a = fused p.1.0 p.1.1.1.0 p.1.1.1.1.1.0 in
    let l = p.1.1.1.1.1.1.1.0 in (l.make a, l.spells a ∙ simp (append_assoc, append-nil))
operand_taken _ p = absurd p

split_parts : (xs ys : List Due) (p : Parts (xs ++ ys)) → (a : Parts xs) × (b : Parts ys)
    × (parts_words (xs ++ ys) p ≡ parts_words xs a ++ parts_words ys b)
split_parts [] ys p = (tt, p, refl)
split_parts (x ∷ xs) ys p =
    let h = split_parts xs ys p.1 in (
      (p.0, h.0),
      h.1,
      ap (λ l. part_words x p.0 ++ l) h.2
          ∙ sym (append_assoc (part_words x p.0) (parts_words xs h.0) (parts_words ys h.1)),
    )

-- an expression, and then what follows it
then_taken : (w : Word) (o : Option (List Due)) (later : List Due)
    → ((p : MayBe o) → Spelled due.Operand (w ∷ may_be_words o p))
    → (p : MayBe (then_due o later)) → (e : Expr) × (b : Parts later)
    × (expr_words e ++ parts_words later b ≡ w ∷ may_be_words (then_due o later) p)
then_taken w None later take p = absurd p
then_taken w (Some new) later take p =
    let h = split_parts new later p in
    let e = take h.0 in
    (e.0, h.1, ap (λ l. l ++ parts_words later h.1) e.1 ∙ ap (λ l. w ∷ l) (sym h.2))

prop_taken : (w : Word) (p : MayBe (then_due (operand (class_of w)) (due.Relation ∷ [])))
    → Spelled due.Prop (w ∷ may_be_words (then_due (operand (class_of w)) (due.Relation ∷ [])) p)
prop_taken w p =
    let h = then_taken w (operand (class_of w)) (due.Relation ∷ []) (operand_taken w) p in (
      h.1.0.make h.0,
      h.1.0.spells h.0 ∙ ap (λ l. expr_words h.0 ++ l) (sym (append-nil h.1.0.words)) ∙ h.2,
    )

hints_taken : (w : Word)
    (p : MayBe (then_due (operand (class_of w)) (due.HintRest ∷ due.Semicolon ∷ due.Hints ∷ [])))
    → Spelled due.Hints (w ∷ may_be_words (then_due (operand (class_of w))
    (due.HintRest ∷ due.Semicolon ∷ due.Hints ∷ [])) p)
hints_taken w p =
    let h = then_taken w (operand (class_of w))
    (due.HintRest ∷ due.Semicolon ∷ due.Hints ∷ []) (operand_taken w) p in
    let rest = h.1.1.1.0 in (
      hint (h.1.0.make h.0) rest,
      ap (λ l. l ++ (sign s.Semicolon ∷ hints_words rest)) (h.1.0.spells h.0)
          ∙ append_assoc (expr_words h.0) h.1.0.words (sign s.Semicolon ∷ hints_words rest)
          ∙ ap (λ l. expr_words h.0 ++ (h.1.0.words ++ (sign s.Semicolon ∷ l)))
          (sym (append-nil (hints_words rest))) ∙ h.2,
    )

-- a written operator with what closes it
closed : (o : Operator) (c : Closing) (ws : List Word) → operator_words o ++ closing_words c ≡ ws
    → Spelled due.DefinedBy ws
closed o apart ws e = (rounded_apart o, e)
closed o joined ws e = (rounded_joined o, e)

cut_of : (c : CutAfterIn) → Spelled due.SplitCut (sign s.In ∷ (cut_after_in_words c ++ []))
cut_of (to_pieces k) = (pieces k, simp append-nil)
cut_of (to_points l) = (at_points l, simp (append_assoc, append-nil))

pub taken : (d : Due) (w : Word) (p : MayBe (takes d (class_of w)))
    → Spelled d (w ∷ may_be_words (takes d (class_of w)) p)
taken due.Script (sign s.At) p =
    (define (names_operator p.0 p.1.1.0) p.1.1.1.1.1.0, simp (append_assoc, append-nil))
taken due.Script (name k t) p =
    (define (names_value (plain k t) p.0 p.1.0) p.1.1.1.0, simp (append_assoc, append-nil))
taken due.Script (rounding k t) p =
    (define (names_value (operator k t) p.0 p.1.0) p.1.1.1.0, simp (append_assoc, append-nil))
taken due.Script (sign s.OpenBrace) p = let f = p.1.0 in (
  formula (f.make (single p.0)) p.1.1.1.0,
  ap (λ l. sign s.OpenBrace ∷ (l ++ (sign s.CloseBrace ∷ hints_words p.1.1.1.0)))
      (f.spells (single p.0)) ∙ simp (append_assoc, append-nil),
)
taken due.NewName (name k t) p = (plain k t, refl)
taken due.NewName (rounding k t) p = (operator k t, refl)
taken due.DefinedBy (sign s.Equal) p = (exactly, refl)
taken due.DefinedBy (rounding k t) p = (rounded_by k t, refl)
taken due.DefinedBy (sign s.Fixed) p =
    closed (fixed p.1.0 p.1.1.1.0) p.1.1.1.1.0 _ (simp (append_assoc, append-nil))
taken due.DefinedBy (sign s.Int) p = closed (int p.1.0) p.1.1.0 _ (simp append-nil)
taken due.Equal (sign s.Equal) p = (tt, refl)
taken due.Operator (sign s.Fixed) p = (fixed p.1.0 p.1.1.1.0, simp append-nil)
taken due.Operator (sign s.Int) p = (int p.1.0, simp append-nil)
taken due.Less (sign s.Less) p = (tt, refl)
taken due.Greater (sign s.Greater) p = (tt, refl)
taken due.Whole (sign s.Minus) p = (opposite p.0, simp append-nil)
taken due.Whole (literal digits_kind.Zero t) p = (natural (zero_alone t), refl)
taken due.Whole (literal digits_kind.Digits t) p = (natural (digits t), refl)
taken due.WholeDigits (literal digits_kind.Zero t) p = (zero_alone t, refl)
taken due.WholeDigits (literal digits_kind.Digits t) p = (digits t, refl)
taken due.Direction (name spelled.Direction t) p = (free t, refl)
taken due.Direction (rounding spelled.Direction t) p = (defined t, refl)
taken due.CloseOperator (sign s.Greater) p = (apart, refl)
taken due.CloseOperator (sign s.GreaterEqual) p = (joined, refl)
taken due.Semicolon (sign s.Semicolon) p = (tt, refl)
taken due.Claim (sign s.Not) p = (denied p.0, simp append-nil)
taken due.Claim (sign s.At) p = (affirmed (multiple p.0 p.1.1.0 p.1.1.1.1.0), simp append-nil)
taken due.Claim w p = let h = prop_taken w p in (affirmed h.0, h.1)
taken due.Prop (sign s.At) p = (multiple p.0 p.1.1.0 p.1.1.1.1.0, simp append-nil)
taken due.Prop w p = prop_taken w p
taken due.Operand w p = operand_taken w p
taken due.Tail (sign s.Plus) p = adds _ (λ a. lead_sum (factor (atom a)) p.0)
    (λ a. lead_sum_words (factor (atom a)) p.0 ∙ simp append-nil)
taken due.Tail (sign s.Minus) p = adds _ (λ a. lead_difference (factor (atom a)) p.0)
    (λ a. lead_difference_words (factor (atom a)) p.0 ∙ simp append-nil)
taken due.Tail (sign s.Star) p = adds _ (λ a. at_first (lead_product_in (atom a)) p.0)
    (λ a. at_first_words (lead_product_in (atom a)) (atom_words a) (sign s.Star)
    (lead_product_in_words (atom a)) p.0 ∙ simp append-nil)
taken due.Tail (sign s.Slash) p = adds _ (λ a. at_first (lead_quotient_in (atom a)) p.0)
    (λ a. at_first_words (lead_quotient_in (atom a)) (atom_words a) (sign s.Slash)
    (lead_quotient_in_words (atom a)) p.0 ∙ simp append-nil)
taken due.OpenParen (sign s.OpenParen) p = (tt, refl)
taken due.CloseParen (sign s.CloseParen) p = (tt, refl)
taken due.CloseBar (sign s.Bar) p = (tt, refl)
taken due.Comma (sign s.Comma) p = (tt, refl)
taken due.Fix (name spelled.Fix t) p = (free t, refl)
taken due.Fix (rounding spelled.Fix t) p = (defined t, refl)
taken due.Relation (sign s.In) p = adds _ (λ e. lies_in e p.0) (λ e. simp append-nil)
taken due.Relation (sign s.Against) p =
    adds _ (λ e. relative_in e p.0 p.1.1.0) (λ e. simp append-nil)
taken due.Relation (sign s.LessEqual) p = adds _ (λ e. at_most e p.0) (λ e. simp append-nil)
taken due.Relation (sign s.GreaterEqual) p = adds _ (λ e. at_least e p.0) (λ e. simp append-nil)
taken due.In (sign s.In) p = (tt, refl)
taken due.Range (sign s.Ask) p = (asked, refl)
taken due.Range (sign s.OpenBracket) p = (between p.0 p.1.1.0, simp append-nil)
taken due.Bound (literal k t) p = (unsigned k t, refl)
taken due.Bound (sign s.Plus) p = (positive p.0.0 p.0.1, refl)
taken due.Bound (sign s.Minus) p = (negative p.0.0 p.0.1, refl)
taken due.Magnitude (literal k t) p = ((k, t), refl)
taken due.CloseBracket (sign s.CloseBracket) p = (tt, refl)
taken due.Connective (sign s.And) p = adds _ (λ f. p.1.0.make (and f p.0))
    (λ f. p.1.0.spells (and f p.0) ∙ simp (append_assoc, append-nil))
taken due.Connective (sign s.Or) p = adds _ (λ f. p.1.0.make (or f p.0))
    (λ f. p.1.0.spells (or f p.0) ∙ simp (append_assoc, append-nil))
taken due.Connective (sign s.Arrow) p = adds _ (λ f. p.1.0.make (implies f p.0))
    (λ f. p.1.0.spells (implies f p.0) ∙ simp (append_assoc, append-nil))
taken due.CloseBrace (sign s.CloseBrace) p = (tt, refl)
taken due.Hints (sign s.Dollar) p =
    (hint (split p.0 p.1.0) p.1.1.1.0, simp (append_assoc, append-nil))
taken due.Hints w p = hints_taken w p
taken due.HintRest (sign s.Arrow) p = adds _ (λ e. rewrite e p.0 p.1.0) (λ e. simp append-nil)
taken due.HintRest (sign s.Tilde) p = adds _ (λ e. like e p.0) (λ e. simp append-nil)
taken due.HintRest (sign s.Comma) p = adds _ (λ e. halving (with_goal e (p.1.0.make p.0)))
    (λ e. ap (λ l. expr_words e ++ (sign s.Comma ∷ l)) (p.1.0.spells p.0) ∙ simp append-nil)
taken due.HintRest (sign s.Dollar) p = adds _ (λ e. halving (halved_by e (p.1.0.make p.0)))
    (λ e. ap (λ l. expr_words e ++ (sign s.Dollar ∷ l)) (p.1.0.spells p.0) ∙ simp append-nil)
taken due.GoalSplit (sign s.Comma) p = adds _ (λ e. with_goal e (p.1.0.make p.0))
    (λ e. ap (λ l. expr_words e ++ (sign s.Comma ∷ l)) (p.1.0.spells p.0) ∙ simp append-nil)
taken due.GoalSplit (sign s.Dollar) p = adds _ (λ e. halved_by e (p.1.0.make p.0))
    (λ e. ap (λ l. expr_words e ++ (sign s.Dollar ∷ l)) (p.1.0.spells p.0) ∙ simp append-nil)
taken due.SplitName (name k t) p = (plain k t, refl)
taken due.SplitName (rounding k t) p = (operator k t, refl)
taken due.SplitNames (sign s.Comma) p = adds _ (λ n. more_names n (p.1.0.make p.0))
    (λ n. ap (λ l. name_words n ++ (sign s.Comma ∷ l)) (p.1.0.spells p.0) ∙ simp append-nil)
taken due.SplitCut (sign s.In) p = cut_of p.0
taken due.Cut (literal digits_kind.Zero t) p = (to_pieces (zero_alone t), refl)
taken due.Cut (literal digits_kind.Digits t) p = (to_pieces (digits t), refl)
taken due.Cut (sign s.OpenParen) p = (
  to_points (p.1.0.make p.0),
  ap (λ l. sign s.OpenParen ∷ (l ++ (sign s.CloseParen ∷ []))) (p.1.0.spells p.0)
      ∙ simp (append_assoc, append-nil),
)
taken due.Points (sign s.Comma) p = adds _ (λ b. more_points b (p.1.0.make p.0))
    (λ b. ap (λ l. bound_words b ++ (sign s.Comma ∷ l)) (p.1.0.spells p.0) ∙ simp append-nil)
taken due.Needs (sign s.OpenBrace) p = let n = p.1.0.make p.0 in let l = p.1.1.0 in (
  provided (l.make n),
  ap (λ x. sign s.OpenBrace ∷ (x ++ (sign s.CloseBrace ∷ []))) (l.spells n
      ∙ ap (λ x. x ++ l.words) (p.1.0.spells p.0)) ∙ simp (append_assoc, append-nil),
)
taken due.NeedRelation (sign s.Unequal) p = adds _ (λ e. nonzero e p.0) (λ e. refl)
taken due.NeedRelation (sign s.Less) p = adds _ (λ e. below e p.0) (λ e. simp append-nil)
taken due.NeedRelation (sign s.LessEqual) p = adds _ (λ e. not_above e p.0) (λ e. simp append-nil)
taken due.NeedRelation (sign s.Greater) p = adds _ (λ e. above e p.0) (λ e. simp append-nil)
taken due.NeedRelation (sign s.GreaterEqual) p =
    adds _ (λ e. not_below e p.0) (λ e. simp append-nil)
taken due.Zero (literal digits_kind.Zero t) p = (t, refl)
taken due.MoreNeeds (sign s.Comma) p = let n = p.1.0.make p.0 in let l = p.1.1.0 in
    adds _ (λ m. more_needs m (l.make n)) (λ m. ap (λ x. need_words m ++ (sign s.Comma ∷ x))
    (l.spells n ∙ ap (λ x. x ++ l.words) (p.1.0.spells p.0)) ∙ simp (append_assoc, append-nil))
taken _ _ p = absurd p

-- what may be left out stands for nothing
unfoldable pub skipped : (d : Due) → may_skip d ≡ true → Spelled d []
skipped due.Tail h = adds _ (λ a. term (factor (atom a))) (λ a. sym (append-nil (atom_words a)))
skipped due.Connective h = adds _ (λ f. f) (λ f. sym (append-nil (formula_words f)))
skipped due.Hints h = (no_hint, refl)
skipped due.SplitNames h = adds _ last_name (λ n. sym (append-nil (name_words n)))
skipped due.SplitCut h = (in_four, refl)
skipped due.Points h = adds _ last_point (λ b. sym (append-nil (bound_words b)))
skipped due.Needs h = (always, refl)
skipped due.MoreNeeds h = adds _ last_need (λ n. sym (append-nil (need_words n)))
skipped _ h = absurd (cc h)

-- ---- back through one token, and through all of them

-- All that is due, one after another, spells these words.
abbrev pub Goes : List Due → List Word → Type 0
Goes ds ws = (p : Parts ds) × (parts_words ds p ≡ ws)

abbrev pub Lets : Option (List Due) → List Word → Type 0
Lets None ws = ⊥
Lets (Some ds) ws = Goes ds ws

back_top : (d : Due) (w : Word) (new : Option (List Due)) (skip : Bool) (rest : List Due)
    (under : Option (List Due)) → ((p : MayBe new) → Spelled d (w ∷ may_be_words new p))
    → (skip ≡ true → Spelled d []) → ((ws : List Word) → Lets under ws → Goes rest (w ∷ ws))
    → (ws : List Word) → Lets (after_top new skip rest under) ws → Goes (d ∷ rest) (w ∷ ws)
back_top d w (Some new) skip rest under take leave go ws g =
    let h = split_parts new rest g.0 in
    let q = take h.0 in
    ((q.0, h.1), ap (λ l. l ++ parts_words rest h.1) q.1 ∙ ap (λ l. w ∷ l) (sym h.2 ∙ g.1))
back_top d w None true rest under take leave go ws g =
    let q = leave refl in
    let h = go ws g in
    ((q.0, h.0), ap (λ l. l ++ parts_words rest h.0) q.1 ∙ h.1)
back_top d w None false rest under take leave go ws g = absurd g

back_step : (w : Word) (due : List Due) (ws : List Word)
    → Lets (step (class_of w) due) ws → Goes due (w ∷ ws)
unfolding step
back_step w [] ws g = absurd g
back_step w (d ∷ rest) ws g = back_top d w (takes d (class_of w))
    (may_skip d) rest (step (class_of w) rest) (taken d w) (skipped d) (back_step w rest) ws g

through : (r : List Due → Option (List Due)) (front ws : List Word)
    → ((due : List Due) → Lets (r due) ws → Goes due front) → (o : Option (List Due))
    → Lets (option_and_then r o) ws → Lets o front
through r front ws go None g = absurd g
through r front ws go (Some due) g = go due g

pub back : (ws : List Word) (due : List Due) (more : List Word)
    → Lets (run ws due) more → Goes due (ws ++ more)
unfolding run
back [] due more g = g
back (w ∷ ws) due more g = back_step w due (ws ++ more)
    (through (run ws) (ws ++ more) more (λ left h. back ws left more h) (step (class_of w) due) g)

-- ---- what may end

pub nothing : (ds : List Due) → may_end ds ≡ true → Goes ds []
unfolding may_end
nothing [] h = (tt, refl)
nothing (d ∷ rest) h =
    let e = and_parts (may_skip d) (may_end rest) h in
    let q = skipped d e.0 in
    let r = nothing rest e.1 in
    ((q.0, r.0), ap (λ l. l ++ parts_words rest r.0) q.1 ∙ r.1)
