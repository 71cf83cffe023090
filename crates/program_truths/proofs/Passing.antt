-- Words that the judge of scripts lets pass, by tests of each kind apart.
use Rattle.std.proofs.Common.{◌≡◌, ◌↔◌, ℕ, ◌+◌, ◌*◌, ◌≤◌, ◌&&◌, not, nat_lt, Bool, true, false}
use Rattle.std.proofs.Common.{List, []}
use Rattle.std.proofs.Common.{◌∷◌, length, Option, Some, None, refl, sym, ap, ◌∙◌, subst, arith}
use Rattle.fx_model.specs.Fraction.{Fraction}
use Rattle.fx_model.specs.Grid.{signed}
use Rattle.fx_model.specs.Expression.{literal_value}
use Rattle.literal.specs.Spelling.{IsWithin, written}
use Rattle.literal.specs.Normal.{IsPastLimits}
use Rattle.script_words.specs.declared.class.Symbol.TheVariants as s
use Rattle.script_words.specs.Words.{Word, name, literal, sign}
use Rattle.script_shape.specs.declared.due.Due.{Due}
use Rattle.script_shape.specs.declared.due.Due.TheVariants as d
use Rattle.script_shape.specs.Roles.{Leaf}
use Rattle.script_bounds.specs.Texts.{IsNumber}
use Rattle.script_judge.specs.declared.counts.Counts.{Counts}
use Rattle.script_judge.specs.declared.counts.ScriptPart.{ScriptPart}
use Rattle.script_judge.specs.declared.nesting.Open.{Open}
use Rattle.script_judge.specs.Names.{NamesSeen, names_after, halved_after, is_new, is_used}
use Rattle.script_judge.specs.Names.{is_some_among, defines, split_name}
use Rattle.script_judge.specs.Nesting.{opened_after}
use Rattle.script_judge.specs.Counts.{one_if, is_equal_sign, place_after, begins_definition}
use Rattle.script_judge.specs.Counts.{begins_proposition, begins_hint, nodes_at, splits_at}
use Rattle.script_judge.specs.Counts.{pieces_after, rounds_after, halves_after, cases_after}
use Rattle.script_judge.specs.Counts.{conjunctions_after}
use Rattle.script_judge.specs.Bounds.{IsBoundOf, IsBoundText, IsWordNumber, BoundsSeen}
use Rattle.script_judge.specs.Bounds.{bounds_after, is_bad_bound}
use Rattle.script_judge.specs.Splits.{is_rangeless, is_bad_point}
use Rattle.script_judge.specs.Numbers.{digits_of, has_no_pieces, is_past_lsb, is_past_pieces, Notes}
use Rattle.script_judge.specs.Numbers.{is_number, IsPastWord, IsPast, Tells}
use Rattle.script_judge.specs.Judge.{Seen, seen_after, is_ask, is_empty, is_on_wrong_side}
use Rattle.script_judge.specs.Judge.{form_kind, limit_kind, refusal_at, Judged}
use Rattle.script_judge.specs.Judge.{none_refused, passed}
use Rattle.script_judge.specs.Sides.{is_or, has_arrow}
use Rattle.script_nodes.specs.Literals.{literal_of, LiteralsAreTested, SpelledOnce}
use Rattle.fixprog.specs.Faults.{is_literal}

-- ---- what each word may be

abbrev literal_ok : Word → Bool
literal_ok (literal k t) = is_literal t
literal_ok w = false

abbrev next_literal : List Leaf → Bool
next_literal [] = false
next_literal (l ∷ ls) = literal_ok l.word

abbrev bound_ok : Word → List Leaf → Bool
bound_ok (literal k t) behind = is_literal t
bound_ok (sign s.Plus) behind = next_literal behind
bound_ok (sign s.Minus) behind = next_literal behind
bound_ok w behind = false

abbrev operand_ok : Word → Bool
operand_ok (literal k t) = is_literal t
operand_ok (name k t) = true
operand_ok (sign s.Minus) = true
operand_ok (sign s.Fixed) = true
operand_ok w = false

-- The words of scripts without hints, whose definitions name values and whose hypotheses are one
-- conjunction.
abbrev pub leaf_ok : Due → Word → List Leaf → Bool
leaf_ok d.Script w behind = true
leaf_ok d.DefinedBy w behind = is_equal_sign w
leaf_ok d.Less w behind = true
leaf_ok d.Greater w behind = true
leaf_ok d.Whole w behind = not (nat_lt 512 (digits_of w))
leaf_ok d.WholeDigits w behind = not (nat_lt 512 (digits_of w))
leaf_ok d.Direction w behind = true
leaf_ok d.Semicolon w behind = true
leaf_ok d.Operand w behind = operand_ok w
leaf_ok d.Tail w behind = true
leaf_ok d.OpenParen w behind = true
leaf_ok d.CloseParen w behind = true
leaf_ok d.Comma w behind = true
leaf_ok d.Fix w behind = true
leaf_ok d.Relation w behind = true
leaf_ok d.CloseBracket w behind = true
leaf_ok d.Range w behind = not (is_ask w && has_arrow behind)
leaf_ok d.Prop w behind = has_arrow behind
leaf_ok d.Bound w behind = bound_ok w behind
leaf_ok d.Magnitude w behind = literal_ok w
leaf_ok d.Connective w behind = not (is_or w)
leaf_ok d.CloseBrace w behind = true
leaf_ok r w behind = false

not_is : (b : Bool) → not b ≡ true → b ≡ false
not_is true h = absurd (cc)
not_is false h = refl

both : (a b : Bool) → (a && b) ≡ true → (a ≡ true) × (b ≡ true)
both true b h = (refl, h)
both false b h = absurd (cc)

not_past_by : (m n : ℕ) → n ≤ m → nat_lt m n ≡ false
not_past_by m n h = grind arith

-- ---- tests of all words

abbrev pub form_ok : List Leaf → Bool
form_ok [] = true
form_ok (l ∷ ls) = leaf_ok l.role l.word ls && form_ok ls

abbrev pub names_ok : NamesSeen → List Leaf → Bool
names_ok n [] = true
names_ok n (l ∷ ls) =
    not (is_used n (defines l.role l.word) ls) && names_ok (names_after n false l.role l.word) ls

abbrev pub opened_ok : List Open → List Leaf → Bool
opened_ok os [] = true
opened_ok os (l ∷ ls) =
    let next = opened_after os l.role l.word in
    not (nat_lt 64 (length next)) && opened_ok next ls

abbrev pub places_ok : ScriptPart → List Leaf → Bool
places_ok p [] = true
places_ok p (l ∷ ls) = not (begins_hint p) && places_ok (place_after p l.role l.word) ls

abbrev pub node_weight : NamesSeen → List Leaf → ℕ
node_weight n [] = 0
node_weight n (l ∷ ls) =
    nodes_at false (is_new n l.role l.word) l.role l.word
    + node_weight (names_after n false l.role l.word) ls

abbrev pub definition_weight : List Leaf → ℕ
definition_weight [] = 0
definition_weight (l ∷ ls) = one_if (begins_definition l.role l.word) + definition_weight ls

abbrev pub proposition_weight : ScriptPart → List Leaf → ℕ
proposition_weight p [] = 0
proposition_weight p (l ∷ ls) =
    one_if (begins_proposition p l.role) + proposition_weight (place_after p l.role l.word) ls

-- ---- numbers of bounds

abbrev pub literal_number : Bool → List ℕ → Fraction
literal_number negative t = signed negative (literal_value (literal_of t))

abbrev word_number : Bool → Word → Option Fraction
word_number negative (literal k t) = Some (literal_number negative t)
word_number negative w = None

abbrev magnitude_number : Bool → List Leaf → Option Fraction
magnitude_number negative [] = None
magnitude_number negative (l ∷ ls) = word_number negative l.word

abbrev bound_number : Word → List Leaf → Option Fraction
bound_number (literal k t) behind = Some (literal_number false t)
bound_number (sign s.Plus) behind = magnitude_number false behind
bound_number (sign s.Minus) behind = magnitude_number true behind
bound_number w behind = None

abbrev pub number_at : Due → Word → List Leaf → Option Fraction
number_at d.Bound w behind = bound_number w behind
number_at r w behind = None

abbrev pub bounds_ok : BoundsSeen → List Leaf → Bool
bounds_ok b [] = true
bounds_ok b (l ∷ ls) =
    let n = number_at l.role l.word ls in
    not (is_bad_bound b n) && bounds_ok (bounds_after b n l.role l.word) ls

abbrev pub notes : Due → Word → List Leaf → Notes
notes r w behind = record {
  past = false;
  number = number_at r w behind;
}

-- ---- what stands where words pass

-- The words that are left pass all tests.
pub record Stands (x : Seen) (ls : List Leaf) : Type 0 where
  pub form : form_ok ls ≡ true
  pub names : names_ok x.names ls ≡ true
  pub opened : opened_ok x.opened ls ≡ true
  pub bounds : bounds_ok x.bounds ls ≡ true
  pub places : places_ok x.counts.place ls ≡ true
  pub halved : x.names.halved ≡ []
  pub rounds : x.counts.rounds ≡ false
  pub halves : x.counts.halves ≡ false
  pub hints : x.counts.hints ≡ 0
  pub splits : x.counts.splits ≡ 0
  pub pieces : x.counts.pieces ≡ 0
  pub cases : x.counts.cases ≡ 1
  pub conjunctions : x.counts.conjunctions ≡ 1
  pub nodes : x.counts.nodes + node_weight x.names ls ≤ 512
  pub definitions : x.counts.definitions + definition_weight ls ≤ 256
  pub propositions : x.counts.propositions + proposition_weight x.counts.place ls ≤ 128

-- ---- one word, by its role

wrong_side : (r : Due) (w : Word) (behind : List Leaf) → leaf_ok r w behind ≡ true
    → is_on_wrong_side r w (has_arrow behind) behind ≡ false
wrong_side d.Range w behind h = not_is (is_ask w && has_arrow behind) h
wrong_side d.Prop w behind h = ap (λ b. not b && not (is_empty behind)) h
wrong_side d.Connective w behind h = ap (λ b. b && not (has_arrow behind)) (not_is (is_or w) h)
wrong_side d.Claim w behind h = absurd (cc)
wrong_side r w behind h = refl

no_split_name : (r : Due) (w : Word) (behind : List Leaf) → leaf_ok r w behind ≡ true
    → split_name r w ≡ None
no_split_name d.SplitName w behind h = absurd (cc)
no_split_name r w behind h = refl

no_cut : (r : Due) (w : Word) (behind : List Leaf) → leaf_ok r w behind ≡ true
    → has_no_pieces r w ≡ false
no_cut d.Cut w behind h = absurd (cc)
no_cut r w behind h = refl

no_lsb : (r : Due) (w : Word) (behind : List Leaf) → leaf_ok r w behind ≡ true
    → is_past_lsb r w ≡ false
no_lsb d.Whole w behind h = not_is (nat_lt 512 (digits_of w)) h
no_lsb d.WholeDigits w behind h = not_is (nat_lt 512 (digits_of w)) h
no_lsb r w behind h = refl

no_pieces : (r : Due) (w : Word) (behind : List Leaf) → leaf_ok r w behind ≡ true
    → is_past_pieces r w ≡ false
no_pieces d.Cut w behind h = absurd (cc)
no_pieces r w behind h = refl

one_case : (r : Due) (w : Word) → cases_after 1 1 r w ≡ 1
one_case d.Connective (sign s.Arrow) = refl
one_case d.Connective w = refl
one_case r w = refl

one_conjunction : (r : Due) (w : Word) (behind : List Leaf) → leaf_ok r w behind ≡ true
    → conjunctions_after 1 r w ≡ 1
one_conjunction d.Connective (sign s.Or) behind h = absurd (cc)
one_conjunction d.Connective w behind h = refl
one_conjunction r w behind h = refl

no_rounds : (r : Due) (w : Word) (behind : List Leaf) → leaf_ok r w behind ≡ true
    → rounds_after false r w ≡ false
no_rounds d.DefinedBy w behind h = ap not h
no_rounds r w behind h = refl

no_halves : (r : Due) (w : Word) (behind : List Leaf) → leaf_ok r w behind ≡ true
    → halves_after false r ≡ false
no_halves d.HintRest w behind h = absurd (cc)
no_halves d.GoalSplit w behind h = absurd (cc)
no_halves r w behind h = refl

no_splits : (r : Due) (w : Word) (behind : List Leaf) → leaf_ok r w behind ≡ true
    → splits_at r ≡ 0
no_splits d.Hints w behind h = absurd (cc)
no_splits r w behind h = refl

still_no_pieces : (r : Due) (w : Word) (behind : List Leaf) → leaf_ok r w behind ≡ true
    → pieces_after 0 r w ≡ 0
still_no_pieces d.Cut w behind h = absurd (cc)
still_no_pieces r w behind h = refl

-- ---- refusals

form_none : (a b c e f g h i : Bool) → a ≡ false → b ≡ false → c ≡ false → e ≡ false → f ≡ false
    → g ≡ false → h ≡ false → i ≡ false → form_kind a b c e f g h i ≡ None
form_none a b c e f g h i pa pb pc pe pf pg ph pi = rw (pa, pb, pc, pe, pf, pg, ph, pi) refl

limit_none : (o n : ℕ) (c : Counts) (l p : Bool) → nat_lt 64 o ≡ false
    → nat_lt 256 c.definitions ≡ false → nat_lt 128 c.propositions ≡ false
    → nat_lt 64 c.hints ≡ false → nat_lt 512 c.nodes ≡ false → l ≡ false
    → nat_lt 4 c.splits ≡ false → nat_lt 4 n ≡ false → nat_lt 64 c.pieces ≡ false → p ≡ false
    → nat_lt 64 (c.cases * c.conjunctions) ≡ false → limit_kind o n c l p ≡ None
limit_none o n c l p po pd pp ph pn pl ps pv pc pi px =
    rw (po, pd, pp, ph, pn, pl, ps, pv, pc, pi, px) refl

module _ (tested : LiteralsAreTested) (once : SpelledOnce) where
  -- ---- what literals tell

  not_past : (t : List ℕ) → is_literal t ≡ true → IsPastLimits t → ⊥
  not_past t h p =
      let r = (tested t).0 h in
      p.beyond (subst IsWithin (once t r.spelling p.spelling r.spells p.spells) r.within)

  literal_not_past : (w : Word) → literal_ok w ≡ true → IsPastWord w → ⊥
  literal_not_past (literal k t) h p = not_past t h p
  literal_not_past w h p = p

  operand_not_past : (w : Word) → operand_ok w ≡ true → IsPastWord w → ⊥
  operand_not_past (literal k t) h p = not_past t h p
  operand_not_past w h p = p

  bound_not_past : (w : Word) (behind : List Leaf) → bound_ok w behind ≡ true → IsPastWord w → ⊥
  bound_not_past (literal k t) behind h p = not_past t h p
  bound_not_past w behind h p = p

  no_past : (r : Due) (w : Word) (behind : List Leaf) → leaf_ok r w behind ≡ true
      → IsPast (is_number r) w → ⊥
  no_past d.Operand w behind h p = operand_not_past w h p
  no_past d.Bound w behind h p = bound_not_past w behind h p
  no_past d.Magnitude w behind h p = literal_not_past w h p
  no_past r w behind h p = p

  some_is : (a x : Fraction) → Some a ≡ Some x → x ≡ a
  some_is a x e = cc

  number_is : (negative : Bool) (t : List ℕ) (x : Fraction) → is_literal t ≡ true
      → (Some (literal_number negative t) ≡ Some x) ↔ IsNumber negative t x
  number_is negative t x h =
      let r = (tested t).0 h in (
        λ e. record {
          spelling = r.spelling;
          spells = r.spells;
          within = r.within;
          value = some_is (literal_number negative t) x e ∙ ap (signed negative) r.normal.value;
        },
        λ n. ap Some (ap (signed negative) (r.normal.value
            ∙ ap (λ y. literal_value (written y)) (once t r.spelling n.spelling r.spells n.spells))
            ∙ sym n.value),
      )

  word_tells : (negative : Bool) (w : Word) (x : Fraction) → literal_ok w ≡ true
      → (word_number negative w ≡ Some x) ↔ IsWordNumber negative w x
  word_tells negative (literal k t) x h = number_is negative t x h
  word_tells negative w x h = absurd (cc)

  bound_tells : (w : Word) (behind : List Leaf) (x : Fraction) → bound_ok w behind ≡ true
      → (bound_number w behind ≡ Some x) ↔ IsBoundText w behind x
  bound_tells (literal k t) behind x h = number_is false t x h
  bound_tells (sign s.Plus) [] x h = absurd (cc)
  bound_tells (sign s.Plus) (l ∷ ls) x h = word_tells false l.word x h
  bound_tells (sign s.Minus) [] x h = absurd (cc)
  bound_tells (sign s.Minus) (l ∷ ls) x h = word_tells true l.word x h
  bound_tells w behind x h = absurd (cc)

  no_number : (x : Fraction) → (None ≡ Some x) ↔ ⊥
  no_number x = (λ e. absurd (cc), λ h. absurd h)

  number_tells : (r : Due) (w : Word) (behind : List Leaf) (x : Fraction)
      → leaf_ok r w behind ≡ true → (number_at r w behind ≡ Some x) ↔ IsBoundOf r w behind x
  number_tells d.Bound w behind x h = bound_tells w behind x h
  number_tells r w behind x h = no_number x

  tells : (r : Due) (w : Word) (behind : List Leaf) → leaf_ok r w behind ≡ true
      → Tells (notes r w behind) r w behind
  tells r w behind h = record {
    past = (λ p. absurd (cc), λ p. absurd (no_past r w behind h p));
    number = λ x. number_tells r w behind x h;
  }

  -- ---- one word

  module _ (x : Seen) (l : Leaf) (ls : List Leaf) (h : Stands x (l ∷ ls)) where
    abbrev next : Seen
    next = seen_after (notes l.role l.word ls) x l.role l.word

    fine : leaf_ok l.role l.word ls ≡ true
    fine = (both (leaf_ok l.role l.word ls) (form_ok ls) h.form).0

    new_names : names_ok (names_after x.names false l.role l.word) ls ≡ true
    new_names = (both (not (is_used x.names (defines l.role l.word) ls)) _ h.names).1

    not_used : is_used x.names (defines l.role l.word) ls ≡ false
    not_used = not_is _ (both (not (is_used x.names (defines l.role l.word) ls))
        (names_ok (names_after x.names false l.role l.word) ls) h.names).0

    few_open : nat_lt 64 (length next.opened) ≡ false
    few_open = not_is _ (both (not (nat_lt 64 (length next.opened)))
        (opened_ok next.opened ls) h.opened).0

    no_hint_here : begins_hint x.counts.place ≡ false
    no_hint_here = not_is _ (both (not (begins_hint x.counts.place))
        (places_ok next.counts.place ls) h.places).0

    none_halved : next.names.halved ≡ []
    none_halved = ap (halved_after x.names.halved x.counts.halves)
        (no_split_name l.role l.word ls fine) ∙ h.halved

    same_weight : nodes_at x.counts.rounds (is_new x.names l.role l.word) l.role l.word
        ≡ nodes_at false (is_new x.names l.role l.word) l.role l.word
    same_weight = ap (λ b. nodes_at b (is_new x.names l.role l.word) l.role l.word) h.rounds

    same_names : node_weight next.names ls
        ≡ node_weight (names_after x.names false l.role l.word) ls
    same_names = ap (λ b. node_weight (names_after x.names b l.role l.word) ls) h.halves

    stands_next : Stands next ls
    stands_next = record {
      form = (both (leaf_ok l.role l.word ls) (form_ok ls) h.form).1;
      names = ap (λ b. names_ok (names_after x.names b l.role l.word) ls) h.halves ∙ new_names;
      opened = (both (not (nat_lt 64 (length next.opened))) (opened_ok next.opened ls) h.opened).1;
      bounds = (both (not (is_bad_bound x.bounds (number_at l.role l.word ls)))
          (bounds_ok next.bounds ls) h.bounds).1;
      places = (both (not (begins_hint x.counts.place)) (places_ok next.counts.place ls)
          h.places).1;
      halved = none_halved;
      rounds = ap (λ b. rounds_after b l.role l.word) h.rounds ∙ no_rounds l.role l.word ls fine;
      halves = ap (λ b. halves_after b l.role) h.halves ∙ no_halves l.role l.word ls fine;
      hints = ap (λ b. x.counts.hints + one_if b) no_hint_here ∙ ap (λ n. n + 0) h.hints;
      splits = ap (λ n. x.counts.splits + n) (no_splits l.role l.word ls fine)
          ∙ ap (λ n. n + 0) h.splits;
      pieces = ap (λ n. pieces_after n l.role l.word) h.pieces
          ∙ still_no_pieces l.role l.word ls fine;
      cases = (λ i. cases_after (h.cases i) (h.conjunctions i) l.role l.word)
          ∙ one_case l.role l.word;
      conjunctions = ap (λ n. conjunctions_after n l.role l.word) h.conjunctions
          ∙ one_conjunction l.role l.word ls fine;
      nodes = let n = h.nodes in omega (arith, n, same_weight, same_names);
      definitions = let n = h.definitions in omega (arith, n);
      propositions = let n = h.propositions in omega (arith, n);
    }

    no_form : form_kind (is_on_wrong_side l.role l.word (has_arrow ls) ls)
        (is_used x.names (defines l.role l.word) ls)
        (is_bad_bound x.bounds (number_at l.role l.word ls))
        (is_rangeless x.said
        (is_some_among x.names.defined (split_name l.role l.word)) (split_name l.role l.word))
        (is_some_among x.names.defined (split_name l.role l.word)) (has_no_pieces l.role l.word)
        (is_bad_point x.splits (nat_lt 0 x.counts.pieces) (number_at l.role l.word ls)) false
        ≡ None
    no_form =
        let none = no_split_name l.role l.word ls fine in
        form_none _ _ _ _ _ _ _ _ (wrong_side l.role l.word ls fine) not_used
        (not_is _ (both (not (is_bad_bound x.bounds (number_at l.role l.word ls)))
        (bounds_ok next.bounds ls) h.bounds).0)
        (ap (λ o. is_rangeless x.said (is_some_among x.names.defined o) o) none)
        (ap (is_some_among x.names.defined) none) (no_cut l.role l.word ls fine)
        (ap (λ n. is_bad_point x.splits (nat_lt 0 n) (number_at l.role l.word ls)) h.pieces) refl

    no_limit : limit_kind (length next.opened) (length next.names.halved) next.counts
        (is_past_lsb l.role l.word) (is_past_pieces l.role l.word) ≡ None
    no_limit =
        let n = stands_next in
        let nodes = n.nodes in
        let definitions = n.definitions in
        let propositions = n.propositions in
        limit_none (length next.opened) (length next.names.halved) next.counts _ _ few_open
        (not_past_by 256 next.counts.definitions (omega (arith, definitions)))
        (not_past_by 128 next.counts.propositions (omega (arith, propositions)))
        (ap (nat_lt 64) n.hints)
        (not_past_by 512 next.counts.nodes (omega (arith, nodes)))
        (no_lsb l.role l.word ls fine) (ap (nat_lt 4) n.splits)
        (ap (λ ns. nat_lt 4 (length ns)) none_halved) (ap (nat_lt 64) n.pieces)
        (no_pieces l.role l.word ls fine)
        (λ i. nat_lt 64 (n.cases i * n.conjunctions i))

    not_refused : refusal_at (notes l.role l.word ls) x l.role l.word ls ≡ None
    not_refused = rw (no_form, no_limit) refl

  -- All pass.
  pub passes : (ls : List Leaf) (x : Seen) (i : ℕ) → Stands x ls → Judged i x ls None
  passes [] x i h = none_refused
  passes (l ∷ ls) x i h =
      passed (tells l.role l.word ls (fine x l ls h)) (not_refused x l ls h)
      (passes ls (next x l ls h) (i + 1) (stands_next x l ls h))
