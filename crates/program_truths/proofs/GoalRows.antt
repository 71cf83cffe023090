-- What a program in which nothing is wrong gives the judge of scripts.
use Rattle.std.proofs.Common.{◌≡◌, ◌<◌, ◌≤◌, ◌≤ℤ◌, ◌^◌, ◌-◌, ◌+◌, ◌&&◌, ◌||◌, not, ℕ, pos, zero}
use Rattle.std.proofs.Common.{suc, Bool, true, false, List, [], ◌∷◌, refl, sym, ap, ◌∙◌, subst}
use Rattle.std.proofs.Common.{arith, if◌then◌else◌}
use Rattle.std.specs.Prelude.{neg_ℤ}
use Rattle.std.specs.Str.{bytes_eq}
use Rattle.std.specs.Str.Parse.{digits_value}
use Rattle.std.proofs.lemmas.Int.{ints}
use Rattle.std.proofs.lemmas.Slice.Eq.{bytes_eq-Decides}
use Rattle.fx_model.specs.Fraction.{le_ℚ}
use Rattle.fx_model.specs.Powers.{scaled-le}
use Rattle.literal_order.specs.Values.{written_value}
use Rattle.script_shape.specs.Expressions.{Bound, unsigned, positive, negative}
use Rattle.script_bounds.specs.Tests.{is_less}
use Rattle.script_judge.specs.Names.{is_among as judged_among}
use Rattle.script_nodes.specs.Literals.{LiteralsAreTold, LiteralsAreTested, SpelledOnce}
use Rattle.script_nodes.specs.Written.{bound_written}
use Rattle.fixprog.specs.declared.format.Format.{Format}
use Rattle.fixprog.specs.declared.program.Mark.{Mark}
use Rattle.fixprog.specs.declared.program.Mark.TheVariants as mark
use Rattle.fixprog.specs.Words.{Name}
use Rattle.fixprog.specs.Grammar.{Operand, named, given, Operation, copy, negation, sum, difference}
use Rattle.fixprog.specs.Grammar.{product, shift_right, shift_left, Input, Step, input, step}
use Rattle.fixprog.specs.Formats.{format_of, is_format, least, greatest, last_place, word_value}
use Rattle.fixprog.specs.Faults.{Before, is_among, is_literal, is_outside, is_crossed, bound_value}
use Rattle.fixprog.specs.Faults.{fault_if, new_name_faults, weight_faults, format_faults}
use Rattle.fixprog.specs.Faults.{bound_faults, operand_faults, operation_faults, statement_faults}
use Rattle.fixprog.specs.Faults.{is_way}
use Rattle.fixprog.proofs.NoFaults.{none_front, none_behind, not_if, no_if, short_by}
use Rattle.fixprog.proofs.Narrow.{narrow, power_below}
use Rattle.program_truths.proofs.Trees.{end_bound, word_bound}
use Rattle.program_truths.proofs.BoundValues.{text_with, word_reading, least_is, greatest_is}
use Rattle.program_truths.proofs.Own.{apart}
use Rattle.program_truths.proofs.Rows.{bound_fine, bound_number}
use Rattle.program_truths.proofs.StepRows.{OperandFine, OperationFine, OperandApart, OperationApart}
use Rattle.program_truths.proofs.StepRows.{operand_known, operation_known}

number_is : (b : Bound) → bound_number b ≡ written_value (bound_written b)
number_is (unsigned k t) = refl
number_is (positive k t) = refl
number_is (negative k t) = refl

-- ---- formats

opposite_below : (q r : ℕ) → neg_ℤ (pos q) ≤ℤ pos r
opposite_below zero r = omega (arith, ints)
opposite_below (suc k) r = omega (arith, ints)

below_greatest : (f : Format) → least f ≤ℤ greatest f
below_greatest f = by_sign f.signed
  where
    by_sign : (b : Bool) → (if b then neg_ℤ (pos (2 ^ (f.width - 1))) else pos 0)
        ≤ℤ (if b then pos (2 ^ (f.width - 1) - 1) else pos (2 ^ f.width - 1))
    by_sign true = opposite_below (2 ^ (f.width - 1)) (2 ^ (f.width - 1) - 1)
    by_sign false = opposite_below 0 (2 ^ f.width - 1)

-- The bounds of the step's goal are read, and in order.
pub record IsGoalFine (f : Format) : Type 0 where
  pub low : bound_fine (word_bound (least f) f) ≡ true
  pub high : bound_fine (word_bound (greatest f) f) ≡ true
  pub ordered : is_less (bound_number (word_bound (greatest f) f))
      (bound_number (word_bound (least f) f)) ≡ false

module _ (told : LiteralsAreTold) (once : SpelledOnce) (tested : LiteralsAreTested) where
  plain_read : (f : Format) (n : ℕ) → n < 2 ^ 61 → f.places < 64
      → bound_fine (word_bound (pos n) f) ≡ true
  plain_read f n h l = (tested (text_with n f.places)).1 (word_reading told once n f.places h l)

  opposite_read : (f : Format) (m : ℕ) → m < 2 ^ 61 → f.places < 64
      → bound_fine (word_bound (neg_ℤ (pos m)) f) ≡ true
  opposite_read f zero h l = plain_read f 0 h l
  opposite_read f (suc k) h l =
      (tested (text_with (suc k) f.places)).1 (word_reading told once (suc k) f.places h l)

  least_read : (f : Format) → f.width ≤ 60 → f.places < 64
      → bound_fine (word_bound (least f) f) ≡ true
  least_read f w l = by_sign f.signed
    where
      by_sign : (b : Bool) → bound_fine (word_bound (if b then neg_ℤ (pos (2 ^ (f.width - 1)))
          else pos 0) f) ≡ true
      by_sign true = opposite_read f (2 ^ (f.width - 1)) (power_below (f.width - 1) (omega arith)) l
      by_sign false = plain_read f 0 (omega arith) l

  greatest_read : (f : Format) → f.width ≤ 60 → f.places < 64
      → bound_fine (word_bound (greatest f) f) ≡ true
  greatest_read f w l = by_sign f.signed
    where
      by_sign : (b : Bool) → bound_fine (word_bound (if b then pos (2 ^ (f.width - 1) - 1)
          else pos (2 ^ f.width - 1)) f) ≡ true
      by_sign true = plain_read f (2 ^ (f.width - 1) - 1)
          (let p = power_below (f.width - 1) (omega arith) in omega arith) l
      by_sign false = plain_read f (2 ^ f.width - 1)
          (let p = power_below f.width w in omega arith) l

  pub goal_fine : (f : Format) → is_format f ≡ true → IsGoalFine f
  goal_fine f form =
      let n = narrow f form in
      let low = number_is (word_bound (least f) f) ∙ least_is told once f n.width n.places in
      let high = number_is (word_bound (greatest f) f) ∙ greatest_is told once f n.width n.places in
      let below = scaled-le (least f) (greatest f) (last_place f) (below_greatest f) in
      record {
        low = least_read f n.width n.places;
        high = greatest_read f n.width n.places;
        ordered = ap (λ z. not (le_ℚ z (bound_number (word_bound (greatest f) f)))) low
            ∙ ap (λ z. not (le_ℚ (word_value f (least f)) z)) high ∙ ap not below.le;
      }

-- ---- inputs

pub record IsInputFine (x : Input) : Type 0 where
  pub lower : bound_fine (end_bound x.lower) ≡ true
  pub upper : bound_fine (end_bound x.upper) ≡ true
  pub ordered : is_less (bound_number (end_bound x.upper)) (bound_number (end_bound x.lower))
      ≡ false
  pub places : (format_of x.format).places < 64

end_number : (m : Mark) (t : List ℕ) → bound_number (end_bound (record { mark = m; text = t }))
    ≡ bound_value (record { mark = m; text = t })
end_number mark.Unmarked t = refl
end_number mark.Plus t = refl
end_number mark.Minus t = refl

end_fine : (m : Mark) (t : List ℕ) → is_literal t ≡ true
    → bound_fine (end_bound (record { mark = m; text = t })) ≡ true
end_fine mark.Unmarked t h = h
end_fine mark.Plus t h = h
end_fine mark.Minus t h = h

second_false : (a b : Bool) → (a || b) ≡ false → b ≡ false
second_false true b h = absurd (cc)
second_false false b h = h

not_above : (a b c : Bool) → a ≡ true → b ≡ true → (a && b && not c) ≡ false → not c ≡ false
not_above a b c h k e = ap (λ x. x && true && not c) (sym h)
    ∙ ap (λ x. a && x && not c) (sym k) ∙ e

pub input_fine : (b : Before) (i : ℕ) (x : Input) → statement_faults b i (input x) ≡ []
    → IsInputFine x
input_fine b i x h =
    let f1 = none_behind (new_name_faults b (i + 1) x.name) _ h in
    let f2 = none_behind (weight_faults b 2 (i + 1)) _ f1 in
    let form = not_if _ _ _ _ (none_front (format_faults (i + 3) x.format) _ f2) in
    let f3 = none_behind (format_faults (i + 3) x.format) _ f2 in
    let f = format_of x.format in
    let lo = none_front (bound_faults (is_outside f x.lower) (i + 5) x.lower) _ f3 in
    let hi = none_behind (bound_faults (is_outside f x.lower) (i + 5) x.lower) _ f3 in
    let low = not_if _ _ _ _ (none_behind (fault_if (is_outside f x.lower) _ _ _) _ lo) in
    let high = not_if _ _ _ _ (none_behind
    (fault_if (is_outside f x.upper || is_crossed x.lower x.upper) _ _ _) _ hi) in
    let bad = no_if _ _ _ _ (none_front
    (fault_if (is_outside f x.upper || is_crossed x.lower x.upper) _ _ _) _ hi) in
    let above = not_above (is_literal x.lower.text) (is_literal x.upper.text)
    (le_ℚ (bound_value x.lower) (bound_value x.upper)) low high
    (second_false (is_outside f x.upper) (is_crossed x.lower x.upper) bad) in
    record {
      lower = end_fine x.lower.mark x.lower.text low;
      upper = end_fine x.upper.mark x.upper.text high;
      ordered = ap (λ z. not (le_ℚ z (bound_number (end_bound x.upper))))
          (end_number x.lower.mark x.lower.text)
          ∙ ap (λ z. not (le_ℚ (bound_value x.lower) z)) (end_number x.upper.mark x.upper.text)
          ∙ above;
      places = let n = narrow f form in n.places;
    }

-- ---- steps

-- the judge's names are among the program's
abbrev pub Within : List Name → List Name → Type 0
Within ns names = (t : Name) → judged_among ns t ≡ true → is_among names t ≡ true

pub within_cons : (ns names : List Name) (u : Name) → is_among names u ≡ true → Within ns names
    → Within (u ∷ ns) names
within_cons ns names u h k t e = by_test (bytes_eq u t) refl
  where
    by_test : (b : Bool) → bytes_eq u t ≡ b → is_among names t ≡ true
    by_test true d = let same : u ≡ t = (bytes_eq-Decides u t).0 d in
        subst (λ z. is_among names z ≡ true) same h
    by_test false d = k t (sym (ap (λ b. b || judged_among ns t) d) ∙ e)

pub not_within : (ns names : List Name) (t : Name) → Within ns names → is_among names t ≡ false
    → judged_among ns t ≡ false
not_within ns names t k h = by_test (judged_among ns t) refl
  where
    by_test : (b : Bool) → judged_among ns t ≡ b → judged_among ns t ≡ false
    by_test false e = e
    by_test true e = absurd (let w : true ≡ false = sym (k t e) ∙ h in cc)

abbrev OperandAmong : List Name → Operand → Type 0
OperandAmong names (named t) = is_among names t ≡ true
OperandAmong names (given t) = Unit {0}

operand_within : (names ns : List Name) (a : Operand) → OperandAmong names a → Within ns names
    → Within (operand_known a ns) names
operand_within names ns (named t) h k = within_cons ns names t h k
operand_within names ns (given t) h k = k

operand_apart : (names : List Name) (n : Name) (a : Operand) → is_among names n ≡ false
    → OperandAmong names a → OperandApart n a
operand_apart names n (named t) h k = apart names n t h k
operand_apart names n (given t) h k = tt

-- what the faults of an operand that there aren't say
record IsOperandFine (names ns : List Name) (n : Name) (a : Operand) : Type 0 where
  fine : OperandFine a
  apart : OperandApart n a
  within : Within ns names → Within (operand_known a ns) names

operand_ok : (b : Before) (i : ℕ) (ns : List Name) (n : Name) (a : Operand)
    → is_among b.names n ≡ false → operand_faults b i a ≡ [] → IsOperandFine b.names ns n a
operand_ok b i ns n (named t) h f =
    let among : is_among b.names t ≡ true = not_if _ _ _ _
    (none_front (fault_if (not (is_among b.names t)) _ i i) _ f) in
    record {
      fine = tt;
      apart = operand_apart b.names n (named t) h among;
      within = operand_within b.names ns (named t) among;
    }
operand_ok b i ns n (given t) h f =
    record { fine = not_if _ _ _ _ f; apart = tt; within = λ k. k }

pub record IsOperationFine (names ns : List Name) (n : Name) (o : Operation) : Type 0 where
  pub fine : OperationFine o
  pub apart : OperationApart n o
  pub within : Within ns names → Within (operation_known o ns) names

pub operation_ok : (b : Before) (i : ℕ) (ns : List Name) (n : Name) (o : Operation)
    → is_among b.names n ≡ false → operation_faults b i o ≡ [] → IsOperationFine b.names ns n o
operation_ok b i ns n (copy a) h f =
    let p = operand_ok b i ns n a h f in
    record { fine = p.fine; apart = p.apart; within = p.within }
operation_ok b i ns n (negation a) h f =
    let p = operand_ok b (i + 1) ns n a h f in
    record { fine = p.fine; apart = p.apart; within = p.within }
operation_ok b i ns n (sum a c) h f =
    let p = operand_ok b i ns n a h (none_front (operand_faults b i a) _ f) in
    let q = operand_ok b (i + 2) (operand_known a ns) n c h
    (none_behind (operand_faults b i a) _ f) in
    record {
      fine = (p.fine, q.fine);
      apart = (p.apart, q.apart);
      within = λ k. q.within (p.within k);
    }
operation_ok b i ns n (difference a c) h f =
    let p = operand_ok b i ns n a h (none_front (operand_faults b i a) _ f) in
    let q = operand_ok b (i + 2) (operand_known a ns) n c h
    (none_behind (operand_faults b i a) _ f) in
    record {
      fine = (p.fine, q.fine);
      apart = (p.apart, q.apart);
      within = λ k. q.within (p.within k);
    }
operation_ok b i ns n (product a c) h f =
    let p = operand_ok b i ns n a h (none_front (operand_faults b i a) _ f) in
    let q = operand_ok b (i + 2) (operand_known a ns) n c h
    (none_behind (operand_faults b i a) _ f) in
    record {
      fine = (p.fine, q.fine);
      apart = (p.apart, q.apart);
      within = λ k. q.within (p.within k);
    }
operation_ok b i ns n (shift_right a k) h f =
    let p = operand_ok b i ns n a h (none_front (operand_faults b i a) _ f) in
    record {
      fine = (
        p.fine,
        short_by (digits_value 10 k.text)
            (no_if _ _ _ _ (none_behind (operand_faults b i a) _ f)),
      );
      apart = p.apart;
      within = p.within;
    }
operation_ok b i ns n (shift_left a k) h f =
    let p = operand_ok b i ns n a h (none_front (operand_faults b i a) _ f) in
    record {
      fine = (
        p.fine,
        short_by (digits_value 10 k.text)
            (no_if _ _ _ _ (none_behind (operand_faults b i a) _ f)),
      );
      apart = p.apart;
      within = p.within;
    }

-- What the faults of a step that there aren't say.
pub record IsStepFine (b : Before) (ns : List Name) (x : Step) : Type 0 where
  pub new : is_among b.names x.name ≡ false
  pub format : is_format (format_of x.format) ≡ true
  pub operation : IsOperationFine b.names ns x.name x.operation

pub step_fine : (b : Before) (i : ℕ) (ns : List Name) (x : Step)
    → statement_faults b i (step x) ≡ [] → IsStepFine b ns x
step_fine b i ns x h =
    let f0 = none_front (new_name_faults b i x.name) _ h in
    let f1 = none_behind (new_name_faults b i x.name) _ h in
    let f2 = none_behind (weight_faults b 1 i) _ f1 in
    let f3 = none_behind (format_faults (i + 2) x.format) _ f2 in
    let f4 = none_behind (fault_if (not (is_way x.way)) _ (i + 3) (i + 3)) _ f3 in
    let new = no_if _ _ _ _ (none_front (fault_if (is_among b.names x.name) _ i i) _ f0) in
    record {
      new = new;
      format = not_if _ _ _ _ (none_front (format_faults (i + 2) x.format) _ f2);
      operation = operation_ok b (i + 5) ns x.name x.operation new f4;
    }
