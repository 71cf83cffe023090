-- The names of a program in which nothing is wrong are apart, and its operands are known.
use Rattle.std.proofs.Common.{◌≡◌, ◌⊎◌, inl, inr, ◌||◌, not, ℕ, ℤ, ◌+◌, Bool, true, false, List, []}
use Rattle.std.proofs.Common.{◌∷◌, ◌++◌, length, map, Some, refl, sym, ap, ◌∙◌, if◌then◌else◌}
use Rattle.std.specs.List.{AllByRecursion}
use Rattle.std.specs.Str.{bytes_eq}
use Rattle.std.specs.Str.Parse.{digits_value}
use Rattle.std.proofs.lemmas.List.Folds.{list_any-append}
use Rattle.std.proofs.lemmas.Slice.Eq.{bytes_eq-Decides}
use Rattle.fx_model.specs.Fraction.{Fraction, ◌≤ℚ◌}
use Rattle.expr_dag.specs.Extended.{ValuesStay}
use Rattle.script_nodes.specs.Known.{Name, entry_of}
use Rattle.fixprog.specs.Grammar.{Operand, named, given, Operation, copy, negation, sum, difference}
use Rattle.fixprog.specs.Grammar.{product, shift_right, shift_left, Input, Step, Statement, input}
use Rattle.fixprog.specs.Grammar.{step, output, statement_words}
use Rattle.fixprog.specs.Formats.{format_of, is_format, word_value}
use Rattle.fixprog.specs.Faults.{Before, after, is_among, fault_if, new_name_faults}
use Rattle.fixprog.specs.Faults.{known_name_faults, weight_faults, format_faults, operand_faults}
use Rattle.fixprog.specs.Faults.{operation_faults, statement_faults, faults_from, is_way}
use Rattle.fixprog.specs.Faults.{bound_value}
use Rattle.fixprog.specs.Execution.{Values, step_value, input_values, AreInRange}
use Rattle.fixprog.specs.Printed.{IsShort}
use Rattle.fixprog.proofs.NoFaults.{none_front, none_behind, not_if, no_if, short_by}
use Rattle.fixprog.proofs.Narrow.{narrow}
use Rattle.program_truths.proofs.Knowing.{HasValue}
use Rattle.program_truths.proofs.Doing.{Operands}
use Rattle.program_truths.proofs.Running.{all_values, IsFine, AreFine}

-- the name has a value
abbrev pub HasEntry : Values → Name → Type 0
HasEntry vs t = (v : Fraction) × (entry_of vs t ≡ Some v)

-- the names have values
abbrev pub Covers : Values → List Name → Type 0
Covers vs names = (t : Name) → is_among names t ≡ true → HasEntry vs t

entry_first : (n t : Name) (v : Fraction) (vs : Values) → HasEntry vs t
    → HasEntry ((n, v) ∷ vs) t
entry_first n t v vs h = by_name (bytes_eq t n) refl
  where
    by_name : (b : Bool) → bytes_eq t n ≡ b → HasEntry ((n, v) ∷ vs) t
    by_name true e = (v, ap (λ b. if b then Some v else entry_of vs t) e)
    by_name false e = (h.0, ap (λ b. if b then Some v else entry_of vs t) e ∙ h.1)

entry_own : (n t : Name) (v : Fraction) (vs : Values) → bytes_eq t n ≡ true
    → entry_of ((n, v) ∷ vs) t ≡ Some v
entry_own n t v vs e = ap (λ b. if b then Some v else entry_of vs t) e

entry_other : (n t : Name) (v : Fraction) (vs : Values) → bytes_eq t n ≡ false
    → entry_of ((n, v) ∷ vs) t ≡ entry_of vs t
entry_other n t v vs e = ap (λ b. if b then Some v else entry_of vs t) e

pub itself : (t : Name) → bytes_eq t t ≡ true
itself t = (bytes_eq-Decides t t).1 refl

-- among some names and one more
split_last : (names : List Name) (n t : Name) → is_among (names ++ (n ∷ [])) t ≡ true
    → (is_among names t ≡ true) ⊎ (bytes_eq t n ≡ true)
split_last names n t h = by_names (is_among names t) (bytes_eq t n) refl refl
    (sym (list_any-append (bytes_eq t) names (n ∷ [])) ∙ h)
  where
    by_names : (b c : Bool) → is_among names t ≡ b → bytes_eq t n ≡ c
        → (is_among names t || (bytes_eq t n || false)) ≡ true
        → (is_among names t ≡ true) ⊎ (bytes_eq t n ≡ true)
    by_names true c e d k = inl e
    by_names false true e d k = inr d
    by_names false false e d k = absurd (let w : false ≡ true =
        sym (ap (λ x. x || (bytes_eq t n || false)) e ∙ ap (λ x. x || false) d) ∙ k in cc)

pub among_front : (names : List Name) (n t : Name) → is_among names t ≡ true
    → is_among (names ++ (n ∷ [])) t ≡ true
among_front names n t h = list_any-append (bytes_eq t) names (n ∷ [])
    ∙ ap (λ b. b || (bytes_eq t n || false)) h

pub among_last : (names : List Name) (n : Name) → is_among (names ++ (n ∷ [])) n ≡ true
among_last names n = by_names (is_among names n)
    (list_any-append (bytes_eq n) names (n ∷ [])
    ∙ ap (λ b. is_among names n || (b || false)) (itself n))
  where
    by_names : (b : Bool) → is_among (names ++ (n ∷ [])) n ≡ (b || true)
        → is_among (names ++ (n ∷ [])) n ≡ true
    by_names true e = e
    by_names false e = e

-- a name that is among some isn't one that isn't
pub apart : (names : List Name) (n t : Name) → is_among names n ≡ false
    → is_among names t ≡ true → bytes_eq t n ≡ false
apart names n t h k = by_test (bytes_eq t n) refl
  where
    by_test : (b : Bool) → bytes_eq t n ≡ b → bytes_eq t n ≡ false
    by_test false e = e
    by_test true e =
        let same : t ≡ n = (bytes_eq-Decides t n).0 e in
        absurd (let w : true ≡ false = sym k ∙ ap (is_among names) same ∙ h in cc)

covers_last : (vs : Values) (names : List Name) (n : Name) (v : Fraction) → Covers vs names
    → Covers ((n, v) ∷ vs) (names ++ (n ∷ []))
covers_last vs names n v h t k = elim (split_last names n t k) [
  | inl a ↦ entry_first n t v vs (h t a)
  | inr e ↦ (v, entry_own n t v vs e)
]

-- ---- steps

-- names that have values keep them
abbrev pub Keeps : Values → Values → List Name → Type 0
Keeps vs ws names = (t : Name) → is_among names t ≡ true → entry_of ws t ≡ entry_of vs t

-- Each step's name has the step's value in the end, and the names before keep theirs.
pub record IsOwn (vs : Values) (end : Values) (x : Step) : Type 0 where
  pub own : entry_of end x.name ≡ Some (step_value vs x)
  pub format : is_format (format_of x.format) ≡ true

abbrev pub AreOwn : Values → Values → List Step → Type 0
AreOwn vs end [] = Unit {0}
AreOwn vs end (x ∷ xs) = IsOwn vs end x × AreOwn ((x.name, step_value vs x) ∷ vs) end xs

module _ (stay : ValuesStay) (f : Name → Fraction) (vars : List Name) where
  operand_has : (vs : Values) (b : Before) (i : ℕ) (a : Operand) → Covers vs b.names
      → operand_faults b i a ≡ [] → HasValue stay f vars vs a
  operand_has vs b i (named t) c h = c t (not_if _ _ _ _
      (none_front (fault_if (not (is_among b.names t)) _ i i) _ h))
  operand_has vs b i (given t) c h = tt

  operands_have : (vs : Values) (b : Before) (i : ℕ) (o : Operation) → Covers vs b.names
      → operation_faults b i o ≡ [] → Operands stay f vars vs o
  operands_have vs b i (copy a) c h = operand_has vs b i a c h
  operands_have vs b i (negation a) c h = operand_has vs b (i + 1) a c h
  operands_have vs b i (sum a d) c h = (
    operand_has vs b i a c (none_front (operand_faults b i a) _ h),
    operand_has vs b (i + 2) d c (none_behind (operand_faults b i a) _ h),
  )
  operands_have vs b i (difference a d) c h = (
    operand_has vs b i a c (none_front (operand_faults b i a) _ h),
    operand_has vs b (i + 2) d c (none_behind (operand_faults b i a) _ h),
  )
  operands_have vs b i (product a d) c h = (
    operand_has vs b i a c (none_front (operand_faults b i a) _ h),
    operand_has vs b (i + 2) d c (none_behind (operand_faults b i a) _ h),
  )
  operands_have vs b i (shift_right a k) c h =
      operand_has vs b i a c (none_front (operand_faults b i a) _ h)
  operands_have vs b i (shift_left a k) c h =
      operand_has vs b i a c (none_front (operand_faults b i a) _ h)

  short_operation : (b : Before) (i : ℕ) (o : Operation) → operation_faults b i o ≡ [] → IsShort o
  short_operation b i (copy a) h = tt
  short_operation b i (negation a) h = tt
  short_operation b i (sum a d) h = tt
  short_operation b i (difference a d) h = tt
  short_operation b i (product a d) h = tt
  short_operation b i (shift_right a k) h =
      short_by (digits_value 10 k.text) (no_if _ _ _ _ (none_behind (operand_faults b i a) _ h))
  short_operation b i (shift_left a k) h =
      short_by (digits_value 10 k.text) (no_if _ _ _ _ (none_behind (operand_faults b i a) _ h))

  -- What the faults of a step that there aren't say.
  record IsSound (vs : Values) (b : Before) (x : Step) : Type 0 where
    new : is_among b.names x.name ≡ false
    format : is_format (format_of x.format) ≡ true
    fine : IsFine stay f vars vs x

  step_sound : (vs : Values) (b : Before) (i : ℕ) (x : Step) → Covers vs b.names
      → statement_faults b i (step x) ≡ [] → IsSound vs b x
  step_sound vs b i x c h =
      let f0 = none_front (new_name_faults b i x.name) _ h in
      let f1 = none_behind (new_name_faults b i x.name) _ h in
      let f2 = none_behind (weight_faults b 1 i) _ f1 in
      let form = not_if _ _ _ _ (none_front (format_faults (i + 2) x.format) _ f2) in
      let f3 = none_behind (format_faults (i + 2) x.format) _ f2 in
      let f4 = none_behind (fault_if (not (is_way x.way)) _ (i + 3) (i + 3)) _ f3 in
      record {
        new = no_if _ _ _ _ (none_front (fault_if (is_among b.names x.name) _ i i) _ f0);
        format = form;
        fine = record {
          places = let n = narrow (format_of x.format) form in n.places;
          short = short_operation b (i + 5) x.operation f4;
          operands = operands_have vs b (i + 5) x.operation c f4;
        };
      }

  -- All of this, for steps and what stands behind them.
  pub record IsRun (vs : Values) (xs : List Step) (names : List Name) (more : List Statement)
      : Type 0 where
    pub fine : AreFine stay f vars vs xs
    pub own : AreOwn vs (all_values vs xs) xs
    pub keeps : Keeps vs (all_values vs xs) names
    pub last : Before
    pub at : ℕ
    pub covers : Covers (all_values vs xs) last.names
    pub left : faults_from last at more ≡ []

  pub steps_run : (xs : List Step) (more : List Statement) (vs : Values) (b : Before) (i : ℕ)
      → Covers vs b.names → faults_from b i (map step xs ++ more) ≡ []
      → IsRun vs xs b.names more
  steps_run [] more vs b i c h = record {
    fine = tt;
    own = tt;
    keeps = λ t k. refl;
    last = b;
    at = i;
    covers = c;
    left = h;
  }
  steps_run (x ∷ xs) more vs b i c h =
      let s = step_sound vs b i x c (none_front (statement_faults b i (step x)) _ h) in
      let v = step_value vs x in
      let next : Values = (x.name, v) ∷ vs in
      let r = steps_run xs more next (after b (step x)) (i + length (statement_words (step x)))
      (covers_last vs b.names x.name v c) (none_behind (statement_faults b i (step x)) _ h) in
      record {
        fine = (s.fine, r.fine);
        own = (
          record {
            own = r.keeps x.name (among_last b.names x.name)
                ∙ entry_own x.name x.name v vs (itself x.name);
            format = s.format;
          },
          r.own,
        );
        keeps = λ t k. r.keeps t (among_front b.names x.name t k)
            ∙ entry_other x.name t v vs (apart b.names x.name t s.new k);
        last = r.last;
        at = r.at;
        covers = r.covers;
        left = r.left;
      }

-- ---- outputs

pub outputs_have : (ts : List Name) (vs : Values) (b : Before) (i : ℕ) → Covers vs b.names
    → faults_from b i (map output ts) ≡ [] → AllByRecursion (HasEntry vs) ts
outputs_have [] vs b i c h = tt
outputs_have (t ∷ ts) vs b i c h =
    let f = none_front (known_name_faults b (i + 1) t) _
    (none_front (statement_faults b i (output t)) _ h) in (
      c t (not_if _ _ _ _ (none_front (fault_if (not (is_among b.names t)) _ (i + 1) (i + 1)) _ f)),
      outputs_have ts vs (after b (output t)) (i + length (statement_words (output t))) c
          (none_behind (statement_faults b i (output t)) _ h),
    )

-- ---- inputs

-- The input's name has the value of its word, which lies in its range, and is new to some names and
-- one of others.
pub record IsGiven (vs : Values) (names last : List Name) (x : Input) (w : ℤ) : Type 0 where
  pub new : is_among names x.name ≡ false
  pub there : is_among last x.name ≡ true
  pub own : entry_of vs x.name ≡ Some (word_value (format_of x.format) w)
  pub low : bound_value x.lower ≤ℚ word_value (format_of x.format) w
  pub high : word_value (format_of x.format) w ≤ℚ bound_value x.upper
  pub format : is_format (format_of x.format) ≡ true

abbrev pub AreGiven : Values → List Name → List Name → List Input → List ℤ → Type 0
AreGiven vs names last [] [] = Unit {0}
AreGiven vs names last (x ∷ xs) (w ∷ ws) =
    IsGiven vs names last x w × AreGiven vs names last xs ws
AreGiven vs names last _ _ = ⊥

not_last : (names : List Name) (n t : Name) → is_among (names ++ (n ∷ [])) t ≡ false
    → (is_among names t ≡ false) × (bytes_eq t n ≡ false)
not_last names n t h = by_names (is_among names t) (bytes_eq t n) refl refl
    (sym (list_any-append (bytes_eq t) names (n ∷ [])) ∙ h)
  where
    by_names : (b c : Bool) → is_among names t ≡ b → bytes_eq t n ≡ c
        → (is_among names t || (bytes_eq t n || false)) ≡ false
        → (is_among names t ≡ false) × (bytes_eq t n ≡ false)
    by_names false false e d k = (e, d)
    by_names true c e d k = absurd (let w : true ≡ false =
        sym (ap (λ x. x || (bytes_eq t n || false)) e) ∙ k in cc)
    by_names false true e d k = absurd (let w : true ≡ false =
        sym (ap (λ x. x || (bytes_eq t n || false)) e ∙ ap (λ x. x || false) d) ∙ k in cc)

given_more : (vs : Values) (names last : List Name) (n : Name) (v : Fraction) (xs : List Input)
    (ws : List ℤ) → AreGiven vs (names ++ (n ∷ [])) last xs ws
    → AreGiven ((n, v) ∷ vs) names last xs ws
given_more vs names last n v [] [] h = tt
given_more vs names last n v (x ∷ xs) [] h = absurd h
given_more vs names last n v [] (w ∷ ws) h = absurd h
given_more vs names last n v (x ∷ xs) (w ∷ ws) h =
    let g = h.0 in
    let a = not_last names n x.name g.new in (
      record {
        new = a.0;
        there = g.there;
        own = entry_other n x.name v vs a.1 ∙ g.own;
        low = g.low;
        high = g.high;
        format = g.format;
      },
      given_more vs names last n v xs ws h.1,
    )

-- What stands behind the inputs.
pub record IsStart (vs : Values) (xs : List Input) (ws : List ℤ) (names : List Name)
    (more : List Statement) : Type 0 where
  pub last : Before
  pub at : ℕ
  pub left : faults_from last at more ≡ []
  pub grows : (t : Name) → is_among names t ≡ true → is_among last.names t ≡ true
  pub covers : (t : Name) → is_among last.names t ≡ true
      → (is_among names t ≡ true) ⊎ HasEntry vs t
  pub given : AreGiven vs names last.names xs ws

pub inputs_run : (xs : List Input) (ws : List ℤ) (more : List Statement) (b : Before) (i : ℕ)
    → AreInRange xs ws → faults_from b i (map input xs ++ more) ≡ []
    → IsStart (input_values xs ws) xs ws b.names more
inputs_run [] [] more b i r h = record {
  last = b;
  at = i;
  left = h;
  grows = λ t k. k;
  covers = λ t k. inl k;
  given = tt;
}
inputs_run [] (w ∷ ws) more b i r h = absurd r
inputs_run (x ∷ xs) [] more b i r h = absurd r
inputs_run (x ∷ xs) (w ∷ ws) more b i r h =
    let f = none_front (statement_faults b i (input x)) _ h in
    let f0 = none_front (new_name_faults b (i + 1) x.name) _ f in
    let f1 = none_behind (new_name_faults b (i + 1) x.name) _ f in
    let f2 = none_behind (weight_faults b 2 (i + 1)) _ f1 in
    let form = not_if _ _ _ _ (none_front (format_faults (i + 3) x.format) _ f2) in
    let v = word_value (format_of x.format) w in
    let vs = input_values xs ws in
    let s = inputs_run xs ws more (after b (input x)) (i + length (statement_words (input x))) r.2
    (none_behind (statement_faults b i (input x)) _ h) in
    record {
      last = s.last;
      at = s.at;
      left = s.left;
      grows = λ t k. s.grows t (among_front b.names x.name t k);
      covers = λ t k. elim (s.covers t k) [
        | inl a ↦ elim (split_last b.names x.name t a) [
          | inl c ↦ inl c
          | inr e ↦ inr (v, entry_own x.name t v vs e)
        ]
        | inr c ↦ inr (entry_first x.name t v vs c)
      ];
      given = (
        record {
          new = no_if _ _ _ _ (none_front (fault_if (is_among b.names x.name) _ (i + 1) (i + 1)) _
              f0);
          there = s.grows x.name (among_last b.names x.name);
          own = entry_own x.name x.name v vs (itself x.name);
          low = r.0;
          high = r.1;
          format = form;
        },
        given_more vs b.names s.last.names x.name v xs ws s.given,
      );
    }
