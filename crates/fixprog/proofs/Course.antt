-- The course of words: what stands behind them, and the faults that they tell.
use Rattle.std.proofs.Common.{◌≡◌, ℕ, ◌+◌, ◌<◌, ◌&&◌, Bool, true, false, List, [], ◌∷◌, ◌++◌}
use Rattle.std.proofs.Common.{length, map, Option, Some, None, refl, sym, ap, ◌∙◌, subst}
use Rattle.std.proofs.Common.{append_assoc, append-nil, length-append, if◌then◌else◌}
use Rattle.std.specs.Option.{option_map}
use Rattle.std.specs.List.{All}
use Rattle.std.proofs.lemmas.List.{map-append}
use Rattle.script_words.specs.declared.class.Symbol.TheVariants as s
use Rattle.fixprog.specs.Words.{Name, Word, sign}
use Rattle.fixprog.specs.Grammar.{Input, Step, Statement, input, step, output, statement_words}
use Rattle.fixprog.specs.Grammar.{words_from}
use Rattle.fixprog.specs.Standing.{Part, input_name, input_colon, input_format, input_open, lower}
use Rattle.fixprog.specs.Standing.{lower_marked, comma, upper, upper_marked, input_close, input_end}
use Rattle.fixprog.specs.Standing.{step_colon, step_format, step_way, step_equal, step_operand}
use Rattle.fixprog.specs.Standing.{step_negated, step_operator, step_second, step_places, step_end}
use Rattle.fixprog.specs.Standing.{output_end, is_semicolon, Opening, ending, ended, Standing}
use Rattle.fixprog.specs.Standing.{is_none, with_statement, stands_after}
use Rattle.fixprog.proofs.Standing.{part_words}
use Rattle.fixprog.specs.Finding.{finds}
use Rattle.fixprog.proofs.Finding.{at_word, Course, begin_after, course_after}
use Rattle.fixprog.proofs.Takes.{Takes, input_begins, output_begins, step_begins, input_named}
use Rattle.fixprog.proofs.Takes.{input_typed, input_formatted, opened, lower_signed, lower_plain}
use Rattle.fixprog.proofs.Takes.{lower_valued, parted, upper_signed, upper_plain, upper_valued}
use Rattle.fixprog.proofs.Takes.{closed, step_typed, step_formatted, step_directed, equalled}
use Rattle.fixprog.proofs.Takes.{negation_begins, first_operand, negated, joint, shift, second}
use Rattle.fixprog.proofs.Takes.{digits, output_named, semicolon_is}
use Rattle.fixprog.proofs.Found.{IsMarked}
use Rattle.fixprog.proofs.Common.{one_value}

-- ---- inputs stand before steps, and these before outputs

abbrev pub in_place : Part → List Step → List Name → Type 0
in_place input_name ss os = (ss ≡ []) × (os ≡ [])
in_place (input_colon n) ss os = (ss ≡ []) × (os ≡ [])
in_place (input_format n) ss os = (ss ≡ []) × (os ≡ [])
in_place (input_open h) ss os = (ss ≡ []) × (os ≡ [])
in_place (lower h) ss os = (ss ≡ []) × (os ≡ [])
in_place (lower_marked h m) ss os = (ss ≡ []) × (os ≡ [])
in_place (comma h a) ss os = (ss ≡ []) × (os ≡ [])
in_place (upper h a) ss os = (ss ≡ []) × (os ≡ [])
in_place (upper_marked h a m) ss os = (ss ≡ []) × (os ≡ [])
in_place (input_close x) ss os = (ss ≡ []) × (os ≡ [])
in_place (input_end x) ss os = (ss ≡ []) × (os ≡ [])
in_place (step_colon n) ss os = os ≡ []
in_place (step_format n) ss os = os ≡ []
in_place (step_way h) ss os = os ≡ []
in_place (step_equal b) ss os = os ≡ []
in_place (step_operand b) ss os = os ≡ []
in_place (step_negated b) ss os = os ≡ []
in_place (step_operator b a) ss os = os ≡ []
in_place (step_second b a j) ss os = os ≡ []
in_place (step_places b a k) ss os = os ≡ []
in_place (step_end x) ss os = os ≡ []
in_place p ss os = Unit {0}

none_is : {A : Type 0} (xs : List A) → is_none xs ≡ true → xs ≡ []
none_is [] h = refl
none_is (x ∷ xs) h = absurd (cc)

both_none : (ss : List Step) (os : List Name) → (is_none ss && is_none os) ≡ true → (ss ≡ [])
    × (os ≡ [])
both_none [] os h = (refl, none_is os h)
both_none (x ∷ ss) os h = absurd (cc)

-- where a statement may begin
abbrev pub opens : List Step → List Name → Opening
opens ss os = record { inputs = is_none ss && is_none os; steps = is_none os }

pub takes_place : (ss : List Step) (os : List Name) (p : Part) (w : Word) (q : Part)
    → Takes (opens ss os) p w q → in_place p ss os → in_place q ss os
takes_place ss os p w q (input_begins i e) h = both_none ss os i
takes_place ss os p w q (output_begins e) h = tt
takes_place ss os p w q (step_begins i e) h = none_is os i
takes_place ss os p w q (input_named e) h = h
takes_place ss os p w q (input_typed e) h = h
takes_place ss os p w q (input_formatted e) h = h
takes_place ss os p w q (opened e) h = h
takes_place ss os p w q (lower_signed e) h = h
takes_place ss os p w q (lower_plain e) h = h
takes_place ss os p w q (lower_valued e) h = h
takes_place ss os p w q (parted e) h = h
takes_place ss os p w q (upper_signed e) h = h
takes_place ss os p w q (upper_plain e) h = h
takes_place ss os p w q (upper_valued e) h = h
takes_place ss os p w q (closed e) h = h
takes_place ss os p w q (step_typed e) h = h
takes_place ss os p w q (step_formatted e) h = h
takes_place ss os p w q (step_directed e) h = h
takes_place ss os p w q (equalled e) h = h
takes_place ss os p w q (negation_begins e) h = h
takes_place ss os p w q (first_operand e) h = h
takes_place ss os p w q (negated e) h = h
takes_place ss os p w q (joint e) h = h
takes_place ss os p w q (shift e) h = h
takes_place ss os p w q (second c e) h = h
takes_place ss os p w q (digits n e) h = h
takes_place ss os p w q (output_named e) h = h

pub takes_marked : (o : Opening) (p : Part) (w : Word) (q : Part) → Takes o p w q → IsMarked q
takes_marked o p w q (input_begins i e) = tt
takes_marked o p w q (output_begins e) = tt
takes_marked o p w q (step_begins i e) = tt
takes_marked o p w q (input_named e) = tt
takes_marked o p w q (input_typed e) = tt
takes_marked o p w q (input_formatted e) = tt
takes_marked o p w q (opened e) = tt
takes_marked o p w q (lower_signed e) = ap length e
takes_marked o p w q (lower_plain e) = tt
takes_marked o p w q (lower_valued e) = tt
takes_marked o p w q (parted e) = tt
takes_marked o p w q (upper_signed e) = ap length e
takes_marked o p w q (upper_plain e) = tt
takes_marked o p w q (upper_valued e) = tt
takes_marked o p w q (closed e) = tt
takes_marked o p w q (step_typed e) = tt
takes_marked o p w q (step_formatted e) = tt
takes_marked o p w q (step_directed e) = tt
takes_marked o p w q (equalled e) = tt
takes_marked o p w q (negation_begins e) = tt
takes_marked o p w q (first_operand e) = tt
takes_marked o p w q (negated e) = tt
takes_marked o p w q (joint e) = tt
takes_marked o p w q (shift e) = tt
takes_marked o p w q (second c e) = tt
takes_marked o p w q (digits n e) = tt
takes_marked o p w q (output_named e) = tt

-- ---- a `;` that ends a statement

ended_by : (c : Bool) (p : Part) (x : Statement) → (if c then ending p else None) ≡ Some x
    → (c ≡ true) × (ending p ≡ Some x)
ended_by true p x e = (refl, e)
ended_by false p x e = absurd (cc)

pub ended_is : (p : Part) (w : Word) (x : Statement) → ended p w ≡ Some x → (w ≡ sign s.Semicolon)
    × (ending p ≡ Some x)
ended_is p w x e = let h = ended_by (is_semicolon w) p x e in (semicolon_is w h.0, h.1)

-- with the `;` they are the words of the statement
pub ending_words : (p : Part) (x : Statement) → ending p ≡ Some x → statement_words x
    ≡ part_words p ++ (sign s.Semicolon ∷ [])
ending_words (input_end x) y e = ap statement_words (one_value _ y e) ∙ simp append_assoc
ending_words (step_operator b a) y e = ap statement_words (one_value _ y e) ∙ simp append_assoc
ending_words (step_end x) y e = ap statement_words (one_value _ y e) ∙ simp append_assoc
ending_words (output_end text) y e = ap statement_words (one_value _ y e)
ending_words p y e = absurd (cc)

-- ---- whole statements

abbrev pub whole : Standing → List Statement
whole x = map input x.inputs ++ (map step x.steps ++ map output x.outputs)

abbrev pub stand_words : Standing → List Word
stand_words x = words_from (whole x) ++ part_words x.part

pub words_from-append : (xs ys : List Statement) → words_from (xs ++ ys) ≡ words_from xs
    ++ words_from ys
words_from-append [] ys = refl
words_from-append (x ∷ xs) ys = ap (λ l. statement_words x ++ l) (words_from-append xs ys)
    ∙ sym (append_assoc (statement_words x) (words_from xs) (words_from ys))

pub one_word_more : (xs : List Statement) (x : Statement) → words_from (xs ++ (x ∷ []))
    ≡ words_from xs ++ statement_words x
one_word_more xs x = words_from-append xs (x ∷ [])
    ∙ ap (λ l. words_from xs ++ l) (append-nil (statement_words x))

-- what a statement joins last
whole_input : (xs : List Input) (x : Input) → map input (xs ++ (x ∷ [])) ++ []
    ≡ (map input xs ++ []) ++ (input x ∷ [])
whole_input xs x = append-nil _ ∙ map-append input xs (x ∷ [])
    ∙ ap (λ l. l ++ (input x ∷ [])) (sym (append-nil (map input xs)))

whole_step : (is : List Statement) (xs : List Step) (x : Step) → is
    ++ (map step (xs ++ (x ∷ [])) ++ []) ≡ (is ++ (map step xs ++ [])) ++ (step x ∷ [])
whole_step is xs x =
    ap (λ l. is ++ l) (append-nil _ ∙ map-append step xs (x ∷ [])
    ∙ ap (λ l. l ++ (step x ∷ [])) (sym (append-nil (map step xs))))
    ∙ sym (append_assoc is (map step xs ++ []) (step x ∷ []))

whole_output : (is ss : List Statement) (xs : List Name) (x : Name) → is
    ++ (ss ++ map output (xs ++ (x ∷ []))) ≡ (is ++ (ss ++ map output xs)) ++ (output x ∷ [])
whole_output is ss xs x =
    ap (λ l. is ++ (ss ++ l)) (map-append output xs (x ∷ []))
    ∙ ap (λ l. is ++ l) (sym (append_assoc ss (map output xs) (output x ∷ [])))
    ∙ sym (append_assoc is (ss ++ map output xs) (output x ∷ []))

-- a statement that a part ends is in its place
abbrev pub may_join : Statement → List Step → List Name → Type 0
may_join (input x) ss os = (ss ≡ []) × (os ≡ [])
may_join (step x) ss os = os ≡ []
may_join (output text) ss os = Unit {0}

pub ending_place : (p : Part) (x : Statement) (ss : List Step) (os : List Name) → ending p ≡ Some x
    → in_place p ss os → may_join x ss os
ending_place (input_end x) y ss os e h = subst (λ z. may_join z ss os) (sym (one_value _ y e)) h
ending_place (step_operator b a) y ss os e h =
    subst (λ z. may_join z ss os) (sym (one_value _ y e)) h
ending_place (step_end x) y ss os e h = subst (λ z. may_join z ss os) (sym (one_value _ y e)) h
ending_place (output_end text) y ss os e h = subst (λ z. may_join z ss os) (sym (one_value _ y e))
    tt
ending_place p y ss os e h = absurd (cc)

pub join_whole : (c : Standing) (x : Statement) → may_join x c.steps c.outputs
    → whole (with_statement c x) ≡ whole c ++ (x ∷ [])
join_whole c (input x) h =
    ap (λ l. map input (c.inputs ++ (x ∷ [])) ++ l) (none_behind h.0 h.1) ∙ whole_input c.inputs x
    ∙ ap (λ l. (map input c.inputs ++ l) ++ (input x ∷ [])) (sym (none_behind h.0 h.1))
  where
    none_behind : c.steps ≡ [] → c.outputs ≡ [] → map step c.steps ++ map output c.outputs ≡ []
    none_behind e f = ap (λ l. map step l ++ map output c.outputs) e ∙ ap (map output) f
join_whole c (step x) h =
    ap (λ l. map input c.inputs ++ (map step (c.steps ++ (x ∷ [])) ++ map output l)) h
    ∙ whole_step (map input c.inputs) c.steps x
    ∙ ap (λ l. (map input c.inputs ++ (map step c.steps ++ map output l)) ++ (step x ∷ [])) (sym h)
join_whole c (output x) h = whole_output (map input c.inputs) (map step c.steps) c.outputs x

-- ---- a word more

-- These are the words, their statements are in their places, and each fault is told by one of them.
pub record IsCourse (c : Course) (ws : List Word) : Type 0 where
  pub words : stand_words c.stands ≡ ws
  pub place : in_place c.stands.part c.stands.steps c.stands.outputs
  pub marked : IsMarked c.stands.part
  pub begin : c.begin ≡ length (words_from (whole c.stands))
  pub told : All (λ f. f.told < length ws) c.faults

-- The number of the word that is due.
abbrev pub due_number : Course → ℕ
due_number c = c.begin + length (part_words c.stands.part)

pub number_is : (c : Course) (ws : List Word) → IsCourse c ws → due_number c ≡ length ws
number_is c ws h = ap (λ n. n + length (part_words c.stands.part)) h.begin
    ∙ sym (length-append (words_from (whole c.stands)) (part_words c.stands.part))
    ∙ ap length h.words

-- what a word does to a course
pub record Goes (c : Course) (w : Word) (d : Course) : Type 0 where
  pub stands : stands_after c.stands w ≡ Some d.stands
  pub begin : d.begin ≡ begin_after c.begin (ended c.stands.part w)
  pub faults : d.faults ≡ c.faults ++ finds (at_word c.begin c.stands.part) c.stands.before
      c.stands.part w

goes_by : (c : Course) (w : Word) (o : Option Standing) (d : Course) → stands_after c.stands w ≡ o
    → option_map (λ t. record {
      stands = t;
      begin = begin_after c.begin (ended c.stands.part w);
      faults = c.faults ++ finds (at_word c.begin c.stands.part) c.stands.before c.stands.part w;
    }) o ≡ Some d → Goes c w d
goes_by c w (Some t) d h e = record {
  stands = h ∙ ap (λ x. Some x.stands) (sym (one_value _ d e));
  begin = ap (λ x. x.begin) (one_value _ d e);
  faults = ap (λ x. x.faults) (one_value _ d e);
}
goes_by c w None d h e = absurd (cc)

pub goes_so : (c : Course) (w : Word) (d : Course) → course_after c w ≡ Some d → Goes c w d
goes_so c w d e = goes_by c w (stands_after c.stands w) d refl e
