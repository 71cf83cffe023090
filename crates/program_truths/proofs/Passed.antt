-- All words of a program's script pass the judge of scripts.
use Rattle.std.proofs.Common.{◌≡◌, ◌≤◌, ◌+◌, ◌*◌, ◌||◌, not, ℕ, Bool, true, false, List, [], ◌∷◌}
use Rattle.std.proofs.Common.{◌++◌, length, map, Option, None, refl, sym, ap, ◌∙◌, subst, arith}
use Rattle.std.proofs.Common.{append_assoc}
use Rattle.std.specs.List.{AllByRecursion}
use Rattle.std.specs.Str.{bytes_eq}
use Rattle.script_words.specs.declared.class.Symbol.TheVariants as s
use Rattle.script_words.specs.Words.{name, sign}
use Rattle.script_words.specs.Named.{spelled_of}
use Rattle.script_shape.specs.declared.due.Due.TheVariants as d
use Rattle.script_shape.specs.Propositions.{Prop, Formula}
use Rattle.script_shape.specs.Roles.{Leaf, at, prop_leaves, formula_leaves, script_leaves}
use Rattle.script_judge.specs.declared.counts.ScriptPart.TheVariants as place
use Rattle.script_judge.specs.Names.{NamesSeen, no_names, is_new, is_among as judged_among}
use Rattle.script_judge.specs.Counts.{one_if}
use Rattle.script_judge.specs.Sides.{has_arrow}
use Rattle.script_judge.specs.Said.{Said}
use Rattle.script_judge.specs.Judge.{nothing_seen, Judged}
use Rattle.script_nodes.specs.Literals.{LiteralsAreTold, LiteralsAreTested, SpelledOnce}
use Rattle.fixprog.specs.Words.{Name}
use Rattle.fixprog.specs.Grammar.{Operand, named, given, Operation, copy, negation, sum, difference}
use Rattle.fixprog.specs.Grammar.{product, shift_right, shift_left, Input, Step, Statement, input}
use Rattle.fixprog.specs.Grammar.{step, output, statement_words, Program, outputs, statements}
use Rattle.fixprog.specs.Formats.{format_of, least, greatest}
use Rattle.fixprog.specs.Faults.{Before, after, new_name_faults, known_name_faults, weight_faults}
use Rattle.fixprog.specs.Faults.{statement_faults, faults_from, program_faults}
use Rattle.fixprog.proofs.NoFaults.{none_front, none_behind, light}
use Rattle.fixprog.proofs.Narrow.{narrow}
use Rattle.program_truths.proofs.Trees.{end_bound, word_bound, range_prop, place_prop, format_prop}
use Rattle.program_truths.proofs.Trees.{output_prop, input_props, alone, also, so, and_all}
use Rattle.program_truths.proofs.Trees.{goals_behind, goals_alone, formula_of, program_formula}
use Rattle.program_truths.proofs.Trees.{script_from, tree_of}
use Rattle.program_truths.proofs.Own.{itself, among_front, among_last}
use Rattle.program_truths.proofs.Passing.{Stands, passes}
use Rattle.program_truths.proofs.Rows.{Passes, with_known, range_row, range_is, range_passes}
use Rattle.program_truths.proofs.Rows.{range_arrow, asked_row, asked_passes, place_row}
use Rattle.program_truths.proofs.Rows.{place_passes, place_arrow, and_passes, arrow_passes}
use Rattle.program_truths.proofs.Rows.{end_passes, allowed, brace_passes}
use Rattle.program_truths.proofs.StepRows.{operand_known, operation_known, step_row, step_is}
use Rattle.program_truths.proofs.StepRows.{names_behind, step_passes, one_if-le}
use Rattle.program_truths.proofs.GoalRows.{IsGoalFine, goal_fine, IsInputFine, input_fine, Within}
use Rattle.program_truths.proofs.GoalRows.{within_cons, not_within, step_fine}

-- ---- the leaves, from the last to the first

abbrev end_leaves : List Leaf
end_leaves = at d.CloseBrace (sign s.CloseBrace) ∷ []

abbrev also_leaves : List Leaf → List Leaf
also_leaves ys = at d.Connective (sign s.And) ∷ ys

abbrev format_row : Step → List Leaf → List Leaf
format_row x ys =
    let f = format_of x.format in
    range_row x.name (word_bound (least f) f) (word_bound (greatest f) f) ys

abbrev outputs_tail : List Name → List Leaf
outputs_tail [] = end_leaves
outputs_tail (t ∷ ts) = also_leaves (asked_row t (outputs_tail ts))

abbrev goals_tail : List Step → List Name → List Leaf
goals_tail [] ts = outputs_tail ts
goals_tail (x ∷ xs) ts = also_leaves (format_row x (goals_tail xs ts))

abbrev goals_row : List Step → Name → List Name → List Leaf
goals_row [] t ts = asked_row t (outputs_tail ts)
goals_row (x ∷ xs) t ts = format_row x (goals_tail xs (t ∷ ts))

abbrev input_row : Input → List Leaf → List Leaf
input_row x ys = range_row x.name (end_bound x.lower) (end_bound x.upper)
    (also_leaves (place_row x.name (format_of x.format).places ys))

abbrev inputs_tail : List Input → List Leaf → List Leaf
inputs_tail [] ys = at d.Connective (sign s.Arrow) ∷ ys
inputs_tail (x ∷ xs) ys = also_leaves (input_row x (inputs_tail xs ys))

abbrev formula_row : List Input → List Leaf → List Leaf
formula_row [] ys = ys
formula_row (x ∷ xs) ys = input_row x (inputs_tail xs ys)

abbrev steps_row : List Step → List Leaf → List Leaf
steps_row [] ys = ys
steps_row (x ∷ xs) ys = step_row x (steps_row xs ys)

abbrev program_row : Program → List Leaf
program_row p = steps_row p.steps (at d.Script (sign s.OpenBrace)
    ∷ formula_row p.inputs (goals_row p.steps p.output p.more_outputs))

-- ---- they are those of the tree

abbrev and_tail : List Prop → List Leaf → List Leaf
and_tail [] ys = ys
and_tail (g ∷ gs) ys = also_leaves (prop_leaves g ++ and_tail gs ys)

and_leaves : (f : Formula) (gs : List Prop) (ys : List Leaf)
    → formula_leaves (and_all f gs) ++ ys ≡ formula_leaves f ++ and_tail gs ys
and_leaves f [] ys = refl
and_leaves f (g ∷ gs) ys = and_leaves (also f g) gs ys
    ∙ append_assoc (formula_leaves f) (at d.Connective (sign s.And) ∷ prop_leaves g)
    (and_tail gs ys)

outputs_are : (ts : List Name) → and_tail (map output_prop ts) end_leaves ≡ outputs_tail ts
outputs_are [] = refl
outputs_are (t ∷ ts) = ap (λ l. also_leaves (asked_row t l)) (outputs_are ts)

format_is : (x : Step) (ys : List Leaf) → prop_leaves (format_prop x) ++ ys ≡ format_row x ys
format_is x ys = let f = format_of x.format in
    range_is x.name (word_bound (least f) f) (word_bound (greatest f) f) ys

goals_are : (xs : List Step) (ts : List Name)
    → and_tail (map format_prop xs ++ map output_prop ts) end_leaves ≡ goals_tail xs ts
goals_are [] ts = outputs_are ts
goals_are (x ∷ xs) ts =
    ap (λ l. also_leaves (prop_leaves (format_prop x) ++ l)) (goals_are xs ts)
    ∙ ap also_leaves (format_is x (goals_tail xs ts))

place_is : (x : Input) (ys : List Leaf)
    → prop_leaves (place_prop x) ++ ys ≡ place_row x.name (format_of x.format).places ys
place_is x ys = simp append_assoc

first_goal_is : (xs : List Step) (t : Name) (ts : List Name)
    → formula_leaves (goals_alone (map format_prop xs ++ map output_prop (t ∷ ts))) ++ end_leaves
    ≡ goals_row xs t ts
first_goal_is [] t ts =
    and_leaves (alone (output_prop t)) (map output_prop ts) end_leaves
    ∙ ap (asked_row t) (outputs_are ts)
first_goal_is (x ∷ xs) t ts =
    and_leaves (alone (format_prop x)) (map format_prop xs ++ map output_prop (t ∷ ts)) end_leaves
    ∙ ap (λ l. prop_leaves (format_prop x) ++ l) (goals_are xs (t ∷ ts))
    ∙ format_is x (goals_tail xs (t ∷ ts))

behind_is : (f : Formula) (xs : List Step) (t : Name) (ts : List Name)
    → formula_leaves (goals_behind f (map format_prop xs ++ map output_prop (t ∷ ts)))
    ++ end_leaves
    ≡ formula_leaves f ++ (at d.Connective (sign s.Arrow) ∷ goals_row xs t ts)
behind_is f [] t ts =
    and_leaves (so f (output_prop t)) (map output_prop ts) end_leaves
    ∙ append_assoc (formula_leaves f)
    (at d.Connective (sign s.Arrow) ∷ prop_leaves (output_prop t)) (and_tail (map output_prop ts)
    end_leaves)
    ∙ ap (λ l. formula_leaves f ++ (at d.Connective (sign s.Arrow) ∷ asked_row t l))
    (outputs_are ts)
behind_is f (x ∷ xs) t ts =
    let rest = map format_prop xs ++ map output_prop (t ∷ ts) in
    and_leaves (so f (format_prop x)) rest end_leaves
    ∙ append_assoc (formula_leaves f)
    (at d.Connective (sign s.Arrow) ∷ prop_leaves (format_prop x)) (and_tail rest end_leaves)
    ∙ ap (λ l. formula_leaves f ++ (at d.Connective (sign s.Arrow) ∷ l))
    (ap (λ l. prop_leaves (format_prop x) ++ l) (goals_are xs (t ∷ ts))
    ∙ format_is x (goals_tail xs (t ∷ ts)))

input_is : (x : Input) (ys : List Leaf)
    → prop_leaves (range_prop x) ++ also_leaves (prop_leaves (place_prop x) ++ ys) ≡ input_row x ys
input_is x ys =
    ap (λ l. prop_leaves (range_prop x) ++ also_leaves l) (place_is x ys)
    ∙ range_is x.name (end_bound x.lower) (end_bound x.upper)
    (also_leaves (place_row x.name (format_of x.format).places ys))

inputs_are : (xs : List Input) (ys : List Leaf)
    → and_tail (input_props xs) (at d.Connective (sign s.Arrow) ∷ ys) ≡ inputs_tail xs ys
inputs_are [] ys = refl
inputs_are (x ∷ xs) ys =
    ap (λ l. also_leaves (prop_leaves (range_prop x) ++ also_leaves (prop_leaves (place_prop x)
    ++ l)))
    (inputs_are xs ys)
    ∙ ap also_leaves (input_is x (inputs_tail xs ys))

formula_is : (is : List Input) (xs : List Step) (t : Name) (ts : List Name)
    → formula_leaves (formula_of (input_props is) (map format_prop xs ++ map output_prop (t ∷ ts)))
    ++ end_leaves ≡ formula_row is (goals_row xs t ts)
formula_is [] xs t ts = first_goal_is xs t ts
formula_is (x ∷ is) xs t ts =
    let arrow = at d.Connective (sign s.Arrow) ∷ goals_row xs t ts in
    behind_is (and_all (alone (range_prop x)) (place_prop x ∷ input_props is)) xs t ts
    ∙ and_leaves (alone (range_prop x)) (place_prop x ∷ input_props is) arrow
    ∙ ap (λ l. prop_leaves (range_prop x) ++ also_leaves (prop_leaves (place_prop x) ++ l))
    (inputs_are is (goals_row xs t ts))
    ∙ input_is x (inputs_tail is (goals_row xs t ts))

leaves_from : (f : Formula) (xs : List Step) (ys : List Leaf) → formula_leaves f ++ end_leaves ≡ ys
    → script_leaves (script_from f xs) ≡ steps_row xs (at d.Script (sign s.OpenBrace) ∷ ys)
leaves_from f [] ys h = ap (λ l. at d.Script (sign s.OpenBrace) ∷ l) h
leaves_from f (x ∷ xs) ys h =
    step_is x (script_leaves (script_from f xs)) ∙ ap (step_row x) (leaves_from f xs ys h)

leaves_are : (p : Program) → script_leaves (tree_of p) ≡ program_row p
leaves_are p = leaves_from (program_formula p) p.steps _
    (formula_is p.inputs p.steps p.output p.more_outputs)

-- ---- arrows

no_arrow_outputs : (ts : List Name) → has_arrow (outputs_tail ts) ≡ false
no_arrow_outputs [] = refl
no_arrow_outputs (t ∷ ts) = no_arrow_outputs ts

inputs_arrow : (xs : List Input) (ys : List Leaf) → has_arrow (inputs_tail xs ys) ≡ true
inputs_arrow [] ys = refl
inputs_arrow (x ∷ xs) ys =
    range_arrow x.name (end_bound x.lower) (end_bound x.upper)
    (also_leaves (place_row x.name (format_of x.format).places (inputs_tail xs ys)))
    ∙ place_arrow x.name (format_of x.format).places (inputs_tail xs ys) ∙ inputs_arrow xs ys

-- ---- goals

abbrev AllKnown : List Name → List Step → Type 0
AllKnown ns xs = AllByRecursion (λ x. judged_among ns x.name ≡ true) xs

more_true : (b c : Bool) → c ≡ true → (b || c) ≡ true
more_true true c h = refl
more_true false c h = h

known_cons : (ns : List Name) (u : Name) (xs : List Step) → AllKnown ns xs → AllKnown (u ∷ ns) xs
known_cons ns u [] h = tt
known_cons ns u (x ∷ xs) h =
    (more_true (bytes_eq u x.name) (judged_among ns x.name) h.0, known_cons ns u xs h.1)

abbrev AllFine : List Step → Type 0
AllFine xs = AllByRecursion (λ x. IsGoalFine (format_of x.format)) xs

outputs_pass : (n : NamesSeen) (ts : List Name)
    → Passes n place.Formula [] (length ts) 0 (length ts) (outputs_tail ts)
outputs_pass n [] = end_passes n
outputs_pass n (t ∷ ts) =
    let new = is_new n d.Operand (name (spelled_of t) t) in
    and_passes n (length (t ∷ ts)) 0 (length (t ∷ ts)) (asked_row t (outputs_tail ts))
    (allowed n place.PropositionNext [] (one_if new + length ts) (length (t ∷ ts)) 0 0
    (1 + length ts) (length (t ∷ ts)) (asked_row t (outputs_tail ts))
    (omega (arith, one_if-le new)) (omega arith) (omega arith)
    (asked_passes n t (length ts) 0 (length ts) (outputs_tail ts) (no_arrow_outputs ts)
    (outputs_pass (with_known n t) ts)))

-- a known name is no new node
no_new : (n : NamesSeen) (t : Name) → judged_among n.known t ≡ true
    → one_if (is_new n d.Operand (name (spelled_of t) t)) ≡ 0
no_new n t h = ap (λ b. one_if (not b)) h

format_passes : (n : NamesSeen) (x : Step) (ns ps : ℕ) (ys : List Leaf)
    → judged_among n.known x.name ≡ true → IsGoalFine (format_of x.format)
    → Passes (with_known n x.name) place.Formula [] ns 0 ps ys
    → Passes n place.PropositionNext [] ns 0 (1 + ps) (format_row x ys)
format_passes n x ns ps ys k g h =
    let f = format_of x.format in
    let none = no_new n x.name k in
    allowed n place.PropositionNext []
    (one_if (is_new n d.Operand (name (spelled_of x.name) x.name)) + ns) ns 0 0 (1 + ps) (1 + ps)
    (format_row x ys) (omega (arith, none)) (omega arith) (omega arith)
    (range_passes n x.name (word_bound (least f) f) (word_bound (greatest f) f) ns 0 ps ys
    g.low g.high g.ordered h)

goals_pass : (n : NamesSeen) (xs : List Step) (ts : List Name) → AllKnown n.known xs → AllFine xs
    → Passes n place.Formula [] (length ts) 0 (length xs + length ts) (goals_tail xs ts)
goals_pass n [] ts k g =
    allowed n place.Formula [] (length ts) (length ts) 0 0 (length ts) (0 + length ts)
    (outputs_tail ts) (omega arith) (omega arith) (omega arith) (outputs_pass n ts)
goals_pass n (x ∷ xs) ts k g =
    and_passes n (length ts) 0 (length (x ∷ xs) + length ts) (format_row x (goals_tail xs ts))
    (allowed n place.PropositionNext [] (length ts) (length ts) 0 0 (1 + (length xs + length ts))
    (length (x ∷ xs) + length ts) (format_row x (goals_tail xs ts)) (omega arith) (omega arith)
    (omega arith)
    (format_passes n x (length ts) (length xs + length ts) (goals_tail xs ts) k.0 g.0
    (goals_pass (with_known n x.name) xs ts (known_cons n.known x.name xs k.1) g.1)))

all_goals_pass : (n : NamesSeen) (xs : List Step) (t : Name) (ts : List Name)
    → AllKnown n.known xs → AllFine xs
    → Passes n place.PropositionNext [] (1 + length ts) 0 (length xs + (1 + length ts))
    (goals_row xs t ts)
all_goals_pass n [] t ts k g =
    let new = is_new n d.Operand (name (spelled_of t) t) in
    allowed n place.PropositionNext [] (one_if new + length ts) (1 + length ts) 0 0 (1 + length ts)
    (0 + (1 + length ts)) (asked_row t (outputs_tail ts)) (omega (arith, one_if-le new))
    (omega arith) (omega arith)
    (asked_passes n t (length ts) 0 (length ts) (outputs_tail ts) (no_arrow_outputs ts)
    (outputs_pass (with_known n t) ts))
all_goals_pass n (x ∷ xs) t ts k g =
    allowed n place.PropositionNext [] (length (t ∷ ts)) (1 + length ts) 0 0
    (1 + (length xs + length (t ∷ ts))) (length (x ∷ xs) + (1 + length ts))
    (format_row x (goals_tail xs (t ∷ ts))) (omega arith) (omega arith) (omega arith)
    (format_passes n x (length (t ∷ ts)) (length xs + length (t ∷ ts)) (goals_tail xs (t ∷ ts)) k.0
    g.0 (goals_pass (with_known n x.name) xs (t ∷ ts) (known_cons n.known x.name xs k.1) g.1))

-- ---- inputs

abbrev InputsFine : List Input → Type 0
InputsFine xs = AllByRecursion IsInputFine xs

module _ (zs : List Step) (ns ps : ℕ) (ys : List Leaf)
    (goals : (n : NamesSeen) → AllKnown n.known zs → Passes n place.PropositionNext [] ns 0 ps ys)
  where
    input_passes : (n : NamesSeen) (x : Input) (ms qs : ℕ) (us : List Leaf) → IsInputFine x
        → has_arrow us ≡ true
        → Passes (with_known (with_known n x.name) x.name) place.Formula [] ms 0 qs us
        → Passes n place.PropositionNext [] (2 + ms) 0 (2 + qs) (input_row x us)
    input_passes n x ms qs us f a h =
        let m = with_known n x.name in
        let one = is_new n d.Operand (name (spelled_of x.name) x.name) in
        let two = is_new m d.Operand (name (spelled_of x.name) x.name) in
        let row = place_row x.name (format_of x.format).places us in
        allowed n place.PropositionNext [] (one_if one + (one_if two + ms)) (2 + ms) 0 0
        (1 + (1 + qs)) (2 + qs) (input_row x us) (omega (arith, one_if-le one, one_if-le two))
        (omega arith) (omega arith)
        (range_passes n x.name (end_bound x.lower) (end_bound x.upper) (one_if two + ms) 0 (1 + qs)
        (also_leaves row) f.lower f.upper f.ordered
        (and_passes m (one_if two + ms) 0 (1 + qs) row
        (place_passes m x.name (format_of x.format).places ms 0 qs us f.places a h)))

    inputs_pass : (n : NamesSeen) (xs : List Input) → InputsFine xs → AllKnown n.known zs
        → Passes n place.Formula [] (2 * length xs + ns) 0 (2 * length xs + ps) (inputs_tail xs ys)
    inputs_pass n [] f k =
        allowed n place.Formula [] ns (0 + ns) 0 0 ps (0 + ps) (inputs_tail [] ys) (omega arith)
        (omega arith) (omega arith) (arrow_passes n ns 0 ps ys (goals n k))
    inputs_pass n (x ∷ xs) f k =
        let m = with_known (with_known n x.name) x.name in
        let row = input_row x (inputs_tail xs ys) in
        and_passes n (2 * length (x ∷ xs) + ns) 0 (2 * length (x ∷ xs) + ps) row
        (allowed n place.PropositionNext [] (2 + (2 * length xs + ns)) (2 * length (x ∷ xs) + ns)
        0 0 (2 + (2 * length xs + ps)) (2 * length (x ∷ xs) + ps) row (omega arith) (omega arith)
        (omega arith)
        (input_passes n x (2 * length xs + ns) (2 * length xs + ps) (inputs_tail xs ys) f.0
        (inputs_arrow xs ys)
        (inputs_pass m xs f.1
        (known_cons (x.name ∷ n.known) x.name zs (known_cons n.known x.name zs k)))))

    formula_passes : (n : NamesSeen) (xs : List Input) → InputsFine xs → AllKnown n.known zs
        → Passes n place.PropositionNext [] (2 * length xs + ns) 0 (2 * length xs + ps)
        (formula_row xs ys)
    formula_passes n [] f k =
        allowed n place.PropositionNext [] ns (0 + ns) 0 0 ps (0 + ps) ys (omega arith)
        (omega arith) (omega arith) (goals n k)
    formula_passes n (x ∷ xs) f k =
        let m = with_known (with_known n x.name) x.name in
        let row = input_row x (inputs_tail xs ys) in
        allowed n place.PropositionNext [] (2 + (2 * length xs + ns)) (2 * length (x ∷ xs) + ns)
        0 0 (2 + (2 * length xs + ps)) (2 * length (x ∷ xs) + ps) row (omega arith) (omega arith)
        (omega arith)
        (input_passes n x (2 * length xs + ns) (2 * length xs + ps) (inputs_tail xs ys) f.0
        (inputs_arrow xs ys)
        (inputs_pass m xs f.1
        (known_cons (x.name ∷ n.known) x.name zs (known_cons n.known x.name zs k))))

-- ---- steps

abbrev names_after : List Step → NamesSeen → NamesSeen
names_after [] n = n
names_after (x ∷ xs) n = names_after xs (names_behind n x)

operand_stay : (a : Operand) (ns : List Name) (t : Name) → judged_among ns t ≡ true
    → judged_among (operand_known a ns) t ≡ true
operand_stay (named u) ns t h = more_true (bytes_eq u t) (judged_among ns t) h
operand_stay (given u) ns t h = h

operation_stay : (o : Operation) (ns : List Name) (t : Name) → judged_among ns t ≡ true
    → judged_among (operation_known o ns) t ≡ true
operation_stay (copy a) ns t h = operand_stay a ns t h
operation_stay (negation a) ns t h = operand_stay a ns t h
operation_stay (sum a b) ns t h = operand_stay b (operand_known a ns) t (operand_stay a ns t h)
operation_stay (difference a b) ns t h =
    operand_stay b (operand_known a ns) t (operand_stay a ns t h)
operation_stay (product a b) ns t h = operand_stay b (operand_known a ns) t (operand_stay a ns t h)
operation_stay (shift_right a k) ns t h = operand_stay a ns t h
operation_stay (shift_left a k) ns t h = operand_stay a ns t h

known_after : (xs : List Step) (n : NamesSeen) (t : Name) → judged_among n.known t ≡ true
    → judged_among (names_after xs n).known t ≡ true
known_after [] n t h = h
known_after (x ∷ xs) n t h = known_after xs (names_behind n x) t
    (more_true (bytes_eq x.name t) (judged_among (operation_known x.operation n.known) t)
    (operation_stay x.operation n.known t h))

all_known : (xs : List Step) (n : NamesSeen) → AllKnown (names_after xs n).known xs
all_known [] n = tt
all_known (x ∷ xs) n = (
  known_after xs (names_behind n x) x.name
      (ap (λ b. b || judged_among (operation_known x.operation n.known) x.name) (itself x.name)),
  all_known xs (names_behind n x),
)

steps_pass : (xs : List Step) (more : List Statement) (b : Before) (i : ℕ) (n : NamesSeen)
    (ns ds ps : ℕ) (ys : List Leaf) → faults_from b i (map step xs ++ more) ≡ []
    → Within n.known b.names → Passes (names_after xs n) place.Definitions [] ns ds ps ys
    → Passes n place.Definitions [] (4 * length xs + ns) (length xs + ds) ps (steps_row xs ys)
steps_pass [] more b i n ns ds ps ys h w p =
    allowed n place.Definitions [] ns (0 + ns) ds (0 + ds) ps ps ys (omega arith) (omega arith)
    (omega arith) p
steps_pass (x ∷ xs) more b i n ns ds ps ys h w p =
    let f = step_fine b i n.known x (none_front (statement_faults b i (step x)) _ h) in
    let o = f.operation in
    let m = names_behind n x in
    let within : Within m.known (after b (step x)).names =
    within_cons (operation_known x.operation n.known) (b.names ++ (x.name ∷ [])) x.name
    (among_last b.names x.name) (λ t k. among_front b.names x.name t (o.within w t k)) in
    let k = narrow (format_of x.format) f.format in
    allowed n place.Definitions [] (4 + (4 * length xs + ns)) (4 * length (x ∷ xs) + ns)
    (1 + (length xs + ds)) (length (x ∷ xs) + ds) ps ps (steps_row (x ∷ xs) ys) (omega arith)
    (omega arith) (omega arith)
    (step_passes n x (4 * length xs + ns) (length xs + ds) ps (steps_row xs ys) k.places o.fine
    (not_within n.known b.names x.name w f.new) o.apart
    (steps_pass xs more (after b (step x)) (i + length (statement_words (step x))) m ns ds ps ys
    (none_behind (statement_faults b i (step x)) _ h) within p))

-- ---- what the faults that there aren't say

record IsRest (b : Before) (xs : List Input) (more : List Statement) : Type 0 where
  fine : InputsFine xs
  last : Before
  at : ℕ
  left : faults_from last at more ≡ []

inputs_rest : (xs : List Input) (more : List Statement) (b : Before) (i : ℕ)
    → faults_from b i (map input xs ++ more) ≡ [] → IsRest b xs more
inputs_rest [] more b i h = record { fine = tt; last = b; at = i; left = h }
inputs_rest (x ∷ xs) more b i h =
    let r = inputs_rest xs more (after b (input x)) (i + length (statement_words (input x)))
    (none_behind (statement_faults b i (input x)) _ h) in
    record {
      fine = (input_fine b i x (none_front (statement_faults b i (input x)) _ h), r.fine);
      last = r.last;
      at = r.at;
      left = r.left;
    }

module _ (told : LiteralsAreTold) (once : SpelledOnce) (tested : LiteralsAreTested) where
  goals_fine : (xs : List Step) (more : List Statement) (b : Before) (i : ℕ)
      → faults_from b i (map step xs ++ more) ≡ [] → AllFine xs
  goals_fine [] more b i h = tt
  goals_fine (x ∷ xs) more b i h =
      let f = step_fine b i [] x (none_front (statement_faults b i (step x)) _ h) in (
        goal_fine told once tested (format_of x.format) f.format,
        goals_fine xs more (after b (step x)) (i + length (statement_words (step x)))
            (none_behind (statement_faults b i (step x)) _ h),
      )

-- how much statements weigh
abbrev weight_of : Statement → ℕ
weight_of (input x) = 2
weight_of (step x) = 1
weight_of (output t) = 1

abbrev weight : List Statement → ℕ
weight [] = 0
weight (x ∷ xs) = weight_of x + weight xs

statement_light : (x : Statement) (b : Before) (i : ℕ) → statement_faults b i x ≡ []
    → ((after b x).weight ≤ 128) × ((after b x).weight ≡ b.weight + weight_of x)
statement_light (input x) b i h = (
  light b 2 (i + 1) (none_front (weight_faults b 2 (i + 1)) _
      (none_behind (new_name_faults b (i + 1) x.name) _ h)),
  refl,
)
statement_light (step x) b i h = (
  light b 1 i (none_front (weight_faults b 1 i) _
      (none_behind (new_name_faults b i x.name) _ h)),
  refl,
)
statement_light (output t) b i h = (
  light b 1 (i + 1)
      (none_behind (known_name_faults b (i + 1) t) _ h),
  refl,
)

all_light : (xs : List Statement) (b : Before) (i : ℕ) → b.weight ≤ 128 → faults_from b i xs ≡ []
    → b.weight + weight xs ≤ 128
all_light [] b i l h = omega arith
all_light (x ∷ xs) b i l h =
    let k = statement_light x b i (none_front (statement_faults b i x) _ h) in
    let r = all_light xs (after b x) (i + length (statement_words x)) k.0
    (none_behind (statement_faults b i x) _ h) in
    let e = k.1 in
    omega (arith, r, e)

outputs_weigh : (ts : List Name) → weight (map output ts) ≡ length ts
outputs_weigh [] = refl
outputs_weigh (t ∷ ts) = omega (arith, outputs_weigh ts)

steps_weigh : (xs : List Step) (more : List Statement)
    → weight (map step xs ++ more) ≡ length xs + weight more
steps_weigh [] more = omega arith
steps_weigh (x ∷ xs) more = omega (arith, steps_weigh xs more)

inputs_weigh : (xs : List Input) (more : List Statement)
    → weight (map input xs ++ more) ≡ 2 * length xs + weight more
inputs_weigh [] more = omega arith
inputs_weigh (x ∷ xs) more = omega (arith, inputs_weigh xs more)

-- ---- the whole

module _ (told : LiteralsAreTold) (once : SpelledOnce) (tested : LiteralsAreTested) (p : Program)
    (faultless : program_faults p ≡ [])
  where
    program_passes : Passes no_names place.Definitions []
        (4 * length p.steps + (2 * length p.inputs + (1 + length p.more_outputs)))
        (length p.steps + 0)
        (2 * length p.inputs + (length p.steps + (1 + length p.more_outputs))) (program_row p)
    program_passes =
        let outs = map output (outputs p) in
        let r = inputs_rest p.inputs (map step p.steps ++ outs)
        (record { names = []; weight = 0 }) 0 faultless in
        let n = names_after p.steps no_names in
        steps_pass p.steps outs r.last r.at no_names
        (2 * length p.inputs + (1 + length p.more_outputs)) 0
        (2 * length p.inputs + (length p.steps + (1 + length p.more_outputs)))
        (at d.Script (sign s.OpenBrace)
        ∷ formula_row p.inputs (goals_row p.steps p.output p.more_outputs)) r.left
        (λ t k. absurd (cc))
        (brace_passes n (2 * length p.inputs + (1 + length p.more_outputs)) 0
        (2 * length p.inputs + (length p.steps + (1 + length p.more_outputs)))
        (formula_row p.inputs (goals_row p.steps p.output p.more_outputs))
        (formula_passes p.steps (1 + length p.more_outputs)
        (length p.steps + (1 + length p.more_outputs)) (goals_row p.steps p.output p.more_outputs)
        (λ m k. all_goals_pass m p.steps p.output p.more_outputs k
        (goals_fine told once tested p.steps outs r.last r.at r.left))
        n p.inputs r.fine (all_known p.steps no_names)))

    few : 2 * length p.inputs + (length p.steps + (1 + length p.more_outputs)) ≤ 128
    few =
        let outs = map output (outputs p) in
        let a = all_light (statements p) (record { names = []; weight = 0 }) 0 (omega arith)
        faultless in
        let b = inputs_weigh p.inputs (map step p.steps ++ outs) in
        let c = steps_weigh p.steps outs in
        let e = outputs_weigh (outputs p) in
        omega (arith, a, b, c, e)

    stands : (said : Option Said) → Stands (nothing_seen said) (program_row p)
    stands said =
        let h = program_passes in
        let nodes = h.nodes in
        let definitions = h.definitions in
        let propositions = h.propositions in
        record {
          form = h.form;
          names = h.names;
          opened = h.opened;
          bounds = h.bounds;
          places = h.places;
          halved = refl;
          rounds = refl;
          halves = refl;
          hints = refl;
          splits = refl;
          pieces = refl;
          cases = refl;
          conjunctions = refl;
          nodes = omega (arith, nodes, few);
          definitions = omega (arith, definitions, few);
          propositions = omega (arith, propositions, few);
        }

    pub program_judged : (said : Option Said)
        → Judged 0 (nothing_seen said) (script_leaves (tree_of p)) None
    program_judged said = subst (λ l. Judged 0 (nothing_seen said) l None) (sym (leaves_are p))
        (passes tested once (program_row p) (nothing_seen said) 0 (stands said))
