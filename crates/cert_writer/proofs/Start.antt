-- How the walk begins.
use Rattle.std.specs.Prelude.{◌≡◌, ◌<◌, ◌≤◌, ◌*◌, ◌^◌, ℕ, List, [], ◌∷◌, length, map, refl}
use Rattle.std.specs.List.{AllByRecursion}
use Rattle.std.proofs.Common.{sym, ◌∙◌, ap, subst, arith}
use Rattle.std.proofs.lemmas.List.{length-map}
use Rattle.std.proofs.lemmas.Nat.{mul-le}
use Rattle.facts.specs.declared.hint.HintMark.{HintMark}
use Rattle.goals.specs.declared.goal.Goal.{Goal}
use Rattle.goals.specs.declared.line.Line.{Line}
use Rattle.goals.specs.declared.line.Line.TheVariants as line
use Rattle.script_claims.specs.declared.claim.Claim.{Claim}
use Rattle.script_claims.specs.Facts.{facts_of}
use Rattle.script_grammar.specs.Cases.{cases_of}
use Rattle.script_grammar.specs.Spells.{View}
use Rattle.rule_universe.specs.Worlds.{World}
use Rattle.rule_universe.specs.Sizes.{beyond_four}
use Rattle.saturate.specs.Universes.{setting_of}
use Rattle.rewrite_hints.specs.Marks.{AreMarks}
use Rattle.universe.specs.Universes.{IsUniverse}
use Rattle.settler.specs.declared.cases.Case.{Case}
use Rattle.settler.specs.Cases.{AreCases}
use Rattle.settler.proofs.CasesLaws.{as_many}
use Rattle.settler.specs.Answers.{Options, options, IsProved}
use Rattle.cert_bytes.specs.declared.item.Item.{Item}
use Rattle.cert_bytes.specs.Styles.{none_seen}
use Rattle.cert_checker.specs.declared.subject.Subject.{Subject}
use Rattle.script_checker.specs.Subjects.{IsSubjectOf}
use Rattle.tree_certificates.specs.Roots.{Root, AreRoots, IsRoot, steps_in_roots, lines_of_roots}
use Rattle.tree_certificates.specs.Trees.{Tree}
use Rattle.box_trace.specs.Short.{bytes_a_box}
use Rattle.answer_certificates.specs.Boxes.{boxes_of}
use Rattle.answer_certificates.specs.Roots.{AreRootsOf, HasRoots}
use Rattle.answer_certificates.specs.Scripts.{in_case, IsCaseOf, HasCases}
use Rattle.answer_certificates.specs.Laws.{InstancesAreFew, ScriptsHaveRoots}
use Rattle.answer_certificates.specs.Universes.{UniversesAreSmall}
use Rattle.cert_writer.specs.Heads.{head_items}
use Rattle.cert_writer.specs.Standing.{Aim, IsAim, at_root, steps_needed}
use Rattle.cert_writer.specs.Cases.{bare, Task, task, plan_in, aim_of, StandsAt, StandsBefore}
use Rattle.cert_writer.proofs.CasesLaws.{subject_in}
use Rattle.cert_writer.specs.Laws.{WritingGoesOn}
use Rattle.cert_writer.proofs.NextCase.{drop_none}
use Rattle.cert_writer.proofs.Seen.{head_seen}

-- ---- what it is judged against
-- universe and marks of a script say its subject
pub is_subject : (s : View) (before : List Claim) (u : World) (marks : List HintMark)
    → IsUniverse s before u → AreMarks s.nodes s.hints.rewrites marks
    → IsSubjectOf s (subject_in s u marks)
is_subject s before u marks is marked = record {
  nodes = refl;
  variables = refl;
  cases = refl;
  goals = refl;
  marks = marked;
  hints = is.hints;
}

-- it has as many cases as were planned
pub as_planned : (s : View) (depth : ℕ) (cases : List Case) (u : World) (marks : List HintMark)
    → AreCases s depth (cases_of s) cases
    → length cases ≡ length (subject_in s u marks).cases
as_planned s depth cases u marks are =
    sym (as_many s depth (cases_of s) cases are) ∙ sym (length-map (cases_of s) facts_of)

-- ---- where it begins
-- what stands before the root sections
abbrev pub head_of : Task → List Item
head_of w = head_items w.world.nodes w.subject.marks (length w.subject.cases)

module _ (go : WritingGoesOn) (w : Task) where
  -- Where each case has its root, the first section is to begin behind the head.
  starts : (cases : List (List Claim)) → 0 < length cases → (roots : List Root)
      → AreRootsOf w.script w.world w.rounds w.depth cases roots
      → AreRoots w.subject w.world.hints w.rounds bytes_a_box w.world.goals w.world.nodes 0 roots
      → steps_in_roots bytes_a_box roots ≤ 8192 * bytes_a_box
      → steps_needed w.world w.rounds ≤ bytes_a_box → w.rounds ≤ 64
      → length w.world.nodes ≤ 1024 → beyond_four w.world.instances ≤ 1310976
      → w.lines ≡ lines_of_roots w.rounds w.world.goals roots
      (map (λ g. line.Empty) w.world.goals)
      → length w.subject.cases ≤ 64 → StandsAt w 0 cases none_seen (head_of w)
  starts [] some roots of are room enough low nodes premises shown few =
      absurd (omega (arith, some))
  starts (claims ∷ later) some [] of are room enough low nodes premises shown few = absurd of
  starts (claims ∷ later) some (r ∷ roots) of are room enough low nodes premises shown few =
      let tree : Tree = boxes_of (plan_in w claims) of.0.states in
      let here : Root = record { setting = setting_of (in_case w.world claims); tree = tree } in
      let most : ℕ = bytes_a_box in
      let goals : List Goal = w.world.goals in
      let t : Aim = aim_of w 0 claims roots in
      let root : IsRoot w.subject w.world.hints w.rounds most goals w.world.nodes 0 here =
      subst (IsRoot w.subject w.world.hints w.rounds most goals w.world.nodes 0) of.0.is are.0
      in
      let aim : IsAim t = record {
        writable = root.writable;
        subject = root.subject_is;
        enough = enough;
        small = record {
          hypotheses = root.writable.few_hypotheses;
          nodes = nodes;
          premises = premises;
        };
        low = low;
        wide = omega arith;
        later = are.1;
        few = few;
      } in
      let empty : List Line = map (λ g. line.Empty) goals in
      let begun = go.begins t aim refl tree root.proved
      (subst (λ x. steps_in_roots most (x ∷ roots) ≤ 8192 * bytes_a_box) of.0.is room)
      (subst (λ x. w.lines ≡ lines_of_roots w.rounds goals (x ∷ roots) empty) of.0.is shown) in
      record {
        roots = roots;
        are = of.1;
        states = of.0.states;
        are_states = of.0.are_states;
        aim = aim;
        place = at_root t begun.0 tree;
        here = begun.2;
        tree = refl;
        pieces = refl;
        frames = refl;
        next_is = begun.1;
        seen_is = head_seen w.world.nodes w.subject.marks (length w.subject.cases);
        items_are = refl;
      }

-- what is assumed in the universe of a script is no matter to its cases
bare_cases : (s : View) (u : World) → HasCases s u → HasCases s (bare u)
bare_cases s u h = record { some = h.some; few = h.few; each = h.each }

-- where there is a case, some universe of one is as large
some_case : (P : Type 0) (s : View) (u : World) (cases : List (List Claim)) → 0 < length cases
    → AllByRecursion (IsCaseOf s u) cases → ((claims : List Claim) → IsCaseOf s u claims → P) → P
some_case P s u [] some each f = absurd (omega (arith, some))
some_case P s u (claims ∷ later) some each f = f claims each.0

-- how many steps a box may have
abbrev HasFewSteps : World → ℕ → Type 0
HasFewSteps u rounds = steps_needed u rounds ≤ 2 ^ 29

small : InstancesAreFew → (s : View) (u : World) (rounds : ℕ) → HasCases s u → rounds ≤ 64
    → HasFewSteps u rounds
small few s u rounds h range =
    some_case (HasFewSteps u rounds) s u (cases_of s) h.some h.each
    (λ claims is.
    let instances : length u.instances ≤ 2 ^ 22 = few s claims (in_case u claims) is.0 is.1 in
    let drawn : rounds * length u.instances ≤ 64 * 2 ^ 22 =
    mul-le rounds (length u.instances) 64 (2 ^ 22) range instances in
    let short : length u.nodes ≤ 1024 = is.1.short in
    omega (arith, drawn, short, range))

-- how large the universe is, whatever is assumed in it
abbrev IsSmallWorld : World → Type 0
IsSmallWorld u = (length u.nodes ≤ 1024) × (beyond_four u.instances ≤ 1310976)

small_world : UniversesAreSmall → (s : View) (u : World) → HasCases s u → IsSmallWorld u
small_world sizes s u h =
    some_case (IsSmallWorld u) s u (cases_of s) h.some h.each
    (λ claims is. (is.1.short, (sizes s claims (in_case u claims) is.0 is.1).premises))

-- A script that is proved: the walk over its cases stands before the first.
pub start : WritingGoesOn → ScriptsHaveRoots → InstancesAreFew → UniversesAreSmall
    → (s : View) (u : World) (t : Subject) (rounds depth : ℕ) → HasCases s u → IsSubjectOf s t
    → rounds ≤ 64 → depth ≤ 32
    → (boxes : ℕ) (lines : List Line) → boxes ≤ 8192 → IsProved s (options rounds depth boxes) lines
    → StandsBefore (task s (bare u) rounds depth t lines) 0 none_seen
    (head_of (task s (bare u) rounds depth t lines))
start go exist few sizes s u t rounds depth cases subject rounds_few depth_few boxes lines boxes_few
    proved =
    let w : Task = task s (bare u) rounds depth t lines in
    let o : Options = options rounds depth boxes in
    let most : ℕ = bytes_a_box in
    let low : steps_needed (bare u) rounds ≤ 2 ^ 29 =
    small few s (bare u) rounds (bare_cases s u cases) rounds_few in
    let size : IsSmallWorld (bare u) = small_world sizes s (bare u) (bare_cases s u cases) in
    let found : HasRoots s (bare u) o t most lines =
    exist s (bare u) (bare_cases s u cases) o
    (rounds_few, depth_few, boxes_few) lines proved t subject most (omega (arith, low)) in
    let all : most * boxes ≤ bytes_a_box * 8192 =
    mul-le most boxes bytes_a_box 8192 (omega arith) boxes_few in
    let steps = found.few in
    let count : length t.cases ≡ length (cases_of s) =
    ap length subject.cases ∙ length-map (cases_of s) facts_of in
    let few_cases = cases.few in
    subst (λ cs. StandsAt w 0 cs none_seen (head_of w)) (sym (drop_none (cases_of s)))
    (starts go w (cases_of s) cases.some found.roots found.are_of found.are
    (omega (arith, steps, all))
    (omega (arith, low)) rounds_few size.0 size.1 found.shown (omega (arith, count, few_cases)))
