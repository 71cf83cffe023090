-- Each script that is proved has a root for each case, and so a certificate that is accepted with
-- its lines.
use Rattle.std.specs.Prelude.{◌≡◌, ◌<◌, ◌≤◌, ◌+◌, ◌*◌, ◌^◌, ℕ, List, [], ◌∷◌, ◌++◌, length, map}
use Rattle.std.specs.Prelude.{Option, Some, None, slice_get, refl}
use Rattle.std.specs.List.{AllByRecursion}
use Rattle.std.proofs.Common.{sym, ◌∙◌, ap, ap₂, subst, arith}
use Rattle.std.proofs.Math.Nat.{mul-add}
use Rattle.std.proofs.lemmas.List.{append_assoc, length-append, length-map}
use Rattle.std.proofs.lemmas.Nat.{mul-le}
use Rattle.goals.specs.declared.goal.Goal.{Goal}
use Rattle.goals.specs.declared.line.Line.{Line}
use Rattle.goals.specs.declared.line.Line.TheVariants as line
use Rattle.script_claims.specs.declared.claim.Claim.{Claim}
use Rattle.script_claims.specs.Facts.{goal_of, facts_of}
use Rattle.script_grammar.specs.Spells.{View}
use Rattle.script_grammar.specs.Cases.{cases_of}
use Rattle.rule_universe.specs.Worlds.{World}
use Rattle.saturate.specs.Universes.{setting_of}
use Rattle.universe.specs.Universes.{UniversesAreOne}
use Rattle.box_tree.specs.Regions.{PlanParts}
use Rattle.bisect.specs.declared.settler.State.{State}
use Rattle.bisect.specs.declared.outcome.Leaf.{Leaf}
use Rattle.bisect.specs.Trees as bisect
use Rattle.bisect.specs.Boxes.{AreBoxes, first_open, leaves_of}
use Rattle.bisect.specs.declared.outcome.OpenLeaf.{OpenLeaf}
use Rattle.case_trees.specs.Listed.{Listed, AreListed, box_count, or_later, first_open_from}
use Rattle.case_trees.specs.Listed.{all_leaves}
use Rattle.settler.specs.Standing.{AreStates}
use Rattle.settler.specs.Answers.{Options, plan_of, tree_by, IsTreeOf, AreTrees}
use Rattle.cert_bytes.specs.declared.item.Item.{Item}
use Rattle.cert_bytes.specs.declared.style.Style.TheVariants.{First}
use Rattle.cert_bytes.specs.Spelling.{spelled_from}
use Rattle.cert_checker.specs.declared.subject.Subject.{Subject}
use Rattle.cert_checker.specs.Accepted.{Accepts}
use Rattle.script_checker.specs.Subjects.{IsSubjectOf}
use Rattle.tree_certificates.specs.Trees.{Tree, lines_of_tree, steps_in}
use Rattle.tree_certificates.specs.Roots.{Root, IsRoot, AreRoots, steps_in_roots, lines_of_roots}
use Rattle.tree_certificates.specs.Laws.{CertificatesExist}
use Rattle.answer_certificates.specs.Scripts.{in_case, IsCaseOf, HasCases}
use Rattle.answer_certificates.specs.Boxes.{boxes_of, rows_from}
use Rattle.answer_certificates.specs.Roots.{IsRootOf, AreRootsOf, most_in}
use Rattle.answer_certificates.specs.Laws.{UniversesAreWritten, InstancesAreFew}
use Rattle.answer_certificates.specs.Laws.{SubjectsAreOfUniverses, TreesAreProved, AreInRange}
use Rattle.answer_certificates.specs.Laws.{ScriptsHaveRoots, AnswersHaveCertificates}
use Rattle.answer_certificates.specs.Laws.{AnswersAreSpelled}
use Rattle.answer_certificates.proofs.Fronts.{seam_get}
use Rattle.answer_certificates.proofs.Shown.{rows_both, rows_none, rows_length, lines_are_rows}

-- ---- no open leaf
open_none : (case : ℕ) (o : Option (List ℕ × ℕ)) (later : Option OpenLeaf)
    → or_later case o later ≡ None → (o ≡ None) × (later ≡ None)
open_none case None later e = (refl, e)
open_none case (Some leaf) later e = absurd (cc e)

-- ---- the roots of cases
module _ (trees : TreesAreProved) (writes : UniversesAreWritten) (judges : SubjectsAreOfUniverses)
    (universes : UniversesAreOne) (s : View) (u : World) (o : Options) (range : AreInRange o)
    (t : Subject) (is : IsSubjectOf s t) (most : ℕ) (enough : most_in u o.rounds ≤ most) where
  abbrev Of : List (List Claim) → List Root → Type 0
  Of cases roots = AreRootsOf s u o.rounds o.depth cases roots

  abbrev Are : ℕ → List Root → Type 0
  Are number roots = AreRoots t u.hints o.rounds most u.goals u.nodes number roots

  -- the lines with those of the case's leaves, and of all
  abbrev with_tree : Root → List Line → List Line
  with_tree r lines = lines_of_tree r.setting o.rounds u.goals r.tree [] lines

  abbrev with_roots : List Root → List Line → List Line
  with_roots roots lines = lines_of_roots o.rounds u.goals roots lines

  -- the root of the case with this number that has these boxes
  record IsFound (number : ℕ) (claims : List Claim) (l : Listed) (r : Root) : Type 0 where
    of : IsRootOf s u o.rounds o.depth claims r
    is_root : IsRoot t u.hints o.rounds most u.goals u.nodes number r
    steps : steps_in most r.tree ≡ most * length l.boxes
    shown : (lines : List Line) → length lines ≡ length u.goals
        → with_tree r lines ≡ rows_from 0 lines (leaves_of l.tree l.boxes)

  one_found : (number : ℕ) (claims : List Claim) → slice_get (cases_of s) number ≡ Some claims
      → IsCaseOf s u claims → (x : bisect.Tree) → IsTreeOf s o claims x
      → (l : Listed) → l.tree ≡ x → AreBoxes l.tree l.boxes → first_open l.tree l.boxes ≡ None
      → (r : Root) × IsFound number claims l r
  one_found number claims there case x tree l same are none =
      let w : World = in_case u claims in
      let plan : PlanParts = plan_of s claims o.depth in
      let states : List ℕ → State = tree.states in
      let q : tree.universe ≡ w =
      universes s claims tree.universe w tree.is_universe case.0.universe in
      let stand : AreStates w plan o.rounds states =
      subst (λ z. AreStates z plan o.rounds states) q tree.are_states in
      let e : l.tree ≡ tree_by s claims o states = same ∙ tree.is_tree in
      let d = trees s claims w case.0 case.1 o range.1 states stand l.boxes
      (subst (λ z. AreBoxes z l.boxes) e are) (subst (λ z. first_open z l.boxes ≡ None) e none) in
      let r : Root = record { setting = setting_of w; tree = boxes_of plan states } in
      let facts : length w.hypotheses ≤ 2 ^ 16 = case.1.hypotheses in (
        r,
        record {
          of = record { states = states; are_states = stand; is = refl };
          is_root = record {
            writable = writes s claims w case.0 case.1;
            few = omega (arith, facts, enough);
            nodes_are = refl;
            subject_is = judges s claims w case.0 case.1 number there t is;
            proved = d.proved;
          };
          steps = d.steps most;
          shown = λ lines k.
              d.shown lines k ∙ ap (λ z. rows_from 0 lines (leaves_of z l.boxes)) (sym e);
        },
      )

  -- those from the case with this number on, with their boxes
  record AreFound (number : ℕ) (cases : List (List Claim)) (ls : List Listed) : Type 0 where
    roots : List Root
    are_of : Of cases roots
    are : Are number roots
    counted : steps_in_roots most roots ≡ most * box_count ls
    shown : (lines : List Line) → length lines ≡ length u.goals
        → with_roots roots lines ≡ rows_from 0 lines (all_leaves ls)

  end_number : (before : List (List Claim)) → before ++ [] ≡ cases_of s
      → length before ≡ length t.cases
  end_number before e =
      let all = ap length e in
      let told = ap length is.cases in
      omega (arith, all, told, length-append before [], length-map (cases_of s) facts_of)

  all_found : (before cases : List (List Claim)) → before ++ cases ≡ cases_of s
      → AllByRecursion (IsCaseOf s u) cases → (xs : List bisect.Tree) → AreTrees s o cases xs
      → (ls : List Listed) → AreListed xs ls → (from : ℕ) → first_open_from from ls ≡ None
      → AreFound (length before) cases ls
  all_found before [] e each [] are [] listed from none = record {
    roots = [];
    are_of = tt;
    are = end_number before e;
    counted = omega arith;
    shown = λ lines k. sym (rows_none 0 lines);
  }
  all_found before [] e each [] are (l ∷ ls) listed from none = absurd listed
  all_found before [] e each (x ∷ xs) are ls listed from none = absurd are
  all_found before (c ∷ cases) e each [] are ls listed from none = absurd are
  all_found before (c ∷ cases) e each (x ∷ xs) are [] listed from none = absurd listed
  all_found before (c ∷ cases) e each (x ∷ xs) are (l ∷ ls) listed from none =
      let both = open_none from (first_open l.tree l.boxes) (first_open_from (from + 1) ls) none in
      let there : slice_get (cases_of s) (length before) ≡ Some c =
      subst (λ cs. slice_get cs (length before) ≡ Some c) e (seam_get before c cases) in
      let one = one_found (length before) c there each.0 x are.0 l listed.0 listed.1 both.0 in
      let rest = all_found (before ++ c ∷ []) cases (append_assoc before (c ∷ []) cases ∙ e)
      each.1 xs are.1 ls listed.2 (from + 1) both.1 in
      let next : length (before ++ c ∷ []) ≡ length before + 1 =
      omega (arith, length-append before (c ∷ [])) in
      let here : List Leaf = leaves_of l.tree l.boxes in
      let later : List Leaf = all_leaves ls in
      record {
        roots = one.0 ∷ rest.roots;
        are_of = (one.1.of, rest.are_of);
        are = (one.1.is_root, subst (λ n. Are n rest.roots) next rest.are);
        counted = ap₂ (λ (a b : ℕ). a + b) one.1.steps rest.counted
            ∙ sym (mul-add most (length l.boxes) (box_count ls));
        shown = λ lines k.
            let counted : length (rows_from 0 lines here) ≡ length u.goals =
            rows_length 0 lines here ∙ k in
            ap (with_roots rest.roots) (one.1.shown lines k)
            ∙ (rest.shown (rows_from 0 lines here) counted ∙ sym (rows_both 0 lines here later));
      }

-- ---- of a script that is proved
-- a case, of which there is one
first_case : (s : View) (u : World) (cases : List (List Claim)) → 0 < length cases
    → AllByRecursion (IsCaseOf s u) cases → (claims : List Claim) × IsCaseOf s u claims
first_case s u [] some each = absurd (omega (arith, some))
first_case s u (c ∷ cases) some each = (c, each.0)

pub scripts_have_roots : TreesAreProved → UniversesAreWritten → SubjectsAreOfUniverses
    → UniversesAreOne → ScriptsHaveRoots
scripts_have_roots trees writes judges universes
    s u has o range lines (count, (leaves, came, told)) t is most enough =
    let ls : List Listed = came.is_answer.0 in
    let by = came.is_answer.2 in
    let found = all_found trees writes judges universes s u o range t is most enough [] (cases_of s)
    refl has.each came.trees came.are_trees ls came.is_answer.1 0 by.1 in
    let empty : List Line = map (λ g. line.Empty) u.goals in
    let goals = (first_case s u (cases_of s) has.some has.each).1.0.universe.goals in
    let counted : length s.goals ≡ length u.goals =
    sym (ap length goals ∙ length-map s.goals goal_of) in
    let boxes = by.0 in
    let product = mul-le most (box_count ls) most o.boxes (omega arith) boxes in
    let steps = found.counted in
    record {
      roots = found.roots;
      are_of = found.are_of;
      are = found.are;
      few = omega (arith, product, steps);
      shown = told
          ∙ (lines_are_rows leaves 0 u.goals (length s.goals) counted
          ∙ (ap (rows_from 0 empty) by.3
          ∙ sym (found.shown empty (length-map u.goals (λ (g : Goal). line.Empty)))));
    }

-- ---- the certificate
module _ (few : InstancesAreFew) (certificates : CertificatesExist) (s : View) (u : World)
    (has : HasCases s u) (o : Options) (range : AreInRange o) (lines : List Line)
    (t : Subject) (is : IsSubjectOf s t) where
  abbrev most : ℕ
  most = most_in u o.rounds

  cases_are : length t.cases ≡ length (cases_of s)
  cases_are = ap length is.cases ∙ length-map (cases_of s) facts_of

  -- a step for each hypothesis, node and instance of all rounds, in each box, has a number of 64
  -- bits
  can_be_numbered : most * o.boxes ≤ 2 ^ 64
  can_be_numbered =
      let first = first_case s u (cases_of s) has.some has.each in
      let w : World = in_case u first.0 in
      let instances : length u.instances ≤ 2 ^ 22 = few s first.0 w first.1.0 first.1.1 in
      let drawn : o.rounds * length u.instances ≤ 64 * 2 ^ 22 =
      mul-le o.rounds (length u.instances) 64 (2 ^ 22) range.0 instances in
      let short : length u.nodes ≤ 1024 = first.1.1.short in
      let box : most ≤ 2 ^ 29 = omega (arith, drawn, short) in
      let all : most * o.boxes ≤ 2 ^ 29 * 8192 = mul-le most o.boxes (2 ^ 29) 8192 box range.2 in
      omega (arith, all)

  of_roots : (rs : List Root) → AreRoots t u.hints o.rounds most u.goals u.nodes 0 rs
      → steps_in_roots most rs ≤ most * o.boxes
      → lines_of_roots o.rounds u.goals rs (map (λ g. line.Empty) u.goals) ≡ lines
      → (items : List Item) × Accepts t items lines
  of_roots [] are steps shown = let some = has.some in absurd (omega (arith, are, some, cases_are))
  of_roots (r ∷ later) are steps shown =
      let many = has.few in
      let nodes : r.setting.nodes ≡ u.nodes = are.0.nodes_are in
      let same : AreRoots t u.hints o.rounds most u.goals r.setting.nodes 0 (r ∷ later) =
      subst (λ ns. AreRoots t u.hints o.rounds most u.goals ns 0 (r ∷ later)) (sym nodes) are in
      let found = certificates u.hints o.rounds most u.goals t r later same
      (omega (arith, many, cases_are)) (omega (arith, steps, can_be_numbered)) in
      let rows : List Goal → List Line =
      λ gs. lines_of_roots o.rounds u.goals (r ∷ later) (map (λ g. line.Empty) gs) in
      (found.0, subst (Accepts t found.0) (ap rows are.0.subject_is.wanted ∙ shown) found.1)

pub answers_have_certificates : ScriptsHaveRoots → InstancesAreFew → CertificatesExist
    → AnswersHaveCertificates
answers_have_certificates roots few certificates s u has o range lines proved t is =
    let found = roots s u has o range lines proved t is (most_in u o.rounds) (omega arith) in
    of_roots few certificates s u has o range lines t is found.roots found.are found.few
    (sym found.shown)

pub answers_are_spelled : AnswersHaveCertificates → AnswersAreSpelled
answers_are_spelled answers s u has o range lines proved t is =
    let found = answers s u has o range lines proved t is in (
      spelled_from First found.0,
      record {
        subject = t;
        is = is;
        accepted = record {
          items = found.0;
          spelled = record {
            style = First;
            spells = record { opens = tt; certificate = found.1.certificate; spelled = refl };
          };
          accepts = found.1;
        };
      },
    )
