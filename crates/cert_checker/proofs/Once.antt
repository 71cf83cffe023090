-- Each item is judged in one way.
use Rattle.std.proofs.Common.{◌≡◌, ℕ, zero, suc, List, [], ◌∷◌, length, Option, Some, None, refl}
use Rattle.std.proofs.Common.{sym, ap, ◌∙◌, arith, inl, inr}
use Rattle.fx_model.specs.declared.ExprId.{ExprId}
use Rattle.fx_model.specs.declared.Node.{Node}
use Rattle.facts.specs.declared.hint.HintMark.{HintMark}
use Rattle.goals.specs.declared.goal.Goal.{Goal}
use Rattle.cert_bytes.specs.declared.item.StepRow.{StepRow}
use Rattle.cert_bytes.specs.declared.item.Item.{Item}
use Rattle.cert_bytes.specs.declared.item.Item.TheVariants as item
use Rattle.cert_checker.specs.declared.fault.CheckFault.{CheckFault}
use Rattle.cert_checker.specs.declared.fault.CheckFault.TheVariants.{BadStep, BadPremise, BadCut}
use Rattle.cert_checker.specs.declared.fault.CheckFault.TheVariants.{GoalMissing}
use Rattle.cert_checker.specs.declared.fault.CheckFault.TheVariants.{HintMark as HintFault}
use Rattle.cert_checker.specs.declared.fault.CheckFault.TheVariants.{WrongScript, BadNode, BadCases}
use Rattle.cert_checker.specs.declared.open.Citable.{Citable}
use Rattle.cert_checker.specs.Steps.{Givens, givens, IsCiting, IsConcluded}
use Rattle.cert_checker.specs.Faults.{JudgesCount, JudgesNode, JudgesMarks, JudgesMark, JudgesStep}
use Rattle.cert_checker.specs.Faults.{JudgesCut, JudgesLeaf, JudgesDead, JudgesContent, JudgesItem}
use Rattle.cert_checker.specs.Faults.{AreSettled, IsFirstMissing}
use Rattle.cert_checker.specs.declared.subject.Subject.{Subject}
use Rattle.cert_checker.specs.Contexts.{Context}
use Rattle.cert_checker.specs.After.{after}
use Rattle.cert_checker.specs.Once.{JudgedOnce, LeadsOnce, LeadsOrFails, FailsOnce}

count_once : (own : List Node) (n : ℕ) (o p : Option CheckFault) → JudgesCount own n o
    → JudgesCount own n p → o ≡ p
count_once own n None None x y = refl
count_once own n None (Some (WrongScript k)) x y = let l = y.1 in absurd (omega (arith, x, l))
count_once own n (Some (WrongScript k)) None x y = let l = x.1 in absurd (omega (arith, y, l))
count_once own n (Some (WrongScript k)) (Some (WrongScript j)) x y =
    ap (λ h. Some (WrongScript h)) (x.0 ∙ sym y.0)
count_once own n None (Some _) x y = absurd y
count_once own n (Some (WrongScript k)) (Some _) x y = absurd y
count_once own n (Some _) p x y = absurd x

node_once : (own : List Node) (variables : ℕ)
    (nodes : List Node) (n : Node) (o p : Option CheckFault) → JudgesNode own variables nodes n o
    → JudgesNode own variables nodes n p → o ≡ p
node_once own variables nodes n None None x y = refl
node_once own variables nodes n None (Some (WrongScript k)) x y = let e = y.0 in let l = y.1 in
    absurd (y.2 (x.0 (omega (arith, e, l))))
node_once own variables nodes n None (Some (BadNode k)) x y = let e = y.0 in let l = y.1 in
    absurd (y.2 (x.1 (omega (arith, e, l))))
node_once own variables nodes n (Some (WrongScript k)) None x y = let e = x.0 in let l = x.1 in
    absurd (x.2 (y.0 (omega (arith, e, l))))
node_once own variables nodes n (Some (BadNode k)) None x y = let e = x.0 in let l = x.1 in
    absurd (x.2 (y.1 (omega (arith, e, l))))
node_once own variables nodes n (Some (WrongScript k)) (Some (WrongScript j)) x y =
    ap (λ h. Some (WrongScript h)) (x.0 ∙ sym y.0)
node_once own variables nodes n (Some (BadNode k)) (Some (BadNode j)) x y =
    ap (λ h. Some (BadNode h)) (x.0 ∙ sym y.0)
node_once own variables nodes n (Some (WrongScript k)) (Some (BadNode j)) x y = let e = x.0 in
    let l = x.1 in let f = y.0 in let m = y.1 in absurd (omega (arith, e, l, f, m))
node_once own variables nodes n (Some (BadNode k)) (Some (WrongScript j)) x y = let e = x.0 in
    let l = x.1 in let f = y.0 in let m = y.1 in absurd (omega (arith, e, l, f, m))
node_once own variables nodes n None (Some _) x y = absurd y
node_once own variables nodes n (Some (WrongScript k)) (Some _) x y = absurd y
node_once own variables nodes n (Some (BadNode k)) (Some _) x y = absurd y
node_once own variables nodes n (Some _) p x y = absurd x

marks_once : (marks : List HintMark) (n : ℕ) (o p : Option CheckFault) → JudgesMarks marks n o
    → JudgesMarks marks n p → o ≡ p
marks_once marks n None None x y = refl
marks_once marks n None (Some (HintFault k)) x y = absurd (y.1 x)
marks_once marks n (Some (HintFault k)) None x y = absurd (x.1 y)
marks_once marks n (Some (HintFault k)) (Some (HintFault j)) x y =
    ap (λ h. Some (HintFault h)) (x.0 ∙ sym y.0)
marks_once marks n None (Some _) x y = absurd y
marks_once marks n (Some (HintFault k)) (Some _) x y = absurd y
marks_once marks n (Some _) p x y = absurd x

mark_once : (marks : List HintMark) (k : ℕ) (m : HintMark) (o p : Option CheckFault)
    → JudgesMark marks k m o → JudgesMark marks k m p → o ≡ p
mark_once marks k m None None x y = refl
mark_once marks k m None (Some (HintFault h)) x y = absurd (y.1 x)
mark_once marks k m (Some (HintFault h)) None x y = absurd (x.1 y)
mark_once marks k m (Some (HintFault h)) (Some (HintFault j)) x y =
    ap (λ h. Some (HintFault h)) (x.0 ∙ sym y.0)
mark_once marks k m None (Some _) x y = absurd y
mark_once marks k m (Some (HintFault h)) (Some _) x y = absurd y
mark_once marks k m (Some _) p x y = absurd x

-- what is concluded cites what it may
citing : (g : Givens) (steps : List Citable) (r : StepRow)
    → IsConcluded g steps r → IsCiting steps r
citing g steps r q = (q.0, q.1, q.2)

step_once : (g : Givens) (steps : List Citable) (next : ℕ) (r : StepRow) (o p : Option CheckFault)
    → JudgesStep g steps next r o → JudgesStep g steps next r p → o ≡ p
step_once g steps next r None None x y = refl
step_once g steps next r None (Some (BadPremise k)) x y = absurd (y.1 (citing g steps r x))
step_once g steps next r None (Some (BadStep k)) x y = absurd (y.2 x)
step_once g steps next r (Some (BadPremise k)) None x y = absurd (x.1 (citing g steps r y))
step_once g steps next r (Some (BadStep k)) None x y = absurd (x.2 y)
step_once g steps next r (Some (BadPremise k)) (Some (BadPremise j)) x y =
    ap (λ h. Some (BadPremise h)) (x.0 ∙ sym y.0)
step_once g steps next r (Some (BadStep k)) (Some (BadStep j)) x y =
    ap (λ h. Some (BadStep h)) (x.0 ∙ sym y.0)
step_once g steps next r (Some (BadPremise k)) (Some (BadStep j)) x y = absurd (x.1 y.1)
step_once g steps next r (Some (BadStep k)) (Some (BadPremise j)) x y = absurd (y.1 x.1)
step_once g steps next r None (Some _) x y = absurd y
step_once g steps next r (Some (BadPremise k)) (Some _) x y = absurd y
step_once g steps next r (Some (BadStep k)) (Some _) x y = absurd y
step_once g steps next r (Some _) p x y = absurd x

cut_once : (nodes : List Node) (depth section : ℕ) (v : ExprId) (o p : Option CheckFault)
    → JudgesCut nodes depth section v o → JudgesCut nodes depth section v p → o ≡ p
cut_once nodes depth section v None None x y = refl
cut_once nodes depth section v None (Some (BadCut k)) x y = absurd (y.1 x)
cut_once nodes depth section v (Some (BadCut k)) None x y = absurd (x.1 y)
cut_once nodes depth section v (Some (BadCut k)) (Some (BadCut j)) x y =
    ap (λ h. Some (BadCut h)) (x.0 ∙ sym y.0)
cut_once nodes depth section v None (Some _) x y = absurd y
cut_once nodes depth section v (Some (BadCut k)) (Some _) x y = absurd y
cut_once nodes depth section v (Some _) p x y = absurd x

-- goals that are settled have none that is missing, and one is the first that is
none_missing : (steps : List Citable) (goals : List Goal) (refs : List ℕ) (k : ℕ)
    → AreSettled steps goals refs → ¬ IsFirstMissing steps goals refs k
none_missing steps [] [] zero s m = m
none_missing steps [] [] (suc k) s m = m
none_missing steps (g ∷ goals) (r ∷ refs) zero s m = m s.0
none_missing steps (g ∷ goals) (r ∷ refs) (suc k) s m = none_missing steps goals refs k s.1 m.1
none_missing steps (g ∷ goals) [] k s m = s
none_missing steps [] (r ∷ refs) k s m = s

missing_once : (steps : List Citable) (goals : List Goal) (refs : List ℕ) (j k : ℕ)
    → IsFirstMissing steps goals refs j → IsFirstMissing steps goals refs k → j ≡ k
missing_once steps goals refs zero zero a b = refl
missing_once steps (g ∷ goals) (r ∷ refs) zero (suc k) a b = absurd (a b.0)
missing_once steps (g ∷ goals) (r ∷ refs) (suc j) zero a b = absurd (b a.0)
missing_once steps (g ∷ goals) (r ∷ refs) (suc j) (suc k) a b =
    ap suc (missing_once steps goals refs j k a.1 b.1)
missing_once steps [] [] (suc j) k a b = absurd a
missing_once steps [] (r ∷ refs) (suc j) k a b = absurd a
missing_once steps (g ∷ goals) [] (suc j) k a b = absurd a
missing_once steps [] [] zero (suc k) a b = absurd b
missing_once steps [] (r ∷ refs) zero (suc k) a b = absurd b
missing_once steps (g ∷ goals) [] zero (suc k) a b = absurd b

leaf_once : (steps : List Citable) (goals : List Goal)
    (section : ℕ) (refs : List ℕ) (o p : Option CheckFault) → JudgesLeaf steps goals section refs o
    → JudgesLeaf steps goals section refs p → o ≡ p
leaf_once steps goals section refs None None x y = refl
leaf_once steps goals section refs None (Some (GoalMissing k (suc g))) x y =
    absurd (none_missing steps goals refs g x y.1)
leaf_once steps goals section refs (Some (GoalMissing k (suc g))) None x y =
    absurd (none_missing steps goals refs g y x.1)
leaf_once steps goals section refs (Some (GoalMissing k (suc g)))
    (Some (GoalMissing j (suc h))) x y =
    ap (λ n. Some (GoalMissing n (suc g))) (x.0 ∙ sym y.0)
    ∙ ap (λ n. Some (GoalMissing j (suc n))) (missing_once steps goals refs g h x.1 y.1)
leaf_once steps goals section refs None (Some _) x y = absurd y
leaf_once steps goals section refs (Some (GoalMissing k (suc g))) (Some _) x y = absurd y
leaf_once steps goals section refs (Some _) p x y = absurd x

dead_once : (steps : List Citable) (section r : ℕ) (o p : Option CheckFault)
    → JudgesDead steps section r o → JudgesDead steps section r p → o ≡ p
dead_once steps section r None None x y = refl
dead_once steps section r None (Some (GoalMissing k zero)) x y = absurd (y.1 x)
dead_once steps section r (Some (GoalMissing k zero)) None x y = absurd (x.1 y)
dead_once steps section r (Some (GoalMissing k zero)) (Some (GoalMissing j zero)) x y =
    ap (λ n. Some (GoalMissing n 0)) (x.0 ∙ sym y.0)
dead_once steps section r None (Some _) x y = absurd y
dead_once steps section r (Some (GoalMissing k zero)) (Some _) x y = absurd y
dead_once steps section r (Some _) p x y = absurd x

content_once : (s : Subject) (c : Context) (i : Item) (o p : Option CheckFault)
    → JudgesContent s c i o → JudgesContent s c i p → o ≡ p
content_once s c (item.Nodes n) o p x y = count_once s.nodes n o p x y
content_once s c (item.Node n) o p x y = node_once s.nodes s.variables c.nodes n o p x y
content_once s c (item.Marks n) o p x y = marks_once s.marks n o p x y
content_once s c (item.Mark m) o p x y = mark_once s.marks c.marked m o p x y
content_once s c (item.Cases n) o p x y = x ∙ sym y
content_once s c (item.Step r) o p x y = step_once (givens s c) c.steps c.next r o p x y
content_once s c (item.Cut v ps) o p x y = cut_once c.nodes (length c.cuts) c.section v o p x y
content_once s c (item.Leaf refs) o p x y = leaf_once c.steps s.goals c.section refs o p x y
content_once s c (item.Dead r) o p x y = dead_once c.steps c.section r o p x y
content_once s c item.End o p x y = x ∙ sym y

pub judged_once : JudgedOnce
judged_once s c i None None x y = refl
judged_once s c i None (Some (BadCases k)) x y = absurd (y.1 x.0)
judged_once s c i None (Some f) x y = content_once s c i None (Some f) x.1 y.1
judged_once s c i (Some (BadCases k)) None x y = absurd (x.1 y.0)
judged_once s c i (Some (BadCases k)) (Some (BadCases j)) x y =
    ap (λ h. Some (BadCases h)) (x.0 ∙ sym y.0)
judged_once s c i (Some (BadCases k)) (Some f) x y = absurd (x.1 y.0)
judged_once s c i (Some f) None x y = content_once s c i (Some f) None x.1 y.1
judged_once s c i (Some f) (Some (BadCases k)) x y = absurd (y.1 x.0)
judged_once s c i (Some f) (Some g) x y = content_once s c i (Some f) (Some g) x.1 y.1

-- nothing is wrong with the end
pub sound_end : (s : Subject) (c : Context) (f : CheckFault) → ¬ JudgesItem s c item.End (Some f)
sound_end s c (BadCases k) x = x.1 (λ b r. cc)
sound_end s c f x = let e : Some f ≡ None = x.1 in cc

pub leads_once : LeadsOnce
leads_once s c [] end other x y = sym x ∙ y
leads_once s c (i ∷ items) end other x y = leads_once s (after c i) items end other x.1 y.1

pub leads_or_fails : LeadsOrFails
leads_or_fails s c [] end f x y = y
leads_or_fails s c (i ∷ items) end f x (inl y) =
    let e : None ≡ Some f = judged_once s c i None (Some f) x.0 y in cc
leads_or_fails s c (i ∷ items) end f x (inr y) = leads_or_fails s (after c i) items end f x.1 y.1

pub same_fault : (f g : CheckFault) → Some f ≡ Some g → f ≡ g
same_fault f g e = cc

pub fails_once : FailsOnce
fails_once s c [] f g x y = absurd x
fails_once s c (i ∷ items) f g (inl x) (inl y) =
    same_fault f g (judged_once s c i (Some f) (Some g) x y)
fails_once s c (i ∷ items) f g (inl x) (inr y) =
    let e : Some f ≡ None = judged_once s c i (Some f) None x y.0 in cc
fails_once s c (i ∷ items) f g (inr x) (inl y) =
    let e : None ≡ Some g = judged_once s c i None (Some g) x.0 y in cc
fails_once s c (i ∷ items) f g (inr x) (inr y) = fails_once s (after c i) items f g x.1 y.1
