-- One status comes of a list that is told, and whose names are.
use Rattle.std.specs.Prelude.{◌≡◌, ◌⊎◌, List, [], ◌∷◌, Option, Some, None, refl}
use Rattle.std.proofs.Common.{◌∙◌, ap₂, sym, subst, inl, inr}
use Rattle.settler.specs.Answers.{Options}
use Rattle.command_line.specs.Batch.{AskedBatch}
use Rattle.name_list.specs.declared.fault.ListFault.{ListFault}
use Rattle.name_list.specs.Lists.{FaultsAreOne, IsFaultOf, lines_of}
use Rattle.command_runs.proofs.Ends.{IsOnce}
use Rattle.command_runs.specs.Fates.{AreTold, IsTold}
use Rattle.command_runs.specs.Runs.{Bytes, Told}
use Rattle.command_runs.specs.declared.status.Status.{Status}
use Rattle.command_runs.specs.declared.status.Status.TheVariants as status
use Rattle.script_answers.specs.Answers.{ProvePrints}
use Rattle.script_answers.specs.Laws.{TextAnswersAreOne}
use Rattle.batch_command.specs.Command.{BatchTold, IsBatch, IsIn, ListPrints, ReadsListed}
use Rattle.batch_command.specs.Command.{first_other, options_of}

-- each name is told
abbrev NamesTold : Told → List Bytes → Type 0
NamesTold told names = (n : Bytes) → IsIn n names → (text : Bytes) × (told n ≡ Some text)

told_is : (known : Option Bytes) (all text : Bytes) → known ≡ Some all → IsTold known text
    → text ≡ all
told_is known all text e is = subst (λ k. IsTold k text) e is

batch_once : TextAnswersAreOne → (o : Options) (told : Told) (names : List Bytes)
    → NamesTold told names → (s t : Status) (ls ms : Bytes) → IsBatch o told names s ls
    → IsBatch o told names t ms → s ≡ t
batch_once one o told [] tells s t ls ms p q = p.0 ∙ sym q.0
batch_once one o told (n ∷ names) tells s t ls ms
    (s0, s1, own, later, (text, is, p), b, e, l)
    (t0, t1, own2, later2, (other, there, q), c, f, m) =
    let all = tells n (inl refl) in
    let first : s0 ≡ t0 = (one o all.0 s0 t0 own own2
    (subst (λ w. ProvePrints o w s0 own) (told_is (told n) all.0 text all.1 is) p)
    (subst (λ w. ProvePrints o w t0 own2) (told_is (told n) all.0 other all.1 there) q)).0 in
    let rest : s1 ≡ t1 =
    batch_once one o told names (λ x i. tells x (inr i)) s1 t1 later later2 b c in
    e ∙ ap₂ first_other first rest ∙ sym f

-- what a status of a list comes of
abbrev Comes : AskedBatch → Told → Bytes → Status → Bytes → Type 0
Comes a told text s lines = ((s ≡ status.List) × ((f : ListFault) × IsFaultOf text (Some f)))
    ⊎ (IsFaultOf text None × IsBatch (options_of a) told (lines_of text) s lines)

comes : (a : AskedBatch) (told : Told) (text : Bytes) (s : Status) (lines : Bytes)
    → ListPrints a told text s lines → Comes a told text s lines
comes a told text status.List lines (f, h, e) = inl (refl, (f, h))
comes a told text _ lines p = inr p

module _ (faults : FaultsAreOne) (one : TextAnswersAreOne) (a : AskedBatch) (told : Told)
    (tells : AreTold (ReadsListed told a.list) told) where
  list_once : (text : Bytes) → told a.list ≡ Some text → (s t : Status) (ls ms : Bytes)
      → Comes a told text s ls → Comes a told text t ms → t ≡ s
  list_once text e s t ls ms (inl (p, h)) (inl (q, g)) = q ∙ sym p
  list_once text e s t ls ms (inl (p, (f, h))) (inr (none, c)) =
      let x : Some f ≡ None = faults text (Some f) None h none in cc x
  list_once text e s t ls ms (inr (none, b)) (inl (q, (f, h))) =
      let x : Some f ≡ None = faults text (Some f) None h none in cc x
  list_once text e s t ls ms (inr (none, b)) (inr (none2, c)) =
      let known : IsTold (told a.list) text = subst (λ k. IsTold k text) (sym e) refl in
      batch_once one (options_of a) told (lines_of text)
      (λ n i. tells n (inr (text, known, (none, i)))) t s ms ls c b

  pub told_once : IsOnce (BatchTold a told)
  told_once s t ls ms l m n k ((text, is, p), stays) ((other, there, q), stays2) =
      let all = tells a.list (inl refl) in
      let same : text ≡ all.0 = told_is (told a.list) all.0 text all.1 is in
      let same2 : other ≡ all.0 = told_is (told a.list) all.0 other all.1 there in
      list_once all.0 all.1 s t ls ms
      (comes a told all.0 s ls (subst (λ w. ListPrints a told w s ls) same p))
      (comes a told all.0 t ms (subst (λ w. ListPrints a told w t ms) same2 q))
