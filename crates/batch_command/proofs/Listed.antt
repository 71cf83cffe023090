-- What is printed of a list, from what is printed of its scripts.
use Rattle.std.specs.Prelude.{◌≡◌, ◌≢◌, ◌≤◌, List, [], ◌∷◌, Option, Some, None, Result, Ok, Err}
use Rattle.std.specs.Prelude.{IfOk, length, take, refl}
use Rattle.std.specs.declared.vec.Vec.{Vec}
use Rattle.std.specs.declared.alloc.Global.{Global}
use Rattle.std.proofs.Common.{◌∙◌, ap, arith, sym, subst, inr, ℕ, suc}
use Rattle.std.proofs.lemmas.List.{length-take}
use Rattle.fx_edge.specs.Outside.{Rose}
use Rattle.fx_edge.proofs.OutsideLaws.{rose_later}
use Rattle.settler.specs.Answers.{Options}
use Rattle.command_line.specs.Batch.{AskedBatch}
use Rattle.name_list.specs.declared.fault.ListFault.{ListFault}
use Rattle.name_list.specs.Fronts.{FrontsDecide, FaultlessAreWhole}
use Rattle.name_list.specs.Lists.{IsFaultOf, lines_of}
use Rattle.whole_texts.specs.Texts.{IsText}
use Rattle.command_runs.specs.Runs.{Bytes, Told}
use Rattle.command_runs.specs.Fates.{IsTold, ending}
use Rattle.command_runs.specs.Fates.Ending.{Done}
use Rattle.command_runs.specs.declared.status.Status.{Status}
use Rattle.command_runs.specs.declared.status.Status.TheVariants as status
use Rattle.script_answers.specs.Answers.{ProvePrints}
use Rattle.script_answers.proofs.Texts.{told_prints}
use Rattle.batch_command.specs.Command.{IsBatch, first_other, options_of}
use Rattle.batch_command.specs.Lines.{list_fault_line}
use Rattle.batch_command.specs.Told.{AreAnswers, AreRead, Prints, ScriptsPrint, lines_under}
use Rattle.batch_command.specs.Told.{status_of}

-- ---- statuses
-- it is one of those that scripts have
pub record IsOfScripts (s : Status) : Type 0 where
  pub done : ending s ≡ Done
  pub is_read : s ≢ status.ReadFault
  pub is_list : s ≢ status.List

prints_of : (o : Options) (text : Bytes) (s : Status) (lines : Bytes) → ProvePrints o text s lines
    → IsOfScripts s
prints_of o text status.Answered lines p =
    record { done = refl; is_read = λ e. cc e; is_list = λ e. cc e }
prints_of o text status.Unproved lines p =
    record { done = refl; is_read = λ e. cc e; is_list = λ e. cc e }
prints_of o text status.Script lines p =
    record { done = refl; is_read = λ e. cc e; is_list = λ e. cc e }
prints_of o text status.Limit lines p =
    record { done = refl; is_read = λ e. cc e; is_list = λ e. cc e }
prints_of o text _ lines p = absurd p

first_of : (s t : Status) → IsOfScripts s → IsOfScripts t → IsOfScripts (first_other s t)
first_of status.Answered t p q = q
first_of _ t p q = p

pub batch_of_scripts : (o : Options) (told : Told) (names : List Bytes) (s : Status) (lines : Bytes)
    → IsBatch o told names s lines → IsOfScripts s
batch_of_scripts o told [] s lines (same, none) =
    subst IsOfScripts (sym same) (record { done = refl; is_read = λ e. cc e; is_list = λ e. cc e })
batch_of_scripts o told (name ∷ names) s lines (t, u, own, later, (text, is, p), b, same, all) =
    subst IsOfScripts (sym same)
    (first_of t u (prints_of o text t own p) (batch_of_scripts o told names u later b))

-- ---- of the scripts
pub as_many : (o : Options) (texts : List (Vec ℕ Global)) (answers : List (Status × Vec ℕ Global))
    → AreAnswers o texts answers → length answers ≡ length texts
as_many o [] [] p = refl
as_many o [] (a ∷ answers) p = absurd p
as_many o (t ∷ texts) [] p = absurd p
as_many o (t ∷ texts) (a ∷ answers) p = ap suc (as_many o texts answers p.1)

batched : (o : Options) (told : Told) (names : List Bytes) (texts : List (Vec ℕ Global))
    (answers : List (Status × Vec ℕ Global)) → AreRead told names texts → AreAnswers o texts answers
    → IsBatch o told names (status_of answers) (lines_under names answers)
batched o told [] [] [] r p = (refl, refl)
batched o told [] [] (a ∷ answers) r p = absurd p
batched o told [] (t ∷ texts) answers r p = absurd r
batched o told (n ∷ names) [] answers r p = absurd r
batched o told (n ∷ names) (t ∷ texts) [] r p = absurd p
batched o told (n ∷ names) (t ∷ texts) (a ∷ answers) r p = (
  a.0,
  status_of answers,
  a.1.items,
  lines_under names answers,
  told_prints o told n t.items a.0 a.1.items r.0 p.0,
  batched o told names texts answers r.1 p.1,
  refl,
  refl,
)

scripts_print : (failed : Type 0) (o : Options) (told : Told) (names : List Bytes) (s : Status)
    (lines : Bytes) → s ≢ status.ReadFault → IsBatch o told names s lines
    → ScriptsPrint failed o told names s lines
scripts_print failed o told names status.ReadFault lines n b = absurd (n refl)
scripts_print failed o told names _ lines n b = b

-- the lines under the names are those of their scripts
pub all_printed : (failed : Type 0) (o : Options) (told : Told) (names : List Bytes)
    (texts : List (Vec ℕ Global)) (answers : List (Status × Vec ℕ Global)) (s : Status)
    (lines : Bytes) → AreRead told names texts → AreAnswers o texts answers → s ≡ status_of answers
    → lines ≡ lines_under names answers → ScriptsPrint failed o told names s lines
all_printed failed o told names texts answers s lines r p same all =
    let b = batched o told names texts answers r p in
    let plain = batch_of_scripts o told names (status_of answers) (lines_under names answers) b in
    subst (λ t. ScriptsPrint failed o told names t lines) (sym same)
    (subst (ScriptsPrint failed o told names (status_of answers)) (sym all)
    (scripts_print failed o told names (status_of answers) (lines_under names answers)
    plain.is_read b))

-- the same of a call's result
pub all_printed_so : {E : Type 0} (failed : Type 0) (o : Options) (told : Told) (names : List Bytes)
    (texts : List (Vec ℕ Global)) (answers : List (Status × Vec ℕ Global))
    (result : Result (Status × Vec ℕ Global) E) → AreRead told names texts
    → AreAnswers o texts answers → IfOk result (λ r. r.0 ≡ status_of answers)
    → IfOk result (λ r. r.1.items ≡ lines_under names answers)
    → IfOk result (λ r. ScriptsPrint failed o told names r.0 r.1.items)
all_printed_so failed o told names texts answers (Ok x) r p same all =
    all_printed failed o told names texts answers x.0 x.1.items r p same all
all_printed_so failed o told names texts answers (Err e) r p same all = tt

-- what is printed of names that are told so is printed of names that are told as before
batch_along : (o : Options) (told other : Told) → ((n : Bytes) → told n ≡ other n)
    → (names : List Bytes) (s : Status) (lines : Bytes) → IsBatch o told names s lines
    → IsBatch o other names s lines
batch_along o told other same [] s lines p = p
batch_along o told other same (n ∷ names) s lines (t, u, own, later, (text, is, p), b, e, l) = (
  t,
  u,
  own,
  later,
  (text, subst (λ k. IsTold k text) (same n) is, p),
  batch_along o told other same names u later b,
  e,
  l,
)

scripts_along : (failed again : Type 0) → (failed → again) → (o : Options) (told other : Told)
    → ((n : Bytes) → told n ≡ other n) → (names : List Bytes) (s : Status) (lines : Bytes)
    → ScriptsPrint failed o told names s lines → ScriptsPrint again o other names s lines
scripts_along failed again f o told other same names status.ReadFault lines (name, i, x, e) =
    (name, i, f x, e)
scripts_along failed again f o told other same names s lines b =
    batch_along o told other same names s lines b

-- ---- of the list
-- what is read of a list isn't long
pub short_text : (known : Option Bytes) (text : Bytes) → IsText 65540 known text
    → length text ≤ 65540
short_text None text is = is
short_text (Some all) text is =
    let front : length (take 65540 all) ≤ 65540 = omega (arith, length-take 65540 all) in
    subst (λ t. length t ≤ 65540) (sym is) front

-- a list without a fault was read whole
told_whole : FaultlessAreWhole → (known : Option Bytes) (text : Bytes) → IsText 65540 known text
    → IsFaultOf text None → IsTold known text
told_whole whole None text is none = tt
told_whole whole (Some all) text is none =
    is ∙ whole all (subst (λ t. IsFaultOf t None) is none)

-- the fault of what was read is that of the list
told_fault : FrontsDecide → (known : Option Bytes) (text : Bytes) → IsText 65540 known text
    → (f : ListFault) → IsFaultOf text (Some f)
    → (t : Bytes) × IsTold known t × IsFaultOf t (Some f)
told_fault fronts None text is f h = (text, tt, h)
told_fault fronts (Some all) text is f h =
    (all, refl, fronts all (Some f) (subst (λ t. IsFaultOf t (Some f)) is h))

module _ (failed : Type 0) (a : AskedBatch) (told : Told) (text : Bytes)
    (is : IsText 65540 (told a.list) text) where
  pub fault_printed : FrontsDecide → (f : ListFault) (lines : Bytes) → IsFaultOf text (Some f)
      → lines ≡ list_fault_line f → Prints failed a told status.List lines
  fault_printed fronts f lines h e =
      let (t, known, g) = told_fault fronts (told a.list) text is f h in (t, known, (f, g, e))

  pub list_printed : FaultlessAreWhole → IsFaultOf text None → (s : Status) (lines : Bytes)
      → ScriptsPrint failed (options_of a) told (lines_of text) s lines
      → Prints failed a told s lines
  list_printed whole none status.ReadFault lines (name, there, f, e) =
      (name, inr (text, told_whole whole (told a.list) text is none, (none, there)), f, e)
  list_printed whole none status.List lines b =
      absurd
      ((batch_of_scripts (options_of a) told (lines_of text) status.List lines b).is_list refl)
  list_printed whole none _ lines b = (text, told_whole whole (told a.list) text is none, (none, b))

-- of the scripts of a list, which are read behind it
pub scripts_printed : {E : Type 0} (a : AskedBatch) (told : Told) (text : Bytes)
    → IsText 65540 (told a.list) text → FaultlessAreWhole → IsFaultOf text None
    → (names : List Bytes) → names ≡ lines_of text → (behind : Told)
    → ((n : Bytes) → behind n ≡ told n) → (before middle after : ℕ) → before ≤ middle
    → (o : Options) → o ≡ options_of a → (result : Result (Status × Vec ℕ Global) E)
    → IfOk result (λ r. ScriptsPrint (Rose middle after) o behind names r.0 r.1.items)
    → IfOk result (λ r. Prints (Rose before after) a told r.0 r.1.items)
scripts_printed a told text is whole none names all behind same before middle after later o how
    (Ok x) p =
    list_printed (Rose before after) a told text is whole none x.0 x.1.items
    (scripts_along (Rose middle after) (Rose before after) (rose_later before middle after later)
    (options_of a) behind told same (lines_of text) x.0 x.1.items
    (subst (λ w. ScriptsPrint (Rose middle after) w behind (lines_of text) x.0 x.1.items) how
    (subst (λ ns. ScriptsPrint (Rose middle after) o behind ns x.0 x.1.items) all p)))
scripts_printed a told text is whole none names all behind same before middle after later o how
    (Err e) p = tt
