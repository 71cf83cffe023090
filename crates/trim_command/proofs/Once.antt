-- One answer comes of a text and a told certificate, and one that is accepted is trimmed.
use Rattle.std.specs.Prelude.{◌≡◌, ◌≤◌, List, [], ◌∷◌, length, Option, Some, Ok}
use Rattle.std.proofs.Common.{◌∙◌, ap, sym, subst, refl, inl, inr, arith}
use Rattle.goals.specs.declared.line.Line.{Line}
use Rattle.script_grammar.specs.Spells.{View, Spells, SpellsOnce, NeverBoth}
use Rattle.cert_bytes.specs.declared.item.Item.{Item}
use Rattle.cert_bytes.specs.declared.order.DueItem.{DueItem}
use Rattle.cert_bytes.specs.declared.order.DueItem.TheVariants.{Head}
use Rattle.cert_bytes.specs.declared.style.Style.TheVariants.{First}
use Rattle.cert_bytes.specs.Certificates.{SpellsCertificate, SpellsOnce as SpelledOnce}
use Rattle.cert_bytes.specs.Due.{due_behind}
use Rattle.cert_bytes.specs.ReadOut.{AreBytes, AreRead, SpelledAreRead}
use Rattle.cert_bytes.specs.Reading.{Cursor, cursor}
use Rattle.cert_checker.specs.declared.subject.Subject.{Subject}
use Rattle.cert_checker.specs.Accepted.{Accepts}
use Rattle.cert_checker.specs.Contexts.{Context}
use Rattle.cert_checker.specs.Outcomes.{accepted, unread, refused, SpelledAreAccepted}
use Rattle.script_checker.specs.Checking.{AreAcceptedFor, ChecksAreOne, ComesFor}
use Rattle.script_checker.specs.Subjects.{IsSubjectOf}
use Rattle.cert_trim.specs.Law.{AcceptsTrimmed, AllLeftAreUsed}
use Rattle.command_runs.specs.Runs.{Bytes}
use Rattle.command_runs.specs.Fates.{Left, WhereTold}
use Rattle.command_runs.specs.Fates.Left.{Kept, Whole}
use Rattle.command_runs.specs.declared.status.Status.{Status}
use Rattle.command_runs.specs.declared.status.Status.TheVariants as status
use Rattle.check_command.specs.Checked.{CheckPrints, IsFaulty}
use Rattle.check_command.specs.Laws.{CheckAnswersAreOne, IsCertTold}
use Rattle.trim_command.specs.Laws.{TrimAnswersAreOne, AcceptableAreTrimmed}
use Rattle.trim_command.specs.Trimmed.{AreTrimmable, IsTrimmed, IsTooLong, IsNotAccepted}
use Rattle.trim_command.specs.Trimmed.{TrimPrints, line_of, new_bytes}
use Rattle.trim_command.proofs.Trimmable.{accepted_new}

-- ---- items that are read
-- those that are read to the end are one list
pub one_reading : (d : DueItem) (c : Cursor) (items others : List Item)
    → AreRead d c items → AreRead d c others → items ≡ others
one_reading d c [] [] p q = refl
one_reading d c [] (j ∷ others) p (next, is, going, q) = absurd (going p)
one_reading d c (i ∷ items) [] (next, is, going, p) q = absurd (going q)
one_reading d c (i ∷ items) (j ∷ others) (next, is, going, p) (later, too, goes, q) =
    let both : Ok (i, next) ≡ Ok (j, later) = sym is ∙ too in
    let pair : ◌≡◌ {A = Item × Cursor} (i, next) (j, later) = cc both in
    let one : i ≡ j = ap (λ (p : Item × Cursor). p.0) pair in
    let where_ : next ≡ later = ap (λ (p : Item × Cursor). p.1) pair in
    let rest : items ≡ others = one_reading (due_behind d i) next items others p
    (subst (λ (x : Item). AreRead (due_behind d x) next others) (sym one)
    (subst (λ (x : Cursor). AreRead (due_behind d j) x others) (sym where_) q)) in
    ap (λ x. x ∷ items) one ∙ ap (λ xs. j ∷ xs) rest

-- ---- one answer
abbrev Twice : Status → Status → Bytes → Bytes → Left → Left → Type 0
Twice s t lines others left rest = (s ≡ t) × (lines ≡ others) × (left ≡ rest)

module _ (once : SpellsOnce) (both : NeverBoth) (checks : ChecksAreOne)
    (answers : CheckAnswersAreOne) (text : Bytes) (cert : Option Bytes)
    (tells : IsCertTold text cert) where
  -- a certificate that is accepted has no fault
  not_faulty : (s : View) (all lines : Bytes) (end : Context) → cert ≡ Some all
      → ComesFor s (cursor First all 0) (accepted end) → ¬ IsFaulty s cert lines
  not_faulty s all lines end e comes (inl (f, fails, is)) =
      let same : accepted end ≡ unread f =
      checks s (cursor First all 0) (accepted end) (unread f) comes (fails all e) in cc same
  not_faulty s all lines end e comes (inr (f, fails, is)) =
      let same : accepted end ≡ refused f =
      checks s (cursor First all 0) (accepted end) (refused f) comes (fails all e) in cc same

  no_fault : (s : View) (items : List Item) (lines : Bytes) → Spells text s
      → AreTrimmable s cert items → ¬ IsNotAccepted text cert lines
  no_fault s items lines p a (u, spelled, fault) =
      let all = tells s p in
      let comes = a.comes all.0 all.1 in
      not_faulty s all.0 lines comes.0 all.1 comes.1
      (subst (λ (v : View). IsFaulty v cert lines) (once text u s spelled p) fault)

  -- its items are one
  same_items : (s u : View) (items others : List Item) → Spells text s → AreTrimmable s cert items
      → AreTrimmable u cert others → items ≡ others
  same_items s u items others p a b =
      let all = tells s p in
      one_reading Head (cursor First all.0 0) items others (a.read all.0 all.1) (b.read all.0 all.1)

  -- nor is it too long, where it isn't
  not_long : (lines others : Bytes) (left : Left) → IsTrimmed text cert lines left
      → ¬ IsTooLong text cert others
  not_long lines others left p q =
      let items : p.items ≡ q.items =
      same_items p.script q.script p.items q.items p.spelled p.trimmable q.trimmable in
      let same = ap (λ (xs : List Item). length (new_bytes xs)) items in
      let short = p.short in
      let long = q.long in
      omega (arith, same, short, long)

  both_trimmed : (lines others : Bytes) (left rest : Left) → IsTrimmed text cert lines left
      → IsTrimmed text cert others rest
      → Twice status.Answered status.Answered lines others left rest
  both_trimmed lines others left rest p q =
      let items : p.items ≡ q.items =
      same_items p.script q.script p.items q.items p.spelled p.trimmable q.trimmable in (
        refl,
        p.printed ∙ ap line_of items ∙ sym q.printed,
        p.written ∙ ap (λ (xs : List Item). Whole (Some (new_bytes xs))) items ∙ sym q.written,
      )

  -- where nothing is written, the line is one that `check` has
  both_kept : (s : Status) (lines others : Bytes) (left rest : Left) → CheckPrints text cert s lines
      → CheckPrints text cert s others → left ≡ Kept → rest ≡ Kept
      → Twice s s lines others left rest
  both_kept s lines others left rest p q k m =
      let one = answers text cert tells s s lines others p q in (refl, one.1, k ∙ sym m)

  one_answer : (s t : Status) (lines others : Bytes) (left rest : Left)
      → TrimPrints text cert s lines left → TrimPrints text cert t others rest
      → Twice s t lines others left rest
  one_answer status.Answered status.Answered lines others left rest p q =
      both_trimmed lines others left rest p q
  one_answer status.Answered status.Certificate lines others left rest p (inl q, k) =
      absurd (no_fault p.script p.items others p.spelled p.trimmable q)
  one_answer status.Answered status.Certificate lines others left rest p (inr q, k) =
      absurd (not_long lines others left p q)
  one_answer status.Answered status.Script lines others left rest p ((f, q, e), k) =
      absurd (both text p.script f p.spelled q)
  one_answer status.Certificate status.Answered lines others left rest (inl p, k) q =
      absurd (no_fault q.script q.items lines q.spelled q.trimmable p)
  one_answer status.Certificate status.Answered lines others left rest (inr p, k) q =
      absurd (not_long others lines rest q p)
  one_answer status.Certificate status.Certificate lines others left rest (inl p, k) (inl q, m) =
      both_kept status.Certificate lines others left rest p q k m
  one_answer status.Certificate status.Certificate lines others left rest (inl p, k) (inr q, m) =
      absurd (no_fault q.script q.items lines q.spelled q.trimmable p)
  one_answer status.Certificate status.Certificate lines others left rest (inr p, k) (inl q, m) =
      absurd (no_fault p.script p.items others p.spelled p.trimmable q)
  one_answer status.Certificate status.Certificate lines others left rest (inr p, k) (inr q, m) =
      (refl, p.printed ∙ sym q.printed, k ∙ sym m)
  one_answer status.Certificate status.Script lines others left rest (inl (u, p, is), k)
      ((f, q, e), m) =
      absurd (both text u f p q)
  one_answer status.Certificate status.Script lines others left rest (inr p, k) ((f, q, e), m) =
      absurd (both text p.script f p.spelled q)
  one_answer status.Script status.Answered lines others left rest ((f, p, e), k) q =
      absurd (both text q.script f q.spelled p)
  one_answer status.Script status.Certificate lines others left rest ((f, p, e), k)
      (inl (u, q, is), m) =
      absurd (both text u f q p)
  one_answer status.Script status.Certificate lines others left rest ((f, p, e), k) (inr q, m) =
      absurd (both text q.script f q.spelled p)
  one_answer status.Script status.Script lines others left rest (p, k) (q, m) =
      both_kept status.Script lines others left rest p q k m
  one_answer status.Answered _ lines others left rest p q = absurd q
  one_answer status.Certificate _ lines others left rest p q = absurd q
  one_answer status.Script _ lines others left rest p q = absurd q
  one_answer _ t lines others left rest p q = absurd p

pub answers_are_one : SpellsOnce → NeverBoth → ChecksAreOne → CheckAnswersAreOne
    → TrimAnswersAreOne
answers_are_one once both checks answers text cert tells =
    one_answer once both checks answers text cert tells

-- ---- a certificate that is accepted
where_told : (all : Bytes) (P : Bytes → Type 0) → P all → WhereTold (Some all) P
where_told all P h other e = let same : all ≡ other = cc e in subst P same h

module _ (spelled_once : SpelledOnce) (come : SpelledAreAccepted) (read : SpelledAreRead)
    (law : AcceptsTrimmed) (used : AllLeftAreUsed) where
  accepted_trimmable : (s : View) (t : Subject) (all : Bytes) (items : List Item)
      (shown : List Line) → length all ≤ 17592186044416 → IsSubjectOf s t
      → SpellsCertificate all items → Accepts t items shown → AreTrimmable s (Some all) items
  accepted_trimmable s t all items shown short is spelled accepts =
      let there = come t all items shown short spelled accepts in
      record {
        shown = shown;
        whole = (t, is, accepts, law t items shown accepts);
        comes = where_told all (λ b. (end : Context)
            × ComesFor s (cursor First b 0) (accepted end) × (shown ≡ end.lines))
            (there.0, (t, is, there.1), sym there.2);
        read = where_told all (λ b. AreRead Head (cursor First b 0) items)
            (read all items short spelled);
        spelled = where_told all (λ b. AreBytes b
            → SpellsCertificate b items × AreAcceptedFor s b shown) (λ bytes. (
              spelled,
              record {
                subject = t;
                is = is;
                accepted = record { items = items; spelled = spelled; accepts = accepts };
              },
            ));
        kept = accepted_new s t _ shown is (law t items shown accepts);
        used = used t items accepts.end accepts.leads;
      }

  pub acceptable_trimmed : AcceptableAreTrimmed
  acceptable_trimmed text all items p spelled short =
      let h = p.accepted in
      let same : h.accepted.items ≡ items =
      (spelled_once all h.accepted.spelled.style spelled.style h.accepted.items items
      h.accepted.spelled.spells spelled.spells).1 in
      record {
        script = p.script;
        items = items;
        spelled = p.spelled;
        trimmable = accepted_trimmable p.script h.subject all items p.shown p.short h.is spelled
            (subst (λ xs. Accepts h.subject xs p.shown) same h.accepted.accepts);
        short = short;
        printed = refl;
        written = refl;
      }
