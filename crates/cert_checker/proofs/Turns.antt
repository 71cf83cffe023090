-- One turn of checking after the other.
use Rattle.std.proofs.Common.{◌≡◌, ◌≤◌, ◌<◌, ◌+◌, ◌-◌, ◌^◌, ℕ, Bool, true, false, List, [], ◌∷◌}
use Rattle.std.proofs.Common.{length, Option, Some, None, Err, refl, sym, ap, subst, ◌∙◌, arith}
use Rattle.std.specs.Prelude.{IsErrOf}
use Rattle.std.proofs.lemmas.List.{length-map}
use Rattle.fx_model.specs.Expression.{Assignment, IsOrdered}
use Rattle.goals.specs.declared.line.Line.{Line}
use Rattle.cert_bytes.specs.declared.fault.CertFault.{CertFault}
use Rattle.cert_bytes.specs.declared.item.Item.{Item}
use Rattle.cert_bytes.specs.declared.item.Item.TheVariants as item
use Rattle.cert_bytes.specs.declared.order.DueItem.{DueItem}
use Rattle.cert_bytes.specs.declared.order.DueItem.TheVariants.{Head, Done}
use Rattle.cert_bytes.specs.Due.{due_behind, is_end, is_due}
use Rattle.cert_bytes.specs.Pieces.{cursor_of}
use Rattle.cert_bytes.specs.Readers.{Progress}
use Rattle.cert_bytes.proofs.Next.{due_has_next, done_by_end, end_is_last}
use Rattle.cert_checker.specs.declared.fault.CheckFault.{CheckFault}
use Rattle.cert_checker.specs.declared.fault.CheckStop.{CheckStop}
use Rattle.cert_checker.specs.declared.fault.CheckStop.TheVariants.{Cert, Check, Failed}
use Rattle.cert_checker.specs.declared.fault.CheckStop.TheVariants.{OutOfMemory}
use Rattle.cert_checker.specs.declared.lines.Lines.{Lines}
use Rattle.cert_checker.specs.declared.subject.Subject.{Subject}
use Rattle.cert_checker.specs.Contexts.{Context, first}
use Rattle.cert_checker.specs.Faults.{JudgesItem}
use Rattle.cert_checker.specs.declared.open.Citable.{Citable}
use Rattle.cert_checker.specs.After.{after, lines_with}
use Rattle.cert_checker.specs.Standing.{Standing, begun, HasRoom}
use Rattle.cert_checker.specs.Accepted.{LeadsTo, AreInOrder}
use Rattle.cert_checker.specs.Met.{NamesNodes, Meets, LinesHold, InOrderHolds}
use Rattle.cert_checker.specs.Outcomes.{Outcome, accepted, unread, refused, Comes, ComesOf}
use Rattle.cert_checker.specs.Checking.{IsFresh, ShowsLines, Checks, TakesNext, Refuses, IsUnread}

-- ---- what an item makes of a context
next_of : (c : Context) (i : Item) → (after c i).next ≤ c.next + 1
next_of c (item.Step r) = omega arith
next_of c (item.Nodes n) = omega arith
next_of c (item.Node n) = omega arith
next_of c (item.Marks n) = omega arith
next_of c (item.Mark m) = omega arith
next_of c (item.Cases n) = omega arith
next_of c (item.Cut x ps) = omega arith
next_of c (item.Leaf refs) = omega arith
next_of c (item.Dead r) = omega arith
next_of c item.End = omega arith

section_of : (c : Context) (i : Item) → (after c i).section ≤ c.section + 1
section_of c (item.Step r) = omega arith
section_of c (item.Nodes n) = omega arith
section_of c (item.Node n) = omega arith
section_of c (item.Marks n) = omega arith
section_of c (item.Mark m) = omega arith
section_of c (item.Cases n) = omega arith
section_of c (item.Cut x ps) = omega arith
section_of c (item.Leaf refs) = omega arith
section_of c (item.Dead r) = omega arith
section_of c item.End = omega arith

as_many_with : (steps : List Citable) (lines : List Line) (refs : List ℕ)
    → length (lines_with steps lines refs) ≡ length lines
as_many_with steps [] refs = refl
as_many_with steps (l ∷ lines) [] = refl
as_many_with steps (l ∷ lines) (r ∷ refs) = omega (arith, as_many_with steps lines refs)

as_many : (c : Context) (i : Item) → length (after c i).lines ≡ length c.lines
as_many c (item.Leaf refs) = as_many_with c.steps c.lines refs
as_many c (item.Step r) = refl
as_many c (item.Nodes n) = refl
as_many c (item.Node n) = refl
as_many c (item.Marks n) = refl
as_many c (item.Mark m) = refl
as_many c (item.Cases n) = refl
as_many c (item.Cut x ps) = refl
as_many c (item.Dead r) = refl
as_many c item.End = refl

not_end : (i : Item) → is_end i ≡ false → ¬ (i ≡ item.End)
not_end i e f = let g : is_end i ≡ true = ap is_end f in let h : true ≡ false = sym g ∙ e in cc

the_end : (i : Item) → is_end i ≡ true → i ≡ item.End
the_end item.End e = refl
the_end (item.Step r) e = cc
the_end (item.Nodes n) e = cc
the_end (item.Node n) e = cc
the_end (item.Marks n) e = cc
the_end (item.Mark m) e = cc
the_end (item.Cases n) e = cc
the_end (item.Cut x ps) e = cc
the_end (item.Leaf refs) e = cc
the_end (item.Dead r) e = cc

-- ---- checking as far as it has come

-- items in order that lead to the context from before the first
pub record WasLed (s : Subject) (end : Context) : Type 0 where
  pub items : List Item
  pub order : AreInOrder (Some Head) items
  pub leads : LeadsTo s (first s) items end

-- items that lead on from here are the rest of some that lead there from before the first
abbrev pub LeadsOn : Subject → Standing → Progress → Type 0
LeadsOn s c r = (items : List Item) (end : Context) → AreInOrder (Some r.due) items
    → LeadsTo s c.context items end → WasLed s end

-- what comes of the rest of the bytes comes of all
abbrev pub Reaches : Subject → List ℕ → Progress → Standing → Progress → Type 0
Reaches s all start c r = (items : List Item) (o : Outcome)
    → Comes s r.due (cursor_of all r.ahead) c.context items o
    → ComesOf s (cursor_of all start.ahead) o

-- numbers are bounded by the offset
pub record IsFew (c : Standing) (r : Progress) : Type 0 where
  pub steps : c.context.next ≤ r.ahead.at
  pub sections : c.context.section ≤ r.ahead.at

-- What is kept whatever the bytes are. Nothing is due exactly behind the end.
pub record IsSteady (s : Subject) (c : Standing) (r : Progress) : Type 0 where
  pub subject : c.subject ≡ s
  pub sound : c.fault ≡ None
  pub reads : r.fault ≡ None
  pub few : c.context.ended ≡ false → IsFew c r
  pub ended : c.context.ended ≡ true → r.due ≡ Done
  pub going : c.context.ended ≡ false → ¬ (r.due ≡ Done)
  pub leads : LeadsOn s c r
  -- a line for each goal
  pub count : length c.context.lines ≡ length s.goals

pub steady_first : (s : Subject) (r : Progress) → IsFresh r → IsSteady s (begun s) r
steady_first s r f = record {
  subject = refl;
  sound = refl;
  reads = f.fault;
  few = λ e. record { steps = omega arith; sections = omega arith };
  ended = λ e. cc;
  going = λ e d. let q : Head ≡ Done = sym f.due ∙ d in cc;
  leads = λ items end o l. record {
    items = items;
    order = subst (λ (d : DueItem). AreInOrder (Some d) items) f.due o;
    leads = l;
  };
  count = simp length-map;
}

pub reaches_first : (s : Subject) (all : List ℕ) (r : Progress) → IsFresh r
    → Reaches s all r (begun s) r
reaches_first s all r f = λ items o h.
    (items, subst (λ (d : DueItem). Comes s d (cursor_of all r.ahead) (first s) items o) f.due h)

module _ (s : Subject) (told : Option (List ℕ)) (c d : Standing) (r q : Progress)
    (same : c.subject ≡ s) (t : TakesNext told c d r q) where
  context_is : d.context ≡ after c.context t.item
  context_is = ap (λ (x : Standing). x.context) t.taken

  ended_is : d.context.ended ≡ is_end t.item
  ended_is = ap (λ (x : Context). x.ended) context_is

  judged : JudgesItem s c.context t.item None
  judged = subst (λ (x : Subject). JudgesItem x c.context t.item None) same t.judged

  pub steady_on : c.context.ended ≡ false → IsSteady s c r → IsSteady s d q
  steady_on open_on w = record {
    subject = ap (λ (x : Standing). x.subject) t.taken ∙ same;
    sound = ap (λ (x : Standing). x.fault) t.taken ∙ w.sound;
    reads = t.reads;
    few = λ e.
        let few = w.few open_on in
        let a = few.steps in
        let b = few.sections in
        let m = t.moves (not_end t.item (sym ended_is ∙ e)) in
        let x = next_of c.context t.item in
        let y = section_of c.context t.item in
        let n = ap (λ (x : Context). x.next) context_is in
        let p = ap (λ (x : Context). x.section) context_is in
        record { steps = omega (arith, a, m, x, n); sections = omega (arith, b, m, y, p) };
    ended = λ e.
        let last : t.item ≡ item.End = the_end t.item (sym ended_is ∙ e) in
        t.due ∙ ap (due_behind r.due) last
        ∙ end_is_last r.due (due_behind r.due item.End) (due_has_next r.due item.End
        (w.going open_on) (subst (λ (i : Item). is_due r.due i ≡ true) last t.order));
    going = λ e f. not_end t.item (sym ended_is ∙ e)
        (done_by_end r.due t.item
        (due_has_next r.due t.item (w.going open_on) t.order ∙ ap Some (sym t.due ∙ f)));
    leads = λ items end o l.
        let P : Option DueItem → Type 0 = λ x. AreInOrder x items in
        let Q : DueItem → Type 0 = λ x. AreInOrder (Some x) items in
        let R : Context → Type 0 = λ x. LeadsTo s x items end in
        w.leads (t.item ∷ items) end
        (subst P (sym (due_has_next r.due t.item (w.going open_on) t.order)) (subst Q t.due o))
        (judged, subst R context_is l);
    count = ap (λ (x : Context). length x.lines) context_is ∙ as_many c.context t.item ∙ w.count;
  }

  pub reaches_on : (all : List ℕ) (start : Progress) → told ≡ Some all → c.context.ended ≡ false
      → IsSteady s c r → Reaches s all start c r → Reaches s all start d q
  reaches_on all start is open_on w reaches = λ items o h.
      let P : DueItem → Type 0 = λ x. Comes s x (cursor_of all q.ahead) d.context items o in
      let Q : Context → Type 0 =
      λ x. Comes s (due_behind r.due t.item) (cursor_of all q.ahead) x items o in
      reaches (t.item ∷ items) o (
        w.going open_on,
        (cursor_of all q.ahead, t.read all is, judged, subst Q context_is (subst P t.due h)),
      )

pub stops : (s : Subject) (all : List ℕ) (start : Progress) (c : Standing) (r : Progress)
    (e : CheckStop) → c.subject ≡ s → Reaches s all start c r → ((f : CertFault) → e ≡ Cert f
    → IsUnread all r f) → ((f : CheckFault) → e ≡ Check f → Refuses all c r f)
    → Checks s (cursor_of all start.ahead) (Err e)
stops s all start c r (Cert f) same reaches bytes items = reaches [] (unread f) (bytes f refl)
stops s all start c r (Check f) same reaches bytes items =
    let x = items f refl in
    reaches [] (refused f) (
      x.item,
      x.behind,
      x.read,
      subst (λ (y : Subject). JudgesItem y c.context x.item (Some f)) same x.judged,
    )
stops s all start c r Failed same reaches bytes items = tt
stops s all start c r OutOfMemory same reaches bytes items = tt

module _ (s : Subject) (c : Standing)
    (r : Progress) (ended : c.context.ended ≡ true) (w : IsSteady s c r) (lines : Lines)
    (is : lines ≡ record { rows = c.context.lines; marks = c.subject.marks }) where
  pub shows : (all : List ℕ) (start : Progress) → Reaches s all start c r
      → ShowsLines s (cursor_of all start.ahead) lines
  shows all start reaches = record {
    end = c.context;
    comes = reaches [] (accepted c.context) (w.ended ended, refl);
    rows = ap (λ (x : Lines). x.rows) is;
    marks = ap (λ (x : Lines). x.marks) is ∙ ap (λ (x : Subject). x.marks) w.subject;
  }

  pub counts : length lines.rows ≡ length s.goals
  counts = ap (λ (x : Lines). length x.rows) is ∙ w.count

  pub marks_are : lines.marks ≡ s.marks
  marks_are = ap (λ (x : Lines). x.marks) is ∙ ap (λ (x : Subject). x.marks) w.subject

  -- what is shown holds, whatever the bytes are
  pub shown_holds : InOrderHolds → IsOrdered s.nodes → NamesNodes s → (a : Assignment) → Meets s a
      → LinesHold s.nodes a s.goals lines.rows
  shown_holds holds ordered names a meets =
      let led = w.leads [] c.context (w.ended ended) refl in
      let P : List Line → Type 0 = λ rows. LinesHold s.nodes a s.goals rows in
      subst P (sym (ap (λ (x : Lines). x.rows) is))
      (holds s led.items c.context ordered names led.order led.leads a meets)

pub has_room : (s : Subject) (c : Standing) (r : Progress) → c.context.ended ≡ false
    → IsSteady s c r → r.ahead.at ≤ 2 ^ 44 → HasRoom c
has_room s c r open_on w l = let few = w.few open_on in let a = few.steps in let b = few.sections in
    record { steps = omega (arith, a, l); sections = omega (arith, b, l) }

-- what is left to read, and one turn more while the end wasn't taken
abbrev pub turns_left : Bool → ℕ → ℕ
turns_left true at = 17592186044416 - at
turns_left false at = (17592186044416 - at) + 1

turned_on : (b : Bool) (at next : ℕ) → (b ≡ false → at < next) → at ≤ next → next ≤ 17592186044416
    → turns_left b next < turns_left false at
turned_on true at next m g l = omega (arith, g, l)
turned_on false at next m g l = let n = m refl in omega (arith, n, l)

pub fewer_turns : (told : Option (List ℕ)) (c d : Standing) (r q : Progress)
    → c.context.ended ≡ false → TakesNext told c d r q → q.ahead.at ≤ 2 ^ 44
    → turns_left d.context.ended q.ahead.at < turns_left c.context.ended r.ahead.at
fewer_turns told c d r q open_on t l =
    let P : Bool → Type 0 = λ b. turns_left d.context.ended q.ahead.at < turns_left b r.ahead.at in
    let ends : d.context.ended ≡ is_end t.item = ap (λ (x : Standing). x.context.ended) t.taken in
    subst P (sym open_on) (turned_on d.context.ended r.ahead.at q.ahead.at
    (λ e. t.moves (not_end t.item (sym ends ∙ e))) t.grows l)

-- a stop that is handed on is that stop
pub failed_so : {X Y : Type 0} (e : CheckStop)
    → IsErrOf {T = Y} {E = CheckStop} (Err e) Failed
    → IsErrOf {T = X} {E = CheckStop} (Err e) Failed
failed_so e h = let same : e ≡ Failed = cc in ap Err same
