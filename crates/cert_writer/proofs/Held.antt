-- What the file holds behind each call.
use Rattle.std.specs.Prelude.{◌≡◌, ◌⊎◌, ℕ, List, [], ◌∷◌, ◌++◌, drop, length, Option, Some, None}
use Rattle.std.specs.Prelude.{refl}
use Rattle.std.specs.Io.KnownBytes.{Appends}
use Rattle.std.proofs.Common.{sym, ◌∙◌, ap, subst, append-nil, inl, inr}
use Rattle.fx_model.specs.declared.Node.{Node}
use Rattle.fx_edge.specs.Outside.{Empties}
use Rattle.facts.specs.declared.hint.HintMark.{HintMark}
use Rattle.script_grammar.specs.Cases.{cases_of}
use Rattle.script_grammar.specs.Spells.{View}
use Rattle.cert_bytes.specs.declared.item.Item.{Item}
use Rattle.cert_bytes.specs.declared.item.Item.TheVariants as item
use Rattle.cert_bytes.specs.declared.style.Seen.{Seen}
use Rattle.cert_bytes.specs.declared.style.Style.TheVariants.{Second}
use Rattle.cert_bytes.specs.Certificates.{SpellsAs}
use Rattle.cert_bytes.specs.Styles.{none_seen, seen_in}
use Rattle.cert_bytes.specs.Spelling.{spelling_of, spelled_behind, certificate_of}
use Rattle.cert_bytes.proofs.Spelling.{spelled_both}
use Rattle.cert_checker.specs.Accepted.{Accepts}
use Rattle.script_checker.specs.Subjects.{IsSubjectOf}
use Rattle.whole_texts.specs.Pieces.{AppendsFront}
use Rattle.cert_writer.specs.Heads.{head_items}
use Rattle.cert_writer.specs.Standing.{Aim, IsWhole, IsBegun}
use Rattle.cert_writer.specs.Courses.{Grew, GrewToFront}
use Rattle.cert_writer.specs.Cases.{Task, whole_aim, StandsBefore, GrewFront, IsCompleted}
use Rattle.cert_writer.specs.Laws.{WritingGoesOn}
use Rattle.cert_writer.specs.Written.{AreWrittenFor, IsAcceptedFront, HoldsCertificate, HoldsFront}
use Rattle.cert_writer.proofs.NextCase.{stands_begun}
use Rattle.cert_writer.proofs.Start.{head_of}
use Rattle.cert_writer.proofs.Turn.{begun_front, begun_later, begun_still, grew_both}

-- The bytes spell a certificate that is accepted with the lines.
abbrev IsSpelledFor : Aim → List ℕ → Type 0
IsSpelledFor t bytes = (items : List Item)
    × Accepts t.target.subject items t.lines × (bytes ≡ certificate_of items)

-- ---- what the file holds
-- The file was made new and took the head.
pub headed : (old fresh mid : Option (List ℕ)) (bytes : List ℕ) → Empties old fresh
    → Appends fresh mid bytes → (before : List ℕ) → old ≡ Some before → mid ≡ Some bytes
headed None fresh mid bytes e a before o = cc
headed (Some x) None mid bytes e a before o = cc
headed (Some x) (Some y) None bytes e a before o = absurd a
headed (Some x) (Some y) (Some z) bytes e a before o = let n : y ≡ [] = some_is y [] e in
    ap Some (a ∙ ap (λ l. l ++ bytes) n)
  where
    some_is : (a b : List ℕ) → Some a ≡ Some b → a ≡ b
    some_is a b e = cc

accepted_whole : (s : View) (t : Aim) (bytes : List ℕ) → IsSubjectOf s t.target.subject
    → IsSpelledFor t bytes → AreWrittenFor s bytes t.lines
accepted_whole s t bytes is w =
    let second : SpellsAs (Second none_seen) bytes w.0 = record {
      opens = refl;
      certificate = w.1.certificate;
      spelled = w.2;
    } in
    record {
      accepted = record {
        subject = t.target.subject;
        is = is;
        accepted = record {
          items = w.0;
          spelled = record { style = Second none_seen; spells = second };
          accepts = w.1;
        };
      };
      spells = second;
    }

accepted_front : (s : View) (t : Aim) (bytes : List ℕ) → IsSubjectOf s t.target.subject
    → IsBegun t bytes → IsAcceptedFront s t.lines bytes
accepted_front s t bytes is b = (
  certificate_of b.0,
  accepted_whole s t (certificate_of b.0) is (b.0, b.1, refl),
  b.2,
)

appended : (a b : Option (List ℕ)) (x bytes : List ℕ) → a ≡ Some x → Appends a b bytes
    → b ≡ Some (x ++ bytes)
appended None b x bytes e h = cc
appended (Some y) None x bytes e h = absurd h
appended (Some y) (Some z) x bytes e h = let n : y ≡ x = some_is y x e in
    ap Some (h ∙ ap (λ l. l ++ bytes) n)
  where
    some_is : (a b : List ℕ) → Some a ≡ Some b → a ≡ b
    some_is a b e = cc

-- Behind the root's section it holds the whole.
pub holds_whole : (s : View) (t : Aim) (old mid new : Option (List ℕ)) (before more : List Item)
    (items : List Item) → IsSubjectOf s t.target.subject
    → ((x : List ℕ) → old ≡ Some x → mid ≡ Some (certificate_of before)) →
    items ≡ before ++ more → Appends mid new (spelled_behind (seen_in before) more)
    → IsWhole t (certificate_of items) → HoldsCertificate s t.lines old new
holds_whole s t None mid new before more items is h e a w = tt
holds_whole s t (Some x) mid new before more items is h e a w =
    let bytes : List ℕ = spelled_behind (seen_in before) more in
    let n : new ≡ Some (certificate_of before ++ bytes) =
    appended mid new (certificate_of before) bytes (h x refl) a in
    let same : certificate_of items ≡ certificate_of before ++ bytes =
    ap certificate_of e ∙ spelled_both none_seen before more in (
      certificate_of items,
      n ∙ ap Some (sym same),
      accepted_whole s t (certificate_of items) is (w.0, w.1, w.2),
      w.3,
    )

-- Behind a stop it holds a front.
pub holds_front : (s : View) (t : Aim) (old mid new : Option (List ℕ)) (before : List Item)
    → IsSubjectOf s t.target.subject → ((x : List ℕ) → old ≡ Some x
    → mid ≡ Some (certificate_of before)) →
    GrewToFront t before mid new → HoldsFront s t.lines old new
holds_front s t None mid new before is h g = tt
holds_front s t (Some x) mid new before is h g =
    inr (
      certificate_of before ++ g.0,
      appended mid new (certificate_of before) g.0 (h x refl) g.1,
      accepted_front s t (certificate_of before ++ g.0) is g.2,
    )

-- ---- what stands there behind each call
-- Nothing is a front of it.
pub begun_none : (t : Aim) (bytes : List ℕ) → IsBegun t bytes → IsBegun t []
begun_none t bytes b = (b.0, b.1, (certificate_of b.0, refl))

pub emptied : (old fresh : Option (List ℕ)) → Empties old fresh → (x : List ℕ) → old ≡ Some x
    → fresh ≡ Some []
emptied None fresh e x o = cc
emptied (Some y) fresh e x o = e

-- Where it wasn't made new it is as it was, or empty.
pub holds_old : (s : View) (t : Aim) (old new : Option (List ℕ)) → IsSubjectOf s t.target.subject
    → IsBegun t [] → (new ≡ old) ⊎ (new ≡ Some []) → HoldsFront s t.lines old new
holds_old s t None new is b w = tt
holds_old s t (Some x) new is b w = elim w [
  | inl e ↦ inl e
  | inr e ↦ inr
      ([], e, accepted_front s t [] is b)
]

-- what the head's bytes are
pub head_spelled : (w : Task) (nodes : List Node) (marks : List HintMark) (count : ℕ)
    (empty bytes : List ℕ) → empty ≡ [] → nodes ≡ w.world.nodes → marks ≡ w.subject.marks
    → count ≡ length w.subject.cases →
    bytes ≡ empty ++ certificate_of (head_items nodes marks count)
    → bytes ≡ certificate_of (head_of w)
head_spelled w nodes marks count empty bytes e n m k b =
    let u = w.world.nodes in
    b
    ∙ (ap (λ y. y ++ certificate_of (head_items nodes marks count)) e
    ∙ (ap (λ y. certificate_of (head_items y marks count)) n
    ∙ (ap (λ y. certificate_of (head_items u y count)) m
    ∙ ap (λ y. certificate_of (head_items u w.subject.marks y)) k)))

-- what stands behind the last section
end_spelled : (items : List Item) (seen : Seen) → seen_in items ≡ seen
    → spelling_of seen item.End ≡ spelled_behind (seen_in items) (item.End ∷ [])
end_spelled items seen e = ap (λ q. spelling_of q item.End) (sym e)
    ∙ sym (append-nil (spelling_of (seen_in items) item.End))

module _ (go : WritingGoesOn) (s : View) (w : Task) (subject : IsSubjectOf s w.subject)
    (stands : StandsBefore w 0 none_seen (head_of w)) where
  abbrev pub head : List Item
  head = head_of w

  begun : IsBegun (whole_aim w) (certificate_of head)
  begun = stands_begun go w 0 (drop 0 (cases_of w.script)) none_seen head stands

  -- The file couldn't be made new,
  pub not_fresh : (old new : Option (List ℕ)) → (new ≡ old) ⊎ (new ≡ Some [])
      → HoldsFront s w.lines old new
  not_fresh old new h = holds_old s (whole_aim w) old new subject
      (begun_none (whole_aim w) (certificate_of head) begun) h

  -- or nothing was written,
  pub not_headed : (old fresh : Option (List ℕ)) → Empties old fresh
      → HoldsFront s w.lines old fresh
  not_headed old fresh e =
      let aim = whole_aim w in
      holds_front s aim old fresh fresh [] subject (emptied old fresh e)
      (begun_still aim [] fresh fresh (begun_none aim (certificate_of head) begun) refl)

  -- or a front of the head,
  pub half_headed : (old fresh new : Option (List ℕ)) → Empties old fresh
      → AppendsFront fresh new (certificate_of head) → HoldsFront s w.lines old new
  half_headed old fresh new e front = holds_front s (whole_aim w) old fresh new [] subject
      (emptied old fresh e) (begun_front (whole_aim w) [] head head fresh new begun refl front)

  -- or the head with a front of what follows,
  pub broken_off : (old fresh mid new : Option (List ℕ)) → Empties old fresh
      → Appends fresh mid (certificate_of head) → GrewFront w head mid new
      → HoldsFront s w.lines old new
  broken_off old fresh mid new e all g = holds_front s (whole_aim w) old mid new head subject
      (headed old fresh mid (certificate_of head) e all) g

  -- or all sections with a front of what stands behind the last,
  pub not_ended : (old fresh mid all new : Option (List ℕ)) (seen : Seen) → Empties old fresh
      → Appends fresh mid (certificate_of head) → IsCompleted w seen head mid all
      → AppendsFront all new (spelling_of seen item.End) → HoldsFront s w.lines old new
  not_ended old fresh mid all new seen e h (items, grew, whole) front =
      let aim = whole_aim w in
      let ended : List Item = items ++ item.End ∷ [] in
      let is : IsBegun aim (certificate_of ended) = (
        whole.0.0,
        whole.0.1,
        ([], sym whole.0.2 ∙ sym (append-nil (certificate_of ended))),
      ) in
      let last : AppendsFront all new (spelled_behind (seen_in items) (item.End ∷ [])) =
      subst (λ bs. AppendsFront all new bs) (end_spelled items seen whole.1) front in
      broken_off old fresh mid new e h
      (begun_later aim head items mid all new grew
      (begun_front aim items (item.End ∷ []) ended all new is refl last))

  -- or all.
  pub completed : (old fresh mid all new : Option (List ℕ)) (seen : Seen) → Empties old fresh
      → Appends fresh mid (certificate_of head) → IsCompleted w seen head mid all
      → Appends all new (spelling_of seen item.End) → HoldsCertificate s w.lines old new
  completed old fresh mid all new seen e h (items, grew, whole) a =
      let ended : List Item = items ++ item.End ∷ [] in
      let last : Grew items all new ended = (
        item.End ∷ [],
        refl,
        subst (λ bs. Appends all new bs) (end_spelled items seen whole.1) a,
      ) in
      let both = grew_both head items ended mid all new grew last in
      holds_whole s (whole_aim w) old mid new head both.0 ended subject
      (headed old fresh mid (certificate_of head) e h) both.1 both.2 whole.0
