-- A section that has ended has also ended without the steps that its end doesn't need.
use Rattle.std.specs.Prelude.{◌≡◌, ◌<◌, ◌+◌, ℕ, Bool, true, false, List, [], ◌∷◌, ◌++◌, refl}
use Rattle.std.specs.List.{AllByRecursion}
use Rattle.std.proofs.Common.{sym, ◌∙◌, ap, subst, arith}
use Rattle.std.proofs.lemmas.List.{append_assoc}
use Rattle.goals.specs.declared.line.Line.{Line}
use Rattle.cert_bytes.specs.declared.item.Item.{Item}
use Rattle.cert_bytes.specs.declared.item.Item.TheVariants as item
use Rattle.cert_bytes.specs.declared.item.StepRow.{StepRow}
use Rattle.cert_bytes.specs.declared.style.Seen.{Seen}
use Rattle.cert_bytes.specs.Certificates.{AreCertificate}
use Rattle.cert_bytes.specs.Styles.{none_seen, seen_after, seen_behind, seen_in}
use Rattle.cert_bytes.proofs.Styles.{seen_both}
use Rattle.cert_checker.specs.declared.open.Citable.{Citable}
use Rattle.cert_checker.specs.declared.subject.Subject.{Subject}
use Rattle.cert_checker.specs.Contexts.{Context, first}
use Rattle.cert_checker.specs.After.{after}
use Rattle.cert_checker.specs.Accepted.{LeadsTo}
use Rattle.cert_trim.specs.Trimmed.{number_behind_all, moved_row, trimmed_by, if_used}
use Rattle.cert_trim.specs.Used.{CiteEarlier}
use Rattle.cert_trim.specs.Behind.{stays_behind, trimmed_behind, with_next, IsLeafOrDead, IsOpenAt}
use Rattle.cert_trim.specs.Behind.{LeavesAreTrimmed, CertificatesStaySo, AreFewer, section_of}
use Rattle.tree_certificates.specs.Sections.{AllBelow}
use Rattle.tree_certificates.specs.Walks.{behind_steps}
use Rattle.tree_certificates.proofs.Moves.{lead_both}
use Rattle.cert_writer.specs.Laws.{OfAims}
use Rattle.cert_writer.specs.Standing.{SectionStart, IsAt, HasEnded, closed, trimmed}
use Rattle.cert_writer.proofs.Sized.{sized_both}

-- Where items lead on from is told by those before.
lead_behind : (s : Subject) (items more : List Item) (c d e : Context)
    → LeadsTo s c items d → LeadsTo s c (items ++ more) e → LeadsTo s d more e
lead_behind s [] more c d e l m = subst (λ x. LeadsTo s x more e) l m
lead_behind s (i ∷ items) more c d e l m = lead_behind s items more (after c i) d e l.1 m.1

all_below : (n : ℕ) (steps : List Citable)
    → AllBelow n steps → AllByRecursion (λ q. q.number < n) steps
all_below n [] b = tt
all_below n (q ∷ steps) b = (b.0, all_below n steps b.1)

-- ---- the number of the next step
pub own_next : (rows : List StepRow) (last : Item) (c : Context) → IsLeafOrDead last
    → (after (behind_steps c rows) last).next ≡ number_behind_all c.next (section_of rows last)
own_next (row ∷ rows) last c ends = own_next rows last (after c (item.Step row)) ends
own_next [] (item.Leaf refs) c ends = refl
own_next [] (item.Dead r) c ends = refl
own_next [] _ c ends = absurd ends

-- ---- what was seen
pub seen_steps : (s : Seen) (items : List Item)
    → (seen_behind s items).steps ≡ number_behind_all s.steps items
seen_steps s [] = refl
seen_steps s (item.Step r ∷ items) = seen_steps (seen_after s (item.Step r)) items
seen_steps s (item.Leaf refs ∷ items) = seen_steps (seen_after s (item.Leaf refs)) items
seen_steps s (item.Dead r ∷ items) = seen_steps (seen_after s (item.Dead r)) items
seen_steps s (item.Cut x ps ∷ items) = seen_steps (seen_after s (item.Cut x ps)) items
seen_steps s (item.Nodes n ∷ items) = seen_steps s items
seen_steps s (item.Node n ∷ items) = seen_steps s items
seen_steps s (item.Marks n ∷ items) = seen_steps s items
seen_steps s (item.Mark m ∷ items) = seen_steps s items
seen_steps s (item.Cases n ∷ items) = seen_steps s items
seen_steps s (item.End ∷ items) = seen_steps s items

module _ (used : ℕ → Bool) where
  step_left : (b : Bool) (r : StepRow) (left : List Item) (s : Seen) (all : ℕ)
      → ((q : Seen) → q.sections ≡ s.sections → (seen_behind q left).sections ≡ all)
      → (seen_behind s (if_used b r left)).sections ≡ all
  step_left true r left s all h = h (seen_after s (item.Step r)) refl
  step_left false r left s all h = h s refl

  -- steps that go are no sections
  pub sections_left : (items : List Item) (n : ℕ) (s q : Seen) → q.sections ≡ s.sections
      → (seen_behind q (trimmed_by used n items)).sections ≡ (seen_behind s items).sections
  sections_left [] n s q e = e
  sections_left (item.Step r ∷ items) n s q e =
      step_left (used n) (moved_row used r) (trimmed_by used (n + 1) items) q
      (seen_behind (seen_after s (item.Step r)) items).sections
      (λ p f. sections_left items (n + 1) (seen_after s (item.Step r)) p (f ∙ e))
  sections_left (item.Leaf refs ∷ items) n s q e =
      sections_left items n (seen_after s (item.Leaf refs)) _ (ap (λ k. k + 1) e)
  sections_left (item.Dead r ∷ items) n s q e =
      sections_left items n (seen_after s (item.Dead r)) _ (ap (λ k. k + 1) e)
  sections_left (item.Cut x ps ∷ items) n s q e =
      sections_left items n (seen_after s (item.Cut x ps)) _ (ap (λ k. k + 1) e)
  sections_left (item.Nodes k ∷ items) n s q e = sections_left items n s q e
  sections_left (item.Node k ∷ items) n s q e = sections_left items n s q e
  sections_left (item.Marks k ∷ items) n s q e = sections_left items n s q e
  sections_left (item.Mark k ∷ items) n s q e = sections_left items n s q e
  sections_left (item.Cases k ∷ items) n s q e = sections_left items n s q e
  sections_left (item.End ∷ items) n s q e = sections_left items n s q e

module _ (leaves : LeavesAreTrimmed) (order : CertificatesStaySo) (fewer : AreFewer) where
  pub trims : OfAims (λ t. (p : SectionStart) (rows : List StepRow)
      (last : Item) (lines : List Line)
      → IsAt t p → IsLeafOrDead last → HasEnded t (closed p rows last lines)
      → CiteEarlier p.context.next (section_of rows last) × HasEnded t (trimmed p rows last lines))
  trims t a p rows last lines here ends ended =
      let s : Subject = t.target.subject in
      let c : Context = p.context in
      let own : List Item = section_of rows last in
      let e : Context = after (behind_steps c rows) last in
      let used = stays_behind c.next own in
      let left : List Item = trimmed_behind c.next own in
      let leads = lead_behind s p.items own (first s) c e
      here.written.leads ended.written.leads in
      let opened = here.entered.opened in
      let begun : IsOpenAt c = record {
        below = all_below c.next c.steps opened.below;
        room = opened.room;
      } in
      let h = leaves s c e rows last begun ends leads in
      let count = own_next rows last c ends in
      let few = (fewer.steps used c.next c.next own).1 in
      let none : (seen_in (p.items ++ left)).sections ≡ (seen_in (p.items ++ own)).sections =
      ap (λ (q : Seen). q.sections) (seen_both none_seen p.items left)
      ∙ sections_left used own c.next (seen_in p.items) (seen_in p.items) refl
      ∙ ap (λ (q : Seen). q.sections) (sym (seen_both none_seen p.items own)) in
      let room = ended.room in
      let short = ended.short in
      let shorter = fewer.bytes used c.next own in
      let more = sized_both p.items left in
      let most = sized_both p.items own in (
        h.0,
        record {
          written = record {
            leads = lead_both s (first s) c
                (with_next e (number_behind_all c.next left)) p.items left here.written.leads h.1;
            due = λ rest d. subst AreCertificate (sym (append_assoc p.items left rest))
                (order used c.next p.items own rest
                (subst AreCertificate (append_assoc p.items own rest) (ended.written.due rest d)));
          };
          ended = record {
            nodes = ended.ended.nodes;
            cuts = ended.ended.cuts;
            case = ended.ended.case;
            steps = ended.ended.steps;
            next = (fewer.steps used c.next c.next own).0;
            shown = ended.ended.shown;
            begun = ended.ended.begun;
            ended = ended.ended.ended;
          };
          lies = ended.lies;
          room = omega (arith, count, few, none, room);
          short = omega (arith, shorter, more, most, short);
          shown = ended.shown;
        },
      )
