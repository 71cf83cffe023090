-- What is accepted holds, over the script's own nodes.
use Rattle.std.proofs.Common.{◌≡◌, ◌++◌, ◌∷◌, [], ℕ, zero, suc, List, length, drop, Option, Some}
use Rattle.std.proofs.Common.{sym, subst, arith}
use Rattle.std.specs.List.{AllByRecursion}
use Rattle.fx_model.specs.Expression.{Assignment, IsOrdered, value}
use Rattle.fx_model.specs.declared.Node.{Node}
use Rattle.expr_dag.specs.Extended.{ValuesStay}
use Rattle.facts.specs.declared.fact.Fact.{Fact}
use Rattle.facts.specs.Order.{slot_of}
use Rattle.theorem_list.specs.Promises.{AreSound}
use Rattle.cert_bytes.specs.declared.item.Item.{Item}
use Rattle.cert_bytes.specs.declared.order.DueItem.{DueItem}
use Rattle.cert_bytes.specs.declared.order.DueItem.TheVariants.{Head}
use Rattle.cert_bytes.specs.Due.{due_behind}
use Rattle.cert_bytes.specs.Reading.{Cursor}
use Rattle.cert_checker.specs.Contexts.{Context, first}
use Rattle.cert_checker.specs.declared.subject.Subject.{Subject}
use Rattle.cert_checker.specs.Steps.{case_facts}
use Rattle.cert_checker.specs.Met.{SlotIsAmong, NamesNodes, MeetsOver, Meets, LinesHold}
use Rattle.cert_checker.specs.Met.{AcceptedHolds, InOrderHolds}
use Rattle.cert_checker.specs.Accepted.{LeadsTo, AreInOrder}
use Rattle.cert_checker.specs.After.{after}
use Rattle.cert_checker.specs.Outcomes.{accepted, Comes, CheckedHolds}
use Rattle.cert_checker.proofs.Shown.{LineLaws}
use Rattle.cert_checker.proofs.AcceptedHolds.{nodes_ordered, shown_hold}
use Rattle.cert_checker.proofs.Order.{in_order}
use Rattle.cert_checker.proofs.ReadItems.{read_is_due}
use Rattle.cert_checker.proofs.Roots.{have_each_root}
use Rattle.cert_checker.proofs.Moved.{AreSame, turned, facts_moved, rows_moved, lines_moved}
use Rattle.cert_checker.proofs.Extends.{Begins, begins, extended}

-- nodes keep their values where a certificate has more
kept_values : ValuesStay → (own nodes : List Node) (a : Assignment) → IsOrdered own
    → IsOrdered nodes → Begins own nodes → AreSame (length own) own nodes a
kept_values stay own nodes a o p b x l =
    let e = extended own nodes b in
    let q : IsOrdered (own ++ drop (length own) nodes) = subst IsOrdered e p in
    let P : List Node → Type 0 = λ ns. value own a x ≡ value ns a x in
    subst P (sym e) (sym (stay own (drop (length own) nodes) a o q x l))

named_facts : (n : ℕ) (cases : List (List Fact)) (k : ℕ)
    → AllByRecursion (AllByRecursion (λ (f : Fact). SlotIsAmong n (slot_of f))) cases
    → AllByRecursion (λ (f : Fact). SlotIsAmong n (slot_of f)) (case_facts cases k)
named_facts n [] k h = tt
named_facts n (facts ∷ cases) zero h = h.0
named_facts n (facts ∷ cases) (suc k) h = named_facts n cases k h.1

-- What items in order show, over the script's own nodes.
pub shown_hold_of_scripts : LineLaws → AreSound
    → ValuesStay → (s : Subject) (items : List Item) (end : Context) → AreInOrder (Some Head) items
    → LeadsTo s (first s) items end → end.case ≡ length s.cases → IsOrdered s.nodes → NamesNodes s
    → (a : Assignment) → Meets s a → LinesHold s.nodes a s.goals end.lines
shown_hold_of_scripts laws sound stay s items end due leads all ordered names a meets =
    let ns = end.nodes in
    let longer = nodes_ordered s ordered items end leads in
    let begun : Begins s.nodes ns =
    begins s items Head (first s) end (λ i l m. absurd (omega (arith, m))) due leads in
    let same = kept_values stay s.nodes ns a ordered longer begun in
    let over : MeetsOver ns s a = record {
      rows = rows_moved (length s.nodes) s.nodes ns a same s.hints names.hints meets.rows;
      case = meets.case;
      within = meets.within;
      facts = facts_moved (length s.nodes) s.nodes ns a same (case_facts s.cases meets.case)
          (named_facts (length s.nodes) s.cases meets.case names.facts) meets.facts;
    } in
    lines_moved (length s.nodes) ns s.nodes a (turned (length s.nodes) s.nodes ns a same) s.goals
    end.lines names.goals (shown_hold laws sound s items end due leads all a ordered over)

pub in_order_holds : LineLaws → AreSound → ValuesStay → InOrderHolds
in_order_holds laws sound stay s items end ordered names due leads a meets =
    shown_hold_of_scripts laws sound stay s items end due leads
    (have_each_root s items end due leads) ordered names a meets

pub accepted_holds : LineLaws → AreSound → ValuesStay → AcceptedHolds
accepted_holds laws sound stay s items lines ordered names acc a meets =
    subst (LinesHold s.nodes a s.goals) acc.shown (shown_hold_of_scripts laws sound stay s items
    acc.end (in_order (Some Head) items acc.certificate) acc.leads acc.cases ordered names a meets)

-- items that are read and taken to the end are in order
pub come_in_order : (s : Subject) (d : DueItem) (p : Cursor) (c end : Context) (items : List Item)
    → Comes s d p c items (accepted end) → AreInOrder (Some d) items × LeadsTo s c items end
come_in_order s d p c end [] h = (h.0, h.1)
come_in_order s d p c end (i ∷ items) h =
    let next = read_is_due d p h.0 i h.1.0 h.1.1 in
    let rest = come_in_order s (due_behind d i) h.1.0 (after c i) end items h.1.3 in
    (subst (λ (o : Option DueItem). AreInOrder o items) (sym next) rest.0, (h.1.2, rest.1))

pub checked_holds : LineLaws → AreSound → ValuesStay → CheckedHolds
checked_holds laws sound stay s p end ordered names comes a meets =
    let t = come_in_order s Head p (first s) end comes.0 comes.1 in
    in_order_holds laws sound stay s comes.0 end ordered names t.0 t.1 a meets
