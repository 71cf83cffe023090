-- Laws of what specs/Moves defines.
use Rattle.std.specs.Prelude.{◌≡◌, ◌+◌, List, ◌∷◌, length, map, Some, zero, ◌++◌, []}
use Rattle.std.proofs.Common.{arith, sym, subst}
use Rattle.facts.specs.declared.hint.HintMark.{HintMark}
use Rattle.cert_bytes.specs.declared.item.Item.TheVariants as item
use Rattle.cert_bytes.specs.declared.item.StepRow.{StepRow}
use Rattle.cert_bytes.specs.declared.item.Item.{Item}
use Rattle.cert_bytes.specs.Certificates.{AreDue}
use Rattle.cert_bytes.specs.declared.order.DueItem.TheVariants.{Marks, Sections}
use Rattle.cert_checker.specs.declared.subject.Subject.{Subject}
use Rattle.cert_checker.specs.Contexts.{Context}
use Rattle.cert_checker.specs.After.{after}
use Rattle.cert_checker.specs.Accepted.{LeadsTo}
use Rattle.tree_certificates.specs.Walks.{behind_steps}

-- ---- laws
pub lead_both : (subject : Subject) (c d e : Context) (items more : List Item)
    → LeadsTo subject c items d → LeadsTo subject d more e → LeadsTo subject c (items ++ more) e
lead_both subject c d e [] more l m = subst (λ x. LeadsTo subject x more e) (sym l) m
lead_both subject c d e (i ∷ items) more l m =
    (l.0, lead_both subject (after c i) d e items more l.1 m)

pub next_behind : (c : Context) (rows : List StepRow)
    → (behind_steps c rows).next ≡ c.next + length rows
next_behind c [] = omega arith
next_behind c (row ∷ rows) = let h = next_behind (after c (item.Step row)) rows in omega (arith, h)

pub marks_due : (rest : List HintMark) (more : List Item) → AreDue (Some (Marks zero)) more
    → AreDue (Some (Marks (length rest))) (map item.Mark rest ++ more)
marks_due [] more d = d
marks_due (m ∷ rest) more d = ((tt, tt), marks_due rest more d)

pub root_due : (items : List Item) → AreDue (Some (Sections 1)) items
    → AreDue (Some (Marks zero)) items
root_due [] d = cc
root_due (item.Step r ∷ items) d = d
root_due (item.Cut x ps ∷ items) d = let e : 0 + (length ps + 1) ≡ length ps + 1 = omega arith in
    (d.0, subst (λ n. AreDue (Some (Sections n)) items) e d.1)
root_due (item.Leaf refs ∷ items) d = d
root_due (item.Dead r ∷ items) d = d
root_due (item.Nodes n ∷ items) d = absurd d.1
root_due (item.Node n ∷ items) d = absurd d.1
root_due (item.Marks n ∷ items) d = absurd d.1
root_due (item.Mark m ∷ items) d = absurd d.1
root_due (item.Cases n ∷ items) d = absurd d.1
root_due (item.End ∷ items) d = absurd d.1
