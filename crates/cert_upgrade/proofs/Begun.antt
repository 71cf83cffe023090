-- Items in order that are a certificate's, or begin one.
use Rattle.std.specs.Prelude.{◌≡◌, ℕ, zero, suc, List, [], ◌∷◌, ◌++◌, Option, Some, refl}
use Rattle.std.proofs.Common.{sym, ◌∙◌, ap, subst, append-nil, arith}
use Rattle.std.proofs.lemmas.List.{append_assoc}
use Rattle.fx_model.specs.declared.Node.TheVariants.{Var}
use Rattle.facts.specs.declared.hint.HintMark.TheVariants.{Checked}
use Rattle.cert_bytes.specs.declared.item.Item.{Item}
use Rattle.cert_bytes.specs.declared.item.Item.TheVariants as item
use Rattle.cert_bytes.specs.declared.order.DueItem.{DueItem}
use Rattle.cert_bytes.specs.declared.order.DueItem.TheVariants.{Head, Nodes, Marks, Sections, Done}
use Rattle.cert_bytes.specs.Certificates.{HasSpelling, Fits, AreDue, AreCertificate}
use Rattle.cert_bytes.specs.Due.{due_after}
use Rattle.cert_bytes.specs.Fronts.{IsFront}
use Rattle.cert_bytes.specs.Styles.{none_seen, seen_in}
use Rattle.cert_bytes.specs.Spelling.{spelled_behind, certificate_of}
use Rattle.cert_bytes.proofs.Spelling.{spelled_both}
use Rattle.cert_upgrade.proofs.Items.{AreBegun}

pub begun_none : (d : DueItem) → d ≡ Head → AreBegun [] d
begun_none d e more a = subst (λ (x : DueItem). AreDue (Some x) more) e a

-- one more
pub begun_more : (items : List Item) (i : Item) (d e : DueItem) → AreBegun items d
    → due_after d i ≡ Some e → HasSpelling i × Fits i → AreBegun (items ++ i ∷ []) e
begun_more items i d e b n f more a =
    let due : AreDue (due_after d i) more =
    subst (λ (x : Option DueItem). AreDue x more) (sym n) a in
    subst AreCertificate (sym (append_assoc items (i ∷ []) more)) (b (i ∷ more) (f, due))

pub begun_all : (items : List Item) (d : DueItem) → AreBegun items d
    → d ≡ Done → AreCertificate items
begun_all items d b e = subst AreCertificate (append-nil items) (b [] e)

-- ---- from each place some items lead to the end
sections_end : (w : ℕ) → (more : List Item) × AreDue (Some (Sections w)) more
sections_end zero = (item.End ∷ [], ((tt, tt), refl))
sections_end (suc w) =
    let rest = sections_end w in (item.Dead 0 ∷ rest.0, ((tt, omega arith), rest.1))

marks_end : (n : ℕ) → (more : List Item) × AreDue (Some (Marks n)) more
marks_end zero = let rest = sections_end 0 in (item.Dead 0 ∷ rest.0, ((tt, omega arith), rest.1))
marks_end (suc n) = let rest = marks_end n in (item.Mark Checked ∷ rest.0, ((tt, tt), rest.1))

nodes_end : (n : ℕ) → (more : List Item) × AreDue (Some (Nodes n)) more
nodes_end zero = let rest = marks_end 0 in (item.Marks 0 ∷ rest.0, ((tt, omega arith), rest.1))
nodes_end (suc n) =
    let rest = nodes_end n in (item.Node (Var 0) ∷ rest.0, ((tt, omega arith), rest.1))

pub some_end : (d : DueItem) → (more : List Item) × AreDue (Some d) more
some_end Head = let rest = nodes_end 0 in (item.Nodes 0 ∷ rest.0, ((tt, omega arith), rest.1))
some_end (Nodes n) = nodes_end n
some_end (Marks n) = marks_end n
some_end (Sections w) = sections_end w
some_end Done = ([], refl)

-- What the first items spell begins what all spell, and so does a front of it.
pub front_more : (written waiting : List ℕ) (items rest : List Item)
    → written ++ waiting ≡ certificate_of items → IsFront written (certificate_of (items ++ rest))
front_more written waiting items rest e =
    let later = spelled_behind (seen_in items) rest in (
      waiting ++ later,
      spelled_both none_seen items rest ∙ ap (λ bs. bs ++ later) (sym e)
          ∙ append_assoc written waiting later,
    )
