-- Each node of an accepted certificate is made of earlier ones, as the script's are.
use Rattle.std.proofs.Common.{◌≡◌, ◌<◌, ◌++◌, ◌∷◌, [], ℕ, zero, suc, List, length, None, refl, sym}
use Rattle.std.proofs.Common.{subst, arith, ⊎_elim}
use Rattle.std.specs.Prelude.{slice_index_or}
use Rattle.std.proofs.lemmas.Bool.{cases_lt}
use Rattle.std.proofs.lemmas.List.{length-append}
use Rattle.std.proofs.lemmas.Option.{slice_get_within, get_or_from_slice_get}
use Rattle.fx_model.specs.declared.Node.{Node}
use Rattle.fx_model.specs.Expression.{IsOrdered, ChildrenBelow}
use Rattle.cert_bytes.specs.declared.item.Item.{Item}
use Rattle.cert_bytes.specs.declared.item.Item.TheVariants as item
use Rattle.cert_checker.specs.declared.subject.Subject.{Subject}
use Rattle.cert_checker.specs.Contexts.{Context}
use Rattle.cert_checker.specs.Faults.{JudgesNode}
use Rattle.cert_checker.specs.After.{after}
use Rattle.cert_checker.specs.Accepted.{LeadsTo}

at_front : (xs : List Node) (n d : Node) (i : ℕ) → i < length xs
    → slice_index_or (xs ++ n ∷ []) i d ≡ slice_index_or xs i d
at_front [] n d i l = absurd (omega arith)
at_front (x ∷ xs) n d zero l = refl
at_front (x ∷ xs) n d (suc i) l = at_front xs n d i (omega arith)

at_last : (xs : List Node) (n d : Node) (i : ℕ) → i ≡ length xs
    → slice_index_or (xs ++ n ∷ []) i d ≡ n
at_last [] n d zero e = refl
at_last [] n d (suc i) e = absurd (omega arith)
at_last (x ∷ xs) n d zero e = absurd (omega arith)
at_last (x ∷ xs) n d (suc i) e = at_last xs n d i (omega arith)

ordered_append : (ns : List Node) (n : Node) → IsOrdered ns → ChildrenBelow (length ns) n
    → IsOrdered (ns ++ n ∷ [])
ordered_append ns n o c i d l = ⊎_elim
    (λ b. subst (ChildrenBelow i) (sym (at_front ns n d i b)) (o i d b))
    (λ b. let e : i ≡ length ns = omega (arith, l, length-append ns (n ∷ [])) in
    subst (ChildrenBelow i) (sym (at_last ns n d i e))
    (let P : ℕ → Type 0 = λ k. ChildrenBelow k n in subst P (sym e) c))
    (cases_lt i (length ns))

children : (own : List Node) (variables : ℕ) (ns : List Node) (n : Node) → IsOrdered own
    → JudgesNode own variables ns n None → ChildrenBelow (length ns) n
children own variables ns n o j = ⊎_elim
    (λ l. let at = j.0 l in subst (ChildrenBelow (length ns)) (get_or_from_slice_get own
    (length ns) n n at) (o (length ns) n (slice_get_within own (length ns) n at)))
    (λ l. (j.1 l).children)
    (cases_lt (length ns) (length own))

pub leads_ordered : (s : Subject) → IsOrdered s.nodes → (items : List Item) (c end : Context)
    → IsOrdered c.nodes → LeadsTo s c items end → IsOrdered end.nodes
leads_ordered s o [] c end h l = subst (λ (x : Context). IsOrdered x.nodes) l h
leads_ordered s o (item.Node n ∷ items) c end h l = leads_ordered s o items (after c (item.Node n))
    end (ordered_append c.nodes n h (children s.nodes s.variables c.nodes n o l.0.1)) l.1
leads_ordered s o (item.Nodes k ∷ items) c end h l =
    leads_ordered s o items (after c (item.Nodes k)) end h l.1
leads_ordered s o (item.Marks k ∷ items) c end h l =
    leads_ordered s o items (after c (item.Marks k)) end h l.1
leads_ordered s o (item.Mark m ∷ items) c end h l =
    leads_ordered s o items (after c (item.Mark m)) end h l.1
leads_ordered s o (item.Cases k ∷ items) c end h l =
    leads_ordered s o items (after c (item.Cases k)) end h l.1
leads_ordered s o (item.Step r ∷ items) c end h l =
    leads_ordered s o items (after c (item.Step r)) end h l.1
leads_ordered s o (item.Cut x ps ∷ items) c end h l =
    leads_ordered s o items (after c (item.Cut x ps)) end h l.1
leads_ordered s o (item.Leaf refs ∷ items) c end h l =
    leads_ordered s o items (after c (item.Leaf refs)) end h l.1
leads_ordered s o (item.Dead r ∷ items) c end h l =
    leads_ordered s o items (after c (item.Dead r)) end h l.1
leads_ordered s o (item.End ∷ items) c end h l =
    leads_ordered s o items (after c item.End) end h l.1
