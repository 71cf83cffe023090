-- The nodes of an accepted certificate begin with the script's.
use Rattle.std.proofs.Common.{◌≡◌, ◌≤◌, ◌+◌, ◌++◌, ◌∷◌, [], zero, suc, List, length, drop, Some}
use Rattle.std.proofs.Common.{refl, sym, ap, subst, ◌∙◌, arith}
use Rattle.std.proofs.lemmas.List.{length-append}
use Rattle.fx_model.specs.declared.Node.{Node}
use Rattle.cert_bytes.specs.declared.item.Item.{Item}
use Rattle.cert_bytes.specs.declared.item.Item.TheVariants as item
use Rattle.cert_bytes.specs.declared.order.DueItem.{DueItem}
use Rattle.cert_bytes.specs.declared.order.DueItem.TheVariants.{Head, Nodes, Marks, Sections, Done}
use Rattle.cert_checker.specs.declared.subject.Subject.{Subject}
use Rattle.cert_checker.specs.Contexts.{Context}
use Rattle.cert_checker.specs.After.{after}
use Rattle.cert_checker.specs.Accepted.{LeadsTo, AreInOrder}
use Rattle.cert_checker.specs.Own.{Agrees}
use Rattle.cert_checker.proofs.Own.{agrees_next}
use Rattle.cert_checker.proofs.AcceptedHolds.{InSections, nodes_stay}

-- the nodes so far are the script's, and with those that are due there are enough
abbrev IsBegun : Subject → DueItem → Context → Type 0
IsBegun s Head c = Agrees s.nodes c.nodes
IsBegun s (Nodes k) c = Agrees s.nodes c.nodes × (length s.nodes ≤ length c.nodes + k)
IsBegun s _ c = Agrees s.nodes c.nodes × (length s.nodes ≤ length c.nodes)

pub record Begins (own nodes : List Node) : Type 0 where
  pub agrees : Agrees own nodes
  pub enough : length own ≤ length nodes

stays : (s : Subject) (items : List Item) (d : DueItem) (c end : Context)
    → InSections d → AreInOrder (Some d) items → LeadsTo s c items end → Agrees s.nodes c.nodes
    → length s.nodes ≤ length c.nodes → Begins s.nodes end.nodes
stays s items d c end p g l o e =
    let q = sym (nodes_stay s items d c end p g l) in
    record {
      agrees = subst (Agrees s.nodes) q o;
      enough = subst (λ (ns : List Node). length s.nodes ≤ length ns) q e;
    }

pub begins : (s : Subject) (items : List Item) (d : DueItem) (c end : Context) → IsBegun s d c
    → AreInOrder (Some d) items → LeadsTo s c items end → Begins s.nodes end.nodes
begins s items (Marks zero) c end b g l = stays s items (Marks zero) c end tt g l b.0 b.1
begins s items (Sections w) c end b g l = stays s items (Sections w) c end tt g l b.0 b.1
begins s items Done c end b g l = stays s items Done c end tt g l b.0 b.1
begins s (item.Nodes n ∷ items) Head c end b g l =
    let enough : length s.nodes ≤ n = l.0.1 in
    begins s items (Nodes n) (after c (item.Nodes n)) end (b, omega (arith, enough)) g l.1
begins s (item.Node n ∷ items) (Nodes (suc k)) c end b g l =
    let long = b.1 in
    begins s items (Nodes k) (after c (item.Node n)) end (
      agrees_next s.nodes c.nodes s.variables n l.0.1 b.0,
      omega (arith, long, length-append c.nodes (n ∷ [])),
    ) g l.1
begins s (item.Marks m ∷ items) (Nodes zero) c end b g l = let long = b.1 in
    begins s items (Marks m) (after c (item.Marks m)) end (b.0, omega (arith, long)) g l.1
begins s (item.Mark m ∷ items) (Marks (suc k)) c end b g l =
    begins s items (Marks k) (after c (item.Mark m)) end b g l.1
begins s [] Head c end b g l = cc
begins s [] (Nodes k) c end b g l = cc
begins s [] (Marks (suc k)) c end b g l = cc
begins s (i ∷ items) Head c end b g l = absurd g
begins s (i ∷ items) (Nodes zero) c end b g l = absurd g
begins s (i ∷ items) (Nodes (suc k)) c end b g l = absurd g
begins s (i ∷ items) (Marks (suc k)) c end b g l = absurd g

-- the same as one list behind the other
pub extended : (own nodes : List Node) → Begins own nodes → nodes ≡ own ++ drop (length own) nodes
extended [] nodes b = refl
extended (o ∷ own) [] b = let e = b.enough in absurd (omega (arith, e))
extended (o ∷ own) (n ∷ nodes) b =
    let e : Some n ≡ Some o = b.agrees zero (omega arith) (omega arith) in
    let h : n ≡ o = cc in
    let rest : Begins own nodes = record {
      agrees = λ i l m. b.agrees (suc i) (omega (arith, l)) (omega (arith, m));
      enough = let e = b.enough in omega (arith, e);
    } in
    ap (λ x. x ∷ nodes) h ∙ ap (λ t. o ∷ t) (extended own nodes rest)
