-- What is accepted holds, over a whole certificate.
use Rattle.std.proofs.Common.{◌≡◌, ◌≤◌, ◌+◌, ℕ, zero, suc, List, [], ◌∷◌, ◌⊎◌, ⊎_elim, length, Some}
use Rattle.std.proofs.Common.{refl, sym, ap, subst, ◌∙◌, arith, inl, inr}
use Rattle.std.specs.Prelude.{⊤, map}
use Rattle.std.specs.List.{AllByRecursion}
use Rattle.fx_model.specs.Expression.{Assignment, IsOrdered}
use Rattle.fx_model.specs.declared.Node.{Node}
use Rattle.facts.specs.Holds.{Holds}
use Rattle.goals.specs.declared.goal.Goal.{Goal}
use Rattle.goals.specs.declared.line.Line.TheVariants as line
use Rattle.theorem_list.specs.Promises.{AreSound}
use Rattle.cert_bytes.specs.declared.item.Item.{Item}
use Rattle.cert_bytes.specs.declared.item.Item.TheVariants as item
use Rattle.cert_bytes.specs.declared.order.DueItem.{DueItem}
use Rattle.cert_bytes.specs.declared.order.DueItem.TheVariants.{Head, Nodes, Marks, Sections, Done}
use Rattle.cert_checker.specs.Contexts.{Context, first, open_piece}
use Rattle.cert_checker.specs.declared.subject.Subject.{Subject}
use Rattle.cert_checker.specs.After.{after}
use Rattle.cert_checker.specs.Steps.{case_facts}
use Rattle.cert_checker.specs.Accepted.{LeadsTo, AreInOrder}
use Rattle.cert_checker.specs.Met.{MeetsOver, LinesHold, HoldsOverCertificates}
use Rattle.cert_checker.proofs.Order.{in_order}
use Rattle.cert_checker.proofs.Ordered.{leads_ordered}
use Rattle.cert_checker.proofs.Shown.{LineLaws, HaveLines, AllHold}
use Rattle.cert_checker.proofs.StepHolds.{RulesHold, HoldsIf}
use Rattle.cert_checker.proofs.Sound.{pending, IsNested, IsSound, IsSomewhere, Behind, step_sound}
use Rattle.cert_checker.proofs.Sound.{cut_sound, leaf_sound, dead_sound, cases_sound}

-- sections are due, or their end
abbrev pub InSections : DueItem → Type 0
InSections (Marks zero) = ⊤
InSections (Sections w) = ⊤
InSections Done = ⊤
InSections _ = ⊥

-- the nodes stay from the root section on
pub nodes_stay : (s : Subject) (items : List Item) (d : DueItem) (c end : Context) → InSections d
    → AreInOrder (Some d) items → LeadsTo s c items end → end.nodes ≡ c.nodes
nodes_stay s [] d c end p g l = ap (λ (x : Context). x.nodes) (sym l)
nodes_stay s (item.Cases n ∷ items) (Marks zero) c end p g l =
    nodes_stay s items (Sections n) (after c (item.Cases n)) end tt g l.1
nodes_stay s (item.Step r ∷ items) (Marks zero) c end p g l =
    nodes_stay s items (Sections 1) (after c (item.Step r)) end tt g l.1
nodes_stay s (item.Cut x ps ∷ items) (Marks zero) c end p g l =
    nodes_stay s items (Sections (length ps + 1)) (after c (item.Cut x ps)) end tt g l.1
nodes_stay s (item.Leaf refs ∷ items) (Marks zero) c end p g l =
    nodes_stay s items (Sections 0) (after c (item.Leaf refs)) end tt g l.1
nodes_stay s (item.Dead r ∷ items) (Marks zero) c end p g l =
    nodes_stay s items (Sections 0) (after c (item.Dead r)) end tt g l.1
nodes_stay s (item.Step r ∷ items) (Sections (suc w)) c end p g l =
    nodes_stay s items (Sections (suc w)) (after c (item.Step r)) end tt g l.1
nodes_stay s (item.Cut x ps ∷ items) (Sections (suc w)) c end p g l =
    nodes_stay s items (Sections (w + (length ps + 1))) (after c (item.Cut x ps)) end tt g l.1
nodes_stay s (item.Leaf refs ∷ items) (Sections (suc w)) c end p g l =
    nodes_stay s items (Sections w) (after c (item.Leaf refs)) end tt g l.1
nodes_stay s (item.Dead r ∷ items) (Sections (suc w)) c end p g l =
    nodes_stay s items (Sections w) (after c (item.Dead r)) end tt g l.1
nodes_stay s (item.End ∷ items) (Sections zero) c end p g l =
    nodes_stay s items Done (after c item.End) end tt g l.1
nodes_stay s (i ∷ items) (Sections zero) c end p g l = absurd g
nodes_stay s (i ∷ items) (Sections (suc w)) c end p g l = absurd g
nodes_stay s (i ∷ items) (Marks zero) c end p g l = absurd g
nodes_stay s (i ∷ items) Done c end p g l = absurd g
nodes_stay s (i ∷ items) Head c end p g l = absurd p
nodes_stay s (i ∷ items) (Nodes n) c end p g l = absurd p
nodes_stay s (i ∷ items) (Marks (suc n)) c end p g l = absurd p

module _ (laws : LineLaws) (s : Subject) (ns : List Node)
    (a : Assignment) (ordered : IsOrdered ns) (rules : RulesHold ns a s.hints) (case : ℕ)
    (facts : AllByRecursion (Holds ns a) (case_facts s.cases case)) where
  -- what is kept where this is due
  abbrev State : DueItem → Context → Type 0
  State (Marks zero) c = IsSound laws s ns a ordered case 0 c
  State (Sections w) c = Behind laws s ns a ordered case w c
  State Done c = Behind laws s ns a ordered case 0 c
  State _ c = ⊥

  -- one more section behind a cut
  cut_due : (w : ℕ) (d : DueItem) (items : List Item) → d ≡ Sections (suc w)
      → AreInOrder (Some d) items → AreInOrder (Some (Sections (suc w))) items
  cut_due w d items q g = subst (λ x. AreInOrder (Some x) items) q g

  sections_sound : (items : List Item) (d : DueItem) (c end : Context) → c.nodes ≡ ns → State d c
      → AreInOrder (Some d) items → LeadsTo s c items end → Behind laws s ns a ordered case 0 end
  sections_sound [] Done c end n q g l = subst (Behind laws s ns a ordered case 0) l q
  sections_sound (item.Cases k ∷ items) (Marks zero) c end n q g l =
      sections_sound items (Sections k)
      (after c (item.Cases k)) end n (cases_sound laws s ns a ordered case c q k) g l.1
  sections_sound (item.Step r ∷ items) (Marks zero) c end n q g l =
      sections_sound items (Sections 1) (after c (item.Step r)) end n
      (step_sound laws s ns a ordered case 0 c n rules facts q r l.0) g l.1
  sections_sound (item.Cut x ps ∷ items) (Marks zero) c end n q g l =
      let t = cut_due (0 + length ps)
      (Sections (length ps + 1)) items (ap Sections (omega arith)) g in
      sections_sound items (Sections (suc (0 + length ps)))
      (after c (item.Cut x ps)) end n (cut_sound laws s ns a ordered case 0 c n q x ps l.0) t l.1
  sections_sound (item.Leaf refs ∷ items) (Marks zero) c end n q g l =
      sections_sound items (Sections 0)
      (after c (item.Leaf refs)) end n (leaf_sound laws s ns a ordered case 0 c q refs l.0) g l.1
  sections_sound (item.Dead r ∷ items) (Marks zero) c end n q g l =
      sections_sound items (Sections 0)
      (after c (item.Dead r)) end n (dead_sound laws s ns a ordered case 0 c q r l.0) g l.1
  sections_sound (item.Step r ∷ items) (Sections (suc w)) c end n q g l =
      sections_sound items (Sections (suc w)) (after c (item.Step r)) end n
      (step_sound laws s ns a ordered case w c n rules facts q r l.0) g l.1
  sections_sound (item.Cut x ps ∷ items) (Sections (suc w)) c end n q g l =
      let t = cut_due (w + length ps)
      (Sections (w + (length ps + 1))) items (ap Sections (omega arith)) g in
      sections_sound items (Sections (suc (w + length ps)))
      (after c (item.Cut x ps)) end n (cut_sound laws s ns a ordered case w c n q x ps l.0) t l.1
  sections_sound (item.Leaf refs ∷ items) (Sections (suc w)) c end n q g l =
      sections_sound items (Sections w)
      (after c (item.Leaf refs)) end n (leaf_sound laws s ns a ordered case w c q refs l.0) g l.1
  sections_sound (item.Dead r ∷ items) (Sections (suc w)) c end n q g l =
      sections_sound items (Sections w)
      (after c (item.Dead r)) end n (dead_sound laws s ns a ordered case w c q r l.0) g l.1
  sections_sound (item.End ∷ items) (Sections zero) c end n q g l =
      sections_sound items Done (after c item.End) end n q g l.1
  sections_sound [] (Marks zero) c end n q g l = cc
  sections_sound [] (Sections w) c end n q g l = cc
  sections_sound [] Head c end n q g l = absurd q
  sections_sound [] (Nodes k) c end n q g l = absurd q
  sections_sound [] (Marks (suc k)) c end n q g l = absurd q
  sections_sound (i ∷ items) (Sections zero) c end n q g l = absurd g
  sections_sound (i ∷ items) (Sections (suc w)) c end n q g l = absurd g
  sections_sound (i ∷ items) (Marks zero) c end n q g l = absurd g
  sections_sound (i ∷ items) Done c end n q g l = absurd g
  sections_sound (i ∷ items) Head c end n q g l = absurd q
  sections_sound (i ∷ items) (Nodes k) c end n q g l = absurd q
  sections_sound (i ∷ items) (Marks (suc k)) c end n q g l = absurd q

-- before the sections: no step yet, and no case
record IsFresh (s : Subject) (c : Context) : Type 0 where
  steps : c.steps ≡ []
  cuts : c.cuts ≡ []
  case : c.case ≡ 0
  lines : HaveLines s.goals c.lines

-- what is shown of an assignment of the case, if the certificate comes to it
abbrev Promised : Subject → Context → Assignment → ℕ → Type 0
Promised s end a case = IsOrdered end.nodes
    → RulesHold end.nodes a s.hints → AllByRecursion (Holds end.nodes a) (case_facts s.cases case)
    → LinesHold end.nodes a s.goals end.lines ⊎ (end.case ≤ case)

module _ (laws : LineLaws) (s : Subject) (a : Assignment) (case : ℕ) where
  at_first : (ns : List Node) (ordered : IsOrdered ns) (c : Context) (k : ℕ) → k ≡ case
      → IsFresh s c → IsSomewhere laws s ns a ordered case c
  at_first ns ordered c zero e f = inl (record {
    begun = f.case ∙ e;
    steps = subst (AllHold ns a) (sym f.steps) tt;
    piece = subst (λ k. HoldsIf ns a (open_piece k)) (sym f.cuts) tt;
  })
  at_first ns ordered c (suc k) e f = inr (inr (inr (let z = f.case in omega (arith, z, e))))

  at_root : (items : List Item) (c end : Context) → IsFresh s c
      → AreInOrder (Some (Marks zero)) items → LeadsTo s c items end → Promised s end a case
  at_root items c end f g l ordered rules facts =
      let n : c.nodes ≡ end.nodes = sym (nodes_stay s items (Marks zero) c end tt g l) in
      let root : IsSound laws s end.nodes a ordered case 0 c = record {
        somewhere = at_first end.nodes ordered c case refl f;
        nested = subst (IsNested (length c.steps)) (sym f.cuts) tt;
        pending = let e = ap pending f.cuts in omega (arith, e);
        lines = f.lines;
      } in
      sections_sound laws s end.nodes a ordered rules case facts items (Marks zero) c end n root g l

  fresh_on : (c : Context) (i : Item) → (after c i).steps ≡ c.steps
      → (after c i).cuts ≡ c.cuts → (after c i).case ≡ c.case → (after c i).lines ≡ c.lines
      → IsFresh s c → IsFresh s (after c i)
  fresh_on c i e k q l f = record {
    steps = e ∙ f.steps;
    cuts = k ∙ f.cuts;
    case = q ∙ f.case;
    lines = subst (HaveLines s.goals) (sym l) f.lines;
  }

  before_root : (items : List Item) (d : DueItem) (c end : Context)
      → IsFresh s c → AreInOrder (Some d) items → LeadsTo s c items end → ¬ (d ≡ Done)
      → ((w : ℕ) → ¬ (d ≡ Sections w)) → Promised s end a case
  before_root items (Marks zero) c end f g l x y = at_root items c end f g l
  before_root (item.Mark m ∷ items) (Marks (suc k)) c end f g l x y =
      before_root items (Marks k) (after c (item.Mark m)) end
      (fresh_on c (item.Mark m) refl refl refl refl f) g l.1 (λ z. cc) (λ w z. cc)
  before_root (item.Marks m ∷ items) (Nodes zero) c end f g l x y =
      before_root items (Marks m) (after c (item.Marks m)) end
      (fresh_on c (item.Marks m) refl refl refl refl f) g l.1 (λ z. cc) (λ w z. cc)
  before_root (item.Node n ∷ items) (Nodes (suc k)) c end f g l x y =
      before_root items (Nodes k) (after c (item.Node n)) end
      (fresh_on c (item.Node n) refl refl refl refl f) g l.1 (λ z. cc) (λ w z. cc)
  before_root (item.Nodes n ∷ items) Head c end f g l x y =
      before_root items (Nodes n) (after c (item.Nodes n)) end
      (fresh_on c (item.Nodes n) refl refl refl refl f) g l.1 (λ z. cc) (λ w z. cc)
  before_root items Done c end f g l x y = absurd (x refl)
  before_root items (Sections w) c end f g l x y = absurd (y w refl)
  before_root [] d c end f g l x y = absurd (x g)
  before_root (i ∷ items) (Marks (suc k)) c end f g l x y = absurd g
  before_root (i ∷ items) (Nodes zero) c end f g l x y = absurd g
  before_root (i ∷ items) (Nodes (suc k)) c end f g l x y = absurd g
  before_root (i ∷ items) Head c end f g l x y = absurd g

all_lines : (goals : List Goal) → HaveLines goals (map (λ g. line.Empty) goals)
all_lines [] = tt
all_lines (g ∷ goals) = all_lines goals

-- the nodes of accepted items are made of earlier ones
pub nodes_ordered : (s : Subject) → IsOrdered s.nodes → (items : List Item) (end : Context)
    → LeadsTo s (first s) items end → IsOrdered end.nodes
nodes_ordered s ordered items end l =
    leads_ordered s ordered items (first s) end (λ i n b. absurd (omega arith)) l

-- What items in order show, each line holds of every assignment that meets the subject over their
-- nodes.
pub shown_hold : LineLaws → AreSound → (s : Subject) (items : List Item) (end : Context)
    → AreInOrder (Some Head) items → LeadsTo s (first s) items end → end.case ≡ length s.cases
    → (a : Assignment) → IsOrdered s.nodes → MeetsOver end.nodes s a
    → LinesHold end.nodes a s.goals end.lines
shown_hold laws sound s items end due leads all a ordered meets =
    let o = nodes_ordered s ordered items end leads in
    let rules : RulesHold end.nodes a s.hints =
    λ number arg ps t f e h. sound end.nodes s.hints number arg ps t f o e a meets.rows h in
    let fresh : IsFresh s (first s) =
    record { steps = refl; cuts = refl; case = refl; lines = all_lines s.goals } in
    ⊎_elim
    (λ shown. shown)
    (λ late. let within = meets.within in absurd (omega (arith, late, all, within)))
    (before_root laws s a meets.case items Head (first s) end fresh due leads (λ z. cc)
    (λ w z. cc) o rules meets.facts)

pub holds_over_certificates : LineLaws → AreSound → HoldsOverCertificates
holds_over_certificates laws sound s items lines acc a ordered meets =
    subst (LinesHold acc.end.nodes a s.goals) acc.shown (shown_hold laws sound s items acc.end
    (in_order (Some Head) items acc.certificate) acc.leads acc.cases a ordered meets)
