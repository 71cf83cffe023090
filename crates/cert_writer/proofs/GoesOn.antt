-- How a certificate goes on from box to box.
use Rattle.std.specs.Prelude.{◌≡◌, ◌<◌, ◌≤◌, ◌+◌, ◌-◌, ◌^◌, ℕ, suc, List, [], ◌∷◌, ◌++◌, length}
use Rattle.std.specs.Prelude.{map, Some, None, refl}
use Rattle.std.specs.List.{AllByRecursion}
use Rattle.std.proofs.Common.{sym, ◌∙◌, ap, subst, arith}
use Rattle.std.proofs.lemmas.List.{append_assoc}
use Rattle.std.proofs.lemmas.Option.{slice_get_within}
use Rattle.fx_model.specs.declared.ExprId.{ExprId}
use Rattle.fx_model.specs.declared.Node.TheVariants.{Var}
use Rattle.dyadic.specs.declared.number.Dyadic.{Dyadic}
use Rattle.interval.specs.declared.interval.Interval.{Interval}
use Rattle.facts.specs.declared.fact.Fact.{Fact}
use Rattle.facts.specs.declared.fact.Fact.TheVariants as fact
use Rattle.facts.specs.declared.fact.Slot.TheVariants as slot
use Rattle.goals.specs.declared.goal.Goal.{Goal}
use Rattle.goals.specs.declared.line.Line.{Line}
use Rattle.derivation.specs.Derivations.{Setting, At}
use Rattle.derivation.specs.Exists.{table_at}
use Rattle.saturate.specs.Universes.{setting_of}
use Rattle.cert_bytes.specs.declared.item.Item.{Item}
use Rattle.cert_bytes.specs.declared.item.Item.TheVariants as item
use Rattle.cert_bytes.specs.declared.item.StepRow.{StepRow}
use Rattle.cert_bytes.specs.declared.order.DueItem.TheVariants.{Sections}
use Rattle.cert_bytes.specs.declared.style.Style.TheVariants.{Second}
use Rattle.cert_bytes.specs.Certificates.{AreDue, AreCertificate, IsLong, IsShort}
use Rattle.cert_bytes.specs.Spelling.{spelled_behind, certificate_of}
use Rattle.cert_bytes.proofs.Spelling.{spelled_both}
use Rattle.cert_bytes.specs.Styles.{none_seen, seen_in}
use Rattle.cert_bytes.specs.Sizes.{most_bytes_in, SpellingsAreShort}
use Rattle.cert_checker.specs.declared.open.Citable.{Citable}
use Rattle.cert_checker.specs.Contexts.{Context, first}
use Rattle.cert_checker.specs.Steps.{step_fact}
use Rattle.cert_checker.specs.Faults.{AreSettled, IsVariable, JudgesItem}
use Rattle.cert_checker.specs.After.{after, case_behind, cuts_behind, lines_with}
use Rattle.cert_checker.specs.Accepted.{LeadsTo}
use Rattle.cert_trim.specs.Behind.{section_of}
use Rattle.tree_certificates.specs.Sections.{AllBelow}
use Rattle.tree_certificates.specs.Traces.{most_steps}
use Rattle.tree_certificates.specs.Roots.{Root, AreRoots, steps_in_roots, lines_of_roots}
use Rattle.tree_certificates.specs.Trees.{Tree, Trees, leaf, cut, last, next, AreProved, ArePoints}
use Rattle.tree_certificates.specs.Trees.{lines_of_tree, lines_of_trees, lines_at, leaf_lines}
use Rattle.tree_certificates.specs.Trees.{steps_in, steps_in_each}
use Rattle.tree_certificates.specs.Walks.{behind_steps, IsEndOf, Frame, LiesIn, left_in}
use Rattle.tree_certificates.specs.Walks.{lines_behind, steps_behind, IsDue, Ending}
use Rattle.tree_certificates.specs.Moves.{WalksGoOn, WalksMove, AreSteps, IsEntered}
use Rattle.tree_certificates.proofs.Moves.{lead_both, next_behind}
use Rattle.tree_certificates.proofs.Cited.{found_long}
use Rattle.cert_writer.specs.Standing.{Aim, IsAim, IsWhole, IsBegun, SectionStart, IsAt, Ended}
use Rattle.cert_writer.specs.Standing.{HasEnded, HasWritten, AreBoxSteps, AreShort, AreCited}
use Rattle.cert_writer.specs.Standing.{most_for, roots_left, steps_left, lines_left, inside, closed}
use Rattle.cert_writer.specs.Standing.{beside, around, next_aim, next_root, root_with}
use Rattle.cert_writer.specs.Laws.{OfAims}
use Rattle.cert_writer.proofs.Sized.{sized_both}
use Rattle.cert_writer.proofs.Seen.{EndsSection, sections_with}

-- ---- items one behind the other
more_due : (t : Aim) (items more rest : List Item) → AreCertificate (items ++ (more ++ rest))
    → AreCertificate ((items ++ more) ++ rest)
more_due t items more rest d = subst (λ y. AreCertificate y) (sym (append_assoc items more rest)) d

-- What was written goes on by these items.
written_more : (t : Aim) (items more : List Item) (c d : Context) (m n : ℕ) → HasWritten t items c m
    → LeadsTo t.target.subject c more d → IsDue m n more → HasWritten t (items ++ more) d n
written_more t items more c d m n w l due = record {
  leads = lead_both t.target.subject (first t.target.subject) c d items more w.leads l;
  due = λ rest r. more_due t items more rest (w.due (more ++ rest) (due rest r));
}

-- Where there are items to the end of the root section, what was written is a front.
front : (t : Aim) (items : List Item) (c : Context) (n : ℕ) → HasWritten t items c n
    → Ending t.target.subject c n t.lines → IsBegun t (certificate_of items)
front t items c n w e =
    let f : Context = after e.behind item.End in
    let tail : List Item = e.items ++ item.End ∷ [] in
    let tail_leads : LeadsTo t.target.subject c tail f = lead_both t.target.subject c e.behind f
    e.items (item.End ∷ []) e.leads (((λ b r. cc), refl), refl) in (
      items ++ tail,
      record {
        certificate = w.due tail (e.due (item.End ∷ []) ((tt, tt), refl));
        end = f;
        leads =
            lead_both t.target.subject (first t.target.subject) c f items tail w.leads tail_leads;
        cases = e.cases;
        shown = e.shown;
      },
      (spelled_behind (seen_in items) tail, spelled_both none_seen items tail),
    )

-- ---- one box
own_leads : (t : Aim) (c : Context) (rows : List StepRow) (l : Item)
    → AreSteps t.target.subject c rows → JudgesItem t.target.subject (behind_steps c rows) l None
    → LeadsTo t.target.subject c (section_of rows l) (after (behind_steps c rows) l)
own_leads t c rows l s j = lead_both t.target.subject c (behind_steps c rows)
    (after (behind_steps c rows) l) (map item.Step rows) (l ∷ []) s.leads (j, refl)

own_due : (t : Aim) (c : Context) (rows : List StepRow) (l : Item) (m n : ℕ)
    → AreSteps t.target.subject c rows
    → ((rest : List Item) → AreDue (Some (Sections n)) rest
    → AreDue (Some (Sections (suc m))) (l ∷ rest))
    → IsDue (suc m) n (section_of rows l)
own_due t c rows l m n s d = λ rest r. subst (λ y. AreDue (Some (Sections (suc m))) y)
    (sym (append_assoc (map item.Step rows) (l ∷ []) rest)) (s.due m (l ∷ rest) (d rest r))

-- ---- what a leaf cites
cited_long : (rows : List Citable) (at : At) (m : ℕ) (goals : List Goal) (refs : List ℕ)
    → AllBelow m rows → m ≤ 2 ^ 64 → AreCited rows at goals refs → AllByRecursion IsLong refs
cited_long rows at m [] [] b h a = tt
cited_long rows at m (g ∷ goals) (r ∷ refs) b h a =
    (found_long rows r m (a.0).0 b h (a.0).2, cited_long rows at m goals refs b h a.1)
cited_long rows at m [] (r ∷ refs) b h a = absurd a
cited_long rows at m (g ∷ goals) [] b h a = absurd a

cited_count : (rows : List Citable) (at : At) (goals : List Goal) (refs : List ℕ)
    → AreCited rows at goals refs → length refs ≡ length goals
cited_count rows at [] [] a = refl
cited_count rows at (g ∷ goals) (r ∷ refs) a =
    let h = cited_count rows at goals refs a.1 in omega (arith, h)
cited_count rows at [] (r ∷ refs) a = absurd a
cited_count rows at (g ∷ goals) [] a = absurd a

cited_settled : (rows : List Citable) (at : At) (goals : List Goal) (refs : List ℕ)
    → AreCited rows at goals refs → AreSettled rows goals refs
cited_settled rows at [] [] a = tt
cited_settled rows at (g ∷ goals) (r ∷ refs) a =
    (((a.0).0, (a.0).2, (a.0).3), cited_settled rows at goals refs a.1)
cited_settled rows at [] (r ∷ refs) a = absurd a
cited_settled rows at (g ∷ goals) [] a = absurd a

cited_lines : (rows : List Citable)
    (at : At) (goals : List Goal) (refs : List ℕ) (lines : List Line) → AreCited rows at goals refs
    → lines_with rows lines refs ≡ lines_at at goals lines
cited_lines rows at [] [] [] a = refl
cited_lines rows at [] [] (l ∷ lines) a = refl
cited_lines rows at (g ∷ goals) (r ∷ refs) [] a = refl
cited_lines rows at (g ∷ goals) (r ∷ refs) (l ∷ lines) a =
    let e : step_fact rows r ≡ at g.of = (a.0).2 ∙ sym (a.0).1 in
    let h : lines_with rows lines refs ≡ lines_at at goals lines =
    cited_lines rows at goals refs lines a.1 in
    rw (e, h) refl
cited_lines rows at [] (r ∷ refs) lines a = absurd a
cited_lines rows at (g ∷ goals) [] lines a = absurd a

-- ---- numbers of steps
below_more : (n : ℕ) (rows : List Citable) (f : Fact) → AllBelow n rows
    → AllBelow (n + 1) (rows ++ record { number = n; fact = f } ∷ [])
below_more n [] f b = (omega arith, tt)
below_more n (r ∷ rows) f b = let l : r.number < n = b.0 in
    (omega (arith, l), below_more n rows f b.1)

pub below_behind : (c : Context) (rows : List StepRow) → AllBelow c.next c.steps
    → AllBelow (behind_steps c rows).next (behind_steps c rows).steps
below_behind c [] b = b
below_behind c (row ∷ rows) b =
    below_behind (after c (item.Step row)) rows (below_more c.next c.steps row.fact b)

pub enough : (t : Aim) → IsAim t → most_steps (setting_of t.world) t.height ≤ most_for t
enough t a = let l = a.enough in let h = a.writable.few_hypotheses in omega (arith, l, h)

module _ (goes : WalksGoOn) (moves : WalksMove) where
  pub begun : OfAims (λ t. (p : SectionStart) → IsAt t p → IsBegun t (certificate_of p.items))
  begun t a p here =
      let v : Setting = setting_of t.world in
      let en = here.entered in
      let e = goes v t.world.hints a.writable t.height (most_for t)
      (enough t a) t.world.goals t.target.subject t.target.number a.subject p.tree
      p.context p.pieces p.depth p.frames en.opened en.deep en.proved en.lies t.target.later a.later
      (let l = here.room in omega (arith, l)) in
      front t p.items p.context (suc (left_in p.frames + roots_left t)) here.written
      (subst (λ y. Ending t.target.subject p.context (suc (left_in p.frames + roots_left t)) y)
      (sym here.shown) e)

  pub ended : OfAims (λ t. (e : Ended) → HasEnded t e → IsBegun t (certificate_of e.items))
  ended t a e here =
      let v : Setting = setting_of t.world in
      let r = moves.rest v t.world.hints a.writable t.height (most_for t) (enough t a) t.world.goals
      t.target.subject t.target.number a.subject e.begin e.context e.lines e.frames here.lies
      here.ended t.target.later a.later (let l = here.room in omega (arith, l)) in
      front t e.items e.context (left_in e.frames + roots_left t) here.written (subst (λ y.
      Ending t.target.subject e.context (left_in e.frames + roots_left t) y) (sym here.shown) r)

  pub enters : OfAims (λ t. (p : SectionStart) (rows : List StepRow)
      (x : ExprId) (points : List Dyadic) (i : Interval) (tree : Tree) (later : Trees)
      → p.tree ≡ cut x points (next i tree later) → IsAt t p
      → AreBoxSteps t p rows → AreShort t rows (item.Cut x points)
      → IsAt t (inside p rows x points i tree later))
  enters t a p rows x points i tree later e here own small =
      let v : Setting = setting_of t.world in
      let most : ℕ = most_for t in
      let whole_tree : Tree = cut x points (next i tree later) in
      let En : Tree → Type 0 = λ y. IsEntered v t.world.hints t.height most t.world.goals
      t.target.subject t.target.number p.context y p.pieces p.depth p.frames in
      let en : En whole_tree = subst En e here.entered in
      let m = moves.enters v t.world.hints a.writable t.height most
      (enough t a) t.world.goals t.target.subject t.target.number a.subject p.context rows x points
      i tree later p.pieces p.depth p.frames en own.steps own.behind in
      let d : Context = behind_steps p.context rows in
      let pr = en.proved in
      let variable : IsVariable v.nodes x = pr.0 in
      let ps : ArePoints points = pr.2 in
      let within : x.0 < length t.world.nodes =
      slice_get_within t.world.nodes x.0 (Var variable.0) variable.1 in
      let few = a.writable.few_nodes in
      let short : IsShort x.0 = omega (arith, within, few) in
      let Due : ℕ → List Item → Type 0 = λ n y. AreDue (Some (Sections n)) y in
      let left : ℕ = left_in p.frames + roots_left t in
      let left_next : ℕ = length points - 0 + left_in p.frames + roots_left t in
      let more : suc left_next ≡ left + (length points + 1) = omega arith in
      let due : IsDue (suc left) (suc left_next) (section_of rows (item.Cut x points)) =
      own_due t p.context rows (item.Cut x points) left (suc left_next) own.steps
      (λ rest r. ((ps.some, (short, (ps.few, ps.rising))), subst (λ n. Due n rest) more r)) in
      let n = next_behind p.context rows in
      let k = own.few in
      let q = sections_with p.items rows (item.Cut x points) (λ s. (refl, refl)) in
      let room : p.context.next + (seen_in p.items).sections
      + (most + (steps_in most tree + steps_in_each most later)
      + steps_behind most p.frames + steps_left t)
      ≤ 2 ^ 63 =
      subst (λ y. p.context.next + (seen_in p.items).sections
      + (steps_in most y + steps_behind most p.frames + steps_left t) ≤ 2 ^ 63) e here.room in
      let sized = sized_both p.items (section_of rows (item.Cut x points)) in
      let short_here : most_bytes_in p.items
      + (most + (steps_in most tree + steps_in_each most later)
      + steps_behind most p.frames + steps_left t)
      + 39 ≤ 2 ^ 44 =
      subst (λ y. most_bytes_in p.items
      + (steps_in most y + steps_behind most p.frames + steps_left t) + 39 ≤ 2 ^ 44) e here.short in
      let shown : t.lines ≡ lines_left t (lines_behind v t.height t.world.goals p.frames
      (lines_of_tree v t.height t.world.goals whole_tree p.pieces p.context.lines)) =
      subst (λ y. t.lines ≡ lines_left t (lines_behind v t.height t.world.goals p.frames
      (lines_of_tree v t.height t.world.goals y p.pieces p.context.lines))) e here.shown in
      let same : d.lines ≡ p.context.lines = own.steps.later.lines in
      record {
        written = written_more t p.items (section_of rows (item.Cut x points)) p.context
            (after d (item.Cut x points)) (suc left) (suc left_next)
            here.written (own_leads t p.context rows (item.Cut x points) own.steps m.0) due;
        entered = m.1;
        room = omega (arith, n, k, q, room);
        short = omega (arith, sized, small, short_here);
        shown = subst (λ y. t.lines ≡ lines_left t (lines_behind v t.height t.world.goals p.frames
            (lines_of_tree v t.height t.world.goals whole_tree p.pieces y))) (sym same) shown;
      }

  -- what is so of each end of a box's own section
  close : (t : Aim) (p : SectionStart) (rows : List StepRow) (l : Item) (lines : List Line)
      → p.tree ≡ leaf → IsAt t p → AreSteps t.target.subject p.context rows
      → length rows < most_for t → AreShort t rows l → EndsSection l
      → JudgesItem t.target.subject (behind_steps p.context rows) l None
      → ((rest : List Item) → AreDue (Some (Sections (left_in p.frames + roots_left t))) rest
      → AreDue (Some (Sections (suc (left_in p.frames + roots_left t)))) (l ∷ rest))
      → IsEndOf p.context (after (behind_steps p.context rows) l) lines
      → (after (behind_steps p.context rows) l).next ≡ (behind_steps p.context rows).next
      → lines_of_tree (setting_of t.world) t.height t.world.goals leaf p.pieces p.context.lines
      ≡ lines → HasEnded t (closed p rows l lines)
  close t p rows l lines e here steps k small one j due end same shown =
      let v : Setting = setting_of t.world in
      let most : ℕ = most_for t in
      let n = next_behind p.context rows in
      let q = sections_with p.items rows l one in
      let room : p.context.next + (seen_in p.items).sections
      + (most + steps_behind most p.frames + steps_left t) ≤ 2 ^ 63 =
      subst (λ y. p.context.next + (seen_in p.items).sections
      + (steps_in most y + steps_behind most p.frames + steps_left t) ≤ 2 ^ 63) e here.room in
      let sized = sized_both p.items (section_of rows l) in
      let short_here : most_bytes_in p.items
      + (most + steps_behind most p.frames + steps_left t) + 39 ≤ 2 ^ 44 =
      subst (λ y. most_bytes_in p.items
      + (steps_in most y + steps_behind most p.frames + steps_left t) + 39 ≤ 2 ^ 44) e here.short in
      let all : t.lines ≡ lines_left t (lines_behind v t.height t.world.goals p.frames
      (lines_of_tree v t.height t.world.goals leaf p.pieces p.context.lines)) =
      subst (λ y. t.lines ≡ lines_left t (lines_behind v t.height t.world.goals p.frames
      (lines_of_tree v t.height t.world.goals y p.pieces p.context.lines))) e here.shown in
      record {
        written = written_more t p.items (section_of rows l) p.context
            (after (behind_steps p.context rows) l) (suc (left_in p.frames + roots_left t))
            (left_in p.frames + roots_left t)
            here.written (own_leads t p.context rows l steps j) (own_due t p.context rows l
            (left_in p.frames + roots_left t) (left_in p.frames + roots_left t) steps due);
        ended = end;
        lies = here.entered.lies;
        room = omega (arith, same, n, k, q, room);
        short = omega (arith, sized, small, short_here);
        shown = subst (λ y. t.lines
            ≡ lines_left t (lines_behind v t.height t.world.goals p.frames y)) shown all;
      }

  pub settles : OfAims (λ t. (p : SectionStart) (rows : List StepRow) (refs : List ℕ)
      → p.tree ≡ leaf → IsAt t p → AreBoxSteps t p rows → AreShort t rows (item.Leaf refs)
      → table_at (setting_of t.world) t.height p.pieces slot.Void ≡ None
      → AreCited (behind_steps p.context rows).steps
      (table_at (setting_of t.world) t.height p.pieces) t.world.goals refs
      → HasEnded t (closed p rows (item.Leaf refs)
      (lines_of_tree (setting_of t.world) t.height t.world.goals leaf p.pieces p.context.lines)))
  settles t a p rows refs e here own small none cited =
      let v : Setting = setting_of t.world in
      let most : ℕ = most_for t in
      let d : Context = behind_steps p.context rows in
      let at : At = table_at v t.height p.pieces in
      let settled : AreSettled d.steps t.target.subject.goals refs =
      subst (λ gs. AreSettled d.steps gs refs) (sym a.subject.wanted)
      (cited_settled d.steps at t.world.goals refs cited) in
      let m = moves.settled v t.world.hints a.writable t.height most
      (enough t a) t.world.goals t.target.subject t.target.number a.subject p.context p.pieces rows
      refs here.entered.opened own.steps settled in
      let same : d.lines ≡ p.context.lines = own.steps.later.lines in
      let lines : List Line =
      lines_of_tree v t.height t.world.goals leaf p.pieces p.context.lines in
      let by_void : lines ≡ lines_at at t.world.goals p.context.lines =
      ap (λ o. leaf_lines o at t.world.goals p.context.lines) none in
      let shown : lines_with d.steps p.context.lines refs ≡ lines =
      cited_lines d.steps at t.world.goals refs p.context.lines cited ∙ sym by_void in
      let n = next_behind p.context rows in
      let k = own.few in
      let room : p.context.next + (seen_in p.items).sections
      + (most + steps_behind most p.frames + steps_left t) ≤ 2 ^ 63 =
      subst (λ y. p.context.next + (seen_in p.items).sections
      + (steps_in most y + steps_behind most p.frames + steps_left t) ≤ 2 ^ 63) e here.room in
      let long : d.next ≤ 2 ^ 64 = omega (arith, n, k, room) in
      let count = cited_count d.steps at t.world.goals refs cited in
      let goals = a.subject.few_goals in
      close t p rows (item.Leaf refs) lines e here own.steps k small (λ s. (refl, refl)) m.0
      (λ rest r. (
        (
          omega (arith, count, goals),
          cited_long d.steps at d.next t.world.goals refs own.behind.below long cited,
        ),
        r,
      ))
      (subst (λ y. IsEndOf p.context (after d (item.Leaf refs)) y) shown m.1) refl refl

  pub voids : OfAims (λ t. (p : SectionStart) (rows : List StepRow) (r : ℕ) → p.tree ≡ leaf
      → IsAt t p → AreSteps t.target.subject p.context rows → length rows < most_for t
      → AreShort t rows (item.Dead r)
      → table_at (setting_of t.world) t.height p.pieces slot.Void ≡ Some fact.Void
      → step_fact (behind_steps p.context rows).steps r ≡ Some fact.Void
      → HasEnded t (closed p rows (item.Dead r) p.context.lines))
  voids t a p rows r e here steps k small void is =
      let v : Setting = setting_of t.world in
      let most : ℕ = most_for t in
      let d : Context = behind_steps p.context rows in
      let m = moves.void v t.world.hints a.writable t.height most
      (enough t a) t.world.goals t.target.subject t.target.number a.subject p.context p.pieces rows
      r here.entered.opened steps is in
      let n = next_behind p.context rows in
      let room : p.context.next + (seen_in p.items).sections
      + (most + steps_behind most p.frames + steps_left t) ≤ 2 ^ 63 =
      subst (λ y. p.context.next + (seen_in p.items).sections
      + (steps_in most y + steps_behind most p.frames + steps_left t) ≤ 2 ^ 63) e here.room in
      let long : d.next ≤ 2 ^ 64 = omega (arith, n, k, room) in
      close t p rows (item.Dead r) p.context.lines e here steps k small (λ s. (refl, refl)) m.0
      (λ rest q. (
        (
          tt,
          found_long d.steps r d.next fact.Void
              (below_behind p.context rows here.entered.opened.below) long is,
        ),
        q,
      ))
      m.1 refl
      (ap (λ o. leaf_lines o (table_at v t.height p.pieces) t.world.goals p.context.lines) void)

  pub follows : OfAims (λ t. (e : Ended) (fr : Frame) (i : Interval) (tree : Tree) (later : Trees)
      (frames : List Frame) → e.frames ≡ fr ∷ frames → fr.later ≡ next i tree later → HasEnded t e
      → IsAt t (beside e fr i tree later frames))
  follows t a e fr i tree later frames same is here =
      let v : Setting = setting_of t.world in
      let most : ℕ = most_for t in
      let lies : LiesIn v t.height t.world.goals t.target.number e.begin (fr ∷ frames) =
      subst (λ y. LiesIn v t.height t.world.goals t.target.number e.begin y) same here.lies in
      let m = moves.follows v t.world.hints a.writable t.height most
      (enough t a) t.world.goals t.target.subject t.target.number a.subject e.begin e.context
      e.lines fr i tree later frames lies is here.ended in
      let left : AreProved v t.height t.world.goals fr.var fr.points (next i tree later)
      (fr.piece + 1) fr.pieces fr.depth = subst (λ y. AreProved v t.height t.world.goals fr.var
      fr.points y (fr.piece + 1) fr.pieces fr.depth) is (lies.0).proved in
      let l : fr.piece + 1 ≤ length fr.points = left.0 in
      let count : length fr.points - fr.piece + left_in frames + roots_left t ≡ suc
      (length fr.points - (fr.piece + 1) + left_in frames + roots_left t) = omega (arith, l) in
      let w : HasWritten t e.items e.context (left_in (fr ∷ frames) + roots_left t) =
      subst (λ y. HasWritten t e.items e.context (left_in y + roots_left t)) same here.written in
      let room : e.context.next + (seen_in e.items).sections
      + (steps_in_each most fr.later + steps_behind most frames + steps_left t) ≤ 2 ^ 63 =
      subst (λ y. e.context.next + (seen_in e.items).sections
      + (steps_behind most y + steps_left t) ≤ 2 ^ 63) same here.room in
      let all : t.lines ≡ lines_left t (lines_behind v t.height t.world.goals frames
      (lines_of_trees v t.height t.world.goals fr.var fr.later fr.pieces e.lines)) = subst (λ y.
      t.lines ≡ lines_left t (lines_behind v t.height t.world.goals y e.lines)) same here.shown in
      let all_next : t.lines ≡ lines_left t (lines_behind v t.height t.world.goals frames
      (lines_of_trees v t.height t.world.goals fr.var (next i tree later) fr.pieces e.lines)) =
      subst (λ y. t.lines ≡ lines_left t (lines_behind v t.height t.world.goals frames
      (lines_of_trees v t.height t.world.goals fr.var y fr.pieces e.lines))) is all in
      let room_next : e.context.next + (seen_in e.items).sections
      + (steps_in most tree + steps_in_each most later + steps_behind most frames + steps_left t)
      ≤ 2 ^ 63 =
      subst (λ y. e.context.next + (seen_in e.items).sections
      + (steps_in_each most y + steps_behind most frames + steps_left t) ≤ 2 ^ 63) is room in
      let short_here : most_bytes_in e.items
      + (steps_in_each most fr.later + steps_behind most frames + steps_left t) + 39 ≤ 2 ^ 44 =
      subst (λ y. most_bytes_in e.items + (steps_behind most y + steps_left t) + 39 ≤ 2 ^ 44) same
      here.short in
      let short_next : most_bytes_in e.items
      + (steps_in most tree + steps_in_each most later
      + steps_behind most frames + steps_left t) + 39
      ≤ 2 ^ 44 =
      subst (λ y. most_bytes_in e.items
      + (steps_in_each most y + steps_behind most frames + steps_left t) + 39
      ≤ 2 ^ 44) is short_here in
      record {
        written = subst (λ n. HasWritten t e.items e.context n) count w;
        entered = m;
        room = omega (arith, room_next);
        short = omega (arith, short_next);
        shown = subst (λ y. t.lines ≡ lines_left t (lines_behind v t.height t.world.goals frames
            (lines_of_trees v t.height t.world.goals fr.var (next i tree later) fr.pieces y)))
            (sym here.ended.shown) all_next;
      }

  pub ends : OfAims (λ t. (e : Ended) (fr : Frame) (frames : List Frame) → e.frames ≡ fr ∷ frames
      → fr.later ≡ last → HasEnded t e → HasEnded t (around e fr frames))
  ends t a e fr frames same is here =
      let v : Setting = setting_of t.world in
      let most : ℕ = most_for t in
      let lies : LiesIn v t.height t.world.goals t.target.number e.begin (fr ∷ frames) =
      subst (λ y. LiesIn v t.height t.world.goals t.target.number e.begin y) same here.lies in
      let m = moves.ends v t.world.hints a.writable t.height most
      (enough t a) t.world.goals t.target.subject t.target.number a.subject e.begin e.context
      e.lines fr frames lies is here.ended in
      let left : AreProved v t.height t.world.goals fr.var fr.points last (fr.piece + 1)
      fr.pieces fr.depth = subst (λ y. AreProved v t.height t.world.goals fr.var fr.points y
      (fr.piece + 1) fr.pieces fr.depth) is (lies.0).proved in
      let l : fr.piece + 1 ≡ length fr.points + 1 = left in
      let count : length fr.points - fr.piece + left_in frames + roots_left t
      ≡ left_in frames + roots_left t = omega (arith, l) in
      let w : HasWritten t e.items e.context (left_in (fr ∷ frames) + roots_left t) =
      subst (λ y. HasWritten t e.items e.context (left_in y + roots_left t)) same here.written in
      let room : e.context.next + (seen_in e.items).sections
      + (steps_in_each most fr.later + steps_behind most frames + steps_left t) ≤ 2 ^ 63 =
      subst (λ y. e.context.next + (seen_in e.items).sections
      + (steps_behind most y + steps_left t) ≤ 2 ^ 63) same here.room in
      let all : t.lines ≡ lines_left t (lines_behind v t.height t.world.goals frames
      (lines_of_trees v t.height t.world.goals fr.var fr.later fr.pieces e.lines)) = subst (λ y.
      t.lines ≡ lines_left t (lines_behind v t.height t.world.goals y e.lines)) same here.shown in
      let short_here : most_bytes_in e.items
      + (steps_in_each most fr.later + steps_behind most frames + steps_left t) + 39 ≤ 2 ^ 44 =
      subst (λ y. most_bytes_in e.items + (steps_behind most y + steps_left t) + 39 ≤ 2 ^ 44) same
      here.short in
      record {
        written = subst (λ n. HasWritten t e.items e.context n) count w;
        ended = m;
        lies = lies.1;
        room = omega (arith, room);
        short = omega (arith, short_here);
        shown = subst (λ y. t.lines ≡ lines_left t (lines_behind v t.height t.world.goals frames
            (lines_of_trees v t.height t.world.goals fr.var y fr.pieces e.lines))) is all;
      }

  pub next_case : OfAims (λ t. (e : Ended)
      (hypotheses : List Fact) (tree : Tree) (later : List Root) → e.frames ≡ []
      → t.target.later ≡ root_with t.world hypotheses tree ∷ later → HasEnded t e
      → IsAt (next_aim t hypotheses later) (next_root e tree))
  next_case t a e hypotheses tree later same is here =
      let v : Setting = setting_of t.world in
      let most : ℕ = most_for t in
      let r : Root = root_with t.world hypotheses tree in
      let lies : LiesIn v t.height t.world.goals t.target.number e.begin [] =
      subst (λ y. LiesIn v t.height t.world.goals t.target.number e.begin y) same here.lies in
      let roots : AreRoots t.target.subject t.world.hints t.height most t.world.goals t.world.nodes
      (t.target.number + 1) (r ∷ later) =
      subst (AreRoots t.target.subject t.world.hints t.height most t.world.goals t.world.nodes
      (t.target.number + 1)) is a.later in
      let m = moves.next_case v t.world.hints a.writable t.height most
      (enough t a) t.world.goals t.target.subject t.target.number a.subject e.begin e.context
      e.lines r.setting tree lies here.ended roots.0 in
      let w : HasWritten t e.items e.context (suc (0 + length later)) =
      subst (λ n. HasWritten t e.items e.context n)
      (let n : 0 + length (r ∷ later) ≡ suc (0 + length later) = omega arith in n)
      (subst (λ rs. HasWritten t e.items e.context (0 + length rs)) is
      (subst (λ y. HasWritten t e.items e.context (left_in y + roots_left t)) same here.written)) in
      let room : e.context.next + (seen_in e.items).sections
      + (0 + (steps_in most tree + steps_in_roots most later)) ≤ 2 ^ 63 =
      subst (λ rs. e.context.next + (seen_in e.items).sections
      + (0 + steps_in_roots most rs) ≤ 2 ^ 63) is
      (subst (λ y. e.context.next + (seen_in e.items).sections
      + (steps_behind most y + steps_left t) ≤ 2 ^ 63) same here.room) in
      let all : t.lines ≡ lines_of_roots t.height t.world.goals (r ∷ later) e.lines =
      subst (λ rs. t.lines ≡ lines_of_roots t.height t.world.goals rs e.lines) is (subst (λ y.
      t.lines ≡ lines_left t (lines_behind v t.height t.world.goals y e.lines)) same here.shown) in
      let short_here : most_bytes_in e.items
      + (0 + (steps_in most tree + steps_in_roots most later)) + 39 ≤ 2 ^ 44 =
      subst (λ rs. most_bytes_in e.items + (0 + steps_in_roots most rs) + 39 ≤ 2 ^ 44) is
      (subst (λ y. most_bytes_in e.items + (steps_behind most y + steps_left t) + 39 ≤ 2 ^ 44) same
      here.short) in
      record {
        written = record { leads = w.leads; due = w.due };
        entered = m;
        room = omega (arith, room);
        short = omega (arith, short_here);
        shown = subst (λ y. t.lines ≡ lines_of_roots t.height t.world.goals (r ∷ later) y)
            (sym here.ended.shown) all;
      }

  pub whole : SpellingsAreShort
      → OfAims (λ t. (e : Ended) → e.frames ≡ [] → t.target.later ≡ [] → HasEnded t e
      → IsWhole t (certificate_of (e.items ++ item.End ∷ [])))
  whole spell t a e same last_case here =
      let v : Setting = setting_of t.world in
      let lies : LiesIn v t.height t.world.goals t.target.number e.begin [] =
      subst (λ y. LiesIn v t.height t.world.goals t.target.number e.begin y) same here.lies in
      let w : HasWritten t e.items e.context 0 =
      subst (λ rs. HasWritten t e.items e.context (0 + length rs)) last_case
      (subst (λ y. HasWritten t e.items e.context (left_in y + roots_left t)) same here.written) in
      let all : t.lines ≡ e.lines =
      subst (λ rs. t.lines ≡ lines_of_roots t.height t.world.goals rs e.lines)
      last_case (subst (λ y. t.lines
      ≡ lines_left t (lines_behind v t.height t.world.goals y e.lines)) same here.shown) in
      let f : Context = after e.context item.End in
      let cuts : case_behind e.begin.case (cuts_behind e.begin.cuts) ≡ e.begin.case + 1 =
      ap (λ y. case_behind e.begin.case (cuts_behind y)) lies.0 in
      let number : e.context.case ≡ t.target.number + 1 =
      here.ended.case ∙ cuts ∙ ap (λ n. n + 1) lies.1 in
      let of : t.target.number + 1 ≡ length t.target.subject.cases =
      subst (AreRoots t.target.subject t.world.hints t.height
      (most_for t) t.world.goals t.world.nodes (t.target.number + 1)) last_case a.later in (
        e.items ++ item.End ∷ [],
        record {
          certificate = w.due (item.End ∷ []) ((tt, tt), refl);
          end = f;
          leads = lead_both t.target.subject (first t.target.subject) e.context f e.items
              (item.End ∷ []) w.leads (((λ b r. cc), refl), refl);
          cases = number ∙ of;
          shown = here.ended.shown ∙ sym all;
        },
        refl,
        (let s = spell (Second none_seen) (e.items ++ item.End ∷ []) in
            let b = sized_both e.items (item.End ∷ []) in
            let l = here.short in
            omega (arith, s, b, l)),
      )
