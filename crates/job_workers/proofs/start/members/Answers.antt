use Rattle.std.proofs.Common.{◌≡◌, ◌<◌, ◌+◌, ◌∷◌, [], ℕ, zero, suc, List, All, refl, drop, length}
use Rattle.std.proofs.Common.{slice_index_or, sym, ap, subst, ◌∙◌, arith, get_or-drop}
use Rattle.std.proofs.lemmas.List.Elements.{All-push}
use Rattle.std.proofs.lemmas.Grind.{common_steps}
use Rattle.box_deques.specs.Seen.{Hand, IsSeated}
use Rattle.job_workers.specs.declared.start.Member.{Member}
use Rattle.job_workers.specs.Members.{CanTake}
use Rattle.job_workers.proofs.Passes.{begins}
use Rattle.job_workers.proofs.start.members.Goals as goal

-- the first of those that are left
at_front : (all left : List Hand) (n : ℕ) (hand : Hand)
    → left ≡ drop n all → hand ≡ slice_index_or left 0 hand → hand ≡ slice_index_or all n hand
at_front all left n hand e is = is ∙ ap (λ (l : List Hand). slice_index_or l 0 hand) e ∙ get_or-drop
    n all 0 hand ∙ ap (λ m. slice_index_or all m hand) (let z : n + 0 ≡ n = omega arith in z)

twice : (xs : List Hand) (n m : ℕ) → m ≡ suc n → drop 1 (drop n xs) ≡ drop m xs
twice xs zero m e = rw e refl
twice [] (suc n) m e = rw e refl
twice (x ∷ xs) (suc n) m e = rw e (twice xs n (suc n) refl)

rest : (all left : List Hand) (n : ℕ) → left ≡ drop n all → drop 1 left ≡ drop (n + 1) all
rest all left n e = ap (drop 1) e ∙ twice all n (n + 1) (omega arith)

pub loop-number-preserved : goal.loop-number-preserved
loop-number-preserved g c =
    let capacity = g.Q.Naming.capacity in
    let n = c.loop-number.number in
    let all = c.in_ok-hands.hands.items in
    let hand = c.remove-hand.result in
    let below : n < length c.args.lanes.now = omega arith in
    let is : hand ≡ slice_index_or all n hand = at_front all
    c.loop-number.hands.items n hand c.loop-number.invariant.0 c.remove-hand.ensures.value in
    let seated : IsSeated n capacity c.args.lanes.now hand =
    subst (IsSeated n capacity c.args.lanes.now)
    (sym is) (c.in_ok-hands.ensures.hands n hand below) in
    let can = begins capacity n (length c.args.lanes.now)
    c.args.lanes.now c.hands.new.lanes hand c.in_ok-thieves.thieves.items
    c.hands.auto.lanes c.in_ok-hands.ensures.lanes seated c.in_ok-thieves.ensures in
    let P : Member g.row.Q.Denot → Type 0 = CanTake capacity in (
      c.remove-hand.ensures.items ∙ rest all c.loop-number.hands.items n c.loop-number.invariant.0,
      first_of (omega arith, grind (arith, common_steps)),
      subst (All P) (sym c.in_ok-push.ensures.items)
          (All-push P c.loop-number.members.items (record {
            hand = hand;
            thieves = c.in_ok-thieves.thieves;
          }) c.loop-number.invariant.2 can),
    )
