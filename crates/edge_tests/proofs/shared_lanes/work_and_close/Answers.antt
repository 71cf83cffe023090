use Rattle.std.proofs.Common.{◌≡◌, ℕ, zero, suc, ◌<◌, List, [], ◌∷◌, length, slice_index_or}
use Rattle.std.proofs.Common.{slice_set, Some, sym, ap, ◌∙◌, subst, arith}
use Rattle.box_deques.specs.Seen as seen
use Rattle.box_deques.specs.Seen.{AllPasses, Each, IsReady, seat_at}
use Rattle.box_deques.specs.Moments.{SamePasses}
use Rattle.edge_tests.proofs.shared_lanes.work_and_close.Goals as goal

abbrev Has : seen.Name → ℕ → seen.Hand → Type 0
Has name k h = (0 < length h.seats) × ((seat_at h.seats 0).lane ≡ Some name)
    × ((seat_at h.seats 0).hand ≡ k)

at_first : (room : ℕ) (name : seen.Name) (k : ℕ) (h : seen.Hand)
    → IsReady room name k h → Has name k h
at_first room name k h r =
    (r.1, ap (λ (s : seen.Seat). s.lane) r.2, ap (λ (s : seen.Seat). s.hand) r.2)

later : (name : seen.Name) (k : ℕ) (h i : seen.Hand) → Has name k h → SamePasses h i → Has name k i
later name k h i p same =
    (subst (λ n. 0 < n) (sym same.long) p.0, same.lanes 0 ∙ p.1, same.hands 0 ∙ p.2)

both : (name : seen.Name) (a b : seen.Hand) → Has name 0 a → Has name 1 b → (k : ℕ) (d : seen.Hand)
    → k < length (a ∷ b ∷ []) → Has name k (slice_index_or (a ∷ b ∷ []) k d)
both name a b p q zero d below = p
both name a b p q (suc zero) d below = q
both name a b p q (suc (suc k)) d below = absurd (omega arith)

stays : (room : ℕ) (name : seen.Name) (old : List seen.Hand) (new d : seen.Hand)
    → length old ≡ 2 → Each (IsReady room name) 2 old → SamePasses (slice_index_or old 1 d) new
    → AllPasses 0 name (slice_set old 1 new)
stays room name [] new d two ready same = absurd (omega arith)
stays room name (a ∷ []) new d two ready same = absurd (omega arith)
stays room name (a ∷ b ∷ c ∷ old) new d two ready same = absurd (omega arith)
stays room name (a ∷ b ∷ []) new d two ready same =
    both name a new (at_first room name 0 a (ready 0 a (omega arith)))
    (later name 1 b new (at_first room name 1 b (ready 1 b (omega arith))) same)

pub closed-requires-clause-passes : goal.closed-requires-clause-passes
closed-requires-clause-passes g c =
    let w = c.worked-pushed.ensures in
    let number : c.worked-pushed.new.lane.number ≡ 0 = w.lane.0 ∙ c.requires.two.2 in
    let name : c.worked-pushed.new.lane.name ≡ c.args.lane.name = w.lane.2 in
    let hands : List seen.Hand = slice_set c.args.hands.now 1 c.worked-pushed.new.hand in
    let all : AllPasses 0 c.args.lane.name hands =
    stays g.Q.Naming.capacity c.args.lane.name c.args.hands.now c.worked-pushed.new.hand
    c.index-hands-1.result c.requires.two.0 c.requires.ready
    w.hand in
    subst (λ n. AllPasses n c.worked-pushed.new.lane.name hands) (sym number)
    (subst (λ m. AllPasses 0 m hands) (sym name) all)
