-- What the owner finds when it empties a lane whose passes are back.
use Rattle.std.proofs.Common.{◌≡◌, ℕ, zero, suc, ◌+◌, ◌<◌, slice_index_or, List, [], ◌∷◌, ◌++◌}
use Rattle.std.proofs.Common.{length, take, drop, sym, refl, ap, ◌∙◌, subst, append-nil, arith}
use Rattle.std.specs.List.{sum_by}
use Rattle.box_deques.specs.declared.rule.View.{View}
use Rattle.box_deques.specs.Rule.{Gone, paths_of, Tells, Alone, WasEmpty}
use Rattle.box_deques.specs.Views.{Take}
use Rattle.box_deques.specs.Seen as seen
use Rattle.box_deques.specs.Seen.{takes_on, seat_at}
use Rattle.box_deques.proofs.Count.{count}
use Rattle.box_deques.proofs.Fill.{next_path}

pub paths_length : (h : List Gone) → length (paths_of h) ≡ length h
paths_length [] = refl
paths_length (x ∷ h) = let ih = paths_length h in omega arith

pub at_end : (v : View) → v.party ≡ 0 → v.made ≡ length v.back → WasEmpty v
    → length v.pushed ≡ length v.takes + sum_by length v.back
at_end v boss all w =
    let t : Tells v [] = w.1.told boss all in
    ap length (t.whole ∙ append-nil (paths_of t.history)) ∙ paths_length t.history ∙ count v [] t

pub at_take : (v : View) (p : List ℕ) (rest : List (List ℕ)) (b i : ℕ) (pushed : List (List ℕ))
    → Alone v (p ∷ rest) → v.party ≡ 0 → v.made ≡ length v.back → v.pushed ≡ pushed
    → length v.takes + sum_by length v.back ≡ b + i
    → take (i + 1) (drop b pushed) ≡ take i (drop b pushed) ++ p ∷ []
at_take v p rest b i pushed alone boss all is sum =
    let t : Tells v (p ∷ rest) = alone boss all in
    subst (λ l. take (i + 1) (drop b l) ≡ take i (drop b l) ++ p ∷ []) (sym t.whole ∙ is) (next_path
    b i (paths_of t.history) p rest (paths_length t.history ∙ count v (p ∷ rest) t ∙ sum))

pub takes_on_length : (lane : ℕ) (hs : List seen.Hand) → length (takes_on lane hs) ≡ length hs
takes_on_length lane [] = refl
takes_on_length lane (h ∷ hs) = let ih = takes_on_length lane hs in omega arith

pub takes_on_more : (lane : ℕ) (hs : List seen.Hand) (k : ℕ) (d : seen.Hand)
    → k < length hs → takes_on lane (take (k + 1) hs)
    ≡ takes_on lane (take k hs) ++ (seat_at (slice_index_or hs k d).seats lane).takes ∷ []
takes_on_more lane [] k d below = absurd (omega arith)
takes_on_more lane (h ∷ hs) zero d below = refl
takes_on_more lane (h ∷ hs) (suc k) d below =
    let n : suc k + 1 ≡ suc (k + 1) = omega arith in
    ap (λ j. takes_on lane (take j (h ∷ hs))) n
    ∙ ap (λ (l : List (List Take)). (seat_at h.seats lane).takes ∷ l)
    (takes_on_more lane hs k d (omega arith))

pub takes_on_at : (lane : ℕ) (hs : List seen.Hand) (k : ℕ) (d : seen.Hand) → k < length hs
    → slice_index_or (takes_on lane hs) k [] ≡ (seat_at (slice_index_or hs k d).seats lane).takes
takes_on_at lane [] k d below = absurd (omega arith)
takes_on_at lane (h ∷ hs) zero d below = refl
takes_on_at lane (h ∷ hs) (suc k) d below = takes_on_at lane hs k d (omega arith)
