-- What the ledger of a closed lane says.
use Rattle.std.specs.Prelude.{◌≡◌, ◌≢◌, ℕ, zero, suc, ◌+◌, ◌<◌, List, [], ◌∷◌, map, length}
use Rattle.std.specs.Prelude.{slice_set, slice_index_or, All, ◌⊎◌, ◌++◌}
use Rattle.fx_edge.specs.declared.ledger.Ledger.{Ledger}
use Rattle.box_deques.specs.Views.{Take}
use Rattle.box_deques.specs.Rule.{Gone, taken_by, paths_of}
use Rattle.box_deques.specs.Seen.{Lane, Hand, seat_at}

-- the worker of a party, where the owner's number is `me`
abbrev pub worker_of : ℕ → ℕ → ℕ
worker_of me zero = me
worker_of me (suc k) = k

-- the history with the workers' numbers
abbrev pub workers : ℕ → List Gone → List Gone
workers me es = map (λ e. (worker_of me e.0, e.1)) es

-- the list after these takes of a worker were written into it, each at its place
abbrev pub writes : ℕ → List Take → List Gone → List Gone
writes who [] xs = xs
writes who (t ∷ ts) xs = writes who ts (slice_set xs t.0 (who, t.1))

-- the same of several workers' takes, from the worker k on
abbrev pub writes_all : ℕ → List (List Take) → List Gone → List Gone
writes_all k [] xs = xs
writes_all k (ts ∷ tss) xs = writes_all (k + 1) tss (writes k ts xs)

-- the places of all takes are below n
abbrev pub AllBelow : ℕ → List (List Take) → Type 0
AllBelow n tss = (k : ℕ) (j : ℕ) (d : Take) → k < length tss → j < length (slice_index_or tss k [])
    → (slice_index_or (slice_index_or tss k []) j d).0 < n

-- what the ledger says of each other worker is what its hand counted on this lane
abbrev pub AreHands : ℕ → List Hand → List Gone → Type 0
AreHands lane hands takes = (k : ℕ) (d : Hand) → k < length hands → k ≢ lane
    → taken_by k 0 takes ≡ (seat_at (slice_index_or hands k d).seats lane).takes

-- What the ledger of a lane says that was closed with these hands: the pushes are the lane's, and
-- they are what was taken and then what stayed. The owner's takes stand under its number, each at
-- its place, those of each other hand under the hand's, and nobody else takes.
pub record IsLedgerOf (lane : Lane) (hands : List Hand) (ledger : Ledger) : Type 0 where
  pub pushes : ledger.pushes ≡ lane.pushed
  pub whole : ledger.pushes ≡ paths_of ledger.takes ++ ledger.left
  pub owner : taken_by lane.number 0 ledger.takes ≡ lane.takes
  pub takes : AreHands lane.number hands ledger.takes
  pub workers : All (λ take. (take.0 ≡ lane.number) ⊎ (take.0 < length hands)) ledger.takes
