-- Laws of what specs/Starts defines.
use Rattle.std.specs.Prelude.{◌≡◌, ◌==◌, ◌<◌, ℕ, cond, List, [], ◌∷◌, All, length, slice_index_or}
use Rattle.std.specs.Prelude.{Some}
use Rattle.box_deques.specs.Seen.{Name, seat_at}
use Rattle.box_workers.specs.declared.post.Post.{Post}
use Rattle.box_workers.specs.Starts.{IsThief}

-- the post of the worker k of n: its lane has that number, and was pushed the root if it is the
-- first; its hand has its passes, and neither counted a take
pub record IsStart {E Q : Type 0} (n capacity : ℕ) (names : ℕ → Name) (k : ℕ)
    (post : Post E Q) : Type 0 where
  pub number : post.lane.number ≡ k
  pub hands : post.lane.hands ≡ n
  pub name : post.lane.name ≡ names k
  pub takes : post.lane.takes ≡ []
  pub pushed : post.lane.pushed ≡ cond (k == 0) ([] ∷ []) []
  pub hand : post.hand.number ≡ k
  pub long : length post.hand.seats ≡ n
  pub seats : (j : ℕ) → j < n → seat_at post.hand.seats j
      ≡ record { hand = k; room = capacity; lane = Some (names j); takes = []; empty = 0 }
  pub thieves : All (IsThief n names k) post.thieves.items

-- so do all
abbrev pub AreStarts : {E Q : Type 0} → ℕ → (ℕ → Name) → List (Post E Q) → Type 0
AreStarts {E} {Q} capacity names posts = (k : ℕ) (d : Post E Q) → k < length posts
    → IsStart (length posts) capacity names k (slice_index_or posts k d)
