-- The rule of a lane: what was taken, in order of place, and then what waits, is what was pushed,
-- and each party knows its takes.
use mathlib.Core.Option.{some}
use lib.ListN.{get_elem?}
use Rattle.std.specs.Prelude.{◌≡◌, ◌⊎◌, ◌==◌, ℕ, ◌+◌, ◌<◌, ◌≤◌, true, cond, List, [], ◌∷◌, ◌++◌}
use Rattle.std.specs.Prelude.{map, length, All, slice_index_or, Option, Some, None}
use Rattle.box_deques.specs.declared.rule.View.{View}
use Rattle.box_deques.specs.Views.{Take, pushing, taking}

-- the party of a take, and its path. A list of these is what left a lane, first to last
abbrev pub Gone : Type 0
Gone = ℕ × List ℕ

-- what a party took, with the places, which are counted from `at`
abbrev pub taken_by : ℕ → ℕ → List Gone → List Take
taken_by who at [] = []
taken_by who at (e ∷ es) =
    cond (e.0 == who) ((at, e.1) ∷ taken_by who (at + 1) es) (taken_by who (at + 1) es)

-- The paths of what left a lane, first to last.
abbrev pub paths_of : List Gone → List (List ℕ)
paths_of es = map (λ e. e.1) es

-- a task without a world belongs to every one
abbrev pub Belongs : {W : Type 0} → Option W → Option W → Type 0
Belongs None world = Unit {0}
Belongs (Some w) world = world ≡ Some w

-- a pass that stands for its party knows what it took. The parties up to `length back` have come
-- back, those up to `made` have a pass
pub record Fits (seat : ℕ → ℕ) (pushed : List (List ℕ)) (made : ℕ) (back : List (List Take))
    (history : List Gone) (port : ℕ) (v : View) : Type 0 where
  pub seated : port ≡ seat v.party
  pub took : v.takes ≡ taken_by v.party 0 history
  pub out : (v.party ≡ 0) ⊎ (length back < v.party)
  pub known : v.party ≤ made
  pub owns : v.party ≡ 0 → (v.pushed ≡ pushed) × (v.made ≡ made) × (v.back ≡ back)

-- what the owner knows once all passes are back, where these paths wait: the history, which the
-- parties' takes make up
pub record Tells (v : View) (waiting : List (List ℕ)) : Type 0 where
  pub history : List Gone
  pub whole : v.pushed ≡ paths_of history ++ waiting
  pub took : v.takes ≡ taken_by 0 0 history
  pub parties : All (λ e. e.0 ≤ length v.back) history
  pub returned : (k : ℕ) → k < length v.back
      → slice_index_or v.back k [] ≡ taken_by (k + 1) 0 history

-- Once as many passes are back as were made, the owner knows the history where these paths wait.
abbrev pub Alone : View → List (List ℕ) → Type 0
Alone v waiting = v.party ≡ 0 → v.made ≡ length v.back → Tells v waiting

-- There is a lawful state of the lane that this pass can't tell from the real one: this is what
-- left the lane, and these paths wait
pub record Fitting (v : View) (history : List Gone) (waiting : List (List ℕ)) : Type 0 where
  pub took : v.takes ≡ taken_by v.party 0 history
  pub parties : v.party ≡ 0 → All (λ e. e.0 ≤ v.made) history
  pub whole : v.party ≡ 0 → v.pushed ≡ paths_of history ++ waiting
  pub told : Alone v waiting

-- so with nothing in it
abbrev pub WasEmpty : View → Type 0
WasEmpty v = (history : List Gone) × Fitting v history []

-- so with this path first, at this place
abbrev pub WasFirst : View → ℕ → List ℕ → Type 0
WasFirst v place path = (history : List Gone) × (rest : List (List ℕ)) × (place ≡ length history)
    × Fitting v history (path ∷ rest)

module _ {T : Type 0} (place : T → ℕ) (path : T → List ℕ) (fits : T → Type 0) (capacity : ℕ) where
  -- the tasks have the places from n on
  abbrev pub Waits : ℕ → List T → Type 0
  Waits n [] = Unit {0}
  Waits n (t ∷ ts) = (place t ≡ n) × fits t × Waits (n + 1) ts

  -- The lane keeps its rule: these tasks wait in it, its pushes are within its capacity, and what
  -- each live pass knows fits.
  pub record Kept (items : List T) (views : List View) : Type 0 where
    pub history : List Gone
    pub pushed : List (List ℕ)
    pub made : ℕ
    pub back : List (List Take)
    pub seat : ℕ → ℕ
    pub whole : pushed ≡ paths_of history ++ map path items
    pub waits : Waits (length history) items
    pub room : length pushed ≤ capacity
    pub parties : All (λ e. e.0 ≤ made) history
    pub returned : (k : ℕ) → k < length back → slice_index_or back k [] ≡ taken_by (k + 1) 0 history
    pub few : length back ≤ made
    pub each : (port : ℕ) (v : View) → get_elem? views port ≡ some v → v.live ≡ true
        → Fits seat pushed made back history port v

  -- one task left, the first, and the pass knows it with its place
  abbrev pub Takes1 : View → List T → View → Type 0
  Takes1 v [] w = ⊥
  Takes1 v (x ∷ y ∷ xs) w = ⊥
  Takes1 v (x ∷ []) w = (w ≡ taking v (place x) (path x)) × fits x × (length v.takes ≤ place x)
      × (place x < capacity) × WasFirst v (place x) (path x)

  -- A push adds one task, and the pass knows its path as the last that was pushed.
  abbrev pub Adds : View → List T → View → Type 0
  Adds v [] w = ⊥
  Adds v (x ∷ y ∷ xs) w = ⊥
  Adds v (x ∷ []) w = w ≡ pushing v (path x)
