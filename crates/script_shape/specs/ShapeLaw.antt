-- The stack after some words tells whether they begin a script, and whether they are one.
use Rattle.std.specs.Prelude.{◌≡◌, ℕ, ◌+◌, ◌<◌, ◌≤◌, List, [], ◌∷◌, length, take, map, Option, Some}
use Rattle.std.specs.Prelude.{None, Bool, true, false}
use Rattle.script_words.specs.declared.class.Class.{Class}
use Rattle.script_words.specs.Words.{Word, class_of}
use Rattle.script_shape.specs.declared.due.Due.{Due}
use Rattle.script_shape.specs.Tree.{IsScript, BeginsScript}
use Rattle.script_shape.specs.Shape.{step, role_next, run, start, may_end}
use Rattle.script_shape.specs.Roles.{Leaf, at, HasRoles}

-- The run of the stack comes through exactly on words that begin a script, and may end exactly on
-- whole scripts.
pub record ShapeIsExact : Type 0 where
  pub begins : (ws : List Word) (left : List Due) → run ws start ≡ Some left → BeginsScript ws
  pub refused : (ws : List Word) → run ws start ≡ None → ¬ BeginsScript ws
  pub whole : (ws : List Word) (left : List Due) → run ws start ≡ Some left
      → may_end left ≡ true → IsScript ws
  pub open_ended : (ws : List Word) (left : List Due) → run ws start ≡ Some left
      → may_end left ≡ false → ¬ IsScript ws

-- a word with its role, and those of the words behind it
abbrev pub grown : Option Due → Word → Option (List Due) → (List Due → List Leaf) → List Leaf
grown (Some r) w (Some left) more = at r w ∷ more left
grown (Some r) w None more = []
grown None w left more = []

-- the words with the roles that the stack gives them, as far as it takes them
unfoldable pub roles_from : List Word → List Due → List Leaf
roles_from [] left = []
roles_from (w ∷ ws) left =
    grown (role_next (class_of w) left) w (step (class_of w) left) (roles_from ws)

-- Words have the same roles in every script that they begin, namely those that the stack gives.
abbrev pub RolesAreUnique : Type 0
RolesAreUnique = (ws : List Word) (leaves : List Leaf) → HasRoles ws leaves
    → leaves ≡ roles_from ws start

-- the role of the token that a step of the stack took, and what is due after it
abbrev pub Steps : Class → List Due → Option Due → List Due → Type 0
Steps class old (Some role) new = (step class old ≡ Some new) × (role_next class old ≡ Some role)
Steps class old None new = step class old ≡ None

-- How far words go with the grammar: so many of them begin a script, and with the next one they
-- don't.
pub record IsShapeOf (ws : List Word) (taken : ℕ) (is_whole : Bool) : Type 0 where
  pub within : taken ≤ length ws
  pub begins : BeginsScript (take taken ws)
  pub stops : taken < length ws → ¬ BeginsScript (take (taken + 1) ws)
  pub whole : is_whole ≡ true → (taken ≡ length ws) × IsScript ws
  pub not_whole : is_whole ≡ false → ¬ IsScript ws

-- Each of the words that were taken has this role in every script that they begin.
abbrev pub AreRolesOf : List Word → ℕ → List Due → Type 0
AreRolesOf ws taken roles = (leaves : List Leaf) → HasRoles (take taken ws) leaves
    → map (λ l. l.role) leaves ≡ roles

-- Words have one shape.
abbrev pub ShapeIsUnique : Type 0
ShapeIsUnique = (ws : List Word) (n m : ℕ) (a b : Bool) → IsShapeOf ws n a
    → IsShapeOf ws m b → (n ≡ m) × (a ≡ b)

-- All words have a shape.
abbrev pub ShapesExist : Type 0
ShapesExist = (ws : List Word) → (n : ℕ) × (b : Bool) × IsShapeOf ws n b
