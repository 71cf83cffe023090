-- The roots of a script's cases: what derivations of each use, and the tree of its boxes.
use Rattle.std.specs.Prelude.{◌≡◌, ◌≤◌, ◌+◌, ◌*◌, ◌^◌, ⊤, ℕ, List, [], ◌∷◌, length, map}
use Rattle.goals.specs.declared.line.Line.{Line}
use Rattle.goals.specs.declared.line.Line.TheVariants as line
use Rattle.script_claims.specs.declared.claim.Claim.{Claim}
use Rattle.script_grammar.specs.Spells.{View}
use Rattle.script_grammar.specs.Cases.{cases_of}
use Rattle.rule_universe.specs.Worlds.{World}
use Rattle.saturate.specs.Universes.{setting_of}
use Rattle.bisect.specs.declared.settler.State.{State}
use Rattle.settler.specs.Standing.{AreStates}
use Rattle.settler.specs.Answers.{Options, plan_of}
use Rattle.cert_checker.specs.declared.subject.Subject.{Subject}
use Rattle.tree_certificates.specs.Roots.{Root, AreRoots, steps_in_roots, lines_of_roots}
use Rattle.answer_certificates.specs.Scripts.{in_case}
use Rattle.answer_certificates.specs.Boxes.{boxes_of}

-- The root is that of the case in which these claims are assumed: the tree of its plan's boxes,
-- which stand as derivations over the universe of at most this height say.
pub record IsRootOf (s : View) (u : World) (height depth : ℕ) (claims : List Claim) (r : Root)
    : Type 0 where
  pub states : List ℕ → State
  pub are_states : AreStates (in_case u claims) (plan_of s claims depth) height states
  pub is : r ≡ record {
    setting = setting_of (in_case u claims);
    tree = boxes_of (plan_of s claims depth) states;
  }

-- one for each case, in their order
abbrev pub AreRootsOf : View → World → ℕ → ℕ → List (List Claim) → List Root → Type 0
AreRootsOf s u height depth [] [] = ⊤
AreRootsOf s u height depth (claims ∷ later) (r ∷ roots) =
    IsRootOf s u height depth claims r × AreRootsOf s u height depth later roots
AreRootsOf s u height depth _ _ = ⊥

-- how many steps a box may have in each case: one for each hypothesis, each node and the piece, and
-- one for each instance in each round
abbrev pub most_in : World → ℕ → ℕ
most_in u rounds = 2 ^ 16 + length u.nodes + 1 + rounds * length u.instances

-- The script's cases have roots that have a certificate, with so many steps a box; they have no
-- more boxes than are allowed, and their leaves show these lines.
pub record HasRoots (s : View) (u : World) (o : Options) (t : Subject) (most : ℕ)
    (lines : List Line) : Type 0 where
  pub roots : List Root
  pub are_of : AreRootsOf s u o.rounds o.depth (cases_of s) roots
  pub are : AreRoots t u.hints o.rounds most u.goals u.nodes 0 roots
  pub few : steps_in_roots most roots ≤ most * o.boxes
  pub shown : lines ≡ lines_of_roots o.rounds u.goals roots (map (λ g. line.Empty) u.goals)
