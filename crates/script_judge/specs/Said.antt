-- What the formula of a script says, by which its split variables are judged.
use Rattle.std.specs.Prelude.{◌≡◌, List, ◌++◌, Option, Some, None}
use Rattle.script_shape.specs.Tree.{Script, formula, define}
use Rattle.script_shape.specs.Roles.{Leaf, script_leaves}
use Rattle.script_nodes.specs.Known.{Known, nothing_known}
use Rattle.script_nodes.specs.Definitions.{definition_value}
use Rattle.script_claims.specs.declared.claim.Claim.{Claim}
use Rattle.script_claims.specs.Claims.{Claims, formula_claims}

-- what is known behind a formula, and its hypotheses by parts and conjunctions
pub record Said : Type 0 where
  pub known : Known
  pub parts : List (List (List Claim))

-- what the formula claims, behind the definitions
abbrev pub claims_behind : Script → Known → Claims
claims_behind (formula f h) k = formula_claims f k
claims_behind (define x rest) k = claims_behind rest (definition_value x k)

-- what it says, where this is known before the first word
abbrev pub said_from : Script → Known → Said
said_from tree k = record {
  known = (claims_behind tree k).known;
  parts = (claims_behind tree k).sides.parts.before;
}

-- Leaves that begin with those of a script say what its formula does, and others nothing.
abbrev pub Says : List Leaf → Option Said → Type 0
Says leaves (Some f) = (tree : Script) × (rest : List Leaf) × (leaves ≡ script_leaves tree ++ rest)
    × (f ≡ said_from tree nothing_known)
Says leaves None = (tree : Script) (rest : List Leaf) → ¬ (leaves ≡ script_leaves tree ++ rest)
