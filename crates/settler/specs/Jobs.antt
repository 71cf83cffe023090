-- What is to be proved.
use Rattle.std.specs.Prelude.{◌≡◌, List}
use Rattle.proof_options.specs.Ranges.{AreAllowed}
use Rattle.script_claims.specs.declared.claim.Claim.{Claim}
use Rattle.script_grammar.specs.Cases.{cases_of}
use Rattle.universe.specs.Universes.{IsUniverse, IsTooLarge}
use Rattle.settler.specs.declared.job.Job.{Job}
use Rattle.settler.specs.Cases.{AreCases}

-- All of it is the script's, which hasn't too many expressions: its universe, in which the claims
-- of some case may be assumed, and its cases, as they are cut with such options. These are in
-- their ranges.
pub record IsJob (j : Job) : Type 0 where
  pub universe : (before : List Claim) × IsUniverse j.script.now before j.universe
  pub few : ¬ IsTooLarge j.script.now
  pub cases : AreCases j.script.now j.options.depth (cases_of j.script.now) j.cases.items
  pub allowed : AreAllowed j.options

-- It is the same job, but for what is assumed in its universe.
pub record IsSameJob (old new : Job) : Type 0 where
  pub script : new.script.now ≡ old.script.now
  pub cases : new.cases.items ≡ old.cases.items
  pub options : new.options ≡ old.options
