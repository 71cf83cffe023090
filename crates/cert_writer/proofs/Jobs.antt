-- What is said of a job's script, universe and options is said of the same job later, when other
-- claims are assumed.
use Rattle.std.specs.Prelude.{◌≡◌}
use Rattle.std.proofs.Common.{sym, subst, ◌∙◌}
use Rattle.proof_options.specs.declared.options.Options.{Options}
use Rattle.script_grammar.specs.Spells.{View}
use Rattle.rule_universe.specs.Worlds.{World}
use Rattle.settler.specs.declared.job.Job.{Job}
use Rattle.settler.specs.Jobs.{IsSameJob}
use Rattle.cert_writer.specs.Cases.{bare}

module _ (old new : Job) (same : IsSameJob old new) (u : bare new.universe ≡ bare old.universe)
    (P : View → World → Options → Type 0) where
  pub on_later : P old.script.now (bare old.universe) old.options
      → P new.script.now (bare new.universe) new.options
  on_later p =
      subst (λ (v : View). P v (bare new.universe) new.options) (sym same.script)
      (subst (λ (w : World). P old.script.now w new.options) (sym u)
      (subst (λ (o : Options). P old.script.now (bare old.universe) o) (sym same.options) p))

  pub on_earlier : P new.script.now (bare new.universe) new.options
      → P old.script.now (bare old.universe) old.options
  on_earlier p =
      subst (λ (v : View). P v (bare old.universe) old.options) same.script
      (subst (λ (w : World). P new.script.now w old.options) u
      (subst (λ (o : Options). P new.script.now (bare new.universe) o) same.options p))

pub same_twice : (a b c : Job) → IsSameJob a b → IsSameJob b c → IsSameJob a c
same_twice a b c p q = record {
  script = q.script ∙ p.script;
  cases = q.cases ∙ p.cases;
  options = q.options ∙ p.options;
}
