-- What is said of a job's script and options is said of the same job.
use Rattle.std.proofs.Common.{sym, subst}
use Rattle.proof_options.specs.declared.options.Options.{Options}
use Rattle.script_grammar.specs.Spells.{View}
use Rattle.settler.specs.declared.job.Job.{Job}
use Rattle.settler.specs.Jobs.{IsSameJob}

module _ (old new : Job) (same : IsSameJob old new) (P : View → Options → Type 0) where
  pub on_new : P old.script.now old.options → P new.script.now new.options
  on_new p =
      subst (λ (s : View). P s new.options) (sym same.script)
      (subst (λ (o : Options). P old.script.now o) (sym same.options) p)

  pub on_old : P new.script.now new.options → P old.script.now old.options
  on_old p =
      subst (λ (s : View). P s old.options) same.script
      (subst (λ (o : Options). P new.script.now o) same.options p)
