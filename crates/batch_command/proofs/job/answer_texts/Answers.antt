use Rattle.std.proofs.Common.{rules, length}
use Rattle.settler.specs.Answers.{options_from}
use Rattle.batch_command.proofs.Placed.{placed}
use Rattle.batch_command.proofs.job.answer_texts.Goals as goal

pub returns : goal.returns
returns g c = placed (options_from c.args.options) c.args.texts.now c.run_jobs.result
    (length c.args.texts.now) (search rules) c.run_jobs.ensures.many c.run_jobs.ensures.results
