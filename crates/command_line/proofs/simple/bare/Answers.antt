use Rattle.std.proofs.Common.{◌≡◌, ap, ◌∙◌, refl, true}
use Rattle.clap.specs.Words.{App}
use Rattle.clap.specs.Simple.{app_of_fields, on_top}
use Rattle.clap.specs.declared.builder.command.Command.{Command}
use Rattle.clap.specs.declared.builder.command.Command.TheOpen.{Command-F}
use Rattle.clap.specs.declared.builder.command.Command.TheViews.{out-Command}
use Rattle.command_line.proofs.simple.bare.Goals as goal

abbrev base : App → App
base = on_top (λ s. record s { no_binary_name = true; disable_help_flag = true })

settings : (f : Command-F Command)
    → app_of_fields (record f { no_binary_name = true; disable_help_flag = true })
    ≡ base (app_of_fields f)
settings f = refl

pub returns : goal.returns
returns c =
    let fields = c.disable_help_flag.ensures ∙ ap (λ (f : Command-F Command). record f
    { disable_help_flag = true }) c.no_binary_name.ensures in
    ap app_of_fields fields ∙ settings (out-Command c.new.result) ∙ ap base c.new.ensures.app
