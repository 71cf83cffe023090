use Rattle.rounding.proofs.ErrorLaws.{error_lies}
use Rattle.rounding.proofs.Meet.{possible_by_cases}
use Rattle.rounding.proofs.laws.errors.Goals as goal

pub returns : goal.returns
returns c = record { lies = error_lies; meet = possible_by_cases }
