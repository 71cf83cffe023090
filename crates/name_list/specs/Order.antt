-- Which of two faults of a list comes first.
use Rattle.std.specs.Prelude.{◌==◌, ◌&&◌, ◌||◌, ℕ, nat_lt, Option, Some, None, if◌then◌else◌}
use Rattle.name_list.specs.declared.fault.ListKind.{ListKind}
use Rattle.name_list.specs.declared.fault.ListKind.TheVariants as kind
use Rattle.name_list.specs.declared.fault.ListFault.{ListFault}

-- the number of a kind, in the order of the table of kinds
abbrev pub number : ListKind → ℕ
number kind.NotText = 1
number kind.EmptyName = 2
number kind.Limit = 3

-- the one at the lower byte; of two at one byte that with the lower number
abbrev pub earlier : Option ListFault → Option ListFault → Option ListFault
earlier None o = o
earlier (Some f) None = Some f
earlier (Some f) (Some g) =
    if nat_lt g.at f.at || ((g.at == f.at) && nat_lt (number g.kind) (number f.kind))
    then Some g else Some f
