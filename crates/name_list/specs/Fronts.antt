-- Of a long list its first bytes decide.
use Rattle.std.specs.Prelude.{◌≡◌, ℕ, List, take, Option, None}
use Rattle.name_list.specs.declared.fault.ListFault.{ListFault}
use Rattle.name_list.specs.Lists.{IsFaultOf}

-- What is told of a list's first 65,540 bytes is told of the list: a sequence of bytes that begins
-- before byte 65,537 ends among them.
abbrev pub FrontsDecide : Type 0
FrontsDecide = (text : List ℕ) (o : Option ListFault)
    → IsFaultOf (take 65540 text) o → IsFaultOf text o

-- Where nothing is wrong with them they are all of it.
abbrev pub FaultlessAreWhole : Type 0
FaultlessAreWhole = (text : List ℕ) → IsFaultOf (take 65540 text) None → take 65540 text ≡ text
