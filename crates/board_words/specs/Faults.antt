-- The order of the faults of one text line.
use Rattle.std.specs.Prelude.{ℕ, nat_lt, if◌then◌else◌, Option, Some, None, List, [], ◌∷◌}
use Rattle.board_words.specs.declared.faults.FaultKind.{FaultKind}
use Rattle.board_words.specs.declared.faults.FaultKind.TheVariants as faults

-- the place of a kind in the order
abbrev pub rank : FaultKind → ℕ
rank faults.TooLong = 0
rank faults.NoLog = 1
rank faults.BadByte = 2
rank faults.NoHeader = 3
rank faults.UnknownWord = 4
rank faults.WrongCount = 5
rank faults.BadNumber = 6
rank faults.BadName = 7
rank faults.OutOfOrder = 8
rank faults.Twice = 9
rank faults.NotThere = 10
rank faults.BadParent = 11
rank faults.BadUnlazy = 12
rank faults.BadMask = 13
rank faults.BadOwner = 14
rank faults.BadRun = 15
rank faults.TooMany = 16
rank faults.LogTooLarge = 17
rank faults.NotForChain = 18
rank faults.NotForHotplug = 19
rank faults.NotForSleep = 20

abbrev pub earlier : FaultKind → Option FaultKind → Option FaultKind
earlier kind None = Some kind
earlier kind (Some other) = if nat_lt (rank other) (rank kind) then Some other else Some kind

-- of several faults the first in the order
abbrev pub first_in_order : List FaultKind → Option FaultKind
first_in_order [] = None
first_in_order (kind ∷ kinds) = earlier kind (first_in_order kinds)
