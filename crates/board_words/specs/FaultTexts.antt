-- What the row of a fault calls it.
use Rattle.std.specs.Prelude.{ℕ, List, codes}
use Rattle.board_words.specs.declared.faults.FaultKind.{FaultKind}
use Rattle.board_words.specs.declared.faults.FaultKind.TheVariants as faults

abbrev pub fault_text : FaultKind → List ℕ
fault_text faults.TooLong = codes "too long"
fault_text faults.NoLog = codes "no log"
fault_text faults.BadByte = codes "bad byte"
fault_text faults.NoHeader = codes "no header"
fault_text faults.UnknownWord = codes "unknown word"
fault_text faults.WrongCount = codes "wrong count"
fault_text faults.BadNumber = codes "bad number"
fault_text faults.BadName = codes "bad name"
fault_text faults.OutOfOrder = codes "out of order"
fault_text faults.Twice = codes "twice"
fault_text faults.NotThere = codes "not there"
fault_text faults.BadParent = codes "bad parent"
fault_text faults.BadUnlazy = codes "bad unlazy"
fault_text faults.BadMask = codes "bad mask"
fault_text faults.BadOwner = codes "bad owner"
fault_text faults.BadRun = codes "bad run"
fault_text faults.TooMany = codes "too many"
fault_text faults.LogTooLarge = codes "log too large"
fault_text faults.NotForChain = codes "not for a chain"
fault_text faults.NotForHotplug = codes "not for hotplug"
fault_text faults.NotForSleep = codes "not for sleep"
