-- The number of a status.
use Rattle.std.specs.Prelude.{ℕ}
use Rattle.ending.specs.declared.status.Status.{Status}
use Rattle.ending.specs.declared.status.Status.TheVariants.{Done, BadWords, NoFile, Refused, BadData, Conflicted, Trapped, BadCertificate, OverLimit, ReadFault, WriteFault, NoMemory}

abbrev pub number_of : Status → ℕ
number_of Done = 0
number_of BadWords = 1
number_of NoFile = 2
number_of Refused = 3
number_of BadData = 4
number_of Conflicted = 5
number_of Trapped = 6
number_of BadCertificate = 7
number_of OverLimit = 8
number_of ReadFault = 9
number_of WriteFault = 10
number_of NoMemory = 11
