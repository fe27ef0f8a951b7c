-- What is said of a data file, a seed file or a direction file.
use Rattle.std.specs.Prelude.{ℕ, List, codes, Some, None}
use Rattle.ending.specs.declared.verdict.Verdict.TheVariants.{BadData, OverLimit}
use Rattle.ending.specs.Plan.{Saying}
use Rattle.data_io.specs.declared.data.DataError.{DataError}
use Rattle.data_io.specs.declared.data.DataError.TheVariants.{NotJson, NotObject, Missing, Extra, NotWhole, Shape, IndexRange, TooManySteps, Memory}
use Rattle.data_stages.specs.Lines.{file_line, name_line, number_line, shape_line}

abbrev pub say_data : List ℕ → DataError → Saying
say_data file NotJson = Some (BadData, file_line file (codes "not JSON"))
say_data file NotObject = Some (BadData, file_line file (codes "not an object"))
say_data file (Missing name) = Some (BadData, name_line file name (codes "missing"))
say_data file (Extra name) = Some (BadData, name_line file name (codes "extra"))
say_data file (NotWhole name at) = Some (BadData, number_line file name (codes "not whole") at)
say_data file (Shape name want got) = Some (BadData, shape_line file name want got)
say_data file (IndexRange name at) = Some (BadData, number_line file name (codes "index range") at)
say_data file TooManySteps = Some (OverLimit, codes "limit steps 1048576\n")
say_data file Memory = None
