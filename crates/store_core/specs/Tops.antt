-- What the top of a tape is.
use Rattle.std.specs.Prelude.{◌≡◌, List, []}
use Rattle.store_core.specs.Tapes.{Item, IsWordOnTop, IsListOnTop}
use Rattle.store_core.specs.declared.tape.Top.{Top}
use Rattle.store_core.specs.declared.tape.Top.TheVariants.{Nothing, Word, List as list}

abbrev pub IsTop : Top → List Item → Type 0
IsTop Nothing items = items ≡ []
IsTop Word items = IsWordOnTop items
IsTop list items = IsListOnTop items
