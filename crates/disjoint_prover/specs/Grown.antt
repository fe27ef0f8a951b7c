-- Lists that grow where there is something to add.
use Rattle.std.specs.Prelude.{List, ◌++◌, Option, Some, None}

abbrev pub grown : {A : Type 0} → List A → Option (List A) → Option (List A)
grown xs None = None
grown xs (Some ys) = Some (xs ++ ys)
