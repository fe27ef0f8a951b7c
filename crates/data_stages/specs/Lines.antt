-- Lines on faults of data files.
use Rattle.std.specs.Prelude.{ℕ, List, ◌++◌, codes, decimal}

abbrev pub file_line : List ℕ → List ℕ → List ℕ
file_line file fault = file ++ codes " file: " ++ fault ++ codes "\n"

abbrev pub name_line : List ℕ → List ℕ → List ℕ → List ℕ
name_line file name fault = file ++ codes " " ++ name ++ codes ": " ++ fault ++ codes "\n"

abbrev pub number_line : List ℕ → List ℕ → List ℕ → ℕ → List ℕ
number_line file name fault at = file ++ codes " " ++ name ++ codes ": " ++ fault ++ codes " at " ++ decimal at ++ codes "\n"

abbrev pub shape_line : List ℕ → List ℕ → ℕ → ℕ → List ℕ
shape_line file name want got = file ++ codes " " ++ name ++ codes ": shape " ++ decimal want ++ codes " " ++ decimal got ++ codes "\n"
