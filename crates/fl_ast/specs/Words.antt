-- Words that name no variable.
use Rattle.std.specs.Prelude.{ℕ, List, [], ◌∷◌, ◌++◌, codes}

-- with a meaning in the language
abbrev pub own_words : List (List ℕ)
own_words =
    codes "if" ∷ codes "do" ∷ codes "else" ∷ codes "elseif" ∷ codes "end" ∷ codes "enddo" ∷ codes "endif" ∷ codes "endsubroutine"
    ∷ codes "call" ∷ codes "integer" ∷ codes "subroutine" ∷ codes "implicit" ∷ codes "max" ∷ codes "min" ∷ codes "abs" ∷ codes "mod"
    ∷ codes "merge" ∷ codes "int" ∷ []

-- that begin a construct outside the language
abbrev pub construct_words : List (List ℕ)
construct_words =
    codes "exit" ∷ codes "cycle" ∷ codes "goto" ∷ codes "return" ∷ codes "stop" ∷ codes "while" ∷ codes "contains" ∷ codes "allocate"
    ∷ codes "deallocate" ∷ codes "print" ∷ codes "write" ∷ codes "read" ∷ codes "select" ∷ codes "where" ∷ codes "forall" ∷ codes "use"
    ∷ codes "module" ∷ codes "program" ∷ codes "function" ∷ codes "real" ∷ codes "logical" ∷ codes "character" ∷ codes "complex"
    ∷ codes "double" ∷ codes "type" ∷ codes "common" ∷ codes "continue" ∷ codes "parameter" ∷ codes "dimension" ∷ codes "save"
    ∷ codes "block" ∷ []

abbrev pub reserved_words : List (List ℕ)
reserved_words = own_words ++ construct_words
