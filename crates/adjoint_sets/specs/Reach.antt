-- What edges between names lead to, as a list. `reached_is` says that it has exactly what is reached.
use Rattle.std.specs.Prelude.{ℕ, Bool, if◌then◌else◌, List, [], ◌∷◌, filter}
use Rattle.fl_ast.specs.declared.decl.Decl.{Decl}
use Rattle.fl_types.specs.Sharing.{has_name}
use Rattle.reachability.specs.Reached.{Edge}
use Rattle.reachability.specs.Named.{is_declared, are_both_declared}

-- the names of s and those that the edges lead to from them: where the first edge begins at one that the others lead to, its head is one more to begin with
abbrev pub reach : List (Edge (List ℕ)) → List (List ℕ) → List (List ℕ)
reach [] s = s
reach (e ∷ es) s = if has_name e.tail (reach es s) then reach es (e.head ∷ reach es s) else reach es s

-- the name is reached from declared roots over edges between declared names
abbrev pub is_reached_name : List Decl → List (List ℕ) → List (Edge (List ℕ)) → List ℕ → Bool
is_reached_name decls roots edges x = has_name x (reach (filter (are_both_declared decls) edges) (filter (is_declared decls) roots))
