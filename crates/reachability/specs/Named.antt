-- Graphs of declared names, whose nodes in code are the names' positions in the declarations.
use Rattle.std.specs.Prelude.{◌≡◌, ◌<◌, ℕ, Bool, ◌&&◌, length, slice_index_or, List, filter, bytes_eq, Option, Some, None, position}
use Rattle.std.specs.List.{list_any, filter_map}
use Rattle.fl_ast.specs.declared.decl.Decl.{Decl}
use Rattle.reachability.specs.declared.closing.Link.{Link}
use Rattle.reachability.specs.Reached.{Edge, IsReached, IsAmong, Joins, IsMarked}

abbrev pub has_the_name : List ℕ → Decl → Bool
has_the_name x d = bytes_eq d.name x

abbrev pub is_declared : List Decl → List ℕ → Bool
is_declared decls x = list_any (has_the_name x) decls

abbrev pub are_both_declared : List Decl → Edge (List ℕ) → Bool
are_both_declared decls e = is_declared decls e.tail && is_declared decls e.head

-- reached from declared roots over edges between declared names
abbrev pub IsReachedName : List Decl → List (List ℕ) → List (Edge (List ℕ)) → List ℕ → Type 0
IsReachedName decls roots edges = IsReached (IsAmong (filter (is_declared decls) roots)) (Joins (filter (are_both_declared decls) edges))

-- ---- by positions

abbrev pub index_in : List Decl → List ℕ → Option ℕ
index_in decls x = position (has_the_name x) decls

abbrev pub link_between : Option ℕ → Option ℕ → Option Link
link_between (Some i) (Some j) = Some (record { tail = i; head = j })
link_between _ _ = None

abbrev pub link_in : List Decl → Edge (List ℕ) → Option Link
link_in decls e = link_between (index_in decls e.tail) (index_in decls e.head)

abbrev pub indexes_of : List Decl → List (List ℕ) → List ℕ
indexes_of decls xs = filter_map (index_in decls) xs

abbrev pub links_of : List Decl → List (Edge (List ℕ)) → List Link
links_of decls es = filter_map (link_in decls) es

-- the name of a declaration that is marked
abbrev pub IsNameAt : List Decl → List Bool → List ℕ → Type 0
IsNameAt decls marks x = (i : ℕ) × (i < length decls) × IsMarked marks i × ((d : Decl) → (slice_index_or decls i d).name ≡ x)
