-- Positions and names of joined lists.
use Rattle.std.proofs.Common.{◌≡◌, ℕ, List, ◌++◌, refl, ap, sym, ◌∙◌, append_assoc}
use Rattle.std.specs.List.{flat_map}
use Rattle.std.proofs.lemmas.Grind.{flat_map-append}
use Rattle.std.proofs.lemmas.List.Elements.{filter_map-append}
use Rattle.fl_ast.specs.declared.decl.Decl.{Decl}
use Rattle.reachability.specs.Reached.{Edge}
use Rattle.reachability.specs.Named.{index_in, link_in, indexes_of, links_of}
use Rattle.adjoint_rules.specs.Occurrences.{Factor, Occurrence}
use Rattle.adjoint_rules.specs.Needed.{names_in_factor, names_in_occurrence}

-- the names of factors, and of occurrences
abbrev pub of_factors : List Factor → List (List ℕ)
of_factors fs = flat_map names_in_factor fs

abbrev pub of_occurrences : List Occurrence → List (List ℕ)
of_occurrences os = flat_map names_in_occurrence os

pub indexes_joined : (decls : List Decl) (a b : List (List ℕ)) → indexes_of decls (a ++ b) ≡ indexes_of decls a ++ indexes_of decls b
indexes_joined decls a b = filter_map-append (index_in decls) a b

pub links_joined : (decls : List Decl) (a b : List (Edge (List ℕ))) → links_of decls (a ++ b) ≡ links_of decls a ++ links_of decls b
links_joined decls a b = filter_map-append (link_in decls) a b

two_lists : {X : Type 0} (a b c d : List X) → a ≡ c → b ≡ d → a ++ b ≡ c ++ d
two_lists a b c d e f = rw (e, f) refl

-- the positions of two lists of occurrences
pub both : (decls : List Decl) (xs ys : List Occurrence) (a b : List ℕ) → a ≡ indexes_of decls (of_occurrences xs) → b ≡ indexes_of decls (of_occurrences ys)
    → a ++ b ≡ indexes_of decls (of_occurrences (xs ++ ys))
both decls xs ys a b e f =
    two_lists a b (indexes_of decls (of_occurrences xs)) (indexes_of decls (of_occurrences ys)) e f
    ∙ (sym (indexes_joined decls (of_occurrences xs) (of_occurrences ys)) ∙ ap (indexes_of decls) (sym (flat_map-append names_in_occurrence xs ys)))

-- further factors
pub further : (decls : List Decl) (fs gs : List Factor) (names : List (List ℕ)) (at : List ℕ) → of_factors gs ≡ names → at ≡ indexes_of decls (of_factors fs)
    → at ++ indexes_of decls names ≡ indexes_of decls (of_factors (fs ++ gs))
further decls fs gs names at e f =
    two_lists at (indexes_of decls names) (indexes_of decls (of_factors fs)) (indexes_of decls (of_factors gs)) f (ap (indexes_of decls) (sym e))
    ∙ (sym (indexes_joined decls (of_factors fs) (of_factors gs)) ∙ ap (indexes_of decls) (sym (flat_map-append names_in_factor fs gs)))

-- lists that grow twice
pub grown_twice : {X : Type 0} (old mid new a b : List X) → mid ≡ old ++ a → new ≡ mid ++ b → new ≡ old ++ (a ++ b)
grown_twice old mid new a b m n = n ∙ (rw m (append_assoc old a b))
