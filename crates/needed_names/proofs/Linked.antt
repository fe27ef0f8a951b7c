-- Links from one node stand for the edges from its name.
use Rattle.std.proofs.Common.{◌≡◌, ℕ, List, [], ◌∷◌, Option, Some, None, map, refl, ap, ◌∙◌}
use Rattle.std.specs.List.{cons_option}
use Rattle.fl_ast.specs.declared.decl.Decl.{Decl}
use Rattle.reachability.specs.Named.{index_in, link_between, indexes_of, links_of}
use Rattle.adjoint_rules.specs.Needed.{edge_from}
use Rattle.needed_names.specs.Terms.{links_from}

one_more : (tail head : Option ℕ) (rest : List ℕ) → links_from tail (cons_option head rest) ≡ cons_option (link_between tail head) (links_from tail rest)
one_more None None rest = refl
one_more None (Some j) rest = refl
one_more (Some i) None rest = refl
one_more (Some i) (Some j) rest = refl

none_from : (tail : Option ℕ) → links_from tail [] ≡ []
none_from None = refl
none_from (Some i) = refl

pub links_are : (decls : List Decl) (x : List ℕ) (names : List (List ℕ)) → links_from (index_in decls x) (indexes_of decls names) ≡ links_of decls (map (edge_from x) names)
links_are decls x [] = none_from (index_in decls x)
links_are decls x (y ∷ names) =
    one_more (index_in decls x) (index_in decls y) (indexes_of decls names)
    ∙ ap (λ r. cons_option (link_between (index_in decls x) (index_in decls y)) r) (links_are decls x names)
