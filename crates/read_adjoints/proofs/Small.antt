-- The numbers in an adjoint's declarations are those of the program's.
use Rattle.std.proofs.Common.{◌≡◌, ℕ, Bool, true, false, if◌then◌else◌, List, [], ◌∷◌, ◌++◌, map, flat_map, refl, sym, ap, subst}
use Rattle.std.specs.List.{list_all}
use Rattle.fl_ast.specs.declared.decl.Decl.{Decl}
use Rattle.fl_ast.specs.declared.adjoint.Adjoint.{Adjoint}
use Rattle.fl_ast.specs.declared.stmt.Program.{Program}
use Rattle.fl_ast.specs.declared.kind.Kind.TheVariants as kind
use Rattle.fl_ast.specs.Tree.{Statements, stmt_trees}
use Rattle.fl_ast.specs.AdjointTree.{AdjointSubroutine, adjoint_tree}
use Rattle.fl_types.specs.declared.choice.Chosen.{Chosen}
use Rattle.fl_printer.specs.Small.{are_small, is_small_dim}
use Rattle.adjoint_rules.specs.OwnNames.{k_name, w_name, t_name}
use Rattle.adjoint_rules.specs.Clauses.{bound_names, loop_numbers_in}
use Rattle.adjoint_rules.specs.Declarations.{without_intent, adjoint_decl, declared_with_adjoint, data_bytes, own_decl, index_decl, own_decls, declarations}
use Rattle.adjoint_rules.specs.Adjoint.{adjoint_of}
use Rattle.adjoint_choices.specs.Choosing.{choices_of}
use Rattle.adjoint_sets.specs.Names.{is_active}
use Rattle.readable_adjoints.specs.Fitting.{IsReadableWithRoom}
use Rattle.readable_adjoints.proofs.Every.{Every, every_append, every_map, every_flat, every_told, told_every, every_is, every_any}
use Rattle.asked_adjoints.proofs.Whole.{asked}
use Rattle.printed_adjoints.proofs.ReadAdjointUnits.{adjoints_read}
use Rattle.read_adjoints.specs.Reading.{AskedAdjointsAreRead}

abbrev IsSmall : Decl → Type 0
IsSmall d = list_all is_small_dim d.dims ≡ true

declared_small : (active : List ℕ → Bool) (d : Decl) → IsSmall d → Every IsSmall (declared_with_adjoint active d)
declared_small active d h = at (active d.name)
  where
    at : (b : Bool) → Every IsSmall (if b then without_intent d ∷ adjoint_decl d ∷ [] else without_intent d ∷ [])
    at true = (h, (h, tt))
    at false = (h, tt)

own_small : (line : ℕ) (ds : List Decl) (body : Statements) → Every IsSmall (own_decls line ds body)
own_small line ds body =
    let names : List (List ℕ) = flat_map bound_names (loop_numbers_in body) ++ k_name ∷ w_name ∷ [] in
    every_append IsSmall (map (index_decl line) names) (own_decl line kind.Ring (data_bytes ds) t_name ∷ []) (every_map IsSmall (index_decl line) names (every_any (λ x. IsSmall (index_decl line x)) (λ x. refl) names)) (refl, tt)

declarations_small : (active : List ℕ → Bool) (line : ℕ) (ds : List Decl) (body : Statements) → are_small ds ≡ true → are_small (declarations active line ds body) ≡ true
declarations_small active line ds body h =
    told_every (λ (d : Decl). list_all is_small_dim d.dims) (declarations active line ds body)
    (every_append IsSmall (flat_map (declared_with_adjoint active) ds) (own_decls line ds body)
    (every_flat IsSmall (declared_with_adjoint active) ds (every_is IsSmall (λ d. Every IsSmall (declared_with_adjoint active d)) (declared_small active) ds (every_told (λ (d : Decl). list_all is_small_dim d.dims) ds h)))
    (own_small line ds body))

decls_of : (p : Program) (active needed : List ℕ → Bool) (choices : List Chosen) (a : Adjoint) → adjoint_tree a ≡ adjoint_of p active needed choices → a.decls ≡ declarations active p.line p.decls (stmt_trees p.body)
unfolding adjoint_of
decls_of p active needed choices a e = ap (λ (t : AdjointSubroutine). t.decls) e

pub read : AskedAdjointsAreRead
read p of wrt needed a text t small e f =
    let active : List ℕ → Bool = is_active p of wrt in
    let R : IsReadableWithRoom a = asked p of wrt needed a t e in
    let decls = decls_of p active needed (choices_of p active) a e in
    adjoints_read a text R.readable (subst (λ (ds : List Decl). are_small ds ≡ true) (sym decls) (declarations_small active p.line p.decls (stmt_trees p.body) small)) R.room f
