-- A set that has exactly the active or the needed names tells them as the definition does.
use Rattle.std.proofs.Common.{◌≡◌, ◌↔◌, ℕ, Bool, true, false, ◌&&◌, List, map, refl, sym, ◌∙◌}
use Rattle.std.proofs.lemmas.Bool.{and_parts, and_from}
use Rattle.fl_ast.specs.declared.stmt.Program.{Program}
use Rattle.fl_ast.specs.Tree.{stmt_trees}
use Rattle.fl_types.specs.Sharing.{has_name}
use Rattle.activity.specs.Active.{program_flows, turned, IsActive, AreActive}
use Rattle.adjoint_rules.specs.Needed.{kinds_of, read_by_all, restorings_in, IsNeeded, AreNeeded}
use Rattle.adjoint_sets.specs.Reach.{is_reached_name}
use Rattle.adjoint_sets.specs.Names.{is_active, is_needed}
use Rattle.adjoint_sets.proofs.Reaching.{reached_name}

-- functions that agree everywhere are the same
same_functions : {A B : Type 0} {f g : A → B} → ((x : A) → f x ≡ g x) → f ≡ g
same_functions h = λ i x. h x i

same_tests : {P : Type 0} (a b : Bool) → (a ≡ true) ↔ P → (b ≡ true) ↔ P → a ≡ b
same_tests true b f g = sym (g.1 (f.0 refl))
same_tests false true f g = f.1 (g.0 refl)
same_tests false false f g = refl

active_told : (p : Program) (of wrt : List (List ℕ)) (x : List ℕ) → (is_active p of wrt x ≡ true) ↔ IsActive p of wrt x
unfolding is_active
active_told p of wrt x =
    let a = reached_name p.decls wrt (program_flows p) x in
    let b = reached_name p.decls of (map turned (program_flows p)) x in (
      λ e.
          let both = and_parts (is_reached_name p.decls wrt (program_flows p) x) (is_reached_name p.decls of (map turned (program_flows p)) x) e in
          (a.0 both.0, b.0 both.1),
      λ h. and_from (is_reached_name p.decls wrt (program_flows p) x) (is_reached_name p.decls of (map turned (program_flows p)) x) (a.1 h.0) (b.1 h.1),
    )

pub active_is : (p : Program) (of wrt names : List (List ℕ)) → AreActive p of wrt names → (λ x. has_name x names) ≡ is_active p of wrt
active_is p of wrt names h = same_functions (λ x. same_tests (has_name x names) (is_active p of wrt x) (h x) (active_told p of wrt x))

needed_told : (p : Program) (active : List ℕ → Bool) (x : List ℕ) → (is_needed p active x ≡ true) ↔ IsNeeded p active x
unfolding is_needed
needed_told p active x = reached_name p.decls (read_by_all (kinds_of p active) (stmt_trees p.body)) (restorings_in (kinds_of p active) (stmt_trees p.body)) x

pub needed_is : (p : Program) (active needed : List ℕ → Bool) → AreNeeded p active needed → needed ≡ is_needed p active
needed_is p active needed h = same_functions (λ x. same_tests (needed x) (is_needed p active x) (h x) (needed_told p active x))
