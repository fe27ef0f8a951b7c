-- An adjoint from its parts.
use Rattle.std.proofs.Common.{◌≡◌, ℕ, Bool, List, ◌++◌, map, Result, Ok, Err, IfOk, IsOkAnd, refl, ap, sym, ◌∙◌}
use Rattle.fl_ast.specs.declared.stmt.Program.{Program}
use Rattle.fl_ast.specs.declared.stmt.Stmt.{Stmt}
use Rattle.fl_ast.specs.declared.adjoint.AStmt.{AStmt}
use Rattle.fl_ast.specs.declared.adjoint.Adjoint.{Adjoint}
use Rattle.fl_ast.specs.Tree.{stmt_trees, program_tree}
use Rattle.fl_ast.specs.AdjointTree.{AdjointStatement, AdjointSubroutine, adjoint_statements_of, adjoint_tree, astmt_tree}
use Rattle.fl_types.specs.declared.choice.Chosen.{Chosen}
use Rattle.adjoint_rules.specs.OwnNames.{adjoint_name}
use Rattle.adjoint_rules.specs.Scopes.{Scope, outermost}
use Rattle.adjoint_rules.specs.Declarations.{arguments, declarations, head}
use Rattle.adjoint_rules.specs.Forward.{forward_all}
use Rattle.adjoint_rules.specs.Reverse.{backward_all}
use Rattle.adjoint_rules.specs.Needed.{AreNeeded}
use Rattle.adjoint_rules.specs.Adjoint.{adjoint_in, adjoint_of}
use Rattle.adjoint_unit.specs.Adjoints.{IsAdjointOf}
use Rattle.adjoint_unit.specs.declared.unit.Front.{Front}

abbrev pub front_for : Program → (List ℕ → Bool) → Front
front_for p active = record {
  name = adjoint_name p.name;
  args = arguments active p.args;
  decls = declarations active p.line p.decls (stmt_trees p.body);
}

abbrev made : Front → List AdjointStatement → List AdjointStatement → Program → AdjointSubroutine
made f fs rs q = record {
  name = f.name;
  args = f.args;
  decls = f.decls;
  forward = adjoint_statements_of fs;
  reverse = adjoint_statements_of rs;
  primal = program_tree q;
}

pub whole : {E F G H I : Type 0} (p : Program) (active needed : List ℕ → Bool) (choices : List Chosen) (scope : Scope) (body : List Stmt)
    (front : Result Front E) (forward : Result (List AStmt) F) (backward : Result (List AStmt) G) (primal : Result Program H) (result : Result Adjoint I)
    → scope ≡ outermost p active needed choices → body ≡ p.body
    → IfOk front (λ f. f ≡ front_for p active)
    → IfOk forward (λ ss. map astmt_tree ss ≡ head scope p ++ forward_all (stmt_trees p.body) scope)
    → IfOk backward (λ ss. map astmt_tree ss ≡ backward_all (stmt_trees body) scope)
    → IfOk primal (λ q. q ≡ p)
    → IfOk result (λ a. IsOkAnd front (λ f. IsOkAnd forward (λ fs. IsOkAnd backward (λ rs. IsOkAnd primal (λ q.
    a ≡ record { name = f.name; args = f.args; decls = f.decls; forward = fs; reverse = rs; primal = q })))))
    → IfOk result (λ a. adjoint_tree a ≡ adjoint_in (outermost p active needed choices) p)
whole p active needed choices scope body (Ok f) (Ok fs) (Ok rs) (Ok q) (Ok a) s b x y z w e =
    ap adjoint_tree e ∙ (ap (λ t. made t (map astmt_tree fs) (map astmt_tree rs) q) x
    ∙ (ap (λ t. made (front_for p active) t (map astmt_tree rs) q) y
    ∙ (ap (λ t. made (front_for p active) (head scope p ++ forward_all (stmt_trees p.body) scope) t q) z
    ∙ (ap (λ t. made (front_for p active) (head scope p ++ forward_all (stmt_trees p.body) scope) (backward_all (stmt_trees t) scope) q) b
    ∙ (ap (made (front_for p active) (head scope p ++ forward_all (stmt_trees p.body) scope) (backward_all (stmt_trees p.body) scope)) w
    ∙ ap (λ t. made (front_for p active) (head t p ++ forward_all (stmt_trees p.body) t) (backward_all (stmt_trees p.body) t) p) s)))))
whole p active needed choices scope body (Ok f) (Ok fs) (Ok rs) (Err q) (Ok a) s b x y z w e = absurd e
whole p active needed choices scope body (Ok f) (Ok fs) (Err rs) primal (Ok a) s b x y z w e = absurd e
whole p active needed choices scope body (Ok f) (Err fs) backward primal (Ok a) s b x y z w e = absurd e
whole p active needed choices scope body (Err f) forward backward primal (Ok a) s b x y z w e = absurd e
whole p active needed choices scope body front forward backward primal (Err a) s b x y z w e = tt

pub of_needed : {E : Type 0} (p : Program) (active needed : List ℕ → Bool) (choices : List Chosen) (result : Result Adjoint E) → AreNeeded p active needed
    → IfOk result (λ a. adjoint_tree a ≡ adjoint_of p active needed choices) → IfOk result (λ a. IsAdjointOf p active choices (adjoint_tree a))
of_needed p active needed choices (Ok a) n e = record { needed = needed; least = n; tree = e }
of_needed p active needed choices (Err x) n e = tt
