-- Heads of loops and terms of increments, where statements of sweeps are made.
use Rattle.std.specs.Prelude.{◌≡◌, ℕ, Bool, true, ◌&&◌, if◌then◌else◌, List, [], map, length, Option, Some}
use Rattle.std.specs.List.{list_all}
use Rattle.fl_ast.specs.Tree.{Expression}
use Rattle.fl_ast.specs.Same.{same_expression}
use Rattle.fl_types.specs.Increment.{Signed, chain}
use Rattle.store_core.specs.declared.layout.Shape.{Shape}
use Rattle.resolved.specs.SlotTables.{Names}
use Rattle.resolved.specs.ResolvedExprs.{slot_name, expression_back, is_within}
use Rattle.resolved.specs.ResolvedStmts.{option_back}
use Rattle.resolved.specs.declared.resolved.ResolvedHead.{ResolvedHead}
use Rattle.fl_types.specs.Nests.{Head}
use Rattle.sweep_trees.specs.Standing.{is_ring_fit}
use Rattle.split_trees.specs.Codes.{is_kinded}
use Rattle.sweep_steps.specs.declared.step.Term.{Term}
use Rattle.sweep_steps.specs.Steps.{TermTree, term_tree}
use Rattle.sweep_steps.specs.StepsStand.{signed_back}
use Rattle.made_steps.specs.declared.terms.SignedExpr.{SignedExpr}
pub use Rattle.loop_scopes.specs.Scopes.{IsScope, IsOutside, are_declared_placed, OpeningIsOutside}

-- the head of a loop at a line
abbrev pub head_back : List Shape → ℕ → ResolvedHead → Head
head_back shapes line head = record {
  line = line;
  var = slot_name shapes head.variable;
  first = expression_back shapes head.first;
  last = expression_back shapes head.last;
  step = option_back shapes head.step;
}

-- ---- terms of increments

-- the further terms of what stands before a term: the target, or a chain that begins with it
abbrev pub front_terms : Expression → Expression → Option (List Signed)
front_terms t a = if same_expression t a then Some [] else chain t a

-- a term as it stands in the program
abbrev pub signed_of : List Shape → SignedExpr → Signed
signed_of shapes t = (t.minus, expression_back shapes t.expr.now)

abbrev pub is_signed_ready : Names → SignedExpr → Bool
is_signed_ready names t = is_within (length names.0) t.expr.now && is_kinded names (expression_back names.0 t.expr.now)

pub record AreTerms (names : Names) (rs : List Signed) (terms : List SignedExpr) : Type 0 where
  pub back : map (signed_of names.0) terms ≡ rs
  pub ready : list_all (is_signed_ready names) terms ≡ true

-- split terms
pub record TermsStand (names : Names) (flags : List Bool) (rs : List Signed) (terms : List TermTree) : Type 0 where
  pub back : map (signed_back names.0) terms ≡ rs
  pub fit : list_all (λ (t : TermTree). is_ring_fit names flags t.1) terms ≡ true

abbrev pub term_trees : List Term → List TermTree
term_trees terms = map term_tree terms
