use Rattle.std.proofs.Common.{◌≡◌, ◌++◌, ◌&&◌, drop}
use Rattle.adjoint_rules.specs.Scopes.{has_choice, is_reduction}
use Rattle.reversal.specs.Places.{scope_of}
use Rattle.loop_names.proofs.Filters.{adjoints}
use Rattle.loop_names.proofs.clauses.reductions.Given as goal

-- the names so far and those of the rest are all
abbrev pub invariant-loop-decl : goal.invariant-loop-decl
invariant-loop-decl l =
    l.names ++ adjoints (λ x. (scope_of l.scope).active x && has_choice is_reduction l.scope.choices.now l.number x) (drop l.decl-index l.scope.decls.now)
    ≡ adjoints (λ x. (scope_of l.scope).active x && has_choice is_reduction l.scope.choices.now l.number x) l.scope.decls.now
