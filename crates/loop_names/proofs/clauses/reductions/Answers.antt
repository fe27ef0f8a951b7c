use Rattle.std.proofs.Common.{refl, ◌∙◌, ◌&&◌}
use Rattle.adjoint_rules.specs.Scopes.{has_choice, is_reduction}
use Rattle.reversal.specs.Places.{scope_of}
use Rattle.loop_names.proofs.Filters.{adjoints, adjoints_are}
use Rattle.loop_names.proofs.Loops.{gathered}
use Rattle.loop_names.proofs.clauses.reductions.Goals as goal

pub returns : goal.returns
returns c =
    gathered (adjoints (λ x. (scope_of c.args.scope.now).active x && has_choice is_reduction c.args.scope.now.choices.now c.args.number x)) refl c.args.scope.now.decls.now c.loop-decl.decl-index c.loop-decl.names c.loop-decl.invariant c.loop-decl-test.false
    ∙ adjoints_are (λ x. (scope_of c.args.scope.now).active x && has_choice is_reduction c.args.scope.now.choices.now c.args.number x) c.args.scope.now.decls.now
