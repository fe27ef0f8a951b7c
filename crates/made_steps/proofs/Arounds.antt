-- What is around a parallel loop's body.
use Rattle.std.specs.Prelude.{◌≡◌, ℕ, Bool, true, List, filter, Option}
use Rattle.std.proofs.Common.{sym, subst}
use Rattle.fl_ast.specs.declared.directive.Directive.{Directive}
use Rattle.fl_ast.specs.Tree.{Statements}
use Rattle.fl_types.specs.Nests.{Head, further_head}
use Rattle.fl_types.specs.Sharing.{sharing_in, is_private}
use Rattle.meaning.specs.Sites.{Site}
use Rattle.meaning.specs.Statements.{private_names}
use Rattle.resolved.specs.SlotTables.{Names}
use Rattle.sweep_steps.specs.declared.step.PrivateScalar.{PrivateScalar}
use Rattle.sweep_steps.specs.Steps.{HeadTree}
use Rattle.sweep_steps.specs.StepsStand.{HeadStands, InnerStands, IterationsStand, PrivatesStand}
use Rattle.loop_scopes.specs.declared.loops.LoopNames.{LoopNames}
use Rattle.loop_scopes.specs.Loops.{IsLoopNames, privates_of}
use Rattle.loop_scopes.specs.Scopes.{IsScope, are_declared_placed}
use Rattle.loop_scopes.proofs.Scopes.{privates_stand}

-- what is around a parallel loop's body
pub iterations_stand : (names : Names) (pushed accessed reduced : List Bool) (outer : List (List ℕ)) (site : Site) (l : LoopNames) (h : Head) (directive : Directive) (body : Statements)
    (head : HeadTree) (inner : Option HeadTree) (qs : List PrivateScalar)
    → IsScope names pushed accessed reduced outer site → IsLoopNames l outer h.var directive body → are_declared_placed names ≡ true
    → HeadStands names accessed h head → InnerStands names accessed (further_head directive body) inner → qs ≡ privates_of names pushed l names.3
    → IterationsStand names site directive h body head inner qs
iterations_stand names pushed accessed reduced outer site l h directive body head inner qs s n d k i q =
    record {
      outer = subst (λ flags. HeadStands names flags h head) (sym s.accesses) k;
      further = subst (λ flags. InnerStands names flags (further_head directive body) inner) (sym s.accesses) i;
      scalars = subst (λ ps. PrivatesStand names site body (private_names site directive h.var body) ps) (sym q)
          (subst (λ xs. PrivatesStand names site body (filter (λ x. is_private (sharing_in h.var directive body x)) xs) (privates_of names pushed l names.3)) (sym s.declares)
          (privates_stand names pushed accessed reduced outer site l h.var directive body names.3 s n d));
    }
