use Rattle.std.proofs.Common.{◌≡◌, ◌++◌, true, List, map, sym, ap, ◌∙◌, subst}
use Rattle.std.specs.List.{list_all}
use Rattle.fl_types.specs.Increment.{Signed}
use Rattle.resolved.specs.ResolvedExprs.{place_back, expression_back}
use Rattle.transposition.specs.Back.{rest_occurrences}
use Rattle.undo_steps.specs.UndoSteps.{growth_tree}
use Rattle.undo_steps.specs.UndosStand.{EachGrowthStands}
use Rattle.made_steps.specs.declared.terms.SignedExpr.{SignedExpr}
use Rattle.made_steps.specs.Scopes.{signed_of, is_signed_ready}
use Rattle.made_steps.proofs.Stores.{termed}
use Rattle.made_undos.proofs.chains.push_form_growths.Goals as goal

pub push_each-requires : goal.push_each-requires
push_each-requires c =
    let s = c.args.table.now in
    let w = termed s (place_back s.0 c.args.target.now) (expression_back s.0 c.args.value.now) c.args.form c.requires.formed in
    record { ready = subst (λ (ts : List SignedExpr). list_all (is_signed_ready s) ts ≡ true) (sym c.as_slice.ensures) (c.in_ok-terms.ensures w.rest w.is_rest).ready }

pub returns : goal.returns
returns c w os rs g h e =
    let s = c.args.table.now in
    let is : map (signed_of s.0) c.as_slice.result.now ≡ rs = ap (map (signed_of s.0)) c.as_slice.ensures ∙ (c.in_ok-terms.ensures rs h).back in
    subst (λ (qs : List Signed). EachGrowthStands s w (os ++ rest_occurrences w.active qs) (map growth_tree c.push_each.new.growths)) is (c.in_ok-push_each.ensures w os g e)
