use Rattle.std.proofs.Common.{◌≡◌, true, List, sym, subst}
use Rattle.std.specs.List.{list_all}
use Rattle.resolved.specs.ResolvedExprs.{place_back, expression_back}
use Rattle.made_steps.specs.declared.terms.SignedExpr.{SignedExpr}
use Rattle.made_steps.specs.Scopes.{is_signed_ready, AreTerms}
use Rattle.made_steps.proofs.Stores.{termed}
use Rattle.made_steps.proofs.terms.split_terms.Goals as goal

pub split_each-requires : goal.split_each-requires
split_each-requires c =
    let s = c.args.table.now in
    let w = termed s (place_back s.0 c.args.target.now) (expression_back s.0 c.args.value.now) c.args.form c.requires.formed in
    record { ready = subst (λ (ts : List SignedExpr). list_all (is_signed_ready s) ts ≡ true) (sym c.as_slice.ensures) (c.in_ok-terms.ensures w.rest w.is_rest).ready }

pub returns : goal.returns
returns c rs h =
    c.in_ok-split.ensures rs (subst (λ (ts : List SignedExpr). AreTerms c.args.table.now rs ts) (sym c.as_slice.ensures) (c.in_ok-terms.ensures rs h))
