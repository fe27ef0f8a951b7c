use Rattle.std.proofs.Common.{ap, ◌∙◌, refl, map}
use Rattle.fl_types.specs.Sharing.{has_name}
use Rattle.loop_accesses.specs.Views.{loop_view, referred}
use Rattle.loop_accesses.proofs.Scopes.{scope_is}
use Rattle.loop_accesses.proofs.classes.LoopNames.of.Goals as goal

pub returns : goal.returns
returns c =
    scope_is (record { indexed = c.args.indexed; outer = c.in_ok-outer.outer; variables = c.in_ok-variables.variables; privates = c.in_ok-privates.privates; firsts = c.in_ok-firsts.firsts; pluses = c.in_ok-pluses.pluses })
    c.args.indexed.now.decls (loop_view c.args.view.now) refl
    (λ x. c.in_ok-outer.ensures x ∙ ap (λ ns. has_name x (map referred ns)) c.as_slice.ensures)
    (λ x. c.in_ok-variables.ensures x)
    (λ x. c.in_ok-privates.ensures x ∙ ap (λ ns. has_name x ns) c.as_slice-2.ensures)
    (λ x. c.in_ok-firsts.ensures x ∙ ap (λ ns. has_name x ns) c.as_slice-3.ensures)
    (λ x. c.in_ok-pluses.ensures x ∙ ap (λ ns. has_name x ns) c.as_slice-4.ensures)
