use Rattle.std.proofs.Common.{◌≡◌, ap, ◌∙◌, rules, map, unsigned_abs, FitsSigned}
use Rattle.std.proofs.lemmas.Int.{to_z-of_z}
use mir.Syntax.{w64}
use Rattle.index_forms.specs.Form.{form}
use Rattle.index_forms.specs.Seen.{form_tree, term_tree, terms_of}
use Rattle.certificate_rules.specs.Accepted.{IsGcdOf}
use Rattle.acceptance.proofs.Seens.{form-seen}
use Rattle.acceptance.proofs.Divisors.{residue-test, residue-zero}
use Rattle.acceptance.proofs.residue.has_residue.Goals as goal

pub returns-then-g-eq0 : goal.returns-then-g-eq0
returns-then-g-eq0 c =
    let f = c.args.form.now in
    let e : form_tree c.args.form.now ≡ form c.args.form.now.constant (terms_of (map term_tree c.args.form.now.terms)) = form-seen c.args.form.now in
    let s : FitsSigned w64 c.args.form.now.constant = search rules in
    let v : c.unsigned_abs-c.result ≡ unsigned_abs c.args.form.now.constant = c.unsigned_abs-c.ensures.value ∙ ap unsigned_abs (to_z-of_z w64 c.args.form.now.constant s) in
    let d : IsGcdOf c.common_divisor-g.result (terms_of (map term_tree c.args.form.now.terms)) = rw c.as_slice.ensures at c.common_divisor-g.ensures in
    rw (e, v) (residue-zero c.args.form.now.constant (terms_of (map term_tree c.args.form.now.terms)) c.common_divisor-g.result c.if-g-eq0.true d)

pub returns-else-g-eq0 : goal.returns-else-g-eq0
returns-else-g-eq0 c =
    let e : form_tree c.args.form.now ≡ form c.args.form.now.constant (terms_of (map term_tree c.args.form.now.terms)) = form-seen c.args.form.now in
    let s : FitsSigned w64 c.args.form.now.constant = search rules in
    let v : c.unsigned_abs-c.result ≡ unsigned_abs c.args.form.now.constant = c.unsigned_abs-c.ensures.value ∙ ap unsigned_abs (to_z-of_z w64 c.args.form.now.constant s) in
    let d : IsGcdOf c.common_divisor-g.result (terms_of (map term_tree c.args.form.now.terms)) = rw c.as_slice.ensures at c.common_divisor-g.ensures in
    rw (e, v) (residue-test c.args.form.now.constant (terms_of (map term_tree c.args.form.now.terms)) c.common_divisor-g.result d)
