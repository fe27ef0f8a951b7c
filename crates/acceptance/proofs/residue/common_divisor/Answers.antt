use Rattle.std.proofs.Common.{◌≡◌, ℕ, suc, ◌-◌, sym, ap, ◌∙◌, rules, FitsSigned, subst, arith, map, drop, unsigned_abs}
use Rattle.std.specs.Int.{IsGcd}
use mir.Syntax.{w64}
use Rattle.std.proofs.lemmas.Int.{to_z-of_z}
use Rattle.index_forms.specs.Seen.{term_tree, terms_of}
use Rattle.certificate_rules.specs.Accepted.{IsGcdOf}
use Rattle.acceptance.proofs.Divisors.{gcd-at}
use Rattle.acceptance.proofs.residue.common_divisor.Goals as goal

pub loop-i-preserved : goal.loop-i-preserved
loop-i-preserved c =
    let x = c.index-terms-i.result in
    let n : c.loop-i.i ≡ suc (c.loop-i.i - 1) = omega arith in
    let P : ℕ → Type 0 = (λ (z : ℕ). IsGcdOf c.loop-i.g (terms_of (map term_tree (drop z c.args.terms.now)))) in
    let w : IsGcdOf c.loop-i.g (terms_of (map term_tree (drop (suc (c.loop-i.i - 1)) c.args.terms.now))) = subst P n c.loop-i.invariant in
    let f : FitsSigned w64 x.1 = search rules in
    let v : c.unsigned_abs.result ≡ unsigned_abs x.1 = c.unsigned_abs.ensures.value ∙ ap unsigned_abs (to_z-of_z w64 x.1 f) in
    let Q : ℕ → Type 0 = (λ (z : ℕ). IsGcd z c.loop-i.g c.gcd-g.result) in
    gcd-at c.args.terms.now (c.loop-i.i - 1) x c.loop-i.g c.gcd-g.result (omega arith) (sym c.index-terms-i.is) w (subst Q v c.gcd-g.ensures)
