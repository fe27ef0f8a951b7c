-- Small examples that compute.
use Rattle.std.proofs.Common.{◌≡◌, pos, negsuc, Some, None, refl, [], ◌∷◌}
use Rattle.index_forms.specs.declared.form.Side.TheVariants.{One, Two}
use Rattle.index_forms.specs.Form.{iter, inv, form, no_terms, term}
use Rattle.index_forms.specs.Sums.{plus_scaled, difference}

-- terms come in order, and one that is 0 goes
sum_in_order : plus_scaled (pos 3) (form (pos 1) (term (inv (110 ∷ [])) (pos 1) no_terms)) (form (pos 4) (term (iter One) (pos 2) (term (inv (110 ∷ [])) (negsuc 2) no_terms))) ≡ form (pos 7) (term (iter One) (pos 2) no_terms)
sum_in_order = refl

two_sides : difference (form (pos 1) (term (iter One) (pos 2) no_terms)) (form (pos 1) (term (iter Two) (pos 2) no_terms)) ≡ Some (form (pos 0) (term (iter One) (pos 2) (term (iter Two) (negsuc 1) no_terms)))
two_sides = refl

-- 2^62 is in the bounds, 2^62 + 1 isn't
at_the_bound : difference (form (pos 4611686018427387904) no_terms) (form (pos 0) no_terms) ≡ Some (form (pos 4611686018427387904) no_terms)
at_the_bound = refl

past_the_bound : difference (form (pos 4611686018427387904) no_terms) (form (negsuc 0) no_terms) ≡ None
past_the_bound = refl
