-- What is gathered from an expression are the names of its occurrences.
use Rattle.std.proofs.Common.{◌≡◌, ℕ, zero, suc, ◌+◌, ◌==◌, Bool, true, false, not, if◌then◌else◌, List, [], ◌∷◌, ◌++◌, refl, ap, sym, ◌∙◌, nat_le, arith}
use Rattle.std.proofs.lemmas.Bool.Decides.{nat_tests}
use Rattle.std.proofs.lemmas.List.{append-nil}
use Rattle.fl_ast.specs.declared.kind.BinOp.TheVariants as op
use Rattle.fl_ast.specs.declared.kind.Fun.TheVariants as fun
use Rattle.fl_ast.specs.declared.kind.RelOp.{RelOp}
use Rattle.fl_ast.specs.declared.kind.RelOp.TheVariants as rel
use Rattle.fl_ast.specs.declared.kind.Kind.TheVariants as kind
use Rattle.fl_ast.specs.declared.decl.Decl.{Decl}
use Rattle.fl_ast.specs.Tree.{Expression, literal, get, minus, binary, power, call, Expressions, no_expressions, expression, relation}
use Rattle.fl_ast.specs.Readable.{number_of}
use Rattle.reachability.specs.Named.{indexes_of}
use Rattle.adjoint_rules.specs.Occurrences.{Factor, operand, either, power_factors, minus_one, occurrences, of_two, of_one}
use Rattle.adjoint_rules.specs.Needed.{names_in, names_in_all}
use Rattle.needed_names.specs.Reads.{raised, reads, all_read}
use Rattle.needed_names.proofs.Joined.{of_factors, of_occurrences, both, further, indexes_joined}

above : (n : ℕ) → nat_le (suc (suc (suc n))) 1 ≡ false
above n = grind (arith, nat_tests)

power_names : (a : Expression) (n : ℕ) → of_factors (power_factors a n) ≡ raised n a
power_names a zero = refl
power_names a (suc zero) = refl
power_names a (suc (suc zero)) = append-nil (names_in a)
power_names a (suc (suc (suc n))) = append-nil (names_in a) ∙ ap (λ b. if b then [] else names_in a) (sym (above n))

-- the other two have other numbers of operands
three : (n : ℕ) → (1 + (1 + (1 + n)) == 2) ≡ false
three n = grind (arith, nat_tests)

two : (n : ℕ) → (1 + (1 + n) == 1) ≡ false
two n = grind (arith, nat_tests)

-- no factor more
same_factors : (decls : List Decl) (fs : List Factor) (at : List ℕ) → at ≡ indexes_of decls (of_factors fs) → at ++ [] ≡ indexes_of decls (of_factors fs)
same_factors decls fs at e = append-nil at ∙ e

at_place : (decls : List Decl) (x : List ℕ) (s : Expressions) (less : Bool) (fs : List Factor) (at : List ℕ) → at ≡ indexes_of decls (of_factors fs)
    → at ++ indexes_of decls (names_in_all s) ≡ indexes_of decls (of_occurrences (record { place = record { name = x; subscripts = s }; negative = less; factors = fs } ∷ []))
at_place decls x s less fs at e =
    ap (λ r. r ++ indexes_of decls (names_in_all s)) e
    ∙ (sym (indexes_joined decls (of_factors fs) (names_in_all s)) ∙ ap (indexes_of decls) (sym (append-nil (of_factors fs ++ names_in_all s))))

mutual
  pub reads_are : (decls : List Decl) (on : List ℕ → Bool) (e : Expression) (less : Bool) (fs : List Factor) (at : List ℕ) → at ≡ indexes_of decls (of_factors fs)
      → reads decls on e at ≡ indexes_of decls (of_occurrences (occurrences on e less fs))
  reads_are decls on (literal n k) less fs at h = refl
  reads_are decls on (get x s) less fs at h = by_test (on x)
    where
      by_test : (b : Bool) → (if b then at ++ indexes_of decls (names_in_all s) else [])
          ≡ indexes_of decls (of_occurrences (if b then record { place = record { name = x; subscripts = s }; negative = less; factors = fs } ∷ [] else []))
      by_test true = at_place decls x s less fs at h
      by_test false = refl
  reads_are decls on (minus a) less fs at h = reads_are decls on a (not less) fs at h
  reads_are decls on (binary op.Add a b) less fs at h =
      both decls (occurrences on a less fs) (occurrences on b less fs) _ _ (reads_are decls on a less fs (at ++ []) (same_factors decls fs at h)) (reads_are decls on b less fs (at ++ []) (same_factors decls fs at h))
  reads_are decls on (binary op.Sub a b) less fs at h =
      both decls (occurrences on a less fs) (occurrences on b (not less) fs) _ _ (reads_are decls on a less fs (at ++ []) (same_factors decls fs at h)) (reads_are decls on b (not less) fs (at ++ []) (same_factors decls fs at h))
  reads_are decls on (binary op.Mul a b) less fs at h =
      both decls (occurrences on a less (fs ++ operand b ∷ [])) (occurrences on b less (fs ++ operand a ∷ [])) _ _
      (reads_are decls on a less (fs ++ operand b ∷ []) (at ++ indexes_of decls (names_in b)) (further decls fs (operand b ∷ []) (names_in b) at (append-nil (names_in b)) h))
      (reads_are decls on b less (fs ++ operand a ∷ []) (at ++ indexes_of decls (names_in a)) (further decls fs (operand a ∷ []) (names_in a) at (append-nil (names_in a)) h))
  reads_are decls on (binary op.Div a b) less fs at h = refl
  reads_are decls on (power a n) less fs at h =
      reads_are decls on a less (fs ++ power_factors a n) (at ++ indexes_of decls (raised n a)) (further decls fs (power_factors a n) (raised n a) at (power_names a n) h)
  reads_are decls on (call fun.Max s) less fs at h = two_are decls on rel.Ge s less fs at h
  reads_are decls on (call fun.Min s) less fs at h = two_are decls on rel.Le s less fs at h
  reads_are decls on (call fun.Abs s) less fs at h = one_is decls on s less fs at h
  reads_are decls on (call fun.Mod s) less fs at h = refl

  two_are : (decls : List Decl) (on : List ℕ → Bool) (o : RelOp) (s : Expressions) (less : Bool) (fs : List Factor) (at : List ℕ) → at ≡ indexes_of decls (of_factors fs)
      → (if number_of s == 2 then all_read decls on s (at ++ indexes_of decls (names_in_all s)) else []) ≡ indexes_of decls (of_occurrences (of_two on o s less fs))
  two_are decls on o no_expressions less fs at h = refl
  two_are decls on o (expression a no_expressions) less fs at h = refl
  two_are decls on o (expression a (expression b no_expressions)) less fs at h =
      let names = names_in_all (expression a (expression b no_expressions)) in
      let all = at ++ indexes_of decls names in
      let in_test : (names_in a ++ names_in b) ++ [] ≡ names = append-nil (names_in a ++ names_in b) ∙ ap (λ r. names_in a ++ r) (sym (append-nil (names_in b))) in
      ap (λ r. reads decls on a all ++ r) (append-nil (reads decls on b all))
      ∙ both decls (occurrences on a less (fs ++ either 1 0 (relation o a b) ∷ [])) (occurrences on b less (fs ++ either 0 1 (relation o a b) ∷ [])) _ _
      (reads_are decls on a less (fs ++ either 1 0 (relation o a b) ∷ []) all (further decls fs (either 1 0 (relation o a b) ∷ []) names at in_test h))
      (reads_are decls on b less (fs ++ either 0 1 (relation o a b) ∷ []) all (further decls fs (either 0 1 (relation o a b) ∷ []) names at in_test h))
  two_are decls on o (expression a (expression b (expression c s))) less fs at h = rw (three (number_of s)) refl

  one_is : (decls : List Decl) (on : List ℕ → Bool) (s : Expressions) (less : Bool) (fs : List Factor) (at : List ℕ) → at ≡ indexes_of decls (of_factors fs)
      → (if number_of s == 1 then all_read decls on s (at ++ indexes_of decls (names_in_all s)) else []) ≡ indexes_of decls (of_occurrences (of_one on s less fs))
  one_is decls on no_expressions less fs at h = refl
  one_is decls on (expression a no_expressions) less fs at h =
      let all = at ++ indexes_of decls (names_in_all (expression a no_expressions)) in
      append-nil (reads decls on a all)
      ∙ reads_are decls on a less (fs ++ either minus_one 1 (relation rel.Lt a (literal 0 kind.Ring)) ∷ []) all
      (further decls fs (either minus_one 1 (relation rel.Lt a (literal 0 kind.Ring)) ∷ []) (names_in_all (expression a no_expressions)) at (append-nil (names_in a ++ [])) h)
  one_is decls on (expression a (expression b s)) less fs at h = rw (two (number_of s)) refl
