-- Where no rule is broken, expressions and statements are well kinded.
use Rattle.std.proofs.Common.{◌≡◌, ℕ, ◌+◌, Bool, true, false, not, ◌&&◌, ◌||◌, ◌==◌, nat_lt, nat_le, List, [], ◌∷◌, Option, Some, None, refl, arith}
use Rattle.std.proofs.lemmas.Bool.{and_parts, and_from, or_parts}
use Rattle.std.proofs.lemmas.Bool.Decides.{nat_tests}
use Rattle.std.specs.List.{list_all}
use Rattle.fl_ast.specs.declared.kind.Kind.TheVariants.{Index, Ring}
use Rattle.fl_ast.specs.declared.kind.BinOp.{BinOp}
use Rattle.fl_ast.specs.declared.kind.BinOp.TheVariants.{Add, Sub, Mul, Div}
use Rattle.fl_ast.specs.declared.kind.Fun.{Fun}
use Rattle.fl_ast.specs.declared.kind.Fun.TheVariants.{Max, Min, Abs, Mod}
use Rattle.fl_ast.specs.declared.stmt.Program.{Program}
use Rattle.fl_ast.specs.Readable.{is_readable, are_readable, is_readable_condition, is_readable_step, number_of, arity}
use Rattle.fl_ast.specs.Tree.{Expression, literal, get, minus, binary, power, call, Expressions, no_expressions, expression, Condition, relation, negation, conjunction, disjunction}
use Rattle.fl_types.specs.Kinds.{Names, kind_of_expression, kinds_of_expressions, is_index_kind, takes_operands, takes_arguments, expression_count, is_well_kinded, are_well_kinded, is_well_kinded_condition, is_index_expression, is_index_step, declared_names}
use Rattle.fl_types.specs.Mentions as m
use Rattle.fl_types.specs.Mentions.{Surroundings, Ending, a_value, an_index, a_use, a_number, an_exponent}
use Rattle.fl_types.specs.Rows.{kind_in, kinds_differ, divides_data}
use Rattle.typing.proofs.Faultless.{Clean, apart, at_first, EndsWell, ends_behind, use_clean, exponent_clean, ring_clean, index_clean}

no_not : (b : Bool) → not b ≡ false → b ≡ true
no_not true h = refl
no_not false h = absurd (let f : true ≡ false = h in cc)

abbrev pub names_of : Program → Names
names_of p = declared_names p.decls

index_fits : (n : ℕ) → nat_lt 2147483647 n ≡ false → nat_lt n 2147483648 ≡ true
index_fits n h = grind (arith, nat_tests)

ring_fits : (n : ℕ) → nat_le n 9223372036854775807 ≡ true → nat_lt n 18446744073709551616 ≡ true
ring_fits n h = grind (arith, nat_tests)

-- ---- operations

both_index : (a b : Bool) → (not a || not b) ≡ false → (a && b) ≡ true
both_index true true h = refl
both_index true false h = absurd (let f : true ≡ false = h in cc)
both_index false b h = absurd (let f : true ≡ false = h in cc)

operation_takes : (p : Program) (o : BinOp) (a b : Expression) → divides_data p (a_value (binary o a b)) ≡ false
    → takes_operands o (kind_of_expression (names_of p) a) (kind_of_expression (names_of p) b) ≡ true
operation_takes p Add a b h = refl
operation_takes p Sub a b h = refl
operation_takes p Mul a b h = refl
operation_takes p Div a b h = both_index _ _ h

wrong_number : (n : ℕ) (k : ℕ) → (n == k) ≡ true → n ≡ k
wrong_number n k h = grind (arith, nat_tests)

joined : (a b : Bool) → (not a || (not b || false)) ≡ false → (not a || not b) ≡ false
joined true true h = refl
joined true false h = h
joined false b h = h

no_arguments : (f : Fun) → (0 == arity f) ≡ true → ⊥
no_arguments Max r = let e : 0 ≡ 2 = wrong_number 0 2 r in omega (arith, e)
no_arguments Min r = let e : 0 ≡ 2 = wrong_number 0 2 r in omega (arith, e)
no_arguments Abs r = let e : 0 ≡ 1 = wrong_number 0 1 r in omega (arith, e)
no_arguments Mod r = let e : 0 ≡ 2 = wrong_number 0 2 r in omega (arith, e)

call_takes : (p : Program) (f : Fun) (args : Expressions) → (number_of args == arity f) ≡ true
    → kinds_differ p (a_value (call f args)) ≡ false → divides_data p (a_value (call f args)) ≡ false → takes_arguments f (kinds_of_expressions (names_of p) args) ≡ true
call_takes p f no_expressions r h g = absurd (no_arguments f r)
call_takes p Max (expression a no_expressions) r h g = absurd (let e : 1 + 0 ≡ 2 = wrong_number (1 + 0) 2 r in omega (arith, e))
call_takes p Min (expression a no_expressions) r h g = absurd (let e : 1 + 0 ≡ 2 = wrong_number (1 + 0) 2 r in omega (arith, e))
call_takes p Abs (expression a no_expressions) r h g = refl
call_takes p Mod (expression a no_expressions) r h g = absurd (let e : 1 + 0 ≡ 2 = wrong_number (1 + 0) 2 r in omega (arith, e))
call_takes p Max (expression a (expression b no_expressions)) r h g = no_not _ h
call_takes p Min (expression a (expression b no_expressions)) r h g = no_not _ h
call_takes p Abs (expression a (expression b no_expressions)) r h g = absurd (let e : 1 + (1 + 0) ≡ 1 = wrong_number (1 + (1 + 0)) 1 r in omega (arith, e))
call_takes p Mod (expression a (expression b no_expressions)) r h g =
    both_index _ _ (joined (is_index_kind (kind_in p a)) (is_index_kind (kind_in p b)) g)
call_takes p Max (expression a (expression b (expression c rest))) r h g =
    absurd (let e : 1 + (1 + (1 + number_of rest)) ≡ 2 = wrong_number _ 2 r in omega (arith, e))
call_takes p Min (expression a (expression b (expression c rest))) r h g =
    absurd (let e : 1 + (1 + (1 + number_of rest)) ≡ 2 = wrong_number _ 2 r in omega (arith, e))
call_takes p Abs (expression a (expression b (expression c rest))) r h g =
    absurd (let e : 1 + (1 + (1 + number_of rest)) ≡ 1 = wrong_number _ 1 r in omega (arith, e))
call_takes p Mod (expression a (expression b (expression c rest))) r h g =
    absurd (let e : 1 + (1 + (1 + number_of rest)) ≡ 2 = wrong_number _ 2 r in omega (arith, e))

-- ---- expressions

-- an expression that is well kinded, and what ends with it
abbrev pub Kinded : Program → Expression → List Ending → Type 0
Kinded p e ends = (is_well_kinded (names_of p) e ≡ true) × EndsWell p ends

mutual
  pub kinded : (p : Program) (s : Surroundings) (ends : List Ending) (e : Expression) → Clean p (m.in_expression s ends e) → is_readable e ≡ true → Kinded p e ends
  kinded p s ends (literal n Index) h r =
      let c = index_clean p s (a_value (literal n Index) ∷ ends) n (at_first p _ [] h).0 in
      (index_fits n c.0, ends_behind p (a_value (literal n Index)) ends c.1)
  kinded p s ends (literal n Ring) h r =
      let c = ring_clean p s (a_value (literal n Ring) ∷ ends) n (at_first p _ [] h).0 in
      (ring_fits n r, ends_behind p (a_value (literal n Ring)) ends c)
  kinded p s ends (get x ss) h r =
      let f = at_first p (a_use s (m.at_last ss (a_value (get x ss) ∷ ends)) x (expression_count ss)) (m.in_subscripts s (a_value (get x ss) ∷ ends) ss) h in
      let c = use_clean p s (m.at_last ss (a_value (get x ss) ∷ ends)) x (expression_count ss) f.0 in
      let k = kinded_subscripts p s (a_value (get x ss) ∷ ends) ss c.1 f.1 (and_parts _ (are_readable ss) r).1 in
      (and_from _ _ c.0 (and_from _ _ k.0 k.1.0), ends_behind p (a_value (get x ss)) ends k.1.1)
  kinded p s ends (minus a) h r = let k = kinded p s (a_value (minus a) ∷ ends) a h r in (k.0, ends_behind p (a_value (minus a)) ends k.1)
  kinded p s ends (binary o a b) h r =
      let q = apart p (m.in_expression s [] a) (m.in_expression s (a_value (binary o a b) ∷ ends) b) h in
      let t = and_parts (is_readable a) (is_readable b) r in
      let j = kinded p s [] a q.0 t.0 in
      let k = kinded p s (a_value (binary o a b) ∷ ends) b q.1 t.1 in
      let o_takes = operation_takes p o a b (or_parts (divides_data p (a_value (binary o a b))) _ k.1.division).0 in
      (and_from _ _ o_takes (and_from _ _ j.0 k.0), ends_behind p (a_value (binary o a b)) ends k.1)
  kinded p s ends (power a n) h r =
      let q = apart p (m.in_expression s [] a) (an_exponent s (a_value (power a n) ∷ ends) ∷ []) h in
      let j = kinded p s [] a q.0 (and_parts _ (is_readable a) r).1 in
      let c = exponent_clean p s (a_value (power a n) ∷ ends) (at_first p _ [] q.1).0 in
      (j.0, ends_behind p (a_value (power a n)) ends c)
  kinded p s ends (call f args) h r =
      let t = and_parts (number_of args == arity f) (are_readable args) r in
      let k = kinded_arguments p s (a_value (call f args) ∷ ends) f args t.0 h t.1 in
      let takes = call_takes p f args t.0 (or_parts (kinds_differ p (a_value (call f args))) _ k.1.clash).0 (or_parts (divides_data p (a_value (call f args))) _ k.1.division).0 in
      (and_from _ _ takes k.0, ends_behind p (a_value (call f args)) ends k.1)

  pub kinded_subscripts : (p : Program) (s : Surroundings) (ends : List Ending) (es : Expressions) → EndsWell p (m.at_last es ends) → Clean p (m.in_subscripts s ends es) → are_readable es ≡ true
      → (are_well_kinded (names_of p) es ≡ true) × ((list_all is_index_kind (kinds_of_expressions (names_of p) es) ≡ true) × EndsWell p ends)
  kinded_subscripts p s ends no_expressions c h r = (refl, (refl, c))
  kinded_subscripts p s ends (expression a rest) c h r =
      let q = apart p (m.in_expression s (an_index a ∷ m.at_last rest ends) a) (m.in_subscripts s ends rest) h in
      let t = and_parts (is_readable a) (are_readable rest) r in
      let j = kinded p s (an_index a ∷ m.at_last rest ends) a q.0 t.0 in
      let i = no_not _ (or_parts (not (is_index_kind (kind_in p a))) _ j.1.index).0 in
      let k = kinded_subscripts p s ends rest (ends_behind p (an_index a) _ j.1) q.1 t.1 in
      (and_from _ _ j.0 k.0, (and_from _ _ i k.1.0, k.1.1))

  kinded_arguments : (p : Program) (s : Surroundings) (ends : List Ending) (f : Fun) (es : Expressions) → (number_of es == arity f) ≡ true
      → Clean p (m.in_arguments s ends es) → are_readable es ≡ true → (are_well_kinded (names_of p) es ≡ true) × EndsWell p ends
  kinded_arguments p s ends f no_expressions z h r = absurd (no_arguments f z)
  kinded_arguments p s ends f (expression a rest) z h r =
      let q = apart p (m.in_expression s (m.at_last rest ends) a) (m.in_arguments s ends rest) h in
      let t = and_parts (is_readable a) (are_readable rest) r in
      let j = kinded p s (m.at_last rest ends) a q.0 t.0 in
      let k = kinded_rest p s ends rest j.1 q.1 t.1 in
      (and_from _ _ j.0 k.0, k.1)

  kinded_rest : (p : Program) (s : Surroundings) (ends : List Ending) (es : Expressions) → EndsWell p (m.at_last es ends)
      → Clean p (m.in_arguments s ends es) → are_readable es ≡ true → (are_well_kinded (names_of p) es ≡ true) × EndsWell p ends
  kinded_rest p s ends no_expressions c h r = (refl, c)
  kinded_rest p s ends (expression a rest) c h r =
      let q = apart p (m.in_expression s (m.at_last rest ends) a) (m.in_arguments s ends rest) h in
      let t = and_parts (is_readable a) (are_readable rest) r in
      let j = kinded p s (m.at_last rest ends) a q.0 t.0 in
      let k = kinded_rest p s ends rest j.1 q.1 t.1 in
      (and_from _ _ j.0 k.0, k.1)

pub kinded_condition : (p : Program) (s : Surroundings) (c : Condition) → Clean p (m.in_condition s c) → is_readable_condition c ≡ true → is_well_kinded_condition (names_of p) c ≡ true
kinded_condition p s (relation o a b) h r =
    let q = apart p (m.in_expression s [] a) (m.in_expression s [] b) h in
    let t = and_parts (is_readable a) (is_readable b) r in
    and_from _ _ (kinded p s [] a q.0 t.0).0 (kinded p s [] b q.1 t.1).0
kinded_condition p s (negation c) h r = kinded_condition p s c h r
kinded_condition p s (conjunction a b) h r =
    let q = apart p (m.in_condition s a) (m.in_condition s b) h in
    let t = and_parts (is_readable_condition a) (is_readable_condition b) r in
    and_from _ _ (kinded_condition p s a q.0 t.0) (kinded_condition p s b q.1 t.1)
kinded_condition p s (disjunction a b) h r =
    let q = apart p (m.in_condition s a) (m.in_condition s b) h in
    let t = and_parts (is_readable_condition a) (is_readable_condition b) r in
    and_from _ _ (kinded_condition p s a q.0 t.0) (kinded_condition p s b q.1 t.1)

pub kinded_bound : (p : Program) (s : Surroundings) (e : Expression) → Clean p (m.in_bound s e) → is_readable e ≡ true → is_index_expression (names_of p) e ≡ true
kinded_bound p s e h r =
    let k = kinded p s (an_index e ∷ []) e h r in
    and_from _ _ (no_not _ (or_parts (not (is_index_kind (kind_in p e))) _ k.1.index).0) k.0

pub kinded_step : (p : Program) (s : Surroundings) (step : Option Expression) → Clean p (m.in_step s step) → is_readable_step step ≡ true → is_index_step (names_of p) step ≡ true
kinded_step p s None h r = refl
kinded_step p s (Some e) h r = kinded_bound p s e h r
