-- In fitting cells, well-kinded expressions have values of their kinds, and ask operations for nothing that these aren't defined for.
use Rattle.std.specs.Prelude.{◌≡◌, ℕ, ℤ, Bool, true, not, ◌&&◌, ◌||◌, nat_eq, List, [], ◌∷◌, length, Option, Some, None, is_some, refl}
use Rattle.std.specs.List.{list_all}
use Rattle.std.proofs.Common.{ap, ◌∙◌, arith}
use Rattle.std.proofs.lemmas.Bool.{and_parts}
use Rattle.fl_ast.specs.declared.kind.Kind.{Kind}
use Rattle.fl_ast.specs.Tree.{Expression, literal, get, minus, binary, power, call, Expressions, no_expressions, expression, Condition, relation, negation, conjunction, disjunction}
use Rattle.fl_types.specs.declared.access.AccessKind.TheVariants.{Read}
use Rattle.fl_types.specs.Sharing.{has_name}
use Rattle.fl_types.specs.Kinds.{Names, kind_of_expression, kinds_of_expressions, is_index_kind, takes_operands, takes_arguments, expression_count, is_well_kinded, are_well_kinded, is_well_kinded_condition}
use Rattle.meaning.specs.declared.value.Value.{Value}
use Rattle.meaning.specs.declared.value.Cause.{Cause}
use Rattle.meaning.specs.declared.value.Cause.TheVariants.{Bounds, Unset}
use Rattle.meaning.specs.Values.{whole_numbers, literal_value, binary_result, negation_result, power_result, call_result}
use Rattle.meaning.specs.Logs.{pure, lift, ◌>>=◌}
use Rattle.meaning.specs.Sites.{Cells, Site, place_of, kind_of}
use Rattle.meaning.specs.Expressions.{content, read_cell, read_place, read, value_of, values_of}
use Rattle.meaning.specs.Fitting.{keys_have_rank, names_at, HasKind, Fits}
use Rattle.meaning.specs.Defined.{AreIndexValues, HasScalarPlace, AreSubscripts, IsDefined, AreDefined, IsDefinedCondition}
use Rattle.meaning.proofs.Gives.{Gives, gives_value, gives_none, then_gives, touching_gives}
use Rattle.meaning.proofs.Placing.{HoldsKind, fits_at}
use Rattle.meaning.proofs.KindsOfValues.{HaveKinds, found_gives, literal_has, negated_has, power_has, binary_has, call_has, are_operands, are_arguments, index_value}

cell_gives : (s : Site) (x : List ℕ) (p : ℕ) (c : Option Value) → HoldsKind (kind_of s x) c → Gives (read_cell s x p c) (HasKind (kind_of s x))
cell_gives s x p None h = gives_none (Unset x) (HasKind (kind_of s x))
cell_gives s x p (Some v) h = touching_gives s x p Read (pure {X = Cause} v) (HasKind (kind_of s x)) (gives_value v (HasKind (kind_of s x)) h)

place_gives : (s : Site) (cells : Cells) → Fits s cells → (x : List ℕ) (ss : List ℤ) (o : Option ℕ) → place_of s x ss ≡ o → Gives (read_place s cells x o) (HasKind (kind_of s x))
place_gives s cells fit x ss None e = gives_none (Bounds x) (HasKind (kind_of s x))
place_gives s cells fit x ss (Some p) e = cell_gives s x p (content cells p) (fits_at s s.keys cells x ss p fit e)

mutual
  pub value_kind : (s : Site) (cells : Cells) → Fits s cells → (e : Expression) → is_well_kinded (names_at s) e ≡ true → Gives (value_of e s cells) (HasKind (kind_of_expression (names_at s) e))
  value_kind s cells fit (literal n k) h = found_gives k (literal_value n k) (literal_has n k h)
  value_kind s cells fit (get x ss) h =
      then_gives (values_of ss s cells) (read s cells x) (HasKind (kind_of s x)) (λ vs e. place_gives s cells fit x (whole_numbers vs) (place_of s x (whole_numbers vs)) refl)
  value_kind s cells fit (minus a) h =
      let k : Kind = kind_of_expression (names_at s) a in
      then_gives (value_of a s cells) (λ v. lift (negation_result v)) (HasKind k) (λ v e. found_gives k (negation_result v) (negated_has k v (value_kind s cells fit a h v e)))
  value_kind s cells fit (binary op a b) h =
      let k : Kind = kind_of_expression (names_at s) a in
      let j : Kind = kind_of_expression (names_at s) b in
      let p = and_parts (takes_operands op k j) (is_well_kinded (names_at s) a && is_well_kinded (names_at s) b) h in
      let q = and_parts (is_well_kinded (names_at s) a) (is_well_kinded (names_at s) b) p.1 in
      let P : Value → Type 0 = HasKind (kind_of_expression (names_at s) (binary op a b)) in
      then_gives (value_of a s cells) (λ v. value_of b s cells >>= (λ w. lift (binary_result op v w))) P
      (λ v e. then_gives (value_of b s cells) (λ w. lift (binary_result op v w)) P
      (λ w f. found_gives (kind_of_expression (names_at s) (binary op a b)) (binary_result op v w) (binary_has op k j v w (value_kind s cells fit a q.0 v e) (value_kind s cells fit b q.1 w f))))
  value_kind s cells fit (power a n) h =
      let k : Kind = kind_of_expression (names_at s) a in
      then_gives (value_of a s cells) (λ v. lift (power_result v n)) (HasKind k) (λ v e. found_gives k (power_result v n) (power_has k v n (value_kind s cells fit a h v e)))
  value_kind s cells fit (call f args) h =
      let ks : List Kind = kinds_of_expressions (names_at s) args in
      let k : Kind = kind_of_expression (names_at s) (call f args) in
      let p = and_parts (takes_arguments f ks) (are_well_kinded (names_at s) args) h in
      then_gives (values_of args s cells) (λ vs. lift (call_result s.width f vs)) (HasKind k)
      (λ vs e. found_gives k (call_result s.width f vs) (call_has s.width f ks vs (values_kinds s cells fit args p.1 vs e) p.0))

  pub values_kinds : (s : Site) (cells : Cells) → Fits s cells → (es : Expressions) → are_well_kinded (names_at s) es ≡ true → Gives (values_of es s cells) (HaveKinds (kinds_of_expressions (names_at s) es))
  values_kinds s cells fit no_expressions h = gives_value {X = Cause} [] (HaveKinds []) tt
  values_kinds s cells fit (expression a es) h =
      let p = and_parts (is_well_kinded (names_at s) a) (are_well_kinded (names_at s) es) h in
      let P : List Value → Type 0 = HaveKinds (kinds_of_expressions (names_at s) (expression a es)) in
      then_gives (value_of a s cells) (λ v. values_of es s cells >>= (λ vs. pure (v ∷ vs))) P
      (λ v e. then_gives (values_of es s cells) (λ vs. pure (v ∷ vs)) P
      (λ vs f. gives_value {X = Cause} (v ∷ vs) P (value_kind s cells fit a p.0 v e, values_kinds s cells fit es p.1 vs f)))

-- ---- nothing is answered by default

index_values : (ks : List Kind) (vs : List Value) → list_all is_index_kind ks ≡ true → HaveKinds ks vs → AreIndexValues vs
index_values [] [] e h = tt
index_values [] (v ∷ vs) e h = absurd h
index_values (k ∷ ks) [] e h = absurd h
index_values (k ∷ ks) (v ∷ vs) e h = let p = and_parts (is_index_kind k) (list_all is_index_kind ks) e in (index_value k v p.0 h.0, index_values ks vs p.1 h.1)

values_counted : (names : Names) (es : Expressions) (vs : List Value) → HaveKinds (kinds_of_expressions names es) vs → length vs ≡ expression_count es
values_counted names no_expressions [] h = refl
values_counted names no_expressions (v ∷ vs) h = absurd h
values_counted names (expression e es) [] h = absurd h
values_counted names (expression e es) (v ∷ vs) h = let i : length vs ≡ expression_count es = values_counted names es vs h.1 in omega arith

scalar_place : (s : Site) (x : List ℕ) (ss : Expressions) (vs : List Value) → HaveKinds (kinds_of_expressions (names_at s) ss) vs
    → (not (nat_eq (expression_count ss) 0) || is_some (place_of s x [])) ≡ true → HasScalarPlace s x vs
scalar_place s x no_expressions [] h e = e
scalar_place s x no_expressions (v ∷ vs) h e = absurd h
scalar_place s x (expression a ss) [] h e = absurd h
scalar_place s x (expression a ss) (v ∷ vs) h e = tt

are_subscripts : (s : Site) (x : List ℕ) (ss : Expressions) (vs : List Value) → (names_at s).has_rank x (expression_count ss) ≡ true → list_all is_index_kind (kinds_of_expressions (names_at s) ss) ≡ true
    → HaveKinds (kinds_of_expressions (names_at s) ss) vs → AreSubscripts s x vs
are_subscripts s x ss vs r i h =
    let n : ℕ = expression_count ss in
    let p = and_parts (has_name x s.declared) (keys_have_rank s.keys x n && (not (nat_eq n 0) || is_some (place_of s x []))) r in
    let q = and_parts (keys_have_rank s.keys x n) (not (nat_eq n 0) || is_some (place_of s x [])) p.1 in
    record {
      indices = index_values (kinds_of_expressions (names_at s) ss) vs i h;
      rank = ap (keys_have_rank s.keys x) (values_counted (names_at s) ss vs h) ∙ q.0;
      scalar = scalar_place s x ss vs h q.1;
    }

mutual
  pub value_defined : (s : Site) (cells : Cells) → Fits s cells → (e : Expression) → is_well_kinded (names_at s) e ≡ true → IsDefined s cells e
  value_defined s cells fit (literal n k) h = tt
  value_defined s cells fit (get x ss) h =
      let all : Bool = list_all is_index_kind (kinds_of_expressions (names_at s) ss) in
      let p = and_parts ((names_at s).has_rank x (expression_count ss)) (are_well_kinded (names_at s) ss && all) h in
      let q = and_parts (are_well_kinded (names_at s) ss) all p.1 in
      (values_defined s cells fit ss q.0, λ vs e. are_subscripts s x ss vs p.0 q.1 (values_kinds s cells fit ss q.0 vs e))
  value_defined s cells fit (minus a) h = value_defined s cells fit a h
  value_defined s cells fit (binary op a b) h =
      let k : Kind = kind_of_expression (names_at s) a in
      let j : Kind = kind_of_expression (names_at s) b in
      let p = and_parts (takes_operands op k j) (is_well_kinded (names_at s) a && is_well_kinded (names_at s) b) h in
      let q = and_parts (is_well_kinded (names_at s) a) (is_well_kinded (names_at s) b) p.1 in
      (value_defined s cells fit a q.0, value_defined s cells fit b q.1, λ v w e f. are_operands op k j v w (value_kind s cells fit a q.0 v e) (value_kind s cells fit b q.1 w f) p.0)
  value_defined s cells fit (power a n) h = value_defined s cells fit a h
  value_defined s cells fit (call f args) h =
      let ks : List Kind = kinds_of_expressions (names_at s) args in
      let p = and_parts (takes_arguments f ks) (are_well_kinded (names_at s) args) h in
      (values_defined s cells fit args p.1, λ vs e. are_arguments f ks vs (values_kinds s cells fit args p.1 vs e) p.0)

  pub values_defined : (s : Site) (cells : Cells) → Fits s cells → (es : Expressions) → are_well_kinded (names_at s) es ≡ true → AreDefined s cells es
  values_defined s cells fit no_expressions h = tt
  values_defined s cells fit (expression e es) h =
      let p = and_parts (is_well_kinded (names_at s) e) (are_well_kinded (names_at s) es) h in
      (value_defined s cells fit e p.0, values_defined s cells fit es p.1)

pub condition_defined : (s : Site) (cells : Cells) → Fits s cells → (c : Condition) → is_well_kinded_condition (names_at s) c ≡ true → IsDefinedCondition s cells c
condition_defined s cells fit (relation op a b) h =
    let p = and_parts (is_well_kinded (names_at s) a) (is_well_kinded (names_at s) b) h in
    (value_defined s cells fit a p.0, value_defined s cells fit b p.1)
condition_defined s cells fit (negation a) h = condition_defined s cells fit a h
condition_defined s cells fit (conjunction a b) h =
    let p = and_parts (is_well_kinded_condition (names_at s) a) (is_well_kinded_condition (names_at s) b) h in
    (condition_defined s cells fit a p.0, condition_defined s cells fit b p.1)
condition_defined s cells fit (disjunction a b) h =
    let p = and_parts (is_well_kinded_condition (names_at s) a) (is_well_kinded_condition (names_at s) b) h in
    (condition_defined s cells fit a p.0, condition_defined s cells fit b p.1)
