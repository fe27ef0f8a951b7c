-- What well-kinded expressions give of the premises of the law.
use Rattle.std.specs.Prelude.{◌≡◌, Bool, true, false, ◌||◌, if◌then◌else◌, [], ◌∷◌, refl}
use Rattle.std.specs.List.{list_all}
use Rattle.std.proofs.Common.{ap, sym, ◌∙◌, arith}
use Rattle.std.proofs.lemmas.Bool.{and_parts}
use Rattle.std.proofs.lemmas.Bool.Decides.{nat_tests}
use Rattle.fl_ast.specs.declared.kind.Kind.{Kind}
use Rattle.fl_ast.specs.declared.kind.Kind.TheVariants.{Index, Ring}
use Rattle.fl_ast.specs.declared.kind.Fun.{Fun}
use Rattle.fl_ast.specs.declared.kind.Fun.TheVariants.{Max, Min, Abs, Mod}
use Rattle.fl_ast.specs.Same.{same_kind}
use Rattle.fl_ast.specs.Tree.{Expression, literal, get, minus, binary, power, call, Expressions, no_expressions, expression}
use Rattle.fl_types.specs.Kinds.{Names, wider_kind, widest_kind, kind_of_expression, kinds_of_expressions, is_index_kind, takes_operands, takes_arguments, expression_count, is_well_kinded, are_well_kinded}
use Rattle.transposition.specs.Needs.{is_data, has_data, PairOfOneKind, ArgumentsOfOneKind, Kinded, KindedAll}
use Rattle.transposition.specs.Sound.{Literals, LiteralsAll, Whole, WholeAll}
use Rattle.transposition.specs.Typed.{WellKindedIsTyped}

abbrev is_data_kind : Kind → Bool
is_data_kind Ring = true
is_data_kind Index = false

-- ---- numbers

mutual
  literals_of : (names : Names) (e : Expression) → is_well_kinded names e ≡ true → Literals e
  literals_of names (literal n Ring) h = grind (arith, nat_tests)
  literals_of names (literal n Index) h = tt
  literals_of names (get x ss) h = all_literals names ss (and_parts (are_well_kinded names ss) (list_all is_index_kind (kinds_of_expressions names ss)) (and_parts (names.has_rank x (expression_count ss)) _ h).1).0
  literals_of names (minus a) h = literals_of names a h
  literals_of names (binary op a b) h =
      let r = and_parts (is_well_kinded names a) (is_well_kinded names b) (and_parts (takes_operands op (kind_of_expression names a) (kind_of_expression names b)) _ h).1 in
      (literals_of names a r.0, literals_of names b r.1)
  literals_of names (power a n) h = literals_of names a h
  literals_of names (call f args) h = all_literals names args (and_parts (takes_arguments f (kinds_of_expressions names args)) _ h).1

  all_literals : (names : Names) (es : Expressions) → are_well_kinded names es ≡ true → LiteralsAll es
  all_literals names no_expressions h = tt
  all_literals names (expression e es) h =
      let r = and_parts (is_well_kinded names e) (are_well_kinded names es) h in
      (literals_of names e r.0, all_literals names es r.1)

-- ---- the index kind

name_whole : (b : Bool) → is_index_kind (if b then Ring else Index) ≡ true → b ≡ false
name_whole true h = cc
name_whole false h = refl

wider_whole : (k j : Kind) → is_index_kind (wider_kind k j) ≡ true → (is_index_kind k ≡ true) × (is_index_kind j ≡ true)
wider_whole Ring j h = cc
wider_whole Index j h = (refl, h)

mutual
  whole_of : (names : Names) (e : Expression) → is_index_kind (kind_of_expression names e) ≡ true → Whole names.ring e
  whole_of names (literal n Ring) h = cc
  whole_of names (literal n Index) h = tt
  whole_of names (get x ss) h = name_whole (names.ring x) h
  whole_of names (minus a) h = whole_of names a h
  whole_of names (binary op a b) h =
      let r = wider_whole (kind_of_expression names a) (kind_of_expression names b) h in
      (whole_of names a r.0, whole_of names b r.1)
  whole_of names (power a n) h = whole_of names a h
  whole_of names (call f args) h = all_whole names args h

  all_whole : (names : Names) (es : Expressions) → is_index_kind (widest_kind (kinds_of_expressions names es)) ≡ true → WholeAll names.ring es
  all_whole names no_expressions h = tt
  all_whole names (expression e es) h =
      let r = wider_whole (kind_of_expression names e) (widest_kind (kinds_of_expressions names es)) h in
      (whole_of names e r.0, all_whole names es r.1)

-- ---- one kind

name_data : (b : Bool) → b ≡ is_data_kind (if b then Ring else Index)
name_data true = refl
name_data false = refl

wider_data : (k j : Kind) → (is_data_kind k || is_data_kind j) ≡ is_data_kind (wider_kind k j)
wider_data Ring j = refl
wider_data Index j = refl

mutual
  data_of : (names : Names) (e : Expression) → is_data names.ring e ≡ is_data_kind (kind_of_expression names e)
  data_of names (literal n Ring) = refl
  data_of names (literal n Index) = refl
  data_of names (get x ss) = name_data (names.ring x)
  data_of names (minus a) = data_of names a
  data_of names (binary op a b) =
      ap (λ (c : Bool). c || is_data names.ring b) (data_of names a) ∙ (ap (λ (c : Bool). is_data_kind (kind_of_expression names a) || c) (data_of names b) ∙ wider_data (kind_of_expression names a) (kind_of_expression names b))
  data_of names (power a n) = data_of names a
  data_of names (call f args) = all_data names args

  all_data : (names : Names) (es : Expressions) → has_data names.ring es ≡ is_data_kind (widest_kind (kinds_of_expressions names es))
  all_data names no_expressions = refl
  all_data names (expression e es) =
      ap (λ (c : Bool). c || has_data names.ring es) (data_of names e) ∙ (ap (λ (c : Bool). is_data_kind (kind_of_expression names e) || c) (all_data names es) ∙ wider_data (kind_of_expression names e) (widest_kind (kinds_of_expressions names es)))

same_data : (k j : Kind) → same_kind k j ≡ true → is_data_kind k ≡ is_data_kind j
same_data Ring Ring h = refl
same_data Index Index h = refl
same_data Ring Index h = cc
same_data Index Ring h = cc

pair_of : (names : Names) (f : Fun) → ((k j : Kind) → takes_arguments f (k ∷ j ∷ []) ≡ true → same_kind k j ≡ true) → (es : Expressions) → takes_arguments f (kinds_of_expressions names es) ≡ true → PairOfOneKind names.ring es
pair_of names f g no_expressions h = tt
pair_of names f g (expression a no_expressions) h = tt
pair_of names f g (expression a (expression b no_expressions)) h = data_of names a ∙ (same_data (kind_of_expression names a) (kind_of_expression names b) (g _ _ h) ∙ sym (data_of names b))
pair_of names f g (expression a (expression b (expression c es))) h = tt

arguments_of : (names : Names) (f : Fun) (es : Expressions) → takes_arguments f (kinds_of_expressions names es) ≡ true → ArgumentsOfOneKind names.ring f es
arguments_of names Max es h = pair_of names Max (λ k j e. e) es h
arguments_of names Min es h = pair_of names Min (λ k j e. e) es h
arguments_of names Abs es h = tt
arguments_of names Mod es h = tt

mutual
  kinds_of : (names : Names) (e : Expression) → is_well_kinded names e ≡ true → Kinded names.ring e
  kinds_of names (literal n k) h = tt
  kinds_of names (get x ss) h = tt
  kinds_of names (minus a) h = kinds_of names a h
  kinds_of names (binary op a b) h =
      let r = and_parts (is_well_kinded names a) (is_well_kinded names b) (and_parts (takes_operands op (kind_of_expression names a) (kind_of_expression names b)) _ h).1 in
      (kinds_of names a r.0, kinds_of names b r.1)
  kinds_of names (power a n) h = kinds_of names a h
  kinds_of names (call f args) h =
      let r = and_parts (takes_arguments f (kinds_of_expressions names args)) (are_well_kinded names args) h in
      (arguments_of names f args r.0, all_kinds names args r.1)

  all_kinds : (names : Names) (es : Expressions) → are_well_kinded names es ≡ true → KindedAll names.ring es
  all_kinds names no_expressions h = tt
  all_kinds names (expression e es) h =
      let r = and_parts (is_well_kinded names e) (are_well_kinded names es) h in
      (kinds_of names e r.0, all_kinds names es r.1)

pub typed_by_kinds : WellKindedIsTyped
typed_by_kinds names e h = record { literals = literals_of names e h; kinds = kinds_of names e h; whole = λ k. whole_of names e k }
