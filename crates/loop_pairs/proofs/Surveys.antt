-- What is known of a loop of a typed program is a survey.
use Rattle.std.proofs.Common.{◌≡◌, ℕ, zero, suc, ◌+◌, Bool, true, false, not, ◌&&◌, ◌||◌, List, [], ◌∷◌, length, map, Option, Some, None, refl, sym, ap, ◌∙◌, subst, arith}
use Rattle.std.specs.Prelude.{bytes_eq, nat_eq}
use Rattle.std.specs.List.{list_any, AllByRecursion}
use Rattle.std.proofs.lemmas.Bool.{eqb-true}
use Rattle.std.proofs.lemmas.Slice.Eq.{bytes_eq-Decides}
use Rattle.fl_ast.specs.declared.decl.Decl.{Decl}
use Rattle.fl_ast.specs.declared.stmt.Program.{Program}
use Rattle.fl_ast.specs.Tree.{stmt_trees}
use Rattle.fl_types.specs.declared.access.Access.{Access}
use Rattle.fl_types.specs.Kinds.{has_declared_rank, declared_names, are_well_kinded_statements}
use Rattle.fl_types.specs.WellTyped.{are_declared_once, IsTyped}
use Rattle.fl_types.specs.Accesses.{Occurrence, scope_of, loop_accesses}
use Rattle.loop_accesses.specs.Numbers.{Numbered}
use Rattle.loop_accesses.specs.Numbers as numbers
use Rattle.index_forms.specs.declared.form.Side.{Side}
use Rattle.index_forms.specs.declared.form.Side.TheVariants.{One, Two}
use Rattle.index_forms.specs.Form.{Forms}
use Rattle.index_forms.specs.Loops.{HeadedLoop, inside}
use Rattle.index_forms.specs.Walk.{loop_forms}
use Rattle.certificate_rules.specs.Surveys.{numbered, count_of, IsSurvey}
use Rattle.certificate_check.specs.Flaws.{Loops}
use Rattle.loop_scenes.specs.Loops.{loops_by_all}
use Rattle.loop_pairs.specs.Known.{bare, bare_accesses, survey_by, known_in, known_of, AreSurveys}
use Rattle.loop_pairs.proofs.Ranks.{rank_of, ranks, counts, loop_counts}
use Rattle.loop_pairs.proofs.Forms.{as_many}
use Rattle.loop_pairs.proofs.Typed.{left_of, right_of, IsRanked, of_statements, IsWell, well_by_all}

-- ---- one declaration, one rank

declared_by : (x : List ℕ) (n : ℕ) (ds : List Decl) → has_declared_rank ds x n ≡ true → list_any (λ (e : Decl). bytes_eq x e.name) ds ≡ true
declared_by x n [] h = h
declared_by x n (d ∷ ds) h = by_test (bytes_eq x d.name) (nat_eq (length d.dims) n) h (declared_by x n ds)
  where
    by_test : (a b : Bool) → ((a && b) || has_declared_rank ds x n) ≡ true → (has_declared_rank ds x n ≡ true → list_any (λ (e : Decl). bytes_eq x e.name) ds ≡ true) → (a || list_any (λ (e : Decl). bytes_eq x e.name) ds) ≡ true
    by_test true b h f = refl
    by_test false b h f = f h

or_right : (a b : Bool) → a ≡ false → (a || b) ≡ true → b ≡ true
or_right true b e h = cc
or_right false b e h = h

or_left : (a b : Bool) → b ≡ false → (a || b) ≡ true → a ≡ true
or_left true b e h = refl
or_left false b e h = sym e ∙ h

not_true : (a : Bool) → not a ≡ true → a ≡ false
not_true true h = cc
not_true false h = refl

false_by : (a b : Bool) → (a ≡ true → b ≡ true) → b ≡ false → a ≡ false
false_by true b f e = sym (f refl) ∙ e
false_by false b f e = refl

pub one_rank : (x : List ℕ) (m n : ℕ) (ds : List Decl) → are_declared_once ds ≡ true → has_declared_rank ds x m ≡ true → has_declared_rank ds x n ≡ true → m ≡ n
one_rank x m n [] o h g = cc
one_rank x m n (d ∷ ds) o h g =
    by_test (bytes_eq x d.name) refl (one_rank x m n ds (right_of (not (list_any (λ (e : Decl). bytes_eq d.name e.name) ds)) (are_declared_once ds) o))
  where
    none : list_any (λ (e : Decl). bytes_eq d.name e.name) ds ≡ false
    none = not_true (list_any (λ (e : Decl). bytes_eq d.name e.name) ds) (left_of (not (list_any (λ (e : Decl). bytes_eq d.name e.name) ds)) (are_declared_once ds) o)

    rest : (k : ℕ) → x ≡ d.name → has_declared_rank ds x k ≡ false
    rest k e = false_by (has_declared_rank ds x k) (list_any (λ (c : Decl). bytes_eq x c.name) ds) (declared_by x k ds) (ap (λ (y : List ℕ). list_any (λ (c : Decl). bytes_eq y c.name) ds) e ∙ none)

    here : (k : ℕ) → x ≡ d.name → ((bytes_eq x d.name && nat_eq (length d.dims) k) || has_declared_rank ds x k) ≡ true → length d.dims ≡ k
    here k e q = eqb-true (length d.dims) k (right_of (bytes_eq x d.name) (nat_eq (length d.dims) k) (or_left (bytes_eq x d.name && nat_eq (length d.dims) k) (has_declared_rank ds x k) (rest k e) q))

    there : (k : ℕ) → bytes_eq x d.name ≡ false → ((bytes_eq x d.name && nat_eq (length d.dims) k) || has_declared_rank ds x k) ≡ true → has_declared_rank ds x k ≡ true
    there k e q = or_right (bytes_eq x d.name && nat_eq (length d.dims) k) (has_declared_rank ds x k) (ap (λ (b : Bool). b && nat_eq (length d.dims) k) e) q

    by_test : (b : Bool) → bytes_eq x d.name ≡ b → (has_declared_rank ds x m ≡ true → has_declared_rank ds x n ≡ true → m ≡ n) → m ≡ n
    by_test true e f = let s : x ≡ d.name = (bytes_eq-Decides x d.name).0 e in sym (here m s h) ∙ here n s g
    by_test false e f = f (there m e h) (there n e g)

-- ---- items by their numbers

abbrev head_or : {A : Type 0} → A → List A → A
head_or d [] = d
head_or d (x ∷ xs) = x

abbrev behind : {A : Type 0} → List A → List A
behind [] = []
behind (x ∷ xs) = xs

abbrev some_or : {A : Type 0} → A → Option A → A
some_or d None = d
some_or d (Some x) = x

same_some : {A : Type 0} (x y : A) → Some x ≡ Some y → x ≡ y
same_some x y e = ap (some_or x) e

abbrev at : (l m j : ℕ) → Occurrence → Numbered
at l m j o = record { number = m + j; loop_number = l; occurrence = o }

at_number : (l m : ℕ) (os : List Occurrence) (j : ℕ) (a : Access) → numbered (map bare (numbers.numbered l m os)) (suc j) ≡ Some a → (o : Occurrence) × (numbered os (suc j) ≡ Some o) × (a ≡ bare (at l m j o))
at_number l m [] j a h = cc
at_number l m (o ∷ os) zero a h =
    let z : m ≡ m + 0 = omega arith in
    (o, refl, sym (same_some (bare (record { number = m; loop_number = l; occurrence = o })) a h) ∙ ap (λ (k : ℕ). (let r : Access = bare (record { number = k; loop_number = l; occurrence = o }) in r)) z)
at_number l m (o ∷ os) (suc j) a h =
    let r = at_number l (suc m) os j a h in
    let z : suc m + j ≡ m + suc j = omega arith in
    (r.0, r.1, r.2 ∙ ap (λ (k : ℕ). (let q : Access = bare (record { number = k; loop_number = l; occurrence = r.0 }) in q)) z)

forms_at : (fs : List Forms) (os : List Occurrence) → counts fs ≡ ranks os → (n : ℕ) (f : Forms) (o : Occurrence) → numbered fs n ≡ Some f → numbered os n ≡ Some o → count_of f ≡ rank_of o
forms_at fs os e zero f o h g = cc
forms_at [] os e (suc n) f o h g = cc
forms_at (f0 ∷ fs) [] e (suc n) f o h g = cc
forms_at (f0 ∷ fs) (o0 ∷ os) e (suc zero) f o h g = ap count_of (sym (same_some f0 f h)) ∙ (ap (head_or 0) e ∙ ap rank_of (same_some o0 o g))
forms_at (f0 ∷ fs) (o0 ∷ os) e (suc (suc n)) f o h g = forms_at fs os (ap behind e) (suc n) f o h g

all_at : {A : Type 0} (P : A → Type 0) (xs : List A) → AllByRecursion P xs → (n : ℕ) (x : A) → numbered xs n ≡ Some x → P x
all_at P xs w zero x h = cc
all_at P [] w (suc n) x h = cc
all_at P (y ∷ xs) w (suc zero) x h = subst P (same_some y x h) w.0
all_at P (y ∷ xs) w (suc (suc n)) x h = all_at P xs w.1 (suc n) x h

-- ---- one survey

module _ (decls : List Decl) (l : HeadedLoop) where
  number_is : (n : ℕ) (a : Access) → numbered (bare_accesses decls l.loop) n ≡ Some a → a.number ≡ n
  number_is zero a h = cc
  number_is (suc j) a h =
      let r = at_number l.loop.number 1 (loop_accesses decls l.loop) j a h in
      let z : 1 + j ≡ suc j = omega arith in
      ap (λ (x : Access). x.number) r.2 ∙ z

  rank_at : are_well_kinded_statements (declared_names decls) (inside l) ≡ true → (side : Side) (n : ℕ) (a : Access) (f : Forms) → numbered (bare_accesses decls l.loop) n ≡ Some a → numbered (loop_forms decls l side) n ≡ Some f →
      has_declared_rank decls a.place.name (count_of f) ≡ true
  rank_at k side zero a f h g = cc
  rank_at k side (suc j) a f h g =
      let r = at_number l.loop.number 1 (loop_accesses decls l.loop) j a h in
      let o = r.0 in
      let count : count_of f ≡ rank_of o = forms_at (loop_forms decls l side) (loop_accesses decls l.loop) (loop_counts decls l side) (suc j) f o g r.1 in
      let ranked : has_declared_rank decls o.place.name (rank_of o) ≡ true =
      all_at (IsRanked (declared_names decls)) (loop_accesses decls l.loop) (of_statements (declared_names decls) (scope_of decls l.loop) 1 [] (inside l) k) (suc j) o r.1 in
      let name : a.place.name ≡ o.place.name = ap (λ (x : Access). x.place.name) r.2 in
      ap (λ (x : List ℕ). has_declared_rank decls x (count_of f)) name ∙ (ap (has_declared_rank decls o.place.name) count ∙ ranked)

  pub survey_is : are_declared_once decls ≡ true → are_well_kinded_statements (declared_names decls) (inside l) ≡ true → IsSurvey (survey_by decls l)
  survey_is o k = record {
    numbers = number_is;
    ones = as_many decls l One (loop_forms decls l One) (bare_accesses decls l.loop) refl refl;
    twos = as_many decls l Two (loop_forms decls l Two) (bare_accesses decls l.loop) refl refl;
    one_rank = λ m n a b f g ha hb e hf hg.
        let left : has_declared_rank decls a.place.name (count_of f) ≡ true = rank_at k One m a f ha hf in
        let right : has_declared_rank decls b.place.name (count_of g) ≡ true = rank_at k Two n b g hb hg in
        let same : a.place.name ≡ b.place.name = (bytes_eq-Decides a.place.name b.place.name).0 e in
        one_rank b.place.name (count_of f) (count_of g) decls o (ap (λ (x : List ℕ). has_declared_rank decls x (count_of f)) (sym same) ∙ left) right;
    facts_are = refl;
  }

-- ---- all loops

each_survey : (decls : List Decl) (on : List ℕ → Bool) (ls : List (Option HeadedLoop)) → are_declared_once decls ≡ true → AllByRecursion (IsWell (declared_names decls)) ls → AreSurveys (known_in decls on ls)
each_survey decls on [] o w = tt
each_survey decls on (None ∷ ls) o w = each_survey decls on ls o w.1
each_survey decls on (Some l ∷ ls) o w = (survey_is decls l o w.0, each_survey decls on ls o w.1)

pub all_surveys : (p : Program) (on : List ℕ → Bool) (ks : Loops) → IsTyped p → ks ≡ known_of p on → AreSurveys ks
unfolding known_of
all_surveys p on ks t k =
    subst AreSurveys (sym k) (each_survey p.decls on (loops_by_all [] (stmt_trees p.body)) t.once (well_by_all (declared_names p.decls) [] (stmt_trees p.body) t.kinds))
