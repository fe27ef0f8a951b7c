-- Where a new name comes in the lists of a directive.
use Rattle.std.proofs.Common.{◌≡◌, ℕ, Bool, true, false, not, ◌&&◌, ◌||◌, List, [], ◌∷◌, ◌++◌, refl, sym, ap, ◌∙◌, append_assoc, bytes_eq}
use Rattle.std.specs.List.{list_any, list_all}
use Rattle.std.proofs.lemmas.Slice.Eq.{bytes_eq-Decides}
use Rattle.fl_ast.specs.declared.directive.Directive.{Directive}
use Rattle.fl_ast.specs.Readable.{listed_names, are_apart}
use Rattle.omp_clauses.specs.declared.state.Sharing.{Sharing}
use Rattle.omp_clauses.specs.declared.state.Sharing.TheVariants.{Private, First, Shared, Plus}
use Rattle.omp_clauses.specs.Said.{named}
use Rattle.parsing.proofs.Outcomes.{append_nil, differ}

abbrev pub Stands : List (List ℕ) → List (List ℕ) → List ℕ → Type 0
Stands new old x = (before : List (List ℕ)) × (after : List (List ℕ)) × (new ≡ before ++ (x ∷ after)) × (old ≡ before ++ after)

pub place : (sharing : Sharing) (d : Directive) (x : List ℕ) → Stands (listed_names (named sharing d x)) (listed_names d) x
place Private d x = (d.privates, d.firsts ++ (d.shareds ++ d.pluses), append_assoc d.privates (x ∷ []) (d.firsts ++ (d.shareds ++ d.pluses)), refl)
place First d x = (
  d.privates ++ d.firsts,
  d.shareds ++ d.pluses,
  ap (λ v. d.privates ++ v) (append_assoc d.firsts (x ∷ []) (d.shareds ++ d.pluses)) ∙ sym (append_assoc d.privates d.firsts (x ∷ (d.shareds ++ d.pluses))),
  sym (append_assoc d.privates d.firsts (d.shareds ++ d.pluses)),
)
place Shared d x = (
  d.privates ++ (d.firsts ++ d.shareds),
  d.pluses,
  ap (λ v. d.privates ++ (d.firsts ++ v)) (append_assoc d.shareds (x ∷ []) d.pluses)
      ∙ ap (λ v. d.privates ++ v) (sym (append_assoc d.firsts d.shareds (x ∷ d.pluses)))
      ∙ sym (append_assoc d.privates (d.firsts ++ d.shareds) (x ∷ d.pluses)),
  ap (λ v. d.privates ++ v) (sym (append_assoc d.firsts d.shareds d.pluses)) ∙ sym (append_assoc d.privates (d.firsts ++ d.shareds) d.pluses),
)
place Plus d x = (
  listed_names d,
  [],
  ap (λ v. d.privates ++ (d.firsts ++ v)) (sym (append_assoc d.shareds d.pluses (x ∷ [])))
      ∙ ap (λ v. d.privates ++ v) (sym (append_assoc d.firsts (d.shareds ++ d.pluses) (x ∷ [])))
      ∙ sym (append_assoc d.privates (d.firsts ++ (d.shareds ++ d.pluses)) (x ∷ [])),
  sym (append_nil (listed_names d)),
)

swapped : (a b c : Bool) → (a || (b || c)) ≡ (b || (a || c))
swapped true true c = refl
swapped true false c = refl
swapped false b c = refl

any_among : (test : List ℕ → Bool) (before after : List (List ℕ)) (x : List ℕ) → list_any test (before ++ (x ∷ after)) ≡ (test x || list_any test (before ++ after))
any_among test [] after x = refl
any_among test (y ∷ before) after x = ap (λ b. test y || b) (any_among test before after x) ∙ swapped (test y) (test x) (list_any test (before ++ after))

-- what is listed then
pub any_named : (test : List ℕ → Bool) (sharing : Sharing) (d : Directive) (x : List ℕ) → list_any test (listed_names (named sharing d x)) ≡ (test x || list_any test (listed_names d))
any_named test sharing d x =
    let p = place sharing d x in
    ap (list_any test) p.2 ∙ any_among test p.0 p.1 x ∙ ap (λ v. test x || list_any test v) (sym p.3)

both : (a b : Bool) → a ≡ true → b ≡ true → (a && b) ≡ true
both a b h k = rw (h, k) refl

pub first_of_two : (a b : Bool) → (a && b) ≡ true → a ≡ true
first_of_two true b e = refl
first_of_two false b e = e

pub second_of_two : (a b : Bool) → (a && b) ≡ true → b ≡ true
second_of_two true b e = e
second_of_two false b e = differ false e refl

all_among : (test : List ℕ → Bool) (before after : List (List ℕ)) (x : List ℕ) → test x ≡ true → list_all test (before ++ after) ≡ true → list_all test (before ++ (x ∷ after)) ≡ true
all_among test [] after x h all = both _ _ h all
all_among test (y ∷ before) after x h all = both _ _ (first_of_two _ _ all) (all_among test before after x h (second_of_two _ _ all))

pub all_named : (test : List ℕ → Bool) (sharing : Sharing) (d : Directive) (x : List ℕ) → test x ≡ true → list_all test (listed_names d) ≡ true → list_all test (listed_names (named sharing d x)) ≡ true
all_named test sharing d x h all =
    let p = place sharing d x in
    ap (list_all test) p.2 ∙ all_among test p.0 p.1 x h (ap (list_all test) (sym p.3) ∙ all)

neither_first : (a b : Bool) → (a || b) ≡ false → a ≡ false
neither_first true b e = e
neither_first false b e = refl

neither_second : (a b : Bool) → (a || b) ≡ false → b ≡ false
neither_second true b e = differ true refl e
neither_second false b e = e

unlike : (x y : List ℕ) → bytes_eq x y ≡ false → bytes_eq y x ≡ false
unlike x y h = by (bytes_eq y x) refl
  where
    by : (b : Bool) → bytes_eq y x ≡ b → bytes_eq y x ≡ false
    by true e = differ (bytes_eq x y) ((bytes_eq-Decides x y).1 (sym ((bytes_eq-Decides y x).0 e))) h
    by false e = e

apart_among : (before after : List (List ℕ)) (x : List ℕ) → list_any (bytes_eq x) (before ++ after) ≡ false → are_apart (before ++ after) ≡ true → are_apart (before ++ (x ∷ after)) ≡ true
apart_among [] after x h apart = both _ _ (ap not h) apart
apart_among (y ∷ before) after x h apart =
    both _ _
    (ap not (any_among (bytes_eq y) before after x ∙ ap (λ b. b || list_any (bytes_eq y) (before ++ after)) (unlike x y (neither_first _ _ h))) ∙ first_of_two _ _ apart)
    (apart_among before after x (neither_second _ _ h) (second_of_two _ _ apart))

pub apart_named : (sharing : Sharing) (d : Directive) (x : List ℕ) → list_any (bytes_eq x) (listed_names d) ≡ false → are_apart (listed_names d) ≡ true → are_apart (listed_names (named sharing d x)) ≡ true
apart_named sharing d x h apart =
    let p = place sharing d x in
    ap are_apart p.2 ∙ apart_among p.0 p.1 x (ap (list_any (bytes_eq x)) (sym p.3) ∙ h) (ap are_apart (sym p.3) ∙ apart)
