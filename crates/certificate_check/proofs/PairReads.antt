-- Reads that pairs are made of.
use Rattle.std.proofs.Common.{◌≡◌, ℕ, Bool, true, false, ◌&&◌, if◌then◌else◌, nat_le, bytes_eq, ◌<◌, ◌≤◌, List, Option, Some, None, refl, sym, ap, ◌∙◌, arith}
use Rattle.std.proofs.lemmas.Bool.Decides.{nat_tests}
use Rattle.fl_types.specs.declared.access.Access.{Access}
use Rattle.index_forms.specs.declared.form.Form as program_form
use Rattle.index_forms.specs.Form.{Forms}
use Rattle.index_forms.specs.Sums.{differences}
use Rattle.index_forms.specs.Listed.{forms_seen, all_forms_seen}
use Rattle.index_knowledge.specs.Knowledge.{KnownPair}
use Rattle.certificate_rules.specs.Surveys.{numbered}
use Rattle.acceptance.proofs.NumberedItems.{mapped-some, mapped-none}
use Rattle.certificate_check.specs.Pairs.{is_pair_read, pair_read_of, pair_of_two}

abbrev pub F : Type 0
F = List program_form.Form

abbrev pub Rows : Type 0
Rows = List F

read-of : (active : List (List ℕ)) (as' : List Access) (rights : List Bool) (side : Rows) (n : ℕ) (a : Access) (r : Bool) (fs : F) → Some a ≡ numbered as' n → Some r ≡ numbered rights n → Some fs ≡ numbered side n →
    pair_read_of active (Some a) (Some r) (Some (forms_seen fs)) ≡ pair_read_of active (numbered as' n) (numbered rights n) (numbered (all_forms_seen side) n)
read-of active as' rights side n a r fs e h i =
    ap (λ (o : Option Access). pair_read_of active o (Some r) (Some (forms_seen fs))) e
    ∙ ap (λ (o : Option Bool). pair_read_of active (numbered as' n) o (Some (forms_seen fs))) h
    ∙ ap (pair_read_of active (numbered as' n) (numbered rights n)) (mapped-some forms_seen side n fs i)

pub read-some : (active : List (List ℕ)) (as' : List Access) (rights : List Bool) (side : Rows) (n : ℕ) (a : Access) (r : Bool) (fs gs : F) (x : List ℕ) → Some a ≡ numbered as' n → Some r ≡ numbered rights n → Some fs ≡ numbered side n →
    is_pair_read active a r ≡ true → x ≡ a.place.name → gs ≡ fs →
    ◌≡◌ {A = Option (List ℕ × Forms)} (Some (x, forms_seen gs)) (pair_read_of active (numbered as' n) (numbered rights n) (numbered (all_forms_seen side) n))
read-some active as' rights side n a r fs gs x e h i t j k = rw (j, k) (by_test (is_pair_read active a r) t) ∙ read-of active as' rights side n a r fs e h i
  where
    by_test : (b : Bool) → b ≡ true → ◌≡◌ {A = Option (List ℕ × Forms)} (Some (a.place.name, forms_seen fs)) (if b then Some (a.place.name, forms_seen fs) else None)
    by_test true s = refl
    by_test false s = cc

pub read-other : (active : List (List ℕ)) (as' : List Access) (rights : List Bool) (side : Rows) (n : ℕ) (a : Access) (r : Bool) (fs : F) → Some a ≡ numbered as' n → Some r ≡ numbered rights n → Some fs ≡ numbered side n →
    is_pair_read active a r ≡ false → ◌≡◌ {A = Option (List ℕ × Forms)} None (pair_read_of active (numbered as' n) (numbered rights n) (numbered (all_forms_seen side) n))
read-other active as' rights side n a r fs e h i t = by_test (is_pair_read active a r) t ∙ read-of active as' rights side n a r fs e h i
  where
    by_test : (b : Bool) → b ≡ false → ◌≡◌ {A = Option (List ℕ × Forms)} None (if b then Some (a.place.name, forms_seen fs) else None)
    by_test true s = cc
    by_test false s = refl

pub read-no-forms : (active : List (List ℕ)) (as' : List Access) (rights : List Bool) (side : Rows) (n : ℕ) (a : Access) (r : Bool) → Some a ≡ numbered as' n → Some r ≡ numbered rights n → None ≡ numbered side n →
    ◌≡◌ {A = Option (List ℕ × Forms)} None (pair_read_of active (numbered as' n) (numbered rights n) (numbered (all_forms_seen side) n))
read-no-forms active as' rights side n a r e h i =
    ap (λ (o : Option Access). pair_read_of active o (Some r) None) e ∙ ap (λ (o : Option Bool). pair_read_of active (numbered as' n) o None) h ∙ ap (pair_read_of active (numbered as' n) (numbered rights n)) (mapped-none forms_seen side n i)

-- ---- two of them

abbrev pub pair_made : (l k f g : ℕ) → Forms → Forms → KnownPair
pair_made l k f g s t = record { loop_number = l; first = f; second = g; differences = differences s t; nest = k }

pub two_turned : (l k f g : ℕ) (x y : List ℕ) (s t : Forms) → g < f → ◌≡◌ {A = Option KnownPair} None (pair_of_two l k f g (Some (x, s)) (Some (y, t)))
two_turned l k f g x y s t h =
    let e : nat_le f g ≡ false = grind (arith, nat_tests) in
    sym (ap (λ (b : Bool). if b && bytes_eq x y then Some (pair_made l k f g s t) else None) e)

pub two_others : (l k f g : ℕ) (x y : List ℕ) (s t : Forms) → f ≤ g → bytes_eq x y ≡ false → ◌≡◌ {A = Option KnownPair} None (pair_of_two l k f g (Some (x, s)) (Some (y, t)))
two_others l k f g x y s t h e =
    let d : nat_le f g ≡ true = grind (arith, nat_tests) in
    sym (ap (λ (b : Bool). if b && bytes_eq x y then Some (pair_made l k f g s t) else None) d ∙ ap (λ (b : Bool). if b then Some (pair_made l k f g s t) else None) e)

pub two_made : (l k f g : ℕ) (x y : List ℕ) (s t : Forms) (o : Option KnownPair) → f ≤ g → bytes_eq x y ≡ true → o ≡ Some (pair_made l k f g s t) → o ≡ pair_of_two l k f g (Some (x, s)) (Some (y, t))
two_made l k f g x y s t o h e i =
    let d : nat_le f g ≡ true = grind (arith, nat_tests) in
    i ∙ sym (ap (λ (b : Bool). if b && bytes_eq x y then Some (pair_made l k f g s t) else None) d ∙ ap (λ (b : Bool). if b then Some (pair_made l k f g s t) else None) e)
