-- Stores: what their marks and forms say at a site.
use Rattle.std.specs.Prelude.{◌≡◌, ℕ, ◌<◌, Bool, true, false, if◌then◌else◌, ◌&&◌, List, length, Option, Some, None, is_some, refl}
use Rattle.std.proofs.Common.{ap, sym, ◌∙◌, subst}
use Rattle.std.proofs.lemmas.Bool.{and_parts}
use Rattle.fl_ast.specs.declared.kind.Kind.{Kind}
use Rattle.fl_ast.specs.declared.kind.Kind.TheVariants.{Index, Ring}
use Rattle.fl_ast.specs.Tree.{Expression, Designator}
use Rattle.fl_types.specs.declared.increment.IncrementForm.{IncrementForm}
use Rattle.fl_types.specs.declared.increment.IncrementForm.TheVariants.{Chain, Sum}
use Rattle.fl_types.specs.Increment.{Signed, target_of, chain, first_of_sum, are_free_of, if_free, either, rest_terms, increment_terms}
use Rattle.fl_types.specs.Accesses.{increment_kind}
use Rattle.fl_types.specs.declared.access.AccessKind.{AccessKind}
use Rattle.fl_types.specs.Kinds.{is_index_kind, is_index_scalar, is_index_expression, is_index_step, is_well_kinded_head, takes_value, kind_of_name, kind_of_expression, is_well_kinded, is_well_kinded_assignment, Names as Known}
use Rattle.fl_types.specs.Sharing.{is_ring_kind}
use Rattle.store_core.specs.declared.layout.Shape.{Shape}
use Rattle.store_core.specs.Keys.{HasEachOnce}
use Rattle.meaning.specs.Sites.{Site}
use Rattle.meaning.specs.Fitting.{names_at}
use Rattle.resolved.specs.SlotTables.{Names, kind_at, is_ring_at, is_ring_in, table_site}
use Rattle.resolved.specs.declared.resolved.ResolvedPlace.{ResolvedPlace}
use Rattle.resolved.specs.ResolvedExprs.{slot_name, place_back}
use Rattle.split_trees.proofs.Parts.{place_is}
use Rattle.sweep_steps.specs.Steps.{TermTree}
use Rattle.std.specs.List.{list_all}
use Rattle.resolved.specs.ResolvedStmts.{form_in, same_form}
use Rattle.resolved.proofs.Slots.{slot_again}
use Rattle.sweep_trees.specs.Split.{SpotTree}
use Rattle.sweep_trees.specs.Standing.{is_accessed_at, is_ring_fit}
use Rattle.split_trees.specs.Codes.{CodeTree, code_kind, spot_slot, StandsFor, SpotStandsFor}
use Rattle.sweep_steps.specs.StepsStand.{flags_at, spot_kind, AssignStands, UpdateStands}
use Rattle.loop_scopes.specs.Scopes.{IsScope}
use Rattle.loop_scopes.proofs.Scopes.{marked_at}
use Rattle.made_steps.specs.Scopes.{TermsStand}

-- ---- kinds

pub ring_at_slot : (names : Names) (slot : ℕ) → HasEachOnce names.0 → slot < length names.0 → is_ring_in names (slot_name names.0 slot) ≡ is_ring_kind (kind_at names.1 slot)
ring_at_slot names slot once h = ap (is_ring_at names.1) (slot_again names.0 slot once h)

pub same_ring : (names : Names) (pushed accessed reduced : List Bool) (outer : List (List ℕ)) (site : Site) (slot : ℕ) (x : List ℕ) → IsScope names pushed accessed reduced outer site
    → HasEachOnce names.0 → slot < length names.0 → x ≡ slot_name names.0 slot → site.ring x ≡ is_ring_in names x
same_ring names pushed accessed reduced outer site slot x s once h e =
    ap site.ring e ∙ (s.kinds slot h ∙ sym (ring_at_slot names slot once h)) ∙ ap (is_ring_in names) (sym e)

again : (k : Kind) → (if is_ring_kind k then Ring else Index) ≡ k
again Ring = refl
again Index = refl

pub kind_at_slot : (names : Names) (slot : ℕ) (x : List ℕ) → HasEachOnce names.0 → slot < length names.0 → x ≡ slot_name names.0 slot
    → kind_of_name (names_at (table_site names)) x ≡ kind_at names.1 slot
kind_at_slot names slot x once h e =
    ap (λ (b : Bool). if b then Ring else Index) (ap (is_ring_in names) e ∙ ring_at_slot names slot once h) ∙ again (kind_at names.1 slot)

-- ---- forms

pub same_form_is : (a b : Option IncrementForm) → same_form a b ≡ true → a ≡ b
same_form_is None None h = refl
same_form_is (Some Chain) (Some Chain) h = refl
same_form_is (Some Sum) (Some Sum) h = refl
same_form_is None (Some Chain) h = absurd (cc)
same_form_is None (Some Sum) h = absurd (cc)
same_form_is (Some Chain) None h = absurd (cc)
same_form_is (Some Sum) None h = absurd (cc)
same_form_is (Some Chain) (Some Sum) h = absurd (cc)
same_form_is (Some Sum) (Some Chain) h = absurd (cc)

abbrev form_by : Option (List Signed) → Option (List Signed) → Option IncrementForm
form_by a b = if is_some a then Some Chain else if is_some b then Some Sum else None

free_inner : (x : List ℕ) (o : Option (List Signed)) (rs : List Signed) → if_free x o ≡ Some rs → o ≡ Some rs
free_inner x None rs e = absurd (cc)
free_inner x (Some qs) rs e = by_test (are_free_of x qs) e
  where
    by_test : (b : Bool) → (if b then Some qs else None) ≡ Some rs → Some qs ≡ Some rs
    by_test true f = f
    by_test false f = absurd (cc)

plain_by : (q : Bool) (a b : Option (List Signed)) → None ≡ (if q then form_by a b else None) → (if q then either a b else None) ≡ None
plain_by false a b h = refl
plain_by true None None h = refl
plain_by true None (Some rs) h = absurd (cc)
plain_by true (Some rs) b h = absurd (cc)

pub plain_is : (names : Names) (p : Designator) (e : Expression) → None ≡ form_in names p e → increment_terms (is_ring_in names) p e ≡ None
plain_is names p e h = plain_by (is_ring_in names p.name) (if_free p.name (chain (target_of p) e)) (if_free p.name (first_of_sum (target_of p) e)) h

-- the terms of an increment whose form finds them in the list
pub record Formed (names : Names) (p : Designator) (e : Expression) (found : Option (List Signed)) : Type 0 where
  pub rest : List Signed
  pub is_found : found ≡ Some rest
  pub is_rest : increment_terms (is_ring_in names) p e ≡ Some rest

record Taken (q : Bool) (a b c : Option (List Signed)) : Type 0 where
  pub list : List Signed
  pub is_list : c ≡ Some list
  pub whole : (if q then either a b else None) ≡ Some list

chain_by : (q : Bool) (a b : Option (List Signed)) → Some Chain ≡ (if q then form_by a b else None) → Taken q a b a
chain_by false a b h = absurd (cc)
chain_by true None None h = absurd (cc)
chain_by true None (Some rs) h = absurd (cc)
chain_by true (Some rs) b h = record { list = rs; is_list = refl; whole = refl }

sum_by : (q : Bool) (a b : Option (List Signed)) → Some Sum ≡ (if q then form_by a b else None) → Taken q a b b
sum_by false a b h = absurd (cc)
sum_by true None None h = absurd (cc)
sum_by true None (Some rs) h = record { list = rs; is_list = refl; whole = refl }
sum_by true (Some rs) b h = absurd (cc)

pub chain_is : (names : Names) (p : Designator) (e : Expression) → Some Chain ≡ form_in names p e → Formed names p e (chain (target_of p) e)
chain_is names p e h =
    let w = chain_by (is_ring_in names p.name) (if_free p.name (chain (target_of p) e)) (if_free p.name (first_of_sum (target_of p) e)) h in
    record { rest = w.list; is_found = free_inner p.name (chain (target_of p) e) w.list w.is_list; is_rest = w.whole }

pub sum_is : (names : Names) (p : Designator) (e : Expression) → Some Sum ≡ form_in names p e → Formed names p e (first_of_sum (target_of p) e)
sum_is names p e h =
    let w = sum_by (is_ring_in names p.name) (if_free p.name (chain (target_of p) e)) (if_free p.name (first_of_sum (target_of p) e)) h in
    record { rest = w.list; is_found = free_inner p.name (first_of_sum (target_of p) e) w.list w.is_list; is_rest = w.whole }

pub chain_found : (names : Names) (p : Designator) (e : Expression) (rs : List Signed) → Some Chain ≡ form_in names p e → increment_terms (is_ring_in names) p e ≡ Some rs
    → chain (target_of p) e ≡ Some rs
chain_found names p e rs f h = let c = chain_is names p e f in c.is_found ∙ (sym c.is_rest ∙ h)

pub sum_found : (names : Names) (p : Designator) (e : Expression) (rs : List Signed) → Some Sum ≡ form_in names p e → increment_terms (is_ring_in names) p e ≡ Some rs
    → first_of_sum (target_of p) e ≡ Some rs
sum_found names p e rs f h = let c = sum_is names p e f in c.is_found ∙ (sym c.is_rest ∙ h)

-- an assignment that has a form has terms
pub record Termed (names : Names) (p : Designator) (e : Expression) : Type 0 where
  pub rest : List Signed
  pub is_rest : increment_terms (is_ring_in names) p e ≡ Some rest

pub termed : (names : Names) (p : Designator) (e : Expression) (form : IncrementForm) → Some form ≡ form_in names p e → Termed names p e
termed names p e Chain f = let c = chain_is names p e f in record { rest = c.rest; is_rest = c.is_rest }
termed names p e Sum f = let c = sum_is names p e f in record { rest = c.rest; is_rest = c.is_rest }

pub found_some : (o : Option (List Signed)) (rs : List Signed) → o ≡ Some rs → is_some o ≡ true
found_some o rs e = rw e refl

ring_by : (q : Bool) (o : Option (List Signed)) (rs : List Signed) → (if q then o else None) ≡ Some rs → q ≡ true
ring_by true o rs e = refl
ring_by false o rs e = absurd (cc)

is_ring : (k : Kind) → is_ring_kind k ≡ true → k ≡ Ring
is_ring Ring h = refl
is_ring Index h = absurd (cc)

-- the target of an increment is of the ring kind
pub ring_target : (names : Names) (p : Designator) (e : Expression) (rs : List Signed) (slot : ℕ) → HasEachOnce names.0 → slot < length names.0 → p.name ≡ slot_name names.0 slot
    → increment_terms (is_ring_in names) p e ≡ Some rs → kind_at names.1 slot ≡ Ring
ring_target names p e rs slot once h n f =
    is_ring (kind_at names.1 slot) (sym (ring_at_slot names slot once h) ∙ (ap (is_ring_in names) (sym n) ∙ ring_by (is_ring_in names p.name) (rest_terms p e) rs f))

pub terms_at : (f g : List ℕ → Bool) (p : Designator) (e : Expression) → f p.name ≡ g p.name → increment_terms f p e ≡ increment_terms g p e
terms_at f g p e h = ap (λ (b : Bool). if b then rest_terms p e else None) h

-- ---- trees under the marks of a site

pub place_at : (names : Names) (accessed : List Bool) (site : Site) (slot : ℕ) (p : Designator) (s : SpotTree) → flags_at names site ≡ accessed
    → SpotStandsFor names accessed slot p s → SpotStandsFor names (flags_at names site) (spot_slot s) p s
place_at names accessed site slot p s a h =
    subst (λ flags. SpotStandsFor names flags (spot_slot s) p s) (sym a) (subst (λ k. SpotStandsFor names accessed k p s) (sym h.slot_is) h)

pub content_at : (names : Names) (accessed : List Bool) (site : Site) (e : Expression) (c : CodeTree) → flags_at names site ≡ accessed → StandsFor names accessed e c → StandsFor names (flags_at names site) e c
content_at names accessed site e c a h = subst (λ flags. StandsFor names flags e c) (sym a) h

pub assignment_kinded : (known : Known) (p : Designator) (e : Expression) → is_well_kinded_assignment known p e ≡ true
    → (takes_value (kind_of_name known p.name) (kind_of_expression known e) ≡ true) × (is_well_kinded known (target_of p) ≡ true) × (is_well_kinded known e ≡ true)
assignment_kinded known p e h =
    let q = and_parts (takes_value (kind_of_name known p.name) (kind_of_expression known e)) (is_well_kinded known (target_of p) && is_well_kinded known e) h in
    let r = and_parts (is_well_kinded known (target_of p)) (is_well_kinded known e) q.1 in
    (q.0, r.0, r.1)

pub place_named : (shapes : List Shape) (o : ResolvedPlace) → (place_back shapes o).name ≡ slot_name shapes o.slot
place_named shapes o = ap (λ (d : Designator). d.name) (place_is shapes o)

-- an assignment that is no increment
pub assigned : (names : Names) (pushed accessed reduced : List Bool) (outer : List (List ℕ)) (site : Site) (slot : ℕ) (pushes : Bool) (target : SpotTree) (value : CodeTree) (p : Designator) (e : Expression)
    → HasEachOnce names.0 → slot < length names.0 → p.name ≡ slot_name names.0 slot → IsScope names pushed accessed reduced outer site
    → is_well_kinded_assignment (names_at (table_site names)) p e ≡ true → increment_terms (is_ring_in names) p e ≡ None
    → pushes ≡ is_accessed_at pushed slot → SpotStandsFor names accessed slot p target → StandsFor names accessed e value → AssignStands names site pushes target value p e
assigned names pushed accessed reduced outer site slot pushes target value p e once h n s kinded plain' marked t v =
    let kinds : kind_of_name (names_at (table_site names)) p.name ≡ spot_kind names target = kind_at_slot names slot p.name once h n ∙ ap (kind_at names.1) (sym t.slot_is) in
    record {
      plain = terms_at site.ring (is_ring_in names) p e (same_ring names pushed accessed reduced outer site slot p.name s once h n) ∙ plain';
      pushing = marked ∙ (ap (λ marks. is_accessed_at marks slot) (sym s.pushes) ∙ (marked_at site.pushed names.0 slot h ∙ ap site.pushed (sym n)));
      place = place_at names accessed site slot p target s.accesses t;
      content = content_at names accessed site e value s.accesses v;
      taken = subst (λ k. takes_value k (code_kind value) ≡ true) kinds (ap (takes_value (kind_of_name (names_at (table_site names)) p.name)) v.kind ∙ (assignment_kinded (names_at (table_site names)) p e kinded).0);
    }

-- an increment
pub updated : (names : Names) (pushed accessed reduced : List Bool) (outer : List (List ℕ)) (site : Site) (slot : ℕ) (atomic plus : Bool) (kind : AccessKind) (target : SpotTree) (terms : List TermTree) (p : Designator)
    (e : Expression) (rs : List Signed)
    → HasEachOnce names.0 → slot < length names.0 → p.name ≡ slot_name names.0 slot → IsScope names pushed accessed reduced outer site
    → increment_terms (is_ring_in names) p e ≡ Some rs → plus ≡ is_accessed_at reduced slot → kind ≡ increment_kind atomic plus
    → SpotStandsFor names accessed slot p target → TermsStand names accessed rs terms → UpdateStands names site atomic kind target terms p e
updated names pushed accessed reduced outer site slot atomic plus kind target terms p e rs once h n s i marked k t ts =
    record {
      rest = terms_at site.ring (is_ring_in names) p e (same_ring names pushed accessed reduced outer site slot p.name s once h n) ∙ (i ∙ ap Some (sym ts.back));
      fit = subst (λ flags. list_all (λ (t : TermTree). is_ring_fit names flags t.1) terms ≡ true) (sym s.accesses) ts.fit;
      access = k ∙ ap (increment_kind atomic) (marked ∙ (ap (λ marks. is_accessed_at marks slot) (sym s.reduces) ∙ (marked_at site.pluses names.0 slot h ∙ ap site.pluses (sym n))));
      place = place_at names accessed site slot p target s.accesses t;
      data_kind = ap (kind_at names.1) t.slot_is ∙ ring_target names p e rs slot once h n i;
    }

is_index : (k : Kind) → is_index_kind k ≡ true → k ≡ Index
is_index Index h = refl
is_index Ring h = absurd (cc)

-- the variable of a loop is of the index kind
pub index_variable : (names : Names) (slot : ℕ) (first last : Expression) (step : Option Expression) → HasEachOnce names.0 → slot < length names.0
    → is_well_kinded_head (names_at (table_site names)) (slot_name names.0 slot) first last step ≡ true → kind_at names.1 slot ≡ Index
index_variable names slot first last step once h k =
    let known = names_at (table_site names) in
    let p = and_parts (is_index_scalar known (slot_name names.0 slot)) (is_index_expression known first && (is_index_expression known last && is_index_step known step)) k in
    let q = and_parts (is_index_kind (kind_of_name known (slot_name names.0 slot))) (known.has_rank (slot_name names.0 slot) 0) p.0 in
    is_index (kind_at names.1 slot) (ap is_index_kind (sym (kind_at_slot names slot (slot_name names.0 slot) once h refl)) ∙ q.0)
