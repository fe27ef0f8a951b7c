-- The targets of stores.
use Rattle.std.specs.Prelude.{◌≡◌, ℕ, ℤ, ◌<◌, Bool, true, false, ◌&&◌, nat_lt, List, [], length, Option, Some, None, is_some, refl}
use Rattle.std.proofs.Common.{ap, sym, subst, ◌∙◌, arith}
use Rattle.std.proofs.lemmas.Bool.{and_parts}
use Rattle.std.proofs.lemmas.Bool.Decides.{nat_tests}
use Rattle.fl_ast.specs.declared.kind.Kind.{Kind}
use Rattle.fl_ast.specs.Tree.{Designator}
use Rattle.store_core.specs.declared.layout.Shape.{Shape}
use Rattle.store_core.specs.Keys.{place_in_slot, first_at, same_key}
use Rattle.store_core.proofs.Slots.{first_found}
use Rattle.meaning.specs.declared.value.Cause.{Cause}
use Rattle.meaning.specs.Values.{whole_numbers}
use Rattle.meaning.specs.Logs.{pure}
use Rattle.meaning.specs.Sites.{Cells, Site, place_of, kind_of}
use Rattle.meaning.specs.Expressions.{content, values_of}
use Rattle.meaning.specs.Fitting.{Fits}
use Rattle.meaning.proofs.Gives.{Gives, then_gives, gives_value}
use Rattle.meaning.proofs.Placing.{HoldsKind, fits_at, fitting_length}
use Rattle.resolved.specs.SlotTables.{Names, kind_at}
use Rattle.resolved.specs.ResolvedExprs.{slot_name}
use Rattle.dual_evaluation.specs.Answers.{location_of}
use Rattle.sweep_trees.specs.Split.{SpotTree, scalar, element, elements}
use Rattle.sweep_trees.specs.Standing.{is_accessed_at, same_flag, is_place, is_slot, spot_back, is_spot_fit, is_index_fit, are_indices_fit}
use Rattle.sweep_evaluation.specs.Machine.{spot_slot, is_accessed}
use Rattle.sweep_law.specs.Telling.{IsSite}

-- what the name of a target is at a site
pub record IsTarget (names : Names) (site : Site) (within : Bool) (slot : ℕ) (accessed : Bool) : Type 0 where
  pub below : slot < length names.0
  pub kind : kind_of site (slot_name names.0 slot) ≡ kind_at names.1 slot
  pub access : site.accessed (slot_name names.0 slot) ≡ (accessed && within)

same_flags : (a b : Bool) → same_flag a b ≡ true → b ≡ a
same_flags true true h = refl
same_flags true false h = cc
same_flags false true h = cc
same_flags false false h = refl

slot_below : (a b : ℕ) → nat_lt a b ≡ true → a < b
slot_below a b h = grind (arith, nat_tests)

is_target : (names : Names) (site : Site) (flags : List Bool) (within : Bool) → IsSite site names flags within → (of_kind : Kind → Bool) (slot : ℕ) (accessed : Bool) → is_slot names flags of_kind slot accessed ≡ true → IsTarget names site within slot accessed
is_target names site flags within s of_kind slot accessed h =
    let p = and_parts (nat_lt slot (length names.0)) (of_kind (kind_at names.1 slot) && same_flag accessed (is_accessed_at flags slot)) h in
    let q = and_parts (of_kind (kind_at names.1 slot)) (same_flag accessed (is_accessed_at flags slot)) p.1 in
    let b = slot_below slot (length names.0) p.0 in
    record {
      below = b;
      kind = s.kinds slot b;
      access = s.accesses slot b ∙ ap (λ (f : Bool). f && within) (same_flags accessed (is_accessed_at flags slot) q.1);
    }

pub target_at : (names : Names) (site : Site) (flags : List Bool) (within : Bool) → IsSite site names flags within → (of_kind : Kind → Bool) (p : SpotTree) → is_spot_fit names flags of_kind p ≡ true
    → IsTarget names site within (spot_slot p) (is_accessed p)
target_at names site flags within s of_kind (scalar slot place accessed) h = is_target names site flags within s of_kind slot accessed (and_parts (is_slot names flags of_kind slot accessed) (is_place (place_in_slot names.0 slot []) place) h).0
target_at names site flags within s of_kind (element slot accessed i) h = is_target names site flags within s of_kind slot accessed (and_parts (is_slot names flags of_kind slot accessed) (is_index_fit names flags i) h).0
target_at names site flags within s of_kind (elements slot accessed is) h = is_target names site flags within s of_kind slot accessed (and_parts (is_slot names flags of_kind slot accessed) (are_indices_fit names flags is) h).0

pub slot_named : (shapes : List Shape) (p : SpotTree) → (spot_back shapes p).name ≡ slot_name shapes (spot_slot p)
slot_named shapes (scalar slot place accessed) = refl
slot_named shapes (element slot accessed i) = refl
slot_named shapes (elements slot accessed is) = refl

-- a place of a name is one of the cells, which holds what fits the name
abbrev pub IsPlace : Site → Cells → List ℕ → Option ℕ → Type 0
IsPlace site c x o = (p : ℕ) → o ≡ Some p → (p < length c) × HoldsKind (kind_of site x) (content c p)

pub is_place_of : (site : Site) (c : Cells) → Fits site c → (x : List ℕ) (ss : List ℤ) → IsPlace site c x (place_of site x ss)
is_place_of site c f x ss p e =
    let d = first_found (same_key (x, ss)) site.keys p (sym e) in
    (subst (λ (n : ℕ). p < n) (sym (fitting_length site site.keys c f)) d.3, fits_at site site.keys c x ss p f e)

pub location_gives : (site : Site) (c : Cells) → Fits site c → (p : Designator) → Gives (location_of site c p) (IsPlace site c p.name)
location_gives site c f p =
    then_gives (values_of p.subscripts site c) _ (IsPlace site c p.name)
    (λ vs e. gives_value {X = Cause} (place_of site p.name (whole_numbers vs)) (IsPlace site c p.name) (is_place_of site c f p.name (whole_numbers vs)))
