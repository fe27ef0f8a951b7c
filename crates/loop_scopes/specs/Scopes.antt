-- What is known of a site where statements of sweeps are made.
use Rattle.std.specs.Prelude.{◌≡◌, ℕ, ◌<◌, Bool, true, false, List, [], map, length, is_some}
use Rattle.std.specs.List.{list_all}
use Rattle.fl_ast.specs.declared.decl.Decl.{Decl}
use Rattle.fl_types.specs.Sharing.{is_ring_kind}
use Rattle.store_core.specs.declared.layout.Shape.{Shape}
use Rattle.store_core.specs.Keys.{slot_of, with_scalars}
use Rattle.meaning.specs.Sites.{Site, opening_site}
use Rattle.resolved.specs.SlotTables.{Names, kind_at, names_of}
use Rattle.resolved.specs.ResolvedExprs.{slot_name}
use Rattle.sweep_steps.specs.StepsStand.{flags_at}

-- by slot: which names' old values are pushed at a site, and which are reductions there
abbrev pub pushed_at : Names → Site → List Bool
pushed_at names site = map (λ (s : Shape). site.pushed s.name) names.0

abbrev pub reduced_at : Names → Site → List Bool
reduced_at names site = map (λ (s : Shape). site.pluses s.name) names.0

-- the site is of these names, with these marks, in the loops of these variables
pub record IsScope (names : Names) (pushed accessed reduced : List Bool) (outer : List (List ℕ)) (site : Site) : Type 0 where
  pub declares : site.declared ≡ names.3
  pub kinds : (slot : ℕ) → slot < length names.0 → site.ring (slot_name names.0 slot) ≡ is_ring_kind (kind_at names.1 slot)
  pub pushes : pushed_at names site ≡ pushed
  pub accesses : flags_at names site ≡ accessed
  pub reduces : reduced_at names site ≡ reduced
  pub loops : site.outer ≡ outer

-- the site is outside every loop, where no name makes accesses
abbrev pub IsOutside : Names → List Bool → Site → Type 0
IsOutside names pushed site = IsScope names pushed (map (λ (s : Shape). false) names.0) (map (λ (s : Shape). false) names.0) [] site

-- each declared name has a slot
abbrev pub are_declared_placed : Names → Bool
are_declared_placed names = list_all (λ x. is_some (slot_of names.0 x)) names.3

-- the site at which a program begins is outside of its loops, and each of its declared names has a slot
abbrev pub OpeningIsOutside : Type 0
OpeningIsOutside = (es : List Shape) (ds : List Decl) (pushed : List ℕ → Bool)
    → (are_declared_placed (names_of es ds) ≡ true) × IsOutside (names_of es ds) (map (λ (s : Shape). pushed s.name) (with_scalars es ds)) (opening_site ds es pushed)
