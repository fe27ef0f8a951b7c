-- The names of a program outside of its loops: each declared one has a slot, and the kinds by slot are those of the declarations.
use Rattle.std.specs.Prelude.{◌≡◌, ℕ, zero, suc, ◌<◌, Bool, true, false, ◌||◌, if◌then◌else◌, cond, bytes_eq, List, [], ◌∷◌, ◌++◌, map, length, Option, Some, None, option_map, is_some, refl}
use Rattle.std.specs.List.{list_any, list_all}
use Rattle.std.proofs.Common.{arith}
use Rattle.std.proofs.lemmas.Bool.{and_from}
use Rattle.fl_ast.specs.declared.kind.Kind.TheVariants as kind
use Rattle.fl_ast.specs.declared.decl.Decl.{Decl}
use Rattle.fl_types.specs.Sharing.{is_ring_kind, is_ring_name}
use Rattle.store_core.specs.declared.layout.Shape.{Shape}
use Rattle.store_core.specs.Keys.{slot_of, scalar, laid, laid_all, with_scalars}
use Rattle.store_core.proofs.Slots.{same_name}
use Rattle.resolved.specs.SlotTables.{kind_at, kinds_of, names_of}
use Rattle.resolved.specs.ResolvedExprs.{slot_name}
use Rattle.loop_scopes.specs.Scopes.{are_declared_placed, OpeningIsOutside}

-- ---- names stay where they are when a shape is laid

still_by : (b : Bool) (o p : Option ℕ) → (is_some o ≡ true → is_some p ≡ true) → is_some (cond b (Some 0) (option_map suc o)) ≡ true → is_some (cond b (Some 0) (option_map suc p)) ≡ true
still_by true o p f h = refl
still_by false None p f h = absurd (cc)
still_by false (Some j) None f h = f refl
still_by false (Some j) (Some k) f h = refl

still_put : (es : List Shape) (s : Shape) (x : List ℕ) → is_some (slot_of es x) ≡ true → is_some (slot_of (es ++ s ∷ []) x) ≡ true
still_put [] s x h = absurd (cc)
still_put (e ∷ es) s x h = still_by (bytes_eq x e.name) (slot_of es x) (slot_of (es ++ s ∷ []) x) (still_put es s x) h

still_laid : (es : List Shape) (s : Shape) (x : List ℕ) → is_some (slot_of es x) ≡ true → is_some (slot_of (laid es s) x) ≡ true
still_laid es s x h = by_test (list_any (λ (e : Shape). bytes_eq s.name e.name) es)
  where
    by_test : (b : Bool) → is_some (slot_of (cond b es (es ++ s ∷ [])) x) ≡ true
    by_test true = h
    by_test false = still_put es s x h

still_all : (es ss : List Shape) (x : List ℕ) → is_some (slot_of es x) ≡ true → is_some (slot_of (laid_all es ss) x) ≡ true
still_all es [] x h = h
still_all es (s ∷ ss) x h = still_all (laid es s) ss x (still_laid es s x h)

-- ---- and the shape has a place then

some_later : (b : Bool) (o : Option ℕ) → is_some o ≡ true → is_some (cond b (Some 0) (option_map suc o)) ≡ true
some_later true o h = refl
some_later false (Some k) h = refl
some_later false None h = absurd (cc)

any_found : (es : List Shape) (x : List ℕ) → list_any (λ (e : Shape). bytes_eq x e.name) es ≡ true → is_some (slot_of es x) ≡ true
any_found [] x h = absurd (cc)
any_found (e ∷ es) x h = by_test (bytes_eq x e.name) (any_found es x) h
  where
    by_test : (b : Bool) → (list_any (λ (e : Shape). bytes_eq x e.name) es ≡ true → is_some (slot_of es x) ≡ true) → (b || list_any (λ (e : Shape). bytes_eq x e.name) es) ≡ true
        → is_some (cond b (Some 0) (option_map suc (slot_of es x))) ≡ true
    by_test true f g = refl
    by_test false f g = some_later false (slot_of es x) (f g)

put_found : (es : List Shape) (s : Shape) → is_some (slot_of (es ++ s ∷ []) s.name) ≡ true
put_found [] s = rw (same_name s.name) refl
put_found (e ∷ es) s = some_later (bytes_eq s.name e.name) (slot_of (es ++ s ∷ []) s.name) (put_found es s)

laid_found : (es : List Shape) (s : Shape) → is_some (slot_of (laid es s) s.name) ≡ true
laid_found es s = by_test (list_any (λ (e : Shape). bytes_eq s.name e.name) es) refl
  where
    by_test : (b : Bool) → list_any (λ (e : Shape). bytes_eq s.name e.name) es ≡ b → is_some (slot_of (cond b es (es ++ s ∷ [])) s.name) ≡ true
    by_test true g = any_found es s.name g
    by_test false g = put_found es s

all_found : (es : List Shape) (ds : List Decl) → list_all (λ x. is_some (slot_of (with_scalars es ds) x)) (map (λ (d : Decl). d.name) ds) ≡ true
all_found es [] = refl
all_found es (d ∷ ds) =
    let s = scalar d.name in
    and_from (is_some (slot_of (with_scalars (laid es s) ds) d.name)) (list_all (λ x. is_some (slot_of (with_scalars (laid es s) ds) x)) (map (λ (e : Decl). e.name) ds))
    (still_all (laid es s) (map (λ (e : Decl). scalar e.name) ds) d.name (laid_found es s)) (all_found (laid es s) ds)

-- each declared name of a program has a slot
pub declared_placed : (es : List Shape) (ds : List Decl) → are_declared_placed (names_of es ds) ≡ true
declared_placed es ds = all_found es ds

-- ---- kinds

ring_again : (b : Bool) → b ≡ is_ring_kind (if b then kind.Ring else kind.Index)
ring_again true = refl
ring_again false = refl

kinds_at : (ds : List Decl) (shapes : List Shape) (slot : ℕ) → slot < length shapes → is_ring_name ds (slot_name shapes slot) ≡ is_ring_kind (kind_at (kinds_of ds shapes) slot)
kinds_at ds [] slot h = absurd (omega (arith, h))
kinds_at ds (s ∷ shapes) zero h = ring_again (is_ring_name ds s.name)
kinds_at ds (s ∷ shapes) (suc slot) h = kinds_at ds shapes slot (omega (arith, h))

pub opening_outside : OpeningIsOutside
opening_outside es ds pushed = (
  declared_placed es ds,
  record {
    declares = refl;
    kinds = kinds_at ds (with_scalars es ds);
    pushes = refl;
    accesses = refl;
    reduces = refl;
    loops = refl;
  },
)
