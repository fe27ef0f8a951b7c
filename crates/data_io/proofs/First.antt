-- The first fault of several lists.
use Rattle.std.proofs.Common.{◌≡◌, ℕ, ◌+◌, ◌<◌, List, [], ◌∷◌, ◌++◌, drop, get_or, length, flat_map, slice_get, Some, None, refl, sym, ap, ◌∙◌}
use Rattle.std.proofs.lemmas.List.{drop_more}
use Rattle.serde_json.specs.Data.{Data, Members}
use Rattle.serde_json.specs.Find.{as_object}
use Rattle.fl_ast.specs.declared.decl.Decl.{Decl}
use Rattle.store_core.specs.declared.values.Entry.{Entry}
use Rattle.data_io.specs.declared.data.DataError.{DataError}
use Rattle.data_io.specs.DataFaults.{scalar_faults, array_faults, name_faults, extra_faults, object_faults, faults_of}

pub first_more : (e : DataError) (fs gs : List DataError) → slice_get fs 0 ≡ Some e → slice_get (fs ++ gs) 0 ≡ Some e
first_more e [] gs h = absurd (let f : None ≡ Some e = h in cc)
first_more e (f ∷ fs) gs h = h

-- the first fault of the names from i on is the first of all
pub first_here : (f : List ℕ → List DataError) (xs : List (List ℕ)) (i : ℕ) (x : List ℕ) (e : DataError) → flat_map f xs ≡ flat_map f (drop i xs) → i < length xs → x ≡ get_or xs i x
    → slice_get (f x) 0 ≡ Some e → slice_get (flat_map f xs) 0 ≡ Some e
first_here f xs i x e same lt is h =
    let here : drop i xs ≡ x ∷ drop (i + 1) xs = drop_more xs i x lt ∙ ap (λ y. y ∷ drop (i + 1) xs) (sym is) in
    ap (λ fs. slice_get fs 0) (same ∙ ap (flat_map f) here) ∙ first_more e (f x) _ h

first_nil : (fs gs : List DataError) → fs ++ gs ≡ [] → (fs ≡ []) × (gs ≡ [])
first_nil [] gs h = (refl, h)
first_nil (f ∷ fs) gs h = absurd (cc)

-- where no scalar is at fault, the arrays' faults are left
pub arrays_only : (vs : List Entry) (ds : List Decl) (d : Data) (xs : List (List ℕ)) → flat_map (scalar_faults ds d) xs ≡ [] → flat_map (name_faults vs ds d) xs ≡ flat_map (array_faults vs ds d) xs
arrays_only vs ds d [] h = refl
arrays_only vs ds d (x ∷ xs) h = let p = first_nil (scalar_faults ds d x) _ h in rw (p.0, arrays_only vs ds d xs p.1) refl

opened : (vs : List Entry) (ds : List Decl) (xs : List (List ℕ)) (d : Data) (ms : Members) → Some ms ≡ as_object d
    → faults_of vs ds xs d ≡ flat_map (scalar_faults ds d) xs ++ (flat_map (array_faults vs ds d) xs ++ extra_faults xs ms)
opened vs ds xs d ms e = ap (object_faults vs ds xs d) (sym e)

pub scalar_first : (vs : List Entry) (ds : List Decl) (xs : List (List ℕ)) (d : Data) (ms : Members) (e : DataError) → Some ms ≡ as_object d
    → slice_get (flat_map (scalar_faults ds d) xs) 0 ≡ Some e → slice_get (faults_of vs ds xs d) 0 ≡ Some e
scalar_first vs ds xs d ms e is h = rw (opened vs ds xs d ms is) (first_more e _ _ h)

pub array_first : (vs : List Entry) (ds : List Decl) (xs : List (List ℕ)) (d : Data) (ms : Members) (e : DataError) → Some ms ≡ as_object d → flat_map (scalar_faults ds d) xs ≡ []
    → slice_get (flat_map (name_faults vs ds d) xs) 0 ≡ Some e → slice_get (faults_of vs ds xs d) 0 ≡ Some e
array_first vs ds xs d ms e is none h =
    rw (opened vs ds xs d ms is, none) (first_more e (flat_map (array_faults vs ds d) xs) (extra_faults xs ms) (rw (← arrays_only vs ds d xs none) h))

pub extra_first : (vs : List Entry) (ds : List Decl) (xs : List (List ℕ)) (d : Data) (ms : Members) (e : DataError) → Some ms ≡ as_object d → flat_map (scalar_faults ds d) xs ≡ []
    → flat_map (name_faults vs ds d) xs ≡ [] → slice_get (extra_faults xs ms) 0 ≡ Some e → slice_get (faults_of vs ds xs d) 0 ≡ Some e
extra_first vs ds xs d ms e is none more h = rw (opened vs ds xs d ms is, none, ← arrays_only vs ds d xs none, more) h

pub none_at_all : (vs : List Entry) (ds : List Decl) (xs : List (List ℕ)) (d : Data) (ms : Members) → Some ms ≡ as_object d → flat_map (scalar_faults ds d) xs ≡ []
    → flat_map (name_faults vs ds d) xs ≡ [] → extra_faults xs ms ≡ [] → faults_of vs ds xs d ≡ []
none_at_all vs ds xs d ms is none more last = rw (opened vs ds xs d ms is, none, ← arrays_only vs ds d xs none, more) last
