-- Increments of adjoints that the terms of an increment make, and assignments that are undone.
use Rattle.std.specs.Prelude.{◌≡◌, ℕ, zero, suc, ◌+◌, ◌<◌, ◌≤◌, Bool, true, false, ◌||◌, List, [], ◌∷◌, ◌++◌, map, take, length, Option, Some, None, refl}
use Rattle.std.proofs.Common.{ap, sym, ◌∙◌, subst, arith, get_or, drop, drop-cons, add-one, append_assoc, append-nil}
use Rattle.std.specs.List.{list_all}
use Rattle.std.proofs.lemmas.Bool.{and_parts}
use Rattle.std.proofs.lemmas.List.{map-append}
use Rattle.fl_ast.specs.Tree.{Expression, Designator}
use Rattle.fl_types.specs.Increment.{Signed, increment_terms}
use Rattle.store_core.specs.Keys.{HasEachOnce}
use Rattle.resolved.specs.SlotTables.{Names, is_ring_in}
use Rattle.resolved.specs.ResolvedExprs.{slot_name, expression_back}
use Rattle.sweep_trees.specs.Split.{SpotTree}
use Rattle.sweep_trees.specs.Standing.{is_accessed_at}
use Rattle.split_trees.specs.Codes.{SpotStandsFor}
use Rattle.sweep_steps.specs.Steps.{TermTree}
use Rattle.transposition.specs.Worlds.{World}
use Rattle.transposition.specs.Spread.{Occurrence, occurrences}
use Rattle.transposition.specs.Back.{rest_occurrences}
use Rattle.undo_steps.specs.UndoSteps.{GrowthTree}
use Rattle.undo_steps.specs.UndosStand.{is_any_kind, SpotUndoes, EachGrowthStands, GrowthsStand, TermsStand, ReversalStands, PlainStands, IncrementStands}
use Rattle.loop_scopes.proofs.Scopes.{marked_at}
use Rattle.made_steps.specs.declared.terms.SignedExpr.{SignedExpr}
use Rattle.made_steps.specs.Scopes.{signed_of, is_signed_ready, TermsStand as SplitTerms}
use Rattle.made_steps.proofs.Stores.{same_ring, terms_at}
use Rattle.made_growths.specs.Told.{Told}
use Rattle.made_undos.specs.UndoScopes.{IsUndoScope}

-- ---- the terms of an increment

rest_more : (on : List ℕ → Bool) (front : List Signed) (r : Signed) → rest_occurrences on (front ++ r ∷ []) ≡ rest_occurrences on front ++ occurrences on r.1 r.0 []
rest_more on [] r = append-nil (occurrences on r.1 r.0 [])
rest_more on (q ∷ front) r =
    ap (λ (l : List Occurrence). occurrences on q.1 q.0 [] ++ l) (rest_more on front r) ∙ sym (append_assoc (occurrences on q.1 q.0 []) (rest_occurrences on front) (occurrences on r.1 r.0 []))

-- those of a term after those before it
grown_rest : (names : Names) (w : World) (os : List Occurrence) (gs : List GrowthTree) (front : List Signed) (r : Signed) (rs : List Signed) → front ++ r ∷ [] ≡ rs
    → EachGrowthStands names w ((os ++ rest_occurrences w.active front) ++ occurrences w.active r.1 r.0 []) gs → EachGrowthStands names w (os ++ rest_occurrences w.active rs) gs
grown_rest names w os gs front r rs e h =
    subst (λ (qs : List Signed). EachGrowthStands names w (os ++ rest_occurrences w.active qs) gs) e
    (subst (λ (l : List Occurrence). EachGrowthStands names w (os ++ l) gs) (sym (rest_more w.active front r))
    (subst (λ (l : List Occurrence). EachGrowthStands names w l gs) (append_assoc os (rest_occurrences w.active front) (occurrences w.active r.1 r.0 [])) h))

-- the terms that a loop went over
pub taken_more : (xs : List SignedExpr) (i : ℕ) (x : SignedExpr) → i < length xs → x ≡ get_or xs i x → take (i + 1) xs ≡ take i xs ++ x ∷ []
taken_more xs i x h g = rw add-one (by_steps xs i x h g)
  where
    by_steps : (xs : List SignedExpr) (i : ℕ) (x : SignedExpr) → i < length xs → x ≡ get_or xs i x → take (suc i) xs ≡ take i xs ++ x ∷ []
    by_steps [] i x h g = absurd (omega (arith, h))
    by_steps (y ∷ xs) zero x h g = ap (λ (z : SignedExpr). z ∷ []) (sym g)
    by_steps (y ∷ xs) (suc i) x h g = ap (λ (r : List SignedExpr). y ∷ r) (by_steps xs i x (omega (arith, h)) g)

pub taken_all : (xs : List SignedExpr) (i : ℕ) → length xs ≤ i → take i xs ≡ xs
taken_all [] zero h = refl
taken_all [] (suc i) h = refl
taken_all (y ∷ xs) zero h = absurd (omega (arith, h))
taken_all (y ∷ xs) (suc i) h = ap (λ (r : List SignedExpr). y ∷ r) (taken_all xs i (omega (arith, h)))

-- those that it has to go over are ready
pub ready_rest : (names : Names) (xs : List SignedExpr) (i : ℕ) (x : SignedExpr) → i < length xs → x ≡ get_or xs i x → list_all (is_signed_ready names) (drop i xs) ≡ true
    → list_all (is_signed_ready names) (drop (i + 1) xs) ≡ true
ready_rest names xs i x l g h =
    rw add-one ((and_parts (is_signed_ready names (get_or xs i x)) (list_all (is_signed_ready names) (drop (suc i) xs)) (ap (list_all (is_signed_ready names)) (sym (drop-cons xs i x l)) ∙ h)).1)

-- those of one term more
pub grown_more : (names : Names) (w : World) (os : List Occurrence) (gs : List GrowthTree) (xs : List SignedExpr) (i : ℕ) (x : SignedExpr) → i < length xs → x ≡ get_or xs i x
    → EachGrowthStands names w ((os ++ rest_occurrences w.active (map (signed_of names.0) (take i xs))) ++ occurrences w.active (expression_back names.0 x.expr.now) x.minus []) gs
    → EachGrowthStands names w (os ++ rest_occurrences w.active (map (signed_of names.0) (take (i + 1) xs))) gs
grown_more names w os gs xs i x l g h =
    grown_rest names w os gs (map (signed_of names.0) (take i xs)) (signed_of names.0 x) (map (signed_of names.0) (take (i + 1) xs))
    (sym (ap (map (signed_of names.0)) (taken_more xs i x l g) ∙ map-append (signed_of names.0) (take i xs) (x ∷ []))) h

pub split_terms : (names : Names) (rs : List Signed) (ts : List TermTree) → SplitTerms names [] rs ts → TermsStand names rs ts
split_terms names rs ts h = record { back = h.back; fit = h.fit }

pub none_grown : (names : Names) (w : World) (gs : List GrowthTree) → gs ≡ [] → EachGrowthStands names w [] gs
none_grown names w [] e = tt
none_grown names w (g ∷ gs) e = absurd (cc)

-- ---- what stands where a target has an adjoint, or its value is needed

pub growths_there : (names : Names) (w : World) (b : Bool) (os : List Occurrence) (gs : List GrowthTree) → b ≡ true → EachGrowthStands names w os gs → GrowthsStand names w b os (Some gs)
growths_there names w true os gs e h = h
growths_there names w false os gs e h = absurd (cc)

pub no_growths : (names : Names) (w : World) (b : Bool) (os : List Occurrence) → b ≡ false → GrowthsStand names w b os None
no_growths names w true os e = absurd (cc)
no_growths names w false os e = tt

pub reversal_there : (names : Names) (b : Bool) (rs : List Signed) (ts : List TermTree) → b ≡ true → TermsStand names rs ts → ReversalStands names b rs (Some ts)
reversal_there names true rs ts e h = h
reversal_there names false rs ts e h = absurd (cc)

pub no_reversal : (names : Names) (b : Bool) (rs : List Signed) → b ≡ false → ReversalStands names b rs None
no_reversal names true rs e = absurd (cc)
no_reversal names false rs e = tt

-- ---- assignments

pub spot_undoes : (names : Names) (slot : ℕ) (p : Designator) (s : SpotTree) → SpotStandsFor names [] slot p s → SpotUndoes names p s
spot_undoes names slot p s h = record { back = h.back; fit = h.fit is_any_kind refl }

pub is_pushed : (names : Names) (t : Told) (accessed reduced : List Bool) (region : Option ℕ) (outer : List (List ℕ)) (w : World) (slot : ℕ) (x : List ℕ)
    → IsUndoScope names t accessed reduced region outer w → slot < length names.0 → x ≡ slot_name names.0 slot → is_accessed_at t.pushed slot ≡ w.site.pushed x
is_pushed names t accessed reduced region outer w slot x s h e =
    ap (λ marks. is_accessed_at marks slot) (sym s.scope.pushes) ∙ (marked_at w.site.pushed names.0 slot h ∙ ap w.site.pushed (sym e))

pub is_reduced : (names : Names) (t : Told) (accessed reduced : List Bool) (region : Option ℕ) (outer : List (List ℕ)) (w : World) (slot : ℕ) (x : List ℕ)
    → IsUndoScope names t accessed reduced region outer w → slot < length names.0 → x ≡ slot_name names.0 slot → is_accessed_at reduced slot ≡ w.site.pluses x
is_reduced names t accessed reduced region outer w slot x s h e =
    ap (λ marks. is_accessed_at marks slot) (sym s.scope.reduces) ∙ (marked_at w.site.pluses names.0 slot h ∙ ap w.site.pluses (sym e))

terms_here : (names : Names) (t : Told) (accessed reduced : List Bool) (region : Option ℕ) (outer : List (List ℕ)) (w : World) (slot : ℕ) (p : Designator) (e : Expression)
    → IsUndoScope names t accessed reduced region outer w → HasEachOnce names.0 → slot < length names.0 → p.name ≡ slot_name names.0 slot
    → increment_terms w.site.ring p e ≡ increment_terms (is_ring_in names) p e
terms_here names t accessed reduced region outer w slot p e s once h n =
    terms_at w.site.ring (is_ring_in names) p e (same_ring names t.pushed accessed reduced outer w.site slot p.name s.scope once h n)

pub plain_stands : (names : Names) (t : Told) (accessed reduced : List Bool) (region : Option ℕ) (outer : List (List ℕ)) (w : World) (slot : ℕ) (p : Designator) (e : Expression)
    (target : SpotTree) (restores : Bool) (growths : Option (List GrowthTree))
    → IsUndoScope names t accessed reduced region outer w → HasEachOnce names.0 → slot < length names.0 → p.name ≡ slot_name names.0 slot
    → increment_terms (is_ring_in names) p e ≡ None → SpotStandsFor names [] slot p target → restores ≡ is_accessed_at t.pushed slot
    → GrowthsStand names w (w.active (slot_name names.0 slot)) (occurrences w.active e false []) growths
    → PlainStands names w target restores growths p e
plain_stands names t accessed reduced region outer w slot p e target restores growths s once h n none place r g =
    record {
      plain = terms_here names t accessed reduced region outer w slot p e s once h n ∙ none;
      place = spot_undoes names slot p target place;
      restoring = r ∙ is_pushed names t accessed reduced region outer w slot p.name s h n;
      growing = subst (λ (x : List ℕ). GrowthsStand names w (w.active x) (occurrences w.active e false []) growths) (sym n) g;
    }

pub increment_stands : (names : Names) (t : Told) (accessed reduced : List Bool) (region : Option ℕ) (outer : List (List ℕ)) (w : World) (slot : ℕ) (p : Designator) (e : Expression)
    (atomic plus one : Bool) (target : SpotTree) (reversal : Option (List TermTree)) (growths : Option (List GrowthTree)) (rs : List Signed)
    → IsUndoScope names t accessed reduced region outer w → HasEachOnce names.0 → slot < length names.0 → p.name ≡ slot_name names.0 slot
    → increment_terms (is_ring_in names) p e ≡ Some rs → SpotStandsFor names [] slot p target → plus ≡ is_accessed_at reduced slot → one ≡ (atomic || plus)
    → ReversalStands names (is_accessed_at t.pushed slot) rs reversal → GrowthsStand names w (w.active p.name) (rest_occurrences w.active rs) growths
    → IncrementStands names w atomic target reversal one growths p e
increment_stands names t accessed reduced region outer w slot p e atomic plus one target reversal growths rs s once h n f place m o r g =
    record {
      rest = rs;
      form = terms_here names t accessed reduced region outer w slot p e s once h n ∙ f;
      place = spot_undoes names slot p target place;
      reversing = subst (λ (b : Bool). ReversalStands names b rs reversal) (is_pushed names t accessed reduced region outer w slot p.name s h n) r;
      steps = o ∙ ap (λ (b : Bool). atomic || b) (m ∙ is_reduced names t accessed reduced region outer w slot p.name s h n);
      growing = g;
    }
