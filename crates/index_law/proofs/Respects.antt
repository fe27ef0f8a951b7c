-- Valuations that fit two accesses respect them.
use Rattle.std.proofs.Common.{◌≡◌, ◌≢◌, ◌⊎◌, ℕ, ℤ, List, refl, ap, sym, ◌∙◌, Option, Some, None, Result, Ok, Err}
use Rattle.std.specs.Prelude.{option_map}
use Rattle.fl_types.specs.declared.access.AccessKind.TheVariants.{Write}
use Rattle.fl_types.specs.Sharing.{ParallelLoop}
use Rattle.store_core.specs.Keys.{same_key, first_at}
use Rattle.meaning.specs.declared.value.Value.{Value}
use Rattle.meaning.specs.declared.value.Cause.{Cause}
use Rattle.meaning.specs.Values.{whole_numbers}
use Rattle.meaning.specs.Logs.{Touch}
use Rattle.meaning.specs.Sites.{Key, Cells, Site, place_of}
use Rattle.meaning.specs.Expressions.{values_of}
use Rattle.meaning.specs.Statements.{Heads}
use Rattle.meaning.specs.Touches.{place_at}
use Rattle.index_forms.specs.Form.{Atom}
use Rattle.index_forms.specs.Sums.{values}
use Rattle.index_forms.specs.Formed.{Viewed, subscript_forms}
use Rattle.index_law.specs.Meetings.{FreeRun, Evaluated, place_in}
use Rattle.index_law.specs.Respect.{Fits}
use Rattle.index_law.proofs.Nodes.{sound_all}
use Rattle.index_law.proofs.Meets.{touched_by, never_meet}
use Rattle.index_law.proofs.GroupKeys.{keys_kept}

pub placed : (site : Site) (l : ParallelLoop) (heads : Heads) (cells : Cells) → FreeRun site l heads cells → (k : ℕ) (e : Evaluated site l heads cells k) → (p : ℕ) × (place_in site l heads cells k e ≡ Some p)
placed site l heads cells run k e = by_place (place_in site l heads cells k e) (touched_by site l heads cells run k e)
  where
    by_place : (o : Option ℕ) → (t : Touch) × (option_map (λ (p : ℕ). let t : Touch = record { place = p; iteration = k; kind = e.access.kind } in t) o ≡ Some t) → (p : ℕ) × (o ≡ Some p)
    by_place None w = let i = w.1 in cc
    by_place (Some p) w = (p, refl)

pub record Numbers (site : Site) (x : List ℕ) (r : Result (List Value) Cause) (p : ℕ) : Type 0 where
  pub found : List Value
  pub is : r ≡ Ok found
  pub place : place_of site x (whole_numbers found) ≡ Some p

numbers : (site : Site) (x : List ℕ) (r : Result (List Value) Cause) (p : ℕ) → place_at site x r ≡ Some p → Numbers site x r p
numbers site x (Ok vs) p h = record { found = vs; is = refl; place = h }
numbers site x (Err c) p h = cc

place_by_keys : (s t : Site) (x : List ℕ) (ss : List ℤ) (k : List Key) → s.keys ≡ k → t.keys ≡ k → place_of s x ss ≡ place_of t x ss
place_by_keys s t x ss k e d = ap (first_at (same_key (x, ss))) (e ∙ sym d)

pub respected : (site : Site) (l : ParallelLoop) (heads : Heads) (cells : Cells) → FreeRun site l heads cells →
    (i j : ℕ) → i ≢ j → (a : Evaluated site l heads cells i) (b : Evaluated site l heads cells j) → (a.access.kind ≡ Write) ⊎ (b.access.kind ≡ Write) → a.access.place.name ≡ b.access.place.name →
    (v : Atom → ℤ) (f g : Viewed) → Fits v f site l heads cells i a → Fits v g site l heads cells j b →
    values v (subscript_forms f a.access.place.subscripts) ≢ values v (subscript_forms g b.access.place.subscripts)
respected site l heads cells run i j d a b w name v f g fa fb same =
    let p = placed site l heads cells run i a in
    let q = placed site l heads cells run j b in
    let m = numbers a.group.site a.access.place.name (values_of a.access.place.subscripts a.group.site a.group.cells).out p.0 p.1 in
    let n = numbers b.group.site b.access.place.name (values_of b.access.place.subscripts b.group.site b.group.cells).out q.0 q.1 in
    let x : values v (subscript_forms f a.access.place.subscripts) ≡ whole_numbers m.found = sound_all v f 0 a.access.place.subscripts a.group.site a.group.cells fa.scalars fa.nodes m.found m.is (fa.indices m.found m.is) in
    let y : values v (subscript_forms g b.access.place.subscripts) ≡ whole_numbers n.found = sound_all v g 0 b.access.place.subscripts b.group.site b.group.cells fb.scalars fb.nodes n.found n.is (fb.indices n.found n.is) in
    let subs : whole_numbers m.found ≡ whole_numbers n.found = sym x ∙ (same ∙ y) in
    let there : place_of a.group.site a.access.place.name (whole_numbers m.found) ≡ place_of b.group.site b.access.place.name (whole_numbers n.found) =
    place_by_keys a.group.site b.group.site a.access.place.name (whole_numbers m.found) site.keys (keys_kept site l heads i a.before a.group a.comes) (keys_kept site l heads j b.before b.group b.comes)
    ∙ (ap (λ (z : List ℕ). place_of b.group.site z (whole_numbers m.found)) name ∙ ap (place_of b.group.site b.access.place.name) subs) in
    let e : Some p.0 ≡ Some q.0 = sym m.place ∙ (there ∙ n.place) in
    let r : q.0 ≡ p.0 = cc in
    never_meet site l heads cells run i j d a b w p.0 p.1 (q.1 ∙ ap Some r)
