-- The law of a loop's instances.
use Rattle.std.proofs.Common.{◌≡◌, ℕ, ℤ, List, refl, sym, ◌∙◌, subst, Some, Result, Ok, Err}
use Rattle.store_core.specs.Keys.{same_key, first_at}
use Rattle.meaning.specs.declared.value.Value.{Value}
use Rattle.meaning.specs.declared.value.Cause.{Cause}
use Rattle.meaning.specs.Values.{whole_numbers}
use Rattle.meaning.specs.Sites.{Key, Cells, Site}
use Rattle.meaning.specs.Expressions.{values_of}
use Rattle.meaning.specs.Statements.{Heads}
use Rattle.meaning.specs.Touches.{place_at}
use Rattle.meaning.proofs.Contents.{place_named}
use Rattle.index_forms.specs.Loops.{HeadedLoop}
use Rattle.index_law.specs.Meetings.{Evaluated, place_in}
use Rattle.index_law.proofs.GroupKeys.{keys_kept}
use Rattle.apart_law.specs.Apart.{LoopsAreApart, NumbersAreOwn, PairsAreValued}
use Rattle.apart_law.proofs.Running.{IsRun}
use Rattle.apart_law.proofs.Numbering.{readable_numbered}
use Rattle.apart_law.proofs.Respecting.{valued}
use Rattle.apart_law.proofs.Differing.{apart}

-- the key of a place
record KeyOf (site : Site) (l : HeadedLoop) (heads : Heads) (cells : Cells) (k : ℕ) (e : Evaluated site l.loop heads cells k) (p : ℕ) : Type 0 where
  numbers : List ℤ
  there : first_at (same_key (e.access.place.name, numbers)) site.keys ≡ Some p

key_of : (site : Site) (l : HeadedLoop) (heads : Heads) (cells : Cells) (k : ℕ) (e : Evaluated site l.loop heads cells k) (p : ℕ) → place_in site l.loop heads cells k e ≡ Some p → KeyOf site l heads cells k e p
key_of site l heads cells k e p falls = by_result (values_of e.access.place.subscripts e.group.site e.group.cells).out falls
  where
    by_result : (r : Result (List Value) Cause) → place_at e.group.site e.access.place.name r ≡ Some p → KeyOf site l heads cells k e p
    by_result (Err c) g = cc
    by_result (Ok vs) g = record {
      numbers = whole_numbers vs;
      there = subst (λ (ks : List Key). first_at (same_key (e.access.place.name, whole_numbers vs)) ks ≡ Some p) (keys_kept site l.loop heads k e.before e.group e.comes) g;
    }

pub loops_apart : LoopsAreApart
loops_apart decls active l numbers site heads cells h survey x all i j p differ a b named =
    let run : IsRun decls l site heads cells = record { begun = h.begun; outer = h.outer; ring = h.ring; free = h.run; sound = h.sound; numbers = numbers; survey = survey } in
    let ka = key_of site l heads cells i a.evaluated p a.falls in
    let kb = key_of site l heads cells j b.evaluated p b.falls in
    let same : a.evaluated.access.place.name ≡ b.evaluated.access.place.name = place_named site.keys a.evaluated.access.place.name b.evaluated.access.place.name ka.numbers kb.numbers p p refl ka.there kb.there in
    apart decls active l site heads cells run x all i j p differ a b named (sym same ∙ named)

pub numbers_own : NumbersAreOwn
numbers_own p r l i = readable_numbered p r l i

pub pairs_valued : PairsAreValued
pairs_valued decls l numbers site heads cells h survey i j differ a b =
    let run : IsRun decls l site heads cells = record { begun = h.begun; outer = h.outer; ring = h.ring; free = h.run; sound = h.sound; numbers = numbers; survey = survey } in
    valued decls l site heads cells run i j a b differ
