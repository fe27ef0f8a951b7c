-- An answer has no float.
use Rattle.std.proofs.Common.{◌≡◌, ℕ, Bool, true, false, List, [], ◌∷◌, map, ℤ, pos, negsuc, Ordering, Less, Equal, Greater, nat_cmp, refl, slice_index, codes, Option, Some, None}
use Rattle.std.specs.Int.{cast_signed}
use Rattle.std.proofs.Common.{w64}
use Rattle.std.specs.Ordering.{match_ordering}
use Rattle.std.specs.Cmp.Lexicographic.{slice_cmp}
use Rattle.std.proofs.lemmas.Bool.{or_parts}
use Rattle.serde_json.specs.Data.{Data, Members, no_members, member, put}
use Rattle.serde_json.specs.Find.{of_integer, is_float}
use Rattle.serde_json.specs.View.{items_of}
use Rattle.serde_json.specs.Written.{has_float, items_have_float, members_have_float}
use Rattle.fl_types.specs.declared.choice.Chosen.{Chosen}
use Rattle.store_core.specs.declared.values.Entry.{Entry}
use Rattle.store_core.specs.declared.values.Weights.{Weights}
use Rattle.data_io.specs.declared.answer.RaceText.{RaceText}
use Rattle.data_io.specs.declared.answer.Answer.{Answer}
use Rattle.data_io.specs.Written.{signed, shown, text_of, put_all, weights, choices_of, race_of, with_race, put_race_of, members, tangent_members}

integer : (z : ℤ) → is_float (of_integer z) ≡ false
integer (pos n) = refl
integer (negsuc n) = refl

integers : (ws : List ℕ) → items_have_float (items_of (map signed ws)) ≡ false
integers [] = refl
integers (w ∷ ws) = rw (integer (cast_signed w64 w)) (integers ws)

shown_whole : (b : Bool) (ws : List ℕ) → has_float (shown b ws) ≡ false
shown_whole true ws = integer (cast_signed w64 (slice_index ws 0))
shown_whole false ws = integers ws

put_at : (o : Ordering) (k l : List ℕ) (d e : Data) (ms : Members) → has_float d ≡ false → has_float e ≡ false → members_have_float ms ≡ false → members_have_float (put k d ms) ≡ false
    → members_have_float (match_ordering o (member k d (member l e ms)) (member l d ms) (member l e (put k d ms))) ≡ false
put_at Less k l d e ms a b c h = rw (a, b) c
put_at Equal k l d e ms a b c h = rw a c
put_at Greater k l d e ms a b c h = rw b h

put_whole : (k : List ℕ) (d : Data) (ms : Members) → has_float d ≡ false → members_have_float ms ≡ false → members_have_float (put k d ms) ≡ false
put_whole k d no_members a h = rw a refl
put_whole k d (member l e ms) a h =
    let p = or_parts (has_float e) (members_have_float ms) h in
    put_at (slice_cmp nat_cmp k l) k l d e ms a p.0 p.1 (put_whole k d ms a p.1)

put_all_whole : (ms : Members) (es : List Entry) → members_have_float ms ≡ false → members_have_float (put_all ms es) ≡ false
put_all_whole ms [] h = h
put_all_whole ms (e ∷ es) h = put_all_whole (put (text_of e.name) (shown e.scalar e.words) ms) es (put_whole (text_of e.name) (shown e.scalar e.words) ms (shown_whole e.scalar e.words) h)

choices_whole : (cs : List Chosen) → has_float (choices_of cs) ≡ false
choices_whole [] = refl
choices_whole (c ∷ cs) = choices_whole cs

race_whole : (r : Option RaceText) → has_float (race_of r) ≡ false
race_whole None = refl
race_whole (Some r) = refl

with_race_whole : (r : Option (Option RaceText)) (ms : Members) → members_have_float ms ≡ false → members_have_float (with_race r ms) ≡ false
with_race_whole None ms h = h
with_race_whole (Some r) ms h = rw (race_whole r) h

pub members_whole : (a : Answer) → members_have_float (members a) ≡ false
members_whole a =
    let v : members_have_float (member (codes "value") (weights a.value.entries) no_members) ≡ false = rw (put_all_whole no_members a.value.entries refl) refl in
    rw (put_all_whole no_members a.adjoint.entries refl, choices_whole a.choices.entries) (with_race_whole a.race (member (codes "value") (weights a.value.entries) no_members) v)

-- the race stands between the choices and the values
pub race_put : (r : Option (Option RaceText)) (n x c v : Data)
    → put (codes "value") v (put_race_of r (member (codes "adds") n (member (codes "adjoint") x (member (codes "choices") c no_members))))
    ≡ member (codes "adds") n (member (codes "adjoint") x (member (codes "choices") c (with_race r (member (codes "value") v no_members))))
race_put None n x c v = refl
race_put (Some r) n x c v = refl

pub tangent_whole : (t v : Weights) → members_have_float (tangent_members t v) ≡ false
tangent_whole t v =
    let value : members_have_float (member (codes "value") (weights v.entries) no_members) ≡ false = rw (put_all_whole no_members v.entries refl) refl in
    rw (put_all_whole no_members t.entries refl) value
