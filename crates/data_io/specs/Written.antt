-- What is written for an answer.
use Rattle.std.specs.Prelude.{ℕ, Bool, true, false, cond, List, [], ◌∷◌, ◌++◌, map, slice_index, codes, Option, Some, None}
use Rattle.std.specs.Str.{is_utf8}
use Rattle.std.specs.Int.{cast_signed}
use Rattle.std.specs.Fmt.{decimal}
use Rattle.std.proofs.Common.{w64}
use Rattle.serde_json.specs.Data.{Data, null, string, number, unsigned, object, array, Members, no_members, member, put}
use Rattle.serde_json.specs.Find.{of_integer}
use Rattle.serde_json.specs.View.{items_of}
use Rattle.fl_types.specs.declared.choice.Choice.{Choice}
use Rattle.fl_types.specs.declared.choice.Choice.TheVariants.{Shared, Atomic, Reduction}
use Rattle.fl_types.specs.declared.choice.Chosen.{Chosen}
use Rattle.store_core.specs.declared.values.Entry.{Entry}
use Rattle.store_core.specs.declared.values.Weights.{Weights}
use Rattle.data_io.specs.declared.answer.RaceText.{RaceText}
use Rattle.data_io.specs.declared.answer.Answer.{Answer}

-- a name as text; one that is no UTF-8 is the empty text
abbrev pub text_of : List ℕ → List ℕ
text_of name = cond (is_utf8 name) name []

-- a word by its signed representative
abbrev pub signed : ℕ → Data
signed w = number (of_integer (cast_signed w64 w))

-- a number for a scalar, a list for an array
abbrev pub shown : Bool → List ℕ → Data
shown true words = signed (slice_index words 0)
shown false words = array (items_of (map signed words))

-- the members of the entries, in the order of their names
abbrev pub put_all : Members → List Entry → Members
put_all ms [] = ms
put_all ms (e ∷ es) = put_all (put (text_of e.name) (shown e.scalar e.words) ms) es

abbrev pub weights : List Entry → Data
weights es = object (put_all no_members es)

abbrev pub word_of : Choice → List ℕ
word_of Shared = codes "shared"
word_of Atomic = codes "atomic"
word_of Reduction = codes "reduction"

-- as `1:x:shared`
abbrev pub choice_of : Chosen → Data
choice_of c = string (decimal c.loop_number ++ (58 ∷ (text_of c.name ++ (58 ∷ word_of c.choice))))

abbrev pub choices_of : List Chosen → Data
choices_of cs = array (items_of (map choice_of cs))

abbrev pub race_of : Option RaceText → Data
race_of None = null
race_of (Some r) =
    object (member (codes "first") (number (unsigned r.first)) (member (codes "place") (string (text_of r.place)) (member (codes "second") (number (unsigned r.second)) no_members)))

abbrev pub with_race : Option (Option RaceText) → Members → Members
with_race None ms = ms
with_race (Some r) ms = member (codes "race") (race_of r) ms

abbrev pub put_race_of : Option (Option RaceText) → Members → Members
put_race_of None ms = ms
put_race_of (Some r) ms = put (codes "race") (race_of r) ms

-- the members of an answer
abbrev pub members : Answer → Members
members a =
    member (codes "adds") (number (unsigned a.adds)) (member (codes "adjoint") (weights a.adjoint.entries) (member (codes "choices") (choices_of a.choices.entries)
    (with_race a.race (member (codes "value") (weights a.value.entries) no_members))))

-- the members of an answer in a direction
abbrev pub tangent_members : (tangent value : Weights) → Members
tangent_members tangent value = member (codes "tangent") (weights tangent.entries) (member (codes "value") (weights value.entries) no_members)
