-- The pairs of a loop, by the numbers of their accesses.
use Rattle.std.specs.Prelude.{ℕ, Bool, ◌&&◌, if◌then◌else◌, nat_le, bytes_eq, List, Option, Some, None}
use Rattle.fl_types.specs.declared.access.Access.{Access}
use Rattle.fl_types.specs.Sharing.{has_name}
use Rattle.index_forms.specs.Form.{Forms}
use Rattle.index_forms.specs.Sums.{differences}
use Rattle.index_knowledge.specs.Knowledge.{KnownPair, is_read}
use Rattle.certificate_rules.specs.Surveys.{Survey, numbered}
use Rattle.acceptance.specs.Told.{survey_of}
use Rattle.certificate_check.specs.declared.pairing.LoopPairs.{LoopPairs}

-- a parallel loop; `nest` is the number of loops whose iterations its iterations are, and `rights` says of each access whether it is in the
-- right side of an assignment to an active name
pub record KnownLoop : Type 0 where
  pub number : ℕ
  pub nest : ℕ
  pub rights : List Bool
  pub survey : Survey

abbrev pub loop_of : LoopPairs → KnownLoop
loop_of l = record { number = l.number; nest = l.nest; rights = l.rights; survey = survey_of l.knowledge }

-- a read of an active name in the right side of an assignment to an active name
abbrev pub is_pair_read : (active : List (List ℕ)) → Access → (right : Bool) → Bool
is_pair_read active a right = right && (is_read a.kind && has_name a.place.name active)

-- the name and the subscripts' forms
abbrev pub pair_read_of : (active : List (List ℕ)) → Option Access → (right : Option Bool) → Option Forms → Option (List ℕ × Forms)
pair_read_of active None right fs = None
pair_read_of active (Some a) None fs = None
pair_read_of active (Some a) (Some r) None = None
pair_read_of active (Some a) (Some r) (Some fs) = if is_pair_read active a r then Some (a.place.name, fs) else None

abbrev pub pair_read_at : (active : List (List ℕ)) → KnownLoop → (side : List Forms) → ℕ → Option (List ℕ × Forms)
pair_read_at active l side n = pair_read_of active (numbered l.survey.accesses n) (numbered l.rights n) (numbered side n)

abbrev pub pair_of_two : (loop_number nest first second : ℕ) → Option (List ℕ × Forms) → Option (List ℕ × Forms) → Option KnownPair
pair_of_two l k f g None o = None
pair_of_two l k f g (Some a) None = None
pair_of_two l k f g (Some a) (Some b) =
    if nat_le f g && bytes_eq a.0 b.0 then Some (record { loop_number = l; first = f; second = g; differences = differences a.1 b.1; nest = k }) else None

-- the pair of the accesses with two numbers, where they make one: the first isn't behind the second
abbrev pub pair_at : (active : List (List ℕ)) → KnownLoop → (first second : ℕ) → Option KnownPair
pair_at active l f g = pair_of_two l.number l.nest f g (pair_read_at active l l.survey.ones f) (pair_read_at active l l.survey.twos g)
