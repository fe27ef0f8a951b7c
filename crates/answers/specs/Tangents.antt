-- What `tangent` answers.
use Rattle.std.specs.Prelude.{ℕ, List, [], ◌∷◌, ◌++◌, filter, codes}
use Rattle.serde_json.specs.Data.{object, member, no_members}
use Rattle.serde_json.specs.Written.{compact_text}
use Rattle.fl_ast.specs.declared.stmt.Program.{Program}
use Rattle.fl_ast.specs.Tree.{program_tree}
use Rattle.fl_types.specs.Declarations.{is_ring_argument}
use Rattle.store_core.specs.declared.layout.Shape.{Shape}
use Rattle.store_core.specs.declared.values.Args.{Args}
use Rattle.store_core.specs.declared.values.Direction.{Direction}
use Rattle.store_core.specs.Filled.{place_words}
use Rattle.meaning.specs.Programs.{final_tangents}
use Rattle.data_io.specs.Written.{weights}
use Rattle.answers.specs.Runs.{shown_at, values_of}

-- the tangents of all places in a direction
abbrev pub tangents_of : Program → List Shape → Args → Direction → List ℕ
tangents_of program shapes args direction = final_tangents (program_tree program) shapes (place_words shapes args.entries) (place_words shapes direction.entries)

-- all arguments of the ring kind, in their order
abbrev pub ring_arguments : Program → List (List ℕ)
ring_arguments program = filter (is_ring_argument program) program.args

-- the tangents and the values of all arguments of the ring kind, as compact JSON with a line feed
unfoldable pub tangent_text : Program → List Shape → Args → Direction → List ℕ
tangent_text program shapes args direction =
    compact_text (object (member (codes "tangent") (weights (shown_at program shapes (tangents_of program shapes args direction) (ring_arguments program)).entries)
    (member (codes "value") (weights (shown_at program shapes (values_of program shapes args) (ring_arguments program)).entries) no_members)))
    ++ 10 ∷ []
