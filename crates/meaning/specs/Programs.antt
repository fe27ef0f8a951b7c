-- What a whole program means, from the words of its arguments.
use Rattle.std.specs.Prelude.{ℕ, ◌+◌, zero, suc, Bool, false, if◌then◌else◌, List, [], ◌∷◌, length, map, take, Some, None, Result, Ok, Err}
use Rattle.fl_ast.specs.declared.kind.Kind.{Kind}
use Rattle.fl_ast.specs.declared.kind.Kind.TheVariants as kind
use Rattle.fl_ast.specs.Tree.{Subroutine}
use Rattle.fl_types.specs.Sharing.{has_name}
use Rattle.store_core.specs.declared.layout.Shape.{Shape}
use Rattle.store_core.specs.Values.{index_of}
use Rattle.meaning.specs.declared.value.Value.{Value}
use Rattle.meaning.specs.declared.value.Value.TheVariants.{Index, Ring}
use Rattle.store_core.specs.Keys.{keys_of}
use Rattle.meaning.specs.declared.value.TrapAt.{TrapAt}
use Rattle.meaning.specs.Logs.{Event, begins, touches, pushes, ends, traps, Traced}
use Rattle.meaning.specs.Sites.{Key, Cells, Site, opening_site, kind_of, word_of}
use Rattle.meaning.specs.Statements.{Run, run_all}
use Rattle.meaning.specs.Adjoints.{cells_along, adjoint_at, tangent_of}

-- a word as a value of a kind, with tangent 0
abbrev pub value_of_word : Kind → ℕ → Value
value_of_word kind.Ring w = Ring (record { value = w; tangent = 0 })
value_of_word kind.Index w = Index (index_of w)

-- the cells of keys, from the words of the first places: those of the arguments `args` are set, no others
abbrev pub cells_of : Site → List (List ℕ) → List Key → List ℕ → Cells
cells_of site args [] ws = []
cells_of site args (k ∷ ks) [] = None ∷ cells_of site args ks []
cells_of site args (k ∷ ks) (w ∷ ws) = (if has_name k.0 args then Some (value_of_word (kind_of site k.0) w) else None) ∷ cells_of site args ks ws

-- no name's old values are pushed
abbrev pub no_pushes : List ℕ → Bool
no_pushes x = false

-- outside every loop of a program with this layout
abbrev pub entry_site : Subroutine → List Shape → (List ℕ → Bool) → Site
entry_site p shapes pushed = opening_site p.decls shapes pushed

-- the cells at a program's entry: the arguments have their words, everything else is unset
abbrev pub entry_cells : Subroutine → List Shape → List ℕ → Cells
entry_cells p shapes words = let site = entry_site p shapes no_pushes in cells_of site p.args site.keys words

-- the run of a program's body
abbrev pub run_of : Subroutine → List Shape → (List ℕ → Bool) → Run
run_of p shapes pushed = run_all p.body (entry_site p shapes pushed)

-- the meaning of a program: the final cells with the tangents in a direction, and the log
abbrev pub meaning : Subroutine → List Shape → (List ℕ → Bool) → (words direction : List ℕ) → Traced TrapAt Cells
meaning p shapes pushed words direction = run_of p shapes pushed (cells_along direction (entry_cells p shapes words))

-- the adjoint at place j for a seed, which has a word for each place
abbrev pub adjoint_of : Subroutine → List Shape → (words seed : List ℕ) → ℕ → ℕ
adjoint_of p shapes words seed j = adjoint_at (run_of p shapes no_pushes) (entry_cells p shapes words) seed j

-- the words that go to the tape, in order
abbrev pub tape_words : List Event → List ℕ
tape_words [] = []
tape_words (begins ∷ es) = tape_words es
tape_words (touches t ∷ es) = tape_words es
tape_words (pushes v ∷ es) = word_of v ∷ tape_words es
tape_words (ends line ∷ es) = tape_words es
tape_words (traps t ∷ es) = tape_words es

-- the n numbers from one on
abbrev pub numbers_from : ℕ → ℕ → List ℕ
numbers_from at zero = []
numbers_from at (suc n) = at ∷ numbers_from (at + 1) n

abbrev pub words_after : ℕ → Result Cells TrapAt → List ℕ
words_after n (Ok cells) = take n (map word_of cells)
words_after n (Err t) = []

-- the words of all places after a program's run, place by place
abbrev pub final_words : Subroutine → List Shape → (words : List ℕ) → List ℕ
final_words p shapes words = words_after (length (keys_of shapes)) (meaning p shapes no_pushes words []).out

-- the tangents of the first n places after a run, none where it traps
abbrev pub tangents_after : ℕ → Result Cells TrapAt → List ℕ
tangents_after n (Ok cells) = take n (map tangent_of cells)
tangents_after n (Err trap) = []

-- the tangents of all places in a direction, place by place
abbrev pub final_tangents : Subroutine → List Shape → (words direction : List ℕ) → List ℕ
final_tangents p shapes words direction = tangents_after (length (keys_of shapes)) (meaning p shapes no_pushes words direction).out

-- the adjoints of all places, place by place
abbrev pub adjoint_words : Subroutine → List Shape → (words seed : List ℕ) → List ℕ
adjoint_words p shapes words seed = map (adjoint_of p shapes words seed) (numbers_from 0 (length (keys_of shapes)))
