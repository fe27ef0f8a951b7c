-- The faults of a data file, in order.
use Rattle.std.specs.Prelude.{◌≡◌, ◌≢◌, min, ℕ, ◌+◌, ◌^◌, ◌==◌, Bool, true, false, cond, not, ◌||◌, List, [], ◌∷◌, ◌++◌, map, flat_map, filter, length, ℤ, pos, bytes_eq, Option, Some, None, option_map, option_and_then, slice_get, Result, Ok, Err, IsUtf8}
use Rattle.std.specs.Str.{is_utf8}
use Rattle.std.specs.Int.{cast_unsigned}
use Rattle.std.proofs.Common.{w64}
use Rattle.std.specs.Ordering.{nat_cmp, match_ordering}
use Rattle.std.specs.Cmp.Lexicographic.{slice_cmp}
use Rattle.std.specs.List.{list_any}
use Rattle.serde_json.specs.Data.{Data, Items, no_items, item, Members, no_members, member}
use Rattle.serde_json.specs.Read.{read}
use Rattle.serde_json.specs.Find.{get, as_array, as_number, as_object, as_i64}
use Rattle.fl_ast.specs.declared.kind.Kind.{Kind}
use Rattle.fl_ast.specs.declared.kind.Kind.TheVariants.{Index, Ring}
use Rattle.fl_ast.specs.declared.decl.Decl.{Decl}
use Rattle.fl_ast.specs.declared.decl.Dim.{Dim}
use Rattle.fl_ast.specs.declared.stmt.Program.{Program}
use Rattle.store_core.specs.declared.values.Entry.{Entry}
use Rattle.store_core.specs.declared.values.Args.{Args}
use Rattle.store_core.specs.declared.values.Weights.{Weights}
use Rattle.store_core.specs.Values.{is_index, value_in}
use Rattle.store_core.specs.Bounds.{axis_of}
use Rattle.store_core.specs.Keys.{size_of}
use Rattle.store_core.specs.Places.{declaration_of, is_empty}
use Rattle.data_io.specs.declared.data.DataError.{DataError}
use Rattle.data_io.specs.declared.data.DataError.TheVariants.{NotJson, NotObject, Missing, Extra, NotWhole, Shape, IndexRange, Memory}

-- ---- reading plain data

-- a whole number
abbrev pub whole : Data → Option ℤ
whole d = option_and_then as_i64 (as_number d)

abbrev pub list_of : Items → List Data
list_of no_items = []
list_of (item d ds) = d ∷ list_of ds

abbrev pub keys_in : Members → List (List ℕ)
keys_in no_members = []
keys_in (member k d ms) = k ∷ keys_in ms

-- what an object has at a name; a name that is no text has nothing
abbrev pub found : List ℕ → Data → Option Data
found name d = cond (is_utf8 name) (get name d) None

-- ---- the faults of one name

abbrev pub is_ring : Kind → Bool
is_ring Index = false
is_ring Ring = true

abbrev pub number_faults : Decl → ℕ → Option ℤ → List DataError
number_faults a at None = NotWhole a.name at ∷ []
number_faults a at (Some z) = cond (is_ring a.kind || is_index z) [] (IndexRange a.name at ∷ [])

abbrev pub element_faults : Decl → ℕ → List Data → List DataError
element_faults a at [] = []
element_faults a at (d ∷ ds) = number_faults a at (whole d) ++ element_faults a (at + 1) ds

abbrev pub length_faults : Decl → ℕ → ℕ → List DataError
length_faults a want got = cond (got == want) [] (Shape a.name want got ∷ [])

abbrev pub list_faults : Decl → ℕ → Option (List Data) → List DataError
list_faults a want None = NotWhole a.name 0 ∷ []
list_faults a want (Some ds) = length_faults a want (length ds) ++ element_faults a 1 ds

abbrev pub named_faults : Decl → (Data → List DataError) → Option Data → List DataError
named_faults a faults None = Missing a.name ∷ []
named_faults a faults (Some d) = faults d

-- how long the list of an array is to be, as far as 2^40
abbrev pub want_of : List Entry → List Dim → ℕ
want_of values dims = min (size_of (map (axis_of (value_in values)) dims)) (2 ^ 40)

abbrev pub scalar_faults_of : Data → Decl → List DataError
scalar_faults_of d a = cond (is_empty a.dims) (named_faults a (λ x. number_faults a 0 (whole x)) (found a.name d)) []

abbrev pub array_faults_of : List Entry → Data → Decl → List DataError
array_faults_of values d a = cond (is_empty a.dims) [] (named_faults a (λ x. list_faults a (want_of values a.dims) (option_map list_of (as_array x))) (found a.name d))

-- ---- the words of one name

abbrev pub or_zero : Option ℤ → ℤ
or_zero None = pos 0
or_zero (Some z) = z

abbrev pub word_of : Data → ℕ
word_of d = cast_unsigned w64 (or_zero (whole d))

abbrev pub word_at : Option Data → ℕ
word_at None = 0
word_at (Some d) = word_of d

abbrev pub list_words : Option (List Data) → List ℕ
list_words None = []
list_words (Some ds) = map word_of ds

abbrev pub words_at : Option Data → List ℕ
words_at None = []
words_at (Some d) = list_words (option_map list_of (as_array d))

abbrev pub scalar_entry : Data → Decl → Entry
scalar_entry d a = record { name = a.name; scalar = true; words = word_at (found a.name d) ∷ [] }

abbrev pub array_entry : Data → Decl → Entry
array_entry d a = record { name = a.name; scalar = false; words = words_at (found a.name d) }

abbrev pub entry_of : Data → Decl → Entry
entry_of d a = cond (is_empty a.dims) (scalar_entry d a) (array_entry d a)

-- ---- the names that are asked for; one that isn't declared is passed over

abbrev pub on_declared : {A : Type 0} → Option Decl → (Decl → List A) → List A
on_declared None f = []
on_declared (Some a) f = f a

abbrev pub scalar_faults : List Decl → Data → List ℕ → List DataError
scalar_faults decls d name = on_declared (declaration_of decls name) (scalar_faults_of d)

abbrev pub array_faults : List Entry → List Decl → Data → List ℕ → List DataError
array_faults values decls d name = on_declared (declaration_of decls name) (array_faults_of values d)

abbrev pub name_faults : List Entry → List Decl → Data → List ℕ → List DataError
name_faults values decls d name = scalar_faults decls d name ++ array_faults values decls d name

-- the least key that isn't asked for
abbrev pub lesser : List ℕ → Option (List ℕ) → Option (List ℕ)
lesser k None = Some k
lesser k (Some l) = match_ordering (slice_cmp nat_cmp k l) (Some k) (Some k) (Some l)

abbrev pub least : List (List ℕ) → Option (List ℕ)
least [] = None
least (k ∷ ks) = lesser k (least ks)

abbrev pub is_asked : List (List ℕ) → List ℕ → Bool
is_asked names k = list_any (λ name. bytes_eq name k) names

abbrev pub extra_fault : Option (List ℕ) → List DataError
extra_fault None = []
extra_fault (Some k) = Extra k ∷ []

abbrev pub extra_faults : List (List ℕ) → Members → List DataError
extra_faults names ms = extra_fault (least (filter (λ k. not (is_asked names k)) (keys_in ms)))

-- the faults of an object: of its scalars, then of its arrays, then the least key that isn't asked for
abbrev pub object_faults : List Entry → List Decl → List (List ℕ) → Data → Option Members → List DataError
object_faults values decls names d None = NotObject ∷ []
object_faults values decls names d (Some ms) = flat_map (scalar_faults decls d) names ++ (flat_map (array_faults values decls d) names ++ extra_faults names ms)

-- all faults of a value that is to hold exactly the names, `values` giving the scalars in bounds
abbrev pub faults_of : List Entry → List Decl → List (List ℕ) → Data → List DataError
faults_of values decls names d = object_faults values decls names d (as_object d)

-- ---- the entries of the names

abbrev pub name_entries : List Decl → Data → List ℕ → List Entry
name_entries decls d name = on_declared (declaration_of decls name) (λ a. entry_of d a ∷ [])

abbrev pub entries_of : List Decl → List (List ℕ) → Data → List Entry
entries_of decls names d = flat_map (name_entries decls d) names

abbrev pub scalar_of : Data → Decl → List Entry
scalar_of d a = cond (is_empty a.dims) (scalar_entry d a ∷ []) []

abbrev pub scalars_named : List Decl → Data → List ℕ → List Entry
scalars_named decls d name = on_declared (declaration_of decls name) (scalar_of d)

-- the scalars among the names
abbrev pub scalars_of : List Decl → List (List ℕ) → Data → List Entry
scalars_of decls names d = flat_map (scalars_named decls d) names

-- the faults where the names themselves give the scalars in bounds
abbrev pub args_faults : List Decl → List (List ℕ) → Data → List DataError
args_faults decls names d = faults_of (scalars_of decls names d) decls names d

abbrev pub args_of : Program → Data → Args
args_of p d = record { entries = entries_of p.decls p.args d }

abbrev pub seed_of : Program → List (List ℕ) → Data → Weights
seed_of p names d = record { entries = entries_of p.decls names d }

abbrev pub no_args : Args
no_args = record { entries = [] }

abbrev pub no_weights : Weights
no_weights = record { entries = [] }

-- ---- the whole file

-- bytes that `serde_json` reads as a value
abbrev pub IsJson : List ℕ → Data → Type 0
IsJson bytes d = IsUtf8 bytes × (read bytes ≡ Some d)

-- the fault of bytes that are no JSON
abbrev pub no_json : List DataError
no_json = NotJson ∷ []

-- a value where there is no fault, and else the first fault; nothing is said where memory is wanting
abbrev pub Answers : {T : Type 0} → Result T DataError → List DataError → T → Type 0
Answers (Ok x) faults v = (faults ≡ []) × (x ≡ v)
Answers (Err e) faults v = e ≢ Memory → slice_get faults 0 ≡ Some e
