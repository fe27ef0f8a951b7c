-- Small files and an answer, computed.
use Rattle.std.proofs.Common.{◌≡◌, true, false, List, [], ◌∷◌, codes, refl, negsuc, Option, Some, None}
use Rattle.std.specs.Str.{is_utf8}
use Rattle.fl_ast.specs.declared.kind.Kind.TheVariants.{Index, Ring}
use Rattle.fl_ast.specs.declared.kind.Intent.TheVariants.{Unsaid}
use Rattle.fl_ast.specs.declared.decl.Decl.{Decl}
use Rattle.fl_ast.specs.declared.decl.Bound.{Bound}
use Rattle.fl_ast.specs.declared.decl.Factor.TheVariants.{Lit, Scalar}
use Rattle.store_core.specs.declared.values.Entry.{Entry}
use Rattle.serde_json.specs.Data.{Data, object, array, number, unsigned, negative, string, member, no_members, item, no_items}
use Rattle.data_io.specs.declared.data.DataError.TheVariants.{Missing, Extra, NotWhole, Shape, IndexRange}
use Rattle.data_io.specs.DataFaults.{args_faults, faults_of, entries_of}

abbrev upper : Bound
upper = record { first = record { first = Scalar (codes "n"); second = None }; rest = None }

-- integer :: n, and integer(kind=8) :: x(n)
abbrev decls : List Decl
decls =
    record { line = 2; name = codes "n"; kind = Index; bytes = 4; intent = Unsaid; dims = [] }
    ∷ record { line = 3; name = codes "x"; kind = Ring; bytes = 8; intent = Unsaid; dims = record { lower = None; upper = upper } ∷ [] }
    ∷ []

-- both names are text, which antt doesn't compute
abbrev Texts : Type 0
Texts = (is_utf8 (codes "n") ≡ true) × (is_utf8 (codes "x") ≡ true)

abbrev file : Data
file =
    object (member (codes "n") (number (unsigned 2)) (member (codes "x") (array (item (number (unsigned 5)) (item (string (codes "a")) (item (number (negative (negsuc 0))) no_items))))
    (member (codes "z") (number (unsigned 1)) no_members)))

-- all faults of a file, in order
faults : Texts → args_faults decls (codes "n" ∷ codes "x" ∷ []) file ≡ Shape (codes "x") 2 3 ∷ NotWhole (codes "x") 2 ∷ Extra (codes "z") ∷ []
faults h = rw (h.0, h.1) refl

-- a scalar's fault comes before an array's, even where it stands later among the names
scalar_first :
    Texts → faults_of [] decls (codes "x" ∷ codes "n" ∷ []) (object (member (codes "n") (number (unsigned 2147483648)) no_members)) ≡ IndexRange (codes "n") 0 ∷ Missing (codes "x") ∷ []
scalar_first h = rw (h.0, h.1) refl

abbrev good : Data
good = object (member (codes "n") (number (unsigned 2)) (member (codes "x") (array (item (number (unsigned 5)) (item (number (negative (negsuc 0))) no_items))) no_members))

none : Texts → args_faults decls (codes "n" ∷ codes "x" ∷ []) good ≡ []
none h = rw (h.0, h.1) refl

entries : Texts → entries_of decls (codes "n" ∷ codes "x" ∷ []) good
    ≡ record { name = codes "n"; scalar = true; words = 2 ∷ [] } ∷ record { name = codes "x"; scalar = false; words = 5 ∷ 18446744073709551615 ∷ [] } ∷ []
entries h = rw (h.0, h.1) refl
