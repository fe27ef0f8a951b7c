-- The rest terms of an increment as the code goes over them, t being the target. `terms_are` says that they are the terms.
use Rattle.std.specs.Prelude.{ℕ, Bool, if◌then◌else◌, List, [], ◌++◌, map, Option, Some, None}
use Rattle.fl_ast.specs.declared.decl.Decl.{Decl}
use Rattle.fl_ast.specs.Same.{same_expression}
use Rattle.fl_ast.specs.Tree.{Expression, literal, get, minus, binary, power, call, Designator}
use Rattle.fl_types.specs.declared.increment.IncrementForm.{IncrementForm}
use Rattle.fl_types.specs.declared.increment.IncrementForm.TheVariants.{Chain, Sum}
use Rattle.fl_types.specs.Increment.{increment_form, target_of}
use Rattle.reachability.specs.declared.closing.Link.{Link}
use Rattle.reachability.specs.Named.{indexes_of}
use Rattle.fl_types.specs.Sharing.{has_name, is_ring_name}
use Rattle.adjoint_rules.specs.Needed.{names_in, names_in_all, Kinds}
use Rattle.needed_names.specs.Reads.{reads}

-- of the terms of a chain, what `of` says of each
abbrev pub over_chain : (Expression → List ℕ) → Expression → Expression → List ℕ
over_chain of t (literal n k) = []
over_chain of t (get x s) = []
over_chain of t (minus a) = []
over_chain of t (binary o a b) = (if same_expression t a then [] else over_chain of t a) ++ of b
over_chain of t (power a n) = []
over_chain of t (call f s) = []

-- of the first term of a sum
abbrev pub over_front : (Expression → List ℕ) → Expression → List ℕ
over_front of (literal n k) = []
over_front of (get x s) = []
over_front of (minus a) = []
over_front of (binary o a b) = of a
over_front of (power a n) = []
over_front of (call f s) = []

-- of the rest terms, or of the whole value where the assignment is no increment
abbrev pub over_terms : (of whole : Expression → List ℕ) → Option IncrementForm → Expression → Expression → List ℕ
over_terms of whole None t e = whole e
over_terms of whole (Some Chain) t e = over_chain of t e
over_terms of whole (Some Sum) t e = over_front of e

-- the form of an assignment, where it is an increment
abbrev pub form_of : (List ℕ → Bool) → Designator → Expression → Option IncrementForm
form_of ring p e = if ring p.name then increment_form p e else None

abbrev pub reads_from : List Decl → (List ℕ → Bool) → Expression → List ℕ
reads_from decls on e = reads decls on e []

-- what the reverse of an assignment reads
abbrev pub assignment_reads : List Decl → (on ring : List ℕ → Bool) → Designator → Expression → List ℕ
assignment_reads decls on ring p e =
    if on p.name
    then indexes_of decls (names_in_all p.subscripts) ++ over_terms (reads_from decls on) (reads_from decls on) (form_of ring p e) (target_of p) e
    else []

abbrev pub indexes_in : List Decl → Expression → List ℕ
indexes_in decls e = indexes_of decls (names_in e)

abbrev pub nothing : Expression → List ℕ
nothing e = []

-- what restoring a target reads
abbrev pub restoring_reads : List Decl → (List ℕ → Bool) → Designator → Expression → List ℕ
restoring_reads decls ring p e =
    indexes_of decls (names_in_all p.subscripts) ++ over_terms (indexes_in decls) nothing (form_of ring p e) (target_of p) e

abbrev pub link_to : (i j : ℕ) → Link
link_to i j = record { tail = i; head = j }

abbrev pub links_from : Option ℕ → List ℕ → List Link
links_from None nodes = []
links_from (Some i) nodes = map (link_to i) nodes

-- the same program's kinds of names, from its declarations and a list of the active names
abbrev pub kinds_in : List Decl → List (List ℕ) → Kinds
kinds_in decls active = record { active = λ x. has_name x active; ring = is_ring_name decls }
