-- The adjoint of a whole program: x(i) = x(i)*x(i) in a parallel loop.
use Rattle.std.specs.Prelude.{◌≡◌, ℕ, List, [], ◌∷◌, Some, None, codes, refl}
use Rattle.fl_ast.specs.declared.kind.Kind.TheVariants as kind
use Rattle.fl_ast.specs.declared.kind.Fun.TheVariants as fun
use Rattle.fl_ast.specs.declared.kind.Intent.TheVariants as intent
use Rattle.fl_ast.specs.declared.decl.Decl.{Decl}
use Rattle.fl_ast.specs.declared.decl.Factor.TheVariants.{Scalar}
use Rattle.fl_ast.specs.declared.directive.Directive.{Directive}
use Rattle.fl_ast.specs.Tree.{call, no_expressions, expression, loop, Statements}
use Rattle.fl_ast.specs.AdjointTree.{AdjointStatement, adjoint_loop, push, pop, begin_tapes, end_tapes, adjoint_statements_of}
use Rattle.fl_types.specs.declared.choice.Choice.TheVariants.{Atomic}
use Rattle.fl_types.specs.declared.choice.Chosen.{Chosen}
use Rattle.adjoint_rules.specs.OwnNames.{main_tape, lo_name, hi_name, by_name}
use Rattle.adjoint_rules.specs.Declarations.{declarations}
use Rattle.adjoint_rules.specs.Scopes.{Scope}
use Rattle.adjoint_rules.specs.Forward.{forward_all}
use Rattle.adjoint_rules.specs.Reverse.{backward_all}
use Rattle.adjoint_rules.specs.Needed.{Kinds, read_by_all, restorings_in}
use Rattle.adjoint_rules.proofs.Small.{x, n, i, index, data_of, name, at, to, into, ◌plus◌, ◌less◌, ◌times◌, ◌over◌, only, set, does, atomically, declared, clauses, t, to_t, scope_of}

abbrev xb : List ℕ
xb = codes "x_b"

abbrev lo : List ℕ
lo = lo_name 1

abbrev hi : List ℕ
hi = hi_name 1

abbrev by : List ℕ
by = by_name 1

abbrev k : List ℕ
k = codes "formad_k"

abbrev sq : Statements
sq = only (loop 5 1 (Some clauses) i (index 1) (name n) None (only (set 6 (into x (name i)) (at x (name i) times at x (name i)))))

abbrev atomic : Chosen
atomic = record { loop_number = 1; name = x; choice = Atomic }

abbrev here : Scope
here = scope_of (n ∷ i ∷ x ∷ []) (x ∷ []) (x ∷ []) (x ∷ i ∷ []) (atomic ∷ [])

abbrev own : Directive
own = record clauses { privates = k ∷ codes "formad_w" ∷ codes "formad_t" ∷ [] }

abbrev over_iterations : List AdjointStatement → AdjointStatement
over_iterations body = adjoint_loop 5 1 (Some own) i (name lo) (name hi) (Some (name by)) (adjoint_statements_of (does 5 (to k) ((name i less name lo) over name by) ∷ body))

pub sq_forward : forward_all sq here
    ≡ does 5 (to lo) (index 1) ∷ does 5 (to hi) (name n) ∷ does 5 (to by) (index 1)
    ∷ begin_tapes 5 (call fun.Max (expression ((name hi less name lo plus name by) over name by) (expression (index 0) no_expressions)))
    ∷ over_iterations (push 6 (name k) (at x (name i)) ∷ does 6 (into x (name i)) (at x (name i) times at x (name i)) ∷ [])
    ∷ end_tapes 5
    ∷ push 5 main_tape (name lo) ∷ push 5 main_tape (name hi) ∷ push 5 main_tape (name by) ∷ []
sq_forward = refl

pub sq_reverse : backward_all sq here
    ≡ pop 5 main_tape (to by) ∷ pop 5 main_tape (to hi) ∷ pop 5 main_tape (to lo)
    ∷ begin_tapes 5 main_tape
    ∷ over_iterations
    (does 6 to_t (at xb (name i)) ∷ does 6 (into xb (name i)) (data_of 0) ∷ pop 6 (name k) (into x (name i))
    ∷ atomically 6 (into xb (name i)) (at xb (name i) plus (t times at x (name i)))
    ∷ atomically 6 (into xb (name i)) (at xb (name i) plus (t times at x (name i))) ∷ [])
    ∷ end_tapes 5 ∷ []
sq_reverse = refl

abbrev array : Decl
array = record (declared kind.Ring 8 x) { dims = record { lower = None; upper = record { first = record { first = Scalar n; second = None }; rest = None } } ∷ []; intent = intent.Both }

abbrev plain : Decl → Decl
plain d = record d { intent = intent.Unsaid }

abbrev named : List ℕ → Decl → Decl
named v d = record d { name = v; line = 1 }

abbrev own_index : List ℕ → Decl
own_index v = named v (declared kind.Index 4 v)

-- each name with its adjoint, and the adjoint's own
pub sq_declarations : declarations (λ v. here.active v) 1 (declared kind.Index 4 n ∷ declared kind.Index 4 i ∷ array ∷ []) sq
    ≡ declared kind.Index 4 n ∷ declared kind.Index 4 i ∷ plain array ∷ record (plain array) { name = xb }
    ∷ own_index lo ∷ own_index hi ∷ own_index by ∷ own_index k ∷ own_index (codes "formad_w") ∷ named (codes "formad_t") (declared kind.Ring 8 x) ∷ []
sq_declarations = refl

abbrev kinds : Kinds
kinds = record { active = here.active; ring = here.ring }

-- i stands in subscripts, x and i in factors; restoring x reads i
pub sq_reads : read_by_all kinds sq ≡ i ∷ x ∷ i ∷ i ∷ x ∷ i ∷ i ∷ []
sq_reads = refl

pub sq_restores : restorings_in kinds sq ≡ record { tail = x; head = i } ∷ []
sq_restores = refl
