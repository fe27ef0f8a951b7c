-- The statements of an adjoint that stand for an assignment are readable, and not deep.
use Rattle.std.proofs.Common.{◌≡◌, ℕ, ◌≤◌, Bool, true, false, ◌&&◌, ◌||◌, if◌then◌else◌, List, [], ◌∷◌, ◌++◌, Option, Some, None, refl, arith}
use Rattle.std.proofs.lemmas.Bool.{and_from}
use Rattle.fl_ast.specs.declared.kind.Kind.{Kind}
use Rattle.fl_ast.specs.declared.kind.Kind.TheVariants as kind
use Rattle.fl_ast.specs.Tree.{Expression, Designator}
use Rattle.fl_ast.specs.AdjointTree.{AdjointExpression, adjoint_literal, adjoint_get, AdjointStatement, adjoint_assignment, push, pop, begin_tapes, end_tapes}
use Rattle.fl_ast.specs.Measures.{deepest}
use Rattle.fl_ast.specs.Readable.{is_variable, is_readable, are_readable}
use Rattle.fl_ast.specs.ReadableAdjoint.{is_readable_adjoint, is_readable_adjoint_statement, deepest_in_adjoint, adjoint_block_depth, has_parallel_adjoint}
use Rattle.fl_types.specs.Increment.{Signed, target_of}
use Rattle.adjoint_rules.specs.OwnNames.{adjoint_name, adjoint_place, scalar, value, t_name}
use Rattle.adjoint_rules.specs.Occurrences.{Occurrence, assignment_occurrences}
use Rattle.adjoint_rules.specs.Expressions.{in_adjoint, product, temporary, sign_of, increment_for, taken, cleared, moved}
use Rattle.adjoint_rules.specs.Scopes.{Scope}
use Rattle.adjoint_rules.specs.Forward.{kept, forward_assignment, zeroed, kind_in}
use Rattle.adjoint_rules.specs.Reverse.{spread, restored, without_terms, ungrown, backward_assignment}
use Rattle.readable_adjoints.proofs.Every.{Every, every_append, every_map, every_is}
use Rattle.readable_adjoints.proofs.Named.{IsVariable}
use Rattle.readable_adjoints.proofs.Clauses.{Names}
use Rattle.readable_adjoints.proofs.Terms.{Fine, FineAdjoint, fine_in, fine_more, fine_adjoint_binary, Good, Terms, OnTerms, undone_good, assignment_good}

-- A statement that stands in so many blocks at most, in a parallel loop or not.
pub record One (n : ℕ) (inside : Bool) (s : AdjointStatement) : Type 0 where
  pub readable : is_readable_adjoint_statement s ≡ true
  pub levels : deepest_in_adjoint s ≤ 255
  pub blocks : adjoint_block_depth s ≤ n
  pub single : inside ≡ true → has_parallel_adjoint s ≡ false

pub record Site (scope : Scope) : Type 0 where
  pub names : Names scope
  pub key : Fine 2 scope.key

-- a place that is assigned
pub record Target (p : Designator) : Type 0 where
  pub named : IsVariable p.name
  pub readable : are_readable p.subscripts ≡ true
  pub shallow : deepest p.subscripts ≤ 64

pub fine_target : (p : Designator) → Target p → Fine 65 (target_of p)
fine_target p t = let l = t.shallow in record { readable = and_from (is_variable p.name) (are_readable p.subscripts) t.named t.readable; levels = omega (arith, l) }

pub scalar_target : (x : List ℕ) → IsVariable x → Target (scalar x)
scalar_target x v = record { named = v; readable = refl; shallow = omega arith }

pub fine_value : (x : List ℕ) → IsVariable x → Fine 1 (value x)
fine_value x v = record { readable = and_from (is_variable x) true v refl; levels = omega arith }

pub adjoint_target : (p : Designator) → Target p → IsVariable (adjoint_name p.name) → Target (adjoint_place p)
adjoint_target p t v = record { named = v; readable = t.readable; shallow = t.shallow }

pub fine_place : (p : Designator) → Target p → FineAdjoint 65 (adjoint_get p)
fine_place p t = let l = t.shallow in record { readable = and_from (is_variable p.name) (are_readable p.subscripts) t.named t.readable; levels = omega (arith, l) }

pub one_assignment : (n : ℕ) (inside : Bool) (line : ℕ) (atomic : Bool) (p : Designator) (e : AdjointExpression) → Target p → FineAdjoint 255 e → One n inside (adjoint_assignment line atomic p e)
one_assignment n inside line atomic p e t f =
    let l = f.levels in
    let k = t.shallow in
    record {
      readable = and_from (is_variable p.name) (are_readable p.subscripts && is_readable_adjoint e) t.named (and_from (are_readable p.subscripts) (is_readable_adjoint e) t.readable f.readable);
      levels = omega (arith, l, k);
      blocks = omega arith;
      single = λ _. refl;
    }

pub one_push : (n : ℕ) (inside : Bool) (line : ℕ) (key e : Expression) → Fine 2 key → Fine 255 e → One n inside (push line key e)
one_push n inside line key e k f =
    let a = k.levels in
    let b = f.levels in
    record { readable = and_from (is_readable key) (is_readable e) k.readable f.readable; levels = omega (arith, a, b); blocks = omega arith; single = λ _. refl }

pub one_pop : (n : ℕ) (inside : Bool) (line : ℕ) (key : Expression) (p : Designator) → Fine 2 key → Target p → One n inside (pop line key p)
one_pop n inside line key p k t =
    let a = k.levels in
    let b = t.shallow in
    record {
      readable = and_from (is_readable key) (is_variable p.name && are_readable p.subscripts) k.readable (and_from (is_variable p.name) (are_readable p.subscripts) t.named t.readable);
      levels = omega (arith, a, b);
      blocks = omega arith;
      single = λ _. refl;
    }

pub one_open : (n : ℕ) (inside : Bool) (line : ℕ) (e : Expression) → Fine 255 e → One n inside (begin_tapes line e)
one_open n inside line e f = record { readable = f.readable; levels = f.levels; blocks = omega arith; single = λ _. refl }

pub one_close : (n : ℕ) (inside : Bool) (line : ℕ) → One n inside (end_tapes line)
one_close n inside line = record { readable = refl; levels = omega arith; blocks = omega arith; single = λ _. refl }

wider : (d : ℕ) (e : AdjointExpression) → d ≤ 255 → FineAdjoint d e → FineAdjoint 255 e
wider d e h f = let l = f.levels in record { readable = f.readable; levels = omega (arith, l, h) }

pub in_wider : (d : ℕ) (e : Expression) → d ≤ 255 → Fine d e → FineAdjoint 255 (in_adjoint e)
in_wider d e h f = wider d (in_adjoint e) h (fine_in d e f)

literal_fine : (n : ℕ) (k : Kind) → is_readable_adjoint (adjoint_literal n k) ≡ true → FineAdjoint 255 (adjoint_literal n k)
literal_fine n k h = record { readable = h; levels = omega arith }

pub one_zeroed : (n : ℕ) (inside : Bool) (scope : Scope) (line : ℕ) (x : List ℕ) → IsVariable x → One n inside (zeroed scope line x)
one_zeroed n inside scope line x v = one_assignment n inside line false (scalar x) (adjoint_literal 0 (kind_in scope x)) (scalar_target x v) (literal_fine 0 (kind_in scope x) refl)

pub one_cleared : (n : ℕ) (inside : Bool) (line : ℕ) (p : Designator) → Target p → IsVariable (adjoint_name p.name) → One n inside (cleared line p)
one_cleared n inside line p t v = one_assignment n inside line false (adjoint_place p) (adjoint_literal 0 kind.Ring) (adjoint_target p t v) (literal_fine 0 kind.Ring refl)

one_taken : (n : ℕ) (inside : Bool) (line : ℕ) (p : Designator) → Target p → IsVariable (adjoint_name p.name) → One n inside (taken line p)
one_taken n inside line p t v =
    one_assignment n inside line false temporary (adjoint_get (adjoint_place p)) (scalar_target t_name refl) (wider 65 (adjoint_get (adjoint_place p)) (omega arith) (fine_place (adjoint_place p) (adjoint_target p t v)))

one_increment : (n : ℕ) (inside : Bool) (scope : Scope) (line : ℕ) (o : Occurrence) → Names scope → Good scope.active o → One n inside (increment_for scope.atomic line o)
one_increment n inside scope line o N g =
    let place : Target o.place = record { named = g.named; readable = g.subscripts; shallow = g.shallow } in
    let own = adjoint_target o.place place (N.own o.place.name g.active) in
    let here = fine_place (adjoint_place o.place) own in
    let l = here.levels in
    one_assignment n inside line (scope.atomic o.place.name) (adjoint_place o.place) _ own
    (wider 194 _ (omega arith) (fine_adjoint_binary 193 (sign_of o.negative) (adjoint_get (adjoint_place o.place)) (product (adjoint_get temporary) o.factors)
    (record { readable = here.readable; levels = omega (arith, l) }) g.amount))

spread_good : (n : ℕ) (inside : Bool) (scope : Scope) (line : ℕ) (e : Expression) (o : Option (List Signed)) → Names scope → Fine 64 e → OnTerms 64 o → Every (One n inside) (spread scope line e o)
spread_good n inside scope line e o N f t =
    every_map (One n inside) (increment_for scope.atomic line) (assignment_occurrences scope.active e o)
    (every_is (Good scope.active) (λ o. One n inside (increment_for scope.atomic line o)) (λ o. one_increment n inside scope line o N) (assignment_occurrences scope.active e o) (assignment_good scope.active e o f t))

-- ---- whole assignments

pub forward_line : (n : ℕ) (inside : Bool) (scope : Scope) (line : ℕ) (atomic : Bool) (p : Designator) (e : Expression) (o : Option (List Signed)) → Site scope → Target p → Fine 64 e
    → Every (One n inside) (forward_assignment scope line atomic p e o)
forward_line n inside scope line atomic p e None S t f =
    every_append (One n inside) (if scope.needed p.name then push line scope.key (target_of p) ∷ [] else []) (kept line atomic p e ∷ []) (at (scope.needed p.name))
    (one_assignment n inside line atomic p (in_adjoint e) t (in_wider 64 e (omega arith) f), tt)
  where
    at : (b : Bool) → Every (One n inside) (if b then push line scope.key (target_of p) ∷ [] else [])
    at true = (one_push n inside line scope.key (target_of p) S.key (fine_more 65 255 (target_of p) (omega arith) (fine_target p t)), tt)
    at false = tt
forward_line n inside scope line atomic p e (Some rs) S t f = (one_assignment n inside line atomic p (in_adjoint e) t (in_wider 64 e (omega arith) f), tt)

restored_good : (n : ℕ) (inside : Bool) (scope : Scope) (line : ℕ) (p : Designator) → Site scope → Target p → Every (One n inside) (restored scope line p)
restored_good n inside scope line p S t = at (scope.needed p.name)
  where
    at : (b : Bool) → Every (One n inside) (if b then pop line scope.key p ∷ [] else [])
    at true = (one_pop n inside line scope.key p S.key t, tt)
    at false = tt

ungrown_good : (n : ℕ) (inside : Bool) (scope : Scope) (line : ℕ) (atomic : Bool) (p : Designator) (rs : List Signed) → Target p → Terms 64 rs → Every (One n inside) (ungrown scope line atomic p rs)
ungrown_good n inside scope line atomic p rs t r = at (scope.needed p.name)
  where
    together : Bool
    together = atomic || scope.pluses p.name

    at : (b : Bool) → Every (One n inside) (if b then adjoint_assignment line together p (in_adjoint (without_terms together p rs)) ∷ [] else [])
    at true = (one_assignment n inside line together p (in_adjoint (without_terms together p rs)) t (in_wider 130 (without_terms together p rs) (omega arith) (undone_good together p rs (fine_target p t) r)), tt)
    at false = tt

pub backward_line : (n : ℕ) (inside : Bool) (scope : Scope) (line : ℕ) (atomic : Bool) (p : Designator) (e : Expression) (o : Option (List Signed)) → Site scope → Target p → Fine 64 e → OnTerms 64 o
    → Every (One n inside) (backward_assignment scope line atomic p e o)
backward_line n inside scope line atomic p e None S t f r = at (scope.active p.name) (S.names.own p.name)
  where
    at : (b : Bool) → (b ≡ true → IsVariable (adjoint_name p.name)) → Every (One n inside) (if b then moved line p ++ (restored scope line p ++ spread scope line e None) else restored scope line p)
    at true v = (
      one_taken n inside line p t (v refl),
      (
        one_cleared n inside line p t (v refl),
        every_append (One n inside) (restored scope line p) (spread scope line e None) (restored_good n inside scope line p S t)
            (spread_good n inside scope line e None S.names f tt),
      ),
    )
    at false v = restored_good n inside scope line p S t
backward_line n inside scope line atomic p e (Some rs) S t f r =
    every_append (One n inside) (ungrown scope line atomic p rs) (if scope.active p.name then taken line p ∷ spread scope line e (Some rs) else []) (ungrown_good n inside scope line atomic p rs t r)
    (at (scope.active p.name) (S.names.own p.name))
  where
    at : (b : Bool) → (b ≡ true → IsVariable (adjoint_name p.name)) → Every (One n inside) (if b then taken line p ∷ spread scope line e (Some rs) else [])
    at true v = (one_taken n inside line p t (v refl), spread_good n inside scope line e (Some rs) S.names f r)
    at false v = tt
