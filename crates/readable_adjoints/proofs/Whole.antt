-- Whole adjoints are readable.
use Rattle.std.proofs.Common.{◌≡◌, ℕ, ◌≤◌, Bool, true, false, not, ◌&&◌, ◌||◌, if◌then◌else◌, List, [], ◌∷◌, ◌++◌, length, map, flat_map, bytes_eq, refl, sym, ap, ap₂, subst, ◌∙◌, length-append, arith}
use Rattle.std.specs.List.{list_all}
use Rattle.std.proofs.lemmas.Bool.{and_parts, and_from}
use Rattle.std.proofs.lemmas.Slice.Eq.{bytes_eq-Decides}
use Rattle.fl_base.specs.Spelling.{is_name}
use Rattle.fl_ast.specs.declared.kind.Kind.{Kind}
use Rattle.fl_ast.specs.declared.kind.Kind.TheVariants as kind
use Rattle.fl_ast.specs.declared.decl.Decl.{Decl}
use Rattle.fl_ast.specs.declared.adjoint.Adjoint.{Adjoint}
use Rattle.fl_ast.specs.declared.stmt.Program.{Program}
use Rattle.fl_ast.specs.Tree.{Statement, assignment, branch, loop, Statements, no_statements, statement, Arms, no_arms, arm, stmt_trees}
use Rattle.fl_ast.specs.AdjointTree.{AdjointSubroutine, adjoint_tree}
use Rattle.fl_ast.specs.Measures as size_of
use Rattle.fl_ast.specs.Measures.{nodes_of_all, arm_nodes, statement_nodes, nodes, step_nodes}
use Rattle.fl_ast.specs.Readable.{is_variable, is_readable_decl, is_readable_dim, is_size_of, counts_up_from, IsReadable}
use Rattle.fl_types.specs.declared.choice.Chosen.{Chosen}
use Rattle.fl_types.specs.Sharing.{is_ring_kind}
use Rattle.fl_types.specs.Declarations.{is_declared, is_reserved}
use Rattle.fl_types.specs.WellTyped.{IsTyped}
use Rattle.adjoint_rules.specs.OwnNames.{adjoint_name, scalar, k_name, w_name, t_name}
use Rattle.adjoint_rules.specs.Expressions.{cleared}
use Rattle.adjoint_rules.specs.Scopes.{Scope, outermost}
use Rattle.adjoint_rules.specs.Clauses.{loop_numbers, loop_numbers_in, loop_numbers_in_arms, bound_names, with_adjoint}
use Rattle.adjoint_rules.specs.Declarations.{arguments, without_intent, adjoint_decl, declared_with_adjoint, data_bytes, own_decl, index_decl, own_decls, declarations, is_local, beginning, head}
use Rattle.adjoint_rules.specs.Forward.{zeroed, forward_all}
use Rattle.adjoint_rules.specs.Reverse.{backward_all}
use Rattle.adjoint_rules.specs.Adjoint.{adjoint_of}
use Rattle.readable_adjoints.specs.Fitting.{IsFitting, IsReadableWithRoom, AdjointsAreReadable}
use Rattle.readable_adjoints.proofs.Every.{Every, every_append, every_map, every_flat, every_told, told_every, every_is}
use Rattle.readable_adjoints.proofs.Times.{once_is_apart}
use Rattle.readable_adjoints.proofs.Named.{IsVariable, IsNumber, Run, run_small, bounds_variable, adjoint_variable, adjoint_name_is}
use Rattle.readable_adjoints.proofs.Clauses.{Names}
use Rattle.readable_adjoints.proofs.Lines.{One, Site, scalar_target, one_zeroed, one_cleared}
use Rattle.readable_adjoints.proofs.Fit.{Fit, size_of_all}
use Rattle.readable_adjoints.proofs.Loops.{Row, row_of}
use Rattle.readable_adjoints.proofs.Forward.{forward_all_good}
use Rattle.readable_adjoints.proofs.Reverse.{backward_all_good}

-- ---- the numbers of loops

mutual
  numbers_are : (s : Statement) → loop_numbers s ≡ size_of.loop_numbers s
  numbers_are (assignment line atomic p e) = refl
  numbers_are (branch line as_ other) = ap₂ (λ (a b : List ℕ). a ++ b) (numbers_in_arms as_) (numbers_in_all other)
  numbers_are (loop line number directive var first last step body) = ap (λ (a : List ℕ). number ∷ a) (numbers_in_all body)

  numbers_in_all : (ss : Statements) → loop_numbers_in ss ≡ size_of.loop_numbers_of_all ss
  numbers_in_all no_statements = refl
  numbers_in_all (statement s ss) = ap₂ (λ (a b : List ℕ). a ++ b) (numbers_are s) (numbers_in_all ss)

  numbers_in_arms : (as_ : Arms) → loop_numbers_in_arms as_ ≡ size_of.loop_numbers_of_arms as_
  numbers_in_arms no_arms = refl
  numbers_in_arms (arm test body rest) = ap₂ (λ (a b : List ℕ). a ++ b) (numbers_in_all body) (numbers_in_arms rest)

mutual
  few_numbers : (s : Statement) → length (loop_numbers s) ≤ statement_nodes s
  few_numbers (assignment line atomic p e) = omega arith
  few_numbers (branch line as_ other) =
      let a = few_in_arms as_ in
      let b = few_in_all other in
      omega (arith, a, b, length-append (loop_numbers_in_arms as_) (loop_numbers_in other))
  few_numbers (loop line number directive var first last step body) = let b = few_in_all body in omega (arith, b)

  few_in_all : (ss : Statements) → length (loop_numbers_in ss) ≤ nodes_of_all ss
  few_in_all no_statements = omega arith
  few_in_all (statement s ss) =
      let a = few_numbers s in
      let b = few_in_all ss in
      omega (arith, a, b, length-append (loop_numbers s) (loop_numbers_in ss))

  few_in_arms : (as_ : Arms) → length (loop_numbers_in_arms as_) ≤ arm_nodes as_
  few_in_arms no_arms = omega arith
  few_in_arms (arm test body rest) =
      let a = few_in_all body in
      let b = few_in_arms rest in
      omega (arith, a, b, length-append (loop_numbers_in body) (loop_numbers_in_arms rest))

numbers_run : (p : Program) → IsReadable p → Run (loop_numbers_in (stmt_trees p.body))
numbers_run p r =
    let few = few_in_all (stmt_trees p.body) in
    let nodes = r.few_nodes in
    record {
      start = 1;
      counts = subst (λ (ns : List ℕ). counts_up_from 1 ns ≡ true) (sym (numbers_in_all (stmt_trees p.body))) r.numbered;
      few = omega (arith, few, nodes);
    }

-- ---- names

abbrev is_named : Decl → Bool
is_named d = is_variable d.name

readable_named : (d : Decl) → is_readable_decl d ≡ true → IsVariable d.name
readable_named d h = (and_parts (is_variable d.name) (is_size_of d.kind d.bytes && list_all is_readable_dim d.dims) h).0

not_set : (b : Bool) → not b ≡ true → b ≡ false
not_set true h = absurd (let g : false ≡ true = h in cc)
not_set false h = refl

-- what each declared name is
declared_is : (P : List ℕ → Type 0) (x : List ℕ) (ds : List Decl) → Every (λ (d : Decl). P d.name) ds → is_declared ds x ≡ true → P x
declared_is P x [] h k = absurd (let g : false ≡ true = k in cc)
declared_is P x (d ∷ ds) h k = at (bytes_eq d.name x) refl k (declared_is P x ds h.1)
  where
    at : (t : Bool) → bytes_eq d.name x ≡ t → (t || is_declared ds x) ≡ true → (is_declared ds x ≡ true → P x) → P x
    at true e l f = subst P ((bytes_eq-Decides d.name x).0 e) h.0
    at false e l f = f l

abbrev name_of : Decl → List ℕ
name_of d = d.name

abbrev IsFree : List ℕ → Type 0
IsFree x = is_reserved x ≡ false

names_known : (p : Program) (active needed : List ℕ → Bool) (choices : List Chosen) → IsTyped p → IsFitting p active choices → Names (outermost p active needed choices)
names_known p active needed choices t f =
    let named_ : Every (λ (d : Decl). IsVariable d.name) p.decls =
    every_is (λ d. is_readable_decl d ≡ true) (λ (d : Decl). IsVariable d.name) readable_named p.decls (every_told is_readable_decl p.decls t.readable.decls) in
    let free : Every (λ (d : Decl). IsFree d.name) p.decls =
    every_is (λ (d : Decl). not (is_reserved d.name) ≡ true) (λ (d : Decl). IsFree d.name) (λ d h. not_set (is_reserved d.name) h) p.decls
    (every_told (λ (d : Decl). not (is_reserved d.name)) p.decls ((and_parts (not (is_reserved p.name)) (list_all (λ (d : Decl). not (is_reserved d.name)) p.decls) t.unreserved).1)) in
    record {
      variables = every_map IsVariable name_of p.decls named_;
      apart = sym (once_is_apart p.decls) ∙ t.once;
      unreserved = every_map IsFree name_of p.decls free;
      own = λ x on. adjoint_variable x (declared_is IsVariable x p.decls named_ (f.declared x on)) (declared_is IsFree x p.decls free (f.declared x on));
    }

-- ---- arguments and declarations

arguments_good : (active : List ℕ → Bool) (args : List (List ℕ)) → ((x : List ℕ) → active x ≡ true → IsVariable (adjoint_name x)) → Every IsVariable args → Every IsVariable (arguments active args)
arguments_good active args own h = every_flat IsVariable (with_adjoint active) args (every_is IsVariable (λ x. Every IsVariable (with_adjoint active x)) (λ x v. at x v (active x) (own x)) args h)
  where
    at : (x : List ℕ) → IsVariable x → (b : Bool) → (b ≡ true → IsVariable (adjoint_name x)) → Every IsVariable (if b then x ∷ adjoint_name x ∷ [] else x ∷ [])
    at x v true k = (v, (k refl, tt))
    at x v false k = (v, tt)

abbrev IsDecl : Decl → Type 0
IsDecl d = is_readable_decl d ≡ true

adjoint_declared : (d : Decl) → IsDecl d → IsVariable (adjoint_name d.name) → IsDecl (adjoint_decl d)
adjoint_declared d h v =
    and_from (is_variable (adjoint_name d.name)) (is_size_of d.kind d.bytes && list_all is_readable_dim d.dims) v ((and_parts (is_variable d.name) (is_size_of d.kind d.bytes && list_all is_readable_dim d.dims) h).1)

declared_good : (active : List ℕ → Bool) (ds : List Decl) → ((x : List ℕ) → active x ≡ true → IsVariable (adjoint_name x)) → Every IsDecl ds → Every IsDecl (flat_map (declared_with_adjoint active) ds)
declared_good active ds own h = every_flat IsDecl (declared_with_adjoint active) ds (every_is IsDecl (λ d. Every IsDecl (declared_with_adjoint active d)) (λ d k. at d k (active d.name) (own d.name)) ds h)
  where
    at : (d : Decl) → IsDecl d → (b : Bool) → (b ≡ true → IsVariable (adjoint_name d.name)) → Every IsDecl (if b then without_intent d ∷ adjoint_decl d ∷ [] else without_intent d ∷ [])
    at d k true v = (k, (adjoint_declared d k (v refl), tt))
    at d k false v = (k, tt)

data_sized : (ds : List Decl) → Every IsDecl ds → is_size_of kind.Ring (data_bytes ds) ≡ true
data_sized [] h = refl
data_sized (d ∷ ds) h =
    at d.kind ((and_parts (is_size_of d.kind d.bytes) (list_all is_readable_dim d.dims) ((and_parts (is_variable d.name) (is_size_of d.kind d.bytes && list_all is_readable_dim d.dims) h.0).1)).0) (data_sized ds h.1)
  where
    at : (k : Kind) → is_size_of k d.bytes ≡ true → is_size_of kind.Ring (data_bytes ds) ≡ true → is_size_of kind.Ring (if is_ring_kind k then d.bytes else data_bytes ds) ≡ true
    at kind.Ring e r = e
    at kind.Index e r = r

index_declared : (line : ℕ) (x : List ℕ) → IsVariable x → IsDecl (index_decl line x)
index_declared line x v = and_from (is_variable x) true v refl

own_declared : (line : ℕ) (ds : List Decl) (body : Statements) → Every IsDecl ds → Every IsNumber (loop_numbers_in body) → Every IsDecl (own_decls line ds body)
own_declared line ds body h e =
    let names : List (List ℕ) = flat_map bound_names (loop_numbers_in body) ++ k_name ∷ w_name ∷ [] in
    let variables : Every IsVariable names =
    every_append IsVariable (flat_map bound_names (loop_numbers_in body)) (k_name ∷ w_name ∷ [])
    (every_flat IsVariable bound_names (loop_numbers_in body) (every_is IsNumber (λ n. Every IsVariable (bound_names n)) bounds_variable (loop_numbers_in body) e)) (refl, (refl, tt)) in
    every_append IsDecl (map (index_decl line) names) (own_decl line kind.Ring (data_bytes ds) t_name ∷ [])
    (every_map IsDecl (index_decl line) names (every_is IsVariable (λ x. IsDecl (index_decl line x)) (index_declared line) names variables))
    (and_from (is_variable t_name) (is_size_of kind.Ring (data_bytes ds) && true) refl (and_from (is_size_of kind.Ring (data_bytes ds)) true (data_sized ds h) refl), tt)

-- ---- the head

head_good : (n : ℕ) (scope : Scope) (p : Program) → Names scope → Every (λ (d : Decl). IsVariable d.name) p.decls → Every (One n false) (head scope p)
head_good n scope p N h = every_flat (One n false) (beginning scope p.line p) p.decls (every_is (λ (d : Decl). IsVariable d.name) (λ d. Every (One n false) (beginning scope p.line p d)) (λ d v. at d v (is_local p d) (scope.active d.name) (N.own d.name)) p.decls h)
  where
    at : (d : Decl) → IsVariable d.name → (b a : Bool) → (a ≡ true → IsVariable (adjoint_name d.name))
        → Every (One n false) (if b then zeroed scope p.line d.name ∷ (if a then cleared p.line (scalar d.name) ∷ [] else []) else [])
    at d v true true k = (one_zeroed n false scope p.line d.name v, (one_cleared n false p.line (scalar d.name) (scalar_target d.name v) (k refl), tt))
    at d v true false k = (one_zeroed n false scope p.line d.name v, tt)
    at d v false a k = tt

-- ---- the whole

-- the parts of an adjoint as plain data
record Good (t : AdjointSubroutine) : Type 0 where
  name : is_name t.name ≡ true
  args : list_all is_variable t.args ≡ true
  decls : list_all is_readable_decl t.decls ≡ true
  forward : Row 64 false t.forward
  reverse : Row 64 false t.reverse

body_fits : (p : Program) (active needed : List ℕ → Bool) (choices : List Chosen) → IsTyped p → IsFitting p active choices → Fit (size_of_all (outermost p active needed choices) (stmt_trees p.body)) 64 false
body_fits p active needed choices t f =
    let r = t.readable in
    let nodes = r.few_nodes in
    record {
      readable = r.body;
      levels = r.shallow;
      blocks = r.shallow_blocks;
      nodes = omega (arith, nodes);
      numbers = numbers_run p r;
      single = λ i. absurd (let g : false ≡ true = i in cc);
      fair = f.fair;
    }

adjoint_good : (p : Program) (active needed : List ℕ → Bool) (choices : List Chosen) → IsTyped p → IsFitting p active choices → Good (adjoint_of p active needed choices)
unfolding adjoint_of
adjoint_good p active needed choices t f =
    let scope = outermost p active needed choices in
    let r = t.readable in
    let N = names_known p active needed choices t f in
    let site : Site scope = record { names = N; key = record { readable = refl; levels = omega arith } } in
    let fits = body_fits p active needed choices t f in
    let decls = every_told is_readable_decl p.decls r.decls in
    record {
      name = adjoint_name_is p.name r.name (not_set (is_reserved p.name) ((and_parts (not (is_reserved p.name)) (list_all (λ (d : Decl). not (is_reserved d.name)) p.decls) t.unreserved).0));
      args = told_every is_variable (arguments active p.args) (arguments_good active p.args N.own (every_told is_variable p.args r.args));
      decls = told_every is_readable_decl (declarations active p.line p.decls (stmt_trees p.body))
          (every_append IsDecl (flat_map (declared_with_adjoint active) p.decls) (own_decls p.line p.decls (stmt_trees p.body)) (declared_good active p.decls N.own decls)
          (own_declared p.line p.decls (stmt_trees p.body) decls (run_small (loop_numbers_in (stmt_trees p.body)) (numbers_run p r))));
      forward = row_of 64 false (head scope p ++ forward_all (stmt_trees p.body) scope)
          (every_append (One 64 false) (head scope p) (forward_all (stmt_trees p.body) scope) (head_good 64 scope p N (every_is IsDecl (λ (d : Decl). IsVariable d.name) readable_named p.decls decls))
          (forward_all_good (stmt_trees p.body) scope 64 false site fits));
      reverse = row_of 64 false (backward_all (stmt_trees p.body) scope) (backward_all_good (stmt_trees p.body) scope 64 false site fits);
    }

told_of : (a : Adjoint) → Good (adjoint_tree a) → IsReadableWithRoom a
told_of a g =
    let forward = g.forward in
    let reverse = g.reverse in
    let forward_levels = forward.levels in
    let reverse_levels = reverse.levels in
    let forward_blocks = forward.blocks in
    let reverse_blocks = reverse.blocks in
    record {
      readable = record {
        name = g.name;
        args = g.args;
        decls = g.decls;
        forward = forward.readable;
        reverse = reverse.readable;
        shallow = omega (arith, forward_levels, reverse_levels);
        shallow_blocks = omega (arith, forward_blocks, reverse_blocks);
      };
      room = omega (arith, forward_levels, reverse_levels);
    }

pub readable : AdjointsAreReadable
readable p active needed choices a t f e = told_of a (subst (λ (s : AdjointSubroutine). Good s) (sym e) (adjoint_good p active needed choices t f))
