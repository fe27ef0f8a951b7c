-- Statements of an adjoint in a row, and what stands around a loop's body.
use Rattle.std.proofs.Common.{◌≡◌, ℕ, suc, ◌+◌, ◌≤◌, Bool, true, false, not, ◌&&◌, List, [], ◌∷◌, length, map, filter, reverse, Some, None, refl, arith}
use Rattle.std.proofs.lemmas.Bool.{and_from, or_from, not_from_false}
use Rattle.fl_ast.specs.declared.kind.Kind.TheVariants as kind
use Rattle.fl_ast.specs.declared.kind.BinOp.TheVariants as op
use Rattle.fl_ast.specs.declared.directive.Directive.{Directive}
use Rattle.fl_ast.specs.Tree.{Expression, literal, minus, binary, Statements}
use Rattle.fl_ast.specs.AdjointTree.{AdjointStatement, AdjointStatements, push, pop, adjoint_statements_of}
use Rattle.fl_ast.specs.Readable.{is_variable, is_readable, has_readable_clauses}
use Rattle.fl_ast.specs.ReadableAdjoint.{is_readable_adjoint_statement, are_readable_adjoint_statements, deepest_in_adjoints, block_depth_of_adjoints, has_parallel_adjoint, has_parallel_adjoints}
use Rattle.fl_types.specs.Sharing.{assigns_in, is_private, sharing_in}
use Rattle.adjoint_rules.specs.OwnNames.{scalar, value, lo_name, hi_name, by_name, k_name, main_tape}
use Rattle.adjoint_rules.specs.Expressions.{in_adjoint, cleared}
use Rattle.adjoint_rules.specs.Scopes.{Scope}
use Rattle.adjoint_rules.specs.Bounds.{LoopHead, lo, hi, by, step_of, settings, pushes, pops, count, last_value, turn_number, loop_over, total, iteration_number, all_settings, all_pops, loops_around, numbering, further_loops}
use Rattle.adjoint_rules.specs.Clauses.{forward_clauses, backward_clauses}
use Rattle.adjoint_rules.specs.Forward.{private_scalars, pushed_scalars, zeroed, forward_iteration, forward_parallel, forward_loop}
use Rattle.adjoint_rules.specs.Reverse.{backward_iteration, backward_parallel, backward_loop}
use Rattle.readable_adjoints.proofs.Every.{Every, every_append, every_map, every_flat, every_filter, every_passing, every_turned, every_is}
use Rattle.readable_adjoints.proofs.Named.{IsVariable, lo_variable, hi_variable, by_variable}
use Rattle.readable_adjoints.proofs.Clauses.{Names}
use Rattle.readable_adjoints.proofs.Terms.{Fine, fine_binary, fine_minus, fine_more}
use Rattle.readable_adjoints.proofs.Lines.{One, Site, scalar_target, fine_value, one_assignment, one_push, one_pop, one_open, one_close, one_zeroed, one_cleared, in_wider}
use Rattle.readable_adjoints.proofs.Fit.{GoodHead}

-- ---- in a row

pub record Row (n : ℕ) (inside : Bool) (ss : AdjointStatements) : Type 0 where
  pub readable : are_readable_adjoint_statements ss ≡ true
  pub levels : deepest_in_adjoints ss ≤ 255
  pub blocks : block_depth_of_adjoints ss ≤ n
  pub single : inside ≡ true → has_parallel_adjoints ss ≡ false

pub row_of : (n : ℕ) (inside : Bool) (ss : List AdjointStatement) → Every (One n inside) ss → Row n inside (adjoint_statements_of ss)
row_of n inside [] h = record { readable = refl; levels = omega arith; blocks = omega arith; single = λ _. refl }
row_of n inside (s ∷ ss) h =
    let one = h.0 in
    let rest = row_of n inside ss h.1 in
    let one_levels = one.levels in
    let one_blocks = one.blocks in
    let levels = rest.levels in
    let blocks = rest.blocks in
    record {
      readable = and_from (is_readable_adjoint_statement s) (are_readable_adjoint_statements (adjoint_statements_of ss)) one.readable rest.readable;
      levels = omega (arith, one_levels, levels);
      blocks = omega (arith, one_blocks, blocks);
      single = λ i. or_from (has_parallel_adjoint s) (has_parallel_adjoints (adjoint_statements_of ss)) (one.single i) (rest.single i);
    }

pub one_more_block : (n m : ℕ) (inside : Bool) → n ≤ m → (s : AdjointStatement) → One n inside s → One m inside s
one_more_block n m inside h s o = let blocks = o.blocks in record { readable = o.readable; levels = o.levels; blocks = omega (arith, blocks, h); single = o.single }

-- ---- bounds

lo_fine : (h : LoopHead) → GoodHead h → Fine 1 (lo h)
lo_fine h g = fine_value (lo_name h.number) (lo_variable h.number g.number)

hi_fine : (h : LoopHead) → GoodHead h → Fine 1 (hi h)
hi_fine h g = fine_value (hi_name h.number) (hi_variable h.number g.number)

by_fine : (h : LoopHead) → GoodHead h → Fine 1 (by h)
by_fine h g = fine_value (by_name h.number) (by_variable h.number g.number)

index_fine : (n : ℕ) → is_readable (literal n kind.Index) ≡ true → Fine 1 (literal n kind.Index)
index_fine n h = record { readable = h; levels = omega arith }

count_fine : (h : LoopHead) → GoodHead h → Fine 5 (count h)
count_fine h g =
    let span = fine_binary 1 op.Sub (hi h) (lo h) (hi_fine h g) (lo_fine h g) in
    let more = fine_binary 2 op.Add (binary op.Sub (hi h) (lo h)) (by h) span (fine_more 1 2 (by h) (omega arith) (by_fine h g)) in
    let turns = fine_binary 3 op.Div (binary op.Add (binary op.Sub (hi h) (lo h)) (by h)) (by h) more (fine_more 1 3 (by h) (omega arith) (by_fine h g)) in
    let l = turns.levels in
    record { readable = and_from (is_readable (binary op.Div (binary op.Add (binary op.Sub (hi h) (lo h)) (by h)) (by h))) true turns.readable refl; levels = omega (arith, l) }

last_fine : (h : LoopHead) → GoodHead h → Fine 8 (last_value h)
last_fine h g =
    let less = fine_binary 5 op.Sub (count h) (literal 1 kind.Index) (count_fine h g) (fine_more 1 5 (literal 1 kind.Index) (omega arith) (index_fine 1 refl)) in
    let far = fine_binary 6 op.Mul (binary op.Sub (count h) (literal 1 kind.Index)) (by h) less (fine_more 1 6 (by h) (omega arith) (by_fine h g)) in
    fine_binary 7 op.Add (lo h) (binary op.Mul (binary op.Sub (count h) (literal 1 kind.Index)) (by h)) (fine_more 1 7 (lo h) (omega arith) (lo_fine h g)) far

turn_fine : (h : LoopHead) → GoodHead h → Fine 3 (turn_number h)
turn_fine h g =
    fine_binary 2 op.Div (binary op.Sub (value h.var) (lo h)) (by h) (fine_binary 1 op.Sub (value h.var) (lo h) (fine_value h.var g.var) (lo_fine h g)) (fine_more 1 2 (by h) (omega arith) (by_fine h g))

total_fine : (h : LoopHead) (hs : List LoopHead) → GoodHead h → Every GoodHead hs → Fine (5 + length hs) (total h hs)
total_fine h [] g gs = count_fine h g
total_fine h (i ∷ hs) g gs =
    let all = fine_binary (5 + length hs) op.Mul (count h) (total i hs) (fine_more 5 (5 + length hs) (count h) (omega arith) (count_fine h g)) (total_fine i hs gs.0 gs.1) in
    fine_more (suc (5 + length hs)) (5 + length (i ∷ hs)) (total h (i ∷ hs)) (omega arith) all

number_fine : (h : LoopHead) (hs : List LoopHead) → GoodHead h → Every GoodHead hs → Fine (7 + length hs) (iteration_number h hs)
number_fine h [] g gs = fine_more 3 (7 + 0) (turn_number h) (omega arith) (turn_fine h g)
number_fine h (i ∷ hs) g gs =
    let outer = fine_binary (5 + length hs) op.Mul (turn_number h) (total i hs) (fine_more 3 (5 + length hs) (turn_number h) (omega arith) (turn_fine h g)) (total_fine i hs gs.0 gs.1) in
    let all = fine_binary (7 + length hs) op.Add (binary op.Mul (turn_number h) (total i hs)) (iteration_number i hs)
    (fine_more (suc (5 + length hs)) (7 + length hs) (binary op.Mul (turn_number h) (total i hs)) (omega arith) outer) (number_fine i hs gs.0 gs.1) in
    fine_more (suc (7 + length hs)) (7 + length (i ∷ hs)) (iteration_number h (i ∷ hs)) (omega arith) all

-- ---- around a loop

settings_good : (n : ℕ) (inside : Bool) (h : LoopHead) → GoodHead h → Every (One n inside) (settings h)
settings_good n inside h g = (
  one_assignment n inside h.line false (scalar (lo_name h.number)) (in_adjoint h.first) (scalar_target (lo_name h.number) (lo_variable h.number g.number)) (in_wider 64 h.first (omega arith) g.first),
  (
    one_assignment n inside h.line false (scalar (hi_name h.number)) (in_adjoint h.last) (scalar_target (hi_name h.number) (hi_variable h.number g.number)) (in_wider 64 h.last (omega arith) g.last),
    (
      one_assignment n inside h.line false (scalar (by_name h.number)) (in_adjoint (step_of h.step)) (scalar_target (by_name h.number) (by_variable h.number g.number)) (in_wider 64 (step_of h.step) (omega arith) g.step),
      tt,
    ),
  ),
)

pushes_good : (n : ℕ) (inside : Bool) (key : Expression) (h : LoopHead) → Fine 2 key → GoodHead h → Every (One n inside) (pushes key h)
pushes_good n inside key h k g = (
  one_push n inside h.line key (lo h) k (fine_more 1 255 (lo h) (omega arith) (lo_fine h g)),
  (
    one_push n inside h.line key (hi h) k (fine_more 1 255 (hi h) (omega arith) (hi_fine h g)),
    (one_push n inside h.line key (by h) k (fine_more 1 255 (by h) (omega arith) (by_fine h g)), tt),
  ),
)

pops_good : (n : ℕ) (inside : Bool) (key : Expression) (h : LoopHead) → Fine 2 key → GoodHead h → Every (One n inside) (pops key h)
pops_good n inside key h k g = (
  one_pop n inside h.line key (scalar (by_name h.number)) k (scalar_target (by_name h.number) (by_variable h.number g.number)),
  (
    one_pop n inside h.line key (scalar (hi_name h.number)) k (scalar_target (hi_name h.number) (hi_variable h.number g.number)),
    (one_pop n inside h.line key (scalar (lo_name h.number)) k (scalar_target (lo_name h.number) (lo_variable h.number g.number)), tt),
  ),
)

all_pops_good : (n : ℕ) (inside : Bool) (key : Expression) (hs : List LoopHead) → Fine 2 key → Every GoodHead hs → Every (One n inside) (all_pops key hs)
all_pops_good n inside key [] k gs = tt
all_pops_good n inside key (h ∷ hs) k gs = every_append (One n inside) (all_pops key hs) (pops key h) (all_pops_good n inside key hs k gs.1) (pops_good n inside key h k gs.0)

abbrev Wide : Expression → Type 0
Wide e = Fine 255 e

plain_loop : (n : ℕ) (inside : Bool) (h : LoopHead) (first last step : Expression) (body : List AdjointStatement) → GoodHead h → Wide first → Wide last → Wide step → Every (One n inside) body
    → One (suc n) inside (loop_over None h first last step body)
plain_loop n inside h first last step body g f l s e =
    let row = row_of n inside body e in
    let f_levels = f.levels in
    let l_levels = l.levels in
    let s_levels = s.levels in
    let levels = row.levels in
    let blocks = row.blocks in
    record {
      readable = and_from (is_variable h.var) _ g.var (and_from (is_readable first) _ f.readable (and_from (is_readable last) _ l.readable (and_from (is_readable step) _ s.readable row.readable)));
      levels = omega (arith, f_levels, l_levels, s_levels, levels);
      blocks = omega (arith, blocks);
      single = row.single;
    }

parallel_loop : (n : ℕ) (d : Directive) (h : LoopHead) (first last step : Expression) (body : List AdjointStatement) → has_readable_clauses d ≡ true → GoodHead h → Wide first → Wide last → Wide step
    → Every (One n true) body → One (suc n) false (loop_over (Some d) h first last step body)
parallel_loop n d h first last step body c g f l s e =
    let row = row_of n true body e in
    let f_levels = f.levels in
    let l_levels = l.levels in
    let s_levels = s.levels in
    let levels = row.levels in
    let blocks = row.blocks in
    record {
      readable = and_from (has_readable_clauses d) _ c (and_from (not (has_parallel_adjoints (adjoint_statements_of body))) _ (not_from_false (has_parallel_adjoints (adjoint_statements_of body)) (row.single refl))
          (and_from (is_variable h.var) _ g.var (and_from (is_readable first) _ f.readable (and_from (is_readable last) _ l.readable (and_from (is_readable step) _ s.readable row.readable)))));
      levels = omega (arith, f_levels, l_levels, s_levels, levels);
      blocks = omega (arith, blocks);
      single = λ i. absurd (let b : false ≡ true = i in cc);
    }

-- in how many blocks loops in each other stand
abbrev pub up : ℕ → List LoopHead → ℕ
up n [] = suc n
up n (h ∷ hs) = suc (up n hs)

wide_lo : (h : LoopHead) → GoodHead h → Wide (lo h)
wide_lo h g = fine_more 1 255 (lo h) (omega arith) (lo_fine h g)

wide_hi : (h : LoopHead) → GoodHead h → Wide (hi h)
wide_hi h g = fine_more 1 255 (hi h) (omega arith) (hi_fine h g)

wide_by : (h : LoopHead) → GoodHead h → Wide (by h)
wide_by h g = fine_more 1 255 (by h) (omega arith) (by_fine h g)

plain_around : (n : ℕ) (inside : Bool) (h : LoopHead) (hs : List LoopHead) (body : List AdjointStatement) → GoodHead h → Every GoodHead hs → Every (One n inside) body
    → One (up n hs) inside (loops_around None h hs body)
plain_around n inside h [] body g gs e = plain_loop n inside h (lo h) (hi h) (by h) body g (wide_lo h g) (wide_hi h g) (wide_by h g) e
plain_around n inside h (i ∷ hs) body g gs e =
    plain_loop (up n hs) inside h (lo h) (hi h) (by h) (loops_around None i hs body ∷ []) g (wide_lo h g) (wide_hi h g) (wide_by h g) (plain_around n inside i hs body gs.0 gs.1 e, tt)

parallel_around : (n : ℕ) (d : Directive) (h : LoopHead) (hs : List LoopHead) (body : List AdjointStatement) → has_readable_clauses d ≡ true → GoodHead h → Every GoodHead hs → Every (One n true) body
    → One (up n hs) false (loops_around (Some d) h hs body)
parallel_around n d h [] body c g gs e = parallel_loop n d h (lo h) (hi h) (by h) body c g (wide_lo h g) (wide_hi h g) (wide_by h g) e
parallel_around n d h (i ∷ hs) body c g gs e =
    parallel_loop (up n hs) d h (lo h) (hi h) (by h) (loops_around None i hs body ∷ []) c g (wide_lo h g) (wide_hi h g) (wide_by h g) (plain_around n true i hs body gs.0 gs.1 e, tt)

-- ---- iterations

-- the loops whose iterations a parallel loop's are, beside its own, and the statements of one
pub record Nested (m : ℕ) (hs : List LoopHead) (statements : List AdjointStatement) : Type 0 where
  pub n : ℕ
  pub heads : Every GoodHead hs
  pub short : length hs ≤ 1
  pub fits : up n hs ≤ suc m
  pub all : Every (One n true) statements

numbering_good : (n : ℕ) (h : LoopHead) (hs : List LoopHead) → GoodHead h → Every GoodHead hs → length hs ≤ 1 → One n true (numbering h hs)
numbering_good n h hs g gs s =
    one_assignment n true h.line false (scalar k_name) (in_adjoint (iteration_number h hs)) (scalar_target k_name refl)
    (in_wider (7 + length hs) (iteration_number h hs) (omega (arith, s)) (number_fine h hs g gs))

privates_variable : (scope : Scope) (var : List ℕ) (d : Directive) (body : Statements) → Names scope → Every IsVariable (private_scalars scope var d body)
privates_variable scope var d body N = every_filter IsVariable (λ x. is_private (sharing_in var d body x)) scope.declared N.variables

pushed_variable : (scope : Scope) (var : List ℕ) (d : Directive) (body : Statements) → Names scope → Every IsVariable (pushed_scalars scope var d body)
pushed_variable scope var d body N = every_filter IsVariable (λ x. assigns_in x body && scope.needed x) (private_scalars scope var d body) (privates_variable scope var d body N)

key_fine : Fine 2 (value k_name)
key_fine = record { readable = refl; levels = omega arith }

main_fine : Fine 2 main_tape
main_fine = record { readable = refl; levels = omega arith }

forward_iteration_good : (n : ℕ) (scope : Scope) (d : Directive) (h : LoopHead) (body : Statements) (statements : List AdjointStatement) → Names scope → GoodHead h → Every GoodHead (further_loops d body)
    → length (further_loops d body) ≤ 1 → Every (One n true) statements → Every (One n true) (forward_iteration scope d h body statements)
forward_iteration_good n scope d h body statements N g gs s e = (
  numbering_good n h (further_loops d body) g gs s,
  every_append (One n true) (map (zeroed scope h.line) (private_scalars scope h.var d body)) _
      (every_map (One n true) (zeroed scope h.line) (private_scalars scope h.var d body)
      (every_is IsVariable (λ x. One n true (zeroed scope h.line x)) (λ x v. one_zeroed n true scope h.line x v) (private_scalars scope h.var d body) (privates_variable scope h.var d body N)))
      (every_append (One n true) statements _ e
      (every_map (One n true) (λ x. push h.line (value k_name) (value x)) (pushed_scalars scope h.var d body)
      (every_is IsVariable (λ x. One n true (push h.line (value k_name) (value x))) (λ x v. one_push n true h.line (value k_name) (value x) key_fine (fine_more 1 255 (value x) (omega arith) (fine_value x v)))
      (pushed_scalars scope h.var d body) (pushed_variable scope h.var d body N)))),
)

backward_iteration_good : (n : ℕ) (scope : Scope) (d : Directive) (h : LoopHead) (body : Statements) (statements : List AdjointStatement) → Names scope → GoodHead h → Every GoodHead (further_loops d body)
    → length (further_loops d body) ≤ 1 → Every (One n true) statements → Every (One n true) (backward_iteration scope d h body statements)
backward_iteration_good n scope d h body statements N g gs s e = (
  numbering_good n h (further_loops d body) g gs s,
  every_append (One n true) (map (λ x. pop h.line (value k_name) (scalar x)) (reverse (pushed_scalars scope h.var d body))) _
      (every_map (One n true) (λ x. pop h.line (value k_name) (scalar x)) (reverse (pushed_scalars scope h.var d body))
      (every_is IsVariable (λ x. One n true (pop h.line (value k_name) (scalar x))) (λ x v. one_pop n true h.line (value k_name) (scalar x) key_fine (scalar_target x v))
      (reverse (pushed_scalars scope h.var d body)) (every_turned IsVariable (pushed_scalars scope h.var d body) (pushed_variable scope h.var d body N))))
      (every_append (One n true) (map (λ x. cleared h.line (scalar x)) (filter scope.active (private_scalars scope h.var d body))) statements
      (every_map (One n true) (λ x. cleared h.line (scalar x)) (filter scope.active (private_scalars scope h.var d body))
      (every_passing (λ x. One n true (cleared h.line (scalar x))) scope.active (private_scalars scope h.var d body)
      (every_is IsVariable (λ x. scope.active x ≡ true → One n true (cleared h.line (scalar x))) (λ x v on. one_cleared n true h.line (scalar x) (scalar_target x v) (N.own x on))
      (private_scalars scope h.var d body) (privates_variable scope h.var d body N)))) e),
)

-- ---- parallel loops

pub forward_parallel_good : (m : ℕ) (scope : Scope) (d : Directive) (h : LoopHead) (body : Statements) (statements : List AdjointStatement) → Names scope → GoodHead h
    → has_readable_clauses (forward_clauses scope h.var d body) ≡ true → Nested m (further_loops d body) statements → Every (One (suc m) false) (forward_parallel scope d h body statements)
forward_parallel_good m scope d h body statements N g c t =
    let hs = further_loops d body in
    let short = t.short in
    every_append (One (suc m) false) (all_settings (h ∷ hs)) _
    (every_flat (One (suc m) false) settings (h ∷ hs) (every_is GoodHead (λ i. Every (One (suc m) false) (settings i)) (λ i gi. settings_good (suc m) false i gi) (h ∷ hs) (g, t.heads))) (
      one_open (suc m) false h.line (total h hs) (fine_more (5 + length hs) 255 (total h hs) (omega (arith, short)) (total_fine h hs g t.heads)),
      (
        one_more_block (up t.n hs) (suc m) false t.fits _ (parallel_around t.n (forward_clauses scope h.var d body) h hs _ c g t.heads (forward_iteration_good t.n scope d h body statements N g t.heads t.short t.all)),
        (
          one_close (suc m) false h.line,
          every_flat (One (suc m) false) (pushes main_tape) (h ∷ hs) (every_is GoodHead (λ i. Every (One (suc m) false) (pushes main_tape i)) (λ i gi. pushes_good (suc m) false main_tape i main_fine gi) (h ∷ hs) (g, t.heads)),
        ),
      ),
    )

pub backward_parallel_good : (m : ℕ) (scope : Scope) (d : Directive) (h : LoopHead) (body : Statements) (statements : List AdjointStatement) → Names scope → GoodHead h
    → has_readable_clauses (backward_clauses scope h.number h.var d body) ≡ true → Nested m (further_loops d body) statements → Every (One (suc m) false) (backward_parallel scope d h body statements)
backward_parallel_good m scope d h body statements N g c t =
    let hs = further_loops d body in
    every_append (One (suc m) false) (all_pops main_tape (h ∷ hs)) _ (all_pops_good (suc m) false main_tape (h ∷ hs) main_fine (g, t.heads)) (
      one_open (suc m) false h.line main_tape (fine_more 2 255 main_tape (omega arith) main_fine),
      (
        one_more_block (up t.n hs) (suc m) false t.fits _ (parallel_around t.n (backward_clauses scope h.number h.var d body) h hs _ c g t.heads (backward_iteration_good t.n scope d h body statements N g t.heads t.short t.all)),
        (one_close (suc m) false h.line, tt),
      ),
    )

-- ---- sequential loops

pub forward_loop_good : (n : ℕ) (inside : Bool) (scope : Scope) (h : LoopHead) (statements : List AdjointStatement) → Site scope → GoodHead h → Every (One n inside) statements
    → Every (One (suc n) inside) (forward_loop scope h statements)
forward_loop_good n inside scope h statements S g e =
    every_append (One (suc n) inside) (settings h) (loop_over None h (lo h) (hi h) (by h) statements ∷ pushes scope.key h) (settings_good (suc n) inside h g)
    (plain_loop n inside h (lo h) (hi h) (by h) statements g (wide_lo h g) (wide_hi h g) (wide_by h g) e, pushes_good (suc n) inside scope.key h S.key g)

pub backward_loop_good : (n : ℕ) (inside : Bool) (scope : Scope) (h : LoopHead) (statements : List AdjointStatement) → Site scope → GoodHead h → Every (One n inside) statements
    → Every (One (suc n) inside) (backward_loop scope h statements)
backward_loop_good n inside scope h statements S g e =
    every_append (One (suc n) inside) (pops scope.key h) (loop_over None h (last_value h) (lo h) (minus (by h)) statements ∷ []) (pops_good (suc n) inside scope.key h S.key g) (
      plain_loop n inside h (last_value h) (lo h) (minus (by h)) statements g (fine_more 8 255 (last_value h) (omega arith) (last_fine h g)) (wide_lo h g)
          (fine_more 2 255 (minus (by h)) (omega arith) (fine_minus 1 (by h) (by_fine h g))) e,
      tt,
    )
