-- What a run of statements answers is what a program's run at its entry comes to.
use Rattle.std.specs.Prelude.{◌≡◌, ℕ, ◌+◌, ◌-◌, ◌≤◌, Bool, List, Result, Ok, Err, refl}
use Rattle.std.proofs.Common.{ap, sym, ◌∙◌, subst, arith}
use Rattle.fl_ast.specs.declared.decl.Decl.{Decl}
use Rattle.fl_ast.specs.Tree.{Statements}
use Rattle.store_core.specs.declared.layout.Shape.{Shape}
use Rattle.meaning.specs.declared.value.TrapAt.{TrapAt}
use Rattle.meaning.specs.Logs.{Traced}
use Rattle.meaning.specs.Sites.{Cells, opening_site}
use Rattle.meaning.specs.Statements.{run_all}
use Rattle.meaning.proofs.TrapProofs.{traps_told}
use Rattle.resolved.specs.SlotTables.{Names, table_site, names_of}
use Rattle.dual_meaning.specs.declared.statements.RunStop.{RunStop}
use Rattle.dual_meaning.specs.declared.statements.RunStop.TheVariants as stop
use Rattle.dual_meaning.specs.Counted.{Counted, counted, counted_all, EndsAs}
use Rattle.dual_meaning.specs.Running.{Ran, over_by}
use Rattle.dual_meaning.specs.Runs.{Stops, Ends, ticks_of}
use Rattle.dual_meaning.proofs.Names.{ring_by_names}
use Rattle.dual_meaning.proofs.Counting.{Same, run_all_counted}
use Rattle.dual_meaning.proofs.Stopping.{ends_as, counted_le}

opening_same : (es : List Shape) (ds : List Decl) (pushed : List ℕ → Bool) → Same (opening_site ds es pushed) (table_site (names_of es ds))
opening_same es ds pushed = record { alike = record { keys = refl; width = refl; ring = λ x. sym (ring_by_names es ds x) }; declared = refl }

rose : (before after left n : ℕ) (more : ℕ) → after + left ≡ (before + 16777216) + more → left ≤ 16777216 → n ≡ (16777216 - left) + more → after ≡ before + n
rose before after left n more e l h =
    let z : (16777216 - left) + left ≡ 16777216 = omega (arith, l) in omega (arith, e, h, z)

-- by how the run of statements ended
pub ended_so : (t : Traced TrapAt Cells) (r : Result (Unit {0}) RunStop) (cells : Cells) (left before after : ℕ) → EndsAs t (counted t 16777216) → (counted t 16777216).1 ≤ 16777216
    → Ran r cells left (counted t 16777216) → after + left ≡ (before + 16777216) + over_by r → (e : RunStop) → r ≡ Err e → Stops t e before after
ended_so t r cells left before after a l h k (stop.Trap x) q =
    let P : Result (Unit {0}) RunStop → Type 0 = λ y. Ran y cells left (counted t 16777216) in
    let c : counted t 16777216 ≡ _ = subst P q h in
    let E : Counted Cells → Type 0 = EndsAs t in
    let b = subst E c a in
    (b.0, rose before after left (ticks_of t) 0 (k ∙ ap (λ y. (before + 16777216) + over_by {A = Unit {0}} y) q) (subst (λ y. y.1 ≤ 16777216) c l) b.1)
ended_so t r cells left before after a l h k stop.Statements q =
    let P : Result (Unit {0}) RunStop → Type 0 = λ y. Ran y cells left (counted t 16777216) in
    let c : counted t 16777216 ≡ _ = subst P q h in
    let E : Counted Cells → Type 0 = EndsAs t in
    let b = subst E c a in
    (b.0, rose before after left (ticks_of t) 1 (k ∙ ap (λ y. (before + 16777216) + over_by {A = Unit {0}} y) q) (subst (λ y. y.1 ≤ 16777216) c l) b.1)
ended_so t r cells left before after a l h k stop.Memory q = tt

pub ended_well : {T : Type 0} (view : T → Cells) (end : T) (t : Traced TrapAt Cells) (left before after : ℕ) → EndsAs t (counted t 16777216) → (counted t 16777216).1 ≤ 16777216
    → counted t 16777216 ≡ (Ok (view end), left) → after + left ≡ (before + 16777216) + 0 → Ends view t (Ok end) before after
ended_well view end t left before after a l c k =
    let E : Counted Cells → Type 0 = EndsAs t in
    let b = subst E c a in
    (b.0, b.1, rose before after left (ticks_of t) 0 k (subst (λ y. y.1 ≤ 16777216) c l) (let z = b.2 in omega (arith, z)))

-- a run at the entry, as the table has it
pub entry_counts : (es : List Shape) (ds : List Decl) (pushed : List ℕ → Bool) (body : Statements) (cells : Cells) → counted (run_all body (opening_site ds es pushed) cells) 16777216 ≡ counted_all body (table_site (names_of es ds)) cells 16777216
entry_counts es ds pushed body cells = run_all_counted body (opening_site ds es pushed) (table_site (names_of es ds)) (opening_same es ds pushed) cells 16777216

pub entry_ends : (es : List Shape) (ds : List Decl) (pushed : List ℕ → Bool) (body : Statements) (cells : Cells) → EndsAs (run_all body (opening_site ds es pushed) cells) (counted (run_all body (opening_site ds es pushed) cells) 16777216)
entry_ends es ds pushed body cells = ends_as (run_all body (opening_site ds es pushed) cells) (traps_told body (opening_site ds es pushed) cells)

-- the same of a table and resolved statements
pub entry_is : (es : List Shape) (ds : List Decl) (pushed : List ℕ → Bool) (body : Statements) (cells : Cells) (names : Names) (tree : Statements) → names ≡ names_of es ds → tree ≡ body
    → counted (run_all body (opening_site ds es pushed) cells) 16777216 ≡ counted_all tree (table_site names) cells 16777216
entry_is es ds pushed body cells names tree n t =
    entry_counts es ds pushed body cells ∙ ap (λ b. counted_all b (table_site (names_of es ds)) cells 16777216) (sym t) ∙ ap (λ m. counted_all tree (table_site m) cells 16777216) (sym n)

pub program_well : {T : Type 0} (view : T → Cells) (end : T) (es : List Shape) (ds : List Decl) (pushed : List ℕ → Bool) (body : Statements) (cells : Cells) (names : Names) (tree : Statements) (left before after : ℕ)
    → names ≡ names_of es ds → tree ≡ body → counted_all tree (table_site names) cells 16777216 ≡ (Ok (view end), left) → after + left ≡ (before + 16777216) + 0
    → Ends view (run_all body (opening_site ds es pushed) cells) (Ok end) before after
program_well view end es ds pushed body cells names tree left before after n t r k =
    ended_well view end (run_all body (opening_site ds es pushed) cells) left before after (entry_ends es ds pushed body cells) (counted_le (run_all body (opening_site ds es pushed) cells) 16777216)
    (entry_is es ds pushed body cells names tree n t ∙ r) k

pub program_stops : (e : RunStop) (es : List Shape) (ds : List Decl) (pushed : List ℕ → Bool) (body : Statements) (cells end : Cells) (names : Names) (tree : Statements) (left before after : ℕ)
    → names ≡ names_of es ds → tree ≡ body → Ran {A = Unit {0}} (Err e) end left (counted_all tree (table_site names) cells 16777216) → after + left ≡ (before + 16777216) + over_by {A = Unit {0}} (Err e)
    → Stops (run_all body (opening_site ds es pushed) cells) e before after
program_stops e es ds pushed body cells end names tree left before after n t r k =
    let u : Traced TrapAt Cells = run_all body (opening_site ds es pushed) cells in
    let P : Counted Cells → Type 0 = Ran {A = Unit {0}} (Err e) end left in
    ended_so u (Err e) end left before after (entry_ends es ds pushed body cells) (counted_le u 16777216) (subst P (sym (entry_is es ds pushed body cells names tree n t)) r) k e refl
