-- The classes by sets of names are those of the loop.
use Rattle.std.proofs.Common.{◌≡◌, ℕ, Bool, not, ◌&&◌, ◌||◌, if◌then◌else◌, List, ap, ◌∙◌}
use Rattle.std.specs.Prelude.{bytes_eq}
use Rattle.fl_ast.specs.declared.decl.Decl.{Decl}
use Rattle.fl_types.specs.declared.sharing.Sharing.{Sharing}
use Rattle.fl_types.specs.declared.sharing.Sharing.TheVariants.{Shared, Private, First, Plus, LoopVar}
use Rattle.fl_types.specs.Sharing.{has_name, varies_in, sharing_in, is_accessed, is_plus, is_ring_name, ParallelLoop, makes_accesses}
use Rattle.fl_types.specs.Accesses.{scope_of}
use Rattle.loop_accesses.specs.declared.classes.LoopNames.{LoopNames}
use Rattle.loop_accesses.specs.Classes.{class_by, scope_by}

same_functions : {A : Type 0} {B : Type 0} {f g : A → B} → ((x : A) → f x ≡ g x) → f ≡ g
same_functions h = λ i x. h x i

abbrev chosen : (v p f r : Bool) → Sharing
chosen v p f r = if v then LoopVar else if p then Private else if f then First else if r then Plus else Shared

same_class : (n : LoopNames) (l : ParallelLoop) → ((x : List ℕ) → has_name x n.variables ≡ (bytes_eq x l.var || varies_in x l.body)) →
    ((x : List ℕ) → has_name x n.privates ≡ has_name x l.directive.privates) → ((x : List ℕ) → has_name x n.firsts ≡ has_name x l.directive.firsts) →
    ((x : List ℕ) → has_name x n.pluses ≡ has_name x l.directive.pluses) → (x : List ℕ) → class_by n x ≡ sharing_in l.var l.directive l.body x
same_class n l v p f r x =
    ap (λ b. chosen b (has_name x n.privates) (has_name x n.firsts) (has_name x n.pluses)) (v x)
    ∙ ap (λ b. chosen (bytes_eq x l.var || varies_in x l.body) b (has_name x n.firsts) (has_name x n.pluses)) (p x)
    ∙ ap (λ b. chosen (bytes_eq x l.var || varies_in x l.body) (has_name x l.directive.privates) b (has_name x n.pluses)) (f x)
    ∙ ap (λ b. chosen (bytes_eq x l.var || varies_in x l.body) (has_name x l.directive.privates) (has_name x l.directive.firsts) b) (r x)

pub scope_is : (n : LoopNames) (decls : List Decl) (l : ParallelLoop) → n.indexed.now.decls ≡ decls → ((x : List ℕ) → has_name x n.outer ≡ has_name x l.outer) →
    ((x : List ℕ) → has_name x n.variables ≡ (bytes_eq x l.var || varies_in x l.body)) →
    ((x : List ℕ) → has_name x n.privates ≡ has_name x l.directive.privates) → ((x : List ℕ) → has_name x n.firsts ≡ has_name x l.directive.firsts) →
    ((x : List ℕ) → has_name x n.pluses ≡ has_name x l.directive.pluses) → scope_by n ≡ scope_of decls l
scope_is n decls l d o v p f r =
    let c = same_class n l v p f r in
    ap (λ (a : List ℕ → Bool). record { accessed = a; pluses = (scope_by n).pluses; ring = (scope_by n).ring })
    (same_functions (λ (x : List ℕ). ap (λ b. not b && is_accessed (class_by n x)) (o x) ∙ ap (λ k. not (has_name x l.outer) && is_accessed k) (c x)))
    ∙ ap (λ (a : List ℕ → Bool). record { accessed = makes_accesses l.outer l.var l.directive l.body; pluses = a; ring = (scope_by n).ring }) (same_functions (λ (x : List ℕ). ap is_plus (c x)))
    ∙ ap (λ (ds : List Decl). record { accessed = makes_accesses l.outer l.var l.directive l.body; pluses = λ x. is_plus (sharing_in l.var l.directive l.body x); ring = is_ring_name ds }) d
