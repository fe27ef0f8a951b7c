-- The choices of all loops, and the calls that an expression is.
use Rattle.std.proofs.Common.{◌≡◌, ℕ, suc, ◌+◌, ◌<◌, drop, get_or, Bool, true, false, not, ◌&&◌, ◌==◌, if◌then◌else◌, bytes_eq, List, [], ◌∷◌, ◌++◌, filter, map, Option, Some, None, length, refl, ap, sym, ◌∙◌, rules, arith}
use Rattle.std.specs.List.{flat_map, AllByRecursion}
use Rattle.std.proofs.lemmas.List.Concat.{flat_map-append}
use Rattle.std.proofs.Math.Seq.{drop-cons}
use Rattle.fl_ast.specs.declared.kind.Fun.{Fun}
use Rattle.fl_ast.specs.declared.decl.Decl.{Decl}
use Rattle.fl_ast.specs.declared.directive.Directive.{Directive}
use Rattle.fl_ast.specs.declared.expr.Expr.{Expr, the_lemmas as expr_lemmas}
use Rattle.fl_ast.specs.declared.expr.Expr.TheVariants.{Call}
use Rattle.fl_ast.specs.declared.stmt.Program.{Program}
use Rattle.fl_ast.specs.declared.stmt.Stmt.{Stmt}
use Rattle.fl_ast.specs.Readable.{number_of}
use Rattle.fl_ast.specs.Tree.{call, expr_tree, expr_trees, Statement, assignment, branch, loop, Statements, no_statements, statement, Arms, no_arms, arm, stmt_trees}
use Rattle.fl_types.specs.declared.choice.Chosen.{Chosen}
use Rattle.fl_types.specs.declared.choice.NameSet.{NameSet}
use Rattle.fl_types.specs.Sharing.{sharing_in, ParallelLoop, loops_of, loops_of_all, loops_of_arms, has_name, is_ring_name}
use Rattle.adjoint_rules.specs.Needed.{Kinds, kinds_of}
use Rattle.adjoint_choices.specs.Choosing.{grows_in, has_a_choice, chosen_for, choices_for, is_before, put_in, in_order, active_names, choices_of}
use Rattle.adjoint_choices.specs.Walked.{is_followed, any_carries, carries, carried_in, Setting, choices_at, choices_in, choices_in_all, choices_in_arms}
use Rattle.adjoint_choices.proofs.Growing.{walked_is}

-- ---- calls

call_of : (e : Expr) (f : Fun) (es xs : List Expr) → e ≡ Call f es → xs ≡ es → expr_tree e ≡ call f (expr_trees xs)
call_of e f es xs h g = ap expr_tree h ∙ (rw g (search (rules, expr_lemmas)))

length_is : (es : List Expr) → number_of (expr_trees es) ≡ length es
length_is [] = refl
length_is (e ∷ es) = let more : 1 + number_of (expr_trees es) ≡ suc (length es) = omega (arith, length_is es) in more

pub not_followed : (x : List ℕ) (e : Expr) (f : Fun) (es xs : List Expr) → e ≡ Call f es → xs ≡ es → is_followed f (length xs) ≡ false → false ≡ carries x (expr_tree e)
not_followed x e f es xs h g t =
    ap (λ b. if b then any_carries x (expr_trees xs) else false) (sym t ∙ ap (is_followed f) (sym (length_is xs))) ∙ ap (carries x) (sym (call_of e f es xs h g))

pub followed : (x : List ℕ) (e : Expr) (f : Fun) (es xs : List Expr) (b : Bool) → e ≡ Call f es → xs ≡ es → is_followed f (length xs) ≡ true → b ≡ any_carries x (expr_trees xs) → b ≡ carries x (expr_tree e)
followed x e f es xs b h g t r =
    r ∙ (ap (λ c. if c then any_carries x (expr_trees xs) else false) (sym t ∙ ap (is_followed f) (sym (length_is xs))) ∙ ap (carries x) (sym (call_of e f es xs h g)))

-- ---- names in order are the active ones

all_put : (P : List ℕ → Type 0) (x : List ℕ) (ys : List (List ℕ)) → P x → AllByRecursion P ys → AllByRecursion P (put_in x ys)
all_put P x [] p a = (p, tt)
all_put P x (y ∷ ys) p a = by_test (is_before x y) (all_put P x ys p a.1)
  where
    by_test : (b : Bool) → AllByRecursion P (put_in x ys) → AllByRecursion P (if b then x ∷ y ∷ ys else y ∷ put_in x ys)
    by_test true r = (p, a)
    by_test false r = (a.0, r)

all_in_order : (P : List ℕ → Type 0) (xs : List (List ℕ)) → AllByRecursion P xs → AllByRecursion P (in_order xs)
all_in_order P [] a = tt
all_in_order P (x ∷ xs) a = all_put P x (in_order xs) a.0 (all_in_order P xs a.1)

all_kept : (p : List ℕ → Bool) (xs : List (List ℕ)) → AllByRecursion (λ x. p x ≡ true) (filter p xs)
all_kept p [] = tt
all_kept p (x ∷ xs) = by_test (p x) refl (all_kept p xs)
  where
    by_test : (b : Bool) → p x ≡ b → AllByRecursion (λ y. p y ≡ true) (filter p xs) → AllByRecursion (λ y. p y ≡ true) (if b then x ∷ filter p xs else filter p xs)
    by_test true e r = (e, r)
    by_test false e r = r

all_active : (decls : List Decl) (active : List ℕ → Bool) → AllByRecursion (λ x. active x ≡ true) (active_names decls active)
all_active decls active = all_in_order (λ x. active x ≡ true) (filter active (map (λ (d : Decl). d.name) decls)) (all_kept active (map (λ (d : Decl). d.name) decls))

-- ---- loops

in_loop : (s : Setting) (outer : List (List ℕ)) (line number : ℕ) (var : List ℕ) (directive : Directive) (body : Statements) (xs : List (List ℕ)) → AllByRecursion (λ x. s.kinds.active x ≡ true) xs
    → flat_map (choices_at s number var directive body) xs ≡ flat_map (choices_for s.decls s.kinds (record { line = line; number = number; outer = outer; directive = directive; var = var; body = body })) xs
in_loop s outer line number var directive body [] a = refl
in_loop s outer line number var directive body (x ∷ xs) a =
    ap (λ b. (if has_a_choice (sharing_in var directive body x) && b then chosen_for s.decls number body x ∷ [] else []) ++ flat_map (choices_at s number var directive body) xs) (sym (walked_is s.kinds x a.0 body))
    ∙ ap (λ r. choices_for s.decls s.kinds (record { line = line; number = number; outer = outer; directive = directive; var = var; body = body }) x ++ r) (in_loop s outer line number var directive body xs a.1)

-- of a list of loops
abbrev over : Setting → List ParallelLoop → List Chosen
over s loops = flat_map (λ l. flat_map (choices_for s.decls s.kinds l) s.names) loops

two_lists : (s : Setting) (a b : List Chosen) (l m : List ParallelLoop) → a ≡ over s l → b ≡ over s m → a ++ b ≡ over s (l ++ m)
two_lists s a b l m p q = ap (λ r. r ++ b) p ∙ (ap (λ r. over s l ++ r) q ∙ sym (flat_map-append (λ n. flat_map (choices_for s.decls s.kinds n) s.names) l m))

module _ (s : Setting) (on : AllByRecursion (λ x. s.kinds.active x ≡ true) s.names) where
  mutual
    loop_is : (outer : List (List ℕ)) (t : Statement) → choices_in s t ≡ over s (loops_of outer t)
    loop_is outer (assignment line atomic target value) = refl
    loop_is outer (branch line arms other) =
        two_lists s (choices_in_arms s arms) (choices_in_all s other) (loops_of_arms outer arms) (loops_of_all outer other) (arms_are outer arms) (loops_are outer other)
    loop_is outer (loop line number None var first last step body) = loops_are (var ∷ outer) body
    loop_is outer (loop line number (Some directive) var first last step body) =
        ap (λ r. r ++ choices_in_all s body) (in_loop s outer line number var directive body s.names on)
        ∙ ap (λ r. flat_map (choices_for s.decls s.kinds (record { line = line; number = number; outer = outer; directive = directive; var = var; body = body })) s.names ++ r) (loops_are (var ∷ outer) body)

    loops_are : (outer : List (List ℕ)) (ts : Statements) → choices_in_all s ts ≡ over s (loops_of_all outer ts)
    loops_are outer no_statements = refl
    loops_are outer (statement t ts) = two_lists s (choices_in s t) (choices_in_all s ts) (loops_of outer t) (loops_of_all outer ts) (loop_is outer t) (loops_are outer ts)

    arms_are : (outer : List (List ℕ)) (arms : Arms) → choices_in_arms s arms ≡ over s (loops_of_arms outer arms)
    arms_are outer no_arms = refl
    arms_are outer (arm test body arms) =
        two_lists s (choices_in_all s body) (choices_in_arms s arms) (loops_of_all outer body) (loops_of_arms outer arms) (loops_are outer body) (arms_are outer arms)

-- of a program
abbrev pub setting_for : Program → (List ℕ → Bool) → Setting
setting_for p active = record { decls = p.decls; kinds = kinds_of p active; names = active_names p.decls active }

pub choices_are : (p : Program) (active : List ℕ → Bool) → choices_in_all (setting_for p active) (stmt_trees p.body) ≡ choices_of p active
unfolding choices_of
choices_are p active = loops_are (setting_for p active) (all_active p.decls active) [] (stmt_trees p.body)

-- the choices from what the code goes by
pub whole : (p : Program) (active : NameSet) (ds es : List Decl) (items names : List (List ℕ)) (body : List Stmt) (old entries : List Chosen)
    → ds ≡ p.decls → items ≡ active_names ds (λ x. has_name x active.names) → names ≡ items → es ≡ p.decls → body ≡ p.body → old ≡ []
    → entries ≡ old ++ choices_in_all (record { decls = es; kinds = record { active = λ x. has_name x active.names; ring = is_ring_name es }; names = names }) (stmt_trees body)
    → entries ≡ choices_of p (λ x. has_name x active.names)
whole p active ds es items names body old entries d i n f b o e =
    let in_names : names ≡ active_names p.decls (λ x. has_name x active.names) = n ∙ (i ∙ ap (λ l. active_names l (λ x. has_name x active.names)) d) in
    e ∙ (ap (λ l. l ++ choices_in_all (record { decls = es; kinds = record { active = λ x. has_name x active.names; ring = is_ring_name es }; names = names }) (stmt_trees body)) o
    ∙ (ap (λ l. choices_in_all (record { decls = l; kinds = record { active = λ x. has_name x active.names; ring = is_ring_name l }; names = names }) (stmt_trees body)) f
    ∙ (ap (λ l. choices_in_all (record { decls = p.decls; kinds = record { active = λ x. has_name x active.names; ring = is_ring_name p.decls }; names = l }) (stmt_trees body)) in_names
    ∙ (ap (λ l. choices_in_all (setting_for p (λ x. has_name x active.names)) (stmt_trees l)) b ∙ choices_are p (λ x. has_name x active.names)))))

-- ---- the order of names

-- one declaration more, before those so far
pub one_more : (active : List ℕ → Bool) (ds : List Decl) (i j : ℕ) (d : Decl) (t : Bool) (old new : List (List ℕ)) → i < length ds → suc i ≡ j
    → t ≡ active (get_or ds i d).name → t ≡ true → new ≡ put_in (get_or ds i d).name old → old ≡ active_names (drop j ds) active → new ≡ active_names (drop i ds) active
one_more active ds i j d t old new h s told is e inv =
    let on : active (get_or ds i d).name ≡ true = sym told ∙ is in
    let whole_list : drop i ds ≡ get_or ds i d ∷ drop j ds = drop-cons ds i d h ∙ ap (λ k. get_or ds i d ∷ drop k ds) s in
    let kept : active_names (get_or ds i d ∷ drop j ds) active ≡ put_in (get_or ds i d).name (active_names (drop j ds) active) =
    ap (λ b. in_order (if b then (get_or ds i d).name ∷ filter active (map (λ (c : Decl). c.name) (drop j ds)) else filter active (map (λ (c : Decl). c.name) (drop j ds)))) on in
    e ∙ (ap (put_in (get_or ds i d).name) inv ∙ (sym kept ∙ ap (λ l. active_names l active) (sym whole_list)))
