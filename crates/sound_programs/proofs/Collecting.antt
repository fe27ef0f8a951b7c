-- The choices that are made where nothing is known of which iterations meet fit: an adjoint that is collected is that of a scalar with a place.
use Rattle.std.proofs.Common.{◌≡◌, inl, inr, ℕ, Bool, true, false, not, ◌&&◌, ◌||◌, if◌then◌else◌, bytes_eq, nat_eq, List, [], ◌∷◌, ◌++◌, flat_map, Option, Some, None, refl, sym, subst, ◌∙◌, arith}
use Rattle.std.specs.List.{list_any}
use Rattle.std.proofs.lemmas.Bool.{and_parts, or_parts, or_from, or_left, or_right}
use Rattle.std.proofs.lemmas.Bool.Decides.{nat_tests}
use Rattle.std.proofs.lemmas.List.Folds.{list_any-append}
use Rattle.fl_ast.specs.declared.decl.Decl.{Decl}
use Rattle.fl_ast.specs.declared.stmt.Program.{Program}
use Rattle.fl_ast.specs.Readable.{has_arm, has_parallel, has_parallel_in, has_parallel_in_arms, is_readable_condition, is_readable_statement, are_readable_statements, are_readable_arms}
use Rattle.fl_ast.specs.Tree.{Expression, Statement, assignment, branch, loop, Statements, no_statements, statement, Arms, no_arms, arm, stmt_trees}
use Rattle.fl_types.specs.declared.choice.Choice.TheVariants.{Shared, Atomic, Reduction}
use Rattle.fl_types.specs.declared.choice.Chosen.{Chosen}
use Rattle.fl_types.specs.declared.sharing.Sharing.TheVariants as class
use Rattle.fl_types.specs.Increment.{Signed, increment_terms}
use Rattle.fl_types.specs.Sharing.{has_name, varies, varies_in, varies_in_arms, assigns_in, sharing_in, ParallelLoop, loops_of, loops_of_all, loops_of_arms}
use Rattle.fl_types.specs.Mentions as m
use Rattle.fl_types.specs.Mentions.{Region, Surroundings}
use Rattle.fl_types.specs.Rows.{is_varying, is_private_name, is_own_in}
use Rattle.reachability.specs.Reached.{IsAmong}
use Rattle.adjoint_rules.specs.Needed.{Kinds, kinds_of, names_in}
use Rattle.adjoint_rules.specs.Occurrences.{Occurrence, assignment_occurrences}
use Rattle.adjoint_rules.specs.Scopes.{is_reduction, has_choice}
use Rattle.adjoint_choices.specs.Choosing.{is_of, grows, grows_in, grows_in_arms, is_scalar_name, has_a_choice, choice_of, chosen_for, choices_for, active_names, choices_of}
use Rattle.adjoint_sets.specs.Names.{is_active}
use Rattle.transposition.specs.Worlds.{is_one_step}
use Rattle.typing.proofs.Faultless.{Clean, apart}
use Rattle.loop_choices.specs.Choosing.{is_shared, choice_in}
use Rattle.sound_programs.specs.Uses.{is_own, AreFitting}
use Rattle.sound_programs.specs.Accepted.{IsAccepted, made_choices, MadeChoicesFit, ParallelLoopsFit}
use Rattle.sound_programs.proofs.Lists.{at_test, never, fails, no_not, not_yes, or_to, same_name, Each, each_left, each_right}
use Rattle.sound_programs.proofs.NameReads.{Parts, OfIncrement, increment_parts}
use Rattle.sound_programs.proofs.Spreads.{EachPlace, places_of, rest_places}
use Rattle.sound_programs.proofs.Mentioned.{IsUsable, assignment_clean}
use Rattle.sound_programs.proofs.Setups.{private_all}
use Rattle.sound_programs.proofs.Trees.{loop_clean, flat_all}
use Rattle.sound_programs.proofs.Assigning.{term_names}
use Rattle.sound_programs.proofs.Stating.{loop_readable}
use Rattle.sound_programs.proofs.LoopNumbers.{either_among, one_loop}
use Rattle.sound_programs.proofs.Programs.{body_clean, clean_body, active_whole}

-- ---- where a loop stands

-- a parallel loop's statements, in what stands around them
record Standing (p : Program) (l : ParallelLoop) : Type 0 where
  pub around : Surroundings
  pub region : around.parallel ≡ Some (record { directive = l.directive; var = l.var; body = l.body })
  pub clean : Clean p (m.in_statements around l.body)
  pub flat : has_parallel_in l.body ≡ false
  pub known : (y : List ℕ) → has_name y around.vars ≡ true → is_varying p y ≡ true
  pub inner : (y : List ℕ) → varies_in y l.body ≡ true → is_varying p y ≡ true

-- variables around a part, and those in it, vary
abbrev Vary : Program → (List ℕ → Bool) → Type 0
Vary p test = (y : List ℕ) → test y ≡ true → is_varying p y ≡ true

vary_with : (p : Program) (var : List ℕ) (vars : List (List ℕ)) (inside : List ℕ → Bool) → Vary p (λ y. has_name y vars)
    → Vary p (λ y. bytes_eq y var || inside y) → Vary p (λ y. has_name y (var ∷ vars))
vary_with p var vars inside h k y g = or_to (bytes_eq y var) (has_name y vars) (λ e. k y (or_left (bytes_eq y var) (inside y) e)) (h y) g

mutual
  stands_one : (p : Program) (s : Surroundings) (a : Statement) → Clean p (m.in_statement s a) → is_readable_statement a ≡ true
      → Vary p (λ y. has_name y s.vars) → Vary p (λ y. varies y a) → (l : ParallelLoop) → IsAmong (loops_of s.vars a) l → Standing p l
  stands_one p s (assignment line atomic t e) c r v w l i = absurd i
  stands_one p s (branch line arms other) c r v w l i =
      let q = apart p (m.in_arms s line arms) (m.in_statements s other) c in
      let k = and_parts (are_readable_arms arms) (are_readable_statements other)
      (and_parts (has_arm arms) (are_readable_arms arms && are_readable_statements other) r).1 in
      elim (either_among (loops_of_arms s.vars arms) (loops_of_all s.vars other) l i) [
        | inl g ↦ stands_arms p s line arms q.0 k.0 v (λ y n. w y (or_left (varies_in_arms y arms) (varies_in y other) n)) l g
        | inr g ↦ stands_all p s other q.1 k.1 v (λ y n. w y (or_right (varies_in_arms y arms) (varies_in y other) n)) l g
      ]
  stands_one p s (loop line number None var first last step body) c r v w l i =
      stands_all p (m.at_body s var None) body (loop_clean p s line number None var first last step body c).inside
      (loop_readable None var first last step body r).inside (vary_with p var s.vars (λ y. varies_in y body) v w)
      (λ y n. w y (or_right (bytes_eq y var) (varies_in y body) n)) l i
  stands_one p s (loop line number (Some d) var first last step body) c r v w l (inl e) =
      subst (Standing p) e (record {
        around = m.at_body s var (m.made_parallel (Some d) var body);
        region = refl;
        clean = (loop_clean p s line number (Some d) var first last step body c).inside;
        flat = not_yes (has_parallel_in body) (loop_readable (Some d) var first last step body r).alone;
        known = vary_with p var s.vars (λ y. varies_in y body) v w;
        inner = λ y n. w y (or_right (bytes_eq y var) (varies_in y body) n);
      })
  stands_one p s (loop line number (Some d) var first last step body) c r v w l (inr i) =
      stands_all p (m.at_body s var (m.made_parallel (Some d) var body)) body
      (loop_clean p s line number (Some d) var first last step body c).inside (loop_readable (Some d) var first last step body r).inside
      (vary_with p var s.vars (λ y. varies_in y body) v w) (λ y n. w y (or_right (bytes_eq y var) (varies_in y body) n)) l i

  stands_all : (p : Program) (s : Surroundings) (ss : Statements) → Clean p (m.in_statements s ss) → are_readable_statements ss ≡ true
      → Vary p (λ y. has_name y s.vars) → Vary p (λ y. varies_in y ss) → (l : ParallelLoop) → IsAmong (loops_of_all s.vars ss) l → Standing p l
  stands_all p s no_statements c r v w l i = absurd i
  stands_all p s (statement a ss) c r v w l i =
      let q = apart p (m.in_statement s a) (m.in_statements s ss) c in
      let k = and_parts (is_readable_statement a) (are_readable_statements ss) r in
      elim (either_among (loops_of s.vars a) (loops_of_all s.vars ss) l i) [
        | inl g ↦ stands_one p s a q.0 k.0 v (λ y n. w y (or_left (varies y a) (varies_in y ss) n)) l g
        | inr g ↦ stands_all p s ss q.1 k.1 v (λ y n. w y (or_right (varies y a) (varies_in y ss) n)) l g
      ]

  stands_arms : (p : Program) (s : Surroundings) (line : ℕ) (arms : Arms) → Clean p (m.in_arms s line arms) → are_readable_arms arms ≡ true
      → Vary p (λ y. has_name y s.vars) → Vary p (λ y. varies_in_arms y arms) → (l : ParallelLoop) → IsAmong (loops_of_arms s.vars arms) l
      → Standing p l
  stands_arms p s line no_arms c r v w l i = absurd i
  stands_arms p s line (arm test body arms) c r v w l i =
      let q = apart p (m.in_statements s body) (m.in_arms s line arms)
      (apart p (m.in_condition (m.at_line s line) test) (m.in_statements s body ++ m.in_arms s line arms) c).1 in
      let k = and_parts (are_readable_statements body) (are_readable_arms arms)
      (and_parts (is_readable_condition test) (are_readable_statements body && are_readable_arms arms) r).1 in
      elim (either_among (loops_of_all s.vars body) (loops_of_arms s.vars arms) l i) [
        | inl g ↦ stands_all p s body q.0 k.0 v (λ y n. w y (or_left (varies_in y body) (varies_in_arms y arms) n)) l g
        | inr g ↦ stands_arms p s line arms q.1 k.1 v (λ y n. w y (or_right (varies_in y body) (varies_in_arms y arms) n)) l g
      ]

-- ---- a name whose adjoint is incremented is used

some_place : (P : List ℕ → Type 0) (x : List ℕ) (os : List Occurrence) → EachPlace P os → list_any (is_of x) os ≡ true → P x
some_place P x [] h g = never false g refl
some_place P x (o ∷ os) h g = or_to (bytes_eq x o.place.name) (list_any (is_of x) os) (λ e. subst P (sym (same_name x o.place.name e)) h.0)
    (λ e. some_place P x os h.1 e) g

names_parts : (P : List ℕ → Type 0) → Parts (λ e. Each P (names_in e))
names_parts P o a b h = (each_left P (names_in a) (names_in b) h, each_right P (names_in a) (names_in b) h)

assigned_places : (P : List ℕ → Type 0) (on : List ℕ → Bool) (ring : List ℕ → Bool) (x : List ℕ) (e : Expression) (o : Option (List Signed))
    → Each P (names_in e) → OfIncrement (λ a. Each P (names_in a)) ring x o → EachPlace P (assignment_occurrences on e o)
assigned_places P on ring x e None h g = places_of P on e (λ y i a. h y i) false []
assigned_places P on ring x e (Some rs) h g = rest_places P on rs (λ y i a. term_names P rs g.each y i)

-- what is asked of the name where it is used: no variable, and none of the variables around
mutual
  used_one : (p : Program) (k : Kinds) (s : Surroundings) (x : List ℕ) (a : Statement) → Clean p (m.in_statement s a)
      → has_parallel a ≡ false → varies x a ≡ false → has_name x s.vars ≡ false → grows k x a ≡ true
      → (vars : List (List ℕ)) × (has_name x vars ≡ false) × IsUsable p vars s.parallel x
  used_one p k s x (assignment line atomic t e) c f v n g =
      let q = and_parts (k.active t.name) (list_any (is_of x) (assignment_occurrences k.active e (increment_terms k.ring t e))) g in
      let uses : Each (IsUsable p s.vars s.parallel) (names_in e) = (λ y i. ((assignment_clean p s line atomic t e c).value y i).usable) in (
        s.vars,
        n,
        some_place (IsUsable p s.vars s.parallel) x (assignment_occurrences k.active e (increment_terms k.ring t e))
            (assigned_places (IsUsable p s.vars s.parallel) k.active k.ring t.name e (increment_terms k.ring t e) uses
            (increment_parts (λ a. Each (IsUsable p s.vars s.parallel) (names_in a)) (names_parts (IsUsable p s.vars s.parallel)) k.ring
            t e uses)) q.1,
      )
  used_one p k s x (branch line arms other) c f v n g =
      let q = apart p (m.in_arms s line arms) (m.in_statements s other) c in
      let h = or_parts (has_parallel_in_arms arms) (has_parallel_in other) f in
      let w = or_parts (varies_in_arms x arms) (varies_in x other) v in
      or_to (grows_in_arms k x arms) (grows_in k x other) (λ e. used_arms p k s line x arms q.0 h.0 w.0 n e)
      (λ e. used_all p k s x other q.1 h.1 w.1 n e) g
  used_one p k s x (loop line number None var first last step body) c f v n g =
      let w = or_parts (bytes_eq x var) (varies_in x body) v in
      used_all p k (m.at_body s var None) x body (loop_clean p s line number None var first last step body c).inside f w.1
      (or_from (bytes_eq x var) (has_name x s.vars) w.0 n) g
  used_one p k s x (loop line number (Some d) var first last step body) c f v n g = never true refl f

  used_all : (p : Program) (k : Kinds) (s : Surroundings) (x : List ℕ) (ss : Statements) → Clean p (m.in_statements s ss)
      → has_parallel_in ss ≡ false → varies_in x ss ≡ false → has_name x s.vars ≡ false → grows_in k x ss ≡ true
      → (vars : List (List ℕ)) × (has_name x vars ≡ false) × IsUsable p vars s.parallel x
  used_all p k s x no_statements c f v n g = never false g refl
  used_all p k s x (statement a ss) c f v n g =
      let q = apart p (m.in_statement s a) (m.in_statements s ss) c in
      let h = or_parts (has_parallel a) (has_parallel_in ss) f in
      let w = or_parts (varies x a) (varies_in x ss) v in
      or_to (grows k x a) (grows_in k x ss) (λ e. used_one p k s x a q.0 h.0 w.0 n e) (λ e. used_all p k s x ss q.1 h.1 w.1 n e) g

  used_arms : (p : Program) (k : Kinds) (s : Surroundings) (line : ℕ) (x : List ℕ) (arms : Arms) → Clean p (m.in_arms s line arms)
      → has_parallel_in_arms arms ≡ false → varies_in_arms x arms ≡ false → has_name x s.vars ≡ false → grows_in_arms k x arms ≡ true
      → (vars : List (List ℕ)) × (has_name x vars ≡ false) × IsUsable p vars s.parallel x
  used_arms p k s line x no_arms c f v n g = never false g refl
  used_arms p k s line x (arm test body arms) c f v n g =
      let q = apart p (m.in_statements s body) (m.in_arms s line arms)
      (apart p (m.in_condition (m.at_line s line) test) (m.in_statements s body ++ m.in_arms s line arms) c).1 in
      let h = or_parts (has_parallel_in body) (has_parallel_in_arms arms) f in
      let w = or_parts (varies_in x body) (varies_in_arms x arms) v in
      or_to (grows_in k x body) (grows_in_arms k x arms) (λ e. used_all p k s x body q.0 h.0 w.0 n e)
      (λ e. used_arms p k s line x arms q.1 h.1 w.1 n e) g

-- ---- it is no loop's own

choice_class : (v p f q : Bool)
    → has_a_choice (if v then class.LoopVar else
    (if p then class.Private else (if f then class.First else (if q then class.Plus else class.Shared)))) ≡ true → (v ≡ false) × (p ≡ false)
choice_class true p f q h = never false h refl
choice_class false true f q h = never false h refl
choice_class false false f q h = (refl, refl)

private_where : (b s o : Bool) → b ≡ true → s ≡ false → (b && (not s && not o)) ≡ false → o ≡ true
private_where true false o e f h = no_not o h
private_where true true o e f h = never true refl f
private_where false s o e f h = never false e refl

has_neither : (p v : Bool) → p ≡ false → v ≡ false → (p || v) ≡ false
has_neither p v a b = or_from p v a b

unowned_by : (p : Program) (l : ParallelLoop) (x : List ℕ) → is_varying p x ≡ false → (vars : List (List ℕ)) → has_name x vars ≡ false
    → IsUsable p vars (Some (record { directive = l.directive; var = l.var; body = l.body })) x
    → has_a_choice (sharing_in l.var l.directive l.body x) ≡ true → is_own p x ≡ false
unowned_by p l x v vars n u h =
    let c = choice_class (bytes_eq x l.var || varies_in x l.body) (has_name x l.directive.privates) (has_name x l.directive.firsts)
    (has_name x l.directive.pluses) h in
    fails (is_own p x) (λ s.
    never (is_own_in (Some (record { directive = l.directive; var = l.var; body = l.body })) x)
    (private_where (is_private_name p x) (has_name x vars)
    (is_own_in (Some (record { directive = l.directive; var = l.var; body = l.body })) x) (private_all x (stmt_trees p.body) v s) n u.own)
    (has_neither (has_name x l.directive.privates) (bytes_eq x l.var || varies_in x l.body) c.1 c.0))

-- ---- choices that are made

some_in : {X A P : Type 0} (t : A → Bool) (f : X → List A) (xs : List X) → ((x : X) → IsAmong xs x → list_any t (f x) ≡ true → P)
    → list_any t (flat_map f xs) ≡ true → P
some_in t f [] k h = never false h refl
some_in t f (x ∷ xs) k h =
    or_to (list_any t (f x)) (list_any t (flat_map f xs)) (λ g. k x (inl refl) g) (λ g. some_in t f xs (λ y i. k y (inr i)) g)
    (sym (list_any-append t (f x) (flat_map f xs)) ∙ h)

-- a choice for the name in the loop with the number
abbrev is_for : ℕ → List ℕ → Chosen → Bool
is_for number x c = nat_eq c.loop_number number && (bytes_eq c.name x && is_reduction c.choice)

chosen_reduction : (cs : List Chosen) (number : ℕ) (x : List ℕ) → is_reduction (choice_in cs number x) ≡ true → list_any (is_for number x) cs ≡ true
chosen_reduction cs number x h =
    at_test (λ b. is_reduction (if b then Reduction else (if has_choice is_shared cs number x then Shared else Atomic)) ≡ true → b ≡ true)
    (has_choice is_reduction cs number x) (λ e g. refl)
    (λ e g. absurd (not_collected (has_choice is_shared cs number x) g)) h
  where
    not_collected : (b : Bool) → is_reduction (if b then Shared else Atomic) ≡ true → ⊥
    not_collected true g = never false g refl
    not_collected false g = never false g refl

-- what is known of a name that is chosen in a loop
record IsChosen (decls : List Decl) (k : Kinds) (number : ℕ) (x : List ℕ) (l : ParallelLoop) : Type 0 where
  pub loop_number : l.number ≡ number
  pub class : has_a_choice (sharing_in l.var l.directive l.body x) ≡ true
  pub grown : grows_in k x l.body ≡ true
  pub scalar : is_scalar_name decls x ≡ true
  pub kept : assigns_in x l.body ≡ false

same_number : (a b : ℕ) → nat_eq a b ≡ true → a ≡ b
same_number a b h = grind (arith, nat_tests)

collected : (b : Bool) → is_reduction (choice_of b) ≡ true → b ≡ true
collected true h = refl
collected false h = never false h refl

is_chosen : (decls : List Decl) (k : Kinds) (number : ℕ) (x : List ℕ) (l : ParallelLoop) (y : List ℕ)
    → list_any (is_for number x) (choices_for decls k l y) ≡ true → IsChosen decls k number x l
is_chosen decls k number x l y h =
    at_test (λ b. (has_a_choice (sharing_in l.var l.directive l.body y) && grows_in k y l.body) ≡ b
    → list_any (is_for number x) (if b then chosen_for decls l.number l.body y ∷ [] else []) ≡ true → IsChosen decls k number x l)
    (has_a_choice (sharing_in l.var l.directive l.body y) && grows_in k y l.body)
    (λ e g i. found g (or_to (is_for number x (chosen_for decls l.number l.body y)) false (λ j. j) (λ j. never false j refl) i))
    (λ e g i. never false i refl) refl h
  where
    found : (has_a_choice (sharing_in l.var l.directive l.body y) && grows_in k y l.body) ≡ true
        → is_for number x (chosen_for decls l.number l.body y) ≡ true → IsChosen decls k number x l
    found g i =
        let a = and_parts (nat_eq l.number number)
        (bytes_eq y x && is_reduction (choice_of (is_scalar_name decls y && not (assigns_in y l.body)))) i in
        let b = and_parts (bytes_eq y x) (is_reduction (choice_of (is_scalar_name decls y && not (assigns_in y l.body)))) a.1 in
        let c = and_parts (is_scalar_name decls y) (not (assigns_in y l.body))
        (collected (is_scalar_name decls y && not (assigns_in y l.body)) b.1) in
        let d = and_parts (has_a_choice (sharing_in l.var l.directive l.body y)) (grows_in k y l.body) g in
        let same : y ≡ x = same_name y x b.0 in
        record {
          loop_number = same_number l.number number a.0;
          class = subst (λ z. has_a_choice (sharing_in l.var l.directive l.body z) ≡ true) same d.0;
          grown = subst (λ z. grows_in k z l.body ≡ true) same d.1;
          scalar = subst (λ z. is_scalar_name decls z ≡ true) same c.0;
          kept = subst (λ z. assigns_in z l.body ≡ false) same (not_yes (assigns_in y l.body) c.1);
        }

chosen_loop : (p : Program) (active : List ℕ → Bool) (number : ℕ) (x : List ℕ) → list_any (is_for number x) (choices_of p active) ≡ true
    → (l : ParallelLoop) × IsAmong (loops_of_all [] (stmt_trees p.body)) l × IsChosen p.decls (kinds_of p active) number x l
unfolding choices_of
chosen_loop p active number x h =
    some_in (is_for number x) (λ l. flat_map (choices_for p.decls (kinds_of p active) l) (active_names p.decls active))
    (loops_of_all [] (stmt_trees p.body)) (λ l i g.
    some_in (is_for number x) (choices_for p.decls (kinds_of p active) l) (active_names p.decls active)
    (λ y j e. (l, i, is_chosen p.decls (kinds_of p active) number x l y e)) g) h

-- none is Shared
never_shared : (b : Bool) → is_shared (choice_of b) ≡ false
never_shared true = refl
never_shared false = refl

-- a Shared choice for the name in the loop with the number
abbrev is_shared_for : ℕ → List ℕ → Chosen → Bool
is_shared_for number x c = nat_eq c.loop_number number && (bytes_eq c.name x && is_shared c.choice)

unshared_at : (decls : List Decl) (k : Kinds) (number : ℕ) (x : List ℕ) (l : ParallelLoop) (y : List ℕ)
    → list_any (is_shared_for number x) (choices_for decls k l y) ≡ true → ⊥
unshared_at decls k number x l y h =
    at_test (λ b. list_any (is_shared_for number x) (if b then chosen_for decls l.number l.body y ∷ [] else []) ≡ true → ⊥)
    (has_a_choice (sharing_in l.var l.directive l.body y) && grows_in k y l.body)
    (λ e i. found (or_to (is_shared_for number x (chosen_for decls l.number l.body y)) false (λ j. j) (λ j. never false j refl) i))
    (λ e i. never false i refl) h
  where
    found : is_shared_for number x (chosen_for decls l.number l.body y) ≡ true → ⊥
    found i =
        let a = and_parts (nat_eq l.number number) (bytes_eq y x && is_shared (choice_of (is_scalar_name decls y && not (assigns_in y l.body)))) i in
        let b = and_parts (bytes_eq y x) (is_shared (choice_of (is_scalar_name decls y && not (assigns_in y l.body)))) a.1 in
        never (is_shared (choice_of (is_scalar_name decls y && not (assigns_in y l.body)))) b.1
        (never_shared (is_scalar_name decls y && not (assigns_in y l.body)))

unshared : (p : Program) (active : List ℕ → Bool) (number : ℕ) (x : List ℕ) → has_choice is_shared (choices_of p active) number x ≡ false
unfolding choices_of
unshared p active number x =
    fails (has_choice is_shared (choices_of p active) number x) (λ h.
    some_in (is_shared_for number x) (λ l. flat_map (choices_for p.decls (kinds_of p active) l) (active_names p.decls active))
    (loops_of_all [] (stmt_trees p.body)) (λ l i g.
    some_in (is_shared_for number x) (choices_for p.decls (kinds_of p active) l) (active_names p.decls active)
    (λ y j e. unshared_at p.decls (kinds_of p active) number x l y e) g) h)

one_step : (r s : Bool) → s ≡ false → is_one_step (if r then Reduction else (if s then Shared else Atomic)) ≡ true
one_step true s h = refl
one_step false true h = never true refl h
one_step false false h = refl

made_fit : (p : Program) (of wrt : List (List ℕ)) → IsAccepted p of wrt → AreFitting p (is_active p of wrt) (made_choices p of wrt)
made_fit p of wrt a l i x active h =
    let on = is_active p of wrt in
    let c = clean_body p of wrt a in
    let q = chosen_loop p on l.number x (chosen_reduction (choices_of p on) l.number x h) in
    let same : q.0 ≡ l = one_loop (stmt_trees p.body) q.0 l a.readable.numbered q.1 i q.2.loop_number in
    let k : IsChosen p.decls (kinds_of p on) l.number x l = subst (IsChosen p.decls (kinds_of p on) l.number x) same q.2 in
    let s = stands_all p (m.at_unit p.line) (stmt_trees p.body) c.clean a.readable.body (λ y n. never false n refl) (λ y n. n) l i in
    let fixed = active_whole p of wrt a x active in
    let u = used_all p (kinds_of p on) s.around x l.body s.clean s.flat
    (fails (varies_in x l.body) (λ n. never (is_varying p x) (s.inner x n) fixed))
    (fails (has_name x s.around.vars) (λ n. never (is_varying p x) (s.known x n) fixed)) k.grown in
    record { scalar = k.scalar; placed = unowned_by p l x fixed u.0 u.1 (subst (λ r. IsUsable p u.0 r x) s.region u.2) k.class; kept = k.kept }

pub choices_fit : MadeChoicesFit
choices_fit p of wrt a = record {
  fitting = made_fit p of wrt a;
  one_step = λ number x. one_step (has_choice is_reduction (choices_of p (is_active p of wrt)) number x)
      (has_choice is_shared (choices_of p (is_active p of wrt)) number x) (unshared p (is_active p of wrt) number x);
}

-- ---- parallel loops

pub loops_fit : ParallelLoopsFit
loops_fit p r t = record {
  flat = λ l i. flat_all l.body (stands_all p (m.at_unit p.line) (stmt_trees p.body) (body_clean p r t).clean r.body
      (λ y n. never false n refl) (λ y n. n) l i).flat;
  one = λ l k. one_loop (stmt_trees p.body) l k r.numbered;
}
