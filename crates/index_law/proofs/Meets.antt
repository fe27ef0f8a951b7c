-- In a run without a conflict, accesses of which one writes don't meet.
use Rattle.std.proofs.Common.{◌≡◌, ◌≢◌, ℕ, zero, suc, ◌<◌, Bool, true, false, ◌⊎◌, List, [], ◌∷◌, ◌++◌, map, refl, ap, sym, subst, arith, Option, Some, None, Result, Ok, Contains}
use mathlib.Core.Logic.{inl, inr}
use Rattle.std.specs.Prelude.{nat_lt, nat_eq, option_map}
use Rattle.std.proofs.lemmas.Bool.Decides.{nat_tests}
use Rattle.std.proofs.lemmas.List.Elements.{Contains-append_left, Contains-append_right, Contains-push}
use Rattle.fl_types.specs.declared.access.AccessKind.{AccessKind}
use Rattle.fl_types.specs.declared.access.AccessKind.TheVariants.{Read, Write, Update}
use Rattle.fl_types.specs.Sharing.{ParallelLoop}
use Rattle.meaning.specs.declared.value.TrapAt.{TrapAt}
use Rattle.meaning.specs.Logs.{Touch}
use Rattle.meaning.specs.Sites.{Cells, Site}
use Rattle.meaning.specs.Statements.{Heads, iterations, turns}
use Rattle.meaning.specs.Conflicts.{clashes, Clash, Reports, conflict}
use Rattle.meaning.specs.Touches.{touches_in, touch_of}
use Rattle.meaning.specs.Groups.{Group, iteration_of, groups_of_iteration, touches_of_groups, touches_from, touches_of_iterations}
use Rattle.meaning.proofs.Reported.{reported}
use Rattle.meaning.proofs.GroupTouching.{loops_touch}
use Rattle.index_law.specs.Meetings.{In, FreeRun, Evaluated, place_in}

-- ---- members of lists

contains : {A : Type 0} (xs : List A) (x : A) → In x xs → Contains xs x
contains [] x h = absurd h
contains {A} (y ∷ ys) x (inl e) = let P : A → Type 0 = λ z. Contains (y ∷ ys) z in subst P e (Contains-append_left (y ∷ []) ys y (Contains-push [] y))
contains (y ∷ ys) x (inr h) = Contains-append_right (y ∷ []) ys x (contains ys x h)

pub in_left : {A : Type 0} (x : A) (xs ys : List A) → In x xs → In x (xs ++ ys)
in_left x [] ys h = absurd h
in_left x (y ∷ xs) ys (inl e) = inl e
in_left x (y ∷ xs) ys (inr h) = inr (in_left x xs ys h)

pub in_right : {A : Type 0} (x : A) (xs ys : List A) → In x ys → In x (xs ++ ys)
in_right x [] ys h = h
in_right x (y ∷ xs) ys h = inr (in_right x xs ys h)

pub in_map : {A B : Type 0} (f : A → B) (x : A) (xs : List A) → In x xs → In (f x) (map f xs)
in_map f x [] h = absurd h
in_map f x (y ∷ xs) (inl e) = inl (ap f e)
in_map f x (y ∷ xs) (inr h) = inr (in_map f x xs h)

some_in : (t : Touch) (ts : List Touch) → In (Some t) (map Some ts) → In t ts
some_in t [] h = absurd h
some_in t (u ∷ ts) (inl e) = inl (let i : u ≡ t = cc in i)
some_in t (u ∷ ts) (inr h) = inr (some_in t ts h)

-- ---- the touches of an iteration are among those of all

in_groups : (k : ℕ) (g : Group) (gs : List Group) (o : Option Touch) → In g gs → In o (map (touch_of g.site g.cells k) g.accesses) → In o (touches_of_groups (λ g. g.accesses) k gs)
in_groups k g [] o h m = absurd h
in_groups k g (u ∷ gs) o (inl e) m =
    in_left o (map (touch_of u.site u.cells k) u.accesses) (touches_of_groups (λ g. g.accesses) k gs) (subst (λ (w : Group). In o (map (touch_of w.site w.cells k) w.accesses)) (sym e) m)
in_groups k g (u ∷ gs) o (inr h) m = in_right o (map (touch_of u.site u.cells k) u.accesses) (touches_of_groups (λ g. g.accesses) k gs) (in_groups k g gs o h m)

in_iterations : (site : Site) (l : ParallelLoop) (heads : Heads) (cells : Cells) (n k : ℕ) (before : Cells) (o : Option Touch) → k < n → (turns k (iteration_of site l heads) cells).out ≡ Ok before →
    In o (touches_of_groups (λ g. g.accesses) k (groups_of_iteration site l heads k before)) → In o (touches_of_iterations (λ g. g.accesses) site l heads n cells)
in_iterations site l heads cells zero k before o h r m = absurd (omega arith)
in_iterations site l heads cells (suc n) k before o h r m = by_last (nat_eq k n) refl (λ i. in_iterations site l heads cells n k before o i r m)
  where
    last : Result Cells TrapAt → List (Option Touch)
    last w = touches_from w (λ c. touches_of_groups (λ g. g.accesses) n (groups_of_iteration site l heads n c))

    here : k ≡ n → In o (last (turns n (iteration_of site l heads) cells).out)
    here e =
        let r2 : (turns n (iteration_of site l heads) cells).out ≡ Ok before = subst (λ (z : ℕ). (turns z (iteration_of site l heads) cells).out ≡ Ok before) e r in
        let m2 : In o (last (Ok before)) = subst (λ (z : ℕ). In o (touches_of_groups (λ g. g.accesses) z (groups_of_iteration site l heads z before))) e m in
        subst (λ (w : Result Cells TrapAt). In o (last w)) (sym r2) m2

    by_last : (b : Bool) → nat_eq k n ≡ b → (k < n → In o (touches_of_iterations (λ g. g.accesses) site l heads n cells)) → In o (touches_of_iterations (λ g. g.accesses) site l heads (suc n) cells)
    by_last true e again = in_right o (touches_of_iterations (λ g. g.accesses) site l heads n cells) (last (turns n (iteration_of site l heads) cells).out) (here (grind (arith, nat_tests)))
    by_last false e again = in_left o (touches_of_iterations (λ g. g.accesses) site l heads n cells) (last (turns n (iteration_of site l heads) cells).out) (again (grind (arith, nat_tests)))

-- ---- touches of two iterations at one place

left_write : (k : AccessKind) → clashes Write k ≡ true
left_write k = refl

right_write : (k : AccessKind) → clashes k Write ≡ true
right_write Read = refl
right_write Write = refl
right_write Update = refl

clash_kinds : (a b : AccessKind) → (a ≡ Write) ⊎ (b ≡ Write) → (clashes a b ≡ true) × (clashes b a ≡ true)
clash_kinds a b (inl e) = rw e (refl, right_write b)
clash_kinds a b (inr e) = rw e (right_write a, refl)

no_meeting : (ts : List Touch) (p i j : ℕ) (a b : AccessKind) → conflict ts ≡ None → In (record { place = p; iteration = i; kind = a }) ts → In (record { place = p; iteration = j; kind = b }) ts → (a ≡ Write) ⊎ (b ≡ Write) → i ≢ j → ⊥
no_meeting ts p i j a b free m n w d = by_order (nat_lt i j) refl
  where
    none : Reports ts None
    none = subst (λ (o : Option Clash). Reports ts o) free (reported ts)

    k : (clashes a b ≡ true) × (clashes b a ≡ true)
    k = clash_kinds a b w

    by_order : (t : Bool) → nat_lt i j ≡ t → ⊥
    by_order true e = none (record { place = p; first = i; second = j }) (record { one = a; other = b; has_one = contains ts _ m; has_other = contains ts _ n; in_order = grind (arith, nat_tests); kinds = k.0 })
    by_order false e = none (record { place = p; first = j; second = i }) (record { one = b; other = a; has_one = contains ts _ n; has_other = contains ts _ m; in_order = later i j e d; kinds = k.1 })
      where
        later : (i j : ℕ) → nat_lt i j ≡ false → i ≢ j → j < i
        later i j e d = by_equal (nat_eq i j) refl
          where
            by_equal : (t : Bool) → nat_eq i j ≡ t → j < i
            by_equal true f = absurd (d (grind (arith, nat_tests)))
            by_equal false f = grind (arith, nat_tests)

-- ---- an evaluated access touches its place

abbrev whole_log : (site : Site) (l : ParallelLoop) (heads : Heads) (cells : Cells) → List Touch
whole_log site l heads cells = touches_in 0 (turns (iterations heads) (iteration_of site l heads) cells).log

in_all : (site : Site) (l : ParallelLoop) (heads : Heads) (cells : Cells) → FreeRun site l heads cells → (k : ℕ) (e : Evaluated site l heads cells k) →
    In (touch_of e.group.site e.group.cells k e.access) (map Some (whole_log site l heads cells))
in_all site l heads cells run k e =
    let o = touch_of e.group.site e.group.cells k e.access in
    let one : In o (map (touch_of e.group.site e.group.cells k) e.group.accesses) = in_map (touch_of e.group.site e.group.cells k) e.access e.group.accesses e.stands in
    let all : In o (touches_of_iterations (λ g. g.accesses) site l heads (iterations heads) cells) =
    in_iterations site l heads cells (iterations heads) k e.before o e.within e.reached (in_groups k e.group (groups_of_iteration site l heads k e.before) o e.comes one) in
    subst (λ (os : List (Option Touch)). In o os) (sym (loops_touch site l run.sequential heads (iterations heads) cells run.end run.ran 0).0) all

some_of : (o : Option Touch) (ts : List Touch) → In o (map Some ts) → (t : Touch) × (o ≡ Some t)
some_of o [] h = absurd h
some_of o (t ∷ ts) (inl e) = (t, sym e)
some_of o (t ∷ ts) (inr h) = some_of o ts h

pub touched_by : (site : Site) (l : ParallelLoop) (heads : Heads) (cells : Cells) → FreeRun site l heads cells → (k : ℕ) (e : Evaluated site l heads cells k) → (t : Touch) × (touch_of e.group.site e.group.cells k e.access ≡ Some t)
touched_by site l heads cells run k e = some_of (touch_of e.group.site e.group.cells k e.access) (whole_log site l heads cells) (in_all site l heads cells run k e)

touched_there : (site : Site) (l : ParallelLoop) (heads : Heads) (cells : Cells) → FreeRun site l heads cells → (k : ℕ) (e : Evaluated site l heads cells k) (p : ℕ) → place_in site l heads cells k e ≡ Some p →
    In (record { place = p; iteration = k; kind = e.access.kind }) (whole_log site l heads cells)
touched_there site l heads cells run k e p h =
    let t : Touch = record { place = p; iteration = k; kind = e.access.kind } in
    let is : touch_of e.group.site e.group.cells k e.access ≡ Some t = ap (option_map (λ (q : ℕ). let u : Touch = record { place = q; iteration = k; kind = e.access.kind } in u)) h in
    some_in t (whole_log site l heads cells) (subst (λ (o : Option Touch). In o (map Some (whole_log site l heads cells))) is (in_all site l heads cells run k e))

pub never_meet : (site : Site) (l : ParallelLoop) (heads : Heads) (cells : Cells) → FreeRun site l heads cells → (i j : ℕ) → i ≢ j → (a : Evaluated site l heads cells i) (b : Evaluated site l heads cells j) →
    (a.access.kind ≡ Write) ⊎ (b.access.kind ≡ Write) → (p : ℕ) → place_in site l heads cells i a ≡ Some p → place_in site l heads cells j b ≡ Some p → ⊥
never_meet site l heads cells run i j d a b w p e f =
    no_meeting (whole_log site l heads cells) p i j a.access.kind b.access.kind run.free (touched_there site l heads cells run i a p e) (touched_there site l heads cells run j b p f) w d
