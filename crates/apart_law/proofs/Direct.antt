-- What stands beside the path to an access: groups of the same statements, which a run that went through came to.
use Rattle.std.proofs.Common.{◌≡◌, ℕ, ◌+◌, ◌<◌, ◌≤◌, Bool, true, false, ℤ, List, [], ◌∷◌, ◌++◌, length, refl, ap, sym, ◌∙◌, subst, arith, append_assoc, length-append, Option, Some, None, Result, Ok}
use mathlib.Core.Logic.{inl}
use Rattle.std.specs.Prelude.{◌||◌, bytes_eq}
use Rattle.std.proofs.lemmas.Bool.{and_parts}
use Rattle.fl_ast.specs.Tree.{Expression, Designator, Statement, assignment, branch, loop, Statements, no_statements, statement, Arms, no_arms, arm}
use Rattle.fl_types.specs.declared.access.PathStep.{PathStep}
use Rattle.fl_types.specs.declared.access.PathStep.TheVariants.{Arm, Body}
use Rattle.fl_types.specs.Increment.{increment_terms}
use Rattle.fl_types.specs.Sharing.{has_name}
use Rattle.fl_types.specs.Accesses.{Scope, Occurrence, reads, step_reads, condition_reads, accesses, accesses_all, arms_accesses, statement_count, statements_count}
use Rattle.meaning.specs.declared.value.TrapAt.{TrapAt}
use Rattle.meaning.specs.Sites.{Cells, Site}
use Rattle.meaning.specs.Expressions.{holds}
use Rattle.meaning.specs.Statements.{run, run_all}
use Rattle.meaning.specs.Sequential.{is_sequential, are_sequential}
use Rattle.meaning.specs.Frame.{content_by_name}
use Rattle.meaning.specs.Touches.{scope_at}
use Rattle.meaning.specs.Reached.{HoldsAtEach, HoldsAtAll, IsSound}
use Rattle.meaning.specs.Groups.{Group, group_at, right_accesses, assignment_group, groups_from, groups_of, groups_of_all}
use Rattle.meaning.proofs.Parts.{bound}
use Rattle.index_forms.specs.declared.form.Side.{Side}
use Rattle.index_forms.specs.Form.{Atom, version}
use Rattle.index_forms.specs.Formed.{Known}
use Rattle.index_forms.specs.Loops.{written_by, written_in}
use Rattle.index_forms.specs.Walk.{Setting, without, known_after, known_inside}
use Rattle.index_law.specs.Worth.{HoldsKnown}
use Rattle.index_law.specs.Meetings.{In}
use Rattle.index_law.specs.Paths.{LeadsTo}
use Rattle.index_law.specs.Steps.{HasStored}
use Rattle.index_law.specs.Valuations.{HasReads, HoldsFixed}
use Rattle.index_law.specs.Fixed.{AreOff}
use Rattle.index_law.proofs.GroupKeys.{split, by_side}
use Rattle.index_law.proofs.Meets.{in_left, in_right}
use Rattle.index_law.proofs.Steps.{or_first, or_second, known_after_holds}
use Rattle.index_law.proofs.Fixed.{fixed_after}
use Rattle.index_law.proofs.Shapes.{number_of, FromArm}
use Rattle.apart_law.specs.Bindings.{Binding, Agrees, AreApart, Lies, AllLie, no_loops, index_of, group_bindings}
use Rattle.apart_law.specs.Spots.{Spot, spot_at, bounds_accesses, spots_of, spots_in, spots_in_arms, Met}
use Rattle.apart_law.proofs.Bound.{agrees_left, agrees_right, lie_both, lie_wider, absent_in, apart_both, separate_after}
use Rattle.apart_law.proofs.Leaves.{AllDefined, group_agrees}
use Rattle.apart_law.proofs.Numbers.{group_lies, group_apart}
use Rattle.apart_law.proofs.Defined.{condition_defined, assignment_defined, bounds_defined}
use Rattle.apart_law.proofs.Shapes.{Beneath, joined, rests, counted, Outside, outside_first, outside_second, not_outside, beneath_all, beneath_arms}

pub has_both : (x : List ℕ) (xs ys : List (List ℕ)) → has_name x (xs ++ ys) ≡ (has_name x xs || has_name x ys)
has_both x [] ys = refl
has_both x (y ∷ xs) ys = by_test (bytes_eq x y) (has_both x xs ys)
  where
    by_test : (t : Bool) → has_name x (xs ++ ys) ≡ (has_name x xs || has_name x ys) → (t || has_name x (xs ++ ys)) ≡ ((t || has_name x xs) || has_name x ys)
    by_test true e = refl
    by_test false e = e

module _ (side : Side) (fixed : List ℕ → Bool) (before : Cells) where
  abbrev pub set : Site → Setting
  set site = record { side = side; scope = scope_at site; fixed = fixed }

  -- a statement, or statements, that went through from these cells to those
  pub record Ran (s : Statement) (site : Site) (cells d : Cells) : Type 0 where
    pub sequential : is_sequential s ≡ true
    pub ran : (run s site cells).out ≡ Ok d
    pub sound : HoldsAtEach IsSound s site cells
    pub off : AreOff fixed (written_by s)
    pub holds : HoldsFixed fixed before site cells

  pub record RanAll (ss : Statements) (site : Site) (cells d : Cells) : Type 0 where
    pub sequential : are_sequential ss ≡ true
    pub ran : (run_all ss site cells).out ≡ Ok d
    pub sound : HoldsAtAll IsSound ss site cells
    pub off : AreOff fixed (written_in ss)
    pub holds : HoldsFixed fixed before site cells

  -- values for atoms, with which each of the spots that stands on the path `to` is met by one of the groups
  pub record Told (n m a b : ℕ) (loops : ℕ → Bool) (k : Known) (site : Site) (cells : Cells) (to : List PathStep) (spots : List Spot) (gs : List Group) : Type 0 where
    pub bindings : List Binding
    pub lies : AllLie side n m a b loops bindings
    pub apart : AreApart bindings
    pub met : (v : Atom → ℤ) → Agrees v bindings → HoldsKnown v k site cells → HasReads v site before → (x : Spot) → In x spots → LeadsTo x.path to → (g : Group) × In g gs × Met v (set site) x g

  -- ---- one group

  pub own_met : (v : Atom → ℤ) (k : Known) (a : ℕ) (path : List PathStep) (site : Site) (cells : Cells) (os rs : List Occurrence) (target : List ℕ) → AllDefined site cells os → HoldsFixed fixed before site cells →
      Agrees v (group_bindings (set site) k a site cells os) → HoldsKnown v k site cells → HasReads v site before →
      Met v (set site) (record { known = k; before = a; path = path; accesses = os; target = target; right = rs }) (record { site = site; cells = cells; accesses = os; target = target; right = rs })
  own_met v k a path site cells os rs target d fx g h rd = record {
    accesses = refl;
    target = refl;
    right = refl;
    known = h;
    agrees = group_agrees v (set site) k a site before cells os d h rd fx g;
  }

  pub same_spot : (v : Atom → ℤ) (site : Site) (y x : Spot) (g : Group) → y ≡ x → Met v (set site) y g → Met v (set site) x g
  same_spot v site y x g e h = subst (λ (z : Spot). Met v (set site) z g) e h

  -- a condition or bounds
  abbrev pub group_told : (n m a : ℕ) (k : Known) (site : Site) (cells : Cells) (path to : List PathStep) (os : List Occurrence) (gs : List Group) → n ≤ m → AllDefined site cells os → HoldsFixed fixed before site cells →
      Told n m a (a + length os) no_loops k site cells to (spot_at k a path os ∷ []) (group_at site cells os ∷ gs)
  group_told n m a k site cells path to os gs l d fx = record {
    bindings = group_bindings (set site) k a site cells os;
    lies = lie_wider side n n a (a + length os) n m a (a + length os) no_loops no_loops (omega arith) l (omega arith) (omega arith) (λ i h. h) (group_bindings (set site) k a site cells os) (group_lies site cells (set site) k n a os);
    apart = group_apart site cells (set site) k a os;
    met = λ v g h rd x i lead. by_side ((g : Group) × In g (group_at site cells os ∷ gs) × Met v (set site) x g) i
        (λ e. (group_at site cells os, inl refl, same_spot v site (spot_at k a path os) x (group_at site cells os) e (own_met v k a path site cells os [] [] d fx g h rd)))
        (λ e. absurd e);
  }

  -- of more spots, where the others aren't on the path
  abbrev pub more_spots : (n m a b c : ℕ) (k : Known) (site : Site) (cells : Cells) (to : List PathStep) (y : Spot) (xs : List Spot) (gs : List Group) → b ≤ c → ((x : Spot) → In x xs → LeadsTo x.path to → ⊥) →
      Told n m a b no_loops k site cells to (y ∷ []) gs → Told n m a c no_loops k site cells to (y ∷ xs) gs
  more_spots n m a b c k site cells to y xs gs l off t = record {
    bindings = t.bindings;
    lies = lie_wider side n m a b n m a c no_loops no_loops (omega arith) (omega arith) (omega arith) l (λ i h. h) t.bindings t.lies;
    apart = t.apart;
    met = λ v g h rd x i lead. by_side ((g : Group) × In g gs × Met v (set site) x g) i (λ e. t.met v g h rd x (inl e) lead) (λ e. absurd (off x e lead));
  }

  -- ---- what isn't on a path that doesn't step into its statement

  beyond : (n lo hi : ℕ) (t : PathStep) → lo ≤ n → n < hi → (path tail to : List PathStep) → to ≡ path ++ tail → Outside lo hi tail → (r : List PathStep) (x : Spot) → x.path ≡ path ++ t ∷ r → number_of t ≡ n → LeadsTo x.path to → ⊥
  beyond n lo hi t l u path tail to e o r x p q lead = not_outside n lo hi t q l u lead.0 r tail (rests path (t ∷ r) tail lead.0 x.path to p e lead.1) o

  -- ---- statements

  -- a statement with number n, where the path doesn't step into it; what it stores has its atom's value
  pub record ToldOne (n a : ℕ) (k : Known) (path : List PathStep) (s : Statement) (site : Site) (cells d : Cells) (to : List PathStep) : Type 0 where
    pub told : Told n (n + statement_count s) a (a + length (accesses (scope_at site) n path s)) no_loops k site cells to (spots_of (set site) n k path a s) (groups_of n path s site cells)
    pub stored : (v : Atom → ℤ) → Agrees v told.bindings → HasStored v side n s site d

  module _ (n a : ℕ) (k : Known) (path : List PathStep) (site : Site) (cells d : Cells) (to : List PathStep) where
    pub assigned_told : (line : ℕ) (atomic : Bool) (p : Designator) (e : Expression) → Ran (assignment line atomic p e) site cells d → ToldOne n a k path (assignment line atomic p e) site cells d to
    assigned_told line atomic p e r = record {
      told = record {
        bindings = one ∷ own;
        lies = ((refl, omega arith, omega arith), lie_wider side (n + 1) (n + 1) a (a + length os) n (n + 1) a (a + length os) no_loops no_loops (omega arith) (omega arith) (omega arith) (omega arith) (λ i h. h) own lying);
        apart = (
          absent_in (Lies side n (n + 1) a a no_loops) (Lies side (n + 1) (n + 1) a (a + length os) no_loops)
              (separate_after side side n (n + 1) a a (n + 1) (n + 1) a (a + length os) no_loops no_loops (omega arith) (omega arith) (λ i h g. cc)) one.0 (refl, omega arith, omega arith) own lying,
          group_apart site cells (set site) k a os,
        );
        met = λ v g h rd x i lead. by_side ((g : Group) × In g (groups_of n path (assignment line atomic p e) site cells) × Met v (set site) x g) i
            (λ w. (
              assignment_group n path site cells line atomic p e,
              inl refl,
              same_spot v site _ x (assignment_group n path site cells line atomic p e) w
                  (own_met v k a path site cells os (right_accesses (scope_at site) line path e (increment_terms site.ring p e)) p.name (assignment_defined site cells (scope_at site) line path atomic p e (increment_terms site.ring p e) r.sound.1) r.holds g.1 h rd),
            ))
            (λ w. absurd w);
      };
      stored = λ v g z c. g.0 ∙ ap index_of c;
    }
      where
        os : List Occurrence
        os = accesses (scope_at site) n path (assignment line atomic p e)

        one : Binding
        one = (version side n p.name, index_of (content_by_name site d p.name []))

        own : List Binding
        own = group_bindings (set site) k a site cells os

        lying : AllLie side (n + 1) (n + 1) a (a + length os) no_loops own
        lying = group_lies site cells (set site) k (n + 1) a os

    -- behind a step into this statement
    into : (count : ℕ) (tail : List PathStep) → 1 ≤ count → to ≡ path ++ tail → Outside n (n + count) tail → (t : PathStep) (r : List PathStep) (x : Spot) → x.path ≡ path ++ t ∷ r → number_of t ≡ n → LeadsTo x.path to → ⊥
    into count tail l e o t r x p q lead = beyond n n (n + count) t (omega arith) (omega (arith, l)) path tail to e o r x p q lead

    into_arms : (count m : ℕ) (tail : List PathStep) → 1 ≤ count → to ≡ path ++ tail → Outside n (n + count) tail → (x : Spot) → Beneath (FromArm n (m + 1)) path x → LeadsTo x.path to → ⊥
    into_arms count m tail l e o x u lead = by_rest u.0 u.1 u.2
      where
        by_rest : (r : List PathStep) → x.path ≡ path ++ r → FromArm n (m + 1) r → ⊥
        by_rest [] p f = omega (arith, f)
        by_rest (t ∷ r) p f = into count tail l e o t r x p f.0 lead

    branch_told : (line : ℕ) (arms : Arms) (other : Statements) (tail : List PathStep) → to ≡ path ++ tail → Outside n (n + statement_count (branch line arms other)) tail → Ran (branch line arms other) site cells d → ToldOne n a k path (branch line arms other) site cells d to
    branch_told line no_arms other tail e o r = record {
      told = record {
        bindings = [];
        lies = tt;
        apart = tt;
        met = λ v g h rd x i lead.
            let u = beneath_all (set site) (n + 1) k (path ++ Arm n 0 ∷ []) a other x i in
            absurd (into (statement_count (branch line no_arms other)) tail (omega arith) e o (Arm n 0) u.0 x (u.1 ∙ joined path (Arm n 0) u.0) refl lead);
      };
      stored = λ v g. tt;
    }
    branch_told line (arm test body arms) other tail e o r = record {
      told = more_spots n (n + count) a (a + length tests) (a + length (tests ++ (inner ++ later))) k site cells to (spot_at k a path tests) (own ++ behind) _ longer off
          (group_told n (n + count) a k site cells path to tests _ (omega arith) (condition_defined site cells (scope_at site) line path test r.sound.0.1.0) r.holds);
      stored = λ v g. tt;
    }
      where
        count : ℕ
        count = statement_count (branch line (arm test body arms) other)

        tests : List Occurrence
        tests = condition_reads (scope_at site) line path test

        inner : List Occurrence
        inner = accesses_all (scope_at site) (n + 1) (path ++ Arm n 0 ∷ []) body

        later : List Occurrence
        later = arms_accesses (scope_at site) line n (n + 1 + statements_count body) 1 path arms (λ i steps. accesses_all (scope_at site) i steps other)

        own : List Spot
        own = spots_in (set site) (n + 1) k (path ++ Arm n 0 ∷ []) (a + length tests) body

        behind : List Spot
        behind = spots_in_arms (set site) line n (n + 1 + statements_count body) 1 (without (written_in body) k) path (a + length tests + length inner) arms (λ i h steps b. spots_in (set site) i h steps b other)

        longer : a + length tests ≤ a + length (tests ++ (inner ++ later))
        longer = let w : length (tests ++ (inner ++ later)) ≡ length tests + length (inner ++ later) = length-append tests (inner ++ later) in omega (arith, w)

        off : (x : Spot) → In x (own ++ behind) → LeadsTo x.path to → ⊥
        off x i lead = by_side ⊥ (split x own behind i)
            (λ m. let u = beneath_all (set site) (n + 1) k (path ++ Arm n 0 ∷ []) (a + length tests) body x m in into count tail (omega arith) e o (Arm n 0) u.0 x (u.1 ∙ joined path (Arm n 0) u.0) refl lead)
            (λ m. into_arms count 0 tail (omega arith) e o x
            (beneath_arms (set site) line n (n + 1 + statements_count body) 1 (without (written_in body) k) path (a + length tests + length inner) arms (λ i h steps b. spots_in (set site) i h steps b other) x
            (λ i h steps b w. beneath_all (set site) i h steps b other x w) m) lead)

    loop_told : (line number : ℕ) (var : List ℕ) (low high : Expression) (step : Option Expression) (body : Statements) (tail : List PathStep) → to ≡ path ++ tail → Outside n (n + statement_count (loop line number None var low high step body)) tail →
        Ran (loop line number None var low high step body) site cells d → ToldOne n a k path (loop line number None var low high step body) site cells d to
    loop_told line number var low high step body tail e o r = record {
      told = more_spots n (n + count) a (a + length os) (a + length (reads (scope_at site) line path low ++ (reads (scope_at site) line path high ++ (step_reads (scope_at site) line path step ++ inner)))) k site cells to
          (spot_at k a path os) (spots_in (set site) (n + 1) (known_inside side number var body k) (path ++ Body n ∷ []) (a + length os) body) _ longer off
          (group_told n (n + count) a k site cells path to os _ (omega arith) (bounds_defined site cells (scope_at site) line path low high step r.sound.0.1.first.0 r.sound.0.1.last.0 r.sound.0.1.step) r.holds);
      stored = λ v g. tt;
    }
      where
        count : ℕ
        count = statement_count (loop line number None var low high step body)

        os : List Occurrence
        os = bounds_accesses (scope_at site) line path low high step

        inner : List Occurrence
        inner = accesses_all (scope_at site) (n + 1) (path ++ Body n ∷ []) body

        longer : a + length os ≤ a + length (reads (scope_at site) line path low ++ (reads (scope_at site) line path high ++ (step_reads (scope_at site) line path step ++ inner)))
        longer =
            let z : reads (scope_at site) line path low ++ (reads (scope_at site) line path high ++ (step_reads (scope_at site) line path step ++ inner)) ≡ os ++ inner = simp append_assoc in
            let y : length (reads (scope_at site) line path low ++ (reads (scope_at site) line path high ++ (step_reads (scope_at site) line path step ++ inner))) ≡ length (os ++ inner) = ap length z in
            let w : length (os ++ inner) ≡ length os + length inner = length-append os inner in
            omega (arith, w, y)

        off : (x : Spot) → In x (spots_in (set site) (n + 1) (known_inside side number var body k) (path ++ Body n ∷ []) (a + length os) body) → LeadsTo x.path to → ⊥
        off x i lead =
            let u = beneath_all (set site) (n + 1) (known_inside side number var body k) (path ++ Body n ∷ []) (a + length os) body x i in
            into count tail (omega arith) e o (Body n) u.0 x (u.1 ∙ joined path (Body n) u.0) refl lead

  pub one_told : (n a : ℕ) (k : Known) (path : List PathStep) (site : Site) (cells d : Cells) (to : List PathStep) (s : Statement) (tail : List PathStep) → to ≡ path ++ tail → Outside n (n + statement_count s) tail → Ran s site cells d → ToldOne n a k path s site cells d to
  one_told n a k path site cells d to (assignment line atomic p e) tail q o r = assigned_told n a k path site cells d to line atomic p e r
  one_told n a k path site cells d to (branch line arms other) tail q o r = branch_told n a k path site cells d to line arms other tail q o r
  one_told n a k path site cells d to (loop line number None var low high step body) tail q o r = loop_told n a k path site cells d to line number var low high step body tail q o r
  one_told n a k path site cells d to (loop line number (Some directive) var low high step body) tail q o r = let z : false ≡ true = r.sequential in cc

  -- ---- one statement and others behind it

  abbrev pub first_ran : (s : Statement) (ss : Statements) (site : Site) (cells d : Cells) → RanAll (statement s ss) site cells d → (c : Cells) → (run s site cells).out ≡ Ok c → Ran s site cells c
  first_ran s ss site cells d r c h = record {
    sequential = (and_parts (is_sequential s) (are_sequential ss) r.sequential).0;
    ran = h;
    sound = r.sound.0;
    off = λ x f. or_first (has_name x (written_by s)) (has_name x (written_in ss)) (sym (has_both x (written_by s) (written_in ss)) ∙ r.off x f);
    holds = r.holds;
  }

  abbrev pub rest_ran : (s : Statement) (ss : Statements) (site : Site) (cells d : Cells) → RanAll (statement s ss) site cells d → (c : Cells) → (run s site cells).out ≡ Ok c → (run_all ss site c).out ≡ Ok d → RanAll ss site c d
  rest_ran s ss site cells d r c h g = record {
    sequential = (and_parts (is_sequential s) (are_sequential ss) r.sequential).1;
    ran = g;
    sound = r.sound.1 c h;
    off = λ x f. or_second (has_name x (written_by s)) (has_name x (written_in ss)) (sym (has_both x (written_by s) (written_in ss)) ∙ r.off x f);
    holds = fixed_after fixed s site before cells c (and_parts (is_sequential s) (are_sequential ss) r.sequential).0 (first_ran s ss site cells d r c h).off h r.holds;
  }

  -- bindings of one part and those of another behind it
  module _ (n m p q a b c e : ℕ) (loops others all : ℕ → Bool) (k after : Known) (site past_site : Site) (cells past : Cells) (to : List PathStep) (xs ys : List Spot) (gs hs whole : List Group) where
    abbrev pub then_told : n ≤ m → m ≤ p → p ≤ q → a ≤ b → b ≤ c → c ≤ e → ((l : ℕ) → loops l ≡ true → others l ≡ true → ⊥) → ((l : ℕ) → loops l ≡ true → all l ≡ true) → ((l : ℕ) → others l ≡ true → all l ≡ true) →
        ((g : Group) → In g gs → In g whole) → ((g : Group) → In g hs → In g whole) → set site ≡ set past_site →
        (t : Told n m a b loops k site cells to xs gs) → ((v : Atom → ℤ) → Agrees v t.bindings → HoldsKnown v k site cells → HoldsKnown v after past_site past) → ((v : Atom → ℤ) → HasReads v site before → HasReads v past_site before) →
        Told m p b c others after past_site past to ys hs → Told n q a e all k site cells to (xs ++ ys) whole
    then_told i j w x y z sep f g into_first into_second same t holds reads u = record {
      bindings = t.bindings ++ u.bindings;
      lies = lie_both side n q a e all t.bindings u.bindings
          (lie_wider side n m a b n q a e loops all (omega arith) (omega (arith, j, w)) (omega arith) (omega (arith, y, z)) f t.bindings t.lies)
          (lie_wider side m p b c n q a e others all (omega (arith, i)) (omega (arith, w)) (omega (arith, x)) (omega (arith, z)) g u.bindings u.lies);
      apart = apart_both (Lies side n m a b loops) (Lies side m p b c others) t.bindings u.bindings (separate_after side side n m a b m p b c loops others (omega arith) (omega arith) sep) t.lies u.lies t.apart u.apart;
      met = λ v r h rd d r2 lead. by_side ((g : Group) × In g whole × Met v (set site) d g) (split d xs ys r2)
          (λ o. let o = t.met v (agrees_left v t.bindings u.bindings r) h rd d o lead in (o.0, into_first o.0 o.1, o.2))
          (λ o. let o = u.met v (agrees_right v t.bindings u.bindings r) (holds v (agrees_left v t.bindings u.bindings r) h) (reads v rd) d o lead in (o.0, into_second o.0 o.1, subst (λ (c : Setting). Met v c d o.0) (sym same) o.2));
    }

  pub in_both : (n k : ℕ) (s : Statement) (ss : Statements) (a : ℕ) (scope : Scope) (path : List PathStep) → a + length (accesses scope n path s) + length (accesses_all scope (n + statement_count s) path ss) ≡ a + length (accesses scope n path s ++ accesses_all scope (n + statement_count s) path ss)
  in_both n k s ss a scope path =
      let w : length (accesses scope n path s ++ accesses_all scope (n + statement_count s) path ss) ≡ length (accesses scope n path s) + length (accesses_all scope (n + statement_count s) path ss) = length-append (accesses scope n path s) (accesses_all scope (n + statement_count s) path ss) in
      omega (arith, w)

  pub in_rest : (n : ℕ) (path : List PathStep) (s : Statement) (ss : Statements) (site : Site) (cells c : Cells) → (run s site cells).out ≡ Ok c → (g : Group) → In g (groups_of_all (n + statement_count s) path ss site c) → In g (groups_of_all n path (statement s ss) site cells)
  in_rest n path s ss site cells c h g i = in_right g (groups_of n path s site cells) (groups_from (run s site cells).out (groups_of_all (n + statement_count s) path ss site))
      (subst (λ (o : Result Cells TrapAt). In g (groups_from o (groups_of_all (n + statement_count s) path ss site))) (sym h) i)

  pub in_first : (n : ℕ) (path : List PathStep) (s : Statement) (ss : Statements) (site : Site) (cells : Cells) (g : Group) → In g (groups_of n path s site cells) → In g (groups_of_all n path (statement s ss) site cells)
  in_first n path s ss site cells g i = in_left g (groups_of n path s site cells) (groups_from (run s site cells).out (groups_of_all (n + statement_count s) path ss site)) i

  pub all_told : (n a : ℕ) (k : Known) (path : List PathStep) (site : Site) (cells d : Cells) (to : List PathStep) (ss : Statements) (tail : List PathStep) → to ≡ path ++ tail → Outside n (n + statements_count ss) tail → RanAll ss site cells d →
      Told n (n + statements_count ss) a (a + length (accesses_all (scope_at site) n path ss)) no_loops k site cells to (spots_in (set site) n k path a ss) (groups_of_all n path ss site cells)
  all_told n a k path site cells d to no_statements tail q o r = record { bindings = []; lies = tt; apart = tt; met = λ v g h rd x i lead. absurd i }
  all_told n a k path site cells d to (statement s ss) tail q o r =
      let b = bound (run s site cells) (run_all ss site) d r.ran in
      let c = counted s in
      let m = n + statement_count s in
      let own = accesses (scope_at site) n path s in
      let others = accesses_all (scope_at site) m path ss in
      let one = one_told n a k path site cells b.value to s tail q (outside_first n (n + (statement_count s + statements_count ss)) m (omega arith) tail o) (first_ran s ss site cells d r b.value b.first) in
      let more = all_told m (a + length own) (known_after side n s k) path site b.value d to ss tail q
      (subst (λ (z : ℕ). Outside m z tail) (let z : n + (statement_count s + statements_count ss) ≡ m + statements_count ss = omega arith in z) (outside_second n (n + (statement_count s + statements_count ss)) m (omega arith) tail o))
      (rest_ran s ss site cells d r b.value b.first b.second) in
      let e : a + length own + length others ≡ a + length (own ++ others) = in_both n 0 s ss a (scope_at site) path in
      let i : m + statements_count ss ≡ n + (statement_count s + statements_count ss) = omega arith in
      then_told n m (m + statements_count ss) (n + (statement_count s + statements_count ss)) a (a + length own) (a + length own + length others) (a + length (own ++ others)) no_loops no_loops no_loops k (known_after side n s k) site site cells b.value to
      (spots_of (set site) n k path a s) (spots_in (set site) m (known_after side n s k) path (a + length own) ss) (groups_of n path s site cells) (groups_of_all m path ss site b.value) (groups_of_all n path (statement s ss) site cells)
      (omega arith) (omega arith) (omega (arith, i)) (omega arith) (omega arith) (omega (arith, e)) (λ l h g. cc) (λ l h. h) (λ l h. h) (in_first n path s ss site cells) (in_rest n path s ss site cells b.value b.first) refl one.told
      (λ v g h. known_after_holds v side n s k site cells b.value (and_parts (is_sequential s) (are_sequential ss) r.sequential).0 b.first (one.stored v g) h) (λ v rd. rd) more
