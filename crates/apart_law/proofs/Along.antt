-- For each group that a run came to, values for atoms, with which each spot on the path to it is met.
use Rattle.std.proofs.Common.{◌≡◌, ℕ, zero, suc, ◌+◌, ◌≤◌, Bool, true, false, ◌⊎◌, ℤ, List, [], ◌∷◌, ◌++◌, length, refl, ap, sym, ◌∙◌, subst, arith, append_assoc, length-append, Option, Some, None, Ok}
use mathlib.Core.Logic.{inl, inr}
use Rattle.std.specs.Prelude.{◌||◌, cond, if◌then◌else◌, nat_eq, bytes_eq}
use Rattle.std.proofs.lemmas.Bool.{and_parts}
use Rattle.std.proofs.lemmas.Bool.Decides.{nat_tests}
use Rattle.fl_ast.specs.Tree.{Expression, Designator, Condition, Statement, assignment, branch, loop, Statements, no_statements, statement, Arms, no_arms, arm}
use Rattle.fl_types.specs.declared.access.PathStep.{PathStep}
use Rattle.fl_types.specs.declared.access.PathStep.TheVariants.{Arm, Test, Body}
use Rattle.fl_types.specs.Sharing.{has_name}
use Rattle.fl_types.specs.Accesses.{Occurrence, condition_reads, accesses, accesses_all, arms_accesses, statement_count, statements_count, arms_count, test_path}
use Rattle.meaning.specs.declared.value.IterationCount.{IterationCount}
use Rattle.meaning.specs.Sites.{Cells, Site, in_turn}
use Rattle.meaning.specs.Expressions.{holds}
use Rattle.meaning.specs.Statements.{Run, turns_of, value_at, turns, one_turn, run, run_all, run_arms}
use Rattle.meaning.specs.Sequential.{is_sequential, are_sequential, are_arms_sequential}
use Rattle.meaning.specs.Touches.{scope_at}
use Rattle.meaning.specs.Reached.{cells_with, HoldsAtAll, HoldsInArms, IsSound, AreDefinedTests}
use Rattle.meaning.specs.Groups.{Group, group_at, assignment_group, groups_from, groups_of_turns, groups_of, groups_of_all, groups_of_arms}
use Rattle.meaning.proofs.Parts.{bound, result_once, loop_run, turn_run, arm_run, other_run}
use Rattle.meaning.proofs.GroupReadings.{append_nil}
use Rattle.index_forms.specs.declared.form.Side.{Side}
use Rattle.index_forms.specs.Form.{Atom, start, iter, inner, inv, version, read, opaque, start2, iter2}
use Rattle.index_forms.specs.Formed.{Known}
use Rattle.index_forms.specs.Loops.{written_in, written_in_arms}
use Rattle.index_forms.specs.Walk.{without, known_after, known_inside}
use Rattle.index_ranges.specs.Ranges.{KnownRange}
use Rattle.index_law.specs.Worth.{HoldsKnown}
use Rattle.index_law.specs.Meetings.{In}
use Rattle.index_law.specs.Paths.{LeadsTo}
use Rattle.index_law.specs.Steps.{HasStored}
use Rattle.index_law.specs.Valuations.{HasReads, HoldsFixed}
use Rattle.index_law.specs.Fixed.{AreOff}
use Rattle.index_law.proofs.GroupKeys.{split, by_side}
use Rattle.index_law.proofs.Meets.{in_left, in_right}
use Rattle.index_law.proofs.Steps.{or_first, or_second, or_both, known_less, known_after_holds, known_inside_holds}
use Rattle.index_law.proofs.Fixed.{fixed_inside}
use Rattle.index_law.proofs.Shapes.{arm_of, AtNumber, FromNumber, FromArm}
use Rattle.apart_law.specs.Bindings.{Binding, Agrees, Lies, AllLie, no_loops}
use Rattle.apart_law.specs.Numbers.{numbers_by, numbers_in, numbers_in_arms, IsNumbered, AreNumbered, AreNumberedArms, IsInRange, AreInRange, RangesHold}
use Rattle.apart_law.specs.Spots.{Spot, spot_at, bounds_accesses, spots_of, spots_in, spots_in_arms, Met}
use Rattle.apart_law.proofs.Bound.{agrees_left, agrees_right, lie_wider, absent_in}
use Rattle.apart_law.proofs.Leaves.{AllDefined}
use Rattle.apart_law.proofs.Defined.{condition_defined, bounds_defined}
use Rattle.apart_law.proofs.Shapes.{Beneath, beneath_weaker, beneath_deeper, arm_number, later_arm, at_from, later_from, in_this_arm, test_beneath, joined, rests, same_head, counted, outside_behind, outside_before, beneath_all, beneath_arms}
use Rattle.apart_law.proofs.Direct.{set, Ran, RanAll, Told, has_both, own_met, group_told, assigned_told, one_told, first_ran, rest_ran, then_told, in_both, in_first, in_rest, all_told}
use Rattle.apart_law.proofs.Members.{in_result, of_result, turn_of, in_turns}

longer : (path : List PathStep) (t : PathStep) (r : List PathStep) → path ≡ path ++ t ∷ r → ⊥
longer [] t r e = cc
longer (u ∷ path) t r e = longer path t r (let f : path ≡ path ++ t ∷ r = cc in f)

itself : (n : ℕ) → nat_eq n n ≡ true
itself n = grind (arith, nat_tests)

pub unlooped_here : (l : ℕ) → no_loops l ≡ true → ⊥
unlooped_here l h = cc

or_left : (p q : Bool) → p ≡ true → (p || q) ≡ true
or_left true q h = refl
or_left false q h = cc

or_right : (p q : Bool) → q ≡ true → (p || q) ≡ true
or_right true q h = refl
or_right false q h = h

ranged_both : (range : ℕ → Option KnownRange) (bs cs : List Binding) → AreInRange range bs → AreInRange range cs → AreInRange range (bs ++ cs)
ranged_both range [] cs h g = g
ranged_both range (b ∷ bs) cs h g = (h.0, ranged_both range bs cs h.1 g)

-- where none of a loop's variables is bound
unlooped : (range : ℕ → Option KnownRange) (side : Side) (n m a b : ℕ) (bs : List Binding) → AllLie side n m a b no_loops bs → AreInRange range bs
unlooped range side n m a b [] h = tt
unlooped range side n m a b (x ∷ bs) h = (one_unlooped x.0 x.1 h.0, unlooped range side n m a b bs h.1)
  where
    one_unlooped : (y : Atom) (z : ℤ) → Lies side n m a b no_loops y → IsInRange range y z
    one_unlooped start z h = tt
    one_unlooped (iter s) z h = tt
    one_unlooped (inner s l) z h = let i = h.1 in cc
    one_unlooped (inv y) z h = tt
    one_unlooped (version s k y) z h = tt
    one_unlooped (read y fs) z h = tt
    one_unlooped (opaque s k i) z h = tt
    one_unlooped start2 z h = tt
    one_unlooped (iter2 s) z h = tt

-- ---- how many accesses come before a group that a run came to

abbrev pub either : {A B : Type 0} (P : Type 0) → A ⊎ B → (A → P) → (B → P) → P
either P (inl a) f g = f a
either P (inr b) f g = g b

either_at : {A B : Type 0} (P : A ⊎ B → Type 0) (s : A ⊎ B) → ((a : A) → P (inl a)) → ((b : B) → P (inr b)) → P s
either_at P (inl a) f g = f a
either_at P (inr b) f g = g b

-- in the arm that was taken, or behind it
abbrev key_taken : {R S A B : Type 0} (b : Bool) → cond b R S → cond b A B → (R → A → ℕ) → (S → B → ℕ) → ℕ
key_taken true r h f g = f r h
key_taken false r h f g = g r h

-- a member of one of two lists
abbrev member_of : (g : Group) (b : Bool) (xs ys : List Group) → In g (if b then xs else ys) → cond b (In g xs) (In g ys)
member_of g true xs ys h = h
member_of g false xs ys h = h

abbrev mutual
  pub key_one : (n a : ℕ) (path : List PathStep) (s : Statement) (site : Site) (cells d : Cells) → (run s site cells).out ≡ Ok d → (g : Group) → In g (groups_of n path s site cells) → ℕ
  key_one n a path (assignment line atomic p e) site cells d r g h = a
  key_one n a path (branch line arms other) site cells d r g h = key_arms line n (n + 1) 0 a path arms other site cells d r g (λ i steps b q w. key_all i b steps other site cells d q g w) h
  key_one n a path (loop line number (Some directive) var low high step body) site cells d r g h = a
  key_one n a path (loop line number None var low high step body) site cells d r g (inl e) = a
  key_one n a path (loop line number None var low high step body) site cells d r g (inr h) =
      let os = bounds_accesses (scope_at site) line path low high step in
      let at = path ++ Body n ∷ [] in
      let l = loop_run site cells line number var low high step body d r in
      let f : ℕ → Run = one_turn site var l.count (run_all body) in
      let turned : IterationCount → ℕ → Cells → List Group = λ t k c. groups_of_all (n + 1) at body (in_turn site var) (cells_with site var (value_at t k) c) in
      let t = turn_of g l.count.count f (turned l.count) cells d l.ran (of_result g (turns_of low high step site cells).out l.count (λ t. groups_of_turns t.count (one_turn site var t (run_all body)) (turned t) cells) l.evaluated h) in
      let u = turn_run l.count.count t.number f cells d l.ran t.within in
      let same : u.before ≡ t.before = result_once (turns t.number f cells).out u.before t.before u.reached t.reached in
      let ran : (run_all body (in_turn site var) (cells_with site var (value_at l.count t.number) t.before)).out ≡ Ok u.past = subst (λ (c : Cells). (f t.number c).out ≡ Ok u.past) same u.ran in
      key_all (n + 1) (a + length os) at body (in_turn site var) (cells_with site var (value_at l.count t.number) t.before) u.past ran g t.has

  pub key_all : (n a : ℕ) (path : List PathStep) (ss : Statements) (site : Site) (cells d : Cells) → (run_all ss site cells).out ≡ Ok d → (g : Group) → In g (groups_of_all n path ss site cells) → ℕ
  key_all n a path no_statements site cells d r g h = a
  key_all n a path (statement s ss) site cells d r g h =
      let b = bound (run s site cells) (run_all ss site) d r in
      let m = n + statement_count s in
      either ℕ (split g (groups_of n path s site cells) (groups_from (run s site cells).out (groups_of_all m path ss site)) h)
      (λ q. key_one n a path s site cells b.value b.first g q)
      (λ q. key_all m (a + length (accesses (scope_at site) n path s)) path ss site b.value d b.second g (of_result g (run s site cells).out b.value (groups_of_all m path ss site) b.first q))

  key_arms : (line n j m a : ℕ) (path : List PathStep) (arms : Arms) (other : Statements) (site : Site) (cells d : Cells) → (run_arms arms line m (run_all other) site cells).out ≡ Ok d → (g : Group) →
      ((i : ℕ) (steps : List PathStep) (b : ℕ) → (run_all other site cells).out ≡ Ok d → In g (groups_of_all i steps other site cells) → ℕ) → In g (groups_of_arms line n j m path arms (λ i steps. groups_of_all i steps other) site cells) → ℕ
  key_arms line n j m a path no_arms other site cells d r g rest h = rest j (path ++ Arm n m ∷ []) a (other_run site cells line m (run_all other) d r) h
  key_arms line n j m a path (arm test body arms) other site cells d r g rest (inl e) = a
  key_arms line n j m a path (arm test body arms) other site cells d r g rest (inr h) =
      let tests = condition_reads (scope_at site) line (test_path path n m) test in
      let at = path ++ Arm n m ∷ [] in
      let here = groups_of_all j at body site cells in
      let there = groups_of_arms line n (j + statements_count body) (m + 1) path arms (λ i steps. groups_of_all i steps other) site cells in
      let t = arm_run site cells test body arms line m (run_all other) d r in
      key_taken t.taken t.ran (member_of g t.taken here there (of_result g (holds test site cells).out t.taken (λ b. if b then here else there) t.evaluated h))
      (λ q w. key_all j (a + length tests) at body site cells d q g w)
      (λ q w. key_arms line n (j + statements_count body) (m + 1) (a + length tests + length (accesses_all (scope_at site) j at body)) path arms other site cells d q g rest w)

module _ (side : Side) (fixed : List ℕ → Bool) (before : Cells) (range : ℕ → Option KnownRange) (ranges : RangesHold) where
  -- the spot of a group, with values for atoms
  pub record Found (P : List PathStep → Type 0) (n m a b : ℕ) (loops : ℕ → Bool) (k : Known) (path : List PathStep) (site : Site) (cells : Cells) (spots : List Spot) (gs : List Group) (g : Group) (key : ℕ) : Type 0 where
    pub spot : Spot
    pub begins : spot.before ≡ key
    pub among : In spot spots
    pub beneath : Beneath P path spot
    pub told : Told side fixed before n m a b loops k site cells spot.path spots gs
    pub ranged : AreInRange range told.bindings
    pub own : (v : Atom → ℤ) → Agrees v told.bindings → HoldsKnown v k site cells → HasReads v site before → Met v (set side fixed before site) spot g

  -- ---- parts

  -- other spots that aren't on the path, in front of these or behind them
  abbrev spots_around : (n m a b n2 m2 a2 b2 : ℕ) (loops all : ℕ → Bool) (k : Known) (site : Site) (cells : Cells) (to : List PathStep) (fs xs ls : List Spot) (gs whole : List Group) → n2 ≤ n → m ≤ m2 → a2 ≤ a → b ≤ b2 →
      ((l : ℕ) → loops l ≡ true → all l ≡ true) → ((x : Spot) → In x fs → LeadsTo x.path to → ⊥) → ((x : Spot) → In x ls → LeadsTo x.path to → ⊥) → ((g : Group) → In g gs → In g whole) →
      Told side fixed before n m a b loops k site cells to xs gs → Told side fixed before n2 m2 a2 b2 all k site cells to (fs ++ (xs ++ ls)) whole
  spots_around n m a b n2 m2 a2 b2 loops all k site cells to fs xs ls gs whole i j x y f off beyond into t = record {
    bindings = t.bindings;
    lies = lie_wider side n m a b n2 m2 a2 b2 loops all i j x y f t.bindings t.lies;
    apart = t.apart;
    met = λ v g h rd z q lead. by_side ((g : Group) × In g whole × Met v (set side fixed before site) z g) (split z fs (xs ++ ls) q)
        (λ e. absurd (off z e lead))
        (λ e. by_side ((g : Group) × In g whole × Met v (set side fixed before site) z g) (split z xs ls e)
        (λ w. let o = t.met v g h rd z w lead in (o.0, into o.0 o.1, o.2))
        (λ w. absurd (beyond z w lead)));
  }

  -- ---- a condition, where the path leads to it

  -- what stands in an arm, or in a later one, isn't on the path to the arm's test
  not_to_test : (n m j : ℕ) (path : List PathStep) (x : Spot) → Beneath (FromNumber j) (path ++ Arm n m ∷ []) x → LeadsTo x.path (test_path path n m) → ⊥
  not_to_test n zero j path x u lead = longer path (Arm n zero) (u.0 ++ lead.0) (lead.1 ∙ (ap (λ (w : List PathStep). w ++ lead.0) (u.1 ∙ joined path (Arm n zero) u.0) ∙ simp append_assoc))
  not_to_test n (suc m) j path x u lead =
      let e = rests path (Arm n (suc m) ∷ u.0) (Test n (suc m) ∷ []) lead.0 x.path (path ++ Test n (suc m) ∷ []) (u.1 ∙ joined path (Arm n (suc m)) u.0) refl lead.1 in
      let i : Test n (suc m) ≡ Arm n (suc m) = same_head (Test n (suc m)) (Arm n (suc m)) [] (u.0 ++ lead.0) e in
      cc

  not_back : (n m : ℕ) (path : List PathStep) (x : Spot) → Beneath (FromArm n (m + 1)) path x → LeadsTo x.path (test_path path n m) → ⊥
  not_back n zero path x u lead = by_rest u.0 u.1 u.2
    where
      by_rest : (r : List PathStep) → x.path ≡ path ++ r → FromArm n 1 r → ⊥
      by_rest [] e f = absurd (omega (arith, f))
      by_rest (t ∷ r) e f = longer path t (r ++ lead.0) (lead.1 ∙ (ap (λ (w : List PathStep). w ++ lead.0) e ∙ simp append_assoc))
  not_back n (suc m) path x u lead = by_rest u.0 u.1 u.2
    where
      by_rest : (r : List PathStep) → x.path ≡ path ++ r → FromArm n (suc m + 1) r → ⊥
      by_rest [] e f = absurd (omega (arith, f))
      by_rest (t ∷ r) e f =
          let i = rests path (t ∷ r) (Test n (suc m) ∷ []) lead.0 x.path (path ++ Test n (suc m) ∷ []) e refl lead.1 in
          let j : arm_of (Test n (suc m)) ≡ arm_of t = ap arm_of (same_head (Test n (suc m)) t [] (r ++ lead.0) i) in
          let l = f.1 in
          absurd (omega (arith, j, l))

  -- what stands in a later arm isn't on a path into this one, nor the other way about
  not_later : (n m : ℕ) (path tail : List PathStep) (to : List PathStep) (x : Spot) → to ≡ path ++ Arm n m ∷ tail → Beneath (FromArm n (m + 1)) path x → LeadsTo x.path to → ⊥
  not_later n m path tail to x q u lead = by_rest u.0 u.1 u.2
    where
      by_rest : (r : List PathStep) → x.path ≡ path ++ r → FromArm n (m + 1) r → ⊥
      by_rest [] e f = absurd (omega (arith, f))
      by_rest (t ∷ r) e f =
          let i = rests path (t ∷ r) (Arm n m ∷ tail) lead.0 x.path to e q lead.1 in
          let j : arm_of (Arm n m) ≡ arm_of t = ap arm_of (same_head (Arm n m) t tail (r ++ lead.0) i) in
          let l = f.1 in
          absurd (omega (arith, j, l))

  not_earlier : (n m j : ℕ) (path tail : List PathStep) (to : List PathStep) (x : Spot) → to ≡ path ++ tail → FromArm n (m + 1) tail → Beneath (FromNumber j) (path ++ Arm n m ∷ []) x → LeadsTo x.path to → ⊥
  not_earlier n m j path [] to x q f u lead = absurd (omega (arith, f))
  not_earlier n m j path (t ∷ tail) to x q f u lead =
      let i = rests path (Arm n m ∷ u.0) (t ∷ tail) lead.0 x.path to (u.1 ∙ joined path (Arm n m) u.0) q lead.1 in
      let z : arm_of t ≡ arm_of (Arm n m) = ap arm_of (same_head t (Arm n m) tail (u.0 ++ lead.0) i) in
      let l = f.1 in
      omega (arith, z, l)

  -- ---- more of what was told

  abbrev spots_in_front : (n m a b n2 a2 : ℕ) (loops all : ℕ → Bool) (k less : Known) (site : Site) (cells : Cells) (to : List PathStep) (fs xs : List Spot) (gs whole : List Group) (m2 b2 : ℕ) → n2 ≤ n → m ≤ m2 → a2 ≤ a → b ≤ b2 →
      ((l : ℕ) → loops l ≡ true → all l ≡ true) → ((x : Spot) → In x fs → LeadsTo x.path to → ⊥) → ((g : Group) → In g gs → In g whole) → ((v : Atom → ℤ) → HoldsKnown v k site cells → HoldsKnown v less site cells) →
      Told side fixed before n m a b loops less site cells to xs gs → Told side fixed before n2 m2 a2 b2 all k site cells to (fs ++ xs) whole
  spots_in_front n m a b n2 a2 loops all k less site cells to fs xs gs whole m2 b2 i j x y f off into knows t = record {
    bindings = t.bindings;
    lies = lie_wider side n m a b n2 m2 a2 b2 loops all i j x y f t.bindings t.lies;
    apart = t.apart;
    met = λ v g h rd z q lead. by_side ((g : Group) × In g whole × Met v (set side fixed before site) z g) (split z fs xs q)
        (λ e. absurd (off z e lead))
        (λ w. let o = t.met v g (knows v h) rd z w lead in (o.0, into o.0 o.1, o.2));
  }

  abbrev found_wider : (P Q : List PathStep → Type 0) (n m a b n2 m2 b2 : ℕ) (loops all : ℕ → Bool) (k : Known) (path deep : List PathStep) (site : Site) (cells : Cells) (spots : List Spot) (gs : List Group) (g : Group) (key : ℕ) → n2 ≤ n → m ≤ m2 → b ≤ b2 →
      ((l : ℕ) → loops l ≡ true → all l ≡ true) → ((x : Spot) → Beneath P deep x → Beneath Q path x) →
      Found P n m a b loops k deep site cells spots gs g key → Found Q n2 m2 a b2 all k path site cells spots gs g key
  found_wider P Q n m a b n2 m2 b2 loops all k path deep site cells spots gs g key i j y f above t = record {
    spot = t.spot;
    begins = t.begins;
    among = t.among;
    beneath = above t.spot t.beneath;
    told = record {
      bindings = t.told.bindings;
      lies = lie_wider side n m a b n2 m2 a b2 loops all i j (omega arith) y f t.told.bindings t.told.lies;
      apart = t.told.apart;
      met = t.told.met;
    };
    ranged = t.ranged;
    own = t.own;
  }

  -- ---- statements

  record FoundOne (n a : ℕ) (k : Known) (path : List PathStep) (s : Statement) (site : Site) (cells d : Cells) (g : Group) (key : ℕ) : Type 0 where
    found : Found (AtNumber n) n (n + statement_count s) a (a + length (accesses (scope_at site) n path s)) (numbers_by s) k path site cells (spots_of (set side fixed before site) n k path a s) (groups_of n path s site cells) g key
    stored : (v : Atom → ℤ) → Agrees v found.told.bindings → HasStored v side n s site d

  record ArmsRan (line m : ℕ) (arms : Arms) (other : Statements) (site : Site) (cells d : Cells) : Type 0 where
    sequential : are_arms_sequential arms ≡ true
    others : are_sequential other ≡ true
    ran : (run_arms arms line m (run_all other) site cells).out ≡ Ok d
    tests : AreDefinedTests site cells arms
    sound : HoldsInArms IsSound arms (HoldsAtAll IsSound other) site cells
    off : AreOff fixed (written_in_arms arms ++ written_in other)
    holds : HoldsFixed fixed before site cells

  -- an assignment
  found_assigned : (n a : ℕ) (k : Known) (path : List PathStep) (line : ℕ) (atomic : Bool) (p : Designator) (e : Expression) (site : Site) (cells d : Cells) → Ran side fixed before (assignment line atomic p e) site cells d →
      (g : Group) → In g (groups_of n path (assignment line atomic p e) site cells) → FoundOne n a k path (assignment line atomic p e) site cells d g a
  found_assigned n a k path line atomic p e site cells d r g (inr h) = absurd h
  found_assigned n a k path line atomic p e site cells d r g (inl f) =
      let t = assigned_told side fixed before n a k path site cells d path line atomic p e r in
      record {
        found = record {
          spot = _;
          begins = refl;
          among = inl refl;
          beneath = ([], sym (append_nil path), tt);
          told = record { bindings = t.told.bindings; lies = lie_wider side n (n + 1) a (a + length (accesses (scope_at site) n path (assignment line atomic p e))) n (n + 1) a (a + length (accesses (scope_at site) n path (assignment line atomic p e))) no_loops (numbers_by (assignment line atomic p e)) (omega arith) (omega arith) (omega arith) (omega arith) (λ l h. cc) t.told.bindings t.told.lies; apart = t.told.apart; met = t.told.met };
          ranged = unlooped range side n (n + 1) a (a + length (accesses (scope_at site) n path (assignment line atomic p e))) t.told.bindings t.told.lies;
          own = λ v w h rd. the_group v g f (t.told.met v w h rd _ (inl refl) ([], sym (append_nil path)));
        };
        stored = t.stored;
      }
    where
      the_group : (v : Atom → ℤ) (g : Group) {x : Spot} → assignment_group n path site cells line atomic p e ≡ g → (h : Group) × In h (groups_of n path (assignment line atomic p e) site cells) × Met v (set side fixed before site) x h → Met v (set side fixed before site) x g
      the_group v g {x} f (h, inl i, m) = subst (λ (z : Group). Met v (set side fixed before site) x z) (sym i ∙ f) m
      the_group v g f (h, inr i, m) = absurd i

  off_body : (var : List ℕ) (body : Statements) → AreOff fixed (var ∷ written_in body) → AreOff fixed (written_in body)
  off_body var body h x f = or_second (bytes_eq x var) (has_name x (written_in body)) (h x f)

  -- names that neither the first nor the last of three write
  off_first : (xs ys zs : List (List ℕ)) → AreOff fixed ((xs ++ ys) ++ zs) → AreOff fixed xs
  off_first xs ys zs h x f =
      let p : (has_name x (xs ++ ys) || has_name x zs) ≡ false = sym (has_both x (xs ++ ys) zs) ∙ h x f in
      or_first (has_name x xs) (has_name x ys) (sym (has_both x xs ys) ∙ or_first (has_name x (xs ++ ys)) (has_name x zs) p)

  off_others : (xs ys zs : List (List ℕ)) → AreOff fixed ((xs ++ ys) ++ zs) → AreOff fixed (ys ++ zs)
  off_others xs ys zs h x f =
      let p : (has_name x (xs ++ ys) || has_name x zs) ≡ false = sym (has_both x (xs ++ ys) zs) ∙ h x f in
      let q : (has_name x xs || has_name x ys) ≡ false = sym (has_both x xs ys) ∙ or_first (has_name x (xs ++ ys)) (has_name x zs) p in
      has_both x ys zs ∙ or_both (has_name x ys) (has_name x zs) (or_second (has_name x xs) (has_name x ys) q) (or_second (has_name x (xs ++ ys)) (has_name x zs) p)

  taken_as : (R S : Type 0) (b : Bool) → cond b R S → (b ≡ true → R)
  taken_as R S true h e = h
  taken_as R S false h e = cc

  not_taken_as : (R S : Type 0) (b : Bool) → cond b R S → (b ≡ false → S)
  not_taken_as R S true h e = cc
  not_taken_as R S false h e = h

  -- an arm with those behind it
  module _ (line n j m a : ℕ) (k : Known) (path : List PathStep) (test : Condition) (body : Statements) (arms : Arms) (other : Statements) (site : Site) (cells d : Cells) (r : ArmsRan line m (arm test body arms) other site cells d) (g : Group) where
    abbrev at : List PathStep
    at = path ++ Arm n m ∷ []

    abbrev to_test : List PathStep
    to_test = test_path path n m

    abbrev tests : List Occurrence
    tests = condition_reads (scope_at site) line to_test test

    abbrev inner_accesses : List Occurrence
    inner_accesses = accesses_all (scope_at site) j at body

    abbrev later_accesses : List Occurrence
    later_accesses = arms_accesses (scope_at site) line n (j + statements_count body) (m + 1) path arms (λ i steps. accesses_all (scope_at site) i steps other)

    abbrev total : ℕ
    total = a + length (tests ++ (inner_accesses ++ later_accesses))

    parts : a + length tests + length inner_accesses + length later_accesses ≡ total
    parts =
        let x : length (tests ++ (inner_accesses ++ later_accesses)) ≡ length tests + length (inner_accesses ++ later_accesses) = length-append tests (inner_accesses ++ later_accesses) in
        let y : length (inner_accesses ++ later_accesses) ≡ length inner_accesses + length later_accesses = length-append inner_accesses later_accesses in
        omega (arith, x, y)

    abbrev counts : ℕ
    counts = j + (arms_count (arm test body arms) + statements_count other)

    abbrev loops : ℕ → Bool
    loops = λ l. numbers_in_arms (arm test body arms) l || numbers_in other l

    abbrev own : List Spot
    own = spots_in (set side fixed before site) j k at (a + length tests) body

    abbrev less : Known
    less = without (written_in body) k

    abbrev behind : List Spot
    behind = spots_in_arms (set side fixed before site) line n (j + statements_count body) (m + 1) less path (a + length tests + length inner_accesses) arms (λ i h steps b. spots_in (set side fixed before site) i h steps b other)

    abbrev here : List Group
    here = groups_of_all j at body site cells

    abbrev there : List Group
    there = groups_of_arms line n (j + statements_count body) (m + 1) path arms (λ i steps. groups_of_all i steps other) site cells

    abbrev chosen : Bool → List Group
    chosen = λ b. if b then here else there

    abbrev whole : List Group
    whole = groups_of_arms line n j m path (arm test body arms) (λ i steps. groups_of_all i steps other) site cells

    abbrev Wanted : ℕ → Type 0
    Wanted key = Found (FromArm n m) j counts a total loops k path site cells (spot_at k a to_test tests ∷ (own ++ behind)) whole g key

    below_own : (x : Spot) → In x own → Beneath (FromNumber j) at x
    below_own x i = beneath_all (set side fixed before site) j k at (a + length tests) body x i

    below_behind : (x : Spot) → In x behind → Beneath (FromArm n (m + 1)) path x
    below_behind x i = beneath_arms (set side fixed before site) line n (j + statements_count body) (m + 1) less path (a + length tests + length inner_accesses) arms (λ i h steps b. spots_in (set side fixed before site) i h steps b other) x
        (λ i h steps b w. beneath_all (set side fixed before site) i h steps b other x w) i

    defined : AllDefined site cells tests
    defined = condition_defined site cells (scope_at site) line to_test test r.tests.0

    abbrev head : (to : List PathStep) → Told side fixed before j j a (a + length tests) no_loops k site cells to (spot_at k a to_test tests ∷ []) whole
    head to = group_told side fixed before j j a k site cells to_test to tests (groups_from (holds test site cells).out chosen) (omega arith) defined r.holds

    into : (b : Bool) → (holds test site cells).out ≡ Ok b → (x : Group) → In x (chosen b) → In x whole
    into b e x i = inr (in_result x (holds test site cells).out b chosen e i)

    abbrev joined_told : (to : List PathStep) → Told side fixed before j counts (a + length tests) total loops k site cells to (own ++ behind) whole → Told side fixed before j counts a total loops k site cells to (spot_at k a to_test tests ∷ (own ++ behind)) whole
    joined_told to u = then_told side fixed before j j counts counts a (a + length tests) total total no_loops loops loops k k site site cells cells to (spot_at k a to_test tests ∷ []) (own ++ behind) whole whole whole
        (omega arith) (omega arith) (omega arith) (omega arith) (omega (arith, parts)) (omega arith) (λ l h g. unlooped_here l h) (λ l h. absurd (unlooped_here l h)) (λ l h. h) (λ x q. q) (λ x q. q) refl (head to) (λ v w h. h) (λ v rd. rd) u

    behind_loops : (l : ℕ) → (numbers_in_arms arms l || numbers_in other l) ≡ true → loops l ≡ true
    behind_loops l h = spread (numbers_in body l) (numbers_in_arms arms l) (numbers_in other l) h
      where
        spread : (p q r : Bool) → (q || r) ≡ true → ((p || q) || r) ≡ true
        spread true q r h = refl
        spread false q r h = h

    -- what was found in the arm, or behind it
    abbrev InBody : ℕ → Type 0
    InBody key = Found (FromNumber j) j (j + statements_count body) (a + length tests) (a + length tests + length inner_accesses) (numbers_in body) k at site cells own here g key

    abbrev InBehind : ℕ → Type 0
    InBehind key = Found (FromArm n (m + 1)) (j + statements_count body) (j + statements_count body + (arms_count arms + statements_count other)) (a + length tests + length inner_accesses) (a + length tests + length inner_accesses + length later_accesses)
        (λ l. numbers_in_arms arms l || numbers_in other l) less path site cells behind there g key

    abbrev body_ran : (holds test site cells).out ≡ Ok true → (run_all body site cells).out ≡ Ok d → RanAll side fixed before body site cells d
    body_ran e q = record { sequential = (and_parts (are_sequential body) (are_arms_sequential arms) r.sequential).0; ran = q; sound = r.sound.0 e; off = off_first (written_in body) (written_in_arms arms) (written_in other) r.off; holds = r.holds }

    abbrev behind_ran : (holds test site cells).out ≡ Ok false → (run_arms arms line (m + 1) (run_all other) site cells).out ≡ Ok d → ArmsRan line (m + 1) arms other site cells d
    behind_ran e q = record { sequential = (and_parts (are_sequential body) (are_arms_sequential arms) r.sequential).1; others = r.others; ran = q; tests = r.tests.1; sound = r.sound.1 e; off = off_others (written_in body) (written_in_arms arms) (written_in other) r.off; holds = r.holds }

    by_taken : (b : Bool) → (holds test site cells).out ≡ Ok b → (q : cond b ((run_all body site cells).out ≡ Ok d) ((run_arms arms line (m + 1) (run_all other) site cells).out ≡ Ok d)) → (w : In g (chosen b)) →
        (key_here : (run_all body site cells).out ≡ Ok d → In g here → ℕ) (key_there : (run_arms arms line (m + 1) (run_all other) site cells).out ≡ Ok d → In g there → ℕ) →
        ((r : RanAll side fixed before body site cells d) (w : In g here) → InBody (key_here r.ran w)) → ((r : ArmsRan line (m + 1) arms other site cells d) (w : In g there) → InBehind (key_there r.ran w)) →
        Wanted (key_taken b q (member_of g b here there w) key_here key_there)
    by_taken true e q w key_here key_there inside later =
        let i = inside (body_ran e q) w in
        let u = spots_around j (j + statements_count body) (a + length tests) (a + length tests + length inner_accesses) j counts (a + length tests) total (numbers_in body) loops k site cells i.spot.path [] own behind here whole
        (omega arith) (omega arith) (omega arith) (omega (arith, parts)) (λ l h. or_left (numbers_in body l || numbers_in_arms arms l) (numbers_in other l) (or_left (numbers_in body l) (numbers_in_arms arms l) h)) (λ x q. absurd q)
        (λ x q. not_later n m path i.beneath.0 i.spot.path x (i.beneath.1 ∙ joined path (Arm n m) i.beneath.0) (below_behind x q)) (into true e) i.told in
        record {
          spot = i.spot;
          begins = i.begins;
          among = inr (in_left i.spot own behind i.among);
          beneath = beneath_deeper (FromNumber j) (FromArm n m) path (Arm n m) i.spot (λ r w. in_this_arm n m r) i.beneath;
          told = joined_told i.spot.path u;
          ranged = ranged_both range (head i.spot.path).bindings u.bindings (unlooped range side j j a (a + length tests) (head i.spot.path).bindings (head i.spot.path).lies) i.ranged;
          own = λ v w h rd. i.own v (agrees_right v (head i.spot.path).bindings u.bindings w) h rd;
        }
    by_taken false e q w key_here key_there inside later =
        let i = later (behind_ran e q) w in
        let knows : (v : Atom → ℤ) → HoldsKnown v k site cells → HoldsKnown v less site cells = λ v h. known_less v (written_in body) k site cells h in
        let u = spots_in_front (j + statements_count body) (j + statements_count body + (arms_count arms + statements_count other)) (a + length tests + length inner_accesses) (a + length tests + length inner_accesses + length later_accesses) j (a + length tests)
        (λ l. numbers_in_arms arms l || numbers_in other l) loops k less site cells i.spot.path own behind there whole counts total
        (omega arith) (omega arith) (omega arith) (omega (arith, parts)) (λ l h. behind_loops l h) (λ x q. not_earlier n m j path i.beneath.0 i.spot.path x i.beneath.1 i.beneath.2 (below_own x q)) (into false e) knows i.told in
        record {
          spot = i.spot;
          begins = i.begins;
          among = inr (in_right i.spot own behind i.among);
          beneath = beneath_weaker (FromArm n (m + 1)) (FromArm n m) path i.spot (later_arm n m) i.beneath;
          told = joined_told i.spot.path u;
          ranged = ranged_both range (head i.spot.path).bindings u.bindings (unlooped range side j j a (a + length tests) (head i.spot.path).bindings (head i.spot.path).lies) i.ranged;
          own = λ v w h rd. i.own v (agrees_right v (head i.spot.path).bindings u.bindings w) (knows v h) rd;
        }

    test_found : (own_test : group_at site cells tests ≡ g) → Wanted a
    test_found e = record {
      spot = spot_at k a to_test tests;
      begins = refl;
      among = inl refl;
      beneath = test_beneath n m path (spot_at k a to_test tests) refl;
      told = spots_around j j a (a + length tests) j counts a total no_loops loops k site cells to_test [] (spot_at k a to_test tests ∷ []) (own ++ behind) whole whole
          (omega arith) (omega arith) (omega arith) (omega (arith, parts)) (λ l h. cc) (λ x q. absurd q)
          (λ x q lead. by_side ⊥ (split x own behind q) (λ w. not_to_test n m j path x (below_own x w) lead) (λ w. not_back n m path x (below_behind x w) lead)) (λ x q. q) (head to_test);
      ranged = unlooped range side j j a (a + length tests) (head to_test).bindings (head to_test).lies;
      own = λ v w h rd. subst (λ (z : Group). Met v (set side fixed before site) (spot_at k a to_test tests) z) e (own_met side fixed before v k a to_test site cells tests [] [] defined r.holds w h rd);
    }

  mutual
    found_one : (n a : ℕ) (k : Known) (path : List PathStep) (s : Statement) (site : Site) (cells d : Cells) (r : Ran side fixed before s site cells d) → IsNumbered range s →
        (g : Group) (h : In g (groups_of n path s site cells)) → FoundOne n a k path s site cells d g (key_one n a path s site cells d r.ran g h)
    found_one n a k path (assignment line atomic p e) site cells d r num g h = found_assigned n a k path line atomic p e site cells d r g h
    found_one n a k path (branch line arms other) site cells d r num g h =
        let c = and_parts (are_arms_sequential arms) (are_sequential other) r.sequential in
        let i = found_arms line n (n + 1) 0 a k path arms other site cells d
        (record { sequential = c.0; others = c.1; ran = r.ran; tests = r.sound.0.1; sound = r.sound.1; off = r.off; holds = r.holds }) num.0 g (λ i steps b q w. key_all i b steps other site cells d q g w) (λ i h steps b q w. found_all i b h steps other site cells d q num.1 g w) h in
        record {
          found = found_wider (FromArm n 0) (AtNumber n) (n + 1) (n + 1 + (arms_count arms + statements_count other)) a (a + length (accesses (scope_at site) n path (branch line arms other))) n (n + statement_count (branch line arms other)) (a + length (accesses (scope_at site) n path (branch line arms other)))
              (λ l. numbers_in_arms arms l || numbers_in other l) (numbers_by (branch line arms other)) k path path site cells (spots_of (set side fixed before site) n k path a (branch line arms other)) (groups_of n path (branch line arms other) site cells) g (key_one n a path (branch line arms other) site cells d r.ran g h)
              (omega arith) (omega arith) (omega arith) (λ l h. h) (λ x u. beneath_weaker (FromArm n 0) (AtNumber n) path x (arm_number n) u) i;
          stored = λ v g. tt;
        }
    found_one n a k path (loop line number (Some directive) var low high step body) site cells d r num g h = let z : false ≡ true = r.sequential in cc
    found_one n a k path (loop line number None var low high step body) site cells d r num g (inl e) =
        let os = bounds_accesses (scope_at site) line path low high step in
        let inner_accesses = accesses_all (scope_at site) (n + 1) (path ++ Body n ∷ []) body in
        let all = accesses (scope_at site) n path (loop line number None var low high step body) in
        let z : all ≡ os ++ inner_accesses = simp append_assoc in
        let y : length all ≡ length (os ++ inner_accesses) = ap length z in
        let w : length (os ++ inner_accesses) ≡ length os + length inner_accesses = length-append os inner_accesses in
        let defined = bounds_defined site cells (scope_at site) line path low high step r.sound.0.1.first.0 r.sound.0.1.last.0 r.sound.0.1.step in
        let t = group_told side fixed before n (n + statement_count (loop line number None var low high step body)) a k site cells path path os (groups_from (turns_of low high step site cells).out _) (omega arith) defined r.holds in
        record {
          found = record {
            spot = spot_at k a path os;
            begins = refl;
            among = inl refl;
            beneath = ([], sym (append_nil path), tt);
            told = record {
              bindings = t.bindings;
              lies = lie_wider side n (n + statement_count (loop line number None var low high step body)) a (a + length os) n (n + statement_count (loop line number None var low high step body)) a (a + length all) no_loops (numbers_by (loop line number None var low high step body)) (omega arith) (omega arith) (omega arith) (omega (arith, y, w)) (λ l h. cc) t.bindings t.lies;
              apart = t.apart;
              met = λ v w h rd x i lead. by_side ((g : Group) × In g (groups_of n path (loop line number None var low high step body) site cells) × Met v (set side fixed before site) x g) i
                  (λ m. t.met v w h rd x (inl m) lead)
                  (λ m.
                  let u = beneath_all (set side fixed before site) (n + 1) (known_inside side number var body k) (path ++ Body n ∷ []) (a + length os) body x m in
                  absurd (longer path (Body n) (u.0 ++ lead.0) (lead.1 ∙ (ap (λ (w : List PathStep). w ++ lead.0) (u.1 ∙ joined path (Body n) u.0) ∙ simp append_assoc))));
            };
            ranged = unlooped range side n (n + statement_count (loop line number None var low high step body)) a (a + length os) t.bindings t.lies;
            own = λ v w h rd. subst (λ (z : Group). Met v (set side fixed before site) (spot_at k a path os) z) e (own_met side fixed before v k a path site cells os [] [] defined r.holds w h rd);
          };
          stored = λ v g. tt;
        }
    found_one n a k path (loop line number None var low high step body) site cells d r num g (inr h) =
        let whole = loop line number None var low high step body in
        let os = bounds_accesses (scope_at site) line path low high step in
        let at = path ++ Body n ∷ [] in
        let inner_accesses = accesses_all (scope_at site) (n + 1) at body in
        let all = accesses (scope_at site) n path whole in
        let z : all ≡ os ++ inner_accesses = simp append_assoc in
        let y : length all ≡ length (os ++ inner_accesses) = ap length z in
        let w : length (os ++ inner_accesses) ≡ length os + length inner_accesses = length-append os inner_accesses in
        let l = loop_run site cells line number var low high step body d r.ran in
        let f : ℕ → Run = one_turn site var l.count (run_all body) in
        let turned : IterationCount → ℕ → Cells → List Group = λ t k c. groups_of_all (n + 1) at body (in_turn site var) (cells_with site var (value_at t k) c) in
        let t = turn_of g l.count.count f (turned l.count) cells d l.ran (of_result g (turns_of low high step site cells).out l.count (λ t. groups_of_turns t.count (one_turn site var t (run_all body)) (turned t) cells) l.evaluated h) in
        let u = turn_run l.count.count t.number f cells d l.ran t.within in
        let same : u.before ≡ t.before = result_once (turns t.number f cells).out u.before t.before u.reached t.reached in
        let ran : (run_all body (in_turn site var) (cells_with site var (value_at l.count t.number) t.before)).out ≡ Ok u.past = subst (λ (c : Cells). (f t.number c).out ≡ Ok u.past) same u.ran in
        let begun = cells_with site var (value_at l.count t.number) t.before in
        let inside = known_inside side number var body k in
        let i = found_all (n + 1) (a + length os) inside at body (in_turn site var) begun u.past
        (record { sequential = r.sequential; ran = ran; sound = r.sound.1 l.count l.evaluated t.number t.within t.before t.reached; off = off_body var body r.off; holds = fixed_inside fixed var body site before cells t.before l.count t.number r.sequential r.off t.reached r.holds })
        num.2 g t.has in
        let into : (x : Group) → In x (turned l.count t.number t.before) → In x (groups_of n path whole site cells) = λ x q.
        inr (in_result x (turns_of low high step site cells).out l.count (λ t. groups_of_turns t.count (one_turn site var t (run_all body)) (turned t) cells) l.evaluated
        (in_turns x l.count.count t.number f (turned l.count) cells t.before t.within t.reached q)) in
        let turn_known : (v : Atom → ℤ) → v (inner side number) ≡ value_at l.count t.number → HoldsKnown v k site cells → HoldsKnown v inside (in_turn site var) begun = λ v e h.
        known_inside_holds v side number var body k site cells t.before l.count t.number r.sequential t.reached e h in
        let head = group_told side fixed before n (n + 1) a k site cells path i.spot.path os (groups_from (turns_of low high step site cells).out (λ t. groups_of_turns t.count (one_turn site var t (run_all body)) (turned t) cells)) (omega arith)
        (bounds_defined site cells (scope_at site) line path low high step r.sound.0.1.first.0 r.sound.0.1.last.0 r.sound.0.1.step) r.holds in
        let deep : Told side fixed before (n + 1) (n + 1 + statements_count body) (a + length os) (a + length os + length inner_accesses) (numbers_by whole) k site cells i.spot.path (spots_in (set side fixed before site) (n + 1) inside at (a + length os) body) (groups_of n path whole site cells) = record {
          bindings = (inner side number, value_at l.count t.number) ∷ i.told.bindings;
          lies = (
            (refl, or_left (nat_eq number number) (numbers_in body number) (itself number)),
            lie_wider side (n + 1) (n + 1 + statements_count body) (a + length os) (a + length os + length inner_accesses) (n + 1) (n + 1 + statements_count body) (a + length os) (a + length os + length inner_accesses) (numbers_in body) (numbers_by whole) (omega arith) (omega arith) (omega arith) (omega arith)
                (λ l h. or_right (nat_eq l number) (numbers_in body l) h) i.told.bindings i.told.lies,
          );
          apart = (
            absent_in (λ (x : Atom). inner side number ≡ x) (Lies side (n + 1) (n + 1 + statements_count body) (a + length os) (a + length os + length inner_accesses) (numbers_in body))
                (λ x e q. (let p = subst (λ (y : Atom). Lies side (n + 1) (n + 1 + statements_count body) (a + length os) (a + length os + length inner_accesses) (numbers_in body) y) (sym e) q in let o : false ≡ true = sym num.0 ∙ p.1 in cc))
                (inner side number) refl i.told.bindings i.told.lies,
            i.told.apart,
          );
          met = λ v w h rd x q lead. let o = i.told.met v w.1 (turn_known v w.0 h) rd x q lead in (o.0, into o.0 o.1, o.2);
        } in
        record {
          found = record {
            spot = i.spot;
            begins = i.begins;
            among = inr i.among;
            beneath = beneath_deeper (FromNumber (n + 1)) (AtNumber n) path (Body n) i.spot (λ r w. refl) i.beneath;
            told = then_told side fixed before n (n + 1) (n + 1 + statements_count body) (n + statement_count whole) a (a + length os) (a + length os + length inner_accesses) (a + length all) no_loops (numbers_by whole) (numbers_by whole) k k site site cells cells i.spot.path
                (spot_at k a path os ∷ []) (spots_in (set side fixed before site) (n + 1) inside at (a + length os) body) (groups_of n path whole site cells) (groups_of n path whole site cells) (groups_of n path whole site cells)
                (omega arith) (omega arith) (omega arith) (omega arith) (omega arith) (omega (arith, y, w)) (λ l h g. cc) (λ l h. cc) (λ l h. h) (λ x q. q) (λ x q. q) refl head (λ v w h. h) (λ v rd. rd) deep;
            ranged = ranged_both range head.bindings deep.bindings (unlooped range side n (n + 1) a (a + length os) head.bindings head.lies)
                (λ rr e. ranges site cells low high step l.count t.number l.evaluated t.within number rr (num.1 rr e), i.ranged);
            own = λ v w h rd. let q = agrees_right v head.bindings deep.bindings w in i.own v q.1 (turn_known v q.0 h) rd;
          };
          stored = λ v g. tt;
        }

    pub found_all : (n a : ℕ) (k : Known) (path : List PathStep) (ss : Statements) (site : Site) (cells d : Cells) (r : RanAll side fixed before ss site cells d) → AreNumbered range ss →
        (g : Group) (h : In g (groups_of_all n path ss site cells)) →
        Found (FromNumber n) n (n + statements_count ss) a (a + length (accesses_all (scope_at site) n path ss)) (numbers_in ss) k path site cells (spots_in (set side fixed before site) n k path a ss) (groups_of_all n path ss site cells) g (key_all n a path ss site cells d r.ran g h)
    found_all n a k path no_statements site cells d r num g h = absurd h
    found_all n a k path (statement s ss) site cells d r num g h =
        let b = bound (run s site cells) (run_all ss site) d r.ran in
        let m = n + statement_count s in
        let more = n + (statement_count s + statements_count ss) in
        let c = counted s in
        let own = accesses (scope_at site) n path s in
        let others = accesses_all (scope_at site) m path ss in
        let after = known_after side n s k in
        let xs = spots_of (set side fixed before site) n k path a s in
        let ys = spots_in (set side fixed before site) m after path (a + length own) ss in
        let gs = groups_of n path s site cells in
        let hs = groups_of_all m path ss site b.value in
        let whole = groups_of_all n path (statement s ss) site cells in
        let first = first_ran side fixed before s ss site cells d r b.value b.first in
        let rest = rest_ran side fixed before s ss site cells d r b.value b.first b.second in
        let e : a + length own + length others ≡ a + length (own ++ others) = in_both side fixed before n 0 s ss a (scope_at site) path in
        let sequential = (and_parts (is_sequential s) (are_sequential ss) r.sequential).0 in
        either_at (λ z. Found (FromNumber n) n more a (a + length (own ++ others)) (numbers_in (statement s ss)) k path site cells (xs ++ ys) whole g
        (either ℕ z (λ q. key_one n a path s site cells b.value b.first g q) (λ q. key_all m (a + length own) path ss site b.value d b.second g (of_result g (run s site cells).out b.value (groups_of_all m path ss site) b.first q))))
        (split g gs (groups_from (run s site cells).out (groups_of_all m path ss site)) h)
        (λ q.
        let i = found_one n a k path s site cells b.value first num.0 g q in
        let u = all_told side fixed before m (a + length own) after path site b.value d i.found.spot.path ss i.found.beneath.0 i.found.beneath.1 (outside_behind n m (m + statements_count ss) (omega (arith, c)) i.found.beneath.0 i.found.beneath.2) rest in
        record {
          spot = i.found.spot;
          begins = i.found.begins;
          among = in_left i.found.spot xs ys i.found.among;
          beneath = beneath_weaker (AtNumber n) (FromNumber n) path i.found.spot (at_from n) i.found.beneath;
          told = then_told side fixed before n m (m + statements_count ss) more a (a + length own) (a + length own + length others) (a + length (own ++ others)) (numbers_by s) no_loops (numbers_in (statement s ss)) k after site site cells b.value i.found.spot.path xs ys gs hs whole
              (omega arith) (omega arith) (omega arith) (omega arith) (omega arith) (omega (arith, e)) (λ l h g. cc) (λ l h. or_left (numbers_by s l) (numbers_in ss l) h) (λ l h. cc) (in_first side fixed before n path s ss site cells) (in_rest side fixed before n path s ss site cells b.value b.first) refl
              i.found.told (λ v g h. known_after_holds v side n s k site cells b.value sequential b.first (i.stored v g) h) (λ v rd. rd) u;
          ranged = ranged_both range i.found.told.bindings u.bindings i.found.ranged (unlooped range side m (m + statements_count ss) (a + length own) (a + length own + length others) u.bindings u.lies);
          own = λ v w h rd. i.found.own v (agrees_left v i.found.told.bindings u.bindings w) h rd;
        })
        (λ q.
        let i = found_all m (a + length own) after path ss site b.value d rest num.1 g (of_result g (run s site cells).out b.value (groups_of_all m path ss site) b.first q) in
        let t = one_told side fixed before n a k path site cells b.value i.spot.path s i.beneath.0 i.beneath.1 (outside_before n m i.beneath.0 i.beneath.2) first in
        let knows : (v : Atom → ℤ) → Agrees v t.told.bindings → HoldsKnown v k site cells → HoldsKnown v after site b.value = λ v g h. known_after_holds v side n s k site cells b.value sequential b.first (t.stored v g) h in
        record {
          spot = i.spot;
          begins = i.begins;
          among = in_right i.spot xs ys i.among;
          beneath = beneath_weaker (FromNumber m) (FromNumber n) path i.spot (later_from n (statement_count s)) i.beneath;
          told = then_told side fixed before n m (m + statements_count ss) more a (a + length own) (a + length own + length others) (a + length (own ++ others)) no_loops (numbers_in ss) (numbers_in (statement s ss)) k after site site cells b.value i.spot.path xs ys gs hs whole
              (omega arith) (omega arith) (omega arith) (omega arith) (omega arith) (omega (arith, e)) (λ l h g. cc) (λ l h. cc) (λ l h. or_right (numbers_by s l) (numbers_in ss l) h) (in_first side fixed before n path s ss site cells) (in_rest side fixed before n path s ss site cells b.value b.first) refl
              t.told knows (λ v rd. rd) i.told;
          ranged = ranged_both range t.told.bindings i.told.bindings (unlooped range side n m a (a + length own) t.told.bindings t.told.lies) i.ranged;
          own = λ v w h rd. i.own v (agrees_right v t.told.bindings i.told.bindings w) (knows v (agrees_left v t.told.bindings i.told.bindings w) h) rd;
        })

    found_arms : (line n j m a : ℕ) (k : Known) (path : List PathStep) (arms : Arms) (other : Statements) (site : Site) (cells d : Cells) (r : ArmsRan line m arms other site cells d) → AreNumberedArms range arms →
        (g : Group) (keys : (i : ℕ) (steps : List PathStep) (b : ℕ) → (run_all other site cells).out ≡ Ok d → In g (groups_of_all i steps other site cells) → ℕ) →
        ((i : ℕ) (h : Known) (steps : List PathStep) (b : ℕ) (q : RanAll side fixed before other site cells d) (w : In g (groups_of_all i steps other site cells)) →
        Found (FromNumber i) i (i + statements_count other) b (b + length (accesses_all (scope_at site) i steps other)) (numbers_in other) h steps site cells (spots_in (set side fixed before site) i h steps b other) (groups_of_all i steps other site cells) g (keys i steps b q.ran w)) →
        (h : In g (groups_of_arms line n j m path arms (λ i steps. groups_of_all i steps other) site cells)) →
        Found (FromArm n m) j (j + (arms_count arms + statements_count other)) a (a + length (arms_accesses (scope_at site) line n j m path arms (λ i steps. accesses_all (scope_at site) i steps other)))
        (λ l. numbers_in_arms arms l || numbers_in other l) k path site cells (spots_in_arms (set side fixed before site) line n j m k path a arms (λ i h steps b. spots_in (set side fixed before site) i h steps b other))
        (groups_of_arms line n j m path arms (λ i steps. groups_of_all i steps other) site cells) g (key_arms line n j m a path arms other site cells d r.ran g keys h)
    found_arms line n j m a k path no_arms other site cells d r num g keys rest h =
        let at = path ++ Arm n m ∷ [] in
        let i = rest j k at a (record { sequential = r.others; ran = other_run site cells line m (run_all other) d r.ran; sound = r.sound; off = r.off; holds = r.holds }) h in
        found_wider (FromNumber j) (FromArm n m) j (j + statements_count other) a (a + length (accesses_all (scope_at site) j at other)) j (j + (arms_count no_arms + statements_count other)) (a + length (accesses_all (scope_at site) j at other))
        (numbers_in other) (λ l. numbers_in_arms no_arms l || numbers_in other l) k path at site cells (spots_in (set side fixed before site) j k at a other) (groups_of_all j at other site cells) g (keys j at a (other_run site cells line m (run_all other) d r.ran) h)
        (omega arith) (omega arith) (omega arith) (λ l h. h) (λ x u. beneath_deeper (FromNumber j) (FromArm n m) path (Arm n m) x (λ r w. in_this_arm n m r) u) i
    found_arms line n j m a k path (arm test body arms) other site cells d r num g keys rest (inl e) = test_found line n j m a k path test body arms other site cells d r g e
    found_arms line n j m a k path (arm test body arms) other site cells d r num g keys rest (inr h) =
        let tests = condition_reads (scope_at site) line (test_path path n m) test in
        let at = path ++ Arm n m ∷ [] in
        let behind = a + length tests + length (accesses_all (scope_at site) j at body) in
        let t = arm_run site cells test body arms line m (run_all other) d r.ran in
        by_taken line n j m a k path test body arms other site cells d r g t.taken t.evaluated t.ran
        (of_result g (holds test site cells).out t.taken (chosen line n j m a k path test body arms other site cells d r g) t.evaluated h)
        (λ q w. key_all j (a + length tests) at body site cells d q g w)
        (λ q w. key_arms line n (j + statements_count body) (m + 1) behind path arms other site cells d q g keys w)
        (λ q w. found_all j (a + length tests) k at body site cells d q num.0 g w)
        (λ q w. found_arms line n (j + statements_count body) (m + 1) behind (without (written_in body) k) path arms other site cells d q num.1 g keys rest w)
