-- A valuation for two iterations that respects the pair of two accesses that they evaluate, and has the values of both.
use Rattle.std.proofs.Common.{◌≡◌, ◌≢◌, ℕ, zero, suc, ◌+◌, Bool, true, false, ◌||◌, ◌⊎◌, if◌then◌else◌, IsTrue, ℤ, pos, ◌≤ℤ◌, List, [], ◌∷◌, ◌++◌, map, length, refl, ap, sym, ◌∙◌, subst, arith, Option, Some, None, Result, Ok, Err}
use mathlib.Core.Logic.{inl}
use Rattle.std.specs.Prelude.{flat_map, nat_eq, bytes_eq}
use Rattle.std.proofs.lemmas.Int.{ints}
use Rattle.std.proofs.lemmas.Bool.{and_parts}
use Rattle.std.proofs.lemmas.Bool.Decides.{nat_tests}
use Rattle.fl_ast.specs.declared.decl.Decl.{Decl}
use Rattle.fl_types.specs.declared.access.Access.{Access}
use Rattle.fl_types.specs.declared.access.PathStep.{PathStep}
use Rattle.fl_types.specs.declared.access.AccessKind.TheVariants.{Write}
use Rattle.fl_types.specs.Accesses.{Scope, Occurrence, scope_of, accesses_all, loop_accesses, statements_count}
use Rattle.fl_types.specs.Sharing.{makes_accesses, sharing_in, is_plus}
use Rattle.loop_accesses.specs.Numbers.{numbered as numbered_from}
use Rattle.store_core.specs.Keys.{same_key, first_at}
use Rattle.meaning.specs.declared.value.Value.{Value}
use Rattle.meaning.specs.declared.value.Cause.{Cause}
use Rattle.meaning.specs.Values.{whole_numbers}
use Rattle.meaning.specs.Expressions.{values_of}
use Rattle.meaning.specs.Sites.{Key, Cells, Site, in_iteration}
use Rattle.meaning.specs.Statements.{Heads, iterations, turns, run_all}
use Rattle.meaning.specs.Touches.{scope_at, place_at}
use Rattle.meaning.specs.Reached.{iteration_cells}
use Rattle.meaning.specs.Groups.{Group, iteration_of, groups_of_iteration}
use Rattle.meaning.proofs.Parts.{turn_run, result_once}
use Rattle.index_forms.specs.declared.form.Side.{Side}
use Rattle.index_forms.specs.declared.form.Side.TheVariants.{One, Two}
use Rattle.index_forms.specs.Form.{Atom, start, iter, inner, inv, version, read, opaque, start2, iter2, Forms}
use Rattle.index_forms.specs.Sums.{values}
use Rattle.index_forms.specs.Formed.{Viewed, subscript_forms}
use Rattle.index_forms.specs.Loops.{HeadedLoop, inside, further, known_at_start, is_fixed}
use Rattle.index_forms.specs.Walk.{Setting, viewed, setting_of, with_statements, loop_forms}
use Rattle.index_ranges.specs.Ranges.{KnownRange, ranges_in}
use Rattle.index_law.specs.Meetings.{In, Evaluated, place_in}
use Rattle.index_law.specs.Paths.{LeadsTo}
use Rattle.index_law.specs.Respect.{Fits}
use Rattle.index_law.specs.Valuations.{is_of_instance, StandsForTwo}
use Rattle.index_law.specs.Worth.{HoldsKnown}
use Rattle.index_law.proofs.Nodes.{sound_all}
use Rattle.index_law.proofs.GroupKeys.{keys_kept}
use Rattle.index_law.proofs.Respects.{placed, respected}
use Rattle.index_law.proofs.Starts.{known_at_start_holds}
use Rattle.index_law.proofs.Fixed.{unwritten_fixed, fixed_at_start}
use Rattle.index_law.proofs.Iterations.{iteration_out}
use Rattle.index_law.proofs.Valuations.{valuations_stand}
use Rattle.index_law.proofs.Shapes.{FromNumber}
use Rattle.index_law.proofs.Meets.{in_right}
use Rattle.apart_law.specs.Bindings.{Binding, Agrees, same_side, is_atom, given, Lies}
use Rattle.apart_law.specs.Numbers.{numbers_in, IsInRange, AreInRange, LiesIn}
use Rattle.apart_law.specs.Spots.{Spot, spots_in, Met}
use Rattle.apart_law.specs.Laid.{accesses_at, spot_forms, AreLaid, plainly}
use Rattle.apart_law.proofs.Bound.{agrees_left, agrees_right, apart_both, separate_sides, themselves, themselves_both, list_agrees, same_values}
use Rattle.apart_law.proofs.Direct.{set}
use Rattle.apart_law.proofs.Along.{Found, key_all, found_all}
use Rattle.apart_law.proofs.Laying.{accesses_of_all, laid_of_all, forms_of_all, spot_forms_long}
use Rattle.apart_law.proofs.Ranges.{range_holds}
use Rattle.certificate_rules.specs.Surveys.{numbered, range_of, fact_serves}
use Rattle.certificate_rules.specs.Disjoint.{DifferentIterations, Respects, Disjoint}
use Rattle.index_knowledge.specs.Knowledge.{KnownFact, KnownPair, is_write, is_fact}
use Rattle.loop_scenes.specs.Turns.{last_turn_of}
use Rattle.loop_pairs.specs.Known.{bare, bare_accesses, survey_by, nest_of}
use Rattle.apart_law.specs.Apart.{HasValues, AreValued}
use Rattle.apart_law.proofs.Running.{IsRun}
use Rattle.apart_law.proofs.Located.{Located, located, beside, form_at, agrees_at, in_number, number_in, number_of}
use Rattle.apart_law.proofs.Facts.{facts_of_two, one_writes, one_name, served}
use Rattle.apart_law.proofs.Counters.{different, second_lies}
use Rattle.apart_law.proofs.SpotPaths.{spot_paths}
use Rattle.apart_law.proofs.Places.{subscripts_at}

-- ---- the accesses of a survey

abbrev pub bare_at : (loop_number n : ℕ) → Occurrence → Access
bare_at l n o = bare (record { number = n; loop_number = l; occurrence = o })

bare_from : (l a : ℕ) (os : List Occurrence) (m : ℕ) (o : Occurrence) → numbered os m ≡ Some o → numbered (map bare (numbered_from l (suc a) os)) m ≡ Some (bare_at l (a + m) o)
bare_from l a [] zero o h = cc
bare_from l a [] (suc m) o h = cc
bare_from l a (x ∷ os) zero o h = cc
bare_from l a (x ∷ os) (suc zero) o h =
    let e : x ≡ o = cc in
    let f : suc a ≡ a + 1 = omega arith in
    ap (λ (y : Occurrence). Some (bare_at l (suc a) y)) e ∙ ap (λ (n : ℕ). Some (bare_at l n o)) f
bare_from l a (x ∷ os) (suc (suc m)) o h =
    let f : suc a + suc m ≡ a + suc (suc m) = omega arith in
    bare_from l (suc a) os (suc m) o h ∙ ap (λ (n : ℕ). Some (bare_at l n o)) f

-- the occurrence of an access
occurrence_at : (l a : ℕ) (os : List Occurrence) (m : ℕ) (x : Access) → numbered (map bare (numbered_from l a os)) m ≡ Some x → (o : Occurrence) × (numbered os m ≡ Some o)
occurrence_at l a [] zero x h = cc
occurrence_at l a [] (suc m) x h = cc
occurrence_at l a (y ∷ os) zero x h = cc
occurrence_at l a (y ∷ os) (suc zero) x h = (y, refl)
occurrence_at l a (y ∷ os) (suc (suc m)) x h = occurrence_at l (suc a) os (suc m) x h

-- ---- atoms of instances

nat_is : (m n : ℕ) → nat_eq m n ≡ true → m ≡ n
nat_is m n e = grind (arith, nat_tests)

of_instance : (a : Atom) → is_atom a a ≡ true → is_of_instance a ≡ true
of_instance start e = cc
of_instance (iter s) e = cc
of_instance (inner s l) e = refl
of_instance (inv x) e = cc
of_instance (version s n x) e = refl
of_instance (read x fs) e = cc
of_instance (opaque s a n) e = refl
of_instance start2 e = cc
of_instance (iter2 s) e = cc

-- what isn't bound has the least value of its range
abbrev least_of : Option KnownRange → ℤ
least_of None = pos 0
least_of (Some r) = r.least

abbrev otherwise : (ℕ → Option KnownRange) → Atom → ℤ
otherwise range (inner s l) = least_of (range l)
otherwise range start = pos 0
otherwise range (iter s) = pos 0
otherwise range (inv x) = pos 0
otherwise range (version s n x) = pos 0
otherwise range (read x fs) = pos 0
otherwise range (opaque s a n) = pos 0
otherwise range start2 = pos 0
otherwise range (iter2 s) = pos 0

least_lies : (o : Option KnownRange) (r : KnownRange) → o ≡ Some r → LiesIn r (least_of o)
least_lies None r e = cc
least_lies (Some q) r e = let i : q ≡ r = cc in subst (λ (y : KnownRange). LiesIn y q.least) i (omega (arith, ints), omega (arith, ints))

given_lies : (range : ℕ → Option KnownRange) (bs : List Binding) → AreInRange range bs → (s : Side) (l : ℕ) (r : KnownRange) → range l ≡ Some r → LiesIn r (given bs (otherwise range) (inner s l))
given_lies range [] h s l r e = least_lies (range l) r e
given_lies range (b ∷ bs) h s l r e = by_test (is_atom b.0 (inner s l)) refl (given_lies range bs h.1 s l r e)
  where
    the_same : (a : Atom) (z : ℤ) → IsInRange range a z → is_atom a (inner s l) ≡ true → LiesIn r z
    the_same (inner t m) z g i = let p = and_parts (same_side t s) (nat_eq m l) i in g r (ap range (nat_is m l p.1) ∙ e)
    the_same start z g i = cc
    the_same (iter t) z g i = cc
    the_same (inv x) z g i = cc
    the_same (version t n x) z g i = cc
    the_same (read x fs) z g i = cc
    the_same (opaque t a n) z g i = cc
    the_same start2 z g i = cc
    the_same (iter2 t) z g i = cc

    by_test : (t : Bool) → is_atom b.0 (inner s l) ≡ t → LiesIn r (given bs (otherwise range) (inner s l)) → LiesIn r (if t then b.1 else given bs (otherwise range) (inner s l))
    by_test true i g = the_same b.0 b.1 h.0 i
    by_test false i g = g

ranged_both : (range : ℕ → Option KnownRange) (bs cs : List Binding) → AreInRange range bs → AreInRange range cs → AreInRange range (bs ++ cs)
ranged_both range [] cs h g = g
ranged_both range (b ∷ bs) cs h g = (h.0, ranged_both range bs cs h.1 g)

same_some : {A : Type 0} (x y : A) → Some x ≡ Some y → x ≡ y
same_some x y e = cc

sides_differ : ¬ (One ≡ Two)
sides_differ e = cc

module _ (decls : List Decl) (l : HeadedLoop) (site : Site) (heads : Heads) (cells : Cells) (run : IsRun decls l site heads cells) where
  abbrev pub isite : Site
  isite = in_iteration site l.loop.directive l.loop.var l.loop.body

  abbrev pub range : ℕ → Option KnownRange
  range n = range_of (ranges_in (inside l)) n

  abbrev pub c : Side → Setting
  c side = set side (is_fixed decls l) cells isite

  abbrev pub spots : Side → List Spot
  spots side = spots_in (c side) 1 (known_at_start side l) [] 0 (inside l)

  -- ---- accesses and forms by number

  pub scope_is : scope_at isite ≡ scope_of decls l.loop
  scope_is =
      let f : List (List ℕ) → (List ℕ → Bool) → Scope = λ outer ring. record { accessed = makes_accesses outer l.loop.var l.loop.directive l.loop.body; pluses = λ x. is_plus (sharing_in l.loop.var l.loop.directive l.loop.body x); ring = ring } in
      ap (λ (outer : List (List ℕ)). f outer site.ring) run.outer ∙ ap (λ (ring : List ℕ → Bool). f l.loop.outer ring) run.ring

  setting_is : (side : Side) → plainly (c side) ≡ setting_of decls l side
  setting_is side = ap (λ (scope : Scope). plainly (record { side = side; scope = scope; fixed = is_fixed decls l })) scope_is

  accesses_are : (side : Side) → flat_map accesses_at (spots side) ≡ loop_accesses decls l.loop
  accesses_are side = accesses_of_all (c side) 1 (known_at_start side l) [] 0 (inside l) ∙ ap (λ (scope : Scope). accesses_all scope 1 [] (inside l)) scope_is

  pub laid : (side : Side) → AreLaid 0 (spots side)
  laid side = laid_of_all (c side) 1 (known_at_start side l) [] 0 (inside l)

  forms_are : (side : Side) → flat_map (spot_forms (c side)) (spots side) ≡ loop_forms decls l side
  forms_are side = sym (forms_of_all (c side) 1 (known_at_start side l) [] 0 (inside l) [] refl) ∙ ap (λ (s : Setting). with_statements s 1 (known_at_start side l) (inside l) []) (setting_is side)

  -- the access with a number, as a side sees it
  abbrev pub view_at : (side : Side) (m : ℕ) (o : Occurrence) → Located (spots side) 0 m o → Viewed
  view_at side m o w = viewed (c side) w.spot.known (w.spot.before + w.at)

  pub form_is : (side : Side) (m : ℕ) (o : Occurrence) (w : Located (spots side) 0 m o) → numbered (loop_forms decls l side) m ≡ Some (subscript_forms (view_at side m o w) o.place.subscripts)
  form_is side m o w =
      subst (λ (fs : List Forms). numbered fs m ≡ Some (subscript_forms (view_at side m o w) o.place.subscripts)) (forms_are side)
      (beside (spot_forms (c side)) (spots side) (λ x i. spot_forms_long (c side) x) 0 m o w (subscript_forms (view_at side m o w) o.place.subscripts) (form_at (c side) w.spot.known w.spot.before w.spot.accesses w.at o w.here))

  pub access_is : (side : Side) (m : ℕ) (o : Occurrence) → Located (spots side) 0 m o → numbered (bare_accesses decls l.loop) m ≡ Some (bare_at l.loop.number m o)
  access_is side m o w =
      let e : numbered (loop_accesses decls l.loop) m ≡ Some o = subst (λ (os : List Occurrence). numbered os m ≡ Some o) (accesses_are side) (beside accesses_at (spots side) (λ x i. refl) 0 m o w o w.here) in
      let f : 0 + m ≡ m = omega arith in
      bare_from l.loop.number 0 (loop_accesses decls l.loop) m o e ∙ ap (λ (n : ℕ). Some (bare_at l.loop.number n o)) f

  located_in : (side : Side) (m : ℕ) (x : Access) → numbered (bare_accesses decls l.loop) m ≡ Some x → (o : Occurrence) × Located (spots side) 0 m o
  located_in side m x e =
      let w = occurrence_at l.loop.number 1 (loop_accesses decls l.loop) m x e in
      (w.0, located (spots side) 0 m w.0 (laid side) (subst (λ (os : List Occurrence). numbered os m ≡ Some w.0) (sym (accesses_are side)) w.1))

  pub spot_in : (side : Side) (m : ℕ) (o : Occurrence) (w : Located (spots side) 0 m o) → In w.spot (spots side)
  spot_in side m o w = subst (λ (xs : List Spot). In w.spot xs) (sym w.whole) (in_right w.spot w.pre (w.spot ∷ w.post) (inl refl))

  -- ---- one side

  -- the run of iteration k, and how many accesses come before an evaluated one's group
  record RanIteration (k : ℕ) (before : Cells) : Type 0 where
    past : Cells
    ran : (run_all (inside l) isite (iteration_cells site l.loop.directive l.loop.var l.loop.body heads k before)).out ≡ Ok past

  iteration_ran : (k : ℕ) (e : Evaluated site l.loop heads cells k) → RanIteration k e.before
  iteration_ran k e =
      let u = turn_run (iterations heads) k (iteration_of site l.loop heads) cells run.free.end run.free.ran e.within in
      let same : u.before ≡ e.before = result_once (turns k (iteration_of site l.loop heads) cells).out u.before e.before u.reached e.reached in
      let ran : (iteration_of site l.loop heads k e.before).out ≡ Ok u.past = subst (λ (z : Cells). (iteration_of site l.loop heads k z).out ≡ Ok u.past) same u.ran in
      record { past = u.past; ran = iteration_out site l.loop heads k e.before u.past ran }

  pub key_of : (k : ℕ) → Evaluated site l.loop heads cells k → ℕ
  key_of k e = key_all 1 0 [] (inside l) isite (iteration_cells site l.loop.directive l.loop.var l.loop.body heads k e.before) (iteration_ran k e).past (iteration_ran k e).ran e.group e.comes

  abbrev pub Side_found : Side → (k : ℕ) → Evaluated site l.loop heads cells k → Type 0
  Side_found side k e =
      Found side (is_fixed decls l) cells range range_holds (FromNumber 1) 1 (1 + statements_count (inside l)) 0 (0 + length (accesses_all (scope_at isite) 1 [] (inside l))) (numbers_in (inside l)) (known_at_start side l) []
      isite (iteration_cells site l.loop.directive l.loop.var l.loop.body heads k e.before) (spots side) (groups_of_iteration site l.loop heads k e.before) e.group (key_of k e)

  pub side_found : (side : Side) (k : ℕ) (e : Evaluated site l.loop heads cells k) → Side_found side k e
  unfolding key_of
  side_found side k e =
      found_all side (is_fixed decls l) cells range range_holds 1 0 (known_at_start side l) [] (inside l) isite (iteration_cells site l.loop.directive l.loop.var l.loop.body heads k e.before) (iteration_ran k e).past
      (record {
        sequential = run.begun.sequential;
        ran = (iteration_ran k e).ran;
        sound = run.sound k e.within e.before e.reached;
        off = λ x f. unwritten_fixed decls l x f;
        holds = fixed_at_start decls l site heads cells run.begun k e.before e.reached;
      })
      run.numbers e.group e.comes

  -- ---- both sides

  module _ (i j : ℕ) (a : Evaluated site l.loop heads cells i) (b : Evaluated site l.loop heads cells j) where
    abbrev pub one : Side_found One i a
    one = side_found One i a

    abbrev pub two : Side_found Two j b
    two = side_found Two j b

    abbrev pub bindings : List Binding
    bindings = one.told.bindings ++ two.told.bindings

    abbrev pub wanted : Atom → ℤ
    wanted = given bindings (otherwise range)

    abbrev standing : (v : Atom → ℤ) × StandsForTwo v wanted l site heads cells i j
    standing = valuations_stand l site heads cells i j wanted

    abbrev pub v : Atom → ℤ
    v = standing.0

    stands : StandsForTwo v wanted l site heads cells i j
    stands = standing.1

    agrees : Agrees v bindings
    agrees =
        let n = 1 + statements_count (inside l) in
        let m = 0 + length (accesses_all (scope_at isite) 1 [] (inside l)) in
        let t = themselves_both one.told.bindings two.told.bindings (themselves One 1 n 0 m (numbers_in (inside l)) one.told.bindings one.told.lies) (themselves Two 1 n 0 m (numbers_in (inside l)) two.told.bindings two.told.lies) in
        let p = apart_both (Lies One 1 n 0 m (numbers_in (inside l))) (Lies Two 1 n 0 m (numbers_in (inside l))) one.told.bindings two.told.bindings
        (separate_sides One Two 1 n 0 m 1 n 0 m (numbers_in (inside l)) (numbers_in (inside l)) sides_differ) one.told.lies two.told.lies one.told.apart two.told.apart in
        same_values v wanted bindings t (λ x e. stands.instances x (of_instance x e)) (list_agrees (otherwise range) bindings t p)

    known_one : HoldsKnown v (known_at_start One l) isite (iteration_cells site l.loop.directive l.loop.var l.loop.body heads i a.before)
    known_one = known_at_start_holds v One l site heads cells run.begun i a.before a.reached stands.one

    known_two : HoldsKnown v (known_at_start Two l) isite (iteration_cells site l.loop.directive l.loop.var l.loop.body heads j b.before)
    known_two = known_at_start_holds v Two l site heads cells run.begun j b.before b.reached stands.two

    -- an access that stands on the path to the one that was evaluated was evaluated too, with its values
    record Reached (side : Side) (k : ℕ) (m : ℕ) (o : Occurrence) (w : Located (spots side) 0 m o) : Type 0 where
      evaluated : Evaluated site l.loop heads cells k
      access : evaluated.access ≡ o
      fits : Fits v (view_at side m o w) site l.loop heads cells k evaluated

    reached_by : (side : Side) (k : ℕ) (e : Evaluated site l.loop heads cells k) (m : ℕ) (o : Occurrence) (w : Located (spots side) 0 m o) (g : Group) → In g (groups_of_iteration site l.loop heads k e.before) → Met v (c side) w.spot g → Reached side k m o w
    reached_by side k e m o w g h met =
        let agreed = agrees_at v (c side) w.spot.known w.spot.before g.site g.cells w.spot.accesses w.at o w.here met.agrees in
        record {
          evaluated = record {
            within = e.within;
            before = e.before;
            reached = e.reached;
            group = g;
            comes = h;
            access = o;
            stands = subst (λ (os : List Occurrence). In o os) (sym met.accesses) (in_number o w.spot.accesses w.at w.here);
          };
          access = refl;
          fits = record { scalars = met.known; nodes = agreed.0; indices = agreed.1 };
        }

    reached_one : (m : ℕ) (o : Occurrence) (w : Located (spots One) 0 m o) → LeadsTo w.spot.path one.spot.path → Reached One i m o w
    reached_one m o w lead =
        let g = one.told.met v (agrees_left v one.told.bindings two.told.bindings agrees) known_one stands.reads w.spot (spot_in One m o w) lead in
        reached_by One i a m o w g.0 g.1 g.2

    reached_two : (m : ℕ) (o : Occurrence) (w : Located (spots Two) 0 m o) → LeadsTo w.spot.path two.spot.path → Reached Two j m o w
    reached_two m o w lead =
        let g = two.told.met v (agrees_right v one.told.bindings two.told.bindings agrees) known_two stands.reads w.spot (spot_in Two m o w) lead in
        reached_by Two j b m o w g.0 g.1 g.2

    -- the group that was evaluated itself
    pub own_one : Met v (c One) one.spot a.group
    own_one = one.own v (agrees_left v one.told.bindings two.told.bindings agrees) known_one stands.reads

    pub own_two : Met v (c Two) two.spot b.group
    own_two = two.own v (agrees_right v one.told.bindings two.told.bindings agrees) known_two stands.reads

    -- ---- the pair of the two

    respected_at : i ≢ j → (o q : Occurrence) (e : Evaluated site l.loop heads cells i) (f : Evaluated site l.loop heads cells j) → e.access ≡ o → f.access ≡ q → (o.kind ≡ Write) ⊎ (q.kind ≡ Write) → o.place.name ≡ q.place.name →
        (x y : Viewed) → Fits v x site l.loop heads cells i e → Fits v y site l.loop heads cells j f → values v (subscript_forms x o.place.subscripts) ≡ values v (subscript_forms y q.place.subscripts) → ⊥
    respected_at d o q e f g h w n x y fx fy same =
        respected site l.loop heads cells run.free i j d e f
        (subst (λ (z : Occurrence). (z.kind ≡ Write) ⊎ (f.access.kind ≡ Write)) (sym g) (subst (λ (z : Occurrence). (o.kind ≡ Write) ⊎ (z.kind ≡ Write)) (sym h) w))
        (ap (λ (z : Occurrence). z.place.name) g ∙ (n ∙ ap (λ (z : Occurrence). z.place.name) (sym h))) v x y fx fy
        (ap (λ (z : Occurrence). values v (subscript_forms x z.place.subscripts)) g ∙ (same ∙ ap (λ (z : Occurrence). values v (subscript_forms y z.place.subscripts)) (sym h)))

    -- where two accesses stand among the loop's
    pub record Placed (m n : ℕ) (o q : Occurrence) : Type 0 where
      pub first : Located (spots One) 0 m o
      pub second : Located (spots Two) 0 n q
      pub of_first : first.spot ≡ one.spot
      pub of_second : second.spot ≡ two.spot

    paths_one : (m : ℕ) (o : Occurrence) (w : Located (spots One) 0 m o) → o.path ≡ w.spot.path
    paths_one m o w = spot_paths (c One) 1 (known_at_start One l) [] 0 (inside l) w.spot (spot_in One m o w) o (in_number o w.spot.accesses w.at w.here)

    paths_two : (m : ℕ) (o : Occurrence) (w : Located (spots Two) 0 m o) → o.path ≡ w.spot.path
    paths_two m o w = spot_paths (c Two) 1 (known_at_start Two l) [] 0 (inside l) w.spot (spot_in Two m o w) o (in_number o w.spot.accesses w.at w.here)

    leads_between : (p q r s : List PathStep) → p ≡ q → r ≡ s → LeadsTo p r → LeadsTo q s
    leads_between p q r s e f h = subst (λ (z : List PathStep). LeadsTo q z) f (subst (λ (z : List PathStep). LeadsTo z r) e h)

    -- a fact that serves the pair holds of the valuation
    fact_holds : i ≢ j → (m n : ℕ) (o q : Occurrence) → Placed m n o q → (p : KnownPair) → p.first ≡ m → p.second ≡ n → (t : ℕ) (k : KnownFact) (f g : Forms) → numbered (survey_by decls l).facts t ≡ Some k →
        IsTrue (fact_serves (survey_by decls l).accesses k p) → numbered (survey_by decls l).ones k.first ≡ Some f → numbered (survey_by decls l).twos k.second ≡ Some g → ¬ (values v f ≡ values v g)
    fact_holds d m n o q at p e e2 t k f g ft serving ff gg same =
        let two_accesses = facts_of_two (survey_by decls l) run.survey t k ft in
        let x = located_in One k.first two_accesses.first_access two_accesses.first in
        let y = located_in Two k.second two_accesses.second_access two_accesses.second in
        let xa = access_is One k.first x.0 x.1 in
        let ya = access_is Two k.second y.0 y.1 in
        let pa : numbered (bare_accesses decls l.loop) p.first ≡ Some (bare_at l.loop.number m o) = ap (numbered (bare_accesses decls l.loop)) e ∙ access_is One m o at.first in
        let pb : numbered (bare_accesses decls l.loop) p.second ≡ Some (bare_at l.loop.number n q) = ap (numbered (bare_accesses decls l.loop)) e2 ∙ access_is Two n q at.second in
        let lead = served (bare_at l.loop.number k.first x.0) (bare_at l.loop.number k.second y.0) (bare_at l.loop.number m o) (bare_at l.loop.number n q)
        (numbered (bare_accesses decls l.loop) k.first) (numbered (bare_accesses decls l.loop) k.second) (numbered (bare_accesses decls l.loop) p.first) (numbered (bare_accesses decls l.loop) p.second) xa ya pa pb serving in
        let one_path : o.path ≡ one.spot.path = paths_one m o at.first ∙ ap (λ (z : Spot). z.path) at.of_first in
        let two_path : q.path ≡ two.spot.path = paths_two n q at.second ∙ ap (λ (z : Spot). z.path) at.of_second in
        let r1 = reached_one k.first x.0 x.1 (leads_between x.0.path x.1.spot.path o.path one.spot.path (paths_one k.first x.0 x.1) one_path lead.0) in
        let r2 = reached_two k.second y.0 y.1 (leads_between y.0.path y.1.spot.path q.path two.spot.path (paths_two k.second y.0 y.1) two_path lead.1) in
        let fa : two_accesses.first_access ≡ bare_at l.loop.number k.first x.0 = same_some two_accesses.first_access (bare_at l.loop.number k.first x.0) (sym two_accesses.first ∙ xa) in
        let fb : two_accesses.second_access ≡ bare_at l.loop.number k.second y.0 = same_some two_accesses.second_access (bare_at l.loop.number k.second y.0) (sym two_accesses.second ∙ ya) in
        let fact : is_fact (bare_at l.loop.number k.first x.0) (bare_at l.loop.number k.second y.0) ≡ true =
        subst (λ (z : Access). is_fact (bare_at l.loop.number k.first x.0) z ≡ true) fb (subst (λ (z : Access). is_fact z two_accesses.second_access ≡ true) fa two_accesses.fact) in
        let name : x.0.place.name ≡ y.0.place.name = one_name x.0.place.name y.0.place.name (is_write x.0.kind || is_write y.0.kind) fact in
        let writes = one_writes x.0.kind y.0.kind (and_parts (bytes_eq x.0.place.name y.0.place.name) (is_write x.0.kind || is_write y.0.kind) fact).1 in
        let fx : subscript_forms (view_at One k.first x.0 x.1) x.0.place.subscripts ≡ f = same_some _ f (sym (form_is One k.first x.0 x.1) ∙ ff) in
        let gy : subscript_forms (view_at Two k.second y.0 y.1) y.0.place.subscripts ≡ g = same_some _ g (sym (form_is Two k.second y.0 y.1) ∙ gg) in
        respected_at d x.0 y.0 r1.evaluated r2.evaluated r1.access r2.access writes name (view_at One k.first x.0 x.1) (view_at Two k.second y.0 y.1) r1.fits r2.fits (ap (values v) fx ∙ (same ∙ ap (values v) (sym gy)))

    -- the valuation respects the pair
    respects : i ≢ j → (m n : ℕ) (o q : Occurrence) → Placed m n o q → (p : KnownPair) → p.first ≡ m → p.second ≡ n → p.nest ≡ nest_of l.loop → Respects v (survey_by decls l) p
    respects d m n o q at p e f g = record {
      congruent = stands.congruent;
      iterations = subst (λ (z : ℕ). DifferentIterations (nat_eq z 2) v) (sym g) (different v l site heads cells run.begun i j d stands.one stands.two);
      ranges = λ side x r w. subst (λ (z : ℤ). LiesIn r z) (sym (stands.instances (inner side x) refl)) (given_lies range bindings (ranged_both range one.told.bindings two.told.bindings one.ranged two.ranged) side x r w);
      second = λ side x w. on_side side x w;
      facts = λ t k x y w serving ff gg. fact_holds d m n o q at p e f t k x y w serving ff gg;
    }
      where
        on_side : (side : Side) (x : ℕ) → last_turn_of (further l) ≡ Some x → (pos 0 ≤ℤ v (iter2 side)) × (v (iter2 side) ≤ℤ pos x)
        on_side One x w = second_lies v One l site heads cells run.begun i a.within stands.one x w
        on_side Two x w = second_lies v Two l site heads cells run.begun j b.within stands.two x w

    -- ---- the two accesses' own values

    record OwnNumbers (side : Side) (k : ℕ) (e : Evaluated site l.loop heads cells k) (p : ℕ) (fs : Forms) : Type 0 where
      numbers : List ℤ
      worth : values v fs ≡ numbers
      there : first_at (same_key (e.access.place.name, numbers)) site.keys ≡ Some p

    own_numbers : (side : Side) (k : ℕ) (e : Evaluated site l.loop heads cells k) (w : Viewed) (p : ℕ) → Fits v w site l.loop heads cells k e → place_in site l.loop heads cells k e ≡ Some p → OwnNumbers side k e p (subscript_forms w e.access.place.subscripts)
    own_numbers side k e w p fits falls = by_result (values_of e.access.place.subscripts e.group.site e.group.cells).out refl falls
      where
        by_result : (r : Result (List Value) Cause) → (values_of e.access.place.subscripts e.group.site e.group.cells).out ≡ r → place_at e.group.site e.access.place.name r ≡ Some p → OwnNumbers side k e p (subscript_forms w e.access.place.subscripts)
        by_result (Err c) h g = cc
        by_result (Ok vs) h g = record {
          numbers = whole_numbers vs;
          worth = sound_all v w 0 e.access.place.subscripts e.group.site e.group.cells fits.scalars fits.nodes vs h (fits.indices vs h);
          there = subst (λ (ks : List Key). first_at (same_key (e.access.place.name, whole_numbers vs)) ks ≡ Some p) (keys_kept site l.loop heads k e.before e.group e.comes) g;
        }

    -- accesses that fall on one place have the same values
    same_values_at : (m n : ℕ) (at : Placed m n a.access b.access) (p : ℕ) → place_in site l.loop heads cells i a ≡ Some p → place_in site l.loop heads cells j b ≡ Some p → (f g : Forms) → numbered (loop_forms decls l One) m ≡ Some f → numbered (loop_forms decls l Two) n ≡ Some g →
        values v f ≡ values v g
    same_values_at m n at p x y f g ff gg =
        let ma = agrees_at v (c One) at.first.spot.known at.first.spot.before a.group.site a.group.cells at.first.spot.accesses at.first.at a.access at.first.here (own_first m n at).agrees in
        let mb = agrees_at v (c Two) at.second.spot.known at.second.spot.before b.group.site b.group.cells at.second.spot.accesses at.second.at b.access at.second.here (own_second m n at).agrees in
        let oa = own_numbers One i a (view_at One m a.access at.first) p (record { scalars = (own_first m n at).known; nodes = ma.0; indices = ma.1 }) x in
        let ob = own_numbers Two j b (view_at Two n b.access at.second) p (record { scalars = (own_second m n at).known; nodes = mb.0; indices = mb.1 }) y in
        let fx : subscript_forms (view_at One m a.access at.first) a.access.place.subscripts ≡ f = same_some _ f (sym (form_is One m a.access at.first) ∙ ff) in
        let gy : subscript_forms (view_at Two n b.access at.second) b.access.place.subscripts ≡ g = same_some _ g (sym (form_is Two n b.access at.second) ∙ gg) in
        let same : oa.numbers ≡ ob.numbers = subscripts_at site.keys a.access.place.name b.access.place.name oa.numbers ob.numbers p oa.there ob.there in
        ap (values v) (sym fx) ∙ (oa.worth ∙ (same ∙ (sym ob.worth ∙ ap (values v) gy)))
      where
        own_first : (m n : ℕ) (at : Placed m n a.access b.access) → Met v (c One) at.first.spot a.group
        own_first m n at = subst (λ (z : Spot). Met v (c One) z a.group) (sym at.of_first) own_one

        own_second : (m n : ℕ) (at : Placed m n a.access b.access) → Met v (c Two) at.second.spot b.group
        own_second m n at = subst (λ (z : Spot). Met v (c Two) z b.group) (sym at.of_second) own_two

    -- where the pair is disjoint they don't
    pub never : i ≢ j → (m n : ℕ) → Placed m n a.access b.access → (p : KnownPair) → p.first ≡ m → p.second ≡ n → p.nest ≡ nest_of l.loop → (f g : Forms) → numbered (loop_forms decls l One) m ≡ Some f → numbered (loop_forms decls l Two) n ≡ Some g →
        Disjoint (survey_by decls l) p f g → (q : ℕ) → place_in site l.loop heads cells i a ≡ Some q → place_in site l.loop heads cells j b ≡ Some q → ⊥
    never d m n at p e e2 e3 f g ff gg disjoint q x y = disjoint v (respects d m n a.access b.access at p e e2 e3) (same_values_at m n at q x y f g ff gg)

    -- ---- what was evaluated has its values

    values_had : (side : Side) (k : ℕ) (e : Evaluated site l.loop heads cells k) (w : Viewed) (n : ℕ) → numbered (loop_forms decls l side) n ≡ Some (subscript_forms w e.access.place.subscripts) → Fits v w site l.loop heads cells k e →
        HasValues v (loop_forms decls l side) site l heads cells k e n
    values_had side k e w n there fits =
        by_result (values_of e.access.place.subscripts e.group.site e.group.cells).out refl (placed site l.loop heads cells run.free k e)
      where
        by_result : (r : Result (List Value) Cause) → (values_of e.access.place.subscripts e.group.site e.group.cells).out ≡ r → (p : ℕ) × (place_at e.group.site e.access.place.name r ≡ Some p) → HasValues v (loop_forms decls l side) site l heads cells k e n
        by_result (Err x) h g = let i = g.1 in cc
        by_result (Ok vs) h g = record {
          form = subscript_forms w e.access.place.subscripts;
          there = there;
          subscripts = vs;
          had = h;
          worth = sound_all v w 0 e.access.place.subscripts e.group.site e.group.cells fits.scalars fits.nodes vs h (fits.indices vs h);
        }

    -- where they stand among the loop's accesses
    placed_both : (m n : ℕ) × Placed m n a.access b.access
    placed_both =
        let x = number_in a.access one.spot.accesses (subst (λ (os : List Occurrence). In a.access os) own_one.accesses a.stands) in
        let y = number_in b.access two.spot.accesses (subst (λ (os : List Occurrence). In b.access os) own_two.accesses b.stands) in
        let t = number_of (spots One) 0 one.spot x.0 a.access (laid One) one.among x.1 in
        let u = number_of (spots Two) 0 two.spot y.0 b.access (laid Two) two.among y.1 in
        (t.number, u.number, record { first = t.found; second = u.found; of_first = t.is; of_second = u.is })

    pub valued : i ≢ j → AreValued decls l site heads cells i j a b
    valued d =
        let m = placed_both.0 in
        let n = placed_both.1 in
        let at = placed_both.2 in
        let first = subst (λ (z : Spot). Met v (c One) z a.group) (sym at.of_first) own_one in
        let second = subst (λ (z : Spot). Met v (c Two) z b.group) (sym at.of_second) own_two in
        let ma = agrees_at v (c One) at.first.spot.known at.first.spot.before a.group.site a.group.cells at.first.spot.accesses at.first.at a.access at.first.here first.agrees in
        let mb = agrees_at v (c Two) at.second.spot.known at.second.spot.before b.group.site b.group.cells at.second.spot.accesses at.second.at b.access at.second.here second.agrees in
        record {
          valuation = v;
          first = m;
          second = n;
          one = values_had One i a (view_at One m a.access at.first) m (form_is One m a.access at.first) (record { scalars = first.known; nodes = ma.0; indices = ma.1 });
          two = values_had Two j b (view_at Two n b.access at.second) n (form_is Two n b.access at.second) (record { scalars = second.known; nodes = mb.0; indices = mb.1 });
          respects = λ p e f g. respects d m n a.access b.access at p e f g;
        }
