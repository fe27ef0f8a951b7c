-- A parallel loop does what the meaning tells, where its body does.
use Rattle.std.specs.Prelude.{◌≡◌, ℕ, ℤ, zero, suc, ◌+◌, ◌*◌, ◌-◌, ◌/◌, ◌%◌, ◌<◌, ◌≤◌, Bool, true, false, if◌then◌else◌, nat_le, List, [], ◌∷◌, ◌++◌, Option, Some, None, is_some, Result, Ok, refl}
use Rattle.std.proofs.Common.{ap, sym, subst, ◌∙◌, arith}
use Rattle.std.proofs.lemmas.Bool.Decides.{nat_tests}
use Rattle.std.proofs.lemmas.List.{append-nil}
use Rattle.fl_ast.specs.declared.directive.Directive.{Directive}
use Rattle.fl_ast.specs.Tree.{Statements}
use Rattle.fl_types.specs.Nests.{Head}
use Rattle.meaning.specs.declared.value.Value.TheVariants.{Index}
use Rattle.meaning.specs.declared.value.TrapAt.{TrapAt}
use Rattle.meaning.specs.declared.value.IterationCount.{IterationCount}
use Rattle.meaning.specs.Logs.{begins, ends, Log, silence, single, both, rounds, iteration, Note, tells, notes_in, Traced, pure, after, ◌>>=◌, inside, at_line}
use Rattle.meaning.specs.Sites.{Cells, Site, in_iteration, place_of}
use Rattle.meaning.specs.Stops.{Limits, the_limits}
use Rattle.meaning.specs.Fitting.{Fits}
use Rattle.meaning.specs.Statements.{Run, with_log, value_at, turns_of, turns, loop_words, private_names, with_all_unset, unset_log, private_words, Heads, iterations, with_variables, words_of_all, further_turns, heads_of, one_iteration, run_parallel}
use Rattle.meaning.proofs.Gives.{turns_give}
use Rattle.meaning.proofs.RunsFit.{KeepsFit, HeadsFit, HeadIsFit, FurtherIsFit, unset_fits, one_iteration_fits, heads_fit}
use Rattle.first_stops.specs.Kept.{Kept, after_notes}
use Rattle.resolved.specs.SlotTables.{Names}
use Rattle.sweep_steps.specs.declared.step.PrivateScalar.{PrivateScalar}
use Rattle.sweep_steps.specs.Steps.{HeadTree}
use Rattle.sweep_steps.specs.StepsStand.{flags_at, HeadStands, InnerStands, PrivatesStand}
use Rattle.sweep_law.specs.Telling.{Scene, Standing, standing, goes_on, IsSite, IsSame}
use Rattle.sweep_law.proofs.Combining.{clash}
use Rattle.forward_state.specs.Steps.{noted, entered, with_next_tape, outside, left}
use Rattle.forward_state.specs.Steps.{in_iteration as begin_iteration}
use Rattle.forward_sweep.specs.Machine.{Further, is_going, capped, iteration_count, variable_run, variables_run, turns_run, words_run, unset_all, privates_run, bounds_of, further_bounds, further_words, inner_run, head_run, iterations_run}
use Rattle.forward_sweep.specs.Machine.{one_iteration as round_run}
use Rattle.forward_law.specs.Forward.{TapeView, unlined, Beside}
use Rattle.forward_law.proofs.Following.{rounded, FollowsBy, Follows, Lands}
use Rattle.forward_law.proofs.Combining.{Rests, rests_here, rests_at, rests_then, alike_follows, follows_after, follows_then_by, follows_then}
use Rattle.forward_law.proofs.Stillness.{Leaves, noted_still, still_both}
use Rattle.forward_law.proofs.Noting.{noted_cells}
use Rattle.forward_law.proofs.Heads.{head_follows, head_rests, head_beside, place_at, variable_is, stored_still, words_follow, words_still}
use Rattle.forward_law.proofs.Turning.{Turning, turns_follow, stopped_turns, nothing_follows, BodyFollows, lands_out}
use Rattle.forward_law.proofs.Privates.{iteration_site, unset_still, unset_follow, privates_still, privates_follow, FurtherIs, further_counts, variables_follow}
use Rattle.forward_law.proofs.Rounds.{rounded_joins, uniterated, round_follows, entry, entered_is, rounds_follow, left_is, turns_uniterated, back_outside, none_around}
use Rattle.forward_law.proofs.Counting.{begun_in, limited, turns_begin}

-- ---- heads

pub inner_follows : (names : Names) (site : Site) (within : Bool) (s : Standing) (c : Cells) → Beside names site within s c → (o : Option Head) (i : Option HeadTree) → InnerStands names (flags_at names site) o i
    → Follows s (further_turns o site c) (λ hs. hs ≡ further_counts o (inner_run names i s).out) (inner_run names i s).state
inner_follows names site within s c b None None h = record { kept = refl; scene = refl; value = λ g. ([], (refl, refl)); tape = λ g. refl }
inner_follows names site within s c b None (Some t) h = absurd h
inner_follows names site within s c b (Some x) None h = absurd h
inner_follows names site within s c b (Some x) (Some t) h =
    let m = head_run names t s in
    follows_then s m.state m.state (at_line x.line (turns_of x.first x.last x.step site c)) (λ u. pure ((x.var, u) ∷ [])) (λ u. IsSame u m.out) (λ hs. hs ≡ (x.var, m.out) ∷ []) (head_follows names site within s c b x t h)
    (λ g u o e. record { kept = refl; scene = refl; value = λ f. ((x.var, u) ∷ [], (refl, ap (λ z. (x.var, z) ∷ []) e)); tape = λ f. refl }) (λ g. rests_here m.state)

pub inner_is : (names : Names) (site : Site) (flags : List Bool) (within : Bool) → IsSite site names flags within → (s : Standing) (o : Option Head) (i : Option HeadTree) → InnerStands names (flags_at names site) o i → FurtherIs site o (inner_run names i s).out
inner_is names site flags within b s None None h = tt
inner_is names site flags within b s None (Some t) h = absurd h
inner_is names site flags within b s (Some x) None h = absurd h
inner_is names site flags within b s (Some x) (Some t) h = h.place ∙ place_at names site within flags b t.slot x.var h.within h.variable

inner_beside : (names : Names) (site : Site) (within : Bool) (s : Standing) (c : Cells) → Beside names site within s c → (o : Option Head) (i : Option HeadTree) → InnerStands names (flags_at names site) o i → Beside names site within (inner_run names i s).state c
inner_beside names site within s c b None None h = b
inner_beside names site within s c b None (Some t) h = absurd h
inner_beside names site within s c b (Some x) None h = absurd h
inner_beside names site within s c b (Some x) (Some t) h = head_beside names site within s c b x t h

inner_rests : (names : Names) (i : Option HeadTree) (s : Standing) → goes_on s.kept.seen ≡ false → Rests s (inner_run names i s).state
inner_rests names None s g = rests_here s
inner_rests names (Some t) s g = head_rests names t s g

-- ---- one iteration

-- where the sweep stands between iterations
record InRounds (names : Names) (site : Site) (s : Standing) (c : Cells) : Type 0 where
  beside : Beside names site true s c
  first : s.scene.iteration ≡ 0

variables_still : (place : Option ℕ) (t : IterationCount) (more : Further) (k : ℕ) → Leaves (variables_run place t more k)
variables_still place t None k s h = variable_is place t k s ∙ stored_still place (Some (Index (value_at t k))) s h
variables_still place t (Some u) k s h =
    let n = u.1.count in
    let e : variable_run place t (k / n) s ≡ s = variable_is place t (k / n) s ∙ stored_still place (Some (Index (value_at t (k / n)))) s h in
    ap (variable_run u.0 u.1 (k % n)) e ∙ variable_is u.0 u.1 (k % n) s ∙ stored_still u.0 (Some (Index (value_at u.1 (k % n)))) s h

-- in a parallel loop, after what keeps the scene
beside_in : (names : Names) (site : Site) (s r : Standing) (c d : Cells) → Beside names site true s c → unlined r.scene ≡ unlined s.scene → Fits site d → Lands r d → Beside names site true r d
beside_in names site s r c d b e f h = record {
  named = ap (λ (z : Scene). z.names) e ∙ b.named;
  limits = ap (λ (z : Scene). z.limits) e ∙ b.limits;
  around = ap (λ (z : Scene). is_some z.around) e ∙ b.around;
  outside = λ o. absurd (cc);
  site_is = b.site_is;
  fits = f;
  cells = h;
}

begun_in_iteration : (names : Names) (site : Site) (k : ℕ) (s : Standing) (c : Cells) → Beside names site true s c → Beside names site true (begin_iteration k s) c
begun_in_iteration names site k s c b = record {
  named = b.named;
  limits = b.limits;
  around = b.around;
  outside = λ o. absurd (cc);
  site_is = b.site_is;
  fits = b.fits;
  cells = noted_cells (with_next_tape k s) begins ∙ b.cells;
}

iteration_follows : (names : Names) (site : Site) (flags : List Bool) (within : Bool) → IsSite site names flags within → (directive : Directive) (var : List ℕ) (body : Statements) (f : Site → Run) (m : Standing → Standing)
    → (place : Option ℕ) (t : IterationCount) (o : Option Head) (more : Further) (qs : List PrivateScalar) → PrivatesStand names site body (private_names site directive var body) qs
    → place ≡ place_of site var [] → FurtherIs site o more → HeadsFit site ((var, t) ∷ further_counts o more)
    → BodyFollows names (in_iteration site directive var body) true (f (in_iteration site directive var body)) m → Leaves m
    → (k : ℕ) → k < iterations ((var, t) ∷ further_counts o more) → (s : Standing) (c : Cells) → InRounds names (in_iteration site directive var body) s c
    → (let r = uniterated (round_run m place t more qs k s) in FollowsBy rounded s (one_iteration site directive var ((var, t) ∷ further_counts o more) body f k c) (Lands r) r)
iteration_follows names site flags within h directive var body f m place t o more qs ps e i fit bf still k below s c b =
    let there = in_iteration site directive var body in
    let xs = private_names site directive var body in
    let heads = (var, t) ∷ further_counts o more in
    let s1 = begin_iteration k s in
    let s2 = unset_all qs s1 in
    let s3 = m (variables_run place t more k s2) in
    let r1 = privates_run qs s3 in
    let c2 = with_all_unset site xs c in
    let b1 = begun_in_iteration names there k s c b.beside in
    let u = unset_follow names site flags within h body xs qs ps s1 c b1.cells in
    let inner : Run = with_variables there heads k (f there) in
    let varied : Follows s1 (after (unset_log site xs) (inner c2)) (Lands s3) s3 =
    follows_then s1 s2 s3 (record { log = unset_log site xs; out = Ok c2 }) (λ y. inner c2) (Lands s2) (Lands s3) u
    (λ g y p l. variables_follow names there var place t o more k (f there) m e i fit below bf still s2 c2
    (beside_in names there s1 s2 c c2 b1 u.scene (unset_fits site xs c b1.fits) (lands_out y c2 s2 p l)))
    (λ g. rests_at s2 s3 (still_both (variables_run place t more k) m (variables_still place t more k) still s2 g)) in
    round_follows k s r1 (after (unset_log site xs) (inner c2) >>= (λ d. with_log (private_words site body xs d) d)) b.first
    (follows_then s1 s3 r1 (after (unset_log site xs) (inner c2)) (λ d. with_log (private_words site body xs d) d) (Lands s3) (Lands r1) varied
    (λ g d p l. privates_follow names site flags within h body xs qs ps s3 d l) (λ g. rests_at s3 r1 (privates_still qs s3 g)))

-- ---- how many iterations run

abbrev add_on : ℕ → ℕ → ℕ
add_on n zero = n
add_on n (suc d) = suc (add_on n d)

add_on_is : (n d : ℕ) → add_on n d ≡ n + d
add_on_is n zero = omega arith
add_on_is n (suc d) = let e = add_on_is n d in omega arith

-- after a stop more iterations tell nothing more
extended : (f : ℕ → Run) (s r : Standing) (c : Cells) (n : ℕ) → goes_on r.kept.seen ≡ false → FollowsBy rounded s (turns n f c) (Lands r) r → (d : ℕ) → FollowsBy rounded s (turns (add_on n d) f c) (Lands r) r
extended f s r c n h e zero = e
extended f s r c n h e (suc d) = follows_then_by rounded rounded_joins s r r (turns (add_on n d) f c) (f (add_on n d)) (Lands r) (Lands r) (extended f s r c n h e d) (λ g. absurd (clash g h)) (λ g. rests_here r)

too_many : (n b l : ℕ) → n ≤ b → b ≤ l → l ≡ 16777216 → n ≡ 18446744073709551615 → ⊥
too_many n b l h g i j = omega arith

stopped_by_limit : (f : ℕ → Run) (s r : Standing) (c : Cells) (n : ℕ) → n ≡ 18446744073709551615 → s.scene.limits ≡ the_limits → ((k : ℕ) (d : Cells) → zero < begun_in (notes_in s.scene.iteration (f k d).log))
    → FollowsBy rounded s (turns n f c) (Lands r) r → goes_on r.kept.seen ≡ false
stopped_by_limit f s r c n big lim starts e = by_going (goes_on r.kept.seen) refl
  where
    ns : List Note
    ns = notes_in s.scene.iteration (turns n f c).log

    positive : n ≤ begun_in ns → zero < begun_in ns
    positive h = omega arith

    by_going : (b : Bool) → goes_on r.kept.seen ≡ b → b ≡ false
    by_going false g = refl
    by_going true g =
        let v = e.value g in
        let a : n ≤ begun_in ns = turns_begin s.scene.iteration f starts n c v.0 v.1.0 in
        let k : goes_on (after_notes s.scene.judge s.scene.limits s.kept ns).seen ≡ true = subst (λ (z : Kept). goes_on z.seen ≡ true) e.kept g in
        absurd (too_many n (begun_in ns) s.scene.limits.statements a (limited s.scene.judge s.scene.limits s.kept ns k (positive a)) (ap (λ (z : Limits). z.statements) lim) big)

not_le : (a b : ℕ) → nat_le a b ≡ false → b < a
not_le a b h = grind (arith, nat_tests)

capped_rounds : (P : Standing → Cells → Type 0) (n : ℕ) (f : ℕ → Run) (m : ℕ → Standing → Standing) → Turning rounded P n f m → (s : Standing) (c : Cells) → P s c → s.scene.limits ≡ the_limits
    → ((k : ℕ) (d : Cells) → zero < begun_in (notes_in s.scene.iteration (f k d).log))
    → FollowsBy rounded s (turns n f c) (Lands (turns_run (capped n) 0 m s)) (turns_run (capped n) 0 m s)
capped_rounds P n f m t s c p lim starts = by_test (nat_le n 18446744073709551615) refl
  where
    by_test : (b : Bool) → nat_le n 18446744073709551615 ≡ b
        → FollowsBy rounded s (turns n f c) (Lands (turns_run (if b then n else 18446744073709551615) 0 m s)) (turns_run (if b then n else 18446744073709551615) 0 m s)
    by_test true e = turns_follow rounded P n f m t n (omega arith) s c p
    by_test false e =
        let big = not_le n 18446744073709551615 e in
        let r = turns_run 18446744073709551615 0 m s in
        let w = turns_follow rounded P n f m t 18446744073709551615 (omega arith) s c p in
        let d = n - 18446744073709551615 in
        let z : add_on 18446744073709551615 d ≡ n = add_on_is 18446744073709551615 d ∙ (let y : 18446744073709551615 + d ≡ n = omega arith in y) in
        subst (λ (j : ℕ). FollowsBy rounded s (turns j f c) (Lands r) r) z (extended f s r c 18446744073709551615 (stopped_by_limit f s r c 18446744073709551615 refl lim starts w) w d)

counted_rounds : (site : Site) (var : List ℕ) (t : IterationCount) (o : Option Head) (more : Further) → FurtherIs site o more → (P : Standing → Cells → Type 0) (f : ℕ → Run) (m : ℕ → Standing → Standing)
    → Turning rounded P (iterations ((var, t) ∷ further_counts o more)) f m → (s : Standing) (c : Cells) → P s c → s.scene.limits ≡ the_limits
    → ((k : ℕ) (d : Cells) → zero < begun_in (notes_in s.scene.iteration (f k d).log))
    → (let r = turns_run (iteration_count t more) 0 m s in FollowsBy rounded s (turns (iterations ((var, t) ∷ further_counts o more)) f c) (Lands r) r)
counted_rounds site var t None None i P f m u s c p lim starts = turns_follow rounded P t.count f m u t.count (omega arith) s c p
counted_rounds site var t None (Some x) i P f m u s c p lim starts = absurd i
counted_rounds site var t (Some h) None i P f m u s c p lim starts = absurd i
counted_rounds site var t (Some h) (Some x) i P f m u s c p lim starts = capped_rounds P (t.count * x.1.count) f m u s c p lim starts

-- ---- all iterations

-- where the iterations begin
entry_beside : (names : Names) (site : Site) (directive : Directive) (var : List ℕ) (body : Statements) (line : ℕ) (bounds : List ℤ) (s : Standing) (c : Cells) → Beside names site false s c → InRounds names (in_iteration site directive var body) (entry line bounds s) c
entry_beside names site directive var body line bounds s c b = record {
  beside = record {
    named = b.named;
    limits = b.limits;
    around = refl;
    outside = λ o. absurd (cc);
    site_is = iteration_site names site (flags_at names site) false directive var body b.site_is;
    fits = b.fits;
    cells = b.cells;
  };
  first = (b.outside refl).0;
}

one_begins : (b : ℕ) → zero < 1 + b
one_begins b = omega arith

all_rounds : (names : Names) (site : Site) (directive : Directive) (var : List ℕ) (body : Statements) (f : Site → Run) (m : Standing → Standing)
    → (place : Option ℕ) (t : IterationCount) (o : Option Head) (more : Further) (qs : List PrivateScalar) → PrivatesStand names site body (private_names site directive var body) qs
    → place ≡ place_of site var [] → FurtherIs site o more → HeadsFit site ((var, t) ∷ further_counts o more)
    → BodyFollows names (in_iteration site directive var body) true (f (in_iteration site directive var body)) m → Leaves m → KeepsFit site (f (in_iteration site directive var body))
    → (line : ℕ) (bounds : List ℤ) (s : Standing) (c : Cells) → Beside names site false s c
    → (let r = turns_run (iteration_count t more) 0 (λ j z. uniterated (round_run m place t more qs j z)) (entry line bounds s) in
    FollowsBy rounded (entry line bounds s) (turns (iterations ((var, t) ∷ further_counts o more)) (one_iteration site directive var ((var, t) ∷ further_counts o more) body f) c) (Lands r) r)
all_rounds names site directive var body f m place t o more qs ps e i fit bf still kept line bounds s c b =
    let there = in_iteration site directive var body in
    let heads = (var, t) ∷ further_counts o more in
    let g = one_iteration site directive var heads body f in
    let h : ℕ → Standing → Standing = λ j z. uniterated (round_run m place t more qs j z) in
    let p = entry_beside names site directive var body line bounds s c b in
    let turning : Turning rounded (InRounds names there) (iterations heads) g h = record {
      joins = rounded_joins;
      lands = λ z d q. q.beside.cells;
      follows = λ k below z d q. iteration_follows names site (flags_at names site) false b.site_is directive var body f m place t o more qs ps e i fit bf still k below z d q;
      keeps = λ k below z y a d q sc w p l. record {
        beside = beside_in names there z y a d q.beside sc (turns_give k g (Fits site) (λ j x. one_iteration_fits site directive var heads body f fit kept j (omega arith)) a q.beside.fits d p) l;
        first = ap (λ (v : Scene). v.iteration) sc ∙ q.first;
      };
    } in
    counted_rounds site var t o more i (InRounds names there) g h turning (entry line bounds s) c p b.limits (λ k d. one_begins _)

-- ---- words behind a loop

further_words_still : (more : Further) → Leaves (further_words more)
further_words_still None s h = refl
further_words_still (Some u) s h = words_still u.1 s h

further_words_follow : (site : Site) (o : Option Head) (more : Further) → FurtherIs site o more → (s : Standing) (d : Cells) → Lands s d
    → Follows s (with_log (words_of_all (further_counts o more)) d) (Lands (further_words more s)) (further_words more s)
further_words_follow site None None i s d l = nothing_follows s d l
further_words_follow site None (Some u) i s d l = absurd i
further_words_follow site (Some x) None i s d l = absurd i
further_words_follow site (Some x) (Some u) i s d l =
    let r = words_run u.1 s in
    alike_follows s (with_log (both (loop_words u.1) silence) d) (with_log (loop_words u.1) d) (Lands r) r (record { notes = λ k. append-nil (notes_in k (loop_words u.1)); tapes = λ w. refl; out = refl }) (words_follow u.1 s d l)

end_follows : (site : Site) (var : List ℕ) (t : IterationCount) (o : Option Head) (more : Further) → FurtherIs site o more → (line : ℕ) (s : Standing) (d : Cells) → Lands s d
    → (let r = further_words more (words_run t (noted s (tells (ends line)))) in
    Follows s (with_log (both (single (ends line)) (words_of_all ((var, t) ∷ further_counts o more))) d) (Lands r) r)
end_follows site var t o more i line s d l =
    let q = noted s (tells (ends line)) in
    let a = words_run t q in
    let r = further_words more a in
    let w = words_of_all (further_counts o more) in
    follows_after s q r (single (ends line)) (with_log (both (loop_words t) w) d) (Lands r) refl refl (λ g. refl)
    (follows_then q a r (with_log (loop_words t) d) (with_log w) (Lands a) (Lands r) (words_follow t q d (noted_cells s (ends line) ∙ l))
    (λ g y p k. further_words_follow site o more i a y k) (λ g. rests_at a r (further_words_still more a g)))

-- after a stop the end tells nothing
end_still : (t : IterationCount) (more : Further) (line : ℕ) (s : Standing) → goes_on s.kept.seen ≡ false → further_words more (words_run t (noted s (tells (ends line)))) ≡ s
end_still t more line s h =
    ap (λ (z : Standing). further_words more (words_run t z)) (noted_still s (tells (ends line)) h)
    ∙ still_both (words_run t) (further_words more) (words_still t) (further_words_still more) s h

-- ---- the loop, behind its heads

entry_first : (line : ℕ) (bounds : List ℤ) (s : Standing) → s.scene.iteration ≡ 0 → uniterated (entry line bounds s) ≡ entry line bounds s
entry_first line bounds s e = ap (λ (n : ℕ). standing (record (entry line bounds s).scene { iteration = n }) (entry line bounds s).tape s.kept) (sym e)

parallel_behind : (names : Names) (site : Site) (directive : Directive) (var : List ℕ) (body : Statements) (f : Site → Run) (m : Standing → Standing) (hd : HeadTree)
    → (t : IterationCount) (o : Option Head) (more : Further) (qs : List PrivateScalar) → PrivatesStand names site body (private_names site directive var body) qs
    → hd.place ≡ place_of site var [] → FurtherIs site o more → HeadsFit site ((var, t) ∷ further_counts o more)
    → BodyFollows names (in_iteration site directive var body) true (f (in_iteration site directive var body)) m → Leaves m → KeepsFit site (f (in_iteration site directive var body))
    → BodyFollows names site false (run_parallel hd.line directive var body f site ((var, t) ∷ further_counts o more)) (iterations_run m hd qs t more)
parallel_behind names site directive var body f m hd t o more qs ps e i fit bf still kept s c b =
    let heads = (var, t) ∷ further_counts o more in
    let bounds = bounds_of t ++ further_bounds more in
    let n = iteration_count t more in
    let g = round_run m hd.place t more qs in
    let x = entry hd.line bounds s in
    let raw = turns_run n 0 g x in
    let u = uniterated raw in
    let first = (b.outside refl).0 in
    let ts = turns (iterations heads) (one_iteration site directive var heads body f) c in
    let same : u ≡ turns_run n 0 (λ j z. uniterated (g j z)) x = turns_uniterated n 0 g (λ j z. refl) x ∙ ap (turns_run n 0 (λ j z. uniterated (g j z))) (entry_first hd.line bounds s first) in
    let all : FollowsBy rounded x ts (Lands u) u = subst (λ (z : Standing). FollowsBy rounded x ts (Lands z) z) (sym same) (all_rounds names site directive var body f m hd.place t o more qs ps e i fit bf still kept hd.line bounds s c b) in
    let done = rounds_follow hd.line bounds s u ts b.around first (b.outside refl).1 all in
    let r = further_words more (words_run t (noted (outside u) (tells (ends hd.line)))) in
    let last : iterations_run m hd qs t more s ≡ r =
    ap (λ (z : Standing). further_words more (words_run t (left (turns_run n 0 g z)))) (entered_is hd.line bounds s b.around)
    ∙ ap (λ (z : Standing). further_words more (words_run t z)) (left_is hd.line s raw all.scene) in
    subst (λ (z : Standing). Follows s (run_parallel hd.line directive var body f site heads c) (Lands z) z) (sym last)
    (follows_then s (outside u) r (inside rounds ts) (with_log (both (single (ends hd.line)) (words_of_all heads))) (Lands (outside u)) (Lands r) done
    (λ a d p l. end_follows site var t o more i hd.line (outside u) d l) (λ a. rests_at (outside u) r (end_still t more hd.line (outside u) a)))

-- a loop that isn't come to
parallel_rests : (m : Standing → Standing) (hd : HeadTree) (qs : List PrivateScalar) (t : IterationCount) (more : Further) (s : Standing) → is_some s.scene.around ≡ false → s.scene.iteration ≡ 0 → goes_on s.kept.seen ≡ false
    → Rests s (iterations_run m hd qs t more s)
parallel_rests m hd qs t more s a i h =
    let bounds = bounds_of t ++ further_bounds more in
    let n = iteration_count t more in
    let g = round_run m hd.place t more qs in
    let x = entry hd.line bounds s in
    let e : iterations_run m hd qs t more s ≡ further_words more (words_run t (left x)) =
    ap (λ (z : Standing). further_words more (words_run t (left (turns_run n 0 g z)))) (entered_is hd.line bounds s a)
    ∙ ap (λ (z : Standing). further_words more (words_run t (left z))) (stopped_turns n 0 g x h) in
    rests_then s (outside x) (iterations_run m hd qs t more s) (record { kept = refl; scene = back_outside x.scene s.scene hd.line (none_around s.scene.around a) i refl })
    (rests_at (outside x) (iterations_run m hd qs t more s) (e ∙ end_still t more hd.line (outside x) h))

-- ---- all of it

pub parallel_follows : (names : Names) (site : Site) (directive : Directive) (x : Head) (o : Option Head) (body : Statements) (f : Site → Run) (m : Standing → Standing) (hd : HeadTree) (inner : Option HeadTree) (qs : List PrivateScalar)
    → HeadStands names (flags_at names site) x hd → InnerStands names (flags_at names site) o inner → PrivatesStand names site body (private_names site directive x.var body) qs
    → HeadIsFit site x → FurtherIsFit site o
    → BodyFollows names (in_iteration site directive x.var body) true (f (in_iteration site directive x.var body)) m → Leaves m → KeepsFit site (f (in_iteration site directive x.var body))
    → (s : Standing) (c : Cells) → Beside names site false s c
    → (let t = head_run names hd s in let u = inner_run names inner t.state in let r = iterations_run m hd qs t.out u.out u.state in
    Follows s (heads_of x o site c >>= (λ heads. run_parallel x.line directive x.var body f site heads c)) (Lands r) r)
parallel_follows names site directive x o body f m hd inner qs h j ps fx fo bf still kept s c b =
    let t = head_run names hd s in
    let u = inner_run names inner t.state in
    let z = u.state in
    let r = iterations_run m hd qs t.out u.out z in
    let heads = (x.var, t.out) ∷ further_counts o u.out in
    let bt = head_beside names site false s c b x hd h in
    let bz = inner_beside names site false t.state c bt o inner j in
    let found : Follows s (heads_of x o site c) (λ hs. hs ≡ heads) z =
    follows_then s t.state z (at_line x.line (turns_of x.first x.last x.step site c)) (λ v. further_turns o site c >>= (λ hs. pure ((x.var, v) ∷ hs))) (λ v. IsSame v t.out) (λ hs. hs ≡ heads) (head_follows names site false s c b x hd h)
    (λ g v p e. follows_then t.state z z (further_turns o site c) (λ hs. pure ((x.var, v) ∷ hs)) (λ hs. hs ≡ further_counts o u.out) (λ hs. hs ≡ heads) (inner_follows names site false t.state c bt o inner j)
    (λ a hs q d. record { kept = refl; scene = refl; value = λ k. ((x.var, v) ∷ hs, (refl, rw (e, d) refl)); tape = λ k. refl }) (λ a. rests_here z))
    (λ g. inner_rests names inner t.state g) in
    follows_then s z r (heads_of x o site c) (λ hs. run_parallel x.line directive x.var body f site hs c) (λ hs. hs ≡ heads) (Lands r) found
    (λ g hs p e. subst (λ (y : Heads). Follows z (run_parallel x.line directive x.var body f site y c) (Lands r) r) (sym e)
    (subst (λ (n : ℕ). Follows z (run_parallel n directive x.var body f site heads c) (Lands r) r) h.line
    (parallel_behind names site directive x.var body f m hd t.out o u.out qs ps (h.place ∙ place_at names site false (flags_at names site) b.site_is hd.slot x.var h.within h.variable)
    (inner_is names site (flags_at names site) false b.site_is t.state o inner j) (subst (HeadsFit site) e (heads_fit site c b.fits x o fx fo hs p)) bf still kept z c bz)))
    (λ g. parallel_rests m hd qs t.out u.out z bz.around (bz.outside refl).0 g)
