-- Differentiated reads that an iteration's log tells are reads that the iteration evaluates.
use Rattle.std.proofs.Common.{◌≡◌, ℕ, Bool, true, false, cond, if◌then◌else◌, inl, inr, List, [], ◌∷◌, ◌++◌, map, Option, Some, None, Result, Ok, Err, refl, ap, sym, subst, ◌∙◌}
use Rattle.std.specs.Prelude.{option_map}
use Rattle.fl_types.specs.declared.access.AccessKind.{AccessKind}
use Rattle.fl_types.specs.declared.access.AccessKind.TheVariants.{Read}
use Rattle.fl_types.specs.Accesses.{Occurrence, loop_accesses}
use Rattle.fl_types.specs.Nests.{is_nest, iteration_body}
use Rattle.meaning.specs.declared.value.Value.{Value}
use Rattle.meaning.specs.declared.value.Cause.{Cause}
use Rattle.meaning.specs.Values.{whole_numbers}
use Rattle.meaning.specs.Logs.{Touch, Log, silence, single, touched, sets, both, within, instance, right_side, rounds, turn, iteration, condition, taken, events_in}
use Rattle.meaning.specs.Sites.{Key, Cells, Site}
use Rattle.meaning.specs.Expressions.{values_of}
use Rattle.meaning.specs.Statements.{Run, Heads, iterations, turns, one_iteration, run_all, run_inner}
use Rattle.meaning.specs.Touches.{touches_in, right_touches_in, place_at, designated_place, touch_of}
use Rattle.meaning.specs.Groups.{Group, right_of, touches_of_groups, IsPiece, ArePieces, iteration_of, groups_of_iteration}
use Rattle.meaning.proofs.Parts.{turn_run}
use Rattle.meaning.proofs.Touching.{touches_append}
use Rattle.meaning.proofs.GroupTouching.{iterations_touch}
use Rattle.transposition.specs.Worlds.{name_at}
use Rattle.transposition.specs.Law.{HasTouch, HasDifferentiatedRead}
use Rattle.transposition.specs.Calms.{inner_of, iteration_log, AreFlat}
use Rattle.transposition.proofs.Keys.{stands}
use Rattle.transposition.proofs.Nesting.{body_run}
use Rattle.transposition.proofs.Parallel.{state_end}
use Rattle.transposition.proofs.PlainLogs.{IsPlain}
use Rattle.index_forms.specs.Loops.{HeadedLoop}
use Rattle.index_law.specs.Meetings.{In}
use Rattle.index_law.proofs.Meets.{in_left, in_right, in_map}
use Rattle.index_law.proofs.GroupKeys.{split, by_side, keys_kept}
use Rattle.shared_law.specs.Apart.{ReadsAreEvaluated}
use Rattle.shared_law.proofs.Reaching.{iteration_by, are_passages}

-- ---- touches of a log

abbrev touch_at : ℕ → ℕ → AccessKind → Touch
touch_at p k kind = record { place = p; iteration = k; kind = kind }

in_first : (t : Touch) (a b : Log) (k : ℕ) → In t (touches_in k a) → In t (touches_in k (both a b))
in_first t a b k h = subst (λ (ts : List Touch). In t ts) (sym (touches_append (events_in k a) (events_in k b))) (in_left t (touches_in k a) (touches_in k b) h)

in_second : (t : Touch) (a b : Log) (k : ℕ) → In t (touches_in k b) → In t (touches_in k (both a b))
in_second t a b k h = subst (λ (ts : List Touch). In t ts) (sym (touches_append (events_in k a) (events_in k b))) (in_right t (touches_in k a) (touches_in k b) h)

touch_in : (l : Log) (k p : ℕ) (kind : AccessKind) → IsPlain l → HasTouch kind p l → In (touch_at p k kind) (touches_in k l)
touch_in silence k p kind h t = absurd t
touch_in (single e) k p kind h t = absurd t
touch_in (touched q j) k p kind h t = inl (ap (λ (m : ℕ). touch_at m k j) t.0 ∙ ap (λ (m : AccessKind). touch_at p k m) t.1)
touch_in (sets q v) k p kind h t = absurd t
touch_in (both a b) k p kind h (inl t) = in_first (touch_at p k kind) a b k (touch_in a k p kind h.0 t)
touch_in (both a b) k p kind h (inr t) = in_second (touch_at p k kind) a b k (touch_in b k p kind h.1 t)
touch_in (within instance a) k p kind h t = touch_in a k p kind h.1 t
touch_in (within (right_side x) a) k p kind h t = touch_in a k p kind h.1 t
touch_in (within rounds a) k p kind h t = absurd h.0
touch_in (within (turn m) a) k p kind h t = touch_in a k p kind h.1 t
touch_in (within (iteration m) a) k p kind h t = absurd h.0
touch_in (within (condition m) a) k p kind h t = touch_in a k p kind h.1 t
touch_in (within (taken m) a) k p kind h t = touch_in a k p kind h.1 t

read_in : (on : List ℕ → Bool) (l : Log) (k p : ℕ) → IsPlain l → HasDifferentiatedRead on p l → In (touch_at p k Read) (right_touches_in on k l)
read_in on silence k p h t = absurd t
read_in on (single e) k p h t = absurd t
read_in on (touched q j) k p h t = absurd t
read_in on (sets q v) k p h t = absurd t
read_in on (both a b) k p h (inl t) = in_left (touch_at p k Read) (right_touches_in on k a) (right_touches_in on k b) (read_in on a k p h.0 t)
read_in on (both a b) k p h (inr t) = in_right (touch_at p k Read) (right_touches_in on k a) (right_touches_in on k b) (read_in on b k p h.1 t)
read_in on (within instance a) k p h t = read_in on a k p h.1 t
read_in on (within (right_side x) a) k p h t = by_target (on x) t
  where
    by_target : (b : Bool) → cond b (HasTouch Read p a) ⊥ → In (touch_at p k Read) (if b then touches_in k a else right_touches_in on k a)
    by_target true t = touch_in a k p Read h.1 t
    by_target false t = absurd t
read_in on (within rounds a) k p h t = absurd h.0
read_in on (within (turn m) a) k p h t = read_in on a k p h.1 t
read_in on (within (iteration m) a) k p h t = absurd h.0
read_in on (within (condition m) a) k p h t = read_in on a k p h.1 t
read_in on (within (taken m) a) k p h t = read_in on a k p h.1 t

-- ---- the group that makes a touch

-- an access of one of these groups on the right side of an assignment to an active name, which makes the touch in iteration k
record RightOf (on : List ℕ → Bool) (k : ℕ) (gs : List Group) (t : Touch) : Type 0 where
  group : Group
  comes : In group gs
  access : Occurrence
  right : In access group.right
  target : on group.target ≡ true
  touch : touch_of group.site group.cells k access ≡ Some t

-- among the touches of accesses of a group
record MadeBy (g : Group) (k : ℕ) (os : List Occurrence) (t : Touch) : Type 0 where
  access : Occurrence
  stands : In access os
  touch : touch_of g.site g.cells k access ≡ Some t

made_by : (g : Group) (k : ℕ) (os : List Occurrence) (t : Touch) → In (Some t) (map (touch_of g.site g.cells k) os) → MadeBy g k os t
made_by g k [] t h = absurd h
made_by g k (o ∷ os) t (inl e) = record { access = o; stands = inl refl; touch = e }
made_by g k (o ∷ os) t (inr h) = let m = made_by g k os t h in record { access = m.access; stands = inr m.stands; touch = m.touch }

of_group : (on : List ℕ → Bool) (k : ℕ) (g : Group) (gs : List Group) (t : Touch) → In (Some t) (map (touch_of g.site g.cells k) (right_of on g)) → RightOf on k (g ∷ gs) t
of_group on k g gs t = by_target (on g.target) refl
  where
    by_target : (b : Bool) → on g.target ≡ b → In (Some t) (map (touch_of g.site g.cells k) (if b then g.right else [])) → RightOf on k (g ∷ gs) t
    by_target true e h =
        let m = made_by g k g.right t h in
        record { group = g; comes = inl refl; access = m.access; right = m.stands; target = e; touch = m.touch }
    by_target false e h = absurd h

right_of_groups : (on : List ℕ → Bool) (k : ℕ) (gs : List Group) (t : Touch) → In (Some t) (touches_of_groups (right_of on) k gs) → RightOf on k gs t
right_of_groups on k [] t h = absurd h
right_of_groups on k (g ∷ gs) t h =
    by_side (RightOf on k (g ∷ gs) t) (split (Some t) (map (touch_of g.site g.cells k) (right_of on g)) (touches_of_groups (right_of on) k gs) h)
    (of_group on k g gs t)
    (λ m. let r = right_of_groups on k gs t m in
    record { group = r.group; comes = inr r.comes; access = r.access; right = r.right; target = r.target; touch = r.touch })

-- what stands in a piece stands in the whole
in_piece : (os ps : List Occurrence) (o : Occurrence) → IsPiece os ps → In o ps → In o os
in_piece os ps o w h =
    subst (λ (qs : List Occurrence). In o qs) (sym w.whole)
    (in_right o w.before (ps ++ w.after) (in_left o ps w.after h))

right_stands : (os : List Occurrence) (gs : List Group) → ArePieces os gs → (g : Group) → In g gs → (o : Occurrence) → In o g.right → In o g.accesses
right_stands os [] w g h o r = absurd h
right_stands os (x ∷ gs) w g (inl e) o r = subst (λ (y : Group). In o y.right → In o y.accesses) e (in_piece x.accesses x.right o w.1) r
right_stands os (x ∷ gs) w g (inr h) o r = right_stands os gs w.2 g h o r

-- where an access falls, and how it is named
record FallsAt (site : Site) (cells : Cells) (o : Occurrence) (t : Touch) : Type 0 where
  place : designated_place site cells o.place ≡ Some t.place
  kind : o.kind ≡ t.kind

falls_at : (site : Site) (cells : Cells) (k : ℕ) (o : Occurrence) (t : Touch) → touch_of site cells k o ≡ Some t → FallsAt site cells o t
falls_at site cells k o t h = by_place (designated_place site cells o.place) refl h
  where
    by_place : (q : Option ℕ) → designated_place site cells o.place ≡ q → option_map (λ (p : ℕ). touch_at p k o.kind) q ≡ Some t → FallsAt site cells o t
    by_place None e g = cc
    by_place (Some p) e g =
        let same : touch_at p k o.kind ≡ t = cc in
        record { place = e ∙ ap (λ (x : Touch). Some x.place) same; kind = ap (λ (x : Touch). x.kind) same }

name_of : (site : Site) (x : List ℕ) (r : Result (List Value) Cause) (p : ℕ) → place_at site x r ≡ Some p → name_at site.keys p ≡ x
name_of site x (Ok vs) p h = (stands site.keys x (whole_numbers vs) p h).named
name_of site x (Err c) p h = cc

-- ---- the read that a log tells

-- of an iteration, in the cells that it was begun in
read_of : (on : List ℕ → Bool) (l : HeadedLoop) (site : Site) (heads : Heads) (cells before : Cells) (k p : ℕ) → AreFlat l.loop.body
    → (turns k (iteration_of site l.loop heads) cells).out ≡ Ok before
    → HasDifferentiatedRead on p (iteration_log site l.loop.directive l.loop.var heads l.loop.body cells k)
    → In (touch_at p k Read) (right_touches_in on 0 (iteration_of site l.loop heads k before).log)
read_of on l site heads cells before k p flat e t =
    subst (λ (g : Site → Run). In (touch_at p k Read) (right_touches_in on 0 (one_iteration site l.loop.directive l.loop.var heads l.loop.body g k before).log)) (sym same)
    (read_in on (inner_of (f k before).log) k p ((are_passages site l.loop.directive l.loop.var heads l.loop.body flat).plain k before)
    (subst (λ (c : Cells). HasDifferentiatedRead on p (inner_of (f k c).log))
    (state_end k f cells before (subst (λ (g : Site → Run). (turns k (one_iteration site l.loop.directive l.loop.var heads l.loop.body g) cells).out ≡ Ok before) same e)) t))
  where
    f : ℕ → Run
    f = iteration_by site l.loop.directive l.loop.var heads l.loop.body

    same : (if is_nest l.loop.directive l.loop.body then run_inner l.loop.body else run_all l.loop.body) ≡ run_all (iteration_body l.loop.directive l.loop.body)
    same = body_run (is_nest l.loop.directive l.loop.body) l.loop.body

pub reads_evaluated : ReadsAreEvaluated
reads_evaluated decls on l site heads cells flat h k p i t =
    let r = turn_run (iterations heads) k (iteration_of site l.loop heads) cells h.run.end h.run.ran i in
    let w = iterations_touch decls site l.loop h.outer h.ring h.run.sequential heads k r.before in
    let gs : List Group = groups_of_iteration site l.loop heads k r.before in
    let m = right_of_groups on k gs (touch_at p k Read)
    (subst (λ (os : List (Option Touch)). In (Some (touch_at p k Read)) os) ((w.touches r.past r.ran 0).right_sides on)
    (in_map Some (touch_at p k Read) (right_touches_in on 0 (iteration_of site l.loop heads k r.before).log) (read_of on l site heads cells r.before k p flat r.reached t))) in
    let f = falls_at m.group.site m.group.cells k m.access (touch_at p k Read) m.touch in (
      record {
        evaluated = record {
          within = i;
          before = r.before;
          reached = r.reached;
          group = m.group;
          comes = m.comes;
          access = m.access;
          stands = right_stands (loop_accesses decls l.loop) gs w.groups m.group m.comes m.access m.right;
        };
        right = m.right;
        active = m.target;
        reads = f.kind;
        falls = f.place;
      },
      sym (name_of m.group.site m.access.place.name (values_of m.access.place.subscripts m.group.site m.group.cells).out p f.place)
          ∙ ap (λ (ks : List Key). name_at ks p) (keys_kept site l.loop heads k r.before m.group m.comes),
    )
