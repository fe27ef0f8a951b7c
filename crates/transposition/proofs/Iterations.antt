-- An iteration of a parallel loop is undone by itself, from its tape.
use Rattle.std.proofs.Common.{◌≡◌, ℕ, ◌+◌, ◌-◌, ◌*◌, ◌<◌, ◌≤◌, List, [], ◌∷◌, ◌++◌, refl, ap, sym, ◌∙◌, subst, arith, length, take, drop, map, Bool, true, false, ◌||◌, cond, Option, Some, None, Ok, inl, inr}
use Rattle.std.specs.Prelude.{slice_index, bytes_eq, nat_lt}
use Rattle.std.proofs.lemmas.Slice.Eq.{bytes_eq-Decides}
use Rattle.std.proofs.lemmas.List.{length-map, length-append, length-drop, length-take-le, take_at, drop_at, get_or_append_left, get_or-append_right, get_or-take, get_or-drop}
use Rattle.pairing.specs.Ring.{Same}
use Rattle.pairing.specs.Pair.{pair}
use Rattle.pairing.proofs.Sames.{of_equal}
use Rattle.fl_ast.specs.declared.directive.Directive.{Directive}
use Rattle.fl_ast.specs.Tree.{Statements}
use Rattle.fl_types.specs.Sharing.{has_name}
use Rattle.operations.specs.Tree.{Played, play}
use Rattle.meaning.specs.declared.value.Value.{Value}
use Rattle.meaning.specs.declared.value.Value.TheVariants.{Index}
use Rattle.meaning.specs.declared.value.TrapAt.{TrapAt}
use Rattle.meaning.specs.Logs.{Log, both, Traced, after}
use Rattle.meaning.specs.Sites.{Cells, Site, place_of, kind_of, word_of, in_iteration as site_in_iteration}
use Rattle.meaning.specs.Expressions.{content}
use Rattle.meaning.specs.Statements.{Run, with_log, set_log_at, with_all_unset, unset_log, private_words, with_variables, Heads, one_iteration, run_all}
use Rattle.fl_types.specs.Nests.{iteration_body}
use Rattle.meaning.proofs.Parts.{Bound, bound}
use Rattle.transposition.specs.Calms.{inner_of}
use Rattle.transposition.proofs.RoundFacts.{RoundFacts}
use Rattle.transposition.proofs.Words.{zero_word}
use Rattle.transposition.proofs.Split.{adjoint_cell}
use Rattle.transposition.proofs.Collections.{Collected, collections_played}
use Rattle.std.specs.Prelude.{◌^◌}
use Rattle.transposition.proofs.Heads.{Settings, settings, set_names, AllIndex, set_cells, set_words, words_set, SettingRun, setting_run, IsSet, VariablesSet, variables_set, set_fit}
use Rattle.meaning.specs.Adjoints.{tangent_of}
use Rattle.transposition.specs.Tapes.{Tape, Tapes, empty, tape_after, tape_at}
use Rattle.transposition.specs.Worlds.{World, Local, name_at, in_iteration}
use Rattle.transposition.specs.Back.{loop_variables, with_variable_words, after_private_pops, with_clear_privates, iteration_local, iteration_tree, back_all}
use Rattle.transposition.specs.Law.{Use, local, flat, Like, tangents, Fit, Within, CoverAll, Ends, Undoes, AreWords}
use Rattle.meaning.specs.Fitting.{HasKind}
use Rattle.transposition.specs.Sound.{AllOwn, privates_of, writes_in}
use Rattle.transposition.proofs.Split.{less, not_less}
use Rattle.transposition.proofs.Places.{content_past}
use Rattle.transposition.proofs.Kept.{Keeps}
use Rattle.transposition.proofs.Runs.{noted_out}
use Rattle.transposition.proofs.Rounds.{Round, Step}
use Rattle.transposition.proofs.Spreading.{tangents_long}
use Rattle.pairing.proofs.Pairs.{length_live}
use Rattle.transposition.proofs.Privates.{unset_long, unset_other, unset_here, Cleared, cleared, Refilled, refilled, pair_by, counts}

-- the cells in which an iteration's body begins
abbrev pub begun : (w : World) (directive : Directive) (var : List ℕ) (tree : Statements) → Settings → Cells → Cells
begun w directive var tree xs s = set_cells w.site xs (with_all_unset w.site (privates_of w directive var tree) s)

-- an iteration's run
abbrev pub iteration_run : (w : World) (directive : Directive) (var : List ℕ) (tree : Statements) (heads : Heads) → ℕ → Cells → Traced TrapAt Cells
iteration_run w directive var tree heads k s = one_iteration w.site directive var heads tree (run_all (iteration_body directive tree)) k s

abbrev pub body_run_at : (w : World) (directive : Directive) (var : List ℕ) (tree : Statements) (heads : Heads) → ℕ → Cells → Traced TrapAt Cells
body_run_at w directive var tree heads k s = run_all (iteration_body directive tree) (site_in_iteration w.site directive var tree) (begun w directive var tree (settings heads k) s)

pub record IterRun (w : World) (directive : Directive) (var : List ℕ) (tree : Statements) (heads : Heads) (k : ℕ) (s s2 : Cells) : Type 0 where
  pub body : (body_run_at w directive var tree heads k s).out ≡ Ok s2
  pub tape : (t : Tape) → tape_after (inner_of (iteration_run w directive var tree heads k s).log) t ≡ tape_after (private_words w.site tree (privates_of w directive var tree) s2) (tape_after (body_run_at w directive var tree heads k s).log t)
  pub within : Within w.active (body_run_at w directive var tree heads k s).log (inner_of (iteration_run w directive var tree heads k s).log)

unset_wordless : (site : Site) (xs : List (List ℕ)) (t : Tape) → tape_after (unset_log site xs) t ≡ t
unset_wordless site [] t = refl
unset_wordless site (x ∷ xs) t = ap (tape_after (unset_log site xs)) (at_wordless (place_of site x [])) ∙ unset_wordless site xs t
  where
    at_wordless : (o : Option ℕ) → tape_after (set_log_at o None) t ≡ t
    at_wordless None = refl
    at_wordless (Some p) = refl

pub iter_run : (w : World) (directive : Directive) (var : List ℕ) (tree : Statements) (heads : Heads) (k : ℕ) (s s2 : Cells) → (iteration_run w directive var tree heads k s).out ≡ Ok s2 → IterRun w directive var tree heads k s s2
iter_run w directive var tree heads k s s2 h = record {
  body = sym sr.out ∙ (b.first ∙ ap (λ (c : Cells). Ok c) e);
  tape = λ t. ap (λ (l : Log). tape_after l t) log-is
      ∙ (ap (λ (x : Tape). tape_after (private_words w.site tree names b.value) (tape_after varied.log x)) (unset_wordless w.site names t)
      ∙ (ap (tape_after (private_words w.site tree names b.value)) (sr.tape t) ∙ ap (λ (c : Cells). tape_after (private_words w.site tree names c) (tape_after (body_run_at w directive var tree heads k s).log t)) e));
  within = subst (λ (l : Log). Within w.active (body_run_at w directive var tree heads k s).log l) (sym log-is)
      (record { touches = λ a p i. inl (inr (sr.within.touches a p i)); differentiated = λ p i. inl (inr (sr.within.differentiated p i)) });
}
  where
    names : List (List ℕ)
    names = privates_of w directive var tree

    f : Run
    f = run_all (iteration_body directive tree) (site_in_iteration w.site directive var tree)

    varied : Traced TrapAt Cells
    varied = with_variables w.site heads k f (with_all_unset w.site names s)

    b : Bound (after (unset_log w.site names) varied) (λ c. with_log (private_words w.site tree names c) c) s2
    b = bound (after (unset_log w.site names) varied) (λ c. with_log (private_words w.site tree names c) c) s2 h

    e : b.value ≡ s2
    e = noted_out (private_words w.site tree names b.value) b.value s2 b.second

    sr : SettingRun w.site w.active varied (f (set_cells w.site (settings heads k) (with_all_unset w.site names s)))
    sr = setting_run w.site w.active heads k f (with_all_unset w.site names s)

    log-is : inner_of (iteration_run w directive var tree heads k s).log ≡ both (both (unset_log w.site names) varied.log) (private_words w.site tree names b.value)
    log-is = b.log

pub own_above : (w : World) (xs : List (List ℕ)) (p : ℕ) → AllOwn w xs → has_name (name_at w.site.keys p) xs ≡ true → w.shared ≤ p
own_above w [] p h e = cc
own_above w (x ∷ xs) p h e = by_name (bytes_eq (name_at w.site.keys p) x) refl e (λ f. own_above w xs p h.1 f)
  where
    by_name : (b : Bool) → bytes_eq (name_at w.site.keys p) x ≡ b → (b || has_name (name_at w.site.keys p) xs) ≡ true → (has_name (name_at w.site.keys p) xs ≡ true → w.shared ≤ p) → w.shared ≤ p
    by_name true f g k = subst (λ (m : ℕ). w.shared ≤ m) (sym (h.0.only p ((bytes_eq-Decides (name_at w.site.keys p) x).0 f))) h.0.own
    by_name false f g k = k g

pub not_private : (w : World) (xs : List (List ℕ)) (p : ℕ) → AllOwn w xs → p < w.shared → has_name (name_at w.site.keys p) xs ≡ false
not_private w xs p h l = by_test (has_name (name_at w.site.keys p) xs) refl
  where
    by_test : (b : Bool) → has_name (name_at w.site.keys p) xs ≡ b → b ≡ false
    by_test true e = absurd (let k = own_above w xs p h e in omega arith)
    by_test false e = refl

-- the cells at the body's begin, place by place
abbrev pub Varies : Settings → Directive → List ℕ → Statements → Type 0
Varies xs directive var tree = set_names xs ≡ loop_variables directive var tree

pub own_variables : (w : World) (u inner : Use) (number : ℕ) (directive : Directive) (var : List ℕ) (tree : Statements) → RoundFacts w u inner number directive var tree → (xs : Settings) → Varies xs directive var tree → AllOwn w (set_names xs)
own_variables w u inner number directive var tree sound xs e = subst (λ (l : List (List ℕ)). AllOwn w l) (sym e) sound.variables

pub begun_other : (w : World) (u inner : Use) (number : ℕ) (directive : Directive) (var : List ℕ) (tree : Statements) → RoundFacts w u inner number directive var tree → (xs : Settings) → Varies xs directive var tree → (s : Cells) (p : ℕ)
    → has_name (name_at w.site.keys p) (privates_of w directive var tree) ≡ false → has_name (name_at w.site.keys p) (loop_variables directive var tree) ≡ false → content (begun w directive var tree xs s) p ≡ content s p
begun_other w u inner number directive var tree sound xs e s p f g =
    (variables_set w xs (with_all_unset w.site (privates_of w directive var tree) s) empty [] [] (own_variables w u inner number directive var tree sound xs e)).same p (ap (has_name (name_at w.site.keys p)) e ∙ g)
    ∙ unset_other w (privates_of w directive var tree) s p sound.privates f

not_varied : (w : World) (u inner : Use) (number : ℕ) (directive : Directive) (var : List ℕ) (tree : Statements) → RoundFacts w u inner number directive var tree → (x : List ℕ) → has_name x (privates_of w directive var tree) ≡ true → has_name x (loop_variables directive var tree) ≡ false
not_varied w u inner number directive var tree sound x e = by_test (has_name x (loop_variables directive var tree)) refl
  where
    by_test : (b : Bool) → has_name x (loop_variables directive var tree) ≡ b → b ≡ false
    by_test true f = let k : true ≡ false = sym e ∙ sound.apart x f in cc
    by_test false f = refl

pub begun_private : (w : World) (u inner : Use) (number : ℕ) (directive : Directive) (var : List ℕ) (tree : Statements) → RoundFacts w u inner number directive var tree → (xs : Settings) → Varies xs directive var tree → (s : Cells) (p : ℕ) → length s ≡ length w.site.keys → p < length w.site.keys
    → has_name (name_at w.site.keys p) (privates_of w directive var tree) ≡ true → content (begun w directive var tree xs s) p ≡ None
begun_private w u inner number directive var tree sound xs e s p size there f =
    (variables_set w xs (with_all_unset w.site (privates_of w directive var tree) s) empty [] [] (own_variables w u inner number directive var tree sound xs e)).same p (ap (has_name (name_at w.site.keys p)) e ∙ not_varied w u inner number directive var tree sound (name_at w.site.keys p) f)
    ∙ unset_here w (privates_of w directive var tree) s p sound.privates (omega arith) f

-- what holds outside holds there, too
pub begun_outer : (w : World) (u inner : Use) (number : ℕ) (directive : Directive) (var : List ℕ) (tree : Statements) → (sound : RoundFacts w u inner number directive var tree) → (xs : Settings) → Varies xs directive var tree → AllIndex xs → (s : Cells) → Fit w u s
    → Fit w u (begun w directive var tree xs s)
begun_outer w u inner number directive var tree sound xs varies ix s fit =
    let names = privates_of w directive var tree in
    let s0 = with_all_unset w.site names s in
    let fit0 : Fit w u s0 = record {
      long = unset_long w names s sound.privates ∙ fit.long;
      room = fit.room;
      kinds = λ p y e. kinds_by p y e (has_name (name_at w.site.keys p) names) refl;
      still = λ p e. still_by p e (has_name (name_at w.site.keys p) names) refl;
      held = λ p n y e g. held_by p n y e g (has_name (name_at w.site.keys p) names) refl;
    } in
    set_fit w u xs s0 fit0 (own_variables w u inner number directive var tree sound xs varies) (λ x f. sound.whole x (sym (ap (has_name x) varies) ∙ f)) (λ x f. sound.unheld x (sym (ap (has_name x) varies) ∙ f)) ix
  where
    none_of : (p : ℕ) (y : Value) → content (with_all_unset w.site (privates_of w directive var tree) s) p ≡ Some y → has_name (name_at w.site.keys p) (privates_of w directive var tree) ≡ true → (b : Bool) → nat_lt p (length s) ≡ b → ⊥
    none_of p y e f true g = let k : None ≡ Some y = sym (unset_here w (privates_of w directive var tree) s p sound.privates (less p (length s) g) f) ∙ e in cc
    none_of p y e f false g = let k : None ≡ Some y = sym (content_past (with_all_unset w.site (privates_of w directive var tree) s) p (let a = unset_long w (privates_of w directive var tree) s sound.privates in let b = not_less p (length s) g in omega arith)) ∙ e in cc

    held_by : (p n : ℕ) (y : Value) → content (with_all_unset w.site (privates_of w directive var tree) s) p ≡ Some y → u.held (name_at w.site.keys p) ≡ Some n → (b : Bool) → has_name (name_at w.site.keys p) (privates_of w directive var tree) ≡ b → word_of (Some y) ≡ n
    held_by p n y e g true f = absurd (none_of p y e f (nat_lt p (length s)) refl)
    held_by p n y e g false f = fit.held p n y (sym (unset_other w (privates_of w directive var tree) s p sound.privates f) ∙ e) g

    kinds_by : (p : ℕ) (y : Value) → content (with_all_unset w.site (privates_of w directive var tree) s) p ≡ Some y → (b : Bool) → has_name (name_at w.site.keys p) (privates_of w directive var tree) ≡ b → HasKind (kind_of w.site (name_at w.site.keys p)) y
    kinds_by p y e true f = absurd (none_of p y e f (nat_lt p (length s)) refl)
    kinds_by p y e false f = fit.kinds p y (sym (unset_other w (privates_of w directive var tree) s p sound.privates f) ∙ e)

    still_of : (c : Option Value) (p : ℕ) → content (with_all_unset w.site (privates_of w directive var tree) s) p ≡ c → has_name (name_at w.site.keys p) (privates_of w directive var tree) ≡ true → Same (tangent_of c) 0
    still_of None p e f = refl
    still_of (Some y) p e f = absurd (none_of p y e f (nat_lt p (length s)) refl)

    still_by : (p : ℕ) → u.moved (name_at w.site.keys p) ≡ false → (b : Bool) → has_name (name_at w.site.keys p) (privates_of w directive var tree) ≡ b → Same (tangent_of (content (with_all_unset w.site (privates_of w directive var tree) s) p)) 0
    still_by p e true f = still_of (content (with_all_unset w.site (privates_of w directive var tree) s) p) p refl f
    still_by p e false f = subst (λ (c : Option Value). Same (tangent_of c) 0) (sym (unset_other w (privates_of w directive var tree) s p sound.privates f)) (fit.still p e)

pub begun_fit : (w : World) (u inner : Use) (number : ℕ) (directive : Directive) (var : List ℕ) (tree : Statements) → (sound : RoundFacts w u inner number directive var tree) → (xs : Settings) → Varies xs directive var tree → AllIndex xs → (s : Cells) → Fit w u s
    → Fit (in_iteration w number directive var tree) inner (begun w directive var tree xs s)
begun_fit w u inner number directive var tree sound xs varies ix s fit =
    let fit1 = begun_outer w u inner number directive var tree sound xs varies ix s fit in
    record {
      long = fit1.long;
      room = fit1.room;
      kinds = fit1.kinds;
      still = λ p e. fit1.still p (sym (sound.moved (name_at w.site.keys p)) ∙ e);
      held = λ p n y e g. (let k : None ≡ Some n = sym (sound.fresh (name_at w.site.keys p)) ∙ g in cc);
    }

-- ---- words of the outside kept, those of the iteration dropped

abbrev mixed : ℕ → List ℕ → List ℕ → List ℕ
mixed n xs ys = take n xs ++ drop n ys

mixed_cells : (n : ℕ) (xs ys : List ℕ) → n ≤ length xs → take n (mixed n xs ys) ≡ take n xs
mixed_cells n xs ys h = take_at (take n xs) (drop n ys) n (length-take-le n xs h)

mixed_own : (n : ℕ) (xs ys : List ℕ) → n ≤ length xs → drop n (mixed n xs ys) ≡ drop n ys
mixed_own n xs ys h = drop_at (take n xs) (drop n ys) n (length-take-le n xs h)

mixed_long : (n : ℕ) (xs ys : List ℕ) → n ≤ length xs → n ≤ length ys → length (mixed n xs ys) ≡ length ys
mixed_long n xs ys h k = length-append (take n xs) (drop n ys) ∙ (let a = length-take-le n xs h in let b = length-drop n ys in omega arith)

mixed_below : (n p : ℕ) (xs ys : List ℕ) → n ≤ length xs → p < n → slice_index (mixed n xs ys) p ≡ slice_index xs p
mixed_below n p xs ys h k = get_or_append_left (take n xs) (drop n ys) 0 p (let a = length-take-le n xs h in omega arith) ∙ get_or-take n xs p 0 k

mixed_above : (n p : ℕ) (xs ys : List ℕ) → n ≤ length xs → n ≤ p → slice_index (mixed n xs ys) p ≡ slice_index ys p
mixed_above n p xs ys h k = get_or-append_right (take n xs) (drop n ys) n p 0 (length-take-le n xs h) k ∙ (get_or-drop n ys (p - n) 0 ∙ ap (λ (m : ℕ). slice_index ys m) (omega arith))

abbrev local_of : Tape → List ℕ → List ℕ → Local
local_of t xs bs = record { tape = t; values = xs; adjoints = bs }

-- what is known of a body
abbrev pub KeptBody : World → Use → Statements → Type 0
KeptBody w u tree = (s s2 : Cells) → Fit w u s → (run_all tree w.site s).out ≡ Ok s2 → Keeps w u (λ y. writes_in y tree) s s2

abbrev pub UndoneBody : World → Use → Statements → Cells → Type 0
UndoneBody w u tree s = (ts : Log) (s2 : Cells) (t : Tape) → Fit w u s → Within w.active (run_all tree w.site s).log ts → (run_all tree w.site s).out ≡ Ok s2 → Undoes w u ts (back_all tree w) t (tape_after (run_all tree w.site s).log t) s s2

-- the reverse of an iteration, from its tape
pub iteration_step : (w : World) (u inner : Use) (number : ℕ) (directive : Directive) (var : List ℕ) (tree : Statements) → RoundFacts w u inner number directive var tree → (heads : Heads) (tapes : Tapes) (m : Local) (k : ℕ) (s s2 : Cells) → Varies (settings heads k) directive var tree → AllIndex (settings heads k)
    → KeptBody (in_iteration w number directive var tree) inner (iteration_body directive tree) → UndoneBody (in_iteration w number directive var tree) inner (iteration_body directive tree) (begun w directive var tree (settings heads k) s) → Fit w u s
    → (iteration_run w directive var tree heads k s).out ≡ Ok s2 → tape_at tapes k ≡ tape_after (inner_of (iteration_run w directive var tree heads k s).log) empty
    → Step (in_iteration w number directive var tree) u (inner_of (iteration_run w directive var tree heads k s).log) (iteration_tree w number directive var tree heads tapes (back_all (iteration_body directive tree)) m k) m.values m.adjoints s s2
iteration_step w u inner number directive var tree sound heads tapes m k s s2 varies ix keeping undoing fit h tape vs bs like wide long own mine small =
    (round, col.cover)
  where
    n : ℕ
    n = w.shared

    v : World
    v = in_iteration w number directive var tree

    names : List (List ℕ)
    names = privates_of w directive var tree

    vars : List (List ℕ)
    vars = loop_variables directive var tree

    body : Statements
    body = iteration_body directive tree

    xs : Settings
    xs = settings heads k

    l : Log
    l = inner_of (iteration_run w directive var tree heads k s).log

    s1 : Cells
    s1 = begun w directive var tree xs s

    run : IterRun w directive var tree heads k s s2
    run = iter_run w directive var tree heads k s s2 h

    body-log : Log
    body-log = (run_all body v.site s1).log

    fit1 : Fit v inner s1
    fit1 = begun_fit w u inner number directive var tree sound xs varies ix s fit

    kept : Keeps v inner (λ y. writes_in y body) s1 s2
    kept = keeping s1 s2 fit1 run.body

    undo : Undoes v inner l (back_all body v) empty (tape_after body-log empty) s1 s2
    undo = undoing l s2 empty fit1 run.within run.body

    tape-is : tape_at tapes k ≡ tape_after (private_words w.site tree names s2) (tape_after body-log empty)
    tape-is = tape ∙ run.tape empty

    room : n ≤ length vs
    room = let a = fit.room in omega arith

    -- the variables set
    end-tape : Tape
    end-tape = tape_after (private_words w.site tree names s2) (tape_after body-log empty)

    va : VariablesSet w xs (with_all_unset w.site names s) end-tape vs bs
    va = variables_set w xs (with_all_unset w.site names s) end-tape vs bs (own_variables w u inner number directive var tree sound xs varies)

    vs1 : List ℕ
    vs1 = va.vs1

    entry : record { tape = tape_at tapes k; values = m.values; adjoints = m.adjoints } ≡ local n end-tape vs bs
    entry =
        ap (λ (x : Tape). local_of x m.values m.adjoints) tape-is
        ∙ (ap (λ (x : List ℕ). local_of end-tape x m.adjoints) (sym own) ∙ ap (λ (x : List ℕ). local_of end-tape (drop n vs) x) (sym mine))

    set-is : with_variable_words w heads k (record m { tape = tape_at tapes k }) ≡ local n end-tape vs1 bs
    set-is = words_set w heads k (record m { tape = tape_at tapes k }) ∙ (ap (set_words w xs) entry ∙ va.out)

    re : Refilled w tree names s2 (tape_after body-log empty) vs1 bs
    re = refilled w tree names s2 (tape_after body-log empty) vs1 bs sound.privates

    cl : Cleared w names (tape_after body-log empty) re.vs1 bs
    cl = cleared w names (tape_after body-log empty) re.vs1 bs sound.privates

    local-is : iteration_local w directive var tree heads tapes m k ≡ local n (tape_after body-log empty) re.vs1 cl.bs1
    local-is = ap (λ (x : Local). with_clear_privates w names (after_private_pops w tree names x)) set-is ∙ (ap (with_clear_privates w names) re.out ∙ cl.out)

    wide2 : length re.vs1 ≡ length w.site.keys
    wide2 = re.long ∙ (va.long ∙ wide)

    long2 : length cl.bs1 ≡ length w.site.keys
    long2 = cl.long ∙ long

    flat-is : flat n vs bs ≡ flat n re.vs1 cl.bs1
    flat-is = rw (re.cells, cl.cells) (ap (λ (x : List ℕ). x ++ take n bs) (sym va.cells))

    read2 : (p : ℕ) (y : Value) → content s2 p ≡ Some y → inner.needed (name_at w.site.keys p) ≡ true → slice_index re.vs1 p ≡ word_of (Some y)
    read2 p y e i = by_private (has_name (name_at w.site.keys p) names) refl (nat_lt p (length vs1)) refl
      where
        by_assigned : (b : Bool) → writes_in (name_at w.site.keys p) body ≡ b → has_name (name_at w.site.keys p) names ≡ true → p < length vs1 → slice_index re.vs1 p ≡ word_of (Some y)
        by_assigned true f g j = re.here p j g (sound.assigned (name_at w.site.keys p) g ∙ f) (sound.pushed (name_at w.site.keys p) g i f) ∙ ap word_of e
        by_assigned false f g j =
            let none : None ≡ Some y = sym (kept.same p f ∙ begun_private w u inner number directive var tree sound xs varies s p fit.long (let a = va.long in omega arith) g) ∙ e in cc

        by_place : has_name (name_at w.site.keys p) vars ≡ true → has_name (name_at w.site.keys p) names ≡ false → (b : Bool) → nat_lt p (length vs) ≡ b → slice_index re.vs1 p ≡ word_of (Some y)
        by_place f g true j =
            let at : IsSet (content s1 p) (slice_index vs1 p) = va.here p (less p (length vs) j) (let a = unset_long w names s sound.privates in let b = fit.long in let c = less p (length vs) j in omega arith) (ap (has_name (name_at w.site.keys p)) varies ∙ f) in
            let same : Some (Index at.z) ≡ Some y = sym at.content ∙ (sym (kept.same p (sound.unvaried (name_at w.site.keys p) f)) ∙ e) in
            re.other p g ∙ (at.word ∙ ap word_of same)
        by_place f g false j = let none : None ≡ Some y = sym (content_past s2 p (let a = kept.fit.long in let b = not_less p (length vs) j in omega arith)) ∙ e in cc

        by_variable : (b : Bool) → has_name (name_at w.site.keys p) vars ≡ b → has_name (name_at w.site.keys p) names ≡ false → slice_index re.vs1 p ≡ word_of (Some y)
        by_variable true f g = by_place f g (nat_lt p (length vs)) refl
        by_variable false f g = re.other p g ∙ (va.other p (ap (has_name (name_at w.site.keys p)) varies ∙ f) ∙ like.read p y e (sound.needed (name_at w.site.keys p) i g f))

        by_private : (b : Bool) → has_name (name_at w.site.keys p) names ≡ b → (c : Bool) → nat_lt p (length vs1) ≡ c → slice_index re.vs1 p ≡ word_of (Some y)
        by_private true f true g = by_assigned (writes_in (name_at w.site.keys p) body) refl f (less p (length vs1) g)
        by_private true f false g = let none : None ≡ Some y = sym (content_past s2 p (let a = kept.fit.long in let b = not_less p (length vs1) g in let d = va.long in omega arith)) ∙ e in cc
        by_private false f c g = by_variable (has_name (name_at w.site.keys p) vars) refl f

    like2 : Like inner w.site.keys re.vs1 s2
    like2 = record { read = read2; held = λ p m g. (let k : None ≡ Some m = sym (sound.fresh (name_at w.site.keys p)) ∙ g in cc) }

    small2 : AreWords cl.bs1
    small2 p = by_private (has_name (name_at w.site.keys p) names) refl
      where
        by_private : (b : Bool) → has_name (name_at w.site.keys p) names ≡ b → slice_index cl.bs1 p < 2 ^ 64
        by_private true f = subst (λ (x : ℕ). x < 2 ^ 64) (sym (cl.here p f)) zero_word
        by_private false f = subst (λ (x : ℕ). x < 2 ^ 64) (sym (cl.other p f)) (small p)

    ends : Ends v inner l (play (back_all body v (local n (tape_after body-log empty) re.vs1 cl.bs1)) (flat n re.vs1 cl.bs1)) empty s1 s2 cl.bs1
    ends = undo re.vs1 cl.bs1 like2 wide2 long2 small2

    room3 : n ≤ length ends.vs2
    room3 = let a = ends.wide in let b = fit.room in omega arith

    r0 : Played Local
    r0 = play (back_all body v (local n (tape_after body-log empty) re.vs1 cl.bs1)) (flat n re.vs1 cl.bs1)

    same-tree : play (back_all body v (iteration_local w directive var tree heads tapes m k)) (flat n vs bs) ≡ r0
    same-tree = ap (λ (x : Local). play (back_all body v x) (flat n vs bs)) local-is ∙ ap (λ (c : List ℕ). play (back_all body v (local n (tape_after body-log empty) re.vs1 cl.bs1)) c) flat-is

    small3 : (p : ℕ) → p < n → slice_index r0.cells (n + p) < 2 ^ 64
    small3 p i = subst (λ (c : List ℕ). slice_index c (n + p) < 2 ^ 64) (sym ends.cells) (subst (λ (x : ℕ). x < 2 ^ 64) (sym (adjoint_cell n p ends.vs2 ends.bs2 room3 i)) (ends.words p))

    col : Collected v l (play (iteration_tree w number directive var tree heads tapes (back_all body) m k) (flat n vs bs)) r0
    col = subst (λ (x : Played Local). Collected v l (play (iteration_tree w number directive var tree heads tapes (back_all body) m k) (flat n vs bs)) x) same-tree
        (collections_played v l w.site.declared (back_all body v (iteration_local w directive var tree heads tapes m k)) (flat n vs bs) sound.inside sound.summed
        (subst (λ (x : Played Local). CoverAll v l x.ops) (sym same-tree) ends.cover) (subst (λ (x : Played Local). (p : ℕ) → p < n → slice_index x.cells (n + p) < 2 ^ 64) (sym same-tree) small3))

    room4 : n ≤ length ends.bs2
    room4 = let a = ends.long in let b = fit.room in omega arith

    room5 : n ≤ length bs
    room5 = let a = fit.room in omega arith

    -- what isn't the variable or private is as before
    same_before : (p : ℕ) → has_name (name_at w.site.keys p) names ≡ false → has_name (name_at w.site.keys p) vars ≡ false → content s1 p ≡ content s p
    same_before p e d = begun_other w u inner number directive var tree sound xs varies s p e d

    held3 : (p m : ℕ) → u.held (name_at w.site.keys p) ≡ Some m → (b : Bool) → nat_lt p n ≡ b → slice_index (mixed n ends.vs2 vs) p ≡ m
    held3 p m g true f = let k : None ≡ Some m = sym (sound.low p (less p n f)) ∙ g in cc
    held3 p m g false f = mixed_above n p ends.vs2 vs room3 (not_less p n f) ∙ like.held p m g

    read3 : (p : ℕ) (y : Value) → content s p ≡ Some y → u.needed (name_at w.site.keys p) ≡ true → slice_index (mixed n ends.vs2 vs) p ≡ word_of (Some y)
    read3 p y e i = by_side (nat_lt p n) refl
      where
        -- a variable of a loop around has its word, whether the iteration unset it or not
        by_place : n ≤ p → (b : Bool) → nat_lt p (length w.site.keys) ≡ b → slice_index (mixed n ends.vs2 vs) p ≡ word_of (Some y)
        by_place f true j =
            let h = sound.stays p f (less p (length w.site.keys) j) i in
            mixed_above n p ends.vs2 vs room3 f ∙ (like.held p h.0 h.1 ∙ sym (fit.held p h.0 y e h.1))
        by_place f false j = let none : None ≡ Some y = sym (content_past s p (let a = fit.long in let b = not_less p (length w.site.keys) j in omega arith)) ∙ e in cc

        by_side : (b : Bool) → nat_lt p n ≡ b → slice_index (mixed n ends.vs2 vs) p ≡ word_of (Some y)
        by_side true f =
            let same = same_before p (not_private w names p sound.privates (less p n f)) (not_private w vars p sound.variables (less p n f)) in
            mixed_below n p ends.vs2 vs room3 (less p n f) ∙ ends.like.read p y (same ∙ e) (sound.outside (name_at w.site.keys p) i)
        by_side false f = by_place (not_less p n f) (nat_lt p (length w.site.keys)) refl

    like3 : Like u w.site.keys (mixed n ends.vs2 vs) s
    like3 = record { read = read3; held = λ p m g. held3 p m g (nat_lt p n) refl }

    zero_times : (a x : ℕ) → x ≡ 0 → a * x ≡ 0
    zero_times a x e = rw e (omega arith)

    times_zero : (a x : ℕ) → a ≡ 0 → a * x ≡ 0
    times_zero a x e = rw e (omega arith)

    cond_zero : (b : Bool) (x : ℕ) → x ≡ 0 → cond b x 0 ≡ 0
    cond_zero true x e = e
    cond_zero false x e = refl

    cond_off : (b : Bool) (x : ℕ) → b ≡ false → cond b x 0 ≡ 0
    cond_off b x e = rw e refl

    begin-pairs : pair (mixed n ends.bs2 bs) (tangents u w.site.keys s) ≡ pair ends.bs2 (tangents inner w.site.keys s1)
    begin-pairs = pair_by (mixed n ends.bs2 bs) ends.bs2 (tangents u w.site.keys s) (tangents inner w.site.keys s1) (mixed_long n ends.bs2 bs room4 room5 ∙ (long ∙ sym (tangents_long w u s fit))) (ends.long ∙ sym (tangents_long v inner s1 fit1)) (mixed_long n ends.bs2 bs room4 room5 ∙ (long ∙ sym ends.long)) (λ p. by_side p (nat_lt p n) refl)
      where
        by_side : (p : ℕ) (b : Bool) → nat_lt p n ≡ b → slice_index (mixed n ends.bs2 bs) p * slice_index (tangents u w.site.keys s) p ≡ slice_index ends.bs2 p * slice_index (tangents inner w.site.keys s1) p
        by_side p true f =
            let i = less p n f in
            let np = not_private w names p sound.privates i in
            let nv = not_private w vars p sound.variables i in
            rw (mixed_below n p ends.bs2 bs room4 i, counts u w.site.keys s p, counts inner w.site.keys s1 p, sound.live (name_at w.site.keys p) np, same_before p np nv) refl
        by_side p false f =
            let i = not_less p n f in
            zero_times _ _ (counts u w.site.keys s p ∙ cond_off (u.live (name_at w.site.keys p)) _ (sound.dead p i)) ∙ sym (zero_times _ _ (counts inner w.site.keys s1 p ∙ off (has_name (name_at w.site.keys p) names) refl (nat_lt p (length w.site.keys)) refl))
          where
            off : (b : Bool) → has_name (name_at w.site.keys p) names ≡ b → (c : Bool) → nat_lt p (length w.site.keys) ≡ c → cond (inner.live (name_at w.site.keys p)) (tangent_of (content s1 p)) 0 ≡ 0
            off true g true j = rw (begun_private w u inner number directive var tree sound xs varies s p fit.long (less p (length w.site.keys) j) g) (cond_zero (inner.live (name_at w.site.keys p)) 0 refl)
            off true g false j = rw (content_past s1 p (let a = fit1.long in let b = not_less p (length w.site.keys) j in omega arith)) (cond_zero (inner.live (name_at w.site.keys p)) 0 refl)
            off false g c j = cond_off (inner.live (name_at w.site.keys p)) _ (sound.live (name_at w.site.keys p) g ∙ sound.dead p (not_less p n f))

    end-pairs : pair cl.bs1 (tangents inner w.site.keys s2) ≡ pair bs (tangents u w.site.keys s2)
    end-pairs = pair_by cl.bs1 bs (tangents inner w.site.keys s2) (tangents u w.site.keys s2) (long2 ∙ sym (tangents_long v inner s2 kept.fit)) (long ∙ sym tangents-2) (cl.long) (λ p. by_private p (has_name (name_at w.site.keys p) names) refl)
      where
        tangents-2 : length (tangents u w.site.keys s2) ≡ length w.site.keys
        tangents-2 = length-live-map u s2 ∙ kept.fit.long
          where
            length-live-map : (u : Use) (x : Cells) → length (tangents u w.site.keys x) ≡ length x
            length-live-map u x = length_live (λ p. u.live (name_at w.site.keys p)) 0 (map tangent_of x) ∙ length-map x tangent_of

        by_private : (p : ℕ) (b : Bool) → has_name (name_at w.site.keys p) names ≡ b → slice_index cl.bs1 p * slice_index (tangents inner w.site.keys s2) p ≡ slice_index bs p * slice_index (tangents u w.site.keys s2) p
        by_private p true f = times_zero _ _ (cl.here p f) ∙ sym (zero_times _ _ (counts u w.site.keys s2 p ∙ cond_off (u.live (name_at w.site.keys p)) _ (sound.dead p (own_above w names p sound.privates f))))
        by_private p false f = rw (cl.other p f, counts inner w.site.keys s2 p, counts u w.site.keys s2 p, sound.live (name_at w.site.keys p) f) refl

    small4 : AreWords (mixed n ends.bs2 bs)
    small4 p = by_side (nat_lt p n) refl
      where
        by_side : (b : Bool) → nat_lt p n ≡ b → slice_index (mixed n ends.bs2 bs) p < 2 ^ 64
        by_side true f = subst (λ (x : ℕ). x < 2 ^ 64) (sym (mixed_below n p ends.bs2 bs room4 (less p n f))) (ends.words p)
        by_side false f = subst (λ (x : ℕ). x < 2 ^ 64) (sym (mixed_above n p ends.bs2 bs room4 (not_less p n f))) (small p)

    round : Round v u (play (iteration_tree w number directive var tree heads tapes (back_all body) m k) (flat n vs bs)) s s2 vs bs
    round = record {
      vs2 = mixed n ends.vs2 vs;
      bs2 = mixed n ends.bs2 bs;
      cells = col.cells ∙ ends.cells ∙ (rw (mixed_cells n ends.vs2 vs room3, mixed_cells n ends.bs2 bs room4) refl);
      like = like3;
      wide = mixed_long n ends.vs2 vs room3 room ∙ wide;
      long = mixed_long n ends.bs2 bs room4 room5 ∙ long;
      words = small4;
      own = mixed_own n ends.vs2 vs room3;
      mine = mixed_own n ends.bs2 bs room4;
      pairs = of_equal _ _ begin-pairs ∙ (ends.pairs ∙ of_equal _ _ end-pairs);
    }
