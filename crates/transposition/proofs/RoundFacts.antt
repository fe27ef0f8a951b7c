-- What a parallel loop's names meet, by its premises and by the classes of names.
use Rattle.std.proofs.Common.{◌≡◌, ℕ, ◌<◌, ◌≤◌, List, [], ◌∷◌, length, refl, ap, sym, ◌∙◌, Bool, true, false, ◌||◌, Some, None}
use Rattle.std.specs.Prelude.{bytes_eq, filter, if◌then◌else◌, nat_eq}
use Rattle.std.proofs.lemmas.Bool.{and_parts}
use Rattle.std.proofs.lemmas.Slice.Eq.{bytes_eq-Decides}
use Rattle.fl_ast.specs.declared.directive.Directive.{Directive}
use Rattle.fl_ast.specs.Tree.{Statement, assignment, branch, loop, Statements, no_statements, statement, Arms, no_arms, arm}
use Rattle.fl_types.specs.declared.sharing.Sharing.TheVariants.{Shared, Private, First, Plus, LoopVar}
use Rattle.fl_types.specs.Nests.{is_empty, is_one_loop, is_nest, inner_head, inner_body, iteration_body}
use Rattle.fl_types.specs.Sharing.{has_name, varies, varies_in, varies_in_arms, assigns, assigns_in, assigns_in_arms, sharing_in, is_private}
use Rattle.transposition.specs.Worlds.{World, name_at, in_iteration}
use Rattle.transposition.specs.Back.{loop_variables, variables_of}
use Rattle.transposition.specs.Law.{Use}
use Rattle.transposition.specs.Calms.{IsFlat, AreFlat, AreFlatArms}
use Rattle.transposition.specs.Sound.{IsHeld, AllOwn, AllSummed, privates_of, writes, writes_in, writes_in_arms, SoundRounds}

-- what a parallel loop's names must meet; u inside is `inner`
pub record RoundFacts (w : World) (u inner : Use) (number : ℕ) (directive : Directive) (var : List ℕ) (tree : Statements) : Type 0 where
  -- the loops' variables, of the index kind, which the iterations don't set
  pub variables : AllOwn w (loop_variables directive var tree)
  pub whole : (x : List ℕ) → has_name x (loop_variables directive var tree) ≡ true → w.site.ring x ≡ false
  pub apart : (x : List ℕ) → has_name x (loop_variables directive var tree) ≡ true → has_name x (privates_of w directive var tree) ≡ false
  pub unvaried : (x : List ℕ) → has_name x (loop_variables directive var tree) ≡ true → writes_in x (iteration_body directive tree) ≡ false
  pub unheld : (x : List ℕ) → has_name x (loop_variables directive var tree) ≡ true → u.held x ≡ None
  pub privates : AllOwn w (privates_of w directive var tree)
  -- what a private scalar's word is good for: set in an iteration, and pushed
  pub assigned : (x : List ℕ) → has_name x (privates_of w directive var tree) ≡ true → assigns_in x tree ≡ writes_in x (iteration_body directive tree)
  pub pushed : (x : List ℕ) → has_name x (privates_of w directive var tree) ≡ true → inner.needed x ≡ true
      → writes_in x (iteration_body directive tree) ≡ true → w.site.pushed x ≡ true
  -- names in scope inside and outside
  pub needed : (x : List ℕ) → inner.needed x ≡ true → has_name x (privates_of w directive var tree) ≡ false → has_name x (loop_variables directive var tree) ≡ false → u.needed x ≡ true
  pub outside : (x : List ℕ) → u.needed x ≡ true → inner.needed x ≡ true
  pub live : (x : List ℕ) → has_name x (privates_of w directive var tree) ≡ false → inner.live x ≡ u.live x
  pub moved : (x : List ℕ) → inner.moved x ≡ u.moved x
  -- what an iteration has of its own doesn't count outside, and of its names the outer loops' variables alone are needed there
  pub dead : (p : ℕ) → w.shared ≤ p → u.live (name_at w.site.keys p) ≡ false
  pub stays : (p : ℕ) → w.shared ≤ p → p < length w.site.keys → u.needed (name_at w.site.keys p) ≡ true → IsHeld u (name_at w.site.keys p)
  -- these may be private in the loop, and unset by its iterations; set they aren't
  pub unset : (x : List ℕ) → IsHeld u x → writes_in x (iteration_body directive tree) ≡ false
  pub low : (p : ℕ) → p < w.shared → u.held (name_at w.site.keys p) ≡ None
  pub fresh : (x : List ℕ) → inner.held x ≡ None
  pub listed : (x : List ℕ) → has_name x (privates_of w directive var tree) ≡ true → has_name x directive.privates ≡ true
  -- in the loop each place's name makes touches, and outside none does
  pub inside : (p : ℕ) → p < w.shared → (in_iteration w number directive var tree).site.accessed (name_at w.site.keys p) ≡ true
  pub silent : (x : List ℕ) → w.site.accessed x ≡ false
  pub summed : AllSummed (in_iteration w number directive var tree) w.site.declared

-- ---- private names

or_left : (a b : Bool) → (a || b) ≡ false → a ≡ false
or_left true b h = cc
or_left false b h = refl

or_right : (a b : Bool) → (a || b) ≡ false → b ≡ false
or_right true b h = cc
or_right false b h = h

or_none : (a : Bool) → (a || false) ≡ a
or_none true = refl
or_none false = refl

-- a name of a filtered list meets the test
kept_name : (test : List ℕ → Bool) (x : List ℕ) (names : List (List ℕ)) → has_name x (filter test names) ≡ true → test x ≡ true
kept_name test x [] h = cc
kept_name test x (y ∷ ys) h = by_test (test y) refl h (λ g. kept_name test x ys g)
  where
    by_name : (b : Bool) → bytes_eq x y ≡ b → test y ≡ true → (b || has_name x (filter test ys)) ≡ true → (has_name x (filter test ys) ≡ true → test x ≡ true) → test x ≡ true
    by_name true e t g k = ap test ((bytes_eq-Decides x y).0 e) ∙ t
    by_name false e t g k = k g

    by_test : (b : Bool) → test y ≡ b → has_name x (if b then y ∷ filter test ys else filter test ys) ≡ true → (has_name x (filter test ys) ≡ true → test x ≡ true) → test x ≡ true
    by_test true e g k = by_name (bytes_eq x y) refl e g k
    by_test false e g k = k g

record IsPrivate (directive : Directive) (var : List ℕ) (tree : Statements) (x : List ℕ) : Type 0 where
  pub other : bytes_eq x var ≡ false
  pub fixed : varies_in x tree ≡ false
  pub listed : has_name x directive.privates ≡ true

last_class : (b c : Bool) → is_private (if b then First else (if c then Plus else Shared)) ≡ false
last_class true c = refl
last_class false true = refl
last_class false false = refl

private_by : (v p f q : Bool) → is_private (if v then LoopVar else (if p then Private else (if f then First else (if q then Plus else Shared)))) ≡ true → (v ≡ false) × (p ≡ true)
private_by true p f q h = cc
private_by false true f q h = (refl, refl)
private_by false false f q h = let e : true ≡ false = sym h ∙ last_class f q in cc

is_private_name : (w : World) (directive : Directive) (var : List ℕ) (tree : Statements) (x : List ℕ) → has_name x (privates_of w directive var tree) ≡ true → IsPrivate directive var tree x
is_private_name w directive var tree x h =
    let r = private_by (bytes_eq x var || varies_in x tree) (has_name x directive.privates) (has_name x directive.firsts) (has_name x directive.pluses) (kept_name (λ y. is_private (sharing_in var directive tree y)) x w.site.declared h) in
    record { other = or_left (bytes_eq x var) (varies_in x tree) r.0; fixed = or_right (bytes_eq x var) (varies_in x tree) r.0; listed = r.1 }

-- ---- loops' variables

inner_variable : (x : List ℕ) (tree : Statements) → varies_in x tree ≡ false → has_name x (variables_of (inner_head tree)) ≡ false
inner_variable x no_statements h = refl
inner_variable x (statement (assignment line atomic p e) ss) h = refl
inner_variable x (statement (branch line arms other) ss) h = refl
inner_variable x (statement (loop line number directive var first last step body) ss) h = or_none (bytes_eq x var) ∙ or_left (bytes_eq x var) (varies_in x body) (or_left (bytes_eq x var || varies_in x body) (varies_in x ss) h)

further_variable : (b : Bool) (x : List ℕ) (tree : Statements) → varies_in x tree ≡ false → has_name x (variables_of (if b then inner_head tree else None)) ≡ false
further_variable true x tree h = inner_variable x tree h
further_variable false x tree h = refl

not_variable : (w : World) (directive : Directive) (var : List ℕ) (tree : Statements) (x : List ℕ) → has_name x (privates_of w directive var tree) ≡ true → has_name x (loop_variables directive var tree) ≡ false
not_variable w directive var tree x h =
    let k = is_private_name w directive var tree x h in
    rw (k.other) (further_variable (is_nest directive tree) x tree k.fixed)

no_private : (w : World) (directive : Directive) (var : List ℕ) (tree : Statements) (x : List ℕ) → has_name x (loop_variables directive var tree) ≡ true → (b : Bool) → has_name x (privates_of w directive var tree) ≡ b → b ≡ false
no_private w directive var tree x h true e = let k : true ≡ false = sym h ∙ not_variable w directive var tree x e in cc
no_private w directive var tree x h false e = refl

-- ---- what is set is what is assigned, but for the variables of loops

mutual
  set_one : (x : List ℕ) (s : Statement) → IsFlat s → varies x s ≡ false → writes x s ≡ assigns x s
  set_one x (assignment line atomic p e) f h = refl
  set_one x (branch line arms other) f h =
      ap (λ (b : Bool). b || writes_in x other) (set_arms x arms f.0 (or_left (varies_in_arms x arms) (varies_in x other) h)) ∙ ap (λ (b : Bool). assigns_in_arms x arms || b) (set_all x other f.1 (or_right (varies_in_arms x arms) (varies_in x other) h))
  set_one x (loop line number None var first last step body) f h =
      ap (λ (b : Bool). b || writes_in x body) (or_left (bytes_eq x var) (varies_in x body) h) ∙ set_all x body f (or_right (bytes_eq x var) (varies_in x body) h)
  set_one x (loop line number (Some directive) var first last step body) f h = absurd f

  set_all : (x : List ℕ) (ss : Statements) → AreFlat ss → varies_in x ss ≡ false → writes_in x ss ≡ assigns_in x ss
  set_all x no_statements f h = refl
  set_all x (statement s ss) f h = ap (λ (b : Bool). b || writes_in x ss) (set_one x s f.0 (or_left (varies x s) (varies_in x ss) h)) ∙ ap (λ (b : Bool). assigns x s || b) (set_all x ss f.1 (or_right (varies x s) (varies_in x ss) h))

  set_arms : (x : List ℕ) (arms : Arms) → AreFlatArms arms → varies_in_arms x arms ≡ false → writes_in_arms x arms ≡ assigns_in_arms x arms
  set_arms x no_arms f h = refl
  set_arms x (arm test body arms) f h =
      ap (λ (b : Bool). b || writes_in_arms x arms) (set_all x body f.0 (or_left (varies_in x body) (varies_in_arms x arms) h)) ∙ ap (λ (b : Bool). assigns_in x body || b) (set_arms x arms f.1 (or_right (varies_in x body) (varies_in_arms x arms) h))

none_assigned : (x : List ℕ) (ss : Statements) → is_empty ss ≡ true → assigns_in x ss ≡ false
none_assigned x no_statements h = refl
none_assigned x (statement s ss) h = cc

set_inner : (x : List ℕ) (tree : Statements) → is_one_loop tree ≡ true → AreFlat tree → varies_in x tree ≡ false → assigns_in x tree ≡ writes_in x (inner_body tree)
set_inner x no_statements o f h = cc
set_inner x (statement (assignment line atomic p e) ss) o f h = cc
set_inner x (statement (branch line arms other) ss) o f h = cc
set_inner x (statement (loop line number None var first last step body) ss) o f h =
    ap (λ (b : Bool). assigns_in x body || b) (none_assigned x ss o)
    ∙ (or_none (assigns_in x body) ∙ sym (set_all x body f.0 (or_right (bytes_eq x var) (varies_in x body) (or_left (bytes_eq x var || varies_in x body) (varies_in x ss) h))))
set_inner x (statement (loop line number (Some directive) var first last step body) ss) o f h = absurd f.0

set_body : (b : Bool) (x : List ℕ) (tree : Statements) → (b ≡ true → is_one_loop tree ≡ true) → AreFlat tree → varies_in x tree ≡ false → assigns_in x tree ≡ writes_in x (if b then inner_body tree else tree)
set_body true x tree o f h = set_inner x tree (o refl) f h
set_body false x tree o f h = sym (set_all x tree f h)

-- ---- all

pub round_facts : (w : World) (u inner : Use) (number : ℕ) (directive : Directive) (var : List ℕ) (tree : Statements) → AreFlat tree → SoundRounds w u inner number directive var tree → RoundFacts w u inner number directive var tree
round_facts w u inner number directive var tree flat h = record {
  variables = h.variables;
  whole = h.whole;
  apart = λ x e. no_private w directive var tree x e (has_name x (privates_of w directive var tree)) refl;
  unvaried = h.unvaried;
  unheld = h.unheld;
  privates = h.privates;
  assigned = λ x e. set_body (is_nest directive tree) x tree (λ n. (and_parts (nat_eq directive.collapse 2) (is_one_loop tree) n).1) flat (is_private_name w directive var tree x e).fixed;
  pushed = h.pushed;
  needed = h.needed;
  outside = h.outside;
  live = h.live;
  moved = h.moved;
  dead = h.dead;
  stays = h.stays;
  unset = h.unset;
  low = h.low;
  fresh = h.fresh;
  listed = λ x e. (is_private_name w directive var tree x e).listed;
  inside = h.inside;
  silent = h.silent;
  summed = h.summed;
}
