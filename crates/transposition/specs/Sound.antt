-- What the sets of names must meet, statement by statement.
use Rattle.std.specs.Prelude.{◌≡◌, ℕ, suc, ◌<◌, ◌≤◌, ◌^◌, ◌||◌, ◌&&◌, Bool, true, false, cond, bytes_eq, List, [], ◌∷◌, length, Option, Some, None}
use Rattle.fl_ast.specs.declared.kind.Kind.TheVariants as kind
use Rattle.fl_ast.specs.Tree.{Expression, literal, get, minus, binary, power, call, Expressions, no_expressions, expression, Designator, Statement, assignment, branch, loop, Statements, no_statements, statement, Arms, no_arms, arm}
use Rattle.fl_ast.specs.Occurs.{occurs_in_any}
use Rattle.fl_types.specs.Increment.{Signed, are_free_of, increment_terms}
use Rattle.fl_types.specs.Nests.{Head, is_nest, further_head, iteration_body}
use Rattle.fl_types.specs.Sharing.{has_name}
use Rattle.meaning.specs.Sites.{place_of}
use Rattle.meaning.specs.Statements.{private_names}
use Rattle.fl_ast.specs.declared.directive.Directive.{Directive}
use Rattle.transposition.specs.Back.{loop_variables, rest_occurrences}
use Rattle.transposition.specs.Worlds.{World, is_reduction, name_at, in_turn, in_iteration}
use Rattle.transposition.specs.Spread.{occurrences}
use Rattle.transposition.specs.Law.{Use}
use Rattle.transposition.specs.Calms.{AreFlat}
use Rattle.transposition.specs.Needs.{Needs, NeedsAll, NeedsEach, Quiet, Kinded}

abbrev pub NeedsTerms : Use → List Signed → Type 0
NeedsTerms u [] = Unit {0}
NeedsTerms u (r ∷ rs) = Needs u r.1 × NeedsTerms u rs

abbrev pub QuietTerms : (List ℕ → Bool) → Use → List Signed → Type 0
QuietTerms on u [] = Unit {0}
QuietTerms on u (r ∷ rs) = Quiet on u r.1 × QuietTerms on u rs

abbrev pub KindedTerms : (List ℕ → Bool) → List Signed → Type 0
KindedTerms ring [] = Unit {0}
KindedTerms ring (r ∷ rs) = Kinded ring r.1 × KindedTerms ring rs

-- an assignment's target
pub record SoundTarget (w : World) (u : Use) (p : Designator) : Type 0 where
  -- its subscripts are read where its adjoint is moved, and where its value is restored
  pub subscripts : w.active p.name ≡ true → NeedsAll u p.subscripts
  pub undone : w.site.pushed p.name ≡ true → NeedsAll u p.subscripts
  pub free : occurs_in_any p.name p.subscripts ≡ false
  -- it is no variable of a loop around
  pub unheld : u.held p.name ≡ None
  pub pushed : u.needed p.name ≡ true → w.site.pushed p.name ≡ true
  pub live : u.live p.name ≡ w.active p.name
  pub ring : w.active p.name ≡ true → w.site.ring p.name ≡ true
  -- additions to a Reduction's adjoint are collected, so nothing else may be made of it
  pub summed : w.active p.name ≡ true → is_reduction (w.choice p.name) ≡ false

pub record SoundPlain (w : World) (u : Use) (p : Designator) (e : Expression) : Type 0 where
  pub target : SoundTarget w u p
  pub amounts : w.active p.name ≡ true → NeedsEach u (occurrences w.active e false [])
  pub quiet : w.active p.name ≡ true → Quiet w.active u e
  pub kinds : w.active p.name ≡ true → Kinded w.site.ring e

pub record SoundIncrement (w : World) (u : Use) (p : Designator) (rs : List Signed) : Type 0 where
  pub target : SoundTarget w u p
  pub amounts : w.active p.name ≡ true → NeedsEach u (rest_occurrences w.active rs)
  pub quiet : w.active p.name ≡ true → QuietTerms w.active u rs
  pub kinds : w.active p.name ≡ true → KindedTerms w.site.ring rs
  pub terms : w.site.pushed p.name ≡ true → NeedsTerms u rs
  pub apart : are_free_of p.name rs ≡ true
  pub whole : w.site.ring p.name ≡ true

abbrev mutual
  -- numbers of the ring kind are words
  pub Literals : Expression → Type 0
  Literals (literal n kind.Ring) = n < 2 ^ 64
  Literals (literal n kind.Index) = Unit {0}
  Literals (get x s) = LiteralsAll s
  Literals (minus a) = Literals a
  Literals (binary o a b) = Literals a × Literals b
  Literals (power a n) = Literals a
  Literals (call f s) = LiteralsAll s

  pub LiteralsAll : Expressions → Type 0
  LiteralsAll no_expressions = Unit {0}
  LiteralsAll (expression a s) = Literals a × LiteralsAll s

abbrev mutual
  -- of the index kind
  pub Whole : (List ℕ → Bool) → Expression → Type 0
  Whole ring (literal n kind.Ring) = ⊥
  Whole ring (literal n kind.Index) = Unit {0}
  Whole ring (get x s) = ring x ≡ false
  Whole ring (minus a) = Whole ring a
  Whole ring (binary o a b) = Whole ring a × Whole ring b
  Whole ring (power a n) = Whole ring a
  Whole ring (call f s) = WholeAll ring s

  pub WholeAll : (List ℕ → Bool) → Expressions → Type 0
  WholeAll ring no_expressions = Unit {0}
  WholeAll ring (expression a s) = Whole ring a × WholeAll ring s

abbrev pub OptionLiterals : Option Expression → Type 0
OptionLiterals None = Unit {0}
OptionLiterals (Some e) = Literals e

abbrev pub OptionWhole : (List ℕ → Bool) → Option Expression → Type 0
OptionWhole ring None = Unit {0}
OptionWhole ring (Some e) = Whole ring e

-- no occurrence, subscripts aside, has a tangent
abbrev pub Unmoved : Use → Expression → Type 0
Unmoved u e = Quiet (λ x. false) u e

abbrev pub UnmovedTerms : Use → List Signed → Type 0
UnmovedTerms u rs = QuietTerms (λ x. false) u rs

-- what is stored is of the target's kind
pub record SoundStore (w : World) (u : Use) (p : Designator) (e : Expression) : Type 0 where
  pub literals : Literals e
  pub whole : w.site.ring p.name ≡ false → Whole w.site.ring e
  pub still : u.moved p.name ≡ false → Unmoved u e

-- a loop's variable is a scalar of the index kind with a place of the iteration's own, out of scope outside
pub record SoundVariable (w : World) (u : Use) (var : List ℕ) (first last : Expression) (step : Option Expression) : Type 0 where
  pub q : ℕ
  pub place : place_of w.site var [] ≡ Some q
  pub only : (p : ℕ) → name_at w.site.keys p ≡ var → p ≡ q
  pub own : w.shared ≤ q
  pub whole : w.site.ring var ≡ false
  pub unneeded : u.needed var ≡ false
  pub unheld : u.held var ≡ None
  pub dead : u.live var ≡ false
  pub literals : Literals first × Literals last × OptionLiterals step
  -- all three of the index kind, which typing gives
  pub wholes : Whole w.site.ring first × Whole w.site.ring last × OptionWhole w.site.ring step

-- in scope, with this word
abbrev pub scope_with : List ℕ → ℕ → Use → Use
scope_with var n u = record u { needed = λ x. u.needed x || bytes_eq x var; held = λ x. cond (bytes_eq x var) (Some n) (u.held x) }

abbrev pub IsHeld : Use → List ℕ → Type 0
IsHeld u x = (n : ℕ) × (u.held x ≡ Some n)

abbrev pub SoundAssigned : World → Use → Designator → Expression → Option (List Signed) → Type 0
SoundAssigned w u p e None = SoundPlain w u p e × SoundStore w u p e
SoundAssigned w u p e (Some rs) = SoundIncrement w u p rs × (u.moved p.name ≡ false → UnmovedTerms u rs)

-- the name may be set in the tree
abbrev mutual
  pub writes : List ℕ → Statement → Bool
  writes x (assignment line atomic p e) = bytes_eq x p.name
  writes x (branch line arms other) = writes_in_arms x arms || writes_in x other
  writes x (loop line number None var first last step body) = bytes_eq x var || writes_in x body
  writes x (loop line number (Some directive) var first last step body) = bytes_eq x var || (has_name x directive.privates || writes_in x body)

  pub writes_in : List ℕ → Statements → Bool
  writes_in x no_statements = false
  writes_in x (statement s ss) = writes x s || writes_in x ss

  pub writes_in_arms : List ℕ → Arms → Bool
  writes_in_arms x no_arms = false
  writes_in_arms x (arm test body arms) = writes_in x body || writes_in_arms x arms

-- a scalar with one place, of the iteration's own
pub record Own (w : World) (x : List ℕ) : Type 0 where
  pub q : ℕ
  pub place : place_of w.site x [] ≡ Some q
  pub only : (p : ℕ) → name_at w.site.keys p ≡ x → p ≡ q
  pub own : w.shared ≤ q

abbrev pub AllOwn : World → List (List ℕ) → Type 0
AllOwn w [] = Unit {0}
AllOwn w (x ∷ xs) = Own w x × AllOwn w xs

abbrev pub privates_of : World → Directive → List ℕ → Statements → List (List ℕ)
privates_of w directive var tree = private_names w.site directive var tree

-- a scalar with a place that all iterations share
pub record Common (w : World) (x : List ℕ) : Type 0 where
  pub q : ℕ
  pub place : place_of w.site x [] ≡ Some q
  pub shared : q < w.shared

-- the names with the choice Reduction are
abbrev pub AllSummed : World → List (List ℕ) → Type 0
AllSummed w [] = Unit {0}
AllSummed w (x ∷ xs) = ((w.active x && is_reduction (w.choice x)) ≡ true → Common w x) × AllSummed w xs

-- what a parallel loop's names must meet; u inside is `inner`
pub record SoundRounds (w : World) (u inner : Use) (number : ℕ) (directive : Directive) (var : List ℕ) (tree : Statements) : Type 0 where
  -- the loops' variables, of the index kind, which the iterations don't set
  pub variables : AllOwn w (loop_variables directive var tree)
  pub whole : (x : List ℕ) → has_name x (loop_variables directive var tree) ≡ true → w.site.ring x ≡ false
  pub unvaried : (x : List ℕ) → has_name x (loop_variables directive var tree) ≡ true → writes_in x (iteration_body directive tree) ≡ false
  pub unheld : (x : List ℕ) → has_name x (loop_variables directive var tree) ≡ true → u.held x ≡ None
  pub privates : AllOwn w (privates_of w directive var tree)
  -- a private scalar's word is good for what is pushed
  pub pushed : (x : List ℕ) → has_name x (privates_of w directive var tree) ≡ true → inner.needed x ≡ true
      → writes_in x (iteration_body directive tree) ≡ true → w.site.pushed x ≡ true
  -- names in scope inside and outside
  pub needed : (x : List ℕ) → inner.needed x ≡ true → has_name x (privates_of w directive var tree) ≡ false → has_name x (loop_variables directive var tree) ≡ false → u.needed x ≡ true
  pub outside : (x : List ℕ) → u.needed x ≡ true → inner.needed x ≡ true
  pub live : (x : List ℕ) → has_name x (privates_of w directive var tree) ≡ false → inner.live x ≡ u.live x
  pub moved : (x : List ℕ) → inner.moved x ≡ u.moved x
  -- what an iteration has of its own doesn't count outside, and of its names the outer loops' variables alone are needed there
  pub dead : (p : ℕ) → w.shared ≤ p → u.live (name_at w.site.keys p) ≡ false
  pub stays : (p : ℕ) → w.shared ≤ p → p < length w.site.keys → u.needed (name_at w.site.keys p) ≡ true → IsHeld u (name_at w.site.keys p)
  -- these may be private in the loop, and unset by its iterations; set they aren't
  pub unset : (x : List ℕ) → IsHeld u x → writes_in x (iteration_body directive tree) ≡ false
  pub low : (p : ℕ) → p < w.shared → u.held (name_at w.site.keys p) ≡ None
  pub fresh : (x : List ℕ) → inner.held x ≡ None
  -- in the loop each place's name makes touches, and outside none does
  pub inside : (p : ℕ) → p < w.shared → (in_iteration w number directive var tree).site.accessed (name_at w.site.keys p) ≡ true
  pub silent : (x : List ℕ) → w.site.accessed x ≡ false
  pub summed : AllSummed (in_iteration w number directive var tree) w.site.declared

abbrev pub HeadLiterals : Option Head → Type 0
HeadLiterals None = Unit {0}
HeadLiterals (Some h) = Literals h.first × Literals h.last × OptionLiterals h.step

abbrev pub arm_count : Arms → ℕ
arm_count no_arms = 0
arm_count (arm test body arms) = suc (arm_count arms)

-- all statements; the loops in a parallel loop are sequential, and an arm's number is a word
abbrev mutual
  pub Sound : World → Use → Statement → Type 0
  Sound w u (assignment line atomic p e) = SoundAssigned w u p e (increment_terms w.site.ring p e)
  Sound w u (branch line arms other) = (arm_count arms < 2 ^ 64) × SoundArms w u arms × SoundAll w u other
  Sound w u (loop line number None var first last step body) =
      SoundVariable w u var first last step × ((n : ℕ) → SoundAll (in_turn w var) (scope_with var n u) body)
  Sound w u (loop line number (Some directive) var first last step body) =
      (inner : Use)
      × SoundRounds w u inner number directive var body
      × (Literals first × Literals last × OptionLiterals step)
      × HeadLiterals (further_head directive body)
      × cond (is_nest directive body) (SoundInner (in_iteration w number directive var body) inner body) (SoundAll (in_iteration w number directive var body) inner body)
      × AreFlat body

  pub SoundAll : World → Use → Statements → Type 0
  SoundAll w u no_statements = Unit {0}
  SoundAll w u (statement s ss) = Sound w u s × SoundAll w u ss

  pub SoundArms : World → Use → Arms → Type 0
  SoundArms w u no_arms = Unit {0}
  SoundArms w u (arm test body arms) = SoundAll w u body × SoundArms w u arms

  -- the statements of the loop in a body
  pub SoundInner : World → Use → Statements → Type 0
  SoundInner w u no_statements = Unit {0}
  SoundInner w u (statement s ss) = SoundWithin w u s

  pub SoundWithin : World → Use → Statement → Type 0
  SoundWithin w u (assignment line atomic p e) = Unit {0}
  SoundWithin w u (branch line arms other) = Unit {0}
  SoundWithin w u (loop line number directive var first last step body) = SoundAll w u body
