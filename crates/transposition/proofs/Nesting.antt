-- The body of an iteration: all statements of a loop's body, or of the one loop in it.
use Rattle.std.specs.Prelude.{◌≡◌, ℕ, Bool, true, false, ◌||◌, if◌then◌else◌, bytes_eq, List, Option, Some, None, refl}
use Rattle.fl_ast.specs.Tree.{assignment, branch, loop, Statements, no_statements, statement}
use Rattle.fl_types.specs.Nests.{Head, inner_head, inner_body}
use Rattle.fl_types.specs.Sharing.{has_name}
use Rattle.meaning.specs.Statements.{run_all, run_inner}
use Rattle.transposition.specs.Back.{back_all, back_inner, variables_of}
use Rattle.transposition.specs.Calms.{AreFlat}
use Rattle.transposition.specs.Sound.{writes_in}

inner_run : (tree : Statements) → run_inner tree ≡ run_all (inner_body tree)
inner_run no_statements = refl
inner_run (statement (assignment line atomic p e) ss) = refl
inner_run (statement (branch line arms other) ss) = refl
inner_run (statement (loop line number directive var first last step body) ss) = refl

pub body_run : (b : Bool) (tree : Statements) → (if b then run_inner tree else run_all tree) ≡ run_all (if b then inner_body tree else tree)
body_run true tree = inner_run tree
body_run false tree = refl

inner_back : (tree : Statements) → back_inner tree ≡ back_all (inner_body tree)
inner_back no_statements = refl
inner_back (statement (assignment line atomic p e) ss) = refl
inner_back (statement (branch line arms other) ss) = refl
inner_back (statement (loop line number directive var first last step body) ss) = refl

pub body_back : (b : Bool) (tree : Statements) → (if b then back_inner tree else back_all tree) ≡ back_all (if b then inner_body tree else tree)
body_back true tree = inner_back tree
body_back false tree = refl

flat_inner : (tree : Statements) → AreFlat tree → AreFlat (inner_body tree)
flat_inner no_statements h = tt
flat_inner (statement (assignment line atomic p e) ss) h = tt
flat_inner (statement (branch line arms other) ss) h = tt
flat_inner (statement (loop line number None var first last step body) ss) h = h.0
flat_inner (statement (loop line number (Some directive) var first last step body) ss) h = absurd h.0

pub body_flat : (b : Bool) (tree : Statements) → AreFlat tree → AreFlat (if b then inner_body tree else tree)
body_flat true tree h = flat_inner tree h
body_flat false tree h = h

-- what isn't set in the whole body isn't set in an iteration, and is no variable of the loop in it
pub record Unwritten (x : List ℕ) (body : Statements) (more : Option Head) : Type 0 where
  pub body_free : writes_in x body ≡ false
  pub other : has_name x (variables_of more) ≡ false

or_left : (a b : Bool) → (a || b) ≡ false → a ≡ false
or_left true b h = cc
or_left false b h = refl

or_right : (a b : Bool) → (a || b) ≡ false → b ≡ false
or_right true b h = cc
or_right false b h = h

or_none : (a : Bool) → a ≡ false → (a || false) ≡ false
or_none true h = cc
or_none false h = refl

unwritten_inner : (x : List ℕ) (tree : Statements) → writes_in x tree ≡ false → Unwritten x (inner_body tree) (inner_head tree)
unwritten_inner x no_statements h = record { body_free = refl; other = refl }
unwritten_inner x (statement (assignment line atomic p e) ss) h = record { body_free = refl; other = refl }
unwritten_inner x (statement (branch line arms other) ss) h = record { body_free = refl; other = refl }
unwritten_inner x (statement (loop line number None var first last step body) ss) h =
    let one = or_left (bytes_eq x var || writes_in x body) (writes_in x ss) h in
    record { body_free = or_right (bytes_eq x var) (writes_in x body) one; other = or_none (bytes_eq x var) (or_left (bytes_eq x var) (writes_in x body) one) }
unwritten_inner x (statement (loop line number (Some directive) var first last step body) ss) h =
    let one = or_left (bytes_eq x var || (has_name x directive.privates || writes_in x body)) (writes_in x ss) h in
    record {
      body_free = or_right (has_name x directive.privates) (writes_in x body) (or_right (bytes_eq x var) (has_name x directive.privates || writes_in x body) one);
      other = or_none (bytes_eq x var) (or_left (bytes_eq x var) (has_name x directive.privates || writes_in x body) one);
    }

pub unwritten : (b : Bool) (x : List ℕ) (tree : Statements) → writes_in x tree ≡ false → Unwritten x (if b then inner_body tree else tree) (if b then inner_head tree else None)
unwritten true x tree h = unwritten_inner x tree h
unwritten false x tree h = record { body_free = h; other = refl }
