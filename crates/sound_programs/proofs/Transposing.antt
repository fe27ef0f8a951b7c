-- The law of transposition for accepted programs.
use Rattle.std.proofs.Common.{◌≡◌, ℕ, Bool, true, false, not, cond, List, [], Some, None, ap, refl}
use Rattle.std.proofs.lemmas.Bool.{and_from}
use Rattle.fl_ast.specs.Tree.{Statement, assignment, branch, loop, Statements, no_statements, statement, Arms, no_arms, arm, stmt_trees, program_tree}
use Rattle.store_core.specs.Places.{shapes_of}
use Rattle.meaning.specs.declared.value.Value.TheVariants.{Index}
use Rattle.meaning.specs.Sites.{Cells, place_of}
use Rattle.meaning.specs.Statements.{value_at, set_at}
use Rattle.meaning.specs.Adjoints.{cells_along, unit}
use Rattle.meaning.specs.Programs.{entry_cells}
use Rattle.adjoint_sets.specs.Names.{is_active, is_needed}
use Rattle.transposition.specs.Worlds.{World, is_one_step, name_at, in_turn}
use Rattle.transposition.specs.Law.{SharedApart}
use Rattle.transposition.specs.Calms.{Pairwise, PairwiseAll, PairwiseArms}
use Rattle.transposition.proofs.WholePrograms.{program_transposed}
use Rattle.sound_programs.specs.Uses.{is_own, outer_use}
use Rattle.sound_programs.specs.Accepted.{AcceptedIsTransposed, MadeIsTransposed, NamesFit, made_choices, world_of_program}
use Rattle.sound_programs.proofs.Lists.{never}
use Rattle.sound_programs.proofs.Collecting.{choices_fit}
use Rattle.sound_programs.proofs.Programs.{programs_sound, names_fit, low_unowned}

pub accepted_transposed : AcceptedIsTransposed
accepted_transposed p of wrt values choices limits words vs seed s2 j d a fitting apart small run stop like wide long bounded dead
    there content asked active =
    program_transposed (program_tree p) (shapes_of p values) (is_needed p (is_active p of wrt)) (is_active p of wrt) choices
    (outer_use p of wrt) limits words vs seed s2 j d
    (programs_sound p of wrt values choices a fitting) (λ x. refl) apart small run stop like wide long bounded
    (λ q l m. dead q (n.seeded (name_at w.site.keys q) l m)) there content
    (live (name_at w.site.keys j) active (low_unowned p of wrt values a j there)) (n.moved (name_at w.site.keys j) asked)
  where
    w : World
    w = world_of_program p of wrt values choices

    n : NamesFit p of wrt
    n = names_fit p of wrt a

    live : (x : List ℕ) → is_active p of wrt x ≡ true → is_own p x ≡ false → (outer_use p of wrt).live x ≡ true
    live x h k = and_from (is_active p of wrt x) _ h (ap not k)

-- ---- where no choice is Shared

mutual
  apart_one : (a : Statement) (w : World) (s : Cells) → ((number : ℕ) (x : List ℕ) → is_one_step (w.choices number x) ≡ true)
      → Pairwise SharedApart a w s
  apart_one (assignment line atomic p e) w s h = tt
  apart_one (branch line arms other) w s h = apart_arms arms other w s h (apart_all other w s h)
  apart_one (loop line number None var first last step body) w s h =
      λ t e k b s1 g. apart_all body (in_turn w var) (set_at (place_of w.site var []) (Some (Index (value_at t k))) s1) h
  apart_one (loop line number (Some d) var first last step body) w s h =
      λ heads e i j a b c. λ q o f g. never (is_one_step (w.choices number (name_at w.site.keys q))) (h number (name_at w.site.keys q)) o

  pub apart_all : (ss : Statements) (w : World) (s : Cells) → ((number : ℕ) (x : List ℕ) → is_one_step (w.choices number x) ≡ true)
      → PairwiseAll SharedApart ss w s
  apart_all no_statements w s h = tt
  apart_all (statement a ss) w s h = (apart_one a w s h, λ s1 e. apart_all ss w s1 h)

  apart_arms : (arms : Arms) (other : Statements) (w : World) (s : Cells)
      → ((number : ℕ) (x : List ℕ) → is_one_step (w.choices number x) ≡ true) → PairwiseAll SharedApart other w s
      → PairwiseArms SharedApart arms (PairwiseAll SharedApart other w s) w s
  apart_arms no_arms other w s h c = c
  apart_arms (arm test body arms) other w s h c = λ p e. by_test p (apart_all body w s h) (apart_arms arms other w s h c)
    where
      by_test : (p : Bool) → PairwiseAll SharedApart body w s → PairwiseArms SharedApart arms (PairwiseAll SharedApart other w s) w s
          → cond p (PairwiseAll SharedApart body w s) (PairwiseArms SharedApart arms (PairwiseAll SharedApart other w s) w s)
      by_test true f g = f
      by_test false f g = g

pub made_transposed : MadeIsTransposed
made_transposed p of wrt values limits words vs seed s2 j d a =
    let k = choices_fit p of wrt a in
    let w = world_of_program p of wrt values (made_choices p of wrt) in
    accepted_transposed p of wrt values (made_choices p of wrt) limits words vs seed s2 j d a k.fitting
    (apart_all (stmt_trees p.body) w (cells_along (unit j) (entry_cells (program_tree p) (shapes_of p values) words)) k.one_step)
