-- What a parallel loop doesn't write stays through its iterations.
use Rattle.std.specs.Prelude.{◌≡◌, ℕ, ℤ, false, true, List, [], ◌∷◌, Ok}
use Rattle.fl_types.specs.Nests.{iteration_body}
use Rattle.fl_types.specs.Sharing.{has_name, ParallelLoop}
use Rattle.meaning.specs.Sites.{Cells, Site}
use Rattle.meaning.specs.Statements.{private_names, Heads, turns}
use Rattle.meaning.specs.Sequential.{are_sequential}
use Rattle.meaning.specs.Frame.{content_by_name}
use Rattle.meaning.specs.Reached.{iteration_cells}
use Rattle.meaning.specs.Groups.{iteration_of}
use Rattle.index_forms.specs.Loops.{written_in}

-- the variables of the loops whose iterations are counted
abbrev pub head_names : Heads → List (List ℕ)
head_names [] = []
head_names (h ∷ hs) = h.0 ∷ head_names hs

-- a name that isn't a variable of these loops, isn't private, and isn't written in an iteration
pub record Stays (site : Site) (l : ParallelLoop) (heads : Heads) (x : List ℕ) : Type 0 where
  pub no_variable : has_name x (head_names heads) ≡ false
  pub not_private : has_name x (private_names site l.directive l.var l.body) ≡ false
  pub unwritten : has_name x (written_in (iteration_body l.directive l.body)) ≡ false

-- holds at the start of each iteration what it held before the loop, for scalars and elements alike
abbrev pub InvariantsHold : Type 0
InvariantsHold =
    (site : Site) (l : ParallelLoop) (heads : Heads) → are_sequential (iteration_body l.directive l.body) ≡ true →
    (k : ℕ) (cells c : Cells) → (turns k (iteration_of site l heads) cells).out ≡ Ok c → (x : List ℕ) → Stays site l heads x → (ss : List ℤ) →
    content_by_name site (iteration_cells site l.directive l.var l.body heads k c) x ss ≡ content_by_name site cells x ss
