-- The law of the reverse part, as one statement.
use Rattle.std.specs.Prelude.{◌≡◌, ℕ, ◌+◌, ◌<◌, ◌≤◌, true, false, List, length, Some, None, Ok, slice_index}
use Rattle.fl_ast.specs.Tree.{Statements}
use Rattle.operations.specs.Tree.{Played, play}
use Rattle.meaning.specs.declared.value.Dual.{Dual}
use Rattle.meaning.specs.declared.value.Value.TheVariants.{Ring}
use Rattle.meaning.specs.Sites.{Cells}
use Rattle.meaning.specs.Expressions.{content}
use Rattle.meaning.specs.Statements.{run_all}
use Rattle.meaning.specs.Adjoints.{cells_along, unit, adjoint_at}
use Rattle.meaning.specs.Fitting.{Fits}
use Rattle.transposition.specs.Tapes.{empty, tape_after}
use Rattle.transposition.specs.Worlds.{World, Local, name_at}
use Rattle.transposition.specs.Back.{back_all}
use Rattle.transposition.specs.Law.{Use, flat, local, Like, AreWords}
use Rattle.transposition.specs.Calms.{IsCalmAll}
use Rattle.transposition.specs.Sound.{SoundAll}

-- the reverse part on what the forward part left, and a seed
abbrev pub reverse_run : World → Statements → Cells → (vs seed : List ℕ) → Played Local
reverse_run w xs s vs seed = play (back_all xs w (local w.shared (tape_after (run_all xs w.site s).log empty) vs seed)) (flat w.shared vs seed)

pub record Answer (w : World) (u : Use) (xs : Statements) (s : Cells) (vs seed : List ℕ) (j : ℕ) : Type 0 where
  pub vs2 : List ℕ
  pub bs2 : List ℕ
  pub out : (reverse_run w xs s vs seed).out ≡ local w.shared empty vs2 bs2
  pub cells : (reverse_run w xs s vs seed).cells ≡ flat w.shared vs2 bs2
  pub wide : length vs2 ≡ length w.site.keys
  pub long : length bs2 ≡ length w.site.keys
  pub words : AreWords bs2
  -- the adjoint that the unit directions define
  pub adjoint : slice_index bs2 j ≡ adjoint_at (run_all xs w.site) s seed j
  pub cell : j < w.shared → slice_index (reverse_run w xs s vs seed).cells (w.shared + j) ≡ adjoint_at (run_all xs w.site) s seed j
  pub values : Like u w.site.keys vs2 s

abbrev pub ReverseIsTransposed : Type 0
ReverseIsTransposed =
    (w : World) (u : Use) (xs : Statements) (s s2 : Cells) (vs seed : List ℕ) (j : ℕ) (d : Dual) → SoundAll w u xs → ((x : List ℕ) → u.held x ≡ None) → IsCalmAll xs w (cells_along (unit j) s) → Fits w.site s → w.shared ≤ length w.site.keys → u.moved (name_at w.site.keys j) ≡ true → (run_all xs w.site s).out ≡ Ok s2 → Like u w.site.keys vs s2 → length vs ≡ length w.site.keys → length seed ≡ length w.site.keys → AreWords seed
    → content s j ≡ Some (Ring d) → u.live (name_at w.site.keys j) ≡ true → ((p : ℕ) → u.live (name_at w.site.keys p) ≡ false → u.moved (name_at w.site.keys p) ≡ true → slice_index seed p ≡ 0)
    → Answer w u xs s vs seed j
