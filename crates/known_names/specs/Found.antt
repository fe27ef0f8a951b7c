-- What indexes of names find.
use Rattle.std.specs.Prelude.{◌≡◌, ℕ, List, Option}
use Rattle.std.specs.BTreeMap.{BTreeMap, get_by}
use Rattle.std.specs.Cmp.Lexicographic.{slice_cmp}
use Rattle.std.specs.Option.{option_copied}
use Rattle.std.specs.Ordering.{nat_cmp}
use Rattle.fl_ast.specs.declared.decl.Decl.{Decl}
use Rattle.fl_ast.specs.declared.stmt.Program.{Program}
use Rattle.fl_types.specs.Rows.{is_varying, is_private_name}
use Rattle.fl_types.specs.Sharing.{has_name, is_ring_name}
use denote.Ref.{Bor}

-- what a map from names to declarations has at a name
abbrev pub found : List ℕ → BTreeMap (Bor (List ℕ)) (Bor Decl) → Option Decl
found x m = option_copied (get_by (λ k. slice_cmp nat_cmp x k.now) m)

-- the indexes are those of the program
pub record AreIndexed (p : Program) (declared : List Decl) (ring args varying privates : List (List ℕ)) : Type 0 where
  pub declared_is : declared ≡ p.decls
  pub ring_is : (x : List ℕ) → has_name x ring ≡ is_ring_name p.decls x
  pub args_is : (x : List ℕ) → has_name x args ≡ has_name x p.args
  pub varying_is : (x : List ℕ) → has_name x varying ≡ is_varying p x
  pub privates_is : (x : List ℕ) → has_name x privates ≡ is_private_name p x
