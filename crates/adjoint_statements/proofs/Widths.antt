-- Limits and wider ones, behind one more bracket too.
use Rattle.std.proofs.Common.{◌≡◌, ℕ, ◌-◌, ◌<◌, true, nat_lt, arith}
use Rattle.std.proofs.lemmas.Bool.Decides.{nat_tests}
use Rattle.parsing.specs.Freed.{Freed}
use Rattle.parsing.specs.Limit.{less as fewer}
use Rattle.parsing.proofs.Exact.{frees_less}
use Rattle.fl_expressions.specs.Wide.{More}
use Rattle.fl_expressions.proofs.Exprs.{brackets_room}
use Rattle.fl_statements.specs.Limits.{Limits}
use Rattle.fl_statements.specs.Wide.{Widens}
use Rattle.adjoint_statements.specs.Rooms.{narrower}

pub record Widths (l : Freed) (limits wide : Limits) : Type 0 where
  pub outer : Widens l limits wide
  pub inner : Widens l (narrower limits) (narrower wide)

positive : (n : ℕ) → nat_lt 0 n ≡ true → 0 < n
positive n h = grind (arith, nat_tests)

pub one_fewer : {l : Freed} {b b2 : ℕ} → nat_lt 0 b ≡ true → More l b b2 → More l (b - 1) (b2 - 1)
one_fewer {l} {b} so R = let some_ = positive b so in record { stays = λ f. let e = R.stays f in omega arith; goes = λ t. let e = R.goes t in omega arith }

pub some_in : {l : Freed} {limits wide : Limits} → Widens l limits wide → nat_lt 0 wide.brackets ≡ true
some_in {l} {limits} {wide} W = (brackets_room l limits.brackets wide.brackets W.brackets (fewer limits.depth) (fewer wide.depth) (frees_less W.depth)).grows W.some
