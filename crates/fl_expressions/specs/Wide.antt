-- A number of brackets that may open, and a greater one.
use Rattle.std.specs.Prelude.{◌≡◌, ℕ, ◌<◌, true, false}
use Rattle.parsing.specs.declared.fault.Cause.TheVariants.{Deep}
use Rattle.parsing.specs.Freed.{Freed, frees}

-- brackets have no end, but there may be more of them
pub record More (l : Freed) (b b2 : ℕ) : Type 0 where
  pub stays : frees l Deep ≡ false → b ≡ b2
  pub goes : frees l Deep ≡ true → b < b2
