-- Which limits are taken away to tell why a token is refused.
use Rattle.std.specs.Prelude.{◌≡◌, Bool, true, false, None}
use Rattle.parsing.specs.declared.fault.Cause.{Cause}
use Rattle.parsing.specs.declared.fault.Cause.TheVariants.{Deep, Many, Twice}
use Rattle.parsing.specs.Limit.{Limit}

pub data Freed : Type 0 where
  -- no limit
  Nothing : Freed
  -- those on numbers
  Counts : Freed
  -- those on depth too
  All : Freed
  -- that names and clauses of a directive stand once
  Repeats : Freed

abbrev pub frees : Freed → Cause → Bool
frees Nothing cause = false
frees Counts Many = true
frees Counts _ = false
frees All Deep = true
frees All Many = true
frees All _ = false
frees Repeats Twice = true
frees Repeats _ = false

-- the limit with this cause, and what it is where these are taken away
pub record Frees (l : Freed) (cause : Cause) (limit wide : Limit) : Type 0 where
  pub stays : frees l cause ≡ false → limit ≡ wide
  pub goes : frees l cause ≡ true → wide ≡ None
