-- Whether names and clauses stand once only, and the same where that is taken away.
use Rattle.std.specs.Prelude.{◌≡◌, Bool, true, false}
use Rattle.parsing.specs.declared.fault.Cause.TheVariants.{Twice}
use Rattle.parsing.specs.Freed.{Freed, frees}

pub record Onces (l : Freed) (once wide : Bool) : Type 0 where
  pub stays : frees l Twice ≡ false → once ≡ wide
  pub goes : frees l Twice ≡ true → wide ≡ false
