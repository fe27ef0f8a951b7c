-- Limits on numbers; without a limit the grammar is the language's own.
use Rattle.std.specs.Prelude.{ℕ, ◌-◌, Bool, true, nat_le, Option, Some, None}

abbrev pub Limit : Type 0
Limit = Option ℕ

abbrev pub allows : Limit → ℕ → Bool
allows (Some most) n = nat_le n most
allows None n = true

abbrev pub less : Limit → Limit
less (Some most) = Some (most - 1)
less None = None
