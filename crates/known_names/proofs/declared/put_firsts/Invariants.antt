use Rattle.std.proofs.Common.{◌≡◌, List, ℕ, drop}
use Rattle.fl_types.specs.WellTyped.{declaration_of}
use Rattle.known_names.specs.Found.{found}
use Rattle.known_names.proofs.declared.put_firsts.Given as goal

-- those from the last so far
abbrev pub invariant-loop-i : goal.invariant-loop-i
invariant-loop-i l = (x : List ℕ) → found x l.first ≡ declaration_of (drop l.i l.decls) x
