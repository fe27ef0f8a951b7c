-- The reader of blocks in a block, one level down.
use Rattle.std.proofs.Common.{◌≡◌, ℕ, zero, suc, ◌-◌, ◌<◌, Bool, nat_lt, true, refl, sym, ap, arith}
use Rattle.std.proofs.lemmas.Bool.Decides.{nat_tests}
use Rattle.parsing.specs.Reading.{Lexemes}
use Rattle.adjoint_statements.specs.declared.block.Block.{Block}
use Rattle.fl_statements.specs.Limits.{Limits}
use Rattle.adjoint_statements.specs.AdjointStmtReading as spec

some : (n : ℕ) → nat_lt 0 (suc n) ≡ true
some n = grind (arith, nat_tests)

pub level_of : (limits : Limits) (n : ℕ) (inside : Bool) (c : Block) (ts : Lexemes) → spec.stmts limits n inside c ts ≡ spec.block limits (nat_lt 0 n) (spec.nested limits n) inside c ts
unfolding spec.stmts spec.nested
level_of limits zero inside c ts = refl
level_of limits (suc n) inside c ts = ap (λ r. spec.block limits r (spec.stmts limits n) inside c ts) (sym (some n))

pub nested_of : (limits : Limits) (n : ℕ) (inside : Bool) (c : Block) (ts : Lexemes) → 0 < n → spec.nested limits n inside c ts ≡ spec.stmts limits (n - 1) inside c ts
unfolding spec.nested
nested_of limits zero inside c ts h = absurd (omega arith)
nested_of limits (suc n) inside c ts h = let e : n ≡ suc n - 1 = omega arith in ap (λ m. spec.stmts limits m inside c ts) e
