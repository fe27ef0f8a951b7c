use Rattle.std.proofs.Common.{rules, ◌≡◌, ◌-◌, suc, ℕ, bytes_eq, true, None, drop, sym, subst, arith}
use Rattle.index_forms.specs.Origins.{origin_in}
use Rattle.index_forms.proofs.Origins.{found}
use Rattle.index_forms.proofs.origin.find_origin.Goals as goal

pub returns-then-is : goal.returns-then-is
returns-then-is c =
    let e = c.index-entries-i.result in
    let i : c.loop-i.i ≡ suc (c.loop-i.i - 1) = omega arith in
    let r : origin_in (drop (suc (c.loop-i.i - 1)) c.args.entries.now) c.args.name.now ≡ None = subst (λ (j : ℕ). origin_in (drop j c.args.entries.now) c.args.name.now ≡ None) i c.loop-i.invariant in
    let n : bytes_eq c.args.name.now e.name ≡ true = search rules in
    sym (found c.args.entries.now (c.loop-i.i - 1) e c.args.name.now (omega arith) (sym c.index-entries-i.is) n r)
