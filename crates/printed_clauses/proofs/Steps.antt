-- Steps of a grammar, one after the other.
use Rattle.std.proofs.Common.{◌≡◌, ℕ, zero, suc, [], ◌++◌, refl, sym, ap, subst, ◌∙◌, append-nil, append_assoc, inr, true}
use Rattle.parsing.specs.Reading.{Lexemes}
use Rattle.parsing.specs.Grammar.{Grammar, times, many}
use Rattle.omp_clauses.specs.Said.{Said}
use Rattle.omp_clauses.specs.ClauseGrammar as g

times_on : {A : Type 0} (step : A → Grammar A) (n : ℕ) (a b c : A) (vs ws : Lexemes) → times step n a b vs → many step b c ws → many step a c (vs ++ ws)
times_on {A} step zero a b c vs ws t m = subst (λ (v : Lexemes). many step a c (v ++ ws)) (sym t.1) (subst (λ (x : A). many step x c ws) t.0 m)
times_on step (suc n) a b c vs ws (z, as', bs, s, t, e) m =
    let more = times_on step n z b c bs ws t m in
    (suc more.0, (z, as', bs ++ ws, s, more.1, ap (λ v. v ++ ws) e ∙ append_assoc as' bs ws))

-- clauses that lead from what is said to what is said then
abbrev pub Says : Said → Said → Lexemes → Type 0
Says c = g.clauses true c

pub says_nothing : (c : Said) → Says c c []
unfolding g.clauses
says_nothing c = (zero, (refl, refl))

pub says_one : (c x : Said) (us : Lexemes) → g.clause true c x us → Says c x us
unfolding g.clauses g.next_clause
says_one c x us s = (1, (x, us, [], (refl, inr s), (refl, refl), sym (append-nil us)))

pub says_on : (c m x : Said) (vs ws : Lexemes) → Says c m vs → Says m x ws → Says c x (vs ++ ws)
unfolding g.clauses
says_on c m x vs ws p q = times_on _ p.0 c m x vs ws p.1 q
