-- The line of a readable directive is read as it.
use Rattle.std.proofs.Common.{◌≡◌, ℕ, Bool, true, ◌&&◌, List, [], ◌∷◌, ◌++◌, map, Option, Some, None, refl, sym, ap, subst, ◌∙◌, append-nil, append_assoc, arith}
use Rattle.std.specs.Prelude.{codes, nat_le}
use Rattle.std.specs.List.{list_all}
use Rattle.std.proofs.lemmas.Bool.{and_parts}
use Rattle.tokens.specs.Lexeme.{Lexeme}
use Rattle.tokens.specs.declared.TokenKind.TheVariants.{LineEnd}
use Rattle.fl_ast.specs.declared.kind.Kind.TheVariants.{Index}
use Rattle.fl_ast.specs.declared.directive.Directive.{Directive}
use Rattle.fl_ast.specs.Tree.{Expression, literal}
use Rattle.fl_ast.specs.Readable.{is_variable, are_apart, listed_names, is_readable_schedule, has_readable_clauses}
use Rattle.parsing.specs.declared.symbol.Symbol.TheVariants as s
use Rattle.parsing.specs.Reading.{Lexemes}
use Rattle.parsing.specs.Symbol.{symbol_by}
use Rattle.parsing.specs.Terminal.{marked}
use Rattle.omp_clauses.specs.declared.state.Sharing.TheVariants as sharing
use Rattle.omp_clauses.specs.Said.{Said, nothing}
use Rattle.omp_clauses.specs.LineGrammar.{parallel_do}
use Rattle.fl_printer.specs.Words.{default_words, list_words, reduction_words, collapse_words, schedule_words, clause_words}
use Rattle.fl_printer.specs.Rows.{parallel_words}
use Rattle.fl_printer.specs.Lexemes.{unplaced, words_lexemes, end_lexeme}
use Rattle.fl_printer.proofs.Tokens.{Calm}
use Rattle.fl_printer.proofs.Units.{loop_is}
use Rattle.fl_printed.proofs.Lexed.{Lexed, first, parts, lexed}
use Rattle.printed_clauses.specs.Placed.{at_line}
use Rattle.printed_clauses.proofs.Written.{parallel_read, do_read, private_read, first_read, shared_read}
use Rattle.printed_clauses.proofs.Steps.{Says, says_on}
use Rattle.printed_clauses.proofs.ReadClauses.{Names, said, default_back, list_back, reduction_back, collapse_back, schedule_back}

-- ---- all clauses

all_parts : {A : Type 0} (test : A → Bool) (xs ys : List A) → list_all test (xs ++ ys) ≡ true → (list_all test xs ≡ true) × (list_all test ys ≡ true)
all_parts test [] ys h = (refl, h)
all_parts test (x ∷ xs) ys h =
    let p = and_parts (test x) (list_all test (xs ++ ys)) h in
    let q = all_parts test xs ys p.1 in
    (ap (λ t. t && list_all test xs) p.0 ∙ q.0, q.1)

first_before : (ps xs : Names) → ps ++ (xs ++ []) ≡ ps ++ xs
first_before ps xs = ap (λ v. ps ++ v) (append-nil xs)

shared_before : (ps fs xs : Names) → ps ++ (fs ++ (xs ++ [])) ≡ (ps ++ fs) ++ xs
shared_before ps fs xs = ap (λ v. ps ++ (fs ++ v)) (append-nil xs) ∙ sym (append_assoc ps fs xs)

plus_before : (ps fs ss xs : Names) → ps ++ (fs ++ (ss ++ xs)) ≡ (ps ++ (fs ++ ss)) ++ xs
plus_before ps fs ss xs = simp append_assoc

plus_behind : (ps fs ss xs : Names) → ps ++ (fs ++ (ss ++ xs)) ≡ (ps ++ (fs ++ ss)) ++ (xs ++ [])
plus_behind ps fs ss xs = plus_before ps fs ss xs ∙ ap (λ v. (ps ++ (fs ++ ss)) ++ v) (sym (append-nil xs))

are : (xs ys : Names) → xs ≡ ys → are_apart xs ≡ true → are_apart ys ≡ true
are xs ys e h = subst (λ (v : Names). are_apart v ≡ true) e h

pub clauses_back : (d : Directive) (line : ℕ) (us : Lexemes) → has_readable_clauses d ≡ true → Lexed us (clause_words d) →
    Says (nothing line) (said line d.none d.privates d.firsts d.shareds d.pluses d.collapse d.schedule) us
clauses_back d line us h l =
    let p = and_parts (list_all is_variable (listed_names d)) _ h in
    let q = and_parts (are_apart (listed_names d)) _ p.1 in
    let r = and_parts (is_readable_schedule d.schedule) (nat_le d.collapse 2) q.1 in
    let a = all_parts is_variable d.privates (d.firsts ++ (d.shareds ++ d.pluses)) p.0 in
    let b = all_parts is_variable d.firsts (d.shareds ++ d.pluses) a.1 in
    let e = all_parts is_variable d.shareds d.pluses b.1 in
    let ps = d.privates in
    let fs = d.firsts in
    let ss = d.shareds in
    let xs = d.pluses in
    let end = said line d.none ps fs ss xs d.collapse d.schedule in
    parts us (default_words d.none) _ (Says (nothing line) end) l (λ u1 v1 k1 m1.
    says_on (nothing line) (said line d.none [] [] [] [] 0 None) end u1 v1 (default_back line d.none u1 k1)
    (parts v1 (list_words (codes "private") ps) _ (Says (said line d.none [] [] [] [] 0 None) end) m1 (λ u2 v2 k2 m2.
    says_on (said line d.none [] [] [] [] 0 None) (said line d.none ps [] [] [] 0 None) end u2 v2
    (list_back sharing.Private (λ n. said line d.none n [] [] [] 0 None) [] (λ n x. refl) (λ n. append-nil n) (codes "private") private_read ps (fs ++ (ss ++ xs)) u2 a.0 q.0 k2)
    (parts v2 (list_words (codes "firstprivate") fs) _ (Says (said line d.none ps [] [] [] 0 None) end) m2 (λ u3 v3 k3 m3.
    says_on (said line d.none ps [] [] [] 0 None) (said line d.none ps fs [] [] 0 None) end u3 v3
    (list_back sharing.First (λ n. said line d.none ps n [] [] 0 None) ps (λ n x. refl) (first_before ps) (codes "firstprivate") first_read fs (ss ++ xs) u3 b.0 q.0 k3)
    (parts v3 (list_words (codes "shared") ss) _ (Says (said line d.none ps fs [] [] 0 None) end) m3 (λ u4 v4 k4 m4.
    says_on (said line d.none ps fs [] [] 0 None) (said line d.none ps fs ss [] 0 None) end u4 v4
    (list_back sharing.Shared (λ n. said line d.none ps fs n [] 0 None) (ps ++ fs) (λ n x. refl) (shared_before ps fs) (codes "shared") shared_read ss xs u4 e.0
    (are (ps ++ (fs ++ (ss ++ xs))) ((ps ++ fs) ++ (ss ++ xs)) (sym (append_assoc ps fs (ss ++ xs))) q.0) k4)
    (parts v4 (reduction_words xs) _ (Says (said line d.none ps fs ss [] 0 None) end) m4 (λ u5 v5 k5 m5.
    says_on (said line d.none ps fs ss [] 0 None) (said line d.none ps fs ss xs 0 None) end u5 v5
    (reduction_back (λ n. said line d.none ps fs ss n 0 None) (ps ++ (fs ++ ss)) (λ n x. refl) (plus_before ps fs ss) xs [] u5 e.1
    (are (ps ++ (fs ++ (ss ++ xs))) ((ps ++ (fs ++ ss)) ++ (xs ++ [])) (plus_behind ps fs ss xs) q.0) k5)
    (parts v5 (collapse_words d.collapse) _ (Says (said line d.none ps fs ss xs 0 None) end) m5 (λ u6 v6 k6 m6.
    says_on (said line d.none ps fs ss xs 0 None) (said line d.none ps fs ss xs d.collapse None) end u6 v6
    (collapse_back line d.none ps fs ss xs d.collapse u6 r.1 k6)
    (schedule_back line d.none ps fs ss xs d.collapse d.schedule v6 r.0 m6))))))))))))

-- ---- the line

no_lexeme : {A : Type 0} (t : Lexeme) (ts : Lexemes) → [] ≡ t ∷ ts → A
no_lexeme t ts e = absurd (let f : [] ≡ t ∷ ts = e in cc)

heads : (t u : Lexeme) (ts us : Lexemes) → t ∷ ts ≡ u ∷ us → t ≡ u
heads t u ts us e = cc

tails : (t u : Lexeme) (ts us : Lexemes) → t ∷ ts ≡ u ∷ us → ts ≡ us
tails t u ts us e = cc

pub last : (us xs : Lexemes) (x : Lexeme) (G : Lexemes → Type 0) → map unplaced us ≡ xs ++ x ∷ [] → ((vs : Lexemes) (e : Lexeme) → map unplaced vs ≡ xs → unplaced e ≡ x → G (vs ++ e ∷ [])) → G us
last [] [] x G h k = no_lexeme x [] h
last [] (y ∷ xs) x G h k = no_lexeme y (xs ++ x ∷ []) h
last (u ∷ []) [] x G h k = k [] u refl (heads (unplaced u) x [] [] h)
last (u ∷ v ∷ us) [] x G h k = no_lexeme (unplaced v) (map unplaced us) (sym (tails (unplaced u) x (unplaced v ∷ map unplaced us) [] h))
last (u ∷ us) (y ∷ xs) x G h k =
    last us xs x (λ v. G (u ∷ v)) (tails (unplaced u) y (map unplaced us) (xs ++ x ∷ []) h)
    (λ vs e m n. k (u ∷ vs) e (ap (λ t. t ∷ map unplaced vs) (heads (unplaced u) y (map unplaced us) (xs ++ x ∷ []) h) ∙ ap (λ ts. y ∷ ts) m) n)

pub end_read : (e : Lexeme) → unplaced e ≡ end_lexeme → marked s.LineEnd e ≡ Some e.line
unfolding symbol_by
end_read e h = is_end e.line e.kind (ap (λ t. t.kind) h)
  where
    is_end : (l : ℕ) (k : _) → k ≡ LineEnd → marked s.LineEnd (record { line = l; kind = k; bytes = e.bytes }) ≡ Some l
    is_end l k h = subst (λ k. marked s.LineEnd (record { line = l; kind = k; bytes = e.bytes }) ≡ Some l) (sym h) refl

one : Expression
one = literal 1 Index

pub directives_read : (d : Directive) (line : ℕ) (us : Lexemes) → has_readable_clauses d ≡ true → map unplaced us ≡ words_lexemes (parallel_words d) ++ end_lexeme ∷ [] → parallel_do true line (at_line d line) us
unfolding parallel_do one
directives_read d line us h l =
    let rows = loop_is 0 (Some d) (codes "i") one one None (omega arith) h refl refl refl refl in
    last us (words_lexemes (parallel_words d)) end_lexeme (parallel_do true line (at_line d line)) l (λ vs e m n.
    first vs _ _ (λ v. parallel_do true line (at_line d line) (v ++ e ∷ [])) (lexed vs (parallel_words d) Calm rows.0.to rows.0.flow m) (λ t1 ws c o.
    first ws _ _ (λ v. parallel_do true line (at_line d line) ((t1 ∷ v) ++ e ∷ [])) o (λ t2 rest f p. (
      t1.line,
      t1 ∷ [],
      t2 ∷ (rest ++ e ∷ []),
      (t1, parallel_read t1 c, refl),
      (
        t2.line,
        t2 ∷ [],
        rest ++ e ∷ [],
        (t2, do_read t2 f, refl),
        (said line d.none d.privates d.firsts d.shareds d.pluses d.collapse d.schedule, rest, e ∷ [], clauses_back d line rest h p, (e.line, e ∷ [], [], (e, end_read e n, refl), (refl, refl), refl), refl),
        refl,
      ),
      refl,
    ))))
