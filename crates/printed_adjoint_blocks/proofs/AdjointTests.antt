-- The lines of tests, `then` with them, in an adjoint.
use Rattle.std.proofs.Common.{◌≡◌, ◌≤◌, true, false, List, [], ◌∷◌, ◌++◌, map, refl, sym, ap, subst, append_assoc}
use Rattle.std.specs.Prelude.{codes}
use Rattle.tokens.specs.Lexeme.{Lexeme}
use Rattle.fl_ast.specs.Tree.{Condition}
use Rattle.fl_ast.specs.Measures.{condition_depth}
use Rattle.fl_ast.specs.Readable.{is_readable_condition}
use Rattle.parsing.specs.Reading.{Lexemes}
use Rattle.fl_printer.specs.declared.spaced.Spaced.{Spaced}
use Rattle.fl_printer.specs.Words.{joined, apart, condition_words}
use Rattle.fl_printer.specs.Rows.{test_words}
use Rattle.fl_printer.specs.Lexemes.{unplaced, words_lexemes, end_lexeme}
use Rattle.fl_printer.proofs.Tokens.{Class, Calm, Wordy}
use Rattle.fl_printer.proofs.Flow.{Runs, any, join, stop, calm, name_step, open_token, close_token, condition_flows}
use Rattle.fl_printer.proofs.Units.{word}
use Rattle.fl_printed.specs.Fits.{Fits}
use Rattle.fl_printed.proofs.Lexed.{Lexed, first, none, parts, lexed}
use Rattle.printed_clauses.proofs.ReadDirectives.{last}
use Rattle.printed_adjoint_lines.specs.AdjointLines.{IsGuard}
use Rattle.printed_adjoint_lines.proofs.ReadAdjointLines.{guard_read}

guard_flows : (test : Condition) (c : Class) → is_readable_condition test ≡ true → Runs c (apart (codes "(") ∷ (condition_words false false test ++ joined (codes ")") ∷ apart (codes "then") ∷ [])) any
guard_flows test c h =
    calm (apart (codes "(")) c refl open_token (join (condition_flows test h false false Calm refl) (λ d i.
    calm (joined (codes ")")) d refl close_token (word (codes "then") Calm refl (stop Wordy any refl))))

-- a test in its brackets, `then` and the end of the line
tail_read : (test : Condition) (us : Lexemes) (G : Lexemes → Type 0) → is_readable_condition test ≡ true → condition_depth test ≤ 256 →
    Lexed us (apart (codes "(") ∷ (condition_words false false test ++ joined (codes ")") ∷ apart (codes "then") ∷ [])) →
    ((gs : Lexemes) (t : Lexeme) → IsGuard gs test → Fits t (codes "then") → G (gs ++ t ∷ [])) → G us
tail_read test us G h i l k =
    let is : apart (codes "(") ∷ (condition_words false false test ++ joined (codes ")") ∷ apart (codes "then") ∷ []) ≡ (apart (codes "(") ∷ (condition_words false false test ++ joined (codes ")") ∷ [])) ++ apart (codes "then") ∷ [] =
    ap (λ v. apart (codes "(") ∷ v) (sym (append_assoc (condition_words false false test) (joined (codes ")") ∷ []) (apart (codes "then") ∷ []))) in
    parts us (apart (codes "(") ∷ (condition_words false false test ++ joined (codes ")") ∷ [])) (apart (codes "then") ∷ []) G (subst (λ (ws : List Spaced). Lexed us ws) is l) (λ gs rest p q.
    first rest _ _ (λ v. G (gs ++ v)) q (λ t more c m.
    none more (λ v. G (gs ++ t ∷ v)) m (k gs t (guard_read test gs h i p) c)))

pub first_test : (test : Condition) (us : Lexemes) (G : Lexemes → Type 0) → is_readable_condition test ≡ true → condition_depth test ≤ 256 → map unplaced us ≡ words_lexemes (test_words false test) ++ end_lexeme ∷ [] →
    ((t1 : Lexeme) (gs : Lexemes) (t2 e : Lexeme) → Fits t1 (codes "if") → IsGuard gs test → Fits t2 (codes "then") → unplaced e ≡ end_lexeme → G ((t1 ∷ (gs ++ t2 ∷ [])) ++ e ∷ [])) → G us
first_test test us G h i l k =
    let f : Runs Calm (test_words false test) any = name_step false (codes "if") Calm refl refl (guard_flows test Wordy h) in
    last us (words_lexemes (test_words false test)) end_lexeme G l (λ vs e m n.
    first vs _ _ (λ v. G (v ++ e ∷ [])) (lexed vs (test_words false test) Calm f.to f.flow m) (λ t1 rest c o.
    tail_read test rest (λ v. G ((t1 ∷ v) ++ e ∷ [])) h i o (λ gs t2 p q. k t1 gs t2 e c p q n)))

pub later_test : (test : Condition) (us : Lexemes) (G : Lexemes → Type 0) → is_readable_condition test ≡ true → condition_depth test ≤ 256 → map unplaced us ≡ words_lexemes (test_words true test) ++ end_lexeme ∷ [] →
    ((t1 t2 : Lexeme) (gs : Lexemes) (t3 e : Lexeme) → Fits t1 (codes "else") → Fits t2 (codes "if") → IsGuard gs test → Fits t3 (codes "then") → unplaced e ≡ end_lexeme →
    G ((t1 ∷ t2 ∷ (gs ++ t3 ∷ [])) ++ e ∷ [])) → G us
later_test test us G h i l k =
    let f : Runs Calm (test_words true test) any = name_step false (codes "else") Calm refl refl (word (codes "if") Wordy refl (guard_flows test Wordy h)) in
    last us (words_lexemes (test_words true test)) end_lexeme G l (λ vs e m n.
    first vs _ _ (λ v. G (v ++ e ∷ [])) (lexed vs (test_words true test) Calm f.to f.flow m) (λ t1 v1 c1 o1.
    first v1 _ _ (λ v. G ((t1 ∷ v) ++ e ∷ [])) o1 (λ t2 rest c2 o2.
    tail_read test rest (λ v. G ((t1 ∷ t2 ∷ v) ++ e ∷ [])) h i o2 (λ gs t3 p q. k t1 t2 gs t3 e c1 c2 p q n))))
