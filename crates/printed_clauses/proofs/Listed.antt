-- Names of one clause.
use Rattle.std.proofs.Common.{◌≡◌, ℕ, zero, suc, Bool, true, false, ◌&&◌, List, [], ◌∷◌, ◌++◌, Some, bytes_eq, refl, sym, ap, subst, ◌∙◌, inl, inr, append-nil, append_assoc}
use Rattle.std.specs.Prelude.{codes}
use Rattle.std.specs.List.{list_all, list_any}
use Rattle.std.proofs.lemmas.Bool.{and_parts}
use Rattle.tokens.specs.Lexeme.{Lexeme}
use Rattle.fl_ast.specs.Readable.{is_variable, are_apart, listed_names}
use Rattle.parsing.specs.declared.cursor.Word.{Word}
use Rattle.parsing.specs.Reading.{Lexemes}
use Rattle.omp_clauses.specs.declared.state.Sharing.{Sharing}
use Rattle.omp_clauses.specs.Said.{Said, lists, with_name}
use Rattle.omp_clauses.specs.ClauseGrammar as g
use Rattle.fl_printer.specs.declared.spaced.Spaced.{Spaced}
use Rattle.fl_printer.specs.Words.{spaced, joined, names_from}
use Rattle.fl_printed.specs.Fits.{Fits}
use Rattle.fl_printed.proofs.Signs.{close_read, comma_read}
use Rattle.fl_printed.proofs.Lexed.{Lexed, first, none, parts}
use Rattle.printed_clauses.proofs.Apart.{none_before}
use Rattle.printed_clauses.proofs.Written.{new_read}

abbrev Names : Type 0
Names = List (List ℕ)

-- what is said with so many names in the clause, behind those of the clauses before it
module _ (sharing : Sharing) (at : Names → Said) (before : Names) (puts : (so_far : Names) (x : List ℕ) → with_name sharing (at so_far) x ≡ at (so_far ++ x ∷ []))
    (listed : (so_far : Names) → listed_names (at so_far).directive ≡ before ++ so_far) where
  fresh : (so_far : Names) (x : List ℕ) (post : Names) → are_apart ((before ++ so_far) ++ x ∷ post) ≡ true → lists (at so_far) x ≡ false
  fresh so_far x post h = ap (list_any (bytes_eq x)) (listed so_far) ∙ none_before (before ++ so_far) x post h

  regroup : (so_far : Names) (x : List ℕ) (xs : Names) → (before ++ so_far) ++ x ∷ xs ≡ (before ++ (so_far ++ x ∷ [])) ++ xs
  regroup so_far x xs = simp append_assoc

  more_read : (xs so_far post : Names) (us : Lexemes) → list_all is_variable xs ≡ true → are_apart ((before ++ so_far) ++ (xs ++ post)) ≡ true → Lexed us (names_from true true xs) →
      g.more_names true sharing (at so_far) (at (so_far ++ xs)) us
  unfolding g.more_names g.another_name
  more_read [] so_far post us h i l = none us (λ v. g.more_names true sharing (at so_far) (at (so_far ++ [])) v) l (zero, (ap at (append-nil so_far), refl))
  more_read (x ∷ xs) so_far post us h i l =
      let p = and_parts (is_variable x) (list_all is_variable xs) h in
      first us _ _ (λ v. g.more_names true sharing (at so_far) (at (so_far ++ x ∷ xs)) v) l (λ t1 ws c m.
      first ws _ _ (λ v. g.more_names true sharing (at so_far) (at (so_far ++ x ∷ xs)) (t1 ∷ v)) m (λ t2 rest d n.
      let more = subst (λ (all : Names). g.more_names true sharing (at (so_far ++ x ∷ [])) (at all) rest) (append_assoc so_far (x ∷ []) xs)
      (more_read xs (so_far ++ x ∷ []) post rest p.1 (subst (λ (all : Names). are_apart all ≡ true) (regroup so_far x (xs ++ post)) i) n) in (
        suc more.0,
        (
          at (so_far ++ x ∷ []),
          t1 ∷ t2 ∷ [],
          rest,
          (refl, (t1.line, t1 ∷ [], t2 ∷ [], (t1, comma_read t1 c, refl), (record { line = t2.line; name = x }, t2 ∷ [], [], (t2, new_read (at so_far) t2 x p.0 (fresh so_far x (xs ++ post) i) d, refl), (sym (puts so_far x), refl), refl), refl)),
          more.1,
          refl,
        ),
      )))

  -- a clause's names, and its bracket that closes
  pub names_read : (x : List ℕ) (xs post : Names) (blank : Bool) (us : Lexemes) → list_all is_variable (x ∷ xs) ≡ true → are_apart (before ++ ((x ∷ xs) ++ post)) ≡ true →
      Lexed us (names_from false blank (x ∷ xs) ++ joined (codes ")") ∷ []) → g.names true sharing (at []) (at (x ∷ xs)) us
  unfolding g.names
  names_read x xs post blank us h i l =
      let p = and_parts (is_variable x) (list_all is_variable xs) h in
      let j : are_apart ((before ++ []) ++ x ∷ (xs ++ post)) ≡ true = subst (λ (all : Names). are_apart (all ++ x ∷ (xs ++ post)) ≡ true) (sym (append-nil before)) i in
      first us _ _ (λ v. g.names true sharing (at []) (at (x ∷ xs)) v) l (λ t ws c m.
      parts ws (names_from true true xs) _ (λ v. g.names true sharing (at []) (at (x ∷ xs)) (t ∷ v)) m (λ vs last n o.
      first last _ _ (λ v. g.names true sharing (at []) (at (x ∷ xs)) (t ∷ (vs ++ v))) o (λ t2 end d q.
      none end (λ v. g.names true sharing (at []) (at (x ∷ xs)) (t ∷ (vs ++ t2 ∷ v))) q (
        record { line = t.line; name = x },
        t ∷ [],
        vs ++ t2 ∷ [],
        (t, new_read (at []) t x p.0 (fresh [] x (xs ++ post) j) c, refl),
        (
          at (x ∷ xs),
          vs,
          t2 ∷ [],
          subst (λ (s : Said). g.more_names true sharing s (at (x ∷ xs)) vs) (sym (puts [] x)) (more_read xs (x ∷ []) post vs p.1 (subst (λ (all : Names). are_apart all ≡ true) (regroup [] x (xs ++ post)) j) n),
          (t2.line, t2 ∷ [], [], (t2, close_read t2 d, refl), (refl, refl), refl),
          refl,
        ),
        refl,
      ))))
