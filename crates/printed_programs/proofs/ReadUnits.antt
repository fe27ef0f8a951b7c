-- The text of a readable program is read as it.
use Rattle.std.proofs.Common.{◌≡◌, ℕ, zero, suc, ◌+◌, ◌≤◌, Bool, true, false, ◌&&◌, List, [], ◌∷◌, ◌++◌, length, map, Some, Ok, refl, sym, ap, subst, ◌∙◌, inl, inr, append-nil, append_assoc, arith}
use Rattle.std.specs.Prelude.{codes}
use Rattle.std.specs.List.{list_all}
use Rattle.std.proofs.lemmas.Bool.{and_parts}
use Rattle.tokens.specs.declared.Token.{Token}
use Rattle.tokens.specs.Lexeme.{Lexeme, lexeme}
use Rattle.fl_base.specs.Spelling.{is_name}
use Rattle.fl_ast.specs.declared.decl.Decl.{Decl}
use Rattle.fl_ast.specs.declared.stmt.Program.{Program}
use Rattle.fl_ast.specs.Tree.{Subroutine, Statements, program_tree, stmt_trees}
use Rattle.fl_ast.specs.Readable.{is_variable, is_readable_decl, IsReadable}
use Rattle.parsing.specs.declared.symbol.Symbol.TheVariants as s
use Rattle.parsing.specs.declared.cursor.Word.{Word}
use Rattle.parsing.specs.Reading.{Lexemes}
use Rattle.parsing.specs.Terminal.{marked}
use Rattle.fl_lexer.specs.Reading.{lexed as text_lexed}
use Rattle.fl_statements.specs.declared.block.Block.{Block}
use Rattle.fl_statements.specs.Limits.{the_limits}
use Rattle.fl_statements.specs.Trees.{block_from}
use Rattle.fl_parser.specs.declared.unit.UnitHead.{UnitHead}
use Rattle.fl_parser.specs.Trees.{head_of, program}
use Rattle.fl_parser.specs.UnitGrammar as g
use Rattle.fl_printer.specs.declared.spaced.Spaced.{Spaced}
use Rattle.fl_printer.specs.Words.{joined, apart, names_from, bracketed_names}
use Rattle.fl_printer.specs.Rows.{subroutine_words, decl_rows, block_rows, last_words, last_row as unit_end, program_rows, head_rows, implicit_row}
use Rattle.fl_printer.specs.Lexemes.{unplaced, words_lexemes, end_lexeme, rows_lexemes}
use Rattle.fl_printer.specs.Small.{are_small}
use Rattle.fl_printer.specs.Text.{program_text}
use Rattle.fl_printer.proofs.Tokens.{Class, Calm}
use Rattle.fl_printer.proofs.Flow.{Flow}
use Rattle.fl_printer.proofs.Units.{head_is, last_is, program_lexed}
use Rattle.fl_printed.specs.Fits.{Fits}
use Rattle.fl_printed.proofs.Spelled.{name_read}
use Rattle.fl_printed.proofs.Signs.{open_read, close_read, comma_read}
use Rattle.fl_printed.proofs.Lexed.{Lexed, first, none, parts, lexed}
use Rattle.printed_clauses.proofs.ReadDirectives.{last, end_read}
use Rattle.printed_blocks.specs.Unlined.{unlined_all}
use Rattle.printed_blocks.specs.Blocks.{AreBlock}
use Rattle.printed_blocks.proofs.Cut.{cut, cut_rows, cut_row, last_row}
use Rattle.printed_blocks.proofs.Marks.{end_word_read}
use Rattle.printed_blocks.proofs.ReadBlocks.{blocks_read}
use Rattle.printed_declarations.specs.Declared.{unlined_decl, AreDeclared}
use Rattle.printed_declarations.proofs.ReadDecls.{decls_read}
use Rattle.printed_programs.specs.Programs.{unlined_program, IsReadBack}
use Rattle.printed_programs.proofs.UnitMarks.{subroutine_read, implicit_read, none_read, word_read, same_word_read}

-- ---- names of arguments

more_read : (xs found : List (List ℕ)) (us : Lexemes) → list_all is_variable xs ≡ true → Lexed us (names_from true true xs) → g.more_args found (found ++ xs) us
unfolding g.more_args g.another_arg
more_read [] found us h l = none us (λ v. g.more_args found (found ++ []) v) l (zero, (append-nil found, refl))
more_read (x ∷ xs) found us h l =
    let p = and_parts (is_variable x) (list_all is_variable xs) h in
    first us _ _ (λ v. g.more_args found (found ++ x ∷ xs) v) l (λ t1 w1 c1 l1.
    first w1 _ _ (λ v. g.more_args found (found ++ x ∷ xs) (t1 ∷ v)) l1 (λ t2 w2 c2 l2.
    let w : Word = record { line = t2.line; name = x } in
    let more = subst (λ (all : List (List ℕ)). g.more_args (found ++ x ∷ []) all w2) (append_assoc found (x ∷ []) xs) (more_read xs (found ++ x ∷ []) w2 p.1 l2) in (
      suc more.0,
      (
        found ++ x ∷ [],
        t1 ∷ t2 ∷ [],
        w2,
        (refl, (t1.line, t1 ∷ [], t2 ∷ [], (t1, comma_read t1 c1, refl), (w, t2 ∷ [], [], (t2, name_read t2 x p.0 c2, refl), (refl, refl), refl), refl)),
        more.1,
        refl,
      ),
    )))

args_read : (xs : List (List ℕ)) (us : Lexemes) → list_all is_variable xs ≡ true → Lexed us (bracketed_names xs) → g.args xs us
unfolding g.args g.bracketed_args g.listed_args g.some_args
args_read [] us h l =
    first us _ _ (λ v. g.args [] v) l (λ t1 w1 c1 l1.
    first w1 _ _ (λ v. g.args [] (t1 ∷ v)) l1 (λ t2 w2 c2 l2.
    none w2 (λ v. g.args [] (t1 ∷ t2 ∷ v)) l2
    (inl (t1.line, t1 ∷ [], t2 ∷ [], (t1, open_read t1 c1, refl), ([], [], t2 ∷ [], inr (refl, refl), (t2.line, t2 ∷ [], [], (t2, close_read t2 c2, refl), (refl, refl), refl), refl), refl))))
args_read (x ∷ xs) us h l =
    let Goal : Lexemes → Type 0 = g.args (x ∷ xs) in
    let p = and_parts (is_variable x) (list_all is_variable xs) h in
    first us _ _ Goal l (λ t1 w1 c1 l1.
    first w1 _ _ (λ v. Goal (t1 ∷ v)) l1 (λ t2 w2 c2 l2.
    parts w2 (names_from true true xs) (joined (codes ")") ∷ []) (λ v. Goal (t1 ∷ t2 ∷ v)) l2 (λ vs ws m n.
    first ws _ _ (λ v. Goal (t1 ∷ t2 ∷ (vs ++ v))) n (λ t3 w3 c3 l3.
    none w3 (λ v. Goal (t1 ∷ t2 ∷ (vs ++ t3 ∷ v))) l3
    (let w : Word = record { line = t2.line; name = x } in
    inl (
      t1.line,
      t1 ∷ [],
      t2 ∷ (vs ++ t3 ∷ []),
      (t1, open_read t1 c1, refl),
      (
        x ∷ xs,
        t2 ∷ vs,
        t3 ∷ [],
        inl (w, t2 ∷ [], vs, (t2, name_read t2 x p.0 c2, refl), more_read xs (x ∷ []) vs p.1 m, refl),
        (t3.line, t3 ∷ [], [], (t3, close_read t3 c3, refl), (refl, refl), refl),
        refl,
      ),
      refl,
    ))))))

-- ---- the first lines

pub record IsHead (us : Lexemes) (name : List ℕ) (args : List (List ℕ)) : Type 0 where
  pub head : UnitHead
  pub is_name_ : head.name ≡ name
  pub is_args : head.args ≡ args
  pub reads : g.unit_head head us

head_by : (line : ℕ) (name : List ℕ) (args : List (List ℕ)) (t1 t2 e1 t3 t4 e2 : Lexeme) (vs : Lexemes) → is_name name ≡ true → Fits t2 name → marked s.Subroutine t1 ≡ Some t1.line → g.args args vs →
    marked s.LineEnd e1 ≡ Some e1.line → marked s.Implicit t3 ≡ Some t3.line → marked s.NoneWord t4 ≡ Some t4.line → marked s.LineEnd e2 ≡ Some e2.line →
    IsHead (t1 ∷ t2 ∷ (vs ++ e1 ∷ t3 ∷ t4 ∷ e2 ∷ [])) name args
unfolding g.unit_head g.implicit
head_by line name args t1 t2 e1 t3 t4 e2 vs h f a b c d e k =
    let x : Word = record { line = t2.line; name = name } in
    let tail = e1 ∷ t3 ∷ t4 ∷ e2 ∷ [] in
    record {
      head = head_of t1.line x args;
      is_name_ = refl;
      is_args = refl;
      reads = (
        t1.line,
        t1 ∷ [],
        t2 ∷ (vs ++ tail),
        (t1, a, refl),
        (
          x,
          t2 ∷ [],
          vs ++ tail,
          (t2, word_read t2 name h f, refl),
          (
            args,
            vs,
            tail,
            b,
            (
              e1.line,
              e1 ∷ [],
              t3 ∷ t4 ∷ e2 ∷ [],
              (e1, c, refl),
              (
                tt,
                t3 ∷ t4 ∷ e2 ∷ [],
                [],
                inl (t3.line, t3 ∷ [], t4 ∷ e2 ∷ [], (t3, d, refl), (t4.line, t4 ∷ [], e2 ∷ [], (t4, e, refl), (e2.line, e2 ∷ [], [], (e2, k, refl), (refl, refl), refl), refl), refl),
                (refl, refl),
                refl,
              ),
              refl,
            ),
            refl,
          ),
          refl,
        ),
        refl,
      );
    }

pub head_read : (name : List ℕ) (args : List (List ℕ)) (c d : Class) (us vs : Lexemes) → is_name name ≡ true → list_all is_variable args ≡ true → Flow Calm (subroutine_words name args) c → Flow Calm (joined (codes "implicit") ∷ apart (codes "none") ∷ []) d →
    map unplaced us ≡ words_lexemes (subroutine_words name args) ++ end_lexeme ∷ [] → map unplaced vs ≡ words_lexemes (joined (codes "implicit") ∷ apart (codes "none") ∷ []) ++ end_lexeme ∷ [] → IsHead (us ++ vs) name args
head_read name args c d us vs h i f k e j =
    last us (words_lexemes (subroutine_words name args)) end_lexeme (λ v. IsHead (v ++ vs) name args) e (λ xs e1 m n.
    first xs _ _ (λ v. IsHead ((v ++ e1 ∷ []) ++ vs) name args) (lexed xs (subroutine_words name args) Calm c f m) (λ t1 w1 c1 l1.
    first w1 _ _ (λ v. IsHead (((t1 ∷ v) ++ e1 ∷ []) ++ vs) name args) l1 (λ t2 w2 c2 l2.
    last vs (words_lexemes (joined (codes "implicit") ∷ apart (codes "none") ∷ [])) end_lexeme (λ v. IsHead (((t1 ∷ t2 ∷ w2) ++ e1 ∷ []) ++ v) name args) j (λ ys e2 o p.
    first ys _ _ (λ v. IsHead (((t1 ∷ t2 ∷ w2) ++ e1 ∷ []) ++ (v ++ e2 ∷ [])) name args) (lexed ys (joined (codes "implicit") ∷ apart (codes "none") ∷ []) Calm d k o) (λ t3 w3 c3 l3.
    first w3 _ _ (λ v. IsHead (((t1 ∷ t2 ∷ w2) ++ e1 ∷ []) ++ ((t3 ∷ v) ++ e2 ∷ [])) name args) l3 (λ t4 w4 c4 l4.
    none w4 (λ v. IsHead (((t1 ∷ t2 ∷ w2) ++ e1 ∷ []) ++ ((t3 ∷ t4 ∷ v) ++ e2 ∷ [])) name args) l4
    (subst (λ (v : Lexemes). IsHead (t1 ∷ t2 ∷ v) name args) (sym (append_assoc w2 (e1 ∷ []) (t3 ∷ t4 ∷ e2 ∷ [])))
    (head_by t1.line name args t1 t2 e1 t3 t4 e2 w2 h c2 (subroutine_read t1 c1) (args_read args w2 i l2) (end_read e1 n) (implicit_read t3 c3) (none_read t4 c4) (end_read e2 p)))))))))

-- ---- the last line

pub record IsLast (us : Lexemes) (name : List ℕ) : Type 0 where
  pub line : ℕ
  pub reads : g.end_unit name line us

pub end_unit_read : (name : List ℕ) (us : Lexemes) → is_name name ≡ true → map unplaced us ≡ words_lexemes (last_words name) ++ end_lexeme ∷ [] → IsLast us name
unfolding g.end_unit g.end_word g.after_end g.closing
end_unit_read name us h e =
    let row = last_is name h in
    last us (words_lexemes (last_words name)) end_lexeme (λ v. IsLast v name) e (λ vs e1 m n.
    first vs _ _ (λ v. IsLast (v ++ e1 ∷ []) name) (lexed vs (last_words name) Calm row.to row.flow m) (λ t1 w1 c1 l1.
    first w1 _ _ (λ v. IsLast ((t1 ∷ v) ++ e1 ∷ []) name) l1 (λ t2 w2 c2 l2.
    first w2 _ _ (λ v. IsLast ((t1 ∷ t2 ∷ v) ++ e1 ∷ []) name) l2 (λ t3 w3 c3 l3.
    none w3 (λ v. IsLast ((t1 ∷ t2 ∷ t3 ∷ v) ++ e1 ∷ []) name) l3
    (record {
      line = e1.line;
      reads =
          inr (
            t1.line,
            t1 ∷ [],
            t2 ∷ t3 ∷ e1 ∷ [],
            (t1, end_word_read t1 c1, refl),
            inl (t2.line, t2 ∷ [], t3 ∷ e1 ∷ [], (t2, subroutine_read t2 c2, refl), inl (tt, t3 ∷ [], e1 ∷ [], (t3, same_word_read t3 name h c3, refl), (e1, end_read e1 n, refl), refl), refl),
            refl,
          );
    })))))

-- ---- units

record IsUnit (us : Lexemes) (p : Subroutine) : Type 0 where
  found : Program
  same : unlined_program (program_tree found) ≡ unlined_program p
  reads : g.unit the_limits found us

unit_with : (x1 x2 : List ℕ) (a1 a2 : List (List ℕ)) (d1 d2 : List Decl) (b1 b2 : Statements) → x1 ≡ x2 → a1 ≡ a2 → map unlined_decl d1 ≡ map unlined_decl d2 → unlined_all b1 ≡ unlined_all b2 →
    unlined_program (record { name = x1; args = a1; decls = d1; body = b1 }) ≡ unlined_program (record { name = x2; args = a2; decls = d2; body = b2 })
unit_with x1 x2 a1 a2 d1 d2 b1 b2 e f k l =
    ap (λ x. unlined_program (record { name = x; args = a1; decls = d1; body = b1 })) e ∙ ap (λ a. unlined_program (record { name = x2; args = a; decls = d1; body = b1 })) f
    ∙ ap (λ ds. record { name = x2; args = a2; decls = ds; body = unlined_all b1 }) k ∙ ap (λ ss. record { name = x2; args = a2; decls = map unlined_decl d2; body = ss }) l

unit_by : (p : Subroutine) (hs ds bs es : Lexemes) (H : IsHead hs p.name p.args) (D : AreDeclared [] ds p.decls) (B : AreBlock 64 false (block_from 0 0) bs p.body) → IsLast es p.name → IsUnit (hs ++ (ds ++ (bs ++ es))) p
unfolding g.unit g.decls g.body
unit_by p hs ds bs es H D B L =
    let end = subst (λ (x : List ℕ). g.end_unit x L.line es) (sym H.is_name_) L.reads in
    record {
      found = program H.head D.news B.behind;
      same = unit_with H.head.name p.name H.head.args p.args D.news p.decls (stmt_trees B.behind.stmts) p.body H.is_name_ H.is_args D.same (ap (λ v. unlined_all (stmt_trees v)) B.added ∙ B.trees);
      reads = (H.head, hs, ds ++ (bs ++ es), H.reads, (D.news, ds, bs ++ es, D.reads, (B.behind, bs, es, B.reads, (L.line, es, [], end, (refl, refl), sym (append-nil es)), refl), refl), refl);
    }

unit_read : (p : Program) (us : Lexemes) → IsReadable p → are_small p.decls ≡ true → map unplaced us ≡ rows_lexemes (program_rows (program_tree p)) → IsUnit us (program_tree p)
unit_read p us r small e =
    let t = program_tree p in
    let rows = head_is p.name p.args p.decls r.name r.args r.decls small in
    let names = r.few_names in
    let statements = r.few_statements in
    cut_row us 0 (subroutine_words p.name p.args) (implicit_row ∷ (decl_rows t.decls ++ (block_rows 2 t.body ++ unit_end t.name ∷ []))) (λ v. IsUnit v t) e (λ xs w1 p1 q1.
    cut_row w1 2 (joined (codes "implicit") ∷ apart (codes "none") ∷ []) _ (λ v. IsUnit (xs ++ v) t) q1 (λ ys w2 p2 q2.
    cut_rows w2 (decl_rows p.decls) (block_rows 2 (stmt_trees p.body) ++ unit_end p.name ∷ []) (λ v. IsUnit (xs ++ (ys ++ v)) t) q2 (λ ds w3 p3 q3.
    cut_rows w3 (block_rows 2 (stmt_trees p.body)) (unit_end p.name ∷ []) (λ v. IsUnit (xs ++ (ys ++ (ds ++ v))) t) q3 (λ bs es p4 q4.
    subst (λ (v : Lexemes). IsUnit v t) (append_assoc xs ys (ds ++ (bs ++ es)))
    (unit_by t (xs ++ ys) ds bs es (head_read p.name p.args rows.0.to rows.1.0.to xs ys r.name r.args rows.0.flow rows.1.0.flow p1 p2)
    (decls_read [] p.decls ds r.decls small (omega (arith, names)) p3)
    (blocks_read (stmt_trees p.body) 64 2 false (block_from 0 0) bs r.body r.shallow r.shallow_blocks (omega (arith, statements)) r.numbered refl p4)
    (end_unit_read p.name es r.name (last_row es 0 (last_words p.name) q4)))))))

pub both : (text : List ℕ) (ts : List Token) → map unplaced (map (lexeme text) ts) ≡ map (λ t. unplaced (lexeme text t)) ts
both text [] = refl
both text (t ∷ ts) = ap (λ us. unplaced (lexeme text t) ∷ us) (both text ts)

pub programs_read : (p : Program) (text : List ℕ) → IsReadable p → are_small p.decls ≡ true → text ≡ program_text (program_tree p) → IsReadBack text (program_tree p)
programs_read p text r small e =
    let L = program_lexed p text e r small in
    let U = unit_read p (map (lexeme text) L.0) r small (both text L.0 ∙ L.2) in
    record { tokens = L.0; program = U.found; lexes = L.1; same = U.same; reads = U.reads }
