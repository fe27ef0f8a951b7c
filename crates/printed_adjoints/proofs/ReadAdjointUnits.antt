-- The text of a readable adjoint is read as it.
use Rattle.std.proofs.Common.{◌≡◌, ℕ, zero, suc, ◌≤◌, max, true, false, List, [], ◌∷◌, ◌++◌, map, refl, sym, ap, subst, ◌∙◌, append-nil, append_assoc, arith}
use Rattle.std.specs.Prelude.{codes}
use Rattle.std.specs.List.{list_all}
use Rattle.std.proofs.lemmas.Bool.{and_parts}
use Rattle.tokens.specs.Lexeme.{lexeme}
use Rattle.fl_ast.specs.declared.decl.Decl.{Decl}
use Rattle.fl_ast.specs.declared.adjoint.Adjoint.{Adjoint}
use Rattle.fl_ast.specs.declared.adjoint.AStmt.{AStmt}
use Rattle.fl_ast.specs.declared.adjoint.AdjointText.{AdjointText}
use Rattle.fl_ast.specs.AdjointTree.{AdjointStatements, no_adjoint_statements, adjoint_statement, AdjointSubroutine, adjoint_tree, adjoint_text_tree, astmt_tree, astmt_trees}
use Rattle.fl_ast.specs.Readable.{is_readable_decl}
use Rattle.fl_ast.specs.ReadableAdjoint.{IsReadableAdjoint, deepest_in_adjoints}
use Rattle.parsing.specs.Reading.{Lexemes}
use Rattle.parsing.specs.Grammar.{many, where_, times}
use Rattle.fl_parser.specs.UnitGrammar as plain
use Rattle.adjoint_statements.specs.Rooms.{the_limits}
use Rattle.adjoint_statements.specs.Trees.{block_from}
use Rattle.adjoint_parser.specs.Trees.{adjoint_text as text_of}
use Rattle.adjoint_parser.specs.AdjointGrammar as g
use Rattle.fl_printer.specs.Words.{joined, apart, decl_words}
use Rattle.fl_printer.specs.Rows.{subroutine_words, decl_rows, adjoint_block_rows, last_words, last_row as unit_end, adjoint_unit_rows, implicit_row}
use Rattle.fl_printer.specs.Lexemes.{unplaced, words_lexemes, end_lexeme, rows_lexemes}
use Rattle.fl_printer.specs.Small.{are_small, is_small_dim}
use Rattle.fl_printer.specs.Text.{adjoint_text}
use Rattle.fl_printer.proofs.Units.{head_is}
use Rattle.fl_printer.proofs.AdjointUnits.{adjoint_lexed}
use Rattle.printed_blocks.proofs.Cut.{cut, cut_none, cut_rows, cut_row, last_row}
use Rattle.printed_declarations.specs.Declared.{unlined_decl}
use Rattle.printed_declarations.proofs.ReadDecls.{at, decl_read}
use Rattle.printed_programs.proofs.ReadUnits.{IsHead, head_read, IsLast, end_unit_read, both}
use Rattle.printed_adjoint_blocks.specs.AdjointUnlined.{unlined, unlined_all}
use Rattle.printed_adjoint_blocks.specs.AdjointBlocks.{AreBlock}
use Rattle.printed_adjoint_blocks.proofs.ReadAdjointBlocks.{blocks_read}
use Rattle.printed_adjoint_blocks.proofs.AdjointSteps.{blocks_on}
use Rattle.printed_adjoints.specs.Adjoints.{followed_by, as_text, unlined_unit, IsReadBack}

-- ---- declarations, of which there may be any number

record AreDeclared (before : List Decl) (us : Lexemes) (ds : List Decl) : Type 0 where
  news : List Decl
  same : map unlined_decl news ≡ map unlined_decl ds
  reads : many (λ found. where_ (plain.may_declare the_limits found) (plain.decl the_limits found)) before (before ++ news) us

abbrev times_ : ℕ → List Decl → List Decl → Lexemes → Type 0
times_ n = times (λ found. where_ (plain.may_declare the_limits found) (plain.decl the_limits found)) n

decls_read : (before ds : List Decl) (us : Lexemes) → list_all is_readable_decl ds ≡ true → are_small ds ≡ true → map unplaced us ≡ rows_lexemes (decl_rows ds) → AreDeclared before us ds
decls_read before [] us h i e = cut_none us (λ v. AreDeclared before v []) e (record { news = []; same = refl; reads = (zero, (append-nil before, refl)) })
decls_read before (d ∷ ds) us h i e =
    let p = and_parts (is_readable_decl d) (list_all is_readable_decl ds) h in
    let q = and_parts (list_all is_small_dim d.dims) (are_small ds) i in
    cut us (words_lexemes (decl_words d) ++ end_lexeme ∷ []) (rows_lexemes (decl_rows ds)) (λ v. AreDeclared before v (d ∷ ds)) e (λ vs ws m n.
    let A = decl_read the_limits d before vs p.0 q.0 m in
    let B = decls_read (before ++ at d A.line ∷ []) ds ws p.1 q.1 n in
    record {
      news = at d A.line ∷ B.news;
      same = ap (λ v. unlined_decl d ∷ v) B.same;
      reads = (
        suc B.reads.0,
        (
          before ++ at d A.line ∷ [],
          vs,
          ws,
          (refl, A.reads),
          subst (λ (all : List Decl). times_ B.reads.0 (before ++ at d A.line ∷ []) all ws) (append_assoc before (at d A.line ∷ []) B.news) B.reads.1,
          refl,
        ),
      );
    })

-- ---- both parts, one behind the other

trees_on : (xs ys : List AStmt) → astmt_trees (xs ++ ys) ≡ followed_by (astmt_trees xs) (astmt_trees ys)
trees_on [] ys = refl
trees_on (x ∷ xs) ys = ap (λ t. adjoint_statement (astmt_tree x) t) (trees_on xs ys)

unlined_on : (a b : AdjointStatements) → unlined_all (followed_by a b) ≡ followed_by (unlined_all a) (unlined_all b)
unlined_on no_adjoint_statements b = refl
unlined_on (adjoint_statement s rest) b = ap (λ t. adjoint_statement (unlined s) t) (unlined_on rest b)

joined_trees : (xs ys : List AStmt) (a b : AdjointStatements) → unlined_all (astmt_trees xs) ≡ unlined_all a → unlined_all (astmt_trees ys) ≡ unlined_all b → unlined_all (astmt_trees (xs ++ ys)) ≡ unlined_all (followed_by a b)
joined_trees xs ys a b e f =
    ap unlined_all (trees_on xs ys) ∙ unlined_on (astmt_trees xs) (astmt_trees ys) ∙ ap (λ t. followed_by t (unlined_all (astmt_trees ys))) e ∙ ap (λ t. followed_by (unlined_all a) t) f ∙ sym (unlined_on a b)

-- ---- units

record IsUnit (us : Lexemes) (a : AdjointSubroutine) : Type 0 where
  found : AdjointText
  same : unlined_unit (adjoint_text_tree found) ≡ unlined_unit (as_text a)
  reads : g.unit the_limits found us

unit_with : (x1 x2 : List ℕ) (a1 a2 : List (List ℕ)) (d1 d2 : List Decl) (b1 b2 : AdjointStatements) → x1 ≡ x2 → a1 ≡ a2 → map unlined_decl d1 ≡ map unlined_decl d2 → unlined_all b1 ≡ unlined_all b2 →
    unlined_unit (record { name = x1; args = a1; decls = d1; body = b1 }) ≡ unlined_unit (record { name = x2; args = a2; decls = d2; body = b2 })
unit_with x1 x2 a1 a2 d1 d2 b1 b2 e f k l =
    ap (λ x. unlined_unit (record { name = x; args = a1; decls = d1; body = b1 })) e ∙ ap (λ a. unlined_unit (record { name = x2; args = a; decls = d1; body = b1 })) f
    ∙ ap (λ ds. record { name = x2; args = a2; decls = ds; body = unlined_all b1 }) k ∙ ap (λ ss. record { name = x2; args = a2; decls = map unlined_decl d2; body = ss }) l

unit_by : (a : AdjointSubroutine) (hs ds fs rs es : Lexemes) (H : IsHead hs a.name a.args) (D : AreDeclared [] ds a.decls) (F : AreBlock 256 false (block_from 0) fs a.forward) (R : AreBlock 256 false F.behind rs a.reverse) →
    IsLast es a.name → IsUnit (hs ++ (ds ++ ((fs ++ rs) ++ es))) a
unfolding g.unit plain.decls g.body
unit_by a hs ds fs rs es H D F R L =
    let end = subst (λ (x : List ℕ). plain.end_unit x L.line es) (sym H.is_name_) L.reads in
    let whole = blocks_on 256 false (block_from 0) F.behind R.behind fs rs F.reads R.reads in
    let stmts_ = R.added ∙ ap (λ v. v ++ R.news) F.added in
    record {
      found = text_of H.head D.news R.behind;
      same = unit_with H.head.name a.name H.head.args a.args D.news a.decls (astmt_trees R.behind.stmts) (followed_by a.forward a.reverse) H.is_name_ H.is_args D.same
          (ap (λ v. unlined_all (astmt_trees v)) stmts_ ∙ joined_trees F.news R.news a.forward a.reverse F.trees R.trees);
      reads = (H.head, hs, ds ++ ((fs ++ rs) ++ es), H.reads, (D.news, ds, (fs ++ rs) ++ es, D.reads, (R.behind, fs ++ rs, es, whole, (L.line, es, [], end, (refl, refl), sym (append-nil es)), refl), refl), refl);
    }

unit_read : (a : Adjoint) (us : Lexemes) → IsReadableAdjoint a → are_small a.decls ≡ true → max (deepest_in_adjoints (astmt_trees a.forward)) (deepest_in_adjoints (astmt_trees a.reverse)) ≤ 255 →
    map unplaced us ≡ rows_lexemes (adjoint_unit_rows (adjoint_tree a)) → IsUnit us (adjoint_tree a)
unit_read a us r small shallow e =
    let t = adjoint_tree a in
    let f = astmt_trees a.forward in
    let b = astmt_trees a.reverse in
    let rows = head_is a.name a.args a.decls r.name r.args r.decls small in
    let blocks = r.shallow_blocks in
    cut_row us 0 (subroutine_words a.name a.args) (implicit_row ∷ (decl_rows a.decls ++ (adjoint_block_rows 2 f ++ (adjoint_block_rows 2 b ++ unit_end a.name ∷ [])))) (λ v. IsUnit v t) e (λ xs w1 p1 q1.
    cut_row w1 2 (joined (codes "implicit") ∷ apart (codes "none") ∷ []) _ (λ v. IsUnit (xs ++ v) t) q1 (λ ys w2 p2 q2.
    cut_rows w2 (decl_rows a.decls) (adjoint_block_rows 2 f ++ (adjoint_block_rows 2 b ++ unit_end a.name ∷ [])) (λ v. IsUnit (xs ++ (ys ++ v)) t) q2 (λ ds w3 p3 q3.
    cut_rows w3 (adjoint_block_rows 2 f) (adjoint_block_rows 2 b ++ unit_end a.name ∷ []) (λ v. IsUnit (xs ++ (ys ++ (ds ++ v))) t) q3 (λ fs w4 p4 q4.
    cut_rows w4 (adjoint_block_rows 2 b) (unit_end a.name ∷ []) (λ v. IsUnit (xs ++ (ys ++ (ds ++ (fs ++ v)))) t) q4 (λ rs es p5 q5.
    let F = blocks_read f 256 2 false (block_from 0) fs r.forward (omega (arith, shallow)) (omega (arith, blocks)) refl p4 in
    let R = blocks_read b 256 2 false F.behind rs r.reverse (omega (arith, shallow)) (omega (arith, blocks)) refl p5 in
    subst (λ (v : Lexemes). IsUnit v t) (regroup xs ys ds fs rs es)
    (unit_by t (xs ++ ys) ds fs rs es (head_read a.name a.args rows.0.to rows.1.0.to xs ys r.name r.args rows.0.flow rows.1.0.flow p1 p2) (decls_read [] a.decls ds r.decls small p3) F R
    (end_unit_read a.name es r.name (last_row es 0 (last_words a.name) q5))))))))
  where
    regroup : (xs ys ds fs rs es : Lexemes) → (xs ++ ys) ++ (ds ++ ((fs ++ rs) ++ es)) ≡ xs ++ (ys ++ (ds ++ (fs ++ (rs ++ es))))
    regroup xs ys ds fs rs es = simp append_assoc

pub adjoints_read : (a : Adjoint) (text : List ℕ) → IsReadableAdjoint a → are_small a.decls ≡ true → max (deepest_in_adjoints (astmt_trees a.forward)) (deepest_in_adjoints (astmt_trees a.reverse)) ≤ 255 →
    text ≡ adjoint_text (adjoint_tree a) → IsReadBack text (adjoint_tree a)
adjoints_read a text r small shallow e =
    let L = adjoint_lexed a text e r small in
    let U = unit_read a (map (lexeme text) L.0) r small shallow (both text L.0 ∙ L.2) in
    record { tokens = L.0; found = U.found; lexes = L.1; same = U.same; reads = U.reads }
