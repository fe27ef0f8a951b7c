-- The rows of readable declarations are read as them.
use Rattle.std.proofs.Common.{Some, ◌≡◌, ℕ, zero, suc, ◌+◌, ◌≤◌, Bool, true, false, ◌&&◌, ◌||◌, nat_le, List, [], ◌∷◌, ◌++◌, length, map, refl, sym, ap, subst, inl, inr, append-nil, append_assoc, arith}
use Rattle.std.specs.Prelude.{codes, decimal, ◌==◌}
use Rattle.std.specs.List.{list_all}
use Rattle.std.proofs.lemmas.Bool.{and_parts}
use Rattle.std.proofs.lemmas.Bool.Decides.{nat_tests}
use Rattle.tokens.specs.Lexeme.{Lexeme}
use Rattle.fl_ast.specs.declared.kind.Kind.{Kind}
use Rattle.fl_ast.specs.declared.kind.Kind.TheVariants as kind
use Rattle.fl_ast.specs.declared.kind.Intent.{Intent}
use Rattle.fl_ast.specs.declared.kind.Intent.TheVariants as intent
use Rattle.fl_ast.specs.declared.decl.Decl.{Decl}
use Rattle.fl_ast.specs.Readable.{is_variable, is_size_of, is_readable_dim, is_readable_decl}
use Rattle.parsing.specs.declared.symbol.Symbol.TheVariants as s
use Rattle.parsing.specs.declared.cursor.Word.{Word}
use Rattle.parsing.specs.Reading.{Lexemes}
use Rattle.parsing.specs.Terminal.{marked}
use Rattle.parsing.specs.Grammar.{times, where_}
use Rattle.fl_statements.specs.Limits.{Limits, the_limits}
use Rattle.fl_parser.specs.UnitGrammar as g
use Rattle.fl_printer.specs.declared.spaced.Spaced.{Spaced}
use Rattle.fl_printer.specs.Words.{joined, apart, intent_words, kind_words, shape_words, decl_words}
use Rattle.fl_printer.specs.Rows.{decl_rows}
use Rattle.fl_printer.specs.Lexemes.{unplaced, words_lexemes, end_lexeme, rows_lexemes}
use Rattle.fl_printer.specs.Small.{are_small, is_small_dim}
use Rattle.fl_printer.proofs.Tokens.{Calm}
use Rattle.fl_printer.proofs.Units.{decls_are}
use Rattle.fl_printed.specs.Fits.{Fits}
use Rattle.fl_printed.proofs.Spelled.{name_read}
use Rattle.fl_printed.proofs.Signs.{open_read, close_read, comma_read}
use Rattle.fl_printed.proofs.Lexed.{Lexed, first, lexed}
use Rattle.printed_clauses.proofs.ReadDirectives.{last, end_read}
use Rattle.printed_blocks.proofs.Cut.{cut, cut_none}
use Rattle.printed_declarations.specs.Declared.{unlined_decl, AreDeclared}
use Rattle.printed_declarations.proofs.DeclMarks.{colons_read, equals_read, integer_read, kind_read, intent_read, in_read, out_read, inout_read, one_read, two_read, four_read, eight_read}
use Rattle.printed_declarations.proofs.ReadDims.{shape_read}

-- ---- kinds

is_number : (m n : ℕ) → (m == n) ≡ true → m ≡ n
is_number m n h = grind (arith, nat_tests)

by_four : (bytes : ℕ) (t : Lexeme) → bytes ≡ 4 → Fits t (decimal bytes) → g.kind_value (kind.Index, bytes) (t ∷ [])
unfolding g.kind_value
by_four bytes t e f =
    subst (λ (b : ℕ). g.kind_value (kind.Index, b) (t ∷ [])) (sym e) (inr (inr (t, four_read t (subst (λ (b : ℕ). Fits t (decimal b)) e f), refl)))

by_one : (bytes : ℕ) (t : Lexeme) → bytes ≡ 1 → Fits t (decimal bytes) → g.kind_value (kind.Ring, bytes) (t ∷ [])
unfolding g.kind_value g.one_byte
by_one bytes t e f =
    subst (λ (b : ℕ). g.kind_value (kind.Ring, b) (t ∷ [])) (sym e) (inl (tt, t ∷ [], [], (t, one_read t (subst (λ (b : ℕ). Fits t (decimal b)) e f), refl), (refl, refl), refl))

by_two : (bytes : ℕ) (t : Lexeme) → bytes ≡ 2 → Fits t (decimal bytes) → g.kind_value (kind.Ring, bytes) (t ∷ [])
unfolding g.kind_value g.two_bytes
by_two bytes t e f =
    subst (λ (b : ℕ). g.kind_value (kind.Ring, b) (t ∷ [])) (sym e) (inr (inl (tt, t ∷ [], [], (t, two_read t (subst (λ (b : ℕ). Fits t (decimal b)) e f), refl), (refl, refl), refl)))

by_eight : (bytes : ℕ) (t : Lexeme) → bytes ≡ 8 → Fits t (decimal bytes) → g.kind_value (kind.Ring, bytes) (t ∷ [])
unfolding g.kind_value
by_eight bytes t e f =
    subst (λ (b : ℕ). g.kind_value (kind.Ring, b) (t ∷ [])) (sym e) (inr (inr (t, eight_read t (subst (λ (b : ℕ). Fits t (decimal b)) e f), refl)))

value_read : (k : Kind) (bytes : ℕ) (t : Lexeme) → is_size_of k bytes ≡ true → Fits t (decimal bytes) → g.kind_value (k, bytes) (t ∷ [])
value_read kind.Index bytes t h f = by_four bytes t (is_number bytes 4 h) f
value_read kind.Ring bytes t h f = by (bytes == 1) (bytes == 2) refl refl h
  where
    by : (a b : Bool) → (bytes == 1) ≡ a → (bytes == 2) ≡ b → (a || (b || (bytes == 8))) ≡ true → g.kind_value (kind.Ring, bytes) (t ∷ [])
    by true b e d o = by_one bytes t (is_number bytes 1 e) f
    by false true e d o = by_two bytes t (is_number bytes 2 d) f
    by false false e d o = by_eight bytes t (is_number bytes 8 o) f

-- the words of a kind before others
kind_back : (k : Kind) (bytes : ℕ) (us : Lexemes) (ws : List Spaced) (G : Lexemes → Type 0) → is_size_of k bytes ≡ true → Lexed us (kind_words bytes ++ ws) →
    ((t : Lexeme) (vs more : Lexemes) → marked s.Integer t ≡ Some t.line → g.kind (k, bytes) vs → Lexed more ws → G (t ∷ (vs ++ more))) → G us
unfolding g.kind g.kind_brackets g.kind_word
kind_back k bytes us ws G h l use_ =
    first us _ _ G l (λ t1 w1 c1 l1.
    first w1 _ _ (λ v. G (t1 ∷ v)) l1 (λ t2 w2 c2 l2.
    first w2 _ _ (λ v. G (t1 ∷ t2 ∷ v)) l2 (λ t3 w3 c3 l3.
    first w3 _ _ (λ v. G (t1 ∷ t2 ∷ t3 ∷ v)) l3 (λ t4 w4 c4 l4.
    first w4 _ _ (λ v. G (t1 ∷ t2 ∷ t3 ∷ t4 ∷ v)) l4 (λ t5 w5 c5 l5.
    first w5 _ _ (λ v. G (t1 ∷ t2 ∷ t3 ∷ t4 ∷ t5 ∷ v)) l5 (λ t6 w6 c6 l6.
    use_ t1 (t2 ∷ t3 ∷ t4 ∷ t5 ∷ t6 ∷ []) w6 (integer_read t1 c1)
    (inl (
      t2.line,
      t2 ∷ [],
      t3 ∷ t4 ∷ t5 ∷ t6 ∷ [],
      (t2, open_read t2 c2, refl),
      (
        tt,
        t3 ∷ t4 ∷ [],
        t5 ∷ t6 ∷ [],
        inl (t3.line, t3 ∷ [], t4 ∷ [], (t3, kind_read t3 c3, refl), (t4.line, t4 ∷ [], [], (t4, equals_read t4 c4, refl), (refl, refl), refl), refl),
        ((k, bytes), t5 ∷ [], t6 ∷ [], value_read k bytes t5 h c5, (t6.line, t6 ∷ [], [], (t6, close_read t6 c6, refl), (refl, refl), refl), refl),
        refl,
      ),
      refl,
    )) l6))))))

-- ---- intents

-- a direction in its brackets, with what stands around it
intent_by : (i : Intent) (t1 t2 t3 t4 t5 t6 : Lexeme) → g.direction i (t4 ∷ []) → marked s.Comma t1 ≡ Some t1.line → marked s.Intent t2 ≡ Some t2.line → marked s.Open t3 ≡ Some t3.line →
    marked s.Close t5 ≡ Some t5.line → marked s.Colons t6 ≡ Some t6.line → g.intent i (t1 ∷ t2 ∷ t3 ∷ t4 ∷ t5 ∷ t6 ∷ [])
unfolding g.intent g.intent_list
intent_by i t1 t2 t3 t4 t5 t6 d a b c e f =
    inl (
      t1.line,
      t1 ∷ [],
      t2 ∷ t3 ∷ t4 ∷ t5 ∷ t6 ∷ [],
      (t1, a, refl),
      (
        t2.line,
        t2 ∷ [],
        t3 ∷ t4 ∷ t5 ∷ t6 ∷ [],
        (t2, b, refl),
        (
          t3.line,
          t3 ∷ [],
          t4 ∷ t5 ∷ t6 ∷ [],
          (t3, c, refl),
          (i, t4 ∷ [], t5 ∷ t6 ∷ [], d, (t5.line, t5 ∷ [], t6 ∷ [], (t5, e, refl), (t6.line, t6 ∷ [], [], (t6, f, refl), (refl, refl), refl), refl), refl),
          refl,
        ),
        refl,
      ),
      refl,
    )

said_back : (i : Intent) (text : List ℕ) (us : Lexemes) (ws : List Spaced) (G : Lexemes → Type 0) → ((t : Lexeme) → Fits t text → g.direction i (t ∷ [])) →
    Lexed us (joined (codes ",") ∷ apart (codes "intent") ∷ joined (codes "(") ∷ joined text ∷ joined (codes ")") ∷ apart (codes "::") ∷ ws) →
    ((vs more : Lexemes) → g.intent i vs → Lexed more ws → G (vs ++ more)) → G us
said_back i text us ws G d l use_ =
    first us _ _ G l (λ t1 w1 c1 l1.
    first w1 _ _ (λ v. G (t1 ∷ v)) l1 (λ t2 w2 c2 l2.
    first w2 _ _ (λ v. G (t1 ∷ t2 ∷ v)) l2 (λ t3 w3 c3 l3.
    first w3 _ _ (λ v. G (t1 ∷ t2 ∷ t3 ∷ v)) l3 (λ t4 w4 c4 l4.
    first w4 _ _ (λ v. G (t1 ∷ t2 ∷ t3 ∷ t4 ∷ v)) l4 (λ t5 w5 c5 l5.
    first w5 _ _ (λ v. G (t1 ∷ t2 ∷ t3 ∷ t4 ∷ t5 ∷ v)) l5 (λ t6 w6 c6 l6.
    use_ (t1 ∷ t2 ∷ t3 ∷ t4 ∷ t5 ∷ t6 ∷ []) w6
    (intent_by i t1 t2 t3 t4 t5 t6 (d t4 c4) (comma_read t1 c1) (intent_read t2 c2) (open_read t3 c3) (close_read t5 c5) (colons_read t6 c6)) l6))))))

is_in : (t : Lexeme) → Fits t (codes "in") → g.direction intent.ReadOnly (t ∷ [])
unfolding g.direction g.inward g.and_out
is_in t f = inl (t.line, t ∷ [], [], (t, in_read t f, refl), inr (refl, refl), refl)

is_out : (t : Lexeme) → Fits t (codes "out") → g.direction intent.WriteOnly (t ∷ [])
unfolding g.direction g.outward
is_out t f = inr (inl (t.line, t ∷ [], [], (t, out_read t f, refl), (refl, refl), refl))

is_inout : (t : Lexeme) → Fits t (codes "inout") → g.direction intent.Both (t ∷ [])
unfolding g.direction g.outward
is_inout t f = inr (inr (t.line, t ∷ [], [], (t, inout_read t f, refl), (refl, refl), refl))

intent_back : (i : Intent) (us : Lexemes) (ws : List Spaced) (G : Lexemes → Type 0) → Lexed us (intent_words i ++ (apart (codes "::") ∷ ws)) → ((vs more : Lexemes) → g.intent i vs → Lexed more ws → G (vs ++ more)) → G us
unfolding g.intent g.colons
intent_back intent.Unsaid us ws G l use_ =
    first us _ _ G l (λ t more c m. use_ (t ∷ []) more (inr (inl (t.line, t ∷ [], [], (t, colons_read t c, refl), (refl, refl), refl))) m)
intent_back intent.ReadOnly us ws G l use_ = said_back intent.ReadOnly (codes "in") us ws G is_in l use_
intent_back intent.WriteOnly us ws G l use_ = said_back intent.WriteOnly (codes "out") us ws G is_out l use_
intent_back intent.Both us ws G l use_ = said_back intent.Both (codes "inout") us ws G is_inout l use_

-- ---- declarations

-- a declaration at a line
abbrev pub at : Decl → ℕ → Decl
at d l = record d { line = l }

-- within any limits
pub record IsDeclared (limits : Limits) (before : List Decl) (us : Lexemes) (d : Decl) : Type 0 where
  pub line : ℕ
  pub reads : g.decl limits before (before ++ at d line ∷ []) us

item_read : (d : Decl) (line : ℕ) (before : List Decl) (t : Lexeme) (us : Lexemes) → is_variable d.name ≡ true → list_all is_readable_dim d.dims ≡ true → list_all is_small_dim d.dims ≡ true → Fits t d.name → Lexed us (shape_words d.dims) →
    g.item line (d.kind, d.bytes) d.intent before (before ++ at d line ∷ []) (t ∷ us)
unfolding g.item
item_read d line before t us h i j f l =
    let x : Word = record { line = t.line; name = d.name } in
    (x, t ∷ [], us, (t, name_read t d.name h f, refl), (d.dims, us, [], shape_read d.dims us i j l, (refl, refl), sym (append-nil us)), refl)

decl_by : (limits : Limits) (d : Decl) (before : List Decl) (t e : Lexeme) (ks is items : Lexemes) → marked s.Integer t ≡ Some t.line → g.kind (d.kind, d.bytes) ks → g.intent d.intent is →
    g.item t.line (d.kind, d.bytes) d.intent before (before ++ at d t.line ∷ []) items → marked s.LineEnd e ≡ Some e.line →
    g.decl limits before (before ++ at d t.line ∷ []) (t ∷ (ks ++ (is ++ (items ++ e ∷ []))))
unfolding g.decl g.items
decl_by limits d before t e ks is items a b c i n =
    let found = before ++ at d t.line ∷ [] in (
      t.line,
      t ∷ [],
      ks ++ (is ++ (items ++ e ∷ [])),
      (t, a, refl),
      (
        (d.kind, d.bytes),
        ks,
        is ++ (items ++ e ∷ []),
        b,
        (d.intent, is, items ++ e ∷ [], c, (found, items, e ∷ [], i, (found, [], e ∷ [], (zero, (refl, refl)), (e.line, e ∷ [], [], (e, n, refl), (refl, refl), refl), refl), refl), refl),
        refl,
      ),
      refl,
    )

pub decl_read : (limits : Limits) (d : Decl) (before : List Decl) (us : Lexemes) → is_readable_decl d ≡ true → list_all is_small_dim d.dims ≡ true → map unplaced us ≡ words_lexemes (decl_words d) ++ end_lexeme ∷ [] → IsDeclared limits before us d
decl_read limits d before us h i e =
    let p = and_parts (is_variable d.name) (is_size_of d.kind d.bytes && list_all is_readable_dim d.dims) h in
    let q = and_parts (is_size_of d.kind d.bytes) (list_all is_readable_dim d.dims) p.1 in
    let rows = decls_are (d ∷ []) (and_true h) (and_true i) in
    last us (words_lexemes (decl_words d)) end_lexeme (λ v. IsDeclared limits before v d) e (λ vs end m n.
    kind_back d.kind d.bytes vs (intent_words d.intent ++ (apart (codes "::") ∷ apart d.name ∷ shape_words d.dims)) (λ v. IsDeclared limits before (v ++ end ∷ []) d) q.0
    (lexed vs (decl_words d) Calm rows.0.to rows.0.flow m) (λ t ks w1 a b l1.
    intent_back d.intent w1 (apart d.name ∷ shape_words d.dims) (λ v. IsDeclared limits before ((t ∷ (ks ++ v)) ++ end ∷ []) d) l1 (λ is w2 c l2.
    first w2 _ _ (λ v. IsDeclared limits before ((t ∷ (ks ++ (is ++ v))) ++ end ∷ []) d) l2 (λ t2 shape f l3.
    subst (λ (v : Lexemes). IsDeclared limits before v d) (regroup t end ks is (t2 ∷ shape))
    (record { line = t.line; reads = decl_by limits d before t end ks is (t2 ∷ shape) a b c (item_read d t.line before t2 shape p.0 q.1 i f l3) (end_read end n) })))))
  where
    and_true : {b : Bool} → b ≡ true → (b && true) ≡ true
    and_true {b} h = ap (λ t. t && true) h

    regroup : (t e : Lexeme) (ks is items : Lexemes) → t ∷ (ks ++ (is ++ (items ++ e ∷ []))) ≡ (t ∷ (ks ++ (is ++ items))) ++ e ∷ []
    regroup t e ks is items = simp append_assoc

-- ---- lists

abbrev times_ : ℕ → List Decl → List Decl → Lexemes → Type 0
times_ n = times (λ found. where_ (g.may_declare the_limits found) (g.decl the_limits found)) n

pub more_length : (ds : List Decl) (d : Decl) → length (ds ++ d ∷ []) ≡ length ds + 1
more_length [] d = omega arith
more_length (x ∷ ds) d = let h = more_length ds d in omega (arith, h)

le : (m : ℕ) → m ≤ 512 → nat_le m 512 ≡ true
le m h = grind (arith, nat_tests)

pub decls_read : (before ds : List Decl) (us : Lexemes) → list_all is_readable_decl ds ≡ true → are_small ds ≡ true → length before + length ds ≤ 512 → map unplaced us ≡ rows_lexemes (decl_rows ds) → AreDeclared before us ds
decls_read before [] us h i k e = cut_none us (λ v. AreDeclared before v []) e (record { news = []; same = refl; reads = (zero, (append-nil before, refl)) })
decls_read before (d ∷ ds) us h i k e =
    let p = and_parts (is_readable_decl d) (list_all is_readable_decl ds) h in
    let q = and_parts (list_all is_small_dim d.dims) (are_small ds) i in
    cut us (words_lexemes (decl_words d) ++ end_lexeme ∷ []) (rows_lexemes (decl_rows ds)) (λ v. AreDeclared before v (d ∷ ds)) e (λ vs ws m n.
    let A = decl_read the_limits d before vs p.0 q.0 m in
    let l = more_length before (at d A.line) in
    let B = decls_read (before ++ at d A.line ∷ []) ds ws p.1 q.1 (omega (arith, k, l)) n in
    record {
      news = at d A.line ∷ B.news;
      same = ap (λ v. unlined_decl d ∷ v) B.same;
      reads = (
        suc B.reads.0,
        (
          before ++ at d A.line ∷ [],
          vs,
          ws,
          (le (length before + 1) (omega (arith, k)), A.reads),
          subst (λ (all : List Decl). times_ B.reads.0 (before ++ at d A.line ∷ []) all ws) (append_assoc before (at d A.line ∷ []) B.news) B.reads.1,
          refl,
        ),
      );
    })
