-- The dimensions of readable declarations are read as they are.
use Rattle.std.proofs.Common.{◌≡◌, zero, suc, Bool, true, false, List, [], ◌∷◌, ◌++◌, Option, Some, None, refl, sym, subst, inl, inr, append-nil, append_assoc}
use Rattle.std.specs.Prelude.{codes, nat_le}
use Rattle.std.specs.List.{list_all}
use Rattle.std.proofs.lemmas.Bool.{and_parts}
use Rattle.fl_ast.specs.declared.decl.Sign.{Sign}
use Rattle.fl_ast.specs.declared.decl.Factor.{Factor}
use Rattle.fl_ast.specs.declared.decl.Factor.TheVariants as factor
use Rattle.fl_ast.specs.declared.decl.Term.{Term}
use Rattle.fl_ast.specs.declared.decl.Bound.{Bound}
use Rattle.fl_ast.specs.declared.decl.Dim.{Dim}
use Rattle.fl_ast.specs.Readable.{is_readable_factor, is_readable_second, is_readable_term, is_readable_rest, is_readable_bound, is_readable_lower, is_readable_dim}
use Rattle.parsing.specs.declared.cursor.Word.{Word}
use Rattle.parsing.specs.Reading.{Lexemes}
use Rattle.fl_parser.specs.DimGrammar as g
use Rattle.fl_parser.specs.Trees.{term_of, dim_of}
use Rattle.fl_printer.specs.Words.{joined, factor_words, second_words, term_words, rest_words, bound_words, range_words, dims_from, shape_words}
use Rattle.fl_printer.specs.Small.{is_small_factor, is_small_second, is_small_term, is_small_rest, is_small_bound, is_small_lower, is_small_dim}
use Rattle.fl_printed.proofs.Spelled.{name_read}
use Rattle.fl_printed.proofs.Signs.{open_read, close_read, comma_read, minus_read}
use Rattle.fl_printed.proofs.Lexed.{Lexed, first, none, parts}
use Rattle.fl_printed.proofs.Operators.{plain}
use Rattle.printed_clauses.proofs.Written.{colon_read}
use Rattle.printed_declarations.proofs.DeclMarks.{star_read, sign_read, limit_read}

factor_read : (blank : Bool) (f : Factor) (us : Lexemes) → is_readable_factor false f ≡ true → is_small_factor f ≡ true → Lexed us (factor_words blank f) → g.bound_factor f us
unfolding g.bound_factor g.name_factor g.number_factor
factor_read blank (factor.Lit n) us h i l =
    first us _ _ (λ v. g.bound_factor (factor.Lit n) v) l (λ t rest c m.
    none rest (λ v. g.bound_factor (factor.Lit n) (t ∷ v)) m (inr (plain n, t ∷ [], [], (t, limit_read t n i c, refl), (refl, refl), refl)))
factor_read blank (factor.Minus n) us h i l = absurd (let e : false ≡ true = h in cc)
factor_read blank (factor.Scalar x) us h i l =
    first us _ _ (λ v. g.bound_factor (factor.Scalar x) v) l (λ t rest c m.
    let w : Word = record { line = t.line; name = x } in
    none rest (λ v. g.bound_factor (factor.Scalar x) (t ∷ v)) m (inl (w, t ∷ [], [], (t, name_read t x h c, refl), (refl, refl), refl)))

second_read : (f : Option Factor) (us : Lexemes) → is_readable_second f ≡ true → is_small_second f ≡ true → Lexed us (second_words f) → g.second_factor f us
unfolding g.second_factor
second_read None us h i l = none us (λ v. g.second_factor None v) l (inr (refl, refl))
second_read (Some f) us h i l =
    first us _ _ (λ v. g.second_factor (Some f) v) l (λ t rest c m.
    inl (t.line, t ∷ [], rest, (t, star_read t c, refl), (f, rest, [], factor_read false f rest h i m, (refl, refl), sym (append-nil rest)), refl))

term_read : (blank : Bool) (t : Term) (us : Lexemes) → is_readable_term false t ≡ true → is_small_term t ≡ true → Lexed us (term_words blank t) → g.bound_term t us
unfolding g.bound_term
term_read blank t us h i l =
    let p = and_parts (is_readable_factor false t.first) (is_readable_second t.second) h in
    let q = and_parts (is_small_factor t.first) (is_small_second t.second) i in
    parts us (factor_words blank t.first) (second_words t.second) (g.bound_term t) l (λ vs ws m n.
    (t.first, vs, ws, factor_read blank t.first vs p.0 q.0 m, (t.second, ws, [], second_read t.second ws p.1 q.1 n, (refl, refl), sym (append-nil ws)), refl))

-- the first term of a bound may have a minus
leading_read : (blank : Bool) (f : Factor) (r : Option Factor) (us : Lexemes) → is_readable_term true (term_of f r) ≡ true → is_small_term (term_of f r) ≡ true → Lexed us (term_words blank (term_of f r)) → g.first_term (term_of f r) us
unfolding g.first_term g.negative_term
leading_read blank (factor.Lit n) r us h i l = inr (term_read blank (term_of (factor.Lit n) r) us h i l)
leading_read blank (factor.Scalar x) r us h i l = inr (term_read blank (term_of (factor.Scalar x) r) us h i l)
leading_read blank (factor.Minus n) r us h i l =
    let Goal : Lexemes → Type 0 = g.first_term (term_of (factor.Minus n) r) in
    let q = and_parts (nat_le n 4294967295) (is_small_second r) i in
    first us _ _ Goal l (λ t1 rest c m.
    first rest _ _ (λ v. Goal (t1 ∷ v)) m (λ t2 ws d o.
    inl (
      t1.line,
      t1 ∷ [],
      t2 ∷ ws,
      (t1, minus_read t1 c, refl),
      (plain n, t2 ∷ [], ws, (t2, limit_read t2 n q.0 d, refl), (r, ws, [], second_read r ws h q.1 o, (refl, refl), sym (append-nil ws)), refl),
      refl,
    )))

rest_read : (r : Option (Sign × Term)) (us : Lexemes) → is_readable_rest r ≡ true → is_small_rest r ≡ true → Lexed us (rest_words r) → g.other_term r us
unfolding g.other_term
rest_read None us h i l = none us (λ v. g.other_term None v) l (inr (refl, refl))
rest_read (Some r) us h i l =
    first us _ _ (λ v. g.other_term (Some r) v) l (λ t ws c m.
    inl (r.0, t ∷ [], ws, (t, sign_read r.0 t c, refl), (r.1, ws, [], term_read false r.1 ws h i m, (refl, refl), sym (append-nil ws)), refl))

bound_read : (blank : Bool) (b : Bound) (us : Lexemes) → is_readable_bound b ≡ true → is_small_bound b ≡ true → Lexed us (bound_words blank b) → g.bound b us
unfolding g.bound
bound_read blank b us h i l =
    let p = and_parts (is_readable_term true b.first) (is_readable_rest b.rest) h in
    let q = and_parts (is_small_term b.first) (is_small_rest b.rest) i in
    parts us (term_words blank b.first) (rest_words b.rest) (g.bound b) l (λ vs ws m n.
    (b.first, vs, ws, leading_read blank b.first.first b.first.second vs p.0 q.0 m, (b.rest, ws, [], rest_read b.rest ws p.1 q.1 n, (refl, refl), sym (append-nil ws)), refl))

range_read : (blank : Bool) (lower : Option Bound) (upper : Bound) (us : Lexemes) → is_readable_lower lower ≡ true → is_readable_bound upper ≡ true → is_small_lower lower ≡ true → is_small_bound upper ≡ true →
    Lexed us (range_words blank lower upper) → g.dim (dim_of lower upper) us
unfolding g.dim g.after_bound
range_read blank None upper us h i j k l = (upper, us, [], bound_read blank upper us i k l, inr (refl, refl), sym (append-nil us))
range_read blank (Some lower) upper us h i j k l =
    parts us (bound_words blank lower) (joined (codes ":") ∷ bound_words false upper) (g.dim (dim_of (Some lower) upper)) l (λ vs ws m n.
    first ws _ _ (λ v. g.dim (dim_of (Some lower) upper) (vs ++ v)) n (λ t rest c o.
    (lower, vs, t ∷ rest, bound_read blank lower vs h j m, inl (t.line, t ∷ [], rest, (t, colon_read t c, refl), (upper, rest, [], bound_read false upper rest i k o, (refl, refl), sym (append-nil rest)), refl), refl)))

dim_read : (blank : Bool) (d : Dim) (us : Lexemes) → is_readable_dim d ≡ true → is_small_dim d ≡ true → Lexed us (range_words blank d.lower d.upper) → g.dim d us
dim_read blank d us h i l =
    let p = and_parts (is_readable_lower d.lower) (is_readable_bound d.upper) h in
    let q = and_parts (is_small_lower d.lower) (is_small_bound d.upper) i in
    range_read blank d.lower d.upper us p.0 p.1 q.0 q.1 l

more_read : (ds found : List Dim) (us : Lexemes) → list_all is_readable_dim ds ≡ true → list_all is_small_dim ds ≡ true → Lexed us (dims_from true ds) → g.more_dims found (found ++ ds) us
unfolding g.more_dims g.another_dim
more_read [] found us h i l = none us (λ v. g.more_dims found (found ++ []) v) l (zero, (append-nil found, refl))
more_read (d ∷ ds) found us h i l =
    let p = and_parts (is_readable_dim d) (list_all is_readable_dim ds) h in
    let q = and_parts (is_small_dim d) (list_all is_small_dim ds) i in
    first us _ _ (λ v. g.more_dims found (found ++ d ∷ ds) v) l (λ t rest c m.
    parts rest (range_words true d.lower d.upper) (dims_from true ds) (λ v. g.more_dims found (found ++ d ∷ ds) (t ∷ v)) m (λ vs ws n o.
    let more = subst (λ (all : List Dim). g.more_dims (found ++ d ∷ []) all ws) (append_assoc found (d ∷ []) ds) (more_read ds (found ++ d ∷ []) ws p.1 q.1 o) in (
      suc more.0,
      (
        found ++ d ∷ [],
        t ∷ vs,
        ws,
        (refl, (t.line, t ∷ [], vs, (t, comma_read t c, refl), (d, vs, [], dim_read true d vs p.0 q.0 n, (refl, refl), sym (append-nil vs)), refl)),
        more.1,
        refl,
      ),
    )))

dims_read : (d : Dim) (ds : List Dim) (us : Lexemes) → list_all is_readable_dim (d ∷ ds) ≡ true → list_all is_small_dim (d ∷ ds) ≡ true → Lexed us (dims_from false (d ∷ ds)) → g.dims (d ∷ ds) us
unfolding g.dims
dims_read d ds us h i l =
    let p = and_parts (is_readable_dim d) (list_all is_readable_dim ds) h in
    let q = and_parts (is_small_dim d) (list_all is_small_dim ds) i in
    parts us (range_words false d.lower d.upper) (dims_from true ds) (g.dims (d ∷ ds)) l (λ vs ws m n.
    (d, vs, ws, dim_read false d vs p.0 q.0 m, more_read ds (d ∷ []) ws p.1 q.1 n, refl))

pub shape_read : (ds : List Dim) (us : Lexemes) → list_all is_readable_dim ds ≡ true → list_all is_small_dim ds ≡ true → Lexed us (shape_words ds) → g.shape ds us
unfolding g.shape g.bracketed_dims
shape_read [] us h i l = none us (λ v. g.shape [] v) l (inr (refl, refl))
shape_read (d ∷ ds) us h i l =
    let Goal : Lexemes → Type 0 = g.shape (d ∷ ds) in
    first us _ _ Goal l (λ t1 rest c m.
    parts rest (dims_from false (d ∷ ds)) (joined (codes ")") ∷ []) (λ v. Goal (t1 ∷ v)) m (λ vs ws n o.
    first ws _ _ (λ v. Goal (t1 ∷ (vs ++ v))) o (λ t2 end e p.
    none end (λ v. Goal (t1 ∷ (vs ++ t2 ∷ v))) p
    (inl (
      t1.line,
      t1 ∷ [],
      vs ++ t2 ∷ [],
      (t1, open_read t1 c, refl),
      (d ∷ ds, vs, t2 ∷ [], dims_read d ds vs h i n, (t2.line, t2 ∷ [], [], (t2, close_read t2 e, refl), (refl, refl), refl), refl),
      refl,
    )))))
