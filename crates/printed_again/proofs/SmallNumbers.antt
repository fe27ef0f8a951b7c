-- The numbers in the declarations of a program that was parsed are small.
use Rattle.std.proofs.Common.{◌≡◌, ℕ, ◌≤◌, Bool, true, false, ◌&&◌, not, List, [], ◌∷◌, ◌++◌, map, refl, sym, ap, ◌∙◌, inl, inr}
use Rattle.std.specs.Prelude.{nat_le, Option, Some, None, if◌then◌else◌}
use Rattle.std.specs.List.{list_all}
use Rattle.std.proofs.lemmas.List.Folds.{list_all-append}
use Rattle.tokens.specs.declared.Token.{Token}
use Rattle.tokens.specs.Lexeme.{lexeme}
use Rattle.tokens.specs.Spelled.{AreSpelled}
use Rattle.fl_ast.specs.declared.decl.Sign.{Sign}
use Rattle.fl_ast.specs.declared.decl.Factor.{Factor}
use Rattle.fl_ast.specs.declared.decl.Factor.TheVariants.{Lit, Minus, Scalar}
use Rattle.fl_ast.specs.declared.decl.Term.{Term}
use Rattle.fl_ast.specs.declared.decl.Bound.{Bound}
use Rattle.fl_ast.specs.declared.decl.Dim.{Dim}
use Rattle.fl_ast.specs.declared.decl.Decl.{Decl}
use Rattle.fl_ast.specs.declared.kind.Kind.{Kind}
use Rattle.fl_ast.specs.declared.kind.Intent.{Intent}
use Rattle.fl_ast.specs.declared.stmt.Program.{Program}
use Rattle.fl_printer.specs.Small.{is_small_factor, is_small_second, is_small_term, is_small_rest, is_small_bound, is_small_dim, are_small}
use Rattle.parsing.specs.declared.symbol.Symbol.TheVariants as s
use Rattle.parsing.specs.declared.cursor.Number.{Number}
use Rattle.parsing.specs.Terminal.{marked, name, number, is_eight, without_eight}
use Rattle.parsing.specs.Grammar.{one}
use Rattle.fl_statements.specs.Limits.{the_limits}
use Rattle.fl_parser.specs.Terminals.{bound_number, bound_sign}
use Rattle.fl_parser.specs.Trees.{term_of, bound_of, dim_of, declared, program}
use Rattle.fl_parser.specs.DimGrammar as g
use Rattle.fl_parser.specs.UnitGrammar as u
use Rattle.fl_expressions.proofs.Holding.{Holds, holds_bind, holds_gives, holds_many, holds_any, lexemes_spelled}

both : (a b : Bool) → a ≡ true → b ≡ true → (a && b) ≡ true
both a b h k = rw (h, k) refl

small_by : (most : ℕ) (n x : Number) (small eight : Bool) → nat_le n.value most ≡ small → (if small && eight then Some n else None) ≡ Some x → nat_le x.value most ≡ true
small_by most n x true true h e = ap (λ (o : Option Number). nat_le (value_of o) most) (sym e) ∙ h
  where
    value_of : Option Number → ℕ
    value_of (Some y) = y.value
    value_of None = 0
small_by most n x true false h e = cc
small_by most n x false eight h e = cc

small_of : (most : ℕ) (o : Option Number) (x : Number) → without_eight most o ≡ Some x → nat_le x.value most ≡ true
small_of most None x e = cc
small_of most (Some n) x e = small_by most n x (nat_le n.value most) (not (is_eight n.suffix)) refl e

small_number : (m : ℕ) → Holds m (one bound_number) (λ x k. nat_le x.value 4294967295 ≡ true)
small_number m x us s n = small_of 4294967295 (number n.0) x n.1

abbrev FactorIs : Factor → ℕ → Type 0
FactorIs f k = is_small_factor f ≡ true

factor_is : (m : ℕ) → Holds m g.bound_factor FactorIs
unfolding g.bound_factor g.name_factor g.number_factor
factor_is m f us sp (inl n) = holds_bind m (one name) _ (λ x k. m ≤ k) FactorIs (holds_any m _) (λ x k h. holds_gives k (Scalar x.name) FactorIs refl) f us sp n
factor_is m f us sp (inr n) = holds_bind m (one bound_number) _ (λ x k. nat_le x.value 4294967295 ≡ true) FactorIs (small_number m) (λ x k h. holds_gives k (Lit x.value) FactorIs h) f us sp n

abbrev SecondIs : Option Factor → ℕ → Type 0
SecondIs f k = is_small_second f ≡ true

second_is : (m : ℕ) → Holds m g.second_factor SecondIs
unfolding g.second_factor
second_is m f us sp (inl n) = holds_bind m (one (marked s.Star)) _ (λ x k. m ≤ k) SecondIs (holds_any m _)
    (λ _ a _. holds_bind a g.bound_factor _ FactorIs SecondIs (factor_is a) (λ f k F. holds_gives k (Some f) SecondIs F)) f us sp n
second_is m f us sp (inr n) = holds_gives m None SecondIs refl f us sp n

abbrev TermIs : Term → ℕ → Type 0
TermIs t k = is_small_term t ≡ true

term_is : (m : ℕ) → Holds m g.bound_term TermIs
unfolding g.bound_term
term_is m = holds_bind m g.bound_factor _ FactorIs TermIs (factor_is m)
    (λ f a F. holds_bind a g.second_factor _ SecondIs TermIs (second_is a) (λ r k R. holds_gives k (term_of f r) TermIs (both _ _ F R)))

first_is : (m : ℕ) → Holds m g.first_term TermIs
unfolding g.first_term g.negative_term
first_is m t us sp (inl n) = holds_bind m (one (marked s.Minus)) _ (λ x k. m ≤ k) TermIs (holds_any m _)
    (λ _ a _. holds_bind a (one bound_number) _ (λ x k. nat_le x.value 4294967295 ≡ true) TermIs (small_number a)
    (λ x b h. holds_bind b g.second_factor _ SecondIs TermIs (second_is b) (λ r k R. holds_gives k (term_of (Minus x.value) r) TermIs (both _ _ h R)))) t us sp n
first_is m t us sp (inr n) = term_is m t us sp n

abbrev RestIs : Option (Sign × Term) → ℕ → Type 0
RestIs r k = is_small_rest r ≡ true

rest_is : (m : ℕ) → Holds m g.other_term RestIs
unfolding g.other_term
rest_is m r us sp (inl n) = holds_bind m (one bound_sign) _ (λ x k. m ≤ k) RestIs (holds_any m _)
    (λ o a _. holds_bind a g.bound_term _ TermIs RestIs (term_is a) (λ t k T. holds_gives k (Some (o, t)) RestIs T)) r us sp n
rest_is m r us sp (inr n) = holds_gives m None RestIs refl r us sp n

abbrev BoundIs : Bound → ℕ → Type 0
BoundIs b k = is_small_bound b ≡ true

bound_is : (m : ℕ) → Holds m g.bound BoundIs
unfolding g.bound
bound_is m = holds_bind m g.first_term _ TermIs BoundIs (first_is m)
    (λ t a T. holds_bind a g.other_term _ RestIs BoundIs (rest_is a) (λ r k R. holds_gives k (bound_of t r) BoundIs (both _ _ T R)))

abbrev DimIs : Dim → ℕ → Type 0
DimIs d k = is_small_dim d ≡ true

dim_is : (m : ℕ) → Holds m g.dim DimIs
unfolding g.dim g.after_bound
dim_is m = holds_bind m g.bound _ BoundIs DimIs (bound_is m) after
  where
    after : (b : Bound) (m : ℕ) → is_small_bound b ≡ true → Holds m (g.after_bound b) DimIs
    after b m B d us sp (inl n) = holds_bind m (one (marked s.Colon)) _ (λ x k. m ≤ k) DimIs (holds_any m _)
        (λ _ a _. holds_bind a g.bound _ BoundIs DimIs (bound_is a) (λ u k U. holds_gives k (dim_of (Some b) u) DimIs (both _ _ B U))) d us sp n
    after b m B d us sp (inr n) = holds_gives m (dim_of None b) DimIs (both _ _ refl B) d us sp n

abbrev AreDims : List Dim → ℕ → Type 0
AreDims ds k = list_all is_small_dim ds ≡ true

shape_is : (m : ℕ) → Holds m g.shape AreDims
unfolding g.shape g.bracketed_dims g.dims g.more_dims g.another_dim
shape_is m ds us sp (inr n) = holds_gives m [] AreDims refl ds us sp n
shape_is m ds us sp (inl n) = holds_bind m (one (marked s.Open)) _ (λ _ a. m ≤ a) AreDims (holds_any m _)
    (λ _ a _. holds_bind a g.dims _ AreDims AreDims (listed a)
    (λ found b h. holds_bind b (one (marked s.Close)) _ (λ _ k. b ≤ k) AreDims (holds_any b _) (λ _ k _. holds_gives k found AreDims h))) ds us sp n
  where
    listed : (m : ℕ) → Holds m g.dims AreDims
    listed m = holds_bind m g.dim _ DimIs AreDims (dim_is m)
        (λ d a D. holds_many (λ ds. true) g.another_dim AreDims
        (λ ds k h _. holds_bind k (one (marked s.Comma)) _ (λ _ b. k ≤ b) AreDims (holds_any k _)
        (λ _ b _. holds_bind b g.dim _ DimIs AreDims (dim_is b)
        (λ e c E. holds_gives c (ds ++ e ∷ []) AreDims (list_all-append is_small_dim ds (e ∷ []) ∙ both _ _ h (both _ _ E refl)))))
        (d ∷ []) a (both _ _ D refl))

-- ---- declarations

abbrev AreDecls : List Decl → ℕ → Type 0
AreDecls ds k = are_small ds ≡ true

declared_small : (ds : List Decl) (line : ℕ) (k : Kind × ℕ) (i : Intent) (x : List ℕ) (dims : List Dim) → list_all is_small_dim dims ≡ true → are_small ds ≡ true →
    are_small (ds ++ record { line = line; name = x; kind = k.0; bytes = k.1; intent = i; dims = dims } ∷ []) ≡ true
declared_small ds line k i x dims h D =
    let d : Decl = record { line = line; name = x; kind = k.0; bytes = k.1; intent = i; dims = dims } in
    list_all-append (λ (d : Decl). list_all is_small_dim d.dims) ds (d ∷ []) ∙ both _ _ D (both _ _ h refl)

item_small : (line : ℕ) (k : Kind × ℕ) (i : Intent) (ds : List Decl) → are_small ds ≡ true → (m : ℕ) → Holds m (u.item line k i ds) AreDecls
unfolding u.item
item_small line k i ds D m = holds_bind m (one name) _ (λ x n. m ≤ n) AreDecls (holds_any m _)
    (λ x a _. holds_bind a g.shape _ AreDims AreDecls (shape_is a)
    (λ dims n h. holds_gives n (declared ds line k i x dims) AreDecls (declared_small ds line k i x.name dims h D)))

decls_small : (m : ℕ) → Holds m (u.decls the_limits) AreDecls
unfolding u.decls u.decl u.items u.another_item
decls_small m = holds_many (u.may_declare the_limits) (u.decl the_limits) AreDecls
    (λ ds a D h. holds_bind a (one (marked s.Integer)) _ (λ _ b. a ≤ b) AreDecls (holds_any a _)
    (λ line b _. holds_bind b u.kind _ (λ _ c. b ≤ c) AreDecls (holds_any b _)
    (λ kind c _. holds_bind c u.intent _ (λ _ e. c ≤ e) AreDecls (holds_any c _)
    (λ i e _. holds_bind e (u.item line kind i ds) _ AreDecls AreDecls (item_small line kind i ds D e)
    (λ first f E. holds_bind f (u.items the_limits line kind i first) _ AreDecls AreDecls
    (holds_many (u.may_declare the_limits) (u.another_item the_limits line kind i) AreDecls
    (λ es k E r. holds_bind k (one (marked s.Comma)) _ (λ _ n. k ≤ n) AreDecls (holds_any k _)
    (λ _ n _. item_small line kind i es E n)) first f E)
    (λ found n F. holds_bind n (one (marked s.LineEnd)) _ (λ _ k. n ≤ k) AreDecls (holds_any n _)
    (λ _ k _. holds_gives k found AreDecls F)))))))
    [] m refl

unit_small : Holds 0 (u.unit the_limits) (λ p k. are_small p.decls ≡ true)
unfolding u.unit
unit_small = holds_bind 0 u.unit_head _ (λ h k. 0 ≤ k) (λ p k. are_small p.decls ≡ true) (holds_any 0 _)
    (λ h e _. holds_bind e (u.decls the_limits) _ AreDecls (λ p k. are_small p.decls ≡ true) (decls_small e)
    (λ ds f D. holds_bind f (u.body the_limits) _ (λ _ k. f ≤ k) (λ p k. are_small p.decls ≡ true) (holds_any f _)
    (λ body n _. holds_bind n (u.end_unit h.name) _ (λ _ k. n ≤ k) (λ p k. are_small p.decls ≡ true) (holds_any n _)
    (λ _ k _. holds_gives k (program h ds body) (λ p k. are_small p.decls ≡ true) D))))

-- A program that a text spells has small numbers.
pub small_by_tokens : (text : List ℕ) (tokens : List Token) (p : Program) → AreSpelled text 0 tokens → u.unit the_limits p (map (lexeme text) tokens) → are_small p.decls ≡ true
small_by_tokens text tokens p spelled n = unit_small p (map (lexeme text) tokens) (lexemes_spelled text 0 tokens spelled) n
