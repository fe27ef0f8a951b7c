-- Dimensions in the grammar are readable.
use Rattle.std.proofs.Common.{◌≡◌, ℕ, ◌≤◌, Bool, true, false, ◌&&◌, List, [], ◌∷◌, ◌++◌, Some, None, refl, ◌∙◌, inl, inr}
use Rattle.std.specs.Prelude.{Option}
use Rattle.std.specs.List.{list_all}
use Rattle.std.proofs.lemmas.List.Folds.{list_all-append}
use Rattle.fl_ast.specs.declared.decl.Sign.{Sign}
use Rattle.fl_ast.specs.declared.decl.Factor.{Factor}
use Rattle.fl_ast.specs.declared.decl.Factor.TheVariants.{Lit, Minus, Scalar}
use Rattle.fl_ast.specs.declared.decl.Term.{Term}
use Rattle.fl_ast.specs.declared.decl.Bound.{Bound}
use Rattle.fl_ast.specs.declared.decl.Dim.{Dim}
use Rattle.fl_ast.specs.Readable.{is_variable, is_readable_factor, is_readable_second, is_readable_term, is_readable_rest, is_readable_bound, is_readable_dim}
use Rattle.parsing.specs.declared.symbol.Symbol.TheVariants as s
use Rattle.parsing.specs.Terminal.{marked, name}
use Rattle.parsing.specs.Grammar.{one}
use Rattle.fl_parser.specs.Terminals.{bound_number, bound_sign}
use Rattle.fl_parser.specs.Trees.{term_of, bound_of, dim_of}
use Rattle.fl_parser.specs.DimGrammar as g
use Rattle.fl_expressions.proofs.Holding.{Holds, holds_bind, holds_gives, holds_many, holds_any, holds_name}

both : (a b : Bool) → a ≡ true → b ≡ true → (a && b) ≡ true
both a b h k = rw (h, k) refl

abbrev FactorIs : Factor → ℕ → Type 0
FactorIs f k = (is_readable_factor false f ≡ true) × (is_readable_factor true f ≡ true)

factor_is : (m : ℕ) → Holds m g.bound_factor FactorIs
unfolding g.bound_factor g.name_factor g.number_factor
factor_is m f us sp (inl n) = holds_bind m (one name) _ (λ x k. is_variable x.name ≡ true) FactorIs (holds_name m) (λ x k h. holds_gives k (Scalar x.name) FactorIs (h, h)) f us sp n
factor_is m f us sp (inr n) = holds_bind m (one bound_number) _ (λ x k. m ≤ k) FactorIs (holds_any m _) (λ x k h. holds_gives k (Lit x.value) FactorIs (refl, refl)) f us sp n

abbrev SecondIs : Option Factor → ℕ → Type 0
SecondIs f k = is_readable_second f ≡ true

second_is : (m : ℕ) → Holds m g.second_factor SecondIs
unfolding g.second_factor
second_is m f us sp (inl n) = holds_bind m (one (marked s.Star)) _ (λ x k. m ≤ k) SecondIs (holds_any m _)
    (λ _ a _. holds_bind a g.bound_factor _ FactorIs SecondIs (factor_is a) (λ f k F. holds_gives k (Some f) SecondIs F.0)) f us sp n
second_is m f us sp (inr n) = holds_gives m None SecondIs refl f us sp n

abbrev TermIs : Term → ℕ → Type 0
TermIs t k = (is_readable_term false t ≡ true) × (is_readable_term true t ≡ true)

term_is : (m : ℕ) → Holds m g.bound_term TermIs
unfolding g.bound_term
term_is m = holds_bind m g.bound_factor _ FactorIs TermIs (factor_is m)
    (λ f a F. holds_bind a g.second_factor _ SecondIs TermIs (second_is a) (λ r k R. holds_gives k (term_of f r) TermIs (both _ _ F.0 R, both _ _ F.1 R)))

abbrev FirstIs : Term → ℕ → Type 0
FirstIs t k = is_readable_term true t ≡ true

first_is : (m : ℕ) → Holds m g.first_term FirstIs
unfolding g.first_term g.negative_term
first_is m t us sp (inl n) = holds_bind m (one (marked s.Minus)) _ (λ x k. m ≤ k) FirstIs (holds_any m _)
    (λ _ a _. holds_bind a (one bound_number) _ (λ x k. a ≤ k) FirstIs (holds_any a _)
    (λ x b _. holds_bind b g.second_factor _ SecondIs FirstIs (second_is b) (λ r k R. holds_gives k (term_of (Minus x.value) r) FirstIs (both _ _ refl R)))) t us sp n
first_is m t us sp (inr n) = (term_is m t us sp n).1

abbrev RestIs : Option (Sign × Term) → ℕ → Type 0
RestIs r k = is_readable_rest r ≡ true

rest_is : (m : ℕ) → Holds m g.other_term RestIs
unfolding g.other_term
rest_is m r us sp (inl n) = holds_bind m (one bound_sign) _ (λ x k. m ≤ k) RestIs (holds_any m _)
    (λ o a _. holds_bind a g.bound_term _ TermIs RestIs (term_is a) (λ t k T. holds_gives k (Some (o, t)) RestIs T.0)) r us sp n
rest_is m r us sp (inr n) = holds_gives m None RestIs refl r us sp n

abbrev BoundIs : Bound → ℕ → Type 0
BoundIs b k = is_readable_bound b ≡ true

bound_is : (m : ℕ) → Holds m g.bound BoundIs
unfolding g.bound
bound_is m = holds_bind m g.first_term _ FirstIs BoundIs (first_is m)
    (λ t a T. holds_bind a g.other_term _ RestIs BoundIs (rest_is a) (λ r k R. holds_gives k (bound_of t r) BoundIs (both _ _ T R)))

abbrev DimIs : Dim → ℕ → Type 0
DimIs d k = is_readable_dim d ≡ true

dim_is : (m : ℕ) → Holds m g.dim DimIs
unfolding g.dim g.after_bound
dim_is m = holds_bind m g.bound _ BoundIs DimIs (bound_is m) after
  where
    after : (b : Bound) (m : ℕ) → is_readable_bound b ≡ true → Holds m (g.after_bound b) DimIs
    after b m B d us sp (inl n) = holds_bind m (one (marked s.Colon)) _ (λ x k. m ≤ k) DimIs (holds_any m _)
        (λ _ a _. holds_bind a g.bound _ BoundIs DimIs (bound_is a) (λ u k U. holds_gives k (dim_of (Some b) u) DimIs (both _ _ B U))) d us sp n
    after b m B d us sp (inr n) = holds_gives m (dim_of None b) DimIs (both _ _ refl B) d us sp n

abbrev pub AreDims : List Dim → ℕ → Type 0
AreDims ds k = list_all is_readable_dim ds ≡ true

pub shape_is : (m : ℕ) → Holds m g.shape AreDims
unfolding g.shape g.bracketed_dims g.dims g.more_dims g.another_dim
shape_is m ds us sp (inr n) = holds_gives m [] AreDims refl ds us sp n
shape_is m ds us sp (inl n) = holds_bind m (one (marked s.Open)) _ (λ _ a. m ≤ a) AreDims (holds_any m _)
    (λ _ a _. holds_bind a g.dims _ AreDims AreDims (listed a)
    (λ found b h. holds_bind b (one (marked s.Close)) _ (λ _ k. b ≤ k) AreDims (holds_any b _) (λ _ k _. holds_gives k found AreDims h))) ds us sp n
  where
    listed : (m : ℕ) → Holds m g.dims AreDims
    listed m = holds_bind m g.dim _ DimIs AreDims (dim_is m)
        (λ d a D. holds_many (λ ds. true) g.another_dim AreDims
        (λ ds k h _. holds_bind k (one (marked s.Comma)) _ (λ _ b. k ≤ b) AreDims (holds_any k _)
        (λ _ b _. holds_bind b g.dim _ DimIs AreDims (dim_is b)
        (λ e c E. holds_gives c (ds ++ e ∷ []) AreDims (list_all-append is_readable_dim ds (e ∷ []) ∙ both _ _ h (both _ _ E refl)))))
        (d ∷ []) a (both _ _ D refl))
