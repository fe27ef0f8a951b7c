-- What is in the grammar of adjoints is readable.
use Rattle.std.proofs.Common.{◌≡◌, ℕ, ◌≤◌, true, false, List, [], ◌∷◌, ◌++◌, map, Some, refl, sym, ap, ◌∙◌, inl, inr}
use Rattle.std.specs.List.{list_all}
use Rattle.std.proofs.lemmas.List.Folds.{list_all-append}
use Rattle.fl_base.specs.Spelling.{is_name}
use Rattle.tokens.specs.declared.Token.{Token}
use Rattle.tokens.specs.Lexeme.{lexeme}
use Rattle.tokens.specs.Spelled.{AreSpelled}
use Rattle.fl_ast.specs.declared.kind.Kind.{Kind}
use Rattle.fl_ast.specs.declared.kind.Kind.TheVariants.{Index, Ring}
use Rattle.fl_ast.specs.declared.kind.Intent.{Intent}
use Rattle.fl_ast.specs.declared.decl.Dim.{Dim}
use Rattle.fl_ast.specs.declared.decl.Decl.{Decl}
use Rattle.fl_ast.specs.declared.adjoint.AdjointText.{AdjointText}
use Rattle.fl_ast.specs.Readable.{is_variable, is_size_of, is_readable_decl, is_readable_dim}
use Rattle.parsing.specs.declared.symbol.Symbol.{Symbol}
use Rattle.parsing.specs.declared.symbol.Symbol.TheVariants as s
use Rattle.parsing.specs.declared.cursor.Word.{Word}
use Rattle.parsing.specs.Symbol.{symbol_of}
use Rattle.parsing.specs.Terminal.{marked, name, word, spelled_number}
use Rattle.parsing.specs.Grammar.{one}
use Rattle.fl_statements.specs.Limits.{Limits}
use Rattle.fl_parser.specs.declared.unit.UnitHead.{UnitHead}
use Rattle.fl_parser.specs.Terminals.{kind_by, one_text, two_text}
use Rattle.fl_parser.specs.Trees.{declared, head_of}
use Rattle.fl_parser.specs.UnitGrammar as gu
use Rattle.fl_parser.specs.DimGrammar as gd
use Rattle.adjoint_statements.specs.declared.block.Block.{Block}
use Rattle.adjoint_statements.specs.Rooms.{the_limits}
use Rattle.adjoint_parser.specs.Trees.{adjoint_text}
use Rattle.adjoint_parser.specs.AdjointGrammar as g
use Rattle.adjoint_parser.specs.ReadableText.{IsReadableText}
use Rattle.fl_expressions.proofs.Holding.{Holds, holds_bind, holds_gives, holds_many, holds_any, holds_name, holds_word, lexemes_spelled}
use Rattle.fl_expressions.proofs.ReadableExprs.{and_true}
use Rattle.fl_parser.proofs.ReadableDims.{AreDims, shape_is}
use Rattle.adjoint_parser.proofs.ReadableAdjointStmts.{Well, IsWell, stmts_well}

-- ---- declarations

abbrev AreDecls : List Decl → ℕ → Type 0
AreDecls ds k = list_all is_readable_decl ds ≡ true

-- the bytes of a kind
abbrev Sized : Kind × ℕ → ℕ → Type 0
Sized k n = is_size_of k.0 k.1 ≡ true

value_sized : (m : ℕ) → Holds m gu.kind_value Sized
unfolding gu.kind_value gu.one_byte gu.two_bytes
value_sized m x us sp (inl n) = holds_bind m (one (spelled_number one_text)) _ (λ _ a. m ≤ a) Sized (holds_any m _) (λ _ a _. holds_gives a (Ring, 1) Sized refl) x us sp n
value_sized m x us sp (inr (inl n)) = holds_bind m (one (spelled_number two_text)) _ (λ _ a. m ≤ a) Sized (holds_any m _) (λ _ a _. holds_gives a (Ring, 2) Sized refl) x us sp n
value_sized m x us sp (inr (inr n)) = by (symbol_of n.0) x n.1
  where
    same : (k x : Kind × ℕ) → Some k ≡ Some x → k ≡ x
    same k x e = cc

    by : (a : Symbol) (x : Kind × ℕ) → kind_by a ≡ Some x → is_size_of x.0 x.1 ≡ true
    by s.Four x e = ap (λ (k : Kind × ℕ). is_size_of k.0 k.1) (sym (same (Index, 4) x e))
    by s.Eight x e = ap (λ (k : Kind × ℕ). is_size_of k.0 k.1) (sym (same (Ring, 8) x e))
    by _ x e = cc

kind_sized : (m : ℕ) → Holds m gu.kind Sized
unfolding gu.kind gu.kind_brackets
kind_sized m x us sp (inr n) = holds_gives m (Index, 4) Sized refl x us sp n
kind_sized m x us sp (inl n) = holds_bind m (one (marked s.Open)) _ (λ _ a. m ≤ a) Sized (holds_any m _)
    (λ _ a _. holds_bind a gu.kind_word _ (λ _ b. a ≤ b) Sized (holds_any a _)
    (λ _ b _. holds_bind b gu.kind_value _ Sized Sized (value_sized b)
    (λ k c K. holds_bind c (one (marked s.Close)) _ (λ _ e. c ≤ e) Sized (holds_any c _) (λ _ e _. holds_gives e k Sized K)))) x us sp n

declared_well : (ds : List Decl) (line : ℕ) (k : Kind × ℕ) (i : Intent) (x : Word) (dims : List Dim) → is_variable x.name ≡ true → is_size_of k.0 k.1 ≡ true → list_all is_readable_dim dims ≡ true → list_all is_readable_decl ds ≡ true →
    list_all is_readable_decl (declared ds line k i x dims) ≡ true
declared_well ds line k i x dims named sized shaped D =
    let d : Decl = record { line = line; name = x.name; kind = k.0; bytes = k.1; intent = i; dims = dims } in
    list_all-append is_readable_decl ds (d ∷ []) ∙ and_true _ _ D (and_true _ _ (and_true _ _ named (and_true _ _ sized shaped)) refl)

item_well : (line : ℕ) (k : Kind × ℕ) (i : Intent) (ds : List Decl) → is_size_of k.0 k.1 ≡ true → list_all is_readable_decl ds ≡ true → (m : ℕ) → Holds m (gu.item line k i ds) AreDecls
unfolding gu.item
item_well line k i ds sized D m = holds_bind m (one name) _ (λ x n. is_variable x.name ≡ true) AreDecls (holds_name m)
    (λ x a named. holds_bind a gd.shape _ AreDims AreDecls (shape_is a)
    (λ dims n shaped. holds_gives n (declared ds line k i x dims) AreDecls (declared_well ds line k i x dims named sized shaped D)))

decls_well : (limits : Limits) (m : ℕ) → Holds m (gu.decls limits) AreDecls
unfolding gu.decls gu.decl gu.items gu.another_item
decls_well limits m = holds_many (gu.may_declare limits) (gu.decl limits) AreDecls
    (λ ds a D _. holds_bind a (one (marked s.Integer)) _ (λ _ b. a ≤ b) AreDecls (holds_any a _)
    (λ line b _. holds_bind b gu.kind _ Sized AreDecls (kind_sized b)
    (λ kind c K. holds_bind c gu.intent _ (λ _ e. c ≤ e) AreDecls (holds_any c _)
    (λ i e _. holds_bind e (gu.item line kind i ds) _ AreDecls AreDecls (item_well line kind i ds K D e)
    (λ first f E. holds_bind f (gu.items limits line kind i first) _ AreDecls AreDecls
    (holds_many (gu.may_declare limits) (gu.another_item limits line kind i) AreDecls
    (λ es k E _. holds_bind k (one (marked s.Comma)) _ (λ _ n. k ≤ n) AreDecls (holds_any k _)
    (λ _ n _. item_well line kind i es K E n)) first f E)
    (λ found n F. holds_bind n (one (marked s.LineEnd)) _ (λ _ k. n ≤ k) AreDecls (holds_any n _)
    (λ _ k _. holds_gives k found AreDecls F)))))))
    [] m refl

-- ---- the unit

abbrev AreNames : List (List ℕ) → ℕ → Type 0
AreNames xs k = list_all is_variable xs ≡ true

one_more_name : (xs : List (List ℕ)) (x : List ℕ) → list_all is_variable xs ≡ true → is_variable x ≡ true → list_all is_variable (xs ++ x ∷ []) ≡ true
one_more_name xs x h n = list_all-append is_variable xs (x ∷ []) ∙ and_true _ _ h (and_true _ _ n refl)

args_named : (m : ℕ) → Holds m gu.args AreNames
unfolding gu.args gu.bracketed_args gu.listed_args gu.some_args gu.more_args gu.another_arg
args_named m found us sp (inr n) = holds_gives m [] AreNames refl found us sp n
args_named m found us sp (inl n) = holds_bind m (one (marked s.Open)) _ (λ _ a. m ≤ a) AreNames (holds_any m _)
    (λ _ a _. holds_bind a gu.listed_args _ AreNames AreNames (listed a)
    (λ xs b h. holds_bind b (one (marked s.Close)) _ (λ _ k. b ≤ k) AreNames (holds_any b _) (λ _ k _. holds_gives k xs AreNames h))) found us sp n
  where
    listed : (m : ℕ) → Holds m gu.listed_args AreNames
    listed m found us sp (inr n) = holds_gives m [] AreNames refl found us sp n
    listed m found us sp (inl n) = holds_bind m (one name) _ (λ x k. is_variable x.name ≡ true) AreNames (holds_name m)
        (λ x a named. holds_many (λ xs. true) gu.another_arg AreNames
        (λ xs k h _. holds_bind k (one (marked s.Comma)) _ (λ _ b. k ≤ b) AreNames (holds_any k _)
        (λ _ b _. holds_bind b (one name) _ (λ y k. is_variable y.name ≡ true) AreNames (holds_name b)
        (λ y c called. holds_gives c (xs ++ y.name ∷ []) AreNames (one_more_name xs y.name h called))))
        (x.name ∷ []) a (and_true _ _ named refl)) found us sp n

record HeadWell (h : UnitHead) : Type 0 where
  name : is_name h.name ≡ true
  args : list_all is_variable h.args ≡ true

abbrev IsHead : UnitHead → ℕ → Type 0
IsHead h k = HeadWell h

head_well : (m : ℕ) → Holds m gu.unit_head IsHead
unfolding gu.unit_head
head_well m = holds_bind m (one (marked s.Subroutine)) _ (λ _ a. m ≤ a) IsHead (holds_any m _)
    (λ line a _. holds_bind a (one word) _ (λ x k. is_name x.name ≡ true) IsHead (holds_word a)
    (λ x b named. holds_bind b gu.args _ AreNames IsHead (args_named b)
    (λ found c are_named. holds_bind c (one (marked s.LineEnd)) _ (λ _ k. c ≤ k) IsHead (holds_any c _)
    (λ _ d _. holds_bind d gu.implicit _ (λ _ k. d ≤ k) IsHead (holds_any d _)
    (λ _ e _. holds_gives e (head_of line x found) IsHead (record { name = named; args = are_named }))))))

body_well : (m : ℕ) → Holds m (g.body the_limits) (IsWell 256 false)
unfolding g.body
body_well m = stmts_well 256 false 0 m

text_of : (h : UnitHead) (ds : List Decl) (body : Block) → HeadWell h → list_all is_readable_decl ds ≡ true → Well 256 false body → IsReadableText (adjoint_text h ds body)
text_of h ds body H D B = record {
  name = H.name;
  args = H.args;
  decls = D;
  body = B.readable;
  shallow = B.depths;
  shallow_blocks = B.blocks;
}

abbrev IsText : AdjointText → ℕ → Type 0
IsText t k = IsReadableText t

unit_well : (m : ℕ) → Holds m (g.unit the_limits) IsText
unfolding g.unit
unit_well m = holds_bind m gu.unit_head _ IsHead IsText (head_well m)
    (λ h e H. holds_bind e (gu.decls the_limits) _ AreDecls IsText (decls_well the_limits e)
    (λ ds f D. holds_bind f (g.body the_limits) _ (IsWell 256 false) IsText (body_well f)
    (λ body n B. holds_bind n (gu.end_unit h.name) _ (λ _ k. n ≤ k) IsText (holds_any n _)
    (λ _ k _. holds_gives k (adjoint_text h ds body) IsText (text_of h ds body H D B)))))

-- An adjoint that a text spells is readable.
pub readable_by_tokens : (text : List ℕ) (tokens : List Token) (t : AdjointText) → AreSpelled text 0 tokens → g.unit the_limits t (map (lexeme text) tokens) → IsReadableText t
readable_by_tokens text tokens t spelled n = unit_well 0 t (map (lexeme text) tokens) (lexemes_spelled text 0 tokens spelled) n
