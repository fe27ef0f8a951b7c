-- What is in the grammar is readable.
use Rattle.std.proofs.Common.{◌≡◌, ℕ, ◌+◌, ◌<◌, ◌≤◌, ◌^◌, true, false, nat_le, List, [], ◌∷◌, ◌++◌, length, map, length-append, refl, sym, ap, subst, ◌∙◌, inl, inr, arith, Some}
use Rattle.std.specs.List.{list_all}
use Rattle.std.proofs.lemmas.Bool.Decides.{nat_tests}
use Rattle.std.proofs.lemmas.List.Folds.{list_all-append}
use Rattle.fl_base.specs.Spelling.{is_name}
use Rattle.tokens.specs.declared.Token.{Token}
use Rattle.tokens.specs.Lexeme.{lexeme}
use Rattle.tokens.specs.Spelled.{AreSpelled}
use Rattle.fl_ast.specs.declared.kind.Kind.{Kind}
use Rattle.fl_ast.specs.declared.kind.Kind.TheVariants.{Index, Ring}
use Rattle.fl_ast.specs.declared.kind.Intent.{Intent}
use Rattle.fl_ast.specs.declared.decl.Dim.{Dim}
use Rattle.fl_ast.specs.declared.decl.Decl.{Decl}
use Rattle.fl_ast.specs.declared.stmt.Program.{Program}
use Rattle.fl_ast.specs.declared.stmt.Stmt.{Stmt}
use Rattle.fl_ast.specs.Tree.{stmt_trees}
use Rattle.fl_ast.specs.Measures.{deepest_in_all, count_all, block_depth_of_all, loop_numbers_of_all, nodes_of_all}
use Rattle.fl_ast.specs.Readable.{is_variable, are_readable_statements, is_size_of, is_readable_decl, counts_up_from, IsReadable, is_readable_dim}
use Rattle.parsing.specs.declared.symbol.Symbol.TheVariants as s
use Rattle.parsing.specs.declared.cursor.Word.{Word}
use Rattle.parsing.specs.Terminal.{marked, name, word}
use Rattle.parsing.specs.Grammar.{one}
use Rattle.fl_parser.specs.declared.unit.UnitHead.{UnitHead}
use Rattle.fl_statements.specs.Limits.{the_limits}
use Rattle.fl_parser.specs.Trees.{declared, head_of, program}
use Rattle.fl_parser.specs.UnitGrammar as g2
use Rattle.fl_parser.specs.DimGrammar as g3
use Rattle.fl_expressions.proofs.ReadableExprs.{and_true}
use Rattle.parsing.specs.declared.symbol.Symbol.{Symbol}
use Rattle.parsing.specs.Symbol.{symbol_of}
use Rattle.parsing.specs.Terminal.{spelled_number}
use Rattle.fl_parser.specs.Terminals.{kind_by, one_text, two_text}
use Rattle.fl_statements.specs.declared.block.Block.{Block}
use Rattle.fl_statements.proofs.Adding.{counting}
use Rattle.fl_statements.proofs.ReadableStmts.{Well, longer, stmts_well}
use Rattle.fl_parser.proofs.ReadableDims.{AreDims, shape_is}
use Rattle.fl_expressions.proofs.Holding.{Holds, holds_bind, holds_gives, holds_many, holds_any, holds_name, holds_word, width, lexemes_spelled, lexemes_narrow}

-- ---- declarations

record Declares_well (ds : List Decl) : Type 0 where
  few : length ds ≤ 512
  readable : list_all is_readable_decl ds ≡ true

-- the bytes of a kind
abbrev Sized : Kind × ℕ → ℕ → Type 0
Sized k n = is_size_of k.0 k.1 ≡ true

value_sized : (m : ℕ) → Holds m g2.kind_value Sized
unfolding g2.kind_value g2.one_byte g2.two_bytes
value_sized m x us sp (inl n) = holds_bind m (one (spelled_number one_text)) _ (λ _ a. m ≤ a) Sized (holds_any m _) (λ _ a _. holds_gives a (Ring, 1) Sized refl) x us sp n
value_sized m x us sp (inr (inl n)) = holds_bind m (one (spelled_number two_text)) _ (λ _ a. m ≤ a) Sized (holds_any m _) (λ _ a _. holds_gives a (Ring, 2) Sized refl) x us sp n
value_sized m x us sp (inr (inr n)) = by (symbol_of n.0) x n.1
  where
    same : (k x : Kind × ℕ) → Some k ≡ Some x → k ≡ x
    same k x e = cc

    by : (a : Symbol) (x : Kind × ℕ) → kind_by a ≡ Some x → is_size_of x.0 x.1 ≡ true
    by s.Four x e = ap (λ (k : Kind × ℕ). is_size_of k.0 k.1) (sym (same (Index, 4) x e))
    by s.Eight x e = ap (λ (k : Kind × ℕ). is_size_of k.0 k.1) (sym (same (Ring, 8) x e))
    by _ x e = cc

kind_sized : (m : ℕ) → Holds m g2.kind Sized
unfolding g2.kind g2.kind_brackets
kind_sized m x us sp (inr n) = holds_gives m (Index, 4) Sized refl x us sp n
kind_sized m x us sp (inl n) = holds_bind m (one (marked s.Open)) _ (λ _ a. m ≤ a) Sized (holds_any m _)
    (λ _ a _. holds_bind a g2.kind_word _ (λ _ b. a ≤ b) Sized (holds_any a _)
    (λ _ b _. holds_bind b g2.kind_value _ Sized Sized (value_sized b)
    (λ k c K. holds_bind c (one (marked s.Close)) _ (λ _ e. c ≤ e) Sized (holds_any c _) (λ _ e _. holds_gives e k Sized K)))) x us sp n

declared_well : (ds : List Decl) (line : ℕ) (k : Kind × ℕ) (i : Intent) (x : Word) (dims : List Dim) → nat_le (length ds + 1) 512 ≡ true → is_variable x.name ≡ true → is_size_of k.0 k.1 ≡ true → list_all is_readable_dim dims ≡ true → Declares_well ds →
    Declares_well (declared ds line k i x dims)
declared_well ds line k i x dims h named sized shaped D =
    let d : Decl = record { line = line; name = x.name; kind = k.0; bytes = k.1; intent = i; dims = dims } in
    let size = length-append ds (d ∷ []) in
    record {
      few = grind (arith, nat_tests);
      readable = list_all-append is_readable_decl ds (d ∷ []) ∙ and_true _ _ D.readable (and_true _ _ (and_true _ _ named (and_true _ _ sized shaped)) refl);
    }

item_well : (line : ℕ) (k : Kind × ℕ) (i : Intent) (ds : List Decl) → is_size_of k.0 k.1 ≡ true → nat_le (length ds + 1) 512 ≡ true → Declares_well ds → (m : ℕ) → Holds m (g2.item line k i ds) (λ es n. Declares_well es)
unfolding g2.item
item_well line k i ds sized h D m = holds_bind m (one name) _ (λ x n. is_variable x.name ≡ true) (λ es n. Declares_well es) (holds_name m)
    (λ x a named. holds_bind a g3.shape _ AreDims (λ es n. Declares_well es) (shape_is a)
    (λ dims n shaped. holds_gives n (declared ds line k i x dims) (λ es n. Declares_well es) (declared_well ds line k i x dims h named sized shaped D)))

decls_well : (m : ℕ) → Holds m (g2.decls the_limits) (λ ds k. Declares_well ds)
unfolding g2.decls g2.decl g2.items g2.another_item
decls_well m = holds_many (g2.may_declare the_limits) (g2.decl the_limits) (λ ds k. Declares_well ds)
    (λ ds a D h. holds_bind a (one (marked s.Integer)) _ (λ _ b. a ≤ b) (λ es k. Declares_well es) (holds_any a _)
    (λ line b _. holds_bind b g2.kind _ Sized (λ es k. Declares_well es) (kind_sized b)
    (λ kind c K. holds_bind c g2.intent _ (λ _ e. c ≤ e) (λ es k. Declares_well es) (holds_any c _)
    (λ i e _. holds_bind e (g2.item line kind i ds) _ (λ es k. Declares_well es) (λ es k. Declares_well es) (item_well line kind i ds K h D e)
    (λ first f E. holds_bind f (g2.items the_limits line kind i first) _ (λ es k. Declares_well es) (λ es k. Declares_well es)
    (holds_many (g2.may_declare the_limits) (g2.another_item the_limits line kind i) (λ es k. Declares_well es)
    (λ es k E r. holds_bind k (one (marked s.Comma)) _ (λ _ n. k ≤ n) (λ es n. Declares_well es) (holds_any k _)
    (λ _ n _. item_well line kind i es K r E n)) first f E)
    (λ found n F. holds_bind n (one (marked s.LineEnd)) _ (λ _ k. n ≤ k) (λ es k. Declares_well es) (holds_any n _)
    (λ _ k _. holds_gives k found (λ es k. Declares_well es) F)))))))
    [] m (record { few = omega arith; readable = refl })

-- ---- the unit

abbrev AreNames : List (List ℕ) → ℕ → Type 0
AreNames xs k = list_all is_variable xs ≡ true

one_more_name : (xs : List (List ℕ)) (x : List ℕ) → list_all is_variable xs ≡ true → is_variable x ≡ true → list_all is_variable (xs ++ x ∷ []) ≡ true
one_more_name xs x h n = list_all-append is_variable xs (x ∷ []) ∙ and_true _ _ h (and_true _ _ n refl)

args_named : (m : ℕ) → Holds m g2.args AreNames
unfolding g2.args g2.bracketed_args g2.listed_args g2.some_args g2.more_args g2.another_arg
args_named m found us sp (inr n) = holds_gives m [] AreNames refl found us sp n
args_named m found us sp (inl n) = holds_bind m (one (marked s.Open)) _ (λ _ a. m ≤ a) AreNames (holds_any m _)
    (λ _ a _. holds_bind a g2.listed_args _ AreNames AreNames (listed a)
    (λ xs b h. holds_bind b (one (marked s.Close)) _ (λ _ k. b ≤ k) AreNames (holds_any b _) (λ _ k _. holds_gives k xs AreNames h))) found us sp n
  where
    listed : (m : ℕ) → Holds m g2.listed_args AreNames
    listed m found us sp (inr n) = holds_gives m [] AreNames refl found us sp n
    listed m found us sp (inl n) = holds_bind m (one name) _ (λ x k. is_variable x.name ≡ true) AreNames (holds_name m)
        (λ x a named. holds_many (λ xs. true) g2.another_arg AreNames
        (λ xs k h _. holds_bind k (one (marked s.Comma)) _ (λ _ b. k ≤ b) AreNames (holds_any k _)
        (λ _ b _. holds_bind b (one name) _ (λ y k. is_variable y.name ≡ true) AreNames (holds_name b)
        (λ y c called. holds_gives c (xs ++ y.name ∷ []) AreNames (one_more_name xs y.name h called))))
        (x.name ∷ []) a (and_true _ _ named refl)) found us sp n

-- readable, with a byte for each node
record Spelled_out (p : Program) (k : ℕ) : Type 0 where
  name : is_name p.name ≡ true
  args : list_all is_variable p.args ≡ true
  decls : Declares_well p.decls
  body : (c : Block) × (c.stmts ≡ p.body) × Well 64 false 0 0 0 c k

body_well : (m : ℕ) → Holds m (g2.body the_limits) (Well 64 false 0 0 m)
unfolding g2.body
body_well m = stmts_well 64 false 0 0 m (omega arith)

from_start : (c : Block) (m k : ℕ) → Well 64 false 0 0 m c k → Well 64 false 0 0 0 c k
from_start c m k C = let few_ = C.few_nodes in record { is = C.is; few = C.few; depths = C.depths; blocks = C.blocks; loops = C.loops; readable = C.readable; single = C.single; few_nodes = omega (arith, few_) }

record HeadWell (h : UnitHead) : Type 0 where
  name : is_name h.name ≡ true
  args : list_all is_variable h.args ≡ true

head_well : (m : ℕ) → Holds m g2.unit_head (λ h k. HeadWell h)
unfolding g2.unit_head
head_well m = holds_bind m (one (marked s.Subroutine)) _ (λ _ a. m ≤ a) (λ h k. HeadWell h) (holds_any m _)
    (λ line a _. holds_bind a (one word) _ (λ x k. is_name x.name ≡ true) (λ h k. HeadWell h) (holds_word a)
    (λ x b named. holds_bind b g2.args _ AreNames (λ h k. HeadWell h) (args_named b)
    (λ found c are_named. holds_bind c (one (marked s.LineEnd)) _ (λ _ k. c ≤ k) (λ h k. HeadWell h) (holds_any c _)
    (λ _ d _. holds_bind d g2.implicit _ (λ _ k. d ≤ k) (λ h k. HeadWell h) (holds_any d _)
    (λ _ e _. holds_gives e (head_of line x found) (λ h k. HeadWell h) (record { name = named; args = are_named }))))))

unit_well : Holds 0 (g2.unit the_limits) Spelled_out
unfolding g2.unit
unit_well = holds_bind 0 g2.unit_head _ (λ h k. HeadWell h) Spelled_out (head_well 0)
    (λ h e H. holds_bind e (g2.decls the_limits) _ (λ ds k. Declares_well ds) Spelled_out (decls_well e)
    (λ ds f D. holds_bind f (g2.body the_limits) _ (Well 64 false 0 0 f) Spelled_out (body_well f)
    (λ body n C. holds_bind n (g2.end_unit h.name) _ (λ _ k. n ≤ k) Spelled_out (holds_any n _)
    (λ _ k after. holds_gives k (program h ds body) Spelled_out
    (record { name = H.name; args = H.args; decls = D; body = (body, refl, from_start body f k (longer 64 false 0 0 f body n k after C)) })))))

readable_of : (p : Program) (c : Block) (k : ℕ) → Spelled_out p k → c.stmts ≡ p.body → Well 64 false 0 0 0 c k → k < 2 ^ 32 → IsReadable p
readable_of p c k P e C few = record {
  name = P.name;
  args = P.args;
  decls = P.decls.readable;
  body = ap (λ v. are_readable_statements (stmt_trees v)) (sym e) ∙ C.readable;
  few_names = P.decls.few;
  few_statements = subst (λ (v : List Stmt). count_all (stmt_trees v) ≤ 4096) e (let is_ = C.is in let few_ = C.few in omega (arith, is_, few_));
  shallow = subst (λ (v : List Stmt). deepest_in_all (stmt_trees v) ≤ 64) e C.depths;
  shallow_blocks = subst (λ (v : List Stmt). block_depth_of_all (stmt_trees v) ≤ 64) e C.blocks;
  numbered = ap (λ v. counts_up_from 1 (loop_numbers_of_all (stmt_trees v))) (sym e) ∙ counting (loop_numbers_of_all (stmt_trees c.stmts)) 0 c.loops C.loops;
  few_nodes = subst (λ (v : List Stmt). nodes_of_all (stmt_trees v) < 2 ^ 32) e (let some_ = C.few_nodes in omega (arith, some_, few));
}

-- A program that a text spells is readable.
pub readable_by_tokens : (text : List ℕ) (tokens : List Token) (p : Program) → length text + 1 < 2 ^ 32 → AreSpelled text 0 tokens → g2.unit the_limits p (map (lexeme text) tokens) → IsReadable p
readable_by_tokens text tokens p few spelled n =
    let P = unit_well p (map (lexeme text) tokens) (lexemes_spelled text 0 tokens spelled) n in
    let narrow = lexemes_narrow text 0 tokens (omega arith) spelled in
    readable_of p P.body.0 (0 + width (map (lexeme text) tokens)) P P.body.1 P.body.2 (omega (arith, narrow, few))
