-- What the lexemes of a printed directive are read as.
use Rattle.std.proofs.Common.{◌≡◌, ℕ, ◌≤◌, Bool, true, false, cond, ◌&&◌, ◌||◌, not, Option, Some, None, refl, ap, sym, subst, ◌∙◌, arith, List}
use Rattle.std.specs.Prelude.{codes, decimal, nat_le, ◌==◌}
use Rattle.std.proofs.lemmas.Bool.Decides.{nat_tests}
use Rattle.tokens.specs.declared.TokenKind.TheVariants.{Mark, Word}
use Rattle.tokens.specs.Lexeme.{Lexeme}
use Rattle.fl_ast.specs.declared.kind.Kind.TheVariants as kind
use Rattle.fl_ast.specs.declared.directive.ScheduleKind.TheVariants as schedule
use Rattle.fl_ast.specs.Readable.{is_variable}
use Rattle.std.proofs.lemmas.Bool.{and_parts}
use Rattle.parsing.specs.declared.symbol.Symbol.TheVariants as s
use Rattle.parsing.specs.declared.cursor.Number.{Number}
use Rattle.parsing.specs.Symbol.{symbol_by, symbol_of}
use Rattle.parsing.specs.Terminal.{by, marked, name, number, plain_number, without_eight, is_eight}
use Rattle.omp_clauses.specs.declared.state.Sharing.TheVariants as sharing
use Rattle.omp_clauses.specs.Said.{Said, lists}
use Rattle.omp_clauses.specs.Terminals.{sharing_by, none_by, chunked_by, unchunked_by, value_where, is_loop_count, loop_count, new_name}
use Rattle.fl_lexer.specs.Pieces.{piece_of}
use Rattle.fl_printer.specs.Words.{literal_text}
use Rattle.fl_printer.proofs.Tokens.{plain_literal}
use Rattle.fl_printed.specs.Fits.{Fits}
use Rattle.fl_printed.proofs.Spelled.{symbol_is, marked_is, name_lexeme, name_read, number_read}
use Rattle.fl_printed.proofs.Operators.{plain}

pub parallel_read : (t : Lexeme) → Fits t (codes "parallel") → marked s.Parallel t ≡ Some t.line
unfolding piece_of symbol_by
parallel_read t f = marked_is s.Parallel s.Parallel t refl (symbol_is t (codes "parallel") Word (codes "parallel") refl f)

pub do_read : (t : Lexeme) → Fits t (codes "do") → marked s.Do t ≡ Some t.line
unfolding piece_of symbol_by
do_read t f = marked_is s.Do s.Do t refl (symbol_is t (codes "do") Word (codes "do") refl f)

pub default_read : (t : Lexeme) → Fits t (codes "default") → marked s.Default t ≡ Some t.line
unfolding piece_of symbol_by
default_read t f = marked_is s.Default s.Default t refl (symbol_is t (codes "default") Word (codes "default") refl f)

pub none_read : (t : Lexeme) → Fits t (codes "none") → by none_by t ≡ Some true
unfolding piece_of symbol_by
none_read t f = ap none_by (symbol_is t (codes "none") Word (codes "none") refl f)

pub private_read : (t : Lexeme) → Fits t (codes "private") → by sharing_by t ≡ Some sharing.Private
unfolding piece_of symbol_by
private_read t f = ap sharing_by (symbol_is t (codes "private") Word (codes "private") refl f)

pub first_read : (t : Lexeme) → Fits t (codes "firstprivate") → by sharing_by t ≡ Some sharing.First
unfolding piece_of symbol_by
first_read t f = ap sharing_by (symbol_is t (codes "firstprivate") Word (codes "firstprivate") refl f)

pub shared_read : (t : Lexeme) → Fits t (codes "shared") → by sharing_by t ≡ Some sharing.Shared
unfolding piece_of symbol_by
shared_read t f = ap sharing_by (symbol_is t (codes "shared") Word (codes "shared") refl f)

pub reduction_read : (t : Lexeme) → Fits t (codes "reduction") → marked s.Reduction t ≡ Some t.line
unfolding piece_of symbol_by
reduction_read t f = marked_is s.Reduction s.Reduction t refl (symbol_is t (codes "reduction") Word (codes "reduction") refl f)

pub plus_read : (t : Lexeme) → Fits t (codes "+") → marked s.Plus t ≡ Some t.line
unfolding piece_of symbol_by
plus_read t f = marked_is s.Plus s.Plus t refl (symbol_is t (codes "+") Mark (codes "+") refl f)

pub colon_read : (t : Lexeme) → Fits t (codes ":") → marked s.Colon t ≡ Some t.line
unfolding piece_of symbol_by
colon_read t f = marked_is s.Colon s.Colon t refl (symbol_is t (codes ":") Mark (codes ":") refl f)

pub collapse_read : (t : Lexeme) → Fits t (codes "collapse") → marked s.Collapse t ≡ Some t.line
unfolding piece_of symbol_by
collapse_read t f = marked_is s.Collapse s.Collapse t refl (symbol_is t (codes "collapse") Word (codes "collapse") refl f)

pub schedule_read : (t : Lexeme) → Fits t (codes "schedule") → marked s.Schedule t ≡ Some t.line
unfolding piece_of symbol_by
schedule_read t f = marked_is s.Schedule s.Schedule t refl (symbol_is t (codes "schedule") Word (codes "schedule") refl f)

pub static_read : (t : Lexeme) → Fits t (codes "static") → by chunked_by t ≡ Some schedule.Static
unfolding piece_of symbol_by
static_read t f = ap chunked_by (symbol_is t (codes "static") Word (codes "static") refl f)

pub dynamic_read : (t : Lexeme) → Fits t (codes "dynamic") → by chunked_by t ≡ Some schedule.Dynamic
unfolding piece_of symbol_by
dynamic_read t f = ap chunked_by (symbol_is t (codes "dynamic") Word (codes "dynamic") refl f)

pub guided_read : (t : Lexeme) → Fits t (codes "guided") → by chunked_by t ≡ Some schedule.Guided
unfolding piece_of symbol_by
guided_read t f = ap chunked_by (symbol_is t (codes "guided") Word (codes "guided") refl f)

pub auto_read : (t : Lexeme) → Fits t (codes "auto") → by unchunked_by t ≡ Some schedule.Auto
unfolding piece_of symbol_by
auto_read t f = ap unchunked_by (symbol_is t (codes "auto") Word (codes "auto") refl f)

pub runtime_read : (t : Lexeme) → Fits t (codes "runtime") → by unchunked_by t ≡ Some schedule.Runtime
unfolding piece_of symbol_by
runtime_read t f = ap unchunked_by (symbol_is t (codes "runtime") Word (codes "runtime") refl f)

-- ---- numbers

at_most_as_long : (n : ℕ) → nat_le n 2147483647 ≡ true → n ≤ 9223372036854775807
at_most_as_long n h = let small : n ≤ 2147483647 = grind (arith, nat_tests) in omega (arith, small)

decimal_read : (t : Lexeme) (n : ℕ) → n ≤ 9223372036854775807 → Fits t (decimal n) → number t ≡ Some (plain n)
decimal_read t n h f = number_read t n kind.Index h (subst (λ (bs : List ℕ). Fits t bs) (sym (plain_literal n)) f)

and_true : (a b : Bool) → a ≡ true → b ≡ true → (a && b) ≡ true
and_true a b h k = rw (h, k) refl

pub chunk_read : (t : Lexeme) (n : ℕ) → nat_le n 2147483647 ≡ true → Fits t (decimal n) → plain_number 2147483647 t ≡ Some (plain n)
chunk_read t n h f =
    ap (without_eight 2147483647) (decimal_read t n (at_most_as_long n h) f) ∙ ap (λ c. cond c (Some (plain n)) None) (and_true (nat_le n 2147483647) true h refl)

one_or_two : (n : ℕ) → nat_le n 2 ≡ true → (n == 0) ≡ false → ((n == 1) || (n == 2)) ≡ true
one_or_two n h z = grind (arith, nat_tests)

pub count_read : (t : Lexeme) (n : ℕ) → nat_le n 2 ≡ true → (n == 0) ≡ false → Fits t (decimal n) → loop_count t ≡ Some n
count_read t n h z f =
    let small : n ≤ 2 = grind (arith, nat_tests) in
    ap (value_where is_loop_count) (decimal_read t n (omega (arith, small)) f) ∙ ap (λ c. cond c (Some n) None) (one_or_two n h z)

-- ---- names

-- a name that isn't listed yet
pub new_read : (c : Said) (t : Lexeme) (x : List ℕ) → is_variable x ≡ true → lists c x ≡ false → Fits t x → new_name true c t ≡ Some (record { line = t.line; name = x })
new_read c t x h n f =
    let bytes : t.bytes ≡ x = ap (λ u. u.bytes) (name_lexeme t x (and_parts _ _ h).0 f) in
    ap (λ b. cond b None (name t)) (ap (lists c) bytes ∙ n) ∙ name_read t x h f
