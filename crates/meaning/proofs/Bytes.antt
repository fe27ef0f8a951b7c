-- Data of one byte computes: words stand for what is left of them modulo 2^8.
use Rattle.std.specs.Prelude.{◌≡◌, ℕ, ℤ, pos, negsuc, true, false, List, [], ◌∷◌, map, ◌%◌, refl, codes, Ok, Err}
use Rattle.fl_ast.specs.declared.kind.Kind.TheVariants as kind
use Rattle.fl_ast.specs.declared.kind.RelOp.TheVariants.{Eq}
use Rattle.fl_ast.specs.declared.kind.Fun.TheVariants.{Abs, Max, Min}
use Rattle.fl_ast.specs.declared.kind.Fun.{Fun}
use Rattle.fl_ast.specs.Tree.{call, expression, no_expressions, relation, Statements, statement, no_statements, branch, no_arms, arm}
use Rattle.ring_core.specs.Index.{exact_index}
use Rattle.ring_core.specs.declared.ring.Width.TheVariants.{Bits8, Bits16}
use Rattle.ring_core.specs.Ring.{signed_at}
use Rattle.meaning.specs.declared.value.Value.{Value}
use Rattle.meaning.specs.declared.value.Value.TheVariants.{Index, Ring}
use Rattle.meaning.specs.Values.{Found, larger_result, absolute_result, compares, relates}
use Rattle.meaning.specs.Sites.{Cells, Site, opening_site}
use Rattle.meaning.specs.Statements.{run_all}
use Rattle.meaning.specs.Adjoints.{adjoint_at}
use Rattle.meaning.specs.Widths.{reduced_out}
use Rattle.meaning.proofs.Small.{declared, scalar, word, one, name, to, ◌times◌, only, set, all_pushed}

abbrev x : List ℕ
x = codes "x"

abbrev y : List ℕ
y = codes "y"

abbrev site : ℕ → Site
site bytes = opening_site (record (declared kind.Ring x) { bytes = bytes } ∷ record (declared kind.Ring y) { bytes = bytes } ∷ []) (scalar x ∷ scalar y ∷ []) all_pushed

-- x = max(x, y*k)
-- if (300 == y) then
--   x = abs(x)*y
-- end if
abbrev body : Fun → ℕ → Statements
body f k =
    statement (set 3 (to x) (call f (expression (name x) (expression (name y times one k) no_expressions))))
    (only (branch 4 (arm (relation Eq (one 300) (name y)) (only (set 5 (to x) (call Abs (expression (name x) no_expressions) times name y))) no_arms) no_statements))

-- x is -56 and y 44
abbrev cells : Cells
cells = word 200 ∷ word 44 ∷ []

-- of -56 and 88 the greater; 300 is 44
pub greater : reduced_out Bits8 (run_all (body Max 2) (site 1) cells).out ≡ Ok (word 32 ∷ word 44 ∷ [])
unfolding exact_index
greater = refl

-- 132 is -124
pub wrapped : reduced_out Bits8 (run_all (body Max 3) (site 1) cells).out ≡ Ok (word 160 ∷ word 44 ∷ [])
unfolding exact_index
wrapped = refl

pub less : reduced_out Bits8 (run_all (body Min 2) (site 1) cells).out ≡ Ok (word 160 ∷ word 44 ∷ [])
unfolding exact_index
less = refl

-- the adjoints modulo 2^8
pub less_adjoint : map (λ n. n % 256) (map (adjoint_at (run_all (body Min 2) (site 1)) cells (1 ∷ 0 ∷ [])) (0 ∷ 1 ∷ [])) ≡ 212 ∷ 56 ∷ []
unfolding exact_index
less_adjoint = refl

-- with eight bytes 300 isn't 44
pub eight : (run_all (body Max 2) (site 8) (word 18446744073709551560 ∷ word 44 ∷ [])).out ≡ Ok (word 88 ∷ word 44 ∷ [])
unfolding exact_index
eight = refl

-- y = x*x
abbrev square : Statements
square = only (set 3 (to y) (name x times name x))

-- 10000 is 16
pub square_value : reduced_out Bits8 (run_all square (site 1) (word 100 ∷ word 0 ∷ [])).out ≡ Ok (word 100 ∷ word 16 ∷ [])
unfolding exact_index
square_value = refl

-- 200 is -56
pub square_adjoint : signed_at Bits8 (adjoint_at (run_all square (site 1)) (word 100 ∷ word 0 ∷ []) (0 ∷ 1 ∷ []) 0) ≡ negsuc 55
unfolding exact_index
square_adjoint = refl

-- ---- values at the width

abbrev data' : ℕ → Value
data' n = Ring (record { value = n; tangent = 0 })

-- the index operand of a relation is converted first: 300 is 44 modulo 2^8, though the number 300 isn't 44
pub converted_first : relates Bits8 Eq (Index (pos 300)) (data' 44) ≡ true
converted_first = refl

pub unlike_numbers : compares Eq (pos 300) (signed_at Bits8 44) ≡ false
unlike_numbers = refl

pub wider : relates Bits16 Eq (Index (pos 300)) (data' 44) ≡ false
wider = refl

-- two index values are not converted
pub unlike_indices : relates Bits8 Eq (Index (pos 300)) (Index (pos 44)) ≡ false
unlike_indices = refl

abbrev signed_result : Found → ℤ
signed_result (Ok (Index z)) = z
signed_result (Ok (Ring d)) = signed_at Bits8 d.value
signed_result (Err c) = pos 0

-- -128 has no counterpart
pub edge_absolute : signed_result (absolute_result Bits8 (data' 128)) ≡ negsuc 127
edge_absolute = refl

pub below_edge : signed_result (absolute_result Bits8 (data' 129)) ≡ pos 127
below_edge = refl

-- the same word in 16 bits is positive already
pub edge_wider : absolute_result Bits16 (data' 128) ≡ Ok (data' 128)
edge_wider = refl

-- 128 is -128, and 261 is 5
pub edge_larger : map (λ n. signed_result (larger_result Bits8 (data' 127) (data' n))) (128 ∷ 255 ∷ 126 ∷ []) ≡ pos 127 ∷ pos 127 ∷ pos 127 ∷ []
edge_larger = refl

pub larger_residue : signed_result (larger_result Bits8 (data' 261) (data' 6)) ≡ pos 6
larger_residue = refl
