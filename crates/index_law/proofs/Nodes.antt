-- The value of a node's form is the node's.
use Rattle.std.proofs.Common.{◌≡◌, ℕ, suc, Bool, true, false, ℤ, pos, negsuc, ◌+ℤ◌, ◌*ℤ◌, ◌-ℤ◌, neg_ℤ, List, [], ◌∷◌, ◌++◌, refl, sym, ap, ◌∙◌, subst, arith, Option, Some, None, Ok, Err}
use Rattle.std.specs.Prelude.{if◌then◌else◌}
use Rattle.std.proofs.lemmas.Int.{ints}
use borrow.Author.Differences.{product_is}
use Rattle.ring_core.specs.declared.index.IndexTrap.TheVariants as trap
use Rattle.ring_core.specs.Index.{fits_index, exact_index}
use Rattle.fl_ast.specs.declared.kind.Kind.{Kind}
use Rattle.fl_ast.specs.declared.kind.Kind.TheVariants as kind
use Rattle.fl_ast.specs.declared.kind.BinOp.{BinOp}
use Rattle.fl_ast.specs.declared.kind.BinOp.TheVariants.{Add, Sub, Mul, Div}
use Rattle.fl_ast.specs.Tree.{Expression, literal, get, minus, binary, power, call, Expressions, no_expressions, expression}
use Rattle.meaning.specs.declared.value.Dual.{Dual}
use Rattle.meaning.specs.declared.value.Value.{Value}
use Rattle.meaning.specs.declared.value.Value.TheVariants.{Index, Ring}
use Rattle.meaning.specs.Values.{of_index, index_result, binary_result, ring_result, as_dual, negation_result, literal_value, whole_numbers}
use Rattle.meaning.specs.Logs.{lift, ◌>>=◌}
use Rattle.meaning.specs.Sites.{Cells, Site, place_of}
use Rattle.meaning.specs.Expressions.{value_of, values_of}
use Rattle.meaning.specs.Statements.{content_at}
use Rattle.meaning.specs.Frame.{content_by_name}
use Rattle.meaning.proofs.Parts.{bound, read_at, listed}
use Rattle.index_forms.specs.declared.difference.Extent.TheVariants.{Narrow}
use Rattle.index_forms.specs.Form.{Atom, read as read_atom, opaque, Form, form, no_terms, term, Forms, and_form}
use Rattle.index_forms.specs.Sums.{value, values, plus_scaled, fits_in}
use Rattle.index_forms.specs.Formed.{Viewed, zero_form, atom_form, FormedAll, opaque_node, node, if_narrow, keep, scaled_if, or_else, linear, negative, formed, formed_all}
use Rattle.index_law.specs.Worth.{HoldsKnown, AgreesOn, AreIndices}
use Rattle.index_forms.proofs.Worths.{value-plus}

pub times-comm : (k m : ℤ) → k *ℤ m ≡ m *ℤ k
times-comm k m =
    let p = product_is k m in
    let q = product_is m k in
    omega (arith, ints, p, q)

pub agrees_left : (v : Atom → ℤ) (site : Site) (s : Cells) (ls ms : List (Atom × Expression)) → AgreesOn v site s (ls ++ ms) → AgreesOn v site s ls
agrees_left v site s [] ms h = tt
agrees_left v site s (l ∷ ls) ms h = (h.0, agrees_left v site s ls ms h.1)

pub agrees_right : (v : Atom → ℤ) (site : Site) (s : Cells) (ls ms : List (Atom × Expression)) → AgreesOn v site s (ls ++ ms) → AgreesOn v site s ms
agrees_right v site s [] ms h = h
agrees_right v site s (l ∷ ls) ms h = agrees_right v site s ls ms h.1

worth_atom : (v : Atom → ℤ) (a : Atom) → value v (atom_form a) ≡ v a
worth_atom v a = omega (arith, ints)

opaque_value : (v : Atom → ℤ) (c : Viewed) (n : ℕ) (e : Expression) (ls : List (Atom × Expression)) (site : Site) (s : Cells) (z : ℤ) → AgreesOn v site s (opaque_node c n e ls).leaves → (value_of e site s).out ≡ Ok (Index z) → value v (opaque_node c n e ls).form ≡ z
opaque_value v c n e ls site s z h o = worth_atom v (opaque c.side c.access (suc n)) ∙ (agrees_right v site s ls ((opaque c.side c.access (suc n), e) ∷ []) h).0 z o

-- a form that is kept
narrow_by : (b : Bool) (f g : Form) → (if b then Some f else None) ≡ Some g → f ≡ g
narrow_by true f g h = cc
narrow_by false f g h = cc

narrow_is : (o : Option Form) (g : Form) → if_narrow o ≡ Some g → o ≡ Some g
narrow_is None g h = cc
narrow_is (Some f) g h = ap Some (narrow_by (fits_in Narrow f) f g h)

node_value : (v : Atom → ℤ) (c : Viewed) (n : ℕ) (e : Expression) (ls : List (Atom × Expression)) (o : Option Form) (site : Site) (s : Cells) (z : ℤ) →
    AgreesOn v site s (node c n e ls o).leaves → (value_of e site s).out ≡ Ok (Index z) → ((f : Form) → o ≡ Some f → value v f ≡ z) → value v (node c n e ls o).form ≡ z
node_value v c n e ls None site s z h o g = opaque_value v c n e ls site s z h o
node_value v c n e ls (Some f) site s z h o g = g f refl

keep_value : (v : Atom → ℤ) (c : Viewed) (n : ℕ) (e : Expression) (ls : List (Atom × Expression)) (o : Option Form) (site : Site) (s : Cells) (z : ℤ) →
    AgreesOn v site s (keep c n e ls o).leaves → (value_of e site s).out ≡ Ok (Index z) → ((f : Form) → o ≡ Some f → value v f ≡ z) → value v (keep c n e ls o).form ≡ z
keep_value v c n e ls o site s z h p g = node_value v c n e ls (if_narrow o) site s z h p (λ f i. g f (narrow_is o f i))

node_leaves : (v : Atom → ℤ) (c : Viewed) (n : ℕ) (e : Expression) (ls : List (Atom × Expression)) (o : Option Form) (site : Site) (s : Cells) → AgreesOn v site s (node c n e ls o).leaves → AgreesOn v site s ls
node_leaves v c n e ls None site s h = agrees_left v site s ls ((opaque c.side c.access (suc n), e) ∷ []) h
node_leaves v c n e ls (Some f) site s h = h

keep_leaves : (v : Atom → ℤ) (c : Viewed) (n : ℕ) (e : Expression) (ls : List (Atom × Expression)) (o : Option Form) (site : Site) (s : Cells) → AgreesOn v site s (keep c n e ls o).leaves → AgreesOn v site s ls
keep_leaves v c n e ls o site s h = node_leaves v c n e ls (if_narrow o) site s h

-- ---- results of the index kind

exact_by : (b : Bool) (y z : ℤ) → of_index (if b then Ok y else Err trap.Range) ≡ Ok (Index z) → y ≡ z
exact_by true y z h = cc
exact_by false y z h = cc

pub exact_is : (y z : ℤ) → of_index (exact_index y) ≡ Ok (Index z) → y ≡ z
unfolding exact_index
exact_is y z h = exact_by (fits_index y) y z h

pub record Wholes (op : BinOp) (x y : Value) (z : ℤ) : Type 0 where
  pub a : ℤ
  pub b : ℤ
  pub left : x ≡ Index a
  pub right : y ≡ Index b
  pub result : index_result op a b ≡ Ok (Index z)

no_ring : (op : BinOp) (d e : Dual) (z : ℤ) → ring_result op d e ≡ Ok (Index z) → ⊥
no_ring Add d e z h = cc
no_ring Sub d e z h = cc
no_ring Mul d e z h = cc
no_ring Div d e z h = cc

both_whole : (op : BinOp) (x y : Value) (z : ℤ) → binary_result op x y ≡ Ok (Index z) → Wholes op x y z
both_whole op (Index a) (Index b) z h = record { a = a; b = b; left = refl; right = refl; result = h }
both_whole op (Index a) (Ring b) z h = absurd (no_ring op (as_dual (Index a)) b z h)
both_whole op (Ring a) (Index b) z h = absurd (no_ring op a (as_dual (Index b)) z h)
both_whole op (Ring a) (Ring b) z h = absurd (no_ring op a b z h)

scaled_value : (v : Atom → ℤ) (f g h : Form) (a b : ℤ) → scaled_if f g ≡ Some h → value v f ≡ a → value v g ≡ b → value v h ≡ a *ℤ b
scaled_value v (form k no_terms) g h a b e p q =
    let i : plus_scaled k g zero_form ≡ h = cc in
    let j : k ≡ a = omega (arith, ints, p) in
    ap (value v) (sym i) ∙ (omega (arith, ints, value-plus v k g zero_form) ∙ (ap (λ (x : ℤ). k *ℤ x) q ∙ ap (λ (x : ℤ). x *ℤ b) j))
scaled_value v (form k (term c m ts)) g h a b e p q = cc

either_value : (v : Atom → ℤ) (o p : Option Form) (h : Form) (z : ℤ) → ((f : Form) → o ≡ Some f → value v f ≡ z) → ((f : Form) → p ≡ Some f → value v f ≡ z) → or_else o p ≡ Some h → value v h ≡ z
either_value v None p h z f g e = g h e
either_value v (Some x) p h z f g e = f h e

linear_value : (v : Atom → ℤ) (op : BinOp) (f g h : Form) (a b z : ℤ) → linear op f g ≡ Some h → value v f ≡ a → value v g ≡ b → index_result op a b ≡ Ok (Index z) → value v h ≡ z
linear_value v Add f g h a b z e p q r =
    let i : plus_scaled (pos 1) f g ≡ h = cc in
    ap (value v) (sym i) ∙ (omega (arith, ints, value-plus v (pos 1) f g, p, q) ∙ exact_is (a +ℤ b) z r)
linear_value v Sub f g h a b z e p q r =
    let i : plus_scaled (negsuc 0) g f ≡ h = cc in
    ap (value v) (sym i) ∙ (omega (arith, ints, value-plus v (negsuc 0) g f, p, q) ∙ exact_is (a -ℤ b) z r)
linear_value v Mul f g h a b z e p q r =
    either_value v (scaled_if f g) (scaled_if g f) h (a *ℤ b) (λ x i. scaled_value v f g x a b i p q) (λ x i. scaled_value v g f x b a i q p ∙ times-comm b a) e ∙ exact_is (a *ℤ b) z r
linear_value v Div f g h a b z e p q r = cc

pub negation_is : (x : Value) (z : ℤ) → negation_result x ≡ Ok (Index z) → (a : ℤ) × (x ≡ Index a) × (neg_ℤ a ≡ z)
negation_is (Index a) z h = (a, refl, exact_is (neg_ℤ a) z h)
negation_is (Ring a) z h = cc

minus_value : (v : Atom → ℤ) (f : Form) (a : ℤ) → value v f ≡ a → value v (plus_scaled (negsuc 0) f zero_form) ≡ neg_ℤ a
minus_value v f a p = omega (arith, ints, value-plus v (negsuc 0) f zero_form, p)

pub literal_is : (k : ℕ) (i : Kind) (z : ℤ) → literal_value k i ≡ Ok (Index z) → pos k ≡ z
literal_is k kind.Index z h = exact_is (pos k) z h
literal_is k kind.Ring z h = cc

scalar_read : (site : Site) (s : Cells) (x : List ℕ) (z : ℤ) → (value_of (get x no_expressions) site s).out ≡ Ok (Index z) → content_by_name site s x [] ≡ Some (Index z)
scalar_read site s x z h =
    let r = read_at site s x (place_of site x []) (Index z) h in
    ap (content_at s) r.found ∙ r.content

element_by : (b : Bool) (v : Atom → ℤ) (c : Viewed) (n : ℕ) (x : List ℕ) (ss : Expressions) (r : FormedAll) (site : Site) (s : Cells) (z : ℤ) →
    AgreesOn v site s (if b then record { form = atom_form (read_atom x r.forms); next = r.next; leaves = r.leaves ++ (read_atom x r.forms, get x ss) ∷ [] } else opaque_node c n (get x ss) []).leaves →
    (value_of (get x ss) site s).out ≡ Ok (Index z) →
    value v (if b then record { form = atom_form (read_atom x r.forms); next = r.next; leaves = r.leaves ++ (read_atom x r.forms, get x ss) ∷ [] } else opaque_node c n (get x ss) []).form ≡ z
element_by true v c n x ss r site s z h o = worth_atom v (read_atom x r.forms) ∙ (agrees_right v site s r.leaves ((read_atom x r.forms, get x ss) ∷ []) h).0 z o
element_by false v c n x ss r site s z h o = opaque_value v c n (get x ss) [] site s z h o

pub sound : (v : Atom → ℤ) (c : Viewed) (n : ℕ) (e : Expression) (site : Site) (s : Cells) → HoldsKnown v c.known site s → AgreesOn v site s (formed c n e).leaves → (z : ℤ) → (value_of e site s).out ≡ Ok (Index z) → value v (formed c n e).form ≡ z
sound v c n (literal k i) site s h g z o = keep_value v c n (literal k i) [] (Some (form (pos k) no_terms)) site s z g o (λ f e. (let p = literal_is k i z o in let j : form (pos k) no_terms ≡ f = cc in ap (value v) (sym j) ∙ omega (arith, ints, p)))
sound v c n (get x no_expressions) site s h g z o = keep_value v c n (get x no_expressions) [] (c.known x) site s z g o (λ f p. h x f z p (scalar_read site s x z o))
sound v c n (get x (expression e es)) site s h g z o = element_by (c.fixed x) v c n x (expression e es) (formed_all c n (expression e es)) site s z g o
sound v c n (minus a) site s h g z o =
    let f = bound (value_of a site s) (λ x. lift (negation_result x)) (Index z) o in
    let w = negation_is f.value z f.second in
    let r = formed c n a in
    let p : value v r.form ≡ w.0 = sound v c n a site s h (keep_leaves v c r.next (minus a) r.leaves (Some (negative r.form)) site s g) w.0 (f.first ∙ ap (λ (x : Value). Ok x) w.1) in
    keep_value v c r.next (minus a) r.leaves (Some (negative r.form)) site s z g o (λ y e. (let j : negative r.form ≡ y = cc in ap (value v) (sym j) ∙ (minus_value v r.form w.0 p ∙ w.2)))
sound v c n (binary op a b) site s h g z o =
    let f = bound (value_of a site s) (λ x. value_of b site s >>= (λ y. lift (binary_result op x y))) (Index z) o in
    let i = bound (value_of b site s) (λ y. lift (binary_result op f.value y)) (Index z) f.second in
    let w = both_whole op f.value i.value z i.second in
    let r = formed c n a in
    let t = formed c r.next b in
    let ls = keep_leaves v c t.next (binary op a b) (r.leaves ++ t.leaves) (linear op r.form t.form) site s g in
    let p : value v r.form ≡ w.a = sound v c n a site s h (agrees_left v site s r.leaves t.leaves ls) w.a (f.first ∙ ap (λ (x : Value). Ok x) w.left) in
    let q : value v t.form ≡ w.b = sound v c r.next b site s h (agrees_right v site s r.leaves t.leaves ls) w.b (i.first ∙ ap (λ (x : Value). Ok x) w.right) in
    keep_value v c t.next (binary op a b) (r.leaves ++ t.leaves) (linear op r.form t.form) site s z g o (λ y e. linear_value v op r.form t.form y w.a w.b z e p q w.result)
sound v c n (power a k) site s h g z o = opaque_value v c n (power a k) [] site s z g o
sound v c n (call k es) site s h g z o = opaque_value v c n (call k es) [] site s z g o

cons_case : (v : Atom → ℤ) (f : Form) (fs : Forms) (x : Value) (more : List Value) → AreIndices (x ∷ more) → ((z : ℤ) → x ≡ Index z → value v f ≡ z) → (AreIndices more → values v fs ≡ whole_numbers more) → values v (and_form f fs) ≡ whole_numbers (x ∷ more)
cons_case v f fs (Index z) more i p q = let a = p z refl in let b = q i in cc
cons_case v f fs (Ring d) more i p q = absurd i

-- the subscripts of an access
pub sound_all : (v : Atom → ℤ) (c : Viewed) (n : ℕ) (es : Expressions) (site : Site) (s : Cells) → HoldsKnown v c.known site s → AgreesOn v site s (formed_all c n es).leaves → (vs : List Value) → (values_of es site s).out ≡ Ok vs → AreIndices vs →
    values v (formed_all c n es).forms ≡ whole_numbers vs
sound_all v c n no_expressions site s h g vs o i = let e : [] ≡ vs = cc in ap whole_numbers e
sound_all v c n (expression e es) site s h g vs o i =
    let f = listed site s e es vs o in
    let r = formed c n e in
    let t = formed_all c r.next es in
    cons_case v r.form t.forms f.value f.more (subst AreIndices f.whole i)
    (λ z p. sound v c n e site s h (agrees_left v site s r.leaves t.leaves g) z (f.first ∙ ap (λ (x : Value). Ok x) p))
    (λ j. sound_all v c r.next es site s h (agrees_right v site s r.leaves t.leaves g) f.more f.second j)
    ∙ ap whole_numbers (sym f.whole)
