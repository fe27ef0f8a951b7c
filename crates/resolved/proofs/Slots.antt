-- The name of the slot that was found for a name is that name.
use Rattle.std.specs.Prelude.{◌≡◌, ℕ, zero, suc, ◌<◌, length, Bool, true, false, cond, List, [], ◌∷◌, Option, Some, None, option_map, bytes_eq, refl}
use Rattle.std.proofs.Common.{ap, sym, ◌∙◌, subst, arith, rules}
use Rattle.std.proofs.lemmas.Slice.Eq.{bytes_eq-Decides}
use Rattle.store_core.specs.declared.layout.Shape.{Shape}
use Rattle.store_core.specs.Keys.{slot_of, IsApart, HasEachOnce}
use Rattle.store_core.proofs.Slots.{turned, same_name}
use Rattle.std.specs.Prelude.{map, is_some, ◌++◌, ◌&&◌, nat_lt}
use Rattle.fl_ast.specs.declared.directive.Directive.{Directive}
use Rattle.resolved.specs.declared.resolved.ResolvedHead.{ResolvedHead}
use Rattle.resolved.specs.declared.resolved.ResolvedStmt.{ResolvedStmt, the_lemmas as statement_lemmas}
use Rattle.resolved.specs.declared.resolved.ResolvedStmt.TheVariants as stmts
use Rattle.resolved.specs.declared.resolved.ResolvedArm.{ResolvedArm}
use Rattle.resolved.specs.SlotTables.{Names}
use Rattle.resolved.specs.ResolvedStmts.{option_back, statement_back, statements_back, arm_back, arms_back, is_option_within, is_fit, is_arm_fit, are_fit, are_arms_fit}
use Rattle.std.proofs.lemmas.Bool.{and_from, and_parts, lt-ltb}
use Rattle.std.proofs.lemmas.List.{map-append}
use Rattle.fl_ast.specs.Tree.{Expressions, Designator, branch, loop}
use Rattle.resolved.specs.declared.resolved.ResolvedExpr.{ResolvedExpr}
use Rattle.resolved.specs.ResolvedExprs.{slot_name, expression_back, condition_back, is_condition_within, all_of, is_within, are_within}

later : (s : Shape) (es : List Shape) (x : List ℕ) (k : ℕ) (o : Option ℕ) → ((j : ℕ) → o ≡ Some j → slot_name es j ≡ x) → option_map suc o ≡ Some k → slot_name (s ∷ es) k ≡ x
later s es x k None f e = cc
later s es x k (Some j) f e =
    let q : suc j ≡ k = cc in
    let P : ℕ → Type 0 = λ n. slot_name (s ∷ es) n ≡ x in subst P q (f j refl)

slot_stands_by : (s : Shape) (es : List Shape) (x : List ℕ) (k : ℕ) (b : Bool) → bytes_eq x s.name ≡ b → ((j : ℕ) → slot_of es x ≡ Some j → slot_name es j ≡ x)
    → cond b (Some 0) (option_map suc (slot_of es x)) ≡ Some k → slot_name (s ∷ es) k ≡ x
slot_stands_by s es x k true t f e =
    let q : 0 ≡ k = cc in
    let P : ℕ → Type 0 = λ n. slot_name (s ∷ es) n ≡ x in subst P q (sym ((bytes_eq-Decides x s.name).0 t))
slot_stands_by s es x k false t f e = later s es x k (slot_of es x) f e

stands : (es : List Shape) (x : List ℕ) (k : ℕ) → slot_of es x ≡ Some k → slot_name es k ≡ x
stands [] x k e = cc
stands (s ∷ es) x k e = slot_stands_by s es x k (bytes_eq x s.name) refl (λ j f. stands es x j f) e

pub slot_stands : (es : List Shape) (x : List ℕ) (k : ℕ) → Some k ≡ slot_of es x → slot_name es k ≡ x
slot_stands es x k e = stands es x k (sym e)

abbrev designator : List ℕ → Expressions → Designator
designator x y = record { name = x; subscripts = y }

pub designators : (a b : List ℕ) (s t : Expressions) → a ≡ b → s ≡ t → designator a s ≡ designator b t
designators a b s t e f = ap (λ (x : List ℕ). designator x s) e ∙ ap (λ (y : Expressions). designator b y) f

pub found_some : (o : Option ℕ) (k : ℕ) → Some k ≡ o → is_some o ≡ true
found_some None k e = cc
found_some (Some j) k e = refl

pub ruleset slots = (slot_stands, found_some, lt-ltb)

all_more : (bs : List Bool) (b : Bool) → all_of bs ≡ true → b ≡ true → all_of (bs ++ b ∷ []) ≡ true
all_more [] b h g = and_from b true g refl
all_more (a ∷ bs) b h g =
    let p : (a ≡ true) × (all_of bs ≡ true) = and_parts a (all_of bs) h in
    and_from a _ p.0 (all_more bs b p.1 g)

-- all pass a test, and one more
pub all_pushed : {A : Type 0} (p : A → Bool) (xs : List A) (x : A) → all_of (map p xs) ≡ true → p x ≡ true → all_of (map p (xs ++ x ∷ [])) ≡ true
all_pushed p xs x h g = subst (λ (bs : List Bool). all_of bs ≡ true) (sym (map-append p xs (x ∷ []))) (all_more (map p xs) (p x) h g)

pub within_push : (n : ℕ) (exprs : List ResolvedExpr) (expr : ResolvedExpr) → are_within n exprs ≡ true → is_within n expr ≡ true → are_within n (exprs ++ expr ∷ []) ≡ true
within_push n exprs expr h g = all_pushed (is_within n) exprs expr h g

apart_name : (es : List Shape) (k : ℕ) (x : List ℕ) → IsApart x es → k < length es → bytes_eq (slot_name es k) x ≡ false
apart_name [] k x h l = absurd (omega arith)
apart_name (e ∷ es) zero x h l = turned x e.name _ h.0 refl
apart_name (e ∷ es) (suc k) x h l = apart_name es k x h.1 (omega arith)

-- names that stand once are found at their slots
pub slot_again : (es : List Shape) (k : ℕ) → HasEachOnce es → k < length es → slot_of es (slot_name es k) ≡ Some k
slot_again [] k h l = absurd (omega arith)
slot_again (s ∷ es) zero h l = rw (same_name s.name) refl
slot_again (s ∷ es) (suc k) h l = rw (apart_name es k s.name h.0 (omega arith)) (ap (option_map suc) (slot_again es k h.1 (omega arith)))

fit_parts : (a b c d e : Bool) → (a && (b && (c && (d && e)))) ≡ true → (a ≡ true) × (b ≡ true) × (c ≡ true) × (d ≡ true) × (e ≡ true)
fit_parts a b c d e h =
    let p = and_parts a (b && (c && (d && e))) h in
    let q = and_parts b (c && (d && e)) p.1 in
    let r = and_parts c (d && e) q.1 in
    let t = and_parts d e r.1 in
    (p.0, q.0, r.0, t.0, t.1)

-- the parts of a loop that fits: its variable, first, last, step and body
pub do_fit : (names : Names) (stmt : ResolvedStmt) (line number : ℕ) (directive : Option Directive) (head : ResolvedHead) (body : List ResolvedStmt) → stmt ≡ stmts.Do line number directive head body
    → is_fit names stmt ≡ true
    → (nat_lt head.variable (length names.0) ≡ true) × (is_within (length names.0) head.first ≡ true) × (is_within (length names.0) head.last ≡ true)
    × (is_option_within (length names.0) head.step ≡ true) × (are_fit names body ≡ true)
do_fit names stmt line number directive head body e h =
    let f : is_fit names stmt
    ≡ (nat_lt head.variable (length names.0) && (is_within (length names.0) head.first && (is_within (length names.0) head.last && (is_option_within (length names.0) head.step && are_fit names body))))
    = search (rules, statement_lemmas) in
    fit_parts (nat_lt head.variable (length names.0)) (is_within (length names.0) head.first) (is_within (length names.0) head.last) (is_option_within (length names.0) head.step) (are_fit names body) (sym f ∙ h)

-- and of an `if`
pub if_fit : (names : Names) (stmt : ResolvedStmt) (line : ℕ) (arms : List ResolvedArm) (other : List ResolvedStmt) → stmt ≡ stmts.If line arms other → is_fit names stmt ≡ true
    → (are_arms_fit names arms ≡ true) × (are_fit names other ≡ true)
if_fit names stmt line arms other e h =
    let f : is_fit names stmt ≡ (are_arms_fit names arms && are_fit names other) = search (rules, statement_lemmas) in
    and_parts (are_arms_fit names arms) (are_fit names other) (sym f ∙ h)

-- the trees that they stand for
pub do_back : (shapes : List Shape) (stmt : ResolvedStmt) (line number : ℕ) (directive : Option Directive) (head : ResolvedHead) (body : List ResolvedStmt) → stmt ≡ stmts.Do line number directive head body
    → statement_back shapes stmt
    ≡ loop line number directive (slot_name shapes head.variable) (expression_back shapes head.first) (expression_back shapes head.last) (option_back shapes head.step) (statements_back shapes body)
do_back shapes stmt line number directive head body e = search (rules, statement_lemmas)

pub if_back : (shapes : List Shape) (stmt : ResolvedStmt) (line : ℕ) (arms : List ResolvedArm) (other : List ResolvedStmt) → stmt ≡ stmts.If line arms other
    → statement_back shapes stmt ≡ branch line (arms_back shapes arms) (statements_back shapes other)
if_back shapes stmt line arms other e = search (rules, statement_lemmas)

pub arm_fit : (names : Names) (a : ResolvedArm) → is_arm_fit names a ≡ true → (is_condition_within (length names.0) a.test ≡ true) × (are_fit names a.body ≡ true)
arm_fit names a h =
    let f : is_arm_fit names a ≡ (is_condition_within (length names.0) a.test && are_fit names a.body) = search (rules, statement_lemmas) in
    and_parts (is_condition_within (length names.0) a.test) (are_fit names a.body) (sym f ∙ h)

pub one_arm_back : (shapes : List Shape) (a : ResolvedArm) → arm_back shapes a ≡ (condition_back shapes a.test, statements_back shapes a.body)
one_arm_back shapes a = search (rules, statement_lemmas)
