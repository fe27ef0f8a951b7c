-- Evaluations of split trees make the loads of the trees that they stand for, and give their numbers.
use Rattle.std.specs.Prelude.{◌≡◌, ℕ, ◌<◌, ◌-◌, ℤ, Bool, true, false, ◌&&◌, cond, if◌then◌else◌, nat_lt, List, [], ◌∷◌, ◌++◌, length, Option, Some, None, Result, Ok, Err, slice_index, refl}
use Rattle.std.proofs.Common.{ap, sym, subst, ◌∙◌, arith}
use Rattle.std.proofs.lemmas.Bool.{and_parts}
use Rattle.std.proofs.lemmas.Bool.Decides.{nat_tests}
use Rattle.ring_core.specs.declared.index.IndexTrap.{IndexTrap}
use Rattle.fl_ast.specs.declared.kind.Kind.{Kind}
use Rattle.fl_ast.specs.declared.kind.Kind.TheVariants as kind
use Rattle.fl_ast.specs.declared.kind.Fun.{Fun}
use Rattle.fl_ast.specs.Tree.{Expression, call, Expressions, no_expressions, expression}
use Rattle.fl_types.specs.Kinds.{is_index_kind}
use Rattle.fl_types.specs.Sharing.{is_ring_kind}
use Rattle.store_core.specs.declared.layout.Shape.{Shape}
use Rattle.store_core.specs.Keys.{place_in_slot, first_at, same_key}
use Rattle.operations.specs.declared.op.Op.TheVariants.{Load}
use Rattle.operations.specs.Tree.{Tree, done, loads, ◌giving◌}
use Rattle.meaning.specs.declared.value.Value.{Value}
use Rattle.meaning.specs.declared.value.Value.TheVariants.{Index, Ring}
use Rattle.meaning.specs.Values.{Found, as_dual, of_index, whole_numbers, call_result}
use Rattle.meaning.specs.Sites.{Site, place_of, kind_of}
use Rattle.resolved.specs.SlotTables.{Names, kind_at}
use Rattle.resolved.specs.ResolvedExprs.{slot_name}
use Rattle.dual_evaluation.proofs.Located.{place_by_slot}
use Rattle.transposition.specs.Worlds.{World, Local, at_place, value_load}
use Rattle.transposition.specs.Reads.{value_from, value_or_zero, read_at, value_tree, values_tree, place_tree}
use Rattle.sweep_trees.specs.Split.{SpotTree, scalar, element, elements, IndexTree, index_get, IndexTrees}
use Rattle.sweep_trees.specs.Standing.{one, two, is_accessed_at, same_flag, is_place, is_slot, spot_back, index_back, indices_back, is_spot_fit, is_index_fit, are_indices_fit}
use Rattle.sweep_evaluation.specs.Machine.{Ran, ran, ◌to◌, exactly, narrow, load_at, spot_slot, is_accessed, spot_place, spot_word, index_value, index_values}
use Rattle.undo_steps.specs.UndosStand.{unwatched}
use Rattle.reverse_sweep.specs.Reversing.{Stage, Reversing, reversing, told}
use Rattle.reverse_law.specs.Reverse.{IsNamed}
use Rattle.reverse_law.proofs.Going.{go, go_giving, go_through}

-- ---- one tree and one run

-- the same stage, and a number that stands for the value; the iteration's own words are as before
pub record Matches {X A : Type 0} (l : Local) (R : X → A → Type 0) (r : Ran Stage X) (q : Ran Reversing A) : Type 0 where
  pub value : R r.out q.out
  pub state : q.state ≡ reversing l r.state

abbrev pub Evaluates : {X A : Type 0} → Local → Tree X → (X → A → Type 0) → (Reversing → Ran Reversing A) → Type 0
Evaluates l t R m = (cells : ℕ → Bool) (g : Stage) → Matches l R (go cells t g) (m (reversing l g))

pub eval_done : {X A : Type 0} (l : Local) (R : X → A → Type 0) (x : X) (a : A) → R x a → Evaluates l (done x) R (ran a)
eval_done l R x a h = λ cells g. record { value = h; state = refl }

pub eval_then : {X Y A B : Type 0} (l : Local) (t : Tree X) (f : X → Tree Y) (R : X → A → Type 0) (Q : Y → B → Type 0) (m : Reversing → Ran Reversing A) (h : A → Reversing → Ran Reversing B)
    → Evaluates l t R m → ((x : X) (a : A) → R x a → Evaluates l (f x) Q (h a)) → Evaluates l (t giving f) Q (λ s. m s to h)
eval_then l t f R Q m h d e = λ cells g.
    let q = m (reversing l g) in
    subst (λ r. Matches l Q r (h q.out q.state)) (sym (go_giving cells t f g))
    (subst (λ (s : Reversing). Matches l Q (go cells (f (go cells t g).out) (go cells t g).state) (h q.out s)) (sym (d cells g).state) (e (go cells t g).out q.out (d cells g).value cells (go cells t g).state))

pub eval_map : {X Y A B : Type 0} (l : Local) (t : Tree X) (f : X → Y) (R : X → A → Type 0) (Q : Y → B → Type 0) (m : Reversing → Ran Reversing A) (h : A → B)
    → Evaluates l t R m → ((x : X) (a : A) → R x a → Q (f x) (h a)) → Evaluates l (t giving (λ x. done (f x))) Q (λ s. m s to (λ a. ran (h a)))
eval_map l t f R Q m h d e = eval_then l t (λ x. done (f x)) R Q m (λ a. ran (h a)) d (λ x a r. eval_done l Q (f x) (h a) (e x a r))

pub eval_two : {X Y Z A B C : Type 0} (l : Local) (t : Tree X) (u : Tree Y) (f : X → Y → Tree Z) (R : X → A → Type 0) (Q : Y → B → Type 0) (W : Z → C → Type 0)
    (m : Reversing → Ran Reversing A) (n : Reversing → Ran Reversing B) (h : A → B → Reversing → Ran Reversing C)
    → Evaluates l t R m → Evaluates l u Q n → ((x : X) (y : Y) (a : A) (b : B) → R x a → Q y b → Evaluates l (f x y) W (h a b))
    → Evaluates l (t giving (λ x. u giving f x)) W (λ s. m s to (λ a s. n s to h a))
eval_two l t u f R Q W m n h d e k =
    eval_then l t (λ x. u giving f x) R W m (λ a s. n s to h a) d (λ x a r. eval_then l u (f x) Q W n (h a) e (λ y b q. k x y a b r q))

pub eval_same : {X A : Type 0} (l : Local) (t u : Tree X) (R : X → A → Type 0) (m : Reversing → Ran Reversing A) → ((cells : ℕ → Bool) (g : Stage) → go cells t g ≡ go cells u g) → Evaluates l t R m → Evaluates l u R m
eval_same l t u R m e d = λ cells g. subst (λ r. Matches l R r (m (reversing l g))) (e cells g) (d cells g)

-- ---- values

abbrev pub IsSame : {A : Type 0} → A → A → Type 0
IsSame a b = a ≡ b

abbrev pub IsNumber : Value → ℤ → Type 0
IsNumber v z = v ≡ Index z

abbrev pub IsRing : Value → Type 0
IsRing (Ring d) = Unit {0}
IsRing (Index z) = ⊥

-- the word of a value as one of the ring kind, and of which kind it was
abbrev pub IsWord : Bool → Value → ℕ → Type 0
IsWord b v x = ((as_dual v).value ≡ x) × (b ≡ false → IsRing v)

abbrev pub AreNumbers : List Value → List ℤ → Type 0
AreNumbers vs zs = whole_numbers vs ≡ zs

pub eval_exactly : (l : Local) (n : ℕ) (found : Found) (r : Result ℤ IndexTrap) → found ≡ of_index r → Evaluates l (done (value_or_zero found)) IsNumber (exactly (told n) r)
eval_exactly l n found r e = subst (λ (f : Found). Evaluates l (done (value_or_zero f)) IsNumber (exactly (told n) r)) (sym e) (by_result r)
  where
    by_result : (r : Result ℤ IndexTrap) → Evaluates l (done (value_or_zero (of_index r))) IsNumber (exactly (told n) r)
    by_result (Ok z) = λ cells g. record { value = refl; state = refl }
    by_result (Err t) = λ cells g. record { value = refl; state = refl }

-- a load, at a place that may not be
pub eval_load : (w : World) (l : Local) (slot : ℕ) (accessed : Bool) (o : Option ℕ) → Evaluates l (at_place (done 0) (value_load w l) o) IsSame (load_at (told w.shared) slot accessed o)
eval_load w l slot accessed None = λ cells g. record { value = refl; state = refl }
eval_load w l slot accessed (Some p) = λ cells g. by_test (nat_lt p w.shared) cells g
  where
    by_test : (b : Bool) (cells : ℕ → Bool) (g : Stage) → Matches l IsSame (go cells (cond b (loads p (λ x. done x)) (done (slice_index l.values (p - w.shared)))) g)
        (ran (if b then slice_index g.cells p else slice_index l.values (p - w.shared)) (if b then reversing l (record g { ops = g.ops ++ Load p ∷ [] }) else reversing l g))
    by_test true cells g = record { value = refl; state = refl }
    by_test false cells g = record { value = refl; state = refl }

-- ---- occurrences

pub record IsAt (names : Names) (site : Site) (of_kind : Kind → Bool) (slot : ℕ) : Type 0 where
  pub below : slot < length names.0
  pub kinded : of_kind (kind_of site (slot_name names.0 slot)) ≡ true

slot_below : (a b : ℕ) → nat_lt a b ≡ true → a < b
slot_below a b h = grind (arith, nat_tests)

pub is_at : (names : Names) (site : Site) → IsNamed names site → (of_kind : Kind → Bool) (slot : ℕ) (accessed : Bool) → is_slot names unwatched of_kind slot accessed ≡ true → IsAt names site of_kind slot
is_at names site s of_kind slot accessed h =
    let p = and_parts (nat_lt slot (length names.0)) (of_kind (kind_at names.1 slot) && same_flag accessed (is_accessed_at unwatched slot)) h in
    let q = and_parts (of_kind (kind_at names.1 slot)) (same_flag accessed (is_accessed_at unwatched slot)) p.1 in
    let b = slot_below slot (length names.0) p.0 in
    record { below = b; kinded = ap of_kind (s.kinds slot b) ∙ q.0 }

pub spot_at : (names : Names) (site : Site) → IsNamed names site → (of_kind : Kind → Bool) (p : SpotTree) → is_spot_fit names unwatched of_kind p ≡ true → IsAt names site of_kind (spot_slot p)
spot_at names site s of_kind (scalar slot place accessed) h = is_at names site s of_kind slot accessed (and_parts (is_slot names unwatched of_kind slot accessed) (is_place (place_in_slot names.0 slot []) place) h).0
spot_at names site s of_kind (element slot accessed i) h = is_at names site s of_kind slot accessed (and_parts (is_slot names unwatched of_kind slot accessed) (is_index_fit names unwatched i) h).0
spot_at names site s of_kind (elements slot accessed is) h = is_at names site s of_kind slot accessed (and_parts (is_slot names unwatched of_kind slot accessed) (are_indices_fit names unwatched is) h).0

pub slot_named : (shapes : List Shape) (p : SpotTree) → (spot_back shapes p).name ≡ slot_name shapes (spot_slot p)
slot_named shapes (scalar slot place accessed) = refl
slot_named shapes (element slot accessed i) = refl
slot_named shapes (elements slot accessed is) = refl

place_found : (o : Option ℕ) (p : ℕ) → is_place o p ≡ true → o ≡ Some p
place_found None p h = cc
place_found (Some q) p h = let e : q ≡ p = grind (arith, nat_tests) in ap Some e

pub placed : (names : Names) (site : Site) → IsNamed names site → (slot : ℕ) → slot < length names.0 → (zs : List ℤ) → place_in_slot names.0 slot zs ≡ place_of site (slot_name names.0 slot) zs
placed names site s slot b zs = place_by_slot names slot zs b ∙ ap (λ ks. first_at (same_key (slot_name names.0 slot, zs)) ks) (sym s.keys)

abbrev pub AtPlace : Names → World → Local → SpotTree → Type 0
AtPlace names w l p = Evaluates l (place_tree (spot_back names.0 p) w l) IsSame (spot_place (told w.shared) names p)

abbrev pub AtIndex : Names → World → Local → IndexTree → Type 0
AtIndex names w l i = Evaluates l (value_tree (index_back names.0 i) w l) IsNumber (index_value (told w.shared) names i)

abbrev pub AtIndices : Names → World → Local → IndexTrees → Type 0
AtIndices names w l is = Evaluates l (values_tree (indices_back names.0 is) w l) AreNumbers (index_values (told w.shared) names is)

pub at_scalar : (names : Names) (w : World) → IsNamed names w.site → (l : Local) (of_kind : Kind → Bool) (slot place : ℕ) (accessed : Bool) → is_spot_fit names unwatched of_kind (scalar slot place accessed) ≡ true → AtPlace names w l (scalar slot place accessed)
at_scalar names w s l of_kind slot place accessed h =
    let p = and_parts (is_slot names unwatched of_kind slot accessed) (is_place (place_in_slot names.0 slot []) place) h in
    let b = is_at names w.site s of_kind slot accessed p.0 in
    λ cells g. record { value = sym (placed names w.site s slot b.below []) ∙ place_found (place_in_slot names.0 slot []) place p.1; state = refl }

pub at_subscripts : (names : Names) (w : World) → IsNamed names w.site → (l : Local) (slot : ℕ) → slot < length names.0 → (ss : Expressions) (m : Reversing → Ran Reversing (List ℤ)) → Evaluates l (values_tree ss w l) AreNumbers m
    → Evaluates l (place_tree (record { name = slot_name names.0 slot; subscripts = ss }) w l) IsSame (λ s. m s to (λ zs. ran (place_in_slot names.0 slot zs)))
at_subscripts names w s l slot b ss m d =
    eval_map l (values_tree ss w l) (λ vs. place_of w.site (slot_name names.0 slot) (whole_numbers vs)) AreNumbers IsSame m (place_in_slot names.0 slot) d
    (λ vs zs r. ap (place_of w.site (slot_name names.0 slot)) r ∙ sym (placed names w.site s slot b zs))

pub at_one : (names : Names) (w : World) (l : Local) (i : IndexTree) → AtIndex names w l i → Evaluates l (values_tree (one (index_back names.0 i)) w l) AreNumbers (λ s. index_value (told w.shared) names i s to (λ z. ran (z ∷ [])))
at_one names w l i d =
    eval_map l (value_tree (index_back names.0 i) w l) (λ v. v ∷ []) IsNumber AreNumbers (index_value (told w.shared) names i) (λ z. z ∷ []) d (λ v z r. rw r refl)

-- a word read at an occurrence
abbrev IsReadAs : Kind → Value → ℕ → Type 0
IsReadAs k v x = v ≡ value_from k x

pub at_word : (names : Names) (w : World) (l : Local) (p : SpotTree) → AtPlace names w l p
    → Evaluates l (value_tree (Rattle.fl_ast.specs.Tree.get (spot_back names.0 p).name (spot_back names.0 p).subscripts) w l) (IsReadAs (kind_of w.site (spot_back names.0 p).name)) (spot_word (told w.shared) names p)
at_word names w l p d =
    let q = spot_back names.0 p in
    eval_same l (place_tree q w l giving read_at w l q.name) (value_tree (Rattle.fl_ast.specs.Tree.get q.name q.subscripts) w l) (IsReadAs (kind_of w.site q.name)) (spot_word (told w.shared) names p)
    (λ cells. go_through cells (values_tree q.subscripts w l) (λ vs. place_of w.site q.name (whole_numbers vs)) (read_at w l q.name))
    (eval_then l (place_tree q w l) (read_at w l q.name) IsSame (IsReadAs (kind_of w.site q.name)) (spot_place (told w.shared) names p) (load_at (told w.shared) (spot_slot p) (is_accessed p)) d
    (λ o o' r. subst (λ (x : Option ℕ). Evaluates l (read_at w l q.name x) (IsReadAs (kind_of w.site q.name)) (load_at (told w.shared) (spot_slot p) (is_accessed p) o')) (sym r)
    (eval_map l (at_place (done 0) (value_load w l) o') (value_from (kind_of w.site q.name)) IsSame (IsReadAs (kind_of w.site q.name)) (load_at (told w.shared) (spot_slot p) (is_accessed p) o') (λ (x : ℕ). x)
    (eval_load w l (spot_slot p) (is_accessed p) o') (λ x y e. ap (value_from (kind_of w.site q.name)) e))))

index_of_kind : (k : Kind) (v : Value) (x : ℕ) → is_index_kind k ≡ true → IsReadAs k v x → IsNumber v (narrow x)
index_of_kind kind.Index v x h r = r
index_of_kind kind.Ring v x h r = cc

pub word_of_kind : (k : Kind) (v : Value) (x : ℕ) → is_ring_kind k ≡ true → IsReadAs k v x → IsWord false v x
word_of_kind kind.Ring v x h r = rw r (refl, λ e. tt)
word_of_kind kind.Index v x h r = cc

pub at_number : (names : Names) (w : World) → IsNamed names w.site → (l : Local) (p : SpotTree) → is_spot_fit names unwatched is_index_kind p ≡ true → AtPlace names w l p → AtIndex names w l (index_get p)
at_number names w s l p h d =
    let q = spot_back names.0 p in
    let k : is_index_kind (kind_of w.site q.name) ≡ true = ap (λ y. is_index_kind (kind_of w.site y)) (slot_named names.0 p) ∙ (spot_at names w.site s is_index_kind p h).kinded in
    λ cells g. let m = at_word names w l p d cells g in record { value = index_of_kind (kind_of w.site q.name) (go cells (value_tree (index_back names.0 (index_get p)) w l) g).out (spot_word (told w.shared) names p (reversing l g)).out k m.value; state = m.state }

-- ---- calls

pub eval_argument : {A B : Type 0} (w : World) (l : Local) (a : Expression) (f : Fun) (R : Value → A → Type 0) (Q : Value → B → Type 0) (m : Reversing → Ran Reversing A) (h : A → Reversing → Ran Reversing B)
    → Evaluates l (value_tree a w l) R m → ((v : Value) (x : A) → R v x → Evaluates l (done (value_or_zero (call_result w.site.width f (v ∷ [])))) Q (h x))
    → Evaluates l (value_tree (call f (one a)) w l) Q (λ s. m s to h)
eval_argument w l a f R Q m h d e =
    let next : List Value → Tree Value = λ vs. done (value_or_zero (call_result w.site.width f vs)) in
    eval_same l (value_tree a w l giving (λ v. next (v ∷ []))) (value_tree (call f (one a)) w l) Q (λ s. m s to h)
    (λ cells g. sym (go_through cells (value_tree a w l) (λ v. v ∷ []) next g))
    (eval_then l (value_tree a w l) (λ v. next (v ∷ [])) R Q m h d e)

pub eval_arguments : {A B C : Type 0} (w : World) (l : Local) (a b : Expression) (f : Fun) (R : Value → A → Type 0) (S : Value → B → Type 0) (Q : Value → C → Type 0)
    (m : Reversing → Ran Reversing A) (n : Reversing → Ran Reversing B) (h : A → B → Reversing → Ran Reversing C)
    → Evaluates l (value_tree a w l) R m → Evaluates l (value_tree b w l) S n
    → ((v u : Value) (x : A) (y : B) → R v x → S u y → Evaluates l (done (value_or_zero (call_result w.site.width f (v ∷ u ∷ [])))) Q (h x y))
    → Evaluates l (value_tree (call f (two a b)) w l) Q (λ s. m s to (λ x t. n t to h x))
eval_arguments w l a b f R S Q m n h d e k =
    let next : List Value → Tree Value = λ vs. done (value_or_zero (call_result w.site.width f vs)) in
    eval_same l (value_tree a w l giving (λ v. value_tree b w l giving (λ u. next (v ∷ u ∷ [])))) (value_tree (call f (two a b)) w l) Q (λ s. m s to (λ x t. n t to h x))
    (λ cells g. by_two cells (value_tree a w l) (value_tree b w l) next g)
    (eval_two l (value_tree a w l) (value_tree b w l) (λ v u. next (v ∷ u ∷ [])) R S Q m n h d e k)
  where
    by_two : (cells : ℕ → Bool) (t u : Tree Value) (next : List Value → Tree Value) (g : Stage) → go cells (t giving (λ v. u giving (λ x. next (v ∷ x ∷ [])))) g ≡ go cells ((t giving (λ v. (u giving (λ x. done (x ∷ []))) giving (λ vs. done (v ∷ vs)))) giving next) g
    by_two cells t u next g =
        let r = go cells t g in
        go_giving cells t (λ v. u giving (λ x. next (v ∷ x ∷ []))) g
        ∙ (go_giving cells u (λ x. next (r.out ∷ x ∷ [])) r.state
        ∙ (sym (go_giving cells (u giving (λ x. done (x ∷ []))) (λ vs. next (r.out ∷ vs)) r.state ∙ ap (λ q. go cells (next (r.out ∷ q.out)) q.state) (go_giving cells u (λ x. done (x ∷ [])) r.state))
        ∙ sym (go_giving cells (t giving (λ v. (u giving (λ x. done (x ∷ []))) giving (λ vs. done (v ∷ vs)))) next g
        ∙ (ap (λ q. go cells (next q.out) q.state) (go_giving cells t (λ v. (u giving (λ x. done (x ∷ []))) giving (λ vs. done (v ∷ vs))) g)
        ∙ sym (go_giving cells ((u giving (λ x. done (x ∷ []))) giving (λ vs. done (r.out ∷ vs))) next r.state) ∙ go_through cells (u giving (λ x. done (x ∷ []))) (λ vs. r.out ∷ vs) next r.state))))
