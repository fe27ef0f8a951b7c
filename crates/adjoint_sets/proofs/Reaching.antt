-- The names that are reached: all that are begun with are there, the list is closed under the edges, and it is the least such list.
use Rattle.std.proofs.Common.{◌≡◌, ◌↔◌, ◌⊎◌, inl, inr, ℕ, Bool, true, false, ◌||◌, if◌then◌else◌, bytes_eq, List, [], ◌∷◌, filter, refl, ap, sym, subst, ◌∙◌, arith}
use Rattle.std.proofs.lemmas.Slice.Eq.{bytes_eq-Decides}
use Rattle.std.proofs.lemmas.Bool.{or_cases}
use Rattle.fl_ast.specs.declared.decl.Decl.{Decl}
use Rattle.fl_types.specs.Sharing.{has_name}
use Rattle.reachability.specs.Reached.{Edge, IsAmong, IsReached, root, onward, Joins}
use Rattle.reachability.specs.Named.{is_declared, are_both_declared, IsReachedName}
use Rattle.adjoint_sets.specs.Reach.{reach, is_reached_name}

or_right : (a b : Bool) → b ≡ true → (a || b) ≡ true
or_right true b e = refl
or_right false b e = e

pub named : (x : List ℕ) (xs : List (List ℕ)) → IsAmong xs x → has_name x xs ≡ true
named x [] h = absurd h
named x (y ∷ ys) (inl e) = rw ((bytes_eq-Decides x y).1 (sym e)) refl
named x (y ∷ ys) (inr h) = or_right (bytes_eq x y) (has_name x ys) (named x ys h)

pub among : (x : List ℕ) (xs : List (List ℕ)) → has_name x xs ≡ true → IsAmong xs x
among x [] h = absurd (grind (arith, h))
among x (y ∷ ys) h = elim (or_cases (bytes_eq x y) (has_name x ys) h) [
  | inl e ↦ inl (sym ((bytes_eq-Decides x y).0 e))
  | inr e ↦ inr (among x ys e)
]

either_way : (P : List (List ℕ) → Type 0) (b : Bool) (xs ys : List (List ℕ)) → P xs → P ys → P (if b then xs else ys)
either_way P true xs ys p q = p
either_way P false xs ys p q = q

kept : (es : List (Edge (List ℕ))) (s : List (List ℕ)) (x : List ℕ) → IsAmong s x → IsAmong (reach es s) x
kept [] s x h = h
kept (e ∷ es) s x h =
    either_way (λ l. IsAmong l x) (has_name e.tail (reach es s)) (reach es (e.head ∷ reach es s)) (reach es s)
    (kept es (e.head ∷ reach es s) x (inr (kept es s x h))) (kept es s x h)

-- with one edge more: r is what the others lead to, m what they lead to with its head
closed_by : (e f : Edge (List ℕ)) (es : List (Edge (List ℕ))) (r m : List (List ℕ)) → IsAmong m e.head → (IsAmong es f → IsAmong m f.tail → IsAmong m f.head)
    → (IsAmong es f → IsAmong r f.tail → IsAmong r f.head) → (b : Bool) → has_name e.tail r ≡ b → IsAmong (e ∷ es) f → IsAmong (if b then m else r) f.tail → IsAmong (if b then m else r) f.head
closed_by e f es r m h in_m in_r true c (inl q) u = subst (λ (g : Edge (List ℕ)). IsAmong m g.head) q h
closed_by e f es r m h in_m in_r true c (inr q) u = in_m q u
closed_by e f es r m h in_m in_r false c (inl q) u =
    let n : has_name e.tail r ≡ true = named e.tail r (subst (λ (g : Edge (List ℕ)). IsAmong r g.tail) (sym q) u) in absurd (grind (arith, sym c ∙ n))
closed_by e f es r m h in_m in_r false c (inr q) u = in_r q u

closed : (es : List (Edge (List ℕ))) (s : List (List ℕ)) (f : Edge (List ℕ)) → IsAmong es f → IsAmong (reach es s) f.tail → IsAmong (reach es s) f.head
closed [] s f h t = absurd h
closed (e ∷ es) s f h t =
    closed_by e f es (reach es s) (reach es (e.head ∷ reach es s)) (kept es (e.head ∷ reach es s) e.head (inl refl))
    (λ q u. closed es (e.head ∷ reach es s) f q u) (λ q u. closed es s f q u) (has_name e.tail (reach es s)) refl h t

one_more : (P : List ℕ → Type 0) (e : Edge (List ℕ)) (r : List (List ℕ)) → ((y : List ℕ) → IsAmong r y → P y) → (P e.tail → P e.head) → has_name e.tail r ≡ true → (y : List ℕ) → IsAmong (e.head ∷ r) y → P y
one_more P e r before step c y (inl q) = subst P q (step (before e.tail (among e.tail r c)))
one_more P e r before step c y (inr a) = before y a

least_by : (P : List ℕ → Type 0) (e : Edge (List ℕ)) (r m : List (List ℕ)) (x : List ℕ) → (has_name e.tail r ≡ true → IsAmong m x → P x) → (IsAmong r x → P x)
    → (b : Bool) → has_name e.tail r ≡ b → IsAmong (if b then m else r) x → P x
least_by P e r m x in_m in_r true c a = in_m c a
least_by P e r m x in_m in_r false c a = in_r a

least : (P : List ℕ → Type 0) (es : List (Edge (List ℕ))) (s : List (List ℕ)) → ((x : List ℕ) → IsAmong s x → P x)
    → ((f : Edge (List ℕ)) → IsAmong es f → P f.tail → P f.head) → (x : List ℕ) → IsAmong (reach es s) x → P x
least P [] s base step x h = base x h
least P (e ∷ es) s base step x h =
    least_by P e (reach es s) (reach es (e.head ∷ reach es s)) x
    (λ c a. least P es (e.head ∷ reach es s) (one_more P e (reach es s) (λ y g. least P es s base (λ f k. step f (inr k)) y g) (step e (inl refl)) c) (λ f k. step f (inr k)) x a)
    (λ a. least P es s base (λ f k. step f (inr k)) x a)
    (has_name e.tail (reach es s)) refl h

arrived : (es : List (Edge (List ℕ))) (s : List (List ℕ)) (x : List ℕ) → IsReached (IsAmong s) (Joins es) x → IsAmong (reach es s) x
arrived es s x (root _ h) = kept es s x h
arrived es s x (onward y _ r l) = closed es s (record { tail = y; head = x }) l (arrived es s y r)

pub reached_is : (es : List (Edge (List ℕ))) (s : List (List ℕ)) (x : List ℕ) → IsAmong (reach es s) x ↔ IsReached (IsAmong s) (Joins es) x
reached_is es s x = (
  λ a. least (IsReached (IsAmong s) (Joins es)) es s (λ y h. root y h) (λ f h p. onward f.tail f.head p h) x a,
  λ r. arrived es s x r,
)

-- a name is reached exactly where it is said to be
pub reached_name : (decls : List Decl) (roots : List (List ℕ)) (edges : List (Edge (List ℕ))) (x : List ℕ) → (is_reached_name decls roots edges x ≡ true) ↔ IsReachedName decls roots edges x
reached_name decls roots edges x =
    let r = reached_is (filter (are_both_declared decls) edges) (filter (is_declared decls) roots) x in (
      λ e. r.0 (among x (reach (filter (are_both_declared decls) edges) (filter (is_declared decls) roots)) e),
      λ h. named x (reach (filter (are_both_declared decls) edges) (filter (is_declared decls) roots)) (r.1 h),
    )
