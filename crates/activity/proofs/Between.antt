-- Names between two lists.
use Rattle.std.proofs.Common.{IsErrAnd, ◌||◌, ◌≡◌, ◌↔◌, inl, inr, ℕ, Bool, true, false, not, cond, List, [], ◌∷◌, ◌++◌, length, map, filter, find, bytes_eq, Option, Some, None, Result, Ok, Err, IfErr, refl, ap, sym, subst, ◌∙◌, arith}
use Rattle.std.specs.List.{cons_option}
use Rattle.std.proofs.lemmas.Bool.{or_cases}
use Rattle.std.proofs.lemmas.Slice.Eq.{bytes_eq-Decides}
use Rattle.fl_ast.specs.declared.decl.Decl.{Decl}
use Rattle.fl_ast.specs.declared.stmt.Program.{Program}
use Rattle.fl_types.specs.Sharing.{has_name}
use Rattle.reachability.specs.declared.closing.Link.{Link}
use Rattle.reachability.specs.Reached.{Edge, IsAmong, AreWithin}
use Rattle.reachability.specs.Named.{index_in, link_between, link_in, links_of, IsReachedName}
use Rattle.reachability.proofs.Positions.{kept_by, kept_from}
use Rattle.reachability.proofs.Listed.{links_within}
use Rattle.fl_types.specs.Declarations.{is_ring_argument}
use Rattle.activity.specs.declared.set.ActivityError.{ActivityError}
use Rattle.activity.specs.declared.set.ActivityError.TheVariants.{NotRing, Memory}
use Rattle.activity.specs.Active.{IsCause, AreActive, program_flows, turned, turned_link, misfit_among, first_misfit}

-- ---- links the other way

turned_between : (a b : Option ℕ) (rest : List Link) → cons_option (link_between b a) (map turned_link rest) ≡ map turned_link (cons_option (link_between a b) rest)
turned_between None None rest = refl
turned_between None (Some b) rest = refl
turned_between (Some a) None rest = refl
turned_between (Some a) (Some b) rest = refl

pub links_turned : (decls : List Decl) (es : List (Edge (List ℕ))) → links_of decls (map turned es) ≡ map turned_link (links_of decls es)
links_turned decls [] = refl
links_turned decls (e ∷ es) =
    ap (λ r. cons_option (link_in decls (turned e)) r) (links_turned decls es) ∙ turned_between (index_in decls e.tail) (index_in decls e.head) (links_of decls es)

pub within_by : (decls : List Decl) (es : List (Edge (List ℕ))) (links : List Link) → links ≡ links_of decls es → AreWithin (length decls) links
within_by decls es links e = subst (λ l. AreWithin (length decls) l) (sym e) (links_within decls es)

-- ---- names in lists

pub named : (x : List ℕ) (xs : List (List ℕ)) → IsAmong xs x → has_name x xs ≡ true
named x [] h = absurd h
named x (y ∷ ys) (inl e) = rw ((bytes_eq-Decides x y).1 (sym e)) refl
named x (y ∷ ys) (inr h) = or_right (bytes_eq x y) (has_name x ys) (named x ys h)
  where
    or_right : (a b : Bool) → b ≡ true → (a || b) ≡ true
    or_right true b e = refl
    or_right false b e = e

pub among : (x : List ℕ) (xs : List (List ℕ)) → has_name x xs ≡ true → IsAmong xs x
among x [] h = absurd (grind (arith, h))
among x (y ∷ ys) h = elim (or_cases (bytes_eq x y) (has_name x ys) h) [
  | inl e ↦ inl (sym ((bytes_eq-Decides x y).0 e))
  | inr e ↦ inr (among x ys e)
]

pub between : (p : Program) (of wrt reached reaching names : List (List ℕ))
    → ((x : List ℕ) → IsAmong reached x ↔ IsReachedName p.decls wrt (program_flows p) x)
    → ((x : List ℕ) → IsAmong reaching x ↔ IsReachedName p.decls of (map turned (program_flows p)) x)
    → names ≡ filter (λ x. has_name x reaching) reached → AreActive p of wrt names
between p of wrt reached reaching names f g e x = (
  λ h.
      let k = kept_from (λ y. has_name y reaching) reached x (subst (λ ns. IsAmong ns x) e (among x names h)) in
      ((f x).0 k.0, (g x).0 (among x reaching k.1)),
  λ a. named x names (subst (λ ns. IsAmong ns x) (sym e) (kept_by (λ y. has_name y reaching) reached x ((f x).1 a.0) (named x reaching ((g x).1 a.1)))),
)

pub within_all : (decls ds : List Decl) (es : List (Edge (List ℕ))) (links : List Link) → ds ≡ decls → links ≡ links_of decls es → AreWithin (length ds) links
within_all decls ds es links d e = subst (λ x. AreWithin (length x) links) (sym d) (within_by decls es links e)

pub between_all : (p : Program) (of wrt : List (List ℕ)) (ds : List Decl) (links back : List Link) (reached reaching rs ts names : List (List ℕ))
    → ds ≡ p.decls → links ≡ links_of p.decls (program_flows p) → back ≡ links_of p.decls (map turned (program_flows p))
    → ((es : List (Edge (List ℕ))) → links ≡ links_of ds es → (x : List ℕ) → IsAmong reached x ↔ IsReachedName ds wrt es x)
    → ((es : List (Edge (List ℕ))) → back ≡ links_of ds es → (x : List ℕ) → IsAmong reaching x ↔ IsReachedName ds of es x)
    → rs ≡ reached → ts ≡ reaching → names ≡ filter (λ x. has_name x ts) rs → AreActive p of wrt names
between_all p of wrt ds links back reached reaching rs ts names d l b f g r t e =
    between p of wrt reached reaching names
    (λ x. subst (λ k. IsAmong reached x ↔ IsReachedName k wrt (program_flows p) x) d (f (program_flows p) (l ∙ ap (λ k. links_of k (program_flows p)) (sym d)) x))
    (λ x. subst (λ k. IsAmong reaching x ↔ IsReachedName k of (map turned (program_flows p)) x) d (g (map turned (program_flows p)) (b ∙ ap (λ k. links_of k (map turned (program_flows p))) (sym d)) x))
    (e ∙ (ap (λ k. filter (λ x. has_name x k) rs) t ∙ ap (λ k. filter (λ x. has_name x reaching) k) r))

-- a list with the same names
pub listed_alike : (p : Program) (of wrt names others : List (List ℕ)) → ((x : List ℕ) → has_name x others ≡ has_name x names) → AreActive p of wrt names → AreActive p of wrt others
listed_alike p of wrt names others e a x = (λ h. (a x).0 (sym (e x) ∙ h), λ h. e x ∙ (a x).1 h)

-- ---- the first misfit

pub found_first : {X : Type 0} (p : X → Bool) (xs ys : List X) (x : X) → find p xs ≡ Some x → find p (xs ++ ys) ≡ Some x
found_first p [] ys x e = absurd (grind (arith, e))
found_first p (z ∷ zs) ys x e = by_test (p z) e (found_first p zs ys x)
  where
    by_test : (b : Bool) → cond b (Some z) (find p zs) ≡ Some x → (find p zs ≡ Some x → find p (zs ++ ys) ≡ Some x) → cond b (Some z) (find p (zs ++ ys)) ≡ Some x
    by_test true e f = e
    by_test false e f = f e

pub found_later : {X : Type 0} (p : X → Bool) (xs ys : List X) → find p xs ≡ None → find p (xs ++ ys) ≡ find p ys
found_later p [] ys e = refl
found_later p (z ∷ zs) ys e = by_test (p z) e (found_later p zs ys)
  where
    by_test : (b : Bool) → cond b (Some z) (find p zs) ≡ None → (find p zs ≡ None → find p (zs ++ ys) ≡ find p ys) → cond b (Some z) (find p (zs ++ ys)) ≡ find p ys
    by_test true e f = absurd (grind (arith, e))
    by_test false e f = f e

pub err_is : {A E : Type 0} (r : Result A E) (e : E) (P : E → Type 0) → IsErrAnd r (λ x. x ≡ e) → P e → IfErr r P
err_is (Ok v) e P h p = tt
err_is (Err x) e P h p = subst P (sym h) p

pub cause_first : (p : Program) (of wrt : List (List ℕ)) (e : ActivityError) → IsCause (misfit_among p of) e → IsCause (first_misfit p of wrt) e
cause_first p of wrt (NotRing name) h = found_first (λ x. not (is_ring_argument p x)) of wrt name h
cause_first p of wrt Memory h = tt

pub cause_later : (p : Program) (of wrt : List (List ℕ)) (e : ActivityError) → misfit_among p of ≡ None → IsCause (misfit_among p wrt) e → IsCause (first_misfit p of wrt) e
cause_later p of wrt (NotRing name) n h = found_later (λ x. not (is_ring_argument p x)) of wrt n ∙ h
cause_later p of wrt Memory n h = tt
