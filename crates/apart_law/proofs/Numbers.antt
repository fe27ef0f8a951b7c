-- The bindings of accesses are apart: opaque nodes are numbered in each access, and accesses have numbers.
use Rattle.std.proofs.Common.{◌≡◌, ℕ, suc, ◌+◌, ◌<◌, ◌≤◌, Bool, true, false, pos, List, [], ◌∷◌, ◌++◌, length, refl, ap, sym, ◌∙◌, subst, arith, append_assoc, Option, Some, None}
use Rattle.std.specs.Prelude.{if◌then◌else◌}
use Rattle.fl_ast.specs.Tree.{Expression, literal, get, minus, binary, power, call, Expressions, no_expressions, expression}
use Rattle.fl_types.specs.Accesses.{Occurrence}
use Rattle.meaning.specs.Sites.{Cells, Site}
use Rattle.meaning.specs.Expressions.{value_of}
use Rattle.index_forms.specs.declared.form.Side.{Side}
use Rattle.index_forms.specs.Form.{Atom, start, iter, inner, inv, version, read, opaque, start2, iter2, Form, form, no_terms}
use Rattle.index_forms.specs.Formed.{Known, Viewed, Formed, FormedAll, atom_form, opaque_node, node, if_narrow, negative, linear, element_node, formed, formed_all}
use Rattle.index_forms.specs.Walk.{Setting, viewed}
use Rattle.apart_law.specs.Bindings.{Binding, AreApart, Lies, AllHave, AllLie, no_loops, node_value, leaf_binding, leaf_bindings, group_bindings}
use Rattle.apart_law.proofs.Bound.{have_both, have_weaker, lie_wider, apart_both, Separate, separate_after}

-- an opaque atom of one access, whose number is above n and at most m
abbrev Between : Side → ℕ → (n m : ℕ) → Atom → Type 0
Between side k n m start = ⊥
Between side k n m (iter s) = ⊥
Between side k n m (inner s l) = ⊥
Between side k n m (inv x) = ⊥
Between side k n m (version s j x) = ⊥
Between side k n m (read x fs) = ⊥
Between side k n m (opaque s a i) = (s ≡ side) × (a ≡ k) × (n < i) × (i ≤ m)
Between side k n m start2 = ⊥
Between side k n m (iter2 s) = ⊥

between_wider : (side : Side) (k n m n2 m2 : ℕ) → n2 ≤ n → m ≤ m2 → (x : Atom) → Between side k n m x → Between side k n2 m2 x
between_wider side k n m n2 m2 p q start h = h
between_wider side k n m n2 m2 p q (iter s) h = h
between_wider side k n m n2 m2 p q (inner s l) h = h
between_wider side k n m n2 m2 p q (inv x) h = h
between_wider side k n m n2 m2 p q (version s j x) h = h
between_wider side k n m n2 m2 p q (read x fs) h = h
between_wider side k n m n2 m2 p q (opaque s a i) h = let u = h.2 in let w = h.3 in (h.0, h.1, omega (arith, u, p), omega (arith, w, q))
between_wider side k n m n2 m2 p q start2 h = h
between_wider side k n m n2 m2 p q (iter2 s) h = h

between_apart : (side : Side) (k n m p : ℕ) → Separate (Between side k n m) (Between side k m p)
between_apart side k n m p start h g = h
between_apart side k n m p (iter s) h g = h
between_apart side k n m p (inner s l) h g = h
between_apart side k n m p (inv x) h g = h
between_apart side k n m p (version s j x) h g = h
between_apart side k n m p (read x fs) h g = h
between_apart side k n m p (opaque s a i) h g = let u = h.3 in let w = g.2 in omega (arith, u, w)
between_apart side k n m p start2 h g = h
between_apart side k n m p (iter2 s) h g = h

between_lies : (side : Side) (k n m : ℕ) (a b j : ℕ) → a < k → k ≤ b → (x : Atom) → Between side k n m x → Lies side j j a b no_loops x
between_lies side k n m a b j p q start h = h
between_lies side k n m a b j p q (iter s) h = h
between_lies side k n m a b j p q (inner s l) h = absurd h
between_lies side k n m a b j p q (inv x) h = h
between_lies side k n m a b j p q (version s i x) h = absurd h
between_lies side k n m a b j p q (read x fs) h = h
between_lies side k n m a b j p q (opaque s i y) h = let e = h.1 in (h.0, omega (arith, e, p), omega (arith, e, q))
between_lies side k n m a b j p q start2 h = h
between_lies side k n m a b j p q (iter2 s) h = h

module _ (site : Site) (cells : Cells) where
  bindings_both : (ls ms : List (Atom × Expression)) → leaf_bindings site cells (ls ++ ms) ≡ leaf_bindings site cells ls ++ leaf_bindings site cells ms
  bindings_both [] ms = refl
  bindings_both (l ∷ ls) ms =
      let here = leaf_binding l.0 (node_value (value_of l.1 site cells).out) in
      ap (λ (bs : List Binding). here ++ bs) (bindings_both ls ms) ∙ sym (append_assoc here (leaf_bindings site cells ls) (leaf_bindings site cells ms))

  -- the leaves of nodes that were numbered behind n, up to m
  record Numbered (c : Viewed) (n m : ℕ) (ls : List (Atom × Expression)) : Type 0 where
    ordered : n ≤ m
    between : AllHave (Between c.side c.access n m) (leaf_bindings site cells ls)
    apart : AreApart (leaf_bindings site cells ls)

  numbered_none : (c : Viewed) (n : ℕ) → Numbered c n n []
  numbered_none c n = record { ordered = omega arith; between = tt; apart = tt }

  numbered_both : (c : Viewed) (n m p : ℕ) (ls ms : List (Atom × Expression)) → Numbered c n m ls → Numbered c m p ms → Numbered c n p (ls ++ ms)
  numbered_both c n m p ls ms h g =
      let i = h.ordered in
      let j = g.ordered in
      let e = sym (bindings_both ls ms) in
      let l = have_weaker (Between c.side c.access n m) (Between c.side c.access n p) (between_wider c.side c.access n m n p (omega arith) (omega (arith, j))) (leaf_bindings site cells ls) h.between in
      let r = have_weaker (Between c.side c.access m p) (Between c.side c.access n p) (between_wider c.side c.access m p n p (omega (arith, i)) (omega arith)) (leaf_bindings site cells ms) g.between in
      record {
        ordered = omega (arith, i, j);
        between = subst (AllHave (Between c.side c.access n p)) e (have_both (Between c.side c.access n p) (leaf_bindings site cells ls) (leaf_bindings site cells ms) l r);
        apart = subst AreApart e (apart_both (Between c.side c.access n m) (Between c.side c.access m p) (leaf_bindings site cells ls) (leaf_bindings site cells ms) (between_apart c.side c.access n m p) h.between g.between h.apart g.apart);
      }

  one_opaque : (c : Viewed) (n : ℕ) (e : Expression) → Numbered c n (suc n) ((opaque c.side c.access (suc n), e) ∷ [])
  one_opaque c n e = record { ordered = omega arith; between = ((refl, refl, omega arith, omega arith), tt); apart = (tt, tt) }

  module _ (c : Viewed) where
    opaque_numbered : (n m : ℕ) (e : Expression) (ls : List (Atom × Expression)) → Numbered c n m ls → Numbered c n (opaque_node c m e ls).next (opaque_node c m e ls).leaves
    opaque_numbered n m e ls h = numbered_both c n m (suc m) ls ((opaque c.side c.access (suc m), e) ∷ []) h (one_opaque c m e)

    node_numbered : (n m : ℕ) (e : Expression) (ls : List (Atom × Expression)) (o : Option Form) → Numbered c n m ls → Numbered c n (node c m e ls o).next (node c m e ls o).leaves
    node_numbered n m e ls None h = opaque_numbered n m e ls h
    node_numbered n m e ls (Some f) h = h

    one_read : (n m : ℕ) (x : List ℕ) (r : FormedAll) (ss : Expressions) → Numbered c n m r.leaves → Numbered c n m (r.leaves ++ (read x r.forms, get x ss) ∷ [])
    one_read n m x r ss h = numbered_both c n m m r.leaves ((read x r.forms, get x ss) ∷ []) h (record { ordered = omega arith; between = tt; apart = tt })

    abbrev element_by : (n : ℕ) (x : List ℕ) (ss : Expressions) (r : FormedAll) → Bool → Formed
    element_by n x ss r b = if b then record { form = atom_form (read x r.forms); next = r.next; leaves = r.leaves ++ (read x r.forms, get x ss) ∷ [] } else opaque_node c n (get x ss) []

    element_numbered : (n : ℕ) (x : List ℕ) (ss : Expressions) (r : FormedAll) → Numbered c n r.next r.leaves → Numbered c n (element_node c n x ss r).next (element_node c n x ss r).leaves
    element_numbered n x ss r h = by_test (c.fixed x)
      where
        by_test : (b : Bool) → Numbered c n (element_by n x ss r b).next (element_by n x ss r b).leaves
        by_test true = one_read n r.next x r ss h
        by_test false = opaque_numbered n n (get x ss) [] (numbered_none c n)

    mutual
      formed_numbered : (n : ℕ) (e : Expression) → Numbered c n (formed c n e).next (formed c n e).leaves
      formed_numbered n (literal k i) = node_numbered n n (literal k i) [] (if_narrow (Some (form (pos k) no_terms))) (numbered_none c n)
      formed_numbered n (get x no_expressions) = node_numbered n n (get x no_expressions) [] (if_narrow (c.known x)) (numbered_none c n)
      formed_numbered n (get x (expression e es)) = element_numbered n x (expression e es) (formed_all c n (expression e es)) (all_numbered n (expression e es))
      formed_numbered n (minus a) = let f = formed c n a in node_numbered n f.next (minus a) f.leaves (if_narrow (Some (negative f.form))) (formed_numbered n a)
      formed_numbered n (binary op a b) =
          let f = formed c n a in
          let g = formed c f.next b in
          node_numbered n g.next (binary op a b) (f.leaves ++ g.leaves) (if_narrow (linear op f.form g.form)) (numbered_both c n f.next g.next f.leaves g.leaves (formed_numbered n a) (formed_numbered f.next b))
      formed_numbered n (power a k) = opaque_numbered n n (power a k) [] (numbered_none c n)
      formed_numbered n (call f es) = opaque_numbered n n (call f es) [] (numbered_none c n)

      all_numbered : (n : ℕ) (es : Expressions) → Numbered c n (formed_all c n es).next (formed_all c n es).leaves
      all_numbered n no_expressions = numbered_none c n
      all_numbered n (expression e es) =
          let f = formed c n e in
          let r = formed_all c f.next es in
          numbered_both c n f.next r.next f.leaves r.leaves (formed_numbered n e) (all_numbered f.next es)

  -- ---- accesses that are evaluated together

  pub group_lies : (c : Setting) (k : Known) (j a : ℕ) (os : List Occurrence) → AllLie c.side j j a (a + length os) no_loops (group_bindings c k a site cells os)
  group_lies c k j a [] = tt
  group_lies c k j a (o ∷ os) =
      let w = viewed c k (suc a) in
      let ls = formed_all w 0 o.place.subscripts in
      have_both (Lies c.side j j a (a + suc (length os)) no_loops) (leaf_bindings site cells ls.leaves) (group_bindings c k (suc a) site cells os)
      (have_weaker (Between c.side (suc a) 0 ls.next) (Lies c.side j j a (a + suc (length os)) no_loops) (between_lies c.side (suc a) 0 ls.next a (a + suc (length os)) j (omega arith) (omega arith)) (leaf_bindings site cells ls.leaves) (all_numbered w 0 o.place.subscripts).between)
      (lie_wider c.side j j (suc a) (suc a + length os) j j a (a + suc (length os)) no_loops no_loops (omega arith) (omega arith) (omega arith) (omega arith) (λ l h. h) (group_bindings c k (suc a) site cells os) (group_lies c k j (suc a) os))

  pub group_apart : (c : Setting) (k : Known) (a : ℕ) (os : List Occurrence) → AreApart (group_bindings c k a site cells os)
  group_apart c k a [] = tt
  group_apart c k a (o ∷ os) =
      let w = viewed c k (suc a) in
      let ls = formed_all w 0 o.place.subscripts in
      let g = all_numbered w 0 o.place.subscripts in
      apart_both (Lies c.side 0 0 a (suc a) no_loops) (Lies c.side 0 0 (suc a) (suc a + length os) no_loops) (leaf_bindings site cells ls.leaves) (group_bindings c k (suc a) site cells os)
      (separate_after c.side c.side 0 0 a (suc a) 0 0 (suc a) (suc a + length os) no_loops no_loops (omega arith) (omega arith) (λ l h i. cc))
      (have_weaker (Between c.side (suc a) 0 ls.next) (Lies c.side 0 0 a (suc a) no_loops) (between_lies c.side (suc a) 0 ls.next a (suc a) 0 (omega arith) (omega arith)) (leaf_bindings site cells ls.leaves) g.between)
      (group_lies c k 0 (suc a) os) g.apart (group_apart c k (suc a) os)
