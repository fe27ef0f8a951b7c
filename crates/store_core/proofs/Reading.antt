-- The subscripts at a position, one after another.
use Rattle.std.proofs.Common.{◌≡◌, ℕ, ◌+◌, ◌*◌, ◌/◌, ◌%◌, ◌<◌, ◌≤◌, ◌^◌, List, [], ◌∷◌, ◌++◌, length, drop, get_or, ℤ, pos, ◌+ℤ◌, sym, ap, ◌∙◌, arith, append_assoc, append-nil}
use Rattle.std.proofs.lemmas.List.{drop_more}
use Rattle.store_core.specs.declared.bound.Axis.{Axis}
use Rattle.store_core.specs.Keys.{size_of}
use Rattle.store_core.specs.Texts.{subscripts_at}
use Rattle.store_core.proofs.Names.{parts}
use Rattle.std.proofs.lemmas.Nat.{mul-le}

pub record Read (axes : List Axis) (i : ℕ) (made : List ℤ) (rest at : ℕ) : Type 0 where
  pub done : made ++ subscripts_at (drop i axes) rest ≡ subscripts_at axes at
  pub below : rest < size_of (drop i axes)
  pub small : size_of (drop i axes) ≤ 2 ^ 21

pub record Next (axes : List Axis) (i : ℕ) (made : List ℤ) (rest at : ℕ) (a : Axis) : Type 0 where
  pub some : 0 < a.extent
  pub small : a.extent ≤ 2 ^ 21
  pub then : Read axes (i + 1) (made ++ (a.lower +ℤ pos (rest % a.extent)) ∷ []) (rest / a.extent) at

at_most : (n m : ℕ) → 0 < m → n ≤ n * m
at_most n m h = let k : n * 1 ≤ n * m = mul-le n 1 n m (omega arith) h in omega arith

pub next : (axes : List Axis) (i : ℕ) (made : List ℤ) (rest at : ℕ) (d : Axis) → Read axes i made rest at → i < length axes → Next axes i made rest at (get_or axes i d)
next axes i made rest at d h lt =
    let a = get_or axes i d in
    let here : drop i axes ≡ a ∷ drop (i + 1) axes = drop_more axes i d lt in
    let size : size_of (drop i axes) ≡ a.extent * size_of (drop (i + 1) axes) = ap size_of here in
    let p : (0 < a.extent) × (rest / a.extent < size_of (drop (i + 1) axes)) = parts a.extent (size_of (drop (i + 1) axes)) rest (omega (arith, h.below)) in
    let m : a.extent ≤ a.extent * size_of (drop (i + 1) axes) = at_most a.extent (size_of (drop (i + 1) axes)) (omega arith) in
    let n : size_of (drop (i + 1) axes) ≤ a.extent * size_of (drop (i + 1) axes) = let k = at_most (size_of (drop (i + 1) axes)) a.extent p.0 in omega arith in
    record {
      some = p.0;
      small = omega (arith, h.small);
      then = record {
        done = append_assoc made ((a.lower +ℤ pos (rest % a.extent)) ∷ []) _ ∙ ap (λ ds. made ++ subscripts_at ds rest) (sym here) ∙ h.done;
        below = p.1;
        small = omega (arith, h.small);
      };
    }

pub read_all : (axes : List Axis) (i : ℕ) (made : List ℤ) (rest at : ℕ) → Read axes i made rest at → drop i axes ≡ [] → made ≡ subscripts_at axes at
read_all axes i made rest at h e = sym (append-nil made) ∙ ap (λ ds. made ++ subscripts_at ds rest) (sym e) ∙ h.done
