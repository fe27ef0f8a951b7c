-- A run of two parts that gives a value: what its parts gave, and its log.
use Rattle.std.proofs.Common.{◌≡◌, ℕ, List, refl, ap, sym, ◌∙◌, subst, Bool, true, false, Option, Some, None, Result, Ok, Err, inl, inr}
use Rattle.fl_types.specs.declared.access.AccessKind.TheVariants.{Read}
use Rattle.meaning.specs.declared.value.Value.{Value}
use Rattle.meaning.specs.Logs.{Log, both, Traced, after, continuation, ◌>>=◌}
use Rattle.meaning.specs.Sites.{Cells, Site}
use Rattle.meaning.specs.Expressions.{content, read_cell, read_place}
use Rattle.transposition.specs.Worlds.{World}
use Rattle.transposition.specs.Law.{HasTouch, HasDifferentiatedRead}
use Rattle.transposition.proofs.Reading.{seen, TouchesIn}

-- the touches of a right side are among those of the run, and its reads are differentiated
pub record Inside (w : World) (ts a : Log) : Type 0 where
  pub told : TouchesIn a ts
  pub reads : (p : ℕ) → HasTouch Read p a → HasDifferentiatedRead w.active p ts

pub inside_left : (w : World) (ts l a b : Log) → l ≡ both a b → Inside w ts l → Inside w ts a
inside_left w ts l a b e h =
    let g : Inside w ts (both a b) = subst (λ (m : Log). Inside w ts m) e h in
    record { told = λ k p t. g.told k p (inl t); reads = λ p t. g.reads p (inl t) }

pub inside_right : (w : World) (ts l a b : Log) → l ≡ both a b → Inside w ts l → Inside w ts b
inside_right w ts l a b e h =
    let g : Inside w ts (both a b) = subst (λ (m : Log). Inside w ts m) e h in
    record { told = λ k p t. g.told k p (inr t); reads = λ p t. g.reads p (inr t) }

-- ---- an occurrence that was read

pub record ReadAt (site : Site) (s : Cells) (x : List ℕ) (o : Option ℕ) (v : Value) (l : Log) : Type 0 where
  pub p : ℕ
  pub place : o ≡ Some p
  pub holds : content s p ≡ Some v
  pub touched : site.accessed x ≡ true → HasTouch Read p l

pub read_inverted : (site : Site) (s : Cells) (x : List ℕ) (o : Option ℕ) (v : Value) → (read_place site s x o).out ≡ Ok v → ReadAt site s x o v (read_place site s x o).log
read_inverted site s x None v h = cc
read_inverted site s x (Some p) v h = by_content (content s p) refl h
  where
    by_access : (b : Bool) (y : Value) → site.accessed x ≡ b → content s p ≡ Some y → (seen b site p y).out ≡ Ok v → ReadAt site s x (Some p) v (seen b site p y).log
    by_access true y e f g = let i : y ≡ v = cc in record { p = p; place = refl; holds = f ∙ ap (λ (z : Value). Some z) i; touched = λ j. inl (refl, refl) }
    by_access false y e f g = let i : y ≡ v = cc in record { p = p; place = refl; holds = f ∙ ap (λ (z : Value). Some z) i; touched = λ j. absurd (let k : true ≡ false = sym j ∙ e in cc) }

    by_content : (c : Option Value) → content s p ≡ c → (read_cell site x p c).out ≡ Ok v → ReadAt site s x (Some p) v (read_cell site x p c).log
    by_content None f g = cc
    by_content (Some y) f g = by_access (site.accessed x) y refl f g

-- ---- a run whose first part is known

back_by : {X A B : Type 0} (l : Log) (o : Result A X) (k : A → Traced X B) (a : A) → o ≡ Ok a → continuation l o k ≡ after l (k a)
back_by l (Ok b) k a h = let e : b ≡ a = cc in ap (λ (x : _). after l (k x)) e
back_by l (Err x) k a h = cc

pub bound_back : {X A B : Type 0} (r : Traced X A) (k : A → Traced X B) (a : A) → r.out ≡ Ok a → (r >>= k) ≡ after r.log (k a)
bound_back r k a h = back_by r.log r.out k a h

pub told_both : (ts a b : Log) → TouchesIn a ts → TouchesIn b ts → TouchesIn (both a b) ts
told_both ts a b h g k p (inl t) = h k p t
told_both ts a b h g k p (inr t) = g k p t
