-- What is on top, by the number of words and what is below the newest list.
use Rattle.std.specs.Prelude.{◌≡◌, ℕ, suc, zero, nat_eq, ◌-◌, ◌<◌, ◌≤◌, List, [], ◌∷◌, ◌++◌, length, map, take, drop, reverse, slice_get, Option, Some, None, true, false, refl}
use Rattle.std.proofs.Common.{ap, ◌∙◌, sym, subst, arith, get_or, length-append}
use Rattle.std.proofs.lemmas.Bool.Decides.{nat_tests}
use Rattle.std.proofs.lemmas.List.{reverse-append, length-reverse}
use Rattle.store_core.specs.Tapes.{IterationLists, Item, word, lists, IsWordOnTop, is_list_on_top}
use Rattle.store_core.specs.Stacks.{stack, AreBelow}
use Rattle.store_core.specs.declared.tape.Placed.{Placed}

-- a list below this number of words
abbrev piled : ℕ → List ℕ → Placed → List Placed → List Item
piled m ws l ls = map word (take m ws) ++ (lists l.list ∷ stack (drop m ws) ls)

list_by : (m : ℕ) (ws : List ℕ) (l : Placed) (ls : List Placed) → length ws - l.below ≡ m → l.below ≤ length ws → nat_eq l.below (length ws) ≡ is_list_on_top (piled m ws l ls)
list_by zero ws l ls e h = grind (arith, nat_tests, e, h)
list_by (suc m) [] l ls e h = absurd (omega (arith, e))
list_by (suc m) (w ∷ ws) l ls e h = grind (arith, nat_tests, e, h)

list_there : (ws : List ℕ) (l : Placed) (ls : List Placed) → l.below ≤ length ws → nat_eq l.below (length ws) ≡ is_list_on_top (stack ws (l ∷ ls))
list_there ws l ls h = list_by (length ws - l.below) ws l ls refl h

none_there : (ws : List ℕ) → false ≡ is_list_on_top (stack ws [])
none_there [] = refl
none_there (w ∷ ws) = refl

word_by : (m : ℕ) (ws : List ℕ) (l : Placed) (ls : List Placed) → 0 < length ws → length ws - l.below ≡ m → is_list_on_top (piled m ws l ls) ≡ false → IsWordOnTop (piled m ws l ls)
word_by zero ws l ls n e h = grind (arith, h)
word_by (suc m) [] l ls n e h = absurd (omega (arith, n))
word_by (suc m) (w ∷ ws) l ls n e h = tt

word_there : (ws : List ℕ) (ls : List Placed) → 0 < length ws → is_list_on_top (stack ws ls) ≡ false → IsWordOnTop (stack ws ls)
word_there [] [] n h = absurd (omega (arith, n))
word_there (w ∷ ws) [] n h = tt
word_there ws (l ∷ ls) n h = word_by (length ws - l.below) ws l ls n refl h

nothing_by : (m : ℕ) (l : Placed) (ls : List Placed) → is_list_on_top (piled m [] l ls) ≡ false → ⊥
nothing_by zero l ls h = grind (arith, h)
nothing_by (suc m) l ls h = grind (arith, h)

nothing_there : (ls : List Placed) → is_list_on_top (stack [] ls) ≡ false → stack [] ls ≡ []
nothing_there [] h = refl
nothing_there (l ∷ ls) h = absurd (nothing_by (0 - l.below) l ls h)

no_words : (ws : List ℕ) → length ws ≡ 0 → reverse ws ≡ []
no_words [] e = refl
no_words (w ∷ ws) e = absurd (omega (arith, e))

pub nothing_on_top : (ws : List ℕ) (ls : List Placed) → length ws ≡ 0 → is_list_on_top (stack (reverse ws) ls) ≡ false → stack (reverse ws) ls ≡ []
nothing_on_top ws ls e h =
    let r : reverse ws ≡ [] = no_words ws e in
    rw r (nothing_there ls (rw r at h))

pub word_on_top : (ws : List ℕ) (ls : List Placed) → (length ws ≡ 0 → ⊥) → is_list_on_top (stack (reverse ws) ls) ≡ false → IsWordOnTop (stack (reverse ws) ls)
word_on_top ws ls n h = word_there (reverse ws) ls (rw length-reverse (some (length ws) n)) h
  where
    some : (k : ℕ) → (k ≡ 0 → ⊥) → 0 < k
    some zero n = absurd (n refl)
    some (suc k) n = omega arith

-- the last of some lists, after those before it
last_split : (ls : List Placed) (k : ℕ) (l : Placed) → length ls ≡ suc k → l ≡ get_or ls k l → (ms : List Placed) × (ls ≡ ms ++ l ∷ [])
last_split [] k l n e = absurd (omega (arith, n))
last_split (p ∷ []) zero l n e = ([], ap (λ (x : Placed). x ∷ []) (sym e))
last_split (p ∷ []) (suc k) l n e = absurd (omega (arith, n))
last_split (p ∷ q ∷ ls) zero l n e = absurd (omega (arith, n))
last_split (p ∷ q ∷ ls) (suc k) l n e = let s : (ms : List Placed) × (q ∷ ls ≡ ms ++ l ∷ []) = last_split (q ∷ ls) k l (omega (arith, n)) e in (p ∷ s.0, ap (λ (xs : List Placed). p ∷ xs) s.1)

last_list_by : (ws : List ℕ) (ls ms : List Placed) (l : Placed) → ls ≡ ms ++ l ∷ [] → AreBelow (reverse ls) (length ws) → nat_eq l.below (length ws) ≡ is_list_on_top (stack (reverse ws) (reverse ls))
last_list_by ws ls ms l e b =
    let r : reverse ls ≡ l ∷ reverse ms = rw (e, reverse-append) refl in
    let F : List Placed → Type 0 = λ ps. AreBelow ps (length ws) in
    let c : AreBelow (l ∷ reverse ms) (length ws) = subst F r b in
    let k : length (reverse ws) ≡ length ws = length-reverse ws in
    let g : nat_eq l.below (length (reverse ws)) ≡ is_list_on_top (stack (reverse ws) (l ∷ reverse ms)) = list_there (reverse ws) l (reverse ms) (omega (arith, c.0, k)) in
    rw r (ap (nat_eq l.below) (sym k) ∙ g)

pub last_list_on_top : (ws : List ℕ) (ls : List Placed) (l : Placed) → 0 < length ls → l ≡ get_or ls (length ls - 1) l → AreBelow (reverse ls) (length ws) → nat_eq l.below (length ws) ≡ is_list_on_top (stack (reverse ws) (reverse ls))
last_list_on_top ws ls l n e b =
    let s : (ms : List Placed) × (ls ≡ ms ++ l ∷ []) = last_split ls (length ls - 1) l (omega (arith, n)) e in
    last_list_by ws ls s.0 l s.1 b

none_last : (ls : List Placed) (n : ℕ) → n < length ls → None ≡ slice_get ls n → ⊥
none_last [] n h e = absurd (omega (arith, h))
none_last (l ∷ ls) zero h e = grind (arith, e)
none_last (l ∷ ls) (suc n) h e = none_last ls n (omega (arith, h)) e

no_last : (ls : List Placed) → None ≡ slice_get ls (length ls - 1) → ls ≡ []
no_last [] h = refl
no_last (l ∷ ls) h = absurd (none_last (l ∷ ls) (length (l ∷ ls) - 1) (omega arith) h)

pub no_last_on_top : (ws : List ℕ) (ls : List Placed) → None ≡ slice_get ls (length ls - 1) → false ≡ is_list_on_top (stack (reverse ws) (reverse ls))
no_last_on_top ws ls h = rw (no_last ls h) (none_there (reverse ws))
