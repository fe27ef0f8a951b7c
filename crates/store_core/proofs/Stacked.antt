-- Words and lists on one stack.
use Rattle.std.specs.Prelude.{◌≡◌, ℕ, suc, zero, ◌-◌, ◌<◌, ◌≤◌, List, [], ◌∷◌, ◌++◌, length, map, take, drop, reverse, slice_get, Some, None, refl}
use Rattle.std.proofs.Common.{ap, ◌∙◌, subst, arith, get_or, length-append}
use Rattle.std.proofs.lemmas.List.{reverse-append, length-reverse, map-append}
use Rattle.store_core.specs.Tapes.{IterationLists, Item, word, lists, IsWordOnTop, IsListOnTop, lists_among}
use Rattle.store_core.specs.Stacks.{stack, AreBelow}
use Rattle.store_core.specs.declared.tape.Placed.{Placed}

one_above : (n k : ℕ) → k ≤ n → suc n - k ≡ suc (n - k)
one_above n k h = omega arith

none_above : (n : ℕ) → n - n ≡ 0
none_above n = omega arith

pub with_word_on_top : (w : ℕ) (ws : List ℕ) (ls : List Placed) → AreBelow ls (length ws) → stack (w ∷ ws) ls ≡ word w ∷ stack ws ls
with_word_on_top w ws [] h = refl
with_word_on_top w ws (l ∷ ls) h = rw (one_above (length ws) l.below h.0) refl

pub with_list_on_top : (ws : List ℕ) (l : Placed) (ls : List Placed) → l.below ≡ length ws → stack ws (l ∷ ls) ≡ lists l.list ∷ stack ws ls
with_list_on_top ws l ls e = rw (e, none_above (length ws)) refl

pub below_more : (ls : List Placed) (m n : ℕ) → m ≤ n → AreBelow ls m → AreBelow ls n
below_more [] m n l h = tt
below_more (p ∷ ps) m n l h = (omega arith, h.1)

-- a word on top is the first of the words, and no list is above it
word_above : (ws : List ℕ) (l : Placed) (ls : List Placed) → IsWordOnTop (stack ws (l ∷ ls)) → l.below < length ws
word_above ws l ls h = by_number (length ws - l.below) refl
  where
    by_number : (n : ℕ) → length ws - l.below ≡ n → l.below < length ws
    by_number zero e = let F : ℕ → Type 0 = λ m. IsWordOnTop (map word (take m ws) ++ (lists l.list ∷ stack (drop m ws) ls)) in absurd (subst F e h)
    by_number (suc n) e = omega arith

some_word : (ws : List ℕ) (ls : List Placed) → AreBelow ls (length ws) → IsWordOnTop (stack ws ls) → 0 < length ws
some_word [] [] b h = absurd h
some_word (w ∷ ws) [] b h = omega arith
some_word ws (l ∷ ls) b h = let a : l.below < length ws = word_above ws l ls h in omega arith

pub word_is_there : (ls : List Placed) → IsWordOnTop (stack [] ls) → AreBelow ls 0 → ⊥
word_is_there ls h b = let a : 0 < 0 = some_word [] ls b h in absurd (omega arith)

pub below_word : (w : ℕ) (ws : List ℕ) (ls : List Placed) → AreBelow ls (suc (length ws)) → IsWordOnTop (stack (w ∷ ws) ls) → AreBelow ls (length ws)
below_word w ws [] b h = tt
below_word w ws (l ∷ ls) b h = let a : l.below < suc (length ws) = word_above (w ∷ ws) l ls h in (omega arith, b.1)

pub list_is_there : (ws : List ℕ) → IsListOnTop (stack ws []) → ⊥
list_is_there [] h = h
list_is_there (w ∷ ws) h = h

pub list_above : (ws : List ℕ) (l : Placed) (ls : List Placed) → AreBelow (l ∷ ls) (length ws) → IsListOnTop (stack ws (l ∷ ls)) → l.below ≡ length ws
list_above ws l ls b h = by_number ws (length ws - l.below) refl h b.0
  where
    by_number : (vs : List ℕ) (n : ℕ) → length vs - l.below ≡ n → IsListOnTop (stack vs (l ∷ ls)) → l.below ≤ length vs → l.below ≡ length vs
    by_number vs zero e g k = omega arith
    by_number [] (suc n) e g k = omega arith
    by_number (v ∷ vs) (suc n) e g k = let F : ℕ → Type 0 = λ m. IsListOnTop (map word (take m (v ∷ vs)) ++ (lists l.list ∷ stack (drop m (v ∷ vs)) ls)) in absurd (subst F e g)

-- ---- the lists among the items

words_have_none : (ws : List ℕ) (items : List Item) → lists_among (map word ws ++ items) ≡ lists_among items
words_have_none [] items = refl
words_have_none (w ∷ ws) items = words_have_none ws items

no_list : (ws : List ℕ) → lists_among (map word ws) ≡ []
no_list [] = refl
no_list (w ∷ ws) = no_list ws

pub lists_on_stack : (ws : List ℕ) (ls : List Placed) → lists_among (stack ws ls) ≡ map (λ (l : Placed). l.list) ls
lists_on_stack ws [] = no_list ws
lists_on_stack ws (l ∷ ls) = words_have_none (take (length ws - l.below) ws) _ ∙ ap (λ (x : List IterationLists). l.list ∷ x) (lists_on_stack (drop (length ws - l.below) ws) ls)

pub listed : (ws : List ℕ) (ls : List Placed) → reverse (lists_among (stack (reverse ws) (reverse ls))) ≡ map (λ (l : Placed). l.list) ls
listed ws ls = rw (lists_on_stack (reverse ws) (reverse ls)) (map_back ls)
  where
    map_back : (ls : List Placed) → reverse (map (λ (l : Placed). l.list) (reverse ls)) ≡ map (λ (l : Placed). l.list) ls
    map_back [] = refl
    map_back (l ∷ ls) =
        let a : reverse (l ∷ ls) ≡ reverse ls ++ l ∷ [] = reverse-append (l ∷ []) ls in
        rw (a, map-append (λ (x : Placed). x.list) (reverse ls) (l ∷ []), reverse-append) (ap (λ (xs : List IterationLists). l.list ∷ xs) (map_back ls))

pub list_at : (ls : List Placed) (n : ℕ) (l : Placed) → n < length ls → l ≡ get_or ls n l → Some l.list ≡ slice_get (map (λ (l : Placed). l.list) ls) n
list_at [] n l h e = absurd (omega arith)
list_at (p ∷ ls) zero l h e = ap (λ (x : Placed). Some x.list) e
list_at (p ∷ ls) (suc n) l h e = list_at ls n l (omega arith) e

pub no_list_at : (ls : List Placed) (n : ℕ) → length ls ≤ n → None ≡ slice_get (map (λ (l : Placed). l.list) ls) n
no_list_at [] n h = refl
no_list_at (p ∷ ls) zero h = absurd (omega arith)
no_list_at (p ∷ ls) (suc n) h = no_list_at ls n (omega arith)

-- ---- what is taken, the words and lists being kept with the top last

pub no_word : (ws : List ℕ) (ls : List Placed) → length ws ≡ 0 → AreBelow ls (length ws) → IsWordOnTop (stack (reverse ws) ls) → ⊥
no_word ws ls e b h = let a : 0 < length (reverse ws) = some_word (reverse ws) ls (rw length-reverse b) h in let c : length (reverse ws) ≡ length ws = length-reverse ws in omega arith

pub word_taken : (ws vs : List ℕ) (w : ℕ) (ls : List Placed) → ws ≡ vs ++ w ∷ [] → AreBelow ls (length ws) → IsWordOnTop (stack (reverse ws) ls)
    → AreBelow ls (length vs) × (stack (reverse ws) ls ≡ word w ∷ stack (reverse vs) ls)
word_taken ws vs w ls e b h =
    let r : reverse ws ≡ w ∷ reverse vs = rw (e, reverse-append) refl in
    let n : length ws ≡ suc (length (reverse vs)) = rw (e, length-append, length-reverse) (omega arith) in
    let F : ℕ → Type 0 = AreBelow ls in
    let G : List ℕ → Type 0 = λ xs. IsWordOnTop (stack xs ls) in
    let c : AreBelow ls (length (reverse vs)) = below_word w (reverse vs) ls (subst F n b) (subst G r h) in
    (rw length-reverse at c, rw r (with_word_on_top w (reverse vs) ls c))

pub no_list_there : (ws : List ℕ) (ls : List Placed) → length ls ≡ 0 → IsListOnTop (stack (reverse ws) (reverse ls)) → ⊥
no_list_there ws [] e h = list_is_there (reverse ws) h
no_list_there ws (l ∷ ls) e h = absurd (omega arith)

pub list_taken : (ws : List ℕ) (ls ms : List Placed) (l : Placed) → ls ≡ ms ++ l ∷ [] → AreBelow (reverse ls) (length ws) → IsListOnTop (stack (reverse ws) (reverse ls))
    → AreBelow (reverse ms) (length ws) × (stack (reverse ws) (reverse ls) ≡ lists l.list ∷ stack (reverse ws) (reverse ms))
list_taken ws ls ms l e b h =
    let r : reverse ls ≡ l ∷ reverse ms = rw (e, reverse-append) refl in
    let F : List Placed → Type 0 = λ ps. AreBelow ps (length ws) in
    let G : List Placed → Type 0 = λ ps. IsListOnTop (stack (reverse ws) ps) in
    let c : AreBelow (l ∷ reverse ms) (length ws) = subst F r b in
    let n : l.below ≡ length (reverse ws) = list_above (reverse ws) l (reverse ms) (rw length-reverse c) (subst G r h) in
    let m : l.below ≡ length ws = n ∙ length-reverse ws in
    (rw m at c.1, rw r (with_list_on_top (reverse ws) l (reverse ms) n))
