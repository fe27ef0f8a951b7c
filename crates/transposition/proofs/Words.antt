-- Adjoints are words.
use Rattle.std.specs.Prelude.{All}
use Rattle.std.specs.Prelude.{◌≡◌, ℕ, zero, suc, ◌<◌, ◌^◌, ◌&&◌, nat_lt, Bool, true, false, List, [], ◌∷◌, slice_index, slice_set, refl}
use Rattle.std.proofs.Common.{arith}
use Rattle.std.proofs.lemmas.Bool.{and_parts}
use Rattle.std.proofs.lemmas.Bool.Decides.{nat_tests}
use Rattle.ring_core.specs.Ring.{ring_add}
use Rattle.fl_types.specs.declared.choice.Choice.{Choice}
use Rattle.fl_types.specs.declared.choice.Choice.TheVariants.{Shared, Atomic, Reduction}
use Rattle.transposition.specs.Worlds.{is_one_step, is_reduction}
use Rattle.transposition.specs.Law.{AreWords}

pub none_words : AreWords []
none_words p = omega arith

tail_words : (x : ℕ) (xs : List ℕ) → AreWords (x ∷ xs) → AreWords xs
tail_words x xs h p = h (suc p)

set_word : (bs : List ℕ) (p v q : ℕ) → v < 2 ^ 64 → AreWords bs → slice_index (slice_set bs p v) q < 2 ^ 64
set_word [] p v q h k = k q
set_word (b ∷ bs) zero v zero h k = h
set_word (b ∷ bs) zero v (suc q) h k = k (suc q)
set_word (b ∷ bs) (suc p) v zero h k = k zero
set_word (b ∷ bs) (suc p) v (suc q) h k = set_word bs p v q h (tail_words b bs k)

pub words_set : (bs : List ℕ) (p v : ℕ) → v < 2 ^ 64 → AreWords bs → AreWords (slice_set bs p v)
words_set bs p v h k q = set_word bs p v q h k

pub zero_word : 0 < 2 ^ 64
zero_word = omega arith

pub sum_word : (a b : ℕ) → ring_add a b < 2 ^ 64
sum_word a b = omega arith

-- a name whose adjoint is incremented by a load and a bump is no Reduction
pub not_summed : (c : Choice) → is_one_step c ≡ false → is_reduction c ≡ false
not_summed Shared h = refl
not_summed Atomic h = cc
not_summed Reduction h = cc

-- a list of words, by computing
abbrev pub has_words : List ℕ → Bool
has_words [] = true
has_words (b ∷ bs) = nat_lt b 18446744073709551616 && has_words bs

pub all_small : (bs : List ℕ) → has_words bs ≡ true → AreWords bs
all_small [] h p = zero_word
all_small (b ∷ bs) h zero = let e = (and_parts (nat_lt b 18446744073709551616) (has_words bs) h).0 in grind (arith, nat_tests)
all_small (b ∷ bs) h (suc p) = all_small bs (and_parts (nat_lt b 18446744073709551616) (has_words bs) h).1 p

pub all_words : (bs : List ℕ) → has_words bs ≡ true → All (λ x. x < 2 ^ 64) bs
all_words [] h k d l = absurd (omega arith)
all_words (b ∷ bs) h zero d l = let e = (and_parts (nat_lt b 18446744073709551616) (has_words bs) h).0 in grind (arith, nat_tests)
all_words (b ∷ bs) h (suc k) d l = all_words bs (and_parts (nat_lt b 18446744073709551616) (has_words bs) h).1 k d (omega arith)
