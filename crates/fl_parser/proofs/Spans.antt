-- Tokens of a text lie in it.
use Rattle.std.proofs.Common.{◌≡◌, ℕ, zero, suc, List, [], ◌∷◌, length, drop, take, ◌≤◌, ◌-◌, ap, refl, arith, slice_get, Some, None, subst}
use Rattle.std.proofs.lemmas.List.{length-drop}
use Rattle.tokens.specs.declared.Token.{Token}
use Rattle.tokens.specs.Spans.{Is_span, Are_spans}

pub span_at : (text : List ℕ) (ts : List Token) (at : ℕ) (t : Token) → Are_spans text ts → slice_get ts at ≡ Some t → Is_span (length text) t
span_at text [] at t s e = absurd (none t e)
  where
    none : (t : Token) → None ≡ Some t → ⊥
    none t e = cc
span_at text (u ∷ ts) zero t s e = subst (Is_span (length text)) (same u t e) s.0
  where
    same : (u t : Token) → Some u ≡ Some t → u ≡ t
    same u t e = cc
span_at text (u ∷ ts) (suc at) t s e = span_at text ts at t s.1 e

-- and so do those behind some of them
pub spans_behind : (text : List ℕ) (ts : List Token) (start : ℕ) → Are_spans text ts → Are_spans text (drop start ts)
spans_behind text ts zero s = s
spans_behind text [] (suc start) s = s
spans_behind text (t ∷ ts) (suc start) s = spans_behind text ts start s.1

take_all : (ts : List Token) (n : ℕ) → length ts ≤ n → take n ts ≡ ts
take_all [] zero h = refl
take_all [] (suc n) h = refl
take_all (t ∷ ts) zero h = absurd (omega arith)
take_all (t ∷ ts) (suc n) h = ap (λ us. t ∷ us) (take_all ts n (omega arith))

-- all of those behind some
pub all_behind : (ts : List Token) (start : ℕ) → take (length ts - start) (drop start ts) ≡ drop start ts
all_behind ts start = let size = length-drop start ts in take_all (drop start ts) (length ts - start) (omega arith)
