-- Tokens of a text lie in it.
use Rattle.std.proofs.Common.{◌≡◌, ℕ, zero, suc, ◌<◌, List, [], ◌∷◌, length, slice_get, get_or, take, Some, None, subst, arith}
use Rattle.tokens.specs.declared.Token.{Token}
use Rattle.tokens.specs.Spans.{Is_span, Are_spans}

pub span_at : (text : List ℕ) (ts : List Token) (at : ℕ) (t : Token) → Are_spans text ts → slice_get ts at ≡ Some t → Is_span (length text) t
span_at text [] at t s e = absurd (none t e)
  where
    none : (t : Token) → None ≡ Some t → ⊥
    none t e = cc
span_at text (u ∷ ts) zero t s e = subst (Is_span (length text)) (same u t e) s.0
  where
    same : (u t : Token) → Some u ≡ Some t → u ≡ t
    same u t e = cc
span_at text (u ∷ ts) (suc at) t s e = span_at text ts at t s.1 e

pub span_in : (text : List ℕ) (ts : List Token) (at : ℕ) (d : Token) → Are_spans text ts → at < length ts → Is_span (length text) (get_or ts at d)
span_in text [] at d s h = absurd (omega arith)
span_in text (u ∷ ts) zero d s h = s.0
span_in text (u ∷ ts) (suc at) d s h = span_in text ts at d s.1 (omega arith)

pub spans_before : (text : List ℕ) (ts : List Token) (at : ℕ) → Are_spans text ts → Are_spans text (take at ts)
spans_before text ts zero s = tt
spans_before text [] (suc at) s = tt
spans_before text (t ∷ ts) (suc at) s = (s.0, spans_before text ts at s.1)
