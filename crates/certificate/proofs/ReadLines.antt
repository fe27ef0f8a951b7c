-- A text, line by line.
use Rattle.std.proofs.Common.{◌≡◌, ◌≢◌, ℕ, zero, suc, ◌+◌, ◌<◌, Bor, List, [], ◌∷◌, length, drop, get_or, Some, None, Result, Err, refl, ap, sym, ◌∙◌, add-one, arith}
use Rattle.certificate.specs.declared.derivation.Given.{Given}
use Rattle.certificate.specs.declared.stage.Stage.{Stage}
use Rattle.certificate.specs.Reading.{texts, stepped, after_line, read_from}

-- a line that isn't the last one
going-on : (n : ℕ) (lines : List (Bor (List ℕ))) (i : ℕ) (line : Bor (List ℕ)) (stage : Stage) (done : List Given) → suc i < length lines →
    read_from n (texts (drop i lines)) stage done ≡ after_line n (stepped n (get_or lines i line).now stage done) (read_from (suc n) (texts (drop (suc i) lines)))
going-on n [] i line stage done h = absurd (omega arith)
going-on n (x ∷ []) i line stage done h = absurd (omega arith)
going-on n (x ∷ y ∷ lines) zero line stage done h = refl
going-on n (x ∷ y ∷ lines) (suc i) line stage done h = going-on n (y ∷ lines) i line stage done (omega arith)

further : (lines : List (Bor (List ℕ))) (i : ℕ) → i < length lines → i + 1 ≢ length lines → suc i < length lines
further lines i h e = omega arith

pub refused : (lines : List (Bor (List ℕ))) (i : ℕ) (line : Bor (List ℕ)) (stage : Stage) (done : List Given) (found : Result (List Given) ℕ) → i < length lines → i + 1 ≢ length lines →
    read_from (i + 1) (texts (drop i lines)) stage done ≡ found → None ≡ stepped (i + 1) (get_or lines i line).now stage done → found ≡ Err (i + 1)
refused lines i line stage done found h e v s =
    sym v ∙ going-on (i + 1) lines i line stage done (further lines i h e)
    ∙ ap (λ o. after_line (i + 1) o (read_from (suc (i + 1)) (texts (drop (suc i) lines)))) (sym s)

pub accepted : (lines : List (Bor (List ℕ))) (i : ℕ) (line : Bor (List ℕ)) (stage : Stage) (done : List Given) (found : Result (List Given) ℕ) (next : Stage) (more : List Given) → i < length lines → i + 1 ≢ length lines →
    read_from (i + 1) (texts (drop i lines)) stage done ≡ found → Some (next, more) ≡ stepped (i + 1) (get_or lines i line).now stage done →
    read_from (i + 1 + 1) (texts (drop (i + 1) lines)) next more ≡ found
accepted lines i line stage done found next more h e v s =
    ap (λ k. read_from k (texts (drop (i + 1) lines)) next more) (add-one (i + 1))
    ∙ ap (λ m. read_from (suc (i + 1)) (texts (drop m lines)) next more) (add-one i)
    ∙ ap (λ o. after_line (i + 1) o (read_from (suc (i + 1)) (texts (drop (suc i) lines)))) s
    ∙ sym (going-on (i + 1) lines i line stage done (further lines i h e)) ∙ v
