-- What a call that answers as `lexed` does promises.
use Rattle.std.proofs.Common.{◌≡◌, ◌≢◌, List, ℕ, Result, Ok, Err, Vec, Global, sym, ◌∙◌}
use Rattle.std.specs.Prelude.{[], IfOk, IfErr}
use Rattle.tokens.specs.Spans.{Are_spans}
use Rattle.tokens.specs.Spelled.{AreSpelled}
use Rattle.tokens.specs.declared.Token.{Token}
use Rattle.fl_base.specs.Finds.{Finds}
use Rattle.fl_lexer.specs.declared.error.LexError.{LexError}
use Rattle.fl_lexer.specs.declared.error.LexError.TheVariants as errors
use Rattle.fl_lexer.specs.Reading.{Tokens, lexed}
use Rattle.fl_lexer.specs.Spelling.{Spells}
use Rattle.fl_lexer.specs.Placement.{InOrder}
use Rattle.fl_lexer.specs.Refusals.{refusals, IsFirst}
use Rattle.fl_lexer.proofs.Refusing.{lexed_refused, lexed_none}
use Rattle.fl_lexer.proofs.TextSpelling.{lexed_found, lexed_again}
use Rattle.fl_lexer.proofs.Placing.{spells_in_order, spans_from}
use Rattle.fl_lexer.proofs.SpelledTokens.{spelled_in_order}

abbrev Outcome : Type 0
Outcome = Result (Vec Token Global) LexError

abbrev Exact : List ℕ → Outcome → Type 0
Exact text r = Finds (λ (v : Vec Token Global). v.items) errors.Memory (lexed text) r

pub finds_spelled : (text : List ℕ) (r : Outcome) → Exact text r → IfOk r (λ v. Spells text v.items)
finds_spelled text (Ok v) h = lexed_found text v.items h
finds_spelled text (Err e) h = tt

pub finds_all : (text : List ℕ) (r : Outcome) → Exact text r → (us : Tokens) → Spells text us → Finds (λ (v : Vec Token Global). v.items) errors.Memory (Ok us) r
finds_all text (Ok v) h us s = sym (lexed_again text us s) ∙ h
finds_all text (Err e) h us s = λ no. sym (lexed_again text us s) ∙ h no

pub finds_in_order : (text : List ℕ) (r : Outcome) → Exact text r → IfOk r (λ v. InOrder text 0 v.items)
finds_in_order text (Ok v) h = spells_in_order text v.items (lexed_found text v.items h)
finds_in_order text (Err e) h = tt

pub finds_spans : (text : List ℕ) (r : Outcome) → Exact text r → IfOk r (λ v. Are_spans text v.items)
finds_spans text (Ok v) h = spans_from text 0 v.items (spells_in_order text v.items (lexed_found text v.items h))
finds_spans text (Err e) h = tt

pub finds_spelled_in_order : (text : List ℕ) (r : Outcome) → Exact text r → IfOk r (λ v. AreSpelled text 0 v.items)
finds_spelled_in_order text (Ok v) h = spelled_in_order text 0 v.items (spells_in_order text v.items (lexed_found text v.items h))
finds_spelled_in_order text (Err e) h = tt

pub finds_none : (text : List ℕ) (r : Outcome) → Exact text r → IfOk r (λ v. refusals text ≡ [])
finds_none text (Ok v) h = lexed_none text v.items h
finds_none text (Err e) h = tt

pub finds_refused : (text : List ℕ) (r : Outcome) → Exact text r → IfErr r (λ e. e ≢ errors.Memory → IsFirst (refusals text) e)
finds_refused text (Ok v) h = tt
finds_refused text (Err e) h = λ no. lexed_refused text e (h no)
