-- What the reader of directives answers, against the grammar.
use Rattle.std.proofs.Common.{◌≡◌, ◌≢◌, ℕ, Bool, true, false, List, map, Result, Ok, Err, refl, sym, ap, ◌∙◌}
use Rattle.std.specs.Prelude.{IfOk, IfErr}
use Rattle.fl_base.specs.Finds.{Finds}
use Rattle.tokens.specs.declared.Token.{Token}
use Rattle.tokens.specs.Lexeme.{lexeme}
use Rattle.tokens.specs.Spelled.{AreSpelled}
use Rattle.parsing.specs.declared.fault.Cause.{Cause}
use Rattle.parsing.specs.declared.fault.Cause.TheVariants.{Expected, Deep, Many, Construct, Unknown, Twice, Form}
use Rattle.parsing.specs.declared.fault.Fault.{Fault}
use Rattle.parsing.specs.declared.fault.ClauseError.{ClauseError}
use Rattle.parsing.specs.declared.fault.ClauseError.TheVariants.{Memory}
use Rattle.parsing.specs.Freed.{frees}
use Rattle.parsing.specs.Freed.Freed.{Nothing, Repeats}
use Rattle.parsing.specs.Reading.{Lexemes}
use Rattle.parsing.specs.Refusal.{all_of}
use Rattle.omp_clauses.specs.declared.directive.DirectiveLine.{DirectiveLine}
use Rattle.omp_clauses.specs.Once.{Onces}
use Rattle.omp_clauses.specs.Refused.{error_of, placed, directive_read, Told, Refuses, is_readable_line}
use Rattle.omp_clauses.specs.LineGrammar as g
use Rattle.omp_clauses.specs.LineReading as p
use Rattle.parsing.proofs.Outcomes.{never, differ}
use Rattle.parsing.proofs.Exact.{Exact}
use Rattle.parsing.proofs.Whole.{found, only, refused, freed, unfreed}
use Rattle.omp_clauses.proofs.LineExact.{directive_exact}
use Rattle.omp_clauses.proofs.Readables.{line_readable}

kept : (once : Bool) → Onces Nothing once once
kept once = record { stays = λ _. refl; goes = λ h. differ true refl (sym h) }

gone : Onces Repeats true false
gone = record { stays = λ h. differ true refl h; goes = λ _. refl }

reads_once : Exact Nothing (g.directive_line true) never (p.directive_line true) (p.directive_line true)
reads_once = directive_exact Nothing true true (kept true)

reads_any : Exact Nothing (g.directive_line false) never (p.directive_line false) (p.directive_line false)
reads_any = directive_exact Nothing false false (kept false)

frees_repeats : Exact Repeats (g.directive_line true) never (p.directive_line true) (p.directive_line false)
frees_repeats = directive_exact Repeats true false gone

told : (ts : Lexemes) (f : Fault) → all_of (p.directive_line true ts) ≡ Err f → (cause : Cause) → f.cause ≡ cause → Told cause ts f.left
told ts f e Twice c = freed Repeats Nothing (g.directive_line true) (g.directive_line false) never (p.directive_line true) (p.directive_line false) (p.directive_line false) frees_repeats reads_any ts f e (ap (frees Repeats) c)
told ts f e Expected c = unfreed Repeats Nothing (g.directive_line true) (g.directive_line false) never (p.directive_line true) (p.directive_line false) (p.directive_line false) frees_repeats reads_any ts f e (ap (frees Repeats) c)
told ts f e Deep c = unfreed Repeats Nothing (g.directive_line true) (g.directive_line false) never (p.directive_line true) (p.directive_line false) (p.directive_line false) frees_repeats reads_any ts f e (ap (frees Repeats) c)
told ts f e Many c = unfreed Repeats Nothing (g.directive_line true) (g.directive_line false) never (p.directive_line true) (p.directive_line false) (p.directive_line false) frees_repeats reads_any ts f e (ap (frees Repeats) c)
told ts f e Construct c = unfreed Repeats Nothing (g.directive_line true) (g.directive_line false) never (p.directive_line true) (p.directive_line false) (p.directive_line false) frees_repeats reads_any ts f e (ap (frees Repeats) c)
told ts f e Unknown c = unfreed Repeats Nothing (g.directive_line true) (g.directive_line false) never (p.directive_line true) (p.directive_line false) (p.directive_line false) frees_repeats reads_any ts f e (ap (frees Repeats) c)
told ts f e Form c = unfreed Repeats Nothing (g.directive_line true) (g.directive_line false) never (p.directive_line true) (p.directive_line false) (p.directive_line false) frees_repeats reads_any ts f e (ap (frees Repeats) c)

placed_ok : (text : List ℕ) (tokens : List Token) (o : Result DirectiveLine Fault) (x : DirectiveLine) → placed text tokens o ≡ Ok x → o ≡ Ok x
placed_ok text tokens (Ok y) x e = same y x e
  where
    same : (y x : DirectiveLine) → (let a : Result DirectiveLine ClauseError = Ok y in a) ≡ Ok x → (let a : Result DirectiveLine Fault = Ok y in a) ≡ Ok x
    same y x e = cc
placed_ok text tokens (Err f) x e = cc

placed_err : (text : List ℕ) (tokens : List Token) (o : Result DirectiveLine Fault) (e : ClauseError) → placed text tokens o ≡ Err e → (f : Fault) × (o ≡ Err f) × (e ≡ error_of text tokens f)
placed_err text tokens (Ok y) e h = cc
placed_err text tokens (Err f) e h = (f, refl, sym (same (error_of text tokens f) e h))
  where
    same : (d e : ClauseError) → (let a : Result DirectiveLine ClauseError = Err d in a) ≡ Err e → d ≡ e
    same d e h = cc

pub found_by : (text : List ℕ) (tokens : List Token) (r : Result DirectiveLine ClauseError) → Finds (λ d. d) Memory (directive_read text tokens) r → IfOk r (λ x. g.directive_line true x (map (lexeme text) tokens))
unfolding directive_read
found_by text tokens (Ok x) h = found Nothing (g.directive_line true) never (p.directive_line true) (p.directive_line true) reads_once (map (lexeme text) tokens) x (placed_ok text tokens _ x h)
found_by text tokens (Err e) h = tt

pub readable_by : (text : List ℕ) (tokens : List Token) (r : Result DirectiveLine ClauseError) → AreSpelled text 0 tokens → Finds (λ d. d) Memory (directive_read text tokens) r → IfOk r (λ d. is_readable_line d ≡ true)
readable_by text tokens (Ok x) spelled h = line_readable text tokens x spelled (found_by text tokens (Ok x) h)
readable_by text tokens (Err e) spelled h = tt

pub only_by : (text : List ℕ) (tokens : List Token) (r : Result DirectiveLine ClauseError) → Finds (λ d. d) Memory (directive_read text tokens) r →
    (x : DirectiveLine) → g.directive_line true x (map (lexeme text) tokens) → Finds (λ d. d) Memory (Ok x) r
unfolding directive_read
only_by text tokens r h x n = by r h
  where
    is_x : directive_read text tokens ≡ Ok x
    is_x = ap (placed text tokens) (only Nothing (g.directive_line true) never (p.directive_line true) (p.directive_line true) reads_once (map (lexeme text) tokens) x n)

    by : (r : Result DirectiveLine ClauseError) → Finds (λ d. d) Memory (directive_read text tokens) r → Finds (λ d. d) Memory (Ok x) r
    by (Ok y) h = sym is_x ∙ h
    by (Err e) h = λ some_. sym is_x ∙ h some_

pub refused_by : (text : List ℕ) (tokens : List Token) (r : Result DirectiveLine ClauseError) → Finds (λ d. d) Memory (directive_read text tokens) r →
    IfErr r (λ e. e ≢ Memory → Refuses text tokens e)
unfolding directive_read
refused_by text tokens (Ok x) h = tt
refused_by text tokens (Err e) h = λ some_.
    let k = placed_err text tokens _ e (h some_) in
    let ts = map (lexeme text) tokens in
    (k.0, k.2, refused Nothing (g.directive_line true) never (p.directive_line true) (p.directive_line true) reads_once ts k.0 k.1, told ts k.0 k.1 k.0.cause refl)
