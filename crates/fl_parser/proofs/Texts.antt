-- What the parser answers, against the grammar.
use Rattle.std.proofs.Common.{◌≡◌, ◌≢◌, ℕ, ◌+◌, ◌<◌, ◌^◌, true, false, List, map, Some, None, Result, Ok, Err, refl, sym, ap, ◌∙◌, lit<}
use Rattle.std.specs.Prelude.{IfOk, IfErr}
use Rattle.fl_base.specs.Finds.{Finds}
use Rattle.tokens.specs.declared.Token.{Token}
use Rattle.tokens.specs.Lexeme.{lexeme}
use Rattle.fl_ast.specs.declared.stmt.Program.{Program}
use Rattle.parsing.specs.declared.fault.Cause.{Cause}
use Rattle.parsing.specs.declared.fault.Cause.TheVariants.{Expected, Deep, Many, Construct, Unknown, Twice, Form}
use Rattle.parsing.specs.declared.fault.Fault.{Fault}
use Rattle.parsing.specs.Freed.{Freed, Frees, frees}
use Rattle.parsing.specs.Freed.Freed.{Nothing, Counts, All, Repeats}
use Rattle.parsing.specs.Limit.{Limit}
use Rattle.parsing.specs.Reading.{Lexemes}
use Rattle.parsing.specs.Refusal.{all_of}
use Rattle.fl_parser.specs.declared.error.ParseError.{ParseError}
use Rattle.fl_parser.specs.declared.error.ParseError.TheVariants.{Memory}
use Rattle.fl_parser.specs.Parsed.{error_of, placed, parsed}
use Rattle.fl_parser.specs.Refuses.{Refuses, RefusedAnyhow, Told, uncounted, unlimited, repeated}
use Rattle.fl_statements.specs.Limits.{Limits, the_limits}
use Rattle.fl_expressions.specs.Wide.{More}
use Rattle.fl_statements.specs.Wide.{Widens}
use Rattle.fl_parser.specs.UnitGrammar as g
use Rattle.fl_parser.specs.UnitReading as p
use Rattle.parsing.proofs.Outcomes.{never, differ}
use Rattle.parsing.proofs.Exact.{Exact}
use Rattle.parsing.proofs.Whole.{found, only, refused, freed, unfreed}
use Rattle.std.specs.Prelude.{length}
use Rattle.tokens.specs.Spelled.{AreSpelled}
use Rattle.fl_ast.specs.Readable.{IsReadable}
use Rattle.fl_parser.proofs.Readables.{readable_by_tokens}
use Rattle.std.specs.Prelude.{nat_lt}
use Rattle.std.proofs.Common.{Bool, arith}
use Rattle.std.proofs.lemmas.Bool.Decides.{nat_tests}
use Rattle.omp_clauses.specs.Once.{Onces}
use Rattle.fl_parser.proofs.Units.{unit_exact}

same_limit : (cause : Cause) (d : Limit) → Frees Nothing cause d d
same_limit cause d = record { stays = λ _. refl; goes = λ h. differ true refl (sym h) }

pub kept : (l : Freed) (cause : Cause) (d : Limit) → frees l cause ≡ false → Frees l cause d d
kept l cause d f = record { stays = λ _. refl; goes = λ h. differ (frees l cause) h f }

pub gone : (l : Freed) (cause : Cause) (d : Limit) → frees l cause ≡ true → Frees l cause d None
gone l cause d t = record { stays = λ f. differ (frees l cause) t f; goes = λ _. refl }

pub more : (l : Freed) (b b2 : ℕ) → frees l Deep ≡ true → b < b2 → More l b b2
more l b b2 t h = record { stays = λ f. differ (frees l Deep) t f; goes = λ _. h }

pub same_number : (l : Freed) (b : ℕ) → frees l Deep ≡ false → More l b b
same_number l b f = record { stays = λ _. refl; goes = λ h. differ (frees l Deep) h f }

pub same_once : (l : Freed) (once : Bool) → frees l Twice ≡ false → Onces l once once
same_once l once f = record { stays = λ _. refl; goes = λ h. differ (frees l Twice) h f }

at_all : (limits : Limits) → nat_lt 0 limits.brackets ≡ true → Widens Nothing limits limits
at_all limits so = record {
  some = so;
  brackets = same_number Nothing limits.brackets refl;
  depth = same_limit Deep limits.depth;
  blocks = same_number Nothing limits.blocks refl;
  statements = same_limit Many limits.statements;
  names = same_limit Many limits.names;
  once = same_once Nothing limits.once refl;
}

to_uncounted : Widens Counts the_limits uncounted
to_uncounted = record {
  some = refl;
  brackets = same_number Counts 256 refl;
  depth = kept Counts Deep (Some 64) refl;
  blocks = same_number Counts 64 refl;
  statements = gone Counts Many (Some 4096) refl;
  names = gone Counts Many (Some 512) refl;
  once = same_once Counts true refl;
}

to_unlimited : (b n : ℕ) → 256 < b → 64 < n → Widens All the_limits (unlimited b n)
to_unlimited b n h k = record {
  some = refl;
  brackets = more All 256 b refl h;
  depth = gone All Deep (Some 64) refl;
  blocks = more All 64 n refl k;
  statements = gone All Many (Some 4096) refl;
  names = gone All Many (Some 512) refl;
  once = same_once All true refl;
}

to_repeated : Widens Repeats the_limits repeated
to_repeated = record {
  some = refl;
  brackets = same_number Repeats 256 refl;
  depth = kept Repeats Deep (Some 64) refl;
  blocks = same_number Repeats 64 refl;
  statements = kept Repeats Many (Some 4096) refl;
  names = kept Repeats Many (Some 512) refl;
  once = record { stays = λ h. differ true refl h; goes = λ _. refl };
}

pub some_brackets : (b : ℕ) → 256 < b → nat_lt 0 b ≡ true
some_brackets b h = grind (arith, nat_tests)

reads_limits : Exact Nothing (g.unit the_limits) never (p.unit the_limits) (p.unit the_limits)
reads_limits = unit_exact Nothing the_limits the_limits (at_all the_limits refl)

reads_uncounted : Exact Nothing (g.unit uncounted) never (p.unit uncounted) (p.unit uncounted)
reads_uncounted = unit_exact Nothing uncounted uncounted (at_all uncounted refl)

reads_unlimited : (b n : ℕ) → 256 < b → Exact Nothing (g.unit (unlimited b n)) never (p.unit (unlimited b n)) (p.unit (unlimited b n))
reads_unlimited b n h = unit_exact Nothing (unlimited b n) (unlimited b n) (at_all (unlimited b n) (some_brackets b h))

reads_repeated : Exact Nothing (g.unit repeated) never (p.unit repeated) (p.unit repeated)
reads_repeated = unit_exact Nothing repeated repeated (at_all repeated refl)

anyhow : (ts : Lexemes) (f : Fault) → all_of (p.unit the_limits ts) ≡ Err f → frees All f.cause ≡ false → RefusedAnyhow ts f.left
anyhow ts f e c b n h k = unfreed All Nothing (g.unit the_limits) (g.unit (unlimited b n)) never (p.unit the_limits) (p.unit (unlimited b n)) (p.unit (unlimited b n))
    (unit_exact All the_limits (unlimited b n) (to_unlimited b n h k)) (reads_unlimited b n h) ts f e c

told : (ts : Lexemes) (f : Fault) → all_of (p.unit the_limits ts) ≡ Err f → (cause : Cause) → f.cause ≡ cause → Told cause ts f.left
told ts f e Expected c = anyhow ts f e (ap (frees All) c)
told ts f e Deep c = (
  unfreed Counts Nothing (g.unit the_limits) (g.unit uncounted) never (p.unit the_limits) (p.unit uncounted) (p.unit uncounted)
      (unit_exact Counts the_limits uncounted to_uncounted) reads_uncounted ts f e (ap (frees Counts) c),
  freed All Nothing (g.unit the_limits) (g.unit (unlimited 257 65)) never (p.unit the_limits) (p.unit (unlimited 257 65)) (p.unit (unlimited 257 65))
      (unit_exact All the_limits (unlimited 257 65) (to_unlimited 257 65 (lit< tt) (lit< tt))) (reads_unlimited 257 65 (lit< tt)) ts f e (ap (frees All) c),
)
told ts f e Many c = freed Counts Nothing (g.unit the_limits) (g.unit uncounted) never (p.unit the_limits) (p.unit uncounted) (p.unit uncounted)
    (unit_exact Counts the_limits uncounted to_uncounted) reads_uncounted ts f e (ap (frees Counts) c)
told ts f e Construct c = anyhow ts f e (ap (frees All) c)
told ts f e Unknown c = anyhow ts f e (ap (frees All) c)
told ts f e Twice c = freed Repeats Nothing (g.unit the_limits) (g.unit repeated) never (p.unit the_limits) (p.unit repeated) (p.unit repeated)
    (unit_exact Repeats the_limits repeated to_repeated) reads_repeated ts f e (ap (frees Repeats) c)
told ts f e Form c = anyhow ts f e (ap (frees All) c)

placed_ok : (text : List ℕ) (tokens : List Token) (o : Result Program Fault) (x : Program) → placed text tokens o ≡ Ok x → o ≡ Ok x
placed_ok text tokens (Ok y) x e = same y x e
  where
    same : (y x : Program) → (let a : Result Program ParseError = Ok y in a) ≡ Ok x → (let a : Result Program Fault = Ok y in a) ≡ Ok x
    same y x e = cc
placed_ok text tokens (Err f) x e = cc

placed_err : (text : List ℕ) (tokens : List Token) (o : Result Program Fault) (e : ParseError) → placed text tokens o ≡ Err e → (f : Fault) × (o ≡ Err f) × (e ≡ error_of text tokens f)
placed_err text tokens (Ok y) e h = cc
placed_err text tokens (Err f) e h = (f, refl, sym (same (error_of text tokens f) e h))
  where
    same : (d e : ParseError) → (let a : Result Program ParseError = Err d in a) ≡ Err e → d ≡ e
    same d e h = cc

pub found_by : (text : List ℕ) (tokens : List Token) (r : Result Program ParseError) → Finds (λ p. p) Memory (parsed text tokens) r → IfOk r (λ x. g.unit the_limits x (map (lexeme text) tokens))
unfolding parsed
found_by text tokens (Ok x) h = found Nothing (g.unit the_limits) never (p.unit the_limits) (p.unit the_limits) reads_limits (map (lexeme text) tokens) x (placed_ok text tokens _ x h)
found_by text tokens (Err e) h = tt

pub readable_by : (text : List ℕ) (tokens : List Token) (r : Result Program ParseError) → length text + 1 < 2 ^ 32 → AreSpelled text 0 tokens →
    Finds (λ p. p) Memory (parsed text tokens) r → IfOk r IsReadable
readable_by text tokens (Ok x) few spelled h = readable_by_tokens text tokens x few spelled (found_by text tokens (Ok x) h)
readable_by text tokens (Err e) few spelled h = tt

pub only_by : (text : List ℕ) (tokens : List Token) (r : Result Program ParseError) → Finds (λ p. p) Memory (parsed text tokens) r →
    (x : Program) → g.unit the_limits x (map (lexeme text) tokens) → Finds (λ p. p) Memory (Ok x) r
unfolding parsed
only_by text tokens r h x n = by r h
  where
    is_x : parsed text tokens ≡ Ok x
    is_x = ap (placed text tokens) (only Nothing (g.unit the_limits) never (p.unit the_limits) (p.unit the_limits) reads_limits (map (lexeme text) tokens) x n)

    by : (r : Result Program ParseError) → Finds (λ p. p) Memory (parsed text tokens) r → Finds (λ p. p) Memory (Ok x) r
    by (Ok y) h = sym is_x ∙ h
    by (Err e) h = λ some_. sym is_x ∙ h some_

pub refused_by : (text : List ℕ) (tokens : List Token) (r : Result Program ParseError) → Finds (λ p. p) Memory (parsed text tokens) r →
    IfErr r (λ e. e ≢ Memory → Refuses text tokens e)
unfolding parsed
refused_by text tokens (Ok x) h = tt
refused_by text tokens (Err e) h = λ some_.
    let k = placed_err text tokens _ e (h some_) in
    let ts = map (lexeme text) tokens in
    (k.0, k.2, refused Nothing (g.unit the_limits) never (p.unit the_limits) (p.unit the_limits) reads_limits ts k.0 k.1, told ts k.0 k.1 k.0.cause refl)
