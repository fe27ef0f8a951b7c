-- What the parser of adjoints answers, against the grammar.
use Rattle.std.proofs.Common.{◌≡◌, ◌≢◌, ℕ, ◌-◌, ◌<◌, true, false, List, map, nat_lt, Some, None, Result, Ok, Err, [], ◌∷◌, refl, sym, ap, subst, ◌∙◌, lit<, arith}
use Rattle.std.proofs.lemmas.Bool.Decides.{nat_tests}
use Rattle.std.specs.Prelude.{IfOk, IfErr}
use Rattle.fl_base.specs.Finds.{Finds}
use Rattle.tokens.specs.declared.Token.{Token}
use Rattle.tokens.specs.Lexeme.{lexeme}
use Rattle.tokens.specs.Spelled.{AreSpelled}
use Rattle.fl_ast.specs.declared.adjoint.AdjointText.{AdjointText}
use Rattle.parsing.specs.declared.fault.Cause.{Cause}
use Rattle.parsing.specs.declared.fault.Cause.TheVariants.{Expected, Deep, Many, Construct, Unknown, Twice, Form}
use Rattle.parsing.specs.declared.fault.Fault.{Fault}
use Rattle.parsing.specs.Freed.{Freed, frees}
use Rattle.parsing.specs.Freed.Freed.{Nothing, Counts, All, Repeats}
use Rattle.parsing.specs.Reading.{Lexemes, Outcome}
use Rattle.parsing.specs.Refusal.{all_of}
use Rattle.fl_parser.specs.declared.error.ParseError.{ParseError}
use Rattle.fl_parser.specs.declared.error.ParseError.TheVariants.{Memory}
use Rattle.fl_statements.specs.Limits.{Limits}
use Rattle.fl_statements.specs.Wide.{Widens}
use Rattle.adjoint_statements.specs.Rooms.{the_limits, narrower}
use Rattle.adjoint_parser.specs.Parsed.{error_of, placed, parsed}
use Rattle.adjoint_parser.specs.ReadableText.{IsReadableText}
use Rattle.adjoint_parser.specs.Refuses.{Refuses, RefusedAnyhow, Told, unlimited, repeated}
use Rattle.adjoint_parser.specs.AdjointGrammar as g
use Rattle.adjoint_parser.specs.AdjointReading as p
use Rattle.parsing.proofs.Outcomes.{never, differ, Past}
use Rattle.parsing.proofs.Exact.{Exact}
use Rattle.parsing.proofs.Whole.{found, only, refused, freed, unfreed}
use Rattle.fl_parser.proofs.Texts.{kept, gone, more, same_number, same_once, some_brackets}
use Rattle.adjoint_statements.proofs.Widths.{Widths}
use Rattle.adjoint_parser.proofs.AdjointUnits.{unit_exact}
use Rattle.adjoint_parser.proofs.ReadableAdjoints.{readable_by_tokens}

-- limits that stay
staying : (l : Freed) (limits : Limits) → frees l Deep ≡ false → frees l Many ≡ false → frees l Twice ≡ false → nat_lt 0 limits.brackets ≡ true → Widens l limits limits
staying l limits deep many twice so = record {
  some = so;
  brackets = same_number l limits.brackets deep;
  depth = kept l Deep limits.depth deep;
  blocks = same_number l limits.blocks deep;
  statements = kept l Many limits.statements many;
  names = kept l Many limits.names many;
  once = same_once l limits.once twice;
}

at_all : (limits : Limits) → nat_lt 0 limits.brackets ≡ true → nat_lt 0 (limits.brackets - 1) ≡ true → Widths Nothing limits limits
at_all limits so two = record { outer = staying Nothing limits refl refl refl so; inner = staying Nothing (narrower limits) refl refl refl two }

-- there are no limits on numbers
counted : (b : ℕ) → nat_lt 0 b ≡ true → (let limits : Limits = record { brackets = b; depth = Some 256; blocks = 256; statements = None; names = None; once = true } in Widens Counts limits limits)
counted b so = record {
  some = so;
  brackets = same_number Counts b refl;
  depth = kept Counts Deep (Some 256) refl;
  blocks = same_number Counts 256 refl;
  statements = gone Counts Many None refl;
  names = gone Counts Many None refl;
  once = same_once Counts true refl;
}

to_uncounted : Widths Counts the_limits the_limits
to_uncounted = record { outer = counted 256 refl; inner = counted 255 refl }

widened : (b b2 n : ℕ) → nat_lt 0 b ≡ true → b < b2 → 256 < n →
    (let limits : Limits = record { brackets = b; depth = Some 256; blocks = 256; statements = None; names = None; once = true } in Widens All limits (unlimited b2 n))
widened b b2 n so h k = record {
  some = so;
  brackets = more All b b2 refl h;
  depth = gone All Deep (Some 256) refl;
  blocks = more All 256 n refl k;
  statements = gone All Many None refl;
  names = gone All Many None refl;
  once = same_once All true refl;
}

to_unlimited : (b n : ℕ) → 256 < b → 256 < n → Widths All the_limits (unlimited b n)
to_unlimited b n h k = record { outer = widened 256 b n refl h k; inner = widened 255 (b - 1) n refl (omega arith) k }

again : (b : ℕ) → nat_lt 0 b ≡ true →
    (let limits : Limits = record { brackets = b; depth = Some 256; blocks = 256; statements = None; names = None; once = true } in
    let wide : Limits = record { brackets = b; depth = Some 256; blocks = 256; statements = None; names = None; once = false } in Widens Repeats limits wide)
again b so = record {
  some = so;
  brackets = same_number Repeats b refl;
  depth = kept Repeats Deep (Some 256) refl;
  blocks = same_number Repeats 256 refl;
  statements = kept Repeats Many None refl;
  names = kept Repeats Many None refl;
  once = record { stays = λ h. differ true refl h; goes = λ _. refl };
}

to_repeated : Widths Repeats the_limits repeated
to_repeated = record { outer = again 256 refl; inner = again 255 refl }

two_brackets : (b : ℕ) → 256 < b → nat_lt 0 (b - 1) ≡ true
two_brackets b h = grind (arith, nat_tests)

reads_limits : Exact Nothing (g.unit the_limits) never (p.unit the_limits) (p.unit the_limits)
reads_limits = unit_exact Nothing the_limits the_limits (at_all the_limits refl refl)

reads_unlimited : (b n : ℕ) → 256 < b → Exact Nothing (g.unit (unlimited b n)) never (p.unit (unlimited b n)) (p.unit (unlimited b n))
reads_unlimited b n h = unit_exact Nothing (unlimited b n) (unlimited b n) (at_all (unlimited b n) (some_brackets b h) (two_brackets b h))

reads_repeated : Exact Nothing (g.unit repeated) never (p.unit repeated) (p.unit repeated)
reads_repeated = unit_exact Nothing repeated repeated (at_all repeated refl refl)

anyhow : (ts : Lexemes) (f : Fault) → all_of (p.unit the_limits ts) ≡ Err f → frees All f.cause ≡ false → RefusedAnyhow ts f.left
anyhow ts f e c b n h k = unfreed All Nothing (g.unit the_limits) (g.unit (unlimited b n)) never (p.unit the_limits) (p.unit (unlimited b n)) (p.unit (unlimited b n))
    (unit_exact All the_limits (unlimited b n) (to_unlimited b n h k)) (reads_unlimited b n h) ts f e c

-- A reader that a limit on numbers stops goes past its own refusal, as it has none.
uncounted : (ts : Lexemes) (f : Fault) → all_of (p.unit the_limits ts) ≡ Err f → f.cause ≡ Many → ⊥
uncounted ts f e c = by (p.unit the_limits ts) refl e
  where
    P : Exact Counts (g.unit the_limits) never (p.unit the_limits) (p.unit the_limits)
    P = unit_exact Counts the_limits the_limits to_uncounted

    behind : (d : Fault) → Past (let a : Outcome AdjointText = Err d in a) d.left → ⊥
    behind d h = omega arith

    expected : (x : AdjointText) (left : Lexemes) (f : Fault) → all_of (let a : Outcome AdjointText = Ok (x, left) in a) ≡ Err f → f.cause ≡ Many → ⊥
    expected x [] f e c = cc
    expected x (t ∷ left) f e c = cc

    by : (o : Outcome AdjointText) → p.unit the_limits ts ≡ o → all_of o ≡ Err f → ⊥
    by (Ok u) is_ e = expected u.0 u.1 f e c
    by (Err d) is_ e =
        let same_ : d ≡ f = cc in
        behind d (subst (λ (v : Outcome AdjointText). Past v d.left) is_ (P.past ts d is_ (ap (λ (v : Fault). frees Counts v.cause) same_ ∙ ap (frees Counts) c)))

told : (ts : Lexemes) (f : Fault) → all_of (p.unit the_limits ts) ≡ Err f → (cause : Cause) → f.cause ≡ cause → Told cause ts f.left
told ts f e Expected c = anyhow ts f e (ap (frees All) c)
told ts f e Deep c = freed All Nothing (g.unit the_limits) (g.unit (unlimited 257 257)) never (p.unit the_limits) (p.unit (unlimited 257 257)) (p.unit (unlimited 257 257))
    (unit_exact All the_limits (unlimited 257 257) (to_unlimited 257 257 (lit< tt) (lit< tt))) (reads_unlimited 257 257 (lit< tt)) ts f e (ap (frees All) c)
told ts f e Many c = uncounted ts f e c
told ts f e Construct c = anyhow ts f e (ap (frees All) c)
told ts f e Unknown c = anyhow ts f e (ap (frees All) c)
told ts f e Twice c = freed Repeats Nothing (g.unit the_limits) (g.unit repeated) never (p.unit the_limits) (p.unit repeated) (p.unit repeated)
    (unit_exact Repeats the_limits repeated to_repeated) reads_repeated ts f e (ap (frees Repeats) c)
told ts f e Form c = anyhow ts f e (ap (frees All) c)

placed_ok : (text : List ℕ) (tokens : List Token) (o : Result AdjointText Fault) (x : AdjointText) → placed text tokens o ≡ Ok x → o ≡ Ok x
placed_ok text tokens (Ok y) x e = same y x e
  where
    same : (y x : AdjointText) → (let a : Result AdjointText ParseError = Ok y in a) ≡ Ok x → (let a : Result AdjointText Fault = Ok y in a) ≡ Ok x
    same y x e = cc
placed_ok text tokens (Err f) x e = cc

placed_err : (text : List ℕ) (tokens : List Token) (o : Result AdjointText Fault) (e : ParseError) → placed text tokens o ≡ Err e → (f : Fault) × (o ≡ Err f) × (e ≡ error_of text tokens f)
placed_err text tokens (Ok y) e h = cc
placed_err text tokens (Err f) e h = (f, refl, sym (same (error_of text tokens f) e h))
  where
    same : (d e : ParseError) → (let a : Result AdjointText ParseError = Err d in a) ≡ Err e → d ≡ e
    same d e h = cc

pub found_by : (text : List ℕ) (tokens : List Token) (r : Result AdjointText ParseError) → Finds (λ t. t) Memory (parsed text tokens) r → IfOk r (λ x. g.unit the_limits x (map (lexeme text) tokens))
unfolding parsed
found_by text tokens (Ok x) h = found Nothing (g.unit the_limits) never (p.unit the_limits) (p.unit the_limits) reads_limits (map (lexeme text) tokens) x (placed_ok text tokens _ x h)
found_by text tokens (Err e) h = tt

pub readable_by : (text : List ℕ) (tokens : List Token) (r : Result AdjointText ParseError) → Finds (λ t. t) Memory (parsed text tokens) r → AreSpelled text 0 tokens → IfOk r IsReadableText
readable_by text tokens (Ok x) h spelled = readable_by_tokens text tokens x spelled (found_by text tokens (Ok x) h)
readable_by text tokens (Err e) h spelled = tt

pub only_by : (text : List ℕ) (tokens : List Token) (r : Result AdjointText ParseError) → Finds (λ t. t) Memory (parsed text tokens) r →
    (x : AdjointText) → g.unit the_limits x (map (lexeme text) tokens) → Finds (λ t. t) Memory (Ok x) r
unfolding parsed
only_by text tokens r h x n = by r h
  where
    is_x : parsed text tokens ≡ Ok x
    is_x = ap (placed text tokens) (only Nothing (g.unit the_limits) never (p.unit the_limits) (p.unit the_limits) reads_limits (map (lexeme text) tokens) x n)

    by : (r : Result AdjointText ParseError) → Finds (λ t. t) Memory (parsed text tokens) r → Finds (λ t. t) Memory (Ok x) r
    by (Ok y) h = sym is_x ∙ h
    by (Err e) h = λ some_. sym is_x ∙ h some_

pub refused_by : (text : List ℕ) (tokens : List Token) (r : Result AdjointText ParseError) → Finds (λ t. t) Memory (parsed text tokens) r →
    IfErr r (λ e. e ≢ Memory → Refuses text tokens e)
unfolding parsed
refused_by text tokens (Ok x) h = tt
refused_by text tokens (Err e) h = λ some_.
    let k = placed_err text tokens _ e (h some_) in
    let ts = map (lexeme text) tokens in
    (k.0, k.2, refused Nothing (g.unit the_limits) never (p.unit the_limits) (p.unit the_limits) reads_limits ts k.0 k.1, told ts k.0 k.1 k.0.cause refl)
