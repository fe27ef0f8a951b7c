-- What is said of a run that stops.
use Rattle.std.specs.Prelude.{ℕ, List, [], ◌++◌, codes, decimal, Option, Some, None, slice_get}
use Rattle.ending.specs.declared.verdict.Verdict.{Verdict}
use Rattle.ending.specs.declared.verdict.Verdict.TheVariants as verdict
use Rattle.ending.specs.Plan.{Plan, Says, Saying}
use Rattle.store_core.specs.declared.layout.Shape.{Shape}
use Rattle.store_core.specs.Keys.{keys_of}
use Rattle.store_core.specs.Texts.{map_text}
use Rattle.meaning.specs.declared.value.Cause.{Cause}
use Rattle.meaning.specs.declared.value.Cause.TheVariants.{Range, ZeroDivisor, Bounds, Unset}
use Rattle.meaning.specs.Stops.{Stop, at_end, trapped, over_statements, over_touches, over_words, conflicted}
use Rattle.forward_run.specs.declared.stop.ForwardStop.{ForwardStop}
use Rattle.forward_run.specs.declared.stop.ForwardStop.TheVariants.{Trap, Statements, Touches, Words, Conflict, Memory}

abbrev pub cause_text : Cause → List ℕ
cause_text Range = codes "range"
cause_text ZeroDivisor = codes "zero divisor"
cause_text (Bounds name) = codes "bounds " ++ name
cause_text (Unset name) = codes "unset " ++ name

abbrev pub trap_line : ℕ → List ℕ → List ℕ
trap_line line phrase = codes "trap line " ++ decimal line ++ codes " " ++ phrase ++ codes "\n"

abbrev pub statements_line : List ℕ
statements_line = codes "limit statements 16777216\n"

abbrev pub touches_line : List ℕ
touches_line = codes "limit touches 16777216\n"

abbrev pub words_line : List ℕ
words_line = codes "limit tape 8388608\n"

abbrev pub text_or : Option (List ℕ) → List ℕ
text_or None = []
text_or (Some text) = text

-- a place as `y(2,3)`, nothing where there is none with the number
abbrev pub place_text : List Shape → ℕ → List ℕ
place_text shapes place = text_or (map_text (slice_get (keys_of shapes) place))

abbrev pub conflict_line : ℕ → List ℕ → ℕ → ℕ → List ℕ
conflict_line line place first second =
    codes "conflict line " ++ decimal line ++ codes " " ++ place ++ codes " iterations " ++ decimal first ++ codes " " ++ decimal second ++ codes "\n"

-- the verdict and the line of a stop, none at the end
abbrev pub say_stop : List Shape → Stop → Option (Verdict × List ℕ)
say_stop shapes at_end = None
say_stop shapes (trapped t) = Some (verdict.Trapped, trap_line t.line (cause_text t.cause))
say_stop shapes over_statements = Some (verdict.OverLimit, statements_line)
say_stop shapes over_touches = Some (verdict.OverLimit, touches_line)
say_stop shapes over_words = Some (verdict.OverLimit, words_line)
say_stop shapes (conflicted line clash) = Some (verdict.Conflicted, conflict_line line (place_text shapes clash.place) clash.first clash.second)

abbrev pub unless_said : Option (Verdict × List ℕ) → (Unit {0} → Plan) → Plan
unless_said None rest = rest tt
unless_said (Some saying) rest = Says saying.0 saying.1

-- a run that comes to its end goes on, and the first stop is said
abbrev pub stop_stage : List Shape → Stop → (Unit {0} → Plan) → Plan
stop_stage shapes stop rest = unless_said (say_stop shapes stop) rest

-- what is said of a forward sweep that ended early
abbrev pub say_forward : List Shape → ForwardStop → Saying
say_forward shapes (Trap t) = Some (verdict.Trapped, trap_line t.line (cause_text t.cause))
say_forward shapes Statements = Some (verdict.OverLimit, statements_line)
say_forward shapes Touches = Some (verdict.OverLimit, touches_line)
say_forward shapes Words = Some (verdict.OverLimit, words_line)
say_forward shapes (Conflict c) = Some (verdict.Conflicted, conflict_line c.line (place_text shapes c.place) c.first c.second)
say_forward shapes Memory = None
