-- What the files give, from what their readers promise.
use Rattle.std.proofs.Common.{◌≡◌, ◌≢◌, ℕ, ◌≤◌, ◌<◌, ◌^◌, Bool, true, false, nat_le, if◌then◌else◌, List, [], ◌∷◌, length, Option, Some, None, Result, Ok, Err, IfOk, slice_get, refl, ap, sym, subst, ◌∙◌, arith}
use Rattle.std.proofs.lemmas.Bool.Decides.{nat_tests}
use Rattle.std.specs.Str.{IsUtf8, is_utf8}
use Rattle.std.proofs.lemmas.Str.{IsUtf8-from_is_utf8, is_utf8-from_IsUtf8}
use Rattle.serde_json.specs.Data.{Data}
use Rattle.serde_json.specs.Read.{read}
use Rattle.fl_base.specs.Finds.{Finds}
use Rattle.store_core.specs.declared.layout.Shape.{Shape}
use Rattle.store_core.specs.declared.layout.LayoutError.{LayoutError}
use Rattle.store_core.specs.declared.layout.LayoutError.TheVariants as laying
use Rattle.store_core.specs.declared.values.Args.{Args}
use Rattle.store_core.specs.declared.values.Weights.{Weights}
use Rattle.store_core.specs.declared.values.Direction.{Direction}
use Rattle.fl_ast.specs.declared.stmt.Program.{Program}
use Rattle.store_core.specs.Keys.{keys_of, LaysWithin}
use Rattle.data_io.specs.declared.data.DataError.{DataError}
use Rattle.data_io.specs.declared.data.DataError.TheVariants as reading
use Rattle.data_io.specs.DataFaults.{Answers, IsJson, no_json, no_args, no_weights, args_faults, args_of, faults_of, seed_of}
use Rattle.data_io.specs.Directions.{direction_faults, direction_of, no_direction}
use Rattle.data_stages.specs.Files.{json_of, unless, of_json, args_in, seed_in, direction_in}
use Rattle.data_stages.specs.Layouts.{laid_out}

-- the layout that is found
pub lays_found : (result : Result (List Shape) LayoutError) (shapes : List Shape) → LaysWithin (2 ^ 20) result shapes → Finds {T = List Shape} (λ l. l) laying.Memory (laid_out shapes) result
lays_found (Ok layout) shapes h =
    let test : nat_le (length (keys_of shapes)) (2 ^ 20) ≡ true = grind (arith, nat_tests, h.1) in
    rw test (ap (λ l. Ok l) (sym h.0))
lays_found (Err laying.TooManyPlaces) shapes h = λ k.
    let test : nat_le (length (keys_of shapes)) (2 ^ 20) ≡ false = grind (arith, nat_tests, h) in rw test
lays_found (Err laying.Memory) shapes h = λ k. absurd (k refl)

-- what a reader answers on a value
answers_found : {A : Type 0} (result : Result A DataError) (faults : List DataError) (value : A) → Answers result faults value → Finds {T = A} (λ a. a) reading.Memory (unless faults value) result
answers_found (Ok x) [] value h = ap (λ v. Ok v) (sym h.1)
answers_found (Ok x) (fault ∷ faults) value h = cc
answers_found (Err e) [] value h = λ k. let no : None ≡ Some e = h k in cc
answers_found (Err e) (fault ∷ faults) value h = λ k. let same : Some fault ≡ Some e = h k in cc

spelled_by : (bytes : List ℕ) (d : Data) (b : Bool) → is_utf8 bytes ≡ b → (if b then read bytes else None) ≡ Some d → IsJson bytes d
spelled_by bytes d true e h = (IsUtf8-from_is_utf8 bytes e, h)
spelled_by bytes d false e h = cc

spelled : (bytes : List ℕ) (d : Data) → json_of bytes ≡ Some d → IsJson bytes d
spelled bytes d h = spelled_by bytes d (is_utf8 bytes) refl h

unspelled : (bytes : List ℕ) (d : Data) → IsJson bytes d → json_of bytes ≡ None → ⊥
unspelled bytes d is h =
    let utf8 : is_utf8 bytes ≡ true = is_utf8-from_IsUtf8 bytes is.0 in
    let read_none : read bytes ≡ None = sym (ap (λ b. if b then read bytes else None) utf8) ∙ h in
    let no : Some d ≡ None = sym is.1 ∙ read_none in cc

-- what a reader finds in bytes, from what it promises of their value
by_json : {A : Type 0} (result : Result A DataError) (bytes : List ℕ) (faults : Data → List DataError) (value : Data → A) (none : A) (o : Option Data) → json_of bytes ≡ o →
    ((d : Data) → IsJson bytes d → Answers result (faults d) (value d)) → ((((d : Data) × IsJson bytes d) → ⊥) → Answers result no_json none) →
    Finds {T = A} (λ a. a) reading.Memory (of_json o (λ d. unless (faults d) (value d))) result
by_json result bytes faults value none (Some d) e json other = answers_found result (faults d) (value d) (json d (spelled bytes d e))
by_json result bytes faults value none None e json other = answers_found result no_json none (other (λ k. absurd (unspelled bytes k.0 k.1 e)))

pub args_found : (program : Program) (bytes : List ℕ) (result : Result Args DataError) →
    ((d : Data) → IsJson bytes d → Answers result (args_faults program.decls program.args d) (args_of program d)) →
    ((((d : Data) × IsJson bytes d) → ⊥) → Answers result no_json no_args) → Finds {T = Args} (λ a. a) reading.Memory (args_in program bytes) result
args_found program bytes result json other =
    by_json result bytes (λ d. args_faults program.decls program.args d) (λ d. args_of program d) no_args (json_of bytes) refl json other

pub seed_found : (program : Program) (args : Args) (of : List (List ℕ)) (bytes : List ℕ) (result : Result Weights DataError) →
    ((d : Data) → IsJson bytes d → Answers result (faults_of args.entries program.decls of d) (seed_of program of d)) →
    ((((d : Data) × IsJson bytes d) → ⊥) → Answers result no_json no_weights) → Finds {T = Weights} (λ a. a) reading.Memory (seed_in program args of bytes) result
seed_found program args of bytes result json other =
    by_json result bytes (λ d. faults_of args.entries program.decls of d) (λ d. seed_of program of d) no_weights (json_of bytes) refl json other

pub direction_found : (program : Program) (args : Args) (bytes : List ℕ) (result : Result Direction DataError) →
    ((d : Data) → IsJson bytes d → Answers result (direction_faults program args d) (direction_of program d)) →
    ((((d : Data) × IsJson bytes d) → ⊥) → Answers result no_json no_direction) → Finds {T = Direction} (λ a. a) reading.Memory (direction_in program args bytes) result
direction_found program args bytes result json other =
    by_json result bytes (λ d. direction_faults program args d) (λ d. direction_of program d) no_direction (json_of bytes) refl json other

-- a layout that is found has few places
pub lays_few : (result : Result (List Shape) LayoutError) (shapes : List Shape) → LaysWithin (2 ^ 20) result shapes → IfOk result (λ layout. length (keys_of layout) ≤ 2 ^ 20)
lays_few (Ok layout) shapes h = rw h.0 h.1
lays_few (Err error) shapes h = tt

-- a value that is found in some bytes
pub some_bytes : {A E F : Type 0} (result : Result A E) (found : List ℕ → Result A F) (bytes : List ℕ) → IfOk result (λ value. found bytes ≡ Ok value)
    → IfOk result (λ value. (b : List ℕ) × (found b ≡ Ok value))
some_bytes (Ok value) found bytes h = (bytes, h)
some_bytes (Err error) found bytes h = tt
