-- Data and weights that were read.
use Rattle.std.proofs.Common.{◌≡◌, ℕ, Bool, true, false, if◌then◌else◌, List, [], ◌∷◌, Option, Some, None, Ok, refl, subst}
use Rattle.std.specs.Str.{is_utf8}
use Rattle.serde_json.specs.Data.{Data}
use Rattle.serde_json.specs.Read.{read}
use Rattle.fl_ast.specs.declared.stmt.Program.{Program}
use Rattle.store_core.specs.declared.values.Args.{Args}
use Rattle.store_core.specs.declared.values.Weights.{Weights}
use Rattle.data_io.specs.declared.data.DataError.{DataError}
use Rattle.data_io.specs.DataFaults.{args_faults, args_of, faults_of, seed_of}
use Rattle.data_stages.specs.Files.{json_of, unless, of_json, args_in, seed_in}
use Rattle.answer_law.specs.Answered.{AreSmall, AreAmong}
use Rattle.answer_law.proofs.Reading.{read_small, seeds_asked}

by_faults : {A : Type 0} (faults : List DataError) (value a : A) (P : A → Type 0) → unless faults value ≡ Ok a → P value → P a
by_faults [] value a P e p = let same : value ≡ a = cc in subst P same p
by_faults (fault ∷ faults) value a P e p = absurd (cc)

-- what is so of all that a reader can find
by_json : {A : Type 0} (bytes : List ℕ) (o : Option Data) (faults : Data → List DataError) (value : Data → A) (a : A) (P : A → Type 0) → json_of bytes ≡ o
    → of_json o (λ d. unless (faults d) (value d)) ≡ Ok a → ((d : Data) → read bytes ≡ Some d → P (value d)) → P a
by_json bytes None faults value a P s e p = absurd (cc)
by_json bytes (Some d) faults value a P s e p = by_faults (faults d) (value d) a P e (p d (spelled (is_utf8 bytes) s))
  where
    spelled : (b : Bool) → (if b then read bytes else None) ≡ Some d → read bytes ≡ Some d
    spelled true h = h
    spelled false h = absurd (cc)

pub args_small : (program : Program) (args : Args) (bytes : List ℕ) → args_in program bytes ≡ Ok args → AreSmall args.entries
args_small program args bytes e =
    by_json bytes (json_of bytes) (λ d. args_faults program.decls program.args d) (λ d. args_of program d) args (λ (a : Args). AreSmall a.entries) refl e
    (λ d r. read_small bytes program.decls program.args d r)

pub seed_small : (program : Program) (args : Args) (of : List (List ℕ)) (weights : Weights) (bytes : List ℕ) → seed_in program args of bytes ≡ Ok weights → AreSmall weights.entries
seed_small program args of weights bytes e =
    by_json bytes (json_of bytes) (λ d. faults_of args.entries program.decls of d) (λ d. seed_of program of d) weights (λ (w : Weights). AreSmall w.entries) refl e
    (λ d r. read_small bytes program.decls of d r)

pub seed_asked : (program : Program) (args : Args) (of : List (List ℕ)) (weights : Weights) (bytes : List ℕ) → seed_in program args of bytes ≡ Ok weights → AreAmong of weights.entries
seed_asked program args of weights bytes e =
    by_json bytes (json_of bytes) (λ d. faults_of args.entries program.decls of d) (λ d. seed_of program of d) weights (λ (w : Weights). AreAmong of w.entries) refl e
    (λ d r. seeds_asked program.decls of d)
