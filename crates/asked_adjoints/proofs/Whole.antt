-- The adjoint of a typed program, of any names by any names, is readable.
use Rattle.std.proofs.Common.{◌≡◌, ℕ, Bool, true, List, map}
use Rattle.std.proofs.lemmas.Bool.{and_parts}
use Rattle.fl_ast.specs.declared.stmt.Program.{Program}
use Rattle.activity.specs.Active.{program_flows, turned}
use Rattle.reachability.specs.Named.{is_declared}
use Rattle.adjoint_sets.specs.Reach.{is_reached_name}
use Rattle.adjoint_sets.specs.Names.{is_active}
use Rattle.adjoint_sets.proofs.Reaching.{reached_name}
use Rattle.adjoint_choices.specs.Choosing.{choices_of}
use Rattle.readable_adjoints.specs.Fitting.{IsFitting}
use Rattle.readable_adjoints.proofs.Whole.{readable}
use Rattle.asked_adjoints.specs.Asked.{AskedAdjointsAreReadable}
use Rattle.asked_adjoints.proofs.Fair.{fair}
use Rattle.asked_adjoints.proofs.Reached.{reached_declared}

active_declared : (p : Program) (of wrt : List (List ℕ)) (x : List ℕ) → is_active p of wrt x ≡ true → is_declared p.decls x ≡ true
unfolding is_active
active_declared p of wrt x h =
    let both = and_parts (is_reached_name p.decls wrt (program_flows p) x) (is_reached_name p.decls of (map turned (program_flows p)) x) h in
    reached_declared p.decls wrt (program_flows p) x ((reached_name p.decls wrt (program_flows p) x).0 both.0)

pub asked : AskedAdjointsAreReadable
asked p of wrt needed a t e =
    let active : List ℕ → Bool = is_active p of wrt in
    let fits : IsFitting p active (choices_of p active) = record { declared = active_declared p of wrt; fair = fair p active t.readable } in
    readable p active needed (choices_of p active) a t fits e
