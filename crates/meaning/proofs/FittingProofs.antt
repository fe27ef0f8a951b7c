-- The laws of fitting, from their parts.
use Rattle.meaning.specs.FittingLaws.{ValuesFit, ConditionsAreDefined, CountsFit, RunsFit}
use Rattle.meaning.proofs.ValuesFit.{value_kind, value_defined, condition_defined}
use Rattle.meaning.proofs.RunsFit.{turns_of_fit, run_all_fits}

pub values_fitting : ValuesFit
values_fitting s c fit e h = record { defined = value_defined s c fit e h; kind = value_kind s c fit e h }

pub conditions_defined : ConditionsAreDefined
conditions_defined s c fit a h = condition_defined s c fit a h

pub counts_fitting : CountsFit
counts_fitting s c fit first last step h g i t e = turns_of_fit s c fit first last step h g i t e

pub runs_fitting : RunsFit
runs_fitting body s c d h fit e = run_all_fits body s h c fit d e
