use Rattle.formad_top.proofs.tests.called_counted.Given as goal

-- the one ledger of the call
abbrev pub ghosts-called : goal.ghosts-called
ghosts-called g a = record { name = a.blank.name; parts = a.blank.parts }
