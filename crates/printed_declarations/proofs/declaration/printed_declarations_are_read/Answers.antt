use Rattle.printed_declarations.proofs.ReadDecls.{decls_read}
use Rattle.printed_declarations.proofs.declaration.printed_declarations_are_read.Goals as goal

pub returns : goal.returns
returns c = record { declarations = decls_read }
