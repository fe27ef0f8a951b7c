-- The world of a program, outside of its loops.
use Rattle.std.proofs.Common.{sym, refl, subst}
use Rattle.std.specs.Prelude.{List, Bool}
use Rattle.resolved.specs.SlotTables.{names_of}
use Rattle.loop_scopes.specs.Scopes.{IsOutside}
use Rattle.loop_scopes.proofs.Opening.{opening_outside}
use Rattle.meaning.specs.Sites.{opening_site}
use Rattle.made_undos.specs.UndoScopes.{OpeningIsUndone}

pub opening_undone : OpeningIsUndone
opening_undone p es pushed active choices t e a c n =
    let o = opening_outside es p.decls pushed in (
      o.0,
      record {
        scope = subst (λ (marks : List Bool). IsOutside (names_of es p.decls) marks (opening_site p.decls es pushed)) (sym e) o.1;
        growing = record { actives = sym a; choosing = λ slot h. refl };
        choosing = c;
        sharing = sym n;
      },
    )
