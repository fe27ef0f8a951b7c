-- The premises of the law can be met: y = x*x.
use Rattle.std.proofs.Common.{ℕ, List, [], ◌∷◌, refl, true, arith, None}
use Rattle.std.specs.Prelude.{codes}
use Rattle.fl_ast.specs.declared.kind.Kind.TheVariants as kind
use Rattle.fl_ast.specs.Tree.{Statements}
use Rattle.fl_types.specs.declared.choice.Choice.TheVariants.{Shared}
use Rattle.meaning.specs.Sites.{Cells, Site, opening_site}
use Rattle.meaning.proofs.Small.{declared, scalar, word, name, to, ◌times◌, only, set as set_to, all_pushed}
use Rattle.meaning.specs.Fitting.{Fits}
use Rattle.transposition.specs.Worlds.{World}
use Rattle.transposition.specs.Law.{Use, Like, AreWords}
use Rattle.transposition.specs.Sound.{SoundAll}
use Rattle.transposition.specs.Answer.{Answer}
use Rattle.transposition.proofs.Meeting.{held_fits, held_words}
use Rattle.transposition.proofs.Words.{all_small}
use Rattle.transposition.proofs.Transposed.{answered}

abbrev x : List ℕ
x = codes "x"

abbrev y : List ℕ
y = codes "y"

abbrev site : Site
site = opening_site (declared kind.Ring x ∷ declared kind.Ring y ∷ []) (scalar x ∷ scalar y ∷ []) all_pushed

abbrev world : World
world = record { site = site; shared = 2; active = λ z. true; choice = λ z. Shared; choices = λ k z. Shared }

abbrev names : Use
names = record { needed = λ z. true; live = λ z. true; moved = λ z. true; held = λ z. None }

abbrev square : Statements
square = only (set_to 4 (to y) (name x times name x))

abbrev cells : Cells
cells = word 5 ∷ word 0 ∷ []

sound : SoundAll world names square
sound = (
  (
    record {
      target = record { subscripts = λ e. tt; undone = λ e. tt; free = refl; unheld = refl; pushed = λ e. refl; live = refl; ring = λ e. refl; summed = λ e. refl };
      amounts = λ e. (record { factors = ((refl, tt), tt); subscripts = tt; live = refl }, (record { factors = ((refl, tt), tt); subscripts = tt; live = refl }, tt));
      quiet = λ e. ((λ h. (cc)), (λ h. (cc)));
      kinds = λ e. (tt, tt);
    },
    record { literals = (tt, tt); whole = λ h. cc; still = λ h. cc },
  ),
  tt,
)

fits : Fits site cells
fits = held_fits site site.keys cells refl

like : Like names site.keys (5 ∷ 25 ∷ []) (word 5 ∷ word 25 ∷ [])
like = held_words names site.keys (5 ∷ 25 ∷ []) (word 5 ∷ word 25 ∷ []) refl (λ z. refl)

small : AreWords (0 ∷ 1 ∷ [])
small = all_small (0 ∷ 1 ∷ []) refl

met : Answer world names square cells (5 ∷ 25 ∷ []) (0 ∷ 1 ∷ []) 0
met = answered world names square cells (word 5 ∷ word 25 ∷ []) (5 ∷ 25 ∷ []) (0 ∷ 1 ∷ []) 0 (record { value = 5; tangent = 0 }) sound (λ z. refl) (tt, λ s h. tt) fits (omega arith) refl refl like refl refl small refl refl (λ p h k. cc)
