-- The premises of the law can be met with two loops collapsed:
--   do i = 1, n, collapsed with do j = 1, 2: y(i,j) = x(i)*x(j)
use Rattle.std.proofs.Common.{◌≡◌, ℕ, zero, suc, ◌<◌, ◌≤◌, List, [], ◌∷◌, refl, true, false, not, ◌||◌, None, arith, pos, length, Some}
use Rattle.std.specs.Prelude.{codes, slice_index, bytes_eq}
use Rattle.ring_core.specs.Index.{exact_index}
use Rattle.fl_ast.specs.declared.kind.Kind.TheVariants as kind
use Rattle.fl_ast.specs.declared.directive.Directive.{Directive}
use Rattle.fl_ast.specs.Tree.{Designator, Statements, loop, expression, no_expressions}
use Rattle.fl_types.specs.declared.choice.Choice.TheVariants.{Shared, Atomic}
use Rattle.store_core.specs.declared.layout.Shape.{Shape}
use Rattle.meaning.specs.Sites.{Cells, Site, opening_site}
use Rattle.meaning.specs.Stops.{the_limits}
use Rattle.meaning.specs.Adjoints.{cells_along, unit}
use Rattle.meaning.proofs.Small.{declared, scalar, array, word, number, one, name, at, ◌times◌, only, set as set_to, clauses, parallel, all_pushed}
use Rattle.meaning.specs.Fitting.{Fits}
use Rattle.transposition.specs.Worlds.{World, in_iteration, name_at}
use Rattle.transposition.specs.Law.{Use, SharedApart}
use Rattle.transposition.specs.Sound.{writes_in, SoundAll, SoundRounds, Own, IsHeld}
use Rattle.transposition.specs.Calms.{PairwiseAll, IsCalmAll}
use Rattle.transposition.specs.Answer.{Answer}
use Rattle.transposition.proofs.Words.{all_small}
use Rattle.transposition.proofs.Meeting.{named_two, neither, held_fits, held_words, only_at}
use Rattle.transposition.proofs.Passing.{unstopped}
use Rattle.transposition.proofs.Transposed.{answered}

abbrev n : List ℕ
n = codes "n"

abbrev i : List ℕ
i = codes "i"

abbrev j : List ℕ
j = codes "j"

abbrev x : List ℕ
x = codes "x"

abbrev y : List ℕ
y = codes "y"

abbrev table : Shape
table = record { name = y; axes = record { lower = pos 1; extent = 2 } ∷ record { lower = pos 1; extent = 2 } ∷ [] }

abbrev two : Directive
two = record clauses { collapse = 2 }

abbrev site : Site
site = opening_site (declared kind.Index n ∷ declared kind.Ring x ∷ declared kind.Ring y ∷ declared kind.Index i ∷ declared kind.Index j ∷ []) (scalar n ∷ array x 2 ∷ table ∷ []) all_pushed

abbrev element : Designator
element = record { name = y; subscripts = expression (name i) (expression (name j) no_expressions) }

abbrev each : Statements
each = only (set_to 7 element (at x (name i) times at x (name j)))

abbrev body : Statements
body = only (loop 6 2 None j (one 1) (one 2) None each)

abbrev products : Statements
products = parallel two i (one 1) (name n) body

abbrev world : World
world = record { site = site; shared = 7; active = λ z. bytes_eq z x || bytes_eq z y; choice = λ z. Shared; choices = λ k z. Atomic }

abbrev outer : Use
outer = record { needed = λ z. not (bytes_eq z i || bytes_eq z j); live = λ z. bytes_eq z x || bytes_eq z y; moved = λ z. true; held = λ z. None }

abbrev inner : Use
inner = record { needed = λ z. true; live = λ z. bytes_eq z x || bytes_eq z y; moved = λ z. true; held = λ z. None }

abbrev inside_world : World
inside_world = in_iteration world 1 two i body

own_i : Own world i
own_i = record { q = 7; place = refl; only = only_at i 7 site.keys refl; own = omega arith }

own_j : Own world j
own_j = record { q = 8; place = refl; only = only_at j 8 site.keys refl; own = omega arith }

rounds_sound : SoundRounds world outer inner 1 two i body
rounds_sound = record {
  variables = (own_i, (own_j, tt));
  whole = λ z h. named_two i j z (λ t. site.ring t ≡ false) h refl refl;
  unvaried = λ z h. named_two i j z (λ t. writes_in t each ≡ false) h refl refl;
  privates = tt;
  unheld = λ z h. refl;
  pushed = λ z h k i. refl;
  needed = λ z h k e. neither (bytes_eq z i) (bytes_eq z j) e;
  outside = λ z h. refl;
  live = λ z h. refl;
  moved = λ z. refl;
  dead = dead;
  stays = stays;
  unset = λ z h. (let e : None ≡ Some h.0 = h.1 in cc);
  low = λ p h. refl;
  fresh = λ z. refl;
  inside = inside;
  silent = λ z. refl;
  summed = ((λ h. cc), ((λ h. cc), ((λ h. cc), ((λ h. cc), ((λ h. cc), tt)))));
}
  where
    dead : (p : ℕ) → 7 ≤ p → outer.live (name_at site.keys p) ≡ false
    dead zero h = absurd (omega arith)
    dead (suc zero) h = absurd (omega arith)
    dead (suc (suc zero)) h = absurd (omega arith)
    dead (suc (suc (suc zero))) h = absurd (omega arith)
    dead (suc (suc (suc (suc zero)))) h = absurd (omega arith)
    dead (suc (suc (suc (suc (suc zero))))) h = absurd (omega arith)
    dead (suc (suc (suc (suc (suc (suc zero)))))) h = absurd (omega arith)
    dead (suc (suc (suc (suc (suc (suc (suc zero))))))) h = refl
    dead (suc (suc (suc (suc (suc (suc (suc (suc zero)))))))) h = refl
    dead (suc (suc (suc (suc (suc (suc (suc (suc (suc p))))))))) h = refl

    stays : (p : ℕ) → 7 ≤ p → p < length site.keys → outer.needed (name_at site.keys p) ≡ true → IsHeld outer (name_at site.keys p)
    stays zero h j k = absurd (omega arith)
    stays (suc zero) h j k = absurd (omega arith)
    stays (suc (suc zero)) h j k = absurd (omega arith)
    stays (suc (suc (suc zero))) h j k = absurd (omega arith)
    stays (suc (suc (suc (suc zero)))) h j k = absurd (omega arith)
    stays (suc (suc (suc (suc (suc zero))))) h j k = absurd (omega arith)
    stays (suc (suc (suc (suc (suc (suc zero)))))) h j k = absurd (omega arith)
    stays (suc (suc (suc (suc (suc (suc (suc zero))))))) h j k = cc
    stays (suc (suc (suc (suc (suc (suc (suc (suc zero)))))))) h j k = cc
    stays (suc (suc (suc (suc (suc (suc (suc (suc (suc p))))))))) h j k = absurd (omega arith)

    inside : (p : ℕ) → p < 7 → inside_world.site.accessed (name_at site.keys p) ≡ true
    inside zero h = refl
    inside (suc zero) h = refl
    inside (suc (suc zero)) h = refl
    inside (suc (suc (suc zero))) h = refl
    inside (suc (suc (suc (suc zero)))) h = refl
    inside (suc (suc (suc (suc (suc zero))))) h = refl
    inside (suc (suc (suc (suc (suc (suc zero)))))) h = refl
    inside (suc (suc (suc (suc (suc (suc (suc p))))))) h = absurd (omega arith)

sound : SoundAll world outer products
sound = (
  (
    inner,
    rounds_sound,
    (tt, tt, tt),
    (tt, tt, tt),
    (
      (
        record {
          target = record { subscripts = λ e. ((refl, tt), ((refl, tt), tt)); undone = λ e. ((refl, tt), ((refl, tt), tt)); free = refl; unheld = refl; pushed = λ e. refl; live = refl; ring = λ e. refl; summed = λ e. refl };
          amounts = λ e. (record { factors = ((refl, ((refl, tt), tt)), tt); subscripts = ((refl, tt), tt); live = refl }, (record { factors = ((refl, ((refl, tt), tt)), tt); subscripts = ((refl, tt), tt); live = refl }, tt));
          quiet = λ e. ((λ h. cc), (λ h. cc));
          kinds = λ e. (tt, tt);
        },
        record { literals = ((tt, tt), (tt, tt)); whole = λ h. cc; still = λ h. cc },
      ),
      tt,
    ),
    ((tt, tt), tt),
  ),
  tt,
)

abbrev cells : Cells
cells = number 2 ∷ word 3 ∷ word 5 ∷ word 0 ∷ word 0 ∷ word 0 ∷ word 0 ∷ None ∷ None ∷ []

-- the direction of x(2)
abbrev start : Cells
start = cells_along (unit 2) cells

abbrev last : Cells
last = number 2 ∷ word 3 ∷ word 5 ∷ word 9 ∷ word 15 ∷ word 15 ∷ word 25 ∷ number 2 ∷ number 2 ∷ []

apart : PairwiseAll SharedApart products world start
apart = ((λ h e k m f g d p t r q. cc), λ s h. tt)

calm : IsCalmAll products world start
unfolding exact_index
calm = unstopped world outer products the_limits start _ sound refl refl apart

fits : Fits site cells
fits = held_fits site site.keys cells refl

met : Answer world outer products cells (2 ∷ 3 ∷ 5 ∷ 9 ∷ 15 ∷ 15 ∷ 25 ∷ 0 ∷ 0 ∷ []) (0 ∷ 0 ∷ 0 ∷ 1 ∷ 10 ∷ 100 ∷ 1000 ∷ 0 ∷ 0 ∷ []) 2
unfolding exact_index
met = answered world outer products cells last (2 ∷ 3 ∷ 5 ∷ 9 ∷ 15 ∷ 15 ∷ 25 ∷ 0 ∷ 0 ∷ []) (0 ∷ 0 ∷ 0 ∷ 1 ∷ 10 ∷ 100 ∷ 1000 ∷ 0 ∷ 0 ∷ []) 2 (record { value = 5; tangent = 0 }) sound (λ z. refl) calm fits (omega arith) refl refl
    (held_words outer site.keys (2 ∷ 3 ∷ 5 ∷ 9 ∷ 15 ∷ 15 ∷ 25 ∷ 0 ∷ 0 ∷ []) last refl (λ z. refl)) refl refl (all_small (0 ∷ 0 ∷ 0 ∷ 1 ∷ 10 ∷ 100 ∷ 1000 ∷ 0 ∷ 0 ∷ []) refl) refl refl dead_seed
  where
    dead_seed : (p : ℕ) → outer.live (name_at site.keys p) ≡ false → true ≡ true → slice_index (0 ∷ 0 ∷ 0 ∷ 1 ∷ 10 ∷ 100 ∷ 1000 ∷ 0 ∷ 0 ∷ []) p ≡ 0
    dead_seed zero h k = refl
    dead_seed (suc zero) h k = refl
    dead_seed (suc (suc zero)) h k = refl
    dead_seed (suc (suc (suc zero))) h k = cc
    dead_seed (suc (suc (suc (suc zero)))) h k = cc
    dead_seed (suc (suc (suc (suc (suc zero))))) h k = cc
    dead_seed (suc (suc (suc (suc (suc (suc zero)))))) h k = cc
    dead_seed (suc (suc (suc (suc (suc (suc (suc zero))))))) h k = refl
    dead_seed (suc (suc (suc (suc (suc (suc (suc (suc zero)))))))) h k = refl
    dead_seed (suc (suc (suc (suc (suc (suc (suc (suc (suc p))))))))) h k = refl
