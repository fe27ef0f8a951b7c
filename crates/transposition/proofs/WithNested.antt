-- The premises of the law can be met with a loop in a parallel one, increments, and a Reduction:
--   do i = 1, n: do j = 1, 2: y(i) = y(i) + a*x(j)
use Rattle.std.proofs.Common.{◌≡◌, ℕ, zero, suc, ◌<◌, ◌≤◌, List, [], ◌∷◌, refl, Bool, true, false, not, ◌||◌, None, arith, length, Some}
use Rattle.std.specs.Prelude.{codes, slice_index, bytes_eq, if◌then◌else◌}
use Rattle.ring_core.specs.Index.{exact_index}
use Rattle.fl_ast.specs.declared.kind.Kind.TheVariants as kind
use Rattle.fl_ast.specs.Tree.{Statements, loop}
use Rattle.fl_types.specs.declared.choice.Choice.{Choice}
use Rattle.fl_types.specs.declared.choice.Choice.TheVariants.{Shared, Atomic, Reduction}
use Rattle.meaning.specs.Sites.{Cells, Site, opening_site}
use Rattle.meaning.specs.Stops.{the_limits}
use Rattle.meaning.specs.Adjoints.{cells_along, unit}
use Rattle.meaning.proofs.Small.{declared, scalar, array, word, number, one, name, at, into, ◌plus◌, ◌times◌, only, set as set_to, clauses, parallel, all_pushed}
use Rattle.meaning.specs.Fitting.{Fits}
use Rattle.transposition.specs.Worlds.{World, is_one_step, in_iteration, name_at}
use Rattle.transposition.specs.Law.{Use, SharedApart}
use Rattle.transposition.specs.Sound.{writes_in, SoundAll, SoundRounds, Own, IsHeld}
use Rattle.transposition.specs.Calms.{PairwiseAll, IsCalmAll}
use Rattle.transposition.specs.Answer.{Answer}
use Rattle.transposition.proofs.Words.{all_small}
use Rattle.transposition.proofs.Meeting.{named, held_fits, held_words, only_at}
use Rattle.transposition.proofs.Passing.{unstopped}
use Rattle.transposition.proofs.Transposed.{answered}

abbrev n : List ℕ
n = codes "n"

abbrev i : List ℕ
i = codes "i"

abbrev j : List ℕ
j = codes "j"

abbrev a : List ℕ
a = codes "a"

abbrev x : List ℕ
x = codes "x"

abbrev y : List ℕ
y = codes "y"

abbrev site : Site
site = opening_site (declared kind.Index n ∷ declared kind.Ring a ∷ declared kind.Ring y ∷ declared kind.Ring x ∷ declared kind.Index i ∷ declared kind.Index j ∷ []) (scalar n ∷ scalar a ∷ array y 2 ∷ array x 2 ∷ []) all_pushed

abbrev body : Statements
body = only (loop 6 2 None j (one 1) (one 2) None (only (set_to 7 (into y (name i)) (at y (name i) plus (name a times at x (name j))))))

abbrev sums : Statements
sums = parallel clauses i (one 1) (name n) body

abbrev chosen : List ℕ → Choice
chosen z = if bytes_eq z a then Reduction else Atomic

abbrev world : World
world = record { site = site; shared = 6; active = λ z. bytes_eq z a || (bytes_eq z y || bytes_eq z x); choice = λ z. Shared; choices = λ k z. chosen z }

-- the inner loop's variable is in scope in that loop alone
abbrev outer : Use
outer = record { needed = λ z. not (bytes_eq z i || bytes_eq z j); live = λ z. bytes_eq z a || (bytes_eq z y || bytes_eq z x); moved = λ z. true; held = λ z. None }

abbrev inner : Use
inner = record { needed = λ z. not (bytes_eq z j); live = λ z. bytes_eq z a || (bytes_eq z y || bytes_eq z x); moved = λ z. true; held = λ z. None }

abbrev inside_world : World
inside_world = in_iteration world 1 clauses i body

own_i : Own world i
own_i = record { q = 6; place = refl; only = only_at i 6 site.keys refl; own = omega arith }

wider : (b c : Bool) → not c ≡ true → (b || false) ≡ false → not (b || c) ≡ true
wider true c h k = cc
wider false c h k = h

later_off : (b c : Bool) → not (b || c) ≡ true → not c ≡ true
later_off true c h = cc
later_off false c h = h

rounds_sound : SoundRounds world outer inner 1 clauses i body
rounds_sound = record {
  variables = (own_i, tt);
  whole = λ z h. named i z (λ t. site.ring t ≡ false) h refl;
  unvaried = λ z h. named i z (λ t. writes_in t body ≡ false) h refl;
  privates = tt;
  unheld = λ z h. refl;
  pushed = λ z h k i. refl;
  needed = λ z h k e. wider (bytes_eq z i) (bytes_eq z j) h e;
  outside = λ z h. later_off (bytes_eq z i) (bytes_eq z j) h;
  live = λ z h. refl;
  moved = λ z. refl;
  dead = dead;
  stays = stays;
  unset = λ z h. (let e : None ≡ Some h.0 = h.1 in cc);
  low = λ p h. refl;
  fresh = λ z. refl;
  inside = inside;
  silent = λ z. refl;
  summed = ((λ h. cc), ((λ h. record { q = 1; place = refl; shared = omega arith }), ((λ h. cc), ((λ h. cc), ((λ h. cc), ((λ h. cc), tt))))));
}
  where
    dead : (p : ℕ) → 6 ≤ p → outer.live (name_at site.keys p) ≡ false
    dead zero h = absurd (omega arith)
    dead (suc zero) h = absurd (omega arith)
    dead (suc (suc zero)) h = absurd (omega arith)
    dead (suc (suc (suc zero))) h = absurd (omega arith)
    dead (suc (suc (suc (suc zero)))) h = absurd (omega arith)
    dead (suc (suc (suc (suc (suc zero))))) h = absurd (omega arith)
    dead (suc (suc (suc (suc (suc (suc zero)))))) h = refl
    dead (suc (suc (suc (suc (suc (suc (suc zero))))))) h = refl
    dead (suc (suc (suc (suc (suc (suc (suc (suc p)))))))) h = refl

    stays : (p : ℕ) → 6 ≤ p → p < length site.keys → outer.needed (name_at site.keys p) ≡ true → IsHeld outer (name_at site.keys p)
    stays zero h j k = absurd (omega arith)
    stays (suc zero) h j k = absurd (omega arith)
    stays (suc (suc zero)) h j k = absurd (omega arith)
    stays (suc (suc (suc zero))) h j k = absurd (omega arith)
    stays (suc (suc (suc (suc zero)))) h j k = absurd (omega arith)
    stays (suc (suc (suc (suc (suc zero))))) h j k = absurd (omega arith)
    stays (suc (suc (suc (suc (suc (suc zero)))))) h j k = cc
    stays (suc (suc (suc (suc (suc (suc (suc zero))))))) h j k = cc
    stays (suc (suc (suc (suc (suc (suc (suc (suc p)))))))) h j k = absurd (omega arith)

    inside : (p : ℕ) → p < 6 → inside_world.site.accessed (name_at site.keys p) ≡ true
    inside zero h = refl
    inside (suc zero) h = refl
    inside (suc (suc zero)) h = refl
    inside (suc (suc (suc zero))) h = refl
    inside (suc (suc (suc (suc zero)))) h = refl
    inside (suc (suc (suc (suc (suc zero))))) h = refl
    inside (suc (suc (suc (suc (suc (suc p)))))) h = absurd (omega arith)

sound : SoundAll world outer sums
sound = (
  (
    inner,
    rounds_sound,
    (tt, tt, tt),
    tt,
    (
      (
        record { q = 7; place = refl; only = only_at j 7 site.keys refl; own = omega arith; whole = refl; unneeded = refl; unheld = refl; dead = refl; literals = (tt, tt, tt); wholes = (tt, tt, tt) },
        λ m. (
          (
            record {
              target = record { subscripts = λ e. ((refl, tt), tt); undone = λ e. ((refl, tt), tt); free = refl; unheld = refl; pushed = λ e. refl; live = refl; ring = λ e. refl; summed = λ e. refl };
              amounts = λ e. (record { factors = ((refl, ((refl, tt), tt)), tt); subscripts = tt; live = refl }, (record { factors = ((refl, tt), tt); subscripts = ((refl, tt), tt); live = refl }, tt));
              quiet = λ e. (((λ h. cc), (λ h. cc)), tt);
              kinds = λ e. ((tt, tt), tt);
              terms = λ e. (((refl, tt), (refl, ((refl, tt), tt))), tt);
              apart = refl;
              whole = refl;
            },
            λ h. cc,
          ),
          tt,
        ),
      ),
      tt,
    ),
    ((tt, tt), tt),
  ),
  tt,
)

abbrev cells : Cells
cells = number 2 ∷ word 7 ∷ word 100 ∷ word 200 ∷ word 3 ∷ word 5 ∷ None ∷ None ∷ []

-- the direction of a
abbrev start : Cells
start = cells_along (unit 1) cells

abbrev last : Cells
last = number 2 ∷ word 7 ∷ word 156 ∷ word 256 ∷ word 3 ∷ word 5 ∷ number 2 ∷ number 2 ∷ []

one_step : (b : Bool) → is_one_step (if b then Reduction else Atomic) ≡ false → ⊥
one_step true h = cc
one_step false h = cc

apart : PairwiseAll SharedApart sums world start
apart = ((λ h e k m f g d p t r q. one_step (bytes_eq (name_at site.keys p) a) t), λ s h. tt)

calm : IsCalmAll sums world start
unfolding exact_index
calm = unstopped world outer sums the_limits start _ sound refl refl apart

fits : Fits site cells
fits = held_fits site site.keys cells refl

met : Answer world outer sums cells (2 ∷ 7 ∷ 156 ∷ 256 ∷ 3 ∷ 5 ∷ 0 ∷ 0 ∷ []) (0 ∷ 0 ∷ 1 ∷ 10 ∷ 0 ∷ 0 ∷ 0 ∷ 0 ∷ []) 1
unfolding exact_index
met = answered world outer sums cells last (2 ∷ 7 ∷ 156 ∷ 256 ∷ 3 ∷ 5 ∷ 0 ∷ 0 ∷ []) (0 ∷ 0 ∷ 1 ∷ 10 ∷ 0 ∷ 0 ∷ 0 ∷ 0 ∷ []) 1 (record { value = 7; tangent = 0 }) sound (λ z. refl) calm fits (omega arith) refl refl
    (held_words outer site.keys (2 ∷ 7 ∷ 156 ∷ 256 ∷ 3 ∷ 5 ∷ 0 ∷ 0 ∷ []) last refl (λ z. refl)) refl refl (all_small (0 ∷ 0 ∷ 1 ∷ 10 ∷ 0 ∷ 0 ∷ 0 ∷ 0 ∷ []) refl) refl refl dead_seed
  where
    dead_seed : (p : ℕ) → outer.live (name_at site.keys p) ≡ false → true ≡ true → slice_index (0 ∷ 0 ∷ 1 ∷ 10 ∷ 0 ∷ 0 ∷ 0 ∷ 0 ∷ []) p ≡ 0
    dead_seed zero h k = refl
    dead_seed (suc zero) h k = refl
    dead_seed (suc (suc zero)) h k = cc
    dead_seed (suc (suc (suc zero))) h k = cc
    dead_seed (suc (suc (suc (suc zero)))) h k = refl
    dead_seed (suc (suc (suc (suc (suc zero))))) h k = refl
    dead_seed (suc (suc (suc (suc (suc (suc zero)))))) h k = refl
    dead_seed (suc (suc (suc (suc (suc (suc (suc zero))))))) h k = refl
    dead_seed (suc (suc (suc (suc (suc (suc (suc (suc p)))))))) h k = refl
