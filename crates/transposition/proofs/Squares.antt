-- The premises of the law can be met with a parallel loop: x(i) = x(i)*x(i).
use Rattle.std.proofs.Common.{◌≡◌, ◌≢◌, ℕ, zero, suc, ◌<◌, ◌≤◌, ◌==◌, List, [], ◌∷◌, refl, ap, sym, ◌∙◌, subst, Bool, true, false, not, ◌&&◌, None, arith, inl, inr, length, Some}
use Rattle.std.specs.Prelude.{codes, slice_index, bytes_eq, ◌⊎◌}
use Rattle.std.proofs.lemmas.Bool.{eqb-true, and_parts}
use Rattle.ring_core.specs.Index.{exact_index}
use Rattle.fl_ast.specs.declared.kind.Kind.TheVariants as kind
use Rattle.fl_ast.specs.Tree.{Statements}
use Rattle.fl_types.specs.declared.access.AccessKind.{AccessKind}
use Rattle.fl_types.specs.declared.choice.Choice.TheVariants.{Shared, Atomic}
use Rattle.meaning.specs.declared.value.IterationCount.{IterationCount}
use Rattle.meaning.specs.Logs.{Log, silence, single, touched, sets, both, within}
use Rattle.meaning.specs.Sites.{Cells, Site, opening_site}
use Rattle.meaning.specs.Statements.{Heads, iterations}
use Rattle.meaning.specs.Adjoints.{cells_along, unit}
use Rattle.meaning.proofs.Small.{declared, scalar, array, word, number, one, name, at, into, ◌times◌, only, set as set_to, clauses, parallel, all_pushed}
use Rattle.meaning.specs.Fitting.{Fits}
use Rattle.transposition.specs.Worlds.{World, in_iteration, name_at}
use Rattle.transposition.specs.Law.{Use, Like, HasTouch, Calm, AreWords}
use Rattle.transposition.specs.Sound.{writes_in, SoundAll, SoundRounds, Own, IsHeld}
use Rattle.transposition.specs.Calms.{IsCalmAll, iteration_log}
use Rattle.transposition.specs.Answer.{Answer}
use Rattle.transposition.proofs.Meeting.{or_false, named, only_at, held_fits, held_words}
use Rattle.transposition.proofs.Words.{all_small}
use Rattle.transposition.proofs.Transposed.{answered}

abbrev n : List ℕ
n = codes "n"

abbrev i : List ℕ
i = codes "i"

abbrev x : List ℕ
x = codes "x"

abbrev site : Site
site = opening_site (declared kind.Index n ∷ declared kind.Ring x ∷ declared kind.Index i ∷ []) (scalar n ∷ array x 2 ∷ []) all_pushed

abbrev body : Statements
body = only (set_to 6 (into x (name i)) (at x (name i) times at x (name i)))

abbrev squares : Statements
squares = parallel clauses i (one 1) (name n) body

abbrev world : World
world = record { site = site; shared = 3; active = λ z. bytes_eq z x; choice = λ z. Shared; choices = λ k z. Atomic }

abbrev outer : Use
outer = record { needed = λ z. not (bytes_eq z i); live = λ z. bytes_eq z x; moved = λ z. true; held = λ z. None }

abbrev inner : Use
inner = record { needed = λ z. true; live = λ z. bytes_eq z x; moved = λ z. true; held = λ z. None }

own_i : Own world i
own_i = record { q = 3; place = refl; only = only_at i 3 site.keys refl; own = omega arith }

rounds_sound : SoundRounds world outer inner 1 clauses i body
rounds_sound = record {
  variables = (own_i, tt);
  whole = λ z h. named i z (λ y. site.ring y ≡ false) h refl;
  unvaried = λ z h. named i z (λ y. writes_in y body ≡ false) h refl;
  privates = tt;
  unheld = λ z h. refl;
  pushed = λ z h k i. refl;
  needed = λ z h k e. ap not (or_false (bytes_eq z i) e);
  outside = λ z h. refl;
  live = λ z h. refl;
  moved = λ z. refl;
  dead = dead;
  stays = stays;
  unset = λ z h. (let e : None ≡ Some h.0 = h.1 in cc);
  low = λ p h. refl;
  fresh = λ z. refl;
  inside = inside;
  silent = λ z. refl;
  summed = ((λ h. cc), ((λ h. cc), ((λ h. cc), tt)));
}
  where
    dead : (p : ℕ) → 3 ≤ p → bytes_eq (name_at site.keys p) x ≡ false
    dead zero h = absurd (omega arith)
    dead (suc zero) h = absurd (omega arith)
    dead (suc (suc zero)) h = absurd (omega arith)
    dead (suc (suc (suc zero))) h = refl
    dead (suc (suc (suc (suc p)))) h = refl

    stays : (p : ℕ) → 3 ≤ p → p < length site.keys → not (bytes_eq (name_at site.keys p) i) ≡ true → IsHeld outer (name_at site.keys p)
    stays zero h j k = absurd (omega arith)
    stays (suc zero) h j k = absurd (omega arith)
    stays (suc (suc zero)) h j k = absurd (omega arith)
    stays (suc (suc (suc zero))) h j k = cc
    stays (suc (suc (suc (suc p)))) h j k = absurd (omega arith)

    inside : (p : ℕ) → p < 3 → (in_iteration world 1 clauses i body).site.accessed (name_at site.keys p) ≡ true
    inside zero h = refl
    inside (suc zero) h = refl
    inside (suc (suc zero)) h = refl
    inside (suc (suc (suc p))) h = absurd (omega arith)

sound : SoundAll world outer squares
sound = (
  (
    inner,
    rounds_sound,
    (tt, tt, tt),
    tt,
    ((
      (
        record {
          target = record { subscripts = λ e. ((refl, tt), tt); undone = λ e. ((refl, tt), tt); free = refl; unheld = refl; pushed = λ e. refl; live = refl; ring = λ e. refl; summed = λ e. refl };
          amounts = λ e. (record { factors = ((refl, ((refl, tt), tt)), tt); subscripts = ((refl, tt), tt); live = refl }, (record { factors = ((refl, ((refl, tt), tt)), tt); subscripts = ((refl, tt), tt); live = refl }, tt));
          quiet = λ e. ((λ h. cc), (λ h. cc));
          kinds = λ e. (tt, tt);
        },
        record { literals = ((tt, tt), (tt, tt)); whole = λ h. cc; still = λ h. cc },
      ),
      tt,
    )),
    (tt, tt),
  ),
  tt,
)

abbrev cells : Cells
cells = number 2 ∷ word 3 ∷ word 5 ∷ None ∷ []

-- ---- touches at one place

abbrev pub all_at : ℕ → Log → Bool
all_at q silence = true
all_at q (single e) = true
all_at q (touched p k) = p == q
all_at q (sets p v) = true
all_at q (both a b) = all_at q a && all_at q b
all_at q (within p a) = all_at q a

pub touched_at : (q p : ℕ) (k : AccessKind) (l : Log) → all_at q l ≡ true → HasTouch k p l → p ≡ q
touched_at q p k silence h g = absurd g
touched_at q p k (single e) h g = absurd g
touched_at q p k (touched r j) h g = sym g.0 ∙ eqb-true r q h
touched_at q p k (sets r v) h g = absurd g
touched_at q p k (both a b) h (inl g) = touched_at q p k a (and_parts (all_at q a) (all_at q b) h).0 g
touched_at q p k (both a b) h (inr g) = touched_at q p k b (and_parts (all_at q a) (all_at q b) h).1 g
touched_at q p k (within r a) h g = touched_at q p k a h g

calm_by : (l m : Log) (q r : ℕ) → q ≢ r → all_at q l ≡ true → all_at r m ≡ true → Calm (in_iteration world 1 clauses i body) l m
calm_by l m q r d h g = record {
  kinds = λ k j p a b. absurd (d (sym (touched_at q p k l h a) ∙ touched_at r p j m g b));
  shared = λ p e a b. cc;
}

abbrev made : IterationCount
made = record { first = Rattle.std.specs.Prelude.pos 1; last = Rattle.std.specs.Prelude.pos 2; step = Rattle.std.specs.Prelude.pos 1; count = 2 }

abbrev heads : Heads
heads = (i, made) ∷ []

calm_made : (j k : ℕ) → j < 2 → k < 2 → j ≢ k → Calm (in_iteration world 1 clauses i body) (iteration_log site clauses i heads body (cells_along (unit 1) cells) j) (iteration_log site clauses i heads body (cells_along (unit 1) cells) k)
unfolding exact_index
calm_made zero zero a b d = absurd (d refl)
calm_made zero (suc zero) a b d = calm_by _ _ 1 2 (λ e. cc) refl refl
calm_made (suc zero) zero a b d = calm_by _ _ 2 1 (λ e. cc) refl refl
calm_made (suc zero) (suc zero) a b d = absurd (d refl)
calm_made (suc (suc j)) k a b d = absurd (omega arith)
calm_made zero (suc (suc k)) a b d = absurd (omega arith)
calm_made (suc zero) (suc (suc k)) a b d = absurd (omega arith)

calm : IsCalmAll squares world (cells_along (unit 1) cells)
unfolding exact_index
calm = (
  (λ t e j k a b d.
      let f : heads ≡ t = cc in
      subst (λ (y : Heads). j < iterations y → k < iterations y → Calm (in_iteration world 1 clauses i body) (iteration_log site clauses i y body (cells_along (unit 1) cells) j) (iteration_log site clauses i y body (cells_along (unit 1) cells) k)) f (λ g h. calm_made j k g h d) a b),
  λ s h. tt,
)

fits : Fits site cells
fits = held_fits site site.keys cells refl

like : Like outer site.keys (2 ∷ 9 ∷ 25 ∷ 0 ∷ []) (number 2 ∷ word 9 ∷ word 25 ∷ number 2 ∷ [])
like = held_words outer site.keys (2 ∷ 9 ∷ 25 ∷ 0 ∷ []) (number 2 ∷ word 9 ∷ word 25 ∷ number 2 ∷ []) refl (λ z. refl)

small : AreWords (0 ∷ 1 ∷ 10 ∷ 0 ∷ [])
small = all_small (0 ∷ 1 ∷ 10 ∷ 0 ∷ []) refl

met : Answer world outer squares cells (2 ∷ 9 ∷ 25 ∷ 0 ∷ []) (0 ∷ 1 ∷ 10 ∷ 0 ∷ []) 1
unfolding exact_index
met = answered world outer squares cells (number 2 ∷ word 9 ∷ word 25 ∷ number 2 ∷ []) (2 ∷ 9 ∷ 25 ∷ 0 ∷ []) (0 ∷ 1 ∷ 10 ∷ 0 ∷ []) 1 (record { value = 3; tangent = 0 }) sound (λ z. refl) calm fits (omega arith) refl refl like refl refl small refl refl dead_seed
  where
    dead_seed : (p : ℕ) → bytes_eq (name_at site.keys p) x ≡ false → true ≡ true → slice_index (0 ∷ 1 ∷ 10 ∷ 0 ∷ []) p ≡ 0
    dead_seed zero h k = refl
    dead_seed (suc zero) h k = cc
    dead_seed (suc (suc zero)) h k = cc
    dead_seed (suc (suc (suc zero))) h k = refl
    dead_seed (suc (suc (suc (suc p)))) h k = refl
