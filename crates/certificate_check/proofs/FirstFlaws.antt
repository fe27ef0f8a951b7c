-- The first flaw, step by step.
use Rattle.std.proofs.Common.{◌≡◌, ℕ, suc, ◌<◌, ◌≤◌, List, drop, length, get_or, Option, Some, None, refl, sym, ap, ◌∙◌}
use Rattle.std.specs.Prelude.{option_map}
use Rattle.std.proofs.Math.Seq.{drop-cons}
use Rattle.std.proofs.lemmas.List.{drop_all}
use Rattle.certificate.specs.declared.derivation.Given.{Given}
use Rattle.certificate_rules.specs.Surveys.{numbered}
use Rattle.acceptance.proofs.NumberedItems.{mapped-some, mapped-none}
use Rattle.certificate_check.specs.declared.pairing.LoopPairs.{LoopPairs}
use Rattle.certificate_check.specs.declared.flaw.Flaw.{Flaw}
use Rattle.certificate_check.specs.declared.flaw.Flaw.TheVariants.{NoSuchPair}
use Rattle.certificate_check.specs.Pairs.{loop_of}
use Rattle.certificate_check.specs.Flaws.{Loops, loops_of, flaw_in, flaw_of, or_later, first_flaw}

abbrev pub L : Type 0
L = List (Option LoopPairs)

pub loop-there : (active : List (List ℕ)) (ls : L) (g : Given) (o : Option LoopPairs) → Some o ≡ numbered ls g.heading.loop_number → flaw_in active (Some (option_map loop_of o)) g ≡ flaw_of active (loops_of ls) g
loop-there active ls g o e = ap (λ z. flaw_in active z g) (mapped-some (option_map loop_of) ls g.heading.loop_number o e)

pub loop-none : (active : List (List ℕ)) (ls : L) (g : Given) → None ≡ numbered ls g.heading.loop_number → Some (NoSuchPair g.heading.line) ≡ flaw_of active (loops_of ls) g
loop-none active ls g e = ap (λ z. flaw_in active z g) (mapped-none (option_map loop_of) ls g.heading.loop_number e)

first-front : (active : List (List ℕ)) (ls : Loops) (gs : List Given) (i : ℕ) (g : Given) → i < length gs → get_or gs i g ≡ g → first_flaw active ls (drop i gs) ≡ or_later (flaw_of active ls g) (first_flaw active ls (drop (suc i) gs))
first-front active ls gs i g h e = rw (drop-cons gs i g h, e) refl

pub first-here : (active : List (List ℕ)) (ls : Loops) (gs : List Given) (i : ℕ) (g : Given) (f : Flaw) → i < length gs → get_or gs i g ≡ g → Some f ≡ flaw_of active ls g → first_flaw active ls (drop i gs) ≡ Some f
first-here active ls gs i g f h e d = first-front active ls gs i g h e ∙ ap (λ (o : Option Flaw). or_later o (first_flaw active ls (drop (suc i) gs))) (sym d)

pub first-later : (active : List (List ℕ)) (ls : Loops) (gs : List Given) (i : ℕ) (g : Given) → i < length gs → get_or gs i g ≡ g → None ≡ flaw_of active ls g → first_flaw active ls (drop i gs) ≡ first_flaw active ls (drop (suc i) gs)
first-later active ls gs i g h e d = first-front active ls gs i g h e ∙ ap (λ (o : Option Flaw). or_later o (first_flaw active ls (drop (suc i) gs))) (sym d)

pub first-none : (active : List (List ℕ)) (ls : Loops) (gs : List Given) (i : ℕ) → length gs ≤ i → first_flaw active ls (drop i gs) ≡ None
first-none active ls gs i h = ap (first_flaw active ls) (drop_all i gs h)
