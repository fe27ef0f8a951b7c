-- An expression begins with a bracket, or without one.
use Rattle.std.proofs.Common.{◌≡◌, ℕ, zero, suc, Bool, true, ◌&&◌, nat_lt, ◌++◌, refl, sym, ap, subst, ◌∙◌, ◌⊎◌, inl, inr, append_assoc, arith}
use Rattle.std.proofs.lemmas.Bool.Decides.{nat_tests}
use Rattle.parsing.specs.Limit.{Limit, allows}
use Rattle.parsing.specs.Reading.{Lexemes}
use Rattle.parsing.specs.Grammar.{Grammar, ◌or◌, where_, ◌>>=◌ as ◌⨟◌}
use Rattle.fl_expressions.specs.declared.tree.Measured.{Measured}
use Rattle.fl_expressions.specs.ExprGrammar as g

module _ (open_ : Bool) (ig : Limit → Grammar Measured) where
  -- an operand that begins with no bracket
  abbrev pub NamedGrammar : Limit → Grammar Measured
  NamedGrammar d = where_ (open_ && allows d 1) (g.call_of_two open_ ig d) or (where_ (open_ && allows d 1) (g.call_of_one open_ ig d) or (g.place open_ ig d or g.literal open_ ig))

  -- what goes on behind a first operand
  abbrev pub RestGrammar : Limit → Measured → Grammar Measured
  RestGrammar d e = g.raised d e ⨟ g.factors_from open_ ig d ⨟ g.terms_from open_ ig d

  abbrev pub StartedGrammar : Limit → Grammar Measured
  StartedGrammar d = NamedGrammar d ⨟ RestGrammar d

  -- an expression that begins with no bracket
  abbrev pub UnopenedGrammar : Limit → Grammar Measured
  UnopenedGrammar d = where_ (allows d 1) (g.negated open_ ig d) or (g.plain open_ ig d or StartedGrammar d)

  -- a bracket, and what goes on behind it
  abbrev pub OpenedGrammar : Limit → Grammar Measured
  OpenedGrammar d = where_ open_ (g.bracketed open_ ig d ⨟ RestGrammar d)

  of_unopened : (d : Limit) (e : Measured) (us : Lexemes) → UnopenedGrammar d e us → g.sum open_ ig d e us
  unfolding g.sum g.unsigned g.term g.factor g.primary
  of_unopened d e us (inl n) = inl n
  of_unopened d e us (inr (inl n)) = inr (inl n)
  of_unopened d e us (inr (inr (x, vs, ws, n, (y, as_, bs, (z, cs, ds, r, f, e3), t, e2), e1))) =
      inr (inr (y, vs ++ as_, bs, (z, vs ++ cs, ds, (x, vs, cs, inr n, r, refl), f, ap (λ v. vs ++ v) e3 ∙ sym (append_assoc vs cs ds)), t, e1 ∙ ap (λ v. vs ++ v) e2 ∙ sym (append_assoc vs as_ bs)))

  of_opened : (d : Limit) (e : Measured) (us : Lexemes) → OpenedGrammar d e us → g.sum open_ ig d e us
  unfolding g.sum g.unsigned g.term g.factor g.primary
  of_opened d e us (so, (x, vs, ws, n, (y, as_, bs, (z, cs, ds, r, f, e3), t, e2), e1)) =
      inr (inr (y, vs ++ as_, bs, (z, vs ++ cs, ds, (x, vs, cs, inl (so, n), r, refl), f, ap (λ v. vs ++ v) e3 ∙ sym (append_assoc vs cs ds)), t, e1 ∙ ap (λ v. vs ++ v) e2 ∙ sym (append_assoc vs as_ bs)))

  regroup : (vs cs ds bs : Lexemes) → ((vs ++ cs) ++ ds) ++ bs ≡ vs ++ ((cs ++ ds) ++ bs)
  regroup vs cs ds bs = simp append_assoc

  opened_or_not : (d : Limit) (e : Measured) (us : Lexemes) → g.sum open_ ig d e us → OpenedGrammar d e us ⊎ UnopenedGrammar d e us
  unfolding g.sum g.unsigned g.term g.factor g.primary
  opened_or_not d e us (inl n) = inr (inl n)
  opened_or_not d e us (inr (inl n)) = inr (inr (inl n))
  opened_or_not d e us (inr (inr (y, as_, bs, (z, es, ds, (x, vs, cs, inl (so, n), r, e3), f, e2), t, e1))) =
      inl (so, (x, vs, (cs ++ ds) ++ bs, n, (y, cs ++ ds, bs, (z, cs, ds, r, f, refl), t, refl), e1 ∙ ap (λ v. v ++ bs) (e2 ∙ ap (λ v. v ++ ds) e3) ∙ regroup vs cs ds bs))
  opened_or_not d e us (inr (inr (y, as_, bs, (z, es, ds, (x, vs, cs, inr n, r, e3), f, e2), t, e1))) =
      inr (inr (inr (x, vs, (cs ++ ds) ++ bs, n, (y, cs ++ ds, bs, (z, cs, ds, r, f, refl), t, refl), e1 ∙ ap (λ v. v ++ bs) (e2 ∙ ap (λ v. v ++ ds) e3) ∙ regroup vs cs ds bs)))

-- ---- with so many brackets to open

abbrev pub RestAt : ℕ → Limit → Measured → Grammar Measured
RestAt b = RestGrammar (nat_lt 0 b) (g.below b)

abbrev pub UnopenedAt : ℕ → Limit → Grammar Measured
UnopenedAt b = UnopenedGrammar (nat_lt 0 b) (g.below b)

abbrev pub OpenedAt : ℕ → Limit → Grammar Measured
OpenedAt b = OpenedGrammar (nat_lt 0 b) (g.below b)

some : (b : ℕ) → nat_lt 0 (suc b) ≡ true
some b = grind (arith, nat_tests)

sum_at : (b : ℕ) (d : Limit) (e : Measured) (us : Lexemes) → g.sum (nat_lt 0 b) (g.below b) d e us → g.expr b d e us
unfolding g.expr g.below
sum_at zero d e us n = n
sum_at (suc b) d e us n = subst (λ (r : Bool). g.sum r (g.expr b) d e us) (some b) n

at_sum : (b : ℕ) (d : Limit) (e : Measured) (us : Lexemes) → g.expr b d e us → g.sum (nat_lt 0 b) (g.below b) d e us
unfolding g.expr g.below
at_sum zero d e us n = n
at_sum (suc b) d e us n = subst (λ (r : Bool). g.sum r (g.expr b) d e us) (sym (some b)) n

pub unopened_is_expr : (b : ℕ) (d : Limit) (e : Measured) (us : Lexemes) → UnopenedAt b d e us → g.expr b d e us
unopened_is_expr b d e us n = sum_at b d e us (of_unopened (nat_lt 0 b) (g.below b) d e us n)

pub opened_is_expr : (b : ℕ) (d : Limit) (e : Measured) (us : Lexemes) → OpenedAt b d e us → g.expr b d e us
opened_is_expr b d e us n = sum_at b d e us (of_opened (nat_lt 0 b) (g.below b) d e us n)

pub expr_is_either : (b : ℕ) (d : Limit) (e : Measured) (us : Lexemes) → g.expr b d e us → OpenedAt b d e us ⊎ UnopenedAt b d e us
expr_is_either b d e us n = opened_or_not (nat_lt 0 b) (g.below b) d e us (at_sum b d e us n)
