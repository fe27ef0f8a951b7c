-- How a text is cut into lines.
use Rattle.std.proofs.Common.{◌≡◌, ◌≢◌, ℕ, zero, suc, ◌+◌, ◌-◌, ◌<◌, ◌≤◌, Bool, true, false, cond, not, eqb, List, [], ◌∷◌, ◌++◌, length, get_or, take, drop, if◌then◌else◌, refl, ap, sym, ◌∙◌, subst, arith, length-drop}
use Rattle.std.proofs.lemmas.List.{take_all}
use Rattle.std.proofs.Math.ListN.{drop_of_length-le}
use Rattle.std.proofs.lemmas.Bool.Decides.{nat_tests}
use Rattle.std.specs.List.{position_or_len}
use Rattle.fl_lexer.specs.declared.line.Ending.TheVariants.{Missing, LineFeed, CrLf}
use Rattle.fl_lexer.specs.Bytes.{is_line_feed}
use Rattle.fl_lexer.specs.Lines.{Line, line, longer, ahead, lines, with_feed}

-- no line feed is among the bytes
abbrev pub NoFeed : List ℕ → Type 0
NoFeed [] = Unit {0}
NoFeed (b ∷ bs) = (is_line_feed b ≡ false) × NoFeed bs

abbrev feed_at : List ℕ → ℕ
feed_at bs = position_or_len is_line_feed bs

at_feed : (b : ℕ) (bs : List ℕ) → is_line_feed b ≡ true → feed_at (b ∷ bs) ≡ 0
at_feed b bs h = ap (λ t. cond (not t) (1 + feed_at bs) 0) h

past : (b : ℕ) (bs : List ℕ) → is_line_feed b ≡ false → feed_at (b ∷ bs) ≡ suc (feed_at bs)
past b bs h = let e : 1 + feed_at bs ≡ suc (feed_at bs) = omega arith in ap (λ t. cond (not t) (1 + feed_at bs) 0) h ∙ e

before_by : (t : Bool) (b : ℕ) (bs : List ℕ) → is_line_feed b ≡ t → NoFeed (take (feed_at bs) bs) → NoFeed (take (feed_at (b ∷ bs)) (b ∷ bs))
before_by true b bs h n = subst (λ (k : ℕ). NoFeed (take k (b ∷ bs))) (sym (at_feed b bs h)) tt
before_by false b bs h n = subst (λ (k : ℕ). NoFeed (take k (b ∷ bs))) (sym (past b bs h)) (h, n)

-- none stands before the first
pub before : (bs : List ℕ) → NoFeed (take (feed_at bs) bs)
before [] = tt
before (b ∷ bs) = before_by (is_line_feed b) b bs refl (before bs)

is_feed : (b : ℕ) → is_line_feed b ≡ true → b ≡ 10
is_feed b h = grind (arith)

cut_by : (t : Bool) (b : ℕ) (bs : List ℕ) → is_line_feed b ≡ t → (feed_at bs < length bs → bs ≡ take (feed_at bs) bs ++ 10 ∷ drop (suc (feed_at bs)) bs) →
    feed_at (b ∷ bs) < length (b ∷ bs) → b ∷ bs ≡ take (feed_at (b ∷ bs)) (b ∷ bs) ++ 10 ∷ drop (suc (feed_at (b ∷ bs))) (b ∷ bs)
cut_by true b bs h rec l = subst (λ (k : ℕ). b ∷ bs ≡ take k (b ∷ bs) ++ 10 ∷ drop (suc k) (b ∷ bs)) (sym (at_feed b bs h)) (ap (λ c. c ∷ bs) (is_feed b h))
cut_by false b bs h rec l =
    let e = past b bs h in
    let less : feed_at bs < length bs = omega (arith, e, l) in
    subst (λ (k : ℕ). b ∷ bs ≡ take k (b ∷ bs) ++ 10 ∷ drop (suc k) (b ∷ bs)) (sym e) (ap (λ cs. b ∷ cs) (rec less))

-- the text is what stands before the first line feed, that line feed, and what stands behind it
pub cut : (bs : List ℕ) → feed_at bs < length bs → bs ≡ take (feed_at bs) bs ++ 10 ∷ drop (suc (feed_at bs)) bs
cut [] h = absurd (omega (arith, h))
cut (b ∷ bs) h = cut_by (is_line_feed b) b bs refl (cut bs) h

-- a line with its line feed, and the text behind it
pub lines-feed : (f r : List ℕ) → NoFeed f → lines (f ++ 10 ∷ r) ≡ with_feed f ∷ lines r
unfolding lines with_feed
lines-feed [] r n = refl
lines-feed (b ∷ f) r n =
    ap (λ t. cond t (line [] LineFeed ∷ lines (f ++ 10 ∷ r)) (ahead b (lines (f ++ 10 ∷ r)))) n.0
    ∙ ap (ahead b) (lines-feed f r n.1)

-- a text without line feed is one line
pub lines-bare : (b : ℕ) (f : List ℕ) → NoFeed (b ∷ f) → lines (b ∷ f) ≡ line (b ∷ f) Missing ∷ []
unfolding lines
lines-bare b [] n = ap (λ t. cond t (line [] LineFeed ∷ []) (ahead b [])) n.0
lines-bare b (c ∷ f) n =
    ap (λ t. cond t (line [] LineFeed ∷ lines (c ∷ f)) (ahead b (lines (c ∷ f)))) n.0
    ∙ ap (ahead b) (lines-bare c f n.1)

longer-cr : (b : ℕ) (f : List ℕ) → longer b f CrLf ≡ line (b ∷ f) CrLf
longer-cr b [] = refl
longer-cr b (c ∷ f) = refl

last_at : (n : ℕ) → suc (suc n) - 1 ≡ suc (suc n - 1)
last_at n = omega arith

-- a CR right before the line feed ends the line with it
pub with_feed-cr : (f : List ℕ) → 0 < length f → get_or f (length f - 1) 0 ≡ 13 → with_feed f ≡ line (take (length f - 1) f) CrLf
unfolding with_feed
with_feed-cr [] some h = absurd (omega arith)
with_feed-cr (b ∷ []) some h =
    let is : b ≡ 13 = h in
    ap (λ n. if eqb n 13 then line [] CrLf else line (n ∷ []) LineFeed) is
with_feed-cr (b ∷ c ∷ f) some h =
    let h' : get_or (c ∷ f) (length (c ∷ f) - 1) 0 ≡ 13 = subst (λ (n : ℕ). get_or (b ∷ c ∷ f) n 0 ≡ 13) (last_at (length f)) h in
    ap (λ (l : Line). longer b l.bytes l.ending) (with_feed-cr (c ∷ f) (omega arith) h')
    ∙ longer-cr b (take (suc (length f) - 1) (c ∷ f))
    ∙ ap (λ (n : ℕ). line (take n (b ∷ c ∷ f)) CrLf) (sym (last_at (length f)))

is_no_cr : (b : ℕ) → (b ≡ 13 → ⊥) → eqb b 13 ≡ false
is_no_cr b h = grind (arith, nat_tests)

-- else the line feed alone does
pub with_feed-plain : (f : List ℕ) → (0 < length f → get_or f (length f - 1) 0 ≡ 13 → ⊥) → with_feed f ≡ line f LineFeed
unfolding with_feed
with_feed-plain [] h = refl
with_feed-plain (b ∷ []) h = ap (λ t. if t then line [] CrLf else line (b ∷ []) LineFeed) (is_no_cr b (h (omega arith)))
with_feed-plain (b ∷ c ∷ f) h =
    let h' : get_or (c ∷ f) (length (c ∷ f) - 1) 0 ≡ 13 → ⊥ = subst (λ (n : ℕ). get_or (b ∷ c ∷ f) n 0 ≡ 13 → ⊥) (last_at (length f)) (h (omega arith)) in
    ap (λ (l : Line). longer b l.bytes l.ending) (with_feed-plain (c ∷ f) (λ _. h'))

-- a text without line feed, cut before the first one
bare_whole : (text : List ℕ) → text ≢ [] → NoFeed text → lines text ≡ line text Missing ∷ []
bare_whole [] ne n = absurd (ne refl)
bare_whole (b ∷ f) ne n = lines-bare b f n

no_lines : lines [] ≡ []
unfolding lines
no_lines = refl

pub first_bare : (text front back : List ℕ) (k : ℕ) → text ≢ [] → k ≡ feed_at text → front ≡ take k text → back ≡ drop k text → length back ≡ 0 → lines text ≡ line front Missing ∷ lines back
first_bare text front back k ne ek ef eb none =
    let all : length text ≤ k = omega (arith, none, ap length eb, length-drop k text) in
    let whole : front ≡ text = ef ∙ take_all k text all in
    let empty : back ≡ [] = eb ∙ drop_of_length-le text all in
    let clear : NoFeed text = subst NoFeed (ap (λ (n : ℕ). take n text) (sym ek) ∙ take_all k text all) (before text) in
    bare_whole text ne clear ∙ ap (λ f. line f Missing ∷ []) (sym whole) ∙ ap (λ ls. line front Missing ∷ ls) (sym (ap lines empty ∙ no_lines))

drop_one : (k : ℕ) (xs : List ℕ) → drop 1 (drop k xs) ≡ drop (suc k) xs
drop_one zero xs = refl
drop_one (suc k) [] = refl
drop_one (suc k) (x ∷ xs) = drop_one k xs

all_behind : (back : List ℕ) → take (length back - 1) (drop 1 back) ≡ drop 1 back
all_behind back = take_all (length back - 1) (drop 1 back) (omega (arith, length-drop 1 back))

-- a text cut before its first line feed
pub first_feed : (text front back : List ℕ) (k : ℕ) (l : Line) → k ≡ feed_at text → front ≡ take k text → back ≡ drop k text → 0 < length back → l ≡ with_feed front → lines text ≡ l ∷ lines (take (length back - 1) (drop 1 back))
first_feed text front back k l ek ef eb some el =
    let less : feed_at text < length text = omega (arith, some, ek, ap length eb, length-drop k text) in
    let is : front ≡ take (feed_at text) text = ef ∙ ap (λ (n : ℕ). take n text) ek in
    let rest : take (length back - 1) (drop 1 back) ≡ drop (suc (feed_at text)) text = all_behind back ∙ ap (drop 1) eb ∙ drop_one k text ∙ ap (λ (n : ℕ). drop (suc n) text) ek in
    ap lines (cut text less) ∙ lines-feed (take (feed_at text) text) (drop (suc (feed_at text)) text) (before text)
    ∙ ap (λ f. with_feed f ∷ lines (drop (suc (feed_at text)) text)) (sym is)
    ∙ ap (λ m. m ∷ lines (drop (suc (feed_at text)) text)) (sym el)
    ∙ ap (λ r. l ∷ lines r) (sym rest)
