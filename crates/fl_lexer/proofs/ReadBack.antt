-- A text that a printer writes is read back.
use Rattle.std.proofs.Common.{◌≡◌, ℕ, zero, suc, ◌+◌, ◌-◌, ◌<◌, ◌≤◌, Bool, true, false, cond, not, eqb, ◌&&◌, List, [], ◌∷◌, ◌++◌, length, take, drop, get_or, Ok, refl, ap, sym, ◌∙◌, subst, arith, append-nil, length-append}
use Rattle.std.specs.Prelude.{replicate, nat_lt}
use Rattle.std.specs.List.{prefix_len, suffix_len}
use Rattle.std.proofs.lemmas.List.{reverse-append, length-replicate}
use Rattle.std.proofs.Math.Seq.{take-length}
use Rattle.std.proofs.lemmas.Bool.Decides.{nat_tests}
use Rattle.tokens.specs.declared.TokenKind.TheVariants.{Sentinel}
use Rattle.fl_lexer.specs.declared.line.LinePlace.{LinePlace}
use Rattle.fl_lexer.specs.declared.line.LineClass.{LineClass}
use Rattle.fl_lexer.specs.declared.line.LineClass.TheVariants.{Empty, Statement, Directive}
use Rattle.fl_lexer.specs.Bytes.{is_blank, is_bang, is_line_feed, begins}
use Rattle.fl_lexer.specs.Lines.{Line, lines, class_of, class_of_text, class_of_bang, text_from, goes_on, body_of, trimmed_len, next_class, or_else, continues}
use Rattle.fl_lexer.specs.Reading.{Tokens, token, line_end, joint, after, first_place, leaves_open, lexed}
use Rattle.fl_lexer.specs.Spelling.{Each, Spelt, text_of, AreLongest, tokens_of, Goes, end_of, SpellsText, SpellsClass, SpellLines, Spells}
use Rattle.fl_lexer.specs.Printing.{Printed, opening, joint_of, content, printed, is_plain, is_first, IsPrinted, Follows, ArePrinted, line_of, sentinel_of, end_of_line, printed_tokens}
use Rattle.fl_lexer.proofs.PieceSpelling.{each_len, take_front, drop_front, drop_both}
use Rattle.fl_lexer.proofs.LineLaws.{NoFeed, lines-feed, with_feed-plain}
use Rattle.fl_lexer.proofs.TextSpelling.{lexed_again}

-- Plain bytes.

each_weaker : (p q : ℕ → Bool) (bs : List ℕ) → ((b : ℕ) → p b ≡ true → q b ≡ true) → Each p bs → Each q bs
each_weaker p q [] f e = tt
each_weaker p q (b ∷ bs) f e = (f b e.0, each_weaker p q bs f e.1)

each_append : (p : ℕ → Bool) (bs cs : List ℕ) → Each p bs → Each p cs → Each p (bs ++ cs)
each_append p [] cs e f = f
each_append p (b ∷ bs) cs e f = (e.0, each_append p bs cs e.1 f)

each_at : (p : ℕ → Bool) (bs : List ℕ) (k : ℕ) → Each p bs → k < length bs → p (get_or bs k 0) ≡ true
each_at p [] k e h = absurd (omega arith)
each_at p (b ∷ bs) zero e h = e.0
each_at p (b ∷ bs) (suc k) e h = each_at p bs k e.1 (omega (arith, h))

all_pass : (p : ℕ → Bool) (bs : List ℕ) → Each p bs → prefix_len p bs ≡ length bs
all_pass p bs e = ap (prefix_len p) (sym (append-nil bs)) ∙ each_len p bs [] e refl

no_bang_byte : (b : ℕ) → is_plain b ≡ true → not (is_bang b) ≡ true
no_bang_byte b h = grind (arith, nat_tests)

no_amp_byte : (b : ℕ) → is_plain b ≡ true → eqb b 38 ≡ false
no_amp_byte b h = grind (arith, nat_tests)

-- neither a line feed nor a carriage return
unbroken : ℕ → Bool
unbroken b = not (is_line_feed b) && not (eqb b 13)

unbroken_plain : (b : ℕ) → is_plain b ≡ true → unbroken b ≡ true
unfolding unbroken
unbroken_plain b h = grind (arith, nat_tests)

unbroken_feed : (b : ℕ) → unbroken b ≡ true → is_line_feed b ≡ false
unfolding unbroken
unbroken_feed b h = grind (arith, nat_tests)

unbroken_return : (b : ℕ) → unbroken b ≡ true → b ≡ 13 → ⊥
unfolding unbroken
unbroken_return b h e = absurd (let g : false ≡ true = subst (λ (n : ℕ). (not (is_line_feed n) && not (eqb n 13)) ≡ true) e h in cc)

no_feed : (bs : List ℕ) → Each unbroken bs → NoFeed bs
no_feed [] e = tt
no_feed (b ∷ bs) e = (unbroken_feed b e.0, no_feed bs e.1)

unbroken_blanks : (n : ℕ) → Each unbroken (replicate n 32)
unfolding unbroken
unbroken_blanks zero = tt
unbroken_blanks (suc n) = (refl, unbroken_blanks n)

unbroken_opening : (d : Bool) → Each unbroken (opening d)
unfolding unbroken
unbroken_opening true = (refl, (refl, (refl, (refl, (refl, tt)))))
unbroken_opening false = tt

unbroken_joint : (g : Bool) → Each unbroken (joint_of g)
unfolding unbroken
unbroken_joint true = (refl, tt)
unbroken_joint false = tt

unbroken_content : (l : Printed) → IsPrinted l → Each unbroken (content l)
unbroken_content l i =
    let words = text_of l.words in
    each_append unbroken (replicate l.indent 32) (opening l.directive ++ (words ++ joint_of l.goes_on)) (unbroken_blanks l.indent)
    (each_append unbroken (opening l.directive) (words ++ joint_of l.goes_on) (unbroken_opening l.directive)
    (each_append unbroken words (joint_of l.goes_on) (each_weaker is_plain unbroken words unbroken_plain i.plain) (unbroken_joint l.goes_on)))

unbroken_last : (bs : List ℕ) → Each unbroken bs → 0 < length bs → get_or bs (length bs - 1) 0 ≡ 13 → ⊥
unbroken_last bs e some h = unbroken_return (get_or bs (length bs - 1) 0) (each_at unbroken bs (length bs - 1) e (omega arith)) h

-- The lines of the text.

abbrev lines_of : List Printed → List Line
lines_of [] = []
lines_of (l ∷ ls) = line_of l ∷ lines_of ls

no_text : lines [] ≡ []
unfolding lines
no_text = refl

printed_lines : (ls : List Printed) → ArePrinted ls → lines (printed ls) ≡ lines_of ls
printed_lines [] a = no_text
printed_lines (l ∷ ls) a =
    let unbroken_bytes = unbroken_content l a.0 in
    lines-feed (content l) (printed ls) (no_feed (content l) unbroken_bytes)
    ∙ ap (λ m. m ∷ lines (printed ls)) (with_feed-plain (content l) (unbroken_last (content l) unbroken_bytes))
    ∙ ap (λ ms. line_of l ∷ ms) (printed_lines ls a.2)

-- What a line is.

abbrev kind_of : Bool → LineClass
kind_of true = Directive
kind_of false = Statement

abbrev behind_blanks : Printed → List ℕ
behind_blanks l = opening l.directive ++ (text_of l.words ++ joint_of l.goes_on)

not_true : (t : Bool) → not t ≡ true → t ≡ false
not_true true h = absurd (let g : false ≡ true = h in cc)
not_true false h = refl

first_no_blank : (bs cs : List ℕ) → begins (λ b. not (is_blank b)) bs ≡ true → begins is_blank (bs ++ cs) ≡ false
first_no_blank [] cs h = absurd (let g : false ≡ true = h in cc)
first_no_blank (b ∷ bs) cs h = not_true (is_blank b) h

opening_no_blank : (d : Bool) (bs cs : List ℕ) → begins (is_first d) bs ≡ true → begins is_blank (opening d ++ (bs ++ cs)) ≡ false
opening_no_blank true bs cs h = refl
opening_no_blank false bs cs h = first_no_blank bs cs h

blank_bytes : (n : ℕ) → Each is_blank (replicate n 32)
blank_bytes zero = tt
blank_bytes (suc n) = (refl, blank_bytes n)

indent_is : (l : Printed) → IsPrinted l → prefix_len is_blank (content l) ≡ l.indent
indent_is l i =
    each_len is_blank (replicate l.indent 32) (behind_blanks l) (blank_bytes l.indent)
    (opening_no_blank l.directive (text_of l.words) (joint_of l.goes_on) i.begun)
    ∙ length-replicate l.indent 32

behind_indent : (l : Printed) → drop l.indent (content l) ≡ behind_blanks l
behind_indent l = ap (λ n. drop n (content l)) (sym (length-replicate l.indent 32)) ∙ drop_front (replicate l.indent 32) (behind_blanks l)

bang_false : (b : ℕ) → is_plain b ≡ true → is_bang b ≡ false
bang_false b h = grind (arith, nat_tests)

statement_text : (bs cs : List ℕ) → Each is_plain bs → begins (λ b. not (is_blank b)) bs ≡ true → class_of_text (bs ++ cs) ≡ Statement
statement_text [] cs e h = absurd (let g : false ≡ true = h in cc)
statement_text (b ∷ bs) cs e h = ap (λ t. cond t (class_of_bang (bs ++ cs)) Statement) (bang_false b e.0)

kind_text : (d : Bool) (bs cs : List ℕ) → Each is_plain bs → begins (is_first d) bs ≡ true → class_of_text (opening d ++ (bs ++ cs)) ≡ kind_of d
kind_text true [] cs e h = absurd (let g : false ≡ true = h in cc)
kind_text true (b ∷ bs) cs e h = ap (λ t. cond t Directive Empty) h
kind_text false bs cs e h = statement_text bs cs e h

class_is : (l : Printed) → IsPrinted l → class_of (content l) ≡ kind_of l.directive
unfolding class_of
class_is l i =
    ap (λ n. class_of_text (drop n (content l))) (indent_is l i) ∙ ap class_of_text (behind_indent l)
    ∙ kind_text l.directive (text_of l.words) (joint_of l.goes_on) i.plain i.begun

-- Its text.

abbrev no_bang : ℕ → Bool
no_bang b = not (is_bang b)

joint_no_bang : (g : Bool) → Each no_bang (joint_of g)
joint_no_bang true = (refl, tt)
joint_no_bang false = tt

text_whole : (from : ℕ) (bytes bs : List ℕ) → drop from bytes ≡ bs → Each no_bang bs → text_from from bytes ≡ bs
text_whole from bytes bs h e =
    ap (λ (cs : List ℕ). take (prefix_len no_bang cs) cs) h ∙ ap (λ n. take n bs) (all_pass no_bang bs e) ∙ take-length bs

-- a text that goes on, and one that doesn't
amp_trimmed : (bs : List ℕ) → trimmed_len (bs ++ 38 ∷ []) ≡ length bs + 1
amp_trimmed bs =
    let e : suffix_len is_blank (bs ++ 38 ∷ []) ≡ 0 = ap (prefix_len is_blank) (reverse-append bs (38 ∷ [])) in
    omega (arith, e, length-append bs (38 ∷ []))

amp_last : (bs : List ℕ) → get_or (bs ++ 38 ∷ []) (length bs) 0 ≡ 38
amp_last [] = refl
amp_last (b ∷ bs) = amp_last bs

both_true : (s t : Bool) → s ≡ true → t ≡ true → (s && t) ≡ true
both_true s t e f = ap (λ x. x && t) e ∙ f

less_true : (m n : ℕ) → m < n → nat_lt m n ≡ true
less_true m n h = grind (arith, nat_tests)

amp_goes : (bs : List ℕ) → goes_on (bs ++ 38 ∷ []) ≡ true
unfolding goes_on
amp_goes bs =
    let len = amp_trimmed bs in
    let at : trimmed_len (bs ++ 38 ∷ []) - 1 ≡ length bs = omega (arith, len) in
    both_true (nat_lt 0 (trimmed_len (bs ++ 38 ∷ []))) _ (less_true 0 (trimmed_len (bs ++ 38 ∷ [])) (omega (arith, len)))
    (ap (λ n. eqb (get_or (bs ++ 38 ∷ []) n 0) 38) at ∙ ap (λ b. eqb b 38) (amp_last bs))

amp_body : (bs : List ℕ) → body_of (bs ++ 38 ∷ []) ≡ bs
unfolding body_of
amp_body bs =
    let text = bs ++ 38 ∷ [] in
    let at : trimmed_len text - 1 ≡ length bs = omega (arith, amp_trimmed bs) in
    ap (λ t. cond t (take (trimmed_len text - 1) text) text) (amp_goes bs) ∙ ap (λ n. take n text) at ∙ take_front bs (38 ∷ [])

abbrev no_amp : ℕ → Bool
no_amp b = not (eqb b 38)

amp_not : (b : ℕ) → no_amp b ≡ true → eqb b 38 ≡ false
amp_not b h = not_true (eqb b 38) h

and_no : (s t : Bool) → (s ≡ true → t ≡ false) → (s && t) ≡ false
and_no true t f = f refl
and_no false t f = refl

true_less : (m n : ℕ) → nat_lt m n ≡ true → m < n
true_less m n h = grind (arith, nat_tests)

plain_stops : (bs : List ℕ) → Each no_amp bs → goes_on bs ≡ false
unfolding goes_on
plain_stops bs e =
    let n = trimmed_len bs in
    and_no (nat_lt 0 n) _ (λ h.
    let some : 0 < n = true_less 0 n h in
    let within : n ≤ length bs = omega arith in
    amp_not (get_or bs (n - 1) 0) (each_at no_amp bs (n - 1) e (omega (arith, some, within))))

plain_body : (bs : List ℕ) → Each no_amp bs → body_of bs ≡ bs
unfolding body_of
plain_body bs e = ap (λ t. cond t (take (trimmed_len bs - 1) bs) bs) (plain_stops bs e)

-- whether a text goes on as it is printed to
text_goes : (g : Bool) (bs : List ℕ) → Each no_amp bs → (goes_on (bs ++ joint_of g) ≡ g) × (body_of (bs ++ joint_of g) ≡ bs)
text_goes true bs e = (amp_goes bs, amp_body bs)
text_goes false bs e =
    (ap goes_on (append-nil bs) ∙ plain_stops bs e, ap body_of (append-nil bs) ∙ plain_body bs e)

no_amp_plain : (b : ℕ) → is_plain b ≡ true → no_amp b ≡ true
no_amp_plain b h = ap not (no_amp_byte b h)

-- What goes on is continued.

next_is : (l : Printed) (ls : List Printed) → IsPrinted l → next_class (line_of l ∷ lines_of ls) ≡ kind_of l.directive
unfolding next_class
next_is l ls i = ap (λ c. or_else c (next_class (lines_of ls))) (class_is l i) ∙ some_kind l.directive (next_class (lines_of ls))
  where
    some_kind : (d : Bool) (c : LineClass) → or_else (kind_of d) c ≡ kind_of d
    some_kind true c = refl
    some_kind false c = refl

continues_same : (d : Bool) → continues (kind_of d) (kind_of d) ≡ true
continues_same true = refl
continues_same false = refl

goes_is : (g d : Bool) (ls : List Printed) → Follows g d ls → ArePrinted ls → Goes g (kind_of d) (lines_of ls)
goes_is false d ls f a = tt
goes_is true d [] f a = absurd f
goes_is true d (l ∷ ls) f a = ap (continues (kind_of d)) (next_is l ls a.0 ∙ ap kind_of f) ∙ continues_same d

-- A line spells its tokens.

spells_by : (p : LinePlace) (class : LineClass) (from skipped : ℕ) (l : Line) (ls : List Line) (xs : List Spelt) (g : Bool) → goes_on (text_from from l.bytes) ≡ g →
    drop skipped (body_of (text_from from l.bytes)) ≡ text_of xs → AreLongest xs → Goes g class ls → SpellsText p class from skipped l ls (tokens_of p (from + skipped) xs ++ end_of g p l)
spells_by p class from skipped l ls xs g h body longest goes =
    (xs, body, longest, subst (λ (t : Bool). Goes t class ls) (sym h) goes, ap (λ t. tokens_of p (from + skipped) xs ++ end_of t p l) (sym h))

end_same : (g : Bool) (p : LinePlace) (m : Line) → end_of g p m ≡ cond g [] (line_end p m ∷ [])
end_same true p m = refl
end_same false p m = refl

-- the text of a printed line
statement_is : (l : Printed) → IsPrinted l → l.directive ≡ false → text_from (prefix_len is_blank (content l)) (content l) ≡ text_of l.words ++ joint_of l.goes_on
statement_is l i d =
    let text = text_of l.words ++ joint_of l.goes_on in
    let cut : drop (prefix_len is_blank (content l)) (content l) ≡ text =
    ap (λ n. drop n (content l)) (indent_is l i) ∙ behind_indent l ∙ ap (λ t. opening t ++ text) d in
    text_whole (prefix_len is_blank (content l)) (content l) text cut
    (each_append no_bang (text_of l.words) (joint_of l.goes_on) (each_weaker is_plain no_bang (text_of l.words) no_bang_byte i.plain) (joint_no_bang l.goes_on))

directive_is : (l : Printed) → IsPrinted l → l.directive ≡ true → text_from (prefix_len is_blank (content l) + 5) (content l) ≡ text_of l.words ++ joint_of l.goes_on
directive_is l i d =
    let text = text_of l.words ++ joint_of l.goes_on in
    let from = prefix_len is_blank (content l) in
    let cut : drop (from + 5) (content l) ≡ text =
    drop_both from 5 (content l) ∙ ap (drop 5) (ap (λ n. drop n (content l)) (indent_is l i) ∙ behind_indent l ∙ ap (λ t. opening t ++ text) d) in
    text_whole (from + 5) (content l) text cut
    (each_append no_bang (text_of l.words) (joint_of l.goes_on) (each_weaker is_plain no_bang (text_of l.words) no_bang_byte i.plain) (joint_no_bang l.goes_on))

plain_amp : (l : Printed) → IsPrinted l → Each no_amp (text_of l.words)
plain_amp l i = each_weaker is_plain no_amp (text_of l.words) no_amp_plain i.plain

first_no_amp : (bs cs : List ℕ) → Each no_amp bs → begins (λ b. not (is_blank b)) bs ≡ true → begins (λ b. eqb b 38) (bs ++ cs) ≡ false
first_no_amp [] cs e h = absurd (let g : false ≡ true = h in cc)
first_no_amp (b ∷ bs) cs e h = amp_not b e.0

and_false : (t : Bool) → (t && false) ≡ false
and_false true = refl
and_false false = refl

no_joint : (continued : Bool) (l : Printed) → IsPrinted l → l.directive ≡ false → joint continued (prefix_len is_blank (content l)) (line_of l) ≡ 0
no_joint continued l i d =
    let first_token : begins (λ b. not (is_blank b)) (text_of l.words) ≡ true = ap (λ t. begins (is_first t) (text_of l.words)) (sym d) ∙ i.begun in
    let text = text_of l.words ++ joint_of l.goes_on in
    let cut : drop (prefix_len is_blank (content l)) (content l) ≡ text =
    ap (λ n. drop n (content l)) (indent_is l i) ∙ behind_indent l ∙ ap (λ t. opening t ++ text) d in
    let first : begins (λ b. eqb b 38) (drop (prefix_len is_blank (content l)) (content l)) ≡ false =
    ap (begins (λ b. eqb b 38)) cut ∙ first_no_amp (text_of l.words) (joint_of l.goes_on) (plain_amp l i) first_token in
    ap (λ t. cond (continued && t) 1 0) first ∙ ap (λ t. cond t 1 0) (and_false continued)

statement_spelled : (p : LinePlace) (continued : Bool) (l : Printed) (ls : List Printed) → IsPrinted l → l.directive ≡ false → Goes l.goes_on Statement (lines_of ls) →
    SpellsClass p continued Statement (line_of l) (lines_of ls) (tokens_of p (l.indent + 0) l.words ++ end_of_line p l)
statement_spelled p continued l ls i d goes =
    let from = prefix_len is_blank (content l) in
    let is = statement_is l i d in
    let g = text_goes l.goes_on (text_of l.words) (plain_amp l i) in
    let at : from + 0 ≡ l.indent + 0 = ap (λ n. n + 0) (indent_is l i) in
    let spelled = spells_by p Statement from 0 (line_of l) (lines_of ls) l.words l.goes_on (ap goes_on is ∙ g.0) (ap body_of is ∙ g.1) i.longest goes in
    let tokens : tokens_of p (from + 0) l.words ++ end_of l.goes_on p (line_of l) ≡ tokens_of p (l.indent + 0) l.words ++ end_of_line p l =
    ap (λ n. tokens_of p n l.words ++ end_of l.goes_on p (line_of l)) at ∙ ap (λ e. tokens_of p (l.indent + 0) l.words ++ e) (end_same l.goes_on p (line_of l)) in
    subst (λ (n : ℕ). SpellsText p Statement from n (line_of l) (lines_of ls) (tokens_of p (l.indent + 0) l.words ++ end_of_line p l)) (sym (no_joint continued l i d))
    (subst (λ (ts : Tokens). SpellsText p Statement from 0 (line_of l) (lines_of ls) ts) tokens spelled)

directive_spelled : (p : LinePlace) (continued : Bool) (l : Printed) (ls : List Printed) → IsPrinted l → l.directive ≡ true → Goes l.goes_on Directive (lines_of ls) →
    SpellsClass p continued Directive (line_of l) (lines_of ls) (cond continued [] (token p l.indent 5 Sentinel ∷ []) ++ (tokens_of p (l.indent + 5) l.words ++ end_of_line p l))
directive_spelled p continued l ls i d goes =
    let from = prefix_len is_blank (content l) in
    let is = directive_is l i d in
    let g = text_goes l.goes_on (text_of l.words) (plain_amp l i) in
    let same = indent_is l i in
    let at : from + 5 + 0 ≡ l.indent + 5 = omega (arith, same) in
    let spelled = spells_by p Directive (from + 5) 0 (line_of l) (lines_of ls) l.words l.goes_on (ap goes_on is ∙ g.0) (ap body_of is ∙ g.1) i.longest goes in
    let tokens : tokens_of p (from + 5 + 0) l.words ++ end_of l.goes_on p (line_of l) ≡ tokens_of p (l.indent + 5) l.words ++ end_of_line p l =
    ap (λ n. tokens_of p n l.words ++ end_of l.goes_on p (line_of l)) at ∙ ap (λ e. tokens_of p (l.indent + 5) l.words ++ e) (end_same l.goes_on p (line_of l)) in (
      tokens_of p (l.indent + 5) l.words ++ end_of_line p l,
      subst (λ (ts : Tokens). SpellsText p Directive (from + 5) 0 (line_of l) (lines_of ls) ts) tokens spelled,
      ap (λ n. cond continued [] (token p n 5 Sentinel ∷ []) ++ (tokens_of p (l.indent + 5) l.words ++ end_of_line p l)) (sym same),
    )

abbrev line_tokens : LinePlace → Bool → Printed → Tokens
line_tokens p continued l = sentinel_of p continued l ++ (tokens_of p (l.indent + length (opening l.directive)) l.words ++ end_of_line p l)

line_by : (d : Bool) (p : LinePlace) (continued : Bool) (l : Printed) (ls : List Printed) → IsPrinted l → l.directive ≡ d → Goes l.goes_on (kind_of d) (lines_of ls) →
    SpellsClass p continued (kind_of d) (line_of l) (lines_of ls) (cond d (cond continued [] (token p l.indent 5 Sentinel ∷ [])) [] ++ (tokens_of p (l.indent + length (opening d)) l.words ++ end_of_line p l))
line_by true p continued l ls i d goes = directive_spelled p continued l ls i d goes
line_by false p continued l ls i d goes = statement_spelled p continued l ls i d goes

line_spelled : (p : LinePlace) (continued : Bool) (l : Printed) (ls : List Printed) → IsPrinted l → Follows l.goes_on l.directive ls → ArePrinted ls →
    SpellsClass p continued (class_of (content l)) (line_of l) (lines_of ls) (line_tokens p continued l)
line_spelled p continued l ls i f a =
    subst (λ (c : LineClass). SpellsClass p continued c (line_of l) (lines_of ls) (line_tokens p continued l)) (sym (class_is l i))
    (line_by l.directive p continued l ls i refl (goes_is l.goes_on l.directive ls f a))

open_by : (d : Bool) (continued : Bool) (l : Printed) → IsPrinted l → l.directive ≡ d → leaves_open continued (kind_of d) (content l) ≡ l.goes_on
open_by true continued l i d = ap goes_on (directive_is l i d) ∙ (text_goes l.goes_on (text_of l.words) (plain_amp l i)).0
open_by false continued l i d =
    let none : prefix_len is_blank (content l) + 0 ≡ prefix_len is_blank (content l) = omega arith in
    ap (λ n. goes_on (text_from n (content l))) none ∙ ap goes_on (statement_is l i d) ∙ (text_goes l.goes_on (text_of l.words) (plain_amp l i)).0

open_is : (continued : Bool) (l : Printed) → IsPrinted l → leaves_open continued (class_of (content l)) (content l) ≡ l.goes_on
open_is continued l i = ap (λ c. leaves_open continued c (content l)) (class_is l i) ∙ open_by l.directive continued l i refl

all_spelled : (p : LinePlace) (continued : Bool) (ls : List Printed) → ArePrinted ls → SpellLines p continued (lines_of ls) (printed_tokens p continued ls)
all_spelled p continued [] a = refl
all_spelled p continued (l ∷ ls) a = (
  line_tokens p continued l,
  printed_tokens (after p (line_of l)) l.goes_on ls,
  a.0.short,
  line_spelled p continued l ls a.0 a.1 a.2,
  subst (λ (o : Bool). SpellLines (after p (line_of l)) o (lines_of ls) (printed_tokens (after p (line_of l)) l.goes_on ls)) (sym (open_is continued l a.0))
      (all_spelled (after p (line_of l)) l.goes_on ls a.2),
  refl,
)

-- what is printed spells its tokens
pub printed_spells : (ls : List Printed) → ArePrinted ls → Spells (printed ls) (printed_tokens first_place false ls)
printed_spells ls a =
    subst (λ (ms : List Line). SpellLines first_place false ms (printed_tokens first_place false ls)) (sym (printed_lines ls a)) (all_spelled first_place false ls a)

-- so it is read back
pub read_back : (ls : List Printed) → ArePrinted ls → lexed (printed ls) ≡ Ok (printed_tokens first_place false ls)
read_back ls a = lexed_again (printed ls) (printed_tokens first_place false ls) (printed_spells ls a)
