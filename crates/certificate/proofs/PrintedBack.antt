-- Printed certificates are read back.
use Rattle.std.proofs.Common.{◌≡◌, ℕ, suc, ◌+◌, List, [], ◌∷◌, ◌++◌, length, Option, Some, None, Ok, refl, ap, sym, ◌∙◌, append_assoc, append-nil, arith}
use Rattle.std.specs.Prelude.{codes}
use Rattle.certificate.specs.declared.derivation.Multiple.{Multiple}
use Rattle.certificate.specs.declared.derivation.Line.{Line}
use Rattle.certificate.specs.declared.derivation.Line.TheVariants.{Hyp, Comb, Cong}
use Rattle.certificate.specs.declared.derivation.Close.{Close}
use Rattle.certificate.specs.declared.derivation.Close.TheVariants.{Distinct, Residue, Range, Fact}
use Rattle.certificate.specs.declared.derivation.Heading.{Heading}
use Rattle.certificate.specs.declared.derivation.Given.{Given}
use Rattle.certificate.specs.declared.stage.Stage.{Stage}
use Rattle.certificate.specs.declared.stage.Stage.TheVariants.{Opening, Between, Inside, Closed}
use Rattle.certificate.specs.Text.{number_text, numbers_text, multiple_text, multiples_text, line_words, line_text, lines_text, second_text, close_words, pair_words, given_text, givens_text, cert_text}
use Rattle.certificate.specs.Reading.{words_of, close_in, Reached, with_done, begun, inside_by, stepped, after_line, read_from, cert_in}
use Rattle.certificate.specs.Laws.{Fits, AllFit, MultiplesFit, LineFits, LinesFit, SecondFits, CloseFits, HeadingFits, GivensFit, at_line, placed, PrintedIsRead}
use Rattle.certificate.proofs.Decimals.{Free, free-by, free-join}
use Rattle.certificate.proofs.Cuts.{cut, cut-at, some-part}
use Rattle.certificate.proofs.WordsBack.{free-number, free-signed, line-back, close-back, close-no-line, heading-back}

-- ---- lines have no line feed inside

free-row : (n : ℕ) → Fits n → Free 10 (number_text n)
free-row n h = (refl, free-number 10 n (omega arith) h)

free-rows : (ns : List ℕ) → AllFit ns → Free 10 (numbers_text ns)
free-rows [] h = tt
free-rows (n ∷ ns) h = free-join 10 (number_text n) (numbers_text ns) (free-row n h.0) (free-rows ns h.1)

free-multiples : (ms : List Multiple) → MultiplesFit ms → Free 10 (multiples_text ms)
free-multiples [] h = tt
free-multiples (m ∷ ms) h =
    free-join 10 (multiple_text m) (multiples_text ms)
    (refl, free-join 10 _ (number_text m.line) (free-signed 10 m.multiplier (omega arith) h.0) (free-row m.line h.1)) (free-multiples ms h.2)

free-line : (l : Line) → LineFits l → Free 10 (line_words l)
free-line (Hyp d) h = free-join 10 (codes "hyp") (number_text d) (free-by 10 (codes "hyp") refl) (free-row d h)
free-line (Comb ms) h = free-join 10 (codes "comb") (multiples_text ms) (free-by 10 (codes "comb") refl) (free-multiples ms h)
free-line (Cong a b ls) h = free-join 10 (codes "cong") (numbers_text (a ∷ b ∷ ls)) (free-by 10 (codes "cong") refl) (free-rows (a ∷ b ∷ ls) (h.0, (h.1, h.2)))

free-second : (m : Option ℕ) → SecondFits m → Free 10 (second_text m)
free-second None h = tt
free-second (Some m) h = free-row m h

free-close : (c : Close) → CloseFits c → Free 10 (close_words c)
free-close (Distinct l m) h =
    free-join 10 (codes "close distinct") (number_text l ++ second_text m) (free-by 10 (codes "close distinct") refl)
    (free-join 10 (number_text l) (second_text m) (free-row l h.0) (free-second m h.1))
free-close (Residue l) h = free-join 10 (codes "close residue") (number_text l) (free-by 10 (codes "close residue") refl) (free-row l h)
free-close (Range l) h = free-join 10 (codes "close range") (number_text l) (free-by 10 (codes "close range") refl) (free-row l h)
free-close (Fact n ls) h = free-join 10 (codes "close fact") (numbers_text (n ∷ ls)) (free-by 10 (codes "close fact") refl) (free-rows (n ∷ ls) h)

free-pair : (h : Heading) → HeadingFits h → Free 10 (pair_words h)
free-pair h f =
    free-join 10 (codes "pair") (number_text h.loop_number ++ (number_text h.first ++ number_text h.second)) (free-by 10 (codes "pair") refl)
    (free-join 10 (number_text h.loop_number) (number_text h.first ++ number_text h.second) (free-row h.loop_number f.0)
    (free-join 10 (number_text h.first) (number_text h.second) (free-row h.first f.1) (free-row h.second f.2)))

-- ---- line by line

one-line : (n : ℕ) (xs ys : List ℕ) (stage : Stage) (done : List Given) (o : Option Reached) → Free 10 xs → stepped n xs stage done ≡ o →
    read_from n (cut 10 (xs ++ 10 ∷ ys)) stage done ≡ after_line n o (read_from (suc n) (cut 10 ys))
one-line n xs ys stage done o f e =
    let p = some-part 10 ys in
    ap (λ t. read_from n t stage done) (cut-at 10 xs ys refl f ∙ ap (λ t. xs ∷ t) p.2)
    ∙ ap (λ o. after_line n o (read_from (suc n) (p.0 ∷ p.1))) e
    ∙ ap (λ t. after_line n o (read_from (suc n) t)) (sym p.2)

moved : (n k : ℕ) (ls ms : List Line) (h : Heading) (l : Line) (rest : List (List ℕ)) (done : List Given) →
    read_from (suc n + k) rest (Inside h ((ls ++ l ∷ []) ++ ms)) done ≡ read_from (n + suc k) rest (Inside h (ls ++ l ∷ ms)) done
moved n k ls ms h l rest done =
    let e : suc n + k ≡ n + suc k = omega arith in
    ap (λ m. read_from m rest (Inside h ((ls ++ l ∷ []) ++ ms)) done) e ∙ ap (λ t. read_from (n + suc k) rest (Inside h t) done) (append_assoc ls (l ∷ []) ms)

shaped-line : (l : Line) (more rest : List ℕ) → (line_text l ++ more) ++ rest ≡ line_words l ++ 10 ∷ (more ++ rest)
shaped-line l more rest = append_assoc (line_text l) more rest ∙ append_assoc (line_words l) (10 ∷ []) (more ++ rest)

all-lines : (n : ℕ) (ms ls : List Line) (h : Heading) (rest : List ℕ) (done : List Given) → LinesFit ms →
    read_from n (cut 10 (lines_text ms ++ rest)) (Inside h ls) done ≡ read_from (n + length ms) (cut 10 rest) (Inside h (ls ++ ms)) done
all-lines n [] ls h rest done f =
    let e : n ≡ n + 0 = omega arith in
    ap (λ m. read_from m (cut 10 rest) (Inside h ls) done) e ∙ ap (λ t. read_from (n + 0) (cut 10 rest) (Inside h t) done) (sym (append-nil ls))
all-lines n (l ∷ ms) ls h rest done f =
    ap (λ t. read_from n (cut 10 t) (Inside h ls) done) (shaped-line l (lines_text ms) rest)
    ∙ one-line n (line_words l) (lines_text ms ++ rest) (Inside h ls) done (Some (Inside h (ls ++ l ∷ []), done)) (free-line l f.0)
    (ap (λ o. with_done done (inside_by h ls o (close_in (words_of (line_words l))))) (line-back l f.0))
    ∙ all-lines (suc n) ms (ls ++ l ∷ []) h rest done f.1
    ∙ moved n (length ms) ls ms h l (cut 10 rest) done

shaped-given : (g : Given) (rest : List ℕ) →
    given_text g ++ rest ≡ pair_words g.heading ++ 10 ∷ (lines_text g.derivation.lines ++ (close_words g.derivation.close ++ 10 ∷ (codes "end" ++ 10 ∷ rest)))
shaped-given g rest =
    let h = pair_words g.heading in
    let ls = lines_text g.derivation.lines in
    let c = close_words g.derivation.close in
    append_assoc h (10 ∷ (ls ++ (c ++ codes "\nend\n"))) rest
    ∙ ap (λ t. h ++ 10 ∷ t) (append_assoc ls (c ++ codes "\nend\n") rest ∙ ap (λ t. ls ++ t) (append_assoc c (codes "\nend\n") rest))

one-given : (n : ℕ) (g : Given) (rest : List ℕ) (done : List Given) → HeadingFits g.heading → LinesFit g.derivation.lines → CloseFits g.derivation.close →
    read_from n (cut 10 (given_text g ++ rest)) Between done
    ≡ read_from (suc (suc (suc n + length g.derivation.lines))) (cut 10 rest) Between (done ++ record { heading = at_line n g.heading; derivation = g.derivation } ∷ [])
one-given n g rest done fh fl fc =
    let h = at_line n g.heading in
    let ls = g.derivation.lines in
    let c = g.derivation.close in
    let m = suc n + length ls in
    ap (λ t. read_from n (cut 10 t) Between done) (shaped-given g rest)
    ∙ one-line n (pair_words g.heading) (lines_text ls ++ (close_words c ++ 10 ∷ (codes "end" ++ 10 ∷ rest))) Between done (Some (Inside h [], done)) (free-pair g.heading fh)
    (ap (λ o. with_done done (begun o)) (heading-back n g.heading fh))
    ∙ all-lines (suc n) ls [] h (close_words c ++ 10 ∷ (codes "end" ++ 10 ∷ rest)) done fl
    ∙ one-line m (close_words c) (codes "end" ++ 10 ∷ rest) (Inside h ls) done (Some (Closed h g.derivation, done)) (free-close c fc)
    (ap (λ o. with_done done (inside_by h ls o (close_in (words_of (close_words c))))) (close-no-line c fc)
    ∙ ap (λ o. with_done done (inside_by h ls None o)) (close-back c fc))
    ∙ one-line (suc m) (codes "end") rest (Closed h g.derivation) done (Some (Between, done ++ record { heading = h; derivation = g.derivation } ∷ [])) (free-by 10 (codes "end") refl) refl

all-givens : (n : ℕ) (gs done : List Given) → GivensFit gs → read_from n (cut 10 (givens_text gs)) Between done ≡ Ok (done ++ placed n gs)
all-givens n [] done f = ap Ok (sym (append-nil done))
all-givens n (g ∷ gs) done f =
    let here : Given = record { heading = at_line n g.heading; derivation = g.derivation } in
    let e : suc (suc (suc n + length g.derivation.lines)) ≡ n + length g.derivation.lines + 3 = omega arith in
    one-given n g (givens_text gs) done f.0 f.1 f.2
    ∙ ap (λ m. read_from m (cut 10 (givens_text gs)) Between (done ++ here ∷ [])) e
    ∙ all-givens (n + length g.derivation.lines + 3) gs (done ++ here ∷ []) f.3
    ∙ ap Ok (append_assoc done (here ∷ []) (placed (n + length g.derivation.lines + 3) gs))

pub printed-is-read : PrintedIsRead
unfolding cert_in cert_text
printed-is-read gs f =
    one-line 1 (codes "formad 1") (givens_text gs) Opening [] (Some (Between, [])) (free-by 10 (codes "formad 1") refl) refl ∙ all-givens 2 gs [] f
