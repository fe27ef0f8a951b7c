-- A list of names, from what stands between its commas.
use Rattle.std.proofs.Common.{◌≡◌, ℕ, Bool, true, false, ◌&&◌, ◌==◌, if◌then◌else◌, List, map, Option, Some, None, ap, sym, ◌∙◌, Bor}
use Rattle.std.specs.List.{list_all, slice_split}
use Rattle.std.specs.Str.{str_to_ascii_lowercase}
use Rattle.std.proofs.lemmas.List.Folds.{list_all-map}
use Rattle.std.proofs.lemmas.Simd.{map-map}
use Rattle.formad_words.specs.Names.{is_name, is_distinct, names_from, names_in}

-- what the parts give, by the tests on them
abbrev answer : Bool → Bool → List (List ℕ) → Option (List (List ℕ))
answer all distinct names = if all && distinct then Some names else None

abbrev pub lowered : List (Bor (List ℕ)) → List (List ℕ)
lowered parts = map (λ part. str_to_ascii_lowercase part.now) parts

names_from-map : (parts : List (Bor (List ℕ))) → names_from (map (λ part. part.now) parts) ≡
    answer (list_all (λ part. is_name part.now) parts) (is_distinct (lowered parts)) (lowered parts)
names_from-map parts = simp (list_all-map, map-map)

read : (text : List ℕ) (parts : List (Bor (List ℕ))) → map (λ part. part.now) parts ≡ slice_split (λ b. b == 44) text →
    names_in text ≡ answer (list_all (λ part. is_name part.now) parts) (is_distinct (lowered parts)) (lowered parts)
unfolding names_in
read text parts e = ap names_from (sym e) ∙ names_from-map parts

pub no_names : (text : List ℕ) (parts : List (Bor (List ℕ))) → map (λ part. part.now) parts ≡ slice_split (λ b. b == 44) text →
    list_all (λ part. is_name part.now) parts ≡ false → names_in text ≡ None
no_names text parts e h = read text parts e ∙ ap (λ t. answer t (is_distinct (lowered parts)) (lowered parts)) h

pub not_distinct : (text : List ℕ) (parts : List (Bor (List ℕ))) (names : List (List ℕ)) → map (λ part. part.now) parts ≡ slice_split (λ b. b == 44) text →
    list_all (λ part. is_name part.now) parts ≡ true → names ≡ lowered parts → is_distinct names ≡ false → names_in text ≡ None
not_distinct text parts names e all n h =
    read text parts e ∙ ap (λ t. answer t (is_distinct (lowered parts)) (lowered parts)) all ∙ ap (λ ns. answer true (is_distinct ns) ns) (sym n)
    ∙ ap (λ t. answer true t names) h

pub are_read : (text : List ℕ) (parts : List (Bor (List ℕ))) (names : List (List ℕ)) → map (λ part. part.now) parts ≡ slice_split (λ b. b == 44) text →
    list_all (λ part. is_name part.now) parts ≡ true → names ≡ lowered parts → is_distinct names ≡ true → names_in text ≡ Some names
are_read text parts names e all n h =
    read text parts e ∙ ap (λ t. answer t (is_distinct (lowered parts)) (lowered parts)) all ∙ ap (λ ns. answer true (is_distinct ns) ns) (sym n)
    ∙ ap (λ t. answer true t names) h
