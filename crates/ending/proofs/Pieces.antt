-- A text that is put in pieces.
use Rattle.std.proofs.Common.{◌≡◌, ℕ, ◌+◌, ◌-◌, min, List, ◌++◌, take, drop, length, Option, Some, IfSome, sym, ◌∙◌, ap, subst, arith, append_assoc}
use Rattle.std.proofs.Math.Seq.{take-add}
use Rattle.std.proofs.lemmas.List.{take_min, take-take, length-take}

-- what the sink holds after the text so far
abbrev pub Held : Option (List ℕ) → Option (List ℕ) → List ℕ → Type 0
Held start now text = (sink : List ℕ) → start ≡ Some sink → now ≡ Some (sink ++ text)

joined : (text : List ℕ) (at size : ℕ) (sink : List ℕ) → sink ++ take at text ++ take (at + size - at) (drop at text) ≡ sink ++ take (at + size) text
joined text at size sink =
    append_assoc sink (take at text) (take (at + size - at) (drop at text))
    ∙ ap (λ n. sink ++ (take at text ++ take n (drop at text))) (omega arith) ∙ ap (λ t. sink ++ t) (sym (take-add at size text))

pub put_more : (start mid after : Option (List ℕ)) (text : List ℕ) (at size : ℕ) → Held start mid (take at text) →
    IfSome mid (λ before. after ≡ Some (before ++ take (at + size - at) (drop at text))) → Held start after (take (at + size) text)
put_more start mid after text at size held told sink e =
    let P : Option (List ℕ) → Type 0 = λ o. IfSome o (λ before. after ≡ Some (before ++ take (at + size - at) (drop at text))) in
    subst P (held sink e) told ∙ ap (λ t. Some t) (joined text at size sink)

front : (count size : ℕ) (l : List ℕ) → take count (take size l) ≡ take (min count (length (take size l))) l
front count size l = sym (take_min count (take size l)) ∙ take-take (min count (length (take size l))) size l (omega (arith, length-take size l))

pub put_some : (start mid after : Option (List ℕ)) (text : List ℕ) (at size : ℕ) → Held start mid (take at text) →
    IfSome mid (λ before. (count : ℕ) × (after ≡ Some (before ++ take count (take (at + size - at) (drop at text))))) →
    (sink : List ℕ) → start ≡ Some sink → (count : ℕ) × (after ≡ Some (sink ++ take count text))
put_some start mid after text at size held told sink e =
    let P : Option (List ℕ) → Type 0 = λ o. IfSome o (λ before. (count : ℕ) × (after ≡ Some (before ++ take count (take (at + size - at) (drop at text))))) in
    let h : (count : ℕ) × (after ≡ Some (sink ++ take at text ++ take count (take (at + size - at) (drop at text)))) = subst P (held sink e) told in
    let n : ℕ = min h.0 (length (take (at + size - at) (drop at text))) in (
      at + n,
      h.1 ∙ ap (λ t. Some (sink ++ take at text ++ t)) (front h.0 (at + size - at) (drop at text))
          ∙ ap (λ t. Some t) (append_assoc sink (take at text) (take n (drop at text)) ∙ ap (λ t. sink ++ t) (sym (take-add at n text))),
    )
