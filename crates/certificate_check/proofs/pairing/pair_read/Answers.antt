use Rattle.std.proofs.Common.{◌≡◌, true, false, Some, None, refl, sym, ap, ◌∙◌}
use Rattle.std.specs.Prelude.{option_copied}
use Rattle.certificate_rules.specs.Surveys.{numbered}
use Rattle.certificate_check.specs.Pairs.{is_pair_read}
use Rattle.certificate_check.proofs.PairReads.{read-some, read-other, read-no-forms}
use Rattle.certificate_check.proofs.pairing.pair_read.Goals as goal

pub returns-then-is_pair_read : goal.returns-then-is_pair_read
returns-then-is_pair_read c =
    let a = c.in-Some.access.now in
    let r = c.in-Some-numbered.right.now in
    let fs = c.in-Some-numbered-2.forms.now in
    let e : Some a ≡ numbered c.args.accesses.now c.args.number = sym (ap option_copied c.in-Some.is) ∙ c.numbered.ensures in
    let h : Some r ≡ numbered c.args.rights.now c.args.number = sym (ap option_copied c.in-Some-numbered.is) ∙ c.numbered-in-Some.ensures in
    let i : Some fs ≡ numbered c.args.side.now c.args.number = sym (ap option_copied c.in-Some-numbered-2.is) ∙ c.numbered-in-Some-numbered.ensures in
    let t : is_pair_read c.args.active.now a r ≡ true = sym c.is_pair_read.ensures ∙ c.if-is_pair_read.true in
    read-some c.args.active.now c.args.accesses.now c.args.rights.now c.args.side.now c.args.number a r fs c.as_slice.result.now a.place.name e h i t refl c.as_slice.ensures

pub returns-else-is_pair_read : goal.returns-else-is_pair_read
returns-else-is_pair_read c =
    let a = c.in-Some.access.now in
    let r = c.in-Some-numbered.right.now in
    let fs = c.in-Some-numbered-2.forms.now in
    let e : Some a ≡ numbered c.args.accesses.now c.args.number = sym (ap option_copied c.in-Some.is) ∙ c.numbered.ensures in
    let h : Some r ≡ numbered c.args.rights.now c.args.number = sym (ap option_copied c.in-Some-numbered.is) ∙ c.numbered-in-Some.ensures in
    let i : Some fs ≡ numbered c.args.side.now c.args.number = sym (ap option_copied c.in-Some-numbered-2.is) ∙ c.numbered-in-Some-numbered.ensures in
    let t : is_pair_read c.args.active.now a r ≡ false = sym c.is_pair_read.ensures ∙ c.if-is_pair_read.false in
    read-other c.args.active.now c.args.accesses.now c.args.rights.now c.args.side.now c.args.number a r fs e h i t

pub returns-in-None-numbered-2 : goal.returns-in-None-numbered-2
returns-in-None-numbered-2 c =
    let e : Some c.in-Some.access.now ≡ numbered c.args.accesses.now c.args.number = sym (ap option_copied c.in-Some.is) ∙ c.numbered.ensures in
    let h : Some c.in-Some-numbered.right.now ≡ numbered c.args.rights.now c.args.number = sym (ap option_copied c.in-Some-numbered.is) ∙ c.numbered-in-Some.ensures in
    let i : None ≡ numbered c.args.side.now c.args.number = sym (ap option_copied c.in-None-numbered-2.is) ∙ c.numbered-in-Some-numbered.ensures in
    read-no-forms c.args.active.now c.args.accesses.now c.args.rights.now c.args.side.now c.args.number c.in-Some.access.now c.in-Some-numbered.right.now e h i
