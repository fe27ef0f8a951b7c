use Rattle.std.proofs.Common.{◌≡◌, sym, ap, ◌∙◌, false, true, string_bytes, slice_get}
use Rattle.serde_json.proofs.Views.{Entry}
use Rattle.data_io.specs.DataFaults.{is_asked}
use Rattle.data_io.proofs.Extras.{extra_here, extra_later, sorted_rest}
use Rattle.data_io.proofs.read.no_extra.Goals as goal

pub loop-key-preserved : goal.loop-key-preserved
loop-key-preserved c =
    let e : Entry = (c.in-Some.key.now, c.in-Some.field-0-1.now) in
    let here : is_asked c.args.names.now (string_bytes c.in-Some.key.now) ≡ true = ap (is_asked c.args.names.now) (sym c.as_bytes.ensures.value) ∙ sym c.has_name.ensures ∙ c.if-not-has_name.false in (
      c.loop-key.invariant.0 ∙ extra_later c.args.names.now _ e _ c.in-Some.ensures.steps here,
      sorted_rest _ e _ c.in-Some.ensures.steps c.loop-key.invariant.1,
    )

pub returns-then-not-has_name : goal.returns-then-not-has_name
returns-then-not-has_name c = λ _.
    let e : Entry = (c.in-Some.key.now, c.in-Some.field-0-1.now) in
    let other : is_asked c.args.names.now (string_bytes c.in-Some.key.now) ≡ false = ap (is_asked c.args.names.now) (sym c.as_bytes.ensures.value) ∙ sym c.has_name.ensures ∙ c.if-not-has_name.true in
    rw (c.in_ok-of.ensures, c.as_bytes-then-not-has_name.ensures.value)
    (ap (λ fs. slice_get fs 0) (c.loop-key.invariant.0 ∙ extra_here c.args.names.now _ e _ c.in-Some.ensures.steps c.loop-key.invariant.1 other))
