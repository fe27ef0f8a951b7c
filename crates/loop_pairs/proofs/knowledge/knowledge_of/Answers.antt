use Rattle.std.proofs.Common.{length, ap, sym, ◌∙◌}
use Rattle.fl_ast.specs.declared.stmt.Program.{Program}
use Rattle.index_forms.specs.declared.form.Side.TheVariants.{One, Two}
use Rattle.index_forms.specs.Listed.{all_forms_seen}
use Rattle.index_forms.specs.Scenes.{is_fixed_there}
use Rattle.index_knowledge.specs.Told.{facts_told}
use Rattle.index_ranges.specs.Ranges.{ranges_in}
use Rattle.index_ranges.specs.Told.{ranges_told}
use Rattle.loop_scenes.specs.Turns.{last_turn_of}
use Rattle.loop_scenes.specs.Views.{headed_loop}
use Rattle.loop_pairs.proofs.Forms.{as_many, seen_length, fixed_made, facts_at, survey_made}
use Rattle.loop_pairs.proofs.knowledge.knowledge_of.Goals as goal

pub facts-requires-clause-ones : goal.facts-requires-clause-ones
facts-requires-clause-ones c =
    ap length (c.as_slice-2.ensures ∙ (c.get-2.ensures ∙ c.of-ones.ensures))
    ∙ (sym (seen_length c.in_ok-forms_on.field-0)
    ∙ (as_many c.args.indexed.now.decls (headed_loop c.args.headed.now) One (all_forms_seen c.in_ok-forms_on.field-0) c.in_ok-bare_accesses.field-0 c.in_ok-forms_on.ensures c.in_ok-bare_accesses.ensures
    ∙ sym (ap length (c.as_slice.ensures ∙ (c.get.ensures ∙ c.of-accesses.ensures)))))

pub facts-requires-clause-twos : goal.facts-requires-clause-twos
facts-requires-clause-twos c =
    ap length (c.as_slice-3.ensures ∙ (c.get-3.ensures ∙ c.of-twos.ensures))
    ∙ (sym (seen_length c.in_ok-forms_on-2.field-0)
    ∙ (as_many c.args.indexed.now.decls (headed_loop c.args.headed.now) Two (all_forms_seen c.in_ok-forms_on-2.field-0) c.in_ok-bare_accesses.field-0 c.in_ok-forms_on-2.ensures c.in_ok-bare_accesses.ensures
    ∙ sym (ap length (c.as_slice.ensures ∙ (c.get.ensures ∙ c.of-accesses.ensures)))))

pub returns : goal.returns
returns c =
    survey_made c.args.indexed.now.decls (headed_loop c.args.headed.now) c.into_inner.result (all_forms_seen c.into_inner-2.result) (all_forms_seen c.into_inner-3.result) (is_fixed_there c.into_inner-4.result)
    (facts_told c.into_inner-5.result) (ranges_told c.in_ok-ranges.ranges) c.last_turn_of.result
    (c.into_inner.ensures ∙ (c.of-accesses.ensures ∙ c.in_ok-bare_accesses.ensures))
    (ap (λ fs. all_forms_seen fs) (c.into_inner-2.ensures ∙ c.of-ones.ensures) ∙ c.in_ok-forms_on.ensures)
    (ap (λ fs. all_forms_seen fs) (c.into_inner-3.ensures ∙ c.of-twos.ensures) ∙ c.in_ok-forms_on-2.ensures)
    (fixed_made One c.args.indexed.now.decls c.as_slice-4.result.now (headed_loop c.args.headed.now) c.into_inner-4.result (c.into_inner-4.ensures ∙ (c.of-scene.ensures ∙ c.in_ok-scene_of.ensures.scene))
    (c.as_slice-4.ensures ∙ ap (λ (p : Program). p.decls) c.program.ensures))
    (ap (λ ks. facts_told ks) (c.into_inner-5.ensures ∙ c.of-facts.ensures)
    ∙ (c.in_ok-facts.ensures.facts
    ∙ facts_at c.as_slice.result.now c.into_inner.result (all_forms_seen c.as_slice-2.result.now) (all_forms_seen c.into_inner-2.result) (all_forms_seen c.as_slice-3.result.now) (all_forms_seen c.into_inner-3.result)
    (c.as_slice.ensures ∙ (c.get.ensures ∙ sym c.into_inner.ensures)) (ap (λ fs. all_forms_seen fs) (c.as_slice-2.ensures ∙ (c.get-2.ensures ∙ sym c.into_inner-2.ensures)))
    (ap (λ fs. all_forms_seen fs) (c.as_slice-3.ensures ∙ (c.get-3.ensures ∙ sym c.into_inner-3.ensures)))))
    (c.in_ok-ranges.ensures.ranges ∙ ap ranges_in c.iteration_body.ensures) (c.last_turn_of.ensures ∙ ap last_turn_of c.further_head.ensures)
