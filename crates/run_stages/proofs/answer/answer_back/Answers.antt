use Rattle.std.proofs.Common.{length, ap, sym, ◌∙◌}
use Rattle.fl_ast.specs.declared.stmt.Program.{Program}
use Rattle.fl_ast.specs.Tree.{program_tree}
use Rattle.fl_types.specs.Sharing.{has_name}
use Rattle.store_core.specs.Keys.{keys_of}
use Rattle.adjoint_choices.specs.Choosing.{choices_of}
use Rattle.adjoint_sets.specs.Names.{is_active, is_needed}
use Rattle.adjoint_sets.proofs.Same.{active_is}
use Rattle.answers.specs.Sweeps.{entry_words}
use Rattle.answer_law.proofs.Answering.{end_is_final}
use Rattle.run_stages.proofs.Answering.{answered}
use Rattle.run_stages.proofs.Ended.{cells_many, front_long}
use Rattle.run_stages.proofs.answer.answer_back.Goals as goal

pub run_back-requires-clause-many : goal.run_back-requires-clause-many
run_back-requires-clause-many c =
    let i = c.args.prepared.now.inputs in
    cells_many (program_tree i.typed) i.layout (is_needed i.typed (is_active i.typed c.args.request.now.of c.args.request.now.wrt)) (entry_words i.layout i.args)
    c.args.forwarded.cells.items c.requires.ran.cells_are

pub answer_of-requires-clause-long : goal.answer_of-requires-clause-long
answer_of-requires-clause-long c =
    let i = c.args.prepared.now.inputs in
    front_long (length (keys_of i.layout)) c.args.forwarded.cells.items _
    (cells_many (program_tree i.typed) i.layout (is_needed i.typed (is_active i.typed c.args.request.now.of c.args.request.now.wrt)) (entry_words i.layout i.args)
    c.args.forwarded.cells.items c.requires.ran.cells_are)
    c.in_ok-ran.ensures.values

pub returns : goal.returns
unfolding Rattle.answers.specs.Sweeps.run_text
returns c =
    let i = c.args.prepared.now.inputs in
    let of = c.args.request.now.of in
    let wrt = c.args.request.now.wrt in
    let active = c.args.prepared.now.active.names in
    rw (c.in_ok-answer.ensures
    ∙ answered i.typed i.layout i.args i.weights of wrt active c.args.needed.now.names c.in_ok-choices.choices.entries c.args.forwarded.cells.items c.args.forwarded.tape
    c.in_ok-ran.ran.values.items c.in_ok-ran.ran.adjoints.items c.in_ok-ran.ran.adds c.requires.laid
    (record { readable = c.program.ensures.typed.readable; typed = c.requires.judged; fit = c.requires.fit }) c.requires.given.small c.requires.given.light c.requires.given.asked
    (active_is i.typed of wrt active c.requires.active) c.requires.needed
    (c.in_ok-choices.ensures ∙ ap (λ (q : Program). choices_of q (λ x. has_name x active)) c.program.ensures.program) c.requires.ran
    (c.in_ok-ran.ensures.meant (program_tree i.typed) (is_needed i.typed (is_active i.typed of wrt)) (entry_words i.layout i.args) c.requires.ran.cells_are
    ∙ sym (end_is_final i.typed i.layout i.args of wrt))
    c.in_ok-ran.ensures.undone) at c.text.ensures
