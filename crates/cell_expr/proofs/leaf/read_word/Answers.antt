use Rattle.std.proofs.Common.{◌∙◌, ap, sym, rules, ◌<◌, ◌+◌, ◌%◌, ◌^◌, [], slice_index_or, IfOk}
use Rattle.std.proofs.Common.{w64, to_z, of_z}
use Rattle.std.proofs.lemmas.Int.{to_z-of_z}
use Rattle.std.specs.Prelude.{◌-ℤ◌}
use Rattle.vl_base.specs.Value.{resized, reading}
use Rattle.vl_design.specs.declared.design.Form.{Form}
use Rattle.cell_emit.specs.cell_form.specs.Values.{word_at}
use Rattle.cell_emit.specs.Slots.{Gives, held, width_at}
use Rattle.cell_emit.specs.Counts.{resizes}
use Rattle.vl_design.specs.Trees.{row_of}
use Rattle.vl_eval.specs.Rooms.{names_of}
use Rattle.cell_emit.specs.cell_form.specs.Views.{list_of}
use Rattle.cell_emit.proofs.Newest.{ok-gives}
use Rattle.vl_design.specs.Width.{signal_form}
use Rattle.cell_emit.specs.Envs.{env_of, entry}
use Rattle.cell_expr.specs.Words.{lowest_in}
use Rattle.cell_expr.proofs.Words.{no-word, some-word, lowest-is, lowered}
use Rattle.cell_expr.proofs.leaf.read_word.Goals as goal

pub returns-in-None-clause-gives : goal.returns-in-None-clause-gives
returns-in-None-clause-gives c =
    let rows = (names_of c.args.room.now).rows in
    ok-gives c.nothing.result _ _
    (λ r g. no-word (list_of c.args.cells.now) (list_of c.nothing.new.cells) r c.args.c.width _ c.args.address c.args.c.signed c.args.signed (lowest_in rows c.args.memory) _ (sym c.entry_of.ensures ∙ c.in-None.is) g)
    c.nothing.ensures.gives

pub returns-in-Some-clause-gives : goal.returns-in-Some-clause-gives
returns-in-Some-clause-gives c =
    let rows = (names_of c.args.room.now).rows in
    let row = c.signal_at-row.result.now in
    let own = (signal_form rows c.args.memory).width in
    let old = list_of c.args.cells.now in
    let lowest = c.lower-lowest.result in
    let z = to_z w64 (of_z w64 lowest) in
    let m = c.in-Some.number in
    let given : IfOk c.word.result (λ r. Gives (λ s. m < s.mems) (1 + resizes own c.args.c.width) old (list_of c.word.new.cells) r c.args.c.width
    (λ b. resized c.args.c.signed own c.args.c.width (word_at (slice_index_or b.mems m []) (reading c.args.signed (width_at old c.args.address) (held b old c.args.address) -ℤ z) % 2 ^ own))) = rw (← (ap (λ (f : Form). f.width) c.signal_form-own.ensures.value)) c.word.ensures.gives in
    ok-gives c.word.result _ _
    (λ r g. some-word old (list_of c.word.new.cells) r c.args.c.width own c.args.address c.args.c.signed c.args.signed (lowest_in rows c.args.memory) (entry (env_of c.args.at.now) c.args.memory) m z
    (sym c.entry_of.ensures ∙ c.in-Some.is) (to_z-of_z w64 lowest (search rules) ∙ lowered lowest row.first row.last c.lower-lowest.ensures (search rules) (search rules) ∙ sym (lowest-is rows c.args.memory (row_of row) c.signal_at-row.ensures)) g)
    given
