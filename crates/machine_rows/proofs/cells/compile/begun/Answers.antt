use Rattle.std.proofs.Common.{ℕ, ◌+◌, List, subst}
use Rattle.vl_design.specs.Trees.{flat_of}
use Rattle.vl_design.specs.Width.{names_of}
use Rattle.cell_emit.specs.cell_form.specs.Views.{list_of}
use Rattle.cell_emit.specs.Envs.{env_of}
use Rattle.cell_emit.specs.Entries.{read_count}
use Rattle.machine_rows.specs.Walked.{Walked}
use Rattle.machine_rows.proofs.Walking.{none-yet, walked-first}
use Rattle.machine_rows.proofs.cells.compile.begun.Goals as goal

pub returns : goal.returns
returns c =
    let d = c.args.design.now in
    let names = names_of (flat_of d) in
    let time = c.args.bench.now.time in
    let answer = c.args.bench.now.answer in
    let at = env_of c.in_ok-at.at in
    let old = list_of (record { first = 0; cells = c.new.result; sets = c.new-2.result }) in
    let new = list_of c.reads.new.cells in
    let F : List ℕ → Type 0 = λ ps. Walked names ps time answer new at in
    let h = c.in_ok-at.ensures in
    subst F c.as_slice.ensures.value
    (walked-first names c.as_slice.result.now time answer (read_count (flat_of d).rows + 4) at old new (none-yet c.new.result c.new-2.result c.new.ensures c.new-2.ensures) h.first h.longer h.fits h.memories)
