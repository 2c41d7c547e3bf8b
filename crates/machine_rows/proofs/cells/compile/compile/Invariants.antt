use Rattle.vl_design.specs.Trees.{flat_of}
use Rattle.vl_design.specs.Width.{names_of}
use Rattle.cell_emit.specs.cell_form.specs.Views.{list_of}
use Rattle.cell_emit.specs.Envs.{env_of}
use Rattle.machine_rows.specs.Walked.{Walked}
use Rattle.machine_rows.proofs.cells.compile.compile.Given as goal

abbrev pub invariant-loop-process : goal.invariant-loop-process
invariant-loop-process l = Walked (names_of (flat_of l.design)) l.bench.places.items l.bench.time l.bench.answer (list_of l.all.cells) (env_of l.all.at)
