-- How many cells more than its cost a state of a design may have, and how many bits more its registers (own).
use Rattle.std.specs.Prelude.{ℕ, ◌+◌, ◌-◌, ◌*◌, List, [], length, sum_by, if◌then◌else◌}
use Rattle.ten_core.specs.vl_design.specs.Cost.{proc_regs}
use Rattle.ten_core.specs.vl_design.specs.Functions.{scope_of, zeros, fresh}
use Rattle.ten_core.specs.vl_design.specs.Queue.{is_init}
use Rattle.ten_core.specs.vl_design.specs.Syntax.{Row, Proc, Flat}
use Rattle.ten_core.specs.vl_design.specs.Width.{signal_form}
use Rattle.cell_states.specs.cell_expr.specs.Slack.{stm_slack, bodies_slack}
use Rattle.ten_core.specs.ten_form.specs.declared.store.Store.{Store}
use Rattle.ten_core.specs.ten_form.specs.Banks.{stores_in}

-- ---- cells

-- that of the statements of a process; initial processes have no states
abbrev pub proc_slack : Flat → Proc → ℕ
proc_slack d p = if is_init p.kind then 0 else stm_slack (bodies_slack d) p.body

-- and four cells read each word that nonblocking assignments may write
abbrev pub cell_slack : Flat → ℕ
cell_slack d = sum_by (proc_slack d) d.procs + 4 * length (stores_in d)

-- ---- bits of registers

-- those of a store, which has a mask beside what a nonblocking assignment to a word of a memory costs
abbrev pub store_bits : List Row → Store → ℕ
store_bits rows x = 33 + 2 * (signal_form rows x.memory).width

-- what the nonblocking assignments to words cost
abbrev pub word_bits : Flat → ℕ
word_bits d = sum_by (proc_regs (scope_of d []) (fresh (zeros d.rows))) d.procs

abbrev pub register_slack : Flat → ℕ
register_slack d = sum_by (store_bits d.rows) (stores_in d) - word_bits d
