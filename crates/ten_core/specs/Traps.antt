-- Calls that states wait for (own).
use Rattle.std.specs.Prelude.{◌≡◌, ℕ, Bool, false, is_some, [], ◌∷◌, Option, Some, None}
use Rattle.trap_runtime.specs.cell_form.specs.Data.{BankData, StateData, TableData}
use Rattle.trap_runtime.specs.cell_form.specs.States.{present}
use Rattle.trap_runtime.specs.cell_form.specs.declared.table.Trap.{Trap}

-- the state has a call to be served
abbrev pub has_trap : Option StateData → Bool
has_trap None = false
has_trap (Some s) = is_some s.trap

-- the state that is next has this call, and behind it just one state is next
pub record IsAtCall (t : TableData) (b : BankData) (trap : Trap) (to : ℕ) : Type 0 where
  pub state : StateData
  pub is_next : present t b ≡ Some state
  pub waits : state.trap ≡ Some trap
  pub leads : state.nexts ≡ to ∷ []
