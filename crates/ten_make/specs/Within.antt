-- An image keeps within the cost of its design (own).
use Rattle.std.specs.Prelude.{◌≡◌, ℕ, zero, suc, ◌+◌, ◌*◌, ◌≤◌, ◌==◌, max, List, [], ◌∷◌, length, slice_get, Some, sum_by, if◌then◌else◌}
use Rattle.ten_core.specs.vl_design.specs.Cost.{cost}
use Rattle.ten_core.specs.vl_design.specs.Syntax.{Flat}
use Rattle.ten_make.specs.Slack.{cell_slack, register_slack}
use Rattle.ten_core.specs.cell_form.specs.Data.{ListData, StateData}
use Rattle.ten_core.specs.cell_form.specs.declared.cell.Write.{Write}
use Rattle.ten_core.specs.cell_form.specs.declared.cell.Write.TheVariants as w
use Rattle.ten_core.specs.cell_form.specs.declared.bank.Port.{Port}
use Rattle.cell_states.specs.cell_emit.specs.Slots.{width_at}
use Rattle.ten_core.specs.declared.image.Image.{Image}
use Rattle.ten_core.specs.Tenants.{states_of}
use Rattle.ten_core.specs.ten_form.specs.Registers.{answer_register, register_count}

-- the bits of the memories that an image has in a bank
abbrev pub memory_bits : Image → ℕ
memory_bits image = sum_by (λ (p : Port). if p.mem then p.words * p.width else 0) image.ports.ports

-- the width of the widest slot from which one of these writes sets a register
abbrev pub widest : ListData → ℕ → List Write → ℕ
widest l r [] = 0
widest l r (w.Reg k s ∷ xs) = if k == r then max (width_at l s) (widest l r xs) else widest l r xs
widest l r (w.Mem m enable word value mask ∷ xs) = widest l r xs

-- from which one of these states sets it
abbrev pub widest_of : List StateData → ℕ → ℕ
widest_of [] r = 0
widest_of (s ∷ ss) r = max (widest s.cells r s.cells.sets) (widest_of ss r)

-- the bits of a register: that of the answer has 32, which a call sets
abbrev pub bits_of : List StateData → ℕ → ℕ
bits_of states r = if r == answer_register then 32 else widest_of states r

-- those of n registers
abbrev pub register_bits : List StateData → ℕ → ℕ
register_bits states zero = 0
register_bits states (suc n) = register_bits states n + bits_of states n

pub record IsWithinCost (d : Flat) (image : Image) : Type 0 where
  -- those of signals and stores together have at most as many bits as the design costs, and the slack
  pub registers : register_bits (states_of image) (register_count (length d.rows) + 4 * image.stores) ≤ (cost d).regs + register_slack d
  pub memory : memory_bits image ≡ (cost d).mem
  -- each state has at most as many cells as the design costs, and the slack
  pub cells : (n : ℕ) (s : StateData) → slice_get (states_of image) n ≡ Some s → length s.cells.cells ≤ (cost d).cells + cell_slack d
