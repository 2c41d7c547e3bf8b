-- Traps that a bank can serve (own).
use Rattle.std.specs.Prelude.{◌≡◌, ℕ, ◌<◌, ◌^◌, ℤ, List, [], ◌∷◌, length, slice_index, slice_index_or, Option, Some, None, ⊤}
use Rattle.fmt_text.specs.vl_design.specs.Rows.{range_width}
use Rattle.fmt_text.specs.vl_design.specs.Sound.{IsWidth}
use Rattle.cell_form.specs.Data.{BankData}
use Rattle.cell_form.specs.declared.table.FormatPart.{FormatPart}
use Rattle.cell_form.specs.declared.table.FormatPart.TheVariants as part
use Rattle.cell_form.specs.declared.table.Trap.{Trap}
use Rattle.cell_form.specs.declared.table.TrapCall.{TrapCall}
use Rattle.cell_form.specs.declared.table.TrapCall.TheVariants as call

-- a slot of the bank holds a number of w bits
pub record Holds (b : BankData) (w slot : ℕ) : Type 0 where
  pub width : IsWidth w
  pub there : slot < length b.slots
  pub fits : slice_index b.slots slot < 2 ^ w

-- each item of a display has a slot that holds a number of its width
abbrev pub HaveValues : BankData → List FormatPart → List ℕ → Type 0
HaveValues b [] slots = ⊤
HaveValues b (part.Lit text ∷ ps) slots = HaveValues b ps slots
HaveValues b (part.Item letter least w signed ∷ ps) [] = ⊥
HaveValues b (part.Item letter least w signed ∷ ps) (slot ∷ slots) = Holds b w slot × HaveValues b ps slots

-- the first argument is a descriptor, of 32 bits
abbrev pub HasDescriptor : BankData → List ℕ → Type 0
HasDescriptor b [] = ⊥
HasDescriptor b (slot ∷ slots) = Holds b 32 slot

abbrev pub HasAnswer : BankData → Trap → Type 0
HasAnswer b t = t.answer < length b.regs

-- a register of the bank holds a number of w bits
pub record IsVariable (b : BankData) (w r : ℕ) : Type 0 where
  pub width : IsWidth w
  pub there : r < length b.regs
  pub fits : slice_index b.regs r < 2 ^ w

abbrev pub HasVariable : BankData → ℕ → Option ℕ → Type 0
HasVariable b w None = ⊥
HasVariable b w (Some r) = IsVariable b w r

-- a memory of n words of w bits
pub record IsMemory (b : BankData) (w n m : ℕ) : Type 0 where
  pub width : IsWidth w
  pub there : m < length b.mems
  pub many : length (slice_index_or b.mems m []) ≡ n

abbrev pub HasMemory : BankData → ℕ → ℕ → Option ℕ → Type 0
HasMemory b w n None = ⊥
HasMemory b w n (Some m) = IsMemory b w n m

-- a call has its arguments, its target and the register of its answer
abbrev pub CanServe : BankData → Trap → TrapCall → Type 0
CanServe b t (call.Print parts newline) = HaveValues b parts t.args
CanServe b t call.Finish = ⊤
CanServe b t (call.Save name) = ⊤
CanServe b t (call.Fopen name) = HasAnswer b t
CanServe b t (call.Fread w) = HasDescriptor b t.args × HasVariable b w t.target × HasAnswer b t
CanServe b t call.Fgetc = HasDescriptor b t.args × HasAnswer b t
CanServe b t call.Feof = HasDescriptor b t.args × HasAnswer b t
CanServe b t call.Fclose = HasDescriptor b t.args
CanServe b t (call.ReadHex name w first last) = HasMemory b w (range_width first last) t.target

abbrev pub IsTrap : BankData → Trap → Type 0
IsTrap b t = CanServe b t t.call
