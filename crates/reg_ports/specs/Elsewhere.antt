-- What stands in a bank beside its ports (own).
use Rattle.std.specs.Prelude.{◌≡◌, ℕ, Bool, false, ◌&&◌, ◌||◌, not, ◌==◌, nat_lt, List, slice_index}
use Rattle.std.specs.List.{list_any}
use Rattle.cell_form.specs.declared.bank.Port.{Port}
use Rattle.cell_form.specs.Data.{BankData}
use Rattle.cell_form.specs.Sound.{SameShape}
use Rattle.cell_form.specs.Writes.{word_of}

-- a port names this register
abbrev pub names_register : ℕ → Port → Bool
names_register r p = not p.mem && ((p.value == r) || (p.work == r))

-- a port has this word of this memory
abbrev pub names_word : ℕ → ℕ → Port → Bool
names_word m k p = p.mem && ((p.value == m) && nat_lt k p.words)

-- two banks of one shape that differ at most in what ports name
pub record SameElsewhere (ports : List Port) (a b : BankData) : Type 0 where
  pub registers : (r : ℕ) → list_any (names_register r) ports ≡ false → slice_index a.regs r ≡ slice_index b.regs r
  pub words : (m k : ℕ) → list_any (names_word m k) ports ≡ false → word_of a m k ≡ word_of b m k
  pub slots : a.slots ≡ b.slots
  pub shape : SameShape a b

-- a variable's value is its work copy's
abbrev pub CopiesAgree : BankData → Port → Type 0
CopiesAgree b p = p.mem ≡ false → slice_index b.regs p.value ≡ slice_index b.regs p.work
