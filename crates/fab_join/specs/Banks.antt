-- Parts of banks, and banks that grow or in which a part is set (own).
use Rattle.std.specs.Prelude.{ℕ, ◌≡◌, ◌+◌, ◌≤◌, ◌⊎◌, List, ◌++◌, length, take, drop}
use Rattle.std.specs.Global.{Vec}
use Rattle.trap_runtime.specs.cell_form.specs.Data.{BankData}
use Rattle.trap_runtime.specs.cell_form.specs.Sound.{Shape}

abbrev pub words_of : Vec ℕ → List ℕ
words_of v = v.items

-- ---- parts

-- the part of a bank that lies behind so many registers, memories and slots, of this shape
abbrev pub part : Shape → Shape → BankData → BankData
part a s b = record {
  regs = take s.regs (drop a.regs b.regs);
  mems = take s.mems (drop a.mems b.mems);
  slots = take s.slots (drop a.slots b.slots);
}

-- a part lies in a bank
pub record IsWithin (a s bank : Shape) : Type 0 where
  pub regs : a.regs + s.regs ≤ bank.regs
  pub mems : a.mems + s.mems ≤ bank.mems
  pub slots : a.slots + s.slots ≤ bank.slots

-- n things from a on, and m from b on, have nothing in common
abbrev pub IsClear : ℕ → ℕ → ℕ → ℕ → Type 0
IsClear a n b m = (a + n ≤ b) ⊎ (b + m ≤ a)

-- two parts have nothing in common
pub record AreApart (a s b t : Shape) : Type 0 where
  pub regs : IsClear a.regs s.regs b.regs t.regs
  pub mems : IsClear a.mems s.mems b.mems t.mems
  pub slots : IsClear a.slots s.slots b.slots t.slots

-- ---- banks that grow, and banks with a part set

-- items in place of those that stand from a number on
abbrev pub pasted : {X : Type 0} → List X → ℕ → List X → List X
pasted xs a ys = take a xs ++ (ys ++ drop (a + length ys) xs)

-- a bank with this one in place of its part behind a
abbrev pub with_part : Shape → BankData → BankData → BankData
with_part a own b = record {
  regs = pasted b.regs a.regs own.regs;
  mems = pasted b.mems a.mems own.mems;
  slots = pasted b.slots a.slots own.slots;
}

-- two banks side by side
abbrev pub side_by_side : BankData → BankData → BankData
side_by_side b c = record { regs = b.regs ++ c.regs; mems = b.mems ++ c.mems; slots = b.slots ++ c.slots }

abbrev pub BeginsAs : {X : Type 0} → List X → List X → Type 0
BeginsAs {X} xs ys = (more : List X) × (ys ≡ xs ++ more)

-- all that was there is there still, under its number
pub record IsLonger (b c : BankData) : Type 0 where
  pub regs : BeginsAs b.regs c.regs
  pub mems : BeginsAs b.mems c.mems
  pub slots : BeginsAs b.slots c.slots
