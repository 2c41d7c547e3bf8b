-- The word of a memory that an address names, in slots (IEEE 1364-2005, clause 5.2.2).
use Rattle.std.specs.Prelude.{◌≡◌, ℕ, ◌<◌, ◌==◌, nat_lt, List, slice_get, if◌then◌else◌}
use Rattle.vl_base.specs.Value.{reading, truth}
use Rattle.vl_design.specs.Syntax.{Row}
use Rattle.vl_design.specs.Value.{word_at}
use Rattle.cell_emit.specs.cell_form.specs.Data.{ListData, BankData}
use Rattle.cell_emit.specs.cell_form.specs.Sound.{Shape}
use Rattle.cell_emit.specs.Slots.{held, width_at, AreSound, Longer, Nothing}
use Rattle.cell_emit.specs.Envs.{IsSlot}
use Rattle.cell_expr.specs.declared.address.Address.{Address}
use Rattle.cell_expr.specs.Words.{words_in}

-- the word that the address names, one past the last where there is none
abbrev pub word_named : List Row → BankData → ListData → ℕ → Address → ℕ
word_named rows b l m a = word_at (slice_get rows m) (reading a.signed (width_at l a.slot) (held b l a.slot))

-- with at most n cells more, one slot holds 1 where the word is there and the path is taken, else 0, and one its number
pub record Chooses (rows : List Row) (n m : ℕ) (a : Address) (off : ℕ) (old new : ListData) (test slot : ℕ) : Type 0 where
  pub longer : Longer Nothing n old new
  pub enable : IsSlot new test 1
  pub number : IsSlot new slot 32
  pub enabled : (s : Shape) (b : BankData) → AreSound s old → held b new test ≡ (if held b old off == 0 then truth (nat_lt (word_named rows b old m a) (words_in rows m)) else 0)
  pub named : (s : Shape) (b : BankData) → AreSound s old → word_named rows b old m a < words_in rows m → held b new slot ≡ word_named rows b old m a
