-- The bank of a machine at a boundary, list by list (own).
use Rattle.std.specs.Prelude.{◌≡◌, ℕ, ◌*◌, zero, suc, List, [], ◌∷◌, ◌++◌, replicate, slice_index}
use Rattle.vl_eval.specs.vl_design.specs.declared.design.SigKind.{SigKind}
use Rattle.vl_eval.specs.vl_design.specs.declared.design.SigKind.TheVariants.{Net, Comb, Mem}
use Rattle.vl_eval.specs.vl_design.specs.Syntax.{Row}
use Rattle.vl_run.specs.declared.machine.Machine.{Machine}
use Rattle.ten_core.specs.cell_form.specs.Data.{BankData}

-- what the registers of a signal hold: of a variable its value; of a signal that is computed, and of a memory, 0
abbrev pub held : SigKind → List ℕ → ℕ
held Net words = 0
held Comb words = 0
held Mem words = 0
held kind words = slice_index words 0

-- the registers of each signal: its value, committed and now, and no update
abbrev pub registers : List Row → List (List ℕ) → List ℕ
registers [] values = []
registers (r ∷ rs) [] = []
registers (r ∷ rs) (words ∷ values) = held r.kind words ∷ held r.kind words ∷ 0 ∷ 0 ∷ registers rs values

-- so many words of a list; 0 past its end
abbrev pub some_words : ℕ → List ℕ → List ℕ
some_words zero words = []
some_words (suc n) [] = 0 ∷ some_words n []
some_words (suc n) (w ∷ words) = w ∷ some_words n words

-- the words of a memory; none where a signal is none
abbrev pub memory_of : SigKind → (count : ℕ) → List ℕ → List ℕ
memory_of Mem count words = some_words count words
memory_of kind count words = []

abbrev pub memory : Row → List ℕ → List ℕ
memory r words = memory_of r.kind r.words words

abbrev pub memories : List Row → List (List ℕ) → List (List ℕ)
memories [] values = []
memories (r ∷ rs) [] = []
memories (r ∷ rs) (words ∷ values) = memory r words ∷ memories rs values

-- the state of this number is next, then come the answer and the ticks, the registers of signals, and those of so many stores, none of
-- which writes a word; and there are so many slots, each 0
pub record IsBankAt (rows : List Row) (m : Machine) (stores room first : ℕ) (b : BankData) : Type 0 where
  pub regs : b.regs ≡ first ∷ m.answer ∷ m.ticks ∷ (registers rows m.values.items ++ replicate (4 * stores) 0)
  pub mems : b.mems ≡ memories rows m.values.items
  pub slots : b.slots ≡ replicate room 0
