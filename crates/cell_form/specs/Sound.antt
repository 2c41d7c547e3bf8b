-- When a list of cells may run on a bank.
use Rattle.std.specs.Prelude.{ℕ, ◌≡◌, ◌+◌, ◌-◌, ◌^◌, ◌<◌, ◌≤◌, true, List, [], ◌∷◌, ◌++◌, map, length, slice_index, ⊤}
use Rattle.std.specs.List.{AllByRecursion}
use Rattle.vl_base.specs.Value.{unary_width, binary_width, needs_one_width}
use Rattle.cell_form.specs.declared.cell.CellOp.{CellOp}
use Rattle.cell_form.specs.declared.cell.CellOp.TheVariants as o
use Rattle.cell_form.specs.declared.cell.Write.{Write}
use Rattle.cell_form.specs.declared.cell.Write.TheVariants as w
use Rattle.cell_form.specs.Data.{CellData, ListData, BankData}
use Rattle.cell_form.specs.Values.{Slot}

-- how many registers, memories and slots a bank has
pub record Shape : Type 0 where
  pub regs : ℕ
  pub mems : ℕ
  pub slots : ℕ

abbrev pub shape_of : BankData → Shape
shape_of b = record { regs = length b.regs; mems = length b.mems; slots = length b.slots }

-- the register or the memory of an operation is there
abbrev pub Names : Shape → CellOp → Type 0
Names s (o.Reg r) = r < s.regs
Names s (o.MemRead m signed) = m < s.mems
Names s op = ⊤

-- how many operands an operation takes
abbrev pub arity : CellOp → ℕ
arity (o.Const n) = 0
arity (o.Reg r) = 0
arity (o.Un op) = 1
arity (o.Bin op signed) = 2
arity o.Mux = 3
arity (o.Pick from) = 2
arity (o.PlaceIn from) = 3
arity o.Append = 2
arity (o.Resize signed) = 1
arity (o.MemRead m signed) = 1

-- the widths of the operands are ones that an operation takes, and of these it makes w bits
abbrev pub Makes : CellOp → ℕ → List ℕ → Type 0
Makes (o.Un op) w xs = w ≡ unary_width op (slice_index xs 0)
Makes (o.Bin op signed) w xs =
    (w ≡ binary_width op (slice_index xs 0)) × (needs_one_width op ≡ true → slice_index xs 0 ≡ slice_index xs 1)
Makes o.Mux w xs = (slice_index xs 1 ≡ w) × (slice_index xs 2 ≡ w)
Makes (o.PlaceIn from) w xs = w ≡ slice_index xs 0
Makes o.Append w xs = w ≡ slice_index xs 0 + slice_index xs 1
Makes op w xs = ⊤

-- one of n slots from `first` on
abbrev pub IsAmong : ℕ → ℕ → ℕ → Type 0
IsAmong first n a = (first ≤ a) × (a < first + n)

-- a cell behind earlier ones of such widths
pub record IsCell (s : Shape) (first : ℕ) (widths : List ℕ) (c : CellData) : Type 0 where
  pub args : AllByRecursion (IsAmong first (length widths)) c.args
  pub count : length c.args ≡ arity c.op
  pub makes : Makes c.op c.width (map (λ a. slice_index widths (a - first)) c.args)
  pub wide : 1 ≤ c.width
  pub narrow : c.width ≤ 128
  pub names : Names s c.op

-- cells behind earlier ones of such widths
abbrev pub AreCells : Shape → ℕ → List ℕ → List CellData → Type 0
AreCells s first widths [] = ⊤
AreCells s first widths (c ∷ cs) = IsCell s first widths c × AreCells s first (widths ++ c.width ∷ []) cs

-- a write from n slots
abbrev pub IsWrite : Shape → ℕ → ℕ → Write → Type 0
IsWrite s first n (w.Reg r v) = (r < s.regs) × IsAmong first n v
IsWrite s first n (w.Mem m enable word value mask) =
    (m < s.mems) × IsAmong first n enable × IsAmong first n word × IsAmong first n value × IsAmong first n mask

-- a list that may run on a bank of this shape
pub record IsList (s : Shape) (l : ListData) : Type 0 where
  pub cells : AreCells s l.first [] l.cells
  pub sets : AllByRecursion (IsWrite s l.first (length l.cells)) l.sets
  pub slots : l.first + length l.cells ≤ s.slots

-- a slot with a value of its width
pub record IsFit (x : Slot) : Type 0 where
  pub wide : 1 ≤ x.width
  pub narrow : x.width ≤ 128
  pub fits : x.value < 2 ^ x.width

-- two banks with as many registers, memories, words in each of them, and slots
pub record SameShape (a b : BankData) : Type 0 where
  pub regs : length a.regs ≡ length b.regs
  pub mems : map (λ (m : List ℕ). length m) a.mems ≡ map (λ (m : List ℕ). length m) b.mems
  pub slots : length a.slots ≡ length b.slots
