-- Worked rows: lists of cells, and what the definitions make of them, computed by the prover.
use Rattle.std.proofs.Common.{◌≡◌, ℕ, ◌-◌, ◌^◌, true, false, List, [], ◌∷◌, refl}
use Rattle.std.specs.Prelude.{ℤ, pos, negsuc}
use Rattle.vl_base.specs.declared.bits.UnOp.TheVariants as u
use Rattle.vl_base.specs.declared.bits.BinOp.TheVariants as b
use Rattle.cell_form.specs.declared.cell.CellOp.{CellOp}
use Rattle.cell_form.specs.declared.cell.CellOp.TheVariants as o
use Rattle.cell_form.specs.declared.cell.Index.{Index}
use Rattle.cell_form.specs.declared.cell.Write.TheVariants as w
use Rattle.cell_form.specs.Data.{CellData}
use Rattle.cell_form.specs.Values.{slots_of}
use Rattle.cell_form.specs.Cycle.{values_of, cycled}

abbrev cell_at : ℤ → CellOp → List ℕ → ℕ → CellData
cell_at low op args w = record { op = op; args = args; width = w; low = low }

abbrev cell : CellOp → List ℕ → ℕ → CellData
cell op args w = cell_at (pos 0) op args w

abbrev added : Index
added = record { signed = false; taken = false }

-- the slots of cells over registers and memories
abbrev slots : List ℕ → List (List ℕ) → List CellData → List ℕ
slots regs mems cells = values_of (slots_of 0 regs mems cells)

-- a is 15 and b is 1, both of 4 bits: (a + b) >> 1 into 4 bits
row-1 : slots (15 ∷ 1 ∷ []) []
    (cell (o.Reg 0) [] 4 ∷ cell (o.Reg 1) [] 4 ∷ cell (o.Bin b.Add false) (0 ∷ 1 ∷ []) 4 ∷ cell (o.Const 1) [] 32 ∷ cell (o.Bin b.Shr false) (2 ∷ 3 ∷ []) 4 ∷ [])
    ≡ 15 ∷ 1 ∷ 0 ∷ 1 ∷ 0 ∷ []
row-1 = refl

-- (a + b + 0) >> 1 into 4 bits, where the context has 32 bits
row-2 : slots (15 ∷ 1 ∷ []) []
    (cell (o.Reg 0) [] 4 ∷ cell (o.Resize false) (0 ∷ []) 32 ∷ cell (o.Reg 1) [] 4 ∷ cell (o.Resize false) (2 ∷ []) 32 ∷ cell (o.Bin b.Add false) (1 ∷ 3 ∷ []) 32 ∷ cell (o.Const 0) [] 32
    ∷ cell (o.Bin b.Add false) (4 ∷ 5 ∷ []) 32 ∷ cell (o.Const 1) [] 32 ∷ cell (o.Bin b.Shr false) (6 ∷ 7 ∷ []) 32 ∷ cell (o.Resize false) (8 ∷ []) 4 ∷ [])
    ≡ 15 ∷ 15 ∷ 1 ∷ 1 ∷ 16 ∷ 0 ∷ 16 ∷ 1 ∷ 8 ∷ 8 ∷ []
row-2 = refl

-- a + b into 5 bits
row-3 : slots (15 ∷ 1 ∷ []) []
    (cell (o.Reg 0) [] 4 ∷ cell (o.Resize false) (0 ∷ []) 5 ∷ cell (o.Reg 1) [] 4 ∷ cell (o.Resize false) (2 ∷ []) 5 ∷ cell (o.Bin b.Add false) (1 ∷ 3 ∷ []) 5 ∷ [])
    ≡ 15 ∷ 15 ∷ 1 ∷ 1 ∷ 16 ∷ []
row-3 = refl

-- -12 / 3 as signed numbers of 32 bits
row-4 : slots [] []
    (cell (o.Const 12) [] 32 ∷ cell (o.Un u.Neg) (0 ∷ []) 32 ∷ cell (o.Const 3) [] 32 ∷ cell (o.Bin b.Div true) (1 ∷ 2 ∷ []) 32 ∷ cell (o.Bin b.Div false) (1 ∷ 2 ∷ []) 32 ∷ [])
    ≡ 12 ∷ 0xffff_fff4 ∷ 3 ∷ 0xffff_fffc ∷ 1431655761 ∷ []
row-4 = refl

-- a <= b; b <= a
row-5 : cycled (record { first = 0; cells = cell (o.Reg 0) [] 8 ∷ cell (o.Reg 1) [] 8 ∷ []; sets = w.Reg 0 1 ∷ w.Reg 1 0 ∷ [] })
    (record { regs = 3 ∷ 7 ∷ []; mems = []; slots = 0 ∷ 0 ∷ [] })
    ≡ record { regs = 7 ∷ 3 ∷ []; mems = []; slots = 3 ∷ 7 ∷ [] }
row-5 = refl

-- q of 2 bits: q[0] <= 1; q <= 0; q[1] <= 1 into the registers of its update and its mask; then the update of q, which is register 0
row-6 : cycled
    (record {
      first = 0;
      cells = cell (o.Reg 1) [] 2 ∷ cell (o.Reg 2) [] 2 ∷ cell (o.Const 0) [] 9 ∷ cell (o.Const 1) [] 1
          ∷ cell (o.PlaceIn added) (0 ∷ 2 ∷ 3 ∷ []) 2 ∷ cell (o.PlaceIn added) (1 ∷ 2 ∷ 3 ∷ []) 2
          ∷ cell (o.Const 0) [] 2 ∷ cell (o.Const 3) [] 2 ∷ cell (o.PlaceIn added) (4 ∷ 2 ∷ 6 ∷ []) 2 ∷ cell (o.PlaceIn added) (5 ∷ 2 ∷ 7 ∷ []) 2
          ∷ cell_at (pos 1) (o.PlaceIn added) (8 ∷ 2 ∷ 3 ∷ []) 2 ∷ cell_at (pos 1) (o.PlaceIn added) (9 ∷ 2 ∷ 3 ∷ []) 2 ∷ [];
      sets = w.Reg 1 10 ∷ w.Reg 2 11 ∷ [];
    })
    (record { regs = 1 ∷ 0 ∷ 0 ∷ []; mems = []; slots = 0 ∷ 0 ∷ 0 ∷ 0 ∷ 0 ∷ 0 ∷ 0 ∷ 0 ∷ 0 ∷ 0 ∷ 0 ∷ 0 ∷ 9 ∷ [] })
    ≡ record { regs = 1 ∷ 2 ∷ 3 ∷ []; mems = []; slots = 0 ∷ 0 ∷ 0 ∷ 1 ∷ 1 ∷ 1 ∷ 0 ∷ 3 ∷ 0 ∷ 3 ∷ 2 ∷ 3 ∷ 9 ∷ [] }
row-6 = refl

row-7 : slots (1 ∷ 2 ∷ 3 ∷ []) []
    (cell (o.Reg 0) [] 2 ∷ cell (o.Reg 1) [] 2 ∷ cell (o.Reg 2) [] 2 ∷ cell (o.Bin b.Xor false) (0 ∷ 1 ∷ []) 2 ∷ cell (o.Bin b.And false) (3 ∷ 2 ∷ []) 2 ∷ cell (o.Bin b.Xor false) (0 ∷ 4 ∷ []) 2 ∷ [])
    ≡ 1 ∷ 2 ∷ 3 ∷ 3 ∷ 3 ∷ 2 ∷ []
row-7 = refl

-- a place that is 256 is outside each value
row-8 : slots (5 ∷ []) [] (cell (o.Reg 0) [] 8 ∷ cell (o.Const 256) [] 9 ∷ cell (o.Const 3) [] 2 ∷ cell (o.PlaceIn added) (0 ∷ 1 ∷ 2 ∷ []) 8 ∷ []) ≡ 5 ∷ 256 ∷ 3 ∷ 5 ∷ []
row-8 = refl

-- bit 2 of a vector [0:7] that is 0x20, and bit -1 of one [6:-1], signed, that is 1
row-9 : slots [] [] (cell (o.Const 0x20) [] 8 ∷ cell (o.Const 2) [] 3 ∷ cell_at (pos 7) (o.Pick (record { signed = false; taken = true })) (0 ∷ 1 ∷ []) 1 ∷ []) ≡ 0x20 ∷ 2 ∷ 1 ∷ []
row-9 = refl

row-10 : slots [] [] (cell (o.Const 1) [] 8 ∷ cell (o.Const 7) [] 3 ∷ cell_at (pos 1) (o.Pick (record { signed = true; taken = false })) (0 ∷ 1 ∷ []) 1 ∷ []) ≡ 1 ∷ 7 ∷ 1 ∷ []
row-10 = refl

-- an unsigned index of 128 bits with its top bit set is out of range
row-11 : slots [] [] (cell (o.Const 1) [] 8 ∷ cell (o.Const (2 ^ 128 - 1)) [] 128 ∷ cell_at (pos 1) (o.Pick added) (0 ∷ 1 ∷ []) 1 ∷ []) ≡ 1 ∷ (2 ^ 128 - 1) ∷ 0 ∷ []
row-11 = refl

-- words of a memory [-2:0]: at -2, 0 and 1
row-12 : slots [] ((10 ∷ 11 ∷ 12 ∷ []) ∷ [])
    (cell (o.Const 6) [] 3 ∷ cell_at (negsuc 1) (o.MemRead 0 true) (0 ∷ []) 8 ∷ cell (o.Const 0) [] 3 ∷ cell_at (negsuc 1) (o.MemRead 0 true) (2 ∷ []) 8 ∷ cell (o.Const 1) [] 3
    ∷ cell_at (negsuc 1) (o.MemRead 0 true) (4 ∷ []) 8 ∷ cell_at (negsuc 1) (o.MemRead 0 false) (0 ∷ []) 8 ∷ [])
    ≡ 6 ∷ 10 ∷ 0 ∷ 12 ∷ 1 ∷ 0 ∷ 0 ∷ []
row-12 = refl

-- two writes to one word: each replaces the bits of its mask, and the later one stands
row-13 : cycled
    (record {
      first = 0;
      cells = cell (o.Const 1) [] 1 ∷ cell (o.Const 1) [] 32 ∷ cell (o.Const 0xab) [] 8 ∷ cell (o.Const 0x0f) [] 8 ∷ cell (o.Const 0x6c) [] 8 ∷ cell (o.Const 0x3c) [] 8 ∷ [];
      sets = w.Mem 0 0 1 2 3 ∷ w.Mem 0 0 1 4 5 ∷ [];
    })
    (record { regs = []; mems = (0x11 ∷ 0xd2 ∷ []) ∷ []; slots = 0 ∷ 0 ∷ 0 ∷ 0 ∷ 0 ∷ 0 ∷ [] })
    ≡ record { regs = []; mems = (0x11 ∷ 0xef ∷ []) ∷ []; slots = 1 ∷ 1 ∷ 0xab ∷ 0x0f ∷ 0x6c ∷ 0x3c ∷ [] }
row-13 = refl
