use Rattle.std.proofs.Common.{◌≡◌, ◌∷◌, ◌++◌, map, drop}
use Rattle.vl_eval.specs.vl_design.specs.Trees.{row_of}
use Rattle.ten_parcel.specs.Lists as b
use Rattle.ten_parcel.proofs.bank.registers.Given as goal

-- the registers of the signals that are left stand behind those so far
abbrev pub invariant-loop-number : goal.invariant-loop-number
invariant-loop-number l =
    l.regs.items ++ b.registers (map row_of (drop l.number l.signals)) (drop l.number l.m.values.items)
    ≡ l.first ∷ l.m.answer ∷ l.m.ticks ∷ b.registers (map row_of l.signals) l.m.values.items
