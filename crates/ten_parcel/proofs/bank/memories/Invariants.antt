use Rattle.std.proofs.Common.{◌≡◌, ◌++◌, map, drop}
use Rattle.vl_eval.specs.vl_design.specs.Trees.{row_of}
use Rattle.ten_parcel.specs.Lists as b
use Rattle.ten_parcel.proofs.bank.memories.Given as goal

-- the memories of the signals that are left stand behind those so far
abbrev pub invariant-loop-number : goal.invariant-loop-number
invariant-loop-number l =
    map (λ m. m.items) l.all.items ++ b.memories (map row_of (drop l.number l.signals)) (drop l.number l.values) ≡ b.memories (map row_of l.signals) l.values
