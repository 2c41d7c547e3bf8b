-- Where a bank has what a design's run is in: three registers, four for each signal by its number, and each memory by its number (own).
use Rattle.std.specs.Prelude.{ℕ, ◌+◌, ◌*◌, List, [], ◌∷◌}
use Rattle.vl_design.specs.declared.design.SigKind.{SigKind}
use Rattle.vl_design.specs.declared.design.SigKind.TheVariants.{Mem}
use Rattle.vl_design.specs.Syntax.{Row}

-- the state that is next; the answer of the system function called last, of 32 bits; the ticks begun, of 32 bits
abbrev pub state_register : ℕ
state_register = 0

abbrev pub answer_register : ℕ
answer_register = 1

abbrev pub ticks_register : ℕ
ticks_register = 2

-- of a variable: the value committed last, the value now (its work copy), and of the nonblocking updates that are pending the new
-- value and the mask of the bits that it replaces; those of a signal that combinational processes compute stay 0
abbrev pub value_register : ℕ → ℕ
value_register k = 4 * k + 3

abbrev pub work_register : ℕ → ℕ
work_register k = 4 * k + 4

abbrev pub update_register : ℕ → ℕ
update_register k = 4 * k + 5

abbrev pub mask_register : ℕ → ℕ
mask_register k = 4 * k + 6

-- so many registers there are, for n signals
abbrev pub register_count : ℕ → ℕ
register_count n = 4 * n + 3

-- where a signal is: in one of its registers, and a memory in the memory of its number
abbrev pub place : (ℕ → ℕ) → SigKind → ℕ → ℕ
place register Mem k = k
place register kind k = register k

-- of each signal from number k on
abbrev pub places_from : (ℕ → ℕ) → ℕ → List Row → List ℕ
places_from register k [] = []
places_from register k (r ∷ rs) = place register r.kind k ∷ places_from register (k + 1) rs

-- of each signal
abbrev pub places : (ℕ → ℕ) → List Row → List ℕ
places register rows = places_from register 0 rows
