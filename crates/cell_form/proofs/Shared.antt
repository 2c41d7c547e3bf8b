-- Laws that several crates use.
use Rattle.std.proofs.Common.{List, ap, length, sym, ℕ, ◌-◌, ◌∙◌, ◌≡◌}
use Rattle.std.proofs.lemmas.List.{length-map}
use Rattle.std.specs.Int.Bits.{and_zero_r, xor_zero_r}
use Rattle.std.specs.Prelude.{bit_xor}
use Rattle.cell_form.proofs.Cycling.{same-shape}
use Rattle.cell_form.specs.Cycle.{cycled, masked}
use Rattle.cell_form.specs.Data.{BankData, ListData}
use Rattle.cell_form.specs.Sound.{IsList, shape_of}

-- a cycle leaves as many registers, memories and slots
pub list_shape : (b : BankData) (l : ListData) → IsList (shape_of b) l → shape_of (cycled l b) ≡ shape_of b
list_shape b l h =
    let e = same-shape l b h in
    let f : List ℕ → ℕ = λ m. length m in
    let m : length (cycled l b).mems ≡ length b.mems = sym (length-map (cycled l b).mems f) ∙ ap (λ (ns : List ℕ). length ns) e.mems ∙ length-map b.mems f in
    ap (λ (n : ℕ). record { regs = n; mems = length (cycled l b).mems; slots = length (cycled l b).slots }) e.regs
    ∙ ap (λ (n : ℕ). record { regs = length b.regs; mems = n; slots = length (cycled l b).slots }) m
    ∙ ap (λ (n : ℕ). record { regs = length b.regs; mems = length b.mems; slots = n }) e.slots

-- no bit of the mask is set
pub masked-none : (v u : ℕ) → masked v u 0 ≡ v
masked-none v u = ap (bit_xor v) (and_zero_r (bit_xor v u)) ∙ xor_zero_r v
