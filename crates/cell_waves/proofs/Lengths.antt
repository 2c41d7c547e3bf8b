-- How many cells a list has with more behind.
use Rattle.std.proofs.Common.{ℕ, ◌+◌, ◌≤◌, length, length-append, ap, arith}
use Rattle.cell_emit.specs.cell_form.specs.Data.{ListData}
use Rattle.cell_emit.specs.cell_form.specs.Sound.{Shape}
use Rattle.cell_emit.specs.Slots.{Longer}

pub longer-few : (H : Shape → Type 0) (n : ℕ) (old new : ListData) → Longer H n old new → length new.cells ≤ length old.cells + n
longer-few H n old new h =
    let e = ap (λ (l : ListData). length l.cells) h.is in
    let s = length-append old.cells h.more in
    let f = h.few in
    omega (arith, e, s, f)
