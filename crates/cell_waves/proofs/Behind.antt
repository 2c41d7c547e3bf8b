-- What registers and memories hold behind writes of any kind.
use Rattle.std.proofs.Common.{◌≡◌, ℕ, zero, suc, List, [], ◌∷◌, length, map, get_or, refl, sym, ap, ◌∙◌}
use Rattle.std.specs.Prelude.{slice_index_or}
use Rattle.cell_emit.specs.cell_form.specs.declared.cell.Write.{Write}
use Rattle.cell_emit.specs.cell_form.specs.Data.{BankData}
use Rattle.cell_emit.specs.cell_form.specs.Cycle.{written}
use Rattle.cell_emit.specs.cell_form.proofs.Writing.{written-lengths}
use Rattle.cell_emit.specs.vl_base.proofs.Numbers.{length_at as length-at}

-- ---- memories

-- a memory has as many words
pub words-behind : (value : ℕ → ℕ) (sets : List Write) (b : BankData) (m : ℕ) → length (slice_index_or (written value sets b).mems m []) ≡ length (slice_index_or b.mems m [])
words-behind value sets b m =
    length-at (written value sets b).mems m ∙ ap (λ (ns : List ℕ). get_or ns m 0) (written-lengths value sets b) ∙ sym (length-at b.mems m)
