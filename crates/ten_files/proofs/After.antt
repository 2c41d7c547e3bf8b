-- Rows behind reads.
use Rattle.std.proofs.Common.{◌≡◌, ◌+◌, ap, refl, ℕ, Bool, true, false, List, [], ◌∷◌, length, take, arith}
use Rattle.std.specs.Prelude.{◌||◌}
use Rattle.vl_base.specs.declared.files.File.{File}
use Rattle.vl_base.specs.declared.files.OpenFile.{OpenFile}
use Rattle.vl_base.specs.Files.{character_read, with_row}
use Rattle.ten_files.specs.declared.row.Row.{Row}
use Rattle.ten_files.specs.Tables.{open_row, row_after}

or-true : (b : Bool) → b || true ≡ true
or-true true = refl
or-true false = refl

or-false : (b : Bool) → b || false ≡ b
or-false true = refl
or-false false = refl

after-none : (row : Row) → row_after row 0 1 ≡ record row { ended = true }
after-none row =
    let place : row.place + 0 ≡ row.place = omega arith in
    let ended = or-true row.ended in
    rw (place, ended) refl

after-one : (row : Row) → row_after row 1 1 ≡ record row { place = row.place + 1 }
after-one row = let ended = or-false row.ended in rw ended refl

-- a byte is read where there is one
pub character-after : (files : List File) (slot : ℕ) (row : Row) (table : List OpenFile) (left : List ℕ)
    → with_row (open_row files slot (row_after row (length (take 1 left)) 1)) table ≡ (character_read table (open_row files slot row) left).table
character-after files slot row table [] = ap (λ r. with_row (open_row files slot r) table) (after-none row)
character-after files slot row table (b ∷ bs) = ap (λ r. with_row (open_row files slot r) table) (after-one row)
