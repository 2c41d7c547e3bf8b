-- What the demonstration says of its tenants (own).
use Rattle.std.specs.Prelude.{ℕ, List, ◌++◌, length, sum, flat_map, codes}
use Rattle.host_text.specs.declared.block.RunBlock.{RunBlock}
use Rattle.host_text.specs.declared.block.Block.{Block}
use Rattle.host_text.specs.declared.block.Block.TheVariants.{Ran, Refused}
use Rattle.host_text.specs.Report.{number, refused_line, status_word}

-- `demo NAME STATUS TICKS CYCLES BYTES SUM`: the number of the printed bytes, and their sum
abbrev pub ran_line : RunBlock → List ℕ
ran_line a =
    codes "demo " ++ a.name ++ codes " " ++ status_word a.status ++ number a.ticks ++ number a.cycles ++ number (length a.printed) ++ number (sum a.printed)
    ++ codes "\n"

-- a tenant that ran has that line, a refused one that of the report
abbrev pub line : Block → List ℕ
line (Ran a) = ran_line a
line (Refused a) = refused_line a

-- a line for each tenant
abbrev pub summary : List Block → List ℕ
summary blocks = flat_map line blocks
