-- Formats as they are read byte by byte (IEEE 1364-2005, clause 17.1.1).
use Rattle.std.specs.Prelude.{ℕ, Bool, true, false, ◌||◌, ◌==◌}
use Rattle.vl_base.specs.Display.{lower_case}
use Rattle.vl_design.specs.Formats.{FormatPosition}
use Rattle.vl_design.specs.Formats as r
use Rattle.vl_design.specs.declared.formats.Mode.{Mode}
use Rattle.vl_design.specs.declared.formats.Mode.TheVariants as m

-- where a format is read
abbrev pub reading_of : Mode → FormatPosition
reading_of m.InText = r.InText
reading_of m.Percent = r.Percent
reading_of m.PercentZero = r.PercentZero

abbrev pub one_if : Bool → ℕ
one_if true = 1
one_if false = 0

-- an item of this letter takes no argument: `%` or `m`
abbrev pub shows_none : ℕ → Bool
shows_none c = (c == 37) || (lower_case c == 109)
