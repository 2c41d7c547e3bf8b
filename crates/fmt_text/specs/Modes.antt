-- Where a format is read, byte by byte (IEEE 1364-2005, clause 17.1.1).
use Rattle.std.specs.Prelude.{ℕ, if◌then◌else◌, ◌==◌}
use Rattle.vl_design.specs.Formats.{FormatPosition, InText, Percent, PercentZero}
use Rattle.fmt_text.specs.declared.format.Mode.{Mode}
use Rattle.fmt_text.specs.declared.format.Mode.TheVariants as m

-- where a format is read
abbrev pub reading_of : Mode → FormatPosition
reading_of m.InText = InText
reading_of m.Percent = Percent
reading_of m.PercentZero = PercentZero

-- where a format is read on behind a byte
abbrev pub position_after : FormatPosition → ℕ → FormatPosition
position_after InText c = if c == 37 then Percent else InText
position_after Percent c = if c == 48 then PercentZero else InText
position_after PercentZero c = InText
