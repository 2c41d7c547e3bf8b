-- Signals: their widths, and the words of a memory (IEEE 1364-2005, clauses 4.3 and 4.9).
use Rattle.std.specs.Prelude.{ℕ, ◌+◌, nat_le, ℤ, ◌-ℤ◌, int_le, Bool, ◌&&◌, if◌then◌else◌}
use Rattle.std.specs.Int.RustNames.{unsigned_abs}
use Rattle.vl_design.specs.declared.design.SigKind.{SigKind}
use Rattle.vl_design.specs.declared.design.SigKind.TheVariants.{Mem}
use Rattle.vl_design.specs.declared.design.Signal.{Signal}
use Rattle.vl_design.specs.Syntax.{Row}

-- how many bits, or words, stand from one number to another, both included (clauses 4.3 and 4.9)
abbrev pub range_width : ℤ → ℤ → ℕ
range_width left right = unsigned_abs (left -ℤ right) + 1

-- from 1 to 128 bits
abbrev pub has_width : ℕ → Bool
has_width w = nat_le 1 w && nat_le w 128

abbrev pub lower_of : ℤ → ℤ → ℤ
lower_of a b = if int_le a b then a else b

-- how many words a signal of a kind has
abbrev pub word_count : SigKind → ℤ → ℤ → ℕ
word_count Mem first last = range_width first last
word_count kind first last = 1

abbrev pub row_of : Signal → Row
row_of x = record {
  name = x.name;
  width = range_width x.left x.right;
  signed = x.signed;
  kind = x.kind;
  words = word_count x.kind x.first x.last;
  lowest = lower_of x.first x.last;
}
