-- Faults as the program walks for them.
use Rattle.std.specs.Prelude.{ℕ, Bool, true, false, ◌||◌, List, codes}
use Rattle.std.specs.Str.{bytes_eq}
use Rattle.vl_design.specs.Formats.{items_in}
use Rattle.elab_plain.specs.vl_flat.specs.Surface.{Ex, Text}

-- a bare string
abbrev pub is_text : Ex → Bool
is_text (Text at text) = true
is_text e = false

-- how many arguments the items of a format take; what is no string is none
abbrev pub taken_by : Ex → ℕ
taken_by (Text at text) = items_in text
taken_by e = 0

-- the task displays its arguments
abbrev pub is_display : List ℕ → Bool
is_display name = bytes_eq name (codes "$display") || bytes_eq name (codes "$write")
