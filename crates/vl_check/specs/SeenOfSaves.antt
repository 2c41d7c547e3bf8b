-- What the program's calls stand for.
use Rattle.std.specs.Prelude.{◌≡◌, ◌≤◌, ◌⊎◌, List, length}
use Rattle.vl_check.specs.declared.calls.Save.{Save as Call}
use Rattle.vl_check.specs.Saves.{Save}

abbrev pub save_of : Call → Save
save_of c = record { at = c.place; name = c.name.now }

-- these are all, or 17 of 17 or more
abbrev pub Tells : List Save → List Save → Type 0
Tells some all = ((some ≡ all) × (length some ≤ 16)) ⊎ ((length some ≡ 17) × (17 ≤ length all))
