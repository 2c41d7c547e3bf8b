-- Words and addresses of a text, one by one (IEEE 1364-2005, clause 17.2.9).
use Rattle.std.specs.Prelude.{ℕ, nat_lt, ◌&&◌, if◌then◌else◌, List, Option, Some, None, ℤ, pos, ◌-ℤ◌, int_le}
use Rattle.std.specs.Int.RustNames.{unsigned_abs}
use Rattle.vl_design.specs.ReadHex.{Step, loaded}

-- the word of an address in a memory of so many words from a lowest address on; none where it isn't there
abbrev pub place_at : ℤ → ℕ → ℕ → Option ℕ
place_at lowest n a =
    let z = pos a -ℤ lowest in
    if int_le (pos 0) z && nat_lt (unsigned_abs z) n then Some (unsigned_abs z) else None

-- the words after further steps from a word on; those that are there where the text has ended
abbrev pub loaded_from : ℕ → ℤ → ℕ → Option ℕ → List Step → List ℕ → List ℕ
loaded_from w lowest n None more words = words
loaded_from w lowest n (Some i) more words = loaded w lowest n i more words
