-- The reads that failed, as they are noted (own).
use Rattle.std.specs.Prelude.{ℕ, List, [], ◌∷◌, ◌++◌}
use Rattle.fab_io.specs.declared.misses.Name.{Name, Empty, Byte'}
use Rattle.fab_io.specs.declared.misses.Noted.{Noted, Nothing, Read'}
use Rattle.fab_io.specs.Outside.{Miss}

-- the bytes of a name
abbrev pub bytes_of : Name → List ℕ
bytes_of Empty = []
bytes_of (Byte' _ before byte) = bytes_of before ++ byte ∷ []

-- the reads, in order
abbrev pub reads_of : Noted → List Miss
reads_of Nothing = []
reads_of (Read' _ before name why) = reads_of before ++ record { path = bytes_of name.value; why = why } ∷ []
