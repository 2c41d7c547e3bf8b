-- The files of the demonstration (own).
use Rattle.std.specs.Prelude.{ℕ, zero, suc, List, ◌++◌, None, codes}
use Rattle.std.specs.Fmt.{decimal}
use Rattle.host_files.specs.fab_io.specs.Outside.{with_file, Files}
use Rattle.host_demo.specs.Texts.{source}

-- the source of tenant i is `ti.v`
abbrev pub name_of : ℕ → List ℕ
name_of i = codes "t" ++ decimal i ++ codes ".v"

-- the sources of tenants 1 to n, and no other file
abbrev pub files_of : ℕ → Files
files_of zero = λ _. None
files_of (suc n) = with_file (name_of (suc n)) (source (suc n)) (files_of n)
