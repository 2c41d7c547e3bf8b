-- The lines that the host prints in place of a report.
use Rattle.std.specs.Prelude.{ℕ, List, ◌++◌, codes}
use Rattle.std.specs.Fmt.{decimal}
use Rattle.host_form.specs.fab_io.specs.declared.store.ReadError.{ReadError}
use Rattle.host_form.specs.fab_io.specs.declared.store.ReadError.TheVariants as read

abbrev pub usage : List ℕ
usage = codes "usage: fabhost run SCRIPT | check SOURCE | demo N\n"

-- how a read failed, in a word
abbrev pub read_word : ReadError → List ℕ
read_word read.NotThere = codes "notthere"
read_word read.TooLong = codes "toolong"
read_word read.Failed = codes "failed"
read_word read.Memory = codes "memory"

-- `read PATH WORD`
abbrev pub unread : List ℕ → ReadError → List ℕ
unread path why = codes "read " ++ path ++ codes " " ++ read_word why ++ codes "\n"

-- `script LINE CAUSE`
abbrev pub fault : ℕ → ℕ → List ℕ
fault line cause = codes "script " ++ decimal line ++ codes " " ++ decimal cause ++ codes "\n"
