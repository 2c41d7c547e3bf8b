use Rattle.fab_io.proofs.Files.{files_of-find}
use Rattle.fab_io.proofs.stored.bytes_named.Goals as goal

pub returns-in_err-file : goal.returns-in_err-file
returns-in_err-file c =
    rw (c.from_residual.ensures, files_of-find, ← c.in_err-file.ensures)

pub returns : goal.returns
returns c =
    rw (c.as_slice.ensures, files_of-find, ← c.in_ok-file.ensures)
