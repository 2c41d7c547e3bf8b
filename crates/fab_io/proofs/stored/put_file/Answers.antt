use Rattle.fab_io.proofs.Files.{files_of-replaced, files_of-added}
use Rattle.fab_io.proofs.stored.put_file.Goals as goal

pub returns-in-Some-clause-ok : goal.returns-in-Some-clause-ok
returns-in-Some-clause-ok c =
    rw (← c.in_ok-bytes.ensures.items) (files_of-replaced _ _ _ _ _ _ (rw c.as_slice.ensures.value at c.in-Some.ensures) c.index_mut-file.ensures.value c.replace.ensures)

pub returns-in_ok-push-in-None-clause-ok : goal.returns-in_ok-push-in-None-clause-ok
returns-in_ok-push-in-None-clause-ok c =
    rw c.in_ok-push-in-None.ensures.items
    (files_of-added _ _ _ _ (rw c.as_slice.ensures.value at c.in-None.ensures) c.in_ok-name-in-None.ensures.ok c.in_ok-bytes.ensures.items)
