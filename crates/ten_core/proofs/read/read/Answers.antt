use Rattle.std.proofs.Common.{List, sym, ◌∙◌, subst}
use Rattle.std.specs.List.{AllByRecursion}
use Rattle.vl_design.specs.Trees.{flat_of}
use Rattle.snap_form.specs.Spelling.{HasWidth, IsSnapshotOf}
use Rattle.snap_form.specs.declared.snapshot.SnapRow.{SnapRow}
use Rattle.ten_core.proofs.Keeping.{rows-wide}
use Rattle.ten_core.proofs.read.read.Goals as goal

pub from_bytes-requires : goal.from_bytes-requires
from_bytes-requires c =
    let rows = (flat_of c.args.design.now).rows in
    subst (AllByRecursion HasWidth) (sym (c.as_slice.ensures ∙ c.in-Ok.ensures)) (rows-wide rows c.requires.signals)

pub returns-in-Ok-from_bytes-clause-words : goal.returns-in-Ok-from_bytes-clause-words
returns-in-Ok-from_bytes-clause-words c =
    let d = flat_of c.args.design.now in
    let files = c.args.files.now in
    let s = c.in-Ok-from_bytes.field-0 in
    let same = c.as_slice.ensures ∙ c.in-Ok.ensures in
    c.what_is_read_fits.ensures.words d files s c.requires (subst (λ (rows : List SnapRow). IsSnapshotOf rows files s) same c.in-Ok-from_bytes.ensures.found.0)

pub returns-in-Ok-from_bytes-clause-table : goal.returns-in-Ok-from_bytes-clause-table
returns-in-Ok-from_bytes-clause-table c =
    let d = flat_of c.args.design.now in
    let files = c.args.files.now in
    let s = c.in-Ok-from_bytes.field-0 in
    let same = c.as_slice.ensures ∙ c.in-Ok.ensures in
    c.what_is_read_fits.ensures.table d files s (subst (λ (rows : List SnapRow). IsSnapshotOf rows files s) same c.in-Ok-from_bytes.ensures.found.0)
