use Rattle.std.proofs.Common.{sym, subst}
use Rattle.ten_core.specs.cell_form.specs.Sound.{shape_of}
use Rattle.ten_core.specs.cell_form.specs.Views.{bank_of, table_of}
use Rattle.ten_core.specs.declared.origin.Origin.{Origin}
use Rattle.fab_join.specs.Parts.{IsTable}
use Rattle.fab_core.proofs.Tables.{table_may_run}
use Rattle.fab_core.proofs.rebuild.add_part.Goals as goal

pub add-requires : goal.add-requires
add-requires c =
    let t = c.args.tenant.now in
    subst (λ (o : Origin). IsTable (shape_of (bank_of t.bank)) (table_of o.image.table)) (sym c.deref.ensures)
    (table_may_run t.shell (bank_of t.bank) c.requires.at.acts c.requires.at.stage c.requires.point.stands)
