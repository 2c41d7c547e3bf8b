use Rattle.std.proofs.Common.{map, arith}
use Rattle.ten_form.specs.vl_design.specs.Trees.{row_of}
use Rattle.cell_emit.specs.cell_form.specs.Views.{list_of}
use Rattle.cell_waves.proofs.Reading.{reads-step, reads-all, reads-memories}
use Rattle.cell_waves.proofs.read.read.Goals as goal

pub loop-store-preserved : goal.loop-store-preserved
loop-store-preserved c =
    reads-step (map row_of c.args.signals.now) c.args.stores.now c.loop-store.store-index _ c.in_ok-site.site (list_of c.args.cells.now) (list_of c.loop-store.cells) (list_of c.read_one.new.cells) c.args.sites.now.items
    c.loop-store.sites.items _ c.loop-store-test.true c.loop-store.invariant c.in_ok-site.ensures.read c.in_ok-site.ensures.longer c.in_ok-push.ensures.items

pub returns-clause-reads : goal.returns-clause-reads
returns-clause-reads c =
    let over = c.loop-store-test.false in
    reads-all (map row_of c.args.signals.now) c.args.stores.now c.loop-store.store-index (list_of c.args.cells.now) (list_of c.loop-store.cells) c.args.sites.now.items c.loop-store.sites.items (omega (arith, over)) c.loop-store.invariant

pub returns-clause-memories : goal.returns-clause-memories
returns-clause-memories c = reads-memories (map row_of c.args.signals.now) c.args.stores.now (list_of c.args.cells.now) (list_of c.loop-store.cells) c.args.sites.now.items c.loop-store.sites.items (returns-clause-reads c)
