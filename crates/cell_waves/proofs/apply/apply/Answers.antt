use Rattle.std.proofs.Common.{arith}
use Rattle.cell_waves.specs.Applying.{apply_writes}
use Rattle.cell_waves.proofs.Applying.{applies}
use Rattle.cell_waves.proofs.Listing.{same-long, written-step, written-all}
use Rattle.cell_waves.proofs.apply.apply.Goals as goal

pub loop-number-preserved : goal.loop-number-preserved
loop-number-preserved c =
    let stores = c.args.stores.now in
    let sites = c.args.sites.now in
    written-step (apply_writes c.args.here) stores sites c.loop-number.number c.args.sets.now.items c.loop-number.sets.items c.write.new.sets.items _ _ (same-long stores sites c.requires.same) c.loop-number-test.true
    c.loop-number.invariant c.in_ok-write.ensures

pub returns-clause-writes : goal.returns-clause-writes
returns-clause-writes c =
    let over = c.loop-number-test.false in
    written-all (apply_writes c.args.here) c.args.stores.now c.args.sites.now c.loop-number.number c.args.sets.now.items c.loop-number.sets.items (same-long c.args.stores.now c.args.sites.now c.requires.same) (omega (arith, over))
    c.loop-number.invariant

pub returns-clause-applies : goal.returns-clause-applies
returns-clause-applies c =
    let over = c.loop-number-test.false in
    applies c.args.here c.args.stores.now c.args.sites.now c.args.sets.now.items c.loop-number.sets.items c.requires.same
    (written-all (apply_writes c.args.here) c.args.stores.now c.args.sites.now c.loop-number.number c.args.sets.now.items c.loop-number.sets.items (same-long c.args.stores.now c.args.sites.now c.requires.same) (omega (arith, over))
    c.loop-number.invariant)
