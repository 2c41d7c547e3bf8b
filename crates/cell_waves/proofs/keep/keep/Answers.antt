use Rattle.std.proofs.Common.{arith}
use Rattle.cell_waves.specs.Keeping.{keep_writes}
use Rattle.cell_waves.proofs.Keeping.{keeps}
use Rattle.cell_waves.proofs.Listing.{same-long, written-step, written-all}
use Rattle.cell_waves.proofs.keep.keep.Goals as goal

pub loop-number-preserved : goal.loop-number-preserved
loop-number-preserved c =
    let stores = c.args.stores.now in
    let sites = c.args.sites.now in
    written-step keep_writes stores sites c.loop-number.number c.args.sets.now.items c.loop-number.sets.items c.keep_one.new.sets.items _ _ (same-long stores sites c.requires.same) c.loop-number-test.true
    c.loop-number.invariant c.in_ok-keep_one.ensures

pub returns : goal.returns
returns c =
    let stores = c.args.stores.now in
    let sites = c.args.sites.now in
    let over = c.loop-number-test.false in
    keeps stores sites c.args.sets.now.items c.loop-number.sets.items c.requires.same
    (written-all keep_writes stores sites c.loop-number.number c.args.sets.now.items c.loop-number.sets.items (same-long stores sites c.requires.same) (omega (arith, over)) c.loop-number.invariant)
