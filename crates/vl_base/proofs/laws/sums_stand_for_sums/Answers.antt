use Rattle.std.proofs.Common.{◌<◌, ◌^◌}
use Rattle.vl_base.proofs.SumLaws.{sum-readings, difference-readings, product-readings}
use Rattle.vl_base.proofs.laws.sums_stand_for_sums.Goals as goal

pub returns-clause-sum : goal.returns-clause-sum
returns-clause-sum c =
    let small : c.args.b.value < 2 ^ c.args.a.width = rw c.requires c.args.b.fits in
    sum-readings c.args.signed c.args.a.width c.args.a.value c.args.b.value c.args.a.fits small

pub returns-clause-difference : goal.returns-clause-difference
returns-clause-difference c =
    let small : c.args.b.value < 2 ^ c.args.a.width = rw c.requires c.args.b.fits in
    difference-readings c.args.signed c.args.a.width c.args.a.value c.args.b.value c.args.a.fits small

pub returns-clause-product : goal.returns-clause-product
returns-clause-product c =
    let small : c.args.b.value < 2 ^ c.args.a.width = rw c.requires c.args.b.fits in
    product-readings c.args.signed c.args.a.width c.args.a.value c.args.b.value c.args.a.fits small
