use Rattle.std.proofs.Common.{◌<◌, ◌^◌}
use Rattle.vl_base.proofs.SumLaws.{quotient-and-remainder, remainder-less, remainder-not-below, remainder-not-above}
use Rattle.vl_base.proofs.laws.quotient_and_remainder.Goals as goal

pub returns-clause-whole : goal.returns-clause-whole
returns-clause-whole c =
    let small : c.args.b.value < 2 ^ c.args.a.width = rw c.requires.same c.args.b.fits in
    quotient-and-remainder c.args.signed c.args.a.width c.args.a.value c.args.b.value c.args.a.fits small c.requires.nonzero

pub returns-clause-less : goal.returns-clause-less
returns-clause-less c =
    let small : c.args.b.value < 2 ^ c.args.a.width = rw c.requires.same c.args.b.fits in
    remainder-less c.args.signed c.args.a.width c.args.a.value c.args.b.value c.args.a.fits small c.requires.nonzero

pub returns-clause-not_below : goal.returns-clause-not_below
returns-clause-not_below c =
    let small : c.args.b.value < 2 ^ c.args.a.width = rw c.requires.same c.args.b.fits in
    remainder-not-below c.args.signed c.args.a.width c.args.a.value c.args.b.value c.args.a.fits small c.requires.nonzero

pub returns-clause-not_above : goal.returns-clause-not_above
returns-clause-not_above c =
    let small : c.args.b.value < 2 ^ c.args.a.width = rw c.requires.same c.args.b.fits in
    remainder-not-above c.args.signed c.args.a.width c.args.a.value c.args.b.value c.args.a.fits small c.requires.nonzero
