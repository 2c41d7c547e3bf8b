use Rattle.snap_form.proofs.Numbers.{fits-is}
use Rattle.snap_form.proofs.reading.fits.Goals as goal

pub returns-else-width-eq128 : goal.returns-else-width-eq128
returns-else-width-eq128 c = fits-is c.args.value c.args.width
