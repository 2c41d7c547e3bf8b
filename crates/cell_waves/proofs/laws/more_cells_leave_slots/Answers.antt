use Rattle.cell_waves.specs.Reading.{IsRead}
use Rattle.cell_waves.proofs.Listing.{each-from}
use Rattle.cell_waves.proofs.Reading.{read-stays}
use Rattle.cell_waves.proofs.laws.more_cells_leave_slots.Goals as goal

pub returns : goal.returns
returns c = λ rows old new stores sites g h. each-from (IsRead rows old) (IsRead rows new) (λ x s k. read-stays rows old new x s g k) stores sites h
