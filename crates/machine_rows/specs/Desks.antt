-- Seats at a desk.
use Rattle.std.specs.Prelude.{◌≡◌, false, None, ⊤}
use Rattle.fab_model.specs.fab_lock.specs.Facts.{IsSeatOf, LockFacts, SeatFacts}
use Rattle.fab_model.specs.ten_parcel.specs.Parcels.{IsParcel}
use Rattle.fab_desk.specs.fab_bay.specs.declared.leaving.Found.{Found}
use Rattle.fab_desk.specs.fab_bay.specs.declared.leaving.Found.TheVariants.{Here, Absent, Short}
use Rattle.fab_desk.specs.fab_bay.specs.declared.noted.Label.{Label}
use Rattle.fab_model.specs.declared.note.Note.{Note}
use Rattle.machine_rows.specs.declared.fabrics.desks.Wanted.{Wanted}

-- the seat is one of this desk, which is as wanted; where only the first seat may put, it is that
pub record IsAt (wanted : Wanted) (desk : LockFacts Label) (seat : SeatFacts Label Note) : Type 0 where
  pub tied : IsSeatOf desk seat
  pub tenants : desk.label.tenants ≡ wanted.tenants
  pub any : desk.label.any_puts ≡ wanted.any_puts
  pub origins : desk.label.origins ≡ None
  pub first : wanted.any_puts ≡ false → seat.view.low ≡ 0

-- who came out is at rest
abbrev pub IsOut : Found → Type 0
IsOut (Here out) = IsParcel out.parcel
IsOut Absent = ⊤
IsOut Short = ⊤
