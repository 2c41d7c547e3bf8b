-- What rounds of a turn do (own).
use Rattle.std.specs.Prelude.{◌≡◌, ℕ, ◌+◌, ◌≤◌, ◌⊎◌, ◌||◌, Bool, true, false, List, [], ◌∷◌, is_some, None, Some}
use Rattle.fab_core.specs.ten_shell.specs.declared.shell.Why.{Why}
use Rattle.fab_core.specs.fab_model.specs.Points.{due, Point}
use Rattle.fab_core.specs.fab_model.specs.Fabrics.{first_leaving, first_of, head_fits, may_cycle, Fabric}
use Rattle.fab_core.specs.fab_model.specs.Worlds.{is_at_rest}
use Rattle.fab_core.specs.fab_model.specs.declared.transit.Transit.{Transit}
use Rattle.fab_core.specs.ten_parcel.specs.Parcels.{number_of}
use Rattle.fab_bay.specs.declared.leaving.Found.{Found}
use Rattle.fab_bay.specs.declared.leaving.Found.TheVariants.{Here, Absent, Short}
use Rattle.fab_bay.specs.declared.noted.NotedCore.{NotedCore}
use Rattle.fab_bay.specs.Acts.{rests_to_come}
use Rattle.fab_bay.specs.Nearness.{CameWithin}
use Rattle.fab_bay.specs.Standing.{CanSettle, IsNoted}
use Rattle.fab_bay.specs.Taking.{IsWithdrawn, KeepsFlag}
use Rattle.fab_bay.specs.Ways.{Goes, IsEmpty}

-- a core in a call: it stands for some fabric, and each resident's run can be written
pub record IsReady (x : NotedCore) : Type 0 where
  pub fabric : Fabric
  pub noted : IsNoted x fabric
  pub room : CanSettle x

-- where the fabric doesn't hold, no resident is due to leave and the head of the line doesn't fit
abbrev pub IsSettled : NotedCore → Type 0
IsSettled x = (f : Fabric) → IsNoted x f → f.holding ≡ false → (first_leaving f.residents ≡ None) × (head_fits f ≡ false)

-- a resident is due to leave, or the head of the line fits
abbrev pub is_wanted : Fabric → Bool
is_wanted f = is_some (first_leaving f.residents) || head_fits f

-- it still stands for the same residents; and where it has come to hold, somebody is to join or to leave
pub record HasHeld (x y : NotedCore) (f : Fabric) : Type 0 where
  pub fabric : Fabric
  pub noted : IsNoted y fabric
  pub residents : fabric.residents ≡ f.residents
  pub rests : (rests_to_come y ≡ rests_to_come x) ⊎ ((is_wanted fabric ≡ true) × (rests_to_come y ≡ rests_to_come x + 1))

-- some resident may do a cycle
abbrev pub HasStepper : NotedCore → Type 0
HasStepper x = (f : Fabric) × IsNoted x f × (may_cycle f ≡ true)

-- all residents rest, and the fabric holds
abbrev pub IsAtRest : NotedCore → Type 0
IsAtRest x = (f : Fabric) → IsNoted x f → is_at_rest f ≡ true

-- the resident of this number is due to leave
abbrev pub IsDue : ℕ → NotedCore → Type 0
IsDue tenant x = (f : Fabric) → IsNoted x f → (p : Point) × (why : Why) × (first_of tenant f.residents ≡ Some p) × (due p ≡ Some why)

-- there are neither residents nor tenants in line
abbrev pub IsVacant : NotedCore → Type 0
IsVacant x = (x.berths.items ≡ []) × (x.waiting.items ≡ [])

-- rounds with at most so many cycles: just so many, or nobody is left, unless memory ended them
pub record Rounds (number most : ℕ) (x y : NotedCore) (out out' : List Transit) (short : Bool) : Type 0 where
  pub cycles : ℕ
  pub goes : Goes number cycles x y out out'
  pub few : cycles ≤ most
  pub all : short ≡ false → (cycles ≡ most) ⊎ IsEmpty y.notes.items

-- ---- taking a tenant out

-- the tenant is out, or memory ended the call
abbrev pub IsFoundReady : (number tenant : ℕ) (x y : NotedCore) → Found → Type 0
IsFoundReady number tenant x y (Here out) = (number_of out.parcel ≡ tenant) × (cycles : ℕ) × Goes number cycles x y [] (out ∷ []) × KeepsFlag x out × IsWithdrawn out × CameWithin x out
IsFoundReady number tenant x y Absent = ⊥
IsFoundReady number tenant x y Short = (cycles : ℕ) × Goes number cycles x y [] []
