-- What it means that a core with its history stands for a fabric (own).
use Rattle.std.specs.Prelude.{◌≡◌, ℕ, ◌+◌, ◌≤◌, false, [], length, vec_len, vec_capacity}
use Rattle.fab_core.specs.fab_model.specs.Fabrics.{Fabric}
use Rattle.fab_core.specs.Standing.{IsFabric}
use Rattle.fab_core.specs.fab_model.specs.Histories.{replay, AreLinesByFirst, IsLegal}
use Rattle.fab_bay.specs.declared.noted.NotedCore.{NotedCore}
use Rattle.fab_bay.specs.Berths.{seats, AreBerths, AreSettled, AreWaiters}

-- the core stands for the fabric, its history is legal, and residents and line are the history's replay, by the ticks of the last notes
pub record IsNoted (x : NotedCore) (f : Fabric) : Type 0 where
  pub core : IsFabric x.core f
  pub capacity : f.capacity ≡ x.label.capacity
  pub residents : AreBerths x.label.tenants x.berths.items f.residents
  pub line : AreWaiters x.label.tenants x.waiting.items f.line
  pub legal : IsLegal x.label.fabric x.label.capacity x.notes.items
  pub replayed : replay [] x.notes.items ≡ seats x.berths.items x.waiting.items
  pub lines : x.label.any_puts ≡ false → AreLinesByFirst x.notes.items

-- between calls each tick is noted too
pub record IsBay (x : NotedCore) : Type 0 where
  pub fabric : Fabric
  pub noted : IsNoted x fabric
  pub settled : AreSettled x.berths.items fabric.residents

-- so many notes can be written without memory
pub record HasRoomFor (n : ℕ) (x : NotedCore) : Type 0 where
  pub notes : vec_len x.notes + n ≤ vec_capacity x.notes
  pub told : vec_len x.told + n ≤ vec_capacity x.told

-- one for each resident
abbrev pub CanSettle : NotedCore → Type 0
CanSettle x = HasRoomFor (length x.berths.items) x

-- all that contracts know of them is the same, but how much room there is
pub record IsSame (x y : NotedCore) : Type 0 where
  pub label : y.label ≡ x.label
  pub core : y.core ≡ x.core
  pub berths : y.berths ≡ x.berths
  pub waiting : y.waiting ≡ x.waiting
  pub notes : y.notes.items ≡ x.notes.items
  pub told : y.told.items ≡ x.told.items
