-- Costs that fit a fabric's room.
use Rattle.std.proofs.Common.{◌≡◌, ℕ, zero, suc, ◌<◌, ◌≤◌, Bool, true, false, List, [], ◌∷◌, length, get_or, refl, ap, ◌∙◌, arith}
use Rattle.std.specs.Prelude.{◌&&◌, nat_le}
use Rattle.std.proofs.lemmas.Bool.Decides.{nat_tests}
use Rattle.host_text.specs.vl_design.specs.Costs.{saturated, saturated_cost}
use Rattle.host_text.specs.vl_design.specs.Cost as d
use Rattle.host_text.specs.declared.statement.Capacity.{Capacity}
use Rattle.host_text.specs.declared.script.FabricLine.{FabricLine}
use Rattle.host_report.specs.fab_model.specs.Fabrics.{within}
use Rattle.fab_rounds.specs.fab_bay.specs.declared.noted.Label.{Label}
use Rattle.host_form.specs.Origins.{fits, has_room}
use Rattle.host_run.specs.Rooms.{room_of, HaveRoom}
use Rattle.host_text.specs.vl_design.proofs.Shared.{saturated_le}
use Rattle.host_text.specs.vl_base.proofs.Booleans.{and_three as three}

pub fits_within : (c : d.Cost) (room : Capacity) → fits c room ≡ true → within (saturated_cost c) (room_of room) ≡ true
fits_within c room e =
    three (nat_le c.regs room.registers) (nat_le c.cells room.cells) (nat_le c.mem room.memory) (nat_le (saturated c.regs) room.registers) (nat_le (saturated c.cells) room.cells) (nat_le (saturated c.mem) room.memory)
    (saturated_le c.regs room.registers) (saturated_le c.cells room.cells) (saturated_le c.mem room.memory) e

-- the label of a fabric that has room has it
pub has_place : (lines : List FabricLine) (labels : List Label) → HaveRoom lines labels → (c : d.Cost) (g : ℕ) → has_room lines c g ≡ true
    → (g < length labels) × ((x : Label) → within (saturated_cost c) (get_or labels g x).capacity ≡ true)
has_place [] labels e c g h = let w : ⊥ = cc in absurd w
has_place (f ∷ fs) [] e c g h = let w : ⊥ = cc in absurd w
has_place (f ∷ fs) (l ∷ ls) e c zero h =
    let k : l.capacity ≡ room_of f.capacity = cc in
    (omega arith, λ x. ap (within (saturated_cost c)) k ∙ fits_within c f.capacity h)
has_place (f ∷ fs) (l ∷ ls) e c (suc g) h =
    let k : HaveRoom fs ls = cc in
    let q = has_place fs ls k c g h in
    let n = q.0 in
    (omega (arith, n), q.1)
