-- The room of fabrics (own).
use Rattle.std.specs.Prelude.{◌≡◌, List, map}
use Rattle.host_text.specs.vl_design.specs.declared.capacity.Cost.{Cost}
use Rattle.host_text.specs.declared.statement.Capacity.{Capacity}
use Rattle.host_text.specs.declared.script.FabricLine.{FabricLine}
use Rattle.fab_rounds.specs.fab_bay.specs.declared.noted.Label.{Label}

-- what a line says of a fabric's room
abbrev pub room_of : Capacity → Cost
room_of c = record { regs = c.registers; cells = c.cells; mem = c.memory }

-- the fabrics have room as their lines say
abbrev pub HaveRoom : List FabricLine → List Label → Type 0
HaveRoom fabrics labels = map (λ l. l.capacity) labels ≡ map (λ f. room_of f.capacity) fabrics
