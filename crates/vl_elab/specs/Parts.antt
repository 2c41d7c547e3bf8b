-- Parts of the flat design, each by what it has.
use Rattle.std.specs.Prelude.{List, [], ⊤}
use Rattle.vl_design.specs.declared.design.Signal.{Signal}
use Rattle.vl_design.specs.declared.stop.Stop.{Stop}
use Rattle.vl_design.specs.Placed as p
use Rattle.elab_plain.specs.vl_flat.specs.Flat.{Part}
use Rattle.elab_plain.specs.vl_flat.specs.Items.{Item, Instantiates}

-- a part that begins no instance
abbrev pub part : List Signal → List p.Func → List p.Process → List Stop → Part
part signals funcs processes faults = record { signals = signals; funcs = funcs; processes = processes; faults = faults; begins = [] }

-- the item is no instance
abbrev pub IsNoInstance : Item → Type 0
IsNoInstance (Instantiates us) = ⊥
IsNoInstance item = ⊤
