-- The blocks of a wave (IEEE 1364-2005, clause 11).
use Rattle.std.specs.Prelude.{◌≡◌, ℕ, ◌+◌, Bool, true, false, List, [], ◌∷◌, map, length}
use Rattle.std.specs.List.{list_any}
use Rattle.vl_design.specs.declared.design.Process.{Process}
use Rattle.vl_design.specs.declared.design.ProcKind.{ProcKind}
use Rattle.vl_design.specs.declared.design.ProcKind.TheVariants.{Init, Rise, Fall}
use Rattle.vl_design.specs.Syntax.{Stm, Flat}
use Rattle.vl_design.specs.Queue.{is_init, is_rise, is_fall}
use Rattle.vl_design.specs.Alone.{blocks}
use Rattle.vl_design.specs.Trees.{proc_of}
use Rattle.sub_nodes.specs.Nodes.{rising, Node, Apply}
use Rattle.sub_nodes.specs.Implements.{bodies}
use Rattle.sub_nodes.specs.Code.{wave_nodes, fall_nodes, updates}
use Rattle.sub_split.specs.declared.waves.Part.{Part}
use Rattle.sub_split.specs.Makes.{nodes_view}

-- a process of this kind belongs to a wave of that kind
abbrev pub is_of : ProcKind → ProcKind → Bool
is_of Init kind = is_init kind
is_of Rise kind = is_rise kind
is_of Fall kind = is_fall kind
is_of wave kind = false

-- the statements of a wave
abbrev pub statements_of : ProcKind → List Process → List Stm
statements_of wave processes = bodies (blocks (is_of wave) (map proc_of processes))

-- a block waits for the clock's fall
abbrev pub has_fall : List Process → Bool
has_fall processes = list_any (λ p. is_fall p.kind) processes

-- the updates of time zero and of a rise, and of a fall, where a block waits for it
abbrev pub update_nodes : (falls : Bool) → (rise fall : ℕ) → List Node
update_nodes false rise fall = Apply rise ∷ Apply rise ∷ []
update_nodes true rise fall = Apply rise ∷ Apply fall ∷ Apply rise ∷ []

-- the number of the first node of time zero's wave: its nodes stand behind all others in a design's table
abbrev pub first_early : Flat → ℕ
first_early d =
    let falls = blocks is_fall d.procs in
    let from = length (updates falls 0 0) in
    let up = wave_nodes from 1 (bodies (blocks is_rise d.procs)) rising in
    from + length up + length (fall_nodes (from + length up) falls)

-- these nodes are numbered from there on, and this one is the first that is done
pub record IsPart (from first : ℕ) (nodes : List Node) (p : Part) : Type 0 where
  pub numbered : p.nodes.from ≡ from
  pub begins : p.first ≡ first
  pub are : nodes_view p.nodes ≡ nodes
