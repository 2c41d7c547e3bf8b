-- Calls that take memory to be served (IEEE 1364-2005, clause 17; own).
use Rattle.std.specs.Prelude.{Bool, true, false, slice_get, Option, Some}
use Rattle.vl_design.specs.Syntax.{Task, Print, Save, ReadHex, Flat}
use Rattle.ten_form.specs.sub_nodes.specs.Code.{table_of}
use Rattle.ten_form.specs.sub_nodes.specs.Cycles.{Stage}
use Rattle.ten_form.specs.sub_nodes.specs.Nodes.{Node, Trap}

-- serving such a call takes memory: what is printed, a snapshot's name, a memory's words
abbrev pub takes_memory : Task → Bool
takes_memory (Print pieces newline) = true
takes_memory (Save name) = true
takes_memory (ReadHex name memory) = true
takes_memory task = false

-- the node is a call's, and serving this call takes memory
abbrev pub has_call_for_memory : Option Node → Bool
has_call_for_memory (Some (Trap task to)) = takes_memory task
has_call_for_memory other = false

-- a call is next in the run, and serving it takes memory
abbrev pub serving_takes_memory : Flat → Stage → Bool
serving_takes_memory d i = has_call_for_memory (slice_get (table_of d).nodes i.node)
