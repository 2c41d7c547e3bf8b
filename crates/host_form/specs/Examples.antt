-- Small scripts with their histories, for worked rows (own).
use Rattle.std.specs.Prelude.{ℕ, false, List, [], ◌∷◌, ◌++◌, Some, None, codes}
use Rattle.fab_lock.specs.declared.entry.Kind.{Kind}
use Rattle.fab_lock.specs.declared.entry.Kind.TheVariants.{Line, Came, Ran, Saved, Left}
use Rattle.host_text.specs.vl_design.specs.Alone.{Origin}
use Rattle.host_text.specs.vl_design.specs.Alone as alone
use Rattle.host_text.specs.vl_design.specs.declared.design.SigKind.TheVariants.{Var}
use Rattle.host_text.specs.vl_design.specs.Syntax.{Flat}
use Rattle.host_text.specs.vl_design.specs.Examples.{clock, row, counter, greets}
use Rattle.host_text.specs.ten_plan.specs.declared.plan.Due.TheVariants as due
use Rattle.host_text.specs.ten_plan.specs.declared.plan.Errand.{Errand}
use Rattle.host_text.specs.declared.script.FabricLine.{FabricLine}
use Rattle.host_text.specs.declared.script.Free.TheVariants as free
use Rattle.host_text.specs.declared.script.TenantLine.{TenantLine}
use Rattle.host_text.specs.declared.script.Script.{Script}
use Rattle.host_form.specs.Origins.{Accepted, Tenant}
use Rattle.host_form.specs.Histories.{Note, Histories}

abbrev pub large : List ℕ → FabricLine
large name = record { name = name; capacity = record { registers = 100000; cells = 100000; memory = 1000000 } }

abbrev pub small : List ℕ → FabricLine
small name = record { name = name; capacity = record { registers = 1; cells = 1; memory = 1 } }

-- a note of the tenant 0
abbrev pub note : Kind → ℕ → ℕ → Note
note kind from to = record { entry = record { seat = 0; kind = kind; tenant = 0; from = from; to = to }; origin = None }

-- the note by which the tenant 0 is put in line
abbrev pub line : Origin → ℕ → Note
line o tick = record { entry = record { seat = 0; kind = Line; tenant = 0; from = tick; to = tick }; origin = Some o }

-- a tenant is put in line, comes, runs some ticks, and leaves
abbrev pub stay : Origin → ℕ → ℕ → List Note
stay o from to = line o from ∷ note Came from from ∷ note Ran from to ∷ note Left to to ∷ []

-- ---- a counter on one fabric

abbrev pub lone_text : List ℕ
lone_text = codes "fabric F 100000 100000 1000000\ntenant A m.v F 3\n"

abbrev pub lone_line : TenantLine
lone_line = record { name = codes "A"; source = codes "m.v"; fabric = 0; budget = 3; files = []; resume = None; errands = [] }

abbrev pub lone_script : Script
lone_script = record { fabrics = large (codes "F") ∷ []; tenants = lone_line ∷ []; free = [] }

abbrev pub lone_origin : Origin
lone_origin = record { flat = counter; files = []; plan = record { budget = 3; errands = [] }; resume = None }

abbrev pub lone_histories : Histories
lone_histories = stay lone_origin 0 3 ∷ []

-- ---- a counter that moves twice, but not to the fabric that is too small

abbrev pub moving_text : List ℕ
moving_text =
    codes "fabric F1 100000 100000 1000000\nfabric F2 100000 100000 1000000\nfabric F3 1 1 1\n"
    ++ codes "tenant A m.v F1 4\nat A 1 move F2\nat A 2 move F1\nat A 3 move F3\nfree move A F3\nfree watch A\n"

abbrev pub move_at : ℕ → ℕ → Errand
move_at tick g = record { tick = tick; due = due.Move g }

abbrev pub moving_line : TenantLine
moving_line = record { name = codes "A"; source = codes "m.v"; fabric = 0; budget = 4; files = []; resume = None; errands = move_at 1 1 ∷ move_at 2 0 ∷ move_at 3 2 ∷ [] }

abbrev pub moving_script : Script
moving_script = record {
  fabrics = large (codes "F1") ∷ large (codes "F2") ∷ small (codes "F3") ∷ [];
  tenants = moving_line ∷ [];
  free = free.Move 0 2 ∷ free.Watch 0 ∷ [];
}

abbrev pub planned_move : ℕ → ℕ → alone.Errand
planned_move tick g = record { tick = tick; due = alone.Move g }

abbrev pub moving_origin : Origin
moving_origin = record { flat = counter; files = []; plan = record { budget = 4; errands = planned_move 1 1 ∷ planned_move 2 0 ∷ [] }; resume = None }

abbrev pub moving_histories : Histories
moving_histories = (stay moving_origin 0 1 ++ stay moving_origin 2 4) ∷ stay moving_origin 1 2 ∷ [] ∷ []

-- ---- a counter on a fabric with one cell too few

abbrev pub tight_text : List ℕ
tight_text = codes "fabric F 128 47 0\ntenant A m.v F 3\n"

abbrev pub tight_script : Script
tight_script = record {
  fabrics = record { name = codes "F"; capacity = record { registers = 128; cells = 47; memory = 0 } } ∷ [];
  tenants = lone_line ∷ [];
  free = [];
}

-- ---- a counter that is saved at tick 1, and that a free order stops at tick 2

abbrev pub stopping_text : List ℕ
stopping_text = codes "fabric F 100000 100000 1000000\ntenant A m.v F 5\nat A 1 save s\nfree stop A\n"

abbrev pub stopping_line : TenantLine
stopping_line = record {
  name = codes "A";
  source = codes "m.v";
  fabric = 0;
  budget = 5;
  files = [];
  resume = None;
  errands = record { tick = 1; due = due.Save (codes "s") } ∷ [];
}

abbrev pub stopping_script : Script
stopping_script = record { fabrics = large (codes "F") ∷ []; tenants = stopping_line ∷ []; free = free.Stop 0 ∷ [] }

abbrev pub stopping_origin : Origin
stopping_origin = record {
  flat = counter;
  files = [];
  resume = None;
  plan = record { budget = 5; errands = record { tick = 1; due = alone.SaveAs (codes "s") } ∷ [] };
}

abbrev pub stopping_histories : Histories
stopping_histories = (line stopping_origin 0 ∷ note Came 0 0 ∷ note Ran 0 1 ∷ note Saved 1 1 ∷ note Ran 1 2 ∷ note Left 2 2 ∷ []) ∷ []

-- ---- snapshots of counters

-- the magic, version 1, a tick, one row: the length of its name, `m.c`, a width, no words; a value, and no open file
abbrev pub counter_bytes : ℕ → ℕ → ℕ → List ℕ
counter_bytes tick width value =
    codes "FABSNAP\n" ++ 0 ∷ 0 ∷ 0 ∷ 1 ∷ 0 ∷ 0 ∷ 0 ∷ 0 ∷ 0 ∷ 0 ∷ 0 ∷ tick ∷ 0 ∷ 0 ∷ 0 ∷ 1 ∷ 0 ∷ 3 ∷ [] ++ codes "m.c"
    ++ width ∷ 0 ∷ 0 ∷ 0 ∷ 0 ∷ value ∷ 0 ∷ []

-- reg [3:0] c in place of reg [7:0] c
abbrev pub narrow : Flat
narrow = record { rows = clock ∷ row (codes "m.c") Var 4 false ∷ []; funs = []; procs = counter.procs }

-- a tenant of a budget that is resumed from a snapshot of these bytes
abbrev pub resumed_tenant : ℕ → Flat → List ℕ → Tenant
resumed_tenant budget d bytes = record {
  line = record { name = codes "A"; source = codes "m.v"; fabric = 0; budget = budget; files = []; resume = Some (codes "A.s"); errands = [] };
  source = Accepted d;
  files = [];
  snapshot = Some bytes;
}

abbrev pub resumed_origin : Origin
resumed_origin = record {
  flat = counter;
  files = [];
  plan = record { budget = 5; errands = [] };
  resume = Some (record { tick = 2; rows = record { name = codes "m.c"; width = 8; words = 0 } ∷ []; words = 2 ∷ []; files = [] });
}

-- ---- a source that ends at once

abbrev pub greeting_text : List ℕ
greeting_text = codes "fabric F 100000 100000 1000000\ntenant A m.v F 0\n"

abbrev pub greeting_line : TenantLine
greeting_line = record { name = codes "A"; source = codes "m.v"; fabric = 0; budget = 0; files = []; resume = None; errands = [] }

abbrev pub greeting_script : Script
greeting_script = record { fabrics = large (codes "F") ∷ []; tenants = greeting_line ∷ []; free = [] }

abbrev pub greeting_origin : Origin
greeting_origin = record { flat = greets; files = []; plan = record { budget = 0; errands = [] }; resume = None }

-- ---- a counter that free orders move at tick 1 and save at tick 2, and that has ended at the third

abbrev pub ordered_text : List ℕ
ordered_text =
    codes "fabric F1 100000 100000 1000000\nfabric F2 100000 100000 1000000\ntenant A m.v F1 4\n"
    ++ codes "free move A F2\nfree save A s\nfree stop A\n"

abbrev pub ordered_line : TenantLine
ordered_line = record { name = codes "A"; source = codes "m.v"; fabric = 0; budget = 4; files = []; resume = None; errands = [] }

abbrev pub ordered_script : Script
ordered_script = record {
  fabrics = large (codes "F1") ∷ large (codes "F2") ∷ [];
  tenants = ordered_line ∷ [];
  free = free.Move 0 1 ∷ free.Save 0 (codes "s") ∷ free.Stop 0 ∷ [];
}

abbrev pub ordered_origin : Origin
ordered_origin = record { flat = counter; files = []; plan = record { budget = 4; errands = [] }; resume = None }

abbrev pub ordered_histories : Histories
ordered_histories = stay ordered_origin 0 1 ∷ (stay ordered_origin 1 2 ++ stay ordered_origin 2 4) ∷ []

abbrev pub ordered_bytes : List ℕ
ordered_bytes =
    codes "tenant A budget 4 14 8\n0\n1\n2\n3\n\nstay A F1 0 1\nstay A F2 1 2\nstay A F2 2 4\n"
    ++ codes "free move A F2 1\nfree save A s 2\nfree stop A ended 4\n"
