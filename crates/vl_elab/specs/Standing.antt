-- Where items and ports of an instance stand.
use Rattle.std.specs.Prelude.{◌≡◌}
use Rattle.elab_plain.specs.vl_flat.specs.Processes as p
use Rattle.elab_plain.specs.vl_flat.specs.Items as x
use Rattle.elab_plain.specs.vl_flat.specs.Connections.{port_connection}
use Rattle.elab_plain.specs.SeenItems.{seen_unit}
use Rattle.elab_constant.specs.Seen.{look}
use Rattle.elab_kinds.specs.Facts.{facts, facts_of}
use Rattle.elab_instance.specs.Tables.{joined}
use Rattle.vl_elab.specs.declared.here.Here.{Here}
use Rattle.vl_elab.specs.declared.ports.Ports.{Ports}

abbrev pub seen_here : Here → p.Here
seen_here h = record { env = look h.names.now; path = h.path.now; behind = h.behind }

-- the ports are those of an instance of this module
pub record IsJoined (q : Ports) (m : x.Module) : Type 0 where
  pub roles : facts_of q.roles.now ≡ facts m
  pub connected : joined q.connected.now ≡ port_connection m (seen_unit q.unit.now)
