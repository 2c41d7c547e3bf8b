use Rattle.std.proofs.Common.{◌≡◌, None, subst}
use Rattle.host_text.specs.Seen.{seen}
use Rattle.host_text.specs.declared.statement.Statement.{Statement}
use Rattle.host_text.specs.Causes.{cause_of}
use Rattle.host_text.specs.Drafts.{drafted}
use Rattle.host_text.proofs.Rooms.{fabric-room, tenant-room}
use Rattle.host_text.proofs.adding.add.Goals as goal

pub add_fabric-requires-clause-new : goal.add_fabric-requires-clause-new
add_fabric-requires-clause-new c =
    (fabric-room (drafted c.args.reading.now) c.in-Fabric.name.now c.in-Fabric.capacity
    (subst (λ (x : Statement). cause_of (drafted c.args.reading.now) (seen x) ≡ None) c.in-Fabric.is c.requires.right)).0

pub add_fabric-requires-clause-room : goal.add_fabric-requires-clause-room
add_fabric-requires-clause-room c =
    (fabric-room (drafted c.args.reading.now) c.in-Fabric.name.now c.in-Fabric.capacity
    (subst (λ (x : Statement). cause_of (drafted c.args.reading.now) (seen x) ≡ None) c.in-Fabric.is c.requires.right)).1

pub add_tenant-requires-clause-new : goal.add_tenant-requires-clause-new
add_tenant-requires-clause-new c =
    (tenant-room c.args.reading.now c.in-Tenant.name.now c.in-Tenant.source.now c.in-Tenant.fabric.now c.in-Tenant.budget
    (subst (λ (x : Statement). cause_of (drafted c.args.reading.now) (seen x) ≡ None) c.in-Tenant.is c.requires.right)).0

pub add_tenant-requires-clause-room : goal.add_tenant-requires-clause-room
add_tenant-requires-clause-room c =
    (tenant-room c.args.reading.now c.in-Tenant.name.now c.in-Tenant.source.now c.in-Tenant.fabric.now c.in-Tenant.budget
    (subst (λ (x : Statement). cause_of (drafted c.args.reading.now) (seen x) ≡ None) c.in-Tenant.is c.requires.right)).1
