use Rattle.std.proofs.Common.{◌≡◌, ◌++◌, map, take}
use Rattle.fab_core.specs.Alone.{part_for, tenants_of}
use Rattle.fab_core.proofs.rebuild.joined_anew.Given as goal

abbrev pub invariant-loop-resident : goal.invariant-loop-resident
invariant-loop-resident l = l.anew ≡ map part_for (take l.resident-index (tenants_of l.residents))

abbrev pub invariant-loop-tenant : goal.invariant-loop-tenant
invariant-loop-tenant l = l.anew ≡ map part_for (tenants_of l.residents ++ take l.tenant-index l.line)
