use Rattle.std.proofs.Common.{◌≡◌, ◌+◌, ◌++◌, ◌<◌, ◌≤◌, ◌^◌, take, length, vec_len, vec_capacity}
use Rattle.std.specs.Vec.Iter.{drain_items, DrainKeeps}
use Rattle.fab_core.specs.Alone.{tenants_of, AreNumbered}
use Rattle.fab_core.proofs.rebuild.join_all.Given as goal

abbrev pub invariant-loop-tenant : goal.invariant-loop-tenant
invariant-loop-tenant l = record {
  can : (goal.iterator-loop-tenant).can_next l.tenant-iterator;
  finite : (goal.iterator-loop-tenant).is_finite l.tenant-iterator;
  keeps : DrainKeeps l.initial.tenant-iterator l.tenant-iterator;
  moved : tenants_of l.residents.items ++ drain_items l.tenant-iterator ≡ tenants_of l.fn.residents.items ++ take l.count l.fn.line.items;
  room : vec_len l.residents + length (drain_items l.tenant-iterator) ≤ vec_capacity l.residents;
  few : vec_len l.residents + length (drain_items l.tenant-iterator) < 2 ^ 32;
  numbers : AreNumbered l.residents.items;
}
