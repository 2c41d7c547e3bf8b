use Rattle.std.proofs.Common.{◌≡◌, ◌<◌, ◌^◌, drop}
use Rattle.std.specs.Prelude.{◌++◌, All}
use Rattle.ten_form.specs.Holding.{mask_register}
use Rattle.ten_form.specs.Stores.{stores_from}
use Rattle.ten_form.proofs.stores.placed.Given as goal

abbrev pub invariant-loop-memory : goal.invariant-loop-memory
invariant-loop-memory l = record {
  made : l.made.items ++ stores_from l.next (drop l.memory-index l.memories) ≡ stores_from l.first l.memories;
  few : All (λ x. mask_register x < 2 ^ 32) l.made.items;
}
