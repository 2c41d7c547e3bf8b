use Rattle.std.proofs.Common.{◌≡◌, ℕ, ◌<◌, get_or}
use Rattle.fab_core.specs.declared.resident.Resident.{Resident}
use Rattle.fab_core.specs.Alone.{tenants_of}
use Rattle.fab_core.proofs.rebuild.number_all.Given as goal

abbrev pub invariant-loop-place : goal.invariant-loop-place
invariant-loop-place l = record {
  tenants : tenants_of l.residents ≡ tenants_of l.fn.residents;
  numbers : (k : ℕ) (r : Resident) → k < l.place → (get_or l.residents k r).part ≡ k;
}
