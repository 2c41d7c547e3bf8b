-- The script that is being read.
use Rattle.std.specs.Prelude.{◌≡◌, ℕ, ◌≤◌, List, length, map, Option}
use Rattle.std.specs.Borrow.{Bor}
use Rattle.std.specs.Str.{bytes_eq}
use Rattle.indexmap.specs.IndexMap.{IndexMap, get_by}
use Rattle.host_text.specs.declared.script.TenantLine.{TenantLine}
use Rattle.host_text.specs.declared.script.Script.{Script}
use Rattle.host_text.specs.declared.draft.Draft.{Draft}
use Rattle.host_text.specs.declared.draft.Reading.{Reading}
use Rattle.host_text.specs.Scripts.{fabric_number, tenant_number}

-- the tenant of a draft
abbrev pub tenant_line : Draft → TenantLine
tenant_line d = record { name = d.name; source = d.source; fabric = d.fabric; budget = d.budget; files = d.files.items; resume = d.resume; errands = d.errands.items }

-- the script so far
abbrev pub drafted : Reading → Script
drafted r = record { fabrics = r.fabrics.items; tenants = map tenant_line r.tenants.items; free = r.free.items }

-- what a map has at a name
abbrev pub value_at : {X S : Type 0} → IndexMap (Bor (List ℕ)) X S → List ℕ → Option X
value_at m t = get_by (λ k. bytes_eq t k.now) m

-- names have their numbers, and there are few of them
pub record IsKept (r : Reading) : Type 0 where
  pub fabrics : (t : List ℕ) → value_at r.fabric_numbers t ≡ fabric_number (drafted r) t
  pub tenants : (t : List ℕ) → value_at r.tenant_numbers t ≡ tenant_number (drafted r) t
  pub few_fabrics : length r.fabrics.items ≤ 8
  pub few_tenants : length r.tenants.items ≤ 64
