-- The causes for which a statement is refused behind others, from 4 to 7.
use Rattle.std.specs.Prelude.{ℕ, Bool, true, false, not, ◌&&◌, ◌||◌, ◌==◌, nat_le, if◌then◌else◌, List, length, Option, Some, None, is_some}
use Rattle.std.specs.List.{list_any}
use Rattle.std.specs.Option.{option_map_or}
use Rattle.std.specs.Str.{bytes_eq}
use Rattle.host_text.specs.Statements as said
use Rattle.ten_plan.specs.declared.plan.Due.{Due}
use Rattle.ten_plan.specs.declared.plan.Due.TheVariants as due
use Rattle.host_text.specs.declared.script.TenantLine.{TenantLine}
use Rattle.host_text.specs.declared.script.Script.{Script}
use Rattle.host_text.specs.Scripts.{fabric_number, tenant_number, tenant_of}

abbrev pub has_fabric : Script → List ℕ → Bool
has_fabric s name = is_some (fabric_number s name)

abbrev pub has_tenant : Script → List ℕ → Bool
has_tenant s name = is_some (tenant_number s name)

-- a test on the tenant of a name, if it is declared
abbrev pub of_tenant : Script → List ℕ → (TenantLine → Bool) → Bool
of_tenant s name test = option_map_or test (tenant_of s name) false

-- ---- 4: a fabric, a tenant, a tenant's file name or its snapshot a second time

abbrev pub has_file : List ℕ → TenantLine → Bool
has_file name t = list_any (λ f. bytes_eq f.name name) t.files

abbrev pub is_repeated : Script → said.Statement → Bool
is_repeated s (said.Fabric name capacity) = has_fabric s name
is_repeated s (said.Tenant name source fabric budget) = has_tenant s name
is_repeated s (said.File tenant name path) = of_tenant s tenant (has_file name)
is_repeated s (said.Resume tenant path) = of_tenant s tenant (λ t. is_some t.resume)
is_repeated s _ = false

-- ---- 5: a fabric or a tenant that isn't declared above

abbrev pub lacks_fabric : Script → said.Order → Bool
lacks_fabric s (said.Move fabric) = not (has_fabric s fabric)
lacks_fabric s (said.Save name) = false
lacks_fabric s said.Stop = false

abbrev pub is_undeclared : Script → said.Statement → Bool
is_undeclared s (said.Fabric name capacity) = false
is_undeclared s (said.Tenant name source fabric budget) = not (has_fabric s fabric)
is_undeclared s (said.File tenant name path) = not (has_tenant s tenant)
is_undeclared s (said.Resume tenant path) = not (has_tenant s tenant)
is_undeclared s (said.At tenant tick order) = not (has_tenant s tenant) || lacks_fabric s order
is_undeclared s (said.Free tenant order) = not (has_tenant s tenant) || lacks_fabric s order
is_undeclared s (said.Watch tenant) = not (has_tenant s tenant)

-- ---- 6: a second move or stop of a tenant at one tick, or the same save

-- a save of the same name, or a move or stop where one is due
abbrev pub is_doubled : said.Order → Due → Bool
is_doubled (said.Save name) (due.Save other) = bytes_eq other name
is_doubled (said.Save name) _ = false
is_doubled order (due.Save other) = false
is_doubled order _ = true

abbrev pub has_errand : ℕ → said.Order → TenantLine → Bool
has_errand tick order t = list_any (λ e. e.tick == tick && is_doubled order e.due) t.errands

abbrev pub is_clashing : Script → said.Statement → Bool
is_clashing s (said.At tenant tick order) = of_tenant s tenant (has_errand tick order)
is_clashing s _ = false

-- ---- 7: more than 8 fabrics, 64 tenants, 16 files or 256 errands of a tenant, or 256 free orders

abbrev pub is_full : Script → said.Statement → Bool
is_full s (said.Fabric name capacity) = nat_le 8 (length s.fabrics)
is_full s (said.Tenant name source fabric budget) = nat_le 64 (length s.tenants)
is_full s (said.File tenant name path) = of_tenant s tenant (λ t. nat_le 16 (length t.files))
is_full s (said.Resume tenant path) = false
is_full s (said.At tenant tick order) = of_tenant s tenant (λ t. nat_le 256 (length t.errands))
is_full s (said.Free tenant order) = nat_le 256 (length s.free)
is_full s (said.Watch tenant) = nat_le 256 (length s.free)

-- the least cause of a statement behind those of a script
abbrev pub cause_of : Script → said.Statement → Option ℕ
cause_of s x = if is_repeated s x then Some 4 else if is_undeclared s x then Some 5 else if is_clashing s x then Some 6 else if is_full s x then Some 7 else None
