-- What the statements of a script declare.
use Rattle.std.specs.Prelude.{ℕ, zero, suc, ◌+◌, Bool, true, false, not, ◌&&◌, ◌||◌, ◌==◌, nat_lt, if◌then◌else◌, List, [], ◌∷◌, ◌++◌, map, slice_get, Option, Some, None, option_map, unwrap_or}
use Rattle.std.specs.Str.{bytes_eq}
use Rattle.host_text.specs.Statements as said
use Rattle.host_text.specs.declared.script.FileLine.{FileLine}
use Rattle.ten_plan.specs.declared.plan.Due.{Due}
use Rattle.ten_plan.specs.declared.plan.Due.TheVariants as due
use Rattle.ten_plan.specs.declared.plan.Errand.{Errand}
use Rattle.host_text.specs.declared.script.TenantLine.{TenantLine}
use Rattle.host_text.specs.declared.script.Free.{Free}
use Rattle.host_text.specs.declared.script.Free.TheVariants as free
use Rattle.host_text.specs.declared.script.Script.{Script}

-- ---- names and their numbers

-- the number of a name among names, from 0: the first place at which it stands
abbrev pub number_in : List (List ℕ) → List ℕ → Option ℕ
number_in [] name = None
number_in (n ∷ ns) name = if bytes_eq name n then Some 0 else option_map (λ i. i + 1) (number_in ns name)

abbrev pub fabric_number : Script → List ℕ → Option ℕ
fabric_number s name = number_in (map (λ f. f.name) s.fabrics) name

abbrev pub tenant_number : Script → List ℕ → Option ℕ
tenant_number s name = number_in (map (λ t. t.name) s.tenants) name

abbrev pub tenant_at : List TenantLine → Option ℕ → Option TenantLine
tenant_at tenants None = None
tenant_at tenants (Some n) = slice_get tenants n

-- the tenant of a name
abbrev pub tenant_of : Script → List ℕ → Option TenantLine
tenant_of s name = tenant_at s.tenants (tenant_number s name)

-- the tenants with the one of a number changed
abbrev pub changed_at : ℕ → (TenantLine → TenantLine) → List TenantLine → List TenantLine
changed_at n change [] = []
changed_at zero change (t ∷ ts) = change t ∷ ts
changed_at (suc n) change (t ∷ ts) = t ∷ changed_at n change ts

abbrev pub changed : Option ℕ → (TenantLine → TenantLine) → List TenantLine → List TenantLine
changed None change tenants = tenants
changed (Some n) change tenants = changed_at n change tenants

-- a script with the tenant of a name changed
abbrev pub with_tenant : Script → List ℕ → (TenantLine → TenantLine) → Script
with_tenant s name change = record { fabrics = s.fabrics; tenants = changed (tenant_number s name) change s.tenants; free = s.free }

-- ---- errands

abbrev pub is_save : Due → Bool
is_save (due.Save name) = true
is_save (due.Move fabric) = false
is_save due.Stop = false

-- an errand comes before another: at an earlier tick, or at the same tick a save before what is none
abbrev pub comes_before : Errand → Errand → Bool
comes_before a b = nat_lt a.tick b.tick || (a.tick == b.tick && is_save a.due && not (is_save b.due))

-- errands in their order, with one more: behind all but those that it comes before
abbrev pub with_errand : Errand → List Errand → List Errand
with_errand e [] = e ∷ []
with_errand e (x ∷ xs) = if comes_before e x then e ∷ x ∷ xs else x ∷ with_errand e xs

-- what an order is, where fabrics have numbers
abbrev pub due_of : Script → said.Order → Due
due_of s (said.Move fabric) = due.Move (unwrap_or (fabric_number s fabric) 0)
due_of s (said.Save name) = due.Save name
due_of s said.Stop = due.Stop

abbrev pub free_of : ℕ → Due → Free
free_of tenant (due.Move fabric) = free.Move tenant fabric
free_of tenant (due.Save name) = free.Save tenant name
free_of tenant due.Stop = free.Stop tenant

-- ---- statements

-- the script without lines
abbrev pub nothing : Script
nothing = record { fabrics = []; tenants = []; free = [] }

abbrev pub with_free : Script → Free → Script
with_free s order = record { fabrics = s.fabrics; tenants = s.tenants; free = s.free ++ order ∷ [] }

abbrev pub new_tenant : Script → List ℕ → List ℕ → List ℕ → ℕ → TenantLine
new_tenant s name source fabric budget =
    record { name = name; source = source; fabric = unwrap_or (fabric_number s fabric) 0; budget = budget; files = []; resume = None; errands = [] }

abbrev pub with_file : FileLine → TenantLine → TenantLine
with_file f t = record { name = t.name; source = t.source; fabric = t.fabric; budget = t.budget; files = t.files ++ f ∷ []; resume = t.resume; errands = t.errands }

abbrev pub resumed : List ℕ → TenantLine → TenantLine
resumed path t = record { name = t.name; source = t.source; fabric = t.fabric; budget = t.budget; files = t.files; resume = Some path; errands = t.errands }

abbrev pub sent : Errand → TenantLine → TenantLine
sent e t = record { name = t.name; source = t.source; fabric = t.fabric; budget = t.budget; files = t.files; resume = t.resume; errands = with_errand e t.errands }

-- a script with one more statement: a fabric, a tenant and a free order stand behind those before them; a file, a snapshot and an
-- errand are its tenant's
abbrev pub with_statement : Script → said.Statement → Script
with_statement s (said.Fabric name capacity) = record { fabrics = s.fabrics ++ record { name = name; capacity = capacity } ∷ []; tenants = s.tenants; free = s.free }
with_statement s (said.Tenant name source fabric budget) = record { fabrics = s.fabrics; tenants = s.tenants ++ new_tenant s name source fabric budget ∷ []; free = s.free }
with_statement s (said.File tenant name path) = with_tenant s tenant (with_file (record { name = name; path = path }))
with_statement s (said.Resume tenant path) = with_tenant s tenant (resumed path)
with_statement s (said.At tenant tick order) = with_tenant s tenant (sent (record { tick = tick; due = due_of s order }))
with_statement s (said.Free tenant order) = with_free s (free_of (unwrap_or (tenant_number s tenant) 0) (due_of s order))
with_statement s (said.Watch tenant) = with_free s (free.Watch (unwrap_or (tenant_number s tenant) 0))
