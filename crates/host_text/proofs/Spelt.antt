-- The words and numbers of a script that is read are spelt as they may be.
use Rattle.std.proofs.Common.{◌≡◌, ℕ, Bool, true, false, List, [], ◌∷◌, ◌++◌, Option, Some, None, is_some, unwrap_or, Result, Ok, Err}
use Rattle.std.specs.List.{AllByRecursion, IsDistinct, list_any}
use Rattle.std.specs.Str.{bytes_eq}
use Rattle.std.proofs.lemmas.Bool.{or_parts}
use Rattle.host_text.specs.Words.{is_path}
use Rattle.host_text.specs.Statements.{Statement, says}
use Rattle.host_text.specs.Statements as said
use Rattle.host_text.specs.declared.script.FabricLine.{FabricLine}
use Rattle.host_text.specs.declared.script.FileLine.{FileLine}
use Rattle.ten_plan.specs.declared.plan.Due.{Due}
use Rattle.ten_plan.specs.declared.plan.Due.TheVariants as due
use Rattle.ten_plan.specs.declared.plan.Errand.{Errand}
use Rattle.host_text.specs.declared.script.TenantLine.{TenantLine}
use Rattle.host_text.specs.declared.script.Free.{Free}
use Rattle.host_text.specs.declared.script.Free.TheVariants as free
use Rattle.host_text.specs.declared.script.Script.{Script}
use Rattle.host_text.specs.Scripts.{tenant_number, with_tenant, due_of, free_of, nothing, new_tenant, with_file, resumed, sent, with_free, with_statement}
use Rattle.host_text.specs.Causes.{of_tenant, has_file, has_errand, cause_of}
use Rattle.host_text.specs.Reading.{with_said, cause_behind, reading}
use Rattle.host_text.specs.Laws.{IsSpeltDue, IsSpeltFabric, IsSpeltFile, IsSpeltTenant, IsSpeltFree, IsSpelt}
use Rattle.host_text.proofs.Apart.{some_none}
use Rattle.host_text.proofs.Limits.{all-more, all-changed, causes, kept-by-lines}
use Rattle.host_text.proofs.Ordered.{all-with}
use Rattle.host_text.proofs.Spellings.{IsSpeltOrder, IsSpeltStatement, IsSpeltSaid, says-spelt}

-- ---- orders

due-spelt : (s : Script) (order : said.Order) → IsSpeltOrder order → IsSpeltDue (due_of s order)
due-spelt s (said.Move fabric) h = tt
due-spelt s (said.Save name) h = h
due-spelt s said.Stop h = tt

free-spelt : (tenant : ℕ) (d : Due) → IsSpeltDue d → IsSpeltFree (free_of tenant d)
free-spelt tenant (due.Save name) h = h
free-spelt tenant (due.Move fabric) h = tt
free-spelt tenant due.Stop h = tt

-- ---- files

-- of the same name
abbrev same : FileLine → FileLine → Bool
same f g = bytes_eq f.name g.name

differs : (name : List ℕ) (fs : List FileLine) → list_any (λ f. bytes_eq f.name name) fs ≡ false → AllByRecursion (λ f. bytes_eq f.name name ≡ false) fs
differs name [] e = tt
differs name (f ∷ fs) e =
    let both = or_parts (bytes_eq f.name name) (list_any (λ g. bytes_eq g.name name) fs) e in
    (both.0, differs name fs both.1)

different-more : (f : FileLine) (fs : List FileLine) → AllByRecursion (λ g. bytes_eq g.name f.name ≡ false) fs → IsDistinct same fs → IsDistinct same (fs ++ f ∷ [])
unfolding IsDistinct
different-more f [] h d = (tt, tt)
different-more f (g ∷ fs) h d = (all-more (λ x. same g x ≡ false) fs f d.0 h.0, different-more f fs h.1 d.1)

-- ---- tenants

new-spelt : (s : Script) (name source fabric : List ℕ) (budget : ℕ) → IsSpeltStatement (said.Tenant name source fabric budget) → IsSpeltTenant (new_tenant s name source fabric budget)
unfolding IsDistinct
new-spelt s name source fabric budget h = record { name = h.0; source = h.1; budget = h.2; files = tt; different = tt; resume = tt; errands = tt }

file-spelt : (f : FileLine) (t : TenantLine) → IsSpeltFile f → has_file f.name t ≡ false → IsSpeltTenant t → IsSpeltTenant (with_file f t)
file-spelt f t is none h = record {
  name = h.name;
  source = h.source;
  budget = h.budget;
  files = all-more IsSpeltFile t.files f h.files is;
  different = different-more f t.files (differs f.name t.files none) h.different;
  resume = h.resume;
  errands = h.errands;
}

resumed-spelt : (path : List ℕ) (t : TenantLine) → is_path path ≡ true → IsSpeltTenant t → IsSpeltTenant (resumed path t)
resumed-spelt path t is h = record { name = h.name; source = h.source; budget = h.budget; files = h.files; different = h.different; resume = is; errands = h.errands }

sent-spelt : (e : Errand) (t : TenantLine) → IsSpeltDue e.due → IsSpeltTenant t → IsSpeltTenant (sent e t)
sent-spelt e t is h = record {
  name = h.name;
  source = h.source;
  budget = h.budget;
  files = h.files;
  different = h.different;
  resume = h.resume;
  errands = all-with (λ x. IsSpeltDue x.due) e t.errands is h.errands;
}

-- p is false of the tenant
tenant-changed : (s : Script) (name : List ℕ) (p : TenantLine → Bool) (f : TenantLine → TenantLine) → of_tenant s name p ≡ false
    → ((t : TenantLine) → p t ≡ false → IsSpeltTenant t → IsSpeltTenant (f t)) → IsSpelt s → IsSpelt (with_tenant s name f)
tenant-changed s name p f none keeps h =
    record { fabrics = h.fabrics; tenants = all-changed IsSpeltTenant p p f (tenant_number s name) s.tenants none none (λ t a b g. keeps t a g) h.tenants; free = h.free }

-- ---- a statement without a cause

one-more : (s : Script) (x : Free) → IsSpeltFree x → IsSpelt s → IsSpelt (with_free s x)
one-more s x is h = record { fabrics = h.fabrics; tenants = h.tenants; free = all-more IsSpeltFree s.free x h.free is }

step : (s : Script) (x : Statement) → cause_of s x ≡ None → IsSpeltStatement x → IsSpelt s → IsSpelt (with_statement s x)
step s (said.Fabric name capacity) e is h =
    let line : FabricLine = record { name = name; capacity = capacity } in
    let well : IsSpeltFabric line = record { name = is.0; registers = is.1; cells = is.2; memory = is.3 } in
    record { fabrics = all-more IsSpeltFabric s.fabrics line h.fabrics well; tenants = h.tenants; free = h.free }
step s (said.Tenant name source fabric budget) e is h =
    let t = new_tenant s name source fabric budget in
    record { fabrics = h.fabrics; tenants = all-more IsSpeltTenant s.tenants t h.tenants (new-spelt s name source fabric budget is); free = h.free }
step s (said.File tenant name path) e is h =
    let file : FileLine = record { name = name; path = path } in
    let well : IsSpeltFile file = record { name = is.0; path = is.1 } in
    tenant-changed s tenant (has_file name) (with_file file) (causes s (said.File tenant name path) e).0 (λ t a g. file-spelt file t well a g) h
step s (said.Resume tenant path) e is h =
    tenant-changed s tenant (λ t. is_some t.resume) (resumed path) (causes s (said.Resume tenant path) e).0 (λ t a g. resumed-spelt path t is g) h
step s (said.At tenant tick order) e is h =
    let errand : Errand = record { tick = tick; due = due_of s order } in
    tenant-changed s tenant (has_errand tick order) (sent errand) (causes s (said.At tenant tick order) e).2 (λ t a g. sent-spelt errand t (due-spelt s order is) g) h
step s (said.Free tenant order) e is h =
    let number = unwrap_or (tenant_number s tenant) 0 in
    one-more s (free_of number (due_of s order)) (free-spelt number (due_of s order) (due-spelt s order is)) h
step s (said.Watch tenant) e is h = one-more s (free.Watch (unwrap_or (tenant_number s tenant) 0)) tt h

-- ---- lines without a cause

line-step : (s : Script) (r : Result (Option Statement) ℕ) → IsSpeltSaid r → cause_behind s r ≡ None → IsSpelt s → IsSpelt (with_said s r)
line-step s (Err cause) is e h = absurd (some_none cause e)
line-step s (Ok None) is e h = h
line-step s (Ok (Some x)) is e h = step s x e is h

begun : IsSpelt nothing
begun = record { fabrics = tt; tenants = tt; free = tt }

pub spelt : (bytes : List ℕ) (s : Script) → reading bytes ≡ Ok s → IsSpelt s
spelt bytes s e = kept-by-lines IsSpelt (λ t l none h. line-step t (says l) (says-spelt l) none h) begun bytes s e
