-- What is read stays kept.
use Rattle.std.proofs.Common.{◌≡◌, ℕ, ◌+◌, ◌<◌, ◌≤◌, nat_lt, if◌then◌else◌, List, [], ◌∷◌, ◌++◌, length, map, get_or, slice_get, Option, Some, None, option_map, is_some, IfSome, unwrap_or, Bor, refl, sym, ap, ◌∙◌, append_assoc, append-nil, arith}
use Rattle.std.specs.List.{remove}
use Rattle.std.specs.Str.{bytes_eq}
use Rattle.std.proofs.lemmas.List.{map-append, length-map, length-append}
use Rattle.std.proofs.lemmas.Option.{slice_get-map, slice_get_past, slice_get-get_or}
use Rattle.std.proofs.lemmas.Bool.Decides.{nat_tests}
use Rattle.host_text.specs.Statements as said
use Rattle.host_text.specs.declared.script.FabricLine.{FabricLine}
use Rattle.host_text.specs.declared.script.TenantLine.{TenantLine}
use Rattle.host_text.specs.declared.script.Script.{Script}
use Rattle.host_text.specs.declared.draft.Draft.{Draft}
use Rattle.host_text.specs.declared.draft.Reading.{Reading}
use Rattle.host_text.specs.Scripts.{number_in, fabric_number, tenant_number, tenant_at, tenant_of, changed_at, changed, with_tenant, new_tenant, with_statement}
use Rattle.host_text.specs.Drafts.{tenant_line, drafted, value_at, IsKept}
use Rattle.host_text.proofs.Numbers.{numbers-push}
use Rattle.host_text.proofs.Changes.{names-stay, length-changed}

abbrev fabric_names : List FabricLine → List (List ℕ)
fabric_names fs = map (λ f. f.name) fs

abbrev tenant_names : List TenantLine → List (List ℕ)
tenant_names ts = map (λ t. t.name) ts

-- ---- after one more fabric, or tenant

pub kept-fabric : (r new : Reading) (line : FabricLine) (name : List ℕ) (k : ℕ) → IsKept r → fabric_number (drafted r) name ≡ None → length r.fabrics.items < 8 → k ≡ length r.fabrics.items → line.name ≡ name
    → new.fabrics.items ≡ r.fabrics.items ++ line ∷ [] → new.tenants.items ≡ r.tenants.items → ((t : List ℕ) → value_at new.tenant_numbers t ≡ value_at r.tenant_numbers t)
    → ((t : List ℕ) → value_at new.fabric_numbers t ≡ (if bytes_eq t name then Some k else value_at r.fabric_numbers t)) → IsKept new
kept-fabric r new line name k kept none room size called items tenants same numbers =
    let names : fabric_names new.fabrics.items ≡ fabric_names r.fabrics.items ++ name ∷ [] =
    ap fabric_names items ∙ map-append (λ (f : FabricLine). f.name) r.fabrics.items (line ∷ []) ∙ ap (λ (n : List ℕ). fabric_names r.fabrics.items ++ n ∷ []) called in
    let long : length new.fabrics.items ≡ length r.fabrics.items + 1 = ap length items ∙ length-append r.fabrics.items (line ∷ []) in
    let few : length r.tenants.items ≤ 64 = kept.few_tenants in
    record {
      fabrics = λ t. numbers-push r.fabric_numbers new.fabric_numbers (fabric_names r.fabrics.items) name k (size ∙ sym (length-map r.fabrics.items (λ (f : FabricLine). f.name))) none kept.fabrics numbers t
          ∙ ap (λ ns. number_in ns t) (sym names);
      tenants = λ t. same t ∙ kept.tenants t ∙ ap (λ ds. number_in (tenant_names (map tenant_line ds)) t) (sym tenants);
      few_fabrics = omega (arith, long, room);
      few_tenants = omega (arith, few, ap length tenants);
    }

pub kept-tenant : (r new : Reading) (d : Draft) (name : List ℕ) (k : ℕ) → IsKept r → tenant_number (drafted r) name ≡ None → length r.tenants.items < 64 → k ≡ length r.tenants.items → d.name ≡ name
    → new.tenants.items ≡ r.tenants.items ++ d ∷ [] → new.fabrics.items ≡ r.fabrics.items → ((t : List ℕ) → value_at new.fabric_numbers t ≡ value_at r.fabric_numbers t)
    → ((t : List ℕ) → value_at new.tenant_numbers t ≡ (if bytes_eq t name then Some k else value_at r.tenant_numbers t)) → IsKept new
kept-tenant r new d name k kept none room size called items fabrics same numbers =
    let lines : map tenant_line new.tenants.items ≡ map tenant_line r.tenants.items ++ tenant_line d ∷ [] =
    ap (λ ds. map tenant_line ds) items ∙ map-append tenant_line r.tenants.items (d ∷ []) in
    let names : tenant_names (map tenant_line new.tenants.items) ≡ tenant_names (map tenant_line r.tenants.items) ++ name ∷ [] =
    ap tenant_names lines ∙ map-append (λ (t : TenantLine). t.name) (map tenant_line r.tenants.items) (tenant_line d ∷ [])
    ∙ ap (λ (n : List ℕ). tenant_names (map tenant_line r.tenants.items) ++ n ∷ []) called in
    let long : length new.tenants.items ≡ length r.tenants.items + 1 = ap length items ∙ length-append r.tenants.items (d ∷ []) in
    let count : length (tenant_names (map tenant_line r.tenants.items)) ≡ length r.tenants.items =
    length-map (map tenant_line r.tenants.items) (λ (t : TenantLine). t.name) ∙ length-map r.tenants.items tenant_line in
    let few : length r.fabrics.items ≤ 8 = kept.few_fabrics in
    record {
      fabrics = λ t. same t ∙ kept.fabrics t ∙ ap (λ fs. number_in (fabric_names fs) t) (sym fabrics);
      tenants = λ t. numbers-push r.tenant_numbers new.tenant_numbers (tenant_names (map tenant_line r.tenants.items)) name k (size ∙ sym count) none kept.tenants numbers t
          ∙ ap (λ ns. number_in ns t) (sym names);
      few_fabrics = omega (arith, few, ap length fabrics);
      few_tenants = omega (arith, long, room);
    }

pub added-tenant : (r : Reading) (ds : List Draft) (d : Draft) (name source fabric : List ℕ) (k budget : ℕ) → k ≡ unwrap_or (fabric_number (drafted r) fabric) 0
    → tenant_line d ≡ record { name = name; source = source; fabric = k; budget = budget; files = []; resume = None; errands = [] } → ds ≡ r.tenants.items ++ d ∷ []
    → (let t : Script = record { fabrics = r.fabrics.items; tenants = map tenant_line ds; free = r.free.items } in t) ≡ with_statement (drafted r) (said.Tenant name source fabric budget)
added-tenant r ds d name source fabric k budget number line items =
    let named : tenant_line d ≡ new_tenant (drafted r) name source fabric budget =
    line ∙ ap (λ (n : ℕ). let t : TenantLine = record { name = name; source = source; fabric = n; budget = budget; files = []; resume = None; errands = [] } in t) number in
    let lines : map tenant_line ds ≡ map tenant_line r.tenants.items ++ new_tenant (drafted r) name source fabric budget ∷ [] =
    ap (λ xs. map tenant_line xs) items ∙ map-append tenant_line r.tenants.items (d ∷ []) ∙ ap (λ (t : TenantLine). map tenant_line r.tenants.items ++ t ∷ []) named in
    ap (λ (ts : List TenantLine). let t : Script = record { fabrics = r.fabrics.items; tenants = ts; free = r.free.items } in t) lines

-- ---- after a tenant has changed

pub kept-changed : (r new : Reading) (o : Option ℕ) (f : TenantLine → TenantLine) → IsKept r → ((t : TenantLine) → (f t).name ≡ t.name)
    → map tenant_line new.tenants.items ≡ changed o f (map tenant_line r.tenants.items) → new.fabrics.items ≡ r.fabrics.items
    → ((t : List ℕ) → value_at new.fabric_numbers t ≡ value_at r.fabric_numbers t) → ((t : List ℕ) → value_at new.tenant_numbers t ≡ value_at r.tenant_numbers t) → IsKept new
kept-changed r new o f kept keeps lines fabrics same_fabrics same_tenants =
    let old = map tenant_line r.tenants.items in
    let names : tenant_names (map tenant_line new.tenants.items) ≡ tenant_names old = ap tenant_names lines ∙ names-stay f old o keeps in
    let long : length new.tenants.items ≡ length r.tenants.items =
    sym (length-map new.tenants.items tenant_line) ∙ ap length lines ∙ length-changed f old o ∙ length-map r.tenants.items tenant_line in
    let few_fabrics : length r.fabrics.items ≤ 8 = kept.few_fabrics in
    let few_tenants : length r.tenants.items ≤ 64 = kept.few_tenants in
    record {
      fabrics = λ t. same_fabrics t ∙ kept.fabrics t ∙ ap (λ fs. number_in (fabric_names fs) t) (sym fabrics);
      tenants = λ t. same_tenants t ∙ kept.tenants t ∙ ap (λ ns. number_in ns t) (sym names);
      few_fabrics = omega (arith, few_fabrics, ap length fabrics);
      few_tenants = omega (arith, few_tenants, long);
    }

-- ---- the tenant of a name

pub not_some : (r : Option ℕ) → ((m : ℕ) → r ≡ Some m → ⊥) → r ≡ None
not_some None h = refl
not_some (Some m) h = absurd (h m refl)

pub unchanged : (s : Script) (name : List ℕ) (f : TenantLine → TenantLine) → tenant_number s name ≡ None → with_tenant s name f ≡ s
unchanged s name f none = ap (λ o. let t : Script = record { fabrics = s.fabrics; tenants = changed o f s.tenants; free = s.free } in t) none

pub with-changed : (s : Script) (name : List ℕ) (n : ℕ) (f : TenantLine → TenantLine) (ts : List TenantLine) → tenant_number s name ≡ Some n → ts ≡ changed_at n f s.tenants
    → (let t : Script = record { fabrics = s.fabrics; tenants = ts; free = s.free } in t) ≡ with_tenant s name f
with-changed s name n f ts some e =
    ap (λ us. let t : Script = record { fabrics = s.fabrics; tenants = us; free = s.free } in t) (e ∙ ap (λ o. changed o f s.tenants) (sym some))

pub none-of : (r : Reading) (name : List ℕ) → IsKept r → None ≡ value_at r.tenant_numbers name → None ≡ tenant_of (drafted r) name
none-of r name kept e = ap (tenant_at (map tenant_line r.tenants.items)) (e ∙ kept.tenants name)

got : (ds : List Draft) (i : ℕ) (r : Option (Bor Draft)) → is_some r ≡ nat_lt i (length ds) → IfSome r (λ q. q.now ≡ get_or ds i q.now)
    → option_map (λ q. tenant_line q.now) r ≡ option_map tenant_line (slice_get ds i)
got ds i None e g = let past : length ds ≤ i = grind (arith, nat_tests, e) in ap (option_map tenant_line) (sym (slice_get_past ds i past))
got ds i (Some q) e g =
    let within : i < length ds = grind (arith, nat_tests, e) in
    ap (λ (d : Draft). Some (tenant_line d)) g ∙ ap (option_map tenant_line) (sym (slice_get-get_or ds i q.now within))

pub some-of : (r : Reading) (name : List ℕ) (ds : List Draft) (i : ℕ) (x : Option (Bor Draft)) → IsKept r → ds ≡ r.tenants.items → Some i ≡ value_at r.tenant_numbers name
    → is_some x ≡ nat_lt i (length ds) → IfSome x (λ q. q.now ≡ get_or ds i q.now) → option_map (λ q. tenant_line q.now) x ≡ tenant_of (drafted r) name
some-of r name ds i x kept same e there is =
    got ds i x there is ∙ ap (λ (es : List Draft). option_map tenant_line (slice_get es i)) same ∙ sym (slice_get-map tenant_line r.tenants.items i) ∙ ap (tenant_at (map tenant_line r.tenants.items)) (e ∙ kept.tenants name)

-- ---- drafts become lines

pub line-on : (lines : List TenantLine) (ds : List Draft) (d : Draft) → 0 < length ds → d ≡ get_or ds 0 d
    → (lines ++ tenant_line d ∷ []) ++ map tenant_line (remove ds 0) ≡ lines ++ map tenant_line ds
line-on lines [] d l e = absurd (omega (arith, l))
line-on lines (x ∷ xs) d l e =
    append_assoc lines (tenant_line d ∷ []) (map tenant_line xs) ∙ ap (λ (y : Draft). lines ++ (tenant_line y ∷ map tenant_line xs)) e
