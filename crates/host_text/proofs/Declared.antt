-- What lines declare.
use Rattle.std.proofs.Common.{◌≡◌, ℕ, List, [], ◌∷◌, ◌++◌, map, flat_map, fold, Option, Some, None, Result, Ok, Err, refl, sym, ap, ◌∙◌, append_assoc, append-nil}
use Rattle.std.proofs.lemmas.List.{map-append}
use Rattle.host_text.specs.Statements.{Statement, says}
use Rattle.host_text.specs.Statements as said
use Rattle.host_text.specs.declared.script.TenantLine.{TenantLine}
use Rattle.host_text.specs.declared.script.Script.{Script}
use Rattle.host_text.specs.Scripts.{nothing, tenant_number, changed, with_file, resumed, sent, due_of, new_tenant}
use Rattle.host_text.specs.Reading.{with_said, script_of}
use Rattle.host_text.specs.Laws.{fabric_said, tenant_said}
use Rattle.host_text.proofs.Changes.{names-stay}

abbrev names : Script → List (List ℕ)
names s = map (λ t. t.name) s.tenants

fabrics-step : (s : Script) (r : Result (Option Statement) ℕ) → (with_said s r).fabrics ≡ s.fabrics ++ fabric_said r
fabrics-step s (Err cause) = sym (append-nil s.fabrics)
fabrics-step s (Ok None) = sym (append-nil s.fabrics)
fabrics-step s (Ok (Some (said.Fabric name capacity))) = refl
fabrics-step s (Ok (Some (said.Tenant name source fabric budget))) = sym (append-nil s.fabrics)
fabrics-step s (Ok (Some (said.File tenant name path))) = sym (append-nil s.fabrics)
fabrics-step s (Ok (Some (said.Resume tenant path))) = sym (append-nil s.fabrics)
fabrics-step s (Ok (Some (said.At tenant tick order))) = sym (append-nil s.fabrics)
fabrics-step s (Ok (Some (said.Free tenant order))) = sym (append-nil s.fabrics)
fabrics-step s (Ok (Some (said.Watch tenant))) = sym (append-nil s.fabrics)

fabrics-fold : (ls : List (List ℕ)) (s : Script) → (fold (λ t l. with_said t (says l)) s ls).fabrics ≡ s.fabrics ++ flat_map (λ l. fabric_said (says l)) ls
fabrics-fold [] s = sym (append-nil s.fabrics)
fabrics-fold (l ∷ ls) s =
    fabrics-fold ls (with_said s (says l)) ∙ ap (λ fs. fs ++ flat_map (λ l. fabric_said (says l)) ls) (fabrics-step s (says l))
    ∙ append_assoc s.fabrics (fabric_said (says l)) (flat_map (λ l. fabric_said (says l)) ls)

pub fabrics : (ls : List (List ℕ)) → (script_of ls).fabrics ≡ flat_map (λ l. fabric_said (says l)) ls
fabrics ls = fabrics-fold ls nothing

kept-names : (s : Script) (tenant : List ℕ) (f : TenantLine → TenantLine) → ((t : TenantLine) → (f t).name ≡ t.name) → names (let r : Script = record { fabrics = s.fabrics; tenants = changed (tenant_number s tenant) f s.tenants; free = s.free } in r) ≡ names s ++ []
kept-names s tenant f keeps = names-stay f s.tenants (tenant_number s tenant) keeps ∙ sym (append-nil (names s))

tenants-step : (s : Script) (r : Result (Option Statement) ℕ) → names (with_said s r) ≡ names s ++ tenant_said r
tenants-step s (Err cause) = sym (append-nil (names s))
tenants-step s (Ok None) = sym (append-nil (names s))
tenants-step s (Ok (Some (said.Fabric name capacity))) = sym (append-nil (names s))
tenants-step s (Ok (Some (said.Tenant name source fabric budget))) = map-append (λ (t : TenantLine). t.name) s.tenants (new_tenant s name source fabric budget ∷ [])
tenants-step s (Ok (Some (said.File tenant name path))) = kept-names s tenant (with_file (record { name = name; path = path })) (λ t. refl)
tenants-step s (Ok (Some (said.Resume tenant path))) = kept-names s tenant (resumed path) (λ t. refl)
tenants-step s (Ok (Some (said.At tenant tick order))) = kept-names s tenant (sent (record { tick = tick; due = due_of s order })) (λ t. refl)
tenants-step s (Ok (Some (said.Free tenant order))) = sym (append-nil (names s))
tenants-step s (Ok (Some (said.Watch tenant))) = sym (append-nil (names s))

tenants-fold : (ls : List (List ℕ)) (s : Script) → names (fold (λ t l. with_said t (says l)) s ls) ≡ names s ++ flat_map (λ l. tenant_said (says l)) ls
tenants-fold [] s = sym (append-nil (names s))
tenants-fold (l ∷ ls) s =
    tenants-fold ls (with_said s (says l)) ∙ ap (λ ns. ns ++ flat_map (λ l. tenant_said (says l)) ls) (tenants-step s (says l))
    ∙ append_assoc (names s) (tenant_said (says l)) (flat_map (λ l. tenant_said (says l)) ls)

pub tenants : (ls : List (List ℕ)) → names (script_of ls) ≡ flat_map (λ l. tenant_said (says l)) ls
tenants ls = tenants-fold ls nothing
