-- A tenant among others is changed.
use Rattle.std.specs.Prelude.{zero, suc}
use Rattle.std.proofs.Common.{◌≡◌, ℕ, ◌<◌, ◌≤◌, List, [], ◌∷◌, length, map, set, get_or, Option, Some, None, refl, ap, ◌∙◌, arith}
use Rattle.host_text.specs.declared.script.TenantLine.{TenantLine}
use Rattle.host_text.specs.declared.draft.Draft.{Draft}
use Rattle.host_text.specs.Scripts.{changed_at, changed}
use Rattle.host_text.specs.Drafts.{tenant_line}

pub changed-set : (f : TenantLine → TenantLine) (ds : List Draft) (n : ℕ) (old new : Draft) → n < length ds → old ≡ get_or ds n old → tenant_line new ≡ f (tenant_line old)
    → map tenant_line (set ds n new) ≡ changed_at n f (map tenant_line ds)
changed-set f [] n old new l e h = absurd (omega (arith, l))
changed-set f (d ∷ ds) zero old new l e h = ap (λ t. t ∷ map tenant_line ds) (h ∙ ap (λ (x : Draft). f (tenant_line x)) e)
changed-set f (d ∷ ds) (suc n) old new l e h = ap (λ ts. tenant_line d ∷ ts) (changed-set f ds n old new (omega (arith, l)) e h)

pub changed-past : (f : TenantLine → TenantLine) (ts : List TenantLine) (n : ℕ) → length ts ≤ n → changed_at n f ts ≡ ts
changed-past f [] n l = refl
changed-past f (t ∷ ts) zero l = absurd (omega (arith, l))
changed-past f (t ∷ ts) (suc n) l = ap (λ us. t ∷ us) (changed-past f ts n (omega (arith, l)))

names-at : (f : TenantLine → TenantLine) (ts : List TenantLine) (n : ℕ) → ((t : TenantLine) → (f t).name ≡ t.name) → map (λ t. t.name) (changed_at n f ts) ≡ map (λ t. t.name) ts
names-at f [] n h = refl
names-at f (t ∷ ts) zero h = ap (λ x. x ∷ map (λ t. t.name) ts) (h t)
names-at f (t ∷ ts) (suc n) h = ap (λ xs. t.name ∷ xs) (names-at f ts n h)

-- names stay
pub names-stay : (f : TenantLine → TenantLine) (ts : List TenantLine) (o : Option ℕ) → ((t : TenantLine) → (f t).name ≡ t.name) → map (λ t. t.name) (changed o f ts) ≡ map (λ t. t.name) ts
names-stay f ts None h = refl
names-stay f ts (Some n) h = names-at f ts n h

length-at : (f : TenantLine → TenantLine) (ts : List TenantLine) (n : ℕ) → length (changed_at n f ts) ≡ length ts
length-at f [] n = refl
length-at f (t ∷ ts) zero = refl
length-at f (t ∷ ts) (suc n) = ap (λ k. suc k) (length-at f ts n)

pub length-changed : (f : TenantLine → TenantLine) (ts : List TenantLine) (o : Option ℕ) → length (changed o f ts) ≡ length ts
length-changed f ts None = refl
length-changed f ts (Some n) = length-at f ts n
