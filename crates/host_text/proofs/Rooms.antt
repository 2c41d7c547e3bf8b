-- A statement without a cause.
use Rattle.std.proofs.Common.{◌≡◌, ℕ, ◌<◌, Bool, true, false, if◌then◌else◌, List, length, map, Option, Some, None, is_some, nat_le, refl, arith}
use Rattle.std.proofs.lemmas.Bool.{true≢false, leb-false}
use Rattle.std.proofs.lemmas.List.{length-map}
use Rattle.host_text.specs.declared.statement.Capacity.{Capacity}
use Rattle.host_text.specs.Statements as said
use Rattle.host_text.specs.declared.script.Script.{Script}
use Rattle.host_text.specs.declared.draft.Reading.{Reading}
use Rattle.host_text.specs.Scripts.{fabric_number, tenant_number}
use Rattle.host_text.specs.Causes.{is_repeated, is_undeclared, is_clashing, is_full, cause_of}
use Rattle.host_text.specs.Drafts.{tenant_line, drafted}
use Rattle.host_text.proofs.Apart.{some_none}
pub use Rattle.ten_plan.specs.vl_base.proofs.Options.{none_from as none-there}

abbrev least : Bool → Bool → Bool → Bool → Option ℕ
least a b c d = if a then Some 4 else if b then Some 5 else if c then Some 6 else if d then Some 7 else None

pub no-cause : (a b c d : Bool) → least a b c d ≡ None → (a ≡ false) × (b ≡ false) × (c ≡ false) × (d ≡ false)
no-cause true b c d e = absurd (some_none {A = ℕ} 4 e)
no-cause false true c d e = absurd (some_none {A = ℕ} 5 e)
no-cause false false true d e = absurd (some_none {A = ℕ} 6 e)
no-cause false false false true e = absurd (some_none {A = ℕ} 7 e)
no-cause false false false false e = (refl, refl, refl, refl)

-- a fabric is new, and has room
pub fabric-room : (s : Script) (name : List ℕ) (capacity : Capacity) → cause_of s (said.Fabric name capacity) ≡ None → (fabric_number s name ≡ None) × (length s.fabrics < 8)
fabric-room s name capacity e =
    let x = said.Fabric name capacity in
    let both = no-cause (is_repeated s x) (is_undeclared s x) (is_clashing s x) (is_full s x) e in
    (none-there (fabric_number s name) both.0, leb-false 8 (length s.fabrics) both.3)

-- a tenant is new, and has room
pub tenant-room : (r : Reading) (name source fabric : List ℕ) (budget : ℕ) → cause_of (drafted r) (said.Tenant name source fabric budget) ≡ None
    → (tenant_number (drafted r) name ≡ None) × (length r.tenants.items < 64)
tenant-room r name source fabric budget e =
    let x = said.Tenant name source fabric budget in
    let s = drafted r in
    let both = no-cause (is_repeated s x) (is_undeclared s x) (is_clashing s x) (is_full s x) e in
    let few : length (map tenant_line r.tenants.items) < 64 = leb-false 64 (length s.tenants) both.3 in
    (none-there (tenant_number s name) both.0, omega (arith, few, length-map r.tenants.items tenant_line))
