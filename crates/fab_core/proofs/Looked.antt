-- What looking for a tenant of a number in a core gives.
use Rattle.std.proofs.Common.{◌≡◌, ℕ, List, refl, ap, sym, ◌∙◌, true, false, Some, None}
use Rattle.std.specs.Prelude.{◌==◌, is_some, Option}
use Rattle.std.specs.List.{position}
use Rattle.std.proofs.lemmas.Bool.{true≢false}
use Rattle.fab_model.specs.ten_parcel.specs.declared.tenant.Tenant.{Tenant}
use Rattle.fab_model.specs.Fabrics.{has, Fabric}
use Rattle.fab_core.specs.declared.cores.FabCore.{FabCore}
use Rattle.fab_core.specs.declared.resident.Resident.{Resident}
use Rattle.fab_core.specs.Standing.{IsFabric}
use Rattle.fab_core.proofs.Found.{has_here, has_line, has_none}
use Rattle.fab_core.proofs.Places.{resident_first, resident_none, waiter_first, waiter_none, HasNone, IsFirst}

abbrev pub place_in : ℕ → List Resident → Option ℕ
place_in t rs = position (λ r. r.tenant.shell.number == t) rs

abbrev pub place_of : ℕ → List Tenant → Option ℕ
place_of t ts = position (λ x. x.shell.number == t) ts

module _ (x : FabCore) (f : Fabric) (h : IsFabric x f) (t : ℕ) (o : Option ℕ) where
  module _ (rs : List Resident) (same : rs ≡ x.residents.items) (looked : o ≡ place_in t rs) where
    at_items : place_in t x.residents.items ≡ o
    at_items = ap (place_in t) (sym same) ∙ sym looked

    pub resident_at : (k : ℕ) → o ≡ Some k → IsFirst t f.residents k
    resident_at k e = resident_first x.joined x.residents.items f.residents t k h.residents (at_items ∙ e)

    pub resident_not : o ≡ None → HasNone t f.residents
    resident_not e = resident_none x.joined x.residents.items f.residents t h.residents (at_items ∙ e)

  module _ (ts : List Tenant) (same : ts ≡ x.line.items) (looked : o ≡ place_of t ts) where
    at_line : place_of t x.line.items ≡ o
    at_line = ap (place_of t) (sym same) ∙ sym looked

    pub waiter_at : (k : ℕ) → o ≡ Some k → IsFirst t f.line k
    waiter_at k e = waiter_first x.line.items f.line t k h.line (at_line ∙ e)

    pub waiter_not : o ≡ None → HasNone t f.line
    waiter_not e = waiter_none x.line.items f.line t h.line (at_line ∙ e)

-- a tenant of the number is found among the residents, or else in the line, where the fabric has it
pub has_resident : (x : FabCore) (f : Fabric) (t : ℕ) (o : Option ℕ) (rs : List Resident) → IsFabric x f → rs ≡ x.residents.items → o ≡ place_in t rs → is_some o ≡ true → has t f ≡ true
has_resident x f t (Some k) rs h same looked e = has_here t f k (resident_at x f h t (Some k) rs same looked k refl)
has_resident x f t None rs h same looked e = absurd (true≢false (sym e))

pub has_waiter : (x : FabCore) (f : Fabric) (t : ℕ) (o p : Option ℕ) (rs : List Resident) (ts : List Tenant) → IsFabric x f → rs ≡ x.residents.items → o ≡ place_in t rs → is_some o ≡ false →
    ts ≡ x.line.items → p ≡ place_of t ts → is_some p ≡ has t f
has_waiter x f t (Some k) p rs ts h same looked e same_line looked_line = absurd (true≢false e)
has_waiter x f t None (Some k) rs ts h same looked e same_line looked_line =
    sym (has_line t f (resident_not x f h t None rs same looked refl) k (waiter_at x f h t (Some k) ts same_line looked_line k refl))
has_waiter x f t None None rs ts h same looked e same_line looked_line =
    sym (has_none t f (resident_not x f h t None rs same looked refl) (waiter_not x f h t None ts same_line looked_line refl))
