-- A script that is read keeps to its limits.
use Rattle.std.specs.Prelude.{zero, suc}
use Rattle.std.proofs.Common.{◌≡◌, ℕ, ◌+◌, ◌<◌, ◌≤◌, Bool, true, false, not, ◌&&◌, ◌==◌, nat_le, if◌then◌else◌, List, [], ◌∷◌, ◌++◌, length, map, slice_get, Option, Some, None, is_some, unwrap_or, Result, Ok, Err, refl, sym, ap, ◌∙◌, append_assoc, append-nil, subst, arith}
use Rattle.std.specs.List.{AllByRecursion, IsDistinct, list_any}
use Rattle.std.specs.Option.{option_map_or}
use Rattle.std.proofs.lemmas.Bool.{leb-false, not-false, or_parts}
use Rattle.std.proofs.lemmas.Bool.Decides.{nat_tests}
use Rattle.std.proofs.lemmas.Cmp.{nat_list_eq_equiv}
use Rattle.std.proofs.lemmas.List.{length-append, length-map}
use Rattle.std.proofs.lemmas.List.Sums.{fold-append}
use Rattle.host_text.specs.Words.{lines}
use Rattle.host_text.specs.Statements.{Statement, says}
use Rattle.host_text.specs.Statements as said
use Rattle.host_text.specs.declared.script.FabricLine.{FabricLine}
use Rattle.host_text.specs.declared.script.FileLine.{FileLine}
use Rattle.ten_plan.specs.declared.plan.Due.{Due}
use Rattle.ten_plan.specs.declared.plan.Due.TheVariants as due
use Rattle.ten_plan.specs.declared.plan.Errand.{Errand}
use Rattle.host_text.specs.declared.script.TenantLine.{TenantLine}
use Rattle.host_text.specs.declared.script.Free.{Free}
use Rattle.host_text.specs.declared.script.Free.TheVariants as free
use Rattle.host_text.specs.declared.script.Script.{Script}
use Rattle.host_text.specs.Scripts.{fabric_number, tenant_number, tenant_at, changed_at, changed, with_tenant, comes_before, with_errand, due_of, free_of, nothing, new_tenant, with_file, resumed, sent, with_free, with_statement}
use Rattle.host_text.specs.Causes.{has_fabric, has_tenant, of_tenant, lacks_fabric, is_doubled, has_errand, is_repeated, is_undeclared, is_clashing, is_full, cause_of}
use Rattle.host_text.specs.Reading.{with_said, script_of, cause_behind, line_cause, first_fault, is_bare, reading_of, reading}
use Rattle.host_text.specs.Laws.{is_same_due, are_doubled, IsDue, IsTenant, IsFree, IsWithinLimits}
use Rattle.host_text.proofs.Apart.{some_none, err_ok}
use Rattle.host_text.proofs.Changes.{length-changed}
use Rattle.host_text.proofs.Numbers.{number-within}
use Rattle.host_text.proofs.Ordered.{all-with, ordered-with}
use Rattle.host_text.proofs.Readings.{both-none, reading-of}
use Rattle.host_text.proofs.Rooms.{no-cause}
pub use Rattle.ten_plan.specs.vl_base.proofs.Lists.{all_push as all-more}
use Rattle.ten_plan.specs.vl_base.proofs.Lists.{all_weaker_of as all-of}

-- ---- lists

-- ---- errands

same-flips : (a b : Due) → is_same_due a b ≡ is_same_due b a
same-flips (due.Save a) (due.Save b) = nat_list_eq_equiv.symm a b
same-flips (due.Save a) (due.Move f) = refl
same-flips (due.Save a) due.Stop = refl
same-flips (due.Move f) (due.Save b) = refl
same-flips (due.Move f) (due.Move g) = refl
same-flips (due.Move f) due.Stop = refl
same-flips due.Stop (due.Save b) = refl
same-flips due.Stop (due.Move g) = refl
same-flips due.Stop due.Stop = refl

equal-flips : (m n : ℕ) → (m == n) ≡ (n == m)
equal-flips m n = grind (arith, nat_tests)

doubled-flips : (a b : Errand) → are_doubled a b ≡ are_doubled b a
doubled-flips a b = ap (λ c. c && is_same_due a.due b.due) (equal-flips a.tick b.tick) ∙ ap (λ c. b.tick == a.tick && c) (same-flips a.due b.due)

-- an order that may not stand beside what is due is such an errand
doubled-order : (s : Script) (order : said.Order) (d : Due) → is_doubled order d ≡ is_same_due d (due_of s order)
doubled-order s (said.Move f) (due.Save b) = refl
doubled-order s (said.Move f) (due.Move g) = refl
doubled-order s (said.Move f) due.Stop = refl
doubled-order s (said.Save a) (due.Save b) = refl
doubled-order s (said.Save a) (due.Move g) = refl
doubled-order s (said.Save a) due.Stop = refl
doubled-order s said.Stop (due.Save b) = refl
doubled-order s said.Stop (due.Move g) = refl
doubled-order s said.Stop due.Stop = refl

undoubled : (s : Script) (e : Errand) (order : said.Order) (xs : List Errand) → e.due ≡ due_of s order → list_any (λ x. x.tick == e.tick && is_doubled order x.due) xs ≡ false
    → AllByRecursion (λ x. are_doubled x e ≡ false) xs
undoubled s e order [] is none = tt
undoubled s e order (x ∷ xs) is none =
    let both = or_parts (x.tick == e.tick && is_doubled order x.due) (list_any (λ x. x.tick == e.tick && is_doubled order x.due) xs) none in
    let same : is_same_due x.due e.due ≡ is_doubled order x.due = ap (is_same_due x.due) is ∙ sym (doubled-order s order x.due) in
    (ap (λ b. x.tick == e.tick && b) same ∙ both.0, undoubled s e order xs is both.1)

apart-with : (e : Errand) (xs : List Errand) → AllByRecursion (λ x. are_doubled x e ≡ false) xs → IsDistinct are_doubled xs → IsDistinct are_doubled (with_errand e xs)
unfolding IsDistinct
apart-with e [] h a = (tt, tt)
apart-with e (x ∷ xs) h a = by (comes_before e x) (apart-with e xs h.1 a.1)
  where
    by : (b : Bool) → IsDistinct are_doubled (with_errand e xs) → IsDistinct are_doubled (if b then e ∷ x ∷ xs else x ∷ with_errand e xs)
    by true rest = (all-of (λ y. are_doubled y e ≡ false) (λ y. are_doubled e y ≡ false) (x ∷ xs) (λ y d. doubled-flips e y ∙ d) h, a)
    by false rest = (all-with (λ y. are_doubled x y ≡ false) e xs h.0 a.0, rest)

length-with : (e : Errand) (xs : List Errand) → length (with_errand e xs) ≡ length xs + 1
length-with e [] = omega arith
length-with e (x ∷ xs) = by (comes_before e x) (length-with e xs)
  where
    by : (b : Bool) → length (with_errand e xs) ≡ length xs + 1 → length (if b then e ∷ x ∷ xs else x ∷ with_errand e xs) ≡ length (x ∷ xs) + 1
    by true rest = omega arith
    by false rest = omega (arith, rest)

-- ---- more fabrics and tenants

due-more : (m n : ℕ) (d : Due) → m ≤ n → IsDue m d → IsDue n d
due-more m n (due.Save name) l h = tt
due-more m n (due.Move fabric) l h = omega (arith, l, h)
due-more m n due.Stop l h = tt

tenant-more : (m n : ℕ) (t : TenantLine) → m ≤ n → IsTenant m t → IsTenant n t
tenant-more m n t l h = record {
  fabric = omega (arith, l, h.fabric);
  files = h.files;
  errands = h.errands;
  moves = all-of (λ e. IsDue m e.due) (λ e. IsDue n e.due) t.errands (λ e d. due-more m n e.due l d) h.moves;
  ordered = h.ordered;
  apart = h.apart;
}

free-more : (m n j k : ℕ) (o : Free) → m ≤ n → j ≤ k → IsFree m j o → IsFree n k o
free-more m n j k (free.Move tenant fabric) l r h = (omega (arith, r, h.0), omega (arith, l, h.1))
free-more m n j k (free.Stop tenant) l r h = omega (arith, r, h)
free-more m n j k (free.Save tenant name) l r h = omega (arith, r, h)
free-more m n j k (free.Watch tenant) l r h = omega (arith, r, h)

-- ---- declared names

fabric-within : (s : Script) (name : List ℕ) → has_fabric s name ≡ true → unwrap_or (fabric_number s name) 0 < length s.fabrics
fabric-within s name e =
    let h = number-within (map (λ f. f.name) s.fabrics) name e in
    let count = length-map s.fabrics (λ (f : FabricLine). f.name) in
    omega (arith, h, count)

tenant-within : (s : Script) (name : List ℕ) → has_tenant s name ≡ true → unwrap_or (tenant_number s name) 0 < length s.tenants
tenant-within s name e =
    let h = number-within (map (λ t. t.name) s.tenants) name e in
    let count = length-map s.tenants (λ (t : TenantLine). t.name) in
    omega (arith, h, count)

due-within : (s : Script) (order : said.Order) → lacks_fabric s order ≡ false → IsDue (length s.fabrics) (due_of s order)
due-within s (said.Move fabric) e = fabric-within s fabric (not-false (has_fabric s fabric) e)
due-within s (said.Save name) e = tt
due-within s said.Stop e = tt

free-within : (m n tenant : ℕ) (d : Due) → tenant < n → IsDue m d → IsFree m n (free_of tenant d)
free-within m n tenant (due.Save name) l h = l
free-within m n tenant (due.Move fabric) l h = (l, h)
free-within m n tenant due.Stop l h = l

-- ---- a tenant changes

all-at : (P : TenantLine → Type 0) (p q : TenantLine → Bool) (f : TenantLine → TenantLine) (n : ℕ) (ts : List TenantLine)
    → option_map_or p (slice_get ts n) false ≡ false → option_map_or q (slice_get ts n) false ≡ false
    → ((t : TenantLine) → p t ≡ false → q t ≡ false → P t → P (f t)) → AllByRecursion P ts → AllByRecursion P (changed_at n f ts)
all-at P p q f n [] a b keeps h = tt
all-at P p q f zero (t ∷ ts) a b keeps h = (keeps t a b h.0, h.1)
all-at P p q f (suc n) (t ∷ ts) a b keeps h = (h.0, all-at P p q f n ts a b keeps h.1)

pub all-changed : (P : TenantLine → Type 0) (p q : TenantLine → Bool) (f : TenantLine → TenantLine) (o : Option ℕ) (ts : List TenantLine)
    → option_map_or p (tenant_at ts o) false ≡ false → option_map_or q (tenant_at ts o) false ≡ false
    → ((t : TenantLine) → p t ≡ false → q t ≡ false → P t → P (f t)) → AllByRecursion P ts → AllByRecursion P (changed o f ts)
all-changed P p q f None ts a b keeps h = h
all-changed P p q f (Some n) ts a b keeps h = all-at P p q f n ts a b keeps h

-- p and q are false of the tenant
tenant-changed : (s : Script) (name : List ℕ) (p q : TenantLine → Bool) (f : TenantLine → TenantLine) → of_tenant s name p ≡ false → of_tenant s name q ≡ false
    → ((t : TenantLine) → p t ≡ false → q t ≡ false → IsTenant (length s.fabrics) t → IsTenant (length s.fabrics) (f t)) → IsWithinLimits s → IsWithinLimits (with_tenant s name f)
tenant-changed s name p q f a b keeps h =
    let o = tenant_number s name in
    let count = length-changed f s.tenants o in
    let m = length s.fabrics in
    let j = length s.tenants in
    let k = length (changed o f s.tenants) in
    record {
      fabrics = h.fabrics;
      tenants = omega (arith, count, h.tenants);
      each = all-changed (IsTenant m) p q f o s.tenants a b keeps h.each;
      free = h.free;
      orders = all-of (IsFree m j) (IsFree m k) s.free (λ x g. free-more m m j k x (omega arith) (omega (arith, count)) g) h.orders;
    }

one-more : (s : Script) (x : Free) → length s.free < 256 → IsFree (length s.fabrics) (length s.tenants) x → IsWithinLimits s → IsWithinLimits (with_free s x)
one-more s x room is h = record {
  fabrics = h.fabrics;
  tenants = h.tenants;
  each = h.each;
  free = omega (arith, length-append s.free (x ∷ []), room);
  orders = all-more (IsFree (length s.fabrics) (length s.tenants)) s.free x h.orders is;
}

-- ---- a statement without a cause

fabric-step : (s : Script) (line : FabricLine) → length s.fabrics < 8 → IsWithinLimits s
    → IsWithinLimits (let t : Script = record { fabrics = s.fabrics ++ line ∷ []; tenants = s.tenants; free = s.free } in t)
fabric-step s line room h =
    let m = length s.fabrics in
    let n = length (s.fabrics ++ line ∷ []) in
    let j = length s.tenants in
    let count = length-append s.fabrics (line ∷ []) in
    record {
      fabrics = omega (arith, count, room);
      tenants = h.tenants;
      each = all-of (IsTenant m) (IsTenant n) s.tenants (λ t g. tenant-more m n t (omega (arith, count)) g) h.each;
      free = h.free;
      orders = all-of (IsFree m j) (IsFree n j) s.free (λ x g. free-more m n j j x (omega (arith, count)) (omega arith) g) h.orders;
    }

tenant-step : (s : Script) (t : TenantLine) → length s.tenants < 64 → IsTenant (length s.fabrics) t → IsWithinLimits s
    → IsWithinLimits (let u : Script = record { fabrics = s.fabrics; tenants = s.tenants ++ t ∷ []; free = s.free } in u)
tenant-step s t room is h =
    let m = length s.fabrics in
    let j = length s.tenants in
    let k = length (s.tenants ++ t ∷ []) in
    let count = length-append s.tenants (t ∷ []) in
    record {
      fabrics = h.fabrics;
      tenants = omega (arith, count, room);
      each = all-more (IsTenant m) s.tenants t h.each is;
      free = h.free;
      orders = all-of (IsFree m j) (IsFree m k) s.free (λ x g. free-more m m j k x (omega arith) (omega (arith, count)) g) h.orders;
    }

new-within : (s : Script) (name source fabric : List ℕ) (budget : ℕ) → has_fabric s fabric ≡ true → IsTenant (length s.fabrics) (new_tenant s name source fabric budget)
unfolding IsDistinct
new-within s name source fabric budget e = record { fabric = fabric-within s fabric e; files = omega arith; errands = omega arith; moves = tt; ordered = tt; apart = tt }

file-within : (m : ℕ) (f : FileLine) (t : TenantLine) → length t.files < 16 → IsTenant m t → IsTenant m (with_file f t)
file-within m f t room h = record {
  fabric = h.fabric;
  files = omega (arith, length-append t.files (f ∷ []), room);
  errands = h.errands;
  moves = h.moves;
  ordered = h.ordered;
  apart = h.apart;
}

resumed-within : (m : ℕ) (path : List ℕ) (t : TenantLine) → IsTenant m t → IsTenant m (resumed path t)
resumed-within m path t h = record { fabric = h.fabric; files = h.files; errands = h.errands; moves = h.moves; ordered = h.ordered; apart = h.apart }

sent-within : (m : ℕ) (e : Errand) (t : TenantLine) → length t.errands < 256 → IsDue m e.due → AllByRecursion (λ x. are_doubled x e ≡ false) t.errands → IsTenant m t → IsTenant m (sent e t)
sent-within m e t room goes single h = record {
  fabric = h.fabric;
  files = h.files;
  errands = omega (arith, length-with e t.errands, room);
  moves = all-with (λ x. IsDue m x.due) e t.errands goes h.moves;
  ordered = ordered-with e t.errands h.ordered;
  apart = apart-with e t.errands single h.apart;
}

errand-step : (s : Script) (tenant : List ℕ) (tick : ℕ) (order : said.Order) → lacks_fabric s order ≡ false → of_tenant s tenant (has_errand tick order) ≡ false
    → of_tenant s tenant (λ t. nat_le 256 (length t.errands)) ≡ false → IsWithinLimits s → IsWithinLimits (with_statement s (said.At tenant tick order))
errand-step s tenant tick order known single room h =
    let e : Errand = record { tick = tick; due = due_of s order } in
    tenant-changed s tenant (has_errand tick order) (λ t. nat_le 256 (length t.errands)) (sent e) single room
    (λ t a b g. sent-within (length s.fabrics) e t (leb-false 256 (length t.errands) b) (due-within s order known) (undoubled s e order t.errands refl a) g) h

pub causes : (s : Script) (x : Statement) → cause_of s x ≡ None → (is_repeated s x ≡ false) × (is_undeclared s x ≡ false) × (is_clashing s x ≡ false) × (is_full s x ≡ false)
causes s x e = no-cause (is_repeated s x) (is_undeclared s x) (is_clashing s x) (is_full s x) e

step : (s : Script) (x : Statement) → cause_of s x ≡ None → IsWithinLimits s → IsWithinLimits (with_statement s x)
step s (said.Fabric name capacity) e h =
    fabric-step s (record { name = name; capacity = capacity }) (leb-false 8 (length s.fabrics) (causes s (said.Fabric name capacity) e).3) h
step s (said.Tenant name source fabric budget) e h =
    let none = causes s (said.Tenant name source fabric budget) e in
    tenant-step s (new_tenant s name source fabric budget) (leb-false 64 (length s.tenants) none.3) (new-within s name source fabric budget (not-false (has_fabric s fabric) none.1)) h
step s (said.File tenant name path) e h =
    let none = causes s (said.File tenant name path) e in
    let full = λ (t : TenantLine). nat_le 16 (length t.files) in
    let file : FileLine = record { name = name; path = path } in
    tenant-changed s tenant full full (with_file file) none.3 none.3 (λ t a b g. file-within (length s.fabrics) file t (leb-false 16 (length t.files) a) g) h
step s (said.Resume tenant path) e h =
    let none = causes s (said.Resume tenant path) e in
    let given = λ (t : TenantLine). is_some t.resume in
    tenant-changed s tenant given given (resumed path) none.0 none.0 (λ t a b g. resumed-within (length s.fabrics) path t g) h
step s (said.At tenant tick order) e h =
    let none = causes s (said.At tenant tick order) e in
    errand-step s tenant tick order (or_parts (not (has_tenant s tenant)) (lacks_fabric s order) none.1).1 none.2 none.3 h
step s (said.Free tenant order) e h =
    let none = causes s (said.Free tenant order) e in
    let both = or_parts (not (has_tenant s tenant)) (lacks_fabric s order) none.1 in
    let number = unwrap_or (tenant_number s tenant) 0 in
    let there : number < length s.tenants = tenant-within s tenant (not-false (has_tenant s tenant) both.0) in
    one-more s (free_of number (due_of s order)) (leb-false 256 (length s.free) none.3)
    (free-within (length s.fabrics) (length s.tenants) number (due_of s order) there (due-within s order both.1)) h
step s (said.Watch tenant) e h =
    let none = causes s (said.Watch tenant) e in
    one-more s (free.Watch (unwrap_or (tenant_number s tenant) 0)) (leb-false 256 (length s.free) none.3) (tenant-within s tenant (not-false (has_tenant s tenant) none.1)) h

-- ---- lines without a cause

line-step : (s : Script) (r : Result (Option Statement) ℕ) → cause_behind s r ≡ None → IsWithinLimits s → IsWithinLimits (with_said s r)
line-step s (Err cause) e h = absurd (some_none cause e)
line-step s (Ok None) e h = h
line-step s (Ok (Some x)) e h = step s x e h

begun : IsWithinLimits nothing
begun = record { fabrics = omega arith; tenants = omega arith; each = tt; free = omega arith; orders = tt }

-- what each line without a cause keeps
module _ (P : Script → Type 0) (keeps : (s : Script) (l : List ℕ) → cause_behind s (says l) ≡ None → P s → P (with_said s (says l))) (first : P nothing) where
  steps : (above ls : List (List ℕ)) → first_fault above ls ≡ None → P (script_of above) → P (script_of (above ++ ls))
  steps above [] e h = subst (λ (xs : List (List ℕ)). P (script_of xs)) (sym (append-nil above)) h
  steps above (x ∷ ls) e h =
      let both = both-none _ (line_cause above x) (first_fault (above ++ x ∷ []) ls) e in
      let next = keeps (script_of above) x both.0 h in
      let one : P (script_of (above ++ x ∷ [])) = subst P (sym (fold-append (λ s l. with_said s (says l)) nothing above (x ∷ []))) next in
      subst (λ (xs : List (List ℕ)). P (script_of xs)) (append_assoc above (x ∷ []) ls) (steps (above ++ x ∷ []) ls both.1 one)

  from : (ls : List (List ℕ)) (o : Option (ℕ × ℕ)) (s : Script) → first_fault [] ls ≡ o → reading_of ls o ≡ Ok s → P (script_of ls)
  from ls None s e h = steps [] ls e first
  from ls (Some f) s e h = absurd (err_ok (reading_of ls (Some f)) f s refl h)

  -- holds of a script that is read
  pub kept-by-lines : (bytes : List ℕ) (s : Script) → reading bytes ≡ Ok s → P s
  kept-by-lines bytes s e = subst P (sym (reading-of bytes s e).is) (from (lines bytes) (first_fault [] (lines bytes)) s refl e)

pub within : (bytes : List ℕ) (s : Script) → reading bytes ≡ Ok s → IsWithinLimits s
within bytes s e = kept-by-lines IsWithinLimits (λ t l none h. line-step t (says l) none h) begun bytes s e

pub not-bare : (bytes : List ℕ) (s : Script) → reading bytes ≡ Ok s → is_bare s ≡ false
not-bare bytes s e = let a = reading-of bytes s e in ap is_bare a.is ∙ a.whole
