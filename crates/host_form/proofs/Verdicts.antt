-- A tenant has an origin or is refused.
use Rattle.std.proofs.Common.{◌≡◌, ◌⊎◌, inl, inr, ℕ, ◌<◌, Bool, true, false, nat_lt, List, length, slice_get, Option, Some, None, Result, Ok, Err, refl, sym, subst, ap, ap₂, ◌∙◌, arith}
use Rattle.std.proofs.lemmas.Bool.{ltb-true, ltb-false}
use Rattle.host_text.specs.vl_base.specs.declared.files.File.{File}
use Rattle.host_text.specs.vl_base.specs.declared.place.Place.{Place}
use Rattle.host_text.specs.vl_design.specs.Syntax.{Flat}
use Rattle.host_text.specs.vl_design.specs.Cost.{cost}
use Rattle.host_text.specs.vl_design.specs.Snapshots as run
use Rattle.host_text.specs.vl_design.specs.Alone.{Plan, Origin}
use Rattle.host_text.specs.declared.script.FabricLine.{FabricLine}
use Rattle.host_text.specs.snap_form.specs.declared.snapshot.SnapRow.{SnapRow}
use Rattle.host_text.specs.snap_form.specs.declared.snapshot.Snapshot.{Snapshot}
use Rattle.host_text.specs.snap_form.specs.declared.snapshot.SnapError.{SnapError}
use Rattle.host_text.specs.snap_form.specs.declared.snapshot.SnapError.TheVariants as snap
use Rattle.host_text.specs.snap_form.specs.Reading.{read, at_offset, snapshot_at}
use Rattle.host_text.specs.ten_plan.specs.Written.{kept}
use Rattle.host_form.specs.Origins.{Source, Accepted, Faulty, Tenant, fits, fits_in, has_room, plan_of, rows_of, Starts, anew, resumed, StartsNot, misspelt, late, IsOrigin, no_place, cost_kind, snapshot_kind, IsRefused, for_its_source, for_its_cost, for_its_snapshot}
use Rattle.host_form.proofs.Once.{some_is}

abbrev Judged : List FabricLine → Tenant → Type 0
Judged fabrics t = ((o : Origin) × IsOrigin fabrics t o) ⊎ ((place : Place) × (kind : List ℕ) × IsRefused fabrics t place kind)

-- ---- one or the other

no_memory : (rows : List SnapRow) (files : List File) (bytes : List ℕ) → read rows files bytes ≡ Err snap.Memory → ⊥
no_memory rows files bytes =
    elim (snapshot_at rows files bytes) as (λ r. at_offset (length bytes) r ≡ Err snap.Memory → ⊥) [
      | Ok s ↦ λ e. (let z : ⊥ = cc in z)
      | Err f ↦ λ e. (let z : ⊥ = cc in z)
    ]

module _ (d : Flat) (files : List File) (budget : ℕ) where
  by-tick : {bytes : List ℕ} (s : Snapshot) → read (rows_of d) files bytes ≡ Ok s → (b : Bool) → nat_lt budget s.tick ≡ b
      → ((start : Option run.Snapshot) × Starts d files budget (Some bytes) start) ⊎ ((fault : ℕ) × StartsNot d files budget (Some bytes) fault)
  by-tick s e true l = inr (8, late s e (ltb-true budget s.tick l))
  by-tick s e false l = inl (Some (kept s), resumed s e (ltb-false budget s.tick l))

  by-read : (bytes : List ℕ) (x : Result Snapshot SnapError) → read (rows_of d) files bytes ≡ x
      → ((start : Option run.Snapshot) × Starts d files budget (Some bytes) start) ⊎ ((fault : ℕ) × StartsNot d files budget (Some bytes) fault)
  by-read bytes (Ok s) e = by-tick s e (nat_lt budget s.tick) refl
  by-read bytes (Err (snap.Bad fault offset)) e = inr (fault, misspelt fault offset e)
  by-read bytes (Err snap.Memory) e = absurd (no_memory (rows_of d) files bytes e)

  starts : (bytes : Option (List ℕ)) → ((start : Option run.Snapshot) × Starts d files budget bytes start) ⊎ ((fault : ℕ) × StartsNot d files budget bytes fault)
  starts None = inl (None, anew)
  starts (Some bytes) = by-read bytes (read (rows_of d) files bytes) refl

module _ (fabrics : List FabricLine) (fabric : FabricLine) (t : Tenant) (there : slice_get fabrics t.line.fabric ≡ Some fabric) where
  by-start : (d : Flat) → t.source ≡ Accepted d → has_room fabrics (cost d) t.line.fabric ≡ true
      → ((start : Option run.Snapshot) × Starts d t.files t.line.budget t.snapshot start) ⊎ ((fault : ℕ) × StartsNot d t.files t.line.budget t.snapshot fault) → Judged fabrics t
  by-start d e room (inl x) =
      inl (record { flat = d; files = t.files; plan = plan_of fabrics (cost d) t.line; resume = x.0 }, record { design = e; room = room; files = refl; plan = refl; start = x.1 })
  by-start d e room (inr x) = inr (no_place, snapshot_kind x.0, for_its_snapshot e room x.1 refl refl)

  by-room : (d : Flat) → t.source ≡ Accepted d → (b : Bool) → fits (cost d) fabric.capacity ≡ b → Judged fabrics t
  by-room d e false f = inr (no_place, cost_kind (cost d) fabric.capacity, for_its_cost e there f refl refl)
  by-room d e true f = by-start d e (ap (λ o. fits_in (cost d) o) there ∙ f) (starts d t.files t.line.budget t.snapshot)

  by-source : (x : Source) → t.source ≡ x → Judged fabrics t
  by-source (Accepted d) e = by-room d e (fits (cost d) fabric.capacity) refl
  by-source (Faulty place kind) e = inr (place, kind, for_its_source e)

pub either : (fabrics : List FabricLine) (fabric : FabricLine) (t : Tenant) → slice_get fabrics t.line.fabric ≡ Some fabric → Judged fabrics t
either fabrics fabric t there = by-source fabrics fabric t there t.source refl

-- ---- only one

pub accepted_is : {d e : Flat} → Accepted d ≡ Accepted e → d ≡ e
accepted_is h = cc

ok_is : {a b : Snapshot} → ◌≡◌ {A = Result Snapshot SnapError} (Ok a) (Ok b) → a ≡ b
ok_is h = cc

starts-once : {d : Flat} {files : List File} {budget : ℕ} {bytes : Option (List ℕ)} {a b : Option run.Snapshot} → Starts d files budget bytes a → Starts d files budget bytes b → a ≡ b
starts-once anew anew = refl
starts-once (resumed s e l) (resumed u f m) = ap (λ x. Some (kept x)) (ok_is (sym e ∙ f))

pub origin-once : (fabrics : List FabricLine) (t : Tenant) (o u : Origin) → IsOrigin fabrics t o → IsOrigin fabrics t u → o ≡ u
origin-once fabrics t o u h k =
    let design : o.flat ≡ u.flat = accepted_is (sym h.design ∙ k.design) in
    let files : o.files ≡ u.files = h.files ∙ sym k.files in
    let plan : o.plan ≡ u.plan = h.plan ∙ ap (λ d. plan_of fabrics (cost d) t.line) design ∙ sym k.plan in
    let start : o.resume ≡ u.resume = starts-once (subst (λ d. Starts d t.files t.line.budget t.snapshot o.resume) design h.start) k.start in
    ap₂ (λ (d : Flat) (f : List File). record { flat = d; files = f; plan = o.plan; resume = o.resume }) design files
    ∙ ap₂ (λ (p : Plan) (r : Option run.Snapshot). record { flat = u.flat; files = u.files; plan = p; resume = r }) plan start

starts_not : {d : Flat} {files : List File} {budget : ℕ} {bytes : Option (List ℕ)} {a : Option run.Snapshot} {fault : ℕ} → Starts d files budget bytes a → StartsNot d files budget bytes fault → ⊥
starts_not anew bad = elim bad [ ]
starts_not (resumed s e l) (misspelt fault offset f) = let z : ⊥ = let k = sym e ∙ f in cc in z
starts_not {budget = budget} (resumed s e l) (late u f m) = let same = ok_is (sym e ∙ f) in absurd (omega (arith, l, subst (λ x. budget < x.tick) (sym same) m))

fault-once : {d : Flat} {files : List File} {budget : ℕ} {bytes : Option (List ℕ)} {m n : ℕ} → StartsNot d files budget bytes m → StartsNot d files budget bytes n → m ≡ n
fault-once (misspelt m i e) (misspelt n j f) = let k = sym e ∙ f in cc
fault-once (misspelt m i e) (late u f l) = let z : ⊥ = let k = sym e ∙ f in cc in absurd z
fault-once (late s e l) (misspelt n j f) = let z : ⊥ = let k = sym e ∙ f in cc in absurd z
fault-once (late s e l) (late u f m) = refl

not-room : (fabrics : List FabricLine) (fabric : FabricLine) (n : ℕ) (d e : Flat) → slice_get fabrics n ≡ Some fabric → fits (cost d) fabric.capacity ≡ false → d ≡ e → has_room fabrics (cost e) n ≡ true → ⊥
not-room fabrics fabric n d e there small same room =
    let z = sym small ∙ ap (λ x. fits (cost x) fabric.capacity) same ∙ sym (ap (λ o. fits_in (cost e) o) there) ∙ room in
    let f : ⊥ = cc in f

pub not-both : (fabrics : List FabricLine) (t : Tenant) (o : Origin) (place : Place) (kind : List ℕ) → IsOrigin fabrics t o → IsRefused fabrics t place kind → ⊥
not-both fabrics t o place kind h (for_its_source e) = let z : ⊥ = let k = sym h.design ∙ e in cc in z
not-both fabrics t o place kind h (for_its_cost {d = d} {fabric = fabric} e there small p k) =
    not-room fabrics fabric t.line.fabric d o.flat there small (accepted_is (sym e ∙ h.design)) h.room
not-both fabrics t o place kind h (for_its_snapshot {fault = fault} e room bad p k) =
    starts_not h.start (subst (λ d. StartsNot d t.files t.line.budget t.snapshot fault) (accepted_is (sym e ∙ h.design)) bad)

faulty_is : {p q : Place} {k l : List ℕ} → Faulty p k ≡ Faulty q l → (p ≡ q) × (k ≡ l)
faulty_is h = (cc, cc)

pub refusal-once : (fabrics : List FabricLine) (t : Tenant) (p q : Place) (k l : List ℕ) → IsRefused fabrics t p k → IsRefused fabrics t q l → (p ≡ q) × (k ≡ l)
refusal-once fabrics t p q k l (for_its_source e) (for_its_source f) = faulty_is (sym e ∙ f)
refusal-once fabrics t p q k l (for_its_source e) (for_its_cost f there small x y) = let z : ⊥ = let w = sym e ∙ f in cc in absurd z
refusal-once fabrics t p q k l (for_its_source e) (for_its_snapshot f room bad x y) = let z : ⊥ = let w = sym e ∙ f in cc in absurd z
refusal-once fabrics t p q k l (for_its_cost e there small x y) (for_its_source f) = let z : ⊥ = let w = sym e ∙ f in cc in absurd z
refusal-once fabrics t p q k l (for_its_cost {d = d} {fabric = a} e there small x y) (for_its_cost {d = c} {fabric = b} f here tight u v) =
    let design : d ≡ c = accepted_is (sym e ∙ f) in
    let fabric : a ≡ b = some_is (sym there ∙ here) in
    (x ∙ sym u, y ∙ ap₂ (λ z w. cost_kind (cost z) w.capacity) design fabric ∙ sym v)
refusal-once fabrics t p q k l (for_its_cost {d = d} {fabric = a} e there small x y) (for_its_snapshot {d = c} f room bad u v) =
    absurd (not-room fabrics a t.line.fabric d c there small (accepted_is (sym e ∙ f)) room)
refusal-once fabrics t p q k l (for_its_snapshot e room bad x y) (for_its_source f) = let z : ⊥ = let w = sym e ∙ f in cc in absurd z
refusal-once fabrics t p q k l (for_its_snapshot {d = d} e room bad x y) (for_its_cost {d = c} {fabric = b} f here tight u v) =
    absurd (not-room fabrics b t.line.fabric c d here tight (accepted_is (sym f ∙ e)) room)
refusal-once fabrics t p q k l (for_its_snapshot {d = d} {fault = m} e room bad x y) (for_its_snapshot {d = c} {fault = n} f space worse u v) =
    let design : d ≡ c = accepted_is (sym e ∙ f) in
    let fault : m ≡ n = fault-once (subst (λ z. StartsNot z t.files t.line.budget t.snapshot m) design bad) worse in
    (x ∙ sym u, y ∙ ap (λ z. snapshot_kind z) fault ∙ sym v)
