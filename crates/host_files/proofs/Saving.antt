-- The snapshots of tenants on their way to a store.
use Rattle.std.proofs.Common.{◌≡◌, ℕ, suc, List, [], ◌∷◌, length, subst, arith}
use Rattle.std.specs.Prelude.{Option, Result, Ok, Err, OnErr, map, option_map}
use Rattle.std.specs.Arc.{arc_value}
use Rattle.std.specs.List.{AllByRecursion}
use Rattle.host_form.specs.fab_io.specs.declared.store.WriteError.{WriteError}
use Rattle.host_form.specs.fab_io.specs.declared.store.WriteError.TheVariants.{Failed, Memory}
use Rattle.host_form.specs.fab_io.specs.Outside.{Files, with_file, ChangesOnly}
use Rattle.ten_core.specs.vl_design.specs.Syntax.{Row}
use Rattle.ten_core.specs.vl_design.specs.Trees.{flat_of}
use Rattle.host_form.specs.host_text.specs.declared.script.TenantLine.{TenantLine}
use Rattle.host_form.specs.host_text.specs.Laws.{IsSpeltTenant}
use Rattle.ten_core.specs.Holding.{CanBeHeld}
use Rattle.ten_core.specs.ten_plan.specs.declared.held.Saved.{Saved}
use Rattle.ten_core.specs.ten_plan.specs.Held.{saved_of}
use Rattle.host_form.specs.Saves.{path_of}
use Rattle.host_files.specs.declared.kept.Kept.{Kept}
use Rattle.host_files.specs.Kept.{saved_in, CanBeWritten, CanBeKept}
use Rattle.host_files.specs.Writes.{Write, writes_in, saved_of_kept, writes_of, LeavesFront, LosesOne}
use Rattle.host_files.proofs.Writing.{write_of, behind, AreWritten, more, front, lost-front, one-lost, unwritten, one-written}

pub on-err : {A : Type 0} {E : Type 0} {X : Type 0} (r : Result A E) → X → OnErr r X
on-err (Ok a) x = tt
on-err (Err e) x = x

-- ---- the snapshots of a tenant

module _ (tenant : List ℕ) (k : Kept) (told : Option Files) where
  abbrev pub rows : List Row
  rows = (flat_of (arc_value k.origin).image.design).rows

  abbrev pub writes : List Saved → List Write
  writes saved = writes_in tenant (map (saved_of rows) saved)

  -- these are left to be written, and the others are
  pub record IsSaving (rest : List Saved) (now : Option Files) : Type 0 where
    pub done : AreWritten (writes_in tenant (saved_in k)) (writes rest) told now
    pub left : AllByRecursion CanBeWritten (map (saved_of rows) rest)
    pub design : CanBeHeld (flat_of (arc_value k.origin).image.design)

  at-front : (xs ys : List Saved) (x : Saved) (now : Option Files) → xs ≡ x ∷ ys → IsSaving xs now → IsSaving (x ∷ ys) now
  at-front xs ys x now e s = subst (λ (zs : List Saved). IsSaving zs now) e s

  pub saving-more : (xs ys : List Saved) (x : Saved) (now after : Option Files) → xs ≡ x ∷ ys → IsSaving xs now
      → after ≡ option_map (with_file (write_of tenant (saved_of rows x)).path (write_of tenant (saved_of rows x)).bytes) now → IsSaving ys after
  saving-more xs ys x now after e s w =
      let f = at-front xs ys x now e s in
      let one = write_of tenant (saved_of rows x) in
      record { done = more (writes_in tenant (saved_in k)) (one ∷ []) (writes ys) told now after f.done (one-written one now after w); left = f.left.1; design = s.design }

  pub saving-front : (xs ys : List Saved) (x : Saved) (now after : Option Files) (error : WriteError) → xs ≡ x ∷ ys → IsSaving xs now
      → (error ≡ Failed → ChangesOnly now after (path_of tenant x.name)) → (error ≡ Memory → after ≡ now) → LeavesFront (writes_in tenant (saved_in k)) told after
  saving-front xs ys x now after error e s other same =
      let one = write_of tenant (saved_of rows x) in
      front (writes_in tenant (saved_in k)) (one ∷ []) (writes ys) told now after (at-front xs ys x now e s).done (unwritten one now after error other same)

  pub saving-lost : (xs ys : List Saved) (x : Saved) (now after : Option Files) → xs ≡ x ∷ ys → IsSaving xs now → ChangesOnly now after (path_of tenant x.name)
      → LosesOne (writes_in tenant (saved_in k)) told after
  saving-lost xs ys x now after e s changes =
      let one = write_of tenant (saved_of rows x) in
      lost-front (writes_in tenant (saved_in k)) (one ∷ []) (writes ys) told now after (at-front xs ys x now e s).done (one-lost one now after changes)

-- ---- those of all tenants

module _ (all : List Write) (told : Option Files) where
  -- the snapshots of these tenants are left to be written, and the others are
  pub record IsWriting (tenants : List TenantLine) (kept : List (Option Kept)) (now : Option Files) : Type 0 where
    pub done : AreWritten all (writes_of tenants kept) told now
    pub count : length kept ≡ length tenants
    pub spelt : AllByRecursion IsSpeltTenant tenants
    pub fit : AllByRecursion CanBeKept kept

  at-first : (ts us : List TenantLine) (t : TenantLine) (ks ls : List (Option Kept)) (k : Option Kept) (now : Option Files) → ts ≡ t ∷ us → ks ≡ k ∷ ls
      → IsWriting ts ks now → IsWriting (t ∷ us) (k ∷ ls) now
  at-first ts us t ks ls k now e f w =
      let half : IsWriting (t ∷ us) ks now = subst (λ (zs : List TenantLine). IsWriting zs ks now) e w in
      subst (λ (zs : List (Option Kept)). IsWriting (t ∷ us) zs now) f half

  pub writing-more : (ts us : List TenantLine) (t : TenantLine) (ks ls : List (Option Kept)) (k : Option Kept) (now after : Option Files) → ts ≡ t ∷ us → ks ≡ k ∷ ls
      → IsWriting ts ks now → after ≡ behind (writes_in t.name (saved_of_kept k)) now → IsWriting us ls after
  writing-more ts us t ks ls k now after e f w g =
      let a = at-first ts us t ks ls k now e f w in
      let both : suc (length ls) ≡ suc (length us) = a.count in
      record {
        done = more all (writes_in t.name (saved_of_kept k)) (writes_of us ls) told now after a.done g;
        count = omega (arith, both);
        spelt = a.spelt.1;
        fit = a.fit.1;
      }

  pub writing-front : (ts us : List TenantLine) (t : TenantLine) (ks ls : List (Option Kept)) (k : Option Kept) (now after : Option Files) → ts ≡ t ∷ us → ks ≡ k ∷ ls
      → IsWriting ts ks now → LeavesFront (writes_in t.name (saved_of_kept k)) now after → LeavesFront all told after
  writing-front ts us t ks ls k now after e f w g =
      front all (writes_in t.name (saved_of_kept k)) (writes_of us ls) told now after (at-first ts us t ks ls k now e f w).done g

  pub writing-lost : (ts us : List TenantLine) (t : TenantLine) (ks ls : List (Option Kept)) (k : Option Kept) (now after : Option Files) → ts ≡ t ∷ us → ks ≡ k ∷ ls
      → IsWriting ts ks now → LosesOne (writes_in t.name (saved_of_kept k)) now after → LosesOne all told after
  writing-lost ts us t ks ls k now after e f w g =
      lost-front all (writes_in t.name (saved_of_kept k)) (writes_of us ls) told now after (at-first ts us t ks ls k now e f w).done g
