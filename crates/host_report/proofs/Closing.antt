-- What a tenant that has ended leaves behind.
use Rattle.std.proofs.Common.{◌≡◌, ℕ, List, [], ◌∷◌, Bool, Option, Some, refl, sym, ap, ◌∙◌, subst}
use Rattle.std.specs.Prelude.{map, true, false, if◌then◌else◌}
use Rattle.std.specs.Arc.{arc_value}
use Rattle.std.specs.List.{AllByRecursion}
use Rattle.ten_files.specs.vl_design.specs.declared.design.End.{End}
use Rattle.ten_files.specs.vl_design.specs.declared.design.End.TheVariants.{Stopped}
use Rattle.ten_files.specs.vl_design.specs.Alone.{Boundary, Keeps, reason_at}
use Rattle.ten_files.specs.vl_design.specs.Queue.{Queue}
use Rattle.ten_files.specs.vl_design.specs.Syntax.{Row}
use Rattle.ten_files.specs.vl_design.specs.Trees.{flat_of}
use Rattle.ten_files.specs.vl_design.proofs.Settling.{boundary_once}
use Rattle.host_files.specs.elab_laws.specs.Names.{is_named}
use Rattle.fab_model.specs.snap_form.specs.Spelling.{IsSnapshot}
use Rattle.fab_model.specs.ten_core.specs.declared.origin.Origin.{Origin}
use Rattle.fab_model.specs.ten_core.specs.Holding.{CanBeHeld}
use Rattle.fab_model.specs.ten_parcel.specs.declared.parcel.Parcel.{Parcel}
use Rattle.fab_model.specs.ten_parcel.specs.declared.parcel.Parcel.TheVariants as parcel
use Rattle.fab_model.specs.ten_parcel.specs.Parcels.{run_of, ticks_of, origin_in, free_of, is_stopped, IsParcel}
use Rattle.fab_model.specs.ten_plan.specs.declared.held.Saved.{Saved}
use Rattle.fab_model.specs.ten_plan.specs.Held.{saved_of, snapshot_of}
use Rattle.fab_model.specs.ten_plan.specs.Written.{written}
use Rattle.fab_model.specs.declared.transit.Transit.{Transit}
use Rattle.host_files.specs.declared.kept.Kept.{Kept}
use Rattle.host_files.specs.Kept.{saved_in, CanBeWritten}
use Rattle.host_report.specs.Ends.{alone, stopped, EndsSo}
use Rattle.host_report.specs.Telling.{IsKeptBy, IsTellable}

not-stopped : (b : Bool) (x : Option End) → b ≡ false → (if b then Some Stopped else x) ≡ x
not-stopped b x e = rw e refl

was-stopped : (b : Bool) (x : Option End) → b ≡ true → (if b then Some Stopped else x) ≡ Some Stopped
was-stopped b x e = rw e refl

-- where its run has come to, however it ended
ends-at : (p : Parcel) (reason : End) (last : Queue) → EndsSo p reason last → Boundary (run_of p) (ticks_of p) last
ends-at p reason last (alone n e) = e.at
ends-at p reason last (stopped y r b w) = b

pub some-end : (a b : End) → ◌≡◌ {A = Option End} (Some a) (Some b) → a ≡ b
some-end a b e = cc

held-in : (p : Parcel) → IsParcel p → CanBeHeld (flat_of (origin_in p).image.design)
held-in (parcel.Rests t) is = is.on.held
held-in (parcel.Over x) is = is.can.begins.held

writable : (rows : List Row) (xs : List Saved) → AllByRecursion (λ s. is_named s.name ≡ true) (map (saved_of rows) xs)
    → AllByRecursion (λ s. IsSnapshot (written (snapshot_of rows s.held))) xs → AllByRecursion CanBeWritten (map (saved_of rows) xs)
writable rows [] names snapshots = tt
writable rows (x ∷ xs) names snapshots = (record { name = names.0; snapshot = snapshots.0 }, writable rows xs names.1 snapshots.1)

module _ (e : Transit) (t : IsTellable e) where
  -- why it has ended
  pub reason-is : (r : Option End)
      → ((q : Queue) → Boundary (run_of e.parcel) (ticks_of e.parcel) q → r ≡ (if is_stopped e.parcel then Some Stopped else reason_at (run_of e.parcel).plan (ticks_of e.parcel) q)) → r ≡ Some t.end
  reason-is r h = by t.ends
    where
      by : EndsSo e.parcel t.end t.last → r ≡ Some t.end
      by (alone n x) = h t.last x.at ∙ not-stopped (is_stopped e.parcel) (reason_at (run_of e.parcel).plan (ticks_of e.parcel) t.last) n ∙ x.why
      by (stopped y s b w) =
          h t.last b ∙ was-stopped (is_stopped e.parcel) (reason_at (run_of e.parcel).plan (ticks_of e.parcel) t.last) y ∙ ap (λ (x : End). Some x) (sym s)

  at-last : Boundary (run_of e.parcel) (ticks_of e.parcel) t.last
  at-last = ends-at e.parcel t.end t.last t.ends

  -- what is said of one state at its boundary is said of the last
  pub count-is : (n : ℕ) → (q : Queue) × Boundary (run_of e.parcel) (ticks_of e.parcel) q × (q.state.count ≡ n) → n ≡ t.last.state.count
  count-is n (q, b, k) = sym k ∙ ap (λ (z : Queue). z.state.count) (boundary_once b at-last)

  pub printed-is : (bytes : List ℕ) → (q : Queue) × Boundary (run_of e.parcel) (ticks_of e.parcel) q × (q.state.printed ≡ bytes) → bytes ≡ t.last.state.printed
  printed-is bytes (q, b, k) = sym k ∙ ap (λ (z : Queue). z.state.printed) (boundary_once b at-last)

  -- what it keeps
  pub kept-by : (k : Kept) → arc_value k.origin ≡ origin_in e.parcel
      → Keeps (run_of e.parcel) (free_of e.parcel) (ticks_of e.parcel) (map (saved_of (run_of e.parcel).flat.rows) k.saved.items)
      → AllByRecursion (λ s. IsSnapshot (written (snapshot_of (flat_of (arc_value k.origin).image.design).rows s.held))) k.saved.items → IsKeptBy e k
  kept-by k origin keeps snapshots =
      let here : Keeps (run_of e.parcel) (free_of e.parcel) (ticks_of e.parcel) (saved_in k) =
      subst (λ (x : Origin). Keeps (run_of e.parcel) (free_of e.parcel) (ticks_of e.parcel) (map (saved_of (flat_of x.image.design).rows) k.saved.items)) (sym origin) keeps in
      record {
        origin = origin;
        keeps = here;
        can = record {
          design = subst (λ (x : Origin). CanBeHeld (flat_of x.image.design)) (sym origin) (held-in e.parcel t.parcel);
          each = writable (flat_of (arc_value k.origin).image.design).rows k.saved.items (t.named (saved_in k) here) snapshots;
        };
      }
