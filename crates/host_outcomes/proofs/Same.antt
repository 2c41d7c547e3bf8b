-- The run that was run ends as that of the tenant's design, and keeps the same snapshots.
use Rattle.std.proofs.Common.{◌≡◌, ℕ, suc, ◌≤◌, List, [], ◌++◌, refl, sym, ap, ◌∙◌, subst, None}
use Rattle.std.specs.Prelude.{if◌then◌else◌}
use Rattle.ten_files.specs.vl_design.specs.declared.design.End.{End}
use Rattle.ten_files.specs.vl_design.specs.Syntax.{Row}
use Rattle.ten_files.specs.vl_design.specs.Queue.{Queue}
use Rattle.ten_files.specs.vl_design.specs.Alone.{first_tick, free_names, reason_at, save_names, Boundary, Ends, FreeSave, Keeps, Origin, Plan}
use Rattle.ten_files.specs.vl_design.specs.Observed.{observed, IsSameRun, Observed}
use Rattle.ten_files.specs.vl_design.specs.Snapshots.{all_saved, snap_rows, Saved}
use Rattle.ten_files.specs.vl_design.proofs.Same.{same_back, same_ends}
use Rattle.host_judge.specs.host_form.specs.Runs.{RunsAs}
use Rattle.ten_files.specs.vl_design.proofs.Same.{reason_same as same_reason}

-- the snapshots kept, by what is observed
abbrev seen_at : List Row → Plan → List FreeSave → List Saved → ℕ → Observed → List Saved
seen_at rows plan free saved k x =
    all_saved saved ((if x.finished then [] else x.saves ++ save_names k plan.errands) ++ free_names k free)
    (record { tick = x.ticks; rows = snap_rows rows; words = x.words; files = x.table })

module _ (o u : Origin) (runs : RunsAs o u) (rows : u.flat.rows ≡ o.flat.rows) where
  same_run : IsSameRun u o
  same_run = same_back o u runs.run

  same_saved : (free : List FreeSave) (saved : List Saved) (k : ℕ) (q r : Queue) → observed u.flat.rows q.state ≡ observed o.flat.rows r.state
      → seen_at o.flat.rows o.plan free saved k (observed o.flat.rows r.state) ≡ seen_at u.flat.rows u.plan free saved k (observed u.flat.rows q.state)
  same_saved free saved k q r seen =
      ap (seen_at o.flat.rows o.plan free saved k) (sym seen)
      ∙ ap (λ (rs : List Row). seen_at rs o.plan free saved k (observed u.flat.rows q.state)) (sym rows)
      ∙ ap (λ (p : Plan). seen_at u.flat.rows p free saved k (observed u.flat.rows q.state)) (sym runs.plan)

  -- what one run keeps, the other does
  pub keeps_same : {free : List FreeSave} {k : ℕ} {saved : List Saved} → Keeps u free k saved → Keeps o free k saved
  keeps_same {free} {k} (Keeps.at_first {q = q} z b) =
      let x = same_run.there k q b in
      subst (Keeps o free k) (same_saved free [] k q x.0 x.2) (Keeps.at_first (z ∙ ap first_tick runs.resume) x.1)
  keeps_same {free} (Keeps.at_next {k = k} {saved = saved} {q = q} h b) =
      let x = same_run.there (suc k) q b in
      subst (Keeps o free (suc k)) (same_saved free saved (suc k) q x.0 x.2) (Keeps.at_next (keeps_same h) x.1)

  -- as one ends, the other does
  pub ends_same : (k : ℕ) (reason : End) (q : Queue) → Ends u k reason q → (r : Queue) × Ends o k reason r × (observed u.flat.rows q.state ≡ observed o.flat.rows r.state)
  ends_same k reason q ends = same_ends u o same_run runs.plan k reason q ends

  -- where one has no reason to end, the other has none
  pub none_same : (k : ℕ) → ((j : ℕ) (q : Queue) → j ≤ k → Boundary u j q → reason_at u.plan j q ≡ None) → (j : ℕ) (q : Queue) → j ≤ k → Boundary o j q → reason_at o.plan j q ≡ None
  none_same k none j q l b =
      let x = same_run.back j q b in
      same_reason o.plan j q x.0 (ap (λ (z : Observed). z.finished) x.2)
      ∙ ap (λ (p : Plan). reason_at p j x.0) (sym runs.plan)
      ∙ none j x.0 l x.1

  -- it comes to the same boundaries
  pub there_same : (k : ℕ) (q : Queue) → Boundary u k q → (r : Queue) × Boundary o k r × (observed u.flat.rows q.state ≡ observed o.flat.rows r.state)
  there_same k q b = same_run.there k q b
