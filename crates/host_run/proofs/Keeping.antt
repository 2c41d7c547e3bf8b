-- A run keeps the snapshots that another keeps which runs as it does.
use Rattle.std.proofs.Common.{◌≡◌, ℕ, suc, List, [], ◌++◌, sym, ap, ◌∙◌, subst, Option}
use Rattle.std.specs.Prelude.{if◌then◌else◌}
use Rattle.host_text.specs.vl_design.specs.Syntax.{Row}
use Rattle.host_text.specs.vl_design.specs.Queue.{Queue}
use Rattle.host_text.specs.vl_design.specs.Alone.{Origin, Plan, FreeSave, Keeps, first_tick, save_names, free_names}
use Rattle.host_text.specs.vl_design.specs.Observed.{Observed, observed, IsSameRun}
use Rattle.host_text.specs.vl_design.specs.Snapshots.{Saved, Snapshot, all_saved, snap_rows}

-- the snapshots kept, by what is observed
abbrev seen_at : List Row → Plan → List FreeSave → List Saved → ℕ → Observed → List Saved
seen_at rows plan free saved k x =
    all_saved saved ((if x.finished then [] else x.saves ++ save_names k plan.errands) ++ free_names k free)
    (record { tick = x.ticks; rows = snap_rows rows; words = x.words; files = x.table })

module _ (o u : Origin) (run : IsSameRun o u) (plan : u.plan ≡ o.plan) (resume : u.resume ≡ o.resume) (rows : u.flat.rows ≡ o.flat.rows) where
  same-saved : (free : List FreeSave) (saved : List Saved) (k : ℕ) (q r : Queue) → observed u.flat.rows q.state ≡ observed o.flat.rows r.state
      → seen_at o.flat.rows o.plan free saved k (observed o.flat.rows r.state) ≡ seen_at u.flat.rows u.plan free saved k (observed u.flat.rows q.state)
  same-saved free saved k q r seen =
      ap (seen_at o.flat.rows o.plan free saved k) (sym seen)
      ∙ ap (λ (rs : List Row). seen_at rs o.plan free saved k (observed u.flat.rows q.state)) (sym rows)
      ∙ ap (λ (p : Plan). seen_at u.flat.rows p free saved k (observed u.flat.rows q.state)) (sym plan)

  -- what the second keeps, the first does
  pub keeps-same : {free : List FreeSave} {k : ℕ} {saved : List Saved} → Keeps u free k saved → Keeps o free k saved
  keeps-same {free} {k} (Keeps.at_first {q = q} z b) =
      let x = run.back k q b in
      subst (Keeps o free k) (same-saved free [] k q x.0 x.2) (Keeps.at_first (z ∙ ap (λ (r : Option Snapshot). first_tick r) resume) x.1)
  keeps-same {free} (Keeps.at_next {k = k} {saved = saved} {q = q} h b) =
      let x = run.back (suc k) q b in
      subst (Keeps o free (suc k)) (same-saved free saved (suc k) q x.0 x.2) (Keeps.at_next (keeps-same h) x.1)
