-- A counter that is saved, and that a free order stops.
use Rattle.std.proofs.Common.{◌≡◌, ℕ, zero, suc, ◌==◌, ◌&&◌, List, [], ◌∷◌, filter, length, codes, Some, None, refl, sym, ap, ap₂, ◌∙◌, inl, arith, ne_eqb}
use Rattle.std.specs.Fmt.{digits}
use Rattle.std.specs.List.{AllByRecursion}
use Rattle.fab_io.specs.Outside.{Files, with_file}
use Rattle.host_text.specs.vl_design.specs.declared.design.End.TheVariants as end_is
use Rattle.host_text.specs.vl_design.specs.Snapshots.{Saved}
use Rattle.host_text.specs.vl_design.specs.Queue.{Queue}
use Rattle.host_text.specs.vl_design.specs.Alone.{Boundary, Ends, Keeps}
use Rattle.host_text.specs.vl_design.specs.Examples.{counter}
use Rattle.host_text.specs.vl_design.proofs.Ending.{boundary_by, ends_by}
use Rattle.host_text.specs.declared.script.Free.TheVariants as free
use Rattle.host_text.specs.declared.block.Status.TheVariants as status
use Rattle.host_text.specs.declared.block.Block.TheVariants as b
use Rattle.host_text.specs.declared.block.Reply.TheVariants as reply_is
use Rattle.host_text.specs.Report.{report}
use Rattle.host_form.specs.Origins.{Source, Accepted, Tenant, IsOrigin, anew}
use Rattle.host_form.proofs.Times.{each-by-lists}
use Rattle.host_form.specs.Histories.{Visit, visits_on, history_of, lines_of, lines_at, Leaves}
use Rattle.host_form.specs.Orders.{Answered, Put, puts_at}
use Rattle.host_form.specs.Runs.{stopped, RunsAsNoted, AreLines, later, Run, IsRun, Ran}
use Rattle.host_form.specs.Reports.{IsReport}
use Rattle.host_form.specs.Saves.{with_saves, LeavesFiles}
use Rattle.host_form.specs.Examples.{line, stopping_line, stopping_script, stopping_origin, stopping_histories, counter_bytes}
use Rattle.host_form.proofs.Lone.{runs_as_itself, none_pass, none_there, count_one}

-- its run alone ends by its budget
alone-end : (q : Queue) × Ends stopping_origin 5 end_is.Budget q
unfolding digits
alone-end = (_, ends_by stopping_origin 9 5 end_is.Budget _ refl refl refl refl)

stopping-end : (q : Queue) × Boundary stopping_origin 2 q × (q.state.printed ≡ codes "0\n1\n") × (q.state.count ≡ 8)
unfolding digits
stopping-end = (_, boundary_by stopping_origin 9 2 _ refl refl, refl, refl)

stopping-saved : (saved : List Saved) × Keeps stopping_origin [] 2 saved × ((told : Files) → with_file (codes "A.s") (counter_bytes 1 8 1) told ≡ with_saves (codes "A") saved told)
unfolding digits
stopping-saved = (
  _,
  Keeps.at_next (Keeps.at_next (Keeps.at_first refl (boundary_by stopping_origin 9 0 _ refl refl)) (boundary_by stopping_origin 9 1 _ refl refl)) (boundary_by stopping_origin 9 2 _ refl refl),
  λ told. refl,
)

abbrev stopping-visit : Visit
stopping-visit = record { fabric = 0; from = 0; to = 2 }

stopping-each : (g : ℕ) → filter (λ v. v.fabric == g) (stopping-visit ∷ []) ≡ visits_on stopping_histories 0 g
stopping-each zero = refl
stopping-each (suc g) = none_pass (λ v. v.fabric == suc g) (stopping-visit ∷ []) (ne_eqb 0 (suc g) (λ e. omega (arith, e)), tt)

stopping-just : (g j : ℕ) → lines_at 0 j (history_of stopping_histories g) ≡ puts_at g j (record { fabric = 0; tick = 0 } ∷ [])
stopping-just zero j = count_one (line stopping_origin 0) (record { fabric = 0; tick = 0 }) (0 == j)
stopping-just (suc g) j =
    sym (ap length (none_pass (λ (p : Put). (p.fabric == suc g) && (p.tick == j)) (record { fabric = 0; tick = 0 } ∷ []) (none_there 0 (suc g) 0 j (ne_eqb 0 (suc g) (λ e. omega (arith, e))), tt)))

stopping-noted : (g : ℕ) → AllByRecursion (λ m. RunsAsNoted stopping_origin m.origin) (lines_of 0 (history_of stopping_histories g))
stopping-noted zero = (runs_as_itself stopping_origin, tt)
stopping-noted (suc g) = tt

abbrev stopping-tenant : Tenant
stopping-tenant = record { line = stopping_line; source = Accepted counter; files = []; snapshot = None }

abbrev stopping-answers : List Answered
stopping-answers = record { order = free.Stop 0; reply = reply_is.At 2 } ∷ []

abbrev stopping-run : Run
stopping-run = record { origin = stopping_origin; tick = 2; reason = end_is.Stopped; last = stopping-end.0; visits = stopping-visit ∷ [] }

stopping-starts : IsOrigin stopping_script.fabrics stopping-tenant stopping_origin
stopping-starts = record { design = refl; room = refl; files = refl; plan = refl; start = anew }

stopping-lines : AreLines stopping_histories stopping-answers 0 0 stopping_origin 2
stopping-lines = later (λ n e. let z : ⊥ = omega (arith, e) in absurd z) (record { last = []; back = []; may = inl refl; saved = refl; left = tt; just = stopping-just })

stopping-runs : IsRun stopping_script.fabrics stopping_histories stopping-answers 0 stopping-tenant stopping-run
stopping-runs = record {
  origin = stopping-starts;
  end = stopped refl refl stopping-end.1 (λ j q l b. alone-end.1.first j q (omega (arith, l)) b);
  visits = record { each = each-by-lists stopping_histories 0 (stopping-visit ∷ []) stopping-each; ordered = (tt, tt); chain = (refl, refl) };
  lines = stopping-lines;
  noted = stopping-noted;
}

stopping-leaves : Leaves stopping_histories 0 2
stopping-leaves = (0, omega arith)

abbrev stopping-report : List ℕ → ℕ → List ℕ
stopping-report printed count =
    report (b.Ran (record { name = codes "A"; status = status.Stopped; ticks = 2; cycles = count; printed = printed; stays = record { fabric = codes "F"; from = 0; to = 2 } ∷ [] }) ∷ [])
    (record { words = codes "stop" ∷ codes "A" ∷ []; reply = reply_is.At 2 } ∷ [])

stopping-bytes : stopping-report (codes "0\n1\n") 8 ≡ codes "tenant A stopped 2 8 4\n0\n1\n\nstay A F 0 2\nfree stop A 2\n"
unfolding digits
stopping-bytes = refl

module _ (judged : List ℕ → Source → Type 0) (told : Files) (text : List ℕ) (there : told (codes "m.v") ≡ Some text) (is : judged text (Accepted counter)) where
  abbrev stopping-reported : IsReport judged told stopping_script stopping_histories (codes "tenant A stopped 2 8 4\n0\n1\n\nstay A F 0 2\nfree stop A 2\n")
  stopping-reported = record {
    tenants = stopping-tenant ∷ [];
    outcomes = Ran stopping-run ∷ [];
    answers = stopping-answers;
    read = (record { text = text; is = refl; there = there; source = is; files = tt; snapshot = tt }, tt);
    comes = (stopping-runs, tt);
    orders = refl;
    replies = ((refl, refl, stopping-leaves), tt);
    is = sym (ap₂ stopping-report stopping-end.2 stopping-end.3 ∙ stopping-bytes);
  }

  pub stopping-whole : (r : IsReport judged told stopping_script stopping_histories (codes "tenant A stopped 2 8 4\n0\n1\n\nstay A F 0 2\nfree stop A 2\n"))
      × LeavesFiles judged told stopping_script stopping_histories (codes "tenant A stopped 2 8 4\n0\n1\n\nstay A F 0 2\nfree stop A 2\n") r (with_file (codes "A.s") (counter_bytes 1 8 1) told)
  stopping-whole = (stopping-reported, (stopping-saved.0, stopping-saved.1, stopping-saved.2 told))
