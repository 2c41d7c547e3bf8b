-- A counter with free orders.
use Rattle.std.proofs.Common.{◌≡◌, ℕ, zero, suc, ◌==◌, ◌&&◌, List, [], ◌∷◌, filter, length, codes, Some, None, refl, sym, ap, ap₂, ◌∙◌, inl, arith, ne_eqb}
use Rattle.std.specs.Fmt.{digits}
use Rattle.std.specs.List.{AllByRecursion}
use Rattle.fab_io.specs.Outside.{Files, with_file}
use Rattle.host_text.specs.vl_design.specs.declared.design.End.TheVariants.{Budget}
use Rattle.host_text.specs.vl_design.specs.Snapshots.{Saved}
use Rattle.host_text.specs.vl_design.specs.Queue.{Queue}
use Rattle.host_text.specs.vl_design.specs.Alone.{Ends, FreeSave, Keeps}
use Rattle.host_text.specs.vl_design.specs.Examples.{counter}
use Rattle.host_text.specs.vl_design.proofs.Ending.{boundary_by, ends_by}
use Rattle.host_text.specs.declared.script.Free.TheVariants as free
use Rattle.host_text.specs.declared.block.Status.TheVariants as status
use Rattle.host_text.specs.declared.block.Block.TheVariants as b
use Rattle.host_text.specs.declared.block.Reply.TheVariants as reply_is
use Rattle.host_text.specs.Report.{report}
use Rattle.host_form.specs.Origins.{Source, Accepted, Tenant, IsOrigin, anew}
use Rattle.host_form.proofs.Times.{each-by-lists}
use Rattle.host_form.specs.Histories.{Visit, visits_on, history_of, lines_of, lines_at, Leaves}
use Rattle.host_form.specs.Orders.{Answered, Put, puts_at}
use Rattle.host_form.specs.Runs.{alone, RunsAsNoted, AreLines, later, Run, IsRun, Ran}
use Rattle.host_form.specs.Replies.{AreAnswered}
use Rattle.host_form.specs.Reports.{IsReport}
use Rattle.host_form.specs.Saves.{with_saves, LeavesFiles}
use Rattle.host_form.specs.Examples.{line, counter_bytes, ordered_line, ordered_script, ordered_origin, ordered_histories, ordered_bytes}
use Rattle.host_form.proofs.Lone.{runs_as_itself, none_pass, none_there, count_one}
use Rattle.host_form.proofs.Moving.{visit, put, count_two}

ordered-end : (q : Queue) × Ends ordered_origin 4 Budget q × (q.state.printed ≡ codes "0\n1\n2\n3\n") × (q.state.count ≡ 14)
unfolding digits
ordered-end = (_, ends_by ordered_origin 9 4 Budget _ refl refl refl refl, refl, refl)

abbrev ordered-saves : List FreeSave
ordered-saves = record { name = codes "s"; tick = 2 } ∷ []

ordered-saved : (saved : List Saved) × Keeps ordered_origin ordered-saves 4 saved × ((told : Files) → with_file (codes "A.s") (counter_bytes 2 8 2) told ≡ with_saves (codes "A") saved told)
unfolding digits
ordered-saved = (
  _,
  Keeps.at_next (Keeps.at_next (Keeps.at_next (Keeps.at_next
      (Keeps.at_first refl (boundary_by ordered_origin 9 0 _ refl refl)) (boundary_by ordered_origin 9 1 _ refl refl)) (boundary_by ordered_origin 9 2 _ refl refl))
      (boundary_by ordered_origin 9 3 _ refl refl)) (boundary_by ordered_origin 9 4 _ refl refl),
  λ told. refl,
)

abbrev ordered-visits : List Visit
ordered-visits = visit 0 0 1 ∷ visit 1 1 2 ∷ visit 1 2 4 ∷ []

ordered-each : (g : ℕ) → filter (λ v. v.fabric == g) ordered-visits ≡ visits_on ordered_histories 0 g
ordered-each zero = refl
ordered-each (suc zero) = refl
ordered-each (suc (suc g)) =
    let first = ne_eqb 0 (suc (suc g)) (λ e. omega (arith, e)) in
    let second = ne_eqb 1 (suc (suc g)) (λ e. omega (arith, e)) in
    none_pass (λ v. v.fabric == suc (suc g)) ordered-visits (first, (second, (second, tt)))

ordered-just : (g j : ℕ) → lines_at 0 j (history_of ordered_histories g) ≡ puts_at g j (put 0 0 ∷ put 1 1 ∷ put 1 2 ∷ [])
ordered-just zero j = count_one (line ordered_origin 0) (put 0 0) (0 == j)
ordered-just (suc zero) j = count_two (line ordered_origin 1) (line ordered_origin 2) (put 1 1) (put 1 2) (1 == j) (2 == j)
ordered-just (suc (suc g)) j =
    let first = ne_eqb 0 (suc (suc g)) (λ e. omega (arith, e)) in
    let second = ne_eqb 1 (suc (suc g)) (λ e. omega (arith, e)) in
    sym (ap length (none_pass (λ (p : Put). (p.fabric == suc (suc g)) && (p.tick == j)) (put 0 0 ∷ put 1 1 ∷ put 1 2 ∷ [])
    (none_there 0 (suc (suc g)) 0 j first, (none_there 1 (suc (suc g)) 1 j second, (none_there 1 (suc (suc g)) 2 j second, tt)))))

ordered-noted : (g : ℕ) → AllByRecursion (λ m. RunsAsNoted ordered_origin m.origin) (lines_of 0 (history_of ordered_histories g))
ordered-noted zero = (runs_as_itself ordered_origin, tt)
ordered-noted (suc zero) = (runs_as_itself ordered_origin, (runs_as_itself ordered_origin, tt))
ordered-noted (suc (suc g)) = tt

abbrev ordered-tenant : Tenant
ordered-tenant = record { line = ordered_line; source = Accepted counter; files = []; snapshot = None }

abbrev ordered-run : Run
ordered-run = record { origin = ordered_origin; tick = 4; reason = Budget; last = ordered-end.0; visits = ordered-visits }

abbrev ordered-answers : List Answered
ordered-answers =
    record { order = free.Move 0 1; reply = reply_is.At 1 } ∷ record { order = free.Save 0 (codes "s"); reply = reply_is.At 2 }
    ∷ record { order = free.Stop 0; reply = reply_is.Ended 4 } ∷ []

ordered-starts : IsOrigin ordered_script.fabrics ordered-tenant ordered_origin
ordered-starts = record { design = refl; room = refl; files = refl; plan = refl; start = anew }

ordered-lines : AreLines ordered_histories ordered-answers 0 0 ordered_origin 4
ordered-lines =
    later (λ n e. let z : ⊥ = omega (arith, e) in absurd z)
    (record { last = []; back = put 1 2 ∷ []; may = inl refl; saved = refl; left = (omega arith, tt); just = ordered-just })

ordered-runs : IsRun ordered_script.fabrics ordered_histories ordered-answers 0 ordered-tenant ordered-run
ordered-runs = record {
  origin = ordered-starts;
  end = alone refl ordered-end.1;
  visits = record { each = each-by-lists ordered_histories 0 ordered-visits ordered-each; ordered = ((refl, (refl, tt)), ((refl, tt), (tt, tt))); chain = (refl, (refl, (refl, refl))) };
  lines = ordered-lines;
  noted = ordered-noted;
}

ordered-leaves : Leaves ordered_histories 0 2
ordered-leaves = (1, omega arith)

ordered-replies : AreAnswered ordered_script.fabrics ordered_histories (Ran ordered-run ∷ []) [] ordered-answers
ordered-replies = ((refl, omega arith), ((omega arith, omega arith, ordered-leaves), (refl, tt)))

abbrev ordered-report : List ℕ → ℕ → List ℕ
ordered-report printed count =
    report (b.Ran (record {
      name = codes "A";
      status = status.Budget;
      ticks = 4;
      cycles = count;
      printed = printed;
      stays = record { fabric = codes "F1"; from = 0; to = 1 } ∷ record { fabric = codes "F2"; from = 1; to = 2 } ∷ record { fabric = codes "F2"; from = 2; to = 4 } ∷ [];
    }) ∷ [])
    (record { words = codes "move" ∷ codes "A" ∷ codes "F2" ∷ []; reply = reply_is.At 1 } ∷ record { words = codes "save" ∷ codes "A" ∷ codes "s" ∷ []; reply = reply_is.At 2 }
    ∷ record { words = codes "stop" ∷ codes "A" ∷ []; reply = reply_is.Ended 4 } ∷ [])

told_so : ordered-report (codes "0\n1\n2\n3\n") 14 ≡ ordered_bytes
unfolding digits
told_so = refl

module _ (judged : List ℕ → Source → Type 0) (told : Files) (text : List ℕ) (there : told (codes "m.v") ≡ Some text) (is : judged text (Accepted counter)) where
  abbrev ordered-reported : IsReport judged told ordered_script ordered_histories ordered_bytes
  ordered-reported = record {
    tenants = ordered-tenant ∷ [];
    outcomes = Ran ordered-run ∷ [];
    answers = ordered-answers;
    read = (record { text = text; is = refl; there = there; source = is; files = tt; snapshot = tt }, tt);
    comes = (ordered-runs, tt);
    orders = refl;
    replies = ordered-replies;
    is = sym (ap₂ ordered-report ordered-end.2 ordered-end.3 ∙ told_so);
  }

  pub ordered-whole : (r : IsReport judged told ordered_script ordered_histories ordered_bytes)
      × LeavesFiles judged told ordered_script ordered_histories ordered_bytes r (with_file (codes "A.s") (counter_bytes 2 8 2) told)
  ordered-whole = (ordered-reported, (ordered-saved.0, ordered-saved.1, ordered-saved.2 told))
