-- A counter that moves.
use Rattle.std.proofs.Common.{◌≡◌, ℕ, zero, suc, Bool, true, false, cond, ◌==◌, ◌&&◌, List, [], ◌∷◌, filter, length, codes, Some, None, refl, sym, ap, ap₂, ◌∙◌, inl, arith, ne_eqb}
use Rattle.std.specs.Fmt.{digits}
use Rattle.std.specs.List.{AllByRecursion}
use Rattle.host_text.specs.vl_design.specs.declared.design.End.TheVariants.{Budget}
use Rattle.host_text.specs.vl_design.specs.Queue.{Queue}
use Rattle.host_text.specs.vl_design.specs.Alone.{Ends}
use Rattle.host_text.specs.vl_design.specs.Examples.{counter}
use Rattle.host_text.specs.vl_design.proofs.Ending.{ends_by}
use Rattle.host_text.specs.declared.script.Free.TheVariants as free
use Rattle.host_text.specs.declared.block.Status.TheVariants as status
use Rattle.host_text.specs.declared.block.Block.TheVariants as b
use Rattle.host_text.specs.declared.block.Reply.TheVariants as reply_is
use Rattle.host_text.specs.Report.{report}
use Rattle.fab_io.specs.Outside.{Files}
use Rattle.host_form.specs.Origins.{Source, Accepted, Tenant, IsOrigin, anew}
use Rattle.host_form.proofs.Times.{each-by-lists}
use Rattle.host_form.specs.Histories.{Visit, visits_on, history_of, lines_of, lines_at}
use Rattle.host_form.specs.Orders.{Answered, Put, puts_at}
use Rattle.host_form.specs.Runs.{alone, RunsAsNoted, AreLines, later, Run, IsRun, Ran}
use Rattle.host_form.specs.Replies.{AreAnswered}
use Rattle.host_form.specs.Reports.{IsReport}
use Rattle.host_form.specs.Examples.{line, moving_line, moving_script, moving_origin, moving_histories}
use Rattle.host_form.proofs.Lone.{runs_as_itself, none_pass, none_there, count_one}

moving-end : (q : Queue) × Ends moving_origin 4 Budget q × (q.state.printed ≡ codes "0\n1\n2\n3\n") × (q.state.count ≡ 14)
unfolding digits
moving-end = (_, ends_by moving_origin 9 4 Budget _ refl refl refl refl, refl, refl)

abbrev pub visit : ℕ → ℕ → ℕ → Visit
visit g from to = record { fabric = g; from = from; to = to }

abbrev moving-visits : List Visit
moving-visits = visit 0 0 1 ∷ visit 1 1 2 ∷ visit 0 2 4 ∷ []

moving-each : (g : ℕ) → filter (λ v. v.fabric == g) moving-visits ≡ visits_on moving_histories 0 g
moving-each zero = refl
moving-each (suc zero) = refl
moving-each (suc (suc zero)) = refl
moving-each (suc (suc (suc g))) =
    let first = ne_eqb 0 (suc (suc (suc g))) (λ e. omega (arith, e)) in
    let second = ne_eqb 1 (suc (suc (suc g))) (λ e. omega (arith, e)) in
    none_pass (λ v. v.fabric == suc (suc (suc g))) moving-visits (first, (second, (first, tt)))

abbrev pub put : ℕ → ℕ → Put
put g tick = record { fabric = g; tick = tick }

pub count_two : {X Y : Type 0} (x z : X) (y w : Y) (a b : Bool)
    → length (cond a (x ∷ cond b (z ∷ []) []) (cond b (z ∷ []) [])) ≡ length (cond a (y ∷ cond b (w ∷ []) []) (cond b (w ∷ []) []))
count_two x z y w true true = refl
count_two x z y w true false = refl
count_two x z y w false true = refl
count_two x z y w false false = refl

moving-just : (g j : ℕ) → lines_at 0 j (history_of moving_histories g) ≡ puts_at g j (put 0 0 ∷ put 1 1 ∷ put 0 2 ∷ [])
moving-just zero j = count_two (line moving_origin 0) (line moving_origin 2) (put 0 0) (put 0 2) (0 == j) (2 == j)
moving-just (suc zero) j = count_one (line moving_origin 1) (put 1 1) (1 == j)
moving-just (suc (suc zero)) j = refl
moving-just (suc (suc (suc g))) j =
    let first = ne_eqb 0 (suc (suc (suc g))) (λ e. omega (arith, e)) in
    let second = ne_eqb 1 (suc (suc (suc g))) (λ e. omega (arith, e)) in
    let none = none_there 0 (suc (suc (suc g))) in
    sym (ap length (none_pass (λ (p : Put). (p.fabric == suc (suc (suc g))) && (p.tick == j)) (put 0 0 ∷ put 1 1 ∷ put 0 2 ∷ [])
    (none 0 j first, (none_there 1 (suc (suc (suc g))) 1 j second, (none 2 j first, tt)))))

moving-noted : (g : ℕ) → AllByRecursion (λ m. RunsAsNoted moving_origin m.origin) (lines_of 0 (history_of moving_histories g))
moving-noted zero = (runs_as_itself moving_origin, (runs_as_itself moving_origin, tt))
moving-noted (suc zero) = (runs_as_itself moving_origin, tt)
moving-noted (suc (suc zero)) = tt
moving-noted (suc (suc (suc g))) = tt

abbrev moving-tenant : Tenant
moving-tenant = record { line = moving_line; source = Accepted counter; files = []; snapshot = None }

abbrev moving-run : Run
moving-run = record { origin = moving_origin; tick = 4; reason = Budget; last = moving-end.0; visits = moving-visits }

abbrev moving-answers : List Answered
moving-answers = record { order = free.Move 0 2; reply = reply_is.Small } ∷ record { order = free.Watch 0; reply = reply_is.At 3 } ∷ []

moving-starts : IsOrigin moving_script.fabrics moving-tenant moving_origin
moving-starts = record { design = refl; room = refl; files = refl; plan = refl; start = anew }

moving-lines : AreLines moving_histories moving-answers 0 0 moving_origin 4
moving-lines = later (λ n e. let z : ⊥ = omega (arith, e) in absurd z) (record { last = []; back = []; may = inl refl; saved = refl; left = tt; just = moving-just })

moving-runs : IsRun moving_script.fabrics moving_histories moving-answers 0 moving-tenant moving-run
moving-runs = record {
  origin = moving-starts;
  end = alone refl moving-end.1;
  visits = record { each = each-by-lists moving_histories 0 moving-visits moving-each; ordered = ((refl, (refl, tt)), ((refl, tt), (tt, tt))); chain = (refl, (refl, (refl, refl))) };
  lines = moving-lines;
  noted = moving-noted;
}

moving-replies : AreAnswered moving_script.fabrics moving_histories (Ran moving-run ∷ []) [] moving-answers
moving-replies = (refl, ((omega arith, λ placed. omega arith, tt), tt))

abbrev moving-report : List ℕ → ℕ → List ℕ
moving-report printed count =
    report (b.Ran (record {
      name = codes "A";
      status = status.Budget;
      ticks = 4;
      cycles = count;
      printed = printed;
      stays = record { fabric = codes "F1"; from = 0; to = 1 } ∷ record { fabric = codes "F2"; from = 1; to = 2 } ∷ record { fabric = codes "F1"; from = 2; to = 4 } ∷ [];
    }) ∷ [])
    (record { words = codes "move" ∷ codes "A" ∷ codes "F3" ∷ []; reply = reply_is.Small } ∷ record { words = codes "watch" ∷ codes "A" ∷ []; reply = reply_is.At 3 } ∷ [])

moving-bytes : moving-report (codes "0\n1\n2\n3\n") 14
    ≡ codes "tenant A budget 4 14 8\n0\n1\n2\n3\n\nstay A F1 0 1\nstay A F2 1 2\nstay A F1 2 4\nfree move A F3 small\nfree watch A 3\n"
unfolding digits
moving-bytes = refl

pub moving-reported : (judged : List ℕ → Source → Type 0) (told : Files) (text : List ℕ) → told (codes "m.v") ≡ Some text → judged text (Accepted counter)
    → IsReport judged told moving_script moving_histories
    (codes "tenant A budget 4 14 8\n0\n1\n2\n3\n\nstay A F1 0 1\nstay A F2 1 2\nstay A F1 2 4\nfree move A F3 small\nfree watch A 3\n")
moving-reported judged told text there is = record {
  tenants = moving-tenant ∷ [];
  outcomes = Ran moving-run ∷ [];
  answers = moving-answers;
  read = (record { text = text; is = refl; there = there; source = is; files = tt; snapshot = tt }, tt);
  comes = (moving-runs, tt);
  orders = refl;
  replies = moving-replies;
  is = sym (ap₂ moving-report moving-end.2 moving-end.3 ∙ moving-bytes);
}
