-- A counter on one fabric.
use Rattle.std.proofs.Common.{◌≡◌, ℕ, zero, suc, Bool, true, false, cond, ◌==◌, ◌&&◌, List, [], ◌∷◌, filter, length, codes, Some, None, refl, sym, ap, ap₂, ◌∙◌, inl, arith, ne_eqb}
use Rattle.std.specs.Fmt.{digits}
use Rattle.std.specs.List.{AllByRecursion}
use Rattle.host_text.specs.vl_design.specs.declared.design.End.TheVariants.{Budget}
use Rattle.host_text.specs.vl_design.specs.Queue.{Queue}
use Rattle.host_text.specs.vl_design.specs.Alone.{Origin, Ends}
use Rattle.host_text.specs.vl_design.specs.Examples.{counter}
use Rattle.host_text.specs.vl_design.proofs.Ending.{ends_by}
use Rattle.host_text.specs.vl_design.proofs.Same.{same_self}
use Rattle.host_text.specs.declared.block.Status.TheVariants as status
use Rattle.host_text.specs.declared.block.Block.TheVariants as b
use Rattle.host_text.specs.Report.{report}
use Rattle.fab_io.specs.Outside.{Files}
use Rattle.host_form.specs.Origins.{Source, Accepted, Tenant, IsOrigin, anew}
use Rattle.host_form.proofs.Times.{each-by-lists}
use Rattle.host_form.specs.Histories.{Visit, visits_on, history_of, lines_of, lines_at}
use Rattle.host_form.specs.Orders.{Put, puts_at}
use Rattle.host_form.specs.Runs.{alone, RunsAs, RunsAsNoted, AreLines, later, Run, IsRun, Ran}
use Rattle.host_form.specs.Reports.{IsReport}
use Rattle.host_form.specs.Examples.{line, lone_line, lone_script, lone_origin, lone_histories}

pub runs_as_itself : (o : Origin) → RunsAs o o
runs_as_itself o = record { files = refl; plan = refl; resume = refl; run = same_self o; cost = refl }

lone-end : (q : Queue) × Ends lone_origin 3 Budget q × (q.state.printed ≡ codes "0\n1\n2\n") × (q.state.count ≡ 11)
unfolding digits
lone-end = (_, ends_by lone_origin 9 3 Budget _ refl refl refl refl, refl, refl)

-- what passes in a list of which nothing passes
pub none_pass : {X : Type 0} (p : X → Bool) (xs : List X) → AllByRecursion (λ x. p x ≡ false) xs → filter p xs ≡ []
none_pass p [] h = refl
none_pass p (x ∷ xs) h = ap (λ b. cond b (x ∷ filter p xs) (filter p xs)) h.0 ∙ none_pass p xs h.1

pub none_there : (m n j k : ℕ) → (m == n) ≡ false → ((m == n) && (j == k)) ≡ false
none_there m n j k h = ap (λ b. b && (j == k)) h

abbrev lone-visit : Visit
lone-visit = record { fabric = 0; from = 0; to = 3 }

lone-each : (g : ℕ) → filter (λ v. v.fabric == g) (lone-visit ∷ []) ≡ visits_on lone_histories 0 g
lone-each zero = refl
lone-each (suc g) = none_pass (λ v. v.fabric == suc g) (lone-visit ∷ []) (ne_eqb 0 (suc g) (λ e. omega (arith, e)), tt)

-- as many of two lists pass, where they pass alike
pub count_one : {X Y : Type 0} (x : X) (y : Y) (a : Bool) → length (cond a (x ∷ []) []) ≡ length (cond a (y ∷ []) [])
count_one x y true = refl
count_one x y false = refl

lone-just : (g j : ℕ) → lines_at 0 j (history_of lone_histories g) ≡ puts_at g j (record { fabric = 0; tick = 0 } ∷ [])
lone-just zero j = count_one (line lone_origin 0) (record { fabric = 0; tick = 0 }) (0 == j)
lone-just (suc g) j =
    sym (ap length (none_pass (λ (p : Put). (p.fabric == suc g) && (p.tick == j)) (record { fabric = 0; tick = 0 } ∷ []) (none_there 0 (suc g) 0 j (ne_eqb 0 (suc g) (λ e. omega (arith, e))), tt)))

lone-noted : (g : ℕ) → AllByRecursion (λ m. RunsAsNoted lone_origin m.origin) (lines_of 0 (history_of lone_histories g))
lone-noted zero = (runs_as_itself lone_origin, tt)
lone-noted (suc g) = tt

abbrev lone-tenant : Tenant
lone-tenant = record { line = lone_line; source = Accepted counter; files = []; snapshot = None }

abbrev lone-run : Run
lone-run = record { origin = lone_origin; tick = 3; reason = Budget; last = lone-end.0; visits = lone-visit ∷ [] }

lone-starts : IsOrigin lone_script.fabrics lone-tenant lone_origin
lone-starts = record { design = refl; room = refl; files = refl; plan = refl; start = anew }

lone-lines : AreLines lone_histories [] 0 0 lone_origin 3
lone-lines = later (λ n e. let z : ⊥ = omega (arith, e) in absurd z) (record { last = []; back = []; may = inl refl; saved = refl; left = tt; just = lone-just })

lone-runs : IsRun lone_script.fabrics lone_histories [] 0 lone-tenant lone-run
lone-runs = record {
  origin = lone-starts;
  end = alone refl lone-end.1;
  visits = record { each = each-by-lists lone_histories 0 (lone-visit ∷ []) lone-each; ordered = (tt, tt); chain = (refl, refl) };
  lines = lone-lines;
  noted = lone-noted;
}

abbrev lone-report : List ℕ → ℕ → List ℕ
lone-report printed count =
    report (b.Ran (record { name = codes "A"; status = status.Budget; ticks = 3; cycles = count; printed = printed; stays = record { fabric = codes "F"; from = 0; to = 3 } ∷ [] }) ∷ []) []

lone-bytes : lone-report (codes "0\n1\n2\n") 11 ≡ codes "tenant A budget 3 11 6\n0\n1\n2\n\nstay A F 0 3\n"
unfolding digits
lone-bytes = refl

pub lone-reported : (judged : List ℕ → Source → Type 0) (told : Files) (text : List ℕ) → told (codes "m.v") ≡ Some text → judged text (Accepted counter)
    → IsReport judged told lone_script lone_histories (codes "tenant A budget 3 11 6\n0\n1\n2\n\nstay A F 0 3\n")
lone-reported judged told text there is = record {
  tenants = lone-tenant ∷ [];
  outcomes = Ran lone-run ∷ [];
  answers = [];
  read = (record { text = text; is = refl; there = there; source = is; files = tt; snapshot = tt }, tt);
  comes = (lone-runs, tt);
  orders = refl;
  replies = tt;
  is = sym (ap₂ lone-report lone-end.2 lone-end.3 ∙ lone-bytes);
}
