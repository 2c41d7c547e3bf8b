-- What the bays of a run tell.
use Rattle.std.proofs.Common.{◌≡◌, ℕ, ◌+◌, ◌<◌, ◌≤◌, ◌⊎◌, inl, inr, eqb, Bool, true, false, List, [], ◌∷◌, length, get_or, map, cond, refl, sym, ap, ◌∙◌, subst, arith, eq-eqb}
use Rattle.std.proofs.lemmas.Bool.{cases_lt}
use Rattle.std.proofs.lemmas.List.{get_or-map, length-map}
use Rattle.host_report.specs.fab_model.specs.declared.transit.Transit.{Transit}
use Rattle.host_report.specs.fab_model.specs.Histories.{stays_of, Away, of_tenant, IsLegal}
use Rattle.host_report.specs.fab_model.specs.Tokens.{outs, puts}
use Rattle.fab_orders.specs.fab_bay.specs.declared.noted.Label.{Label}
use Rattle.fab_orders.specs.fab_bay.specs.declared.noted.NotedCore.{NotedCore}
use Rattle.fab_orders.specs.declared.outcomes.Order.{Order}
use Rattle.fab_orders.specs.declared.outcomes.Outcome.{Outcome}
use Rattle.fab_orders.specs.declared.outcomes.Start.{Start}
use Rattle.fab_orders.specs.Outcomes as rounds
use Rattle.fab_orders.specs.Orders.{back_at, moved_at}
use Rattle.fab_orders.specs.Outcomes.{lefts_there, line_of, lines_there, stays_there, IsClosed, IsOutcome}
use Rattle.fab_orders.specs.Starts.{AreLabels}
use Rattle.fab_orders.specs.Totals.{total}
use Rattle.fab_orders.proofs.Totals.{total_at, total_each}
use Rattle.host_judge.specs.host_form.specs.Histories.{history_of, lefts_at, lines_at, notes_of, times, visits_in, visits_on, Histories, Visit}
use Rattle.host_judge.specs.host_form.specs.Histories as report
use Rattle.host_report.specs.Told.{told, visit_of}
use Rattle.host_report.proofs.LinesOfNotes.{lines_read}
use Rattle.host_report.proofs.Visits.{visits_read}
use Rattle.host_outcomes.specs.Reported.{histories_of}
use Rattle.host_outcomes.proofs.Lefts.{lefts_read}
use Rattle.host_outcomes.proofs.Sums.{counts, differ, differs, lines_here, lines_other, past, same_total, times_total, total_beyond, weigh_from, weight}

pub some_bay : (bs : List NotedCore) (g : ℕ) → g < length bs → NotedCore
some_bay [] g l = absurd (omega (arith, l))
some_bay (b ∷ bs) g l = b

module _ (labels : List Label) (starts : List Start) (orders : List Order) (out : Outcome) (a : AreLabels starts labels) (h : IsOutcome labels starts orders out) where
  abbrev bays : List NotedCore
  bays = out.bays.items

  abbrev history : ℕ → List report.Note
  history g = history_of (histories_of out.bays.items) g

  module _ (i : ℕ) (b : NotedCore) (lt : i < length out.bays.items) where
    within : i < length labels
    within = let n = h.all_bays in omega (arith, lt, n)

    closed : IsClosed (get_or labels i b.label) (get_or bays i b)
    closed = h.bays i b.label b within

    fabric_is : (get_or labels i b.label).fabric ≡ i
    fabric_is = (a i b.label within).fabric

    fabric_at : (get_or bays i b).label.fabric ≡ i
    fabric_at = ap (λ (l : Label). l.fabric) closed.label ∙ fabric_is

    pub legal_at : IsLegal i (get_or labels i b.label).capacity (get_or bays i b).notes.items
    legal_at = subst (λ (n : ℕ). IsLegal n (get_or labels i b.label).capacity (get_or bays i b).notes.items) fabric_is closed.legal

    pub history_at : history i ≡ told (get_or bays i b).notes.items
    history_at = get_or-map (λ (c : NotedCore). told c.notes.items) bays i b [] lt

  pub history_beyond : (g : ℕ) → length out.bays.items ≤ g → history g ≡ []
  history_beyond g l = past (histories_of bays) g [] (let n = length-map bays (λ (c : NotedCore). told c.notes.items) in omega (arith, l, n))

  -- a weight that only the bay of a fabric has
  module _ (f : NotedCore → ℕ) (g : ℕ) (own : (b : NotedCore) → f b ≡ cond (eqb b.label.fabric g) (f b) 0) where
    only_at : (b : NotedCore) → g < length out.bays.items → total f bays ≡ f (get_or bays g b)
    only_at b lt =
        total_each f (λ b. cond (eqb b.label.fabric g) (f b) 0) own bays
        ∙ total_at (λ b. b.label.fabric) f g bays 0 g b (omega arith) lt (λ i d k. let e = fabric_at i d k in omega (arith, e))

    none_beyond : length out.bays.items ≤ g → total f bays ≡ 0
    none_beyond l =
        total_each f (λ b. cond (eqb b.label.fabric g) (f b) 0) own bays
        ∙ total_beyond (λ b. b.label.fabric) f g bays 0 (omega (arith, l)) (λ i d k. let e = fabric_at i d k in omega (arith, e))

  -- ---- stays

  module _ (t : ℕ) (v : Visit) where
    own_stays : (b : NotedCore) → stays_there t (weight v) b ≡ cond (eqb b.label.fabric v.fabric) (stays_there t (weight v) b) 0
    own_stays b = step (eqb b.label.fabric v.fabric) refl
      where
        step : (x : Bool) → eqb b.label.fabric v.fabric ≡ x → stays_there t (weight v) b ≡ cond x (stays_there t (weight v) b) 0
        step true e = refl
        step false e = weigh_from v b.label.fabric (differ v.fabric b.label.fabric (λ q. differs b.label.fabric v.fabric e (sym q))) Away (of_tenant t b.notes.items)

    stays_told : (v.fabric < length out.bays.items) ⊎ (length out.bays.items ≤ v.fabric) → total (stays_there t (weight v)) bays ≡ times v (visits_on (histories_of out.bays.items) t v.fabric)
    stays_told (inl l) =
        let g = v.fabric in
        let b = some_bay bays g l in
        let notes = (get_or bays g b).notes.items in
        only_at (stays_there t (weight v)) g own_stays b l
        ∙ ap (λ (n : ℕ). total (weight v) (stays_of n t notes)) (fabric_at g b l)
        ∙ sym (times_total v (stays_of g t notes))
        ∙ ap (λ (vs : List Visit). times v vs) (sym (visits_read g t (get_or labels g b.label).capacity notes (legal_at g b l)))
        ∙ ap (λ (ns : List report.Note). times v (visits_in g (notes_of t ns))) (sym (history_at g b l))
    stays_told (inr l) =
        none_beyond (stays_there t (weight v)) v.fabric own_stays l
        ∙ ap (λ (ns : List report.Note). times v (visits_in v.fabric (notes_of t ns))) (sym (history_beyond v.fabric l))

  pub stays_known : (t : ℕ) (e : Transit) (v : Visit) → t < length starts → times v (map visit_of (get_or out.ended.items t e).stays.items) ≡ times v (visits_on (histories_of out.bays.items) t v.fabric)
  stays_known t e v lt =
      times_total v (get_or out.ended.items t e).stays.items
      ∙ sym (h.stays t e (weight v) lt)
      ∙ stays_told t v (cases_lt v.fabric (length bays))

  -- ---- lines

  module _ (t j g : ℕ) where
    own_lines : (b : NotedCore) → lines_there (line_of t j g) b ≡ cond (eqb b.label.fabric g) (lines_there (line_of t j g) b) 0
    own_lines b = step (eqb b.label.fabric g) refl
      where
        step : (x : Bool) → eqb b.label.fabric g ≡ x → lines_there (line_of t j g) b ≡ cond x (lines_there (line_of t j g) b) 0
        step true e = refl
        step false e = lines_other t j g b.label.fabric (puts b.notes.items) e

    lines_told : (g < length out.bays.items) ⊎ (length out.bays.items ≤ g) → lines_at t j (history g) ≡ total (lines_there (line_of t j g)) bays
    lines_told (inl l) =
        let b = some_bay bays g l in
        let c = get_or bays g b in
        let notes = c.notes.items in
        ap (λ (ns : List report.Note). lines_at t j ns) (history_at g b l)
        ∙ lines_read g t j (get_or labels g b.label).capacity notes (legal_at g b l)
        ∙ same_total (counts t j) (puts notes)
        ∙ sym (lines_here t j g c.label.fabric (puts notes) (eq-eqb c.label.fabric g (fabric_at g b l)))
        ∙ sym (only_at (lines_there (line_of t j g)) g own_lines b l)
    lines_told (inr l) =
        ap (λ (ns : List report.Note). lines_at t j ns) (history_beyond g l)
        ∙ sym (none_beyond (lines_there (line_of t j g)) g own_lines l)

    own_lefts : (b : NotedCore) → lefts_there (line_of t j g) b ≡ cond (eqb b.label.fabric g) (lefts_there (line_of t j g) b) 0
    own_lefts b = step (eqb b.label.fabric g) refl
      where
        step : (x : Bool) → eqb b.label.fabric g ≡ x → lefts_there (line_of t j g) b ≡ cond x (lefts_there (line_of t j g) b) 0
        step true e = refl
        step false e = lines_other t j g b.label.fabric (outs b.notes.items) e

    lefts_told : (g < length out.bays.items) ⊎ (length out.bays.items ≤ g) → lefts_at t j (history g) ≡ total (lefts_there (line_of t j g)) bays
    lefts_told (inl l) =
        let b = some_bay bays g l in
        let c = get_or bays g b in
        let notes = c.notes.items in
        ap (λ (ns : List report.Note). lefts_at t j ns) (history_at g b l)
        ∙ lefts_read g t j (get_or labels g b.label) notes (legal_at g b l)
        ∙ sym (lines_here t j g c.label.fabric (outs notes) (eq-eqb c.label.fabric g (fabric_at g b l)))
        ∙ sym (only_at (lefts_there (line_of t j g)) g own_lefts b l)
    lefts_told (inr l) =
        ap (λ (ns : List report.Note). lefts_at t j ns) (history_beyond g l)
        ∙ sym (none_beyond (lefts_there (line_of t j g)) g own_lefts l)

  -- how often a report reads that a tenant is put in line
  pub lines_known : (t j g : ℕ) (d : Start) (e : Transit) → t < length starts
      → lines_at t j (history_of (histories_of out.bays.items) g)
      ≡ rounds.lines_at (get_or starts t d) (get_or out.ended.items t e) g j + moved_at t j g out.answers.items + back_at t j g out.answers.items
  lines_known t j g d e lt = lines_told t j g (cases_lt g (length bays)) ∙ h.puts_at t j g d e lt

  -- and that it leaves
  pub lefts_known : (t j g : ℕ) → lefts_at t j (history_of (histories_of out.bays.items) g) ≡ total (lefts_there (line_of t j g)) out.bays.items
  lefts_known t j g = lefts_told t j g (cases_lt g (length bays))
