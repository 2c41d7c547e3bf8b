-- What a report says of a tenant that has ended.
use Rattle.std.proofs.Common.{◌≡◌, ℕ, ◌+◌, ◌<◌, ◌≤◌, ◌⊎◌, inl, inr, Bool, true, false, List, [], ◌∷◌, ◌++◌, length, get_or, map, cond, refl, sym, ap, ◌∙◌, subst, arith, Option, Some, None}
use Rattle.std.specs.Prelude.{◌==◌, ◌&&◌, ◌||◌, is_some, nat_le, nat_lt}
use Rattle.std.specs.List.{AllByRecursion}
use Rattle.std.proofs.lemmas.Bool.{cases_lt, eqb-true, false≢true}
use Rattle.ten_files.specs.vl_design.specs.declared.design.End.{End}
use Rattle.ten_files.specs.vl_design.specs.Alone as alone
use Rattle.ten_files.specs.vl_design.specs.Alone.{first_tick, Boundary, Ends, Plan}
use Rattle.ten_files.specs.vl_design.specs.Queue.{Queue}
use Rattle.ten_files.specs.vl_design.proofs.Settling.{at_first, ends_once}
use Rattle.host_judge.specs.ten_core.specs.declared.origin.Origin.{Origin}
use Rattle.host_judge.specs.ten_core.specs.Tenants.{origin_of}
use Rattle.fab_orders.specs.ten_parcel.specs.Parcels.{is_moved, is_stopped, run_of, ticks_of}
use Rattle.fab_orders.specs.ten_plan.specs.Plans.{move_at, IsPlan}
use Rattle.host_report.specs.fab_model.specs.declared.transit.Stay.{Stay}
use Rattle.host_report.specs.fab_model.specs.declared.transit.Transit.{Transit}
use Rattle.host_report.specs.fab_model.specs.Stays.{chains}
use Rattle.fab_orders.specs.fab_bay.specs.declared.noted.Label.{Label}
use Rattle.fab_orders.specs.declared.outcomes.Answer.{Answer}
use Rattle.fab_orders.specs.declared.outcomes.Order.{Order}
use Rattle.fab_orders.specs.declared.outcomes.Outcome.{Outcome}
use Rattle.fab_orders.specs.declared.outcomes.Start.{Start}
use Rattle.fab_orders.specs.Orders as done
use Rattle.fab_orders.specs.Outcomes as rounds
use Rattle.fab_orders.specs.Outcomes.{HasStopped, IsEnded, IsOutcome, IsUnended}
use Rattle.fab_orders.specs.Starts.{AreLabels, AreStarts}
use Rattle.fab_orders.specs.Totals.{total}
use Rattle.host_judge.specs.host_form.specs.Histories.{history_of, lefts_at, lines_at, lines_of, notes_of, times, AreOrdered, AreVisits, Histories, Visit}
use Rattle.host_judge.specs.host_form.specs.Orders.{moves_of, puts_at, stop_of, Answered, Put}
use Rattle.host_judge.specs.host_form.specs.Runs.{at_once, later, moves_when, AreLines, ArePut}
use Rattle.host_judge.specs.host_form.proofs.Times.{visits-by-times}
use Rattle.host_report.specs.Told.{goes_to, visit_of}
use Rattle.host_report.proofs.LinesOfNotes.{none_read}
use Rattle.host_report.proofs.Moved.{moves_once}
use Rattle.host_outcomes.specs.Ends.{Tells}
use Rattle.host_outcomes.specs.Reported.{histories_of, renumbered}
use Rattle.host_outcomes.proofs.Sums.{begins_first, begins_never, chain_told, moves_moved, moves_never, moves_unmoved, one}
use Rattle.host_outcomes.proofs.Bays.{history_at, history_beyond, lefts_known, lines_known, some_bay, stays_known}
use Rattle.host_outcomes.proofs.Carried.{lefts_carried, nowhere_carried, same_lines_at}
use Rattle.host_outcomes.proofs.Done.{back_known, have_left, none_back, none_moved, puts_append, puts_back, puts_first, ticks_saved, AreTrue}

same_goes : (g : ℕ) (o : Option ℕ) → rounds.goes_to g o ≡ goes_to g o
same_goes g None = refl
same_goes g (Some h) = refl

module _ (labels : List Label) (starts : List Start) (orders : List Order) (out : Outcome) (a : AreLabels starts labels) (b : AreStarts labels starts) (h : IsOutcome labels starts orders out)
    (t : ℕ) (d : Start) (e : Transit) (lt : t < length starts) where
  abbrev s : Start
  s = get_or starts t d

  abbrev x : Transit
  x = get_or out.ended.items t e

  abbrev first : ℕ
  first = ticks_of s.transit.parcel

  abbrev k : ℕ
  k = ticks_of x.parcel

  abbrev histories : Histories
  histories = histories_of out.bays.items

  abbrev theirs : List Answer
  theirs = out.answers.items

  ended : IsEnded s t out.answers.items x
  ended = h.ended t d e lt

  all_true : AreTrue out.bays.items starts out.ended.items out.answers.items
  all_true = h.answers

  begins : first_tick (run_of s.transit.parcel).resume ≡ first
  begins = eqb-true (first_tick (run_of s.transit.parcel).resume) first
      (subst (λ (xs : List Stay). chains (first_tick (run_of s.transit.parcel).resume) xs first ≡ true) (b t d lt).stays s.transit.chained)

  -- where its run has come to
  at_last : HasStopped (done.stop_of t out.answers.items) x.parcel → (q : Queue) × Boundary (run_of x.parcel) k q
  at_last (HasStopped.alone n y m end last ends) = (last, ends.at)
  at_last (HasStopped.ordered n y goes) = (goes.last, goes.at)

  not_before : first ≤ k
  not_before =
      let l = at_first (at_last ended.why).1 in
      let same : first_tick (run_of x.parcel).resume ≡ first = ap (λ (o : Origin). first_tick (origin_of o).resume) ended.origin ∙ begins in
      omega (arith, l, same)

  -- where it has ended by itself at its first tick it is put in line nowhere
  module _ (same : ticks_of (get_or starts t d).transit.parcel ≡ ticks_of (get_or out.ended.items t e).parcel) (end : End) (last : Queue) (y : is_stopped (get_or out.ended.items t e).parcel ≡ false) (m : is_moved (get_or out.ended.items t e).parcel ≡ false)
      (ends : Ends (run_of (get_or out.ended.items t e).parcel) (ticks_of (get_or out.ended.items t e).parcel) end last) where
    over : IsUnended s.transit.parcel → ⊥
    over n = n end last (subst (λ (j : ℕ). Ends (run_of s.transit.parcel) j end last) (sym same) (subst (λ (o : Origin). Ends (origin_of o) k end last) ended.origin ends))

    none_at : (g j : ℕ) → lines_at t j (history_of histories g) ≡ 0
    none_at g j =
        let l = lines_known labels starts orders out a h t j g d e lt in
        let z = begins_never first k j (is_stopped x.parcel) (s.fabric == g) same y in
        let v = moves_never first k j (is_moved x.parcel) (rounds.goes_to g (move_at j (run_of s.transit.parcel).plan.errands)) same m in
        let w = none_moved out.bays.items starts out.ended.items t d e j g over theirs all_true in
        let u = none_back out.bays.items starts out.ended.items t d e j g over theirs all_true in
        omega (arith, l, z, v, w, u)

    pub nowhere : (g : ℕ) → lines_of t (history_of (histories_of out.bays.items) g) ≡ []
    nowhere g = by (cases_lt g (length out.bays.items))
      where
        by : (g < length out.bays.items) ⊎ (length out.bays.items ≤ g) → lines_of t (history_of histories g) ≡ []
        by (inl l) =
            let c = some_bay out.bays.items g l in
            let at = history_at labels starts orders out a h g c l in
            ap (lines_of t) at
            ∙ none_read t (get_or out.bays.items g c).notes.items (λ j. ap (lines_at t j) (sym at) ∙ none_at g j)
        by (inr l) = ap (lines_of t) (history_beyond labels starts orders out a h g l)

  -- so it is where its run ends at its first tick
  pub over_at_once : (end : End) (q : Queue) → Ends (run_of (get_or starts t d).transit.parcel) (ticks_of (get_or starts t d).transit.parcel) end q
      → (g : ℕ) → lines_of t (history_of (histories_of out.bays.items) g) ≡ []
  over_at_once end q ends = by ended.why
    where
      here : Ends (run_of x.parcel) first end q
      here = subst (λ (o : Origin). Ends (origin_of o) first end q) (sym ended.origin) ends

      by : HasStopped (done.stop_of t out.answers.items) x.parcel → (g : ℕ) → lines_of t (history_of histories g) ≡ []
      by (HasStopped.alone n y m f last z) = nowhere (ends_once (run_of x.parcel) first k end f q last here z).0 f last y m z
      by (HasStopped.ordered n y goes) = absurd (false≢true (ap (λ (o : Option End). is_some o) (sym (goes.none first q not_before here.at) ∙ here.why)))

  -- ---- in histories in which it has another number

  module _ (refused : List Bool) (others : Histories) (n : ℕ)
      (same : (g : ℕ) → notes_of n (history_of others g) ≡ map (renumbered refused) (notes_of t (history_of (histories_of out.bays.items) g)))
      (answers : List Answered) (did : Tells answers n t out.answers.items)
      (o : alone.Origin) (i : IsPlan o.plan) (p : o.plan ≡ (run_of (get_or starts t d).transit.parcel).plan) (q : first_tick o.resume ≡ ticks_of (get_or starts t d).transit.parcel) where
    abbrev below : List Put
    below = moves_when (λ j. nat_le (first_tick o.resume) j && nat_lt j k) o.plan.errands

    abbrev there : List Put
    there = moves_when (λ j. j == k) o.plan.errands

    -- the move of the tick at which it was stopped, where it is done
    abbrev last_of : Bool → List Put
    last_of moved = cond moved there []

    moves_known : (g j : ℕ) → rounds.moves_at s x g j ≡ puts_at g j below + puts_at g j (last_of (is_moved x.parcel))
    moves_known g j =
        ap (λ (c : Bool). cond (c && (nat_le first j && rounds.is_past j x.parcel)) 1 0) (same_goes g (move_at j (run_of s.transit.parcel).plan.errands))
        ∙ ap (λ (v : Plan). cond (goes_to g (move_at j v.errands) && (nat_le first j && rounds.is_past j x.parcel)) 1 0) (sym p)
        ∙ by (is_moved x.parcel)
      where
        counted : puts_at g j below ≡ cond (goes_to g (move_at j o.plan.errands) && (nat_le first j && nat_lt j k)) 1 0
        counted =
            moves_once g j (λ j. nat_le (first_tick o.resume) j && nat_lt j k) o.plan i
            ∙ ap (λ (m : ℕ). cond (goes_to g (move_at j o.plan.errands) && (nat_le m j && nat_lt j k)) 1 0) q

        by : (m : Bool) → cond (goes_to g (move_at j o.plan.errands) && (nat_le first j && (nat_lt j k || ((k == j) && m)))) 1 0 ≡ puts_at g j below + puts_at g j (last_of m)
        by true =
            let z = moves_moved first k j true (goes_to g (move_at j o.plan.errands)) not_before refl in
            let w = moves_once g j (λ j. j == k) o.plan i in
            omega (arith, z, w, counted)
        by false =
            let z = moves_unmoved first k j false (goes_to g (move_at j o.plan.errands)) refl in
            omega (arith, z, counted)

    -- where it is put in line
    abbrev begun : List Put
    begun = record { fabric = s.fabric; tick = first_tick o.resume } ∷ []

    abbrev all_puts : List Put
    all_puts = begun ++ below ++ last_of (is_moved x.parcel) ++ moves_of n answers ++ puts_back t theirs

    begun_once : (g j : ℕ) → one ((s.fabric == g) && (first == j)) ≡ puts_at g j begun
    begun_once g j =
        let z = puts_first g j (record { fabric = s.fabric; tick = first_tick o.resume }) [] in
        let at : one ((s.fabric == g) && (first_tick o.resume == j)) ≡ one ((s.fabric == g) && (first == j)) = ap (λ (u : ℕ). one ((s.fabric == g) && (u == j))) q in
        omega (arith, z, at)

    counted_so : (first < k) ⊎ (is_stopped x.parcel ≡ true) → (g j : ℕ) → rounds.lines_at s x g j + done.moved_at t j g theirs + done.back_at t j g theirs ≡ puts_at g j all_puts
    counted_so late g j =
        let last : List Put = last_of (is_moved x.parcel) in
        let z = begins_first first k j (is_stopped x.parcel) (s.fabric == g) late in
        let c = begun_once g j in
        let m = moves_known g j in
        let v = did.moves g j in
        let w = back_known t g j theirs in
        let p1 = puts_append g j begun below in
        let p2 = puts_append g j (begun ++ below) last in
        let p3 = puts_append g j (begun ++ below ++ last) (moves_of n answers) in
        let p4 = puts_append g j (begun ++ below ++ last ++ moves_of n answers) (puts_back t theirs) in
        omega (arith, z, c, m, v, w, p1, p2, p3, p4)

    all_left : (ps : List Put) → AllByRecursion (λ p. 0 < total (rounds.lefts_there (rounds.line_of t p.tick p.fabric)) out.bays.items) ps
        → AllByRecursion (λ p. 0 < lefts_at t p.tick (history_of histories p.fabric)) ps
    all_left [] l = tt
    all_left (p ∷ ps) l = (subst (λ (m : ℕ). 0 < m) (sym (lefts_known labels starts orders out a h t p.tick p.fabric)) l.0, all_left ps l.1)

    put_so : (first < k) ⊎ (is_stopped x.parcel ≡ true) → (is_moved x.parcel ≡ true → stop_of n answers ≡ Some k) → ArePut others answers n s.fabric o k
    put_so late stop = record {
      last = last_of (is_moved x.parcel);
      back = puts_back t theirs;
      may = may (is_moved x.parcel) refl;
      saved = ticks_saved out.bays.items starts out.ended.items t d e theirs all_true ∙ ap (λ ss. map (λ s. s.tick) ss) (sym did.saves);
      left = lefts_carried refused others histories n t same (puts_back t theirs) (all_left (puts_back t theirs) (have_left out.bays.items starts out.ended.items t d e theirs all_true h.lefts));
      just = λ g j. same_lines_at refused others histories n t same j g ∙ lines_known labels starts orders out a h t j g d e lt ∙ counted_so late g j;
    }
      where
        may : (m : Bool) → is_moved x.parcel ≡ m → (last_of m ≡ []) ⊎ ((stop_of n answers ≡ Some k) × (last_of m ≡ there))
        may true z = inr (stop z, refl)
        may false z = inl refl

    pub lines_reported : AreLines others answers n (get_or starts t d).fabric o (ticks_of (get_or out.ended.items t e).parcel)
    lines_reported = by ended.why
      where
        by_itself : done.stop_of t theirs ≡ None → is_stopped x.parcel ≡ false → is_moved x.parcel ≡ false → (end : End) (last : Queue) → Ends (run_of x.parcel) k end last
            → (first < k) ⊎ (k ≤ first) → AreLines others answers n s.fabric o k
        by_itself none y m end last ends (inl l) = later (λ _ z. omega (arith, z, q, l)) (put_so (inl l) (λ c. absurd (false≢true (sym m ∙ c))))
        by_itself none y m end last ends (inr l) =
            let once : first ≡ k = let z = not_before in omega (arith, l, z) in
            at_once (did.stop ∙ none) (omega (arith, once, q)) (nowhere_carried refused others histories n t same (nowhere once end last y m ends))

        by : HasStopped (done.stop_of t theirs) x.parcel → AreLines others answers n s.fabric o k
        by (HasStopped.alone none y m end last ends) = by_itself none y m end last ends (cases_lt first k)
        by (HasStopped.ordered stop y goes) =
            later (λ z. absurd (false≢true (ap (λ (o : Option ℕ). is_some o) (sym z ∙ did.stop ∙ stop)))) (put_so (inr y) (λ c. did.stop ∙ stop))

  chained : chains first x.stays.items k ≡ true
  chained = subst (λ (n : ℕ). chains n x.stays.items k ≡ true) begins
      (subst (λ (o : Origin). chains (first_tick (origin_of o).resume) x.stays.items k ≡ true) ended.origin x.chained)

  pub stays_reported : (visits : List Visit) → AreOrdered visits → ((v : Visit) → times v visits ≡ times v (map visit_of (get_or out.ended.items t e).stays.items))
      → AreVisits (histories_of out.bays.items) t (ticks_of (get_or starts t d).transit.parcel) (ticks_of (get_or out.ended.items t e).parcel) visits
  stays_reported visits o same =
      let c = chain_told first k x.stays.items chained in
      visits-by-times histories t first k (map visit_of x.stays.items) visits c.0 c.1 (λ v. stays_known labels starts orders out a h t e v lt) o same
