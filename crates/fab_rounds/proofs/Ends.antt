-- What a run has come to where all desks are closed.
use Rattle.std.proofs.Common.{◌≡◌, ℕ, ◌+◌, ◌<◌, ◌≤◌, ◌⊎◌, inl, inr, Bool, true, false, cond, eqb, eq-eqb, Option, Some, None, List, [], ◌∷◌, ◌++◌, length, get_or, map, refl, sym, ap, ap₂, ◌∙◌, subst, arith}
use Rattle.std.specs.List.{AllByRecursion as ByRecursion}
use Rattle.std.specs.Prelude.{All, Vec, not, ◌&&◌, ◌||◌, ◌==◌, is_some, if◌then◌else◌, nat_lt, reverse}
use Rattle.std.specs.declared.alloc.Global.{Global}
use Rattle.std.proofs.lemmas.Bool.{eqb-true, false≢true, le-ltb, lt-ltb, ltb-false, ltb-true}
use Rattle.std.proofs.lemmas.List.{append-nil, get_or-map, get_or_default, length-map}
use Rattle.std.proofs.lemmas.List.Elements.{recursion_from_All}
use Rattle.std.proofs.lemmas.Option.{none-some}
use Rattle.fab_core.specs.vl_design.specs.declared.design.End.{End}
use Rattle.fab_core.specs.vl_design.specs.Alone as alone
use Rattle.fab_core.specs.vl_design.specs.Alone.{reason_at, Boundary, Ends, FreeSave}
use Rattle.fab_core.specs.vl_design.specs.Queue.{Queue}
use Rattle.fab_core.specs.ten_core.specs.Tenants.{origin_of}
use Rattle.fab_core.specs.ten_parcel.specs.Parcels.{free_of, is_moved, is_stopped, number_of, origin_in, run_of, ticks_of}
use Rattle.fab_core.specs.ten_plan.specs.Plans.{move_at}
use Rattle.fab_core.specs.fab_model.specs.declared.transit.Stay.{Stay}
use Rattle.fab_core.specs.fab_model.specs.declared.transit.Transit.{Transit}
use Rattle.fab_core.specs.fab_model.specs.Histories.{IsLegal}
use Rattle.fab_core.specs.fab_model.specs.Moves.{ends_idle, is_behind, is_for, left_for, passed}
use Rattle.fab_core.specs.fab_model.specs.Origins.{AreOwn}
use Rattle.fab_core.specs.fab_model.specs.Tokens.{puts, token_of, Token}
use Rattle.fab_desk.specs.fab_bay.specs.declared.noted.Label.{Label}
use Rattle.fab_desk.specs.fab_bay.specs.declared.noted.NotedCore.{NotedCore}
use Rattle.fab_rounds.specs.declared.ledgers.Ledger.{Ledger}
use Rattle.fab_orders.specs.declared.outcomes.Answer.{Answer}
use Rattle.fab_orders.specs.declared.outcomes.Finding.{Finding}
use Rattle.fab_orders.specs.declared.outcomes.Order.{Order}
use Rattle.fab_orders.specs.declared.outcomes.Reached.{Reached}
use Rattle.fab_orders.specs.declared.outcomes.Reached.TheVariants as reached
use Rattle.fab_orders.specs.declared.outcomes.Start.{Start}
use Rattle.fab_orders.specs.declared.outcomes.Wanted.{Wanted}
use Rattle.fab_orders.specs.declared.outcomes.Wanted.TheVariants as wanted
use Rattle.fab_rounds.specs.declared.workers.Worker.{Worker}
use Rattle.fab_orders.specs.Totals.{total}
use Rattle.fab_orders.specs.Starts.{IsStart}
use Rattle.fab_orders.specs.Orders.{back_at, ended_by, found_by, gain_by, loss_by, moved_at, put_by, reached_in, saves_in, saves_of, stop_of, ticks_in, ticks_told}
use Rattle.fab_orders.specs.Outcomes.{alone as stops_alone, cause_of, goes_to, is_past, lefts_there, line_of, lines_at, lines_there, ordered, stays_there, HasStopped, IsCause, IsClosed, IsEnded, IsFoundAt, IsOutcome, IsTrue, IsUnended}
use Rattle.fab_rounds.specs.Ledgers.{all_outs, all_puts, ended_at, errands_of, found_there, in_hand, moving_sum, put_there, reach_in, start_sum, stopped_at, stops_told, worker_outs, AreAll, Balanced, HasEnded, HasStoppedBy, IsFinding, IsKept, IsSound, WeighsNoLeaver}
use Rattle.fab_rounds.proofs.Conserved.{each, nobody_left, nothing, outs_in, puts_in, settled, still, worth, IsOneClosed}
use Rattle.fab_rounds.proofs.Counted.{all_have_move, begins_once, errand_left, fresh, goes_some, has_move, is_nil, lines_counted, moveless, moves_once, nil_of, none_first, one, told_all, IsLeftFor}
use Rattle.fab_rounds.proofs.Lists.{own_origin}
use Rattle.fab_rounds.proofs.Told.{free_early, later, lines_by, none_by, other, same_by, saves_by, saves_one, split_by, stop_none, stop_some, stop_such, such, ticks_one, AreSound, IsBlind, IsSoundAnswer}
use Rattle.fab_orders.proofs.Totals.{total_at, total_each, total_none, total_zero}

one_and : (a b : Bool) → one (a && b) ≡ cond a (one b) 0
one_and true b = refl
one_and false b = refl

small : (b v : Bool) (n : ℕ) → cond b (1 + n) 0 ≡ 0 → one (b && v) ≡ 0
small true v n e = absurd (omega (arith, e))
small false v n e = refl

no_stays : (a b c : Bool) → c ≡ false → one (a && (b && c)) ≡ 0
no_stays true true true e = absurd (false≢true (sym e))
no_stays true true false e = refl
no_stays true false c e = refl
no_stays false b c e = refl

never_nil : (xs : List Stay) (x : Stay) → is_nil (xs ++ x ∷ []) ≡ false
never_nil [] x = refl
never_nil (y ∷ ys) x = refl

unmoved_behind : (past at m : Bool) → m ≡ false → one (past || (at && m)) ≡ one past
unmoved_behind true at m e = refl
unmoved_behind false true m e = ap one e
unmoved_behind false false m e = refl

unmoved_for : (at m v : Bool) → m ≡ false → one (at && (m && v)) ≡ 0
unmoved_for true true v e = absurd (false≢true (sym e))
unmoved_for true false v e = refl
unmoved_for false m v e = refl

withdrawn_for : (at m r i : Bool) → (m ≡ true → r ≡ true → i ≡ true) → one (at && (m && (r && not i))) ≡ 0
withdrawn_for false m r i h = refl
withdrawn_for true false r i h = refl
withdrawn_for true true false i h = refl
withdrawn_for true true true true h = refl
withdrawn_for true true true false h = absurd (false≢true (h refl refl))

and_zero : (b v : Bool) → one v ≡ 0 → one (b && v) ≡ 0
and_zero true v e = e
and_zero false v e = refl

off_from_none : (b : Bool) → one b ≡ 0 → b ≡ false
off_from_none true e = absurd (omega (arith, e))
off_from_none false e = refl

on_from_some : (b : Bool) → 0 < one b → b ≡ true
on_from_some true p = refl
on_from_some false p = absurd (omega (arith, p))

not_one : (b : Bool) → b ≡ true → one (not b) ≡ 0
not_one b e = ap (λ (c : Bool). one (not c)) e

or_on : (a b : Bool) → b ≡ true → one (a || b) ≡ 1
or_on true b e = refl
or_on false b e = ap one e

-- two tests that hold where their conjunction counts
both_of : (a b : Bool) → 0 < one (a && b) → (a ≡ true) × (b ≡ true)
both_of true true p = (refl, refl)
both_of true false p = absurd (omega (arith, p))
both_of false b p = absurd (omega (arith, p))

past_most : (j n : ℕ) (m : Bool) → (nat_lt j n || ((n == j) && m)) ≡ true → j ≤ n
past_most j n m e = by (nat_lt j n) refl e
  where
    at : (b : Bool) → (n == j) ≡ b → (b && m) ≡ true → j ≤ n
    at true q h = let w = eqb-true n j q in omega (arith, w)
    at false q h = absurd (false≢true h)

    by : (b : Bool) → nat_lt j n ≡ b → (b || ((n == j) && m)) ≡ true → j ≤ n
    by true q h = let w = ltb-true j n q in omega (arith, w)
    by false q h = at (n == j) refl h

past_unmoved : (j n : ℕ) (m : Bool) → m ≡ false → (nat_lt j n || ((n == j) && m)) ≡ true → j < n
past_unmoved j n m z e = by (nat_lt j n) refl e
  where
    none_at : (b c : Bool) → c ≡ false → (b && c) ≡ true → ⊥
    none_at true c w h = false≢true (sym w ∙ h)
    none_at false c w h = false≢true h

    by : (b : Bool) → nat_lt j n ≡ b → (b || ((n == j) && m)) ≡ true → j < n
    by true q h = ltb-true j n q
    by false q h = absurd (none_at (n == j) m z h)

module _ (l : Ledger) (ws : List Worker) (bays : Vec NotedCore Global) (rest : List Token) (k : IsKept l) (none : l.moving.items ≡ []) (done_all : l.orders.items ≡ []) (balanced : Balanced l ws)
    (all : AreAll (length l.loaded.value.items) l.done.items) (labels : map (λ b. b.label) bays.items ≡ l.labels.value.items) (closed : All IsOneClosed bays.items)
    (there : (f : ℕ → Token → ℕ) → total (lines_there f) bays.items ≡ total (put_there f) l.firsts.items) (outs : (f : Token → ℕ) → total (outs_in f) bays.items ≡ all_outs f l + worker_outs f ws + total f rest)
    (lefts : (f : ℕ → Token → ℕ) → total (found_there f) l.firsts.items ≤ total (lefts_there f) bays.items) (reach : (t : ℕ) → reach_in t l.firsts.items ≤ reached_in t bays.items)
    (few : (f : Token → ℕ) → WeighsNoLeaver f → worker_outs f ws ≡ 0) where
  abbrev loaded : List Start
  loaded = l.loaded.value.items

  abbrev answers : List Answer
  answers = l.answers.items

  sound : AreSound loaded l.causes.items l.done.items answers
  sound = recursion_from_All (IsSoundAnswer loaded l.causes.items l.done.items) answers k.answers

  -- ---- what is worth what

  abbrev gained : (Token → ℕ) → ℕ
  gained f = total (gain_by f) answers

  abbrev lost : (Token → ℕ) → ℕ
  lost f = total (loss_by f) answers

  -- what was loaded, came out, or came with a snapshot is what was put in line, has ended, or went for one
  tied : (f : Token → ℕ) → start_sum f loaded + gained f + (all_outs f l + worker_outs f ws) ≡ all_puts f l + (in_hand f l + lost f)
  tied f = let b = balanced f in omega (arith, b)

  -- what one tenant is worth where it was loaded, and in hand
  start_worth : (c : List FreeSave → ℕ) (w : Stay → ℕ) (t : ℕ) (d : Start) → t < length loaded → start_sum (worth t c w) loaded ≡ c (free_of (get_or loaded t d).transit.parcel) + total w (get_or loaded t d).transit.stays.items
  start_worth c w t d lt = total_at (λ (s : Start). number_of s.transit.parcel) (λ (s : Start). c (free_of s.transit.parcel) + total w s.transit.stays.items) t loaded 0 t d (omega arith) lt
      (λ i e h. let n = (k.starts i e h).number in omega (arith, n))

  hand_worth : (c : List FreeSave → ℕ) (w : Stay → ℕ) (t : ℕ) (e : Transit) → t < length loaded → in_hand (worth t c w) l ≡ c (free_of (get_or l.done.items t e).parcel) + total w (get_or l.done.items t e).stays.items
  hand_worth c w t e lt = let n = all.count in omega (
    arith,
    ap (moving_sum (worth t c w)) none,
    total_at (λ (x : Transit). number_of x.parcel) (λ (x : Transit). c (free_of x.parcel) + total w x.stays.items) t l.done.items 0 t e (omega arith) (omega (arith, n, lt)) (λ i x h. let m = all.number i x h in omega (arith, m)),
  )

  -- there is a start where there is a number
  start_of : (t : ℕ) → t < length loaded → Start
  start_of t lt = by loaded lt
    where
      by : (xs : List Start) → t < length xs → Start
      by [] h = absurd (omega (arith, h))
      by (x ∷ xs) h = x

  module _ (t : ℕ) (e : Transit) (lt : t < length loaded) where
    as_many : start_sum (worth t each nothing) loaded + gained (worth t each nothing) ≤ in_hand (worth t each nothing) l + lost (worth t each nothing)
    as_many = omega (
      arith,
      start_worth each nothing t (start_of t lt) lt,
      hand_worth each nothing t e lt,
      same_by (worth t each nothing) (λ name x. refl) answers,
      total_none nothing (λ x. refl) (get_or loaded t (start_of t lt)).transit.stays.items,
      total_none nothing (λ x. refl) (get_or l.done.items t e).stays.items,
    )

    worth_now : (c : List FreeSave → ℕ) (w : Stay → ℕ) → c [] ≡ 0
        → gained (worth t c w) + total (stays_there t w) bays.items ≡ c (free_of (get_or l.done.items t e).parcel) + total w (get_or l.done.items t e).stays.items + lost (worth t c w)
    worth_now c w zero =
        let h = k.starts t (start_of t lt) lt in omega (
          arith,
          settled t c w (λ f. start_sum f loaded + gained f) (λ f. all_outs f l + worker_outs f ws) (λ f. in_hand f l + lost f) (λ f. all_puts f l) rest bays.items (recursion_from_All IsOneClosed bays.items closed)
              tied outs (λ f. there (λ _. f)) as_many,
          start_worth c w t (start_of t lt) lt,
          hand_worth c w t e lt,
          ap c h.free,
          zero,
          ap (total w) h.stays,
        )

    stays_now : (w : Stay → ℕ) → total (stays_there t w) bays.items ≡ total w (get_or l.done.items t e).stays.items
    stays_now w = omega (arith, worth_now (λ _. 0) w refl, same_by (worth t (λ _. 0) w) (λ name x. refl) answers)

    -- the snapshots made besides are those that were ordered
    free_now : (v : FreeSave → ℕ) → total v (free_of (get_or l.done.items t e).parcel) ≡ total v (saves_of t answers)
    free_now v = omega (
      arith,
      worth_now (total v) nothing refl,
      saves_by loaded l.causes.items l.done.items t v answers sound,
      total_none (stays_there t nothing) (λ b. total_none nothing (λ x. refl) _) bays.items,
      total_none nothing (λ x. refl) (get_or l.done.items t e).stays.items,
    )

  all_bays : length bays.items ≡ length l.labels.value.items
  all_bays = sym (length-map bays.items (λ (b : NotedCore). b.label)) ∙ ap length labels

  bay_at : (i : ℕ) (d : Label) (b : NotedCore) → i < length l.labels.value.items → IsClosed (get_or l.labels.value.items i d) (get_or bays.items i b)
  bay_at i d b lt =
      let n = all_bays in
      let lt' : i < length bays.items = omega (arith, n, lt) in
      let x = get_or bays.items i b in
      let e : get_or l.labels.value.items i d ≡ x.label = ap (λ (y : List Label). get_or y i d) (sym labels) ∙ get_or-map (λ (y : NotedCore). y.label) bays.items i b d lt' in
      let h = closed i b lt' in record {
        label = sym e;
        legal = subst (λ (y : Label). IsLegal y.fabric y.capacity x.notes.items) (sym e) h.legal;
        own = subst (λ (y : Label). AreOwn y.origins (puts x.notes.items)) (sym e) h.own;
        lines = h.lines;
      }

  -- ---- lines

  abbrev puts_by : (Token → ℕ) → ℕ
  puts_by f = total (cause_of (λ _. f)) l.causes.items

  abbrev puts_told : (Token → ℕ) → ℕ
  puts_told f = total (put_by (λ _. f)) answers

  -- a weight of one tenant's tokens
  start_one : (v : Token → Bool) (t : ℕ) (d : Start) → t < length loaded → start_sum (such v t) loaded ≡ one (v (token_of (get_or loaded t d).transit))
  start_one v t d lt =
      total_each (λ (s : Start). one ((number_of s.transit.parcel == t) && v (token_of s.transit))) (λ (s : Start). cond (eqb (number_of s.transit.parcel) t) (one (v (token_of s.transit))) 0)
      (λ s. one_and (number_of s.transit.parcel == t) (v (token_of s.transit))) loaded
      ∙ total_at (λ (s : Start). number_of s.transit.parcel) (λ (s : Start). one (v (token_of s.transit))) t loaded 0 t d (omega arith) lt (λ i e h. let n = (k.starts i e h).number in omega (arith, n))

  -- of all that have ended, one has its number
  done_one : (v : Transit → Bool) (t : ℕ) (e : Transit) → t < length loaded → total (λ (x : Transit). one ((number_of x.parcel == t) && v x)) l.done.items ≡ one (v (get_or l.done.items t e))
  done_one v t e lt = let n = all.count in
      total_each (λ (x : Transit). one ((number_of x.parcel == t) && v x)) (λ (x : Transit). cond (eqb (number_of x.parcel) t) (one (v x)) 0) (λ x. one_and (number_of x.parcel == t) (v x)) l.done.items
      ∙ total_at (λ (x : Transit). number_of x.parcel) (λ (x : Transit). one (v x)) t l.done.items 0 t e (omega arith) (omega (arith, n, lt)) (λ i x h. let m = all.number i x h in omega (arith, m))

  hand_one : (v : Token → Bool) (t : ℕ) (e : Transit) → t < length loaded → in_hand (such v t) l ≡ one (v (token_of (get_or l.done.items t e)))
  hand_one v t e lt = omega (arith, ap (moving_sum (such v t)) none, done_one (λ x. v (token_of x)) t e lt)

  -- what was loaded or came out is what was put in line, by the causes and by orders, or has ended
  by_causes : (f : Token → ℕ) → IsBlind f → start_sum f loaded + (worker_outs f ws + all_outs f l) ≡ puts_by f + puts_told f + in_hand f l
  by_causes f blind =
      let b = balanced f in
      let c : all_puts f l ≡ puts_by f + puts_told f = k.caused (λ _. f) in
      let s = same_by f blind answers in
      omega (arith, b, c, s)

  module _ (t : ℕ) (d : Start) (e : Transit) (lt : t < length loaded) where
    abbrev s : Start
    s = get_or loaded t d

    abbrev x : Transit
    x = get_or l.done.items t e

    abbrev first : ℕ
    first = ticks_of s.transit.parcel

    abbrev last : ℕ
    last = ticks_of x.parcel

    is_start : IsStart l.labels.value.items t s
    is_start = k.starts t d lt

    in_done : t < length l.done.items
    in_done = let n = all.count in omega (arith, n, lt)

    has_ended : HasEnded loaded answers x
    has_ended = k.done t e in_done

    has_number : number_of x.parcel ≡ t
    has_number = all.number t e in_done

    itself : get_or loaded t s ≡ s
    itself = get_or_default loaded t s d lt

    same_origin : origin_in x.parcel ≡ origin_in s.transit.parcel
    same_origin = sym (own_origin loaded x.parcel d has_ended.own) ∙ ap (λ (j : ℕ). origin_in (get_or loaded j d).transit.parcel) has_number

    same_run : run_of x.parcel ≡ run_of s.transit.parcel
    same_run = ap origin_of same_origin

    -- ---- its end

    stopped_sum : (j : ℕ) → total (stopped_at t j) l.done.items ≡ one ((last == j) && is_stopped x.parcel)
    stopped_sum j = done_one (λ y. (ticks_of y.parcel == j) && is_stopped y.parcel) t e lt

    ended_sum : (j : ℕ) → total (ended_at t j) l.done.items ≡ one (last == j)
    ended_sum j = done_one (λ y. ticks_of y.parcel == j) t e lt

    stopped_there : (j : ℕ) → 0 < total (stopped_at t j) l.done.items → (j ≡ last) × (is_stopped x.parcel ≡ true)
    stopped_there j p =
        let b = both_of (last == j) (is_stopped x.parcel) (let q = stopped_sum j in omega (arith, p, q)) in
        (sym (eqb-true last j b.0), b.1)

    ended_there : (j : ℕ) → 0 < total (ended_at t j) l.done.items → j ≡ last
    ended_there j p = sym (eqb-true last j (on_from_some (last == j) (let q = ended_sum j in omega (arith, p, q))))

    stops_here : 0 < stops_told (number_of x.parcel) last answers → 0 < stops_told t last answers
    stops_here p = subst (λ (n : ℕ). 0 < stops_told n last answers) has_number p

    why_ended : HasStopped (stop_of t answers) x.parcel
    why_ended = by has_ended.why
      where
        by : HasStoppedBy answers x → HasStopped (stop_of t answers) x.parcel
        by (inl h) = stops_alone (stop_none loaded l.causes.items l.done.items t (λ j p. let q = stopped_there j p in false≢true (sym h.0 ∙ q.1)) answers sound) h.0 h.1 h.2 h.3 h.4
        by (inr h) = ordered (stop_some loaded l.causes.items l.done.items t last (λ j p. let q = stopped_there j p in q.0) answers sound (stops_here h.2)) h.0 h.1

    is_ended : IsEnded s t answers x
    is_ended = record {
      number = has_number;
      parcel = has_ended.parcel;
      origin = same_origin;
      free = free_now t e lt;
      why = why_ended;
    }

    gone : (total (still t each nothing) bays.items ≡ 0) × (total (worth t each nothing) rest ≡ 0)
    gone = nobody_left t (λ f. start_sum f loaded + gained f) (λ f. all_outs f l + worker_outs f ws) (λ f. in_hand f l + lost f) (λ f. all_puts f l) rest bays.items (recursion_from_All IsOneClosed bays.items closed)
        tied outs (λ f. there (λ _. f)) (as_many t e lt)

    -- whoever of it came out, came out at the seats
    out_one : (v : Token → Bool) → total (outs_in (such v t)) bays.items ≡ worker_outs (such v t) ws + all_outs (such v t) l
    out_one v =
        let o = outs (such v t) in
        let z = total_zero (worth t each nothing) (such v t) (λ y. small (y.tenant == t) (v y) (total nothing y.deed.stays)) rest gone.1 in
        omega (arith, o, z)

    -- ---- where it begins

    abbrev is_fresh : Token → Bool
    is_fresh y = not y.deed.moved && is_nil y.deed.stays

    fresh_leaver : WeighsNoLeaver (fresh t)
    fresh_leaver y left = let h = left.4 in no_stays (number_of y.transit.parcel == t) (not (is_moved y.transit.parcel)) (is_nil y.transit.stays.items) (ap is_nil h.stays ∙ never_nil h.before h.stay)

    -- it was put in line as it was loaded, but for where it was found so at its end
    fresh_sum : puts_by (fresh t) + one (is_fresh (token_of x)) ≡ 1 + total (ended_by (fresh t)) answers
    fresh_sum =
        let a = start_one is_fresh t d lt in
        let b = hand_one is_fresh t e lt in
        let c = by_causes (fresh t) (λ name y. refl) in
        let o = few (fresh t) fresh_leaver in
        let p = ap₂ (λ (m : Bool) (ys : List Stay). one (not m && is_nil ys)) is_start.moved is_start.stays in
        let f : all_outs (fresh t) l ≡ total (found_by (λ _. fresh t)) answers = k.found (λ _. fresh t) in
        let g = split_by loaded l.causes.items l.done.items (fresh t) (λ name y. refl) answers sound in
        omega (arith, a, b, c, o, p, f, g)

    fresh_over : total (ended_by (fresh t)) answers ≤ one (is_fresh (token_of x))
    fresh_over = let v = k.over (fresh t) in let o = done_one (λ y. is_fresh (token_of y)) t e lt in omega (arith, v, o)

    ends_there : (end : End) (q : Queue) → Ends (run_of x.parcel) last end q → Ends (run_of s.transit.parcel) last end q
    ends_there end q h = subst (λ (o : alone.Origin). Ends o last end q) same_run h

    begun_alone : is_stopped x.parcel ≡ false → is_moved x.parcel ≡ false → (end : End) (q : Queue) → Ends (run_of x.parcel) last end q → puts_by (fresh t) ≡ one (nat_lt first last || is_stopped x.parcel)
    begun_alone unstopped unmoved end q ends = by (is_nil x.stays.items) refl
      where
        never : last ≡ first → puts_by (fresh t) ≡ 0
        never same = none_first loaded l.labels.value.items k.starts t s lt itself (λ u. u end q (subst (λ (n : ℕ). Ends (run_of s.transit.parcel) n end q) same (ends_there end q ends))) l.causes.items k.causes

        by : (b : Bool) → is_nil x.stays.items ≡ b → puts_by (fresh t) ≡ one (nat_lt first last || is_stopped x.parcel)
        by true n =
            let same : last ≡ first = has_ended.first (nil_of x.stays.items n) d ∙ ap (λ (i : ℕ). ticks_of (get_or loaded i d).transit.parcel) has_number in
            never same ∙ sym (ap₂ (λ (a c : Bool). one (a || c)) (le-ltb first last (omega (arith, same))) unstopped)
        by false n =
            let sum = fresh_sum in
            let over = fresh_over in
            let z : one (is_fresh (token_of x)) ≡ 0 = and_zero (not (is_moved x.parcel)) (is_nil x.stays.items) (ap one n) in
            let once : puts_by (fresh t) ≡ 1 = omega (arith, sum, over, z) in
            let least = s.transit.before_end last end q (ends_there end q ends) in
            let apart : last ≡ first → ⊥ = λ same. let w = never same in omega (arith, w, once) in
            once ∙ sym (ap (λ (a : Bool). one (a || is_stopped x.parcel)) (lt-ltb first last (omega (arith, least, apart))))

    begun_stopped : is_stopped x.parcel ≡ true → 0 < stops_told t last answers → puts_by (fresh t) ≡ one (nat_lt first last || is_stopped x.parcel)
    begun_stopped stopped told = by (is_fresh (token_of x)) refl ∙ sym (or_on (nat_lt first last) (is_stopped x.parcel) stopped)
      where
        by : (b : Bool) → is_fresh (token_of x) ≡ b → puts_by (fresh t) ≡ 1
        by true n =
            let sum = fresh_sum in
            let over = fresh_over in
            let v = k.over (other is_fresh t) in
            let o = done_one (λ y. not (is_fresh (token_of y))) t e lt in
            let z = not_one (is_fresh (token_of x)) n in
            let f = stop_such loaded l.causes.items l.done.items is_fresh t last answers sound (omega (arith, v, o, z)) in
            omega (arith, sum, over, f, told, ap one n)
        by false n =
            let sum = fresh_sum in
            let over = fresh_over in
            omega (arith, sum, over, ap one n)

    begun_once : puts_by (fresh t) ≡ one (nat_lt first last || is_stopped x.parcel)
    begun_once = by has_ended.why
      where
        by : HasStoppedBy answers x → puts_by (fresh t) ≡ one (nat_lt first last || is_stopped x.parcel)
        by (inl h) = begun_alone h.0 h.1 h.2 h.3 h.4
        by (inr h) = begun_stopped h.0 (stops_here h.2)

    -- ---- where it moves

    module _ (j : ℕ) (some : is_some (move_at j (run_of s.transit.parcel).plan.errands) ≡ true) where
      all_move : total (puts_in (moveless t j)) bays.items ≡ 0
      all_move =
          let a : total (puts_in (moveless t j)) bays.items ≡ puts_by (moveless t j) + puts_told (moveless t j) = there (λ _. moveless t j) ∙ k.caused (λ _. moveless t j) in
          let b = all_have_move loaded l.labels.value.items k.starts t s lt itself j some l.causes.items k.causes in
          let c = none_by loaded l.causes.items l.done.items (moveless t j) (λ name y. refl)
          (λ u n y h. has_move loaded l.labels.value.items k.starts t s lt itself j some y.transit.value h.own (number_of y.transit.value.parcel == t) refl) answers sound in
          omega (arith, a, b, c)

      -- nobody who was put in line for an order had left for a move
      none_told : puts_told (left_for t j) ≡ 0
      none_told = none_by loaded l.causes.items l.done.items (left_for t j) (λ name y. refl)
          (λ u n y h. let z = y.transit.value in and_zero (number_of z.parcel == t) (is_for j (ticks_of z.parcel) (token_of z).deed) (withdrawn_for (ticks_of z.parcel == j) (is_moved z.parcel) z.resident (ends_idle z.stays.items) h.withdrawn)) answers sound

      moved_once : one (nat_lt j first) + puts_by (left_for t j) ≡ one (is_past j x.parcel)
      moved_once =
          let told = told_all t j bays.items (recursion_from_All IsOneClosed bays.items closed) gone.0 all_move in
          let p : total (puts_in (passed t j)) bays.items ≡ puts_by (passed t j) + puts_told (passed t j) = there (λ _. passed t j) ∙ k.caused (λ _. passed t j) in
          let a = out_one (λ y. is_behind j y.tick y.deed) in
          let b = out_one (λ y. is_for j y.tick y.deed) in
          let c = by_causes (passed t j) (λ name y. refl) in
          let f = by_causes (left_for t j) (λ name y. refl) in
          let g = none_told in
          let u = start_one (λ y. is_behind j y.tick y.deed) t d lt in
          let v = start_one (λ y. is_for j y.tick y.deed) t d lt in
          let y = hand_one (λ y. is_behind j y.tick y.deed) t e lt in
          let z = hand_one (λ y. is_for j y.tick y.deed) t e lt in
          let u' = unmoved_behind (nat_lt j first) (first == j) (is_moved s.transit.parcel) is_start.moved in
          let v' = unmoved_for (first == j) (is_moved s.transit.parcel) (s.transit.resident && not (ends_idle s.transit.stays.items)) is_start.moved in
          let z' = withdrawn_for (last == j) (is_moved x.parcel) x.resident (ends_idle x.stays.items) has_ended.withdrawn in
          omega (arith, told, p, a, b, c, f, g, u, v, y, z, u', v', z')

    lines_are : (j g : ℕ) → total (lines_there (line_of t j g)) bays.items ≡ lines_at s x g j + moved_at t j g answers + back_at t j g answers
    lines_are j g =
        let plan = (run_of s.transit.parcel).plan in
        let h : total (lines_there (line_of t j g)) bays.items ≡ total (cause_of (line_of t j g)) l.causes.items + total (put_by (line_of t j g)) answers = there (line_of t j g) ∙ k.caused (line_of t j g) in
        let c = lines_counted loaded l.labels.value.items k.starts t s lt itself j g l.causes.items k.causes in
        let o = lines_by loaded l.causes.items l.done.items t j g answers sound in
        let a = begins_once first last j (is_stopped x.parcel) (s.fabric == g) (puts_by (fresh t)) begun_once in
        let b = moves_once first j (puts_by (left_for t j)) (goes_to g (move_at j plan.errands)) (is_past j x.parcel) (λ q. moved_once j (goes_some g (move_at j plan.errands) q)) in
        omega (arith, h, c, o, a, b)

    -- ---- what is told of it

    -- where it was put in line for a move of its plan, its run doesn't end where it begins
    errand_unended : IsLeftFor loaded l.labels.value.items k.starts t s lt itself (λ j. puts_by (left_for t j)) → IsUnended s.transit.parcel
    errand_unended m end q ends =
        let j = m.0 in
        let n = m.2 in
        let once = moved_once j m.1 in
        let past = on_from_some (is_past j x.parcel) (omega (arith, once, n)) in
        by j past (ltb-false j first (off_from_none (nat_lt j first) (at_most_one (nat_lt j first) (is_past j x.parcel) (puts_by (left_for t j)) once n))) has_ended.why
      where
        at_most_one : (a b : Bool) (n : ℕ) → one a + n ≡ one b → 0 < n → one a ≡ 0
        at_most_one true true n h p = absurd (omega (arith, h, p))
        at_most_one true false n h p = absurd (omega (arith, h))
        at_most_one false b n h p = refl

        here : Boundary (run_of x.parcel) first q
        here = subst (λ (o : alone.Origin). Boundary o first q) (sym same_run) ends.at

        never : reason_at (run_of x.parcel).plan first q ≡ None → ⊥
        never z = none-some end (sym z ∙ ap (λ (o : alone.Origin). reason_at o.plan first q) same_run ∙ ends.why)

        by : (j : ℕ) → is_past j x.parcel ≡ true → first ≤ j → HasStoppedBy answers x → ⊥
        by j past le (inl h) = let lt' = past_unmoved j last (is_moved x.parcel) h.1 past in never (h.4.first first q (omega (arith, lt', le)) here)
        by j past le (inr h) = let most = past_most j last (is_moved x.parcel) past in never (h.1.none first q (omega (arith, most, le)) here)

    begun_so : IsUnended s.transit.parcel ⊎ (0 < errands_of t l.causes.items) → IsUnended s.transit.parcel
    begun_so (inl u) = u
    begun_so (inr p) = errand_unended (errand_left loaded l.labels.value.items k.starts t s lt itself l.causes.items (recursion_from_All (IsCause loaded) l.causes.items k.causes) p)

    found_at : (n : ℕ) (y : Finding) → IsFinding loaded l.causes.items t n y → IsFoundAt s t n y
    found_at n y h = (h.number, h.ticks, begun_so (h.begun d))

    tick_mine : (n : ℕ) → ByRecursion (λ j. j ≤ reach_in t l.firsts.items) (ticks_in t t (reached.At n)) → n ≤ reached_in t bays.items
    tick_mine n h =
        let g = (subst (λ (b : Bool). ByRecursion (λ j. j ≤ reach_in t l.firsts.items) (if b then n ∷ [] else [])) (eq-eqb t t refl) h).0 in
        let r = reach t in
        omega (arith, g, r)

    save_mine : (name : List ℕ) (n : ℕ) → total (later last) (saves_in t t (wanted.Save name) (reached.At n)) ≡ 0 → n ≤ last
    save_mine name n z =
        let y = subst (λ (b : Bool). total (later last) (if b then record { name = name; tick = n } ∷ [] else []) ≡ 0) (eq-eqb t t refl) z in
        ltb-false last n (off_from_none (nat_lt last n) (omega (arith, y)))

    true_of : (w : Wanted) (r : Reached) (y : Option Finding) → IsSound loaded l.causes.items l.done.items t w r y → ByRecursion (λ j. j ≤ reach_in t l.firsts.items) (ticks_in t t r)
        → total (later last) (saves_in t t w r) ≡ 0 → IsTrue bays.items s x t w r y
    true_of (wanted.Move g) (reached.At n) (Some y) h far late = found_at n y h
    true_of wanted.Stop (reached.At n) (Some y) h far late = let q = stopped_there n h.1 in (found_at n y h.0, q.0, q.1)
    true_of (wanted.Save name) (reached.At n) (Some y) h far late = (found_at n y h, h.since d, save_mine name n late)
    true_of wanted.Watch (reached.At n) None h far late = (tick_mine n far, h d)
    true_of (wanted.Move g) (reached.Ended n) y h far late = ended_there n h.1
    true_of wanted.Stop (reached.Ended n) y h far late = ended_there n h.1
    true_of (wanted.Save name) (reached.Ended n) y h far late = ended_there n h.1
    true_of w r y h far late = absurd h

    none_late : total (later last) (saves_of t answers) ≡ 0
    none_late = sym (free_now t e lt (later last)) ∙ free_early x.parcel has_ended.parcel

  answer_at : All (λ a. (d : Start) (e : Transit) → IsTrue bays.items (get_or loaded a.order.value.tenant d) (get_or l.done.items a.order.value.tenant e) a.order.value.tenant a.order.value.wanted a.reached a.finding) answers
  answer_at i y lt d e =
      let a = get_or answers i y in
      let t = a.order.value.tenant in
      let h = k.answers i y lt in
      true_of t d e h.0 a.order.value.wanted a.reached a.finding h.1
      (ticks_one (λ j. j ≤ reach_in t l.firsts.items) t answers i y lt (recursion_from_All (λ j. j ≤ reach_in t l.firsts.items) (ticks_told t answers) (k.far t)))
      (saves_one (later (ticks_of (get_or l.done.items t e).parcel)) t answers i y lt (none_late t d e h.0))

  all_asked : map (λ (a : Answer). a.order.value) answers ≡ l.asked.value.items
  all_asked =
      let orders : List Order = map (λ (a : Answer). a.order.value) answers in
      sym (append-nil orders) ∙ ap (λ (os : List Order). orders ++ reverse os) (sym done_all) ∙ k.asked

  pub outcome : IsOutcome l.labels.value.items l.loaded.value.items l.asked.value.items (record { ended = l.done; bays = bays; answers = l.answers })
  outcome = record {
    all_ended = all.count;
    ended = is_ended;
    all_bays = all_bays;
    bays = bay_at;
    stays = λ t e w lt. stays_now t e lt w;
    puts_at = λ t j g d e lt. lines_are t d e lt j g;
    asked = all_asked;
    answers = answer_at;
    lefts = λ f. let a = k.found f in let b = lefts f in omega (arith, a, b);
    watches = k.watches;
  }
