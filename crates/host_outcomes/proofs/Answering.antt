-- The replies may be given.
use Rattle.std.proofs.Common.{◌≡◌, ◌≢◌, ℕ, ◌+◌, ◌<◌, ◌≤◌, Bool, true, false, ◌==◌, ◌&&◌, if◌then◌else◌, List, [], ◌∷◌, ◌++◌, length, map, get_or, slice_get, Option, Some, None, refl, sym, subst, ap, ◌∙◌, arith}
use Rattle.std.specs.Prelude.{All, ⊤}
use Rattle.std.specs.List.{AllByRecursion}
use Rattle.std.proofs.lemmas.Bool.{eq-eqb}
use Rattle.std.proofs.lemmas.List.{append_assoc, get_or-map}
use Rattle.std.proofs.lemmas.List.Elements.{All-head, All-tail, recursion_from_All}
use Rattle.std.proofs.lemmas.Option.{get_or_from_slice_get, slice_get_within}
use Rattle.ten_files.specs.vl_design.specs.declared.design.End.TheVariants.{Stopped}
use Rattle.ten_files.specs.vl_design.specs.Alone.{first_tick}
use Rattle.ten_files.specs.vl_design.specs.Cost.{cost, Cost}
use Rattle.host_judge.specs.host_text.specs.declared.script.FabricLine.{FabricLine}
use Rattle.host_judge.specs.host_text.specs.declared.script.Free.{Free}
use Rattle.host_judge.specs.host_text.specs.declared.script.Free.TheVariants as free
use Rattle.host_judge.specs.host_text.specs.declared.script.Script.{Script}
use Rattle.host_judge.specs.host_text.specs.Laws.{IsFree, IsWithinLimits}
use Rattle.host_judge.specs.ten_core.specs.declared.origin.Origin as core
use Rattle.host_judge.specs.ten_core.specs.Tenants.{origin_of}
use Rattle.fab_orders.specs.ten_parcel.specs.Parcels.{origin_in, run_of, ticks_of}
use Rattle.host_report.specs.fab_model.specs.declared.transit.Transit.{Transit}
use Rattle.host_report.specs.fab_model.specs.Tokens.{token_of, Token}
use Rattle.fab_orders.specs.fab_bay.specs.declared.noted.Label.{Label}
use Rattle.fab_orders.specs.fab_bay.specs.declared.noted.NotedCore.{NotedCore}
use Rattle.fab_orders.specs.declared.outcomes.Answer.{Answer}
use Rattle.fab_orders.specs.declared.outcomes.Finding.{Finding}
use Rattle.fab_orders.specs.declared.outcomes.Order.{Order}
use Rattle.fab_orders.specs.declared.outcomes.Outcome as rounds
use Rattle.fab_orders.specs.declared.outcomes.Reached.{Reached}
use Rattle.fab_orders.specs.declared.outcomes.Reached.TheVariants as reached
use Rattle.fab_orders.specs.declared.outcomes.Start.{Start}
use Rattle.fab_orders.specs.declared.outcomes.Wanted.{Wanted}
use Rattle.fab_orders.specs.Orders as run
use Rattle.fab_orders.specs.Orders.{found_by, found_for, moved_at, reached_in, ticks_told, AreAbove, IsAbove}
use Rattle.fab_orders.specs.Outcomes.{line_of, IsFoundAt, IsOutcome, IsTrue, IsUnended}
use Rattle.fab_orders.specs.Totals.{total}
use Rattle.host_judge.specs.host_form.specs.Origins.{has_room, Tenant}
use Rattle.host_judge.specs.host_form.specs.Histories.{history_of, lefts_at, lines_at, Histories, IsPlaced, Leaves}
use Rattle.host_judge.specs.host_form.specs.Histories as form
use Rattle.host_judge.specs.host_form.specs.Orders.{stop_of, tenant_of, Answered}
use Rattle.host_judge.specs.host_form.specs.Orders as told
use Rattle.host_judge.specs.host_form.specs.Replies.{AreAnswered, MayAnswer, MayMove, MayReply, MaySave, MayStop, MayWatch}
use Rattle.host_judge.specs.host_form.specs.Reports.{AreOutcomes}
use Rattle.host_judge.specs.host_form.specs.Runs.{Outcome, Ran, Run}
use Rattle.host_judge.specs.host_text.specs.declared.block.Reply.TheVariants as reply_is
use Rattle.host_judge.specs.declared.verdict.Ready.{Ready}
use Rattle.host_judge.specs.host_form.specs.declared.refusal.Refusal.{Refusal}
use Rattle.host_report.specs.Ends.{is_refused}
use Rattle.host_outcomes.specs.Begun.{AreBegun}
use Rattle.host_outcomes.specs.Ends.{AreTold}
use Rattle.host_outcomes.specs.Reported.{number_in, numbers_from}
use Rattle.host_outcomes.specs.Seen.{Sees}
use Rattle.host_outcomes.specs.Given.{answered, costs_begun, costs_of, fits, given, is_gone, no_cost, order_for, rank, reply_for, wanted_by, with_reply}
use Rattle.host_outcomes.proofs.Doing.{tells}
use Rattle.host_outcomes.proofs.Giving.{costs-kept}
use Rattle.host_outcomes.proofs.Hearing.{heard-given, heard-refused, heard-small, IsHeard}
use Rattle.host_outcomes.proofs.Knowing.{begun-at, member, refused-at, running-at, stopped-so}
use Rattle.host_outcomes.proofs.Ranks.{number-of-rank}
use Rattle.host_outcomes.proofs.Sorting.{answered_by, given_by}

-- ---- one answer among all

moved-least : (t j g : ℕ) (done : List Answer) (a : Answer) (rest : List Answer)
    → run.moves_in t j g a.order.value.tenant a.order.value.wanted a.reached ≤ moved_at t j g (done ++ a ∷ rest)
moved-least t j g [] a rest = omega arith
moved-least t j g (x ∷ done) a rest = let l = moved-least t j g done a rest in omega (arith, l)

found-least : (f : ℕ → Token → ℕ) (done : List Answer) (a : Answer) (rest : List Answer) → found_by f a ≤ total (found_by f) (done ++ a ∷ rest)
found-least f [] a rest = omega arith
found-least f (x ∷ done) a rest = let l = found-least f done a rest in omega (arith, l)

or-none : (x y : Option ℕ) → run.or_else x y ≡ None → (x ≡ None) × (y ≡ None)
or-none (Some k) y e = let z : ⊥ = cc in absurd z
or-none None y e = (refl, e)

none-stops : (t : ℕ) (done : List Answer) (a : Answer) (rest : List Answer) → run.stop_of t (done ++ a ∷ rest) ≡ None → run.stop_in t a.order.value.tenant a.order.value.wanted a.reached ≡ None
none-stops t [] a rest e = (or-none (run.stop_in t a.order.value.tenant a.order.value.wanted a.reached) (run.stop_of t rest) e).0
none-stops t (x ∷ done) a rest e = none-stops t done a rest (or-none (run.stop_in t x.order.value.tenant x.order.value.wanted x.reached) (run.stop_of t (done ++ a ∷ rest)) e).1

abbrev to_number : Bool → ℕ
to_number b = if b then 1 else 0

-- ---- what is known of a tenant that runs, for an answer to an order that was given to it

record IsClear (fabrics : List FabricLine) (histories : Histories) (n k : ℕ) (c : Cost) (s : Start) (e : Transit) (bays : List NotedCore) (theirs : List Answer) (answers : List Answered) (r : Run) : Type 0 where
  cost : cost r.origin.flat ≡ c
  tick : r.tick ≡ ticks_of e.parcel
  first : first_tick r.origin.resume ≡ ticks_of s.transit.parcel
  stopped : run.stop_of k theirs ≢ None → r.reason ≡ Stopped
  moved : (j g : ℕ) → 0 < moved_at k j g theirs → 0 < lines_at n j (history_of histories g)
  left : (j g : ℕ) → 0 < total (found_by (line_of k j g)) theirs → 0 < lefts_at n j (history_of histories g)
  far : form.reached histories n ≡ reached_in k bays
  placed : IsPlaced histories n → IsUnended s.transit.parcel

module _ (fabrics : List FabricLine) (histories : Histories) (n k : ℕ) (c : Cost) (s : Start) (e : Transit) (bays : List NotedCore) (theirs : List Answer) (answers : List Answered) (r : Run)
    (clear : IsClear fabrics histories n k c s e bays theirs answers r) where
  -- where it was found it leaves
  leaves : (j : ℕ) (x : Finding) → IsFoundAt s k j x → ((f : ℕ → Token → ℕ) → found_for f (Some x) ≤ total (found_by f) theirs) → Leaves histories n j
  leaves j x at all =
      let a = eq-eqb (token_of x.transit.value).tenant k at.0 in
      let b = eq-eqb (token_of x.transit.value).tick j at.1 in
      let g = eq-eqb x.fabric x.fabric refl in
      let one : line_of k j x.fabric x.fabric (token_of x.transit.value) ≡ 1 =
      ap (λ (p : Bool). to_number (p && (((token_of x.transit.value).tick == j) && (x.fabric == x.fabric)))) a
      ∙ ap (λ (p : Bool). to_number (p && (x.fabric == x.fabric))) b
      ∙ ap to_number g in
      let l = all (line_of k j x.fabric) in
      (x.fabric, clear.left j x.fabric (omega (arith, one, l)))

  one-move : (j g : ℕ) → run.moves_in k j g k (wanted_by (free.Move n g)) (reached.At j) ≡ 1
  one-move j g =
      ap (λ (p : Bool). to_number (p && ((j == j) && (g == g)))) (eq-eqb k k refl)
      ∙ ap (λ (p : Bool). to_number (p && (g == g))) (eq-eqb j j refl)
      ∙ ap to_number (eq-eqb g g refl)

  may-move : (g : ℕ) (x : Reached) (f : Option Finding) → has_room fabrics c g ≡ true → IsTrue bays s e k (wanted_by (free.Move n g)) x f
      → ((j h : ℕ) → run.moves_in k j h k (wanted_by (free.Move n g)) x ≤ moved_at k j h theirs) → MayMove fabrics histories n g r (reply_for x)
  may-move g (reached.At j) None room so all = absurd so
  may-move g (reached.At j) (Some x) room so all =
      let one = one-move j g in
      let l = all j g in
      (ap (λ (d : Cost). has_room fabrics d g) clear.cost ∙ room, clear.moved j g (omega (arith, one, l)))
  may-move g (reached.Ended j) f room so all = (ap (λ (d : Cost). has_room fabrics d g) clear.cost ∙ room, so ∙ sym clear.tick)

  one-stop : (j : ℕ) → run.stop_in k k (wanted_by (free.Stop n)) (reached.At j) ≡ Some j
  one-stop j = ap (λ (p : Bool). if p then Some j else None) (eq-eqb k k refl)

  may-stop : (x : Reached) (f : Option Finding) → IsTrue bays s e k (wanted_by (free.Stop n)) x f → (run.stop_of k theirs ≡ None → run.stop_in k k (wanted_by (free.Stop n)) x ≡ None)
      → ((g : ℕ → Token → ℕ) → found_for g f ≤ total (found_by g) theirs) → MayStop histories n r (reply_for x)
  may-stop (reached.At j) None so none all = absurd so
  may-stop (reached.At j) (Some x) so none all =
      let some : run.stop_of k theirs ≢ None = λ z. let p = sym (one-stop j) ∙ none z in let w : ⊥ = cc in w in
      (so.1 ∙ sym clear.tick, clear.stopped some, leaves j x so.0 all)
  may-stop (reached.Ended j) f so none all = so ∙ sym clear.tick

  may-save : (name : List ℕ) (x : Reached) (f : Option Finding) → IsTrue bays s e k (wanted_by (free.Save n name)) x f → ((g : ℕ → Token → ℕ) → found_for g f ≤ total (found_by g) theirs)
      → MaySave histories n r (reply_for x)
  may-save name (reached.At j) None so all = absurd so
  may-save name (reached.At j) (Some x) so all =
      let a = clear.first in
      let b = clear.tick in
      let l = so.1 in
      let m = so.2 in
      (omega (arith, a, l), omega (arith, b, m), leaves j x so.0 all)
  may-save name (reached.Ended j) f so all = so ∙ sym clear.tick

  may-watch : (earlier : List Answered) (done : List Answer) (x : Reached) (f : Option Finding) → IsTrue bays s e k (wanted_by (free.Watch n)) x f → told.ticks_of n earlier ≡ ticks_told k done
      → IsAbove done k (wanted_by (free.Watch n)) x → MayWatch histories earlier n r (reply_for x)
  may-watch earlier done (reached.At j) None so heard above =
      let a = clear.first in
      let b = clear.far in
      let l = so.0 in (
        omega (arith, b, l),
        λ placed. let m = so.1 (clear.placed placed) in omega (arith, a, m),
        subst (λ (xs : List ℕ). AllByRecursion (λ i. i ≤ j) xs) (sym heard) (recursion_from_All (λ i. i ≤ j) (ticks_told k done) above),
      )
  may-watch earlier done (reached.At j) (Some x) so heard above = absurd so
  may-watch earlier done (reached.Ended j) f so heard above = absurd so

-- what an answer brings, where the order is this
record IsHeld (bays : List NotedCore) (s : Start) (e : Transit) (k : ℕ) (theirs done : List Answer) (w : Wanted) (x : Reached) (f : Option Finding) : Type 0 where
  so : IsTrue bays s e k w x f
  above : IsAbove done k w x
  moved : (j g : ℕ) → run.moves_in k j g k w x ≤ moved_at k j g theirs
  found : (g : ℕ → Token → ℕ) → found_for g f ≤ total (found_by g) theirs
  stops : run.stop_of k theirs ≡ None → run.stop_in k k w x ≡ None

-- there is room for it
abbrev HasRoomFor : List FabricLine → Cost → Free → Type 0
HasRoomFor fabrics c (free.Move n g) = has_room fabrics c g ≡ true
HasRoomFor fabrics c o = ⊤

module _ (fabrics : List FabricLine) (histories : Histories) (k : ℕ) (c : Cost) (s : Start) (e : Transit) (bays : List NotedCore) (theirs : List Answer) (answers : List Answered) (r : Run)
    (earlier : List Answered) (done : List Answer) where
  may-reply : (o : Free) (x : Reached) (f : Option Finding) → IsClear fabrics histories (tenant_of o) k c s e bays theirs answers r → HasRoomFor fabrics c o
      → told.ticks_of (tenant_of o) earlier ≡ ticks_told k done → IsHeld bays s e k theirs done (wanted_by o) x f → MayReply fabrics histories earlier r o (reply_for x)
  may-reply (free.Move n g) x f clear room heard held = may-move fabrics histories n k c s e bays theirs answers r clear g x f room held.so held.moved
  may-reply (free.Stop n) x f clear room heard held = may-stop fabrics histories n k c s e bays theirs answers r clear x f held.so held.stops held.found
  may-reply (free.Save n name) x f clear room heard held = may-save fabrics histories n k c s e bays theirs answers r clear name x f held.so held.found
  may-reply (free.Watch n) x f clear room heard held = may-watch fabrics histories n k c s e bays theirs answers r clear earlier done x f held.so heard held.above

-- ---- all orders

in-range : (fabrics tenants : ℕ) (o : Free) → IsFree fabrics tenants o → tenant_of o < tenants
in-range fabrics tenants (free.Move n g) h = h.0
in-range fabrics tenants (free.Stop n) h = h
in-range fabrics tenants (free.Save n name) h = h
in-range fabrics tenants (free.Watch n) h = h

room-for : (fabrics : List FabricLine) (refused : List Bool) (costs : List Cost) (o : Free) → fits fabrics refused costs o ≡ true
    → HasRoomFor fabrics (get_or costs (rank refused (tenant_of o)) no_cost) o
room-for fabrics refused costs (free.Move n g) h = h
room-for fabrics refused costs (free.Stop n) h = tt
room-for fabrics refused costs (free.Save n name) h = tt
room-for fabrics refused costs (free.Watch n) h = tt

small : (fabrics : List FabricLine) (histories : Histories) (refused : List Bool) (costs : List Cost) (earlier : List Answered) (r : Run) (o : Free) → cost r.origin.flat ≡ get_or costs (rank refused (tenant_of o)) no_cost
    → fits fabrics refused costs o ≡ false → MayReply fabrics histories earlier r o reply_is.Small
small fabrics histories refused costs earlier r (free.Move n g) same h = ap (λ (c : Cost). has_room fabrics c g) same ∙ h
small fabrics histories refused costs earlier r (free.Stop n) same h = let z : ⊥ = cc in absurd z
small fabrics histories refused costs earlier r (free.Save n name) same h = let z : ⊥ = cc in absurd z
small fabrics histories refused costs earlier r (free.Watch n) same h = let z : ⊥ = cc in absurd z

module _ (s : Script) (tenants : List Tenant) (refusals : List (Option Refusal)) (readies : List Ready) (labels : List Label) (starts : List Start) (orders : List Order) (out : rounds.Outcome)
    (histories : Histories) (ys : List Outcome) where
  abbrev refused : List Bool
  refused = map is_refused refusals

  abbrev costs : List Cost
  costs = costs_of out.ended.items

  abbrev theirs : List Answer
  theirs = out.answers.items

  abbrev answers : List Answered
  answers = answered s.fabrics refused costs s.free theirs

  abbrev SeesEach : Type 0
  SeesEach = (k n : ℕ) (d : Start) → k < length starts → k < length (numbers_from 0 refused) → number_in refused k ≡ n → Sees histories n k (get_or starts k d) out

  abbrev IsTrueOf : Answer → Type 0
  IsTrueOf a = (d : Start) (e : Transit) → IsTrue out.bays.items (get_or starts a.order.value.tenant d) (get_or out.ended.items a.order.value.tenant e) a.order.value.tenant a.order.value.wanted a.reached a.finding

  module _ (begun : AreBegun readies starts) (o : IsOutcome labels starts orders out) (asked : map (λ a. a.order.value) theirs ≡ given s.fabrics refused costs s.free) (sees : SeesEach)
      (comes : AreOutcomes s histories answers 0 tenants ys) (says : AreTold answers 0 refusals out.ended.items ys) where
    -- what is known of the tenant of a number that runs
    record IsKnown (n : ℕ) : Type 0 where
      run : Run
      start : Start
      end : Transit
      there : slice_get ys n ≡ Some (Ran run)
      clear : IsClear s.fabrics histories n (rank refused n) (get_or costs (rank refused n) no_cost) (get_or starts (rank refused n) start) (get_or out.ended.items (rank refused n) end) out.bays.items theirs answers run

    known : (n : ℕ) → get_or refused n true ≡ false → IsKnown n
    known n runs =
        let h = running-at s histories answers 0 n tenants refusals out.ended.items ys comes says runs in
        let zero_n : 0 + n ≡ n = omega arith in
        let among = number-of-rank refused n runs in
        let l : rank refused n < length out.ended.items = slice_get_within out.ended.items (rank refused n) h.end h.ended in
        let count = o.all_ended in
        let m : rank refused n < length starts = omega (arith, l, count) in
        let start = member starts (rank refused n) m in
        let x : Start = get_or starts (rank refused n) start in
        let e : Transit = get_or out.ended.items (rank refused n) h.end in
        let at : e ≡ h.end = get_or_from_slice_get out.ended.items (rank refused n) h.end h.end h.ended in
        let same : origin_in e.parcel ≡ origin_in x.transit.parcel = (o.ended (rank refused n) start h.end m).origin in
        let seen = sees (rank refused n) n start m among.0 among.1 in
        let tells_stop : stop_of n answers ≡ run.stop_of (rank refused n) theirs = (tells refused n runs s.fabrics costs s.free theirs asked).stop in
        record {
          run = h.run;
          start = start;
          end = h.end;
          there = h.there;
          clear = record {
            cost = h.told.cost ∙ ap (λ (t : Transit). cost (run_of t.parcel).flat) (sym at) ∙ sym (get_or-map (λ (t : Transit). cost (run_of t.parcel).flat) out.ended.items (rank refused n) h.end no_cost l);
            tick = h.told.tick ∙ ap (λ (t : Transit). ticks_of t.parcel) (sym at);
            first =
                h.told.first
                ∙ ap (λ (t : Transit). first_tick (run_of t.parcel).resume) (sym at)
                ∙ ap (λ (y : core.Origin). first_tick (origin_of y).resume) same
                ∙ sym (begun-at readies starts begun (rank refused n) start m);
            stopped = λ some. stopped-so s h.runs (λ none. some (sym tells_stop ∙ subst (λ i. stop_of i answers ≡ None) zero_n none));
            moved = seen.moved;
            left = seen.left;
            far = seen.far;
            placed = seen.placed;
          };
        }

    -- ---- one order

    abbrev Left : List Answer → Free → List Free → Type 0
    Left ts f fs = map (λ a. a.order.value) ts ≡ given s.fabrics refused costs (f ∷ fs)

    answer-refused : (earlier : List Answered) (f : Free) → tenant_of f < length tenants → is_gone refused f ≡ true
        → MayAnswer s.fabrics histories earlier (slice_get ys (tenant_of f)) (with_reply f reply_is.Refused)
    answer-refused earlier f l gone =
        let h = refused-at s histories answers 0 (tenant_of f) tenants refusals out.ended.items ys l comes says gone in
        subst (λ (y : Option Outcome). MayAnswer s.fabrics histories earlier y (with_reply f reply_is.Refused)) (sym h.2) refl

    answer-small : (earlier : List Answered) (f : Free) → is_gone refused f ≡ false → fits s.fabrics refused costs f ≡ false
        → MayAnswer s.fabrics histories earlier (slice_get ys (tenant_of f)) (with_reply f reply_is.Small)
    answer-small earlier f runs small_one =
        let h = known (tenant_of f) runs in
        subst (λ (y : Option Outcome). MayAnswer s.fabrics histories earlier y (with_reply f reply_is.Small)) (sym h.there)
        (small s.fabrics histories refused costs earlier h.run f h.clear.cost small_one)

    answer-given : (earlier : List Answered) (done : List Answer) (f : Free) (a : Answer) (rest : List Answer) → is_gone refused f ≡ false → fits s.fabrics refused costs f ≡ true
        → order_for refused f ≡ a.order.value → done ++ a ∷ rest ≡ theirs → IsTrueOf a → IsAbove done a.order.value.tenant a.order.value.wanted a.reached → IsHeard refused earlier done
        → MayAnswer s.fabrics histories earlier (slice_get ys (tenant_of f)) (with_reply f (reply_for a.reached))
    answer-given earlier done f a rest runs yes_fits same whole is_true above heard =
        let h = known (tenant_of f) runs in
        let k = rank refused (tenant_of f) in
        let held : IsHeld out.bays.items (get_or starts a.order.value.tenant h.start) (get_or out.ended.items a.order.value.tenant h.end) a.order.value.tenant theirs done a.order.value.wanted a.reached a.finding = record {
          so = is_true h.start h.end;
          above = above;
          moved = λ j g. subst (λ (ts : List Answer). run.moves_in a.order.value.tenant j g a.order.value.tenant a.order.value.wanted a.reached ≤ moved_at a.order.value.tenant j g ts) whole
              (moved-least a.order.value.tenant j g done a rest);
          found = λ g. subst (λ (ts : List Answer). found_by g a ≤ total (found_by g) ts) whole (found-least g done a rest);
          stops = λ none. none-stops a.order.value.tenant done a rest (subst (λ (ts : List Answer). run.stop_of a.order.value.tenant ts ≡ None) (sym whole) none);
        } in
        let of : IsHeld out.bays.items (get_or starts k h.start) (get_or out.ended.items k h.end) k theirs done (wanted_by f) a.reached a.finding =
        subst (λ (q : Order). IsHeld out.bays.items (get_or starts q.tenant h.start) (get_or out.ended.items q.tenant h.end) q.tenant theirs done q.wanted a.reached a.finding) (sym same) held in
        subst (λ (y : Option Outcome). MayAnswer s.fabrics histories earlier y (with_reply f (reply_for a.reached))) (sym h.there)
        (may-reply s.fabrics histories k (get_or costs k no_cost) (get_or starts k h.start) (get_or out.ended.items k h.end) out.bays.items theirs answers h.run earlier done f a.reached a.finding
        h.clear (room-for s.fabrics refused costs f yes_fits) (heard (tenant_of f) runs) of)

    -- ---- one after another

    abbrev AllMay : List Free → Type 0
    AllMay fs =
        (earlier : List Answered) (done ts : List Answer) → AllByRecursion (IsFree (length s.fabrics) (length tenants)) fs → map (λ a. a.order.value) ts ≡ given s.fabrics refused costs fs → done ++ ts ≡ theirs
        → All IsTrueOf ts → AreAbove done ts → IsHeard refused earlier done → AreAnswered s.fabrics histories ys earlier (answered s.fabrics refused costs fs ts)

    next : (f : Free) (fs : List Free) → AllMay fs → is_gone refused f ≡ false → fits s.fabrics refused costs f ≡ true
        → (earlier : List Answered) (done ts : List Answer) → AllByRecursion (IsFree (length s.fabrics) (length tenants)) (f ∷ fs) → map (λ a. a.order.value) ts ≡ order_for refused f ∷ given s.fabrics refused costs fs
        → done ++ ts ≡ theirs → All IsTrueOf ts → AreAbove done ts → IsHeard refused earlier done
        → AreAnswered s.fabrics histories ys earlier (answered_by s.fabrics refused costs false true f fs ts)
    next f fs rest runs yes_fits earlier done [] are e whole is_true above heard = let z : ⊥ = cc in absurd z
    next f fs rest runs yes_fits earlier done (a ∷ ts) are e whole is_true above heard =
        let head : order_for refused f ≡ a.order.value = cc in
        let tail : map (λ x. x.order.value) ts ≡ given s.fabrics refused costs fs = cc in (
          answer-given earlier done f a ts runs yes_fits head whole (All-head IsTrueOf a ts is_true) above.0 heard,
          rest (earlier ++ with_reply f (reply_for a.reached) ∷ []) (done ++ a ∷ []) ts are.1 tail (append_assoc done (a ∷ []) ts ∙ whole) (All-tail IsTrueOf a ts is_true) above.1
              (heard-given refused earlier done f a head runs heard),
        )

    step : (f : Free) (fs : List Free) → AllMay fs → (b c : Bool) → is_gone refused f ≡ b → fits s.fabrics refused costs f ≡ c
        → (earlier : List Answered) (done ts : List Answer) → AllByRecursion (IsFree (length s.fabrics) (length tenants)) (f ∷ fs) → map (λ a. a.order.value) ts ≡ given_by s.fabrics refused costs b c f fs
        → done ++ ts ≡ theirs → All IsTrueOf ts → AreAbove done ts → IsHeard refused earlier done
        → AreAnswered s.fabrics histories ys earlier (answered_by s.fabrics refused costs b c f fs ts)
    step f fs rest true c p q earlier done ts are e whole is_true above heard = (
      answer-refused earlier f (in-range (length s.fabrics) (length tenants) f are.0) p,
      rest (earlier ++ with_reply f reply_is.Refused ∷ []) done ts are.1 e whole is_true above (heard-refused refused earlier done f heard),
    )
    step f fs rest false false p q earlier done ts are e whole is_true above heard = (
      answer-small earlier f p q,
      rest (earlier ++ with_reply f reply_is.Small ∷ []) done ts are.1 e whole is_true above (heard-small refused earlier done f heard),
    )
    step f fs rest false true p q earlier done ts are e whole is_true above heard = next f fs rest p q earlier done ts are e whole is_true above heard

    all-may : (fs : List Free) → AllMay fs
    all-may [] earlier done ts are e whole is_true above heard = tt
    all-may (f ∷ fs) earlier done ts are e whole is_true above heard =
        step f fs (all-may fs) (is_gone refused f) (fits s.fabrics refused costs f) refl refl earlier done ts are e whole is_true above heard

  pub replies-given : IsWithinLimits s → length tenants ≡ length s.tenants → AreBegun readies starts → IsOutcome labels starts orders out
      → orders ≡ given s.fabrics refused (costs_begun starts) s.free → SeesEach → AreOutcomes s histories answers 0 tenants ys → AreTold answers 0 refusals out.ended.items ys
      → AreAnswered s.fabrics histories ys [] answers
  replies-given limits count begun o asked sees comes says =
      let all : map (λ a. a.order.value) theirs ≡ given s.fabrics refused costs s.free =
      o.asked ∙ asked ∙ ap (λ (cs : List Cost). given s.fabrics refused cs s.free) (sym (costs-kept labels starts orders out o)) in
      all-may begun o all sees comes says s.free [] [] theirs
      (subst (λ m. AllByRecursion (IsFree (length s.fabrics) m) s.free) (sym count) limits.orders) all refl o.answers o.watches (λ n e. refl)
