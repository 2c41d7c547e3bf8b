-- From one round to the next.
use Rattle.std.proofs.Common.{◌≡◌, ℕ, ◌+◌, ◌<◌, ◌≤◌, false, List, [], ◌∷◌, length, get_or, sym, ap, ◌∙◌, subst, arith}
use Rattle.std.specs.Prelude.{All, Vec}
use Rattle.std.specs.declared.alloc.Global.{Global}
use Rattle.std.specs.declared.snapshot.Snapshot.{Snapshot}
use Rattle.std.proofs.lemmas.List.{get_or_default}
use Rattle.std.proofs.lemmas.List.Elements.{All-nil, All-weaker}
use Rattle.fab_core.specs.ten_parcel.specs.Parcels.{number_of, ticks_of}
use Rattle.fab_core.specs.fab_lock.specs.Facts.{IsSeatOf}
use Rattle.fab_core.specs.fab_model.specs.declared.note.Note.{Note}
use Rattle.fab_core.specs.fab_model.specs.Tokens.{outs, puts, token_of, Token}
use Rattle.fab_core.specs.fab_model.specs.Origins.{Origins}
use Rattle.fab_desk.specs.fab_bay.specs.declared.leaving.Leaving.{Leaving}
use Rattle.fab_desk.specs.fab_bay.specs.declared.noted.Label.{Label}
use Rattle.fab_rounds.specs.declared.ledgers.Ledger.{Ledger}
use Rattle.fab_orders.specs.declared.outcomes.Answer.{Answer}
use Rattle.fab_orders.specs.declared.outcomes.Start.{Start}
use Rattle.fab_rounds.specs.declared.posts.Opened.{Opened}
use Rattle.fab_rounds.specs.declared.workers.Worker.{Worker}
use Rattle.fab_rounds.specs.Openings.{AreSeated}
use Rattle.fab_orders.specs.Totals.{total}
use Rattle.fab_orders.specs.Starts.{NamesOrigins}
use Rattle.fab_orders.specs.Orders.{gain_by, loss_by}
use Rattle.fab_rounds.specs.Ledgers.{in_hand, leaving_sum, pile_sum, reach_in, seat_outs, seat_puts, start_sum, worker_outs, worker_piles, AreHandedOver, AreLeft, AreOut, AreWorkers, DeskSeatFacts, DeskFacts, IsAtDesk, IsBetween, IsKept, IsLedger, IsLeft, IsOut, IsSameAnswers, IsSameRun, IsTurned, IsWorker, KeepsReach, KeepsSums, Operates, TakesOver, WeighsNoLeaver}
use Rattle.fab_rounds.proofs.Begins.{begun_still, have_begun}
use Rattle.fab_orders.proofs.Totals.{total_all, total_same, total_tied}
use Rattle.fab_rounds.proofs.Puts.{is_own, label_at, labels_long}

-- what came out where its origin is named
left_out : (starts : List Start) (o : Origins) (l : Leaving) → NamesOrigins starts o → IsOut o l → IsLeft starts l
left_out starts o l n h = record { left = h.left; own = is_own starts o l.transit.parcel n h.own }

left_all : {Z : Type 0} (starts : List Start) (o : Origins) (vs : List (Vec Leaving Z)) → NamesOrigins starts o → AreOut o vs → AreLeft starts vs
left_all starts o vs n h = All-weaker (λ v. All (IsOut o) v.items) (λ v. All (IsLeft starts) v.items) (λ v a. All-weaker (IsOut o) (IsLeft starts) (λ l. left_out starts o l n) v.items a) vs h

left_at : (desks : List DeskFacts) (l : Ledger) (w : Worker) → IsLedger desks l → IsAtDesk desks w → AreLeft l.loaded.value.items w.out.items
left_at [] l w k a = absurd (let t = a.there in omega (arith, t))
left_at (x ∷ xs) l w k a =
    let ds : List DeskFacts = x ∷ xs in
    let labels = l.labels.value.items in
    let desk : DeskFacts = get_or ds w.fabric x in
    let t = a.there in
    let long = labels_long ds labels k.labels in
    let h = k.kept.labels w.fabric desk.label (omega (arith, t, long)) in
    let same = label_at ds labels k.labels w.fabric x desk.label t in
    left_all l.loaded.value.items desk.label.origins w.out.items (ap_names l.loaded.value.items (get_or labels w.fabric desk.label) desk.label same h.origins) (a.worker x).out
  where
    ap_names : (starts : List Start) (a b : Label) → a ≡ b → NamesOrigins starts a.origins → NamesOrigins starts b.origins
    ap_names starts a b e n = subst (λ (y : Label). NamesOrigins starts y.origins) e n

pub left_by : (desks : List DeskFacts) (l l' : Ledger) (ws ws' : List Worker) → IsLedger desks l → l'.loaded ≡ l.loaded → length ws' ≡ length ws → ((i : ℕ) (d : Worker) → i < length ws → IsTurned desks (get_or ws i d) (get_or ws' i d))
    → All (λ w. AreLeft l'.loaded.value.items w.out.items) ws'
left_by desks l l' ws ws' k same count each i d lt =
    subst (λ (x : Snapshot (Vec Start Global)). AreLeft x.value.items (get_or ws' i d).out.items) (sym same) (left_at desks l (get_or ws' i d) k (each i d (omega (arith, count, lt))).at)

module _ (desks : List DeskFacts) (l l1 l2 l3 : Ledger) (w0 w1 w2 : List Worker) (b : IsBetween desks l w0) (count : length w1 ≡ length w0) (each : (i : ℕ) (d : Worker) → i < length w0 → IsTurned desks (get_or w0 i d) (get_or w1 i d))
    (ops : Operates desks l l1) (takes : TakesOver l1 l2 (λ f. worker_piles f w1)) (handed : AreHandedOver w1 w2) (ledger : IsLedger desks l3) (run : IsSameRun l2 l3) (answers : IsSameAnswers l2 l3) (sums : KeepsSums l2 l3)
    (reach : KeepsReach l2 l3) (none : l3.moving.items ≡ []) where
  turned : (i : ℕ) (w : Worker) → i < length desks → IsTurned desks (get_or w0 i w) (get_or w1 i w)
  turned i w lt = let n = b.workers.count in each i w (omega (arith, n, lt))

  fabric_at : (i : ℕ) (w : Worker) → i < length desks → (get_or w1 i w).fabric ≡ i
  fabric_at i w lt = (turned i w lt).fabric ∙ b.workers.fabric i w lt

  in_first : (i : ℕ) → i < length desks → i < length w1
  in_first i lt = let n = b.workers.count in omega (arith, n, lt, count)

  worker_at : (i : ℕ) (d : DeskFacts) (w : Worker) → i < length desks → IsWorker (get_or desks i d) (get_or w2 i w)
  worker_at i d w lt =
      let x = get_or w1 i w in
      let y = get_or w2 i w in
      let k = subst (λ (j : ℕ). IsWorker (get_or desks j d) x) (fabric_at i w lt) ((turned i w lt).at.worker d) in
      let s : y.seat ≡ x.seat = handed.seat i w (in_first i lt) in
      let h = handed.count in
      let e : y.out.items ≡ [] = handed.empty i w (let m = in_first i lt in omega (arith, m, h)) in record {
        seat = subst (IsSeatOf (get_or desks i d)) (sym s) k.seat;
        apart = λ z. k.apart (ap (λ (c : DeskSeatFacts). c.view.low) (sym s) ∙ z);
        out = subst (AreOut (get_or desks i d).label.origins) (sym e) (All-nil _);
      }

  workers_after : AreWorkers desks w2
  workers_after = record {
    count = handed.count ∙ count ∙ b.workers.count;
    fabric = λ i w lt. handed.fabric i w (in_first i lt) ∙ fabric_at i w lt;
    each = worker_at;
  }

  tied : (f : Token → ℕ) → worker_outs f w1 + worker_piles f w0 ≡ worker_outs f w0 + worker_piles f w1
  tied f = total_tied (λ (w : Worker). seat_outs f w.seat) (λ (w : Worker). pile_sum f w.out.items) (λ (w : Worker). seat_outs f w.seat) (λ (w : Worker). pile_sum f w.out.items) w1 w0 count
      (λ i d e lt. subst (λ (z : Worker). seat_outs f (get_or w1 i d).seat + pile_sum f z.out.items ≡ seat_outs f z.seat + pile_sum f (get_or w1 i d).out.items) (get_or_default w0 i d e lt) ((each i d lt).tied f))

  handed_outs : (f : Token → ℕ) → worker_outs f w2 ≡ worker_outs f w1
  handed_outs f = total_same (λ (w : Worker). seat_outs f w.seat) (λ (w : Worker). seat_outs f w.seat) w2 w1 handed.count
      (λ i d e lt. ap (seat_outs f) (handed.seat i d lt) ∙ ap (λ (w : Worker). seat_outs f w.seat) (get_or_default w1 i d e lt))

  piles_none : (f : Token → ℕ) → WeighsNoLeaver f → worker_piles f w1 ≡ 0
  piles_none f n =
      let starts = l1.loaded.value.items in
      total_all (λ (w : Worker). AreLeft starts w.out.items) (λ (w : Worker). pile_sum f w.out.items)
      (λ w a. total_all (λ (v : Vec Leaving Global). All (IsLeft starts) v.items) (λ (v : Vec Leaving Global). leaving_sum f v.items)
      (λ v h. total_all (IsLeft starts) (λ (x : Leaving). f (token_of x.transit)) (λ x q. n x q.left) v.items h) w.out.items a)
      w1 (left_by desks l l1 w0 w1 b.ledger ops.same.0 count each)

  pub between : IsBetween desks l3 w2
  between = record {
    ledger = ledger;
    workers = workers_after;
    empty = handed.empty;
    none = none;
    balanced = λ f. omega (
      arith,
      b.balanced f,
      ops.balance f,
      tied f,
      total_all (λ (w : Worker). w.out.items ≡ []) (λ (w : Worker). pile_sum f w.out.items) (λ w q. ap (pile_sum f) q) w0 b.empty,
      handed_outs f,
      takes.sums f,
      ap (λ (x : Vec DeskSeatFacts Global). total (seat_puts f) x.items) takes.firsts,
      ap (λ (x : Vec DeskSeatFacts Global). total (seat_outs f) x.items) takes.firsts,
      ap (λ (x : Vec Answer Global). total (gain_by f) x.items) takes.answers.0,
      ap (λ (x : Vec Answer Global). total (loss_by f) x.items) takes.answers.0,
      ap (λ (x : Vec Answer Global). total (gain_by f) x.items) answers.0,
      ap (λ (x : Vec Answer Global). total (loss_by f) x.items) answers.0,
      (sums f).0,
      (sums f).1,
      ap (λ (s : Snapshot (Vec Start Global)). start_sum f s.value.items) run.0,
      ap (λ (s : Snapshot (Vec Start Global)). start_sum f s.value.items) takes.same.0,
      ap (λ (s : Snapshot (Vec Start Global)). start_sum f s.value.items) ops.same.0,
    );
    begun = begun_still l l3 b.begun (run.0 ∙ takes.same.0 ∙ ops.same.0)
        (λ t. let x = ops.reach t in let y = reach t in omega (arith, x, y, ap (λ (v : Vec DeskSeatFacts Global). reach_in t v.items) takes.firsts));
    outs = λ f n. omega (
      arith,
      b.outs f n,
      tied f,
      total_all (λ (w : Worker). w.out.items ≡ []) (λ (w : Worker). pile_sum f w.out.items) (λ w q. ap (pile_sum f) q) w0 b.empty,
      piles_none f n,
      handed_outs f,
    );
  }

-- where orders were done between rounds
pub operated_between : (desks : List DeskFacts) (l l' : Ledger) (ws : List Worker) → IsBetween desks l ws → Operates desks l l' → IsBetween desks l' ws
operated_between desks l l' ws b o = record {
  ledger = o.ledger;
  workers = b.workers;
  empty = b.empty;
  none = o.none;
  balanced = λ f. omega (arith, b.balanced f, o.balance f, ap (λ (s : Snapshot (Vec Start Global)). start_sum f s.value.items) o.same.0);
  begun = begun_still l l' b.begun o.same.0 o.reach;
  outs = b.outs;
}

-- ---- before the first round

desk_fabric : (desks : List DeskFacts) (l : Ledger) (i : ℕ) (d : DeskFacts) → IsLedger desks l → i < length desks → (get_or desks i d).label.fabric ≡ i
desk_fabric desks l i d k lt =
    let labels = l.labels.value.items in
    let desk = get_or desks i d in
    let long = labels_long desks labels k.labels in
    ap (λ (x : Label). x.fabric) (sym (label_at desks labels k.labels i d desk.label lt)) ∙ (k.kept.labels i desk.label (omega (arith, lt, long))).fabric

worker_fabric : (desks : List DeskFacts) (l : Ledger) (ws : List Worker) → IsLedger desks l → ((i : ℕ) (d : DeskFacts) (w : Worker) → i < length desks → (get_or ws i w).fabric ≡ (get_or desks i d).label.fabric)
    → (i : ℕ) (w : Worker) → i < length desks → (get_or ws i w).fabric ≡ i
worker_fabric [] l ws k a i w lt = absurd (omega (arith, lt))
worker_fabric (x ∷ xs) l ws k a i w lt = a i x w lt ∙ desk_fabric (x ∷ xs) l i x k lt

pub started : (desks : List DeskFacts) (o : Opened) (l l' : Ledger) (starts : List Start) → desks ≡ o.desks.items → AreSeated o → IsKept l → IsLedger desks l' → IsSameRun l l' → IsSameAnswers l l' → KeepsSums l l' → l'.moving.items ≡ [] → l.firsts ≡ o.firsts
    → l.loaded.value.items ≡ starts → l.answers.items ≡ [] → ((f : Token → ℕ) → in_hand f l ≡ start_sum f starts) → All (λ m. ticks_of m.transit.parcel ≤ reach_in (number_of m.transit.parcel) l'.firsts.items) l.moving.items → IsBetween desks l' o.workers.items
started desks o l l' starts e s kept k run answers sums none firsts loaded told hand there =
    let fabric = subst (λ (ds : List DeskFacts). (i : ℕ) (d : DeskFacts) (w : Worker) → i < length ds → (get_or o.workers.items i w).fabric ≡ (get_or ds i d).label.fabric) (sym e) s.fabric in
    let fresh : All (λ (c : DeskSeatFacts). c.view.own ≡ []) l.firsts.items = subst (λ (v : Vec DeskSeatFacts Global). All (λ (c : DeskSeatFacts). c.view.own ≡ []) v.items) (sym firsts) s.fresh in
    let before : (f : Token → ℕ) → in_hand f l ≡ start_sum f l.loaded.value.items = λ f. hand f ∙ ap (start_sum f) (sym loaded) in record {
      ledger = k;
      workers = record {
        count = s.count ∙ ap length (sym e);
        fabric = worker_fabric desks l' o.workers.items k fabric;
        each = subst (λ (ds : List DeskFacts). (i : ℕ) (d : DeskFacts) (w : Worker) → i < length ds → IsWorker (get_or ds i d) (get_or o.workers.items i w)) (sym e) s.each;
      };
      empty = s.empty;
      none = none;
      balanced = λ f. omega (
        arith,
        (sums f).0,
        (sums f).1,
        before f,
        total_all (λ (w : Worker). w.seat.view.own ≡ []) (λ (w : Worker). seat_outs f w.seat) (λ w q. ap (λ (n : List Note). total f (outs n)) q) o.workers.items s.fresh_workers,
        total_all (λ (c : DeskSeatFacts). c.view.own ≡ []) (seat_outs f) (λ c q. ap (λ (n : List Note). total f (outs n)) q) l.firsts.items fresh,
        total_all (λ (c : DeskSeatFacts). c.view.own ≡ []) (seat_puts f) (λ c q. ap (λ (n : List Note). total f (puts n)) q) l.firsts.items fresh,
        ap (λ (x : Vec Answer Global). total (gain_by f) x.items) answers.0,
        ap (λ (x : Vec Answer Global). total (loss_by f) x.items) answers.0,
        ap (total (gain_by f)) told,
        ap (total (loss_by f)) told,
        ap (λ (s : Snapshot (Vec Start Global)). start_sum f s.value.items) run.0,
      );
      begun = have_begun l l' kept told before there run.0;
      outs = λ f n. total_all (λ (w : Worker). w.seat.view.own ≡ []) (λ (w : Worker). seat_outs f w.seat) (λ w q. ap (λ (n : List Note). total f (outs n)) q) o.workers.items s.fresh_workers;
    }

-- only first seats put tenants in line
pub never_any : (desks : List DeskFacts) (l : Ledger) → IsLedger desks l → All (λ d. d.label.any_puts ≡ false) desks
never_any desks l k i d lt =
    let labels = l.labels.value.items in
    let desk = get_or desks i d in
    let long = labels_long desks labels k.labels in
    ap (λ (x : Label). x.any_puts) (sym (label_at desks labels k.labels i d desk.label lt)) ∙ (k.kept.labels i desk.label (omega (arith, lt, long))).any_puts
