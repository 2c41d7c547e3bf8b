-- What a report says of all tenants of a script.
use Rattle.std.proofs.Common.{◌≡◌, ℕ, suc, ◌+◌, ◌<◌, Bool, true, false, List, [], ◌∷◌, length, drop, filter, get_or, map, refl, sym, ap, ◌∙◌, subst, arith, Option, Some, None}
use Rattle.std.specs.List.{sum_by}
use Rattle.std.proofs.lemmas.Bool.{false≢true}
use Rattle.ten_files.specs.vl_design.specs.Alone as alone
use Rattle.ten_files.specs.vl_design.specs.Alone.{first_tick, Keeps}
use Rattle.ten_files.specs.vl_design.specs.Observed.{observed, Observed}
use Rattle.ten_files.specs.vl_design.specs.Queue.{Queue}
use Rattle.host_judge.specs.ten_core.specs.declared.origin.Origin.{Origin}
use Rattle.host_judge.specs.ten_core.specs.Tenants.{origin_of}
use Rattle.fab_orders.specs.ten_parcel.specs.Parcels.{free_of, run_of, ticks_of}
use Rattle.host_judge.specs.host_text.specs.declared.script.Script.{Script}
use Rattle.host_judge.specs.host_text.specs.declared.block.Block.{Block}
use Rattle.host_report.specs.fab_model.specs.declared.transit.Transit.{Transit}
use Rattle.fab_orders.specs.fab_bay.specs.declared.noted.Label.{Label}
use Rattle.fab_orders.specs.declared.outcomes.Order.{Order}
use Rattle.fab_orders.specs.declared.outcomes.Outcome.{Outcome as Ended}
use Rattle.fab_orders.specs.declared.outcomes.Start.{Start}
use Rattle.fab_orders.specs.Orders as run
use Rattle.fab_orders.specs.Outcomes.{HasStopped, IsEnded}
use Rattle.fab_orders.specs.Outcomes as rounds
use Rattle.fab_orders.specs.Starts.{AreLabels, AreStarts}
use Rattle.host_judge.specs.host_form.specs.Origins.{IsRefused, Tenant}
use Rattle.host_judge.specs.host_form.specs.Histories.{history_of, is_line, lines_of, notes_of, AreVisits, Histories}
use Rattle.host_judge.specs.host_form.specs.Orders.{saves_of, stop_of, Answered}
use Rattle.host_judge.specs.host_form.specs.Runs.{AreLines, IsRun, Outcome, Ran, Refused, Run, RunsAs}
use Rattle.host_judge.specs.host_form.specs.Runs as runs
use Rattle.host_judge.specs.host_form.specs.Reports.{block_of, blocks_of, AreOutcomes}
use Rattle.host_judge.specs.host_form.specs.Saves.{IsReordered}
use Rattle.host_judge.specs.declared.verdict.Ready.{Ready}
use Rattle.host_judge.specs.host_form.specs.declared.refusal.Refusal.{Refusal}
use Rattle.host_judge.specs.Judged.{AreJudged, IsReady}
use Rattle.host_outcomes.specs.Begun.{AreBegun, IsBegun}
use Rattle.host_outcomes.specs.Ends.{is_refusal, AreSaid, AreTold, DidAs, EndsAs, IsSaidOf, IsTold, Tells}
use Rattle.host_report.specs.Ends.{is_refused, AreEnds, EndsSo, HasRun}
use Rattle.host_outcomes.specs.Reported.{histories_for, histories_of, number_in, numbers_from, renumbered}
use Rattle.host_outcomes.proofs.Carried.{history_for, noted_carried, same_notes, visits_carried}
use Rattle.host_outcomes.proofs.Noted.{noted_so}
use Rattle.host_outcomes.proofs.Numbers.{from_here, notes_refused}
use Rattle.host_outcomes.proofs.Reports.{lines_reported, stays_reported}
use Rattle.host_outcomes.proofs.Same.{ends_same, keeps_same, none_same, there_same}
use Rattle.host_outcomes.proofs.Stays.{no_stays, no_visits}
use Rattle.host_outcomes.proofs.Sums.{sum_total}

-- ---- what is said

same_block : (s : Script) (name : List ℕ) (x y : Outcome) → IsSaidOf x y → block_of s name y ≡ block_of s name x
same_block s name (Refused place kind) y h = ap (block_of s name) h
same_block s name (Ran r) (Refused place kind) h = absurd h
same_block s name (Ran r) (Ran u) h = rw (h.tick, h.reason, h.count, h.printed, h.visits) refl

same_blocks : (s : Script) (ts : List Tenant) (xs ys : List Outcome) → AreSaid xs ys → blocks_of s ts ys ≡ blocks_of s ts xs
same_blocks s [] xs ys h = refl
same_blocks s (t ∷ ts) [] [] h = refl
same_blocks s (t ∷ ts) [] (y ∷ ys) h = absurd h
same_blocks s (t ∷ ts) (x ∷ xs) [] h = absurd h
same_blocks s (t ∷ ts) (x ∷ xs) (y ∷ ys) h =
    ap (λ (b : Block). b ∷ blocks_of s ts ys) (same_block s t.line.name x y h.0) ∙ ap (λ (bs : List Block). block_of s t.line.name x ∷ bs) (same_blocks s ts xs ys h.1)

module _ (s : Script) (labels : List Label) (starts : List Start) (orders : List Order) (out : Ended) (answers : List Answered) (refused : List Bool)
    (a : AreLabels starts labels) (b : AreStarts labels starts) (h : rounds.IsOutcome labels starts orders out) (did : DidAs refused answers out.answers.items) where
  abbrev theirs : Histories
  theirs = histories_for refused out.bays.items

  abbrev ours : Histories
  ours = histories_of out.bays.items

  -- ---- a tenant that runs: number n in the script, and number k of those that aren't refused

  module _ (n k : ℕ) (kl : k < length (numbers_from 0 refused)) (kn : number_in refused k ≡ n) (t : Tenant) (r : Ready) (d : Start) (e : Transit) (x : Run)
      (lt : k < length starts) (ready : IsReady s.fabrics t r) (begun : IsBegun r (get_or starts k d)) (has : HasRun (get_or out.ended.items k e) x) where
    abbrev first : Start
    first = get_or starts k d

    abbrev last : Transit
    last = get_or out.ended.items k e

    abbrev o : alone.Origin
    o = ready.origin

    same : (g : ℕ) → notes_of n (history_of theirs g) ≡ map (renumbered refused) (notes_of k (history_of ours g))
    same = same_notes refused out.bays.items n k kl kn

    tells : Tells answers n k out.answers.items
    tells = did k n kl kn

    ended : IsEnded first k out.answers.items last
    ended = h.ended k d e lt

    runs_first : RunsAs o (run_of first.transit.parcel)
    runs_first = subst (λ (y : Origin). RunsAs o (origin_of y)) (sym begun.origin) ready.runs

    runs_last : RunsAs o (run_of last.parcel)
    runs_last = subst (λ (y : Origin). RunsAs o (origin_of y)) (sym ended.origin) runs_first

    rows_last : (run_of last.parcel).flat.rows ≡ o.flat.rows
    rows_last = ap (λ (y : Origin). (origin_of y).flat.rows) (ended.origin ∙ begun.origin) ∙ ready.rows

    starts_at : first_tick o.resume ≡ ticks_of first.transit.parcel
    starts_at = sym (begun.ticks ∙ ap first_tick runs_first.resume)

    fabric_is : first.fabric ≡ t.line.fabric
    fabric_is = begun.fabric ∙ ready.fabric

    -- the design's run ends as this one did, by itself or where it was stopped
    end_so : HasStopped (run.stop_of k out.answers.items) last.parcel → EndsSo last.parcel x.reason x.last
        → (z : Queue) × runs.IsEnd o (stop_of n answers) (ticks_of last.parcel) x.reason z × (observed (run_of last.parcel).flat.rows x.last.state ≡ observed o.flat.rows z.state)
    end_so (HasStopped.alone none y m f q ends) (EndsSo.alone w end) =
        let z = ends_same o (run_of last.parcel) runs_last rows_last (ticks_of last.parcel) x.reason x.last end in
        (z.0, runs.IsEnd.alone (tells.stop ∙ none) z.1, z.2)
    end_so (HasStopped.alone none y m f q ends) (EndsSo.stopped w e b u) = absurd (false≢true (sym y ∙ w))
    end_so (HasStopped.ordered stop y goes) (EndsSo.alone w end) = absurd (false≢true (sym w ∙ y))
    end_so (HasStopped.ordered stop y goes) (EndsSo.stopped w e b u) =
        let z = there_same o (run_of last.parcel) runs_last rows_last (ticks_of last.parcel) x.last b in
        (z.0, runs.IsEnd.stopped (tells.stop ∙ stop) e z.1 (none_same o (run_of last.parcel) runs_last rows_last (ticks_of last.parcel) u), z.2)

    reordered : IsReordered (free_of last.parcel) (saves_of n answers)
    reordered w = sum_total w (free_of last.parcel) ∙ ended.free w ∙ sym (sum_total w (run.saves_of k out.answers.items)) ∙ ap (sum_by w) (sym tells.saves)

    comes_so : (u : Run) × IsRun s.fabrics theirs answers n t u × EndsAs x u × IsTold answers n last u
    comes_so =
        let z = end_so ended.why has.ends in
        let tick = sym has.tick in
        let lines = lines_reported labels starts orders out a b h k d e lt refused theirs n same answers tells o ready.plan (sym runs_first.plan) starts_at in
        let visits = visits_carried refused theirs ours n k same (ticks_of first.transit.parcel) (ticks_of last.parcel) x.visits
        (stays_reported labels starts orders out a b h k d e lt x.visits has.ordered has.each) in (
          record { origin = o; tick = x.tick; reason = x.reason; last = z.0; visits = x.visits },
          record {
            origin = ready.is;
            end = subst (λ (j : ℕ). runs.IsEnd o (stop_of n answers) j x.reason z.0) tick z.1;
            visits = subst (λ (j : ℕ). AreVisits theirs n j x.tick x.visits) (sym starts_at) (subst (λ (j : ℕ). AreVisits theirs n (ticks_of first.transit.parcel) j x.visits) tick visits);
            lines = subst (λ (g : ℕ). AreLines theirs answers n g o x.tick) fabric_is (subst (λ (j : ℕ). AreLines theirs answers n first.fabric o j) tick lines);
            noted = noted_carried refused theirs ours n k same o (noted_so labels starts orders out a h k d lt o runs_first);
          },
          record { tick = refl; reason = refl; printed = ap (λ (y : Observed). y.printed) (sym z.2); count = ap (λ (y : Observed). y.count) (sym z.2); visits = refl },
          record {
            tick = has.tick;
            cost = sym runs_last.cost;
            stays = no_visits last x has;
            visits = no_stays last x has;
            first = ap first_tick (sym runs_last.resume);
            keeps = λ saved keeps.
                (free_of last.parcel, reordered, subst (λ (j : ℕ). Keeps o (free_of last.parcel) j saved) tick (keeps_same o (run_of last.parcel) runs_last rows_last keeps));
          },
        )

  -- ---- a refused one: number n in the script

  put_nowhere : (n : ℕ) → n < length refused → get_or refused n false ≡ true → runs.IsPutNowhere theirs n
  put_nowhere n l e g =
      ap (λ ns. lines_of n ns) (history_for refused out.bays.items g)
      ∙ ap (λ ns. filter (λ m. is_line m.entry.kind) ns) (notes_refused refused n l e (history_of ours g))

  -- ---- those from number n on, the first of which that isn't refused is number k of these

  record IsHere (n k : ℕ) (rs : List (Option Refusal)) (ss : List Start) (es : List Transit) : Type 0 where
    pub flags : drop n refused ≡ map is_refused rs
    pub numbers : drop k (numbers_from 0 refused) ≡ numbers_from n (map is_refused rs)
    pub begun : drop k starts ≡ ss
    pub ended : drop k out.ended.items ≡ es

  abbrev Come : ℕ → List Tenant → List (Option Refusal) → List Transit → List Outcome → Type 0
  Come n ts rs es xs = (ys : List Outcome) × AreOutcomes s theirs answers n ts ys × AreSaid xs ys × (map is_refusal ys ≡ map is_refused rs) × AreTold answers n rs es ys

  next_flag : (n : ℕ) (f : Bool) (fs : List Bool) → drop n refused ≡ f ∷ fs → (n < length refused) × (get_or refused n false ≡ f) × (drop (n + 1) refused ≡ fs)
  next_flag n f fs e =
      let r = from_here refused n f fs e in
      let q : suc n ≡ n + 1 = omega arith in
      (r.0, r.1 false, subst (λ (m : ℕ). drop m refused ≡ fs) q r.2)

  come_refused : (n k : ℕ) (t : Tenant) (ts : List Tenant) (r : Refusal) (rs : List (Option Refusal)) (ss : List Start) (es : List Transit) (x : Outcome) (xs : List Outcome)
      → IsHere n k (Some r ∷ rs) ss es → IsRefused s.fabrics t r.place r.kind → x ≡ Refused r.place r.kind → Come (n + 1) ts rs es xs → Come n (t ∷ ts) (Some r ∷ rs) es (x ∷ xs)
  come_refused n k t ts r rs ss es x xs i j e c =
      let f = next_flag n true (map is_refused rs) i.flags in (
        Refused r.place r.kind ∷ c.0,
        ((j, put_nowhere n f.0 f.1), c.1),
        (subst (λ y. IsSaidOf y (Refused r.place r.kind)) (sym e) refl, c.2),
        ap (λ bs. true ∷ bs) c.3,
        c.4,
      )

  come_ran : (n k : ℕ) (t : Tenant) (ts : List Tenant) (r : Ready) (rs : List (Option Refusal)) (st : Start) (ss : List Start) (e : Transit) (es : List Transit) (x : Run) (xs : List Outcome)
      → IsHere n k (None ∷ rs) (st ∷ ss) (e ∷ es) → IsReady s.fabrics t r → IsBegun r st → HasRun e x → Come (n + 1) ts rs es xs → Come n (t ∷ ts) (None ∷ rs) (e ∷ es) (Ran x ∷ xs)
  come_ran n k t ts r rs st ss e es x xs i j g z c =
      let nr = from_here (numbers_from 0 refused) k n (numbers_from (n + 1) (map is_refused rs)) i.numbers in
      let br = from_here starts k st ss i.begun in
      let er = from_here out.ended.items k e es i.ended in
      let u = comes_so n k nr.0 (nr.1 (length refused)) t r st e x br.0 j
      (subst (IsBegun r) (sym (br.1 st)) g) (subst (λ (y : Transit). HasRun y x) (sym (er.1 e)) z) in (
        Ran u.0 ∷ c.0,
        (u.1, c.1),
        (u.2, c.2),
        ap (λ bs. false ∷ bs) c.3,
        (subst (λ (y : Transit). IsTold answers n y u.0) (er.1 e) u.3, c.4),
      )

  here_refused : (n k : ℕ) (r : Refusal) (rs : List (Option Refusal)) (ss : List Start) (es : List Transit) → IsHere n k (Some r ∷ rs) ss es → IsHere (n + 1) k rs ss es
  here_refused n k r rs ss es i = record { flags = (next_flag n true (map is_refused rs) i.flags).2; numbers = i.numbers; begun = i.begun; ended = i.ended }

  here_ran : (n k : ℕ) (rs : List (Option Refusal)) (st : Start) (ss : List Start) (e : Transit) (es : List Transit) → IsHere n k (None ∷ rs) (st ∷ ss) (e ∷ es) → IsHere (n + 1) (suc k) rs ss es
  here_ran n k rs st ss e es i = record {
    flags = (next_flag n false (map is_refused rs) i.flags).2;
    numbers = (from_here (numbers_from 0 refused) k n (numbers_from (n + 1) (map is_refused rs)) i.numbers).2;
    begun = (from_here starts k st ss i.begun).2;
    ended = (from_here out.ended.items k e es i.ended).2;
  }

  none_come : (n : ℕ) (es : List Transit) (xs : List Outcome) → AreEnds [] es xs → Come n [] [] es xs
  none_come n [] [] e = ([], tt, tt, refl, tt)
  none_come n [] (x ∷ xs) e = absurd e
  none_come n (y ∷ es) xs e = absurd e

  all_come : (n k : ℕ) (ts : List Tenant) (rs : List (Option Refusal)) (readies : List Ready) (ss : List Start) (es : List Transit) (xs : List Outcome)
      → IsHere n k rs ss es → AreJudged s.fabrics ts rs readies → AreBegun readies ss → AreEnds rs es xs → Come n ts rs es xs
  all_come n k [] [] readies ss es xs i j g e = none_come n es xs e
  all_come n k [] (r ∷ rs) readies ss es xs i j g e = absurd j
  all_come n k (t ∷ ts) [] readies ss es xs i j g e = absurd j
  all_come n k (t ∷ ts) (Some r ∷ rs) readies ss es [] i j g e = absurd e
  all_come n k (t ∷ ts) (Some r ∷ rs) readies ss es (x ∷ xs) i j g e =
      come_refused n k t ts r rs ss es x xs i j.0 e.0 (all_come (n + 1) k ts rs readies ss es xs (here_refused n k r rs ss es i) j.1 g e.1)
  all_come n k (t ∷ ts) (None ∷ rs) [] ss es xs i j g e = absurd j
  all_come n k (t ∷ ts) (None ∷ rs) (r ∷ readies) [] es xs i j g e = absurd g
  all_come n k (t ∷ ts) (None ∷ rs) (r ∷ readies) (st ∷ ss) [] xs i j g e = absurd e
  all_come n k (t ∷ ts) (None ∷ rs) (r ∷ readies) (st ∷ ss) (y ∷ es) [] i j g e = absurd e
  all_come n k (t ∷ ts) (None ∷ rs) (r ∷ readies) (st ∷ ss) (y ∷ es) (Refused p q ∷ xs) i j g e = absurd e.0
  all_come n k (t ∷ ts) (None ∷ rs) (r ∷ readies) (st ∷ ss) (y ∷ es) (Ran x ∷ xs) i j g e =
      come_ran n k t ts r rs st ss y es x xs i j.0 g.0 e.0 (all_come (n + 1) (suc k) ts rs readies ss es xs (here_ran n k rs st ss y es i) j.1 g.1 e.1)

pub all_reported : (s : Script) (tenants : List Tenant) (refusals : List (Option Refusal)) (readies : List Ready) (labels : List Label) (starts : List Start) (orders : List Order) (out : Ended) (answers : List Answered) (xs : List Outcome)
    → AreJudged s.fabrics tenants refusals readies → AreBegun readies starts → AreLabels starts labels → AreStarts labels starts → rounds.IsOutcome labels starts orders out
    → DidAs (map is_refused refusals) answers out.answers.items → AreEnds refusals out.ended.items xs
    → (ys : List Outcome) × AreOutcomes s (histories_for (map is_refused refusals) out.bays.items) answers 0 tenants ys
    × (blocks_of s tenants ys ≡ blocks_of s tenants xs) × (map is_refusal ys ≡ map is_refused refusals) × AreTold answers 0 refusals out.ended.items ys
all_reported s tenants refusals readies labels starts orders out answers xs j g a b h did e =
    let c = all_come s labels starts orders out answers (map is_refused refusals) a b h did 0 0 tenants refusals readies starts out.ended.items xs
    (record { flags = refl; numbers = refl; begun = refl; ended = refl }) j g e in
    (c.0, c.1, same_blocks s tenants xs c.0 c.2, c.3, c.4)
