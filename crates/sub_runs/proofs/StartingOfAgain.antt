-- Where a run is resumed from its snapshot at a boundary, it settles in the values that it had there.
use Rattle.std.proofs.Common.{◌≡◌, ℕ, Bool, true, false, List, [], ◌∷◌, length, None, refl, sym, ◌∙◌, ap, subst, arith, append-nil}
use Rattle.std.specs.Prelude.{pos, slice_get, slice_index}
use Rattle.vl_sites.specs.vl_base.specs.Selects.{bit_of}
use Rattle.vl_sites.specs.vl_design.specs.Syntax.{Proc, Flat}
use Rattle.vl_sites.specs.vl_design.specs.Value.{words_of}
use Rattle.vl_sites.specs.vl_design.specs.State.{State}
use Rattle.vl_sites.specs.vl_design.specs.Queue.{Queue, first_pending}
use Rattle.vl_sites.specs.vl_design.specs.Snapshots.{kept_words, kept_values, snapshot_of}
use Rattle.vl_sites.specs.vl_design.specs.Alone.{Origin, Settles, rests, Boundary, begun, resumed}
use Rattle.vl_sites.specs.vl_design.specs.Acts.{Between, After}
use Rattle.vl_sites.specs.vl_design.specs.Laws.{IsFine, StartsFine, IsReached}
use Rattle.vl_sites.specs.vl_design.proofs.Settling.{at_first, boundary_once}
use Rattle.vl_sites.specs.vl_design.proofs.Fine.{boundary_fine, kept_fine}
use Rattle.vl_sites.specs.vl_design.proofs.Agreeing.{agrees}
use Rattle.vl_runs.specs.NetsOfSettle.{Place, bit_at, AreSolved, SameOthers}
use Rattle.vl_runs.specs.Computed.{computed_at}
use Rattle.vl_runs.specs.Runs.{begins, with_values, IsAtRest}
use Rattle.vl_runs.proofs.Steady.{IsAccepted, IsSteady}
use Rattle.vl_runs.proofs.Checks.{accepted}
use Rattle.vl_runs.proofs.Calming.{Calming, calming, next_behind}
use Rattle.vl_runs.proofs.Ticks.{same_run}
use Rattle.vl_runs.proofs.Reaching.{comes_steady}
use Rattle.vl_runs.proofs.Boundaries.{boundary, boundary_comes}
use Rattle.vl_runs.proofs.Solutions.{pass_is}
use Rattle.vl_runs.proofs.Onward.{checked_quiet}
use Rattle.vl_runs.proofs.Ticking.{boundary_tick}
use Rattle.vl_runs.proofs.Emptied.{none_later}
use Rattle.sub_runs.specs.Nets.{RestIsZero}
use Rattle.sub_runs.proofs.Starting.{kept_rest}
use Rattle.vl_sites.specs.Behind.{IsBehind}
use Rattle.sub_runs.specs.Again.{CanGoOn, again}
use Rattle.sub_runs.proofs.Kept.{kept_at, is_other_one, unkept_words, same_words}
use Rattle.sub_runs.proofs.Others.{OthersAreZero, others_zero}

-- ---- where nobody is pending

-- two lists of flags, one for each process, of which none is set
same_flags : (ps : List Proc) (xs ys : List Bool) → length xs ≡ length ps → length ys ≡ length ps → first_pending ps xs ≡ None → first_pending ps ys ≡ None → xs ≡ ys
same_flags [] [] [] m n e f = refl
same_flags [] [] (y ∷ ys) m n e f = absurd (omega (arith, n))
same_flags [] (x ∷ xs) ys m n e f = absurd (omega (arith, m))
same_flags (p ∷ ps) [] ys m n e f = absurd (omega (arith, m))
same_flags (p ∷ ps) (x ∷ xs) [] m n e f = absurd (omega (arith, n))
same_flags (p ∷ ps) (true ∷ xs) (y ∷ ys) m n e f = let z : ⊥ = cc in absurd z
same_flags (p ∷ ps) (false ∷ xs) (true ∷ ys) m n e f = let z : ⊥ = cc in absurd z
same_flags (p ∷ ps) (false ∷ xs) (false ∷ ys) m n e f = ap (λ z. false ∷ z) (same_flags ps xs ys (omega (arith, m)) (omega (arith, n)) e f)

-- ---- what a snapshot of values keeps

of_words : (v w : List (List ℕ)) (b : Place) → words_of v b.0.signal ≡ words_of w b.0.signal → bit_at v b ≡ bit_at w b
of_words v w b e = ap (λ ws. bit_of (slice_index ws b.1) (pos b.0.place)) e

-- it keeps each bit that no process drives
kept_others : (d : Flat) (s : State) → IsFine d.rows s.values → RestIsZero d s.values → OthersAreZero d s → SameOthers d s.values (kept_values d.rows (kept_words d.rows s.values))
kept_others d s f rest zero b free = at (kept_at d.rows b.0.signal) refl (computed_at d.rows b.0.signal) refl
  where
    w : List (List ℕ)
    w = kept_values d.rows (kept_words d.rows s.values)

    at : (i : Bool) → kept_at d.rows b.0.signal ≡ i → (j : Bool) → computed_at d.rows b.0.signal ≡ j → bit_at s.values b ≡ bit_at (kept_values d.rows (kept_words d.rows s.values)) b
    at true e j g = of_words s.values _ b (sym (same_words d.rows s.values f b.0.signal e))
    at false e true g = rest b g free ∙ sym (kept_rest d (kept_words d.rows s.values) b g free)
    at false e false g =
        let other = is_other_one (slice_get d.rows b.0.signal) e g in
        of_words s.values _ b (zero.words b.0.signal other ∙ sym (unkept_words d.rows (kept_words d.rows s.values) b.0.signal e))

-- ---- the boundary where a run is resumed

module _ (o : Origin) (order : List ℕ) (can : CanGoOn o.flat order) (fine : StartsFine o.flat.rows o.resume) where
  acc : IsAccepted o.flat
  acc = accepted o.flat can.checked

  at_rest : {k : ℕ} {q : Queue} → Boundary o k q → q.state.finished ≡ false → IsAtRest o.flat o.files q
  at_rest {k} {q} x f =
      let y = boundary o acc order can.ordered fine k (at_first x) in
      let e : y.0 ≡ q = boundary_once y.1 x in
      subst (λ z. z.state.finished ≡ false → IsAtRest o.flat o.files z) e y.2 f

  later_none : {k : ℕ} {q : Queue} → Boundary o k q → q.state.finished ≡ false → q.state.later ≡ []
  later_none {q = q} x f =
      let r : IsReached o q = agrees o can.unrolled (checked_quiet o.flat can.checked) x in
      let a : After o q.state.count (Between q) = subst (After o q.state.count) (r.between f) r.after in
      none_later o can.checked can.unrolled order can.ordered fine q a (at_rest x f).updated

  -- the resumed run is there in these values, and nothing is left to be done
  pub record Resumed (k : ℕ) (q : Queue) : Type 0 where
    pub b : Queue
    pub at : Boundary (again o q.state) k b
    pub alive : b.state.finished ≡ false
    pub pending : q.pending ≡ b.pending
    pub behind : IsBehind (q.state) (record (b.state) { saves = [] }) (record (q.state) { saves = [] })

  module _ (k : ℕ) (q : Queue) (x : Boundary o k q) (f : q.state.finished ≡ false) (rest : RestIsZero o.flat q.state.values) where
    abbrev d : Flat
    d = o.flat

    abbrev u : Origin
    u = again o q.state

    abbrev first : Queue
    first = resumed o.flat (snapshot_of o.flat.rows q.state)

    q_fine : IsFine o.flat.rows q.state.values
    q_fine = boundary_fine fine x

    w_fine : IsFine o.flat.rows (kept_values o.flat.rows (kept_words o.flat.rows q.state.values))
    w_fine = kept_fine o.flat.rows q.state.values q_fine

    calms : Calming o.flat o.files acc order can.ordered first
    calms = calming o.flat o.files acc order can.ordered first refl (comes_steady u acc order can.ordered w_fine begins refl).ready

    -- as the run was there, with no more than the snapshot has
    abbrev there : State
    there = record (first.state) { values = q.state.values }

    solved : AreSolved o.flat o.files there
    solved i l = sym (same_run o.flat o.files acc i q.state there f refl q.state.values) ∙ (at_rest x f).calm.solved i l

    values : calms.calmed.values ≡ q.state.values
    values = calms.pass
        ∙ pass_is o.flat o.files acc order can.ordered there (kept_values o.flat.rows (kept_words o.flat.rows q.state.values)) refl q_fine w_fine solved
        (kept_others o.flat q.state q_fine rest (others_zero o can.others x))

    abbrev settled : Queue
    settled = with_values first calms.calmed.values calms.calmed.pending

    settles : Settles o.flat o.files first settled
    settles = calms.settles tt settled (rests (next_behind o.flat o.files settled refl tt None calms.calmed.calm.none))

    steady : IsSteady o.flat o.files q
    steady = comes_steady o acc order can.ordered fine (boundary_comes o x) f

    pub resumes : Resumed k q
    resumes = record {
      b = settled;
      at = begun (sym (boundary_tick o x f)) settles;
      alive = refl;
      pending = same_flags o.flat.procs q.pending calms.calmed.pending steady.ready.many calms.ready.many (at_rest x f).calm.none calms.calmed.calm.none;
      behind = record {
        values = sym values;
        later = later_none x f;
        printed = sym (append-nil q.state.printed);
        table = refl;
        saves = refl;
        ticks = refl;
        finished = f;
        count = omega arith;
      };
    }
