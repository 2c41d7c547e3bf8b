-- What a cycle, and a served call or save, do to a berth.
use Rattle.std.proofs.Common.{◌≡◌, ◌≢◌, ℕ, ◌+◌, ◌-◌, ◌<◌, ◌≤◌, ◌⊎◌, inl, inr, Bool, true, false, List, [], ◌∷◌, Option, Some, None, map, refl, sym, ap, ◌∙◌, subst, arith, eqb, eq-eqb}
use Rattle.std.specs.Prelude.{◌&&◌, ◌||◌, not, is_some, if◌then◌else◌, slice_get, nat_le, ◌==◌}
use Rattle.std.proofs.lemmas.Bool.Decides.{eqb_tells}
use Rattle.vl_design.specs.declared.design.End.{End}
use Rattle.vl_design.specs.declared.design.End.TheVariants as end
use Rattle.vl_design.specs.Alone.{Boundary, Ends, Origin, reason_at, stop_at}
use Rattle.vl_design.specs.Queue.{Queue}
use Rattle.vl_design.specs.State.{State}
use Rattle.vl_design.specs.Syntax.{Task, Print, Finish, Save, Fopen, Fread, Fgetc, Feof, Fclose, ReadHex, Row}
use Rattle.vl_design.specs.Tasks.{done, memory_read}
use Rattle.vl_design.specs.Width.{Scope}
use Rattle.vl_design.specs.Functions.{scope_of}
use Rattle.ten_core.specs.cell_form.specs.Data.{BankData}
use Rattle.ten_core.specs.sub_nodes.specs.Code.{table_of}
use Rattle.ten_core.specs.sub_nodes.specs.Cycles.{Stage, is_trap, rises, served_by}
use Rattle.ten_core.specs.sub_nodes.specs.Nodes.{Node, Run, Trap, Apply}
use Rattle.ten_core.specs.sub_nodes.specs.Stands.{at_trap}
use Rattle.ten_core.specs.declared.origin.Origin.{Origin as From}
use Rattle.ten_core.specs.Runs.{after_call, after_cycle}
use Rattle.ten_core.specs.Tenants.{origin_of}
use Rattle.ten_core.specs.ten_plan.specs.Plans.{move_at}
use Rattle.ten_core.specs.Running.{is_at_rest, IsRunning}
use Rattle.fab_core.specs.ten_shell.specs.declared.shell.Shell.{Shell}
use Rattle.fab_core.specs.ten_shell.specs.Leaving.{why_of}
use Rattle.fab_core.specs.ten_shell.specs.Shells.{is_left, run_of}
use Rattle.fab_core.specs.fab_model.specs.Points.{Point, called, cycled, ended, is_there, order_in, run_in, saved, served, tick_of}
use Rattle.fab_core.specs.fab_model.specs.Fabrics.{can_step, changed, is_of, stepped}
use Rattle.fab_core.specs.fab_join.specs.Parts.{PartData}
use Rattle.fab_core.specs.declared.resident.Resident.{Resident}
use Rattle.fab_core.specs.Standing.{AreStanding, IsPoint}
use Rattle.fab_core.specs.fab_model.specs.Histories.{is_done}
use Rattle.fab_bay.specs.declared.berth.Berth.{Berth}
use Rattle.fab_bay.specs.Berths.{AreBerths, IsBerth, begun, deed_at}
use Rattle.vl_design.specs.vl_base.proofs.Booleans.{or_right_true as or-true, and_both as both}
use Rattle.ten_core.specs.sub_nodes.proofs.Shared.{trap-low}
use Rattle.fab_core.proofs.Points.{run-by}

-- ---- what holds of all runs

abbrev pub RisesLaw : Type 0
RisesLaw = (o : Origin) (order : List ℕ) (c : ℕ) (i : Stage) → IsRunning o order c i → rises (slice_get (table_of o.flat).nodes i.node) ≡ true → (after_cycle o order i).state.ticks ≡ i.state.ticks + 1

abbrev pub TicksLaw : Type 0
TicksLaw = (o : Origin) (order : List ℕ) (c : ℕ) (i : Stage) → IsRunning o order c i → rises (slice_get (table_of o.flat).nodes i.node) ≡ false → (after_cycle o order i).state.ticks ≡ i.state.ticks

abbrev pub CallTicksLaw : Type 0
CallTicksLaw = (o : Origin) (order : List ℕ) (c : ℕ) (i : Stage) → IsRunning o order c i → (after_call o i).state.ticks ≡ i.state.ticks

abbrev pub BoundaryLaw : Type 0
BoundaryLaw = (o : Origin) (order : List ℕ) (c : ℕ) (i : Stage) → IsRunning o order c i → is_at_rest o.flat i ≡ true → (q : Queue) × Boundary o i.state.ticks q × (q.state ≡ i.state)

abbrev pub OneStateLaw : Type 0
OneStateLaw = (o : Origin) (k : ℕ) (a b : Queue) → Boundary o k a → Boundary o k b → a ≡ b

-- ---- a point is on the way of its run

pub running : (s : Shell) (b : BankData) (p : Point) → IsPoint s b p → IsRunning (run_in p) (order_in p) p.acts p.stage
running s b p h =
    subst (λ l. IsRunning (run_in p) l p.acts p.stage) (sym h.stands.at.image.ordered ∙ ap (λ (x : From). x.image.order.items) h.origin)
    (subst (λ o. IsRunning o h.stands.order p.acts p.stage) (run-by h) h.stands.running)

-- ---- what holds of one that may step

pub record Free (fin ri : Bool) (e : Option End) (to : Option ℕ) (moved : Bool) : Type 0 where
  pub on : fin ≡ false
  pub stays : ri ≡ true → e ≡ None
  pub done : ri ≡ true → is_some to ≡ true → moved ≡ true

free-step : (tr fin ri lf hold moved : Bool) (e : Option End) (to : Option ℕ) → (fin ≡ true → e ≡ None → ⊥)
    → (not (tr || ((not fin && ri) && lf)) && (not (is_some (if fin || (ri && not lf) then why_of e to moved else None)) && not (hold && (fin || (ri && not lf))))) ≡ true → Free fin ri e to moved
free-step true fin ri lf hold moved e to f h = let z : ⊥ = cc in absurd z
free-step false true ri lf hold moved (Some e) to f h = let z : ⊥ = cc in absurd z
free-step false true ri lf hold moved None to f h = absurd (f refl refl)
free-step false false true true hold moved e to f h = let z : ⊥ = cc in absurd z
free-step false false true false hold moved (Some e) to f h = let z : ⊥ = cc in absurd z
free-step false false true false hold true None (Some m) f h = record { on = refl; stays = λ e. refl; done = λ e d. refl }
free-step false false true false hold false None (Some m) f h = let z : ⊥ = cc in absurd z
free-step false false true false hold moved None None f h = record { on = refl; stays = λ e. refl; done = λ e d. let z : ⊥ = cc in absurd z }
free-step false false false lf hold moved e to f h = record { on = refl; stays = λ e. let z : ⊥ = cc in absurd z; done = λ e d. let z : ⊥ = cc in absurd z }

end-some : (st f b s : Bool) → f ≡ true → (if st then Some end.Stopped else if f then Some end.Finished else if b then Some end.Budget else if s then Some end.Stopped else None) ≡ None → ⊥
end-some true f b s e h = cc
end-some false true b s e h = cc
end-some false false b s e h = cc

-- there is no reason to end in a state that has finished or not as another
ended-none : (st f g b s : Bool) → st ≡ false → f ≡ g → (if st then Some end.Stopped else if g then Some end.Finished else if b then Some end.Budget else if s then Some end.Stopped else None) ≡ None
    → (if f then Some end.Finished else if b then Some end.Budget else if s then Some end.Stopped else None) ≡ None
ended-none true f g b s e h k = let z : ⊥ = cc in absurd z
ended-none false f g b s e h k = ap (λ x. if x then Some end.Finished else if b then Some end.Budget else if s then Some end.Stopped else None) h ∙ k

abbrev pub rising : Point → Bool
rising p = rises (slice_get (table_of (run_in p).flat).nodes p.stage.node)

abbrev pub move_here : Point → Option ℕ
move_here p = move_at p.stage.state.ticks (run_in p).plan.errands

pub free-point : (holding : Bool) (p : Point) → can_step holding p ≡ true → Free p.stage.state.finished (rising p) (ended p) (move_here p) p.moved
free-point holding p h =
    free-step (at_trap (table_of (run_in p).flat) p.stage) p.stage.state.finished (rising p) (is_left p.left) holding p.moved (ended p) (move_here p)
    (end-some p.stopped p.stage.state.finished (nat_le (run_in p).plan.budget p.stage.state.ticks) (stop_at p.stage.state.ticks (run_in p).plan.errands)) h

-- ---- ticks

tick-at : (f t : Bool) (k : ℕ) → t ≡ true → (if f || t then k else k - 1) ≡ k
tick-at true t k e = refl
tick-at false true k e = refl
tick-at false false k e = let z : ⊥ = cc in absurd z

tick-under : (f t : Bool) (k : ℕ) → f ≡ false → t ≡ false → (if f || t then k else k - 1) ≡ k - 1
tick-under true t k e h = let z : ⊥ = cc in absurd z
tick-under false true k e h = let z : ⊥ = cc in absurd z
tick-under false false k e h = refl

tick-low : (x : Bool) (k : ℕ) → k - 1 ≤ (if x then k else k - 1)
tick-low true k = omega arith
tick-low false k = omega arith

tick-grows : (f t g u : Bool) (k m : ℕ) → t ≡ false → (f ≡ true → g ≡ true) → m ≡ k → (if f || t then k else k - 1) ≤ (if g || u then m else m - 1)
tick-grows f true g u k m e h s = let z : ⊥ = cc in absurd z
tick-grows true false true u k m e h s = omega (arith, s)
tick-grows true false false u k m e h s = let w = h refl in let z : ⊥ = cc in absurd z
tick-grows false false true u k m e h s = omega (arith, s)
tick-grows false false false true k m e h s = omega (arith, s)
tick-grows false false false false k m e h s = omega (arith, s)

and-true : (f r : Bool) → f ≡ false → r ≡ true → (not f && r) ≡ true
and-true true r e h = let z : ⊥ = cc in absurd z
and-true false r e h = h

and-false : (f r : Bool) → r ≡ false → (not f && r) ≡ false
and-false true r h = refl
and-false false r h = h

up-to : (k t : ℕ) → k < t + 1 → (k ≡ t) ⊎ (k < t)
up-to k t h = step (eqb_tells k t)
  where
    step : ((eqb k t ≡ true) × (k ≡ t)) ⊎ ((eqb k t ≡ false) × (k ≢ t)) → (k ≡ t) ⊎ (k < t)
    step (inl e) = inl e.1
    step (inr e) = let ne = e.1 in inr (omega (arith, h, ne))

-- ---- a cycle

module _ (rise : RisesLaw) (same : TicksLaw) (boundary : BoundaryLaw) (one : OneStateLaw) (n : ℕ) (b : Berth) (p : Point) (h : IsBerth n b p)
    (run : IsRunning (run_in p) (order_in p) p.acts p.stage) (free : Free p.stage.state.finished (rising p) (ended p) (move_here p) p.moved) where
  abbrev now : ℕ
  now = p.stage.state.ticks

  abbrev next : ℕ
  next = begun (cycled p)

  -- where the clock rises the run doesn't end
  no-end : rising p ≡ true → (e : End) (q : Queue) → Ends (run_in p) now e q → ⊥
  no-end r e q x =
      let w = boundary (run_in p) (order_in p) p.acts p.stage run (or-true p.stage.state.finished (rising p) r) in
      let s : q.state.finished ≡ p.stage.state.finished = ap (λ (z : Queue). z.state.finished) (one (run_in p) now q w.0 x.at w.1) ∙ ap (λ (z : State). z.finished) w.2 in
      let why : reason_at (run_in p).plan now q ≡ None = ended-none p.stopped q.state.finished p.stage.state.finished (nat_le (run_in p).plan.budget now) (stop_at now (run_in p).plan.errands) h.lives s (free.stays r) in
      let z : ⊥ = (let y = x.why in cc) in z

  -- a move that stands where it is is done
  move-done : rising p ≡ true → (k : ℕ) → b.noted ≤ k → k ≡ now → is_some (move_at k (run_in p).plan.errands) ≡ true → (k ≡ b.noted) × (is_done b.since b.noted (deed_at b) ≡ true)
  move-done r k le e s =
      let m = h.moved (free.done r (subst (λ (t : ℕ). is_some (move_at t (run_in p).plan.errands) ≡ true) e s)) in
      let tick : tick_of p ≡ now = tick-at p.stage.state.finished (is_there p) now m.0 in
      let at = m.1 in
      let o = h.order in
      (omega (arith, o.0, o.1, e, tick, at), both (b.noted == b.since) (deed_at b).moved (eq-eqb b.noted b.since (omega (arith, o.0, o.1, tick, at))) m.2)

  moves-on : rising p ≡ true → (k : ℕ) → b.noted ≤ k → is_some (move_at k (run_in p).plan.errands) ≡ true → (k ≡ now) ⊎ (k < now) → (k ≡ b.noted) × (is_done b.since b.noted (deed_at b) ≡ true)
  moves-on r k le s (inl e) = move-done r k le e s
  moves-on r k le s (inr lt) = h.moves k le lt s

  risen : rising p ≡ true → IsBerth n b (cycled p)
  risen r =
      let there : is_there p ≡ true = and-true p.stage.state.finished (rising p) free.on r in
      let tick : tick_of p ≡ now = tick-at p.stage.state.finished (is_there p) now there in
      let more : next ≡ now + 1 = rise (run_in p) (order_in p) p.acts p.stage run r in
      let low = tick-low ((cycled p).stage.state.finished || is_there (cycled p)) next in
      let o = h.order in
      record {
        number = h.number;
        few = h.few;
        origin = h.origin;
        free = h.free;
        by_move = h.by_move;
        lives = h.lives;
        order = (o.0, omega (arith, o.1, tick, more, low));
        end = λ j e q x.
            let ne : j ≢ now = λ s. no-end r e q (subst (λ k. Ends (run_in p) k e q) s x) in
            let le = h.end j e q x in
            omega (arith, le, ne, more);
        moves = λ k le lt s. moves-on r k le s (up-to k now (omega (arith, lt, more)));
        moved = λ e. let z : ⊥ = cc in absurd z;
        done = λ t at m.
            let up : tick_of (cycled p) ≡ next = tick-at (cycled p).stage.state.finished (is_there (cycled p)) next t in
            let z : ⊥ = omega (arith, o.0, o.1, tick, more, at, up) in absurd z;
        lively = λ e. let z : ⊥ = cc in absurd z;
        later = λ t. omega (arith, o.0, o.1, tick, more);
        stays = h.stays;
        chained = h.chained;
        room = h.room;
      }

  inside : rising p ≡ false → IsBerth n b (cycled p)
  inside r =
      let out : is_there p ≡ false = and-false p.stage.state.finished (rising p) r in
      let tick : tick_of p ≡ now - 1 = tick-under p.stage.state.finished (is_there p) now free.on out in
      let more : next ≡ now = same (run_in p) (order_in p) p.acts p.stage run r in
      let low = tick-low ((cycled p).stage.state.finished || is_there (cycled p)) next in
      let o = h.order in
      let late = h.later out in
      record {
        number = h.number;
        few = h.few;
        origin = h.origin;
        free = h.free;
        by_move = h.by_move;
        lives = h.lives;
        order = (o.0, omega (arith, o.1, tick, more, low));
        end = λ j e q x. let le = h.end j e q x in omega (arith, le, more);
        moves = λ k le lt s. h.moves k le (omega (arith, lt, more)) s;
        moved = λ e. let z : ⊥ = cc in absurd z;
        done = λ t at m.
            let up : tick_of (cycled p) ≡ next = tick-at (cycled p).stage.state.finished (is_there (cycled p)) next t in
            let z : ⊥ = omega (arith, late, more, at, up) in absurd z;
        lively = λ e. let z : ⊥ = cc in absurd z;
        later = λ t. omega (arith, late, more);
        stays = h.stays;
        chained = h.chained;
        room = h.room;
      }

  pub cycled-berth : IsBerth n b (cycled p)
  cycled-berth = by (rising p) refl
    where
      by : (r : Bool) → rising p ≡ r → IsBerth n b (cycled p)
      by true r = risen r
      by false r = inside r

-- where it may step it does
pub stepped-berth : RisesLaw → TicksLaw → BoundaryLaw → OneStateLaw → (holding : Bool) (n : ℕ) (b : Berth) (p : Point) → IsBerth n b p → IsRunning (run_in p) (order_in p) p.acts p.stage → IsBerth n b (stepped holding p)
stepped-berth rise same boundary one holding n b p h run = by (can_step holding p) refl
  where
    by : (x : Bool) → can_step holding p ≡ x → IsBerth n b (if x then cycled p else p)
    by true e = cycled-berth rise same boundary one n b p h run (free-point holding p e)
    by false e = h

pub all-stepped : RisesLaw → TicksLaw → BoundaryLaw → OneStateLaw → (holding : Bool) (n : ℕ) (j : List PartData) (rs : List Resident) (bs : List Berth) (ps : List Point) → AreStanding j rs ps → AreBerths n bs ps
    → AreBerths n bs (map (stepped holding) ps)
all-stepped rise same boundary one holding n j rs [] [] s h = tt
all-stepped rise same boundary one holding n j rs [] (p ∷ ps) s h = absurd h
all-stepped rise same boundary one holding n j rs (b ∷ bs) [] s h = absurd h
all-stepped rise same boundary one holding n j [] (b ∷ bs) (p ∷ ps) s h = absurd s
all-stepped rise same boundary one holding n j (r ∷ rs) (b ∷ bs) (p ∷ ps) s h = (
  stepped-berth rise same boundary one holding n b p h.0 (running r.tenant.shell _ p s.0.point),
  all-stepped rise same boundary one holding n j rs bs ps s.1 h.1,
)

-- ---- what is served

-- a snapshot is made
saved-berth : (n : ℕ) (b : Berth) (p : Point) → IsBerth n b p → IsBerth n b (saved p)
saved-berth n b p h = record {
  number = h.number;
  few = h.few;
  origin = h.origin;
  free = h.free;
  by_move = h.by_move;
  lives = h.lives;
  order = h.order;
  end = h.end;
  moves = h.moves;
  moved = h.moved;
  done = h.done;
  lively = h.lively;
  later = h.later;
  stays = h.stays;
  chained = h.chained;
  room = h.room;
}

-- what has finished stays so
read-over : (m : ℕ) (row : Option Row) (text : Option (List ℕ)) (s : State) → s.finished ≡ true → (memory_read m row text s).finished ≡ true
read-over m None text s e = e
read-over m (Some r) None s e = e
read-over m (Some r) (Some text) s e = e

done-over : (scope : Scope) (task : Task) (s : State) → s.finished ≡ true → (done scope task s).finished ≡ true
done-over scope (Print pieces newline) s e = e
done-over scope (Finish es) s e = refl
done-over scope (Save name) s e = e
done-over scope (Fopen name) s e = e
done-over scope (Fread k fd) s e = e
done-over scope (Fgetc fd) s e = e
done-over scope (Feof fd) s e = e
done-over scope (Fclose fd) s e = e
done-over scope (ReadHex name m) s e = read-over m _ _ s e

over : (scope : Scope) (x : Option Node) (i : Stage) → i.state.finished ≡ true → (served_by scope x i).state.finished ≡ true
over scope None i e = e
over scope (Some (Run g on)) i e = e
over scope (Some (Trap task to)) i e = done-over scope task i.state e
over scope (Some (Apply to)) i e = e

-- the call is served
called-berth : CallTicksLaw → (n : ℕ) (b : Berth) (p : Point) → IsBerth n b p → IsRunning (run_in p) (order_in p) p.acts p.stage → at_trap (table_of (run_in p).flat) p.stage ≡ true → IsBerth n b (called p)
called-berth same n b p h run trap =
    let next : ℕ = begun (called p) in
    let now : ℕ = begun p in
    let nodes = (table_of (run_in p).flat).nodes in
    let out : is_there p ≡ false = and-false p.stage.state.finished (rising p) (trap-low (slice_get nodes p.stage.node) trap) in
    let more : next ≡ now = same (run_in p) (order_in p) p.acts p.stage run in
    let grows : tick_of p ≤ tick_of (called p) = tick-grows p.stage.state.finished (is_there p) (called p).stage.state.finished (is_there (called p)) now next out (over (scope_of (run_in p).flat (run_in p).files) (slice_get nodes p.stage.node) p.stage) more in
    let o = h.order in
    let late = h.later out in
    record {
      number = h.number;
      few = h.few;
      origin = h.origin;
      free = h.free;
      by_move = h.by_move;
      lives = h.lives;
      order = (o.0, omega (arith, o.1, grows));
      end = λ j e q x. let le = h.end j e q x in omega (arith, le, more);
      moves = λ k le lt s. h.moves k le (omega (arith, lt, more)) s;
      moved = λ e. let m = (h.moved e).0 in let z : ⊥ = cc in absurd z;
      done = λ t at m.
          let up : tick_of (called p) ≡ next = tick-at (called p).stage.state.finished (is_there (called p)) next t in
          let z : ⊥ = omega (arith, late, more, at, up) in absurd z;
      lively = λ e. let m = (h.moved e).0 in let z : ⊥ = cc in absurd z;
      later = λ t. omega (arith, late, more);
      stays = h.stays;
      chained = h.chained;
      room = h.room;
    }

pub served-berth : CallTicksLaw → (n : ℕ) (b : Berth) (p : Point) → IsBerth n b p → IsRunning (run_in p) (order_in p) p.acts p.stage → IsBerth n b (served p)
served-berth same n b p h run = by (at_trap (table_of (run_in p).flat) p.stage) refl
  where
    by : (x : Bool) → at_trap (table_of (run_in p).flat) p.stage ≡ x → IsBerth n b (if x then called p else saved p)
    by true e = called-berth same n b p h run e
    by false e = saved-berth n b p h

pub all-served : CallTicksLaw → (t n : ℕ) (j : List PartData) (rs : List Resident) (bs : List Berth) (ps : List Point) → AreStanding j rs ps → AreBerths n bs ps → AreBerths n bs (changed t served ps)
all-served same t n j rs [] [] s h = tt
all-served same t n j rs [] (p ∷ ps) s h = absurd h
all-served same t n j rs (b ∷ bs) [] s h = absurd h
all-served same t n j [] (b ∷ bs) (p ∷ ps) s h = absurd s
all-served same t n j (r ∷ rs) (b ∷ bs) (p ∷ ps) s h = by (is_of t p) (served-berth same n b p h.0 (running r.tenant.shell _ p s.0.point)) (all-served same t n j rs bs ps s.1 h.1)
  where
    by : (x : Bool) → IsBerth n b (served p) → AreBerths n bs (changed t served ps) → AreBerths n (b ∷ bs) (if x then served p ∷ ps else p ∷ changed t served ps)
    by true e r = (e, h.1)
    by false e r = (h.0, r)
