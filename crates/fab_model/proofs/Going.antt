-- Each tenant is on the way of its run.
use Rattle.std.proofs.Common.{◌≡◌, ℕ, zero, suc, List, [], ◌∷◌, ◌++◌, map, take, drop, refl, sym, ◌∙◌, subst, Bool, true, false, cond, Option, Some, None}
use Rattle.std.specs.Prelude.{if◌then◌else◌, ◌&&◌, ◌||◌, not, is_some, nat_le, slice_get}
use Rattle.std.proofs.lemmas.List.{take-append-drop}
use Rattle.std.specs.List.{AllByRecursion}
use Rattle.ten_core.specs.vl_design.specs.declared.capacity.Cost.{Cost}
use Rattle.ten_core.specs.vl_design.specs.declared.design.End.TheVariants.{Finished, Budget, Stopped}
use Rattle.ten_core.specs.vl_design.specs.Alone.{Origin, stop_at}
use Rattle.ten_core.specs.sub_nodes.specs.Code.{table_of}
use Rattle.ten_core.specs.sub_nodes.specs.Cycles.{Stage, rises}
use Rattle.ten_core.specs.sub_nodes.specs.Stands.{at_trap}
use Rattle.ten_core.specs.Runs.{after_cycle, after_call}
use Rattle.ten_core.specs.ten_plan.specs.Plans.{move_at}
use Rattle.ten_core.specs.Running.{goes_on, IsRunning}
use Rattle.ten_parcel.specs.ten_shell.specs.declared.shell.Why.{Why}
use Rattle.ten_parcel.specs.ten_shell.specs.declared.shell.Why.TheVariants.{Ended, Move}
use Rattle.ten_parcel.specs.ten_shell.specs.Leaving.{why_of}
use Rattle.ten_parcel.specs.ten_shell.specs.Shells.{is_left}
use Rattle.fab_model.specs.Points.{Point, called, cost_of, cycled, departed, due, ended, kept, rests, saved, served, stopped, waits, run_in, order_in}
use Rattle.fab_model.specs.Fabrics.{Fabric, all_served, all_stepped, arrived, can_step, changed, first_of, found, has, held, is_of, joining, left, may_cycle, rebuilt, stepped, taken, within, without}
use Rattle.fab_model.specs.Worlds.{World, Event, Arrive, Cycle, Serve, Hold, Rebuild, Take, Leave, comes, goes, happens, is_at_rest, leaves, serves, takes}
use Rattle.fab_model.specs.Several.{Several, Step, Load, At, Save, Stop, among, changes, empty, empty_of, everyone_in, happens_at, loaded, loaded_after, loads, run, step, AreRuns, IsRun}
use Rattle.fab_model.proofs.Weights.{is_load}
use Rattle.fab_model.proofs.Places.{Alike, alike_behind, alike_first, alike_loaded, there_alike}
use Rattle.ten_core.specs.vl_base.proofs.Booleans.{and_left as first_part, and_right as second_part}

-- what holds of runs that go on
pub record RunsOn : Type 0 where
  pub cycle : (o : Origin) (order : List ℕ) (c : ℕ) (i : Stage) → IsRunning o order c i → goes_on o.plan o.flat i ≡ true → at_trap (table_of o.flat) i ≡ false →
      IsRunning o order (if at_trap (table_of o.flat) (after_cycle o order i) then c else suc c) (after_cycle o order i)
  pub call : (o : Origin) (order : List ℕ) (c : ℕ) (i : Stage) → IsRunning o order c i → at_trap (table_of o.flat) i ≡ true → IsRunning o order (suc c) (after_call o i)

-- ---- what may do a cycle

neither : (a b : Bool) → not (a || b) ≡ true → (a ≡ false) × (b ≡ false)
neither true b e = cc
neither false true e = cc
neither false false e = (refl, refl)

none_there : (A : Type 0) (o : Option A) → not (is_some o) ≡ true → o ≡ None
none_there A None e = refl
none_there A (Some x) e = cc

-- no reason to leave: the run goes on
on_way : (finished rising saves stopped spent stops moved : Bool) (to : Option ℕ) → ((not finished && rising) && saves) ≡ false →
    (if finished || (rising && not saves) then why_of (if stopped then Some Stopped else if finished then Some Finished else if spent then Some Budget else if stops then Some Stopped else None) to moved else None) ≡ None →
    (not finished && (not rising || not (spent || stops))) ≡ true
on_way true rising saves true spent stops moved to kept none = cc
on_way true rising saves false spent stops moved to kept none = cc
on_way false false saves stopped spent stops moved to kept none = refl
on_way false true true stopped spent stops moved to kept none = cc
on_way false true false true spent stops moved to kept none = cc
on_way false true false false true stops moved to kept none = cc
on_way false true false false false true moved to kept none = cc
on_way false true false false false false moved to kept none = refl

-- what a point that may do a cycle is
record CanGo (p : Point) : Type 0 where
  no_call : at_trap (table_of (run_in p).flat) p.stage ≡ false
  on : goes_on (run_in p).plan (run_in p).flat p.stage ≡ true

can_go : (holding : Bool) (p : Point) → can_step holding p ≡ true → CanGo p
can_go holding p e =
    let s = p.stage.state in
    let rising = rises (slice_get (table_of (run_in p).flat).nodes p.stage.node) in
    let a = first_part (not (waits p)) (not (is_some (due p)) && not (holding && rests p)) e in
    let b = second_part (not (waits p)) (not (is_some (due p)) && not (holding && rests p)) e in
    let c = first_part (not (is_some (due p))) (not (holding && rests p)) b in
    let n = neither (at_trap (table_of (run_in p).flat) p.stage) ((not s.finished && rising) && is_left p.left) a in
    record {
      no_call = n.0;
      on = on_way s.finished rising (is_left p.left) p.stopped (nat_le (run_in p).plan.budget s.ticks) (stop_at s.ticks (run_in p).plan.errands) p.moved (move_at s.ticks (run_in p).plan.errands) n.1 (none_there Why (due p) c);
    }

-- ---- steps

-- what each step of a point keeps
pub record Keeps (P : Point → Type 0) : Type 0 where
  pub cycle : (holding : Bool) (p : Point) → can_step holding p ≡ true → P p → P (cycled p)
  pub serve : (p : Point) → P p → P (served p)
  pub depart : (why : Why) (p : Point) → P p → P (departed why p)
  pub keep : (name : List ℕ) (p : Point) → P p → P (kept name p)
  pub stop : (p : Point) → P p → P (stopped p)

module _ (P : Point → Type 0) (s : Keeps P) where
  abbrev All : List Point → Type 0
  All ps = AllByRecursion P ps

  -- ---- lists

  all-append : (xs ys : List Point) → All xs → All ys → All (xs ++ ys)
  all-append [] ys h k = k
  all-append (x ∷ xs) ys h k = (h.0, all-append xs ys h.1 k)

  all_before : (xs ys : List Point) → All (xs ++ ys) → All xs
  all_before [] ys h = tt
  all_before (x ∷ xs) ys h = (h.0, all_before xs ys h.1)

  all_behind : (xs ys : List Point) → All (xs ++ ys) → All ys
  all_behind [] ys h = h
  all_behind (x ∷ xs) ys h = all_behind xs ys h.1

  all_more : (xs : List Point) (p : Point) → All xs → P p → All (xs ++ p ∷ [])
  all_more xs p h k = all-append xs (p ∷ []) h (k, tt)

  all_take : (n : ℕ) (ps : List Point) → All ps → All (take n ps)
  all_take n ps h = all_before (take n ps) (drop n ps) (subst All (sym (take-append-drop n ps)) h)

  all_drop : (n : ℕ) (ps : List Point) → All ps → All (drop n ps)
  all_drop n ps h = all_behind (take n ps) (drop n ps) (subst All (sym (take-append-drop n ps)) h)

  all_without : (t : ℕ) (ps : List Point) → All ps → All (without t ps)
  all_without t [] h = h
  all_without t (p ∷ ps) h = elim (is_of t p) as (λ b. All (cond b ps (p ∷ without t ps))) [ true ↦ h.1 | false ↦ (h.0, all_without t ps h.1) ]

  is_first : (t : ℕ) (ps : List Point) (p : Point) → first_of t ps ≡ Some p → All ps → P p
  is_first t [] p e h = cc
  is_first t (q ∷ ps) p e h = at_head t q ps p (is_of t q) e h.0 (λ i. is_first t ps p i h.1)
    where
      at_head : (t : ℕ) (q : Point) (ps : List Point) (p : Point) (b : Bool) → cond b (Some q) (first_of t ps) ≡ Some p → P q → (first_of t ps ≡ Some p → P p) → P p
      at_head t q ps p true e h k = let same : q ≡ p = cc in subst P same h
      at_head t q ps p false e h k = k e

  all_changed : (f : Point → Point) → ((p : Point) → P p → P (f p)) → (t : ℕ) (ps : List Point) → All ps → All (changed t f ps)
  all_changed f k t [] h = h
  all_changed f k t (p ∷ ps) h = elim (is_of t p) as (λ b. All (cond b (f p ∷ ps) (p ∷ changed t f ps))) [ true ↦ (k p h.0, h.1) | false ↦ (h.0, all_changed f k t ps h.1) ]

  is_stepped : (holding : Bool) (p : Point) (b : Bool) → can_step holding p ≡ b → P p → P (cond b (cycled p) p)
  is_stepped holding p true e h = s.cycle holding p e h
  is_stepped holding p false e h = h

  all_go : (holding : Bool) (ps : List Point) → All ps → All (map (stepped holding) ps)
  all_go holding [] h = h
  all_go holding (p ∷ ps) h = (is_stepped holding p (can_step holding p) refl h.0, all_go holding ps h.1)

  -- ---- events

  record AllIn (w : World) : Type 0 where
    transit : All w.transit
    residents : All w.fabric.residents
    line : All w.fabric.line

  came : (w : World) (t : ℕ) (q : Option Point) → first_of t w.transit ≡ q → AllIn w → AllIn (comes w t q)
  came w t None e h = h
  came w t (Some p) e h =
      let new : World = record { fabric = arrived p w.fabric; transit = without t w.transit } in
      elim (not (is_some (ended p)) && (within (cost_of p) w.fabric.capacity && not (has t w.fabric))) as (λ k. AllIn (cond k new w)) [
        | true ↦ record { transit = all_without t w.transit h.transit; residents = h.residents; line = all_more w.fabric.line p h.line (is_first t w.transit p e h.transit) }
        | false ↦ h
      ]

  serve : (w : World) (t : ℕ) (q : Option Point) → AllIn w → AllIn (serves w t q)
  serve w t None h = h
  serve w t (Some p) h =
      let new : World = record w { fabric = all_served t w.fabric } in
      elim (waits p) as (λ k. AllIn (cond k new w)) [
        | true ↦ record { transit = h.transit; residents = all_changed served s.serve t w.fabric.residents h.residents; line = h.line }
        | false ↦ h
      ]

  took : (w : World) (t : ℕ) (p : Point) (b : Bool) → cond b (first_of t w.fabric.residents) (first_of t w.fabric.line) ≡ Some p → AllIn w →
      AllIn (record { fabric = cond b (record (w.fabric) { residents = without t w.fabric.residents }) (record (w.fabric) { line = without t w.fabric.line }); transit = w.transit ++ p ∷ [] })
  took w t p true e h = record { transit = all_more w.transit p h.transit (is_first t w.fabric.residents p e h.residents); residents = all_without t w.fabric.residents h.residents; line = h.line }
  took w t p false e h = record { transit = all_more w.transit p h.transit (is_first t w.fabric.line p e h.line); residents = h.residents; line = all_without t w.fabric.line h.line }

  take_out : (w : World) (t : ℕ) (q : Option Point) → found t w.fabric ≡ q → AllIn w → AllIn (takes w t q)
  take_out w t None e h = h
  take_out w t (Some p) e h =
      let new : World = record { fabric = taken t w.fabric; transit = w.transit ++ p ∷ [] } in
      elim (is_at_rest w.fabric) as (λ k. AllIn (cond k new w)) [ true ↦ took w t p (is_some (first_of t w.fabric.residents)) e h | false ↦ h ]

  went : (w : World) (t : ℕ) (p : Point) (why : Option Why) → first_of t w.fabric.residents ≡ Some p → AllIn w → AllIn (goes w t p why)
  went w t p None e h = h
  went w t p (Some why) e h =
      let new : World = record { fabric = left t w.fabric; transit = w.transit ++ departed why p ∷ [] } in
      let out = s.depart why p (is_first t w.fabric.residents p e h.residents) in
      elim (is_at_rest w.fabric) as (λ k. AllIn (cond k new w)) [
        | true ↦ record { transit = all_more w.transit (departed why p) h.transit out; residents = all_without t w.fabric.residents h.residents; line = h.line }
        | false ↦ h
      ]

  leave : (w : World) (t : ℕ) (q : Option Point) → first_of t w.fabric.residents ≡ q → AllIn w → AllIn (leaves w t q)
  leave w t None e h = h
  leave w t (Some p) e h = went w t p (due p) e h

  join : (w : World) → AllIn w → AllIn (record w { fabric = rebuilt w.fabric })
  join w h =
      let n = joining w.fabric in
      record {
        transit = h.transit;
        residents = all-append w.fabric.residents (take n w.fabric.line) h.residents (all_take n w.fabric.line h.line);
        line = all_drop n w.fabric.line h.line;
      }

  behind : (w : World) (e : Event) → AllIn w → AllIn (happens w e)
  behind w (Arrive t) h = came w t (first_of t w.transit) refl h
  behind w Cycle h =
      elim (may_cycle w.fabric) as (λ k. AllIn (cond k (record w { fabric = all_stepped w.fabric }) w)) [
        | true ↦ record { transit = h.transit; residents = all_go w.fabric.holding w.fabric.residents h.residents; line = h.line }
        | false ↦ h
      ]
  behind w (Serve t) h = serve w t (first_of t w.fabric.residents) h
  behind w Hold h =
      elim w.fabric.holding as (λ k. AllIn (cond k w (record w { fabric = held w.fabric }))) [ true ↦ h | false ↦ record { transit = h.transit; residents = h.residents; line = h.line } ]
  behind w Rebuild h = elim (is_at_rest w.fabric) as (λ k. AllIn (cond k (record w { fabric = rebuilt w.fabric }) w)) [ true ↦ join w h | false ↦ h ]
  behind w (Take t) h = take_out w t (found t w.fabric) refl h
  behind w (Leave t) h = leave w t (first_of t w.fabric.residents) refl h

  -- ---- several fabrics

  record AllOver (w : Several) : Type 0 where
    transit : All w.transit
    among : All (among w.fabrics)

  all_at : (g : ℕ) (e : Event) (transit : List Point) (fs : List Fabric) → All transit → All (among fs) → AllOver (happens_at g e transit fs)
  all_at g e transit [] h k = record { transit = h; among = k }
  all_at zero e transit (f ∷ fs) h k =
      let w : World = record { fabric = f; transit = transit } in
      let own = all_before (f.residents ++ f.line) (among fs) k in
      let i = behind w e (record { transit = h; residents = all_before f.residents f.line own; line = all_behind f.residents f.line own }) in
      let new = (happens w e).fabric in
      record { transit = i.transit; among = all-append (new.residents ++ new.line) (among fs) (all-append new.residents new.line i.residents i.line) (all_behind (f.residents ++ f.line) (among fs) k) }
  all_at (suc g) e transit (f ∷ fs) h k =
      let i = all_at g e transit fs h (all_behind (f.residents ++ f.line) (among fs) k) in
      record { transit = i.transit; among = all-append (f.residents ++ f.line) (among (happens_at g e transit fs).fabrics) (all_before (f.residents ++ f.line) (among fs) k) i.among }

  all_changes : (f : Point → Point) → ((p : Point) → P p → P (f p)) → (t : ℕ) (w : Several) (q : Option Point) → AllOver w → AllOver (changes t f w q)
  all_changes f k t w None h = h
  all_changes f k t w (Some p) h =
      elim (not (is_some (ended p))) as (λ b. AllOver (cond b (record w { transit = changed t f w.transit }) w)) [ true ↦ record { transit = all_changed f k t w.transit h.transit; among = h.among } | false ↦ h ]

  all_step : (w : Several) (x : Step) → is_load x ≡ false → AllOver w → AllOver (step w x)
  all_step w (Load p) no_load h = cc
  all_step w (At g e) no_load h = all_at g e w.transit w.fabrics h.transit h.among
  all_step w (Save t name) no_load h = all_changes (kept name) (s.keep name) t w (first_of t w.transit) h
  all_step w (Stop t) no_load h = all_changes stopped s.stop t w (first_of t w.transit) h

  -- ---- lists of steps

  loaded_before : (xs : List Step) (ps : List Point) → All (loaded_after ps xs) → All ps
  loaded_before [] ps h = h
  loaded_before (Load p ∷ xs) ps h =
      let i = loaded_before xs (if is_some (first_of p.number ps) then ps else ps ++ p ∷ []) h in
      at_load p ps (is_some (first_of p.number ps)) i
    where
      at_load : (p : Point) (ps : List Point) (b : Bool) → All (cond b ps (ps ++ p ∷ [])) → All ps
      at_load p ps true h = h
      at_load p ps false h = all_before ps (p ∷ []) h
  loaded_before (x ∷ xs) ps h = loaded_before xs ps h

  -- one that is loaded is so where it wasn't there
  all_loaded : (w : Several) (p : Point) (b : Bool) → (b ≡ false → P p) → AllOver w → AllOver (cond b w (record w { transit = w.transit ++ p ∷ [] }))
  all_loaded w p true k h = h
  all_loaded w p false k h = record { transit = all_more w.transit p h.transit (k refl); among = h.among }

  is_last : (p : Point) (ps : List Point) (b : Bool) → b ≡ false → All (cond b ps (ps ++ p ∷ [])) → P p
  is_last p ps true e h = cc
  is_last p ps false e h = (all_behind ps (p ∷ []) h).0

  going_on : (xs : List Step) (w : Several) (ps : List Point) → Alike (everyone_in w) ps → AllOver w → All (loaded_after ps xs) → AllOver (run xs w)
  going_on [] w ps a h l = h
  going_on (Load p ∷ xs) w ps a h l =
      let there = is_some (first_of p.number ps) in
      let next = cond there ps (ps ++ p ∷ []) in
      let same = there_alike p.number (everyone_in w) ps a in
      let new : is_some (first_of p.number (everyone_in w)) ≡ false → P p = λ e. is_last p ps there (sym same ∙ e) (loaded_before xs next l) in
      going_on xs (loads w p) next (alike_loaded w p ps a) (all_loaded w p (is_some (first_of p.number (everyone_in w))) new h) l
  going_on (x ∷ xs) w ps a h l = going_on xs (step w x) ps (alike_behind w x ps refl a) (all_step w x refl h) l

  nobody_there : (cs : List Cost) → All (among (map empty_of cs))
  nobody_there [] = tt
  nobody_there (c ∷ cs) = nobody_there cs

  pub always : (cs : List Cost) (steps : List Step) → All (loaded steps) → All (everyone_in (run steps (empty cs)))
  always cs steps l =
      let w = run steps (empty cs) in
      let h = going_on steps (empty cs) [] (alike_first cs) (record { transit = tt; among = nobody_there cs }) l in
      all-append w.transit (among w.fabrics) h.transit h.among

-- ---- runs

departed_runs : (why : Why) (p : Point) → IsRun p → IsRun (departed why p)
departed_runs (Move fabric) p h = h
departed_runs (Ended end) p h = h

served_runs : RunsOn → (p : Point) (b : Bool) → at_trap (table_of (run_in p).flat) p.stage ≡ b → IsRun p → IsRun (cond b (called p) (saved p))
served_runs on p true e h = on.call (run_in p) (order_in p) p.acts p.stage h e
served_runs on p false e h = h

pub runs_keep : RunsOn → Keeps IsRun
runs_keep on = record {
  cycle = λ holding p e h. let g = can_go holding p e in on.cycle (run_in p) (order_in p) p.acts p.stage h g.on g.no_call;
  serve = λ p h. served_runs on p (at_trap (table_of (run_in p).flat) p.stage) refl h;
  depart = departed_runs;
  keep = λ name p h. h;
  stop = λ p h. h;
}

pub always_run : RunsOn → (cs : List Cost) (steps : List Step) → AreRuns (loaded steps) → AreRuns (everyone_in (run steps (empty cs)))
always_run on = always IsRun (runs_keep on)
