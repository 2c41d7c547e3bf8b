-- What a shell stands for, from what its engine is at and what it keeps.
use Rattle.std.proofs.Common.{◌≡◌, ℕ, suc, ◌+◌, ◌≤◌, Bool, true, false, cond, List, [], ◌∷◌, ◌++◌, map, drop, refl, sym, ap, ◌∙◌, subst, arith, Option, Some}
use Rattle.std.specs.Prelude.{slice_get}
use Rattle.std.specs.Arc.{arc_value}
use Rattle.std.specs.List.{AllByRecursion}
use Rattle.std.specs.declared.alloc.Global.{Global}
use Rattle.std.specs.declared.vec.Vec.{Vec}
use Rattle.vl_design.specs.vl_base.specs.Files.{IsFileSet}
use Rattle.vl_design.specs.declared.design.End.{End}
use Rattle.vl_design.specs.declared.design.End.TheVariants.{Stopped}
use Rattle.vl_design.specs.Alone.{Origin, Boundary, Errand, FreeSave, Keeps, due_at, free_names, reason_at, save_names}
use Rattle.vl_design.specs.Laws.{IsFine, StartsOpen}
use Rattle.vl_design.specs.Queue.{Queue}
use Rattle.vl_design.specs.Snapshots.{Saved, saved_over, snapshot_of}
use Rattle.vl_design.proofs.Fine.{boundary_fine}
use Rattle.ten_core.specs.cell_form.specs.Data.{BankData}
use Rattle.ten_core.specs.sub_nodes.specs.Code.{table_of}
use Rattle.ten_core.specs.sub_nodes.specs.Cycles.{Stage, rises}
use Rattle.ten_core.specs.sub_nodes.specs.Stands.{at_trap}
use Rattle.ten_core.specs.declared.engine.Engine.{Engine}
use Rattle.ten_core.specs.Runs.{after_cycle, after_call, IsAt, Runs}
use Rattle.ten_core.specs.Tenants.{origin_of, tenant_of}
use Rattle.ten_core.specs.Holding.{CanBeHeld}
use Rattle.ten_core.specs.Begins.{Begins}
use Rattle.ten_plan.specs.declared.held.FreeSave as declared-free
use Rattle.ten_plan.specs.declared.held.Saved as declared
use Rattle.ten_plan.specs.Held.{free_of, saved_of}
use Rattle.ten_plan.specs.Plans.{AreBefore, AreDone, IsPlan}
use Rattle.ten_core.specs.Running.{is_at_rest, IsRunning}
use Rattle.ten_shell.specs.declared.shell.Shell.{Shell}
use Rattle.ten_shell.specs.Keeping as keeping
use Rattle.ten_shell.specs.Keeping.{KeepsAt, KeepsOn}
use Rattle.ten_shell.specs.Leaving.{end_in, resting}
use Rattle.ten_shell.specs.Shells.{errands_left, flat_in, free_in, is_at_boundary, is_left, left_at, left_in, rests_in, run_of, saved_in, CanRunOn, KeepsElsewhere, KeepsIn, KeepsThere, MayCycle, Rests, StandsFor}
use Rattle.ten_shell.proofs.Kept as kept
use Rattle.ten_shell.proofs.Tests.{alive-there, is-there, is-elsewhere, is-over, or-left, or-right, other, trap-low, behind-nil, none-left, rests-both, rests-none}

-- ---- what the laws below say

abbrev pub DoneLaw : Type 0
DoneLaw = (errands : List Errand) (k n : ℕ) → AreBefore errands k n → AreDone errands k n

abbrev pub SavesLaw : Type 0
SavesLaw = (errands : List Errand) (k n : ℕ) → AreBefore errands k n → save_names k (drop n errands) ≡ save_names k errands

abbrev pub BoundaryLaw : Type 0
BoundaryLaw = (o : Origin) (order : List ℕ) (c : ℕ) (i : Stage) → IsRunning o order c i → is_at_rest o.flat i ≡ true →
    (q : Queue) × Boundary o i.state.ticks q × (q.state ≡ i.state)

abbrev pub RisesLaw : Type 0
RisesLaw = (o : Origin) (order : List ℕ) (c : ℕ) (i : Stage) → IsRunning o order c i → rises (slice_get (table_of o.flat).nodes i.node) ≡ true →
    (after_cycle o order i).state.ticks ≡ i.state.ticks + 1

abbrev pub TicksLaw : Type 0
TicksLaw = (o : Origin) (order : List ℕ) (c : ℕ) (i : Stage) → IsRunning o order c i → rises (slice_get (table_of o.flat).nodes i.node) ≡ false →
    (after_cycle o order i).state.ticks ≡ i.state.ticks

abbrev pub OneLaw : Type 0
OneLaw = (o : Origin) (k : ℕ) (a b : Queue) → Boundary o k a → Boundary o k b → a ≡ b

-- ---- a shell that has come to a stage

pub record Comes (o : Origin) (s : Shell) (b : BankData) (n : ℕ) (i : Stage) : Type 0 where
  pub order : List ℕ
  pub running : IsRunning o order n i
  pub at : IsAt o order (tenant_of s.engine b) n i
  pub held : CanBeHeld o.flat
  pub plan : IsPlan o.plan
  pub files : IsFileSet o.files
  pub opens : StartsOpen o.files o.resume
  pub free : AllByRecursion (λ f. f.tick ≤ i.state.ticks) (free_in s)
  pub keeps : KeepsOn o (free_in s) i.state.ticks (map (saved_of o.flat.rows) s.saved.items)
  pub given : s.given ≡ 0
  pub done : AreBefore o.plan.errands i.state.ticks s.done

module _ (done-law : DoneLaw) (saves-law : SavesLaw) (s : Shell) (b : BankData) (n : ℕ) (i : Stage) (r : Comes (run_of s) s b n i) where
  abbrev es : List Errand
  es = (run_of s).plan.errands

  -- what is left to be made where it comes to a boundary
  pub left-due : i.state.finished ≡ false → left_in s ≡ due_at (run_of s).plan i.state.ticks i.state
  left-due f =
      ap (λ g. drop g s.engine.asked.items ++ errands_left s) r.given
      ∙ ap (λ xs. xs ++ errands_left s) r.at.asked
      ∙ ap (λ t. i.state.saves ++ save_names t (drop s.done es)) r.at.ticks
      ∙ ap (λ ns. i.state.saves ++ ns) (saves-law es i.state.ticks s.done r.done)
      ∙ sym (ap (λ x. cond x [] (i.state.saves ++ save_names i.state.ticks es)) f)

  keeps-in : (x : Bool) → is_at_boundary (flat_in s) i ≡ x → KeepsIn x s i
  keeps-in true e = record {
    keeps = kept.arrives (run_of s) (free_in s) i.state.ticks i.state (saved_in s) (left_in s) r.keeps (left-due (alive-there i.state.finished _ e));
    given = omega (arith, r.given);
    done = done-law es i.state.ticks s.done r.done;
  }
  keeps-in false e = record { keeps = r.keeps; given = r.given; done = r.done }

  pub stands : StandsFor s b n i
  stands = record {
    order = r.order;
    running = r.running;
    at = r.at;
    held = r.held;
    plan = r.plan;
    files = r.files;
    opens = r.opens;
    free = r.free;
    keeps = keeps-in (is_at_boundary (flat_in s) i) refl;
  }

-- ---- a shell that stands for a stage

module _ (s : Shell) (b : BankData) (n : ℕ) (i : Stage) (w : StandsFor s b n i) where
  abbrev o : Origin
  o = run_of s

  abbrev up : Bool
  up = rises (slice_get (table_of (flat_in s)).nodes i.node)

  pub there : is_at_boundary (flat_in s) i ≡ true → KeepsThere s i
  there e = subst (λ x. KeepsIn x s i) e w.keeps

  pub elsewhere : is_at_boundary (flat_in s) i ≡ false → KeepsElsewhere s i
  elsewhere e = subst (λ x. KeepsIn x s i) e w.keeps

  pub done-there : is_at_boundary (flat_in s) i ≡ true → AreDone o.plan.errands s.engine.ticks s.done
  done-there e = subst (λ t. AreDone o.plan.errands t s.done) (sym w.at.ticks) (there e).done

  pub none-there : left_in s ≡ [] → errands_left s ≡ []
  none-there e = behind-nil (drop s.given s.engine.asked.items) (errands_left s) e

  pub alive-in : MayCycle s i → i.state.finished ≡ false
  alive-in m = alive-there i.state.finished _ m.goes_on

  pub may-be-there : MayCycle s i → up ≡ true → is_at_boundary (flat_in s) i ≡ true
  may-be-there m e = is-there i.state.finished up (alive-in m) e

  pub rest-there : Rests s i → i.state.finished ≡ false → is_at_boundary (flat_in s) i ≡ true
  rest-there r e = is-there i.state.finished up e (other i.state.finished up r.rests e)

  -- it rests
  pub rests-here : rests_in s i ≡ true → Rests s i
  rests-here e = record {
    rests = rests-both i.state.finished up (is_left (left_in s)) e;
    saved = λ f. none-left (left_in s) (rests-none i.state.finished up (is_left (left_in s)) e f);
  }

  -- its engine is somewhere in a run
  pub is-run : Runs (tenant_of s.engine b)
  is-run = record { origin = o; order = w.order; acts = n; stage = i; at = w.at; tame = w.running.tame }

  -- what is kept where it rests
  pub rest-keeps : BoundaryLaw → Rests s i → (f : Bool) → i.state.finished ≡ f → Keeps o (free_in s) i.state.ticks (saved_in s)
  rest-keeps law r true e =
      let q = law o w.order n i w.running r.rests in
      kept.finished-kept o (free_in s) i.state.ticks i.state (saved_in s) q.0 (elsewhere (is-over i.state.finished up e)).keeps q.1 q.2 e
  rest-keeps law r false e =
      let q = law o w.order n i w.running r.rests in
      kept.all-made o (free_in s) i.state.ticks i.state (saved_in s) q.0 (subst (λ l. KeepsAt o (free_in s) i.state.ticks i.state (saved_in s) l) (r.saved e) (there (rest-there r e)).keeps) q.1 q.2

  -- the run alone is in that state there
  pub same-state : BoundaryLaw → OneLaw → Rests s i → (q : Queue) → Boundary o i.state.ticks q → q.state ≡ i.state
  same-state law one r q at =
      let p = law o w.order n i w.running r.rests in
      ap (λ x. x.state) (one o i.state.ticks q p.0 at p.1) ∙ p.2

  -- why it has ended there, as what tells it of a boundary says
  pub end-is : BoundaryLaw → (end : Option End) → (r : Rests s i)
      → ((q : Queue) → Boundary o i.state.ticks q → end ≡ cond s.stopped (Some Stopped) (reason_at o.plan i.state.ticks q)) → end ≡ end_in o.plan s.stopped i.state
  end-is law end r tells =
      let q = law o w.order n i w.running r.rests in
      tells q.0 q.1 ∙ ap (λ st. cond s.stopped (Some Stopped) (reason_at o.plan i.state.ticks (resting st))) q.2

  -- its values are as its signals have them
  pub fine-in : BoundaryLaw → (f : Bool) → i.state.finished ≡ f → IsFine o.flat.rows i.state.values
  fine-in law false e = (w.running.tame.tidy n i w.at.comes w.at.late e).fine
  fine-in law true e =
      let q = law o w.order n i w.running (or-left i.state.finished up e) in
      subst (λ st. IsFine o.flat.rows st.values) q.2 (boundary_fine w.running.start q.1)

  -- ---- steps

  module _ (done-law : DoneLaw) (saves-law : SavesLaw) (e : Engine) (g d : ℕ) (x : Bool) (a : BankData) (m : ℕ) (j : Stage) where
    abbrev with : Shell
    with = record s { engine = e; given = g; done = d; moved = x }

    comes-on : e.origin ≡ s.engine.origin → IsRunning o w.order m j → IsAt o w.order (tenant_of e a) m j → i.state.ticks ≤ j.state.ticks
        → KeepsOn o (free_in s) j.state.ticks (saved_in s) → g ≡ 0 → AreBefore o.plan.errands j.state.ticks d → Comes (run_of with) with a m j
    comes-on same running at later keeps none done =
        subst (λ y. Comes y with a m j) (ap (λ y. origin_of (arc_value y)) (sym same)) (record {
          order = w.order;
          running = running;
          at = at;
          held = w.held;
          plan = w.plan;
          files = w.files;
          opens = w.opens;
          free = kept.weaker (λ (f : FreeSave). f.tick ≤ i.state.ticks) (λ (f : FreeSave). f.tick ≤ j.state.ticks) (λ f le. omega (arith, le, later)) (free_in s) w.free;
          keeps = keeps;
          given = none;
          done = done;
        })

    -- it stands there
    goes-on : Comes (run_of with) with a m j → StandsFor with a m j
    goes-on r = stands done-law saves-law with a m j r

    -- with all that is due there left to be made
    left-on : e.origin ≡ s.engine.origin → Comes (run_of with) with a m j → is_at_boundary (flat_in s) j ≡ true → left_in with ≡ left_at o j
    left-on same r up =
        left-due done-law saves-law with a m j r (alive-there j.state.finished _ up)
        ∙ ap (λ y. left_at (origin_of (arc_value y)) j) same

  module _ (law : BoundaryLaw) (rises-law : RisesLaw) (ticks-law : TicksLaw) (m : MayCycle s i) where
    abbrev j : Stage
    j = after_cycle o w.order i

    later : (x : Bool) → up ≡ x → i.state.ticks ≤ j.state.ticks
    later true e = let h = rises-law o w.order n i w.running e in omega (arith, h)
    later false e = let h = ticks-law o w.order n i w.running e in omega (arith, h)

    keeps-next : (x : Bool) → up ≡ x → KeepsOn o (free_in s) j.state.ticks (saved_in s)
    keeps-next true e =
        let here = may-be-there m e in
        let r : Rests s i = record { rests = or-right i.state.finished up e; saved = λ f. m.saved here } in
        subst (λ k. KeepsOn o (free_in s) k (saved_in s)) (sym (rises-law o w.order n i w.running e))
        (kept.goes-on o (free_in s) i.state.ticks (saved_in s) (rest-keeps law r false (alive-in m)) w.free)
    keeps-next false e =
        subst (λ k. KeepsOn o (free_in s) k (saved_in s)) (sym (ticks-law o w.order n i w.running e))
        (elsewhere (is-elsewhere i.state.finished up e)).keeps

    module _ (done-law : DoneLaw) (saves-law : SavesLaw) (e : Engine) (d : ℕ) (a : BankData) (c : ℕ) (same : e.origin ≡ s.engine.origin)
        (running : IsRunning o w.order c j) (at : IsAt o w.order (tenant_of e a) c j) (done : AreBefore o.plan.errands j.state.ticks d) where
      cycles : Comes (run_of (record s { engine = e; given = 0; done = d; moved = false })) (record s { engine = e; given = 0; done = d; moved = false }) a c j
      cycles = comes-on done-law saves-law e 0 d false a c j same running at (later up refl) (keeps-next up refl) refl done

      pub cycled : StandsFor (record s { engine = e; given = 0; done = d; moved = false }) a c j
      cycled = goes-on done-law saves-law e 0 d false a c j cycles

      pub cycled-left : is_at_boundary (flat_in s) j ≡ true → left_in (record s { engine = e; given = 0; done = d; moved = false }) ≡ left_at o j
      cycled-left there = left-on done-law saves-law e 0 d false a c j same cycles there

  module _ (done-law : DoneLaw) (saves-law : SavesLaw) (ticks : (after_call o i).state.ticks ≡ i.state.ticks) (trap : at_trap (table_of (flat_in s)) i ≡ true) (e : Engine) (a : BankData)
      (same : e.origin ≡ s.engine.origin) (running : IsRunning o w.order (suc n) (after_call o i)) (at : IsAt o w.order (tenant_of e a) (suc n) (after_call o i)) where
    calls : Comes (run_of (record s { engine = e })) (record s { engine = e }) a (suc n) (after_call o i)
    calls =
        let k = elsewhere (is-elsewhere i.state.finished up (trap-low _ trap)) in
        comes-on done-law saves-law e s.given s.done s.moved a (suc n) (after_call o i) same running at (omega (arith, ticks))
        (subst (λ t. KeepsOn o (free_in s) t (saved_in s)) (sym ticks) k.keeps) k.given (subst (λ t. AreBefore o.plan.errands t s.done) (sym ticks) k.done)

    pub called : StandsFor (record s { engine = e }) a (suc n) (after_call o i)
    called = goes-on done-law saves-law e s.given s.done s.moved a (suc n) (after_call o i) calls

    pub called-left : is_at_boundary (flat_in s) (after_call o i) ≡ true → left_in (record s { engine = e }) ≡ left_at o (after_call o i)
    called-left there = left-on done-law saves-law e s.given s.done s.moved a (suc n) (after_call o i) same calls there

  -- ---- snapshots

  module _ (v : Vec declared.Saved Global) where
    -- one is made besides
    pub one-besides : (f : Vec declared-free.FreeSave Global) (x : declared-free.FreeSave) → is_at_boundary (flat_in s) i ≡ true → left_in s ≡ [] → x.tick ≡ i.state.ticks
        → map (saved_of o.flat.rows) v.items ≡ saved_over (saved_in s) (record { name = x.name; snapshot = snapshot_of o.flat.rows i.state })
        → map free_of f.items ≡ free_in s ++ free_of x ∷ [] → StandsFor (record s { saved = v; free = f }) b n i
    one-besides f x e left tick over more =
        let t : Shell = record s { saved = v; free = f } in
        record {
          order = w.order;
          running = w.running;
          at = w.at;
          held = w.held;
          plan = w.plan;
          files = w.files;
          opens = w.opens;
          free = subst (λ fs. AllByRecursion (λ (y : FreeSave). y.tick ≤ i.state.ticks) fs) (sym more)
              (kept.all-and (λ (y : FreeSave). y.tick ≤ i.state.ticks) (free_in s) (free_of x) w.free (omega (arith, tick)));
          keeps = subst (λ x. KeepsIn x t i) (sym e) (record {
            keeps = subst (λ l. KeepsAt o (free_in t) i.state.ticks i.state (saved_in t) l) (sym left)
                (subst (λ fs. KeepsAt o fs i.state.ticks i.state (saved_in t) []) (sym more)
                (subst (λ ys. KeepsAt o (free_in s ++ free_of x ∷ []) i.state.ticks i.state ys []) (sym over)
                (kept.besides-made o (free_in s) i.state.ticks i.state (saved_in s) (free_of x) tick
                (subst (λ l. KeepsAt o (free_in s) i.state.ticks i.state (saved_in s) l) left (there e).keeps))));
            given = (there e).given;
            done = (there e).done;
          });
        }

-- ---- a shell whose run has begun

module _ (done-law : DoneLaw) (saves-law : SavesLaw) (number : ℕ) (e : Engine) (v : Vec declared.Saved Global) (f : Vec declared-free.FreeSave Global) (d : ℕ) (b : BankData)
    (none : v.items ≡ []) (no-free : f.items ≡ []) (g : Begins (arc_value e.origin) e b) (x : CanRunOn (arc_value e.origin)) where
  abbrev start : Origin
  start = origin_of (arc_value e.origin)

  abbrev fresh : Shell
  fresh = record { number = number; engine = e; saved = v; given = 0; done = d; free = f; moved = false; stopped = false }

  runs : IsRunning start (arc_value e.origin).image.order.items g.acts g.stage
  runs = record {
    tame = x.tame;
    unrolled = x.begins.unrolled;
    checked = x.begins.checked;
    ordered = x.begins.ordered;
    start = x.start;
    few = x.begins.image.few;
    budget = x.plan.budget;
    comes = g.at.comes;
    late = g.at.late;
    since = omega (arith, g.ticks);
    within = omega (arith, g.ticks, x.within);
    went_on = λ k le lt. absurd (omega (arith, le, lt, g.ticks));
  }

  kept-none : (saved : List Saved) (free : List FreeSave) → saved ≡ [] → free ≡ [] → KeepsOn start free g.stage.state.ticks saved
  kept-none saved free h k =
      subst (λ ss. KeepsOn start free g.stage.state.ticks ss) (sym h)
      (record { kept = keeping.at_first g.ticks; none = ap (λ fs. free_names g.stage.state.ticks fs) k })

  pub begins : AreBefore start.plan.errands e.ticks d → StandsFor fresh b g.acts g.stage
  begins before =
      stands done-law saves-law fresh b g.acts g.stage (record {
        order = (arc_value e.origin).image.order.items;
        running = runs;
        at = g.at;
        held = x.begins.held;
        plan = x.plan;
        files = x.files;
        opens = x.opens;
        free = subst (λ fs. AllByRecursion (λ (y : FreeSave). y.tick ≤ g.stage.state.ticks) (map free_of fs)) (sym no-free) tt;
        keeps = kept-none (saved_in fresh) (free_in fresh) (ap (λ ss. map (saved_of start.flat.rows) ss) none) (ap (λ fs. map free_of fs) no-free);
        given = refl;
        done = subst (λ k. AreBefore start.plan.errands k d) g.at.ticks before;
      })
