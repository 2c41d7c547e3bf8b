-- Behind an update no further one is pending; and serving a call is its act.
use Rattle.std.proofs.Common.{◌≡◌, ℕ, false, List, [], Option, Some, None, refl, sym, ◌∙◌, ap, subst}
use Rattle.vl_paths.specs.vl_base.specs.declared.files.File.{File}
use Rattle.vl_paths.specs.vl_design.specs.Syntax.{Task, Stm, Flat}
use Rattle.vl_paths.specs.vl_design.specs.Tasks.{called}
use Rattle.vl_paths.specs.vl_design.specs.Functions.{scope_of}
use Rattle.vl_paths.specs.vl_design.specs.Queue.{Queue, Updated, updates_done}
use Rattle.vl_paths.specs.vl_design.specs.Snapshots.{Snapshot}
use Rattle.vl_paths.specs.vl_design.specs.Alone.{Origin, first_queue}
use Rattle.vl_paths.specs.vl_design.specs.Acts as act
use Rattle.vl_paths.specs.vl_design.specs.Acts.{Point, Between, Inside, entered, Reached, Completes, Calls, Chooses, reach, Calms, calm, Did, of_wave, updates, Begins, from_nothing, from_snapshot, After, acts, Before}
use Rattle.vl_paths.specs.vl_design.specs.Laws.{StartsFine, IsUnrolled}
use Rattle.vl_paths.specs.vl_design.proofs.OncePerAct.{calms_once}
use Rattle.vl_runs.specs.Checked.{IsChecked, IsOrder}
use Rattle.vl_runs.specs.Runs.{Comes, begins}
use Rattle.vl_runs.proofs.Standing.{between, update_comes}
use Rattle.vl_runs.proofs.Onward.{checked_quiet, one_pass}

calms_phase : {d : Flat} {files : List File} {q r : Queue} → Calms d files q r → r.phase ≡ q.phase
calms_phase (calm e) = refl
calms_phase (act.goes e c) = calms_phase c

module _ (o : Origin) (checked : IsChecked o.flat) (u : IsUnrolled o.flat) (order : List ℕ) (ord : IsOrder o.flat order) (fine : StartsFine o.flat.rows o.resume) where
  -- evaluations leave pending updates as they are
  calms_later : (q r : Queue) → Comes o q → q.state.finished ≡ false → Calms o.flat o.files q r → r.state.later ≡ q.state.later
  calms_later q r c f s =
      let x = one_pass o checked u order ord fine q c f in
      ap (λ z. z.state.later) (calms_once o.flat o.files s x.0.calms)

  did_none : (m : Reached) (p : Point) (q : Queue) → Did o.flat o.files m p → p ≡ Between q → q.phase ≡ Updated → q.state.later ≡ []
  did_none (Completes r) p q d e ph =
      let same : Between q ≡ Between d.0 = sym e ∙ d.2 in
      let eq : q ≡ d.0 = cc in
      let i = calms_phase d.1 in
      let j = ap (λ z. z.phase) eq in
      let z : ⊥ = cc in absurd z
  did_none (Calls task r rest from committed) p q d e ph = let z : ⊥ = cc in absurd z
  did_none (Chooses r rest from committed) p q d e ph = let z : ⊥ = cc in absurd z

  begins_none : (s : Option Snapshot) (p : Point) (q : Queue) → o.resume ≡ s → Begins o s p → p ≡ Between q → q.phase ≡ Updated → q.state.later ≡ []
  begins_none None p q i from_nothing e ph = let z : ⊥ = cc in absurd z
  begins_none (Some s) p q i (from_snapshot {q = r} c) e ph =
      let eq : q ≡ r = cc in
      ap (λ z. z.state.later) eq ∙ calms_later (first_queue o (Some s)) r (subst (λ z. Comes o (first_queue o z)) i begins) refl c

  behind_update : {c : ℕ} {p : Point} → After o c p → (q : Queue) → p ≡ Between q → q.phase ≡ Updated → q.state.later ≡ []
  behind_update {p = p} (act.begins b) q e ph = begins_none o.resume p q refl b e ph
  behind_update (acts {p' = p'} x f (of_wave left h d)) q e ph = did_none _ p' q d e ph
  behind_update (acts x f (updates {q = w} {r = r} h c)) q e ph =
      let eq : q ≡ r = cc in
      let quiet = checked_quiet o.flat checked in
      let n = between o u quiet w x in
      ap (λ z. z.state.later) eq ∙ calms_later (updates_done o.flat o.files w) r (update_comes o u quiet w x h) n.1 c

  pub none_later : {c : ℕ} (q : Queue) → After o c (Between q) → q.phase ≡ Updated → q.state.later ≡ []
  none_later q a ph = behind_update a q refl ph

pub serves : {o : Origin} {c : ℕ} {task : Task} (q : Queue) (rest : List Stm) (from committed : List (List ℕ)) → Before o c task (Inside q rest from committed)
    → After o c (Inside (record q { state = called (scope_of o.flat o.files) task q.state }) rest from committed)
serves {o} q rest from committed b = at b refl
  where
    at : {c : ℕ} {task : Task} {x : Point} → Before o c task x → x ≡ Inside q rest from committed → After o c (Inside (record q { state = called (scope_of o.flat o.files) task q.state }) rest from committed)
    at (act.before {p = p} task r more old first a n) e =
        let y : Point = Inside (record r { state = called (scope_of o.flat o.files) task r.state }) more old first in
        let z : After o _ y = acts a n.alive (of_wave n.left n.in_wave (subst (λ m. Did o.flat o.files m y) (sym n.next) refl)) in
        let same : (r ≡ q) × (more ≡ rest) × (old ≡ from) × (first ≡ committed) = (cc, cc, cc, cc) in
        rw (sym same.0, sym same.1, sym same.2, sym same.3) z
