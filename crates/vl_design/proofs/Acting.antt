-- What holds between the states before and after each part of an event holds before and after an act, where the processes
-- have statements of a kind.
use Rattle.std.proofs.Common.{◌≡◌, ℕ, ◌+◌, ◌≤◌, ◌<◌, nat_le, Bool, true, false, List, [], ◌∷◌, Option, Some, None, refl, sym, ap, subst, arith}
use Rattle.std.specs.Prelude.{⊤, ◌||◌, if◌then◌else◌, All}
use Rattle.std.proofs.lemmas.Bool.{leb-true, leb-false}
use Rattle.std.proofs.lemmas.List.Elements.{All-nil, All-cons, All-head, All-tail, All-filter}
use Rattle.vl_base.specs.declared.files.File.{File}
use Rattle.vl_design.specs.declared.design.Form.{Form}
use Rattle.vl_design.specs.declared.design.ProcKind.{ProcKind}
use Rattle.vl_design.specs.Syntax.{Exp, Task, Stm, Nop, Then, If, Case, For, Repeat, Set, Later, Sys, Items, NoItems, Labelled, Default, Proc, Flat}
use Rattle.vl_design.specs.Width.{Scope}
use Rattle.vl_design.specs.Value.{Sample}
use Rattle.vl_design.specs.State.{State, sample, counted}
use Rattle.vl_design.specs.Tasks.{called}
use Rattle.vl_design.specs.Exec.{exec, some_match, is_true, holds, items_hold, asks}
use Rattle.vl_design.specs.Functions.{scope_of}
use Rattle.vl_design.specs.Queue.{Queue, Phase, Wave, Ended, Updated, first_pending, with_updates, is_init, is_rise, is_fall}
use Rattle.vl_design.specs.Snapshots.{Snapshot}
use Rattle.vl_design.specs.Alone.{Origin, risen, blocks, falls, first_queue}
use Rattle.vl_design.specs.Acts as act
use Rattle.vl_design.specs.Acts.{Pause, Through, AtCall, AtChoice, default_body, chosen_body, branch_of, upto, uptos, Point, Between, Inside, state_at, queue_at, entered, entered_by, Reached, Calls, Chooses, with_block, by_pause, through_blocks, reach, Calms, calm, Did, Act, of_wave, updates, Begins, from_nothing, from_snapshot, After, begins, acts, NextIs, Before, before}
use Rattle.vl_design.specs.Laws.{Grows}
use Rattle.vl_design.proofs.Running.{some_is}
use Rattle.vl_design.proofs.OncePerAct.{after_once}
use Rattle.vl_design.proofs.Growing.{grows_same, grows_on, exec_grows, call_grows}

-- ---- statements of a kind

abbrev pub Bodies : (Stm → Type 0) → Items → Type 0
Bodies P NoItems = ⊤
Bodies P (Labelled es a others) = P a × Bodies P others
Bodies P (Default a others) = P a × Bodies P others

-- the parts of a statement of the kind are of the kind
pub record IsHereditary (P : Stm → Type 0) : Type 0 where
  pub none : P Nop
  pub parts : (a b : Stm) → P (Then a b) → P a × P b
  pub branches : (t : Exp) (a b : Stm) → P (If t a b) → P a × P b
  pub items : (e : Exp) (items : Items) → P (Case e items) → Bodies P items

all_bodies : (items : Items) → Bodies (λ a. ⊤) items
all_bodies NoItems = tt
all_bodies (Labelled es a others) = (tt, all_bodies others)
all_bodies (Default a others) = (tt, all_bodies others)

-- every statement is of the kind of all
pub any_parts : IsHereditary (λ a. ⊤)
any_parts = record { none = tt; parts = λ a b h. (tt, tt); branches = λ t a b h. (tt, tt); items = λ e items h. all_bodies items }

abbrev pub left_of : Phase → List Proc
left_of (Wave left) = left
left_of Ended = []
left_of Updated = []

-- the processes of a design are of the kind P, and R holds between the states before and after each part of an event
pub record EventSteps (d : Flat) (files : List File) (P : Stm → Type 0) (R : State → State → Type 0) : Type 0 where
  pub kind : IsHereditary P
  pub procs : All (λ p. P p.body) d.procs
  pub same : (s : State) → R s s
  pub next : (a b c : State) → R a b → R b c → R a c
  pub execs : (a : Stm) → P a → (s : State) → R s (exec (scope_of d files) a s)
  pub counts : (s : State) → R s (counted s)
  pub calls : (task : Task) → P (Sys task) → (s : State) → R s (called (scope_of d files) task s)
  pub updates : (s : State) → R s (with_updates d.rows s)
  pub rises : (s : State) → R s (record s { ticks = s.ticks + 1; saves = [] })

module _ (d : Flat) (files : List File) (P : Stm → Type 0) (R : State → State → Type 0) (r : EventSteps d files P R) where
  abbrev pub IsOf : Proc → Type 0
  IsOf p = P p.body

  -- the processes left, and those of the waves ahead, are of the kind
  pub record Has (q : Queue) : Type 0 where
    pub left : All IsOf (left_of q.phase)
    pub ahead : All (All IsOf) q.ahead

  -- from the state b
  abbrev PauseLeads : State → Pause → Type 0
  PauseLeads b (Through s) = R b s
  PauseLeads b (AtCall task s rest) = R b s × P (Sys task) × All P rest
  PauseLeads b (AtChoice s rest) = R b s × All P rest

  abbrev pub ReachLeads : State → Reached → Type 0
  ReachLeads b (act.Completes q) = R b q.state × All (All IsOf) q.ahead
  ReachLeads b (Calls task q rest from committed) = R b q.state × P (Sys task) × All P rest × Has q
  ReachLeads b (Chooses q rest from committed) = R b q.state × All P rest × Has q

  abbrev pub PointHas : Point → Type 0
  PointHas (Between q) = Has q
  PointHas (Inside q rest from committed) = Has q × All P rest

  -- ---- in a block

  either_has : (b : Bool) (x y : Stm) → P x → P y → P (if b then x else y)
  either_has true x y f g = f
  either_has false x y f g = g

  default_has : (items : Items) → Bodies P items → P (default_body items)
  default_has NoItems h = r.kind.none
  default_has (Labelled es a others) h = default_has others h.1
  default_has (Default a others) h = h.0

  chosen_has : (scope : Scope) (s : Sample) (v : ℕ) (c : Form) (items : Items) (other : Stm) → Bodies P items → P other → P (chosen_body scope s v c items other)
  chosen_has scope s v c NoItems other h g = g
  chosen_has scope s v c (Labelled es a others) other h g = either_has (some_match scope s c v es) a _ h.0 (chosen_has scope s v c others other h.1 g)
  chosen_has scope s v c (Default a others) other h g = chosen_has scope s v c others other h.1 g

  either_leads : (b : State) (h : Bool) (s : State) (rest : List Stm) (p : Pause) → R b s → All P rest → PauseLeads b p → PauseLeads b (if h then AtChoice s rest else p)
  either_leads b true s rest p f w g = (f, w)
  either_leads b false s rest p f w g = g

  upto_leads : (b : State) (x : Stm) (rest : List Stm) (go : State → Pause) (s : State) → P x → All P rest → ((t : State) → R b t → PauseLeads b (go t)) → R b s → PauseLeads b (upto (scope_of d files) x rest go s)
  upto_leads b Nop rest go s h w g f = g s f
  upto_leads b (Then x y) rest go s h w g f =
      let k = r.kind.parts x y h in
      upto_leads b x (y ∷ rest) (upto (scope_of d files) y rest go) s k.0 (All-cons P y rest k.1 w) (λ t i. upto_leads b y rest go t k.1 w g i) f
  upto_leads b (If t x y) rest go s h w g f =
      let k = r.kind.branches t x y h in
      either_leads b (asks t || (holds (scope_of d files) s x || holds (scope_of d files) s y)) s _ _ f (All-cons P _ rest (either_has (is_true (scope_of d files) t s) x y k.0 k.1) w)
      (g _ (r.next _ _ _ f (r.execs (If t x y) h s)))
  upto_leads b (Case e items) rest go s h w g f =
      let k = r.kind.items e items h in
      either_leads b (items_hold (scope_of d files) s items) s _ _ f (All-cons P _ rest (chosen_has (scope_of d files) (sample s) _ _ items _ k (default_has items k)) w)
      (g _ (r.next _ _ _ f (r.execs (Case e items) h s)))
  upto_leads b (For k begin test step x) rest go s h w g f = g _ (r.next _ _ _ f (r.execs (For k begin test step x) h s))
  upto_leads b (Repeat n x) rest go s h w g f = g _ (r.next _ _ _ f (r.execs (Repeat n x) h s))
  upto_leads b (Set t e) rest go s h w g f = g _ (r.next _ _ _ f (r.execs (Set t e) h s))
  upto_leads b (Later t e) rest go s h w g f = g _ (r.next _ _ _ f (r.execs (Later t e) h s))
  upto_leads b (Sys task) rest go s h w g f = (f, h, w)

  uptos_lead : (b : State) (xs : List Stm) (s : State) → All P xs → R b s → PauseLeads b (uptos (scope_of d files) xs s)
  uptos_lead b [] s w f = f
  uptos_lead b (x ∷ xs) s w f = upto_leads b x xs (uptos (scope_of d files) xs) s (All-head P x xs w) (All-tail P x xs w) (λ t g. uptos_lead b xs t (All-tail P x xs w) g) f

  pause_leads : (b : State) (q : Queue) (from committed : List (List ℕ)) (left : List Proc) (go : Queue → Reached) (p : Pause) → All IsOf left → All (All IsOf) q.ahead
      → ((z : Queue) → All (All IsOf) z.ahead → R b z.state → ReachLeads b (go z)) → PauseLeads b p → ReachLeads b (by_pause d files q from committed left go p)
  pause_leads b q from committed left go (Through s) l a g f = g (with_block d files q from s) a f
  pause_leads b q from committed left go (AtCall task s rest) l a g f = (f.0, f.1, f.2, record { left = l; ahead = a })
  pause_leads b q from committed left go (AtChoice s rest) l a g f = (f.0, f.1, record { left = l; ahead = a })

  blocks_lead : (b : State) (committed : List (List ℕ)) (left : List Proc) (q : Queue) → All IsOf left → All (All IsOf) q.ahead → R b q.state → ReachLeads b (through_blocks d files committed left q)
  blocks_lead b committed [] q l a f = (f, a)
  blocks_lead b committed (x ∷ xs) q l a f =
      let m = All-tail IsOf x xs l in
      pause_leads b q q.state.values committed xs (through_blocks d files committed xs) _ m a (λ z a g. blocks_lead b committed xs z m a g)
      (uptos_lead b (x.body ∷ []) q.state (All-cons P x.body [] (All-head IsOf x xs l) (All-nil P)) f)

  pub reach_leads : (b : State) (p : Point) (left : List Proc) → (queue_at p).phase ≡ Wave left → PointHas p → R b (state_at p) → ReachLeads b (reach d files p left)
  reach_leads b (Between q) left e h f = blocks_lead b q.state.values left q (subst (λ x. All IsOf (left_of x)) e h.left) h.ahead f
  reach_leads b (Inside q rest from committed) left e h f =
      let l = subst (λ x. All IsOf (left_of x)) e h.0.left in
      pause_leads b q from committed left (through_blocks d files committed left) _ l h.0.ahead (λ z a g. blocks_lead b committed left z l a g) (uptos_lead b rest q.state h.1 f)

  -- ---- over the queue

  pub pending_has : (xs : List Proc) (bs : List Bool) (p : Proc) → All IsOf xs → first_pending xs bs ≡ Some p → IsOf p
  pending_has [] bs p h e = let z : ⊥ = cc in absurd z
  pending_has (x ∷ xs) [] p h e = let z : ⊥ = cc in absurd z
  pending_has (x ∷ xs) (true ∷ bs) p h e = subst IsOf (some_is e) (All-head IsOf x xs h)
  pending_has (x ∷ xs) (false ∷ bs) p h e = pending_has xs bs p (All-tail IsOf x xs h) e

  pub evaluated_has : (q z : Queue) → z.phase ≡ q.phase → z.ahead ≡ q.ahead → Has q → Has z
  evaluated_has q z e f h = record { left = subst (λ x. All IsOf (left_of x)) (sym e) h.left; ahead = subst (All (All IsOf)) (sym f) h.ahead }

  pub calms_lead : {q z : Queue} → Calms d files q z → Has q → R q.state z.state × Has z
  calms_lead {q} (calm e) h = (r.same q.state, h)
  calms_lead {q} {z} (act.goes {p = p} e c) h =
      let x = calms_lead c (evaluated_has q _ refl refl h) in
      (r.next _ _ _ (r.execs p.body (pending_has d.procs q.pending p r.procs e) q.state) x.0, x.1)

  pub blocks_have : (k : ProcKind → Bool) → All IsOf (blocks k d.procs)
  blocks_have k = All-filter (λ x. k x.kind) IsOf d.procs r.procs

  falls_have : (ps : List Proc) → All IsOf ps → All (All IsOf) (falls ps)
  falls_have [] h = All-nil (All IsOf)
  falls_have (p ∷ ps) h = All-cons (All IsOf) (p ∷ ps) [] h (All-nil (All IsOf))

  pub risen_leads : (q : Queue) → Has q → R q.state (risen d q).state × Has (risen d q)
  risen_leads q h = at q.state.finished
    where
      z : Queue
      z = record q { state = record (q.state) { ticks = q.state.ticks + 1; saves = [] }; phase = Wave (blocks is_rise d.procs); ahead = falls (blocks is_fall d.procs) }

      at : (b : Bool) → R q.state (if b then q else z).state × Has (if b then q else z)
      at true = (r.same q.state, h)
      at false = (r.rises q.state, record { left = blocks_have is_rise; ahead = falls_have _ (blocks_have is_fall) })

  entered_by_leads : (q : Queue) (phase : Phase) (ahead : List (List Proc)) → q.ahead ≡ ahead → Has q → R q.state (entered_by d files q phase ahead).state × Has (entered_by d files q phase ahead)
  entered_by_leads q (Wave left) ahead e h = (r.same q.state, h)
  entered_by_leads q Ended ahead e h = (r.same q.state, h)
  entered_by_leads q Updated [] e h = risen_leads q h
  entered_by_leads q Updated (w ∷ ws) e h =
      let v : All (All IsOf) (w ∷ ws) = subst (All (All IsOf)) e h.ahead in
      (r.same q.state, record { left = All-head (All IsOf) w ws v; ahead = All-tail (All IsOf) w ws v })

  pub entered_leads : (p : Point) → PointHas p → R (state_at p) (state_at (entered d files p)) × PointHas (entered d files p)
  entered_leads (Between q) h = entered_by_leads q q.phase q.ahead refl h
  entered_leads (Inside q rest from committed) h = (r.same q.state, h)

  -- ---- acts

  pub record Led (b : State) (p : Point) : Type 0 where
    pub leads : R b (state_at p)
    pub has : PointHas p

  did_leads : (b : State) (m : Reached) (p : Point) → ReachLeads b m → Did d files m p → Led b p
  did_leads b (act.Completes q) p f g =
      let x = calms_lead g.1 (record { left = All-nil IsOf; ahead = f.1 }) in
      subst (Led b) (sym g.2) (record { leads = r.next _ _ _ (r.next _ _ _ f.0 (r.counts q.state)) x.0; has = x.1 })
  did_leads b (Calls task q rest from committed) p f g =
      subst (Led b) (sym g) (record { leads = r.next _ _ _ f.0 (r.calls task f.1 q.state); has = (record { left = f.3.left; ahead = f.3.ahead }, f.2) })
  did_leads b (Chooses q rest from committed) p f g =
      subst (Led b) (sym g) (record { leads = r.next _ _ _ f.0 (r.counts q.state); has = (record { left = f.2.left; ahead = f.2.ahead }, f.1) })

  -- how far a wave goes from a point, with its next wave begun
  pub wave_leads : (p : Point) (left : List Proc) → (queue_at (entered d files p)).phase ≡ Wave left → PointHas p → ReachLeads (state_at p) (reach d files (entered d files p) left)
  wave_leads p left e h = let x = entered_leads p h in reach_leads (state_at p) (entered d files p) left e x.1 x.0

  pub act_leads : {p p' : Point} → Act d files p p' → PointHas p → Led (state_at p) p'
  act_leads (of_wave {p = p} {p' = p'} left e x) h = did_leads (state_at p) _ p' (wave_leads p left e h) x
  act_leads (updates {q = q} e c) h =
      let x = calms_lead c (record { left = All-nil IsOf; ahead = h.ahead }) in
      record { leads = r.next _ _ _ (r.next _ _ _ (r.updates q.state) (r.counts _)) x.0; has = x.1 }

module _ (o : Origin) (P : Stm → Type 0) (R : State → State → Type 0) (r : EventSteps o.flat o.files P R) where
  pub begun_has : (s : Option Snapshot) → Has o.flat o.files P R r (first_queue o s)
  begun_has None = record { left = blocks_have o.flat o.files P R r is_init; ahead = All-nil (All (λ (p : Proc). P p.body)) }
  begun_has (Some s) = record { left = All-nil (λ (p : Proc). P p.body); ahead = All-nil (All (λ (p : Proc). P p.body)) }

  begins_have : {s : Option Snapshot} {p : Point} → Begins o s p → PointHas o.flat o.files P R r p
  begins_have from_nothing = begun_has None
  begins_have (from_snapshot {s = s} c) = (calms_lead o.flat o.files P R r c (begun_has (Some s))).1

  pub after_has : {c : ℕ} {p : Point} → After o c p → PointHas o.flat o.files P R r p
  after_has (begins b) = begins_have b
  after_has (acts x f a) = (act_leads o.flat o.files P R r a (after_has x)).has

  same_leads : {j k : ℕ} {p z : Point} → j ≡ k → After o j p → After o k z → R (state_at p) (state_at z)
  same_leads {j} {k} {p} {z} e x y =
      let same : p ≡ z = after_once o (subst (λ i. After o i p) e x) y in
      subst (λ w. R (state_at p) (state_at w)) same (r.same (state_at p))

  pub afters_lead : {j k : ℕ} {p z : Point} → After o j p → After o k z → j ≤ k → R (state_at p) (state_at z)
  afters_lead {j} x (begins b) h = same_leads (omega arith) x (begins b)
  afters_lead {j} {k} {p} {z} x (acts {c = i} {p = w} y f a) h = at (nat_le j i) refl (λ g. afters_lead x y g)
    where
      at : (t : Bool) → nat_le j i ≡ t → (j ≤ i → R (state_at p) (state_at w)) → R (state_at p) (state_at z)
      at true e g = r.next _ _ _ (g (leb-true j i e)) (act_leads o.flat o.files P R r a (after_has y)).leads
      at false e g = let m : i < j = leb-false j i e in same_leads (omega arith) x (acts y f a)

-- ---- printed text

pub events_grow : (d : Flat) (files : List File) → EventSteps d files (λ a. ⊤) Grows
events_grow d files = record {
  kind = any_parts;
  procs = λ i p l. tt;
  same = λ s. grows_same s s refl;
  next = grows_on;
  execs = λ a h. exec_grows (scope_of d files) a;
  counts = λ s. grows_same s _ refl;
  calls = λ task h. call_grows (scope_of d files) task;
  updates = λ s. grows_same s _ refl;
  rises = λ s. grows_same s _ refl;
}

pub acts_grow : {o : Origin} {j k : ℕ} {p r : Point} → After o j p → After o k r → j ≤ k → Grows (state_at p) (state_at r)
acts_grow {o} x y h = afters_lead o (λ a. ⊤) Grows (events_grow o.flat o.files) x y h

-- ---- the effect of a call leads from right before it to right after it

called_after : {o : Origin} {p z : Point} {task : Task} {q : Queue} {rest : List Stm} {from committed : List (List ℕ)} → NextIs o p task q rest from committed → Act o.flat o.files p z → state_at z ≡ called (scope_of o.flat o.files) task q.state
called_after {o} {p} {z} {task} {q} {rest} {from} {committed} n (of_wave left e x) =
    let i = n.in_wave in
    let same : left ≡ n.left = cc in
    let y = subst (λ l. Did o.flat o.files (reach o.flat o.files (entered o.flat o.files p) l) z) same x in
    ap state_at (subst (λ m. Did o.flat o.files m z) n.next y)
called_after n (updates {q = q} e c) = let i = rw e at n.in_wave in let z : ⊥ = cc in absurd z

pub before_after : {o : Origin} {c : ℕ} {task : Task} {b p : Point} → Before o c task b → After o c p → state_at p ≡ called (scope_of o.flat o.files) task (state_at b)
before_after {o} (before {p = p} task q rest from committed x n) (acts {p = w} {p' = z} y f a) =
    let same : w ≡ p = after_once o y x in
    called_after n (subst (λ v. Act o.flat o.files v z) same a)
