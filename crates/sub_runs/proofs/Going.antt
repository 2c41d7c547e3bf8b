-- Event by event, a run goes as the one that is resumed from its snapshot, once this one is behind it.
use Rattle.std.proofs.Common.{◌≡◌, ℕ, ◌+◌, Bool, true, false, List, [], ◌∷◌, Option, Some, None, refl, sym, ◌∙◌, ap, subst, arith}
use Rattle.std.specs.Prelude.{⊤, if◌then◌else◌, filter}
use Rattle.std.specs.List.{AllByRecursion}
use Rattle.std.proofs.lemmas.List.Elements.{recursion_from_All}
use Rattle.vl_sites.specs.vl_base.specs.declared.files.File.{File}
use Rattle.vl_sites.specs.vl_design.specs.declared.design.ProcKind.{ProcKind}
use Rattle.vl_sites.specs.vl_design.specs.Syntax.{Proc, Flat}
use Rattle.vl_sites.specs.vl_design.specs.State.{State, counted}
use Rattle.vl_sites.specs.vl_design.specs.Functions.{scope_of}
use Rattle.vl_sites.specs.vl_design.specs.Queue.{Queue, Phase, Wave, Ended, Updated, first_pending, first_done, with_updates, moved, next_phase, next_pending, next_event, next, is_rise, is_fall}
use Rattle.vl_sites.specs.vl_design.specs.Alone.{Settles, rests, goes, blocks, falls, risen}
use Rattle.vl_sites.specs.Answers.{asks_before, AsksBehindCalls}
use Rattle.vl_sites.specs.Behind.{IsBehind}
use Rattle.vl_sites.proofs.Doing.{exec_behind}

-- no process of the list hangs on the answer before it
abbrev pub AskNone : List Proc → Type 0
AskNone ps = AllByRecursion (λ (p : Proc). asks_before p.body ≡ false) ps

abbrev pub OfPhase : Phase → Type 0
OfPhase (Wave ps) = AskNone ps
OfPhase Ended = ⊤
OfPhase Updated = ⊤

-- the queue of a whole run, and of one that is resumed from it: with the same to do, which hangs on no answer before it
pub record Follows (first : State) (b a : Queue) : Type 0 where
  pub state : IsBehind first b.state a.state
  pub phase : a.phase ≡ b.phase
  pub ahead : a.ahead ≡ b.ahead
  pub pending : a.pending ≡ b.pending
  pub waves : OfPhase b.phase
  pub later : AllByRecursion AskNone b.ahead

module _ (first : State) where
  abbrev pub IfFollows : Option Queue → Option Queue → Type 0
  IfFollows None None = ⊤
  IfFollows None (Some a) = ⊥
  IfFollows (Some b) None = ⊥
  IfFollows (Some b) (Some a) = Follows first b a

  one_more : (n : ℕ) → first.count + n + 1 ≡ first.count + (n + 1)
  one_more n = omega arith

  counted_behind : (s t : State) → IsBehind first s t → IsBehind first (counted s) (counted t)
  counted_behind s t h = record {
    values = h.values;
    later = h.later;
    printed = h.printed;
    table = h.table;
    saves = h.saves;
    ticks = h.ticks;
    finished = h.finished;
    count = ap (λ n. n + 1) h.count ∙ one_more s.count;
  }

  -- ---- processes of a list

  abbrev FirstAsks : Option Proc → Type 0
  FirstAsks None = ⊤
  FirstAsks (Some p) = asks_before p.body ≡ false

  first_asks : (ps : List Proc) → AskNone ps → (bs : List Bool) → FirstAsks (first_pending ps bs)
  first_asks [] h bs = tt
  first_asks (p ∷ ps) h [] = tt
  first_asks (p ∷ ps) h (true ∷ bs) = h.0
  first_asks (p ∷ ps) h (false ∷ bs) = first_asks ps h.1 bs

  blocks_ask : (k : ProcKind → Bool) (ps : List Proc) → AskNone ps → AskNone (blocks k ps)
  blocks_ask k [] h = tt
  blocks_ask k (p ∷ ps) h = at (k p.kind) (blocks_ask k ps h.1)
    where
      at : (b : Bool) → AskNone (blocks k ps) → AskNone (if b then p ∷ filter (λ (x : Proc). k x.kind) ps else filter (λ (x : Proc). k x.kind) ps)
      at true g = (h.0, g)
      at false g = g

  falls_ask : (ps : List Proc) → AskNone ps → AllByRecursion AskNone (falls ps)
  falls_ask [] h = tt
  falls_ask (p ∷ ps) h = (h, tt)

  module _ (d : Flat) (files : List File) (asks : AsksBehindCalls d) where
    all_ask : AskNone d.procs
    all_ask = recursion_from_All (λ (p : Proc). asks_before p.body ≡ false) d.procs asks.procs

    -- ---- one event

    moved_follow : (b : Queue) (t s' t' : State) (phase : Phase) (pending : List Bool) → IsBehind first b.state t → IsBehind first s' t' → OfPhase phase → AllByRecursion AskNone b.ahead →
        Follows first (moved (scope_of d files) d.procs b s' phase pending) (moved (scope_of d files) d.procs (record b { state = t }) t' phase pending)
    moved_follow b t s' t' phase pending h k w l = record {
      state = k;
      phase = refl;
      ahead = refl;
      pending = rw (h.values, k.values) refl;
      waves = w;
      later = l;
    }

    updates_behind : (s t : State) → IsBehind first s t → IsBehind first (counted (with_updates d.rows s)) (counted (with_updates d.rows t))
    updates_behind s t h = counted_behind _ _ (record {
      values = rw (h.values, h.later) refl;
      later = refl;
      printed = h.printed;
      table = h.table;
      saves = h.saves;
      ticks = h.ticks;
      finished = h.finished;
      count = h.count;
    })

    module _ (b : Queue) (t : State) (h : IsBehind first b.state t) (later : AllByRecursion AskNone b.ahead) where
      abbrev a : Queue
      a = record b { state = t }

      phase_follows : (phase : Phase) (ahead : List (List Proc)) → AllByRecursion AskNone ahead → IfFollows (next_phase d files b phase ahead) (next_phase d files a phase ahead)
      phase_follows (Wave ps) ahead l = tt
      phase_follows Ended ahead l = moved_follow b t _ _ Updated b.pending h (updates_behind b.state t h) tt later
      phase_follows Updated [] l = tt
      phase_follows Updated (w ∷ ws) l = record { state = h; phase = refl; ahead = refl; pending = refl; waves = l.0; later = l.1 }

      pending_follows : OfPhase b.phase → (o : Option Proc) → FirstAsks o → IfFollows (next_pending d files b o) (next_pending d files a o)
      pending_follows w None f = phase_follows b.phase b.ahead later
      pending_follows w (Some p) f = moved_follow b t _ _ b.phase (first_done b.pending) h (exec_behind (scope_of d files) p.body first b.state t f h) w later

      event_follows : OfPhase b.phase → (phase : Phase) → OfPhase phase → IfFollows (next_event d files b phase) (next_event d files a phase)
      event_follows w (Wave []) g = record { state = counted_behind b.state t h; phase = refl; ahead = refl; pending = refl; waves = tt; later = later }
      event_follows w (Wave (p ∷ ps)) g = moved_follow b t _ _ (Wave ps) b.pending h (exec_behind (scope_of d files) p.body first b.state t g.0 h) g.1 later
      event_follows w Ended g = pending_follows w (first_pending d.procs b.pending) (first_asks d.procs all_ask b.pending)
      event_follows w Updated g = pending_follows w (first_pending d.procs b.pending) (first_asks d.procs all_ask b.pending)

    same_queue : (b a : Queue) → Follows first b a → a ≡ record b { state = a.state }
    same_queue b a f =
        ap (λ x. record a { phase = x }) f.phase
        ∙ (ap (λ x. record a { phase = b.phase; ahead = x }) f.ahead
        ∙ ap (λ x. record a { phase = b.phase; ahead = b.ahead; pending = x }) f.pending)

    next_follows : (b a : Queue) → Follows first b a → IfFollows (next d files b) (next d files a)
    next_follows b a f =
        subst (λ z. IfFollows (next d files b) (next d files z)) (sym (same_queue b a f))
        (at b.state.finished a.state.finished f.state.finished _ _ (event_follows b a.state f.state f.later f.waves b.phase f.waves))
      where
        at : (i j : Bool) → j ≡ i → (x y : Option Queue) → IfFollows x y → IfFollows (if i then None else x) (if j then None else y)
        at true true e x y h = tt
        at false false e x y h = h
        at true false e x y h = let z : ⊥ = cc in absurd z
        at false true e x y h = let z : ⊥ = cc in absurd z

    -- ---- to where both settle

    pub record Settled (b a : Queue) : Type 0 where
      pub r : Queue
      pub settles : Settles d files b r
      pub follows : Follows first r a

    none_follows : (x : Option Queue) → IfFollows x None → x ≡ None
    none_follows None h = refl
    none_follows (Some b) h = absurd h

    some_follows : (x : Option Queue) (a : Queue) → IfFollows x (Some a) → (b : Queue) × (x ≡ Some b) × Follows first b a
    some_follows None a h = absurd h
    some_follows (Some b) a h = (b, refl, h)

    pub settles_follow : {a z : Queue} → Settles d files a z → (b : Queue) → Follows first b a → Settled b z
    settles_follow (rests {q = a} e) b f =
        let n : next d files b ≡ None = none_follows (next d files b) (subst (IfFollows (next d files b)) e (next_follows b a f)) in
        record { r = b; settles = rests n; follows = f }
    settles_follow (goes {q = a} {r = x} e s) b f =
        let n = some_follows (next d files b) x (subst (IfFollows (next d files b)) e (next_follows b a f)) in
        let m = settles_follow s n.0 n.2 in
        record { r = m.r; settles = goes n.1 m.settles; follows = m.follows }

    -- ---- a tick begins

    abbrev up : Queue → Queue
    up q = record q {
      state = record (q.state) { ticks = q.state.ticks + 1; saves = [] };
      phase = Wave (blocks is_rise d.procs);
      ahead = falls (blocks is_fall d.procs);
    }

    -- where the same is pending, and what is saved does not matter
    up_follows : (b a : Queue) → IsBehind first (record (b.state) { saves = [] }) (record (a.state) { saves = [] }) → a.pending ≡ b.pending → Follows first (up b) (up a)
    up_follows b a h e = record {
      state = record {
        values = h.values;
        later = h.later;
        printed = h.printed;
        table = h.table;
        saves = refl;
        ticks = ap (λ n. n + 1) h.ticks;
        finished = h.finished;
        count = h.count;
      };
      phase = refl;
      ahead = refl;
      pending = e;
      waves = blocks_ask is_rise d.procs all_ask;
      later = falls_ask (blocks is_fall d.procs) (blocks_ask is_fall d.procs all_ask);
    }

    unsaved : {s t : State} → IsBehind first s t → IsBehind first (record s { saves = [] }) (record t { saves = [] })
    unsaved h = record { values = h.values; later = h.later; printed = h.printed; table = h.table; saves = refl; ticks = h.ticks; finished = h.finished; count = h.count }

    risen_is : (q : Queue) → q.state.finished ≡ false → risen d q ≡ up q
    risen_is q f = ap (λ x. if x then q else up q) f

    pub alive_follow : (b a : Queue) → b.state.finished ≡ false → IsBehind first (record (b.state) { saves = [] }) (record (a.state) { saves = [] }) → a.pending ≡ b.pending → Follows first (risen d b) (risen d a)
    alive_follow b a f h e =
        let x : Follows first (up b) (up a) = up_follows b a h e in
        let g : a.state.finished ≡ false = h.finished ∙ f in
        rw (risen_is b f, risen_is a g) x

    pub risen_follows : (b a : Queue) → Follows first b a → Follows first (risen d b) (risen d a)
    risen_follows b a f = at b.state.finished a.state.finished f.state.finished
      where
        at : (i j : Bool) → j ≡ i → Follows first (if i then b else up b) (if j then a else up a)
        at true true e = f
        at false false e = up_follows b a (unsaved f.state) f.pending
        at true false e = let z : ⊥ = cc in absurd z
        at false true e = let z : ⊥ = cc in absurd z
