-- Loop variables and clocks are 0 at each boundary, where no process writes them.
use Rattle.std.proofs.Common.{◌≡◌, ℕ, Bool, true, false, List, Option, Some, None, refl, sym, ◌∙◌, subst}
use Rattle.std.specs.Prelude.{slice_get}
use Rattle.vl_sites.specs.vl_base.specs.declared.files.File.{File}
use Rattle.vl_sites.specs.vl_design.specs.Syntax.{Items, NoItems, Labelled, Default, Flat}
use Rattle.vl_sites.specs.vl_design.specs.Value.{words_of}
use Rattle.vl_sites.specs.vl_design.specs.State.{State}
use Rattle.vl_sites.specs.vl_design.specs.Functions.{scope_of, zeros}
use Rattle.vl_sites.specs.vl_design.specs.Queue.{Queue}
use Rattle.vl_sites.specs.vl_design.specs.Snapshots.{Snapshot}
use Rattle.vl_sites.specs.vl_design.specs.Alone.{Origin, Boundary, first_queue}
use Rattle.vl_sites.specs.vl_design.specs.Reads.{stm_writes, items_write}
use Rattle.vl_sites.specs.vl_design.proofs.Unread.{or_false}
use Rattle.vl_sites.specs.vl_design.proofs.Kept.{OfUpdates, exec_keeps, updates_keep}
use Rattle.vl_sites.specs.vl_design.proofs.Acting.{Bodies, IsHereditary, EventSteps}
use Rattle.vl_sites.specs.vl_design.proofs.Lasting.{boundary_lasts}
use Rattle.vl_runs.proofs.Delayed.{exec_stays}
use Rattle.sub_runs.proofs.Calls.{call_later, call_keeps}
use Rattle.vl_sites.specs.Others.{other_at, WritesNoOthers}
use Rattle.sub_runs.proofs.Kept.{other_unkept, unkept_words}

module _ (p : ℕ → Bool) where
  writes_bodies : (items : Items) → items_write p items ≡ false → Bodies (λ a. stm_writes p a ≡ false) items
  writes_bodies NoItems h = tt
  writes_bodies (Labelled es a others) h = let g = or_false (stm_writes p a) (items_write p others) h in (g.0, writes_bodies others g.1)
  writes_bodies (Default a others) h = let g = or_false (stm_writes p a) (items_write p others) h in (g.0, writes_bodies others g.1)

  -- parts of a statement write what it writes
  writes_parts : IsHereditary (λ a. stm_writes p a ≡ false)
  writes_parts = record {
    none = refl;
    parts = λ a b h. or_false (stm_writes p a) (stm_writes p b) h;
    branches = λ t a b h. or_false (stm_writes p a) (stm_writes p b) h;
    items = λ e items h. writes_bodies items h;
  }

-- they are 0, and no pending update is of one
pub record OthersAreZero (d : Flat) (s : State) : Type 0 where
  pub words : (k : ℕ) → other_at d.rows k ≡ true → words_of s.values k ≡ words_of (zeros d.rows) k
  pub later : OfUpdates (other_at d.rows) s.later

module _ (d : Flat) (files : List File) (w : WritesNoOthers d) where
  abbrev Keeps : State → State → Type 0
  Keeps s t = OthersAreZero d s → OthersAreZero d t

  events_keep : EventSteps d files (λ a. stm_writes (other_at d.rows) a ≡ false) Keeps
  events_keep = record {
    kind = writes_parts (other_at d.rows);
    procs = w.procs;
    same = λ s z. z;
    next = λ a b c f g z. g (f z);
    execs = λ a h s z. record {
      words = λ k m. sym (exec_keeps (other_at d.rows) k m (scope_of d files) a h s) ∙ z.words k m;
      later = exec_stays (other_at d.rows) (scope_of d files) a h s z.later;
    };
    counts = λ s z. record { words = z.words; later = z.later };
    calls = λ task h s z. record {
      words = λ k m. sym (call_keeps (other_at d.rows) k m (scope_of d files) task s h) ∙ z.words k m;
      later = subst (OfUpdates (other_at d.rows)) (sym (call_later (scope_of d files) task s)) z.later;
    };
    updates = λ s z. record { words = λ k m. sym (updates_keep (other_at d.rows) k m d.rows s.later z.later s.values) ∙ z.words k m; later = tt };
    rises = λ s z. record { words = z.words; later = z.later };
  }

first_zero : (o : Origin) (s : Option Snapshot) → OthersAreZero o.flat (first_queue o s).state
first_zero o None = record { words = λ k m. refl; later = tt }
first_zero o (Some s) = record { words = λ k m. unkept_words o.flat.rows s.words k (other_unkept (slice_get o.flat.rows k) m); later = tt }

pub others_zero : (o : Origin) → WritesNoOthers o.flat → {k : ℕ} {q : Queue} → Boundary o k q → OthersAreZero o.flat q.state
others_zero o w x = boundary_lasts o (λ a. stm_writes (other_at o.flat.rows) a ≡ false) (OthersAreZero o.flat) (events_keep o.flat o.files w) (first_zero o o.resume) x
