-- What statements that write none of some signals leave as it was.
use Rattle.std.proofs.Common.{◌≡◌, ℕ, Bool, true, false, List, [], ◌∷◌, refl, ◌∙◌}
use Rattle.std.specs.Prelude.{All, if◌then◌else◌}
use Rattle.std.proofs.lemmas.List.Elements.{All-nil, All-cons, All-head, All-tail}
use Rattle.vl_sites.specs.vl_base.specs.declared.files.File.{File}
use Rattle.vl_sites.specs.vl_design.specs.Syntax.{Stm, Items, NoItems, Labelled, Default, Flat}
use Rattle.vl_sites.specs.vl_design.specs.Width.{Scope}
use Rattle.vl_sites.specs.vl_design.specs.Value.{words_of}
use Rattle.vl_sites.specs.vl_design.specs.State.{State, Update}
use Rattle.vl_sites.specs.vl_design.specs.Exec.{exec}
use Rattle.vl_sites.specs.vl_design.specs.Functions.{scope_of}
use Rattle.vl_sites.specs.vl_design.specs.Reads.{stm_writes, items_write}
use Rattle.vl_sites.specs.vl_design.specs.Laws.{IsFine}
use Rattle.vl_sites.specs.vl_design.proofs.Unread.{or_false}
use Rattle.vl_sites.specs.vl_design.proofs.Kept.{OfUpdates, exec_keeps}
use Rattle.vl_sites.specs.vl_design.proofs.Acting.{Bodies, IsHereditary}
use Rattle.vl_runs.proofs.Delayed.{exec_stays}
use Rattle.vl_runs.proofs.Fine.{exec_fine}
use Rattle.sub_nodes.specs.Nodes.{Segment}
use Rattle.sub_nodes.specs.Cycles.{ticked, execs, segment_done}

module _ (p : ℕ → Bool) where
  abbrev pub WritesNone : Stm → Type 0
  WritesNone a = stm_writes p a ≡ false

  none_bodies : (items : Items) → items_write p items ≡ false → Bodies WritesNone items
  none_bodies NoItems h = tt
  none_bodies (Labelled es a others) h = let g = or_false (stm_writes p a) (items_write p others) h in (g.0, none_bodies others g.1)
  none_bodies (Default a others) h = let g = or_false (stm_writes p a) (items_write p others) h in (g.0, none_bodies others g.1)

  pub parts_write_none : IsHereditary WritesNone
  parts_write_none = record {
    none = refl;
    parts = λ a b h. or_false (stm_writes p a) (stm_writes p b) h;
    branches = λ t a b h. or_false (stm_writes p a) (stm_writes p b) h;
    items = λ e items h. none_bodies items h;
  }

  pub all_updates : (us : List Update) → All (λ u. p u.signal ≡ false) us → OfUpdates p us
  all_updates [] h = tt
  all_updates (u ∷ us) h = (All-head (λ (u : Update). p u.signal ≡ false) u us h, all_updates us (All-tail (λ (u : Update). p u.signal ≡ false) u us h))

  pub updates_all : (us : List Update) → OfUpdates p us → All (λ u. p u.signal ≡ false) us
  updates_all [] h = All-nil (λ (u : Update). p u.signal ≡ false)
  updates_all (u ∷ us) h = All-cons (λ (u : Update). p u.signal ≡ false) u us h.0 (updates_all us h.1)

  module _ (scope : Scope) where
    execs_keep : (k : ℕ) → p k ≡ true → (xs : List Stm) → All WritesNone xs → (s : State) → words_of s.values k ≡ words_of (execs scope xs s).values k
    execs_keep k m [] h s = refl
    execs_keep k m (a ∷ xs) h s = exec_keeps p k m scope a (All-head WritesNone a xs h) s ∙ execs_keep k m xs (All-tail WritesNone a xs h) (exec scope a s)

    execs_stay : (xs : List Stm) → All WritesNone xs → (s : State) → OfUpdates p s.later → OfUpdates p (execs scope xs s).later
    execs_stay [] h s f = f
    execs_stay (a ∷ xs) h s f = execs_stay xs (All-tail WritesNone a xs h) (exec scope a s) (exec_stays p scope a (All-head WritesNone a xs h) s f)

    pub segment_keeps : (k : ℕ) → p k ≡ true → (g : Segment) → All WritesNone g.statements → (s : State) → words_of s.values k ≡ words_of (segment_done scope g s).values k
    segment_keeps k m g h s = at g.rises
      where
        at : (b : Bool) → words_of s.values k ≡ words_of (execs scope g.statements (if b then ticked s else s)).values k
        at true = execs_keep k m g.statements h (ticked s)
        at false = execs_keep k m g.statements h s

    pub segment_stays : (g : Segment) → All WritesNone g.statements → (s : State) → OfUpdates p s.later → OfUpdates p (segment_done scope g s).later
    segment_stays g h s f = at g.rises
      where
        at : (b : Bool) → OfUpdates p (execs scope g.statements (if b then ticked s else s)).later
        at true = execs_stay g.statements h (ticked s) f
        at false = execs_stay g.statements h s f

module _ (d : Flat) (files : List File) where
  execs_fine : (xs : List Stm) (s : State) → IsFine d.rows s.values → IsFine d.rows (execs (scope_of d files) xs s).values
  execs_fine [] s f = f
  execs_fine (a ∷ xs) s f = execs_fine xs (exec (scope_of d files) a s) (exec_fine d files a s f)

  pub segment_fine : (g : Segment) (s : State) → IsFine d.rows s.values → IsFine d.rows (segment_done (scope_of d files) g s).values
  segment_fine g s f = at g.rises
    where
      at : (b : Bool) → IsFine d.rows (execs (scope_of d files) g.statements (if b then ticked s else s)).values
      at true = execs_fine g.statements (ticked s) f
      at false = execs_fine g.statements s f
