-- Statements one after another, and the rise before them.
use Rattle.std.proofs.Common.{◌≡◌, ℕ, ◌+◌, Bool, true, false, List, [], ◌∷◌, ◌++◌, Option, Some, None, refl, sym, ap, ◌∙◌, arith, subst, append-nil, append_assoc}
use Rattle.std.specs.Prelude.{if◌then◌else◌, Result, Ok, Err, OnOk}
use Rattle.vl_design.specs.vl_base.specs.declared.files.File.{File}
use Rattle.vl_design.specs.Exec.{exec}
use Rattle.vl_design.proofs.Returning.{exec_ticks}
use Rattle.vl_design.specs.Functions.{scope_of}
use Rattle.vl_design.specs.State.{State, sample}
use Rattle.vl_design.specs.Syntax.{Stm, Flat}
use Rattle.vl_design.specs.Width.{Names, Scope, names_of}
use Rattle.cell_emit.specs.cell_form.specs.Data.{ListData, BankData}
use Rattle.cell_emit.specs.cell_form.specs.Sound.{Shape}
use Rattle.cell_emit.specs.Slots.{held, AreSound, Longer, Nothing}
use Rattle.cell_emit.proofs.Frames.{held-stays, longer-grows, longer-same, longer-then, longer-weaken, grows-then}
use Rattle.cell_emit.specs.Envs.{Env, entry, Fits, HasMemories, Stands}
use Rattle.cell_emit.specs.Paths.{on, Does}
use Rattle.cell_emit.proofs.Staying.{keeps-same, keeps-then, memories-kept, sound-behind, is-slot-stays}
use Rattle.cell_emit.specs.Pendings.{PendingSlots, memories_of, ArePending, Pends}
use Rattle.cell_expr.specs.Counts.{stm_count, body_cells}
use Rattle.cell_emit.specs.vl_sites.specs.Stored.{stored_words}
use Rattle.ten_form.specs.Stores.{all_stored}
use Rattle.cell_emit.specs.Delays.{Leaves}
use Rattle.cell_emit.proofs.Keeping.{pending-stays, pends-stays}
use Rattle.ten_form.specs.sub_nodes.specs.Nodes.{Segment}
use Rattle.ten_form.specs.sub_nodes.specs.Cycles.{execs, segment_done, ticked}
use Rattle.cell_waves.proofs.Lengths.{longer-few}
use Rattle.cell_waves.specs.Rises.{Rises}
use Rattle.cell_states.specs.Cells.{stms_count}
use Rattle.cell_states.specs.Segments.{DoesAll, RisesWhere, DoesSegment}
use Rattle.ten_form.specs.sub_nodes.proofs.Steps.{execs_append as execs-more}

stored-more : (xs ys : List Stm) → all_stored (xs ++ ys) ≡ all_stored xs ++ all_stored ys
stored-more [] ys = refl
stored-more (a ∷ xs) ys = ap (λ (ms : List ℕ). stored_words a ++ ms) (stored-more xs ys) ∙ sym (append_assoc (stored_words a) (all_stored xs) (all_stored ys))

module _ (d : Flat) where
  abbrev names : Names
  names = names_of d

  count-more : (xs ys : List Stm) → stms_count d (xs ++ ys) ≡ stms_count d xs + stms_count d ys
  count-more [] ys = omega arith
  count-more (a ∷ xs) ys = (let e = count-more xs ys in omega (arith, e))

  pub all-none : (at : Env) (p : PendingSlots) (l : ListData) → Fits names l at → ArePending names l p → DoesAll d [] at at p p l l
  all-none at p l fits pending = record {
    longer = longer-same (HasMemories names at) l;
    fits = fits;
    keeps = keeps-same names at;
    pending = pending;
    many = refl;
    sites = sym (append-nil (memories_of p.sites));
    alive = λ files t h. h;
    does = λ files z b t sound alive st. st;
    later = λ files z b t sound alive st ps. ps;
  }

  -- a statement on the path that is always taken
  pub all-one : (a : Stm) (off : ℕ) (at at' : Env) (p p' : PendingSlots) (old new : ListData) → off ≡ at.here → Fits names old at →
      ((files : List File) → Does names (stm_count (body_cells d) a) (exec (scope_of d files) a) off at at' old new) → ((files : List File) → Leaves names (exec (scope_of d files) a) off at p p' old new) →
      memories_of p'.sites ≡ memories_of p.sites ++ stored_words a → DoesAll d (a ∷ []) at at' p p' old new
  all-one a off at at' p p' old new here fits does leaves sites = record {
    longer = longer-weaken (HasMemories names at) (HasMemories names at) (stm_count (body_cells d) a) (stm_count (body_cells d) a + 0) old new (λ s h. h) (omega arith) (does []).longer;
    fits = (does []).fits;
    keeps = (does []).keeps;
    pending = (leaves []).pending;
    many = (leaves []).many;
    sites = sites ∙ ap (λ (xs : List ℕ). memories_of p.sites ++ xs) (sym (append-nil (stored_words a)));
    alive = λ files t h. (does files).alive t h;
    does = λ files z b t sound alive st. subst (λ o. Stands names b new at' (sample (on o (exec (scope_of d files) a t) t))) (clear z b sound) ((does files).does z b t sound alive st);
    later = λ files z b t sound alive st ps. subst (λ o. Pends names b new p' (on o (exec (scope_of d files) a t) t).later) (clear z b sound) ((leaves files).later z b t sound alive st ps);
  }
    where
      clear : (z : Shape) (b : BankData) → AreSound z old → held b old off ≡ 0
      clear z b sound = ap (held b old) here ∙ fits.is_here z b sound

  pub all-then : (xs ys : List Stm) (at0 at1 at2 : Env) (p0 p1 p2 : PendingSlots) (l0 l1 l2 : ListData) → DoesAll d xs at0 at1 p0 p1 l0 l1 → DoesAll d ys at1 at2 p1 p2 l1 l2 → DoesAll d (xs ++ ys) at0 at2 p0 p2 l0 l2
  all-then xs ys at0 at1 at2 p0 p1 p2 l0 l1 l2 f g =
      let H = HasMemories names at0 in
      record {
        longer = subst (λ n. Longer H n l0 l2) (sym (count-more xs ys))
            (longer-then H (stms_count d xs) (stms_count d ys) l0 l1 l2 f.longer (longer-weaken (HasMemories names at1) H (stms_count d ys) (stms_count d ys) l1 l2 (λ s h. memories-kept names at0 at1 s f.keeps h) (omega arith) g.longer));
        fits = g.fits;
        keeps = keeps-then names at0 at1 at2 f.keeps g.keeps;
        pending = g.pending;
        many = g.many ∙ f.many;
        sites = g.sites ∙ (ap (λ (ms : List ℕ). ms ++ all_stored ys) f.sites
            ∙ (append_assoc (memories_of p0.sites) (all_stored xs) (all_stored ys) ∙ ap (λ (ms : List ℕ). memories_of p0.sites ++ ms) (sym (stored-more xs ys))));
        alive = λ files t h. subst (λ (s : State). s.finished ≡ false) (sym (execs-more (scope_of d files) xs ys t)) (g.alive files (execs (scope_of d files) xs t) (f.alive files t h));
        does = λ files z b t sound alive st.
            let behind = sound-behind names at0 (stms_count d xs) z l0 l1 f.longer sound in
            let t1 = execs (scope_of d files) xs t in
            subst (λ (s : State). Stands names b l2 at2 (sample s)) (sym (execs-more (scope_of d files) xs ys t)) (g.does files behind.shape b t1 behind.sound (f.alive files t alive) (f.does files z b t sound alive st));
        later = λ files z b t sound alive st ps.
            let behind = sound-behind names at0 (stms_count d xs) z l0 l1 f.longer sound in
            let t1 = execs (scope_of d files) xs t in
            subst (λ (s : State). Pends names b l2 p2 s.later) (sym (execs-more (scope_of d files) xs ys t))
            (g.later files behind.shape b t1 behind.sound (f.alive files t alive) (f.does files z b t sound alive st) (f.later files z b t sound alive st ps));
      }

  -- a segment before which the clock doesn't rise
  pub segment-still : (as' : List Stm) (at0 at1 : Env) (p0 p1 : PendingSlots) (l0 l1 : ListData) → DoesAll d as' at0 at1 p0 p1 l0 l1 → DoesSegment d (record { rises = false; statements = as' }) at0 at1 p0 p1 l0 l1 None
  segment-still as' at0 at1 p0 p1 l0 l1 f = record {
    grows = longer-grows (HasMemories names at0) (stms_count d as') l0 l1 f.longer;
    few = (let few = longer-few (HasMemories names at0) (stms_count d as') l0 l1 f.longer in omega (arith, few));
    sound = f.longer.sound;
    first = f.keeps.first;
    here = f.keeps.here;
    answer = f.keeps.answer;
    fits = f.fits;
    memories = f.keeps.memories;
    pending = f.pending;
    sites = f.sites;
    slot = tt;
    alive = f.alive;
    stands = λ files z b t sound alive few st. f.does files z b t sound alive st;
    later = λ files z b t sound alive few st ps. f.later files z b t sound alive st ps;
    counted = λ z b t sound few st. refl;
  }

  -- and one before which it rises
  pub segment-rising : (as' : List Stm) (ticks : ℕ) (at0 at1 at2 : Env) (p0 p1 : PendingSlots) (l0 l1 l2 : ListData) → Fits names l0 at0 → ArePending names l0 p0 → Rises at0 at1 l0 l1 ticks → DoesAll d as' at1 at2 p0 p1 l1 l2 →
      DoesSegment d (record { rises = true; statements = as' }) at0 at2 p0 p1 l0 l2 (Some ticks)
  segment-rising as' ticks at0 at1 at2 p0 p1 l0 l1 l2 fits pending r f =
      let g01 = longer-grows Nothing 4 l0 l1 r.longer in
      let g12 = longer-grows (HasMemories names at1) (stms_count d as') l1 l2 f.longer in
      let kept : (F : Env → Type 0) → F (record at0 { time = at1.time }) → F at1 = λ F h. subst F (sym r.kept) h in
      record {
        grows = grows-then l0 l1 l2 g01 g12;
        few = (let a = longer-few Nothing 4 l0 l1 r.longer in let b = longer-few (HasMemories names at1) (stms_count d as') l1 l2 f.longer in omega (arith, a, b));
        sound = λ z h sound. f.longer.sound z (kept (λ a. HasMemories names a z) h) (r.longer.sound z tt sound);
        first = f.keeps.first ∙ ap (λ (a : Env). a.first) r.kept;
        here = f.keeps.here ∙ ap (λ (a : Env). a.here) r.kept;
        answer = f.keeps.answer ∙ ap (λ (a : Env). a.answer) r.kept;
        fits = f.fits;
        memories = λ m h. f.keeps.memories m h ∙ ap (λ (a : Env). entry a m) r.kept;
        pending = f.pending;
        sites = f.sites;
        slot = is-slot-stays l1 l2 ticks 32 g12 r.slot;
        alive = λ files t h. f.alive files (ticked t) h;
        stands = λ files z b t sound alive few st. f.does files z b (ticked t) (r.longer.sound z tt sound) alive (r.stands names z b t sound fits st (few refl));
        later = λ files z b t sound alive few st ps.
            f.later files z b (ticked t) (r.longer.sound z tt sound) alive (r.stands names z b t sound fits st (few refl)) (pends-stays names b l0 l1 p0 t.later g01 pending ps);
        counted = λ z b t sound few st. held-stays b l1 l2 ticks g12 r.slot.there ∙ r.counted names z b t sound st (few refl);
      }

execs-ticks : (scope : Scope) (as' : List Stm) (s : State) → (execs scope as' s).ticks ≡ s.ticks
execs-ticks scope [] s = refl
execs-ticks scope (a ∷ rest) s = execs-ticks scope rest (exec scope a s) ∙ sym (exec_ticks scope a s)

-- the ticks behind a segment
pub segment-ticks : (scope : Scope) (g : Segment) (s : State) → (segment_done scope g s).ticks ≡ (if g.rises then s.ticks + 1 else s.ticks)
segment-ticks scope g s = of g.rises
  where
    of : (r : Bool) → (execs scope g.statements (if r then ticked s else s)).ticks ≡ (if r then s.ticks + 1 else s.ticks)
    of true = execs-ticks scope g.statements (ticked s)
    of false = execs-ticks scope g.statements s

-- three facts on what was done give a fourth
pub on-three : {T E P Q S R : Type 0} (r : Result T E) → OnOk r P → OnOk r Q → OnOk r S → (P → Q → S → R) → OnOk r R
on-three (Ok x) p q s f = f p q s
on-three (Err e) p q s f = tt

-- ---- a rise, where there is one, and what stays over it

module _ (d : Flat) (at at' : Env) (old new : ListData) (p : PendingSlots) where
  pub risen-fits : (rises : Bool) (ticks : Option ℕ) → RisesWhere rises at at' old new ticks → Fits (names_of d) old at → Fits (names_of d) new at'
  risen-fits true (Some r) h f = h.fits (names_of d) f
  risen-fits true None h f = absurd h
  risen-fits false ticks h f = subst (λ l. Fits (names_of d) l at') (sym h.1) (subst (Fits (names_of d) old) (sym h.0) f)

  pub risen-first : (rises : Bool) (ticks : Option ℕ) → RisesWhere rises at at' old new ticks → at'.first ≡ at.first
  risen-first true (Some r) h = ap (λ (a : Env). a.first) h.kept
  risen-first true None h = absurd h
  risen-first false ticks h = ap (λ (a : Env). a.first) h.0

  pub risen-pending : (rises : Bool) (ticks : Option ℕ) → RisesWhere rises at at' old new ticks → ArePending (names_of d) old p → ArePending (names_of d) new p
  risen-pending true (Some r) h f = pending-stays (names_of d) old new p (longer-grows Nothing 4 old new h.longer) f
  risen-pending true None h f = absurd h
  risen-pending false ticks h f = subst (λ l. ArePending (names_of d) l p) (sym h.1) f

  -- the whole segment
  pub segment-does : (rises : Bool) (ticks : Option ℕ) (as' : List Stm) (last : Env) (q : PendingSlots) (end : ListData) → Fits (names_of d) old at → ArePending (names_of d) old p → RisesWhere rises at at' old new ticks →
      DoesAll d as' at' last p q new end → DoesSegment d (record { rises = rises; statements = as' }) at last p q old end ticks
  segment-does true (Some r) as' last q end fits pending h f = segment-rising d as' r at at' last p q old new end fits pending h f
  segment-does true None as' last q end fits pending h f = absurd h
  segment-does false ticks as' last q end fits pending h f =
      subst (DoesSegment d (record { rises = false; statements = as' }) at last p q old end) (sym h.2)
      (segment-still d as' at last p q old end (subst (λ l. DoesAll d as' at last p q l end) h.1 (subst (λ a. DoesAll d as' a last p q new end) h.0 f)))
