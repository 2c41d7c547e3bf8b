-- What is kept at boundaries, one behind the other.
use Rattle.std.proofs.Common.{◌≡◌, ℕ, suc, ◌+◌, ◌≤◌, ◌<◌, ◌≢◌, Bool, true, false, cond, ◌==◌, List, [], ◌∷◌, ◌++◌, map, refl, sym, ap, ◌∙◌, subst, append_assoc, inl, inr, arith, add-one}
use Rattle.std.specs.List.{AllByRecursion, filter}
use Rattle.std.proofs.lemmas.Bool.Decides.{nat_tests}
use Rattle.vl_design.specs.Alone as alone
use Rattle.vl_design.specs.Alone.{Origin, Boundary, FreeSave, Keeps, due_at, free_names, first_tick, saved_at, save_names}
use Rattle.vl_design.specs.Queue.{Queue}
use Rattle.vl_design.specs.Snapshots.{Saved, Snapshot, all_saved, saved_over, snapshot_of}
use Rattle.vl_design.specs.State.{State}
use Rattle.ten_shell.specs.Keeping as keeping
use Rattle.ten_shell.specs.Keeping.{KeptBefore, KeepsAt, KeepsOn}
pub use Rattle.vl_design.specs.vl_base.proofs.Lists.{all_push as all-and, all_weaker as weaker}
use Rattle.vl_design.specs.vl_base.proofs.Numbers.{equal_true as same-tick, apart_false as apart}
use Rattle.vl_design.specs.vl_base.proofs.Lists.{append_nil as append-nil}

-- ---- lists

saved-behind : (saved : List Saved) (xs ys : List (List ℕ)) (t : Snapshot) → all_saved saved (xs ++ ys) t ≡ all_saved (all_saved saved xs t) ys t
saved-behind saved [] ys t = refl
saved-behind saved (x ∷ xs) ys t = saved-behind (saved_over saved (record { name = x; snapshot = t })) xs ys t

-- ---- names of snapshots that are made besides

abbrev names-by : Bool → FreeSave → List FreeSave → List (List ℕ)
names-by b f fs = map (λ f. f.name) (cond b (f ∷ fs) fs)

abbrev at-tick : ℕ → List FreeSave → List FreeSave
at-tick k free = filter (λ f. f.tick == k) free

none-later : (k : ℕ) (free : List FreeSave) → AllByRecursion (λ f. f.tick < k) free → free_names k free ≡ []
none-later k [] h = refl
none-later k (f ∷ free) h =
    let lt = h.0 in
    ap (λ b. names-by b f (at-tick k free)) (apart f.tick k (λ e. omega arith)) ∙ none-later k free h.1

names-and : (k : ℕ) (free : List FreeSave) (f : FreeSave) → free_names k (free ++ f ∷ []) ≡ free_names k free ++ free_names k (f ∷ [])
names-and k [] f = refl
names-and k (g ∷ free) f = by (g.tick == k) (names-and k free f)
  where
    by : (b : Bool) → free_names k (free ++ f ∷ []) ≡ free_names k free ++ free_names k (f ∷ []) → names-by b g (at-tick k (free ++ f ∷ [])) ≡ names-by b g (at-tick k free) ++ free_names k (f ∷ [])
    by true h = ap (λ ns. g.name ∷ ns) h
    by false h = h

names-before : (k : ℕ) (free : List FreeSave) (f : FreeSave) → k < f.tick → free_names k (free ++ f ∷ []) ≡ free_names k free
names-before k free f lt =
    names-and k free f ∙ ap (λ ns. free_names k free ++ ns) (ap (λ b. names-by b f []) (apart f.tick k (λ e. omega arith))) ∙ append-nil (free_names k free)

names-there : (k : ℕ) (free : List FreeSave) (f : FreeSave) → f.tick ≡ k → free_names k (free ++ f ∷ []) ≡ free_names k free ++ f.name ∷ []
names-there k free f e = names-and k free f ∙ ap (λ b. free_names k free ++ names-by b f []) (same-tick f.tick k e)

-- ---- what is kept before boundaries doesn't change with one more at a later tick

module _ (o : Origin) (free : List FreeSave) (f : FreeSave) where
  abbrev more : List FreeSave
  more = free ++ f ∷ []

  kept-by : (k : ℕ) (before : List Saved) (s : State) → k < f.tick → Keeps o more k (saved_at o more before k s) → Keeps o more k (saved_at o free before k s)
  kept-by k before s lt = subst (λ names. Keeps o more k (all_saved before (due_at o.plan k s ++ names) (snapshot_of o.flat.rows s))) (names-before k free f lt)

  keeps-more : {k : ℕ} {saved : List Saved} → k < f.tick → Keeps o free k saved → Keeps o more k saved
  keeps-more lt (alone.at_first {k} {q} e b) = kept-by k [] q.state lt (alone.at_first e b)
  keeps-more lt (alone.at_next {k} {saved} {q} x b) = kept-by (suc k) saved q.state lt (alone.at_next (keeps-more (omega (arith, lt)) x) b)

  before-more : {k : ℕ} {before : List Saved} → k ≤ f.tick → KeptBefore o free k before → KeptBefore o more k before
  before-more le (keeping.at_first e) = keeping.at_first e
  before-more le (keeping.at_next x) = keeping.at_next (keeps-more (omega (arith, le)) x)

-- ---- at a boundary

module _ (o : Origin) (free : List FreeSave) (k : ℕ) (s : State) where
  abbrev shot : Snapshot
  shot = snapshot_of o.flat.rows s

  -- a run comes to it: all that is due is left
  pub arrives : (saved : List Saved) (left : List (List ℕ)) → KeepsOn o free k saved → left ≡ due_at o.plan k s → KeepsAt o free k s saved left
  arrives saved left x e = record {
    before = saved;
    kept = x.kept;
    will = ap (λ ns. all_saved saved ns shot) (e ∙ sym (append-nil (due_at o.plan k s)) ∙ ap (λ ns. due_at o.plan k s ++ ns) (sym x.none));
    besides = inr x.none;
  }

  keeps-at : {before : List Saved} (q : Queue) → KeptBefore o free k before → Boundary o k q → Keeps o free k (saved_at o free before k q.state)
  keeps-at q x b = by k x b
    where
      by : (k : ℕ) {before : List Saved} → KeptBefore o free k before → Boundary o k q → Keeps o free k (saved_at o free before k q.state)
      by k (keeping.at_first e) b = alone.at_first e b
      by _ (keeping.at_next x) b = alone.at_next x b

  -- none is left
  pub all-made : (saved : List Saved) (q : Queue) → KeepsAt o free k s saved [] → Boundary o k q → q.state ≡ s → Keeps o free k saved
  all-made saved q x b e =
      subst (λ ys. Keeps o free k ys) (ap (λ t. saved_at o free x.before k t) e ∙ sym x.will) (keeps-at q x.kept b)

  -- the run has finished in its tick
  pub finished-kept : (saved : List Saved) (q : Queue) → KeepsOn o free k saved → Boundary o k q → q.state ≡ s → s.finished ≡ true → Keeps o free k saved
  finished-kept saved q x b e f =
      all-made saved q (arrives saved [] x (sym (ap (λ b. cond b [] (s.saves ++ save_names k o.plan.errands)) f))) b e

  -- one more is made besides
  pub besides-made : (saved : List Saved) (f : FreeSave) → f.tick ≡ k → KeepsAt o free k s saved [] → KeepsAt o (free ++ f ∷ []) k s (saved_over saved (record { name = f.name; snapshot = shot })) []
  besides-made saved f e x = record {
    before = x.before;
    kept = before-more o free f (omega arith) x.kept;
    will = ap (λ ys. saved_over ys (record { name = f.name; snapshot = shot })) x.will
        ∙ sym (saved-behind x.before (due_at o.plan k s ++ free_names k free) (f.name ∷ []) shot)
        ∙ ap (λ ns. all_saved x.before ns shot) (append_assoc (due_at o.plan k s) (free_names k free) (f.name ∷ []) ∙ ap (λ ns. due_at o.plan k s ++ ns) (sym (names-there k free f e)));
    besides = inl refl;
  }

-- ---- on the way to the next

pub goes-on : (o : Origin) (free : List FreeSave) (k : ℕ) (saved : List Saved) → Keeps o free k saved → AllByRecursion (λ f. f.tick ≤ k) free → KeepsOn o free (k + 1) saved
goes-on o free k saved x h = record {
  kept = subst (λ n. KeptBefore o free n saved) (sym (add-one k)) (keeping.at_next x);
  none = none-later (k + 1) free (weaker (λ (f : FreeSave). f.tick ≤ k) (λ (f : FreeSave). f.tick < k + 1) (λ f le. omega (arith, le)) free h);
}
