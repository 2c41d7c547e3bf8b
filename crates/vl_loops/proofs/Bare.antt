-- No loop is left.
use Rattle.std.proofs.Common.{◌≡◌, ℕ, zero, suc, Bool, true, false, List, [], ◌∷◌, map, refl}
use Rattle.vl_design.specs.Syntax.{Stm, Nop, Then, If, Case, For, Repeat, Set, Later, Sys, Items, NoItems, Labelled, Default, Fun, Proc, Flat}
use Rattle.vl_design.specs.Width.{Scope}
use Rattle.vl_design.specs.State.{State}
use Rattle.vl_design.specs.Exec.{exec, goes_on, most_turns}
use Rattle.vl_design.specs.Reads.{stm_reads, items_read}
use Rattle.vl_design.specs.Turns.{turns_read, items_turns_read}
use Rattle.vl_design.specs.Laws.{IsUnrolledStm, AreUnrolledItems, IsUnrolled}
use Rattle.vl_design.specs.Functions.{scope_of, inner}
use Rattle.std.specs.List.{AllByRecursion}
use Rattle.std.proofs.lemmas.List.Elements.{All-from_recursion}
use Rattle.vl_loops.specs.Unroll.{unrolled, unrolled_items, in_turns, so_many, still, unrolled_fun, unrolled_proc, unrolled_flat}

turns_bare : {S : Type 0} (n : ℕ) (test : S → Bool) (step : S → S) (f : S → Stm) → ((x : S) → IsUnrolledStm (f x)) → (x : S) → IsUnrolledStm (in_turns n test step f x)
turns_bare zero test step f h x = tt
turns_bare (suc n) test step f h x = at (test x) (turns_bare n test step f h (step x))
  where
    at : (b : Bool) → IsUnrolledStm (in_turns n test step f (step x)) → IsUnrolledStm (elim b [ true ↦ Then (f x) (in_turns n test step f (step x)) | false ↦ Nop ])
    at true k = (h x, k)
    at false k = tt

many_bare : (n : ℕ) (a : Stm) → IsUnrolledStm a → IsUnrolledStm (so_many n a)
many_bare zero a h = tt
many_bare (suc n) a h = (h, many_bare n a h)

module _ (scope : Scope) where
  mutual
    pub bare : (a : Stm) (e : State) → IsUnrolledStm (unrolled scope a e)
    bare Nop e = tt
    bare (Then a b) e = (bare a e, bare b e)
    bare (If t a b) e = (bare a e, bare b e)
    bare (Case x items) e = bare_items items e
    bare (For j start test step a) e = turns_bare most_turns (goes_on scope test) (exec scope step) (unrolled scope a) (bare a) (exec scope start e)
    bare (Repeat n a) e = many_bare n (unrolled scope a e) (bare a e)
    bare (Set t x) e = tt
    bare (Later t x) e = tt
    bare (Sys task) e = tt

    bare_items : (items : Items) (e : State) → AreUnrolledItems (unrolled_items scope items e)
    bare_items NoItems e = tt
    bare_items (Labelled es a others) e = (bare a e, bare_items others e)
    bare_items (Default a others) e = (bare a e, bare_items others e)

-- without loops what is read turn by turn is what is read
module _ (scope : Scope) (p : ℕ → Bool) where
  mutual
    pub bare_reads : (a : Stm) → IsUnrolledStm a → (s : State) → turns_read scope p a s ≡ stm_reads p a
    bare_reads Nop h s = refl
    bare_reads (Then a b) h s = rw (bare_reads a h.0 s, bare_reads b h.1 s) refl
    bare_reads (If t a b) h s = rw (bare_reads a h.0 s, bare_reads b h.1 s) refl
    bare_reads (Case x items) h s = rw (bare_items_read items h s) refl
    bare_reads (For j start test step a) h s = absurd h
    bare_reads (Repeat n a) h s = absurd h
    bare_reads (Set t x) h s = refl
    bare_reads (Later t x) h s = refl
    bare_reads (Sys task) h s = refl

    bare_items_read : (items : Items) → AreUnrolledItems items → (s : State) → items_turns_read scope p items s ≡ items_read p items
    bare_items_read NoItems h s = refl
    bare_items_read (Labelled es a others) h s = rw (bare_reads a h.0 s, bare_items_read others h.1 s) refl
    bare_items_read (Default a others) h s = rw (bare_reads a h.0 s, bare_items_read others h.1 s) refl

module _ (d : Flat) where
  funs_bare : (fs : List Fun) → AllByRecursion (λ (f : Fun). IsUnrolledStm f.body) (map (unrolled_fun (scope_of d [])) fs)
  funs_bare [] = tt
  funs_bare (f ∷ fs) = (bare (inner (scope_of d []) f) f.body (still (inner (scope_of d []) f)), funs_bare fs)

  procs_bare : (ps : List Proc) → AllByRecursion (λ (p : Proc). IsUnrolledStm p.body) (map (unrolled_proc (scope_of d [])) ps)
  procs_bare [] = tt
  procs_bare (p ∷ ps) = (bare (scope_of d []) p.body (still (scope_of d [])), procs_bare ps)

  pub all_bare : IsUnrolled (unrolled_flat d)
  all_bare = record {
    funs = All-from_recursion (λ (f : Fun). IsUnrolledStm f.body) (map (unrolled_fun (scope_of d [])) d.funs) (funs_bare d.funs);
    procs = All-from_recursion (λ (p : Proc). IsUnrolledStm p.body) (map (unrolled_proc (scope_of d [])) d.procs) (procs_bare d.procs);
  }
