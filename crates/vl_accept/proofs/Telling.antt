-- A fault of what a design uses is told by its place and its number: 10 is a limit, and any other a construct.
use Rattle.std.proofs.Common.{◌≡◌, ℕ, Bool, true, false, List, [], ◌∷◌, refl, sym, ap, ◌∙◌, subst, inl, inr}
use Rattle.std.specs.Prelude.{◌++◌, ◌&&◌, ◌||◌, ◌==◌, ◌⊎◌, not, flat_map, Some, None}
use Rattle.std.specs.List.{list_all, list_any}
use Rattle.std.proofs.lemmas.Bool.{and_parts}
use Rattle.std.proofs.lemmas.List.Folds.{list_all-append}
use Rattle.vl_latch.specs.vl_base.specs.declared.place.Place.{Place}
use Rattle.vl_latch.specs.vl_base.proofs.Orders.{comes_before-place, comes_before-number}
use Rattle.vl_check.specs.vl_design.specs.declared.stop.Stop.{Stop}
use Rattle.vl_check.specs.vl_design.specs.declared.stop.Stop.TheVariants.{Construct, Limit, Memory}
use Rattle.vl_check.specs.vl_design.specs.Placed as p
use Rattle.vl_check.specs.vl_design.specs.Stops.{construct_if, limit_if, is_before, place_of, number_of}
use Rattle.vl_check.specs.vl_design.specs.First.{In, IsFirst}
use Rattle.vl_check.specs.vl_sites.specs.Sites.{Site, sites}
use Rattle.vl_check.specs.Bodies.{Setting, of_process, of_function, kind_is}
use Rattle.vl_check.specs.Headers as h
use Rattle.vl_check.specs.Rules.{site_faults, names, sets, is_clock, is_loop, is_pure, is_delay, is_task, is_foreign, writes_memory, is_untimely}
use Rattle.vl_check.specs.Standing.{body_faults, process_faults, processes_faults, functions_faults, standing_faults}
use Rattle.vl_check.specs.Triggers.{trigger_faults, is_misplaced, is_mixed, lacks_some}
use Rattle.vl_check.specs.Writers.{is_rival}
use Rattle.vl_check.specs.Saves.{Save, is_past, with_firsts, save_faults, saves, saves_faults}
use Rattle.vl_check.specs.Uses.{IsUseFault}
use Rattle.vl_latch.specs.vl_base.proofs.Booleans.{and_both as and-both}

abbrev is_told : Stop → Bool
is_told (Construct at n) = not (n == 10)
is_told (Limit at n) = n == 10
is_told Memory = false

abbrev Told : List Stop → Type 0
Told fs = list_all is_told fs ≡ true

both : (xs ys : List Stop) → Told xs → Told ys → Told (xs ++ ys)
both xs ys h k = list_all-append is_told xs ys ∙ and-both (list_all is_told xs) (list_all is_told ys) h k

one : (t : Bool) (at : Place) (n : ℕ) → not (n == 10) ≡ true → Told (construct_if t at n)
one true at n h = and-both (not (n == 10)) true h refl
one false at n h = refl

more : (t : Bool) (at : Place) (n : ℕ) (fs : List Stop) → not (n == 10) ≡ true → Told fs → Told (construct_if t at n ++ fs)
more t at n fs h k = both (construct_if t at n) fs (one t at n h) k

past : (t : Bool) (at : Place) → Told (limit_if t at 10)
past true at = refl
past false at = refl

each : {A : Type 0} (f : A → List Stop) → ((x : A) → Told (f x)) → (xs : List A) → Told (flat_map f xs)
each f h [] = refl
each f h (x ∷ xs) = both (f x) (flat_map f xs) (h x) (each f h xs)

in-told : (f : Stop) (fs : List Stop) → Told fs → In f fs → is_told f ≡ true
in-told f [] h w = absurd w
in-told f (x ∷ xs) h (inl e) = ap is_told (sym e) ∙ (and_parts (is_told x) (list_all is_told xs) h).0
in-told f (x ∷ xs) h (inr w) = in-told f xs (and_parts (is_told x) (list_all is_told xs) h).1 w

-- ---- what stands where it may not

module _ (b : Setting) where
  site-told : (s : Site) → Told (site_faults b s)
  site-told s =
      more (names (kind_is is_clock b.shared) s.what) s.at 15 _ refl (more (is_pure b.role && is_delay s.what) s.at 17 _ refl (more (is_pure b.role && is_task s.what) s.at 18 _ refl
      (more (is_foreign b.role b.shared s.what) s.at 20 _ refl (more (sets (kind_is is_loop (b.shared ++ b.own)) s.what) s.at 21 _ refl
      (more (writes_memory b.role s.what) s.at 22 _ refl (one (is_untimely b.role b.shared s.what) s.at 23 refl))))))

  mutual
    loop-told : (around : List ℕ) (a : p.Stm) → Told (h.loop_faults b around a)
    loop-told around (p.For at k start test step a) =
        both (construct_if (h.is_wrong b around (p.For at k start test step a)) at 21) (h.loop_faults b (around ++ (k ∷ [])) a) (one (h.is_wrong b around (p.For at k start test step a)) at 21 refl) (loop-told (around ++ (k ∷ [])) a)
    loop-told around (p.Seq at as') = loops-told around as'
    loop-told around (p.If at t x y) = both (h.loop_faults b around x) (h.loop_faults b around y) (loop-told around x) (loop-told around y)
    loop-told around (p.Case at x is wild) = items-told around is
    loop-told around (p.Repeat at n a) = loop-told around a
    loop-told around (p.Nop at) = refl
    loop-told around (p.Set at t x) = refl
    loop-told around (p.Later at t x) = refl
    loop-told around (p.Task at name given) = refl

    loops-told : (around : List ℕ) (as' : p.Stms) → Told (h.loops_faults b around as')
    loops-told around p.NoStms = refl
    loops-told around (p.MoreStms a as') = both (h.loop_faults b around a) (h.loops_faults b around as') (loop-told around a) (loops-told around as')

    items-told : (around : List ℕ) (is : p.Items) → Told (h.items_faults b around is)
    items-told around p.NoItems = refl
    items-told around (p.MoreItems es a others) = both (h.loop_faults b around a) (h.items_faults b around others) (loop-told around a) (items-told around others)

  body-told : (a : p.Stm) → Told (body_faults b a)
  body-told a = both (flat_map (site_faults b) (sites a)) (h.loop_faults b [] a) (each (site_faults b) site-told (sites a)) (loop-told [] a)

module _ (d : p.Design) where
  process-told : (before : List p.Process) (a : p.Process) → Told (process_faults d before a)
  process-told before a =
      both (body_faults (of_process d a) a.body) _ (body-told (of_process d a) a.body)
      (both (trigger_faults d.signals a) _
      (more (list_any (is_misplaced d.signals) a.events) a.place 15 _ refl (one (is_mixed a.events || lacks_some d.signals a) a.place 16 refl))
      (one (is_rival d.signals before a) a.place 14 refl))

  processes-told : (before as' : List p.Process) → Told (processes_faults d before as')
  processes-told before [] = refl
  processes-told before (a ∷ as') = both (process_faults d before a) _ (process-told before a) (processes-told (before ++ (a ∷ [])) as')

  standing-told : Told (standing_faults d)
  standing-told =
      both (processes_faults d [] d.processes) (functions_faults d d.funcs) (processes-told [] d.processes)
      (each (λ f. body_faults (of_function d f) f.body) (λ f. body-told (of_function d f) f.body) d.funcs)

-- ---- names of snapshots

save-told : (before cs : List Save) → Told (save_faults before cs)
save-told before [] = refl
save-told before (c ∷ cs) = both (limit_if (is_past (with_firsts [] before) c) c.at 10) (save_faults (before ++ (c ∷ [])) cs) (past (is_past (with_firsts [] before) c) c.at) (save-told (before ++ (c ∷ [])) cs)

-- ---- all

use-told : (d : p.Design) (f : Stop) → IsUseFault d f → is_told f ≡ true
use-told d f (inl w) = in-told f (standing_faults d) (standing-told d) w
use-told d f (inr (inl (before, a, after, e, (second, is)))) = ap is_told is
use-told d f (inr (inr (inl (i, j, at, call, reaches, is)))) = ap is_told is
use-told d f (inr (inr (inr w))) = in-told f (saves_faults d) (save-told [] (saves d)) w

same-construct : (p q : Place) (m n : ℕ) → p ≡ q → m ≡ n → Construct p m ≡ Construct q n
same-construct p q m n e f = rw (e, f) refl

same-limit : (p q : Place) (m n : ℕ) → p ≡ q → m ≡ n → Limit p m ≡ Limit q n
same-limit p q m n e f = rw (e, f) refl

pub same-stop : (a b : Stop) → is_told a ≡ true → is_told b ≡ true → is_before a b ≡ false → is_before b a ≡ false → a ≡ b
same-stop (Construct p m) (Construct q n) s t h k = same-construct p q m n (comes_before-place p m q n h k) (comes_before-number p m q n h k)
same-stop (Limit p m) (Limit q n) s t h k = same-limit p q m n (comes_before-place p m q n h k) (comes_before-number p m q n h k)
same-stop (Construct p m) (Limit q n) s t h k = let e : m ≡ n = comes_before-number p m q n h k in let z : ⊥ = cc in absurd z
same-stop (Limit p m) (Construct q n) s t h k = let e : m ≡ n = comes_before-number p m q n h k in let z : ⊥ = cc in absurd z
same-stop (Construct p m) Memory s t h k = let z : ⊥ = cc in absurd z
same-stop (Limit p m) Memory s t h k = let z : ⊥ = cc in absurd z
same-stop Memory b s t h k = let z : ⊥ = cc in absurd z

-- the first fault of what is used is one
pub use-once : (d : p.Design) (a b : Stop) → IsFirst (IsUseFault d) (Some a) → IsFirst (IsUseFault d) (Some b) → a ≡ b
use-once d a b h k = same-stop a b (use-told d a h.0) (use-told d b k.0) (k.1 a h.0) (h.1 b k.0)
