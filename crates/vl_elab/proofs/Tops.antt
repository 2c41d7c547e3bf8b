-- A source whose names have no fault has a top.
use Rattle.std.proofs.Common.{◌≡◌, refl, ap, ◌∙◌, ℕ, zero, suc, ◌+◌, ◌<◌, ◌≤◌, Bool, true, false, List, [], ◌∷◌, length, map, get_or, inl, inr, arith}
use Rattle.std.specs.Prelude.{◌⊎◌, Option, Some, None, is_some, slice_get, if◌then◌else◌}
use Rattle.std.specs.Option.{option_and_then}
use Rattle.std.proofs.lemmas.Option.{slice_get_cases}
use Rattle.elab_plain.specs.vl_tree.specs.declared.source_tree.Module.{Module as ModuleTree}
use Rattle.elab_plain.specs.vl_tree.specs.declared.source_tree.Source.{Source}
use Rattle.elab_plain.specs.vl_tree.specs.Hierarchy as h
use Rattle.elab_plain.specs.vl_tree.specs.Hierarchy.{first_from, first_top, is_top}
use Rattle.vl_names.specs.vl_scope.specs.declared.fault.Fault.{Fault}
use Rattle.vl_names.specs.HierarchyFaults.{IsHierarchyFault, no_top}
use Rattle.elab_plain.specs.vl_flat.specs.Items as x
use Rattle.elab_plain.specs.vl_flat.specs.Declarations.{module', modules}
use Rattle.elab_plain.specs.vl_flat.specs.Flat.{top_of}

pub same-length : {X Y : Type 0} (f : X → Y) (xs : List X) → length (map f xs) ≡ length xs
same-length f [] = refl
same-length f (y ∷ xs) = ap (λ n. suc n) (same-length f xs)

-- ---- the first top is a module

none-found : (k : ℕ) → ◌≡◌ {A = Option ℕ} None (Some k) → ⊥
none-found k e = cc

found : (n k : ℕ) → ◌≡◌ {A = Option ℕ} (Some n) (Some k) → n ≡ k
found n k e = cc

first-within : (p : ℕ → Bool) (n more k : ℕ) → first_from p n more ≡ Some k → k < n + more
first-within p n zero k e = absurd (none-found k e)
first-within p n (suc more) k e = go (p n) (first-within p (suc n) more k) e
  where
    go : (b : Bool) → (first_from p (suc n) more ≡ Some k → k < suc n + more) → (if b then Some n else first_from p (suc n) more) ≡ Some k → k < n + suc more
    go true later e = let same = found n k e in omega arith
    go false later e = let h = later e in omega arith

pub at-number : (ms : List x.Module) (k : ℕ) → k < length ms → (m : x.Module) × (slice_get ms k ≡ Some m)
at-number ms k below = go (slice_get_cases ms k).1
  where
    go : ((x : x.Module) × (k < length ms) × (slice_get ms k ≡ Some x) × (get_or ms k x ≡ x)) ⊎ ((length ms ≤ k) × (slice_get ms k ≡ None)) → (m : x.Module) × (slice_get ms k ≡ Some m)
    go (inl (x, _, at, _)) = (x, at)
    go (inr (past, _)) = absurd (omega (arith, past, below))

pub top-there : (s : Source) → ((f : Fault) → IsHierarchyFault s f → ⊥) → (m : ModuleTree) (after : List ModuleTree) → s.modules ≡ m ∷ after → is_some (top_of s) ≡ true
top-there s none m after is = go (first_top (h.graph_of s)) refl
  where
    go : (o : Option ℕ) → first_top (h.graph_of s) ≡ o → is_some (top_of s) ≡ true
    go None e = absurd (none _ (no_top m after is e))
    go (Some k) e =
        let ms = modules s in
        let graph = h.graph_of s in
        let within = first-within (is_top graph) 0 (length graph) k e in
        let count : length graph ≡ length s.modules = same-length (h.steps_of (h.module_number s)) s.modules in
        let all : length ms ≡ length s.modules = same-length module' s.modules in
        ap (λ o. is_some (option_and_then (slice_get ms) o)) e ∙ ap is_some (at-number ms k (omega (arith, within, count, all))).1
