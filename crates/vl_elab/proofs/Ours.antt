-- Items that are no instance, and modules by name.
use Rattle.std.proofs.Common.{◌≡◌, refl, ◌∙◌, ℕ, ◌<◌, ◌≤◌, List, [], ◌∷◌, length, get_or, inl, inr, arith}
use Rattle.std.specs.Prelude.{◌⊎◌, Some, None, slice_get}
use Rattle.std.proofs.lemmas.Option.{slice_get_cases}
use Rattle.elab_plain.specs.vl_flat.specs.Items.{Module, Item, Parameters, Signals, Assigns, Initial, Always, Functions, Instantiates}
use Rattle.elab_plain.specs.vl_flat.specs.Environments.{Counts, Given, module_named}
use Rattle.elab_plain.specs.vl_flat.specs.Processes.{Here}
use Rattle.elab_plain.specs.vl_flat.specs.Flat.{Inner, item_parts, item_part}
use Rattle.elab_kinds.specs.Places.{IsPlaceOf}
use Rattle.vl_elab.specs.Parts.{IsNoInstance}

pub own-part : (inner : Inner) (sizes : List ℕ → Counts) (ms : List Module) (here : Here) (g : Given) (next : Counts) (item : Item) → IsNoInstance item
    → item_parts inner sizes ms here g next item ≡ item_part here g next.signals item ∷ []
own-part inner sizes ms here g next (Parameters type ps) h = refl
own-part inner sizes ms here g next (Signals ds) h = refl
own-part inner sizes ms here g next (Assigns as') h = refl
own-part inner sizes ms here g next (Initial at a) h = refl
own-part inner sizes ms here g next (Always at trigger a) h = refl
own-part inner sizes ms here g next (Functions a) h = refl
own-part inner sizes ms here g next (Instantiates us) h = absurd h

pub record IsThere (ms : List Module) (t : List ℕ) (k : ℕ) : Type 0 where
  pub found : Module
  pub at : slice_get ms k ≡ Some found
  pub named : module_named ms t ≡ Some found

pub named-there : (ms : List Module) (t : List ℕ) (k : ℕ) → IsPlaceOf ms t (Some k) → IsThere ms t k
named-there ms t k h = go (slice_get_cases ms k).1
  where
    go : ((x : Module) × (k < length ms) × (slice_get ms k ≡ Some x) × (get_or ms k x ≡ x)) ⊎ ((length ms ≤ k) × (slice_get ms k ≡ None)) → IsThere ms t k
    go (inl (x, _, at, _)) = record { found = x; at = at; named = h.1 ∙ at }
    go (inr (past, _)) = let below = h.0 in absurd (omega (arith, past, below))
