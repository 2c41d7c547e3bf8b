-- The processes of an instance are processes of the design.
use Rattle.std.proofs.Common.{◌≡◌, ℕ, suc, inl, inr, List, [], ◌∷◌, ◌++◌, Some, sym, subst}
use Rattle.std.specs.Prelude.{fold, flat_map}
use Rattle.vl_sound.specs.vl_base.specs.declared.place.Place.{Place}
use Rattle.vl_sound.specs.vl_tree.specs.declared.source_tree.Trigger.{Trigger}
use Rattle.vl_sound.specs.vl_scope.specs.Faults.{In}
use Rattle.vl_sound.specs.vl_scope.proofs.Members.{In-append_left, In-append_right, In-flat_map, In-flat_map_cases}
use Rattle.ten_plan.specs.vl_design.specs.Placed as p
use Rattle.vl_sound.specs.vl_flat.specs.Surface as x
use Rattle.vl_sound.specs.vl_flat.specs.Items as i
use Rattle.vl_sound.specs.vl_flat.specs.Environments.{Counts, Given, plus, size, environment, module_named}
use Rattle.vl_sound.specs.vl_flat.specs.Processes.{Here, processes}
use Rattle.vl_sound.specs.vl_flat.specs.Connections.{given}
use Rattle.vl_sound.specs.vl_flat.specs.Flat as f
use Rattle.vl_sound.specs.vl_flat.specs.Flat.{instance}
use Rattle.vl_sound.specs.Instances.{IsInstance, of_top, of_item, here_of}
use Rattle.vl_sound.proofs.Splits.{split-parts}

-- the processes of parts
abbrev pub processes-of : List f.Part → List p.Process
processes-of parts = flat_map (λ (a : f.Part). a.processes) parts

-- those of some parts are among those of more parts
within-more : (parts more : List f.Part) → ((a : f.Part) → In a parts → In a more) → (y : p.Process) → In y (processes-of parts) → In y (processes-of more)
within-more parts more g y h = let r = In-flat_map_cases (λ (a : f.Part). a.processes) y parts h in In-flat_map (λ (a : f.Part). a.processes) r.0 y more (g r.0 r.1) r.2

-- ---- items

module _ (inner : f.Inner) (sizes : List ℕ → Counts) (ms : List i.Module) (here : Here) (g : Given) where
  always-first : (next : Counts) (at : Place) (trigger : Trigger) (a : x.Statement) (items : List i.Item) (y : p.Process) → In y (processes here (i.Always at trigger a))
      → In y (processes-of (f.items_parts inner sizes ms here g next (i.Always at trigger a ∷ items)))
  always-first next at trigger a items y h =
      let behind = f.items_parts inner sizes ms here g (f.behind_item sizes here next (i.Always at trigger a)) items in
      In-append_left y (processes here (i.Always at trigger a)) (processes-of behind) h

  item-there : (at : Place) (trigger : Trigger) (a : x.Statement) (items : List i.Item) (next : Counts) → In (i.Always at trigger a) items → (y : p.Process)
      → In y (processes here (i.Always at trigger a)) → In y (processes-of (f.items_parts inner sizes ms here g next items))
  item-there at trigger a [] next q y h = absurd q
  item-there at trigger a (item ∷ items) next (inl q) y h =
      subst (λ z. In y (processes-of (f.items_parts inner sizes ms here g next (z ∷ items)))) (sym q) (always-first next at trigger a items y h)
  item-there at trigger a (item ∷ items) next (inr q) y h =
      let own = f.item_parts inner sizes ms here g next item in
      let behind = f.items_parts inner sizes ms here g (f.behind_item sizes here next item) items in
      within-more behind (own ++ behind) (λ b r. In-append_right b own behind r) y (item-there at trigger a items (f.behind_item sizes here next item) q y h)

-- ---- instances

module _ (ms : List i.Module) (top : i.Module) where
  abbrev body-of : ℕ → Given → i.Module → List f.Part
  body-of n g m = f.body (f.instance n ms) (size n ms) ms (f.whole ms top).signals (environment (size n ms) g m) g m

  -- what stands in an instance is what its body has
  body-inside : (n : ℕ) (above : Here) (base : Counts) (us : i.Instances) (u : i.NamedUnit) (of : i.Module) (y : p.Process)
      → In y (processes-of (f.body (f.instance n ms) (size n ms) ms above.behind (environment (size n ms) (given above base us u of) of) (given above base us u of) of))
      → In y (processes-of (f.instance (suc n) ms above base us u of))
  unfolding instance
  body-inside n above base us u of y h =
      let g = given above base us u of in
      let env = environment (size n ms) g of in
      let ins = flat_map (λ t. f.input_part above env of u t.name) of.ports in
      let bod = f.body (f.instance n ms) (size n ms) ms above.behind env g of in
      let outs = flat_map (λ t. f.output_part above env of u t.name) of.ports in
      within-more bod (f.beginning above.env g us ∷ (ins ++ (bod ++ outs))) (λ a r. inr (In-append_right a ins (bod ++ outs) (In-append_left a bod outs r))) y h

  unit-inside : (n : ℕ) (g : Given) (m of : i.Module) (before after : List i.Item) (us : i.Instances) (first others : List i.NamedUnit) (u : i.NamedUnit)
      → m.items ≡ before ++ i.Instantiates us ∷ after → us.units ≡ first ++ u ∷ others → module_named ms us.definition ≡ Some of → (y : p.Process)
      → let sizes = size (suc n) ms in
      let spot = here_of (suc n) ms top g m in
      let next = fold (f.behind_item sizes spot) g.base before in
      let base = fold (λ (z : Counts) (v : i.NamedUnit). plus z (sizes us.definition)) next first in
      In y (processes-of (f.instance (suc n) ms spot base us u of)) → In y (processes-of (body-of (suc n) g m))
  unit-inside n g m of before after us first others u is split named y h =
      let sizes = size (suc n) ms in
      let spot = here_of (suc n) ms top g m in
      let inner = f.instance (suc n) ms in
      let next = fold (f.behind_item sizes spot) g.base before in
      let base = fold (λ (z : Counts) (v : i.NamedUnit). plus z (sizes us.definition)) next first in
      let P = processes-of (f.items_parts inner sizes ms spot g g.base before) in
      let R = processes-of (f.items_parts inner sizes ms spot g (f.behind_item sizes spot next (i.Instantiates us)) after) in
      let F = processes-of (f.instances inner spot next us of (sizes us.definition) first) in
      let X = processes-of (inner spot base us u of) in
      let O = processes-of (f.instances inner spot (plus base (sizes us.definition)) us of (sizes us.definition) others) in
      subst (In y) (sym (split-parts (λ (a : f.Part). a.processes) inner sizes ms spot g before after us of first others u m.items is split named))
      (In-append_right y (P ++ F) (X ++ (O ++ R)) (In-append_left y X (O ++ R) h))

  instance-inside : (n : ℕ) (g : Given) (m : i.Module) → IsInstance ms top n g m → (y : p.Process) → In y (processes-of (body-of n g m))
      → In y (processes-of (f.parts_from ms top))
  instance-inside n g m of_top y h = h
  instance-inside n g m (of_item n' g' m' of' before after us first others u inside is split named) y h =
      let sizes = size (suc n') ms in
      let spot = here_of (suc n') ms top g' m' in
      let next = fold (f.behind_item sizes spot) g'.base before in
      let base = fold (λ (z : Counts) (v : i.NamedUnit). plus z (sizes us.definition)) next first in
      instance-inside (suc n') g' m' inside y (unit-inside n' g' m' of' before after us first others u is split named y (body-inside n' spot base us u of' y h))

  -- a process of an item of an instance
  pub always-inside : (n : ℕ) (g : Given) (m : i.Module) → IsInstance ms top n g m → (at : Place) (trigger : Trigger) (a : x.Statement) → In (i.Always at trigger a) m.items
      → (y : p.Process) → In y (processes (here_of n ms top g m) (i.Always at trigger a)) → In y (processes-of (f.parts_from ms top))
  always-inside n g m inside at trigger a there y h =
      instance-inside n g m inside y (item-there (f.instance n ms) (size n ms) ms (here_of n ms top g m) g at trigger a m.items g.base there y h)
