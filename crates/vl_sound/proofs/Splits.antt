-- How the parts of an instance divide at one of its units, and the numbers behind units.
use Rattle.std.proofs.Common.{◌≡◌, ℕ, suc, ◌+◌, ◌*◌, Bool, true, false, if◌then◌else◌, List, [], ◌∷◌, ◌++◌, length, Option, Some, None, refl, sym, ap, ◌∙◌, arith}
use Rattle.std.specs.Prelude.{fold, flat_map, not, ◌&&◌}
use Rattle.std.specs.Option.{option_map_or}
use Rattle.std.proofs.lemmas.Grind.{flat_map-append}
use Rattle.std.proofs.lemmas.List.{append_assoc, append-nil}
use Rattle.std.proofs.Math.Nat.{suc-mul}
use Rattle.vl_flat.specs.vl_tree.specs.declared.tree.Identifier.{Identifier}
use Rattle.vl_flat.specs.vl_design.specs.declared.stop.Stop.{Stop}
use Rattle.vl_flat.specs.vl_design.specs.Placed as p
use Rattle.vl_flat.specs.Scopes.{Env}
use Rattle.vl_flat.specs.Surface.{Ex}
use Rattle.vl_flat.specs.Items as x
use Rattle.vl_flat.specs.Kinds.{is_input}
use Rattle.vl_flat.specs.Environments.{Counts, Given, plus, size, environment, module_named}
use Rattle.vl_flat.specs.Processes.{Here}
use Rattle.vl_flat.specs.Connections.{given, port_connection, place_in, expression_of, is_clock_binding, input_process, input_faults, output_process, output_faults}
use Rattle.vl_flat.specs.Flat as f
use Rattle.vl_flat.specs.Flat.{instance}
use Rattle.vl_sound.proofs.Lists.{pieces}

items-append : (inner : f.Inner) (sizes : List ℕ → Counts) (ms : List x.Module) (spot : Here) (g : Given) (next : Counts) (xs ys : List x.Item)
    → f.items_parts inner sizes ms spot g next (xs ++ ys) ≡ f.items_parts inner sizes ms spot g next xs ++ f.items_parts inner sizes ms spot g (fold (f.behind_item sizes spot) next xs) ys
items-append inner sizes ms spot g next [] ys = refl
items-append inner sizes ms spot g next (item ∷ xs) ys =
    ap (λ z. f.item_parts inner sizes ms spot g next item ++ z) (items-append inner sizes ms spot g (f.behind_item sizes spot next item) xs ys)
    ∙ sym (append_assoc (f.item_parts inner sizes ms spot g next item) (f.items_parts inner sizes ms spot g (f.behind_item sizes spot next item) xs)
    (f.items_parts inner sizes ms spot g (fold (f.behind_item sizes spot) (f.behind_item sizes spot next item) xs) ys))

units-append : (inner : f.Inner) (spot : Here) (base : Counts) (us : x.Instances) (m : x.Module) (counts : Counts) (xs ys : List x.NamedUnit)
    → f.instances inner spot base us m counts (xs ++ ys) ≡ f.instances inner spot base us m counts xs ++ f.instances inner spot (fold (λ z v. plus z counts) base xs) us m counts ys
units-append inner spot base us m counts [] ys = refl
units-append inner spot base us m counts (u ∷ xs) ys =
    ap (λ z. inner spot base us u m ++ z) (units-append inner spot (plus base counts) us m counts xs ys)
    ∙ sym (append_assoc (inner spot base us u m) (f.instances inner spot (plus base counts) us m counts xs) (f.instances inner spot (fold (λ z v. plus z counts) (plus base counts) xs) us m counts ys))

-- of signals or of functions
pub base-units : (n : Counts → ℕ) → ((a c : Counts) → n (plus a c) ≡ n a + n c) → (counts : Counts) (xs : List x.NamedUnit) (base : Counts)
    → n (fold (λ (z : Counts) (v : x.NamedUnit). plus z counts) base xs) ≡ n base + length xs * n counts
base-units n adds counts [] base = omega arith
base-units n adds counts (u ∷ xs) base =
    let step = suc-mul (length xs) (n counts) in
    let one = adds base counts in
    let rest = base-units n adds counts xs (plus base counts) in
    omega (arith, rest, step, one)

-- what each part has of one sort, signals or functions: before the item of a unit, of the units before it, its own, of those after it, and behind the item
pub split-parts : {A : Type 0} (list : f.Part → List A) (inner : f.Inner) (sizes : List ℕ → Counts) (ms : List x.Module) (spot : Here) (g : Given)
    (before after : List x.Item) (us : x.Instances) (of : x.Module) (first others : List x.NamedUnit) (u : x.NamedUnit) (items : List x.Item)
    → items ≡ before ++ x.Instantiates us ∷ after → us.units ≡ first ++ u ∷ others → module_named ms us.definition ≡ Some of
    → let next = fold (f.behind_item sizes spot) g.base before in
    let base = fold (λ (z : Counts) (v : x.NamedUnit). plus z (sizes us.definition)) next first in
    flat_map list (f.items_parts inner sizes ms spot g g.base items)
    ≡ (flat_map list (f.items_parts inner sizes ms spot g g.base before) ++ flat_map list (f.instances inner spot next us of (sizes us.definition) first))
    ++ (flat_map list (inner spot base us u of) ++ (flat_map list (f.instances inner spot (plus base (sizes us.definition)) us of (sizes us.definition) others)
    ++ flat_map list (f.items_parts inner sizes ms spot g (f.behind_item sizes spot next (x.Instantiates us)) after)))
split-parts list inner sizes ms spot g before after us of first others u items is split named =
    let next = fold (f.behind_item sizes spot) g.base before in
    let base = fold (λ (z : Counts) (v : x.NamedUnit). plus z (sizes us.definition)) next first in
    let P = f.items_parts inner sizes ms spot g g.base before in
    let R = f.items_parts inner sizes ms spot g (f.behind_item sizes spot next (x.Instantiates us)) after in
    let F = f.instances inner spot next us of (sizes us.definition) first in
    let X = inner spot base us u of in
    let O = f.instances inner spot (plus base (sizes us.definition)) us of (sizes us.definition) others in
    let append = flat_map-append list in
    let named-parts : f.item_parts inner sizes ms spot g next (x.Instantiates us) ≡ f.instances inner spot next us of (sizes us.definition) us.units =
    ap (λ (q : Option x.Module). option_map_or (λ w. f.instances inner spot next us w (sizes us.definition) us.units) q []) named in
    let split-units : f.instances inner spot next us of (sizes us.definition) us.units ≡ F ++ (X ++ O) =
    ap (λ z. f.instances inner spot next us of (sizes us.definition) z) split ∙ units-append inner spot next us of (sizes us.definition) first (u ∷ others) in
    ap (λ z. flat_map list (f.items_parts inner sizes ms spot g g.base z)) is
    ∙ (ap (λ z. flat_map list z) (items-append inner sizes ms spot g g.base before (x.Instantiates us ∷ after))
    ∙ (ap (λ z. flat_map list (P ++ (z ++ R))) (named-parts ∙ split-units)
    ∙ (append P ((F ++ (X ++ O)) ++ R)
    ∙ (ap (λ z. flat_map list P ++ z) (append (F ++ (X ++ O)) R ∙ ap (λ z. z ++ flat_map list R) (append F (X ++ O) ∙ ap (λ z. flat_map list F ++ z) (append X O)))
    ∙ pieces (flat_map list P) (flat_map list F) (flat_map list X) (flat_map list O) (flat_map list R)))))

-- ---- an instance has what its body has, of a sort that its beginning and its connections don't have

module _ {A : Type 0} (list : f.Part → List A) (none : (ps : List p.Process) (es : List Stop) → list (f.connection ps es) ≡ []) where
  connected : (ps : Ex → List p.Process) (es : Ex → List Stop) (q : Option Ex) → flat_map list (option_map_or (λ e. f.connection (ps e) (es e) ∷ []) q []) ≡ []
  connected ps es None = refl
  connected ps es (Some e) = append-nil (list (f.connection (ps e) (es e))) ∙ none (ps e) (es e)

  either : (c : Bool) (xs ys : List f.Part) → flat_map list xs ≡ [] → flat_map list ys ≡ [] → flat_map list (if c then xs else ys) ≡ []
  either true xs ys h k = h
  either false xs ys h k = k

  none-of : (part : Identifier → List f.Part) → ((t : Identifier) → flat_map list (part t) ≡ []) → (ports : List Identifier) → flat_map list (flat_map part ports) ≡ []
  none-of part each [] = refl
  none-of part each (t ∷ ports) =
      flat_map-append list (part t) (flat_map part ports) ∙ (ap (λ z. z ++ flat_map list (flat_map part ports)) (each t) ∙ none-of part each ports)

  pub body-only : ((env : Env) (g : Given) (us : x.Instances) → list (f.beginning env g us) ≡ [])
      → (n : ℕ) (ms : List x.Module) (above : Here) (base : Counts) (us : x.Instances) (u : x.NamedUnit) (m : x.Module)
      → flat_map list (f.instance (suc n) ms above base us u m)
      ≡ flat_map list (f.body (f.instance n ms) (size n ms) ms above.behind (environment (size n ms) (given above base us u m) m) (given above base us u m) m)
  unfolding instance
  body-only begun n ms above base us u m =
      let g = given above base us u m in
      let env = environment (size n ms) g m in
      let ins = flat_map (λ t. f.input_part above env m u t.name) m.ports in
      let bod = f.body (f.instance n ms) (size n ms) ms above.behind env g m in
      let outs = flat_map (λ t. f.output_part above env m u t.name) m.ports in
      let no-ins : flat_map list ins ≡ [] = none-of (λ t. f.input_part above env m u t.name) (λ t. let q = port_connection m u t.name in
      either (is_input m t.name && not (is_clock_binding (env t.name))) _ [] (connected (λ e. input_process above env (place_in u q) t.name e ∷ []) (λ e. input_faults above.env e) (expression_of q)) refl) m.ports in
      let no-outs : flat_map list outs ≡ [] = none-of (λ t. f.output_part above env m u t.name) (λ t. let q = port_connection m u t.name in
      either (is_input m t.name) [] _ refl (connected (λ e. output_process above env (place_in u q) t.name e ∷ []) (λ e. output_faults above.env (place_in u q) e) (expression_of q))) m.ports in
      ap (λ z. z ++ flat_map list (ins ++ (bod ++ outs))) (begun above.env g us)
      ∙ (flat_map-append list ins (bod ++ outs)
      ∙ (ap (λ z. z ++ flat_map list (bod ++ outs)) no-ins
      ∙ (flat_map-append list bod outs
      ∙ (ap (λ z. flat_map list bod ++ z) no-outs ∙ append-nil (flat_map list bod)))))
