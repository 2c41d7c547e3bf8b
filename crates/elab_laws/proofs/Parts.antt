-- What holds of each part of a flat design: of each item of each of its instances, and of each connection of an instance in another.
use Rattle.std.proofs.Common.{◌≡◌, ℕ, zero, suc, List, [], ◌∷◌, ◌++◌, Option, Some, None, refl, sym, ap, ◌∙◌, subst}
use Rattle.std.specs.Prelude.{fold, flat_map, All}
use Rattle.std.specs.Option.{option_map_or}
use Rattle.std.proofs.lemmas.List.{append_assoc}
use Rattle.std.proofs.lemmas.List.Sums.{fold-append}
use Rattle.std.proofs.lemmas.List.Elements.{All-nil, All-cons, All-append}
use Rattle.vl_sound.specs.vl_tree.specs.declared.tree.Identifier.{Identifier}
use Rattle.vl_sound.specs.vl_scope.specs.Faults.{In}
use Rattle.vl_sound.specs.vl_scope.proofs.Members.{In-middle}
use Rattle.vl_sound.specs.vl_flat.specs.Items as i
use Rattle.vl_sound.specs.vl_flat.specs.Scopes.{Env}
use Rattle.vl_sound.specs.vl_flat.specs.Environments.{Counts, Given, plus, module_named, size, environment}
use Rattle.vl_sound.specs.vl_flat.specs.Processes.{Here}
use Rattle.vl_sound.specs.vl_flat.specs.Connections.{given}
use Rattle.vl_sound.specs.vl_flat.specs.Flat as f
use Rattle.vl_sound.specs.vl_flat.specs.Flat.{instance}
use Rattle.vl_sound.specs.Instances.{IsInstance, of_top, of_item, here_of}
use Rattle.vl_sound.proofs.Lists.{Each, each-left, each-right}
use Rattle.vl_sound.proofs.Depth.{NoFault}

-- each part without faults among parts without faults is so
abbrev pub Done : (f.Part → Type 0) → List f.Part → Type 0
Done G parts = Each NoFault parts → All G parts

module _ (G : f.Part → Type 0) where
  pub done-nil : Done G []
  done-nil h = All-nil G

  pub done-cons : (a : f.Part) (parts : List f.Part) → (NoFault a → G a) → Done G parts → Done G (a ∷ parts)
  unfolding Each
  done-cons a parts g rest h = All-cons G a parts (g h.0) (rest h.1)

  done-append : (xs ys : List f.Part) → Done G xs → Done G ys → Done G (xs ++ ys)
  done-append xs ys g j h = All-append G xs ys (g (each-left NoFault xs ys h)) (j (each-right NoFault xs ys h))

  done-flat : {A : Type 0} (part : A → List f.Part) → ((y : A) → Done G (part y)) → (xs : List A) → Done G (flat_map part xs)
  done-flat part g [] = done-nil
  done-flat part g (y ∷ xs) = done-append (part y) (flat_map part xs) (g y) (done-flat part g xs)

-- an element behind others
behind-in : {A : Type 0} (xs before after : List A) (y : A) → xs ≡ before ++ y ∷ after → In y xs
behind-in xs before after y is = subst (In y) (sym is) (In-middle y before after)

-- what the parts of the instances need
pub record Needs (ms : List i.Module) (top : i.Module) (G : f.Part → Type 0) : Type 0 where
  pub begins : (above : Env) (g : Given) (us : i.Instances) → G (f.beginning above g us)
  pub item : (n : ℕ) (g : Given) (m : i.Module) → IsInstance ms top n g m → (y : i.Item) → In y m.items → (next : ℕ)
      → NoFault (f.item_part (here_of n ms top g m) g next y) → G (f.item_part (here_of n ms top g m) g next y)
  pub input : (n : ℕ) (g : Given) (m : i.Module) → IsInstance ms top (suc n) g m → (own : Given) (of : i.Module) → IsInstance ms top n own of
      → (us : i.Instances) → In (i.Instantiates us) m.items → (y : i.NamedUnit) → In y us.units → (t : List ℕ)
      → Done G (f.input_part (here_of (suc n) ms top g m) (environment (size n ms) own of) of y t)
  pub output : (n : ℕ) (g : Given) (m : i.Module) → IsInstance ms top (suc n) g m → (own : Given) (of : i.Module) → IsInstance ms top n own of
      → (us : i.Instances) → In (i.Instantiates us) m.items → (y : i.NamedUnit) → In y us.units → (t : List ℕ)
      → Done G (f.output_part (here_of (suc n) ms top g m) (environment (size n ms) own of) of y t)

module _ (ms : List i.Module) (top : i.Module) (G : f.Part → Type 0) (needs : Needs ms top G) where
  abbrev next-of : ℕ → Given → i.Module → List i.Item → Counts
  next-of n g m before = fold (f.behind_item (size n ms) (here_of n ms top g m)) g.base before

  abbrev base-of : ℕ → Given → i.Module → List i.Item → i.Instances → List i.NamedUnit → Counts
  base-of n g m before us first = fold (λ (z : Counts) (v : i.NamedUnit). plus z (size n ms us.definition)) (next-of n g m before) first

  -- the units of an instance in which others stand so deep
  abbrev Inner : ℕ → Type 0
  Inner n =
      (g : Given) (m of : i.Module) (before after : List i.Item) (us : i.Instances) (first others : List i.NamedUnit) (y : i.NamedUnit)
      → IsInstance ms top n g m → m.items ≡ before ++ i.Instantiates us ∷ after → us.units ≡ first ++ y ∷ others → module_named ms us.definition ≡ Some of
      → Done G (f.instance n ms (here_of n ms top g m) (base-of n g m before us first) us y of)

  -- ---- the items of an instance

  module _ (n : ℕ) (inner : Inner n) (g : Given) (m : i.Module) (h : IsInstance ms top n g m) where
    abbrev spot : Here
    spot = here_of n ms top g m

    units-done : (of : i.Module) (before after : List i.Item) (us : i.Instances) → m.items ≡ before ++ i.Instantiates us ∷ after → module_named ms us.definition ≡ Some of
        → (first units : List i.NamedUnit) → us.units ≡ first ++ units → (base : Counts) → base ≡ base-of n g m before us first
        → Done G (f.instances (f.instance n ms) spot base us of (size n ms us.definition) units)
    units-done of before after us is named first [] split base at = done-nil G
    units-done of before after us is named first (y ∷ units) split base at =
        done-append G (f.instance n ms spot base us y of) (f.instances (f.instance n ms) spot (plus base (size n ms us.definition)) us of (size n ms us.definition) units)
        (subst (λ z. Done G (f.instance n ms spot z us y of)) (sym at) (inner g m of before after us first units y h is split named))
        (units-done of before after us is named (first ++ y ∷ []) units (split ∙ sym (append_assoc first (y ∷ []) units)) (plus base (size n ms us.definition))
        (ap (λ z. plus z (size n ms us.definition)) at ∙ sym (fold-append (λ (z : Counts) (v : i.NamedUnit). plus z (size n ms us.definition)) (next-of n g m before) first (y ∷ []))))

    item-done : (before after : List i.Item) (item : i.Item) → m.items ≡ before ++ item ∷ after → (next : Counts) → next ≡ next-of n g m before
        → Done G (f.item_parts (f.instance n ms) (size n ms) ms spot g next item)
    item-done before after (i.Instantiates us) is next at = by (module_named ms us.definition) refl
      where
        by : (q : Option i.Module) → module_named ms us.definition ≡ q → Done G (option_map_or (λ m. f.instances (f.instance n ms) spot next us m (size n ms us.definition) us.units) q [])
        by None named = done-nil G
        by (Some of) named = units-done of before after us is named [] us.units refl next at
    item-done before after item is next at =
        done-cons G (f.item_part spot g next.signals item) [] (λ clear. needs.item n g m h item (behind-in m.items before after item is) next.signals clear) (done-nil G)

    items-done : (before items : List i.Item) → m.items ≡ before ++ items → (next : Counts) → next ≡ next-of n g m before
        → Done G (f.items_parts (f.instance n ms) (size n ms) ms spot g next items)
    items-done before [] is next at = done-nil G
    items-done before (item ∷ items) is next at =
        let behind = f.behind_item (size n ms) spot next item in
        done-append G (f.item_parts (f.instance n ms) (size n ms) ms spot g next item) (f.items_parts (f.instance n ms) (size n ms) ms spot g behind items)
        (item-done before items item is next at)
        (items-done (before ++ item ∷ []) items (is ∙ sym (append_assoc before (item ∷ []) items)) behind
        (ap (λ z. f.behind_item (size n ms) spot z item) at ∙ sym (fold-append (f.behind_item (size n ms) spot) g.base before (item ∷ []))))

    body-done : Done G (f.body (f.instance n ms) (size n ms) ms (f.whole ms top).signals (environment (size n ms) g m) g m)
    body-done = items-done [] m.items refl g.base refl

  -- ---- instances

  inner-none : Inner zero
  unfolding instance
  inner-none g m of before after us first others y h is split named = done-nil G

  inner-more : (n : ℕ) → Inner n → Inner (suc n)
  unfolding instance
  inner-more n inner g m of before after us first others y h is split named =
      let above = here_of (suc n) ms top g m in
      let base = base-of (suc n) g m before us first in
      let own = given above base us y of in
      let env = environment (size n ms) own of in
      let inside = of_item n g m of before after us first others y h is split named in
      let there = behind-in m.items before after (i.Instantiates us) is in
      let unit = behind-in us.units first others y split in
      let ins = flat_map (λ t. f.input_part above env of y t.name) of.ports in
      let bod = f.body (f.instance n ms) (size n ms) ms above.behind env own of in
      let outs = flat_map (λ t. f.output_part above env of y t.name) of.ports in
      done-cons G (f.beginning above.env own us) (ins ++ (bod ++ outs)) (λ clear. needs.begins above.env own us)
      (done-append G ins (bod ++ outs)
      (done-flat G (λ (t : Identifier). f.input_part above env of y t.name) (λ t. needs.input n g m h own of inside us there y unit t.name) of.ports)
      (done-append G bod outs (body-done n inner own of inside)
      (done-flat G (λ (t : Identifier). f.output_part above env of y t.name) (λ t. needs.output n g m h own of inside us there y unit t.name) of.ports)))

  all-inner : (n : ℕ) → Inner n
  all-inner zero = inner-none
  all-inner (suc n) = inner-more n (all-inner n)

  pub all-done : Done G (f.parts_from ms top)
  all-done = body-done f.deepest (all-inner f.deepest) (f.top_given top) top of_top
