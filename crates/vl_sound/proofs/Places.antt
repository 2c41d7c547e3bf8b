-- In a flat design the signals of each instance stand together, from its first number on.
use Rattle.std.proofs.Common.{◌≡◌, ℕ, suc, ◌+◌, List, [], ◌∷◌, ◌++◌, length, Some, Ok, refl, sym, ap, ◌∙◌, subst, arith}
use Rattle.std.specs.Prelude.{slice_get, fold, All}
use Rattle.std.specs.Str.{bytes_eq}
use Rattle.std.proofs.lemmas.List.Sums.{fold-append}
use Rattle.std.proofs.lemmas.List.{length-append}
use Rattle.vl_flat.specs.vl_tree.specs.declared.tree.Identifier.{Identifier}
use Rattle.vl_flat.specs.vl_design.specs.declared.design.Signal.{Signal}
use Rattle.vl_flat.specs.declared.binding.Binding.TheVariants as b
use Rattle.vl_flat.specs.declared.binding.Shape.{Shape}
use Rattle.vl_flat.specs.Scopes.{none}
use Rattle.vl_flat.specs.Items as x
use Rattle.vl_flat.specs.Kinds.{signals_in, signals_of}
use Rattle.vl_flat.specs.Environments.{Counts, Given, Known, plus, module_named, size, environment, with_item}
use Rattle.vl_flat.specs.Functions.{signal}
use Rattle.vl_flat.specs.Connections.{given}
use Rattle.vl_flat.specs.Flat.{instance}
use Rattle.vl_flat.specs.Flat as f
use Rattle.vl_flat.specs.vl_design.specs.Placed as p
use Rattle.vl_flat.specs.Outcome as o
use Rattle.vl_sound.proofs.Lists.{Stands-at, stands-part, Each, each-from, each-left, each-right, found-holds}
use Rattle.vl_sound.proofs.Splits.{base-units, split-parts}
use Rattle.vl_sound.specs.Apart.{IsApart, AreApart}
use Rattle.vl_sound.specs.Instances.{IsInstance, of_top, of_item, here_of}
use Rattle.vl_sound.proofs.Numbers.{all-items, body-adds, design-is, here, Inside, instance-adds, instance-sigs, items-between, items-stay, sigs, size-absent, units-add}

module _ (ms : List x.Module) (top : x.Module) (whole : List Signal) (apart : All AreApart ms) where
  behind-all : ℕ
  behind-all = (f.whole ms top).signals

  body-of : ℕ → Given → x.Module → List f.Part
  body-of n g m = f.body (f.instance n ms) (size n ms) ms behind-all (environment (size n ms) g m) g m

  -- an instance's signals stand together
  record Together (n : ℕ) (g : Given) (m : x.Module) : Type 0 where
    own-names : AreApart m
    stands : Stands-at whole g.base.signals (sigs (body-of n g m))

  unit-together : (n : ℕ) (g : Given) (m of : x.Module) (before after : List x.Item) (us : x.Instances) (first others : List x.NamedUnit) (u : x.NamedUnit)
      → Together (suc n) g m → m.items ≡ before ++ x.Instantiates us ∷ after → us.units ≡ first ++ u ∷ others → module_named ms us.definition ≡ Some of
      → Together n (given (here_of (suc n) ms top g m)
      (fold (λ (z : Counts) (v : x.NamedUnit). plus z (size (suc n) ms us.definition)) (fold (f.behind_item (size (suc n) ms) (here_of (suc n) ms top g m)) g.base before) first) us u of) of
  unfolding behind-all body-of here
  unit-together n g m of before after us first others u h is split named =
      let sizes = size (suc n) ms in
      let env = environment sizes g m in
      let spot = here_of (suc n) ms top g m in
      let inner = f.instance (suc n) ms in
      let c = (sizes us.definition).signals in
      let added = instance-adds (suc n) ms apart spot in
      let absent = size-absent (suc n) ms in
      let next = fold (f.behind_item sizes spot) g.base before in
      let base = fold (λ (z : Counts) (v : x.NamedUnit). plus z (sizes us.definition)) next first in
      let start : Known = record { env = none; next = g.base } in
      let front = all-items sizes g m env behind-all ms inner added absent before g.base.signals [] [] start g.base refl
      (each-left (IsApart (signals_of m)) before (x.Instantiates us ∷ after) (subst (λ z. Each (IsApart (signals_of m)) z) is (each-from (IsApart (signals_of m)) m.items h.own-names)))
      (each-left (λ item. Each (λ d. Inside sizes g m d.name.name) (signals_in item)) before (x.Instantiates us ∷ after)
      (subst (λ z. Each (λ item. Each (λ d. Inside sizes g m d.name.name) (signals_in item)) z) is (items-between [] m.items)))
      (record { len = omega arith; at = λ t k s e. absurd cc; only = λ t i y e. absurd cc; names = λ t i. refl })
      (λ t i y e. subst (λ (z : List x.Item). (fold (with_item sizes g m) start z).env t ≡ Some y) (sym is)
      (subst (λ (z : Known). z.env t ≡ Some y) (sym (fold-append (with_item sizes g m) start before (x.Instantiates us ∷ after)))
      (items-stay sizes g m env behind-all ms inner added absent (x.Instantiates us ∷ after) (fold (with_item sizes g m) start before)
      (each-right (IsApart (signals_of m)) before (x.Instantiates us ∷ after) (subst (λ z. Each (IsApart (signals_of m)) z) is (each-from (IsApart (signals_of m)) m.items h.own-names))) t i y e))) in
      let P = f.items_parts inner sizes ms spot g g.base before in
      let R = f.items_parts inner sizes ms spot g (f.behind_item sizes spot next (x.Instantiates us)) after in
      let F = f.instances inner spot next us of (sizes us.definition) first in
      let X = inner spot base us u of in
      let O = f.instances inner spot (plus base (sizes us.definition)) us of (sizes us.definition) others in
      let front-length : length (sigs P) ≡ length front.own = ap (length {A = Signal}) front.emits in
      let next-is : next.signals ≡ g.base.signals + length (sigs P) = omega (arith, front.next-are, front.stands.len, front-length) in
      let first-length = units-add sizes g m env behind-all ms inner added absent us of named first next in
      let base-is = base-units (λ (c : Counts). c.signals) (λ a c. refl) (sizes us.definition) first next in
      let shape = split-parts (λ (a : f.Part). a.signals) inner sizes ms spot g before after us of first others u m.items is split named in
      record {
        own-names = found-holds AreApart (λ z. bytes_eq us.definition z.name.name) ms of apart named;
        stands = subst (λ z. Stands-at whole base.signals z) (instance-sigs n ms spot base us u of)
            (stands-part whole (sigs P ++ sigs F) (sigs X) (sigs O ++ sigs R) g.base.signals base.signals (subst (λ z. Stands-at whole g.base.signals z) shape h.stands)
            (omega (arith, base-is, next-is, first-length, length-append (sigs P) (sigs F))));
      }

  all-together : Together f.deepest (f.top_given top) top → (n : ℕ) (g : Given) (m : x.Module) → IsInstance ms top n g m → Together n g m
  all-together start n g m of_top = start
  all-together start n g m (of_item n' g' m' of' before after us first others u h is split named) =
      unit-together n' g' m' of' before after us first others u (all-together start (suc n') g' m' h) is split named

  place-of : (n : ℕ) (g : Given) (m : x.Module) → Together n g m → (t : List ℕ) (k : ℕ) (s : Shape) → environment (size n ms) g m t ≡ Some (b.Signal k s)
      → (name : Identifier) × (name.name ≡ t) × (slice_get whole k ≡ Some (signal g.path name s))
  unfolding behind-all body-of
  place-of n g m h t k s e =
      let body = body-adds n ms behind-all g m h.own-names (instance-adds n ms apart) in
      let at = body.at t k s e in
      let there : slice_get (sigs (body-of n g m)) at.i ≡ Some (signal g.path at.name s) = ap (λ z. slice_get z at.i) body.emits ∙ at.there in
      (at.name, at.spelt, ap (slice_get whole) at.is ∙ h.stands at.i (signal g.path at.name s) there)

-- in the flat design each instance's names stand where their numbers say
pub places : (ms : List x.Module) (top : x.Module) → All AreApart ms → AreApart top
    → (d : p.Design) → o.flattened_from ms top ≡ Ok d → (n : ℕ) (g : Given) (m : x.Module) → IsInstance ms top n g m
    → (t : List ℕ) (k : ℕ) (s : Shape) → environment (size n ms) g m t ≡ Some (b.Signal k s)
    → (name : Identifier) × (name.name ≡ t) × (slice_get d.signals k ≡ Some (signal g.path name s))
unfolding behind-all body-of
places ms top apart own d is n g m h =
    let parts = f.parts_from ms top in
    let design = design-is (o.judged o.nothing_yet parts) (f.design_of top parts) d is in
    let start : Together ms top d.signals apart f.deepest (f.top_given top) top = record {
      own-names = own;
      stands = λ i r e. let zero-first : i ≡ 0 + i = omega arith in
          subst (λ z. slice_get d.signals z ≡ Some r) zero-first (subst (λ (z : p.Design). slice_get z.signals i ≡ Some r) design e);
    } in
    place-of ms top d.signals apart n g m (all-together ms top d.signals apart start n g m h)
