-- A flat design with a path within its limit has no more levels than there are.
use Rattle.std.proofs.Common.{◌≡◌, ℕ, zero, suc, ◌+◌, ◌*◌, ◌<◌, ◌≤◌, Bool, true, false, if◌then◌else◌, ◌⊎◌, inl, inr, List, [], ◌∷◌, ◌++◌, length, Option, Some, None, Result, Ok, Err, refl, sym, ap, ◌∙◌, subst, arith}
use Rattle.std.specs.Prelude.{fold, flat_map, All}
use Rattle.std.specs.Option.{option_map_or}
use Rattle.std.specs.Str.{bytes_eq}
use Rattle.std.proofs.lemmas.Bool.Decides.{nat_tests}
use Rattle.std.proofs.lemmas.List.{length-append}
use Rattle.std.proofs.lemmas.List.Elements.{All-head, All-tail}
use Rattle.vl_flat.specs.vl_base.specs.declared.place.Place.{Place}
use Rattle.vl_flat.specs.vl_design.specs.declared.stop.Stop.{Stop}
use Rattle.vl_flat.specs.Items as x
use Rattle.vl_flat.specs.vl_design.specs.Placed as p
use Rattle.vl_flat.specs.vl_design.specs.Stops.{limit_if, is_before, earliest}
use Rattle.vl_flat.specs.Scopes.{Env, none}
use Rattle.vl_flat.specs.Environments.{Counts, Given, Known, plus, times, no_more, new_ones, item_counts, module_counts, module_named, size, environment, with_item}
use Rattle.vl_flat.specs.Kinds.{signals_in, signals_of}
use Rattle.vl_flat.specs.Processes.{Here, signals}
use Rattle.vl_flat.specs.Connections.{given, override_faults}
use Rattle.vl_flat.specs.Flat as f
use Rattle.vl_flat.specs.Flat.{instance}
use Rattle.vl_flat.specs.Outcome as o
use Rattle.vl_flat.specs.Outcome.{◌>>=◌}
use Rattle.vl_sound.proofs.Lists.{Each, each-from, each-left, each-right, found-holds}
use Rattle.vl_sound.specs.Levels.{parts_at, IsSpelt, AreSpelt}
use Rattle.vl_flat.specs.vl_base.proofs.Lists.{append_none_right as nothing-right, append_none_left as nothing-left}

-- ---- parts without a fault

abbrev pub NoFault : f.Part → Type 0
NoFault a = a.faults ≡ []

if-some : (c : Bool) (y e : Stop) → (z : Stop) × ((if c then Some y else Some e) ≡ Some z)
if-some true y e = (y, refl)
if-some false y e = (e, refl)

some-earliest : (xs : List Stop) (e : Stop) → earliest (Some e) xs ≡ None → ⊥
some-earliest [] e h = cc
some-earliest (y ∷ xs) e h = let z = if-some (is_before y e) y e in some-earliest xs z.0 (ap (λ o. earliest o xs) (sym z.1) ∙ h)

none-earliest : (xs : List Stop) → earliest None xs ≡ None → xs ≡ []
none-earliest [] h = refl
none-earliest (y ∷ xs) h = absurd (some-earliest xs y h)

passed-none : (t z : o.Totals) (q : Option Stop) → o.passed t q ≡ Ok z → q ≡ None
passed-none t z None h = refl
passed-none t z (Some e) h = absurd cc

bound-first : {A B : Type 0} (r : Result A Stop) (g : A → Result B Stop) (y : B) → (r >>= g) ≡ Ok y → (z : A) × (r ≡ Ok z) × (g z ≡ Ok y)
bound-first (Ok z) g y h = (z, refl, h)
bound-first (Err e) g y h = absurd cc

pub judged-clear : (n : o.Totals) (parts : List f.Part) (t : o.Totals) → o.judged n parts ≡ Ok t → Each NoFault parts
unfolding Each
judged-clear n [] t h = tt
judged-clear n (a ∷ parts) t h =
    let first = bound-first (o.judged_part n a) (λ z. o.judged z parts) t h in
    let stop = passed-none (o.with_part n a) first.0 (o.part_stop n a) first.1 in
    let all = none-earliest (o.instance_limits n a.begins ++ (o.signals_limits n a.signals ++ a.faults)) stop in (
      nothing-right (o.signals_limits n a.signals) a.faults (nothing-right (o.instance_limits n a.begins) (o.signals_limits n a.signals ++ a.faults) all),
      judged-clear first.0 parts t first.2,
    )

-- ---- paths

limit-clear : (c : Bool) (at : Place) (n : ℕ) → limit_if c at n ≡ [] → c ≡ false
limit-clear true at n h = absurd cc
limit-clear false at n h = refl

short-path : (path : List ℕ) → f.is_long_path path ≡ false → length path ≤ 255
short-path path h = grind (arith, nat_tests)

begun-short : (env : Env) (g : Given) (us : x.Instances) → NoFault (f.beginning env g us) → length g.path ≤ 255
begun-short env g us h = short-path g.path (limit-clear (f.is_long_path g.path) us.place 11 (nothing-left (limit_if (f.is_long_path g.path) us.place 11) (override_faults env us) h))

-- ---- sizes that agree on the items

size-none : (n : ℕ) (ms : List x.Module) (t : List ℕ) → module_named ms t ≡ None → size n ms t ≡ no_more
unfolding size
size-none zero ms t e = refl
size-none (suc n) ms t e = ap (λ (q : Option x.Module). option_map_or (module_counts (size n ms)) q no_more) e

size-some : (n : ℕ) (ms : List x.Module) (t : List ℕ) (m : x.Module) → module_named ms t ≡ Some m → size (suc n) ms t ≡ module_counts (size n ms) m
unfolding size
size-some n ms t m e = ap (λ (q : Option x.Module). option_map_or (module_counts (size n ms)) q no_more) e

times-none : (a e : Counts) → times 0 a ≡ times 0 e
times-none a e =
    let p : 0 * a.signals ≡ 0 * e.signals = omega arith in
    let q : 0 * a.functions ≡ 0 * e.functions = omega arith in
    ap (λ z. record { signals = z; functions = 0 * a.functions }) p ∙ ap (λ z. record { signals = 0 * e.signals; functions = z }) q

module _ (one other : List ℕ → Counts) (g : Given) (m : x.Module) where
  Agree : List x.Item → Type 0
  Agree items = Each (λ item. item_counts one item ≡ item_counts other item) items

  step-same : (k : Known) (item : x.Item) → item_counts one item ≡ item_counts other item → with_item one g m k item ≡ with_item other g m k item
  step-same k (x.Parameters type ps) h = refl
  step-same k (x.Signals ds) h = refl
  step-same k (x.Functions a) h = refl
  step-same k (x.Assigns as') h = refl
  step-same k (x.Initial at a) h = refl
  step-same k (x.Always at trigger a) h = refl
  step-same k (x.Instantiates us) h = ap (λ (z : Counts). record k { next = plus k.next z }) h

  known-same : (items : List x.Item) (k : Known) → Agree items → fold (with_item one g m) k items ≡ fold (with_item other g m) k items
  unfolding Agree Each
  known-same [] k h = refl
  known-same (item ∷ items) k h = known-same items (with_item one g m k item) h.1 ∙ ap (λ z. fold (with_item other g m) z items) (step-same k item h.0)

  counts-same : (items : List x.Item) (c : Counts) → Agree items → fold (λ (z : Counts) item. plus z (item_counts one item)) c items ≡ fold (λ (z : Counts) item. plus z (item_counts other item)) c items
  unfolding Agree Each
  counts-same [] c h = refl
  counts-same (item ∷ items) c h =
      counts-same items (plus c (item_counts one item)) h.1
      ∙ ap (λ y. fold (λ (z : Counts) i. plus z (item_counts other i)) (plus c y) items) h.0

-- ---- levels

module _ (ms : List x.Module) where
  -- an instance with so many levels has the parts, and its module the size, that it has with more
  abbrev Deep : ℕ → ℕ → Type 0
  Deep k n =
      (above : Here) (base : Counts) (us : x.Instances) (u : x.NamedUnit) (of : x.Module) → module_named ms us.definition ≡ Some of
      → 257 ≤ length above.path + 2 * k → (length above.path ≤ 255) ⊎ (0 < k) → 0 < length u.name.name → Each NoFault (instance k ms above base us u of)
      → (instance k ms above base us u of ≡ instance n ms above base us u of) × (size k ms us.definition ≡ size n ms us.definition)

  module _ (k n : ℕ) (deep : Deep k n) (spot : Here) (deep-path : 257 ≤ length spot.path + 2 * k) (short : (length spot.path ≤ 255) ⊎ (0 < k)) (g : Given) (m : x.Module) where
    abbrev with-k : List x.NamedUnit → x.Instances → x.Module → Counts → List f.Part
    with-k units us of base = f.instances (instance k ms) spot base us of (size k ms us.definition) units

    abbrev with-n : List x.NamedUnit → x.Instances → x.Module → Counts → List f.Part
    with-n units us of base = f.instances (instance n ms) spot base us of (size n ms us.definition) units

    units-agree : (us : x.Instances) (of : x.Module) → module_named ms us.definition ≡ Some of → (units : List x.NamedUnit) (base : Counts) → All (λ u. 0 < length u.name.name) units
        → Each NoFault (with-k units us of base) → with-k units us of base ≡ with-n units us of base
    units-agree us of is [] base names clear = refl
    units-agree us of is (u ∷ others) base names clear =
        let first = instance k ms spot base us u of in
        let more = with-k others us of (plus base (size k ms us.definition)) in
        let one = deep spot base us u of is deep-path short (All-head (λ (v : x.NamedUnit). 0 < length v.name.name) u others names) (each-left NoFault first more clear) in
        let rest = units-agree us of is others (plus base (size k ms us.definition)) (All-tail (λ (v : x.NamedUnit). 0 < length v.name.name) u others names) (each-right NoFault first more clear) in
        ap (λ z. z ++ more) one.0
        ∙ (ap (λ z. instance n ms spot base us u of ++ z) rest
        ∙ ap (λ z. instance n ms spot base us u of ++ with-n others us of (plus base z)) one.1)

    sizes-agree : (us : x.Instances) (of : x.Module) → module_named ms us.definition ≡ Some of → (units : List x.NamedUnit) (base : Counts) → All (λ u. 0 < length u.name.name) units
        → Each NoFault (with-k units us of base) → times (length units) (size k ms us.definition) ≡ times (length units) (size n ms us.definition)
    sizes-agree us of is [] base names clear = times-none (size k ms us.definition) (size n ms us.definition)
    sizes-agree us of is (u ∷ others) base names clear =
        let first = instance k ms spot base us u of in
        let more = with-k others us of (plus base (size k ms us.definition)) in
        let one = deep spot base us u of is deep-path short (All-head (λ (v : x.NamedUnit). 0 < length v.name.name) u others names) (each-left NoFault first more clear) in
        ap (times (length (u ∷ others))) one.1

    item-agree : (item : x.Item) (next : Counts) → IsSpelt item → Each NoFault (f.item_parts (instance k ms) (size k ms) ms spot g next item)
        → (f.item_parts (instance k ms) (size k ms) ms spot g next item ≡ f.item_parts (instance n ms) (size n ms) ms spot g next item) × (item_counts (size k ms) item ≡ item_counts (size n ms) item)
    item-agree (x.Parameters type ps) next names clear = (refl, refl)
    item-agree (x.Signals ds) next names clear = (refl, refl)
    item-agree (x.Functions a) next names clear = (refl, refl)
    item-agree (x.Assigns as') next names clear = (refl, refl)
    item-agree (x.Initial at a) next names clear = (refl, refl)
    item-agree (x.Always at trigger a) next names clear = (refl, refl)
    item-agree (x.Instantiates us) next names clear = by (module_named ms us.definition) refl
      where
        of-k : x.Module → List f.Part
        of-k of = with-k us.units us of next

        of-n : x.Module → List f.Part
        of-n of = with-n us.units us of next

        by : (q : Option x.Module) → module_named ms us.definition ≡ q
            → (option_map_or of-k (module_named ms us.definition) [] ≡ option_map_or of-n (module_named ms us.definition) [])
            × (times (length us.units) (size k ms us.definition) ≡ times (length us.units) (size n ms us.definition))
        by None e = (
          ap (λ (o : Option x.Module). option_map_or of-k o []) e ∙ sym (ap (λ (o : Option x.Module). option_map_or of-n o []) e),
          ap (times (length us.units)) (size-none k ms us.definition e ∙ sym (size-none n ms us.definition e)),
        )
        by (Some of) e =
            let is-k : option_map_or of-k (module_named ms us.definition) [] ≡ of-k of = ap (λ (o : Option x.Module). option_map_or of-k o []) e in
            let is-n : option_map_or of-n (module_named ms us.definition) [] ≡ of-n of = ap (λ (o : Option x.Module). option_map_or of-n o []) e in
            let now = subst (Each NoFault) is-k clear in
            (is-k ∙ (units-agree us of e us.units next names now ∙ sym is-n), sizes-agree us of e us.units next names now)

    items-agree : (items : List x.Item) (next : Counts) → Each IsSpelt items → Each NoFault (f.items_parts (instance k ms) (size k ms) ms spot g next items)
        → (f.items_parts (instance k ms) (size k ms) ms spot g next items ≡ f.items_parts (instance n ms) (size n ms) ms spot g next items) × Agree (size k ms) (size n ms) g m items
    unfolding Agree Each
    items-agree [] next names clear = (refl, tt)
    items-agree (item ∷ items) next names clear =
        let first = f.item_parts (instance k ms) (size k ms) ms spot g next item in
        let behind-k = f.behind_item (size k ms) spot next item in
        let behind-n = f.behind_item (size n ms) spot next item in
        let more = f.items_parts (instance k ms) (size k ms) ms spot g behind-k items in
        let one = item-agree item next names.0 (each-left NoFault first more clear) in
        let rest = items-agree items behind-k names.1 (each-right NoFault first more clear) in
        let behind : behind-k ≡ behind-n = ap (λ z. plus (plus next (record { signals = length (signals spot next.signals (signals_in item)); functions = 0 })) z) one.1 in (
          ap (λ z. z ++ more) one.0
              ∙ (ap (λ z. f.item_parts (instance n ms) (size n ms) ms spot g next item ++ z) rest.0
              ∙ ap (λ z. f.item_parts (instance n ms) (size n ms) ms spot g next item ++ f.items_parts (instance n ms) (size n ms) ms spot g z items) behind),
          (one.1, rest.1),
        )

  -- the connections of an instance around what its items stand for
  abbrev around : Here → x.Instances → x.NamedUnit → x.Module → Given → Env → List f.Part → List f.Part
  around above us u m g env inside =
      f.beginning above.env g us ∷ (flat_map (λ t. f.input_part above env m u t.name) m.ports ++ (inside ++ flat_map (λ t. f.output_part above env m u t.name) m.ports))

  abbrev inside-of : ℕ → ℕ → Given → x.Module → Env → List f.Part
  inside-of n behind g m env = f.body (instance n ms) (size n ms) ms behind env g m

  -- an environment and the items' parts
  body-agrees : (k n : ℕ) → Deep k n → (behind : ℕ) (g : Given) (m : x.Module) → 257 ≤ length g.path + 2 * k → (length g.path ≤ 255) ⊎ (0 < k) → AreSpelt m
      → Each NoFault (inside-of k behind g m (environment (size k ms) g m))
      → (inside-of k behind g m (environment (size k ms) g m) ≡ inside-of n behind g m (environment (size k ms) g m)) × (environment (size k ms) g m ≡ environment (size n ms) g m)
      × (module_counts (size k ms) m ≡ module_counts (size n ms) m)
  body-agrees k n deep behind g m path short names clear =
      let env = environment (size k ms) g m in
      let spot : Here = record { env = env; path = g.path; behind = behind } in
      let both = items-agree k n deep spot path short g m m.items g.base (each-from IsSpelt m.items names) clear in (
        both.0,
        ap (λ (z : Known). z.env) (known-same (size k ms) (size n ms) g m m.items (record { env = none; next = g.base }) both.1),
        counts-same (size k ms) (size n ms) g m m.items (record { signals = length (new_ones [] (signals_of m)); functions = 0 }) both.1,
      )

  deep : All AreSpelt ms → (k n : ℕ) → k ≤ n → Deep k n
  unfolding instance Each
  deep spelt zero n h above base us u of is path (inl short) name clear = absurd (omega (arith, path, short))
  deep spelt zero n h above base us u of is path (inr more) name clear = absurd (omega (arith, more))
  deep spelt (suc k) zero h above base us u of is path short name clear = absurd (omega (arith, h))
  deep spelt (suc k) (suc n) h above base us u of is path short name clear =
      let g = given above base us u of in
      let env-k = environment (size k ms) g of in
      let ins = flat_map (λ t. f.input_part above env-k of u t.name) of.ports in
      let outs = flat_map (λ t. f.output_part above env-k of u t.name) of.ports in
      let inside = inside-of k above.behind g of env-k in
      let here-short = begun-short above.env g us clear.0 in
      let longer : length g.path ≡ length above.path + (1 + length u.name.name) = omega (arith, length-append above.path (46 ∷ u.name.name)) in
      let both = body-agrees k n (deep spelt k n (omega (arith, h))) above.behind g of (omega (arith, longer, path, name)) (inl here-short) (found-holds AreSpelt (λ z. bytes_eq us.definition z.name.name) ms of spelt is)
      (each-left NoFault inside outs (each-right NoFault ins (inside ++ outs) clear.1)) in (
        ap (around above us u of g env-k) both.0 ∙ ap (λ z. around above us u of g z (inside-of n above.behind g of z)) both.1,
        size-some k ms us.definition of is ∙ (both.2 ∙ sym (size-some n ms us.definition of is)),
      )

-- ---- the top module

pub enough-levels : (ms : List x.Module) → All AreSpelt ms → (m : x.Module) → AreSpelt m → 0 < length m.name.name → (d : p.Design) → o.flattened_from ms m ≡ Ok d
    → (n : ℕ) → f.deepest ≤ n → parts_at n ms m ≡ f.parts_from ms m
enough-levels ms spelt m own name d e n more =
    let parts = f.parts_from ms m in
    let first = bound-first (o.judged o.nothing_yet parts) (λ t. Ok (f.design_of m parts)) d e in
    let clear = judged-clear o.nothing_yet parts first.0 first.1 in
    let behind = (f.whole ms m).signals in
    let both = body-agrees ms f.deepest n (deep ms spelt f.deepest n more) behind (f.top_given m) m (omega (arith, name)) (inr (omega arith)) own clear in
    sym (both.0 ∙ (ap (λ z. inside-of ms n behind (f.top_given m) m z) both.1 ∙ ap (λ (z : Counts). inside-of ms n z.signals (f.top_given m) m (environment (size n ms) (f.top_given m) m)) both.2))
