-- The first fault of a flat design doesn't depend on how many signals and functions modules have: without processes and functions
-- its parts are the same, whatever numbers names have.
use Rattle.std.proofs.Common.{◌≡◌, ℕ, zero, suc, Bool, true, false, if◌then◌else◌, List, [], ◌∷◌, ◌++◌, map, Option, Some, None, refl, sym, ap, ◌∙◌, ◌&&◌, not}
use Rattle.std.specs.Prelude.{fold, flat_map, is_some, All}
use Rattle.std.specs.Option.{option_map_or}
use Rattle.std.specs.Str.{bytes_eq}
use Rattle.std.proofs.lemmas.List.{map-append}
use Rattle.vl_flat.specs.vl_tree.specs.declared.tree.Identifier.{Identifier}
use Rattle.vl_flat.specs.vl_design.specs.declared.stop.Stop.{Stop}
use Rattle.vl_flat.specs.vl_design.specs.declared.design.Signal.{Signal}
use Rattle.vl_flat.specs.vl_design.specs.Stops.{limit_if}
use Rattle.vl_flat.specs.vl_design.specs.Placed as p
use Rattle.vl_flat.specs.declared.binding.Binding.{Binding}
use Rattle.vl_flat.specs.Surface.{Ex}
use Rattle.vl_flat.specs.Items as t
use Rattle.vl_flat.specs.Scopes.{Env, none}
use Rattle.vl_flat.specs.Kinds.{signals_in, signals_of, is_input}
use Rattle.vl_flat.specs.Environments.{Counts, Given, Known, plus, no_more, module_counts, module_named, size, environment, with_item}
use Rattle.vl_flat.specs.Functions.{dotted}
use Rattle.vl_flat.specs.Processes.{Here, signals, item_faults}
use Rattle.vl_flat.specs.Connections as c
use Rattle.vl_flat.specs.Flat as f
use Rattle.vl_flat.specs.Outcome as o
use Rattle.vl_flat.specs.Outcome.{◌>>=◌}
use Rattle.vl_sound.specs.Apart.{IsApart, AreApart}
use Rattle.vl_sound.proofs.Lists.{Each, each-from, found-holds}
use Rattle.vl_sound.proofs.Numbers.{items-between}
use Rattle.vl_sound.specs.Sized.{Sizes, instance_by, parts_by}
use Rattle.vl_sound.proofs.DeclaredOfAlike.{override-kept, override-faults-kept, clock-names-kept, clock-binding-kept, input-faults-kept, output-faults-kept}
use Rattle.vl_sound.proofs.NamesOfAlike.{SameNames, through, some-same, GivenAlike, item-alike, environment-alike, faults-alike}
use Rattle.vl_sound.proofs.NumbersOfAlike.{Inside, Below, Lasts, firsts, firsts-kept, One, one-item, items-stay}

-- what a part is judged by
abbrev pub judged_by : f.Part → f.Part
judged_by a = record { signals = a.signals; funcs = []; processes = []; faults = a.faults; begins = a.begins }

abbrev pub SameParts : List f.Part → List f.Part → Type 0
SameParts xs ys = map judged_by xs ≡ map judged_by ys

pub judged-same : (parts : List f.Part) (n : o.Totals) → o.judged n (map judged_by parts) ≡ o.judged n parts
judged-same [] n = refl
judged-same (a ∷ parts) n = λ i. o.judged_part n a >>= (λ z. judged-same parts z i)

same-append : (a c d e : List f.Part) → SameParts a c → SameParts d e → SameParts (a ++ d) (c ++ e)
same-append a c d e h k = map-append judged_by a d ∙ ((λ i. h i ++ k i) ∙ sym (map-append judged_by c e))

same-flat : {A : Type 0} (one other : A → List f.Part) → ((y : A) → SameParts (one y) (other y)) → (ys : List A) → SameParts (flat_map one ys) (flat_map other ys)
same-flat one other h [] = refl
same-flat one other h (y ∷ ys) = same-append (one y) (other y) (flat_map one ys) (flat_map other ys) (h y) (same-flat one other h ys)

same-if : (q r : Bool) (a c : List f.Part) → q ≡ r → SameParts a c → SameParts (if q then a else []) (if r then c else [])
same-if true true a c e h = h
same-if false false a c e h = refl
same-if true false a c e h = absurd cc
same-if false true a c e h = absurd cc

same-unless : (q : Bool) (a c : List f.Part) → SameParts a c → SameParts (if q then [] else a) (if q then [] else c)
same-unless true a c h = refl
same-unless false a c h = h

-- ---- connections

connected : (q : Option Ex) (one other : Ex → p.Process) (y z : Ex → List Stop) → ((a : Ex) → y a ≡ z a)
    → SameParts (option_map_or (λ a. f.connection (one a ∷ []) (y a) ∷ []) q []) (option_map_or (λ a. f.connection (other a ∷ []) (z a) ∷ []) q [])
connected None one other y z h = refl
connected (Some a) one other y z h = λ i. record { signals = []; funcs = []; processes = []; faults = h a i; begins = [] } ∷ []

module _ (above spot : Here) (same : SameNames above.env spot.env) (env names : Env) (inner : SameNames env names) (m : t.Module) (u : t.NamedUnit) where
  input-same : (n : List ℕ) → SameParts (f.input_part above env m u n) (f.input_part spot names m u n)
  input-same n =
      same-if (is_input m n && not (c.is_clock_binding (env n))) (is_input m n && not (c.is_clock_binding (names n))) _ _
      (λ i. is_input m n && not (through (λ z. c.is_clock_binding (z n)) (λ z. clock-binding-kept z n) env names inner i))
      (connected (c.expression_of (c.port_connection m u n)) _ _ (λ a. c.input_faults above.env a) (λ a. c.input_faults spot.env a)
      (λ a. through (λ z. c.input_faults z a) (λ z. input-faults-kept z a) above.env spot.env same))

  output-same : (n : List ℕ) → SameParts (f.output_part above env m u n) (f.output_part spot names m u n)
  output-same n =
      same-unless (is_input m n) _ _
      (connected (c.expression_of (c.port_connection m u n)) _ _ (λ a. c.output_faults above.env (c.place_in u (c.port_connection m u n)) a) (λ a. c.output_faults spot.env (c.place_in u (c.port_connection m u n)) a)
      (λ a. through (λ z. c.output_faults z (c.place_in u (c.port_connection m u n)) a) (λ z. output-faults-kept z (c.place_in u (c.port_connection m u n)) a) above.env spot.env same))

-- ---- what an instance is given

-- items stand at the same path, among names that stand for the same
pub record SameHere (above spot : Here) : Type 0 where
  pub env : SameNames above.env spot.env
  pub path : above.path ≡ spot.path

given-alike : (above spot : Here) → SameHere above spot → (base start : Counts) (us : t.Instances) (u : t.NamedUnit) (m : t.Module) → GivenAlike (c.given above base us u m) (c.given spot start us u m)
given-alike above spot h base start us u m = record {
  path = λ i. dotted (h.path i) u.name.name;
  overrides = through (λ z. c.override z m us) (λ z. override-kept z m us) above.env spot.env h.env;
  clocks = λ i n. is_input m n && option_map_or (through c.is_clock_name clock-names-kept above.env spot.env h.env i) (c.expression_of (c.port_connection m u n)) false;
  wired = refl;
}

beginning-same : (above spot : Here) → SameHere above spot → (g h : Given) → g.path ≡ h.path → (us : t.Instances) → f.beginning above.env g us ≡ f.beginning spot.env h us
beginning-same above spot same g h path us =
    let fs = through (λ z. c.override_faults z us) (λ z. override-faults-kept z us) above.env spot.env same.env in
    λ i. record { signals = []; funcs = []; processes = []; faults = limit_if (f.is_long_path (path i)) us.place 11 ++ fs i; begins = us.place ∷ [] }

-- ---- items

module _ (one other : List ℕ → Counts) (ms : List t.Module) (inner deep : f.Inner) where
  module _ (here spot : Here)
      (into : (base start : Counts) (us : t.Instances) (u : t.NamedUnit) (of : t.Module) → module_named ms us.definition ≡ Some of → SameParts (inner here base us u of) (deep spot start us u of)) where
    units-same : (us : t.Instances) (of : t.Module) → module_named ms us.definition ≡ Some of → (y z : Counts) (units : List t.NamedUnit) (base start : Counts)
        → SameParts (f.instances inner here base us of y units) (f.instances deep spot start us of z units)
    units-same us of is y z [] base start = refl
    units-same us of is y z (u ∷ units) base start =
        same-append (inner here base us u of) (deep spot start us u of) (f.instances inner here (plus base y) us of y units) (f.instances deep spot (plus start z) us of z units)
        (into base start us u of is) (units-same us of is y z units (plus base y) (plus start z))

    instances-same : (us : t.Instances) (g h : Given) (base start : Counts)
        → SameParts (f.item_parts inner one ms here g base (t.Instantiates us)) (f.item_parts deep other ms spot h start (t.Instantiates us))
    instances-same us g h base start = by (module_named ms us.definition) refl
      where
        by : (q : Option t.Module) → module_named ms us.definition ≡ q
            → SameParts (option_map_or (λ of. f.instances inner here base us of (one us.definition) us.units) q []) (option_map_or (λ of. f.instances deep spot start us of (other us.definition) us.units) q [])
        by None e = refl
        by (Some of) e = units-same us of e (one us.definition) (other us.definition) us.units base start

  module _ (m : t.Module) (g h : Given) (alike : GivenAlike g h) (n k : ℕ) where
    abbrev here : Here
    here = record { env = environment one g m; path = g.path; behind = n }

    abbrev spot : Here
    spot = record { env = environment other h m; path = h.path; behind = k }

    names-same : SameNames here.env spot.env
    names-same = environment-alike g h alike m one other

    firsts-same : (known seen : Env) → SameNames known seen → (ds : List t.Declared) → firsts here.env g.path (λ u. is_some (known u)) ds ≡ firsts spot.env h.path (λ u. is_some (seen u)) ds
    firsts-same known seen same ds =
        (λ i. firsts here.env (alike.path i) (λ u. some-same known seen same u i) ds)
        ∙ through (λ z. firsts z h.path (λ u. is_some (seen u)) ds) (λ z. firsts-kept h.path (λ u. is_some (seen u)) ds z) here.env spot.env names-same

    plain-same : (item : t.Item) (base start : Counts) → signals here base.signals (signals_in item) ≡ signals spot start.signals (signals_in item)
        → SameParts (f.item_part here g base.signals item ∷ []) (f.item_part spot h start.signals item ∷ [])
    plain-same item base start e =
        let fs = (λ i. item_faults here (alike.overrides i) item) ∙ faults-alike here spot names-same h.overrides item in
        λ i. record { signals = e i; funcs = []; processes = []; faults = fs i; begins = [] } ∷ []

    module _ (into : (base start : Counts) (us : t.Instances) (u : t.NamedUnit) (of : t.Module) → module_named ms us.definition ≡ Some of → SameParts (inner here base us u of) (deep spot start us u of)) where
      item-same : (item : t.Item) (base start : Counts) → signals here base.signals (signals_in item) ≡ signals spot start.signals (signals_in item)
          → SameParts (f.item_parts inner one ms here g base item) (f.item_parts deep other ms spot h start item)
      item-same (t.Instantiates us) base start e = instances-same here spot into us g h base start
      item-same (t.Parameters type ps) base start e = plain-same (t.Parameters type ps) base start e
      item-same (t.Signals ds) base start e = plain-same (t.Signals ds) base start e
      item-same (t.Assigns as') base start e = plain-same (t.Assigns as') base start e
      item-same (t.Initial at a) base start e = plain-same (t.Initial at a) base start e
      item-same (t.Always at trigger a) base start e = plain-same (t.Always at trigger a) base start e
      item-same (t.Functions a) base start e = plain-same (t.Functions a) base start e

      items-same : (items : List t.Item) (k j : Known) (base start : Counts) → base.signals ≡ k.next.signals → start.signals ≡ j.next.signals → SameNames k.env j.env
          → Below one g m k → Below other h m j → Each (IsApart (signals_of m)) items → Each (λ (item : t.Item). Each (λ (d : t.Declared). Inside one g m d.name.name) (signals_in item)) items
          → Lasts one g m here.env here.behind (fold (with_item one g m) k items) → Lasts other h m spot.env spot.behind (fold (with_item other h m) j items)
          → SameParts (f.items_parts inner one ms here g base items) (f.items_parts deep other ms spot h start items)
      unfolding Each
      items-same [] k j base start e q names low less apart inside lasts ends = refl
      items-same (item ∷ items) k j base start e q names low less apart inside lasts ends =
          let k' = with_item one g m k item in
          let j' = with_item other h m j item in
          let now = one-item one g m here.env here.behind item k base e apart.0 inside.0 low (λ w within y is. lasts w within y (items-stay one g m here.env here.behind items k' apart.1 w within y is)) in
          let then' = one-item other h m spot.env spot.behind item j start q apart.0 inside.0 less (λ w within y is. ends w within y (items-stay other h m spot.env spot.behind items j' apart.1 w within y is)) in
          same-append (f.item_parts inner one ms here g base item) (f.item_parts deep other ms spot h start item) _ _
          (item-same item base start (now.is ∙ (firsts-same k.env j.env names (signals_in item) ∙ sym then'.is)))
          (items-same items k' j' (f.behind_item one here base item) (f.behind_item other spot start item) now.next-is then'.next-is (item-alike g h alike m one other item k j names)
          now.below then'.below apart.1 inside.1 lasts ends)

      pub body-same : AreApart m → SameParts (f.body inner one ms n (environment one g m) g m) (f.body deep other ms k (environment other h m) h m)
      body-same apart =
          items-same m.items (record { env = none; next = g.base }) (record { env = none; next = h.base }) g.base h.base refl refl refl
          (λ w within y e. absurd cc) (λ w within y e. absurd cc) (each-from (IsApart (signals_of m)) m.items apart) (items-between [] m.items) (λ w within y e. e) (λ w within y e. e)

-- ---- instances

pub instance-same : (one other : Sizes) (n : ℕ) (ms : List t.Module) → All AreApart ms → (above spot : Here) → SameHere above spot → (base start : Counts) (us : t.Instances) (u : t.NamedUnit) (m : t.Module)
    → module_named ms us.definition ≡ Some m → SameParts (instance_by one n ms above base us u m) (instance_by other n ms spot start us u m)
unfolding instance_by
instance-same one other zero ms apart above spot same base start us u m is = refl
instance-same one other (suc n) ms apart above spot same base start us u m is =
    let g = c.given above base us u m in
    let h = c.given spot start us u m in
    let alike = given-alike above spot same base start us u m in
    let env = environment (one n) g m in
    let names = environment (other n) h m in
    let inner = environment-alike g h alike m (one n) (other n) in
    let bodies = body-same (one n) (other n) ms (instance_by one n ms) (instance_by other n ms) m g h alike above.behind spot.behind
    (instance-same one other n ms apart (record { env = env; path = g.path; behind = above.behind }) (record { env = names; path = h.path; behind = spot.behind }) (record { env = inner; path = alike.path }))
    (found-holds AreApart (λ (z : t.Module). bytes_eq us.definition z.name.name) ms m apart is) in
    let ins = same-flat (λ (w : Identifier). f.input_part above env m u w.name) (λ (w : Identifier). f.input_part spot names m u w.name) (λ w. input-same above spot same.env env names inner m u w.name) m.ports in
    let outs = same-flat (λ (w : Identifier). f.output_part above env m u w.name) (λ (w : Identifier). f.output_part spot names m u w.name) (λ w. output-same above spot same.env env names inner m u w.name) m.ports in
    same-append (f.beginning above.env g us ∷ []) (f.beginning spot.env h us ∷ []) _ _ (λ i. judged_by (beginning-same above spot same g h alike.path us i) ∷ [])
    (same-append _ _ _ _ ins (same-append _ _ _ _ bodies outs))

pub parts-same : (one other : Sizes) (ms : List t.Module) (m : t.Module) → All AreApart ms → AreApart m → SameParts (parts_by one ms m) (parts_by other ms m)
parts-same one other ms m apart top =
    let g = f.top_given m in
    let alike : GivenAlike g g = record { path = refl; overrides = refl; clocks = refl; wired = refl } in
    let env = environment (one f.deepest) g m in
    let names = environment (other f.deepest) g m in
    let inner = environment-alike g g alike m (one f.deepest) (other f.deepest) in
    body-same (one f.deepest) (other f.deepest) ms (instance_by one f.deepest ms) (instance_by other f.deepest ms) m g g alike (module_counts (one f.deepest) m).signals (module_counts (other f.deepest) m).signals
    (instance-same one other f.deepest ms apart (record { env = env; path = g.path; behind = (module_counts (one f.deepest) m).signals }) (record { env = names; path = g.path; behind = (module_counts (other f.deepest) m).signals })
    (record { env = inner; path = refl })) top

-- the first fault is the same, whatever sizes modules have
pub first-fault-same : (one other : Sizes) (ms : List t.Module) (m : t.Module) → All AreApart ms → AreApart m → (n : o.Totals) → o.judged n (parts_by one ms m) ≡ o.judged n (parts_by other ms m)
first-fault-same one other ms m apart top n =
    sym (judged-same (parts_by one ms m) n) ∙ (ap (o.judged n) (parts-same one other ms m apart top) ∙ judged-same (parts_by other ms m) n)

-- ---- the sizes that modules have

abbrev pub true_sizes : List t.Module → Sizes
true_sizes ms n = size n ms

pub instance-true : (n : ℕ) (ms : List t.Module) (above : Here) (base : Counts) (us : t.Instances) (u : t.NamedUnit) (m : t.Module)
    → instance_by (true_sizes ms) n ms above base us u m ≡ f.instance n ms above base us u m
unfolding instance_by f.instance
instance-true zero ms above base us u m = refl
instance-true (suc n) ms above base us u m =
    let g = c.given above base us u m in
    let env = environment (size n ms) g m in
    let deep : instance_by (true_sizes ms) n ms ≡ f.instance n ms = λ i a y w v of. instance-true n ms a y w v of i in
    λ i. f.beginning above.env g us
    ∷ (flat_map (λ w. f.input_part above env m u w.name) m.ports
    ++ (f.body (deep i) (size n ms) ms above.behind env g m
    ++ flat_map (λ w. f.output_part above env m u w.name) m.ports))

pub parts-true : (ms : List t.Module) (m : t.Module) → parts_by (true_sizes ms) ms m ≡ f.parts_from ms m
parts-true ms m =
    let g = f.top_given m in
    let deep : instance_by (true_sizes ms) f.deepest ms ≡ f.instance f.deepest ms = λ i a y w v of. instance-true f.deepest ms a y w v of i in
    λ i. f.body (deep i) (size f.deepest ms) ms (f.whole ms m).signals (environment (size f.deepest ms) g m) g m
