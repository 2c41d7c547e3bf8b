-- An instance has as many functions as its size says, and the number of a function's name is the place of its function.
use Rattle.std.proofs.Common.{◌≡◌, ℕ, zero, suc, ◌+◌, ◌*◌, Bool, true, false, if◌then◌else◌, inl, inr, List, [], ◌∷◌, ◌++◌, length, Option, Some, None, Ok, refl, sym, ap, ◌∙◌, subst, arith}
use Rattle.std.specs.Prelude.{slice_get, fold, flat_map, is_some}
use Rattle.std.specs.Option.{option_map_or}
use Rattle.std.specs.Str.{bytes_eq}
use Rattle.std.proofs.lemmas.Slice.Eq.{bytes_eq-Decides}
use Rattle.std.proofs.lemmas.Grind.{flat_map-append}
use Rattle.std.proofs.lemmas.List.{append_assoc, append-nil, length-append}
use Rattle.std.proofs.Math.Nat.{suc-mul}
use Rattle.vl_names.specs.vl_scope.specs.Faults.{In}
use Rattle.vl_flat.specs.declared.binding.Binding.{Binding}
use Rattle.vl_flat.specs.declared.binding.Binding.TheVariants as b
use Rattle.vl_flat.specs.vl_design.specs.declared.design.Form.{Form}
use Rattle.vl_flat.specs.Scopes.{Env, none, bind}
use Rattle.vl_flat.specs.Items as x
use Rattle.vl_flat.specs.vl_design.specs.Placed as p
use Rattle.vl_flat.specs.Kinds.{signals_of, kind_of}
use Rattle.vl_flat.specs.Environments.{Counts, Given, Known, plus, no_more, new_ones, item_counts, module_counts, module_named, size, environment, shape, with_signal, with_parameter, with_item}
use Rattle.vl_flat.specs.Functions.{function}
use Rattle.vl_flat.specs.Processes.{Here}
use Rattle.vl_flat.specs.Ranges.{type_form}
use Rattle.vl_flat.specs.Connections.{given}
use Rattle.vl_flat.specs.Flat as f
use Rattle.vl_flat.specs.Flat.{instance}
use Rattle.vl_flat.specs.Outcome as o
use Rattle.vl_sound.proofs.Lists.{left-part, seam-part, Stands-at, stands-part}
use Rattle.vl_sound.proofs.Numbers.{design-is}
use Rattle.vl_sound.proofs.Splits.{base-units, body-only, split-parts}
use Rattle.vl_sound.specs.Instances.{IsInstance, of_top, of_item, here_of}

abbrev pub funs : List f.Part → List p.Func
funs parts = flat_map (λ a. a.funcs) parts

-- ---- how many: without regard to names

module _ (sizes : List ℕ → Counts) (ms : List x.Module) where
  -- the functions in an item
  inst : x.Item → ℕ
  inst (x.Functions a) = 1
  inst (x.Instantiates us) = length us.units * (sizes us.definition).functions
  inst item = 0

  insts : List x.Item → ℕ
  insts [] = 0
  insts (item ∷ items) = inst item + insts items

  item-count : (item : x.Item) → (item_counts sizes item).functions ≡ inst item
  unfolding inst
  item-count (x.Parameters type ps) = omega arith
  item-count (x.Signals ds) = omega arith
  item-count (x.Functions a) = omega arith
  item-count (x.Assigns as') = omega arith
  item-count (x.Initial at a) = omega arith
  item-count (x.Always at trigger a) = omega arith
  item-count (x.Instantiates us) = refl

  counts-fold : (items : List x.Item) (c : Counts)
      → (fold (λ (z : Counts) item. plus z (item_counts sizes item)) c items).functions ≡ c.functions + insts items
  unfolding insts
  counts-fold [] c = omega arith
  counts-fold (item ∷ items) c =
      let rest = counts-fold items (plus c (item_counts sizes item)) in
      omega (arith, rest, item-count item)

  module _ (inner : f.Inner) (spot : Here) (g : Given) (m : x.Module)
      (added : (base : Counts) (us : x.Instances) (u : x.NamedUnit) (of : x.Module) → module_named ms us.definition ≡ Some of
      → length (funs (inner spot base us u of)) ≡ (sizes us.definition).functions)
      (absent : (t : List ℕ) → module_named ms t ≡ None → (sizes t).functions ≡ 0) where
    units-add : (us : x.Instances) (of : x.Module) → module_named ms us.definition ≡ Some of → (units : List x.NamedUnit) (base : Counts)
        → length (funs (f.instances inner spot base us of (sizes us.definition) units)) ≡ length units * (sizes us.definition).functions
    units-add us of is [] base = omega arith
    units-add us of is (u ∷ others) base =
        let c = (sizes us.definition).functions in
        let step = suc-mul (length others) c in
        let rest = units-add us of is others (plus base (sizes us.definition)) in
        let one = added base us u of is in
        let all = ap (length {A = p.Func}) (flat_map-append (λ (a : f.Part). a.funcs) (inner spot base us u of) (f.instances inner spot (plus base (sizes us.definition)) us of (sizes us.definition) others)) in
        omega (arith, all, rest, one, step, length-append (funs (inner spot base us u of)) (funs (f.instances inner spot (plus base (sizes us.definition)) us of (sizes us.definition) others)))

    instances-add : (us : x.Instances) (next : Counts)
        → length (funs (option_map_or (λ of. f.instances inner spot next us of (sizes us.definition) us.units) (module_named ms us.definition) [])) ≡ length us.units * (sizes us.definition).functions
    instances-add us next = by (module_named ms us.definition) refl
      where
        by : (q : Option x.Module) → module_named ms us.definition ≡ q
            → length (funs (option_map_or (λ of. f.instances inner spot next us of (sizes us.definition) us.units) q [])) ≡ length us.units * (sizes us.definition).functions
        by None e = let nothing = ap (λ z. length us.units * z) (absent us.definition e) in omega (arith, nothing)
        by (Some of) e = units-add us of e us.units next

    item-adds : (item : x.Item) (next : Counts) → length (funs (f.item_parts inner sizes ms spot g next item)) ≡ inst item
    unfolding inst
    item-adds (x.Parameters type ps) next = refl
    item-adds (x.Signals ds) next = refl
    item-adds (x.Functions a) next = refl
    item-adds (x.Assigns as') next = refl
    item-adds (x.Initial at a) next = refl
    item-adds (x.Always at trigger a) next = refl
    item-adds (x.Instantiates us) next = instances-add us next

    items-add : (items : List x.Item) (next : Counts) → length (funs (f.items_parts inner sizes ms spot g next items)) ≡ insts items
    unfolding insts
    items-add [] next = refl
    items-add (item ∷ items) next =
        let first = f.item_parts inner sizes ms spot g next item in
        let more = f.items_parts inner sizes ms spot g (f.behind_item sizes spot next item) items in
        let all = ap (length {A = p.Func}) (flat_map-append (λ (a : f.Part). a.funcs) first more) in
        omega (arith, all, item-adds item next, items-add items (f.behind_item sizes spot next item), length-append (funs first) (funs more))

-- ---- where: the names of an instance

module _ (sizes : List ℕ → Counts) (g : Given) (m : x.Module) (whole : Env) (behind : ℕ) where
  -- the function of a number has its place behind the first one's
  record Where (o : ℕ) (xs : List p.Func) (t : List ℕ) (n : ℕ) : Type 0 where
    i : ℕ
    is : n ≡ o + i
    source : x.Function
    listed : In (x.Functions source) m.items
    spelt : source.name.name ≡ t
    there : slice_get xs i ≡ Some (function behind whole g.path source)

  where-more : (o : ℕ) (xs ys : List p.Func) (t : List ℕ) (n : ℕ) → Where o xs t n → Where o (xs ++ ys) t n
  where-more o xs ys t n h = record { i = h.i; is = h.is; source = h.source; listed = h.listed; spelt = h.spelt; there = left-part xs ys h.i _ h.there }

  record At (o : ℕ) (k : Known) (xs : List p.Func) : Type 0 where
    len : k.next.functions ≡ o + length xs
    at : (t : List ℕ) (n : ℕ) (c : Form) → k.env t ≡ Some (b.Function n c) → Where o xs t n

  some_is : (y z : Binding) → ◌≡◌ {A = Option Binding} (Some y) (Some z) → y ≡ z
  some_is y z e = cc

  back-of : (env : Env) (name : List ℕ) (y : Binding) (t : List ℕ) (n : ℕ) (c : Form) → (y ≡ b.Function n c → ⊥) → bind env name y t ≡ Some (b.Function n c) → env t ≡ Some (b.Function n c)
  back-of env name y t n c never e = by (bytes_eq name t) e
    where
      by : (q : Bool) → (if q then Some y else env t) ≡ Some (b.Function n c) → env t ≡ Some (b.Function n c)
      by true h = absurd (never (some_is y (b.Function n c) h))
      by false h = h

  same-next : (o : ℕ) (xs : List p.Func) (k j : Known) → At o k xs → j.next.functions ≡ k.next.functions
      → ((t : List ℕ) (n : ℕ) (c : Form) → j.env t ≡ Some (b.Function n c) → k.env t ≡ Some (b.Function n c)) → At o j xs
  same-next o xs k j h same back = record { len = same ∙ h.len; at = λ t n c e. h.at t n c (back t n c e) }

  params-at : (o : ℕ) (xs : List p.Func) (type : x.DataType) (as' : List x.Parameter) (k : Known) → At o k xs → At o (fold (with_parameter g type) k as') xs
  params-at o xs type [] k h = h
  params-at o xs type (a ∷ as') k h =
      params-at o xs type as' (with_parameter g type k a) (same-next o xs k (with_parameter g type k a) h refl (λ t n c e. back-of k.env a.name.name _ t n c (λ q. absurd cc) e))

  signal-at : (o : ℕ) (xs : List p.Func) (k : Known) (d : x.Declared) → At o k xs → At o (with_signal g m k d) xs
  signal-at o xs k d h = by (is_some (k.env d.name.name))
    where
      y : Binding
      y = b.Signal k.next.signals (shape k.env (kind_of m (g.clocks d.name.name) (g.wired d.name.name) d.name.name) d)

      more : Known
      more = record { env = bind k.env d.name.name y; next = plus k.next (record { signals = 1; functions = 0 }) }

      by : (q : Bool) → At o (if q then k else more) xs
      by true = h
      by false = same-next o xs k more h (omega arith) (λ t n c e. back-of k.env d.name.name y t n c (λ q. absurd cc) e)

  signals-at : (o : ℕ) (xs : List p.Func) (ds : List x.Declared) (k : Known) → At o k xs → At o (fold (with_signal g m) k ds) xs
  signals-at o xs [] k h = h
  signals-at o xs (d ∷ ds) k h = signals-at o xs ds (with_signal g m k d) (signal-at o xs k d h)

  function-at : (o : ℕ) (xs : List p.Func) (a : x.Function) (k : Known) → In (x.Functions a) m.items → At o k xs
      → At o (with_item sizes g m k (x.Functions a)) (xs ++ function behind whole g.path a ∷ [])
  function-at o xs a k listed h = record {
    len = omega (arith, h.len, length-append xs (function behind whole g.path a ∷ []));
    at = λ t n c e. at t n c (bytes_eq a.name.name t) refl e;
  }
    where
      r : p.Func
      r = function behind whole g.path a

      number-is : (i n : ℕ) (e c : Form) → ◌≡◌ {A = Option Binding} (Some (b.Function i e)) (Some (b.Function n c)) → i ≡ n
      number-is i n e c q = cc

      at : (t : List ℕ) (n : ℕ) (c : Form) (q : Bool) → bytes_eq a.name.name t ≡ q → (if q then Some (b.Function k.next.functions (type_form k.env a.type)) else k.env t) ≡ Some (b.Function n c) → Where o (xs ++ r ∷ []) t n
      at t n c true q e = record {
        i = length xs;
        is = sym (number-is k.next.functions n (type_form k.env a.type) c e) ∙ h.len;
        source = a;
        listed = listed;
        spelt = (bytes_eq-Decides a.name.name t).0 q;
        there = seam-part xs r;
      }
      at t n c false q e = where-more o xs (r ∷ []) t n (h.at t n c e)

  spot : Here
  spot = record { env = whole; path = g.path; behind = behind }

  module _ (ms : List x.Module) (inner : f.Inner)
      (added : (base : Counts) (us : x.Instances) (u : x.NamedUnit) (of : x.Module) → module_named ms us.definition ≡ Some of
      → length (funs (inner spot base us u of)) ≡ (sizes us.definition).functions)
      (absent : (t : List ℕ) → module_named ms t ≡ None → (sizes t).functions ≡ 0) where
    item-at : (item : x.Item) (o : ℕ) (xs : List p.Func) (k : Known) (next : Counts) → In item m.items → At o k xs
        → At o (with_item sizes g m k item) (xs ++ funs (f.item_parts inner sizes ms spot g next item))
    unfolding inst spot
    item-at (x.Parameters type as') o xs k next listed h = subst (λ z. At o (fold (with_parameter g type) k as') z) (sym (append-nil xs)) (params-at o xs type as' k h)
    item-at (x.Signals ds) o xs k next listed h = subst (λ z. At o (fold (with_signal g m) k ds) z) (sym (append-nil xs)) (signals-at o xs ds k h)
    item-at (x.Functions a) o xs k next listed h = function-at o xs a k listed h
    item-at (x.Assigns as') o xs k next listed h =
        subst (λ z. At o (with_item sizes g m k (x.Assigns as')) z) (sym (append-nil xs)) (same-next o xs k (with_item sizes g m k (x.Assigns as')) h (omega arith) (λ t n c e. e))
    item-at (x.Initial at a) o xs k next listed h =
        subst (λ z. At o (with_item sizes g m k (x.Initial at a)) z) (sym (append-nil xs)) (same-next o xs k (with_item sizes g m k (x.Initial at a)) h (omega arith) (λ t n c e. e))
    item-at (x.Always at trigger a) o xs k next listed h =
        subst (λ z. At o (with_item sizes g m k (x.Always at trigger a)) z) (sym (append-nil xs)) (same-next o xs k (with_item sizes g m k (x.Always at trigger a)) h (omega arith) (λ t n c e. e))
    item-at (x.Instantiates us) o xs k next listed h =
        let own = funs (f.item_parts inner sizes ms spot g next (x.Instantiates us)) in
        let count = instances-add sizes ms inner spot g m added absent us next in
        record {
          len = omega (arith, h.len, count, length-append xs own);
          at = λ t n c e. where-more o xs own t n (h.at t n c e);
        }

    items-at : (items : List x.Item) (o : ℕ) (xs : List p.Func) (k : Known) (next : Counts) → ((item : x.Item) → In item items → In item m.items) → At o k xs
        → At o (fold (with_item sizes g m) k items) (xs ++ funs (f.items_parts inner sizes ms spot g next items))
    unfolding insts
    items-at [] o xs k next listed h = subst (λ z. At o k z) (sym (append-nil xs)) h
    items-at (item ∷ items) o xs k next listed h =
        let j = with_item sizes g m k item in
        let first = f.item_parts inner sizes ms spot g next item in
        let more = f.items_parts inner sizes ms spot g (f.behind_item sizes spot next item) items in
        let now = item-at item o xs k next (listed item (inl refl)) h in
        let rest = items-at items o (xs ++ funs first) j (f.behind_item sizes spot next item) (λ i q. listed i (inr q)) now in
        let split : funs (first ++ more) ≡ funs first ++ funs more = flat_map-append (λ (a : f.Part). a.funcs) first more in
        subst (λ z. At o (fold (with_item sizes g m) j items) (xs ++ z)) (sym split)
        (subst (λ z. At o (fold (with_item sizes g m) j items) z) (append_assoc xs (funs first) (funs more)) rest)

-- ---- instances

-- the functions of an instance are those of its body
instance-funs : (n : ℕ) (ms : List x.Module) (above : Here) (base : Counts) (us : x.Instances) (u : x.NamedUnit) (m : x.Module)
    → funs (f.instance (suc n) ms above base us u m) ≡ funs (f.body (f.instance n ms) (size n ms) ms above.behind (environment (size n ms) (given above base us u m) m) (given above base us u m) m)
instance-funs n ms above base us u m = body-only (λ a. a.funcs) (λ ps es. refl) (λ env g us. refl) n ms above base us u m

size-absent : (n : ℕ) (ms : List x.Module) (t : List ℕ) → module_named ms t ≡ None → (size n ms t).functions ≡ 0
unfolding size
size-absent zero ms t e = refl
size-absent (suc n) ms t e = ap (λ (q : Option x.Module). (option_map_or (module_counts (size n ms)) q no_more).functions) e

size-named : (n : ℕ) (ms : List x.Module) (t : List ℕ) (m : x.Module) → module_named ms t ≡ Some m → (size (suc n) ms t).functions ≡ (module_counts (size n ms) m).functions
unfolding size
size-named n ms t m e = ap (λ (q : Option x.Module). (option_map_or (module_counts (size n ms)) q no_more).functions) e

instance-adds : (n : ℕ) (ms : List x.Module) (above : Here) (base : Counts) (us : x.Instances) (u : x.NamedUnit) (m : x.Module) → module_named ms us.definition ≡ Some m
    → length (funs (f.instance n ms above base us u m)) ≡ (size n ms us.definition).functions
unfolding instance size
instance-adds zero ms above base us u m is = refl
instance-adds (suc n) ms above base us u m is =
    let g = given above base us u m in
    let sizes = size n ms in
    let place : Here = record { env = environment sizes g m; path = g.path; behind = above.behind } in
    let counted = size-named n ms us.definition m is in
    let folded = counts-fold sizes ms m.items (record { signals = length (new_ones [] (signals_of m)); functions = 0 }) in
    let added = items-add sizes ms (f.instance n ms) place g m (instance-adds n ms place) (size-absent n ms) m.items g.base in
    let same = ap (length {A = p.Func}) (instance-funs n ms above base us u m) in
    omega (arith, same, added, folded, counted)

behind-functions : (sizes : List ℕ → Counts) (ms : List x.Module) (place : Here) (items : List x.Item) (next : Counts)
    → (fold (f.behind_item sizes place) next items).functions ≡ next.functions + insts sizes ms items
unfolding insts
behind-functions sizes ms place [] next = omega arith
behind-functions sizes ms place (item ∷ items) next =
    let rest = behind-functions sizes ms place items (f.behind_item sizes place next item) in
    omega (arith, rest, item-count sizes ms item)

-- ---- the instances of a design: each one's functions stand together, from its first number on

module _ (ms : List x.Module) (top : x.Module) (whole : List p.Func) where
  abbrev behind-all : ℕ
  behind-all = (f.whole ms top).signals

  abbrev body-of : ℕ → Given → x.Module → List f.Part
  body-of n g m = f.body (f.instance n ms) (size n ms) ms behind-all (environment (size n ms) g m) g m

  abbrev Together : ℕ → Given → x.Module → Type 0
  Together n g m = Stands-at whole g.base.functions (funs (body-of n g m))

  unit-together : (n : ℕ) (g : Given) (m of : x.Module) (before after : List x.Item) (us : x.Instances) (first others : List x.NamedUnit) (u : x.NamedUnit)
      → Together (suc n) g m → m.items ≡ before ++ x.Instantiates us ∷ after → us.units ≡ first ++ u ∷ others → module_named ms us.definition ≡ Some of
      → Together n (given (here_of (suc n) ms top g m)
      (fold (λ (z : Counts) (v : x.NamedUnit). plus z (size (suc n) ms us.definition)) (fold (f.behind_item (size (suc n) ms) (here_of (suc n) ms top g m)) g.base before) first) us u of) of
  unit-together n g m of before after us first others u h is split named =
      let sizes = size (suc n) ms in
      let place = here_of (suc n) ms top g m in
      let inner = f.instance (suc n) ms in
      let c = (sizes us.definition).functions in
      let added = instance-adds (suc n) ms place in
      let absent = size-absent (suc n) ms in
      let next = fold (f.behind_item sizes place) g.base before in
      let base = fold (λ (z : Counts) (v : x.NamedUnit). plus z (sizes us.definition)) next first in
      let P = f.items_parts inner sizes ms place g g.base before in
      let R = f.items_parts inner sizes ms place g (f.behind_item sizes place next (x.Instantiates us)) after in
      let F = f.instances inner place next us of (sizes us.definition) first in
      let X = inner place base us u of in
      let O = f.instances inner place (plus base (sizes us.definition)) us of (sizes us.definition) others in
      let front-length = items-add sizes ms inner place g m added absent before g.base in
      let next-is = behind-functions sizes ms place before g.base in
      let first-length = units-add sizes ms inner place g m added absent us of named first next in
      let base-is = base-units (λ (c : Counts). c.functions) (λ a c. refl) (sizes us.definition) first next in
      let shape = split-parts (λ (a : f.Part). a.funcs) inner sizes ms place g before after us of first others u m.items is split named in
      subst (λ z. Stands-at whole base.functions z) (instance-funs n ms place base us u of)
      (stands-part whole (funs P ++ funs F) (funs X) (funs O ++ funs R) g.base.functions base.functions (subst (λ z. Stands-at whole g.base.functions z) shape h)
      (omega (arith, base-is, next-is, front-length, first-length, length-append (funs P) (funs F))))

  all-together : Together f.deepest (f.top_given top) top → (n : ℕ) (g : Given) (m : x.Module) → IsInstance ms top n g m → Together n g m
  all-together start n g m of_top = start
  all-together start n g m (of_item n' g' m' of' before after us first others u h is split named) =
      unit-together n' g' m' of' before after us first others u (all-together start (suc n') g' m' h) is split named

  place-of : (n : ℕ) (g : Given) (m : x.Module) → Together n g m → (t : List ℕ) (k : ℕ) (c : Form) → environment (size n ms) g m t ≡ Some (b.Function k c)
      → (a : x.Function) × In (x.Functions a) m.items × (a.name.name ≡ t) × (slice_get whole k ≡ Some (function behind-all (environment (size n ms) g m) g.path a))
  unfolding spot
  place-of n g m h t k c e =
      let sizes = size n ms in
      let env = environment sizes g m in
      let start : Known = record { env = none; next = g.base } in
      let place = spot sizes g m env behind-all in
      let end = items-at sizes g m env behind-all ms (f.instance n ms) (instance-adds n ms place) (size-absent n ms) m.items g.base.functions [] start g.base (λ i q. q)
      (record { len = omega arith; at = λ t k c e. absurd cc }) in
      let at = end.at t k c e in
      (at.source, at.listed, at.spelt, ap (slice_get whole) at.is ∙ h at.i (function behind-all env g.path at.source) at.there)

-- in the flat design each instance's functions stand where their numbers say
pub function-places : (ms : List x.Module) (top : x.Module)
    → (d : p.Design) → o.flattened_from ms top ≡ Ok d → (n : ℕ) (g : Given) (m : x.Module) → IsInstance ms top n g m
    → (t : List ℕ) (k : ℕ) (c : Form) → environment (size n ms) g m t ≡ Some (b.Function k c)
    → (a : x.Function) × In (x.Functions a) m.items × (a.name.name ≡ t) × (slice_get d.funcs k ≡ Some (function (f.whole ms top).signals (environment (size n ms) g m) g.path a))
function-places ms top d is n g m h =
    let parts = f.parts_from ms top in
    let design = design-is (o.judged o.nothing_yet parts) (f.design_of top parts) d is in
    let start : Together ms top d.funcs f.deepest (f.top_given top) top = λ i r e.
    let zero-first : i ≡ 0 + i = omega arith in
    subst (λ z. slice_get d.funcs z ≡ Some r) zero-first (subst (λ (z : p.Design). slice_get z.funcs i ≡ Some r) design e) in
    place-of ms top d.funcs n g m (all-together ms top d.funcs start n g m h)
