-- Which item binds a name of an instance.
use Rattle.std.proofs.Common.{◌≡◌, ℕ, ◌^◌, ◌<◌, Bool, true, false, true≢false, if◌then◌else◌, ◌⊎◌, inl, inr, ⊎_elim, List, [], ◌∷◌, ◌++◌, map, Option, Some, None, refl, sym, ap, ◌∙◌, subst}
use Rattle.std.specs.Prelude.{fold, is_some, flat_map}
use Rattle.std.specs.Str.{bytes_eq}
use Rattle.std.proofs.lemmas.Slice.Eq.{bytes_eq-Decides}
use Rattle.vl_names.specs.vl_scope.specs.Faults.{In}
use Rattle.vl_names.specs.vl_scope.proofs.Members.{In-map, In-map_cases, In-append_cases, In-append_left, In-append_right}
use Rattle.vl_flat.specs.declared.binding.Binding.{Binding}
use Rattle.vl_flat.specs.declared.binding.Binding.TheVariants as b
use Rattle.vl_flat.specs.Scopes.{Env, bind}
use Rattle.vl_flat.specs.Items as x
use Rattle.vl_flat.specs.Kinds.{kind_of}
use Rattle.vl_flat.specs.Ranges.{type_form}
use Rattle.vl_flat.specs.Parameters.{converted, value_of}
use Rattle.vl_flat.specs.Environments.{Counts, Given, Known, plus, shape, with_signal, with_parameter, with_item}
use Rattle.vl_sound.proofs.Names.{Name, P, S, F, I, spelt, names_in, names_of}
use Rattle.vl_sound.proofs.Values.{parameter-below}
use Rattle.vl_flat.specs.vl_base.proofs.Lists.{bytes_eq_self as text-same, bytes_eq_from as same-text}

-- ---- texts

-- ---- one binding

-- a name that is bound before, or is bound now
bound-cases : (env : Env) (name : List ℕ) (z : Binding) (t : List ℕ) (y : Binding) → bind env name z t ≡ Some y → (env t ≡ Some y) ⊎ ((name ≡ t) × (z ≡ y))
bound-cases env name z t y h = by (bytes_eq name t) refl h
  where
    some-is : ◌≡◌ {A = Option Binding} (Some z) (Some y) → z ≡ y
    some-is q = cc

    by : (c : Bool) → bytes_eq name t ≡ c → (if c then Some z else env t) ≡ Some y → (env t ≡ Some y) ⊎ ((name ≡ t) × (z ≡ y))
    by true e h = inr (same-text name t e, some-is h)
    by false e h = inl h

bound-still : (env : Env) (name : List ℕ) (z : Binding) (t : List ℕ) → is_some (env t) ≡ true → is_some (bind env name z t) ≡ true
bound-still env name z t h = by (bytes_eq name t)
  where
    by : (c : Bool) → is_some (if c then Some z else env t) ≡ true
    by true = refl
    by false = h

bound-here : (env : Env) (t : List ℕ) (z : Binding) → is_some (bind env t z t) ≡ true
bound-here env t z = ap (λ (c : Bool). is_some (if c then Some z else env t)) (text-same t)

bound-elsewhere : (env : Env) (name t : List ℕ) (z : Binding) → (name ≡ t → ⊥) → bind env name z t ≡ env t
bound-elsewhere env name t z h = by (bytes_eq name t) refl
  where
    by : (c : Bool) → bytes_eq name t ≡ c → (if c then Some z else env t) ≡ env t
    by true e = absurd (h (same-text name t e))
    by false e = refl

module _ (sizes : List ℕ → Counts) (g : Given) (m : x.Module) where
  -- what an item binds a name to
  abbrev pub Binds : Known → x.Item → List ℕ → Binding → Type 0
  Binds k (x.Parameters type as') t (b.Constant c) = (a : x.Parameter) × In a as' × (a.name.name ≡ t) × (c.value < 2 ^ c.width)
  Binds k (x.Signals ds) t (b.Signal j s) = (d : x.Declared) × In d ds × (d.name.name ≡ t) × (s.kind ≡ kind_of m (g.clocks t) (g.wired t) t)
  Binds k (x.Functions f) t (b.Function j c) = (f.name.name ≡ t) × (c ≡ type_form k.env f.type)
  Binds k item t y = ⊥

  -- ---- parameters

  parameters-bind : (type : x.DataType) (as' : List x.Parameter) (k : Known) (t : List ℕ) (y : Binding) (before : Known)
      → (fold (with_parameter g type) k as').env t ≡ Some y → (k.env t ≡ Some y) ⊎ Binds before (x.Parameters type as') t y
  parameters-bind type [] k t y before h = inl h
  parameters-bind type (a ∷ as') k t y before h =
      ⊎_elim
      (λ q. ⊎_elim (λ r. inl r) (λ r. inr (now y r)) (bound-cases k.env a.name.name (b.Constant (converted k.env type (value_of k.env (g.overrides a.name.name) a))) t y q))
      (λ q. inr (more y q))
      (parameters-bind type as' (with_parameter g type k a) t y before h)
    where
      now : (y : Binding) → (a.name.name ≡ t) × (b.Constant (converted k.env type (value_of k.env (g.overrides a.name.name) a)) ≡ y) → Binds before (x.Parameters type (a ∷ as')) t y
      now y r = subst (Binds before (x.Parameters type (a ∷ as')) t) r.1 (a, inl refl, r.0, parameter-below k.env type (value_of k.env (g.overrides a.name.name) a))

      more : (y : Binding) → Binds before (x.Parameters type as') t y → Binds before (x.Parameters type (a ∷ as')) t y
      more (b.Constant c) r = (r.0, inr r.1, r.2, r.3)
      more (b.Signal j s) r = r
      more (b.Function j c) r = r

  parameters-still : (type : x.DataType) (as' : List x.Parameter) (k : Known) (t : List ℕ) → is_some (k.env t) ≡ true → is_some ((fold (with_parameter g type) k as').env t) ≡ true
  parameters-still type [] k t h = h
  parameters-still type (a ∷ as') k t h = parameters-still type as' (with_parameter g type k a) t (bound-still k.env a.name.name _ t h)

  parameters-known : (type : x.DataType) (as' : List x.Parameter) (k : Known) (a : x.Parameter) → In a as' → is_some ((fold (with_parameter g type) k as').env a.name.name) ≡ true
  parameters-known type [] k a h = absurd h
  parameters-known type (e ∷ as') k a (inl h) =
      parameters-still type as' (with_parameter g type k e) a.name.name
      (subst (λ (z : x.Parameter). is_some ((with_parameter g type k e).env z.name.name) ≡ true) h (bound-here k.env e.name.name _))
  parameters-known type (e ∷ as') k a (inr h) = parameters-known type as' (with_parameter g type k e) a h

  parameters-stay : (type : x.DataType) (as' : List x.Parameter) (k : Known) (t : List ℕ) → ((a : x.Parameter) → In a as' → a.name.name ≡ t → ⊥) → (fold (with_parameter g type) k as').env t ≡ k.env t
  parameters-stay type [] k t h = refl
  parameters-stay type (a ∷ as') k t h =
      parameters-stay type as' (with_parameter g type k a) t (λ e q. h e (inr q)) ∙ bound-elsewhere k.env a.name.name t _ (h a (inl refl))

  -- ---- signals

  signal-to : Known → x.Declared → Binding
  signal-to k d = b.Signal k.next.signals (shape k.env (kind_of m (g.clocks d.name.name) (g.wired d.name.name) d.name.name) d)

  more : Known → x.Declared → Known
  more k d = record { env = bind k.env d.name.name (signal-to k d); next = plus k.next (record { signals = 1; functions = 0 }) }

  signal-cases : (Q : Known → Type 0) (k : Known) (d : x.Declared) → Q k → Q (more k d) → Q (with_signal g m k d)
  unfolding more signal-to
  signal-cases Q k d h e = by (is_some (k.env d.name.name))
    where
      by : (c : Bool) → Q (if c then k else more k d)
      by true = h
      by false = e

  signals-bind : (ds : List x.Declared) (k : Known) (t : List ℕ) (y : Binding) (before : Known)
      → (fold (with_signal g m) k ds).env t ≡ Some y → (k.env t ≡ Some y) ⊎ Binds before (x.Signals ds) t y
  unfolding signal-to more
  signals-bind [] k t y before h = inl h
  signals-bind (d ∷ ds) k t y before h =
      ⊎_elim
      (λ q. signal-cases (λ (j : Known). j.env t ≡ Some y → (k.env t ≡ Some y) ⊎ Binds before (x.Signals (d ∷ ds)) t y) k d (λ r. inl r)
      (λ r. ⊎_elim (λ u. inl u) (λ u. inr (now y u)) (bound-cases k.env d.name.name (signal-to k d) t y r)) q)
      (λ q. inr (others y q))
      (signals-bind ds (with_signal g m k d) t y before h)
    where
      now : (y : Binding) → (d.name.name ≡ t) × (signal-to k d ≡ y) → Binds before (x.Signals (d ∷ ds)) t y
      now y r = subst (Binds before (x.Signals (d ∷ ds)) t) r.1 (d, inl refl, r.0, ap (λ z. kind_of m (g.clocks z) (g.wired z) z) r.0)

      others : (y : Binding) → Binds before (x.Signals ds) t y → Binds before (x.Signals (d ∷ ds)) t y
      others (b.Signal j s) r = (r.0, inr r.1, r.2, r.3)
      others (b.Constant c) r = r
      others (b.Function j c) r = r

  signals-still : (ds : List x.Declared) (k : Known) (t : List ℕ) → is_some (k.env t) ≡ true → is_some ((fold (with_signal g m) k ds).env t) ≡ true
  unfolding more
  signals-still [] k t h = h
  signals-still (d ∷ ds) k t h =
      signals-still ds (with_signal g m k d) t
      (signal-cases (λ (j : Known). is_some (j.env t) ≡ true) k d h (bound-still k.env d.name.name (signal-to k d) t h))

  signal-known : (k : Known) (d : x.Declared) → is_some ((with_signal g m k d).env d.name.name) ≡ true
  unfolding more signal-to
  signal-known k d = by (is_some (k.env d.name.name)) refl
    where
      by : (c : Bool) → is_some (k.env d.name.name) ≡ c → is_some ((if c then k else more k d).env d.name.name) ≡ true
      by true h = h
      by false h = bound-here k.env d.name.name (signal-to k d)

  signals-known : (ds : List x.Declared) (k : Known) (d : x.Declared) → In d ds → is_some ((fold (with_signal g m) k ds).env d.name.name) ≡ true
  signals-known [] k d h = absurd h
  signals-known (e ∷ ds) k d (inl h) =
      signals-still ds (with_signal g m k e) d.name.name (subst (λ (z : x.Declared). is_some ((with_signal g m k e).env z.name.name) ≡ true) h (signal-known k e))
  signals-known (e ∷ ds) k d (inr h) = signals-known ds (with_signal g m k e) d h

  signals-stay : (ds : List x.Declared) (k : Known) (t : List ℕ) → ((d : x.Declared) → In d ds → d.name.name ≡ t → ⊥) → (fold (with_signal g m) k ds).env t ≡ k.env t
  unfolding more
  signals-stay [] k t h = refl
  signals-stay (d ∷ ds) k t h =
      signals-stay ds (with_signal g m k d) t (λ e q. h e (inr q))
      ∙ signal-cases (λ (j : Known). j.env t ≡ k.env t) k d refl (bound-elsewhere k.env d.name.name t (signal-to k d) (h d (inl refl)))

  -- ---- items

  item-binds : (item : x.Item) (k : Known) (t : List ℕ) (y : Binding) → (with_item sizes g m k item).env t ≡ Some y → (k.env t ≡ Some y) ⊎ Binds k item t y
  item-binds (x.Parameters type as') k t y h = parameters-bind type as' k t y k h
  item-binds (x.Signals ds) k t y h = signals-bind ds k t y k h
  item-binds (x.Functions f) k t y h =
      ⊎_elim (λ q. inl q) (λ q. inr (subst (Binds k (x.Functions f) t) q.1 (q.0, refl))) (bound-cases k.env f.name.name (b.Function k.next.functions (type_form k.env f.type)) t y h)
  item-binds (x.Assigns as') k t y h = inl h
  item-binds (x.Initial at a) k t y h = inl h
  item-binds (x.Always at trigger a) k t y h = inl h
  item-binds (x.Instantiates us) k t y h = inl h

  -- a name is bound by one of the items
  pub record Bound (k : Known) (items : List x.Item) (t : List ℕ) (y : Binding) : Type 0 where
    pub before : List x.Item
    pub item : x.Item
    pub after : List x.Item
    pub is : items ≡ before ++ item ∷ after
    pub binds : Binds (fold (with_item sizes g m) k before) item t y

  pub items-bind : (items : List x.Item) (k : Known) (t : List ℕ) (y : Binding) → (fold (with_item sizes g m) k items).env t ≡ Some y → (k.env t ≡ Some y) ⊎ Bound k items t y
  items-bind [] k t y h = inl h
  items-bind (item ∷ items) k t y h =
      ⊎_elim
      (λ q. ⊎_elim (λ r. inl r) (λ r. inr (record { before = []; item = item; after = items; is = refl; binds = r })) (item-binds item k t y q))
      (λ q. inr (record { before = item ∷ q.before; item = q.item; after = q.after; is = ap (λ z. item ∷ z) q.is; binds = q.binds }))
      (items-bind items (with_item sizes g m k item) t y h)

  item-still : (item : x.Item) (k : Known) (t : List ℕ) → is_some (k.env t) ≡ true → is_some ((with_item sizes g m k item).env t) ≡ true
  item-still (x.Parameters type as') k t h = parameters-still type as' k t h
  item-still (x.Signals ds) k t h = signals-still ds k t h
  item-still (x.Functions f) k t h = bound-still k.env f.name.name _ t h
  item-still (x.Assigns as') k t h = h
  item-still (x.Initial at a) k t h = h
  item-still (x.Always at trigger a) k t h = h
  item-still (x.Instantiates us) k t h = h

  pub items-still : (items : List x.Item) (k : Known) (t : List ℕ) → is_some (k.env t) ≡ true → is_some ((fold (with_item sizes g m) k items).env t) ≡ true
  items-still [] k t h = h
  items-still (item ∷ items) k t h = items-still items (with_item sizes g m k item) t (item-still item k t h)

  -- a name of an item, but an instance's, is bound behind it
  abbrev pub IsBound : Name → Type 0
  IsBound (I n) = ⊥
  IsBound nm = Unit {0}

  item-known : (item : x.Item) (k : Known) (nm : Name) → In nm (names_in item) → IsBound nm → is_some ((with_item sizes g m k item).env (spelt nm).name) ≡ true
  item-known (x.Parameters type as') k nm h q =
      let a = In-map_cases (λ (a : x.Parameter). P a.name) nm as' h in
      subst (λ (z : Name). is_some ((with_item sizes g m k (x.Parameters type as')).env (spelt z).name) ≡ true) a.2 (parameters-known type as' k a.0 a.1)
  item-known (x.Signals ds) k nm h q =
      let a = In-map_cases (λ (d : x.Declared). S d) nm ds h in
      subst (λ (z : Name). is_some ((with_item sizes g m k (x.Signals ds)).env (spelt z).name) ≡ true) a.2 (signals-known ds k a.0 a.1)
  item-known (x.Functions f) k nm (inl h) q = subst (λ (z : Name). is_some ((with_item sizes g m k (x.Functions f)).env (spelt z).name) ≡ true) h (bound-here k.env f.name.name _)
  item-known (x.Functions f) k nm (inr h) q = absurd h
  item-known (x.Assigns as') k nm h q = absurd h
  item-known (x.Initial at a) k nm h q = absurd h
  item-known (x.Always at trigger a) k nm h q = absurd h
  item-known (x.Instantiates us) k nm h q = let u = In-map_cases (λ (u : x.NamedUnit). I u.name) nm us.units h in absurd (subst IsBound (sym u.2) q)

  pub items-known : (items : List x.Item) (k : Known) (nm : Name) → In nm (names_of items) → IsBound nm → is_some ((fold (with_item sizes g m) k items).env (spelt nm).name) ≡ true
  items-known [] k nm h q = absurd h
  items-known (item ∷ items) k nm h q =
      ⊎_elim (λ r. items-still items (with_item sizes g m k item) (spelt nm).name (item-known item k nm r q)) (λ r. items-known items (with_item sizes g m k item) nm r q)
      (In-append_cases nm (names_in item) (names_of items) h)

  item-stays : (item : x.Item) (k : Known) (t : List ℕ) → ((nm : Name) → In nm (names_in item) → (spelt nm).name ≡ t → ⊥) → (with_item sizes g m k item).env t ≡ k.env t
  item-stays (x.Parameters type as') k t h = parameters-stay type as' k t (λ a q. h (P a.name) (In-map (λ (e : x.Parameter). P e.name) a as' q))
  item-stays (x.Signals ds) k t h = signals-stay ds k t (λ d q. h (S d) (In-map (λ (e : x.Declared). S e) d ds q))
  item-stays (x.Functions f) k t h = bound-elsewhere k.env f.name.name t _ (h (F f) (inl refl))
  item-stays (x.Assigns as') k t h = refl
  item-stays (x.Initial at a) k t h = refl
  item-stays (x.Always at trigger a) k t h = refl
  item-stays (x.Instantiates us) k t h = refl

  -- what is no name of the items stands for what it did
  pub items-stay : (items : List x.Item) (k : Known) (t : List ℕ) → ((nm : Name) → In nm (names_of items) → (spelt nm).name ≡ t → ⊥) → (fold (with_item sizes g m) k items).env t ≡ k.env t
  items-stay [] k t h = refl
  items-stay (item ∷ items) k t h =
      items-stay items (with_item sizes g m k item) t (λ nm q. h nm (In-append_right nm (names_in item) (names_of items) q))
      ∙ item-stays item k t (λ nm q. h nm (In-append_left nm (names_in item) (names_of items) q))
