-- In an instance each name of its module stands for what it is.
use Rattle.std.proofs.Common.{◌≡◌, ℕ, ◌^◌, ◌<◌, Bool, true, false, true≢false, if◌then◌else◌, ◌⊎◌, inl, inr, ⊎_elim, List, [], ◌∷◌, ◌++◌, map, length, Option, Some, None, refl, sym, ap, ◌∙◌, subst}
use Rattle.std.specs.Prelude.{◌&&◌, ◌||◌, is_some, option_map, flat_map, fold}
use Rattle.std.specs.List.{list_any}
use Rattle.std.specs.Str.{bytes_eq}
use Rattle.std.proofs.lemmas.Slice.Eq.{bytes_eq-Decides}
use Rattle.vl_flat.specs.vl_tree.specs.declared.tree.Identifier.{Identifier}
use Rattle.vl_flat.specs.vl_tree.specs.declared.source_tree.Source.{Source}
use Rattle.vl_flat.specs.vl_tree.specs.declared.source_tree.Module.{Module as ModuleTree}
use Rattle.vl_flat.specs.vl_tree.specs.declared.source_tree.Direction.{Direction}
use Rattle.vl_flat.specs.vl_tree.specs.declared.source_tree.Direction.TheVariants.{Input, Output}
use Rattle.vl_names.specs.vl_scope.specs.declared.fault.Fault.{Fault}
use Rattle.vl_names.specs.vl_scope.specs.declared.kind.Kind.{Kind}
use Rattle.vl_names.specs.vl_scope.specs.declared.kind.Class.{Class}
use Rattle.vl_names.specs.vl_scope.specs.declared.kind.Class.TheVariants as c
use Rattle.vl_names.specs.vl_scope.specs.Faults.{In}
use Rattle.vl_names.specs.vl_scope.specs.Declarations as s
use Rattle.vl_names.specs.vl_scope.specs.DeclarationFaults.{clash, mismatch, is_no_port, is_memory, is_stored, is_input as gives_in, IsDeclarationFault}
use Rattle.vl_names.specs.vl_scope.proofs.Members.{In-map, In-map_cases, In-flat_map, In-flat_map_cases, In-middle, list_any-In, list_any-In_cases}
use Rattle.vl_flat.specs.vl_design.specs.declared.design.Form.{Form}
use Rattle.vl_flat.specs.vl_design.specs.declared.design.SigKind.{SigKind}
use Rattle.vl_flat.specs.vl_design.specs.declared.design.SigKind.TheVariants.{Net, Var, Comb, Loop, Mem, Clock}
use Rattle.vl_flat.specs.vl_design.specs.Sound.{HasValue, IsMem}
use Rattle.vl_flat.specs.declared.binding.Binding.{Binding}
use Rattle.vl_flat.specs.declared.binding.Binding.TheVariants as b
use Rattle.vl_flat.specs.declared.binding.Constant.{Constant}
use Rattle.vl_flat.specs.declared.binding.Shape.{Shape}
use Rattle.vl_flat.specs.Scopes.{Env, none, plainly}
use Rattle.vl_flat.specs.Items as x
use Rattle.vl_flat.specs.Declarations as d
use Rattle.vl_flat.specs.Functions.{input_numbers}
use Rattle.vl_flat.specs.Kinds.{signals_in, signals_of, declared_as, gives_input, is_input, is_loop, item_writes, variable_kind, kind_of}
use Rattle.vl_flat.specs.Environments.{Counts, Given, Known, with_item, environment}
use Rattle.vl_sound.specs.Used.{Classes, class_in, classes}
use Rattle.vl_sound.specs.Agreeing.{StandsAs, Agrees}
use Rattle.vl_sound.specs.Clocks.{ClocksAreInputs}
use Rattle.vl_sound.proofs.Pairs.{pairs-back}
use Rattle.vl_sound.proofs.Names.{Name, P, S, F, I, spelt, names_in, names_of, Said, SaidParameter, SaidSignal, SaidFunction, SaidInstance, all-said}
use Rattle.vl_sound.proofs.Bound.{Binds, Bound, IsBound, items-bind, items-known}
use Rattle.vl_sound.proofs.Alone.{SaysClass, class-of, Unlike, Apart, alone, no-signal-apart}
use Rattle.vl_flat.specs.vl_base.proofs.Booleans.{and_left as and-left, or_right_true as or-right, and_right as and-right}

-- ---- tests

-- ---- names of signals

signal-in : (item : x.Item) (e : x.Declared) → In e (signals_in item) → In (S e) (names_in item)
signal-in (x.Signals ds) e h = In-map (λ (z : x.Declared). S z) e ds h
signal-in (x.Parameters type as') e h = absurd h
signal-in (x.Functions f) e h = absurd h
signal-in (x.Assigns as') e h = absurd h
signal-in (x.Initial at a) e h = absurd h
signal-in (x.Always at trigger a) e h = absurd h
signal-in (x.Instantiates us) e h = absurd h

signal-out : (item : x.Item) (e : x.Declared) → In (S e) (names_in item) → In e (signals_in item)
signal-out (x.Signals ds) e h =
    let r = In-map_cases (λ (z : x.Declared). S z) (S e) ds h in
    let same : r.0 ≡ e = signal-is r.0 r.2 in
    subst (λ z. In z ds) same r.1
  where
    signal-is : (z : x.Declared) → S z ≡ S e → z ≡ e
    signal-is z q = cc
signal-out (x.Parameters type as') e h = let r = In-map_cases (λ (a : x.Parameter). P a.name) (S e) as' h in absurd (no r.0 r.2)
  where
    no : (a : x.Parameter) → P a.name ≡ S e → ⊥
    no a q = cc
signal-out (x.Functions f) e (inl h) = absurd cc
signal-out (x.Functions f) e (inr h) = absurd h
signal-out (x.Assigns as') e h = absurd h
signal-out (x.Initial at a) e h = absurd h
signal-out (x.Always at trigger a) e h = absurd h
signal-out (x.Instantiates us) e h = let r = In-map_cases (λ (u : x.NamedUnit). I u.name) (S e) us.units h in absurd (no r.0 r.2)
  where
    no : (u : x.NamedUnit) → I u.name ≡ S e → ⊥
    no u q = cc

pub all-in : (m : x.Module) (e : x.Declared) → In e (signals_of m) → In (S e) (names_of m.items)
all-in m e h = let r = In-flat_map_cases signals_in e m.items h in In-flat_map names_in r.0 (S e) m.items r.1 (signal-in r.0 e r.2)

all-out : (m : x.Module) (e : x.Declared) → In (S e) (names_of m.items) → In e (signals_of m)
all-out m e h = let r = In-flat_map_cases names_in (S e) m.items h in In-flat_map signals_in r.0 e m.items r.1 (signal-out r.0 e r.2)

-- ---- classes

pub spelt-as : (nm : Name) (a : s.Declared) → Said nm a → (spelt nm).name ≡ a.name.name
spelt-as (P n) a k = sym (ap (λ (z : Identifier). z.name) k.name)
spelt-as (S n) a k = sym (ap (λ (z : Identifier). z.name) k.name)
spelt-as (F n) a k = sym (ap (λ (z : Identifier). z.name) k.name)
spelt-as (I n) a k = sym (ap (λ (z : Identifier). z.name) k.name)

-- a class that a name has is that of one of its declarations
pub says-in : (ds : List s.Declared) (t : List ℕ) (class : Class) → class_in ds t ≡ Some class → SaysClass ds t class
says-in ds t class h = by (s.kind_in ds t) refl h
  where
    some-is : (y z : Class) → ◌≡◌ {A = Option Class} (Some y) (Some z) → y ≡ z
    some-is y z q = cc

    nothing : ◌≡◌ {A = Option Class} None (Some class) → ⊥
    nothing q = cc

    by : (o : Option Kind) → s.kind_in ds t ≡ o → option_map (λ (kind : Kind). kind.class) o ≡ Some class → SaysClass ds t class
    by None e q = absurd (nothing q)
    by (Some kind) e q = subst (SaysClass ds t) (some-is kind.class class q) (class-of ds t kind e)

-- ---- memories

said-typed : (a : x.Declared) (e : s.Declared) → SaidSignal a e → is_some a.words ≡ true → e.typed ≡ true
said-typed a e h w = sym (ap (λ z. is_some z || e.typed) (h.bare (h.memory ∙ w))) ∙ h.says

-- what is a memory, and what has a direction or says that it is something else
memory-first : (da db tb na nb ia ib sa sb mb ta ma : Bool) → ta ≡ true → ma ≡ true → (db || tb) ≡ true
    → (((((da && db) || (ta && tb)) || (da && nb)) || (na && db)) || ((((ia && sb) || (sa && ib)) || (da && mb)) || (ma && db))) ≡ true
memory-first da true tb na nb ia ib sa sb mb ta true h k l =
    or-right ((((da && true) || (ta && tb)) || (da && nb)) || (na && true)) ((((ia && sb) || (sa && ib)) || (da && mb)) || true)
    (or-right (((ia && sb) || (sa && ib)) || (da && mb)) true refl)
memory-first da false true na nb ia ib sa sb mb true ma h k l = within (da && false) (da && nb) (na && false) ((((ia && sb) || (sa && ib)) || (da && mb)) || (ma && false))
  where
    within : (q u w z : Bool) → ((((q || true) || u) || w) || z) ≡ true
    within true u w z = refl
    within false u w z = refl
memory-first da false false na nb ia ib sa sb mb ta ma h k l = absurd (true≢false (sym l))
memory-first da false true na nb ia ib sa sb mb false ma h k l = absurd (true≢false (sym h))
memory-first da true tb na nb ia ib sa sb mb ta false h k l = absurd (true≢false (sym k))

memory-second : (da db tb na nb ia ib sa sb mb ta ma : Bool) → ta ≡ true → ma ≡ true → (db || tb) ≡ true
    → (((((db && da) || (tb && ta)) || (db && na)) || (nb && da)) || ((((ib && sa) || (sb && ia)) || (db && ma)) || (mb && da))) ≡ true
memory-second da true tb na nb ia ib sa sb mb ta true h k l =
    or-right ((((true && da) || (tb && ta)) || (true && na)) || (nb && da)) ((((ib && sa) || (sb && ia)) || true) || (mb && da))
    (within ((ib && sa) || (sb && ia)) (mb && da))
  where
    within : (q w : Bool) → ((q || true) || w) ≡ true
    within true w = refl
    within false w = refl
memory-second da false true na nb ia ib sa sb mb true ma h k l = within false false (nb && da) ((((ib && sa) || (sb && ia)) || (false && ma)) || (mb && da))
  where
    within : (q u w z : Bool) → ((((q || true) || u) || w) || z) ≡ true
    within true u w z = refl
    within false u w z = refl
memory-second da false false na nb ia ib sa sb mb ta ma h k l = absurd (true≢false (sym l))
memory-second da false true na nb ia ib sa sb mb false ma h k l = absurd (true≢false (sym h))
memory-second da true tb na nb ia ib sa sb mb ta false h k l = absurd (true≢false (sym k))

-- a memory stands beside no other declaration
pub memory-apart : (a z : x.Declared) → is_some a.words ≡ true → (e f : s.Declared) → SaidSignal a e → SaidSignal z f → Unlike e f × Unlike f e
memory-apart a z w e f h k = (
  memory-first (is_some e.direction) (is_some f.direction) f.typed (is_no_port e.kind.class) (is_no_port f.kind.class) (gives_in e.direction) (gives_in f.direction)
      (is_stored e.kind.class) (is_stored f.kind.class) (is_memory f.kind.class) e.typed (is_memory e.kind.class) (said-typed a e h w) (h.memory ∙ w) k.says,
  memory-second (is_some e.direction) (is_some f.direction) f.typed (is_no_port e.kind.class) (is_no_port f.kind.class) (gives_in e.direction) (gives_in f.direction)
      (is_stored e.kind.class) (is_stored f.kind.class) (is_memory f.kind.class) e.typed (is_memory e.kind.class) (said-typed a e h w) (h.memory ∙ w) k.says,
)

-- ---- kinds

variable-value : (m : x.Module) (wired : Bool) (t : List ℕ) → HasValue (variable_kind m wired t)
variable-value m wired t = by (is_loop m wired t) (list_any (item_writes t) m.items)
  where
    by : (l w : Bool) → HasValue (if l then Loop else if w then Comb else Var)
    by true w = tt
    by false true = tt
    by false false = tt

value-kind : (m : x.Module) (clock wired : Bool) (t : List ℕ) → declared_as (λ d. is_some d.words) m t ≡ false → HasValue (kind_of m clock wired t)
value-kind m clock wired t h = by clock (declared_as (λ d. is_some d.words) m t) (declared_as (λ d. d.variable) m t) h
  where
    by : (q w u : Bool) → w ≡ false → HasValue (if q then Clock else if w then Mem else if u then variable_kind m wired t else Net)
    by true w u h = tt
    by false true u h = absurd (true≢false h)
    by false false true h = variable-value m wired t
    by false false false h = tt

memory-kind : (m : x.Module) (clock wired : Bool) (t : List ℕ) → clock ≡ false → declared_as (λ d. is_some d.words) m t ≡ true → IsMem (kind_of m clock wired t)
memory-kind m clock wired t q h = by clock (declared_as (λ d. is_some d.words) m t) q h
  where
    by : (q w : Bool) → q ≡ false → w ≡ true → IsMem (if q then Clock else if w then Mem else if declared_as (λ d. d.variable) m t then variable_kind m wired t else Net)
    by true w q h = absurd (true≢false q)
    by false true q h = tt
    by false false q h = absurd (true≢false (sym h))

-- ---- an instance

module _ (src : Source) (fine : (f : Fault) → IsDeclarationFault src f → ⊥) (tree : ModuleTree) (within : In tree src.modules) (sizes : List ℕ → Counts) (g : Given) where
  abbrev m : x.Module
  m = d.module' tree

  abbrev env : Env
  env = environment sizes g m

  abbrev names : List Name
  names = names_of m.items

  abbrev start : Known
  start = record { env = none; next = g.base }

  record Found (t : List ℕ) : Type 0 where
    binding : Binding
    is : env t ≡ Some binding
    item : x.Item
    in-module : In item m.items
    known : Known
    binds : Binds sizes g m known item t binding

  found-bound : (t : List ℕ) (y : Binding) → env t ≡ Some y → Bound sizes g m start m.items t y → Found t
  found-bound t y h r = record {
    binding = y;
    is = h;
    item = r.item;
    in-module = subst (In r.item) (sym r.is) (In-middle r.item r.before r.after);
    known = fold (with_item sizes g m) start r.before;
    binds = r.binds;
  }

  found : (t : List ℕ) → is_some (env t) ≡ true → Found t
  found t h = by (env t) refl h
    where
      nothing : (y : Binding) → ◌≡◌ {A = Option Binding} None (Some y) → ⊥
      nothing y q = cc

      by : (o : Option Binding) → env t ≡ o → is_some o ≡ true → Found t
      by None e h = absurd (true≢false (sym h))
      by (Some y) e h = ⊎_elim (λ q. absurd (nothing y q)) (λ r. found-bound t y e r) (items-bind sizes g m m.items start t y e)

  name-of : (item : x.Item) (nm : Name) → In item m.items → In nm (names_in item) → In nm names
  name-of item nm h k = In-flat_map names_in item nm m.items h k

  -- the names that an item binds
  parameter-name : (type : x.DataType) (as' : List x.Parameter) (a : x.Parameter) → In (x.Parameters type as') m.items → In a as' → In (P a.name) names
  parameter-name type as' a h k = name-of (x.Parameters type as') (P a.name) h (In-map (λ (e : x.Parameter). P e.name) a as' k)

  pub function-name : (f : x.Function) → In (x.Functions f) m.items → In (F f) names
  function-name f h = name-of (x.Functions f) (F f) h (inl refl)

  signal-name : (ds : List x.Declared) (e : x.Declared) → In (x.Signals ds) m.items → In e ds → In (S e) names
  signal-name ds e h k = name-of (x.Signals ds) (S e) h (In-map (λ (z : x.Declared). S z) e ds k)

  pub one : (y z : Name) → In y names → In z names → (spelt y).name ≡ (spelt z).name → ((a e : s.Declared) → Said y a → Said z e → Unlike a e × Unlike e a) → y ≡ z
  one y z = alone src fine tree within y z

  -- ---- signals

  IsSignalOf : List ℕ → Option Binding → Type 0
  IsSignalOf t (Some (b.Signal j s)) = s.kind ≡ kind_of m (g.clocks t) (g.wired t) t
  IsSignalOf t o = ⊥

  signal-bound : (e : x.Declared) → In (S e) names → IsSignalOf e.name.name (env e.name.name)
  unfolding IsSignalOf
  signal-bound e h =
      let r = found e.name.name (items-known sizes g m m.items start (S e) h tt) in
      subst (IsSignalOf e.name.name) (sym r.is) (by r.known r.item r.binding r.in-module r.binds)
    where
      no-parameter : (n : Identifier) → P n ≡ S e → ⊥
      no-parameter n q = cc

      no-function : (f : x.Function) → F f ≡ S e → ⊥
      no-function f q = cc

      by : (k : Known) (item : x.Item) (y : Binding) → In item m.items → Binds sizes g m k item e.name.name y → IsSignalOf e.name.name (Some y)
      by k (x.Signals ds) (b.Signal j s) q r = r.3
      by k (x.Parameters type as') (b.Constant c) q r =
          absurd (no-parameter r.0.name (one (P r.0.name) (S e) (parameter-name type as' r.0 q r.1) h r.2 (no-signal-apart (P r.0.name) (S e) tt)))
      by k (x.Functions f) (b.Function j c) q r = absurd (no-function f (one (F f) (S e) (function-name f q) h r.0 (no-signal-apart (F f) (S e) tt)))
      by k item y q r = absurd r

  -- no other declaration of the name is of a memory
  no-words : (e : x.Declared) → In (S e) names → is_some e.words ≡ false → declared_as (λ d. is_some d.words) m e.name.name ≡ false
  no-words e h w = by (declared_as (λ d. is_some d.words) m e.name.name) refl
    where
      same : (z : x.Declared) → S z ≡ S e → z ≡ e
      same z q = cc

      by : (q : Bool) → declared_as (λ d. is_some d.words) m e.name.name ≡ q → q ≡ false
      by false q = refl
      by true q =
          let r = list_any-In_cases (λ (z : x.Declared). bytes_eq e.name.name z.name.name && is_some z.words) (signals_of m) q in
          let t : e.name.name ≡ r.0.name.name = (bytes_eq-Decides e.name.name r.0.name.name).0 (and-left (bytes_eq e.name.name r.0.name.name) (is_some r.0.words) r.2) in
          let words : is_some r.0.words ≡ true = and-right (bytes_eq e.name.name r.0.name.name) (is_some r.0.words) r.2 in
          let alike = same r.0 (one (S r.0) (S e) (all-in m r.0 r.1) h (sym t) (memory-apart r.0 e words)) in
          sym words ∙ (ap (λ (z : x.Declared). is_some z.words) alike ∙ w)

  has-words : (e : x.Declared) → In (S e) names → is_some e.words ≡ true → declared_as (λ d. is_some d.words) m e.name.name ≡ true
  has-words e h w =
      list_any-In (λ (z : x.Declared). bytes_eq e.name.name z.name.name && is_some z.words) e (signals_of m) (all-out m e h)
      (rw ((bytes_eq-Decides e.name.name e.name.name).1 refl, w) refl)

  -- a memory is no input
  no-input : (e : x.Declared) → In (S e) names → is_some e.words ≡ true → e.direction ≡ None → is_input m e.name.name ≡ false
  no-input e h w bare = by (is_input m e.name.name) refl
    where
      same : (z : x.Declared) → S e ≡ S z → e ≡ z
      same z q = cc

      by : (q : Bool) → is_input m e.name.name ≡ q → q ≡ false
      by false q = refl
      by true q =
          let r = list_any-In_cases (λ (z : x.Declared). bytes_eq e.name.name z.name.name && gives_input z.direction) (signals_of m) q in
          let t : e.name.name ≡ r.0.name.name = (bytes_eq-Decides e.name.name r.0.name.name).0 (and-left (bytes_eq e.name.name r.0.name.name) (gives_input r.0.direction) r.2) in
          let input : gives_input r.0.direction ≡ true = and-right (bytes_eq e.name.name r.0.name.name) (gives_input r.0.direction) r.2 in
          let alike = same r.0 (one (S e) (S r.0) h (all-in m r.0 r.1) t (memory-apart e r.0 w)) in
          sym input ∙ (ap (λ (z : x.Declared). gives_input z.direction) (sym alike) ∙ ap gives_input bare)

  signal-value : (e : x.Declared) → In (S e) names → is_some e.words ≡ false → StandsAs c.Net (env e.name.name)
  unfolding IsSignalOf
  signal-value e h w = by (env e.name.name) (signal-bound e h)
    where
      by : (o : Option Binding) → IsSignalOf e.name.name o → StandsAs c.Net o
      by (Some (b.Signal j s)) q = subst HasValue (sym q) (value-kind m (g.clocks e.name.name) (g.wired e.name.name) e.name.name (no-words e h w))
      by (Some (b.Constant c)) q = absurd q
      by (Some (b.Function j c)) q = absurd q
      by None q = absurd q

  net-port : (o : Option Binding) → StandsAs c.Net o → StandsAs c.Port o
  net-port (Some (b.Signal j s)) q = q
  net-port (Some (b.Constant c)) q = absurd q
  net-port (Some (b.Function j c)) q = absurd q
  net-port None q = absurd q

  net-variable : (o : Option Binding) → StandsAs c.Net o → StandsAs c.Variable o
  net-variable (Some (b.Signal j s)) q = q
  net-variable (Some (b.Constant c)) q = absurd q
  net-variable (Some (b.Function j c)) q = absurd q
  net-variable None q = absurd q

  module _ (clocks : ClocksAreInputs m g) where
    memory-stands : (e : x.Declared) → In (S e) names → is_some e.words ≡ true → e.direction ≡ None → StandsAs c.Memory (env e.name.name)
    unfolding IsSignalOf
    memory-stands e h w bare = by (env e.name.name) (signal-bound e h)
      where
        no-clock : g.clocks e.name.name ≡ false
        no-clock = by (g.clocks e.name.name) refl
          where
            by : (q : Bool) → g.clocks e.name.name ≡ q → q ≡ false
            by false q = refl
            by true q = sym (clocks e.name.name q) ∙ no-input e h w bare

        by : (o : Option Binding) → IsSignalOf e.name.name o → StandsAs c.Memory o
        by (Some (b.Signal j s)) q = subst IsMem (sym q) (memory-kind m (g.clocks e.name.name) (g.wired e.name.name) e.name.name no-clock (has-words e h w))
        by (Some (b.Constant c)) q = absurd q
        by (Some (b.Function j c)) q = absurd q
        by None q = absurd q

    signal-stands : (e : x.Declared) → In (S e) names → (a : s.Declared) → SaidSignal e a → (class : Class) → a.kind.class ≡ class → StandsAs class (env e.name.name)
    signal-stands e h a k c.Net q = signal-value e h (sym k.memory ∙ ap is_memory q)
    signal-stands e h a k c.Port q = net-port (env e.name.name) (signal-value e h (sym k.memory ∙ ap is_memory q))
    signal-stands e h a k c.Variable q = net-variable (env e.name.name) (signal-value e h (sym k.memory ∙ ap is_memory q))
    signal-stands e h a k c.Memory q = memory-stands e h (sym k.memory ∙ ap is_memory q) (sym k.direction ∙ k.bare (ap is_memory q))
    signal-stands e h a k (c.Parameter n) q = absurd (true≢false (sym (ap is_no_port q) ∙ k.port))
    signal-stands e h a k (c.Function n) q = absurd (true≢false (sym (ap is_no_port q) ∙ k.port))
    signal-stands e h a k c.Instance q = tt

    parameter-stands : (n : Identifier) → In (P n) names → (a : s.Declared) → SaidParameter n a → (class : Class) → a.kind.class ≡ class → StandsAs class (env n.name)
    parameter-stands n h a k (c.Parameter i) q =
        let r = found n.name (items-known sizes g m m.items start (P n) h tt) in
        subst (StandsAs (c.Parameter i)) (sym r.is) (by r.known r.item r.binding r.in-module r.binds)
      where
        no-signal : (e : x.Declared) → P n ≡ S e → ⊥
        no-signal e q = cc

        no-function : (f : x.Function) → P n ≡ F f → ⊥
        no-function f q = cc

        by : (k : Known) (item : x.Item) (y : Binding) → In item m.items → Binds sizes g m k item n.name y → StandsAs (c.Parameter i) (Some y)
        by k (x.Parameters type as') (b.Constant c) q r = r.3
        by k (x.Signals ds) (b.Signal j s) q r = absurd (no-signal r.0 (one (P n) (S r.0) h (signal-name ds r.0 q r.1) (sym r.2) (no-signal-apart (P n) (S r.0) tt)))
        by k (x.Functions f) (b.Function j c) q r = absurd (no-function f (one (P n) (F f) h (function-name f q) (sym r.0) (no-signal-apart (P n) (F f) tt)))
        by k item y q r = absurd r
    parameter-stands n h a k c.Instance q = tt
    parameter-stands n h a k c.Net q = absurd (true≢false (sym k.class ∙ ap s.is_parameter q))
    parameter-stands n h a k c.Port q = absurd (true≢false (sym k.class ∙ ap s.is_parameter q))
    parameter-stands n h a k c.Variable q = absurd (true≢false (sym k.class ∙ ap s.is_parameter q))
    parameter-stands n h a k c.Memory q = absurd (true≢false (sym k.class ∙ ap s.is_parameter q))
    parameter-stands n h a k (c.Function j) q = absurd (true≢false (sym k.class ∙ ap s.is_parameter q))

    pub function-stands : (f : x.Function) → In (F f) names → (j : ℕ) → StandsAs (c.Function j) (env f.name.name)
    function-stands f h i =
        let r = found f.name.name (items-known sizes g m m.items start (F f) h tt) in
        subst (StandsAs (c.Function i)) (sym r.is) (by r.known r.item r.binding r.in-module r.binds)
      where
        no-signal : (e : x.Declared) → F f ≡ S e → ⊥
        no-signal e q = cc

        no-parameter : (n : Identifier) → F f ≡ P n → ⊥
        no-parameter n q = cc

        by : (k : Known) (item : x.Item) (y : Binding) → In item m.items → Binds sizes g m k item f.name.name y → StandsAs (c.Function i) (Some y)
        by k (x.Functions e) (b.Function j c) q r = tt
        by k (x.Signals ds) (b.Signal j s) q r = absurd (no-signal r.0 (one (F f) (S r.0) h (signal-name ds r.0 q r.1) (sym r.2) (no-signal-apart (F f) (S r.0) tt)))
        by k (x.Parameters type as') (b.Constant c) q r =
            absurd (no-parameter r.0.name (one (F f) (P r.0.name) h (parameter-name type as' r.0 q r.1) (sym r.2) (no-signal-apart (F f) (P r.0.name) tt)))
        by k item y q r = absurd r

    name-stands : (nm : Name) → In nm names → (a : s.Declared) → Said nm a → StandsAs a.kind.class (env (spelt nm).name)
    name-stands (P n) h a k = parameter-stands n h a k a.kind.class refl
    name-stands (S e) h a k = signal-stands e h a k a.kind.class refl
    name-stands (F f) h a k = subst (λ q. StandsAs q (env f.name.name)) (sym (k.class 0)) (function-stands f h (length (input_numbers 0 f.locals)))
    name-stands (I n) h a k = subst (λ q. StandsAs q (env n.name)) (sym k.class) tt

    -- what a name is, it stands for
    class-stands : (t : List ℕ) (class : Class) → class_in (s.declarations tree) t ≡ Some class → StandsAs class (env t)
    class-stands t class h =
        let r = says-in (s.declarations tree) t class h in
        let nm = pairs-back Said names (s.declarations tree) r.said (all-said tree) r.within in
        subst (λ z. StandsAs class (env z)) (spelt-as nm.0 r.said nm.2 ∙ r.spelt)
        (subst (λ z. StandsAs z (env (spelt nm.0).name)) r.class-is (name-stands nm.0 nm.1 r.said nm.2))

    pub agrees : Agrees (classes (s.declarations tree)) (plainly env)
    agrees = record {
      read = class-stands;
      called = λ t n h. class-stands t (c.Function n) h;
    }
