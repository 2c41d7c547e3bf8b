-- The processes of a flat design write what is theirs: what an instance knows of its names, by what each may be assigned.
use Rattle.std.proofs.Common.{◌≡◌, ℕ, Bool, true, false, true≢false, inl, inr, List, Option, Some, None, Ok, refl, sym, ap, ◌∙◌, subst}
use Rattle.std.specs.Prelude.{⊤, is_some, All, ◌&&◌, not}
use Rattle.std.specs.List.{list_any}
use Rattle.std.specs.Str.{bytes_eq}
use Rattle.std.proofs.lemmas.Bool.{and_from, and_parts, not-true}
use Rattle.std.proofs.lemmas.Slice.Eq.{bytes_eq-Decides}
use Rattle.vl_sound.specs.vl_tree.specs.declared.source_tree.Source.{Source}
use Rattle.vl_sound.specs.vl_tree.specs.declared.source_tree.Module.{Module as ModuleTree}
use Rattle.vl_sound.specs.vl_scope.specs.declared.fault.Fault.{Fault}
use Rattle.vl_sound.specs.vl_scope.specs.declared.kind.Class.{Class}
use Rattle.vl_sound.specs.vl_scope.specs.declared.kind.Class.TheVariants as c
use Rattle.vl_sound.specs.vl_scope.specs.Faults.{In}
use Rattle.vl_sound.specs.vl_scope.specs.Declarations.{declarations}
use Rattle.vl_sound.specs.vl_scope.specs.DeclarationFaults.{IsDeclarationFault}
use Rattle.vl_sound.specs.vl_scope.proofs.Members.{In-map, list_any-In, list_any-In_cases}
use Rattle.vl_sound.specs.vl_uses.specs.Nodes.{is_clocked}
use Rattle.vl_sound.specs.vl_uses.specs.UseFaults.{IsUseFault}
use Rattle.ten_plan.specs.vl_design.specs.Queue.{is_comb}
use Rattle.ten_plan.specs.vl_design.specs.declared.design.SigKind.{SigKind}
use Rattle.ten_plan.specs.vl_design.specs.Placed as p
use Rattle.vl_accept.specs.vl_check.specs.Bodies.{kind_is}
use Rattle.vl_accept.specs.vl_check.specs.Writers as w
use Rattle.vl_accept.specs.vl_check.specs.Written.{is_kept, is_combined, is_computed, IsWritten, HasWriters}
use Rattle.vl_sound.specs.vl_flat.specs.declared.binding.Binding.{Binding}
use Rattle.vl_sound.specs.vl_flat.specs.declared.binding.Binding.TheVariants as b
use Rattle.vl_sound.specs.vl_flat.specs.declared.binding.Shape.{Shape}
use Rattle.vl_sound.specs.vl_flat.specs.Surface as x
use Rattle.vl_sound.specs.vl_flat.specs.Items as i
use Rattle.vl_sound.specs.vl_flat.specs.Declarations.{module', modules}
use Rattle.vl_sound.specs.vl_flat.specs.Scopes.{Env, plainly, number_of}
use Rattle.vl_sound.specs.vl_flat.specs.Statements.{statement}
use Rattle.vl_sound.specs.vl_flat.specs.Uses.{writes}
use Rattle.vl_sound.specs.vl_flat.specs.Kinds.{signals_of, declared_as, gives_input, is_input, has_edge, item_writes, kind_of}
use Rattle.vl_sound.specs.vl_flat.specs.Environments.{Given, size, environment}
use Rattle.vl_sound.specs.vl_flat.specs.Functions.{signal}
use Rattle.vl_sound.specs.vl_flat.specs.Processes as q
use Rattle.vl_sound.specs.vl_flat.specs.Connections as cn
use Rattle.vl_sound.specs.vl_flat.specs.Flat as f
use Rattle.vl_sound.specs.vl_flat.specs.Outcome.{flattened}
use Rattle.vl_sound.specs.Used.{Classes, classes}
use Rattle.vl_sound.specs.Agreeing.{StandsAs, Agrees}
use Rattle.vl_sound.specs.Apart.{AreApart}
use Rattle.vl_sound.specs.Instances.{IsInstance, here_of}
use Rattle.vl_sound.proofs.DeclaredOfLaws.{all-apart}
use Rattle.vl_sound.proofs.Sources.{source-places}
use Rattle.vl_sound.proofs.Agree.{agrees}
use Rattle.vl_sound.proofs.InstancesOfAgree.{clocks-are-inputs}
use Rattle.elab_laws.proofs.Leaves.{IsStored, IsDriven, IsBody}
use Rattle.elab_laws.proofs.Made.{IsMadeItem, source-made}
use Rattle.elab_laws.proofs.Variables.{at-in, signal-kind, signal-named}
use Rattle.elab_laws.proofs.Sets.{statement-marks}
use Rattle.elab_laws.proofs.Inside.{always-inside}
use Rattle.elab_laws.proofs.Only.{only, masked}
use Rattle.elab_laws.proofs.Nets.{value-net, input-net, driven-net}
use Rattle.elab_laws.proofs.Kept.{uncomputed-at, combined-at, orphan-kind, orphan-computed, kind-computed, kind-combined, memory-kept, net-kept, net-combined}
use Rattle.elab_laws.proofs.Triggers.{edge-free}
use Rattle.elab_laws.proofs.Writing.{IsOwned, IsComputed, IsDrivable, IsOwnValue, Knows, written-fits}
use Rattle.elab_laws.proofs.Processes.{Fits}
use Rattle.elab_laws.proofs.Whole.{with-top, design, all-processes}

-- the names of an instance
abbrev IsSignal : Option Binding → Type 0
IsSignal (Some (b.Signal j y)) = ⊤
IsSignal o = ⊥

module _ (s : Source) (fine : (e : Fault) → IsDeclarationFault s e → ⊥) (used : (e : Fault) → IsUseFault s e → ⊥) (top : i.Module) (is-top : f.top_of s ≡ Some top)
    (made : p.Design) (is-made : flattened s ≡ Ok made) where
  abbrev ms : List i.Module
  ms = modules s

  abbrev Owned : ℕ → Type 0
  Owned = IsOwned made

  abbrev Computed : ℕ → Type 0
  Computed = IsComputed made

  abbrev Driven : ℕ → Type 0
  Driven = IsDrivable made

  module _ (n : ℕ) (g : Given) (tree : ModuleTree) (inside : In tree s.modules) (instance : IsInstance ms top n g (module' tree)) where
    abbrev m : i.Module
    m = module' tree

    abbrev env : Env
    env = environment (size n ms) g m

    abbrev k : Classes
    k = classes (declarations tree)

    agree : Agrees k (plainly env)
    agree = agrees s fine tree inside (size n ms) g (clocks-are-inputs ms top n g m instance)

    items-made : All (IsMadeItem k) m.items
    items-made = source-made s used tree inside

    abbrev kind : List ℕ → SigKind
    kind t = kind_of m (g.clocks t) (g.wired t) t

    -- ---- who writes a name that is said to be computed

    item-computes : (t : List ℕ) (j : ℕ) (y : Shape) → env t ≡ Some (b.Signal j y) → (item : i.Item) → In item m.items → item_writes t item ≡ true
        → is_computed made.processes j ≡ true
    item-computes t j y is (i.Always at trigger a) there h =
        let both = and_parts (not (has_edge trigger)) (writes t a) h in
        let act = q.process (here_of n ms top g m) at (q.trigger_kind trigger) (q.events env trigger) (statement (plainly env) a) in
        let body : IsBody k (is_clocked trigger) a = at-in (IsMadeItem k) m.items (i.Always at trigger a) items-made there in
        let among : In act made.processes = subst (λ (z : p.Design). In act z.processes) (design s top is-top made is-made) (always-inside ms top n g m instance at trigger a there act (inl refl)) in
        list_any-In (λ (z : p.Process). is_comb z.kind && w.writes j z) act made.processes among
        (and_from (is_comb act.kind) (w.writes j act) (edge-free trigger (not-true (has_edge trigger) both.0))
        (statement-marks j (plainly env) k (is_clocked trigger) t y is a body both.1))
    item-computes t j y is item there h = absurd (true≢false (sym h))

    -- ---- names by their kinds

    -- the signal of a name
    placed : (t : List ℕ) (j : ℕ) (y : Shape) → env t ≡ Some (b.Signal j y) → kind_is is_combined made.signals j ≡ is_combined y.kind
    placed t j y is =
        let r = source-places s fine top is-top made is-made n g m instance t j y is in
        combined-at made.signals j (signal g.path r.0 y) r.2

    unkept : (t : List ℕ) (j : ℕ) (y : Shape) → env t ≡ Some (b.Signal j y) → is_kept y.kind ≡ false → Computed j
    unkept t j y is h =
        let r = source-places s fine top is-top made is-made n g m instance t j y is in
        uncomputed-at made.signals j (signal g.path r.0 y) r.2 h

    owned-by : (t : List ℕ) (j : ℕ) (y : Shape) → env t ≡ Some (b.Signal j y) → (e : Bool) → is_combined y.kind ≡ e → Owned j
    owned-by t j y is false h = orphan-kind made j (placed t j y is ∙ h)
    owned-by t j y is true h =
        let written = kind-combined m (g.clocks t) (g.wired t) t (ap is_combined (sym (signal-kind (size n ms) g m t j y is)) ∙ h) in
        let (item, there, test) = list_any-In_cases (item_writes t) m.items written in
        orphan-computed made j (item-computes t j y is item there test)

    owned : (t : List ℕ) (v : Option Binding) → env t ≡ v → IsSignal v → Owned (number_of v)
    owned t (Some (b.Signal j y)) is h = owned-by t j y is (is_combined y.kind) refl
    owned t v is h = absurd h

    -- a name that stands for no plain variable
    computed : (t : List ℕ) (v : Option Binding) → env t ≡ v → IsSignal v → is_kept (kind t) ≡ false → Computed (number_of v)
    computed t (Some (b.Signal j y)) is h u = unkept t j y is (ap is_kept (signal-kind (size n ms) g m t j y is) ∙ u)
    computed t v is h u = absurd h

    undeclared : (t : List ℕ) → declared_as (λ y. y.variable) m t ≡ false → is_kept (kind t) ≡ false
    undeclared t h = kind-computed m (g.clocks t) (g.wired t) t (inl h)

    -- ---- names by their classes

    stands-signal : (class : Class) (v : Option Binding) → IsStored (Some class) → StandsAs class v → IsSignal v
    stands-signal class (Some (b.Signal j y)) h a = tt
    stands-signal c.Variable v h a = absurd a
    stands-signal c.Memory v h a = absurd a
    stands-signal class v h a = absurd h

    stands-driven : (class : Class) (v : Option Binding) → IsDriven (Some class) → StandsAs class v → IsSignal v
    stands-driven class (Some (b.Signal j y)) h a = tt
    stands-driven c.Port v h a = absurd a
    stands-driven c.Net v h a = absurd a
    stands-driven class v h a = absurd h

    stored-here : (t : List ℕ) → IsStored (k.read t) → Owned (number_of (env t))
    stored-here t h = by (k.read t) refl h
      where
        by : (v : Option Class) → k.read t ≡ v → IsStored v → Owned (number_of (env t))
        by (Some class) is h = owned t (env t) refl (stands-signal class (env t) h (agree.read t class is))
        by None is h = absurd h

    memory-free : (t : List ℕ) (v : Option Binding) → env t ≡ v → StandsAs c.Memory v → Computed (number_of v)
    memory-free t (Some (b.Signal j y)) is a = unkept t j y is (memory-kept y.kind a)
    memory-free t v is a = absurd a

    computed-here : (u : List ℕ → Bool) → ((t : List ℕ) → u t ≡ true → list_any (item_writes t) m.items ≡ true)
        → (t : List ℕ) → IsStored ((only u k).read t) → Computed (number_of (env t))
    computed-here u wrote t h = by (u t) refl (k.read t) refl h
      where
        by : (e : Bool) → u t ≡ e → (v : Option Class) → k.read t ≡ v → IsStored (masked e v) → Computed (number_of (env t))
        by e at (Some c.Memory) is h = memory-free t (env t) refl (agree.read t c.Memory is)
        by true at (Some class) is h =
            computed t (env t) refl (stands-signal class (env t) h (agree.read t class is))
            (kind-computed m (g.clocks t) (g.wired t) t (inr (wrote t at)))
        by true at None is h = absurd h
        by false at v is h = absurd h

    driven-here : (t : List ℕ) → IsDriven (k.read t) → Driven (number_of (env t))
    driven-here t h = by (k.read t) refl h
      where
        by : (v : Option Class) → k.read t ≡ v → IsDriven v → Driven (number_of (env t))
        by (Some class) is u =
            let bound = stands-driven class (env t) u (agree.read t class is) in
            (owned t (env t) refl bound, computed t (env t) refl bound (undeclared t (driven-net s fine tree inside t h)))
        by None is u = absurd u

    net-free : (t : List ℕ) (v : Option Binding) → env t ≡ v → cn.is_net v ≡ true → Driven (number_of v)
    net-free t (Some (b.Signal j y)) is h = (orphan-kind made j (placed t j y is ∙ net-combined y.kind h), unkept t j y is (net-kept y.kind h))
    net-free t v is h = absurd (true≢false (sym h))

    -- ---- names that are declared

    declared-signal : (y : i.Declared) → In y (signals_of m) → IsSignal (env y.name.name)
    declared-signal y there =
        let r = signal-named (size n ms) g m (at-in AreApart ms m (all-apart s fine) (In-map module' tree s.modules inside)) y there in
        subst IsSignal (sym r.is) tt

    own-here : (y : i.Declared) (a : x.Ex) → In y (signals_of m) → y.value ≡ Some a → IsOwnValue made env y
    own-here y a there is =
        let bound = declared-signal y there in (
          owned y.name.name (env y.name.name) refl bound,
          λ h. computed y.name.name (env y.name.name) refl bound (undeclared y.name.name (value-net s fine tree inside y there (ap is_some is) h)),
        )

    input-here : (t : List ℕ) → is_input m t ≡ true → Driven (number_of (env t))
    input-here t h =
        let (y, there, test) = list_any-In_cases (λ (z : i.Declared). bytes_eq t z.name.name && gives_input z.direction) (signals_of m) h in
        let same : t ≡ y.name.name = (bytes_eq-Decides t y.name.name).0 (and_parts (bytes_eq t y.name.name) (gives_input y.direction) test).0 in
        let bound : IsSignal (env t) = subst (λ z. IsSignal (env z)) (sym same) (declared-signal y there) in
        (owned t (env t) refl bound, computed t (env t) refl bound (undeclared t (input-net s fine tree inside t h)))

    pub fits-here : Fits (IsWritten made) Driven (here_of n ms top g m) m k
    fits-here =
        let knows : Knows made k (here_of n ms top g m) m =
        record { stored = stored-here; computed = computed-here; driven = driven-here; nets = λ t h. net-free t (env t) refl h; own = own-here } in
        written-fits made (here_of n ms top g m) k m knows input-here

pub source-written : (s : Source) → ((e : Fault) → IsDeclarationFault s e → ⊥) → ((e : Fault) → IsUseFault s e → ⊥) → (made : p.Design) → flattened s ≡ Ok made → HasWriters made
source-written s fine used made is = record {
  processes = with-top (All (IsWritten made) made.processes) s made is
      (λ top at. all-processes s top at made is used (IsWritten made) (IsDrivable made) (fits-here s fine used top at made is));
}
