-- The parts of a flat design that items and connections stand for are sound where they have no fault.
use Rattle.std.proofs.Common.{◌≡◌, ℕ, Bool, true, false, if◌then◌else◌, List, [], ◌∷◌, ◌++◌, map, length, Option, Some, None, refl, sym, subst}
use Rattle.std.specs.Prelude.{⊤, ◌&&◌, not, flat_map, All}
use Rattle.std.specs.Option.{option_map_or}
use Rattle.std.proofs.lemmas.Bool.{and_parts}
use Rattle.std.proofs.lemmas.List.Elements.{All-nil, All-cons, All-append, All-head, All-tail, All-map, All-weaker}
use Rattle.vl_flat.specs.vl_base.specs.declared.place.Place.{Place}
use Rattle.vl_flat.specs.vl_tree.specs.declared.source_tree.Trigger.{Trigger}
use Rattle.vl_flat.specs.vl_tree.specs.declared.source_tree.Trigger.TheVariants as g
use Rattle.vl_flat.specs.vl_tree.specs.declared.source_tree.Event.{Event as EventTree}
use Rattle.vl_names.specs.vl_scope.specs.declared.kind.Class.{Class}
use Rattle.vl_names.specs.vl_scope.specs.declared.kind.Class.TheVariants as c
use Rattle.vl_flat.specs.vl_design.specs.declared.design.Event.{Event}
use Rattle.vl_flat.specs.vl_design.specs.declared.design.ProcKind.{ProcKind}
use Rattle.vl_flat.specs.vl_design.specs.declared.design.ProcKind.TheVariants.{Init, Assign}
use Rattle.vl_flat.specs.vl_design.specs.declared.stop.Stop.{Stop}
use Rattle.vl_flat.specs.vl_design.specs.declared.stop.Stop.TheVariants.{Construct}
use Rattle.vl_flat.specs.vl_design.specs.declared.design.Signal.{Signal}
use Rattle.vl_flat.specs.vl_design.specs.Syntax as d
use Rattle.vl_flat.specs.vl_design.specs.Width as w
use Rattle.vl_flat.specs.vl_design.specs.Sound.{IsSignal, IsNamed, IsSoundStm, IsSoundProc}
use Rattle.vl_flat.specs.vl_design.specs.Placed as p
use Rattle.vl_flat.specs.vl_design.specs.Plainly as plain
use Rattle.vl_flat.specs.declared.binding.Binding.{Binding}
use Rattle.vl_flat.specs.declared.binding.Binding.TheVariants as b
use Rattle.vl_flat.specs.Surface as x
use Rattle.vl_flat.specs.Items as i
use Rattle.vl_flat.specs.Scopes.{Env, plainly, number_of}
use Rattle.vl_flat.specs.Expressions as e
use Rattle.vl_flat.specs.ExpressionFaults as ef
use Rattle.vl_flat.specs.Targets as t
use Rattle.vl_flat.specs.Statements as s
use Rattle.vl_flat.specs.Functions.{function_scope, function, function_faults}
use Rattle.vl_flat.specs.Kinds.{is_input}
use Rattle.vl_flat.specs.Ranges.{type_faults, range_faults}
use Rattle.vl_flat.specs.Processes as q
use Rattle.vl_flat.specs.Processes.{Here}
use Rattle.vl_flat.specs.Environments.{Given}
use Rattle.vl_flat.specs.Connections as cn
use Rattle.vl_flat.specs.Flat as f
use Rattle.vl_sound.specs.Used as u
use Rattle.vl_sound.specs.Agreeing.{StandsAs, Agrees, StandsFor}
use Rattle.vl_sound.proofs.Lists.{Each, each-left, each-right}
use Rattle.vl_sound.proofs.Depth.{NoFault}
use Rattle.vl_sound.proofs.Sides.{used-side}
use Rattle.vl_sound.specs.Widths.{HaveWidths}
use Rattle.vl_sound.proofs.Parts.{none-right, all-flat, all-clear}
use Rattle.vl_sound.proofs.Targets.{signal-named, event-named, left-sound}
use Rattle.vl_sound.proofs.Connected.{connected-used}
use Rattle.vl_sound.proofs.Statements.{assign-sound, set-sound, statement-sound}
use Rattle.vl_sound.proofs.Functions.{IsPrepared, IsGood, function-good}
use Rattle.vl_flat.specs.vl_base.proofs.Lists.{all_both as both}

-- ---- parts

abbrev pub SoundProc : w.Names → p.Process → Type 0
SoundProc design a = IsSoundProc design (plain.proc a)

pub record GoodPart (design : w.Names) (a : f.Part) : Type 0 where
  pub processes : All (SoundProc design) a.processes
  pub funcs : All (λ f. IsGood design (plain.fun f)) a.funcs

-- parts without faults are good
abbrev pub Done : w.Names → List f.Part → Type 0
Done design parts = Each NoFault parts → All (GoodPart design) parts

pub done-nil : (design : w.Names) → Done design []
done-nil design h = All-nil (GoodPart design)

pub done-cons : (design : w.Names) (a : f.Part) (parts : List f.Part) → (NoFault a → GoodPart design a) → Done design parts → Done design (a ∷ parts)
unfolding Each
done-cons design a parts g rest h = All-cons (GoodPart design) a parts (g h.0) (rest h.1)

pub done-append : (design : w.Names) (xs ys : List f.Part) → Done design xs → Done design ys → Done design (xs ++ ys)
done-append design xs ys g i h = All-append (GoodPart design) xs ys (g (each-left NoFault xs ys h)) (i (each-right NoFault xs ys h))

pub done-flat : {A : Type 0} (design : w.Names) (P : A → Type 0) (part : A → List f.Part) → ((y : A) → P y → Done design (part y)) → (xs : List A) → All P xs → Done design (flat_map part xs)
done-flat design P part g [] h = done-nil design
done-flat design P part g (y ∷ xs) h = done-append design (part y) (flat_map part xs) (g y (All-head P y xs h)) (done-flat design P part g xs (All-tail P y xs h))

-- ---- a signal's own value

abbrev pub HasOwn : Option Class → Option x.Ex → Type 0
HasOwn class None = ⊤
HasOwn class (Some e) = u.IsWatched class

-- ---- where items stand

-- a function's names agree and stand in the design, and it is prepared
pub record IsFunctionHere (k : u.Classes) (here : Here) (design : w.Names) (a : i.Function) : Type 0 where
  pub agrees : Agrees (u.within k a) (function_scope here.behind here.env a)
  pub stands : StandsFor (u.within k a) (function_scope here.behind here.env a) (w.names_in design (plain.fun (function here.behind here.env here.path a)))
  pub prepared : IsPrepared a

abbrev pub IsHere : u.Classes → Here → w.Names → i.Item → Type 0
IsHere k here design (i.Signals ds) = All (λ (y : i.Declared). HasOwn (k.read y.name.name) y.value) ds
IsHere k here design (i.Functions a) = IsFunctionHere k here design a
IsHere k here design item = ⊤

module _ (k : u.Classes) (here : Here) (agrees : Agrees k (plainly here.env)) (design : w.Names) (stands : StandsFor k (plainly here.env) design) (widths : HaveWidths here.env) where
  process-good : (at : Place) (kind : ProcKind) (events : List Event) (a : p.Stm) → All (λ (e : d.Event). IsNamed design e.signal) (map plain.event events)
      → IsSoundStm design (plain.stm here.path a) → SoundProc design (q.process here at kind events a)
  process-good at kind events a named good = record { events = named; body = good }

  silent-good : (at : Place) (kind : ProcKind) (a : p.Stm) → IsSoundStm design (plain.stm here.path a) → SoundProc design (q.process here at kind [] a)
  silent-good at kind a good = process-good at kind [] a (All-nil (λ (e : d.Event). IsNamed design e.signal)) good

  -- ---- declared values

  own-good : (y : i.Declared) (o : Option x.Ex) → u.IsUsedOwnValue k o → HasOwn (k.read y.name.name) o → q.optional_faults here.env o ≡ []
      → All (SoundProc design) (option_map_or (λ a. q.value_process here y a ∷ []) o [])
  own-good y None v own h = All-nil (SoundProc design)
  own-good y (Some a) v own h =
      let at = y.name.place in
      let to = p.Whole at (number_of (here.env y.name.name)) in
      All-cons (SoundProc design) (q.value_process here y a) []
      (silent-good at (q.value_kind y.variable) (p.Set at to (e.exp (plainly here.env) a))
      (assign-sound k (plainly here.env) agrees design stands widths here.path at to a (signal-named k (plainly here.env) agrees design stands widths y.name.name own) v h)) (All-nil (SoundProc design))

  declared-good : (y : i.Declared) → u.IsUsedDeclared k y × HasOwn (k.read y.name.name) y.value → q.declared_faults here.env y ≡ []
      → All (SoundProc design) (option_map_or (λ a. q.value_process here y a ∷ []) y.value [])
  declared-good y v h =
      own-good y y.value v.0.value v.1
      (none-right (q.binding_faults here.env y (here.env y.name.name)) (q.optional_faults here.env y.value)
      (none-right (range_faults here.env y.words) _ (none-right (type_faults here.env y.type y.name.place) _ h)))

  values-good : (ds : List i.Declared) → All (u.IsUsedDeclared k) ds → All (λ (y : i.Declared). HasOwn (k.read y.name.name) y.value) ds → flat_map (q.declared_faults here.env) ds ≡ []
      → All (SoundProc design) (q.values here ds)
  values-good ds v own h =
      all-flat (SoundProc design) (λ (y : i.Declared). option_map_or (λ a. q.value_process here y a ∷ []) y.value []) ds
      (all-clear (λ (y : i.Declared). u.IsUsedDeclared k y × HasOwn (k.read y.name.name) y.value) (λ (y : i.Declared). All (SoundProc design) (option_map_or (λ a. q.value_process here y a ∷ []) y.value []))
      (q.declared_faults here.env) declared-good ds (both (u.IsUsedDeclared k) (λ (y : i.Declared). HasOwn (k.read y.name.name) y.value) ds v own) h)

  -- ---- continuous assignments

  assignment-good : (a : i.Setting) → u.IsUsedLeft k a.target × u.IsUsedSide k a.value → q.assignment_faults here.env a ≡ [] → SoundProc design (q.assignment here a)
  assignment-good a v h =
      let at = x.left_place a.target in
      silent-good at Assign (p.Set at (t.target (plainly here.env) a.target) (e.exp (plainly here.env) a.value))
      (set-sound k (plainly here.env) agrees design stands widths here.path at a.target a.value v.0 v.1 h)

  assignments-good : (as' : List i.Setting) → All (λ (a : i.Setting). u.IsUsedLeft k a.target × u.IsUsedSide k a.value) as' → flat_map (q.assignment_faults here.env) as' ≡ []
      → All (SoundProc design) (map (q.assignment here) as')
  assignments-good as' v h =
      All-map (SoundProc design) (q.assignment here) as'
      (all-clear (λ (a : i.Setting). u.IsUsedLeft k a.target × u.IsUsedSide k a.value) (λ a. SoundProc design (q.assignment here a)) (q.assignment_faults here.env) assignment-good as' v h)

  -- ---- triggers

  events-named : (trigger : Trigger) → u.IsUsedTrigger k trigger → All (λ (e : d.Event). IsNamed design e.signal) (map plain.event (q.events here.env trigger))
  events-named (g.Events es) v =
      All-map (λ (e : d.Event). IsNamed design e.signal) plain.event (map (q.event here.env) es)
      (All-map (λ (e : Event). IsNamed design e.signal) (q.event here.env) es
      (All-weaker (λ (e : EventTree). u.IsWatched (k.read e.name.name)) (λ (e : EventTree). IsNamed design (number_of (here.env e.name.name)))
      (λ e h. event-named k (plainly here.env) agrees design stands widths e.name.name h) es v))
  events-named trigger v = All-nil (λ (e : d.Event). IsNamed design e.signal)

  -- ---- items

  processes-part : (signals : List Signal) (a : List p.Process) (faults : List Stop) → All (SoundProc design) a → GoodPart design (record { signals = signals; funcs = []; processes = a; faults = faults; begins = [] })
  processes-part signals a faults h = record { processes = h; funcs = All-nil (λ f. IsGood design (plain.fun f)) }

  here-good : here.behind ≡ length design.signals → (a : i.Function) → u.IsUsedFunction k a → IsFunctionHere k here design a → function_faults here.behind here.env a ≡ []
      → IsGood design (plain.fun (function here.behind here.env here.path a))
  here-good count a used home h =
      subst (λ n. IsGood design (plain.fun (function n here.env here.path a))) (sym count)
      (function-good k here.env here.path a design home.prepared used widths
      (subst (λ n. Agrees (u.within k a) (function_scope n here.env a)) count home.agrees)
      (subst (λ n. StandsFor (u.within k a) (function_scope n here.env a) (w.names_in design (plain.fun (function n here.env here.path a)))) count home.stands)
      (subst (λ n. function_faults n here.env a ≡ []) count h))

  -- an item that is no instance
  pub item-good : here.behind ≡ length design.signals → (given : Given) (next : ℕ) (item : i.Item) → u.IsUsedItem k item → IsHere k here design item → q.item_faults here given.overrides item ≡ []
      → GoodPart design (f.item_part here given next item)
  item-good count given next (i.Parameters type ps) v home h = processes-part _ [] _ (All-nil (SoundProc design))
  item-good count given next (i.Signals ds) v home h = processes-part _ (q.values here ds) _ (values-good ds v home h)
  item-good count given next (i.Assigns as') v home h = processes-part _ (map (q.assignment here) as') _ (assignments-good as' v h)
  item-good count given next (i.Initial at a) v home h =
      processes-part _ (q.processes here (i.Initial at a)) _
      (All-cons (SoundProc design) _ [] (silent-good at Init (s.statement (plainly here.env) a) (statement-sound k (plainly here.env) agrees design stands widths here.path a v h)) (All-nil (SoundProc design)))
  item-good count given next (i.Always at trigger a) v home h =
      processes-part _ (q.processes here (i.Always at trigger a)) _
      (All-cons (SoundProc design) _ []
      (process-good at (q.trigger_kind trigger) (q.events here.env trigger) (s.statement (plainly here.env) a) (events-named trigger v.0) (statement-sound k (plainly here.env) agrees design stands widths here.path a v.1 h))
      (All-nil (SoundProc design)))
  item-good count given next (i.Functions a) v home h =
      record { processes = All-nil (SoundProc design); funcs = All-cons (λ f. IsGood design (plain.fun f)) (function here.behind here.env here.path a) [] (here-good count a v home h) (All-nil (λ f. IsGood design (plain.fun f))) }
  item-good count given next (i.Instantiates us) v home h = processes-part _ [] _ (All-nil (SoundProc design))

  -- ---- inputs of an instance

  pub input-good : (at : Place) (j : ℕ) (a : x.Ex) → IsSignal design j → u.IsUsed k a → ef.faults (plainly here.env) a ≡ []
      → SoundProc design (q.process here at Assign [] (p.Set at (p.Whole at j) (e.exp (plainly here.env) a)))
  input-good at j a there v h =
      silent-good at Assign (p.Set at (p.Whole at j) (e.exp (plainly here.env) a))
      (assign-sound k (plainly here.env) agrees design stands widths here.path at (p.Whole at j) a there (used-side k a v) h)

  -- ---- outputs of an instance

  parameter-no-net : (n : ℕ) (o : Option Binding) → StandsAs (c.Parameter n) o → cn.is_net o ≡ true → ⊥
  parameter-no-net n (Some (b.Constant a)) h e = cc
  parameter-no-net n (Some (b.Signal j s)) h e = absurd h
  parameter-no-net n (Some (b.Function j f)) h e = absurd h
  parameter-no-net n None h e = absurd h

  net-written : (n : List ℕ) (ss : x.Selects) (o : Option Class) → k.read n ≡ o → u.IsRead o ss → cn.is_net (here.env n) ≡ true → u.IsWritten o ss
  net-written n ss (Some c.Port) is v h = v
  net-written n ss (Some c.Net) is v h = v
  net-written n ss (Some c.Variable) is v h = v
  net-written n ss (Some c.Memory) is v h = v
  net-written n ss (Some (c.Parameter y)) is v h = absurd (parameter-no-net y (here.env n) (agrees.read n (c.Parameter y) is) h)
  net-written n ss o is v h = absurd v

  mutual
    nets-left : (a : x.Ex) → u.IsUsed k a → cn.are_nets here.env a ≡ true → u.IsUsedLeft k (cn.left_of a)
    nets-left (x.Named at n ss) v h = (net-written n ss (k.read n) refl v.0 (and_parts (cn.is_net (here.env n)) (cn.are_constant here.env ss) h).0, v.1)
    nets-left (x.Paren at a) v h = nets-left a v h
    nets-left (x.Joined at es) v h = nets-lefts es v h
    nets-left (x.Number at n) v h = tt
    nets-left (x.Text at text) v h = tt
    nets-left (x.Unary at op a) v h = tt
    nets-left (x.Binary at op a b) v h = tt
    nets-left (x.Choice at c a b) v h = tt
    nets-left (x.Repeated at n es) v h = tt
    nets-left (x.Called at n es) v h = tt
    nets-left (x.System at name given) v h = tt

    nets-lefts : (es : x.Exs) → u.AreUsed k es → cn.all_nets here.env es ≡ true → u.AreUsedLefts k (cn.lefts_of es)
    nets-lefts x.NoExs v h = tt
    nets-lefts (x.MoreExs a es) v h = let (y, z) = and_parts (cn.are_nets here.env a) (cn.all_nets here.env es) h in (nets-left a v.0 y, nets-lefts es v.1 z)

  nets-clear : (c : Bool) (at : Place) (xs ys : List Stop) → (if c then xs else Construct at 13 ∷ ys) ≡ [] → (c ≡ true) × (xs ≡ [])
  nets-clear true at xs ys h = (refl, h)
  nets-clear false at xs ys h = let z : ⊥ = cc in absurd z

  pub output-good : (at : Place) (j : ℕ) (a : x.Ex) → IsSignal design j → u.IsUsed k a → cn.output_faults here.env at a ≡ []
      → SoundProc design (q.process here at Assign [] (p.Set at (t.target (plainly here.env) (cn.left_of a)) (p.Sig at j)))
  output-good at j a there v h =
      let (nets, clear) = nets-clear (cn.are_nets here.env a) at (t.target_faults (plainly here.env) (cn.left_of a)) (ef.faults (plainly here.env) a) h in
      silent-good at Assign (p.Set at (t.target (plainly here.env) (cn.left_of a)) (p.Sig at j))
      (left-sound k (plainly here.env) agrees design stands widths (cn.left_of a) (nets-left a v nets) clear, there)

  -- ---- connections

  connection-done : (make : x.Ex → p.Process) (faults : x.Ex → List Stop) (o : Option x.Ex) → ((a : x.Ex) → o ≡ Some a → faults a ≡ [] → SoundProc design (make a))
      → Done design (option_map_or (λ a. f.connection (make a ∷ []) (faults a) ∷ []) o [])
  connection-done make faults None g = done-nil design
  connection-done make faults (Some a) g =
      done-cons design (f.connection (make a ∷ []) (faults a)) [] (λ h. record { processes = All-cons (SoundProc design) (make a) [] (g a refl h) (All-nil (SoundProc design)); funcs = All-nil (λ f. IsGood design (plain.fun f)) }) (done-nil design)

  -- the connections of a unit of the module m, whose names are these, of a port that is a signal
  pub input-done : (env : Env) (m : i.Module) (y : i.NamedUnit) → u.AreConnected k y.connections → (n : List ℕ) → IsSignal design (number_of (env n)) → Done design (f.input_part here env m y n)
  input-done env m y v n there = by (is_input m n && not (cn.is_clock_binding (env n)))
    where
      by : (c : Bool) → Done design (if c then option_map_or (λ a. f.connection (cn.input_process here env (cn.place_in y (cn.port_connection m y n)) n a ∷ []) (cn.input_faults here.env a) ∷ []) (cn.expression_of (cn.port_connection m y n)) [] else [])
      by true =
          connection-done (λ a. cn.input_process here env (cn.place_in y (cn.port_connection m y n)) n a) (λ a. cn.input_faults here.env a) (cn.expression_of (cn.port_connection m y n))
          (λ a is h. input-good (cn.place_in y (cn.port_connection m y n)) (number_of (env n)) a there (connected-used k y.connections v (map (λ z. z.name) m.ports) n a is) h)
      by false = done-nil design

  pub output-done : (env : Env) (m : i.Module) (y : i.NamedUnit) → u.AreConnected k y.connections → (n : List ℕ) → IsSignal design (number_of (env n)) → Done design (f.output_part here env m y n)
  output-done env m y v n there = by (is_input m n)
    where
      by : (c : Bool) → Done design (if c then [] else option_map_or (λ a. f.connection (cn.output_process here env (cn.place_in y (cn.port_connection m y n)) n a ∷ []) (cn.output_faults here.env (cn.place_in y (cn.port_connection m y n)) a) ∷ []) (cn.expression_of (cn.port_connection m y n)) [])
      by true = done-nil design
      by false =
          connection-done (λ a. cn.output_process here env (cn.place_in y (cn.port_connection m y n)) n a) (λ a. cn.output_faults here.env (cn.place_in y (cn.port_connection m y n)) a) (cn.expression_of (cn.port_connection m y n))
          (λ a is h. output-good (cn.place_in y (cn.port_connection m y n)) (number_of (env n)) a there (connected-used k y.connections v (map (λ z. z.name) m.ports) n a is) h)
