-- The processes of a flat design are as elaboration makes them, read no answer but that of the call right before, and call `$save` with
-- names that are fit for files.
use Rattle.std.proofs.Common.{◌≡◌, ℕ, Bool, true, false, true≢false, List, [], Option, Some, Ok, refl, sym, ap, ◌∙◌, subst}
use Rattle.std.specs.Prelude.{⊤, All}
use Rattle.std.specs.List.{list_any}
use Rattle.std.proofs.lemmas.List.Elements.{All-map, All-weaker}
use Rattle.vl_sound.specs.vl_base.specs.declared.place.Place.{Place}
use Rattle.vl_sound.specs.vl_tree.specs.declared.source_tree.Source.{Source}
use Rattle.vl_sound.specs.vl_tree.specs.declared.source_tree.Module.{Module as ModuleTree}
use Rattle.vl_sound.specs.vl_scope.specs.declared.fault.Fault.{Fault}
use Rattle.vl_sound.specs.vl_scope.specs.declared.kind.Class.{Class}
use Rattle.vl_sound.specs.vl_scope.specs.declared.kind.Class.TheVariants as c
use Rattle.vl_sound.specs.vl_scope.specs.Faults.{In}
use Rattle.vl_sound.specs.vl_scope.specs.Declarations.{declarations}
use Rattle.vl_sound.specs.vl_scope.specs.DeclarationFaults.{IsDeclarationFault}
use Rattle.vl_sound.specs.vl_scope.proofs.Members.{In-map}
use Rattle.vl_sound.specs.vl_uses.specs.Nodes.{is_clocked}
use Rattle.vl_sound.specs.vl_uses.specs.UseFaults.{IsUseFault}
use Rattle.ten_plan.specs.vl_design.specs.declared.design.Event.{Event}
use Rattle.ten_plan.specs.vl_design.specs.declared.design.ProcKind.{ProcKind}
use Rattle.ten_plan.specs.vl_design.specs.declared.design.ProcKind.TheVariants.{Init, Assign}
use Rattle.ten_plan.specs.vl_design.specs.declared.design.SigKind.{SigKind}
use Rattle.ten_plan.specs.vl_design.specs.declared.design.SigKind.TheVariants as sk
use Rattle.ten_plan.specs.vl_design.specs.declared.design.Signal.{Signal}
use Rattle.ten_plan.specs.vl_design.specs.Syntax as d
use Rattle.ten_plan.specs.vl_design.specs.Syntax.{Proc}
use Rattle.ten_plan.specs.vl_design.specs.Queue.{is_comb}
use Rattle.ten_plan.specs.vl_design.specs.Nodes.{has, target_has}
use Rattle.ten_plan.specs.vl_design.specs.Reads.{is_timed}
use Rattle.ten_plan.specs.vl_design.specs.Placed as p
use Rattle.ten_plan.specs.vl_design.specs.Plainly as plain
use Rattle.ten_plan.specs.vl_design.proofs.Resting.{or_none}
use Rattle.vl_accept.specs.vl_sites.specs.Answers.{is_answer, asks_before, AsksBehindCalls}
use Rattle.vl_accept.specs.vl_sites.specs.Sites.{exp_sites}
use Rattle.vl_accept.specs.vl_check.specs.Rules.{sets}
use Rattle.vl_accept.specs.vl_bits.specs.Drivers.{is_assign, is_net_kind, is_net_signal, is_net}
use Rattle.vl_accept.specs.Built.{HasConstants, IsBuilt}
use Rattle.vl_sound.specs.vl_flat.specs.declared.binding.Binding.{Binding}
use Rattle.vl_sound.specs.vl_flat.specs.declared.binding.Binding.TheVariants as b
use Rattle.vl_sound.specs.vl_flat.specs.declared.binding.Shape.{Shape}
use Rattle.vl_sound.specs.vl_flat.specs.Surface as x
use Rattle.vl_sound.specs.vl_flat.specs.Items as i
use Rattle.vl_sound.specs.vl_flat.specs.Declarations.{module', modules}
use Rattle.vl_sound.specs.vl_flat.specs.Scopes.{Env, Scope, plainly, number_of}
use Rattle.vl_sound.specs.vl_flat.specs.Kinds.{signals_of}
use Rattle.vl_sound.specs.vl_flat.specs.Environments.{Given, size, environment}
use Rattle.vl_sound.specs.vl_flat.specs.Expressions as e
use Rattle.vl_sound.specs.vl_flat.specs.Targets as t
use Rattle.vl_sound.specs.vl_flat.specs.Statements as s
use Rattle.vl_sound.specs.vl_flat.specs.Processes as q
use Rattle.vl_sound.specs.vl_flat.specs.Processes.{Here}
use Rattle.vl_sound.specs.vl_flat.specs.Flat as f
use Rattle.vl_sound.specs.vl_flat.specs.Outcome.{flattened}
use Rattle.vl_sound.specs.Used.{Classes, classes}
use Rattle.vl_sound.specs.Agreeing.{StandsAs, Agrees}
use Rattle.vl_sound.specs.Apart.{AreApart}
use Rattle.vl_sound.specs.Instances.{IsInstance, here_of}
use Rattle.vl_sound.proofs.DeclaredOfLaws.{all-apart}
use Rattle.vl_sound.proofs.Sources.{source-places}
use Rattle.vl_sound.proofs.Agree.{agrees}
use Rattle.vl_sound.proofs.InstancesOfAgree.{clocks-are-inputs}
use Rattle.elab_laws.proofs.Leaves.{Has, LeftAll, IsPlain, IsStored, IsBody}
use Rattle.elab_laws.proofs.Lefts.{driven-plain, IsOutput, output-plain}
use Rattle.elab_laws.specs.Names.{NamesSaves}
use Rattle.elab_laws.proofs.Nodes.{Names, names-of}
use Rattle.elab_laws.proofs.Texts.{IsTimeless}
use Rattle.elab_laws.proofs.Leads.{first-timeless, none-lead, assign-asks, none-named, assign-named}
use Rattle.elab_laws.proofs.Made.{IsMadeOwn, IsMadeSetting}
use Rattle.elab_laws.proofs.Quiet.{NoAnswer, exp-quiet, left-timeless, left-none}
use Rattle.elab_laws.proofs.Bodies.{side-quiet, statement-quiet}
use Rattle.elab_laws.proofs.Constants.{left-constants, output-indices, driven-indices}
use Rattle.elab_laws.proofs.Triggers.{comb-unclocked, trigger-assigns}
use Rattle.elab_laws.proofs.Variables.{IsNoNet, IsVariableName, variable-named, class-variable, memory-no-net, variable-no-net, at-in, signal-named}
use Rattle.elab_laws.proofs.Processes.{Fits}
use Rattle.elab_laws.proofs.Whole.{with-top, all-processes}

-- a process as elaboration makes it
pub record IsMadeProcess (signals : List Signal) (a : p.Process) : Type 0 where
  pub built : IsBuilt signals a
  pub asks : asks_before (plain.stm a.path a.body) ≡ false
  pub names : Names (plain.stm a.path a.body)

-- ---- processes of an instance

module _ (signals : List Signal) (k : Classes) (here : Here) (agree : Agrees k (plainly here.env)) (stored : (n : List ℕ) → IsStored (k.read n) → is_net signals (number_of (here.env n)) ≡ false) where
  abbrev test : ℕ → Bool
  test = is_net signals

  abbrev scope : Scope
  scope = plainly here.env

  abbrev So : p.Process → Type 0
  So = IsMadeProcess signals

  -- a continuous assignment
  driven-made : (at : Place) (a : p.Target) (v : p.Exp) → HasConstants a → target_has is_timed (plain.target a) ≡ false → target_has is_answer (plain.target a) ≡ false
      → IsTimeless (plain.exp v) → NoAnswer v → So (q.process here at Assign [] (p.Set at a v))
  driven-made at a v h u g w i = record {
    built = record {
      continuous = λ z. h;
      timeless = λ z. first-timeless here.path v (d.Set (plain.target a) (plain.exp v)) w (or_none (target_has is_timed (plain.target a)) (has is_timed (plain.exp v)) u w);
      nets = λ z. absurd (true≢false z);
    };
    asks = assign-asks here.path at a v g (none-lead here.path v i);
    names = names-of (plain.stm here.path (p.Set at a v)) (assign-named here.path at a v (none-named here.path v i));
  }

  -- another process
  acted-made : (timed : Bool) (at : Place) (kind : ProcKind) (events : List Event) (a : x.Statement) → IsBody k timed a → (is_comb kind ≡ true → timed ≡ false) → is_assign kind ≡ false
      → So (q.process here at kind events (s.statement scope a))
  acted-made timed at kind events a h u w =
      let quiet = statement-quiet test timed k scope stored here.path a h in
      record {
        built = record {
          continuous = λ z. absurd (true≢false (sym (ap is_assign z) ∙ w));
          timeless = λ z. quiet.time (u z);
          nets = λ z. quiet.sites;
        };
        asks = quiet.asks agree;
        names = names-of (plain.stm here.path (s.statement scope a)) quiet.named;
      }

  -- a plain value, of a whole signal
  whole-made : (at : Place) (j : ℕ) (a : x.Ex) → Has (IsPlain false) a → So (q.process here at Assign [] (p.Set at (p.Whole at j) (e.exp scope a)))
  whole-made at j a h = let q = exp-quiet test false scope a h in driven-made at (p.Whole at j) (e.exp scope a) tt refl refl (q.time refl) q.answers

  -- a declared value, of a variable or a net of this number
  value-made : (at : Place) (j : ℕ) (variable : Bool) (a : x.Ex) → IsMadeOwn k variable (Some a) → (variable ≡ true → test j ≡ false)
      → So (q.process here at (q.value_kind variable) [] (p.Set at (p.Whole at j) (e.exp scope a)))
  value-made at j true a h u =
      let quiet = side-quiet test true k scope stored here.path a h in
      record {
        built = record {
          continuous = λ z. absurd (true≢false (sym (ap is_assign z)));
          timeless = λ z. absurd (true≢false (sym z));
          nets = λ z. or_none (test j) (list_any (λ y. sets test y.what) (exp_sites (e.exp scope a))) (u refl) quiet.sites;
        };
        asks = assign-asks here.path at (p.Whole at j) (e.exp scope a) refl (quiet.asks agree);
        names = names-of (plain.stm here.path (p.Set at (p.Whole at j) (e.exp scope a))) (assign-named here.path at (p.Whole at j) (e.exp scope a) quiet.named);
      }
  value-made at j false a h u = whole-made at j a h

  assignment-made : (a : i.Setting) → IsMadeSetting k a → So (q.assignment here a)
  assignment-made a h =
      let plainly = driven-plain false k a.target h.target in
      let q = exp-quiet test false scope a.value h.value in
      driven-made (x.left_place a.target) (t.target scope a.target) (e.exp scope a.value) (left-constants here.env a.target (driven-indices here.env k agree false a.target h.target))
      (left-timeless test false scope refl a.target plainly) (left-none test false scope a.target plainly) (q.time refl) q.answers

  output-made : (at : Place) (j : ℕ) (l : x.Left) → LeftAll (IsOutput here.env) l → So (q.process here at Assign [] (p.Set at (t.target scope l) (p.Sig at j)))
  output-made at j l h =
      let plainly = output-plain here.env l h in
      driven-made at (t.target scope l) (p.Sig at j) (left-constants here.env l (output-indices here.env l h)) (left-timeless test false scope refl l plainly) (left-none test false scope l plainly) refl refl

  -- in a module of which each variable that has a value is no net
  made-fits : (m : i.Module) → ((y : i.Declared) → In y (signals_of m) → y.variable ≡ true → test (number_of (here.env y.name.name)) ≡ false) → Fits So (λ j. ⊤) here m k
  made-fits m own = record {
    value = λ y a there is h. value-made y.name.place (number_of (here.env y.name.name)) y.variable a h (own y there);
    assignment = assignment-made;
    initial = λ at a h. acted-made true at Init [] a h (λ z. absurd (true≢false (sym z))) refl;
    always = λ at trigger a there h.
        acted-made (is_clocked trigger) at (q.trigger_kind trigger) (q.events here.env trigger) a h (comb-unclocked trigger) (trigger-assigns trigger);
    inputs = λ n h. tt;
    input = λ at j a u h. whole-made at j a h;
    output = output-made;
  }

-- ---- the design

no-net : (kind : SigKind) → IsNoNet kind → is_net_kind kind ≡ false
no-net sk.Net h = absurd h
no-net kind h = refl

module _ (s : Source) (fine : (e : Fault) → IsDeclarationFault s e → ⊥) (top : i.Module) (is-top : f.top_of s ≡ Some top) (made : p.Design) (is-made : flattened s ≡ Ok made) where
  abbrev ms : List i.Module
  ms = modules s

  -- no net of the design has this number
  abbrev NoNet : ℕ → Type 0
  NoNet j = is_net made.signals j ≡ false

  module _ (n : ℕ) (g : Given) (tree : ModuleTree) (inside : In tree s.modules) (instance : IsInstance ms top n g (module' tree)) where
    abbrev m : i.Module
    m = module' tree

    abbrev env : Env
    env = environment (size n ms) g m

    abbrev k : Classes
    k = classes (declarations tree)

    agree-here : Agrees k (plainly env)
    agree-here = agrees s fine tree inside (size n ms) g (clocks-are-inputs ms top n g m instance)

    -- the signal of a name is a net only if its kind says so
    placed-no-net : (t : List ℕ) (j : ℕ) (y : Shape) → env t ≡ Some (b.Signal j y) → IsNoNet y.kind → NoNet j
    placed-no-net t j y h v =
        let r = source-places s fine top is-top made is-made n g m instance t j y h in
        ap is_net_signal r.2 ∙ no-net y.kind v

    variable-free : (t : List ℕ) (q : Option Binding) → env t ≡ q → StandsAs c.Variable q → IsVariableName m t → NoNet (number_of q)
    variable-free t (Some (b.Signal j y)) h a v = placed-no-net t j y h (variable-no-net (size n ms) g m t j y h v)
    variable-free t q h a v = absurd a

    memory-free : (t : List ℕ) (q : Option Binding) → env t ≡ q → StandsAs c.Memory q → NoNet (number_of q)
    memory-free t (Some (b.Signal j y)) h a = placed-no-net t j y h (memory-no-net y.kind a)
    memory-free t q h a = absurd a

    stored-here : (t : List ℕ) → IsStored (k.read t) → NoNet (number_of (env t))
    stored-here t v = by (k.read t) refl v
      where
        by : (q : Option Class) → k.read t ≡ q → IsStored q → NoNet (number_of (env t))
        by (Some c.Variable) h v = variable-free t (env t) refl (agree-here.read t c.Variable h) (class-variable tree t h)
        by (Some c.Memory) h v = memory-free t (env t) refl (agree-here.read t c.Memory h)
        by q h v = absurd v

    own-here : (y : i.Declared) → In y (signals_of m) → y.variable ≡ true → NoNet (number_of (env y.name.name))
    own-here y there v =
        let r = signal-named (size n ms) g m (at-in AreApart ms m (all-apart s fine) (In-map module' tree s.modules inside)) y there in
        subst (λ z. NoNet (number_of z)) (sym r.is)
        (placed-no-net y.name.name r.number r.shape r.is (variable-no-net (size n ms) g m y.name.name r.number r.shape r.is (variable-named m y y.name.name there refl v)))

    pub fits-here : Fits (IsMadeProcess made.signals) (λ j. ⊤) (here_of n ms top g m) m k
    fits-here = made-fits made.signals k (here_of n ms top g m) agree-here stored-here m own-here

module _ (s : Source) (fine : (e : Fault) → IsDeclarationFault s e → ⊥) (used : (e : Fault) → IsUseFault s e → ⊥) (made : p.Design) (is : flattened s ≡ Ok made) where
  all-made : All (IsMadeProcess made.signals) made.processes
  all-made = with-top (All (IsMadeProcess made.signals) made.processes) s made is (λ top at. all-processes s top at made is used (IsMadeProcess made.signals) (λ j. ⊤) (fits-here s fine top at made is))

  pub source-built : All (IsBuilt made.signals) made.processes
  source-built = All-weaker (IsMadeProcess made.signals) (IsBuilt made.signals) (λ a h. h.built) made.processes all-made

  pub source-asks : AsksBehindCalls (plain.flat made)
  source-asks = record {
    procs = All-map (λ (q : Proc). asks_before q.body ≡ false) plain.proc made.processes
        (All-weaker (IsMadeProcess made.signals) (λ (a : p.Process). asks_before (plain.stm a.path a.body) ≡ false) (λ a h. h.asks) made.processes all-made);
  }

  pub source-names : NamesSaves (plain.flat made)
  source-names = record {
    procs = All-map (λ (q : Proc). Names q.body) plain.proc made.processes
        (All-weaker (IsMadeProcess made.signals) (λ (a : p.Process). Names (plain.stm a.path a.body)) (λ a h. h.names) made.processes all-made);
  }
