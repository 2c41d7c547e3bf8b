-- The processes of an instance write what is theirs.
use Rattle.std.proofs.Common.{◌≡◌, ℕ, Bool, true, false, true≢false, List, [], Some, refl, sym, ap, subst}
use Rattle.std.specs.Prelude.{not}
use Rattle.std.specs.List.{list_any}
use Rattle.std.proofs.lemmas.Bool.{and_from, or_from}
use Rattle.vl_sound.specs.vl_base.specs.declared.place.Place.{Place}
use Rattle.vl_sound.specs.vl_tree.specs.declared.source_tree.Trigger.{Trigger}
use Rattle.vl_sound.specs.vl_scope.specs.Faults.{In}
use Rattle.vl_sound.specs.vl_scope.proofs.Members.{list_any-In}
use Rattle.vl_sound.specs.vl_uses.specs.Nodes.{is_clocked}
use Rattle.ten_plan.specs.vl_design.specs.declared.design.ProcKind.TheVariants.{Init, Assign}
use Rattle.ten_plan.specs.vl_design.specs.Placed as p
use Rattle.vl_accept.specs.vl_sites.specs.Sites.{exp_sites, target_sites}
use Rattle.vl_accept.specs.vl_check.specs.Rules.{sets}
use Rattle.vl_accept.specs.vl_check.specs.Written.{is_uncomputed, is_orphan, IsWritten}
use Rattle.vl_sound.specs.vl_flat.specs.Surface as x
use Rattle.vl_sound.specs.vl_flat.specs.Items as i
use Rattle.vl_sound.specs.vl_flat.specs.Scopes.{Env, Scope, plainly, number_of}
use Rattle.vl_sound.specs.vl_flat.specs.Expressions as e
use Rattle.vl_sound.specs.vl_flat.specs.Targets as t
use Rattle.vl_sound.specs.vl_flat.specs.Statements as s
use Rattle.vl_sound.specs.vl_flat.specs.Uses.{writes}
use Rattle.vl_sound.specs.vl_flat.specs.Kinds.{signals_of, is_input, has_edge, item_writes}
use Rattle.vl_sound.specs.vl_flat.specs.Processes as q
use Rattle.vl_sound.specs.vl_flat.specs.Processes.{Here}
use Rattle.vl_sound.specs.vl_flat.specs.Connections as cn
use Rattle.vl_sound.specs.Used.{Classes}
use Rattle.elab_laws.proofs.Leaves.{Has, SelectsHave, LeftAll, IsPlain, IsStored, IsDriven, IsDrivenName, IsBody}
use Rattle.elab_laws.proofs.Lefts.{left-weaker, IsOutput}
use Rattle.elab_laws.proofs.Made.{IsMadeOwn, IsMadeSetting}
use Rattle.elab_laws.proofs.Quiet.{Free, free-both, exp-quiet, left-free}
use Rattle.elab_laws.proofs.Bodies.{side-quiet, statement-quiet}
use Rattle.elab_laws.proofs.Only.{only, body-only}
use Rattle.elab_laws.proofs.Triggers.{trigger-comb, comb-unclocked}
use Rattle.elab_laws.proofs.Processes.{Fits}

module _ (made : p.Design) where
  -- a number that processes may assign, one that combinational ones may, and one that continuous assignments may
  abbrev pub IsOwned : ℕ → Type 0
  IsOwned j = is_orphan made j ≡ false

  abbrev pub IsComputed : ℕ → Type 0
  IsComputed j = is_uncomputed made.signals j ≡ false

  abbrev pub IsDrivable : ℕ → Type 0
  IsDrivable j = IsOwned j × IsComputed j

  -- a value of its own is assigned to a variable when time begins, and drives a net
  abbrev pub IsOwnValue : Env → i.Declared → Type 0
  IsOwnValue env y = IsOwned (number_of (env y.name.name)) × (y.variable ≡ false → IsComputed (number_of (env y.name.name)))

  -- what an instance knows of its names
  pub record Knows (k : Classes) (here : Here) (m : i.Module) : Type 0 where
    -- variables and memories
    pub stored : (t : List ℕ) → IsStored (k.read t) → IsOwned (number_of (here.env t))
    -- those that a combinational process of the module writes, and memories
    pub computed : (w : List ℕ → Bool) → ((t : List ℕ) → w t ≡ true → list_any (item_writes t) m.items ≡ true)
        → (t : List ℕ) → IsStored ((only w k).read t) → IsComputed (number_of (here.env t))
    -- what continuous assignments drive
    pub driven : (t : List ℕ) → IsDriven (k.read t) → IsDrivable (number_of (here.env t))
    -- what outputs drive
    pub nets : (t : List ℕ) → cn.is_net (here.env t) ≡ true → IsDrivable (number_of (here.env t))
    -- what has a value of its own
    pub own : (y : i.Declared) (a : x.Ex) → In y (signals_of m) → y.value ≡ Some a → IsOwnValue here.env y

  module _ (here : Here) where
    abbrev scope : Scope
    scope = plainly here.env

    abbrev Written : p.Process → Type 0
    Written a = IsWritten made a

    abbrev owned : ℕ → Bool
    owned = is_orphan made

    abbrev loose : ℕ → Bool
    loose = is_uncomputed made.signals

    -- a continuous assignment
    driven-written : (at : Place) (a : p.Target) (v : p.Exp) → Free owned (target_sites false a) → Free loose (target_sites false a) → Free owned (exp_sites v) → Free loose (exp_sites v)
        → Written (q.process here at Assign [] (p.Set at a v))
    driven-written at a v g h u w = record {
      combinational = λ z. free-both loose (target_sites false a) (exp_sites v) h w;
      computed = free-both owned (target_sites false a) (exp_sites v) g u;
    }

    -- none of a left side's names passes the test
    none-of : (test : ℕ → Bool) (M : List ℕ → x.Selects → Type 0) → ((n : List ℕ) (ss : x.Selects) → M n ss → (test (number_of (here.env n)) ≡ false) × SelectsHave (IsPlain false) ss)
        → (l : x.Left) → LeftAll M l → Free test (target_sites false (t.target scope l))
    none-of test M g l h =
        left-free test false scope false l (left-weaker M (λ n ss. (test (number_of (here.env n)) ≡ false) × SelectsHave (IsPlain false) ss) g l h)

    -- to a whole signal
    whole-written : (at : Place) (j : ℕ) (a : x.Ex) → IsDrivable j → Has (IsPlain false) a → Written (q.process here at Assign [] (p.Set at (p.Whole at j) (e.exp scope a)))
    whole-written at j a h v =
        driven-written at (p.Whole at j) (e.exp scope a) (or_from (owned j) false h.0 refl) (or_from (loose j) false h.1 refl)
        (exp-quiet owned false scope a v).sites (exp-quiet loose false scope a v).sites

    module _ (k : Classes) (m : i.Module) (knows : Knows k here m) where
      -- a declared value, of a variable or a net of this number
      value-written : (at : Place) (j : ℕ) (variable : Bool) (a : x.Ex) → IsMadeOwn k variable (Some a) → IsOwned j → (variable ≡ false → IsComputed j)
          → Written (q.process here at (q.value_kind variable) [] (p.Set at (p.Whole at j) (e.exp scope a)))
      value-written at j true a h g u = record {
        combinational = λ z. absurd (true≢false (sym z));
        computed = or_from (owned j) (list_any (λ y. sets owned y.what) (exp_sites (e.exp scope a))) g (side-quiet owned true k scope knows.stored here.path a h).sites;
      }
      value-written at j false a h g u = whole-written at j a (g, u refl) h

      assignment-written : (a : i.Setting) → IsMadeSetting k a → Written (q.assignment here a)
      assignment-written a h =
          driven-written (x.left_place a.target) (t.target scope a.target) (e.exp scope a.value)
          (none-of owned (IsDrivenName k false) (λ t ss u. ((knows.driven t u.0).0, u.1.1)) a.target h.target)
          (none-of loose (IsDrivenName k false) (λ t ss u. ((knows.driven t u.0).1, u.1.1)) a.target h.target)
          (exp-quiet owned false scope a.value h.value).sites (exp-quiet loose false scope a.value h.value).sites

      initial-written : (at : Place) (a : x.Statement) → IsBody k true a → Written (q.process here at Init [] (s.statement scope a))
      initial-written at a h = record {
        combinational = λ z. absurd (true≢false (sym z));
        computed = (statement-quiet owned true k scope knows.stored here.path a h).sites;
      }

      always-written : (at : Place) (trigger : Trigger) (a : x.Statement) → In (i.Always at trigger a) m.items → IsBody k (is_clocked trigger) a
          → Written (q.process here at (q.trigger_kind trigger) (q.events here.env trigger) (s.statement scope a))
      always-written at trigger a there h = record {
        combinational = λ z.
            let timeless : IsBody k false a = subst (λ u. IsBody k u a) (comb-unclocked trigger z) h in
            let known = knows.computed (λ t. writes t a)
            (λ t r. list_any-In (item_writes t) (i.Always at trigger a) m.items there (and_from (not (has_edge trigger)) (writes t a) (ap not (trigger-comb trigger z)) r)) in
            let body = body-only (λ t. writes t a) k a (λ t r. r) timeless in
            (statement-quiet loose false (only (λ t. writes t a) k) scope known here.path a body).sites;
        computed = (statement-quiet owned (is_clocked trigger) k scope knows.stored here.path a h).sites;
      }

      output-written : (at : Place) (j : ℕ) (l : x.Left) → LeftAll (IsOutput here.env) l → Written (q.process here at Assign [] (p.Set at (t.target scope l) (p.Sig at j)))
      output-written at j l h =
          driven-written at (t.target scope l) (p.Sig at j)
          (none-of owned (IsOutput here.env) (λ t ss u. ((knows.nets t u.0).0, u.2)) l h) (none-of loose (IsOutput here.env) (λ t ss u. ((knows.nets t u.0).1, u.2)) l h)
          refl refl

      pub written-fits : ((t : List ℕ) → is_input m t ≡ true → IsDrivable (number_of (here.env t))) → Fits Written IsDrivable here m k
      written-fits inputs = record {
        value = λ y a there is h.
            let own = knows.own y a there is in
            value-written y.name.place (number_of (here.env y.name.name)) y.variable a h own.0 own.1;
        assignment = assignment-written;
        initial = initial-written;
        always = always-written;
        inputs = inputs;
        input = whole-written;
        output = output-written;
      }
