-- What holds of the processes that the items of an instance stand for, and the connections of instances in it.
use Rattle.std.proofs.Common.{◌≡◌, ℕ, true, false, inl, inr, List, [], ◌∷◌, Option, Some, None, refl}
use Rattle.std.specs.Prelude.{All}
use Rattle.std.specs.Option.{option_map_or}
use Rattle.std.proofs.lemmas.List.Elements.{All-nil, All-cons, All-append, All-head, All-tail, All-map, All-weaker}
use Rattle.vl_sound.specs.vl_base.specs.declared.place.Place.{Place}
use Rattle.vl_sound.specs.vl_tree.specs.declared.source_tree.Trigger.{Trigger}
use Rattle.vl_sound.specs.vl_scope.specs.Faults.{In}
use Rattle.vl_sound.specs.vl_scope.proofs.Members.{In-flat_map}
use Rattle.vl_sound.specs.vl_uses.specs.Nodes.{is_clocked}
use Rattle.ten_plan.specs.vl_design.specs.declared.design.ProcKind.TheVariants.{Init, Assign}
use Rattle.ten_plan.specs.vl_design.specs.Placed as p
use Rattle.vl_sound.specs.vl_flat.specs.Surface as x
use Rattle.vl_sound.specs.vl_flat.specs.Items as i
use Rattle.vl_sound.specs.vl_flat.specs.Scopes.{Env, Scope, plainly, number_of}
use Rattle.vl_sound.specs.vl_flat.specs.Expressions as e
use Rattle.vl_sound.specs.vl_flat.specs.Targets as t
use Rattle.vl_sound.specs.vl_flat.specs.Statements as s
use Rattle.vl_sound.specs.vl_flat.specs.Kinds.{signals_in, signals_of, is_input}
use Rattle.vl_sound.specs.vl_flat.specs.Processes as q
use Rattle.vl_sound.specs.vl_flat.specs.Processes.{Here}
use Rattle.vl_sound.specs.vl_flat.specs.Connections as cn
use Rattle.vl_sound.specs.vl_flat.specs.Flat as f
use Rattle.vl_sound.specs.Used.{Classes}
use Rattle.elab_laws.proofs.Leaves.{Has, LeftAll, IsPlain, IsBody}
use Rattle.elab_laws.proofs.Lefts.{IsOutput, output-left}
use Rattle.elab_laws.proofs.Made.{IsMadeOwn, IsMadeSetting, IsMadeUnit, IsMadeItem}
use Rattle.elab_laws.proofs.Parts.{Done}
use Rattle.elab_laws.proofs.Connections.{given-has, input-done, output-done}

-- a property of processes, and one of the numbers that an instance's inputs have
module _ (G : p.Process → Type 0) (D : ℕ → Type 0) where
  module _ (here : Here) (m : i.Module) (k : Classes) where
    abbrev scope : Scope
    scope = plainly here.env

    -- what is needed in an instance of this module, in which names are these
    pub record Fits : Type 0 where
      pub value : (y : i.Declared) (a : x.Ex) → In y (signals_of m) → y.value ≡ Some a → IsMadeOwn k y.variable (Some a) → G (q.value_process here y a)
      pub assignment : (a : i.Setting) → IsMadeSetting k a → G (q.assignment here a)
      pub initial : (at : Place) (a : x.Statement) → IsBody k true a → G (q.process here at Init [] (s.statement scope a))
      pub always : (at : Place) (trigger : Trigger) (a : x.Statement) → In (i.Always at trigger a) m.items → IsBody k (is_clocked trigger) a
          → G (q.process here at (q.trigger_kind trigger) (q.events here.env trigger) (s.statement scope a))
      pub inputs : (n : List ℕ) → is_input m n ≡ true → D (number_of (here.env n))
      pub input : (at : Place) (j : ℕ) (a : x.Ex) → D j → Has (IsPlain false) a → G (q.process here at Assign [] (p.Set at (p.Whole at j) (e.exp scope a)))
      pub output : (at : Place) (j : ℕ) (l : x.Left) → LeftAll (IsOutput here.env) l → G (q.process here at Assign [] (p.Set at (t.target scope l) (p.Sig at j)))

    module _ (fits : Fits) where
      one-so : (a : p.Process) → G a → All G (a ∷ [])
      one-so a h = All-cons G a [] h (All-nil G)

      -- ---- items

      abbrev MadeOwn : i.Declared → Type 0
      MadeOwn y = IsMadeOwn k y.variable y.value

      own-so : (y : i.Declared) (o : Option x.Ex) → In y (signals_of m) → y.value ≡ o → IsMadeOwn k y.variable o → All G (option_map_or (λ a. q.value_process here y a ∷ []) o [])
      own-so y None there is h = All-nil G
      own-so y (Some a) there is h = one-so (q.value_process here y a) (fits.value y a there is h)

      values-so : (ds : List i.Declared) → ((y : i.Declared) → In y ds → In y (signals_of m)) → All MadeOwn ds → All G (q.values here ds)
      values-so [] g h = All-nil G
      values-so (y ∷ ds) g h =
          All-append G (option_map_or (λ a. q.value_process here y a ∷ []) y.value []) (q.values here ds)
          (own-so y y.value (g y (inl refl)) refl (All-head MadeOwn y ds h)) (values-so ds (λ z r. g z (inr r)) (All-tail MadeOwn y ds h))

      pub item-so : (y : i.Item) → In y m.items → IsMadeItem k y → All G (q.processes here y)
      item-so (i.Parameters type ps) there h = All-nil G
      item-so (i.Signals ds) there h = values-so ds (λ y r. In-flat_map signals_in (i.Signals ds) y m.items there r) h
      item-so (i.Assigns as') there h = All-map G (q.assignment here) as' (All-weaker (IsMadeSetting k) (λ (a : i.Setting). G (q.assignment here a)) fits.assignment as' h)
      item-so (i.Initial at a) there h = one-so (q.process here at Init [] (s.statement scope a)) (fits.initial at a h)
      item-so (i.Always at trigger a) there h =
          one-so (q.process here at (q.trigger_kind trigger) (q.events here.env trigger) (s.statement scope a)) (fits.always at trigger a there h)
      item-so (i.Functions a) there h = All-nil G
      item-so (i.Instantiates us) there h = All-nil G

      -- ---- connections of an instance in this one

      module _ (env : Env) (of : i.Module) (y : i.NamedUnit) (v : IsMadeUnit y) (n : List ℕ) where
        abbrev place : Place
        place = cn.place_in y (cn.port_connection of y n)

        pub input-so : (is_input of n ≡ true → D (number_of (env n))) → Done (λ (a : f.Part). All G a.processes) (f.input_part here env of y n)
        input-so known =
            input-done (λ (a : f.Part). All G a.processes) here env of y n
            (λ a at is. one-so (cn.input_process here env place n a) (fits.input place (number_of (env n)) a (known is) (given-has of y v n a at)))

        pub output-so : Done (λ (a : f.Part). All G a.processes) (f.output_part here env of y n)
        output-so =
            output-done (λ (a : f.Part). All G a.processes) here env of y n
            (λ a at nets. one-so (cn.output_process here env place n a) (fits.output place (number_of (env n)) (cn.left_of a) (output-left here.env a nets (given-has of y v n a at))))
