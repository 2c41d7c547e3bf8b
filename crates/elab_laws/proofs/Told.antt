-- What declarations tell of the signals of a module beside what they are: which are variables, and what only gives a direction.
use Rattle.std.proofs.Common.{◌≡◌, ℕ, Bool, true, false, true≢false, if◌then◌else◌, List, [], ◌∷◌, ◌++◌, map, Option, Some, None, refl, sym, ◌∙◌, subst}
use Rattle.std.specs.Prelude.{⊤, not, is_some, flat_map}
use Rattle.std.specs.Option.{option_map_or}
use Rattle.std.proofs.lemmas.Grind.{flat_map-append}
use Rattle.vl_sound.specs.vl_tree.specs.declared.source_tree.Module.{Module as ModuleTree}
use Rattle.vl_sound.specs.vl_tree.specs.declared.source_tree.Item.{Item as ItemTree}
use Rattle.vl_sound.specs.vl_tree.specs.declared.source_tree.Item.TheVariants as i
use Rattle.vl_sound.specs.vl_tree.specs.declared.source_tree.Ports.{Ports}
use Rattle.vl_sound.specs.vl_tree.specs.declared.source_tree.Ports.TheVariants as ps
use Rattle.vl_sound.specs.vl_tree.specs.declared.source_tree.PortDeclaration.{PortDeclaration}
use Rattle.vl_sound.specs.vl_tree.specs.declared.source_tree.PortDeclaration.TheVariants as pd
use Rattle.vl_sound.specs.vl_tree.specs.declared.source_tree.ParameterGroup.{ParameterGroup}
use Rattle.vl_sound.specs.vl_tree.specs.declared.source_tree.ParameterAssignment.{ParameterAssignment}
use Rattle.vl_sound.specs.vl_tree.specs.declared.source_tree.VariableType.{VariableType}
use Rattle.vl_sound.specs.vl_tree.specs.declared.source_tree.VariableMore.{VariableMore}
use Rattle.vl_sound.specs.vl_tree.specs.declared.source_tree.VariableMore.TheVariants as v
use Rattle.vl_sound.specs.vl_scope.specs.declared.kind.Class.{Class}
use Rattle.vl_sound.specs.vl_scope.specs.declared.kind.Class.TheVariants as c
use Rattle.vl_sound.specs.vl_scope.specs.Declarations as s
use Rattle.vl_sound.specs.vl_scope.specs.DeclarationFaults.{is_input, is_stored}
use Rattle.vl_sound.specs.vl_flat.specs.Items as x
use Rattle.vl_sound.specs.vl_flat.specs.Declarations as d
use Rattle.vl_sound.proofs.Pairs.{Pairs, pairs-append, pairs-twice, pairs-items}
use Rattle.vl_sound.proofs.Names.{Name, P, S, I, names_in, names_of, Said, header_items, header_declared, items-are, declared-are, all-said}

-- a port of which only the direction is told
abbrev pub is_port : Class → Bool
is_port c.Port = true
is_port class = false

pub record TellsSignal (a : x.Declared) (e : s.Declared) : Type 0 where
  pub stored : is_stored e.kind.class ≡ a.variable
  pub bare : is_port e.kind.class ≡ not e.typed
  pub value : is_some a.value ≡ true → e.typed ≡ true
  pub output : is_stored e.kind.class ≡ true → is_input e.direction ≡ false

abbrev pub Tells : Name → s.Declared → Type 0
Tells (S a) e = TellsSignal a e
Tells nm e = ⊤

-- ---- item by item

signals-tell : {C : Type 0} (f : C → x.Declared) (g : C → s.Declared) (zs : List C) → ((z : C) → TellsSignal (f z) (g z)) → Pairs Tells (map (λ d. S d) (map f zs)) (map g zs)
signals-tell f g zs h = pairs-twice Tells (λ d. S d) f g zs h

ports-tell : (a : PortDeclaration) → Pairs Tells (map (λ d. S d) (d.ports_in a)) (s.port_declarations a)
ports-tell (pd.Net at direction wire signed range names) =
    signals-tell (d.net (Some direction) (d.vector signed range)) (s.port direction wire (is_some range)) names
    (λ n. record { stored = kept wire; bare = told wire; value = λ q. absurd (true≢false (sym q)); output = λ q. absurd (true≢false (sym q ∙ kept wire)) })
  where
    kept : (b : Bool) → is_stored (if b then c.Net else c.Port) ≡ false
    kept true = refl
    kept false = refl

    told : (b : Bool) → is_port (if b then c.Net else c.Port) ≡ not b
    told true = refl
    told false = refl
ports-tell (pd.Reg at signed range as') =
    signals-tell (d.output_variable (d.vector signed range)) (λ a. s.output_variable (is_some range) a.name) as'
    (λ a. record { stored = refl; bare = refl; value = λ q. refl; output = λ q. refl })
ports-tell (pd.Integer at as') =
    signals-tell (d.output_variable x.Integer) (λ a. s.output_variable true a.name) as'
    (λ a. record { stored = refl; bare = refl; value = λ q. refl; output = λ q. refl })

variables-tell : (type : x.DataType) (vector : Bool) (as' : List VariableType)
    → Pairs Tells (map (λ d. S d) (map (d.variable type) as')) (map (λ a. s.declared (s.variable_class a.more) vector a.name) as')
variables-tell type vector as' =
    signals-tell (d.variable type) (λ a. s.declared (s.variable_class a.more) vector a.name) as'
    (λ a. record { stored = kept a.more; bare = told a.more; value = λ q. refl; output = λ q. refl })
  where
    kept : (o : Option VariableMore) → is_stored (s.variable_class o) ≡ true
    kept None = refl
    kept (Some (v.Words addresses)) = refl
    kept (Some (v.Value value)) = refl

    told : (o : Option VariableMore) → is_port (s.variable_class o) ≡ false
    told None = refl
    told (Some (v.Words addresses)) = refl
    told (Some (v.Value value)) = refl

parameters-tell : (as' : List ParameterAssignment) → Pairs Tells (map {A = x.Parameter} {B = Name} (λ a. P a.name) (map d.parameter as')) (s.parameter_declarations as')
parameters-tell as' = pairs-twice Tells (λ (a : x.Parameter). P a.name) d.parameter (λ a. s.declared (c.Parameter 0) true a.name) as' (λ a. tt)

item-tells : (j : ItemTree) → Pairs Tells (names_in (d.item j)) (s.item_declarations j)
unfolding Pairs
item-tells (i.Port a) = ports-tell a
item-tells (i.Parameter at word kind as') = parameters-tell as'
item-tells (i.Wire at signed range as') =
    signals-tell (d.assigned_net (d.vector signed range)) (λ a. s.declared c.Net (is_some range) a.name) as'
    (λ a. record { stored = refl; bare = refl; value = λ q. refl; output = λ q. refl })
item-tells (i.Reg at signed range as') = variables-tell (d.vector signed range) (is_some range) as'
item-tells (i.Integer at as') = variables-tell x.Integer true as'
item-tells (i.Assign at as') = tt
item-tells (i.Initial at a) = tt
item-tells (i.Always at trigger a) = tt
item-tells (i.Function a) = (tt, tt)
item-tells (i.Instance a) = pairs-twice Tells (λ (u : x.NamedUnit). I u.name) d.named_instance (λ n. s.declared c.Instance false n.name) a.instances (λ u. tt)

groups-tell : (o : Option (List ParameterGroup))
    → Pairs Tells (names_of (option_map_or (map d.header_parameters) o [])) (option_map_or (flat_map (λ g. s.parameter_declarations g.assignments)) o [])
unfolding Pairs
groups-tell None = tt
groups-tell (Some gs) = pairs-items Tells names_in d.header_parameters (λ (g : ParameterGroup). s.parameter_declarations g.assignments) gs (λ g. parameters-tell g.assignments)

header-tells : (o : Option Ports) → Pairs Tells (names_of (d.header_ports o)) (option_map_or s.header_declarations o [])
unfolding Pairs
header-tells None = tt
header-tells (Some ps.Empty) = tt
header-tells (Some (ps.Names names)) = tt
header-tells (Some (ps.Declarations ports)) = pairs-items Tells names_in (λ a. x.Signals (d.ports_in a)) s.port_declarations ports ports-tell

header-all-tell : (m : ModuleTree) → Pairs Tells (names_of (header_items m)) (header_declared m)
header-all-tell m =
    let a = option_map_or (map d.header_parameters) m.parameters [] in
    let e = d.header_ports m.ports in
    subst (λ z. Pairs Tells z (header_declared m)) (sym (flat_map-append names_in a e))
    (pairs-append Tells (names_of a) (option_map_or (flat_map (λ g. s.parameter_declarations g.assignments)) m.parameters []) (names_of e) (option_map_or s.header_declarations m.ports [])
    (groups-tell m.parameters) (header-tells m.ports))

-- ---- parameters numbered

parameter-kept : (q : Class) → s.is_parameter q ≡ true → is_stored q ≡ false
parameter-kept (c.Parameter n) h = refl
parameter-kept q h = absurd (true≢false (sym h))

parameter-bare : (q : Class) → s.is_parameter q ≡ true → is_port q ≡ false
parameter-bare (c.Parameter n) h = refl
parameter-bare q h = absurd (true≢false (sym h))

numbered-tells : (nm : Name) (n : ℕ) (a : s.Declared) → Tells nm a → Tells nm (s.with_number n a)
numbered-tells (S y) n a h = by (s.is_parameter a.kind.class) refl
  where
    by : (b : Bool) → s.is_parameter a.kind.class ≡ b → TellsSignal y (if b then record a { kind = record { class = c.Parameter n; vector = a.kind.vector } } else a)
    by false e = h
    by true e = record {
      stored = sym (parameter-kept a.kind.class e) ∙ h.stored;
      bare = sym (parameter-bare a.kind.class e) ∙ h.bare;
      value = h.value;
      output = λ q. absurd (true≢false (sym q));
    }
numbered-tells nm n a h = tt

all-numbered-tell : (xs : List Name) (ys : List s.Declared) (n : ℕ) → Pairs Tells xs ys → Pairs Tells xs (s.numbered n ys)
unfolding Pairs
all-numbered-tell [] [] n h = tt
all-numbered-tell [] (y ∷ ys) n h = absurd h
all-numbered-tell (nm ∷ xs) [] n h = absurd h
all-numbered-tell (nm ∷ xs) (y ∷ ys) n h = (numbered-tells nm n y h.0, all-numbered-tell xs ys (s.number_after n y) h.1)

all-tell : (m : ModuleTree) → Pairs Tells (names_of (d.module' m).items) (s.declarations m)
all-tell m =
    all-numbered-tell (names_of (d.module' m).items) (s.unnumbered m) 0
    (subst (λ z. Pairs Tells (names_of z) (s.unnumbered m)) (sym (items-are m))
    (subst (λ z. Pairs Tells (names_of (header_items m ++ map d.item m.items)) z) (sym (declared-are m))
    (subst (λ z. Pairs Tells z (header_declared m ++ flat_map s.item_declarations m.items)) (sym (flat_map-append names_in (header_items m) (map d.item m.items)))
    (pairs-append Tells (names_of (header_items m)) (header_declared m) (names_of (map d.item m.items)) (flat_map s.item_declarations m.items)
    (header-all-tell m) (pairs-items Tells names_in d.item s.item_declarations m.items item-tells)))))

-- ---- beside what is said

pairs-both : {A B : Type 0} (R Q : A → B → Type 0) (xs : List A) (ys : List B) → Pairs R xs ys → Pairs Q xs ys → Pairs (λ y z. R y z × Q y z) xs ys
unfolding Pairs
pairs-both R Q [] [] h g = tt
pairs-both R Q [] (z ∷ ys) h g = absurd h
pairs-both R Q (y ∷ xs) [] h g = absurd h
pairs-both R Q (y ∷ xs) (z ∷ ys) h g = ((h.0, g.0), pairs-both R Q xs ys h.1 g.1)

abbrev pub Both : Name → s.Declared → Type 0
Both nm e = Said nm e × Tells nm e

-- the names of a module beside its declarations
pub all-both : (m : ModuleTree) → Pairs Both (names_of (d.module' m).items) (s.declarations m)
all-both m = pairs-both Said Tells (names_of (d.module' m).items) (s.declarations m) (all-said m) (all-tell m)
