-- The names of a module's items, one by one beside its declarations.
use Rattle.std.proofs.Common.{◌≡◌, ℕ, ◌+◌, Bool, true, false, true≢false, if◌then◌else◌, List, [], ◌∷◌, ◌++◌, map, length, Option, Some, None, refl, sym, ap, ◌∙◌, subst, arith}
use Rattle.std.specs.Prelude.{◌||◌, is_some, flat_map}
use Rattle.std.specs.Option.{option_map_or}
use Rattle.std.proofs.lemmas.Grind.{flat_map-append}
use Rattle.std.proofs.lemmas.List.{append_assoc, length-append}
use Rattle.vl_flat.specs.vl_tree.specs.declared.tree.Identifier.{Identifier}
use Rattle.vl_flat.specs.vl_tree.specs.declared.source_tree.Module.{Module as ModuleTree}
use Rattle.vl_flat.specs.vl_tree.specs.declared.source_tree.Item.{Item as ItemTree}
use Rattle.vl_flat.specs.vl_tree.specs.declared.source_tree.Item.TheVariants as i
use Rattle.vl_flat.specs.vl_tree.specs.declared.source_tree.Ports.{Ports}
use Rattle.vl_flat.specs.vl_tree.specs.declared.source_tree.Ports.TheVariants as ps
use Rattle.vl_flat.specs.vl_tree.specs.declared.source_tree.PortDeclaration.{PortDeclaration}
use Rattle.vl_flat.specs.vl_tree.specs.declared.source_tree.PortDeclaration.TheVariants as pd
use Rattle.vl_flat.specs.vl_tree.specs.declared.source_tree.ParameterGroup.{ParameterGroup}
use Rattle.vl_flat.specs.vl_tree.specs.declared.source_tree.ParameterAssignment.{ParameterAssignment}
use Rattle.vl_flat.specs.vl_tree.specs.declared.source_tree.VariableType.{VariableType}
use Rattle.vl_flat.specs.vl_tree.specs.declared.source_tree.VariableMore.{VariableMore}
use Rattle.vl_flat.specs.vl_tree.specs.declared.source_tree.VariableMore.TheVariants as v
use Rattle.vl_flat.specs.vl_tree.specs.declared.source_tree.Function.{Function as FunctionTree}
use Rattle.vl_flat.specs.vl_tree.specs.declared.source_tree.FunctionPort.{FunctionPort}
use Rattle.vl_flat.specs.vl_tree.specs.declared.source_tree.FunctionDeclaration.{FunctionDeclaration}
use Rattle.vl_flat.specs.vl_tree.specs.declared.source_tree.FunctionDeclaration.TheVariants as fd
use Rattle.vl_names.specs.vl_scope.specs.declared.kind.Class.{Class}
use Rattle.vl_names.specs.vl_scope.specs.declared.kind.Class.TheVariants as c
use Rattle.vl_names.specs.vl_scope.specs.Declarations as s
use Rattle.vl_names.specs.vl_scope.specs.DeclarationFaults.{is_no_port, is_memory}
use Rattle.vl_flat.specs.Items as x
use Rattle.vl_flat.specs.Functions.{input_numbers}
use Rattle.vl_flat.specs.Declarations as d
use Rattle.vl_sound.proofs.Pairs.{Pairs, pairs-append, pairs-twice, pairs-items}
use Rattle.vl_names.specs.vl_scope.proofs.Shared.{parameter-no-port as parameter-other, stored-class}

-- ---- names

pub data Name : Type 0 where
  P : (n : Identifier) → Name
  S : (d : x.Declared) → Name
  F : (a : x.Function) → Name
  I : (n : Identifier) → Name

abbrev pub spelt : Name → Identifier
spelt (P n) = n
spelt (S d) = d.name
spelt (F a) = a.name
spelt (I n) = n

abbrev pub names_in : x.Item → List Name
names_in (x.Parameters type as') = map (λ a. P a.name) as'
names_in (x.Signals ds) = map (λ d. S d) ds
names_in (x.Functions a) = F a ∷ []
names_in (x.Instantiates us) = map (λ u. I u.name) us.units
names_in item = []

abbrev pub names_of : List x.Item → List Name
names_of items = flat_map names_in items

-- ---- what declarations say of them

pub record SaidParameter (n : Identifier) (e : s.Declared) : Type 0 where
  pub name : e.name ≡ n
  pub typed : e.typed ≡ true
  pub class : s.is_parameter e.kind.class ≡ true

pub record SaidSignal (a : x.Declared) (e : s.Declared) : Type 0 where
  pub name : e.name ≡ a.name
  pub says : (is_some e.direction || e.typed) ≡ true
  pub direction : e.direction ≡ a.direction
  pub port : is_no_port e.kind.class ≡ false
  pub memory : is_memory e.kind.class ≡ is_some a.words
  pub bare : is_memory e.kind.class ≡ true → e.direction ≡ None

pub record SaidFunction (a : x.Function) (e : s.Declared) : Type 0 where
  pub name : e.name ≡ a.name
  pub typed : e.typed ≡ true
  pub class : (k : ℕ) → e.kind.class ≡ c.Function (length (input_numbers k a.locals))

pub record SaidInstance (n : Identifier) (e : s.Declared) : Type 0 where
  pub name : e.name ≡ n
  pub typed : e.typed ≡ true
  pub class : e.kind.class ≡ c.Instance

abbrev pub Said : Name → s.Declared → Type 0
Said (P n) e = SaidParameter n e
Said (S a) e = SaidSignal a e
Said (F a) e = SaidFunction a e
Said (I n) e = SaidInstance n e

-- ---- the inputs of a function

-- how many locals are inputs
inputs : List x.Local → ℕ
inputs [] = 0
inputs (l ∷ ls) = if l.is_input then 1 + inputs ls else inputs ls

numbers-count : (k : ℕ) (ls : List x.Local) → length (input_numbers k ls) ≡ inputs ls
unfolding inputs
numbers-count k [] = refl
numbers-count k (l ∷ ls) = by l.is_input (numbers-count (k + 1) ls)
  where
    by : (b : Bool) → length (input_numbers (k + 1) ls) ≡ inputs ls → length (if b then k ∷ input_numbers (k + 1) ls else input_numbers (k + 1) ls) ≡ (if b then 1 + inputs ls else inputs ls)
    by true h = omega (arith, h)
    by false h = h

inputs-append : (xs ys : List x.Local) → inputs (xs ++ ys) ≡ inputs xs + inputs ys
unfolding inputs
inputs-append [] ys = omega arith
inputs-append (l ∷ xs) ys = by l.is_input (inputs-append xs ys)
  where
    by : (b : Bool) → inputs (xs ++ ys) ≡ inputs xs + inputs ys → (if b then 1 + inputs (xs ++ ys) else inputs (xs ++ ys)) ≡ (if b then 1 + inputs xs else inputs xs) + inputs ys
    by true h = omega (arith, h)
    by false h = h

all-inputs : (type : x.DataType) (ns : List Identifier) → inputs (map (d.local true false type) ns) ≡ length ns
unfolding inputs
all-inputs type [] = refl
all-inputs type (n ∷ ns) = omega (arith, all-inputs type ns)

no-inputs : (free : Bool) (type : x.DataType) (ns : List Identifier) → inputs (map (d.local false free type) ns) ≡ 0
unfolding inputs
no-inputs free type [] = refl
no-inputs free type (n ∷ ns) = no-inputs free type ns

header-count : (as' : List FunctionPort) → inputs (flat_map d.inputs_in as') ≡ length (flat_map (λ (a : FunctionPort). a.names) as')
unfolding inputs
header-count [] = refl
header-count (a ∷ as') =
    omega (arith, header-count as', inputs-append (d.inputs_in a) (flat_map d.inputs_in as'), all-inputs (d.type a.kind) a.names, length-append a.names (flat_map (λ (a : FunctionPort). a.names) as'))

body-one : (a : FunctionDeclaration) → inputs (d.locals_in a) ≡ length (s.body_inputs_of a)
body-one (fd.Input a) = all-inputs (d.type a.kind) a.names
body-one (fd.Reg at signed range names) = no-inputs true (d.vector signed range) names
body-one (fd.Integer at names) = no-inputs true x.Integer names

body-count : (as' : List FunctionDeclaration) → inputs (flat_map d.locals_in as') ≡ length (flat_map s.body_inputs_of as')
unfolding inputs
body-count [] = refl
body-count (a ∷ as') =
    omega (arith, body-count as', body-one a, inputs-append (d.locals_in a) (flat_map d.locals_in as'), length-append (s.body_inputs_of a) (flat_map s.body_inputs_of as'))

port-count : (o : Option (List FunctionPort)) → inputs (option_map_or (flat_map d.inputs_in) o []) ≡ length (option_map_or (λ ports. flat_map (λ (a : FunctionPort). a.names) ports) o [])
unfolding inputs
port-count None = refl
port-count (Some ports) = header-count ports

function-inputs : (a : FunctionTree) (k : ℕ) → length (s.function_inputs a) ≡ length (input_numbers k (d.function a).locals)
unfolding inputs
function-inputs a k =
    let one = numbers-count k (d.function a).locals in
    let parts = inputs-append (option_map_or (flat_map d.inputs_in) a.ports []) (flat_map d.locals_in a.declarations) in
    let both = length-append (s.header_inputs a) (s.body_inputs a) in
    omega (arith, one, parts, both, port-count a.ports, body-count a.declarations)

-- ---- item by item

port-class : (w : Bool) → is_no_port (if w then c.Net else c.Port) ≡ false
port-class true = refl
port-class false = refl

port-memory : (w : Bool) → is_memory (if w then c.Net else c.Port) ≡ false
port-memory true = refl
port-memory false = refl

-- the names of signals are those of their declarations
signals-said : {C : Type 0} (f : C → x.Declared) (g : C → s.Declared) (zs : List C) → ((z : C) → SaidSignal (f z) (g z)) → Pairs Said (map (λ d. S d) (map f zs)) (map g zs)
signals-said f g zs h = pairs-twice Said (λ d. S d) f g zs h

ports-said : (a : PortDeclaration) → Pairs Said (map (λ d. S d) (d.ports_in a)) (s.port_declarations a)
ports-said (pd.Net at direction wire signed range names) =
    signals-said (d.net (Some direction) (d.vector signed range)) (s.port direction wire (is_some range)) names
    (λ n. record { name = refl; says = refl; direction = refl; port = port-class wire; memory = port-memory wire; bare = λ q. absurd (true≢false (sym q ∙ port-memory wire)) })
ports-said (pd.Reg at signed range as') =
    signals-said (d.output_variable (d.vector signed range)) (λ a. s.output_variable (is_some range) a.name) as'
    (λ a. record { name = refl; says = refl; direction = refl; port = refl; memory = refl; bare = λ q. absurd (true≢false (sym q)) })
ports-said (pd.Integer at as') =
    signals-said (d.output_variable x.Integer) (λ a. s.output_variable true a.name) as'
    (λ a. record { name = refl; says = refl; direction = refl; port = refl; memory = refl; bare = λ q. absurd (true≢false (sym q)) })

stored-memory : (o : Option VariableMore) → is_memory (s.variable_class o) ≡ is_some (d.words_in o)
stored-memory None = refl
stored-memory (Some (v.Words addresses)) = refl
stored-memory (Some (v.Value value)) = refl

variables-said : (type : x.DataType) (vector : Bool) (as' : List VariableType)
    → Pairs Said (map (λ d. S d) (map (d.variable type) as')) (map (λ a. s.declared (s.variable_class a.more) vector a.name) as')
variables-said type vector as' =
    signals-said (d.variable type) (λ a. s.declared (s.variable_class a.more) vector a.name) as'
    (λ a. record { name = refl; says = refl; direction = refl; port = stored-class a.more; memory = stored-memory a.more; bare = λ q. refl })

parameters-said : (as' : List ParameterAssignment) → Pairs Said (map {A = x.Parameter} {B = Name} (λ a. P a.name) (map d.parameter as')) (s.parameter_declarations as')
parameters-said as' =
    pairs-twice Said (λ (a : x.Parameter). P a.name) d.parameter (λ a. s.declared (c.Parameter 0) true a.name) as' (λ a. record { name = refl; typed = refl; class = refl })

item-said : (j : ItemTree) → Pairs Said (names_in (d.item j)) (s.item_declarations j)
unfolding Pairs
item-said (i.Port a) = ports-said a
item-said (i.Parameter at word kind as') = parameters-said as'
item-said (i.Wire at signed range as') =
    signals-said (d.assigned_net (d.vector signed range)) (λ a. s.declared c.Net (is_some range) a.name) as'
    (λ a. record { name = refl; says = refl; direction = refl; port = refl; memory = refl; bare = λ q. refl })
item-said (i.Reg at signed range as') = variables-said (d.vector signed range) (is_some range) as'
item-said (i.Integer at as') = variables-said x.Integer true as'
item-said (i.Assign at as') = tt
item-said (i.Initial at a) = tt
item-said (i.Always at trigger a) = tt
item-said (i.Function a) = (record { name = refl; typed = refl; class = λ k. ap c.Function (function-inputs a k) }, tt)
item-said (i.Instance a) =
    pairs-twice Said (λ (u : x.NamedUnit). I u.name) d.named_instance (λ n. s.declared c.Instance false n.name) a.instances
    (λ u. record { name = refl; typed = refl; class = refl })

groups-said : (o : Option (List ParameterGroup))
    → Pairs Said (names_of (option_map_or (map d.header_parameters) o [])) (option_map_or (flat_map (λ g. s.parameter_declarations g.assignments)) o [])
unfolding Pairs
groups-said None = tt
groups-said (Some gs) = pairs-items Said names_in d.header_parameters (λ (g : ParameterGroup). s.parameter_declarations g.assignments) gs (λ g. parameters-said g.assignments)

header-said : (o : Option Ports) → Pairs Said (names_of (d.header_ports o)) (option_map_or s.header_declarations o [])
unfolding Pairs
header-said None = tt
header-said (Some ps.Empty) = tt
header-said (Some (ps.Names names)) = tt
header-said (Some (ps.Declarations ports)) = pairs-items Said names_in (λ a. x.Signals (d.ports_in a)) s.port_declarations ports ports-said

pub items-said : (js : List ItemTree) → Pairs Said (names_of (map d.item js)) (flat_map s.item_declarations js)
items-said js = pairs-items Said names_in d.item s.item_declarations js item-said

-- the names and declarations before a module's items
abbrev pub header_items : ModuleTree → List x.Item
header_items m = option_map_or (map d.header_parameters) m.parameters [] ++ d.header_ports m.ports

abbrev pub header_declared : ModuleTree → List s.Declared
header_declared m = option_map_or (flat_map (λ g. s.parameter_declarations g.assignments)) m.parameters [] ++ option_map_or s.header_declarations m.ports []

pub header-all : (m : ModuleTree) → Pairs Said (names_of (header_items m)) (header_declared m)
header-all m =
    let a = option_map_or (map d.header_parameters) m.parameters [] in
    let e = d.header_ports m.ports in
    subst (λ z. Pairs Said z (header_declared m)) (sym (flat_map-append names_in a e))
    (pairs-append Said (names_of a) (option_map_or (flat_map (λ g. s.parameter_declarations g.assignments)) m.parameters []) (names_of e) (option_map_or s.header_declarations m.ports [])
    (groups-said m.parameters) (header-said m.ports))

pub items-are : (m : ModuleTree) → (d.module' m).items ≡ header_items m ++ map d.item m.items
items-are m = sym (append_assoc (option_map_or (map d.header_parameters) m.parameters []) (d.header_ports m.ports) (map d.item m.items))

pub declared-are : (m : ModuleTree) → s.unnumbered m ≡ header_declared m ++ flat_map s.item_declarations m.items
declared-are m =
    sym (append_assoc (option_map_or (flat_map (λ g. s.parameter_declarations g.assignments)) m.parameters []) (option_map_or s.header_declarations m.ports []) (flat_map s.item_declarations m.items))

-- ---- parameters numbered

numbered-said : (nm : Name) (n : ℕ) (a : s.Declared) → Said nm a → Said nm (s.with_number n a)
numbered-said nm n a h = by nm (s.is_parameter a.kind.class) refl h
  where
    by : (nm : Name) (b : Bool) → s.is_parameter a.kind.class ≡ b → Said nm a
        → Said nm (if b then record a { kind = record { class = c.Parameter n; vector = a.kind.vector } } else a)
    by nm false e h = h
    by (P k) true e h = record { name = h.name; typed = h.typed; class = refl }
    by (S k) true e h = absurd (true≢false (sym (parameter-other a.kind.class e) ∙ h.port))
    by (F k) true e h = absurd (true≢false (sym e ∙ ap s.is_parameter (h.class 0)))
    by (I k) true e h = absurd (true≢false (sym e ∙ ap s.is_parameter h.class))

pub all-numbered : (xs : List Name) (ys : List s.Declared) (n : ℕ) → Pairs Said xs ys → Pairs Said xs (s.numbered n ys)
unfolding Pairs
all-numbered [] [] n h = tt
all-numbered [] (y ∷ ys) n h = absurd h
all-numbered (nm ∷ xs) [] n h = absurd h
all-numbered (nm ∷ xs) (y ∷ ys) n h = (numbered-said nm n y h.0, all-numbered xs ys (s.number_after n y) h.1)

-- the names of a module beside its declarations
pub all-said : (m : ModuleTree) → Pairs Said (names_of (d.module' m).items) (s.declarations m)
all-said m =
    all-numbered (names_of (d.module' m).items) (s.unnumbered m) 0
    (subst (λ z. Pairs Said (names_of z) (s.unnumbered m)) (sym (items-are m))
    (subst (λ z. Pairs Said (names_of (header_items m ++ map d.item m.items)) z) (sym (declared-are m))
    (subst (λ z. Pairs Said z (header_declared m ++ flat_map s.item_declarations m.items)) (sym (flat_map-append names_in (header_items m) (map d.item m.items)))
    (pairs-append Said (names_of (header_items m)) (header_declared m) (names_of (map d.item m.items)) (flat_map s.item_declarations m.items)
    (header-all m) (items-said m.items)))))
