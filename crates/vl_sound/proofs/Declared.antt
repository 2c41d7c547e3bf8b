-- In a module without faults of declarations ports, and signals with values of their own, are nets or variables; and functions
-- are prepared.
use Rattle.std.proofs.Common.{◌≡◌, ℕ, Bool, true, false, true≢false, if◌then◌else◌, inl, inr, List, [], ◌∷◌, ◌++◌, map, Option, Some, None, refl, sym, ap, ◌∙◌, subst}
use Rattle.std.specs.Prelude.{⊤, ◌&&◌, is_some, fold, flat_map, option_map, All}
use Rattle.std.specs.Option.{option_map_or}
use Rattle.std.specs.Str.{bytes_eq}
use Rattle.std.proofs.lemmas.Bool.{and_parts}
use Rattle.std.proofs.lemmas.List.Elements.{All-nil, All-cons, All-append, All-head, All-tail, All-map}
use Rattle.std.proofs.lemmas.Slice.Eq.{bytes_eq-Decides}
use Rattle.vl_flat.specs.vl_tree.specs.declared.tree.Identifier.{Identifier}
use Rattle.vl_flat.specs.vl_tree.specs.declared.source_tree.Source.{Source}
use Rattle.vl_flat.specs.vl_tree.specs.declared.source_tree.Module.{Module as ModuleTree}
use Rattle.vl_flat.specs.vl_tree.specs.declared.source_tree.Item.{Item as ItemTree}
use Rattle.vl_flat.specs.vl_tree.specs.declared.source_tree.Item.TheVariants as j
use Rattle.vl_flat.specs.vl_tree.specs.declared.source_tree.Ports.{Ports}
use Rattle.vl_flat.specs.vl_tree.specs.declared.source_tree.Ports.TheVariants as ps
use Rattle.vl_flat.specs.vl_tree.specs.declared.source_tree.PortDeclaration.{PortDeclaration}
use Rattle.vl_flat.specs.vl_tree.specs.declared.source_tree.PortDeclaration.TheVariants as pd
use Rattle.vl_flat.specs.vl_tree.specs.declared.source_tree.ParameterGroup.{ParameterGroup}
use Rattle.vl_flat.specs.vl_tree.specs.declared.source_tree.ParameterAssignment.{ParameterAssignment}
use Rattle.vl_flat.specs.vl_tree.specs.declared.source_tree.DeclarationAssignment.{DeclarationAssignment}
use Rattle.vl_flat.specs.vl_tree.specs.declared.source_tree.VariableType.{VariableType}
use Rattle.vl_flat.specs.vl_tree.specs.declared.source_tree.VariableMore.{VariableMore}
use Rattle.vl_flat.specs.vl_tree.specs.declared.source_tree.VariableMore.TheVariants as v
use Rattle.vl_flat.specs.vl_tree.specs.declared.source_tree.Function.{Function as FunctionTree}
use Rattle.vl_flat.specs.vl_tree.specs.declared.source_tree.FunctionPort.{FunctionPort}
use Rattle.vl_flat.specs.vl_tree.specs.declared.source_tree.FunctionDeclaration.{FunctionDeclaration}
use Rattle.vl_flat.specs.vl_tree.specs.declared.source_tree.FunctionDeclaration.TheVariants as fd
use Rattle.vl_flat.specs.vl_tree.specs.Hierarchy as h
use Rattle.vl_names.specs.vl_scope.specs.declared.fault.Fault.{Fault}
use Rattle.vl_names.specs.vl_scope.specs.declared.kind.Kind.{Kind}
use Rattle.vl_names.specs.vl_scope.specs.declared.kind.Class.{Class}
use Rattle.vl_names.specs.vl_scope.specs.declared.kind.Class.TheVariants as c
use Rattle.vl_names.specs.vl_scope.specs.Faults.{In}
use Rattle.vl_names.specs.vl_scope.specs.Declarations as s
use Rattle.vl_names.specs.vl_scope.specs.DeclarationFaults.{is_no_port, is_memory, listed_in, listed, directs, IsDeclarationFault, undirected}
use Rattle.vl_names.specs.vl_scope.proofs.Members.{In-append_left, In-append_right, In-map, In-map_cases, In-flat_map, In-flat_map_cases, list_any-In_cases, list_any-none}
use Rattle.vl_flat.specs.Surface as e
use Rattle.vl_flat.specs.Items as x
use Rattle.vl_flat.specs.Declarations as d
use Rattle.vl_flat.specs.Kinds.{signals_in}
use Rattle.vl_sound.specs.Used as u
use Rattle.vl_sound.proofs.Lists.{at-holds}
use Rattle.vl_sound.proofs.Pairs.{pairs-there, pairs-back}
use Rattle.vl_sound.proofs.Names.{Name, P, S, F, I, names_in, names_of, Said, all-said}
use Rattle.vl_sound.proofs.Alone.{class-of, alone, no-signal-apart}
use Rattle.vl_sound.proofs.Agree.{memory-apart}
use Rattle.vl_sound.proofs.Functions.{IsPrepared}
use Rattle.vl_sound.proofs.Items.{HasOwn}
pub use Rattle.vl_names.specs.vl_scope.proofs.Shared.{all-in as from-in}

-- ---- lists

pub every : {A : Type 0} (Q : A → Type 0) → ((y : A) → Q y) → (ys : List A) → All Q ys
every Q g [] = All-nil Q
every Q g (y ∷ ys) = All-cons Q y ys (g y) (every Q g ys)

pub at-in : {A : Type 0} (Q : A → Type 0) (ys : List A) (y : A) → All Q ys → In y ys → Q y
at-in Q [] y g i = absurd i
at-in Q (z ∷ ys) y g (inl i) = subst Q i (All-head Q z ys g)
at-in Q (z ∷ ys) y g (inr i) = at-in Q ys y (All-tail Q z ys g) i

every-flat : {A B : Type 0} (Q : B → Type 0) (f : A → List B) → ((y : A) → All Q (f y)) → (ys : List A) → All Q (flat_map f ys)
every-flat Q f g [] = All-nil Q
every-flat Q f g (y ∷ ys) = All-append Q (f y) (flat_map f ys) (g y) (every-flat Q f g ys)

every-map : {A B : Type 0} (Q : B → Type 0) (f : A → B) → ((y : A) → Q (f y)) → (ys : List A) → All Q (map f ys)
every-map Q f g ys = All-map Q f ys (every (λ y. Q (f y)) g ys)

every-option : {A B : Type 0} (Q : B → Type 0) (f : A → List B) → ((y : A) → All Q (f y)) → (o : Option A) → All Q (option_map_or f o [])
every-option Q f g None = All-nil Q
every-option Q f g (Some y) = g y

-- ---- each item of a module

every-item : (Q : x.Item → Type 0) → ((g : ParameterGroup) → Q (d.header_parameters g)) → ((a : PortDeclaration) → Q (x.Signals (d.ports_in a))) → ((i : ItemTree) → Q (d.item i))
    → (m : ModuleTree) → All Q (d.module' m).items
every-item Q groups ports items m =
    All-append Q (option_map_or (map d.header_parameters) m.parameters []) (d.header_ports m.ports ++ map d.item m.items)
    (every-option Q (map d.header_parameters) (every-map Q d.header_parameters groups) m.parameters)
    (All-append Q (d.header_ports m.ports) (map d.item m.items) (by m.ports) (every-map Q d.item items m.items))
  where
    by : (o : Option Ports) → All Q (d.header_ports o)
    by None = All-nil Q
    by (Some ps.Empty) = All-nil Q
    by (Some (ps.Names names)) = All-nil Q
    by (Some (ps.Declarations declarations)) = every-map Q (λ a. x.Signals (d.ports_in a)) ports declarations

-- ---- functions are prepared

IsBound : x.Local → Type 0
IsBound l = l.is_input ≡ true → l.is_free ≡ false

inputs-bound : (a : FunctionPort) → All IsBound (d.inputs_in a)
unfolding IsBound
inputs-bound a = every-map IsBound (d.local true false (d.type a.kind)) (λ n h. refl) a.names

locals-bound : (a : FunctionDeclaration) → All IsBound (d.locals_in a)
unfolding IsBound
locals-bound (fd.Input a) = inputs-bound a
locals-bound (fd.Reg at signed range names) = every-map IsBound (d.local false true (d.vector signed range)) (λ n h. absurd (true≢false (sym h))) names
locals-bound (fd.Integer at names) = every-map IsBound (d.local false true x.Integer) (λ n h. absurd (true≢false (sym h))) names

function-prepared : (a : FunctionTree) → IsPrepared (d.function a)
unfolding IsBound
function-prepared a =
    let first = d.local false false (d.type a.kind) a.name in
    let ports = option_map_or (flat_map d.inputs_in) a.ports [] in
    let others = flat_map d.locals_in a.declarations in
    let all : All IsBound (first ∷ (ports ++ others)) = All-cons IsBound first (ports ++ others) (λ h. refl)
    (All-append IsBound ports others (every-option IsBound (flat_map d.inputs_in) (every-flat IsBound d.inputs_in inputs-bound) a.ports) (every-flat IsBound d.locals_in locals-bound a.declarations)) in
    record {
      first = (first, ports ++ others, refl);
      inputs = λ i l at h. at-holds IsBound (first ∷ (ports ++ others)) i l all at h;
    }

abbrev pub IsPreparedItem : x.Item → Type 0
IsPreparedItem (x.Functions a) = IsPrepared a
IsPreparedItem item = ⊤

pub all-prepared : (m : ModuleTree) → All IsPreparedItem (d.module' m).items
all-prepared = every-item IsPreparedItem (λ g. tt) (λ a. tt) by
  where
    by : (i : ItemTree) → IsPreparedItem (d.item i)
    by (j.Function a) = function-prepared a
    by i = tt

-- ---- what has a value is no memory

abbrev Single : x.Declared → Type 0
Single y = (a : e.Ex) → y.value ≡ Some a → is_some y.words ≡ false

variable-single : (type : x.DataType) (a : VariableType) → Single (d.variable type a)
variable-single type a = by a.more
  where
    by : (o : Option VariableMore) (b : e.Ex) → d.value_in o ≡ Some b → is_some (d.words_in o) ≡ false
    by None b h = refl
    by (Some (v.Words range)) b h = let z : ⊥ = cc in absurd z
    by (Some (v.Value y)) b h = refl

abbrev SingleItem : x.Item → Type 0
SingleItem item = All Single (signals_in item)

ports-single : (a : PortDeclaration) → All Single (d.ports_in a)
ports-single (pd.Net at direction wire signed range names) = every-map Single (d.net (Some direction) (d.vector signed range)) (λ n b h. refl) names
ports-single (pd.Reg at signed range as') = every-map Single (d.output_variable (d.vector signed range)) (λ n b h. refl) as'
ports-single (pd.Integer at as') = every-map Single (d.output_variable x.Integer) (λ n b h. refl) as'

all-single : (m : ModuleTree) → All SingleItem (d.module' m).items
all-single = every-item SingleItem (λ g. All-nil Single) ports-single by
  where
    by : (i : ItemTree) → SingleItem (d.item i)
    by (j.Port a) = ports-single a
    by (j.Wire at signed range as') = every-map Single (d.assigned_net (d.vector signed range)) (λ n b h. refl) as'
    by (j.Reg at signed range as') = every-map Single (d.variable (d.vector signed range)) (variable-single (d.vector signed range)) as'
    by (j.Integer at as') = every-map Single (d.variable x.Integer) (variable-single x.Integer) as'
    by i = All-nil Single

-- ---- what has a direction is a port

abbrev Undirected : s.Declared → Type 0
Undirected a = is_no_port a.kind.class ≡ true → a.direction ≡ None

port-undirected : (a : PortDeclaration) → All Undirected (s.port_declarations a)
port-undirected (pd.Net at direction wire signed range names) = every-map Undirected (s.port direction wire (is_some range)) (λ n. by wire) names
  where
    by : (b : Bool) → is_no_port (if b then c.Net else c.Port) ≡ true → Some direction ≡ None
    by true h = absurd (true≢false (sym h))
    by false h = absurd (true≢false (sym h))
port-undirected (pd.Reg at signed range as') = every-map Undirected (λ (a : DeclarationAssignment). s.output_variable (is_some range) a.name) (λ a h. absurd (true≢false (sym h))) as'
port-undirected (pd.Integer at as') = every-map Undirected (λ (a : DeclarationAssignment). s.output_variable true a.name) (λ a h. absurd (true≢false (sym h))) as'

parameters-undirected : (as' : List ParameterAssignment) → All Undirected (s.parameter_declarations as')
parameters-undirected as' = every-map Undirected (λ (a : ParameterAssignment). s.declared (c.Parameter 0) true a.name) (λ a h. refl) as'

item-undirected : (i : ItemTree) → All Undirected (s.item_declarations i)
item-undirected (j.Port a) = port-undirected a
item-undirected (j.Parameter at word type as') = parameters-undirected as'
item-undirected (j.Wire at signed range as') = every-map Undirected (λ (a : DeclarationAssignment). s.declared c.Net (is_some range) a.name) (λ a h. refl) as'
item-undirected (j.Reg at signed range as') = every-map Undirected (λ (a : VariableType). s.declared (s.variable_class a.more) (is_some range) a.name) (λ a h. refl) as'
item-undirected (j.Integer at as') = every-map Undirected (λ (a : VariableType). s.declared (s.variable_class a.more) true a.name) (λ a h. refl) as'
item-undirected (j.Function a) = All-cons Undirected _ [] (λ h. refl) (All-nil Undirected)
item-undirected (j.Instance a) = every-map Undirected (λ n. s.declared c.Instance false n.name) (λ a h. refl) a.instances
item-undirected i = All-nil Undirected

header-undirected : (a : Ports) → All Undirected (s.header_declarations a)
header-undirected ps.Empty = All-nil Undirected
header-undirected (ps.Names names) = All-nil Undirected
header-undirected (ps.Declarations ports) = every-flat Undirected s.port_declarations port-undirected ports

number-undirected : (n : ℕ) (a : s.Declared) → Undirected a → Undirected (s.with_number n a)
number-undirected n a g = by (s.is_parameter a.kind.class) refl
  where
    parameter : (q : Class) → s.is_parameter q ≡ true → is_no_port q ≡ true
    parameter (c.Parameter k) h = refl
    parameter q h = let z : ⊥ = cc in absurd z

    by : (b : Bool) → s.is_parameter a.kind.class ≡ b → Undirected (if b then record a { kind = record { class = c.Parameter n; vector = a.kind.vector } } else a)
    by true is h = g (parameter a.kind.class is)
    by false is h = g h

numbered-undirected : (n : ℕ) (ds : List s.Declared) → All Undirected ds → All Undirected (s.numbered n ds)
numbered-undirected n [] g = All-nil Undirected
numbered-undirected n (a ∷ ds) g =
    All-cons Undirected (s.with_number n a) (s.numbered (s.number_after n a) ds) (number-undirected n a (All-head Undirected a ds g)) (numbered-undirected (s.number_after n a) ds (All-tail Undirected a ds g))

all-undirected : (m : ModuleTree) → All Undirected (s.declarations m)
all-undirected m =
    let groups = option_map_or (flat_map (λ (g : ParameterGroup). s.parameter_declarations g.assignments)) m.parameters [] in
    let header = option_map_or s.header_declarations m.ports [] in
    numbered-undirected 0 (s.unnumbered m)
    (All-append Undirected groups (header ++ flat_map s.item_declarations m.items)
    (every-option Undirected (flat_map (λ (g : ParameterGroup). s.parameter_declarations g.assignments)) (every-flat Undirected (λ (g : ParameterGroup). s.parameter_declarations g.assignments) (λ g. parameters-undirected g.assignments)) m.parameters)
    (All-append Undirected header (flat_map s.item_declarations m.items) (every-option Undirected s.header_declarations header-undirected m.ports) (every-flat Undirected s.item_declarations item-undirected m.items)))

-- ---- what is declared means something

kept : (ds : List s.Declared) (t : List ℕ) (k : Kind) → (q : Kind) × (fold (s.kind_after t) (Some k) ds ≡ Some q)
kept [] t k = (k, refl)
kept (a ∷ ds) t k = by (bytes_eq t a.name.name) (s.adds_to k.class a) (λ z. kept ds t z)
  where
    by : (b adds : Bool) → ((z : Kind) → (q : Kind) × (fold (s.kind_after t) (Some z) ds ≡ Some q))
        → (q : Kind) × (fold (s.kind_after t) (if b then Some (if adds then s.joined k a.kind else k) else Some k) ds ≡ Some q)
    by true true rest = rest (s.joined k a.kind)
    by true false rest = rest k
    by false adds rest = rest k

meant : (ds : List s.Declared) (a : s.Declared) (known : Option Kind) → In a ds → (q : Kind) × (fold (s.kind_after a.name.name) known ds ≡ Some q)
meant [] a known i = absurd i
meant (z ∷ ds) a known (inr i) = meant ds a (s.kind_after a.name.name known z) i
meant (z ∷ ds) a known (inl i) = by known (bytes_eq a.name.name z.name.name) ((bytes_eq-Decides a.name.name z.name.name).1 (ap (λ (y : s.Declared). y.name.name) (sym i)))
  where
    by : (o : Option Kind) (b : Bool) → b ≡ true → (q : Kind) × (fold (s.kind_after a.name.name) (if b then s.with_declaration o z else o) ds ≡ Some q)
    by o false h = let y : ⊥ = cc in absurd y
    by None true h = kept ds a.name.name z.kind
    by (Some k) true h = kept ds a.name.name (if s.adds_to k.class z then s.joined k z.kind else k)

-- ---- nets and variables

watched-by : (q : Class) → is_no_port q ≡ false → is_memory q ≡ false → u.IsWatched (Some q)
watched-by c.Port g i = tt
watched-by c.Net g i = tt
watched-by c.Variable g i = tt
watched-by c.Memory g i = absurd (true≢false i)
watched-by (c.Parameter n) g i = absurd (true≢false g)
watched-by (c.Function n) g i = absurd (true≢false g)
watched-by c.Instance g i = absurd (true≢false g)

module _ (src : Source) (fine : (f : Fault) → IsDeclarationFault src f → ⊥) (m : ModuleTree) (within : In m src.modules) where
  abbrev names : List Name
  names = names_of (d.module' m).items

  abbrev ds : List s.Declared
  ds = s.declarations m

  -- a signal that is no memory, beside a declaration of the same name
  beside : (y : x.Declared) → In (S y) names → is_some y.words ≡ false → (a : s.Declared) → a.name.name ≡ y.name.name → (nm : Name) → In nm names → Said nm a → u.IsWatched (Some a.kind.class)
  beside y i w a same (P n) k g =
      absurd (differ (alone src fine m within (S y) (P n) i k (sym same ∙ ap (λ (z : Identifier). z.name) g.name) (λ p q r t. let z = no-signal-apart (P n) (S y) tt q p t r in (z.1, z.0))))
    where
      differ : S y ≡ P n → ⊥
      differ q = cc
  beside y i w a same (F f) k g =
      absurd (differ (alone src fine m within (S y) (F f) i k (sym same ∙ ap (λ (z : Identifier). z.name) g.name) (λ p q r t. let z = no-signal-apart (F f) (S y) tt q p t r in (z.1, z.0))))
    where
      differ : S y ≡ F f → ⊥
      differ q = cc
  beside y i w a same (I n) k g =
      absurd (differ (alone src fine m within (S y) (I n) i k (sym same ∙ ap (λ (z : Identifier). z.name) g.name) (λ p q r t. let z = no-signal-apart (I n) (S y) tt q p t r in (z.1, z.0))))
    where
      differ : S y ≡ I n → ⊥
      differ q = cc
  beside y i w a same (S z) k g = by (is_some z.words) refl
    where
      is : S y ≡ S z → y ≡ z
      is q = cc

      by : (b : Bool) → is_some z.words ≡ b → u.IsWatched (Some a.kind.class)
      by false q = watched-by a.kind.class g.port (g.memory ∙ q)
      by true q =
          let one = is (alone src fine m within (S y) (S z) i k (sym same ∙ ap (λ (v : Identifier). v.name) g.name) (λ p r t v. let o = memory-apart z y q r p v t in (o.1, o.0))) in
          absurd (true≢false (sym q ∙ (ap (λ (v : x.Declared). is_some v.words) (sym one) ∙ w)))

  pub signal-watched : (y : x.Declared) → In (S y) names → is_some y.words ≡ false → u.IsWatched (u.class_in ds y.name.name)
  signal-watched y i w =
      let (a, there, says) = pairs-there Said names ds (S y) (all-said m) i in
      let same : a.name.name ≡ y.name.name = ap (λ (z : Identifier). z.name) says.name in
      let (kind, means) = meant ds a None there in
      let is : s.kind_in ds y.name.name ≡ Some kind = ap (λ t. s.kind_in ds t) (sym same) ∙ means in
      let said = class-of ds y.name.name kind is in
      let (nm, k, g) = pairs-back Said names ds said.said (all-said m) said.within in
      subst (λ (o : Option Kind). u.IsWatched (option_map (λ (z : Kind). z.class) o)) (sym is)
      (subst (λ q. u.IsWatched (Some q)) said.class-is (beside y i w said.said said.spelt nm k g))

  signal-there : (item : x.Item) (y : x.Declared) → In item (d.module' m).items → In (S y) (names_in item) → In (S y) names
  signal-there item y i k = In-flat_map names_in item (S y) (d.module' m).items i k

  -- signals with values of their own
  pub own-values : (zs : List x.Declared) → In (x.Signals zs) (d.module' m).items → All (λ (y : x.Declared). HasOwn (u.class_in ds y.name.name) y.value) zs
  own-values zs i =
      let single = at-in SingleItem (d.module' m).items (x.Signals zs) (all-single m) i in
      from-in (λ (y : x.Declared). HasOwn (u.class_in ds y.name.name) y.value) zs (λ y k. by y (at-in Single zs y single k) (signal-there (x.Signals zs) y i (In-map (λ (z : x.Declared). S z) y zs k)) y.value refl)
    where
      by : (y : x.Declared) → Single y → In (S y) names → (o : Option e.Ex) → y.value ≡ o → HasOwn (u.class_in ds y.name.name) o
      by y single k None q = tt
      by y single k (Some a) q = signal-watched y k (single a q)

  -- ---- ports

  some-of : {A : Type 0} (o : Option A) → is_some o ≡ true → o ≡ None → ⊥
  some-of None g i = true≢false (sym g)
  some-of (Some y) g i = cc

  parameter-class : (q : Class) → s.is_parameter q ≡ true → is_no_port q ≡ true
  parameter-class (c.Parameter k) g = refl
  parameter-class q g = let z : ⊥ = cc in absurd z

  directed-watched : (a : s.Declared) → In a ds → is_some a.direction ≡ true → u.IsWatched (u.class_in ds a.name.name)
  directed-watched a i directed = let (nm, k, g) = pairs-back Said names ds a (all-said m) i in by nm k g
    where
      no-port : is_no_port a.kind.class ≡ true → u.IsWatched (u.class_in ds a.name.name)
      no-port q = absurd (some-of a.direction directed (at-in Undirected ds a (all-undirected m) i q))

      bare : (b : Bool) → is_memory a.kind.class ≡ b → (is_memory a.kind.class ≡ true → a.direction ≡ None) → b ≡ false
      bare false q g = refl
      bare true q g = absurd (some-of a.direction directed (g q))

      by : (nm : Name) → In nm names → Said nm a → u.IsWatched (u.class_in ds a.name.name)
      by (P n) k g = no-port (parameter-class a.kind.class g.class)
      by (F f) k g = no-port (ap is_no_port (g.class 0))
      by (I n) k g = no-port (ap is_no_port g.class)
      by (S y) k g =
          subst (λ (z : Identifier). u.IsWatched (u.class_in ds z.name)) (sym g.name) (signal-watched y k (sym g.memory ∙ bare (is_memory a.kind.class) refl g.bare))

  listed-watched : (n : Identifier) → In n (listed m) → u.IsWatched (u.class_in ds n.name)
  listed-watched n i = by (directs ds n.name) refl
    where
      none-with : (a : s.Declared) → In a ds → a.name.name ≡ n.name → directs ds n.name ≡ false → a.direction ≡ None
      none-with a k same q = of (bytes_eq n.name a.name.name) a.direction ((bytes_eq-Decides n.name a.name.name).1 (sym same)) (list_any-none (λ (z : s.Declared). bytes_eq n.name z.name.name && is_some z.direction) ds q a k)
        where
          of : {A : Type 0} (b : Bool) (o : Option A) → b ≡ true → (b && is_some o) ≡ false → o ≡ None
          of true None g h = refl
          of true (Some y) g h = absurd (true≢false h)
          of false o g h = absurd (true≢false (sym g))

      by : (b : Bool) → directs ds n.name ≡ b → u.IsWatched (u.class_in ds n.name)
      by false q = absurd (fine _ (undirected m n within i (λ a k same. none-with a k same q)))
      by true q =
          let (a, k, g) = list_any-In_cases (λ (z : s.Declared). bytes_eq n.name z.name.name && is_some z.direction) ds q in
          let (same, directed) = and_parts (bytes_eq n.name a.name.name) (is_some a.direction) g in
          subst (λ t. u.IsWatched (u.class_in ds t)) (sym ((bytes_eq-Decides n.name a.name.name).0 same)) (directed-watched a k directed)

  header-in : (ports : List PortDeclaration) → m.ports ≡ Some (ps.Declarations ports) → (item : x.Item) → In item (d.header_ports (Some (ps.Declarations ports))) → In item (d.module' m).items
  header-in ports is item i =
      In-append_right item (option_map_or (map d.header_parameters) m.parameters []) (d.header_ports m.ports ++ map d.item m.items)
      (In-append_left item (d.header_ports m.ports) (map d.item m.items) (subst (λ o. In item (d.header_ports o)) (sym is) i))

  record Declares (p : PortDeclaration) (n : Identifier) : Type 0 where
    y : x.Declared
    there : In y (d.ports_in p)
    name : y.name ≡ n
    bare : is_some y.words ≡ false

  port-declares : (p : PortDeclaration) (n : Identifier) → In n (h.declared_names p) → Declares p n
  port-declares (pd.Net at direction wire signed range ns) n i =
      record { y = d.net (Some direction) (d.vector signed range) n; there = In-map (d.net (Some direction) (d.vector signed range)) n ns i; name = refl; bare = refl }
  port-declares (pd.Reg at signed range as') n i =
      let (a, k, is) = In-map_cases (λ (a : DeclarationAssignment). a.name) n as' i in
      record { y = d.output_variable (d.vector signed range) a; there = In-map (d.output_variable (d.vector signed range)) a as' k; name = is; bare = refl }
  port-declares (pd.Integer at as') n i =
      let (a, k, is) = In-map_cases (λ (a : DeclarationAssignment). a.name) n as' i in
      record { y = d.output_variable x.Integer a; there = In-map (d.output_variable x.Integer) a as' k; name = is; bare = refl }

  declared-watched : (ports : List PortDeclaration) → m.ports ≡ Some (ps.Declarations ports) → (n : Identifier) → In n (flat_map h.declared_names ports) → u.IsWatched (u.class_in ds n.name)
  declared-watched ports is n i =
      let (p, k, inside) = In-flat_map_cases h.declared_names n ports i in
      let g = port-declares p n inside in
      let item = header-in ports is (x.Signals (d.ports_in p)) (In-map (λ a. x.Signals (d.ports_in a)) p ports k) in
      subst (λ (z : Identifier). u.IsWatched (u.class_in ds z.name)) g.name
      (signal-watched g.y (signal-there (x.Signals (d.ports_in p)) g.y item (In-map (λ (z : x.Declared). S z) g.y (d.ports_in p) g.there)) g.bare)

  pub ports-watched : All (λ (n : Identifier). u.IsWatched (u.class_in ds n.name)) (d.module' m).ports
  ports-watched = by m.ports refl
    where
      by : (o : Option Ports) → m.ports ≡ o → All (λ (n : Identifier). u.IsWatched (u.class_in ds n.name)) (h.header_names o)
      by None q = All-nil (λ (n : Identifier). u.IsWatched (u.class_in ds n.name))
      by (Some ps.Empty) q = All-nil (λ (n : Identifier). u.IsWatched (u.class_in ds n.name))
      by (Some (ps.Names ns)) q = from-in (λ (n : Identifier). u.IsWatched (u.class_in ds n.name)) ns (λ n i. listed-watched n (subst (λ o. In n (listed_in o)) (sym q) i))
      by (Some (ps.Declarations ports)) q = from-in (λ (n : Identifier). u.IsWatched (u.class_in ds n.name)) (flat_map h.declared_names ports) (declared-watched ports q)
