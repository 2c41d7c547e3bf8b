-- The type of a function reads parameters that are declared before it: they stand for the same there and in the whole.
use Rattle.std.proofs.Common.{◌≡◌, ℕ, ◌+◌, ◌<◌, ◌≤◌, Bool, true, false, true≢false, if◌then◌else◌, ◌⊎◌, inl, inr, ⊎_elim, List, [], ◌∷◌, ◌++◌, map, length, Option, Some, None, refl, sym, ap, ◌∙◌, subst, arith}
use Rattle.std.specs.Prelude.{◌&&◌, ◌||◌, not, nat_lt, is_some, fold, flat_map, sum_by}
use Rattle.std.specs.Option.{option_or, option_map_or}
use Rattle.std.proofs.lemmas.Bool.Decides.{nat_tests}
use Rattle.std.proofs.lemmas.List.Sums.{fold-append, sum_by-cons}
use Rattle.std.proofs.lemmas.List.{append_assoc, length-append}
use Rattle.std.proofs.lemmas.Grind.{flat_map-append}
use Rattle.vl_flat.specs.vl_tree.specs.declared.tree.Identifier.{Identifier}
use Rattle.vl_flat.specs.vl_tree.specs.declared.tree.Name as n
use Rattle.vl_flat.specs.vl_tree.specs.declared.tree.Expression.{Expression}
use Rattle.vl_flat.specs.vl_tree.specs.declared.tree.Select.{Select}
use Rattle.vl_flat.specs.vl_tree.specs.declared.source_tree.Source.{Source}
use Rattle.vl_flat.specs.vl_tree.specs.declared.source_tree.Range.{Range}
use Rattle.vl_flat.specs.vl_tree.specs.declared.source_tree.Module.{Module as ModuleTree}
use Rattle.vl_flat.specs.vl_tree.specs.declared.source_tree.Item.{Item as ItemTree}
use Rattle.vl_flat.specs.vl_tree.specs.declared.source_tree.Item.TheVariants as i
use Rattle.vl_flat.specs.vl_tree.specs.declared.source_tree.Ports.{Ports}
use Rattle.vl_flat.specs.vl_tree.specs.declared.source_tree.Ports.TheVariants as ps
use Rattle.vl_flat.specs.vl_tree.specs.declared.source_tree.PortDeclaration.{PortDeclaration}
use Rattle.vl_flat.specs.vl_tree.specs.declared.source_tree.PortDeclaration.TheVariants as pd
use Rattle.vl_flat.specs.vl_tree.specs.declared.source_tree.ParameterGroup.{ParameterGroup}
use Rattle.vl_flat.specs.vl_tree.specs.declared.source_tree.ParameterAssignment.{ParameterAssignment}
use Rattle.vl_flat.specs.vl_tree.specs.declared.source_tree.ParameterType.{ParameterType}
use Rattle.vl_flat.specs.vl_tree.specs.declared.source_tree.ParameterType.TheVariants as pt
use Rattle.vl_flat.specs.vl_tree.specs.declared.source_tree.VariableType.{VariableType}
use Rattle.vl_flat.specs.vl_tree.specs.declared.source_tree.VariableMore.{VariableMore}
use Rattle.vl_flat.specs.vl_tree.specs.declared.source_tree.VariableMore.TheVariants as v
use Rattle.vl_flat.specs.vl_tree.specs.declared.source_tree.Function.{Function as FunctionTree}
use Rattle.vl_flat.specs.vl_tree.specs.declared.source_tree.FunctionPort.{FunctionPort}
use Rattle.vl_flat.specs.vl_tree.specs.declared.source_tree.FunctionDeclaration.{FunctionDeclaration}
use Rattle.vl_flat.specs.vl_tree.specs.declared.source_tree.FunctionDeclaration.TheVariants as fd
use Rattle.vl_names.specs.vl_scope.specs.declared.fault.Fault.{Fault}
use Rattle.vl_names.specs.vl_scope.specs.declared.kind.Kind.{Kind}
use Rattle.vl_names.specs.vl_scope.specs.declared.kind.Class.{Class}
use Rattle.vl_names.specs.vl_scope.specs.declared.kind.Class.TheVariants as c
use Rattle.vl_names.specs.vl_scope.specs.Faults.{In}
use Rattle.vl_names.specs.vl_scope.specs.Declarations as s
use Rattle.vl_names.specs.vl_scope.specs.DeclarationFaults.{is_no_port, IsDeclarationFault}
use Rattle.vl_names.specs.vl_scope.proofs.Members.{In-map, In-map_cases, In-append_left, In-append_right, In-append_cases, In-flat_map_cases, In-split, In-middle}
use Rattle.vl_names.specs.vl_uses.specs.declared.setting.Setting.{Setting}
use Rattle.vl_names.specs.vl_uses.specs.Settings.{behind, constantly}
use Rattle.vl_names.specs.vl_uses.specs.Nodes as u
use Rattle.vl_names.specs.vl_uses.specs.Nodes.{items_sites}
use Rattle.vl_names.specs.vl_uses.specs.UseFaults.{IsUseFault, undeclared, varying, meanings_at, is_later, is_unknown, is_selected, is_varying}
use Rattle.vl_flat.specs.declared.binding.Binding.{Binding}
use Rattle.vl_flat.specs.declared.binding.Binding.TheVariants as b
use Rattle.vl_flat.specs.Items as x
use Rattle.vl_flat.specs.Declarations as d
use Rattle.vl_flat.specs.Scopes.{Env, none}
use Rattle.vl_flat.specs.Ranges.{type_form}
use Rattle.vl_flat.specs.Environments.{Counts, Given, Known, with_item, environment}
use Rattle.vl_sound.proofs.DeclaredOfLaws.{Ordered}
use Rattle.vl_sound.proofs.Pairs.{Pairs, pairs-append, pairs-back}
use Rattle.vl_sound.proofs.Names.{Name, P, S, F, I, spelt, names_in, names_of, Said, SaidParameter, SaidSignal, SaidFunction, SaidInstance, header_items, header_declared, header-all, items-said, items-are, declared-are, all-numbered}
use Rattle.vl_sound.proofs.Bound.{items-known, items-stay}
use Rattle.vl_sound.proofs.Alone.{SaysClass, class-of, not-ordered, no-signal-apart}
use Rattle.vl_sound.proofs.Fixed.{Reads, ReadsType, expression-reads, type-alike}

-- ---- parameters counted

-- how many parameters declarations declare
params : List s.Declared → ℕ
params [] = 0
params (a ∷ ds) = if s.is_parameter a.kind.class then 1 + params ds else params ds

params-append : (xs ys : List s.Declared) → params (xs ++ ys) ≡ params xs + params ys
unfolding params
params-append [] ys = omega arith
params-append (a ∷ xs) ys = by (s.is_parameter a.kind.class) (params-append xs ys)
  where
    by : (q : Bool) → params (xs ++ ys) ≡ params xs + params ys → (if q then 1 + params (xs ++ ys) else params (xs ++ ys)) ≡ (if q then 1 + params xs else params xs) + params ys
    by true h = omega (arith, h)
    by false h = h

-- declarations of which none is a parameter
params-none : {A : Type 0} (f : A → s.Declared) (xs : List A) → ((y : A) → s.is_parameter (f y).kind.class ≡ false) → params (map f xs) ≡ 0
unfolding params
params-none f [] h = refl
params-none f (y ∷ xs) h = ap (λ q. if q then 1 + params (map f xs) else params (map f xs)) (h y) ∙ params-none f xs h

params-all : (as' : List ParameterAssignment) → params (s.parameter_declarations as') ≡ length as'
unfolding params
params-all [] = refl
params-all (a ∷ as') = omega (arith, params-all as')

params-ports : (a : PortDeclaration) → params (s.port_declarations a) ≡ 0
params-ports (pd.Net at direction wire signed range names) = params-none (s.port direction wire (is_some range)) names (λ q. by wire)
  where
    by : (w : Bool) → s.is_parameter (if w then c.Net else c.Port) ≡ false
    by true = refl
    by false = refl
params-ports (pd.Reg at signed range as') = params-none (λ a. s.output_variable (is_some range) a.name) as' (λ q. refl)
params-ports (pd.Integer at as') = params-none (λ a. s.output_variable true a.name) as' (λ q. refl)

stored-none : (o : Option VariableMore) → s.is_parameter (s.variable_class o) ≡ false
stored-none None = refl
stored-none (Some (v.Words addresses)) = refl
stored-none (Some (v.Value value)) = refl

params-item : (j : ItemTree) → params (s.item_declarations j) ≡ u.item_parameters j
unfolding params
params-item (i.Port a) = params-ports a
params-item (i.Parameter at word kind as') = params-all as'
params-item (i.Wire at signed range as') = params-none (λ a. s.declared c.Net (is_some range) a.name) as' (λ q. refl)
params-item (i.Reg at signed range as') = params-none (λ a. s.declared (s.variable_class a.more) (is_some range) a.name) as' (λ q. stored-none q.more)
params-item (i.Integer at as') = params-none (λ a. s.declared (s.variable_class a.more) true a.name) as' (λ q. stored-none q.more)
params-item (i.Assign at as') = refl
params-item (i.Initial at a) = refl
params-item (i.Always at trigger a) = refl
params-item (i.Function a) = refl
params-item (i.Instance a) = params-none (λ n. s.declared c.Instance false n.name) a.instances (λ q. refl)

params-items : (js : List ItemTree) → params (flat_map s.item_declarations js) ≡ u.items_parameters js
unfolding params
params-items [] = refl
params-items (j ∷ js) = omega (arith, params-items js, params-item j, params-append (s.item_declarations j) (flat_map s.item_declarations js), sum_by-cons u.item_parameters j js)

params-groups : (gs : List ParameterGroup) → params (flat_map (λ (g : ParameterGroup). s.parameter_declarations g.assignments) gs) ≡ u.group_parameters gs
unfolding params
params-groups [] = refl
params-groups (g ∷ gs) =
    omega (
      arith,
      params-groups gs,
      params-all g.assignments,
      params-append (s.parameter_declarations g.assignments) (flat_map (λ (g : ParameterGroup). s.parameter_declarations g.assignments) gs),
      sum_by-cons (λ (a : ParameterGroup). length a.assignments) g gs,
    )

params-header : (o : Option (List ParameterGroup)) → params (option_map_or (flat_map (λ g. s.parameter_declarations g.assignments)) o []) ≡ u.header_parameters o
unfolding params
params-header None = refl
params-header (Some gs) = params-groups gs

params-many : (ports : List PortDeclaration) → params (flat_map s.port_declarations ports) ≡ 0
unfolding params
params-many [] = refl
params-many (a ∷ ports) = omega (arith, params-many ports, params-ports a, params-append (s.port_declarations a) (flat_map s.port_declarations ports))

params-listed : (o : Option Ports) → params (option_map_or s.header_declarations o []) ≡ 0
unfolding params
params-listed None = refl
params-listed (Some ps.Empty) = refl
params-listed (Some (ps.Names names)) = refl
params-listed (Some (ps.Declarations ports)) = params-many ports

params-before : (m : ModuleTree) (js : List ItemTree) → params (header_declared m ++ flat_map s.item_declarations js) ≡ u.header_parameters m.parameters + u.items_parameters js
params-before m js =
    let one = option_map_or (flat_map (λ (g : ParameterGroup). s.parameter_declarations g.assignments)) m.parameters [] in
    let two = option_map_or s.header_declarations m.ports [] in
    omega (arith, params-append (header_declared m) (flat_map s.item_declarations js), params-append one two, params-header m.parameters, params-listed m.ports, params-items js)

-- ---- numbers of parameters

numbered-append : (n : ℕ) (xs ys : List s.Declared) → s.numbered n (xs ++ ys) ≡ s.numbered n xs ++ s.numbered (n + params xs) ys
unfolding params
numbered-append n [] ys = let e : n ≡ n + 0 = omega arith in ap (λ z. s.numbered z ys) e
numbered-append n (a ∷ xs) ys =
    ap (λ z. s.with_number n a ∷ z) (numbered-append (s.number_after n a) xs ys ∙ ap (λ z. s.numbered (s.number_after n a) xs ++ s.numbered z ys) (by (s.is_parameter a.kind.class)))
  where
    by : (q : Bool) → (if q then n + 1 else n) + params xs ≡ n + (if q then 1 + params xs else params xs)
    by true = omega arith
    by false = refl

-- a parameter has a number from the first one on
number-least : (n : ℕ) (ys : List s.Declared) (a : s.Declared) (k : ℕ) → In a (s.numbered n ys) → a.kind.class ≡ c.Parameter k → n ≤ k
number-least n [] a k h e = absurd h
number-least n (y ∷ ys) a k (inl h) e = by (s.is_parameter y.kind.class) refl (ap (λ (z : s.Declared). z.kind.class) h ∙ e)
  where
    number-is : c.Parameter n ≡ c.Parameter k → n ≡ k
    number-is q = cc

    by : (q : Bool) → s.is_parameter y.kind.class ≡ q
        → (if q then record y { kind = record { class = c.Parameter n; vector = y.kind.vector } } else y).kind.class ≡ c.Parameter k → n ≤ k
    by true q r = omega (arith, number-is r)
    by false q r = absurd (true≢false (sym (ap s.is_parameter r) ∙ q))
number-least n (y ∷ ys) a k (inr h) e = by (s.is_parameter y.kind.class) (number-least (s.number_after n y) ys a k h e)
  where
    by : (q : Bool) → (if q then n + 1 else n) ≤ k → n ≤ k
    by true q = omega (arith, q)
    by false q = q

-- ---- where a function stands among the items

record Place (hs : List x.Item) (js : List ItemTree) (before after : List x.Item) (f : x.Function) : Type 0 where
  front : List ItemTree
  function : FunctionTree
  back : List ItemTree
  before-is : before ≡ hs ++ map d.item front
  after-is : after ≡ map d.item back
  items-are : js ≡ front ++ i.Function function ∷ back
  function-is : f ≡ d.function function

head-is : (a e : x.Item) (xs ys : List x.Item) → a ∷ xs ≡ e ∷ ys → a ≡ e
head-is a e xs ys h = cc

tail-is : (a e : x.Item) (xs ys : List x.Item) → a ∷ xs ≡ e ∷ ys → xs ≡ ys
tail-is a e xs ys h = cc

place-in : (js : List ItemTree) (before after : List x.Item) (f : x.Function) → map d.item js ≡ before ++ x.Functions f ∷ after → Place [] js before after f
place-in [] [] after f h = absurd cc
place-in [] (e ∷ before) after f h = absurd cc
place-in (j ∷ js) [] after f h = by j (head-is (d.item j) (x.Functions f) (map d.item js) after h) (tail-is (d.item j) (x.Functions f) (map d.item js) after h)
  where
    function-is : (a : FunctionTree) → x.Functions (d.function a) ≡ x.Functions f → d.function a ≡ f
    function-is a q = cc

    by : (j : ItemTree) → d.item j ≡ x.Functions f → map d.item js ≡ after → Place [] (j ∷ js) [] after f
    by (i.Function a) q r = record { front = []; function = a; back = js; before-is = refl; after-is = sym r; items-are = refl; function-is = sym (function-is a q) }
    by (i.Port a) q r = absurd cc
    by (i.Parameter at word kind as') q r = absurd cc
    by (i.Wire at signed range as') q r = absurd cc
    by (i.Reg at signed range as') q r = absurd cc
    by (i.Integer at as') q r = absurd cc
    by (i.Assign at as') q r = absurd cc
    by (i.Initial at a) q r = absurd cc
    by (i.Always at trigger a) q r = absurd cc
    by (i.Instance a) q r = absurd cc
place-in (j ∷ js) (e ∷ before) after f h =
    let r = place-in js before after f (tail-is (d.item j) e (map d.item js) (before ++ x.Functions f ∷ after) h) in
    record {
      front = j ∷ r.front;
      function = r.function;
      back = r.back;
      before-is = ap (λ z. z ∷ before) (sym (head-is (d.item j) e (map d.item js) (before ++ x.Functions f ∷ after) h)) ∙ ap (λ z. d.item j ∷ z) r.before-is;
      after-is = r.after-is;
      items-are = ap (λ z. j ∷ z) r.items-are;
      function-is = r.function-is;
    }

-- none of these is a function
NoFunctions : List x.Item → Type 0
NoFunctions hs = (f : x.Function) → In (x.Functions f) hs → ⊥

place-behind : (hs : List x.Item) (js : List ItemTree) (before after : List x.Item) (f : x.Function) → NoFunctions hs → hs ++ map d.item js ≡ before ++ x.Functions f ∷ after → Place hs js before after f
unfolding NoFunctions
place-behind [] js before after f free h = place-in js before after f h
place-behind (a ∷ hs) js [] after f free h = absurd (free f (inl (head-is a (x.Functions f) (hs ++ map d.item js) after h)))
place-behind (a ∷ hs) js (e ∷ before) after f free h =
    let r = place-behind hs js before after f (λ g q. free g (inr q)) (tail-is a e (hs ++ map d.item js) (before ++ x.Functions f ∷ after) h) in
    record {
      front = r.front;
      function = r.function;
      back = r.back;
      before-is = ap (λ z. z ∷ before) (sym (head-is a e (hs ++ map d.item js) (before ++ x.Functions f ∷ after) h)) ∙ ap (λ z. a ∷ z) r.before-is;
      after-is = r.after-is;
      items-are = r.items-are;
      function-is = r.function-is;
    }

header-functions : (m : ModuleTree) → NoFunctions (header_items m)
unfolding NoFunctions
header-functions m f h = ⊎_elim (parameters m.parameters) (ports m.ports) (In-append_cases (x.Functions f) (option_map_or (map d.header_parameters) m.parameters []) (d.header_ports m.ports) h)
  where
    no-group : (g : ParameterGroup) → d.header_parameters g ≡ x.Functions f → ⊥
    no-group g q = cc

    no-port : (a : PortDeclaration) → x.Signals (d.ports_in a) ≡ x.Functions f → ⊥
    no-port a q = cc

    parameters : (o : Option (List ParameterGroup)) → In (x.Functions f) (option_map_or (map d.header_parameters) o []) → ⊥
    parameters None q = q
    parameters (Some gs) q = let r = In-map_cases d.header_parameters (x.Functions f) gs q in no-group r.0 r.2

    ports : (o : Option Ports) → In (x.Functions f) (d.header_ports o) → ⊥
    ports None q = q
    ports (Some ps.Empty) q = q
    ports (Some (ps.Names names)) q = q
    ports (Some (ps.Declarations as')) q = let r = In-map_cases (λ (a : PortDeclaration). x.Signals (d.ports_in a)) (x.Functions f) as' q in no-port r.0 r.2

-- a function of a module's items is one of its tree's
pub function-tree : (m : ModuleTree) (f : x.Function) → In (x.Functions f) (d.module' m).items → (a : FunctionTree) × (f ≡ d.function a)
function-tree m f h =
    let r = In-split (x.Functions f) (d.module' m).items h in
    let place = place-behind (header_items m) m.items r.0 r.1 f (header-functions m) (sym (items-are m) ∙ r.2) in
    (place.function, place.function-is)

-- ---- what stands before

ordered-across : {A : Type 0} (xs ys : List A) (y z : A) → In y xs → In z ys → Ordered (xs ++ ys) y z
ordered-across xs ys y z h k =
    let r = In-split z ys k in
    record { before = xs ++ r.0; after = r.1; is = ap (λ w. xs ++ w) r.2 ∙ sym (append_assoc xs r.0 (z ∷ r.1)); earlier = In-append_left y xs r.0 h }

-- ---- what a function declares

variables-from : {A : Type 0} (f : A → s.Declared) (xs : List A) (a : s.Declared) → ((y : A) → (f y).kind.class ≡ c.Variable) → In a (map f xs) → a.kind.class ≡ c.Variable
variables-from f xs a h k = let r = In-map_cases f a xs k in ap (λ (z : s.Declared). z.kind.class) (sym r.2) ∙ h r.0

input-variables : (p : FunctionPort) (a : s.Declared) → In a (s.input_declarations p) → a.kind.class ≡ c.Variable
input-variables p a h = variables-from (s.declared c.Variable (s.is_vector p.kind)) p.names a (λ y. refl) h

body-variables : (p : FunctionDeclaration) (a : s.Declared) → In a (s.body_declarations p) → a.kind.class ≡ c.Variable
body-variables (fd.Input p) a h = input-variables p a h
body-variables (fd.Reg at signed range names) a h = variables-from (s.declared c.Variable (is_some range)) names a (λ y. refl) h
body-variables (fd.Integer at names) a h = variables-from (s.declared c.Variable true) names a (λ y. refl) h

all-variables : (f : FunctionTree) (a : s.Declared) → In a (s.function_declarations f) → a.kind.class ≡ c.Variable
all-variables f a (inl h) = ap (λ (z : s.Declared). z.kind.class) (sym h)
all-variables f a (inr h) =
    ⊎_elim (ports f.ports) (λ q. let r = In-flat_map_cases s.body_declarations a f.declarations q in body-variables r.0 a r.2)
    (In-append_cases a (option_map_or (flat_map s.input_declarations) f.ports []) (flat_map s.body_declarations f.declarations) h)
  where
    ports : (o : Option (List FunctionPort)) → In a (option_map_or (flat_map s.input_declarations) o []) → a.kind.class ≡ c.Variable
    ports None q = absurd q
    ports (Some ps) q = let r = In-flat_map_cases s.input_declarations a ps q in input-variables r.0 a r.2

-- ---- the parts of a function

item-sites : (n : ℕ) (front back : List ItemTree) (j : ItemTree) (a : u.Site) → In a (u.item_sites (n + u.items_parameters front) j) → In a (u.items_sites n (front ++ j ∷ back))
unfolding items_sites
item-sites n [] back j a h =
    let same : n + u.items_parameters [] ≡ n = omega arith in
    In-append_left a (u.item_sites n j) (u.items_sites (n + u.item_parameters j) back) (subst (λ z. In a (u.item_sites z j)) same h)
item-sites n (e ∷ front) back j a h =
    let same : n + u.items_parameters (e ∷ front) ≡ (n + u.item_parameters e) + u.items_parameters front = omega (arith, sum_by-cons u.item_parameters e front) in
    In-append_right a (u.item_sites n e) (u.items_sites (n + u.item_parameters e) (front ++ j ∷ back))
    (item-sites (n + u.item_parameters e) front back j a (subst (λ z. In a (u.item_sites z j)) same h))

-- a part of a function's type is a part of the module
type-sites : (m : ModuleTree) (front back : List ItemTree) (f : FunctionTree) → m.items ≡ front ++ i.Function f ∷ back → (a : u.Node)
    → In a (u.type_nodes (behind (u.header_parameters m.parameters + u.items_parameters front)) f.kind) → In (u.site (Some f) a) (u.sites m)
type-sites m front back f is a h =
    let n = u.header_parameters m.parameters + u.items_parameters front in
    In-append_right (u.site (Some f) a) (map (u.site None) (u.header_nodes m)) (u.items_sites (u.header_parameters m.parameters) m.items)
    (subst (λ z. In (u.site (Some f) a) (u.items_sites (u.header_parameters m.parameters) z)) (sym is)
    (item-sites (u.header_parameters m.parameters) front back (i.Function f) (u.site (Some f) a)
    (In-map (u.site (Some f)) a (u.function_nodes (behind n) f)
    (In-append_left a ((u.type_nodes (behind n) f.kind ++ u.given (u.inputs_nodes (behind n)) f.ports) ++ flat_map (u.function_declaration_nodes (behind n)) f.declarations) (u.statement_nodes (behind n) f.statement)
    (In-append_left a (u.type_nodes (behind n) f.kind ++ u.given (u.inputs_nodes (behind n)) f.ports) (flat_map (u.function_declaration_nodes (behind n)) f.declarations)
    (In-append_left a (u.type_nodes (behind n) f.kind) (u.given (u.inputs_nodes (behind n)) f.ports) h))))))

-- ---- what a function's type reads

module _ (src : Source) (fine : (f : Fault) → IsDeclarationFault src f → ⊥) (used : (f : Fault) → IsUseFault src f → ⊥) (m : ModuleTree) (within : In m src.modules) (sizes : List ℕ → Counts) (g : Given) where
  abbrev X : x.Module
  X = d.module' m

  abbrev start : Known
  start = record { env = none; next = g.base }

  module _ (before after : List x.Item) (f : x.Function) (is : X.items ≡ before ++ x.Functions f ∷ after) where
    abbrev there : Env
    there = (fold (with_item sizes g X) start before).env

    abbrev whole : Env
    whole = environment sizes g X

    names-are : names_of X.items ≡ names_of before ++ names_of (x.Functions f ∷ after)
    names-are = ap names_of is ∙ flat_map-append names_in before (x.Functions f ∷ after)

    -- a parameter that is declared before stands for the same
    parameter-stays : (n : Identifier) → In (P n) (names_of before) → there n.name ≡ whole n.name
    parameter-stays n h =
        sym (ap (λ (z : List x.Item). (fold (with_item sizes g X) start z).env n.name) is
        ∙ (ap (λ (z : Known). z.env n.name) (fold-append (with_item sizes g X) start before (x.Functions f ∷ after))
        ∙ items-stay sizes g X (x.Functions f ∷ after) (fold (with_item sizes g X) start before) n.name
        (λ z q e. not-ordered src fine m within (P n) z (sym e) (no-signal-apart (P n) z tt)
        (subst (λ w. Ordered w (P n) z) (sym names-are) (ordered-across (names_of before) (names_of (x.Functions f ∷ after)) (P n) z h q)))))

    place : Place (header_items m) m.items before after f
    place = place-behind (header_items m) m.items before after f (header-functions m) (sym (items-are m) ∙ is)

    count : ℕ
    count = u.header_parameters m.parameters + u.items_parameters place.front

    abbrev first : List s.Declared
    first = header_declared m ++ flat_map s.item_declarations place.front

    abbrev second : List s.Declared
    second = flat_map s.item_declarations (i.Function place.function ∷ place.back)

    declared-parts : s.declarations m ≡ s.numbered 0 first ++ s.numbered (0 + params first) second
    declared-parts =
        ap (s.numbered 0) (declared-are m
        ∙ (ap (λ z. header_declared m ++ flat_map s.item_declarations z) place.items-are
        ∙ (ap (λ z. header_declared m ++ z) (flat_map-append s.item_declarations place.front (i.Function place.function ∷ place.back))
        ∙ sym (append_assoc (header_declared m) (flat_map s.item_declarations place.front) second))))
        ∙ numbered-append 0 first second

    before-said : Pairs Said (names_of before) (s.numbered 0 first)
    before-said =
        all-numbered (names_of before) first 0
        (subst (λ z. Pairs Said z first) (sym (ap names_of place.before-is ∙ flat_map-append names_in (header_items m) (map d.item place.front)))
        (pairs-append Said (names_of (header_items m)) (header_declared m) (names_of (map d.item place.front)) (flat_map s.item_declarations place.front)
        (header-all m) (items-said place.front)))

    name-stays : (nm : Name) (a : s.Declared) (k : ℕ) → In nm (names_of before) → Said nm a → a.kind.class ≡ c.Parameter k → there a.name.name ≡ whole a.name.name
    name-stays (P n) a k h q e = subst (λ (z : Identifier). there z.name ≡ whole z.name) (sym q.name) (parameter-stays n h)
    name-stays (S n) a k h q e = absurd (true≢false (sym (ap is_no_port e) ∙ q.port))
    name-stays (F n) a k h q e = absurd (true≢false (sym (ap s.is_parameter e) ∙ ap s.is_parameter (q.class 0)))
    name-stays (I n) a k h q e = absurd (true≢false (sym (ap s.is_parameter e) ∙ ap s.is_parameter q.class))

    earlier-stays : (t : List ℕ) (kind : Kind) (k : ℕ) → s.kind_in (s.declarations m) t ≡ Some kind → kind.class ≡ c.Parameter k → k < count → there t ≡ whole t
    unfolding count
    earlier-stays t kind k h e l =
        let r = class-of (s.declarations m) t kind h in
        let is-parameter : r.said.kind.class ≡ c.Parameter k = r.class-is ∙ e in
        subst (λ z. there z ≡ whole z) r.spelt
        (⊎_elim
        (λ q. let nm = pairs-back Said (names_of before) (s.numbered 0 first) r.said before-said q in name-stays nm.0 r.said k nm.1 nm.2 is-parameter)
        (λ q. absurd (let least = number-least (0 + params first) second r.said k q is-parameter in omega (arith, least, l, params-before m place.front)))
        (In-append_cases r.said (s.numbered 0 first) (s.numbered (0 + params first) second) (subst (In r.said) declared-parts r.within)))

    -- a name that a function's type reads is a parameter's, declared before
    read-stays : (a : n.Name) → In (u.node (constantly (behind count)) (u.value a)) (u.type_nodes (behind count) place.function.kind) → there (n.out-Name a).identifier.name ≡ whole (n.out-Name a).identifier.name
    unfolding count
    read-stays a h = by (s.kind_in (s.function_declarations place.function) t) (s.kind_in (s.declarations m) t) refl refl known constant
      where
        t : List ℕ
        t = (n.out-Name a).identifier.name

        at : u.Site
        at = u.site (Some place.function) (u.node (constantly (behind count)) (u.value a))

        among : In at (u.sites m)
        among = type-sites m place.front place.back place.function place.items-are (u.node (constantly (behind count)) (u.value a)) h

        known : is_unknown count (s.kind_within (s.declarations m) (s.function_declarations place.function) t) ≡ true → ⊥
        known q = used _ (undeclared m at within among q)

        constant : is_varying (s.kind_within (s.declarations m) (s.function_declarations place.function) t) (n.out-Name a).selects ≡ true → ⊥
        constant q = used _ (varying m at within among refl q)

        or-true : (q r : Bool) → r ≡ true → (q || r) ≡ true
        or-true true r e = refl
        or-true false r e = e

        varies : (o : Option Kind) (class : Class) → (kind : Kind) → o ≡ Some kind → kind.class ≡ class → s.is_parameter class ≡ false → (is_varying o (n.out-Name a).selects ≡ true → ⊥) → ⊥
        varies o class kind e q r never =
            never (ap (λ z. is_varying z (n.out-Name a).selects) e ∙ or-true (is_selected (n.out-Name a).selects) (not (s.is_parameter kind.class)) (ap (λ z. not (s.is_parameter z)) q ∙ ap not r))

        later : (k : ℕ) → (not (nat_lt k count) ≡ true → ⊥) → k < count
        later k never = by (nat_lt k count) refl never
          where
            by : (q : Bool) → nat_lt k count ≡ q → (not q ≡ true → ⊥) → k < count
            by true e never = grind (arith, nat_tests)
            by false e never = absurd (never refl)

        class-cases : (kind : Kind) (class : Class) → s.kind_in (s.declarations m) t ≡ Some kind → kind.class ≡ class
            → (is_unknown count (Some kind) ≡ true → ⊥) → (is_varying (Some kind) (n.out-Name a).selects ≡ true → ⊥) → there t ≡ whole t
        class-cases kind (c.Parameter k) e q is-known is-constant = earlier-stays t kind k e q (later k (λ r. is-known (ap (is_later count) q ∙ r)))
        class-cases kind (c.Function k) e q is-known is-constant = absurd (varies (Some kind) (c.Function k) kind refl q refl is-constant)
        class-cases kind c.Instance e q is-known is-constant = absurd (varies (Some kind) c.Instance kind refl q refl is-constant)
        class-cases kind c.Port e q is-known is-constant = absurd (varies (Some kind) c.Port kind refl q refl is-constant)
        class-cases kind c.Net e q is-known is-constant = absurd (varies (Some kind) c.Net kind refl q refl is-constant)
        class-cases kind c.Variable e q is-known is-constant = absurd (varies (Some kind) c.Variable kind refl q refl is-constant)
        class-cases kind c.Memory e q is-known is-constant = absurd (varies (Some kind) c.Memory kind refl q refl is-constant)

        by : (inner outer : Option Kind) → s.kind_in (s.function_declarations place.function) t ≡ inner → s.kind_in (s.declarations m) t ≡ outer
            → (is_unknown count (option_or inner outer) ≡ true → ⊥) → (is_varying (option_or inner outer) (n.out-Name a).selects ≡ true → ⊥) → there t ≡ whole t
        by (Some kind) outer e q is-known is-constant =
            let r = class-of (s.function_declarations place.function) t kind e in
            absurd (varies (Some kind) c.Variable kind refl (sym r.class-is ∙ all-variables place.function r.said r.within) refl is-constant)
        by None None e q is-known is-constant = absurd (is-known refl)
        by None (Some kind) e q is-known is-constant = class-cases kind kind.class q refl is-known is-constant

    range-reads : (r : Range) → ((a : u.Node) → In a (u.range_nodes (behind count) r) → In a (u.type_nodes (behind count) place.function.kind))
        → Reads (λ t. there t ≡ whole t) (d.bounds r).left × Reads (λ t. there t ≡ whole t) (d.bounds r).right
    range-reads r inside =
        let k = constantly (behind count) in
        let left = u.expression_nodes k r.left in
        let right = u.expression_nodes k r.right in (
          expression-reads (λ t. there t ≡ whole t) k r.left (λ a q. read-stays a (inside (u.node k (u.value a)) (In-append_left (u.node k (u.value a)) left right q))),
          expression-reads (λ t. there t ≡ whole t) k r.right (λ a q. read-stays a (inside (u.node k (u.value a)) (In-append_right (u.node k (u.value a)) left right q))),
        )

    kind-reads : (kind : ParameterType) → ((a : u.Node) → In a (u.type_nodes (behind count) kind) → In a (u.type_nodes (behind count) place.function.kind))
        → ReadsType there whole (d.type kind)
    kind-reads pt.Integer inside = tt
    kind-reads (pt.Vector signed None) inside = tt
    kind-reads (pt.Vector signed (Some r)) inside = range-reads r inside

    -- the type of a function is the same in the whole
    pub function-form : type_form there f.type ≡ type_form whole f.type
    function-form =
        subst (λ (z : x.Function). type_form there z.type ≡ type_form whole z.type) (sym place.function-is)
        (type-alike there whole (d.type place.function.kind) (kind-reads place.function.kind (λ a q. q)))
