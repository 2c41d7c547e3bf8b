-- What names mean in a module and in a function of one, and what they are there.
use Rattle.std.proofs.Common.{◌≡◌, ℕ, Bool, true, false, true≢false, if◌then◌else◌, List, [], ◌∷◌, ◌++◌, map, Option, Some, None, ⊎_elim, inl, inr, refl, sym, ap, ◌∙◌}
use Rattle.std.specs.Prelude.{⊤, ◌||◌, is_some, drop, flat_map, fold}
use Rattle.std.specs.List.{list_any}
use Rattle.std.specs.Option.{option_or, option_map_or}
use Rattle.std.specs.Str.{bytes_eq}
use Rattle.std.proofs.lemmas.List.Folds.{list_any-append}
use Rattle.vl_flat.specs.vl_tree.specs.declared.tree.Identifier.{Identifier}
use Rattle.vl_flat.specs.vl_tree.specs.declared.source_tree.Function.{Function as FunctionTree}
use Rattle.vl_flat.specs.vl_tree.specs.declared.source_tree.FunctionPort.{FunctionPort}
use Rattle.vl_flat.specs.vl_tree.specs.declared.source_tree.FunctionDeclaration.{FunctionDeclaration}
use Rattle.vl_flat.specs.vl_tree.specs.declared.source_tree.FunctionDeclaration.TheVariants as fd
use Rattle.vl_names.specs.vl_scope.specs.declared.kind.Class.{Class}
use Rattle.vl_names.specs.vl_scope.specs.declared.kind.Class.TheVariants as c
use Rattle.vl_names.specs.vl_scope.specs.declared.kind.Kind.{Kind}
use Rattle.vl_names.specs.vl_scope.specs.Faults.{In}
use Rattle.vl_names.specs.vl_scope.specs.Declarations.{Declared, declared, function_declarations, input_declarations, body_declarations, is_parameter, adds_to, joined, joined_class, with_declaration, kind_after, kind_in}
use Rattle.vl_names.specs.vl_scope.proofs.Members.{In-append_cases, In-flat_map_cases, In-map_cases}
use Rattle.vl_names.specs.vl_scope.proofs.Meanings.{kind_in-some}
use Rattle.vl_names.specs.vl_uses.specs.UseFaults.{meanings}
use Rattle.vl_flat.specs.Items.{Local, DataType}
use Rattle.vl_flat.specs.Declarations.{function, local, inputs_in, locals_in}
use Rattle.vl_sound.specs.Used.{classes, class_in, declares, within}
use Rattle.vl_sound.proofs.Loading.{some-same}
use Rattle.vl_sound.proofs.Fitting.{class_of, Means, MeansParameters}

-- outside functions
pub module-means : (ds : List Declared) → Means (meanings ds []) (classes ds)
module-means ds = record { read = λ t. refl; called = λ t. refl }

-- ---- what a function declares are variables

abbrev AreVariables : List Declared → Type 0
AreVariables ds = (d : Declared) → In d ds → d.kind.class ≡ c.Variable

map-variables : (vector : Bool) (ns : List Identifier) → AreVariables (map (declared c.Variable vector) ns)
map-variables vector ns d h =
    let r = In-map_cases (declared c.Variable vector) d ns h in
    ap (λ (z : Declared). z.kind.class) (sym r.2)

body-variables : (a : FunctionDeclaration) → AreVariables (body_declarations a)
body-variables (fd.Input a) = map-variables _ a.names
body-variables (fd.Reg at signed range names) = map-variables _ names
body-variables (fd.Integer at names) = map-variables true names

flat-variables : {A : Type 0} (F : A → List Declared) → ((a : A) → AreVariables (F a)) → (as' : List A) → AreVariables (flat_map F as')
flat-variables F each as' d h = let r = In-flat_map_cases F d as' h in each r.0 d r.2

port-variables : (o : Option (List FunctionPort)) → AreVariables (option_map_or (flat_map input_declarations) o [])
port-variables None d h = absurd h
port-variables (Some ports) d h = flat-variables input_declarations (λ a. map-variables _ a.names) ports d h

other-variables : (a : FunctionTree) → AreVariables (drop 1 (function_declarations a))
other-variables a d h =
    let ports = option_map_or (flat_map input_declarations) a.ports [] in
    ⊎_elim (λ q. port-variables a.ports d q) (λ q. flat-variables body_declarations body-variables a.declarations d q) (In-append_cases d ports (flat_map body_declarations a.declarations) h)

all-variables : (a : FunctionTree) → AreVariables (function_declarations a)
all-variables a d (inl h) = ap (λ (z : Declared). z.kind.class) (sym h)
all-variables a d (inr h) = other-variables a d h

abbrev IsVariable : Option Kind → Type 0
IsVariable None = ⊤
IsVariable (Some kind) = kind.class ≡ c.Variable

with-variable : (known : Option Kind) (a : Declared) → a.kind.class ≡ c.Variable → IsVariable known → IsVariable (with_declaration known a)
with-variable None a e v = e
with-variable (Some kind) a e v = by (adds_to kind.class a)
  where
    by : (t : Bool) → IsVariable (Some (if t then joined kind a.kind else kind))
    by true = ap (λ z. joined_class z a.kind.class) v
    by false = v

fold-variable : (t : List ℕ) (known : Option Kind) (ds : List Declared) → AreVariables ds → IsVariable known → IsVariable (fold (kind_after t) known ds)
fold-variable t known [] each v = v
fold-variable t known (a ∷ ds) each v = fold-variable t (kind_after t known a) ds (λ d h. each d (inr h)) (by (bytes_eq t a.name.name))
  where
    by : (b : Bool) → IsVariable (if b then with_declaration known a else known)
    by true = with-variable known a (each a (inl refl)) v
    by false = v

-- ---- locals have the names of a function's declarations

abbrev has : List ℕ → List Declared → Bool
has t ds = list_any (λ d. bytes_eq t d.name.name) ds

module _ (t : List ℕ) where
  -- these locals have the names of these declarations
  abbrev Alike : List Local → List Declared → Type 0
  Alike ls ds = declares ls t ≡ has t ds

  append-alike : (xs ys : List Local) (ds es : List Declared) → Alike xs ds → Alike ys es → Alike (xs ++ ys) (ds ++ es)
  append-alike xs ys ds es e g =
      list_any-append (λ (l : Local). bytes_eq t l.name.name) xs ys
      ∙ (ap (λ b. b || declares ys t) e ∙ (ap (λ b. has t ds || b) g ∙ sym (list_any-append (λ (d : Declared). bytes_eq t d.name.name) ds es)))

  map-alike : (is_input is_free : Bool) (type : DataType) (vector : Bool) (ns : List Identifier) → Alike (map (local is_input is_free type) ns) (map (declared c.Variable vector) ns)
  map-alike is_input is_free type vector [] = refl
  map-alike is_input is_free type vector (n ∷ ns) = ap (λ b. bytes_eq t n.name || b) (map-alike is_input is_free type vector ns)

  flat-alike : {A : Type 0} (F : A → List Local) (G : A → List Declared) → ((a : A) → Alike (F a) (G a)) → (as' : List A) → Alike (flat_map F as') (flat_map G as')
  flat-alike F G each [] = refl
  flat-alike F G each (a ∷ as') = append-alike (F a) (flat_map F as') (G a) (flat_map G as') (each a) (flat-alike F G each as')

  inputs-alike : (a : FunctionPort) → Alike (inputs_in a) (input_declarations a)
  inputs-alike a = map-alike true false _ _ a.names

  body-alike : (a : FunctionDeclaration) → Alike (locals_in a) (body_declarations a)
  body-alike (fd.Input a) = inputs-alike a
  body-alike (fd.Reg at signed range names) = map-alike false true _ _ names
  body-alike (fd.Integer at names) = map-alike false true _ _ names

  ports-alike : (o : Option (List FunctionPort)) → Alike (option_map_or (flat_map inputs_in) o []) (option_map_or (flat_map input_declarations) o [])
  ports-alike None = refl
  ports-alike (Some ports) = flat-alike inputs_in input_declarations inputs-alike ports

  others-alike : (a : FunctionTree) → Alike (drop 1 (function a).locals) (drop 1 (function_declarations a))
  others-alike a =
      append-alike (option_map_or (flat_map inputs_in) a.ports []) (flat_map locals_in a.declarations) (option_map_or (flat_map input_declarations) a.ports []) (flat_map body_declarations a.declarations)
      (ports-alike a.ports) (flat-alike locals_in body_declarations body-alike a.declarations)

  locals-alike : (a : FunctionTree) → Alike (function a).locals (function_declarations a)
  locals-alike a = ap (λ b. bytes_eq t a.name.name || b) (others-alike a)

-- ---- names in a function

-- a name is a variable where the function declares it, and else what it is in the module
inside : (outer inner : List Declared) (t : List ℕ) (b : Bool) → AreVariables inner → b ≡ has t inner
    → class_of (option_or (kind_in inner t) (kind_in outer t)) ≡ (if b then Some c.Variable else class_in outer t)
inside outer inner t b each e = by (kind_in inner t) b (fold-variable t None inner each tt) (e ∙ sym (kind_in-some inner t))
  where
    by : (o : Option Kind) (b : Bool) → IsVariable o → b ≡ is_some o → class_of (option_or o (kind_in outer t)) ≡ (if b then Some c.Variable else class_in outer t)
    by None true v g = absurd (true≢false g)
    by None false v g = refl
    by (Some kind) true v g = ap (λ z. Some z) v
    by (Some kind) false v g = absurd (true≢false (sym g))

pub function-means : (outer : List Declared) (a : FunctionTree) → Means (meanings outer (function_declarations a)) (within (classes outer) (function a))
function-means outer a = record {
  read = λ t. inside outer (function_declarations a) t (declares (function a).locals t) (all-variables a) (locals-alike t a);
  called = λ t. inside outer (drop 1 (function_declarations a)) t (declares (drop 1 (function a).locals) t) (other-variables a) (others-alike t a);
}

-- a parameter is the module's
pub function-parameters : (outer : List Declared) (a : FunctionTree) → MeansParameters (meanings outer (function_declarations a)) (classes outer)
function-parameters outer a = record { read = λ t class e h. by (kind_in (function_declarations a) t) t class (fold-variable t None (function_declarations a) (all-variables a) tt) e h }
  where
    by : (o : Option Kind) (t : List ℕ) (class : Class) → IsVariable o → class_of (option_or o (kind_in outer t)) ≡ Some class → is_parameter class ≡ true → class_in outer t ≡ Some class
    by None t class v e h = e
    by (Some kind) t class v e h = absurd (true≢false (sym h ∙ ap is_parameter (sym (some-same kind.class class e) ∙ v)))
