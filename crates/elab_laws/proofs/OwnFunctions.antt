-- The functions of a flat design keep to their own: none asks for the time.
use Rattle.std.proofs.Common.{◌≡◌, ℕ, suc, ◌+◌, ◌≤◌, Bool, true, false, if◌then◌else◌, List, [], ◌∷◌, ◌++◌, length, map, Some, Ok, refl, sym, ap, ◌∙◌, subst, arith}
use Rattle.std.specs.Prelude.{⊤, ◌&&◌, not, flat_map, All}
use Rattle.std.proofs.lemmas.List.Elements.{All-nil, All-cons}
use Rattle.vl_sound.specs.vl_tree.specs.declared.source_tree.Source.{Source}
use Rattle.vl_sound.specs.vl_tree.specs.declared.source_tree.Module.{Module as ModuleTree}
use Rattle.vl_sound.specs.vl_tree.specs.declared.source_tree.Item.{Item as ItemTree}
use Rattle.vl_sound.specs.vl_tree.specs.declared.source_tree.Item.TheVariants as it
use Rattle.vl_sound.specs.vl_tree.specs.declared.source_tree.Function.{Function as FunctionTree}
use Rattle.vl_sound.specs.vl_tree.specs.Hierarchy.{graph_of, first_top}
use Rattle.vl_sound.specs.vl_scope.specs.declared.fault.Fault.{Fault}
use Rattle.vl_sound.specs.vl_scope.specs.Faults.{In}
use Rattle.vl_sound.specs.vl_scope.specs.Declarations.{Declared, declarations, function_declarations}
use Rattle.vl_sound.specs.vl_scope.specs.DeclarationFaults.{IsDeclarationFault}
use Rattle.vl_sound.specs.vl_uses.specs.Settings.{behind}
use Rattle.vl_sound.specs.vl_uses.specs.Nodes as n
use Rattle.vl_sound.specs.vl_uses.specs.UseFaults.{IsUseFault, meanings}
use Rattle.ten_plan.specs.vl_design.specs.declared.design.Signal.{Signal}
use Rattle.ten_plan.specs.vl_design.specs.declared.design.SigKind.TheVariants.{Var, Loop}
use Rattle.ten_plan.specs.vl_design.specs.Placed as p
use Rattle.ten_plan.specs.vl_design.specs.Sound.{HasValue}
use Rattle.vl_accept.specs.vl_sites.specs.Own.{IsOwn, HasOwnFunctions}
use Rattle.vl_sound.specs.vl_flat.specs.Items as i
use Rattle.vl_sound.specs.vl_flat.specs.Declarations as d
use Rattle.vl_sound.specs.vl_flat.specs.Declarations.{module', modules}
use Rattle.vl_sound.specs.vl_flat.specs.Scopes.{Env}
use Rattle.vl_sound.specs.vl_flat.specs.Uses.{controls, strays}
use Rattle.vl_sound.specs.vl_flat.specs.Environments.{Given, size, environment}
use Rattle.vl_sound.specs.vl_flat.specs.Functions.{local_shape, function_scope, dotted, signal, input_numbers, function}
use Rattle.vl_sound.specs.vl_flat.specs.Processes.{Here, functions}
use Rattle.vl_sound.specs.vl_flat.specs.Flat as f
use Rattle.vl_sound.specs.vl_flat.specs.Outcome.{flattened}
use Rattle.vl_sound.specs.Used.{Classes, classes, within}
use Rattle.vl_sound.specs.Apart.{AreApart}
use Rattle.vl_sound.specs.Instances.{IsInstance, here_of}
use Rattle.vl_sound.proofs.ExpressionsOfNamed.{Every, rights-so}
use Rattle.vl_sound.proofs.Fitting.{IsFine}
use Rattle.vl_sound.proofs.Meanings.{function-means}
use Rattle.vl_sound.proofs.Lists.{told-at}
use Rattle.vl_sound.proofs.DeclaredOfLaws.{all-apart}
use Rattle.vl_sound.proofs.Numbers.{body-adds, instance-adds}
use Rattle.elab_laws.proofs.Leaves.{IsBody}
use Rattle.elab_laws.proofs.Statements.{statement-so}
use Rattle.elab_laws.proofs.Bodies.{statement-quiet}
use Rattle.elab_laws.proofs.Modules.{AreFine, inside, source-items}
use Rattle.elab_laws.proofs.Variables.{at-in}
use Rattle.elab_laws.proofs.Parts.{Needs}
use Rattle.elab_laws.proofs.Connections.{input-done, output-done}
use Rattle.elab_laws.proofs.Whole.{with-top, design, at-instances, all-functions}

-- ---- bodies

-- the body of a function, where the names of its module are these
abbrev HasBody : Classes → i.Item → Type 0
HasBody k (i.Functions a) = IsBody (within k a) false a.body
HasBody k item = ⊤

module _ (ds : List Declared) where
  function-body : (count : ℕ) (a : FunctionTree) → Every (IsFine (meanings ds (function_declarations a))) (n.function_nodes (behind count) a) → IsBody (within (classes ds) (d.function a)) false (d.function a).body
  function-body count a w =
      let m = meanings ds (function_declarations a) in
      let st = behind count in
      let as' = n.type_nodes st a.kind in
      let bs = n.given (n.inputs_nodes st) a.ports in
      let cs = flat_map (n.function_declaration_nodes st) a.declarations in
      statement-so m (within (classes ds) (d.function a)) (function-means ds a) st a.statement (rights-so (IsFine m) (as' ++ bs ++ cs) (n.statement_nodes st a.statement) w)

  item-body : (count : ℕ) (a : ItemTree) → AreFine ds (n.item_sites count a) → HasBody (classes ds) (d.item a)
  item-body count (it.Function a) h = function-body count a (inside ds count a h)
  item-body count a h = tt

source-bodies : (s : Source) → ((e : Fault) → IsUseFault s e → ⊥) → (m : ModuleTree) → In m s.modules → All (HasBody (classes (declarations m))) (module' m).items
source-bodies s none m there =
    source-items (HasBody (classes (declarations m))) s none m there (record { group = λ a. tt; port = λ count a w. tt; item = item-body (declarations m) })

-- ---- a function of an instance

-- inputs are numbered from the first variable's number on
inputs-behind : (count n : ℕ) → count ≤ n → (ls : List i.Local) → All (λ k. count ≤ k) (input_numbers n ls)
inputs-behind count n h [] = All-nil (λ k. count ≤ k)
inputs-behind count n h (l ∷ ls) = by l.is_input (inputs-behind count (n + 1) (omega (arith, h)) ls)
  where
    by : (b : Bool) → All (λ k. count ≤ k) (input_numbers (n + 1) ls) → All (λ k. count ≤ k) (if b then n ∷ input_numbers (n + 1) ls else input_numbers (n + 1) ls)
    by true others = All-cons (λ k. count ≤ k) n (input_numbers (n + 1) ls) h others
    by false others = others

kind-value : (b : Bool) → HasValue (if b then Loop else Var)
kind-value true = tt
kind-value false = tt

locals-valued : (env : Env) (path : List ℕ) (a : i.Function) (ls : List i.Local) → All (λ (r : Signal). HasValue r.kind) (map (λ (l : i.Local). signal path l.name (local_shape env a l)) ls)
locals-valued env path a [] = All-nil (λ (r : Signal). HasValue r.kind)
locals-valued env path a (l ∷ ls) =
    All-cons (λ (r : Signal). HasValue r.kind) (signal path l.name (local_shape env a l)) (map (λ (l : i.Local). signal path l.name (local_shape env a l)) ls)
    (kind-value (l.is_free && (controls l.name.name a.body && not (strays l.name.name a.body)))) (locals-valued env path a ls)

function-own : (k : Classes) (count : ℕ) (env : Env) (path : List ℕ) (a : i.Function) → IsBody k false a.body → IsOwn count (function count env path a)
function-own k count env path a h = record {
  inputs = inputs-behind count count (omega arith) a.locals;
  result = omega arith;
  locals = locals-valued env (dotted path a.name.name) a a.locals;
  timeless = (statement-quiet (λ j. false) false k (function_scope count env a) (λ t v. refl) [] a.body h).time refl;
}

item-own : (count : ℕ) (k : Classes) (here : Here) (y : i.Item) → here.behind ≡ count → HasBody k y → All (IsOwn count) (functions here y)
item-own count k here (i.Functions a) is h =
    All-cons (IsOwn count) (function here.behind here.env here.path a) [] (subst (λ z. IsOwn z (function here.behind here.env here.path a)) is (function-own (within k a) here.behind here.env here.path a h)) (All-nil (IsOwn count))
item-own count k here y is h = All-nil (IsOwn count)

-- ---- the design

module _ (s : Source) (fine : (e : Fault) → IsDeclarationFault s e → ⊥) (used : (e : Fault) → IsUseFault s e → ⊥) (top : i.Module) (is-top : f.top_of s ≡ Some top)
    (made : p.Design) (is-made : flattened s ≡ Ok made) where
  abbrev ms : List i.Module
  ms = modules s

  abbrev count : ℕ
  count = length made.signals

  as-many : (f.whole ms top).signals ≡ count
  as-many =
      let apart = all-apart s fine in
      let own = told-at AreApart ms (first_top (graph_of s)) top apart is-top in
      let body = body-adds f.deepest ms (f.whole ms top).signals (f.top_given top) top own (instance-adds f.deepest ms apart) in
      sym (ap (λ (z : p.Design). length z.signals) (sym (design s top is-top made is-made)) ∙ (ap (length {A = Signal}) body.emits ∙ body.count))

  -- the functions of an instance's module have such bodies
  record IsHome (n : ℕ) (g : Given) (m : i.Module) : Type 0 where
    k : Classes
    bodies : All (HasBody k) m.items

  homes : (n : ℕ) (g : Given) (m : i.Module) → IsInstance ms top n g m → IsHome n g m
  homes =
      at-instances s top is-top made is-made IsHome
      (λ n g tree inside h. record { k = classes (declarations tree); bodies = source-bodies s used tree inside })

  -- the functions of a part of the flat design
  abbrev Part : f.Part → Type 0
  Part a = All (IsOwn count) a.funcs

  needs : Needs ms top Part
  needs = record {
    begins = λ above g us. All-nil (IsOwn count);
    item = λ n g m h y there next clear. let at = homes n g m h in item-own count at.k (here_of n ms top g m) y as-many (at-in (HasBody at.k) m.items y at.bodies there);
    input = λ n g m h own of within us there y unit t. input-done Part (here_of (suc n) ms top g m) (environment (size n ms) own of) of y t (λ a at is. All-nil (IsOwn count));
    output = λ n g m h own of within us there y unit t. output-done Part (here_of (suc n) ms top g m) (environment (size n ms) own of) of y t (λ a at nets. All-nil (IsOwn count));
  }

  whole-own : HasOwnFunctions made
  whole-own = record { functions = all-functions s top is-top made is-made (IsOwn count) needs }

pub source-own : (s : Source) → ((e : Fault) → IsDeclarationFault s e → ⊥) → ((e : Fault) → IsUseFault s e → ⊥) → (made : p.Design) → flattened s ≡ Ok made → HasOwnFunctions made
source-own s fine used made is = with-top (HasOwnFunctions made) s made is (λ top at. whole-own s fine used top at made is)
