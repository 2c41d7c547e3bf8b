-- Each signal of a flat design, and each variable of its functions, has 1 to 128 bits: another is a fault of its declaration.
use Rattle.std.proofs.Common.{◌≡◌, ◌+◌, ℕ, zero, suc, ◌≤◌, Bool, true, false, not, ◌&&◌, if◌then◌else◌, List, [], ◌∷◌, ◌++◌, Option, Some, None, Result, Ok, Err, refl, subst, arith, map}
use Rattle.std.specs.Prelude.{ℤ, nat_lt, fold, flat_map, All}
use Rattle.std.specs.Option.{option_map_or}
use Rattle.std.specs.Ordering.{int_eq}
use Rattle.std.proofs.lemmas.Bool.Decides.{nat_tests, Decides-int_eq}
use Rattle.std.proofs.lemmas.List.Elements.{All-nil, All-cons}
use Rattle.vl_flat.specs.vl_base.specs.declared.place.Place.{Place}
use Rattle.vl_flat.specs.vl_tree.specs.declared.source_tree.Source.{Source}
use Rattle.vl_flat.specs.vl_design.specs.declared.design.Signal.{Signal}
use Rattle.vl_flat.specs.vl_design.specs.Rows.{range_width}
use Rattle.vl_flat.specs.vl_design.specs.Sound.{IsWidth}
use Rattle.vl_flat.specs.vl_design.specs.Stops.{construct_if, is_before, earlier, earliest}
use Rattle.vl_flat.specs.vl_design.specs.declared.stop.Stop.{Stop}
use Rattle.vl_flat.specs.declared.binding.Binding.{Binding}
use Rattle.vl_flat.specs.declared.binding.Binding.TheVariants as b
use Rattle.vl_flat.specs.declared.binding.Shape.{Shape}
use Rattle.vl_flat.specs.Scopes.{Env}
use Rattle.vl_flat.specs.Items as x
use Rattle.vl_flat.specs.Surface.{Ex}
use Rattle.vl_flat.specs.Kinds.{is_input}
use Rattle.vl_flat.specs.vl_design.specs.Placed as p
use Rattle.vl_flat.specs.Ranges.{type_range, type_faults, written, too_wide, is_wide, is_signed, has_range, range_in, range_faults, bits_in}
use Rattle.vl_flat.specs.Environments.{Counts, Given, environment, module_named, size, plus}
use Rattle.vl_flat.specs.Functions.{local_shape}
use Rattle.vl_flat.specs.Statements.{statement_faults}
use Rattle.vl_flat.specs.Functions as fs
use mathlib.Core.Bool.{beq}
use Rattle.vl_flat.specs.Processes.{Here, is_first, is_clock, is_alike, signal_of, signals, functions, declared_faults, binding_faults, optional_faults}
use Rattle.vl_flat.specs.Connections.{given, port_connection, place_in, expression_of, is_clock_binding, input_process, input_faults, output_process, output_faults}
use Rattle.vl_flat.specs.Flat as f
use Rattle.vl_flat.specs.Flat.{instance}
use Rattle.vl_flat.specs.Outcome as o
use Rattle.vl_flat.specs.Outcome.{◌>>=◌}
use Rattle.vl_flat.specs.Declarations.{modules}
use Rattle.vl_flat.specs.vl_base.proofs.Booleans.{and_left as left-true, and_right as right-true}
use Rattle.vl_flat.specs.vl_base.proofs.Lists.{append_none_right as none-right, append_none_left as none-left}
use Rattle.vl_flat.specs.vl_design.proofs.Shared.{clear as none-if}

-- ---- lists

Each : {A : Type 0} → (A → Type 0) → List A → Type 0
Each P [] = Unit {0}
Each P (x ∷ xs) = P x × Each P xs

abbrev pub Fits : Signal → Type 0
Fits r = IsWidth (range_width r.left r.right)

module _ {A : Type 0} (P : A → Type 0) where
  each-append : (xs ys : List A) → Each P xs → Each P ys → Each P (xs ++ ys)
  unfolding Each
  each-append [] ys h k = k
  each-append (x ∷ xs) ys h k = (h.0, each-append xs ys h.1 k)

  each-all : (xs : List A) → Each P xs → All P xs
  unfolding Each
  each-all [] h = All-nil P
  each-all (x ∷ xs) h = All-cons P x xs h.0 (each-all xs h.1)

  each-flat_map : {B : Type 0} (g : B → List A) (ys : List B) → ((y : B) → Each P (g y)) → Each P (flat_map g ys)
  unfolding Each
  each-flat_map g [] h = tt
  each-flat_map g (y ∷ ys) h = each-append (g y) (flat_map g ys) (h y) (each-flat_map g ys h)

  each-or : {B : Type 0} (g : B → List A) (y : Option B) → ((z : B) → Each P (g z)) → Each P (option_map_or g y [])
  unfolding Each
  each-or g None h = tt
  each-or g (Some z) h = h z

  each-if : (c : Bool) (xs ys : List A) → Each P xs → Each P ys → Each P (if c then xs else ys)
  each-if true xs ys h k = h
  each-if false xs ys h k = k

-- ---- no faults

not-false : (c : Bool) → not c ≡ false → c ≡ true
not-false true e = refl
not-false false e = absurd cc

-- ---- types that aren't too wide

at-most : (n : ℕ) → nat_lt 128 n ≡ false → n ≤ 128
at-most n h = grind (arith, nat_tests)

type-width : (env : Env) (t : x.DataType) → is_wide env t ≡ false → IsWidth (bits_in (type_range env t))
type-width env t narrow = by (is_wide env t) narrow refl
  where
    by : (c : Bool) → c ≡ false → is_wide env t ≡ c → IsWidth (bits_in (if c then too_wide (written env t) else written env t))
    by true n e = absurd cc
    by false n e = record { wide = omega arith; narrow = at-most _ e }

-- a type without faults isn't
type-narrow : (env : Env) (t : x.DataType) (at : Place) → type_faults env t at ≡ [] → is_wide env t ≡ false
type-narrow env t at e = none-if (is_wide env t) at 10 (none-right (range_faults env (range_in t)) (construct_if (is_wide env t) at 10) e)

-- ---- declarations without faults

same-left : (signed ranged : Bool) (r : ℤ × ℤ) (s : Shape) → is_alike signed ranged r s ≡ true → r.0 ≡ s.left
same-left signed ranged r s e =
    (Decides-int_eq r.0 s.left).0 (left-true (int_eq r.0 s.left) (int_eq r.1 s.right)
    (right-true (beq ranged s.ranged) _ (right-true (beq signed s.signed) _ e)))

same-right : (signed ranged : Bool) (r : ℤ × ℤ) (s : Shape) → is_alike signed ranged r s ≡ true → r.1 ≡ s.right
same-right signed ranged r s e =
    (Decides-int_eq r.1 s.right).0 (right-true (int_eq r.0 s.left) (int_eq r.1 s.right)
    (right-true (beq ranged s.ranged) _ (right-true (beq signed s.signed) _ e)))

-- the signal of a declaration that is alike, and isn't too wide
named-signal : (env : Env) (path : List ℕ) (d : x.Declared) (y : Option Binding) → is_wide env d.type ≡ false → binding_faults env d y ≡ [] → Each Fits (signal_of path d.name y)
unfolding Each
named-signal env path d (Some (b.Signal k s)) narrow e =
    let r = type_range env d.type in
    let alike = not-false _ (none-if _ d.name.place 12 (none-right (construct_if (is_clock s.kind && nat_lt 1 (bits_in r)) d.name.place 12) _ e)) in
    let left = same-left (is_signed d.type) (has_range d.type) r s alike in
    let right = same-right (is_signed d.type) (has_range d.type) r s alike in
    (subst (λ z. IsWidth (range_width z s.right)) left (subst (λ z. IsWidth (range_width r.0 z)) right (type-width env d.type narrow)), tt)
named-signal env path d (Some (b.Constant c)) narrow e = tt
named-signal env path d (Some (b.Function k c)) narrow e = tt
named-signal env path d None narrow e = tt

one-signal : (env : Env) (path : List ℕ) (d : x.Declared) → declared_faults env d ≡ [] → Each Fits (signal_of path d.name (env d.name.name))
one-signal env path d e =
    let types = type_faults env d.type d.name.place in
    let words = range_faults env d.words in
    let names = binding_faults env d (env d.name.name) in
    let values = optional_faults env d.value in
    named-signal env path d (env d.name.name)
    (type-narrow env d.type d.name.place (none-left types (words ++ (names ++ values)) e))
    (none-left names values (none-right words (names ++ values) (none-right types (words ++ (names ++ values)) e)))

-- ---- parts

abbrev FitLocals : p.Func → Type 0
FitLocals c = Each Fits c.locals

-- one that has no faults has such signals and variables
record FitsPart (a : f.Part) : Type 0 where
  signals : a.faults ≡ [] → Each Fits a.signals
  locals : a.faults ≡ [] → Each FitLocals a.funcs

abbrev AllFit : List f.Part → Type 0
AllFit = Each FitsPart

-- a connection has no signals
lone : (processes : List p.Process) (faults : List Stop) → AllFit (f.connection processes faults ∷ [])
unfolding Each
lone processes faults = (record { signals = λ n. tt; locals = λ n. tt }, tt)

item-signals : (here : Here) (next : ℕ) (ds : List x.Declared) → flat_map (declared_faults here.env) ds ≡ [] → Each Fits (signals here next ds)
unfolding Each
item-signals here next [] e = tt
item-signals here next (d ∷ ds) e =
    let own = none-left (declared_faults here.env d) (flat_map (declared_faults here.env) ds) e in
    let others = none-right (declared_faults here.env d) (flat_map (declared_faults here.env) ds) e in
    each-if Fits (is_first here.env next d) (signal_of here.path d.name (here.env d.name.name) ++ signals here (next + 1) ds) (signals here next ds)
    (each-append Fits (signal_of here.path d.name (here.env d.name.name)) (signals here (next + 1) ds) (one-signal here.env here.path d own) (item-signals here (next + 1) ds others))
    (item-signals here next ds others)

local-signals : (env : Env) (path : List ℕ) (a : x.Function) (ls : List x.Local) → flat_map (λ l. type_faults env l.type l.name.place) ls ≡ []
    → Each Fits (map (λ l. fs.signal path l.name (local_shape env a l)) ls)
unfolding Each
local-signals env path a [] e = tt
local-signals env path a (l ∷ ls) e =
    let own = none-left (type_faults env l.type l.name.place) (flat_map (λ k. type_faults env k.type k.name.place) ls) e in
    let others = none-right (type_faults env l.type l.name.place) (flat_map (λ k. type_faults env k.type k.name.place) ls) e in
    (type-width env l.type (type-narrow env l.type l.name.place own), local-signals env path a ls others)

function-locals : (here : Here) (a : x.Function) → fs.function_faults here.behind here.env a ≡ [] → Each FitLocals (functions here (x.Functions a))
unfolding Each
function-locals here a e =
    (local-signals here.env _ a a.locals (none-left (flat_map (λ l. type_faults here.env l.type l.name.place) a.locals) (statement_faults (fs.function_scope here.behind here.env a) a.body) e), tt)

item-fits : (here : Here) (g : Given) (next : ℕ) (item : x.Item) → FitsPart (f.item_part here g next item)
unfolding Each
item-fits here g next (x.Signals ds) = record { signals = λ n. item-signals here next ds n; locals = λ n. tt }
item-fits here g next (x.Functions a) = record { signals = λ n. tt; locals = λ n. function-locals here a n }
item-fits here g next (x.Parameters t ps) = record { signals = λ n. tt; locals = λ n. tt }
item-fits here g next (x.Assigns as') = record { signals = λ n. tt; locals = λ n. tt }
item-fits here g next (x.Initial at a) = record { signals = λ n. tt; locals = λ n. tt }
item-fits here g next (x.Always at trigger a) = record { signals = λ n. tt; locals = λ n. tt }
item-fits here g next (x.Instantiates us) = record { signals = λ n. tt; locals = λ n. tt }

module _ (inner : f.Inner) (fits : (above : Here) (base : Counts) (us : x.Instances) (u : x.NamedUnit) (m : x.Module) → AllFit (inner above base us u m)) where
  units-fit : (here : Here) (base : Counts) (us : x.Instances) (m : x.Module) (counts : Counts) (units : List x.NamedUnit) → AllFit (f.instances inner here base us m counts units)
  unfolding Each
  units-fit here base us m counts [] = tt
  units-fit here base us m counts (u ∷ others) =
      each-append FitsPart (inner here base us u m) _ (fits here base us u m) (units-fit here (plus base counts) us m counts others)

  item-parts-fit : (sizes : List ℕ → Counts) (ms : List x.Module) (here : Here) (g : Given) (next : Counts) (item : x.Item) → AllFit (f.item_parts inner sizes ms here g next item)
  unfolding Each
  item-parts-fit sizes ms here g next (x.Instantiates us) =
      each-or FitsPart (λ m. f.instances inner here next us m (sizes us.definition) us.units) (module_named ms us.definition) (λ m. units-fit here next us m (sizes us.definition) us.units)
  item-parts-fit sizes ms here g next (x.Parameters t ps) = (item-fits here g next.signals (x.Parameters t ps), tt)
  item-parts-fit sizes ms here g next (x.Signals ds) = (item-fits here g next.signals (x.Signals ds), tt)
  item-parts-fit sizes ms here g next (x.Assigns as') = (item-fits here g next.signals (x.Assigns as'), tt)
  item-parts-fit sizes ms here g next (x.Initial at a) = (item-fits here g next.signals (x.Initial at a), tt)
  item-parts-fit sizes ms here g next (x.Always at trigger a) = (item-fits here g next.signals (x.Always at trigger a), tt)
  item-parts-fit sizes ms here g next (x.Functions a) = (item-fits here g next.signals (x.Functions a), tt)

  items-fit : (sizes : List ℕ → Counts) (ms : List x.Module) (here : Here) (g : Given) (next : Counts) (items : List x.Item) → AllFit (f.items_parts inner sizes ms here g next items)
  unfolding Each
  items-fit sizes ms here g next [] = tt
  items-fit sizes ms here g next (item ∷ items) =
      each-append FitsPart (f.item_parts inner sizes ms here g next item) _ (item-parts-fit sizes ms here g next item) (items-fit sizes ms here g (f.behind_item sizes here next item) items)

  body-fits : (sizes : List ℕ → Counts) (ms : List x.Module) (behind : ℕ) (env : Env) (g : Given) (m : x.Module) → AllFit (f.body inner sizes ms behind env g m)
  body-fits sizes ms behind env g m = items-fit sizes ms _ g g.base m.items

input-fits : (above : Here) (env : Env) (m : x.Module) (u : x.NamedUnit) (t : List ℕ) → AllFit (f.input_part above env m u t)
unfolding Each
input-fits above env m u t =
    let q = port_connection m u t in
    let part : Ex → List f.Part = λ e. f.connection (input_process above env (place_in u q) t e ∷ []) (input_faults above.env e) ∷ [] in
    each-if FitsPart (is_input m t && not (is_clock_binding (env t))) (option_map_or part (expression_of q) []) []
    (each-or FitsPart part (expression_of q) (λ e. lone (input_process above env (place_in u q) t e ∷ []) (input_faults above.env e))) tt

output-fits : (above : Here) (env : Env) (m : x.Module) (u : x.NamedUnit) (t : List ℕ) → AllFit (f.output_part above env m u t)
unfolding Each
output-fits above env m u t =
    let q = port_connection m u t in
    let part : Ex → List f.Part = λ e. f.connection (output_process above env (place_in u q) t e ∷ []) (output_faults above.env (place_in u q) e) ∷ [] in
    each-if FitsPart (is_input m t) [] (option_map_or part (expression_of q) []) tt
    (each-or FitsPart part (expression_of q) (λ e. lone (output_process above env (place_in u q) t e ∷ []) (output_faults above.env (place_in u q) e)))

instance-fits : (n : ℕ) (ms : List x.Module) (above : Here) (base : Counts) (us : x.Instances) (u : x.NamedUnit) (m : x.Module) → AllFit (f.instance n ms above base us u m)
unfolding Each instance
instance-fits zero ms above base us u m = tt
instance-fits (suc n) ms above base us u m =
    let g = given above base us u m in
    let env = environment (size n ms) g m in (
      record { signals = λ n. tt; locals = λ n. tt },
      each-append FitsPart (flat_map (λ t. f.input_part above env m u t.name) m.ports) _ (each-flat_map FitsPart _ m.ports (λ t. input-fits above env m u t.name))
          (each-append FitsPart (f.body (f.instance n ms) (size n ms) ms above.behind env g m) _
          (body-fits (f.instance n ms) (instance-fits n ms) (size n ms) ms above.behind env g m)
          (each-flat_map FitsPart _ m.ports (λ t. output-fits above env m u t.name))),
    )

parts-fit : (ms : List x.Module) (m : x.Module) → AllFit (f.parts_from ms m)
parts-fit ms m = body-fits (f.instance f.deepest ms) (instance-fits f.deepest ms) _ ms _ _ (f.top_given m) m

-- ---- the parts of a design that isn't stopped have no faults

some-stays : (best : Stop) (xs : List Stop) → earliest (Some best) xs ≡ None → ⊥
some-stays best [] e = absurd cc
some-stays best (x ∷ xs) e = go (is_before x best) (some-stays x xs) (some-stays best xs) e
  where
    go : (c : Bool) → (earliest (Some x) xs ≡ None → ⊥) → (earliest (Some best) xs ≡ None → ⊥) → fold earlier (if c then Some x else Some best) xs ≡ None → ⊥
    go true h k e = h e
    go false h k e = k e

none-first : (xs : List Stop) → earliest None xs ≡ None → xs ≡ []
none-first [] e = refl
none-first (x ∷ xs) e = absurd (some-stays x xs e)

abbrev IsClean : f.Part → Type 0
IsClean a = a.faults ≡ []

clean-part : (n : o.Totals) (a : f.Part) → o.part_stop n a ≡ None → IsClean a
clean-part n a e =
    let instances = o.instance_limits n a.begins in
    let signals = o.signals_limits n a.signals in
    none-right signals a.faults (none-right instances (signals ++ a.faults) (none-first (instances ++ (signals ++ a.faults)) e))

clean-parts : (n t : o.Totals) (as' : List f.Part) → o.judged n as' ≡ Ok t → Each IsClean as'
unfolding Each
clean-parts n t [] e = tt
clean-parts n t (a ∷ as') e = go (o.part_stop n a) (clean-parts (o.with_part n a) t as') refl e
  where
    go : (s : Option Stop) → (o.judged (o.with_part n a) as' ≡ Ok t → Each IsClean as') → o.part_stop n a ≡ s → (o.passed (o.with_part n a) s >>= λ k. o.judged k as') ≡ Ok t → IsClean a × Each IsClean as'
    go None rest is e = (clean-part n a is, rest e)
    go (Some s) rest is e = absurd cc

-- ---- designs

signals-of-parts : (as' : List f.Part) → AllFit as' → Each IsClean as' → Each Fits (flat_map (λ a. a.signals) as')
unfolding Each
signals-of-parts [] h k = tt
signals-of-parts (a ∷ as') h k = each-append Fits a.signals _ (h.0.signals k.0) (signals-of-parts as' h.1 k.1)

locals-of-parts : (as' : List f.Part) → AllFit as' → Each IsClean as' → Each FitLocals (flat_map (λ a. a.funcs) as')
unfolding Each
locals-of-parts [] h k = tt
locals-of-parts (a ∷ as') h k = each-append _ a.funcs _ (h.0.locals k.0) (locals-of-parts as' h.1 k.1)

pub record Widths (d : p.Design) : Type 0 where
  pub signals : All Fits d.signals
  pub locals : All (λ (c : p.Func). All Fits c.locals) d.funcs

locals-all : (cs : List p.Func) → Each FitLocals cs → All (λ (c : p.Func). All Fits c.locals) cs
unfolding Each
locals-all [] h = All-nil (λ (c : p.Func). All Fits c.locals)
locals-all (c ∷ cs) h = All-cons (λ (e : p.Func). All Fits e.locals) c cs (each-all Fits c.locals h.0) (locals-all cs h.1)

-- a design that isn't stopped is that of the parts
of-parts : (ms : List x.Module) (m : x.Module) (d : p.Design) (r : Result o.Totals Stop) → o.judged o.nothing_yet (f.parts_from ms m) ≡ r
    → (r >>= λ n. Ok (f.design_of m (f.parts_from ms m))) ≡ Ok d → Widths d
of-parts ms m d (Err s) is e = absurd cc
of-parts ms m d (Ok t) is e =
    let parts = f.parts_from ms m in
    let fits = parts-fit ms m in
    let clean = clean-parts o.nothing_yet t parts is in
    let same : f.design_of m parts ≡ d = design-is (f.design_of m parts) d e in
    rw (← same) record { signals = each-all Fits _ (signals-of-parts parts fits clean); locals = locals-all _ (locals-of-parts parts fits clean) }
  where
    design-is : (a b : p.Design) → ◌≡◌ {A = Result p.Design Stop} (Ok a) (Ok b) → a ≡ b
    design-is a b e = cc

from-top : (ms : List x.Module) (top : Option x.Module) (d : p.Design) → o.flattened_by ms top ≡ Ok d → Widths d
from-top ms None d e = absurd cc
from-top ms (Some m) d e = of-parts ms m d (o.judged o.nothing_yet (f.parts_from ms m)) refl e

pub widths : (s : Source) (d : p.Design) → o.flattened s ≡ Ok d → Widths d
widths s d e = from-top (modules s) (f.top_of s) d e
