-- A flat design is sound: each part that an instance stands for is.
use Rattle.std.proofs.Common.{◌≡◌, ℕ, zero, suc, List, [], ◌∷◌, ◌++◌, map, length, Option, Some, None, Result, Ok, Err, refl, sym, ap, ◌∙◌, subst}
use Rattle.std.specs.Prelude.{fold, flat_map, All}
use Rattle.std.specs.Option.{option_map_or}
use Rattle.std.proofs.lemmas.List.{append_assoc, length-map}
use Rattle.std.proofs.lemmas.List.Sums.{fold-append}
use Rattle.std.proofs.lemmas.List.Elements.{All-nil, All-append, All-head, All-tail, All-map, All-weaker}
use Rattle.vl_flat.specs.vl_tree.specs.declared.tree.Identifier.{Identifier}
use Rattle.vl_flat.specs.vl_design.specs.declared.stop.Stop.{Stop}
use Rattle.vl_flat.specs.vl_design.specs.Rows.{row_of}
use Rattle.vl_flat.specs.vl_design.specs.Width as w
use Rattle.vl_flat.specs.vl_design.specs.Sound.{IsSoundFun, IsSoundProc, IsSound}
use Rattle.vl_flat.specs.vl_design.specs.Placed as p
use Rattle.vl_flat.specs.vl_design.specs.Plainly as plain
use Rattle.vl_flat.specs.Items as i
use Rattle.vl_flat.specs.Scopes.{plainly}
use Rattle.vl_flat.specs.Environments.{Counts, Given, plus, module_named, size, environment}
use Rattle.vl_flat.specs.Processes.{Here}
use Rattle.vl_flat.specs.Connections.{given}
use Rattle.vl_flat.specs.Flat as f
use Rattle.vl_flat.specs.Flat.{instance}
use Rattle.vl_flat.specs.Outcome as o
use Rattle.vl_flat.specs.Outcome.{◌>>=◌}
use Rattle.vl_sound.specs.Used as u
use Rattle.vl_sound.specs.Agreeing.{Agrees, StandsFor}
use Rattle.vl_sound.specs.Instances.{IsInstance, of_top, of_item, here_of}
use Rattle.vl_sound.proofs.Numbers.{design-is}
use Rattle.vl_sound.proofs.Depth.{judged-clear}
use Rattle.vl_sound.specs.Widths.{HaveWidths}
use Rattle.vl_sound.specs.Inputs.{HasNoLoopInputs, NoLoopInputs}
use Rattle.vl_sound.proofs.Parts.{at-split}
use Rattle.vl_sound.proofs.Targets.{signal-named}
use Rattle.vl_sound.proofs.Functions.{IsGood}
use Rattle.vl_sound.proofs.Items.{SoundProc, GoodPart, Done, done-nil, done-cons, done-append, done-flat, IsHere, item-good, input-done, output-done}

-- an instance: its names are used as what they are, agree with it and stand in the design for it
pub record IsHome (ms : List i.Module) (top : i.Module) (design : w.Names) (n : ℕ) (g : Given) (m : i.Module) : Type 0 where
  pub classes : u.Classes
  pub used : u.AreUsedIn classes m
  pub agrees : Agrees classes (plainly (environment (size n ms) g m))
  pub stands : StandsFor classes (plainly (environment (size n ms) g m)) design
  pub widths : HaveWidths (environment (size n ms) g m)
  pub items : All (IsHere classes (here_of n ms top g m) design) m.items
  pub ports : All (λ (t : Identifier). u.IsWatched (classes.read t.name)) m.ports

module _ (ms : List i.Module) (top : i.Module) (design : w.Names) (count : (f.whole ms top).signals ≡ length design.signals)
    (homes : (n : ℕ) (g : Given) (m : i.Module) → IsInstance ms top n g m → IsHome ms top design n g m) where
  abbrev next-of : ℕ → Given → i.Module → List i.Item → Counts
  next-of n g m before = fold (f.behind_item (size n ms) (here_of n ms top g m)) g.base before

  abbrev base-of : ℕ → Given → i.Module → List i.Item → i.Instances → List i.NamedUnit → Counts
  base-of n g m before us first = fold (λ (z : Counts) (v : i.NamedUnit). plus z (size n ms us.definition)) (next-of n g m before) first

  -- the units of an instance in which others stand so deep
  abbrev Inner : ℕ → Type 0
  Inner n =
      (g : Given) (m of : i.Module) (before after : List i.Item) (us : i.Instances) (first others : List i.NamedUnit) (y : i.NamedUnit)
      → IsInstance ms top n g m → m.items ≡ before ++ i.Instantiates us ∷ after → us.units ≡ first ++ y ∷ others → module_named ms us.definition ≡ Some of
      → Done design (f.instance n ms (here_of n ms top g m) (base-of n g m before us first) us y of)

  -- ---- the items of an instance

  module _ (n : ℕ) (inner : Inner n) (g : Given) (m : i.Module) (h : IsInstance ms top n g m) where
    abbrev spot : Here
    spot = here_of n ms top g m

    abbrev home : IsHome ms top design n g m
    home = homes n g m h

    units-done : (of : i.Module) (before after : List i.Item) (us : i.Instances) → m.items ≡ before ++ i.Instantiates us ∷ after → module_named ms us.definition ≡ Some of
        → (first units : List i.NamedUnit) → us.units ≡ first ++ units → (base : Counts) → base ≡ base-of n g m before us first
        → Done design (f.instances (f.instance n ms) spot base us of (size n ms us.definition) units)
    units-done of before after us is named first [] split base at = done-nil design
    units-done of before after us is named first (y ∷ units) split base at =
        done-append design (f.instance n ms spot base us y of) (f.instances (f.instance n ms) spot (plus base (size n ms us.definition)) us of (size n ms us.definition) units)
        (subst (λ z. Done design (f.instance n ms spot z us y of)) (sym at) (inner g m of before after us first units y h is split named))
        (units-done of before after us is named (first ++ y ∷ []) units (split ∙ sym (append_assoc first (y ∷ []) units)) (plus base (size n ms us.definition))
        (ap (λ z. plus z (size n ms us.definition)) at ∙ sym (fold-append (λ (z : Counts) (v : i.NamedUnit). plus z (size n ms us.definition)) (next-of n g m before) first (y ∷ []))))

    item-done : (before after : List i.Item) (item : i.Item) → m.items ≡ before ++ item ∷ after → (next : Counts) → next ≡ next-of n g m before
        → Done design (f.item_parts (f.instance n ms) (size n ms) ms spot g next item)
    item-done before after (i.Instantiates us) is next at = by (module_named ms us.definition) refl
      where
        by : (q : Option i.Module) → module_named ms us.definition ≡ q → Done design (option_map_or (λ m. f.instances (f.instance n ms) spot next us m (size n ms us.definition) us.units) q [])
        by None named = done-nil design
        by (Some of) named = units-done of before after us is named [] us.units refl next at
    item-done before after item is next at =
        done-cons design (f.item_part spot g next.signals item) []
        (λ clear. item-good home.classes spot home.agrees design home.stands home.widths count g next.signals item (at-split (u.IsUsedItem home.classes) m.items before after item home.used is)
        (at-split (IsHere home.classes spot design) m.items before after item home.items is) clear)
        (done-nil design)

    items-done : (before items : List i.Item) → m.items ≡ before ++ items → (next : Counts) → next ≡ next-of n g m before
        → Done design (f.items_parts (f.instance n ms) (size n ms) ms spot g next items)
    items-done before [] is next at = done-nil design
    items-done before (item ∷ items) is next at =
        let behind = f.behind_item (size n ms) spot next item in
        done-append design (f.item_parts (f.instance n ms) (size n ms) ms spot g next item) (f.items_parts (f.instance n ms) (size n ms) ms spot g behind items)
        (item-done before items item is next at)
        (items-done (before ++ item ∷ []) items (is ∙ sym (append_assoc before (item ∷ []) items)) behind
        (ap (λ z. f.behind_item (size n ms) spot z item) at ∙ sym (fold-append (f.behind_item (size n ms) spot) g.base before (item ∷ []))))

    body-done : Done design (f.body (f.instance n ms) (size n ms) ms (f.whole ms top).signals (environment (size n ms) g m) g m)
    body-done = items-done [] m.items refl g.base refl

  -- ---- instances

  begin-good : (a : f.Part) → a.processes ≡ [] → a.funcs ≡ [] → GoodPart design a
  begin-good a h k = record {
    processes = subst (All (SoundProc design)) (sym h) (All-nil (SoundProc design));
    funcs = subst (All (λ f. IsGood design (plain.fun f))) (sym k) (All-nil (λ f. IsGood design (plain.fun f)));
  }

  inner-none : Inner zero
  unfolding instance
  inner-none g m of before after us first others y h is split named = done-nil design

  inner-more : (n : ℕ) → Inner n → Inner (suc n)
  unfolding instance
  inner-more n inner g m of before after us first others y h is split named =
      let above = here_of (suc n) ms top g m in
      let base = base-of (suc n) g m before us first in
      let own = given above base us y of in
      let env = environment (size n ms) own of in
      let inside = of_item n g m of before after us first others y h is split named in
      let parent = homes (suc n) g m h in
      let child = homes n own of inside in
      let item = at-split (u.IsUsedItem parent.classes) m.items before after (i.Instantiates us) parent.used is in
      let connected = at-split (λ (v : i.NamedUnit). u.AreConnected parent.classes v.connections) us.units first others y item.1 split in
      let watched : Identifier → Type 0 = λ t. u.IsWatched (child.classes.read t.name) in
      let ins = flat_map (λ t. f.input_part above env of y t.name) of.ports in
      let bod = f.body (f.instance n ms) (size n ms) ms above.behind env own of in
      let outs = flat_map (λ t. f.output_part above env of y t.name) of.ports in
      let named-port = λ (t : Identifier) (v : watched t). signal-named child.classes (plainly env) child.agrees design child.stands child.widths t.name v in
      done-cons design (f.beginning above.env own us) (ins ++ (bod ++ outs)) (λ clear. begin-good (f.beginning above.env own us) refl refl)
      (done-append design ins (bod ++ outs)
      (done-flat design watched (λ (t : Identifier). f.input_part above env of y t.name) (λ t v. input-done parent.classes above parent.agrees design parent.stands parent.widths env of y connected t.name (named-port t v)) of.ports child.ports)
      (done-append design bod outs (body-done n inner own of inside)
      (done-flat design watched (λ (t : Identifier). f.output_part above env of y t.name) (λ t v. output-done parent.classes above parent.agrees design parent.stands parent.widths env of y connected t.name (named-port t v)) of.ports child.ports)))

  all-inner : (n : ℕ) → Inner n
  all-inner zero = inner-none
  all-inner (suc n) = inner-more n (all-inner n)

  pub all-done : Done design (f.parts_from ms top)
  all-done = body-done f.deepest (all-inner f.deepest) (f.top_given top) top of_top

-- ---- designs

all-processes : (design : w.Names) (parts : List f.Part) → All (GoodPart design) parts → All (SoundProc design) (flat_map (λ (a : f.Part). a.processes) parts)
all-processes design [] h = All-nil (SoundProc design)
all-processes design (a ∷ parts) h =
    let one = All-head (GoodPart design) a parts h in
    All-append (SoundProc design) a.processes (flat_map (λ (a : f.Part). a.processes) parts) one.processes (all-processes design parts (All-tail (GoodPart design) a parts h))

all-funs : (design : w.Names) (parts : List f.Part) → All (GoodPart design) parts → All (λ y. IsGood design (plain.fun y)) (flat_map (λ (a : f.Part). a.funcs) parts)
all-funs design [] h = All-nil (λ y. IsGood design (plain.fun y))
all-funs design (a ∷ parts) h =
    let one = All-head (GoodPart design) a parts h in
    All-append (λ y. IsGood design (plain.fun y)) a.funcs (flat_map (λ (a : f.Part). a.funcs) parts) one.funcs (all-funs design parts (All-tail (GoodPart design) a parts h))

ok-first : {A : Type 0} (r : Result A Stop) (y z : p.Design) → (r >>= λ n. Ok y) ≡ Ok z → (t : A) × (r ≡ Ok t)
ok-first (Ok t) y z h = (t, refl)
ok-first (Err e) y z h = let q : ⊥ = cc in absurd q

-- the design of instances that are at home
pub record IsWhole (d : p.Design) : Type 0 where
  pub sound : IsSound (plain.flat d)
  pub inputs : NoLoopInputs (plain.flat d)

pub whole-sound : (ms : List i.Module) (top : i.Module) (x : p.Design) → o.flattened_from ms top ≡ Ok x → (f.whole ms top).signals ≡ length x.signals
    → ((n : ℕ) (g : Given) (m : i.Module) → IsInstance ms top n g m → IsHome ms top (w.names_of (plain.flat x)) n g m) → IsWhole x
whole-sound ms top x is count homes =
    let parts = f.parts_from ms top in
    let made = design-is (o.judged o.nothing_yet parts) (f.design_of top parts) x is in
    let judged = ok-first (o.judged o.nothing_yet parts) (f.design_of top parts) x is in
    let names = w.names_of (plain.flat x) in
    let rows : (f.whole ms top).signals ≡ length names.signals = count ∙ sym (length-map x.signals row_of) in
    let good = all-done ms top names rows homes (judged-clear o.nothing_yet parts judged.0 judged.1) in
    let processes = subst (λ (z : p.Design). All (SoundProc names) z.processes) made (all-processes names parts good) in
    let funs = All-map (IsGood names) plain.fun x.funcs (subst (λ (z : p.Design). All (λ y. IsGood names (plain.fun y)) z.funcs) made (all-funs names parts good)) in
    record {
      sound = record {
        funs = All-weaker (IsGood names) (IsSoundFun names) (λ a good. good.sound) (map plain.fun x.funcs) funs;
        procs = All-map (IsSoundProc names) plain.proc x.processes processes;
      };
      inputs = All-weaker (IsGood names) (HasNoLoopInputs names) (λ a good. good.inputs) (map plain.fun x.funcs) funs;
    }
