-- The numbers of an instance's names stand in the flat design for rows and functions of these names.
use Rattle.std.proofs.Common.{◌≡◌, ℕ, zero, suc, ◌+◌, ◌<◌, Bool, true, false, true≢false, if◌then◌else◌, ◌⊎◌, inl, inr, ⊎_elim, List, [], ◌∷◌, ◌++◌, map, length, drop, Option, Some, None, Ok, refl, sym, ap, ◌∙◌, subst, arith}
use Rattle.std.specs.Prelude.{slice_get, option_map, is_some, fold, flat_map, All}
use Rattle.std.specs.Option.{option_map_or}
use Rattle.std.specs.Str.{bytes_eq}
use Rattle.std.proofs.lemmas.Option.{slice_get-map}
use Rattle.std.proofs.lemmas.List.{append_assoc, length-append, length-map}
use Rattle.std.proofs.lemmas.List.Elements.{All-head, All-tail}
use Rattle.vl_flat.specs.vl_tree.specs.declared.tree.Identifier.{Identifier}
use Rattle.vl_flat.specs.vl_tree.specs.declared.source_tree.Source.{Source}
use Rattle.vl_flat.specs.vl_tree.specs.declared.source_tree.Module.{Module as ModuleTree}
use Rattle.vl_names.specs.vl_scope.specs.declared.fault.Fault.{Fault}
use Rattle.vl_names.specs.vl_scope.specs.declared.kind.Class.{Class}
use Rattle.vl_names.specs.vl_scope.specs.declared.kind.Class.TheVariants as c
use Rattle.vl_names.specs.vl_scope.specs.Faults.{In}
use Rattle.vl_names.specs.vl_scope.specs.Declarations as sc
use Rattle.vl_names.specs.vl_scope.specs.DeclarationFaults.{is_no_port, IsDeclarationFault}
use Rattle.vl_names.specs.vl_scope.proofs.Members.{In-middle}
use Rattle.vl_names.specs.vl_uses.specs.UseFaults.{IsUseFault}
use Rattle.vl_flat.specs.vl_design.specs.declared.design.Signal.{Signal}
use Rattle.vl_flat.specs.vl_design.specs.declared.design.Form.{Form}
use Rattle.vl_flat.specs.vl_design.specs.Syntax.{Row, Fun}
use Rattle.vl_flat.specs.vl_design.specs.Rows.{range_width, row_of}
use Rattle.vl_flat.specs.vl_design.specs.Sound.{IsWidth}
use Rattle.vl_flat.specs.vl_design.specs.Width as w
use Rattle.vl_flat.specs.vl_design.specs.Width.{Names, names_of, names_in, result_form}
use Rattle.vl_flat.specs.vl_design.specs.Placed as p
use Rattle.vl_flat.specs.vl_design.specs.Plainly as plain
use Rattle.vl_flat.specs.declared.binding.Binding.{Binding}
use Rattle.vl_flat.specs.declared.binding.Binding.TheVariants as b
use Rattle.vl_flat.specs.declared.binding.Shape.{Shape}
use Rattle.vl_flat.specs.Items as x
use Rattle.vl_flat.specs.Declarations as d
use Rattle.vl_flat.specs.Declarations.{modules}
use Rattle.vl_flat.specs.Scopes.{Env, none, bind, plainly}
use Rattle.vl_flat.specs.Ranges.{type_form}
use Rattle.vl_flat.specs.Functions.{signal, function, function_scope, local_shape, with_locals, input_numbers, dotted}
use Rattle.vl_flat.specs.Environments.{Given, Known, with_item, size, environment}
use Rattle.vl_flat.specs.Flat as f
use Rattle.vl_flat.specs.Outcome.{flattened}
use Rattle.vl_flat.specs.Outcome as o
use Rattle.vl_flat.specs.vl_tree.specs.Hierarchy.{graph_of, first_top}
use Rattle.vl_flat.specs.vl_tree.specs.declared.source_tree.Function.{Function as FunctionTree}
use Rattle.vl_sound.specs.Used.{Classes, class_in, classes, declares, within}
use Rattle.vl_sound.specs.Agreeing.{StandsAs, IsRowOf, StandsFor}
use Rattle.vl_sound.specs.Instances.{IsInstance}
use Rattle.vl_sound.proofs.Lists.{left-part, seam-part, at-holds}
use Rattle.vl_sound.proofs.Sources.{source-places, source-functions}
use Rattle.vl_sound.specs.Apart.{AreApart}
use Rattle.vl_sound.proofs.Lists.{told-at}
use Rattle.vl_sound.proofs.DeclaredOfLaws.{all-apart}
use Rattle.vl_sound.proofs.Numbers.{body-adds, instance-adds, design-is}
use Rattle.vl_sound.proofs.WidthsOfAgree.{Fits, Widths, widths}
use Rattle.vl_sound.specs.Clocks.{ClocksAreInputs}
use Rattle.vl_sound.proofs.Pairs.{pairs-back}
use Rattle.vl_sound.proofs.Names.{Name, P, S, F, I, spelt, names_of as names_list, Said, all-said}
use Rattle.vl_sound.proofs.Bound.{Binds, items-bind}
use Rattle.vl_sound.proofs.Alone.{no-signal-apart}
use Rattle.vl_sound.proofs.Agree.{says-in, spelt-as, one, function-name, function-stands}
use Rattle.vl_sound.proofs.InstancesOfAgree.{clocks-are-inputs}
use Rattle.vl_sound.proofs.Order.{function-tree, function-form}

-- ---- rows

-- the rows have one at the number of each signal that is what its shape says
abbrev pub Shown : List Row → Env → Type 0
Shown rows env = (t : List ℕ) (j : ℕ) (s : Shape) → env t ≡ Some (b.Signal j s) → (r : Row) × (slice_get rows j ≡ Some r) × IsRowOf s r

row-is : (path : List ℕ) (n : Identifier) (s : Shape) → Fits (signal path n s) → IsRowOf s (row_of (signal path n s))
row-is path n s h = record { kind = refl; width = refl; signed = refl; wide = h }

shown-left : (rows more : List Row) (env : Env) → Shown rows env → Shown (rows ++ more) env
shown-left rows more env h t j s e = let r = h t j s e in (r.0, left-part rows more j r.0 r.1, r.2)

number-is : (n k : ℕ) (r s : Shape) → ◌≡◌ {A = Option Binding} (Some (b.Signal n r)) (Some (b.Signal k s)) → n ≡ k
number-is n k r s e = cc

shape-is : (n k : ℕ) (r s : Shape) → ◌≡◌ {A = Option Binding} (Some (b.Signal n r)) (Some (b.Signal k s)) → r ≡ s
shape-is n k r s e = cc

shown-bind : (rows : List Row) (env : Env) (name : List ℕ) (n : ℕ) (q : Shape) (r : Row) → Shown rows env → slice_get rows n ≡ Some r → IsRowOf q r → Shown rows (bind env name (b.Signal n q))
shown-bind rows env name n q r h at is t j s e = by (bytes_eq name t) e
  where
    by : (z : Bool) → (if z then Some (b.Signal n q) else env t) ≡ Some (b.Signal j s) → (r : Row) × (slice_get rows j ≡ Some r) × IsRowOf s r
    by true e = (r, ap (slice_get rows) (sym (number-is n j q s e)) ∙ at, subst (λ z. IsRowOf z r) (shape-is n j q s e) is)
    by false e = h t j s e

module _ (outer : Env) (a : x.Function) (path : List ℕ) where
  abbrev locals-of : List x.Local → List Signal
  locals-of ls = map (λ l. signal path l.name (local_shape outer a l)) ls

  abbrev rows-of : List x.Local → List Row
  rows-of ls = map row_of (locals-of ls)

  locals-shown : (pre : List Row) (ls : List x.Local) (env : Env) → All Fits (locals-of ls) → Shown (pre ++ rows-of ls) env
      → Shown (pre ++ rows-of ls) (with_locals outer env a (length pre) ls)
  locals-shown pre [] env fit h = h
  locals-shown pre (l ∷ ls) env fit h =
      let shape = local_shape outer a l in
      let r = row_of (signal path l.name shape) in
      let one = pre ++ r ∷ [] in
      let rows = pre ++ r ∷ rows-of ls in
      let more : Env = bind env l.name.name (b.Signal (length pre) shape) in
      let same : rows ≡ one ++ rows-of ls = sym (append_assoc pre (r ∷ []) (rows-of ls)) in
      let at : slice_get rows (length pre) ≡ Some r = ap (λ z. slice_get z (length pre)) same ∙ left-part one (rows-of ls) (length pre) r (seam-part pre r) in
      let now : Shown rows more = shown-bind rows env l.name.name (length pre) shape r h at (row-is path l.name shape (All-head Fits (signal path l.name shape) (locals-of ls) fit)) in
      let is : length one ≡ length pre + 1 = length-append pre (r ∷ []) in
      let rest = locals-shown one ls more (All-tail Fits (signal path l.name shape) (locals-of ls) fit) (subst (λ z. Shown z more) same now) in
      subst (λ z. Shown z (with_locals outer more a (length pre + 1) ls)) (sym same)
      (subst (λ n. Shown (one ++ rows-of ls) (with_locals outer more a n ls)) is rest)

-- ---- the results of functions

result-same : (names : Names) (g : Fun) (o : Option Fun) → w.result_form_of (names_in names g) o ≡ w.result_form_of names o
result-same names g None = refl
result-same names g (Some f) = refl

-- the form of a function's result is that of its first local
result-first : (rows : List Row) (env : Env) (path : List ℕ) (tree : FunctionTree)
    → w.signal_form (rows ++ rows-of env (d.function tree) path (d.function tree).locals) (length rows) ≡ type_form env (d.function tree).type
result-first rows env path tree =
    let a = d.function tree in
    let l = d.local false false (d.type tree.kind) tree.name in
    let r = row_of (signal path l.name (local_shape env a l)) in
    let more = option_map_or (flat_map d.inputs_in) tree.ports [] ++ flat_map d.locals_in tree.declarations in
    ap w.row_form
    (ap (λ z. slice_get z (length rows)) (sym (append_assoc rows (r ∷ []) (rows-of env a path more)))
    ∙ left-part (rows ++ r ∷ []) (rows-of env a path more) (length rows) r (seam-part rows r))

-- ---- an instance

module _ (s : Source) (fine : (e : Fault) → IsDeclarationFault s e → ⊥) (used : (e : Fault) → IsUseFault s e → ⊥) (top : x.Module) (is-top : f.top_of s ≡ Some top)
    (made : p.Design) (is-made : flattened s ≡ Ok made) (n : ℕ) (g : Given) (tree : ModuleTree) (inside : In tree s.modules) (instance : IsInstance (modules s) top n g (d.module' tree)) where
  abbrev X : x.Module
  X = d.module' tree

  abbrev ms : List x.Module
  ms = modules s

  abbrev env : Env
  env = environment (size n ms) g X

  abbrev names : Names
  names = names_of (plain.flat made)

  abbrev rows : List Row
  rows = map row_of made.signals

  abbrev behind : ℕ
  behind = (f.whole ms top).signals

  as-many : length rows ≡ behind
  as-many =
      let apart = all-apart s fine in
      let own = told-at AreApart ms (first_top (graph_of s)) top apart is-top in
      let parts = f.parts_from ms top in
      let design = design-is (o.judged o.nothing_yet parts) (f.design_of top parts) made (ap (o.flattened_by ms) (sym is-top) ∙ is-made) in
      let body = body-adds f.deepest ms behind (f.top_given top) top own (instance-adds f.deepest ms apart) in
      length-map made.signals row_of ∙ (ap (λ (z : p.Design). length z.signals) (sym design) ∙ (ap (length {A = Signal}) body.emits ∙ body.count))

  shown : Shown rows env
  shown t j r e =
      let q = source-places s fine top is-top made is-made n g X instance t j r e in (
        row_of (signal g.path q.0 r),
        slice_get-map row_of made.signals j ∙ ap (option_map row_of) q.2,
        row-is g.path q.0 r (at-holds Fits made.signals j (signal g.path q.0 r) (widths s made is-made).signals q.2),
      )

  -- the function at a number
  record FunctionAt (t : List ℕ) (j : ℕ) (form : Form) : Type 0 where
    source : x.Function
    listed : In (x.Functions source) X.items
    spelt : source.name.name ≡ t
    placed : slice_get made.funcs j ≡ Some (function behind env g.path source)
    there : slice_get names.funs j ≡ Some (plain.fun (function behind env g.path source))

  function-at : (t : List ℕ) (j : ℕ) (form : Form) → env t ≡ Some (b.Function j form) → FunctionAt t j form
  function-at t j form e =
      let q = source-functions s top is-top made is-made n g X instance t j form e in
      record { source = q.0; listed = q.1; spelt = q.2; placed = q.3; there = slice_get-map plain.fun made.funcs j ∙ ap (option_map plain.fun) q.3 }

  -- functions of one name are one
  same-function : (y z : x.Function) → In (x.Functions y) X.items → In (x.Functions z) X.items → y.name.name ≡ z.name.name → y ≡ z
  same-function y z h k q =
      function-is (one s fine tree inside (size n ms) g (F y) (F z) (function-name s fine tree inside (size n ms) g y h) (function-name s fine tree inside (size n ms) g z k) q (no-signal-apart (F y) (F z) tt))
    where
      function-is : F y ≡ F z → y ≡ z
      function-is q = cc

  form-whole : (t : List ℕ) (j : ℕ) (form : Form) → env t ≡ Some (b.Function j form) → (a : x.Function) → In (x.Functions a) X.items → a.name.name ≡ t → form ≡ type_form env a.type
  form-whole t j form e a h k = ⊎_elim (λ q. absurd (nothing q)) (λ q. by q.before q.item q.after q.is q.binds) (items-bind (size n ms) g X X.items start t (b.Function j form) e)
    where
      start : Known
      start = record { env = none; next = g.base }

      nothing : ◌≡◌ {A = Option Binding} None (Some (b.Function j form)) → ⊥
      nothing q = cc

      by : (before : List x.Item) (item : x.Item) (after : List x.Item) → X.items ≡ before ++ item ∷ after
          → Binds (size n ms) g X (fold (with_item (size n ms) g X) (record { env = none; next = g.base }) before) item t (b.Function j form) → form ≡ type_form env a.type
      by before (x.Functions y) after is binds =
          let listed : In (x.Functions y) X.items = subst (In (x.Functions y)) (sym is) (In-middle (x.Functions y) before after) in
          let same : y ≡ a = same-function y a listed h (binds.0 ∙ sym k) in
          binds.1 ∙ (function-form s fine used tree inside (size n ms) g before after y is ∙ ap (λ (z : x.Function). type_form env z.type) same)
      by before item after is binds = absurd binds

  result-is : (t : List ℕ) (j : ℕ) (form : Form) → env t ≡ Some (b.Function j form) → result_form names j ≡ form
  result-is t j form e =
      let q = function-at t j form e in
      let tree = function-tree tree q.source q.listed in
      let name = dotted g.path q.source.name.name in
      ap (w.result_form_of names) q.there
      ∙ (subst (λ (z : x.Function). w.signal_form (rows ++ rows-of env z name z.locals) behind ≡ type_form env z.type) (sym tree.1)
      (subst (λ k. w.signal_form (rows ++ rows-of env (d.function tree.0) name (d.function tree.0).locals) k ≡ type_form env (d.function tree.0).type) as-many (result-first rows env name tree.0))
      ∙ sym (form-whole t j form e q.source q.listed q.spelt))

  -- a function has as many inputs as its class says
  inputs-are : (t : List ℕ) (i : ℕ) → class_in (sc.declarations tree) t ≡ Some (c.Function i) → (a : x.Function) → In (x.Functions a) X.items → a.name.name ≡ t → i ≡ length (input_numbers behind a.locals)
  inputs-are t i h a k e =
      let r = says-in (sc.declarations tree) t (c.Function i) h in
      let nm = pairs-back Said (names_list X.items) (sc.declarations tree) r.said (all-said tree) r.within in
      by nm.0 r.said nm.1 nm.2 (spelt-as nm.0 r.said nm.2 ∙ r.spelt) r.class-is
    where
      number-is : (u v : ℕ) → c.Function u ≡ c.Function v → u ≡ v
      number-is u v q = cc

      function-is : (y : x.Function) → F y ≡ F a → y ≡ a
      function-is y q = cc

      by : (nm : Name) (said : sc.Declared) → In nm (names_list X.items) → Said nm said → (spelt nm).name ≡ t → said.kind.class ≡ c.Function i → i ≡ length (input_numbers behind a.locals)
      by (F y) said h q l is =
          let same : y ≡ a = function-is y (one s fine tree inside (size n ms) g (F y) (F a) h (function-name s fine tree inside (size n ms) g a k) (l ∙ sym e) (no-signal-apart (F y) (F a) tt)) in
          number-is i (length (input_numbers behind y.locals)) (sym is ∙ q.class behind) ∙ ap (λ (z : x.Function). length (input_numbers behind z.locals)) same
      by (P y) said h q l is = absurd (true≢false (sym q.class ∙ ap sc.is_parameter is))
      by (S y) said h q l is = absurd (true≢false (sym (ap is_no_port is) ∙ q.port))
      by (I y) said h q l is = absurd (differ (sym is ∙ q.class))
        where
          differ : c.Function i ≡ c.Instance → ⊥
          differ q = cc

  pub stands : StandsFor (classes (sc.declarations tree)) (plainly env) names
  stands = record {
    signals = shown;
    results = result-is;
    inputs = λ t i j form k e. let q = function-at t j form e in (plain.fun (function behind env g.path q.source), q.there, inputs-are t i k q.source q.listed q.spelt);
  }

  -- ---- a function of the instance

  module _ (a : x.Function) (listed : In (x.Functions a) X.items) where
    abbrev name : List ℕ
    name = dotted g.path a.name.name

    abbrev own : Fun
    own = plain.fun (function behind env g.path a)

    placed : (j : ℕ) × (slice_get made.funcs j ≡ Some (function behind env g.path a))
    placed = by (env a.name.name) refl (function-stands s fine tree inside (size n ms) g (clocks-are-inputs ms top n g X instance) a (function-name s fine tree inside (size n ms) g a listed) 0)
      where
        by : (o : Option Binding) → env a.name.name ≡ o → StandsAs (c.Function 0) o → (j : ℕ) × (slice_get made.funcs j ≡ Some (function behind env g.path a))
        by (Some (b.Function j form)) e q =
            let r = function-at a.name.name j form e in
            (j, r.placed ∙ ap (λ z. Some (function behind env g.path z)) (same-function r.source a r.listed listed r.spelt))
        by (Some (b.Signal j r)) e q = absurd q
        by (Some (b.Constant r)) e q = absurd q
        by None e q = absurd q

    locals-fit : All Fits (locals-of env a name a.locals)
    locals-fit = at-holds (λ (z : p.Func). All Fits z.locals) made.funcs placed.0 (function behind env g.path a) (widths s made is-made).locals placed.1

    own-shown : Shown (rows ++ rows-of env a name a.locals) (with_locals env env a behind a.locals)
    own-shown =
        subst (λ k. Shown (rows ++ rows-of env a name a.locals) (with_locals env env a k a.locals)) as-many
        (locals-shown env a name rows a.locals env locals-fit (shown-left rows (rows-of env a name a.locals) env shown))

    called-outside : (t : List ℕ) (i : ℕ) (q : Bool) → (if q then Some c.Variable else class_in (sc.declarations tree) t) ≡ Some (c.Function i) → class_in (sc.declarations tree) t ≡ Some (c.Function i)
    called-outside t i true e = absurd (differ e)
      where
        differ : ◌≡◌ {A = Option Class} (Some c.Variable) (Some (c.Function i)) → ⊥
        differ q = cc
    called-outside t i false e = e

    pub function-stands-for : StandsFor (within (classes (sc.declarations tree)) a) (function_scope behind env a) (names_in names own)
    function-stands-for = record {
      signals = own-shown;
      results = λ t j form e. result-same names own (slice_get names.funs j) ∙ result-is t j form e;
      inputs = λ t i j form k e. stands.inputs t i j form (called-outside t i (declares (drop 1 a.locals) t) k) e;
    }
