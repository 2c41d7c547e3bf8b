-- The parameters of an instance have from 1 to 128 bits.
use Rattle.std.proofs.Common.{◌≡◌, ℕ, suc, ◌+◌, Bool, true, false, if◌then◌else◌, List, [], ◌∷◌, Option, Some, None, refl, arith}
use Rattle.std.specs.Prelude.{⊤, pos, ◌&&◌, fold, is_some, option_map, All}
use Rattle.std.specs.Str.{bytes_eq}
use Rattle.std.proofs.lemmas.Bool.{and_parts}
use Rattle.std.proofs.lemmas.List.Elements.{All-head, All-tail}
use Rattle.vl_flat.specs.vl_base.specs.declared.bits.UnOp.{UnOp}
use Rattle.vl_flat.specs.vl_base.specs.declared.bits.UnOp.TheVariants.{Neg, Not}
use Rattle.vl_flat.specs.vl_base.specs.declared.bits.BinOp.{BinOp}
use Rattle.vl_flat.specs.vl_base.specs.declared.bits.BinOp.TheVariants.{Shl}
use Rattle.vl_flat.specs.vl_base.specs.declared.place.Place.{Place}
use Rattle.vl_flat.specs.vl_design.specs.declared.design.Form.{Form}
use Rattle.vl_flat.specs.vl_design.specs.Width.{unary_form, binary_form}
use Rattle.vl_flat.specs.vl_design.specs.Sound.{IsWidth}
use Rattle.vl_flat.specs.vl_design.specs.Placed as p
use Rattle.vl_flat.specs.declared.binding.Binding.{Binding}
use Rattle.vl_flat.specs.declared.binding.Binding.TheVariants as b
use Rattle.vl_flat.specs.Surface as x
use Rattle.vl_flat.specs.Items as i
use Rattle.vl_flat.specs.Scopes.{Env, bind, none, plainly}
use Rattle.vl_flat.specs.Constants.{constant_form}
use Rattle.vl_flat.specs.Expressions as e
use Rattle.vl_flat.specs.Ranges.{bits_in, written, is_wide, parameter_range}
use Rattle.vl_flat.specs.Parameters.{converted, value_of}
use Rattle.vl_flat.specs.Kinds.{kind_of}
use Rattle.vl_flat.specs.Environments.{Counts, Given, Known, plus, shape, with_signal, with_parameter, with_item, environment, size}
use Rattle.vl_flat.specs.Functions.{local_shape, with_locals, function_scope}
use Rattle.vl_flat.specs.Connections as cn
use Rattle.vl_sound.specs.Used as u
use Rattle.vl_sound.specs.Instances.{IsInstance, of_top, of_item}
use Rattle.vl_sound.specs.Widths.{HasWidth, HaveWidths}
use Rattle.vl_sound.proofs.Parts.{one-bit, number-is, operand-is, narrow-is, at-split}
use Rattle.vl_sound.proofs.Connected.{connected-value}

abbrev IsWide : Form → Type 0
IsWide f = IsWidth f.width

-- a constant in place of a parameter's default, if there is one
abbrev HasWideValue : Option p.Exp → Type 0
HasWideValue None = ⊤
HasWideValue (Some a) = IsWide (constant_form a)

abbrev AreWide : Given → Type 0
AreWide g = (t : List ℕ) → HasWideValue (g.overrides t)

-- ---- operators

unary-wide : (op : UnOp) (a : Form) → IsWide a → IsWide (unary_form op a)
unary-wide Neg a h = h
unary-wide Not a h = h
unary-wide op a h = one-bit

binary-wide : (op : BinOp) (a c : Form) → IsWide a → IsWide c → IsWide (binary_form op a c)
binary-wide Shl a c h k = h
binary-wide op a c h k = record { wide = omega (arith, h.wide, k.wide); narrow = omega (arith, h.narrow, k.narrow) }

marked-wide : (at : Place) (op : Option UnOp) (a : p.Exp) → IsWide (constant_form a) → IsWide (constant_form (e.marked at op a))
marked-wide at None a h = h
marked-wide at (Some op) a h = unary-wide op (constant_form a) h

-- ---- constants

module _ (k : u.Classes) (env : Env) (widths : HaveWidths env) where
  parameter-wide : (at : Place) (o : Option Binding) → HasWidth o → e.is_parameter o ≡ true → IsWide (constant_form (e.whole at o))
  parameter-wide at (Some (b.Constant a)) w h = w
  parameter-wide at o w h = absurd cc

  constant-wide : (a : x.Ex) → u.IsUsed k a → e.is_constant env a ≡ true → IsWide (constant_form (e.exp (plainly env) a))
  constant-wide (x.Number at n) v h = (number-is n v).0
  constant-wide (x.Text at text) v h = (operand-is text).0
  constant-wide (x.Named at t x.NoSelects) v h = parameter-wide at (env t) (widths t) h
  constant-wide (x.Paren at a) v h = constant-wide a v h
  constant-wide (x.Unary at op a) v h = marked-wide at (e.unary_of op) (e.exp (plainly env) a) (constant-wide a v h)
  constant-wide (x.Binary at op a c) v h =
      let (l, r) = and_parts (e.is_constant env a) (e.is_constant env c) h in
      binary-wide (e.operation op) (constant_form (e.exp (plainly env) a)) (constant_form (e.exp (plainly env) c)) (constant-wide a v.0 l) (constant-wide c v.1 r)
  constant-wide (x.Choice at t a c) v h =
      let (_, both) = and_parts (e.is_constant env t) (e.is_constant env a && e.is_constant env c) h in
      let (l, r) = and_parts (e.is_constant env a) (e.is_constant env c) both in
      let left = constant-wide a v.1 l in
      let right = constant-wide c v.2 r in
      record { wide = omega (arith, left.wide, right.wide); narrow = omega (arith, left.narrow, right.narrow) }
  constant-wide a v h = absurd cc

  -- also where no constant stands
  value-wide : (a : x.Ex) → u.IsUsed k a → IsWide (constant_form (e.constant (plainly env) a))
  value-wide a v = by (e.is_constant env a) refl
    where
      by : (c : Bool) → e.is_constant env a ≡ c → IsWide (constant_form (if c then e.exp (plainly env) a else p.Num (x.place_of a) 0 1 false))
      by true h = constant-wide a v h
      by false h = one-bit

  optional-wide : (o : Option x.Ex) → u.IsUsedValue k o → HasWideValue (option_map (e.constant (plainly env)) o)
  optional-wide None v = tt
  optional-wide (Some a) v = value-wide a v

range-wide : (env : Env) (type : i.DataType) → IsWidth (bits_in (parameter_range env type))
range-wide env type = by (is_wide env type) refl
  where
    by : (c : Bool) → is_wide env type ≡ c → IsWidth (bits_in (if c then (pos 0, pos 0) else written env type))
    by true h = one-bit
    by false h = narrow-is (written env type) h

converted-wide : (env : Env) (type : i.DataType) (a : p.Exp) → IsWide (constant_form a) → IsWidth (converted env type a).width
converted-wide env (i.Vector signed None) a h = h
converted-wide env (i.Vector signed (Some r)) a h = range-wide env (i.Vector signed (Some r))
converted-wide env i.Integer a h = range-wide env i.Integer

-- ---- names

bind-widths : (env : Env) (name : List ℕ) (y : Binding) → HaveWidths env → HasWidth (Some y) → HaveWidths (bind env name y)
bind-widths env name y h w = λ t. by t (bytes_eq name t)
  where
    by : (t : List ℕ) (c : Bool) → HasWidth (if c then Some y else env t)
    by t true = w
    by t false = h t

locals-widths : (outer : Env) (a : i.Function) (ls : List i.Local) (env : Env) (n : ℕ) → HaveWidths env → HaveWidths (with_locals outer env a n ls)
locals-widths outer a [] env n h = h
locals-widths outer a (l ∷ ls) env n h =
    let y = b.Signal n (local_shape outer a l) in
    locals-widths outer a ls (bind env l.name.name y) (n + 1) (bind-widths env l.name.name y h tt)

-- the names in a function
pub function-widths : (behind : ℕ) (env : Env) (a : i.Function) → HaveWidths env → HaveWidths (function_scope behind env a).names
function-widths behind env a h = locals-widths env a a.locals env behind h

-- ---- the names of an instance that is given such constants

module _ (k : u.Classes) (sizes : List ℕ → Counts) (g : Given) (m : i.Module) (wide : AreWide g) where
  abbrev IsUsedParameter : i.Parameter → Type 0
  IsUsedParameter a = u.IsUsed k a.value

  given-wide : (env : Env) (a : i.Parameter) → HaveWidths env → IsUsedParameter a → (o : Option p.Exp) → HasWideValue o → IsWide (constant_form (value_of env o a))
  given-wide env a h v None w = value-wide k env h a.value v
  given-wide env a h v (Some y) w = w

  parameters-widths : (type : i.DataType) (as' : List i.Parameter) (q : Known) → All IsUsedParameter as' → HaveWidths q.env → HaveWidths (fold (with_parameter g type) q as').env
  parameters-widths type [] q v h = h
  parameters-widths type (a ∷ as') q v h =
      let value = value_of q.env (g.overrides a.name.name) a in
      let own = converted-wide q.env type value (given-wide q.env a h (All-head IsUsedParameter a as' v) (g.overrides a.name.name) (wide a.name.name)) in
      parameters-widths type as' (with_parameter g type q a) (All-tail IsUsedParameter a as' v) (bind-widths q.env a.name.name (b.Constant (converted q.env type value)) h own)

  signal-widths : (y : i.Declared) (q : Known) → HaveWidths q.env → HaveWidths (with_signal g m q y).env
  signal-widths y q h =
      let t = y.name.name in
      let z = b.Signal q.next.signals (shape q.env (kind_of m (g.clocks t) (g.wired t) t) y) in
      by (record { env = bind q.env t z; next = plus q.next (record { signals = 1; functions = 0 }) }) (bind-widths q.env t z h tt) (is_some (q.env t))
    where
      by : (more : Known) → HaveWidths more.env → (c : Bool) → HaveWidths (if c then q else more).env
      by more i true = h
      by more i false = i

  signals-widths : (ds : List i.Declared) (q : Known) → HaveWidths q.env → HaveWidths (fold (with_signal g m) q ds).env
  signals-widths [] q h = h
  signals-widths (y ∷ ds) q h = signals-widths ds (with_signal g m q y) (signal-widths y q h)

  item-widths : (item : i.Item) (q : Known) → u.IsUsedItem k item → HaveWidths q.env → HaveWidths (with_item sizes g m q item).env
  item-widths (i.Parameters type as') q v h = parameters-widths type as' q v.1 h
  item-widths (i.Signals ds) q v h = signals-widths ds q h
  item-widths (i.Functions f) q v h = bind-widths q.env f.name.name _ h tt
  item-widths (i.Assigns as') q v h = h
  item-widths (i.Initial at a) q v h = h
  item-widths (i.Always at trigger a) q v h = h
  item-widths (i.Instantiates us) q v h = h

  items-widths : (items : List i.Item) (q : Known) → All (u.IsUsedItem k) items → HaveWidths q.env → HaveWidths (fold (with_item sizes g m) q items).env
  items-widths [] q v h = h
  items-widths (item ∷ items) q v h =
      items-widths items (with_item sizes g m q item) (All-tail (u.IsUsedItem k) item items v) (item-widths item q (All-head (u.IsUsedItem k) item items v) h)

  environment-widths : u.AreUsedIn k m → HaveWidths (environment sizes g m)
  environment-widths v = items-widths m.items (record { env = none; next = g.base }) v (λ t. tt)

-- ---- instances

-- the names in a module are used as what they are
pub record IsUsedModule (m : i.Module) : Type 0 where
  pub classes : u.Classes
  pub used : u.AreUsedIn classes m

module _ (ms : List i.Module) (top : i.Module) (used : (n : ℕ) (g : Given) (m : i.Module) → IsInstance ms top n g m → IsUsedModule m) where
  -- what an instance is given
  given-widths : (n : ℕ) (g : Given) (m : i.Module) → IsInstance ms top n g m → AreWide g
  given-widths n g m of_top = λ t. tt
  given-widths n g m (of_item n' g' m' of before after us first others y h is split named) = λ t.
      let own = used (suc n') g' m' h in
      let sizes = size (suc n') ms in
      let item = at-split (u.IsUsedItem own.classes) m'.items before after (i.Instantiates us) own.used is in
      optional-wide own.classes (environment sizes g' m') (environment-widths own.classes sizes g' m' (given-widths (suc n') g' m' h) own.used)
      (cn.expression_of (cn.named_connection (cn.spelled of.parameters) us.overrides t)) (connected-value own.classes us.overrides item.0 (cn.spelled of.parameters) t)

  pub instance-widths : (n : ℕ) (g : Given) (m : i.Module) → IsInstance ms top n g m → HaveWidths (environment (size n ms) g m)
  instance-widths n g m h = let own = used n g m h in environment-widths own.classes (size n ms) g m (given-widths n g m h) own.used
