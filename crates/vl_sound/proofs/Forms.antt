-- An expression has in the design the width and the sign by which it is judged.
use Rattle.std.proofs.Common.{◌≡◌, ℕ, ◌+◌, ◌*◌, Bool, true, false, if◌then◌else◌, List, length, Option, Some, None, refl, ap, ◌∙◌}
use Rattle.std.specs.Prelude.{ℤ, max, fold, codes}
use Rattle.std.specs.Str.{bytes_eq}
use Rattle.vl_flat.specs.vl_base.specs.declared.place.Place.{Place}
use Rattle.vl_flat.specs.vl_base.specs.declared.bits.UnOp.{UnOp}
use Rattle.vl_flat.specs.vl_tree.specs.declared.tree.SelectMark.{SelectMark}
use Rattle.vl_flat.specs.vl_tree.specs.declared.tree.SelectMark.TheVariants as m
use Rattle.vl_flat.specs.vl_design.specs.declared.design.Form.{Form}
use Rattle.vl_flat.specs.vl_design.specs.Width as w
use Rattle.vl_flat.specs.declared.binding.Binding.{Binding}
use Rattle.vl_flat.specs.declared.binding.Binding.TheVariants.{Constant, Signal, Function}
use Rattle.vl_flat.specs.declared.binding.Shape.{Shape}
use Rattle.vl_flat.specs.Surface as x
use Rattle.vl_flat.specs.vl_design.specs.Placed as p
use Rattle.vl_flat.specs.vl_design.specs.Plainly as plain
use Rattle.vl_flat.specs.Scopes.{Scope, form_of, shape_form, range_of, number_of}
use Rattle.vl_flat.specs.Constants.{count_of}
use Rattle.vl_flat.specs.Expressions as e
use Rattle.vl_sound.specs.Naming.{StandsIn, IsValue, IsCalled, IsResolved, AreResolved, AreResolvedArgs}

module _ (scope : Scope) (design : w.Names) (stands : StandsIn scope design) where
  -- the form of a placed expression in the design
  abbrev form-of : p.Exp → Form
  form-of a = w.form design (plain.exp a)

  -- ---- names

  abbrev Stands : Option Binding → Type 0
  Stands b = (k : ℕ) (s : Shape) → b ≡ Some (Signal k s) → w.signal_form design.rows k ≡ shape_form s

  whole-same : (at : Place) (b : Option Binding) → IsValue b → Stands b → form-of (e.whole at b) ≡ form_of b
  whole-same at None v h = refl
  whole-same at (Some (Constant c)) v h = refl
  whole-same at (Some (Signal k s)) v h = h k s refl
  whole-same at (Some (Function k f)) v h = absurd v

  -- ---- selects

  -- a word of the memory of a number has the form of what is selected
  abbrev Fits : Option ℕ → Form → Type 0
  Fits None f = Unit {0}
  Fits (Some k) f = w.signal_form design.rows k ≡ f

  fits : (b : Option Binding) → Stands b → Fits (e.memory_of b) (form_of b)
  fits None h = tt
  fits (Some (Constant c)) h = tt
  fits (Some (Function k f)) h = tt
  fits (Some (Signal k s)) h = by (e.is_mem s.kind)
    where
      by : (c : Bool) → Fits (if c then Some k else None) (shape_form s)
      by true = h k s refl
      by false = tt

  part-same : (at : Place) (base : p.Exp) (f : Form) (r : ℤ × ℤ) (mark : SelectMark) (i a b : p.Exp) (n : ℕ)
      → form-of (e.stepped at base (e.part r mark i a b n)) ≡ e.step_form f (e.part r mark i a b n)
  part-same at base f r m.Range i a b n = refl
  part-same at base f r m.Up i a b n = refl
  part-same at base f r m.Down i a b n = refl

  -- each step leaves of a value what it leaves of its form
  steps-same : (at : Place) (memory : Option ℕ) (r : ℤ × ℤ) (ss : x.Selects) (base : p.Exp) (f : Form) → Fits memory f → form-of base ≡ f
      → form-of (fold (e.stepped at) base (e.steps scope memory r ss)) ≡ fold e.step_form f (e.steps scope memory r ss)
  steps-same at memory r x.NoSelects base f k h = h
  steps-same at (Some m) r (x.Index q i others) base f k h = steps-same at None r others (p.Word at m (e.exp scope i)) f tt k
  steps-same at None r (x.Index q i others) base f k h =
      steps-same at None (e.bits_of 1) others (e.stepped at base (e.bit r (e.exp scope i))) (w.unsigned 1) tt refl
  steps-same at memory r (x.Range q mark a b others) base f k h =
      let n = e.part_width mark (e.constant scope a) (e.constant scope b) in
      let step = e.part r mark (e.exp scope a) (e.constant scope a) (e.constant scope b) n in
      steps-same at None (e.bits_of n) others (e.stepped at base step) (e.step_form f step) tt
      (part-same at base f r mark (e.exp scope a) (e.constant scope a) (e.constant scope b) n)

  named-same : (at : Place) (b : Option Binding) (ss : x.Selects) → IsValue b → Stands b
      → form-of (fold (e.stepped at) (e.whole at b) (e.steps_of scope b ss)) ≡ e.named_form scope b ss
  named-same at b ss v h = steps-same at (e.memory_of b) (range_of b) ss (e.whole at b) (form_of b) (fits b h) (whole-same at b v h)

  -- ---- operators

  marked-same : (at : Place) (op : Option UnOp) (a : p.Exp) (f : Form) → form-of a ≡ f → form-of (e.marked at op a) ≡ e.marked_form op f
  marked-same at None a f h = h
  marked-same at (Some op) a f h = ap (w.unary_form op) h

  text-same : (at : Place) (text : List ℕ) → form-of (e.operand at text) ≡ e.text_form text
  text-same at text = by (e.is_long text)
    where
      bits : ℕ
      bits = 8 * max 1 (length text)

      by : (c : Bool) → ◌≡◌ {A = Form} (record { width = (if c then w.unsigned 1 else w.unsigned bits).width; signed = false }) (if c then w.unsigned 1 else w.unsigned bits)
      by true = refl
      by false = refl

  called-same : (at : Place) (b : Option Binding) (es : p.Exps) → IsCalled b → ((k : ℕ) (f : Form) → b ≡ Some (Function k f) → w.result_form design k ≡ f) → form-of (p.Call at (number_of b) es) ≡ form_of b
  called-same at (Some (Function k f)) es v h = h k f refl
  called-same at (Some (Constant c)) es v h = absurd v
  called-same at (Some (Signal k s)) es v h = absurd v
  called-same at None es v h = absurd v

  system-same : (at : Place) (name : List ℕ) (first : p.Exp) (f : Form) (args : p.Args) → form-of first ≡ f → form-of (e.called_system at name first args) ≡ e.system_form scope name f
  system-same at name first f args h = by (bytes_eq name (codes "$signed")) (bytes_eq name (codes "$unsigned")) (bytes_eq name (codes "$time"))
    where
      by : (a b c : Bool) → form-of (if a then p.Cast at true first else if b then p.Cast at false first else if c then p.Time at else p.Sys at name args)
          ≡ (if a then record { width = f.width; signed = true } else if b then record { width = f.width; signed = false } else if c then w.unsigned 64 else record { width = 32; signed = true })
      by true b c = ap (λ (z : Form). record { width = z.width; signed = true }) h
      by false true c = ap (λ (z : Form). record { width = z.width; signed = false }) h
      by false false true = refl
      by false false false = refl

  -- ---- expressions

  mutual
    pub form-same : (a : x.Ex) → IsResolved scope a → form-of (e.exp scope a) ≡ e.form scope a
    form-same (x.Number at n) v = refl
    form-same (x.Text at text) v = text-same at text
    form-same (x.Named at t ss) v = named-same at (scope.names t) ss v.0 (λ k s h. stands.signals t k s h)
    form-same (x.Paren at a) v = form-same a v
    form-same (x.Unary at op a) v = marked-same at (e.unary_of op) (e.exp scope a) (e.form scope a) (form-same a v)
    form-same (x.Binary at op a b) v =
        ap (λ z. w.binary_form (e.operation op) z (form-of (e.exp scope b))) (form-same a v.0) ∙ ap (w.binary_form (e.operation op) (e.form scope a)) (form-same b v.1)
    form-same (x.Choice at t a b) v = ap (λ z. w.joined z (form-of (e.exp scope b))) (form-same a v.1) ∙ ap (w.joined (e.form scope a)) (form-same b v.2)
    form-same (x.Joined at es) v = ap w.unsigned (total-same es v)
    form-same (x.Repeated at n es) v = ap (λ z. w.unsigned (count_of (e.constant scope n) * z)) (total-same es v.1)
    form-same (x.Called at t es) v = called-same at (scope.calls t) (e.exps scope es) v.0 (λ k f h. stands.functions t k f h)
    form-same (x.System at name given) v =
        system-same at name (e.first_of scope at given) (e.first_form scope given) (e.args scope (e.keeps_texts name) given) (first-same at given v)

    total-same : (es : x.Exs) → AreResolved scope es → w.total_width design (plain.exps (e.exps scope es)) ≡ e.total_width scope es
    total-same x.NoExs v = refl
    total-same (x.MoreExs a es) v =
        ap (λ (z : Form). z.width + w.total_width design (plain.exps (e.exps scope es))) (form-same a v.0) ∙ ap (λ z. (e.form scope a).width + z) (total-same es v.1)

    first-same : (at : Place) (given : x.Args) → AreResolvedArgs scope given → form-of (e.first_of scope at given) ≡ e.first_form scope given
    first-same at x.NoArgs v = refl
    first-same at (x.NullArg others) v = refl
    first-same at (x.MoreArgs a others) v = form-same a v.0
