-- Names without their numbers: constants, forms and faults of expressions are the same.
use Rattle.std.proofs.Common.{◌≡◌, ℕ, zero, suc, ◌+◌, ◌*◌, Bool, true, false, if◌then◌else◌, List, [], ◌∷◌, ◌++◌, Option, Some, None, refl, sym, ap, ◌∙◌, ◌&&◌, not}
use Rattle.std.specs.Prelude.{ℤ, pos, fold, flat_map, ◌||◌, codes}
use Rattle.std.specs.Str.{bytes_eq}
use Rattle.vl_flat.specs.vl_base.specs.declared.place.Place.{Place}
use Rattle.vl_flat.specs.vl_tree.specs.declared.tree.SelectMark.{SelectMark}
use Rattle.vl_flat.specs.vl_tree.specs.declared.tree.SelectMark.TheVariants as m
use Rattle.vl_flat.specs.vl_design.specs.declared.design.Form.{Form}
use Rattle.vl_flat.specs.vl_design.specs.declared.stop.Stop.{Stop}
use Rattle.vl_flat.specs.vl_design.specs.Rows.{has_width}
use Rattle.vl_flat.specs.vl_design.specs.Stops.{construct_if}
use Rattle.vl_flat.specs.vl_design.specs.Width.{unsigned, joined, binary_form}
use Rattle.vl_flat.specs.vl_design.specs.Placed as p
use Rattle.vl_flat.specs.declared.binding.Binding.{Binding}
use Rattle.vl_flat.specs.declared.binding.Binding.TheVariants as b
use Rattle.vl_flat.specs.Surface as x
use Rattle.vl_flat.specs.Scopes.{Env, Scope, form_of, range_of, number_of, shape_form}
use Rattle.vl_flat.specs.Constants.{bound_of, count_of, is_bound, is_count, is_width}
use Rattle.vl_flat.specs.Expressions as e
use Rattle.vl_flat.specs.ExpressionFaults as f
use Rattle.vl_sound.specs.Bare.{bare, bare_of, bare_env, bare_scope}
use Rattle.vl_flat.specs.vl_base.proofs.Booleans.{and_left as left-true, and_right as right-true}

-- ---- what names stand for

pub form-kept : (o : Option Binding) → form_of (bare_of o) ≡ form_of o
form-kept None = refl
form-kept (Some (b.Constant c)) = refl
form-kept (Some (b.Signal k s)) = refl
form-kept (Some (b.Function k c)) = refl

parameter-kept : (o : Option Binding) → e.is_parameter (bare_of o) ≡ e.is_parameter o
parameter-kept None = refl
parameter-kept (Some (b.Constant c)) = refl
parameter-kept (Some (b.Signal k s)) = refl
parameter-kept (Some (b.Function k c)) = refl

whole-kept : (at : Place) (o : Option Binding) → e.is_parameter o ≡ true → e.whole at (bare_of o) ≡ e.whole at o
whole-kept at None h = refl
whole-kept at (Some (b.Constant c)) h = refl
whole-kept at (Some (b.Signal k s)) h = absurd cc
whole-kept at (Some (b.Function k c)) h = absurd cc

module _ (scope : Scope) where
  abbrev less : Scope
  less = bare_scope scope

  -- ---- constants

  pub constant-test : (a : x.Ex) → e.is_constant less.names a ≡ e.is_constant scope.names a
  constant-test (x.Number at n) = refl
  constant-test (x.Text at text) = refl
  constant-test (x.Named at name x.NoSelects) = parameter-kept (scope.names name)
  constant-test (x.Named at name (x.Index q j others)) = refl
  constant-test (x.Named at name (x.Range q mark l r others)) = refl
  constant-test (x.Paren at a) = constant-test a
  constant-test (x.Unary at op a) = constant-test a
  constant-test (x.Binary at op a c) = λ i. constant-test a i && constant-test c i
  constant-test (x.Choice at t a c) = λ i. constant-test t i && (constant-test a i && constant-test c i)
  constant-test (x.Joined at es) = refl
  constant-test (x.Repeated at n es) = refl
  constant-test (x.Called at name es) = refl
  constant-test (x.System at name given) = refl

  value-kept : (a : x.Ex) → e.is_constant scope.names a ≡ true → e.exp less a ≡ e.exp scope a
  value-kept (x.Number at n) h = refl
  value-kept (x.Text at text) h = refl
  value-kept (x.Named at name x.NoSelects) h = whole-kept at (scope.names name) h
  value-kept (x.Named at name (x.Index q j others)) h = absurd cc
  value-kept (x.Named at name (x.Range q mark l r others)) h = absurd cc
  value-kept (x.Paren at a) h = value-kept a h
  value-kept (x.Unary at op a) h = λ i. e.marked at (e.unary_of op) (value-kept a h i)
  value-kept (x.Binary at op a c) h =
      let k = left-true (e.is_constant scope.names a) (e.is_constant scope.names c) h in
      let l = right-true (e.is_constant scope.names a) (e.is_constant scope.names c) h in
      λ i. p.Bin at (e.operation op) (value-kept a k i) (value-kept c l i)
  value-kept (x.Choice at t a c) h =
      let k = left-true (e.is_constant scope.names t) (e.is_constant scope.names a && e.is_constant scope.names c) h in
      let l = right-true (e.is_constant scope.names t) (e.is_constant scope.names a && e.is_constant scope.names c) h in
      let q = left-true (e.is_constant scope.names a) (e.is_constant scope.names c) l in
      let r = right-true (e.is_constant scope.names a) (e.is_constant scope.names c) l in
      λ i. p.Cond at (value-kept t k i) (value-kept a q i) (value-kept c r i)
  value-kept (x.Joined at es) h = absurd cc
  value-kept (x.Repeated at n es) h = absurd cc
  value-kept (x.Called at name es) h = absurd cc
  value-kept (x.System at name given) h = absurd cc

  pub constant-kept : (a : x.Ex) → e.constant less a ≡ e.constant scope a
  constant-kept a = by (e.is_constant scope.names a) refl
    where
      zero-bit : p.Exp
      zero-bit = p.Num (x.place_of a) 0 1 false

      by : (c : Bool) → e.is_constant scope.names a ≡ c
          → (if e.is_constant less.names a then e.exp less a else p.Num (x.place_of a) 0 1 false) ≡ (if e.is_constant scope.names a then e.exp scope a else p.Num (x.place_of a) 0 1 false)
      by true h =
          ap (λ (c : Bool). if c then e.exp less a else p.Num (x.place_of a) 0 1 false) (constant-test a ∙ h)
          ∙ (value-kept a h ∙ sym (ap (λ (c : Bool). if c then e.exp scope a else p.Num (x.place_of a) 0 1 false) h))
      by false h =
          ap (λ (c : Bool). if c then e.exp less a else p.Num (x.place_of a) 0 1 false) (constant-test a ∙ h)
          ∙ sym (ap (λ (c : Bool). if c then e.exp scope a else p.Num (x.place_of a) 0 1 false) h)

  taken-kept : (mark : SelectMark) (l r : x.Ex) → e.taken less mark l r ≡ e.taken scope mark l r
  taken-kept mark l r = λ i. e.part_width mark (constant-kept l i) (constant-kept r i)

  -- ---- selects

  abbrev one-of : Bool → ℕ → Option ℕ
  one-of c k = if c then Some k else None

  steps-form : (c : Bool) (j k : ℕ) (r : ℤ × ℤ) (ss : x.Selects) (y : Form)
      → fold e.step_form y (e.steps less (one-of c j) r ss) ≡ fold e.step_form y (e.steps scope (one-of c k) r ss)
  steps-form c j k r x.NoSelects y = refl
  steps-form true j k r (x.Index q a others) y = steps-form false j k r others y
  steps-form false j k r (x.Index q a others) y = steps-form false j k (e.bits_of 1) others (unsigned 1)
  steps-form c j k r (x.Range q m.Range l h others) y =
      ap (λ w. fold e.step_form (unsigned w) (e.steps less None (e.bits_of w) others)) (taken-kept m.Range l h) ∙ steps-form false j k (e.bits_of (e.taken scope m.Range l h)) others (unsigned (e.taken scope m.Range l h))
  steps-form c j k r (x.Range q m.Up l h others) y =
      ap (λ w. fold e.step_form (unsigned w) (e.steps less None (e.bits_of w) others)) (taken-kept m.Up l h) ∙ steps-form false j k (e.bits_of (e.taken scope m.Up l h)) others (unsigned (e.taken scope m.Up l h))
  steps-form c j k r (x.Range q m.Down l h others) y =
      ap (λ w. fold e.step_form (unsigned w) (e.steps less None (e.bits_of w) others)) (taken-kept m.Down l h) ∙ steps-form false j k (e.bits_of (e.taken scope m.Down l h)) others (unsigned (e.taken scope m.Down l h))

  steps-turn : (at : Place) (c : Bool) (j k : ℕ) (r : ℤ × ℤ) (ss : x.Selects)
      → flat_map (f.direction less at) (e.steps less (one-of c j) r ss) ≡ flat_map (f.direction scope at) (e.steps scope (one-of c k) r ss)
  steps-turn at c j k r x.NoSelects = refl
  steps-turn at true j k r (x.Index q a others) = steps-turn at false j k r others
  steps-turn at false j k r (x.Index q a others) = steps-turn at false j k (e.bits_of 1) others
  steps-turn at c j k r (x.Range q m.Range l h others) =
      let rest = ap (λ w. flat_map (f.direction less at) (e.steps less None (e.bits_of w) others)) (taken-kept m.Range l h) ∙ steps-turn at false j k (e.bits_of (e.taken scope m.Range l h)) others in
      λ i. construct_if (f.turns_round r (bound_of (constant-kept l i)) (bound_of (constant-kept h i))) at 11 ++ rest i
  steps-turn at c j k r (x.Range q m.Up l h others) =
      ap (λ w. flat_map (f.direction less at) (e.steps less None (e.bits_of w) others)) (taken-kept m.Up l h) ∙ steps-turn at false j k (e.bits_of (e.taken scope m.Up l h)) others
  steps-turn at c j k r (x.Range q m.Down l h others) =
      ap (λ w. flat_map (f.direction less at) (e.steps less None (e.bits_of w) others)) (taken-kept m.Down l h) ∙ steps-turn at false j k (e.bits_of (e.taken scope m.Down l h)) others

  pub named-form : (o : Option Binding) (ss : x.Selects) → e.named_form less (bare_of o) ss ≡ e.named_form scope o ss
  named-form None ss = steps-form false 0 0 (pos 0, pos 0) ss (unsigned 1)
  named-form (Some (b.Constant c)) ss = steps-form false 0 0 (c.left, c.right) ss (record { width = c.width; signed = c.signed })
  named-form (Some (b.Signal k s)) ss = steps-form (e.is_mem s.kind) 0 k (s.left, s.right) ss (shape_form s)
  named-form (Some (b.Function k c)) ss = steps-form false 0 0 (pos 0, pos 0) ss c

  named-turn : (at : Place) (o : Option Binding) (ss : x.Selects) → f.directions less at (bare_of o) ss ≡ f.directions scope at o ss
  named-turn at None ss = steps-turn at false 0 0 (pos 0, pos 0) ss
  named-turn at (Some (b.Constant c)) ss = steps-turn at false 0 0 (c.left, c.right) ss
  named-turn at (Some (b.Signal k s)) ss = steps-turn at (e.is_mem s.kind) 0 k (s.left, s.right) ss
  named-turn at (Some (b.Function k c)) ss = steps-turn at false 0 0 (pos 0, pos 0) ss

  -- ---- forms

  mutual
    pub width-kept : (a : x.Ex) → e.form less a ≡ e.form scope a
    width-kept (x.Number at n) = refl
    width-kept (x.Text at text) = refl
    width-kept (x.Named at name ss) = named-form (scope.names name) ss
    width-kept (x.Paren at a) = width-kept a
    width-kept (x.Unary at op a) = λ i. e.marked_form (e.unary_of op) (width-kept a i)
    width-kept (x.Binary at op a c) = λ i. binary_form (e.operation op) (width-kept a i) (width-kept c i)
    width-kept (x.Choice at t a c) = λ i. joined (width-kept a i) (width-kept c i)
    width-kept (x.Joined at es) = λ i. unsigned (widths-kept es i)
    width-kept (x.Repeated at n es) = λ i. unsigned (count_of (constant-kept n i) * widths-kept es i)
    width-kept (x.Called at name es) = form-kept (scope.calls name)
    width-kept (x.System at name given) = λ i. e.system_form scope name (first-kept given i)

    widths-kept : (es : x.Exs) → e.total_width less es ≡ e.total_width scope es
    widths-kept x.NoExs = refl
    widths-kept (x.MoreExs a es) = λ i. (width-kept a i).width + widths-kept es i

    first-kept : (given : x.Args) → e.first_form less given ≡ e.first_form scope given
    first-kept x.NoArgs = refl
    first-kept (x.NullArg others) = refl
    first-kept (x.MoreArgs a others) = width-kept a

  -- ---- faults

  past-kept : (a : x.Ex) → f.past less a ≡ f.past scope a
  past-kept a = λ i. construct_if (not (has_width (width-kept a i).width) && not (f.holds_long a)) (x.node_place a) 10

  pub must-kept : (test : p.Exp → Bool) (a : x.Ex) (n : ℕ) → f.constant_must less test a n ≡ f.constant_must scope test a n
  must-kept test a n = λ i. construct_if (not (f.holds_long a) && not (test (constant-kept a i))) (x.node_place a) n

  left-kept : (mark : SelectMark) (a : x.Ex) → f.left_bound less mark a ≡ f.left_bound scope mark a
  left-kept m.Range a = must-kept is_bound a 10
  left-kept m.Up a = refl
  left-kept m.Down a = refl

  right-kept : (mark : SelectMark) (a : x.Ex) → f.right_bound less mark a ≡ f.right_bound scope mark a
  right-kept m.Range a = must-kept is_bound a 10
  right-kept m.Up a = must-kept is_width a 11
  right-kept m.Down a = must-kept is_width a 11

  argument-kept : (keeps : Bool) (a : x.Ex) (ys zs : List Stop) → ys ≡ zs → f.argument_faults less keeps a ys ≡ f.argument_faults scope keeps a zs
  argument-kept false a ys zs h = h
  argument-kept true (x.Number at n) ys zs h = h
  argument-kept true (x.Text at text) ys zs h = refl
  argument-kept true (x.Named at name ss) ys zs h = h
  argument-kept true (x.Paren at a) ys zs h = h
  argument-kept true (x.Unary at op a) ys zs h = h
  argument-kept true (x.Binary at op a c) ys zs h = h
  argument-kept true (x.Choice at t a c) ys zs h = h
  argument-kept true (x.Joined at es) ys zs h = h
  argument-kept true (x.Repeated at n es) ys zs h = h
  argument-kept true (x.Called at name es) ys zs h = h
  argument-kept true (x.System at name given) ys zs h = h

  mutual
    pub faults-kept : (a : x.Ex) → f.faults less a ≡ f.faults scope a
    faults-kept (x.Number at n) = refl
    faults-kept (x.Text at text) = refl
    faults-kept (x.Named at name ss) = λ i. past-kept (x.Named at name ss) i ++ (named-turn at (scope.names name) ss i ++ selects-kept ss i)
    faults-kept (x.Paren at a) = faults-kept a
    faults-kept (x.Unary at op a) = λ i. past-kept (x.Unary at op a) i ++ faults-kept a i
    faults-kept (x.Binary at op a c) = λ i. past-kept (x.Binary at op a c) i ++ (faults-kept a i ++ faults-kept c i)
    faults-kept (x.Choice at t a c) = λ i. past-kept (x.Choice at t a c) i ++ (faults-kept t i ++ (faults-kept a i ++ faults-kept c i))
    faults-kept (x.Joined at es) = λ i. past-kept (x.Joined at es) i ++ all-kept es i
    faults-kept (x.Repeated at n es) = λ i. past-kept (x.Repeated at n es) i ++ (faults-kept n i ++ (must-kept is_count n 10 i ++ all-kept es i))
    faults-kept (x.Called at name es) = λ i. past-kept (x.Called at name es) i ++ all-kept es i
    faults-kept (x.System at name given) = λ i. past-kept (x.System at name given) i ++ args-kept (e.keeps_texts name) given i

    pub all-kept : (es : x.Exs) → f.all_faults less es ≡ f.all_faults scope es
    all-kept x.NoExs = refl
    all-kept (x.MoreExs a es) = λ i. faults-kept a i ++ all-kept es i

    selects-kept : (ss : x.Selects) → f.selects_faults less ss ≡ f.selects_faults scope ss
    selects-kept x.NoSelects = refl
    selects-kept (x.Index q a others) = λ i. faults-kept a i ++ selects-kept others i
    selects-kept (x.Range q mark l r others) = λ i. faults-kept l i ++ (left-kept mark l i ++ (faults-kept r i ++ (right-kept mark r i ++ selects-kept others i)))

    args-kept : (keeps : Bool) (given : x.Args) → f.args_faults less keeps given ≡ f.args_faults scope keeps given
    args-kept keeps x.NoArgs = refl
    args-kept keeps (x.NullArg others) = args-kept keeps others
    args-kept keeps (x.MoreArgs a others) = λ i. argument-kept keeps a (f.faults less a) (f.faults scope a) (faults-kept a) i ++ args-kept keeps others i

  pub name-kept : (at : Place) (o : Option Binding) (ss : x.Selects) → f.name_faults less at (bare_of o) ss ≡ f.name_faults scope at o ss
  name-kept at o ss = λ i. named-turn at o ss i ++ selects-kept ss i

  -- ---- texts to display

  display-kept : (n : ℕ) (given : x.Args) → f.display_faults less n given ≡ f.display_faults scope n given
  display-kept zero x.NoArgs = refl
  display-kept (suc n) x.NoArgs = refl
  display-kept zero (x.NullArg others) = display-kept zero others
  display-kept zero (x.MoreArgs (x.Text at text) others) = display-kept (f.items_in text) others
  display-kept zero (x.MoreArgs (x.Number at n) others) = λ i. faults-kept (x.Number at n) i ++ display-kept zero others i
  display-kept zero (x.MoreArgs (x.Named at name ss) others) = λ i. faults-kept (x.Named at name ss) i ++ display-kept zero others i
  display-kept zero (x.MoreArgs (x.Paren at a) others) = λ i. faults-kept (x.Paren at a) i ++ display-kept zero others i
  display-kept zero (x.MoreArgs (x.Unary at op a) others) = λ i. faults-kept (x.Unary at op a) i ++ display-kept zero others i
  display-kept zero (x.MoreArgs (x.Binary at op a c) others) = λ i. faults-kept (x.Binary at op a c) i ++ display-kept zero others i
  display-kept zero (x.MoreArgs (x.Choice at t a c) others) = λ i. faults-kept (x.Choice at t a c) i ++ display-kept zero others i
  display-kept zero (x.MoreArgs (x.Joined at es) others) = λ i. faults-kept (x.Joined at es) i ++ display-kept zero others i
  display-kept zero (x.MoreArgs (x.Repeated at n es) others) = λ i. faults-kept (x.Repeated at n es) i ++ display-kept zero others i
  display-kept zero (x.MoreArgs (x.Called at name es) others) = λ i. faults-kept (x.Called at name es) i ++ display-kept zero others i
  display-kept zero (x.MoreArgs (x.System at name given) others) = λ i. faults-kept (x.System at name given) i ++ display-kept zero others i
  display-kept (suc n) (x.NullArg others) = display-kept n others
  display-kept (suc n) (x.MoreArgs a others) = λ i. faults-kept a i ++ display-kept n others i

  pub task-kept : (name : List ℕ) (given : x.Args) → f.task_faults less name given ≡ f.task_faults scope name given
  task-kept name given =
      λ i. if bytes_eq name (codes "$display") || bytes_eq name (codes "$write") then display-kept zero given i else args-kept (e.keeps_texts name) given i
