-- A constant is the same wherever its names stand for the same; and the names of an expression are among its parts.
use Rattle.std.proofs.Common.{◌≡◌, ℕ, Bool, true, false, true≢false, if◌then◌else◌, inl, inr, List, [], ◌∷◌, ◌++◌, Option, Some, None, refl, sym, ap, ◌∙◌, subst}
use Rattle.std.specs.Prelude.{◌&&◌, nat_lt}
use Rattle.vl_flat.specs.vl_base.specs.declared.place.Place.{Place}
use Rattle.vl_flat.specs.vl_tree.specs.declared.tree.Expression as e
use Rattle.vl_flat.specs.vl_tree.specs.declared.tree.Choice as c
use Rattle.vl_flat.specs.vl_tree.specs.declared.tree.Binary as b
use Rattle.vl_flat.specs.vl_tree.specs.declared.tree.Primary as p
use Rattle.vl_flat.specs.vl_tree.specs.declared.tree.Name as n
use Rattle.vl_flat.specs.vl_tree.specs.declared.tree.SystemCall as y
use Rattle.vl_flat.specs.vl_tree.specs.declared.tree.Select.{Select}
use Rattle.vl_flat.specs.vl_tree.specs.declared.tree.Identifier.{Identifier}
use Rattle.vl_flat.specs.vl_tree.specs.declared.tree.UnaryMark.{UnaryMark}
use Rattle.vl_flat.specs.vl_tree.specs.declared.tree.UnaryOperator.{UnaryOperator}
use Rattle.vl_flat.specs.vl_tree.specs.declared.tree.BinaryOperator.{BinaryOperator}
use Rattle.vl_flat.specs.vl_tree.specs.Binding.{row_of}
use Rattle.vl_flat.specs.vl_tree.specs.declared.source_tree.Range.{Range as RangeTree}
use Rattle.vl_flat.specs.vl_tree.specs.declared.source_tree.ParameterType.{ParameterType}
use Rattle.vl_flat.specs.vl_tree.specs.declared.source_tree.ParameterType.TheVariants as pt
use Rattle.vl_names.specs.vl_scope.specs.Faults.{In}
use Rattle.vl_names.specs.vl_scope.proofs.Members.{In-append_left, In-append_right}
use Rattle.vl_names.specs.vl_uses.specs.declared.setting.Setting.{Setting}
use Rattle.vl_names.specs.vl_uses.specs.declared.setting.Usage.TheVariants.{Operand}
use Rattle.vl_names.specs.vl_uses.specs.Settings.{constantly}
use Rattle.vl_names.specs.vl_uses.specs.Nodes as u
use Rattle.vl_names.specs.vl_uses.specs.Nodes.{expression_nodes, choice_nodes, choice_row, binary_row, link_row, primary_row, primary_nodes, expression_row}
use Rattle.vl_flat.specs.vl_design.specs.Placed as pl
use Rattle.vl_flat.specs.declared.binding.Binding.{Binding}
use Rattle.vl_flat.specs.Surface as x
use Rattle.vl_flat.specs.Binding as bd
use Rattle.vl_flat.specs.Scopes.{Env, plainly}
use Rattle.vl_flat.specs.Expressions.{is_constant, is_parameter, constant, exp, whole, marked, unary_of, operation}
use Rattle.vl_flat.specs.Constants.{bound_of}
use Rattle.vl_flat.specs.Items.{DataType, Integer, Vector, Bounds}
use Rattle.vl_flat.specs.Declarations as d
use Rattle.vl_flat.specs.Ranges.{optional_bounds, written, is_wide, is_signed, type_range, type_form, bits_in, too_wide}

-- ---- where names stand for the same

module _ (Q : List ℕ → Type 0) where
  -- this holds of each name that a constant reads
  abbrev pub Reads : x.Ex → Type 0
  Reads (x.Named at t ss) = Q t
  Reads (x.Paren at a) = Reads a
  Reads (x.Unary at op a) = Reads a
  Reads (x.Binary at op a z) = Reads a × Reads z
  Reads (x.Choice at t a z) = Reads t × Reads a × Reads z
  Reads a = Unit {0}

module _ (one other : Env) where
  abbrev pub Same : List ℕ → Type 0
  Same t = one t ≡ other t

  constant-alike : (a : x.Ex) → Reads Same a → is_constant one a ≡ is_constant other a
  constant-alike (x.Named at t x.NoSelects) h = ap is_parameter h
  constant-alike (x.Named at t (x.Index q i others)) h = refl
  constant-alike (x.Named at t (x.Range q mark l r others)) h = refl
  constant-alike (x.Paren at a) h = constant-alike a h
  constant-alike (x.Unary at op a) h = constant-alike a h
  constant-alike (x.Binary at op a z) h = ap (λ q. q && is_constant one z) (constant-alike a h.0) ∙ ap (λ q. is_constant other a && q) (constant-alike z h.1)
  constant-alike (x.Choice at t a z) h =
      ap (λ q. q && (is_constant one a && is_constant one z)) (constant-alike t h.0)
      ∙ (ap (λ q. is_constant other t && (q && is_constant one z)) (constant-alike a h.1) ∙ ap (λ q. is_constant other t && (is_constant other a && q)) (constant-alike z h.2))
  constant-alike (x.Number at v) h = refl
  constant-alike (x.Text at text) h = refl
  constant-alike (x.Joined at es) h = refl
  constant-alike (x.Repeated at v es) h = refl
  constant-alike (x.Called at t es) h = refl
  constant-alike (x.System at t es) h = refl

  and-left : (a z : Bool) → (a && z) ≡ true → a ≡ true
  and-left true z h = refl
  and-left false z h = h

  and-right : (a z : Bool) → (a && z) ≡ true → z ≡ true
  and-right true z h = h
  and-right false z h = absurd (true≢false (sym h))

  exp-alike : (a : x.Ex) → Reads Same a → is_constant other a ≡ true → exp (plainly one) a ≡ exp (plainly other) a
  exp-alike (x.Named at t x.NoSelects) h k = ap (whole at) h
  exp-alike (x.Named at t (x.Index q i others)) h k = absurd (true≢false (sym k))
  exp-alike (x.Named at t (x.Range q mark l r others)) h k = absurd (true≢false (sym k))
  exp-alike (x.Paren at a) h k = exp-alike a h k
  exp-alike (x.Unary at op a) h k = ap (marked at (unary_of op)) (exp-alike a h k)
  exp-alike (x.Binary at op a z) h k =
      ap (λ q. pl.Bin at (operation op) q (exp (plainly one) z)) (exp-alike a h.0 (and-left (is_constant other a) (is_constant other z) k))
      ∙ ap (λ q. pl.Bin at (operation op) (exp (plainly other) a) q) (exp-alike z h.1 (and-right (is_constant other a) (is_constant other z) k))
  exp-alike (x.Choice at t a z) h k =
      let r = and-right (is_constant other t) (is_constant other a && is_constant other z) k in
      ap (λ q. pl.Cond at q (exp (plainly one) a) (exp (plainly one) z)) (exp-alike t h.0 (and-left (is_constant other t) (is_constant other a && is_constant other z) k))
      ∙ (ap (λ q. pl.Cond at (exp (plainly other) t) q (exp (plainly one) z)) (exp-alike a h.1 (and-left (is_constant other a) (is_constant other z) r))
      ∙ ap (λ q. pl.Cond at (exp (plainly other) t) (exp (plainly other) a) q) (exp-alike z h.2 (and-right (is_constant other a) (is_constant other z) r)))
  exp-alike (x.Number at v) h k = refl
  exp-alike (x.Text at text) h k = refl
  exp-alike (x.Joined at es) h k = absurd (true≢false (sym k))
  exp-alike (x.Repeated at v es) h k = absurd (true≢false (sym k))
  exp-alike (x.Called at t es) h k = absurd (true≢false (sym k))
  exp-alike (x.System at t es) h k = absurd (true≢false (sym k))

  constants-alike : (a : x.Ex) → Reads Same a → constant (plainly one) a ≡ constant (plainly other) a
  constants-alike a h =
      ap (λ q. if q then exp (plainly one) a else pl.Num (x.place_of a) 0 1 false) (constant-alike a h) ∙ by (is_constant other a) refl
    where
      by : (q : Bool) → is_constant other a ≡ q
          → (if q then exp (plainly one) a else pl.Num (x.place_of a) 0 1 false) ≡ (if q then exp (plainly other) a else pl.Num (x.place_of a) 0 1 false)
      by true k = exp-alike a h k
      by false k = refl

  -- this holds of each name that the bounds of a type read
  abbrev pub ReadsType : DataType → Type 0
  ReadsType (Vector signed (Some r)) = Reads Same r.left × Reads Same r.right
  ReadsType type = Unit {0}

  written-alike : (type : DataType) → ReadsType type → written one type ≡ written other type
  written-alike Integer h = refl
  written-alike (Vector signed None) h = refl
  written-alike (Vector signed (Some r)) h =
      ap (λ q. (bound_of q, bound_of (constant (plainly one) r.right))) (constants-alike r.left h.0)
      ∙ ap (λ q. (bound_of (constant (plainly other) r.left), bound_of q)) (constants-alike r.right h.1)

  pub type-alike : (type : DataType) → ReadsType type → type_form one type ≡ type_form other type
  type-alike type h = ap (λ w. record { width = bits_in (if nat_lt 128 (bits_in w) then too_wide w else w); signed = is_signed type }) (written-alike type h)

-- ---- the names that an expression reads are among its parts

module _ (Q : List ℕ → Type 0) where
  bound-reads : (f : x.Ex) (o : BinaryOperator) (a : x.Ex) → Reads Q f → Reads Q a → Reads Q (x.bound_with f o a)
  bound-reads (x.Binary at op f z) o a h k = by (nat_lt (row_of o) (row_of op)) (bound-reads z o a h.1 k)
    where
      by : (q : Bool) → Reads Q (x.bound_with z o a) → Reads Q (if q then x.Binary at op f (x.bound_with z o a) else x.Binary at o (x.Binary at op f z) a)
      by true r = (h.0, r)
      by false r = (h, k)
  bound-reads (x.Named at t ss) o a h k = (h, k)
  bound-reads (x.Paren at f) o a h k = (h, k)
  bound-reads (x.Unary at op f) o a h k = (h, k)
  bound-reads (x.Choice at t f z) o a h k = (h, k)
  bound-reads (x.Number at v) o a h k = (h, k)
  bound-reads (x.Text at text) o a h k = (h, k)
  bound-reads (x.Joined at es) o a h k = (h, k)
  bound-reads (x.Repeated at v es) o a h k = (h, k)
  bound-reads (x.Called at t es) o a h k = (h, k)
  bound-reads (x.System at t es) o a h k = (h, k)

  marked-reads : (ms : List UnaryMark) (a : x.Ex) → Reads Q a → Reads Q (bd.marked ms a)
  marked-reads [] a h = h
  marked-reads (m ∷ ms) a h = marked-reads ms a h

  named-made : (at : Place) (id : Identifier) (selects : List Select) → Q id.name → Reads Q (bd.named (n.roll-Name (record { place = at; identifier = id; selects = selects })))
  named-made at id selects h = subst (λ z. Reads Q (bd.named z)) (sym (n.rolls-Name' (record { place = at; identifier = id; selects = selects }))) h

  named-reads : (a : n.Name) → Q (n.out-Name a).identifier.name → Reads Q (bd.named a)
  named-reads a h = subst (λ z. Reads Q (bd.named z)) (n.roll-out-Name a) (named-made (n.out-Name a).place (n.out-Name a).identifier (n.out-Name a).selects h)

  module _ (k : Setting) where
    -- this holds of each name that is read in one of these parts
    abbrev pub Among : List u.Node → Type 0
    Among nodes = (a : n.Name) → In (u.node k (u.value a)) nodes → Q (n.out-Name a).identifier.name

    left : (xs ys : List u.Node) → Among (xs ++ ys) → Among xs
    left xs ys h a q = h a (In-append_left (u.node k (u.value a)) xs ys q)

    right : (xs ys : List u.Node) → Among (xs ++ ys) → Among ys
    right xs ys h a q = h a (In-append_right (u.node k (u.value a)) xs ys q)

    mutual
      unfolding expression_nodes choice_nodes choice_row binary_row link_row primary_row primary_nodes expression_row

      pub expression-reads : (a : e.Expression) → Among (u.expression_nodes k a) → Reads Q (bd.ex a)
      expression-reads (e.Expression' at s row chosen) h =
          choice-reads chosen at (bd.first_binary row) (binary-reads row (left (u.binary_row k row) (u.choice_nodes k chosen) h)) (right (u.binary_row k row) (u.choice_nodes k chosen) h)

      choice-reads : (chosen : e.Held-Expression-choice) (at : Place) (t : x.Ex) → Reads Q t → Among (u.choice_nodes k chosen) → Reads Q (bd.choice chosen at t)
      choice-reads e.Expression-choice-None' at t h q = h
      choice-reads (e.Expression-choice-Some' s row) at t h q = branches-read row at t h q

      branches-read : {m : _} → (row : e.Row_of-Choice m) (at : Place) (t : x.Ex) → Reads Q t → Among (u.choice_row k row) → Reads Q (bd.first_choice row at t)
      branches-read e.end_of-Choice at t h q = tt
      branches-read (e.more_of-Choice (c.Choice' a z) rest) at t h q = (
        h,
        expression-reads a (left (u.expression_nodes k a) (u.expression_nodes k z) q),
        expression-reads z (right (u.expression_nodes k a) (u.expression_nodes k z) q),
      )

      binary-reads : {m : _} → (row : e.Row_of-Binary m) → Among (u.binary_row k row) → Reads Q (bd.first_binary row)
      binary-reads e.end_of-Binary h = tt
      binary-reads (e.more_of-Binary (b.Binary' at from marks s primary t links) rest) h =
          links-read links (bd.marked marks (bd.first_primary primary))
          (marked-reads marks (bd.first_primary primary) (primary-reads primary (left (u.primary_row k primary) (u.link_row k links) h)))
          (right (u.primary_row k primary) (u.link_row k links) h)

      links-read : {m : _} → (row : b.Row_of-Link m) (f : x.Ex) → Reads Q f → Among (u.link_row k row) → Reads Q (bd.bound row f)
      links-read b.end_of-Link f h q = h
      links-read (b.more_of-Link o at marks s primary rest) f h q =
          links-read rest (x.bound_with f o (bd.marked marks (bd.first_primary primary)))
          (bound-reads f o (bd.marked marks (bd.first_primary primary)) h
          (marked-reads marks (bd.first_primary primary) (primary-reads primary (left (u.primary_row k primary) (u.link_row k rest) q))))
          (right (u.primary_row k primary) (u.link_row k rest) q)

      primary-reads : {m : _} → (row : b.Row_of-Primary m) → Among (u.primary_row k row) → Reads Q (bd.first_primary row)
      primary-reads b.end_of-Primary h = tt
      primary-reads (b.more_of-Primary a rest) h = one-reads a h

      one-reads : (a : p.Primary) → Among (u.primary_nodes k a) → Reads Q (bd.primary a)
      one-reads (p.Number at a) h = tt
      one-reads (p.Str at text) h = tt
      one-reads (p.Name a) h = named-reads a (h a (inl refl))
      one-reads (p.Parenthesized' at s row) h = inner-reads row h
      one-reads (p.Concatenation' at s row) h = tt
      one-reads (p.Replication' at s count t row) h = tt
      one-reads (p.Call' name s row) h = tt
      one-reads (p.System (y.SystemCall' at name given)) h = tt

      inner-reads : {m : _} → (row : p.Row_of-Expression m) → Among (u.expression_row k row) → Reads Q (bd.first row)
      inner-reads p.end_of-Expression h = tt
      inner-reads (p.more_of-Expression a rest) h = expression-reads a (left (u.expression_nodes k a) (u.expression_row k rest) h)
