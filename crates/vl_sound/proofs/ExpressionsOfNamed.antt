-- Expressions whose parts fit: each name is used as what it is.
use Rattle.std.proofs.Common.{◌≡◌, Bool, true, false, if◌then◌else◌, List, [], ◌∷◌, ◌++◌, Some, refl, ap, ◌∙◌, subst, inl, inr, arith}
use Rattle.std.specs.Prelude.{nat_lt}
use Rattle.vl_flat.specs.vl_base.specs.declared.number.Number.{Number}
use Rattle.vl_flat.specs.vl_base.specs.declared.place.Place.{Place}
use Rattle.vl_flat.specs.vl_tree.specs.declared.tree.Expression as e
use Rattle.vl_flat.specs.vl_tree.specs.declared.tree.Choice as ch
use Rattle.vl_flat.specs.vl_tree.specs.declared.tree.Binary as b
use Rattle.vl_flat.specs.vl_tree.specs.declared.tree.Primary as p
use Rattle.vl_flat.specs.vl_tree.specs.declared.tree.Name as nm
use Rattle.vl_flat.specs.vl_tree.specs.declared.tree.Select as se
use Rattle.vl_flat.specs.vl_tree.specs.declared.tree.Bound as d
use Rattle.vl_flat.specs.vl_tree.specs.declared.tree.SystemCall as y
use Rattle.vl_flat.specs.vl_tree.specs.declared.tree.SystemArgument as g
use Rattle.vl_flat.specs.vl_tree.specs.declared.tree.BinaryOperator.{BinaryOperator}
use Rattle.vl_flat.specs.vl_tree.specs.declared.tree.UnaryMark.{UnaryMark}
use Rattle.vl_flat.specs.vl_tree.specs.declared.tree.SelectMark.{SelectMark}
use Rattle.vl_flat.specs.vl_tree.specs.declared.tree.SelectMark.TheVariants as mk
use Rattle.vl_flat.specs.vl_tree.specs.Binding.{row_of}
use Rattle.vl_names.specs.vl_scope.specs.declared.kind.Class.TheVariants as c
use Rattle.vl_names.specs.vl_scope.specs.Faults.{In}
use Rattle.vl_names.specs.vl_scope.proofs.Members.{In-append_left, In-append_right}
use Rattle.vl_names.specs.vl_uses.specs.declared.setting.Setting.{Setting}
use Rattle.vl_names.specs.vl_uses.specs.declared.setting.Usage.{Usage}
use Rattle.vl_names.specs.vl_uses.specs.declared.setting.Usage.TheVariants.{Operand}
use Rattle.vl_names.specs.vl_uses.specs.Settings.{constantly, before_mark}
use Rattle.vl_names.specs.vl_uses.specs.Nodes as n
use Rattle.vl_flat.specs.Surface as x
use Rattle.vl_flat.specs.Binding as f
use Rattle.vl_sound.specs.Used.{Classes, IsUsed, AreUsed, AreUsedSelects, AreUsedArgs, how_many}
use Rattle.vl_sound.proofs.Sides.{UsedAs, used-as}
use Rattle.vl_sound.proofs.Fitting.{Fits}

-- each node is so
abbrev pub Every : (n.Node → Type 0) → List n.Node → Type 0
Every P as' = (a : n.Node) → In a as' → P a

pub lefts-so : (P : n.Node → Type 0) (as' bs : List n.Node) → Every P (as' ++ bs) → Every P as'
lefts-so P as' bs h = λ a i. h a (In-append_left a as' bs i)

pub rights-so : (P : n.Node → Type 0) (as' bs : List n.Node) → Every P (as' ++ bs) → Every P bs
rights-so P as' bs h = λ a i. h a (In-append_right a as' bs i)

pub first-so : (P : n.Node → Type 0) (b : n.Node) (as' : List n.Node) → Every P (b ∷ as') → P b
first-so P b as' h = h b (inl refl)

pub rest-so : (P : n.Node → Type 0) (b : n.Node) (as' : List n.Node) → Every P (b ∷ as') → Every P as'
rest-so P b as' h = λ a i. h a (inr i)

-- parts at some settings fit
pub record Suits (k : Classes) (P : n.Node → Type 0) (Q : Setting → Type 0) : Type 0 where
  pub part : (s : Setting) (a : n.Part) → Q s → P (n.node s a) → Fits k a
  pub constant : (s : Setting) → Q s → Q (constantly s)

-- an operand more
pub bound-used : (k : Classes) (a : x.Ex) (o : BinaryOperator) (b : x.Ex) → IsUsed k a → IsUsed k b → IsUsed k (x.bound_with a o b)
bound-used k (x.Binary at q l r) o b u v = by (nat_lt (row_of o) (row_of q)) (bound-used k r o b u.1 v)
  where
    by : (t : Bool) → IsUsed k (x.bound_with r o b) → IsUsed k (if t then x.Binary at q l (x.bound_with r o b) else x.Binary at o (x.Binary at q l r) b)
    by true w = (u.0, w)
    by false w = (u, v)
bound-used k a o b u v = (u, v)

pub marked-used : (k : Classes) (ms : List UnaryMark) (a : x.Ex) → IsUsed k a → IsUsed k (f.marked ms a)
marked-used k [] a u = u
marked-used k (m ∷ ms) a u = marked-used k ms a u

-- a number counts as one that is proper
pub proper-is : (a : Number) → f.is_proper (f.proper a) ≡ true
proper-is a = by (f.is_proper a) refl
  where
    by : (t : Bool) → f.is_proper a ≡ t → f.is_proper (if t then a else f.zero_bit) ≡ true
    by true h = h
    by false h = refl

row-count : {m : _} (row : p.Row_of-Expression m) → n.row_length row ≡ how_many (f.exs row)
row-count p.end_of-Expression = refl
row-count (p.more_of-Expression a rest) = let q = row-count rest in omega arith

module _ (k : Classes) (P : n.Node → Type 0) (Q : Setting → Type 0) (suits : Suits k P Q) where
  abbrev All : List n.Node → Type 0
  All as' = Every P as'

  before-so : (m : SelectMark) (s : Setting) → Q s → Q (before_mark m s)
  before-so mk.Range s q = suits.constant s q
  before-so mk.Up s q = q
  before-so mk.Down s q = q

  mutual
    unfolding n.expression_nodes n.choice_nodes n.choice_row n.binary_row n.link_row n.primary_row n.primary_nodes n.expression_row n.name_nodes n.select_row n.select_nodes n.system_nodes n.arguments_nodes n.argument_row n.argument_nodes

    pub ex-used : (s : Setting) → Q s → (v : e.Expression) → All (n.expression_nodes s v) → IsUsed k (f.ex v)
    ex-used s q (e.Expression' at h whole choice) w =
        choice-used s q choice at (f.first_binary whole) (binary-used s q whole (lefts-so P (n.binary_row s whole) (n.choice_nodes s choice) w)) (rights-so P (n.binary_row s whole) (n.choice_nodes s choice) w)

    choice-used : (s : Setting) → Q s → (o : e.Held-Expression-choice) (at : Place) (t : x.Ex) → IsUsed k t → All (n.choice_nodes s o) → IsUsed k (f.choice o at t)
    choice-used s q e.Expression-choice-None' at t u w = u
    choice-used s q (e.Expression-choice-Some' h row) at t u w = chosen-used s q row at t u w

    chosen-used : {m : _} (s : Setting) → Q s → (row : e.Row_of-Choice m) (at : Place) (t : x.Ex) → IsUsed k t → All (n.choice_row s row) → IsUsed k (f.first_choice row at t)
    chosen-used s q e.end_of-Choice at t u w = tt
    chosen-used s q (e.more_of-Choice (ch.Choice' a b) rest) at t u w =
        (u, ex-used s q a (lefts-so P (n.expression_nodes s a) (n.expression_nodes s b) w), ex-used s q b (rights-so P (n.expression_nodes s a) (n.expression_nodes s b) w))

    binary-used : {m : _} (s : Setting) → Q s → (row : e.Row_of-Binary m) → All (n.binary_row s row) → IsUsed k (f.first_binary row)
    binary-used s q e.end_of-Binary w = tt
    binary-used s q (e.more_of-Binary (b.Binary' at from marks h row t links) rest) w =
        links-used s q links (f.marked marks (f.first_primary row))
        (marked-used k marks (f.first_primary row) (operand-used s q row (lefts-so P (n.primary_row s row) (n.link_row s links) w)))
        (rights-so P (n.primary_row s row) (n.link_row s links) w)

    links-used : {m : _} (s : Setting) → Q s → (row : b.Row_of-Link m) (t : x.Ex) → IsUsed k t → All (n.link_row s row) → IsUsed k (f.bound row t)
    links-used s q b.end_of-Link t u w = u
    links-used s q (b.more_of-Link o at marks h row rest) t u w =
        links-used s q rest (x.bound_with t o (f.marked marks (f.first_primary row)))
        (bound-used k t o (f.marked marks (f.first_primary row)) u (marked-used k marks (f.first_primary row) (operand-used s q row (lefts-so P (n.primary_row s row) (n.link_row s rest) w))))
        (rights-so P (n.primary_row s row) (n.link_row s rest) w)

    operand-used : {m : _} (s : Setting) → Q s → (row : b.Row_of-Primary m) → All (n.primary_row s row) → IsUsed k (f.first_primary row)
    operand-used s q b.end_of-Primary w = tt
    operand-used s q (b.more_of-Primary a rest) w = primary-used s q a w

    pub primary-used : (s : Setting) → Q s → (a : p.Primary) → All (n.primary_nodes s a) → IsUsed k (f.primary a)
    primary-used s q (p.Number at a) w = proper-is a
    primary-used s q (p.Str at text) w = tt
    primary-used s q (p.Name a) w = name-used s q a (suits.part s (n.value a) q (first-so P (n.node s (n.value a)) (n.name_nodes s a) w)) (rest-so P (n.node s (n.value a)) (n.name_nodes s a) w)
    primary-used s q (p.Parenthesized' at h row) w = inner-used s q row w
    primary-used s q (p.Concatenation' at h row) w = exs-used s q row (rest-so P (n.node s (n.group at)) (n.expression_row s row) w)
    primary-used s q (p.Replication' at h count t row) w =
        let inside = rest-so P (n.node s (n.group at)) (n.expression_row (constantly s) count ++ n.expression_row s row) w in
        (inner-used (constantly s) (suits.constant s q) count (lefts-so P (n.expression_row (constantly s) count) (n.expression_row s row) inside), exs-used s q row (rights-so P (n.expression_row (constantly s) count) (n.expression_row s row) inside))
    primary-used s q (p.Call' name h row) w =
        let a = n.call name (n.row_length row) in
        (suits.part s a q (first-so P (n.node s a) (n.expression_row s row) w) ∙ ap (λ i. Some (c.Function i)) (row-count row), exs-used s q row (rest-so P (n.node s a) (n.expression_row s row) w))
    primary-used s q (p.System a) w = system-used s q Operand a w

    inner-used : {m : _} (s : Setting) → Q s → (row : p.Row_of-Expression m) → All (n.expression_row s row) → IsUsed k (f.first row)
    inner-used s q p.end_of-Expression w = tt
    inner-used s q (p.more_of-Expression a rest) w = ex-used s q a (lefts-so P (n.expression_nodes s a) (n.expression_row s rest) w)

    exs-used : {m : _} (s : Setting) → Q s → (row : p.Row_of-Expression m) → All (n.expression_row s row) → AreUsed k (f.exs row)
    exs-used s q p.end_of-Expression w = tt
    exs-used s q (p.more_of-Expression a rest) w =
        (ex-used s q a (lefts-so P (n.expression_nodes s a) (n.expression_row s rest) w), exs-used s q rest (rights-so P (n.expression_nodes s a) (n.expression_row s rest) w))

    name-used : (s : Setting) → Q s → (a : nm.Name) → Fits k (n.value a) → All (n.name_nodes s a) → IsUsed k (f.named a)
    name-used s q (nm.Name' at name h row) r w = (r, selects-used s q row w)

    pub selects-used : {m : _} (s : Setting) → Q s → (row : nm.Row_of-Select m) → All (n.select_row s row) → AreUsedSelects k (f.selects row)
    selects-used s q nm.end_of-Select w = tt
    selects-used s q (nm.more_of-Select a rest) w =
        select-used s q a (f.selects rest) (selects-used s q rest (rights-so P (n.select_nodes s a) (n.select_row s rest) w)) (lefts-so P (n.select_nodes s a) (n.select_row s rest) w)

    select-used : (s : Setting) → Q s → (a : se.Select) (others : x.Selects) → AreUsedSelects k others → All (n.select_nodes s a) → AreUsedSelects k (f.select a others)
    select-used s q (se.Select' at i se.Select-second-None') others u w = (ex-used s q i w, u)
    select-used s q (se.Select' at i (se.Select-second-Some' (d.Bound' mark r))) others u w =
        let as' = n.expression_nodes (before_mark mark s) i in
        let bs = n.expression_nodes (constantly s) r in
        (ex-used (before_mark mark s) (before-so mark s q) i (lefts-so P as' bs w), ex-used (constantly s) (suits.constant s q) r (rights-so P as' bs w), u)

    pub system-used : (s : Setting) → Q s → (usage : Usage) (a : y.SystemCall) → All (n.system_nodes s usage a) → UsedAs k usage (f.system a)
    system-used s q usage (y.SystemCall' at name given) w =
        let a = n.system usage (y.SystemCall' at name given) in
        let as' = n.arguments_nodes s (n.is_load name) given in
        used-as k usage at name (f.arguments given) (suits.part s a q (first-so P (n.node s a) as' w))
        (λ e. arguments-used s q given (subst (λ t. All (n.arguments_nodes s t given)) e (rest-so P (n.node s a) as' w)))

    arguments-used : (s : Setting) → Q s → (o : y.Held-SystemCall-arguments) → All (n.arguments_nodes s false o) → AreUsedArgs k (f.arguments o)
    arguments-used s q y.SystemCall-arguments-None' w = tt
    arguments-used s q (y.SystemCall-arguments-Some' h row) w = args-used s q row w

    args-used : {m : _} (s : Setting) → Q s → (row : y.Row_of-SystemArgument m) → All (n.argument_row s false row) → AreUsedArgs k (f.args row)
    args-used s q y.end_of-SystemArgument w = tt
    args-used s q (y.more_of-SystemArgument (g.SystemArgument' o) rest) w =
        argument-used s q o (f.args rest) (args-used s q rest (rights-so P (n.argument_nodes s false o) (n.argument_row s false rest) w)) (lefts-so P (n.argument_nodes s false o) (n.argument_row s false rest) w)

    argument-used : (s : Setting) → Q s → (o : g.Held-SystemArgument-argument) (others : x.Args) → AreUsedArgs k others → All (n.argument_nodes s false o) → AreUsedArgs k (f.held o others)
    argument-used s q g.SystemArgument-argument-None' others u w = u
    argument-used s q (g.SystemArgument-argument-Some' a) others u w = (ex-used s q a w, u)
