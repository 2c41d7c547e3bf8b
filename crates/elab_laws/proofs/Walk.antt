-- Expressions whose parts fit: each leaf is so.
use Rattle.std.proofs.Common.{◌≡◌, Bool, true, false, if◌then◌else◌, List, [], ◌∷◌, ◌++◌, subst}
use Rattle.std.specs.Prelude.{nat_lt, ⊤}
use Rattle.vl_sound.specs.vl_base.specs.declared.place.Place.{Place}
use Rattle.vl_sound.specs.vl_tree.specs.declared.tree.Expression as e
use Rattle.vl_sound.specs.vl_tree.specs.declared.tree.Choice as ch
use Rattle.vl_sound.specs.vl_tree.specs.declared.tree.Binary as b
use Rattle.vl_sound.specs.vl_tree.specs.declared.tree.Primary as p
use Rattle.vl_sound.specs.vl_tree.specs.declared.tree.Name as nm
use Rattle.vl_sound.specs.vl_tree.specs.declared.tree.Select as se
use Rattle.vl_sound.specs.vl_tree.specs.declared.tree.Bound as d
use Rattle.vl_sound.specs.vl_tree.specs.declared.tree.SystemCall as y
use Rattle.vl_sound.specs.vl_tree.specs.declared.tree.SystemArgument as g
use Rattle.vl_sound.specs.vl_tree.specs.declared.tree.BinaryOperator.{BinaryOperator}
use Rattle.vl_sound.specs.vl_tree.specs.declared.tree.UnaryMark.{UnaryMark}
use Rattle.vl_sound.specs.vl_tree.specs.declared.tree.SelectMark.{SelectMark}
use Rattle.vl_sound.specs.vl_tree.specs.declared.tree.SelectMark.TheVariants as mk
use Rattle.vl_sound.specs.vl_tree.specs.Binding.{row_of}
use Rattle.vl_sound.specs.vl_uses.specs.declared.setting.Setting.{Setting}
use Rattle.vl_sound.specs.vl_uses.specs.declared.setting.Usage.TheVariants.{Operand}
use Rattle.vl_sound.specs.vl_uses.specs.Settings.{constantly, before_mark}
use Rattle.vl_sound.specs.vl_uses.specs.Nodes as n
use Rattle.vl_sound.specs.vl_flat.specs.Surface as x
use Rattle.vl_sound.specs.vl_flat.specs.Binding as f
use Rattle.vl_sound.proofs.ExpressionsOfNamed.{Every, lefts-so, rights-so, first-so, rest-so}
use Rattle.elab_laws.proofs.Leaves.{Leaf, Name, Call, System, Has, ExsHave, SelectsHave, ArgsHave}

-- what a part of an expression needs
abbrev pub NameFits : (Leaf → Type 0) → x.Ex → Type 0
NameFits L (x.Named at t ss) = L (Name t ss)
NameFits L e = ⊤

abbrev pub CallFits : (Leaf → Type 0) → x.Ex → Type 0
CallFits L (x.System at name given) = L (System name)
CallFits L e = ⊤

abbrev pub PartFits : (Leaf → Type 0) → n.Part → Type 0
PartFits L (n.value a) = NameFits L (f.named a)
PartFits L (n.call name count) = L (Call name.name)
PartFits L (n.system Operand a) = CallFits L (f.system a)
PartFits L part = ⊤

-- parts at some settings fit
pub record Suits (L : Leaf → Type 0) (P : n.Node → Type 0) (Q : Setting → Type 0) : Type 0 where
  pub part : (s : Setting) (a : n.Part) → Q s → P (n.node s a) → PartFits L a
  pub constant : (s : Setting) → Q s → Q (constantly s)
  -- a call in an expression loads no memory
  pub loads : (name : _) → L (System name) → n.is_load name ≡ false

module _ (L : Leaf → Type 0) where
  -- an operand more
  bound-has : (a : x.Ex) (o : BinaryOperator) (b : x.Ex) → Has L a → Has L b → Has L (x.bound_with a o b)
  bound-has (x.Binary at q l r) o b u v = by (nat_lt (row_of o) (row_of q)) (bound-has r o b u.1 v)
    where
      by : (t : Bool) → Has L (x.bound_with r o b) → Has L (if t then x.Binary at q l (x.bound_with r o b) else x.Binary at o (x.Binary at q l r) b)
      by true w = (u.0, w)
      by false w = (u, v)
  bound-has a o b u v = (u, v)

  marked-has : (ms : List UnaryMark) (a : x.Ex) → Has L a → Has L (f.marked ms a)
  marked-has [] a u = u
  marked-has (m ∷ ms) a u = marked-has ms a u

module _ (L : Leaf → Type 0) (P : n.Node → Type 0) (Q : Setting → Type 0) (suits : Suits L P Q) where
  abbrev All : List n.Node → Type 0
  All as' = Every P as'

  before-so : (m : SelectMark) (s : Setting) → Q s → Q (before_mark m s)
  before-so mk.Range s q = suits.constant s q
  before-so mk.Up s q = q
  before-so mk.Down s q = q

  mutual
    unfolding n.expression_nodes n.choice_nodes n.choice_row n.binary_row n.link_row n.primary_row n.primary_nodes n.expression_row n.name_nodes n.select_row n.select_nodes n.system_nodes n.arguments_nodes n.argument_row n.argument_nodes

    pub ex-has : (s : Setting) → Q s → (v : e.Expression) → All (n.expression_nodes s v) → Has L (f.ex v)
    ex-has s q (e.Expression' at h whole choice) w =
        choice-has s q choice at (f.first_binary whole) (binary-has s q whole (lefts-so P (n.binary_row s whole) (n.choice_nodes s choice) w)) (rights-so P (n.binary_row s whole) (n.choice_nodes s choice) w)

    choice-has : (s : Setting) → Q s → (o : e.Held-Expression-choice) (at : Place) (t : x.Ex) → Has L t → All (n.choice_nodes s o) → Has L (f.choice o at t)
    choice-has s q e.Expression-choice-None' at t u w = u
    choice-has s q (e.Expression-choice-Some' h row) at t u w = chosen-has s q row at t u w

    chosen-has : {m : _} (s : Setting) → Q s → (row : e.Row_of-Choice m) (at : Place) (t : x.Ex) → Has L t → All (n.choice_row s row) → Has L (f.first_choice row at t)
    chosen-has s q e.end_of-Choice at t u w = tt
    chosen-has s q (e.more_of-Choice (ch.Choice' a b) rest) at t u w =
        (u, ex-has s q a (lefts-so P (n.expression_nodes s a) (n.expression_nodes s b) w), ex-has s q b (rights-so P (n.expression_nodes s a) (n.expression_nodes s b) w))

    binary-has : {m : _} (s : Setting) → Q s → (row : e.Row_of-Binary m) → All (n.binary_row s row) → Has L (f.first_binary row)
    binary-has s q e.end_of-Binary w = tt
    binary-has s q (e.more_of-Binary (b.Binary' at from marks h row t links) rest) w =
        links-have s q links (f.marked marks (f.first_primary row))
        (marked-has L marks (f.first_primary row) (operand-has s q row (lefts-so P (n.primary_row s row) (n.link_row s links) w)))
        (rights-so P (n.primary_row s row) (n.link_row s links) w)

    links-have : {m : _} (s : Setting) → Q s → (row : b.Row_of-Link m) (t : x.Ex) → Has L t → All (n.link_row s row) → Has L (f.bound row t)
    links-have s q b.end_of-Link t u w = u
    links-have s q (b.more_of-Link o at marks h row rest) t u w =
        links-have s q rest (x.bound_with t o (f.marked marks (f.first_primary row)))
        (bound-has L t o (f.marked marks (f.first_primary row)) u (marked-has L marks (f.first_primary row) (operand-has s q row (lefts-so P (n.primary_row s row) (n.link_row s rest) w))))
        (rights-so P (n.primary_row s row) (n.link_row s rest) w)

    operand-has : {m : _} (s : Setting) → Q s → (row : b.Row_of-Primary m) → All (n.primary_row s row) → Has L (f.first_primary row)
    operand-has s q b.end_of-Primary w = tt
    operand-has s q (b.more_of-Primary a rest) w = primary-has s q a w

    primary-has : (s : Setting) → Q s → (a : p.Primary) → All (n.primary_nodes s a) → Has L (f.primary a)
    primary-has s q (p.Number at a) w = tt
    primary-has s q (p.Str at text) w = tt
    primary-has s q (p.Name a) w = name-has s q a (suits.part s (n.value a) q (first-so P (n.node s (n.value a)) (n.name_nodes s a) w)) (rest-so P (n.node s (n.value a)) (n.name_nodes s a) w)
    primary-has s q (p.Parenthesized' at h row) w = inner-has s q row w
    primary-has s q (p.Concatenation' at h row) w = exs-have s q row (rest-so P (n.node s (n.group at)) (n.expression_row s row) w)
    primary-has s q (p.Replication' at h count t row) w =
        exs-have s q row (rights-so P (n.expression_row (constantly s) count) (n.expression_row s row) (rest-so P (n.node s (n.group at)) (n.expression_row (constantly s) count ++ n.expression_row s row) w))
    primary-has s q (p.Call' name h row) w =
        let a = n.call name (n.row_length row) in
        (suits.part s a q (first-so P (n.node s a) (n.expression_row s row) w), exs-have s q row (rest-so P (n.node s a) (n.expression_row s row) w))
    primary-has s q (p.System a) w = system-has s q a w

    inner-has : {m : _} (s : Setting) → Q s → (row : p.Row_of-Expression m) → All (n.expression_row s row) → Has L (f.first row)
    inner-has s q p.end_of-Expression w = tt
    inner-has s q (p.more_of-Expression a rest) w = ex-has s q a (lefts-so P (n.expression_nodes s a) (n.expression_row s rest) w)

    exs-have : {m : _} (s : Setting) → Q s → (row : p.Row_of-Expression m) → All (n.expression_row s row) → ExsHave L (f.exs row)
    exs-have s q p.end_of-Expression w = tt
    exs-have s q (p.more_of-Expression a rest) w =
        (ex-has s q a (lefts-so P (n.expression_nodes s a) (n.expression_row s rest) w), exs-have s q rest (rights-so P (n.expression_nodes s a) (n.expression_row s rest) w))

    name-has : (s : Setting) → Q s → (a : nm.Name) → PartFits L (n.value a) → All (n.name_nodes s a) → Has L (f.named a)
    name-has s q (nm.Name' at name h row) r w = (r, selects-have s q row w)

    pub selects-have : {m : _} (s : Setting) → Q s → (row : nm.Row_of-Select m) → All (n.select_row s row) → SelectsHave L (f.selects row)
    selects-have s q nm.end_of-Select w = tt
    selects-have s q (nm.more_of-Select a rest) w =
        select-has s q a (f.selects rest) (selects-have s q rest (rights-so P (n.select_nodes s a) (n.select_row s rest) w)) (lefts-so P (n.select_nodes s a) (n.select_row s rest) w)

    select-has : (s : Setting) → Q s → (a : se.Select) (others : x.Selects) → SelectsHave L others → All (n.select_nodes s a) → SelectsHave L (f.select a others)
    select-has s q (se.Select' at i se.Select-second-None') others u w = (ex-has s q i w, u)
    select-has s q (se.Select' at i (se.Select-second-Some' (d.Bound' mark r))) others u w =
        (ex-has (before_mark mark s) (before-so mark s q) i (lefts-so P (n.expression_nodes (before_mark mark s) i) (n.expression_nodes (constantly s) r) w), u)

    system-has : (s : Setting) → Q s → (a : y.SystemCall) → All (n.system_nodes s Operand a) → Has L (f.system a)
    system-has s q (y.SystemCall' at name given) w =
        let a = n.system Operand (y.SystemCall' at name given) in
        let as' = n.arguments_nodes s (n.is_load name) given in
        let here = suits.part s a q (first-so P (n.node s a) as' w) in
        (here, arguments-have s q given (subst (λ t. All (n.arguments_nodes s t given)) (suits.loads name here) (rest-so P (n.node s a) as' w)))

    -- the arguments of a call that loads no memory
    pub arguments-have : (s : Setting) → Q s → (o : y.Held-SystemCall-arguments) → All (n.arguments_nodes s false o) → ArgsHave L (f.arguments o)
    arguments-have s q y.SystemCall-arguments-None' w = tt
    arguments-have s q (y.SystemCall-arguments-Some' h row) w = args-have s q row w

    args-have : {m : _} (s : Setting) → Q s → (row : y.Row_of-SystemArgument m) → All (n.argument_row s false row) → ArgsHave L (f.args row)
    args-have s q y.end_of-SystemArgument w = tt
    args-have s q (y.more_of-SystemArgument (g.SystemArgument' o) rest) w =
        argument-has s q o (f.args rest) (args-have s q rest (rights-so P (n.argument_nodes s false o) (n.argument_row s false rest) w)) (lefts-so P (n.argument_nodes s false o) (n.argument_row s false rest) w)

    argument-has : (s : Setting) → Q s → (o : g.Held-SystemArgument-argument) (others : x.Args) → ArgsHave L others → All (n.argument_nodes s false o) → ArgsHave L (f.held o others)
    argument-has s q g.SystemArgument-argument-None' others u w = u
    argument-has s q (g.SystemArgument-argument-Some' a) others u w = (ex-has s q a w, u)
