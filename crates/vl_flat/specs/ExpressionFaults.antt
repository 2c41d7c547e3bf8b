-- The faults of expressions: refused constructs 10, 11 and 24 (own; what they bound is of IEEE 1364-2005, clauses 4.2, 5.2 and 5.4).
use Rattle.std.specs.Prelude.{ℕ, zero, suc, ℤ, int_lt, Bool, true, false, not, ◌&&◌, ◌||◌, List, [], ◌++◌, flat_map, Option, if◌then◌else◌, codes}
use Rattle.std.specs.Str.{bytes_eq}
use Rattle.vl_design.specs.vl_base.specs.declared.place.Place.{Place}
use Rattle.vl_tree.specs.declared.tree.SelectMark.{SelectMark}
use Rattle.vl_tree.specs.declared.tree.SelectMark.TheVariants as m
pub use Rattle.vl_design.specs.Formats.{items_in}
use Rattle.vl_flat.specs.declared.binding.Binding.{Binding}
use Rattle.vl_design.specs.declared.stop.Stop.{Stop}
use Rattle.vl_flat.specs.Surface.{Ex, Exs, Selects, Args, Number, Text, Named, Paren, Unary, Binary, Choice, Joined, Repeated, Called, System, NoExs, MoreExs, NoSelects, Index, Range, NoArgs, NullArg, MoreArgs, node_place}
use Rattle.vl_design.specs.Placed.{Exp}
use Rattle.vl_design.specs.Rows.{has_width}
use Rattle.vl_design.specs.Stops.{construct_if}
use Rattle.vl_flat.specs.Scopes.{Scope}
use Rattle.vl_flat.specs.Constants.{is_bound, is_count, is_width}
use Rattle.vl_flat.specs.Expressions.{Step, Sliced, is_long, falls, constant, form, steps_of, keeps_texts}

-- ---- strings that are too long as operands

abbrev mutual
  -- a string operand of more than 16 bytes stands in the expression
  pub holds_long : Ex → Bool
  holds_long (Number at n) = false
  holds_long (Text at text) = is_long text
  holds_long (Named at name ss) = selects_hold_long ss
  holds_long (Paren at a) = holds_long a
  holds_long (Unary at op a) = holds_long a
  holds_long (Binary at op a b) = holds_long a || holds_long b
  holds_long (Choice at t a b) = holds_long t || (holds_long a || holds_long b)
  holds_long (Joined at es) = some_hold_long es
  holds_long (Repeated at n es) = holds_long n || some_hold_long es
  holds_long (Called at name es) = some_hold_long es
  holds_long (System at name given) = args_hold_long given

  pub some_hold_long : Exs → Bool
  some_hold_long NoExs = false
  some_hold_long (MoreExs e es) = holds_long e || some_hold_long es

  pub selects_hold_long : Selects → Bool
  selects_hold_long NoSelects = false
  selects_hold_long (Index q i others) = holds_long i || selects_hold_long others
  selects_hold_long (Range q mark l r others) = holds_long l || (holds_long r || selects_hold_long others)

  pub args_hold_long : Args → Bool
  args_hold_long NoArgs = false
  args_hold_long (NullArg others) = args_hold_long others
  args_hold_long (MoreArgs e others) = holds_long e || args_hold_long others

-- ---- selects

-- two bounds stand in another order than those of the declaration; where both are one, in none
abbrev pub turns_round : ℤ × ℤ → ℤ → ℤ → Bool
turns_round range l r = if falls range then int_lt l r else int_lt r l

module _ (scope : Scope) where
  -- the expression isn't from 1 to 128 bits wide, and holds no string that is too long; no text has one of no bits
  abbrev pub past : Ex → List Stop
  past e = construct_if (not (has_width (form scope e).width) && not (holds_long e)) (node_place e) 10

  -- a test that a constant has to pass, unless a string in it is too long
  abbrev pub constant_must : (Exp → Bool) → Ex → ℕ → List Stop
  constant_must test e number = construct_if (not (holds_long e) && not (test (constant scope e))) (node_place e) number

  -- `:` against the declared direction, in the selects behind a name whose first token stands at this place
  abbrev pub direction : Place → Step → List Stop
  direction at (Sliced range l r w) = construct_if (turns_round range l r) at 11
  direction at step = []

  abbrev pub directions : Place → Option Binding → Selects → List Stop
  directions at b ss = flat_map (direction at) (steps_of scope b ss)

  -- the bounds of `:` are constants, and so is the width behind `+:` and `-:`
  abbrev pub left_bound : SelectMark → Ex → List Stop
  left_bound m.Range l = constant_must is_bound l 10
  left_bound mark l = []

  abbrev pub right_bound : SelectMark → Ex → List Stop
  right_bound m.Range r = constant_must is_bound r 10
  right_bound mark r = constant_must is_width r 11

  -- ---- expressions

  abbrev mutual
    pub faults : Ex → List Stop
    faults (Number at n) = []
    faults (Text at text) = construct_if (is_long text) at 24
    faults (Named at name ss) = past (Named at name ss) ++ (directions at (scope.names name) ss ++ selects_faults ss)
    faults (Paren at a) = faults a
    faults (Unary at op a) = past (Unary at op a) ++ faults a
    faults (Binary at op a b) = past (Binary at op a b) ++ (faults a ++ faults b)
    faults (Choice at t a b) = past (Choice at t a b) ++ (faults t ++ (faults a ++ faults b))
    faults (Joined at es) = past (Joined at es) ++ all_faults es
    faults (Repeated at n es) = past (Repeated at n es) ++ (faults n ++ (constant_must is_count n 10 ++ all_faults es))
    faults (Called at name es) = past (Called at name es) ++ all_faults es
    faults (System at name given) = past (System at name given) ++ args_faults (keeps_texts name) given

    pub all_faults : Exs → List Stop
    all_faults NoExs = []
    all_faults (MoreExs e es) = faults e ++ all_faults es

    -- what stands in selects
    pub selects_faults : Selects → List Stop
    selects_faults NoSelects = []
    selects_faults (Index q i others) = faults i ++ selects_faults others
    selects_faults (Range q mark l r others) = faults l ++ (left_bound mark l ++ (faults r ++ (right_bound mark r ++ selects_faults others)))

    -- arguments of a system call; keeps tells whether a string is none of them, but a format or a name
    pub args_faults : Bool → Args → List Stop
    args_faults keeps NoArgs = []
    args_faults keeps (NullArg others) = args_faults keeps others
    args_faults keeps (MoreArgs e others) = argument_faults keeps e (faults e) ++ args_faults keeps others

    pub argument_faults : Bool → Ex → List Stop → List Stop
    argument_faults true (Text at text) fs = []
    argument_faults keeps e fs = fs

  -- the faults of a name's selects
  abbrev pub name_faults : Place → Option Binding → Selects → List Stop
  name_faults at b ss = directions at b ss ++ selects_faults ss

  -- ---- texts to display: a string that an item of a format takes is an operand (clause 17.1.1)

  -- the faults of arguments of which so many first ones are taken by items
  abbrev pub display_faults : ℕ → Args → List Stop
  display_faults n NoArgs = []
  display_faults zero (NullArg others) = display_faults zero others
  display_faults zero (MoreArgs (Text at text) others) = display_faults (items_in text) others
  display_faults zero (MoreArgs e others) = faults e ++ display_faults zero others
  display_faults (suc n) (NullArg others) = display_faults n others
  display_faults (suc n) (MoreArgs e others) = faults e ++ display_faults n others

  -- the faults of a system task
  abbrev pub task_faults : List ℕ → Args → List Stop
  task_faults name given =
      if bytes_eq name (codes "$display") || bytes_eq name (codes "$write") then display_faults zero given
      else args_faults (keeps_texts name) given
