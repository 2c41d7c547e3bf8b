-- The expressions of an instance in its design, and their forms (IEEE 1364-2005, clauses 3.6, 5 and 12).
use Rattle.std.specs.Prelude.{ℕ, ◌+◌, ◌*◌, min, nat_lt, ℤ, pos, neg_ℤ, ◌+ℤ◌, ◌-ℤ◌, int_le, Bool, true, false, not, ◌&&◌, List, [], ◌∷◌, fold, length, Option, Some, None, if◌then◌else◌, codes}
use Rattle.std.specs.Str.{bytes_eq}
use Rattle.vl_design.specs.vl_base.specs.declared.place.Place.{Place}
use Rattle.vl_design.specs.vl_base.specs.declared.bits.UnOp.{UnOp}
use Rattle.vl_design.specs.vl_base.specs.declared.bits.UnOp.TheVariants as u
use Rattle.vl_design.specs.vl_base.specs.declared.bits.BinOp.{BinOp}
use Rattle.vl_design.specs.vl_base.specs.declared.bits.BinOp.TheVariants as b
use Rattle.vl_tree.specs.declared.tree.UnaryOperator.{UnaryOperator}
use Rattle.vl_tree.specs.declared.tree.UnaryOperator.TheVariants as uo
use Rattle.vl_tree.specs.declared.tree.BinaryOperator.{BinaryOperator}
use Rattle.vl_tree.specs.declared.tree.BinaryOperator.TheVariants as bo
use Rattle.vl_tree.specs.declared.tree.SelectMark.{SelectMark}
use Rattle.vl_tree.specs.declared.tree.SelectMark.TheVariants as m
use Rattle.vl_design.specs.declared.design.Form.{Form}
use Rattle.vl_design.specs.declared.design.LowestBit.{LowestBit}
use Rattle.vl_design.specs.declared.design.SigKind.{SigKind}
use Rattle.vl_design.specs.declared.design.SigKind.TheVariants.{Mem}
use Rattle.vl_design.specs.Formats.{text_width, text_number}
use Rattle.vl_design.specs.Rows.{range_width}
use Rattle.vl_design.specs.Width.{unsigned, joined, unary_form, binary_form}
use Rattle.vl_flat.specs.declared.binding.Binding.{Binding}
use Rattle.vl_flat.specs.declared.binding.Binding.TheVariants.{Constant, Signal, Function}
use Rattle.vl_flat.specs.Surface.{Ex, Exs, Selects, Args, Number, Text, Named, Paren, Unary, Binary, Choice, Joined, Repeated, Called, System, NoExs, MoreExs, NoSelects, Index, Range, NoArgs, NullArg, MoreArgs, place_of}
use Rattle.vl_design.specs.Placed as p
use Rattle.vl_flat.specs.Scopes.{Env, Scope, form_of, range_of, number_of}
use Rattle.vl_flat.specs.Constants.{bound_of, count_of, clamped}

-- ---- operators (table 5-1); unary `+` has no node

abbrev pub unary_of : UnaryOperator → Option UnOp
unary_of uo.Plus = None
unary_of uo.Minus = Some u.Neg
unary_of uo.LogicalNot = Some u.LogNot
unary_of uo.Not = Some u.Not
unary_of uo.And = Some u.RedAnd
unary_of uo.Nand = Some u.RedNand
unary_of uo.Or = Some u.RedOr
unary_of uo.Nor = Some u.RedNor
unary_of uo.Xor = Some u.RedXor
unary_of uo.Xnor = Some u.RedXnor

abbrev pub marked : Place → Option UnOp → p.Exp → p.Exp
marked at None a = a
marked at (Some op) a = p.Un at op a

abbrev pub marked_form : Option UnOp → Form → Form
marked_form None f = f
marked_form (Some op) f = unary_form op f

abbrev pub operation : BinaryOperator → BinOp
operation bo.Multiply = b.Mul
operation bo.Divide = b.Div
operation bo.Modulus = b.Rem
operation bo.Add = b.Add
operation bo.Subtract = b.Sub
operation bo.ShiftLeft = b.Shl
operation bo.ShiftRight = b.Shr
operation bo.ArithmeticShiftLeft = b.Shl
operation bo.ArithmeticShiftRight = b.Sshr
operation bo.Less = b.Lt
operation bo.LessOrEqual = b.Le
operation bo.Greater = b.Gt
operation bo.GreaterOrEqual = b.Ge
operation bo.Equal = b.Eq
operation bo.NotEqual = b.Ne
operation bo.CaseEqual = b.Eq
operation bo.CaseNotEqual = b.Ne
operation bo.And = b.And
operation bo.Xor = b.Xor
operation bo.Xnor = b.Xnor
operation bo.Or = b.Or
operation bo.LogicalAnd = b.LogAnd
operation bo.LogicalOr = b.LogOr

-- ---- strings as operands: 8 bits for each byte; the empty one is one zero byte (clause 5.2.3). One of more than 16 bytes
-- is a fault, and counts as one zero bit

abbrev pub is_long : List ℕ → Bool
is_long text = nat_lt 16 (length text)

abbrev pub text_form : List ℕ → Form
text_form text = if is_long text then unsigned 1 else unsigned (text_width text)

abbrev pub text_value : List ℕ → ℕ
text_value text = if is_long text then 0 else text_number text

abbrev pub operand : Place → List ℕ → p.Exp
operand at text = p.Num at (text_value text) (text_form text).width false

-- ---- names

-- a name that stands for no value counts as one zero bit
abbrev pub whole : Place → Option Binding → p.Exp
whole at None = p.Num at 0 1 false
whole at (Some (Constant c)) = p.Num at c.value c.width c.signed
whole at (Some (Signal k s)) = p.Sig at k
whole at (Some (Function k f)) = p.Num at 0 1 false

abbrev pub is_mem : SigKind → Bool
is_mem Mem = true
is_mem kind = false

abbrev pub is_memory : Option Binding → Bool
is_memory (Some (Signal k s)) = is_mem s.kind
is_memory b = false

-- ---- constants: numbers, strings of at most 16 bytes, parameters, operators and parentheses

abbrev pub is_parameter : Option Binding → Bool
is_parameter (Some (Constant c)) = true
is_parameter b = false

abbrev pub is_constant : Env → Ex → Bool
is_constant env (Number at n) = true
is_constant env (Text at text) = not (is_long text)
is_constant env (Named at name NoSelects) = is_parameter (env name)
is_constant env (Paren at a) = is_constant env a
is_constant env (Unary at op a) = is_constant env a
is_constant env (Binary at op a b) = is_constant env a && is_constant env b
is_constant env (Choice at t a b) = is_constant env t && (is_constant env a && is_constant env b)
is_constant env e = false

-- where a constant has to stand, anything else is refused, and counts as one zero bit
abbrev pub constant_or_zero : Env → Ex → p.Exp → p.Exp
constant_or_zero env e value = if is_constant env e then value else p.Num (place_of e) 0 1 false

-- ---- selects on a value whose bits are numbered so, the first number being that of the highest bit (clause 5.2.1)

-- the numbers fall to the right
abbrev pub falls : ℤ × ℤ → Bool
falls r = int_le r.1 r.0

-- so many bits, numbered from 0 at the right
abbrev pub bits_of : ℕ → ℤ × ℤ
bits_of w = (pos w -ℤ pos 1, pos 0)

-- the lowest of so many bits, of which the index is the lowest number, or the highest one
abbrev pub from_lowest : ℤ × ℤ → ℕ → LowestBit
from_lowest r w = if falls r then record { constant = neg_ℤ r.1; taken = false } else record { constant = (r.1 -ℤ pos w) +ℤ pos 1; taken = true }

abbrev pub from_highest : ℤ × ℤ → ℕ → LowestBit
from_highest r w = if falls r then record { constant = (pos 1 -ℤ pos w) -ℤ r.1; taken = false } else record { constant = r.1; taken = true }

-- the lowest bit of a part whose right bound is this, counted from the lowest bit of the whole
abbrev pub part_low : ℤ × ℤ → ℤ → ℤ
part_low r z = clamped (if falls r then z -ℤ r.1 else r.1 -ℤ z)

-- how many bits two bounds around a mark choose; more than 128 are refused, and counted as 129
abbrev pub part_width : SelectMark → p.Exp → p.Exp → ℕ
part_width m.Range a b = min 129 (range_width (bound_of a) (bound_of b))
part_width m.Up a b = count_of b
part_width m.Down a b = count_of b

-- ---- selects step by step: each chooses a word of a memory, or bits of what the ones before it left (clauses 4.9 and 5.2)

pub data Step : Type 0 where
  -- the word of the memory of a number
  Chosen : (memory : ℕ) (address : p.Exp) → Step
  -- so many bits from the one on that an index names
  Picked : (index : p.Exp) (from : LowestBit) (width : ℕ) → Step
  -- so many bits between two bounds, of a value whose bits are numbered so
  Sliced : (range : ℤ × ℤ) (left right : ℤ) (width : ℕ) → Step

abbrev pub bit : ℤ × ℤ → p.Exp → Step
bit r i = Picked i (from_lowest r 1) 1

-- two bounds around a mark: what stands before it, and the constants before and behind it
abbrev pub part : ℤ × ℤ → SelectMark → p.Exp → p.Exp → p.Exp → ℕ → Step
part r m.Range i a b w = Sliced r (bound_of a) (bound_of b) w
part r m.Up i a b w = Picked i (from_lowest r w) w
part r m.Down i a b w = Picked i (from_highest r w) w

-- the number of the memory that a name stands for
abbrev pub memory_of : Option Binding → Option ℕ
memory_of b = if is_memory b then Some (number_of b) else None

-- what a step leaves of a value, and of its form
abbrev pub stepped : Place → p.Exp → Step → p.Exp
stepped at base (Chosen k a) = p.Word at k a
stepped at base (Picked i from w) = p.Pick at base i from w
stepped at base (Sliced r a b w) = p.Slice at base (part_low r b) w

abbrev pub step_form : Form → Step → Form
step_form f (Chosen k a) = f
step_form f (Picked i from w) = unsigned w
step_form f (Sliced r a b w) = unsigned w

-- ---- expressions

-- of these calls a string is an argument as it is; of others it is an operand
abbrev pub keeps_texts : List ℕ → Bool
keeps_texts name =
    if bytes_eq name (codes "$display") then true
    else if bytes_eq name (codes "$write") then true
    else if bytes_eq name (codes "$fopen") then true
    else if bytes_eq name (codes "$save") then true
    else bytes_eq name (codes "$readmemh")

-- a system function of these arguments, the value of the first of which is given: `$signed`, `$unsigned` and `$time` are
-- nodes of their own
abbrev pub called_system : Place → List ℕ → p.Exp → p.Args → p.Exp
called_system at name first args =
    if bytes_eq name (codes "$signed") then p.Cast at true first
    else if bytes_eq name (codes "$unsigned") then p.Cast at false first
    else if bytes_eq name (codes "$time") then p.Time at
    else p.Sys at name args

-- an argument: a string as it is, or a value
abbrev pub argument : Bool → Ex → p.Exp → p.Args → p.Args
argument true (Text at text) e others = p.TextArg text others
argument keeps a e others = p.ValueArg e others

module _ (scope : Scope) where
  abbrev pub kept : Ex → p.Exp → p.Exp
  kept = constant_or_zero scope.names

  abbrev mutual
    pub exp : Ex → p.Exp
    exp (Number at n) = p.Num at n.value n.width n.signed
    exp (Text at text) = operand at text
    exp (Named at name ss) = fold (stepped at) (whole at (scope.names name)) (steps (memory_of (scope.names name)) (range_of (scope.names name)) ss)
    exp (Paren at a) = exp a
    exp (Unary at op a) = marked at (unary_of op) (exp a)
    exp (Binary at op a b) = p.Bin at (operation op) (exp a) (exp b)
    exp (Choice at t a b) = p.Cond at (exp t) (exp a) (exp b)
    exp (Joined at es) = p.Cat at (exps es)
    exp (Repeated at n es) = p.Rep at (count_of (kept n (exp n))) (exps es)
    exp (Called at name es) = p.Call at (number_of (scope.calls name)) (exps es)
    exp (System at name given) = called_system at name (first_of at given) (args (keeps_texts name) given)

    pub exps : Exs → p.Exps
    exps NoExs = p.NoExps
    exps (MoreExs e es) = p.MoreExps (exp e) (exps es)

    -- the selects behind a value whose bits, or the bits of whose words, are numbered so: the first of a memory of a
    -- number chooses a word
    pub steps : Option ℕ → ℤ × ℤ → Selects → List Step
    steps memory r NoSelects = []
    steps (Some k) r (Index q i others) = Chosen k (exp i) ∷ steps None r others
    steps None r (Index q i others) = bit r (exp i) ∷ steps None (bits_of 1) others
    steps memory r (Range q mark a b others) =
        let w = part_width mark (kept a (exp a)) (kept b (exp b)) in
        part r mark (exp a) (kept a (exp a)) (kept b (exp b)) w ∷ steps None (bits_of w) others

    -- arguments of a system call; keeps tells whether strings stay as they are
    pub args : Bool → Args → p.Args
    args keeps NoArgs = p.NoArgs
    args keeps (NullArg others) = p.NullArg (args keeps others)
    args keeps (MoreArgs e others) = argument keeps e (exp e) (args keeps others)

    -- the value of the first argument
    pub first_of : Place → Args → p.Exp
    first_of at NoArgs = p.Num at 0 1 false
    first_of at (NullArg others) = p.Num at 0 1 false
    first_of at (MoreArgs e others) = exp e

  -- a label of a case: in a casez one that is a number is compared in the bits of its digits (clause 9.5.1)
  abbrev pub label : Bool → Ex → p.Exp
  label true (Number at n) = p.Label at n.value n.care n.width n.signed
  label true (Paren at a) = label true a
  label wild e = exp e

  abbrev pub labels : Bool → Exs → p.Exps
  labels wild NoExs = p.NoExps
  labels wild (MoreExs e es) = p.MoreExps (label wild e) (labels wild es)

  -- ---- the width and the sign of an expression read for itself (clauses 5.4 and 5.5)

  -- the constant that an expression is
  abbrev pub constant : Ex → p.Exp
  constant e = kept e (exp e)

  -- how many bits a select with a mark takes
  abbrev pub taken : SelectMark → Ex → Ex → ℕ
  taken mark l r = part_width mark (constant l) (constant r)

  -- the selects behind a name, and what they leave of its form
  abbrev pub steps_of : Option Binding → Selects → List Step
  steps_of b ss = steps (memory_of b) (range_of b) ss

  abbrev pub named_form : Option Binding → Selects → Form
  named_form b ss = fold step_form (form_of b) (steps_of b ss)

  abbrev pub system_form : List ℕ → Form → Form
  system_form name f =
      if bytes_eq name (codes "$signed") then record { width = f.width; signed = true }
      else if bytes_eq name (codes "$unsigned") then record { width = f.width; signed = false }
      else if bytes_eq name (codes "$time") then unsigned 64
      else record { width = 32; signed = true }

  abbrev mutual
    pub form : Ex → Form
    form (Number at n) = record { width = n.width; signed = n.signed }
    form (Text at text) = text_form text
    form (Named at name ss) = named_form (scope.names name) ss
    form (Paren at a) = form a
    form (Unary at op a) = marked_form (unary_of op) (form a)
    form (Binary at op a b) = binary_form (operation op) (form a) (form b)
    form (Choice at t a b) = joined (form a) (form b)
    form (Joined at es) = unsigned (total_width es)
    form (Repeated at n es) = unsigned (count_of (constant n) * total_width es)
    form (Called at name es) = form_of (scope.calls name)
    form (System at name given) = system_form name (first_form given)

    pub total_width : Exs → ℕ
    total_width NoExs = 0
    total_width (MoreExs e es) = (form e).width + total_width es

    pub first_form : Args → Form
    first_form NoArgs = unsigned 1
    first_form (NullArg others) = unsigned 1
    first_form (MoreArgs e others) = form e
