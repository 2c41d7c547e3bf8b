-- Which system tasks and functions there are, with which arguments, and where they may be called (IEEE 1364-2005, clause 17).
use Rattle.std.specs.Prelude.{ℕ, zero, suc, ◌+◌, ◌-◌, ◌^◌, Bool, true, false, not, ◌&&◌, ◌||◌, if◌then◌else◌, ◌==◌, nat_le, List, [], ◌∷◌, length, Option, Some, None, is_some, codes}
use Rattle.std.specs.List.{list_all}
use Rattle.std.specs.Str.{bytes_eq}
use Rattle.vl_tree.specs.vl_base.specs.declared.number.Number.{Number as Numeral}
use Rattle.vl_tree.specs.vl_base.specs.Display.{format_of, lower_case}
use Rattle.vl_tree.specs.declared.tree.Expression.{Expression}
use Rattle.vl_tree.specs.declared.tree.Identifier.{Identifier}
use Rattle.vl_tree.specs.declared.tree.Primary as p
use Rattle.vl_tree.specs.declared.tree.Primary.{Primary}
use Rattle.vl_tree.specs.declared.tree.SystemArgument.{SystemArgument, out-SystemArgument}
use Rattle.vl_scope.specs.declared.kind.Class.{Class}
use Rattle.vl_scope.specs.declared.kind.Class.TheVariants as c
use Rattle.vl_scope.specs.declared.kind.Kind.{Kind}
use Rattle.vl_uses.specs.declared.setting.Usage.{Usage}
use Rattle.vl_uses.specs.declared.setting.Usage.TheVariants.{Task, Whole, Operand}
use Rattle.vl_uses.specs.Alone.{sole, bare}

-- a digit of the number is z: a bit doesn't count (clause 3.5.1)
abbrev pub has_z : Numeral → Bool
has_z a = not (a.care == 2 ^ a.width - 1)

-- ---- arguments

-- the argument isn't empty
abbrev pub is_given : SystemArgument → Bool
is_given a = is_some (out-SystemArgument a).argument

-- the primary that an argument is, where it is nothing else
abbrev pub sole_in : Option Expression → Option Primary
sole_in None = None
sole_in (Some a) = sole a

-- the primary that an argument is, if it isn't empty
abbrev pub argument_primary : SystemArgument → Option Primary
argument_primary a = sole_in (out-SystemArgument a).argument

-- the bytes of a string
abbrev pub text_in : Option Primary → Option (List ℕ)
text_in (Some (p.Str at text)) = Some text
text_in _ = None

-- the string that an argument is
abbrev pub argument_text : SystemArgument → Option (List ℕ)
argument_text a = text_in (argument_primary a)

-- ---- formats (clause 17.1.1)

-- with one argument more, where the item is one that there is
abbrev pub with_item : Bool → Option ℕ → Option ℕ
with_item true (Some n) = Some (n + 1)
with_item _ _ = None

-- `%%`, and `%m` in either case, show no argument
abbrev pub shows_none : ℕ → Bool
shows_none c = c == 37 || lower_case c == 109

unfoldable mutual
  -- how many arguments the items of a format show, where each item is one that there is
  pub shown_by : List ℕ → Option ℕ
  shown_by [] = Some 0
  shown_by (c ∷ cs) = if c == 37 then shown_after cs else shown_by cs

  -- behind a `%`
  pub shown_after : List ℕ → Option ℕ
  shown_after [] = None
  shown_after (c ∷ cs) = if c == 48 then shown_least cs else if shows_none c then shown_by cs else with_item (is_some (format_of c false)) (shown_by cs)

  -- behind a `%0`
  pub shown_least : List ℕ → Option ℕ
  shown_least [] = None
  shown_least (c ∷ cs) = with_item (is_some (format_of c true)) (shown_by cs)

-- how many arguments behind it an argument shows: a string is a format
abbrev pub shown_of : Option (List ℕ) → Option ℕ
shown_of None = Some 0
shown_of (Some text) = shown_by text

-- so many of the arguments are shown by the format before them, and the formats among the others fit what follows them
unfoldable pub fit : Option ℕ → List SystemArgument → Bool
fit None _ = false
fit (Some zero) [] = true
fit (Some (suc n)) [] = false
fit (Some zero) (a ∷ as') = fit (shown_of (argument_text a)) as'
fit (Some (suc n)) (a ∷ as') = is_given a && fit (Some n) as'

-- the arguments of `$display` and `$write` fit their formats
abbrev pub is_display : Option (List SystemArgument) → Bool
is_display None = true
is_display (Some as') = fit (Some 0) as'

-- ---- the calls

-- the argument, where there is one
abbrev pub one : Option (List SystemArgument) → Option SystemArgument
one (Some (a ∷ [])) = Some a
one _ = None

-- the arguments, where there are two
abbrev pub two : Option (List SystemArgument) → Option (SystemArgument × SystemArgument)
two (Some (a ∷ b ∷ [])) = Some (a, b)
two _ = None

-- the argument is there and is so
abbrev pub one_is : (SystemArgument → Bool) → Option SystemArgument → Bool
one_is is_so None = false
one_is is_so (Some a) = is_so a

-- the arguments are there and are so
abbrev pub two_are : (SystemArgument → SystemArgument → Bool) → Option (SystemArgument × SystemArgument) → Bool
two_are are_so None = false
two_are are_so (Some (a, b)) = are_so a b

-- one argument
abbrev pub is_one : Option (List SystemArgument) → Bool
is_one as' = one_is is_given (one as')

-- no argument, and no parentheses
abbrev pub is_none : Option (List SystemArgument) → Bool
is_none None = true
is_none (Some as') = false

-- the numbers 0, 1 and 2 (clause 17.4.1)
abbrev pub is_level : Option Primary → Bool
is_level (Some (p.Number at a)) = nat_le a.value 2 && not (has_z a)
is_level _ = false

-- arguments of `$finish`: none, or a level (clause 17.4.1)
abbrev pub is_finish : Option (List SystemArgument) → Bool
is_finish None = true
is_finish (Some as') = one_is (λ a. is_level (argument_primary a)) (one (Some as'))

-- letters, digits, `_`, `-` and `.`
abbrev pub is_name_byte : ℕ → Bool
is_name_byte c =
    (nat_le 97 c && nat_le c 122) || (nat_le 65 c && nat_le c 90) || (nat_le 48 c && nat_le c 57)
    || c == 95 || c == 45 || c == 46

-- a name of a snapshot (own)
abbrev pub is_save_name : Option (List ℕ) → Bool
is_save_name None = false
is_save_name (Some text) = nat_le 1 (length text) && nat_le (length text) 32 && list_all is_name_byte text

-- arguments of `$save` (own)
abbrev pub is_save : Option (List SystemArgument) → Bool
is_save as' = one_is (λ a. is_save_name (argument_text a)) (one as')

-- `"r"` and `"rb"` (clause 17.2.1)
abbrev pub is_mode : Option (List ℕ) → Bool
is_mode None = false
is_mode (Some text) = bytes_eq text (codes "r") || bytes_eq text (codes "rb")

-- arguments of `$fopen`: a file's name and a mode (clause 17.2.1)
abbrev pub is_open : Option (List SystemArgument) → Bool
is_open as' = two_are (λ a b. is_some (argument_text a) && is_mode (argument_text b)) (two as')

-- what a bare name means
abbrev pub bare_kind : (List ℕ → Option Kind) → Option Identifier → Option Kind
bare_kind means None = None
bare_kind means (Some n) = means n.name

-- the bare name that an argument is, if it is one
abbrev pub bare_in : Option Expression → Option Identifier
bare_in None = None
bare_in (Some a) = bare a

-- what an argument means that is a bare name
abbrev pub argument_kind : (List ℕ → Option Kind) → SystemArgument → Option Kind
argument_kind means a = bare_kind means (bare_in (out-SystemArgument a).argument)

-- a variable
abbrev pub is_variable_class : Class → Bool
is_variable_class c.Variable = true
is_variable_class _ = false

-- a memory
abbrev pub is_memory_class : Class → Bool
is_memory_class c.Memory = true
is_memory_class _ = false

-- what is named is a memory
abbrev pub is_memory : Option Kind → Bool
is_memory (Some kind) = is_memory_class kind.class
is_memory None = false

-- what is named is a variable
abbrev pub is_variable : Option Kind → Bool
is_variable (Some kind) = is_variable_class kind.class
is_variable None = false

-- a variable and a file (clause 17.2.4.4)
abbrev pub is_read : (List ℕ → Option Kind) → Option (List SystemArgument) → Bool
is_read means as' = two_are (λ a b. is_variable (argument_kind means a) && is_given b) (two as')

-- a file's name and a memory (clause 17.2.8)
abbrev pub is_memory_load : (List ℕ → Option Kind) → Option (List SystemArgument) → Bool
is_memory_load means as' = two_are (λ a b. is_some (argument_text a) && is_memory (argument_kind means b)) (two as')

-- a call that is a statement
abbrev pub is_task : (List ℕ → Option Kind) → List ℕ → Option (List SystemArgument) → Bool
is_task means name as' =
    if bytes_eq name (codes "$display") || bytes_eq name (codes "$write") then is_display as'
    else if bytes_eq name (codes "$finish") then is_finish as'
    else if bytes_eq name (codes "$save") then is_save as'
    else if bytes_eq name (codes "$fread") then is_read means as'
    else if bytes_eq name (codes "$fclose") then is_one as'
    else if bytes_eq name (codes "$readmemh") then is_memory_load means as'
    else false

-- a call in an expression, in an initial or a clocked process or elsewhere
abbrev pub is_operand : Bool → List ℕ → Option (List SystemArgument) → Bool
is_operand timed name as' =
    if bytes_eq name (codes "$signed") || bytes_eq name (codes "$unsigned") then is_one as'
    else if bytes_eq name (codes "$time") then timed && is_none as'
    else false

-- a call of a function on files
abbrev pub is_file_function : (List ℕ → Option Kind) → List ℕ → Option (List SystemArgument) → Bool
is_file_function means name as' =
    if bytes_eq name (codes "$fopen") then is_open as'
    else if bytes_eq name (codes "$fread") then is_read means as'
    else if bytes_eq name (codes "$fgetc") || bytes_eq name (codes "$feof") then is_one as'
    else false

-- a call that is used so, in an initial or a clocked process or elsewhere, is one that there is
abbrev pub is_allowed : (List ℕ → Option Kind) → Bool → Usage → List ℕ → Option (List SystemArgument) → Bool
is_allowed means timed Task name as' = is_task means name as'
is_allowed means timed Whole name as' = is_operand timed name as' || (timed && is_file_function means name as')
is_allowed means timed Operand name as' = is_operand timed name as'
