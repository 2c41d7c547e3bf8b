-- What stands in expressions and statements of a design, each with its place: names that are read, assigned and called,
-- nonblocking assignments and system calls (IEEE 1364-2005, clauses 5, 9, 10.4 and 17).
use Rattle.std.specs.Prelude.{ℕ, Bool, true, false, if◌then◌else◌, ◌==◌, List, [], ◌∷◌, ◌++◌, codes}
use Rattle.std.specs.Str.{bytes_eq}
use Rattle.vl_base.specs.declared.place.Place.{Place}
use Rattle.vl_design.specs.Placed.{Exp, Num, Label, Sig, Word, Pick, Slice, Un, Bin, Cond, Cat, Rep, Cast, Call, Time, Sys, Exps, NoExps, MoreExps, Args, NoArgs, NullArg, TextArg, ValueArg, Target, Whole, WordAt, PickAt, SliceAt, Several, Targets, NoTargets, MoreTargets, Stm, Nop, Seq, If, Case, For, Repeat, Set, Later, Task, Stms, NoStms, MoreStms, Items, NoItems, MoreItems}

pub data What : Type 0 where
  -- the value of a signal is read, or that of a word of a memory
  Reads : (signal : ℕ) → What
  -- an assignment to a signal, or to a word of a memory, nonblocking or not
  Sets : (signal : ℕ) (word later : Bool) → What
  -- an assignment to a variable in the header of a loop that it controls
  Heads : (signal : ℕ) → What
  Calls : (function : ℕ) → What
  -- a nonblocking assignment
  Delays : What
  -- a system call
  Tasks : (name : List ℕ) (given : Args) → What

pub record Site : Type 0 where
  pub at : Place
  pub what : What

abbrev pub site : Place → What → Site
site at what = record { at = at; what = what }

-- ---- system calls

-- what a call writes beside what it reads: the memory that `$readmemh` loads, which it doesn't read, and the variable of
-- `$fread`
abbrev pub is_load : List ℕ → Bool
is_load name = bytes_eq name (codes "$readmemh")

abbrev pub is_fill : List ℕ → Bool
is_fill name = bytes_eq name (codes "$fread")

-- an assignment to a bare name, of a memory or not
abbrev pub bare : Bool → Exp → List Site
bare word (Sig at k) = site at (Sets k word false) ∷ []
bare word e = []

abbrev pub first_bare : Bool → Args → List Site
first_bare word (ValueArg e others) = bare word e
first_bare word given = []

abbrev pub loaded : Args → List Site
loaded (TextArg text others) = first_bare true others
loaded given = []

-- the sites of a call whose arguments read so much
abbrev pub call_sites : List ℕ → Args → List Site → List Site
call_sites name given reads =
    if is_load name then loaded given
    else (if is_fill name then first_bare false given else []) ++ reads

-- ---- expressions

abbrev mutual
  pub exp_sites : Exp → List Site
  exp_sites (Num at v w s) = []
  exp_sites (Label at v care w s) = []
  exp_sites (Sig at k) = site at (Reads k) ∷ []
  exp_sites (Word at m a) = site at (Reads m) ∷ exp_sites a
  exp_sites (Pick at b i from w) = exp_sites b ++ exp_sites i
  exp_sites (Slice at b low w) = exp_sites b
  exp_sites (Un at op a) = exp_sites a
  exp_sites (Bin at op a b) = exp_sites a ++ exp_sites b
  exp_sites (Cond at t a b) = exp_sites t ++ (exp_sites a ++ exp_sites b)
  exp_sites (Cat at es) = exps_sites es
  exp_sites (Rep at n es) = exps_sites es
  exp_sites (Cast at s a) = exp_sites a
  exp_sites (Call at f es) = site at (Calls f) ∷ exps_sites es
  exp_sites (Time at) = []
  exp_sites (Sys at name given) = call_sites name given (args_sites given)

  pub exps_sites : Exps → List Site
  exps_sites NoExps = []
  exps_sites (MoreExps e es) = exp_sites e ++ exps_sites es

  pub args_sites : Args → List Site
  args_sites NoArgs = []
  args_sites (NullArg others) = args_sites others
  args_sites (TextArg text others) = args_sites others
  args_sites (ValueArg e others) = exp_sites e ++ args_sites others

-- ---- left sides

abbrev mutual
  pub target_sites : Bool → Target → List Site
  target_sites later (Whole at k) = site at (Sets k false later) ∷ []
  target_sites later (WordAt at m a) = site at (Sets m true later) ∷ exp_sites a
  target_sites later (PickAt at b i from w) = target_sites later b ++ exp_sites i
  target_sites later (SliceAt at b low w) = target_sites later b
  target_sites later (Several at ts) = targets_sites later ts

  pub targets_sites : Bool → Targets → List Site
  targets_sites later NoTargets = []
  targets_sites later (MoreTargets t ts) = target_sites later t ++ targets_sites later ts

-- ---- statements

-- an assignment to a loop's variable whole, as a header has it
abbrev pub is_head : ℕ → Stm → Bool
is_head k (Set at (Whole q j) x) = j == k
is_head k a = false

abbrev pub header_sites : Stm → List Site
header_sites (Set at (Whole q j) x) = site q (Heads j) ∷ exp_sites x
header_sites a = []

-- a statement of a header, that is one like any other where it isn't so
abbrev pub head_sites : ℕ → Stm → List Site → List Site
head_sites k a others = if is_head k a then header_sites a else others

abbrev mutual
  pub sites : Stm → List Site
  sites (Nop at) = []
  sites (Seq at as') = all_sites as'
  sites (If at t a b) = exp_sites t ++ (sites a ++ sites b)
  sites (Case at x is wild) = exp_sites x ++ items_sites is
  sites (For at k start test step a) = head_sites k start (sites start) ++ (exp_sites test ++ (head_sites k step (sites step) ++ sites a))
  sites (Repeat at n a) = sites a
  sites (Set at t x) = target_sites false t ++ exp_sites x
  sites (Later at t x) = site at Delays ∷ (target_sites true t ++ exp_sites x)
  sites (Task at name given) = site at (Tasks name given) ∷ call_sites name given (args_sites given)

  pub all_sites : Stms → List Site
  all_sites NoStms = []
  all_sites (MoreStms a as') = sites a ++ all_sites as'

  pub items_sites : Items → List Site
  items_sites NoItems = []
  items_sites (MoreItems es a others) = exps_sites es ++ (sites a ++ items_sites others)
