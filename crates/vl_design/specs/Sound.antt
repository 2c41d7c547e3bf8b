-- Sound designs: in each function, process and event a number names what it is to name, widths are from 1 to 128, a call of
-- a function has as many arguments as the function has inputs, and selects in a target stand on a variable or a word
-- (IEEE 1364-2005, clauses 5.2, 9.2 and 10.4).
use Rattle.std.specs.Prelude.{◌≡◌, ℕ, ◌+◌, ◌*◌, ◌^◌, ◌<◌, ◌≤◌, length, ⊤, All, slice_get, Option, Some, None}
use Rattle.vl_design.specs.declared.design.SigKind.{SigKind}
use Rattle.vl_design.specs.declared.design.SigKind.TheVariants.{Mem}
use Rattle.vl_design.specs.Syntax.{Exp, Num, Label, Sig, Word, Pick, Slice, Un, Bin, Cond, Cat, Rep, Cast, Call, Time, LastAnswer, Exps, NoExps, MoreExps, Target, Whole, WordAt, PickAt, SliceAt, Several, Targets, NoTargets, MoreTargets, Piece, Literal, Shown, Task, Print, Finish, Save, Fopen, Fread, Fgetc, Feof, Fclose, ReadHex, Stm, Nop, Then, If, Case, For, Repeat, Set, Later, Sys, Items, NoItems, Labelled, Default, Row, Fun, Proc, Flat}
use Rattle.vl_design.specs.Width.{Names, names_in, names_of, total_width, result_form}
use Rattle.vl_design.specs.Targets.{targets_width}

-- a width of 1 to 128
pub record IsWidth (w : ℕ) : Type 0 where
  pub wide : 1 ≤ w
  pub narrow : w ≤ 128

-- ---- what a number names

abbrev pub IsOf : (SigKind → Type 0) → Option Row → Type 0
IsOf P None = ⊥
IsOf P (Some r) = P r.kind × IsWidth r.width

-- a kind of signal that has a value: one word
abbrev pub HasValue : SigKind → Type 0
HasValue Mem = ⊥
HasValue k = ⊤

abbrev pub IsMem : SigKind → Type 0
IsMem Mem = ⊤
IsMem k = ⊥

-- a net, a variable or a local, whose value can be read or written
abbrev pub IsSignal : Names → ℕ → Type 0
IsSignal names k = IsOf HasValue (slice_get names.rows k)

-- a signal of any kind
abbrev pub IsNamed : Names → ℕ → Type 0
IsNamed names k = IsOf (λ kind. ⊤) (slice_get names.rows k)

abbrev pub IsMemory : Names → ℕ → Type 0
IsMemory names m = IsOf IsMem (slice_get names.rows m)

abbrev pub count_of : Exps → ℕ
count_of NoExps = 0
count_of (MoreExps e es) = 1 + count_of es

-- there is a function with so many inputs
abbrev pub Takes : Option Fun → ℕ → Type 0
Takes None n = ⊥
Takes (Some f) n = n ≡ length f.inputs

-- ---- expressions

abbrev mutual
  pub IsSoundExp : Names → Exp → Type 0
  IsSoundExp names (Num v w s) = IsWidth w × (v < 2 ^ w)
  IsSoundExp names (Label v care w s) = IsWidth w × (v < 2 ^ w) × (care < 2 ^ w)
  IsSoundExp names (Sig k) = IsSignal names k
  IsSoundExp names (Word m a) = IsMemory names m × IsSoundExp names a
  IsSoundExp names (Pick b i from w) = IsWidth w × IsSoundExp names b × IsSoundExp names i
  IsSoundExp names (Slice b low w) = IsWidth w × IsSoundExp names b
  IsSoundExp names (Un op a) = IsSoundExp names a
  IsSoundExp names (Bin op a b) = IsSoundExp names a × IsSoundExp names b
  IsSoundExp names (Cond t a b) = IsSoundExp names t × IsSoundExp names a × IsSoundExp names b
  IsSoundExp names (Cat es) = IsWidth (total_width names es) × AreSound names es
  IsSoundExp names (Rep n es) = IsWidth (n * total_width names es) × AreSound names es
  IsSoundExp names (Cast s a) = IsSoundExp names a
  IsSoundExp names (Call f es) = Takes (slice_get names.funs f) (count_of es) × IsWidth (result_form names f).width × AreSound names es
  IsSoundExp names Time = ⊤
  IsSoundExp names LastAnswer = ⊤

  pub AreSound : Names → Exps → Type 0
  AreSound names NoExps = ⊤
  AreSound names (MoreExps e es) = IsSoundExp names e × AreSound names es

-- ---- targets and system calls

-- a variable, or a word of a memory
abbrev pub IsSoundBase : Names → Target → Type 0
IsSoundBase names (Whole k) = IsSignal names k
IsSoundBase names (WordAt m a) = IsMemory names m × IsSoundExp names a
IsSoundBase names t = ⊥

abbrev mutual
  pub IsSoundTarget : Names → Target → Type 0
  IsSoundTarget names (Whole k) = IsSignal names k
  IsSoundTarget names (WordAt m a) = IsMemory names m × IsSoundExp names a
  IsSoundTarget names (PickAt b i from w) = IsWidth w × IsSoundBase names b × IsSoundExp names i
  IsSoundTarget names (SliceAt b low w) = IsWidth w × IsSoundBase names b
  IsSoundTarget names (Several ts) = IsWidth (targets_width names ts) × AreSoundTargets names ts

  pub AreSoundTargets : Names → Targets → Type 0
  AreSoundTargets names NoTargets = ⊤
  AreSoundTargets names (MoreTargets t ts) = IsSoundTarget names t × AreSoundTargets names ts

abbrev pub IsSoundPiece : Names → Piece → Type 0
IsSoundPiece names (Literal text) = ⊤
IsSoundPiece names (Shown format e) = IsSoundExp names e

abbrev pub IsSoundTask : Names → Task → Type 0
IsSoundTask names (Print pieces newline) = All (IsSoundPiece names) pieces
IsSoundTask names (Finish es) = AreSound names es
IsSoundTask names (Save name) = ⊤
IsSoundTask names (Fopen name) = ⊤
IsSoundTask names (Fread k fd) = IsSignal names k × IsSoundExp names fd
IsSoundTask names (Fgetc fd) = IsSoundExp names fd
IsSoundTask names (Feof fd) = IsSoundExp names fd
IsSoundTask names (Fclose fd) = IsSoundExp names fd
IsSoundTask names (ReadHex name m) = IsMemory names m

-- ---- statements

abbrev mutual
  pub IsSoundStm : Names → Stm → Type 0
  IsSoundStm names Nop = ⊤
  IsSoundStm names (Then a b) = IsSoundStm names a × IsSoundStm names b
  IsSoundStm names (If t a b) = IsSoundExp names t × IsSoundStm names a × IsSoundStm names b
  IsSoundStm names (Case e items) = IsSoundExp names e × AreSoundItems names items
  -- of the variable of a loop only the number is used, of whatever kind it is
  IsSoundStm names (For k start test step a) = IsNamed names k × IsSoundStm names start × IsSoundExp names test × IsSoundStm names step × IsSoundStm names a
  IsSoundStm names (Repeat n a) = IsSoundStm names a
  IsSoundStm names (Set t e) = IsSoundTarget names t × IsSoundExp names e
  IsSoundStm names (Later t e) = IsSoundTarget names t × IsSoundExp names e
  IsSoundStm names (Sys task) = IsSoundTask names task

  pub AreSoundItems : Names → Items → Type 0
  AreSoundItems names NoItems = ⊤
  AreSoundItems names (Labelled es a others) = AreSound names es × IsSoundStm names a × AreSoundItems names others
  AreSoundItems names (Default a others) = IsSoundStm names a × AreSoundItems names others

-- ---- designs

pub record IsSoundFun (names : Names) (f : Fun) : Type 0 where
  pub inputs : All (IsSignal (names_in names f)) f.inputs
  pub result : IsSignal (names_in names f) f.result
  pub body : IsSoundStm (names_in names f) f.body

pub record IsSoundProc (names : Names) (p : Proc) : Type 0 where
  pub events : All (λ e. IsNamed names e.signal) p.events
  pub body : IsSoundStm names p.body

-- each function and each process of the design is sound
pub record IsSound (d : Flat) : Type 0 where
  pub funs : All (IsSoundFun (names_of d)) d.funs
  pub procs : All (IsSoundProc (names_of d)) d.procs
