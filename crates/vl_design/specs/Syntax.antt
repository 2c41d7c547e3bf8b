-- Designs as plain trees: what the definitions compute on. Places are left out (IEEE 1364-2005, clauses 5, 6, 9, 10 and 17).
use Rattle.std.specs.Prelude.{ℕ, ℤ, Bool, List}
use Rattle.vl_base.specs.declared.bits.UnOp.{UnOp}
use Rattle.vl_base.specs.declared.bits.BinOp.{BinOp}
use Rattle.vl_base.specs.Display.{Format}
use Rattle.vl_design.specs.declared.design.SigKind.{SigKind}
use Rattle.vl_design.specs.declared.design.ProcKind.{ProcKind}
use Rattle.vl_design.specs.declared.design.LowestBit.{LowestBit}

-- ---- expressions (IEEE 1364-2005, clause 5)

mutual
  pub data Exp : Type 0 where
    Num : (value width : ℕ) (signed : Bool) → Exp
    -- a label of a casez that is one number: of its bits only those of care are compared
    Label : (value care width : ℕ) (signed : Bool) → Exp
    Sig : (signal : ℕ) → Exp
    -- a word of a memory, by its address
    Word : (memory : ℕ) (address : Exp) → Exp
    -- so many bits from the one on that an index names, or from a constant one on
    Pick : (base index : Exp) (from : LowestBit) (width : ℕ) → Exp
    Slice : (base : Exp) (low : ℤ) (width : ℕ) → Exp
    Un : (op : UnOp) (a : Exp) → Exp
    Bin : (op : BinOp) (a b : Exp) → Exp
    Cond : (test a b : Exp) → Exp
    Cat : (parts : Exps) → Exp
    Rep : (count : ℕ) (parts : Exps) → Exp
    Cast : (signed : Bool) (a : Exp) → Exp
    Call : (function : ℕ) (arguments : Exps) → Exp
    Time : Exp
    -- the answer of the system function called last (own)
    LastAnswer : Exp

  pub data Exps : Type 0 where
    NoExps : Exps
    MoreExps : (e : Exp) (others : Exps) → Exps

-- ---- what an assignment writes (clause 9.2)

mutual
  pub data Target : Type 0 where
    Whole : (signal : ℕ) → Target
    WordAt : (memory : ℕ) (address : Exp) → Target
    PickAt : (base : Target) (index : Exp) (from : LowestBit) (width : ℕ) → Target
    SliceAt : (base : Target) (low : ℤ) (width : ℕ) → Target
    Several : (parts : Targets) → Target

  pub data Targets : Type 0 where
    NoTargets : Targets
    MoreTargets : (t : Target) (others : Targets) → Targets

-- ---- system calls (clause 17)

-- a part of a text to display
pub data Piece : Type 0 where
  Literal : (text : List ℕ) → Piece
  Shown : (format : Format) (e : Exp) → Piece

-- a call that does more than give a value
pub data Task : Type 0 where
  -- `$display`, and `$write` without a newline behind
  Print : (pieces : List Piece) (newline : Bool) → Task
  -- its argument asks for nothing
  Finish : (arguments : Exps) → Task
  Save : (name : List ℕ) → Task
  Fopen : (name : List ℕ) → Task
  Fread : (variable : ℕ) (fd : Exp) → Task
  Fgetc : (fd : Exp) → Task
  Feof : (fd : Exp) → Task
  Fclose : (fd : Exp) → Task
  ReadHex : (name : List ℕ) (memory : ℕ) → Task

-- ---- statements (clause 9)

mutual
  pub data Stm : Type 0 where
    Nop : Stm
    Then : (a b : Stm) → Stm
    If : (test : Exp) (a b : Stm) → Stm
    -- a casez too, whose labels may be `Label`s
    Case : (subject : Exp) (items : Items) → Stm
    For : (variable : ℕ) (start : Stm) (test : Exp) (step body : Stm) → Stm
    Repeat : (count : ℕ) (body : Stm) → Stm
    Set : (target : Target) (source : Exp) → Stm
    Later : (target : Target) (source : Exp) → Stm
    Sys : (task : Task) → Stm

  pub data Items : Type 0 where
    NoItems : Items
    Labelled : (labels : Exps) (body : Stm) (others : Items) → Items
    Default : (body : Stm) (others : Items) → Items

-- ---- designs

-- a signal: its path, width, sign and kind, how many words it has, and the lowest address of a memory
pub record Row : Type 0 where
  pub name : List ℕ
  pub width : ℕ
  pub signed : Bool
  pub kind : SigKind
  pub words : ℕ
  pub lowest : ℤ

-- a function: its inputs and its result, as numbers of signals, its locals and what it does
pub record Fun : Type 0 where
  pub inputs : List ℕ
  pub result : ℕ
  pub locals : List Row
  pub body : Stm

-- what a process waits for: 0 for any change of a signal, 1 for its `posedge`, 2 for its `negedge` (clause 9.7)
pub record Event : Type 0 where
  pub signal : ℕ
  pub edge : ℕ

-- a process: when it runs, the events that it waits for, and what it does
pub record Proc : Type 0 where
  pub kind : ProcKind
  pub events : List Event
  pub body : Stm

-- a design: its signals, functions and processes in text order
pub record Flat : Type 0 where
  pub rows : List Row
  pub funs : List Fun
  pub procs : List Proc
