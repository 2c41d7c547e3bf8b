-- Designs as plain trees with the place of each node (IEEE 1364-2005, clause 12): what flattening gives.
use Rattle.std.specs.Prelude.{ℕ, ℤ, Bool, List}
use Rattle.vl_base.specs.declared.bits.UnOp.{UnOp}
use Rattle.vl_base.specs.declared.bits.BinOp.{BinOp}
use Rattle.vl_base.specs.declared.place.Place.{Place}
use Rattle.vl_design.specs.declared.design.ProcKind.{ProcKind}
use Rattle.vl_design.specs.declared.design.LowestBit.{LowestBit}
use Rattle.vl_design.specs.declared.design.Signal.{Signal}
use Rattle.vl_design.specs.declared.design.Event.{Event}

-- ---- expressions (clause 5)

mutual
  pub data Exp : Type 0 where
    Num : (at : Place) (value width : ℕ) (signed : Bool) → Exp
    Label : (at : Place) (value care width : ℕ) (signed : Bool) → Exp
    Sig : (at : Place) (signal : ℕ) → Exp
    Word : (at : Place) (memory : ℕ) (address : Exp) → Exp
    Pick : (at : Place) (base index : Exp) (from : LowestBit) (width : ℕ) → Exp
    Slice : (at : Place) (base : Exp) (low : ℤ) (width : ℕ) → Exp
    Un : (at : Place) (op : UnOp) (a : Exp) → Exp
    Bin : (at : Place) (op : BinOp) (a b : Exp) → Exp
    Cond : (at : Place) (test a b : Exp) → Exp
    Cat : (at : Place) (parts : Exps) → Exp
    Rep : (at : Place) (count : ℕ) (parts : Exps) → Exp
    Cast : (at : Place) (signed : Bool) (a : Exp) → Exp
    Call : (at : Place) (function : ℕ) (arguments : Exps) → Exp
    Time : (at : Place) → Exp
    Sys : (at : Place) (name : List ℕ) (arguments : Args) → Exp

  pub data Exps : Type 0 where
    NoExps : Exps
    MoreExps : (e : Exp) (others : Exps) → Exps

  -- arguments of a system call
  pub data Args : Type 0 where
    NoArgs : Args
    NullArg : (others : Args) → Args
    TextArg : (text : List ℕ) (others : Args) → Args
    ValueArg : (e : Exp) (others : Args) → Args

-- ---- what an assignment writes (clause 9.2)

mutual
  pub data Target : Type 0 where
    Whole : (at : Place) (signal : ℕ) → Target
    WordAt : (at : Place) (memory : ℕ) (address : Exp) → Target
    PickAt : (at : Place) (base : Target) (index : Exp) (from : LowestBit) (width : ℕ) → Target
    SliceAt : (at : Place) (base : Target) (low : ℤ) (width : ℕ) → Target
    Several : (at : Place) (parts : Targets) → Target

  pub data Targets : Type 0 where
    NoTargets : Targets
    MoreTargets : (t : Target) (others : Targets) → Targets

-- ---- statements (clause 9)

mutual
  pub data Stm : Type 0 where
    Nop : (at : Place) → Stm
    Seq : (at : Place) (parts : Stms) → Stm
    If : (at : Place) (test : Exp) (a b : Stm) → Stm
    Case : (at : Place) (subject : Exp) (items : Items) (wild : Bool) → Stm
    For : (at : Place) (variable : ℕ) (start : Stm) (test : Exp) (step body : Stm) → Stm
    Repeat : (at : Place) (count : ℕ) (body : Stm) → Stm
    Set : (at : Place) (target : Target) (source : Exp) → Stm
    Later : (at : Place) (target : Target) (source : Exp) → Stm
    Task : (at : Place) (name : List ℕ) (arguments : Args) → Stm

  pub data Stms : Type 0 where
    NoStms : Stms
    MoreStms : (a : Stm) (others : Stms) → Stms

  pub data Items : Type 0 where
    NoItems : Items
    -- no labels for the default
    MoreItems : (labels : Exps) (body : Stm) (others : Items) → Items

-- ---- designs

pub record Func : Type 0 where
  pub name : List ℕ
  pub place : Place
  pub inputs : List ℕ
  pub result : ℕ
  pub locals : List Signal
  pub body : Stm

pub record Process : Type 0 where
  pub place : Place
  pub path : List ℕ
  pub kind : ProcKind
  pub events : List Event
  pub body : Stm

pub record Design : Type 0 where
  pub top : List ℕ
  pub signals : List Signal
  pub funcs : List Func
  pub processes : List Process
