-- Expressions whose nodes have a width and a sign, as plain trees (IEEE 1364-2005, clauses 5.4 and 5.5).
use Rattle.std.specs.Prelude.{ℕ, ℤ, Bool}
use Rattle.vl_base.specs.declared.bits.UnOp.{UnOp}
use Rattle.vl_base.specs.declared.bits.BinOp.{BinOp}
use Rattle.vl_design.specs.declared.design.LowestBit.{LowestBit}
use Rattle.vl_design.specs.declared.sized.SizedExpr.{SizedExpr}
use Rattle.vl_design.specs.declared.sized.SizedNode as s

mutual
  -- what stands at a width, with a sign
  pub data Sized : Type 0 where
    At : (width : ℕ) (signed : Bool) (node : Node) → Sized

  pub data Node : Type 0 where
    Num : (value width : ℕ) (signed : Bool) → Node
    Label : (value care width : ℕ) (signed : Bool) → Node
    Sig : (signal : ℕ) → Node
    Word : (memory : ℕ) (address : Sized) → Node
    Pick : (base index : Sized) (from : LowestBit) (width : ℕ) → Node
    Slice : (base : Sized) (low : ℤ) (width : ℕ) → Node
    Un : (op : UnOp) (a : Sized) → Node
    Bin : (op : BinOp) (a b : Sized) → Node
    Cond : (test a b : Sized) → Node
    Cat : (parts : Several) → Node
    Rep : (count : ℕ) (parts : Several) → Node
    Cast : (signed : Bool) (a : Sized) → Node
    Call : (function : ℕ) (arguments : Several) → Node
    Time : Node
    LastAnswer : Node

  pub data Several : Type 0 where
    NoneSized : Several
    MoreSized : (e : Sized) (others : Several) → Several

-- the plain tree of a sized expression; a child stands with its width and sign before its node
abbrev mutual
  pub node_of : s.SizedNode → Node
  node_of (s.Num b signed) = Num b.value b.width signed
  node_of (s.Label n) = Label n.value n.care n.width n.signed
  node_of (s.Sig k) = Sig k
  node_of (s.Word' k _ w g a) = Word k (At w g (node_of a))
  node_of (s.Pick' _ bw bg b _ iw ig i from w) = Pick (At bw bg (node_of b)) (At iw ig (node_of i)) from w
  node_of (s.Slice' _ bw bg b low w) = Slice (At bw bg (node_of b)) low w
  node_of (s.Un' op _ w g a) = Un op (At w g (node_of a))
  node_of (s.Bin' op _ aw ag a _ bw bg b) = Bin op (At aw ag (node_of a)) (At bw bg (node_of b))
  node_of (s.Cond' _ tw tg t _ aw ag a _ bw bg b) = Cond (At tw tg (node_of t)) (At aw ag (node_of a)) (At bw bg (node_of b))
  node_of (s.Cat' _ row) = Cat (several_of row)
  node_of (s.Rep' n _ row) = Rep n (several_of row)
  node_of (s.Cast' signed _ w g a) = Cast signed (At w g (node_of a))
  node_of (s.Call' f _ row) = Call f (several_of row)
  node_of s.Time = Time
  node_of (s.Sys call) = LastAnswer

  pub several_of : {m : _} → s.Row_of-SizedExpr m → Several
  several_of s.end_of-SizedExpr = NoneSized
  several_of (s.more_of-SizedExpr w g x rest) = MoreSized (At w g (node_of x)) (several_of rest)

abbrev pub sized_of : SizedExpr → Sized
sized_of x = At x.width x.signed (node_of x.node)
