-- Small sources, and their flat designs, for worked rows.
use Rattle.std.specs.Prelude.{ℕ, ◌-◌, ◌^◌, pos, true, false, List, [], ◌∷◌, Some, None, codes}
use Rattle.vl_design.specs.vl_base.specs.declared.bits.BinOp.TheVariants as op
use Rattle.vl_design.specs.vl_base.specs.declared.number.Number.{Number}
use Rattle.vl_design.specs.vl_base.specs.declared.place.Place.{Place}
use Rattle.vl_tree.specs.declared.tree.Expression.{Expression}
use Rattle.vl_tree.specs.declared.tree.Identifier.{Identifier}
use Rattle.vl_tree.specs.declared.tree.Expression as e
use Rattle.vl_tree.specs.declared.tree.Binary as b
use Rattle.vl_tree.specs.declared.tree.Link as k
use Rattle.vl_tree.specs.declared.tree.Name as n
use Rattle.vl_tree.specs.declared.tree.Primary as x
use Rattle.vl_tree.specs.declared.tree.SystemCall as y
use Rattle.vl_tree.specs.declared.tree.SystemArgument as a
use Rattle.vl_tree.specs.declared.tree.BinaryOperator.{BinaryOperator}
use Rattle.vl_tree.specs.declared.tree.BinaryOperator.TheVariants as o
use Rattle.vl_tree.specs.declared.source_tree.Source.{Source}
use Rattle.vl_tree.specs.declared.source_tree.Module.{Module}
use Rattle.vl_tree.specs.declared.source_tree.Item.{Item}
use Rattle.vl_tree.specs.declared.source_tree.Item.TheVariants as i
use Rattle.vl_tree.specs.declared.source_tree.ParameterType.TheVariants as t
use Rattle.vl_tree.specs.declared.source_tree.Ports.TheVariants as p
use Rattle.vl_tree.specs.declared.source_tree.PortDeclaration.TheVariants as d
use Rattle.vl_tree.specs.declared.source_tree.Direction.TheVariants.{Input}
use Rattle.vl_tree.specs.declared.source_tree.Range.{Range}
use Rattle.vl_tree.specs.declared.source_tree.Trigger.TheVariants as g
use Rattle.vl_tree.specs.declared.source_tree.Edge.TheVariants.{Rising}
use Rattle.vl_tree.specs.declared.source_tree.Connection.TheVariants as c
use Rattle.vl_tree.specs.declared.source_tree.Statement as s
use Rattle.vl_tree.specs.declared.source_tree.Lvalue as l
use Rattle.vl_tree.specs.declared.source_tree.AssignMark.TheVariants.{Blocking, Nonblocking}
use Rattle.vl_design.specs.declared.design.SigKind.{SigKind}
use Rattle.vl_design.specs.declared.design.SigKind.TheVariants.{Var, Clock}
use Rattle.vl_design.specs.declared.design.ProcKind.TheVariants.{Init, Rise}
use Rattle.vl_design.specs.declared.design.Signal.{Signal}
use Rattle.vl_design.specs.Placed as f

-- ---- parts of trees

abbrev pub at : ℕ → ℕ → Place
at line column = record { line = line; column = column }

abbrev pub called : Place → List ℕ → Identifier
called q n = record { place = q; name = n }

-- an expression of one operand, and of two with an operator between them; the trees are written as their data
abbrev pub one : b.Binary → Place → Expression
one two q = e.Expression' q tt (e.more_of-Binary two e.end_of-Binary) e.Expression-choice-None'

abbrev pub alone : Place → x.Primary → Expression
alone q y = one (b.Binary' q q [] tt (k.more_of-Primary y k.end_of-Primary) [] b.end_of-Link) q

abbrev pub joined : Place → x.Primary → BinaryOperator → Place → x.Primary → Expression
joined q y op r z =
    one (b.Binary' q q [] tt (k.more_of-Primary y k.end_of-Primary) (tt ∷ []) (b.more_of-Link op r [] tt (k.more_of-Primary z k.end_of-Primary) b.end_of-Link)) q

-- a plain decimal, and a name without selects
abbrev pub plain : ℕ → Number
plain v = record { value = v; care = 2 ^ 32 - 1; width = 32; sized = false; signed = true }

abbrev pub decimal : Place → ℕ → Expression
decimal q v = alone q (x.Number q (plain v))

abbrev pub name : Place → List ℕ → n.Name
name q t = n.Name' q (called q t) [] n.end_of-Select

abbrev pub named : Place → List ℕ → x.Primary
named q t = x.Name (name q t)

-- a system call of two arguments
abbrev pub argument : Expression → a.SystemArgument
argument f = a.SystemArgument' (a.SystemArgument-argument-Some' f)

abbrev pub system : Place → List ℕ → Expression → Expression → y.SystemCall
system q t f g = y.SystemCall' q t (y.SystemCall-arguments-Some' (tt ∷ tt ∷ []) (y.more_of-SystemArgument (argument f) (y.more_of-SystemArgument (argument g) y.end_of-SystemArgument)))

-- two statements in a block
abbrev pub two : Place → s.Statement → s.Statement → s.Statement
two q a b = s.Block' q (tt ∷ tt ∷ []) (s.more_of-Statement a (s.more_of-Statement b s.end_of-Statement))

abbrev pub range : Place → Place → ℕ → Place → ℕ → Range
range q a left b right = record { place = q; left = decimal a left; right = decimal b right }

-- ---- an instance with an override
-- module inc #(parameter STEP = 2) (input wire clk);
--   reg [7:0] c;
--   initial c = 5;
--   always @(posedge clk) begin
--     $display("%0d", c);
--     c <= c + STEP;
--   end
-- endmodule
-- module top(input wire k);
--   inc #(3) u(.clk(k));
-- endmodule

abbrev pub inc : Module
inc = record {
  place = at 1 1;
  name = called (at 1 8) (codes "inc");
  parameters = Some (record {
    place = at 1 14;
    kind = t.Vector false None;
    assignments = record { place = at 1 24; name = called (at 1 24) (codes "STEP"); value = decimal (at 1 31) 2 } ∷ [];
  } ∷ []);
  ports = Some (p.Declarations (d.Net (at 1 35) Input true false None (called (at 1 46) (codes "clk") ∷ []) ∷ []));
  items =
      i.Reg (at 2 3) false (Some (range (at 2 7) (at 2 8) 7 (at 2 10) 0)) (record { place = at 2 13; name = called (at 2 13) (codes "c"); more = None } ∷ [])
      ∷ i.Initial (at 3 3) (s.Assign (at 3 11) (l.Name (name (at 3 11) (codes "c"))) Blocking (decimal (at 3 15) 5))
      ∷ i.Always (at 4 3) (g.Events (record { place = at 4 12; edge = Some Rising; name = called (at 4 20) (codes "clk") } ∷ [])) (two (at 4 25)
      (s.System (at 5 5) (system (at 5 5) (codes "$display") (alone (at 5 14) (x.Str (at 5 14) (codes "%0d"))) (alone (at 5 21) (named (at 5 21) (codes "c")))))
      (s.Assign (at 6 5) (l.Name (name (at 6 5) (codes "c"))) Nonblocking (joined (at 6 10) (named (at 6 10) (codes "c")) o.Add (at 6 14) (named (at 6 14) (codes "STEP")))))
      ∷ [];
}

abbrev pub top : Module
top = record {
  place = at 9 1;
  name = called (at 9 8) (codes "top");
  parameters = None;
  ports = Some (p.Declarations (d.Net (at 9 12) Input true false None (called (at 9 23) (codes "k") ∷ []) ∷ []));
  items = i.Instance (record {
    place = at 10 3;
    definition = called (at 10 3) (codes "inc");
    overrides = Some (c.Ordered (at 10 8) (Some (decimal (at 10 8) 3)) ∷ []);
    instances = record { place = at 10 11; name = called (at 10 11) (codes "u"); connections = c.Named (at 10 13) (called (at 10 14) (codes "clk")) (Some (alone (at 10 18) (named (at 10 18) (codes "k")))) ∷ [] } ∷ [];
  }) ∷ [];
}

abbrev pub stepped_source : Source
stepped_source = record { place = at 1 1; modules = inc ∷ top ∷ [] }

-- ---- its design

abbrev pub bits : List ℕ → Place → SigKind → ℕ → Signal
bits name q kind left = record { name = name; place = q; kind = kind; signed = false; left = pos left; right = pos 0; first = pos 0; last = pos 0 }

abbrev pub stepped : f.Design
stepped = record {
  top = codes "top";
  signals = bits (codes "top.k") (at 9 23) Clock 0 ∷ bits (codes "top.u.clk") (at 1 46) Clock 0 ∷ bits (codes "top.u.c") (at 2 13) Var 7 ∷ [];
  funcs = [];
  processes =
      record { place = at 3 3; path = codes "top.u"; kind = Init; events = []; body = f.Set (at 3 11) (f.Whole (at 3 11) 2) (f.Num (at 3 15) 5 32 true) }
      ∷ record {
        place = at 4 3;
        path = codes "top.u";
        kind = Rise;
        events = record { place = at 4 12; signal = 1; edge = 1 } ∷ [];
        body = f.Seq (at 4 25) (
            f.MoreStms (f.Task (at 5 5) (codes "$display") (f.TextArg (codes "%0d") (f.ValueArg (f.Sig (at 5 21) 2) f.NoArgs)))
            (f.MoreStms (f.Later (at 6 5) (f.Whole (at 6 5) 2) (f.Bin (at 6 10) op.Add (f.Sig (at 6 10) 2) (f.Num (at 6 14) 3 32 true))) f.NoStms));
      }
      ∷ [];
}

-- ---- a fault in an instance before one that stands earlier in the text
-- module a(input c);
--   reg [128:0] x;
-- endmodule
-- module b(input c);
--   reg [129:0] y;
-- endmodule
-- module m(input k);
--   b u(k);
--   a v(k);
-- endmodule

-- a module of this name on this line, with an input, and with these items
abbrev pub with_input : ℕ → List ℕ → List ℕ → List Item → Module
with_input line t clock items = record {
  place = at line 1;
  name = called (at line 8) t;
  parameters = None;
  ports = Some (p.Declarations (d.Net (at line 10) Input false false None (called (at line 16) clock ∷ []) ∷ []));
  items = items;
}

abbrev pub wide : ℕ → ℕ → List ℕ → Item
wide line left t =
    i.Reg (at line 3) false (Some (range (at line 7) (at line 8) left (at line 12) 0)) (record { place = at line 15; name = called (at line 15) t; more = None } ∷ [])

-- an instance whose one port is connected to the clock k
abbrev pub clocked : ℕ → List ℕ → List ℕ → Item
clocked line definition t = i.Instance (record {
  place = at line 3;
  definition = called (at line 3) definition;
  overrides = None;
  instances = record { place = at line 5; name = called (at line 5) t; connections = c.Ordered (at line 7) (Some (alone (at line 7) (named (at line 7) (codes "k")))) ∷ [] } ∷ [];
})

abbrev pub two_wide : Source
two_wide = record {
  place = at 1 1;
  modules =
      with_input 1 (codes "a") (codes "c") (wide 2 128 (codes "x") ∷ [])
      ∷ with_input 4 (codes "b") (codes "c") (wide 5 129 (codes "y") ∷ [])
      ∷ with_input 7 (codes "m") (codes "k") (clocked 8 (codes "b") (codes "u") ∷ clocked 9 (codes "a") (codes "v") ∷ [])
      ∷ [];
}
