-- A small design that meets the rules: wire b, c; assign c = b; assign b = a; always @(posedge clk) a <= c;
use Rattle.std.specs.Prelude.{false, [], ◌∷◌, codes}
use Rattle.vl_paths.specs.vl_design.specs.declared.design.SigKind.TheVariants.{Net, Var}
use Rattle.vl_paths.specs.vl_design.specs.declared.design.ProcKind.TheVariants.{Assign}
use Rattle.vl_paths.specs.vl_design.specs.Syntax.{Sig, Whole, Set, Later, Flat}
use Rattle.vl_paths.specs.vl_design.specs.Examples.{row, rise, flat}

-- the first net reads the second
abbrev pub backwards : Flat
backwards = flat (row (codes "m.a") Var 1 false ∷ row (codes "m.b") Net 1 false ∷ row (codes "m.c") Net 1 false ∷ [])
    (record { kind = Assign; events = []; body = Set (Whole 3) (Sig 2) } ∷ record { kind = Assign; events = []; body = Set (Whole 2) (Sig 1) } ∷ rise (Later (Whole 1) (Sig 3)) ∷ [])
