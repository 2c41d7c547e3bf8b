use Rattle.std.proofs.Common.{codes}
use Rattle.std.specs.Fmt.{decimal}
use Rattle.host_demo.proofs.Pieces.{seven}
use Rattle.host_demo.proofs.source.push_declarations.Goals as goal

pub returns : goal.returns
returns c =
    seven c.args.text.now.items (codes "  reg [31:0] s = ") (decimal c.args.number) (codes ";\n")
    (codes "  reg [7:0] p = 0;\n  reg [31:0] m [0:255];\n  integer k;\n")
    (codes "  initial for (k = 0; k < 256; k = k + 1) m[k] = k * ") (decimal c.args.number) (codes ";\n")
    c.extend_from_slice.new.self.items c.push_number.new.text.items c.extend_from_slice-2.new.self.items
    c.extend_from_slice-3.new.self.items c.extend_from_slice-4.new.self.items c.push_number-2.new.text.items c.extend_from_slice-5.new.self.items
    c.in_ok-extend_from_slice.ensures.items c.in_ok-push_number.ensures c.in_ok-extend_from_slice-2.ensures.items
    c.in_ok-extend_from_slice-3.ensures.items c.in_ok-extend_from_slice-4.ensures.items c.in_ok-push_number-2.ensures c.in_ok-extend_from_slice-5.ensures.items
