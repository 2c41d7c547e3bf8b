use Rattle.std.proofs.Common.{codes}
use Rattle.host_demo.proofs.Pieces.{six}
use Rattle.host_demo.proofs.source.push_steps.Goals as goal

pub returns : goal.returns
returns c =
    six c.args.text.now.items (codes "  always @(posedge clk) begin\n") (codes "    s <= s * 32'd1664525 + 32'd1013904223;\n") (codes "    m[p] <= m[s[7:0]] ^ s;\n")
    (codes "    p <= p + 1;\n") (codes "    if (p == 8'd255) $display(\"%h\", s);\n") (codes "  end\n")
    c.extend_from_slice.new.self.items c.extend_from_slice-2.new.self.items c.extend_from_slice-3.new.self.items
    c.extend_from_slice-4.new.self.items c.extend_from_slice-5.new.self.items c.extend_from_slice-6.new.self.items
    c.in_ok-extend_from_slice.ensures.items c.in_ok-extend_from_slice-2.ensures.items c.in_ok-extend_from_slice-3.ensures.items
    c.in_ok-extend_from_slice-4.ensures.items c.in_ok-extend_from_slice-5.ensures.items c.in_ok-extend_from_slice-6.ensures.items
