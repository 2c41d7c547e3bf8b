use Rattle.std.proofs.Common.{ap, sym, ◌∙◌, arith}
use Rattle.vl_design.specs.Sized.{sized_of, Cat, Rep, Call, node_of}
use Rattle.vl_width.specs.Sizing.{operands_at}
use Rattle.vl_width.specs.Read.{each_at}
use Rattle.vl_width.proofs.Rows.{row-each, alike}
use Rattle.vl_width.proofs.reading.+read.Goals as goal

pub read_each-returns : goal.read_each-returns
read_each-returns t c = alike sized_of each_at _ _ c.loop-i.invariant.many (λ k d h. c.loop-i.invariant.visited k d (omega (arith, c.loop-i.invariant.many, c.len-i-end.ensures, c.args.xs.now.ok.0, c.loop-i.xs.ok.0)))

pub operands_at-returns-in-Cat : goal.operands_at-returns-in-Cat
operands_at-returns-in-Cat t c =
    ap Cat (row-each c.in-Cat.parts c.read_each.new.xs c.read_each.ensures)
    ∙ sym (ap (λ n. operands_at (node_of n) c.args.context) c.in-Cat.is)

pub operands_at-returns-in-Rep : goal.operands_at-returns-in-Rep
operands_at-returns-in-Rep t c =
    ap (Rep c.in-Rep.count) (row-each c.in-Rep.parts c.read_each-in-Rep.new.xs c.read_each-in-Rep.ensures)
    ∙ sym (ap (λ n. operands_at (node_of n) c.args.context) c.in-Rep.is)

pub operands_at-returns-in-Call : goal.operands_at-returns-in-Call
operands_at-returns-in-Call t c =
    ap (Call c.in-Call.function) (row-each c.in-Call.arguments c.read_each-in-Call.new.xs c.read_each-in-Call.ensures)
    ∙ sym (ap (λ n. operands_at (node_of n) c.args.context) c.in-Call.is)
