use Rattle.std.proofs.Common.{◌≡◌, ◌++◌, List, ℕ, length, codes, ap, ◌∙◌}
use Rattle.std.specs.Fmt.{decimal}
use Rattle.host_text.specs.Report.{title}
use Rattle.host_text.proofs.Pieces.{three_numbers}
use Rattle.host_text.proofs.report.push_head.Goals as goal

pub returns : goal.returns
returns c =
    let a = c.args.block.now in
    three_numbers c.args.text.now.items (title a) (codes " ") (decimal a.ticks) (decimal a.cycles) (decimal (length a.printed)) (codes "\n")
    c.push_title.new.text.items c.push_number.new.text.items c.push_number-2.new.text.items c.push_number-3.new.text.items c.extend_from_slice.new.self.items
    c.in_ok-push_title.ensures c.in_ok-push_number.ensures c.in_ok-push_number-2.ensures
    (c.in_ok-push_number-3.ensures ∙ ap (λ (p : List ℕ). (c.push_number-2.new.text.items ++ codes " ") ++ decimal (length p)) c.as_slice.ensures)
    c.in_ok-extend_from_slice.ensures.items
