use Rattle.std.proofs.Common.{◌+◌, ◌++◌, [], ◌∷◌, map, sym, ap, ◌∙◌}
use Rattle.host_judge.specs.host_text.specs.declared.block.Reply.{Reply}
use Rattle.host_judge.specs.host_form.specs.Orders.{free_line}
use Rattle.host_report.specs.Ends.{is_refused}
use Rattle.host_outcomes.specs.declared.replies.Lines.{Lines}
use Rattle.host_outcomes.specs.Given.{costs_of, with_reply}
use Rattle.host_outcomes.proofs.Making.{as-made, made-given, made-said}
use Rattle.host_outcomes.proofs.replies.Lines.add.Goals as goal
use Rattle.host_outcomes.proofs.replies.Lines.add.Goals.{in-Some, in-None}

pub returns : goal.returns
returns c = λ rest made.
    let s = c.args.script.now in
    let refused = map is_refused c.args.refusals.now in
    let costs = costs_of c.args.ended.now in
    let answers = c.args.answers.now in
    let before = c.args.self.now in
    let between = c.match-reply_to.self in
    let o = c.args.order.now in
    let line = c.in_ok-line_of.field-0 in
    elim c.match-reply_to.branch [
      | in-Some w ↦ as-made s refused costs answers rest (before.lines.items ++ line ∷ []) c.push.new.self.items before.next between.next
          (c.in_ok-push.ensures.items ∙ ap (λ (x : Lines). x.lines.items ++ line ∷ []) w.self-is)
          (ap (λ (x : Lines). x.next) w.self-is)
          (made-said s refused costs answers before.lines.items before.next o rest made w.in-Some.reply line (sym c.reply_to.ensures ∙ w.in-Some.is)
          (c.in_ok-line_of.ensures ∙ ap (λ (r : Reply). free_line s (with_reply o r)) w.reply-is))
      | in-None w ↦ as-made s refused costs answers rest (before.lines.items ++ line ∷ []) c.push.new.self.items (before.next + 1) between.next
          (c.in_ok-push.ensures.items ∙ ap (λ (x : Lines). x.lines.items ++ line ∷ []) w.self-is ∙ ap (λ ls. ls.items ++ line ∷ []) w.next_reply-reply.ensures.lines)
          (ap (λ (x : Lines). x.next) w.self-is ∙ w.next_reply-reply.ensures.next)
          (made-given s refused costs answers before.lines.items before.next o rest made w.next_reply-reply.result line (sym c.reply_to.ensures ∙ w.in-None.is) w.next_reply-reply.ensures.reply
          (c.in_ok-line_of.ensures ∙ ap (λ (r : Reply). free_line s (with_reply o r)) w.reply-is))
    ]
